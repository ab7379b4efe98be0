-- The tests of 5 to 8 in words: for each kind of line, its test passes if and only if its numbers are within what the job has.
-- Assumes nothing.
use Prim.Native.Nat.{ℕ, zero, suc, ◌+◌, ◌^◌, ◌≤◌, ◌<◌}
use mathlib.Core.Path.{◌≡◌, refl, sym}
use mathlib.Core.Logic.{◌↔◌, ◌⊎◌, inl, inr, ⊎_elim}
use mathlib.Core.Bool.{Bool, true, ◌&&◌, ◌||◌, and-eq-true_iff, true≢false}
use mathlib.Core.List.{List, [], ◌∷◌}
use native.Mathlib.Omega.{arith}
use lib.Dec.{eqb, leb, ltb}
use borrow.Author.Tests.{eq-eqb, le-leb, lt-ltb, eqb-true, leb-true, ltb-true}
use Rattle.laws.specs.Bounded.{all_below}
use Rattle.laws.specs.Bits.{has}
use Rattle.laws.proofs.Tests.{or_passes, or_left, or_right}
use Rattle.laws.proofs.Bounded.{all_at, all_of}
use Rattle.laws.proofs.Bits.{below_says}
use Rattle.lines.specs.Line.{at}
use Rattle.lines.proofs.SpelledLine.{all_three}
use Rattle.jobfile.specs.File.{good_head, good_rule, good_value, good_node, ascends, good_edge}
use Rattle.jobfile.specs.Refusal.{HeadWithin, RuleWithin, NodeWithin, EdgeWithin, TestsSay}

-- six tests joined by `and`
all_six
    : (t u v w x y : Bool)
    → ((t && u && v && w && x && y) ≡ true)
    ↔ ((t ≡ true) × (u ≡ true) × (v ≡ true) × (w ≡ true) × (x ≡ true) × (y ≡ true))
all_six t u v w x y = (
  λ h.
      let (three, p, q) = (all_three (t && u && v && w) x y).0 h in
      let (two, r, s) = (all_three (t && u) v w).0 three in
      let one = (and-eq-true_iff t u).0 two in
      (one.0, one.1, r, s, p, q),
  λ s. rw (s.0, s.1, s.2, s.3, s.4, s.5),
)

-- ---- the four kinds

-- J lines
pub head_says
    : (i : ℕ) (before ns : List ℕ) → (good_head i before ns ≡ true) ↔ HeadWithin (at ns 0) (at ns 1) (at ns 2) (at ns 3)
head_says i before ns = (
  λ t.
      let last =
      (and-eq-true_iff
      (leb 1 (at ns 0) && leb (at ns 0) 16 && leb 1 (at ns 1) && leb (at ns 1) 16 && leb 1 (at ns 2) && leb (at ns 2) 512)
      (leb (at ns 3) 2048)).0 t in
      let (s₁, s₂, a₁, a₂, n₁, n₂) =
      (all_six (leb 1 (at ns 0)) (leb (at ns 0) 16) (leb 1 (at ns 1)) (leb (at ns 1) 16) (leb 1 (at ns 2)) (leb (at ns 2) 512)).0
      last.0 in
      record {
        some_state = leb-true 1 (at ns 0) s₁;
        few_states = leb-true (at ns 0) 16 s₂;
        some_symbol = leb-true 1 (at ns 1) a₁;
        few_symbols = leb-true (at ns 1) 16 a₂;
        some_node = leb-true 1 (at ns 2) n₁;
        few_nodes = leb-true (at ns 2) 512 n₂;
        few_edges = leb-true (at ns 3) 2048 last.1;
      },
  λ w.
      rw (
        le-leb 1 (at ns 0) w.some_state,
        le-leb (at ns 0) 16 w.few_states,
        le-leb 1 (at ns 1) w.some_symbol,
        le-leb (at ns 1) 16 w.few_symbols,
        le-leb 1 (at ns 2) w.some_node,
        le-leb (at ns 2) 512 w.few_nodes,
        le-leb (at ns 3) 2048 w.few_edges,
      ),
)

-- R lines
pub rule_says : (s a i : ℕ) (before ns : List ℕ) → (good_rule s a i before ns ≡ true) ↔ RuleWithin s a i ns
rule_says s a i before ns = (
  λ t.
      let (state, final, next) = (all_three (eqb (at ns 0) i) (leb (at ns 1) 1) (all_below a (λ c. ltb (at ns (c + 2)) s))).0 t in
      record {
        state = eqb-true (at ns 0) i state;
        final = leb-true (at ns 1) 1 final;
        next = λ c h. ltb-true (at ns (c + 2)) s (all_at a (λ c. ltb (at ns (c + 2)) s) next c h);
      },
  λ w.
      (all_three (eqb (at ns 0) i) (leb (at ns 1) 1) (all_below a (λ c. ltb (at ns (c + 2)) s))).1 (
        eq-eqb (at ns 0) i w.state,
        le-leb (at ns 1) 1 w.final,
        all_of a (λ c. ltb (at ns (c + 2)) s) (λ c h. lt-ltb (at ns (c + 2)) s (w.next c h)),
      ),
)

-- the set of a call
set_says : (a v : ℕ) → (ltb v (2 ^ a) ≡ true) ↔ ((q : ℕ) → has v q ≡ true → q < a)
set_says a v = (λ t. (below_says a v).0 (ltb-true v (2 ^ a) t), λ w. lt-ltb v (2 ^ a) ((below_says a v).1 w))

-- the value of a P line, by its kind
pub value_says
    : (a k v : ℕ)
    → (good_value a k v ≡ true)
    ↔ ((k ≤ 3) × (k ≡ 0 → v ≡ 0) × (k ≡ 1 → v < a) × (2 ≤ k → (q : ℕ) → has v q ≡ true → q < a))
value_says a zero v = (
  λ t. (omega arith, λ e. eqb-true v 0 t, λ e. absurd (omega arith), λ e. absurd (omega arith)),
  λ w. eq-eqb v 0 (w.1 refl),
)
value_says a (suc zero) v = (
  λ t. (omega arith, λ e. absurd (omega arith), λ e. ltb-true v a t, λ e. absurd (omega arith)),
  λ w. lt-ltb v a (w.2 refl),
)
value_says a (suc (suc zero)) v = (
  λ t. (omega arith, λ e. absurd (omega arith), λ e. absurd (omega arith), λ e. (set_says a v).0 t),
  λ w. (set_says a v).1 (w.3 (omega arith)),
)
value_says a (suc (suc (suc zero))) v = (
  λ t. (omega arith, λ e. absurd (omega arith), λ e. absurd (omega arith), λ e. (set_says a v).0 t),
  λ w. (set_says a v).1 (w.3 (omega arith)),
)
value_says a (suc (suc (suc (suc k)))) v = (λ t. absurd (true≢false (sym t)), λ w. absurd (omega (arith, w.0)))

-- the after set of a P line, by its exit mark
after_says : (x f : ℕ) → x ≤ 1 → ((eqb x 1 || eqb f 0) ≡ true) ↔ (x ≡ 0 → f ≡ 0)
after_says zero f h = (λ t e. eqb-true f 0 t, λ w. eq-eqb f 0 (w refl))
after_says (suc zero) f h = (λ t e. absurd (omega arith), λ w. refl)
after_says (suc (suc x)) f h = absurd (omega arith)

-- P lines
pub node_says : (s a i : ℕ) (before ns : List ℕ) → (good_node s a i before ns ≡ true) ↔ NodeWithin s a i ns
node_says s a i before ns = (
  λ t.
      let (node, value, entry, exit, after, none) =
      (all_six (eqb (at ns 0) i) (good_value a (at ns 1) (at ns 2)) (ltb (at ns 3) (2 ^ s)) (leb (at ns 4) 1)
      (ltb (at ns 5) (2 ^ a)) (eqb (at ns 4) 1 || eqb (at ns 5) 0)).0 t in
      let (kind, plain, symbol, set) = (value_says a (at ns 1) (at ns 2)).0 value in
      let mark = leb-true (at ns 4) 1 exit in
      record {
        node = eqb-true (at ns 0) i node;
        kind = kind;
        plain_value = plain;
        symbol = symbol;
        call_set = set;
        entry_set = (below_says s (at ns 3)).0 (ltb-true (at ns 3) (2 ^ s) entry);
        exit_mark = mark;
        after_set = (below_says a (at ns 5)).0 (ltb-true (at ns 5) (2 ^ a) after);
        no_after = (after_says (at ns 4) (at ns 5) mark).0 none;
      },
  λ w.
      (all_six (eqb (at ns 0) i) (good_value a (at ns 1) (at ns 2)) (ltb (at ns 3) (2 ^ s)) (leb (at ns 4) 1) (ltb (at ns 5) (2 ^ a))
      (eqb (at ns 4) 1 || eqb (at ns 5) 0)).1 (
        eq-eqb (at ns 0) i w.node,
        (value_says a (at ns 1) (at ns 2)).1 (w.kind, w.plain_value, w.symbol, w.call_set),
        lt-ltb (at ns 3) (2 ^ s) ((below_says s (at ns 3)).1 w.entry_set),
        le-leb (at ns 4) 1 w.exit_mark,
        lt-ltb (at ns 5) (2 ^ a) ((below_says a (at ns 5)).1 w.after_set),
        (after_says (at ns 4) (at ns 5) w.exit_mark).1 w.no_after,
      ),
)

-- an F line after the one before
ascends_says
    : (before ns : List ℕ)
    → (ascends before ns ≡ true)
    ↔ ((before ≡ []) ⊎ ((at before 0 < at ns 0) ⊎ ((at before 0 ≡ at ns 0) × (at before 1 < at ns 1))))
ascends_says [] ns = (λ t. inl refl, λ w. refl)
ascends_says (m ∷ ms) ns = (
  λ t.
      ⊎_elim
      (λ (h : ltb m (at ns 0) ≡ true). inr (inl (ltb-true m (at ns 0) h)))
      (λ (h : (eqb m (at ns 0) && ltb (at ms 0) (at ns 1)) ≡ true).
      let both = (and-eq-true_iff (eqb m (at ns 0)) (ltb (at ms 0) (at ns 1))).0 h in
      inr (inr (eqb-true m (at ns 0) both.0, ltb-true (at ms 0) (at ns 1) both.1)))
      (or_passes (ltb m (at ns 0)) (eqb m (at ns 0) && ltb (at ms 0) (at ns 1)) t),
  λ w. from w,
)
  where
    from
        : (m ∷ ms ≡ []) ⊎ ((m < at ns 0) ⊎ ((m ≡ at ns 0) × (at ms 0 < at ns 1)))
        → (ltb m (at ns 0) || (eqb m (at ns 0) && ltb (at ms 0) (at ns 1))) ≡ true
    from (inl e) = let z : ◌≡◌ {A = ℕ} 0 1 = cc in absurd (omega arith)
    from (inr (inl l)) = or_left (ltb m (at ns 0)) (eqb m (at ns 0) && ltb (at ms 0) (at ns 1)) (lt-ltb m (at ns 0) l)
    from (inr (inr both)) =
        or_right (ltb m (at ns 0)) (eqb m (at ns 0) && ltb (at ms 0) (at ns 1))
        (rw (eq-eqb m (at ns 0) both.0, lt-ltb (at ms 0) (at ns 1) both.1))

-- F lines
pub edge_says : (n i : ℕ) (before ns : List ℕ) → (good_edge n i before ns ≡ true) ↔ EdgeWithin n before ns
edge_says n i before ns = (
  λ t.
      let (from, to, next) = (all_three (ltb (at ns 0) n) (ltb (at ns 1) n) (ascends before ns)).0 t in
      record {
        from = ltb-true (at ns 0) n from;
        to = ltb-true (at ns 1) n to;
        ascends = (ascends_says before ns).0 next;
      },
  λ w.
      (all_three (ltb (at ns 0) n) (ltb (at ns 1) n) (ascends before ns)).1
      (lt-ltb (at ns 0) n w.from, lt-ltb (at ns 1) n w.to, (ascends_says before ns).1 w.ascends),
)

-- all four
pub tests_say : TestsSay
tests_say = record { head = head_says; rule = rule_says; node = node_says; edge = edge_says }
