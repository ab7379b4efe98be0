-- Laws of settling what comes back in.
-- Assumes nothing.
use mathlib.Core.Path.{◌≡◌, sym, ap, ◌∙◌}
use mathlib.Core.Logic.{⊎_elim}
use mathlib.Core.Bool.{true, false, true≢false, false≢true}
use mathlib.Core.List.{List}
use Prim.Native.Nat.{ℕ, ◌≤◌, ◌<◌}
use native.Mathlib.Omega.{arith}
use lib.Dec.{ltb}
use borrow.Author.Tests.{ltb-true, ltb-false}
use Rattle.laws.specs.Bounded.{any_below}
use Rattle.laws.specs.Bits.{has}
use Rattle.laws.proofs.Bounded.{any_none_at}
use Rattle.laws.proofs.Bits.{has_empty}
use Rattle.job.proofs.Nodes.{spelt_map}
use Rattle.job.specs.Job.{is_reentrant, is_entry, Job, Node, node_at}
use Rattle.job.specs.Plan.{enables}
use Rattle.job.specs.Words.{Spelt}
use Rattle.buffer.specs.Views.{node_in, marks_in, marked_in, pair_row_in, Held}
use Rattle.tables.specs.Tables.{pairs_left, Grown, NextMarked}
use Rattle.tables.specs.Held.{Usable, JobHeld, PlanHeld}
use Rattle.tables.specs.Sixteen.{InRows}
use Rattle.tables.proofs.KeptLaws.{search_kept_none, grown_both, node_same}
use Rattle.look.specs.Looking.{by_entry, by_return}
use Rattle.rounds.specs.Rounds.{Following, held_first, follows, Settled}
use Rattle.rounds.proofs.RoundLaws.{closed_pair_kept, member_same}
use Rattle.relation.specs.Union.{Below}
use Rattle.exitrows.specs.Ended.{PastHeld, EndedAt, ExitRows}
use Rattle.exitrows.proofs.EndedLaws.{spelt_start}
use Rattle.reentry.specs.Reentry.{JoinedWhere, EnteringRows}
use Rattle.returns.specs.CameBack.{NoMarks, CameBackAt}

-- ---- no call may come back in

-- nothing is joined
pub none_back
    : (table : List (List ℕ)) (finals states nodes : ℕ) (l : List ℕ) → NoMarks l nodes
    → any_below nodes (λ n. is_reentrant (node_in l n).kind) ≡ false → CameBackAt table finals states nodes l l false
none_back table finals states nodes l unmarked none = record {
  kept = search_kept_none l;
  held = λ n p q a b h. h;
  left = λ e. absurd (false≢true e);
  none = λ e. unmarked;
  exact = λ j plan held planned. record {
    new = λ n p q a b h. held_first a b h;
    settled = λ s. s;
    over = λ e. record {
      enters = λ k n p q lk ln r t lp h. absurd (no_call held k lk r);
      returns = λ k n p q lk ln e r lp x. absurd (no_call held n ln r);
    };
  };
}
  where
    no_call : {j : Job} → JobHeld j l table finals states nodes → (n : ℕ) → n < nodes → is_reentrant (node_at j n).kind ≡ true → ⊥
    no_call held n ln r =
        true≢false
        (sym r ∙ ap (λ (x : Node). is_reentrant x.kind) (sym (held.node n ln))
        ∙ any_none_at nodes (λ (i : ℕ). is_reentrant (node_in l i).kind) none n ln)

-- ---- what the two joins leave

module _ {table : List (List ℕ)} {finals states nodes : ℕ} {l m k : List ℕ} {back again : List ℕ} {next : ℕ}
    (u : Usable l table states nodes) (unmarked : NoMarks l nodes) (exits : ExitRows table finals nodes l back)
    (first : JoinedWhere (λ n. is_reentrant (node_in l n).kind) l m nodes back) (calls : EnteringRows m nodes again)
    (second : JoinedWhere (λ n. is_entry (node_in m n)) m k nodes again) (found : NextMarked k 0 nodes next) where
  -- both together
  grown : Grown l k
  grown = grown_both first.grown second.grown

  -- where a row is marked, less is left
  less : next < nodes → pairs_left k < pairs_left l
  less some =
      ⊎_elim
      (λ (same : k ≡ l).
      absurd
      (omega (arith, found.some some, ap (λ (x : List ℕ). marks_in x next) same, unmarked next some)))
      (λ (x : pairs_left k < pairs_left l). x)
      grown.less

  -- where none is, a row is as it was
  quiet : nodes ≤ next → (n p : ℕ) → n < nodes → marked_in k n p ≡ false
  quiet all n p ln = ap (λ (x : ℕ). has x p) (found.none n (omega arith) (omega arith)) ∙ has_empty p

  -- a node is one of 512
  few : {n : ℕ} → n < nodes → n < 512
  few ln = omega (arith, u.few_nodes)

  module _ {j : Job} (held : JobHeld j l table finals states nodes) (plan : List ℕ) (planned : PlanHeld plan l nodes) where
    -- a node of the job, after the first join
    node_then : (n : ℕ) → n < nodes → node_in m n ≡ node_at j n
    node_then n ln = node_same first.grown.kept n (few ln) ∙ held.node n ln

    -- what the words after an exit lead to follows
    return_follows
        : (n p q : ℕ) → is_reentrant (node_at j n).kind ≡ true → Below (EndedAt j (enables plan) l) nodes p q
        → Following j (enables plan) l n p q
    return_follows n p q r x =
        let f = spelt_start x.holds.word in
        let y = f.2 in
        follows (held_first (few x.below) y.below y.holds.from)
        (by_return x.holds.exit r (spelt_map (λ a b e. (e.0 ∙ y.holds.one_is, e.1 ∙ y.holds.other_is)) f.3))

    -- what is held after the first join follows
    new_then : (n p q : ℕ) → n < 512 → p < 16 → Held m n p q → Following j (enables plan) l n p q
    new_then n p q ln lp h =
        ⊎_elim
        (λ (old : Held l n p q). held_first ln lp old)
        (λ (fresh : (n < nodes) × (is_reentrant (node_in l n).kind ≡ true) × InRows back p q).
        return_follows n p q
        (ap (λ (x : Node). is_reentrant x.kind) (sym (held.node n fresh.0)) ∙ fresh.1)
        ((exits j plan states held planned p q lp).0 fresh.2))
        (first.new n p q ln lp h)

    -- and so is what is held at the end
    new_back : (n p q : ℕ) → n < 512 → p < 16 → Held k n p q → Following j (enables plan) l n p q
    new_back n p q ln lp h =
        ⊎_elim
        (λ (old : Held m n p q). new_then n p q ln lp old)
        (λ (fresh : (n < nodes) × (is_entry (node_in m n) ≡ true) × InRows again p q).
        let x = (calls p q lp).0 fresh.2 in
        follows (new_then x.index p q (few x.below) lp x.holds.1)
        (by_entry (ap (λ (y : Node). is_reentrant y.kind) (sym (node_then x.index x.below)) ∙ x.holds.0)
        (ap is_entry (sym (node_then n fresh.0)) ∙ fresh.1)))
        (second.new n p q ln lp h)

    -- rows that are not marked stay settled
    settled_back : Settled j (enables plan) l nodes → Settled j (enables plan) k nodes
    settled_back st n p ln lp unmarked_row q h =
        let was = grown.quiet n p (few ln) lp unmarked_row in
        closed_pair_kept u held grown.kept grown.held n p q (few ln) lp (st n p ln lp was.0 q (member_same q was.1 h))

    module _ (all : nodes ≤ next) where
      -- a row of the end is that of the start
      row_first : (n p : ℕ) → n < nodes → p < 16 → pair_row_in k n p ≡ pair_row_in l n p
      row_first n p ln lp = (grown.quiet n p (few ln) lp (quiet all n p ln)).1

      -- and that after the first join
      row_then : (n p : ℕ) → n < nodes → p < 16 → pair_row_in k n p ≡ pair_row_in m n p
      row_then n p ln lp = (second.grown.quiet n p (few ln) lp (quiet all n p ln)).1

      -- every entry holds what calls hold
      entered
          : (a n p q : ℕ) → a < nodes → n < nodes → is_reentrant (node_at j a).kind ≡ true → is_entry (node_at j n) ≡ true → p < 16
          → Held k a p q → Held k n p q
      entered a n p q la ln r t lp h =
          second.here n p q ln (ap is_entry (node_then n ln) ∙ t) lp
          ((calls p q lp).1 (record {
            index = a;
            below = la;
            holds = (ap (λ (x : Node). is_reentrant x.kind) (node_then a la) ∙ r, member_same q (row_then a p la lp) h);
          }))

      -- a pair past a node was past it at the start
      past_first : (a x y : ℕ) → a < nodes → PastHeld j (enables plan) k a x y → PastHeld j (enables plan) l a x y
      past_first a x y la h = record {
        index = h.index;
        below = h.below;
        holds = record {
          other = h.holds.other;
          from = member_same h.holds.other (row_first a h.index la h.below) h.holds.from;
          one_is = h.holds.one_is;
          other_is = h.holds.other_is;
        };
      }

      -- every call holds what the words after exits lead to
      returned
          : (a n p q : ℕ) → a < nodes → n < nodes → (node_at j a).exit ≡ true → is_reentrant (node_at j n).kind ≡ true → p < 16
          → Spelt j.rule (node_at j a).after (PastHeld j (enables plan) k a) p q → Held k n p q
      returned a n p q la ln e r lp x =
          second.grown.held n p q (few ln) lp
          (first.here n p q ln (ap (λ (y : Node). is_reentrant y.kind) (held.node n ln) ∙ r) lp
          ((exits j plan states held planned p q lp).1 (record {
            index = a;
            below = la;
            holds = record { exit = e; word = spelt_map (λ y z. past_first a y z la) x };
          })))

  -- all of it
  pub came_back : CameBackAt table finals states nodes l k (ltb next nodes)
  came_back = record {
    kept = grown.kept;
    held = grown.held;
    left = λ e. less (ltb-true next nodes e);
    none = λ e n ln. let all = ltb-false next nodes e in found.none n (omega arith) (omega arith);
    exact = λ j plan held planned. record {
      new = new_back held plan planned;
      settled = settled_back held plan planned;
      over = λ e. let all : nodes ≤ next = ltb-false next nodes e in
          record { enters = entered held plan planned all; returns = returned held plan planned all };
    };
  }
