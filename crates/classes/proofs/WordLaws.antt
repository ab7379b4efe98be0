-- Laws of the rows that words over a set tell apart, in the shape of the code.
-- Assumes nothing.
use mathlib.Core.Path.{◌≡◌, refl, sym, ap, subst, ◌∙◌}
use mathlib.Core.Logic.{◌⊎◌, inl, inr, ⊎_elim, ◌↔◌, by_cases, ◌≢◌}
use mathlib.Core.Bool.{Bool, true, false, not, ◌&&◌, ◌||◌, true≢false, false≢true, and-eq-true_iff}
use mathlib.Core.List.{List}
use Prim.Native.Nat.{ℕ, ◌+◌, ◌-◌, ◌≤◌, ◌<◌}
use native.Mathlib.Decide.{ℕ_discrete, dec_lt}
use native.Mathlib.Omega.{arith}
use lib.Dec.{ltb}
use lib.Bits.{bit_and, bit_or}
use lib.Count.{count_trailing_zeros}
use lib.ListN.{get_or}
use borrow.Author.Tests.{lt-ltb, ltb-true}
use Rattle.laws.specs.Bounded.{any_below}
use Rattle.laws.specs.Bits.{has}
use Rattle.laws.proofs.Tests.{test_ext, or_passes, or_left, or_right}
use Rattle.laws.proofs.Bounded.{any_at, any_of, any_cong, sum_bound}
use Rattle.laws.proofs.Bits.{same_set, has_or, has_empty}
use Rattle.laws.proofs.Walk.{Rest, rest_start, rest_from, rest_low, rest_lt, rest_none, rest_next, rest_done}
use Rattle.automaton.specs.Automaton.{Automaton, cell, next}
use Rattle.job.specs.Words.{WordApart, apart_here, apart_later, apart_after}
use Rattle.job.specs.Search.{unlike}
use Rattle.job.specs.Found.{set_of}
use Rattle.job.proofs.FoundLaws.{has_set_of}
use Rattle.tables.specs.Rows.{CellsBelow, unlike_states, preimage_of}
use Rattle.tables.specs.Sixteen.{InRows, Sixteen, rows_left, RowJoined}
use Rattle.tables.proofs.RowLaws.{has_unlike, has_preimage}
use Rattle.tables.proofs.SetLaws.{set_of_cong}
use Rattle.classes.specs.Backwards.{RuleHeld, apart_by, word_row, rows_of, RowPairs, WordsIn, WordsGrown, WordsClosed}

-- ---- one row: a walk over the symbols of the set

module _ (states set : ℕ) (by : ℕ → ℕ → Bool) where
  -- the test of state q with the symbols of the set below t
  abbrev pub by_some : ℕ → ℕ → Bool
  by_some t q = any_below t (λ a. has set a && by a q)

  -- the states below S told apart by those
  abbrev pub up_to : ℕ → ℕ
  up_to t = set_of states (by_some t)

  -- out is right for the symbols that are passed
  pub record WalkedRow (out rest : ℕ) : Type 0 where
    pub passed : ℕ
    pub in_width : passed ≤ 16
    pub left : Rest 16 set rest passed
    pub exact : out ≡ up_to passed

  -- one of them tells q apart
  some_at : (t q : ℕ) → by_some t q ≡ true → (a : ℕ) × (a < t) × (has set a ≡ true) × (by a q ≡ true)
  some_at t q h =
      let r = any_at t (λ a. has set a && by a q) h in
      let both = (and-eq-true_iff (has set r.0) (by r.0 q)).0 r.2 in
      (r.0, r.1, both.0, both.1)

  -- and back
  some_of : (t q a : ℕ) → a < t → has set a ≡ true → by a q ≡ true → by_some t q ≡ true
  some_of t q a l m h = any_of t (λ a. has set a && by a q) a l ((and-eq-true_iff (has set a) (by a q)).1 (m, h))

  -- the members
  pub has_up_to : (t q : ℕ) → (has (up_to t) q ≡ true) ↔ ((q < states) × (a : ℕ) × (a < t) × (has set a ≡ true) × (by a q ≡ true))
  has_up_to t q = (
    λ h. let r = (has_set_of states (by_some t) q).0 h in let k = some_at t q r.1 in (r.0, k.0, k.1, k.2, k.3),
    λ r. (has_set_of states (by_some t) q).1 (r.0, some_of t q r.1 r.2 r.3 r.4),
  )

  -- no symbol is passed
  pub walked_start : set < 65536 → WalkedRow 0 set
  walked_start h = record {
    passed = 0;
    in_width = omega arith;
    left = rest_start 16 set h;
    exact = same_set 0 (up_to 0)
        (λ q.
        test_ext (has 0 q) (has (up_to 0) q)
        (λ e. absurd (true≢false (sym e ∙ has_empty q)))
        (λ e. let r = (has_up_to 0 q).0 e in absurd (omega (arith, r.2))));
  }

  -- one symbol more
  pub Walked-next
      : (out rest s : ℕ) → WalkedRow out rest → 0 < rest
      → ((q : ℕ) → has s q ≡ (ltb q states && by (count_trailing_zeros 16 rest) q)) → WalkedRow (bit_or out s) (bit_and rest (rest - 1))
  Walked-next out rest s w p members = record {
    passed = count_trailing_zeros 16 rest + 1;
    in_width = omega (arith, rest_lt w.left p);
    left = rest_next w.left p;
    exact = same_set (bit_or out s) (up_to (count_trailing_zeros 16 rest + 1))
        (λ q. has_or out s q ∙ test_ext (has out q || has s q) (has (up_to (count_trailing_zeros 16 rest + 1)) q) (there q) (back q));
  }
    where
      there : (q : ℕ) → (has out q || has s q) ≡ true → has (up_to (count_trailing_zeros 16 rest + 1)) q ≡ true
      there q h =
          ⊎_elim
          (λ (e : has out q ≡ true).
          let r = (has_up_to w.passed q).0 (ap (λ (x : ℕ). has x q) (sym w.exact) ∙ e) in
          (has_up_to (count_trailing_zeros 16 rest + 1) q).1 (r.0, r.1, omega (arith, r.2, rest_from w.left p), r.3, r.4))
          (λ (e : has s q ≡ true).
          let both = (and-eq-true_iff (ltb q states) (by (count_trailing_zeros 16 rest) q)).0 (sym (members q) ∙ e) in
          (has_up_to (count_trailing_zeros 16 rest + 1) q).1
          (ltb-true q states both.0, count_trailing_zeros 16 rest, omega arith, rest_low w.left p, both.1))
          (or_passes (has out q) (has s q) h)

      back : (q : ℕ) → has (up_to (count_trailing_zeros 16 rest + 1)) q ≡ true → (has out q || has s q) ≡ true
      back q h =
          let r = (has_up_to (count_trailing_zeros 16 rest + 1) q).0 h in
          by_cases (ℕ_discrete r.1 (count_trailing_zeros 16 rest))
          (λ (e : r.1 ≡ count_trailing_zeros 16 rest).
          or_right (has out q) (has s q)
          (members q
          ∙ (and-eq-true_iff (ltb q states) (by (count_trailing_zeros 16 rest) q)).1
          (lt-ltb q states r.0, ap (λ (x : ℕ). by x q) (sym e) ∙ r.4)))
          (λ (ne : r.1 ≢ count_trailing_zeros 16 rest).
          by_cases (dec_lt r.1 w.passed)
          (λ (l : r.1 < w.passed).
          or_left (has out q) (has s q)
          (ap (λ (x : ℕ). has x q) w.exact ∙ (has_up_to w.passed q).1 (r.0, r.1, l, r.3, r.4)))
          (λ g.
          absurd (true≢false (sym r.3 ∙ rest_none w.left r.1 (omega arith) (omega (arith, r.2))))))

  -- all symbols are passed
  pub walked_end : (out rest : ℕ) → WalkedRow out rest → rest ≡ 0 → out ≡ up_to 16
  walked_end out rest w e =
      w.exact
      ∙ same_set (up_to w.passed) (up_to 16)
      (λ q.
      test_ext (has (up_to w.passed) q) (has (up_to 16) q)
      (λ h.
      let r = (has_up_to w.passed q).0 h in
      (has_up_to 16 q).1 (r.0, r.1, omega (arith, r.2, w.in_width), r.3, r.4))
      (λ h.
      let r = (has_up_to 16 q).0 h in
      by_cases (dec_lt r.1 w.passed)
      (λ (l : r.1 < w.passed). (has_up_to w.passed q).1 (r.0, r.1, l, r.3, r.4))
      (λ g. absurd (true≢false (sym r.3 ∙ rest_done w.left e r.1 (omega arith))))))

-- a turn of the walk, as the code takes it
pub word_turn
    : (table : List (List ℕ)) (finals states : ℕ) (rows : ℕ → ℕ) (set p out rest a state row unlike pre rest' : ℕ)
    → WalkedRow states set (λ x. apart_by table finals rows x p) out rest → 0 < rest → a ≡ count_trailing_zeros 16 rest → state ≡ cell table p a
    → row ≡ rows state → unlike ≡ unlike_states finals state → pre ≡ preimage_of table states a (bit_or row unlike)
    → rest' ≡ bit_and rest (rest - 1) → WalkedRow states set (λ x. apart_by table finals rows x p) (bit_or out pre) rest'
word_turn table finals states rows set p out rest a state row unlike pre rest' w l low to row_is unlike_is Pre-is rest_is =
    subst (λ (x : ℕ). WalkedRow states set (λ x. apart_by table finals rows x p) (bit_or out pre) x) (sym rest_is)
    (Walked-next states set (λ x. apart_by table finals rows x p) out rest pre w l members)
  where
    members : (q : ℕ) → has pre q ≡ (ltb q states && apart_by table finals rows (count_trailing_zeros 16 rest) p q)
    members q = rw (← low, ← to, ← row_is, ← unlike_is, Pre-is) (has_preimage table states a (bit_or row unlike) q)

-- the row at the end
pub word_done
    : (table : List (List ℕ)) (finals states : ℕ) (rows : ℕ → ℕ) (set p out rest : ℕ)
    → WalkedRow states set (λ x. apart_by table finals rows x p) out rest → rest ≡ 0 → out ≡ word_row table finals states rows set p
unfolding word_row
word_done table finals states rows set p out rest w e = walked_end states set (λ x. apart_by table finals rows x p) out rest w e

-- ---- one round of words

-- the members of a row of words
pub has_word_row
    : (table : List (List ℕ)) (finals states : ℕ) (rows : ℕ → ℕ) (set p q : ℕ)
    → (has (word_row table finals states rows set p) q ≡ true)
    ↔ ((q < states) × (a : ℕ) × (a < 16) × (has set a ≡ true) × (apart_by table finals rows a p q ≡ true))
unfolding word_row
has_word_row table finals states rows set p q = has_up_to states set (λ a. apart_by table finals rows a p) 16 q

-- `unlike` says that two tests are contrary
pub unlike_says : (a b : Bool) → (unlike a b ≡ true) ↔ (a ≡ not b)
unlike_says true true = (λ e. absurd (false≢true e), λ e. absurd (true≢false e))
unlike_says true false = (λ e. refl, λ e. refl)
unlike_says false true = (λ e. refl, λ e. refl)
unlike_says false false = (λ e. absurd (false≢true e), λ e. absurd (false≢true e))

-- a symbol tells two states apart by what follows it, or at once
pub apart_by_cases
    : (table : List (List ℕ)) (finals : ℕ) (rows : ℕ → ℕ) (s p q : ℕ) → cell table q s < 16 → apart_by table finals rows s p q ≡ true
    → (has (rows (cell table p s)) (cell table q s) ≡ true) ⊎ (has finals (cell table p s) ≡ not (has finals (cell table q s)))
apart_by_cases table finals rows s p q small h =
    ⊎_elim
    (λ (e : has (rows (cell table p s)) (cell table q s) ≡ true). inl e)
    (λ (e : has (unlike_states finals (cell table p s)) (cell table q s) ≡ true).
    inr
    ((unlike_says (has finals (cell table p s)) (has finals (cell table q s))).0
    (sym (has_unlike finals (cell table p s) (cell table q s) small) ∙ e)))
    (or_passes (has (rows (cell table p s)) (cell table q s)) (has (unlike_states finals (cell table p s)) (cell table q s))
    (sym (has_or (rows (cell table p s)) (unlike_states finals (cell table p s)) (cell table q s)) ∙ h))

module _ {a : Automaton} {table : List (List ℕ)} {finals states : ℕ} (r : RuleHeld a table finals states) (below : CellsBelow table) where
  -- what a symbol of the set tells apart
  pub apart_by_words
      : (set : ℕ) (More : ℕ → ℕ → Type 0) (rows : ℕ → ℕ) (s p q : ℕ) → s < 16 → p < 16 → q < 16 → has set s ≡ true
      → ((k l : ℕ) → k < 16 → has (rows k) l ≡ true → WordApart a set More k l) → apart_by table finals rows s p q ≡ true
      → WordApart a set More p q
  apart_by_words set More rows s p q hs hp hq m held h =
      ⊎_elim
      (λ (e : has (rows (cell table p s)) (cell table q s) ≡ true).
      let w : WordApart a set More (cell table p s) (cell table q s) = held (cell table p s) (cell table q s) (below p s hp hs) e in
      apart_later s m
      (subst (λ (x : ℕ). WordApart a set More x (next a q s)) (r.cells p s hp hs)
      (subst (λ (x : ℕ). WordApart a set More (cell table p s) x) (r.cells q s hq hs) w)))
      (λ (d : has finals (cell table p s) ≡ not (has finals (cell table q s))).
      apart_here s m (rw (r.finals_are, r.cells p s hp hs, r.cells q s hq hs) at d))
      (apart_by_cases table finals rows s p q (below q s hq hs) h)

  -- a row of words is right where the rows that it reads are
  pub word_row_sound
      : (set : ℕ) (more : ℕ → ℕ) (rows : List ℕ) → states ≤ 16 → WordsIn a set more rows → (p q : ℕ) → p < 16
      → has (word_row table finals states (rows_of rows) set p) q ≡ true → WordApart a set (RowPairs more) p q
  word_row_sound set more rows hs all p q hp h =
      let m = (has_word_row table finals states (rows_of rows) set p q).0 h in
      apart_by_words set (RowPairs more) (rows_of rows) m.1 p q m.2 hp (omega (arith, m.0)) m.3 all m.4

-- it is that of other rows that are the same below 16
pub word_row_same
    : (table : List (List ℕ)) (finals states : ℕ) (one other : ℕ → ℕ) (set p : ℕ) → CellsBelow table → p < 16
    → ((x : ℕ) → x < 16 → one x ≡ other x) → word_row table finals states one set p ≡ word_row table finals states other set p
unfolding word_row
word_row_same table finals states one other set p below hp same =
    set_of_cong states
    (λ (q : ℕ). any_below 16 (λ (a : ℕ). has set a && apart_by table finals one a p q))
    (λ (q : ℕ). any_below 16 (λ (a : ℕ). has set a && apart_by table finals other a p q))
    (λ q h.
    any_cong 16 (λ (a : ℕ). has set a && apart_by table finals one a p q) (λ (a : ℕ). has set a && apart_by table finals other a p q)
    (λ a k.
    ap (λ (x : ℕ). has set a && has (bit_or x (unlike_states finals (cell table p a))) (cell table q a))
    (same (cell table p a) (below p a hp k))))

-- the rows below p were joined, each with what a symbol of the set and the rows of its turn tell apart
pub record JoiningWords (table : List (List ℕ)) (finals states : ℕ) (l m : List ℕ) (set grown p : ℕ) : Type 0 where
  pub sixteen : Sixteen m
  pub held : (r q : ℕ) → r < 16 → InRows l r q → InRows m r q
  pub sound : (a : Automaton) (more : ℕ → ℕ) → RuleHeld a table finals states → WordsIn a set more l → WordsIn a set more m
  pub none : grown ≡ 0 → m ≡ l
  pub closed : grown ≡ 0 → (r q : ℕ) → r < p → has (word_row table finals states (rows_of l) set r) q ≡ true → InRows l r q
  pub left : rows_left m + grown ≤ rows_left l

-- no row is joined
pub round_none
    : (table : List (List ℕ)) (finals states : ℕ) (l : List ℕ) (set : ℕ) → Sixteen l → JoiningWords table finals states l l set 0 0
round_none table finals states l set s = record {
  sixteen = s;
  held = λ r q h m. m;
  sound = λ a more rule all. all;
  none = λ e. refl;
  closed = λ e r q h f. absurd (omega arith);
  left = omega arith;
}

-- one row more
pub round_more
    : (table : List (List ℕ)) (finals states : ℕ) (l m k : List ℕ) (set grown p row count : ℕ) → p < 16 → states ≤ 16 → CellsBelow table
    → JoiningWords table finals states l m set grown p → row ≡ word_row table finals states (rows_of m) set p → RowJoined m k p row count
    → JoiningWords table finals states l k set (grown + count) (p + 1)
round_more table finals states l m k set grown p row count hp few below s e g = record {
  sixteen = g.sixteen;
  held = λ r q h i. g.held r q h (s.held r q h i);
  sound = λ a more rule all r q h i.
      let before : WordsIn a set more m = s.sound a more rule all in
      ⊎_elim
      (λ (old : InRows m r q). before r q h old)
      (λ (new : (r ≡ p) × (has row q ≡ true)).
      subst (λ (y : ℕ). WordApart a set (RowPairs more) y q) (sym new.0)
      (word_row_sound rule below set more m few before p q hp (ap (λ (x : ℕ). has x q) (sym e) ∙ new.1)))
      (g.new r q h i);
  none = λ z. g.none (omega arith) ∙ s.none (omega arith);
  closed = λ z r q h f. closed z r q h f;
  left = omega (arith, s.left, g.left);
}
  where
    closed
        : grown + count ≡ 0 → (r q : ℕ) → r < p + 1 → has (word_row table finals states (rows_of l) set r) q ≡ true → InRows l r q
    closed z r q h f =
        let same : m ≡ l = s.none (omega arith) in
        let same' : k ≡ m = g.none (omega arith) in
        by_cases (ℕ_discrete r p)
        (λ (x : r ≡ p).
        let there : has row q ≡ true =
        ap (λ (y : ℕ). has y q) e
        ∙ subst (λ (w : List ℕ). has (word_row table finals states (rows_of w) set p) q ≡ true) (sym same)
        (subst (λ (y : ℕ). has (word_row table finals states (rows_of l) set y) q ≡ true) x f) in
        subst (λ (y : ℕ). InRows l y q) (sym x) (subst (λ (w : List ℕ). InRows w p q) (same' ∙ same) (g.here q there)))
        (λ (x : r ≢ p). s.closed (omega arith) r q (omega arith) f)

-- a round that has joined all rows
pub round_end
    : (table : List (List ℕ)) (finals states : ℕ) (l m : List ℕ) (set grown p : ℕ) → JoiningWords table finals states l m set grown p
    → states ≤ p → WordsGrown table finals states l m set grown
round_end table finals states l m set grown p g all = record {
  sixteen = g.sixteen;
  held = g.held;
  sound = g.sound;
  closed = λ e x y h f.
      subst (λ (w : List ℕ). InRows w x y) (sym (g.none e))
      (g.closed e x y (omega arith) (subst (λ (w : List ℕ). has (word_row table finals states (rows_of w) set x) y ≡ true) (g.none e) f));
  left = g.left;
}

-- the room in sixteen rows is no large number
pub rows_left_small : (l : List ℕ) → rows_left l ≤ 1048560
unfolding rows_left
rows_left_small l = sum_bound 16 65535 (λ p. 65535 - get_or l p 0) (λ i h. omega arith)

-- ---- rounds until no row grows

-- after some rounds
pub record ClosingWords (table : List (List ℕ)) (finals states : ℕ) (l m : List ℕ) (set grown : ℕ) : Type 0 where
  pub sixteen : Sixteen m
  pub sound : (a : Automaton) → RuleHeld a table finals states → WordsIn a set (rows_of l) m
  pub held : (p q : ℕ) → p < 16 → InRows l p q → InRows m p q
  pub closed : grown ≡ 0 → (p q : ℕ) → p < states → has (word_row table finals states (rows_of m) set p) q ≡ true → InRows m p q

-- no word over the empty set tells anything apart
no_words
    : (table : List (List ℕ)) (finals states : ℕ) (rows : ℕ → ℕ) (set p q : ℕ) → set ≡ 0
    → has (word_row table finals states rows set p) q ≡ true → ⊥
no_words table finals states rows set p q e w =
    let r = (has_word_row table finals states rows set p q).0 w in
    true≢false (sym r.3 ∙ ap (λ (x : ℕ). has x r.1) e ∙ has_empty r.1)

-- before the first: the rows are closed where the set is empty
pub closing_start
    : (table : List (List ℕ)) (finals states : ℕ) (l : List ℕ) (set : ℕ) → Sixteen l → ClosingWords table finals states l l set set
closing_start table finals states l set s = record {
  sixteen = s;
  sound = λ a r p q h m. apart_after (h, m);
  held = λ p q h m. m;
  closed = λ e p q h w. absurd (no_words table finals states (rows_of l) set p q e w);
}

-- one more
pub closing_more
    : (table : List (List ℕ)) (finals states : ℕ) (l m k : List ℕ) (set grown new : ℕ) → ClosingWords table finals states l m set grown
    → WordsGrown table finals states m k set new → ClosingWords table finals states l k set new
closing_more table finals states l m k set grown new s g = record {
  sixteen = g.sixteen;
  sound = λ a r. g.sound a (rows_of l) r (s.sound a r);
  held = λ p q h m. g.held p q h (s.held p q h m);
  closed = g.closed;
}

-- a symbol tells two states apart at once
pub apart_by_unlike
    : (table : List (List ℕ)) (finals : ℕ) (rows : ℕ → ℕ) (s p q : ℕ) → cell table q s < 16
    → has finals (cell table p s) ≡ not (has finals (cell table q s)) → apart_by table finals rows s p q ≡ true
apart_by_unlike table finals rows s p q h d =
    has_or (rows (cell table p s)) (unlike_states finals (cell table p s)) (cell table q s)
    ∙ or_right (has (rows (cell table p s)) (cell table q s)) (has (unlike_states finals (cell table p s)) (cell table q s))
    (has_unlike finals (cell table p s) (cell table q s) h
    ∙ (unlike_says (has finals (cell table p s)) (has finals (cell table q s))).1 d)

-- or by what follows it
pub apart_by_rows
    : (table : List (List ℕ)) (finals : ℕ) (rows : ℕ → ℕ) (s p q : ℕ) → has (rows (cell table p s)) (cell table q s) ≡ true
    → apart_by table finals rows s p q ≡ true
apart_by_rows table finals rows s p q h =
    has_or (rows (cell table p s)) (unlike_states finals (cell table p s)) (cell table q s)
    ∙ or_left (has (rows (cell table p s)) (cell table q s)) (has (unlike_states finals (cell table p s)) (cell table q s)) h

-- rows that are closed hold what words tell apart
pub words_whole
    : (table : List (List ℕ)) (finals states : ℕ) (more : ℕ → ℕ) (m : List ℕ) (set : ℕ) (a : Automaton) → RuleHeld a table finals states
    → CellsBelow table → states ≤ 16 → ((p q : ℕ) → RowPairs more p q → InRows m p q)
    → ((s : ℕ) → has set s ≡ true → s < a.symbols)
    → ((p q : ℕ) → p < states → has (word_row table finals states (rows_of m) set p) q ≡ true → InRows m p q)
    → (p q : ℕ) → p < states → q < states → WordApart a set (RowPairs more) p q → InRows m p q
words_whole table finals states more m set a r below few after symbols closed p q hp hq (apart_here s h d) =
    closed p q hp
    ((has_word_row table finals states (rows_of m) set p q).1 (
      hq,
      s,
      hs,
      h,
      apart_by_unlike table finals (rows_of m) s p q (below q s (omega arith) hs)
          (rw (r.finals_are, r.cells p s (omega arith) hs, r.cells q s (omega arith) hs) d),
    ))
  where
    hs : s < 16
    hs = omega (arith, symbols s h, r.formed.few_symbols)
words_whole table finals states more m set a r below few after symbols closed p q hp hq (apart_later s h w) =
    closed p q hp
    ((has_word_row table finals states (rows_of m) set p q).1 (
      hq,
      s,
      hs,
      h,
      apart_by_rows table finals (rows_of m) s p q
          (rw (r.cells p s (omega arith) hs, r.cells q s (omega arith) hs)
          (words_whole table finals states more m set a r below few after symbols closed (next a p s) (next a q s)
          (leads_below p hp) (leads_below q hq) w)),
    ))
  where
    hs : s < 16
    hs = omega (arith, symbols s h, r.formed.few_symbols)

    leads_below : (x : ℕ) → x < states → next a x s < states
    leads_below x l = omega (arith, r.formed.next_below x s (omega (arith, r.states_are)) (symbols s h), r.states_are)
words_whole table finals states more m set a r below few after symbols closed p q hp hq (apart_after h) = after p q h

-- no row has grown
pub Closing-End
    : (table : List (List ℕ)) (finals states : ℕ) (l m : List ℕ) (set grown : ℕ) → CellsBelow table → states ≤ 16
    → ClosingWords table finals states l m set grown → grown ≡ 0 → WordsClosed table finals states l m set
Closing-End table finals states l m set grown below few s e = record {
  sixteen = s.sixteen;
  sound = s.sound;
  whole = λ a r symbols p q hp hq w.
      words_whole table finals states (rows_of l) m set a r below few (λ x y h. s.held x y h.0 h.1) symbols (s.closed e) p q hp hq w;
}
