-- `points::is_nop` meets its contract.
-- Invariant: `rest` is the members from some number on, and the mark holds for the members before it.
-- Measure: the set that is left, as a number. Each turn is one step of the walk; a member without the mark ends it.
-- Assumes nothing.
use mathlib.Core.Path.{◌≡◌, sym}
use mathlib.Core.Logic.{⊎_elim}
use mathlib.Core.Bool.{Bool, true, false}
use mathlib.Core.List.{List}
use Prim.Native.Nat.{ℕ, ◌+◌, ◌-◌, ◌<◌}
use native.Mathlib.Nat.{not-suc-le-zero}
use lib.Bits.{bit_and}
use lib.Count.{count_trailing_zeros}
use Rattle.laws.specs.Bits.{has}
use Rattle.laws.proofs.Tests.{passes_or_fails}
use Rattle.laws.proofs.Bounded.{all_of, all_fails}
use Rattle.laws.proofs.Walk.{Rest, rest_start, rest_low, rest_lt, rest_next, members_more, members_end}
use Rattle.automaton.specs.Automaton.{cell}
use Rattle.buffer.specs.Views.{class_row_in}
use Rattle.classes.specs.Backwards.{is_nop}
use Rattle.classes.proofs.FoundLaws.{mark, mark_other}
use Rattle.points.proofs.is_nop.Given as goal

-- a member with the mark
mark_member : (m f r : Bool) → m ≡ true → f ≡ false → r ≡ false → mark m f r ≡ true
mark_member m f r p q s = rw (p, q, s)

-- a member that moves to a final state
mark_final : (m f r : Bool) → m ≡ true → f ≡ true → mark m f r ≡ false
mark_final m f r p q = rw (p, q)

-- a member that is told apart
mark_apart : (m f r : Bool) → m ≡ true → f ≡ false → r ≡ true → mark m f r ≡ false
mark_apart m f r p q s = rw (p, q, s)

module _ (table : List (List ℕ)) (finals : ℕ) (work : List ℕ) (n a before : ℕ) where
  -- the state that q moves to is final
  abbrev pub moves_final : ℕ → Bool
  moves_final q = has finals (cell table q a)

  -- it is told apart from q
  abbrev pub moves_apart : ℕ → Bool
  moves_apart q = has (class_row_in work n (cell table q a)) q

  -- q has the mark
  abbrev pub Marked : ℕ → Type 0
  Marked q = (moves_final q ≡ false) × (moves_apart q ≡ false)

  -- the members before the number passed have the mark
  pub record Walked (rest : ℕ) : Type 0 where
    pub passed : ℕ
    pub left : Rest 16 before rest passed
    pub marked : (i : ℕ) → i < passed → has before i ≡ true → Marked i

  -- the walk starts
  pub walk_start : before < 65536 → Walked before
  walk_start h = record { passed = 0; left = rest_start 16 before h; marked = λ i l m. absurd (not-suc-le-zero l) }

  -- a turn of the loop
  pub turn
      : (rest q to row rest' : ℕ) (f r : Bool) → Walked rest → 0 < rest → q ≡ count_trailing_zeros 16 rest → to ≡ cell table q a
      → f ≡ has finals to → f ≡ false → row ≡ class_row_in work n to → r ≡ has row q → r ≡ false
      → rest' ≡ bit_and rest (rest - 1) → Walked rest'
  turn rest q to row rest' f r inv p low next_is final_is not_final row_is apart_is not_apart without_is = record {
    passed = count_trailing_zeros 16 rest + 1;
    left = rw without_is (rest_next inv.left p);
    marked = members_more inv.left Marked p inv.marked (rw (← low) here);
  }
    where
      here : Marked q
      here = (
        rw (← next_is, ← final_is) not_final,
        rw (← next_is, ← row_is, ← apart_is) not_apart,
      )

  -- the walk ends at a member that moves to a final state
  pub end_final
      : (rest q to : ℕ) (f : Bool) → Walked rest → 0 < rest → q ≡ count_trailing_zeros 16 rest → to ≡ cell table q a
      → f ≡ has finals to → f ≡ true → false ≡ is_nop table finals work n a before
  unfolding is_nop
  end_final rest q to f inv p low next_is final_is is_final =
      sym (all_fails 16 (λ i. mark (has before i) (moves_final i) (moves_apart i)) q
      (rw low (rest_lt inv.left p))
      (mark_final (has before q) (moves_final q) (moves_apart q) (rw low (rest_low inv.left p))
      (rw (← next_is, ← final_is) is_final)))

  -- it ends at a member that is told apart
  pub end_apart
      : (rest q to row : ℕ) (f r : Bool) → Walked rest → 0 < rest → q ≡ count_trailing_zeros 16 rest → to ≡ cell table q a
      → f ≡ has finals to → f ≡ false → row ≡ class_row_in work n to → r ≡ has row q → r ≡ true
      → false ≡ is_nop table finals work n a before
  unfolding is_nop
  end_apart rest q to row f r inv p low next_is final_is not_final row_is apart_is is_apart =
      sym (all_fails 16 (λ i. mark (has before i) (moves_final i) (moves_apart i)) q
      (rw low (rest_lt inv.left p))
      (mark_apart (has before q) (moves_final q) (moves_apart q) (rw low (rest_low inv.left p))
      (rw (← next_is, ← final_is) not_final) (rw (← next_is, ← row_is, ← apart_is) is_apart)))

  -- it ends after the last member
  pub end_all : (rest : ℕ) → Walked rest → rest ≡ 0 → true ≡ is_nop table finals work n a before
  unfolding is_nop
  end_all rest inv e =
      sym (all_of 16 (λ i. mark (has before i) (moves_final i) (moves_apart i))
      (λ i l.
      ⊎_elim
      (λ (m : has before i ≡ true).
      let marked = members_end inv.left Marked e inv.marked i m in
      mark_member (has before i) (moves_final i) (moves_apart i) m marked.0 marked.1)
      (λ (m : has before i ≡ false). mark_other (has before i) (moves_final i) (moves_apart i) m)
      (passes_or_fails (has before i))))

abbrev pub invariant-loop-rest : goal.invariant-loop-rest
invariant-loop-rest l = Walked l.table l.finals l.work l.n l.a l.before l.rest

abbrev pub decreases-loop-rest : goal.decreases-loop-rest
decreases-loop-rest l = l.rest
