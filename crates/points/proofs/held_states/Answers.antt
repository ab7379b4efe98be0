-- `points::held_states` meets its contract.
-- Invariant: `out` is the states below q whose rows hold pairs.
-- Assumes nothing.
use mathlib.Core.Path.{◌≡◌, sym, ap, ◌∙◌}
use mathlib.Core.Logic.{◌≢◌}
use mathlib.Core.Bool.{Bool, not, cond}
use mathlib.Core.List.{List}
use Prim.Native.Nat.{ℕ, ◌+◌, ◌^◌}
use native.Mathlib.Omega.{arith}
use borrow.Author.Tests.{eq-eqb, ne_eqb}
use lib.Bits.{or_zero_r}
use Rattle.laws.specs.Bits.{with}
use Rattle.job.specs.Found.{set_of}
use Rattle.buffer.specs.Views.{pair_row_in}
use Rattle.classes.specs.Backwards.{held_states}
use Rattle.tables.proofs.SetLaws.{set_of_none, set_of_more}
use Rattle.points.proofs.held_states.Invariants.{holds}
use Rattle.points.proofs.held_states.Goals as goal
use Rattle.points.proofs.held_states.Goals.{then-pair_row-ne0, else-pair_row-ne0}

-- a turn where the row holds pairs
turn_held
    : (work : List ℕ) (n out q row out' : ℕ) → out ≡ set_of q (holds work n) → row ≡ pair_row_in work n q → row ≢ 0
    → out' ≡ with out q → out' ≡ set_of (q + 1) (holds work n)
turn_held work n out q row out' exact row_is ne insert_is =
    insert_is ∙ ap (λ (s : ℕ). with s q) exact
    ∙ set_of_more q (holds work n) (2 ^ q)
    (sym (ap (λ (b : Bool). cond (not b) (2 ^ q) 0) (ne_eqb (pair_row_in work n q) 0 (λ e. ne (row_is ∙ e)))))

-- a turn where it is empty
turn_empty
    : (work : List ℕ) (n out q row out' : ℕ) → out ≡ set_of q (holds work n) → row ≡ pair_row_in work n q → row ≡ 0
    → out' ≡ out → out' ≡ set_of (q + 1) (holds work n)
turn_empty work n out q row out' exact row_is none same =
    same ∙ exact ∙ sym (or_zero_r (set_of q (holds work n)))
    ∙ set_of_more q (holds work n) 0
    (sym (ap (λ (b : Bool). cond (not b) (2 ^ q) 0) (eq-eqb (pair_row_in work n q) 0 (sym row_is ∙ none))))

pub loop-q-init : goal.loop-q-init
loop-q-init c = sym (set_of_none (holds c.args.work.now c.args.n))

pub loop-q-preserved : goal.loop-q-preserved
loop-q-preserved c =
    let loop = c.loop-q in
    let row = c.pair_row in
    elim c.if-pair_row-ne0.branch [
      | then-pair_row-ne0 w ↦ turn_held _ _ loop.out loop.q _ _ loop.invariant row.ensures w.if-pair_row-ne0.true (w.out-is ∙ w.insert-out.ensures)
      | else-pair_row-ne0 w ↦ turn_empty _ _ loop.out loop.q _ _ loop.invariant row.ensures w.if-pair_row-ne0.false w.out-is
    ]

pub returns : goal.returns
unfolding held_states
returns c =
    let loop = c.loop-q in
    let args = c.args in
    let e : loop.q ≡ args.states = omega arith in
    loop.invariant ∙ ap (λ (k : ℕ). set_of k (holds args.work.now args.n)) e
