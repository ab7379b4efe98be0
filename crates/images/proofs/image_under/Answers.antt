-- `images::image_under` meets its contract.
-- Invariant: `rest` is the members from some number on, and `out` is the image of those before it.
-- Measure: the set that is left, as a number. Each turn is one step of the walk.
-- Assumes nothing.
use mathlib.Core.Path.{◌≡◌, sym, ◌∙◌}
use mathlib.Core.List.{List}
use Prim.Native.Nat.{ℕ, ◌+◌, ◌-◌, ◌<◌}
use native.Mathlib.Omega.{arith}
use borrow.Author.Rules.{rules}
use lib.Bits.{bit_and}
use lib.Count.{count_trailing_zeros}
use Rattle.laws.specs.Bits.{with}
use Rattle.laws.proofs.Image.{image_zero}
use Rattle.laws.proofs.Walk.{rest_start, rest_lt, rest_next, image_next, image_end, clear_lt}
use Rattle.automaton.specs.Automaton.{cell}
use Rattle.tables.specs.Rows.{image_of}
use Rattle.images.proofs.image_under.Invariants.{Walked}
use Rattle.images.proofs.image_under.Goals as goal

-- a turn of the loop
turn
    : (table : List (List ℕ)) (a s out rest q to out' rest' : ℕ) → Walked table a s out rest → 0 < rest
    → q ≡ count_trailing_zeros 16 rest → to ≡ cell table q a → out' ≡ with out to → rest' ≡ bit_and rest (rest - 1)
    → Walked table a s out' rest'
turn table a s out rest q to out' rest' inv p low next_is insert_is without_is = record {
  passed = count_trailing_zeros 16 rest + 1;
  in_width = omega (arith, rest_lt inv.left p);
  left = rw without_is (rest_next inv.left p);
  exact = rw (insert_is, next_is, low, inv.exact) (image_next inv.left (λ (i : ℕ). cell table i a) p);
}

pub loop-rest-init : goal.loop-rest-init
loop-rest-init c = record {
  passed = 0;
  in_width = search rules;
  left = rest_start 16 c.args.s c.ranges.s.fits;
  exact = sym (image_zero (λ (q : ℕ). cell c.args.table.now q c.args.a) c.args.s);
}

pub next_state-q-requires : goal.next_state-q-requires
next_state-q-requires c =
    (omega (arith, c.lowest.ensures, rest_lt c.loop-rest.invariant.left (omega arith)), c.requires)

pub insert-out-requires : goal.insert-out-requires
insert-out-requires c = c.next_state-q.ensures.1

pub loop-rest-smaller : goal.loop-rest-smaller
loop-rest-smaller c =
    let loop = c.loop-rest in
    rw c.without_lowest-rest.ensures (clear_lt loop.rest (omega arith))

pub loop-rest-preserved : goal.loop-rest-preserved
loop-rest-preserved c =
    let loop = c.loop-rest in
    turn _ _ _ loop.out loop.rest _ _ _ _ loop.invariant (omega arith)
    c.lowest.ensures c.next_state-q.ensures.0 c.insert-out.ensures
    c.without_lowest-rest.ensures

pub returns : goal.returns
unfolding image_of
returns c =
    let inv = c.loop-rest.invariant in
    let args = c.args in
    inv.exact ∙ image_end inv.left 16 (λ (q : ℕ). cell args.table.now q args.a) (omega arith) inv.in_width
