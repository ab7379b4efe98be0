-- `ruletable::table_of` meets its contract.
-- Invariant: the rows before q are those of the bytes.
-- Assumes nothing.
use Prim.Native.Nat.{◌*◌}
use mathlib.Core.Path.{refl, ◌∙◌}
use mathlib.Core.List.{[]}
use native.Mathlib.Nat.{not-suc-le-zero}
use native.Mathlib.Omega.{arith}
use borrow.Author.Rules.{rules}
use lib.ListN.{length-set}
use Rattle.laws.proofs.Bounded.{fill_more, fill_done}
use Rattle.automaton.specs.Table.{row_of, table_of}
use Rattle.ruletable.proofs.table_of.Goals as goal

pub loop-q-init : goal.loop-q-init
loop-q-init c = (refl, search rules, λ k h. absurd (not-suc-le-zero h))

pub loop-q-preserved : goal.loop-q-preserved
loop-q-preserved c =
    let l = c.loop-q in (
      length-set l.table l.q _ ∙ l.invariant.0,
      search rules,
      fill_more l.table l.q (λ k. row_of c.args.bytes.now (k * 16)) _ [] (omega arith) l.invariant.2
          c.row_of.ensures,
    )

pub returns : goal.returns
unfolding table_of
returns c =
    let l = c.loop-q in
    fill_done l.table 16 (λ k. row_of c.args.bytes.now (k * 16)) [] l.invariant.0 (λ k h. l.invariant.2 k (omega arith))
