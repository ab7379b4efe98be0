-- `returnrows::entry_rows` meets its contract.
-- Invariant: the rows hold the pairs before the entries below n, and nothing else.
-- Assumes nothing.
use Prim.Native.Nat.{◌≤◌}
use Rattle.tables.specs.Sixteen.{Sixteen}
use Rattle.tables.proofs.SixteenLaws.{empty_rows}
use Rattle.relation.specs.Union.{Union, Below}
use Rattle.returnrows.specs.Gathered.{AtEntry}
use Rattle.returnrows.proofs.entry_rows.Given as goal

abbrev pub invariant-loop-n : goal.invariant-loop-n
invariant-loop-n l = (l.n ≤ l.nodes) × (Sixteen l.rows) × Union (Below (AtEntry l.table l.finals l.states l.work) l.n) (empty_rows 16) l.rows
