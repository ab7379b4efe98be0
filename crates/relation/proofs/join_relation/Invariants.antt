-- `relation::join_relation` meets its contract.
-- Invariant: the rows below p are joined.
-- Assumes nothing.
use lib.ListN.{get_or}
use Rattle.tables.specs.Sixteen.{Sixteen}
use Rattle.relation.specs.Union.{Union, Below}
use Rattle.relation.proofs.UnionLaws.{AtRow}
use Rattle.relation.proofs.join_relation.Given as goal

abbrev pub invariant-loop-p : goal.invariant-loop-p
invariant-loop-p l = Sixteen l.rows × Union (Below (λ i. AtRow i (get_or l.more i 0)) l.p) l.initial.rows l.rows
