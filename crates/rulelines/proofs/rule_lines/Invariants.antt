-- `rulelines::rule_lines` meets its contract.
-- Invariant: the first q lines pass, their rows are stored, and finals is the set of their final states.
-- Assumes nothing.
use Prim.Native.Nat.{◌≤◌}
use lib.ListN.{drop}
use Rattle.rulelines.proofs.RulesLaws.{RulesSoFar}
use Rattle.rulelines.proofs.rule_lines.Given as goal

abbrev pub invariant-loop-q : goal.invariant-loop-q
invariant-loop-q l = (l.q ≤ l.rows) × RulesSoFar l.states l.symbols (drop l.at l.file) l.initial.work l.work l.q l.finals
