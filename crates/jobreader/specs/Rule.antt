-- The rule that the work buffer hands over, whole: sixteen rows of sixteen next states.
-- Inner contracts: what functions ask of and leave to each other. No promise is stated in them; a reader need not believe them.
-- Assumes nothing.
use Rattle.std.specs.Prelude.{List, ℕ, ◌≤◌}
use Rattle.automaton.specs.Automaton.{automaton_of, SameRule}
use Rattle.jobhead.specs.Numbers.{HeadNumbers}
use Rattle.buffer.specs.Views.{rule_rows_in}
use Rattle.jobhead.specs.Stored.{job_in}

-- the statement: the whole table is the rule of the job, but for cells past S or A
abbrev pub HandsOverRule : Type 0
HandsOverRule =
    (work : List ℕ) (h : HeadNumbers) → h.states ≤ 16 → h.symbols ≤ 16
    → SameRule (job_in work h).rule (automaton_of (rule_rows_in work) h.states h.symbols h.finals)
