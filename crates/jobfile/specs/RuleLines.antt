-- The R lines of a rule that is given by value, to be put into a job file (document 02, requests 4 and 6: "the rule value used everywhere
-- else").
-- Assumes nothing.
use Rattle.std.specs.Prelude.{◌≡◌, List, [], ◌∷◌, ◌++◌, ℕ, length}
use Rattle.laws.specs.Bounded.{tab}
use Rattle.automaton.specs.Automaton.{Automaton, automaton_of, next, WellFormed, SameRule}
use Rattle.job.specs.Job.{Job}
use Rattle.lines.specs.Line.{line}
use Rattle.lines.specs.Lines.{lines, lines_of}
use Rattle.jobfile.specs.File.{rule_line, rule_of, accepted, read_job, write_rules, write_nodes, write_edges}
use Rattle.jobfile.specs.Alike.{Alike}
use Rattle.jobfile.specs.Spellable.{Spellable}

-- S rows of A next states: the cells that have a meaning
abbrev pub rows_within : Automaton → List (List ℕ)
rows_within m = tab m.states (λ q. tab m.symbols (λ a. next m q a))

-- the rule with no other cell
abbrev pub trimmed : Automaton → Automaton
trimmed m = automaton_of (rows_within m) m.states m.symbols m.finals

-- its R lines
unfoldable pub rule_text : Automaton → List ℕ
rule_text m = write_rules m.finals 0 (rows_within m)

-- a job with this rule in place of its own
abbrev pub with_rule : Automaton → Job → Job
with_rule m j = record { rule = trimmed m; nodes = j.nodes; edges = j.edges }

-- the file of a job, with the R lines of this rule in place of its own
unfoldable pub with_rule_text : Automaton → Job → List ℕ
with_rule_text m j =
    line 74 (m.states ∷ m.symbols ∷ length j.nodes ∷ length j.edges ∷ [])
    ++ rule_text m ++ write_nodes 0 j.nodes ++ write_edges j.edges

-- the statement: the R lines of a rule are read back as that rule, whatever follows them; in the file of a job of as many states and symbols,
-- written or alike the written one, they are the job's rule
pub record RuleLinesSay : Type 0 where
  pub same : (m : Automaton) → SameRule m (trimmed m)
  pub read_back
      : (m : Automaton) → WellFormed m → (rest : List ℕ)
      → (ls : List (List ℕ)) × (lines_of (rule_line m.states m.symbols) m.states 0 [] (rule_text m ++ rest) ≡ lines ls rest)
      × (rule_of m.states m.symbols ls ≡ trimmed m)
  pub in_a_job
      : (m : Automaton) (j : Job) (file : List ℕ) → WellFormed m → Spellable j → j.rule.states ≡ m.states → j.rule.symbols ≡ m.symbols
      → Alike (with_rule_text m j) file → read_job file ≡ accepted (with_rule m j)
