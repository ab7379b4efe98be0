-- The calls of the table are answered as they should be: the definitions are computed, row by row.
-- Assumes nothing.
use mathlib.Core.Path.{refl, sym, subst}
use mathlib.Core.List.{List}
use Prim.Native.Nat.{ℕ}
use Rattle.laws.specs.Bounded.{any_below, tab_from, tab}
use Rattle.automaton.specs.Automaton.{cell}
use Rattle.automaton.specs.Table.{cell_byte, rule_bytes}
use Rattle.lines.specs.Line.{decimal, field, fields, write_lines, digits_of, field_of, fields_of, line_of}
use Rattle.lines.specs.Lines.{lines_of}
use Rattle.rulerows.specs.RuleRows.{rows_in, names, named_by, next_in, twice, missing, automaton_of_rows, rule_from, rows_made}
use Rattle.rowstrials.specs.RowsTrials.{RowsTrial, MadeSo, MakesSo, AllMade, done, ◌and◌, rows_trials}

-- a call is answered by the length of its rule buffer
makes_so
    : {t : RowsTrial} → ((rule : List ℕ) → MadeSo t (rows_made t.text t.states t.symbols t.finals t.rule) rule) → MakesSo t
makes_so {t} so rule long =
    subst (λ (n : ℕ). MadeSo t (rows_made t.text t.states t.symbols t.finals n) rule) (sym long) (so rule)

-- all calls, in the order of the table
pub rows_trials_pass : AllMade rows_trials
unfolding rows_trials any_below tab_from tab cell cell_byte rule_bytes decimal field fields write_lines digits_of field_of fields_of line_of lines_of rows_in names named_by next_in twice missing automaton_of_rows rule_from
rows_trials_pass =
    makes_so (λ rule. record { number = refl; left = refl; beside = refl })
    and makes_so (λ rule. record { number = refl; left = refl; beside = refl })
    and makes_so (λ rule. record { number = refl; left = refl; beside = refl })
    and makes_so (λ rule. record { number = refl; left = refl; beside = refl })
    and makes_so (λ rule. record { number = refl; left = refl; beside = refl })
    and makes_so (λ rule. record { number = refl; left = refl; beside = refl })
    and makes_so (λ rule. record { number = refl; left = refl; beside = refl })
    and makes_so (λ rule. record { number = refl; left = refl; beside = refl })
    and makes_so (λ rule. record { number = refl; left = refl; beside = refl })
    and makes_so (λ rule. record { number = refl; left = refl; beside = refl })
    and makes_so (λ rule. record { number = refl; left = refl; beside = refl })
    and makes_so (λ rule. record { number = refl; left = refl; beside = refl })
    and makes_so (λ rule. record { number = refl; left = refl; beside = refl })
    and makes_so (λ rule. record { number = refl; left = refl; beside = refl })
    and makes_so (λ rule. record { number = refl; left = refl; beside = refl })
    and makes_so (λ rule. record { number = refl; left = refl; beside = refl })
    and makes_so (λ rule. record { number = refl; left = refl; beside = refl })
    and makes_so (λ rule. record { number = refl; left = refl; beside = refl })
    and makes_so (λ rule. record { number = refl; left = refl; beside = refl })
    and makes_so (λ rule. record { number = refl; left = refl; beside = refl })
    and makes_so (λ rule. record { number = refl; left = refl; beside = refl })
    and makes_so (λ rule. record { number = refl; left = refl; beside = refl })
    and makes_so (λ rule. record { number = refl; left = refl; beside = refl })
    and makes_so (λ rule. record { number = refl; left = refl; beside = refl })
    and makes_so (λ rule. record { number = refl; left = refl; beside = refl })
    and makes_so (λ rule. record { number = refl; left = refl; beside = refl })
    and makes_so (λ rule. record { number = refl; left = refl; beside = refl })
    and makes_so (λ rule. record { number = refl; left = refl; beside = refl })
    and makes_so (λ rule. record { number = refl; left = refl; beside = refl })
    and makes_so (λ rule. record { number = refl; left = refl; beside = refl })
    and makes_so (λ rule. record { number = refl; left = refl; beside = refl })
    and makes_so (λ rule. record { number = refl; left = refl; beside = refl })
    and makes_so (λ rule. record { number = refl; left = refl; beside = refl })
    and makes_so (λ rule. record { number = refl; left = refl; beside = refl })
    and makes_so (λ rule. record { number = refl; left = refl; beside = refl })
    and makes_so (λ rule. record { number = refl; left = refl; beside = refl })
    and makes_so (λ rule. record { number = refl; left = refl; beside = refl })
    and makes_so (λ rule. record { number = refl; left = refl; beside = refl })
    and makes_so (λ rule. record { number = refl; left = refl; beside = refl })
    and makes_so (λ rule. record { number = refl; left = refl; beside = refl })
    and makes_so (λ rule. record { number = refl; left = refl; beside = refl })
    and makes_so (λ rule. record { number = refl; left = refl; beside = refl })
    and makes_so (λ rule. record { number = refl; left = refl; beside = refl })
    and makes_so (λ rule. record { number = refl; left = refl; beside = refl })
    and makes_so (λ rule. record { number = refl; left = refl; beside = refl })
    and makes_so (λ rule. record { number = refl; left = refl; beside = refl })
    and makes_so (λ rule. record { number = refl; left = refl; beside = refl })
    and makes_so (λ rule. record { number = refl; left = refl; beside = refl })
    and makes_so (λ rule. record { number = refl; left = refl; beside = refl })
    and makes_so (λ rule. record { number = refl; left = refl; beside = refl })
    and makes_so (λ rule. record { number = refl; left = refl; beside = refl })
    and makes_so (λ rule. record { number = refl; left = refl; beside = refl })
    and makes_so (λ rule. record { number = refl; left = refl; beside = refl })
    and makes_so (λ rule. record { number = refl; left = refl; beside = refl })
    and makes_so (λ rule. record { number = refl; left = refl; beside = refl })
    and makes_so (λ rule. record { number = refl; left = refl; beside = refl })
    and makes_so (λ rule. record { number = refl; left = refl; beside = refl })
    and makes_so (λ rule. record { number = refl; left = refl; beside = refl })
    and makes_so (λ rule. record { number = refl; left = refl; beside = refl })
    and makes_so (λ rule. record { number = refl; left = refl; beside = refl })
    and makes_so (λ rule. record { number = refl; left = refl; beside = refl })
    and done
