-- The calls of the table are answered as they should be: the definitions are computed, row by row.
-- Assumes nothing.
use mathlib.Core.Path.{◌≡◌, refl, sym, subst}
use mathlib.Core.List.{List}
use Prim.Native.Nat.{ℕ}
use lib.ListN.{length}
use Rattle.laws.specs.Bounded.{all_below, tab_from, tab}
use Rattle.laws.specs.Bits.{has}
use Rattle.automaton.specs.Automaton.{cell}
use Rattle.automaton.specs.Table.{cell_byte, rule_bytes}
use Rattle.lines.specs.Line.{digits_of, field_of, fields_of, line_of}
use Rattle.lines.specs.Lines.{lines_of}
use Rattle.jobfile.specs.File.{finals_of, some_entry, read_rest, read_job}
use Rattle.admission.specs.Admission.{admitted}
use Rattle.ruleoutcome.specs.RuleCall.{rule_answer}
use Rattle.ruleoutcome.specs.CallTrials.{RuleTrial, RuledSo, RulesSo, AllRuled, done, ◌and◌, rule_trials}

-- a call is answered by the lengths of its buffers
rules_so
    : {t : RuleTrial} → ((work rule : List ℕ) → RuledSo t (rule_answer t.file t.work t.rule) work rule) → RulesSo t
rules_so {t} so work rule w r =
    subst (λ (n : ℕ). RuledSo t (rule_answer t.file n (length rule)) work rule) (sym w)
    (subst (λ (n : ℕ). RuledSo t (rule_answer t.file t.work n) work rule) (sym r) (so work rule))

-- all calls, in the order of the table
pub rule_trials_pass : AllRuled rule_trials
unfolding rule_trials all_below tab_from tab has cell cell_byte rule_bytes digits_of field_of fields_of line_of lines_of finals_of some_entry read_rest read_job admitted
rule_trials_pass =
    rules_so (λ work rule. record { number = refl; left = refl; beside = refl; worked = refl })
    and rules_so (λ work rule. record { number = refl; left = refl; beside = refl; worked = refl })
    and rules_so (λ work rule. record { number = refl; left = refl; beside = refl; worked = refl })
    and rules_so (λ work rule. record { number = refl; left = refl; beside = refl; worked = refl })
    and rules_so (λ work rule. record { number = refl; left = refl; beside = refl; worked = refl })
    and rules_so (λ work rule. record { number = refl; left = refl; beside = refl; worked = refl })
    and rules_so (λ work rule. record { number = refl; left = refl; beside = refl; worked = refl })
    and rules_so (λ work rule. record { number = refl; left = refl; beside = refl; worked = refl })
    and rules_so (λ work rule. record { number = refl; left = refl; beside = refl; worked = refl })
    and rules_so (λ work rule. record { number = refl; left = refl; beside = refl; worked = refl })
    and rules_so (λ work rule. record { number = refl; left = refl; beside = refl; worked = refl })
    and rules_so (λ work rule. record { number = refl; left = refl; beside = refl; worked = refl })
    and rules_so (λ work rule. record { number = refl; left = refl; beside = refl; worked = refl })
    and rules_so (λ work rule. record { number = refl; left = refl; beside = refl; worked = refl })
    and rules_so (λ work rule. record { number = refl; left = refl; beside = refl; worked = refl })
    and rules_so (λ work rule. record { number = refl; left = refl; beside = refl; worked = refl })
    and rules_so (λ work rule. record { number = refl; left = refl; beside = refl; worked = refl })
    and rules_so (λ work rule. record { number = refl; left = refl; beside = refl; worked = refl })
    and rules_so (λ work rule. record { number = refl; left = refl; beside = refl; worked = refl })
    and rules_so (λ work rule. record { number = refl; left = refl; beside = refl; worked = refl })
    and rules_so (λ work rule. record { number = refl; left = refl; beside = refl; worked = refl })
    and rules_so (λ work rule. record { number = refl; left = refl; beside = refl; worked = refl })
    and rules_so (λ work rule. record { number = refl; left = refl; beside = refl; worked = refl })
    and rules_so (λ work rule. record { number = refl; left = refl; beside = refl; worked = refl })
    and rules_so (λ work rule. record { number = refl; left = refl; beside = refl; worked = refl })
    and rules_so (λ work rule. record { number = refl; left = refl; beside = refl; worked = refl })
    and rules_so (λ work rule. record { number = refl; left = refl; beside = refl; worked = refl })
    and rules_so (λ work rule. record { number = refl; left = refl; beside = refl; worked = refl })
    and rules_so (λ work rule. record { number = refl; left = refl; beside = refl; worked = refl })
    and rules_so (λ work rule. record { number = refl; left = refl; beside = refl; worked = refl })
    and rules_so (λ work rule. record { number = refl; left = refl; beside = refl; worked = refl })
    and done
