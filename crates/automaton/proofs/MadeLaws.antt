-- What a call that makes a rule leaves: the rule's bytes, or the buffer as it was and a table of zeros.
-- Assumes nothing.
use mathlib.Core.Path.{refl}
use Rattle.automaton.specs.Made.{MadeSays}
use Rattle.automaton.proofs.RuleBytesLaws.{rule_written}

pub made_says : MadeSays
made_says =
    record {
      written = λ m rule wf. rule_written m wf;
      unchanged = λ k rule. refl;
      table = λ m wf. rule_written m wf;
      none = λ k. refl;
    }
