-- What the answers of the rule call, and of the call for an expression, are that their number, made of fields of 16 bits above 2^48, holds;
-- every answer is one.
-- Inner contracts: what functions ask of and leave to each other. No promise is stated in them; a reader need not believe them.
-- Assumes nothing.
use Rattle.std.specs.Prelude.{ℕ, Result, Ok, Err, ◌^◌, ◌<◌}
use Rattle.expressionrule.specs.declared.answer.Met.{Met}
use Rattle.ruleoutcome.specs.declared.rule.RuleNumbers.{RuleNumbers}

-- numbers of 16 bits
abbrev pub RuleFits : Result RuleNumbers ℕ → Type 0
RuleFits (Ok n) = (n.states < 2 ^ 16) × (n.symbols < 2 ^ 16) × (n.finals < 2 ^ 16)
RuleFits (Err k) = Unit {0}

-- the same of the call for an expression
abbrev pub ExpressionFits : Result Met ℕ → Type 0
ExpressionFits (Ok x) = (x.states < 2 ^ 16) × (x.finals < 2 ^ 16)
ExpressionFits (Err k) = Unit {0}
