-- What is asked and left where the rule of an expression that was read is made.
-- Inner contracts: what functions ask of and leave to each other. No promise is stated in them; a reader need not believe them.
-- Assumes nothing.
use Rattle.std.specs.Prelude.{Result, Ok, Err, ◌≡◌, List, ℕ, ◌≤◌, length}
use Rattle.automaton.specs.Automaton.{Automaton}
use Rattle.automaton.specs.Table.{rule_bytes}
use Rattle.expression.specs.Expression.{Expr}
use Rattle.expression.specs.Masks.{last}
use Rattle.expressionrule.specs.ExpressionRule.{RuleOf, ManyStates, met_of}
use Rattle.expressionrule.specs.Numbering.{ReadAs}
use Rattle.expressionrule.specs.declared.answer.Met.{Met}

-- few symbols, and buffers of their lengths
pub record ReadReady (a : ℕ) (t f rule : List ℕ) : Type 0 where
  pub symbols : a ≤ 16
  pub text : length t ≤ 64
  pub follow : length f ≡ 64
  pub room : length rule ≡ 256

-- the answer for the expression e, and what is left of the rule buffer
pub data NumbersAs (a : ℕ) (t : List ℕ) (e : Expr) (before after : List ℕ) : Result Met ℕ → Type 0 where
  too_many : ManyStates a t e → after ≡ before → NumbersAs a t e before after (Err 21)
  numbered : {m : Automaton} → RuleOf a t e m → after ≡ rule_bytes m → NumbersAs a t e before after (Ok (met_of m))

-- the answer where these sets were read of the text
abbrev pub Numbers : ℕ → List ℕ → List ℕ → ℕ → ℕ → List ℕ → List ℕ → Result Met ℕ → Type 0
Numbers a t f firsts lasts before after r =
    (e : Expr) → ReadAs a t e firsts f → lasts ≡ last e → NumbersAs a t e before after r
