-- A row of pairs past a node, on values: a state of the full monitor, and a set of states of the residual one.
-- Inner contracts: what functions ask of and leave to each other. No promise is stated in them; a reader need not believe them.
-- Assumes nothing.
use Rattle.std.specs.Prelude.{Bool, true, false, List, ℕ}
use Rattle.laws.specs.Bits.{has}
use Rattle.automaton.specs.Automaton.{cell}
use Rattle.tables.specs.Rows.{meets, unlike_states, image_of}
use Rattle.moves.specs.declared.Past.{Past}

-- a row past a shadow with symbol a: the full monitor moves; an enabled shadow moves the set too, a disabled one leaves it
abbrev pub past_shadow : List (List ℕ) → ℕ → ℕ → Bool → ℕ → ℕ → Past
past_shadow table finals a true p s =
    record { state = cell table p a; set = image_of table a s; differs = meets (image_of table a s) (unlike_states finals (cell table p a)) }
past_shadow table finals a false p s = record { state = cell table p a; set = s; differs = has finals (cell table p a) }

-- a row past a node, and whether some pair of it alarms differently there
abbrev pub past_row : List (List ℕ) → ℕ → Bool → ℕ → Bool → ℕ → ℕ → Past
past_row table finals true a enabled p s = past_shadow table finals a enabled p s
past_row table finals false a enabled p s = record { state = p; set = s; differs = false }
