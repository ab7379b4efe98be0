-- Rows of pairs on values: a state of the full monitor, and a set of states of the residual one.
-- Inner contracts: what functions ask of and leave to each other. No promise is stated in them; a reader need not believe them.
-- Assumes nothing.
use Rattle.std.specs.Prelude.{Bool, not, List, ℕ, ◌<◌, eqb}
use Rattle.std.specs.Int.Bits.{bit_and}
use Rattle.laws.specs.Bits.{has, image}
use Rattle.automaton.specs.Automaton.{cell}
use Rattle.job.specs.Search.{unlike}
use Rattle.job.specs.Found.{set_of}

-- every cell of the table is below 16
abbrev pub CellsBelow : List (List ℕ) → Type 0
CellsBelow table = (q a : ℕ) → q < 16 → a < 16 → cell table q a < 16

-- two sets have a common member
abbrev pub meets : ℕ → ℕ → Bool
meets s t = not (eqb (bit_and s t) 0)

-- the states that are final where p is not, or not where p is
unfoldable pub unlike_states : ℕ → ℕ → ℕ
unlike_states finals p = set_of 16 (λ q. unlike (has finals p) (has finals q))

-- the states below S that a symbol leads into a set
unfoldable pub preimage_of : List (List ℕ) → ℕ → ℕ → ℕ → ℕ
preimage_of table states a s = set_of states (λ q. has s (cell table q a))

-- the states that a symbol leads to from a set
unfoldable pub image_of : List (List ℕ) → ℕ → ℕ → ℕ
image_of table a s = image 16 (λ q. cell table q a) s
