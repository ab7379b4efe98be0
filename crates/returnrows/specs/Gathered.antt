-- Pairs gathered from nodes into sixteen rows.
-- Inner contracts: what functions ask of and leave to each other. No promise is stated in them; a reader need not believe them.
-- Assumes nothing.
use Rattle.std.specs.Prelude.{◌≡◌, true, List, ℕ, ◌<◌}
use Rattle.laws.specs.Bits.{has}
use Rattle.job.specs.Job.{is_reentrant, is_entry}
use Rattle.buffer.specs.Views.{node_in, HeldApart}
use Rattle.tables.specs.Sixteen.{InRows, Sixteen}
use Rattle.classes.specs.Classes.{before_row}

-- sixteen rows hold the pairs of T, and no others
pub record RowsHold (T : ℕ → ℕ → Type 0) (rows : List ℕ) : Type 0 where
  pub sixteen : Sixteen rows
  pub here : (p q : ℕ) → p < 16 → T p q → InRows rows p q
  pub only : (p q : ℕ) → p < 16 → InRows rows p q → T p q

-- the pair is told apart before node n, an entry
abbrev pub AtEntry : List (List ℕ) → ℕ → ℕ → List ℕ → ℕ → ℕ → ℕ → Type 0
AtEntry table finals states work n p q = (is_entry (node_in work n) ≡ true) × (has (before_row table finals states work n p) q ≡ true)

-- the pair is held past node n, a call that may come back in
abbrev pub AtCall : List ℕ → ℕ → ℕ → ℕ → Type 0
AtCall work n p q = (is_reentrant (node_in work n).kind ≡ true) × HeldApart work n p q
