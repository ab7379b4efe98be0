-- Sixteen rows after pairs were joined into them.
-- Inner contracts: what functions ask of and leave to each other. No promise is stated in them; a reader need not believe them.
-- Assumes nothing.
use Rattle.std.specs.Prelude.{◌⊎◌, List, ℕ, ◌<◌}
use Rattle.tables.specs.Sixteen.{InRows}

-- the pairs of rows m are those of rows l and those of T
pub record Union (T : ℕ → ℕ → Type 0) (l m : List ℕ) : Type 0 where
  pub held : (p q : ℕ) → p < 16 → InRows l p q → InRows m p q
  pub here : (p q : ℕ) → p < 16 → T p q → InRows m p q
  pub new : (p q : ℕ) → p < 16 → InRows m p q → InRows l p q ⊎ T p q

-- the pair is one that T has for some number below k
pub record Below (T : ℕ → ℕ → ℕ → Type 0) (k p q : ℕ) : Type 0 where
  pub index : ℕ
  pub below : index < k
  pub holds : T index p q
