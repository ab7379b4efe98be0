-- The search for the states of the rule, cell by cell in row order.
-- Inner contracts: what functions ask of and leave to each other. No promise is stated in them; a reader need not believe them.
-- Assumes nothing.
use Rattle.std.specs.Prelude.{◌≡◌, ◌≢◌, ◌↔◌, List, ℕ, ◌+◌, ◌*◌, ◌≤◌, ◌<◌, true, false, length, get_or, set}
use Rattle.std.specs.Int.Bits.{bit_and}
use Rattle.laws.specs.Bits.{has}
use Rattle.expression.specs.Expression.{Expr}
use Rattle.expression.specs.Grammar.{TextOf}
use Rattle.expression.specs.Masks.{In, first, follow, places_of, aim}
use Rattle.expressionrule.specs.ExpressionRule.{FirstMet}

-- a cell of the table in row order
abbrev pub cell_at : List ℕ → ℕ → ℕ → ℕ
cell_at cells q s = get_or cells (q * 16 + s) 0

-- the first n places of the table lead where they should
pub record Cells (a : ℕ) (t : List ℕ) (e : Expr) (sets cells : List ℕ) (count n : ℕ) : Type 0 where
  pub some : 1 ≤ count
  pub few : count ≤ 16
  pub long : length sets ≡ 16
  pub wide : length cells ≡ 256
  pub low : (q s : ℕ) → s < a → q * 16 + s < n → 1 ≤ cell_at cells q s
  pub high : (q s : ℕ) → s < a → q * 16 + s < n → cell_at cells q s < count
  pub leads : (q s : ℕ) → s < a → q * 16 + s < n → get_or sets (cell_at cells q s) 0 ≡ aim t e sets q s
  pub once : (p q : ℕ) → 1 ≤ p → p < count → 1 ≤ q → q < count → get_or sets p 0 ≡ get_or sets q 0 → p ≡ q
  pub inside : (q p : ℕ) → 1 ≤ q → q < count → has (get_or sets q 0) p ≡ true → In e p
  pub empty : (q s : ℕ) → s < 16 → (s < a → n ≤ q * 16 + s) → cell_at cells q s ≡ 0

-- a number is first met among the first n places
pub record MetBy (a : ℕ) (cells : List ℕ) (n k : ℕ) : Type 0 where
  pub first : FirstMet (cell_at cells) a k
  pub done : first.row * 16 + first.column < n

-- the search has done n places and found so many states
pub record Growing (a : ℕ) (t : List ℕ) (e : Expr) (sets cells : List ℕ) (count n : ℕ) : Type 0 where
  pub linked : Cells a t e sets cells count n
  pub met : (k : ℕ) → 1 ≤ k → k < count → MetBy a cells n k

-- what was read of the text is the expression e
pub record ReadAs (a : ℕ) (t : List ℕ) (e : Expr) (firsts : ℕ) (f : List ℕ) : Type 0 where
  pub spelt : TextOf a t e
  pub start : firsts ≡ first e
  pub room : length t ≤ length f
  pub follows : (q : ℕ) → In e q → get_or f q 0 ≡ follow e q

-- the first state from 1 on with the set x, or the count where there is none
pub record Sought (sets : List ℕ) (count x r : ℕ) : Type 0 where
  pub low : 1 ≤ r
  pub high : r ≤ count
  pub here : r < count → get_or sets r 0 ≡ x
  pub none : r ≡ count → (p : ℕ) → 1 ≤ p → p < count → get_or sets p 0 ≢ x

-- the positions of each symbol's letter
pub record PlacesAre (t : List ℕ) (a : ℕ) (places : List ℕ) : Type 0 where
  pub long : length places ≡ 16
  pub are : (s : ℕ) → s < a → get_or places s 0 ≡ places_of t (length t) s

-- the positions that can come next in state q: those of a symbol's letter among them are the set that the symbol leads to
abbrev pub Onward : List ℕ → ℕ → List ℕ → ℕ → ℕ → Type 0
Onward f firsts sets q r =
    (a : ℕ) (t : List ℕ) (e : Expr) → ReadAs a t e firsts f → ((p : ℕ) → 1 ≤ q → has (get_or sets q 0) p ≡ true → In e p) → (s : ℕ)
    → bit_and r (places_of t (length t) s) ≡ aim t e sets q s

-- the set x is one of n at i, or becomes the last
pub record Added (sets₀ sets : List ℕ) (n i x r : ℕ) : Type 0 where
  pub old : i < n → (sets ≡ sets₀) × (r ≡ n)
  pub new : n ≤ i → (sets ≡ set sets₀ n x) × (r ≡ n + 1)

-- the final states: those whose set has one of the last positions; the start is not one
pub record FinalsOf (lasts : ℕ) (sets : List ℕ) (count finals : ℕ) : Type 0 where
  pub ends : (q : ℕ) → 1 ≤ q → q < count → (has finals q ≡ true) ↔ (bit_and (get_or sets q 0) lasts ≢ 0)
  pub start : has finals 0 ≡ false
  pub below : (q : ℕ) → has finals q ≡ true → q < count

-- a seventeenth state
pub record TooMany (a : ℕ) (t : List ℕ) (e : Expr) : Type 0 where
  pub sets : List ℕ
  pub cells : List ℕ
  pub row : ℕ
  pub column : ℕ
  pub grown : Growing a t e sets cells 16 (row * 16 + column)
  pub row_in : row < 16
  pub column_in : column < a
  pub fresh : (p : ℕ) → 1 ≤ p → p < 16 → get_or sets p 0 ≢ aim t e sets row column

-- what a row needs
pub record RowReady (a : ℕ) (places f : List ℕ) (q count : ℕ) (sets cells : List ℕ) : Type 0 where
  pub symbols : a ≤ 16
  pub letters : length places ≡ 16
  pub follow : length f ≡ 64
  pub row : q < count
  pub few : count ≤ 16
  pub long : length sets ≡ 16
  pub wide : length cells ≡ 256

-- one row done: 17 for a state too many
pub record RowDone (a : ℕ) (places f : List ℕ) (firsts q count : ℕ) (sets₀ cells₀ sets cells : List ℕ) (r : ℕ) : Type 0 where
  pub more : count ≤ r
  pub most : r ≤ 17
  pub sets_long : length sets ≡ length sets₀
  pub cells_long : length cells ≡ length cells₀
  pub grown
      : (t : List ℕ) (e : Expr) → PlacesAre t a places → ReadAs a t e firsts f → Growing a t e sets₀ cells₀ count (q * 16) → r < 17
      → Growing a t e sets cells r ((q + 1) * 16)
  pub many
      : (t : List ℕ) (e : Expr) → PlacesAre t a places → ReadAs a t e firsts f → Growing a t e sets₀ cells₀ count (q * 16) → r ≡ 17
      → TooMany a t e

-- what all rows need
pub record RowsReady (a : ℕ) (t f sets cells : List ℕ) : Type 0 where
  pub symbols : a ≤ 16
  pub text : length t ≤ 64
  pub follow : length f ≡ 64
  pub long : length sets ≡ 16
  pub wide : length cells ≡ 256

-- all rows done
pub record AllDone (a : ℕ) (t f : List ℕ) (firsts : ℕ) (sets₀ cells₀ sets cells : List ℕ) (r : ℕ) : Type 0 where
  pub most : r ≤ 17
  pub sets_long : length sets ≡ length sets₀
  pub cells_long : length cells ≡ length cells₀
  pub grown : (e : Expr) → ReadAs a t e firsts f → Growing a t e sets₀ cells₀ 1 0 → r < 17 → Growing a t e sets cells r (r * 16)
  pub many : (e : Expr) → ReadAs a t e firsts f → Growing a t e sets₀ cells₀ 1 0 → r ≡ 17 → TooMany a t e
