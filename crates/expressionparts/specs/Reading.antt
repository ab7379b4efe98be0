-- What the reader of an expression answers.
-- Inner contracts: what functions ask of and leave to each other. No promise is stated in them; a reader need not believe them.
-- Assumes nothing.
use Rattle.std.specs.Prelude.{◌≡◌, Bool, true, false, ◌&&◌, ◌||◌, Option, Some, None, List, ℕ, ◌+◌, ◌^◌, ◌≤◌, ◌<◌, length, get_or}
use Rattle.std.specs.Int.Bits.{bit_or}
use Rattle.laws.specs.Bits.{has}
use Rattle.expression.specs.Expression.{Expr}
use Rattle.expression.specs.Grammar.{Level, piece, choice, Spells, TextOf}
use Rattle.expression.specs.Stops.{StopAt}
use Rattle.expression.specs.Masks.{In, nullable, when, first, last, follow}
use Rattle.expressionparts.specs.declared.part.Part.{Part}

-- what is read from position i on: an expression, its sets, and in the lent buffer what follows each of its positions; positions before i are as
-- they were
pub record Shown (a : ℕ) (t : List ℕ) (l : Level) (i : ℕ) (f₀ f : List ℕ) (r : Part) : Type 0 where
  pub expr : Expr
  pub spelt : Spells a t l i r.end expr
  pub empty_word : r.nullable ≡ nullable expr
  pub firsts : r.first ≡ first expr
  pub lasts : r.last ≡ last expr
  pub follows : (q : ℕ) → In expr q → get_or f q 0 ≡ follow expr q
  pub kept : (q : ℕ) → q < i → get_or f q 0 ≡ get_or f₀ q 0
  pub long : length f ≡ length f₀

-- the longest at a level
pub record Whole (a : ℕ) (t : List ℕ) (l : Level) (i : ℕ) (f₀ f : List ℕ) (r : Part) : Type 0 where
  pub shown : Shown a t l i f₀ f r
  pub stops : StopAt a t l r.end

-- the reader's answer at a level, from position i on
abbrev pub Answer : ℕ → List ℕ → Level → ℕ → List ℕ → List ℕ → Option Part → Type 0
Answer a t l i f₀ f (Some r) = Whole a t l i f₀ f r
Answer a t l i f₀ f None = (j : ℕ) (e : Expr) → Spells a t l i j e → StopAt a t l j → ⊥

-- a test says whether
pub record Tells (b : Bool) (P : Type 0) : Type 0 where
  pub yes_so : b ≡ true → P
  pub not_so : b ≡ false → P → ⊥

-- positions of a set are followed by another set too
pub record Linked (f₀ f : List ℕ) (lasts firsts : ℕ) : Type 0 where
  pub long : length f ≡ length f₀
  pub cells : (q : ℕ) → q < length f₀ → get_or f q 0 ≡ bit_or (get_or f₀ q 0) (when (has lasts q) firsts)

-- the parts of a letter, of one after another, of one or another, and of a part up to another end
abbrev pub letter_part : ℕ → Part
letter_part i = record { end = i + 1; nullable = false; first = 2 ^ i; last = 2 ^ i }

abbrev pub followed : Part → Part → Part
followed d e =
    record {
      end = e.end;
      nullable = d.nullable && e.nullable;
      first = bit_or d.first (when d.nullable e.first);
      last = bit_or e.last (when e.nullable d.last);
    }

abbrev pub either_part : Part → Part → Part
either_part d e =
    record { end = e.end; nullable = d.nullable || e.nullable; first = bit_or d.first e.first; last = bit_or d.last e.last }

abbrev pub up_to : Part → ℕ → Bool → Part
up_to d j n = record { end = j; nullable = n; first = d.first; last = d.last }

-- the stars after a part are read with it
abbrev pub Starred : List ℕ → Part → List ℕ → List ℕ → Part → Type 0
Starred t d f f' r = (a i : ℕ) (f₀ : List ℕ) → Shown a t piece i f₀ f d → Whole a t piece i f₀ f' r

-- what a call of the reader needs: few letters, and a position in the buffer for every character
pub record Ready (a : ℕ) (t f : List ℕ) : Type 0 where
  pub few : a ≤ 16
  pub room : length t ≤ length f
  pub fits : length f ≡ 64

-- the reader's answer for a whole text
abbrev pub TextAnswer : ℕ → List ℕ → List ℕ → List ℕ → Option Part → Type 0
TextAnswer a t f₀ f (Some d) = Shown a t choice 0 f₀ f d × (d.end ≡ length t)
TextAnswer a t f₀ f None = (e : Expr) → TextOf a t e → ⊥
