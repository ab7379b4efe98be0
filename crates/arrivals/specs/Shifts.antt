-- What moving numbers up and down in a list leaves, and what a search for a place finds.
-- Inner contracts: what functions ask of and leave to each other. No promise is stated in them; a reader need not believe them.
-- Assumes nothing.
use Rattle.std.specs.Prelude.{◌≡◌, Bool, true, false, cond, ◌&&◌, List, ℕ, ◌+◌, ◌-◌, ◌≤◌, ◌<◌, leb, ltb, length, get_or}
use Rattle.laws.specs.Bounded.{tab}

-- numbers put in at a place, those from there to the end of the list's part moved up
unfoldable pub opened : ℕ → ℕ → List ℕ → List ℕ → List ℕ
unfolding tab
opened at end new l =
    tab
    (length l)
    (λ i.
    cond
    (ltb i at)
    (get_or l i 0)
    (cond (ltb i (at + length new)) (get_or new (i - at) 0) (cond (ltb i (end + length new)) (get_or l (i - length new) 0) (get_or l i 0))))

-- w numbers taken out at a place, those from there to the end of the list's part moved down, and zeros at the end
unfoldable pub closed : ℕ → ℕ → ℕ → List ℕ → List ℕ
unfolding tab
closed at end w l =
    tab
    (length l)
    (λ i. cond (ltb i at) (get_or l i 0) (cond (ltb (i + w) end) (get_or l (i + w) 0) (cond (ltb i end) 0 (get_or l i 0))))

-- the numbers after a place, to another, are one more
unfoldable pub raised : ℕ → ℕ → List ℕ → List ℕ
unfolding tab
raised b n l = tab (length l) (λ i. cond (ltb b i && leb i n) (get_or l i 0 + 1) (get_or l i 0))

-- they are one less
unfoldable pub lowered : ℕ → ℕ → List ℕ → List ℕ
unfolding tab
lowered b n l = tab (length l) (λ i. cond (ltb b i && leb i n) (get_or l i 0 - 1) (get_or l i 0))

-- from one place to before another a test passes first and then fails
abbrev pub Downward : (ℕ → Bool) → ℕ → ℕ → Type 0
Downward f first last = (i j : ℕ) → first ≤ i → i ≤ j → j < last → f j ≡ true → f i ≡ true

-- the place where it fails first
pub record Cut (f : ℕ → Bool) (first last r : ℕ) : Type 0 where
  pub from_first : first ≤ r
  pub to_last : r ≤ last
  pub passes : (i : ℕ) → first ≤ i → i < r → f i ≡ true
  pub fails : (i : ℕ) → r ≤ i → i < last → f i ≡ false
