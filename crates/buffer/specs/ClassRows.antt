-- The class rows of the work buffer as their readers and writers see them: which pairs they hold, and what joining a set leaves. How a row
-- is packed is said by `class_row_in`, `class_place` and `apart_left` alone.
-- Inner contracts: what functions ask of and leave to each other. No promise is stated in them; a reader need not believe them.
-- Assumes nothing.
use Rattle.std.specs.Prelude.{◌≡◌, ◌⊎◌, true, List, ℕ, ◌+◌, ◌-◌, ◌*◌, ◌≤◌, ◌<◌, get_or}
use Rattle.laws.specs.Bounded.{sum_below}
use Rattle.laws.specs.Bits.{has}
use Rattle.laws.specs.Bytes.{number_at}
use Rattle.buffer.specs.Layout.{class_part, class_size, class_place, found_part}
use Rattle.buffer.specs.Views.{HeldApart}
use Rattle.buffer.specs.Kept.{Kept, SameOutside}

-- the class rows are as they were
abbrev pub ClassesKept : List ℕ → List ℕ → Type 0
ClassesKept = Kept (λ k. (class_part ≤ k) × (k < found_part))

-- only the class rows are touched
abbrev pub OnlyClasses : List ℕ → List ℕ → Type 0
OnlyClasses l m = SameOutside l m class_part found_part

-- only those of node n are
abbrev pub OnlyClassesOf : ℕ → List ℕ → List ℕ → Type 0
OnlyClassesOf n l m = SameOutside l m (class_place n) (class_place n + class_size)

-- what is left to the growth of the class rows
unfoldable pub apart_left : List ℕ → ℕ
apart_left work = sum_below 8192 (λ i. 65535 - number_at 2 work (class_part + i * 2))

-- a set was joined into row p of the states told apart past node n; the count is 1 where the row grew
pub record ApartGrown (l m : List ℕ) (n p s count : ℕ) : Type 0 where
  pub kept : OnlyClassesOf n l m
  pub held : (k r q : ℕ) → k < 512 → r < 16 → HeldApart l k r q → HeldApart m k r q
  pub here : (q : ℕ) → has s q ≡ true → HeldApart m n p q
  pub new : (k r q : ℕ) → k < 512 → r < 16 → HeldApart m k r q → HeldApart l k r q ⊎ ((k ≡ n) × ((r ≡ p) × (has s q ≡ true)))
  pub none : count ≡ 0 → m ≡ l
  pub left : apart_left m + count ≤ apart_left l

-- sixteen rows were joined into those of node n; the count is the number of rows that grew
pub record ApartJoined (l m : List ℕ) (n : ℕ) (rows : List ℕ) (count : ℕ) : Type 0 where
  pub kept : OnlyClassesOf n l m
  pub held : (k r q : ℕ) → k < 512 → r < 16 → HeldApart l k r q → HeldApart m k r q
  pub here : (r q : ℕ) → r < 16 → has (get_or rows r 0) q ≡ true → HeldApart m n r q
  pub new
      : (k r q : ℕ) → k < 512 → r < 16 → HeldApart m k r q → HeldApart l k r q ⊎ ((k ≡ n) × (has (get_or rows r 0) q ≡ true))
  pub none : count ≡ 0 → m ≡ l
  pub left : apart_left m + count ≤ apart_left l
