-- The tables of the searches in the work buffer: what the functions on them ask and leave.
-- Inner contracts: what functions ask of and leave to each other. No promise is stated in them; a reader need not believe them.
-- Assumes nothing.
use Rattle.std.specs.Prelude.{◌≡◌, ◌⊎◌, true, false, cond, List, ℕ, ◌+◌, ◌-◌, ◌*◌, ◌≤◌, ◌<◌, eqb}
use Rattle.std.specs.Int.Bits.{bit_or}
use Rattle.laws.specs.Bounded.{sum_below}
use Rattle.laws.specs.Bits.{has, with}
use Rattle.laws.specs.Bytes.{number_at, put_number}
use Rattle.buffer.specs.Layout.{pair_part, class_part, marks_part, marks_end}
use Rattle.buffer.specs.Views.{pair_row_in, marks_in, marked_in, Held}
use Rattle.buffer.specs.Kept.{Kept, Outside}

-- ---- what stores leave

-- a set is joined into row p of node n; where the row grows it is marked
unfoldable pub joined : List ℕ → ℕ → ℕ → ℕ → List ℕ
unfolding pair_row_in marks_in
joined work n p s =
    cond (eqb (bit_or (pair_row_in work n p) s) (pair_row_in work n p)) work
    (put_number 2 (put_number 2 work (pair_part + (n * 16 + p) * 2) (bit_or (pair_row_in work n p) s)) (marks_part + n * 2) (with (marks_in work n) p))

-- the marks of node n are taken down
unfoldable pub unmarked : List ℕ → ℕ → List ℕ
unmarked work n = put_number 2 work (marks_part + n * 2) 0

-- ---- measures

-- what is left to a search: the room in the rows of pairs, each step of it more than the marks of a node, and the marks
unfoldable pub pairs_left : List ℕ → ℕ
unfolding marks_in
pairs_left work =
    65536 * sum_below 8192 (λ i. 65535 - number_at 2 work (pair_part + i * 2)) + sum_below 512 (λ n. marks_in work n)

-- ---- one buffer after another

-- only the rows of pairs and the marks are touched
abbrev pub SearchKept : List ℕ → List ℕ → Type 0
SearchKept = Kept (λ k. Outside pair_part class_part k × Outside marks_part marks_end k)

-- the rows have grown, and less is left, or nothing was stored; a row that is not marked was not, and is as it was
pub record Grown (l m : List ℕ) : Type 0 where
  pub kept : SearchKept l m
  pub held : (n p q : ℕ) → n < 512 → p < 16 → Held l n p q → Held m n p q
  pub quiet
      : (n p : ℕ) → n < 512 → p < 16 → marked_in m n p ≡ false → (marked_in l n p ≡ false) × (pair_row_in m n p ≡ pair_row_in l n p)
  pub left : pairs_left m ≤ pairs_left l
  pub less : (m ≡ l) ⊎ (pairs_left m < pairs_left l)

-- ---- what the functions on rows leave

-- a set was joined into row p of node n
pub record PairsJoined (l m : List ℕ) (n p s : ℕ) : Type 0 where
  pub exact : m ≡ joined l n p s
  pub grown : Grown l m
  pub here : (q : ℕ) → has s q ≡ true → Held m n p q
  pub new : (k r q : ℕ) → k < 512 → r < 16 → Held m k r q → Held l k r q ⊎ ((k ≡ n) × ((r ≡ p) × (has s q ≡ true)))

-- the first node from n on that has marks; `nodes` where none has
pub record NextMarked (work : List ℕ) (n nodes next : ℕ) : Type 0 where
  pub from : n ≤ next
  pub within : next ≤ nodes
  pub none : (k : ℕ) → n ≤ k → k < next → marks_in work k ≡ 0
  pub some : next < nodes → 0 < marks_in work next

-- the marks of node n were taken down; they were those of the set `due`
pub record MarksTaken (l m : List ℕ) (n due : ℕ) : Type 0 where
  pub exact : m ≡ unmarked l n
  pub were : due ≡ marks_in l n
  pub kept : SearchKept l m
  pub rows : (k p : ℕ) → k < 512 → p < 16 → pair_row_in m k p ≡ pair_row_in l k p
  pub here : marks_in m n ≡ 0
  pub others : (k : ℕ) → (k ≡ n → ⊥) → marks_in m k ≡ marks_in l k
  pub left : pairs_left m + due ≤ pairs_left l
