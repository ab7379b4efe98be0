-- Numbers in lists of bytes, lowest byte first, of any width.
-- Assumes nothing.
use Rattle.std.specs.Prelude.{◌≡◌, ℕ, zero, suc, ◌+◌, ◌*◌, ◌/◌, ◌%◌, ◌^◌, ◌<◌, ◌≤◌, List, [], ◌∷◌, get_or, length}
use Rattle.std.proofs.lemmas.List.Edits.{sets}

-- every element is a byte
abbrev pub AreBytes : List ℕ → Type 0
AreBytes l = (i : ℕ) → i < length l → get_or l i 0 < 256

-- the number whose n bytes stand from place i on
unfoldable pub number_at : ℕ → List ℕ → ℕ → ℕ
number_at zero l i = 0
number_at (suc n) l i = get_or l i 0 + 256 * number_at n l (suc i)

-- the n lowest bytes of a number
unfoldable pub bytes_of : ℕ → ℕ → List ℕ
bytes_of zero v = []
bytes_of (suc n) v = v % 256 ∷ bytes_of n (v / 256)

-- the list with the n lowest bytes of v from place i on
unfoldable pub put_number : ℕ → List ℕ → ℕ → ℕ → List ℕ
unfolding bytes_of
put_number n l i v = sets l i (bytes_of n v)

-- the statement: a number of n bytes that was written is read back
abbrev pub ReadsBack : ℕ → Type 0
ReadsBack n = (l : List ℕ) (i v : ℕ) → v < 256 ^ n → i + n ≤ length l → number_at n (put_number n l i v) i ≡ v
