-- Sets of letter positions as numbers: those that words begin and end with and that follow one another, and the sets after events.
-- Inner contracts: what functions ask of and leave to each other. No promise is stated in them; a reader need not believe them.
-- Assumes nothing.
use Rattle.std.specs.Prelude.{◌↔◌, ◌≡◌, ℕ, zero, suc, ◌+◌, ◌^◌, List, eqb, length, get_or, Bool, true, false, cond, ◌&&◌, ◌||◌}
use Rattle.std.specs.Int.Bits.{bit_or, bit_and}
use Rattle.laws.specs.Bits.{has}
use Rattle.expression.specs.Expression.{Expr, letter, following, either, star}
use Rattle.expression.specs.Positions.{StandsFor}

-- the empty word is a word
unfoldable pub nullable : Expr → Bool
nullable (letter p) = false
nullable (following d e) = nullable d && nullable e
nullable (either d e) = nullable d || nullable e
nullable (star e) = true

-- a set, or none
abbrev pub when : Bool → ℕ → ℕ
when b s = cond b s 0

-- the positions that a word begins with
unfoldable pub first : Expr → ℕ
unfolding nullable
first (letter p) = 2 ^ p
first (following d e) = bit_or (first d) (when (nullable d) (first e))
first (either d e) = bit_or (first d) (first e)
first (star e) = first e

-- the positions that a word ends with
unfoldable pub last : Expr → ℕ
unfolding nullable
last (letter p) = 2 ^ p
last (following d e) = bit_or (last e) (when (nullable e) (last d))
last (either d e) = bit_or (last d) (last e)
last (star e) = last e

-- the positions that can come right after a position
unfoldable pub follow : Expr → ℕ → ℕ
unfolding first last
follow (letter p) q = 0
follow (following d e) q = bit_or (bit_or (follow d q) (follow e q)) (when (has (last d) q) (first e))
follow (either d e) q = bit_or (follow d q) (follow e q)
follow (star e) q = bit_or (follow e q) (when (has (last e) q) (first e))

-- the union of the sets of the members below n
unfoldable pub union_over : ℕ → (ℕ → ℕ) → ℕ → ℕ
union_over zero f s = 0
union_over (suc n) f s = bit_or (union_over n f s) (when (has s n) (f n))

-- the positions below n where the letter of a symbol stands
unfoldable pub places_of : List ℕ → ℕ → ℕ → ℕ
places_of t zero s = 0
places_of t (suc n) s = bit_or (places_of t n s) (when (eqb (get_or t n 0) (97 + s)) (2 ^ n))

-- the set after one event
unfoldable pub start_set : List ℕ → Expr → ℕ → ℕ
unfolding first places_of
start_set t e s = bit_and (first e) (places_of t (length t) s)

-- the set after one event more
unfoldable pub next_set : List ℕ → Expr → ℕ → ℕ → ℕ
unfolding follow union_over places_of
next_set t e k s = bit_and (union_over (length t) (follow e) k) (places_of t (length t) s)

-- the set that an event leads to from state q: the first sets from the start, the next sets from the set of q
unfoldable pub aim : List ℕ → Expr → List ℕ → ℕ → ℕ → ℕ
unfolding start_set next_set
aim t e sets zero s = start_set t e s
aim t e sets (suc q) s = next_set t e (get_or sets (suc q) 0) s

-- the positions of an expression
pub data In : Expr → ℕ → Type 0 where
  is : {p : ℕ} → In (letter p) p
  of_front : {d e : Expr} {p : ℕ} → In d p → In (following d e) p
  of_back : {d e : Expr} {p : ℕ} → In e p → In (following d e) p
  of_left : {d e : Expr} {p : ℕ} → In d p → In (either d e) p
  of_right : {d e : Expr} {p : ℕ} → In e p → In (either d e) p
  of_star : {e : Expr} {p : ℕ} → In e p → In (star e) p

-- the number s is the set of the positions that the last event can stand for
abbrev pub IsSet : List ℕ → Expr → List ℕ → ℕ → Type 0
IsSet t e w s = (p : ℕ) → (has s p ≡ true) ↔ StandsFor t e w p
