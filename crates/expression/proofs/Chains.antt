-- A word of positions is a chain: it begins in a first position, goes on to following positions and ends in a last one (Glushkov).
-- Assumes nothing.
use Prim.Native.Nat.{ℕ}
use mathlib.Core.List.{List, [], ◌∷◌, ◌++◌, append-nil}
use Rattle.expression.specs.Expression.{Expr, letter, following, either, star, Word, one, joined, left, right, none, more}
use Rattle.expression.specs.Positions.{position}

-- the empty word is a word
pub data Null : Expr → Type 0 where
  null_both : {d e : Expr} → Null d → Null e → Null (following d e)
  null_left : {d e : Expr} → Null d → Null (either d e)
  null_right : {d e : Expr} → Null e → Null (either d e)
  null_star : {e : Expr} → Null (star e)

-- a word begins with the position
pub data First : Expr → ℕ → Type 0 where
  first_here : {p : ℕ} → First (letter p) p
  first_front : {d e : Expr} {p : ℕ} → First d p → First (following d e) p
  first_back : {d e : Expr} {p : ℕ} → Null d → First e p → First (following d e) p
  first_left : {d e : Expr} {p : ℕ} → First d p → First (either d e) p
  first_right : {d e : Expr} {p : ℕ} → First e p → First (either d e) p
  first_star : {e : Expr} {p : ℕ} → First e p → First (star e) p

-- a word ends with the position
pub data Last : Expr → ℕ → Type 0 where
  last_here : {p : ℕ} → Last (letter p) p
  last_back : {d e : Expr} {p : ℕ} → Last e p → Last (following d e) p
  last_front : {d e : Expr} {p : ℕ} → Null e → Last d p → Last (following d e) p
  last_left : {d e : Expr} {p : ℕ} → Last d p → Last (either d e) p
  last_right : {d e : Expr} {p : ℕ} → Last e p → Last (either d e) p
  last_star : {e : Expr} {p : ℕ} → Last e p → Last (star e) p

-- in a word the second position can come right after the first
pub data Follow : Expr → ℕ → ℕ → Type 0 where
  in_front : {d e : Expr} {p q : ℕ} → Follow d p q → Follow (following d e) p q
  in_back : {d e : Expr} {p q : ℕ} → Follow e p q → Follow (following d e) p q
  across : {d e : Expr} {p q : ℕ} → Last d p → First e q → Follow (following d e) p q
  in_left : {d e : Expr} {p q : ℕ} → Follow d p q → Follow (either d e) p q
  in_right : {d e : Expr} {p q : ℕ} → Follow e p q → Follow (either d e) p q
  inside : {e : Expr} {p q : ℕ} → Follow e p q → Follow (star e) p q
  anew : {e : Expr} {p q : ℕ} → Last e p → First e q → Follow (star e) p q

-- from a position on by a list of positions to its last
pub data Chain (F : ℕ → ℕ → Type 0) : ℕ → List ℕ → ℕ → Type 0 where
  here : {p : ℕ} → Chain F p [] p
  step : {p q r : ℕ} {u : List ℕ} → F p q → Chain F q u r → Chain F p (q ∷ u) r

-- a list of positions that begins, goes on and ends as the words do
pub data Passes (e : Expr) : List ℕ → Type 0 where
  empty : Null e → Passes e []
  through : {p q : ℕ} {u : List ℕ} → First e p → Chain (Follow e) p u q → Last e q → Passes e (p ∷ u)

-- ---- from words to chains

pub chain_map : {F G : ℕ → ℕ → Type 0} → ((x y : ℕ) → F x y → G x y) → {p q : ℕ} {u : List ℕ} → Chain F p u q → Chain G p u q
chain_map f here = here
chain_map f (step {p = p} {q = q} s c) = step (f p q s) (chain_map f c)

pub chain_append
    : {F : ℕ → ℕ → Type 0} {p q r s : ℕ} {u v : List ℕ} → Chain F p u q → F q r → Chain F r v s → Chain F p (u ++ (r ∷ v)) s
chain_append here f d = step f d
chain_append (step g c) f d = step g (chain_append c f d)

following_passes : {d e : Expr} {u v : List ℕ} → Passes d u → Passes e v → Passes (following d e) (u ++ v)
following_passes (empty n) (empty m) = empty (null_both n m)
following_passes (empty n) (through f c l) = through (first_back n f) (chain_map (λ x y. in_back) c) (last_back l)
following_passes (through {p = p} {u = u} f c l) (empty m) =
    rw (append-nil (p ∷ u)) (through (first_front f) (chain_map (λ x y. in_front) c) (last_front m l))
following_passes (through f c l) (through f' c' l') =
    through (first_front f) (chain_append (chain_map (λ x y. in_front) c) (across l f') (chain_map (λ x y. in_back) c')) (last_back l')

first_star_inv : {e : Expr} {p : ℕ} → First (star e) p → First e p
first_star_inv (first_star f) = f

star_passes : {e : Expr} {u v : List ℕ} → Passes e u → Passes (star e) v → Passes (star e) (u ++ v)
star_passes (empty n) s = s
star_passes (through {p = p} {u = u} f c l) (empty m) =
    rw (append-nil (p ∷ u)) (through (first_star f) (chain_map (λ x y. inside) c) (last_star l))
star_passes (through f c l) (through f' c' l') =
    through (first_star f) (chain_append (chain_map (λ x y. inside) c) (anew l (first_star_inv f')) c') l'

left_passes : {d e : Expr} {u : List ℕ} → Passes d u → Passes (either d e) u
left_passes (empty n) = empty (null_left n)
left_passes (through f c l) = through (first_left f) (chain_map (λ x y. in_left) c) (last_left l)

right_passes : {d e : Expr} {u : List ℕ} → Passes e u → Passes (either d e) u
right_passes (empty n) = empty (null_right n)
right_passes (through f c l) = through (first_right f) (chain_map (λ x y. in_right) c) (last_right l)

-- a word passes
pub word_passes : {e : Expr} {u : List ℕ} → Word position e u → Passes e u
word_passes one = through first_here here last_here
word_passes (joined w v) = following_passes (word_passes w) (word_passes v)
word_passes (left w) = left_passes (word_passes w)
word_passes (right w) = right_passes (word_passes w)
word_passes none = empty null_star
word_passes (more w v) = star_passes (word_passes w) (word_passes v)
