-- Where every position stands once, a chain from a first position to a last one is a word.
-- Why: a chain cannot come back from a part of the expression that it has left, but by a star.
-- Assumes nothing.
use mathlib.Core.Path.{◌≡◌, refl, ap}
use mathlib.Core.Logic.{◌↔◌}
use Prim.Native.Nat.{ℕ, ◌≤◌, ◌<◌}
use native.Mathlib.Omega.{arith}
use mathlib.Core.List.{List, [], ◌∷◌, ◌++◌}
use Rattle.expression.specs.Expression.{Expr, letter, following, either, star, Word, one, joined, left, right, none, more}
use Rattle.expression.specs.Positions.{position}
use Rattle.expression.proofs.Chains.{Null, null_both, null_left, null_right, null_star}
use Rattle.expression.proofs.Chains.{First, first_here, first_front, first_back, first_left, first_right, first_star}
use Rattle.expression.proofs.Chains.{Last, last_here, last_back, last_front, last_left, last_right, last_star}
use Rattle.expression.proofs.Chains.{Follow, in_front, in_back, across, in_left, in_right, inside, anew}
use Rattle.expression.proofs.Chains.{Chain, here, step, Passes, empty, through, word_passes}

-- the letters of an expression stand from position i to before position j, each once and in order
pub data Spread : ℕ → ℕ → Expr → Type 0 where
  at : {i j p : ℕ} → i ≤ p → p < j → Spread i j (letter p)
  parts : {i j k : ℕ} {d e : Expr} → Spread i j d → Spread j k e → Spread i k (following d e)
  sides : {i j k : ℕ} {d e : Expr} → Spread i j d → Spread j k e → Spread i k (either d e)
  under : {i j : ℕ} {e : Expr} → Spread i j e → Spread i j (star e)

-- a position between two
pub record Between (i j p : ℕ) : Type 0 where
  pub from : i ≤ p
  pub to : p < j

pub spread_le : {i j : ℕ} {e : Expr} → Spread i j e → i < j
spread_le (at l h) = omega arith
spread_le (parts s t) = omega (arith, spread_le s, spread_le t)
spread_le (sides s t) = omega (arith, spread_le s, spread_le t)
spread_le (under s) = spread_le s

-- a position of the front or of the back part is one of the whole
pub between_front : {i j k : ℕ} {e : Expr} {p : ℕ} → Spread j k e → Between i j p → Between i k p
between_front s b = record { from = b.from; to = omega (arith, spread_le s, b.to) }

pub between_back : {i j k : ℕ} {d : Expr} {p : ℕ} → Spread i j d → Between j k p → Between i k p
between_back s b = record { from = omega (arith, spread_le s, b.from); to = b.to }

pub first_between : {i j : ℕ} {e : Expr} {p : ℕ} → Spread i j e → First e p → Between i j p
first_between (at l h) first_here = record { from = l; to = h }
first_between (parts s t) (first_front f) = between_front t (first_between s f)
first_between (parts s t) (first_back n f) = between_back s (first_between t f)
first_between (sides s t) (first_left f) = between_front t (first_between s f)
first_between (sides s t) (first_right f) = between_back s (first_between t f)
first_between (under s) (first_star f) = first_between s f

pub last_between : {i j : ℕ} {e : Expr} {p : ℕ} → Spread i j e → Last e p → Between i j p
last_between (at l h) last_here = record { from = l; to = h }
last_between (parts s t) (last_front n f) = between_front t (last_between s f)
last_between (parts s t) (last_back f) = between_back s (last_between t f)
last_between (sides s t) (last_left f) = between_front t (last_between s f)
last_between (sides s t) (last_right f) = between_back s (last_between t f)
last_between (under s) (last_star f) = last_between s f

pub follow_from : {i j : ℕ} {e : Expr} {p q : ℕ} → Spread i j e → Follow e p q → Between i j p
follow_from {q = q} (at {i = i} {j = j} {p = p} _ _) x = elim x [ ]
follow_from (parts s t) (in_front f) = between_front t (follow_from s f)
follow_from (parts s t) (in_back f) = between_back s (follow_from t f)
follow_from (parts s t) (across l f) = between_front t (last_between s l)
follow_from (sides s t) (in_left f) = between_front t (follow_from s f)
follow_from (sides s t) (in_right f) = between_back s (follow_from t f)
follow_from (under s) (inside f) = follow_from s f
follow_from (under s) (anew l f) = last_between s l

pub follow_to : {i j : ℕ} {e : Expr} {p q : ℕ} → Spread i j e → Follow e p q → Between i j q
follow_to {q = q} (at {i = i} {j = j} {p = p} _ _) x = elim x [ ]
follow_to (parts s t) (in_front f) = between_front t (follow_to s f)
follow_to (parts s t) (in_back f) = between_back s (follow_to t f)
follow_to (parts s t) (across l f) = between_back s (first_between t f)
follow_to (sides s t) (in_left f) = between_front t (follow_to s f)
follow_to (sides s t) (in_right f) = between_back s (follow_to t f)
follow_to (under s) (inside f) = follow_to s f
follow_to (under s) (anew l f) = first_between s f

-- no position is both before j and from j on
apart : {A : Type 0} {i j k p : ℕ} → Between i j p → Between j k p → A
apart b c = absurd (omega (arith, b.to, c.from))

-- ---- from chains to words

null_word : {e : Expr} → Null e → Word position e []
null_word (null_both n m) = joined (null_word n) (null_word m)
null_word (null_left n) = left (null_word n)
null_word (null_right n) = right (null_word n)
null_word null_star = none

-- a chain of d from p to a last position of d, and then a word of what comes after
record Split (d : Expr) (W : List ℕ → Type 0) (p : ℕ) (u : List ℕ) : Type 0 where
  front : List ℕ
  back : List ℕ
  stop : ℕ
  whole : u ≡ front ++ back
  chain : Chain (Follow d) p front stop
  ends : Last d stop
  word : W back

-- what is known of the chains of an expression: they are words
abbrev Sound : Expr → Type 0
Sound e = (p q : ℕ) (u : List ℕ) → First e p → Chain (Follow e) p u q → Last e q → Word position e (p ∷ u)

split_step : {d : Expr} {W : List ℕ → Type 0} {p q : ℕ} {u : List ℕ} → Follow d p q → Split d W q u → Split d W p (q ∷ u)
split_step {q = q} f s =
    record {
      front = q ∷ s.front;
      back = s.back;
      stop = s.stop;
      whole = ap (λ (l : List ℕ). q ∷ l) s.whole;
      chain = step f s.chain;
      ends = s.ends;
      word = s.word;
    }

split_here : {d : Expr} {W : List ℕ → Type 0} {p : ℕ} {u : List ℕ} → Last d p → W u → Split d W p u
split_here {p = p} {u = u} l w = record { front = []; back = u; stop = p; whole = refl; chain = here; ends = l; word = w }

-- a chain that has come to the right or back part stays there
stay_right
    : {i j k : ℕ} {d e : Expr} → Spread i j d → Spread j k e → {p q : ℕ} {u : List ℕ} → Between j k p
    → Chain (Follow (either d e)) p u q → Last (either d e) q → Chain (Follow e) p u q × Last e q
stay_right s t b here (last_left l) = apart (last_between s l) b
stay_right s t b here (last_right l) = (here, l)
stay_right s t b (step (in_left f) c) l = apart (follow_from s f) b
stay_right s t b (step (in_right f) c) l =
    let r = stay_right s t (follow_to t f) c l in (step f r.0, r.1)

stay_left
    : {i j k : ℕ} {d e : Expr} → Spread i j d → Spread j k e → {p q : ℕ} {u : List ℕ} → Between i j p
    → Chain (Follow (either d e)) p u q → Last (either d e) q → Chain (Follow d) p u q × Last d q
stay_left s t b here (last_right l) = apart b (last_between t l)
stay_left s t b here (last_left l) = (here, l)
stay_left s t b (step (in_right f) c) l = apart b (follow_from t f)
stay_left s t b (step (in_left f) c) l =
    let r = stay_left s t (follow_to s f) c l in (step f r.0, r.1)

stay_back
    : {i j k : ℕ} {d e : Expr} → Spread i j d → Spread j k e → {p q : ℕ} {u : List ℕ} → Between j k p
    → Chain (Follow (following d e)) p u q → Last (following d e) q → Chain (Follow e) p u q × Last e q
stay_back s t b here (last_front n l) = apart (last_between s l) b
stay_back s t b here (last_back l) = (here, l)
stay_back s t b (step (in_front f) c) l = apart (follow_from s f) b
stay_back s t b (step (across g f) c) l = apart (last_between s g) b
stay_back s t b (step (in_back f) c) l =
    let r = stay_back s t (follow_to t f) c l in (step f r.0, r.1)

-- a chain that begins in the front part goes over to the back part once, or ends in the front
split_front
    : {i j k : ℕ} {d e : Expr} → Spread i j d → Spread j k e → Sound e → {p q : ℕ} {u : List ℕ} → Between i j p
    → Chain (Follow (following d e)) p u q → Last (following d e) q → Split d (Word position e) p u
split_front s t h b here (last_front n l) = split_here l (null_word n)
split_front s t h b here (last_back l) = apart b (last_between t l)
split_front s t h b (step (in_front f) c) l = split_step f (split_front s t h (follow_to s f) c l)
split_front s t h b (step (in_back f) c) l = apart b (follow_from t f)
split_front s t h b (step (across g f) c) l =
    let r = stay_back s t (first_between t f) c l in split_here g (h _ _ _ f r.0 r.1)

split_star
    : {i j : ℕ} {e : Expr} → Spread i j e → Sound e → {p q : ℕ} {u : List ℕ}
    → Chain (Follow (star e)) p u q → Last (star e) q → Split e (Word position (star e)) p u
split_star s h here (last_star l) = split_here l none
split_star s h (step (inside f) c) l = split_step f (split_star s h c l)
split_star s h (step {q = q} (anew g f) c) l =
    let r = split_star s h c l in
    split_here g (rw r.whole (more (h _ _ _ f r.chain r.ends) r.word))

-- a chain from a first position to a last one is a word
pub chain_word
    : {i j : ℕ} {e : Expr} {p q : ℕ} {u : List ℕ} → Spread i j e → First e p → Chain (Follow e) p u q → Last e q → Word position e (p ∷ u)
chain_word (at l h) first_here here m = one
chain_word (at l h) first_here (step f c) m = elim f [ ]
chain_word (parts s t) (first_front f) c l =
    let r = split_front s t (λ x y v. chain_word t) (first_between s f) c l in
    rw r.whole (joined (chain_word s f r.chain r.ends) r.word)
chain_word (parts s t) (first_back n f) c l =
    let r = stay_back s t (first_between t f) c l in joined (null_word n) (chain_word t f r.0 r.1)
chain_word (sides s t) (first_left f) c l =
    let r = stay_left s t (first_between s f) c l in left (chain_word s f r.0 r.1)
chain_word (sides s t) (first_right f) c l =
    let r = stay_right s t (first_between t f) c l in right (chain_word t f r.0 r.1)
chain_word (under s) (first_star f) c l =
    let r = split_star s (λ x y v. chain_word s) c l in
    rw r.whole (more (chain_word s f r.chain r.ends) r.word)

-- the words of positions are what passes
pub word_says : {i j : ℕ} {e : Expr} → Spread i j e → (u : List ℕ) → Word position e u ↔ Passes e u
word_says {e = e} s u = (word_passes, back)
  where
    back : {v : List ℕ} → Passes e v → Word position e v
    back (empty n) = null_word n
    back (through f c l) = chain_word s f c l
