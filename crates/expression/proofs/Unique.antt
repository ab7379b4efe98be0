-- A text spells one expression at most: what is spelt from a position up to a character that cannot go on is determined.
-- Assumes nothing.
use mathlib.Core.Path.{◌≡◌, refl, sym, subst}
use mathlib.Core.Logic.{◌⊎◌, inl, inr, ⊎_elim}
use Prim.Native.Nat.{ℕ, suc, ◌≤◌, ◌<◌}
use native.Mathlib.Omega.{arith}
use native.Mathlib.Nat.{le_refl, le_trans, le_step}
use mathlib.Core.List.{List}
use Rattle.expression.specs.Expression.{Expr, letter, following, either, star}
use Rattle.expression.specs.Grammar.{Level, piece, row, choice, At, IsLetter, Spells, letter_at, group, again, single, then, only, or}
use Rattle.expression.specs.Stops.{Begins, by_letter, by_group, StopRow, Stop}
use Rattle.expression.proofs.Linear.{Spread, at, parts, sides, under}

-- the same end and the same expression
pub record Same (j : ℕ) (d : Expr) (k : ℕ) (e : Expr) : Type 0 where
  pub end : j ≡ k
  pub expr : d ≡ e

-- more stars
data Stars (t : List ℕ) : ℕ → Expr → ℕ → Expr → Type 0 where
  done : {j : ℕ} {d : Expr} → Stars t j d j d
  next : {j k : ℕ} {d e : Expr} → Stars t j d k e → At t k 42 → Stars t j d (suc k) (star e)

-- one of two pieces from one position goes on from the other by stars; rows and choices that cannot go on are one
abbrev Agree : ℕ → List ℕ → Level → ℕ → Expr → ℕ → Expr → Type 0
Agree a t piece j d k e = Stars t j d k e ⊎ Stars t k e j d
Agree a t row j d k e = StopRow a t j → StopRow a t k → Same j d k e
Agree a t choice j d k e = Stop a t j → Stop a t k → Same j d k e

-- ---- characters

pub begins_not : (a : ℕ) (t : List ℕ) (i c : ℕ) → 41 ≤ c → c < 97 → Begins a t i → At t i c → ⊥
begins_not a t i c l h (by_letter x) p = omega (arith, x.low, p)
begins_not a t i c l h (by_group x) p = omega (arith, x, p)

-- a bar or a closing parenthesis ends a row; the latter ends a choice too
pub stop_bar : (a : ℕ) → a ≤ 16 → (t : List ℕ) (j : ℕ) → At t j 124 → StopRow a t j
stop_bar a l t j p = record { no_star = λ q. omega (arith, p, q); no_piece = go }
  where
    go : Begins a t j → ⊥
    go (by_letter x) = omega (arith, x.high, p)
    go (by_group x) = omega (arith, x, p)

pub stop_close : (a : ℕ) (t : List ℕ) (j : ℕ) → At t j 41 → Stop a t j
stop_close a t j p =
    record {
      row_ends = record { no_star = λ q. omega (arith, p, q); no_piece = λ b. begins_not a t j 41 (omega arith) (omega arith) b p };
      no_bar = λ q. omega (arith, p, q);
    }

pub begins : {a : ℕ} {t : List ℕ} {l : Level} {i j : ℕ} {e : Expr} → Spells a t l i j e → Begins a t i
begins (letter_at x) = by_letter x
begins (group p s q) = by_group p
begins (again s p) = begins s
begins (single s) = begins s
begins (then s r) = begins s
begins (only s) = begins s
begins (or s p r) = begins s

-- ---- stars

-- stars are none, or one at the position and then others
stars_first : {t : List ℕ} {j k : ℕ} {d e : Expr} → Stars t j d k e → Same j d k e ⊎ (At t j 42 × Stars t (suc j) (star d) k e)
stars_first done = inl (record { end = refl; expr = refl })
stars_first {t} (next {j = j} {k = k} {d = d} {e = e} s p) = go (stars_first s)
  where
    go : Same j d k e ⊎ (At t j 42 × Stars t (suc j) (star d) k e)
        → Same j d (suc k) (star e) ⊎ (At t j 42 × Stars t (suc j) (star d) (suc k) (star e))
    go (inl x) = inr (rw x.end p, subst (λ (y : ℕ). Stars t (suc y) (star d) (suc k) (star e)) (sym x.end) (subst (λ (y : Expr). Stars t (suc k) (star y) (suc k) (star e)) (sym x.expr) done))
    go (inr x) = inr (x.0, next x.1 p)

-- where no star stands there are none
stars_none : {t : List ℕ} {j k : ℕ} {d e : Expr} → Stars t j d k e → (At t j 42 → ⊥) → Same j d k e
stars_none {t} {j} {k} {d} {e} s h =
    ⊎_elim (λ (x : Same j d k e). x) (λ (x : At t j 42 × Stars t (suc j) (star d) k e). absurd (h x.0)) (stars_first s)

-- one star more on one of the two
one_more : {t : List ℕ} {j k : ℕ} {d e : Expr} → At t k 42 → Stars t j d k e ⊎ Stars t k e j d → Stars t j d (suc k) (star e) ⊎ Stars t (suc k) (star e) j d
one_more p (inl s) = inl (next s p)
one_more {t} {j} {k} {d} {e} p (inr s) =
    ⊎_elim
    (λ (x : Same k e j d). inl (next (subst (λ (y : ℕ). Stars t y d k e) x.end (subst (λ (y : Expr). Stars t k y k e) x.expr done)) p))
    (λ (x : At t k 42 × Stars t (suc k) (star e) j d). inr x.1)
    (stars_first s)

swap : {A B : Type 0} → A ⊎ B → B ⊎ A
swap (inl x) = inr x
swap (inr x) = inl x

-- pieces that end where no star stands are one
pieces_same : {t : List ℕ} {j k : ℕ} {d e : Expr} → Stars t j d k e ⊎ Stars t k e j d → (At t j 42 → ⊥) → (At t k 42 → ⊥) → Same j d k e
pieces_same (inl s) p q = stars_none s p
pieces_same (inr s) p q = let x = stars_none s q in record { end = sym x.end; expr = sym x.expr }

-- ---- pieces

letter_agrees
    : {a : ℕ} {t : List ℕ} {i k : ℕ} {e : Expr} → IsLetter a t i → Spells a t piece i k e
    → Stars t (suc i) (letter i) k e ⊎ Stars t k e (suc i) (letter i)
letter_agrees x (letter_at y) = inl done
letter_agrees x (group p s q) = absurd (omega (arith, x.low, p))
letter_agrees x (again s p) = one_more p (letter_agrees x s)

group_agrees
    : {a : ℕ} {t : List ℕ} {i j k : ℕ} {d e : Expr} → At t i 40 → At t j 41
    → ((m : ℕ) (f : Expr) → Spells a t choice (suc i) m f → Stop a t j → Stop a t m → Same j d m f)
    → Spells a t piece i k e → Stars t (suc j) d k e ⊎ Stars t k e (suc j) d
group_agrees p q h (letter_at y) = absurd (omega (arith, y.low, p))
group_agrees {a} {t} {j = j} {d = d} p q h (group {j = m} {e = f} p' s q') =
    let x = h m f s (stop_close a t j q) (stop_close a t m q') in
    inl (subst (λ (y : ℕ). Stars t (suc j) d (suc y) f) x.end (subst (λ (y : Expr). Stars t (suc j) d (suc j) y) x.expr done))
group_agrees p q h (again s r) = one_more r (group_agrees p q h s)

-- ---- all levels

single_then
    : {a : ℕ} {t : List ℕ} {j k m : ℕ} {d e f : Expr} → StopRow a t j → Spells a t row m k f
    → Stars t j d m e ⊎ Stars t m e j d → ⊥
single_then {a} {t} {j} {m = m} h r s =
    let x = pieces_same s h.no_star (begins_not a t m 42 (omega arith) (omega arith) (begins r)) in
    h.no_piece (subst (λ (y : ℕ). Begins a t y) (sym x.end) (begins r))

single_agrees
    : {a : ℕ} {t : List ℕ} {i j k : ℕ} {d e : Expr}
    → ((m : ℕ) (f : Expr) → Spells a t piece i m f → Stars t j d m f ⊎ Stars t m f j d)
    → Spells a t row i k e → StopRow a t j → StopRow a t k → Same j d k e
single_agrees h (single s) x y = pieces_same (h _ _ s) x.no_star y.no_star
single_agrees h (then s r) x y = absurd (single_then x r (h _ _ s))

then_agrees
    : {a : ℕ} {t : List ℕ} {i j l k : ℕ} {d d' e : Expr} → Spells a t row j l d'
    → ((m : ℕ) (f : Expr) → Spells a t piece i m f → Stars t j d m f ⊎ Stars t m f j d)
    → ((m : ℕ) (f : Expr) → Spells a t row j m f → StopRow a t l → StopRow a t m → Same l d' m f)
    → Spells a t row i k e → StopRow a t l → StopRow a t k → Same l (following d d') k e
then_agrees r h g (single s) x y = absurd (single_then y r (swap (h _ _ s)))
then_agrees {a} {t} {j = j} {k = k} {d = d} r h g (then {j = m} {d = f} {e = f'} s r') x y =
    let z = pieces_same (h m f s) (begins_not a t j 42 (omega arith) (omega arith) (begins r)) (begins_not a t m 42 (omega arith) (omega arith) (begins r')) in
    let w = g k f' (subst (λ (n : ℕ). Spells a t row n k f') (sym z.end) r') x y in
    record { end = w.end; expr = cc (z.expr, w.expr) }

only_agrees
    : {a : ℕ} {t : List ℕ} {i j k : ℕ} {d e : Expr} → a ≤ 16
    → ((m : ℕ) (f : Expr) → Spells a t row i m f → StopRow a t j → StopRow a t m → Same j d m f)
    → Spells a t choice i k e → Stop a t j → Stop a t k → Same j d k e
only_agrees l h (only s) x y = h _ _ s x.row_ends y.row_ends
only_agrees {a} {t} l h (or {j = m} {d = f} s p r) x y =
    let z = h m f s x.row_ends (stop_bar a l t m p) in absurd (x.no_bar (subst (λ (n : ℕ). At t n 124) (sym z.end) p))

or_agrees
    : {a : ℕ} {t : List ℕ} {i j l k : ℕ} {d d' e : Expr} → a ≤ 16 → At t j 124
    → ((m : ℕ) (f : Expr) → Spells a t row i m f → StopRow a t j → StopRow a t m → Same j d m f)
    → ((m : ℕ) (f : Expr) → Spells a t choice (suc j) m f → Stop a t l → Stop a t m → Same l d' m f)
    → Spells a t choice i k e → Stop a t l → Stop a t k → Same l (either d d') k e
or_agrees {a} {t} {j = j} b p h g (only s) x y =
    let z = h _ _ s (stop_bar a b t j p) y.row_ends in absurd (y.no_bar (subst (λ (n : ℕ). At t n 124) z.end p))
or_agrees {a} {t} {j = j} {k = k} b p h g (or {j = m} {d = f} {e = f'} s q r) x y =
    let z = h m f s (stop_bar a b t j p) (stop_bar a b t m q) in
    let w = g k f' (subst (λ (n : ℕ). Spells a t choice (suc n) k f') (sym z.end) r) x y in
    record { end = w.end; expr = cc (z.expr, w.expr) }

agree
    : {a : ℕ} {t : List ℕ} {l : Level} {i j k : ℕ} {d e : Expr} → a ≤ 16 → Spells a t l i j d → Spells a t l i k e → Agree a t l j d k e
agree b (letter_at x) s = letter_agrees x s
agree b (group p r q) s = group_agrees p q (λ m f z. agree b r z) s
agree b (again r p) s = swap (one_more p (swap (agree b r s)))
agree b (single r) s = single_agrees (λ m f z. agree b r z) s
agree b (then r r') s = then_agrees r' (λ m f z. agree b r z) (λ m f z. agree b r' z) s
agree b (only r) s = only_agrees b (λ m f z. agree b r z) s
agree b (or r p r') s = or_agrees b p (λ m f z. agree b r z) (λ m f z. agree b r' z) s

-- two choices from one position that cannot go on are one
pub choice_unique
    : {a : ℕ} {t : List ℕ} {i j k : ℕ} {d e : Expr} → a ≤ 16 → Spells a t choice i j d → Spells a t choice i k e
    → Stop a t j → Stop a t k → Same j d k e
choice_unique b r s = agree b r s

pub row_unique
    : {a : ℕ} {t : List ℕ} {i j k : ℕ} {d e : Expr} → a ≤ 16 → Spells a t row i j d → Spells a t row i k e
    → StopRow a t j → StopRow a t k → Same j d k e
row_unique b r s = agree b r s

pub piece_unique
    : {a : ℕ} {t : List ℕ} {i j k : ℕ} {d e : Expr} → a ≤ 16 → Spells a t piece i j d → Spells a t piece i k e
    → (At t j 42 → ⊥) → (At t k 42 → ⊥) → Same j d k e
piece_unique b r s p q = pieces_same (agree b r s) p q

-- ---- positions

spread_more : {i j k l : ℕ} {e : Expr} → k ≤ i → j ≤ l → Spread i j e → Spread k l e
spread_more p q (at x y) = at (le_trans p x) (le_trans y q)
spread_more p q (parts s t) = parts (spread_more p (le_refl _) s) (spread_more (le_refl _) q t)
spread_more p q (sides s t) = sides (spread_more p (le_refl _) s) (spread_more (le_refl _) q t)
spread_more p q (under s) = under (spread_more p q s)

-- the letters of what a part of the text spells stand there
pub spells_spread : {a : ℕ} {t : List ℕ} {l : Level} {i j : ℕ} {e : Expr} → Spells a t l i j e → Spread i j e
spells_spread (letter_at x) = at (le_refl _) (le_refl _)
spells_spread (group p s q) = spread_more (le_step (le_refl _)) (le_step (le_refl _)) (spells_spread s)
spells_spread (again s p) = under (spread_more (le_refl _) (le_step (le_refl _)) (spells_spread s))
spells_spread (single s) = spells_spread s
spells_spread (then s r) = parts (spells_spread s) (spells_spread r)
spells_spread (only s) = spells_spread s
spells_spread (or s p r) = sides (spells_spread s) (spread_more (le_step (le_refl _)) (le_refl _) (spells_spread r))
