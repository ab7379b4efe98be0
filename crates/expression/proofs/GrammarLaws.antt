-- The statement on the grammar: what is spelt up to the end of the text is determined, and the letters of a part are its characters from `a` on.
-- Assumes nothing.
use mathlib.Core.Path.{◌≡◌, refl, subst}
use mathlib.Core.Logic.{◌≢◌, by_cases}
use mathlib.Core.List.{List, [], ◌∷◌}
use Prim.Native.Nat.{ℕ, zero, suc, ◌≤◌, ◌<◌}
use native.Mathlib.Nat.{not-suc-le-zero, le_of_suc-le-suc}
use native.Mathlib.Decide.{ℕ_discrete, dec_lt}
use native.Mathlib.Omega.{arith}
use lib.ListN.{length, get_or}
use Rattle.expression.specs.Expression.{Expr}
use Rattle.expression.specs.Grammar.{Level, At, IsLetter, Spells, letter_at, group, again, single, then, only, or, TextOf, GrammarSays}
use Rattle.expression.specs.Stops.{Begins, by_letter, by_group, Stop}
use Rattle.expression.proofs.Unique.{choice_unique}

-- no character stands past the end
pub get_d_past : (l : List ℕ) (i : ℕ) → length l ≤ i → get_or l i 0 ≡ 0
get_d_past [] i h = refl
get_d_past (x ∷ l) zero h = absurd (not-suc-le-zero h)
get_d_past (x ∷ l) (suc i) h = get_d_past l i (le_of_suc-le-suc h)

-- where a character stands the text has not ended
pub char_within : (l : List ℕ) (i : ℕ) → 0 < get_or l i 0 → i < length l
char_within l i h = go (λ (g : length l ≤ i). omega (arith, get_d_past l i g))
  where
    go : (length l ≤ i → ⊥) → i < length l
    go f = omega (arith, f)

-- nothing goes on from the end
pub stop_end : (a : ℕ) (t : List ℕ) → Stop a t (length t)
stop_end a t =
    record {
      row_ends = record { no_star = λ q. omega (arith, past, q); no_piece = go };
      no_bar = λ q. omega (arith, past, q);
    }
  where
    past : get_or t (length t) 0 ≡ 0
    past = get_d_past t (length t) (omega arith)

    go : Begins a t (length t) → ⊥
    go (by_letter x) = omega (arith, x.low, past)
    go (by_group x) = omega (arith, x, past)

-- a text spells one expression at most
pub text_unique : (a : ℕ) (t : List ℕ) (d e : Expr) → a ≤ 16 → TextOf a t d → TextOf a t e → d ≡ e
text_unique a t d e few x y = (choice_unique few x y (stop_end a t) (stop_end a t)).expr

-- where the letters are letters of another number of them too, the same is spelt
spells_map
    : {a b : ℕ} {t : List ℕ} {l : Level} {i j : ℕ} {e : Expr} → ((p : ℕ) → IsLetter a t p → IsLetter b t p)
    → Spells a t l i j e → Spells b t l i j e
spells_map f (letter_at x) = letter_at (f _ x)
spells_map f (group p s q) = group p (spells_map f s) q
spells_map f (again s p) = again (spells_map f s) p
spells_map f (single s) = single (spells_map f s)
spells_map f (then s r) = then (spells_map f s) (spells_map f r)
spells_map f (only s) = only (spells_map f s)
spells_map f (or s p r) = or (spells_map f s) p (spells_map f r)

-- the parentheses, the star and the bar are no letters
not_letter : {A : Type 0} (t : List ℕ) (p i c : ℕ) → At t i c → p ≡ i → (c < 97) → IsLetter 16 t p → A
not_letter t p i c x y h l = absurd (omega (arith, x, h, (subst (λ (k : ℕ). IsLetter 16 t k) y l).low))

not_bar : {A : Type 0} (t : List ℕ) (p i : ℕ) → At t i 124 → p ≡ i → IsLetter 16 t p → A
not_bar t p i x y l = absurd (omega (arith, x, (subst (λ (k : ℕ). IsLetter 16 t k) y l).high))

-- every letter in a part is one of its letters
spells_letters
    : {a : ℕ} {t : List ℕ} {l : Level} {i j : ℕ} {e : Expr} → Spells a t l i j e
    → (p : ℕ) → i ≤ p → p < j → IsLetter 16 t p → IsLetter a t p
spells_letters {a} {t} (letter_at {i = i} x) p lo hi y = subst (λ (k : ℕ). IsLetter a t k) (omega (arith, lo, hi)) x
spells_letters {t = t} (group {i = i} {j = j} o s c) p lo hi y =
    by_cases (ℕ_discrete p i)
    (λ (z : p ≡ i). not_letter t p i 40 o z (omega arith) y)
    (λ (z : p ≢ i).
    by_cases (ℕ_discrete p j)
    (λ (w : p ≡ j). not_letter t p j 41 c w (omega arith) y)
    (λ (w : p ≢ j). spells_letters s p (omega (arith, z, lo)) (omega (arith, w, hi)) y))
spells_letters {t = t} (again {j = j} s c) p lo hi y =
    by_cases (ℕ_discrete p j)
    (λ (w : p ≡ j). not_letter t p j 42 c w (omega arith) y)
    (λ (w : p ≢ j). spells_letters s p lo (omega (arith, w, hi)) y)
spells_letters (single s) p lo hi y = spells_letters s p lo hi y
spells_letters (then {j = j} s r) p lo hi y =
    by_cases (dec_lt p j)
    (λ (w : p < j). spells_letters s p lo w y)
    (λ (w : p < j → ⊥). spells_letters r p (omega (arith, w)) hi y)
spells_letters (only s) p lo hi y = spells_letters s p lo hi y
spells_letters {t = t} (or {j = j} s c r) p lo hi y =
    by_cases (dec_lt p j)
    (λ (w : p < j). spells_letters s p lo w y)
    (λ (w : p < j → ⊥).
    by_cases (ℕ_discrete p j)
    (λ (z : p ≡ j). not_bar t p j c z y)
    (λ (z : p ≢ j). spells_letters r p (omega (arith, w, z)) hi y))

-- the statement
pub grammar_says : GrammarSays
grammar_says =
    record {
      once = λ t d e x y. text_unique 16 t d e (omega arith) x y;
      fewer = λ a t e few x. spells_map (λ p l. record { low = l.low; high = omega (arith, l.high, few) }) x;
      letters = λ a t e i few x l. spells_letters x i (omega arith) (char_within t i (omega (arith, l.low))) l;
      all_letters = λ a t e few x f. spells_map f x;
    }
