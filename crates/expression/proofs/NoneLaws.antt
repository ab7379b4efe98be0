-- Where nothing of a level is spelt, from what is spelt below it; and where a character stands the text goes on.
-- Assumes nothing.
use mathlib.Core.Path.{sym, subst}
use mathlib.Core.List.{List}
use Prim.Native.Nat.{ℕ, suc, ◌≤◌, ◌<◌}
use native.Mathlib.Omega.{arith}
use lib.ListN.{length}
use Rattle.expression.specs.Expression.{Expr}
use Rattle.expression.specs.Grammar.{Level, piece, row, choice, At, IsLetter, Spells, letter_at, group, again, single, then, only, or}
use Rattle.expression.specs.Stops.{Begins, by_letter, by_group, StopRow, Stop, StopAt}
use Rattle.expression.proofs.Unique.{choice_unique, row_unique, piece_unique, begins, begins_not, stop_bar, stop_close}
use Rattle.expression.proofs.GrammarLaws.{char_within}

-- nothing of a level is spelt from a position to where it cannot go on
abbrev pub NoneAt : ℕ → List ℕ → Level → ℕ → Type 0
NoneAt a t l i = (j : ℕ) (e : Expr) → Spells a t l i j e → StopAt a t l j → ⊥

-- where a character stands the text goes on
pub at_within : (t : List ℕ) (j c : ℕ) → 0 < c → At t j c → j < length t
at_within t j c h p = char_within t j (omega (arith, h, p))

-- a piece that begins with a parenthesis holds a choice
record Opened (a : ℕ) (t : List ℕ) (i : ℕ) : Type 0 where
  stop : ℕ
  expr : Expr
  inner : Spells a t choice (suc i) stop expr
  closed : At t stop 41

module _ {a : ℕ} {t : List ℕ} where
  -- where a piece begins the text goes on
  pub letter_within : (j : ℕ) → IsLetter a t j → j < length t
  letter_within j x = char_within t j (omega (arith, x.low))

  pub begins_within : (j : ℕ) → Begins a t j → j < length t
  begins_within j (by_letter x) = letter_within j x
  begins_within j (by_group p) = at_within t j 40 (omega arith) p

  -- ---- pieces

  -- where neither a letter nor a parenthesis stands there is no piece
  pub piece_none : (i : ℕ) → (At t i 40 → ⊥) → (IsLetter a t i → ⊥) → NoneAt a t piece i
  piece_none i p n j e s x = go (begins s)
    where
      go : Begins a t i → ⊥
      go (by_letter y) = n y
      go (by_group y) = p y

  -- below its stars
  opened : {i j : ℕ} {e : Expr} → At t i 40 → Spells a t piece i j e → Opened a t i
  opened p (letter_at x) = absurd (omega (arith, x.low, p))
  opened p (group {j = j} {e = e} q s r) = record { stop = j; expr = e; inner = s; closed = r }
  opened p (again s q) = opened p s

  -- with no choice after the parenthesis there is no piece
  pub group_none : (i : ℕ) → At t i 40 → NoneAt a t choice (suc i) → NoneAt a t piece i
  group_none i p h j e s x = let o = opened p s in h o.stop o.expr o.inner (stop_close a t o.stop o.closed)

  -- nor with a choice that no parenthesis closes
  pub group_open
      : {i m : ℕ} {d : Expr} → a ≤ 16 → At t i 40 → Spells a t choice (suc i) m d → Stop a t m → (At t m 41 → ⊥) → NoneAt a t piece i
  group_open few p w v n j e s x =
      let o = opened p s in
      let z = choice_unique few w o.inner v (stop_close a t o.stop o.closed) in
      n (subst (λ (y : ℕ). At t y 41) (sym z.end) o.closed)

  -- ---- rows

  -- no star stands where a part begins
  no_star : {l : Level} {i j : ℕ} {e : Expr} → Spells a t l i j e → At t i 42 → ⊥
  no_star {i = i} s p = begins_not a t i 42 (omega arith) (omega arith) (begins s) p

  -- with no piece there is no row
  pub row_none : (i : ℕ) → NoneAt a t piece i → NoneAt a t row i
  row_none i h j e (single s) x = h j e s x.no_star
  row_none i h j e (then {j = m} {d = d} s r) x = h m d s (no_star r)

  -- nor with a piece that another follows and no row from there
  pub row_none_after
      : {i m : ℕ} {d : Expr} → a ≤ 16 → Spells a t piece i m d → (At t m 42 → ⊥) → Begins a t m → NoneAt a t row m → NoneAt a t row i
  row_none_after few w v b h j e (single s) x =
      let z = piece_unique few w s v x.no_star in x.no_piece (subst (λ (n : ℕ). Begins a t n) z.end b)
  row_none_after few w v b h j e (then {e = f} s r) x =
      let z = piece_unique few w s v (no_star r) in h j f (subst (λ (n : ℕ). Spells a t row n j f) (sym z.end) r) x

  -- ---- choices

  -- with no row there is no choice
  pub choice_none : (i : ℕ) → a ≤ 16 → NoneAt a t row i → NoneAt a t choice i
  choice_none i few h j e (only s) x = h j e s x.row_ends
  choice_none i few h j e (or {j = m} {d = d} s p r) x = h m d s (stop_bar a few t m p)

  -- nor with a row and a bar and no choice after it
  pub choice_none_after
      : {i m : ℕ} {d : Expr} → a ≤ 16 → Spells a t row i m d → StopRow a t m → At t m 124 → NoneAt a t choice (suc m)
      → NoneAt a t choice i
  choice_none_after few w v b h j e (only s) x =
      let z = row_unique few w s v x.row_ends in x.no_bar (subst (λ (n : ℕ). At t n 124) z.end b)
  choice_none_after few w v b h j e (or {j = k} {e = f} s p r) x =
      let z = row_unique few w s v (stop_bar a few t k p) in
      h j f (subst (λ (n : ℕ). Spells a t choice (suc n) j f) (sym z.end) r) x
