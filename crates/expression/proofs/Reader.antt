-- A reader of expressions as a plain function: what it finds the text spells, and where it finds nothing the text spells nothing.
-- A piece is a letter or a group with its stars, a row goes on where a piece begins, a choice goes on at a bar: each takes all that it can, and
-- what is spelt up to a character that cannot go on is determined. The fuel falls by level, and by three with each character.
-- Assumes nothing.
use mathlib.Core.Path.{◌≡◌, refl, sym, subst, ◌∙◌}
use mathlib.Core.Logic.{◌↔◌, ⊎_elim}
use mathlib.Core.Bool.{Bool, true, false, ◌&&◌, ◌||◌, and-eq-true_iff, true≢false}
use mathlib.Core.List.{List}
use Prim.Native.Nat.{ℕ, zero, suc, ◌+◌, ◌*◌, ◌≤◌, ◌<◌}
use native.Mathlib.Omega.{arith}
use lib.Dec.{eqb, ltb, leb}
use lib.ListN.{length, get_or}
use borrow.Author.Tests.{eqb-true, eqb-false, ltb-true, leb-true, lt-ltb, le-leb, eq-eqb}
use Rattle.laws.proofs.Tests.{or_left, or_right, or_passes}
use Rattle.expression.specs.Expression.{Expr, letter, following, either, star}
use Rattle.expression.specs.Grammar.{Level, piece, row, choice, At, IsLetter, Spells, letter_at, group, again, single, then, only, or, TextOf}
use Rattle.expression.specs.Stops.{Begins, by_letter, by_group, StopAt}
use Rattle.expression.proofs.Linear.{spread_le}
use Rattle.expression.proofs.Unique.{choice_unique, spells_spread}
use Rattle.expression.proofs.NoneLaws.{at_within, begins_within, piece_none, group_none, group_open, row_none, row_none_after, choice_none, choice_none_after}
use Rattle.expression.proofs.GrammarLaws.{stop_end}

-- ---- the reader

-- the position after what was read and its expression, or nothing
pub data Reading : Type 0 where
  found : ℕ → Expr → Reading
  nothing : Reading

-- one of the first a letters stands at a position
unfoldable pub is_letter_at : ℕ → List ℕ → ℕ → Bool
is_letter_at a t i = leb 97 (get_or t i 0) && ltb (get_or t i 0) (97 + a)

-- a piece begins at a position
unfoldable pub begins_at : ℕ → List ℕ → ℕ → Bool
unfolding is_letter_at
begins_at a t i = eqb (get_or t i 0) 40 || is_letter_at a t i

-- the stars that follow a piece
unfoldable pub star_if : (ℕ → Expr → Reading) → Bool → ℕ → Expr → Reading
star_if more true j e = more (suc j) (star e)
star_if more false j e = found j e

unfoldable pub stars_on : ℕ → List ℕ → ℕ → Expr → Reading
unfolding star_if
stars_on zero t j e = found j e
stars_on (suc n) t j e = star_if (λ k d. stars_on n t k d) (eqb (get_or t j 0) 42) j e

-- a group is closed, and its stars follow
unfoldable pub close_if : List ℕ → Bool → ℕ → Expr → Reading
unfolding stars_on
close_if t true j e = stars_on (length t) t (suc j) e
close_if t false j e = nothing

unfoldable pub close_after : List ℕ → Reading → Reading
unfolding close_if
close_after t (found j e) = close_if t (eqb (get_or t j 0) 41) j e
close_after t nothing = nothing

-- a piece: whether a parenthesis stands there, and whether a letter
unfoldable pub piece_if : List ℕ → (ℕ → Reading) → ℕ → Bool → Bool → Reading
unfolding close_after stars_on
piece_if t more i true b = close_after t (more (suc i))
piece_if t more i false true = stars_on (length t) t (suc i) (letter i)
piece_if t more i false false = nothing

-- a row goes on where a piece begins
unfoldable pub then_after : Expr → Reading → Reading
then_after d (found k e) = found k (following d e)
then_after d nothing = nothing

unfoldable pub row_if : (ℕ → Reading) → Bool → ℕ → Expr → Reading
unfolding then_after
row_if more true j d = then_after d (more j)
row_if more false j d = found j d

unfoldable pub row_after : ℕ → List ℕ → (ℕ → Reading) → Reading → Reading
unfolding row_if begins_at
row_after a t more (found j d) = row_if more (begins_at a t j) j d
row_after a t more nothing = nothing

-- a choice goes on at a bar
unfoldable pub or_after : Expr → Reading → Reading
or_after d (found k e) = found k (either d e)
or_after d nothing = nothing

unfoldable pub choice_if : (ℕ → Reading) → Bool → ℕ → Expr → Reading
unfolding or_after
choice_if more true j d = or_after d (more (suc j))
choice_if more false j d = found j d

unfoldable pub choice_after : List ℕ → (ℕ → Reading) → Reading → Reading
unfolding choice_if
choice_after t more (found j d) = choice_if more (eqb (get_or t j 0) 124) j d
choice_after t more nothing = nothing

-- the longest part of a level from a position on
unfoldable pub read_at : ℕ → ℕ → List ℕ → Level → ℕ → Reading
unfolding piece_if is_letter_at row_after choice_after
read_at zero a t l i = nothing
read_at (suc n) a t piece i = piece_if t (λ j. read_at n a t choice j) i (eqb (get_or t i 0) 40) (is_letter_at a t i)
read_at (suc n) a t row i = row_after a t (λ j. read_at n a t row j) (read_at n a t piece i)
read_at (suc n) a t choice i = choice_after t (λ j. read_at n a t choice j) (read_at n a t row i)

-- the expression that the whole text spells
unfoldable pub end_if : Bool → ℕ → Expr → Reading
end_if true j e = found j e
end_if false j e = nothing

unfoldable pub end_after : List ℕ → Reading → Reading
unfolding end_if
end_after t (found j e) = end_if (eqb j (length t)) j e
end_after t nothing = nothing

unfoldable pub text_read : ℕ → List ℕ → Reading
unfolding end_after read_at
text_read a t = end_after t (read_at (length t * 3 + 3) a t choice 0)

-- ---- what it answers

-- the longest part from position i on, or there is none
abbrev pub Answer : ℕ → List ℕ → Level → ℕ → Reading → Type 0
Answer a t l i (found j e) = Spells a t l i j e × StopAt a t l j
Answer a t l i nothing = (j : ℕ) (e : Expr) → Spells a t l i j e → StopAt a t l j → ⊥

-- the same for the whole text
abbrev pub TextAnswer : ℕ → List ℕ → Reading → Type 0
TextAnswer a t (found j e) = TextOf a t e
TextAnswer a t nothing = (e : Expr) → TextOf a t e → ⊥

-- the test of a letter says whether one stands there
pub letter_says : (a : ℕ) (t : List ℕ) (i : ℕ) → (is_letter_at a t i ≡ true) ↔ IsLetter a t i
unfolding is_letter_at
letter_says a t i = (there, back)
  where
    there : is_letter_at a t i ≡ true → IsLetter a t i
    there h =
        let both = (and-eq-true_iff _ _).0 h in
        record { low = leb-true 97 (get_or t i 0) both.0; high = ltb-true (get_or t i 0) (97 + a) both.1 }

    back : IsLetter a t i → is_letter_at a t i ≡ true
    back x = (and-eq-true_iff _ _).1 (le-leb 97 (get_or t i 0) x.low, lt-ltb (get_or t i 0) (97 + a) x.high)

-- and whether a piece begins
begins_says : (a : ℕ) (t : List ℕ) (i : ℕ) → (begins_at a t i ≡ true) ↔ Begins a t i
unfolding begins_at
begins_says a t i = (there, back)
  where
    there : begins_at a t i ≡ true → Begins a t i
    there h =
        ⊎_elim
        (λ (x : eqb (get_or t i 0) 40 ≡ true). by_group (eqb-true (get_or t i 0) 40 x))
        (λ (x : is_letter_at a t i ≡ true). by_letter ((letter_says a t i).0 x))
        (or_passes (eqb (get_or t i 0) 40) (is_letter_at a t i) h)

    back : Begins a t i → begins_at a t i ≡ true
    back (by_letter x) = or_right (eqb (get_or t i 0) 40) (is_letter_at a t i) ((letter_says a t i).1 x)
    back (by_group x) = or_left (eqb (get_or t i 0) 40) (is_letter_at a t i) (eq-eqb (get_or t i 0) 40 x)

-- a test that fails
fails : {P : Type 0} (b : Bool) → (b ≡ true) ↔ P → b ≡ false → P → ⊥
fails b s h x = true≢false (sym (s.1 x) ∙ h)

-- how far a level is from the characters
abbrev rank : Level → ℕ
rank piece = 0
rank row = 1
rank choice = 2

module _ (a : ℕ) (t : List ℕ) (few : a ≤ 16) where
  -- ---- pieces

  -- the stars that stand after a piece are read with it
  stars_answer : (n i j : ℕ) (e : Expr) → length t ≤ j + n → Spells a t piece i j e → Answer a t piece i (stars_on n t j e)
  unfolding stars_on star_if
  stars_answer zero i j e l s = (s, λ p. absurd (omega (arith, at_within t j 42 (omega arith) p, l)))
  stars_answer (suc n) i j e l s =
      go (eqb (get_or t j 0) 42) refl (λ h. stars_answer n i (suc j) (star e) (omega (arith, l)) (again s (eqb-true (get_or t j 0) 42 h)))
    where
      go
          : (b : Bool) → eqb (get_or t j 0) 42 ≡ b → (eqb (get_or t j 0) 42 ≡ true → Answer a t piece i (stars_on n t (suc j) (star e)))
          → Answer a t piece i (star_if (λ k d. stars_on n t k d) b j e)
      go true h more = more h
      go false h more = (s, eqb-false (get_or t j 0) 42 h)

  -- a group, from the choice in it
  close_answer : (i : ℕ) → At t i 40 → (r : Reading) → Answer a t choice (suc i) r → Answer a t piece i (close_after t r)
  unfolding close_after close_if
  close_answer i p nothing h = group_none i p h
  close_answer i p (found j e) h = go (eqb (get_or t j 0) 41) refl
    where
      go : (b : Bool) → eqb (get_or t j 0) 41 ≡ b → Answer a t piece i (close_if t b j e)
      go true q = stars_answer (length t) i (suc j) e (omega arith) (group p h.0 (eqb-true (get_or t j 0) 41 q))
      go false q = group_open few p h.0 h.1 (eqb-false (get_or t j 0) 41 q)

  -- a piece, from the choice after its parenthesis
  piece_answer
      : (i : ℕ) (more : ℕ → Reading) → (At t i 40 → Answer a t choice (suc i) (more (suc i)))
      → Answer a t piece i (piece_if t more i (eqb (get_or t i 0) 40) (is_letter_at a t i))
  unfolding piece_if
  piece_answer i more h = go (eqb (get_or t i 0) 40) (is_letter_at a t i) refl refl
    where
      go
          : (b c : Bool) → eqb (get_or t i 0) 40 ≡ b → is_letter_at a t i ≡ c → Answer a t piece i (piece_if t more i b c)
      go true c x y = let p = eqb-true (get_or t i 0) 40 x in close_answer i p (more (suc i)) (h p)
      go false true x y = stars_answer (length t) i (suc i) (letter i) (omega arith) (letter_at ((letter_says a t i).0 y))
      go false false x y = piece_none i (eqb-false (get_or t i 0) 40 x) (fails (is_letter_at a t i) (letter_says a t i) y)

  -- ---- rows

  -- a piece and the row after it
  then_answer
      : (i j : ℕ) (d : Expr) → Answer a t piece i (found j d) → Begins a t j → (r : Reading) → Answer a t row j r
      → Answer a t row i (then_after d r)
  unfolding then_after
  then_answer i j d w b nothing h = row_none_after few w.0 w.1 b h
  then_answer i j d w b (found k e) h = (then w.0 h.0, h.1)

  -- a row, from its first piece and the row after that
  row_answer
      : (i : ℕ) (more : ℕ → Reading) (r : Reading) → Answer a t piece i r
      → ((j : ℕ) → i < j → Begins a t j → Answer a t row j (more j)) → Answer a t row i (row_after a t more r)
  unfolding row_after row_if
  row_answer i more nothing w h = row_none i w
  row_answer i more (found j d) w h = go (begins_at a t j) refl
    where
      go : (b : Bool) → begins_at a t j ≡ b → Answer a t row i (row_if more b j d)
      go true x =
          let b = (begins_says a t j).0 x in then_answer i j d w b (more j) (h j (spread_le (spells_spread w.0)) b)
      go false x = (single w.0, record { no_star = w.1; no_piece = fails (begins_at a t j) (begins_says a t j) x })

  -- ---- choices

  -- a row and the choice after the bar
  or_answer
      : (i j : ℕ) (d : Expr) → Answer a t row i (found j d) → At t j 124 → (r : Reading) → Answer a t choice (suc j) r
      → Answer a t choice i (or_after d r)
  unfolding or_after
  or_answer i j d w b nothing h = choice_none_after few w.0 w.1 b h
  or_answer i j d w b (found k e) h = (or w.0 b h.0, h.1)

  -- a choice, from its first row and the choice after that
  choice_answer
      : (i : ℕ) (more : ℕ → Reading) (r : Reading) → Answer a t row i r
      → ((j : ℕ) → i < j → At t j 124 → Answer a t choice (suc j) (more (suc j))) → Answer a t choice i (choice_after t more r)
  unfolding choice_after choice_if
  choice_answer i more nothing w h = choice_none i few w
  choice_answer i more (found j d) w h = go (eqb (get_or t j 0) 124) refl
    where
      go : (b : Bool) → eqb (get_or t j 0) 124 ≡ b → Answer a t choice i (choice_if more b j d)
      go true x =
          let p = eqb-true (get_or t j 0) 124 x in or_answer i j d w p (more (suc j)) (h j (spread_le (spells_spread w.0)) p)
      go false x = (only w.0, record { row_ends = w.1; no_bar = eqb-false (get_or t j 0) 124 x })

  -- ---- all levels

  -- with enough fuel the reader answers so at every level
  pub read_answer
      : (n : ℕ) (l : Level) (i : ℕ) → i ≤ length t → length t * 3 + rank l < n + i * 3 → Answer a t l i (read_at n a t l i)
  unfolding read_at
  read_answer zero l i w h = absurd (omega (arith, w, h))
  read_answer (suc n) piece i w h =
      piece_answer i (λ j. read_at n a t choice j)
      (λ p. let g = at_within t i 40 (omega arith) p in read_answer n choice (suc i) (omega (arith, g)) (omega (arith, h, g)))
  read_answer (suc n) row i w h =
      row_answer i (λ j. read_at n a t row j) (read_at n a t piece i) (read_answer n piece i w (omega (arith, h)))
      (λ j l b. let g = begins_within j b in read_answer n row j (omega (arith, g)) (omega (arith, h, l)))
  read_answer (suc n) choice i w h =
      choice_answer i (λ j. read_at n a t choice j) (read_at n a t row i) (read_answer n row i w (omega (arith, h)))
      (λ j l p. let g = at_within t j 124 (omega arith) p in read_answer n choice (suc j) (omega (arith, g)) (omega (arith, h, l)))

  -- the whole text, from the choice at its start
  end_answer : (r : Reading) → Answer a t choice 0 r → TextAnswer a t (end_after t r)
  unfolding end_after end_if
  end_answer nothing h = λ e s. h (length t) e s (stop_end a t)
  end_answer (found j e) h = go (eqb j (length t)) refl
    where
      go : (b : Bool) → eqb j (length t) ≡ b → TextAnswer a t (end_if b j e)
      go true x = subst (λ (k : ℕ). Spells a t choice 0 k e) (eqb-true j (length t) x) h.0
      go false x = λ f s. eqb-false j (length t) x (choice_unique few h.0 s h.1 (stop_end a t)).end

  -- the reader finds what the text spells, and nothing where it spells nothing
  pub text_answer : TextAnswer a t (text_read a t)
  unfolding text_read
  text_answer = end_answer (read_at (length t * 3 + 3) a t choice 0) (read_answer (length t * 3 + 3) choice 0 (omega arith) (omega arith))
