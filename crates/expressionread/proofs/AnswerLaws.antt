-- What the reader answers at each level, from what it answers below.
-- Assumes nothing.
use mathlib.Core.Path.{◌≡◌, sym, subst}
use mathlib.Core.List.{List}
use Prim.Native.Nat.{ℕ, ◌+◌, ◌≤◌, ◌<◌}
use native.Mathlib.Numerals.{add-one}
use native.Mathlib.Omega.{arith}
use lib.ListN.{length}
use Rattle.expression.specs.Expression.{Expr}
use Rattle.expression.specs.Grammar.{Level, piece, row, choice, At, Spells, single, only, TextOf}
use Rattle.expression.specs.Stops.{Begins}
use Rattle.expression.proofs.Linear.{spread_le}
use Rattle.expression.proofs.Unique.{choice_unique, spells_spread}
use Rattle.expressionparts.specs.declared.part.Part.{Part}
use Rattle.expressionparts.specs.Reading.{Shown, Whole, Linked, followed, either_part, Ready}
use Rattle.expression.proofs.GrammarLaws.{stop_end}
use Rattle.expression.proofs.NoneLaws.{NoneAt, group_none, group_open, row_none_after, choice_none_after}
use Rattle.expressionparts.proofs.PartLaws.{then_shown, or_shown}

-- ---- answers

-- what a function gives is another name for a part
pub renamed
    : {a : ℕ} {t : List ℕ} {l : Level} {i : ℕ} {f₀ f : List ℕ} {d r : Part} → r ≡ d → Whole a t l i f₀ f d → Whole a t l i f₀ f r
renamed {a} {t} {l} {i} {f₀} {f} e w = subst (λ (x : Part). Whole a t l i f₀ f x) (sym e) w

pub renamed_shown
    : {a : ℕ} {t : List ℕ} {l : Level} {i : ℕ} {f₀ f : List ℕ} {d r : Part} → r ≡ d → Shown a t l i f₀ f d → Shown a t l i f₀ f r
renamed_shown {a} {t} {l} {i} {f₀} {f} e s = subst (λ (x : Part). Shown a t l i f₀ f x) (sym e) s

module _ {a : ℕ} {t : List ℕ} where
  -- the same part at another level
  raised
      : {l m : Level} {i : ℕ} {f₀ f : List ℕ} {d : Part} (s : Shown a t l i f₀ f d) → Spells a t m i d.end s.expr → Shown a t m i f₀ f d
  raised s x =
      record {
        expr = s.expr;
        spelt = x;
        empty_word = s.empty_word;
        firsts = s.firsts;
        lasts = s.lasts;
        follows = s.follows;
        kept = s.kept;
        long = s.long;
      }

  -- ---- rows

  -- one piece alone
  pub row_single
      : {i : ℕ} {f₀ f : List ℕ} {d : Part} → Whole a t piece i f₀ f d → (Begins a t d.end → ⊥) → Whole a t row i f₀ f d
  row_single w n =
      record { shown = raised w.shown (single w.shown.spelt); stops = record { no_star = w.stops; no_piece = n } }

  -- a piece and the rest of the row
  pub row_then
      : {i : ℕ} {f₀ f₁ f₂ f₃ : List ℕ} {d e : Part} → length t ≤ length f₀ → Whole a t piece i f₀ f₁ d → Whole a t row d.end f₁ f₂ e
      → Linked f₂ f₃ d.last e.first → Whole a t row i f₀ f₃ (followed d e)
  row_then {i} {f₀} {f₁} {f₂} {f₃} {d} {e} room w v k =
      record { shown = then_shown i f₀ f₁ f₂ f₃ d e room k w.shown v.shown; stops = v.stops }

  -- ---- choices

  -- one row alone
  pub choice_only
      : {i : ℕ} {f₀ f : List ℕ} {d : Part} → Whole a t row i f₀ f d → (At t d.end 124 → ⊥) → Whole a t choice i f₀ f d
  choice_only w n = record { shown = raised w.shown (only w.shown.spelt); stops = record { row_ends = w.stops; no_bar = n } }

  -- a row and the other choices
  pub choice_or
      : {i : ℕ} {f₀ f₁ f₂ : List ℕ} {d e : Part} → Whole a t row i f₀ f₁ d → At t d.end 124 → Whole a t choice (d.end + 1) f₁ f₂ e
      → Whole a t choice i f₀ f₂ (either_part d e)
  choice_or {i} {f₀} {f₁} {f₂} {d} {e} w p v =
      record { shown = or_shown i f₀ f₁ f₂ d e p w.shown v.shown; stops = v.stops }

  -- ---- none

  -- a piece with another right after it, and no row from there
  pub row_none_past
      : {i : ℕ} {f₀ f : List ℕ} {d : Part} → a ≤ 16 → Whole a t piece i f₀ f d → Begins a t d.end → NoneAt a t row d.end
      → NoneAt a t row i
  row_none_past few w b h = row_none_after few w.shown.spelt w.stops b h

  -- a row and a bar, and no choice after it
  pub choice_none_past
      : {i : ℕ} {f₀ f : List ℕ} {d : Part} → a ≤ 16 → Whole a t row i f₀ f d → At t d.end 124 → NoneAt a t choice (d.end + 1)
      → NoneAt a t choice i
  choice_none_past {d = d} few w b h =
      choice_none_after few w.shown.spelt w.stops b (subst (NoneAt a t choice) (add-one d.end) h)

  -- no choice after the parenthesis
  pub group_none_past : (i : ℕ) → At t i 40 → NoneAt a t choice (i + 1) → NoneAt a t piece i
  group_none_past i p h = group_none i p (subst (NoneAt a t choice) (add-one i) h)

  -- a choice that no parenthesis closes
  pub group_open_past
      : {i : ℕ} {f₀ f : List ℕ} {d : Part} → a ≤ 16 → At t i 40 → Whole a t choice (i + 1) f₀ f d → (At t d.end 41 → ⊥)
      → NoneAt a t piece i
  group_open_past {i = i} {d = d} few p w n =
      group_open few p (subst (λ (k : ℕ). Spells a t choice k d.end w.shown.expr) (add-one i) w.shown.spelt) w.stops n

  -- ---- the calls

  -- after a part has been read the buffer is ready for the next
  pub ready_after : {l : Level} {i : ℕ} {f₀ f : List ℕ} {d : Part} → Ready a t f₀ → Whole a t l i f₀ f d → Ready a t f
  ready_after h w =
      record { few = h.few; room = omega (arith, h.room, w.shown.long); fits = omega (arith, h.fits, w.shown.long) }

  -- a part has a character
  pub goes_on : {l : Level} {i : ℕ} {f₀ f : List ℕ} {d : Part} → Whole a t l i f₀ f d → i < d.end
  goes_on w = spread_le (spells_spread w.shown.spelt)

  -- ---- the whole text

  -- the longest choice ends before the text does
  pub text_longer
      : {f₀ f : List ℕ} {d : Part} → a ≤ 16 → Whole a t choice 0 f₀ f d → (d.end ≡ length t → ⊥) → (e : Expr) → TextOf a t e → ⊥
  text_longer few w h e s = h (choice_unique few w.shown.spelt s w.stops (stop_end a t)).end
