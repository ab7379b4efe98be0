-- Laws of the price file's lines, in the shape of the code.
-- Assumes nothing.
use Rattle.std.specs.Prelude.{Option, Some, None}
use mathlib.Core.Path.{◌≡◌, sym, ap, ◌∙◌, subst}
use mathlib.Core.Logic.{by_cases}
use mathlib.Core.Bool.{true, false}
use mathlib.Core.List.{List}
use Prim.Native.Nat.{ℕ, ◌+◌, ◌*◌, ◌≤◌, ◌<◌}
use native.Mathlib.Decide.{ℕ_discrete}
use native.Mathlib.Omega.{arith}
use lib.Dec.{lit<}
use lib.ListN.{length, drop, get_or, set, length-set}
use lib.Seq.{get_or-set_same, get_or-set_other}
use Rattle.laws.specs.Bounded.{tab}
use Rattle.laws.proofs.Bounded.{fill_more, fill_done}
use Rattle.lines.specs.Line.{line_of}
use Rattle.lines.proofs.LinesLaws.{passed_more}
use Rattle.pricing.specs.Numbered.{column}
use Rattle.pricing.specs.Inner.{number_due}
use Rattle.pricing.proofs.ColumnLines.{number_at, Passed, line_passes, column_length, column_stop, column_all}
use Rattle.pricelist.specs.PriceList.{price_line}
use Rattle.pricelist.specs.Inner.{SixteenFit, PricesRead}

module _ (file : List ℕ) where
  -- the lines of the first s symbols pass, and their prices stand in the list
  pub record ReadSoFar (list : List ℕ) (s : ℕ) : Type 0 where
    pub passed : Passed 66 9999 28 file s
    pub are : (k : ℕ) → k < s → get_or list k 0 ≡ number_at 66 9999 28 file k
    pub fits : SixteenFit list

  -- before the first symbol
  pub read_start : (list : List ℕ) → SixteenFit list → ReadSoFar list 0
  read_start list fits = record { passed = λ k l. absurd (omega arith); are = λ k l. absurd (omega arith); fits = fits }

  -- a price within its limit leaves the prices within it
  set_fits : (list : List ℕ) (s v : ℕ) → s < 16 → v ≤ 9999 → SixteenFit list → SixteenFit (set list s v)
  set_fits list s v l few fits =
      record {
        sixteen = length-set list s v ∙ fits.sixteen;
        fit = λ k.
            by_cases (ℕ_discrete k s)
            (λ (e : k ≡ s). rw (e, get_or-set_same list s v 0 (omega (arith, fits.sixteen))) few)
            (λ (e : k ≡ s → ⊥). rw (get_or-set_other list s k v 0 e) (fits.fit k));
      }

  -- one symbol more
  pub read_next
      : (list : List ℕ) (s v : ℕ) (f : Option ℕ) → s < 16 → ReadSoFar list s → f ≡ number_due 9999 s (line_of 66 2 (drop (s * 14) file)) → f ≡ Some v
      → ReadSoFar (set list s v) (s + 1)
  read_next list s v f l so due number =
      let (good, price, few) = line_passes 66 9999 28 file s v (sym due ∙ number) in
      record {
        passed = passed_more price_line file s so.passed good;
        are = fill_more list s (number_at 66 9999 28 file) v 0 (omega (arith, so.fits.sixteen)) so.are (sym price);
        fits = set_fits list s v l few so.fits;
      }

  -- another length
  pub read_length : (list : List ℕ) → SixteenFit list → (length file ≡ 224 → ⊥) → PricesRead file list false
  read_length list fits h = record { is = column_length 66 9999 28 file 16 h; fits = fits }

  -- a line that does not pass
  pub read_stop
      : (list : List ℕ) (s : ℕ) (f : Option ℕ) → s < 16 → ReadSoFar list s → f ≡ number_due 9999 s (line_of 66 2 (drop (s * 14) file)) → f ≡ None
      → PricesRead file list false
  read_stop list s f l so due none =
      record { is = column_stop 66 9999 28 file 16 (lit< tt) s l so.passed (sym due ∙ none); fits = so.fits }

  -- a loop left at its bound
  pub read_end : (list : List ℕ) (s : ℕ) → s ≡ 16 → length file ≡ 224 → ReadSoFar list s → PricesRead file list true
  read_end list s e long so =
      let all = subst (ReadSoFar list) e so in
      let is : list ≡ tab 16 (number_at 66 9999 28 file) = fill_done list 16 (number_at 66 9999 28 file) 0 so.fits.sixteen all.are in
      record { is = column_all 66 9999 28 file 16 (lit< tt) long all.passed ∙ ap column (sym is); fits = so.fits }
