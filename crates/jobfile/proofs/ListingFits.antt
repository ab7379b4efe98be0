-- The numbers of the listing fit their fields: a node is below 512, a symbol below 16, a set of states below 65,536, there are at most
-- 16 classes, 512 points and 513 passes, and marks are 0 or 1. So what is printed is read back.
-- Assumes nothing.
use Prim.Native.Nat.{ℕ, zero, suc, ◌+◌, ◌≤◌, ◌<◌}
use mathlib.Core.Path.{◌≡◌, refl, sym, ap, ◌∙◌}
use mathlib.Core.Logic.{⊎_elim}
use mathlib.Core.Bool.{Bool, true, false, cond}
use mathlib.Core.List.{List, [], ◌∷◌, ◌++◌, map, append-nil}
use native.Mathlib.Omega.{arith}
use lib.ListN.{length, get_or, length-map}
use Rattle.laws.proofs.Bounded.{sum_bound}
use Rattle.laws.proofs.Bits.{members_below}
use Rattle.job.specs.Job.{Point, no_point, point, point_of, Node, Job, no_node, KindBelow}
use Rattle.job.specs.Found.{states_before, lowest, class_count, nop_shadow}
use Rattle.job.specs.Search.{faithful, arrives}
use Rattle.planning.specs.Listing.{ShadowLine, Listing, plan_of, shadow_line, line_at, lines_from, listing_of}
use Rattle.job.proofs.FoundLaws.{has_set_of}
use Rattle.planning.proofs.PlanningResult.{planned_plan, planned_fits}
use Rattle.lines.specs.Line.{line, write_lines, found, line_of}
use Rattle.lines.specs.Lines.{lines, lines_of}
use Rattle.lines.specs.Written.{Fits, GoodLines, good_none, Good-more}
use Rattle.lines.proofs.SpelledLine.{line_read}
use Rattle.lines.proofs.SpelledLines.{written_stand, lines_says}
use Rattle.jobfile.specs.File.{turned, read_job}
use Rattle.jobfile.specs.Spellable.{Spellable}
use Rattle.jobfile.specs.ListingLines.{shadow_numbers, total_numbers, shadows_bytes, total_bytes, listing_bytes}
use Rattle.jobfile.specs.ListingFits.{ListingFits, max_refusal, shadow_kind, ListingReadBack}
use Rattle.jobfile.proofs.RefusalLaws.{turned_says}
use Rattle.jobfile.proofs.AnswerLaws.{turned_number}

-- a mark is 0 or 1
mark_small : (b : Bool) → cond b 1 0 ≤ 1
mark_small true = omega arith
mark_small false = omega arith

-- ---- the lines of a job

module _ (j : Job) (spell : Spellable j) where
  -- a before set is a set of at most 16 states
  before_small : (n : ℕ) → states_before j n < 65536
  before_small n =
      members_below 16 (states_before j n)
      (λ q h. omega (arith, ((has_set_of j.rule.states (arrives j n) q).0 h).0, spell.well_formed_holds.rule.few_states))

  -- there are at most 16 classes
  classes_small : (n : ℕ) → class_count j n ≤ 16
  classes_small n =
      omega (
        arith,
        sum_bound j.rule.states 1 (λ q. cond (lowest j n q) 1 0) (λ q l. mark_small (lowest j n q)),
        spell.well_formed_holds.rule.few_states,
      )

  -- the line of a point
  shadow_fits : (n a : ℕ) → n < 512 → a < 16 → Fits (shadow_numbers (shadow_line j (plan_of j).plan n a))
  shadow_fits n a few low zero = omega arith
  shadow_fits n a few low (suc zero) = omega arith
  shadow_fits n a few low (suc (suc zero)) = omega (arith, before_small n)
  shadow_fits n a few low (suc (suc (suc zero))) = omega (arith, classes_small n)
  shadow_fits n a few low (suc (suc (suc (suc zero)))) = omega (arith, mark_small (nop_shadow j n a))
  shadow_fits n a few low (suc (suc (suc (suc (suc zero))))) = omega (arith, (planned_plan (faithful j) j).bytes n)
  shadow_fits n a few low (suc (suc (suc (suc (suc (suc i)))))) = omega arith

  -- a node's line, where it has one, and those after it
  line_fits
      : (n : ℕ) → n < 512 → (x : Point) → ((s : ℕ) → x ≡ point s → s < j.rule.symbols) → (rest : List ShadowLine)
      → ((i : ℕ) → Fits (get_or (map shadow_numbers rest) i []))
      → (i : ℕ) → Fits (get_or (map shadow_numbers (line_at j (plan_of j).plan n x rest)) i [])
  line_fits n few no_point below rest h i = h i
  line_fits n few (point s) below rest h zero =
      shadow_fits n s few (omega (arith, below s refl, spell.well_formed_holds.rule.few_symbols))
  line_fits n few (point s) below rest h (suc i) = h i

  -- the lines of the nodes from number n on
  lines_fit
      : (n : ℕ) (xs : List Node) → n + length xs ≤ 512 → ((m : ℕ) → KindBelow j.rule.symbols (get_or xs m no_node).kind)
      → (i : ℕ) → Fits (get_or (map shadow_numbers (lines_from j (plan_of j).plan n xs)) i [])
  unfolding lines_from
  lines_fit n [] few below i = λ k. omega arith
  lines_fit n (x ∷ xs) few below i =
      line_fits n (omega arith) (point_of x.kind) (below 0).point_below_holds (lines_from j (plan_of j).plan (suc n) xs)
      (lines_fit (suc n) xs (omega arith) (λ m. below (suc m))) i

  -- the W lines
  shadows_fit : (i : ℕ) → Fits (get_or (map shadow_numbers (listing_of j).shadows) i [])
  unfolding listing_of
  shadows_fit = lines_fit 0 j.nodes (omega (arith, spell.few_nodes)) spell.well_formed_holds.kinds

  -- the T line
  total_fits : Fits (total_numbers (listing_of j).total)
  unfolding listing_of
  total_fits zero = omega (arith, (planned_fits (faithful j) j spell.few_nodes).shadows)
  total_fits (suc zero) = omega (arith, (planned_fits (faithful j) j spell.few_nodes).enabled)
  total_fits (suc (suc zero)) = omega (arith, (planned_fits (faithful j) j spell.few_nodes).passes)
  total_fits (suc (suc (suc i))) = omega arith

-- ---- the line of a refusal

-- its number
refused_fits : (k : ℕ) → k ≤ max_refusal → Fits (k ∷ [])
refused_fits k few zero = omega arith
refused_fits k few (suc i) = omega arith

-- the number of a file that is turned back
turned_small : (file : List ℕ) (k : ℕ) → read_job file ≡ turned k → k ≤ max_refusal
turned_small file k e =
    ⊎_elim (λ (one : k ≡ 1). omega arith) (λ (some : (3 ≤ k) × (k ≤ 10)). omega arith)
    (turned_number ((turned_says file k).0 e))

-- the numbers of the listing fit their fields
pub listing_fits : ListingFits
listing_fits = record { shadows = shadows_fit; total = total_fits; refused = refused_fits; turned_back = turned_small }

-- ---- read back

-- W lines are lines written one after the other
shadows_written : (ws : List ShadowLine) → shadows_bytes ws ≡ write_lines 87 (map shadow_numbers ws)
unfolding shadows_bytes write_lines
shadows_written [] = refl
shadows_written (w ∷ ws) = ap (λ (bytes : List ℕ). line 87 (shadow_numbers w) ++ bytes) (shadows_written ws)

-- W lines that fit are lines of their kind
shadows_good
    : (ws : List ShadowLine) → ((i : ℕ) → Fits (get_or (map shadow_numbers ws) i [])) → (i : ℕ) (before : List ℕ)
    → GoodLines shadow_kind i before (map shadow_numbers ws)
shadows_good [] fit i before = good_none
shadows_good (w ∷ ws) fit i before = Good-more refl (fit 0) refl (shadows_good ws (λ m. fit (suc m)) (suc i) (shadow_numbers w))

-- a line with nothing after it
line_back : (letter : ℕ) (ns : List ℕ) → Fits ns → line_of letter (length ns) (line letter ns) ≡ found ns
line_back letter ns fit = ap (line_of letter (length ns)) (sym (append-nil (line letter ns))) ∙ line_read letter ns [] fit

-- the W lines of a listing
shadows_back
    : (l : Listing) → ((i : ℕ) → Fits (get_or (map shadow_numbers l.shadows) i []))
    → lines_of shadow_kind (length l.shadows) 0 [] (listing_bytes l) ≡ lines (map shadow_numbers l.shadows) (total_bytes l.total)
unfolding listing_bytes
shadows_back l fit =
    (lines_says shadow_kind (length l.shadows) 0 [] (listing_bytes l) (map shadow_numbers l.shadows) (total_bytes l.total)).1
    (record {
      count = length-map l.shadows shadow_numbers;
      good = shadows_good l.shadows fit 0 [];
      stand =
          rw (shadows_written l.shadows) (written_stand shadow_kind (total_bytes l.total) (shadows_good l.shadows fit 0 []));
    })

-- what is printed is read back as the listing's numbers
pub listing_read_back : ListingReadBack
listing_read_back =
    record {
      shadows = λ j spell. shadows_back (listing_of j) (shadows_fit j spell);
      total = λ j spell. line_back 84 (total_numbers (listing_of j).total) (total_fits j spell);
      refused = λ k few. line_back 88 (k ∷ []) (refused_fits k few);
    }
