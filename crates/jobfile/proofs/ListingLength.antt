-- The length of a listing: 38 bytes for each W line and 20 for the T line; 8 for a refusal. With at most 512 nodes it is at most
-- 19,476, so it fits in 32,768 bytes.
-- Assumes nothing.
use Prim.Native.Nat.{ℕ, suc, ◌+◌, ◌*◌, ◌≤◌}
use mathlib.Core.Path.{◌≡◌, refl, ap, ◌∙◌}
use mathlib.Core.Bool.{cond}
use mathlib.Core.List.{List, [], ◌∷◌, map}
use native.Mathlib.Omega.{arith}
use lib.ListN.{length, length-append}
use Rattle.job.specs.Job.{Point, no_point, point, point_of, is_point, Node, Job}
use Rattle.planning.specs.Planning.{shadow_byte, all_enabled, enabled_count}
use Rattle.planning.specs.Listing.{ShadowLine, TotalLine, plan_of, line_at, lines_from, listing_of}
use Rattle.planning.proofs.PlanBytes.{count_le, all_enabled_plan}
use Rattle.lines.proofs.SpelledLine.{line_length_lem}
use Rattle.jobfile.specs.ListingLines.{shadow_bytes, shadows_bytes, total_bytes, listing_bytes, refused_bytes}

-- ---- the lines

-- a W line
pub shadow_length : (w : ShadowLine) → length (shadow_bytes w) ≡ 38
shadow_length w = line_length_lem 87 (w.node ∷ w.symbol ∷ w.before ∷ w.classes ∷ w.nop ∷ w.enabled ∷ [])

-- the T line
pub total_length : (t : TotalLine) → length (total_bytes t) ≡ 20
total_length t = line_length_lem 84 (t.shadows ∷ t.enabled ∷ t.passes ∷ [])

-- the X line
pub refused_length : (k : ℕ) → length (refused_bytes k) ≡ 8
refused_length k = line_length_lem 88 (k ∷ [])

-- W lines in turn
pub shadows_length : (ws : List ShadowLine) → length (shadows_bytes ws) ≡ length ws * 38
unfolding shadows_bytes
shadows_length [] = refl
shadows_length (w ∷ ws) =
    length-append (shadow_bytes w) (shadows_bytes ws) ∙ omega (arith, shadow_length w, shadows_length ws)

-- ---- the listing

-- a line for each event node among some nodes
lines_count
    : (j : Job) (plan : List ℕ) (n : ℕ) (xs : List Node)
    → length (lines_from j plan n xs) ≡ enabled_count (map (λ (x : Node). shadow_byte x.kind) xs)
unfolding lines_from enabled_count
lines_count j plan n [] = refl
lines_count j plan n (x ∷ xs) = here (point_of x.kind) (lines_from j plan (suc n) xs) ∙ ap (λ (m : ℕ). shadow_byte x.kind + m) (lines_count j plan (suc n) xs)
  where
    here : (x : Point) (rest : List ShadowLine) → length (line_at j plan n x rest) ≡ cond (is_point x) 1 0 + length rest
    here no_point rest = omega arith
    here (point a) rest = omega arith

-- 38 bytes for each event node, and 20
pub listing_length : (j : Job) → length (listing_bytes (listing_of j)) ≡ enabled_count (all_enabled j) * 38 + 20
unfolding listing_of listing_bytes
listing_length j =
    length-append (shadows_bytes (listing_of j).shadows) (total_bytes (listing_of j).total)
    ∙ omega (
      arith,
      shadows_length (listing_of j).shadows,
      total_length (listing_of j).total,
      lines_count j (plan_of j).plan 0 j.nodes,
    )

-- no more event nodes than nodes
shadows_few : (j : Job) → enabled_count (all_enabled j) ≤ length j.nodes
shadows_few j =
    let all = all_enabled_plan j in
    omega (arith, count_le (all_enabled j) all.bytes, all.long)

-- at most 19,476 bytes
pub listing_small : (j : Job) → length j.nodes ≤ 512 → length (listing_bytes (listing_of j)) ≤ 19476
listing_small j h = omega (arith, listing_length j, shadows_few j)

-- so there is room in 32,768
pub listing_in_buffer : (j : Job) → length j.nodes ≤ 512 → length (listing_bytes (listing_of j)) ≤ 32768
listing_in_buffer j h = omega (arith, listing_small j h)
