-- The listing as bytes (document 01, "One listing in full"): "lines are built as in the job file, fields and end byte included".
-- Assumes nothing.
use Rattle.std.specs.Prelude.{List, [], ◌∷◌, ◌++◌, ℕ}
use Rattle.planning.specs.Listing.{ShadowLine, TotalLine, Listing, listing_of}
use Rattle.lines.specs.Line.{line}
use Rattle.jobfile.specs.File.{Answer, accepted, turned}

-- "W: node, symbol, before set, class count, nop mark, watched"
abbrev pub shadow_numbers : ShadowLine → List ℕ
shadow_numbers w = w.node ∷ w.symbol ∷ w.before ∷ w.classes ∷ w.nop ∷ w.enabled ∷ []

-- a W line
abbrev pub shadow_bytes : ShadowLine → List ℕ
shadow_bytes w = line 87 (shadow_numbers w)

-- "a W line for each event node in number order"
unfoldable pub shadows_bytes : List ShadowLine → List ℕ
shadows_bytes [] = []
shadows_bytes (w ∷ ws) = shadow_bytes w ++ shadows_bytes ws

-- "T: event nodes, watched, passes"
abbrev pub total_numbers : TotalLine → List ℕ
total_numbers t = t.shadows ∷ t.enabled ∷ t.passes ∷ []

-- the T line
abbrev pub total_bytes : TotalLine → List ℕ
total_bytes t = line 84 (total_numbers t)

-- the W lines, then the T line
unfoldable pub listing_bytes : Listing → List ℕ
unfolding shadows_bytes
listing_bytes l = shadows_bytes l.shadows ++ total_bytes l.total

-- "for a refusal it prints only X and the number in one field"
abbrev pub refused_bytes : ℕ → List ℕ
refused_bytes k = line 88 (k ∷ [])

-- what is printed for a file's answer
abbrev pub printed_for : Answer → List ℕ
printed_for (accepted j) = listing_bytes (listing_of j)
printed_for (turned k) = refused_bytes k
