-- The listing as values (document 01, "One listing in full").
-- Assumes nothing.
use Rattle.std.specs.Prelude.{cond, List, [], ◌∷◌, ℕ, suc, get_or}
use Rattle.job.specs.Job.{Point, no_point, point, point_of, Node, Job}
use Rattle.job.specs.Found.{states_before, class_count, nop_shadow}
use Rattle.planning.specs.Planning.{Planned, planned, all_enabled, enabled_count}
use Rattle.job.specs.Search.{faithful}

-- "W: node, symbol, before set, class count, nop mark, watched"
pub record ShadowLine : Type 0 where
  pub node : ℕ
  pub symbol : ℕ
  pub before : ℕ
  pub classes : ℕ
  pub nop : ℕ
  pub enabled : ℕ

-- "T: event nodes, watched, passes"
pub record TotalLine : Type 0 where
  pub shadows : ℕ
  pub enabled : ℕ
  pub passes : ℕ

-- a listing: a line for each event node in number order, and the totals
pub record Listing : Type 0 where
  pub shadows : List ShadowLine
  pub total : TotalLine

-- the plan that planning makes, at the test that says `Faithful`
abbrev pub plan_of : Job → Planned
plan_of j = planned (faithful j) j

-- the line of the point at node n with symbol a, under a plan
abbrev pub shadow_line : Job → List ℕ → ℕ → ℕ → ShadowLine
shadow_line j plan n a =
    record {
      node = n;
      symbol = a;
      before = states_before j n;
      classes = class_count j n;
      nop = cond (nop_shadow j n a) 1 0;
      enabled = get_or plan n 0;
    }

-- the line of a node, if it has a point, before the lines of those after it
abbrev pub line_at : Job → List ℕ → ℕ → Point → List ShadowLine → List ShadowLine
line_at j plan n no_point rest = rest
line_at j plan n (point a) rest = shadow_line j plan n a ∷ rest

-- the lines of the nodes from number n on
unfoldable pub lines_from : Job → List ℕ → ℕ → List Node → List ShadowLine
lines_from j plan n [] = []
lines_from j plan n (x ∷ xs) = line_at j plan n (point_of x.kind) (lines_from j plan (suc n) xs)

-- the listing of a job
unfoldable pub listing_of : Job → Listing
listing_of j =
    let r = plan_of j in
    record {
      shadows = lines_from j r.plan 0 j.nodes;
      total = record { shadows = enabled_count (all_enabled j); enabled = enabled_count r.plan; passes = r.passes };
    }
