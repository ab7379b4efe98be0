-- Plan bytes, and planning (document 01, "Planning"), as a function of a test of plans and as a relation.
-- Assumes nothing.
use Rattle.std.specs.Prelude.{◌≡◌, Bool, true, false, cond, ◌&&◌, List, [], ◌∷◌, map, ℕ, zero, suc, ◌+◌, ◌≤◌, eqb, length, get_or, set}
use Rattle.job.specs.Job.{Kind, is_event, Node, Job, node_at}
use Rattle.job.specs.Plan.{enables, Faithful}

-- bytes that are a plan of a job: one for each node, 0 or 1, and 1 at event nodes only
pub record IsPlan (j : Job) (plan : List ℕ) : Type 0 where
  pub long : length plan ≡ length j.nodes
  pub bytes : (n : ℕ) → get_or plan n 0 ≤ 1
  pub shadows : (n : ℕ) → enables plan n ≡ true → is_event (node_at j n).kind ≡ true

-- 1 at an event node, 0 at any other
abbrev pub shadow_byte : Kind → ℕ
shadow_byte k = cond (is_event k) 1 0

-- "all points start watched"
abbrev pub all_enabled : Job → List ℕ
all_enabled j = map (λ (n : Node). shadow_byte n.kind) j.nodes

-- "makes a watched one unwatched exactly when the plan with it unwatched is faithful"
abbrev pub tried : (List ℕ → Bool) → ℕ → List ℕ → List ℕ
tried faithful n plan = cond (enables plan n && faithful (set plan n 0)) (set plan n 0) plan

-- "a pass goes through the event nodes in number order": the first n nodes
unfoldable pub passed : (List ℕ → Bool) → ℕ → List ℕ → List ℕ
passed faithful zero plan = plan
passed faithful (suc n) plan = tried faithful n (passed faithful n plan)

-- two plans are the same
unfoldable pub same_plan : List ℕ → List ℕ → Bool
same_plan [] [] = true
same_plan [] (y ∷ ys) = false
same_plan (x ∷ xs) [] = false
same_plan (x ∷ xs) (y ∷ ys) = eqb x y && same_plan xs ys

-- a plan and the passes that led to it
pub record Planned : Type 0 where
  pub plan : List ℕ
  pub passes : ℕ

-- one pass more at the front
abbrev pub one_pass_more : Planned → Planned
one_pass_more r = record { plan = r.plan; passes = r.passes + 1 }

-- "passes repeat; the first that changes nothing is the last and is counted too"; at most k passes more, which are never too few
unfoldable pub passes_from : ℕ → (List ℕ → Bool) → ℕ → List ℕ → Planned
passes_from zero faithful n plan = record { plan = plan; passes = 0 }
passes_from (suc k) faithful n plan =
    cond (same_plan plan (passed faithful n plan)) (record { plan = plan; passes = 1 })
    (one_pass_more (passes_from k faithful n (passed faithful n plan)))

-- the watched points of a plan, counted
unfoldable pub enabled_count : List ℕ → ℕ
enabled_count [] = 0
enabled_count (x ∷ xs) = x + enabled_count xs

-- planning with a test of plans; each pass but the last removes a point, so there is at most one pass more than points
abbrev pub planned : (List ℕ → Bool) → Job → Planned
planned faithful j = passes_from (enabled_count (all_enabled j) + 1) faithful (length j.nodes) (all_enabled j)

-- the relation of the same sentences, with `Faithful` itself and no bound: a try at one node
pub data Tried (j : Job) (n : ℕ) (plan : List ℕ) : List ℕ → Type 0 where
  removed : enables plan n ≡ true → Faithful j (enables (set plan n 0)) → Tried j n plan (set plan n 0)
  needed : enables plan n ≡ true → (Faithful j (enables (set plan n 0)) → ⊥) → Tried j n plan plan
  disabled : enables plan n ≡ false → Tried j n plan plan

-- a pass through the first n nodes
pub data Passed (j : Job) (plan : List ℕ) : ℕ → List ℕ → Type 0 where
  none : Passed j plan zero plan
  next_node : {n : ℕ} {p r : List ℕ} → Passed j plan n p → Tried j n p r → Passed j plan (suc n) r

-- passes until one changes nothing: from a plan, to a plan, in so many
pub data PassesTo (j : Job) : List ℕ → List ℕ → ℕ → Type 0 where
  last : {plan : List ℕ} → Passed j plan (length j.nodes) plan → PassesTo j plan plan 1
  again
      : {plan p r : List ℕ} {k : ℕ} → Passed j plan (length j.nodes) p → (plan ≡ p → ⊥) → PassesTo j p r k → PassesTo j plan r (k + 1)
