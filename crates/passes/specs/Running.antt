-- The watched total as a running value (document 02, request 3): what planning carries along, and the statement that it is the number
-- of watched points at the start and after each event node tried, and the total returned and listed. Its theorem is in `proofs/`.
-- Assumes nothing.
use Rattle.std.specs.Prelude.{◌≡◌, cond, not, ◌&&◌, List, ℕ, suc, ◌-◌, ◌≤◌, ◌<◌, length}
use Rattle.laws.specs.Bounded.{sum_below}
use Rattle.job.specs.Job.{is_event, Job, node_at, WellFormedJob}
use Rattle.job.specs.Plan.{enables}
use Rattle.planning.specs.Planning.{all_enabled, Tried}
use Rattle.planning.specs.Listing.{plan_of, listing_of}
use Rattle.passes.specs.Counts.{counts_of}

-- the event nodes of a job, counted
abbrev pub shadow_total : Job → ℕ
shadow_total j = sum_below (length j.nodes) (λ n. cond (is_event (node_at j n).kind) 1 0)

-- the event nodes of a job that a plan watches, counted
abbrev pub enabled_total : Job → List ℕ → ℕ
enabled_total j plan = sum_below (length j.nodes) (λ n. cond (is_event (node_at j n).kind && enables plan n) 1 0)

-- "carried along and lowered when a point goes": the total after a try of node n, which goes where it was watched and is no more
abbrev pub total_left : ℕ → List ℕ → List ℕ → ℕ → ℕ
total_left n plan left total = cond (enables plan n && not (enables left n)) (total - 1) total

-- k passes are over, and of the next the first n nodes were tried: planning stands at this plan, with this total; in passes past the
-- last, which planning does not make, nothing goes
pub data Stands (j : Job) : ℕ → ℕ → List ℕ → ℕ → Type 0 where
  start : Stands j 0 0 (all_enabled j) (shadow_total j)
  next_try
      : {k n total : ℕ} {plan left : List ℕ} → Stands j k n plan total → n < length j.nodes → Tried j n plan left
      → Stands j k (suc n) left (total_left n plan left total)
  next_pass : {k total : ℕ} {plan : List ℕ} → Stands j k (length j.nodes) plan total → Stands j (suc k) 0 plan total

-- a plan and a total at which planning stands
pub record Standing (j : Job) (k n : ℕ) : Type 0 where
  pub plan : List ℕ
  pub total : ℕ
  pub stands : Stands j k n plan total

-- the statement, for every job
pub record RunningTotal : Type 0 where
  -- "at the start and after each event node tried it equals the number of watched points in the plan as it then stands"
  pub counted : (j : Job) (k n : ℕ) (plan : List ℕ) (total : ℕ) → Stands j k n plan total → total ≡ enabled_total j plan
  -- in every pass and after every node there is such a plan, with such a total, and no other
  pub some : (j : Job) → WellFormedJob j → (k n : ℕ) → n ≤ length j.nodes → Standing j k n
  pub only
      : (j : Job) (k n : ℕ) (plan left : List ℕ) (total other : ℕ) → Stands j k n plan total → Stands j k n left other
      → (plan ≡ left) × (total ≡ other)
  -- "it is the total returned": where planning stands when its last pass is over
  pub returned : (j : Job) → WellFormedJob j → Stands j (counts_of j).passes 0 (plan_of j).plan (counts_of j).enabled
  -- "and listed": the T line
  pub listed
      : (j : Job) → WellFormedJob j → Stands j (listing_of j).total.passes 0 (plan_of j).plan (listing_of j).total.enabled
