-- What a plan saves: a plan costs no more than one in which its watched points are watched, so none costs more than all points watched. Each
-- node costs no more, so the sum is no larger, and neither are its cents.
-- Assumes nothing.
use Rattle.std.specs.Prelude.{Ok}
use mathlib.Core.Path.{◌≡◌, refl, sym, subst}
use mathlib.Core.Logic.{⊎_elim}
use mathlib.Core.Bool.{Bool, true, false, true≢false}
use mathlib.Core.List.{List}
use Prim.Native.Nat.{ℕ, ◌*◌, ◌≤◌, ◌<◌}
use native.Mathlib.Nat.{le_refl}
use native.Mathlib.Omega.{arith}
use lib.ListN.{length, get_or}
use borrow.Author.Tests.{eqb-false}
use Rattle.laws.proofs.Bounded.{sum_le}
use Rattle.laws.proofs.Tests.{passes_or_fails}
use Rattle.job.specs.Job.{Kind, is_event, Point, no_point, point, point_of, Job, node_at}
use Rattle.job.specs.Plan.{enables}
use Rattle.job.specs.Search.{faithful}
use Rattle.planning.specs.Planning.{IsPlan, all_enabled}
use Rattle.planning.specs.Listing.{plan_of}
use Rattle.planning.proofs.PlanBytes.{enabled_byte, enabled_within, all_enabled_event, all_enabled_plan}
use Rattle.planning.proofs.PlanningResult.{planned_plan}
use Rattle.jobfile.specs.File.{accepted, read_job}
use Rattle.checking.specs.CheckingSays.{MarkFor, unwatched, watched}
use Rattle.pricing.specs.Numbered.{ColumnFile}
use Rattle.pricing.specs.Pricing.{volume_line, cost, day_cost, cents_of, priced_at}
use Rattle.pricing.specs.PricingSays.{Billable, WatchedIn, Saves}
use Rattle.pricing.proofs.NumberedLaws.{column_says}
use Rattle.pricing.proofs.PricingSays.{price_of, price_sum}

-- ---- the sum

-- a node that is watched only where it is watched in the other plan costs no more
cost_le
    : (prices : List ℕ) (p : Point) (v w : Bool) (volume : ℕ) → (v ≡ true → w ≡ true) → cost prices p v volume ≤ cost prices p w volume
cost_le prices no_point v w volume h = omega arith
cost_le prices (point s) true true volume h = le_refl (volume * get_or prices s 0)
cost_le prices (point s) true false volume h = absurd (true≢false (sym (h refl)))
cost_le prices (point s) false w volume h = omega arith

-- so the sum is no larger
day_cost_le
    : (prices : List ℕ) (j : Job) (plan other counts : List ℕ) → WatchedIn plan other
    → day_cost prices j plan counts ≤ day_cost prices j other counts
day_cost_le prices j plan other counts h =
    sum_le (length j.nodes) (λ n. cost prices (point_of (node_at j n).kind) (enables plan n) (get_or counts n 0))
    (λ n. cost prices (point_of (node_at j n).kind) (enables other n) (get_or counts n 0))
    (λ n l. cost_le prices (point_of (node_at j n).kind) (enables plan n) (enables other n) (get_or counts n 0) (h n))

-- a larger sum has no fewer cents
cents_le : {t u : ℕ} → t ≤ u → cents_of t ≤ cents_of u
cents_le h = omega arith

-- ---- two plans for one job

-- a file has one job
one_job : (file : List ℕ) {i j : Job} → read_job file ≡ accepted i → read_job file ≡ accepted j → i ≡ j
one_job file a b = cc (a, b)

-- and a volume file has one list of volumes
one_column : {c : ℕ} {volumes m n : List ℕ} → ColumnFile volume_line c volumes m → ColumnFile volume_line c volumes n → m ≡ n
one_column {c} {volumes} {m} {n} f g = cc ((column_says volume_line c volumes m).1 f, (column_says volume_line c volumes n).1 g)

-- a plan costs no more than one in which its watched points are watched
no_dearer
    : (prices file plan other volumes : List ℕ) (c d : ℕ) → WatchedIn plan other → priced_at prices file plan volumes ≡ Ok c
    → priced_at prices file other volumes ≡ Ok d → c ≤ d
no_dearer prices file plan other volumes c d h p q =
    let (i, m, a, c_is) = price_sum prices file plan volumes p in
    let (j, n, b, d_is) = price_sum prices file other volumes q in
    go i j m n a b (one_job file a.spells b.spells) c_is d_is
  where
    go
        : (i j : Job) (m n : List ℕ) → Billable file plan volumes i m → Billable file other volumes j n → i ≡ j
        → c ≡ cents_of (day_cost prices i plan m) → d ≡ cents_of (day_cost prices j other n) → c ≤ d
    go i j m n a b same c_is d_is =
        let lines : ColumnFile volume_line (length j.nodes) volumes m =
        subst (λ (x : Job). ColumnFile volume_line (length x.nodes) volumes m) same a.lines in
        let one : m ≡ n = one_column lines b.lines in
        let sum : day_cost prices i plan m ≤ day_cost prices j other n =
        rw (same, one) (day_cost_le prices j plan other n h) in
        rw (c_is, d_is) (cents_le sum)

-- ---- plans of the job

-- a plan of the job has a byte that each node may have
plan_marked
    : {j : Job} {plan : List ℕ} → IsPlan j plan → (n : ℕ) → n < length j.nodes → MarkFor (node_at j n).kind (get_or plan n 0)
plan_marked {j} {plan} v n h =
    ⊎_elim
    (λ (w : enables plan n ≡ true). rw (enabled_byte plan n w) (watched (v.shadows n w)))
    (λ (w : enables plan n ≡ false).
    let none : get_or plan n 0 ≡ 0 = omega (arith, v.bytes n, eqb-false (get_or plan n 0) 1 w) in
    rw none unwatched)
    (passes_or_fails (enables plan n))

-- such a plan is billed
plan_billable
    : {file volumes counts : List ℕ} {j : Job} (plan : List ℕ) → read_job file ≡ accepted j
    → ColumnFile volume_line (length j.nodes) volumes counts → IsPlan j plan → Billable file plan volumes j counts
plan_billable plan spells lines v = record { spells = spells; bytes = v.long; marks = plan_marked v; lines = lines }

-- ---- all points watched

-- a node marked 1 is a point
marked_event : {k : Kind} {b : ℕ} → MarkFor k b → b ≡ 1 → is_event k ≡ true
marked_event unwatched e = absurd (omega arith)
marked_event (watched is) e = is

module _ (prices : List ℕ) {file plan volumes counts : List ℕ} {j : Job} (b : Billable file plan volumes j counts) where
  -- what a plan watches is watched there
  billed_watched : WatchedIn plan (all_enabled j)
  billed_watched n w =
      all_enabled_event j n (marked_event (b.marks n (omega (arith, enabled_within plan n w, b.bytes))) (enabled_byte plan n w))

  -- the price of all points watched, beside the same volumes
  all_price : priced_at prices file (all_enabled j) volumes ≡ Ok (cents_of (day_cost prices j (all_enabled j) counts))
  all_price = price_of prices file (all_enabled j) volumes (plan_billable (all_enabled j) b.spells b.lines (all_enabled_plan j))

  -- it is no less than the plan's
  all_no_less : cents_of (day_cost prices j plan counts) ≤ cents_of (day_cost prices j (all_enabled j) counts)
  all_no_less = cents_le (day_cost_le prices j plan (all_enabled j) counts billed_watched)

-- no plan that has a price costs more than all points watched
at_most_all
    : (prices file plan volumes : List ℕ) (c : ℕ) → priced_at prices file plan volumes ≡ Ok c
    → (j : Job) × (d : ℕ) × (read_job file ≡ accepted j) × (priced_at prices file (all_enabled j) volumes ≡ Ok d) × (c ≤ d)
at_most_all prices file plan volumes c e =
    let (j, counts, b, is) = price_sum prices file plan volumes e in
    (j, cents_of (day_cost prices j (all_enabled j) counts), b.spells, all_price prices b, omega (arith, is, all_no_less prices b))

-- planning's own plan has a price, beside a volume file of its lines
planned
    : (prices file volumes counts : List ℕ) (j : Job) → read_job file ≡ accepted j → ColumnFile volume_line (length j.nodes) volumes counts
    → (c : ℕ) × (d : ℕ) × (priced_at prices file (plan_of j).plan volumes ≡ Ok c) × (priced_at prices file (all_enabled j) volumes ≡ Ok d)
    × (c ≤ d)
planned prices file volumes counts j spells lines =
    let own = plan_billable (plan_of j).plan spells lines (planned_plan (faithful j) j) in (
      cents_of (day_cost prices j (plan_of j).plan counts),
      cents_of (day_cost prices j (all_enabled j) counts),
      price_of prices file (plan_of j).plan volumes own,
      all_price prices own,
      all_no_less prices own,
    )

-- what a plan saves
pub saves : Saves
saves = record { no_dearer = no_dearer; at_most_all = at_most_all; planned = planned }
