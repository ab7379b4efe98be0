-- The rules by which code shows what it found: invariants, reached pairs and steps back. They do not speak of the search.
-- `Pair` and its constructors, `Splits`, `apart_now`, `apart_moved` and `apart_told` of `Pairs` make what they ask for.
-- Assumes nothing.
use mathlib.Core.Path.{◌≡◌}
use mathlib.Core.Bool.{true, false}
use mathlib.Core.List.{List}
use Prim.Native.Nat.{ℕ, ◌<◌}
use lib.ListN.{length}
use Rattle.laws.specs.Bits.{has}
use Rattle.laws.proofs.Tests.{fails_of}
use Rattle.job.specs.Job.{Job, node_at, WellFormedJob}
use Rattle.job.specs.Walk.{Place, before, past}
use Rattle.job.specs.Plan.{Enabling, full, enables, ApartAt, Faithful, Different}
use Rattle.job.specs.Found.{Arrives, Equivalent}
use Rattle.job.specs.Search.{faithful, arrives, apart}
use Rattle.job.proofs.Pairs.{Pairs, Pair, Admitted, admitted, Kept, pair_least, Splits, apart_now, pair_apart}
use Rattle.job.proofs.Pairs.{Backwards, apart_least, Invariant, invariant_alike}
use Rattle.job.proofs.Bounds.{Within, within_kept}
use Rattle.job.proofs.Decide.{start_different, different_says, faithful_says, pair_arrives, arrives_pair, arrives_says}
use Rattle.job.proofs.Decide.{equivalent_says, apart_says, apart_not_says}

-- what holds before every entry in its admitted states holds at the starts
pub at_admitted
    : {j : Job} (R : Pairs) → ((n q : ℕ) → has (node_at j n).entry q ≡ true → R (before n) q q)
    → (x : Place) (p q : ℕ) → Admitted j x p q → R x p q
at_admitted R h x p q (admitted {n = n} {q = k} e) = h n k e

-- ---- plans

-- an invariant makes a plan faithful
pub invariant_faithful : {j : Job} {w : Enabling} {R : Pairs} → Invariant j full w (Admitted j) R → Faithful j w
invariant_faithful h s =
    invariant_alike h (h.kept.starts (before s.node) s.state s.state (admitted s.admitted))

-- a reached pair that is told apart makes it different
pub pair_different
    : {j : Job} {w : Enabling} {x : Place} {p q : ℕ} → Pair j full w (Admitted j) x p q → ApartAt j full w x p q → Different j w
pair_different r a = let s = pair_apart r a in start_different s.3 s.4

module _ {j : Job} (wf : WellFormedJob j) (plan : List ℕ) where
  -- the answer faithful: an invariant
  pub faithful_true : {R : Pairs} → Invariant j full (enables plan) (Admitted j) R → faithful j plan ≡ true
  faithful_true h = (faithful_says wf plan).1 (invariant_faithful h)

  -- the answer different: a reached pair that splits
  pub faithful_false
      : {x : Place} {p q : ℕ} → Pair j full (enables plan) (Admitted j) x p q → Splits j full (enables plan) x p q → faithful j plan ≡ false
  faithful_false r s = (different_says wf plan).1 (pair_different r (apart_now s))

-- ---- before sets

-- a set of pairs that is kept with all points watched holds every state that arrives
pub kept_arrives : {j : Job} {R : Pairs} {n q : ℕ} → Kept j full full (Admitted j) R → Arrives j n q → R (before n) q q
kept_arrives k a = pair_least k (arrives_pair a)

module _ {j : Job} (wf : WellFormedJob j) (n q : ℕ) where
  -- a state arrives: the full monitor's state of a pair that is reached before the node
  pub arrives_true : {w : Enabling} {r : ℕ} → Pair j full w (Admitted j) (before n) q r → arrives j n q ≡ true
  arrives_true r = (arrives_says wf n q).1 (pair_arrives r)

  -- none arrives outside a set that is kept
  pub arrives_false : {R : Pairs} → Kept j full full (Admitted j) R → (R (before n) q q → ⊥) → arrives j n q ≡ false
  arrives_false k out = fails_of (arrives j n q) (λ h. out (kept_arrives k ((arrives_says wf n q).0 h)))

-- ---- classes

-- two states of an invariant are of one class
pub invariant_equivalent : {j : Job} {S R : Pairs} {n p q : ℕ} → Invariant j full full S R → R (past n) p q → Equivalent j n p q
invariant_equivalent h r = invariant_alike h r

-- so are two states outside a set that is closed backwards among the pairs of the job
pub outside_equivalent
    : {j : Job} {T : Pairs} {n p q : ℕ} → WellFormedJob j → Backwards j full full (Within j) T → Within j (past n) p q
    → (T (past n) p q → ⊥) → Equivalent j n p q
outside_equivalent {j} wf b r out =
    equivalent_says.1 (λ a. out (apart_least (within_kept {S = Within j} wf (λ x p q s. s)) b r a))

module _
    {j : Job} (wf : WellFormedJob j) (n p q : ℕ) (node : n < length j.nodes) (one : p < j.rule.states) (other : q < j.rule.states) where
  -- apart: told apart past the node
  pub apart_true : ApartAt j full full (past n) p q → apart j n p q ≡ true
  apart_true a = (apart_says wf n p q node one other).1 a

  -- not apart: outside a set that is closed backwards
  pub apart_false : {T : Pairs} → Backwards j full full (Within j) T → (T (past n) p q → ⊥) → apart j n p q ≡ false
  apart_false b out =
      (apart_not_says wf n p q node one other).1 (outside_equivalent wf b (record { node = node; one = one; other = other }) out)
