-- Laws of rounds made until no row is marked or a pair alarms differently: together they are one round.
-- Assumes nothing.
use mathlib.Core.Path.{◌≡◌, sym, subst, ◌∙◌}
use mathlib.Core.Bool.{Bool, true, false}
use mathlib.Core.List.{List}
use Prim.Native.Nat.{ℕ, ◌≤◌, ◌<◌}
use native.Mathlib.Nat.{le_refl}
use native.Mathlib.Omega.{arith}
use Rattle.job.specs.Job.{Job}
use Rattle.job.specs.Plan.{Enabling, enables}
use Rattle.buffer.specs.Views.{Held}
use Rattle.tables.specs.Tables.{pairs_left, SearchKept}
use Rattle.tables.specs.Held.{Usable, JobHeld, PlanHeld}
use Rattle.tables.proofs.KeptLaws.{search_kept_none, search_kept_both, job_same, plan_same}
use Rattle.rounds.specs.Rounds.{Following, held_first, Settled, Rounded, RoundedAt}
use Rattle.rounds.specs.declared.Seen.{Seen}
use Rattle.rounds.specs.declared.Seen.TheVariants.{Rows, Difference}
use Rattle.rounds.proofs.RoundLaws.{following_both, split_kept, nothing_rows, rows_difference}
use Rattle.search.specs.Searched.{rounds_end}

-- what a step of the search adds follows what was there, and rows that are not marked stay closed
pub record Further (j : Job) (w : Enabling) (nodes : ℕ) (l m : List ℕ) : Type 0 where
  pub new : (n p q : ℕ) → n < 512 → p < 16 → Held m n p q → Following j w l n p q
  pub settled : Settled j w l nodes → Settled j w m nodes

-- rounds without a difference, so far
pub record RoundsSoFar (table : List (List ℕ)) (finals states nodes : ℕ) (l m : List ℕ) : Type 0 where
  pub kept : SearchKept l m
  pub held : (n p q : ℕ) → n < 512 → p < 16 → Held l n p q → Held m n p q
  pub most : pairs_left m ≤ pairs_left l
  pub exact
      : (j : Job) (plan : List ℕ) → JobHeld j l table finals states nodes → PlanHeld plan l nodes → Further j (enables plan) nodes l m

-- rounds do not end with rows
not_rows : (r : Bool) → rounds_end r ≡ Rows → ⊥
not_rows true e = rows_difference (sym e)
not_rows false e = nothing_rows e

module _ {table : List (List ℕ)} {finals states nodes : ℕ} where
  -- none yet
  pub rounds_none : (l : List ℕ) → RoundsSoFar table finals states nodes l l
  rounds_none l =
      record {
        kept = search_kept_none l;
        held = λ n p q ln lp h. h;
        most = le_refl _;
        exact = λ j plan held plan_held. record { new = λ n p q ln lp h. held_first ln lp h; settled = λ s. s };
      }

  module _
      {l m k : List ℕ} {seen : Seen} (u : Usable l table states nodes) (i : RoundsSoFar table finals states nodes l m)
      (r : RoundedAt table finals states nodes m k seen) where
    -- what the round says of a job and a plan of the first buffer
    now : (j : Job) (plan : List ℕ) → JobHeld j l table finals states nodes → PlanHeld plan l nodes → Rounded j (enables plan) nodes m k seen
    now j plan held plan_held = r.exact j plan (job_same i.kept u held) (plan_same i.kept plan u.few_nodes plan_held)

    -- what it adds follows the pairs of the first buffer
    now_new
        : (j : Job) (plan : List ℕ) → JobHeld j l table finals states nodes → PlanHeld plan l nodes
        → (n p q : ℕ) → n < 512 → p < 16 → Held k n p q → Following j (enables plan) l n p q
    now_new j plan held plan_held n p q ln lp h =
        following_both (i.exact j plan held plan_held).new ((now j plan held plan_held).new n p q ln lp h)

    -- a round more
    pub rounds_more : (seen ≡ Difference → ⊥) → RoundsSoFar table finals states nodes l k
    rounds_more alike =
        record {
          kept = search_kept_both i.kept r.kept;
          held = λ n p q ln lp h. r.held n p q ln lp (i.held n p q ln lp h);
          most = omega (arith, i.most, r.most);
          exact = λ j plan held plan_held. record {
            new = now_new j plan held plan_held;
            settled = λ s. (now j plan held plan_held).settled alike ((i.exact j plan held plan_held).settled s);
          };
        }

    -- the last one
    rounds_last : (seen ≡ Rows → ⊥) → RoundedAt table finals states nodes l k seen
    rounds_last last =
        record {
          kept = search_kept_both i.kept r.kept;
          held = λ n p q ln lp h. r.held n p q ln lp (i.held n p q ln lp h);
          most = omega (arith, i.most, r.most);
          left = λ e. absurd (last e);
          none = r.none;
          exact = λ j plan held plan_held. record {
            new = now_new j plan held plan_held;
            settled = λ alike s. (now j plan held plan_held).settled alike ((i.exact j plan held plan_held).settled s);
            split = λ found.
                let f = (now j plan held plan_held).split found in
                record {
                  node = f.node;
                  one = f.one;
                  other = f.other;
                  small = f.small;
                  row = f.row;
                  follows = following_both (i.exact j plan held plan_held).new f.follows;
                  splits = split_kept u held i.kept f.node f.one f.other (omega (arith, f.small, u.few_nodes)) f.row f.splits;
                };
          };
        }

    -- in the shape of the code
    pub rounds_end_lem : (r : Bool) → seen ≡ rounds_end r → RoundedAt table finals states nodes l k (rounds_end r)
    rounds_end_lem r e = subst (λ (x : Seen). RoundedAt table finals states nodes l k x) e (rounds_last (λ x. not_rows r (sym e ∙ x)))
