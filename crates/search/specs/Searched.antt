-- What a search leaves.
-- Inner contracts: what functions ask of and leave to each other. No promise is stated in them; a reader need not believe them.
-- Assumes nothing.
use Rattle.std.specs.Prelude.{◌≡◌, Bool, true, false, not, List, ℕ, ◌<◌, eqb}
use Rattle.job.specs.Job.{is_event, Job, node_at, WellFormedJob}
use Rattle.job.specs.Walk.{before}
use Rattle.job.specs.Plan.{full, enables, ArrivesAt}
use Rattle.planning.specs.Planning.{all_enabled}
use Rattle.job.specs.Search.{faithful, arrives}
use Rattle.buffer.specs.Views.{pair_row_in, Held}
use Rattle.tables.specs.Tables.{SearchKept}
use Rattle.rounds.specs.declared.Seen.{Seen}
use Rattle.rounds.specs.declared.Seen.TheVariants.{Nothing, Difference}
use Rattle.tables.specs.Held.{JobHeld, PlanHeld, AfterHeld}

-- how rounds end: with a difference, or with no row marked
abbrev pub rounds_end : Bool → Seen
rounds_end true = Difference
rounds_end false = Nothing

-- the answer is the definition's. At an event node every pair that is held arrives there, the first state with all points watched and the
-- second under the plan; where the answer is faithful, every pair that arrives is held
pub record Searched (j : Job) (plan l m : List ℕ) (answer : Bool) : Type 0 where
  pub exact : answer ≡ faithful j plan
  pub arrive
      : (n p q : ℕ) → is_event (node_at j n).kind ≡ true → p < 16 → Held m n p q
      → ArrivesAt j full (enables plan) (before n) p q
  pub held
      : answer ≡ true → (n p q : ℕ) → is_event (node_at j n).kind ≡ true → ArrivesAt j full (enables plan) (before n) p q
      → Held m n p q

-- the same for every job and plan that the buffer holds, with its after words in the class rows
pub record SearchedAt (table : List (List ℕ)) (finals states nodes : ℕ) (l m : List ℕ) (answer : Bool) : Type 0 where
  pub kept : SearchKept l m
  pub exact
      : (j : Job) (plan : List ℕ) → JobHeld j l table finals states nodes → PlanHeld plan l nodes → AfterHeld j l nodes
      → Searched j plan l m answer

-- the statement: where a search answers faithful, the rows that it leaves at an event node are those of the states that arrive
abbrev pub SearchFinds : Type 0
SearchFinds =
    (j : Job) (plan l m : List ℕ) → WellFormedJob j → Searched j plan l m true → (n q : ℕ) → is_event (node_at j n).kind ≡ true
    → q < j.rule.states → eqb (pair_row_in m n q) 0 ≡ not (arrives j n q)

-- the statement: with all points watched a search answers faithful, and the rows that it leaves at a point are those of the states that
-- arrive
abbrev pub AllEnabledFinds : Type 0
AllEnabledFinds =
    (j : Job) (l m : List ℕ) (answer : Bool) → WellFormedJob j → Searched j (all_enabled j) l m answer
    → (answer ≡ true)
    × ((n q : ℕ) → is_event (node_at j n).kind ≡ true → q < j.rule.states → eqb (pair_row_in m n q) 0 ≡ not (arrives j n q))
