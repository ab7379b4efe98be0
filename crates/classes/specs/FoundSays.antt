-- What is found at a point, in the definitions of the job: the rows of the buffer are right, so what is read off them is.
-- Inner contracts: what functions ask of and leave to each other. No promise is stated in them; a reader need not believe them.
-- Assumes nothing.
use Rattle.std.specs.Prelude.{◌≡◌, cond, not, List, ℕ, ◌<◌, eqb}
use Rattle.laws.specs.Bounded.{sum_below}
use Rattle.job.specs.Job.{Job}
use Rattle.job.specs.Search.{arrives}
use Rattle.job.specs.Found.{set_of, states_before, lowest, class_count, nop_shadow}
use Rattle.buffer.specs.Views.{pair_row_in}
use Rattle.tables.specs.Held.{JobHeld}
use Rattle.classes.specs.Backwards.{ClassesHeld, held_states, is_lowest, lowest_states, is_nop}

-- the rows of pairs of a point that hold pairs are those of the states that arrive, as `Searched` says
abbrev pub ArrivalsHeld : Job → List ℕ → ℕ → Type 0
ArrivalsHeld j work n = (q : ℕ) → q < j.rule.states → eqb (pair_row_in work n q) 0 ≡ not (arrives j n q)

-- the statement: they are the before set
abbrev pub HeldStatesAreBefore : Type 0
HeldStatesAreBefore =
    (j : Job) (work : List ℕ) (n : ℕ) → ArrivalsHeld j work n → held_states work n j.rule.states ≡ states_before j n

-- the statement: the lowest states of the rows are those of the classes, and their number is the class count
pub record LowestStatesAreOfClasses : Type 0 where
  pub states
      : (j : Job) (work : List ℕ) (nodes n : ℕ) → ClassesHeld j work nodes → n < nodes
      → lowest_states work n j.rule.states ≡ set_of j.rule.states (lowest j n)
  pub count
      : (j : Job) (work : List ℕ) (nodes n : ℕ) → ClassesHeld j work nodes → n < nodes
      → sum_below j.rule.states (λ q. cond (is_lowest work n q) 1 0) ≡ class_count j n

-- the statement: the nop mark read off the rows is the point's
abbrev pub NopMarkIsThePoints : Type 0
NopMarkIsThePoints =
    (j : Job) (l work : List ℕ) (table : List (List ℕ)) (finals states nodes n a before : ℕ) → JobHeld j l table finals states nodes
    → ClassesHeld j work nodes → n < nodes → a < j.rule.symbols → before ≡ states_before j n
    → is_nop table finals work n a before ≡ nop_shadow j n a
