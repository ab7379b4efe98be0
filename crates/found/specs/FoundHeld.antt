-- What is found at all points together.
-- Inner contracts: what functions ask of and leave to each other. No promise is stated in them; a reader need not believe them.
-- Assumes nothing.
use Rattle.std.specs.Prelude.{◌≡◌, true, List, ℕ, ◌<◌}
use Rattle.job.specs.Job.{is_event, Job, node_at}
use Rattle.job.specs.Found.{states_before}
use Rattle.planning.specs.Listing.{plan_of}
use Rattle.buffer.specs.Buffer.{work_size}
use Rattle.buffer.specs.Layout.{pair_part, class_part, found_part, plan_part}
use Rattle.buffer.specs.Kept.{SameOutside, Kept, Outside}
use Rattle.buffer.specs.Views.{plan_in, before_in}
use Rattle.tables.specs.Held.{JobHeld, AfterHeld}
use Rattle.classes.specs.Backwards.{ClassesHeld, held_states}
use Rattle.passes.specs.declared.passes.Counts.{Counts}
use Rattle.passes.specs.Counts.{counts_of}

-- the before sets of the points are held
abbrev pub BeforeHeld : Job → List ℕ → Type 0
BeforeHeld j work = (n : ℕ) → is_event (node_at j n).kind ≡ true → before_in work n ≡ states_before j n

-- for each node the states whose rows hold pairs were stored
pub record BeforeStored (l m : List ℕ) (states nodes : ℕ) : Type 0 where
  pub kept : SameOutside l m found_part plan_part
  pub here : (n : ℕ) → n < nodes → before_in m n ≡ held_states l n states

-- the before sets were found; only the rows of pairs and the bytes past the class rows are touched
pub record BeforeFound (table : List (List ℕ)) (finals states nodes : ℕ) (l m : List ℕ) : Type 0 where
  pub kept : Kept (λ k. Outside pair_part class_part k × Outside found_part work_size k) l m
  pub exact : (j : Job) → JobHeld j l table finals states nodes → AfterHeld j l nodes → BeforeHeld j m

-- before sets, plan and classes of the job are held
pub record FoundHeld (j : Job) (work : List ℕ) (table : List (List ℕ)) (finals states nodes : ℕ) : Type 0 where
  pub job : JobHeld j work table finals states nodes
  pub before : BeforeHeld j work
  pub plan : plan_in work nodes ≡ (plan_of j).plan
  pub classes : ClassesHeld j work nodes

-- they were found for every job that the buffer holds, and the counts are the plan's
pub record Found (table : List (List ℕ)) (finals states nodes : ℕ) (l m : List ℕ) (counts : Counts) : Type 0 where
  pub kept : SameOutside l m pair_part work_size
  pub exact
      : (j : Job) → JobHeld j l table finals states nodes → FoundHeld j m table finals states nodes × (counts ≡ counts_of j)
