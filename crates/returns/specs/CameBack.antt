-- What comes in again and what returns, settled when no row is marked.
-- Inner contracts: what functions ask of and leave to each other. No promise is stated in them; a reader need not believe them.
-- Assumes nothing.
use Rattle.std.specs.Prelude.{◌≡◌, Bool, true, false, List, ℕ, ◌<◌}
use Rattle.job.specs.Job.{is_reentrant, is_entry, Job, node_at}
use Rattle.job.specs.Plan.{Enabling, enables}
use Rattle.job.specs.Words.{Spelt}
use Rattle.buffer.specs.Views.{marks_in, Held}
use Rattle.tables.specs.Tables.{pairs_left, SearchKept}
use Rattle.tables.specs.Held.{JobHeld, PlanHeld}
use Rattle.exitrows.specs.Ended.{PastHeld}
use Rattle.rounds.specs.Rounds.{Following, Settled}

-- nothing more comes back: the pairs of a call that may come back in are held at every entry, and what the words after an exit lead to is
-- held at every such call
pub record NothingBack (j : Job) (w : Enabling) (nodes : ℕ) (work : List ℕ) : Type 0 where
  pub enters
      : (k n p q : ℕ) → k < nodes → n < nodes → is_reentrant (node_at j k).kind ≡ true → is_entry (node_at j n) ≡ true → p < 16
      → Held work k p q → Held work n p q
  pub returns
      : (k n p q : ℕ) → k < nodes → n < nodes → (node_at j k).exit ≡ true → is_reentrant (node_at j n).kind ≡ true → p < 16
      → Spelt j.rule (node_at j k).after (PastHeld j w work k) p q → Held work n p q

-- no row is marked
abbrev pub NoMarks : List ℕ → ℕ → Type 0
NoMarks work nodes = (n : ℕ) → n < nodes → marks_in work n ≡ 0

-- what came back was joined, for a job and a plan; `more` says that some row is marked
pub record CameBack (j : Job) (w : Enabling) (nodes : ℕ) (l m : List ℕ) (more : Bool) : Type 0 where
  pub new : (n p q : ℕ) → n < 512 → p < 16 → Held m n p q → Following j w l n p q
  pub settled : Settled j w l nodes → Settled j w m nodes
  pub over : more ≡ false → NothingBack j w nodes m

-- the same for every job that the buffer holds
pub record CameBackAt (table : List (List ℕ)) (finals states nodes : ℕ) (l m : List ℕ) (more : Bool) : Type 0 where
  pub kept : SearchKept l m
  pub held : (n p q : ℕ) → n < 512 → p < 16 → Held l n p q → Held m n p q
  pub left : more ≡ true → pairs_left m < pairs_left l
  pub none : more ≡ false → NoMarks m nodes
  pub exact
      : (j : Job) (plan : List ℕ) → JobHeld j l table finals states nodes → PlanHeld plan l nodes → CameBack j (enables plan) nodes l m more
