-- What one round over the marked rows of all nodes leaves.
-- Inner contracts: what functions ask of and leave to each other. No promise is stated in them; a reader need not believe them.
-- Assumes nothing.
use Rattle.std.specs.Prelude.{◌≡◌, false, List, ℕ, ◌≤◌, ◌<◌}
use Rattle.job.specs.Job.{Job}
use Rattle.job.specs.Plan.{Enabling, enables}
use Rattle.buffer.specs.Views.{marks_in, marked_in, Held}
use Rattle.tables.specs.Tables.{pairs_left, SearchKept}
use Rattle.tables.specs.Held.{JobHeld, PlanHeld}
use Rattle.look.specs.Looking.{Follows, SplitPair, ClosedPair}
use Rattle.rounds.specs.declared.Seen.{Seen}
use Rattle.rounds.specs.declared.Seen.TheVariants.{Nothing, Rows, Difference}

-- what follows the pairs of a buffer
pub data Following (j : Job) (w : Enabling) (l : List ℕ) : ℕ → ℕ → ℕ → Type 0 where
  held_first : {n p q : ℕ} → n < 512 → p < 16 → Held l n p q → Following j w l n p q
  follows : {n p q k r s : ℕ} → Following j w l n p q → Follows j w n p q k r s → Following j w l k r s

-- node n is closed: so is every pair that it holds
abbrev pub ClosedAt : Job → Enabling → List ℕ → ℕ → Type 0
ClosedAt j w work n = (p q : ℕ) → p < j.rule.states → Held work n p q → ClosedPair j w work n p q

-- row p of node n is marked, or closed
abbrev pub SettledRow : Job → Enabling → List ℕ → ℕ → ℕ → Type 0
SettledRow j w work n p = marked_in work n p ≡ false → (q : ℕ) → Held work n p q → ClosedPair j w work n p q

-- every row that is not marked is closed
abbrev pub Settled : Job → Enabling → List ℕ → ℕ → Type 0
Settled j w work nodes = (n p : ℕ) → n < nodes → p < 16 → SettledRow j w work n p

-- a pair that follows and splits
pub record SplitAfter (j : Job) (w : Enabling) (l : List ℕ) (nodes : ℕ) : Type 0 where
  pub node : ℕ
  pub one : ℕ
  pub other : ℕ
  pub small : node < nodes
  pub row : one < 16
  pub follows : Following j w l node one other
  pub splits : SplitPair j w l node one other

-- all marked rows were looked at in turn, until a pair alarms differently
pub record Rounded (j : Job) (w : Enabling) (nodes : ℕ) (l m : List ℕ) (seen : Seen) : Type 0 where
  pub new : (n p q : ℕ) → n < 512 → p < 16 → Held m n p q → Following j w l n p q
  pub settled : (seen ≡ Difference → ⊥) → Settled j w l nodes → Settled j w m nodes
  pub split : seen ≡ Difference → SplitAfter j w l nodes

-- the same for every job that the buffer holds
pub record RoundedAt (table : List (List ℕ)) (finals states nodes : ℕ) (l m : List ℕ) (seen : Seen) : Type 0 where
  pub kept : SearchKept l m
  pub held : (n p q : ℕ) → n < 512 → p < 16 → Held l n p q → Held m n p q
  pub most : pairs_left m ≤ pairs_left l
  pub left : seen ≡ Rows → pairs_left m < pairs_left l
  pub none : seen ≡ Nothing → (n : ℕ) → n < nodes → marks_in m n ≡ 0
  pub exact
      : (j : Job) (plan : List ℕ) → JobHeld j l table finals states nodes → PlanHeld plan l nodes → Rounded j (enables plan) nodes l m seen
