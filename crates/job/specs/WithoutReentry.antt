-- Jobs without kind 3 (document 02, "Procedures that call themselves": "jobs without kind 3 give the listings they gave"): their walks are
-- those of document 01, and the tests, from which plans and listings are computed, look at its moves alone. The statement, with a theorem
-- in `proofs/`.
-- Assumes nothing.
use Rattle.std.specs.Prelude.{◌≡◌, ◌↔◌, false, cond, List, [], ◌∷◌, ◌++◌, map, ℕ}
use Rattle.job.specs.Job.{reentrant, is_reentrant, Job, node_at}
use Rattle.job.specs.Walk.{Event, Place, before, past, ended, Step, Silent, step, Told, Walk, stop, move, tell}
use Rattle.job.specs.Search.{targets, silent_moves}

-- no node of the job may come back in
abbrev pub NeverBack : Job → Type 0
NeverBack j = (n set : ℕ) → (node_at j n).kind ≡ reentrant set → ⊥

-- every silent move of a walk is one of document 01
pub data OnlySteps (j : Job) : (x : Place) (es : List Event) (y : Place) → Walk j x es y → Type 0 where
  steps_stop : {x : Place} → OnlySteps j x [] x stop
  steps_move
      : {x y z : Place} {es : List Event} (s : Step j x y) {k : Walk j y es z} → OnlySteps j y es z k
      → OnlySteps j x es z (move (step s) k)
  steps_tell
      : {x y z : Place} {e : Event} {es : List Event} (t : Told j x e y) {k : Walk j y es z} → OnlySteps j y es z k
      → OnlySteps j x (e ∷ es) z (tell t k)

-- in a job without kind 3 the silent moves are those of document 01, and so its walks are those of document 01
pub record WithoutReentry : Type 0 where
  -- a job whose nodes are plain, events and calls of kind 2 is one
  pub without : (j : Job) → ((n : ℕ) → is_reentrant (node_at j n).kind ≡ false) → NeverBack j
  pub moves : (j : Job) → NeverBack j → (x y : Place) → Silent j x y ↔ Step j x y
  pub walks : (j : Job) → NeverBack j → (x : Place) (es : List Event) (y : Place) (k : Walk j x es y) → OnlySteps j x es y k
  -- the moves that the tests list: past a node along its edges, and at an exit to the word after it; from that word none
  pub listed_past
      : (j : Job) → NeverBack j → (n : ℕ)
      → silent_moves j (past n) ≡ map before (targets j.edges n) ++ cond (node_at j n).exit (ended n ∷ []) []
  pub listed_ended : (j : Job) → NeverBack j → (n : ℕ) → silent_moves j (ended n) ≡ []
