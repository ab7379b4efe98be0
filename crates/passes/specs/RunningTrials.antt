-- The watched total of trial jobs, moment by moment: the right plan and total of each, worked out by hand.
-- That planning stands there, `AllStand moments`, is a theorem of `proofs/`.
-- Assumes nothing.
use Rattle.std.specs.Prelude.{List, [], ◌∷◌, ℕ}
use Rattle.job.specs.Job.{Job}
use Rattle.planning.specs.Trials.{pair, loop, turn, empty_word, word_last, no_point}
use Rattle.passes.specs.Running.{Stands}

-- a job, how many passes are over, how many nodes of the next were tried, and where planning stands then
pub record Moment : Type 0 where
  pub job : Job
  pub passes : ℕ
  pub nodes : ℕ
  pub plan : List ℕ
  pub total : ℕ

-- a row of the table
abbrev pub moment : Job → ℕ → ℕ → List ℕ → ℕ → Moment
moment job passes nodes plan total = record { job = job; passes = passes; nodes = nodes; plan = plan; total = total }

infixr 5 ◌and◌
-- planning stands so at every moment of a table
pub data AllStand : List Moment → Type 0 where
  done : AllStand []
  ◌and◌
      : {m : Moment} {ms : List Moment} → Stands m.job m.passes m.nodes m.plan m.total → AllStand ms
      → AllStand (m ∷ ms)

-- the moments
abbrev pub moments : List Moment
moments =
    -- PAIR: the first seal goes, since the second comes before the write; in the second pass nothing goes
    moment pair 0 0 (1 ∷ 1 ∷ 1 ∷ []) 3
    ∷ moment pair 0 1 (0 ∷ 1 ∷ 1 ∷ []) 2
    ∷ moment pair 0 2 (0 ∷ 1 ∷ 1 ∷ []) 2
    ∷ moment pair 0 3 (0 ∷ 1 ∷ 1 ∷ []) 2
    ∷ moment pair 1 0 (0 ∷ 1 ∷ 1 ∷ []) 2
    ∷ moment pair 1 1 (0 ∷ 1 ∷ 1 ∷ []) 2
    ∷ moment pair 2 0 (0 ∷ 1 ∷ 1 ∷ []) 2
    -- LOOP: the first point is needed beside the second, which goes; then it goes too, and the third pass is the last
    ∷ moment loop 0 0 (1 ∷ 1 ∷ []) 2
    ∷ moment loop 0 1 (1 ∷ 1 ∷ []) 2
    ∷ moment loop 0 2 (1 ∷ 0 ∷ []) 1
    ∷ moment loop 1 0 (1 ∷ 0 ∷ []) 1
    ∷ moment loop 1 1 (0 ∷ 0 ∷ []) 0
    ∷ moment loop 2 0 (0 ∷ 0 ∷ []) 0
    ∷ moment loop 3 0 (0 ∷ 0 ∷ []) 0
    -- TURN: every point stays, and the first pass is the last
    ∷ moment turn 0 0 (1 ∷ 1 ∷ 1 ∷ []) 3
    ∷ moment turn 0 3 (1 ∷ 1 ∷ 1 ∷ []) 3
    ∷ moment turn 1 0 (1 ∷ 1 ∷ 1 ∷ []) 3
    -- seal, a call, write: the points stay, and the call between them is no point
    ∷ moment empty_word 0 0 (1 ∷ 0 ∷ 1 ∷ []) 2
    ∷ moment empty_word 0 1 (1 ∷ 0 ∷ 1 ∷ []) 2
    ∷ moment empty_word 0 2 (1 ∷ 0 ∷ 1 ∷ []) 2
    ∷ moment empty_word 0 3 (1 ∷ 0 ∷ 1 ∷ []) 2
    -- a plain node, then a point that goes
    ∷ moment word_last 0 0 (0 ∷ 1 ∷ []) 1
    ∷ moment word_last 0 1 (0 ∷ 1 ∷ []) 1
    ∷ moment word_last 0 2 (0 ∷ 0 ∷ []) 0
    ∷ moment word_last 2 0 (0 ∷ 0 ∷ []) 0
    -- no point at all
    ∷ moment no_point 0 0 (0 ∷ 0 ∷ []) 0
    ∷ moment no_point 1 0 (0 ∷ 0 ∷ []) 0
    ∷ []
