-- Plans, the alarms of a monitor on a walk, and two monitors on one walk (document 01, "Nodes and walks").
-- Assumes nothing.
use Rattle.std.specs.Prelude.{◌≡◌, Bool, true, false, cond, not, ◌&&◌, List, [], ◌∷◌, ℕ, ◌<◌, eqb, get_or, length}
use Rattle.automaton.specs.Automaton.{Automaton, next, final}
use Rattle.job.specs.Job.{Job}
use Rattle.job.specs.Walk.{Event, shadow, word, symbol_of, Place, before, Walk, WalkOn, Start}

-- which nodes are enabled ("watched")
abbrev pub Enabling : Type 0
Enabling = ℕ → Bool

-- "all points watched": the full monitor
abbrev pub full : Enabling
full n = true

-- "a plan marks each event node watched or unwatched": plan bytes, 1 watched, 0 all else
abbrev pub enables : List ℕ → Enabling
enables plan n = eqb (get_or plan n 0) 1

-- "events at unwatched points are skipped; events of call words and after words are always taken"
abbrev pub takes : Enabling → Event → Bool
takes w (shadow n a) = w n
takes w (word a) = true

-- the state after an event: "the state stays" where it is skipped
abbrev pub state_at : Automaton → Enabling → ℕ → Event → ℕ
state_at m w q e = cond (takes w e) (next m q (symbol_of e)) q

-- an alarm at an event: the state moved to is final; "no alarm is given" where it is skipped
abbrev pub alarm_at : Automaton → Enabling → ℕ → Event → Bool
alarm_at m w q e = takes w e && final m (next m q (symbol_of e))

-- the state after a list of events
unfoldable pub state_after : Automaton → Enabling → ℕ → List Event → ℕ
state_after m w q [] = q
state_after m w q (e ∷ es) = state_after m w (state_at m w q e) es

-- the alarms, one for each event: of the residual monitor ("under a plan"), and of the full one under `full`
unfoldable pub alarms : Automaton → Enabling → ℕ → List Event → List Bool
alarms m w q [] = []
alarms m w q (e ∷ es) = alarm_at m w q e ∷ alarms m w (state_at m w q e) es

-- ---- two monitors on one walk, each with a watch of its own

-- some walk from a start leads to the place, and leaves the state p under the watch v and q under w
pub record ArrivesAt (j : Job) (v w : Enabling) (x : Place) (p q : ℕ) : Type 0 where
  pub start : Start j
  pub events : List Event
  pub walk : Walk j (before start.node) events x
  pub one : state_after j.rule v start.state events ≡ p
  pub other : state_after j.rule w start.state events ≡ q

-- on every walk from the place on, p under v and q under w alarm at the same events
abbrev pub AlikeAt : Job → Enabling → Enabling → Place → ℕ → ℕ → Type 0
AlikeAt j v w x p q = (k : WalkOn j x) → alarms j.rule v p k.events ≡ alarms j.rule w q k.events

-- two lists of alarms differ at one event
pub record DifferAt (xs ys : List Bool) (i : ℕ) : Type 0 where
  pub within : i < length xs
  pub differ : get_or xs i false ≡ not (get_or ys i false)

-- some walk from the place on tells p under v from q under w: an event where one monitor alarms and the other does not
pub record ApartAt (j : Job) (v w : Enabling) (x : Place) (p q : ℕ) : Type 0 where
  pub walk : WalkOn j x
  pub place : ℕ
  pub differs : DifferAt (alarms j.rule v p walk.events) (alarms j.rule w q walk.events) place

-- ---- a plan beside the full monitor

-- "faithful when on every walk, from every admitted start, the two monitors alarm at the same events"
abbrev pub Faithful : Job → Enabling → Type 0
Faithful j w = (s : Start j) → AlikeAt j full w (before s.node) s.state s.state

-- "different": a start from which some walk tells the two monitors apart
pub record Different (j : Job) (w : Enabling) : Type 0 where
  pub start : Start j
  pub apart : ApartAt j full w (before start.node) start.state start.state
