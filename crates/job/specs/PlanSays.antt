-- What a watch does at an event, in the sentences of document 01 ("Nodes and walks"): the statement, with a theorem in `proofs/`.
-- Assumes nothing.
use Rattle.std.specs.Prelude.{◌≡◌, true, false, ℕ}
use Rattle.automaton.specs.Automaton.{Automaton, next, final}
use Rattle.job.specs.Walk.{shadow, word}
use Rattle.job.specs.Plan.{Enabling, state_at, alarm_at}

-- for every rule and watch, at every state
pub record WatchSays : Type 0 where
  -- "events at unwatched points are skipped: the state stays and no alarm is given"
  pub skipped
      : (m : Automaton) (w : Enabling) (q n a : ℕ) → w n ≡ false
      → (state_at m w q (shadow n a) ≡ q) × (alarm_at m w q (shadow n a) ≡ false)
  -- those at watched points are taken: the monitor moves, and alarms where the state moved to is final
  pub taken
      : (m : Automaton) (w : Enabling) (q n a : ℕ) → w n ≡ true
      → (state_at m w q (shadow n a) ≡ next m q a) × (alarm_at m w q (shadow n a) ≡ final m (next m q a))
  -- "events of call words and after words are always taken"
  pub words
      : (m : Automaton) (w : Enabling) (q a : ℕ)
      → (state_at m w q (word a) ≡ next m q a) × (alarm_at m w q (word a) ≡ final m (next m q a))
