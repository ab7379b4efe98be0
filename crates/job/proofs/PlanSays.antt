-- What a watch does at an event is what document 01 says of it.
-- Assumes nothing.
use mathlib.Core.Path.{refl}
use Rattle.job.specs.PlanSays.{WatchSays}

-- by the test of the node
pub watch_says : WatchSays
watch_says = record {
  skipped = λ m w q n a h. (rw h refl, rw h refl);
  taken = λ m w q n a h. (rw h refl, rw h refl);
  words = λ m w q a. (refl, refl);
}
