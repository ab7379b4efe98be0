-- The three slips that document 01 rules out ("Trial jobs"), and its worthless versions of planning: what shows each to be wrong, on a
-- trial job. That it is so, `Slips`, is a theorem of `proofs/`.
-- Assumes nothing.
use Rattle.std.specs.Prelude.{◌≡◌, true, false, List, [], ◌∷◌, length}
use Rattle.job.specs.Walk.{Event, shadow}
use Rattle.job.specs.Plan.{full, enables, alarms, Faithful, Different}
use Rattle.planning.specs.Planning.{all_enabled, Passed}
use Rattle.planning.specs.Listing.{plan_of}
use Rattle.job.specs.Found.{nop_shadow}
use Rattle.planning.specs.Trials.{pair_rule, pair, loop, turn, reopened}

-- the walk of `reopened` through both its points
abbrev pub reopen_and_write : List Event
reopen_and_write = shadow 0 1 ∷ shadow 1 2 ∷ []

-- what shows each slip and each version to be wrong
pub record Slips : Type 0 where
  -- "removing all points with nop mark 1 together": both seals of PAIR have it, and with both unwatched the plan is different
  pub nops_together : (nop_shadow pair 0 0 ≡ true) × (nop_shadow pair 1 0 ≡ true) × Different pair (enables (0 ∷ 0 ∷ 1 ∷ []))
  -- "a point in a loop loses all its visits together": of LOOP one point with nop mark 1 alone makes the plan different
  pub nop_in_loop : (nop_shadow loop 0 0 ≡ true) × Different loop (enables (0 ∷ 1 ∷ []))
  -- "dropping a reopen because it can only prevent an alarm": the alarm that it prevents is a difference
  pub reopen_dropped
      : (alarms pair_rule full 1 reopen_and_write ≡ false ∷ false ∷ [])
      × (alarms pair_rule (enables (0 ∷ 1 ∷ [])) 1 reopen_and_write ≡ false ∷ true ∷ [])
      × Different reopened (enables (0 ∷ 1 ∷ []))
  -- "taking it that watching more points than a faithful plan does is faithful": of TURN 0 0 1 is, and 0 1 1 is not
  pub more_enabled : Faithful turn (enables (0 ∷ 0 ∷ 1 ∷ [])) × Different turn (enables (0 ∷ 1 ∷ 1 ∷ []))
  -- "always writes a plan of zeros": of PAIR it is different
  pub zeros : Different pair (enables (0 ∷ 0 ∷ 0 ∷ []))
  -- "leaves every point watched": planning does not, of PAIR nor of LOOP
  pub all_enabled_holds
      : (all_enabled pair ≡ 1 ∷ 1 ∷ 1 ∷ []) × ((plan_of pair).plan ≡ 0 ∷ 1 ∷ 1 ∷ []) × (all_enabled loop ≡ 1 ∷ 1 ∷ [])
      × ((plan_of loop).plan ≡ 0 ∷ 0 ∷ [])
  -- "removes points in pass one, later passes only counted": of LOOP that leaves the first, which need not be watched then
  pub pass_one_alone
      : Passed loop (all_enabled loop) (length loop.nodes) (1 ∷ 0 ∷ []) × Faithful loop (enables (0 ∷ 0 ∷ []))
      × ((plan_of loop).plan ≡ 0 ∷ 0 ∷ [])
