-- The third promise: planning and the event step together, from the bytes of the job file to the alarms, in all three forms of the event step.
-- Each form takes events as it must (`FormMoves`), so the plan keeps the alarms and each watched point is needed; and each has lists of calls.
-- Assumes nothing.
use Rattle.events.specs.Form.{EventForm, FormMoves, value_form, lent_form}
use Rattle.events.proofs.MonitorLaws.{report_by_number}
use Rattle.events.proofs.FormLaws.{value_moves, lent_moves}
use Rattle.twomonitors.specs.Monitors.{RecordsExist, RefusedExist}
use Rattle.twomonitors.proofs.MonitorsMore.{FormGives, lists_exist}
use Rattle.twomonitors.proofs.OrderLaws.{any_order}
use Rattle.planoutcome.proofs.PlanAfterLaws.{plan_bytes_say, seen_by_number}
use Rattle.eventbytes.specs.Form.{call_form}
use Rattle.eventbytes.proofs.FormLaws.{call_moves}
use Rattle.promise.specs.Promise.{PromiseIn, ThirdPromise}
use Rattle.promise.proofs.PlanningLaws.{planning_accepts, both_halves}
use Rattle.promise.proofs.CallsLaws.{value_gives, lent_gives, call_gives, value_refused, lent_refused, call_refused, value_records, lent_records, call_records}
use Rattle.promise.proofs.RuleLaws.{rule_tied}

-- in a form that moves as it must, and has calls, refused ones and records
promise_in : (f : EventForm) → FormMoves f → FormGives f → RecordsExist f → RefusedExist f → PromiseIn f
promise_in f form gives records refused =
    let lists = lists_exist f form gives records refused in
    record { both_halves = both_halves f form lists.calls; lists_exist = lists; any_order = any_order f }

-- the promise, whole
pub third_promise : ThirdPromise
third_promise =
    record {
      on_values = promise_in value_form value_moves value_gives value_records value_refused;
      on_a_lent_record = promise_in lent_form lent_moves lent_gives lent_records lent_refused;
      across_the_c_call = promise_in call_form call_moves call_gives call_records call_refused;
      planning_accepts = planning_accepts;
      plan_bytes_holds = plan_bytes_say;
      planning_seen = seen_by_number;
      rule_tied = rule_tied;
      report_seen = report_by_number;
    }
