-- A reason for which an event is turned back leaves the record, and no report is a refusal.
-- Assumes nothing.
use Rattle.std.specs.Prelude.{Ok, Err}
use mathlib.Core.Path.{◌≡◌, refl, sym, ap, ◌∙◌}
use mathlib.Core.Bool.{true, false}
use Prim.Native.Nat.{ℕ}
use Rattle.refusal.specs.declared.Refusal.{Refusal}
use Rattle.refusal.specs.Refusal.{number_of}
use Rattle.refusal.proofs.RefusalLaws.{number_below}
use Rattle.automaton.specs.Automaton.{Automaton}
use Rattle.events.specs.Monitor.{EventStep, reported, refused_with, taken, report_number, refusal_number}
use Rattle.events.specs.declared.Record.{Record}
use Rattle.events.specs.declared.Report.{Report}
use Rattle.events.specs.declared.Report.TheVariants.{Quiet, Alarm}
use Rattle.events.proofs.FormLaws.{refuses, refused_keeps}

-- what is said of the record that is left holds of the record as it was
pub turned_keeps
    : (m : Automaton) (a : ℕ) (r left : Record) (k : Refusal) → reported left (Err (number_of k)) ≡ taken m a r
    → refused_with (number_of k) r ≡ taken m a r
turned_keeps m a r left k e =
    let turned : refuses (taken m a r) ≡ true = sym (ap refuses e) ∙ number_below k in
    let same : left ≡ r = ap (λ (t : EventStep). t.left) e ∙ refused_keeps m a r turned in
    ap (λ (x : Record). reported x (Err (number_of k))) (sym same) ∙ e

-- the number of a report is no refusal's
pub report_accepted : (x : Report) → refusal_number (report_number (Ok x)) ≡ false
report_accepted Quiet = refl
report_accepted Alarm = refl
