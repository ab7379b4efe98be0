-- The event step on values and on a lent record takes events as any form must: with the job's rule and a symbol below A, in a state below S,
-- a call is the move, and the number of its report says whether it alarms; a number below 2^48 is a refusal, which leaves the record.
-- Assumes nothing.
use Rattle.std.specs.Prelude.{Ok}
use mathlib.Core.Path.{◌≡◌, refl, sym, ap, ◌∙◌}
use mathlib.Core.Bool.{Bool, true, false, cond, true≢false}
use Prim.Native.Nat.{ℕ, ◌<◌}
use native.Mathlib.Omega.{arith}
use Rattle.automaton.specs.Automaton.{Automaton, next, final, WellFormed, SameRule}
use Rattle.automaton.proofs.AutomatonLaws.{well_formed_says}
use Rattle.events.specs.Monitor.{EventStep, RecordIs, reported, counted, record_after, moved_to, taken, report_number, alarm_number, refusal_number}
use Rattle.events.specs.Form.{EventTaken, FormMoves, Given, GivenIs, value_form, lent_form}
use Rattle.events.specs.declared.Record.{Record}
use Rattle.events.proofs.MonitorLaws.{TakenCase, no_rule, no_symbol, no_state, moves, taken_case, taken_13, taken_14, taken_15, taken_moved, taken_same}
use Rattle.events.specs.declared.Report.TheVariants.{Quiet, Alarm}

-- the answer is a refusal, or an alarm, by the number of its report
abbrev pub refuses : EventStep → Bool
refuses t = refusal_number (report_number t.report)

abbrev pub alarmed : EventStep → Bool
alarmed t = alarm_number (report_number t.report)

-- ---- a move

-- both its cases
moved_by : Bool → ℕ → Record → EventStep
moved_by b q r = cond b (reported (record_after q true r) (Ok Alarm)) (reported (record_after q false r) (Ok Quiet))

-- it is no refusal
pub moved_accepted : (m : Automaton) (q : ℕ) (r : Record) → refuses (moved_to m q r) ≡ false
unfolding moved_to moved_by
moved_accepted m q r = go (final m q)
  where
    go : (b : Bool) → refuses (moved_by b q r) ≡ false
    go true = refl
    go false = refl

-- it alarms where the state moved to is final
pub moved_alarmed : (m : Automaton) (q : ℕ) (r : Record) → alarmed (moved_to m q r) ≡ final m q
unfolding moved_to moved_by
moved_alarmed m q r = go (final m q)
  where
    go : (b : Bool) → alarmed (moved_by b q r) ≡ b
    go true = refl
    go false = refl

-- it leaves the state moved to, and the total raised at an alarm
pub moved_left : (m : Automaton) (q : ℕ) (r : Record) → RecordIs q (counted (final m q) r.alarms) (moved_to m q r).left
unfolding moved_to moved_by
moved_left m q r = go (final m q)
  where
    go : (b : Bool) → RecordIs q (counted b r.alarms) (moved_by b q r).left
    go true = record { state = refl; total = refl }
    go false = record { state = refl; total = refl }

-- so does a call t that is the move of a record with total n
pub left_counted
    : (m : Automaton) (q n : ℕ) (r : Record) (t : EventStep) → t ≡ moved_to m q r → r.alarms ≡ n → RecordIs q (counted (final m q) n) t.left
left_counted m q n r t e d =
    let left = moved_left m q r in
    record {
      state = ap (λ (x : EventStep). x.left.state) e ∙ left.state;
      total = ap (λ (x : EventStep). x.left.alarms) e ∙ left.total ∙ ap (counted (final m q)) d;
    }

-- ---- a call

-- with a rule that is m but for cells past S or A and the symbol a, on a record in state q below S, it is the move
pub given_moves
    : (m o : Automaton) (a b q : ℕ) (r : Record) → WellFormed m → a < m.symbols → q < m.states → SameRule m o → b ≡ a → r.state ≡ q
    → taken o b r ≡ moved_to m (next m q a) r
given_moves m o a b q r wf h k same e d =
    ap (λ (x : ℕ). taken o x r) e
    ∙ sym (taken_same m o a r same)
    ∙ taken_moved m a r (next m q a) ((well_formed_says m).1 wf) h (omega arith) (ap (λ (x : ℕ). next m x a) (sym d))

-- one that is refused leaves the record
pub refused_keeps : (m : Automaton) (a : ℕ) (r : Record) → refuses (taken m a r) ≡ true → (taken m a r).left ≡ r
refused_keeps m a r e = go (taken_case m a r)
  where
    kept : {t : EventStep} → taken m a r ≡ t → (taken m a r).left ≡ t.left
    kept u = ap (λ (t : EventStep). t.left) u

    go : TakenCase m a r → (taken m a r).left ≡ r
    go (no_rule w) = kept (taken_13 m a r w)
    go (no_symbol w h) = kept (taken_14 m a r w h)
    go (no_state w h k) = kept (taken_15 m a r w h k)
    go (moves w h k) =
        absurd (true≢false (sym e ∙ ap refuses (taken_moved m a r _ w h k refl) ∙ moved_accepted m (next m r.state a) r))

-- ---- on a lent record, and on values

-- the call of an event
record_event
    : (m : Automaton) (a q n : ℕ) (c : Given) (r : Record) → WellFormed m → a < m.symbols → q < m.states → RecordIs q n r → GivenIs m a c
    → EventTaken lent_form m a q n c r
record_event m a q n c r wf h k is gives =
    let to = next m q a in
    let moved = given_moves m c.rule a c.symbol q r wf h k gives.rule gives.symbol is.state in
    record {
      accepted = ap refuses moved ∙ moved_accepted m to r;
      alarm = ap alarmed moved ∙ moved_alarmed m to r;
      left = left_counted m to n r (taken c.rule c.symbol r) moved is.total;
    }

pub lent_moves : FormMoves lent_form
lent_moves =
    record {
      events = λ m a q n c r wf h k small is gives. record_event m a q n c r wf h k is gives;
      totals = λ q n r small is. is.total;
      refusals = λ c r. refused_keeps c.rule c.symbol r;
    }

pub value_moves : FormMoves value_form
value_moves =
    record {
      events = λ m a q n c r wf h k small is gives.
          let e = record_event m a q n c r wf h k is gives in record { accepted = e.accepted; alarm = e.alarm; left = e.left };
      totals = λ q n r small is. is.total;
      refusals = λ c r. refused_keeps c.rule c.symbol r;
    }
