-- Laws of the event step: its four cases, and that it looks at no cell past S or A.
-- Assumes nothing.
use Rattle.std.specs.Prelude.{Ok}
use mathlib.Core.Path.{◌≡◌, refl, sym, ap, ◌∙◌, subst}
use mathlib.Core.Bool.{Bool, true, false, cond}
use mathlib.Core.Logic.{⊎_elim, by_cases}
use Prim.Native.Nat.{ℕ, ◌+◌, ◌<◌, ◌≤◌}
use native.Mathlib.Nat.{lt_of_not-le}
use native.Mathlib.Decide.{dec_le, dec_lt}
use native.Mathlib.Omega.{arith}
use borrow.Author.Tests.{lt-ltb, le-ltb}
use Rattle.laws.specs.Bits.{has}
use Rattle.laws.proofs.Tests.{passes_or_fails}
use Rattle.automaton.specs.Automaton.{Automaton, next, final, well_formed}
use Rattle.automaton.proofs.AutomatonLaws.{well_formed_same}
use Rattle.events.specs.Monitor.{EventStep, record_of, RecordIs, reported, max_total, raised, counted, record_after, refused_with, moved_to, taken, report_number, report_read, LooksAtNoOtherCell, ReportByNumber}
use Rattle.events.specs.declared.Record.{Record}
use Rattle.events.specs.declared.Report.TheVariants.{Quiet, Alarm}

-- there is a record in every state and with every total
pub record_with : (q n : ℕ) → (r : Record) × RecordIs q n r
record_with q n = (record_of q n, record { state = refl; total = refl })

-- below the ceiling the total rises, at the ceiling it stays
pub raised_rises : (n : ℕ) → n < max_total → raised n ≡ n + 1
unfolding raised
raised_rises n h = simp (lt-ltb n max_total h)

pub raised_stays : (n : ℕ) → max_total ≤ n → raised n ≡ n
unfolding raised
raised_stays n h = simp (le-ltb n max_total h)

-- a total of 64 bits stays one
pub counted_most : (b : Bool) (n : ℕ) → n ≤ max_total → counted b n ≤ max_total
counted_most false n h = h
counted_most true n h =
    by_cases (dec_lt n max_total) (λ (l : n < max_total). rw (raised_rises n l) (omega arith))
    (λ g. rw (raised_stays n (omega arith)) h)

-- the refusals, in their order
pub taken_13 : (m : Automaton) (a : ℕ) (r : Record) → well_formed m ≡ false → taken m a r ≡ refused_with 13 r
unfolding taken
taken_13 m a r w = simp w

pub taken_14 : (m : Automaton) (a : ℕ) (r : Record) → well_formed m ≡ true → m.symbols ≤ a → taken m a r ≡ refused_with 14 r
unfolding taken
taken_14 m a r w h = simp (w, le-ltb a m.symbols h)

pub taken_15
    : (m : Automaton) (a : ℕ) (r : Record) → well_formed m ≡ true → a < m.symbols → m.states ≤ r.state → taken m a r ≡ refused_with 15 r
unfolding taken
taken_15 m a r w h k = simp (w, lt-ltb a m.symbols h, le-ltb r.state m.states k)

-- the event that is taken, where the next state is q
pub taken_moved
    : (m : Automaton) (a : ℕ) (r : Record) (q : ℕ) → well_formed m ≡ true → a < m.symbols → r.state < m.states → q ≡ next m r.state a
    → taken m a r ≡ moved_to m q r
unfolding taken
taken_moved m a r q w h k e = simp (w, lt-ltb a m.symbols h, lt-ltb r.state m.states k, ← e)

-- a move to a final state alarms, and any other is quiet
pub moved_alarm : (m : Automaton) (q : ℕ) (r : Record) → final m q ≡ true → moved_to m q r ≡ reported (record_after q true r) (Ok Alarm)
unfolding moved_to
moved_alarm m q r f = simp f

pub moved_quiet : (m : Automaton) (q : ℕ) (r : Record) → final m q ≡ false → moved_to m q r ≡ reported (record_after q false r) (Ok Quiet)
unfolding moved_to
moved_quiet m q r f = simp f

-- the four cases of a call, as its tests find them
pub data TakenCase (m : Automaton) (a : ℕ) (r : Record) : Type 0 where
  no_rule : well_formed m ≡ false → TakenCase m a r
  no_symbol : well_formed m ≡ true → m.symbols ≤ a → TakenCase m a r
  no_state : well_formed m ≡ true → a < m.symbols → m.states ≤ r.state → TakenCase m a r
  moves : well_formed m ≡ true → a < m.symbols → r.state < m.states → TakenCase m a r

pub taken_case : (m : Automaton) (a : ℕ) (r : Record) → TakenCase m a r
taken_case m a r =
    ⊎_elim
    (λ (w : well_formed m ≡ true).
    by_cases (dec_le m.symbols a) (λ h. no_symbol w h)
    (λ h. by_cases (dec_le m.states r.state) (λ k. no_state w (lt_of_not-le h) k) (λ k. moves w (lt_of_not-le h) (lt_of_not-le k))))
    (λ (w : well_formed m ≡ false). no_rule w)
    (passes_or_fails (well_formed m))

-- the move looks at the final states alone
moved_same : (m n : Automaton) (q : ℕ) (r : Record) → m.finals ≡ n.finals → moved_to m q r ≡ moved_to n q r
unfolding moved_to
moved_same m n q r e = ap (λ (f : ℕ). cond (has f q) (reported (record_after q true r) (Ok Alarm)) (reported (record_after q false r) (Ok Quiet))) e

-- the event step looks at no cell past S or A
pub taken_same : LooksAtNoOtherCell
taken_same m n a r e = go (taken_case m a r)
  where
    w' : {b : Bool} → well_formed m ≡ b → well_formed n ≡ b
    w' w = sym (well_formed_same m n e) ∙ w

    go : TakenCase m a r → taken m a r ≡ taken n a r
    go (no_rule w) = taken_13 m a r w ∙ sym (taken_13 n a r (w' w))
    go (no_symbol w h) = taken_14 m a r w h ∙ sym (taken_14 n a r (w' w) (omega arith))
    go (no_state w h k) = taken_15 m a r w h k ∙ sym (taken_15 n a r (w' w) (omega arith) (omega arith))
    go (moves w h k) =
        taken_moved m a r _ w h k refl
        ∙ moved_same m n (next m r.state a) r e.finals
        ∙ sym (taken_moved n a r _ (w' w) (omega arith) (omega arith) (e.cells r.state a k h))

-- the report of a move is read back
moved_read : (m : Automaton) (q : ℕ) (r : Record) → report_read (report_number (moved_to m q r).report) ≡ (moved_to m q r).report
unfolding moved_to
moved_read m q r = go (final m q)
  where
    go
        : (b : Bool)
        → report_read (report_number (cond b (reported (record_after q true r) (Ok Alarm)) (reported (record_after q false r) (Ok Quiet))).report)
        ≡ (cond b (reported (record_after q true r) (Ok Alarm)) (reported (record_after q false r) (Ok Quiet))).report
    go true = refl
    go false = refl

-- the report is read back
pub report_by_number : ReportByNumber
report_by_number m a r = go (taken_case m a r)
  where
    read : {t : EventStep} → taken m a r ≡ t → report_read (report_number t.report) ≡ t.report
        → report_read (report_number (taken m a r).report) ≡ (taken m a r).report
    read e h = subst (λ (t : EventStep). report_read (report_number t.report) ≡ t.report) (sym e) h

    go : TakenCase m a r → report_read (report_number (taken m a r).report) ≡ (taken m a r).report
    go (no_rule w) = read (taken_13 m a r w) refl
    go (no_symbol w h) = read (taken_14 m a r w h) refl
    go (no_state w h k) = read (taken_15 m a r w h k) refl
    go (moves w h k) = read (taken_moved m a r _ w h k refl) (moved_read m (next m r.state a) r)
