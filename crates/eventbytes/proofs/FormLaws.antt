-- Across the C call the event step takes events as any form must. A record's numbers below 2^64 are read back from its bytes as written, so the
-- call of an event is the move of the step on values; it puts the new record in place of the old one, and the bytes around it stay. A
-- refused call, which may be lent any part of the bytes held, leaves all of them.
-- Assumes nothing.
use Rattle.std.specs.Prelude.{Result, Ok, Err}
use mathlib.Core.Path.{◌≡◌, refl, sym, ap, ap₂, ◌∙◌, subst}
use mathlib.Core.Logic.{inl}
use mathlib.Core.Bool.{Bool, true, false, cond, true≢false}
use mathlib.Core.List.{List, ◌++◌}
use Prim.Native.Nat.{ℕ, ◌+◌, ◌<◌, ◌≤◌}
use native.Mathlib.Omega.{arith}
use lib.ListN.{length, take, drop, length-append, length-take, length-drop, take-append-drop}
use lib.Seq.{take_at, drop_at}
use Rattle.laws.specs.Bytes.{number_at, bytes_of, put_number}
use Rattle.laws.proofs.Bytes.{length_put, number_put, number_put_other}
use Rattle.automaton.specs.Automaton.{Automaton, next, final, WellFormed}
use Rattle.events.specs.Monitor.{EventStep, RecordIs, reported, max_total, record_after, moved_to, report_number, refusal_number}
use Rattle.events.specs.Form.{RefusalKeeps, EventTaken, FormMoves}
use Rattle.events.specs.Run.{RefusedStandApart}
use Rattle.events.specs.declared.Record.{Record}
use Rattle.events.proofs.FormLaws.{refuses, alarmed, moved_accepted, moved_alarmed, left_counted, given_moves}
use Rattle.events.proofs.RunLaws.{refused_stand_apart}
use Rattle.eventbytes.specs.Event.{rule_in, state_place, total_place, record_size, record_in, event_taken, record_bytes, left_by, record_left}
use Rattle.eventbytes.specs.Form.{BytesHold, HeldBytes, record_among, ByteCall, ByteCallIs, lent, taken_on, bytes_left, call_form}
use Rattle.eventbytes.proofs.EventLaws.{record_read, length_bytes, record_put}
use Rattle.events.specs.declared.Report.{Report}
use Rattle.events.specs.declared.Report.TheVariants.{Quiet, Alarm}

-- ---- the record's bytes

-- a record's bytes have its length
pub record_bytes_length : (r : Record) → length (record_bytes r) ≡ record_size
unfolding record_bytes
record_bytes_length r =
    omega (arith, length-append (bytes_of 8 r.state) (bytes_of 8 r.alarms), length_bytes 8 r.state, length_bytes 8 r.alarms)

-- as two numbers written
record_bytes_put : (r : Record) → record_bytes r ≡ put_number 8 (put_number 8 (bytes_of record_size 0) state_place r.state) total_place r.alarms
record_bytes_put r = sym (record_put (bytes_of record_size 0) r (length_bytes record_size 0))

-- the state is read back
record_bytes_state : (r : Record) → r.state ≤ max_total → number_at 8 (record_bytes r) state_place ≡ r.state
record_bytes_state r h =
    let l = bytes_of record_size 0 in
    ap (λ (x : List ℕ). number_at 8 x state_place) (record_bytes_put r)
    ∙ number_put_other 8 8 (put_number 8 l state_place r.state) total_place state_place r.alarms (inl (omega arith))
    ∙ number_put 8 l state_place r.state (omega arith) (omega (arith, length_bytes record_size 0))

-- and the total
record_bytes_total : (r : Record) → r.alarms ≤ max_total → number_at 8 (record_bytes r) total_place ≡ r.alarms
record_bytes_total r h =
    let l = bytes_of record_size 0 in
    ap (λ (x : List ℕ). number_at 8 x total_place) (record_bytes_put r)
    ∙ number_put 8 (put_number 8 l state_place r.state) total_place r.alarms (omega arith)
    (omega (arith, length_put 8 l state_place r.state, length_bytes record_size 0))

-- the length, the state and the total of bytes that hold a record
hold_length : (q n : ℕ) (l : List ℕ) → BytesHold q n l → length l ≡ record_size
hold_length q n l b = ap length b.spelled ∙ record_bytes_length b.kept

hold_state : (q n : ℕ) (l : List ℕ) → q ≤ max_total → BytesHold q n l → number_at 8 l state_place ≡ q
hold_state q n l h b =
    ap (λ (x : List ℕ). number_at 8 x state_place) b.spelled ∙ record_bytes_state b.kept (omega (arith, b.is.state)) ∙ b.is.state

hold_total : (q n : ℕ) (l : List ℕ) → n ≤ max_total → BytesHold q n l → number_at 8 l total_place ≡ n
hold_total q n l h b =
    ap (λ (x : List ℕ). number_at 8 x total_place) b.spelled ∙ record_bytes_total b.kept (omega (arith, b.is.total)) ∙ b.is.total

-- the record is read
hold_read : (q n : ℕ) (l : List ℕ) → q ≤ max_total → n ≤ max_total → BytesHold q n l → RecordIs q n (record_in l)
hold_read q n l h k b =
    let read = record_read l (hold_length q n l b) in
    record {
      state = ap (λ (r : Record). r.state) read ∙ hold_state q n l h b;
      total = ap (λ (r : Record). r.alarms) read ∙ hold_total q n l k b;
    }

-- a move writes the record that it leaves
moved_bytes : (m : Automaton) (q : ℕ) (r : Record) (old : List ℕ) → record_left old (moved_to m q r) ≡ record_bytes (moved_to m q r).left
unfolding moved_to
moved_bytes m q r old = go (final m q)
  where
    moved : Bool → EventStep
    moved b = cond b (reported (record_after q true r) (Ok Alarm)) (reported (record_after q false r) (Ok Quiet))

    go : (b : Bool) → record_left old (moved b) ≡ record_bytes (moved b).left
    go true = refl
    go false = refl

-- ---- among other bytes

-- a part of n bytes at a place, with new ones for it, is found there again
part_replaced
    : (l new : List ℕ) (i n : ℕ) → 0 < n → length (take n (drop i l)) ≡ n → length new ≡ n
    → take n (drop i (take i l ++ (new ++ drop n (drop i l)))) ≡ new
part_replaced l new i n some old fresh =
    let rest = drop n (drop i l) in
    let front : length (take i l) ≡ i = omega (arith, length-take n (drop i l), length-drop i l, length-take i l) in
    ap (take n) (drop_at (take i l) (new ++ rest) i front) ∙ take_at new rest n fresh

-- ---- the call of an event

module _ (m : Automaton) (a q n : ℕ) (c : ByteCall) (h : HeldBytes) (wf : WellFormed m) (small : a < m.symbols) (below : q < m.states)
    (most : n ≤ max_total) (begins : BytesHold q n (record_among h)) (gives : ByteCallIs m a c h)
  where
    -- the record that it is lent
    abbrev given : Record
    given = record_in (lent c h.bytes)

    event_lent : lent c h.bytes ≡ record_among h
    event_lent = ap₂ (λ (i k : ℕ). take k (drop i h.bytes)) gives.start gives.count

    event_given : RecordIs q n given
    event_given =
        subst (λ (l : List ℕ). RecordIs q n (record_in l)) (sym event_lent)
        (hold_read q n (record_among h) (omega (arith, wf.few_states)) most begins)

    -- it is the move
    event_moves : taken_on c h.bytes ≡ moved_to m (next m q a) given
    unfolding event_taken
    event_moves =
        given_moves m (rule_in c.rule c.states c.symbols c.finals) a c.symbol q given wf small below gives.rule
        gives.symbol event_given.state

    -- it leaves the next record in the place of the old one
    event_left : record_among (call_form.left c h) ≡ record_bytes (moved_to m (next m q a) given).left
    event_left =
        let l = h.bytes in
        let new = record_bytes (moved_to m (next m q a) given).left in
        ap (λ (x : List ℕ). take record_size (drop h.place x))
        (ap (λ (x : List ℕ). take c.start l ++ (x ++ drop c.count (drop c.start l)))
        (ap (record_left (lent c l)) event_moves ∙ moved_bytes m (next m q a) given (lent c l))
        ∙ ap₂ (λ (i k : ℕ). take i l ++ (new ++ drop k (drop i l))) gives.start gives.count)
        ∙ part_replaced l new h.place record_size (omega arith) (hold_length q n (record_among h) begins)
        (record_bytes_length (moved_to m (next m q a) given).left)

    event_taken_lem : EventTaken call_form m a q n c h
    event_taken_lem =
        record {
          accepted = ap refuses event_moves ∙ moved_accepted m (next m q a) given;
          alarm = ap alarmed event_moves ∙ moved_alarmed m (next m q a) given;
          left =
              record {
                kept = (moved_to m (next m q a) given).left;
                is = left_counted m (next m q a) n given (moved_to m (next m q a) given) refl event_given.total;
                spelled = event_left;
              };
        }

-- ---- a refused call

-- a refusal leaves the bytes that it is lent
left_refused : (x : Result Report ℕ) (old new : List ℕ) → refusal_number (report_number x) ≡ true → left_by x old new ≡ old
left_refused (Ok Quiet) old new e = absurd (true≢false (sym e))
left_refused (Ok Alarm) old new e = absurd (true≢false (sym e))
left_refused (Err k) old new e = refl

-- and all others
bytes_kept : (c : ByteCall) (l : List ℕ) → refuses (taken_on c l) ≡ true → bytes_left c l ≡ l
bytes_kept c l e =
    ap (λ (x : List ℕ). take c.start l ++ (x ++ drop c.count (drop c.start l))) (left_refused (taken_on c l).report (lent c l) _ e)
    ∙ ap (λ (x : List ℕ). take c.start l ++ x) (take-append-drop c.count (drop c.start l))
    ∙ take-append-drop c.start l

pub call_refusal_keeps : RefusalKeeps call_form
call_refusal_keeps c h e = ap (λ (l : List ℕ). record { bytes = l; place = h.place }) (bytes_kept c h.bytes e)

-- ---- the form

pub call_moves : FormMoves call_form
call_moves =
    record {
      events = event_taken_lem;
      totals = λ q n h most begins. hold_total q n (record_among h) most begins;
      refusals = call_refusal_keeps;
    }

-- refused calls stand apart from the events of a run, also those that lend too few or too many bytes
pub call_refused_stand_apart : RefusedStandApart call_form
call_refused_stand_apart = refused_stand_apart call_form call_refusal_keeps
