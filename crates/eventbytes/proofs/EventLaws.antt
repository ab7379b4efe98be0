-- Laws of the event step across the C call: what it reads and writes, and its refusals by their causes.
-- Assumes nothing.
use Rattle.std.specs.Prelude.{Result, Ok}
use mathlib.Core.Path.{◌≡◌, refl, sym, ap, ◌∙◌}
use mathlib.Core.Logic.{by_cases}
use mathlib.Core.Bool.{Bool, true, false, cond, true≢false}
use mathlib.Core.List.{List, [], ◌++◌}
use Prim.Native.Nat.{ℕ, zero, suc, ◌+◌, ◌/◌, ◌<◌, ◌≤◌}
use native.Mathlib.Nat.{not-suc-le-zero, lt_irrefl}
use native.Mathlib.Decide.{ℕ_discrete}
use native.Mathlib.Omega.{arith}
use lib.ListN.{length, take, drop, length-append}
use lib.Seq.{sets-eq, take_at, take_all}
use borrow.Author.Tests.{eq-eqb, ne_eqb, lt-ltb, le-ltb}
use Rattle.laws.specs.Bytes.{number_at, bytes_of, put_number}
use Rattle.laws.proofs.Bytes.{length_put}
use Rattle.automaton.specs.Automaton.{Automaton, automaton_of, next, final, well_formed}
use Rattle.automaton.specs.Table.{table_of}
use Rattle.automaton.proofs.AutomatonLaws.{not_well_formed, well_formed_says}
use Rattle.events.specs.Monitor.{EventStep, reported, max_total, record_after, refused_with, moved_to, taken, report_number, refusal_number}
use Rattle.events.specs.declared.Record.{Record}
use Rattle.events.proofs.MonitorLaws.{taken_13, taken_14, taken_15, TakenCase, no_rule, no_symbol, no_state, moves, taken_moved, taken_case}
use Rattle.events.proofs.FormLaws.{refuses}
use Rattle.eventbytes.specs.Event.{rule_in, state_place, total_place, record_size, record_at, no_record, record_in, event_taken, record_bytes, left_by, record_left, refusal_of, refused_by, RefusesEventsInOrder}
use Rattle.events.specs.declared.Report.{Report}
use Rattle.events.specs.declared.Report.TheVariants.{Quiet, Alarm}

-- ---- reading

-- a record of its length is read, and no other
pub record_read : (l : List ℕ) → length l ≡ record_size → record_in l ≡ record_at l
unfolding record_in
record_read l e = simp (eq-eqb (length l) record_size e)

pub record_none : (l : List ℕ) → (length l ≡ record_size → ⊥) → record_in l ≡ no_record
unfolding record_in
record_none l e = simp (ne_eqb (length l) record_size e)

pub rule_of : (l : List ℕ) (s a f : ℕ) → length l ≡ 256 → rule_in l s a f ≡ automaton_of (table_of l) s a f
unfolding rule_in
rule_of l s a f e = ap (λ (b : Bool). automaton_of (table_of l) (cond b s 0) a f) (eq-eqb (length l) 256 e)

-- bytes of another length are no rule
pub rule_none : (l : List ℕ) (s a f : ℕ) → (length l ≡ 256 → ⊥) → well_formed (rule_in l s a f) ≡ false
unfolding rule_in
rule_none l s a f e =
    ap (λ (b : Bool). well_formed (automaton_of (table_of l) (cond b s 0) a f)) (ne_eqb (length l) 256 e)
    ∙ sym (not_well_formed (automaton_of (table_of l) 0 a f) (λ w. not-suc-le-zero w.some_state))

-- ---- writing

pub length_bytes : (n v : ℕ) → length (bytes_of n v) ≡ n
unfolding bytes_of
length_bytes zero v = refl
length_bytes (suc n) v = ap suc (length_bytes n (v / 256))

-- a number written after the first n bytes of a list: they stand first, and then its bytes
put_next
    : (n m : ℕ) (l first : List ℕ) (v : ℕ) → n + m ≤ length l → length first ≡ n → take n l ≡ first
    → take (n + m) (put_number m l n v) ≡ first ++ bytes_of m v
unfolding put_number
put_next n m l first v room long e =
    let new = bytes_of m v in
    let short : length new ≡ m = length_bytes m v in
    ap (take (n + m))
    (sets-eq new l n (omega arith) ∙ ap (λ (x : List ℕ). (x ++ new) ++ drop (n + length new) l) e)
    ∙ take_at (first ++ new) (drop (n + length new) l) (n + m) (omega (arith, length-append first new))

-- a record's numbers, each written in its place
pub record_put
    : (l : List ℕ) (r : Record) → length l ≡ record_size
    → put_number 8 (put_number 8 l state_place r.state) total_place r.alarms ≡ record_bytes r
unfolding record_bytes
record_put l r e =
    let x = put_number 8 l state_place r.state in
    let y = put_number 8 x total_place r.alarms in
    let x_long : length x ≡ record_size = length_put 8 l state_place r.state ∙ e in
    let y_long : length y ≡ record_size = length_put 8 x total_place r.alarms ∙ x_long in
    let state = put_next state_place 8 l [] r.state (omega arith) refl refl in
    let total = put_next total_place 8 x (bytes_of 8 r.state) r.alarms (omega arith) (length_bytes 8 r.state) state in
    sym (take_all record_size y (omega arith)) ∙ total

-- ---- the call

-- a rule of 256 bytes is taken by the table t that they spell
pub event_taken_lem
    : (rule : List ℕ) (s a f c : ℕ) (rec : List ℕ) (t : List (List ℕ)) → length rule ≡ 256 → t ≡ table_of rule
    → taken (automaton_of t s a f) c (record_in rec) ≡ event_taken rule s a f c rec
unfolding event_taken
event_taken_lem rule s a f c rec t e d =
    ap (λ (u : List (List ℕ)). taken (automaton_of u s a f) c (record_in rec)) d
    ∙ ap (λ (m : Automaton). taken m c (record_in rec)) (sym (rule_of rule s a f e))

-- a rule of another length is refused as 13
pub event_no_rule
    : (rule : List ℕ) (s a f c : ℕ) (rec : List ℕ) → (length rule ≡ 256 → ⊥) → refused_with 13 (record_in rec) ≡ event_taken rule s a f c rec
unfolding event_taken
event_no_rule rule s a f c rec e = sym (taken_13 _ c (record_in rec) (rule_none rule s a f e))

-- the state that is read
state_read : (rec : List ℕ) → length rec ≡ record_size → (record_in rec).state ≡ number_at 8 rec state_place
state_read rec e = ap (λ (r : Record). r.state) (record_read rec e)

-- a state below S is held by the bytes of a record alone
state_length : (rec : List ℕ) (s : ℕ) → (record_in rec).state < s → s ≤ 16 → length rec ≡ record_size
state_length rec s h k =
    by_cases (ℕ_discrete (length rec) record_size) (λ e. e)
    (λ e. absurd (lt_irrefl max_total (omega (arith, ap (λ (r : Record). r.state) (record_none rec e)))))

-- an event has the bytes of a record
pub event_length
    : (rule : List ℕ) (s a f c : ℕ) (rec : List ℕ) → refuses (event_taken rule s a f c rec) ≡ false → length rec ≡ record_size
unfolding event_taken
event_length rule s a f c rec e = go (taken_case m c r)
  where
    m : Automaton
    m = rule_in rule s a f

    r : Record
    r = record_in rec

    no_event : {t : EventStep} → taken m c r ≡ t → refuses t ≡ true → length rec ≡ record_size
    no_event u h = absurd (true≢false (sym h ∙ ap refuses (sym u) ∙ e))

    go : TakenCase m c r → length rec ≡ record_size
    go (no_rule w) = no_event (taken_13 m c r w) refl
    go (no_symbol w k) = no_event (taken_14 m c r w k) refl
    go (no_state w k l) = no_event (taken_15 m c r w k l) refl
    go (moves w k l) = state_length rec m.states l ((well_formed_says m).0 w).few_states

-- the number and the bytes of an answer t that reports x, where u is what the definition has
pub answered
    : (rec : List ℕ) (t u : EventStep) (x : Result Report ℕ) → t ≡ u → t.report ≡ x
    → (report_number x ≡ report_number u.report) × (left_by x rec (record_bytes t.left) ≡ record_left rec u)
answered rec t u x e r = (
  ap report_number (sym r ∙ ap (λ (v : EventStep). v.report) e),
  ap (λ (y : Result Report ℕ). left_by y rec (record_bytes t.left)) (sym r) ∙ ap (λ (v : EventStep). record_left rec v) e,
)

-- an answer that reports an event has the bytes of a record
pub answered_length
    : (rule : List ℕ) (s a f c : ℕ) (rec : List ℕ) (t : EventStep) (x : Result Report ℕ) → t ≡ event_taken rule s a f c rec → t.report ≡ x
    → refusal_number (report_number x) ≡ false → length rec ≡ record_size
answered_length rule s a f c rec t x e r h = event_length rule s a f c rec (ap refuses (sym e) ∙ ap (λ (y : Result Report ℕ). refusal_number (report_number y)) r ∙ h)

-- a move is refused by nothing
moved_unrefused : (m : Automaton) (q : ℕ) (r : Record) → refused_by (moved_to m q r).report ≡ 0
unfolding moved_to
moved_unrefused m q r = go (final m q)
  where
    go : (b : Bool) → refused_by (cond b (reported (record_after q true r) (Ok Alarm)) (reported (record_after q false r) (Ok Quiet))).report ≡ 0
    go true = refl
    go false = refl

-- with a rule of 256 bytes, in each case of the event step
refuses_case
    : (rule : List ℕ) (s a f symbol : ℕ) (rec : List ℕ) → length rule ≡ 256 → TakenCase (automaton_of (table_of rule) s a f) symbol (record_in rec)
    → refused_by (taken (automaton_of (table_of rule) s a f) symbol (record_in rec)).report ≡ refusal_of rule s a f symbol rec
unfolding refusal_of
refuses_case rule s a f symbol rec e (no_rule w) =
    ap (λ (t : EventStep). refused_by t.report) (taken_13 _ symbol (record_in rec) w) ∙ sym (simp (eq-eqb (length rule) 256 e, w))
refuses_case rule s a f symbol rec e (no_symbol w h) =
    ap (λ (t : EventStep). refused_by t.report) (taken_14 _ symbol (record_in rec) w h)
    ∙ sym (simp (eq-eqb (length rule) 256 e, w, le-ltb symbol a h))
refuses_case rule s a f symbol rec e (no_state w h k) =
    ap (λ (t : EventStep). refused_by t.report) (taken_15 _ symbol (record_in rec) w h k)
    ∙ sym
    (by_cases (ℕ_discrete (length rec) record_size)
    (λ (g : length rec ≡ record_size).
    simp (
      eq-eqb (length rule) 256 e,
      w,
      lt-ltb symbol a h,
      eq-eqb (length rec) record_size g,
      le-ltb (number_at 8 rec state_place) s (rw (state_read rec g) at k),
    ))
    (λ g. simp (eq-eqb (length rule) 256 e, w, lt-ltb symbol a h, ne_eqb (length rec) record_size g)))
refuses_case rule s a f symbol rec e (moves w h k) =
    let m = automaton_of (table_of rule) s a f in
    let r = record_in rec in
    let q = next m r.state symbol in
    let g : length rec ≡ record_size = state_length rec s k ((well_formed_says m).0 w).few_states in
    ap (λ (t : EventStep). refused_by t.report) (taken_moved m symbol r q w h k refl)
    ∙ moved_unrefused m q r
    ∙ sym
    (simp (
      eq-eqb (length rule) 256 e,
      w,
      lt-ltb symbol a h,
      eq-eqb (length rec) record_size g,
      lt-ltb (number_at 8 rec state_place) s (rw (state_read rec g) at k),
    ))

-- without 256 bytes
refusal_no_rule : (rule : List ℕ) (s a f symbol : ℕ) (rec : List ℕ) → (length rule ≡ 256 → ⊥) → refusal_of rule s a f symbol rec ≡ 13
unfolding refusal_of
refusal_no_rule rule s a f symbol rec e = simp (ne_eqb (length rule) 256 e)

-- the call refuses in order what its bytes say
pub refuses_events_in_order : RefusesEventsInOrder
refuses_events_in_order rule s a f symbol rec =
    by_cases (ℕ_discrete (length rule) 256)
    (λ (e : length rule ≡ 256).
    ap (λ (t : EventStep). refused_by t.report) (sym (event_taken_lem rule s a f symbol rec (table_of rule) e refl))
    ∙ refuses_case rule s a f symbol rec e (taken_case (automaton_of (table_of rule) s a f) symbol (record_in rec)))
    (λ e.
    ap (λ (t : EventStep). refused_by t.report) (sym (event_no_rule rule s a f symbol rec e))
    ∙ sym (refusal_no_rule rule s a f symbol rec e))
