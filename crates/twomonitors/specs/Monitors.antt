-- Two monitors on one walk (document 01, "Two monitors on one walk"), in any form of the event step.
-- Assumes nothing.
use Rattle.std.specs.Prelude.{◌≡◌, ◌⊎◌, Bool, true, false, cond, not, List, [], ◌∷◌, ◌++◌, ℕ, ◌<◌, ◌≤◌, length, set}
use Rattle.automaton.specs.Automaton.{Automaton}
use Rattle.events.specs.Monitor.{max_total}
use Rattle.events.specs.Form.{EventForm}
use Rattle.events.specs.Run.{Seen, seen, cons_if}
use Rattle.job.specs.Job.{Job, WellFormedJob}
use Rattle.job.specs.Walk.{Event, symbol_of, Start, WalkFrom}
use Rattle.job.specs.Plan.{Enabling, takes, enables}
use Rattle.planning.specs.Listing.{plan_of}

-- ---- a list of calls

-- an entry of the list: an event of the walk, with the call on full and the one that planned gets where it is given the event; or a call
-- that stands for no event, on full, on planned or on another record
pub data Entry (f : EventForm) : Type 0 where
  walked : Event → f.Call → f.Call → Entry f
  on_full : f.Call → Entry f
  on_planned : f.Call → Entry f
  elsewhere : f.Call → f.Held → Entry f

-- the walk's events in the list, in order
unfoldable pub events_in : {f : EventForm} → List (Entry f) → List Event
events_in [] = []
events_in (walked e c d ∷ cs) = e ∷ events_in cs
events_in (on_full c ∷ cs) = events_in cs
events_in (on_planned c ∷ cs) = events_in cs
events_in (elsewhere c h ∷ cs) = events_in cs

-- "two records, full and planned"
pub record Both (f : EventForm) : Type 0 where
  pub full : f.Held
  pub planned : f.Held

-- the two records after an entry: "planned is given every event except those of points whose plan byte is 0"
unfoldable pub after_entry : {f : EventForm} → Enabling → Both f → Entry f → Both f
after_entry {f} w t (walked e c d) =
    record { full = f.left c t.full; planned = cond (takes w e) (f.left d t.planned) t.planned }
after_entry {f} w t (on_full c) = record { full = f.left c t.full; planned = t.planned }
after_entry {f} w t (on_planned c) = record { full = t.full; planned = f.left c t.planned }
after_entry {f} w t (elsewhere c h) = t

-- the two records after a list
unfoldable pub after_list : {f : EventForm} → Enabling → Both f → List (Entry f) → Both f
unfolding after_entry
after_list w t [] = t
after_list w t (x ∷ cs) = after_list w (after_entry w t x) cs

-- a call reports an alarm
abbrev pub reports : (f : EventForm) → f.Call → f.Held → Bool
reports f c h = f.alarm (f.answer c h)

-- "an event not given to planned counts as quiet for it"
abbrev pub reports_planned : (f : EventForm) → Enabling → Event → f.Call → f.Held → Bool
reports_planned f w e d h = cond (takes w e) (reports f d h) false

-- "each of these calls gets the job's rule, the event's symbol and its record as the call before left it, and nothing else writes to either
-- record"; "refused calls may stand anywhere between, on either record"; a call on another record may be any
unfoldable pub ProperList : {f : EventForm} → Automaton → Enabling → Both f → List (Entry f) → Type 0
unfolding after_entry
ProperList rule w t [] = Unit {0}
ProperList {f} rule w t (walked e c d ∷ cs) =
    f.Gives rule (symbol_of e) c t.full
    × (takes w e ≡ true → f.Gives rule (symbol_of e) d t.planned)
    × ProperList rule w (after_entry w t (walked e c d)) cs
ProperList {f} rule w t (on_full c ∷ cs) =
    (f.refusal (f.answer c t.full) ≡ true) × ProperList rule w (after_entry w t (on_full c)) cs
ProperList {f} rule w t (on_planned c ∷ cs) =
    (f.refusal (f.answer c t.planned) ≡ true) × ProperList rule w (after_entry w t (on_planned c)) cs
ProperList rule w t (elsewhere c h ∷ cs) = ProperList rule w t cs

-- "at every event of the list full reports alarm exactly when planned does; after every event the two alarm totals are equal"
unfoldable pub AgreeOn : {f : EventForm} → Enabling → Both f → List (Entry f) → Type 0
unfolding after_entry
AgreeOn w t [] = Unit {0}
AgreeOn {f} w t (walked e c d ∷ cs) =
    (reports f c t.full ≡ reports_planned f w e d t.planned)
    × (f.total (after_entry w t (walked e c d)).full ≡ f.total (after_entry w t (walked e c d)).planned)
    × AgreeOn w (after_entry w t (walked e c d)) cs
AgreeOn w t (on_full c ∷ cs) = AgreeOn w (after_entry w t (on_full c)) cs
AgreeOn w t (on_planned c ∷ cs) = AgreeOn w (after_entry w t (on_planned c)) cs
AgreeOn w t (elsewhere c h ∷ cs) = AgreeOn w t cs

-- "the reports differ at some event"
unfoldable pub DisagreeOn : {f : EventForm} → Enabling → Both f → List (Entry f) → Type 0
unfolding after_entry
DisagreeOn w t [] = ⊥
DisagreeOn {f} w t (walked e c d ∷ cs) =
    (reports f c t.full ≡ not (reports_planned f w e d t.planned)) ⊎ DisagreeOn w (after_entry w t (walked e c d)) cs
DisagreeOn w t (on_full c ∷ cs) = DisagreeOn w (after_entry w t (on_full c)) cs
DisagreeOn w t (on_planned c ∷ cs) = DisagreeOn w (after_entry w t (on_planned c)) cs
DisagreeOn w t (elsewhere c h ∷ cs) = DisagreeOn w t cs

-- "both begin with that state and with the same alarm total, whatever it is"; all else that is held of them may differ
pub record BeginBoth (f : EventForm) (q n : ℕ) (t : Both f) : Type 0 where
  pub full : f.Begins q n t.full
  pub planned : f.Begins q n t.planned

-- a list of calls on a walk: its events in order, and on the two records nothing but refused calls between
pub record ListOn (f : EventForm) (j : Job) (plan : List ℕ) (s : Start j) (k : WalkFrom j s) (t : Both f) : Type 0 where
  pub calls : List (Entry f)
  pub events : events_in calls ≡ k.events
  pub proper : ProperList j.rule (enables plan) t calls

-- ---- both halves

-- the first half, for a plan's bytes
abbrev pub AlarmsKept : EventForm → Job → List ℕ → Type 0
AlarmsKept f j plan =
    (s : Start j) (k : WalkFrom j s) (total : ℕ) → total ≤ max_total → (t : Both f) → BeginBoth f s.state total t
    → (c : ListOn f j plan s k t) → AgreeOn (enables plan) t c.calls

-- a walk on which the reports differ under a plan, whatever the total, the records and the calls between; and there are such calls
pub record AlarmsDiffer (f : EventForm) (j : Job) (plan : List ℕ) : Type 0 where
  pub start : Start j
  pub walk : WalkFrom j start
  pub reports
      : (total : ℕ) → total ≤ max_total → (t : Both f) → BeginBoth f start.state total t → (c : ListOn f j plan start walk t)
      → DisagreeOn (enables plan) t c.calls
  pub calls : (t : Both f) → ListOn f j plan start walk t

-- the second half: "for every point whose plan byte is 1 .. with that byte alone made 0, the reports differ at some event"
abbrev pub PointsNeeded : EventForm → Job → List ℕ → Type 0
PointsNeeded f j plan = (n : ℕ) → n < length j.nodes → enables plan n ≡ true → AlarmsDiffer f j (set plan n 0)

-- both, of the plan that planning makes
abbrev pub TwoMonitors : EventForm → Job → Type 0
TwoMonitors f j = WellFormedJob j → AlarmsKept f j (plan_of j).plan × PointsNeeded f j (plan_of j).plan

-- ---- there are such lists

-- every call of a list can be passed
unfoldable pub PassableList : {f : EventForm} → List (Entry f) → Type 0
PassableList [] = Unit {0}
PassableList {f} (walked e c d ∷ cs) = f.Passable c × f.Passable d × PassableList cs
PassableList {f} (on_full c ∷ cs) = f.Passable c × PassableList cs
PassableList {f} (on_planned c ∷ cs) = f.Passable c × PassableList cs
PassableList {f} (elsewhere c h ∷ cs) = f.Passable c × PassableList cs

-- the statement: there are records in every state and with every alarm total
abbrev pub RecordsExist : EventForm → Type 0
RecordsExist f = (q n : ℕ) → q < 16 → n ≤ max_total → (h : f.Held) × f.Begins q n h

-- the statement: on every walk, under every plan and from every two records there is a list of calls that can be passed
abbrev pub CallsExist : EventForm → Type 0
CallsExist f =
    (j : Job) → WellFormedJob j → (plan : List ℕ) (s : Start j) (k : WalkFrom j s) (t : Both f)
    → (c : ListOn f j plan s k t) × PassableList c.calls

-- a call that stands for no event and may stand where the records are so: refused on either, or any on another record
unfoldable pub StandsBetween : {f : EventForm} → Both f → Entry f → Type 0
StandsBetween t (walked e c d) = ⊥
StandsBetween {f} t (on_full c) = f.refusal (f.answer c t.full) ≡ true
StandsBetween {f} t (on_planned c) = f.refusal (f.answer c t.planned) ≡ true
StandsBetween t (elsewhere c h) = Unit {0}

-- the statement: such a call may stand at any place of a list
abbrev pub RefusedAnywhere : EventForm → Type 0
RefusedAnywhere f =
    (j : Job) (plan : List ℕ) (s : Start j) (k : WalkFrom j s) (t : Both f) (c : ListOn f j plan s k t) (before after : List (Entry f))
    → c.calls ≡ before ++ after → (x : Entry f) → StandsBetween (after_list (enables plan) t before) x
    → (d : ListOn f j plan s k t) × (d.calls ≡ before ++ x ∷ after)

-- the statement: on every record there is one
abbrev pub RefusedExist : EventForm → Type 0
RefusedExist f = (h : f.Held) → (c : f.Call) × f.Passable c × (f.refusal (f.answer c h) ≡ true)

-- at no event of a list is the call refused, on full or on planned
unfoldable pub NoneRefused : {f : EventForm} → Enabling → Both f → List (Entry f) → Type 0
unfolding after_entry
NoneRefused w t [] = Unit {0}
NoneRefused {f} w t (walked e c d ∷ cs) =
    (f.refusal (f.answer c t.full) ≡ false)
    × (takes w e ≡ true → f.refusal (f.answer d t.planned) ≡ false)
    × NoneRefused w (after_entry w t (walked e c d)) cs
NoneRefused w t (on_full c ∷ cs) = NoneRefused w (after_entry w t (on_full c)) cs
NoneRefused w t (on_planned c ∷ cs) = NoneRefused w (after_entry w t (on_planned c)) cs
NoneRefused w t (elsewhere c h ∷ cs) = NoneRefused w t cs

-- the statement: so it is on every walk, under every plan
abbrev pub EventsTaken : EventForm → Type 0
EventsTaken f =
    (j : Job) → WellFormedJob j → (plan : List ℕ) (s : Start j) (k : WalkFrom j s) (total : ℕ) → total ≤ max_total
    → (t : Both f) → BeginBoth f s.state total t → (c : ListOn f j plan s k t) → NoneRefused (enables plan) t c.calls

-- what makes the promise one of lists that there are, with refused calls anywhere and events that are taken, in one form
pub record ListsExist (f : EventForm) : Type 0 where
  pub records : RecordsExist f
  pub calls : CallsExist f
  pub refused_anywhere : RefusedAnywhere f
  pub refused : RefusedExist f
  pub events_taken : EventsTaken f

-- ---- that an event's two calls are one entry loses nothing

-- one call, on full, on planned or on another record
pub data Single (f : EventForm) : Type 0 where
  to_full : f.Call → Single f
  to_planned : f.Call → Single f
  to_another : f.Call → f.Held → Single f

-- full's own calls, in their order
unfoldable pub calls_to_full : {f : EventForm} → List (Single f) → List f.Call
calls_to_full [] = []
calls_to_full (to_full c ∷ xs) = c ∷ calls_to_full xs
calls_to_full (to_planned c ∷ xs) = calls_to_full xs
calls_to_full (to_another c h ∷ xs) = calls_to_full xs

-- planned's
unfoldable pub calls_to_planned : {f : EventForm} → List (Single f) → List f.Call
calls_to_planned [] = []
calls_to_planned (to_full c ∷ xs) = calls_to_planned xs
calls_to_planned (to_planned c ∷ xs) = c ∷ calls_to_planned xs
calls_to_planned (to_another c h ∷ xs) = calls_to_planned xs

-- the two records after a call
unfoldable pub after_single : {f : EventForm} → Both f → Single f → Both f
after_single {f} t (to_full c) = record { full = f.left c t.full; planned = t.planned }
after_single {f} t (to_planned c) = record { full = t.full; planned = f.left c t.planned }
after_single t (to_another c h) = t

-- what full's calls show in a list of calls, in their order: the answer and the record after each
unfoldable pub seen_on_full : {f : EventForm} → Both f → List (Single f) → List (Seen f)
unfolding after_single
seen_on_full t [] = []
seen_on_full {f} t (to_full c ∷ xs) = seen f c t.full ∷ seen_on_full (after_single t (to_full c)) xs
seen_on_full t (to_planned c ∷ xs) = seen_on_full (after_single t (to_planned c)) xs
seen_on_full t (to_another c h ∷ xs) = seen_on_full t xs

-- what planned's show
unfoldable pub seen_on_planned : {f : EventForm} → Both f → List (Single f) → List (Seen f)
unfolding after_single
seen_on_planned t [] = []
seen_on_planned t (to_full c ∷ xs) = seen_on_planned (after_single t (to_full c)) xs
seen_on_planned {f} t (to_planned c ∷ xs) = seen f c t.planned ∷ seen_on_planned (after_single t (to_planned c)) xs
seen_on_planned t (to_another c h ∷ xs) = seen_on_planned t xs

-- a record's own call: that of an event, or a refused one between
pub data OwnCall (f : EventForm) : Type 0 where
  takes_event : Event → f.Call → OwnCall f
  is_refused : f.Call → OwnCall f

-- the calls themselves
unfoldable pub own_calls : {f : EventForm} → List (OwnCall f) → List f.Call
own_calls [] = []
own_calls (takes_event e c ∷ xs) = c ∷ own_calls xs
own_calls (is_refused c ∷ xs) = c ∷ own_calls xs

-- full's own calls in a list of entries
unfoldable pub own_of_full : {f : EventForm} → List (Entry f) → List (OwnCall f)
own_of_full [] = []
own_of_full (walked e c d ∷ cs) = takes_event e c ∷ own_of_full cs
own_of_full (on_full c ∷ cs) = is_refused c ∷ own_of_full cs
own_of_full (on_planned c ∷ cs) = own_of_full cs
own_of_full (elsewhere c h ∷ cs) = own_of_full cs

-- planned's, the call of an event only where it is given
unfoldable pub own_of_planned : {f : EventForm} → Enabling → List (Entry f) → List (OwnCall f)
own_of_planned w [] = []
own_of_planned w (walked e c d ∷ cs) = cons_if (takes w e) (takes_event e d) (own_of_planned w cs)
own_of_planned w (on_full c ∷ cs) = own_of_planned w cs
own_of_planned w (on_planned c ∷ cs) = is_refused c ∷ own_of_planned w cs
own_of_planned w (elsewhere c h ∷ cs) = own_of_planned w cs

-- what full's show
unfoldable pub entries_on_full : {f : EventForm} → Enabling → Both f → List (Entry f) → List (Seen f)
unfolding after_entry
entries_on_full w t [] = []
entries_on_full {f} w t (walked e c d ∷ cs) = seen f c t.full ∷ entries_on_full w (after_entry w t (walked e c d)) cs
entries_on_full {f} w t (on_full c ∷ cs) = seen f c t.full ∷ entries_on_full w (after_entry w t (on_full c)) cs
entries_on_full w t (on_planned c ∷ cs) = entries_on_full w (after_entry w t (on_planned c)) cs
entries_on_full w t (elsewhere c h ∷ cs) = entries_on_full w t cs

-- what planned's show
unfoldable pub entries_on_planned : {f : EventForm} → Enabling → Both f → List (Entry f) → List (Seen f)
unfolding after_entry
entries_on_planned w t [] = []
entries_on_planned {f} w t (walked e c d ∷ cs) =
    cons_if (takes w e) (seen f d t.planned) (entries_on_planned w (after_entry w t (walked e c d)) cs)
entries_on_planned w t (on_full c ∷ cs) = entries_on_planned w (after_entry w t (on_full c)) cs
entries_on_planned {f} w t (on_planned c ∷ cs) = seen f c t.planned ∷ entries_on_planned w (after_entry w t (on_planned c)) cs
entries_on_planned w t (elsewhere c h ∷ cs) = entries_on_planned w t cs

-- a list of single calls in which each record's own calls are those of the entries, in their order
pub record SameCalls {f : EventForm} (w : Enabling) (cs : List (Entry f)) (xs : List (Single f)) : Type 0 where
  pub full : calls_to_full xs ≡ own_calls (own_of_full cs)
  pub planned : calls_to_planned xs ≡ own_calls (own_of_planned w cs)

-- what is seen on either record is what is seen in the list of entries
pub record SameSeen {f : EventForm} (w : Enabling) (t : Both f) (cs : List (Entry f)) (xs : List (Single f)) : Type 0 where
  pub full : seen_on_full t xs ≡ entries_on_full w t cs
  pub planned : seen_on_planned t xs ≡ entries_on_planned w t cs

-- the statement: in any order of the calls on two records, in which each record's own calls keep theirs, the same is seen
abbrev pub SeenAlike : EventForm → Type 0
SeenAlike f = (w : Enabling) (t : Both f) (cs : List (Entry f)) (xs : List (Single f)) → SameCalls w cs xs → SameSeen w t cs xs

-- the events among them
unfoldable pub own_events : {f : EventForm} → List (OwnCall f) → List Event
own_events [] = []
own_events (takes_event e c ∷ xs) = e ∷ own_events xs
own_events (is_refused c ∷ xs) = own_events xs

-- each event's call gets the rule, the event's symbol and the record as the call before left it, and every other is refused
unfoldable pub ProperOwn : {f : EventForm} → Automaton → f.Held → List (OwnCall f) → Type 0
ProperOwn rule h [] = Unit {0}
ProperOwn {f} rule h (takes_event e c ∷ xs) = f.Gives rule (symbol_of e) c h × ProperOwn rule (f.left c h) xs
ProperOwn {f} rule h (is_refused c ∷ xs) = (f.refusal (f.answer c h) ≡ true) × ProperOwn rule (f.left c h) xs

-- the events that planned is given
unfoldable pub given_of : Enabling → List Event → List Event
given_of w [] = []
given_of w (e ∷ es) = cons_if (takes w e) e (given_of w es)

-- the statement: whatever calls full gets on a walk, and planned on the events that it is given, there is a list of entries with just
-- these, the same calls for the same events
abbrev pub AllListed : EventForm → Type 0
AllListed f =
    (j : Job) (plan : List ℕ) (s : Start j) (k : WalkFrom j s) (t : Both f) (xs ys : List (OwnCall f)) → own_events xs ≡ k.events
    → own_events ys ≡ given_of (enables plan) k.events → ProperOwn j.rule t.full xs → ProperOwn j.rule t.planned ys
    → (c : ListOn f j plan s k t) × (own_of_full c.calls ≡ xs) × (own_of_planned (enables plan) c.calls ≡ ys)

-- both: every two lists of own calls are those of a list of entries, and any order of them shows what it does
pub record AnyOrder (f : EventForm) : Type 0 where
  pub listed : AllListed f
  pub seen : SeenAlike f
