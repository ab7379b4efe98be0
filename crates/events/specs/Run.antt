-- Runs of event calls on one record, in any form (document 01, "Two monitors on one walk": refused calls may stand anywhere between; they
-- stand for no event).
-- Assumes nothing.
use Rattle.std.specs.Prelude.{◌≡◌, Bool, true, false, not, List, [], ◌∷◌}
use Rattle.events.specs.Form.{EventForm}

-- what a call shows: its answer and the record after it
pub record Seen (f : EventForm) : Type 0 where
  pub answer : f.Answer
  pub after : f.Held

-- what this call shows
abbrev pub seen : (f : EventForm) → f.Call → f.Held → Seen f
seen f c h = record { answer = f.answer c h; after = f.left c h }

-- a run of calls, none between: what each shows
unfoldable pub run : (f : EventForm) → f.Held → List f.Call → List (Seen f)
run f h [] = []
run f h (c ∷ cs) = seen f c h ∷ run f (f.left c h) cs

-- a call that is not refused is an event
abbrev pub is_event : (f : EventForm) → f.Call → f.Held → Bool
is_event f c h = not (f.refusal (f.answer c h))

-- a call on the record of the run, or on another, which may be any
pub data Placed (f : EventForm) : Type 0 where
  here : f.Call → Placed f
  elsewhere : f.Call → f.Held → Placed f

-- an element where the test passes, before a list
abbrev pub cons_if {ℓ} : {A : Type ℓ} → Bool → A → List A → List A
cons_if true x xs = x ∷ xs
cons_if false x xs = xs

-- the events of a run with any calls between
unfoldable pub events_of : (f : EventForm) → f.Held → List (Placed f) → List f.Call
events_of f h [] = []
events_of f h (here c ∷ cs) = cons_if (is_event f c h) c (events_of f (f.left c h) cs)
events_of f h (elsewhere c o ∷ cs) = events_of f h cs

-- what these events show in that run
unfoldable pub seen_at_events : (f : EventForm) → f.Held → List (Placed f) → List (Seen f)
seen_at_events f h [] = []
seen_at_events f h (here c ∷ cs) = cons_if (is_event f c h) (seen f c h) (seen_at_events f (f.left c h) cs)
seen_at_events f h (elsewhere c o ∷ cs) = seen_at_events f h cs

-- the statement: events answer and leave what they do in the run without the calls between
abbrev pub RefusedStandApart : EventForm → Type 0
RefusedStandApart f = (h : f.Held) (cs : List (Placed f)) → seen_at_events f h cs ≡ run f h (events_of f h cs)
