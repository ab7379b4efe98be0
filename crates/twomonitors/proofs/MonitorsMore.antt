-- There are lists of calls on every walk, in any form with a call for each rule and symbol, and refused calls may stand anywhere in them: at
-- any place one more that is refused as the records stand there, or one on another record, is again a list of calls on the walk. For a refusal
-- leaves its record, so that the calls after it find the records as before.
-- Assumes nothing.
use mathlib.Core.Path.{◌≡◌, refl, sym, ap, ◌∙◌, subst}
use mathlib.Core.List.{List, [], ◌∷◌, ◌++◌}
use Prim.Native.Nat.{ℕ, ◌<◌}
use Rattle.automaton.specs.Automaton.{Automaton, WellFormed}
use Rattle.events.specs.Form.{EventForm, RefusalKeeps, FormMoves}
use Rattle.job.specs.Walk.{Event, symbol_of}
use Rattle.job.specs.Plan.{Enabling, enables}
use Rattle.twomonitors.specs.Monitors.{Entry, walked, on_full, on_planned, elsewhere, events_in, Both, after_entry, after_list, ProperList, PassableList, RecordsExist, CallsExist, StandsBetween, RefusedAnywhere, RefusedExist, ListsExist}
use Rattle.twomonitors.proofs.MonitorsLaws.{symbols_below, symbols_below_lem, walk_taken}

-- ---- a call between

-- it leaves both records
pub between_keeps : (f : EventForm) → RefusalKeeps f → (w : Enabling) (t : Both f) (x : Entry f) → StandsBetween t x → after_entry w t x ≡ t
unfolding after_entry StandsBetween
between_keeps f keeps w t (walked e c d) b = absurd b
between_keeps f keeps w t (on_full c) b = ap (λ (h : f.Held). record { full = h; planned = t.planned }) (keeps c t.full b)
between_keeps f keeps w t (on_planned c) b = ap (λ (h : f.Held). record { full = t.full; planned = h }) (keeps c t.planned b)
between_keeps f keeps w t (elsewhere c h) b = refl

-- it adds no event
between_events
    : {f : EventForm} (t : Both f) (x : Entry f) → StandsBetween t x → (before after : List (Entry f))
    → events_in (before ++ x ∷ after) ≡ events_in (before ++ after)
unfolding events_in StandsBetween
between_events t (walked e c d) b [] after = absurd b
between_events t (on_full c) b [] after = refl
between_events t (on_planned c) b [] after = refl
between_events t (elsewhere c h) b [] after = refl
between_events t x b (walked e c d ∷ cs) after = ap (λ (l : List Event). e ∷ l) (between_events t x b cs after)
between_events t x b (on_full c ∷ cs) after = between_events t x b cs after
between_events t x b (on_planned c ∷ cs) after = between_events t x b cs after
between_events t x b (elsewhere c h ∷ cs) after = between_events t x b cs after

module _ (f : EventForm) (keeps : RefusalKeeps f) (m : Automaton) (w : Enabling) where
  -- at the front of a proper list it gives one
  between_front : (t : Both f) (x : Entry f) (cs : List (Entry f)) → StandsBetween t x → ProperList m w t cs → ProperList m w t (x ∷ cs)
  unfolding ProperList StandsBetween
  between_front t (walked e c d) cs b p = absurd b
  between_front t (on_full c) cs b p =
      (b, subst (λ (u : Both f). ProperList m w u cs) (sym (between_keeps f keeps w t (on_full c) b)) p)
  between_front t (on_planned c) cs b p =
      (b, subst (λ (u : Both f). ProperList m w u cs) (sym (between_keeps f keeps w t (on_planned c) b)) p)
  between_front t (elsewhere c h) cs b p = p

  -- at any place
  between_proper
      : (t : Both f) (x : Entry f) (before after : List (Entry f)) → StandsBetween (after_list w t before) x
      → ProperList m w t (before ++ after) → ProperList m w t (before ++ x ∷ after)
  unfolding ProperList after_list after_entry
  between_proper t x [] after b p = between_front t x after b p
  between_proper t x (walked e c d ∷ cs) after b p =
      (p.0, p.1, between_proper (after_entry w t (walked e c d)) x cs after b p.2)
  between_proper t x (on_full c ∷ cs) after b p = (p.0, between_proper (after_entry w t (on_full c)) x cs after b p.1)
  between_proper t x (on_planned c ∷ cs) after b p = (p.0, between_proper (after_entry w t (on_planned c)) x cs after b p.1)
  between_proper t x (elsewhere c h ∷ cs) after b p = between_proper t x cs after b p

-- so it may stand at any place of a list on a walk
pub refused_anywhere : (f : EventForm) → RefusalKeeps f → RefusedAnywhere f
refused_anywhere f keeps j plan s k t c before after e x b =
    let w = enables plan in (
      record {
        calls = before ++ x ∷ after;
        events = between_events (after_list w t before) x b before after ∙ ap events_in (sym e) ∙ c.events;
        proper =
            between_proper f keeps j.rule w t x before after b
            (subst (λ (cs : List (Entry f)). ProperList j.rule w t cs) e c.proper);
      },
      refl,
    )

-- ---- a list on every walk

-- a form with a call that can be passed, for each rule, symbol and record
pub record FormGives (f : EventForm) : Type 0 where
  pub give : Automaton → ℕ → f.Held → f.Call
  pub gives : (m : Automaton) (a : ℕ) (h : f.Held) → WellFormed m → a < m.symbols → f.Gives m a (give m a h) h
  pub fits : (m : Automaton) (a : ℕ) (h : f.Held) → WellFormed m → a < m.symbols → f.Passable (give m a h)

module _ (f : EventForm) (form : FormGives f) (m : Automaton) (wf : WellFormed m) (w : Enabling) where
  -- the entry of an event
  abbrev give_one : Both f → Event → Entry f
  give_one t e = walked e (form.give m (symbol_of e) t.full) (form.give m (symbol_of e) t.planned)

  -- the entries of a list of events, none between
  unfoldable give_all : Both f → List Event → List (Entry f)
  give_all t [] = []
  give_all t (e ∷ es) = give_one t e ∷ give_all (after_entry w t (give_one t e)) es

  -- they have these events
  give_events : (t : Both f) (es : List Event) → events_in (give_all t es) ≡ es
  unfolding give_all events_in
  give_events t [] = refl
  give_events t (e ∷ es) = ap (λ (l : List Event). e ∷ l) (give_events (after_entry w t (give_one t e)) es)

  -- they are proper
  give_proper : (t : Both f) (es : List Event) → symbols_below m.symbols es → ProperList m w t (give_all t es)
  unfolding give_all ProperList symbols_below
  give_proper t [] below = tt
  give_proper t (e ∷ es) below = (
    form.gives m (symbol_of e) t.full wf below.0,
    λ g. form.gives m (symbol_of e) t.planned wf below.0,
    give_proper (after_entry w t (give_one t e)) es below.1,
  )

  -- they can be passed
  give_passable : (t : Both f) (es : List Event) → symbols_below m.symbols es → PassableList (give_all t es)
  unfolding give_all PassableList symbols_below
  give_passable t [] below = tt
  give_passable t (e ∷ es) below = (
    form.fits m (symbol_of e) t.full wf below.0,
    form.fits m (symbol_of e) t.planned wf below.0,
    give_passable (after_entry w t (give_one t e)) es below.1,
  )

-- then there are calls on every walk
pub calls_exist : (f : EventForm) → FormGives f → CallsExist f
calls_exist f form j wf plan s k t =
    let m = j.rule in
    let w = enables plan in
    let below = symbols_below_lem wf k.walk in (
      record {
        calls = give_all f form m wf.rule w t k.events;
        events = give_events f form m wf.rule w t k.events;
        proper = give_proper f form m wf.rule w t k.events below;
      },
      give_passable f form m wf.rule w t k.events below,
    )

-- all that makes lists
pub lists_exist : (f : EventForm) → FormMoves f → FormGives f → RecordsExist f → RefusedExist f → ListsExist f
lists_exist f form gives records refused =
    record {
      records = records;
      calls = calls_exist f gives;
      refused_anywhere = refused_anywhere f form.refusals;
      refused = refused;
      events_taken = λ j wf plan. walk_taken f form j plan wf;
    }
