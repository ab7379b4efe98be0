-- Calls on two records do not meet: what is seen on either, in a list of entries or of single calls, is the run of that record's own calls.
-- So any order in which each record's own calls keep theirs shows the same. And any two lists of own calls, full's of all events and planned's
-- of those that it is given, are merged event by event into a list of entries.
-- Assumes nothing.
use mathlib.Core.Path.{◌≡◌, refl, sym, ap, ◌∙◌, subst}
use mathlib.Core.Bool.{Bool, true, false, cond, true≢false}
use mathlib.Core.List.{List, [], ◌∷◌, head-eq_of_cons-eq, tail-eq_of_cons-eq}
use native.Mathlib.Omega.{arith}
use lib.ListN.{length}
use Rattle.automaton.specs.Automaton.{Automaton}
use Rattle.events.specs.Form.{EventForm}
use Rattle.events.specs.Run.{Seen, seen, run, cons_if}
use Rattle.job.specs.Walk.{Event, symbol_of}
use Rattle.job.specs.Plan.{Enabling, takes, enables}
use Rattle.twomonitors.specs.Monitors.{Entry, walked, on_full, on_planned, elsewhere, events_in, Both, after_entry, ProperList, Single, to_full, to_planned, to_another, calls_to_full, calls_to_planned, after_single, seen_on_full, seen_on_planned, OwnCall, takes_event, is_refused, own_calls, own_of_full, own_of_planned, entries_on_full, entries_on_planned, SeenAlike, own_events, ProperOwn, given_of, AllListed, AnyOrder}

-- ---- a list of single calls

singles_full : (f : EventForm) (t : Both f) (xs : List (Single f)) → seen_on_full t xs ≡ run f t.full (calls_to_full xs)
unfolding seen_on_full calls_to_full after_single run
singles_full f t [] = refl
singles_full f t (to_full c ∷ xs) = ap (λ (l : List (Seen f)). seen f c t.full ∷ l) (singles_full f (after_single t (to_full c)) xs)
singles_full f t (to_planned c ∷ xs) = singles_full f (after_single t (to_planned c)) xs
singles_full f t (to_another c h ∷ xs) = singles_full f t xs

singles_planned : (f : EventForm) (t : Both f) (xs : List (Single f)) → seen_on_planned t xs ≡ run f t.planned (calls_to_planned xs)
unfolding seen_on_planned calls_to_planned after_single run
singles_planned f t [] = refl
singles_planned f t (to_full c ∷ xs) = singles_planned f (after_single t (to_full c)) xs
singles_planned f t (to_planned c ∷ xs) =
    ap (λ (l : List (Seen f)). seen f c t.planned ∷ l) (singles_planned f (after_single t (to_planned c)) xs)
singles_planned f t (to_another c h ∷ xs) = singles_planned f t xs

-- ---- a list of entries

entries_full
    : (f : EventForm) (w : Enabling) (t : Both f) (cs : List (Entry f)) → entries_on_full w t cs ≡ run f t.full (own_calls (own_of_full cs))
unfolding entries_on_full own_of_full own_calls after_entry run
entries_full f w t [] = refl
entries_full f w t (walked e c d ∷ cs) =
    ap (λ (l : List (Seen f)). seen f c t.full ∷ l) (entries_full f w (after_entry w t (walked e c d)) cs)
entries_full f w t (on_full c ∷ cs) =
    ap (λ (l : List (Seen f)). seen f c t.full ∷ l) (entries_full f w (after_entry w t (on_full c)) cs)
entries_full f w t (on_planned c ∷ cs) = entries_full f w (after_entry w t (on_planned c)) cs
entries_full f w t (elsewhere c h ∷ cs) = entries_full f w t cs

-- a call that is made or not, and then a run
run_if
    : (f : EventForm) (b : Bool) (d : f.Call) (h : f.Held) (ds : List f.Call)
    → cons_if b (seen f d h) (run f (cond b (f.left d h) h) ds) ≡ run f h (cons_if b d ds)
unfolding run
run_if f true d h ds = refl
run_if f false d h ds = refl

-- a call that is made or not, among own calls
own_if
    : (f : EventForm) (b : Bool) (e : Event) (d : f.Call) (xs : List (OwnCall f))
    → cons_if b d (own_calls xs) ≡ own_calls (cons_if b (takes_event e d) xs)
unfolding own_calls
own_if f true e d xs = refl
own_if f false e d xs = refl

entries_planned
    : (f : EventForm) (w : Enabling) (t : Both f) (cs : List (Entry f))
    → entries_on_planned w t cs ≡ run f t.planned (own_calls (own_of_planned w cs))
unfolding entries_on_planned own_of_planned own_calls after_entry run
entries_planned f w t [] = refl
entries_planned f w t (walked e c d ∷ cs) =
    ap (cons_if (takes w e) (seen f d t.planned)) (entries_planned f w (after_entry w t (walked e c d)) cs)
    ∙ run_if f (takes w e) d t.planned (own_calls (own_of_planned w cs))
    ∙ ap (run f t.planned) (own_if f (takes w e) e d (own_of_planned w cs))
entries_planned f w t (on_full c ∷ cs) = entries_planned f w (after_entry w t (on_full c)) cs
entries_planned f w t (on_planned c ∷ cs) =
    ap (λ (l : List (Seen f)). seen f c t.planned ∷ l) (entries_planned f w (after_entry w t (on_planned c)) cs)
entries_planned f w t (elsewhere c h ∷ cs) = entries_planned f w t cs

-- in any order of the calls the same is seen
seen_alike : (f : EventForm) → SeenAlike f
seen_alike f w t cs xs same =
    record {
      full = singles_full f t xs ∙ ap (run f t.full) same.full ∙ sym (entries_full f w t cs);
      planned = singles_planned f t xs ∙ ap (run f t.planned) same.planned ∙ sym (entries_planned f w t cs);
    }

-- ---- two lists of own calls, merged

module _ (f : EventForm) (rule : Automaton) (w : Enabling) where
  -- a list of entries with these own calls
  record Merged (t : Both f) (xs ys : List (OwnCall f)) : Type 0 where
    calls : List (Entry f)
    events : events_in calls ≡ own_events xs
    proper : ProperList rule w t calls
    full : own_of_full calls ≡ xs
    planned : own_of_planned w calls ≡ ys

  -- full's own calls can be merged with planned's, from any two records
  abbrev Merges : List (OwnCall f) → Type 0
  Merges xs =
      (t : Both f) (ys : List (OwnCall f)) → own_events ys ≡ given_of w (own_events xs) → ProperOwn rule t.full xs
      → ProperOwn rule t.planned ys → Merged t xs ys

  -- a refused call of planned before the others
  merged_planned
      : (t : Both f) (d : f.Call) (xs ys : List (OwnCall f)) → f.refusal (f.answer d t.planned) ≡ true
      → Merged (after_entry w t (on_planned d)) xs ys → Merged t xs (is_refused d ∷ ys)
  unfolding events_in ProperList own_of_full own_of_planned
  merged_planned t d xs ys q r =
      record {
        calls = on_planned d ∷ r.calls;
        events = r.events;
        proper = (q, r.proper);
        full = r.full;
        planned = ap (λ (l : List (OwnCall f)). is_refused d ∷ l) r.planned;
      }

  -- full has no call more
  merge_none : Merges []
  unfolding events_in after_entry ProperList own_of_full own_of_planned own_events ProperOwn given_of
  merge_none t [] h p q = record { calls = []; events = refl; proper = tt; full = refl; planned = refl }
  merge_none t (is_refused d ∷ ys) h p q = merged_planned t d [] ys q.0 (merge_none (after_entry w t (on_planned d)) ys h p q.1)
  merge_none t (takes_event e d ∷ ys) h p q = let z = ap length h in absurd (omega (arith, z))

  -- full's next event is given to planned too
  merge_given
      : (e : Event) (c : f.Call) (xs : List (OwnCall f)) → takes w e ≡ true → Merges xs → (t : Both f) (ys : List (OwnCall f))
      → own_events ys ≡ e ∷ given_of w (own_events xs) → ProperOwn rule t.full (takes_event e c ∷ xs) → ProperOwn rule t.planned ys
      → Merged t (takes_event e c ∷ xs) ys
  unfolding events_in after_entry ProperList own_of_full own_of_planned own_events ProperOwn
  merge_given e c xs g merge t [] h p q = let z = ap length h in absurd (omega (arith, z))
  merge_given e c xs g merge t (is_refused d ∷ ys) h p q =
      merged_planned t d (takes_event e c ∷ xs) ys q.0 (merge_given e c xs g merge (after_entry w t (on_planned d)) ys h p q.1)
  merge_given e c xs g merge t (takes_event u d ∷ ys) h p q =
      let r =
      merge (after_entry w t (walked e c d)) ys (tail-eq_of_cons-eq h) p.1
      (subst (λ (b : Bool). ProperOwn rule (cond b (f.left d t.planned) t.planned) ys) (sym g) q.1) in
      record {
        calls = walked e c d ∷ r.calls;
        events = ap (λ (l : List Event). e ∷ l) r.events;
        proper = (p.0, λ y. subst (λ (v : Event). f.Gives rule (symbol_of v) d t.planned) (head-eq_of_cons-eq h) q.0, r.proper);
        full = ap (λ (l : List (OwnCall f)). takes_event e c ∷ l) r.full;
        planned =
            ap (λ (b : Bool). cons_if b (takes_event e d) (own_of_planned w r.calls)) g
            ∙ ap (λ (l : List (OwnCall f)). takes_event e d ∷ l) r.planned
            ∙ ap (λ (v : Event). takes_event v d ∷ ys) (sym (head-eq_of_cons-eq h));
      }

  -- it is not
  merge_skipped
      : (e : Event) (c : f.Call) (xs : List (OwnCall f)) → takes w e ≡ false → Merges xs → (t : Both f) (ys : List (OwnCall f))
      → own_events ys ≡ given_of w (own_events xs) → ProperOwn rule t.full (takes_event e c ∷ xs) → ProperOwn rule t.planned ys
      → Merged t (takes_event e c ∷ xs) ys
  unfolding events_in after_entry ProperList own_of_full own_of_planned own_events ProperOwn
  merge_skipped e c xs g merge t ys h p q =
      let r =
      merge (after_entry w t (walked e c c)) ys h p.1
      (subst (λ (b : Bool). ProperOwn rule (cond b (f.left c t.planned) t.planned) ys) (sym g) q) in
      record {
        calls = walked e c c ∷ r.calls;
        events = ap (λ (l : List Event). e ∷ l) r.events;
        proper = (p.0, λ y. absurd (true≢false (sym y ∙ g)), r.proper);
        full = ap (λ (l : List (OwnCall f)). takes_event e c ∷ l) r.full;
        planned = ap (λ (b : Bool). cons_if b (takes_event e c) (own_of_planned w r.calls)) g ∙ r.planned;
      }

  -- all of full's calls
  merge : (xs : List (OwnCall f)) → Merges xs
  unfolding events_in after_entry ProperList own_of_full own_of_planned own_events ProperOwn given_of
  merge [] t ys h p q = merge_none t ys h p q
  merge (is_refused c ∷ xs) t ys h p q =
      let r = merge xs (after_entry w t (on_full c)) ys h p.1 q in
      record {
        calls = on_full c ∷ r.calls;
        events = r.events;
        proper = (p.0, r.proper);
        full = ap (λ (l : List (OwnCall f)). is_refused c ∷ l) r.full;
        planned = r.planned;
      }
  merge (takes_event e c ∷ xs) t ys h p q = go (merge xs) (takes w e) refl h
    where
      go
          : Merges xs → (b : Bool) → takes w e ≡ b → own_events ys ≡ cons_if b e (given_of w (own_events xs))
          → Merged t (takes_event e c ∷ xs) ys
      go rest true g i = merge_given e c xs g rest t ys i p q
      go rest false g i = merge_skipped e c xs g rest t ys i p q

-- whatever calls the records get, there is a list with them
all_listed : (f : EventForm) → AllListed f
all_listed f j plan s k t xs ys e d p q =
    let r =
    merge f j.rule (enables plan) xs t ys (d ∙ ap (given_of (enables plan)) (sym e)) p q in
    (record { calls = r.calls; events = r.events ∙ e; proper = r.proper }, r.full, r.planned)

-- that an event's two calls are one entry loses nothing
pub any_order : (f : EventForm) → AnyOrder f
any_order f = record { listed = all_listed f; seen = seen_alike f }
