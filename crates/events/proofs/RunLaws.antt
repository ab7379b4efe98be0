-- Refused calls stand apart from the events of a run, in any form in which a refusal leaves the record.
-- Assumes nothing.
use mathlib.Core.Path.{◌≡◌, refl, ap, ◌∙◌}
use mathlib.Core.Bool.{Bool, true, false}
use mathlib.Core.List.{List, [], ◌∷◌}
use borrow.Author.Tests.{not-false}
use Rattle.events.specs.Form.{EventForm, RefusalKeeps, value_form, lent_form}
use Rattle.events.specs.Run.{Seen, seen, run, is_event, here, elsewhere, cons_if, events_of, seen_at_events, RefusedStandApart}
use Rattle.events.proofs.FormLaws.{value_moves, lent_moves}

-- events answer and leave what they do in the run without the refused calls
pub refused_stand_apart : (f : EventForm) → RefusalKeeps f → RefusedStandApart f
unfolding run events_of seen_at_events
refused_stand_apart f keeps h [] = refl
refused_stand_apart f keeps h (elsewhere c o ∷ cs) = refused_stand_apart f keeps h cs
refused_stand_apart f keeps h (here c ∷ cs) = go (is_event f c h) refl (refused_stand_apart f keeps (f.left c h) cs)
  where
    go : (b : Bool) → is_event f c h ≡ b
        → seen_at_events f (f.left c h) cs ≡ run f (f.left c h) (events_of f (f.left c h) cs)
        → cons_if b (seen f c h) (seen_at_events f (f.left c h) cs) ≡ run f h (cons_if b c (events_of f (f.left c h) cs))
    go true e r = ap (λ (l : List (Seen f)). seen f c h ∷ l) r
    go false e r = r ∙ ap (λ (k : f.Held). run f k (events_of f (f.left c h) cs)) (keeps c h (not-false _ e))

-- the event step on values
pub value_refused_stand_apart : RefusedStandApart value_form
value_refused_stand_apart = refused_stand_apart value_form value_moves.refusals

-- on a lent record
pub lent_refused_stand_apart : RefusedStandApart lent_form
lent_refused_stand_apart = refused_stand_apart lent_form lent_moves.refusals
