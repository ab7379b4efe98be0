-- In a job without kind 3 neither move of document 02 exists, and the tests list none of them.
-- Assumes nothing.
use mathlib.Core.Path.{◌≡◌, refl, sym, ap, ◌∙◌}
use mathlib.Core.Bool.{Bool, true, false, cond, true≢false}
use mathlib.Core.List.{List, [], ◌∷◌, ◌++◌, map}
use Prim.Native.Nat.{ℕ, zero, suc}
use lib.ListN.{length}
use Rattle.laws.proofs.Tests.{fails_of}
use Rattle.job.specs.Job.{is_reentrant, is_entry, Job, node_at}
use Rattle.job.specs.Walk.{Event, Place, before, past, ended, Step, Silent, step, come_in, come_back, Walk, stop, move, tell}
use Rattle.job.specs.Search.{numbers_of, targets, before_nodes, silent_moves}
use Rattle.job.specs.WithoutReentry.{NeverBack, OnlySteps, steps_stop, steps_move, steps_tell, WithoutReentry}
use Rattle.job.proofs.KindLaws.{reentrant_own, reentrant_kind}

-- no number passes a test that fails everywhere
none_of : (k : ℕ) (f : ℕ → Bool) → ((n : ℕ) → f n ≡ false) → numbers_of k f ≡ []
unfolding numbers_of
none_of zero f h = refl
none_of (suc k) f h = rw (h k) (none_of k f h)

-- nothing after a list is the list
append_none : (l : List Place) → l ++ [] ≡ l
append_none [] = refl
append_none (x ∷ l) = ap (λ (m : List Place). x ∷ m) (append_none l)

module _ (j : Job) (never : NeverBack j) where
  -- a silent move is one of document 01
  only_step : {x y : Place} → Silent j x y → Step j x y
  only_step (step s) = s
  only_step (come_in {m = m} {set = set} k e) = absurd (never m set k)
  only_step (come_back {n = n} {set = set} x k) = absurd (never n set k)

  -- a walk that begins with one
  steps_on
      : {x y z : Place} {es : List Event} (m : Silent j x y) {k : Walk j y es z} → OnlySteps j y es z k → OnlySteps j x es z (move m k)
  steps_on (step s) o = steps_move s o
  steps_on (come_in {m = m} {set = set} k e) o = absurd (never m set k)
  steps_on (come_back {n = n} {set = set} x k) o = absurd (never n set k)

  -- so is every silent move of a walk
  only_steps : {x y : Place} {es : List Event} (k : Walk j x es y) → OnlySteps j x es y k
  only_steps stop = steps_stop
  only_steps (move m k) = steps_on m (only_steps k)
  only_steps (tell t k) = steps_tell t (only_steps k)

  -- no node may come back in
  never_again : (n : ℕ) → is_reentrant (node_at j n).kind ≡ false
  never_again n =
      fails_of (is_reentrant (node_at j n).kind) (λ h. let r = reentrant_kind (node_at j n).kind h in never n r.0 r.1)

  -- the moves listed past a node
  listed_past : (n : ℕ) → silent_moves j (past n) ≡ map before (targets j.edges n) ++ cond (node_at j n).exit (ended n ∷ []) []
  unfolding silent_moves
  listed_past n =
      ap (λ (b : Bool). map before (targets j.edges n) ++ (cond (node_at j n).exit (ended n ∷ []) [] ++ before_nodes b j is_entry))
      (never_again n)
      ∙ ap (λ (l : List Place). map before (targets j.edges n) ++ l) (append_none (cond (node_at j n).exit (ended n ∷ []) []))

  -- and from the word after an exit
  listed_ended : (n : ℕ) → silent_moves j (ended n) ≡ []
  unfolding silent_moves
  listed_ended n = go (node_at j n).exit
    where
      go : (b : Bool) → before_nodes b j (λ m. is_reentrant m.kind) ≡ []
      go true = ap (map before) (none_of (length j.nodes) (λ m. is_reentrant (node_at j m).kind) never_again)
      go false = refl

-- all of it
pub without_reentry : WithoutReentry
without_reentry =
    record {
      without = λ j h n set e. true≢false (sym (reentrant_own e) ∙ h n);
      moves = λ j never x y. (only_step j never, λ s. step s);
      walks = λ j never x es y k. only_steps j never k;
      listed_past = λ j never n. listed_past j never n;
      listed_ended = λ j never n. listed_ended j never n;
    }
