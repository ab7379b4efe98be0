-- Laws of what is found at all points together: the before sets as they are stored, and what each part of the search for them leaves.
-- Assumes nothing.
use mathlib.Core.Path.{◌≡◌, sym, ap, subst, ◌∙◌}
use mathlib.Core.Logic.{inl, inr, ⊎_elim}
use mathlib.Core.Bool.{Bool, not}
use mathlib.Core.List.{List}
use Prim.Native.Nat.{ℕ, ◌+◌, ◌*◌, ◌^◌, ◌≤◌, ◌<◌}
use native.Mathlib.Nat.{eq-or-lt_of_le, le_of_suc-le-suc}
use native.Mathlib.Numerals.{add-one}
use native.Mathlib.Omega.{arith}
use lib.Dec.{eqb}
use lib.ListN.{get_or}
use Rattle.laws.specs.Bytes.{put_number}
use Rattle.laws.proofs.Bytes.{number_cong, number_put, number_put_other}
use Rattle.job.specs.Job.{Job}
use Rattle.planning.specs.Planning.{all_enabled}
use Rattle.buffer.specs.Buffer.{work_size}
use Rattle.buffer.specs.Layout.{pair_part, class_part, found_part, plan_part, Lent}
use Rattle.buffer.specs.Views.{pair_row_in, before_in}
use Rattle.buffer.specs.Kept.{SameOutside}
use Rattle.buffer.proofs.KeptLaws.{Kept-then, kept_fewer, outside_part, kept_none, kept_both, kept_put, number_kept}
use Rattle.tables.specs.Held.{Usable, JobHeld, PlanHeld, AfterHeld}
use Rattle.tables.proofs.JobKeptLaws.{front_kept, front_usable, front_job, after_words_kept}
use Rattle.tables.proofs.SetLaws.{set_of_lt, set_of_cong}
use Rattle.search.specs.Searched.{SearchedAt}
use Rattle.search.proofs.SearchLaws.{event_node}
use Rattle.search.proofs.AllEnabled.{all_enabled_finds}
use Rattle.classes.specs.Backwards.{AfterWords, ClassesFound, held_states}
use Rattle.classes.proofs.FoundSays.{before_found}
use Rattle.classes.proofs.AfterLaws.{after_front, after_usable}
use Rattle.passes.specs.declared.passes.Counts.{Counts}
use Rattle.passes.specs.Counts.{counts_of}
use Rattle.passes.specs.Passes.{AllEnabled, PlanMade}
use Rattle.passes.proofs.PlanInLaws.{plan_in_held, plan_in_same, planning_plan, planning_outside, usable_kept, job_kept, after_kept}
use Rattle.found.specs.FoundHeld.{BeforeHeld, BeforeStored, BeforeFound, FoundHeld, Found}

-- ---- the before sets as they are stored

-- the states whose rows hold pairs are a set of sixteen bits
pub held_states_small : (l : List ℕ) (n states : ℕ) → states ≤ 16 → held_states l n states < 256 ^ 2
unfolding held_states
held_states_small l n states h = set_of_lt 16 states (λ q. not (eqb (pair_row_in l n q) 0)) h

-- a store past the rows of pairs leaves them
held_states_kept
    : {l m : List ℕ} {i j : ℕ} → SameOutside l m i j → class_part ≤ i → (n states : ℕ) → n < 512 → states ≤ 16
    → held_states m n states ≡ held_states l n states
unfolding held_states pair_row_in
held_states_kept {l} {m} {i} {j} s far n states h few =
    set_of_cong states (λ q. not (eqb (pair_row_in m n q) 0)) (λ q. not (eqb (pair_row_in l n q) 0))
    (λ q g. ap (λ (x : ℕ). not (eqb x 0)) (number_kept l m i j s (pair_part + (n * 16 + q) * 2) (inl (omega arith))))

-- the before sets of the first n nodes are stored
pub record StoredSoFar (l m : List ℕ) (states n : ℕ) : Type 0 where
  pub kept : SameOutside l m found_part plan_part
  pub here : (k : ℕ) → k < n → before_in m k ≡ held_states l k states

-- none
pub stored_start : (l : List ℕ) (states : ℕ) → StoredSoFar l l states 0
stored_start l states = record { kept = kept_none l found_part plan_part; here = λ k h. absurd (omega arith) }

-- one more
pub stored_more
    : {l m r : List ℕ} {states n s : ℕ} → Lent l → states ≤ 16 → n < 512 → StoredSoFar l m states n
    → s ≡ held_states m n states → r ≡ put_number 2 m (found_part + n * 4) s → StoredSoFar l r states (n + 1)
unfolding before_in
stored_more {l} {m} {r} {states} {n} {s} long few h g e put =
    let long' : Lent m = omega (arith, g.kept.long) in
    let is : s ≡ held_states l n states = e ∙ held_states_kept g.kept (omega arith) n states h few in
    let small : s < 256 ^ 2 = subst (λ (x : ℕ). x < 256 ^ 2) (sym is) (held_states_small l n states few) in
    record {
      kept = kept_both l m r found_part plan_part (found_part + n * 4) (found_part + n * 4 + 2) g.kept (kept_put m r (found_part + n * 4) s put) (omega arith) (omega arith);
      here = λ k b.
          ⊎_elim
          (λ (q : k ≡ n). rw (q, put) (number_put 2 m (found_part + n * 4) s small (omega arith) ∙ is))
          (λ (q : k < n).
          rw put (number_put_other 2 2 m (found_part + n * 4) (found_part + k * 4) s (inl (omega arith)) ∙ g.here k q))
          (eq-or-lt_of_le (le_of_suc-le-suc (rw add-one at b)));
    }

-- all
pub stored_end : {l m : List ℕ} {states n nodes : ℕ} → n ≡ nodes → StoredSoFar l m states n → BeforeStored l m states nodes
stored_end {l} {m} {states} is g =
    let g' = subst (λ (k : ℕ). StoredSoFar l m states k) is g in record { kept = g'.kept; here = g'.here }

-- the before set of a node in buffers that agree where it lies
before_cong
    : (l m : List ℕ) → ((k : ℕ) → found_part ≤ k → k < plan_part → get_or m k 0 ≡ get_or l k 0) → (n : ℕ) → n < 512 → before_in m n ≡ before_in l n
unfolding before_in
before_cong l m s n h =
    number_cong 2 m l (found_part + n * 4) (found_part + n * 4) (λ k g. s (found_part + n * 4 + k) (omega arith) (omega arith))

-- ---- the search for the before sets

module _ {table : List (List ℕ)} {states nodes : ℕ} {l a : List ℕ} {count : ℕ} (u : Usable l table states nodes)
    (all : AllEnabled l a nodes count) where
  -- the buffer with all points watched may be searched
  pub all_usable : Usable a table states nodes
  all_usable = usable_kept (planning_plan all.kept) u

  module _ {finals : ℕ} {b m : List ℕ} {answer : Bool} (s : SearchedAt table finals states nodes a b answer)
      (stored : BeforeStored b m states nodes) where
    -- the rows that the search leaves at a point give its before set
    before_held : (j : Job) → JobHeld j l table finals states nodes → AfterHeld j l nodes → BeforeHeld j m
    before_held j h r n e =
        let job = job_kept (planning_plan all.kept) u h in
        let plan = subst (λ (p : List ℕ). PlanHeld p a nodes) (all.exact j table finals states h) (plan_in_held a nodes) in
        let found = all_enabled_finds j a b answer h.formed (s.exact j (all_enabled j) job plan (after_kept (planning_plan all.kept) u h r)) in
        let here : n < nodes = omega (arith, event_node j n e, h.nodes_are) in
        stored.here n here ∙ ap (held_states b n) h.states_are ∙ before_found j b n (λ q g. found.1 n q e g)

    -- the before sets were found
    pub before_searched : BeforeFound table finals states nodes l m
    before_searched =
        record {
          kept = Kept-then (λ k o. (o, outside_part (omega arith) (omega arith) k o.1))
              (Kept-then (λ k o. (outside_part (omega arith) (omega arith) k o.1, (o.0, outside_part (omega arith) (omega arith) k o.1)))
              all.kept s.kept)
              stored.kept;
          exact = before_held;
        }

-- ---- before sets, plan and classes

-- the bytes in front of the rows of pairs and past the buffer are as they were
before_outside
    : {table : List (List ℕ)} {finals states nodes : ℕ} {l m : List ℕ} → BeforeFound table finals states nodes l m
    → SameOutside l m pair_part work_size
before_outside found =
    kept_fewer (λ k o. (outside_part (omega arith) (omega arith) k o, outside_part (omega arith) (omega arith) k o)) found.kept

module _ {table : List (List ℕ)} {finals states nodes : ℕ} {l a : List ℕ} (u : Usable l table states nodes)
    (after : AfterWords table finals states nodes l a) where
  module _ {b : List ℕ} (found : BeforeFound table finals states nodes a b) where
    -- with the before sets
    pub before_usable : Usable b table states nodes
    before_usable = front_usable (front_kept (omega arith) (before_outside found)) (after_usable u after)

    module _ {c : List ℕ} {counts : Counts} (made : PlanMade table finals states nodes b c counts) where
      -- with the plan
      pub plan_usable : Usable c table states nodes
      plan_usable = usable_kept made.kept before_usable

      module _ {m : List ℕ} (grown : ClassesFound table finals states nodes c m) where
        -- the bytes in front of the rows of pairs and past the buffer's part
        all_kept : SameOutside l m pair_part work_size
        all_kept =
            kept_both l c m pair_part work_size class_part found_part
            (kept_both l b c pair_part work_size pair_part work_size
            (kept_both l a b pair_part work_size pair_part work_size
            (kept_both l l a pair_part work_size class_part found_part (kept_none l pair_part work_size) after.kept (omega arith) (omega arith))
            (before_outside found) (omega arith) (omega arith))
            (planning_outside made.kept) (omega arith) (omega arith))
            grown.kept (omega arith) (omega arith)

        -- the before sets stay
        before_stays : (n : ℕ) → n < 512 → before_in m n ≡ before_in b n
        before_stays =
            before_cong b m (λ k g h. grown.kept.outside k (inr g) ∙ made.kept.outside k (inr (omega arith), inl h))

        -- what is found is the job's
        found_held
            : (j : Job) → JobHeld j l table finals states nodes → FoundHeld j m table finals states nodes × (counts ≡ counts_of j)
        found_held j h =
            let first = front_job (after_front after) u h in
            let words = after.exact j h in
            let second = front_job (front_kept (omega arith) (before_outside found)) (after_usable u after) first in
            let words' = after_words_kept a b (kept_fewer (λ k h. (inr h.0, inl h.1)) found.kept) h.formed u.few_nodes words in
            let third = job_kept made.kept before_usable second in
            let words'' = after_kept made.kept before_usable second words' in (
              record {
                job = front_job (front_kept (omega arith) grown.kept) plan_usable third;
                before = λ n e.
                    before_stays n (omega (arith, event_node j n e, h.nodes_are, u.few_nodes)) ∙ found.exact j first words n e;
                plan = plan_in_same c m nodes grown.kept.long (λ k g b. grown.kept.outside k (inr (omega arith))) plan_usable.long u.few_nodes
                    ∙ made.plan j second words';
                classes = grown.exact j third words'';
              },
              made.counts j second words',
            )

        -- they were found
        pub all_found : Found table finals states nodes l m counts
        all_found = record { kept = all_kept; exact = found_held }
