-- Laws of a try in the work buffer: in the shape of the code, what its three ends leave.
-- Assumes nothing.
use mathlib.Core.Path.{◌≡◌, refl, sym, ap, ◌∙◌}
use mathlib.Core.Logic.{inl, inr}
use mathlib.Core.Bool.{Bool, true, false}
use mathlib.Core.List.{List}
use Prim.Native.Nat.{ℕ, ◌+◌, ◌≤◌, ◌<◌}
use native.Mathlib.Omega.{arith}
use native.Mathlib.Nat.{lt_of_lt_of_le}
use lib.ListN.{set}
use Rattle.job.specs.Job.{Job}
use Rattle.job.specs.Plan.{enables}
use Rattle.planning.specs.Planning.{tried, enabled_count}
use Rattle.job.specs.Search.{faithful}
use Rattle.planning.proofs.PlanBytes.{set_back, count_set}
use Rattle.planning.proofs.PassLaws.{tried_disabled, tried_needed, tried_removed}
use Rattle.buffer.specs.Layout.{plan_part}
use Rattle.buffer.specs.Views.{enabled_in, plan_in}
use Rattle.tables.specs.Held.{Usable, JobHeld, AfterHeld}
use Rattle.search.specs.Searched.{SearchedAt}
use Rattle.passes.specs.Passes.{PlanningKept, Carried, TriedAt}
use Rattle.passes.proofs.PlanInLaws.{plan_in_held, plan_in_set, plan_in_enables, plan_in_same}
use Rattle.passes.proofs.PlanInLaws.{planning_none, planning_both, planning_search, planning_plan, plan_stored}
use Rattle.passes.proofs.PlanInLaws.{usable_kept, job_kept, after_kept}
use Rattle.passes.proofs.RunningLaws.{stands_at, stands_tried}

module _ {table : List (List ℕ)} {states nodes n : ℕ} {l : List ℕ} (small : n < nodes) (u : Usable l table states nodes) where
  -- the store of a plan byte keeps the rest
  stored_kept : (v : ℕ) → PlanningKept l (set l (plan_part + n) v)
  stored_kept v = planning_plan (plan_stored l n v (lt_of_lt_of_le small u.few_nodes))

  -- the buffer may be searched after it
  pub stored_usable : (v : ℕ) → Usable (set l (plan_part + n) v) table states nodes
  stored_usable v = usable_kept (stored_kept v) u

  module _ {total : ℕ} (c : Carried l nodes total) where
    -- what a try leaves, and so where planning stands
    tried_at
        : {finals left : ℕ} {m : List ℕ} → PlanningKept l m
        → ((j : Job) → JobHeld j l table finals states nodes → AfterHeld j l nodes → plan_in m nodes ≡ tried (faithful j) n (plan_in l nodes))
        → Carried m nodes left → (left ≡ total → plan_in m nodes ≡ plan_in l nodes) → ((left ≡ total → ⊥) → left + 1 ≡ total)
        → TriedAt table finals states nodes n l m total left
    tried_at kept exact carried stays goes =
        record {
          kept = kept;
          exact = exact;
          carried = carried;
          stays = stays;
          goes = goes;
          stands = λ j h a k s. stands_at (exact j h a) carried (stands_tried h.formed (omega (arith, h.nodes_are)) s);
        }

    -- a node that is not enabled
    pub try_disabled : {finals : ℕ} → enabled_in l n ≡ false → TriedAt table finals states nodes n l l total total
    try_disabled w =
        tried_at (planning_none l)
        (λ j h a. sym (tried_disabled (faithful j) n (plan_in l nodes) (plan_in_enables l nodes n small ∙ w))) c (λ e. refl)
        (λ ne. absurd (ne refl))

    module _ (w : enabled_in l n ≡ true) where
      -- the plan enables it
      enabled_here : enables (plan_in l nodes) n ≡ true
      enabled_here = plan_in_enables l nodes n small ∙ w

      -- so some point is watched
      pub some_enabled : 1 ≤ total
      some_enabled = omega (arith, c, count_set (plan_in l nodes) n enabled_here)

      module _ {finals : ℕ} {m : List ℕ} {answer : Bool} (s : SearchedAt table finals states nodes (set l (plan_part + n) 0) m answer) where
        -- the search leaves the plan without the node
        plan_searched : plan_in m nodes ≡ set (plan_in l nodes) n 0
        plan_searched =
            plan_in_same (set l (plan_part + n) 0) m nodes s.kept.long
            (λ k g h. s.kept.outside k (inr (omega arith), inl (omega arith))) (stored_usable 0).long u.few_nodes
            ∙ plan_in_set l nodes n 0 small

        -- its answer is that of the plan without the node
        answer_is : (j : Job) → JobHeld j l table finals states nodes → AfterHeld j l nodes → answer ≡ faithful j (set (plan_in l nodes) n 0)
        answer_is j h a =
            (s.exact j (plan_in (set l (plan_part + n) 0) nodes) (job_kept (stored_kept 0) u h) (plan_in_held (set l (plan_part + n) 0) nodes)
            (after_kept (stored_kept 0) u h a)
            ).exact
            ∙ ap (faithful j) (plan_in_set l nodes n 0 small)

        -- what the store and the search keep
        searched_kept : PlanningKept l m
        searched_kept = planning_both (stored_kept 0) (planning_search s.kept)

        -- the plan without it is faithful: it goes
        pub try_removed : {left : ℕ} → left + 1 ≡ total → answer ≡ true → TriedAt table finals states nodes n l m total left
        try_removed e t =
            tried_at searched_kept
            (λ j h a.
            plan_searched ∙ sym (tried_removed (faithful j) n (plan_in l nodes) enabled_here (sym (answer_is j h a) ∙ t)))
            (omega (arith, c, ap enabled_count plan_searched, count_set (plan_in l nodes) n enabled_here)) (λ same. absurd (omega arith))
            (λ ne. e)

        -- the plan with it back
        plan_back : plan_in (set m (plan_part + n) 1) nodes ≡ plan_in l nodes
        plan_back =
            plan_in_set m nodes n 1 small ∙ ap (λ (p : List ℕ). set p n 1) plan_searched ∙ set_back (plan_in l nodes) n enabled_here

        -- it is not: the node stays
        pub try_needed : answer ≡ false → TriedAt table finals states nodes n l (set m (plan_part + n) 1) total total
        try_needed t =
            tried_at (planning_both searched_kept (planning_plan (plan_stored m n 1 (lt_of_lt_of_le small u.few_nodes))))
            (λ j h a.
            plan_back ∙ sym (tried_needed (faithful j) n (plan_in l nodes) enabled_here (sym (answer_is j h a) ∙ t)))
            (c ∙ ap enabled_count (sym plan_back)) (λ e. plan_back) (λ ne. absurd (ne refl))
