-- Laws of the tries of a pass in the work buffer: the invariants of the two loops, and what they end with.
-- Assumes nothing.
use mathlib.Core.Path.{◌≡◌, refl, sym, ap, subst, ◌∙◌}
use mathlib.Core.Logic.{◌⊎◌, ⊎_elim}
use mathlib.Core.List.{List}
use Prim.Native.Nat.{ℕ, ◌+◌, ◌≤◌, ◌<◌, zero-le}
use native.Mathlib.Nat.{le_refl}
use native.Mathlib.Omega.{arith}
use Rattle.job.specs.Job.{Job}
use Rattle.planning.specs.Planning.{tried, passed, enabled_count}
use Rattle.job.specs.Search.{faithful}
use Rattle.planning.proofs.PassLaws.{Kept, passed_more, passed_says, kept_none, kept_more}
use Rattle.tables.specs.Held.{Usable, JobHeld, AfterHeld}
use Rattle.passes.specs.declared.passes.Progress.{Progress}
use Rattle.passes.specs.Running.{Stands}
use Rattle.passes.specs.Passes.{PlanningKept, Carried, TriedAt, FirstGone, LastGone}
use Rattle.passes.proofs.PlanInLaws.{planning_none, planning_both, job_kept, after_kept}
use Rattle.buffer.specs.Views.{plan_in}

-- ---- until one goes

-- of the first n nodes none went
pub record NoneGone (table : List (List ℕ)) (finals states nodes n total : ℕ) (l m : List ℕ) : Type 0 where
  pub kept : PlanningKept l m
  pub same : plan_in m nodes ≡ plan_in l nodes
  pub none : (j : Job) → JobHeld j l table finals states nodes → AfterHeld j l nodes → Kept (faithful j) 0 n (plan_in l nodes)
  pub stands
      : (j : Job) → JobHeld j l table finals states nodes → AfterHeld j l nodes
      → (k : ℕ) → Stands j k 0 (plan_in l nodes) total → Stands j k n (plan_in m nodes) total

-- before the first
pub none_gone_start
    : {table : List (List ℕ)} {finals states nodes total : ℕ} (l : List ℕ) → NoneGone table finals states nodes 0 total l l
none_gone_start {nodes = nodes} l =
    record {
      kept = planning_none l;
      same = refl;
      none = λ j h a. kept_none (faithful j) 0 (plan_in l nodes);
      stands = λ j h a k s. s;
    }

-- the total is still the count
pub none_gone_carried
    : {table : List (List ℕ)} {finals states nodes n total : ℕ} {l m : List ℕ} → NoneGone table finals states nodes n total l m
    → Carried l nodes total → Carried m nodes total
none_gone_carried g c = c ∙ ap enabled_count (sym g.same)

module _ {table : List (List ℕ)} {finals states nodes n total left : ℕ} {l m k : List ℕ} (u : Usable l table states nodes)
    (g : NoneGone table finals states nodes n total l m) (t : TriedAt table finals states nodes n m k total left) where
  -- the plan after one try more
  tried_next
      : (j : Job) → JobHeld j l table finals states nodes → AfterHeld j l nodes → plan_in k nodes ≡ tried (faithful j) n (plan_in l nodes)
  tried_next j h a =
      t.exact j (job_kept g.kept u h) (after_kept g.kept u h a) ∙ ap (tried (faithful j) n) g.same

  -- where planning stands after it
  stands_next
      : (j : Job) → JobHeld j l table finals states nodes → AfterHeld j l nodes
      → (i : ℕ) → Stands j i 0 (plan_in l nodes) total → Stands j i (n + 1) (plan_in k nodes) left
  stands_next j h a i s = t.stands j (job_kept g.kept u h) (after_kept g.kept u h a) i (g.stands j h a i s)

  -- one more that stays
  pub none_gone_more : left ≡ total → NoneGone table finals states nodes (n + 1) total l k
  none_gone_more e =
      let same : plan_in k nodes ≡ plan_in l nodes = t.stays e ∙ g.same in
      record {
        kept = planning_both g.kept t.kept;
        same = same;
        none = λ j h a.
            kept_more (faithful j) 0 n (plan_in l nodes) (g.none j h a) (sym (tried_next j h a) ∙ same);
        stands = λ j h a i s. subst (Stands j i (n + 1) (plan_in k nodes)) e (stands_next j h a i s);
      }

  -- one that goes
  pub first_gone_here
      : {p : Progress} → total ≡ p.enabled → n < p.last → (left ≡ total → ⊥)
      → FirstGone table finals states nodes p l k (record { enabled = left; last = n + 1 })
  first_gone_here is b ne =
      record {
        kept = planning_both g.kept t.kept;
        carried = t.carried;
        within = omega arith;
        same = λ z. absurd (omega arith);
        none = λ z j h a i c. absurd (omega arith);
        exact = λ z j h a.
            tried_next j h a
            ∙ sym (passed_more (faithful j) n (plan_in l nodes)
            ∙ ap (tried (faithful j) n) ((passed_says (faithful j) n (plan_in l nodes)).1 (g.none j h a)));
        fewer = λ z. omega (arith, t.goes ne, is);
        stands = λ z j h a i s. stands_next j h a i (subst (Stands j i 0 (plan_in l nodes)) (sym is) s);
      }

-- none goes
pub first_gone_none
    : {table : List (List ℕ)} {finals states nodes n : ℕ} {p : Progress} {l m : List ℕ} → n ≡ p.last → Carried l nodes p.enabled
    → NoneGone table finals states nodes n p.enabled l m → FirstGone table finals states nodes p l m (record { enabled = p.enabled; last = 0 })
first_gone_none e c g =
    record {
      kept = g.kept;
      carried = none_gone_carried g c;
      within = zero-le;
      same = λ z. g.same;
      none = λ z j h a i b. g.none j h a i zero-le (omega arith);
      exact = λ z. absurd (z refl);
      fewer = λ z. absurd (z refl);
      stands = λ z. absurd (z refl);
    }

-- ---- to the end

-- the nodes from `p.last` to before n were tried; `last` is one past the last that went, `p.last` where none did
pub record LastSoFar (table : List (List ℕ)) (finals states nodes : ℕ) (p : Progress) (n : ℕ) (l m : List ℕ) (total last : ℕ) : Type 0 where
  pub kept : PlanningKept l m
  pub carried : Carried m nodes total
  pub least : p.last ≤ last
  pub within : last ≤ n
  pub exact
      : (j : Job) → JobHeld j l table finals states nodes → AfterHeld j l nodes
      → (plan : List ℕ) → plan_in l nodes ≡ passed (faithful j) p.last plan → plan_in m nodes ≡ passed (faithful j) n plan
  pub after : (j : Job) → JobHeld j l table finals states nodes → AfterHeld j l nodes → Kept (faithful j) last n (plan_in m nodes)
  pub fewer : total ≤ p.enabled
  pub stands
      : (j : Job) → JobHeld j l table finals states nodes → AfterHeld j l nodes
      → (k : ℕ) → Stands j k p.last (plan_in l nodes) p.enabled → Stands j k n (plan_in m nodes) total

-- before the first
pub last_so_far_start
    : {table : List (List ℕ)} {finals states nodes : ℕ} (p : Progress) (l : List ℕ) → Carried l nodes p.enabled
    → LastSoFar table finals states nodes p p.last l l p.enabled p.last
last_so_far_start {nodes = nodes} p l c =
    record {
      kept = planning_none l;
      carried = c;
      least = le_refl p.last;
      within = le_refl p.last;
      exact = λ j h a plan e. e;
      after = λ j h a. kept_none (faithful j) p.last (plan_in l nodes);
      fewer = le_refl _;
      stands = λ j h a k s. s;
    }

module _ {table : List (List ℕ)} {finals states nodes : ℕ} {p : Progress} {n : ℕ} {l m k : List ℕ} {total last left : ℕ}
    (u : Usable l table states nodes) (g : LastSoFar table finals states nodes p n l m total last)
    (t : TriedAt table finals states nodes n m k total left) where
  -- the plan after one try more
  passed_next
      : (j : Job) → JobHeld j l table finals states nodes → AfterHeld j l nodes
      → (plan : List ℕ) → plan_in l nodes ≡ passed (faithful j) p.last plan → plan_in k nodes ≡ passed (faithful j) (n + 1) plan
  passed_next j h a plan e =
      t.exact j (job_kept g.kept u h) (after_kept g.kept u h a) ∙ ap (tried (faithful j) n) (g.exact j h a plan e)
      ∙ sym (passed_more (faithful j) n plan)

  -- where planning stands after it
  standing_next
      : (j : Job) → JobHeld j l table finals states nodes → AfterHeld j l nodes
      → (i : ℕ) → Stands j i p.last (plan_in l nodes) p.enabled → Stands j i (n + 1) (plan_in k nodes) left
  standing_next j h a i s = t.stands j (job_kept g.kept u h) (after_kept g.kept u h a) i (g.stands j h a i s)

  -- one more that stays
  stays_more : left ≡ total → LastSoFar table finals states nodes p (n + 1) l k left last
  stays_more e =
      let same = t.stays e in
      record {
        kept = planning_both g.kept t.kept;
        carried = t.carried;
        least = g.least;
        within = omega (arith, g.within);
        exact = passed_next;
        after = λ j h a.
            subst (Kept (faithful j) last (n + 1)) (sym same)
            (kept_more (faithful j) last n (plan_in m nodes) (g.after j h a)
            (sym (t.exact j (job_kept g.kept u h) (after_kept g.kept u h a)) ∙ same));
        fewer = omega (arith, g.fewer);
        stands = standing_next;
      }

  -- one that goes
  goes_more : (left ≡ total → ⊥) → LastSoFar table finals states nodes p (n + 1) l k left (n + 1)
  goes_more ne =
      record {
        kept = planning_both g.kept t.kept;
        carried = t.carried;
        least = omega (arith, g.least, g.within);
        within = le_refl (n + 1);
        exact = passed_next;
        after = λ j h a. kept_none (faithful j) (n + 1) (plan_in k nodes);
        fewer = omega (arith, t.goes ne, g.fewer);
        stands = standing_next;
      }

  -- one node more
  pub last_so_far_more
      : {next : ℕ} → ((left ≡ total → ⊥) × (next ≡ n + 1)) ⊎ ((left ≡ total) × (next ≡ last))
      → LastSoFar table finals states nodes p (n + 1) l k left next
  last_so_far_more o =
      ⊎_elim
      (λ (w : (left ≡ total → ⊥) × (_ ≡ n + 1)).
      subst (LastSoFar table finals states nodes p (n + 1) l k left) (sym w.1) (goes_more w.0))
      (λ (w : (left ≡ total) × (_ ≡ last)).
      subst (LastSoFar table finals states nodes p (n + 1) l k left) (sym w.1) (stays_more w.0))
      o

-- after the last
pub last_so_far_end
    : {table : List (List ℕ)} {finals states nodes : ℕ} {p : Progress} {n : ℕ} {l m : List ℕ} {total last : ℕ} → n ≡ nodes
    → LastSoFar table finals states nodes p n l m total last
    → LastGone table finals states nodes p l m (record { enabled = total; last = last })
last_so_far_end {table} {finals} {states} {nodes} {p} {n} {l} {m} {total} {last} e g =
    let h = subst (λ (i : ℕ). LastSoFar table finals states nodes p i l m total last) e g in
    record {
      kept = h.kept;
      carried = h.carried;
      least = h.least;
      within = h.within;
      exact = h.exact;
      after = h.after;
      fewer = h.fewer;
      stands = h.stands;
    }
