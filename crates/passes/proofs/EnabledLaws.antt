-- Laws of the plan with every point enabled in the work buffer, and of planning as a whole.
-- Assumes nothing.
use mathlib.Core.Path.{◌≡◌, refl, sym, ap, subst, ◌∙◌}
use mathlib.Core.Logic.{⊎_elim}
use mathlib.Core.Bool.{Bool, true, false, cond}
use mathlib.Core.List.{List}
use Prim.Native.Nat.{ℕ, ◌+◌, ◌≤◌, ◌<◌}
use native.Mathlib.Nat.{eq-or-lt_of_le, le_of_suc-le-suc}
use native.Mathlib.Numerals.{add-one}
use native.Mathlib.Omega.{arith}
use lib.ListN.{length, get_or, set}
use lib.Seq.{get_or-set_same, get_or-set_other, ext_get_or}
use Rattle.buffer.proofs.KeptLaws.{kept_same, Kept-then}
use Rattle.laws.specs.Bounded.{sum_below}
use Rattle.laws.proofs.Bounded.{sum_none, sum_more, sum_cong}
use Rattle.job.specs.Job.{Kind, is_event, Node, Job}
use Rattle.planning.specs.Planning.{shadow_byte, all_enabled, enabled_count}
use Rattle.planning.specs.Listing.{plan_of}
use Rattle.planning.proofs.PlanBytes.{count_sum, all_enabled_byte, all_enabled_length}
use Rattle.buffer.specs.Layout.{plan_part, rule_part, Lent}
use Rattle.buffer.specs.Views.{node_in, plan_in}
use Rattle.buffer.specs.Kept.{SameOutside}
use Rattle.tables.specs.Held.{Usable, JobHeld, AfterHeld}
use Rattle.passes.specs.declared.passes.Counts.{Counts}
use Rattle.passes.specs.Counts.{counts_of}
use Rattle.passes.specs.Running.{Stands}
use Rattle.passes.specs.Passes.{PlanningKept, Carried, AllEnabled, PassesMade, PlanMade}
use Rattle.passes.proofs.PlanInLaws.{plan_in_byte, plan_in_length, planning_both, planning_plan, plan_stored}
use Rattle.passes.proofs.PlanInLaws.{node_kept, job_kept, after_kept}
use Rattle.passes.proofs.RunningLaws.{stands_at, stands_start, stands_unique, stands_planned}

-- ---- marks of shadows

-- a shadow has the byte 1
pub shadow_byte_one : (k : Kind) → is_event k ≡ true → 1 ≡ shadow_byte k
shadow_byte_one k e = rw e refl

-- any other node the byte 0
pub shadow_byte_zero : (k : Kind) → is_event k ≡ false → 0 ≡ shadow_byte k
shadow_byte_zero k e = rw e refl

-- it is at most 1
pub shadow_byte_le : (k : Kind) → shadow_byte k ≤ 1
shadow_byte_le k = go (is_event k)
  where
    go : (b : Bool) → cond b 1 0 ≤ 1
    go true = omega arith
    go false = omega arith

-- a mark is at most 1
pub mark_small : (l : List ℕ) (n mark : ℕ) → mark ≡ shadow_byte (node_in l n).kind → mark ≤ 1
mark_small l n mark e = omega (arith, e, shadow_byte_le (node_in l n).kind)

-- ---- every shadow enabled

-- the byte of a node with every shadow enabled
unfoldable pub mark_in : List ℕ → ℕ → ℕ
mark_in l n = shadow_byte (node_in l n).kind

-- the plan bytes of the first n nodes are stored, and counted
pub record EnabledSoFar (l m : List ℕ) (n count : ℕ) : Type 0 where
  pub kept : SameOutside l m plan_part rule_part
  pub marks : (k : ℕ) → k < n → get_or m (plan_part + k) 0 ≡ mark_in l k
  pub counted : count ≡ sum_below n (mark_in l)
  pub small : count ≤ n

-- before the first
pub enabled_start : (l : List ℕ) → EnabledSoFar l l 0 0
enabled_start l =
    record {
      kept = kept_same l;
      marks = λ k h. absurd (omega arith);
      counted = sym (sum_none (mark_in l));
      small = omega arith;
    }

-- one more
pub enabled_more
    : {l m : List ℕ} {n count mark : ℕ} → Lent m → n < 512 → EnabledSoFar l m n count
    → mark ≡ shadow_byte (node_in m n).kind → EnabledSoFar l (set m (plan_part + n) mark) (n + 1) (count + mark)
unfolding mark_in
enabled_more {l} {m} {n} {count} {mark} long h g e =
    let is : mark ≡ mark_in l n = e ∙ ap (λ (x : Node). shadow_byte x.kind) (node_kept (planning_plan g.kept) n h) in
    let stored = plan_stored m n mark h in
    record {
      kept = Kept-then (λ k o. (o, o)) g.kept stored;
      marks = λ k b.
          ⊎_elim
          (λ (q : k ≡ n). rw q (get_or-set_same m (plan_part + n) mark 0 (omega arith) ∙ is))
          (λ (b : k < n). get_or-set_other m (plan_part + n) (plan_part + k) mark 0 (λ q. omega arith) ∙ g.marks k b)
          (eq-or-lt_of_le (le_of_suc-le-suc (rw add-one at b)));
      counted = omega (arith, g.counted, is, sum_more n (mark_in l));
      small = omega (arith, g.small, e, shadow_byte_le (node_in m n).kind);
    }

-- all
pub enabled_end
    : {l m : List ℕ} {n nodes count : ℕ} → Lent l → nodes ≤ 512 → n ≡ nodes → EnabledSoFar l m n count
    → AllEnabled l m nodes count
unfolding mark_in
enabled_end {l} {m} {n} {nodes} {count} long few is g' =
    record { kept = g.kept; carried = carried; exact = exact; stands = stands }
  where
    g : EnabledSoFar l m nodes count
    g = subst (λ (k : ℕ). EnabledSoFar l m k count) is g'

    size : length (plan_in m nodes) ≡ nodes
    size = plan_in_length m nodes (omega (arith, g.kept.long)) few

    byte : (i : ℕ) → i < nodes → get_or (plan_in m nodes) i 0 ≡ mark_in l i
    byte i b = plan_in_byte m nodes i b ∙ g.marks i b

    carried : Carried m nodes count
    carried =
        g.counted ∙ sym (sum_cong nodes (λ i. get_or (plan_in m nodes) i 0) (mark_in l) byte)
        ∙ ap (λ (k : ℕ). sum_below k (λ i. get_or (plan_in m nodes) i 0)) (sym size) ∙ sym (count_sum (plan_in m nodes))

    exact : (j : Job) (table : List (List ℕ)) (finals states : ℕ) → JobHeld j l table finals states nodes → plan_in m nodes ≡ all_enabled j
    exact j table finals states h =
        ext_get_or 0 (plan_in m nodes) (all_enabled j) (size ∙ h.nodes_are ∙ sym (all_enabled_length j))
        (λ i b.
        let c : i < nodes = omega (arith, size) in
        byte i c ∙ ap (λ (x : Node). shadow_byte x.kind) (h.node i c) ∙ sym (all_enabled_byte j i))

    stands : (j : Job) (table : List (List ℕ)) (finals states : ℕ) → JobHeld j l table finals states nodes
        → Stands j 0 0 (plan_in m nodes) count
    stands j table finals states h = stands_at (exact j table finals states h) carried (stands_start j)

-- ---- planning

-- counts that are the job's one by one
counts_are
    : (j : Job) (c : Counts) → c.shadows ≡ (counts_of j).shadows → c.enabled ≡ (counts_of j).enabled → c.passes ≡ (counts_of j).passes
    → c ≡ counts_of j
counts_are j c s e p = λ i. record { shadows = s i; enabled = e i; passes = p i }

-- all points are watched, and passes are made
pub plan_made
    : {table : List (List ℕ)} {finals states nodes : ℕ} {l m k : List ℕ} {total : ℕ} {answer : Counts} → Usable l table states nodes
    → AllEnabled l m nodes total → PassesMade table finals states nodes m k total answer → PlanMade table finals states nodes l k answer
plan_made {table} {finals} {states} {nodes} {l} {m} {k} {total} {answer} u a p =
    record {
      kept = planning_both first p.kept;
      plan = plan;
      counts = λ j h r.
          let all = a.exact j table finals states h in
          let passes = p.passes j (job_kept first u h) (after_kept first u h r) all in
          let stands = p.stands j (job_kept first u h) (after_kept first u h r) 0 (a.stands j table finals states h) in
          let ended : Stands j (plan_of j).passes 0 (plan_in k nodes) answer.enabled =
          subst (λ (i : ℕ). Stands j i 0 (plan_in k nodes) answer.enabled) (omega (arith, passes)) stands
          in
          counts_are j answer (p.shadows ∙ a.carried ∙ ap enabled_count all)
          (stands_unique ended (stands_planned j h.formed)).1 passes;
    }
  where
    first : PlanningKept l m
    first = planning_plan a.kept

    plan : (j : Job) → JobHeld j l table finals states nodes → AfterHeld j l nodes → plan_in k nodes ≡ (plan_of j).plan
    plan j h r = p.plan j (job_kept first u h) (after_kept first u h r) (a.exact j table finals states h)
