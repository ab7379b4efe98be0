-- The plan in the work buffer, and what a try, a pass and planning leave there.
-- Inner contracts: what functions ask of and leave to each other. No promise is stated in them; a reader need not believe them.
-- Assumes nothing.
use Rattle.std.specs.Prelude.{◌≡◌, List, ℕ, ◌+◌, ◌≤◌, ◌<◌}
use Rattle.job.specs.Job.{Job}
use Rattle.planning.specs.Planning.{all_enabled, tried, passed, enabled_count}
use Rattle.planning.specs.Listing.{plan_of}
use Rattle.job.specs.Search.{faithful}
use Rattle.buffer.specs.Layout.{pair_part, class_part, plan_part, rule_part, marks_end}
use Rattle.buffer.specs.Views.{plan_in}
use Rattle.buffer.specs.Kept.{SameOutside, Kept, Outside}
use Rattle.tables.specs.Held.{JobHeld, AfterHeld}
use Rattle.passes.specs.declared.passes.Counts.{Counts}
use Rattle.passes.specs.declared.passes.Progress.{Progress}
use Rattle.passes.specs.Counts.{counts_of}
use Rattle.passes.specs.Running.{Stands}

-- only the rows of pairs and the bytes from the plan up to the end of the marks are touched
abbrev pub PlanningKept : List ℕ → List ℕ → Type 0
PlanningKept = Kept (λ k. Outside pair_part class_part k × Outside plan_part marks_end k)

-- the total that is carried along: the watched points of the plan as it stands in the buffer, counted as those returned are
abbrev pub Carried : List ℕ → ℕ → ℕ → Type 0
Carried work nodes total = total ≡ enabled_count (plan_in work nodes)

-- "all points start watched": the plan part holds 1 at each event node and 0 at any other, and the total is their number
pub record AllEnabled (l m : List ℕ) (nodes total : ℕ) : Type 0 where
  pub kept : SameOutside l m plan_part rule_part
  pub carried : Carried m nodes total
  pub exact
      : (j : Job) (table : List (List ℕ)) (finals states : ℕ) → JobHeld j l table finals states nodes → plan_in m nodes ≡ all_enabled j
  pub stands
      : (j : Job) (table : List (List ℕ)) (finals states : ℕ) → JobHeld j l table finals states nodes
      → Stands j 0 0 (plan_in m nodes) total

-- node n was tried: one less of the total is left where it goes
pub record TriedAt (table : List (List ℕ)) (finals states nodes n : ℕ) (l m : List ℕ) (total left : ℕ) : Type 0 where
  pub kept : PlanningKept l m
  pub exact
      : (j : Job) → JobHeld j l table finals states nodes → AfterHeld j l nodes
      → plan_in m nodes ≡ tried (faithful j) n (plan_in l nodes)
  pub carried : Carried m nodes left
  pub stays : left ≡ total → plan_in m nodes ≡ plan_in l nodes
  pub goes : (left ≡ total → ⊥) → left + 1 ≡ total
  pub stands
      : (j : Job) → JobHeld j l table finals states nodes → AfterHeld j l nodes
      → (k : ℕ) → Stands j k n (plan_in l nodes) total → Stands j k (n + 1) (plan_in m nodes) left

-- no try at a node from k on changes the plan
abbrev pub TriedFrom : Job → ℕ → ℕ → List ℕ → Type 0
TriedFrom j k nodes plan = (i : ℕ) → k ≤ i → i < nodes → tried (faithful j) i plan ≡ plan

-- the nodes before `p.last` were tried until one goes; the last is then one past it, 0 where none goes
pub record FirstGone (table : List (List ℕ)) (finals states nodes : ℕ) (p : Progress) (l m : List ℕ) (r : Progress) : Type 0 where
  pub kept : PlanningKept l m
  pub carried : Carried m nodes r.enabled
  pub within : r.last ≤ p.last
  pub same : r.last ≡ 0 → plan_in m nodes ≡ plan_in l nodes
  pub none
      : r.last ≡ 0 → (j : Job) → JobHeld j l table finals states nodes → AfterHeld j l nodes
      → (i : ℕ) → i < p.last → tried (faithful j) i (plan_in l nodes) ≡ plan_in l nodes
  pub exact
      : (r.last ≡ 0 → ⊥) → (j : Job) → JobHeld j l table finals states nodes → AfterHeld j l nodes
      → plan_in m nodes ≡ passed (faithful j) r.last (plan_in l nodes)
  pub fewer : (r.last ≡ 0 → ⊥) → r.enabled < p.enabled
  pub stands
      : (r.last ≡ 0 → ⊥) → (j : Job) → JobHeld j l table finals states nodes → AfterHeld j l nodes
      → (k : ℕ) → Stands j k 0 (plan_in l nodes) p.enabled → Stands j k r.last (plan_in m nodes) r.enabled

-- the nodes from `p.last` on were tried; the last is then one past the last that goes, as it was where none does
pub record LastGone (table : List (List ℕ)) (finals states nodes : ℕ) (p : Progress) (l m : List ℕ) (r : Progress) : Type 0 where
  pub kept : PlanningKept l m
  pub carried : Carried m nodes r.enabled
  pub least : p.last ≤ r.last
  pub within : r.last ≤ nodes
  pub exact
      : (j : Job) → JobHeld j l table finals states nodes → AfterHeld j l nodes
      → (plan : List ℕ) → plan_in l nodes ≡ passed (faithful j) p.last plan → plan_in m nodes ≡ passed (faithful j) nodes plan
  pub after
      : (j : Job) → JobHeld j l table finals states nodes → AfterHeld j l nodes → TriedFrom j r.last nodes (plan_in m nodes)
  pub fewer : r.enabled ≤ p.enabled
  pub stands
      : (j : Job) → JobHeld j l table finals states nodes → AfterHeld j l nodes
      → (k : ℕ) → Stands j k p.last (plan_in l nodes) p.enabled → Stands j k nodes (plan_in m nodes) r.enabled

-- a pass was made over a plan whose nodes from `p.last` on were tried since it last changed; the last is then one past the last node
-- that went, 0 where none did
pub record PassMade (table : List (List ℕ)) (finals states nodes : ℕ) (p : Progress) (l m : List ℕ) (r : Progress) : Type 0 where
  pub kept : PlanningKept l m
  pub carried : Carried m nodes r.enabled
  pub within : r.last ≤ nodes
  pub same : r.last ≡ 0 → plan_in m nodes ≡ plan_in l nodes
  pub fewer : (r.last ≡ 0 → ⊥) → r.enabled < p.enabled
  pub exact
      : (j : Job) → JobHeld j l table finals states nodes → AfterHeld j l nodes → TriedFrom j p.last nodes (plan_in l nodes)
      → plan_in m nodes ≡ passed (faithful j) nodes (plan_in l nodes)
  pub after
      : (j : Job) → JobHeld j l table finals states nodes → AfterHeld j l nodes → TriedFrom j p.last nodes (plan_in l nodes)
      → TriedFrom j r.last nodes (plan_in m nodes)
  pub stands
      : (j : Job) → JobHeld j l table finals states nodes → AfterHeld j l nodes → TriedFrom j p.last nodes (plan_in l nodes)
      → (k : ℕ) → Stands j k 0 (plan_in l nodes) p.enabled → Stands j (k + 1) 0 (plan_in m nodes) r.enabled

-- passes were made until one changed nothing, which is counted too, from a plan with this total
pub record PassesMade (table : List (List ℕ)) (finals states nodes : ℕ) (l m : List ℕ) (total : ℕ) (answer : Counts) : Type 0 where
  pub kept : PlanningKept l m
  pub shadows : answer.shadows ≡ total
  pub carried : Carried m nodes answer.enabled
  pub plan
      : (j : Job) → JobHeld j l table finals states nodes → AfterHeld j l nodes → plan_in l nodes ≡ all_enabled j
      → plan_in m nodes ≡ (plan_of j).plan
  pub passes
      : (j : Job) → JobHeld j l table finals states nodes → AfterHeld j l nodes → plan_in l nodes ≡ all_enabled j
      → answer.passes ≡ (plan_of j).passes
  pub stands
      : (j : Job) → JobHeld j l table finals states nodes → AfterHeld j l nodes
      → (k : ℕ) → Stands j k 0 (plan_in l nodes) total → Stands j (k + answer.passes) 0 (plan_in m nodes) answer.enabled

-- planning was done: the plan, and the answer, which is the counts
pub record PlanMade (table : List (List ℕ)) (finals states nodes : ℕ) (l m : List ℕ) (answer : Counts) : Type 0 where
  pub kept : PlanningKept l m
  pub plan : (j : Job) → JobHeld j l table finals states nodes → AfterHeld j l nodes → plan_in m nodes ≡ (plan_of j).plan
  pub counts : (j : Job) → JobHeld j l table finals states nodes → AfterHeld j l nodes → answer ≡ counts_of j
