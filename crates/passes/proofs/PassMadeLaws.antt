-- Laws of passes in the work buffer: one pass, and passes until one changes nothing.
-- Assumes nothing.
use mathlib.Core.Path.{◌≡◌, refl, sym, ap, subst, ◌∙◌}
use mathlib.Core.List.{List}
use Prim.Native.Nat.{ℕ, zero, suc, ◌+◌, ◌*◌, ◌≤◌, ◌<◌, zero-le}
use native.Mathlib.Nat.{le_refl}
use native.Mathlib.Numerals.{add-one}
use native.Mathlib.Omega.{arith}
use lib.ListN.{length, get_or}
use Rattle.laws.specs.Bytes.{AreBytes}
use Rattle.laws.proofs.Bounded.{sum_bound}
use Rattle.job.specs.Job.{Job}
use Rattle.planning.specs.Planning.{passed, Planned, enabled_count, all_enabled}
use Rattle.planning.specs.Listing.{plan_of}
use Rattle.job.specs.Search.{faithful}
use Rattle.planning.proofs.PlanBytes.{count_sum}
use Rattle.planning.proofs.PassLaws.{Kept, passed_says, kept_none, kept_passed}
use Rattle.planning.proofs.PlanningLaws.{settled, Underway, underway_start, underway_more, underway_last}
use Rattle.buffer.specs.Layout.{plan_part, Lent}
use Rattle.buffer.specs.Views.{plan_in}
use Rattle.tables.specs.Held.{Usable, JobHeld, AfterHeld}
use Rattle.passes.specs.declared.passes.Progress.{Progress}
use Rattle.passes.specs.Running.{Stands, next_pass}
use Rattle.passes.specs.Passes.{PlanningKept, Carried, TriedFrom, FirstGone, LastGone, PassMade, PassesMade}
use Rattle.passes.proofs.PlanInLaws.{plan_in_byte, plan_in_length, planning_none, planning_both, job_kept, after_kept}
use Rattle.passes.proofs.RunningLaws.{stands_at, stands_pass}

-- ---- a pass

-- none went
pub pass_none
    : {table : List (List ℕ)} {finals states nodes : ℕ} {p r : Progress} {l m : List ℕ} → p.last ≤ nodes → r.last ≡ 0
    → FirstGone table finals states nodes p l m r → PassMade table finals states nodes p l m r
pass_none {table} {finals} {states} {nodes} {p} {r} {l} {m} b e g =
    record {
      kept = g.kept;
      carried = g.carried;
      within = omega arith;
      same = λ z. same;
      fewer = λ z. absurd (z e);
      exact = exact;
      after = λ j h a t i c.
          subst (Kept (faithful j) 0 nodes) (sym same) ((passed_says (faithful j) nodes (plan_in l nodes)).0 (whole j h a t)) i zero-le;
      stands = λ j h a t k s.
          let whole = exact j h a t ∙ ap (λ (n : ℕ). passed (faithful j) n (plan_in l nodes)) h.nodes_are in
          stands_at whole g.carried (stands_pass h.formed s);
    }
  where
    same : plan_in m nodes ≡ plan_in l nodes
    same = g.same e

    whole : (j : Job) → JobHeld j l table finals states nodes → AfterHeld j l nodes → TriedFrom j p.last nodes (plan_in l nodes)
        → passed (faithful j) nodes (plan_in l nodes) ≡ plan_in l nodes
    whole j h a t =
        let before = (passed_says (faithful j) p.last (plan_in l nodes)).1 (λ i z c. g.none e j h a i c) in
        kept_passed (faithful j) p.last nodes (plan_in l nodes) b t before

    exact : (j : Job) → JobHeld j l table finals states nodes → AfterHeld j l nodes → TriedFrom j p.last nodes (plan_in l nodes)
        → plan_in m nodes ≡ passed (faithful j) nodes (plan_in l nodes)
    exact j h a t = same ∙ sym (whole j h a t)

-- one went, and the rest was tried
pub pass_some
    : {table : List (List ℕ)} {finals states nodes : ℕ} {p q r : Progress} {l m k : List ℕ} → Usable l table states nodes
    → (q.last ≡ 0 → ⊥) → FirstGone table finals states nodes p l m q → LastGone table finals states nodes q m k r
    → PassMade table finals states nodes p l k r
pass_some {table} {finals} {states} {nodes} {p} {q} {r} {l} {m} {k} u ne g t =
    record {
      kept = planning_both g.kept t.kept;
      carried = t.carried;
      within = t.within;
      same = λ z. absurd (ne (omega (arith, t.least)));
      fewer = λ z. omega (arith, g.fewer ne, t.fewer);
      exact = λ j h a f.
          t.exact j (job_kept g.kept u h) (after_kept g.kept u h a) (plan_in l nodes) (g.exact ne j h a);
      after = λ j h a f. t.after j (job_kept g.kept u h) (after_kept g.kept u h a);
      stands = λ j h a f i s.
          let whole = t.stands j (job_kept g.kept u h) (after_kept g.kept u h a) i (g.stands ne j h a i s) in
          rw (add-one i) (next_pass (subst (λ (n : ℕ). Stands j i n (plan_in k nodes) r.enabled) h.nodes_are whole));
    }

-- ---- passes

-- the count of a plan of bytes is not large
pub count_bounded : (l : List ℕ) (nodes : ℕ) → Lent l → nodes ≤ 512 → AreBytes l → enabled_count (plan_in l nodes) ≤ 512 * 255
count_bounded l nodes long few bytes =
    let sum = sum_bound (length (plan_in l nodes)) 255 (λ i. get_or (plan_in l nodes) i 0) byte in
    omega (arith, count_sum (plan_in l nodes), sum, size)
  where
    size : length (plan_in l nodes) ≡ nodes
    size = plan_in_length l nodes long few

    byte : (i : ℕ) → i < length (plan_in l nodes) → get_or (plan_in l nodes) i 0 ≤ 255
    byte i h = rw (plan_in_byte l nodes i (omega (arith, size))) (omega (arith, bytes (plan_part + i) (omega (arith, size))))

-- passes were made, each but one that ended them with a change; the last is one past the last node that went, 0 where none did
pub record Passing (table : List (List ℕ)) (finals states nodes : ℕ) (l m : List ℕ) (total : ℕ) (p : Progress) (count : ℕ) : Type 0 where
  pub kept : PlanningKept l m
  pub carried : Carried m nodes p.enabled
  pub within : p.last ≤ nodes
  pub few : (p.last ≡ 0 → ⊥) → count + p.enabled ≤ total
  pub underway
      : (p.last ≡ 0 → ⊥) → (j : Job) → JobHeld j l table finals states nodes → AfterHeld j l nodes
      → Underway (faithful j) nodes (plan_in l nodes) (plan_in m nodes) count
  pub after
      : (p.last ≡ 0 → ⊥) → (j : Job) → JobHeld j l table finals states nodes → AfterHeld j l nodes
      → TriedFrom j p.last nodes (plan_in m nodes)
  pub stands
      : (j : Job) → JobHeld j l table finals states nodes → AfterHeld j l nodes
      → (k : ℕ) → Stands j k 0 (plan_in l nodes) total → Stands j (k + count) 0 (plan_in m nodes) p.enabled
  pub ended
      : p.last ≡ 0 → (j : Job) → JobHeld j l table finals states nodes → AfterHeld j l nodes
      → settled (faithful j) nodes (plan_in l nodes) ≡ record { plan = plan_in m nodes; passes = count }

-- before the first
pub passing_start
    : {table : List (List ℕ)} {finals states nodes total : ℕ} (l : List ℕ) → 1 ≤ nodes → Carried l nodes total
    → Passing table finals states nodes l l total (record { enabled = total; last = nodes }) 0
passing_start {nodes = nodes} {total = total} l h c =
    record {
      kept = planning_none l;
      carried = c;
      within = le_refl nodes;
      few = λ z. omega arith;
      underway = λ z j h a. underway_start (faithful j) nodes (plan_in l nodes);
      after = λ z j h a. kept_none (faithful j) nodes (plan_in l nodes);
      stands = λ j h a k s. subst (λ (i : ℕ). Stands j i 0 (plan_in l nodes) total) (omega arith) s;
      ended = λ z. absurd (omega arith);
    }

-- one pass more
pub passing_more
    : {table : List (List ℕ)} {finals states nodes total : ℕ} {l m k : List ℕ} {p r : Progress} {count : ℕ} → Usable l table states nodes
    → (p.last ≡ 0 → ⊥) → Passing table finals states nodes l m total p count → PassMade table finals states nodes p m k r
    → Passing table finals states nodes l k total r (count + 1)
passing_more {nodes = nodes} {l = l} {m = m} {k = k} {r = r} {count = count} u ne g t =
    record {
      kept = planning_both g.kept t.kept;
      carried = t.carried;
      within = t.within;
      few = λ z. omega (arith, g.few ne, t.fewer z);
      underway = λ z j h a.
          let e = t.exact j (job_kept g.kept u h) (after_kept g.kept u h a) (g.after ne j h a) in
          subst (λ (p : List ℕ). Underway (faithful j) nodes (plan_in l nodes) p (count + 1)) (sym e)
          (underway_more (faithful j) nodes (plan_in l nodes) (plan_in m nodes) count (g.underway ne j h a)
          (λ q. omega (arith, t.fewer z, t.carried, g.carried, ap enabled_count (e ∙ q))));
      after = λ z j h a. t.after j (job_kept g.kept u h) (after_kept g.kept u h a) (g.after ne j h a);
      stands = λ j h a i s.
          let next = t.stands j (job_kept g.kept u h) (after_kept g.kept u h a) (g.after ne j h a) (i + count) (g.stands j h a i s) in
          subst (λ (n : ℕ). Stands j n 0 (plan_in k nodes) r.enabled) (omega arith) next;
      ended = λ z j h a.
          let e = t.exact j (job_kept g.kept u h) (after_kept g.kept u h a) (g.after ne j h a) in
          let same = t.same z in
          underway_last (faithful j) nodes (plan_in l nodes) (plan_in m nodes) count (g.underway ne j h a) (sym e ∙ same)
          ∙ ap (λ (p : List ℕ). record { plan = p; passes = count + 1 }) (sym same);
    }

-- what is left to them
abbrev pub passes_left : ℕ → ℕ → ℕ
passes_left zero total = 0
passes_left (suc n) total = total + 1

-- it falls with each pass
pub passes_left_falls
    : {table : List (List ℕ)} {finals states nodes : ℕ} {m k : List ℕ} {p r : Progress} → (p.last ≡ 0 → ⊥)
    → PassMade table finals states nodes p m k r → passes_left r.last r.enabled < passes_left p.last p.enabled
passes_left_falls {p = p} {r = r} ne t = go p.last r.last ne t.fewer
  where
    go : (f i : ℕ) → (f ≡ 0 → ⊥) → ((i ≡ 0 → ⊥) → r.enabled < p.enabled)
        → passes_left i r.enabled < passes_left f p.enabled
    go zero i ne h = absurd (ne refl)
    go (suc f) zero ne h = omega arith
    go (suc f) (suc i) ne h = omega (arith, h (λ e. omega arith))

-- they end
pub passing_end
    : {table : List (List ℕ)} {finals states nodes total : ℕ} {l m : List ℕ} {p : Progress} {count : ℕ} → p.last ≡ 0
    → Passing table finals states nodes l m total p count
    → PassesMade table finals states nodes l m total (record { shadows = total; enabled = p.enabled; passes = count })
passing_end {table} {finals} {states} {nodes} {total} {l} {m} {p} {count} e g =
    record {
      kept = g.kept;
      shadows = refl;
      carried = g.carried;
      plan = λ j h a s. ap (λ (r : Planned). r.plan) (result j h a s);
      passes = λ j h a s. ap (λ (r : Planned). r.passes) (result j h a s);
      stands = g.stands;
    }
  where
    result : (j : Job) → JobHeld j l table finals states nodes → AfterHeld j l nodes → plan_in l nodes ≡ all_enabled j
        → record { plan = plan_in m nodes; passes = count } ≡ plan_of j
    result j h a s =
        sym (g.ended e j h a) ∙ ap (settled (faithful j) nodes) s
        ∙ ap (λ (n : ℕ). settled (faithful j) n (all_enabled j)) h.nodes_are
