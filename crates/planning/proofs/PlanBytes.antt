-- Laws of plans as lists of bytes: a byte cleared, the count of watched points, the plan with all points watched.
-- A plan that only loses points keeps its length and its kind of bytes, and its count says whether it changed.
-- Assumes nothing.
use mathlib.Core.Path.{◌≡◌, refl, sym, ap, ◌∙◌}
use mathlib.Core.Logic.{◌⊎◌, inl, inr, ⊎_elim, by_cases, ◌↔◌}
use mathlib.Core.Bool.{Bool, true, false, cond, false≢true, and-eq-true_iff}
use mathlib.Core.List.{List, [], ◌∷◌}
use Prim.Native.Nat.{ℕ, zero, suc, ◌+◌, ◌≤◌, ◌<◌}
use native.Mathlib.Nat.{le_refl}
use native.Mathlib.Decide.{dec_lt}
use native.Mathlib.Omega.{arith}
use lib.Dec.{eqb}
use lib.ListN.{length, get_or, set, length-map, get_or-map, get_or-eq_default}
use lib.Seq.{set-get_or, set-set, get_or-set_same}
use borrow.Author.Tests.{eqb-true, eqb-false, eq-eqb, ne_eqb}
use Rattle.laws.specs.Bounded.{sum_below}
use Rattle.laws.proofs.Bounded.{sum_front, sum_cong, sum_bound}
use Rattle.laws.proofs.Tests.{fails_of, passes_or_fails}
use Rattle.job.specs.Job.{is_event, Node, Job, no_node, node_at}
use Rattle.job.specs.Plan.{enables}
use Rattle.planning.specs.Planning.{IsPlan, shadow_byte, all_enabled, same_plan, enabled_count}

-- ---- bytes

-- a watched node has the byte 1
pub enabled_byte : (plan : List ℕ) (n : ℕ) → enables plan n ≡ true → get_or plan n 0 ≡ 1
enabled_byte plan n w = eqb-true (get_or plan n 0) 1 w

-- a node with the byte 0 is not watched
pub disabled_byte : (plan : List ℕ) (n : ℕ) → get_or plan n 0 ≡ 0 → enables plan n ≡ false
disabled_byte plan n z = ne_eqb (get_or plan n 0) 1 (λ e. omega arith)

-- a byte of 0 or 1 is the mark of a watched node
pub enabled_mark : (plan : List ℕ) (n : ℕ) → get_or plan n 0 ≤ 1 → get_or plan n 0 ≡ cond (enables plan n) 1 0
enabled_mark plan n h =
    ⊎_elim
    (λ (w : enables plan n ≡ true). rw w (enabled_byte plan n w))
    (λ (w : enables plan n ≡ false). rw w (omega (arith, eqb-false (get_or plan n 0) 1 w)))
    (passes_or_fails (enables plan n))

-- a watched node stands in the plan
pub enabled_within : (plan : List ℕ) (n : ℕ) → enables plan n ≡ true → n < length plan
enabled_within plan n w =
    by_cases (dec_lt n (length plan)) (λ h. h)
    (λ h. absurd (omega (arith, enabled_byte plan n w, get_or-eq_default plan 0 {n = n} (omega arith))))

-- a byte that was cleared and is set again leaves the plan as it was
pub set_back : (plan : List ℕ) (n : ℕ) → enables plan n ≡ true → set (set plan n 0) n 1 ≡ plan
set_back plan n w = set-set plan n 0 1 ∙ ap (set plan n) (sym (enabled_byte plan n w)) ∙ set-get_or plan n 0

-- with a watched point removed it is another plan
pub set_differs : (plan : List ℕ) (n : ℕ) → enables plan n ≡ true → set plan n 0 ≡ plan → ⊥
set_differs plan n w e =
    let here : get_or (set plan n 0) n 0 ≡ 0 = get_or-set_same plan n 0 0 (enabled_within plan n w) in
    omega (arith, rw e at here, enabled_byte plan n w)

-- `same_plan` says that two plans are equal
pub same_says : (p r : List ℕ) → (same_plan p r ≡ true) ↔ (p ≡ r)
unfolding same_plan
same_says p r = (forth p r, λ e. rw (← e) (back p))
  where
    forth : (p r : List ℕ) → same_plan p r ≡ true → p ≡ r
    forth [] [] h = refl
    forth [] (y ∷ ys) h = absurd (false≢true h)
    forth (x ∷ xs) [] h = absurd (false≢true h)
    forth (x ∷ xs) (y ∷ ys) h =
        let both = (and-eq-true_iff (eqb x y) (same_plan xs ys)).0 h in
        cc (eqb-true x y both.0, forth xs ys both.1)

    back : (p : List ℕ) → same_plan p p ≡ true
    back [] = refl
    back (x ∷ xs) = (and-eq-true_iff (eqb x x) (same_plan xs xs)).1 (eq-eqb x x refl, back xs)

-- ---- plans that lose points

-- the second plan is the first with some bytes 1 made 0
pub data Lowered : List ℕ → List ℕ → Type 0 where
  no_byte : Lowered [] []
  same_byte : {x : ℕ} {p r : List ℕ} → Lowered p r → Lowered (x ∷ p) (x ∷ r)
  cleared : {x y : ℕ} {p r : List ℕ} → x ≡ 1 → y ≡ 0 → Lowered p r → Lowered (x ∷ p) (y ∷ r)

-- nothing changed
pub lowered_refl : (plan : List ℕ) → Lowered plan plan
lowered_refl [] = no_byte
lowered_refl (x ∷ xs) = same_byte (lowered_refl xs)

-- one change after another
pub lowered_trans : {p q r : List ℕ} → Lowered p q → Lowered q r → Lowered p r
lowered_trans no_byte no_byte = no_byte
lowered_trans (same_byte h) (same_byte k) = same_byte (lowered_trans h k)
lowered_trans (same_byte h) (cleared e f k) = cleared e f (lowered_trans h k)
lowered_trans (cleared e f h) (same_byte k) = cleared e f (lowered_trans h k)
lowered_trans (cleared e f h) (cleared g i k) = cleared e i (lowered_trans h k)

-- a watched point removed
pub lowered_set : (plan : List ℕ) (n : ℕ) → enables plan n ≡ true → Lowered plan (set plan n 0)
lowered_set [] n w = no_byte
lowered_set (x ∷ xs) zero w = cleared (eqb-true x 1 w) refl (lowered_refl xs)
lowered_set (x ∷ xs) (suc n) w = same_byte (lowered_set xs n w)

-- the length stays
pub lowered_length : {p r : List ℕ} → Lowered p r → length r ≡ length p
lowered_length no_byte = refl
lowered_length (same_byte h) = ap suc (lowered_length h)
lowered_length (cleared e f h) = ap suc (lowered_length h)

-- a byte stays, or is 1 and becomes 0
pub lowered_byte
    : {p r : List ℕ} → Lowered p r → (n : ℕ) → (get_or r n 0 ≡ get_or p n 0) ⊎ ((get_or p n 0 ≡ 1) × (get_or r n 0 ≡ 0))
lowered_byte no_byte n = inl refl
lowered_byte (same_byte h) zero = inl refl
lowered_byte (same_byte h) (suc n) = lowered_byte h n
lowered_byte (cleared e f h) zero = inr (e, f)
lowered_byte (cleared e f h) (suc n) = lowered_byte h n

-- no byte rises
pub lowered_le : {p r : List ℕ} → Lowered p r → (n : ℕ) → get_or r n 0 ≤ get_or p n 0
lowered_le {p} {r} h n =
    ⊎_elim (λ (e : get_or r n 0 ≡ get_or p n 0). omega arith) (λ (e : (get_or p n 0 ≡ 1) × (get_or r n 0 ≡ 0)). omega arith) (lowered_byte h n)

-- what is watched was watched
pub lowered_watches : {p r : List ℕ} → Lowered p r → (n : ℕ) → enables r n ≡ true → enables p n ≡ true
lowered_watches {p} {r} h n w =
    ⊎_elim
    (λ (e : get_or r n 0 ≡ get_or p n 0). eq-eqb _ _ (sym e ∙ enabled_byte r n w))
    (λ (e : (get_or p n 0 ≡ 1) × (get_or r n 0 ≡ 0)). eq-eqb _ _ e.0)
    (lowered_byte h n)

-- the count does not rise
pub lowered_count : {p r : List ℕ} → Lowered p r → enabled_count r ≤ enabled_count p
unfolding enabled_count
lowered_count no_byte = le_refl 0
lowered_count (same_byte h) = omega (arith, lowered_count h)
lowered_count (cleared e f h) = omega (arith, lowered_count h)

-- where the count stays the plan does
pub lowered_same : {p r : List ℕ} → Lowered p r → enabled_count r ≡ enabled_count p → r ≡ p
unfolding enabled_count
lowered_same no_byte c = refl
lowered_same (same_byte {x} h) c = ap (λ (l : List ℕ). x ∷ l) (lowered_same h (omega arith))
lowered_same (cleared e f h) c = absurd (omega (arith, lowered_count h))

-- where the plan changes the count falls
pub lowered_falls : {p r : List ℕ} → Lowered p r → (r ≡ p → ⊥) → enabled_count r < enabled_count p
lowered_falls {p} {r} h ne =
    by_cases (dec_lt (enabled_count r) (enabled_count p)) (λ l. l)
    (λ m. absurd (ne (lowered_same h (omega (arith, lowered_count h)))))

-- ---- counts

-- a point removed is one less
pub count_set : (plan : List ℕ) (n : ℕ) → enables plan n ≡ true → enabled_count (set plan n 0) + 1 ≡ enabled_count plan
unfolding enabled_count
count_set [] n w = absurd (omega (arith, eqb-true 0 1 w))
count_set (x ∷ xs) zero w = omega (arith, eqb-true x 1 w)
count_set (x ∷ xs) (suc n) w = omega (arith, count_set xs n w)

-- the count is the sum of the bytes
pub count_sum : (plan : List ℕ) → enabled_count plan ≡ sum_below (length plan) (λ n. get_or plan n 0)
unfolding enabled_count sum_below
count_sum [] = refl
count_sum (x ∷ xs) = omega (arith, count_sum xs, sum_front (length xs) (λ n. get_or (x ∷ xs) n 0))

-- where no byte is above 1, it is the number of bytes 1
pub count_says
    : (plan : List ℕ) → ((n : ℕ) → get_or plan n 0 ≤ 1) → enabled_count plan ≡ sum_below (length plan) (λ n. cond (enables plan n) 1 0)
count_says plan h =
    count_sum plan
    ∙ sum_cong (length plan) (λ n. get_or plan n 0) (λ n. cond (enables plan n) 1 0) (λ n l. enabled_mark plan n (h n))

-- and at most the plan's length
pub count_le : (plan : List ℕ) → ((n : ℕ) → get_or plan n 0 ≤ 1) → enabled_count plan ≤ length plan
count_le plan h = omega (arith, count_sum plan, sum_bound (length plan) 1 (λ n. get_or plan n 0) (λ n l. h n))

-- ---- plans of a job

-- the byte of a node that is an event, or is not
abbrev byte_of : Bool → ℕ
byte_of b = cond b 1 0

-- a plan that loses points stays one
pub lowered_plan : {j : Job} {p r : List ℕ} → Lowered p r → IsPlan j p → IsPlan j r
lowered_plan h v =
    record {
      long = lowered_length h ∙ v.long;
      bytes = λ n. omega (arith, lowered_le h n, v.bytes n);
      shadows = λ n w. v.shadows n (lowered_watches h n w);
    }

-- a node that is no event is not watched
pub plan_elsewhere : {j : Job} {plan : List ℕ} → IsPlan j plan → (n : ℕ) → shadow_byte (node_at j n).kind ≡ 0 → enables plan n ≡ false
plan_elsewhere {j} {plan} v n z =
    fails_of (enables plan n) (λ w. omega (arith, ap byte_of (v.shadows n w)))

-- the byte of a node where all points are watched
pub all_enabled_byte : (j : Job) (n : ℕ) → get_or (all_enabled j) n 0 ≡ shadow_byte (node_at j n).kind
all_enabled_byte j n = get_or-map (λ (x : Node). shadow_byte x.kind) j.nodes n no_node

-- a byte for each node
pub all_enabled_length : (j : Job) → length (all_enabled j) ≡ length j.nodes
all_enabled_length j = length-map j.nodes (λ (x : Node). shadow_byte x.kind)

-- every event node is watched
pub all_enabled_event : (j : Job) (n : ℕ) → is_event (node_at j n).kind ≡ true → enables (all_enabled j) n ≡ true
all_enabled_event j n e = eq-eqb _ 1 (all_enabled_byte j n ∙ ap byte_of e)

-- all points watched is a plan
pub all_enabled_plan : (j : Job) → IsPlan j (all_enabled j)
all_enabled_plan j =
    record {
      long = all_enabled_length j;
      bytes = λ n. rw (all_enabled_byte j n) (byte_le (is_event (node_at j n).kind));
      shadows = λ n w. byte_event (is_event (node_at j n).kind) (sym (all_enabled_byte j n) ∙ enabled_byte (all_enabled j) n w);
    }
  where
    byte_le : (b : Bool) → byte_of b ≤ 1
    byte_le true = omega arith
    byte_le false = omega arith

    byte_event : (b : Bool) → byte_of b ≡ 1 → b ≡ true
    byte_event true e = refl
    byte_event false e = absurd (omega arith)

-- its count is the number of event nodes
pub all_enabled_count : (j : Job) → enabled_count (all_enabled j) ≡ sum_below (length j.nodes) (λ n. shadow_byte (node_at j n).kind)
all_enabled_count j =
    count_sum (all_enabled j)
    ∙ ap (λ (k : ℕ). sum_below k (λ n. get_or (all_enabled j) n 0)) (all_enabled_length j)
    ∙ sum_cong (length j.nodes) (λ n. get_or (all_enabled j) n 0) (λ n. shadow_byte (node_at j n).kind) (λ n l. all_enabled_byte j n)
