-- Edges with one more or one less ascend again and are the old ones with just that edge more or less, and no other ascending edges are.
-- Why: the edge stands before the first one that it is before, and of two edges that are not the same just one is before the other.
-- Assumes nothing.
use mathlib.Core.Path.{◌≡◌, refl, sym, ap, ◌∙◌}
use mathlib.Core.Logic.{◌≢◌, ⊎_elim}
use mathlib.Core.Bool.{Bool, true, false, cond, not, ◌&&◌, ◌||◌, and-eq-true_iff, and-false, true≢false}
use mathlib.Core.List.{List, [], ◌∷◌}
use Prim.Native.Nat.{ℕ, ◌+◌}
use native.Mathlib.Omega.{arith}
use lib.Dec.{eqb}
use lib.ListN.{length}
use borrow.Author.Tests.{eqb-true, eq-eqb}
use Rattle.laws.proofs.Tests.{fails_of, passes_or_fails, test_ext, or_passes, or_left, or_right}
use Rattle.events.specs.Run.{cons_if}
use Rattle.job.specs.Job.{Edge, edge, holds}
use Rattle.jobfile.specs.Spellable.{Before, Ascending, no_edge, one_edge, next_edge}
use Rattle.arrivals.specs.Arrivals.{is_before, predecessors_of, with_edge, without_edge}
use Rattle.arrivals.specs.ArrivalsSay.{EdgesSay}
use Rattle.arrivals.proofs.OrderLaws.{edge_ext, before_true, before_total, Before-irreflexive, Before-asymmetric, Before-trans, first_before, rest_ascends, holds_at}
use Rattle.arrivals.proofs.PlacedLaws.{predecessors_cons_other}

-- ---- an edge among others

-- the test of an edge's ends
abbrev pub is_edge : Edge → ℕ → ℕ → Bool
is_edge e a b = eqb e.from a && eqb e.to b

-- it passes at the ends of the edge
pub is_edge_same : (e : Edge) → is_edge e e.from e.to ≡ true
is_edge_same e =
    (and-eq-true_iff (eqb e.from e.from) (eqb e.to e.to)).1
    (eq-eqb e.from e.from refl, eq-eqb e.to e.to refl)

-- and nowhere else
pub is_edge_true : (e : Edge) (a b : ℕ) → is_edge e a b ≡ true → e ≡ edge a b
is_edge_true e a b t =
    let both = (and-eq-true_iff (eqb e.from a) (eqb e.to b)).0 t in
    edge_ext e (edge a b) (eqb-true e.from a both.0) (eqb-true e.to b both.1)

-- the first edge is held
pub holds_first : (e : Edge) (es : List Edge) (a b : ℕ) → e.from ≡ a → e.to ≡ b → holds (e ∷ es) a b ≡ true
unfolding holds
holds_first e es a b p q =
    or_left (is_edge e a b) (holds es a b) ((and-eq-true_iff (eqb e.from a) (eqb e.to b)).1 (eq-eqb e.from a p, eq-eqb e.to b q))

-- what the others hold is held
pub holds_later : (e : Edge) (es : List Edge) (a b : ℕ) → holds es a b ≡ true → holds (e ∷ es) a b ≡ true
unfolding holds
holds_later e es a b h = or_right (is_edge e a b) (holds es a b) h

-- an edge that ascending edges hold after the first is after it
pub held_after : {e : Edge} {es : List Edge} → Ascending (e ∷ es) → (a b : ℕ) → holds es a b ≡ true → Before e (edge a b)
held_after {e} {es} up a b h =
    let r = holds_at es a b (edge 0 0) h in
    rw r.2 at (first_before (edge 0 0) up r.0 r.1)

-- the first of ascending edges is not among the others
pub first_once : {e : Edge} {es : List Edge} → Ascending (e ∷ es) → holds es e.from e.to ≡ false
first_once {e} {es} up =
    fails_of (holds es e.from e.to) (λ h. Before-irreflexive e (held_after up e.from e.to h))

-- ---- an edge more

-- it stands before an edge that it is before
pub with_here : (e d : Edge) (ds : List Edge) → is_before e d ≡ true → with_edge e (d ∷ ds) ≡ e ∷ d ∷ ds
unfolding with_edge
with_here e d ds h = ap (λ (t : Bool). cond t (e ∷ d ∷ ds) (d ∷ with_edge e ds)) h

-- it stands after any other
pub with_later : (e d : Edge) (ds : List Edge) → is_before e d ≡ false → with_edge e (d ∷ ds) ≡ d ∷ with_edge e ds
unfolding with_edge
with_later e d ds h = ap (λ (t : Bool). cond t (e ∷ d ∷ ds) (d ∷ with_edge e ds)) h

-- it stands alone among none
pub with_none : (e : Edge) → with_edge e [] ≡ e ∷ []
unfolding with_edge
with_none e = refl

-- an edge that is neither after another nor the same is before it
before_else : (e d : Edge) → is_before e d ≡ false → is_edge d e.from e.to ≡ false → Before d e
before_else e d h other =
    ⊎_elim
    (λ (t : is_before d e ≡ true). before_true d e t)
    (λ (t : is_before d e ≡ false).
    let same : d ≡ e = before_total d e t h in
    absurd (true≢false (sym (is_edge_same e) ∙ (rw same at other))))
    (passes_or_fails (is_before d e))

-- what is not among edges is not the first, nor among the others
absent_parts : (e : Edge) (es : List Edge) (a b : ℕ) → holds (e ∷ es) a b ≡ false → (is_edge e a b ≡ false) × (holds es a b ≡ false)
unfolding holds
absent_parts e es a b h = (
  fails_of (is_edge e a b) (λ t. true≢false (sym (or_left (is_edge e a b) (holds es a b) t) ∙ h)),
  fails_of (holds es a b) (λ t. true≢false (sym (holds_later e es a b t) ∙ h)),
)

-- edges that ascend after d ascend after it with one more that is after d
with_after
    : (d e : Edge) (ds : List Edge) → Before d e → Ascending (d ∷ ds) → holds ds e.from e.to ≡ false → Ascending (d ∷ with_edge e ds)
with_after d e [] next up absent = rw (with_none e) (next_edge next one_edge)
with_after d e (f ∷ fs) next (next_edge first more) absent =
    let parts = absent_parts f fs e.from e.to absent in
    ⊎_elim
    (λ (t : is_before e f ≡ true). rw (with_here e f fs t) (next_edge next (next_edge (before_true e f t) more)))
    (λ (t : is_before e f ≡ false).
    rw (with_later e f fs t) (next_edge first (with_after f e fs (before_else e f t parts.0) more parts.1)))
    (passes_or_fails (is_before e f))

-- edges with one more ascend again
pub with_ascends : (e : Edge) (es : List Edge) → Ascending es → holds es e.from e.to ≡ false → Ascending (with_edge e es)
with_ascends e [] up absent = rw (with_none e) one_edge
with_ascends e (d ∷ ds) up absent =
    let parts = absent_parts d ds e.from e.to absent in
    ⊎_elim
    (λ (t : is_before e d ≡ true). rw (with_here e d ds t) (next_edge (before_true e d t) up))
    (λ (t : is_before e d ≡ false).
    rw (with_later e d ds t) (with_after d e ds (before_else e d t parts.0) up parts.1))
    (passes_or_fails (is_before e d))

-- of three tests the second may stand first
or_swap : (a b c : Bool) → (a || (b || c)) ≡ (b || (a || c))
or_swap true true c = refl
or_swap true false c = refl
or_swap false b c = refl

-- they hold that edge and what the old ones hold
pub with_holds : (e : Edge) (es : List Edge) (c d : ℕ) → holds (with_edge e es) c d ≡ (is_edge e c d || holds es c d)
unfolding holds
with_holds e [] c d = ap (λ (r : List Edge). holds r c d) (with_none e)
with_holds e (f ∷ fs) c d =
    ⊎_elim
    (λ (t : is_before e f ≡ true). ap (λ (r : List Edge). holds r c d) (with_here e f fs t))
    (λ (t : is_before e f ≡ false).
    ap (λ (r : List Edge). holds r c d) (with_later e f fs t)
    ∙ ap (λ (r : Bool). is_edge f c d || r) (with_holds e fs c d)
    ∙ or_swap (is_edge f c d) (is_edge e c d) (holds fs c d))
    (passes_or_fails (is_before e f))

-- there is one more of them
pub with_counts : (e : Edge) (es : List Edge) → length (with_edge e es) ≡ length es + 1
with_counts e [] = ap length (with_none e)
with_counts e (d ∷ ds) =
    ⊎_elim
    (λ (t : is_before e d ≡ true). omega (arith, ap length (with_here e d ds t)))
    (λ (t : is_before e d ≡ false). omega (arith, ap length (with_later e d ds t), with_counts e ds))
    (passes_or_fails (is_before e d))

-- ---- an edge less

-- another edge stays
pub without_other_edge
    : (e d : Edge) (ds : List Edge) → is_edge d e.from e.to ≡ false → without_edge e (d ∷ ds) ≡ d ∷ without_edge e ds
unfolding without_edge
without_other_edge e d ds h = ap (λ (t : Bool). cons_if (not t) d (without_edge e ds)) h

-- that edge goes
pub without_same : (e d : Edge) (ds : List Edge) → is_edge d e.from e.to ≡ true → without_edge e (d ∷ ds) ≡ without_edge e ds
unfolding without_edge
without_same e d ds h = ap (λ (t : Bool). cons_if (not t) d (without_edge e ds)) h

-- of none there are none
pub without_none : (e : Edge) → without_edge e [] ≡ []
unfolding without_edge
without_none e = refl

-- edges that ascend after d do so without the first of them
skip_next : {d e : Edge} {es : List Edge} → Ascending (d ∷ e ∷ es) → Ascending (d ∷ es)
skip_next (next_edge first one_edge) = one_edge
skip_next {d} {e} (next_edge first (next_edge {e = f} next more)) = next_edge (Before-trans d e f first next) more

-- edges that ascend after d do so with one less
without_after : (e d : Edge) (ds : List Edge) → Ascending (d ∷ ds) → Ascending (d ∷ without_edge e ds)
without_after e d [] up = rw (without_none e) up
without_after e d (f ∷ fs) (next_edge first more) =
    ⊎_elim
    (λ (t : is_edge f e.from e.to ≡ true). rw (without_same e f fs t) (without_after e d fs (skip_next (next_edge first more))))
    (λ (t : is_edge f e.from e.to ≡ false). rw (without_other_edge e f fs t) (next_edge first (without_after e f fs more)))
    (passes_or_fails (is_edge f e.from e.to))

-- edges with one less ascend
pub without_ascends : (e : Edge) (es : List Edge) → Ascending es → Ascending (without_edge e es)
without_ascends e [] up = rw (without_none e) no_edge
without_ascends e (d ∷ ds) up =
    ⊎_elim
    (λ (t : is_edge d e.from e.to ≡ true). rw (without_same e d ds t) (without_ascends e ds (rest_ascends up)))
    (λ (t : is_edge d e.from e.to ≡ false). rw (without_other_edge e d ds t) (without_after e d ds up))
    (passes_or_fails (is_edge d e.from e.to))

-- a test that fails takes itself out of a choice
not_or : (a b : Bool) → (not a && b) ≡ (not a && (a || b))
not_or true b = refl
not_or false b = refl

-- a test that passes only where another fails may stand before it
or_not : (a b c : Bool) → (a ≡ true → b ≡ false) → (a || (not b && c)) ≡ (not b && (a || c))
or_not true b c h = rw (h refl)
or_not false b c h = refl

-- they hold what the old ones hold but that edge
pub without_holds : (e : Edge) (es : List Edge) (c d : ℕ) → holds (without_edge e es) c d ≡ (not (is_edge e c d) && holds es c d)
unfolding holds
without_holds e [] c d = ap (λ (r : List Edge). holds r c d) (without_none e) ∙ sym (and-false (not (is_edge e c d)))
without_holds e (f ∷ fs) c d =
    ⊎_elim
    (λ (t : is_edge f e.from e.to ≡ true).
    let same : f ≡ e = is_edge_true f e.from e.to t in
    ap (λ (r : List Edge). holds r c d) (without_same e f fs t)
    ∙ without_holds e fs c d
    ∙ not_or (is_edge e c d) (holds fs c d)
    ∙ ap (λ (g : Edge). not (is_edge e c d) && (is_edge g c d || holds fs c d)) (sym same))
    (λ (t : is_edge f e.from e.to ≡ false).
    ap (λ (r : List Edge). holds r c d) (without_other_edge e f fs t)
    ∙ ap (λ (r : Bool). is_edge f c d || r) (without_holds e fs c d)
    ∙ or_not (is_edge f c d) (is_edge e c d) (holds fs c d) (λ q. apart q t))
    (passes_or_fails (is_edge f e.from e.to))
  where
    apart : is_edge f c d ≡ true → is_edge f e.from e.to ≡ false → is_edge e c d ≡ false
    apart q t =
        fails_of (is_edge e c d)
        (λ r.
        let same : f ≡ e = is_edge_true f c d q ∙ sym (is_edge_true e c d r) in
        true≢false (sym (is_edge_same e) ∙ (rw same at t)))

-- without an edge that is not there they are the same
pub without_absent : (e : Edge) (es : List Edge) → holds es e.from e.to ≡ false → without_edge e es ≡ es
without_absent e [] h = without_none e
without_absent e (d ∷ ds) h =
    let parts = absent_parts d ds e.from e.to h in
    without_other_edge e d ds parts.0 ∙ ap (λ (r : List Edge). d ∷ r) (without_absent e ds parts.1)

-- there is one less of them
pub without_counts
    : (e : Edge) (es : List Edge) → Ascending es → holds es e.from e.to ≡ true → length (without_edge e es) + 1 ≡ length es
unfolding holds
without_counts e [] up h = absurd (true≢false (sym h))
without_counts e (d ∷ ds) up h =
    ⊎_elim
    (λ (t : is_edge d e.from e.to ≡ true).
    let same : d ≡ e = is_edge_true d e.from e.to t in
    let once : holds ds e.from e.to ≡ false = rw same at (first_once up) in
    omega (arith, ap length (without_same e d ds t), ap length (without_absent e ds once)))
    (λ (t : is_edge d e.from e.to ≡ false).
    let more : holds ds e.from e.to ≡ true = ap (λ (r : Bool). r || holds ds e.from e.to) (sym t) ∙ h in
    omega (arith, ap length (without_other_edge e d ds t), without_counts e ds (rest_ascends up) more))
    (passes_or_fails (is_edge d e.from e.to))

-- ---- no other edges

-- an edge that ascending edges hold is not before their first
held_not_before : {e : Edge} {es : List Edge} → Ascending (e ∷ es) → (d : Edge) → holds (e ∷ es) d.from d.to ≡ true → is_before d e ≡ false
unfolding holds
held_not_before {e} {es} up d h =
    fails_of (is_before d e)
    (λ t.
    ⊎_elim
    (λ (q : is_edge e d.from d.to ≡ true).
    let same : e ≡ d = is_edge_true e d.from d.to q in
    Before-irreflexive d (rw same at (before_true d e t)))
    (λ (q : holds es d.from d.to ≡ true). Before-asymmetric d e (before_true d e t) (held_after up d.from d.to q))
    (or_passes (is_edge e d.from d.to) (holds es d.from d.to) h))

-- what the others of two lists with one first edge hold
rest_holds
    : (e : Edge) (ds es : List Edge) → Ascending (e ∷ ds) → ((a b : ℕ) → holds (e ∷ ds) a b ≡ holds (e ∷ es) a b) → (a b : ℕ)
    → holds ds a b ≡ true → holds es a b ≡ true
unfolding holds
rest_holds e ds es up same a b h =
    ⊎_elim
    (λ (q : is_edge e a b ≡ true).
    let it : e ≡ edge a b = is_edge_true e a b q in
    absurd (Before-irreflexive (edge a b) (rw it at (held_after up a b h))))
    (λ (q : holds es a b ≡ true). q)
    (or_passes (is_edge e a b) (holds es a b) (sym (same a b) ∙ holds_later e ds a b h))

-- ascending edges that hold the same are the same
pub no_other : (ds es : List Edge) → Ascending ds → Ascending es → ((a b : ℕ) → holds ds a b ≡ holds es a b) → ds ≡ es
unfolding holds
no_other [] [] up up' same = refl
no_other [] (e ∷ es) up up' same = absurd (true≢false (sym (holds_first e es e.from e.to refl refl) ∙ sym (same e.from e.to)))
no_other (d ∷ ds) [] up up' same = absurd (true≢false (sym (holds_first d ds d.from d.to refl refl) ∙ same d.from d.to))
no_other (d ∷ ds) (e ∷ es) up up' same =
    let first : d ≡ e =
    before_total d e (held_not_before up' d (sym (same d.from d.to) ∙ holds_first d ds d.from d.to refl refl))
    (held_not_before up e (same e.from e.to ∙ holds_first e es e.from e.to refl refl)) in
    let up'' : Ascending (e ∷ ds) = rw first at up in
    let same'' : (a b : ℕ) → holds (e ∷ ds) a b ≡ holds (e ∷ es) a b = λ a b. ap (λ (f : Edge). holds (f ∷ ds) a b) (sym first) ∙ same a b in
    let rest : ds ≡ es =
    no_other ds es (rest_ascends up) (rest_ascends up')
    (λ a b.
    test_ext (holds ds a b) (holds es a b) (rest_holds e ds es up'' same'' a b)
    (rest_holds e es ds up' (λ c x. sym (same'' c x)) a b)) in
    cc (first, rest)

-- edges with one more or less are what is said
pub edges_say : EdgesSay
edges_say =
    record {
      with_ascends = λ a b. with_ascends (edge a b);
      with_holds = λ a b. with_holds (edge a b);
      with_counts = λ a b. with_counts (edge a b);
      without_ascends = λ a b. without_ascends (edge a b);
      without_holds = λ a b. without_holds (edge a b);
      without_counts = λ a b. without_counts (edge a b);
      no_other = no_other;
    }

-- ---- an edge more, then less

-- what edges hold at one edge they hold at it under another name
holds_same : (e : Edge) (es : List Edge) (t : Bool) → holds es e.from e.to ≡ t → (c d : ℕ) → is_edge e c d ≡ true → holds es c d ≡ t
holds_same e es t h c d q = ap (λ (f : Edge). holds es f.from f.to) (sym (is_edge_true e c d q)) ∙ h

-- a test put to a choice and taken from it
put_taken : (a b : Bool) → (a ≡ true → b ≡ false) → (not a && (a || b)) ≡ b
put_taken true b h = sym (h refl)
put_taken false b h = refl

-- a test taken from a choice and put to it
taken_put : (a b : Bool) → (a ≡ true → b ≡ true) → (a || (not a && b)) ≡ b
taken_put true b h = sym (h refl)
taken_put false b h = refl

-- an edge more and then less is nothing
pub with_without : (e : Edge) (es : List Edge) → Ascending es → holds es e.from e.to ≡ false → without_edge e (with_edge e es) ≡ es
with_without e es up h =
    no_other (without_edge e (with_edge e es)) es (without_ascends e (with_edge e es) (with_ascends e es up h)) up
    (λ c d.
    without_holds e (with_edge e es) c d
    ∙ ap (λ (t : Bool). not (is_edge e c d) && t) (with_holds e es c d)
    ∙ put_taken (is_edge e c d) (holds es c d) (holds_same e es false h c d))

-- that edge is not there then
pub without_gone : (e : Edge) (es : List Edge) → holds (without_edge e es) e.from e.to ≡ false
without_gone e es =
    without_holds e es e.from e.to ∙ ap (λ (t : Bool). not t && holds es e.from e.to) (is_edge_same e)

-- an edge less and then more is nothing
pub without_with : (e : Edge) (es : List Edge) → Ascending es → holds es e.from e.to ≡ true → with_edge e (without_edge e es) ≡ es
without_with e es up h =
    no_other (with_edge e (without_edge e es)) es (with_ascends e (without_edge e es) (without_ascends e es up) (without_gone e es)) up
    (λ c d.
    with_holds e (without_edge e es) c d
    ∙ ap (λ (t : Bool). is_edge e c d || t) (without_holds e es c d)
    ∙ taken_put (is_edge e c d) (holds es c d) (holds_same e es true h c d))

-- ---- the predecessors of other nodes

-- edges of which the first is the same add the same to the predecessors
kept : (d : Edge) (ds es : List Edge) (m : ℕ) → predecessors_of ds m ≡ predecessors_of es m → predecessors_of (d ∷ ds) m ≡ predecessors_of (d ∷ es) m
unfolding predecessors_of
kept d ds es m h = ap (cons_if (eqb d.to m) d.from) h

-- an edge more changes those of no node but its end
pub with_other : (e : Edge) (es : List Edge) (m : ℕ) → m ≢ e.to → predecessors_of (with_edge e es) m ≡ predecessors_of es m
with_other e [] m other = ap (λ (r : List Edge). predecessors_of r m) (with_none e) ∙ predecessors_cons_other e [] m (λ q. other (sym q))
with_other e (d ∷ ds) m other =
    ⊎_elim
    (λ (t : is_before e d ≡ true). ap (λ (r : List Edge). predecessors_of r m) (with_here e d ds t) ∙ predecessors_cons_other e (d ∷ ds) m (λ q. other (sym q)))
    (λ (t : is_before e d ≡ false).
    ap (λ (r : List Edge). predecessors_of r m) (with_later e d ds t) ∙ kept d (with_edge e ds) ds m (with_other e ds m other))
    (passes_or_fails (is_before e d))

-- nor does an edge less
pub without_other : (e : Edge) (es : List Edge) (m : ℕ) → m ≢ e.to → predecessors_of (without_edge e es) m ≡ predecessors_of es m
without_other e [] m other = ap (λ (r : List Edge). predecessors_of r m) (without_none e)
without_other e (d ∷ ds) m other =
    ⊎_elim
    (λ (t : is_edge d e.from e.to ≡ true).
    let same : d ≡ e = is_edge_true d e.from e.to t in
    ap (λ (r : List Edge). predecessors_of r m) (without_same e d ds t)
    ∙ without_other e ds m other
    ∙ sym (predecessors_cons_other d ds m (λ q. other (sym q ∙ ap (λ (f : Edge). f.to) same))))
    (λ (t : is_edge d e.from e.to ≡ false).
    ap (λ (r : List Edge). predecessors_of r m) (without_other_edge e d ds t)
    ∙ kept d (without_edge e ds) ds m (without_other e ds m other))
    (passes_or_fails (is_edge d e.from e.to))
