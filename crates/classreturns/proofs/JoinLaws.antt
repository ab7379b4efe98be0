-- Laws of pairs joined at nodes, in the shape of the code.
-- Assumes nothing.
use mathlib.Core.Path.{◌≡◌, refl, sym, ap, subst, ◌∙◌}
use mathlib.Core.Logic.{inl, inr, ⊎_elim, by_cases, ◌≢◌}
use mathlib.Core.Bool.{true, false, true≢false}
use mathlib.Core.List.{List}
use Prim.Native.Nat.{ℕ, ◌+◌, ◌≤◌, ◌<◌}
use native.Mathlib.Decide.{ℕ_discrete}
use native.Mathlib.Omega.{arith}
use lib.ListN.{get_or}
use Rattle.laws.specs.Bits.{has}
use Rattle.job.specs.Job.{is_reentrant, Node}
use Rattle.buffer.specs.Layout.{class_part, found_part, class_size, class_place}
use Rattle.buffer.specs.Views.{node_in, HeldApart}
use Rattle.buffer.specs.ClassRows.{ApartJoined}
use Rattle.buffer.proofs.KeptLaws.{kept_none, kept_both}
use Rattle.classes.specs.Backwards.{NodeJoined, AfterJoined}
use Rattle.classes.proofs.AfterLaws.{node_before}
use Rattle.classreturns.specs.Joins.{ToCall, ToExit, ToExitWithin, NodesJoined}

-- ---- joined at one node

-- nothing is joined where there is nothing to join
pub node_none
    : {I : Type 0} (New Here : I → Node → ℕ → ℕ → Type 0) (l : List ℕ) (n : ℕ) → ((i : I) (p q : ℕ) → Here i (node_in l n) p q → ⊥)
    → NodeJoined New Here l l n 0
node_none New Here l n none = record {
  kept = kept_none l (class_place n) (class_place n + class_size);
  held = λ k p q a b h. h;
  here = λ i p q a h. absurd (none i p q h);
  new = λ i k p q a b h. inl h;
  none = λ e. refl;
  left = omega arith;
}

-- sixteen rows at a call that may come back in
pub call_joined
    : {l m : List ℕ} {n grown : ℕ} {rows : List ℕ} → is_reentrant (node_in l n).kind ≡ true → ApartJoined l m n rows grown
    → NodeJoined (ToCall rows) (ToCall rows) l m n grown
call_joined {l} {m} {n} {rows = rows} e g = record {
  kept = g.kept;
  held = g.held;
  here = λ i p q a h. g.here p q a h.1;
  new = λ i k p q a b h.
      ⊎_elim
      (λ (y : HeldApart l k p q). inl y)
      (λ (y : (k ≡ n) × (has (get_or rows p 0) q ≡ true)). inr (y.0, (e, y.1)))
      (g.new k p q a b h);
  none = g.none;
  left = g.left;
}

-- none at any other node
pub call_none
    : (l : List ℕ) (n : ℕ) (rows : List ℕ) → is_reentrant (node_in l n).kind ≡ false → NodeJoined (ToCall rows) (ToCall rows) l l n 0
call_none l n rows e = node_none (ToCall rows) (ToCall rows) l n (λ i p q x. true≢false (sym x.0 ∙ e))

-- words and what follows them, at an exit
pub exit_joined
    : {table : List (List ℕ)} {finals states : ℕ} {l m : List ℕ} {n grown : ℕ} (rows : List ℕ) → (node_in l n).exit ≡ true
    → AfterJoined table finals states l m n rows grown
    → NodeJoined (ToExit table finals states rows) (ToExitWithin table finals states rows) l m n grown
exit_joined rows e g = record {
  kept = g.kept;
  held = g.held;
  here = λ i p q a h. g.here i p q a h.1;
  new = λ i k p q a b h. ⊎_elim inl (λ y. inr (y.0, (e, y.1))) (g.new i k p q a b h);
  none = g.none;
  left = g.left;
}

-- none at any other node
pub exit_none
    : (table : List (List ℕ)) (finals states : ℕ) (l : List ℕ) (n : ℕ) (rows : List ℕ) → (node_in l n).exit ≡ false
    → NodeJoined (ToExit table finals states rows) (ToExitWithin table finals states rows) l l n 0
exit_none table finals states l n rows e =
    node_none (ToExit table finals states rows) (ToExitWithin table finals states rows) l n (λ i p q x. true≢false (sym x.0 ∙ e))

-- ---- joined at all nodes

-- at none yet
pub nodes_none : {I : Type 0} (New Here : I → Node → ℕ → ℕ → Type 0) (l : List ℕ) → NodesJoined New Here l l 0 0
nodes_none New Here l = record {
  kept = kept_none l class_part found_part;
  held = λ k p q a b h. h;
  here = λ i k p q a. absurd (omega arith);
  new = λ i k p q a b h. inl h;
  none = λ e. refl;
  left = omega arith;
}

-- one more
pub nodes_more
    : {I : Type 0} (New Here : I → Node → ℕ → ℕ → Type 0) {l m k : List ℕ} {n grown more : ℕ} → n < 512 → NodesJoined New Here l m n grown
    → NodeJoined New Here m k n more → NodesJoined New Here l k (n + 1) (grown + more)
nodes_more New Here {l} {m} {k} {n} small s g = record {
  kept = kept_both l m k class_part found_part (class_place n) (class_place n + class_size) s.kept g.kept (omega arith) (omega arith);
  held = λ x p q a b h. g.held x p q a b (s.held x p q a b h);
  here = λ i x p q a b h.
      by_cases (ℕ_discrete x n)
      (λ (e : x ≡ n).
      subst (λ (y : ℕ). HeldApart k y p q) (sym e)
      (g.here i p q b (subst (λ (y : Node). Here i y p q) (ap (node_in l) e ∙ sym same) h)))
      (λ (ne : x ≢ n). g.held x p q (omega arith) b (s.here i x p q (omega arith) b h));
  new = λ i x p q a b h.
      ⊎_elim
      (λ (y : HeldApart m x p q). s.new i x p q a b y)
      (λ (y : (x ≡ n) × New i (node_in m n) p q). inr (subst (λ (z : Node). New i z p q) (same ∙ ap (node_in l) (sym y.0)) y.1))
      (g.new i x p q a b h);
  none = λ e. g.none (omega arith) ∙ s.none (omega arith);
  left = omega (arith, s.left, g.left);
}
  where
    same : node_in m n ≡ node_in l n
    same = node_before l m s.kept n small

-- at all
pub nodes_end
    : {I : Type 0} (New Here : I → Node → ℕ → ℕ → Type 0) {l m : List ℕ} (n nodes : ℕ) {grown : ℕ} → nodes ≤ n → NodesJoined New Here l m n grown
    → NodesJoined New Here l m nodes grown
nodes_end New Here n nodes all s = record {
  kept = s.kept;
  held = s.held;
  here = λ i k p q a b h. s.here i k p q (omega arith) b h;
  new = s.new;
  none = s.none;
  left = s.left;
}
