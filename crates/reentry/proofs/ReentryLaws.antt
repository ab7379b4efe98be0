-- Laws of sixteen rows joined at the nodes that pass a test, and of the rows of some nodes gathered.
-- Assumes nothing.
use mathlib.Core.Path.{◌≡◌, sym, subst, ◌∙◌}
use mathlib.Core.Logic.{inl, inr, ⊎_elim, by_cases}
use mathlib.Core.Bool.{Bool, true, false, true≢false}
use mathlib.Core.List.{List}
use Prim.Native.Nat.{ℕ, ◌+◌, ◌≤◌, ◌<◌}
use native.Mathlib.Decide.{ℕ_discrete}
use native.Mathlib.Omega.{arith}
use Rattle.job.specs.Job.{is_reentrant}
use Rattle.buffer.specs.Views.{node_in, pair_row_in, Held}
use Rattle.tables.specs.Sixteen.{InRows, Sixteen, RowJoined}
use Rattle.tables.proofs.KeptLaws.{grown_none, grown_both}
use Rattle.tables.proofs.SixteenLaws.{empty_rows, empty_none}
use Rattle.successors.specs.Joined.{RowsJoined}
use Rattle.relation.specs.Union.{Union, Below}
use Rattle.relation.proofs.UnionLaws.{AtRow, union_row, union_none, union_as, union_start, union_more, union_rows, union_end}
use Rattle.reentry.specs.Reentry.{JoinedIf, JoinedWhere, EnteringAt, EnteringRows}

-- ---- joined at one node

-- it does not pass
pub if_not : {passes : Bool} {l : List ℕ} {n : ℕ} {rows : List ℕ} → passes ≡ false → JoinedIf passes l l n rows
if_not {l = l} no_pass = record {
  grown = grown_none l;
  here = λ e. absurd (true≢false (sym e ∙ no_pass));
  new = λ k p q a b h. inl h;
}

-- it does
pub if_so : {passes : Bool} {l m : List ℕ} {n : ℕ} {rows : List ℕ} → passes ≡ true → RowsJoined l m n rows → JoinedIf passes l m n rows
if_so {l = l} {n = n} {rows = rows} pass j = record {
  grown = j.grown;
  here = λ e. j.here;
  new = λ k p q a b h.
      ⊎_elim (λ (x : Held l k p q). inl x) (λ (x : (k ≡ n) × InRows rows p q). inr (x.0, pass, x.1)) (j.new k p q a b h);
}

-- ---- joined at all nodes

-- at the nodes below n that pass
pub record JoiningWhere (test : ℕ → Bool) (l m : List ℕ) (nodes : ℕ) (rows : List ℕ) (n : ℕ) : Type 0 where
  pub within : n ≤ nodes
  pub joined : JoinedWhere test l m n rows

-- none yet
pub where_start : (test : ℕ → Bool) (l : List ℕ) (nodes : ℕ) (rows : List ℕ) → JoiningWhere test l l nodes rows 0
where_start test l nodes rows = record {
  within = omega arith;
  joined = record {
    grown = grown_none l;
    here = λ n p q a. absurd (omega arith);
    new = λ k p q a b h. inl h;
  };
}

-- a node more
pub where_more
    : {test : ℕ → Bool} {passes : Bool} {l m k : List ℕ} {nodes n : ℕ} {rows : List ℕ} → n < nodes → nodes ≤ 512
    → JoiningWhere test l m nodes rows n → passes ≡ test n → JoinedIf passes m k n rows → JoiningWhere test l k nodes rows (n + 1)
where_more {test} {passes} {l} {m} {k} {nodes} {n} {rows} less few inv same j = record {
  within = omega arith;
  joined = record {
    grown = grown_both inv.joined.grown j.grown;
    here = λ a p q b t h x.
        by_cases (ℕ_discrete a n)
        (λ (e : a ≡ n).
        subst (λ (z : ℕ). Held k z p q) (sym e) (j.here (same ∙ subst (λ (z : ℕ). test z ≡ true) e t) p q h x))
        (λ (ne : a ≡ n → ⊥). j.grown.held a p q (omega arith) h (inv.joined.here a p q (omega arith) t h x));
    new = λ a p q b h x.
        ⊎_elim
        (λ (y : Held m a p q).
        ⊎_elim
        (λ (z : Held l a p q). inl z)
        (λ (z : (a < n) × (test a ≡ true) × InRows rows p q). inr (omega (arith, z.0), z.1, z.2))
        (inv.joined.new a p q b h y))
        (λ (y : (a ≡ n) × (passes ≡ true) × InRows rows p q).
        inr (omega (arith, y.0), subst (λ (z : ℕ). test z ≡ true) (sym y.0) (sym same ∙ y.1), y.2))
        (j.new a p q b h x);
  };
}

-- all of them
pub where_end
    : {test : ℕ → Bool} {l m : List ℕ} {nodes n : ℕ} {rows : List ℕ} → JoiningWhere test l m nodes rows n → nodes ≤ n
    → JoinedWhere test l m nodes rows
where_end {test} {l} {m} {rows = rows} inv all = subst (λ (z : ℕ). JoinedWhere test l m z rows) (omega (arith, inv.within)) inv.joined

-- ---- the rows of calls, gathered

-- a node that is no such call
pub entering_none
    : (work : List ℕ) (n : ℕ) (l : List ℕ) → is_reentrant (node_in work n).kind ≡ false → Union (EnteringAt work n) l l
entering_none work n l no_pass = union_none l (λ p q h x. true≢false (sym x.0 ∙ no_pass))

-- a row of one, as it was read
pub entering_row : {l m : List ℕ} {p s t count : ℕ} → s ≡ t → RowJoined l m p s count → Union (AtRow p t) l m
entering_row {l} {m} {p} e j = subst (λ (x : ℕ). Union (AtRow p x) l m) e (union_row j)

-- all rows of one
pub entering_all
    : (work : List ℕ) (n : ℕ) {l m : List ℕ} {p : ℕ} → is_reentrant (node_in work n).kind ≡ true
    → Union (Below (λ i. AtRow i (pair_row_in work n i)) p) l m → 16 ≤ p → Union (EnteringAt work n) l m
entering_all work n pass u all =
    union_as (λ p q h x. (pass, x)) (λ p q h x. x.1) (union_rows (λ i. pair_row_in work n i) u all)

-- the calls below n
pub record EnteringSoFar (work : List ℕ) (nodes : ℕ) (m : List ℕ) (n : ℕ) : Type 0 where
  pub within : n ≤ nodes
  pub sixteen : Sixteen m
  pub union : Union (Below (EnteringAt work) n) (empty_rows 16) m

-- none yet
pub entering_start : (work : List ℕ) (nodes : ℕ) → Sixteen (empty_rows 16) → EnteringSoFar work nodes (empty_rows 16) 0
entering_start work nodes sixteen = record { within = omega arith; sixteen = sixteen; union = union_start (empty_rows 16) }

-- a node more
pub entering_more
    : {work : List ℕ} {nodes : ℕ} {m k : List ℕ} {n : ℕ} → n < nodes → EnteringSoFar work nodes m n
    → Sixteen k × Union (EnteringAt work n) m k → EnteringSoFar work nodes k (n + 1)
entering_more less inv j = record { within = omega arith; sixteen = j.0; union = union_more inv.union j.1 }

-- all of them
pub entering_end : {work : List ℕ} {nodes : ℕ} {m : List ℕ} {n : ℕ} → EnteringSoFar work nodes m n → nodes ≤ n → EnteringRows work nodes m
entering_end {work} {nodes} {m} inv all p q h =
    let u = union_end inv.union inv.within all in (
      λ (x : InRows m p q).
          ⊎_elim
          (λ (old : InRows (empty_rows 16) p q). absurd (empty_none 16 p q old))
          (λ (fresh : Below (EnteringAt work) nodes p q). fresh)
          (u.new p q h x),
      λ (x : Below (EnteringAt work) nodes p q). u.here p q h x,
    )
