-- Laws of the rows past a node, and of what the words after exits lead to.
-- Assumes nothing.
use mathlib.Core.Path.{◌≡◌, refl, sym, ap, subst, ◌∙◌}
use mathlib.Core.Logic.{inl, inr, ⊎_elim, by_cases}
use mathlib.Core.Bool.{Bool, true, false, cond, true≢false}
use mathlib.Core.List.{List}
use Prim.Native.Nat.{ℕ, ◌+◌, ◌%◌, ◌^◌, ◌≤◌, ◌<◌}
use native.Mathlib.Nat.{mod-eq_of_lt}
use native.Mathlib.Decide.{ℕ_discrete}
use native.Mathlib.Omega.{arith}
use lib.Bits.{bit_or, or_comm}
use Rattle.laws.specs.Bits.{has}
use Rattle.automaton.specs.Automaton.{Automaton}
use Rattle.job.proofs.KindLaws.{event_small}
use Rattle.job.proofs.Nodes.{spelt_map}
use Rattle.job.specs.Job.{point, point_of, is_event, Job, Node, node_at}
use Rattle.job.specs.Plan.{enables}
use Rattle.job.specs.Words.{Spelt, no_word, one_more}
use Rattle.buffer.proofs.NumberTableLaws.{or_above}
use Rattle.buffer.specs.Views.{node_in, pair_row_in, enabled_in, Held}
use Rattle.tables.specs.Held.{JobHeld, PlanHeld}
use Rattle.tables.specs.Rows.{CellsBelow}
use Rattle.tables.specs.Sixteen.{InRows, Sixteen, RowJoined}
use Rattle.tables.proofs.RowLaws.{has_nothing}
use Rattle.tables.proofs.SixteenLaws.{empty_rows, empty_none}
use Rattle.moves.specs.declared.Past.{Past}
use Rattle.moves.specs.Past.{past_row}
use Rattle.look.proofs.PastLaws.{PastSays, past_says, past_state_lem, past_small, plan_enabled}
use Rattle.relation.specs.Union.{Union, Below}
use Rattle.relation.proofs.UnionLaws.{union_none, union_as, union_start, union_more, union_end}
use Rattle.spelling.specs.Spelling.{PairsOf, Closed}
use Rattle.exitrows.specs.Ended.{PastRow, PastHeld, EndedAt, PastJoined, PastGathered, EndedJoined, ExitRows}

-- ---- one row past a node

-- an empty row has no pair
pub past_empty
    : {table : List (List ℕ)} {finals : ℕ} {work l : List ℕ} {n p s : ℕ} → Sixteen l → s ≡ pair_row_in work n p → s ≡ 0
    → PastJoined table finals work l l n p 0
past_empty {work = work} {l = l} {n = n} {p = p} sixteen is none = record {
  sixteen = sixteen;
  none = λ e. no_pair;
  exact = λ j plan states nodes held planned inside. union_none l (λ r t h x. no_pair x.other x.from);
}
  where
    no_pair : (q : ℕ) → Held work n p q → ⊥
    no_pair q h = has_nothing q (sym is ∙ none) h

-- what the code has read of a node, and the row past it
pub record RowPast (table : List (List ℕ)) (finals : ℕ) (work : List ℕ) (n p s : ℕ) (past : Past) : Type 0 where
  pub cells : CellsBelow table
  pub row : p < 16
  pub short : s < 2 ^ 16
  pub some : 0 < s
  pub row_is : s ≡ pair_row_in work n p
  pub event_is : Bool
  pub symbol : ℕ
  pub enabled : Bool
  pub event_says : event_is ≡ is_event (node_in work n).kind
  pub symbol_small : symbol < 16
  pub symbol_says : (a : ℕ) → point_of (node_in work n).kind ≡ point a → symbol ≡ a % 16
  pub enabled_says : enabled ≡ enabled_in work n
  pub past_is : past ≡ past_row table finals event_is symbol enabled p s

module _ {table : List (List ℕ)} {finals : ℕ} {work : List ℕ} {n p s : ℕ} {past : Past} (r : RowPast table finals work n p s past) where
  -- the state past the node is below 16
  pub past_below : past.state < 16
  past_below =
      subst (λ (x : Past). x.state < 16) (sym r.past_is)
      (past_state_lem table finals r.symbol p s r.cells r.row r.symbol_small r.event_is r.enabled)

  -- what the row past the node says, for a job and a plan that are held
  says
      : {j : Job} {states nodes : ℕ} → JobHeld j work table finals states nodes → (plan : List ℕ) → PlanHeld plan work nodes → n < nodes
      → PastSays j.rule (enables plan) n (point_of (node_at j n).kind) p s past
  says {j} {nodes = nodes} held plan planned inside =
      let kind : (node_in work n).kind ≡ (node_at j n).kind = ap (λ (x : Node). x.kind) (held.node n inside) in
      let on : r.enabled ≡ enables plan n = r.enabled_says ∙ plan_enabled plan work nodes n planned inside in
      let is : r.event_is ≡ is_event (node_at j n).kind = r.event_says ∙ ap is_event kind in
      subst (λ (x : Past). PastSays j.rule (enables plan) n (point_of (node_at j n).kind) p s x)
      (sym
      (r.past_is ∙ ap (λ (b : Bool). past_row table finals b r.symbol r.enabled p s) is
      ∙ ap (λ (b : Bool). past_row table finals (is_event (node_at j n).kind) r.symbol b p s) on))
      (past_says table finals j.rule (enables plan) n r.symbol p s r.cells held.cells held.finals_are r.row
      r.symbol_small r.short r.some (point_of (node_at j n).kind)
      (λ b k. r.symbol_says b (ap point_of kind ∙ k) ∙ mod-eq_of_lt (event_small n held.formed k)))

  -- the row is joined
  pub past_joined
      : {l m : List ℕ} {count : ℕ} → RowJoined l m past.state past.set count → PastJoined table finals work l m n p s
  past_joined {l} {m} joined = record {
    sixteen = joined.sixteen;
    none = λ e. absurd (omega (arith, r.some));
    exact = λ j plan states nodes held planned inside.
        let y = says held plan planned inside in
        record {
          held = joined.held;
          here = λ k t h x.
              subst (λ (z : ℕ). InRows m z t) (y.one ∙ sym x.one_is)
              (joined.here t
              (subst (λ (z : ℕ). has past.set z ≡ true) (sym x.other_is)
              (y.here x.other (subst (λ (z : ℕ). has z x.other ≡ true) (sym r.row_is) x.from))));
          new = λ k t h x.
              ⊎_elim
              (λ (old : InRows l k t). inl old)
              (λ (fresh : (k ≡ past.state) × (has past.set t ≡ true)).
              let f = y.from t fresh.1 in
              inr
              (record {
                other = f.0;
                from = subst (λ (z : ℕ). has z f.0 ≡ true) r.row_is f.1;
                one_is = fresh.0 ∙ y.one;
                other_is = f.2;
              }))
              (joined.new k t h x);
        };
  }

-- ---- all rows past a node

-- a union is 0 where both sets are
pub or_zero : (a b : ℕ) → bit_or a b ≡ 0 → (a ≡ 0) × (b ≡ 0)
or_zero a b e = (omega (arith, or_above a b), omega (arith, or_above b a, or_comm a b))

-- the rows below p are joined
pub record PastSoFar (table : List (List ℕ)) (finals : ℕ) (work l m : List ℕ) (n any p : ℕ) : Type 0 where
  pub within : p ≤ 16
  pub sixteen : Sixteen m
  pub none : any ≡ 0 → (r q : ℕ) → r < p → Held work n r q → ⊥
  pub exact
      : (j : Job) (plan : List ℕ) (states nodes : ℕ) → JobHeld j work table finals states nodes → PlanHeld plan work nodes → n < nodes
      → Union (Below (PastRow j (enables plan) work n) p) l m

-- none yet
pub past_start : {table : List (List ℕ)} {finals : ℕ} (work l : List ℕ) (n : ℕ) → Sixteen l → PastSoFar table finals work l l n 0 0
past_start work l n sixteen = record {
  within = omega arith;
  sixteen = sixteen;
  none = λ e r q h. absurd (omega arith);
  exact = λ j plan states nodes held planned inside. union_start l;
}

-- a row more
pub Past-more
    : {table : List (List ℕ)} {finals : ℕ} {work l m k : List ℕ} {n any p s : ℕ} → p < 16 → PastSoFar table finals work l m n any p
    → PastJoined table finals work m k n p s → PastSoFar table finals work l k n (bit_or any s) (p + 1)
Past-more {work = work} {n = n} {any = any} {p = p} {s = s} less inv joined = record {
  within = omega arith;
  sixteen = joined.sixteen;
  none = λ e r q h x.
      let both = or_zero any s e in
      by_cases (ℕ_discrete r p)
      (λ (here : r ≡ p). joined.none both.1 q (subst (λ (z : ℕ). Held work n z q) here x))
      (λ (there : r ≡ p → ⊥). inv.none both.0 r q (omega arith) x);
  exact = λ j plan states nodes held planned inside.
      union_more (inv.exact j plan states nodes held planned inside) (joined.exact j plan states nodes held planned inside);
}

-- all of them
pub past_end
    : {table : List (List ℕ)} {finals : ℕ} {work l m : List ℕ} {n any p : ℕ} → PastSoFar table finals work l m n any p → 16 ≤ p
    → PastGathered table finals work l m n any
past_end inv all = record {
  sixteen = inv.sixteen;
  none = λ e r q h x. inv.none e r q (omega arith) x;
  exact = λ j plan states nodes held planned inside. union_end (inv.exact j plan states nodes held planned inside) inv.within all;
}

-- ---- the words after an exit

-- a word starts at some pair
pub spelt_start
    : {rule : Automaton} {set : ℕ} {P : ℕ → ℕ → Type 0} {p q : ℕ} → Spelt rule set P p q
    → (x : ℕ) × (y : ℕ) × P x y × Spelt rule set (λ k l. (k ≡ x) × (l ≡ y)) p q
spelt_start (no_word {p = p} {q = q} h) = (p, q, h, no_word (refl, refl))
spelt_start (one_more a m w) = let f = spelt_start w in (f.0, f.1, f.2, one_more a m f.3)

-- a node that is no exit
pub ended_none
    : {table : List (List ℕ)} {finals : ℕ} {work l : List ℕ} {n : ℕ} → Sixteen l → (node_in work n).exit ≡ false
    → EndedJoined table finals work l l n
ended_none {work = work} {l = l} {n = n} sixteen none = record {
  sixteen = sixteen;
  exact = λ j plan states nodes held planned inside.
      union_none l
      (λ r t h x. true≢false (sym x.exit ∙ ap (λ (y : Node). y.exit) (sym (held.node n inside)) ∙ none));
}

-- an exit without a pair
pub ended_empty
    : {table : List (List ℕ)} {finals : ℕ} {work l m k : List ℕ} {n any : ℕ} → Sixteen l → PastGathered table finals work m k n any
    → any ≡ 0 → EndedJoined table finals work l l n
ended_empty {l = l} sixteen past none = record {
  sixteen = sixteen;
  exact = λ j plan states nodes held planned inside.
      union_none l
      (λ r t h x.
      let f = (spelt_start x.word).2 in
      past.none none f.index f.holds.other f.below f.holds.from);
}

-- an exit with pairs
module _ {table : List (List ℕ)} {finals : ℕ} {work l m e c : List ℕ} {n any set : ℕ} (cells : CellsBelow table)
    (exits : (node_in work n).exit ≡ true) (past : PastGathered table finals work (empty_rows 16) e n any)
    (set_is : set ≡ cond (node_in work n).exit (node_in work n).after 0) (closed : Closed table e c set) (joined : Union (InRows c) l m) where
  module _ {j : Job} {states nodes : ℕ} (held : JobHeld j work table finals states nodes) (plan : List ℕ) (planned : PlanHeld plan work nodes)
      (inside : n < nodes) where
    -- the set is that of the exit
    after_is : set ≡ (node_at j n).after
    after_is =
        set_is ∙ ap (λ (b : Bool). cond b (node_in work n).after 0) exits ∙ ap (λ (x : Node). x.after) (held.node n inside)

    -- a pair of the rows before the words is past the node
    pair_past : (x y : ℕ) → PairsOf e x y → PastHeld j (enables plan) work n x y
    pair_past x y h =
        ⊎_elim
        (λ (old : InRows (empty_rows 16) x y). absurd (empty_none 16 x y old))
        (λ (fresh : PastHeld j (enables plan) work n x y). fresh)
        ((past.exact j plan states nodes held planned inside).new x y h.0 h.1)

    -- and the other way round
    past_pair : (x y : ℕ) → PastHeld j (enables plan) work n x y → PairsOf e x y
    past_pair x y h =
        let small : x < 16 = subst (λ (z : ℕ). z < 16) (sym h.holds.one_is) (past_small cells held n h.index h.below) in
        (small, (past.exact j plan states nodes held planned inside).here x y small h)

    -- what the rows hold after the words is what they lead to
    ended_at : (p q : ℕ) → p < 16 → InRows c p q → EndedAt j (enables plan) work n p q
    ended_at p q h x = record {
      exit = sym (ap (λ (y : Node). y.exit) (held.node n inside)) ∙ exits;
      word = subst (λ (z : ℕ). Spelt j.rule z (PastHeld j (enables plan) work n) p q) after_is
          (spelt_map pair_past (closed.sound j.rule held.cells p q h x));
    }

    -- and the other way round
    at_ended : (p q : ℕ) → p < 16 → EndedAt j (enables plan) work n p q → InRows c p q
    at_ended p q h x =
        (closed.whole j.rule held.cells p q
        (spelt_map past_pair (subst (λ (z : ℕ). Spelt j.rule z (PastHeld j (enables plan) work n) p q) (sym after_is) x.word))).1

  -- its words are joined
  pub ended_joined : Sixteen m → EndedJoined table finals work l m n
  ended_joined sixteen = record {
    sixteen = sixteen;
    exact = λ j plan states nodes held planned inside.
        union_as (ended_at held plan planned inside) (at_ended held plan planned inside) joined;
  }

-- ---- all exits

-- the exits below n are joined
pub record EndedSoFar (table : List (List ℕ)) (finals nodes : ℕ) (work m : List ℕ) (n : ℕ) : Type 0 where
  pub within : n ≤ nodes
  pub sixteen : Sixteen m
  pub exact
      : (j : Job) (plan : List ℕ) (states : ℕ) → JobHeld j work table finals states nodes → PlanHeld plan work nodes
      → Union (Below (EndedAt j (enables plan) work) n) (empty_rows 16) m

-- none yet
pub ended_start
    : {table : List (List ℕ)} {finals : ℕ} (nodes : ℕ) (work : List ℕ) → Sixteen (empty_rows 16)
    → EndedSoFar table finals nodes work (empty_rows 16) 0
ended_start nodes work sixteen = record {
  within = omega arith;
  sixteen = sixteen;
  exact = λ j plan states held planned. union_start (empty_rows 16);
}

-- an exit more
pub ended_more
    : {table : List (List ℕ)} {finals nodes : ℕ} {work m k : List ℕ} {n : ℕ} → n < nodes → EndedSoFar table finals nodes work m n
    → EndedJoined table finals work m k n → EndedSoFar table finals nodes work k (n + 1)
ended_more {nodes = nodes} less inv joined = record {
  within = omega arith;
  sixteen = joined.sixteen;
  exact = λ j plan states held planned.
      union_more (inv.exact j plan states held planned) (joined.exact j plan states nodes held planned less);
}

-- all of them
pub ended_end
    : {table : List (List ℕ)} {finals nodes : ℕ} {work m : List ℕ} {n : ℕ} → EndedSoFar table finals nodes work m n → nodes ≤ n
    → ExitRows table finals nodes work m
ended_end {nodes = nodes} {work = work} {m = m} inv all j plan states held planned p q h =
    let u = union_end (inv.exact j plan states held planned) inv.within all in (
      λ (x : InRows m p q).
          ⊎_elim
          (λ (old : InRows (empty_rows 16) p q). absurd (empty_none 16 p q old))
          (λ (fresh : Below (EndedAt j (enables plan) work) nodes p q). fresh)
          (u.new p q h x),
      λ (x : Below (EndedAt j (enables plan) work) nodes p q). u.here p q h x,
    )
