-- Laws of looking at one row of pairs: what each return of the code leaves, for every job that the buffer holds.
-- Assumes nothing.
use mathlib.Core.Path.{◌≡◌, refl, sym, ap, subst, ◌∙◌}
use mathlib.Core.Logic.{◌⊎◌, inl, inr, ⊎_elim}
use mathlib.Core.Bool.{Bool, true, false, not, true≢false, false≢true}
use mathlib.Core.List.{List}
use Prim.Native.Nat.{ℕ, ◌%◌, ◌^◌, ◌<◌}
use native.Mathlib.Nat.{mod-eq_of_lt}
use native.Mathlib.Omega.{arith}
use borrow.Author.Tests.{eqb-true, eqb-false}
use lib.Dec.{eqb}
use lib.Bits.{bit_and}
use Rattle.laws.specs.Bits.{has}
use Rattle.laws.proofs.Bits.{has_below, has_empty}
use Rattle.laws.proofs.Tests.{fails_of}
use Rattle.automaton.specs.Automaton.{next, final, cell}
use Rattle.job.proofs.KindLaws.{event_small, call_small}
use Rattle.job.specs.Job.{point, point_of, call_set, is_event, Job, Node, node_at}
use Rattle.job.specs.Plan.{Enabling, full, enables}
use Rattle.buffer.specs.Layout.{Lent}
use Rattle.buffer.specs.Views.{node_in, pair_row_in, class_row_in, enabled_in, Held}
use Rattle.moves.specs.declared.Past.{Past}
use Rattle.tables.specs.Rows.{CellsBelow, meets}
use Rattle.moves.specs.Past.{past_row}
use Rattle.tables.specs.Held.{JobHeld, PlanHeld}
use Rattle.spread.specs.Spreading.{WordFrom, Spread}
use Rattle.look.specs.Looking.{past_node, Follows, by_word_lem, AlikePair, SplitPair, split_point, split_call, split_exit, LookedAt}
use Rattle.spread.proofs.SpreadLaws.{apart_meets, some_meets}
use Rattle.look.proofs.PastLaws.{PastSays, past_says, past_state_lem, plan_enabled}
use Rattle.tables.proofs.RowLaws.{meets_says, meets_none}
use Rattle.tables.proofs.KeptLaws.{grown_none, node_same, class_same, enabled_same}

-- ---- what the code has read and found

-- the row is not empty, and the call set is read
pub record RowRead (table : List (List ℕ)) (l : List ℕ) (n p s set : ℕ) : Type 0 where
  pub long : Lent l
  pub node : n < 512
  pub row : p < 16
  pub cells : CellsBelow table
  pub short : s < 2 ^ 16
  pub some : 0 < s
  pub row_is : s ≡ pair_row_in l n p
  pub set_is : set ≡ call_set (node_in l n).kind

-- the call word alarms alike, and the row past the node is found
pub record RowMoved (table : List (List ℕ)) (finals : ℕ) (l m : List ℕ) (n p s set : ℕ) (past : Past) : Type 0 where
  pub read : RowRead table l n p s set
  pub spread : Spread table finals l m n p s set false
  pub event_is : Bool
  pub symbol : ℕ
  pub enabled : Bool
  pub event_says : event_is ≡ is_event (node_in m n).kind
  pub symbol_small : symbol < 16
  pub symbol_says : (a : ℕ) → point_of (node_in m n).kind ≡ point a → symbol ≡ a % 16
  pub enabled_says : enabled ≡ enabled_in m n
  pub past_is : past ≡ past_row table finals event_is symbol enabled p s

-- what the call word leaves, by the answer that the code has tested
pub spread_told
    : {table : List (List ℕ)} {finals : ℕ} {l m : List ℕ} {n p s set : ℕ} {b c : Bool} → b ≡ c
    → Spread table finals l m n p s set b → Spread table finals l m n p s set c
spread_told {table} {finals} {l} {m} {n} {p} {s} {set} e h = subst (λ (x : Bool). Spread table finals l m n p s set x) e h

-- ---- for a job that is held

module _ {table : List (List ℕ)} {finals : ℕ} {l : List ℕ} {n p s set : ℕ} (read : RowRead table l n p s set)
    {j : Job} {states nodes : ℕ} (held : JobHeld j l table finals states nodes) (inside : n < nodes) where
  -- the node's kind
  kind_is : (node_in l n).kind ≡ (node_at j n).kind
  kind_is = ap (λ (x : Node). x.kind) (held.node n inside)

  -- a symbol of the set read is one of the node's call word
  word_of : (a : ℕ) → has set a ≡ true → has (call_set (node_at j n).kind) a ≡ true
  word_of a h = subst (λ (x : ℕ). has x a ≡ true) (read.set_is ∙ ap call_set kind_is) h

  -- and the other way round
  of_word : (a : ℕ) → has (call_set (node_at j n).kind) a ≡ true → has set a ≡ true
  of_word a h = subst (λ (x : ℕ). has x a ≡ true) (sym (read.set_is ∙ ap call_set kind_is)) h

  -- a state of the row is held
  row_held : (q : ℕ) → has s q ≡ true → Held l n p q
  row_held q h = subst (λ (x : ℕ). has x q ≡ true) read.row_is h

  -- and the other way round
  held_row : (q : ℕ) → Held l n p q → has s q ≡ true
  held_row q h = subst (λ (x : ℕ). has x q ≡ true) (sym read.row_is) h

  -- it is below 16
  held_small : (q : ℕ) → Held l n p q → q < 16
  held_small q h = has_below 16 s q read.short (held_row q h)

  -- what a symbol of the call word leads to follows
  word_follows
      : (w : Enabling) (k r t : ℕ) → (k ≡ n) × WordFrom table set p s r t → (q : ℕ) × Held l n p q × Follows j w n p q k r t
  word_follows w k r t (here, f) =
      let c = word_of f.symbol f.of_set in
      let g : Follows j w n p f.state n (next j.rule p f.symbol) (next j.rule f.state f.symbol) =
      by_word_lem f.symbol c in
      let one : r ≡ next j.rule p f.symbol = f.one ∙ held.cells p f.symbol read.row f.small in
      let other : t ≡ next j.rule f.state f.symbol =
      f.other ∙ held.cells f.state f.symbol (has_below 16 s f.state read.short f.of_row) f.small in
      (f.state, row_held f.state f.of_row, rw (here, one, other) g)

  -- the pairs that the call word brings follow, and no other pair is new
  word_new
      : (w : Enabling) (m : List ℕ) (differs : Bool) → Spread table finals l m n p s set differs → (k r t : ℕ) → k < 512 → r < 16
      → Held m k r t → Held l k r t ⊎ ((q : ℕ) × Held l n p q × Follows j w n p q k r t)
  word_new w m differs spread k r t x y h = ⊎_elim inl (λ z. inr (word_follows w k r t z)) (spread.new k r t x y h)

  -- whether a state moved to by a symbol is final
  final_is : (q a : ℕ) → q < 16 → a < 16 → has finals (cell table q a) ≡ final j.rule (next j.rule q a)
  final_is q a x y = rw (held.finals_are, held.cells q a x y)

  -- a symbol of the call word that alarms differently splits the pair
  word_splits
      : (w : Enabling) (m : List ℕ) → Spread table finals l m n p s set true → (q : ℕ) × Held l n p q × SplitPair j w l n p q
  word_splits w m spread =
      let f = spread.split refl in
      let c = word_of f.0 f.3 in (
        f.1,
        row_held f.1 f.4,
        split_call f.0 c
            (sym (final_is p f.0 read.row f.2) ∙ f.5
            ∙ ap not (final_is f.1 f.0 (has_below 16 s f.1 read.short f.4) f.2)),
      )

  module _ (m : List ℕ) (spread : Spread table finals l m n p s set false) (q : ℕ) (h : Held l n p q) where
    -- where none does, what the call word leads to is held
    word_held
        : (a : ℕ) → has (call_set (node_at j n).kind) a ≡ true → Held m n (next j.rule p a) (next j.rule q a)
    word_held a g =
        let small : a < 16 = call_small n a held.formed g in
        rw (← held.cells p a read.row small, ← held.cells q a (held_small q h) small)
        (spread.here refl a q small (of_word a g) (held_row q h))

    -- and the monitors alarm alike
    word_alike
        : (a : ℕ) → has (call_set (node_at j n).kind) a ≡ true
        → final j.rule (next j.rule p a) ≡ final j.rule (next j.rule q a)
    word_alike a g =
        let small : a < 16 = call_small n a held.formed g in
        sym (final_is p a read.row small) ∙ spread.alike refl a q small (of_word a g) (held_row q h)
        ∙ final_is q a (held_small q h) small

-- the row past the node, for a job and a plan that are held
module _ {table : List (List ℕ)} {finals : ℕ} {l m : List ℕ} {n p s set : ℕ} {past : Past}
    (moved : RowMoved table finals l m n p s set past) {j : Job} {states nodes : ℕ}
    (held : JobHeld j l table finals states nodes) (plan : List ℕ) (planned : PlanHeld plan l nodes) (inside : n < nodes) where
  -- the node's kind, after the call word
  kind_still : (node_in m n).kind ≡ (node_at j n).kind
  kind_still =
      ap (λ (x : Node). x.kind) (node_same moved.spread.grown.kept n moved.read.node) ∙ kind_is moved.read held inside

  -- what the row past the node says
  moved_says : PastSays j.rule (enables plan) n (point_of (node_at j n).kind) p s past
  moved_says =
      let on : moved.enabled ≡ enables plan n =
      moved.enabled_says ∙ enabled_same moved.spread.grown.kept n moved.read.node
      ∙ plan_enabled plan l nodes n planned inside in
      let is : moved.event_is ≡ is_event (node_at j n).kind = moved.event_says ∙ ap is_event kind_still in
      subst (λ (x : Past). PastSays j.rule (enables plan) n (point_of (node_at j n).kind) p s x)
      (sym
      (moved.past_is ∙ ap (λ (b : Bool). past_row table finals b moved.symbol moved.enabled p s) is
      ∙ ap (λ (b : Bool). past_row table finals (is_event (node_at j n).kind) moved.symbol b p s) on))
      (past_says table finals j.rule (enables plan) n moved.symbol p s moved.read.cells held.cells
      held.finals_are moved.read.row moved.symbol_small moved.read.short moved.read.some
      (point_of (node_at j n).kind)
      (λ b k.
      moved.symbol_says b (ap point_of kind_still ∙ k) ∙ mod-eq_of_lt (event_small n held.formed k)))

  -- the pair past the node splits where the row alarms differently
  point_splits : past.differs ≡ true → (q : ℕ) × Held l n p q × SplitPair j (enables plan) l n p q
  point_splits e =
      let f = moved_says.split e in
      (f.2.0, row_held moved.read held inside f.2.0 f.2.1, split_point f.1 f.2.2)

  -- and where the class row has a state of the row
  exit_splits
      : (row : ℕ) → row ≡ class_row_in m n past.state → (bit_and row past.set ≡ 0 → ⊥) → past.state < 16
      → (q : ℕ) × Held l n p q × SplitPair j (enables plan) l n p q
  exit_splits row is some small =
      let t = (meets_says row past.set).0 (some_meets row past.set some) in
      let f = moved_says.from t.0 t.2 in
      let same : row ≡ class_row_in l n past.state =
      is ∙ class_same moved.spread.grown.kept n past.state moved.read.node small in (
        f.0,
        row_held moved.read held inside f.0 f.1,
        split_exit (rw (← moved_says.one, ← f.2, ← same) t.1),
      )

  -- a pair of the row has its place past the node
  pair_past
      : (q : ℕ) → Held l n p q → (past.state ≡ past_node j full n p) × (has past.set (past_node j (enables plan) n q) ≡ true)
  pair_past q h = (moved_says.one, moved_says.here q (held_row moved.read held inside q h))

  -- and every state of the row past the node comes from one
  past_pair
      : (t : ℕ) → has past.set t ≡ true
      → (q : ℕ) × Held l n p q × ((past.state ≡ past_node j full n p) × (t ≡ past_node j (enables plan) n q))
  past_pair t h =
      let f = moved_says.from t h in
      (f.0, row_held moved.read held inside f.0 f.1, (moved_says.one, f.2))

  -- where nothing splits, the monitors alarm alike
  row_alike
      : (row : ℕ) → past.differs ≡ false → row ≡ class_row_in m n past.state → bit_and row past.set ≡ 0
      → (q : ℕ) → Held l n p q → AlikePair j (enables plan) m n p q
  row_alike row quiet is none q h = record {
    words = word_held moved.read held inside m moved.spread q h;
    at_point = λ a kind. moved_says.alike quiet a kind q (held_row moved.read held inside q h);
    at_call = word_alike moved.read held inside m moved.spread q h;
    at_exit =
        fails_of (has (class_row_in m n (past_node j full n p)) (past_node j (enables plan) n q))
        (λ e.
        true≢false
        (sym (pair_past q h).1
        ∙ meets_none row past.set (past_node j (enables plan) n q) (apart_meets row past.set none)
        (rw (is, moved_says.one) e)));
  }

-- ---- the returns of the code

-- an empty row has no pair
pub look_empty
    : (table : List (List ℕ)) (finals : ℕ) (l : List ℕ) (n p s : ℕ) → p < 16 → s ≡ pair_row_in l n p → s ≡ 0
    → LookedAt table finals l l n p (record { state = p; set = 0; differs = false })
look_empty table finals l n p s small is none = record {
  grown = grown_none l;
  small = small;
  exact = λ j plan states nodes held planned inside. record {
    new = λ k r t a b h. inl h;
    alike = λ e q h. absurd (no_pair q h);
    here = λ e q h. absurd (no_pair q h);
    from = λ e t h. absurd (true≢false (sym h ∙ has_empty t));
    split = λ e. absurd (false≢true e);
  };
}
  where
    no_pair : (q : ℕ) → Held l n p q → ⊥
    no_pair q h = true≢false (sym h ∙ ap (λ (x : ℕ). has x q) (sym is ∙ none) ∙ has_empty q)

-- a pair splits after the call word, or in it
look_split
    : {table : List (List ℕ)} {finals : ℕ} {l m : List ℕ} {n p s set : ℕ} {differs : Bool} → RowRead table l n p s set
    → Spread table finals l m n p s set differs → (past : Past) → past.state < 16 → past.differs ≡ true
    → ((j : Job) (plan : List ℕ) (states nodes : ℕ) → JobHeld j l table finals states nodes → PlanHeld plan l nodes → n < nodes
    → (q : ℕ) × Held l n p q × SplitPair j (enables plan) l n p q)
    → LookedAt table finals l m n p past
look_split {m = m} {differs = differs} read spread past small told splits = record {
  grown = spread.grown;
  small = small;
  exact = λ j plan states nodes held planned inside. record {
    new = word_new read held inside (enables plan) m differs spread;
    alike = λ e. absurd (true≢false (sym told ∙ e));
    here = λ e. absurd (true≢false (sym told ∙ e));
    from = λ e. absurd (true≢false (sym told ∙ e));
    split = λ e. splits j plan states nodes held planned inside;
  };
}

-- a symbol of the call word alarms differently
pub look_word
    : {table : List (List ℕ)} {finals : ℕ} {l m : List ℕ} {n p s set : ℕ} → RowRead table l n p s set
    → Spread table finals l m n p s set true → LookedAt table finals l m n p (record { state = p; set = 0; differs = true })
look_word {m = m} read spread =
    look_split read spread _ read.row refl
    (λ j plan states nodes held planned inside. word_splits read held inside (enables plan) m spread)

module _ {table : List (List ℕ)} {finals : ℕ} {l m : List ℕ} {n p s set : ℕ} {past : Past}
    (moved : RowMoved table finals l m n p s set past) where
  -- the buffer is as long as it was
  pub look_long : Lent m
  look_long = omega (arith, moved.read.long, moved.spread.grown.kept.long)

  -- the state past the node is below 16
  pub look_small : past.state < 16
  look_small =
      subst (λ (x : Past). x.state < 16) (sym moved.past_is)
      (past_state_lem table finals moved.symbol p s moved.read.cells moved.read.row moved.symbol_small moved.event_is
      moved.enabled)

  -- the node's own event alarms differently
  pub look_point : past.differs ≡ true → LookedAt table finals l m n p (record { state = p; set = 0; differs = true })
  look_point differs =
      look_split moved.read moved.spread _ moved.read.row refl
      (λ j plan states nodes held planned inside. point_splits moved held plan planned inside differs)

  -- an after word does, or nothing does: the code's last test says which
  pub look_exit
      : (row : ℕ) → past.differs ≡ false → row ≡ class_row_in m n past.state
      → LookedAt table finals l m n p (record { state = past.state; set = past.set; differs = meets row past.set })
  look_exit row quiet is = go (eqb (bit_and row past.set) 0) refl
    where
      go
          : (b : Bool) → eqb (bit_and row past.set) 0 ≡ b
          → LookedAt table finals l m n p (record { state = past.state; set = past.set; differs = not b })
      go false e =
          look_split moved.read moved.spread _ look_small refl
          (λ j plan states nodes held planned inside.
          exit_splits moved held plan planned inside row is (eqb-false (bit_and row past.set) 0 e) look_small)
      go true e = record {
        grown = moved.spread.grown;
        small = look_small;
        exact = λ j plan states nodes held planned inside. record {
          new = word_new moved.read held inside (enables plan) m false moved.spread;
          alike = λ x. row_alike moved held plan planned inside row quiet is (eqb-true (bit_and row past.set) 0 e);
          here = λ x. pair_past moved held plan planned inside;
          from = λ x. past_pair moved held plan planned inside;
          split = λ x. absurd (false≢true x);
        };
      }
