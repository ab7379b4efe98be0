-- Calls that may come back in: what the joins leave is told apart, and where no row grew the class rows are closed.
-- Assumes nothing.
use Prim.{tt}
use mathlib.Core.Path.{◌≡◌, refl, sym, ap, subst, ◌∙◌}
use mathlib.Core.Logic.{⊎_elim}
use mathlib.Core.Bool.{Bool, true, false, cond, true≢false}
use mathlib.Core.List.{List}
use Prim.Native.Nat.{ℕ, ◌+◌, ◌<◌}
use native.Mathlib.Omega.{arith}
use Rattle.laws.specs.Bounded.{any_below}
use Rattle.laws.specs.Bits.{has}
use Rattle.laws.proofs.Bounded.{any_none_at}
use Rattle.automaton.specs.Automaton.{Automaton, WellFormed}
use Rattle.job.specs.Job.{is_reentrant, is_entry, Node, Job, node_at}
use Rattle.job.specs.Walk.{ended}
use Rattle.job.specs.Plan.{full, ApartAt}
use Rattle.job.specs.Words.{WordApart, apart_here, apart_later, apart_after, ReturnApart}
use Rattle.job.proofs.KindLaws.{comes_in, begins_after}
use Rattle.job.proofs.Pairs.{apart_moved}
use Rattle.job.proofs.Bounds.{reentrant_node}
use Rattle.job.proofs.Nodes.{word_map, before_apart, word_apart, exit_apart}
use Rattle.buffer.specs.Layout.{class_part, found_part}
use Rattle.buffer.specs.Views.{node_in, HeldApart}
use Rattle.buffer.proofs.KeptLaws.{kept_none, kept_both}
use Rattle.tables.specs.Held.{Usable, JobHeld}
use Rattle.relation.specs.Union.{Below}
use Rattle.classes.specs.Backwards.{RuleOf, rows_of, RowPairs, after_set}
use Rattle.classes.specs.Classes.{before_row, AllApart}
use Rattle.classes.specs.Returns.{ClassesReturned}
use Rattle.classes.proofs.AfterLaws.{node_before, job_rule}
use Rattle.classes.proofs.ClassLaws.{ApartPast, before_row_sound}
use Rattle.returnrows.specs.Gathered.{RowsHold, AtEntry, AtCall}
use Rattle.classreturns.specs.Joins.{ToCall, ToExit, ToExitWithin, NodesJoined}

-- what tells apart after a word for one reason does so for another, for states of the rule
pub word_within
    : {a : Automaton} {set : ℕ} {More Other : ℕ → ℕ → Type 0} {p q : ℕ} → WellFormed a → ((s : ℕ) → has set s ≡ true → s < a.symbols)
    → ((k l : ℕ) → k < a.states → l < a.states → More k l → Other k l) → p < a.states → q < a.states → WordApart a set More p q
    → WordApart a set Other p q
word_within wf symbols f hp hq (apart_here s m d) = apart_here s m d
word_within {p = p} {q = q} wf symbols f hp hq (apart_later s m h) =
    apart_later s m
    (word_within wf symbols f (wf.next_below p s hp (symbols s m)) (wf.next_below q s hq (symbols s m)) h)
word_within {p = p} {q = q} wf symbols f hp hq (apart_after h) = apart_after (f p q hp hq h)

-- ---- no call may come back in

-- the rows stay as they are: the after words are all that tells apart past an exit
pub returns_none
    : (table : List (List ℕ)) (finals states nodes : ℕ) (l : List ℕ) → any_below nodes (λ n. is_reentrant (node_in l n).kind) ≡ false
    → ClassesReturned table finals states nodes l l 0
returns_none table finals states nodes l none = record {
  kept = kept_none l class_part found_part;
  held = λ k p q a b h. h;
  sound = λ j h all. all;
  none = λ e. refl;
  closed = λ e j h a. record {
    enters = λ m n p q hm hn hp again entry t. absurd (no_call j h m again);
    returns = λ n p q hn hp hq x w. a n p q hn hp hq x (word_map (λ k l r. no_call j h r.node r.again) w);
  };
  left = omega arith;
}
  where
    no_call : (j : Job) → JobHeld j l table finals states nodes → (n : ℕ) → is_reentrant (node_at j n).kind ≡ true → ⊥
    no_call j h n again =
        let there : n < nodes = omega (arith, reentrant_node j n again, h.nodes_are) in
        true≢false
        (sym (ap (λ (x : Node). is_reentrant x.kind) (h.node n there) ∙ again)
        ∙ any_none_at nodes (λ (k : ℕ). is_reentrant (node_in l k).kind) none n there)

-- ---- what the joins leave

module _
    (table : List (List ℕ)) (finals states nodes : ℕ) (l m k : List ℕ) (entries calls : List ℕ) (entered left : ℕ)
    (u : Usable l table states nodes) (before : RowsHold (Below (AtEntry table finals states l) nodes) entries)
    (one : NodesJoined (ToCall entries) (ToCall entries) l m nodes entered) (after : RowsHold (Below (AtCall m) nodes) calls)
    (two : NodesJoined (ToExit table finals states calls) (ToExitWithin table finals states calls) m k nodes left) where
  module _ (j : Job) (h : JobHeld j l table finals states nodes) where
    -- a node is that of the job, after the first joins too
    node_l : (n : ℕ) → n < nodes → node_in l n ≡ node_at j n
    node_l n a = h.node n a

    node_m : (n : ℕ) → n < nodes → node_in m n ≡ node_at j n
    node_m n a = node_before l m one.kept n (omega (arith, u.few_nodes)) ∙ h.node n a

    -- the rule of the job
    abbrev rule : RuleOf table finals states
    rule = record { rule = j.rule; is = job_rule h }

    -- what was joined at calls is told apart past them: by a re-entry
    call_sound
        : AllApart j nodes l → (n p q : ℕ) → n < nodes → p < 16 → ToCall entries tt (node_in l n) p q → ApartPast j n p q
    call_sound all n p q hn hp t =
        let e = before.only p q hp t.1 in
        apart_moved
        (comes_in (ap (λ (x : Node). is_reentrant x.kind) (sym (node_l n hn)) ∙ t.0)
        (ap is_entry (sym (node_l e.index e.below)) ∙ e.holds.0))
        (before_apart
        (before_row_sound h u.cells l e.index p q (node_l e.index e.below) hp u.few_states
        (λ x y. all e.index x y e.below) e.holds.1))

    calls_sound : AllApart j nodes l → AllApart j nodes m
    calls_sound all n p q hn hp x =
        ⊎_elim
        (λ (y : HeldApart l n p q). all n p q hn hp y)
        (λ (y : ToCall entries tt (node_in l n) p q). call_sound all n p q hn hp y)
        (one.new tt n p q (omega (arith, u.few_nodes)) hp x)

    -- what the rows of the calls have is told apart where the word after an exit ends: by a return
    end_sound
        : AllApart j nodes m → (n p q : ℕ) → (node_at j n).exit ≡ true → RowPairs (rows_of calls) p q → ApartAt j full full (ended n) p q
    end_sound all n p q x t =
        let e = after.only p q t.0 t.1 in
        exit_apart n p q x
        (record {
          node = e.index;
          again = ap (λ (y : Node). is_reentrant y.kind) (sym (node_m e.index e.below)) ∙ e.holds.0;
          apart = all e.index p q e.below t.0 e.holds.1;
        })

    -- the after set of an exit
    after_is : (n : ℕ) → n < nodes → (node_at j n).exit ≡ true → after_set (node_in m n) ≡ (node_at j n).after
    after_is n hn x = ap (λ (y : Node). after_set y) (node_m n hn) ∙ ap (λ (b : Bool). cond b (node_at j n).after 0) x

    -- what was joined at exits is told apart past them
    exit_sound
        : AllApart j nodes m → (n p q : ℕ) → n < nodes → ToExit table finals states calls rule (node_in m n) p q → ApartPast j n p q
    exit_sound all n p q hn t =
        let x : (node_at j n).exit ≡ true = ap (λ (y : Node). y.exit) (sym (node_m n hn)) ∙ t.0 in
        apart_moved (begins_after x)
        (word_apart (λ a b. end_sound all n a b x) x
        (subst (λ (s : ℕ). WordApart j.rule s (RowPairs (rows_of calls)) p q) (after_is n hn x) t.1))

    exits_sound : AllApart j nodes m → AllApart j nodes k
    exits_sound all n p q hn hp x =
        ⊎_elim
        (λ (y : HeldApart m n p q). all n p q hn hp y)
        (λ (y : ToExit table finals states calls rule (node_in m n) p q). exit_sound all n p q hn y)
        (two.new rule n p q (omega (arith, u.few_nodes)) hp x)

    -- where no row grew, what is told apart before an entry is held at every call
    enters_closed
        : m ≡ l → (c n p q : ℕ) → c < nodes → n < nodes → p < 16 → is_reentrant (node_at j c).kind ≡ true → is_entry (node_at j n) ≡ true
        → has (before_row table finals states l n p) q ≡ true → HeldApart l c p q
    enters_closed same c n p q hc hn hp again entry t =
        subst (λ (w : List ℕ). HeldApart w c p q) same
        (one.here tt c p q hc hp (
          ap (λ (x : Node). is_reentrant x.kind) (node_l c hc) ∙ again,
          before.here p q hp (record { index = n; below = hn; holds = (ap is_entry (node_l n hn) ∙ entry, t) }),
        ))

    -- and what is held at a call is in the rows that follow an after word
    return_held
        : m ≡ l → (p q : ℕ) → p < j.rule.states → ReturnApart j (HeldApart l) p q → RowPairs (rows_of calls) p q
    return_held same p q hp r =
        let small : p < 16 = omega (arith, h.states_are, u.few_states) in
        let there : r.node < nodes = omega (arith, reentrant_node j r.node r.again, h.nodes_are) in (
          small,
          after.here p q small
              (record {
                index = r.node;
                below = there;
                holds = (
                  ap (λ (x : Node). is_reentrant x.kind) (node_m r.node there) ∙ r.again,
                  subst (λ (w : List ℕ). HeldApart w r.node p q) (sym same) r.apart,
                );
              }),
        )

    -- so the words after exits are held
    returns_closed
        : m ≡ l → k ≡ m → (n p q : ℕ) → n < nodes → p < j.rule.states → q < j.rule.states → (node_at j n).exit ≡ true
        → WordApart j.rule (node_at j n).after (ReturnApart j (HeldApart l)) p q → HeldApart l n p q
    returns_closed same same' n p q hn hp hq x w =
        let is = after_is n hn x in
        let symbols : (s : ℕ) → has (after_set (node_in m n)) s ≡ true → s < j.rule.symbols =
        λ s i. h.formed.afters n s (subst (λ (y : ℕ). has y s ≡ true) is i) in
        subst (λ (v : List ℕ). HeldApart v n p q) (same' ∙ same)
        (two.here rule n p q hn (omega (arith, h.states_are, u.few_states)) (
          ap (λ (y : Node). y.exit) (node_m n hn) ∙ x,
          (
            symbols,
            (
              omega (arith, h.states_are),
              (
                omega (arith, h.states_are),
                word_within h.formed.rule symbols (λ a b ha hb r. return_held same a b ha r) hp hq
                    (subst (λ (s : ℕ). WordApart j.rule s (ReturnApart j (HeldApart l)) p q) (sym is) w),
              ),
            ),
          ),
        ))

  -- the whole turn
  pub returns_joined : ClassesReturned table finals states nodes l k (entered + left)
  returns_joined = record {
    kept = kept_both l m k class_part found_part class_part found_part one.kept two.kept (omega arith) (omega arith);
    held = λ x p q a b h. two.held x p q a b (one.held x p q a b h);
    sound = λ j h all. exits_sound j h (calls_sound j h all);
    none = λ e. two.none (omega arith) ∙ one.none (omega arith);
    closed = λ e j h a. record {
      enters = enters_closed j h (one.none (omega arith));
      returns = returns_closed j h (one.none (omega arith)) (two.none (omega arith));
    };
    left = omega (arith, one.left, two.left);
  }
