-- A round over the marked rows: what a row that was looked at, a node and the nodes so far leave.
-- Assumes nothing.
use mathlib.Core.Path.{◌≡◌, refl, sym, ap, subst, ◌∙◌}
use mathlib.Core.Logic.{◌⊎◌, inl, inr, ⊎_elim, ◌≢◌, by_cases}
use mathlib.Core.Bool.{true, false}
use mathlib.Core.List.{List}
use Prim.Native.Nat.{ℕ, ◌+◌, ◌-◌, ◌≤◌, ◌<◌}
use native.Mathlib.Nat.{le_refl}
use native.Mathlib.Decide.{ℕ_discrete}
use native.Mathlib.Omega.{arith}
use lib.Bits.{bit_and, bit_or}
use lib.Count.{count_trailing_zeros}
use lib.ListN.{length, get_or, set, length-set}
use Rattle.laws.specs.Bits.{has}
use Rattle.laws.proofs.Bits.{has_below}
use Rattle.laws.proofs.Tests.{passes_or_fails}
use Rattle.laws.proofs.Walk.{Rest, rest_start, rest_from, rest_lt, rest_next, members_more, members_end}
use Rattle.automaton.specs.Automaton.{next}
use Rattle.job.proofs.KindLaws.{call_small}
use Rattle.job.specs.Job.{Job}
use Rattle.job.specs.Plan.{Enabling, full, enables}
use Rattle.moves.specs.declared.Past.{Past}
use Rattle.buffer.specs.Views.{marks_in, marked_in, EdgeIn, Held}
use Rattle.tables.specs.Tables.{pairs_left, SearchKept, Grown, NextMarked, MarksTaken}
use Rattle.tables.specs.Held.{Usable, JobHeld, PlanHeld}
use Rattle.rounds.specs.declared.Seen.{Seen}
use Rattle.rounds.specs.declared.Seen.TheVariants.{Nothing, Rows, Difference}
use Rattle.successors.specs.Joined.{JoinedPast}
use Rattle.tables.specs.Sixteen.{InRows}
use Rattle.look.specs.Looking.{past_node, Follows, over_edge, AlikePair, ClosedPair, SplitPair, split_point, split_call, split_exit, Looked, LookedAt}
use Rattle.rounds.specs.Rounds.{Following, held_first, follows, SettledRow, Settled, Rounded, RoundedAt}
use Rattle.look.proofs.PastLaws.{next_small, past_small}
use Rattle.tables.proofs.RowLaws.{has_nothing}
use Rattle.tables.proofs.SixteenLaws.{rows_old, rows_here, rows_fresh}
use Rattle.tables.proofs.KeptLaws.{search_kept_none, search_kept_both, grown_none, grown_both, class_same, usable_same, job_same, plan_same}

-- ---- from one buffer to another

-- pairs of one buffer are held in another
abbrev pub HeldIn : List ℕ → List ℕ → Type 0
HeldIn l m = (n p q : ℕ) → n < 512 → p < 16 → Held l n p q → Held m n p q

module _
    {j : Job} {w : Enabling} {o l m : List ℕ} {table : List (List ℕ)} {finals states nodes : ℕ} (u : Usable o table states nodes)
    (job : JobHeld j o table finals states nodes) (k : SearchKept l m) where
  -- monitors that alarm alike do so where no pair is lost
  alike_kept : HeldIn l m → (n p q : ℕ) → n < 512 → p < 16 → AlikePair j w l n p q → AlikePair j w m n p q
  alike_kept held n p q ln lp c = record {
    words = λ a h.
        held n (next j.rule p a) (next j.rule q a) ln
        (next_small u.cells job p a lp (call_small n a job.formed h)) (c.words a h);
    at_point = c.at_point;
    at_call = c.at_call;
    at_exit =
        ap (λ (x : ℕ). has x (past_node j w n q)) (class_same k n (past_node j full n p) ln (past_small u.cells job n p lp)) ∙ c.at_exit;
  }

  -- a closed pair is closed where no pair is lost
  pub closed_pair_kept : HeldIn l m → (n p q : ℕ) → n < 512 → p < 16 → ClosedPair j w l n p q → ClosedPair j w m n p q
  closed_pair_kept held n p q ln lp c = record {
    alike = alike_kept held n p q ln lp c.alike;
    edges = λ a h.
        held a (past_node j full n p) (past_node j w n q)
        (omega (arith, (job.formed.edges n a h).1, job.nodes_are, u.few_nodes)) (past_small u.cells job n p lp) (c.edges a h);
  }

  -- a pair that splits does so in the other buffer
  pub split_kept : (n p q : ℕ) → n < 512 → p < 16 → SplitPair j w m n p q → SplitPair j w l n p q
  split_kept n p q ln lp (split_point e d) = split_point e d
  split_kept n p q ln lp (split_call a h d) = split_call a h d
  split_kept n p q ln lp (split_exit h) =
      split_exit
      (ap (λ (x : ℕ). has x (past_node j w n q)) (sym (class_same k n (past_node j full n p) ln (past_small u.cells job n p lp))) ∙ h)

-- what follows pairs that follow
pub following_both
    : {j : Job} {w : Enabling} {l m : List ℕ} {n p q : ℕ}
    → ((n p q : ℕ) → n < 512 → p < 16 → Held m n p q → Following j w l n p q) → Following j w m n p q → Following j w l n p q
following_both f (held_first {n = n} {p = p} {q = q} ln lp h) = f n p q ln lp h
following_both f (follows g h) = follows (following_both f g) h

-- a member of one set is one of the same set
pub member_same : {s t : ℕ} (q : ℕ) → s ≡ t → has s q ≡ true → has t q ≡ true
member_same q e h = sym (ap (λ (x : ℕ). has x q) e) ∙ h

-- ---- the rows of one node

-- a pair past node n, and one that follows and has its place there
pub record PastOf (j : Job) (w : Enabling) (l : List ℕ) (n r s : ℕ) : Type 0 where
  pub one : ℕ
  pub other : ℕ
  pub from : Following j w l n one other
  pub one_is : r ≡ past_node j full n one
  pub other_is : s ≡ past_node j w n other

-- the monitors alarm alike, and the pair's place past node n is in the sixteen rows
abbrev pub PassedPair : Job → Enabling → List ℕ → ℕ → List ℕ → ℕ → ℕ → Type 0
PassedPair j w work n rows p q = AlikePair j w work n p q × InRows rows (past_node j full n p) (past_node j w n q)

-- row p of node n is marked, or so is every pair of it
abbrev pub PassedRow : Job → Enabling → List ℕ → ℕ → List ℕ → ℕ → Type 0
PassedRow j w work n rows p = marked_in work n p ≡ false → (q : ℕ) → Held work n p q → PassedPair j w work n rows p q

-- the rows of node n that were due, below the number passed, were looked at, for a job and a plan
pub record RowsFor (j : Job) (w : Enabling) (l m : List ℕ) (n due passed : ℕ) (rows : List ℕ) : Type 0 where
  pub new : (k r s : ℕ) → k < 512 → r < 16 → Held m k r s → Following j w l k r s
  pub past : (r s : ℕ) → InRows rows r s → PastOf j w l n r s
  pub here : (r : ℕ) → r < passed → has due r ≡ true → PassedRow j w m n rows r

-- the same for every job and plan that the buffer holds; `rest` has the rows that are still due, `rows` the rows past the node
pub record RowsSoFar (table : List (List ℕ)) (finals states nodes : ℕ) (l m : List ℕ) (n due rest : ℕ) (rows : List ℕ) : Type 0 where
  pub short : due < 65536
  pub passed : ℕ
  pub left : Rest 16 due rest passed
  pub sixteen : length rows ≡ 16
  pub grown : Grown l m
  pub exact
      : (j : Job) (plan : List ℕ) → JobHeld j l table finals states nodes → PlanHeld plan l nodes
      → RowsFor j (enables plan) l m n due passed rows

-- the rows of node n that were due were looked at and joined at the successors, for a job and a plan
pub record NodeFor (j : Job) (w : Enabling) (l m : List ℕ) (n due : ℕ) : Type 0 where
  pub new : (k r s : ℕ) → k < 512 → r < 16 → Held m k r s → Following j w l k r s
  pub here : (r : ℕ) → has due r ≡ true → SettledRow j w m n r

-- the same for every job and plan that the buffer holds
pub record NodeLooked (table : List (List ℕ)) (finals states nodes : ℕ) (l m : List ℕ) (n due : ℕ) : Type 0 where
  pub short : due < 65536
  pub grown : Grown l m
  pub exact
      : (j : Job) (plan : List ℕ) → JobHeld j l table finals states nodes → PlanHeld plan l nodes
      → NodeFor j (enables plan) l m n due

-- ---- the rows past a node, gathered

module _ {table : List (List ℕ)} {finals states nodes : ℕ} where
  -- none yet
  pub rows_none
      : (l : List ℕ) (n due : ℕ) (rows : List ℕ) → due < 65536 → length rows ≡ 16 → ((i : ℕ) → get_or rows i 0 ≡ 0)
      → RowsSoFar table finals states nodes l l n due due rows
  rows_none l n due rows short sixteen zeros =
      record {
        short = short;
        passed = 0;
        left = rest_start 16 due short;
        sixteen = sixteen;
        grown = grown_none l;
        exact = λ j plan held plan_held.
            record {
              new = λ k r s lk lr h. held_first lk lr h;
              past = λ r s h. absurd (has_nothing s (zeros r) h);
              here = λ r lr. absurd (omega arith);
            };
      }

  module _ {l m : List ℕ} {n due rest : ℕ} {rows : List ℕ} (u : Usable l table states nodes) (ln : n < nodes)
      (i : RowsSoFar table finals states nodes l m n due rest rows) where
    -- a row that is due is one of sixteen
    pub row_small : {p : ℕ} → 0 < rest → p ≡ count_trailing_zeros 16 rest → p < 16
    row_small some low = omega (arith, rest_lt i.left some)

    -- the node is one of 512
    small : n < 512
    small = omega (arith, u.few_nodes)

    -- the job is held after the rows so far
    job_now : {j : Job} → JobHeld j l table finals states nodes → JobHeld j m table finals states nodes
    job_now held = job_same i.grown.kept u held

    module _ {k : List ℕ} {p : ℕ} {past : Past} (lp : p < 16) (look : LookedAt table finals m k n p past) where
      -- what looking at the row says, for a job of the first buffer
      looked
          : (j : Job) (plan : List ℕ) → JobHeld j l table finals states nodes → PlanHeld plan l nodes
          → Looked j (enables plan) m k n p past
      looked j plan held plan_held =
          look.exact j plan states nodes (job_now held) (plan_same i.grown.kept plan u.few_nodes plan_held) ln

      -- what the pairs of a row follow, the pairs that it leads to do
      rows_new
          : (j : Job) (plan : List ℕ) → JobHeld j l table finals states nodes → PlanHeld plan l nodes
          → (a r s : ℕ) → a < 512 → r < 16 → Held k a r s → Following j (enables plan) l a r s
      rows_new j plan held plan_held a r s la lr h =
          let f = i.exact j plan held plan_held in
          ⊎_elim
          (λ (old : Held m a r s). f.new a r s la lr old)
          (λ (fresh : (q : ℕ) × Held m n p q × Follows j (enables plan) n p q a r s).
          follows (f.new n p fresh.0 small lp fresh.1) fresh.2)
          ((looked j plan held plan_held).new a r s la lr h)

      module _ {word less : ℕ} (some : 0 < rest) (low : p ≡ count_trailing_zeros 16 rest) (without : less ≡ bit_and rest (rest - 1))
          (alike : past.differs ≡ false) (joined : word ≡ bit_or (get_or rows past.state 0) past.set) where
        -- the rows past the node, with that of this row
        abbrev after : List ℕ
        after = set rows past.state word

        -- the rows passed are as they were
        older
            : (j : Job) (plan : List ℕ) → JobHeld j l table finals states nodes → PlanHeld plan l nodes
            → (r : ℕ) → r < i.passed → has due r ≡ true → PassedRow j (enables plan) k n after r
        older j plan held plan_held r lr h quiet q x =
            let few : r < 16 = omega (arith, rest_from i.left some, rest_lt i.left some) in
            let was = look.grown.quiet n r small few quiet in
            let c = (i.exact j plan held plan_held).here r lr h was.0 q (member_same q was.1 x) in (
              alike_kept u held look.grown.kept look.grown.held n r q small few c.0,
              rows_old rows past.state past.set word i.sixteen look.small joined _ _ c.1,
            )

        -- and this one is passed while it does not grow
        this
            : (j : Job) (plan : List ℕ) → JobHeld j l table finals states nodes → PlanHeld plan l nodes → PassedRow j (enables plan) k n after p
        this j plan held plan_held quiet q x =
            let y = looked j plan held plan_held in
            let h = member_same q (look.grown.quiet n p small lp quiet).1 x in
            let c = y.here alike q h in (
              y.alike alike q h,
              subst (λ (r : ℕ). InRows after r (past_node j (enables plan) n q)) c.0
                  (rows_here rows past.state past.set word i.sixteen look.small joined _ c.1),
            )

        -- a pair past the node comes from one of the rows
        came
            : (j : Job) (plan : List ℕ) → JobHeld j l table finals states nodes → PlanHeld plan l nodes
            → (r s : ℕ) → InRows after r s → PastOf j (enables plan) l n r s
        came j plan held plan_held r s h =
            let f = i.exact j plan held plan_held in
            ⊎_elim
            (λ (old : InRows rows r s). f.past r s old)
            (λ (fresh : (r ≡ past.state) × (has past.set s ≡ true)).
            let c = (looked j plan held plan_held).from alike s fresh.1 in
            record {
              one = p;
              other = c.0;
              from = f.new n p c.0 small lp c.1;
              one_is = fresh.0 ∙ c.2.0;
              other_is = c.2.1;
            })
            (rows_fresh rows past.state past.set word i.sixteen look.small joined r s h)

        -- one row more
        pub rows_more : RowsSoFar table finals states nodes l k n due less after
        rows_more =
            record {
              short = i.short;
              passed = count_trailing_zeros 16 rest + 1;
              left = rw without (rest_next i.left some);
              sixteen = length-set rows past.state word ∙ i.sixteen;
              grown = grown_both i.grown look.grown;
              exact = λ j plan held plan_held.
                  record {
                    new = rows_new j plan held plan_held;
                    past = came j plan held plan_held;
                    here = members_more i.left (λ (r : ℕ). PassedRow j (enables plan) k n after r) some (older j plan held plan_held)
                        (subst (λ (r : ℕ). PassedRow j (enables plan) k n after r) low (this j plan held plan_held));
                  };
            }

    -- with no row left, the rows past the node are joined at its successors
    module _ {k : List ℕ} (all : rest ≡ 0) (join : JoinedPast m k n rows) where
      -- a pair that is joined past the node follows
      edge_new
          : (j : Job) (plan : List ℕ) → JobHeld j l table finals states nodes → PlanHeld plan l nodes
          → (a r s : ℕ) → EdgeIn m n a × InRows rows r s → Following j (enables plan) l a r s
      edge_new j plan held plan_held a r s (edge, h) =
          let f = (i.exact j plan held plan_held).past r s h in
          let g : Following j (enables plan) l a (past_node j full n f.one) (past_node j (enables plan) n f.other) =
          follows f.from (over_edge (((job_now held).edges n a ln).1 edge)) in
          subst (λ (x : ℕ). Following j (enables plan) l a x s) (sym f.one_is)
          (subst (λ (x : ℕ). Following j (enables plan) l a (past_node j full n f.one) x) (sym f.other_is) g)

      -- a row that was due is closed while it does not grow
      row_closed
          : (j : Job) (plan : List ℕ) → JobHeld j l table finals states nodes → PlanHeld plan l nodes
          → (r : ℕ) → has due r ≡ true → SettledRow j (enables plan) k n r
      row_closed j plan held plan_held r h quiet q x =
          let few : r < 16 = has_below 16 due r i.short h in
          let was = join.grown.quiet n r small few quiet in
          let c = members_end i.left (λ (z : ℕ). PassedRow j (enables plan) m n rows z) all (i.exact j plan held plan_held).here r h
          was.0 q (member_same q was.1 x) in
          record {
            alike = alike_kept u held join.grown.kept join.grown.held n r q small few c.0;
            edges = λ a e. join.here a _ _ (((job_now held).edges n a ln).0 e) (past_small u.cells held n r few) c.1;
          }

      -- the node is done
      pub node_looked : NodeLooked table finals states nodes l k n due
      node_looked =
          record {
            short = i.short;
            grown = grown_both i.grown join.grown;
            exact = λ j plan held plan_held.
                record {
                  new = λ a r s la lr h.
                      ⊎_elim
                      ((i.exact j plan held plan_held).new a r s la lr)
                      (edge_new j plan held plan_held a r s)
                      (join.new a r s la lr h);
                  here = row_closed j plan held plan_held;
                };
          }

-- ---- the nodes so far

-- no rows are something
pub nothing_rows : Nothing ≡ Rows → ⊥
nothing_rows e = let z : ◌≡◌ {A = ℕ} 0 1 = cc in omega arith

-- and so is a difference
pub nothing_difference : Nothing ≡ Difference → ⊥
nothing_difference e = let z : ◌≡◌ {A = ℕ} 0 1 = cc in omega arith

-- which rows are not
pub rows_difference : Rows ≡ Difference → ⊥
rows_difference e = let z : ◌≡◌ {A = ℕ} 0 1 = cc in omega arith

-- the nodes below n were looked at, for a job and a plan
pub record RoundFor (j : Job) (w : Enabling) (nodes : ℕ) (l m : List ℕ) : Type 0 where
  pub new : (k r s : ℕ) → k < 512 → r < 16 → Held m k r s → Following j w l k r s
  pub settled : Settled j w l nodes → Settled j w m nodes

-- the same for every job and plan that the buffer holds
pub record RoundSoFar (table : List (List ℕ)) (finals states nodes : ℕ) (l m : List ℕ) (n : ℕ) (seen : Seen) : Type 0 where
  pub kept : SearchKept l m
  pub held : HeldIn l m
  pub alike : seen ≡ Difference → ⊥
  pub left : pairs_left m ≤ pairs_left l
  pub less : seen ≡ Rows → pairs_left m < pairs_left l
  pub none : seen ≡ Nothing → (k : ℕ) → k < n → marks_in m k ≡ 0
  pub some : n < nodes → 0 < marks_in m n
  pub exact : (j : Job) (plan : List ℕ) → JobHeld j l table finals states nodes → PlanHeld plan l nodes → RoundFor j (enables plan) nodes l m

module _ {table : List (List ℕ)} {finals states nodes : ℕ} where
  -- none yet
  pub round_none : (l : List ℕ) (n : ℕ) → NextMarked l 0 nodes n → RoundSoFar table finals states nodes l l n Nothing
  round_none l n first =
      record {
        kept = search_kept_none l;
        held = λ n p q ln lp h. h;
        alike = nothing_difference;
        left = le_refl _;
        less = λ e. absurd (nothing_rows e);
        none = λ z k lk. first.none k (omega arith) lk;
        some = first.some;
        exact = λ j plan held plan_held. record { new = λ k r s lk lr h. held_first lk lr h; settled = λ s. s };
      }

  module _
      {l m k : List ℕ} {n due : ℕ} {seen : Seen} (u : Usable l table states nodes) (ln : n < nodes)
      (i : RoundSoFar table finals states nodes l m n seen) (t : MarksTaken m k n due) where
    -- the bytes that a search keeps
    taken_kept : SearchKept l k
    taken_kept = search_kept_both i.kept t.kept

    -- what follows a pair whose mark was taken
    taken_new
        : (j : Job) (plan : List ℕ) → JobHeld j l table finals states nodes → PlanHeld plan l nodes → {a x y : ℕ}
        → Following j (enables plan) k a x y → Following j (enables plan) l a x y
    taken_new j plan held plan_held f =
        following_both
        (λ a x y la lx h. (i.exact j plan held plan_held).new a x y la lx (member_same y (t.rows a x la lx) h))
        f

    -- no pair is lost
    taken_held : {s : List ℕ} → Grown k s → HeldIn m s
    taken_held g a x y la lx h = g.held a x y la lx (member_same y (sym (t.rows a x la lx)) h)

    -- a row that is not marked at the end was not marked before the node's turn, or it was due in it
    quiet_before
        : {s : List ℕ} → Grown k s → (a x : ℕ) → a < 512 → x < 16 → marked_in s a x ≡ false
        → (marked_in m a x ≡ false) ⊎ ((a ≡ n) × (has due x ≡ true))
    quiet_before g a x la lx quiet =
        by_cases (ℕ_discrete a n)
        (λ (e : a ≡ n).
        ⊎_elim
        (λ (y : has due x ≡ true). inr (e, y))
        (λ (y : has due x ≡ false). inl (ap (λ (z : ℕ). has z x) (ap (marks_in m) e ∙ sym t.were) ∙ y))
        (passes_or_fails (has due x)))
        (λ (ne : a ≢ n). inl (ap (λ (z : ℕ). has z x) (sym (t.others a ne)) ∙ (g.quiet a x la lx quiet).0))

    -- one node more
    pub round_more
        : {s : List ℕ} {after : ℕ} → NodeLooked table finals states nodes k s n due → NextMarked s (n + 1) nodes after
        → RoundSoFar table finals states nodes l s after Rows
    round_more {s} r up =
        record {
          kept = search_kept_both taken_kept r.grown.kept;
          held = λ a x y la lx h. taken_held r.grown a x y la lx (i.held a x y la lx h);
          alike = rows_difference;
          left = omega (arith, i.left, t.left, r.grown.left);
          less = λ e. omega (arith, i.left, t.left, r.grown.left, t.were, i.some ln);
          none = λ e. absurd (nothing_rows (sym e));
          some = up.some;
          exact = λ j plan held plan_held.
              record {
                new = λ a x y la lx h. taken_new j plan held plan_held ((looked j plan held plan_held).new a x y la lx h);
                settled = λ st a x la lx quiet y h. closed j plan held plan_held st a x la lx quiet y h;
              };
        }
      where
        -- what the node says, for a job of the first buffer
        looked
            : (j : Job) (plan : List ℕ) → JobHeld j l table finals states nodes → PlanHeld plan l nodes → NodeFor j (enables plan) k s n due
        looked j plan held plan_held =
            r.exact j plan (job_same taken_kept u held) (plan_same taken_kept plan u.few_nodes plan_held)

        -- a row that is not marked is closed: it was before, or it has just been looked at
        closed
            : (j : Job) (plan : List ℕ) → JobHeld j l table finals states nodes → PlanHeld plan l nodes → Settled j (enables plan) l nodes
            → Settled j (enables plan) s nodes
        closed j plan held plan_held st a x la lx quiet y h =
            let small : a < 512 = omega (arith, u.few_nodes) in
            ⊎_elim
            (λ (was : marked_in m a x ≡ false).
            closed_pair_kept u held (search_kept_both t.kept r.grown.kept) (taken_held r.grown) a x y small lx
            ((i.exact j plan held plan_held).settled st a x la lx was y
            (member_same y (t.rows a x small lx) (member_same y (r.grown.quiet a x small lx quiet).1 h))))
            (λ (turn : (a ≡ n) × (has due x ≡ true)).
            subst (λ (z : ℕ). SettledRow j (enables plan) s z x) (sym turn.0) ((looked j plan held plan_held).here x turn.1) quiet y h)
            (quiet_before r.grown a x small lx quiet)

    -- a row that splits ends the round
    pub round_split
        : {s o : List ℕ} {p rest : ℕ} {rows : List ℕ} {past : Past} → p < 16 → past.differs ≡ true
        → RowsSoFar table finals states nodes k s n due rest rows → LookedAt table finals s o n p past
        → RoundedAt table finals states nodes l o Difference
    round_split {s} {o} {p} {past = past} lp splits r look =
        record {
          kept = search_kept_both taken_kept (search_kept_both r.grown.kept look.grown.kept);
          held = λ a x y la lx h. look.grown.held a x y la lx (taken_held r.grown a x y la lx (i.held a x y la lx h));
          most = omega (arith, i.left, t.left, r.grown.left, look.grown.left);
          left = λ e. absurd (rows_difference (sym e));
          none = λ e. absurd (nothing_difference (sym e));
          exact = λ j plan held plan_held. rounded j plan held plan_held;
        }
      where
        -- for a job and a plan
        rounded
            : (j : Job) (plan : List ℕ) → JobHeld j l table finals states nodes → PlanHeld plan l nodes
            → Rounded j (enables plan) nodes l o Difference
        rounded j plan held plan_held =
            let there = job_same taken_kept u held in
            let there_plan = plan_same taken_kept plan u.few_nodes plan_held in
            let usable = usable_same taken_kept u in
            record {
              new = λ a y z la ly h. taken_new j plan held plan_held (rows_new usable ln r lp look j plan there there_plan a y z la ly h);
              settled = λ same. absurd (same refl);
              split = λ e.
                  let f = (looked usable ln r lp look j plan there there_plan).split splits in
                  record {
                    node = n;
                    one = p;
                    other = f.0;
                    small = ln;
                    row = lp;
                    follows = taken_new j plan held plan_held ((r.exact j plan there there_plan).new n p f.0 (omega (arith, u.few_nodes)) lp f.1);
                    splits = split_kept u held (search_kept_both taken_kept r.grown.kept) n p f.0 (omega (arith, u.few_nodes)) lp f.2;
                  };
            }

  -- all nodes
  pub round_end
      : {l m : List ℕ} {n : ℕ} {seen : Seen} → nodes ≤ n → RoundSoFar table finals states nodes l m n seen
      → RoundedAt table finals states nodes l m seen
  round_end {l} {m} {n} all i =
      record {
        kept = i.kept;
        held = i.held;
        most = i.left;
        left = i.less;
        none = λ z a la. i.none z a (omega arith);
        exact = λ j plan held plan_held.
            let x = i.exact j plan held plan_held in
            record { new = x.new; settled = λ same. x.settled; split = λ found. absurd (i.alike found) };
      }
