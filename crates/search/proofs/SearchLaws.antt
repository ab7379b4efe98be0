-- What the rows of pairs say of a plan: a closed table makes it faithful, a reached pair that splits makes it different.
-- Assumes nothing.
use mathlib.Core.Path.{◌≡◌, refl, sym, ap, subst, ◌∙◌}
use mathlib.Core.Logic.{⊎_elim}
use mathlib.Core.Bool.{Bool, true, false, not, true≢false}
use mathlib.Core.List.{List}
use Prim.Native.Nat.{ℕ, ◌≤◌, ◌<◌}
use native.Mathlib.Nat.{lt_of_not-le}
use native.Mathlib.Omega.{arith}
use lib.ListN.{length, get_or-eq_default}
use Rattle.laws.specs.Bits.{has}
use Rattle.laws.proofs.Bits.{has_empty}
use Rattle.laws.proofs.Tests.{same_or_contrary}
use Rattle.automaton.specs.Automaton.{next, final}
use Rattle.job.specs.Job.{Point, no_point, point, point_of, is_event, Node, Job, node_at, no_node, leads, WellFormedJob}
use Rattle.job.specs.Walk.{shadow, before}
use Rattle.job.proofs.KindLaws.{event_point, words_none, begins_after, reports_point, reports_word}
use Rattle.job.specs.Plan.{Enabling, full, enables, state_at, ArrivesAt, Different}
use Rattle.job.specs.Search.{faithful}
use Rattle.job.specs.Words.{WordApart, apart_here, apart_later, Spelt, no_word, one_more, NothingMore}
use Rattle.job.proofs.Pairs.{pair_least, arrives_at_says, told_splits, apart_now, apart_moved}
use Rattle.job.proofs.Bounds.{entry_node, is_entry_node, reentrant_node, exit_node, pair_within}
use Rattle.job.proofs.Decide.{different_says}
use Rattle.job.proofs.Rules.{pair_different, faithful_true}
use Rattle.job.proofs.Nodes.{Table, PastNode, past_silent, past_event, spelt_map, past_map, spelt_pair}
use Rattle.job.proofs.Nodes.{PairAt, pair_at_start, pair_at_event, pair_at_silent, past_pair, pair_at_edge, pair_at_word, pair_at_entry, pair_at_return, pair_at_within}
use Rattle.job.proofs.Nodes.{ReachedIn, NodeKept, NodeInvariant, node_kept, node_invariant, word_apart}
use Rattle.buffer.specs.Views.{class_row_in, Held}
use Rattle.tables.specs.Tables.{SearchKept}
use Rattle.tables.specs.Held.{Usable, JobHeld, PlanHeld, AfterHeld}
use Rattle.look.specs.Looking.{past_state, past_node, Follows, over_edge, by_word_lem, by_entry, by_return, ClosedPair, SplitPair, split_point, split_call, split_exit}
use Rattle.rounds.specs.Rounds.{ClosedAt, Following, held_first, follows, Settled, RoundedAt}
use Rattle.exitrows.specs.Ended.{PastHeld}
use Rattle.returns.specs.CameBack.{NothingBack, NoMarks, CameBackAt}
use Rattle.search.specs.Searched.{SearchedAt}
use Rattle.search.proofs.RoundsLaws.{Further}
use Rattle.starts.specs.Started.{Started}
use Rattle.rounds.specs.declared.Seen.{Seen}
use Rattle.rounds.specs.declared.Seen.TheVariants.{Difference}
use Rattle.tables.proofs.RowLaws.{has_nothing}
use Rattle.tables.proofs.KeptLaws.{search_kept_none, search_kept_both, node_same, class_same, usable_same, job_same, plan_same}

-- ---- past a node

-- an equation for each state
both_moved : (P : ℕ → ℕ → Type 0) {p q r s : ℕ} → p ≡ r → q ≡ s → P p q → P r s
both_moved P {p} {q} {r} {s} e f h = subst (λ (x : ℕ). P r x) f (subst (λ (x : ℕ). P x q) e h)

-- what stands past a node that has a pair
pub past_of
    : {j : Job} {w : Enabling} {H : Table} (n p q : ℕ) → H n p q → PastNode j full w H n (past_node j full n p) (past_node j w n q)
past_of {j} {w} {H} n p q h = go (point_of (node_at j n).kind) refl
  where
    go : (x : Point) → point_of (node_at j n).kind ≡ x → PastNode j full w H n (past_state j.rule full n x p) (past_state j.rule w n x q)
    go no_point e = past_silent e h
    go (point a) e = past_event e h

-- a node with no point leaves the state
past_none : (j : Job) (v : Enabling) (n p : ℕ) → point_of (node_at j n).kind ≡ no_point → past_node j v n p ≡ p
past_none j v n p e = ap (λ (x : Point). past_state j.rule v n x p) e

-- a point moves it
past_own
    : (j : Job) (v : Enabling) (n p a : ℕ) → point_of (node_at j n).kind ≡ point a → past_node j v n p ≡ state_at j.rule v p (shadow n a)
past_own j v n p a e = ap (λ (x : Point). past_state j.rule v n x p) e

-- a pair past a node, and the one that it comes from
record PastFrom (j : Job) (w : Enabling) (H : Table) (n p q : ℕ) : Type 0 where
  one : ℕ
  other : ℕ
  from : H n one other
  one_is : past_node j full n one ≡ p
  other_is : past_node j w n other ≡ q

-- every pair past a node comes from one
past_from : {j : Job} {w : Enabling} {H : Table} {n p q : ℕ} → PastNode j full w H n p q → PastFrom j w H n p q
past_from {j} {w} {n = n} (past_silent {p = p} {q = q} s h) =
    record { one = p; other = q; from = h; one_is = past_none j full n p s; other_is = past_none j w n q s }
past_from {j} {w} {n = n} (past_event {a = a} {p = p} {q = q} e h) =
    record { one = p; other = q; from = h; one_is = past_own j full n p a e; other_is = past_own j w n q a e }

-- ---- what follows is reached

-- what follows a reached pair
pub follows_reached
    : {j : Job} {w : Enabling} {n p q k r s : ℕ} → PairAt j full w n p q → Follows j w n p q k r s → PairAt j full w k r s
follows_reached {n = n} {p = p} {q = q} h (over_edge l) = pair_at_edge (past_of n p q h) l
follows_reached h (by_word_lem a m) = pair_at_word a m h
follows_reached h (by_entry k e) = pair_at_entry k e h
follows_reached {j} {w} {n} {p} {q} h (by_return x k t) =
    pair_at_return x k
    (spelt_map
    (λ a b f. both_moved (PastNode j full w (PairAt j full w) n) (sym f.0) (sym f.1) (past_of n p q h))
    t)

-- what follows a table of reached pairs
pub following_reached
    : {j : Job} {w : Enabling} {l : List ℕ} {n p q : ℕ}
    → ((n p q : ℕ) → n < 512 → p < 16 → Held l n p q → PairAt j full w n p q) → Following j w l n p q → PairAt j full w n p q
following_reached r (held_first {n = n} {p = p} {q = q} ln lp h) = r n p q ln lp h
following_reached r (follows f g) = follows_reached (following_reached r f) g

-- ---- a split

-- a reached pair that splits makes the plan different
pub split_different
    : {j : Job} {w : Enabling} {work : List ℕ} {nodes n p q : ℕ} → WellFormedJob j → AfterHeld j work nodes → n < nodes
    → PairAt j full w n p q → SplitPair j w work n p q → Different j w
split_different wf a l r (split_point e d) = pair_different (pair_at_event e r) (apart_now (told_splits (reports_point e) d))
split_different {j} {n = n} wf a l r (split_call s m d) =
    pair_different (pair_at_silent (words_none (node_at j n).kind s m) r) (apart_now (told_splits (reports_word n s m) d))
split_different {j} {w} {n = n} {p = p} {q = q} wf a l r (split_exit h) =
    let x = past_pair (past_of n p q r) in
    let s = a.sound n (past_node j full n p) (past_node j w n q) l (omega (arith, (pair_within wf x).one, wf.rule.few_states)) h in
    pair_different x (apart_moved (begins_after s.0) (word_apart (λ k l h. absurd h) s.0 s.1))

-- ---- a closed table

-- the starts are held, every node is closed, what comes in again and what returns is held, and the class rows hold the after words
pub record ClosedTable (j : Job) (w : Enabling) (work : List ℕ) : Type 0 where
  pub formed : WellFormedJob j
  pub starts : (n q : ℕ) → has (node_at j n).entry q ≡ true → Held work n q q
  pub closed : (n : ℕ) → n < length j.nodes → ClosedAt j w work n
  pub back : NothingBack j w (length j.nodes) work
  pub after : AfterHeld j work (length j.nodes)

module _ {j : Job} {w : Enabling} {work : List ℕ} (t : ClosedTable j w work) where
  -- a pair of the table that is reached is closed
  closed_pair : {n p q : ℕ} → ReachedIn j full w (Held work) n p q → ClosedPair j w work n p q
  closed_pair {n} {p} {q} h =
      let b = pair_at_within t.formed h.0 in
      t.closed n b.node p q b.one h.1

  -- what an edge leads to is held
  edge_held
      : (n : ℕ) {m p q : ℕ} → PastNode j full w (ReachedIn j full w (Held work)) m p q → leads j m n ≡ true → Held work n p q
  edge_held n h l =
      let f = past_from h in
      both_moved (Held work n) f.one_is f.other_is ((closed_pair f.from).edges n l)

  -- past an exit no word over the after set tells a pair apart
  never_apart
      : {n p q : ℕ} → (node_at j n).exit ≡ true
      → Spelt j.rule (node_at j n).after (PastNode j full w (ReachedIn j full w (Held work)) n) p q
      → WordApart j.rule (node_at j n).after NothingMore p q → ⊥
  never_apart {n} x (no_word {p = p} {q = q} h) a =
      let f = past_from h in
      let b = pair_within t.formed (past_pair (past_map (λ k l r. r.0) h)) in
      let e = both_moved (λ (k l : ℕ). has (class_row_in work n k) l ≡ false) f.one_is f.other_is (closed_pair f.from).alike.at_exit in
      true≢false (sym (t.after.whole n p q b.node b.one b.other x a) ∙ e)
  never_apart x (one_more s m h) a = never_apart x h (apart_later s m a)

  -- a closed table is kept
  closed_kept : NodeKept j full w (Held work)
  closed_kept =
      record {
        starts = t.starts;
        edges = λ m n p q h l. edge_held n h l;
        words = λ n a p q m h. (closed_pair h).alike.words a m;
        enters = λ m n p q k e h.
            t.back.enters m n p q (reentrant_node j m k) (is_entry_node j n e) k e (small (pair_at_within t.formed h.0).one) h.1;
        returns = λ m n p q x k h.
            t.back.returns m n p q (exit_node j m x) (reentrant_node j n k) x k
            (small (pair_within t.formed (spelt_pair x (spelt_map (λ a b f. past_map (λ c d r. r.0) f) h))).one)
            (spelt_map (λ a b f. past_held f) h);
      }
    where
      -- a state of the rule is below 16
      small : {p : ℕ} → p < j.rule.states → p < 16
      small l = omega (arith, t.formed.rule.few_states)

      -- a pair past a node
      past_held : {n p q : ℕ} → PastNode j full w (ReachedIn j full w (Held work)) n p q → PastHeld j w work n p q
      past_held h =
          let f = past_from h in
          record {
            index = f.one;
            below = small (pair_at_within t.formed f.from.0).one;
            holds = record { other = f.other; from = f.from.1; one_is = sym f.one_is; other_is = sym f.other_is };
          }

  -- and under it the monitors alarm alike
  closed_invariant : NodeInvariant j full w (Held work)
  closed_invariant =
      record {
        kept = closed_kept;
        at_point = λ n a p q e h. (closed_pair h).alike.at_point a e;
        at_call = λ n a p q m h. (closed_pair h).alike.at_call a m;
        at_exit = λ n a p q x m h.
            ⊎_elim
            (λ (e : final j.rule (next j.rule p a) ≡ final j.rule (next j.rule q a)). e)
            (λ (d : final j.rule (next j.rule p a) ≡ not (final j.rule (next j.rule q a))).
            absurd (never_apart x h (apart_here a m d)))
            (same_or_contrary (final j.rule (next j.rule p a)) (final j.rule (next j.rule q a)));
      }

-- a closed table makes the plan faithful
pub closed_faithful : {j : Job} (plan : List ℕ) {work : List ℕ} → ClosedTable j (enables plan) work → faithful j plan ≡ true
closed_faithful plan t = faithful_true t.formed plan (node_invariant (closed_invariant t))

-- ---- the pairs at an event node

-- an event node is one of the job
pub event_node : (j : Job) (n : ℕ) → is_event (node_at j n).kind ≡ true → n < length j.nodes
event_node j n e =
    lt_of_not-le (λ l.
    true≢false (sym e ∙ ap (λ (m : Node). is_event m.kind) (get_or-eq_default j.nodes no_node l)))

-- a pair of its set that is reached arrives there
reached_arrives
    : {j : Job} {w : Enabling} {n p q : ℕ} → is_event (node_at j n).kind ≡ true → PairAt j full w n p q → ArrivesAt j full w (before n) p q
reached_arrives {j} {w} {n} {p} {q} e h =
    (arrives_at_says (before n) p q).0 (pair_at_event (event_point (node_at j n).kind e).1 h)

-- a closed table holds every pair that arrives before a node with a point
arrives_held
    : {j : Job} {w : Enabling} {work : List ℕ} {n p q : ℕ} → ClosedTable j w work → ArrivesAt j full w (before n) p q → Held work n p q
arrives_held {n = n} {p = p} {q = q} t a = (pair_least (node_kept (closed_kept t)) ((arrives_at_says (before n) p q).1 a)).1

-- ---- the search, round by round

-- the after words of a well-formed job are kept
after_kept
    : {j : Job} {l m : List ℕ} {nodes : ℕ} → WellFormedJob j → SearchKept l m → nodes ≤ 512 → AfterHeld j l nodes → AfterHeld j m nodes
after_kept wf k few a =
    record {
      sound = λ n p q ln lp h.
          a.sound n p q ln lp (sym (ap (λ (x : ℕ). has x q) (class_same k n p (omega arith) lp)) ∙ h);
      whole = λ n p q ln lp lq e h.
          ap (λ (x : ℕ). has x q) (class_same k n p (omega arith) (omega (arith, wf.rule.few_states)))
          ∙ a.whole n p q ln lp lq e h;
    }

-- what the rows of pairs say of a job and a plan after rounds that found no difference
pub record SearchingFor (j : Job) (plan : List ℕ) (nodes : ℕ) (m : List ℕ) : Type 0 where
  pub reached : (n p q : ℕ) → n < 512 → p < 16 → Held m n p q → PairAt j full (enables plan) n p q
  pub starts : (n q : ℕ) → has (node_at j n).entry q ≡ true → Held m n q q
  pub settled : Settled j (enables plan) m nodes

-- the same for every job and plan that the first buffer holds
pub record Searching (table : List (List ℕ)) (finals states nodes : ℕ) (l m : List ℕ) : Type 0 where
  pub kept : SearchKept l m
  pub exact
      : (j : Job) (plan : List ℕ) → JobHeld j l table finals states nodes → PlanHeld plan l nodes → AfterHeld j l nodes
      → SearchingFor j plan nodes m

-- the search begins with the starts
pub searching_start
    : {table : List (List ℕ)} {finals states nodes : ℕ} {l m : List ℕ} → nodes ≤ 512 → Started l m nodes
    → Searching table finals states nodes m m
searching_start {nodes = nodes} {l = l} {m = m} few s =
    record {
      kept = search_kept_none m;
      exact = λ j plan held plan_held after. record {
        reached = λ n p q ln lp h.
            let o = s.only n p q ln lp h in
            subst (λ (x : ℕ). PairAt j full (enables plan) n x q) (sym o.1.0)
            (pair_at_start (subst (λ (x : Node). has x.entry q ≡ true) (sym (node_same s.kept n ln) ∙ held.node n o.0) o.1.1));
        starts = λ n q h.
            let ln : n < nodes = omega (arith, entry_node j n q h, held.nodes_are) in
            s.here n q ln (subst (λ (x : Node). has x.entry q ≡ true) (sym (held.node n ln) ∙ node_same s.kept n (omega arith)) h);
        settled = λ n p ln lp quiet q h. absurd (has_nothing q (s.quiet n p (omega arith) lp quiet) h);
      };
    }

module _
    {table : List (List ℕ)} {finals states nodes : ℕ} {l m : List ℕ} (u : Usable l table states nodes)
    (s : Searching table finals states nodes l m) where
  -- a job of the first buffer is held
  now_held : {j : Job} → JobHeld j l table finals states nodes → JobHeld j m table finals states nodes
  now_held held = job_same s.kept u held

  -- and so is a plan
  now_plan : (plan : List ℕ) → PlanHeld plan l nodes → PlanHeld plan m nodes
  now_plan plan held = plan_same s.kept plan u.few_nodes held

  -- the search goes on after such a step
  searching_further
      : {k : List ℕ} → SearchKept m k → ((n p q : ℕ) → n < 512 → p < 16 → Held m n p q → Held k n p q)
      → ((j : Job) (plan : List ℕ) → JobHeld j m table finals states nodes → PlanHeld plan m nodes → Further j (enables plan) nodes m k)
      → Searching table finals states nodes l k
  searching_further kept stays exact =
      record {
        kept = search_kept_both s.kept kept;
        exact = λ j plan held plan_held after.
            let i = s.exact j plan held plan_held after in
            let x = exact j plan (now_held held) (now_plan plan plan_held) in
            record {
              reached = λ n p q ln lp h. following_reached i.reached (x.new n p q ln lp h);
              starts = λ n q h.
                  stays n q q
                  (omega (arith, entry_node j n q h, held.nodes_are, u.few_nodes))
                  (omega (arith, held.formed.entries n q h, held.formed.rule.few_states))
                  (i.starts n q h);
              settled = x.settled i.settled;
            };
      }

  -- a round without a difference
  pub searching_round
      : {k : List ℕ} {seen : Seen} → RoundedAt table finals states nodes m k seen → (seen ≡ Difference → ⊥)
      → Searching table finals states nodes l k
  searching_round r alike =
      searching_further r.kept r.held
      (λ j plan held plan_held. let x = r.exact j plan held plan_held in record { new = x.new; settled = x.settled alike })

  -- what comes back
  pub searching_back
      : {k : List ℕ} {more : Bool} → CameBackAt table finals states nodes m k more → Searching table finals states nodes l k
  searching_back b =
      searching_further b.kept b.held
      (λ j plan held plan_held. let x = b.exact j plan held plan_held in record { new = x.new; settled = x.settled })

module _
    {table : List (List ℕ)} {finals states nodes : ℕ} {o l m : List ℕ} (before : SearchKept o l) (u : Usable o table states nodes)
    (s : Searching table finals states nodes l m) where
  -- the bounds of all
  usable : Usable l table states nodes
  usable = usable_same before u

  -- the bytes that the search keeps, with a step more
  all_kept : {k : List ℕ} → SearchKept m k → SearchKept o k
  all_kept kept = search_kept_both before (search_kept_both s.kept kept)

  -- an event node lies within the table
  inside : (j : Job) → JobHeld j o table finals states nodes → (n : ℕ) → is_event (node_at j n).kind ≡ true → n < 512
  inside j held n e = omega (arith, event_node j n e, held.nodes_are, u.few_nodes)

  -- with nothing marked and nothing that comes back the table is closed
  searching_closed
      : {k : List ℕ} {j : Job} {plan : List ℕ} → SearchKept m k → JobHeld j l table finals states nodes → AfterHeld j l nodes
      → SearchingFor j plan nodes k → NoMarks k nodes → NothingBack j (enables plan) nodes k → ClosedTable j (enables plan) k
  searching_closed {k} {j} {plan} kept held after i none back =
      record {
        formed = held.formed;
        starts = i.starts;
        closed = λ n a p q lp h.
            let ln : n < nodes = omega (arith, held.nodes_are) in
            i.settled n p ln (omega (arith, held.formed.rule.few_states))
            (ap (λ (x : ℕ). has x p) (none n ln) ∙ has_empty p) q h;
        back = subst (λ (x : ℕ). NothingBack j (enables plan) x k) held.nodes_are back;
        after = subst (λ (x : ℕ). AfterHeld j k x) held.nodes_are
            (after_kept held.formed (search_kept_both s.kept kept) u.few_nodes after);
      }

  -- where nothing more comes back the search ends: the plan is faithful
  pub searching_end
      : {k : List ℕ} {more : Bool} → CameBackAt table finals states nodes m k more → more ≡ false
      → SearchedAt table finals states nodes o k true
  searching_end b over =
      record {
        kept = all_kept b.kept;
        exact = λ j plan held plan_held after.
            let here = job_same before u held in
            let here_plan = plan_same before plan u.few_nodes plan_held in
            let words = after_kept held.formed before u.few_nodes after in
            let i = (searching_back usable s b).exact j plan here here_plan words in
            let back = (b.exact j plan (now_held usable s here) (now_plan usable s plan here_plan)).over over in
            let t = searching_closed b.kept here words i (b.none over) back in
            record {
              exact = sym (closed_faithful plan t);
              arrive = λ n p q e lp h. reached_arrives e (i.reached n p q (inside j held n e) lp h);
              held = λ y n p q e a. arrives_held t a;
            };
      }

  -- and so does it at a difference: the plan is not
  pub searching_split
      : {k : List ℕ} {seen : Seen} → RoundedAt table finals states nodes m k seen → seen ≡ Difference
      → SearchedAt table finals states nodes o k false
  searching_split r found =
      record {
        kept = all_kept r.kept;
        exact = λ j plan held plan_held after.
            let here = job_same before u held in
            let here_plan = plan_same before plan u.few_nodes plan_held in
            let words = after_kept held.formed before u.few_nodes after in
            let i = s.exact j plan here here_plan words in
            let x = r.exact j plan (now_held usable s here) (now_plan usable s plan here_plan) in
            let f = x.split found in
            record {
              exact =
                  sym ((different_says held.formed plan).1
                  (split_different held.formed (after_kept held.formed s.kept u.few_nodes words) f.small
                  (following_reached i.reached f.follows) f.splits));
              arrive = λ n p q e lp h.
                  reached_arrives e (following_reached i.reached (x.new n p q (inside j held n e) lp h));
              held = λ y. absurd (true≢false (sym y));
            };
      }
