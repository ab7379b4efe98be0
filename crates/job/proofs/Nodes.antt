-- The rules node by node, for a search that has one set of pairs for each node.
-- Forwards, the set of an event node holds the pairs before it; any other node is entered silently, and its set holds the pairs past it.
-- Backwards, every set holds pairs past its node. The word after an exit has no set of its own.
-- Assumes nothing.
use mathlib.Core.Path.{◌≡◌}
use mathlib.Core.Logic.{◌⊎◌, ⊎_elim}
use mathlib.Core.Bool.{true, not}
use Prim.Native.Nat.{ℕ}
use Rattle.laws.specs.Bits.{has}
use Rattle.automaton.specs.Automaton.{Automaton, next, final}
use Rattle.job.specs.Job.{no_point, point, point_of, call_set, is_reentrant, is_entry, Job, node_at, leads, WellFormedJob}
use Rattle.job.specs.Walk.{Event, shadow, Place, before, past, ended}
use Rattle.job.specs.Walk.{after_word}
use Rattle.job.specs.Plan.{Enabling, state_at, alarm_at, ApartAt}
use Rattle.job.specs.Words.{WordApart, apart_here, apart_later, apart_after, Spelt, no_word, one_more, ReturnApart}
use Rattle.job.proofs.Pairs.{Pairs, Pair, begins, moves, tells, Admitted, admitted, Kept, Invariant}
use Rattle.job.proofs.Pairs.{told_splits, apart_now, apart_moved, apart_told, Backwards}
use Rattle.job.proofs.Bounds.{Within, pair_within}
use Rattle.job.proofs.KindLaws.{point_some, point_or_none, words_none, reentrant_none, enters, takes_edge, begins_after, comes_in, comes_back, reports_point, reports_word, SilentBy, by_pass, by_edge, by_exit, by_entry, by_return, silent_by, ToldBy, by_point, by_words, by_after, told_by}
use Rattle.job.proofs.Rules.{at_admitted}

-- a set of pairs for each node
abbrev pub Table : Type 1
Table = ℕ → ℕ → ℕ → Type 0

-- ---- forwards: what a table stands for

-- the pairs past a node
pub data PastNode (j : Job) (v w : Enabling) (H : Table) (n : ℕ) : ℕ → ℕ → Type 0 where
  -- a node with no event of its own holds them
  past_silent : {p q : ℕ} → point_of (node_at j n).kind ≡ no_point → H n p q → PastNode j v w H n p q
  -- an event node's own event leads to them
  past_event
      : {a p q : ℕ} → point_of (node_at j n).kind ≡ point a → H n p q
      → PastNode j v w H n (state_at j.rule v p (shadow n a)) (state_at j.rule w q (shadow n a))

-- the pairs at all places
abbrev pub places_of : Job → Enabling → Enabling → Table → Pairs
places_of j v w H (before n) p q = H n p q
places_of j v w H (past n) p q = PastNode j v w H n p q
places_of j v w H (ended n) p q = Spelt j.rule (node_at j n).after (PastNode j v w H n) p q

-- what holds in the set of a node holds past it
pub past_map
    : {j : Job} {v w : Enabling} {H K : Table} {n p q : ℕ} → ((k l : ℕ) → H n k l → K n k l) → PastNode j v w H n p q → PastNode j v w K n p q
past_map f (past_silent {p = p} {q = q} s h) = past_silent s (f p q h)
past_map f (past_event {p = p} {q = q} e h) = past_event e (f p q h)

-- what holds of some pairs holds of those that words lead to from them
pub spelt_map
    : {m : Automaton} {set : ℕ} {P Q : ℕ → ℕ → Type 0} {p q : ℕ} → ((k l : ℕ) → P k l → Q k l) → Spelt m set P p q → Spelt m set Q p q
spelt_map f (no_word {p = p} {q = q} h) = no_word (f p q h)
spelt_map f (one_more a m h) = one_more a m (spelt_map f h)

-- what tells apart after a word for one reason does so for another
pub word_map
    : {m : Automaton} {set : ℕ} {More Other : ℕ → ℕ → Type 0} {p q : ℕ} → ((k l : ℕ) → More k l → Other k l)
    → WordApart m set More p q → WordApart m set Other p q
word_map f (apart_here a m d) = apart_here a m d
word_map f (apart_later a m h) = apart_later a m (word_map f h)
word_map f (apart_after {p = p} {q = q} h) = apart_after (f p q h)

-- past a node with no event of its own there is what its set holds
pub past_at_silent : {j : Job} {v w : Enabling} {H : Table} {n p q : ℕ} → point_of (node_at j n).kind ≡ no_point → PastNode j v w H n p q → H n p q
past_at_silent s (past_silent t h) = h
past_at_silent s (past_event e h) = absurd (point_some e s)

-- ---- forwards: reached pairs

-- a pair in the set of a node that some walk reaches
pub data PairAt (j : Job) (v w : Enabling) (n p q : ℕ) : Type 0 where
  -- past a node with no event of its own
  pair_silent : point_of (node_at j n).kind ≡ no_point → Pair j v w (Admitted j) (past n) p q → PairAt j v w n p q
  -- before an event node
  pair_event : {a : ℕ} → point_of (node_at j n).kind ≡ point a → Pair j v w (Admitted j) (before n) p q → PairAt j v w n p q

module _ {j : Job} {v w : Enabling} where
  -- a pair that is reached before a node is in its set
  pub pair_enters : {n p q : ℕ} → Pair j v w (Admitted j) (before n) p q → PairAt j v w n p q
  pair_enters {n} {p} {q} r =
      ⊎_elim
      (λ (e : (a : ℕ) × (point_of (node_at j n).kind ≡ point a)). pair_event e.1 r)
      (λ (s : point_of (node_at j n).kind ≡ no_point). pair_silent s (moves r (enters n s)))
      (point_or_none (point_of (node_at j n).kind))

  -- the set of an event node holds what is reached before it
  pub pair_at_event : {n a p q : ℕ} → point_of (node_at j n).kind ≡ point a → PairAt j v w n p q → Pair j v w (Admitted j) (before n) p q
  pair_at_event e (pair_silent s r) = absurd (point_some e s)
  pair_at_event e (pair_event f r) = r

  -- that of any other node holds what is reached past it
  pub pair_at_silent : {n p q : ℕ} → point_of (node_at j n).kind ≡ no_point → PairAt j v w n p q → Pair j v w (Admitted j) (past n) p q
  pair_at_silent s (pair_silent t r) = r
  pair_at_silent s (pair_event e r) = absurd (point_some e s)

  -- what is past a node is reached
  pub past_pair : {n p q : ℕ} → PastNode j v w (PairAt j v w) n p q → Pair j v w (Admitted j) (past n) p q
  past_pair (past_silent s h) = pair_at_silent s h
  past_pair (past_event e h) = tells (pair_at_event e h) (reports_point e)

  -- so is what the words after an exit lead to
  pub spelt_pair
      : {n p q : ℕ} → (node_at j n).exit ≡ true → Spelt j.rule (node_at j n).after (PastNode j v w (PairAt j v w) n) p q
      → Pair j v w (Admitted j) (ended n) p q
  spelt_pair e (no_word h) = moves (past_pair h) (begins_after e)
  spelt_pair e (one_more a m h) = tells (spelt_pair e h) (after_word e m)

  -- a start is in the set of its node
  pub pair_at_start : {n q : ℕ} → has (node_at j n).entry q ≡ true → PairAt j v w n q q
  pair_at_start h = pair_enters (begins (admitted h))

  -- what an edge leads to is in the set there
  pub pair_at_edge : {m n p q : ℕ} → PastNode j v w (PairAt j v w) m p q → leads j m n ≡ true → PairAt j v w n p q
  pair_at_edge h l = pair_enters (moves (past_pair h) (takes_edge l))

  -- what a symbol of a call word leads to is in the set of the call
  pub pair_at_word
      : (a : ℕ) {n p q : ℕ} → has (call_set (node_at j n).kind) a ≡ true → PairAt j v w n p q
      → PairAt j v w n (next j.rule p a) (next j.rule q a)
  pair_at_word a {n} m h =
      let none = words_none (node_at j n).kind a m in pair_silent none (tells (pair_at_silent none h) (reports_word n a m))

  -- what a call that may come back in leads to is in the set of every entry
  pub pair_at_entry
      : {m n p q : ℕ} → is_reentrant (node_at j m).kind ≡ true → is_entry (node_at j n) ≡ true → PairAt j v w m p q → PairAt j v w n p q
  pair_at_entry {m} k e h = pair_enters (moves (pair_at_silent (reentrant_none (node_at j m).kind k) h) (comes_in k e))

  -- what the words after an exit lead to is in the set of every call that may come back in
  pub pair_at_return
      : {m n p q : ℕ} → (node_at j m).exit ≡ true → is_reentrant (node_at j n).kind ≡ true
      → Spelt j.rule (node_at j m).after (PastNode j v w (PairAt j v w) m) p q → PairAt j v w n p q
  pair_at_return e k h = pair_enters (moves (spelt_pair e h) (comes_back e k))

  -- a reached pair is of the job
  pub pair_at_within : {n p q : ℕ} → WellFormedJob j → PairAt j v w n p q → Within j (before n) p q
  pair_at_within wf (pair_silent s r) = let b = pair_within wf r in record { node = b.node; one = b.one; other = b.other }
  pair_at_within wf (pair_event e r) = pair_within wf r

-- ---- forwards: invariants

-- the pairs of a table that are reached
abbrev pub ReachedIn : Job → Enabling → Enabling → Table → Table
ReachedIn j v w H n p q = PairAt j v w n p q × H n p q

-- a table that holds the starts and that edges, call words, re-entries and returns keep
pub record NodeKept (j : Job) (v w : Enabling) (H : Table) : Type 0 where
  pub starts : (n q : ℕ) → has (node_at j n).entry q ≡ true → H n q q
  pub edges : (m n p q : ℕ) → PastNode j v w (ReachedIn j v w H) m p q → leads j m n ≡ true → H n p q
  pub words
      : (n a p q : ℕ) → has (call_set (node_at j n).kind) a ≡ true → ReachedIn j v w H n p q
      → H n (next j.rule p a) (next j.rule q a)
  pub enters
      : (m n p q : ℕ) → is_reentrant (node_at j m).kind ≡ true → is_entry (node_at j n) ≡ true → ReachedIn j v w H m p q → H n p q
  pub returns
      : (m n p q : ℕ) → (node_at j m).exit ≡ true → is_reentrant (node_at j n).kind ≡ true
      → Spelt j.rule (node_at j m).after (PastNode j v w (ReachedIn j v w H) m) p q → H n p q

-- a kept table under which the two monitors alarm alike at every event that may come next
pub record NodeInvariant (j : Job) (v w : Enabling) (H : Table) : Type 0 where
  pub kept : NodeKept j v w H
  pub at_point
      : (n a p q : ℕ) → point_of (node_at j n).kind ≡ point a → ReachedIn j v w H n p q
      → alarm_at j.rule v p (shadow n a) ≡ alarm_at j.rule w q (shadow n a)
  pub at_call
      : (n a p q : ℕ) → has (call_set (node_at j n).kind) a ≡ true → ReachedIn j v w H n p q
      → final j.rule (next j.rule p a) ≡ final j.rule (next j.rule q a)
  pub at_exit
      : (n a p q : ℕ) → (node_at j n).exit ≡ true → has (node_at j n).after a ≡ true
      → Spelt j.rule (node_at j n).after (PastNode j v w (ReachedIn j v w H) n) p q
      → final j.rule (next j.rule p a) ≡ final j.rule (next j.rule q a)

module _ {j : Job} {v w : Enabling} {H : Table} where
  -- a kept table is a kept set of pairs
  pub node_kept : NodeKept j v w H → Kept j v w (Admitted j) (places_of j v w (ReachedIn j v w H))
  node_kept k =
      record {
        starts = at_admitted (places_of j v w (ReachedIn j v w H)) (λ n q h. (pair_at_start h, k.starts n q h));
        moved = λ x y p q r m. moved p q (silent_by m) r;
        told = λ x y e p q r t. told p q (told_by t) r;
      }
    where
      moved : {x y : Place} (p q : ℕ) → SilentBy j x y → places_of j v w (ReachedIn j v w H) x p q → places_of j v w (ReachedIn j v w H) y p q
      moved p q (by_pass e) h = past_silent e h
      moved p q (by_edge {m = m} {n = n} l) h = (pair_at_edge (past_map (λ a b r. r.0) h) l, k.edges m n p q h l)
      moved p q (by_exit e) h = no_word h
      moved p q (by_entry {m = m} {n = n} a e) h =
          let r = past_at_silent (reentrant_none (node_at j m).kind a) h in (pair_at_entry a e r.0, k.enters m n p q a e r)
      moved p q (by_return {m = m} {n = n} x a) h =
          (pair_at_return x a (spelt_map (λ c d r. past_map (λ e f t. t.0) r) h), k.returns m n p q x a h)

      told
          : {x y : Place} {e : Event} (p q : ℕ) → ToldBy j x e y → places_of j v w (ReachedIn j v w H) x p q
          → places_of j v w (ReachedIn j v w H) y (state_at j.rule v p e) (state_at j.rule w q e)
      told p q (by_point e) h = past_event e h
      told p q (by_words {n = n} {a = a} m) h =
          let none = words_none (node_at j n).kind a m in
          let r = past_at_silent none h in
          past_silent none (pair_at_word a m r.0, k.words n a p q m r)
      told p q (by_after {a = a} e m) h = one_more a m h

  -- an invariant table is an invariant
  pub node_invariant : NodeInvariant j v w H → Invariant j v w (Admitted j) (places_of j v w (ReachedIn j v w H))
  node_invariant k = record { kept = node_kept k.kept; alike = λ x y e p q r t. alike p q (told_by t) r }
    where
      alike
          : {x y : Place} {e : Event} (p q : ℕ) → ToldBy j x e y → places_of j v w (ReachedIn j v w H) x p q
          → alarm_at j.rule v p e ≡ alarm_at j.rule w q e
      alike p q (by_point {n = n} {a = a} e) h = k.at_point n a p q e h
      alike p q (by_words {n = n} {a = a} m) h = k.at_call n a p q m (past_at_silent (words_none (node_at j n).kind a m) h)
      alike p q (by_after {n = n} {a = a} e m) h = k.at_exit n a p q e m h

-- ---- backwards

-- the pairs before a node that are told apart
pub data BeforeNode (j : Job) (v w : Enabling) (T : Table) (n : ℕ) : ℕ → ℕ → Type 0 where
  -- at a node with no event of its own, told apart past it
  before_silent : {p q : ℕ} → point_of (node_at j n).kind ≡ no_point → T n p q → BeforeNode j v w T n p q
  -- at an event node, told apart past it
  before_event
      : {a p q : ℕ} → point_of (node_at j n).kind ≡ point a → T n (state_at j.rule v p (shadow n a)) (state_at j.rule w q (shadow n a))
      → BeforeNode j v w T n p q
  -- at an event node, told apart by its own event
  event_splits
      : {a p q : ℕ} → point_of (node_at j n).kind ≡ point a → alarm_at j.rule v p (shadow n a) ≡ not (alarm_at j.rule w q (shadow n a))
      → BeforeNode j v w T n p q

-- the pairs at all places
abbrev pub places_back : Job → Enabling → Enabling → Table → Pairs
places_back j v w T (before n) p q = BeforeNode j v w T n p q
places_back j v w T (past n) p q = T n p q
places_back j v w T (ended n) p q = WordApart j.rule (node_at j n).after (ReturnApart j T) p q

-- at a node with no event of its own, what is told apart before it is told apart past it
pub before_at_silent : {j : Job} {v w : Enabling} {T : Table} {n p q : ℕ} → point_of (node_at j n).kind ≡ no_point → BeforeNode j v w T n p q → T n p q
before_at_silent s (before_silent t h) = h
before_at_silent s (before_event e h) = absurd (point_some e s)
before_at_silent s (event_splits e h) = absurd (point_some e s)

-- a table that holds, of the pairs of the job, those that edges, call words, after words and re-entries lead back to
pub record NodeBackwards (j : Job) (v w : Enabling) (T : Table) : Type 0 where
  pub edges : (m n p q : ℕ) → Within j (past m) p q → leads j m n ≡ true → BeforeNode j v w T n p q → T m p q
  pub call_splits
      : (n a p q : ℕ) → Within j (past n) p q → has (call_set (node_at j n).kind) a ≡ true
      → final j.rule (next j.rule p a) ≡ not (final j.rule (next j.rule q a)) → T n p q
  pub call_words
      : (n a p q : ℕ) → Within j (past n) p q → has (call_set (node_at j n).kind) a ≡ true
      → T n (next j.rule p a) (next j.rule q a) → T n p q
  pub after_words
      : (n p q : ℕ) → Within j (past n) p q → (node_at j n).exit ≡ true
      → WordApart j.rule (node_at j n).after (ReturnApart j T) p q → T n p q
  pub enters
      : (m n p q : ℕ) → Within j (past m) p q → is_reentrant (node_at j m).kind ≡ true → is_entry (node_at j n) ≡ true
      → BeforeNode j v w T n p q → T m p q

module _ {j : Job} {v w : Enabling} where
  -- a table that is closed backwards is a set of pairs that is
  pub node_backwards : {T : Table} → NodeBackwards j v w T → Backwards j v w (Within j) (places_back j v w T)
  node_backwards {T} b =
      record {
        now = λ x p q d s. now p q d (told_by s.told) s.differ;
        moving = λ x y p q d m t. moving p q d (silent_by m) t;
        telling = λ x y e p q d t h. telling p q d (told_by t) h;
      }
    where
      now
          : {x y : Place} {e : Event} (p q : ℕ) → Within j x p q → ToldBy j x e y
          → alarm_at j.rule v p e ≡ not (alarm_at j.rule w q e) → places_back j v w T x p q
      now p q d (by_point k) f = event_splits k f
      now p q d (by_words {n = n} {a = a} m) f = b.call_splits n a p q d m f
      now p q d (by_after {a = a} k m) f = apart_here a m f

      moving : {x y : Place} (p q : ℕ) → Within j x p q → SilentBy j x y → places_back j v w T y p q → places_back j v w T x p q
      moving p q d (by_pass k) t = before_silent k t
      moving p q d (by_edge {m = m} {n = n} l) t = b.edges m n p q d l t
      moving p q d (by_exit {n = n} k) t = b.after_words n p q d k t
      moving p q d (by_entry {m = m} {n = n} k e) t = b.enters m n p q d k e t
      moving p q d (by_return {n = n} x k) t =
          apart_after (record { node = n; again = k; apart = before_at_silent (reentrant_none (node_at j n).kind k) t })

      telling
          : {x y : Place} {e : Event} (p q : ℕ) → Within j x p q → ToldBy j x e y
          → places_back j v w T y (state_at j.rule v p e) (state_at j.rule w q e) → places_back j v w T x p q
      telling p q d (by_point k) t = before_event k t
      telling p q d (by_words {n = n} {a = a} m) t = b.call_words n a p q d m t
      telling p q d (by_after {a = a} k m) t = apart_later a m t

  -- what tells two states apart before a node
  pub before_apart : {n p q : ℕ} → BeforeNode j v w (λ m. ApartAt j v w (past m)) n p q → ApartAt j v w (before n) p q
  before_apart {n} (before_silent s a) = apart_moved (enters n s) a
  before_apart (before_event k a) = apart_told (reports_point k) a
  before_apart (event_splits k d) = apart_now (told_splits (reports_point k) d)

  -- what tells them apart in the word after an exit, or where it ends
  pub word_apart
      : {n : ℕ} {More : ℕ → ℕ → Type 0} {p q : ℕ} → ((k l : ℕ) → More k l → ApartAt j v w (ended n) k l) → (node_at j n).exit ≡ true
      → WordApart j.rule (node_at j n).after More p q → ApartAt j v w (ended n) p q
  word_apart more e (apart_here a m d) = apart_now (told_splits (after_word e m) d)
  word_apart more e (apart_later a m h) = apart_told (after_word e m) (word_apart more e h)
  word_apart more e (apart_after {p = p} {q = q} h) = more p q h

  -- what tells them apart where the word after an exit ends
  pub exit_apart
      : (n k l : ℕ) → (node_at j n).exit ≡ true → ReturnApart j (λ m. ApartAt j v w (past m)) k l → ApartAt j v w (ended n) k l
  exit_apart n k l e h =
      let m = h.node in
      apart_moved (comes_back e h.again) (apart_moved (enters m (reentrant_none (node_at j m).kind h.again)) h.apart)

  -- the pairs told apart past nodes are closed backwards
  pub apart_nodes : NodeBackwards j v w (λ n. ApartAt j v w (past n))
  apart_nodes =
      record {
        edges = λ m n p q r l h. apart_moved (takes_edge l) (before_apart h);
        call_splits = λ n a p q r m d. apart_now (told_splits (reports_word n a m) d);
        call_words = λ n a p q r m h. apart_told (reports_word n a m) h;
        after_words = λ n p q r k h. apart_moved (begins_after k) (word_apart (λ a b. exit_apart n a b k) k h);
        enters = λ m n p q r k e h. apart_moved (comes_in k e) (before_apart h);
      }
