-- The rows of pairs as the starts are joined: those of one node, then those of all.
-- Assumes nothing.
use mathlib.Core.Path.{◌≡◌, sym, subst, ◌∙◌}
use mathlib.Core.Logic.{◌⊎◌, inl, inr, ⊎_elim, ◌≢◌, by_cases}
use mathlib.Core.Bool.{true, true≢false}
use mathlib.Core.List.{List}
use Prim.Native.Nat.{ℕ, suc, ◌+◌, ◌-◌, ◌*◌, ◌≤◌, ◌<◌}
use native.Mathlib.Decide.{ℕ_discrete}
use native.Mathlib.Omega.{arith}
use lib.Bits.{bit_and}
use lib.Count.{count_trailing_zeros}
use lib.ListN.{get_or}
use Rattle.buffer.proofs.KeptLaws.{Kept-then}
use Rattle.laws.specs.Bits.{has, with}
use Rattle.laws.specs.Bytes.{AreBytes, number_at}
use Rattle.laws.proofs.Bytes.{number_lt}
use Rattle.laws.proofs.Bits.{has_empty, has_below, has_with_same, has_with_other}
use Rattle.laws.proofs.Walk.{Rest, rest_start, rest_from, rest_lt, rest_low, rest_next, members_more, members_end}
use Rattle.job.specs.Job.{Node}
use Rattle.buffer.specs.Layout.{pair_part, class_part, marks_part, marks_end}
use Rattle.buffer.specs.Views.{node_in, pair_row_in, Held}
use Rattle.buffer.specs.Kept.{Zeroed}
use Rattle.tables.specs.Tables.{SearchKept, Grown, PairsJoined}
use Rattle.starts.specs.Started.{StartedNode, Started}
use Rattle.tables.proofs.RowLaws.{has_nothing}
use Rattle.tables.proofs.KeptLaws.{search_kept_both, grown_none, grown_both, node_same}

-- ---- one node

-- the only member of a set of one
one_member : (k i : ℕ) → has (with 0 k) i ≡ true → k ≡ i
one_member k i h =
    by_cases (ℕ_discrete i k)
    (λ (e : i ≡ k). sym e)
    (λ (ne : i ≢ k). absurd (true≢false (sym h ∙ has_with_other 0 k i ne ∙ has_empty i)))

-- the admitted states below the number passed were joined
pub record StartingNode (l m : List ℕ) (n s rest : ℕ) : Type 0 where
  pub passed : ℕ
  pub left : Rest 16 s rest passed
  pub grown : Grown l m
  pub here : (q : ℕ) → q < passed → has s q ≡ true → Held m n q q
  pub new : (k p q : ℕ) → k < 512 → p < 16 → Held m k p q → Held l k p q ⊎ ((k ≡ n) × ((p ≡ q) × (has s q ≡ true)))

-- none yet
pub node_start : (l : List ℕ) (n s : ℕ) → s < 65536 → StartingNode l l n s s
node_start l n s h =
    record {
      passed = 0;
      left = rest_start 16 s (omega arith);
      grown = grown_none l;
      here = λ q lt. absurd (omega arith);
      new = λ k p q lk lp held. inl held;
    }

-- one state more
pub node_more
    : {l m k : List ℕ} {n s rest q set less : ℕ} → n < 512 → StartingNode l m n s rest → 0 < rest → q ≡ count_trailing_zeros 16 rest
    → set ≡ with 0 q → less ≡ bit_and rest (rest - 1) → PairsJoined m k n q set → StartingNode l k n s less
node_more {l} {m} {k} {n} {s} {rest} {q} {set} {less} ln i p low one without j =
    record {
      passed = count_trailing_zeros 16 rest + 1;
      left = rw without (rest_next i.left p);
      grown = grown_both i.grown j.grown;
      here = members_more i.left (λ (x : ℕ). Held k n x x) p
          (λ x lt h. j.grown.held n x x ln (omega (arith, below x lt)) (i.here x lt h))
          (subst (λ (x : ℕ). Held k n x x) low (j.here q (rw one (has_with_same 0 q))));
      new = λ a b c la lb h.
          ⊎_elim
          (λ (old : Held m a b c). i.new a b c la lb old)
          (λ (fresh : (a ≡ n) × ((b ≡ q) × (has set c ≡ true))).
          let e : q ≡ c = one_member q c (rw one at fresh.1.1) in
          inr (fresh.0, (fresh.1.0 ∙ e, subst (λ (x : ℕ). has s x ≡ true) (sym low ∙ e) (rest_low i.left p))))
          (j.new a b c la lb h);
    }
  where
    -- a number passed is below 16
    below : (x : ℕ) → x < i.passed → x < 16
    below x lt = omega (arith, rest_from i.left p, rest_lt i.left p)

-- all of them
pub Node-End
    : {l m : List ℕ} {n s rest : ℕ} → s ≡ (node_in l n).entry → rest ≡ 0 → StartingNode l m n s rest → StartedNode l m n
Node-End {l} {m} {n} {s} e z i =
    record {
      grown = i.grown;
      here = λ q h. members_end i.left (λ (x : ℕ). Held m n x x) z i.here q (rw e h);
      new = λ k p q lk lp h.
          ⊎_elim
          (λ (old : Held l k p q). inl old)
          (λ (fresh : (k ≡ n) × ((p ≡ q) × (has s q ≡ true))). inr (fresh.0, (fresh.1.0, rw e at fresh.1.1)))
          (i.new k p q lk lp h);
    }

-- ---- all nodes

-- the starts of the nodes below n were joined
pub record Starting (l m : List ℕ) (n : ℕ) : Type 0 where
  pub grown : Grown l m
  pub here : (k q : ℕ) → k < n → has (node_in l k).entry q ≡ true → Held m k q q
  pub new
      : (k p q : ℕ) → k < 512 → p < 16 → Held m k p q → Held l k p q ⊎ ((k < n) × ((p ≡ q) × (has (node_in l k).entry q ≡ true)))

-- none yet
pub starting_none : (l : List ℕ) → Starting l l 0
starting_none l = record { grown = grown_none l; here = λ k q lt. absurd (omega arith); new = λ k p q lk lp h. inl h }

-- the members of an entry set are below 16
entry_below : (l : List ℕ) (n q : ℕ) → AreBytes l → has (node_in l n).entry q ≡ true → q < 16
unfolding node_in
entry_below l n q bytes h = has_below 16 (number_at 2 l (n * 8 + 2)) q (number_lt 2 l (n * 8 + 2) bytes) h

-- a node more
pub starting_more
    : {l m k : List ℕ} {n : ℕ} → n < 512 → Starting l m n → AreBytes l → StartedNode m k n → Starting l k (n + 1)
starting_more {l} {m} {k} {n} ln i bytes s =
    record {
      grown = grown_both i.grown s.grown;
      here = λ a q la h.
          by_cases (ℕ_discrete a n)
          (λ (e : a ≡ n). rw e (s.here q (subst (λ (x : Node). has x.entry q ≡ true) (sym same) (rw e at h))))
          (λ (ne : a ≢ n). s.grown.held a q q (omega arith) (entry_below l a q bytes h) (i.here a q (omega arith) h));
      new = λ a p q la lp h.
          ⊎_elim
          (λ (old : Held m a p q).
          ⊎_elim
          (λ (first : Held l a p q). inl first)
          (λ (earlier : (a < n) × ((p ≡ q) × (has (node_in l a).entry q ≡ true))). inr (omega arith, earlier.1))
          (i.new a p q la lp old))
          (λ (fresh : (a ≡ n) × ((p ≡ q) × (has (node_in m n).entry q ≡ true))).
          inr (
            omega arith,
            (fresh.1.0, rw fresh.0 (subst (λ (x : Node). has x.entry q ≡ true) same fresh.1.1)),
          ))
          (s.new a p q la lp h);
    }
  where
    -- the node is as it was
    same : node_in m n ≡ node_in l n
    same = node_same i.grown.kept n ln

module _ {l k m : List ℕ} (rows : Zeroed l k pair_part class_part) (marks : Zeroed k m marks_part marks_end) where
  -- the parts that were cleared are those of the search
  zeroed_kept : SearchKept l m
  zeroed_kept = Kept-then (λ i o. o) rows.kept marks.kept

  -- a byte of the rows is zero
  zeroed_byte : (i : ℕ) → pair_part ≤ i → i < class_part → get_or m i 0 ≡ 0
  zeroed_byte i a b = marks.kept.outside i (inl (omega arith)) ∙ rows.zeros i a b

  -- so are the rows
  zeroed_row : (n p : ℕ) → n < 512 → p < 16 → pair_row_in m n p ≡ 0
  unfolding pair_row_in number_at
  zeroed_row n p ln lp =
      let at = pair_part + (n * 16 + p) * 2 in
      let first = zeroed_byte at (omega arith) (omega arith) in
      let second = zeroed_byte (suc at) (omega arith) (omega arith) in
      omega (arith, first, second)

  -- all nodes
  pub starting_end : {s : List ℕ} {nodes n : ℕ} → nodes ≤ 512 → nodes ≡ n → Starting m s n → Started l s nodes
  starting_end {s} {nodes} {n} few all i =
      record {
        kept = search_kept_both zeroed_kept i.grown.kept;
        here = λ a q la h.
            i.here a q (omega arith) (subst (λ (x : Node). has x.entry q ≡ true) (sym (node_same zeroed_kept a (omega arith))) h);
        only = λ a p q la lp h.
            ⊎_elim
            (λ (old : Held m a p q). absurd (has_nothing q (zeroed_row a p la lp) old))
            (λ (fresh : (a < n) × ((p ≡ q) × (has (node_in m a).entry q ≡ true))). (
              omega arith,
              (fresh.1.0, subst (λ (x : Node). has x.entry q ≡ true) (node_same zeroed_kept a la) fresh.1.1),
            ))
            (i.new a p q la lp h);
        quiet = λ a p la lp q. (i.grown.quiet a p la lp q).1 ∙ zeroed_row a p la lp;
      }
