-- Laws of the tables in the buffer: what a store of two bytes or of one byte does to rows, marks and measures.
-- Assumes nothing.
use mathlib.Core.Path.{◌≡◌, refl, sym, ap, subst, ◌∙◌}
use mathlib.Core.Logic.{◌⊎◌, inl, inr, ⊎_elim, by_cases}
use mathlib.Core.Bool.{true, false, ◌||◌, true≢false}
use mathlib.Core.List.{List}
use Prim.Native.Nat.{ℕ, ◌+◌, ◌-◌, ◌*◌, ◌^◌, ◌≤◌, ◌<◌}
use native.Mathlib.Nat.{le_refl}
use native.Mathlib.Decide.{ℕ_discrete}
use native.Mathlib.Omega.{arith}
use lib.Bits.{bit_or, or_lt}
use lib.Pow.{pow-lt}
use lib.ListN.{length}
use borrow.Author.Tests.{eq-eqb, ne_eqb}
use Rattle.buffer.specs.Layout.{pair_part, class_part, marks_part, marks_end, Lent}
use Rattle.buffer.specs.Views.{pair_row_in, marks_in, marked_in, Held}
use Rattle.buffer.specs.Kept.{Outside}
use Rattle.laws.specs.Bounded.{sum_below}
use Rattle.laws.specs.Bits.{has, with}
use Rattle.laws.specs.Bytes.{AreBytes, number_at, put_number}
use Rattle.laws.proofs.Bounded.{sum_cong, sum_change}
use Rattle.laws.proofs.Bits.{has_or, has_pow}
use Rattle.laws.proofs.Bytes.{number_lt, number_put, number_put_other, length_put, get_d_put_outside}
use Rattle.laws.proofs.Tests.{fails_of, or_left, or_right}
use Rattle.buffer.proofs.KeptLaws.{outside_part}
use Rattle.buffer.proofs.NumberTableLaws.{number_row, NumberJoined, joined_here, joined_held, joined_new, room_falls}
use Rattle.tables.specs.Tables.{joined, unmarked, pairs_left, SearchKept, PairsJoined, NextMarked, MarksTaken}
use Rattle.tables.proofs.KeptLaws.{grown_none}

-- ---- marks

-- the marks change as those of the one node that are stored
marks_change
    : (l m : List ℕ) (n a b : ℕ) → n < 512 → ((k : ℕ) → (k ≡ n → ⊥) → marks_in m k ≡ marks_in l k) → marks_in m n + a ≤ marks_in l n + b
    → sum_below 512 (λ k. marks_in m k) + a ≤ sum_below 512 (λ k. marks_in l k) + b
marks_change l m n a b h same c = sum_change 512 (λ k. marks_in m k) (λ k. marks_in l k) n a b h (λ i x. same i) c

-- the marks of another node
marks_other : (l : List ℕ) (n v k : ℕ) → (k ≡ n → ⊥) → marks_in (put_number 2 l (marks_part + n * 2) v) k ≡ marks_in l k
unfolding marks_in
marks_other l n v k h = number_row l marks_part k n v h

-- the marks that are stored
marks_here
    : (l : List ℕ) (n v : ℕ) → Lent l → n < 512 → v < 65536 → marks_in (put_number 2 l (marks_part + n * 2) v) n ≡ v
unfolding marks_in
marks_here l n v long h fits = number_put 2 l (marks_part + n * 2) v fits (omega arith)

-- a byte that a search keeps is none of the marks
not_marks
    : (n : ℕ) → n < 512 → (k : ℕ) → Outside pair_part class_part k × Outside marks_part marks_end k
    → Outside (marks_part + n * 2) (marks_part + n * 2 + 2) k
not_marks n h k o = outside_part (omega arith) (omega arith) k o.1

-- the numbers in front of the marks
number_front : (l : List ℕ) (n v i : ℕ) → i + 2 ≤ marks_part → number_at 2 (put_number 2 l (marks_part + n * 2) v) i ≡ number_at 2 l i
number_front l n v i h = number_put_other 2 2 l (marks_part + n * 2) i v (inl (omega arith))

-- marks taken down, in the shape of the code
pub marks_taken
    : (l m : List ℕ) (n due : ℕ) → Lent l → n < 512 → due ≡ number_at 2 l (marks_part + n * 2) → m ≡ put_number 2 l (marks_part + n * 2) 0
    → MarksTaken l m n due
unfolding unmarked pair_row_in marks_in pairs_left
marks_taken l m n due long few were d =
    let here : marks_in m n ≡ 0 = rw d (marks_here l n 0 long few (omega arith)) in
    let others : (k : ℕ) → (k ≡ n → ⊥) → marks_in m k ≡ marks_in l k = λ k x. rw d (marks_other l n 0 k x) in
    let row : (i : ℕ) → i + 2 ≤ marks_part → number_at 2 m i ≡ number_at 2 l i = λ i x. rw d (number_front l n 0 i x) in
    let rows = sum_cong 8192 (λ i. 65535 - number_at 2 m (pair_part + i * 2)) (λ i. 65535 - number_at 2 l (pair_part + i * 2))
    (λ i x. ap (λ (z : ℕ). 65535 - z) (row (pair_part + i * 2) (omega arith))) in
    let marks = marks_change l m n due 0 few others (omega (arith, here, were)) in
    record {
      exact = d;
      were = were;
      kept = record {
        long = rw d (length_put 2 l (marks_part + n * 2) 0);
        outside = λ k o. rw d (get_d_put_outside 2 l (marks_part + n * 2) 0 k 0 (not_marks n few k o));
      };
      rows = λ k p x y. row (pair_part + (k * 16 + p) * 2) (omega arith);
      here = here;
      others = others;
      left = omega arith;
    }

-- no node from n up to `next` has marks
pub record Unmarked (work : List ℕ) (n nodes next : ℕ) : Type 0 where
  pub from : n ≤ next
  pub within : next ≤ nodes
  pub none : (k : ℕ) → n ≤ k → k < next → marks_in work k ≡ 0

-- none yet
pub unmarked_start : (work : List ℕ) (n nodes : ℕ) → n ≤ nodes → Unmarked work n nodes n
unmarked_start work n nodes h = record { from = le_refl n; within = h; none = λ k a b. absurd (omega arith) }

module _ {work : List ℕ} {n nodes next : ℕ} (u : Unmarked work n nodes next) where
  -- a node more
  pub unmarked_more : {marks : ℕ} → next < nodes → marks ≡ number_at 2 work (marks_part + next * 2) → marks ≡ 0 → Unmarked work n nodes (next + 1)
  unfolding marks_in
  unmarked_more less is zero_is = record {
    from = omega (arith, u.from);
    within = omega arith;
    none = λ k a b.
        by_cases (ℕ_discrete k next)
        (λ (e : k ≡ next). rw (e, ← is) zero_is)
        (λ (ne : k ≡ next → ⊥). u.none k a (omega arith));
  }

  -- a node with marks
  pub next_here : {marks : ℕ} → marks ≡ number_at 2 work (marks_part + next * 2) → (marks ≡ 0 → ⊥) → NextMarked work n nodes next
  unfolding marks_in
  next_here is some = record { from = u.from; within = u.within; none = u.none; some = λ h. rw (← is) (omega arith) }

  -- all nodes are passed
  pub next_none : nodes ≤ next → NextMarked work n nodes nodes
  next_none past =
      let e : next ≡ nodes = omega (arith, u.within) in record {
        from = omega (arith, u.from);
        within = le_refl nodes;
        none = λ k a b. u.none k a (omega arith);
        some = λ h. absurd (omega arith);
      }

-- ---- a store in the rows of pairs, and then one in the marks

-- what the two leave, where marks are joined into those of node n
pub record MarksJoined (l m : List ℕ) (n marks : ℕ) : Type 0 where
  pub kept : SearchKept l m
  pub rise : sum_below 512 (λ k. marks_in m k) ≤ sum_below 512 (λ k. marks_in l k) + 65535
  pub unmarked_row : (k r : ℕ) → marked_in m k r ≡ false → (marked_in l k r ≡ false) × ((k ≡ n) → has marks r ≡ false)

module _ (wide place v : ℕ) (l w : List ℕ) (n due marks : ℕ) (from : pair_part ≤ place) (within : place + wide ≤ class_part) (long : Lent l)
    (few : n < 512) (bytes : AreBytes l) (were : due ≡ number_at 2 l (marks_part + n * 2)) (d : w ≡ put_number wide l place v) (fits : marks < 65536) where
  -- the buffer after the two stores
  abbrev stored : List ℕ
  stored = put_number 2 w (marks_part + n * 2) (bit_or due marks)

  -- the first store keeps the length
  first_long : length w ≡ length l
  first_long = rw d (length_put wide l place v)

  -- the marks have two bytes
  due_fits : bit_or due marks < 65536
  due_fits = or_lt 16 due marks (rw were (number_lt 2 l (marks_part + n * 2) bytes)) fits

  -- the marks of the node
  node_marks : marks_in stored n ≡ bit_or due marks
  node_marks = marks_here w n (bit_or due marks) (omega (arith, first_long)) few due_fits

  -- as they were
  due_marks : marks_in l n ≡ due
  unfolding marks_in
  due_marks = sym were

  -- the marks of another node
  other_marks : (k : ℕ) → (k ≡ n → ⊥) → marks_in stored k ≡ marks_in l k
  unfolding marks_in
  other_marks k x =
      marks_other w n (bit_or due marks) k x ∙ rw d (number_put_other wide 2 l place (marks_part + k * 2) v (inr (omega arith)))

  -- a byte that a search keeps is none of the rows that were stored
  not_rows : (k : ℕ) → Outside pair_part class_part k × Outside marks_part marks_end k → Outside place (place + wide) k
  not_rows k o = outside_part from within k o.0

  -- a row that is not marked was not, and is none of those that are marked
  row_unmarked : (k r : ℕ) → marked_in stored k r ≡ false → (marked_in l k r ≡ false) × ((k ≡ n) → has marks r ≡ false)
  row_unmarked k r z =
      by_cases (ℕ_discrete k n)
      (λ (c : k ≡ n).
      let z' : (has due r || has marks r) ≡ false =
      sym (has_or due marks r) ∙ ap (λ (x : ℕ). has x r) (sym (ap (marks_in stored) c ∙ node_marks)) ∙ z in (
        ap (λ (x : ℕ). has x r) (ap (marks_in l) c ∙ due_marks) ∙ fails_of (has due r) (λ y. true≢false (sym (or_left (has due r) (has marks r) y) ∙ z')),
        λ y. fails_of (has marks r) (λ x. true≢false (sym (or_right (has due r) (has marks r) x) ∙ z')),
      ))
      (λ (c : k ≡ n → ⊥). (ap (λ (x : ℕ). has x r) (sym (other_marks k c)) ∙ z, λ y. absurd (c y)))

  -- all of it
  pub marks_joined : MarksJoined l (put_number 2 w (marks_part + n * 2) (bit_or due marks)) n marks
  marks_joined = record {
    kept = record {
      long = length_put 2 w (marks_part + n * 2) (bit_or due marks) ∙ first_long;
      outside = λ k o.
          get_d_put_outside 2 w (marks_part + n * 2) (bit_or due marks) k 0 (not_marks n few k o)
          ∙ rw d (get_d_put_outside wide l place v k 0 (not_rows k o));
    };
    rise = omega (arith, marks_change l stored n 0 65535 few other_marks (omega (arith, node_marks, due_fits)));
    unmarked_row = row_unmarked;
  }

-- ---- rows of pairs

module _ (l : List ℕ) (n p s : ℕ) (long : Lent l) (few : n < 512) (small : p < 16) (bytes : AreBytes l) (fits : s < 65536) where
  -- a set that the row holds, in the shape of the code
  pub pairs_same : (old : ℕ) → old ≡ number_at 2 l (pair_part + (n * 16 + p) * 2) → bit_or old s ≡ old → PairsJoined l l n p s
  unfolding joined pair_row_in
  pairs_same old e h =
      let g : bit_or (number_at 2 l (pair_part + (n * 16 + p) * 2)) s ≡ number_at 2 l (pair_part + (n * 16 + p) * 2) = rw e at h in
      record {
        exact = rw (eq-eqb (bit_or (number_at 2 l (pair_part + (n * 16 + p) * 2)) s) (number_at 2 l (pair_part + (n * 16 + p) * 2)) g);
        grown = grown_none l;
        here = λ q x.
            ap (λ (z : ℕ). has z q) (sym g) ∙ has_or (number_at 2 l (pair_part + (n * 16 + p) * 2)) s q
            ∙ or_right (has (number_at 2 l (pair_part + (n * 16 + p) * 2)) q) (has s q) x;
        new = λ k r q x y z. inl z;
      }

  module _ (w : List ℕ) (old due : ℕ) (e : old ≡ number_at 2 l (pair_part + (n * 16 + p) * 2)) (h : bit_or old s ≡ old → ⊥)
      (were : due ≡ number_at 2 l (marks_part + n * 2)) (d : w ≡ put_number 2 l (pair_part + (n * 16 + p) * 2) (bit_or old s)) where
    -- the buffer after the two stores
    abbrev m : List ℕ
    m = put_number 2 w (marks_part + n * 2) (with due p)

    -- what they leave of the marks
    joined_marks : MarksJoined l m n (2 ^ p)
    joined_marks =
        marks_joined 2 (pair_part + (n * 16 + p) * 2) (bit_or old s) l w n due (2 ^ p) (omega arith) (omega arith) long few bytes were d (pow-lt small)

    -- the union has two bytes
    new_fits : bit_or old s < 65536
    new_fits = or_lt 16 old s (rw e (number_lt 2 l (pair_part + (n * 16 + p) * 2) bytes)) fits

    -- the row joined
    row_here : number_at 2 m (pair_part + (n * 16 + p) * 2) ≡ bit_or old s
    row_here =
        number_front w n (with due p) (pair_part + (n * 16 + p) * 2) (omega arith)
        ∙ rw d (number_put 2 l (pair_part + (n * 16 + p) * 2) (bit_or old s) new_fits (omega arith))

    -- another row
    row_other : (i : ℕ) → i < 8192 → (i ≡ n * 16 + p → ⊥) → number_at 2 m (pair_part + i * 2) ≡ number_at 2 l (pair_part + i * 2)
    row_other i x y =
        number_front w n (with due p) (pair_part + i * 2) (omega arith) ∙ rw d (number_row l pair_part i (n * 16 + p) (bit_or old s) y)

    -- one row alone is joined
    row_joined : NumberJoined l m pair_part (n * 16 + p) s
    row_joined = record { here = rw (← e) row_here; others = row_other }

    -- the room falls by one at least, which counts for more than the mark
    less : pairs_left m < pairs_left l
    unfolding pairs_left
    less =
        let rows = room_falls row_joined (omega arith) (λ z. h (sym row_here ∙ z ∙ sym e)) (omega (arith, row_here, new_fits)) in
        omega (arith, joined_marks.rise)

    -- a pair that was held
    held : (k r q : ℕ) → k < 512 → r < 16 → Held l k r q → Held m k r q
    unfolding pair_row_in
    held k r q x y z = joined_held row_joined (k * 16 + r) q (omega arith) z

    -- a pair that is held
    fresh : (k r q : ℕ) → k < 512 → r < 16 → Held m k r q → Held l k r q ⊎ ((k ≡ n) × ((r ≡ p) × (has s q ≡ true)))
    unfolding pair_row_in
    fresh k r q x y z =
        ⊎_elim
        (λ (a : has (number_at 2 l (pair_part + (k * 16 + r) * 2)) q ≡ true). inl a)
        (λ (a : (k * 16 + r ≡ n * 16 + p) × (has s q ≡ true)). inr (omega (arith, a.0), (omega (arith, a.0), a.1)))
        (joined_new row_joined (k * 16 + r) q (omega arith) z)

    -- a row that is not marked is another, as it was
    quiet
        : (k r : ℕ) → k < 512 → r < 16 → marked_in m k r ≡ false → (marked_in l k r ≡ false) × (pair_row_in m k r ≡ pair_row_in l k r)
    unfolding pair_row_in
    quiet k r x y z =
        let u = joined_marks.unmarked_row k r z in (
          u.0,
          row_other (k * 16 + r) (omega arith)
              (λ c.
              let e : r ≡ p = omega arith in
              true≢false (sym (has_pow p p ∙ eq-eqb p p refl) ∙ ap (has (2 ^ p)) (sym e) ∙ u.1 (omega arith))),
        )

    -- a set that makes the row grow
    grows : PairsJoined l m n p s
    unfolding joined pair_row_in marks_in
    grows = record {
      exact =
          rw (
            ne_eqb (bit_or (number_at 2 l (pair_part + (n * 16 + p) * 2)) s) (number_at 2 l (pair_part + (n * 16 + p) * 2)) (rw e at h),
            ← e,
            ← were,
            ← d,
          );
      grown = record { kept = joined_marks.kept; held = held; quiet = quiet; left = omega (arith, less); less = inr less };
      here = λ q x. joined_here row_joined q x;
      new = fresh;
    }

    -- in the shape of the code
    pub pairs_grow : (o : List ℕ) (v : ℕ) → v ≡ with due p → o ≡ put_number 2 w (marks_part + n * 2) v → PairsJoined l o n p s
    pairs_grow o v is last =
        subst (λ (x : List ℕ). PairsJoined l x n p s) (sym (last ∙ ap (λ (x : ℕ). put_number 2 w (marks_part + n * 2) x) is)) grows
