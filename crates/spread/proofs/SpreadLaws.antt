-- Laws of moving a row by each symbol of a call set.
-- Assumes nothing.
use mathlib.Core.Path.{◌≡◌, refl, sym, subst, ◌∙◌}
use mathlib.Core.Logic.{◌⊎◌, inl, inr, ⊎_elim}
use mathlib.Core.Bool.{Bool, true, false, not, true≢false, false≢true}
use mathlib.Core.List.{List}
use Prim.Native.Nat.{ℕ, ◌+◌, ◌-◌, ◌^◌, ◌≤◌, ◌<◌}
use native.Mathlib.Omega.{arith}
use borrow.Author.Tests.{ne_eqb}
use lib.Bits.{bit_and}
use lib.Count.{count_trailing_zeros}
use Rattle.laws.specs.Bits.{has}
use Rattle.laws.proofs.Bits.{has_below}
use Rattle.laws.proofs.Walk.{Rest, rest_start, rest_low, rest_lt, rest_next, members_more, members_end}
use Rattle.automaton.specs.Automaton.{cell}
use Rattle.job.specs.Search.{unlike}
use Rattle.tables.specs.Rows.{CellsBelow, meets, unlike_states, image_of}
use Rattle.buffer.specs.Views.{Held}
use Rattle.tables.specs.Tables.{Grown, PairsJoined}
use Rattle.spread.specs.Spreading.{WordFrom, Spread}
use Rattle.tables.proofs.RowLaws.{meets_says, meets_none, has_unlike, has_image_of}
use Rattle.tables.proofs.KeptLaws.{grown_none, grown_both}

-- ---- unlike tests

-- tests that are not unlike are the same
pub like_same : (a b : Bool) → unlike a b ≡ false → a ≡ b
like_same true true e = refl
like_same true false e = absurd (true≢false e)
like_same false b e = sym e

-- unlike tests are contrary
pub unlike_contrary : (a b : Bool) → unlike a b ≡ true → a ≡ not b
unlike_contrary true true e = absurd (false≢true e)
unlike_contrary true false e = refl
unlike_contrary false b e = rw e

-- ---- the code's test

-- no common bit: the sets do not meet
pub apart_meets : (s t : ℕ) → bit_and s t ≡ 0 → meets s t ≡ false
apart_meets s t e = rw e

-- some common bit: they do
pub some_meets : (s t : ℕ) → (bit_and s t ≡ 0 → ⊥) → meets s t ≡ true
some_meets s t ne = rw (ne_eqb (bit_and s t) 0 ne)

-- ---- a row moved by a symbol

module _ (table : List (List ℕ)) (finals a s state : ℕ) (cells : CellsBelow table) (symbol : a < 16) (short : s < 2 ^ 16) where
  -- where no state unlike the one moved to is in the moved row, every state of the row alarms like it
  pub moved_alike
      : meets (image_of table a s) (unlike_states finals state) ≡ false → (q : ℕ) → has s q ≡ true
      → has finals state ≡ has finals (cell table q a)
  moved_alike none q h =
      let small : q < 16 = has_below 16 s q short h in
      like_same (has finals state) (has finals (cell table q a))
      (sym (has_unlike finals state (cell table q a) (cells q a small symbol))
      ∙ meets_none (image_of table a s) (unlike_states finals state) (cell table q a) none
      ((has_image_of table a s (cell table q a)).1 (q, small, h, refl)))

  -- where one is, some state of the row alarms unlike it
  pub moved_split
      : meets (image_of table a s) (unlike_states finals state) ≡ true
      → (q : ℕ) × (has s q ≡ true) × (has finals state ≡ not (has finals (cell table q a)))
  moved_split some =
      let t = (meets_says (image_of table a s) (unlike_states finals state)).0 some in
      let f = (has_image_of table a s t.0).0 t.1 in (
        f.0,
        f.2,
        unlike_contrary (has finals state) (has finals (cell table f.0 a))
            (sym (has_unlike finals state (cell table f.0 a) (cells f.0 a f.1 symbol))
            ∙ subst (λ (k : ℕ). has (unlike_states finals state) k ≡ true) (sym f.3) t.2),
      )

-- ---- the walk of the set

-- what a symbol that was passed leaves
abbrev pub Passed : List (List ℕ) → ℕ → List ℕ → ℕ → ℕ → ℕ → ℕ → Type 0
Passed table finals m n p s a =
    (q : ℕ) → has s q ≡ true
    → Held m n (cell table p a) (cell table q a) × (has finals (cell table p a) ≡ has finals (cell table q a))

-- the row was moved by the symbols of the set before those that are left
pub record Spreading (table : List (List ℕ)) (finals : ℕ) (l m : List ℕ) (n p s set rest : ℕ) : Type 0 where
  pub passed : ℕ
  pub in_width : passed ≤ 16
  pub left : Rest 16 set rest passed
  pub grown : Grown l m
  pub here : (a : ℕ) → a < passed → has set a ≡ true → Passed table finals m n p s a
  pub new : (k r q : ℕ) → k < 512 → r < 16 → Held m k r q → Held l k r q ⊎ ((k ≡ n) × WordFrom table set p s r q)

-- the walk starts with the whole set
pub spreading_start
    : (table : List (List ℕ)) (finals : ℕ) (l : List ℕ) (n p s set : ℕ) → set < 2 ^ 16
    → Spreading table finals l l n p s set set
spreading_start table finals l n p s set short = record {
  passed = 0;
  in_width = omega arith;
  left = rest_start 16 set short;
  grown = grown_none l;
  here = λ a b. absurd (omega arith);
  new = λ k r q a b h. inl h;
}

module _ (table : List (List ℕ)) (finals : ℕ) (l m : List ℕ) (n p s set rest a state moved contrary : ℕ) (cells : CellsBelow table)
    (node : n < 512) (row : p < 16) (short : s < 2 ^ 16) (inv : Spreading table finals l m n p s set rest) (more : 0 < rest)
    (low : a ≡ count_trailing_zeros 16 rest) (next : state ≡ cell table p a) (image : moved ≡ image_of table a s)
    (unlikes : contrary ≡ unlike_states finals state) where
  -- the symbol is below 16
  pub symbol_small : a < 16
  symbol_small = rw low (rest_lt inv.left more)

  -- and one of the set
  pub symbol_of_set : has set a ≡ true
  symbol_of_set = rw low (rest_low inv.left more)

  -- a symbol that alarms differently ends the walk
  pub spreading_split : (bit_and moved contrary ≡ 0 → ⊥) → Spread table finals l m n p s set true
  spreading_split some = record {
    grown = inv.grown;
    here = λ e. absurd (true≢false e);
    alike = λ e. absurd (true≢false e);
    split = λ e. (a, found.0, symbol_small, symbol_of_set, found.1, differ);
    new = inv.new;
  }
    where
      found : (q : ℕ) × (has s q ≡ true) × (has finals state ≡ not (has finals (cell table q a)))
      found = moved_split table finals a s state cells symbol_small short (rw (image, unlikes) at (some_meets moved contrary some))

      differ : has finals (cell table p a) ≡ not (has finals (cell table found.0 a))
      differ = subst (λ (k : ℕ). has finals k ≡ not (has finals (cell table found.0 a))) next found.2

  -- any other is joined
  pub spreading_more
      : (m' : List ℕ) (rest' : ℕ) → bit_and moved contrary ≡ 0 → PairsJoined m m' n state moved
      → rest' ≡ bit_and rest (rest - 1) → Spreading table finals l m' n p s set rest'
  spreading_more m' rest' none joined without = record {
    passed = count_trailing_zeros 16 rest + 1;
    in_width = omega (arith, rest_lt inv.left more);
    left = rw without (rest_next inv.left more);
    grown = grown_both inv.grown joined.grown;
    here = members_more inv.left (Passed table finals m' n p s) more kept (subst (Passed table finals m' n p s) low now);
    new = λ k r q x y h.
        ⊎_elim
        (λ (z : Held m k r q). inv.new k r q x y z)
        (λ (z : (k ≡ n) × ((r ≡ state) × (has moved q ≡ true))). inr (z.0, from r q z.1.0 z.1.1))
        (joined.new k r q x y h);
  }
    where
      kept : (i : ℕ) → i < inv.passed → has set i ≡ true → Passed table finals m' n p s i
      kept i b h q g = (
        joined.grown.held n (cell table p i) (cell table q i) node
            (cells p i row (omega (arith, inv.in_width))) (inv.here i b h q g).0,
        (inv.here i b h q g).1,
      )

      now : Passed table finals m' n p s a
      now q g = (
        subst (λ (k : ℕ). Held m' n k (cell table q a)) next
            (joined.here (cell table q a)
            (rw image ((has_image_of table a s (cell table q a)).1 (q, has_below 16 s q short g, g, refl)))),
        subst (λ (k : ℕ). has finals k ≡ has finals (cell table q a)) next
            (moved_alike table finals a s state cells symbol_small short
            (rw (image, unlikes) at (apart_meets moved contrary none)) q g),
      )

      from : (r q : ℕ) → r ≡ state → has moved q ≡ true → WordFrom table set p s r q
      from r q e h =
          let f = (has_image_of table a s q).0 (rw image at h) in
          record {
            symbol = a;
            state = f.0;
            small = symbol_small;
            of_set = symbol_of_set;
            of_row = f.2;
            one = e ∙ next;
            other = sym f.3;
          }

-- where no symbol is left, all are joined
pub spreading_end
    : (table : List (List ℕ)) (finals : ℕ) (l m : List ℕ) (n p s set rest : ℕ) → Spreading table finals l m n p s set rest
    → rest ≡ 0 → Spread table finals l m n p s set false
spreading_end table finals l m n p s set rest inv none = record {
  grown = inv.grown;
  here = λ e a q x h g. (members_end inv.left (Passed table finals m n p s) none inv.here a h q g).0;
  alike = λ e a q x h g. (members_end inv.left (Passed table finals m n p s) none inv.here a h q g).1;
  split = λ e. absurd (false≢true e);
  new = inv.new;
}
