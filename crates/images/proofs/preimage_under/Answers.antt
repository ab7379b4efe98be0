-- `images::preimage_under` meets its contract.
-- Invariant: bit i of `out` says whether the symbol leads state q + i, one below S, into the set.
-- Each turn moves `out` up by one and joins the bit of the state led to.
-- Assumes nothing.
use mathlib.Core.Path.{◌≡◌, refl, sym, ap, ◌∙◌, subst}
use mathlib.Core.Bool.{Bool, true, false, ◌&&◌, ◌||◌}
use mathlib.Core.List.{List}
use Prim.Native.Nat.{ℕ, zero, suc, ◌+◌, ◌-◌, ◌*◌, ◌/◌, ◌%◌, ◌^◌, ◌<◌}
use native.Mathlib.Omega.{arith}
use borrow.Author.Rules.{rules}
use borrow.Author.Tests.{lt-ltb, le-ltb, ne_eqb}
use lib.Dec.{eqb}
use lib.Bits.{bit_and, bit_or, or_lt, and_mask}
use Rattle.laws.specs.Bits.{bit, has}
use Rattle.laws.proofs.Bits.{bit_lt, bit_member, bit_none, bit_mod, bit_shl, bit_shl_low, has_same, has_or, has_pow, has_empty, set_ext}
use Rattle.automaton.specs.Automaton.{cell}
use Rattle.tables.specs.Rows.{preimage_of}
use Rattle.tables.proofs.SetLaws.{set_of_lt}
use Rattle.tables.proofs.RowLaws.{has_preimage}
use Rattle.images.proofs.preimage_under.Invariants.{led, Looked}
use Rattle.images.proofs.preimage_under.Goals as goal

-- the lowest bit of a shifted set
low_bit : (s to i : ℕ) → has (bit_and (s / 2 ^ to) 1) i ≡ (has s to && eqb i 0)
low_bit s to i = ap (λ (n : ℕ). has n i) (and_mask (s / 2 ^ to) 1) ∙ go (has s to) refl
  where
    go : (b : Bool) → has s to ≡ b → has (bit s to) i ≡ (b && eqb i 0)
    go true e = rw (bit_member s to e) (has_pow 0 i)
    go false e = rw (bit_none s to e) (has_empty i)

-- what is moved up by one
moved_up : (out i : ℕ) → suc i < 16 → has ((out * 2 ^ 1) % 2 ^ 16) (suc i) ≡ has out i
moved_up out i h =
    has_same ((out * 2 ^ 1) % 2 ^ 16) (out * 2 ^ 1) (suc i) (suc i) (bit_mod (out * 2 ^ 1) 16 (suc i) h)
    ∙ has_same (out * 2 ^ 1) out (suc i) i (ap (λ (n : ℕ). bit (out * 2 ^ 1) n) (one_more i) ∙ bit_shl out 1 i)
  where
    one_more : (i : ℕ) → suc i ≡ 1 + i
    one_more i = omega arith

-- and its lowest place is free
moved_low : (out : ℕ) → has ((out * 2 ^ 1) % 2 ^ 16) 0 ≡ false
unfolding has
moved_low out =
    ap (λ (n : ℕ). eqb n 1) (bit_mod (out * 2 ^ 1) 16 0 (omega arith) ∙ bit_shl_low out 1 0 (omega arith))

-- a turn of the loop
turn
    : (table : List (List ℕ)) (states a s out q to : ℕ) → Looked table states a s out (suc q) → to ≡ cell table q a
    → Looked table states a s (bit_or ((out * 2 ^ 1) % 2 ^ 16) (bit_and (s / 2 ^ to) 1)) q
turn table states a s out q to l next_is = record {
  within = omega (arith, l.within);
  small =
      or_lt 16 ((out * 2 ^ 1) % 2 ^ 16) (bit_and (s / 2 ^ to) 1) (omega arith)
      (let e : bit_and (s / 2 ^ to) 1 ≡ bit s to = and_mask (s / 2 ^ to) 1 in omega (arith, bit_lt s to));
  exact = λ i h. has_or ((out * 2 ^ 1) % 2 ^ 16) (bit_and (s / 2 ^ to) 1) i ∙ at i h;
}
  where
    here : led table states a s q ≡ has s (cell table q a)
    here = ap (λ (b : Bool). b && has s (cell table q a)) (lt-ltb q states l.within)

    zero_more : (q : ℕ) → q + 0 ≡ q
    zero_more q = omega arith

    one_later : (q i : ℕ) → suc q + i ≡ q + suc i
    one_later q i = omega arith

    and_true : (b : Bool) → (b && true) ≡ b
    and_true true = refl
    and_true false = refl

    and_false : (b : Bool) → (b && false) ≡ false
    and_false true = refl
    and_false false = refl

    or_false : (b : Bool) → (b || false) ≡ b
    or_false true = refl
    or_false false = refl

    at : (i : ℕ) → i < 16 → (has ((out * 2 ^ 1) % 2 ^ 16) i || has (bit_and (s / 2 ^ to) 1) i) ≡ led table states a s (q + i)
    at zero h =
        ap (λ (b : Bool). b || has (bit_and (s / 2 ^ to) 1) 0) (moved_low out)
        ∙ low_bit s to 0
        ∙ and_true (has s to)
        ∙ ap (has s) next_is
        ∙ sym (ap (λ (n : ℕ). led table states a s n) (zero_more q) ∙ here)
    at (suc i) h =
        ap (λ (b : Bool). b || has (bit_and (s / 2 ^ to) 1) (suc i)) (moved_up out i h)
        ∙ ap (λ (b : Bool). has out i || b) (low_bit s to (suc i) ∙ ap (λ (b : Bool). has s to && b) (ne_eqb (suc i) 0 (λ e. omega arith)) ∙ and_false (has s to))
        ∙ or_false (has out i)
        ∙ l.exact i (omega arith)
        ∙ ap (led table states a s) (one_later q i)

-- from 0 on
from_zero : (q i : ℕ) → q ≡ 0 → q + i ≡ i
from_zero q i e = omega arith

pub loop-q-init : goal.loop-q-init
loop-q-init c = record {
  within = search rules;
  small = omega arith;
  exact = λ i h.
      has_empty i
      ∙ sym
      (ap (λ (b : Bool). b && has c.args.s (cell c.args.table.now (c.args.states + i) c.args.a))
      (le-ltb (c.args.states + i) c.args.states (omega arith)));
}

pub next_state-to-requires : goal.next_state-to-requires
next_state-to-requires c = (omega (arith, c.requires.0, c.loop-q.invariant.within), c.requires.1)

pub loop-q-preserved : goal.loop-q-preserved
loop-q-preserved c =
    let loop = c.loop-q in
    let args = c.args in
    let down : loop.q ≡ suc (loop.q - 1) = omega arith in
    turn args.table.now args.states args.a args.s loop.out (loop.q - 1) c.next_state-to.result
    (subst (λ (n : ℕ). Looked args.table.now args.states args.a args.s loop.out n) down loop.invariant)
    c.next_state-to.ensures.0

pub returns : goal.returns
unfolding preimage_of
returns c =
    let loop = c.loop-q in
    let args = c.args in
    let e : loop.q ≡ 0 = omega arith in
    set_ext 16 loop.out (preimage_of args.table.now args.states args.a args.s) loop.invariant.small
    (set_of_lt 16 args.states (λ (q : ℕ). has args.s (cell args.table.now q args.a)) c.requires.0)
    (λ i h.
    loop.invariant.exact i h
    ∙ ap (led args.table.now args.states args.a args.s) (from_zero loop.q i e)
    ∙ sym (has_preimage args.table.now args.states args.a args.s i))
