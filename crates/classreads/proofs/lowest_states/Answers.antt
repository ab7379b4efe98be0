-- `classreads::lowest_states` meets its contract.
-- Invariant: `out` is the lowest states below q, and `apart` the states told apart from every state below q.
-- Each turn keeps bit q of `apart`, then cuts `apart` by row q.
-- Assumes nothing.
use mathlib.Core.Path.{◌≡◌, sym, ap, ◌∙◌}
use mathlib.Core.Bool.{Bool, not, cond, ◌&&◌}
use mathlib.Core.List.{List}
use Prim.Native.Nat.{ℕ, ◌+◌, ◌*◌, ◌%◌, ◌^◌, ◌<◌}
use native.Mathlib.Numerals.{add-one}
use native.Mathlib.Omega.{arith}
use lib.Bits.{bit_and, bit_or}
use Rattle.laws.specs.Bounded.{all_below}
use Rattle.laws.specs.Bits.{has}
use Rattle.laws.proofs.Bounded.{all_none}
use Rattle.laws.proofs.Bits.{has_empty, has_and}
use Rattle.job.specs.Found.{set_of}
use Rattle.buffer.specs.Views.{class_row_in}
use Rattle.classes.specs.Backwards.{is_lowest, lowest_states}
use Rattle.tables.proofs.Complement.{has_complement}
use Rattle.tables.proofs.SetLaws.{set_of_none, set_of_more, kept_bit}
use Rattle.classreads.proofs.lowest_states.Invariants.{cleared}
use Rattle.classreads.proofs.lowest_states.Goals as goal

-- one test more
all_suc : (k : ℕ) (f : ℕ → Bool) → all_below (k + 1) f ≡ (all_below k f && f k)
unfolding all_below
all_suc k f = rw add-one

-- a turn joins q where it is the lowest of its class
turn_out
    : (work : List ℕ) (n out apart q : ℕ) → out ≡ set_of q (is_lowest work n) → q < 16 → has apart q ≡ cleared work n q q
    → bit_or out (bit_and apart ((1 * 2 ^ q) % 65536)) ≡ set_of (q + 1) (is_lowest work n)
turn_out work n out apart q exact l here =
    ap (λ (s : ℕ). bit_or s (bit_and apart ((1 * 2 ^ q) % 65536))) exact
    ∙ set_of_more q (is_lowest work n) (bit_and apart ((1 * 2 ^ q) % 65536))
    (kept_bit 16 apart q l ∙ ap (λ (b : Bool). cond b (2 ^ q) 0) here)

-- and leaves the states told apart from q too
turn_apart
    : (work : List ℕ) (n apart q row i : ℕ) → has apart i ≡ cleared work n q i → row ≡ class_row_in work n q
    → has (bit_and apart row) i ≡ cleared work n (q + 1) i
turn_apart work n apart q row i other row_is =
    has_and apart row i ∙ ap (λ (b : Bool). b && has row i) other ∙ ap (λ (s : ℕ). cleared work n q i && has s i) row_is
    ∙ sym (all_suc q (λ (p : ℕ). has (class_row_in work n p) i))

pub loop-q-init : goal.loop-q-init
loop-q-init c = record {
  exact = sym (set_of_none (is_lowest c.args.work.now c.args.n));
  others = λ i l.
      has_complement 16 0 i (omega arith) l ∙ ap not (has_empty i)
      ∙ sym (all_none (λ (p : ℕ). has (class_row_in c.args.work.now c.args.n p) i));
}

pub loop-q-preserved : goal.loop-q-preserved
loop-q-preserved c =
    let loop = c.loop-q in
    let l : loop.q < 16 = omega (arith, c.requires.1.1) in
    record {
      exact = turn_out _ _ loop.out loop.apart loop.q loop.invariant.exact l (loop.invariant.others loop.q l);
      others = λ i m. turn_apart _ _ loop.apart loop.q c.class_row-apart.result i (loop.invariant.others i m) c.class_row-apart.ensures;
    }

pub returns : goal.returns
unfolding lowest_states
returns c =
    let loop = c.loop-q in
    let args = c.args in
    let e : loop.q ≡ args.states = omega arith in
    loop.invariant.exact ∙ ap (λ (k : ℕ). set_of k (is_lowest args.work.now args.n)) e
