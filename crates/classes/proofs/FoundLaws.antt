-- What is found at a point, read off right rows, is what the job's definitions say.
-- Assumes nothing.
use mathlib.Core.Path.{◌≡◌, ap, ◌∙◌}
use mathlib.Core.Logic.{by_cases}
use mathlib.Core.Bool.{Bool, true, false, not, cond, ◌&&◌, ◌||◌}
use mathlib.Core.List.{List}
use Prim.Native.Nat.{ℕ, ◌≤◌, ◌<◌}
use native.Mathlib.Nat.{lt_of_lt_of_le, lt_trans}
use native.Mathlib.Decide.{dec_lt}
use native.Mathlib.Omega.{arith}
use lib.Dec.{eqb}
use borrow.Author.Tests.{lt-ltb, le-ltb}
use Rattle.laws.specs.Bounded.{all_below, sum_below}
use Rattle.laws.specs.Bits.{has}
use Rattle.laws.proofs.Tests.{test_ext}
use Rattle.laws.proofs.Bounded.{all_at, all_of, all_cong, sum_cong}
use Rattle.automaton.specs.Automaton.{next, final, cell}
use Rattle.job.specs.Job.{Job}
use Rattle.job.specs.Search.{arrives, apart}
use Rattle.job.specs.Found.{states_before, lowest, class_count, nop_shadow}
use Rattle.buffer.specs.Views.{pair_row_in, class_row_in}
use Rattle.tables.specs.Held.{JobHeld}
use Rattle.classes.specs.Backwards.{ClassesHeld, held_states, is_lowest, is_nop}
use Rattle.tables.proofs.SetLaws.{has_set_test, set_of_cong}

-- ---- the before set

-- a test that fails where another passes is its contrary
contrary : (a b : Bool) → a ≡ not b → not a ≡ b
contrary a true e = ap not e
contrary a false e = ap not e

-- where the rows that hold pairs are those of the states in which walks arrive, they are the before set
pub held_states_before
    : (j : Job) (work : List ℕ) (n : ℕ)
    → ((q : ℕ) → q < j.rule.states → eqb (pair_row_in work n q) 0 ≡ not (arrives j n q))
    → held_states work n j.rule.states ≡ states_before j n
unfolding held_states
held_states_before j work n h =
    set_of_cong j.rule.states (λ (q : ℕ). not (eqb (pair_row_in work n q) 0)) (arrives j n)
    (λ q l. contrary (eqb (pair_row_in work n q) 0) (arrives j n q) (h q l))

-- ---- the classes

-- the lowest states
pub is_lowest_held
    : (j : Job) (work : List ℕ) (nodes n q : ℕ) → ClassesHeld j work nodes → n < nodes → q < j.rule.states
    → is_lowest work n q ≡ lowest j n q
is_lowest_held j work nodes n q h l m =
    all_cong q (λ (p : ℕ). has (class_row_in work n p) q) (λ (p : ℕ). apart j n p q) (λ p k. h n p q l (lt_trans k m) m)

-- their number
pub sum_lowest_held
    : (j : Job) (work : List ℕ) (nodes n : ℕ) → ClassesHeld j work nodes → n < nodes
    → sum_below j.rule.states (λ q. cond (is_lowest work n q) 1 0) ≡ class_count j n
sum_lowest_held j work nodes n h l =
    sum_cong j.rule.states (λ (q : ℕ). cond (is_lowest work n q) 1 0) (λ (q : ℕ). cond (lowest j n q) 1 0)
    (λ q m. ap (λ (b : Bool). cond b 1 0) (is_lowest_held j work nodes n q h l m))

-- ---- the nop mark

-- the test at a number: it is no member, or it moves to a state that is neither final nor told apart from it
abbrev pub mark : Bool → Bool → Bool → Bool
mark member final apart = not member || (not final && not apart)

-- a number that is no member passes
pub mark_other : (m f r : Bool) → m ≡ false → mark m f r ≡ true
mark_other m f r p = rw p

-- a test that passes from k on is one of the numbers below k
all_short
    : (w k : ℕ) (f : ℕ → Bool) → k ≤ w → ((i : ℕ) → k ≤ i → f i ≡ true) → all_below w f ≡ all_below k f
all_short w k f l h =
    test_ext (all_below w f) (all_below k f)
    (λ p. all_of k f (λ i m. all_at w f p i (lt_of_lt_of_le m l)))
    (λ p. all_of w f (λ i m. by_cases (dec_lt i k) (λ s. all_at k f p i s) (λ g. h i (omega arith))))

module _
    (j : Job) (l work : List ℕ) (table : List (List ℕ)) (finals states nodes n a before : ℕ)
    (job : JobHeld j l table finals states nodes) (classes : ClassesHeld j work nodes) (small : n < nodes)
    (symbol : a < j.rule.symbols) (is_before_lem : before ≡ states_before j n) where
  -- the test at a state, as it is read off the table and the rows
  abbrev read : ℕ → Bool
  read q = mark (has before q) (has finals (cell table q a)) (has (class_row_in work n (cell table q a)) q)

  -- the definition's test
  abbrev meant : ℕ → Bool
  meant q = mark (arrives j n q) (final j.rule (next j.rule q a)) (apart j n (next j.rule q a) q)

  -- a state is in the before set where a walk arrives in it
  has_before : (q : ℕ) → q < j.rule.states → has before q ≡ arrives j n q
  has_before q m =
      ap (λ (s : ℕ). has s q) is_before_lem ∙ has_set_test j.rule.states (arrives j n) q
      ∙ ap (λ (b : Bool). b && arrives j n q) (lt-ltb q j.rule.states m)

  -- no other number is in it
  has_before_past : (q : ℕ) → j.rule.states ≤ q → has before q ≡ false
  has_before_past q m =
      ap (λ (s : ℕ). has s q) is_before_lem ∙ has_set_test j.rule.states (arrives j n) q
      ∙ ap (λ (b : Bool). b && arrives j n q) (le-ltb q j.rule.states m)

  -- the two tests agree at a state
  read_meant : (q : ℕ) → q < j.rule.states → read q ≡ meant q
  read_meant q m =
      let rule = job.formed.rule in
      let to : cell table q a ≡ next j.rule q a =
      job.cells q a (lt_of_lt_of_le m rule.few_states) (lt_of_lt_of_le symbol rule.few_symbols) in
      let row : has (class_row_in work n (next j.rule q a)) q ≡ apart j n (next j.rule q a) q =
      classes n (next j.rule q a) q small (rule.next_below q a m symbol) m in
      ap (λ (b : Bool). mark b (has finals (cell table q a)) (has (class_row_in work n (cell table q a)) q)) (has_before q m)
      ∙ ap (λ (k : ℕ). mark (arrives j n q) (has finals k) (has (class_row_in work n k) q)) to
      ∙ ap (λ (s : ℕ). mark (arrives j n q) (has s (next j.rule q a)) (has (class_row_in work n (next j.rule q a)) q)) job.finals_are
      ∙ ap (mark (arrives j n q) (final j.rule (next j.rule q a))) row

  -- the mark is the definition's
  pub is_nop_held : is_nop table finals work n a before ≡ nop_shadow j n a
  unfolding is_nop
  is_nop_held =
      all_short 16 j.rule.states read job.formed.rule.few_states
      (λ q m. mark_other _ (has finals (cell table q a)) (has (class_row_in work n (cell table q a)) q) (has_before_past q m))
      ∙ all_cong j.rule.states read meant read_meant
