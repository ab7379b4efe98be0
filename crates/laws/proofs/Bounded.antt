-- Laws of quantifiers and sums over the numbers below a bound, and of the list of the values there.
-- Assumes nothing.
use Prim.Native.Nat.{ℕ, zero, suc, ◌+◌, ◌*◌, ◌≤◌, ◌<◌, zero-le}
use mathlib.Core.Path.{◌≡◌, refl, sym, ap, ◌∙◌}
use mathlib.Core.Logic.{◌⊎◌, ◌↔◌, ⊎_elim}
use mathlib.Core.Bool.{Bool, true, false, true≢false, and-eq-true_iff}
use mathlib.Core.List.{List}
use native.Mathlib.Nat.{le_refl, le_step, le_of_suc-le-suc, not-suc-le-zero, eq-or-lt_of_le, lt_of_lt_of_le, ne_of_lt}
use native.Mathlib.Nat.{add-zero, add-suc, suc-add, zero-add, suc-mul}
use native.Mathlib.Numerals.{add-one}
use native.Mathlib.Omega.{arith}
use lib.ListN.{length, get_or, set}
use lib.Seq.{ext_get_or, get_or-set_same, get_or-set_other}
use Rattle.laws.specs.Bounded.{all_below, any_below, sum_below, tab_from, tab}
use Rattle.laws.proofs.Tests.{fails_of, or_passes, or_left, or_right, or_fails}

-- a number below n + 1 is n or below n
pub below_suc : {i n : ℕ} → i < suc n → (i ≡ n) ⊎ (i < n)
below_suc h = eq-or-lt_of_le (le_of_suc-le-suc h)

-- ---- for all

-- a loop that starts at 0 has tested nothing
pub all_none : (f : ℕ → Bool) → all_below 0 f ≡ true
unfolding all_below
all_none f = refl

-- a loop that has passed the test at i has passed all below i + 1
pub all_more : (i : ℕ) (f : ℕ → Bool) → all_below i f ≡ true → f i ≡ true → all_below (i + 1) f ≡ true
unfolding all_below
all_more i f p q = rw add-one ((and-eq-true_iff (all_below i f) (f i)).1 (p, q))

-- from the test below n to the test at each number below n
pub all_at : (n : ℕ) (f : ℕ → Bool) → all_below n f ≡ true → (i : ℕ) → i < n → f i ≡ true
unfolding all_below
all_at zero f h i l = absurd (not-suc-le-zero l)
all_at (suc n) f h i l =
    let both = (and-eq-true_iff (all_below n f) (f n)).0 h in
    ⊎_elim (λ (e : i ≡ n). rw e both.1) (λ (k : i < n). all_at n f both.0 i k) (below_suc l)

-- from the test at each number below n to the test below n
pub all_of : (n : ℕ) (f : ℕ → Bool) → ((i : ℕ) → i < n → f i ≡ true) → all_below n f ≡ true
unfolding all_below
all_of zero f h = refl
all_of (suc n) f h =
    (and-eq-true_iff (all_below n f) (f n)).1 (all_of n f (λ i l. h i (le_step l)), h n (le_refl (suc n)))

-- `all_below` says for all
pub all_says : (n : ℕ) (f : ℕ → Bool) → (all_below n f ≡ true) ↔ ((i : ℕ) → i < n → f i ≡ true)
all_says n f = (all_at n f, all_of n f)

-- a loop that is left at its bound has passed all below it
pub all_end : (n i : ℕ) (f : ℕ → Bool) → all_below i f ≡ true → n ≤ i → all_below n f ≡ true
all_end n i f h l = all_of n f (λ k m. all_at i f h k (lt_of_lt_of_le m l))

-- one failure below n is enough
pub all_fails : (n : ℕ) (f : ℕ → Bool) (i : ℕ) → i < n → f i ≡ false → all_below n f ≡ false
all_fails n f i l q = fails_of (all_below n f) (λ h. true≢false (sym (all_at n f h i l) ∙ q))

-- tests that agree below n agree on all of it
pub all_cong : (n : ℕ) (f g : ℕ → Bool) → ((i : ℕ) → i < n → f i ≡ g i) → all_below n f ≡ all_below n g
unfolding all_below
all_cong zero f g h = refl
all_cong (suc n) f g h = rw (all_cong n f g (λ i l. h i (le_step l)), h n (le_refl (suc n)))

-- ---- there is

-- a loop that starts at 0 has found nothing
pub any_none : (f : ℕ → Bool) → any_below 0 f ≡ false
unfolding any_below
any_none f = refl

-- a loop that has not found it at i has not found it below i + 1
pub any_more : (i : ℕ) (f : ℕ → Bool) → any_below i f ≡ false → f i ≡ false → any_below (i + 1) f ≡ false
unfolding any_below
any_more i f p q = rw add-one (or_fails (any_below i f) (f i) p q)

-- from the test below n to a number where it passes
pub any_at : (n : ℕ) (f : ℕ → Bool) → any_below n f ≡ true → (i : ℕ) × (i < n) × (f i ≡ true)
unfolding any_below
any_at zero f h = absurd (true≢false (sym h))
any_at (suc n) f h =
    ⊎_elim
    (λ (e : any_below n f ≡ true). let r = any_at n f e in (r.0, le_step r.1, r.2))
    (λ (e : f n ≡ true). (n, le_refl (suc n), e))
    (or_passes (any_below n f) (f n) h)

-- from a number below n where the test passes to the test below n
pub any_of : (n : ℕ) (f : ℕ → Bool) (i : ℕ) → i < n → f i ≡ true → any_below n f ≡ true
unfolding any_below
any_of zero f i l q = absurd (not-suc-le-zero l)
any_of (suc n) f i l q =
    ⊎_elim
    (λ (e : i ≡ n). or_right (any_below n f) (f n) (rw e at q))
    (λ (k : i < n). or_left (any_below n f) (f n) (any_of n f i k q))
    (below_suc l)

-- `any_below` says that there is one
pub any_says : (n : ℕ) (f : ℕ → Bool) → (any_below n f ≡ true) ↔ ((i : ℕ) × (i < n) × (f i ≡ true))
any_says n f = (any_at n f, λ r. any_of n f r.0 r.1 r.2)

-- where none is found the test fails at each number below n
pub any_none_at : (n : ℕ) (f : ℕ → Bool) → any_below n f ≡ false → (i : ℕ) → i < n → f i ≡ false
any_none_at n f h i l = fails_of (f i) (λ q. true≢false (sym (any_of n f i l q) ∙ h))

-- where the test fails at each number below n, none is found
pub any_none_of : (n : ℕ) (f : ℕ → Bool) → ((i : ℕ) → i < n → f i ≡ false) → any_below n f ≡ false
any_none_of n f h = fails_of (any_below n f) (λ q. let r = any_at n f q in true≢false (sym r.2 ∙ h r.0 r.1))

-- a loop that is left at its bound has found none below it
pub any_end : (n i : ℕ) (f : ℕ → Bool) → any_below i f ≡ false → n ≤ i → any_below n f ≡ false
any_end n i f h l = any_none_of n f (λ k m. any_none_at i f h k (lt_of_lt_of_le m l))

-- tests that agree below n find together
pub any_cong : (n : ℕ) (f g : ℕ → Bool) → ((i : ℕ) → i < n → f i ≡ g i) → any_below n f ≡ any_below n g
unfolding any_below
any_cong zero f g h = refl
any_cong (suc n) f g h = rw (any_cong n f g (λ i l. h i (le_step l)), h n (le_refl (suc n)))

-- ---- sums

-- the empty sum
pub sum_none : (f : ℕ → ℕ) → sum_below 0 f ≡ 0
unfolding sum_below
sum_none f = refl

-- one more term
pub sum_more : (i : ℕ) (f : ℕ → ℕ) → sum_below (i + 1) f ≡ sum_below i f + f i
unfolding sum_below
sum_more i f = rw add-one

-- equal terms give equal sums
pub sum_cong : (n : ℕ) (f g : ℕ → ℕ) → ((i : ℕ) → i < n → f i ≡ g i) → sum_below n f ≡ sum_below n g
unfolding sum_below
sum_cong zero f g h = refl
sum_cong (suc n) f g h = rw (sum_cong n f g (λ i l. h i (le_step l)), h n (le_refl (suc n)))

-- a sum of zeros
pub sum_zero : (n : ℕ) (f : ℕ → ℕ) → ((i : ℕ) → i < n → f i ≡ 0) → sum_below n f ≡ 0
unfolding sum_below
sum_zero zero f h = refl
sum_zero (suc n) f h = omega (arith, sum_zero n f (λ i l. h i (le_step l)), h n (le_refl (suc n)))

-- larger terms give a larger sum
pub sum_le : (n : ℕ) (f g : ℕ → ℕ) → ((i : ℕ) → i < n → f i ≤ g i) → sum_below n f ≤ sum_below n g
unfolding sum_below
sum_le zero f g h = zero-le
sum_le (suc n) f g h = omega (arith, sum_le n f g (λ i l. h i (le_step l)), h n (le_refl (suc n)))

-- a sum in which one term alone changes changes as that term does
pub sum_change
    : (n : ℕ) (f g : ℕ → ℕ) (k a b : ℕ) → k < n → ((i : ℕ) → i < n → (i ≡ k → ⊥) → f i ≡ g i) → f k + a ≤ g k + b
    → sum_below n f + a ≤ sum_below n g + b
unfolding sum_below
sum_change zero f g k a b l h c = absurd (not-suc-le-zero l)
sum_change (suc n) f g k a b l h c =
    ⊎_elim
    (λ (e : k ≡ n).
    let c' : f n + a ≤ g n + b = rw e at c in
    let s = sum_cong n f g (λ i m. h i (le_step m) (λ q. absurd (omega arith))) in
    omega arith)
    (λ (m : k < n).
    let s = sum_change n f g k a b m (λ i x. h i (le_step x)) c in
    let t = h n (le_refl (suc n)) (λ q. absurd (omega arith)) in
    omega arith)
    (below_suc l)

-- a sum with one term smaller and none larger is smaller
pub sum_less
    : (n : ℕ) (f g : ℕ → ℕ) → ((i : ℕ) → i < n → f i ≤ g i) → (k : ℕ) → k < n → f k < g k → sum_below n f < sum_below n g
unfolding sum_below
sum_less zero f g h k l s = absurd (not-suc-le-zero l)
sum_less (suc n) f g h k l s =
    ⊎_elim
    (λ (e : k ≡ n).
    let s' : f n < g n = rw e at s in
    omega (arith, sum_le n f g (λ i m. h i (le_step m))))
    (λ (m : k < n). omega (arith, sum_less n f g (λ i m. h i (le_step m)) k m s, h n (le_refl (suc n))))
    (below_suc l)

-- n terms of at most b
pub sum_bound : (n b : ℕ) (f : ℕ → ℕ) → ((i : ℕ) → i < n → f i ≤ b) → sum_below n f ≤ n * b
unfolding sum_below
sum_bound zero b f h = zero-le
sum_bound (suc n) b f h =
    omega (arith, suc-mul n b, sum_bound n b f (λ i l. h i (le_step l)), h n (le_refl (suc n)))

-- the sum of two sums
pub sum_add : (n : ℕ) (f g : ℕ → ℕ) → sum_below n (λ i. f i + g i) ≡ sum_below n f + sum_below n g
unfolding sum_below
sum_add zero f g = refl
sum_add (suc n) f g = omega (arith, sum_add n f g)

-- the first term apart
pub sum_front : (n : ℕ) (f : ℕ → ℕ) → sum_below (suc n) f ≡ f 0 + sum_below n (λ i. f (suc i))
unfolding sum_below
sum_front zero f = omega arith
sum_front (suc n) f = omega (arith, sum_front n f)

-- ---- the list of the values

module _ {ℓ} {A : Type ℓ} where
  -- the same three laws for the values from i on
  length_tab_from : (i n : ℕ) (f : ℕ → A) → length (tab_from i n f) ≡ n
  unfolding tab_from
  length_tab_from i zero f = refl
  length_tab_from i (suc n) f = ap suc (length_tab_from (suc i) n f)

  get_d_tab_from : (i n : ℕ) (f : ℕ → A) (k : ℕ) (d : A) → k < n → get_or (tab_from i n f) k d ≡ f (i + k)
  unfolding tab_from
  get_d_tab_from i zero f k d l = absurd (not-suc-le-zero l)
  get_d_tab_from i (suc n) f zero d l = rw add-zero
  get_d_tab_from i (suc n) f (suc k) d l = rw (add-suc, ← suc-add) (get_d_tab_from (suc i) n f k d (le_of_suc-le-suc l))

  tab_from_cong : (i n : ℕ) (f g : ℕ → A) → ((k : ℕ) → k < n → f (i + k) ≡ g (i + k)) → tab_from i n f ≡ tab_from i n g
  unfolding tab_from
  tab_from_cong i zero f g h = refl
  tab_from_cong i (suc n) f g h =
      let first : f i ≡ g i = rw add-zero at (h 0 (omega arith)) in
      let rest : (k : ℕ) → k < n → f (suc i + k) ≡ g (suc i + k) = λ k l. rw (suc-add, ← add-suc) (h (suc k) (omega arith)) in
      rw (first, tab_from_cong (suc i) n f g rest)

  -- n values
  pub length_tab : (n : ℕ) (f : ℕ → A) → length (tab n f) ≡ n
  unfolding tab
  length_tab n f = length_tab_from 0 n f

  -- the value at i stands at place i
  pub get_d_tab : (n : ℕ) (f : ℕ → A) (i : ℕ) (d : A) → i < n → get_or (tab n f) i d ≡ f i
  unfolding tab
  get_d_tab n f i d l = get_d_tab_from 0 n f i d l ∙ ap f (zero-add i)

  -- maps that agree below n have one list of values
  pub tab_cong : (n : ℕ) (f g : ℕ → A) → ((i : ℕ) → i < n → f i ≡ g i) → tab n f ≡ tab n g
  unfolding tab
  tab_cong n f g h = tab_from_cong 0 n f g (λ k l. rw zero-add (h k l))

  -- a loop that stores the value at i has the first i + 1 places right
  pub fill_more
      : (l : List A) (i : ℕ) (f : ℕ → A) (v d : A) → i < length l → ((k : ℕ) → k < i → get_or l k d ≡ f k) → v ≡ f i
      → (k : ℕ) → k < i + 1 → get_or (set l i v) k d ≡ f k
  fill_more l i f v d m h e k s =
      ⊎_elim
      (λ (q : k ≡ i). rw q (get_or-set_same l i v d m ∙ e))
      (λ (q : k < i). get_or-set_other l i k v d (ne_of_lt q) ∙ h k q)
      (below_suc (rw add-one at s))

  -- a list with every place right is the list of the values
  pub fill_done
      : (l : List A) (n : ℕ) (f : ℕ → A) (d : A) → length l ≡ n → ((k : ℕ) → k < n → get_or l k d ≡ f k) → l ≡ tab n f
  fill_done l n f d e h =
      ext_get_or d l (tab n f) (e ∙ sym (length_tab n f))
      (λ k m. let s : k < n = rw e at m in h k s ∙ sym (get_d_tab n f k d s))
