-- Laws of the reader of R lines, in the shape of the code.
-- Assumes nothing.
use mathlib.Core.Path.{◌≡◌, refl, sym, ap, ◌∙◌}
use mathlib.Core.Bool.{Bool, true, false, cond, ◌||◌, or-false}
use mathlib.Core.Logic.{◌⊎◌, inl, inr, ⊎_elim}
use mathlib.Core.List.{List, []}
use Prim.Native.Nat.{ℕ, zero, suc, ◌+◌, ◌*◌, ◌%◌, ◌^◌, ◌≤◌, ◌<◌}
use native.Mathlib.Nat.{not-suc-le-zero, eq-or-lt_of_le, le_of_suc-le-suc, suc-mul, suc-add, add-suc, zero-add, add-zero, zero-mul}
use native.Mathlib.Numerals.{add-one}
use native.Mathlib.Omega.{arith}
use lib.Dec.{lit<, eqb}
use lib.Bits.{bit_or}
use lib.ListN.{length, drop, length-drop}
use Rattle.laws.specs.Bounded.{tab_from, tab}
use Rattle.laws.specs.Bits.{has, with}
use Rattle.laws.proofs.Bits.{has_or, has_empty, same_set, one_shl}
use Rattle.std.specs.Prelude.{Result, Ok}
use Rattle.refusal.specs.declared.Refusal.{Refusal}
use Rattle.refusal.specs.Refusal.{status_in, value_in}
use Rattle.lines.specs.Line.{line_length, line_of, at}
use Rattle.jobfile.specs.File.{rule_line, finals_of}
use Rattle.buffer.specs.Layout.{rule_part, marks_part}
use Rattle.buffer.specs.Views.{cell_in}
use Rattle.buffer.specs.Kept.{SameOutside}
use Rattle.jobhead.specs.Stored.{RuleCleared}
use Rattle.lines.specs.Places.{numbers_of, numbers_at, status_at}
use Rattle.jobhead.specs.ReadLines.{RuleRead, RulesRead}
use Rattle.lines.proofs.LinesLaws.{passed_more, read_all, read_stop, status_here, numbers_here}
use Rattle.buffer.proofs.KeptLaws.{kept_none, kept_both}

-- ---- the final states

-- the bit of a final mark
abbrev mark_bit : List ℕ → ℕ → ℕ
mark_bit ns k = cond (eqb (at ns 1) 1) (2 ^ k) 0

or_none : (x : ℕ) → bit_or x 0 ≡ x
or_none x = same_set (bit_or x 0) x (λ i. has_or x 0 i ∙ rw (has_empty i) (or-false (has x i)))

or_swap : (x y z : ℕ) → bit_or (bit_or x y) z ≡ bit_or (bit_or x z) y
or_swap x y z =
    same_set (bit_or (bit_or x y) z) (bit_or (bit_or x z) y)
    (λ i. rw (has_or (bit_or x y) z i, has_or x y i, has_or (bit_or x z) y i, has_or x z i) (swap (has x i) (has y i) (has z i)))
  where
    swap : (b c d : Bool) → (b || c || d) ≡ (b || d || c)
    swap true c d = refl
    swap false true true = refl
    swap false true false = refl
    swap false false true = refl
    swap false false false = refl

mark_or : (t : Bool) (x i : ℕ) → cond t (with x i) x ≡ bit_or x (cond t (2 ^ i) 0)
mark_or true x i = refl
mark_or false x i = sym (or_none x)

-- the final states of one line more
finals_snoc
    : (n i : ℕ) (g : ℕ → List ℕ) → finals_of i (tab_from i (suc n) g) ≡ bit_or (finals_of i (tab_from i n g)) (mark_bit (g (i + n)) (i + n))
unfolding finals_of tab_from
finals_snoc zero i g = rw (add-zero i) (mark_or (eqb (at (g i) 1) 1) 0 i)
finals_snoc (suc n) i g =
    mark_or (eqb (at (g i) 1) 1) (finals_of (suc i) (tab_from (suc i) (suc n) g)) i
    ∙ ap (λ (x : ℕ). bit_or x (mark_bit (g i) i)) (finals_snoc n (suc i) g)
    ∙ or_swap (finals_of (suc i) (tab_from (suc i) n g)) (mark_bit (g (suc i + n)) (suc i + n)) (mark_bit (g i) i)
    ∙ rw (mark_or (eqb (at (g i) 1) 1) (finals_of (suc i) (tab_from (suc i) n g)) i, suc-add i n, ← add-suc i n)

-- a mark, shifted to its place
mark_bit_lem : (v q : ℕ) → v ≤ 1 → q < 64 → (v * 2 ^ q) % 2 ^ 64 ≡ cond (eqb v 1) (2 ^ q) 0
mark_bit_lem zero q h g = rw (zero-mul (2 ^ q))
mark_bit_lem (suc zero) q h g = one_shl 64 q g
mark_bit_lem (suc (suc v)) q h g = absurd (omega arith)

finals_more
    : (g : ℕ → List ℕ) (q finals v : ℕ) → finals ≡ finals_of 0 (tab q g) → v ≡ at (g q) 1 → v ≤ 1 → q < 64
    → bit_or finals ((v * 2 ^ q) % 2 ^ 64) ≡ finals_of 0 (tab (q + 1) g)
unfolding tab
finals_more g q finals v e is h k =
    rw (e, mark_bit_lem v q h k, is, add-one q)
    (sym (finals_snoc q 0 g ∙ rw (zero-add q)))

-- ---- the loop

-- the first q lines are read, from l to m
pub record RulesSoFar (s a : ℕ) (bytes l m : List ℕ) (q finals : ℕ) : Type 0 where
  pub passed : (j : ℕ) → j < q → status_at (rule_line s a) bytes j ≡ 0
  pub number : finals ≡ finals_of 0 (tab q (numbers_at (rule_line s a) bytes))
  pub here : (p c : ℕ) → p < q → c < 16 → cell_in m p c ≡ at (numbers_at (rule_line s a) bytes p) (c + 2)
  pub past : (p c : ℕ) → q ≤ p → p < 16 → c < 16 → cell_in m p c ≡ 0
  pub within : q * line_length (a + 2) ≤ length bytes
  pub kept : SameOutside l m rule_part marks_part

-- none is read yet
pub rules_none : (s a : ℕ) (bytes k l : List ℕ) → RuleCleared k l → RulesSoFar s a bytes l l 0 0
unfolding finals_of tab tab_from cell_in
rules_none s a bytes k l z = record {
  passed = λ j h. absurd (not-suc-le-zero h);
  number = refl;
  here = λ p c h. absurd (not-suc-le-zero h);
  past = λ p c x h g. let i : rule_part + p * 16 + c ≡ rule_part + (p * 16 + c) = omega arith in rw i (z.here (p * 16 + c) (omega arith));
  within = omega (arith, zero-mul (line_length (a + 2)));
  kept = kept_none l rule_part marks_part;
}

-- a cell of another row
cell_kept
    : (m k : List ℕ) (q p c : ℕ) → SameOutside m k (rule_part + q * 16) (rule_part + q * 16 + 16) → c < 16 → (p < q) ⊎ (q < p) → cell_in k p c ≡ cell_in m p c
unfolding cell_in
cell_kept m k q p c s h (inl g) = s.outside (rule_part + p * 16 + c) (inl (omega arith))
cell_kept m k q p c s h (inr g) = s.outside (rule_part + p * 16 + c) (inr (omega arith))

module _ (s a : ℕ) (file : List ℕ) (start : ℕ) (l m k : List ℕ) (q finals : ℕ) (r : Result ℕ Refusal)
    (so : RulesSoFar s a (drop start file) l m q finals) (h : q < 16) (x : RuleRead s a q (drop (start + q * line_length (a + 2)) file) m k r) where
  -- the line's status
  own_status : status_in r ≡ status_at (rule_line s a) (drop start file) q
  own_status = status_here (rule_line s a) file start q q [] (status_in r) (λ ns. refl) x.status

  -- its numbers
  own_numbers : numbers_of (line_of 82 (a + 2) (drop (start + q * line_length (a + 2)) file)) ≡ numbers_at (rule_line s a) (drop start file) q
  own_numbers = numbers_here (rule_line s a) file start q

  -- what is left of the buffer
  all_kept : SameOutside l k rule_part marks_part
  all_kept = kept_both l m k rule_part marks_part (rule_part + q * 16) (rule_part + q * 16 + 16) so.kept x.kept (omega arith) (omega arith)

  -- one line more
  pub rules_more : status_in r ≡ 0 → RulesSoFar s a (drop start file) l k (q + 1) (bit_or finals ((value_in r * 2 ^ q) % 2 ^ 64))
  rules_more z = record {
    passed = passed_more (rule_line s a) (drop start file) q so.passed (sym own_status ∙ z);
    number =
        finals_more (numbers_at (rule_line s a) (drop start file)) q finals (value_in r) so.number
        (x.number z ∙ ap (λ (ns : List ℕ). at ns 1) own_numbers) x.small (omega arith);
    here = λ p c g i.
        ⊎_elim
        (λ (y : p ≡ q). rw y (x.here z c i ∙ ap (λ (ns : List ℕ). at ns (c + 2)) own_numbers))
        (λ (y : p < q). cell_kept m k q p c x.kept i (inl y) ∙ so.here p c y i)
        (eq-or-lt_of_le (le_of_suc-le-suc (rw (add-one q) at g)));
    past = λ p c y g i. cell_kept m k q p c x.kept i (inr (omega arith)) ∙ so.past p c (omega arith) g i;
    within =
        let more : (q + 1) * line_length (a + 2) ≡ q * line_length (a + 2) + line_length (a + 2) = rw (add-one q) (suc-mul q (line_length (a + 2))) in
        rw more (fits (q * line_length (a + 2)) so.within (x.within z));
    kept = all_kept;
  }
    where
      fits : (n : ℕ) → n ≤ length (drop start file) → line_length (a + 2) ≤ length (drop (start + n) file) → n + line_length (a + 2) ≤ length (drop start file)
      fits n i j = omega (arith, length-drop start file, length-drop (start + n) file)

  -- a line that does not pass
  pub rules_stop : (o : List ℕ) → q < s → (status_in r ≡ 0 → ⊥) → RuleCleared o l → RulesRead s a (drop start file) o k r
  rules_stop o g b w = record {
    lines = read_stop (rule_line s a) (drop start file) s q (status_in r) g (lit< tt) so.passed own_status b;
    zero = λ z. x.zero b;
    number = λ z. absurd (b z);
    here = λ z. absurd (b z);
    past = λ z. absurd (b z);
    kept = kept_both o l k rule_part marks_part rule_part marks_part w.kept all_kept (omega arith) (omega arith);
  }

-- all lines are read
pub rules_end
    : (s a : ℕ) (bytes o l m : List ℕ) (q finals : ℕ) → q ≡ s → RuleCleared o l → RulesSoFar s a bytes l m q finals
    → RulesRead s a bytes o m (Ok finals)
rules_end s a bytes o l m q finals e w so = record {
  lines = read_all (rule_line s a) bytes s q e (lit< tt) so.passed so.within;
  zero = λ z. absurd (z refl);
  number = λ z. so.number ∙ ap (λ (i : ℕ). finals_of 0 (tab i (numbers_at (rule_line s a) bytes))) e;
  here = λ z p c g h. so.here p c (omega arith) h;
  past = λ z p c y g h. so.past p c (omega arith) g h;
  kept = kept_both o l m rule_part marks_part rule_part marks_part w.kept so.kept (omega arith) (omega arith);
}
