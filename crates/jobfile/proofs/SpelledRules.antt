-- The R lines of a rule: they are good lines where the rule is within its limits, and good R lines are those of the rule that they
-- spell. The final marks by the laws of sets, row by row.
-- Assumes nothing.
use Prim.Native.Nat.{ℕ, zero, suc, ◌+◌, ◌≤◌, ◌<◌}
use mathlib.Core.Path.{◌≡◌, refl, sym, ap, ◌∙◌}
use mathlib.Core.Logic.{◌≢◌, by_cases, ⊎_elim}
use mathlib.Core.Bool.{Bool, true, false}
use mathlib.Core.List.{List, [], ◌∷◌, ◌++◌, map}
use native.Mathlib.Nat.{add_comm, not-suc-le-zero, le_of_suc-le-suc}
use native.Mathlib.Decide.{ℕ_discrete, dec_lt}
use native.Mathlib.Numerals.{add-two}
use native.Mathlib.Omega.{arith}
use lib.Dec.{eqb}
use lib.ListN.{length, drop, get_or, length-drop, length-map, get_or-eq_default, get_or-map}
use lib.Seq.{get_or-drop}
use Rattle.laws.specs.Bits.{has}
use Rattle.laws.proofs.Tests.{passes_or_fails, fails_of}
use Rattle.laws.proofs.Bits.{has_empty, has_with_same, has_with_other, same_set}
use Rattle.lines.specs.Line.{line, at, write_lines}
use Rattle.jobfile.specs.File.{rule_line, finals_of, mark, write_rules}
use Rattle.jobfile.specs.Refusal.{RuleWithin}
use Rattle.lines.specs.Written.{Fits, GoodLines, good_none, Good-more}
use Rattle.jobfile.proofs.WithinLaws.{rule_says}
use Rattle.lines.proofs.SpelledLine.{fits_cons}

-- ---- marks

-- a mark is read back
pub mark_read : (b : Bool) → eqb (mark b) 1 ≡ b
mark_read true = refl
mark_read false = refl

-- a number of at most 1 is a mark
pub mark_exact : (m : ℕ) → m ≤ 1 → mark (eqb m 1) ≡ m
mark_exact zero h = refl
mark_exact (suc zero) h = refl
mark_exact (suc (suc m)) h = absurd (not-suc-le-zero (le_of_suc-le-suc h))

-- a mark is at most 1
pub mark_le : (b : Bool) → mark b ≤ 1
mark_le true = omega arith
mark_le false = omega arith

-- ---- the lines of a rule

-- the numbers of the R lines, from place i on
unfoldable pub rule_lines : ℕ → ℕ → List (List ℕ) → List (List ℕ)
rule_lines finals i [] = []
rule_lines finals i (row ∷ rows) = (i ∷ mark (has finals i) ∷ row) ∷ rule_lines finals (suc i) rows

-- they are what is written
pub rules_written : (finals i : ℕ) (rows : List (List ℕ)) → write_rules finals i rows ≡ write_lines 82 (rule_lines finals i rows)
unfolding write_rules rule_lines write_lines
rules_written finals i [] = refl
rules_written finals i (row ∷ rows) =
    ap (λ (l : List ℕ). line 82 (i ∷ mark (has finals i) ∷ row) ++ l) (rules_written finals (suc i) rows)

-- one for each row
pub rules_count : (finals i : ℕ) (rows : List (List ℕ)) → length (rule_lines finals i rows) ≡ length rows
unfolding rule_lines
rules_count finals i [] = refl
rules_count finals i (row ∷ rows) = ap suc (rules_count finals (suc i) rows)

-- with the row
pub rules_table : (finals i : ℕ) (rows : List (List ℕ)) → map (drop 2) (rule_lines finals i rows) ≡ rows
unfolding rule_lines
rules_table finals i [] = refl
rules_table finals i (row ∷ rows) = ap {B = List (List ℕ)} (λ l. row ∷ l) (rules_table finals (suc i) rows)

-- ---- final states

-- the first line decides of its own state alone
finals_other : (i q : ℕ) (ns : List ℕ) (ls : List (List ℕ)) → q ≢ i → has (finals_of i (ns ∷ ls)) q ≡ has (finals_of (suc i) ls) q
unfolding finals_of
finals_other i q ns ls ne =
    ⊎_elim
    (λ (t : eqb (at ns 1) 1 ≡ true). rw t (has_with_other (finals_of (suc i) ls) i q ne))
    (λ (t : eqb (at ns 1) 1 ≡ false). rw t)
    (passes_or_fails (eqb (at ns 1) 1))

-- no state before the first line is final
finals_low : (i q : ℕ) (ls : List (List ℕ)) → q < i → has (finals_of i ls) q ≡ false
unfolding finals_of
finals_low i q [] h = has_empty q
finals_low i q (ns ∷ ls) h = finals_other i q ns ls (omega arith) ∙ finals_low (suc i) q ls (omega arith)

-- and none past the last
pub finals_high : (i q : ℕ) (ls : List (List ℕ)) → i + length ls ≤ q → has (finals_of i ls) q ≡ false
unfolding finals_of
finals_high i q [] h = has_empty q
finals_high i q (ns ∷ ls) h = finals_other i q ns ls (omega arith) ∙ finals_high (suc i) q ls (omega arith)

-- the first line's own state is final by its mark
finals_here : (i : ℕ) (ns : List ℕ) (ls : List (List ℕ)) → has (finals_of i (ns ∷ ls)) i ≡ eqb (at ns 1) 1
unfolding finals_of
finals_here i ns ls =
    ⊎_elim
    (λ (t : eqb (at ns 1) 1 ≡ true). rw t (has_with_same (finals_of (suc i) ls) i))
    (λ (t : eqb (at ns 1) 1 ≡ false). rw t (finals_low (suc i) i ls (omega arith)))
    (passes_or_fails (eqb (at ns 1) 1))

-- the final states are read back
finals_read
    : (finals i q : ℕ) (rows : List (List ℕ)) → i ≤ q → q < i + length rows
    → has (finals_of i (rule_lines finals i rows)) q ≡ has finals q
unfolding rule_lines
finals_read finals i q [] l h = absurd (omega arith)
finals_read finals i q (row ∷ rows) l h =
    by_cases (ℕ_discrete q i)
    (λ (e : q ≡ i).
    rw e (finals_here i (i ∷ mark (has finals i) ∷ row) (rule_lines finals (suc i) rows) ∙ mark_read (has finals i)))
    (λ (ne : q ≢ i).
    finals_other i q (i ∷ mark (has finals i) ∷ row) (rule_lines finals (suc i) rows) ne
    ∙ finals_read finals (suc i) q rows (omega arith) (omega arith))

-- the set of final states is that of the lines
pub finals_same
    : (finals : ℕ) (rows : List (List ℕ)) → ((q : ℕ) → has finals q ≡ true → q < length rows)
    → finals_of 0 (rule_lines finals 0 rows) ≡ finals
finals_same finals rows below =
    same_set (finals_of 0 (rule_lines finals 0 rows)) finals
    (λ q.
    by_cases (dec_lt q (length rows))
    (λ (l : q < length rows). finals_read finals 0 q rows (omega arith) (omega arith))
    (λ g.
    finals_high 0 q (rule_lines finals 0 rows) (omega (arith, rules_count finals 0 rows))
    ∙ sym (fails_of (has finals q) (λ t. g (below q t)))))

-- ---- good lines

-- a line of two numbers or more
two_first : (ns : List ℕ) → 2 ≤ length ns → ns ≡ at ns 0 ∷ at ns 1 ∷ drop 2 ns
two_first [] h = absurd (omega arith)
two_first (m ∷ []) h = absurd (omega arith)
two_first (m ∷ n ∷ ns) h = refl

-- every row has a next states, each below s
abbrev pub RowsFit : ℕ → ℕ → List (List ℕ) → Type 0
RowsFit s a rows = (q : ℕ) → q < length rows → (length (get_or rows q []) ≡ a) × ((c : ℕ) → c < a → at (get_or rows q []) c < s)

module _ (s a : ℕ) where
  -- good R lines are those of their rule
  pub Rules-Exact
      : {i : ℕ} {before : List ℕ} {ls : List (List ℕ)} (finals : ℕ) → GoodLines (rule_line s a) i before ls
      → ((q : ℕ) → i ≤ q → has finals q ≡ has (finals_of i ls) q) → rule_lines finals i (map (drop 2) ls) ≡ ls
  unfolding rule_lines
  Rules-Exact finals good_none same = refl
  Rules-Exact finals (Good-more {i} {before} {ns} {ls} count fit good more) same =
      let w = (rule_says s a i before ns).0 good in
      let marked : mark (has finals i) ≡ at ns 1 =
      ap mark (same i (omega arith) ∙ finals_here i ns ls) ∙ mark_exact (at ns 1) w.final in
      let head : i ∷ mark (has finals i) ∷ drop 2 ns ≡ ns = rw (marked, ← w.state) (sym (two_first ns (omega arith))) in
      let tail = Rules-Exact finals more (λ q l. same q (omega arith) ∙ finals_other i q ns ls (omega arith)) in
      rw (head, tail)

  -- the numbers of a good row have few digits
  row_fits : (row : List ℕ) → s ≤ 1000000 → length row ≡ a → ((c : ℕ) → c < a → at row c < s) → Fits row
  row_fits row few wide below c =
      by_cases (dec_lt c a)
      (λ (l : c < a). omega (arith, below c l))
      (λ g. omega (arith, get_or-eq_default row 0 {n = c} (omega arith)))

  -- the lines of a rule of S rows are good
  pub rules_good
      : (finals i : ℕ) (before : List ℕ) (rows : List (List ℕ)) → s ≤ 1000000 → i + length rows ≤ 1000000 → RowsFit s a rows
      → GoodLines (rule_line s a) i before (rule_lines finals i rows)
  unfolding rule_lines
  rules_good finals i before [] few short fit = good_none
  rules_good finals i before (row ∷ rows) few short fit =
      let ns : List ℕ = i ∷ mark (has finals i) ∷ row in
      let (wide, below) = fit 0 (omega arith) in
      let w : RuleWithin s a i ns =
      record { state = refl; final = mark_le (has finals i); next = λ c l. rw (add-two c) (below c l) } in
      Good-more {i = i} {before = before} {ns = ns} (omega arith)
      (fits_cons i (mark (has finals i) ∷ row) (omega arith)
      (fits_cons (mark (has finals i)) row (omega (arith, mark_le (has finals i))) (row_fits row few wide below)))
      ((rule_says s a i before ns).1 w)
      (rules_good finals (suc i) ns rows few (omega arith) (λ q l. fit (suc q) (omega arith)))

  -- a good line at its place
  rule_at
      : {i : ℕ} {before : List ℕ} {ls : List (List ℕ)} → GoodLines (rule_line s a) i before ls → (q : ℕ) → q < length ls
      → (length (get_or ls q []) ≡ a + 2) × ((c : ℕ) → c < a → at (get_or ls q []) (c + 2) < s)
  rule_at good_none q h = absurd (omega arith)
  rule_at (Good-more {i} {before} {ns} {ls} count fit good more) zero h = (count, ((rule_says s a i before ns).0 good).next)
  rule_at (Good-more {i} {before} {ns} {ls} count fit good more) (suc q) h = rule_at more q (omega arith)

  -- the rows of good lines
  pub rows_fit
      : {i : ℕ} {before : List ℕ} {ls : List (List ℕ)} → GoodLines (rule_line s a) i before ls → RowsFit s a (map (drop 2) ls)
  rows_fit {ls} good q h =
      let (wide, below) = rule_at good q (rw length-map at h) in
      rw (get_or-map (drop 2) ls q [])
      (simp length-drop (omega arith), λ c l. rw (get_or-drop 2 (get_or ls q []) c 0, add_comm 2 c) (below c l))
