-- Every text, A and length of the rule buffer has an answer: what is made of them as a plain function meets the relation of the call.
-- The reader says what the text spells, the search which states there are; where a text is spelt with sixteen letters and not with the first A,
-- a letter past A stands in it.
-- Assumes nothing.
use mathlib.Core.Path.{◌≡◌, refl, sym, subst, ◌∙◌}
use mathlib.Core.Logic.{◌≢◌, ◌↔◌, ⊎_elim}
use mathlib.Core.Bool.{Bool, true, false, not, ◌&&◌, ◌||◌, true≢false, and-eq-true_iff}
use mathlib.Core.List.{List}
use Prim.Native.Nat.{ℕ, zero, suc, ◌+◌, ◌^◌, ◌≤◌, ◌<◌}
use native.Mathlib.Nat.{eq-or-lt_of_le, le_of_suc-le-suc}
use native.Mathlib.Omega.{arith}
use lib.Bits.{bit_or, bit_and}
use lib.Dec.{eqb, ltb}
use lib.ListN.{length, get_or}
use borrow.Author.Tests.{eqb-true, eqb-false, ltb-true, ltb-false, not-true, ne_eqb}
use Rattle.laws.specs.Bits.{has}
use Rattle.laws.specs.Bounded.{any_below}
use Rattle.laws.proofs.Bits.{has_empty}
use Rattle.laws.proofs.Bounded.{any_at, any_none_at}
use Rattle.laws.proofs.Tests.{fails_of, or_passes}
use Rattle.automaton.specs.Table.{rule_size}
use Rattle.automaton.specs.Made.{Made, makes, refuses}
use Rattle.expression.specs.Expression.{Expr}
use Rattle.expression.specs.Grammar.{IsLetter, TextOf, Text}
use Rattle.expression.specs.Masks.{when}
use Rattle.expression.specs.Positions.{symbol_at}
use Rattle.expression.proofs.GrammarLaws.{char_within, grammar_says}
use Rattle.expression.proofs.MaskLaws.{union_cases, union_left, union_right, when_to, when_of, letter_to, letter_of}
use Rattle.expression.proofs.Reader.{Reading, found, nothing, is_letter_at, letter_says, text_read, TextAnswer, text_answer}
use Rattle.expressionrule.specs.ExpressionRule.{max_text, Outside, no_symbol, many_symbols, too_long, not_spelt, letter_past, Within}
use Rattle.expressionrule.specs.ExpressionRule.{ExpressionMakes, other_length, outside, many, made}
use Rattle.expressionrule.specs.Numbering.{FinalsOf}
use Rattle.expressionrule.proofs.DoneLaws.{rule_of_cells, done_rule, many_states}
use Rattle.expressionrule.proofs.Search.{known_of, knows_lasts, Searched, holding, full, search_of, SearchAnswer, search_answer}

-- ---- the final states

-- the set of a state but the start has a last position
unfoldable pub ends_at : ℕ → List ℕ → ℕ → Bool
ends_at lasts sets zero = false
ends_at lasts sets (suc q) = not (eqb (bit_and (get_or sets (suc q) 0) lasts) 0)

-- the states below n with one
unfoldable pub finals_below : ℕ → List ℕ → ℕ → ℕ
unfolding ends_at
finals_below lasts sets zero = 0
finals_below lasts sets (suc q) = bit_or (finals_below lasts sets q) (when (ends_at lasts sets q) (2 ^ q))

-- its members are the states below n whose set has a last position
finals_to : (lasts : ℕ) (sets : List ℕ) (n q : ℕ) → has (finals_below lasts sets n) q ≡ true → (q < n) × (ends_at lasts sets q ≡ true)
unfolding finals_below
finals_to lasts sets zero q h = absurd (true≢false (sym h ∙ has_empty q))
finals_to lasts sets (suc n) q h =
    ⊎_elim
    (λ (x : has (finals_below lasts sets n) q ≡ true). let y = finals_to lasts sets n q x in (omega (arith, y.0), y.1))
    (λ (x : has (when (ends_at lasts sets n) (2 ^ n)) q ≡ true).
    let y = when_to (ends_at lasts sets n) (2 ^ n) q x in
    let z = letter_to n q y.1 in
    (omega (arith, z), subst (λ (m : ℕ). ends_at lasts sets m ≡ true) (sym z) y.0))
    (union_cases (finals_below lasts sets n) (when (ends_at lasts sets n) (2 ^ n)) q h)

finals_of : (lasts : ℕ) (sets : List ℕ) (n q : ℕ) → q < n → ends_at lasts sets q ≡ true → has (finals_below lasts sets n) q ≡ true
unfolding finals_below
finals_of lasts sets zero q l h = absurd (omega (arith, l))
finals_of lasts sets (suc n) q l h =
    ⊎_elim
    (λ (e : q ≡ n).
    union_right (finals_below lasts sets n) (when (ends_at lasts sets n) (2 ^ n)) q
    (when_of (ends_at lasts sets n) (2 ^ n) q (subst (λ (m : ℕ). ends_at lasts sets m ≡ true) e h)
    (subst (λ (m : ℕ). has (2 ^ m) q ≡ true) e (letter_of q))))
    (λ (m : q < n).
    union_left (finals_below lasts sets n) (when (ends_at lasts sets n) (2 ^ n)) q (finals_of lasts sets n q m h))
    (eq-or-lt_of_le (le_of_suc-le-suc l))

-- what the test says
ends_says : (lasts : ℕ) (sets : List ℕ) (q : ℕ) → 1 ≤ q → (ends_at lasts sets q ≡ true) ↔ (bit_and (get_or sets q 0) lasts ≢ 0)
unfolding ends_at
ends_says lasts sets zero l = absurd (omega (arith, l))
ends_says lasts sets (suc q) l = (there, back)
  where
    there : not (eqb (bit_and (get_or sets (suc q) 0) lasts) 0) ≡ true → bit_and (get_or sets (suc q) 0) lasts ≢ 0
    there h = eqb-false (bit_and (get_or sets (suc q) 0) lasts) 0 (not-true (eqb (bit_and (get_or sets (suc q) 0) lasts) 0) h)

    back : bit_and (get_or sets (suc q) 0) lasts ≢ 0 → not (eqb (bit_and (get_or sets (suc q) 0) lasts) 0) ≡ true
    back h = simp (ne_eqb (bit_and (get_or sets (suc q) 0) lasts) 0 h)

-- the final set
finals_are : (lasts : ℕ) (sets : List ℕ) (n : ℕ) → FinalsOf lasts sets n (finals_below lasts sets n)
unfolding ends_at
finals_are lasts sets n =
    record {
      ends = λ q l h. (
        λ x. (ends_says lasts sets q l).0 (finals_to lasts sets n q x).1,
        λ x. finals_of lasts sets n q h ((ends_says lasts sets q l).1 x),
      );
      start = fails_of (has (finals_below lasts sets n) 0) (λ x. true≢false (sym (finals_to lasts sets n 0 x).1));
      below = λ q x. (finals_to lasts sets n q x).0;
    }

-- ---- what is made

-- 21, or the rule
unfoldable pub made_of_search : ℕ → ℕ → Searched → Made
made_of_search a lasts (holding sets cells n) = makes (rule_of_cells cells n a (finals_below lasts sets n))
made_of_search a lasts full = refuses 21

-- 20 where nothing is read
unfoldable pub made_of_reading : List ℕ → ℕ → Reading → Made
made_of_reading t a (found j e) = made_of_search a (known_of e).lasts (search_of t a e)
made_of_reading t a nothing = refuses 20

-- 20 for A and the length of the text
unfoldable pub made_if : Bool → List ℕ → ℕ → Made
made_if true t a = refuses 20
made_if false t a = made_of_reading t a (text_read a t)

-- A or the length of the text is outside its limits
abbrev pub past_limits : List ℕ → ℕ → Bool
past_limits t a = eqb a 0 || (ltb 16 a || ltb max_text (length t))

-- 13 before all else
unfoldable pub made_if_long : Bool → List ℕ → ℕ → Made
made_if_long true t a = made_if (past_limits t a) t a
made_if_long false t a = refuses 13

-- what is made of a text and A with a rule buffer of this length
unfoldable pub made_by : List ℕ → ℕ → ℕ → Made
made_by t a rule = made_if_long (eqb rule rule_size) t a

-- ---- that it is the answer

-- neither of two tests passes
or_eq_false : (a b : Bool) → (a || b) ≡ false → (a ≡ false) × (b ≡ false)
or_eq_false true b h = absurd (true≢false h)
or_eq_false false b h = (refl, h)

-- what is read with the first a letters is within the limits
pub within : (t : List ℕ) (a : ℕ) (e : Expr) → 1 ≤ a → a ≤ 16 → length t ≤ max_text → TextOf a t e → Within t a e
within t a e some few short spelt =
    record {
      some_symbol = some;
      few_symbols = few;
      short = short;
      spelt = grammar_says.fewer a t e few spelt;
      letters = λ i x. let y = grammar_says.letters a t e i few spelt x in omega (arith, y.low, y.high);
    }

-- a letter, and not one of the first a
abbrev past_at : List ℕ → ℕ → ℕ → Bool
past_at t a i = is_letter_at 16 t i && not (is_letter_at a t i)

-- where nothing is read with the first a letters, the text is outside
nothing_read : (t : List ℕ) (a : ℕ) → a ≤ 16 → ((e : Expr) → TextOf a t e → ⊥) → Outside t a
nothing_read t a few none = of_reading (text_read 16 t) (text_answer 16 t (omega arith))
  where
    past : (i : ℕ) → past_at t a i ≡ true → Outside t a
    past i h =
        let both = (and-eq-true_iff _ _).0 h in
        let x = (letter_says 16 t i).0 both.0 in
        let y = not-true (is_letter_at a t i) both.1 in
        letter_past i x (beyond x (λ z. true≢false (sym ((letter_says a t i).1 z) ∙ y)))
      where
        beyond : IsLetter 16 t i → (IsLetter a t i → ⊥) → a ≤ symbol_at t i
        beyond x n =
            let high : get_or t i 0 < 97 + a → ⊥ = λ h. n (record { low = x.low; high = h }) in omega (arith, x.low, high)

    no_past : ((i : ℕ) → i < length t → past_at t a i ≡ false) → (i : ℕ) → IsLetter 16 t i → IsLetter a t i
    no_past h i x = go (is_letter_at a t i) refl
      where
        go : (b : Bool) → is_letter_at a t i ≡ b → IsLetter a t i
        go true y = (letter_says a t i).0 y
        go false y =
            absurd (true≢false (sym ((and-eq-true_iff _ _).1 ((letter_says 16 t i).1 x, simp y)) ∙ h i (char_within t i (omega (arith, x.low)))))

    of_letters : (e : Expr) → Text t e → (b : Bool) → any_below (length t) (past_at t a) ≡ b → Outside t a
    of_letters e s true h = let x = any_at (length t) (past_at t a) h in past x.0 x.2
    of_letters e s false h =
        absurd (none e (grammar_says.all_letters a t e few s (no_past (any_none_at (length t) (past_at t a) h))))

    of_reading : (r : Reading) → TextAnswer 16 t r → Outside t a
    of_reading (found j e) s = of_letters e s (any_below (length t) (past_at t a)) refl
    of_reading nothing s = not_spelt s

module _ (t : List ℕ) (a rule : ℕ) (long : rule ≡ rule_size) where
  -- from the search
  search_makes
      : (e : Expr) → Within t a e → TextOf a t e → (r : Searched) → SearchAnswer a t e r
      → ExpressionMakes t a rule (made_of_search a (known_of e).lasts r)
  unfolding made_of_search
  search_makes e w s (holding sets cells n) g =
      made long w
      (done_rule a t e sets cells n (finals_below (known_of e).lasts sets n) w.few_symbols g
      (subst (λ (l : ℕ). FinalsOf l sets n (finals_below (known_of e).lasts sets n)) (knows_lasts e) (finals_are (known_of e).lasts sets n)) s)
  search_makes e w s full m = many long w (many_states a t e s m)

  -- from the reading
  reading_makes
      : 1 ≤ a → a ≤ 16 → length t ≤ max_text → (r : Reading) → TextAnswer a t r → ExpressionMakes t a rule (made_of_reading t a r)
  unfolding made_of_reading
  reading_makes some few short (found j e) s =
      search_makes e (within t a e some few short s) s (search_of t a e) (search_answer a t e few)
  reading_makes some few short nothing s = outside long (nothing_read t a few s)

  -- from the limits
  limits_make : (b : Bool) → past_limits t a ≡ b → ExpressionMakes t a rule (made_if b t a)
  unfolding made_if
  limits_make true h =
      outside long
      (⊎_elim
      (λ (x : eqb a 0 ≡ true). no_symbol (eqb-true a 0 x))
      (λ (x : (ltb 16 a || ltb max_text (length t)) ≡ true).
      ⊎_elim
      (λ (y : ltb 16 a ≡ true). many_symbols (ltb-true 16 a y))
      (λ (y : ltb max_text (length t) ≡ true). too_long (ltb-true max_text (length t) y))
      (or_passes (ltb 16 a) (ltb max_text (length t)) x))
      (or_passes (eqb a 0) (ltb 16 a || ltb max_text (length t)) h))
  limits_make false h =
      let x = or_eq_false (eqb a 0) (ltb 16 a || ltb max_text (length t)) h in
      let y = or_eq_false (ltb 16 a) (ltb max_text (length t)) x.1 in
      let few = ltb-false 16 a y.0 in
      let zero_not = eqb-false a 0 x.0 in
      reading_makes (omega (arith, zero_not)) few (ltb-false max_text (length t) y.1) (text_read a t) (text_answer a t few)

-- every text, A and length of the rule buffer is answered so
pub made_by_lem : (t : List ℕ) (a rule : ℕ) → ExpressionMakes t a rule (made_by t a rule)
unfolding made_by made_if_long
made_by_lem t a rule = go (eqb rule rule_size) refl
  where
    go : (b : Bool) → eqb rule rule_size ≡ b → ExpressionMakes t a rule (made_if_long b t a)
    go true h = limits_make t a rule (eqb-true rule rule_size h) (past_limits t a) refl
    go false h = other_length (eqb-false rule rule_size h)
