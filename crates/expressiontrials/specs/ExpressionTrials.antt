-- Texts of expressions with the number and the bytes of each call, worked out by hand: which operator binds first, the start that no event leads
-- to, the empty set as a state, sixteen states and seventeen, texts outside the grammar, and the refusals in their order. That they are answered
-- so, `AllMade expression_trials`, is a theorem of `proofs/`.
-- Assumes nothing.
use Rattle.std.specs.Prelude.{◌≡◌, List, [], ◌∷◌, ◌++◌, ℕ, zero, suc, ◌+◌, ◌-◌, length, replicate}
use Prim.Native.String.{String}
use Rattle.laws.specs.Bounded.{tab}
use Rattle.automaton.specs.Made.{Made, made_after, made_table}
use Rattle.lines.specs.FieldTrials.{bytes_in}
use Rattle.expressionrule.specs.ExpressionRule.{ExpressionMakes, expression_answer, expression_number}

-- a text, A, the length of the rule buffer; the number that is returned, what the buffer holds after it, given what it held, and the table by value
pub record ExpressionTrial : Type 0 where
  pub text : List ℕ
  pub symbols : ℕ
  pub rule : ℕ
  pub number : ℕ
  pub left : List ℕ → List ℕ
  pub beside : List ℕ

-- the bytes of the first rows of a table, so many in all, each with zeros after it
unfoldable pub rows_of : ℕ → List (List ℕ) → List ℕ
rows_of zero rows = []
rows_of (suc n) [] = replicate 16 0 ++ rows_of n []
rows_of (suc n) (r ∷ rows) = (r ++ replicate (16 - length r) 0) ++ rows_of n rows

-- a row of the table: a rule that is made, by its number, 2^48 + S * 2^16 + the final set, and the rows of its table
abbrev pub gives_of : List ℕ → ℕ → ℕ → List (List ℕ) → ExpressionTrial
gives_of text a number rows =
    record {
      text = text;
      symbols = a;
      rule = 256;
      number = number;
      left = λ before. rows_of 16 rows;
      beside = rows_of 16 rows;
    }

abbrev pub gives : String → ℕ → ℕ → List (List ℕ) → ExpressionTrial
gives text = gives_of (bytes_in text)

-- a refusal, with the length of the rule buffer
abbrev pub refuses_with : ℕ → List ℕ → ℕ → ℕ → ExpressionTrial
refuses_with rule text a number =
    record {
      text = text;
      symbols = a;
      rule = rule;
      number = number;
      left = λ before. before;
      beside = replicate 256 0;
    }

-- with one of 256 bytes
abbrev pub refuses_text : String → ℕ → ℕ → ExpressionTrial
refuses_text text = refuses_with 256 (bytes_in text)

-- the number, the rule buffer, whatever it held, and the table by value
pub record MadeSo (t : ExpressionTrial) (x : Made) (rule : List ℕ) : Type 0 where
  pub number : expression_number (expression_answer x) ≡ t.number
  pub left : made_after x rule ≡ t.left rule
  pub beside : made_table x ≡ t.beside

-- what is made of the text and A with this rule buffer is answered so
pub record AnsweredSo (t : ExpressionTrial) (rule : List ℕ) : Type 0 where
  pub made : Made
  pub makes : ExpressionMakes t.text t.symbols (length rule) made
  pub so : MadeSo t made rule

-- so for all rule buffers of this length
abbrev pub MakesSo : ExpressionTrial → Type 0
MakesSo t = (rule : List ℕ) → length rule ≡ t.rule → AnsweredSo t rule

infixr 5 ◌and◌
-- every call of a table is answered as it should be
pub data AllMade : List ExpressionTrial → Type 0 where
  done : AllMade []
  ◌and◌ : {t : ExpressionTrial} {ts : List ExpressionTrial} → MakesSo t → AllMade ts → AllMade (t ∷ ts)

-- ---- texts and rows

-- `a` so many times
abbrev pub letters : ℕ → List ℕ
letters n = replicate n 97

-- rows of one cell, from state 0 on, each leading to the next, and then a last one
abbrev pub onward : ℕ → ℕ → List (List ℕ)
onward n last = tab n (λ q. (q + 1) ∷ []) ++ ((last ∷ []) ∷ [])

-- the rows of a state for each letter: every state leads to 1 by the first, to 2 by the second and so on
abbrev pub each_letter : List (List ℕ)
each_letter = replicate 16 (1 ∷ 2 ∷ 3 ∷ 4 ∷ 5 ∷ 6 ∷ 7 ∷ 8 ∷ 9 ∷ 10 ∷ 11 ∷ 12 ∷ 13 ∷ 14 ∷ 15 ∷ [])

-- ---- the table

unfoldable pub expression_trials : List ExpressionTrial
unfolding bytes_in rows_of tab
expression_trials =
    -- one letter: the start, its position, and no position, at which no word ends; also with a letter that stands nowhere
    gives "a" 1 281474976907266 ((1 ∷ []) ∷ (2 ∷ []) ∷ (2 ∷ []) ∷ [])
    ∷ gives "a" 2 281474976907266 ((1 ∷ 2 ∷ []) ∷ (2 ∷ 2 ∷ []) ∷ (2 ∷ 2 ∷ []) ∷ [])
    -- the bar binds last
    ∷ gives "ab|c" 3 281474977038360 ((1 ∷ 2 ∷ 3 ∷ []) ∷ (2 ∷ 4 ∷ 2 ∷ []) ∷ (2 ∷ 2 ∷ 2 ∷ []) ∷ (2 ∷ 2 ∷ 2 ∷ []) ∷ (2 ∷ 2 ∷ 2 ∷ []) ∷ [])
    ∷ gives "a|bc" 3 281474977038354 ((1 ∷ 2 ∷ 3 ∷ []) ∷ (3 ∷ 3 ∷ 3 ∷ []) ∷ (3 ∷ 3 ∷ 4 ∷ []) ∷ (3 ∷ 3 ∷ 3 ∷ []) ∷ (3 ∷ 3 ∷ 3 ∷ []) ∷ [])
    ∷ gives "(a|b)c" 3 281474977038352 ((1 ∷ 2 ∷ 3 ∷ []) ∷ (3 ∷ 3 ∷ 4 ∷ []) ∷ (3 ∷ 3 ∷ 4 ∷ []) ∷ (3 ∷ 3 ∷ 3 ∷ []) ∷ (3 ∷ 3 ∷ 3 ∷ []) ∷ [])
    -- the star binds first, and a group has it whole
    ∷ gives "ab*" 2 281474976972810 ((1 ∷ 2 ∷ []) ∷ (2 ∷ 3 ∷ []) ∷ (2 ∷ 2 ∷ []) ∷ (2 ∷ 3 ∷ []) ∷ [])
    ∷ gives "(ab)*" 2 281474976972808 ((1 ∷ 2 ∷ []) ∷ (2 ∷ 3 ∷ []) ∷ (2 ∷ 2 ∷ []) ∷ (1 ∷ 2 ∷ []) ∷ [])
    ∷ gives "a|b*" 2 281474976972806 ((1 ∷ 2 ∷ []) ∷ (3 ∷ 3 ∷ []) ∷ (3 ∷ 2 ∷ []) ∷ (3 ∷ 3 ∷ []) ∷ [])
    -- a star of a choice; sets of two positions
    ∷ gives "(a|b)*c" 3 281474977038344 ((1 ∷ 2 ∷ 3 ∷ []) ∷ (1 ∷ 2 ∷ 3 ∷ []) ∷ (1 ∷ 2 ∷ 3 ∷ []) ∷ (4 ∷ 4 ∷ 4 ∷ []) ∷ (4 ∷ 4 ∷ 4 ∷ []) ∷ [])
    ∷ gives "a(a|c)*c" 3 281474977038352 ((1 ∷ 2 ∷ 2 ∷ []) ∷ (3 ∷ 2 ∷ 4 ∷ []) ∷ (2 ∷ 2 ∷ 2 ∷ []) ∷ (3 ∷ 2 ∷ 4 ∷ []) ∷ (3 ∷ 2 ∷ 4 ∷ []) ∷ [])
    ∷ gives "(a|b)*abb" 2 281474977038352 ((1 ∷ 2 ∷ []) ∷ (1 ∷ 3 ∷ []) ∷ (1 ∷ 2 ∷ []) ∷ (1 ∷ 4 ∷ []) ∷ (1 ∷ 2 ∷ []) ∷ [])
    -- the start is a state of its own and not final, also where the empty word is a word; the empty set is a state where an event leads to it
    ∷ gives "a*" 1 281474976841730 ((1 ∷ []) ∷ (1 ∷ []) ∷ [])
    ∷ gives "a*" 2 281474976907266 ((1 ∷ 2 ∷ []) ∷ (1 ∷ 2 ∷ []) ∷ (2 ∷ 2 ∷ []) ∷ [])
    -- stars may follow one another, up to 64 characters; groups in groups
    ∷ gives "a**" 1 281474976841730 ((1 ∷ []) ∷ (1 ∷ []) ∷ [])
    ∷ gives_of (97 ∷ replicate 63 42) 1 281474976841730 ((1 ∷ []) ∷ (1 ∷ []) ∷ [])
    ∷ gives_of (replicate 31 40 ++ (97 ∷ replicate 31 41)) 1 281474976907266 ((1 ∷ []) ∷ (2 ∷ []) ∷ (2 ∷ []) ∷ [])
    -- the last letter
    ∷ gives "p" 16 281474976907268 ((replicate 15 1 ++ (2 ∷ [])) ∷ replicate 16 1 ∷ replicate 16 1 ∷ [])
    -- sixteen states, with the empty set and without it, and by a letter each
    ∷ gives_of (letters 14) 1 281474977775616 (onward 15 15)
    ∷ gives_of (40 ∷ (letters 15 ++ (41 ∷ 42 ∷ []))) 1 281474977792000 (onward 15 1)
    ∷ gives "(a|b|c|d|e|f|g|h|i|j|k|l|m|n|o)*" 15 281474977824766 each_letter
    -- 21: one more, in the last row, in the second and in the first; in a text of 64 characters; sets of many positions
    ∷ refuses_with 256 (letters 15) 1 21
    ∷ refuses_text "a|b|c|d|e|f|g|h|i|j|k|l|m|n|o" 15 21
    ∷ refuses_text "(a|b|c|d|e|f|g|h|i|j|k|l|m|n|o|p)*" 16 21
    ∷ refuses_with 256 (letters 64) 1 21
    ∷ refuses_text "(a|b)*a(a|b)(a|b)(a|b)(a|b)" 2 21
    -- 20: 65 characters, before 21
    ∷ refuses_with 256 (97 ∷ replicate 64 42) 1 20
    ∷ refuses_with 256 (letters 65) 1 20
    -- 20: outside the grammar: nothing before a star, on a side of a bar, in a group, at all
    ∷ refuses_text "*a" 2 20
    ∷ refuses_text "|a" 2 20
    ∷ refuses_text "a|" 2 20
    ∷ refuses_text "()" 2 20
    ∷ refuses_text "a()" 2 20
    ∷ refuses_text "a(|b)" 2 20
    ∷ refuses_text "(*a)" 2 20
    ∷ refuses_text "a||b" 2 20
    ∷ refuses_text "" 2 20
    -- 20: a group that is not closed, or not opened
    ∷ refuses_text "(" 2 20
    ∷ refuses_text ")" 2 20
    ∷ refuses_text "(ab" 2 20
    ∷ refuses_text "ab)" 2 20
    -- 20: another character
    ∷ refuses_text "A" 2 20
    ∷ refuses_text " a" 2 20
    ∷ refuses_text "a " 2 20
    ∷ refuses_text "a+" 2 20
    ∷ refuses_with 256 (97 ∷ 0 ∷ []) 2 20
    ∷ refuses_with 256 (97 ∷ 10 ∷ []) 2 20
    -- 20: a letter past A, before 21; the letter after the last
    ∷ refuses_text "b" 1 20
    ∷ refuses_text "abc" 2 20
    ∷ refuses_with 256 (letters 16 ++ (98 ∷ [])) 1 20
    ∷ refuses_text "q" 16 20
    -- 20: A
    ∷ refuses_text "a" 0 20
    ∷ refuses_text "a" 17 20
    ∷ refuses_text "a" 65537 20
    ∷ refuses_text "a" 4294967297 20
    -- 13: no byte, one too few, one too many; before 20 of the text and of A, and before 21
    ∷ refuses_with 0 (bytes_in "a") 1 13
    ∷ refuses_with 255 (bytes_in "a") 1 13
    ∷ refuses_with 257 (bytes_in "a") 1 13
    ∷ refuses_with 255 (bytes_in "*a") 1 13
    ∷ refuses_with 257 (bytes_in "a") 0 13
    ∷ refuses_with 0 (bytes_in "") 17 13
    ∷ refuses_with 255 (letters 15) 1 13
    ∷ []
