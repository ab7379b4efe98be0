-- Calls of the rule call with the number and the bytes of each, worked out by hand: PAIR of document 01, a rule of sixteen states and sixteen
-- symbols, and the refusals in their order. That they are answered so, `AllRuled rule_trials`, is a theorem of `proofs/`.
-- Assumes nothing.
use Rattle.std.specs.Prelude.{◌≡◌, List, [], ◌∷◌, ◌++◌, ℕ, ◌+◌, length, replicate}
use Prim.Native.String.{String}
use Rattle.jobfile.specs.File.{Answer}
use Rattle.jobfile.specs.FileTrials.{lines_in, pair_lines, pair_file, pair_with_zeros, small_head, small_rule, small_node, with_head, with_rule, with_node, with_edges}
use Rattle.buffer.specs.Buffer.{cleared}
use Rattle.admission.specs.Admission.{work_after}
use Rattle.ruleoutcome.specs.RuleCall.{rule_answer, ruled_of, rule_after, rule_value, rule_number}

-- what is left of the rule buffer: its bytes as they were, or these
pub data Left : Type 0 where
  as_it_was : Left
  bytes : List ℕ → Left

-- what is left of the work buffer: all of it, or zeros first
pub data Work : Type 0 where
  kept : Work
  wiped : Work

-- a file, the lengths of the work buffer and of the rule buffer, the number that is returned, and what is left
pub record RuleTrial : Type 0 where
  pub file : List ℕ
  pub work : ℕ
  pub rule : ℕ
  pub number : ℕ
  pub left : Left
  pub worked : Work

-- a row of the table: a rule that is handed over
abbrev pub hands : List ℕ → ℕ → ℕ → List ℕ → RuleTrial
hands file work number l = record { file = file; work = work; rule = 256; number = number; left = bytes l; worked = wiped }

-- a refusal, with the lengths of both buffers
abbrev pub refuses : List ℕ → ℕ → ℕ → ℕ → Work → RuleTrial
refuses file work rule number worked = record { file = file; work = work; rule = rule; number = number; left = as_it_was; worked = worked }

-- the rule buffer after a call
abbrev pub left_of : Left → List ℕ → List ℕ
left_of as_it_was rule = rule
left_of (bytes l) rule = l

-- the work buffer after a call
abbrev pub work_of : Work → List ℕ → List ℕ
work_of kept work = work
work_of wiped work = cleared work

-- the table by value
abbrev pub beside_of : Left → List ℕ
beside_of as_it_was = replicate 256 0
beside_of (bytes l) = l

-- the number, the rule buffer and the work buffer, whatever they held, and the table by value
pub record RuledSo (t : RuleTrial) (a : Answer) (work rule : List ℕ) : Type 0 where
  pub number : rule_number (ruled_of a) ≡ t.number
  pub left : rule_after a rule ≡ left_of t.left rule
  pub beside : (rule_value a).table ≡ beside_of t.left
  pub worked : work_after a work ≡ work_of t.worked work

-- so for all buffers of these lengths
abbrev pub RulesSo : RuleTrial → Type 0
RulesSo t =
    (work rule : List ℕ) → length work ≡ t.work → length rule ≡ t.rule
    → RuledSo t (rule_answer t.file (length work) (length rule)) work rule

infixr 5 ◌and◌
-- every call of a table is answered as it should be
pub data AllRuled : List RuleTrial → Type 0 where
  done : AllRuled []
  ◌and◌ : {t : RuleTrial} {ts : List RuleTrial} → RulesSo t → AllRuled ts → AllRuled (t ∷ ts)

-- PAIR's rule: three rows of three, each in a row of sixteen
abbrev pub pair_bytes : List ℕ
pair_bytes =
    (1 ∷ 0 ∷ 0 ∷ replicate 13 0) ++ (1 ∷ 0 ∷ 2 ∷ replicate 13 0) ++ (1 ∷ 0 ∷ 2 ∷ replicate 13 0) ++ replicate 208 0

-- a rule of two states and five symbols
abbrev pub flat_lines : List String
flat_lines =
    "J     2     5     1     0"
    ∷ "R     0     1     1     0     1     1     1"
    ∷ "R     1     0     0     1     0     1     1"
    ∷ "P     0     0     0     3     0     0"
    ∷ []

abbrev pub flat_bytes : List ℕ
flat_bytes = (1 ∷ 0 ∷ 1 ∷ 1 ∷ 1 ∷ replicate 11 0) ++ (0 ∷ 1 ∷ 0 ∷ 1 ∷ 1 ∷ replicate 11 0) ++ replicate 224 0

-- a rule of sixteen states and sixteen symbols: state q goes to q on every symbol but the last, and on that to 15 - q; odd states are final
abbrev pub full_lines : List String
full_lines =
    "J    16    16     1     0"
    ∷ "R     0     0     0     0     0     0     0     0     0     0     0     0     0     0     0     0     0    15"
    ∷ "R     1     1     1     1     1     1     1     1     1     1     1     1     1     1     1     1     1    14"
    ∷ "R     2     0     2     2     2     2     2     2     2     2     2     2     2     2     2     2     2    13"
    ∷ "R     3     1     3     3     3     3     3     3     3     3     3     3     3     3     3     3     3    12"
    ∷ "R     4     0     4     4     4     4     4     4     4     4     4     4     4     4     4     4     4    11"
    ∷ "R     5     1     5     5     5     5     5     5     5     5     5     5     5     5     5     5     5    10"
    ∷ "R     6     0     6     6     6     6     6     6     6     6     6     6     6     6     6     6     6     9"
    ∷ "R     7     1     7     7     7     7     7     7     7     7     7     7     7     7     7     7     7     8"
    ∷ "R     8     0     8     8     8     8     8     8     8     8     8     8     8     8     8     8     8     7"
    ∷ "R     9     1     9     9     9     9     9     9     9     9     9     9     9     9     9     9     9     6"
    ∷ "R    10     0    10    10    10    10    10    10    10    10    10    10    10    10    10    10    10     5"
    ∷ "R    11     1    11    11    11    11    11    11    11    11    11    11    11    11    11    11    11     4"
    ∷ "R    12     0    12    12    12    12    12    12    12    12    12    12    12    12    12    12    12     3"
    ∷ "R    13     1    13    13    13    13    13    13    13    13    13    13    13    13    13    13    13     2"
    ∷ "R    14     0    14    14    14    14    14    14    14    14    14    14    14    14    14    14    14     1"
    ∷ "R    15     1    15    15    15    15    15    15    15    15    15    15    15    15    15    15    15     0"
    ∷ "P     0     0     0     1     0     0"
    ∷ []

-- its row of a state: fifteen times one next state, and then another
abbrev pub row : ℕ → ℕ → List ℕ
row q last = replicate 15 q ++ (last ∷ [])

abbrev pub full_bytes : List ℕ
full_bytes =
    row 0 15 ++ row 1 14 ++ row 2 13 ++ row 3 12 ++ row 4 11 ++ row 5 10 ++ row 6 9 ++ row 7 8
    ++ row 8 7 ++ row 9 6 ++ row 10 5 ++ row 11 4 ++ row 12 3 ++ row 13 2 ++ row 14 1 ++ row 15 0

-- sixteen states and one symbol: state q goes to the next, and the last to the first; all are final
abbrev pub tall_lines : List String
tall_lines =
    "J    16     1     1     0"
    ∷ "R     0     1     1"
    ∷ "R     1     1     2"
    ∷ "R     2     1     3"
    ∷ "R     3     1     4"
    ∷ "R     4     1     5"
    ∷ "R     5     1     6"
    ∷ "R     6     1     7"
    ∷ "R     7     1     8"
    ∷ "R     8     1     9"
    ∷ "R     9     1    10"
    ∷ "R    10     1    11"
    ∷ "R    11     1    12"
    ∷ "R    12     1    13"
    ∷ "R    13     1    14"
    ∷ "R    14     1    15"
    ∷ "R    15     1     0"
    ∷ "P     0     0     0     1     0     0"
    ∷ []

-- its row of a state: one next state, and zeros
abbrev pub first : ℕ → List ℕ
first q = q ∷ replicate 15 0

abbrev pub tall_bytes : List ℕ
tall_bytes =
    first 1 ++ first 2 ++ first 3 ++ first 4 ++ first 5 ++ first 6 ++ first 7 ++ first 8
    ++ first 9 ++ first 10 ++ first 11 ++ first 12 ++ first 13 ++ first 14 ++ first 15 ++ first 0

-- one state, which is final, and sixteen symbols
abbrev pub wide_lines : List String
wide_lines =
    "J     1    16     1     0"
    ∷ "R     0     1     0     0     0     0     0     0     0     0     0     0     0     0     0     0     0     0"
    ∷ "P     0     1    15     1     0     0"
    ∷ []

-- the table; 281474976710656 is 2^48, and 4294967296 is 2^32
unfoldable pub rule_trials : List RuleTrial
unfolding pair_file pair_with_zeros lines_in
rule_trials =
    -- PAIR: three states, three symbols, state 2 final
    hands pair_file 65536 (281474976710656 + 12884901888 + 196608 + 4) pair_bytes
    -- in a longer work buffer, and with zeros before its numbers' digits: the same
    ∷ hands pair_file 65537 (281474976710656 + 12884901888 + 196608 + 4) pair_bytes
    ∷ hands pair_with_zeros 65536 (281474976710656 + 12884901888 + 196608 + 4) pair_bytes
    -- two states, five symbols, state 0 final
    ∷ hands (lines_in flat_lines) 65536 (281474976710656 + 8589934592 + 327680 + 1) flat_bytes
    -- sixteen of both, odd states final: 43,690
    ∷ hands (lines_in full_lines) 65536 (281474976710656 + 68719476736 + 1048576 + 43690) full_bytes
    -- sixteen states, all final, and one symbol: 65,535
    ∷ hands (lines_in tall_lines) 65536 (281474976710656 + 68719476736 + 65536 + 65535) tall_bytes
    -- one state, which is final, and sixteen symbols
    ∷ hands (lines_in wide_lines) 65536 (281474976710656 + 4294967296 + 1048576 + 1) (replicate 256 0)
    -- one of both, none final
    ∷ hands (lines_in (small_head ∷ small_rule ∷ small_node ∷ [])) 65536 (281474976710656 + 4294967296 + 65536) (replicate 256 0)
    -- 1 before 2 and 13: the file too long by a byte
    ∷ refuses (replicate 49915 32) 65535 255 1 kept
    -- 2 before 3 to 10 and 13: the work buffer too short by a byte
    ∷ refuses [] 65535 255 2 kept
    ∷ refuses pair_file 65535 256 2 kept
    -- 3 to 10 before 13, each with a rule buffer as it should be too
    ∷ refuses [] 65536 255 3 wiped
    ∷ refuses [] 65536 256 3 wiped
    ∷ refuses (lines_in pair_lines ++ (70 ∷ [])) 65536 0 4 wiped
    ∷ refuses (lines_in pair_lines ++ (70 ∷ [])) 65536 256 4 wiped
    ∷ refuses (with_head "J    17     1     1     0") 65536 257 5 wiped
    ∷ refuses (with_head "J    17     1     1     0") 65536 256 5 wiped
    ∷ refuses (with_rule "R     0     0     1") 65536 255 6 wiped
    ∷ refuses (with_rule "R     0     0     1") 65536 256 6 wiped
    ∷ refuses (with_node "P     0     4     0     1     0     0") 65536 255 7 wiped
    ∷ refuses (with_node "P     0     4     0     1     0     0") 65536 256 7 wiped
    ∷ refuses (with_edges "F     0     1" "F     0     1") 65536 255 8 wiped
    ∷ refuses (with_edges "F     0     1" "F     0     1") 65536 256 8 wiped
    ∷ refuses (pair_file ++ (10 ∷ [])) 65536 255 9 wiped
    ∷ refuses (pair_file ++ (10 ∷ [])) 65536 256 9 wiped
    ∷ refuses (with_node "P     0     0     0     0     0     0") 65536 257 10 wiped
    ∷ refuses (with_node "P     0     0     0     0     0     0") 65536 256 10 wiped
    -- 13: no byte, one too few, one too many, a whole rule more
    ∷ refuses pair_file 65536 0 13 wiped
    ∷ refuses pair_file 65536 255 13 wiped
    ∷ refuses pair_file 65536 257 13 wiped
    ∷ refuses pair_file 65537 512 13 wiped
    ∷ []
