-- What a job file is turned back for (document 01, "Turned back, by number", 1 and 3 to 10), said of the lines that are written in
-- it and not of how they are read.
-- Assumes nothing.
use Rattle.std.specs.Prelude.{◌≡◌, ◌≢◌, ◌⊎◌, ◌↔◌, true, List, [], ◌∷◌, map, ℕ, ◌+◌, ◌≤◌, ◌<◌, length, get_or}
use Rattle.laws.specs.Bits.{has}
use Rattle.job.specs.Job.{Job, no_node}
use Rattle.lines.specs.Line.{at}
use Rattle.lines.specs.Written.{LinesAt, FirstBad}
use Rattle.jobfile.specs.File.{max_file, good_head, good_rule, good_node, good_edge, head_line, rule_line, node_line, edge_line, node_of, accepted, turned, read_job}

-- ---- the tests of 5 to 8 in words: a line's test passes if and only if this holds of its numbers

-- 5: "S and A 1 to 16, N 1 to 512, E 0 to 2,048"
pub record HeadWithin (s a n e : ℕ) : Type 0 where
  pub some_state : 1 ≤ s
  pub few_states : s ≤ 16
  pub some_symbol : 1 ≤ a
  pub few_symbols : a ≤ 16
  pub some_node : 1 ≤ n
  pub few_nodes : n ≤ 512
  pub few_edges : e ≤ 2048

-- 6: the R line at place i of a job of s states and a symbols
pub record RuleWithin (s a i : ℕ) (ns : List ℕ) : Type 0 where
  pub state : at ns 0 ≡ i
  pub final : at ns 1 ≤ 1
  pub next : (c : ℕ) → c < a → at ns (c + 2) < s

-- 7: the P line at place i of such a job
pub record NodeWithin (s a i : ℕ) (ns : List ℕ) : Type 0 where
  pub node : at ns 0 ≡ i
  pub kind : at ns 1 ≤ 3
  pub plain_value : at ns 1 ≡ 0 → at ns 2 ≡ 0
  pub symbol : at ns 1 ≡ 1 → at ns 2 < a
  pub call_set : 2 ≤ at ns 1 → (q : ℕ) → has (at ns 2) q ≡ true → q < a
  pub entry_set : (q : ℕ) → has (at ns 3) q ≡ true → q < s
  pub exit_mark : at ns 4 ≤ 1
  pub after_set : (q : ℕ) → has (at ns 5) q ≡ true → q < a
  pub no_after : at ns 4 ≡ 0 → at ns 5 ≡ 0

-- 8: an F line of a job of n nodes, after the line before it, if there is one
pub record EdgeWithin (n : ℕ) (before ns : List ℕ) : Type 0 where
  pub from : at ns 0 < n
  pub to : at ns 1 < n
  pub ascends : (before ≡ []) ⊎ ((at before 0 < at ns 0) ⊎ ((at before 0 ≡ at ns 0) × (at before 1 < at ns 1)))

-- the statement: this is what the tests say
pub record TestsSay : Type 0 where
  pub head : (i : ℕ) (before ns : List ℕ) → (good_head i before ns ≡ true) ↔ HeadWithin (at ns 0) (at ns 1) (at ns 2) (at ns 3)
  pub rule : (s a i : ℕ) (before ns : List ℕ) → (good_rule s a i before ns ≡ true) ↔ RuleWithin s a i ns
  pub node : (s a i : ℕ) (before ns : List ℕ) → (good_node s a i before ns ≡ true) ↔ NodeWithin s a i ns
  pub edge : (n i : ℕ) (before ns : List ℕ) → (good_edge n i before ns ≡ true) ↔ EdgeWithin n before ns

-- ---- the file, as far as it is good

-- the J line, with S, A, N and E
pub record PastHead (file head rest : List ℕ) : Type 0 where
  pub short : length file ≤ max_file
  pub lines : LinesAt head_line 1 0 [] file (head ∷ []) rest

-- the R lines too
pub record PastRules (file head : List ℕ) (rules : List (List ℕ)) (rest : List ℕ) : Type 0 where
  pub from : List ℕ
  pub past : PastHead file head from
  pub lines : LinesAt (rule_line (at head 0) (at head 1)) (at head 0) 0 [] from rules rest

-- the P lines too
pub record PastNodes (file head : List ℕ) (rules nodes : List (List ℕ)) (rest : List ℕ) : Type 0 where
  pub from : List ℕ
  pub past : PastRules file head rules from
  pub lines : LinesAt (node_line (at head 0) (at head 1)) (at head 2) 0 [] from nodes rest

-- the F lines too
pub record PastEdges (file head : List ℕ) (rules nodes edges : List (List ℕ)) (rest : List ℕ) : Type 0 where
  pub from : List ℕ
  pub past : PastNodes file head rules nodes from
  pub lines : LinesAt (edge_line (at head 2)) (at head 3) 0 [] from edges rest

-- ---- the file turned back, with the number

-- r is the first that fails: all lines before the one it is of are good
pub data TurnedBack (file : List ℕ) : ℕ → Type 0 where
  -- 1: "the file is longer than 49,914 bytes"
  too_long : max_file < length file → TurnedBack file 1
  -- 3, 4 or 5 at the J line
  at_head : {r : ℕ} → length file ≤ max_file → FirstBad head_line 1 0 [] file r → TurnedBack file r
  -- 3, 4 or 6 at an R line
  at_rule
      : {r : ℕ} {head rest : List ℕ} → PastHead file head rest
      → FirstBad (rule_line (at head 0) (at head 1)) (at head 0) 0 [] rest r → TurnedBack file r
  -- 3, 4 or 7 at a P line
  at_node
      : {r : ℕ} {head rest : List ℕ} {rules : List (List ℕ)} → PastRules file head rules rest
      → FirstBad (node_line (at head 0) (at head 1)) (at head 2) 0 [] rest r → TurnedBack file r
  -- 3, 4 or 8 at an F line
  at_Edge
      : {r : ℕ} {head rest : List ℕ} {rules nodes : List (List ℕ)} → PastNodes file head rules nodes rest
      → FirstBad (edge_line (at head 2)) (at head 3) 0 [] rest r → TurnedBack file r
  -- 9: "bytes follow the last line"
  bytes_follow
      : {head rest : List ℕ} {rules nodes edges : List (List ℕ)} → PastEdges file head rules nodes edges rest → rest ≢ []
      → TurnedBack file 9
  -- 10: "no node is an entry"
  no_entry
      : {head : List ℕ} {rules nodes edges : List (List ℕ)} → PastEdges file head rules nodes edges []
      → ((i : ℕ) → (get_or (map node_of nodes) i no_node).entry ≡ 0) → TurnedBack file 10

-- the numbers of this layer: 1 and 3 to 10 (2 is of lent buffers)
abbrev pub RefusalNumber : ℕ → Type 0
RefusalNumber r = (r ≡ 1) ⊎ ((3 ≤ r) × (r ≤ 10))

-- the statement: the answer is r if and only if r is the first that fails
abbrev pub RefusesInOrder : Type 0
RefusesInOrder = (file : List ℕ) (r : ℕ) → (read_job file ≡ turned r) ↔ TurnedBack file r

-- the statement: every file is accepted or turned back by one of these numbers
abbrev pub AnswersEveryFile : Type 0
AnswersEveryFile =
    (file : List ℕ) → ((j : Job) × (read_job file ≡ accepted j)) ⊎ ((r : ℕ) × TurnedBack file r × RefusalNumber r)

-- the statement: a file is turned back by one number
abbrev pub TurnedOnce : Type 0
TurnedOnce = (file : List ℕ) (q r : ℕ) → TurnedBack file q → TurnedBack file r → q ≡ r

-- the statement: a file that is turned back is not accepted
abbrev pub TurnedNotAccepted : Type 0
TurnedNotAccepted = (file : List ℕ) (r : ℕ) (j : Job) → TurnedBack file r → read_job file ≡ accepted j → ⊥
