-- What reading the lines of each kind finds, in numbers, and what it leaves in the buffer.
-- Inner contracts: what functions ask of and leave to each other. No promise is stated in them; a reader need not believe them.
-- Assumes nothing.
use Rattle.std.specs.Prelude.{◌≡◌, Result, List, [], ◌∷◌, ℕ, zero, suc, ◌+◌, ◌*◌, ◌/◌, ◌%◌, ◌≤◌, ◌<◌, length}
use Rattle.laws.specs.Bounded.{sum_below, tab}
use Rattle.refusal.specs.declared.Refusal.{Refusal}
use Rattle.refusal.specs.Refusal.{status_in, value_in}
use Rattle.lines.specs.Line.{at, line_length, line_of}
use Rattle.lines.specs.Lines.{Lines, lines, refused, lines_of}
use Rattle.lines.specs.Places.{numbers_of, status_of, numbers_at, status_at, LinesRead}
use Rattle.jobfile.specs.File.{head_line, rule_line, node_line, edge_line, finals_of, node_of}
use Rattle.jobhead.specs.Numbers.{HeadNumbers, refused_head}
use Rattle.buffer.specs.Layout.{node_place, starts_part, pair_part, rule_part, marks_part}
use Rattle.buffer.specs.Views.{node_in, start_in, target_in, cell_in}
use Rattle.buffer.specs.Kept.{SameOutside}

-- the numbers of a J line
abbrev pub head_numbers : List ℕ → HeadNumbers
head_numbers ns = record { refusal = 0; states = at ns 0; symbols = at ns 1; finals = 0; nodes = at ns 2; edges = at ns 3 }

-- what is returned for the J line: its numbers, or its refusal
abbrev pub head_in : Lines → HeadNumbers
head_in (lines [] rest) = refused_head 0
head_in (lines (ns ∷ ls) rest) = head_numbers ns
head_in (refused k) = refused_head k

-- what reading the J line finds
pub record HeadRead (file : List ℕ) (r : HeadNumbers) : Type 0 where
  pub exact : r ≡ head_in (lines_of head_line 1 0 [] file)
  pub passed : r.refusal ≡ 0 → status_at head_line file 0 ≡ 0
  pub some_state : r.refusal ≡ 0 → 1 ≤ r.states
  pub few_states : r.states ≤ 16
  pub some_symbol : r.refusal ≡ 0 → 1 ≤ r.symbols
  pub few_symbols : r.symbols ≤ 16
  pub few_nodes : r.nodes ≤ 512
  pub few_edges : r.edges ≤ 2048
  pub within : r.refusal ≡ 0 → line_length 4 ≤ length file

-- ---- lines that are stored in the buffer l, which then is m

-- the P line at the start of the bytes, for node n, with its entry set as the number beside the status
pub record NodeRead (s a n : ℕ) (bytes l m : List ℕ) (r : Result ℕ Refusal) : Type 0 where
  pub status : status_in r ≡ status_of (node_line s a) n [] (line_of 80 6 bytes)
  pub number : status_in r ≡ 0 → value_in r ≡ at (numbers_of (line_of 80 6 bytes)) 3
  pub zero : (status_in r ≡ 0 → ⊥) → value_in r ≡ 0
  pub small : value_in r < 65536
  pub here : status_in r ≡ 0 → node_in m n ≡ node_of (numbers_of (line_of 80 6 bytes))
  pub within : status_in r ≡ 0 → line_length 6 ≤ length bytes
  pub kept : SameOutside l m (node_place n) (node_place n + 8)

-- all P lines, with the sum of the entry sets beside the status
pub record NodesRead (s a n : ℕ) (bytes l m : List ℕ) (r : Result ℕ Refusal) : Type 0 where
  pub lines : LinesRead (node_line s a) bytes n (status_in r)
  pub number : status_in r ≡ 0 → value_in r ≡ sum_below n (λ j. at (numbers_at (node_line s a) bytes j) 3)
  pub zero : (status_in r ≡ 0 → ⊥) → value_in r ≡ 0
  pub here : status_in r ≡ 0 → (j : ℕ) → j < n → node_in m j ≡ node_of (numbers_at (node_line s a) bytes j)
  pub kept : SameOutside l m 0 starts_part

-- the R line at the start of the bytes, for state q, with its final mark as the number beside the status
pub record RuleRead (s a q : ℕ) (bytes l m : List ℕ) (r : Result ℕ Refusal) : Type 0 where
  pub status : status_in r ≡ status_of (rule_line s a) q [] (line_of 82 (a + 2) bytes)
  pub number : status_in r ≡ 0 → value_in r ≡ at (numbers_of (line_of 82 (a + 2) bytes)) 1
  pub zero : (status_in r ≡ 0 → ⊥) → value_in r ≡ 0
  pub small : value_in r ≤ 1
  pub here : status_in r ≡ 0 → (c : ℕ) → c < 16 → cell_in m q c ≡ at (numbers_of (line_of 82 (a + 2) bytes)) (c + 2)
  pub within : status_in r ≡ 0 → line_length (a + 2) ≤ length bytes
  pub kept : SameOutside l m (rule_part + q * 16) (rule_part + q * 16 + 16)

-- all R lines, with the set of final states beside the status
pub record RulesRead (s a : ℕ) (bytes l m : List ℕ) (r : Result ℕ Refusal) : Type 0 where
  pub lines : LinesRead (rule_line s a) bytes s (status_in r)
  pub number : status_in r ≡ 0 → value_in r ≡ finals_of 0 (tab s (numbers_at (rule_line s a) bytes))
  pub zero : (status_in r ≡ 0 → ⊥) → value_in r ≡ 0
  pub here : status_in r ≡ 0 → (q c : ℕ) → q < s → c < 16 → cell_in m q c ≡ at (numbers_at (rule_line s a) bytes q) (c + 2)
  pub past : status_in r ≡ 0 → (q c : ℕ) → s ≤ q → q < 16 → c < 16 → cell_in m q c ≡ 0
  pub kept : SameOutside l m rule_part marks_part

-- the numbers of the edge before one whose key, from * 512 + to, is to be at least next
abbrev pub before_of : ℕ → List ℕ
before_of zero = []
before_of (suc k) = k / 512 ∷ k % 512 ∷ []

-- the F line at the start of the bytes, with its key beside the status
pub record EdgeRead (n next : ℕ) (bytes : List ℕ) (r : Result ℕ Refusal) : Type 0 where
  pub status : status_in r ≡ status_of (edge_line n) 0 (before_of next) (line_of 70 2 bytes)
  pub zero : (status_in r ≡ 0 → ⊥) → value_in r ≡ 0
  pub from : status_in r ≡ 0 → value_in r / 512 ≡ at (numbers_of (line_of 70 2 bytes)) 0
  pub to : status_in r ≡ 0 → value_in r % 512 ≡ at (numbers_of (line_of 70 2 bytes)) 1
  pub from_below : status_in r ≡ 0 → value_in r / 512 < n
  pub ascends : status_in r ≡ 0 → next ≤ value_in r
  pub within : status_in r ≡ 0 → line_length 2 ≤ length bytes
  pub small : value_in r < 512 * 512

-- all F lines: the targets, and for each node and for the end of all the index of the first edge that is not below it
pub record EdgesRead (n e : ℕ) (bytes l m : List ℕ) (status : ℕ) : Type 0 where
  pub lines : LinesRead (edge_line n) bytes e status
  pub targets : status ≡ 0 → (i : ℕ) → i < e → target_in m i ≡ at (numbers_at (edge_line n) bytes i) 1
  pub starts : status ≡ 0 → (j : ℕ) → j ≤ n → start_in m j ≤ e
  pub below : status ≡ 0 → (i j : ℕ) → i < e → j ≤ n → i < start_in m j → at (numbers_at (edge_line n) bytes i) 0 < j
  pub above : status ≡ 0 → (i j : ℕ) → i < e → j ≤ n → start_in m j ≤ i → j ≤ at (numbers_at (edge_line n) bytes i) 0
  pub sources : status ≡ 0 → (i : ℕ) → i < e → at (numbers_at (edge_line n) bytes i) 0 < n
  pub kept : SameOutside l m starts_part pair_part
