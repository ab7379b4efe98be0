-- The job file (document 01, "The job file" and "Turned back, by number", 1 and 3 to 10).
-- Assumes nothing.
use Rattle.std.specs.Prelude.{Bool, true, false, cond, ◌&&◌, ◌||◌, List, [], ◌∷◌, ◌++◌, map, ℕ, zero, suc, ◌+◌, ◌^◌, eqb, leb, ltb, length, drop}
use Rattle.laws.specs.Bounded.{all_below}
use Rattle.laws.specs.Bits.{has, with}
use Rattle.automaton.specs.Automaton.{Automaton}
use Rattle.job.specs.Job.{kind_of, kind_number, value_number, Node, is_entry, Edge, Job}
use Rattle.lines.specs.Line.{line, at}
use Rattle.lines.specs.Lines.{LineKind, Lines, lines, refused, lines_of}

-- the longest file
abbrev pub max_file : ℕ
max_file = 49914

-- ---- the lines, by their letters (J 74, R 82, P 80, F 70), with the tests of 5 to 8

-- "J: S, A, N nodes, E edges. S and A 1 to 16, N 1 to 512, E 0 to 2,048"
abbrev pub good_head : ℕ → List ℕ → List ℕ → Bool
good_head i before ns =
    leb 1 (at ns 0) && leb (at ns 0) 16 && leb 1 (at ns 1) && leb (at ns 1) 16 && leb 1 (at ns 2) && leb (at ns 2) 512 && leb (at ns 3) 2048

-- J lines
abbrev pub head_line : LineKind
head_line = record { letter = 74; count = 4; refusal = 5; good = good_head }

-- "R, one per state in order: state, final 0 or 1, then A next states"; 6: "a state out of order, a final mark above 1, or a next
-- state of S or more"
abbrev pub good_rule : ℕ → ℕ → ℕ → List ℕ → List ℕ → Bool
good_rule s a i before ns = eqb (at ns 0) i && leb (at ns 1) 1 && all_below a (λ c. ltb (at ns (c + 2)) s)

-- R lines of a job of s states and a symbols
abbrev pub rule_line : ℕ → ℕ → LineKind
rule_line s a = record { letter = 82; count = a + 2; refusal = 6; good = good_rule s a }

-- "value (0, symbol or set)" names what the job has, and is 0 at kind 0; a kind is 0 to 3, the last two with a set
abbrev pub good_value : ℕ → ℕ → ℕ → Bool
good_value a zero value = eqb value 0
good_value a (suc zero) value = ltb value a
good_value a (suc (suc zero)) value = ltb value (2 ^ a)
good_value a (suc (suc (suc zero))) value = ltb value (2 ^ a)
good_value a (suc (suc (suc (suc k)))) value = false

-- "P, one per node in order: node, kind, value, entry set, exit 0 or 1, after set (0 where exit is 0)"; 7: "a node out of order,
-- a kind above 2, a value or set naming what the job lacks, a nonzero value at kind 0, an exit mark above 1, or a nonzero after
-- set without exit"; in document 02 "a kind is now wrong above 3"
abbrev pub good_node : ℕ → ℕ → ℕ → List ℕ → List ℕ → Bool
good_node s a i before ns =
    eqb (at ns 0) i && good_value a (at ns 1) (at ns 2) && ltb (at ns 3) (2 ^ s) && leb (at ns 4) 1 && ltb (at ns 5) (2 ^ a)
    && (eqb (at ns 4) 1 || eqb (at ns 5) 0)

-- P lines of such a job
abbrev pub node_line : ℕ → ℕ → LineKind
node_line s a = record { letter = 80; count = 6; refusal = 7; good = good_node s a }

-- "strictly ascending by from, then to": the line's numbers after those of the line before, if there is one
abbrev pub ascends : List ℕ → List ℕ → Bool
ascends [] ns = true
ascends (m ∷ ms) ns = ltb m (at ns 0) || (eqb m (at ns 0) && ltb (at ms 0) (at ns 1))

-- "F, one per edge: from, to"; 8: "names a node of N or more, or does not ascend"
abbrev pub good_edge : ℕ → ℕ → List ℕ → List ℕ → Bool
good_edge n i before ns = ltb (at ns 0) n && ltb (at ns 1) n && ascends before ns

-- F lines of a job of n nodes
abbrev pub edge_line : ℕ → LineKind
edge_line n = record { letter = 70; count = 2; refusal = 8; good = good_edge n }

-- ---- the job of the lines

-- the final states, from place i on
unfoldable pub finals_of : ℕ → List (List ℕ) → ℕ
finals_of i [] = 0
finals_of i (ns ∷ ls) = cond (eqb (at ns 1) 1) (with (finals_of (suc i) ls) i) (finals_of (suc i) ls)

-- the rule of its R lines
abbrev pub rule_of : ℕ → ℕ → List (List ℕ) → Automaton
rule_of s a ls = record { states = s; symbols = a; finals = finals_of 0 ls; table = map (drop 2) ls }

-- the node of its P line
abbrev pub node_of : List ℕ → Node
node_of ns = record { kind = kind_of (at ns 1) (at ns 2); entry = at ns 3; exit = eqb (at ns 4) 1; after = at ns 5 }

-- the edge of its F line
abbrev pub edge_of : List ℕ → Edge
edge_of ns = record { from = at ns 0; to = at ns 1 }

-- the job of the lines
abbrev pub job_of : List ℕ → List (List ℕ) → List (List ℕ) → List (List ℕ) → Job
job_of head rules nodes edges =
    record { rule = rule_of (at head 0) (at head 1) rules; nodes = map node_of nodes; edges = map edge_of edges }

-- 10: "no node is an entry"
unfoldable pub some_entry : List Node → Bool
some_entry [] = false
some_entry (n ∷ ns) = is_entry n || some_entry ns

-- ---- reading

-- a job, or the first refusal's number
pub data Answer : Type 0 where
  accepted : Job → Answer
  turned : ℕ → Answer

-- what is to be done with lines that were read, or their refusal
abbrev pub on_lines : Lines → (List (List ℕ) → List ℕ → Answer) → Answer
on_lines (lines ls rest) f = f ls rest
on_lines (refused k) f = turned k

-- 9: "bytes follow the last line"; then 10
abbrev pub at_end : List ℕ → Job → Answer
at_end [] j = cond (some_entry j.nodes) (accepted j) (turned 10)
at_end (b ∷ bytes) j = turned 9

-- a file of S, A, N and E, past its J line
unfoldable pub read_rest : List ℕ → List ℕ → Answer
read_rest head bytes =
    let s = at head 0 in
    let a = at head 1 in
    let n = at head 2 in
    let e = at head 3 in
    on_lines (lines_of (rule_line s a) s 0 [] bytes)
    (λ rules after_rules.
    on_lines (lines_of (node_line s a) n 0 [] after_rules)
    (λ nodes after_nodes.
    on_lines (lines_of (edge_line n) e 0 [] after_nodes)
    (λ edges rest. at_end rest (job_of head rules nodes edges))))

-- the numbers of the one J line
abbrev pub head_of : List (List ℕ) → List ℕ
head_of [] = []
head_of (ns ∷ ls) = ns

-- "the file is longer than 49,914 bytes" is 1; then the lines in turn
unfoldable pub read_job : List ℕ → Answer
unfolding read_rest lines_of
read_job file =
    cond (ltb max_file (length file)) (turned 1) (on_lines (lines_of head_line 1 0 [] file) (λ head rest. read_rest (head_of head) rest))

-- ---- writing

-- a mark, 0 or 1
abbrev pub mark : Bool → ℕ
mark true = 1
mark false = 0

-- the lines of the final marks and rows, from place i on
unfoldable pub write_rules : ℕ → ℕ → List (List ℕ) → List ℕ
write_rules finals i [] = []
write_rules finals i (row ∷ rows) = line 82 (i ∷ mark (has finals i) ∷ row) ++ write_rules finals (suc i) rows

-- the lines of the nodes, from place i on
unfoldable pub write_nodes : ℕ → List Node → List ℕ
write_nodes i [] = []
write_nodes i (n ∷ ns) =
    line 80 (i ∷ kind_number n.kind ∷ value_number n.kind ∷ n.entry ∷ mark n.exit ∷ n.after ∷ []) ++ write_nodes (suc i) ns

-- the lines of the edges
unfoldable pub write_edges : List Edge → List ℕ
write_edges [] = []
write_edges (e ∷ es) = line 70 (e.from ∷ e.to ∷ []) ++ write_edges es

-- the file of a job
unfoldable pub write_job : Job → List ℕ
unfolding write_rules write_nodes write_edges
write_job j =
    line 74 (j.rule.states ∷ j.rule.symbols ∷ length j.nodes ∷ length j.edges ∷ [])
    ++ write_rules j.rule.finals 0 j.rule.table ++ write_nodes 0 j.nodes ++ write_edges j.edges
