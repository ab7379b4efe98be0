-- What a work buffer holds, part by part.
-- Inner contracts: what functions ask of and leave to each other. No promise is stated in them; a reader need not believe them.
-- Assumes nothing.
use Rattle.std.specs.Prelude.{◌≡◌, Bool, true, List, [], ◌++◌, map, ℕ, zero, suc, ◌+◌, ◌-◌, ◌*◌, ◌≤◌, ◌<◌, eqb, get_or, take, drop}
use Rattle.laws.specs.Bounded.{tab_from, tab}
use Rattle.laws.specs.Bits.{has}
use Rattle.laws.specs.Bytes.{number_at}
use Rattle.automaton.specs.Table.{table_of}
use Rattle.job.specs.Job.{Node, Edge, edge, kind_of}
use Rattle.buffer.specs.Layout.{node_place, starts_part, targets_part, pair_part, class_part, found_part, plan_part, rule_part, marks_part}

-- ---- the job

-- node n, in eight bytes: value, entry set and after set of two bytes each, kind and exit mark of one
unfoldable pub node_in : List ℕ → ℕ → Node
node_in work n = record {
  kind = kind_of (get_or work (node_place n + 6) 0) (number_at 2 work (node_place n));
  entry = number_at 2 work (node_place n + 2);
  exit = eqb (get_or work (node_place n + 7) 0) 1;
  after = number_at 2 work (node_place n + 4);
}

-- the index of the first edge of node n
unfoldable pub start_in : List ℕ → ℕ → ℕ
start_in work n = number_at 2 work (starts_part + n * 2)

-- where edge i ends
unfoldable pub target_in : List ℕ → ℕ → ℕ
target_in work i = number_at 2 work (targets_part + i * 2)

-- an edge from m to n
pub record EdgeIn (work : List ℕ) (m n : ℕ) : Type 0 where
  pub index : ℕ
  pub first : start_in work m ≤ index
  pub last : index < start_in work (suc m)
  pub target : target_in work index ≡ n

-- the successors of node n
unfoldable pub successors_in : List ℕ → ℕ → List ℕ
successors_in work n = tab_from (start_in work n) (start_in work (suc n) - start_in work n) (target_in work)

-- the edges of c nodes, from node m on
unfoldable pub edges_from : List ℕ → ℕ → ℕ → List Edge
unfolding successors_in
edges_from work m zero = []
edges_from work m (suc c) = map (edge m) (successors_in work m) ++ edges_from work (suc m) c

-- the next state of state q on symbol a
unfoldable pub cell_in : List ℕ → ℕ → ℕ → ℕ
cell_in work q a = get_or work (rule_part + q * 16 + a) 0

-- s rows of a next states
unfoldable pub table_in : List ℕ → ℕ → ℕ → List (List ℕ)
unfolding cell_in
table_in work s a = tab s (λ q. tab a (cell_in work q))

-- the whole table: sixteen rows of sixteen
unfoldable pub rule_rows_in : List ℕ → List (List ℕ)
rule_rows_in work = table_of (take 256 (drop rule_part work))

-- ---- the tables of the searches

-- row p of the pairs of node n: the states of the residual monitor beside state p of the full one
unfoldable pub pair_row_in : List ℕ → ℕ → ℕ → ℕ
pair_row_in work n p = number_at 2 work (pair_part + (n * 16 + p) * 2)

-- the pair is held at node n
abbrev pub Held : List ℕ → ℕ → ℕ → ℕ → Type 0
Held work n p q = has (pair_row_in work n p) q ≡ true

-- row p of node n: the states told apart from p past it
unfoldable pub class_row_in : List ℕ → ℕ → ℕ → ℕ
class_row_in work n p = number_at 2 work (class_part + (n * 16 + p) * 2)

-- the pair is held as told apart past node n
abbrev pub HeldApart : List ℕ → ℕ → ℕ → ℕ → Type 0
HeldApart work n p q = has (class_row_in work n p) q ≡ true

-- the marks of node n, a bit a row
unfoldable pub marks_in : List ℕ → ℕ → ℕ
marks_in work n = number_at 2 work (marks_part + n * 2)

-- row p of node n is marked: it may have grown since it was last looked at
abbrev pub marked_in : List ℕ → ℕ → ℕ → Bool
marked_in work n p = has (marks_in work n) p

-- ---- the plan, and what was found

-- the before set that was found at node n
unfoldable pub before_in : List ℕ → ℕ → ℕ
before_in work n = number_at 2 work (found_part + n * 4)

-- the plan of so many nodes
unfoldable pub plan_in : List ℕ → ℕ → List ℕ
plan_in work nodes = take nodes (drop plan_part work)

-- node n is enabled in the plan
unfoldable pub enabled_in : List ℕ → ℕ → Bool
enabled_in work n = eqb (get_or work (plan_part + n) 0) 1
