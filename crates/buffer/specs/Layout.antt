-- Where the parts of the lent work buffer lie, each by the part before it and that part's size.
-- Inner contracts: what functions ask of and leave to each other. No promise is stated in them; a reader need not believe them.
-- Assumes nothing.
use Rattle.std.specs.Prelude.{List, ℕ, ◌+◌, ◌*◌, ◌≤◌, length}
use Rattle.buffer.specs.Buffer.{work_size}

-- the nodes, from the buffer's start on: 512 of eight bytes
abbrev pub nodes_part : ℕ
nodes_part = 0

-- where node n begins
abbrev pub node_place : ℕ → ℕ
node_place n = n * 8

-- the index of each node's first edge, and after the last node the number of edges: 513 numbers of two bytes
abbrev pub starts_part : ℕ
starts_part = node_place 512

-- the ends of the edges, by source: 2,048 numbers of two bytes
abbrev pub targets_part : ℕ
targets_part = starts_part + 513 * 2

-- sixteen rows of pairs for each node, two bytes a row: before an event node, past any other
abbrev pub pair_part : ℕ
pair_part = targets_part + 2048 * 2

-- sixteen rows of states told apart past each node, two bytes a row
abbrev pub class_part : ℕ
class_part = pair_part + 512 * 32

-- the bytes of the class rows of one node
abbrev pub class_size : ℕ
class_size = 32

-- where the class rows of node n begin
abbrev pub class_place : ℕ → ℕ
class_place n = class_part + n * class_size

-- what was found at each point, four bytes a node
abbrev pub found_part : ℕ
found_part = class_place 512

-- the plan, a byte a node
abbrev pub plan_part : ℕ
plan_part = found_part + 512 * 4

-- the rule's rows: 256 bytes in row order
abbrev pub rule_part : ℕ
rule_part = plan_part + 512

-- the marks of the rows of pairs that may have grown, two bytes a node
abbrev pub marks_part : ℕ
marks_part = rule_part + 256

-- the first byte past them
abbrev pub marks_end : ℕ
marks_end = marks_part + 512 * 2

-- these bytes have room for all of them
abbrev pub Lent : List ℕ → Type 0
Lent work = work_size ≤ length work
