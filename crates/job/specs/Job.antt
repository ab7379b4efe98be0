-- The job: a rule and a flow graph (document 01, "Nodes and walks"; document 02, "Procedures that call themselves").
-- Assumes nothing.
use Rattle.std.specs.Prelude.{◌≡◌, Bool, true, false, not, ◌&&◌, ◌||◌, List, [], ◌∷◌, ℕ, zero, suc, ◌<◌, eqb, get_or, length}
use Rattle.laws.specs.Bits.{has}
use Rattle.automaton.specs.Automaton.{Automaton, WellFormed}

-- "kinds of node": plain; event, with a symbol; call, with a set of symbols, which may come back in or not
pub data Kind : Type 0 where
  plain : Kind
  event : ℕ → Kind
  calls : Bool → ℕ → Kind

-- "a call never comes back into this procedure": kind 2
abbrev pub call : ℕ → Kind
call set = calls false set

-- "a call that may come back in": kind 3
abbrev pub reentrant : ℕ → Kind
reentrant set = calls true set

-- the event that a node has of its own ("point"): none, or one with its symbol
pub data Point : Type 0 where
  no_point : Point
  point : ℕ → Point

-- the point of a node of this kind
abbrev pub point_of : Kind → Point
point_of plain = no_point
point_of (event a) = point a
point_of (calls again set) = no_point

-- the set over which a node of this kind reports words; where it is no call 0, over which there is the empty word alone
abbrev pub call_set : Kind → ℕ
call_set plain = 0
call_set (event a) = 0
call_set (calls again set) = set

-- a node of this kind is a call that may come back in
abbrev pub is_reentrant : Kind → Bool
is_reentrant plain = false
is_reentrant (event a) = false
is_reentrant (calls again set) = again

-- there is a point
abbrev pub is_point : Point → Bool
is_point no_point = false
is_point (point a) = true

-- a node of this kind is an event node
abbrev pub is_event : Kind → Bool
is_event k = is_point (point_of k)

-- the kind of its number in a job file, and its value
abbrev pub kind_of : ℕ → ℕ → Kind
kind_of zero value = plain
kind_of (suc zero) value = event value
kind_of (suc (suc zero)) value = call value
kind_of (suc (suc (suc k))) value = reentrant value

-- the number of the kind of a call
abbrev pub call_kind : Bool → ℕ
call_kind false = 2
call_kind true = 3

-- the number of a kind in a job file
abbrev pub kind_number : Kind → ℕ
kind_number plain = 0
kind_number (event a) = 1
kind_number (calls again s) = call_kind again

-- the value of a kind: "0, symbol or set"
abbrev pub value_number : Kind → ℕ
value_number plain = 0
value_number (event a) = a
value_number (calls again s) = s

-- a node: its kind, its entry set (nonzero at an entry), whether it is an exit, and its after set
pub record Node : Type 0 where
  pub kind : Kind
  pub entry : ℕ
  pub exit : Bool
  pub after : ℕ

-- a node is an entry: its entry set is not empty
abbrev pub is_entry : Node → Bool
is_entry n = not (eqb n.entry 0)

-- an edge of the flow graph
pub record Edge : Type 0 where
  pub from : ℕ
  pub to : ℕ

-- the edge from one node to another
abbrev pub edge : ℕ → ℕ → Edge
edge m n = record { from = m; to = n }

-- a job: the rule, the nodes in number order, and the edges
pub record Job : Type 0 where
  pub rule : Automaton
  pub nodes : List Node
  pub edges : List Edge

-- past the last node there is nothing: a plain node, neither entry nor exit
abbrev pub no_node : Node
no_node = record { kind = plain; entry = 0; exit = false; after = 0 }

-- the node of a number
abbrev pub node_at : Job → ℕ → Node
node_at j n = get_or j.nodes n no_node

-- the edges hold one from m to n
unfoldable pub holds : List Edge → ℕ → ℕ → Bool
holds [] m n = false
holds (e ∷ es) m n = (eqb e.from m && eqb e.to n) || holds es m n

-- an edge leads from m to n
abbrev pub leads : Job → ℕ → ℕ → Bool
leads j m n = holds j.edges m n

-- the symbols that a node of this kind may report are below a
pub record KindBelow (a : ℕ) (k : Kind) : Type 0 where
  pub point_below_holds : (s : ℕ) → point_of k ≡ point s → s < a
  pub words_below : (s : ℕ) → has (call_set k) s ≡ true → s < a

-- every state, symbol and node that the job names exists; the job file's refusals leave no other job
pub record WellFormedJob (j : Job) : Type 0 where
  pub rule : WellFormed j.rule
  pub kinds : (n : ℕ) → KindBelow j.rule.symbols (node_at j n).kind
  pub entries : (n q : ℕ) → has (node_at j n).entry q ≡ true → q < j.rule.states
  pub afters : (n s : ℕ) → has (node_at j n).after s ≡ true → s < j.rule.symbols
  pub edges : (m n : ℕ) → leads j m n ≡ true → (m < length j.nodes) × (n < length j.nodes)
