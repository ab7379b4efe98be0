-- What is said of the arrivals index and of the calls that keep it (document 02, request 7): statements, shown in proofs/.
-- Assumes nothing.
use Rattle.std.specs.Prelude.{Result, Ok, Err, ◌≡◌, ◌≢◌, ◌↔◌, ◌⊎◌, true, false, cond, not, ◌&&◌, ◌||◌, List, [], ◌∷◌, ℕ, ◌+◌, ◌*◌, ◌-◌, ◌≤◌, ◌<◌, eqb, leb, ltb, length, get_or, take, drop}
use Rattle.laws.specs.Bounded.{tab}
use Rattle.callnumber.specs.CallNumber.{accepted_from}
use Rattle.job.specs.Job.{Edge, edge, Job, holds, leads}
use Rattle.jobfile.specs.File.{accepted, read_job}
use Rattle.jobfile.specs.Spellable.{Ascending}
use Rattle.arrivals.specs.Arrivals.{numbers_of, predecessors_of, arrivals, starts_of, with_edge, without_edge, Lists, lists, is_held, Edited, counted, refused, added, dropped, indexed, edge_number}

-- ---- the edges with one more or less, and their index

-- the statement: with an edge more or less the edges ascend again, and are the old ones with just that edge more or less; no other
-- ascending edges are
pub record EdgesSay : Type 0 where
  pub with_ascends : (a b : ℕ) (es : List Edge) → Ascending es → holds es a b ≡ false → Ascending (with_edge (edge a b) es)
  pub with_holds : (a b : ℕ) (es : List Edge) (c d : ℕ) → holds (with_edge (edge a b) es) c d ≡ ((eqb a c && eqb b d) || holds es c d)
  pub with_counts : (a b : ℕ) (es : List Edge) → length (with_edge (edge a b) es) ≡ length es + 1
  pub without_ascends : (a b : ℕ) (es : List Edge) → Ascending es → Ascending (without_edge (edge a b) es)
  pub without_holds : (a b : ℕ) (es : List Edge) (c d : ℕ) → holds (without_edge (edge a b) es) c d ≡ (not (eqb a c && eqb b d) && holds es c d)
  pub without_counts
      : (a b : ℕ) (es : List Edge) → Ascending es → holds es a b ≡ true → length (without_edge (edge a b) es) + 1 ≡ length es
  pub no_other : (ds es : List Edge) → Ascending ds → Ascending es → ((a b : ℕ) → holds ds a b ≡ holds es a b) → ds ≡ es

-- a number stands in a list
abbrev pub In : ℕ → List ℕ → Type 0
In m xs = (i : ℕ) × (i < length xs) × (get_or xs i 0 ≡ m)

-- what the lists name for a node, "without a scan": from its start to before the next
abbrev pub entry_of : List ℕ → List ℕ → ℕ → List ℕ
entry_of predecessors starts n = take (get_or starts (n + 1) 0 - get_or starts n 0) (drop (get_or starts n 0) predecessors)

-- the same of three lists
abbrev pub entry_in : Lists → ℕ → List ℕ
entry_in l n = entry_of l.predecessors l.starts n

-- all ends of edges are below n
abbrev pub Within : ℕ → List Edge → Type 0
Within n es = (a b : ℕ) → holds es a b ≡ true → (a < n) × (b < n)

-- the statement: a node's predecessors ascend, are the nodes with an edge to it, and stand where the starts say; for edges between nodes below N
-- there are as many as edges; the starts are N + 1, the first 0, each as far past the one before as its node has predecessors, the last the
-- number of edges
pub record IndexSays : Type 0 where
  pub ascends
      : (es : List Edge) (n i j : ℕ) → Ascending es → i < j → j < length (predecessors_of es n)
      → get_or (predecessors_of es n) i 0 < get_or (predecessors_of es n) j 0
  pub leading : (es : List Edge) (m n : ℕ) → In m (predecessors_of es n) ↔ (holds es m n ≡ true)
  pub stands : (es : List Edge) (n m : ℕ) → m < n → entry_of (arrivals es n) (starts_of es n) m ≡ predecessors_of es m
  pub counts : (n : ℕ) (es : List Edge) → Within n es → length (arrivals es n) ≡ length es
  pub starts_count : (es : List Edge) (n : ℕ) → length (starts_of es n) ≡ n + 1
  pub first_start : (es : List Edge) (n : ℕ) → get_or (starts_of es n) 0 0 ≡ 0
  pub next_start
      : (es : List Edge) (n m : ℕ) → m < n → get_or (starts_of es n) (m + 1) 0 ≡ get_or (starts_of es n) m 0 + length (predecessors_of es m)
  pub last_start : (n : ℕ) (es : List Edge) → Within n es → get_or (starts_of es n) n 0 ≡ length es

-- ---- lists that hold edges

-- the lists begin with edges, at most 2,048 that ascend strictly between nodes below N, N from 1 to 512, and with their index
pub record Held (n : ℕ) (es : List Edge) (l : Lists) : Type 0 where
  pub some_node : 1 ≤ n
  pub few_nodes : n ≤ 512
  pub few_edges : length es ≤ 2048
  pub ascending : Ascending es
  pub within : Within n es
  pub edges : take (2 * length es) l.edges ≡ numbers_of es
  pub predecessors : take (length es) l.predecessors ≡ arrivals es n
  pub starts : take (n + 1) l.starts ≡ starts_of es n

-- the statement: the test of the lists passes exactly where they hold k edges
abbrev pub HeldSays : Type 0
HeldSays = (n k : ℕ) (l : Lists) → (is_held n k l ≡ true) ↔ ((es : List Edge) × (length es ≡ k) × Held n es l)

-- an edge may be added to those held: its ends are nodes, it is not there, and there is room for it
pub record Addable (n a b : ℕ) (es : List Edge) (l : Lists) : Type 0 where
  pub held : Held n es l
  pub from_node : a < n
  pub to_node : b < n
  pub room : length es < 2048
  pub edges_long : 2 * length es + 2 ≤ length l.edges
  pub predecessors_long : length es + 1 ≤ length l.predecessors
  pub absent : holds es a b ≡ false

-- an edge may be dropped of those held: it is there
pub record Droppable (n a b : ℕ) (es : List Edge) (l : Lists) : Type 0 where
  pub held : Held n es l
  pub present : holds es a b ≡ true

-- the index of edges can be made: the list of edges begins with them, as above, and no list is short
pub record Indexable (n : ℕ) (es : List Edge) (l : Lists) : Type 0 where
  pub some_node : 1 ≤ n
  pub few_nodes : n ≤ 512
  pub few_edges : length es ≤ 2048
  pub ascending : Ascending es
  pub within : Within n es
  pub edges : take (2 * length es) l.edges ≡ numbers_of es
  pub predecessors_long : length es ≤ length l.predecessors
  pub starts_long : n + 1 ≤ length l.starts

-- either k edges have P, and the call answers and leaves what is named for them, or none do, and it refuses and the lists are unchanged
pub record Decides (k : ℕ) (P : List Edge → Type 0) (l : Lists) (named : List Edge → Edited) (e : Edited) : Type 0 where
  pub either : ((es : List Edge) × (length es ≡ k) × P es) ⊎ ((es : List Edge) → length es ≡ k → P es → ⊥)
  pub accepts : (es : List Edge) → length es ≡ k → P es → e ≡ named es
  pub refuses : ((es : List Edge) → length es ≡ k → P es → ⊥) → e ≡ refused l

-- the statement: 22 is answered exactly for its causes, and else the edges named with their count
pub record EditsSay : Type 0 where
  pub add
      : (n k a b : ℕ) (l : Lists)
      → Decides k (λ es. Addable n a b es l) l (λ es. counted n k (with_edge (edge a b) es) l) (added n k a b l)
  pub drop
      : (n k a b : ℕ) (l : Lists)
      → Decides k (λ es. Droppable n a b es l) l (λ es. counted n k (without_edge (edge a b) es) l) (dropped n k a b l)
  pub index : (n k : ℕ) (l : Lists) → Decides k (λ es. Indexable n es l) l (λ es. counted n k es l) (indexed n k l)

-- an answer is 22, or a count of at most 2,048
abbrev pub Told : Result ℕ ℕ → Type 0
Told r = (r ≡ Err 22) ⊎ ((m : ℕ) × (m ≤ 2048) × (r ≡ Ok m))

-- the answer that a C call's number says
abbrev pub edge_seen : ℕ → Result ℕ ℕ
edge_seen x = cond (ltb x accepted_from) (Err x) (Ok (x - accepted_from))

-- the statement: no call answers anything else, and such an answer is read back from its number
pub record AnswersSay : Type 0 where
  pub by_number : (r : Result ℕ ℕ) → Told r → edge_seen (edge_number r) ≡ r
  pub add : (n k a b : ℕ) (l : Lists) → Told (added n k a b l).answer
  pub drop : (n k a b : ℕ) (l : Lists) → Told (dropped n k a b l).answer
  pub index : (n k : ℕ) (l : Lists) → Told (indexed n k l).answer

-- ---- what the calls keep

-- the lists with zeros from a place on, w of them
abbrev pub zeroed : ℕ → ℕ → List ℕ → List ℕ
zeroed at w l = tab (length l) (λ i. cond (leb at i && ltb i (at + w)) 0 (get_or l i 0))

-- the statement: after an accepted call the lists hold the edges named; that index is what a fresh build gives; the entries of nodes that
-- the edge does not touch name the same predecessors; an addition undone leaves the lists as they were, but for zeros in the places that
-- it took, and a removal undone leaves them as they were
pub record KeepsIndex : Type 0 where
  pub add_Holds
      : (n a b : ℕ) (es : List Edge) (l : Lists) → Addable n a b es l
      → Held n (with_edge (edge a b) es) (added n (length es) a b l).left
  pub drop_holds
      : (n a b : ℕ) (es : List Edge) (l : Lists) → Droppable n a b es l
      → Held n (without_edge (edge a b) es) (dropped n (length es) a b l).left
  pub index_holds : (n : ℕ) (es : List Edge) (l : Lists) → Indexable n es l → Held n es (indexed n (length es) l).left
  pub fresh
      : (n : ℕ) (es : List Edge) (l : Lists) → Held n es l
      → indexed n (length es) l ≡ record { answer = Ok (length es); left = l }
  pub add_untouched
      : (n a b : ℕ) (es : List Edge) (l : Lists) → Addable n a b es l → (m : ℕ) → m < n → m ≢ b
      → entry_in (added n (length es) a b l).left m ≡ entry_in l m
  pub drop_untouched
      : (n a b : ℕ) (es : List Edge) (l : Lists) → Droppable n a b es l → (m : ℕ) → m < n → m ≢ b
      → entry_in (dropped n (length es) a b l).left m ≡ entry_in l m
  pub add_drop
      : (n a b : ℕ) (es : List Edge) (l : Lists) → Addable n a b es l
      → dropped n (length es + 1) a b (added n (length es) a b l).left
      ≡ record {
        answer = Ok (length es);
        left = lists (zeroed (2 * length es) 2 l.edges) (zeroed (length es) 1 l.predecessors) l.starts;
      }
  pub drop_add
      : (n a b : ℕ) (es : List Edge) (l : Lists) → Droppable n a b es l
      → added n (length es - 1) a b (dropped n (length es) a b l).left ≡ record { answer = Ok (length es); left = l }

-- a list is as long as it was, and as it was from a place on
pub record KeptFrom (at : ℕ) (l r : List ℕ) : Type 0 where
  pub long : length r ≡ length l
  pub places : (i : ℕ) → at ≤ i → i < length l → get_or r i 0 ≡ get_or l i 0

-- each of three lists is, from a place of its own on
pub record KeptPast (e p s : ℕ) (l r : Lists) : Type 0 where
  pub edges : KeptFrom e l.edges r.edges
  pub predecessors : KeptFrom p l.predecessors r.predecessors
  pub starts : KeptFrom s l.starts r.starts

-- zeros in the places that a removal frees of k edges
pub record Freed (k : ℕ) (r : Lists) : Type 0 where
  pub from : get_or r.edges (2 * k - 2) 0 ≡ 0
  pub to : get_or r.edges (2 * k - 1) 0 ≡ 0
  pub predecessor : get_or r.predecessors (k - 1) 0 ≡ 0

-- the statement: whatever a call is lent and answers, the lists are as long as they were, and every place past the old and the new lists is as
-- it was; an index call leaves every place of the edges; a removal leaves zeros in the places that it frees
pub record KeepsPlaces : Type 0 where
  pub add : (n k a b : ℕ) (l : Lists) → KeptPast (2 * k + 2) (k + 1) (n + 1) l (added n k a b l).left
  pub drop : (n k a b : ℕ) (l : Lists) → KeptPast (2 * k) k (n + 1) l (dropped n k a b l).left
  pub index : (n k : ℕ) (l : Lists) → KeptPast 0 k (n + 1) l (indexed n k l).left
  pub freed : (n a b : ℕ) (es : List Edge) (l : Lists) → Droppable n a b es l → Freed (length es) (dropped n (length es) a b l).left

-- ---- any list of calls

-- a call of an editor on its lists
pub data Edit : Type 0 where
  adds : ℕ → ℕ → Edit
  drops : ℕ → ℕ → Edit
  indexes : Edit

-- what it answers and leaves
abbrev pub edit_of : ℕ → Edit → ℕ → Lists → Edited
edit_of n (adds a b) k l = added n k a b l
edit_of n (drops a b) k l = dropped n k a b l
edit_of n indexes k l = indexed n k l

-- the edges that an accepted call makes of others
abbrev pub edges_by : Edit → List Edge → List Edge
edges_by (adds a b) es = with_edge (edge a b) es
edges_by (drops a b) es = without_edge (edge a b) es
edges_by indexes es = es

-- what an editor has: its lists, the count that it passes with them, and the edges that it means by them
pub record Graph : Type 0 where
  pub count : ℕ
  pub lists : Lists
  pub edges : List Edge

-- after a call's answer, with the lists that it leaves: an accepted one gives the count and makes the edges, a refused one changes neither
abbrev pub graph_after : Graph → Edit → Result ℕ ℕ → Lists → Graph
graph_after g c (Ok k) l = record { count = k; lists = l; edges = edges_by c g.edges }
graph_after g c (Err r) l = record { count = g.count; lists = l; edges = g.edges }

-- after a call
abbrev pub after_edit : ℕ → Graph → Edit → Graph
after_edit n g c = graph_after g c (edit_of n c g.count g.lists).answer (edit_of n c g.count g.lists).left

-- after calls, one after another
unfoldable pub after_edits : ℕ → Graph → List Edit → Graph
after_edits n g [] = g
after_edits n g (c ∷ cs) = after_edits n (after_edit n g c) cs

-- the lists hold the edges that are meant, and the count is theirs
pub record Right (n : ℕ) (g : Graph) : Type 0 where
  pub count : length g.edges ≡ g.count
  pub held : Held n g.edges g.lists

-- the statement: any list of calls keeps a right index right
abbrev pub AnyEdits : Type 0
AnyEdits = (n : ℕ) (g : Graph) (cs : List Edit) → Right n g → Right n (after_edits n g cs)

-- ---- the edges of a job file

-- lists that begin with the edges of a job and have room for their index
pub record LentFor (j : Job) (l : Lists) : Type 0 where
  pub edges : take (2 * length j.edges) l.edges ≡ numbers_of j.edges
  pub predecessors : length j.edges ≤ length l.predecessors
  pub starts : length j.nodes + 1 ≤ length l.starts

-- the statement: for the edges of an accepted job file the index can be made in such lists, and then the entry of each node names exactly
-- the nodes with an edge to it
pub record JobIndex : Type 0 where
  pub made
      : (file : List ℕ) (j : Job) → read_job file ≡ accepted j → (l : Lists) → LentFor j l → Indexable (length j.nodes) j.edges l
  pub names
      : (file : List ℕ) (j : Job) → read_job file ≡ accepted j → (l : Lists) → LentFor j l → (m n : ℕ) → n < length j.nodes
      → In m (entry_in (indexed (length j.nodes) (length j.edges) l).left n) ↔ (leads j m n ≡ true)
