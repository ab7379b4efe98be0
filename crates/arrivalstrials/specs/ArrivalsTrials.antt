-- Calls on edges and their index with the number and the lists of each, worked out by hand: additions, removals, fresh builds, and every cause
-- of 22 but that of 2,048 edges already. That they are answered so, `AllAnswered arrivals_trials`, is a theorem of `proofs/`.
-- Assumes nothing.
use Rattle.std.specs.Prelude.{◌≡◌, cond, List, [], ◌∷◌, ◌++◌, ℕ, ◌+◌, ◌/◌, ◌%◌, eqb, replicate}
use Rattle.laws.specs.Bounded.{tab}
use Rattle.arrivals.specs.Arrivals.{Lists, lists, Edited, edge_number}
use Rattle.arrivals.specs.ArrivalsSay.{Edit, adds, drops, indexes, edit_of}

-- a call, N, the count and the lists lent; the number that is returned and the lists left
pub record ArrivalsTrial : Type 0 where
  pub call : Edit
  pub nodes : ℕ
  pub count : ℕ
  pub lent : Lists
  pub number : ℕ
  pub left : Lists

-- a row of the table: so many edges are counted; 281474976710656 is 2^48
abbrev pub counts : Edit → ℕ → ℕ → Lists → ℕ → Lists → ArrivalsTrial
counts c n k l m r =
    record {
      call = c;
      nodes = n;
      count = k;
      lent = l;
      number = 281474976710656 + m;
      left = r;
    }

-- 22, lists unchanged
abbrev pub refuses : Edit → ℕ → ℕ → Lists → ArrivalsTrial
refuses c n k l =
    record {
      call = c;
      nodes = n;
      count = k;
      lent = l;
      number = 22;
      left = l;
    }

-- the number and the three lists
pub record AnsweredSo (t : ArrivalsTrial) (e : Edited) : Type 0 where
  pub number : edge_number e.answer ≡ t.number
  pub left : e.left ≡ t.left

infixr 5 ◌and◌
-- every call of a table is answered as it should be
pub data AllAnswered : List ArrivalsTrial → Type 0 where
  done : AllAnswered []
  ◌and◌
      : {t : ArrivalsTrial} {ts : List ArrivalsTrial} → AnsweredSo t (edit_of t.nodes t.call t.count t.lent) → AllAnswered ts
      → AllAnswered (t ∷ ts)

-- ---- lists

-- four edges between four nodes: 0 to 2, 1 to 2, 1 to 3, 3 to 0
abbrev pub four : List ℕ → List ℕ
four more = 0 ∷ 2 ∷ 1 ∷ 2 ∷ 1 ∷ 3 ∷ 3 ∷ 0 ∷ more

-- their predecessors: 3 leads to 0, no node to 1, 0 and 1 lead to 2, 1 leads to 3
abbrev pub four_from : List ℕ → List ℕ
four_from more = 3 ∷ 0 ∷ 1 ∷ 1 ∷ more

-- their starts
abbrev pub four_starts : List ℕ → List ℕ
four_starts more = 0 ∷ 1 ∷ 1 ∷ 3 ∷ 4 ∷ more

-- with room for two edges more, and other numbers past the lists
abbrev pub wide : Lists
wide = lists (four (90 ∷ 91 ∷ 92 ∷ 93 ∷ [])) (four_from (80 ∷ 81 ∷ [])) (four_starts (70 ∷ []))

-- with no number past the lists
abbrev pub tight : Lists
tight = lists (four []) (four_from []) (four_starts [])

-- with room for one edge more and no other number past the lists
abbrev pub roomy : List ℕ → List ℕ → List ℕ → Lists
roomy e p s = lists (e ++ (90 ∷ 91 ∷ [])) (p ++ (80 ∷ [])) s

-- 2,049 edges, from 0, 1, 2, 3 to all of 512 nodes, and one more
abbrev pub many_edges : List ℕ
many_edges = tab 4098 (λ i. cond (eqb (i % 2) 0) (i / 1024) (i / 2 % 512))

-- ---- the table

unfoldable pub arrivals_trials : List ArrivalsTrial
unfolding tab
arrivals_trials =
    -- additions: in front, where 0 comes before 3 among the predecessors of 0; in the middle; to a node with no predecessor
    counts (adds 0 0) 4 4 wide 5
    (lists (0 ∷ 0 ∷ 0 ∷ 2 ∷ 1 ∷ 2 ∷ 1 ∷ 3 ∷ 3 ∷ 0 ∷ 92 ∷ 93 ∷ []) (0 ∷ 3 ∷ 0 ∷ 1 ∷ 1 ∷ 81 ∷ []) (0 ∷ 2 ∷ 2 ∷ 4 ∷ 5 ∷ 70 ∷ []))
    ∷ counts (adds 0 3) 4 4 wide 5
    (lists (0 ∷ 2 ∷ 0 ∷ 3 ∷ 1 ∷ 2 ∷ 1 ∷ 3 ∷ 3 ∷ 0 ∷ 92 ∷ 93 ∷ []) (3 ∷ 0 ∷ 1 ∷ 0 ∷ 1 ∷ 81 ∷ []) (0 ∷ 1 ∷ 1 ∷ 3 ∷ 5 ∷ 70 ∷ []))
    ∷ counts (adds 1 0) 4 4 wide 5
    (lists (0 ∷ 2 ∷ 1 ∷ 0 ∷ 1 ∷ 2 ∷ 1 ∷ 3 ∷ 3 ∷ 0 ∷ 92 ∷ 93 ∷ []) (1 ∷ 3 ∷ 0 ∷ 1 ∷ 1 ∷ 81 ∷ []) (0 ∷ 2 ∷ 2 ∷ 4 ∷ 5 ∷ 70 ∷ []))
    ∷ counts (adds 2 1) 4 4 wide 5
    (lists (0 ∷ 2 ∷ 1 ∷ 2 ∷ 1 ∷ 3 ∷ 2 ∷ 1 ∷ 3 ∷ 0 ∷ 92 ∷ 93 ∷ []) (3 ∷ 2 ∷ 0 ∷ 1 ∷ 1 ∷ 81 ∷ []) (0 ∷ 1 ∷ 2 ∷ 4 ∷ 5 ∷ 70 ∷ []))
    -- of a node to itself, after the other edges to it
    ∷ counts (adds 2 2) 4 4 wide 5
    (lists (0 ∷ 2 ∷ 1 ∷ 2 ∷ 1 ∷ 3 ∷ 2 ∷ 2 ∷ 3 ∷ 0 ∷ 92 ∷ 93 ∷ []) (3 ∷ 0 ∷ 1 ∷ 2 ∷ 1 ∷ 81 ∷ []) (0 ∷ 1 ∷ 1 ∷ 4 ∷ 5 ∷ 70 ∷ []))
    -- at the end, to a node in the middle; of the last node to itself
    ∷ counts (adds 3 2) 4 4 wide 5
    (lists (0 ∷ 2 ∷ 1 ∷ 2 ∷ 1 ∷ 3 ∷ 3 ∷ 0 ∷ 3 ∷ 2 ∷ 92 ∷ 93 ∷ []) (3 ∷ 0 ∷ 1 ∷ 3 ∷ 1 ∷ 81 ∷ []) (0 ∷ 1 ∷ 1 ∷ 4 ∷ 5 ∷ 70 ∷ []))
    ∷ counts (adds 3 3) 4 4 wide 5
    (lists (0 ∷ 2 ∷ 1 ∷ 2 ∷ 1 ∷ 3 ∷ 3 ∷ 0 ∷ 3 ∷ 3 ∷ 92 ∷ 93 ∷ []) (3 ∷ 0 ∷ 1 ∷ 1 ∷ 3 ∷ 81 ∷ []) (0 ∷ 1 ∷ 1 ∷ 3 ∷ 5 ∷ 70 ∷ []))
    -- in lists with room for one edge and no more
    ∷ counts (adds 2 0) 4 4 (roomy (four []) (four_from []) (four_starts [])) 5
    (lists (0 ∷ 2 ∷ 1 ∷ 2 ∷ 1 ∷ 3 ∷ 2 ∷ 0 ∷ 3 ∷ 0 ∷ []) (2 ∷ 3 ∷ 0 ∷ 1 ∷ 1 ∷ []) (0 ∷ 2 ∷ 2 ∷ 4 ∷ 5 ∷ []))
    ∷ counts (adds 0 1) 2 3 (lists (0 ∷ 0 ∷ 1 ∷ 0 ∷ 1 ∷ 1 ∷ 90 ∷ 91 ∷ []) (0 ∷ 1 ∷ 1 ∷ 80 ∷ []) (0 ∷ 2 ∷ 3 ∷ [])) 4
    (lists (0 ∷ 0 ∷ 0 ∷ 1 ∷ 1 ∷ 0 ∷ 1 ∷ 1 ∷ []) (0 ∷ 1 ∷ 0 ∷ 1 ∷ []) (0 ∷ 2 ∷ 4 ∷ []))
    -- to no edge
    ∷ counts (adds 0 0) 1 0 (lists (90 ∷ 91 ∷ []) (80 ∷ []) (0 ∷ 0 ∷ [])) 1 (lists (0 ∷ 0 ∷ []) (0 ∷ []) (0 ∷ 1 ∷ []))
    ∷ counts (adds 2 1) 3 0 (lists (90 ∷ 91 ∷ 92 ∷ []) (80 ∷ 81 ∷ []) (0 ∷ 0 ∷ 0 ∷ 0 ∷ 70 ∷ [])) 1
    (lists (2 ∷ 1 ∷ 92 ∷ []) (2 ∷ 81 ∷ []) (0 ∷ 0 ∷ 1 ∷ 1 ∷ 70 ∷ []))
    ∷ counts (adds 4 4) 5 0 (lists (90 ∷ 91 ∷ []) (80 ∷ []) (0 ∷ 0 ∷ 0 ∷ 0 ∷ 0 ∷ 0 ∷ [])) 1
    (lists (4 ∷ 4 ∷ []) (4 ∷ []) (0 ∷ 0 ∷ 0 ∷ 0 ∷ 0 ∷ 1 ∷ []))
    -- removals: the first edge, two in the middle, the last; zeros in the freed places, and the numbers past the lists as they were
    ∷ counts (drops 0 2) 4 4 wide 3
    (lists (1 ∷ 2 ∷ 1 ∷ 3 ∷ 3 ∷ 0 ∷ 0 ∷ 0 ∷ 90 ∷ 91 ∷ 92 ∷ 93 ∷ []) (3 ∷ 1 ∷ 1 ∷ 0 ∷ 80 ∷ 81 ∷ []) (0 ∷ 1 ∷ 1 ∷ 2 ∷ 3 ∷ 70 ∷ []))
    ∷ counts (drops 1 2) 4 4 wide 3
    (lists (0 ∷ 2 ∷ 1 ∷ 3 ∷ 3 ∷ 0 ∷ 0 ∷ 0 ∷ 90 ∷ 91 ∷ 92 ∷ 93 ∷ []) (3 ∷ 0 ∷ 1 ∷ 0 ∷ 80 ∷ 81 ∷ []) (0 ∷ 1 ∷ 1 ∷ 2 ∷ 3 ∷ 70 ∷ []))
    ∷ counts (drops 1 3) 4 4 wide 3
    (lists (0 ∷ 2 ∷ 1 ∷ 2 ∷ 3 ∷ 0 ∷ 0 ∷ 0 ∷ 90 ∷ 91 ∷ 92 ∷ 93 ∷ []) (3 ∷ 0 ∷ 1 ∷ 0 ∷ 80 ∷ 81 ∷ []) (0 ∷ 1 ∷ 1 ∷ 3 ∷ 3 ∷ 70 ∷ []))
    ∷ counts (drops 3 0) 4 4 wide 3
    (lists (0 ∷ 2 ∷ 1 ∷ 2 ∷ 1 ∷ 3 ∷ 0 ∷ 0 ∷ 90 ∷ 91 ∷ 92 ∷ 93 ∷ []) (0 ∷ 1 ∷ 1 ∷ 0 ∷ 80 ∷ 81 ∷ []) (0 ∷ 0 ∷ 0 ∷ 2 ∷ 3 ∷ 70 ∷ []))
    -- in lists with no number past them
    ∷ counts (drops 1 2) 4 4 tight 3
    (lists (0 ∷ 2 ∷ 1 ∷ 3 ∷ 3 ∷ 0 ∷ 0 ∷ 0 ∷ []) (3 ∷ 0 ∷ 1 ∷ 0 ∷ []) (0 ∷ 1 ∷ 1 ∷ 2 ∷ 3 ∷ []))
    -- the only edge
    ∷ counts (drops 2 1) 3 1 (lists (2 ∷ 1 ∷ 92 ∷ []) (2 ∷ 81 ∷ []) (0 ∷ 0 ∷ 1 ∷ 1 ∷ 70 ∷ [])) 0
    (lists (0 ∷ 0 ∷ 92 ∷ []) (0 ∷ 81 ∷ []) (0 ∷ 0 ∷ 0 ∷ 0 ∷ 70 ∷ []))
    ∷ counts (drops 0 0) 1 1 (lists (0 ∷ 0 ∷ []) (0 ∷ []) (0 ∷ 1 ∷ [])) 0 (lists (0 ∷ 0 ∷ []) (0 ∷ []) (0 ∷ 0 ∷ []))
    -- fresh builds: of no edge, whatever the lists hold
    ∷ counts indexes 1 0 (lists [] [] (71 ∷ 72 ∷ [])) 0 (lists [] [] (0 ∷ 0 ∷ []))
    ∷ counts indexes 3 0 (lists (90 ∷ []) (80 ∷ 81 ∷ []) (71 ∷ 72 ∷ 73 ∷ 74 ∷ 75 ∷ [])) 0
    (lists (90 ∷ []) (80 ∷ 81 ∷ []) (0 ∷ 0 ∷ 0 ∷ 0 ∷ 75 ∷ []))
    -- of four edges, over other numbers, and over their index; of the first three of them; with a node more
    ∷ counts indexes 4 4
    (lists (four (90 ∷ [])) (60 ∷ 61 ∷ 62 ∷ 63 ∷ 80 ∷ 81 ∷ []) (50 ∷ 51 ∷ 52 ∷ 53 ∷ 54 ∷ 70 ∷ [])) 4
    (lists (four (90 ∷ [])) (four_from (80 ∷ 81 ∷ [])) (four_starts (70 ∷ [])))
    ∷ counts indexes 4 4 wide 4 wide
    ∷ counts indexes 4 3 wide 3
    (lists (four (90 ∷ 91 ∷ 92 ∷ 93 ∷ [])) (0 ∷ 1 ∷ 1 ∷ 1 ∷ 80 ∷ 81 ∷ []) (0 ∷ 0 ∷ 0 ∷ 2 ∷ 3 ∷ 70 ∷ []))
    ∷ counts indexes 5 4 wide 4 (lists wide.edges wide.predecessors (four_starts (4 ∷ [])))
    -- of an edge of the last node to itself; of all edges of two nodes
    ∷ counts indexes 5 1 (lists (4 ∷ 4 ∷ []) (80 ∷ []) (71 ∷ 72 ∷ 73 ∷ 74 ∷ 75 ∷ 76 ∷ [])) 1
    (lists (4 ∷ 4 ∷ []) (4 ∷ []) (0 ∷ 0 ∷ 0 ∷ 0 ∷ 0 ∷ 1 ∷ []))
    ∷ counts indexes 2 4 (lists (0 ∷ 0 ∷ 0 ∷ 1 ∷ 1 ∷ 0 ∷ 1 ∷ 1 ∷ []) (80 ∷ 81 ∷ 82 ∷ 83 ∷ []) (71 ∷ 72 ∷ 73 ∷ [])) 4
    (lists (0 ∷ 0 ∷ 0 ∷ 1 ∷ 1 ∷ 0 ∷ 1 ∷ 1 ∷ []) (0 ∷ 1 ∷ 0 ∷ 1 ∷ []) (0 ∷ 2 ∷ 4 ∷ []))
    -- 22: the edge to add is present, the edge to drop is absent
    ∷ refuses (adds 0 2) 4 4 wide
    ∷ refuses (adds 1 2) 4 4 wide
    ∷ refuses (adds 3 0) 4 4 wide
    ∷ refuses (drops 0 0) 4 4 wide
    ∷ refuses (drops 2 1) 4 4 wide
    ∷ refuses (drops 2 0) 4 4 wide
    ∷ refuses (drops 3 3) 4 4 wide
    ∷ refuses (drops 0 0) 1 0 (lists [] [] (0 ∷ 0 ∷ []))
    -- an end is N, or 65,536 more than a node
    ∷ refuses (adds 4 0) 4 4 wide
    ∷ refuses (adds 0 4) 4 4 wide
    ∷ refuses (adds 65536 0) 4 4 wide
    ∷ refuses (adds 0 65536) 4 4 wide
    ∷ refuses (drops 4 0) 4 4 wide
    ∷ refuses (drops 0 4) 4 4 wide
    ∷ refuses (drops 65536 2) 4 4 wide
    ∷ refuses (drops 0 65538) 4 4 wide
    -- N is 0, 513, or 65,536 more than it should be
    ∷ refuses (adds 0 0) 0 0 (lists (90 ∷ 91 ∷ []) (80 ∷ []) (0 ∷ []))
    ∷ refuses (drops 0 0) 0 1 (lists (0 ∷ 0 ∷ []) (0 ∷ []) (0 ∷ []))
    ∷ refuses indexes 0 0 (lists [] [] (0 ∷ []))
    ∷ refuses (adds 0 0) 513 0 (lists (90 ∷ 91 ∷ []) (80 ∷ []) (replicate 514 0))
    ∷ refuses (drops 0 0) 513 1 (lists (0 ∷ 0 ∷ []) (0 ∷ []) (0 ∷ replicate 513 1))
    ∷ refuses indexes 513 0 (lists [] [] (replicate 514 0))
    ∷ refuses (adds 0 0) 65537 0 (lists (90 ∷ 91 ∷ []) (80 ∷ []) (0 ∷ 0 ∷ []))
    ∷ refuses (drops 0 0) 65537 1 (lists (0 ∷ 0 ∷ []) (0 ∷ []) (0 ∷ 1 ∷ []))
    ∷ refuses indexes 65540 4 wide
    -- the count is 2,049, or 65,536 more than it should be, or one more, or, where the index is given, one less
    ∷ refuses indexes 512 2049 (lists many_edges (replicate 2049 0) (replicate 513 0))
    ∷ refuses (adds 0 0) 4 65540 wide
    ∷ refuses (drops 0 2) 4 65540 wide
    ∷ refuses indexes 4 65540 wide
    ∷ refuses (adds 0 0) 4 5 wide
    ∷ refuses (drops 0 2) 4 5 wide
    ∷ refuses indexes 4 5 wide
    ∷ refuses (adds 0 0) 4 3 wide
    ∷ refuses (drops 0 2) 4 3 wide
    -- an addition with one number of room among the edges, or none, or none among the predecessors
    ∷ refuses (adds 0 0) 4 4 (lists (four (90 ∷ [])) wide.predecessors wide.starts)
    ∷ refuses (adds 0 0) 4 4 (lists (four []) wide.predecessors wide.starts)
    ∷ refuses (adds 0 0) 4 4 (lists wide.edges (four_from []) wide.starts)
    -- a list is shorter than N and the count name
    ∷ refuses (adds 0 0) 4 4 (lists wide.edges wide.predecessors (0 ∷ 1 ∷ 1 ∷ 3 ∷ []))
    ∷ refuses (drops 0 2) 4 4 (lists (0 ∷ 2 ∷ 1 ∷ 2 ∷ 1 ∷ 3 ∷ 3 ∷ []) wide.predecessors wide.starts)
    ∷ refuses (drops 0 2) 4 4 (lists wide.edges (3 ∷ 0 ∷ 1 ∷ []) wide.starts)
    ∷ refuses (drops 0 2) 4 4 (lists wide.edges wide.predecessors (0 ∷ 1 ∷ 1 ∷ 3 ∷ []))
    ∷ refuses indexes 4 4 (lists (0 ∷ 2 ∷ 1 ∷ 2 ∷ 1 ∷ 3 ∷ 3 ∷ []) wide.predecessors wide.starts)
    ∷ refuses indexes 4 4 (lists wide.edges (3 ∷ 0 ∷ 1 ∷ []) wide.starts)
    ∷ refuses indexes 4 4 (lists wide.edges wide.predecessors (0 ∷ 1 ∷ 1 ∷ 3 ∷ []))
    ∷ refuses indexes 1 0 (lists [] [] [])
    -- edges that descend, by from and by to, and equal edges, each with their index
    ∷ refuses (adds 0 0) 4 4 (roomy (1 ∷ 2 ∷ 0 ∷ 2 ∷ 1 ∷ 3 ∷ 3 ∷ 0 ∷ []) (3 ∷ 1 ∷ 0 ∷ 1 ∷ []) (four_starts []))
    ∷ refuses (drops 0 2) 4 4 (roomy (1 ∷ 2 ∷ 0 ∷ 2 ∷ 1 ∷ 3 ∷ 3 ∷ 0 ∷ []) (3 ∷ 1 ∷ 0 ∷ 1 ∷ []) (four_starts []))
    ∷ refuses indexes 4 4 (roomy (1 ∷ 2 ∷ 0 ∷ 2 ∷ 1 ∷ 3 ∷ 3 ∷ 0 ∷ []) (3 ∷ 1 ∷ 0 ∷ 1 ∷ []) (four_starts []))
    ∷ refuses (adds 0 0) 4 4 (roomy (0 ∷ 2 ∷ 1 ∷ 3 ∷ 1 ∷ 2 ∷ 3 ∷ 0 ∷ []) (four_from []) (four_starts []))
    ∷ refuses (drops 0 2) 4 4 (roomy (0 ∷ 2 ∷ 1 ∷ 3 ∷ 1 ∷ 2 ∷ 3 ∷ 0 ∷ []) (four_from []) (four_starts []))
    ∷ refuses indexes 4 4 (roomy (0 ∷ 2 ∷ 1 ∷ 3 ∷ 1 ∷ 2 ∷ 3 ∷ 0 ∷ []) (four_from []) (four_starts []))
    ∷ refuses (adds 0 0) 4 4 (roomy (0 ∷ 2 ∷ 1 ∷ 2 ∷ 1 ∷ 2 ∷ 3 ∷ 0 ∷ []) (four_from []) (0 ∷ 1 ∷ 1 ∷ 4 ∷ 4 ∷ []))
    ∷ refuses (drops 1 2) 4 4 (roomy (0 ∷ 2 ∷ 1 ∷ 2 ∷ 1 ∷ 2 ∷ 3 ∷ 0 ∷ []) (four_from []) (0 ∷ 1 ∷ 1 ∷ 4 ∷ 4 ∷ []))
    ∷ refuses indexes 4 4 (roomy (0 ∷ 2 ∷ 1 ∷ 2 ∷ 1 ∷ 2 ∷ 3 ∷ 0 ∷ []) (four_from []) (0 ∷ 1 ∷ 1 ∷ 4 ∷ 4 ∷ []))
    -- an end of N among the edges, with the index of the others
    ∷ refuses (adds 0 0) 4 4 (roomy (0 ∷ 2 ∷ 1 ∷ 2 ∷ 1 ∷ 3 ∷ 4 ∷ 0 ∷ []) (4 ∷ 0 ∷ 1 ∷ 1 ∷ []) (four_starts []))
    ∷ refuses (drops 0 2) 4 4 (roomy (0 ∷ 2 ∷ 1 ∷ 2 ∷ 1 ∷ 3 ∷ 4 ∷ 0 ∷ []) (4 ∷ 0 ∷ 1 ∷ 1 ∷ []) (four_starts []))
    ∷ refuses indexes 4 4 (roomy (0 ∷ 2 ∷ 1 ∷ 2 ∷ 1 ∷ 3 ∷ 4 ∷ 0 ∷ []) (4 ∷ 0 ∷ 1 ∷ 1 ∷ []) (four_starts []))
    ∷ refuses (adds 0 0) 4 4 (roomy (0 ∷ 2 ∷ 1 ∷ 2 ∷ 1 ∷ 4 ∷ 3 ∷ 0 ∷ []) (3 ∷ 0 ∷ 1 ∷ 0 ∷ []) (0 ∷ 1 ∷ 1 ∷ 3 ∷ 3 ∷ []))
    ∷ refuses (drops 0 2) 4 4 (roomy (0 ∷ 2 ∷ 1 ∷ 2 ∷ 1 ∷ 4 ∷ 3 ∷ 0 ∷ []) (3 ∷ 0 ∷ 1 ∷ 0 ∷ []) (0 ∷ 1 ∷ 1 ∷ 3 ∷ 3 ∷ []))
    ∷ refuses indexes 4 4 (roomy (0 ∷ 2 ∷ 1 ∷ 2 ∷ 1 ∷ 4 ∷ 3 ∷ 0 ∷ []) (3 ∷ 0 ∷ 1 ∷ 0 ∷ []) (0 ∷ 1 ∷ 1 ∷ 3 ∷ 3 ∷ []))
    -- a wrong predecessor, the first and the last; two of one node in the other order
    ∷ refuses (adds 0 0) 4 4 (roomy (four []) (2 ∷ 0 ∷ 1 ∷ 1 ∷ []) (four_starts []))
    ∷ refuses (drops 0 2) 4 4 (roomy (four []) (2 ∷ 0 ∷ 1 ∷ 1 ∷ []) (four_starts []))
    ∷ refuses (adds 0 0) 4 4 (roomy (four []) (3 ∷ 0 ∷ 1 ∷ 0 ∷ []) (four_starts []))
    ∷ refuses (drops 0 2) 4 4 (roomy (four []) (3 ∷ 0 ∷ 1 ∷ 0 ∷ []) (four_starts []))
    ∷ refuses (adds 0 0) 4 4 (roomy (four []) (3 ∷ 1 ∷ 0 ∷ 1 ∷ []) (four_starts []))
    ∷ refuses (drops 0 2) 4 4 (roomy (four []) (3 ∷ 1 ∷ 0 ∷ 1 ∷ []) (four_starts []))
    -- a wrong start in the middle, a first start other than 0, a last start other than the count, below and above
    ∷ refuses (adds 0 0) 4 4 (roomy (four []) (four_from []) (0 ∷ 1 ∷ 2 ∷ 3 ∷ 4 ∷ []))
    ∷ refuses (drops 0 2) 4 4 (roomy (four []) (four_from []) (0 ∷ 1 ∷ 2 ∷ 3 ∷ 4 ∷ []))
    ∷ refuses (adds 0 0) 4 4 (roomy (four []) (four_from []) (1 ∷ 1 ∷ 1 ∷ 3 ∷ 4 ∷ []))
    ∷ refuses (drops 0 2) 4 4 (roomy (four []) (four_from []) (1 ∷ 1 ∷ 1 ∷ 3 ∷ 4 ∷ []))
    ∷ refuses (adds 0 0) 4 4 (roomy (four []) (four_from []) (0 ∷ 1 ∷ 1 ∷ 3 ∷ 3 ∷ []))
    ∷ refuses (drops 0 2) 4 4 (roomy (four []) (four_from []) (0 ∷ 1 ∷ 1 ∷ 3 ∷ 3 ∷ []))
    ∷ refuses (adds 0 0) 4 4 (roomy (four []) (four_from []) (0 ∷ 1 ∷ 1 ∷ 3 ∷ 5 ∷ []))
    ∷ refuses (drops 0 2) 4 4 (roomy (four []) (four_from []) (0 ∷ 1 ∷ 1 ∷ 3 ∷ 5 ∷ []))
    ∷ []
