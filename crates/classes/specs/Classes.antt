-- What the growth of the class rows leaves, node by node.
-- Inner contracts: what functions ask of and leave to each other. No promise is stated in them; a reader need not believe them.
-- Assumes nothing.
use Rattle.std.specs.Prelude.{◌≡◌, ◌⊎◌, ◌↔◌, true, List, ℕ, ◌+◌, ◌%◌, ◌≤◌, ◌<◌}
use Rattle.std.specs.Int.Bits.{bit_or}
use Rattle.laws.specs.Bits.{has}
use Rattle.automaton.specs.Automaton.{cell}
use Rattle.job.specs.Job.{Point, no_point, point, point_of, call_set, Job}
use Rattle.job.specs.Found.{Apart}
use Rattle.buffer.specs.Views.{node_in, class_row_in, EdgeIn, HeldApart}
use Rattle.buffer.specs.ClassRows.{OnlyClasses, OnlyClassesOf, apart_left}
use Rattle.tables.specs.Rows.{unlike_states, preimage_of}
use Rattle.tables.specs.Held.{JobHeld}
use Rattle.classes.specs.Backwards.{word_row}

-- the states told apart from p before a node, by what is told apart past it: at a shadow its own event comes first
abbrev pub before_point : List (List ℕ) → ℕ → ℕ → (ℕ → ℕ) → ℕ → Point → ℕ
before_point table finals states rows p no_point = rows p
before_point table finals states rows p (point a) =
    preimage_of table states (a % 16) (bit_or (rows (cell table p (a % 16))) (unlike_states finals (cell table p (a % 16))))

-- before node m of a buffer
unfoldable pub before_row : List (List ℕ) → ℕ → ℕ → List ℕ → ℕ → ℕ → ℕ
before_row table finals states work m p = before_point table finals states (class_row_in work m) p (point_of (node_in work m).kind)

-- the pair is told apart before a successor of node n
pub record ApartNext (table : List (List ℕ)) (finals states : ℕ) (work : List ℕ) (n p q : ℕ) : Type 0 where
  pub to : ℕ
  pub edge : EdgeIn work n to
  pub apart : has (before_row table finals states work to p) q ≡ true

-- the set has these pairs of row p
abbrev pub NextRow : List (List ℕ) → ℕ → ℕ → List ℕ → ℕ → ℕ → ℕ → Type 0
NextRow table finals states work n p r = (q : ℕ) → (has r q ≡ true) ↔ ApartNext table finals states work n p q

-- the pair is told apart past node n: by a symbol of its call word and given rows, or before a successor by the rows of a buffer
abbrev pub ApartBack : List (List ℕ) → ℕ → ℕ → (ℕ → ℕ) → List ℕ → ℕ → ℕ → ℕ → ℕ → Type 0
ApartBack table finals states rows work n set p q =
    (has (word_row table finals states rows set p) q ≡ true) ⊎ ApartNext table finals states work n p q

-- node n holds each pair that the rows tell apart past it
abbrev pub ClosedBack : List (List ℕ) → ℕ → ℕ → List ℕ → ℕ → Type 0
ClosedBack table finals states work n =
    (p q : ℕ) → p < states → ApartBack table finals states (class_row_in work n) work n (call_set (node_in work n).kind) p q
    → HeldApart work n p q

-- every pair that is held is told apart by some continuation
abbrev pub AllApart : Job → ℕ → List ℕ → Type 0
AllApart j nodes work = (n p q : ℕ) → n < nodes → p < 16 → HeldApart work n p q → Apart j n p q

-- the rows of node n were grown once; grown is the number of rows that grew
pub record NodeGrown (table : List (List ℕ)) (finals states : ℕ) (l m : List ℕ) (n grown : ℕ) : Type 0 where
  pub kept : OnlyClassesOf n l m
  pub held : (k p q : ℕ) → k < 512 → p < 16 → HeldApart l k p q → HeldApart m k p q
  pub sound
      : (j : Job) (nodes : ℕ) → JobHeld j l table finals states nodes → n < nodes → nodes ≤ 512 → AllApart j nodes l → AllApart j nodes m
  pub none : grown ≡ 0 → m ≡ l
  pub closed : grown ≡ 0 → ClosedBack table finals states l n
  pub left : apart_left m + grown ≤ apart_left l

-- the rows of all nodes were grown once
pub record ClassesGrown (table : List (List ℕ)) (finals states nodes : ℕ) (l m : List ℕ) (grown : ℕ) : Type 0 where
  pub kept : OnlyClasses l m
  pub held : (k p q : ℕ) → k < 512 → p < 16 → HeldApart l k p q → HeldApart m k p q
  pub sound : (j : Job) → JobHeld j l table finals states nodes → AllApart j nodes l → AllApart j nodes m
  pub closed : grown ≡ 0 → (n : ℕ) → n < nodes → ClosedBack table finals states m n
  pub left : apart_left m + grown ≤ apart_left l
