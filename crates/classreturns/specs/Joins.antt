-- Pairs joined at nodes: at calls that may come back in, and at exits.
-- Inner contracts: what functions ask of and leave to each other. No promise is stated in them; a reader need not believe them.
-- Assumes nothing.
use Prim.{Unit}
use Rattle.std.specs.Prelude.{◌≡◌, ◌⊎◌, true, List, ℕ, ◌+◌, ◌≤◌, ◌<◌}
use Rattle.job.specs.Job.{is_reentrant, Node}
use Rattle.buffer.specs.Views.{node_in, HeldApart}
use Rattle.buffer.specs.ClassRows.{OnlyClasses, apart_left}
use Rattle.tables.specs.Sixteen.{InRows}
use Rattle.classes.specs.Backwards.{RuleOf, AfterPair, AfterPairWithin}

-- the pairs of sixteen rows, at a call that may come back in
abbrev pub ToCall : List ℕ → Unit {0} → Node → ℕ → ℕ → Type 0
ToCall rows i x p q = (is_reentrant x.kind ≡ true) × InRows rows p q

-- the pairs that a word over the after set and sixteen rows tell apart, at an exit
abbrev pub ToExit : (table : List (List ℕ)) (finals states : ℕ) → List ℕ → RuleOf table finals states → Node → ℕ → ℕ → Type 0
ToExit table finals states rows i x p q = (x.exit ≡ true) × AfterPair table finals states rows i x p q

-- those of states and symbols of the rule
abbrev pub ToExitWithin : (table : List (List ℕ)) (finals states : ℕ) → List ℕ → RuleOf table finals states → Node → ℕ → ℕ → Type 0
ToExitWithin table finals states rows i x p q = (x.exit ≡ true) × AfterPairWithin table finals states rows i x p q

-- pairs were joined into the class rows of the nodes below n, as `NodeJoined` says for one
pub record NodesJoined {I : Type 0} (New Here : I → Node → ℕ → ℕ → Type 0) (l m : List ℕ) (n grown : ℕ) : Type 0 where
  pub kept : OnlyClasses l m
  pub held : (k p q : ℕ) → k < 512 → p < 16 → HeldApart l k p q → HeldApart m k p q
  pub here : (i : I) (k p q : ℕ) → k < n → p < 16 → Here i (node_in l k) p q → HeldApart m k p q
  pub new : (i : I) (k p q : ℕ) → k < 512 → p < 16 → HeldApart m k p q → HeldApart l k p q ⊎ New i (node_in l k) p q
  pub none : grown ≡ 0 → m ≡ l
  pub left : apart_left m + grown ≤ apart_left l
