-- Calls that may come back in, backwards: what is told apart before an entry is so past each of them, and what is told apart past one of
-- them is so where the word after an exit ends.
-- Inner contracts: what functions ask of and leave to each other. No promise is stated in them; a reader need not believe them.
-- Assumes nothing.
use Rattle.std.specs.Prelude.{◌≡◌, true, List, ℕ, ◌+◌, ◌≤◌, ◌<◌}
use Rattle.laws.specs.Bits.{has}
use Rattle.job.specs.Job.{is_reentrant, is_entry, Job, node_at}
use Rattle.job.specs.Words.{WordApart, NothingMore, ReturnApart}
use Rattle.buffer.specs.Views.{HeldApart}
use Rattle.buffer.specs.ClassRows.{OnlyClasses, apart_left}
use Rattle.tables.specs.Held.{JobHeld}
use Rattle.classes.specs.Classes.{before_row, ClosedBack, AllApart}

-- the class rows hold, at exits, the states that some word over the after set tells apart
abbrev pub AfterWhole : Job → List ℕ → ℕ → Type 0
AfterWhole j work nodes =
    (n p q : ℕ) → n < nodes → p < j.rule.states → q < j.rule.states → (node_at j n).exit ≡ true
    → WordApart j.rule (node_at j n).after NothingMore p q → HeldApart work n p q

-- the class rows hold what re-entries and returns lead back to
pub record ReturnsClosed (j : Job) (table : List (List ℕ)) (finals states nodes : ℕ) (work : List ℕ) : Type 0 where
  pub enters
      : (m n p q : ℕ) → m < nodes → n < nodes → p < 16 → is_reentrant (node_at j m).kind ≡ true → is_entry (node_at j n) ≡ true
      → has (before_row table finals states work n p) q ≡ true → HeldApart work m p q
  pub returns
      : (n p q : ℕ) → n < nodes → p < j.rule.states → q < j.rule.states → (node_at j n).exit ≡ true
      → WordApart j.rule (node_at j n).after (ReturnApart j (HeldApart work)) p q → HeldApart work n p q

-- the class rows were grown once by re-entries and returns; grown is the number of rows that grew
pub record ClassesReturned (table : List (List ℕ)) (finals states nodes : ℕ) (l m : List ℕ) (grown : ℕ) : Type 0 where
  pub kept : OnlyClasses l m
  pub held : (k p q : ℕ) → k < 512 → p < 16 → HeldApart l k p q → HeldApart m k p q
  pub sound : (j : Job) → JobHeld j l table finals states nodes → AllApart j nodes l → AllApart j nodes m
  pub none : grown ≡ 0 → m ≡ l
  pub closed
      : grown ≡ 0 → (j : Job) → JobHeld j l table finals states nodes → AfterWhole j l nodes → ReturnsClosed j table finals states nodes l
  pub left : apart_left m + grown ≤ apart_left l

-- the class rows were grown once, over the edges and, where no row grew by them, by re-entries and returns
pub record ClassesTurned (table : List (List ℕ)) (finals states nodes : ℕ) (l m : List ℕ) (grown : ℕ) : Type 0 where
  pub kept : OnlyClasses l m
  pub held : (k p q : ℕ) → k < 512 → p < 16 → HeldApart l k p q → HeldApart m k p q
  pub sound : (j : Job) → JobHeld j l table finals states nodes → AllApart j nodes l → AllApart j nodes m
  pub closed : grown ≡ 0 → (n : ℕ) → n < nodes → ClosedBack table finals states m n
  pub returned
      : grown ≡ 0 → (j : Job) → JobHeld j l table finals states nodes → AfterWhole j l nodes → ReturnsClosed j table finals states nodes m
  pub left : apart_left m + grown ≤ apart_left l
