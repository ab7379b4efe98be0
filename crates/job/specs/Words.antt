-- Words over a set of symbols, as a call's word and the word after an exit are (document 01, "Nodes and walks").
-- Inner contracts: what functions ask of and leave to each other. No promise is stated in them; a reader need not believe them.
-- Assumes nothing.
use Rattle.std.specs.Prelude.{◌≡◌, true, not, ℕ}
use Rattle.laws.specs.Bits.{has}
use Rattle.automaton.specs.Automaton.{Automaton, next, final}
use Rattle.job.specs.Job.{is_reentrant, Job, node_at}

-- some word over the set tells two states apart: an alarm from one and not from the other at one of its symbols, or by what may follow
-- the word
pub data WordApart (m : Automaton) (set : ℕ) (More : ℕ → ℕ → Type 0) : ℕ → ℕ → Type 0 where
  -- at its first symbol
  apart_here
      : (a : ℕ) {p q : ℕ} → has set a ≡ true → final m (next m p a) ≡ not (final m (next m q a)) → WordApart m set More p q
  -- at a later symbol, or after it
  apart_later : (a : ℕ) {p q : ℕ} → has set a ≡ true → WordApart m set More (next m p a) (next m q a) → WordApart m set More p q
  -- after the empty word
  apart_after : {p q : ℕ} → More p q → WordApart m set More p q

-- the pairs that a word over a set leads to from given ones
pub data Spelt (m : Automaton) (set : ℕ) (P : ℕ → ℕ → Type 0) : ℕ → ℕ → Type 0 where
  -- the empty word
  no_word : {p q : ℕ} → P p q → Spelt m set P p q
  -- a word and one symbol more
  one_more : (a : ℕ) {p q : ℕ} → has set a ≡ true → Spelt m set P p q → Spelt m set P (next m p a) (next m q a)

-- a return from the word after an exit, to a node that may come back in: T has the pairs told apart past each node
pub record ReturnApart (j : Job) (T : ℕ → ℕ → ℕ → Type 0) (p q : ℕ) : Type 0 where
  pub node : ℕ
  pub again : is_reentrant (node_at j node).kind ≡ true
  pub apart : T node p q

-- nothing follows the word: what it tells apart by itself
abbrev pub NothingMore : ℕ → ℕ → Type 0
NothingMore p q = ⊥
