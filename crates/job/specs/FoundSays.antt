-- What the before set, the lowest states, the class count and the nop mark say in walks: statements, with a theorem for each in `proofs/`.
-- Assumes nothing.
use Rattle.std.specs.Prelude.{◌≡◌, ◌↔◌, true, false, ℕ, ◌≤◌, ◌<◌, length}
use Rattle.laws.specs.Bits.{has}
use Rattle.automaton.specs.Automaton.{next, final}
use Rattle.job.specs.Job.{Job, WellFormedJob}
use Rattle.job.specs.Found.{Arrives, Equivalent, states_before, lowest, class_count, nop_shadow}

-- "the before set of a point holds the states in which some walk arrives there"
abbrev pub BeforeSays : Type 0
BeforeSays = (j : Job) → WellFormedJob j → (n q : ℕ) → (has (states_before j n) q ≡ true) ↔ Arrives j n q

-- "lowest in their class": no lower state is of one class with it
abbrev pub LowestSays : Type 0
LowestSays =
    (j : Job) → WellFormedJob j → (n q : ℕ) → n < length j.nodes → q < j.rule.states
    → (lowest j n q ≡ true) ↔ ((p : ℕ) → p < q → Equivalent j n p q → ⊥)

-- the class count is "out of all S": some state is lowest in its class also after a point that no walk reaches
abbrev pub SomeClass : Type 0
SomeClass = (j : Job) → WellFormedJob j → (n : ℕ) → 1 ≤ class_count j n

-- "for every state of its before set, the next state is not final and is of the same class after the point as the state itself"
abbrev pub NopSays : Type 0
NopSays =
    (j : Job) → WellFormedJob j → (n a : ℕ) → n < length j.nodes → a < j.rule.symbols
    → (nop_shadow j n a ≡ true)
    ↔ ((q : ℕ) → Arrives j n q → (final j.rule (next j.rule q a) ≡ false) × Equivalent j n (next j.rule q a) q)
