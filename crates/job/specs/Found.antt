-- What is found at a point (document 01, "What is found at a point"), with all points watched.
-- Assumes nothing.
use Rattle.std.specs.Prelude.{Bool, cond, not, ◌&&◌, ◌||◌, ℕ, zero, suc}
use Rattle.laws.specs.Bounded.{all_below, sum_below}
use Rattle.laws.specs.Bits.{with}
use Rattle.automaton.specs.Automaton.{next, final}
use Rattle.job.specs.Job.{Job}
use Rattle.job.specs.Walk.{before, past}
use Rattle.job.specs.Plan.{full, ArrivesAt, AlikeAt, ApartAt}
use Rattle.job.specs.Search.{arrives, apart}

-- "some walk arrives there": to before the node, in the state q
abbrev pub Arrives : Job → ℕ → ℕ → Type 0
Arrives j n q = ArrivesAt j full full (before n) q q

-- some continuation past the node has an alarm from one of two states and not from the other, at the same event
abbrev pub Apart : Job → ℕ → ℕ → ℕ → Type 0
Apart j n p q = ApartAt j full full (past n) p q

-- "of one class after a point": no continuation tells the states apart
abbrev pub Equivalent : Job → ℕ → ℕ → ℕ → Type 0
Equivalent j n p q = AlikeAt j full full (past n) p q

-- the set of the numbers below k that pass a test
unfoldable pub set_of : ℕ → (ℕ → Bool) → ℕ
set_of zero f = 0
set_of (suc k) f = cond (f k) (with (set_of k f) k) (set_of k f)

-- "before set": the states in which some walk arrives; `arrives` says `Arrives`
abbrev pub states_before : Job → ℕ → ℕ
states_before j n = set_of j.rule.states (arrives j n)

-- "lowest in their class": no lower state is of the same class; `apart` says `Apart`
abbrev pub lowest : Job → ℕ → ℕ → Bool
lowest j n q = all_below q (λ p. apart j n p q)

-- "the number of states, out of all S, that are lowest in their class"
abbrev pub class_count : Job → ℕ → ℕ
class_count j n = sum_below j.rule.states (λ q. cond (lowest j n q) 1 0)

-- "nop mark 1": for every state of the before set, the next state is not final and of the same class as the state itself
abbrev pub nop_shadow : Job → ℕ → ℕ → Bool
nop_shadow j n a =
    all_below j.rule.states
    (λ q. not (arrives j n q) || (not (final j.rule (next j.rule q a)) && not (apart j n (next j.rule q a) q)))
