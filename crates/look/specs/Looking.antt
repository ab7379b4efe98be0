-- What looking at one row of pairs leaves.
-- Inner contracts: what functions ask of and leave to each other. No promise is stated in them; a reader need not believe them.
-- Assumes nothing.
use Rattle.std.specs.Prelude.{◌≡◌, ◌⊎◌, true, false, not, List, ℕ, ◌<◌}
use Rattle.laws.specs.Bits.{has}
use Rattle.automaton.specs.Automaton.{Automaton, next, final}
use Rattle.job.specs.Job.{Point, no_point, point, point_of, call_set, is_reentrant, is_entry, Job, node_at, leads}
use Rattle.job.specs.Walk.{shadow}
use Rattle.job.specs.Plan.{Enabling, full, enables, state_at, alarm_at}
use Rattle.job.specs.Words.{Spelt}
use Rattle.buffer.specs.Views.{class_row_in, Held, HeldApart}
use Rattle.tables.specs.Tables.{Grown}
use Rattle.moves.specs.declared.Past.{Past}
use Rattle.tables.specs.Held.{JobHeld, PlanHeld}

-- the state past a node: its own event is taken as the watch says
abbrev pub past_state : Automaton → Enabling → ℕ → Point → ℕ → ℕ
past_state m v n no_point p = p
past_state m v n (point a) p = state_at m v p (shadow n a)

-- past node n of a job
abbrev pub past_node : Job → Enabling → ℕ → ℕ → ℕ
past_node j v n p = past_state j.rule v n (point_of (node_at j n).kind) p

-- what follows a pair in the set of node n: over an edge, by a symbol of its call word, at an entry where the call comes in again, or at a
-- call that the word after an exit comes back to
pub data Follows (j : Job) (w : Enabling) (n p q : ℕ) : ℕ → ℕ → ℕ → Type 0 where
  over_edge : {m : ℕ} → leads j n m ≡ true → Follows j w n p q m (past_node j full n p) (past_node j w n q)
  by_word_lem
      : (a : ℕ) → has (call_set (node_at j n).kind) a ≡ true
      → Follows j w n p q n (next j.rule p a) (next j.rule q a)
  by_entry : {m : ℕ} → is_reentrant (node_at j n).kind ≡ true → is_entry (node_at j m) ≡ true → Follows j w n p q m p q
  by_return
      : {m r s : ℕ} → (node_at j n).exit ≡ true → is_reentrant (node_at j m).kind ≡ true
      → Spelt j.rule (node_at j n).after (λ x y. (x ≡ past_node j full n p) × (y ≡ past_node j w n q)) r s → Follows j w n p q m r s

-- at every event that may come next the monitors alarm alike, and what a symbol of the call word leads to is held
pub record AlikePair (j : Job) (w : Enabling) (work : List ℕ) (n p q : ℕ) : Type 0 where
  pub words
      : (a : ℕ) → has (call_set (node_at j n).kind) a ≡ true → Held work n (next j.rule p a) (next j.rule q a)
  pub at_point
      : (a : ℕ) → point_of (node_at j n).kind ≡ point a → alarm_at j.rule full p (shadow n a) ≡ alarm_at j.rule w q (shadow n a)
  pub at_call
      : (a : ℕ) → has (call_set (node_at j n).kind) a ≡ true
      → final j.rule (next j.rule p a) ≡ final j.rule (next j.rule q a)
  pub at_exit : has (class_row_in work n (past_node j full n p)) (past_node j w n q) ≡ false

-- and so is what an edge leads to
pub record ClosedPair (j : Job) (w : Enabling) (work : List ℕ) (n p q : ℕ) : Type 0 where
  pub alike : AlikePair j w work n p q
  pub edges : (m : ℕ) → leads j n m ≡ true → Held work m (past_node j full n p) (past_node j w n q)

-- at some event that may come next one monitor alarms and the other does not
pub data SplitPair (j : Job) (w : Enabling) (work : List ℕ) (n p q : ℕ) : Type 0 where
  split_point
      : {a : ℕ} → point_of (node_at j n).kind ≡ point a → alarm_at j.rule full p (shadow n a) ≡ not (alarm_at j.rule w q (shadow n a))
      → SplitPair j w work n p q
  split_call
      : (a : ℕ) → has (call_set (node_at j n).kind) a ≡ true
      → final j.rule (next j.rule p a) ≡ not (final j.rule (next j.rule q a)) → SplitPair j w work n p q
  split_exit : HeldApart work n (past_node j full n p) (past_node j w n q) → SplitPair j w work n p q

-- row p of node n was looked at: `past` is the row past the node
pub record Looked (j : Job) (w : Enabling) (l m : List ℕ) (n p : ℕ) (past : Past) : Type 0 where
  pub new
      : (k r s : ℕ) → k < 512 → r < 16 → Held m k r s
      → Held l k r s ⊎ ((q : ℕ) × Held l n p q × Follows j w n p q k r s)
  pub alike : past.differs ≡ false → (q : ℕ) → Held l n p q → AlikePair j w m n p q
  pub here
      : past.differs ≡ false → (q : ℕ) → Held l n p q
      → (past.state ≡ past_node j full n p) × (has past.set (past_node j w n q) ≡ true)
  pub from
      : past.differs ≡ false → (s : ℕ) → has past.set s ≡ true
      → (q : ℕ) × Held l n p q × ((past.state ≡ past_node j full n p) × (s ≡ past_node j w n q))
  pub split : past.differs ≡ true → (q : ℕ) × Held l n p q × SplitPair j w l n p q

-- the same for every job that the buffer holds
pub record LookedAt (table : List (List ℕ)) (finals : ℕ) (l m : List ℕ) (n p : ℕ) (past : Past) : Type 0 where
  pub grown : Grown l m
  pub small : past.state < 16
  pub exact
      : (j : Job) (plan : List ℕ) (states nodes : ℕ) → JobHeld j l table finals states nodes → PlanHeld plan l nodes → n < nodes
      → Looked j (enables plan) l m n p past
