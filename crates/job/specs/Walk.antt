-- Walks (document 01, "Nodes and walks"; document 02, "Procedures that call themselves"): a constructor for each sentence.
-- Assumes nothing.
use Rattle.std.specs.Prelude.{◌≡◌, Bool, true, List, [], ◌∷◌, ℕ}
use Rattle.laws.specs.Bits.{has}
use Rattle.job.specs.Job.{plain, event, calls, reentrant, is_entry, Job, node_at, leads}

-- an event of a walk: a symbol, reported by the shadow ("point") at a node or standing in a call word or after word
pub data Event : Type 0 where
  shadow : ℕ → ℕ → Event
  word : ℕ → Event

-- the symbol of an event
abbrev pub symbol_of : Event → ℕ
symbol_of (shadow n a) = a
symbol_of (word a) = a

-- where a walk stands: before a node, past it (at a call, in its word), or in the after word of an exit
pub data Place : Type 0 where
  before : ℕ → Place
  past : ℕ → Place
  ended : ℕ → Place

-- the moves of document 01 that report nothing; there "a call never comes back into this procedure"
pub data Step (j : Job) : Place → Place → Type 0 where
  -- "a plain node reports nothing"
  pass_plain : {n : ℕ} → (node_at j n).kind ≡ plain → Step j (before n) (past n)
  -- "a call node any finite word over its set, the empty one included": the word begins
  begin_word : {n set : ℕ} {again : Bool} → (node_at j n).kind ≡ calls again set → Step j (before n) (past n)
  -- "follows edges"; at an exit "it may take an edge instead if there is one"
  take_edge : {m n : ℕ} → leads j m n ≡ true → Step j (past m) (before n)
  -- "after an exit node's own events the walk may end with any finite word over the after set": the word begins
  begin_after : {n : ℕ} → (node_at j n).exit ≡ true → Step j (past n) (ended n)

-- the moves that report nothing: those of document 01, and the two of document 02
pub data Silent (j : Job) : Place → Place → Type 0 where
  step : {x y : Place} → Step j x y → Silent j x y
  -- "after its word the walk may also go to any entry node, in the state it has, whatever the entry set"
  come_in : {m n set : ℕ} → (node_at j m).kind ≡ reentrant set → is_entry (node_at j n) ≡ true → Silent j (past m) (before n)
  -- "after an exit node's after word the walk may go to any kind 3 node, which it enters as by an edge"
  come_back : {m n set : ℕ} → (node_at j m).exit ≡ true → (node_at j n).kind ≡ reentrant set → Silent j (ended m) (before n)

-- the moves that report an event
pub data Told (j : Job) : Place → Event → Place → Type 0 where
  -- "an event node its symbol"
  report : {n a : ℕ} → (node_at j n).kind ≡ event a → Told j (before n) (shadow n a) (past n)
  -- a symbol of a call word
  call_word : {n set a : ℕ} {again : Bool} → (node_at j n).kind ≡ calls again set → has set a ≡ true → Told j (past n) (word a) (past n)
  -- a symbol of an after word
  after_word : {n a : ℕ} → (node_at j n).exit ≡ true → has (node_at j n).after a ≡ true → Told j (ended n) (word a) (ended n)

-- from one place to another, with the events on the way
pub data Walk (j : Job) : Place → List Event → Place → Type 0 where
  -- "a walk may stop anywhere, also inside a word"
  stop : {x : Place} → Walk j x [] x
  move : {x y z : Place} {es : List Event} → Silent j x y → Walk j y es z → Walk j x es z
  tell : {x y z : Place} {e : Event} {es : List Event} → Told j x e y → Walk j y es z → Walk j x (e ∷ es) z

-- a walk from a place on: its events and where it stands
pub record WalkOn (j : Job) (x : Place) : Type 0 where
  pub events : List Event
  pub end : Place
  pub walk : Walk j x events end

-- "begins before an entry node in an admitted state"
pub record Start (j : Job) : Type 0 where
  pub node : ℕ
  pub state : ℕ
  pub admitted : has (node_at j node).entry state ≡ true

-- a walk of the job from a start
abbrev pub WalkFrom : (j : Job) → Start j → Type 0
WalkFrom j s = WalkOn j (before s.node)
