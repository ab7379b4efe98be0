-- The tests that planning and the listing use; a first reading may leave this file out. What each says in walks is `SearchSays.antt`.
-- Assumes nothing.
use Rattle.std.specs.Prelude.{Bool, true, false, cond, not, ◌&&◌, ◌||◌, List, [], ◌∷◌, ◌++◌, map, ℕ, zero, suc, ◌+◌, ◌*◌, ◌^◌, eqb, length}
use Rattle.laws.specs.Bits.{has}
use Rattle.job.specs.Job.{Point, no_point, point, point_of, call_set, is_reentrant, Node, is_entry, Edge, Job, node_at}
use Rattle.job.specs.Walk.{Event, shadow, word, Place, before, past, ended}
use Rattle.job.specs.Plan.{Enabling, full, enables, state_at, alarm_at}

-- ---- a search of a finite set: things with a code; each is pushed once, when first met

-- the things to do and the codes met, as a set
pub record Queue (A : Type 0) : Type 0 where
  pub met : ℕ
  pub todo : List A

-- one thing more, unless it was met
abbrev pub pushed : {A : Type 0} → (A → ℕ) → A → Queue A → Queue A
pushed code x q = cond (has q.met (code x)) q (record { met = q.met + 2 ^ code x; todo = x ∷ q.todo })

-- several things more
unfoldable pub push_all : {A : Type 0} → (A → ℕ) → List A → Queue A → Queue A
push_all code [] q = q
push_all code (x ∷ xs) q = push_all code xs (pushed code x q)

-- the first thing to do is found, and what follows it is pushed; at most k are found
unfoldable pub explore : {A : Type 0} → ℕ → (A → ℕ) → (A → List A) → ℕ → List A → List A
unfolding push_all
explore zero code after met todo = []
explore (suc k) code after met [] = []
explore (suc k) code after met (x ∷ xs) =
    let q = push_all code (after x) (record { met = met; todo = xs }) in
    x ∷ explore k code after q.met q.todo

-- all that is reached from the starts
unfoldable pub reached : {A : Type 0} → ℕ → (A → ℕ) → (A → List A) → List A → List A
unfolding push_all explore
reached k code after starts =
    let q = push_all code starts (record { met = 0; todo = [] }) in
    explore k code after q.met q.todo

-- some element passes the test
unfoldable pub any_of : {A : Type 0} → (A → Bool) → List A → Bool
any_of f [] = false
any_of f (x ∷ xs) = f x || any_of f xs

-- the numbers below k that pass a test
unfoldable pub numbers_of : ℕ → (ℕ → Bool) → List ℕ
numbers_of zero f = []
numbers_of (suc k) f = cond (f k) (k ∷ numbers_of k f) (numbers_of k f)

-- ---- two monitors on a job

-- a place, the state under one monitor and the state under the other
pub record Config : Type 0 where
  pub place : Place
  pub one : ℕ
  pub other : ℕ

-- a configuration of these
abbrev pub config_of : Place → ℕ → ℕ → Config
config_of x p q = record { place = x; one = p; other = q }

-- a code for each place, three to a node
abbrev pub place_code : Place → ℕ
place_code (before n) = n * 3
place_code (past n) = n * 3 + 1
place_code (ended n) = n * 3 + 2

-- a code for each configuration: the place and two digits to base S
abbrev pub config_code : Job → Config → ℕ
config_code j c = (place_code c.place * j.rule.states + c.one) * j.rule.states + c.other

-- codes are below this
abbrev pub config_count : Job → ℕ
config_count j = length j.nodes * 3 * j.rule.states * j.rule.states

-- the nodes that the edges lead to
unfoldable pub targets : List Edge → ℕ → List ℕ
targets [] m = []
targets (e ∷ es) m = cond (eqb e.from m) (e.to ∷ targets es m) (targets es m)

-- the places past a node that is entered silently
abbrev pub entered : ℕ → Point → List Place
entered n no_point = past n ∷ []
entered n (point a) = []

-- the places before the nodes that pass a test, where another test does
abbrev pub before_nodes : Bool → Job → (Node → Bool) → List Place
before_nodes goes j f = cond goes (map before (numbers_of (length j.nodes) (λ n. f (node_at j n)))) []

-- the silent moves from a place
unfoldable pub silent_moves : Job → Place → List Place
unfolding targets numbers_of
silent_moves j (before n) = entered n (point_of (node_at j n).kind)
silent_moves j (past n) =
    map before (targets j.edges n)
    ++ (cond (node_at j n).exit (ended n ∷ []) [] ++ before_nodes (is_reentrant (node_at j n).kind) j is_entry)
silent_moves j (ended n) = before_nodes (node_at j n).exit j (λ m. is_reentrant m.kind)

-- a move that reports: the event, and the place after it
pub record Telling : Type 0 where
  pub event : Event
  pub to : Place

-- an event with the place after it
abbrev pub telling : Event → Place → Telling
telling e y = record { event = e; to = y }

-- the symbols of a set, told at a place that is not left
abbrev pub words : ℕ → ℕ → Place → List Telling
words a set x = map (λ s. telling (word s) x) (numbers_of a (has set))

-- what is reported before a node: its point
abbrev pub reports : ℕ → Point → List Telling
reports n no_point = []
reports n (point a) = telling (shadow n a) (past n) ∷ []

-- the moves that report an event
unfoldable pub told_moves : Job → Place → List Telling
unfolding numbers_of
told_moves j (before n) = reports n (point_of (node_at j n).kind)
told_moves j (past n) = words j.rule.symbols (call_set (node_at j n).kind) (past n)
told_moves j (ended n) = cond (node_at j n).exit (words j.rule.symbols (node_at j n).after (ended n)) []

-- the configuration after an event
abbrev pub told_config : Job → Enabling → Enabling → Config → Telling → Config
told_config j v w c t = config_of t.to (state_at j.rule v c.one t.event) (state_at j.rule w c.other t.event)

-- what follows a configuration
unfoldable pub after_config : Job → Enabling → Enabling → Config → List Config
unfolding silent_moves told_moves
after_config j v w c =
    map (λ y. config_of y c.one c.other) (silent_moves j c.place) ++ map (told_config j v w c) (told_moves j c.place)

-- one of two tests passes and the other does not
abbrev pub unlike : Bool → Bool → Bool
unlike true b = not b
unlike false b = b

-- at the next event one monitor alarms and the other does not
unfoldable pub splits : Job → Enabling → Enabling → Config → Bool
unfolding told_moves any_of
splits j v w c = any_of (λ t. unlike (alarm_at j.rule v c.one t.event) (alarm_at j.rule w c.other t.event)) (told_moves j c.place)

-- the starts at the first n nodes, both monitors in the admitted state
unfoldable pub starts_below : Job → ℕ → List Config
unfolding numbers_of
starts_below j zero = []
starts_below j (suc n) = map (λ q. config_of (before n) q q) (numbers_of j.rule.states (has (node_at j n).entry)) ++ starts_below j n

-- all configurations that are reached
abbrev pub configs : Job → Enabling → Enabling → List Config → List Config
configs j v w from = reached (config_count j) (config_code j) (after_config j v w) from

-- no walk shows a difference under the plan
unfoldable pub faithful : Job → List ℕ → Bool
unfolding reached after_config splits starts_below any_of
faithful j plan = not (any_of (splits j full (enables plan)) (configs j full (enables plan) (starts_below j (length j.nodes))))

-- the place is before the node
abbrev pub is_before : ℕ → Place → Bool
is_before n (before m) = eqb m n
is_before n (past m) = false
is_before n (ended m) = false

-- some walk arrives at the node in the state q
unfoldable pub arrives : Job → ℕ → ℕ → Bool
unfolding reached after_config starts_below any_of
arrives j n q = any_of (λ c. is_before n c.place && eqb c.one q) (configs j full full (starts_below j (length j.nodes)))

-- some continuation past the node tells two states apart
unfoldable pub apart : Job → ℕ → ℕ → ℕ → Bool
unfolding reached after_config splits any_of
apart j n p q = any_of (splits j full full) (configs j full full (config_of (past n) p q ∷ []))
