-- Laws of kinds: what their points and word sets say, and the moves of a walk by them.
-- Assumes nothing.
use mathlib.Core.Path.{◌≡◌, refl, sym, ap, subst, ◌∙◌}
use mathlib.Core.Logic.{◌⊎◌, inl, inr}
use mathlib.Core.Bool.{Bool, true, false, true≢false, false≢true}
use Prim.Native.Nat.{ℕ, ◌<◌}
use native.Mathlib.Nat.{lt_of_lt_of_le}
use native.Mathlib.Omega.{arith}
use Rattle.laws.specs.Bits.{has}
use Rattle.laws.proofs.Bits.{has_empty}
use Rattle.job.specs.Job.{Kind, plain, event, calls, reentrant, Point, no_point, point, point_of, call_set, is_reentrant, is_point, is_event, is_entry, Job, node_at, leads, KindBelow, WellFormedJob}
use Rattle.job.specs.Walk.{Event, shadow, word, Place, before, past, ended, Step, pass_plain, begin_word, take_edge, begin_after}
use Rattle.job.specs.Walk.{Silent, step, come_in, come_back}
use Rattle.job.specs.Walk.{Told, report, call_word, after_word}

-- ---- points

-- a point is not none
pub point_some : {x : Point} {a : ℕ} → x ≡ point a → x ≡ no_point → ⊥
point_some e f = let z : ◌≡◌ {A = ℕ} 0 1 = cc in omega arith

-- its symbol is one
pub point_same : {a b : ℕ} → point a ≡ point b → a ≡ b
point_same e = cc

-- there is a point or none
pub point_or_none : (x : Point) → ((a : ℕ) × (x ≡ point a)) ⊎ (x ≡ no_point)
point_or_none no_point = inr refl
point_or_none (point a) = inl (a, refl)

-- an event node has a point
pub event_point : (k : Kind) → is_event k ≡ true → (a : ℕ) × (point_of k ≡ point a)
event_point k h = go (point_of k) h
  where
    go : (x : Point) → is_point x ≡ true → (a : ℕ) × (x ≡ point a)
    go no_point e = absurd (false≢true e)
    go (point a) e = (a, refl)

-- ---- kinds

-- a plain node has no point
pub plain_none : {k : Kind} → k ≡ plain → point_of k ≡ no_point
plain_none e = ap point_of e

-- nor has a call
pub call_none : {k : Kind} {again : Bool} {set : ℕ} → k ≡ calls again set → point_of k ≡ no_point
call_none e = ap point_of e

-- the point of an event node
pub point_own : {k : Kind} {a : ℕ} → k ≡ event a → point_of k ≡ point a
point_own e = ap point_of e

-- a symbol of a call's set
pub call_has : {k : Kind} {again : Bool} {set : ℕ} (a : ℕ) → k ≡ calls again set → has set a ≡ true → has (call_set k) a ≡ true
call_has a e h = ap (λ (k : Kind). has (call_set k) a) e ∙ h

-- no symbol is in the empty set
none_has : {A : Type 0} (a : ℕ) → has 0 a ≡ true → A
none_has a h = absurd (true≢false (sym h ∙ has_empty a))

-- a node that reports words has no point
pub words_none : (k : Kind) (a : ℕ) → has (call_set k) a ≡ true → point_of k ≡ no_point
words_none plain a h = refl
words_none (event b) a h = none_has a h
words_none (calls again set) a h = refl

-- a kind 3 node may come back in
pub reentrant_own : {k : Kind} {set : ℕ} → k ≡ reentrant set → is_reentrant k ≡ true
reentrant_own e = ap is_reentrant e

-- no other does
pub reentrant_kind : (k : Kind) → is_reentrant k ≡ true → (set : ℕ) × (k ≡ reentrant set)
reentrant_kind plain h = absurd (false≢true h)
reentrant_kind (event a) h = absurd (false≢true h)
reentrant_kind (calls again set) h = (set, ap (λ (b : Bool). calls b set) h)

-- it has no point
pub reentrant_none : (k : Kind) → is_reentrant k ≡ true → point_of k ≡ no_point
reentrant_none k h = call_none (reentrant_kind k h).1

-- a plain node reports no symbol
pub plain_below : {a : ℕ} → KindBelow a plain
plain_below = record { point_below_holds = λ s e. absurd (point_some e refl); words_below = λ s h. none_has s h }

-- an event node its own
pub event_below : {a s : ℕ} → s < a → KindBelow a (event s)
event_below {a} l =
    record { point_below_holds = λ t e. subst (λ (x : ℕ). x < a) (point_same e) l; words_below = λ s h. none_has s h }

-- a call those of its set
pub call_below : {a set : ℕ} {again : Bool} → ((s : ℕ) → has set s ≡ true → s < a) → KindBelow a (calls again set)
call_below h = record { point_below_holds = λ s e. absurd (point_some e refl); words_below = h }

-- ---- moves

-- a node with no point is passed silently
pub enters : {j : Job} (n : ℕ) → point_of (node_at j n).kind ≡ no_point → Silent j (before n) (past n)
enters {j} n s = go (node_at j n).kind refl s
  where
    go : (k : Kind) → (node_at j n).kind ≡ k → point_of k ≡ no_point → Silent j (before n) (past n)
    go plain e s = step (pass_plain e)
    go (event a) e s = absurd (point_some refl s)
    go (calls again set) e s = step (begin_word e)

-- an edge is taken
pub takes_edge : {j : Job} {m n : ℕ} → leads j m n ≡ true → Silent j (past m) (before n)
takes_edge l = step (take_edge l)

-- the word after an exit begins
pub begins_after : {j : Job} {n : ℕ} → (node_at j n).exit ≡ true → Silent j (past n) (ended n)
begins_after e = step (begin_after e)

-- a call that may come back in goes to an entry
pub comes_in : {j : Job} {m n : ℕ} → is_reentrant (node_at j m).kind ≡ true → is_entry (node_at j n) ≡ true → Silent j (past m) (before n)
comes_in {j} {m} h e = come_in (reentrant_kind (node_at j m).kind h).1 e

-- the word after an exit goes to a call that may come back in
pub comes_back : {j : Job} {m n : ℕ} → (node_at j m).exit ≡ true → is_reentrant (node_at j n).kind ≡ true → Silent j (ended m) (before n)
comes_back {j} {n = n} e h = come_back e (reentrant_kind (node_at j n).kind h).1

-- a point is reported
pub reports_point : {j : Job} {n a : ℕ} → point_of (node_at j n).kind ≡ point a → Told j (before n) (shadow n a) (past n)
reports_point {j} {n} {a} s = go (node_at j n).kind refl s
  where
    go : (k : Kind) → (node_at j n).kind ≡ k → point_of k ≡ point a → Told j (before n) (shadow n a) (past n)
    go plain e s = absurd (point_some s refl)
    go (event b) e s = report (e ∙ ap event (point_same s))
    go (calls again set) e s = absurd (point_some s refl)

-- a symbol of the word set is reported
pub reports_word : {j : Job} (n a : ℕ) → has (call_set (node_at j n).kind) a ≡ true → Told j (past n) (word a) (past n)
reports_word {j} n a h = go (node_at j n).kind refl h
  where
    go : (k : Kind) → (node_at j n).kind ≡ k → has (call_set k) a ≡ true → Told j (past n) (word a) (past n)
    go plain e h = none_has a h
    go (event b) e h = none_has a h
    go (calls again set) e h = call_word e h

-- a silent move, whatever the kind of the node
pub data SilentBy (j : Job) : Place → Place → Type 0 where
  -- a node with no point is passed
  by_pass : {n : ℕ} → point_of (node_at j n).kind ≡ no_point → SilentBy j (before n) (past n)
  -- an edge is taken
  by_edge : {m n : ℕ} → leads j m n ≡ true → SilentBy j (past m) (before n)
  -- the word after an exit begins
  by_exit : {n : ℕ} → (node_at j n).exit ≡ true → SilentBy j (past n) (ended n)
  -- a call comes back in
  by_entry : {m n : ℕ} → is_reentrant (node_at j m).kind ≡ true → is_entry (node_at j n) ≡ true → SilentBy j (past m) (before n)
  -- an exit returns
  by_return : {m n : ℕ} → (node_at j m).exit ≡ true → is_reentrant (node_at j n).kind ≡ true → SilentBy j (ended m) (before n)

-- a told move, whatever the kind of the node
pub data ToldBy (j : Job) : Place → Event → Place → Type 0 where
  -- the point of a node
  by_point : {n a : ℕ} → point_of (node_at j n).kind ≡ point a → ToldBy j (before n) (shadow n a) (past n)
  -- a symbol of its word set
  by_words : {n a : ℕ} → has (call_set (node_at j n).kind) a ≡ true → ToldBy j (past n) (word a) (past n)
  -- a symbol of an after word
  by_after : {n a : ℕ} → (node_at j n).exit ≡ true → has (node_at j n).after a ≡ true → ToldBy j (ended n) (word a) (ended n)

-- every move of document 01 is one of these
step_by : {j : Job} {x y : Place} → Step j x y → SilentBy j x y
step_by (pass_plain e) = by_pass (plain_none e)
step_by (begin_word e) = by_pass (call_none e)
step_by (take_edge l) = by_edge l
step_by (begin_after e) = by_exit e

-- and so is every silent move
pub silent_by : {j : Job} {x y : Place} → Silent j x y → SilentBy j x y
silent_by (step s) = step_by s
silent_by (come_in k e) = by_entry (reentrant_own k) e
silent_by (come_back x k) = by_return x (reentrant_own k)

-- and every told move
pub told_by : {j : Job} {x y : Place} {e : Event} → Told j x e y → ToldBy j x e y
told_by (report e) = by_point (point_own e)
told_by (call_word {a = a} e h) = by_words (call_has a e h)
told_by (after_word e h) = by_after e h

-- ---- symbols of a well-formed job

-- the symbol of an event node is below 16
pub event_small : {j : Job} (n : ℕ) {a : ℕ} → WellFormedJob j → point_of (node_at j n).kind ≡ point a → a < 16
event_small n {a} wf e = lt_of_lt_of_le ((wf.kinds n).point_below_holds a e) wf.rule.few_symbols

-- and so are the symbols of a call
pub call_small : {j : Job} (n a : ℕ) → WellFormedJob j → has (call_set (node_at j n).kind) a ≡ true → a < 16
call_small n a wf h = lt_of_lt_of_le ((wf.kinds n).words_below a h) wf.rule.few_symbols
