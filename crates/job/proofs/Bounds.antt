-- Bounds on the walks of a well-formed job: they keep to its nodes, its symbols and the states of its rule.
-- Assumes nothing.
use mathlib.Core.Path.{◌≡◌, refl, sym, ap, ◌∙◌}
use mathlib.Core.Bool.{Bool, true, false, cond, true≢false}
use Prim.Native.Nat.{ℕ, ◌<◌}
use native.Mathlib.Nat.{lt_of_not-le}
use lib.ListN.{length, get_or-eq_default}
use Rattle.laws.specs.Bits.{has}
use Rattle.laws.proofs.Bits.{has_empty}
use Rattle.automaton.specs.Automaton.{next}
use Rattle.job.specs.Job.{is_reentrant, Node, is_entry, Job, node_at, no_node, WellFormedJob}
use Rattle.job.specs.Walk.{Event, symbol_of, Place, before, past, ended, Silent}
use Rattle.job.specs.Walk.{Told}
use Rattle.job.specs.Plan.{Enabling, takes, state_at}
use Rattle.job.proofs.KindLaws.{SilentBy, by_pass, by_edge, by_exit, by_entry, by_return, silent_by, ToldBy, by_point, by_words, by_after, told_by}
use Rattle.job.proofs.Pairs.{Pairs, Pair, Admitted, admitted, Kept, pair_least}

-- the node of a place
abbrev pub node_of : Place → ℕ
node_of (before n) = n
node_of (past n) = n
node_of (ended n) = n

-- a place of the job and two states of the rule
pub record Within (j : Job) (x : Place) (p q : ℕ) : Type 0 where
  pub node : node_of x < length j.nodes
  pub one : p < j.rule.states
  pub other : q < j.rule.states

-- a node that passes a test which no node past the last one passes is one of the job
pub node_by : (j : Job) (n : ℕ) (f : Node → Bool) → f no_node ≡ false → f (node_at j n) ≡ true → n < length j.nodes
node_by j n f none h = lt_of_not-le (λ l. true≢false (sym h ∙ ap f (get_or-eq_default j.nodes no_node l) ∙ none))

-- an entry is a node of the job
pub entry_node : (j : Job) (n q : ℕ) → has (node_at j n).entry q ≡ true → n < length j.nodes
entry_node j n q h = node_by j n (λ m. has m.entry q) (has_empty q) h

-- so is every node with an entry set that is not empty
pub is_entry_node : (j : Job) (n : ℕ) → is_entry (node_at j n) ≡ true → n < length j.nodes
is_entry_node j n h = node_by j n is_entry refl h

-- and every call that may come back in
pub reentrant_node : (j : Job) (n : ℕ) → is_reentrant (node_at j n).kind ≡ true → n < length j.nodes
reentrant_node j n h = node_by j n (λ m. is_reentrant m.kind) refl h

-- and every exit
pub exit_node : (j : Job) (n : ℕ) → (node_at j n).exit ≡ true → n < length j.nodes
exit_node j n h = node_by j n (λ m. m.exit) refl h

-- an admitted start is at a node of the job, in a state of the rule
pub admitted_within : {j : Job} {x : Place} {p q : ℕ} → WellFormedJob j → Admitted j x p q → Within j x p q
admitted_within {j} wf (admitted {n = n} {q = q} h) = record { node = entry_node j n q h; one = wf.entries n q h; other = wf.entries n q h }

-- an event of a walk has a symbol of the rule
pub told_symbol : {j : Job} {x y : Place} {e : Event} → WellFormedJob j → Told j x e y → symbol_of e < j.rule.symbols
told_symbol {j} wf t = go (told_by t)
  where
    go : {x y : Place} {e : Event} → ToldBy j x e y → symbol_of e < j.rule.symbols
    go (by_point {n = n} {a = a} k) = (wf.kinds n).point_below_holds a k
    go (by_words {n = n} {a = a} h) = (wf.kinds n).words_below a h
    go (by_after {n = n} {a = a} x h) = wf.afters n a h

-- a silent move leads to a place of the job
silent_within : {j : Job} {x y : Place} → WellFormedJob j → node_of x < length j.nodes → Silent j x y → node_of y < length j.nodes
silent_within {j} wf l s = go l (silent_by s)
  where
    go : {x y : Place} → node_of x < length j.nodes → SilentBy j x y → node_of y < length j.nodes
    go l (by_pass e) = l
    go l (by_edge {m = m} {n = n} h) = (wf.edges m n h).1
    go l (by_exit h) = l
    go l (by_entry {n = n} h e) = is_entry_node j n e
    go l (by_return {n = n} x h) = reentrant_node j n h

-- so does an event
told_within : {j : Job} {x y : Place} {e : Event} → node_of x < length j.nodes → Told j x e y → node_of y < length j.nodes
told_within {j} l t = go l (told_by t)
  where
    go : {x y : Place} {e : Event} → node_of x < length j.nodes → ToldBy j x e y → node_of y < length j.nodes
    go l (by_point e) = l
    go l (by_words h) = l
    go l (by_after e h) = l

-- a state after an event is one of the rule
pub state_within
    : {j : Job} {x y : Place} {e : Event} → WellFormedJob j → (w : Enabling) (q : ℕ) → q < j.rule.states → Told j x e y
    → state_at j.rule w q e < j.rule.states
state_within {j} {e = e} wf w q l t = go (takes w e)
  where
    go : (b : Bool) → cond b (next j.rule q (symbol_of e)) q < j.rule.states
    go true = wf.rule.next_below q (symbol_of e) l (told_symbol wf t)
    go false = l

-- moves and events keep to the places of the job and the states of the rule
pub within_kept
    : {j : Job} {v w : Enabling} {S : Pairs} → WellFormedJob j → ((x : Place) (p q : ℕ) → S x p q → Within j x p q)
    → Kept j v w S (Within j)
within_kept {j} {v} {w} wf s =
    record {
      starts = s;
      moved = λ x y p q r m. record { node = silent_within wf r.node m; one = r.one; other = r.other };
      told = λ x y e p q r t.
          record { node = told_within r.node t; one = state_within wf v p r.one t; other = state_within wf w q r.other t };
    }

-- a reached pair is of the job
pub pair_within : {j : Job} {v w : Enabling} {x : Place} {p q : ℕ} → WellFormedJob j → Pair j v w (Admitted j) x p q → Within j x p q
pair_within wf r = pair_least (within_kept wf (λ x p q s. admitted_within wf s)) r
