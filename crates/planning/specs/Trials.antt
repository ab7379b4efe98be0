-- Trial jobs with the right answer to each: those of document 01 ("One listing in full", "Trial jobs"), then our own, the last of them
-- with calls that may come back in (document 02, "Procedures that call themselves").
-- That they all pass, `AllPass trials`, is a theorem of `proofs/`.
-- Assumes nothing.
use Rattle.std.specs.Prelude.{◌≡◌, Bool, true, false, List, [], ◌∷◌, ℕ}
use Rattle.automaton.specs.Automaton.{Automaton, automaton_of}
use Rattle.job.specs.Job.{Kind, plain, event, call, reentrant, Node, Edge, edge, Job, WellFormedJob}
use Rattle.job.specs.Plan.{enables, Faithful, Different}
use Rattle.planning.specs.Listing.{ShadowLine, TotalLine, plan_of, listing_of}

-- ---- how a trial is written

-- as a P line: kind with value, entry set, exit, after set
abbrev pub node : Kind → ℕ → Bool → ℕ → Node
node kind entry exit after = record { kind = kind; entry = entry; exit = exit; after = after }

-- a rule, its nodes and its edges
abbrev pub job_of : Automaton → List Node → List Edge → Job
job_of rule nodes edges = record { rule = rule; nodes = nodes; edges = edges }

-- as a W line: node, symbol, before set, class count, nop mark, watched
abbrev pub line : ℕ → ℕ → ℕ → ℕ → ℕ → ℕ → ShadowLine
line n symbol before classes nop enabled =
    record { node = n; symbol = symbol; before = before; classes = classes; nop = nop; enabled = enabled }

-- as a T line: event nodes, watched, passes
abbrev pub total : ℕ → ℕ → ℕ → TotalLine
total shadows enabled passes = record { shadows = shadows; enabled = enabled; passes = passes }

-- what is asked of a job, with the right answer: its listing; its plan and the passes; of a plan, whether it is faithful (true) or
-- different
pub data Asked : Type 0 where
  lists : List ShadowLine → TotalLine → Asked
  plans : List ℕ → ℕ → Asked
  checks : List ℕ → Bool → Asked

-- a job and what is asked of it
pub record Trial : Type 0 where
  pub job : Job
  pub asked : Asked

-- a row of the table
abbrev pub trial : Job → Asked → Trial
trial job asked = record { job = job; asked = asked }

-- the right answer is that of the definitions: an equation, or on a plan what all walks say
abbrev pub Answers : Job → Asked → Type 0
Answers j (lists shadows t) = listing_of j ≡ record { shadows = shadows; total = t }
Answers j (plans plan passes) = plan_of j ≡ record { plan = plan; passes = passes }
Answers j (checks plan true) = Faithful j (enables plan)
Answers j (checks plan false) = Different j (enables plan)

-- a trial passes: its job is well formed, and the answer is right
pub record TrialPasses (t : Trial) : Type 0 where
  pub well_formed_holds : WellFormedJob t.job
  pub answer : Answers t.job t.asked

infixr 5 ◌and◌
-- every trial of a table passes
pub data AllPass : List Trial → Type 0 where
  done : AllPass []
  ◌and◌ : {t : Trial} {ts : List Trial} → TrialPasses t → AllPass ts → AllPass (t ∷ ts)

-- ---- the jobs of document 01

-- PAIR's rule: symbols seal, reopen, write; state 0 open, 1 sealed, 2 (final) written while sealed
abbrev pub pair_rule : Automaton
pair_rule = automaton_of ((1 ∷ 0 ∷ 0 ∷ []) ∷ (1 ∷ 0 ∷ 2 ∷ []) ∷ (1 ∷ 0 ∷ 2 ∷ []) ∷ []) 3 3 4

-- LOOP's rule: state 4 is final
abbrev pub loop_rule : Automaton
loop_rule = automaton_of ((1 ∷ 3 ∷ []) ∷ (1 ∷ 2 ∷ []) ∷ (2 ∷ 2 ∷ []) ∷ (2 ∷ 4 ∷ []) ∷ (4 ∷ 4 ∷ []) ∷ []) 5 2 16

-- TURN's rule: state 2 is final
abbrev pub turn_rule : Automaton
turn_rule = automaton_of ((1 ∷ 0 ∷ []) ∷ (0 ∷ 2 ∷ []) ∷ (0 ∷ 2 ∷ []) ∷ []) 3 2 4

-- PAIR: seal, seal, write in a row
abbrev pub pair : Job
pair =
    job_of pair_rule
    (node (event 0) 1 false 0 ∷ node (event 0) 0 false 0 ∷ node (event 2) 0 true 0 ∷ [])
    (edge 0 1 ∷ edge 1 2 ∷ [])

-- LOOP: two events in a ring
abbrev pub loop : Job
loop = job_of loop_rule (node (event 0) 1 false 0 ∷ node (event 1) 0 false 0 ∷ []) (edge 0 1 ∷ edge 1 0 ∷ [])

-- TURN: three events in a row
abbrev pub turn : Job
turn =
    job_of turn_rule
    (node (event 0) 3 false 0 ∷ node (event 0) 0 false 0 ∷ node (event 1) 0 false 0 ∷ [])
    (edge 0 1 ∷ edge 1 2 ∷ [])

-- one exit node seal, with an after set
abbrev pub last_seal : ℕ → Job
last_seal after = job_of pair_rule (node (event 0) 1 true after ∷ []) []

-- seal, write, write in a row
abbrev pub write_twice : Job
write_twice =
    job_of pair_rule
    (node (event 0) 1 false 0 ∷ node (event 2) 0 false 0 ∷ node (event 2) 0 false 0 ∷ [])
    (edge 0 1 ∷ edge 1 2 ∷ [])

-- ---- jobs of our own, most with PAIR's rule: a write while sealed alarms, and seal and reopen forget what was before

-- LOOP's event 0, then a call with words of event 1. Two of these lead from state 1 to 2 and 2; from 0, with the point unwatched,
-- to 3 and 4, an alarm at the second. With words of at most one event the point would go
abbrev pub long_word : Job
long_word = job_of loop_rule (node (event 0) 1 false 0 ∷ node (call 2) 0 false 0 ∷ []) (edge 0 1 ∷ [])

-- seal, a call that may reopen, write: by the empty word the write is sealed and alarms.
-- A call that had to report would always reopen, and both points would go
abbrev pub empty_word : Job
empty_word =
    job_of pair_rule
    (node (event 0) 1 false 0 ∷ node (call 2) 0 false 0 ∷ node (event 2) 0 false 0 ∷ [])
    (edge 0 1 ∷ edge 1 2 ∷ [])

-- a seal at an exit with after words of write, and an edge to a reopen: only an after word shows the seal, and only the edge leads to
-- the reopen, where it is sealed and not yet written: before set 2, which an edge after an after word would make 6
abbrev pub after_shows : Job
after_shows = job_of pair_rule (node (event 0) 1 true 4 ∷ node (event 1) 0 false 0 ∷ []) (edge 0 1 ∷ [])

-- a seal at an exit with after words of reopen, and an edge to a write: only by the edge there is an alarm, and else both points
-- would go
abbrev pub edge_shows : Job
edge_shows = job_of pair_rule (node (event 0) 1 true 2 ∷ node (event 2) 0 false 0 ∷ []) (edge 0 1 ∷ [])

-- a plain exit with after words of seal, and an edge to a write: no edge follows an after word, so the write is never sealed
abbrev pub word_last : Job
word_last = job_of pair_rule (node plain 1 true 1 ∷ node (event 2) 0 false 0 ∷ []) (edge 0 1 ∷ [])

-- a rule that alarms at 0 and then 1: from state 0 to 1 to 2; a 1 at once leads to 3 for good
abbrev pub word_rule : Automaton
word_rule = automaton_of ((1 ∷ 3 ∷ []) ∷ (1 ∷ 2 ∷ []) ∷ (3 ∷ 3 ∷ []) ∷ (3 ∷ 3 ∷ []) ∷ []) 4 2 4

-- the point reports 1, and after it is a call of 0 that is an exit with after words of 1. With the point unwatched 0, 1 alarms: it
-- takes both words, the call's first
abbrev pub word_then_after : Job
word_then_after = job_of word_rule (node (event 1) 1 false 0 ∷ node (call 1) 0 true 2 ∷ []) (edge 0 1 ∷ [])

-- the same point, at an exit with after words of both symbols: 0, 1 is one of them, of two events and over both
abbrev pub after_of_two : Job
after_of_two = job_of word_rule (node (event 1) 1 true 3 ∷ []) []

-- the same point, then a call with words of both symbols
abbrev pub call_of_two : Job
call_of_two = job_of word_rule (node (event 1) 1 false 0 ∷ node (call 3) 0 false 0 ∷ []) (edge 0 1 ∷ [])

-- seal, then a reopen at an exit with after words of write: they begin after the reopen, never sealed, so that both points go
abbrev pub reopen_last : Job
reopen_last = job_of pair_rule (node (event 0) 1 false 0 ∷ node (event 1) 0 true 4 ∷ []) (edge 0 1 ∷ [])

-- a seal where it is sealed already, then words of write, after an exit and in a call: their events are taken under every plan, so
-- that both monitors alarm at them and the seal goes
abbrev pub words_taken : Job
words_taken = job_of pair_rule (node (event 0) 2 true 4 ∷ node (call 4) 0 false 0 ∷ []) (edge 0 1 ∷ [])

-- write, seal, a call with nothing to report: it does not come back to the write, which is never sealed
abbrev pub no_way_back : Job
no_way_back =
    job_of pair_rule
    (node (event 2) 1 false 0 ∷ node (event 0) 0 false 0 ∷ node (call 0) 0 false 0 ∷ [])
    (edge 0 1 ∷ edge 1 2 ∷ [])

-- a write with an edge to itself, entered sealed: the before set has the admitted state 1 and state 2, carried along the edge
abbrev pub entered_again : Job
entered_again = job_of pair_rule (node (event 2) 2 false 0 ∷ []) (edge 0 0 ∷ [])

-- seal, then reopen or write: the second edge alone shows the seal, and the first alone leads to the reopen
abbrev pub either_edge : Job
either_edge =
    job_of pair_rule
    (node (event 0) 1 false 0 ∷ node (event 1) 0 false 0 ∷ node (event 2) 0 false 0 ∷ [])
    (edge 0 1 ∷ edge 0 2 ∷ [])

-- a write entered sealed, and a seal with an edge to it that no walk reaches: before set 0, nop mark 1, and it goes in pass one, so
-- that there are two. Its classes go by the write that follows: state 0, and the two that alarm
abbrev pub not_reached : Job
not_reached = job_of pair_rule (node (event 2) 2 false 0 ∷ node (event 0) 0 false 0 ∷ []) (edge 1 0 ∷ [])

-- a plain node and a call: no point, so no W line and one pass
abbrev pub no_point : Job
no_point = job_of pair_rule (node plain 1 false 0 ∷ node (call 5) 0 false 0 ∷ []) (edge 0 1 ∷ [])

-- a write entered in state 2: the state stays, but to move to a final state alarms, from a final one too
abbrev pub final_again : Job
final_again = job_of pair_rule (node (event 2) 4 false 0 ∷ []) []

-- reopen, write, both of them entered sealed: a write entered at once alarms, one after the reopen does not. With the reopen unwatched
-- no alarm is missed, and one is added
abbrev pub reopened : Job
reopened = job_of pair_rule (node (event 1) 2 false 0 ∷ node (event 2) 2 false 0 ∷ []) (edge 0 1 ∷ [])

-- a write entered open or sealed: every admitted state is a start, and from the second it alarms
abbrev pub open_or_sealed : Job
open_or_sealed = job_of pair_rule (node (event 2) 3 false 0 ∷ []) []

-- a rule of sixteen states in a ring, with the final states of a set
abbrev pub ring_rule : ℕ → Automaton
ring_rule finals =
    automaton_of
    ((1 ∷ []) ∷ (2 ∷ []) ∷ (3 ∷ []) ∷ (4 ∷ []) ∷ (5 ∷ []) ∷ (6 ∷ []) ∷ (7 ∷ []) ∷ (8 ∷ [])
    ∷ (9 ∷ []) ∷ (10 ∷ []) ∷ (11 ∷ []) ∷ (12 ∷ []) ∷ (13 ∷ []) ∷ (14 ∷ []) ∷ (15 ∷ []) ∷ (0 ∷ []) ∷ [])
    16 1 finals

-- an event in a loop, entered in state 15, with the odd states final: all sixteen states arrive, and the classes are the even states
-- and the odd, no two neighbours in one
abbrev pub around_the_ring : Job
around_the_ring = job_of (ring_rule 43690) (node (event 0) 32768 false 0 ∷ []) (edge 0 0 ∷ [])

-- an event entered in state 15, the highest, and then in state 0, the one final state
abbrev pub highest_state : Job
highest_state = job_of (ring_rule 1) (node (event 0) 32768 false 0 ∷ []) []

-- ---- jobs with a call of either kind: what a call that may come back in changes

-- PAIR's rule without reopen: symbols seal, write
abbrev pub seal_rule : Automaton
seal_rule = automaton_of ((1 ∷ 0 ∷ []) ∷ (1 ∷ 2 ∷ []) ∷ (1 ∷ 2 ∷ []) ∷ []) 3 2 4

-- write, seal, a call with nothing to report. Where it comes in again, the write is sealed and alarms, though the entry set has the open
-- state alone; only so the seal must stay watched
abbrev pub comes_in : (ℕ → Kind) → Job
comes_in kind =
    job_of seal_rule
    (node (event 1) 1 false 0 ∷ node (event 0) 0 false 0 ∷ node (kind 0) 0 false 0 ∷ [])
    (edge 0 1 ∷ edge 1 2 ∷ [])

-- a plain node, then a call and behind it a write, or a seal at an exit. Where the exit returns, the write behind the call is sealed: a
-- point after a return, of a call that need not have been made
abbrev pub returns : (ℕ → Kind) → Job
returns kind =
    job_of seal_rule
    (node plain 1 false 0 ∷ node (kind 0) 0 false 0 ∷ node (event 1) 0 false 0 ∷ node (event 0) 0 true 0 ∷ [])
    (edge 0 1 ∷ edge 0 3 ∷ edge 1 2 ∷ [])

-- seal, reopen at an exit; a call and behind it a write, to which no edge leads. By a return the write follows the reopen, which tells
-- sealed from open: its nop mark is lost, and it goes nevertheless, since the seal goes first
abbrev pub nop_lost : (ℕ → Kind) → Job
nop_lost kind =
    job_of pair_rule
    (node (event 0) 1 false 0 ∷ node (event 1) 0 true 0 ∷ node (kind 0) 0 false 0 ∷ node (event 2) 0 false 0 ∷ [])
    (edge 0 1 ∷ edge 2 3 ∷ [])

-- an entry that is a call with words of write, then a seal at an exit: by a return the call's word follows again, sealed
abbrev pub call_at_entry : (ℕ → Kind) → Job
call_at_entry kind = job_of seal_rule (node (kind 2) 1 false 0 ∷ node (event 0) 0 true 0 ∷ []) (edge 0 1 ∷ [])

-- a write, then a call with nothing to report at an exit with after words of seal: the after word comes first, then the return to the
-- call itself, then the write again, sealed
abbrev pub call_at_exit : (ℕ → Kind) → Job
call_at_exit kind = job_of seal_rule (node (event 1) 1 false 0 ∷ node (kind 0) 0 true 1 ∷ []) (edge 0 1 ∷ [])

-- a seal at an exit, and a call with words of write to which no edge leads: a return reaches it, by the empty after word
abbrev pub no_edge : (ℕ → Kind) → Job
no_edge kind = job_of seal_rule (node (event 0) 1 true 0 ∷ node (kind 2) 0 false 0 ∷ []) []

-- a seal that is no exit; a call and behind it a write at an exit, to which no edge leads: no exit is reached, and so nothing returns to
-- the call. What follows the write counts for its classes, reached or not
abbrev pub no_exit : (ℕ → Kind) → Job
no_exit kind =
    job_of seal_rule
    (node (event 0) 1 false 0 ∷ node (kind 2) 0 false 0 ∷ node (event 1) 0 true 0 ∷ [])
    (edge 1 2 ∷ [])

-- a rule of one symbol that alarms at the second event: 0 and 1 lead to 2, which leads to 3, the one final state
abbrev pub second_rule : Automaton
second_rule = automaton_of ((2 ∷ []) ∷ (2 ∷ []) ∷ (3 ∷ []) ∷ (3 ∷ []) ∷ []) 4 1 8

-- two entries, one admitted in state 0 and one in 1, and a call behind both: it comes in again in state 2, which neither entry set has
abbrev pub neither_admits : (ℕ → Kind) → Job
neither_admits kind =
    job_of second_rule
    (node (event 0) 1 false 0 ∷ node (event 0) 2 false 0 ∷ node (kind 0) 0 false 0 ∷ [])
    (edge 0 2 ∷ edge 1 2 ∷ [])

-- a plain exit with after words of write; a call and behind it a seal that leads back to the exit: at first the after word is told open,
-- and only after a return sealed
abbrev pub late_word : (ℕ → Kind) → Job
late_word kind =
    job_of seal_rule
    (node plain 1 true 2 ∷ node (kind 0) 0 false 0 ∷ node (event 0) 0 false 0 ∷ [])
    (edge 1 2 ∷ edge 2 0 ∷ [])

-- a write, then a call with words of seal: its word comes before it comes in again
abbrev pub own_word : (ℕ → Kind) → Job
own_word kind = job_of seal_rule (node (event 1) 1 false 0 ∷ node (kind 1) 0 false 0 ∷ []) (edge 0 1 ∷ [])

-- a seal at an exit that has an edge too; two calls, one with words of write and one with a write behind it, and a write that is an entry in
-- state 2: by returns to both calls, and by coming in again there, every write is sealed
abbrev pub two_calls : (ℕ → Kind) → Job
two_calls kind =
    job_of seal_rule
    (node (event 0) 1 true 0 ∷ node (kind 2) 0 false 0 ∷ node (kind 0) 0 false 0 ∷ node (event 1) 0 false 0 ∷ node (event 1) 4 false 0
    ∷ node plain 0 false 0 ∷ [])
    (edge 0 5 ∷ edge 2 3 ∷ [])

-- an entry that is a call with words of seal, a write, and a call behind it that comes in again there, at the first call, whose word goes
-- before the write again
abbrev pub calls_into_call : (ℕ → Kind) → Job
calls_into_call kind =
    job_of seal_rule
    (node (kind 1) 1 false 0 ∷ node (event 1) 0 false 0 ∷ node (kind 0) 0 false 0 ∷ [])
    (edge 0 1 ∷ edge 1 2 ∷ [])

-- all trial jobs: those that document 01 marks with a star, then our own
abbrev pub trials : List Trial
trials =
    -- PAIR: either seal may go, not both
    trial pair (lists (line 0 0 1 1 1 0 ∷ line 1 0 2 2 1 1 ∷ line 2 2 2 1 0 1 ∷ []) (total 3 2 2))
    ∷ trial pair (checks (0 ∷ 1 ∷ 1 ∷ []) true)
    ∷ trial pair (checks (1 ∷ 0 ∷ 1 ∷ []) true)
    ∷ trial pair (checks (0 ∷ 0 ∷ 1 ∷ []) false)
    -- LOOP
    ∷ trial loop (lists (line 0 0 5 2 1 0 ∷ line 1 1 6 2 1 0 ∷ []) (total 2 0 3))
    ∷ trial loop (checks (0 ∷ 1 ∷ []) false)
    -- TURN
    ∷ trial turn (plans (1 ∷ 1 ∷ 1 ∷ []) 1)
    ∷ trial turn (checks (0 ∷ 0 ∷ 1 ∷ []) true)
    ∷ trial turn (checks (0 ∷ 1 ∷ 1 ∷ []) false)
    -- PAIR's rule, one exit node seal: after set 4 gives plan 1, after set 0 gives 0
    ∷ trial (last_seal 4) (plans (1 ∷ []) 1)
    ∷ trial (last_seal 0) (plans (0 ∷ []) 2)
    -- PAIR's rule, seal, write, write: the second write stays watched
    ∷ trial write_twice (plans (1 ∷ 1 ∷ 1 ∷ []) 1)
    -- words of calls and exits, and edges
    ∷ trial long_word (lists (line 0 0 1 3 0 1 ∷ []) (total 1 1 1))
    ∷ trial empty_word (lists (line 0 0 1 2 0 1 ∷ line 2 2 3 1 0 1 ∷ []) (total 2 2 1))
    ∷ trial after_shows (lists (line 0 0 1 2 0 1 ∷ line 1 1 2 1 1 0 ∷ []) (total 2 1 2))
    ∷ trial edge_shows (lists (line 0 0 1 2 0 1 ∷ line 1 2 2 1 0 1 ∷ []) (total 2 2 1))
    ∷ trial word_last (lists (line 1 2 1 1 1 0 ∷ []) (total 1 0 2))
    ∷ trial word_then_after (lists (line 0 1 1 3 0 1 ∷ []) (total 1 1 1))
    ∷ trial after_of_two (lists (line 0 1 1 3 0 1 ∷ []) (total 1 1 1))
    ∷ trial call_of_two (lists (line 0 1 1 3 0 1 ∷ []) (total 1 1 1))
    ∷ trial reopen_last (lists (line 0 0 1 1 1 0 ∷ line 1 1 2 2 0 0 ∷ []) (total 2 0 2))
    ∷ trial words_taken (lists (line 0 0 2 2 1 0 ∷ []) (total 1 0 2))
    ∷ trial no_way_back (lists (line 0 2 1 1 1 0 ∷ line 1 0 1 1 1 0 ∷ []) (total 2 0 2))
    -- entries and points
    ∷ trial entered_again (lists (line 0 2 6 2 0 1 ∷ []) (total 1 1 1))
    ∷ trial either_edge (lists (line 0 0 1 2 0 1 ∷ line 1 1 2 1 1 0 ∷ line 2 2 2 1 0 1 ∷ []) (total 3 2 2))
    ∷ trial not_reached (lists (line 0 2 2 1 0 1 ∷ line 1 0 0 2 1 0 ∷ []) (total 2 1 2))
    ∷ trial no_point (lists [] (total 0 0 1))
    ∷ trial final_again (lists (line 0 2 4 1 0 1 ∷ []) (total 1 1 1))
    ∷ trial reopened (lists (line 0 1 2 2 0 1 ∷ line 1 2 3 1 0 1 ∷ []) (total 2 2 1))
    ∷ trial open_or_sealed (lists (line 0 2 3 1 0 1 ∷ []) (total 1 1 1))
    -- sixteen states
    ∷ trial around_the_ring (lists (line 0 0 65535 2 0 1 ∷ []) (total 1 1 1))
    ∷ trial highest_state (lists (line 0 0 32768 1 0 1 ∷ []) (total 1 1 1))
    -- calls that may come back in, each beside the call of kind 2 that does not
    ∷ trial (comes_in reentrant) (lists (line 0 1 3 1 0 1 ∷ line 1 0 5 2 0 1 ∷ []) (total 2 2 1))
    ∷ trial (comes_in call) (lists (line 0 1 1 1 1 0 ∷ line 1 0 1 1 1 0 ∷ []) (total 2 0 2))
    ∷ trial (returns reentrant) (lists (line 2 1 3 1 0 1 ∷ line 3 0 3 2 0 1 ∷ []) (total 2 2 1))
    ∷ trial (returns call) (lists (line 2 1 1 1 1 0 ∷ line 3 0 1 1 1 0 ∷ []) (total 2 0 2))
    ∷ trial (nop_lost reentrant) (lists (line 0 0 1 1 1 0 ∷ line 1 1 2 2 0 0 ∷ line 3 2 1 1 1 0 ∷ []) (total 3 0 2))
    ∷ trial (nop_lost call) (lists (line 0 0 1 1 1 0 ∷ line 1 1 2 1 1 0 ∷ line 3 2 0 1 1 0 ∷ []) (total 3 0 2))
    ∷ trial (nop_lost reentrant) (checks (1 ∷ 0 ∷ 0 ∷ 1 ∷ []) false)
    ∷ trial (call_at_entry reentrant) (lists (line 1 0 7 2 0 1 ∷ []) (total 1 1 1))
    ∷ trial (call_at_entry call) (lists (line 1 0 1 1 1 0 ∷ []) (total 1 0 2))
    ∷ trial (call_at_exit reentrant) (lists (line 0 1 7 2 0 1 ∷ []) (total 1 1 1))
    ∷ trial (call_at_exit call) (lists (line 0 1 1 1 1 0 ∷ []) (total 1 0 2))
    ∷ trial (no_edge reentrant) (lists (line 0 0 7 2 0 1 ∷ []) (total 1 1 1))
    ∷ trial (no_edge call) (lists (line 0 0 1 1 1 0 ∷ []) (total 1 0 2))
    ∷ trial (no_exit reentrant) (lists (line 0 0 1 1 1 0 ∷ line 2 1 0 2 1 0 ∷ []) (total 2 0 2))
    ∷ trial (no_exit call) (lists (line 0 0 1 1 1 0 ∷ line 2 1 0 1 1 0 ∷ []) (total 2 0 2))
    ∷ trial (neither_admits reentrant) (lists (line 0 0 13 2 0 1 ∷ line 1 0 14 2 0 1 ∷ []) (total 2 2 1))
    ∷ trial (neither_admits call) (lists (line 0 0 1 1 1 0 ∷ line 1 0 2 1 1 0 ∷ []) (total 2 0 2))
    ∷ trial (late_word reentrant) (lists (line 2 0 7 2 0 1 ∷ []) (total 1 1 1))
    ∷ trial (late_word call) (lists (line 2 0 0 2 1 0 ∷ []) (total 1 0 2))
    ∷ trial (own_word reentrant) (lists (line 0 1 7 2 0 1 ∷ []) (total 1 1 1))
    ∷ trial (own_word call) (lists (line 0 1 1 1 1 0 ∷ []) (total 1 0 2))
    ∷ trial (two_calls reentrant) (lists (line 0 0 7 2 0 1 ∷ line 3 1 2 1 0 1 ∷ line 4 1 6 1 0 1 ∷ []) (total 3 3 1))
    ∷ trial (two_calls call) (lists (line 0 0 1 1 1 0 ∷ line 3 1 0 1 1 0 ∷ line 4 1 4 1 0 1 ∷ []) (total 3 1 2))
    ∷ trial (calls_into_call reentrant) (lists (line 1 1 7 2 0 1 ∷ []) (total 1 1 1))
    ∷ trial (calls_into_call call) (lists (line 1 1 3 1 0 1 ∷ []) (total 1 1 1))
    -- plans without the seal that stays only because the procedure comes in again, and without the write
    ∷ trial (comes_in reentrant) (checks (1 ∷ 0 ∷ 0 ∷ []) false)
    ∷ trial (comes_in call) (checks (1 ∷ 0 ∷ 0 ∷ []) true)
    ∷ trial (comes_in reentrant) (checks (0 ∷ 1 ∷ 0 ∷ []) false)
    ∷ []
