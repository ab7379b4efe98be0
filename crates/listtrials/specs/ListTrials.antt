-- Calls of listing with the right answer to each, from the bytes of the file to the bytes of the listing: the starred jobs of document 01, then
-- our own.
-- That they are answered so, `AllListed call_trials`, is a theorem of `proofs/`.
-- Assumes nothing.
use Rattle.std.specs.Prelude.{Result, Ok, Err, ◌≡◌, List, [], ◌∷◌, ℕ, ◌≤◌, length}
use Prim.Native.String.{String}
use Rattle.std.proofs.lemmas.List.Edits.{sets}
use Rattle.job.specs.Job.{reentrant}
use Rattle.planning.specs.Trials.{turn, last_seal, write_twice, around_the_ring, returns, nop_lost, call_at_entry, call_at_exit, no_exit, neither_admits, own_word, two_calls, calls_into_call}
use Rattle.jobfile.specs.File.{Answer, write_job}
use Rattle.jobfile.specs.FileTrials.{lines_in, pair_file, pair_with_zeros, small_head, small_rule, small_node, with_node}
use Rattle.buffer.specs.Buffer.{work_size, cleared}
use Rattle.admission.specs.Admission.{work_after}
use Rattle.listoutcome.specs.ListCall.{listing_size, list_answer, listed_of, listing_after}

-- a file, what is answered and the lines that are written
pub record CallTrial : Type 0 where
  pub file : List ℕ
  pub listed : Result ℕ ℕ
  pub text : List String

-- a row of the table
abbrev pub lists : List ℕ → Result ℕ ℕ → List String → CallTrial
lists file listed text = record { file = file; listed = listed; text = text }

-- the answer to a call, the lines from the start of the listing buffer and no other byte of it changed, and the work buffer cleared
pub record ListedSo (t : CallTrial) (a : Answer) (work listing : List ℕ) : Type 0 where
  pub answer : listed_of a ≡ t.listed
  pub written : listing_after a listing ≡ sets listing 0 (lines_in t.text)
  pub left : work_after a work ≡ cleared work

-- so for any work buffer and any listing buffer that are long enough
abbrev pub ListsSo : CallTrial → Type 0
ListsSo t =
    (work listing : List ℕ) → work_size ≤ length work → listing_size ≤ length listing
    → ListedSo t (list_answer t.file (length work) (length listing)) work listing

infixr 5 ◌and◌
-- every call of a table is answered as it should be
pub data AllListed : List CallTrial → Type 0 where
  done : AllListed []
  ◌and◌ : {t : CallTrial} {ts : List CallTrial} → ListsSo t → AllListed ts → AllListed (t ∷ ts)

-- LOOP's file
abbrev pub loop_lines : List String
loop_lines =
    "J     5     2     2     2"
    ∷ "R     0     0     1     3"
    ∷ "R     1     0     1     2"
    ∷ "R     2     0     2     2"
    ∷ "R     3     0     2     4"
    ∷ "R     4     1     4     4"
    ∷ "P     0     1     0     1     0     0"
    ∷ "P     1     1     1     0     0     0"
    ∷ "F     0     1"
    ∷ "F     1     0"
    ∷ []

-- the file of a job whose call comes in again, a node of kind 3
abbrev pub comes_in_lines : List String
comes_in_lines =
    "J     3     2     3     2"
    ∷ "R     0     0     1     0"
    ∷ "R     1     0     1     2"
    ∷ "R     2     1     1     2"
    ∷ "P     0     1     1     1     0     0"
    ∷ "P     1     1     0     0     0     0"
    ∷ "P     2     3     0     0     0     0"
    ∷ "F     0     1"
    ∷ "F     1     2"
    ∷ []

-- an exit that returns to a call to which no edge leads
abbrev pub no_edge_lines : List String
no_edge_lines =
    "J     3     2     2     0"
    ∷ "R     0     0     1     0"
    ∷ "R     1     0     1     2"
    ∷ "R     2     1     1     2"
    ∷ "P     0     1     0     1     1     0"
    ∷ "P     1     3     2     0     0     0"
    ∷ []

-- an exit with an after set whose word is told sealed only after a return
abbrev pub late_word_lines : List String
late_word_lines =
    "J     3     2     3     2"
    ∷ "R     0     0     1     0"
    ∷ "R     1     0     1     2"
    ∷ "R     2     1     1     2"
    ∷ "P     0     0     0     1     1     2"
    ∷ "P     1     3     0     0     0     0"
    ∷ "P     2     1     0     0     0     0"
    ∷ "F     1     2"
    ∷ "F     2     0"
    ∷ []

-- PAIR's listing
abbrev pub pair_listing : List String
pair_listing =
    "W     0     0     1     1     1     0"
    ∷ "W     1     0     2     2     1     1"
    ∷ "W     2     2     2     1     0     1"
    ∷ "T     3     2     2"
    ∷ []

-- the table
unfoldable pub call_trials : List CallTrial
unfolding pair_file pair_with_zeros write_job
call_trials =
    -- PAIR
    lists pair_file (Ok 134) pair_listing
    -- PAIR with zeros before its numbers' digits: the same
    ∷ lists pair_with_zeros (Ok 134) pair_listing
    -- LOOP
    ∷ lists (lines_in loop_lines) (Ok 96)
    ("W     0     0     5     2     1     0" ∷ "W     1     1     6     2     1     0" ∷ "T     2     0     3" ∷ [])
    -- TURN
    ∷ lists (write_job turn) (Ok 134)
    ("W     0     0     3     2     0     1"
    ∷ "W     1     0     3     2     0     1"
    ∷ "W     2     1     3     1     0     1"
    ∷ "T     3     3     1"
    ∷ [])
    -- an exit node seal, with after set 4 and with 0
    ∷ lists (write_job (last_seal 4)) (Ok 58) ("W     0     0     1     2     0     1" ∷ "T     1     1     1" ∷ [])
    ∷ lists (write_job (last_seal 0)) (Ok 58) ("W     0     0     1     1     1     0" ∷ "T     1     0     2" ∷ [])
    -- seal, write, write
    ∷ lists (write_job write_twice) (Ok 134)
    ("W     0     0     1     2     0     1"
    ∷ "W     1     2     2     2     0     1"
    ∷ "W     2     2     4     1     0     1"
    ∷ "T     3     3     1"
    ∷ [])
    -- a set of five digits
    ∷ lists (write_job around_the_ring) (Ok 58) ("W     0     0 65535     2     0     1" ∷ "T     1     1     1" ∷ [])
    -- calls that may come back in
    ∷ lists (lines_in comes_in_lines) (Ok 96)
    ("W     0     1     3     1     0     1" ∷ "W     1     0     5     2     0     1" ∷ "T     2     2     1" ∷ [])
    ∷ lists (lines_in no_edge_lines) (Ok 58) ("W     0     0     7     2     0     1" ∷ "T     1     1     1" ∷ [])
    ∷ lists (lines_in late_word_lines) (Ok 58) ("W     2     0     7     2     0     1" ∷ "T     1     1     1" ∷ [])
    ∷ lists (write_job (returns reentrant)) (Ok 96)
    ("W     2     1     3     1     0     1" ∷ "W     3     0     3     2     0     1" ∷ "T     2     2     1" ∷ [])
    ∷ lists (write_job (nop_lost reentrant)) (Ok 134)
    ("W     0     0     1     1     1     0"
    ∷ "W     1     1     2     2     0     0"
    ∷ "W     3     2     1     1     1     0"
    ∷ "T     3     0     2"
    ∷ [])
    ∷ lists (write_job (call_at_entry reentrant)) (Ok 58) ("W     1     0     7     2     0     1" ∷ "T     1     1     1" ∷ [])
    ∷ lists (write_job (call_at_exit reentrant)) (Ok 58) ("W     0     1     7     2     0     1" ∷ "T     1     1     1" ∷ [])
    ∷ lists (write_job (no_exit reentrant)) (Ok 96)
    ("W     0     0     1     1     1     0" ∷ "W     2     1     0     2     1     0" ∷ "T     2     0     2" ∷ [])
    ∷ lists (write_job (neither_admits reentrant)) (Ok 96)
    ("W     0     0    13     2     0     1" ∷ "W     1     0    14     2     0     1" ∷ "T     2     2     1" ∷ [])
    ∷ lists (write_job (own_word reentrant)) (Ok 58) ("W     0     1     7     2     0     1" ∷ "T     1     1     1" ∷ [])
    ∷ lists (write_job (two_calls reentrant)) (Ok 134)
    ("W     0     0     7     2     0     1"
    ∷ "W     3     1     2     1     0     1"
    ∷ "W     4     1     6     1     0     1"
    ∷ "T     3     3     1"
    ∷ [])
    ∷ lists (write_job (calls_into_call reentrant)) (Ok 58) ("W     1     1     7     2     0     1" ∷ "T     1     1     1" ∷ [])
    -- no event node
    ∷ lists (lines_in (small_head ∷ small_rule ∷ small_node ∷ [])) (Ok 20) ("T     0     0     1" ∷ [])
    -- the empty file, and no entry: nothing is written
    ∷ lists [] (Err 3) []
    ∷ lists (with_node "P     0     0     0     0     0     0") (Err 10) []
    ∷ []
