-- Files with the right answer to each: PAIR of document 01, its trials of refusals, and our own.
-- That they are read so, `AllRead file_trials`, is a theorem of `proofs/`.
-- Assumes nothing.
use Rattle.std.specs.Prelude.{◌≡◌, false, List, [], ◌∷◌, ◌++◌, ℕ, replicate}
use Prim.Native.String.{String}
use Rattle.automaton.specs.Automaton.{automaton_of}
use Rattle.job.specs.Job.{Kind, call, reentrant, Job}
use Rattle.planning.specs.Trials.{node, job_of, pair}
use Rattle.lines.specs.FieldTrials.{bytes_in}
use Rattle.jobfile.specs.File.{Answer, accepted, turned, read_job}

-- ---- how a file is written here

-- texts, each ended by byte 10
unfoldable pub lines_in : List String → List ℕ
unfolding bytes_in
lines_in [] = []
lines_in (t ∷ ts) = bytes_in t ++ (10 ∷ lines_in ts)

-- a file and its answer
pub record FileTrial : Type 0 where
  pub file : List ℕ
  pub answer : Answer

-- a row of the table
abbrev pub reads : List ℕ → Answer → FileTrial
reads file answer = record { file = file; answer = answer }

infixr 5 ◌and◌
-- every file of a table is read as it should be
pub data AllRead : List FileTrial → Type 0 where
  done : AllRead []
  ◌and◌ : {t : FileTrial} {ts : List FileTrial} → read_job t.file ≡ t.answer → AllRead ts → AllRead (t ∷ ts)

-- ---- PAIR, the trial job `pair`

-- its file, without the last line
abbrev pub pair_lines : List String
pair_lines =
    "J     3     3     3     2"
    ∷ "R     0     0     1     0     0"
    ∷ "R     1     0     1     0     2"
    ∷ "R     2     1     1     0     2"
    ∷ "P     0     1     0     1     0     0"
    ∷ "P     1     1     0     0     0     0"
    ∷ "P     2     1     2     0     1     0"
    ∷ "F     0     1"
    ∷ []

-- its file
unfoldable pub pair_file : List ℕ
unfolding lines_in
pair_file = lines_in pair_lines ++ lines_in ("F     1     2" ∷ [])

-- its file as a spreadsheet writes it, zeros in place of the spaces
unfoldable pub pair_with_zeros : List ℕ
unfolding lines_in
pair_with_zeros =
    lines_in
    ("J000003000003000003000002"
    ∷ "R000000000000000001000000000000"
    ∷ "R000001000000000001000000000002"
    ∷ "R000002000001000001000000000002"
    ∷ "P000000000001000000000001000000000000"
    ∷ "P000001000001000000000000000000000000"
    ∷ "P000002000001000002000000000001000000"
    ∷ "F000000000001"
    ∷ "F000001000002"
    ∷ [])

-- zeros here and there
unfoldable pub pair_with_some_zeros : List ℕ
unfolding lines_in
pair_with_some_zeros =
    lines_in
    ("J     3   003000003    02"
    ∷ "R     0    00     1 00000000000"
    ∷ "R  0001     0000001     0    02"
    ∷ "R     2     1     1     0     2"
    ∷ "P    00  0001000000     1     0 00000"
    ∷ "P000001     1     0  0000     0     0"
    ∷ "P     2000001     2     0     1000000"
    ∷ "F     0  0001"
    ∷ "F 00001     2"
    ∷ [])

-- ---- small files

-- a job of one state, one symbol and one node: its J line
abbrev pub small_head : String
small_head = "J     1     1     1     0"

-- its R line
abbrev pub small_rule : String
small_rule = "R     0     0     0"

-- its P line
abbrev pub small_node : String
small_node = "P     0     0     0     1     0     0"

-- its file with another J line
abbrev pub with_head : String → List ℕ
with_head text = lines_in (text ∷ small_rule ∷ small_node ∷ [])

-- its file with another R line
abbrev pub with_rule : String → List ℕ
with_rule text = lines_in (small_head ∷ text ∷ small_node ∷ [])

-- its file with another P line
abbrev pub with_node : String → List ℕ
with_node text = lines_in (small_head ∷ small_rule ∷ text ∷ [])

-- its job with another kind
abbrev pub one_node : Kind → Job
one_node kind = job_of (automaton_of ((0 ∷ []) ∷ []) 1 1 0) (node kind 1 false 0 ∷ []) []

-- the file of a job of two nodes with these edges
abbrev pub with_edges : String → String → List ℕ
with_edges first second =
    lines_in
    ("J     1     1     2     2" ∷ small_rule ∷ small_node ∷ "P     1     0     0     0     0     0" ∷ first ∷ second ∷ [])

-- ---- the table

-- files by their answers, in the order of the numbers
unfoldable pub file_trials : List FileTrial
unfolding pair_file pair_with_zeros pair_with_some_zeros
file_trials =
    reads pair_file (accepted pair)
    -- the same job, with zeros before the numbers' digits
    ∷ reads pair_with_zeros (accepted pair)
    ∷ reads pair_with_some_zeros (accepted pair)
    -- a call of either kind, with a set and with none
    ∷ reads (with_node "P     0     2     1     1     0     0") (accepted (one_node (call 1)))
    ∷ reads (with_node "P     0     3     1     1     0     0") (accepted (one_node (reentrant 1)))
    ∷ reads (with_node "P     0     3     0     1     0     0") (accepted (one_node (reentrant 0)))
    -- 1: too long, though it would be 4 too
    ∷ reads (replicate 49915 32) (turned 1)
    -- 3: nothing at all; nothing where an F line is due
    ∷ reads [] (turned 3)
    ∷ reads (lines_in pair_lines) (turned 3)
    -- with zeros, nothing where an R line is due
    ∷ reads (lines_in ("J000001000001000001000000" ∷ [])) (turned 3)
    -- 4: a line cut within, and one without its end byte
    ∷ reads (bytes_in "J     3     3") (turned 4)
    ∷ reads (bytes_in "J000003000003") (turned 4)
    ∷ reads (lines_in pair_lines ++ bytes_in "F     1     2") (turned 4)
    -- 4: another letter; no digit; a space at the end, or within; a sign; a tab; a carriage return
    ∷ reads (with_head "j     1     1     1     0") (turned 4)
    ∷ reads (with_head "J           1     1     0") (turned 4)
    ∷ reads (with_head "J    1      1     1     0") (turned 4)
    ∷ reads (with_head "J   1 1     1     1     0") (turned 4)
    ∷ reads (with_head "J    +1     1     1     0") (turned 4)
    ∷ reads (with_head "J\t    1     1     1     0") (turned 4)
    ∷ reads (with_head "J     1     1     1     0\r") (turned 4)
    -- 4: a space after a zero: before the number, between zeros, at the end; a sign after zeros; also in a number that would be 5
    ∷ reads (with_head "J0    1     1     1     0") (turned 4)
    ∷ reads (with_head "J   0 0     1     1     0") (turned 4)
    ∷ reads (with_head "J00001      1     1     0") (turned 4)
    ∷ reads (with_head "J000+01     1     1     0") (turned 4)
    ∷ reads (with_head "J00 017     1     1     0") (turned 4)
    -- 5: S of 17, of 0, of 65,537, also with zeros; A of 0 and of 17; E of 2,049; N of 0 and of 513
    ∷ reads (with_head "J    17     1     1     0") (turned 5)
    ∷ reads (with_head "J     0     1     1     0") (turned 5)
    ∷ reads (with_head "J 65537     1     1     0") (turned 5)
    ∷ reads (with_head "J000017     1     1     0") (turned 5)
    ∷ reads (with_head "J000000     1     1     0") (turned 5)
    ∷ reads (with_head "J065537     1     1     0") (turned 5)
    ∷ reads (with_head "J     1     0     1     0") (turned 5)
    ∷ reads (with_head "J     1    17     1     0") (turned 5)
    ∷ reads (with_head "J     1     1     1  2049") (turned 5)
    ∷ reads (with_head "J     1     1     0     0") (turned 5)
    ∷ reads (with_head "J     1     1   513     0") (turned 5)
    -- 6: a state out of order; a final mark of 2; a next state of S, of 256; also where the file ends there
    ∷ reads (with_rule "R     1     0     0") (turned 6)
    ∷ reads (with_rule "R     0     2     0") (turned 6)
    ∷ reads (with_rule "R     0     0     1") (turned 6)
    ∷ reads (with_rule "R     0     0   256") (turned 6)
    ∷ reads (lines_in (small_head ∷ "R     0     0     1" ∷ [])) (turned 6)
    -- with zeros, a state out of order and a next state of S
    ∷ reads (with_rule "R000001000000000000") (turned 6)
    ∷ reads (with_rule "R     0000000000001") (turned 6)
    -- 7: a node out of order; a kind of 4, and of 259, whose low byte is 3; a value at kind 0; a symbol of A; the set of a call of either
    -- kind, an entry set or after set past what the job has; an exit mark of 2; an after set without exit
    ∷ reads (with_node "P     1     0     0     1     0     0") (turned 7)
    ∷ reads (with_node "P     0     4     0     1     0     0") (turned 7)
    ∷ reads (with_node "P     0   259     0     1     0     0") (turned 7)
    ∷ reads (with_node "P     0     0     1     1     0     0") (turned 7)
    ∷ reads (with_node "P     0     1     1     1     0     0") (turned 7)
    ∷ reads (with_node "P     0     2     2     1     0     0") (turned 7)
    ∷ reads (with_node "P     0     3     2     1     0     0") (turned 7)
    ∷ reads (with_node "P     0     0     0     2     0     0") (turned 7)
    ∷ reads (with_node "P     0     0     0 65537     0     0") (turned 7)
    ∷ reads (with_node "P     0     0     0     1     1     2") (turned 7)
    ∷ reads (with_node "P     0     0     0     1     2     0") (turned 7)
    ∷ reads (with_node "P     0     0     0     1     0     1") (turned 7)
    -- with zeros, a kind of 4 and a symbol of A
    ∷ reads (with_node "P000000000004000000000001000000000000") (turned 7)
    ∷ reads (with_node "P     0000001    01     1    00     0") (turned 7)
    -- 8: the same edge twice; one that descends; a node of N
    ∷ reads (with_edges "F     0     1" "F     0     1") (turned 8)
    ∷ reads (with_edges "F     1     0" "F     0     1") (turned 8)
    ∷ reads (with_edges "F     0     1" "F     0     2") (turned 8)
    ∷ reads (with_edges "F     0     1" "F   256     0") (turned 8)
    -- with zeros, the same edge twice, once with spaces
    ∷ reads (with_edges "F     0     1" "F000000  0001") (turned 8)
    -- 9: bytes after the last line, also where no node is an entry
    ∷ reads (pair_file ++ (10 ∷ [])) (turned 9)
    ∷ reads (pair_with_zeros ++ (48 ∷ [])) (turned 9)
    ∷ reads (with_node "P     0     0     0     0     0     0" ++ (10 ∷ [])) (turned 9)
    -- 10: no entry
    ∷ reads (with_node "P     0     0     0     0     0     0") (turned 10)
    ∷ reads (with_node "P000000000000000000000000000000000000") (turned 10)
    ∷ []
