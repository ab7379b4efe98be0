-- Listing as a call (document 01, "The job file", "Turned back, by number" and "One listing in full"): its answer, and what it leaves of the
-- lent bytes.
-- Assumes nothing.
use Rattle.std.specs.Prelude.{Result, Ok, Err, ◌||◌, List, ℕ, ◌+◌, ltb, length}
use Rattle.std.proofs.lemmas.List.Edits.{sets}
use Rattle.callnumber.specs.CallNumber.{accepted_from}
use Rattle.job.specs.Job.{Job}
use Rattle.planning.specs.Listing.{listing_of}
use Rattle.jobfile.specs.File.{Answer, accepted, turned}
use Rattle.jobfile.specs.ListingLines.{listing_bytes}
use Rattle.buffer.specs.Buffer.{work_size}
use Rattle.admission.specs.Admission.{admitted}

-- "a listing buffer of at least 32,768 bytes", also where the text is shorter
abbrev pub listing_size : ℕ
listing_size = 32768

-- for a work buffer and a listing buffer of these lengths
abbrev pub list_answer : List ℕ → ℕ → ℕ → Answer
list_answer file work listing = admitted file (ltb work work_size || ltb listing listing_size)

-- the listing of a job, as bytes
abbrev pub bytes_for : Job → List ℕ
bytes_for j = listing_bytes (listing_of j)

-- what listing answers: "returns their length"
abbrev pub listed_of : Answer → Result ℕ ℕ
listed_of (accepted j) = Ok (length (bytes_for j))
listed_of (turned k) = Err k

-- "writes the W and T lines from the buffer's start, changes no other byte of it"; "a refusal leaves plan, listing buffer and record
-- unchanged"
abbrev pub listing_after : Answer → List ℕ → List ℕ
listing_after (accepted j) listing = sets listing 0 (bytes_for j)
listing_after (turned k) listing = listing

-- across the C call: 2^48 plus the length, or the refusal's number
abbrev pub list_number : Result ℕ ℕ → ℕ
list_number (Ok n) = accepted_from + n
list_number (Err k) = k
