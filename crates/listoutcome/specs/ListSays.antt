-- What a caller of listing has: the lines in its buffer, and the answer read back from the number. Statements, with a theorem for each in
-- `proofs/`.
-- Assumes nothing.
use Rattle.std.specs.Prelude.{Result, Ok, Err, ◌≡◌, cond, List, ℕ, ◌-◌, ◌≤◌, ltb, length}
use Rattle.callnumber.specs.CallNumber.{accepted_from}
use Rattle.job.specs.Job.{Job}
use Rattle.jobfile.specs.File.{Answer, accepted, turned}
use Rattle.admission.specs.Admission.{WrittenFirst}
use Rattle.listoutcome.specs.ListCall.{listing_size, list_answer, bytes_for, listed_of, listing_after, list_number}

-- the listing buffer after listing, for what the file spells and what is answered: the length that is returned fits the buffer, so many
-- bytes of the listing stand first and the rest is as it was; "a refusal leaves plan, listing buffer and record unchanged"
pub data ListingLeft (before after : List ℕ) : Answer → Result ℕ ℕ → Type 0 where
  listed
      : {j : Job} {n : ℕ} → n ≤ listing_size → listing_size ≤ length before → WrittenFirst n (bytes_for j) before after
      → ListingLeft before after (accepted j) (Ok n)
  unchanged : {k : ℕ} → after ≡ before → ListingLeft before after (turned k) (Err k)

-- the statement: "it writes the W and T lines from the buffer's start, changes no other byte of it and returns their length"
abbrev pub ListingBytesSay : Type 0
ListingBytesSay =
    (file listing : List ℕ) (work : ℕ)
    → ListingLeft listing (listing_after (list_answer file work (length listing)) listing) (list_answer file work (length listing))
    (listed_of (list_answer file work (length listing)))

-- the answer that a number tells: below 2^48 a refusal, from there on the length
abbrev pub listed_read : ℕ → Result ℕ ℕ
listed_read n = cond (ltb n accepted_from) (Err n) (Ok (n - accepted_from))

-- the statement: a caller reads back the length or the refusal from the number
abbrev pub ListedByNumber : Type 0
ListedByNumber =
    (file : List ℕ) (work listing : ℕ)
    → listed_read (list_number (listed_of (list_answer file work listing))) ≡ listed_of (list_answer file work listing)
