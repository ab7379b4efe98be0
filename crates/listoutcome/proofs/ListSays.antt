-- What a caller of listing has: the lines in its buffer, and the answer read back from the number.
-- Assumes nothing.
use Rattle.std.specs.Prelude.{Ok, Err}
use mathlib.Core.Path.{◌≡◌, refl, sym, ◌∙◌}
use mathlib.Core.Bool.{Bool, true≢false, ◌||◌}
use mathlib.Core.List.{List}
use Prim.Native.Nat.{ℕ, ◌+◌, ◌-◌, ◌≤◌}
use native.Mathlib.Omega.{arith}
use lib.Dec.{ltb}
use lib.ListN.{length}
use borrow.Author.Tests.{ltb-false, lt-ltb, le-ltb}
use Rattle.laws.proofs.Tests.{fails_of, or_right}
use Rattle.callnumber.specs.CallNumber.{accepted_from}
use Rattle.jobfile.specs.File.{Answer, accepted, turned}
use Rattle.jobfile.proofs.SpellableLaws.{read_written}
use Rattle.jobfile.proofs.ListingLength.{listing_in_buffer}
use Rattle.buffer.specs.Buffer.{work_size}
use Rattle.admission.specs.Admission.{admitted}
use Rattle.admission.proofs.AdmissionLaws.{admitted_spells, admitted_reads, admitted_small}
use Rattle.admission.proofs.CallLaws.{written_first}
use Rattle.listoutcome.specs.ListCall.{listing_size, list_answer, bytes_for, listed_of, listing_after, list_number}
use Rattle.listoutcome.specs.ListSays.{ListingLeft, listed, unchanged, ListingBytesSay, listed_read, ListedByNumber}

-- the listing buffer after listing
pub listing_bytes_say : ListingBytesSay
listing_bytes_say file listing work = go (list_answer file work (length listing)) refl
  where
    go : (a : Answer) → list_answer file work (length listing) ≡ a → ListingLeft listing (listing_after a listing) a (listed_of a)
    go (accepted j) e =
        let read = admitted_reads file (ltb work work_size || ltb (length listing) listing_size) j e in
        let fits = listing_in_buffer j (read_written file j read.1).1.few_nodes in
        let short = ltb (length listing) listing_size in
        let room =
        ltb-false (length listing) listing_size (fails_of short (λ t. true≢false (sym (or_right (ltb work work_size) short t) ∙ read.0))) in
        listed fits room (written_first (length (bytes_for j)) (bytes_for j) listing refl (omega arith))
    go (turned k) e = unchanged refl

-- the length that is returned is one within the buffer
pub length_few : (file : List ℕ) (short : Bool) (n : ℕ) → Ok n ≡ listed_of (admitted file short) → n ≤ listing_size
length_few file short n e = go (admitted file short) refl e
  where
    go : (a : Answer) → admitted file short ≡ a → Ok n ≡ listed_of a → n ≤ listing_size
    go (accepted j) is e =
        let same : n ≡ length (bytes_for j) = cc e in
        omega (arith, listing_in_buffer j (read_written file j (admitted_spells file short j is)).1.few_nodes)
    go (turned k) is e = let z : ◌≡◌ {A = ℕ} 0 1 = cc e in absurd (omega arith)

-- a length is read back
read_length : (n : ℕ) → listed_read (list_number (Ok n)) ≡ Ok n
read_length n =
    let same : accepted_from + n - accepted_from ≡ n = omega arith in
    simp (le-ltb (accepted_from + n) accepted_from (omega arith), same)

-- a refusal's number is read back
read_refusal : (k : ℕ) → k ≤ 15 → listed_read (list_number (Err k)) ≡ Err k
read_refusal k small = simp (lt-ltb k accepted_from (omega arith))

-- the answer is read back
pub listed_by_number : ListedByNumber
listed_by_number file work listing = go (list_answer file work listing) refl
  where
    go : (a : Answer) → list_answer file work listing ≡ a → listed_read (list_number (listed_of a)) ≡ listed_of a
    go (accepted j) e = read_length (length (bytes_for j))
    go (turned k) e = read_refusal k (admitted_small file (ltb work work_size || ltb listing listing_size) k e)
