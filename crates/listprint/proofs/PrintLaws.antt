-- What is printed for a file: the listing that `list_job` wrote, or the X line of its refusal. Both fit the lent buffer.
-- Assumes nothing.
use Rattle.std.specs.Prelude.{Result, Ok, Err}
use Prim.Native.Nat.{ℕ, ◌+◌, ◌≤◌, ◌<◌}
use mathlib.Core.Path.{◌≡◌, refl, sym, ap, ◌∙◌}
use mathlib.Core.Bool.{false}
use mathlib.Core.List.{List, [], ◌∷◌}
use native.Mathlib.Omega.{arith}
use lib.ListN.{length}
use lib.Seq.{sets, length-sets}
use borrow.Author.Tests.{le-ltb}
use Rattle.lines.specs.Line.{line}
use Rattle.jobfile.specs.File.{Answer, accepted, turned, read_job}
use Rattle.jobfile.specs.ListingLines.{printed_for}
use Rattle.jobfile.proofs.SpellableLaws.{read_written}
use Rattle.jobfile.proofs.ListingLength.{refused_length, listing_in_buffer}
use Rattle.jobfile.proofs.ListingFits.{listing_fits}
use Rattle.buffer.specs.Buffer.{work_size}
use Rattle.admission.specs.Admission.{admitted, work_after}
use Rattle.admission.proofs.AdmissionLaws.{admitted_read}
use Rattle.listoutcome.specs.ListCall.{listing_size, list_answer, listed_of, listing_after}

-- ---- the answer for a file

-- with buffers of their sizes nothing is turned back by 2
answer_in_room : (file : List ℕ) (w o : ℕ) → work_size ≤ w → listing_size ≤ o → list_answer file w o ≡ admitted file false
answer_in_room file w o h g = simp (le-ltb w work_size h, le-ltb o listing_size g)

-- ---- what is printed for it

-- it fits the buffer
printed_fits : (file : List ℕ) → length (printed_for (admitted file false)) ≤ listing_size
printed_fits file = go (admitted file false) (sym (admitted_read file false refl))
  where
    go : (a : Answer) → read_job file ≡ a → length (printed_for a) ≤ listing_size
    go (accepted j) e = listing_in_buffer j (read_written file j e).1.few_nodes
    go (turned k) e = omega (arith, refused_length k)

-- a refusal's number fits its field
number_fits : (file : List ℕ) (k : ℕ) → admitted file false ≡ turned k → k < 1000000
number_fits file k e = omega (arith, listing_fits.turned_back file k (sym (admitted_read file false refl) ∙ e))

-- ---- what is printed of an answer: the listing that was written, or the X line

module _ (l m : List ℕ) (listed : Result ℕ ℕ) where
  -- a length is that of the listing
  length_told
      : (a : Answer) (n : ℕ) → listed ≡ listed_of a → m ≡ listing_after a l → listed ≡ Ok n
      → (n ≡ length (printed_for a)) × (m ≡ sets l 0 (printed_for a))
  length_told (accepted j) n e w told = (cc, w)
  length_told (turned k) n e w told = let z : ◌≡◌ {A = ℕ} 0 1 = cc in absurd (omega arith)

  -- a number is that of the refusal, and nothing was written
  number_told
      : (a : Answer) (k : ℕ) → listed ≡ listed_of a → m ≡ listing_after a l → listed ≡ Err k → (a ≡ turned k) × (m ≡ l)
  number_told (accepted j) k e w told = let z : ◌≡◌ {A = ℕ} 0 1 = cc in absurd (omega arith)
  number_told (turned i) k e w told = (cc, w)

-- bytes that fit are within the buffer that they are written to
sets_within : (l m vs : List ℕ) (r : ℕ) → length vs ≤ length l → r ≡ length vs → m ≡ sets l 0 vs → r ≤ length m
sets_within l m vs r fit e w = omega (arith, ap length w, length-sets l 0 vs)

module _
    (file l m : List ℕ)
    (size : ℕ)
    (listed : Result ℕ ℕ)
    (room : work_size ≤ size)
    (long : listing_size ≤ length l)
    (e : listed ≡ listed_of (list_answer file size (length l)))
    (w : m ≡ listing_after (list_answer file size (length l)) l)
  where
    -- the answer, with room for it
    answer : list_answer file size (length l) ≡ admitted file false
    answer = answer_in_room file size (length l) room long

    -- what is left of the work buffer
    pub print_left : (before after : List ℕ) → after ≡ work_after (list_answer file size (length l)) before → after ≡ work_after (admitted file false) before
    print_left before after left = left ∙ ap (λ (a : Answer). work_after a before) answer

    -- a length: the listing is printed
    pub listing_printed
        : (n : ℕ) → listed ≡ Ok n
        → (n ≡ length (printed_for (admitted file false))) × (n ≤ length m) × (m ≡ sets l 0 (printed_for (admitted file false)))
    listing_printed n told =
        let t = length_told l m listed (admitted file false) n (rw answer at e) (rw answer at w) told in
        let fit = printed_fits file in
        (t.0, sets_within l m (printed_for (admitted file false)) n (omega arith) t.0 t.1, t.1)

    module _ (k : ℕ) (told : listed ≡ Err k) where
      -- a number: it is the answer's
      refused_told : (admitted file false ≡ turned k) × (m ≡ l)
      refused_told = number_told l m listed (admitted file false) k (rw answer at e) (rw answer at w) told

      -- and fits its field, in the buffer
      pub refusal_fits : (0 + 8 ≤ length m) × (k < 1000000)
      refusal_fits = let t = refused_told in (omega (arith, ap length t.1), number_fits file k t.0)

      -- the X line is printed
      pub refusal_printed
          : (out : List ℕ) → out ≡ sets m 0 (line 88 (k ∷ []))
          → (8 ≡ length (printed_for (admitted file false))) × (8 ≤ length out) × (out ≡ sets l 0 (printed_for (admitted file false)))
      refusal_printed out x =
          let t = refused_told in
          let same = ap printed_for t.0 in
          let eight : 8 ≡ length (printed_for (admitted file false)) = sym (ap length same ∙ refused_length k) in
          let put : out ≡ sets l 0 (printed_for (admitted file false)) = rw (same, ← t.1) x in
          (eight, sets_within l out (printed_for (admitted file false)) 8 (omega arith) eight put, put)
