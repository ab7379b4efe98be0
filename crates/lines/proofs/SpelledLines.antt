-- Lines in turn: what is read is the lines that stand in the bytes, each good after the one before it; and a refusal is that of the
-- first line that is not. By induction on the number of lines due, each by the law of one line.
-- Assumes nothing.
use Prim.Native.Nat.{ℕ, zero, suc, ◌+◌, ◌*◌, ◌<◌}
use mathlib.Core.Path.{◌≡◌, refl, sym, ap, ◌∙◌, subst}
use mathlib.Core.Logic.{◌≢◌, ◌↔◌}
use mathlib.Core.Bool.{Bool, true, false, cond}
use mathlib.Core.List.{List, [], ◌∷◌, ◌++◌, append_assoc}
use native.Mathlib.Nat.{add_comm, add-zero, suc-add, add-suc, zero-mul, suc-mul}
use native.Mathlib.Omega.{arith}
use lib.ListN.{length, drop, get_or, length-append}
use lib.Seq.{drop-drop}
use Rattle.lines.specs.Line.{line, Due, ends, no_line, found, line_length, line_of, write_lines}
use Rattle.lines.specs.Lines.{LineKind, Lines, lines, refused, cons_line, on_due, lines_of}
use Rattle.lines.specs.Places.{numbers_of}
use Rattle.lines.specs.Written.{LineAt, Stand, GoodLines, good_none, Good-more, LinesAt, BadLine, ended, malformed, outside, last_of, FirstBad}
use Rattle.lines.proofs.SpelledLine.{line_length_lem, line_drop, line_fits, line_found, found_line, line_written, ends_says}

-- ---- the line due

module _ (letter k : ℕ) (bytes : List ℕ) where
  -- where bytes are left and no line stands, none is found
  no_line_of : bytes ≢ [] → ((ns : List ℕ) → LineAt letter k bytes ns → ⊥) → line_of letter k bytes ≡ no_line
  no_line_of some none = go (line_of letter k bytes) refl
    where
      go : (d : Due) → line_of letter k bytes ≡ d → d ≡ no_line
      go ends e = absurd (some ((ends_says letter k bytes).0 e))
      go no_line e = refl
      go (found ns) e = absurd (none ns (found_line letter k bytes ns e))

  -- where none is found, no line stands
  no_line_says : line_of letter k bytes ≡ no_line → (bytes ≢ []) × ((ns : List ℕ) → LineAt letter k bytes ns → ⊥)
  no_line_says e = (
    λ n. let z : ◌≡◌ {A = ℕ} 0 1 = cc ((ends_says letter k bytes).1 n) in omega arith,
    λ ns l. let z : ◌≡◌ {A = ℕ} 0 1 = cc (line_found letter k bytes ns l) in omega arith,
  )

-- ---- from the lines to what is read

module _ (k : LineKind) where
  -- one line more is written
  pub write_cons : (ns : List ℕ) (ls : List (List ℕ)) (rest : List ℕ)
      → write_lines k.letter (ns ∷ ls) ++ rest ≡ line k.letter ns ++ (write_lines k.letter ls ++ rest)
  unfolding write_lines
  write_cons ns ls rest = append_assoc (line k.letter ns) (write_lines k.letter ls) rest

  -- the bytes of good lines
  pub lines_length
      : {i : ℕ} {before : List ℕ} {ls : List (List ℕ)} → GoodLines k i before ls
      → length (write_lines k.letter ls) ≡ length ls * line_length k.count
  unfolding write_lines
  lines_length good_none = sym (zero-mul (line_length k.count))
  lines_length (Good-more {ns} {ls} count fit good more) =
      length-append (line k.letter ns) (write_lines k.letter ls)
      ∙ rw (line_length_lem k.letter ns, count, lines_length more, suc-mul) (omega arith)

  -- what follows a line that is written
  pub written_past
      : (ns rest : List ℕ) → length ns ≡ k.count → drop (line_length k.count) (line k.letter ns ++ rest) ≡ rest
  written_past ns rest count =
      ap (λ (x : ℕ). drop (line_length x) (line k.letter ns ++ rest)) (sym count) ∙ line_drop k.letter ns rest

  -- good lines stand where they are written
  pub written_stand
      : {i : ℕ} {before : List ℕ} {ls : List (List ℕ)} (rest : List ℕ) → GoodLines k i before ls
      → Stand k (write_lines k.letter ls ++ rest) ls rest
  unfolding write_lines
  written_stand rest good_none = refl
  written_stand rest (Good-more {ns} {ls} count fit good more) =
      let after : List ℕ = write_lines k.letter ls ++ rest in
      rw (write_cons ns ls rest)
      (rw (← count) (line_written k.letter ns after fit), rw (written_past ns after count) (written_stand rest more))

  -- a good line is read, and then those that follow
  good_step
      : (c i : ℕ) (before bytes ns : List ℕ) → LineAt k.letter k.count bytes ns → k.good i before ns ≡ true
      → lines_of k (suc c) i before bytes ≡ cons_line ns (lines_of k c (suc i) ns (drop (line_length k.count) bytes))
  unfolding lines_of
  good_step c i before bytes ns l good = rw (line_found k.letter k.count bytes ns l, good)

  -- a bad line is refused
  bad_step
      : (c i : ℕ) (before bytes : List ℕ) (r : ℕ) → BadLine k i before bytes r → lines_of k (suc c) i before bytes ≡ refused r
  unfolding lines_of
  bad_step c i before bytes r (ended none) = rw ((ends_says k.letter k.count bytes).1 none)
  bad_step c i before bytes r (malformed some none) = rw (no_line_of k.letter k.count bytes some none)
  bad_step c i before bytes r (outside {ns} l bad) = rw (line_found k.letter k.count bytes ns l, bad)

  -- good lines are read
  good_read
      : {i : ℕ} {before : List ℕ} {ls : List (List ℕ)} (bytes rest : List ℕ) → GoodLines k i before ls → Stand k bytes ls rest
      → lines_of k (length ls) i before bytes ≡ lines ls rest
  unfolding lines_of
  good_read bytes rest good_none s = ap (lines []) s
  good_read bytes rest (Good-more {i} {before} {ns} {ls} count fit good more) s =
      good_step (length ls) i before bytes ns s.0 good
      ∙ ap (cons_line ns) (good_read (drop (line_length k.count) bytes) rest more s.1)

  -- the first bad line is refused
  first_read
      : {i : ℕ} {before : List ℕ} {ls : List (List ℕ)} (c m : ℕ) (bytes due : List ℕ) (r : ℕ) → GoodLines k i before ls
      → Stand k bytes ls due → length ls < c → m ≡ i + length ls → BadLine k m (last_of before ls) due r
      → lines_of k c i before bytes ≡ refused r
  unfolding last_of
  first_read zero m bytes due r g s few e bad = absurd (omega arith)
  first_read (suc c) m bytes due r (good_none {i} {before}) s few e bad =
      let here : m ≡ i = e ∙ add-zero i in
      rw s (bad_step c i before due r (rw here at bad))
  first_read (suc c) m bytes due r (Good-more {i} {before} {ns} {ls} count fit good more) s few e bad =
      good_step c i before bytes ns s.0 good
      ∙ ap (cons_line ns) (first_read c m (drop (line_length k.count) bytes) due r more s.1 (omega arith) (omega arith) bad)

  -- ---- from what is read to the lines

  -- what is read, with its lines
  data Outcome (c i : ℕ) (before bytes : List ℕ) : Lines → Type 0 where
    all_good : {ls : List (List ℕ)} {rest : List ℕ} → LinesAt k c i before bytes ls rest → Outcome c i before bytes (lines ls rest)
    one_bad : {r : ℕ} → FirstBad k c i before bytes r → Outcome c i before bytes (refused r)

  -- the first line due is bad
  first_here : (c i : ℕ) (before bytes : List ℕ) (r : ℕ) → BadLine k i before bytes r → FirstBad k (suc c) i before bytes r
  unfolding last_of
  first_here c i before bytes r bad =
      record { passed = []; due = bytes; few = omega arith; good = good_none; stand = refl; bad = rw add-zero bad }

  -- a good line before those that follow
  outcome_more
      : (c i : ℕ) (before bytes ns : List ℕ) (x : Lines) → LineAt k.letter k.count bytes ns → k.good i before ns ≡ true
      → Outcome c (suc i) ns (drop (line_length k.count) bytes) x → Outcome (suc c) i before bytes (cons_line ns x)
  unfolding last_of
  outcome_more c i before bytes ns x l good (all_good m) =
      all_good (record {
        count = ap suc m.count;
        good = Good-more l.count (line_fits l) good m.good;
        stand = (l, m.stand);
      })
  outcome_more c i before bytes ns x l good (one_bad {r} f) =
      one_bad {r = r} (record {
        passed = ns ∷ f.passed;
        due = f.due;
        few = omega arith;
        good = Good-more l.count (line_fits l) good f.good;
        stand = (l, f.stand);
        bad = rw (add-suc i (length f.passed), ← suc-add i (length f.passed)) f.bad;
      })

  -- what is read of c lines due
  outcome : (c i : ℕ) (before bytes : List ℕ) → Outcome c i before bytes (lines_of k c i before bytes)
  unfolding lines_of
  outcome zero i before bytes = all_good (record { count = refl; good = good_none; stand = refl })
  outcome (suc c) i before bytes = due (outcome c (suc i)) (line_of k.letter k.count bytes) refl
    where
      tested
          : ((ns rest : List ℕ) → Outcome c (suc i) ns rest (lines_of k c (suc i) ns rest)) → (ns : List ℕ)
          → line_of k.letter k.count bytes ≡ found ns → (t : Bool) → k.good i before ns ≡ t
          → Outcome (suc c) i before bytes
          (cond t (cons_line ns (lines_of k c (suc i) ns (drop (line_length k.count) bytes))) (refused k.refusal))
      tested more ns e true t =
          outcome_more c i before bytes ns (lines_of k c (suc i) ns (drop (line_length k.count) bytes))
          (found_line k.letter k.count bytes ns e) t (more ns (drop (line_length k.count) bytes))
      tested more ns e false t =
          one_bad (first_here c i before bytes k.refusal (outside (found_line k.letter k.count bytes ns e) t))

      due
          : ((ns rest : List ℕ) → Outcome c (suc i) ns rest (lines_of k c (suc i) ns rest)) → (d : Due)
          → line_of k.letter k.count bytes ≡ d
          → Outcome (suc c) i before bytes
          (on_due d
          (λ ns.
          cond (k.good i before ns) (cons_line ns (lines_of k c (suc i) ns (drop (line_length k.count) bytes)))
          (refused k.refusal)))
      due more ends e = one_bad (first_here c i before bytes 3 (ended ((ends_says k.letter k.count bytes).0 e)))
      due more no_line e =
          let (some, none) = no_line_says k.letter k.count bytes e in
          one_bad (first_here c i before bytes 4 (malformed some none))
      due more (found ns) e = tested more ns e (k.good i before ns) refl

  -- ---- both ways

  -- what is read are the good lines that stand in the bytes
  pub lines_says
      : (c i : ℕ) (before bytes : List ℕ) (ls : List (List ℕ)) (rest : List ℕ)
      → (lines_of k c i before bytes ≡ lines ls rest) ↔ LinesAt k c i before bytes ls rest
  lines_says c i before bytes ls rest = (
    λ e. only (rw e at (outcome c i before bytes)),
    λ l. rw (← l.count) (good_read bytes rest l.good l.stand),
  )
    where
      only : Outcome c i before bytes (lines ls rest) → LinesAt k c i before bytes ls rest
      only (all_good l) = l

  -- a refusal is that of the first line that is not good
  pub Refused-Says
      : (c i : ℕ) (before bytes : List ℕ) (r : ℕ) → (lines_of k c i before bytes ≡ refused r) ↔ FirstBad k c i before bytes r
  Refused-Says c i before bytes r = (
    λ e. only (rw e at (outcome c i before bytes)),
    λ f. first_read c (i + length f.passed) bytes f.due r f.good f.stand f.few refl f.bad,
  )
    where
      only : Outcome c i before bytes (refused r) → FirstBad k c i before bytes r
      only (one_bad f) = f

-- ---- one of some lines that stand

-- the line at one place is one
pub line_once : (letter k : ℕ) (bytes ns ms : List ℕ) → LineAt letter k bytes ns → LineAt letter k bytes ms → ns ≡ ms
line_once letter k bytes ns ms l m =
    ap numbers_of (sym (line_found letter k bytes ns l) ∙ line_found letter k bytes ms m)

module _ (k : LineKind) where
  -- the bytes past one line more
  past_first : (n : ℕ) (f : List ℕ) → drop (n * line_length k.count) (drop (line_length k.count) f) ≡ drop (suc n * line_length k.count) f
  past_first n f =
      drop-drop (n * line_length k.count) (line_length k.count) f
      ∙ ap (λ (x : ℕ). drop x f) (add_comm (line_length k.count) (n * line_length k.count) ∙ sym (suc-mul n (line_length k.count)))

  -- the first bytes are those from place 0 on
  from_first : (f : List ℕ) → drop (0 * line_length k.count) f ≡ f
  from_first f = ap (λ (x : ℕ). drop x f) (zero-mul (line_length k.count))

  -- what follows the lines
  pub stand_past : (ls : List (List ℕ)) (f rest : List ℕ) → Stand k f ls rest → drop (length ls * line_length k.count) f ≡ rest
  stand_past [] f rest s = from_first f ∙ s
  stand_past (ns ∷ ls) f rest s = sym (past_first (length ls) f) ∙ stand_past ls (drop (line_length k.count) f) rest s.1

  -- each line in its place
  pub stand_at
      : (ls : List (List ℕ)) (f rest : List ℕ) (i : ℕ) → Stand k f ls rest → i < length ls
      → LineAt k.letter k.count (drop (i * line_length k.count) f) (get_or ls i [])
  stand_at [] f rest i s l = absurd (omega arith)
  stand_at (ns ∷ ls) f rest zero s l = rw (from_first f) s.0
  stand_at (ns ∷ ls) f rest (suc i) s l =
      subst (λ (b : List ℕ). LineAt k.letter k.count b (get_or ls i [])) (past_first i f)
      (stand_at ls (drop (line_length k.count) f) rest i s.1 (omega arith))

  -- each passes its test
  pub good_at
      : {i : ℕ} {before : List ℕ} {ls : List (List ℕ)} → GoodLines k i before ls → (n : ℕ) → n < length ls
      → (last : List ℕ) × (k.good (i + n) last (get_or ls n []) ≡ true)
  good_at good_none n l = absurd (omega arith)
  good_at (Good-more {i} {before} {ns} count fit good more) zero l = (before, rw (add-zero i) good)
  good_at (Good-more {i} {before} {ns} count fit good more) (suc n) l =
      let (last, passes) = good_at more n (omega arith) in (last, rw (add-suc i n, ← suc-add i n) passes)
