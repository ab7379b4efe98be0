-- Lines alike: what stands in one of two texts that are alike stands in the other, with the same numbers, and so does the first line that
-- is turned back. Lines with the same numbers are alike, and of those with the same numbers one has no zeros. Line by line, each by its
-- letter, its fields and its end byte.
-- Assumes nothing.
use Prim.Native.Nat.{ℕ, ◌+◌, ◌*◌}
use mathlib.Core.Path.{◌≡◌, refl, sym, ap, ◌∙◌}
use mathlib.Core.List.{List, [], ◌∷◌, ◌++◌, append-nil}
use native.Mathlib.Nat.{zero-add, suc-mul, zero-mul}
use native.Mathlib.Omega.{arith}
use lib.ListN.{length, take, drop, replicate, length-drop}
use Rattle.lines.specs.Line.{line, write_lines, at, line_length}
use Rattle.lines.specs.Lines.{LineKind, Lines, lines, refused, lines_of}
use Rattle.lines.specs.Written.{Holds, columns_of, LineAt, Stand, GoodLines, good_none, Good-more, LinesAt, BadLine, ended, malformed, outside, FirstBad}
use Rattle.lines.specs.Alike.{AlikeColumns, equal, one_number, AlikeLine, AlikeThen, Equal, AlikeOver, Anything, AlikeUpTo, NoZerosOver, FileDue, some_due, all_due, AlikeFiles, LinesSayAlike}
use Rattle.lines.proofs.SpelledField.{holds_one}
use Rattle.lines.proofs.SpelledLine.{line_long, line_only, written_no_zeros}
use Rattle.lines.proofs.SpelledLines.{write_cons, written_past, lines_says, Refused-Says}

-- ---- one line

-- columns alike hold the same number
alike_holds : (l m : List ℕ) (n : ℕ) → AlikeColumns l m → Holds l n → Holds m n
alike_holds l m n (equal e) h = rw (← e) h
alike_holds l m n (one_number {n = a} p q) h = rw (← holds_one l a n p h) q

-- either way
alike_turned : {l m : List ℕ} → AlikeColumns l m → AlikeColumns m l
alike_turned (equal e) = equal (sym e)
alike_turned (one_number p q) = one_number q p

line_turned : {k : ℕ} {f g : List ℕ} → AlikeLine k f g → AlikeLine k g f
line_turned a = record { first = sym a.first; fields = λ i h. alike_turned (a.fields i h); last = sym a.last }

-- a line that stands in one stands in the other
line_alike : {letter k : ℕ} {f g ns : List ℕ} → AlikeLine k f g → LineAt letter k f ns → LineAt letter k g ns
line_alike {f} {g} {ns} a l =
    record {
      count = l.count;
      first = sym a.first ∙ l.first;
      fields = λ i h. alike_holds (columns_of i f) (columns_of i g) (at ns i) (a.fields i h) (l.fields i h);
      last = sym a.last ∙ l.last;
    }

-- lines of the same numbers are alike
same_alike : {letter k : ℕ} {f g ns : List ℕ} → LineAt letter k f ns → LineAt letter k g ns → AlikeLine k f g
same_alike l m =
    record { first = l.first ∙ sym m.first; fields = λ i h. one_number (l.fields i h) (m.fields i h); last = l.last ∙ sym m.last }

-- no byte is left in both or in none
none_alike : (f g : List ℕ) → take 1 f ≡ take 1 g → f ≡ [] → g ≡ []
none_alike f [] e n = refl
none_alike f (b ∷ g) e n = let z : ◌≡◌ {A = ℕ} 0 1 = cc in absurd (omega arith)

-- a line that is turned back in one is turned back in the other
bad_alike
    : {k : LineKind} {i r : ℕ} {before f g : List ℕ} → AlikeLine k.count f g → BadLine k i before f r → BadLine k i before g r
bad_alike {f} {g} a (ended none) = ended (none_alike f g a.first none)
bad_alike {f} {g} a (malformed some none) =
    malformed (λ e. some (none_alike g f (sym a.first) e)) (λ ns l. none ns (line_alike (line_turned a) l))
bad_alike a (outside l bad) = outside (line_alike a l) bad

-- ---- lines in turn

-- itself
pub over_same : (ks f : List ℕ) → AlikeOver ks f f
over_same [] f = refl
over_same (k ∷ ks) f =
    (record { first = refl; fields = λ i h. equal refl; last = refl }, over_same ks (drop (line_length k) f))

-- either way
pub over_turned : (ks f g : List ℕ) → AlikeOver ks f g → AlikeOver ks g f
over_turned [] f g a = sym a
over_turned (k ∷ ks) f g a = (line_turned a.0, over_turned ks (drop (line_length k) f) (drop (line_length k) g) a.1)

-- whatever is past the lines
pub over_up_to : (ks f g : List ℕ) → AlikeOver ks f g → AlikeUpTo ks f g
over_up_to [] f g a = tt
over_up_to (k ∷ ks) f g a = (a.0, over_up_to ks (drop (line_length k) f) (drop (line_length k) g) a.1)

-- so many fields each, for so many lines
abbrev counts : LineKind → List (List ℕ) → List ℕ → List ℕ
counts k ls ks = replicate (length ls) k.count ++ ks

module _ (Past : List ℕ → List ℕ → Type 0) (k : LineKind) where
  -- lines that stand in one stand in the other, and what follows is alike
  stand_alike
      : (ls : List (List ℕ)) (ks f g rest : List ℕ) → Stand k f ls rest → AlikeThen Past (counts k ls ks) f g
      → (other : List ℕ) × Stand k g ls other × AlikeThen Past ks rest other
  stand_alike [] ks f g rest s a = (g, refl, rw (← s) a)
  stand_alike (ns ∷ ls) ks f g rest s a =
      let (other, stand, more) =
      stand_alike ls ks (drop (line_length k.count) f) (drop (line_length k.count) g) rest s.1 a.1 in
      (other, (line_alike a.0 s.0, stand), more)

  -- good lines of the one are good lines of the other
  pub lines_alike
      : {c i : ℕ} {before f g rest : List ℕ} {ls : List (List ℕ)} (ks : List ℕ) → LinesAt k c i before f ls rest
      → AlikeThen Past (counts k ls ks) f g → (other : List ℕ) × LinesAt k c i before g ls other × AlikeThen Past ks rest other
  lines_alike {f} {g} {rest} {ls} ks l a =
      let (other, stand, more) = stand_alike ls ks f g rest l.stand a in
      (other, record { count = l.count; good = l.good; stand = stand }, more)

  -- lines of the same numbers before what is alike
  pub alike_stand
      : (ls : List (List ℕ)) (ks f g rest other : List ℕ) → Stand k f ls rest → Stand k g ls other → AlikeThen Past ks rest other
      → AlikeThen Past (counts k ls ks) f g
  alike_stand [] ks f g rest other s t a = rw (s, t) a
  alike_stand (ns ∷ ls) ks f g rest other s t a = (
    same_alike s.0 t.0,
    alike_stand ls ks (drop (line_length k.count) f) (drop (line_length k.count) g) rest other s.1 t.1 a,
  )

  -- the first line that is turned back is that of the other too
  pub first_bad_alike
      : {c i r : ℕ} {before f g : List ℕ} (b : FirstBad k c i before f r) → AlikeThen Past (counts k b.passed (k.count ∷ [])) f g
      → (d : FirstBad k c i before g r) × (d.passed ≡ b.passed)
  first_bad_alike {f} {g} b a =
      let (other, stand, more) = stand_alike b.passed (k.count ∷ []) f g b.due b.stand a in (
        record {
          passed = b.passed;
          due = other;
          few = b.few;
          good = b.good;
          stand = stand;
          bad = bad_alike more.0 b.bad;
        },
        refl,
      )

module _ (k : LineKind) where
  -- the bytes of lines that stand
  pub stand_length
      : (ls : List (List ℕ)) (f rest : List ℕ) → Stand k f ls rest → length f ≡ length ls * line_length k.count + length rest
  stand_length [] f rest s = rw (zero-mul (line_length k.count), zero-add (length rest)) (ap length s)
  stand_length (ns ∷ ls) f rest s =
      let long = line_long s.0 in
      let more = stand_length ls (drop (line_length k.count) f) rest s.1 in
      rw (suc-mul (length ls) (line_length k.count)) (omega (arith, more, length-drop (line_length k.count) f))

  -- ---- as they are read

  -- good lines
  good_read
      : (c i : ℕ) (before f g : List ℕ) (ls : List (List ℕ)) (rest : List ℕ) → LinesAt k c i before f ls rest
      → AlikeOver (counts k ls []) f g → lines_of k c i before f ≡ lines_of k c i before g
  good_read c i before f g ls rest l a =
      let (other, m, same) = lines_alike Equal k [] l a in
      (lines_says k c i before f ls rest).1 l ∙ ap (lines ls) same ∙ sym ((lines_says k c i before g ls other).1 m)

  -- the first that is turned back
  bad_read
      : (c i : ℕ) (before f g : List ℕ) (r : ℕ) (b : FirstBad k c i before f r) → AlikeUpTo (counts k b.passed (k.count ∷ [])) f g
      → lines_of k c i before f ≡ lines_of k c i before g
  bad_read c i before f g r b a =
      (Refused-Says k c i before f r).1 b ∙ sym ((Refused-Says k c i before g r).1 (first_bad_alike Anything k b a).0)

  -- ---- without zeros

  -- lines without zeros are as they are written
  pub stand_only
      : (ls : List (List ℕ)) (ks f rest : List ℕ) → Stand k f ls rest → NoZerosOver (counts k ls ks) f
      → (f ≡ write_lines k.letter ls ++ rest) × NoZerosOver ks rest
  unfolding write_lines
  stand_only [] ks f rest s none = (s, rw (← s) none)
  stand_only (ns ∷ ls) ks f rest s none =
      let (whole, past) = stand_only ls ks (drop (line_length k.count) f) rest s.1 none.1 in (
        line_only k.letter k.count f ns s.0 (λ i h. none.0 i (at ns i) h (s.0.fields i h))
            ∙ ap (λ (l : List ℕ). line k.letter ns ++ l) whole ∙ sym (write_cons k ns ls rest),
        past,
      )

  -- good lines that are written have no zeros
  pub written_only
      : {i : ℕ} {before : List ℕ} {ls : List (List ℕ)} (ks rest : List ℕ) → GoodLines k i before ls → NoZerosOver ks rest
      → NoZerosOver (counts k ls ks) (write_lines k.letter ls ++ rest)
  unfolding write_lines
  written_only ks rest good_none none = none
  written_only ks rest (Good-more {ns} {ls} count fit good more) none =
      let after : List ℕ = write_lines k.letter ls ++ rest in
      rw (write_cons k ns ls rest) (
        λ i n h held. written_no_zeros k.letter ns after fit i (omega (arith, count)),
        rw (written_past k ns after count) (written_only ks rest more none),
      )

-- ---- files of lines of one kind

-- two files read alike: the same lines, with as many bytes after them, or the same refusal
pub data ReadAlike : Lines → Lines → Type 0 where
  same_lines : {ls : List (List ℕ)} {rest other : List ℕ} → length rest ≡ length other → ReadAlike (lines ls rest) (lines ls other)
  same_refusal : {r : ℕ} → ReadAlike (refused r) (refused r)

-- what looks at bytes past the lines no further than whether there are any is one of both
pub alike_by
    : {X : Type 0} (F : Lines → X)
    → ((ls : List (List ℕ)) (b d : ℕ) (rest other : List ℕ) → F (lines ls (b ∷ rest)) ≡ F (lines ls (d ∷ other)))
    → {x y : Lines} → ReadAlike x y → F x ≡ F y
alike_by F same (same_lines {ls} {rest} {other} e) = past rest other e
  where
    past : (rest other : List ℕ) → length rest ≡ length other → F (lines ls rest) ≡ F (lines ls other)
    past [] [] e = refl
    past [] (b ∷ other) e = absurd (omega arith)
    past (b ∷ rest) [] e = absurd (omega arith)
    past (b ∷ rest) (d ∷ other) e = same ls b d rest other
alike_by F same same_refusal = refl

-- a file that is exactly its lines
module _ (k : LineKind) {c : ℕ} (f : List ℕ) (ls : List (List ℕ)) (l : LinesAt k c 0 [] f ls []) where
  -- a line for each
  counts_all : counts k ls [] ≡ replicate c k.count
  counts_all = append-nil (replicate (length ls) k.count) ∙ ap (λ (n : ℕ). replicate n k.count) l.count

  -- the file that is written of them has no zeros
  pub exact_no_zeros : NoZerosOver (replicate c k.count) (write_lines k.letter ls)
  exact_no_zeros = rw (← counts_all, ← append-nil (write_lines k.letter ls)) (written_only k [] [] l.good tt)

  -- and no other has none
  pub exact_only : NoZerosOver (replicate c k.count) f → f ≡ write_lines k.letter ls
  exact_only none = (stand_only k ls [] f [] l.stand (rw counts_all none)).0 ∙ append-nil (write_lines k.letter ls)

module _ (k : LineKind) (c : ℕ) where
  -- every file has its lines due
  pub file_due : (file : List ℕ) → (due : List ℕ) × FileDue k c file due
  file_due file = go (lines_of k c 0 [] file) refl
    where
      go : (x : Lines) → lines_of k c 0 [] file ≡ x → (due : List ℕ) × FileDue k c file due
      go (lines ls rest) e = (_, all_due ((lines_says k c 0 [] file ls rest).0 e))
      go (refused r) e = (_, some_due ((Refused-Says k c 0 [] file r).0 e))

  module _ (f g : List ℕ) where
    -- where a line is turned back, what follows it is not looked at
    pub turned_alike
        : (r : ℕ) (b : FirstBad k c 0 [] f r) → AlikeUpTo (counts k b.passed (k.count ∷ [])) f g
        → ReadAlike (lines_of k c 0 [] f) (lines_of k c 0 [] g)
    turned_alike r b a =
        let read : lines_of k c 0 [] f ≡ refused r = (Refused-Says k c 0 [] f r).1 b in
        let other : lines_of k c 0 [] g ≡ refused r = sym (bad_read k c 0 [] f g r b a) ∙ read in
        rw (read, other) same_refusal

    -- of files of one length, what follows the lines due is not looked at
    pub due_alike
        : (due : List ℕ) → length f ≡ length g → FileDue k c f due → AlikeUpTo due f g
        → ReadAlike (lines_of k c 0 [] f) (lines_of k c 0 [] g)
    due_alike due long (some_due {r} b) a = turned_alike r b a
    due_alike due long (all_due {ls} {rest} l) a =
        let (other, m, any) = lines_alike Anything k [] l a in
        let past : length rest ≡ length other =
        omega (arith, long, stand_length k ls f rest l.stand, stand_length k ls g other m.stand) in
        rw ((lines_says k c 0 [] f ls rest).1 l, (lines_says k c 0 [] g ls other).1 m) (same_lines past)

    -- so are files alike
    pub files_alike : AlikeFiles k c f g → ReadAlike (lines_of k c 0 [] f) (lines_of k c 0 [] g)
    files_alike a = due_alike a.due a.long a.lines (over_up_to a.due f g a.over)

    -- the other has the same lines due
    due_other : {due : List ℕ} → FileDue k c f due → AlikeOver due f g → FileDue k c g due
    due_other (some_due b) a =
        let up_to_lem = over_up_to (counts k b.passed (k.count ∷ [])) f g a in
        let (d, passed) = first_bad_alike Anything k b up_to_lem in
        rw (← passed) (some_due d)
    due_other (all_due l) a = let (other, m, same) = lines_alike Equal k [] l a in all_due m

-- lines of a kind alike are read alike
pub lines_say_alike : LinesSayAlike
lines_say_alike =
    record {
      columns = λ l m n h k. one_number h k;
      itself = λ k c f. let (due, stand) = file_due k c f in record { long = refl; due = due; lines = stand; over = over_same due f };
      either_way = λ k c f g a.
          record {
            long = sym a.long;
            due = a.due;
            lines = due_other k c f g a.lines a.over;
            over = over_turned a.due f g a.over;
          };
      good = good_read;
      bad = bad_read;
    }
