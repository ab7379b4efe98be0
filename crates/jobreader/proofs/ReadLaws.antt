-- Laws of reading a whole file: the answer of each way out.
-- Assumes nothing.
use mathlib.Core.Path.{◌≡◌, refl, sym, ap, subst, ◌∙◌}
use mathlib.Core.List.{List, [], ◌∷◌}
use Prim.Native.Nat.{ℕ, ◌≤◌, ◌<◌}
use native.Mathlib.Omega.{arith}
use lib.Dec.{lit<}
use lib.ListN.{length, drop}
use borrow.Author.Tests.{lt-ltb, le-ltb}
use Rattle.laws.specs.Bounded.{tab, tab_from}
use Rattle.jobhead.specs.Numbers.{HeadNumbers, refused_head}
use Rattle.lines.specs.Lines.{Lines, lines, refused, lines_of}
use Rattle.jobfile.specs.File.{max_file, head_line, Answer, read_rest, read_job}
use Rattle.lines.specs.Places.{numbers_at}
use Rattle.jobhead.specs.Reading.{JobRead, FileRead}
use Rattle.jobhead.specs.ReadLines.{head_numbers, head_in, HeadRead}
use Rattle.lines.proofs.LinesLaws.{lines_all}
use Rattle.restlines.proofs.RestLaws.{rest_same, turned_read}

-- J lines that were refused
refused_head_lem : (x : Lines) (h : HeadNumbers) → h ≡ head_in x → (h.refusal ≡ 0 → ⊥) → x ≡ refused h.refusal
refused_head_lem (lines [] rest) h e q = absurd (q (ap (λ (v : HeadNumbers). v.refusal) e))
refused_head_lem (lines (ns ∷ ls) rest) h e q = absurd (q (ap (λ (v : HeadNumbers). v.refusal) e))
refused_head_lem (refused k) h e q = ap refused (sym (ap (λ (v : HeadNumbers). v.refusal) e))

-- a file that is too long
pub long_read : (file l : List ℕ) (r : HeadNumbers) → max_file < length file → r ≡ refused_head 1 → FileRead file l l r
unfolding read_job
long_read file l r h is = record {
  read = turned_read (read_job file) 1 l l r (rw (lt-ltb max_file (length file) h)) (λ z. absurd (omega arith)) is (rest_same l);
  too_long = λ x. refl;
}

module _ (file l m : List ℕ) (h r : HeadNumbers) (few : length file ≤ max_file) (x : HeadRead file h) where
  -- a J line that does not pass
  pub head_refused : (h.refusal ≡ 0 → ⊥) → r ≡ refused_head h.refusal → m ≡ l → FileRead file l m r
  unfolding read_job
  head_refused q is same = record {
    read =
        turned_read (read_job file) h.refusal l m r
        (rw (le-ltb max_file (length file) few, refused_head_lem (lines_of head_line 1 0 [] file) h x.exact q))
        q is (rw same (rest_same l));
    too_long = λ z. absurd (omega arith);
  }

  -- the lines past it
  pub file_read
      : h.refusal ≡ 0 → JobRead (read_rest (h.states ∷ h.symbols ∷ h.nodes ∷ h.edges ∷ []) (drop 26 file)) l m r → FileRead file l m r
  unfolding read_job read_rest tab tab_from
  file_read z y =
      let e = lines_all head_line file 1 (lit< tt) (λ j p. rw (only j p) (x.passed z)) in
      let is : h ≡ head_numbers (numbers_at head_line file 0) = x.exact ∙ ap head_in e in
      record {
        read =
            subst (λ (v : Answer). JobRead v l m r)
            (ap (λ (v : HeadNumbers). read_rest (v.states ∷ v.symbols ∷ v.nodes ∷ v.edges ∷ []) (drop 26 file)) is
            ∙ sym (rw (le-ltb max_file (length file) few, e)))
            y;
        too_long = λ q. absurd (omega arith);
      }
    where
      only : (j : ℕ) → j < 1 → j ≡ 0
      only j p = omega arith
