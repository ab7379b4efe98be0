-- Job files alike (document 02, request 5): "a file with them", zeros before a number's digits, "must give the same answer as the file
-- written without". That files alike are read alike, cut, damaged or sound, is stated at the end.
-- Assumes nothing.
use Rattle.std.specs.Prelude.{◌≡◌, List, [], ◌∷◌, ◌++◌, ℕ, ◌+◌, ◌≤◌, ◌<◌, length, replicate}
use Rattle.lines.specs.Line.{at}
use Rattle.lines.specs.Written.{FirstBad}
use Rattle.lines.specs.Alike.{AlikeOver, AlikeUpTo, NoZerosOver}
use Rattle.jobfile.specs.File.{max_file, head_line, rule_line, node_line, edge_line, read_job}
use Rattle.jobfile.specs.Refusal.{PastHead, PastRules, PastNodes, PastEdges}

-- the lines due in a file that is turned back for its length or at a line, up to that line, by how many fields each has: 4 in a J line,
-- A + 2 in an R line, 6 in a P line, 2 in an F line
pub data TurnedDue (file : List ℕ) : List ℕ → Type 0 where
  -- the file is too long: no line is looked at, and any lines may be taken for those due
  any_due : {due : List ℕ} → max_file < length file → TurnedDue file due
  -- the J line is turned back
  head_due : {r : ℕ} → length file ≤ max_file → FirstBad head_line 1 0 [] file r → TurnedDue file (4 ∷ [])
  -- an R line is turned back, after those passed
  rule_due
      : {r : ℕ} {head rest : List ℕ} → PastHead file head rest
      → (b : FirstBad (rule_line (at head 0) (at head 1)) (at head 0) 0 [] rest r)
      → TurnedDue file (4 ∷ (replicate (length b.passed) (at head 1 + 2) ++ ((at head 1 + 2) ∷ [])))
  -- a P line is turned back
  node_due
      : {r : ℕ} {head rest : List ℕ} {rules : List (List ℕ)} → PastRules file head rules rest
      → (b : FirstBad (node_line (at head 0) (at head 1)) (at head 2) 0 [] rest r)
      → TurnedDue file (4 ∷ (replicate (length rules) (at head 1 + 2) ++ (replicate (length b.passed) 6 ++ (6 ∷ []))))
  -- an F line is turned back
  edge_due
      : {r : ℕ} {head rest : List ℕ} {rules nodes : List (List ℕ)} → PastNodes file head rules nodes rest
      → (b : FirstBad (edge_line (at head 2)) (at head 3) 0 [] rest r)
      → TurnedDue file
      (4 ∷ (replicate (length rules) (at head 1 + 2) ++ (replicate (length nodes) 6 ++ (replicate (length b.passed) 2 ++ (2 ∷ [])))))

-- the lines due in any file: those, or all lines of a file of which no line is turned back
pub data LinesDue (file : List ℕ) : List ℕ → Type 0 where
  some_due : {due : List ℕ} → TurnedDue file due → LinesDue file due
  all_due
      : {head rest : List ℕ} {rules nodes edges : List (List ℕ)} → PastEdges file head rules nodes edges rest
      → LinesDue file
      (4 ∷ (replicate (length rules) (at head 1 + 2) ++ (replicate (length nodes) 6 ++ (replicate (length edges) 2 ++ []))))

-- files alike: one length, alike fields in the lines due up to the one that is turned back, equal bytes everywhere else
pub record Alike (f g : List ℕ) : Type 0 where
  pub long : length f ≡ length g
  pub due : List ℕ
  pub lines : LinesDue f due
  pub over : AlikeOver due f g

-- a file without zeros before a number's digits, in the fields of the lines due
pub record WithoutZeros (file : List ℕ) : Type 0 where
  pub due : List ℕ
  pub lines : LinesDue file due
  pub none : NoZerosOver due file

-- the statement: every file has its lines due, and is alike itself; files that are turned back are alike by the lines up to the one turned
-- back, and too long ones by any lines; files alike are so either way, and they are read alike. Of a file that is turned back at a line,
-- what follows that line is not looked at
pub record AlikeSays : Type 0 where
  pub itself : (f : List ℕ) → Alike f f
  pub turned : (f g due : List ℕ) → length f ≡ length g → TurnedDue f due → AlikeOver due f g → Alike f g
  pub too_long : (f due : List ℕ) → max_file < length f → TurnedDue f due
  pub either_way : (f g : List ℕ) → Alike f g → Alike g f
  pub read_alike : (f g : List ℕ) → Alike f g → read_job f ≡ read_job g
  pub no_further : (f g due : List ℕ) → length f ≡ length g → TurnedDue f due → AlikeUpTo due f g → read_job f ≡ read_job g
