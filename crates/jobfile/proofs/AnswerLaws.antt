-- Every file has one answer: it is accepted with one job, or turned back by one number, which is 1 or 3 to 10.
-- Assumes nothing.
use Prim.Native.Nat.{ℕ, ◌≤◌}
use mathlib.Core.Path.{◌≡◌, refl}
use mathlib.Core.Logic.{◌⊎◌, inl, inr}
use mathlib.Core.List.{List}
use native.Mathlib.Omega.{arith}
use Rattle.job.specs.Job.{Job}
use Rattle.lines.specs.Lines.{LineKind}
use Rattle.jobfile.specs.File.{head_line, rule_line, node_line, edge_line, Answer, accepted, turned, read_job}
use Rattle.lines.specs.Written.{BadLine, ended, malformed, outside}
use Rattle.jobfile.specs.Refusal.{TurnedBack, too_long, at_head, at_rule, at_node, at_Edge, bytes_follow, no_entry, RefusalNumber, RefusesInOrder, AnswersEveryFile, TurnedOnce, TurnedNotAccepted}
use Rattle.jobfile.proofs.RefusalLaws.{turned_says}

-- the kinds' own numbers
pub own_numbers
    : (s a n : ℕ) → (head_line.refusal ≡ 5) × ((rule_line s a).refusal ≡ 6) × ((node_line s a).refusal ≡ 7) × ((edge_line n).refusal ≡ 8)
own_numbers s a n = (refl, refl, refl, refl)

-- the answer is the first that fails
pub refuses_in_order : RefusesInOrder
refuses_in_order = turned_says

-- a line is turned back by 3, 4 or its kind's own number
bad_number
    : {k : LineKind} {i r : ℕ} {before bytes : List ℕ} → 3 ≤ k.refusal → k.refusal ≤ 10 → BadLine k i before bytes r
    → RefusalNumber r
bad_number low high (ended none) = inr (omega arith)
bad_number low high (malformed some none) = inr (omega arith)
bad_number low high (outside l bad) = inr (low, high)

-- a file is turned back by 1 or 3 to 10
pub turned_number : {file : List ℕ} {r : ℕ} → TurnedBack file r → RefusalNumber r
turned_number (too_long l) = inl refl
turned_number (at_head short f) = bad_number (omega arith) (omega arith) f.bad
turned_number (at_rule p f) = bad_number (omega arith) (omega arith) f.bad
turned_number (at_node p f) = bad_number (omega arith) (omega arith) f.bad
turned_number (at_Edge p f) = bad_number (omega arith) (omega arith) f.bad
turned_number (bytes_follow p some) = inr (omega arith)
turned_number (no_entry p none) = inr (omega arith)

-- by one number
pub turned_once : TurnedOnce
turned_once file q r s t = cc ((turned_says file q).1 s, (turned_says file r).1 t)

-- and is not accepted then
pub turned_not_accepted : TurnedNotAccepted
turned_not_accepted file r j t e = let z : ◌≡◌ {A = ℕ} 0 1 = cc ((turned_says file r).1 t) in omega arith

-- every file is accepted or turned back
pub answered : AnswersEveryFile
answered file = go (read_job file) refl
  where
    go
        : (x : Answer) → read_job file ≡ x
        → ((j : Job) × (read_job file ≡ accepted j)) ⊎ ((r : ℕ) × TurnedBack file r × RefusalNumber r)
    go (accepted j) e = inl (j, e)
    go (turned r) e = let t = (turned_says file r).0 e in inr (r, t, turned_number t)
