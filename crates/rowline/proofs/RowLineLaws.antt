-- Laws of the line of a row, in the shape of the code.
-- Assumes nothing.
use Rattle.std.specs.Prelude.{Some, None, Result, Ok, Err}
use Rattle.std.specs.Result.{result_ok}
use mathlib.Core.Path.{◌≡◌, refl, sym, ap, ◌∙◌}
use mathlib.Core.Bool.{Bool, cond}
use mathlib.Core.List.{List, []}
use Prim.Native.Nat.{ℕ}
use lib.ListN.{replicate}
use Rattle.refusal.specs.declared.Refusal.{Refusal}
use Rattle.refusal.specs.Refusal.{status_in}
use Rattle.refusal.proofs.RefusalLaws.{status_none, status_some}
use Rattle.lines.specs.Inner.{due_status, DueRead}
use Rattle.lines.specs.Line.{Due, ends, no_line, found, line_of}
use Rattle.lines.proofs.LinesLaws.{due_found}
use Rattle.rulerows.specs.RuleRows.{row_of, good_row, row_line}
use Rattle.rulerows.specs.Inner.{row_due}

-- nothing, or no line
no_row : (s a : ℕ) (d : Due) → (due_status d ≡ 0 → ⊥) → None ≡ row_due s a d
no_row s a ends q = refl
no_row s a no_line q = refl
no_row s a (found ns) q = absurd (q refl)

module _ (s a : ℕ) (bytes : List ℕ) {T : Type 0} {ns : List ℕ} (r : Result T Refusal)
    (e : DueRead (line_of 81 5 bytes) 5 (replicate 5 0) ns (status_in r)) where
  -- nothing, or no line
  pub row_stop : result_ok r ≡ None → None ≡ row_due s a (line_of 81 5 bytes)
  row_stop q = no_row s a (line_of 81 5 bytes) (λ z. status_some r q (e.status ∙ z))

  -- a line, by the test of its numbers
  pub row_tested
      : (v : T) → result_ok r ≡ Some v → (t : Bool) → good_row s a 0 [] ns ≡ t
      → cond t (Some (row_of ns)) None ≡ row_due s a (line_of 81 5 bytes)
  row_tested v q t g =
      ap (λ (b : Bool). cond b (Some (row_of ns)) None) (sym g)
      ∙ sym (ap (row_due s a) (due_found (row_line s a) 0 [] bytes e (status_none r v q) refl))
