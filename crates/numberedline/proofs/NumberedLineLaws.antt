-- Laws of one numbered line, in the shape of the code.
-- Assumes nothing.
use Rattle.std.specs.Prelude.{Some, None, Result, Ok, Err}
use Rattle.std.specs.Result.{result_ok}
use mathlib.Core.Path.{◌≡◌, refl, sym, ap, ◌∙◌}
use mathlib.Core.Bool.{Bool, true, false, cond, ◌&&◌, and-false}
use mathlib.Core.List.{List, []}
use Prim.Native.Nat.{ℕ, ◌≤◌, ◌<◌}
use lib.Dec.{eqb, leb}
use lib.ListN.{replicate}
use borrow.Author.Tests.{eq-eqb, ne_eqb, le-leb, lt-leb}
use Rattle.refusal.specs.declared.Refusal.{Refusal}
use Rattle.refusal.specs.Refusal.{status_in}
use Rattle.refusal.proofs.RefusalLaws.{status_none, status_some}
use Rattle.lines.specs.Inner.{due_status, DueRead}
use Rattle.lines.specs.Line.{Due, ends, no_line, found, line_of, at}
use Rattle.lines.proofs.LinesLaws.{due_found}
use Rattle.pricing.specs.Numbered.{good_numbered, numbered_line}
use Rattle.pricing.specs.Inner.{number_due}

-- nothing, or no line
no_number : (limit place : ℕ) (d : Due) → (due_status d ≡ 0 → ⊥) → None ≡ number_due limit place d
no_number limit place ends q = refl
no_number limit place no_line q = refl
no_number limit place (found ns) q = absurd (q refl)

module _ (letter limit place : ℕ) (bytes : List ℕ) {T : Type 0} {ns : List ℕ} (r : Result T Refusal)
    (e : DueRead (line_of letter 2 bytes) 2 (replicate 2 0) ns (status_in r)) where
  -- nothing, or no line
  pub number_stop : result_ok r ≡ None → None ≡ number_due limit place (line_of letter 2 bytes)
  number_stop q = no_number limit place (line_of letter 2 bytes) (λ z. status_some r q (e.status ∙ z))

  module _ (v : T) (q : result_ok r ≡ Some v) where
    -- a line with these numbers
    line_found : line_of letter 2 bytes ≡ found ns
    line_found = due_found (numbered_line letter limit 0) place [] bytes e (status_none r v q) refl

    -- by the test of its numbers
    number_tested : (t : Bool) → good_numbered limit place [] ns ≡ t → cond t (Some (at ns 1)) None ≡ number_due limit place (line_of letter 2 bytes)
    number_tested t g = ap (λ (b : Bool). cond b (Some (at ns 1)) None) (sym g) ∙ sym (ap (number_due limit place) line_found)

    -- another place
    pub number_elsewhere : (at ns 0 ≡ place → ⊥) → None ≡ number_due limit place (line_of letter 2 bytes)
    number_elsewhere q = number_tested false (ap (λ (b : Bool). b && leb (at ns 1) limit) (ne_eqb (at ns 0) place q))

    -- a number above the limit
    pub number_above : limit < at ns 1 → None ≡ number_due limit place (line_of letter 2 bytes)
    number_above h =
        number_tested false
        (ap (λ (b : Bool). eqb (at ns 0) place && b) (lt-leb (at ns 1) limit h) ∙ and-false (eqb (at ns 0) place))

    -- a line that passes
    pub number_passes : at ns 0 ≡ place → at ns 1 ≤ limit → Some (at ns 1) ≡ number_due limit place (line_of letter 2 bytes)
    number_passes p l = number_tested true (rw (eq-eqb (at ns 0) place p, le-leb (at ns 1) limit l) refl)
