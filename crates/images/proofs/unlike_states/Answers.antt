-- `images::unlike_states` meets its contract: the final states where p is none of them, else their complement.
-- Assumes nothing.
use mathlib.Core.Path.{◌≡◌, sym, ap, ◌∙◌}
use mathlib.Core.Bool.{Bool, true, false}
use Prim.Native.Nat.{ℕ, ◌-◌, ◌^◌, ◌<◌}
use native.Mathlib.Omega.{arith}
use Rattle.laws.specs.Bits.{has}
use Rattle.laws.proofs.Bits.{set_ext}
use Rattle.job.specs.Search.{unlike}
use Rattle.tables.specs.Rows.{unlike_states}
use Rattle.tables.proofs.Complement.{has_complement}
use Rattle.tables.proofs.SetLaws.{set_of_lt}
use Rattle.tables.proofs.RowLaws.{has_unlike}
use Rattle.images.proofs.unlike_states.Goals as goal

-- the states unlike p are a set of 16 bits
unlike_lt : (finals p : ℕ) → unlike_states finals p < 2 ^ 16
unfolding unlike_states
unlike_lt finals p = set_of_lt 16 16 (λ (q : ℕ). unlike (has finals p) (has finals q)) (omega arith)

-- a set of 16 bits that has the states unlike p is it
unlike_of
    : (finals p s : ℕ) → s < 2 ^ 16 → ((q : ℕ) → q < 16 → has s q ≡ unlike (has finals p) (has finals q)) → s ≡ unlike_states finals p
unlike_of finals p s l h = set_ext 16 s (unlike_states finals p) l (unlike_lt finals p) (λ q k. h q k ∙ sym (has_unlike finals p q k))

pub returns-then-not-contains : goal.returns-then-not-contains
returns-then-not-contains c =
    let finals = c.args.finals in
    let h : has finals c.args.p ≡ false = sym c.contains.ensures ∙ c.if-not-contains.true in
    unlike_of finals c.args.p finals c.ranges.finals.fits
    (λ q k. ap (λ (b : Bool). unlike b (has finals q)) (sym h))

pub returns : goal.returns
returns c =
    let finals = c.args.finals in
    let small : finals < 2 ^ 16 = c.ranges.finals.fits in
    let h : has finals c.args.p ≡ true = sym c.contains.ensures ∙ c.if-not-contains.false in
    unlike_of finals c.args.p (65535 - finals) (omega arith)
    (λ q k. has_complement 16 finals q small k ∙ ap (λ (b : Bool). unlike b (has finals q)) (sym h))
