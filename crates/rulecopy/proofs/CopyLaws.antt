-- A rule buffer with every byte of the rule's part is that part.
-- Assumes nothing.
use mathlib.Core.Path.{◌≡◌, sym, ◌∙◌}
use mathlib.Core.List.{List}
use Prim.Native.Nat.{ℕ, ◌+◌, ◌<◌}
use native.Mathlib.Omega.{arith}
use lib.ListN.{length, get_or, take, drop, length-drop}
use lib.Seq.{ext_get_or, get_or-take, get_or-drop, length-take-le}
use Rattle.buffer.specs.Layout.{rule_part, Lent}

-- 256 bytes, each copied
pub rule_copied
    : (work rule : List ℕ) → Lent work → length rule ≡ 256 → ((k : ℕ) → k < 256 → get_or rule k 0 ≡ get_or work (rule_part + k) 0)
    → rule ≡ take 256 (drop rule_part work)
rule_copied work rule long size bytes =
    let part = drop rule_part work in
    let count = length-take-le 256 part (omega (arith, length-drop rule_part work, long)) in
    ext_get_or 0 rule (take 256 part) (size ∙ sym count)
    (λ k h. bytes k (omega arith) ∙ sym (get_or-take 256 part k 0 (omega arith) ∙ get_or-drop rule_part work k 0))
