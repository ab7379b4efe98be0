-- Laws of stores in turn (`sets` of lib.Seq).
-- Assumes nothing.
use Prim.Native.Nat.{ℕ, suc, ◌+◌, ◌<◌}
use mathlib.Core.Path.{◌≡◌, refl, ap, ◌∙◌}
use mathlib.Core.List.{List, [], ◌∷◌, ◌++◌}
use native.Mathlib.Nat.{le_step, ne_of_gt, add-zero, add-suc, suc-add}
use lib.ListN.{length, set}
use lib.Seq.{sets, set_comm}

-- some elements and then others after them
pub sets_append
    : {A : Type 0} (l : List A) (i : ℕ) (xs ys : List A) → sets l i (xs ++ ys) ≡ sets (sets l i xs) (i + length xs) ys
sets_append l i [] ys = rw (add-zero i)
sets_append l i (x ∷ xs) ys = rw (add-suc i (length xs), ← suc-add i (length xs)) (sets_append (set l i x) (suc i) xs ys)

-- a store before them
pub set_sets
    : {A : Type 0} (l : List A) (i : ℕ) (xs : List A) (k : ℕ) (b : A) → k < i → set (sets l i xs) k b ≡ sets (set l k b) i xs
set_sets l i [] k b h = refl
set_sets l i (x ∷ xs) k b h =
    set_sets (set l i x) (suc i) xs k b (le_step h)
    ∙ ap (λ (m : List _). sets m (suc i) xs) (set_comm l i k x b (ne_of_gt h))
