-- Laws of the place where a test fails first, found in a list of what is tested.
-- Assumes nothing.
use mathlib.Core.Path.{◌≡◌, sym, ap, ◌∙◌}
use mathlib.Core.Bool.{Bool, true, false}
use mathlib.Core.List.{List}
use Prim.Native.Nat.{ℕ, ◌+◌, ◌-◌, ◌≤◌, ◌<◌}
use native.Mathlib.Omega.{arith}
use lib.ListN.{length, get_or}
use Rattle.std.specs.List.Sorted.{IsPartitionPoint, IsPartitionedBy}
use Rattle.arrivals.specs.Shifts.{Downward, Cut}

-- a list of which element i is tested as place first + i is
module _ {X : Type 0} (xs : List X) (p : X → Bool) (f : ℕ → Bool) (first last : ℕ) (all : first + length xs ≡ last)
    (same : (i : ℕ) (d : X) → i < length xs → p (get_or xs i d) ≡ f (first + i)) where
  -- where the test passes at a place, it passes at all before
  pub parted : Downward f first last → IsPartitionedBy p xs
  parted down i j d order inside holds =
      same i d (omega arith)
      ∙ down (first + i) (first + j) (omega arith) (omega arith) (omega arith) (sym (same j d inside) ∙ holds)

  -- the point of the list where it fails first is the place
  pub point_cut
      : (d : X) (r q : ℕ) → q ≡ first + r → r ≤ length xs → IsPartitionPoint (λ y. p y ≡ true) (λ y. p y ≡ false) xs r → Cut f first last q
  point_cut d r q e bound point =
      record {
        from_first = omega arith;
        to_last = omega arith;
        passes = λ i g h.
            let place : first + (i - first) ≡ i = omega arith in
            ap f (sym place) ∙ sym (same (i - first) d (omega arith)) ∙ point.0 (i - first) d (omega arith) (omega arith);
        fails = λ i g h.
            let place : first + (i - first) ≡ i = omega arith in
            ap f (sym place) ∙ sym (same (i - first) d (omega arith)) ∙ point.1 (i - first) d (omega arith) (omega arith);
      }
