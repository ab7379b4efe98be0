-- Laws of the starts of the nodes in the buffer, in the shape of the code.
-- Assumes nothing.
use mathlib.Core.Path.{◌≡◌, ◌∙◌}
use mathlib.Core.Logic.{inl, ⊎_elim}
use mathlib.Core.List.{List}
use Prim.Native.Nat.{ℕ, ◌+◌, ◌*◌, ◌≤◌, ◌<◌}
use native.Mathlib.Nat.{eq-or-lt_of_le, le_of_suc-le-suc}
use native.Mathlib.Numerals.{add-one}
use native.Mathlib.Omega.{arith}
use Rattle.laws.specs.Bytes.{put_number}
use Rattle.laws.proofs.Bytes.{number_put}
use Rattle.buffer.specs.Layout.{starts_part, Lent}
use Rattle.buffer.specs.Views.{start_in}
use Rattle.buffer.specs.Kept.{SameOutside}
use Rattle.jobhead.specs.Stored.{StartsFilled}
use Rattle.buffer.proofs.KeptLaws.{kept_none, kept_both, kept_put, number_kept}

-- the starts from a up to j are filled
pub record StartsSoFar (l m : List ℕ) (a b v j : ℕ) : Type 0 where
  pub here : (i : ℕ) → a ≤ i → i < j → start_in m i ≡ v
  pub kept : SameOutside l m (starts_part + a * 2) (starts_part + b * 2)

-- none is filled yet
pub starts_none : (l : List ℕ) (a b v : ℕ) → StartsSoFar l l a b v a
starts_none l a b v = record { here = λ i g h. absurd (omega arith); kept = kept_none l (starts_part + a * 2) (starts_part + b * 2) }

-- one start more
pub Starts-more
    : (l m k : List ℕ) (a b v j : ℕ) → a ≤ j → j < b → b ≤ 513 → v < 65536 → Lent l → StartsSoFar l m a b v j
    → k ≡ put_number 2 m (starts_part + j * 2) v → StartsSoFar l k a b v (j + 1)
unfolding start_in
Starts-more l m k a b v j h g few fits long s e =
    let p = kept_put m k (starts_part + j * 2) v e in
    record {
      here = λ i x y.
          ⊎_elim
          (λ (q : i ≡ j). rw (q, e) (number_put 2 m (starts_part + j * 2) v fits (omega (arith, s.kept.long))))
          (λ (q : i < j). number_kept m k (starts_part + j * 2) (starts_part + j * 2 + 2) p (starts_part + i * 2) (inl (omega arith)) ∙ s.here i x q)
          (eq-or-lt_of_le (le_of_suc-le-suc (rw (add-one j) at y)));
      kept = kept_both l m k (starts_part + a * 2) (starts_part + b * 2) (starts_part + j * 2) (starts_part + j * 2 + 2) s.kept p (omega arith) (omega arith);
    }

-- all are filled
pub starts_end : (l m : List ℕ) (a b v j : ℕ) → b ≤ j → StartsSoFar l m a b v j → StartsFilled l m a b v
starts_end l m a b v j h s = record { here = λ i x y. s.here i x (omega arith); kept = s.kept }
