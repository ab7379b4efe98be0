-- Laws of the rule in the buffer and of R lines, in the shape of the code.
-- Assumes nothing.
use mathlib.Core.Path.{◌≡◌, ◌∙◌}
use mathlib.Core.Logic.{⊎_elim}
use mathlib.Core.List.{List}
use Prim.Native.Nat.{ℕ, ◌+◌, ◌*◌, ◌≤◌, ◌<◌}
use native.Mathlib.Nat.{not-suc-le-zero, eq-or-lt_of_le, le_of_suc-le-suc, ne_of_lt}
use native.Mathlib.Numerals.{add-one}
use native.Mathlib.Omega.{arith}
use lib.ListN.{length, get_or, set}
use lib.Seq.{get_or-set_same, get_or-set_other}
use Rattle.buffer.specs.Layout.{rule_part, Lent}
use Rattle.buffer.specs.Views.{cell_in}
use Rattle.buffer.specs.Kept.{SameOutside}
use Rattle.jobhead.specs.Stored.{RowStored}
use Rattle.buffer.proofs.KeptLaws.{kept_none, kept_both, kept_set}

-- bytes from a place on are right, one more by each store
pub bytes_more
    : (l : List ℕ) (p k v : ℕ) (f : ℕ → ℕ) → p + k < length l → ((j : ℕ) → j < k → get_or l (p + j) 0 ≡ f j) → v ≡ f k
    → (j : ℕ) → j < k + 1 → get_or (set l (p + k) v) (p + j) 0 ≡ f j
bytes_more l p k v f h before e j g =
    ⊎_elim
    (λ (q : j ≡ k). rw q (get_or-set_same l (p + k) v 0 h ∙ e))
    (λ (q : j < k). get_or-set_other l (p + k) (p + j) v 0 (ne_of_lt (omega arith)) ∙ before j q)
    (eq-or-lt_of_le (le_of_suc-le-suc (rw (add-one k) at g)))

-- a store in a part
pub part_more
    : (l m : List ℕ) (i j x v : ℕ) → SameOutside l m i j → i ≤ x → x < j → SameOutside l (set m x v) i j
part_more l m i j x v p h g = kept_both l m (set m x v) i j x (x + 1) p (kept_set m x v) h (omega arith)

-- the first cells of row q
pub record CellsStored (l m : List ℕ) (q : ℕ) (ns : List ℕ) (c : ℕ) : Type 0 where
  pub here : (j : ℕ) → j < c → get_or m (rule_part + q * 16 + j) 0 ≡ get_or ns (j + 2) 0
  pub kept : SameOutside l m (rule_part + q * 16) (rule_part + q * 16 + 16)

-- none is stored yet
pub cells_none : (l : List ℕ) (q : ℕ) (ns : List ℕ) → CellsStored l l q ns 0
cells_none l q ns = record { here = λ j h. absurd (not-suc-le-zero h); kept = kept_none l (rule_part + q * 16) (rule_part + q * 16 + 16) }

-- one cell more
pub cells_more
    : (l m : List ℕ) (q : ℕ) (ns : List ℕ) (c v : ℕ) → c < 16 → q < 16 → Lent l → CellsStored l m q ns c → v ≡ get_or ns (c + 2) 0
    → CellsStored l (set m (rule_part + q * 16 + c) v) q ns (c + 1)
cells_more l m q ns c v h g long s e = record {
  here = bytes_more m (rule_part + q * 16) c v (λ j. get_or ns (j + 2) 0) (omega (arith, s.kept.long)) s.here e;
  kept = part_more l m (rule_part + q * 16) (rule_part + q * 16 + 16) (rule_part + q * 16 + c) v s.kept (omega arith) (omega arith);
}

-- all are stored
pub cells_end : (l m : List ℕ) (q : ℕ) (ns : List ℕ) (c : ℕ) → 16 ≤ c → CellsStored l m q ns c → RowStored l m q ns
unfolding cell_in
cells_end l m q ns c h s = record { here = λ j g. s.here j (omega arith); kept = s.kept }
