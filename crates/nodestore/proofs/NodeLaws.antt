-- Laws of a node in the buffer, in the shape of the code.
-- Assumes nothing.
use mathlib.Core.Path.{◌≡◌, ◌∙◌}
use mathlib.Core.Logic.{◌⊎◌, inl, inr}
use mathlib.Core.List.{List}
use Prim.Native.Nat.{ℕ, ◌+◌, ◌*◌, ◌≤◌, ◌<◌}
use native.Mathlib.Nat.{ne_of_lt}
use native.Mathlib.Omega.{arith}
use lib.ListN.{length, get_or, set, length-set}
use lib.Seq.{get_or-set_same, get_or-set_other}
use Rattle.laws.specs.Bytes.{number_at, put_number}
use Rattle.laws.proofs.Bytes.{number_cong, number_put, number_put_other, length_put, get_d_put_outside}
use Rattle.lines.specs.Line.{at}
use Rattle.jobfile.specs.File.{node_of}
use Rattle.buffer.specs.Layout.{Lent}
use Rattle.buffer.specs.Views.{node_in}
use Rattle.jobhead.specs.Stored.{NodeFits, NodeStored}

-- a byte stored past a number
number_set : (l : List ℕ) (i v j : ℕ) → j + 2 ≤ i → number_at 2 (set l i v) j ≡ number_at 2 l j
number_set l i v j h = number_cong 2 (set l i v) l j j (λ k p. get_or-set_other l i (j + k) v 0 (ne_of_lt (omega arith)))

module _ (l : List ℕ) (n : ℕ) (ns : List ℕ) (h : n < 512) (long : Lent l) (z : NodeFits ns) where
  abbrev kind : ℕ
  kind = at ns 1

  abbrev value : ℕ
  value = at ns 2

  abbrev entries : ℕ
  entries = at ns 3

  abbrev exits : ℕ
  exits = at ns 4

  abbrev after : ℕ
  after = at ns 5

  abbrev w1 : List ℕ
  w1 = put_number 2 l (n * 8) value

  abbrev w2 : List ℕ
  w2 = put_number 2 w1 (n * 8 + 2) entries

  abbrev w3 : List ℕ
  w3 = put_number 2 w2 (n * 8 + 4) after

  abbrev w4 : List ℕ
  w4 = set w3 (n * 8 + 6) kind

  long1 : length w1 ≡ length l
  long1 = length_put 2 l (n * 8) value

  long2 : length w2 ≡ length l
  long2 = length_put 2 w1 (n * 8 + 2) entries ∙ long1

  long3 : length w3 ≡ length l
  long3 = length_put 2 w2 (n * 8 + 4) after ∙ long2

  long4 : length w4 ≡ length l
  long4 = length-set w3 (n * 8 + 6) kind ∙ long3

  value_is : number_at 2 (set w4 (n * 8 + 7) exits) (n * 8) ≡ value
  value_is =
      number_set w4 (n * 8 + 7) exits (n * 8) (omega arith) ∙ number_set w3 (n * 8 + 6) kind (n * 8) (omega arith)
      ∙ number_put_other 2 2 w2 (n * 8 + 4) (n * 8) after (inl (omega arith))
      ∙ number_put_other 2 2 w1 (n * 8 + 2) (n * 8) entries (inl (omega arith))
      ∙ number_put 2 l (n * 8) value z.value (omega arith)

  entries_are : number_at 2 (set w4 (n * 8 + 7) exits) (n * 8 + 2) ≡ entries
  entries_are =
      number_set w4 (n * 8 + 7) exits (n * 8 + 2) (omega arith) ∙ number_set w3 (n * 8 + 6) kind (n * 8 + 2) (omega arith)
      ∙ number_put_other 2 2 w2 (n * 8 + 4) (n * 8 + 2) after (inl (omega arith))
      ∙ number_put 2 w1 (n * 8 + 2) entries z.entries (omega (arith, long1))

  after_is : number_at 2 (set w4 (n * 8 + 7) exits) (n * 8 + 4) ≡ after
  after_is =
      number_set w4 (n * 8 + 7) exits (n * 8 + 4) (omega arith) ∙ number_set w3 (n * 8 + 6) kind (n * 8 + 4) (omega arith)
      ∙ number_put 2 w2 (n * 8 + 4) after z.after (omega (arith, long2))

  kind_is : get_or (set w4 (n * 8 + 7) exits) (n * 8 + 6) 0 ≡ kind
  kind_is =
      get_or-set_other w4 (n * 8 + 7) (n * 8 + 6) exits 0 (ne_of_lt (omega arith))
      ∙ get_or-set_same w3 (n * 8 + 6) kind 0 (omega (arith, long3))

  exits_are : get_or (set w4 (n * 8 + 7) exits) (n * 8 + 7) 0 ≡ exits
  exits_are = get_or-set_same w4 (n * 8 + 7) exits 0 (omega (arith, long4))

  other_byte : (k : ℕ) → (k < n * 8) ⊎ (n * 8 + 8 ≤ k) → get_or (set w4 (n * 8 + 7) exits) k 0 ≡ get_or l k 0
  other_byte k p =
      get_or-set_other w4 (n * 8 + 7) k exits 0 (not_at (n * 8 + 7) (omega arith) (omega arith) p)
      ∙ get_or-set_other w3 (n * 8 + 6) k kind 0 (not_at (n * 8 + 6) (omega arith) (omega arith) p)
      ∙ get_d_put_outside 2 w2 (n * 8 + 4) after k 0 (apart (n * 8 + 4) (omega arith) (omega arith) p)
      ∙ get_d_put_outside 2 w1 (n * 8 + 2) entries k 0 (apart (n * 8 + 2) (omega arith) (omega arith) p)
      ∙ get_d_put_outside 2 l (n * 8) value k 0 (apart (n * 8) (omega arith) (omega arith) p)
    where
      not_at : (i : ℕ) → n * 8 ≤ i → i < n * 8 + 8 → (k < n * 8) ⊎ (n * 8 + 8 ≤ k) → k ≡ i → ⊥
      not_at i a b (inl q) e = absurd (omega arith)
      not_at i a b (inr q) e = absurd (omega arith)

      apart : (i : ℕ) → n * 8 ≤ i → i + 2 ≤ n * 8 + 8 → (k < n * 8) ⊎ (n * 8 + 8 ≤ k) → (k < i) ⊎ (i + 2 ≤ k)
      apart i a b (inl q) = inl (omega arith)
      apart i a b (inr q) = inr (omega arith)

  -- the stores of a node
  pub node_stored
      : (v1 v2 v3 : List ℕ) → v1 ≡ put_number 2 l (n * 8) value → v2 ≡ put_number 2 v1 (n * 8 + 2) entries
      → v3 ≡ put_number 2 v2 (n * 8 + 4) after
      → NodeStored l (set (set v3 (n * 8 + 6) kind) (n * 8 + 7) exits) n (node_of ns)
  unfolding node_in
  node_stored v1 v2 v3 e1 e2 e3 =
      rw (e3, e2, e1)
      (record {
        here = rw (value_is, entries_are, after_is, kind_is, exits_are);
        kept = record { long = length-set w4 (n * 8 + 7) exits ∙ long4; outside = other_byte };
      })
