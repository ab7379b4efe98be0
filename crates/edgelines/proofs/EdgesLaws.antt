-- Laws of the reader of F lines, in the shape of the code.
-- Assumes nothing.
use mathlib.Core.Path.{◌≡◌, refl, sym, ap, ◌∙◌}
use mathlib.Core.Logic.{inl, inr, ⊎_elim, by_cases}
use mathlib.Core.List.{List, [], ◌∷◌}
use Prim.Native.Nat.{ℕ, zero, suc, ◌+◌, ◌*◌, ◌/◌, ◌%◌, ◌≤◌, ◌<◌}
use native.Mathlib.Nat.{not-suc-le-zero, eq-or-lt_of_le, le_of_suc-le-suc}
use native.Mathlib.Decide.{dec_lt}
use native.Mathlib.Numerals.{add-one}
use native.Mathlib.Omega.{arith}
use lib.Dec.{lit<}
use lib.ListN.{length, get_or, drop, length-drop}
use lib.Seq.{ext_get_or}
use Rattle.laws.specs.Bytes.{put_number}
use Rattle.laws.proofs.Bytes.{number_put}
use Rattle.std.specs.Prelude.{Result}
use Rattle.refusal.specs.declared.Refusal.{Refusal}
use Rattle.refusal.specs.Refusal.{status_in, value_in}
use Rattle.lines.specs.Line.{line_of, at}
use Rattle.jobfile.specs.File.{edge_line}
use Rattle.buffer.specs.Layout.{starts_part, targets_part, pair_part, Lent}
use Rattle.buffer.specs.Views.{start_in, target_in}
use Rattle.buffer.specs.Kept.{SameOutside}
use Rattle.jobhead.specs.Stored.{StartsFilled}
use Rattle.lines.specs.Places.{numbers_of, numbers_at, before_at, status_at}
use Rattle.jobhead.specs.ReadLines.{before_of, EdgeRead, EdgesRead}
use Rattle.lines.proofs.LinesLaws.{passed_more, read_all, read_stop, status_here, numbers_here, passed_length}
use Rattle.buffer.proofs.KeptLaws.{kept_none, kept_both, kept_put, number_kept}

-- where edge i begins, as its line says
abbrev source : ℕ → List ℕ → ℕ → ℕ
source n bytes i = at (numbers_at (edge_line n) bytes i) 0

-- the first e lines are read, from l to m, and the starts of the first `done` nodes are stored
pub record EdgesSoFar (n : ℕ) (bytes l m : List ℕ) (next done e : ℕ) : Type 0 where
  pub passed : (j : ℕ) → j < e → status_at (edge_line n) bytes j ≡ 0
  pub within : e * 14 ≤ length bytes
  pub before : before_of next ≡ before_at (edge_line n) bytes e
  pub small : next ≤ 262144
  pub reach : done ≡ (next + 511) / 512
  pub few : done ≤ n
  pub targets : (i : ℕ) → i < e → target_in m i ≡ at (numbers_at (edge_line n) bytes i) 1
  pub starts : (j : ℕ) → j < done → start_in m j ≤ e
  pub below : (i j : ℕ) → i < e → j < done → i < start_in m j → source n bytes i < j
  pub above : (i j : ℕ) → i < e → j < done → start_in m j ≤ i → j ≤ source n bytes i
  pub sources : (i : ℕ) → i < e → source n bytes i < done
  pub kept : SameOutside l m starts_part pair_part

-- none is read yet
pub edges_none : (n : ℕ) (bytes l : List ℕ) → EdgesSoFar n bytes l l 0 0 0
unfolding before_at
edges_none n bytes l = record {
  passed = λ j h. absurd (not-suc-le-zero h);
  within = omega arith;
  before = refl;
  small = omega arith;
  reach = omega arith;
  few = omega arith;
  targets = λ i h. absurd (not-suc-le-zero h);
  starts = λ j h. absurd (not-suc-le-zero h);
  below = λ i j h. absurd (not-suc-le-zero h);
  above = λ i j h. absurd (not-suc-le-zero h);
  sources = λ i h. absurd (not-suc-le-zero h);
  kept = kept_none l starts_part pair_part;
}

-- a list of two numbers
two_numbers : (xs : List ℕ) (a b : ℕ) → length xs ≡ 2 → a ≡ at xs 0 → b ≡ at xs 1 → a ∷ b ∷ [] ≡ xs
two_numbers xs a b h p q =
    ext_get_or 0 (a ∷ b ∷ []) xs (sym h) (λ i l. place i l)
  where
    place : (i : ℕ) → i < 2 → get_or (a ∷ b ∷ []) i 0 ≡ get_or xs i 0
    place zero l = p
    place (suc zero) l = q
    place (suc (suc i)) l = absurd (omega arith)

-- the starts of the buffer after the stores of an edge: those before are as they were, and the new ones are e
module _ (l m k w : List ℕ) (done from e v : ℕ) (few : from < 512) (reach : done ≤ from + 1) (le : e < 2048) (long : Lent m)
    (x : StartsFilled m k done (from + 1) e) (y : w ≡ put_number 2 k (targets_part + e * 2) v) where
  put : SameOutside k w (targets_part + e * 2) (targets_part + e * 2 + 2)
  put = kept_put k w (targets_part + e * 2) v y

  old_start : (j : ℕ) → j < done → start_in w j ≡ start_in m j
  unfolding start_in
  old_start j h =
      number_kept k w (targets_part + e * 2) (targets_part + e * 2 + 2) put (starts_part + j * 2) (inl (omega arith))
      ∙ number_kept m k (starts_part + done * 2) (starts_part + (from + 1) * 2) x.kept (starts_part + j * 2) (inl (omega arith))

  kept_start : (j : ℕ) → j < from + 1 → start_in w j ≡ start_in k j
  unfolding start_in
  kept_start j g = number_kept k w (targets_part + e * 2) (targets_part + e * 2 + 2) put (starts_part + j * 2) (inl (omega arith))

  new_start : (j : ℕ) → done ≤ j → j < from + 1 → start_in w j ≡ e
  new_start j h g = kept_start j g ∙ x.here j h g

  old_target : (i : ℕ) → i < e → target_in w i ≡ target_in m i
  unfolding target_in
  old_target i h =
      number_kept k w (targets_part + e * 2) (targets_part + e * 2 + 2) put (targets_part + i * 2) (inl (omega arith))
      ∙ number_kept m k (starts_part + done * 2) (starts_part + (from + 1) * 2) x.kept (targets_part + i * 2) (inr (omega arith))

  new_target : v < 65536 → target_in w e ≡ v
  unfolding target_in
  new_target h = rw y (number_put 2 k (targets_part + e * 2) v h (omega (arith, x.kept.long)))

  stores_kept : SameOutside l m starts_part pair_part → SameOutside l w starts_part pair_part
  stores_kept p =
      kept_both l k w starts_part pair_part (targets_part + e * 2) (targets_part + e * 2 + 2)
      (kept_both l m k starts_part pair_part (starts_part + done * 2) (starts_part + (from + 1) * 2) p x.kept (omega arith) (omega arith))
      put (omega arith) (omega arith)

module _ (n : ℕ) (file : List ℕ) (start : ℕ) (l m : List ℕ) (next done e : ℕ) (r : Result ℕ Refusal)
    (so : EdgesSoFar n (drop start file) l m next done e) (x : EdgeRead n next (drop (start + e * 14) file) r) where
  abbrev bytes : List ℕ
  bytes = drop start file

  -- the line's status
  own_status : status_in r ≡ status_at (edge_line n) bytes e
  own_status =
      status_here (edge_line n) file start e 0 (before_of next) (status_in r)
      (λ ns. ap (λ (b : List ℕ). (edge_line n).good 0 b ns) so.before) x.status

  -- its numbers
  own_numbers : numbers_of (line_of 70 2 (drop (start + e * 14) file)) ≡ numbers_at (edge_line n) bytes e
  own_numbers = numbers_here (edge_line n) file start e

  -- a line that does not pass
  pub edges_stop : (c : ℕ) → e < c → (status_in r ≡ 0 → ⊥) → EdgesRead n c bytes l m (status_in r)
  edges_stop c g q = record {
    lines = read_stop (edge_line n) bytes c e (status_in r) g (lit< tt) so.passed own_status q;
    targets = λ z. absurd (q z);
    starts = λ z. absurd (q z);
    below = λ z. absurd (q z);
    above = λ z. absurd (q z);
    sources = λ z. absurd (q z);
    kept = so.kept;
  }

  -- the starts that are stored reach the line's own
  pub done_reaches : status_in r ≡ 0 → done ≤ value_in r / 512 + 1
  done_reaches z = omega (arith, so.reach, x.ascends z)

  -- the line is the one before the next
  before_next
      : status_at (edge_line n) bytes e ≡ 0 → value_in r / 512 ≡ source n bytes e → value_in r % 512 ≡ at (numbers_at (edge_line n) bytes e) 1
      → before_of (value_in r + 1) ≡ before_at (edge_line n) bytes (e + 1)
  unfolding before_at
  before_next h p q =
      rw (add-one (value_in r), add-one e)
      (two_numbers (numbers_at (edge_line n) bytes e) (value_in r / 512) (value_in r % 512) (passed_length (edge_line n) bytes e h) p q)

  -- one line more
  pub Edges-more
      : (k w : List ℕ) → n ≤ 512 → e < 2048 → Lent l → status_in r ≡ 0 → StartsFilled m k done (value_in r / 512 + 1) e
      → w ≡ put_number 2 k (targets_part + e * 2) (value_in r % 512)
      → EdgesSoFar n bytes l w (value_in r + 1) (value_in r / 512 + 1) (e + 1)
  Edges-more k w hn he long z st y =
      let from = value_in r / 512 in
      let here : status_at (edge_line n) bytes e ≡ 0 = sym own_status ∙ z in
      let is_from : from ≡ source n bytes e = x.from z ∙ ap (λ (ns : List ℕ). at ns 0) own_numbers in
      let is_to : value_in r % 512 ≡ at (numbers_at (edge_line n) bytes e) 1 = x.to z ∙ ap (λ (ns : List ℕ). at ns 1) own_numbers in
      let reaches = done_reaches z in
      let fb = x.from_below z in
      let lm : Lent m = omega (arith, so.kept.long) in
      let old = old_start l m k w done from e (value_in r % 512) (omega arith) reaches he lm st y in
      let new = new_start l m k w done from e (value_in r % 512) (omega arith) reaches he lm st y in
      record {
        passed = passed_more (edge_line n) bytes e so.passed here;
        within = omega (arith, x.within z, so.within, length-drop (start + e * 14) file, length-drop start file);
        before = before_next here is_from is_to;
        small = omega (arith, x.small);
        reach = omega arith;
        few = omega arith;
        targets = λ i h.
            ⊎_elim
            (λ (q : i ≡ e). rw q (new_target l m k w done from e (value_in r % 512) (omega arith) reaches he lm st y (omega arith) ∙ is_to))
            (λ (q : i < e). old_target l m k w done from e (value_in r % 512) (omega arith) reaches he lm st y i q ∙ so.targets i q)
            (eq-or-lt_of_le (le_of_suc-le-suc (rw (add-one e) at h)));
        starts = λ j h.
            by_cases (dec_lt j done)
            (λ (g : j < done). omega (arith, old j g, so.starts j g))
            (λ g. omega (arith, new j (omega arith) h));
        below = λ i j h g s.
            by_cases (dec_lt j done)
            (λ (d : j < done).
            let q : i < start_in m j = omega (arith, old j d) in
            so.below i j (omega (arith, so.starts j d)) d q)
            (λ d. let q : i < e = omega (arith, new j (omega arith) g) in omega (arith, so.sources i q));
        above = λ i j h g s.
            ⊎_elim
            (λ (q : i ≡ e). omega (arith, ap (source n bytes) q, is_from))
            (λ (q : i < e).
            by_cases (dec_lt j done)
            (λ (d : j < done). so.above i j q d (omega (arith, old j d)))
            (λ d. absurd (omega (arith, new j (omega arith) g))))
            (eq-or-lt_of_le (le_of_suc-le-suc (rw (add-one e) at h)));
        sources = λ i h.
            ⊎_elim
            (λ (q : i ≡ e). omega (arith, ap (source n bytes) q, is_from))
            (λ (q : i < e). omega (arith, so.sources i q))
            (eq-or-lt_of_le (le_of_suc-le-suc (rw (add-one e) at h)));
        kept = stores_kept l m k w done from e (value_in r % 512) (omega arith) reaches he lm st y so.kept;
      }

-- a start before those that are filled
start_apart : (m k : List ℕ) (a b j : ℕ) → SameOutside m k (starts_part + a * 2) (starts_part + b * 2) → j < a → start_in k j ≡ start_in m j
unfolding start_in
start_apart m k a b j p h = number_kept m k (starts_part + a * 2) (starts_part + b * 2) p (starts_part + j * 2) (inl (omega arith))

-- the targets lie past the starts
target_apart : (m k : List ℕ) (a b i : ℕ) → SameOutside m k (starts_part + a * 2) (starts_part + b * 2) → b ≤ 513 → target_in k i ≡ target_in m i
unfolding target_in
target_apart m k a b i p h = number_kept m k (starts_part + a * 2) (starts_part + b * 2) p (targets_part + i * 2) (inr (omega arith))

-- all lines are read, and the starts of the nodes past the last source are stored
pub edges_end
    : (n : ℕ) (bytes l m k : List ℕ) (next done e c : ℕ) → e ≡ c → n ≤ 512 → EdgesSoFar n bytes l m next done e → StartsFilled m k done (n + 1) c
    → EdgesRead n c bytes l k 0
edges_end n bytes l m k next done e c is hn so st = record {
  lines = read_all (edge_line n) bytes c e is (lit< tt) so.passed so.within;
  targets = λ z i h. target_kept i ∙ so.targets i (omega arith);
  starts = λ z j h.
      by_cases (dec_lt j done)
      (λ (g : j < done). omega (arith, old j g, so.starts j g))
      (λ g. omega (arith, st.here j (omega arith) (omega arith)));
  below = λ z i j h g s.
      by_cases (dec_lt j done)
      (λ (d : j < done). let q : i < start_in m j = omega (arith, old j d) in so.below i j (omega arith) d q)
      (λ d. omega (arith, so.sources i (omega arith)));
  above = λ z i j h g s.
      by_cases (dec_lt j done)
      (λ (d : j < done). so.above i j (omega arith) d (omega (arith, old j d)))
      (λ d. absurd (omega (arith, st.here j (omega arith) (omega arith))));
  sources = λ z i h. omega (arith, so.sources i (omega arith), so.few);
  kept = kept_both l m k starts_part pair_part (starts_part + done * 2) (starts_part + (n + 1) * 2) so.kept st.kept (omega arith) (omega arith);
}
  where
    old : (j : ℕ) → j < done → start_in k j ≡ start_in m j
    old j h = start_apart m k done (n + 1) j st.kept h

    target_kept : (i : ℕ) → target_in k i ≡ target_in m i
    target_kept i = target_apart m k done (n + 1) i st.kept (omega arith)
