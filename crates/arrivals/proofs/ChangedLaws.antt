-- What a list becomes, place by place: it begins with the new list, it is unchanged where it began with it before, and a change that is
-- taken back leaves the list as it was, but for zeros where it has become shorter.
-- Assumes nothing.
use mathlib.Core.Path.{◌≡◌, sym, ap, ◌∙◌}
use mathlib.Core.Logic.{by_cases}
use mathlib.Core.Bool.{Bool, true, false, cond, ◌&&◌, and-eq-true_iff, and-false}
use mathlib.Core.List.{List}
use Prim.Native.Nat.{ℕ, ◌+◌, ◌≤◌, ◌<◌}
use native.Mathlib.Decide.{dec_lt}
use native.Mathlib.Omega.{arith}
use lib.Dec.{leb, ltb}
use lib.ListN.{length, get_or, take}
use lib.Seq.{length-take-le, get_or-take, ext_get_or}
use borrow.Author.Tests.{lt-ltb, le-ltb, le-leb, lt-leb}
use Rattle.laws.proofs.Bounded.{length_tab, get_d_tab}
use Rattle.arrivals.specs.Arrivals.{becomes}
use Rattle.arrivals.specs.ArrivalsSay.{zeroed}
use Rattle.arrivals.proofs.ListLaws.{take_get_d}

-- ---- place by place

-- what stands at a place
unfoldable pub new_at : ℕ → List ℕ → List ℕ → ℕ → ℕ
new_at old new l i = cond (ltb i (length new)) (get_or new i 0) (cond (ltb i old) 0 (get_or l i 0))

module _ (old : ℕ) (new l : List ℕ) where
  -- the new list
  pub new_in : (i : ℕ) → i < length new → new_at old new l i ≡ get_or new i 0
  unfolding new_at
  new_in i b = ap (λ (t : Bool). cond t (get_or new i 0) (cond (ltb i old) 0 (get_or l i 0))) (lt-ltb i (length new) b)

  -- after it what the list that was does not have to free
  pub new_rest : (i : ℕ) → length new ≤ i → new_at old new l i ≡ cond (ltb i old) 0 (get_or l i 0)
  unfolding new_at
  new_rest i b = ap (λ (t : Bool). cond t (get_or new i 0) (cond (ltb i old) 0 (get_or l i 0))) (le-ltb i (length new) b)

  -- zero in a freed place
  new_freed : (i : ℕ) → length new ≤ i → i < old → new_at old new l i ≡ 0
  new_freed i b c = new_rest i b ∙ ap (λ (t : Bool). cond t 0 (get_or l i 0)) (lt-ltb i old c)

  -- every other place as it was
  pub new_past : (i : ℕ) → length new ≤ i → old ≤ i → new_at old new l i ≡ get_or l i 0
  new_past i b c = new_rest i b ∙ ap (λ (t : Bool). cond t 0 (get_or l i 0)) (le-ltb i old c)

  -- it is as long as it was
  pub length_becomes : length (becomes old new l) ≡ length l
  unfolding becomes new_at
  length_becomes = length_tab (length l) (new_at old new l)

  -- each place is told so
  becomes_there : (i : ℕ) → i < length l → get_or (becomes old new l) i 0 ≡ new_at old new l i
  unfolding becomes new_at
  becomes_there i h = get_d_tab (length l) (new_at old new l) i 0 h

  -- a place of the new list
  pub becomes_new : (i : ℕ) → i < length l → i < length new → get_or (becomes old new l) i 0 ≡ get_or new i 0
  becomes_new i h b = becomes_there i h ∙ new_in i b

  -- a freed place
  pub becomes_freed : (i : ℕ) → i < length l → length new ≤ i → i < old → get_or (becomes old new l) i 0 ≡ 0
  becomes_freed i h b c = becomes_there i h ∙ new_freed i b c

  -- a place past both
  pub becomes_kept : (i : ℕ) → i < length l → length new ≤ i → old ≤ i → get_or (becomes old new l) i 0 ≡ get_or l i 0
  becomes_kept i h b c = becomes_there i h ∙ new_past i b c

  -- it begins with the new list
  pub becomes_take : (k : ℕ) → length new ≡ k → k ≤ length l → take k (becomes old new l) ≡ new
  becomes_take k e long =
      let room : k ≤ length (becomes old new l) = rw length_becomes long in
      ext_get_or 0 (take k (becomes old new l)) new (length-take-le k (becomes old new l) room ∙ sym e)
      (λ i b.
      let in_k : i < k = rw (length-take-le k (becomes old new l) room) at b in
      get_or-take k (becomes old new l) i 0 in_k ∙ becomes_new i (omega arith) (omega arith))

  -- a list that begins with the new one is unchanged, if nothing is freed
  pub becomes_same : (k : ℕ) → length new ≡ k → take k l ≡ new → old ≤ k → becomes old new l ≡ l
  becomes_same k e begun fewer =
      ext_get_or 0 (becomes old new l) l length_becomes
      (λ i b.
      let in_l : i < length l = rw length_becomes at b in
      by_cases (dec_lt i k)
      (λ (c : i < k). becomes_new i in_l (omega arith) ∙ sym (take_get_d k l new i 0 begun c))
      (λ (c : i < k → ⊥). becomes_kept i in_l (omega arith) (omega arith)))

-- ---- a change taken back

-- zeros from a place on
zeroed_there
    : (at w : ℕ) (l : List ℕ) (i : ℕ) (t : Bool) → i < length l → (leb at i && ltb i (at + w)) ≡ t
    → get_or (zeroed at w l) i 0 ≡ cond t 0 (get_or l i 0)
zeroed_there at w l i t h e =
    get_d_tab (length l) (λ j. cond (leb at j && ltb j (at + w)) 0 (get_or l j 0)) i 0 h ∙ ap (λ (b : Bool). cond b 0 (get_or l i 0)) e

-- a list is as long with them
length_zeroed : (at w : ℕ) (l : List ℕ) → length (zeroed at w l) ≡ length l
length_zeroed at w l = length_tab (length l) (λ j. cond (leb at j && ltb j (at + w)) 0 (get_or l j 0))

-- a list that has begun with p numbers a begins with q numbers b, and then with a again
abbrev pub changed_back : ℕ → List ℕ → ℕ → List ℕ → List ℕ → List ℕ
changed_back p a q b l = becomes q a (becomes p b l)

module _ (p : ℕ) (a : List ℕ) (q : ℕ) (b l : List ℕ) (a_long : length a ≡ p) (b_long : length b ≡ q) (begun : take p l ≡ a) where
  -- it is as long as it was
  length_back : length (changed_back p a q b l) ≡ length l
  length_back = length_becomes q a (becomes p b l) ∙ length_becomes p b l

  -- the first numbers are there again
  back_first : (i : ℕ) → i < length l → i < p → get_or (changed_back p a q b l) i 0 ≡ get_or l i 0
  back_first i h c =
      becomes_new q a (becomes p b l) i (rw (length_becomes p b l) h) (omega arith) ∙ sym (take_get_d p l a i 0 begun c)

  -- after both every place is as it was
  back_kept : (i : ℕ) → i < length l → p ≤ i → q ≤ i → get_or (changed_back p a q b l) i 0 ≡ get_or l i 0
  back_kept i h c d =
      becomes_kept q a (becomes p b l) i (rw (length_becomes p b l) h) (omega arith) d ∙ becomes_kept p b l i h (omega arith) c

  -- where the change made it no longer the list is as it was
  pub becomes_again : q ≤ p → changed_back p a q b l ≡ l
  becomes_again fewer =
      ext_get_or 0 (changed_back p a q b l) l length_back
      (λ i h.
      let in_l : i < length l = rw length_back at h in
      by_cases (dec_lt i p)
      (λ (c : i < p). back_first i in_l c)
      (λ (c : i < p → ⊥). back_kept i in_l (omega arith) (omega arith)))

  -- where it made it longer there are zeros in the places that it took
  pub becomes_back : (w : ℕ) → q ≡ p + w → changed_back p a q b l ≡ zeroed p w l
  becomes_back w e =
      ext_get_or 0 (changed_back p a q b l) (zeroed p w l) (length_back ∙ sym (length_zeroed p w l))
      (λ i h.
      let in_l : i < length l = rw length_back at h in
      by_cases (dec_lt i p)
      (λ (c : i < p).
      back_first i in_l c ∙ sym (zeroed_there p w l i false in_l (ap (λ (t : Bool). t && ltb i (p + w)) (lt-leb p i c))))
      (λ (c : i < p → ⊥).
      by_cases (dec_lt i q)
      (λ (d : i < q).
      becomes_freed q a (becomes p b l) i (rw (length_becomes p b l) in_l) (omega arith) d
      ∙ sym
      (zeroed_there p w l i true in_l
      ((and-eq-true_iff (leb p i) (ltb i (p + w))).1 (le-leb p i (omega arith), lt-ltb i (p + w) (omega arith)))))
      (λ (d : i < q → ⊥).
      back_kept i in_l (omega arith) (omega arith)
      ∙ sym
      (zeroed_there p w l i false in_l
      (ap (λ (t : Bool). leb p i && t) (le-ltb i (p + w) (omega arith)) ∙ and-false (leb p i))))))
