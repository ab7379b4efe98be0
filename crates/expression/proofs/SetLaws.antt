-- The set after a list of events is computed event by event, and holds a last position where the list is a word.
-- Assumes nothing.
use mathlib.Core.Path.{◌≡◌, sym, subst, ◌∙◌}
use mathlib.Core.Logic.{◌⊎◌, ⊎_elim, ◌↔◌}
use mathlib.Core.Bool.{true, false, true≢false, and-eq-true_iff}
use mathlib.Core.List.{List, [], ◌∷◌, ◌++◌}
use Prim.Native.Nat.{ℕ, zero, suc, ◌+◌, ◌-◌, ◌^◌, ◌<◌}
use native.Mathlib.Nat.{le_of_suc-le-suc, eq-or-lt_of_le}
use native.Mathlib.Omega.{arith}
use lib.Dec.{eqb}
use lib.Bits.{bit_and}
use lib.ListN.{length, get_or}
use borrow.Author.Tests.{eq-eqb, eqb-true}
use Rattle.laws.specs.Bits.{has}
use Rattle.laws.proofs.Bits.{has_and, has_empty}
use Rattle.expression.specs.Expression.{Expr}
use Rattle.expression.specs.Grammar.{Level, IsLetter, Spells, letter_at, group, again, single, then, only, or, TextOf}
use Rattle.expression.specs.Masks.{when, first, last, follow, union_over, places_of, start_set, next_set}
use Rattle.expression.specs.Positions.{symbol_at, Accepts, StandsFor}
use Rattle.expression.specs.Masks.{IsSet}
use Rattle.expression.proofs.Linear.{Spread, at, parts, sides, under, Between, between_front, between_back, first_between, follow_from, follow_to}
use Rattle.expression.specs.Masks.{In, is, of_front, of_back, of_left, of_right, of_star}
use Rattle.expression.proofs.Reach.{first_in, follow_in}
use Rattle.expression.proofs.Reach.{stands_says, reaches_one, reaches_more, accepts_says}
use Rattle.expression.proofs.MaskLaws.{union_cases, union_left, union_right, when_to, when_of, letter_to, letter_of, first_says, last_says, follow_says}
use Rattle.expression.proofs.Unique.{spells_spread}

-- ---- members

pub both_to : (a b i : ℕ) → has (bit_and a b) i ≡ true → (has a i ≡ true) × (has b i ≡ true)
both_to a b i h = (and-eq-true_iff _ _).0 (sym (has_and a b i) ∙ h)

pub both_of : (a b i : ℕ) → has a i ≡ true → has b i ≡ true → has (bit_and a b) i ≡ true
both_of a b i p q = has_and a b i ∙ (and-eq-true_iff _ _).1 (p, q)

-- a member of a union of sets: the set that it comes from
pub record FromSet (n : ℕ) (f : ℕ → ℕ) (s q : ℕ) : Type 0 where
  pub from : ℕ
  pub below : from < n
  pub member : has s from ≡ true
  pub there : has (f from) q ≡ true

union_to : (n : ℕ) (f : ℕ → ℕ) (s q : ℕ) → has (union_over n f s) q ≡ true → FromSet n f s q
unfolding union_over
union_to zero f s q h = absurd (true≢false (sym h ∙ has_empty q))
union_to (suc n) f s q h =
    ⊎_elim
    (λ (x : has (union_over n f s) q ≡ true).
    let r = union_to n f s q x in record { from = r.from; below = omega (arith, r.below); member = r.member; there = r.there })
    (λ (x : has (when (has s n) (f n)) q ≡ true).
    let y = when_to (has s n) (f n) q x in record { from = n; below = omega arith; member = y.0; there = y.1 })
    (union_cases (union_over n f s) (when (has s n) (f n)) q h)

union_of : (n : ℕ) (f : ℕ → ℕ) (s p q : ℕ) → p < n → has s p ≡ true → has (f p) q ≡ true → has (union_over n f s) q ≡ true
unfolding union_over
union_of zero f s p q l a b = absurd (omega (arith, l))
union_of (suc n) f s p q l a b =
    ⊎_elim
    (λ (e : p ≡ n).
    union_right (union_over n f s) (when (has s n) (f n)) q
    (when_of (has s n) (f n) q (subst (λ (x : ℕ). has s x ≡ true) e a) (subst (λ (x : ℕ). has (f x) q ≡ true) e b)))
    (λ (m : p < n). union_left (union_over n f s) (when (has s n) (f n)) q (union_of n f s p q m a b))
    (eq-or-lt_of_le (le_of_suc-le-suc l))

pub union_says : (n : ℕ) (f : ℕ → ℕ) (s q : ℕ) → (has (union_over n f s) q ≡ true) ↔ FromSet n f s q
union_says n f s q = (union_to n f s q, λ r. union_of n f s r.from q r.below r.member r.there)

places_to : (t : List ℕ) (n s p : ℕ) → has (places_of t n s) p ≡ true → get_or t p 0 ≡ 97 + s
unfolding places_of
places_to t zero s p h = absurd (true≢false (sym h ∙ has_empty p))
places_to t (suc n) s p h =
    ⊎_elim
    (λ (x : has (places_of t n s) p ≡ true). places_to t n s p x)
    (λ (x : has (when (eqb (get_or t n 0) (97 + s)) (2 ^ n)) p ≡ true).
    let y = when_to (eqb (get_or t n 0) (97 + s)) (2 ^ n) p x in
    subst (λ (m : ℕ). get_or t m 0 ≡ 97 + s) (sym (letter_to n p y.1)) (eqb-true (get_or t n 0) (97 + s) y.0))
    (union_cases (places_of t n s) (when (eqb (get_or t n 0) (97 + s)) (2 ^ n)) p h)

places_of_lem : (t : List ℕ) (n s p : ℕ) → p < n → get_or t p 0 ≡ 97 + s → has (places_of t n s) p ≡ true
unfolding places_of
places_of_lem t zero s p l h = absurd (omega (arith, l))
places_of_lem t (suc n) s p l h =
    ⊎_elim
    (λ (e : p ≡ n).
    union_right (places_of t n s) (when (eqb (get_or t n 0) (97 + s)) (2 ^ n)) p
    (when_of (eqb (get_or t n 0) (97 + s)) (2 ^ n) p
    (eq-eqb (get_or t n 0) (97 + s) (subst (λ (m : ℕ). get_or t m 0 ≡ 97 + s) e h))
    (subst (λ (m : ℕ). has (2 ^ m) p ≡ true) e (letter_of p))))
    (λ (m : p < n). union_left (places_of t n s) (when (eqb (get_or t n 0) (97 + s)) (2 ^ n)) p (places_of_lem t n s p m h))
    (eq-or-lt_of_le (le_of_suc-le-suc l))

-- ---- letters

-- the positions of an expression stand where its letters are spread
pub in_between : {i j : ℕ} {e : Expr} {q : ℕ} → Spread i j e → In e q → Between i j q
in_between (at l h) is = record { from = l; to = h }
in_between (parts s t) (of_front h) = between_front t (in_between s h)
in_between (parts s t) (of_back h) = between_back s (in_between t h)
in_between (sides s t) (of_left h) = between_front t (in_between s h)
in_between (sides s t) (of_right h) = between_back s (in_between t h)
in_between (under s) (of_star h) = in_between s h

-- at every position of the expression a letter stands
spells_letter : {a : ℕ} {t : List ℕ} {l : Level} {i j : ℕ} {e : Expr} {p : ℕ} → Spells a t l i j e → In e p → IsLetter a t p
spells_letter (letter_at x) is = x
spells_letter (group c s d) h = spells_letter s h
spells_letter (again s c) (of_star h) = spells_letter s h
spells_letter (single s) h = spells_letter s h
spells_letter (then s r) (of_front h) = spells_letter s h
spells_letter (then s r) (of_back h) = spells_letter r h
spells_letter (only s) h = spells_letter s h
spells_letter (or s c r) (of_left h) = spells_letter s h
spells_letter (or s c r) (of_right h) = spells_letter r h

symbol_to : (a : ℕ) (t : List ℕ) (p s : ℕ) → IsLetter a t p → symbol_at t p ≡ s → get_or t p 0 ≡ 97 + s
symbol_to a t p s x h = omega (arith, x.low, h)

symbol_of : (t : List ℕ) (p s : ℕ) → get_or t p 0 ≡ 97 + s → symbol_at t p ≡ s
symbol_of t p s h = omega (arith, h)

-- ---- the set after a list of events

module _ (a : ℕ) (t : List ℕ) (e : Expr) (spelt : TextOf a t e) where
  -- the set after one event
  pub start_set_lem : (s : ℕ) → IsSet t e (s ∷ []) (start_set t e s)
  unfolding start_set
  start_set_lem s p = (there, back)
    where
      there : has (bit_and (first e) (places_of t (length t) s)) p ≡ true → StandsFor t e (s ∷ []) p
      there h =
          let r = both_to (first e) (places_of t (length t) s) p h in
          (stands_says t 0 (length t) e (s ∷ []) p (spells_spread spelt)).1
          ((reaches_one t e s p).1 ((first_says e p).0 r.0, symbol_of t p s (places_to t (length t) s p r.1)))

      back : StandsFor t e (s ∷ []) p → has (bit_and (first e) (places_of t (length t) s)) p ≡ true
      back h =
          let r = (reaches_one t e s p).0 ((stands_says t 0 (length t) e (s ∷ []) p (spells_spread spelt)).0 h) in
          both_of (first e) (places_of t (length t) s) p ((first_says e p).1 r.0)
          (places_of_lem t (length t) s p (first_between (spells_spread spelt) r.0).to
          (symbol_to a t p s (spells_letter spelt (first_in r.0)) r.1))

  -- the set after one event more
  pub next_set_lem : (x : ℕ) (w : List ℕ) (k s : ℕ) → IsSet t e (x ∷ w) k → IsSet t e ((x ∷ w) ++ (s ∷ [])) (next_set t e k s)
  unfolding next_set
  next_set_lem x w k s set p = (there, back)
    where
      there : has (bit_and (union_over (length t) (follow e) k) (places_of t (length t) s)) p ≡ true → StandsFor t e ((x ∷ w) ++ (s ∷ [])) p
      there h =
          let r = both_to (union_over (length t) (follow e) k) (places_of t (length t) s) p h in
          let f = (union_says (length t) (follow e) k p).0 r.0 in
          (stands_says t 0 (length t) e ((x ∷ w) ++ (s ∷ [])) p (spells_spread spelt)).1
          ((reaches_more t e x w s p).1 (record {
            from = f.from;
            reached = (stands_says t 0 (length t) e (x ∷ w) f.from (spells_spread spelt)).0 ((set f.from).0 f.member);
            follows = (follow_says e f.from p).0 f.there;
            symbol = symbol_of t p s (places_to t (length t) s p r.1);
          }))

      back : StandsFor t e ((x ∷ w) ++ (s ∷ [])) p → has (bit_and (union_over (length t) (follow e) k) (places_of t (length t) s)) p ≡ true
      back h =
          let r = (reaches_more t e x w s p).0 ((stands_says t 0 (length t) e ((x ∷ w) ++ (s ∷ [])) p (spells_spread spelt)).0 h) in
          both_of (union_over (length t) (follow e) k) (places_of t (length t) s) p
          ((union_says (length t) (follow e) k p).1 (record {
            from = r.from;
            below = (follow_from (spells_spread spelt) r.follows).to;
            member = (set r.from).1 ((stands_says t 0 (length t) e (x ∷ w) r.from (spells_spread spelt)).1 r.reached);
            there = (follow_says e r.from p).1 r.follows;
          }))
          (places_of_lem t (length t) s p (follow_to (spells_spread spelt) r.follows).to
          (symbol_to a t p s (spells_letter spelt (follow_in r.follows)) r.symbol))

  -- the events form a word where the set has a last position
  pub final_set : (x : ℕ) (w : List ℕ) (k : ℕ) → IsSet t e (x ∷ w) k → Accepts t e (x ∷ w) ↔ ((p : ℕ) × (has (bit_and k (last e)) p ≡ true))
  final_set x w k set = (there, back)
    where
      there : Accepts t e (x ∷ w) → (p : ℕ) × (has (bit_and k (last e)) p ≡ true)
      there h =
          let r = (accepts_says t 0 (length t) e x w (spells_spread spelt)).0 h in (
            r.0,
            both_of k (last e) r.0
                ((set r.0).1 ((stands_says t 0 (length t) e (x ∷ w) r.0 (spells_spread spelt)).1 r.1))
                ((last_says e r.0).1 r.2),
          )

      back : (p : ℕ) × (has (bit_and k (last e)) p ≡ true) → Accepts t e (x ∷ w)
      back h =
          let r = both_to k (last e) h.0 h.1 in
          (accepts_says t 0 (length t) e x w (spells_spread spelt)).1
          (h.0, (stands_says t 0 (length t) e (x ∷ w) h.0 (spells_spread spelt)).0 ((set h.0).0 r.0), (last_says e h.0).0 r.1)
