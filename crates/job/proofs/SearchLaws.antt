-- Laws of the search of a finite set: it finds all that is reached and nothing else.
-- Why: a code is met once, when its thing is pushed, so the codes not met and the things to do are together never more than the fuel.
-- Assumes nothing.
use mathlib.Core.Path.{◌≡◌, refl, sym, ap, ◌∙◌}
use mathlib.Core.Logic.{◌⊎◌, inl, inr, ⊎_elim, ◌↔◌, by_cases, ◌≢◌}
use mathlib.Core.Bool.{Bool, true, false, cond, ◌||◌, true≢false, or-false}
use mathlib.Core.List.Memᴰ.{head as first}
use mathlib.Core.List.Memᴰ.{tail as later}
use mathlib.Core.List.{List, [], ◌∷◌, Memᴰ as Member}
use mathlib.Core.List.Memᴰ.{cases_cons as member-cases}
use mathlib.Core.List.Memᴰ.{not-nil as member-none}
use Prim.Native.Nat.{ℕ, zero, suc, ◌+◌, ◌^◌, ◌≤◌, ◌<◌}
use native.Mathlib.Decide.{ℕ_discrete}
use native.Mathlib.Omega.{arith}
use lib.Dec.{eqb}
use lib.ListN.{length}
use borrow.Author.Tests.{eq-eqb, ne_eqb, eqb-true}
use Rattle.laws.specs.Bounded.{sum_below}
use Rattle.laws.specs.Bits.{has}
use Rattle.laws.proofs.Tests.{or_passes, or_left, or_right}
use Rattle.laws.proofs.Bounded.{sum_less, sum_bound}
use Rattle.laws.proofs.Bits.{has_empty, has_add}
use Rattle.job.specs.Search.{Queue, pushed, push_all, explore, reached, any_of}

-- what is reached from the starts by following one thing from another
pub data Reached {A : Type 0} (after : A → List A) (starts : List A) : A → Type 0 where
  -- a start
  at_start : {x : A} → Member x starts → Reached after starts x
  -- what follows something reached
  further : {x y : A} → Reached after starts x → Member y (after x) → Reached after starts y

-- ---- lists

-- where the test passes on a list, some element passes it
any_found : {A : Type 0} (f : A → Bool) (l : List A) → any_of f l ≡ true → (x : A) × Member x l × (f x ≡ true)
unfolding any_of
any_found f [] h = absurd (true≢false (sym h))
any_found f (y ∷ ys) h =
    ⊎_elim
    (λ (p : f y ≡ true). (y, first refl, p))
    (λ (p : any_of f ys ≡ true). let r = any_found f ys p in (r.0, later r.1, r.2))
    (or_passes (f y) (any_of f ys) h)

-- one element that passes is enough
any_passes : {A : Type 0} (f : A → Bool) {x : A} {l : List A} → Member x l → f x ≡ true → any_of f l ≡ true
unfolding any_of
any_passes f (first {x = y} {xs = ys} e) p = or_left (f y) (any_of f ys) (ap f (sym e) ∙ p)
any_passes f (later {x = y} {xs = ys} m) p = or_right (f y) (any_of f ys) (any_passes f m p)

-- `any_of` says that some element passes
pub any_of_says : {A : Type 0} (f : A → Bool) (l : List A) → (any_of f l ≡ true) ↔ ((x : A) × Member x l × (f x ≡ true))
any_of_says f l = (any_found f l, λ r. any_passes f r.1 r.2)

-- ---- codes

-- 1 for a code that is not met
abbrev unmet : ℕ → ℕ → ℕ
unmet met i = cond (has met i) 0 1

-- the codes below a bound that are not met, counted
missing : ℕ → ℕ → ℕ
missing k met = sum_below k (unmet met)

-- one code met is one less missing
missing_less : (k c met : ℕ) → c < k → has met c ≡ false → missing k (met + 2 ^ c) < missing k met
unfolding missing
missing_less k c met l h = sum_less k (unmet (met + 2 ^ c)) (unmet met) (λ i m. fewer i) c l one
  where
    at : (i : ℕ) → unmet (met + 2 ^ c) i ≡ cond (has met i || eqb i c) 0 1
    at i = rw (has_add met c i h)

    smaller : (a b : Bool) → cond (a || b) 0 1 ≤ cond a 0 1
    smaller true b = omega arith
    smaller false true = omega arith
    smaller false false = omega arith

    fewer : (i : ℕ) → unmet (met + 2 ^ c) i ≤ unmet met i
    fewer i = rw (at i) (smaller (has met i) (eqb i c))

    one : unmet (met + 2 ^ c) c < unmet met c
    one = rw (at c, h, eq-eqb c c refl) (omega arith)

-- no more are missing than there are
missing_all : (k met : ℕ) → missing k met ≤ k
unfolding missing
missing_all k met = omega (arith, sum_bound k 1 (unmet met) (λ i l. at_most (has met i)))
  where
    at_most : (b : Bool) → cond b 0 1 ≤ 1
    at_most true = omega arith
    at_most false = omega arith

-- the codes met after a push
has_pushed : {A : Type 0} (code : A → ℕ) (y : A) (q : Queue A) (i : ℕ) → has (pushed code y q).met i ≡ (has q.met i || eqb i (code y))
has_pushed {A} code y q i = go (has q.met (code y)) refl
  where
    go
        : (b : Bool) → has q.met (code y) ≡ b
        → has (cond b q (record { met = q.met + 2 ^ code y; todo = y ∷ q.todo })).met i ≡ (has q.met i || eqb i (code y))
    go false e = has_add q.met (code y) i e
    go true e =
        by_cases (ℕ_discrete i (code y))
        (λ (p : i ≡ code y). rw (p, e))
        (λ (ne : i ≢ code y). sym (rw (ne_eqb i (code y) ne) (or-false (has q.met i))))

-- what is met stays met
met_more : {A : Type 0} (code : A → ℕ) (l : List A) (q : Queue A) (i : ℕ) → has q.met i ≡ true → has (push_all code l q).met i ≡ true
unfolding push_all
met_more code [] q i h = h
met_more code (y ∷ ys) q i h =
    met_more code ys (pushed code y q) i (has_pushed code y q i ∙ or_left (has q.met i) (eqb i (code y)) h)

-- what is pushed is met
met_all : {A : Type 0} (code : A → ℕ) {x : A} {l : List A} (q : Queue A) → Member x l → has (push_all code l q).met (code x) ≡ true
unfolding push_all
met_all code {x} q (first {x = y} {xs = ys} e) =
    met_more code ys (pushed code y q) (code x)
    (has_pushed code y q (code x) ∙ or_right (has q.met (code x)) (eqb (code x) (code y)) (eq-eqb (code x) (code y) (ap code e)))
met_all code q (later {x = y} {xs = ys} m) = met_all code (pushed code y q) m

-- ---- the search

-- a queue of the search: what is done or to do is reached, what is met is done or to do, and the fuel is enough
record Held {A : Type 0} (bound : ℕ) (code : A → ℕ) (R D : A → Type 0) (fuel : ℕ) (q : Queue A) : Type 0 where
  sound : (x : A) → D x ⊎ Member x q.todo → R x
  kept : (x : A) → R x → has q.met (code x) ≡ true → D x ⊎ Member x q.todo
  enough : missing bound q.met + length q.todo ≤ fuel

-- what is done in the end is reached, holds all that was met, and is closed
record Done {A : Type 0} (code : A → ℕ) (after : A → List A) (R E : A → Type 0) (met : ℕ) : Type 0 where
  sound : (x : A) → E x → R x
  all : (x : A) → R x → has met (code x) ≡ true → E x
  closed : (x y : A) → E x → Member y (after x) → E y

-- done under another name, and with fewer codes met before
done_map
    : {A : Type 0} {code : A → ℕ} {after : A → List A} {R E F : A → Type 0} {met more : ℕ} → ((x : A) → E x ↔ F x)
    → ((i : ℕ) → has met i ≡ true → has more i ≡ true) → Done code after R E more → Done code after R F met
done_map {code = code} e up d =
    record {
      sound = λ x f. d.sound x ((e x).1 f);
      all = λ x r m. (e x).0 (d.all x r (up (code x) m));
      closed = λ x y f m. (e y).0 (d.closed x y ((e x).1 f) m);
    }

-- beside an empty list there is what is done
beside_none : {A D : Type 0} {z : A} → D ↔ (D ⊎ Member z [])
beside_none {A} {D} {z} = (inl, ⊎_elim (λ (d : D). d) (λ (m : Member z []). absurd (member-none m)))

-- the first of a list goes over to what is done
beside_first : {A D : Type 0} {x z : A} {l : List A} → ((D ⊎ (z ≡ x)) ⊎ Member z l) ↔ (D ⊎ Member z (x ∷ l))
beside_first {A} {D} {x} {z} {l} = (there, back)
  where
    there : (D ⊎ (z ≡ x)) ⊎ Member z l → D ⊎ Member z (x ∷ l)
    there (inl (inl d)) = inl d
    there (inl (inr e)) = inr (first e)
    there (inr m) = inr (later m)

    back : D ⊎ Member z (x ∷ l) → (D ⊎ (z ≡ x)) ⊎ Member z l
    back (inl d) = inl (inl d)
    back (inr m) = ⊎_elim (λ (e : z ≡ x). inl (inr e)) (λ (t : Member z l). inr t) (member-cases m)

module _
    {A : Type 0} (bound : ℕ) (code : A → ℕ) (R : A → Type 0) (below : (x : A) → R x → code x < bound)
    (same : (x y : A) → R x → R y → code x ≡ code y → x ≡ y) where
  -- pushing a thing that is reached
  pushed_held
      : {D : A → Type 0} {fuel : ℕ} (y : A) → R y → (q : Queue A) → Held bound code R D fuel q → Held bound code R D fuel (pushed code y q)
  pushed_held {D} {fuel} y r q h = go (has q.met (code y)) refl
    where
      go
          : (b : Bool) → has q.met (code y) ≡ b
          → Held bound code R D fuel (cond b q (record { met = q.met + 2 ^ code y; todo = y ∷ q.todo }))
      go true e = h
      go false e = record {
        sound = λ x m.
            ⊎_elim
            (⊎_elim (λ (d : D x). h.sound x (inl d)) (λ (p : x ≡ y). rw p r))
            (λ (t : Member x q.todo). h.sound x (inr t))
            (beside_first.1 m);
        kept = λ x rx m.
            beside_first.0
            (⊎_elim
            (λ (p : has q.met (code x) ≡ true). ⊎_elim (λ (d : D x). inl (inl d)) (λ (t : Member x q.todo). inr t) (h.kept x rx p))
            (λ (p : eqb (code x) (code y) ≡ true). inl (inr (same x y rx r (eqb-true (code x) (code y) p))))
            (or_passes (has q.met (code x)) (eqb (code x) (code y)) (sym (has_add q.met (code y) (code x) e) ∙ m)));
        enough = omega (arith, missing_less bound (code y) q.met (below y r) e, h.enough);
      }

  -- pushing things that are reached
  all_held
      : {D : A → Type 0} {fuel : ℕ} (l : List A) → ((x : A) → Member x l → R x) → (q : Queue A)
      → Held bound code R D fuel q → Held bound code R D fuel (push_all code l q)
  unfolding push_all
  all_held [] r q h = h
  all_held (y ∷ ys) r q h =
      all_held ys (λ x m. r x (later m)) (pushed code y q) (pushed_held y (r y (first refl)) q h)

  module _ (after : A → List A) (on : (x y : A) → R x → Member y (after x) → R y) where
    -- with nothing to do, what is done is all
    idle_done
        : {D : A → Type 0} {fuel met : ℕ} → Held bound code R D fuel (record { met = met; todo = [] })
        → ((x y : A) → D x → Member y (after x) → has met (code y) ≡ true) → Done code after R (λ x. D x ⊎ Member x []) met
    idle_done {D} {met = met} h c =
        done_map (λ x. beside_none) (λ i p. p)
        (record { sound = λ x d. h.sound x (inl d); all = all; closed = λ x y d m. all y (on x y (h.sound x (inl d)) m) (c x y d m) })
      where
        all : (x : A) → R x → has met (code x) ≡ true → D x
        all x r m = beside_none.1 (h.kept x r m)

    -- what is done in the end is what was done and what is found
    explore_done
        : (fuel : ℕ) (D : A → Type 0) (met : ℕ) (todo : List A) → Held bound code R D fuel (record { met = met; todo = todo })
        → ((x y : A) → D x → Member y (after x) → has met (code y) ≡ true)
        → Done code after R (λ x. D x ⊎ Member x (explore fuel code after met todo)) met
    unfolding explore
    explore_done zero D met [] h c = idle_done h c
    explore_done zero D met (x ∷ xs) h c = absurd (omega (arith, h.enough))
    explore_done (suc k) D met [] h c = idle_done h c
    explore_done (suc k) D met (x ∷ xs) h c =
        done_map (λ z. beside_first) (met_more code (after x) rest) (explore_done k (λ z. D z ⊎ (z ≡ x)) q.met q.todo held closed)
      where
        rest : Queue A
        rest = record { met = met; todo = xs }

        q : Queue A
        q = push_all code (after x) rest

        held : Held bound code R (λ z. D z ⊎ (z ≡ x)) k q
        held =
            all_held (after x) (λ y. on x y (h.sound x (inr (first refl)))) rest (record {
              sound = λ z m. h.sound z (beside_first.0 m);
              kept = λ z r m. beside_first.1 (h.kept z r m);
              enough = omega (arith, h.enough);
            })

        closed : (z y : A) → D z ⊎ (z ≡ x) → Member y (after z) → has q.met (code y) ≡ true
        closed z y (inl d) m = met_more code (after x) rest (code y) (c z y d m)
        closed z y (inr e) m = met_all code rest (rw e at m)

module _
    {A : Type 0} (bound : ℕ) (code : A → ℕ) (after : A → List A) (starts : List A)
    (below : (x : A) → Reached after starts x → code x < bound)
    (same : (x y : A) → Reached after starts x → Reached after starts y → code x ≡ code y → x ≡ y) where
  -- the search finds what is reached, and nothing else
  pub reached_says : (x : A) → Member x (reached bound code after starts) ↔ Reached after starts x
  unfolding reached
  reached_says x = (λ m. done.sound x (inr m), λ r. ⊎_elim (λ (n : ⊥). absurd n) (λ m. m) (find r))
    where
      q : Queue A
      q = push_all code starts (record { met = 0; todo = [] })

      held : Held bound code (Reached after starts) (λ y. ⊥) bound q
      held =
          all_held bound code (Reached after starts) below same starts (λ y m. at_start m) (record { met = 0; todo = [] })
          (record {
            sound = λ y n. absurd (beside_none.1 n);
            kept = λ y r m. absurd (true≢false (sym m ∙ has_empty (code y)));
            enough = omega (arith, missing_all bound 0);
          })

      done : Done code after (Reached after starts) (λ y. ⊥ ⊎ Member y (explore bound code after q.met q.todo)) q.met
      done =
          explore_done bound code (Reached after starts) below same after (λ y z r m. further r m) bound (λ y. ⊥) q.met q.todo held
          (λ y z d m. absurd d)

      find : {y : A} → Reached after starts y → ⊥ ⊎ Member y (explore bound code after q.met q.todo)
      find {y} (at_start m) = done.all y (at_start m) (met_all code (record { met = 0; todo = [] }) m)
      find {y} (further {x = w} r m) = done.closed w y (find r) m

  -- a test passes on the search where something that is reached passes it
  pub any_reached_says
      : (f : A → Bool) → (any_of f (reached bound code after starts) ≡ true) ↔ ((x : A) × Reached after starts x × (f x ≡ true))
  any_reached_says f = (
    λ h. let r = (any_of_says f (reached bound code after starts)).0 h in (r.0, (reached_says r.0).0 r.1, r.2),
    λ r. (any_of_says f (reached bound code after starts)).1 (r.0, (reached_says r.0).1 r.1, r.2),
  )
