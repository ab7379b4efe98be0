-- Two monitors on the walks of a job: the pairs of states that they reach, and the pairs that some continuation tells apart.
-- Assumes nothing.
use mathlib.Core.Path.{◌≡◌, refl, sym, ap, ◌∙◌}
use mathlib.Core.Logic.{◌⊎◌, inl, inr, ⊎_elim, ◌↔◌}
use mathlib.Core.Bool.{Bool, true, false, not}
use mathlib.Core.List.{List, [], ◌∷◌}
use Prim.Native.Nat.{ℕ, zero, suc}
use native.Mathlib.Nat.{le_of_suc-le-suc, not-suc-le-zero}
use native.Mathlib.Omega.{arith}
use lib.ListN.{length, get_or}
use Rattle.laws.specs.Bits.{has}
use Rattle.laws.proofs.Tests.{not_own, same_or_contrary}
use Rattle.automaton.specs.Automaton.{Automaton}
use Rattle.job.specs.Job.{Job, node_at}
use Rattle.job.specs.Walk.{Event, Place, before, Silent, Told, Walk, stop, move, tell}
use Rattle.job.specs.Plan.{Enabling, state_at, alarm_at, state_after, alarms, ArrivesAt, AlikeAt, DifferAt, ApartAt}

-- ---- pairs that are reached

-- a set of pairs of states at places
abbrev pub Pairs : Type 1
Pairs = Place → ℕ → ℕ → Type 0

-- some walk from a start leads to the place, with the states p under v and q under w
pub data Pair (j : Job) (v w : Enabling) (S : Pairs) : Place → ℕ → ℕ → Type 0 where
  -- a start
  begins : {x : Place} {p q : ℕ} → S x p q → Pair j v w S x p q
  -- a silent move leaves both states
  moves : {x y : Place} {p q : ℕ} → Pair j v w S x p q → Silent j x y → Pair j v w S y p q
  -- an event moves each state as its watch says
  tells
      : {x y : Place} {e : Event} {p q : ℕ} → Pair j v w S x p q → Told j x e y
      → Pair j v w S y (state_at j.rule v p e) (state_at j.rule w q e)

-- the starts of the job, both monitors in the admitted state
pub data Admitted (j : Job) : Place → ℕ → ℕ → Type 0 where
  -- before an entry node, in a state of its entry set
  admitted : {n q : ℕ} → has (node_at j n).entry q ≡ true → Admitted j (before n) q q

-- one pair at one place
pub data Only (x : Place) (p q : ℕ) : Place → ℕ → ℕ → Type 0 where
  -- that pair, at that place
  only : Only x p q x p q

-- a walk from a start to the place, with the states that its events lead to
pub record WalkTo (j : Job) (v w : Enabling) (S : Pairs) (x : Place) (p q : ℕ) : Type 0 where
  pub from : Place
  pub one : ℕ
  pub other : ℕ
  pub start : S from one other
  pub events : List Event
  pub walk : Walk j from events x
  pub one_after : state_after j.rule v one events ≡ p
  pub other_after : state_after j.rule w other events ≡ q

-- a set of pairs that holds the starts and that moves and events keep
pub record Kept (j : Job) (v w : Enabling) (S R : Pairs) : Type 0 where
  pub starts : (x : Place) (p q : ℕ) → S x p q → R x p q
  pub moved : (x y : Place) (p q : ℕ) → R x p q → Silent j x y → R y p q
  pub told
      : (x y : Place) (e : Event) (p q : ℕ) → R x p q → Told j x e y → R y (state_at j.rule v p e) (state_at j.rule w q e)

module _ {j : Job} {v w : Enabling} {S : Pairs} where
  -- the reached pairs are such a set
  pub pair_kept : Kept j v w S (Pair j v w S)
  pair_kept = record { starts = λ x p q s. begins s; moved = λ x y p q r m. moves r m; told = λ x y e p q r t. tells r t }

  -- and the least
  pub pair_least : {R : Pairs} {x : Place} {p q : ℕ} → Kept j v w S R → Pair j v w S x p q → R x p q
  pair_least k (begins {x = x} {p = p} {q = q} s) = k.starts x p q s
  pair_least k (moves {x = x} {y = y} {p = p} {q = q} r m) = k.moved x y p q (pair_least k r) m
  pair_least k (tells {x = x} {y = y} {e = e} {p = p} {q = q} r t) = k.told x y e p q (pair_least k r) t

  -- a walk leads on from a reached pair
  pub pair_walk
      : {x y : Place} {p q : ℕ} {es : List Event} → Pair j v w S x p q → Walk j x es y
      → Pair j v w S y (state_after j.rule v p es) (state_after j.rule w q es)
  unfolding state_after
  pair_walk r stop = r
  pair_walk r (move m k) = pair_walk (moves r m) k
  pair_walk r (tell t k) = pair_walk (tells r t) k

  -- what a walk leads to from a reached pair, a walk from a start leads to
  leads_back
      : {x y : Place} {p q k l : ℕ} {es : List Event} → Pair j v w S x p q → Walk j x es y → state_after j.rule v p es ≡ k
      → state_after j.rule w q es ≡ l → WalkTo j v w S y k l
  unfolding state_after
  leads_back {es = es} (begins {x = x} {p = p} {q = q} s) k f g =
      record { from = x; one = p; other = q; start = s; events = es; walk = k; one_after = f; other_after = g }
  leads_back (moves r m) k f g = leads_back r (move m k) f g
  leads_back (tells r t) k f g = leads_back r (tell t k) f g

  -- a pair is reached where a walk leads to it
  pub pair_says : (x : Place) (p q : ℕ) → Pair j v w S x p q ↔ WalkTo j v w S x p q
  unfolding state_after
  pair_says x p q = (
    λ r. leads_back r stop refl refl,
    λ k. rw (← k.one_after, ← k.other_after) (pair_walk (begins k.start) k.walk),
  )

-- a walk from an admitted start arrives where it leads
start_arrives
    : {j : Job} {v w : Enabling} {x y : Place} {k l p q : ℕ} {es : List Event} → Admitted j y k l → Walk j y es x
    → state_after j.rule v k es ≡ p → state_after j.rule w l es ≡ q → ArrivesAt j v w x p q
start_arrives {es = es} (admitted {n = n} {q = q} h) walk e f =
    record { start = record { node = n; state = q; admitted = h }; events = es; walk = walk; one = e; other = f }

-- the pairs reached from the starts of the job are those that arrive
pub arrives_at_says
    : {j : Job} {v w : Enabling} (x : Place) (p q : ℕ) → Pair j v w (Admitted j) x p q ↔ ArrivesAt j v w x p q
arrives_at_says x p q = (
  λ r. let k = (pair_says x p q).0 r in start_arrives k.start k.walk k.one_after k.other_after,
  λ a. rw (← a.one, ← a.other) (pair_walk (begins (admitted a.start.admitted)) a.walk),
)

-- ---- lists of alarms

-- a difference at the first event
pub differ_first : {a b : Bool} {xs ys : List Bool} → a ≡ not b → DifferAt (a ∷ xs) (b ∷ ys) 0
differ_first e = record { within = omega arith; differ = e }

-- a difference at a later event
pub differ_later : {a b : Bool} {xs ys : List Bool} {i : ℕ} → DifferAt xs ys i → DifferAt (a ∷ xs) (b ∷ ys) (suc i)
differ_later d = record { within = omega arith; differ = d.differ }

-- lists that differ at some place are not equal
pub differ_not_same : {xs ys : List Bool} {i : ℕ} → DifferAt xs ys i → xs ≡ ys → ⊥
differ_not_same {xs} {ys} {i} d e = not_own (get_or ys i false) (rw e at d.differ)

-- lists of one length are equal or differ at some place
pub same_or_differ : (xs ys : List Bool) → length xs ≡ length ys → (xs ≡ ys) ⊎ ((i : ℕ) × DifferAt xs ys i)
same_or_differ [] [] l = inl refl
same_or_differ [] (b ∷ ys) l = absurd (omega arith)
same_or_differ (a ∷ xs) [] l = absurd (omega arith)
same_or_differ (a ∷ xs) (b ∷ ys) l =
    ⊎_elim
    (λ (e : a ≡ b).
    ⊎_elim (λ (f : xs ≡ ys). inl (rw (e, f))) (λ (r : (i : ℕ) × DifferAt xs ys i). inr (suc r.0, differ_later r.1))
    (same_or_differ xs ys (omega arith)))
    (λ (e : a ≡ not b). inr (0, differ_first e))
    (same_or_contrary a b)

-- lists of one length differ at some place where they are not equal, and only there
pub differ_says : (xs ys : List Bool) → length xs ≡ length ys → ((i : ℕ) × DifferAt xs ys i) ↔ (xs ≡ ys → ⊥)
differ_says xs ys l = (
  λ r. differ_not_same r.1,
  λ n. ⊎_elim (λ (e : xs ≡ ys). absurd (n e)) (λ (r : (i : ℕ) × DifferAt xs ys i). r) (same_or_differ xs ys l),
)

-- one alarm or none for each event
pub length_alarms : (m : Automaton) (w : Enabling) (q : ℕ) (es : List Event) → length (alarms m w q es) ≡ length es
unfolding alarms
length_alarms m w q [] = refl
length_alarms m w q (e ∷ es) = ap suc (length_alarms m w (state_at m w q e) es)

-- ---- pairs that are told apart

-- an event may come next at which one monitor alarms and the other does not
pub record Splits (j : Job) (v w : Enabling) (x : Place) (p q : ℕ) : Type 0 where
  pub event : Event
  pub to : Place
  pub told : Told j x event to
  pub differ : alarm_at j.rule v p event ≡ not (alarm_at j.rule w q event)

-- a told move at whose event the alarms differ splits the pair
pub told_splits
    : {j : Job} {v w : Enabling} {x y : Place} {e : Event} {p q : ℕ} → Told j x e y
    → alarm_at j.rule v p e ≡ not (alarm_at j.rule w q e) → Splits j v w x p q
told_splits {y = y} {e = e} t d = record { event = e; to = y; told = t; differ = d }

-- among the pairs of a set D, a set that holds those that split, and each from which a move or an event leads into it
pub record Backwards (j : Job) (v w : Enabling) (D T : Pairs) : Type 0 where
  pub now : (x : Place) (p q : ℕ) → D x p q → Splits j v w x p q → T x p q
  pub moving : (x y : Place) (p q : ℕ) → D x p q → Silent j x y → T y p q → T x p q
  pub telling
      : (x y : Place) (e : Event) (p q : ℕ) → D x p q → Told j x e y → T y (state_at j.rule v p e) (state_at j.rule w q e) → T x p q

-- a set of pairs that is kept, and under which the two monitors alarm alike at every event that may come next
pub record Invariant (j : Job) (v w : Enabling) (S R : Pairs) : Type 0 where
  pub kept : Kept j v w S R
  pub alike
      : (x y : Place) (e : Event) (p q : ℕ) → R x p q → Told j x e y → alarm_at j.rule v p e ≡ alarm_at j.rule w q e

module _ {j : Job} {v w : Enabling} where
  -- an event that may come next tells a pair apart at which one monitor alarms and the other does not
  pub apart_now : {x : Place} {p q : ℕ} → Splits j v w x p q → ApartAt j v w x p q
  unfolding alarms
  apart_now s =
      record {
        walk = record { events = s.event ∷ []; end = s.to; walk = tell s.told stop };
        place = 0;
        differs = differ_first s.differ;
      }

  -- so does a silent move to a pair that is told apart
  pub apart_moved : {x y : Place} {p q : ℕ} → Silent j x y → ApartAt j v w y p q → ApartAt j v w x p q
  apart_moved m a =
      record {
        walk = record { events = a.walk.events; end = a.walk.end; walk = move m a.walk.walk };
        place = a.place;
        differs = a.differs;
      }

  -- and an event that leads to one
  pub apart_told
      : {x y : Place} {e : Event} {p q : ℕ} → Told j x e y → ApartAt j v w y (state_at j.rule v p e) (state_at j.rule w q e)
      → ApartAt j v w x p q
  unfolding alarms
  apart_told {e = e} t a =
      record {
        walk = record { events = e ∷ a.walk.events; end = a.walk.end; walk = tell t a.walk.walk };
        place = suc a.place;
        differs = differ_later a.differs;
      }

  -- a walk on which the alarms differ, followed back from the difference
  followed
      : {S D T : Pairs} {x y : Place} {es : List Event} → Kept j v w S D → Backwards j v w D T → (p q : ℕ) → D x p q → Walk j x es y
      → (i : ℕ) → DifferAt (alarms j.rule v p es) (alarms j.rule w q es) i → T x p q
  unfolding alarms
  followed k b p q d stop i a = absurd (not-suc-le-zero a.within)
  followed k b p q d (move {x = x} {y = y} m r) i a = b.moving x y p q d m (followed k b p q (k.moved x y p q d m) r i a)
  followed k b p q d (tell {x = x} {y = y} {e = e} t r) zero a =
      b.now x p q d (told_splits t a.differ)
  followed k b p q d (tell {x = x} {y = y} {e = e} t r) (suc i) a =
      b.telling x y e p q d t
      (followed k b (state_at j.rule v p e) (state_at j.rule w q e) (k.told x y e p q d t) r i
      (record { within = le_of_suc-le-suc a.within; differ = a.differ }))

  -- among the pairs of a set that is kept, those told apart are in every set that is closed backwards
  pub apart_least
      : {S D T : Pairs} {x : Place} {p q : ℕ} → Kept j v w S D → Backwards j v w D T → D x p q → ApartAt j v w x p q → T x p q
  apart_least {p = p} {q = q} k b d a = followed k b p q d a.walk.walk a.place a.differs

  -- the monitors alarm alike where they are not told apart
  pub alike_says : (x : Place) (p q : ℕ) → AlikeAt j v w x p q ↔ (ApartAt j v w x p q → ⊥)
  alike_says x p q = (λ h a. differ_not_same a.differs (h a.walk), alike)
    where
      alike : (ApartAt j v w x p q → ⊥) → AlikeAt j v w x p q
      alike n k =
          let one = alarms j.rule v p k.events in
          let other = alarms j.rule w q k.events in
          ⊎_elim
          (λ (e : one ≡ other). e)
          (λ (r : (i : ℕ) × DifferAt one other i). absurd (n (record { walk = k; place = r.0; differs = r.1 })))
          (same_or_differ one other (length_alarms j.rule v p k.events ∙ sym (length_alarms j.rule w q k.events)))

  -- a reached pair that is told apart has a start that is
  pub pair_apart
      : {S : Pairs} {x : Place} {p q : ℕ} → Pair j v w S x p q → ApartAt j v w x p q
      → (y : Place) × (k : ℕ) × (l : ℕ) × S y k l × ApartAt j v w y k l
  pair_apart (begins {x = x} {p = p} {q = q} s) a = (x, p, q, s, a)
  pair_apart (moves r m) a = pair_apart r (apart_moved m a)
  pair_apart (tells r t) a = pair_apart r (apart_told t a)

  -- a reached pair that is told apart leads to a reached pair that splits
  pub apart_splits
      : {S : Pairs} {x : Place} {p q : ℕ} → Pair j v w S x p q → ApartAt j v w x p q
      → (y : Place) × (k : ℕ) × (l : ℕ) × Pair j v w S y k l × Splits j v w y k l
  apart_splits {S} r a = apart_least pair_kept back r a
    where
      back : Backwards j v w (Pair j v w S) (λ x p q. (y : Place) × (k : ℕ) × (l : ℕ) × Pair j v w S y k l × Splits j v w y k l)
      back = record { now = λ x p q r s. (x, p, q, r, s); moving = λ x y p q r m found. found; telling = λ x y e p q r t found. found }

  -- from a pair of an invariant the monitors alarm alike on every continuation
  pub invariant_alike : {S R : Pairs} {x : Place} {p q : ℕ} → Invariant j v w S R → R x p q → AlikeAt j v w x p q
  invariant_alike {R = R} {x = x} {p = p} {q = q} h r = (alike_says x p q).1 (λ a. apart_least h.kept none r a)
    where
      none : Backwards j v w R (λ x p q. ⊥)
      none =
          record {
            now = λ x p q r s.
                not_own (alarm_at j.rule w q s.event) (sym (h.alike x s.to s.event p q r s.told) ∙ s.differ);
            moving = λ x y p q r m n. n;
            telling = λ x y e p q r t n. n;
          }
