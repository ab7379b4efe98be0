-- How the parts that are read are put together.
-- Assumes nothing.
use mathlib.Core.Path.{◌≡◌, refl, sym, ap, subst, ◌∙◌}
use mathlib.Core.Bool.{Bool, true, false, ◌||◌}
use mathlib.Core.List.{List}
use Prim.Native.Nat.{ℕ, suc, ◌+◌, ◌≤◌, ◌<◌}
use native.Mathlib.Nat.{le_refl}
use native.Mathlib.Numerals.{add-one}
use native.Mathlib.Omega.{arith}
use lib.Bits.{bit_or, or_zero_r}
use lib.ListN.{length, get_or, set, length-set}
use lib.Seq.{get_or-set_same, get_or-set_other}
use Rattle.laws.specs.Bits.{has}
use Rattle.laws.proofs.Bits.{has_empty, has_or, same_set}
use Rattle.laws.proofs.Tests.{fails_of}
use Rattle.expressionparts.specs.declared.part.Part.{Part}
use Rattle.expression.specs.Expression.{Expr, letter, following, either, star}
use Rattle.expression.specs.Grammar.{Level, piece, row, choice, At, IsLetter, Spells, letter_at, group, again, single, then, only, or}
use Rattle.expression.specs.Masks.{In, is, of_front, of_back, of_left, of_right, of_star, nullable, when, first, last, follow}
use Rattle.expressionparts.specs.Reading.{Shown, Whole, Linked, letter_part, followed, either_part, up_to, Starred}
use Rattle.expression.proofs.Linear.{Spread, spread_le, Between, last_between, follow_from}
use Rattle.expression.proofs.MaskLaws.{last_says, follow_says}
use Rattle.expression.proofs.SetLaws.{in_between}
use Rattle.expression.proofs.Unique.{spells_spread}
use Rattle.expression.proofs.GrammarLaws.{char_within}
use Rattle.expressionparts.proofs.ReadingLaws.{unlinked}

-- ---- positions

-- what is spelt ends within the text
pub spells_within : {a : ℕ} {t : List ℕ} {l : Level} {i j : ℕ} {e : Expr} → Spells a t l i j e → j ≤ length t
spells_within {t = t} (letter_at {i = i} x) = char_within t i (omega (arith, x.low))
spells_within {t = t} (group {j = j} p s q) = char_within t j (omega (arith, q))
spells_within {t = t} (again {j = j} s p) = char_within t j (omega (arith, p))
spells_within (single s) = spells_within s
spells_within (then s r) = spells_within r
spells_within (only s) = spells_within s
spells_within (or s p r) = spells_within r

-- outside of its positions an expression has no last position and nothing follows
last_outside : (i j : ℕ) (e : Expr) (q : ℕ) → Spread i j e → (Between i j q → ⊥) → has (last e) q ≡ false
last_outside i j e q s n = fails_of (has (last e) q) (λ h. n (last_between s ((last_says e q).0 h)))

follow_outside : (i j : ℕ) (e : Expr) (q : ℕ) → Spread i j e → (Between i j q → ⊥) → follow e q ≡ 0
follow_outside i j e q s n =
    same_set (follow e q) 0 (λ x. fails_of (has (follow e q) x) (λ h. n (follow_from s ((follow_says e q x).0 h))) ∙ sym (has_empty x))

-- of two parts one after the other, what follows a position of the one is what follows it in both
module _ {i j k m q : ℕ} {d e : Expr} (x : ℕ) (s : Spread i j d) (r : Spread k m e) (apart : j ≤ k) where
  follow_front : In d q → x ≡ follow d q → x ≡ bit_or (follow d q) (follow e q)
  follow_front h g =
      g ∙ sym (or_zero_r (follow d q))
      ∙ ap (λ (y : ℕ). bit_or (follow d q) y)
      (sym (follow_outside k m e q r (λ c. omega (arith, c.from, (in_between s h).to, apart))))

  follow_back : In e q → x ≡ follow e q → x ≡ bit_or (follow d q) (follow e q)
  follow_back h g =
      g
      ∙ ap (λ (y : ℕ). bit_or y (follow e q))
      (sym (follow_outside i j d q s (λ c. omega (arith, c.to, (in_between r h).from, apart))))

-- ---- links

-- a position that is not among the last ones is as it was
link_outside
    : (f f' : List ℕ) (l r q : ℕ) → Linked f f' l r → q < length f → has l q ≡ false → get_or f' q 0 ≡ get_or f q 0
link_outside f f' l r q k h e = k.cells q h ∙ unlinked (get_or f q 0) r (has l q) e

-- a set joined twice is a set joined once
or_twice : (m n : ℕ) → bit_or (bit_or m n) n ≡ bit_or m n
or_twice m n =
    same_set (bit_or (bit_or m n) n) (bit_or m n)
    (λ q. has_or (bit_or m n) n q ∙ ap (λ (b : Bool). b || has n q) (has_or m n q) ∙ twice (has m q) (has n q) ∙ sym (has_or m n q))
  where
    twice : (b c : Bool) → ((b || c) || c) ≡ (b || c)
    twice true c = refl
    twice false true = refl
    twice false false = refl

-- linking again changes nothing
linked_again : (f f' : List ℕ) (l r : ℕ) → Linked f f' l r → Linked f' f' l r
linked_again f f' l r k = record { long = refl; cells = λ q h. again q (k.cells q (omega (arith, h, k.long))) }
  where
    again : (q : ℕ) → get_or f' q 0 ≡ bit_or (get_or f q 0) (when (has l q) r) → get_or f' q 0 ≡ bit_or (get_or f' q 0) (when (has l q) r)
    again q e =
        e ∙ sym (or_twice (get_or f q 0) (when (has l q) r)) ∙ ap (λ (x : ℕ). bit_or x (when (has l q) r)) (sym e)

module _ {a : ℕ} {t : List ℕ} where
  -- the part of a letter
  pub letter_shown : (i : ℕ) (f : List ℕ) → IsLetter a t i → i < length f → Shown a t piece i f (set f i 0) (letter_part i)
  unfolding nullable first last follow
  letter_shown i f x l =
      record {
        expr = letter i;
        spelt = rw add-one (letter_at x);
        empty_word = refl;
        firsts = refl;
        lasts = refl;
        follows = here;
        kept = λ q h. get_or-set_other f i q 0 0 (λ n. omega (arith, n, h));
        long = length-set f i 0;
      }
    where
      here : (q : ℕ) → In (letter i) q → get_or (set f i 0) q 0 ≡ 0
      here q is = get_or-set_same f q 0 0 l

  -- a group is what it holds
  pub group_shown
      : (i : ℕ) (f₀ f : List ℕ) (d : Part) → At t i 40 → At t d.end 41 → Shown a t choice (i + 1) f₀ f d
      → Shown a t piece i f₀ f (up_to d (d.end + 1) d.nullable)
  group_shown i f₀ f d p q s =
      record {
        expr = s.expr;
        spelt = rw add-one (group p (rw add-one at s.spelt) q);
        empty_word = s.empty_word;
        firsts = s.firsts;
        lasts = s.lasts;
        follows = s.follows;
        kept = λ q h. s.kept q (omega (arith, h));
        long = s.long;
      }

  -- a star more
  pub star_shown
      : (i : ℕ) (f₀ f f' : List ℕ) (d : Part) (j : ℕ) (n : Bool) → length t ≤ length f₀ → At t j 42 → Linked f f' d.last d.first
      → Shown a t piece i f₀ f (up_to d j n) → Shown a t piece i f₀ f' (up_to d (j + 1) true)
  unfolding nullable first last follow
  star_shown i f₀ f f' d j n room p k s =
      record {
        expr = star s.expr;
        spelt = rw add-one (again s.spelt p);
        empty_word = refl;
        firsts = s.firsts;
        lasts = s.lasts;
        follows = there;
        kept = λ q h.
            link_outside f f' d.last d.first q k (omega (arith, h, ends, begins, s.long))
            (ap (λ (x : ℕ). has x q) s.lasts ∙ last_outside i j s.expr q spread (λ b. omega (arith, b.from, h)))
            ∙ s.kept q h;
        long = k.long ∙ s.long;
      }
    where
      spread : Spread i j s.expr
      spread = spells_spread s.spelt

      ends : j ≤ length t
      ends = spells_within s.spelt

      begins : i < j
      begins = spread_le spread

      there : (q : ℕ) → In (star s.expr) q → get_or f' q 0 ≡ bit_or (follow s.expr q) (when (has (last s.expr) q) (first s.expr))
      there q (of_star h) =
          k.cells q (omega (arith, (in_between spread h).to, ends, s.long)) ∙ cc (s.follows q h, s.lasts, s.firsts)

  -- one part after another
  pub then_shown
      : (i : ℕ) (f₀ f₁ f₂ f₃ : List ℕ) (d e : Part) → length t ≤ length f₀ → Linked f₂ f₃ d.last e.first
      → Shown a t piece i f₀ f₁ d → Shown a t row d.end f₁ f₂ e → Shown a t row i f₀ f₃ (followed d e)
  unfolding nullable first last follow
  then_shown i f₀ f₁ f₂ f₃ d e room k s r =
      record {
        expr = following s.expr r.expr;
        spelt = then s.spelt r.spelt;
        empty_word = cc (s.empty_word, r.empty_word);
        firsts = cc (s.firsts, s.empty_word, r.firsts);
        lasts = cc (r.lasts, r.empty_word, s.lasts);
        follows = there;
        kept = λ q h.
            link_outside f₂ f₃ d.last e.first q k (omega (arith, h, ends, middle, begins, s.long, r.long))
            (ap (λ (x : ℕ). has x q) s.lasts ∙ last_outside i d.end s.expr q spread (λ b. omega (arith, b.from, h)))
            ∙ r.kept q (omega (arith, h, begins)) ∙ s.kept q h;
        long = k.long ∙ r.long ∙ s.long;
      }
    where
      spread : Spread i d.end s.expr
      spread = spells_spread s.spelt

      spread' : Spread d.end e.end r.expr
      spread' = spells_spread r.spelt

      ends : e.end ≤ length t
      ends = spells_within r.spelt

      middle : d.end < e.end
      middle = spread_le spread'

      begins : i < d.end
      begins = spread_le spread

      linked
          : (q : ℕ) → q < e.end
          → get_or f₃ q 0 ≡ bit_or (get_or f₂ q 0) (when (has (last s.expr) q) (first r.expr))
      linked q h = k.cells q (omega (arith, h, ends, s.long, r.long)) ∙ cc (s.lasts, r.firsts)

      there
          : (q : ℕ) → In (following s.expr r.expr) q
          → get_or f₃ q 0 ≡ bit_or (bit_or (follow s.expr q) (follow r.expr q)) (when (has (last s.expr) q) (first r.expr))
      there q (of_front h) =
          let b = in_between spread h in
          linked q (omega (arith, b.to, middle))
          ∙ cc (follow_front (get_or f₂ q 0) spread spread' (le_refl d.end) h (r.kept q b.to ∙ s.follows q h))
      there q (of_back h) =
          linked q (in_between spread' h).to ∙ cc (follow_back (get_or f₂ q 0) spread spread' (le_refl d.end) h (r.follows q h))

  -- one part or another
  pub or_shown
      : (i : ℕ) (f₀ f₁ f₂ : List ℕ) (d e : Part) → At t d.end 124 → Shown a t row i f₀ f₁ d → Shown a t choice (d.end + 1) f₁ f₂ e
      → Shown a t choice i f₀ f₂ (either_part d e)
  unfolding nullable first last follow
  or_shown i f₀ f₁ f₂ d e p s r =
      record {
        expr = either s.expr r.expr;
        spelt = or s.spelt p spelt;
        empty_word = cc (s.empty_word, r.empty_word);
        firsts = cc (s.firsts, r.firsts);
        lasts = cc (s.lasts, r.lasts);
        follows = there;
        kept = λ q h. r.kept q (omega (arith, h, begins)) ∙ s.kept q h;
        long = r.long ∙ s.long;
      }
    where
      spelt : Spells a t choice (suc d.end) e.end r.expr
      spelt = rw add-one at r.spelt

      spread : Spread i d.end s.expr
      spread = spells_spread s.spelt

      spread' : Spread (suc d.end) e.end r.expr
      spread' = spells_spread spelt

      begins : i < d.end
      begins = spread_le spread

      apart : d.end ≤ suc d.end
      apart = omega arith

      there : (q : ℕ) → In (either s.expr r.expr) q → get_or f₂ q 0 ≡ bit_or (follow s.expr q) (follow r.expr q)
      there q (of_left h) =
          follow_front (get_or f₂ q 0) spread spread' apart h (r.kept q (omega (arith, (in_between spread h).to)) ∙ s.follows q h)
      there q (of_right h) = follow_back (get_or f₂ q 0) spread spread' apart h (r.follows q h)

-- ---- stars

-- no star stands after the part
pub starred_none : (t : List ℕ) (d : Part) (f : List ℕ) → (At t d.end 42 → ⊥) → Starred t d f f d
starred_none t d f p a i f₀ s = record { shown = s; stops = p }

-- the stars up to j are read where the part has been linked to itself
abbrev pub Starring : List ℕ → Part → List ℕ → ℕ → Type 0
Starring t d f' j =
    (f : List ℕ) → length t ≤ length f → Linked f f' d.last d.first
    → (a i : ℕ) (f₀ : List ℕ) → Shown a t piece i f₀ f d → Shown a t piece i f₀ f' (up_to d j true)

-- after the first star, after one more, and after the last
pub starring_first : (t : List ℕ) (d : Part) (f' : List ℕ) → At t d.end 42 → Starring t d f' (d.end + 1)
starring_first t d f' p f room k a i f₀ s = star_shown i f₀ f f' d d.end d.nullable (omega (arith, room, s.long)) p k s

pub starring_more : (t : List ℕ) (d : Part) (f' : List ℕ) (j : ℕ) → Starring t d f' j → At t j 42 → Starring t d f' (j + 1)
starring_more t d f' j h p f room k a i f₀ s =
    star_shown i f₀ f' f' d j true (omega (arith, room, s.long)) p (linked_again f f' d.last d.first k) (h f room k a i f₀ s)

pub starring_all
    : (t : List ℕ) (d r : Part) (f f' : List ℕ) (j : ℕ) → Starring t d f' j → length t ≤ length f → Linked f f' d.last d.first
    → (At t j 42 → ⊥) → r ≡ up_to d j true → Starred t d f f' r
starring_all t d r f f' j h room k p e a i f₀ s =
    subst (λ (x : Part). Whole a t piece i f₀ f' x) (sym e) (record { shown = h f room k a i f₀ s; stops = p })
