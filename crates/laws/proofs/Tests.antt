-- Laws of tests beyond `mathlib.Core.Bool` and `borrow.Author.Tests`.
-- Assumes nothing.
use mathlib.Core.Path.{◌≡◌, refl, sym}
use mathlib.Core.Logic.{◌⊎◌, inl, inr}
use mathlib.Core.Bool.{Bool, true, false, not, ◌||◌, true≢false, false≢true}

-- a test that does not pass fails
pub fails_of : (a : Bool) → (a ≡ true → ⊥) → a ≡ false
fails_of true h = absurd (h refl)
fails_of false h = refl

-- a test passes or fails
pub passes_or_fails : (a : Bool) → (a ≡ true) ⊎ (a ≡ false)
passes_or_fails true = inl refl
passes_or_fails false = inr refl

-- two tests that pass together are one
pub test_ext : (a b : Bool) → (a ≡ true → b ≡ true) → (b ≡ true → a ≡ true) → a ≡ b
test_ext true b p q = sym (p refl)
test_ext false true p q = q refl
test_ext false false p q = refl

-- where `or` passes, one of the two does
pub or_passes : (a b : Bool) → (a || b) ≡ true → (a ≡ true) ⊎ (b ≡ true)
or_passes true b h = inl refl
or_passes false b h = inr h

-- `or` passes where its first test does
pub or_left : (a b : Bool) → a ≡ true → (a || b) ≡ true
or_left true b p = refl
or_left false b p = absurd (false≢true p)

-- `or` passes where its second test does
pub or_right : (a b : Bool) → b ≡ true → (a || b) ≡ true
or_right true b p = refl
or_right false b p = p

-- `or` fails where both tests do
pub or_fails : (a b : Bool) → a ≡ false → b ≡ false → (a || b) ≡ false
or_fails true b p q = p
or_fails false b p q = q

-- a test is not its own contrary
pub not_own : (a : Bool) → a ≡ not a → ⊥
not_own true e = true≢false e
not_own false e = false≢true e

-- two tests are the same or contrary
pub same_or_contrary : (a b : Bool) → (a ≡ b) ⊎ (a ≡ not b)
same_or_contrary true true = inl refl
same_or_contrary true false = inr refl
same_or_contrary false true = inr refl
same_or_contrary false false = inl refl
