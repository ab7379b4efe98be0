-- Laws of one F line, in the shape of the code.
-- Assumes nothing.
use mathlib.Core.Path.{◌≡◌, refl, sym, ap, ◌∙◌}
use mathlib.Core.Bool.{Bool, true, false, ◌&&◌, ◌||◌, and-eq-true_iff}
use mathlib.Core.Logic.{⊎_elim, by_cases}
use mathlib.Core.List.{List}
use Prim.Native.Nat.{ℕ, zero, suc, ◌+◌, ◌*◌, ◌/◌, ◌%◌, ◌≤◌, ◌<◌}
use native.Mathlib.Decide.{dec_lt}
use native.Mathlib.Omega.{arith}
use lib.Dec.{lit<, eqb, leb, ltb, leb-zero}
use lib.ListN.{replicate}
use borrow.Author.Tests.{eq-eqb, eqb-true, le-leb, leb-true, lt-ltb, ltb-true}
use Rattle.laws.proofs.Tests.{fails_of, test_ext, or_left, or_right, or_passes}
use Rattle.std.specs.Prelude.{Ok, Err}
use Rattle.refusal.specs.declared.Refusal.{Refusal}
use Rattle.refusal.specs.declared.Refusal.TheVariants.{WrongEdge}
use Rattle.refusal.specs.Refusal.{number_of}
use Rattle.refusal.proofs.RefusalLaws.{number_some}
use Rattle.lines.specs.Inner.{DueRead}
use Rattle.lines.specs.Line.{line_of, at}
use Rattle.jobfile.specs.File.{ascends, good_edge, edge_line}
use Rattle.lines.specs.Places.{numbers_of, status_of}
use Rattle.jobhead.specs.ReadLines.{before_of, EdgeRead}
use Rattle.jobfile.specs.Refusal.{EdgeWithin}
use Rattle.jobfile.proofs.WithinLaws.{edge_says}
use Rattle.lines.proofs.LinesLaws.{due_stops, due_tested, due_whole, due_long}

-- ---- the tests of an F line

-- keys ascend where edges do
later_key
    : (k from to : ℕ) → to < 512 → leb (suc k) (from * 512 + to) ≡ (ltb (k / 512) from || (eqb (k / 512) from && ltb (k % 512) to))
later_key k from to h =
    test_ext (leb (suc k) (from * 512 + to)) (ltb (k / 512) from || (eqb (k / 512) from && ltb (k % 512) to))
    (λ p.
    let q = leb-true (suc k) (from * 512 + to) p in
    by_cases (dec_lt (k / 512) from)
    (λ (g : k / 512 < from). or_left (ltb (k / 512) from) (eqb (k / 512) from && ltb (k % 512) to) (lt-ltb (k / 512) from g))
    (λ g.
    or_right (ltb (k / 512) from) (eqb (k / 512) from && ltb (k % 512) to)
    (rw (eq-eqb (k / 512) from (omega arith)) (lt-ltb (k % 512) to (omega arith)))))
    (λ p.
    ⊎_elim
    (λ (g : ltb (k / 512) from ≡ true). let q = ltb-true (k / 512) from g in le-leb (suc k) (from * 512 + to) (omega arith))
    (λ (g : (eqb (k / 512) from && ltb (k % 512) to) ≡ true).
    let both = (and-eq-true_iff (eqb (k / 512) from) (ltb (k % 512) to)).0 g in
    let q = eqb-true (k / 512) from both.0 in
    let r = ltb-true (k % 512) to both.1 in
    le-leb (suc k) (from * 512 + to) (omega arith))
    (or_passes (ltb (k / 512) from) (eqb (k / 512) from && ltb (k % 512) to) p))

key_test : (next : ℕ) (ns : List ℕ) → at ns 1 < 512 → leb next (at ns 0 * 512 + at ns 1) ≡ ascends (before_of next) ns
key_test zero ns h = leb-zero (at ns 0 * 512 + at ns 1)
key_test (suc k) ns h = later_key k (at ns 0) (at ns 1) h

module _ (n next : ℕ) (ns : List ℕ) where
  -- the test of the code's numbers
  abbrev pub EdgeTest : Bool
  EdgeTest = good_edge n 0 (before_of next) ns

  -- what the line has where the test passes
  within : EdgeTest ≡ true → EdgeWithin n (before_of next) ns
  within t = (edge_says n 0 (before_of next) ns).0 t

  -- a source of N or more
  pub edge_from : n ≤ at ns 0 → false ≡ EdgeTest
  edge_from h = sym (fails_of EdgeTest (λ t. absurd (omega (arith, (within t).from))))

  -- an end of N or more
  pub edge_to : n ≤ at ns 1 → false ≡ EdgeTest
  edge_to h = sym (fails_of EdgeTest (λ t. absurd (omega (arith, (within t).to))))

  -- both are nodes
  pub edge_key : n ≤ 512 → at ns 0 < n → at ns 1 < n → leb next (at ns 0 * 512 + at ns 1) ≡ EdgeTest
  edge_key s h g = key_test next ns (omega arith) ∙ sym (rw (lt-ltb (at ns 0) n h, lt-ltb (at ns 1) n g))

-- ---- one line

module _ (n next : ℕ) (bytes : List ℕ) where
  -- a refusal
  refused_as : (k : Refusal) → number_of k ≡ status_of (edge_line n) 0 (before_of next) (line_of 70 2 bytes) → EdgeRead n next bytes (Err k)
  refused_as k e = record {
    status = e;
    zero = λ z. refl;
    from = λ z. absurd (number_some k z);
    to = λ z. absurd (number_some k z);
    from_below = λ z. absurd (number_some k z);
    ascends = λ z. absurd (number_some k z);
    within = λ z. absurd (number_some k z);
    small = lit< tt;
  }

  module _ {ns : List ℕ} {r : ℕ} (e : DueRead (line_of 70 2 bytes) 2 (replicate 2 0) ns r) where
    -- nothing, or no line
    pub edge_stop : (k : Refusal) → r ≡ number_of k → EdgeRead n next bytes (Err k)
    edge_stop k i = refused_as k (sym i ∙ due_stops (edge_line n) 0 (before_of next) bytes e (λ z. number_some k (sym i ∙ z)))

    module _ (z : r ≡ 0) where
      -- the line's numbers
      numbers_are : ns ≡ numbers_of (line_of 70 2 bytes)
      numbers_are = due_whole (edge_line n) 0 (before_of next) bytes e z refl

      -- numbers that do not pass
      pub edge_fails : EdgeTest n next ns ≡ false → EdgeRead n next bytes (Err WrongEdge)
      edge_fails g = refused_as WrongEdge (due_tested (edge_line n) 0 (before_of next) bytes e z false numbers_are g)

      -- the numbers of a line that passes
      pub edge_limits : n ≤ 512 → EdgeTest n next ns ≡ true → (at ns 0 < n) × (at ns 1 < n) × (next ≤ at ns 0 * 512 + at ns 1)
      edge_limits s g =
          let w = within n next ns g in
          (w.from, w.to, leb-true next (at ns 0 * 512 + at ns 1) (edge_key n next ns s w.from w.to ∙ g))

      -- numbers that pass
      pub edge_passes : n ≤ 512 → EdgeTest n next ns ≡ true → EdgeRead n next bytes (Ok (at ns 0 * 512 + at ns 1))
      edge_passes s g =
          let l = edge_limits s g in
          let a = l.0 in
          let b = l.1 in
          let d : (at ns 0 * 512 + at ns 1) / 512 ≡ at ns 0 = omega arith in
          let m : (at ns 0 * 512 + at ns 1) % 512 ≡ at ns 1 = omega arith in
          record {
            status = due_tested (edge_line n) 0 (before_of next) bytes e z true numbers_are g;
            zero = λ z. absurd (z refl);
            from = λ q. d ∙ ap (λ (x : List ℕ). at x 0) numbers_are;
            to = λ q. m ∙ ap (λ (x : List ℕ). at x 1) numbers_are;
            from_below = λ q. omega arith;
            ascends = λ q. l.2;
            within = λ q. due_long (edge_line n) 0 (before_of next) bytes e z;
            small = omega arith;
          }
