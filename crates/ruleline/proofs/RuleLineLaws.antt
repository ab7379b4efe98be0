-- Laws of one R line, in the shape of the code.
-- Assumes nothing.
use mathlib.Core.Path.{◌≡◌, refl, sym, ap, ◌∙◌}
use mathlib.Core.Bool.{Bool, true, false, true≢false}
use mathlib.Core.Logic.{by_cases}
use mathlib.Core.List.{List, []}
use Prim.Native.Nat.{ℕ, ◌+◌, ◌*◌, ◌≤◌, ◌<◌}
use native.Mathlib.Decide.{dec_lt}
use native.Mathlib.Omega.{arith}
use lib.Dec.{ltb}
use lib.ListN.{replicate, get_or-eq_default}
use borrow.Author.Tests.{lt-ltb, ltb-true}
use Rattle.laws.specs.Bounded.{all_below}
use Rattle.laws.proofs.Bounded.{all_cong, all_at, all_of}
use Rattle.laws.proofs.Tests.{fails_of}
use Rattle.std.specs.Prelude.{Ok, Err}
use Rattle.refusal.specs.declared.Refusal.{Refusal}
use Rattle.refusal.specs.declared.Refusal.TheVariants.{WrongRuleLine}
use Rattle.refusal.specs.Refusal.{number_of}
use Rattle.refusal.proofs.RefusalLaws.{number_some}
use Rattle.lines.specs.Inner.{DueRead}
use Rattle.lines.specs.Line.{Due, line_of, at}
use Rattle.jobfile.specs.File.{good_rule, rule_line}
use Rattle.buffer.specs.Layout.{rule_part}
use Rattle.jobhead.specs.Stored.{RowStored}
use Rattle.lines.specs.Places.{numbers_of, status_of}
use Rattle.jobhead.specs.ReadLines.{RuleRead}
use Rattle.jobfile.specs.Refusal.{RuleWithin}
use Rattle.jobfile.proofs.WithinLaws.{rule_says}
use Rattle.lines.proofs.LinesLaws.{due_stops, due_tested, due_number, due_long, due_length}
use Rattle.buffer.proofs.KeptLaws.{kept_none}

module _ (s a q : ℕ) (bytes l : List ℕ) where
  -- what is due
  abbrev due : Due
  due = line_of 82 (a + 2) bytes

  -- a refusal
  refused_as : (k : Refusal) → number_of k ≡ status_of (rule_line s a) q [] due → RuleRead s a q bytes l l (Err k)
  refused_as k e = record {
    status = e;
    zero = λ z. refl;
    number = λ z. absurd (number_some k z);
    small = omega arith;
    here = λ z. absurd (number_some k z);
    within = λ z. absurd (number_some k z);
    kept = kept_none l (rule_part + q * 16) (rule_part + q * 16 + 16);
  }

  module _ {f : List ℕ} {r : ℕ} (e : DueRead due (a + 2) (replicate 18 0) f r) where
    -- nothing, or no line
    pub rule_stop : (k : Refusal) → r ≡ number_of k → RuleRead s a q bytes l l (Err k)
    rule_stop k i = refused_as k (sym i ∙ due_stops (rule_line s a) q [] bytes e (λ z. number_some k (sym i ∙ z)))

    module _ (z : r ≡ 0) where
      -- the numbers of the line
      abbrev ns : List ℕ
      ns = numbers_of due

      row_is : (k : ℕ) → at f k ≡ at ns k
      row_is k = due_number (rule_line s a) q [] bytes e z 18 k refl

      -- numbers against what the line is to have
      denied : (RuleWithin s a q ns → ⊥) → RuleRead s a q bytes l l (Err WrongRuleLine)
      denied h =
          refused_as WrongRuleLine
          (due_tested (rule_line s a) q [] bytes e z false refl (fails_of (good_rule s a q [] ns) (λ t. h ((rule_says s a q [] ns).0 t))))

      -- a state out of order
      pub rule_place : (at f 0 ≡ q → ⊥) → RuleRead s a q bytes l l (Err WrongRuleLine)
      rule_place h = denied (λ w. h (row_is 0 ∙ w.state))

      -- a final mark above 1
      pub rule_mark : 1 < at f 1 → RuleRead s a q bytes l l (Err WrongRuleLine)
      rule_mark h = denied (λ w. absurd (omega (arith, row_is 1, w.final)))

      module _ (t : Bool) (g : t ≡ all_below a (λ c. ltb (at f (c + 2)) s)) where
        -- the next states of the line, in the test
        cells_test : t ≡ all_below a (λ c. ltb (at ns (c + 2)) s)
        cells_test =
            g ∙ all_cong a (λ c. ltb (at f (c + 2)) s) (λ c. ltb (at ns (c + 2)) s) (λ c h. ap (λ (x : ℕ). ltb x s) (row_is (c + 2)))

        -- a next state of S or more
        pub rule_cells : t ≡ false → RuleRead s a q bytes l l (Err WrongRuleLine)
        rule_cells v =
            denied
            (λ w.
            true≢false
            (sym (all_of a (λ c. ltb (at ns (c + 2)) s) (λ c h. lt-ltb (at ns (c + 2)) s (w.next c h))) ∙ sym cells_test ∙ v))

        -- next states below S
        next_states : t ≡ true → (c : ℕ) → c < a → at ns (c + 2) < s
        next_states v c h = ltb-true (at ns (c + 2)) s (all_at a (λ c. ltb (at ns (c + 2)) s) (sym cells_test ∙ v) c h)

        -- they are bytes, and so are the zeros past them
        pub cells_small : s ≤ 16 → t ≡ true → (c : ℕ) → c < 16 → at f (c + 2) < 256
        cells_small hs v c h =
            by_cases (dec_lt c a)
            (λ (x : c < a). omega (arith, row_is (c + 2), next_states v c x))
            (λ x.
            let long = due_length 82 (a + 2) bytes (sym e.status ∙ z) in
            omega (arith, row_is (c + 2), get_or-eq_default ns 0 {n = c + 2} (omega (arith, long))))

        -- numbers that pass, and the row that is stored
        pub rule_passes
            : (m : List ℕ) → at f 0 ≡ q → at f 1 ≤ 1 → t ≡ true → RowStored l m q f → RuleRead s a q bytes l m (Ok (at f 1))
        rule_passes m p1 p2 v st =
            let good = (rule_says s a q [] ns).1 (record {
              state = sym (row_is 0) ∙ p1;
              final = omega (arith, row_is 1, p2);
              next = next_states v;
            }) in
            record {
              status = due_tested (rule_line s a) q [] bytes e z true refl good;
              zero = λ z. absurd (z refl);
              number = λ x. row_is 1;
              small = p2;
              here = λ x c h. st.here c h ∙ row_is (c + 2);
              within = λ x. due_long (rule_line s a) q [] bytes e z;
              kept = st.kept;
            }
