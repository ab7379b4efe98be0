-- Laws of the marks from one place to before another, in the shape of the code.
-- Assumes nothing.
use mathlib.Core.Path.{◌≡◌, refl, sym, ◌∙◌}
use mathlib.Core.Bool.{true, false, true≢false}
use mathlib.Core.Logic.{◌⊎◌, inl, inr, ⊎_elim, by_cases}
use mathlib.Core.List.{List}
use Prim.Native.Nat.{ℕ, ◌+◌, ◌-◌, ◌≤◌, ◌<◌}
use native.Mathlib.Nat.{le_refl}
use native.Mathlib.Decide.{dec_lt}
use native.Mathlib.Omega.{arith}
use lib.ListN.{length, get_or, set}
use lib.Seq.{get_or-set_same, get_or-set_other}
use Rattle.rulerows.specs.Inner.{Marked, SpanMarked}

module _ (l : List ℕ) (start mark : ℕ) where
  -- no place yet
  pub span_none : Marked l l start start mark
  span_none = record {
    free = λ i g h. absurd (omega arith);
    marked = λ i g h. absurd (omega arith);
    others = λ i o. refl;
  }

  module _ (m : List ℕ) (i : ℕ) (e : Marked l m start i mark) where
    -- the next place is as it was
    span_next : get_or m i 0 ≡ get_or l i 0
    span_next = e.others i (inr (le_refl i))

    -- a place of one more is of those before, or the next one
    last_or_before : (k : ℕ) → k < i + 1 → (k < i) ⊎ (k ≡ i)
    last_or_before k h = by_cases (dec_lt k i) inl (λ g. inr (omega arith))

    -- one place more
    pub span_more : start ≤ i → i < length m → get_or m i 0 ≡ 0 → Marked l (set m i mark) start (i + 1) mark
    span_more low here none = record {
      free = λ k g h. ⊎_elim (λ (b : k < i). e.free k g b) (λ (q : k ≡ i). rw q (sym span_next ∙ none)) (last_or_before k h);
      marked = λ k g h.
          ⊎_elim (λ (b : k < i). get_or-set_other m i k mark 0 (λ q. absurd (omega arith)) ∙ e.marked k g b)
          (λ (q : k ≡ i). rw q (get_or-set_same m i mark 0 here)) (last_or_before k h);
      others = λ k o.
          ⊎_elim
          (λ (b : k < start). get_or-set_other m i k mark 0 (λ q. absurd (omega arith)) ∙ e.others k (inl b))
          (λ (b : i + 1 ≤ k). get_or-set_other m i k mark 0 (λ q. absurd (omega arith)) ∙ e.others k (inr (omega arith)))
          o;
    }

    module _ (stop : ℕ) (long : length m ≡ length l) where
      -- left at its bound, or never begun
      pub span_done : stop ≤ i → i ≤ stop + (start - stop) → SpanMarked l m start stop mark true
      span_done end low = record {
        long = long;
        all = λ q.
            record {
              free = λ k g h. e.free k g (omega arith);
              marked = λ k g h. e.marked k g (omega arith);
              others = λ k o.
                  ⊎_elim (λ (b : k < start). e.others k (inl b))
                  (λ (b : stop ≤ k). by_cases (dec_lt k start) (λ h. e.others k (inl h)) (λ h. e.others k (inr (omega arith)))) o;
            };
        met = λ q. absurd (true≢false q);
      }

      -- left from inside
      pub span_met : start ≤ i → i < stop → (get_or m i 0 ≡ 0 → ⊥) → SpanMarked l m start stop mark false
      span_met low high some = record {
        long = long;
        all = λ q. absurd (true≢false (sym q));
        met = λ q. (i, low, high, λ z. some (span_next ∙ z));
      }
