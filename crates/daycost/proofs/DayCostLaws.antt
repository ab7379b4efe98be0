-- Laws of a node's cost, and of the sum over the V lines, in the shape of the code.
-- Assumes nothing.
use Rattle.std.specs.Prelude.{Option, Some, None, Result, Ok, Err}
use mathlib.Core.Path.{◌≡◌, refl, sym, ap, ◌∙◌, subst}
use mathlib.Core.Bool.{Bool, true, false, true≢false}
use mathlib.Core.List.{List}
use Prim.Native.Nat.{ℕ, ◌+◌, ◌*◌, ◌%◌, ◌≤◌, ◌<◌}
use native.Mathlib.Omega.{arith}
use lib.Dec.{lit<}
use lib.ListN.{length, drop, get_or}
use borrow.Author.Tests.{eq-eqb, ne_eqb}
use Rattle.laws.specs.Bounded.{sum_below, tab}
use Rattle.laws.proofs.Bounded.{sum_none, sum_more, sum_cong, get_d_tab}
use Rattle.job.specs.Job.{Point, no_point, point, point_of, is_point}
use Rattle.job.specs.Plan.{enables}
use Rattle.refusal.specs.declared.Refusal.{Refusal}
use Rattle.refusal.specs.declared.Refusal.TheVariants.{WrongVolumes}
use Rattle.lines.specs.Line.{line_of}
use Rattle.lines.proofs.LinesLaws.{passed_more}
use Rattle.buffer.specs.Views.{node_in}
use Rattle.pricing.specs.Numbered.{not_these_lines, column_in}
use Rattle.pricing.specs.Pricing.{volume_line, cost}
use Rattle.pricing.proofs.ColumnLines.{number_at, Passed, line_passes, column_length, column_stop, column_all}
use Rattle.pricing.proofs.PricingLaws.{cost_most}
use Rattle.pricing.specs.Inner.{number_due, NodeFit, PricesFit, Summed, cost_in, sum_in}

-- ---- what a node's events cost

-- nothing at a point that is not watched, and at no point
unwatched_free : (prices : List ℕ) (p : Point) (volume : ℕ) → 0 ≡ cost prices p false volume
unwatched_free prices no_point volume = refl
unwatched_free prices (point s) volume = refl

module _ (prices work plan : List ℕ) (n volume : ℕ) where
  -- the cost where the node is not watched
  pub cost_unwatched : (get_or plan n 0 ≡ 1 → ⊥) → 0 ≡ cost_in prices work plan n volume
  cost_unwatched h =
      unwatched_free prices (point_of (node_in work n).kind) volume
      ∙ sym (ap (λ (w : Bool). cost prices (point_of (node_in work n).kind) w volume) (ne_eqb (get_or plan n 0) 1 h))

  -- where it is: the price of its symbol
  pub cost_watched
      : NodeFit work plan n → get_or plan n 0 ≡ 1 → (symbol : ℕ) → ((s : ℕ) → point_of (node_in work n).kind ≡ point s → symbol ≡ s % 16)
      → volume * get_or prices symbol 0 ≡ cost_in prices work plan n volume
  cost_watched fit h symbol is = rw (eq-eqb (get_or plan n 0) 1 h) (go (point_of (node_in work n).kind) refl)
    where
      go : (p : Point) → point_of (node_in work n).kind ≡ p → volume * get_or prices symbol 0 ≡ cost prices p true volume
      go no_point e =
          absurd (true≢false (sym (fit.mark (eq-eqb (get_or plan n 0) 1 h)) ∙ ap is_point e))
      go (point s) e =
          let few = fit.symbol s e in
          let same : symbol ≡ s = omega (arith, is s e) in
          rw same refl

-- ---- the sum

-- the volume in the V line of node n
abbrev volume_at : List ℕ → ℕ → ℕ
volume_at file n = number_at 86 999999 16 file n

module _ (file prices work plan : List ℕ) where
  -- the lines of the first n nodes pass, and this is the sum of what their events cost
  pub record SumSoFar (sum n : ℕ) : Type 0 where
    pub passed : Passed 86 999999 16 file n
    pub is : sum ≡ sum_below n (λ k. cost_in prices work plan k (volume_at file k))
    pub small : sum ≤ n * 9998990001

  -- before the first node
  pub sum_start : SumSoFar 0 0
  sum_start =
      record {
        passed = λ k l. absurd (omega arith);
        is = sym (sum_none (λ k. cost_in prices work plan k (volume_at file k)));
        small = omega arith;
      }

  -- one node more
  pub sum_next
      : (sum n v : ℕ) (f : Option ℕ) (x : ℕ) → PricesFit prices → SumSoFar sum n → f ≡ number_due 999999 n (line_of 86 2 (drop (n * 14) file))
      → f ≡ Some v → x ≡ cost_in prices work plan n v → SumSoFar (sum + x) (n + 1)
  sum_next sum n v f x fit s due number e =
      let (good, volume, few) = line_passes 86 999999 16 file n v (sym due ∙ number) in
      let here : x ≡ cost_in prices work plan n (volume_at file n) = e ∙ ap (cost_in prices work plan n) (sym volume) in
      record {
        passed = passed_more volume_line file n s.passed good;
        is = rw (sum_more n (λ k. cost_in prices work plan k (volume_at file k)), s.is, here) refl;
        small = omega (arith, s.small, e, cost_most prices 9999 (point_of (node_in work n).kind) (enables plan n) v fit few);
      }

  -- a volume within its limit
  pub volume_few
      : (n v : ℕ) (f : Option ℕ) → f ≡ number_due 999999 n (line_of 86 2 (drop (n * 14) file)) → f ≡ Some v → v ≤ 999999
  volume_few n v f due number = (line_passes 86 999999 16 file n v (sym due ∙ number)).2

  -- ---- the file as a whole

  -- a file that is not these lines
  none_summed : (nodes : ℕ) → column_in volume_line nodes file ≡ not_these_lines → Summed prices work plan file nodes (Err WrongVolumes)
  none_summed nodes none = record { is = sym (ap (sum_in prices work plan nodes) none); small = lit< tt }

  -- another length
  pub sum_length : (nodes : ℕ) → (length file ≡ nodes * 14 → ⊥) → Summed prices work plan file nodes (Err WrongVolumes)
  sum_length nodes h = none_summed nodes (column_length 86 999999 16 file nodes h)

  -- a line that does not pass
  pub sum_stop
      : (sum nodes n : ℕ) (f : Option ℕ) → n < nodes → SumSoFar sum n
      → f ≡ number_due 999999 n (line_of 86 2 (drop (n * 14) file)) → f ≡ None → Summed prices work plan file nodes (Err WrongVolumes)
  sum_stop sum nodes n f l s due none =
      none_summed nodes (column_stop 86 999999 16 file nodes (lit< tt) n l s.passed (sym due ∙ none))

  -- all lines
  sum_all
      : (sum nodes : ℕ) → length file ≡ nodes * 14 → SumSoFar sum nodes
      → Ok sum ≡ sum_in prices work plan nodes (column_in volume_line nodes file)
  sum_all sum nodes long s =
      ap {B = Result ℕ Refusal} (λ (x : ℕ). Ok x)
      (s.is
      ∙ sum_cong nodes (λ k. cost_in prices work plan k (volume_at file k))
      (λ k. cost_in prices work plan k (get_or (tab nodes (volume_at file)) k 0))
      (λ k l. ap (cost_in prices work plan k) (sym (get_d_tab nodes (volume_at file) k 0 l))))
      ∙ sym (ap (sum_in prices work plan nodes) (column_all 86 999999 16 file nodes (lit< tt) long s.passed))

  -- a loop left at its bound
  pub sum_end
      : (sum nodes n : ℕ) → n ≡ nodes → nodes ≤ 512 → length file ≡ nodes * 14 → SumSoFar sum n
      → Summed prices work plan file nodes (Ok sum)
  sum_end sum nodes n e few long s =
      record { is = sum_all sum nodes long (subst (SumSoFar sum) e s); small = omega (arith, s.small) }
