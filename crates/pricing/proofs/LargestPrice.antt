-- How large a price can be at prices up to a limit, and a job that reaches it; at the house prices, 48,639,952 cents.
-- Why: at most 512 points, each of at most 999,999 events a day at no more than the limit.
-- Assumes nothing.
use Rattle.std.specs.Prelude.{Ok}
use mathlib.Core.Path.{◌≡◌, refl, sym, ap, ◌∙◌}
use mathlib.Core.Logic.{by_cases}
use mathlib.Core.Bool.{true, false, true≢false}
use mathlib.Core.List.{List, [], ◌∷◌}
use Prim.Native.Nat.{ℕ, zero, suc, ◌*◌, ◌≤◌, ◌<◌}
use native.Mathlib.Nat.{zero-mul, suc-mul, mul-le-mul_right}
use native.Mathlib.Decide.{dec_lt}
use native.Mathlib.Omega.{arith}
use lib.ListN.{length, get_or, replicate, length-replicate, get_or-replicate, get_or-eq_default}
use Rattle.laws.specs.Bounded.{sum_below}
use Rattle.laws.specs.Bits.{has}
use Rattle.laws.proofs.Bounded.{sum_bound}
use Rattle.laws.proofs.Bits.{below_says}
use Rattle.automaton.specs.Automaton.{automaton_of, cell}
use Rattle.job.specs.Job.{event, point_of, Node, Job, no_node, node_at, holds, KindBelow, WellFormedJob}
use Rattle.job.specs.Plan.{enables}
use Rattle.job.proofs.KindLaws.{plain_below, event_below}
use Rattle.jobfile.specs.File.{write_job}
use Rattle.jobfile.specs.Spellable.{no_edge, Spellable}
use Rattle.jobfile.proofs.SpelledNodes.{none_below}
use Rattle.jobfile.proofs.SpellableLaws.{read_written, written_read}
use Rattle.checking.specs.CheckingSays.{watched}
use Rattle.pricing.specs.Numbered.{write_column}
use Rattle.pricing.specs.Pricing.{volume_line, house_prices, cost, day_cost, cents_of, priced_at, priced}
use Rattle.pricing.specs.PricingSays.{Billable, max_price, dearest, LargestPrice}
use Rattle.pricing.proofs.NumberedLaws.{column_says, written_column, column_within}
use Rattle.pricing.proofs.PricingLaws.{cost_most}
use Rattle.pricing.proofs.PricingSays.{price_of, price_sum, house_prices_say}

-- ---- a job with it

-- a point of symbol 15
abbrev dear_node : Node
dear_node = record { kind = event 15; entry = 1; exit = false; after = 0 }

-- n of them; no walk goes on from one to another
unfoldable dear_job : ℕ → Job
dear_job n = record { rule = automaton_of (replicate 16 0 ∷ []) 1 16 0; nodes = replicate n dear_node; edges = [] }

-- what holds of the one node and past the last holds at every number
nodes_each : (P : Node → Type 0) → P dear_node → P no_node → (n m : ℕ) → P (get_or (replicate n dear_node) m no_node)
nodes_each P here past zero m = past
nodes_each P here past (suc n) zero = here
nodes_each P here past (suc n) (suc m) = nodes_each P here past n m

-- every state, symbol and node that it names exists
dear_fine : (n : ℕ) → WellFormedJob (dear_job n)
unfolding dear_job cell holds
dear_fine n =
    record {
      rule =
          record {
            some_state = omega arith;
            few_states = omega arith;
            some_symbol = omega arith;
            few_symbols = omega arith;
            next_below = λ q c hq hc.
                rw (get_or-replicate 1 q (replicate {A = ℕ} 16 0) [] hq, get_or-replicate {A = ℕ} 16 c 0 0 hc) (omega arith);
            finals_below = none_below 1;
          };
      kinds = nodes_each (λ (x : Node). KindBelow 16 x.kind) (event_below (omega arith)) plain_below n;
      entries = nodes_each (λ (x : Node). (q : ℕ) → has x.entry q ≡ true → q < 1) ((below_says 1 1).0 (omega arith)) (none_below 1) n;
      afters = nodes_each (λ (x : Node). (q : ℕ) → has x.after q ≡ true → q < 16) (none_below 16) (none_below 16) n;
      edges = λ p q t. absurd (true≢false (sym t));
    }

-- it is within the limits of the file
dear_spellable : (n : ℕ) → 1 ≤ n → n ≤ 512 → Spellable (dear_job n)
unfolding dear_job
dear_spellable n some few =
    record {
      well_formed_holds = dear_fine n;
      rows = refl;
      columns = λ q h. rw (get_or-replicate 1 q (replicate {A = ℕ} 16 0) [] h) (length-replicate {A = ℕ} 16 0);
      some_node = rw (length-replicate n dear_node) some;
      few_nodes = rw (length-replicate n dear_node) few;
      few_edges = omega arith;
      ascending = no_edge;
      afters = nodes_each (λ (x : Node). x.exit ≡ false → x.after ≡ 0) (λ t. refl) (λ t. refl) n;
      some_entry_holds = (0, rw (get_or-replicate n 0 dear_node no_node some) (omega arith));
    }

-- of a number repeated, none is larger; past the last it is 0
pub same_within : (b n k : ℕ) → get_or (replicate n b) k 0 ≤ b
same_within b zero k = omega arith
same_within b (suc n) zero = omega arith
same_within b (suc n) (suc k) = same_within b n k

-- with n points watched, nothing is turned back
dear_billable
    : (n : ℕ) → 1 ≤ n → n ≤ 512
    → Billable (write_job (dear_job n)) (replicate n 1) (write_column 86 0 (replicate n 999999)) (dear_job n) (replicate n 999999)
unfolding dear_job
dear_billable n some few =
    let nodes : length (dear_job n).nodes ≡ n = length-replicate n dear_node in
    let volumes : length {A = ℕ} (replicate n 999999) ≡ n = length-replicate {A = ℕ} n 999999 in
    record {
      spells = written_read (dear_job n) (dear_spellable n some few);
      bytes = length-replicate {A = ℕ} n 1 ∙ sym nodes;
      marks = λ m h.
          let within : m < n = rw nodes at h in
          rw (get_or-replicate n m dear_node no_node within, get_or-replicate {A = ℕ} n m 1 0 within) (watched refl);
      lines =
          rw nodes
          ((column_says volume_line n (write_column 86 0 (replicate n 999999)) (replicate n 999999)).0
          (rw volumes at (written_column 86 999999 16 (replicate n 999999) (omega arith) (omega (arith, volumes)) (same_within 999999 n))));
    }

-- n terms that are one number
sum_same : (n b : ℕ) (f : ℕ → ℕ) → ((i : ℕ) → i < n → f i ≡ b) → sum_below n f ≡ n * b
unfolding sum_below
sum_same zero b f h = sym (zero-mul b)
sum_same (suc n) b f h = omega (arith, suc-mul n b, sum_same n b f (λ i l. h i (omega arith)), h n (omega arith))

-- their sum, at this price of symbol 15
dear_cost
    : (prices : List ℕ) (p n : ℕ) → get_or prices 15 0 ≡ p
    → day_cost prices (dear_job n) (replicate n 1) (replicate n 999999) ≡ n * (999999 * p)
unfolding dear_job
dear_cost prices p n is =
    ap
    (λ (k : ℕ).
    sum_below k
    (λ m. cost prices (point_of (node_at (dear_job n) m).kind) (enables (replicate n 1) m) (get_or (replicate n 999999) m 0)))
    (length-replicate n dear_node)
    ∙ sum_same n (999999 * p)
    (λ m. cost prices (point_of (node_at (dear_job n) m).kind) (enables (replicate n 1) m) (get_or (replicate n 999999) m 0))
    (λ m h.
    rw (
      get_or-replicate n m dear_node no_node h,
      get_or-replicate {A = ℕ} n m 1 0 h,
      get_or-replicate {A = ℕ} n m 999999 0 h,
      is,
    ))

-- the price of 512 points
pub dearest_price
    : (prices : List ℕ) (p : ℕ) → get_or prices 15 0 ≡ p
    → priced_at prices (write_job dearest) (replicate 512 1) (write_column 86 0 (replicate 512 999999)) ≡ Ok (cents_of (512 * (999999 * p)))
unfolding dear_job
dearest_price prices p is =
    price_of prices (write_job dearest) (replicate 512 1) (write_column 86 0 (replicate 512 999999))
    (dear_billable 512 (omega arith) (omega arith))
    ∙ ap (λ (t : ℕ). Ok (cents_of t)) (dear_cost prices p 512 is)

-- ---- no price is larger

-- the dearest symbol is the last; past it there is no price
pub house_price_most : (s : ℕ) → get_or house_prices s 0 ≤ 95
house_price_most s =
    by_cases (dec_lt s 16)
    (λ h. omega (arith, house_prices_say.rule s h))
    (λ h. omega (arith, get_or-eq_default house_prices 0 {n = s} (omega (arith, house_prices_say.sixteen))))

-- what the points of a job cost at most, at prices of at most `top`
day_cost_most
    : (prices : List ℕ) (top : ℕ) (j : Job) (plan counts : List ℕ) → ((s : ℕ) → get_or prices s 0 ≤ top) → ((n : ℕ) → get_or counts n 0 ≤ 999999)
    → day_cost prices j plan counts ≤ length j.nodes * (999999 * top)
day_cost_most prices top j plan counts most within =
    sum_bound (length j.nodes) (999999 * top) (λ n. cost prices (point_of (node_at j n).kind) (enables plan n) (get_or counts n 0))
    (λ n l. cost_most prices top (point_of (node_at j n).kind) (enables plan n) (get_or counts n 0) most (within n))

-- so no price is above that of 512 such points
pub price_most
    : (prices : List ℕ) (top : ℕ) (file plan volumes : List ℕ) (c : ℕ) → ((s : ℕ) → get_or prices s 0 ≤ top)
    → priced_at prices file plan volumes ≡ Ok c → c ≤ cents_of (512 * (999999 * top))
price_most prices top file plan volumes c most e =
    let (j, counts, b, is) = price_sum prices file plan volumes e in
    let few = mul-le-mul_right (999999 * top) (read_written file j b.spells).1.few_nodes in
    omega (
      arith,
      is,
      few,
      day_cost_most prices top j plan counts most (column_within 86 999999 16 (length j.nodes) volumes counts b.lines),
    )

-- no price is larger
pub price_at_most : (file plan volumes : List ℕ) (c : ℕ) → priced file plan volumes ≡ Ok c → c ≤ max_price
price_at_most file plan volumes c e = omega (arith, price_most house_prices 95 file plan volumes c house_price_most e)

-- the largest price
pub largest_price : LargestPrice
largest_price = record { at_most = price_at_most; reached = dearest_price house_prices 95 (house_prices_say.rule 15 (omega arith)) }
