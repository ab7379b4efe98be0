-- What the parts of pricing ask and find.
-- Inner contracts: what functions ask of and leave to each other. No promise is stated in them; a reader need not believe them.
-- Assumes nothing.
use Rattle.std.specs.Prelude.{Option, Some, None, Result, Ok, Err, ◌≡◌, true, cond, List, [], ℕ, ◌^◌, ◌≤◌, ◌<◌, length, get_or}
use Rattle.laws.specs.Bounded.{sum_below}
use Rattle.refusal.specs.declared.Refusal.{Refusal}
use Rattle.refusal.specs.declared.Refusal.TheVariants.{WrongVolumes}
use Rattle.refusal.specs.Refusal.{value_in}
use Rattle.job.specs.Job.{point, point_of, is_event, Job, node_at}
use Rattle.job.specs.Plan.{enables}
use Rattle.lines.specs.Line.{at, Due, ends, no_line, found}
use Rattle.buffer.specs.Layout.{Lent}
use Rattle.buffer.specs.Views.{node_in}
use Rattle.pricing.specs.Numbered.{good_numbered, Column, column, not_these_lines, column_in}
use Rattle.pricing.specs.Pricing.{volume_line, cost, priced_job}

-- the number of the numbered line that is due, if it is there and passes
abbrev pub number_due : ℕ → ℕ → Due → Option ℕ
number_due limit place ends = None
number_due limit place no_line = None
number_due limit place (found ns) = cond (good_numbered limit place [] ns) (Some (at ns 1)) None

-- prices within their limit
abbrev pub PricesFit : List ℕ → Type 0
PricesFit prices = (s : ℕ) → get_or prices s 0 ≤ 9999

-- a node whose symbol has a price, and that is a point where it is watched
pub record NodeFit (work plan : List ℕ) (n : ℕ) : Type 0 where
  pub symbol : (s : ℕ) → point_of (node_in work n).kind ≡ point s → s < 16
  pub mark : enables plan n ≡ true → is_event (node_in work n).kind ≡ true

-- what the cost of node n needs
pub record CostFit (work plan prices : List ℕ) (n volume : ℕ) : Type 0 where
  pub long : Lent work
  pub few : n < 512
  pub byte : n < length plan
  pub volume_fits : volume ≤ 999999
  pub prices_fit : PricesFit prices
  pub node : NodeFit work plan n

-- what the sum needs of buffer, plan and prices
pub record Fit (work plan prices : List ℕ) (nodes : ℕ) : Type 0 where
  pub long : Lent work
  pub few : nodes ≤ 512
  pub bytes : nodes ≤ length plan
  pub prices_fit : PricesFit prices
  pub node : (n : ℕ) → n < nodes → NodeFit work plan n

-- what a day's events at a node of the buffer cost
abbrev pub cost_in : List ℕ → List ℕ → List ℕ → ℕ → ℕ → ℕ
cost_in prices work plan n volume = cost prices (point_of (node_in work n).kind) (enables plan n) volume

-- the sum, or `WrongVolumes`
abbrev pub sum_in : List ℕ → List ℕ → List ℕ → ℕ → Column → Result ℕ Refusal
sum_in prices work plan nodes (column volumes) = Ok (sum_below nodes (λ n. cost_in prices work plan n (get_or volumes n 0)))
sum_in prices work plan nodes not_these_lines = Err WrongVolumes

-- what is found of a volume file: the sum or `WrongVolumes`, and that there is room for it
pub record Summed (prices work plan volumes : List ℕ) (nodes : ℕ) (r : Result ℕ Refusal) : Type 0 where
  pub is : r ≡ sum_in prices work plan nodes (column_in volume_line nodes volumes)
  pub small : value_in r < 2 ^ 48

-- what pricing needs of buffer and prices
pub record BillFit (work prices : List ℕ) (nodes : ℕ) : Type 0 where
  pub long : Lent work
  pub few : nodes ≤ 512
  pub symbol : (n s : ℕ) → n < nodes → point_of (node_in work n).kind ≡ point s → s < 16
  pub prices_fit : PricesFit prices

-- the buffer holds the nodes of the job
pub record NodesHeld (j : Job) (work : List ℕ) (nodes : ℕ) : Type 0 where
  pub count : nodes ≡ length j.nodes
  pub node : (n : ℕ) → n < nodes → node_in work n ≡ node_at j n

-- the answer for every job whose nodes the buffer holds
abbrev pub Billed : List ℕ → List ℕ → ℕ → List ℕ → List ℕ → Result ℕ ℕ → Type 0
Billed prices work nodes plan volumes r = (j : Job) → NodesHeld j work nodes → r ≡ priced_job prices j plan volumes

-- a price that leaves room for 2^48 in 64 bits
abbrev pub CentsFit : Result ℕ ℕ → Type 0
CentsFit (Ok c) = c < 2 ^ 48
CentsFit (Err k) = Unit
