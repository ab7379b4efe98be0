-- What the answers of pricing say (document 02, "Journal price of a plan"): of the file, the plan and the lines of the volume file, and not of
-- how they are read; what a plan saves; how large a price can be; and that a caller reads the answer back from the number.
-- Assumes nothing.
use Rattle.std.specs.Prelude.{Result, Ok, Err, ◌≡◌, ◌≢◌, ◌↔◌, Bool, true, false, cond, List, [], ◌∷◌, ℕ, ◌+◌, ◌-◌, ◌*◌, ◌≤◌, ◌<◌, leb, length, get_or, replicate}
use Rattle.callnumber.specs.CallNumber.{accepted_from}
use Rattle.automaton.specs.Automaton.{automaton_of}
use Rattle.job.specs.Job.{no_point, point, event, Job, node_at}
use Rattle.job.specs.Plan.{enables}
use Rattle.planning.specs.Planning.{all_enabled}
use Rattle.planning.specs.Listing.{plan_of}
use Rattle.jobfile.specs.File.{accepted, turned, read_job, write_job}
use Rattle.checking.specs.CheckingSays.{MarkFor}
use Rattle.pricing.specs.Numbered.{ColumnFile, write_column}
use Rattle.pricing.specs.Pricing.{volume_line, house_prices, cost, day_cost, priced_at, priced, price_number}

-- ---- the answer

-- nothing is turned back: the file spells the job, the plan has a byte for each of its nodes, and the volume file has these volumes
pub record Billable (file plan volumes : List ℕ) (j : Job) (counts : List ℕ) : Type 0 where
  pub spells : read_job file ≡ accepted j
  pub bytes : length plan ≡ length j.nodes
  pub marks : (n : ℕ) → n < length j.nodes → MarkFor (node_at j n).kind (get_or plan n 0)
  pub lines : ColumnFile volume_line (length j.nodes) volumes counts

-- c is the least number of cents that covers so many thousandths of a cent
pub record Covers (thousandths c : ℕ) : Type 0 where
  pub enough : thousandths ≤ c * 1000
  pub least : (d : ℕ) → thousandths ≤ d * 1000 → c ≤ d

-- the statement, at any prices: there is a price if and only if nothing is turned back, and it is the least that covers the sum
abbrev pub SaysPrice : Type 0
SaysPrice =
    (prices file plan volumes : List ℕ) (c : ℕ)
    → (priced_at prices file plan volumes ≡ Ok c)
    ↔ ((j : Job) × (counts : List ℕ) × Billable file plan volumes j counts × Covers (day_cost prices j plan counts) c)

-- r is the first that fails
pub data PriceRefused (file plan volumes : List ℕ) : ℕ → Type 0 where
  -- 1, 3 to 10: of the job file
  job_refused : {r : ℕ} → read_job file ≡ turned r → PriceRefused file plan volumes r
  -- 11: a plan that has not a byte for each node
  other_length : {j : Job} → read_job file ≡ accepted j → length plan ≢ length j.nodes → PriceRefused file plan volumes 11
  -- 12: a byte that its node may not have
  other_mark
      : {j : Job} {n : ℕ} → read_job file ≡ accepted j → length plan ≡ length j.nodes → n < length j.nodes
      → (MarkFor (node_at j n).kind (get_or plan n 0) → ⊥) → PriceRefused file plan volumes 12
  -- 16: "the volume file is not exactly these lines"
  other_lines
      : {j : Job} → read_job file ≡ accepted j → length plan ≡ length j.nodes
      → ((n : ℕ) → n < length j.nodes → MarkFor (node_at j n).kind (get_or plan n 0))
      → ((counts : List ℕ) → ColumnFile volume_line (length j.nodes) volumes counts → ⊥) → PriceRefused file plan volumes 16

-- the statement, at any prices: the answer is the refusal r if and only if r is the first that fails
abbrev pub RefusesPrice : Type 0
RefusesPrice =
    (prices file plan volumes : List ℕ) (r : ℕ) → (priced_at prices file plan volumes ≡ Err r) ↔ PriceRefused file plan volumes r

-- ---- what a node costs, and the house prices

-- the statement: the events of a watched point cost their number times the price of its symbol; an unwatched point and a node that is no
-- point cost nothing
pub record CostsSay : Type 0 where
  pub watched : (prices : List ℕ) (s volume : ℕ) → cost prices (point s) true volume ≡ volume * get_or prices s 0
  pub unwatched : (prices : List ℕ) (s volume : ℕ) → cost prices (point s) false volume ≡ 0
  pub elsewhere : (prices : List ℕ) (w : Bool) (volume : ℕ) → cost prices no_point w volume ≡ 0

-- the statement: there are sixteen house prices, each by its rule
pub record HousePricesSay : Type 0 where
  pub sixteen : length house_prices ≡ 16
  pub rule : (s : ℕ) → s < 16 → get_or house_prices s 0 ≡ 20 + 5 * s

-- ---- what a plan saves

-- the watched points of a plan are all watched in the other
abbrev pub WatchedIn : List ℕ → List ℕ → Type 0
WatchedIn plan other = (n : ℕ) → enables plan n ≡ true → enables other n ≡ true

-- the statement, at any prices: a plan costs no more than one in which its watched points are watched; so no plan that has a price costs more
-- than all points watched; and beside a volume file of its lines planning's own plan has a price
pub record Saves : Type 0 where
  pub no_dearer
      : (prices file plan other volumes : List ℕ) (c d : ℕ) → WatchedIn plan other → priced_at prices file plan volumes ≡ Ok c
      → priced_at prices file other volumes ≡ Ok d → c ≤ d
  pub at_most_all
      : (prices file plan volumes : List ℕ) (c : ℕ) → priced_at prices file plan volumes ≡ Ok c
      → (j : Job) × (d : ℕ) × (read_job file ≡ accepted j) × (priced_at prices file (all_enabled j) volumes ≡ Ok d) × (c ≤ d)
  pub planned
      : (prices file volumes counts : List ℕ) (j : Job) → read_job file ≡ accepted j → ColumnFile volume_line (length j.nodes) volumes counts
      → (c : ℕ) × (d : ℕ) × (priced_at prices file (plan_of j).plan volumes ≡ Ok c) × (priced_at prices file (all_enabled j) volumes ≡ Ok d)
      × (c ≤ d)

-- ---- how large a price can be

-- the largest price, in cents
abbrev pub max_price : ℕ
max_price = 48639952

-- 512 points of symbol 15
abbrev pub dearest : Job
dearest = record {
  rule = automaton_of (replicate 16 0 ∷ []) 1 16 0;
  nodes = replicate 512 (record { kind = event 15; entry = 1; exit = false; after = 0 });
  edges = [];
}

-- the statement: no price is larger, and 512 watched points of symbol 15 with 999,999 events a day have it
pub record LargestPrice : Type 0 where
  pub at_most : (file plan volumes : List ℕ) (c : ℕ) → priced file plan volumes ≡ Ok c → c ≤ max_price
  pub reached : priced (write_job dearest) (replicate 512 1) (write_column 86 0 (replicate 512 999999)) ≡ Ok max_price

-- ---- the number

-- the answer that a number tells: from 2^48 on the cents, any other a refusal
abbrev pub price_read : ℕ → Result ℕ ℕ
price_read n = cond (leb accepted_from n) (Ok (n - accepted_from)) (Err n)

-- the statement, at any prices: a caller reads back the price or the refusal from the number
abbrev pub PriceByNumber : Type 0
PriceByNumber =
    (prices file plan volumes : List ℕ)
    → price_read (price_number (priced_at prices file plan volumes)) ≡ priced_at prices file plan volumes
