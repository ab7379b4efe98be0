-- The journal price of a plan (document 02, "Journal price of a plan").
-- Assumes nothing.
use Rattle.std.specs.Prelude.{Result, Ok, Err, Bool, cond, List, ℕ, ◌+◌, ◌*◌, ◌/◌, length, get_or}
use Rattle.laws.specs.Bounded.{sum_below, tab}
use Rattle.callnumber.specs.CallNumber.{accepted_from}
use Rattle.job.specs.Job.{Point, no_point, point, point_of, Job, node_at}
use Rattle.job.specs.Plan.{enables}
use Rattle.lines.specs.Lines.{LineKind}
use Rattle.jobfile.specs.File.{Answer, accepted, turned, read_job}
use Rattle.checking.specs.Checking.{has_length, good_marks}
use Rattle.pricing.specs.Numbered.{numbered_line, Column, column, not_these_lines, column_in}

-- "a volume file has one V line per node in order: node, and events a day (0 to 999,999), in six-column fields" (V is 86)
abbrev pub volume_line : LineKind
volume_line = numbered_line 86 999999 16

-- "symbol s costs 20 + 5 times s cents per thousand events, held as a constant table of 16 entries"
unfoldable pub house_prices : List ℕ
unfolding tab
house_prices = tab 16 (λ s. 20 + 5 * s)

-- what a day's events at a node cost, in thousandths of a cent: "volume times price" at a watched point, nothing at any other node
abbrev pub cost : List ℕ → Point → Bool → ℕ → ℕ
cost prices no_point watched volume = 0
cost prices (point s) watched volume = cond watched (volume * get_or prices s 0) 0

-- "the sum over watched points"
abbrev pub day_cost : List ℕ → Job → List ℕ → List ℕ → ℕ
day_cost prices j plan volumes =
    sum_below (length j.nodes) (λ n. cost prices (point_of (node_at j n).kind) (enables plan n) (get_or volumes n 0))

-- "divided by 1,000 once, and a part of a cent counts as a cent"
abbrev pub cents_of : ℕ → ℕ
cents_of thousandths = (thousandths + 999) / 1000

-- 16: "the volume file is not exactly these lines"; or the price
abbrev pub billed : List ℕ → Job → List ℕ → Column → Result ℕ ℕ
billed prices j plan (column volumes) = Ok (cents_of (day_cost prices j plan volumes))
billed prices j plan not_these_lines = Err 16

-- the answer for a job that was accepted: 11, 12, 16, or the price
unfoldable pub priced_job : List ℕ → Job → List ℕ → List ℕ → Result ℕ ℕ
priced_job prices j plan volumes =
    cond (has_length j plan)
    (cond (good_marks j plan) (billed prices j plan (column_in volume_line (length j.nodes) volumes)) (Err 12)) (Err 11)

-- the answer for a file that was read
abbrev pub answered_at : List ℕ → Answer → List ℕ → List ℕ → Result ℕ ℕ
answered_at prices (turned k) plan volumes = Err k
answered_at prices (accepted j) plan volumes = priced_job prices j plan volumes

-- the answer of pricing at some prices; no work buffer is lent, so there is no 2
unfoldable pub priced_at : List ℕ → List ℕ → List ℕ → List ℕ → Result ℕ ℕ
unfolding priced_job
priced_at prices file plan volumes = answered_at prices (read_job file) plan volumes

-- "one call gets job, plan and volume file": at the house prices
abbrev pub priced : List ℕ → List ℕ → List ℕ → Result ℕ ℕ
priced = priced_at house_prices

-- a price is 2^48 plus its cents, a refusal is its number
abbrev pub price_number : Result ℕ ℕ → ℕ
price_number (Ok c) = accepted_from + c
price_number (Err k) = k
