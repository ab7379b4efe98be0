-- "A file with them", zeros before a number's digits, "must give the same answer as the file written without" (document 02, request 5): of
-- every call that is lent a job file, a volume file, a price file or a text of rule rows, the answer, its number and every lent byte. Which job
-- files are alike is `jobfile`'s `Alike.antt`: the one written without zeros is alike each file of its job (`ReadsWhatIsWritten` of
-- `Spellable.antt`). Which volume files are alike, which price files, and which texts of rows is `AlikeFiles` of `lines`: the one written without
-- zeros is alike each file of its numbers (`written` of `pricing`'s `NumberedAlike.antt`), and each text of its rows (`written`, `same_rows` of
-- `rulerows`'s `RowsAlike.antt`).
-- Assumes nothing.
use Rattle.std.specs.Prelude.{Err, Result, ◌≡◌, ◌≢◌, Bool, false, List, [], ◌∷◌, ◌++◌, ℕ, ◌<◌, length, replicate}
use Rattle.automaton.specs.Automaton.{numbers_fit}
use Rattle.automaton.specs.Table.{rule_size}
use Rattle.automaton.specs.Made.{Made, made_after}
use Rattle.job.specs.Job.{Job}
use Rattle.lines.specs.Written.{FirstBad}
use Rattle.lines.specs.Alike.{AlikeUpTo, FileDue, AlikeFiles}
use Rattle.jobfile.specs.File.{Answer, accepted, read_job}
use Rattle.jobfile.specs.ListingLines.{printed_for}
use Rattle.jobfile.specs.Alike.{TurnedDue, Alike}
use Rattle.admission.specs.Admission.{admitted, work_after}
use Rattle.checking.specs.Checking.{checked, work_left, verdict_number}
use Rattle.pricing.specs.Pricing.{volume_line, priced, price_number}
use Rattle.pricelist.specs.PriceList.{price_line, priced_by}
use Rattle.planoutcome.specs.PlanCall.{plan_answer, outcome_of, plan_after, plan_number}
use Rattle.listoutcome.specs.ListCall.{list_answer, listed_of, listing_after, list_number}
use Rattle.rulevalue.specs.declared.WithTable.{WithTable}
use Rattle.ruleoutcome.specs.RuleCall.{rule_answer, ruled_of, rule_after, rule_value, rule_number}
use Rattle.rulerows.specs.RuleRows.{row_line, rows_due, max_text, rows_made, rows_answer, rows_value, rows_number}
use Rattle.rulerows.specs.RowsAlike.{AlikeRows}
use Rattle.passes.specs.declared.passes.Counts.{Counts}
use Rattle.ruleoutcome.specs.declared.rule.RuleNumbers.{RuleNumbers}
use Rattle.checking.specs.declared.check.Verdict.{Verdict}

-- what a caller of planning has: counts or refusal, their number, the work buffer, the plan buffer
pub record PlanResult : Type 0 where
  pub outcome : Result Counts ℕ
  pub number : ℕ
  pub work : List ℕ
  pub plan : List ℕ

-- for an answer
abbrev pub plan_gives : Answer → List ℕ → List ℕ → PlanResult
plan_gives a work plan =
    record { outcome = outcome_of a; number = plan_number (outcome_of a); work = work_after a work; plan = plan_after a plan }

-- of listing: length or refusal, its number, the work buffer, the listing buffer
pub record ListResult : Type 0 where
  pub length : Result ℕ ℕ
  pub number : ℕ
  pub work : List ℕ
  pub listing : List ℕ

-- for an answer
abbrev pub list_gives : Answer → List ℕ → List ℕ → ListResult
list_gives a work listing =
    record { length = listed_of a; number = list_number (listed_of a); work = work_after a work; listing = listing_after a listing }

-- of the plan check: the verdict, its number, the work buffer
pub record CheckResult : Type 0 where
  pub verdict : Result Verdict ℕ
  pub number : ℕ
  pub work : List ℕ

-- for a verdict
abbrev pub check_gives : Result Verdict ℕ → List ℕ → CheckResult
check_gives v work = record { verdict = v; number = verdict_number v; work = work_left v work }

-- of pricing: the price, its number
pub record PriceResult : Type 0 where
  pub price : Result ℕ ℕ
  pub number : ℕ

-- for an answer
abbrev pub price_gives : Result ℕ ℕ → PriceResult
price_gives p = record { price = p; number = price_number p }

-- of the rule call: the numbers of the rule or a refusal, their number, the work buffer, the rule buffer
pub record RuleResult : Type 0 where
  pub answer : Result RuleNumbers ℕ
  pub number : ℕ
  pub work : List ℕ
  pub rule : List ℕ

-- for an answer
abbrev pub rule_gives : Answer → List ℕ → List ℕ → RuleResult
rule_gives a work rule =
    record { answer = ruled_of a; number = rule_number (ruled_of a); work = work_after a work; rule = rule_after a rule }

-- by value: the rule, the work buffer
pub record ValueResult : Type 0 where
  pub rule : WithTable (Result RuleNumbers ℕ)
  pub work : List ℕ

-- for an answer
abbrev pub value_gives : Answer → List ℕ → ValueResult
value_gives a work = record { rule = rule_value a; work = work_after a work }

-- of the listing program: what is printed, the work buffer
pub record PrintResult : Type 0 where
  pub text : List ℕ
  pub work : List ℕ

-- for an answer
abbrev pub print_gives : Answer → List ℕ → PrintResult
print_gives a work = record { text = printed_for a; work = work_after a work }

-- of the call for rule rows: its answer, the number, the rule buffer
pub record RowsResult : Type 0 where
  pub answer : Result Unit ℕ
  pub number : ℕ
  pub rule : List ℕ

-- for what is made
abbrev pub rows_gives : Made → List ℕ → RowsResult
rows_gives x rule = record { answer = rows_answer x; number = rows_number (rows_answer x); rule = made_after x rule }

-- two files get the same of every call. Each contract of a call names its file in `admitted`, `plan_answer`, `list_answer`, `checked`, `priced`,
-- `priced_by` or `rule_answer` alone, so what is said of these is said of all that a call gives
pub record OneAnswer (f g : List ℕ) : Type 0 where
  -- what every call begins with
  pub admission : (short : Bool) → admitted f short ≡ admitted g short
  pub plan_answer_holds : (work plan : ℕ) → plan_answer f work plan ≡ plan_answer g work plan
  pub planning
      : (work plan : List ℕ)
      → plan_gives (plan_answer f (length work) (length plan)) work plan ≡ plan_gives (plan_answer g (length work) (length plan)) work plan
  pub list_answer_holds : (work listing : ℕ) → list_answer f work listing ≡ list_answer g work listing
  pub listing
      : (work listing : List ℕ)
      → list_gives (list_answer f (length work) (length listing)) work listing
      ≡ list_gives (list_answer g (length work) (length listing)) work listing
  pub verdict : (plan : List ℕ) (work : ℕ) → checked f plan work ≡ checked g plan work
  pub checking : (plan work : List ℕ) → check_gives (checked f plan (length work)) work ≡ check_gives (checked g plan (length work)) work
  pub pricing : (plan volumes : List ℕ) → price_gives (priced f plan volumes) ≡ price_gives (priced g plan volumes)
  pub own_pricing
      : (plan volumes prices : List ℕ) → price_gives (priced_by f plan volumes prices) ≡ price_gives (priced_by g plan volumes prices)
  pub rule_answer_holds : (work rule : ℕ) → rule_answer f work rule ≡ rule_answer g work rule
  pub rule
      : (work rule : List ℕ)
      → rule_gives (rule_answer f (length work) (length rule)) work rule ≡ rule_gives (rule_answer g (length work) (length rule)) work rule
  pub rule_by_value
      : (work : List ℕ) → value_gives (rule_answer f (length work) rule_size) work ≡ value_gives (rule_answer g (length work) rule_size) work
  pub printing : (work : List ℕ) → print_gives (admitted f false) work ≡ print_gives (admitted g false) work

-- two volume files get the same of both calls of pricing, beside one job file
pub record OnePrice (file f g : List ℕ) : Type 0 where
  pub house : (plan : List ℕ) → price_gives (priced file plan f) ≡ price_gives (priced file plan g)
  pub own : (plan prices : List ℕ) → price_gives (priced_by file plan f prices) ≡ price_gives (priced_by file plan g prices)

-- two price files get the same of the second, beside any other files
abbrev pub OneOwnPrice : List ℕ → List ℕ → Type 0
OneOwnPrice f g = (file plan volumes : List ℕ) → price_gives (priced_by file plan volumes f) ≡ price_gives (priced_by file plan volumes g)

-- two texts of rows get the same of the call for rule rows, with S, A and a final set. Each contract of the call names its text in `rows_made`
-- alone, so what is said of that is said of all that it gives
pub record OneRule (s a : ℕ) (f g : List ℕ) (finals : ℕ) : Type 0 where
  pub made : (rule : ℕ) → rows_made f s a finals rule ≡ rows_made g s a finals rule
  pub rows
      : (rule : List ℕ)
      → rows_gives (rows_made f s a finals (length rule)) rule ≡ rows_gives (rows_made g s a finals (length rule)) rule
  pub by_value : rows_value (rows_made f s a finals rule_size) ≡ rows_value (rows_made g s a finals rule_size)

-- the statement: files alike, cut, damaged or sound, get the same of every call; so do files of one length that are too long, or alike in the
-- lines up to one that is turned back, whatever follows it. So do volume files, by a V line for each node of the job, and price files, by
-- sixteen B lines: alike ones, beside other files alike too; those alike in the lines up to one that is turned back; those of one length that
-- are alike in the lines due, whatever follows these; and any beside what is refused before them, for volume files are looked at after job and
-- plan, and price files last. So do texts of rule rows: alike ones; those of one length that are alike in the rows due, whatever follows these;
-- and any two that are too long, or beside an S, an A or a final set that is refused
pub record SameAnswers : Type 0 where
  pub alike : (f g : List ℕ) → Alike f g → OneAnswer f g
  pub no_further : (f g due : List ℕ) → length f ≡ length g → TurnedDue f due → AlikeUpTo due f g → OneAnswer f g
  pub volumes
      : (file f g : List ℕ) (j : Job) → read_job file ≡ accepted j → AlikeFiles volume_line (length j.nodes) f g → OnePrice file f g
  pub job_and_volumes
      : (file other f g plan : List ℕ) (j : Job) → Alike file other → read_job file ≡ accepted j → AlikeFiles volume_line (length j.nodes) f g
      → price_gives (priced file plan f) ≡ price_gives (priced other plan g)
  pub volumes_turned_back
      : (file f g : List ℕ) (j : Job) (r : ℕ) → read_job file ≡ accepted j → (b : FirstBad volume_line (length j.nodes) 0 [] f r)
      → AlikeUpTo (replicate (length b.passed) 2 ++ (2 ∷ [])) f g → OnePrice file f g
  pub volumes_no_further
      : (file f g due : List ℕ) (j : Job) → read_job file ≡ accepted j → length f ≡ length g
      → FileDue volume_line (length j.nodes) f due → AlikeUpTo due f g → OnePrice file f g
  pub volumes_last : (file plan f g : List ℕ) (r : ℕ) → r ≢ 16 → priced file plan f ≡ Err r → priced file plan g ≡ Err r
  pub prices : (f g : List ℕ) → AlikeFiles price_line 16 f g → OneOwnPrice f g
  pub job_volumes_and_prices
      : (file other f g p q plan : List ℕ) (j : Job) → Alike file other → read_job file ≡ accepted j
      → AlikeFiles volume_line (length j.nodes) f g → AlikeFiles price_line 16 p q
      → price_gives (priced_by file plan f p) ≡ price_gives (priced_by other plan g q)
  pub prices_turned_back
      : (f g : List ℕ) (r : ℕ) (b : FirstBad price_line 16 0 [] f r) → AlikeUpTo (replicate (length b.passed) 2 ++ (2 ∷ [])) f g
      → OneOwnPrice f g
  pub prices_no_further
      : (f g due : List ℕ) → length f ≡ length g → FileDue price_line 16 f due → AlikeUpTo due f g → OneOwnPrice f g
  pub prices_last
      : (file plan volumes f g : List ℕ) (r : ℕ) → r ≢ 28 → priced_by file plan volumes f ≡ Err r → priced_by file plan volumes g ≡ Err r
  pub own_volumes_last
      : (file plan f g prices : List ℕ) (r : ℕ) → r ≢ 16 → r ≢ 28 → priced_by file plan f prices ≡ Err r
      → priced_by file plan g prices ≡ Err r
  pub rows : (s a : ℕ) (f g : List ℕ) → AlikeRows s a f g → (finals : ℕ) → OneRule s a f g finals
  pub rows_no_further
      : (s a : ℕ) (f g due : List ℕ) → length f ≡ length g → FileDue (row_line s a) (rows_due f) f due → AlikeUpTo due f g → (finals : ℕ)
      → OneRule s a f g finals
  pub rows_too_long : (s a : ℕ) (f g : List ℕ) → max_text < length f → max_text < length g → (finals : ℕ) → OneRule s a f g finals
  pub rows_unfit : (s a : ℕ) (f g : List ℕ) (finals : ℕ) → numbers_fit s a finals ≡ false → OneRule s a f g finals
