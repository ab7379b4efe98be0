-- Files alike get the same answer of every call: they have one length and are read alike, and no call looks at more of its file. Volume files
-- alike have the same volumes or none, price files alike the same prices or none, and pricing looks at no more of them; texts of rows alike have
-- the same rows or none.
-- Assumes nothing.
use Rattle.std.specs.Prelude.{Result}
use mathlib.Core.Path.{◌≡◌, refl, sym, ap, ap₂, ◌∙◌}
use mathlib.Core.Logic.{◌≢◌}
use mathlib.Core.Bool.{Bool, false, cond, ◌&&◌, ◌||◌, and-false}
use mathlib.Core.List.{List}
use Prim.Native.Nat.{ℕ, ◌<◌}
use lib.Dec.{eqb, leb, ltb}
use lib.ListN.{length}
use borrow.Author.Tests.{lt-leb}
use Rattle.automaton.specs.Automaton.{numbers_fit}
use Rattle.automaton.specs.Table.{rule_size}
use Rattle.automaton.specs.Made.{Made, refuses}
use Rattle.job.specs.Job.{Job}
use Rattle.lines.specs.Alike.{AlikeFiles}
use Rattle.jobfile.specs.File.{Answer, accepted, read_job}
use Rattle.jobfile.specs.Alike.{Alike}
use Rattle.jobfile.proofs.AlikeLaws.{alike_says}
use Rattle.buffer.specs.Buffer.{work_size}
use Rattle.admission.specs.Admission.{admitted}
use Rattle.checking.specs.Checking.{answered, checked}
use Rattle.pricing.specs.Numbered.{Column, column, not_these_lines, column_in}
use Rattle.pricing.specs.Pricing.{volume_line, house_prices, priced_job, answered_at, priced_at}
use Rattle.pricing.specs.PricingSays.{PriceRefused, job_refused, other_length, other_mark, other_lines}
use Rattle.pricing.proofs.PricingLaws.{priced_job_lem}
use Rattle.pricing.proofs.PricingSays.{price_refused}
use Rattle.pricing.proofs.NumberedAlikeLaws.{numbered_say_alike}
use Rattle.pricelist.specs.PriceList.{price_line, prices_in, unlisted, answered_by, priced_by}
use Rattle.pricelist.specs.PriceListSays.{OwnPriceRefused, without_prices, other_prices}
use Rattle.pricelist.proofs.PriceListSays.{own_price_refused}
use Rattle.planoutcome.specs.PlanCall.{plan_size, plan_answer}
use Rattle.listoutcome.specs.ListCall.{listing_size, list_answer}
use Rattle.ruleoutcome.specs.RuleCall.{fitted, rule_answer}
use Rattle.rulerows.specs.RuleRows.{Rows, rows_in, max_text, made_of_rows, rule_from, rows_made, rows_value}
use Rattle.rulerows.proofs.RowsAlikeLaws.{rows_say_alike}
use Rattle.alikecalls.specs.SameAnswers.{plan_gives, list_gives, check_gives, price_gives, rule_gives, value_gives, print_gives, rows_gives, OneAnswer, OnePrice, OneOwnPrice, OneRule, SameAnswers}
use Rattle.checking.specs.declared.check.Verdict.{Verdict}

-- the answer of pricing is one, whatever the prices
abbrev SamePrice : List ℕ → List ℕ → List ℕ → List ℕ → List ℕ → Type 0
SamePrice file other plan f g = (prices : List ℕ) → priced_at prices file plan f ≡ priced_at prices other plan g

-- so it is by any price file
same_own_price
    : (file other plan f g prices : List ℕ) → SamePrice file other plan f g → priced_by file plan f prices ≡ priced_by other plan g prices
unfolding priced_by
same_own_price file other plan f g prices same = go (prices_in prices)
  where
    go : (x : Column) → answered_by x file plan f ≡ answered_by x other plan g
    go (column list) = same list
    go not_these_lines = ap unlisted (same house_prices)

module _ (f g : List ℕ) (long : length f ≡ length g) (read : read_job f ≡ read_job g) where
  -- what a call begins with
  same_admission : (short : Bool) → admitted f short ≡ admitted g short
  unfolding admitted
  same_admission short = rw (long, read)

  -- planning
  same_plan : (work plan : ℕ) → plan_answer f work plan ≡ plan_answer g work plan
  same_plan work plan = same_admission (ltb work work_size || ltb plan plan_size)

  -- listing
  same_list : (work listing : ℕ) → list_answer f work listing ≡ list_answer g work listing
  same_list work listing = same_admission (ltb work work_size || ltb listing listing_size)

  -- the verdict
  same_verdict : (plan : List ℕ) (work : ℕ) → checked f plan work ≡ checked g plan work
  unfolding checked
  same_verdict plan work = ap (λ (x : Answer). answered x plan) (same_admission (ltb work work_size))

  -- the rule
  same_rule : (work rule : ℕ) → rule_answer f work rule ≡ rule_answer g work rule
  same_rule work rule = ap (λ (x : Answer). fitted x rule) (same_admission (ltb work work_size))

  -- the price, at any prices
  same_price : (plan volumes : List ℕ) → SamePrice f g plan volumes volumes
  unfolding priced_at
  same_price plan volumes prices = ap (λ (x : Answer). answered_at prices x plan volumes) read

  -- all that a call gives
  one_answer : OneAnswer f g
  one_answer =
      record {
        admission = same_admission;
        plan_answer_holds = same_plan;
        planning = λ work plan. ap (λ (x : Answer). plan_gives x work plan) (same_plan (length work) (length plan));
        list_answer_holds = same_list;
        listing = λ work listing. ap (λ (x : Answer). list_gives x work listing) (same_list (length work) (length listing));
        verdict = same_verdict;
        checking = λ plan work. ap (λ (v : Result Verdict ℕ). check_gives v work) (same_verdict plan (length work));
        pricing = λ plan volumes. ap price_gives (same_price plan volumes house_prices);
        own_pricing = λ plan volumes prices. ap price_gives (same_own_price f g plan volumes volumes prices (same_price plan volumes));
        rule_answer_holds = same_rule;
        rule = λ work rule. ap (λ (x : Answer). rule_gives x work rule) (same_rule (length work) (length rule));
        rule_by_value = λ work. ap (λ (x : Answer). value_gives x work) (same_rule (length work) rule_size);
        printing = λ work. ap (λ (x : Answer). print_gives x work) (same_admission false);
      }

-- ---- volume files

-- those that are read alike get one price, at any prices
same_volumes
    : (file f g : List ℕ) (j : Job) → read_job file ≡ accepted j
    → column_in volume_line (length j.nodes) f ≡ column_in volume_line (length j.nodes) g → (plan : List ℕ) → SamePrice file file plan f g
unfolding priced_job
same_volumes file f g j spells same plan prices =
    let one : priced_job prices j plan f ≡ priced_job prices j plan g = rw same in
    priced_job_lem prices file plan f j spells ∙ one ∙ sym (priced_job_lem prices file plan g j spells)

-- so they do of both calls
one_price
    : (file f g : List ℕ) (j : Job) → read_job file ≡ accepted j
    → column_in volume_line (length j.nodes) f ≡ column_in volume_line (length j.nodes) g → OnePrice file f g
one_price file f g j spells same =
    record {
      house = λ plan. ap price_gives (same_volumes file f g j spells same plan house_prices);
      own = λ plan prices. ap price_gives (same_own_price file file plan f g prices (same_volumes file f g j spells same plan));
    }

-- a refusal of a job file or a plan is that beside any volume file
same_refusal : (file plan f g : List ℕ) {r : ℕ} → r ≢ 16 → PriceRefused file plan f r → PriceRefused file plan g r
same_refusal file plan f g h (job_refused e) = job_refused e
same_refusal file plan f g h (other_length e bytes) = other_length e bytes
same_refusal file plan f g h (other_mark e bytes within bad) = other_mark e bytes within bad
same_refusal file plan f g h (other_lines e bytes marks none) = absurd (h refl)

-- job files alike beside volume files alike, at any prices
job_and_volumes
    : (file other f g plan : List ℕ) (j : Job) → Alike file other → read_job file ≡ accepted j → AlikeFiles volume_line (length j.nodes) f g
    → SamePrice file other plan f g
job_and_volumes file other f g plan j a spells v prices =
    same_volumes file f g j spells (numbered_say_alike.read_alike volume_line (length j.nodes) f g v) plan prices
    ∙ same_price file other a.long (alike_says.read_alike file other a) plan g prices

-- ---- price files

-- those that are read alike get one price
one_own_price : (f g : List ℕ) → prices_in f ≡ prices_in g → OneOwnPrice f g
unfolding priced_by
one_own_price f g same file plan volumes = ap (λ (x : Column). price_gives (answered_by x file plan volumes)) same

-- alike ones are
prices_alike : (f g : List ℕ) → AlikeFiles price_line 16 f g → prices_in f ≡ prices_in g
prices_alike f g a = numbered_say_alike.read_alike price_line 16 f g a

-- any refusal of the second call but 28 is that beside any price file
prices_last
    : (file plan volumes f g : List ℕ) {r : ℕ} → r ≢ 28 → OwnPriceRefused file plan volumes f r → OwnPriceRefused file plan volumes g r
prices_last file plan volumes f g h (without_prices b) = without_prices b
prices_last file plan volumes f g h (other_prices b none) = absurd (h refl)

-- and any but 16 and 28 is that beside any volume file
own_volumes_last
    : (file plan f g prices : List ℕ) {r : ℕ} → r ≢ 16 → r ≢ 28 → OwnPriceRefused file plan f prices r → OwnPriceRefused file plan g prices r
own_volumes_last file plan f g prices h k (without_prices b) = without_prices (same_refusal file plan f g h b)
own_volumes_last file plan f g prices h k (other_prices b none) = absurd (k refl)

-- ---- texts of rule rows

-- those that make the same rule, or get the same refusal, get the same of the call
one_rule : (s a : ℕ) (f g : List ℕ) (finals : ℕ) → rule_from f s a finals ≡ rule_from g s a finals → OneRule s a f g finals
one_rule s a f g finals same =
    record {
      made = made;
      rows = λ rule. ap (λ (x : Made). rows_gives x rule) (made (length rule));
      by_value = ap rows_value (made rule_size);
    }
  where
    made : (rule : ℕ) → rows_made f s a finals rule ≡ rows_made g s a finals rule
    made rule = ap (λ (x : Made). cond (eqb rule rule_size) x (refuses 13)) same

-- texts of one length with the same rows, or none
same_rows
    : (s a : ℕ) (f g : List ℕ) → length f ≡ length g → rows_in s a f ≡ rows_in s a g → (finals : ℕ) → rule_from f s a finals ≡ rule_from g s a finals
unfolding rule_from
same_rows s a f g long same finals =
    ap₂ (λ (n : ℕ) (x : Rows). cond (leb n max_text && numbers_fit s a finals) (made_of_rows s a finals x) (refuses 17)) long same

-- texts that are refused before a row is looked at
too_long_made : (s a : ℕ) (f : List ℕ) (finals : ℕ) → max_text < length f → rule_from f s a finals ≡ refuses 17
unfolding rule_from
too_long_made s a f finals long =
    ap (λ (b : Bool). cond (b && numbers_fit s a finals) (made_of_rows s a finals (rows_in s a f)) (refuses 17)) (lt-leb (length f) max_text long)

unfit_made : (s a : ℕ) (f : List ℕ) (finals : ℕ) → numbers_fit s a finals ≡ false → rule_from f s a finals ≡ refuses 17
unfolding rule_from
unfit_made s a f finals e =
    ap (λ (b : Bool). cond b (made_of_rows s a finals (rows_in s a f)) (refuses 17))
    (ap (λ (b : Bool). leb (length f) max_text && b) e ∙ and-false (leb (length f) max_text))

-- ---- the theorem

-- files alike, or alike as far as they are looked at
pub same_answers : SameAnswers
same_answers =
    record {
      alike = λ f g a. one_answer f g a.long (alike_says.read_alike f g a);
      no_further = λ f g due same d a. one_answer f g same (alike_says.no_further f g due same d a);
      volumes = λ file f g j spells a.
          one_price file f g j spells (numbered_say_alike.read_alike volume_line (length j.nodes) f g a);
      job_and_volumes = λ file other f g plan j a spells v.
          ap price_gives (job_and_volumes file other f g plan j a spells v house_prices);
      volumes_turned_back = λ file f g j r spells b a.
          one_price file f g j spells (numbered_say_alike.turned_back volume_line (length j.nodes) f g r b a);
      volumes_no_further = λ file f g due j spells long d a.
          one_price file f g j spells (numbered_say_alike.no_further volume_line (length j.nodes) f g due long d a);
      volumes_last = λ file plan f g r h e.
          (price_refused house_prices file plan g r).1 (same_refusal file plan f g h ((price_refused house_prices file plan f r).0 e));
      prices = λ f g a. one_own_price f g (prices_alike f g a);
      job_volumes_and_prices = λ file other f g p q plan j a spells v b.
          ap price_gives (same_own_price file other plan f g p (job_and_volumes file other f g plan j a spells v))
          ∙ one_own_price p q (prices_alike p q b) other plan g;
      prices_turned_back = λ f g r b a. one_own_price f g (numbered_say_alike.turned_back price_line 16 f g r b a);
      prices_no_further = λ f g due long d a. one_own_price f g (numbered_say_alike.no_further price_line 16 f g due long d a);
      prices_last = λ file plan volumes f g r h e.
          (own_price_refused file plan volumes g r).1
          (prices_last file plan volumes f g h ((own_price_refused file plan volumes f r).0 e));
      own_volumes_last = λ file plan f g prices r h k e.
          (own_price_refused file plan g prices r).1
          (own_volumes_last file plan f g prices h k ((own_price_refused file plan f prices r).0 e));
      rows = λ s a f g a' finals. one_rule s a f g finals (same_rows s a f g a'.long (rows_say_alike.read_alike s a f g a') finals);
      rows_no_further = λ s a f g due long d up_to_lem finals.
          one_rule s a f g finals (same_rows s a f g long (rows_say_alike.no_further s a f g due long d up_to_lem) finals);
      rows_too_long = λ s a f g h k finals.
          one_rule s a f g finals (too_long_made s a f finals h ∙ sym (too_long_made s a g finals k));
      rows_unfit = λ s a f g finals e. one_rule s a f g finals (unfit_made s a f finals e ∙ sym (unfit_made s a g finals e));
    }
