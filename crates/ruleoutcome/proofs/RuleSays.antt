-- What a caller of the rule call has: the bytes of the rule, the refusals in their order, the work buffer, the numbers seen, and the rule by value.
-- Assumes nothing.
use Rattle.std.specs.Prelude.{Ok, Err}
use mathlib.Core.Path.{◌≡◌, refl, sym, ap, ◌∙◌, subst}
use mathlib.Core.Bool.{Bool, true, false, cond}
use mathlib.Core.List.{List}
use Prim.Native.Nat.{ℕ, zero, suc, ◌/◌, ◌%◌, ◌^◌, ◌≤◌}
use native.Mathlib.Omega.{arith}
use lib.Dec.{eqb, ltb}
use lib.ListN.{length}
use borrow.Author.Tests.{ltb-true, ltb-false, lt-ltb, le-ltb, eqb-false, eq-eqb, ne_eqb}
use Rattle.callnumber.specs.CallNumber.{accepted_from}
use Rattle.automaton.specs.Automaton.{Automaton, WellFormed}
use Rattle.automaton.specs.Table.{rule_size}
use Rattle.automaton.proofs.RuleBytesLaws.{rule_bytes_same, rule_written}
use Rattle.job.specs.Job.{Job}
use Rattle.jobfile.specs.File.{Answer, accepted, turned, max_file, read_job}
use Rattle.buffer.specs.Buffer.{work_size}
use Rattle.admission.specs.Admission.{admitted, refused_left, work_after}
use Rattle.admission.proofs.AdmissionLaws.{admitted_long, admitted_short, admitted_read, admitted_small, left_past}
use Rattle.ruleoutcome.specs.RuleCall.{fitted, rule_answer, numbers_of, ruled_of, rule_after, rule_value, rule_number}
use Rattle.ruleoutcome.specs.RuleSays.{RuleLeft, handed_over, unchanged, RuleBytesSay, RuleRefused, too_long, short_work, turned_back, other_length, RuleAnswerSays, RuleWorkSays, ruled_read, RuledByNumber, RuleValueSays}
use Rattle.ruleoutcome.proofs.RuleLaws.{turned_or_accepted, rule_reads, rule_well_formed, finals_few}

-- ---- the bytes

-- the rule buffer after the call
pub rule_bytes_say : RuleBytesSay
rule_bytes_say file rule work = go (rule_answer file work (length rule)) refl
  where
    go : (a : Answer) → rule_answer file work (length rule) ≡ a → RuleLeft rule (rule_after a rule) a (ruled_of a)
    go (accepted j) e = handed_over (rule_written j.rule (rule_well_formed file work (length rule) j e))
    go (turned k) e = unchanged refl

-- ---- the refusals

module _ (file : List ℕ) (work rule : ℕ) where
  -- whatever is refused is refused so
  refused_so : (k : ℕ) → rule_answer file work rule ≡ turned k → RuleRefused file work rule k
  unfolding admitted
  refused_so k e = go (ltb max_file (length file)) refl (ltb work work_size) refl (read_job file) refl e
    where
      refused_as : {n : ℕ} → turned n ≡ turned k → RuleRefused file work rule n → RuleRefused file work rule k
      refused_as {n} e r = let same : n ≡ k = cc e in subst (RuleRefused file work rule) same r

      fit
          : (j : Job) → read_job file ≡ accepted j → work_size ≤ work → (same : Bool) → eqb rule rule_size ≡ same
          → cond same (accepted j) (turned 13) ≡ turned k → RuleRefused file work rule k
      fit j read room true same e = absurd (turned_or_accepted (sym e))
      fit j read room false same e = refused_as e (other_length room read (eqb-false rule rule_size same))

      go
          : (long : Bool) → ltb max_file (length file) ≡ long → (short : Bool) → ltb work work_size ≡ short → (a : Answer) → read_job file ≡ a
          → fitted (cond long (turned 1) (cond short (turned 2) a)) rule ≡ turned k → RuleRefused file work rule k
      go true l short s a read e = refused_as e (too_long (ltb-true max_file (length file) l))
      go false l true s a read e = refused_as e (short_work (ltb-false max_file (length file) l) (ltb-true work work_size s))
      go false l false s (turned n) read e =
          refused_as e (turned_back (ltb-false max_file (length file) l) (ltb-false work work_size s) read)
      go false l false s (accepted j) read e = fit j read (ltb-false work work_size s) (eqb rule rule_size) refl e

  -- with room for the work, the answer is the file's, and then 13
  with_room : (a : Answer) → work_size ≤ work → read_job file ≡ a → rule_answer file work rule ≡ fitted a rule
  with_room a room read =
      ap (λ (x : Answer). fitted x rule) (admitted_read file (ltb work work_size) (le-ltb work work_size room) ∙ read)

  -- and it is refused
  so_refused : (k : ℕ) → RuleRefused file work rule k → rule_answer file work rule ≡ turned k
  so_refused k (too_long l) = ap (λ (x : Answer). fitted x rule) (admitted_long file (ltb work work_size) l)
  so_refused k (short_work fits short) =
      ap (λ (x : Answer). fitted x rule) (admitted_short file (ltb work work_size) fits (lt-ltb work work_size short))
  so_refused k (turned_back fits room read) = with_room (turned k) room read
  so_refused k (other_length {j} room read other) = with_room (accepted j) room read ∙ simp (ne_eqb rule rule_size other)

  -- a job that is spelled is handed over where both buffers are as they must be
  so_accepted : (j : Job) → (work_size ≤ work) × (rule ≡ rule_size) × (read_job file ≡ accepted j) → rule_answer file work rule ≡ accepted j
  so_accepted j h = with_room (accepted j) h.0 h.2 ∙ simp (eq-eqb rule rule_size h.1)

  -- ---- the number

  -- S, A and the final set in it are read back
  read_numbers : (m : Automaton) → WellFormed m → ruled_read (rule_number (Ok (numbers_of m))) ≡ Ok (numbers_of m)
  read_numbers m wf =
      let n = rule_number (Ok (numbers_of m)) in
      let few = finals_few m wf in
      let states : n / 2 ^ 32 % 2 ^ 16 ≡ m.states = omega (arith, wf.few_states, wf.few_symbols, few) in
      let symbols : n / 2 ^ 16 % 2 ^ 16 ≡ m.symbols = omega (arith, wf.few_states, wf.few_symbols, few) in
      let finals : n % 2 ^ 16 ≡ m.finals = omega (arith, wf.few_states, wf.few_symbols, few) in
      simp (le-ltb n accepted_from (omega arith), states, symbols, finals)

  -- the number of a refusal is small
  refused_small : (k : ℕ) → RuleRefused file work rule k → k ≤ 15
  refused_small k (too_long l) = omega arith
  refused_small k (short_work fits short) = omega arith
  refused_small k (turned_back fits room read) =
      admitted_small file (ltb work work_size) k (admitted_read file (ltb work work_size) (le-ltb work work_size room) ∙ read)
  refused_small k (other_length room read other) = omega arith

  -- so it is read back
  read_refusal : (k : ℕ) → RuleRefused file work rule k → ruled_read (rule_number (Err k)) ≡ Err k
  read_refusal k r = simp (lt-ltb k accepted_from (omega (arith, refused_small k r)))

  -- a number of 2^48 or more is that of a rule that was handed over
  number_accepted
      : (a : Answer) → rule_answer file work rule ≡ a → accepted_from ≤ rule_number (ruled_of a) → (j : Job) × (rule_answer file work rule ≡ accepted j)
  number_accepted (accepted j) e large = (j, e)
  number_accepted (turned k) e large = absurd (omega (arith, refused_small k (refused_so k e)))

  -- the answer is read back
  answer_read : (a : Answer) → rule_answer file work rule ≡ a → ruled_read (rule_number (ruled_of a)) ≡ ruled_of a
  answer_read (accepted j) e = read_numbers j.rule (rule_well_formed file work rule j e)
  answer_read (turned k) e = read_refusal k (refused_so k e)

-- the refusals and the accepted answers
pub rule_answer_says : RuleAnswerSays
rule_answer_says =
    record {
      refused = λ file work rule k. (refused_so file work rule k, so_refused file work rule k);
      accepts = λ file work rule j. (rule_reads file work rule j, so_accepted file work rule j);
    }

-- a caller sees by the number whether the rule was handed over, and reads back the answer
pub ruled_by_number : RuledByNumber
ruled_by_number =
    record {
      number = λ file work rule j e. ap (λ (x : Answer). rule_number (ruled_of x)) e;
      accepted_seen = λ file work rule. (
        λ large. number_accepted file work rule (rule_answer file work rule) refl large,
        λ a. subst (λ (x : Answer). accepted_from ≤ rule_number (ruled_of x)) (sym a.1) (omega arith),
      );
      read_back = λ file work rule. answer_read file work rule (rule_answer file work rule) refl;
    }

-- ---- the work buffer

-- what an answer leaves of it
pub rule_work_says : RuleWorkSays
rule_work_says =
    record {
      left = λ file work rule k e some few. ap (λ (x : Answer). work_after x work) e ∙ left k work some (omega (arith, few));
      clears = λ file work rule k e past. ap (λ (x : Answer). work_after x work) e ∙ left_past k work (omega (arith, past));
      clears_after = λ file work rule j e. ap (λ (x : Answer). work_after x work) e;
    }
  where
    left : (k : ℕ) (work : List ℕ) → 1 ≤ k → k ≤ 2 → refused_left k work ≡ work
    left zero work some few = absurd (omega arith)
    left (suc zero) work some few = refl
    left (suc (suc zero)) work some few = refl
    left (suc (suc (suc k))) work some few = absurd (omega arith)

-- ---- by value

-- the table beside the answer
pub rule_value_says : RuleValueSays
rule_value_says =
    record {
      answer = answer;
      table = λ file work j e. rule_written j.rule (rule_well_formed file work rule_size j e);
      none = λ k. refl;
      rule = λ file work j e. rule_bytes_same j.rule (rule_well_formed file work rule_size j e);
    }
  where
    answer : (a : Answer) → (rule_value a).answer ≡ ruled_of a
    answer (accepted j) = refl
    answer (turned k) = refl
