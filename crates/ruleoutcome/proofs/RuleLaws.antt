-- Laws of the rule call: its answer beside that of admission, and the numbers of an accepted job's rule.
-- Assumes nothing.
use mathlib.Core.Path.{◌≡◌, refl, ◌∙◌}
use mathlib.Core.Bool.{Bool, true, false, cond}
use mathlib.Core.List.{List}
use Prim.Native.Nat.{ℕ, ◌^◌, ◌≤◌, ◌<◌}
use native.Mathlib.Nat.{lt_of_lt_of_le}
use native.Mathlib.Omega.{arith}
use lib.Dec.{eqb, ltb}
use borrow.Author.Tests.{ltb-false, eqb-true}
use Rattle.laws.proofs.Bits.{members_below}
use Rattle.automaton.specs.Automaton.{Automaton, WellFormed}
use Rattle.automaton.specs.Table.{rule_size}
use Rattle.job.specs.Job.{Job}
use Rattle.jobfile.specs.File.{Answer, accepted, turned, read_job}
use Rattle.jobfile.proofs.SpellableLaws.{accepted_well_formed}
use Rattle.buffer.specs.Buffer.{work_size}
use Rattle.admission.specs.Admission.{admitted}
use Rattle.admission.proofs.AdmissionLaws.{admitted_reads}
use Rattle.ruleoutcome.specs.RuleCall.{fitted, rule_answer}

-- no answer is both
pub turned_or_accepted : {k : ℕ} {j : Job} → turned k ≡ accepted j → ⊥
turned_or_accepted e = let z : ◌≡◌ {A = ℕ} 0 1 = cc e in omega arith

-- an accepted answer: both buffers are as they must be, and the file spells the job
pub rule_reads
    : (file : List ℕ) (work rule : ℕ) (j : Job) → rule_answer file work rule ≡ accepted j
    → (work_size ≤ work) × (rule ≡ rule_size) × (read_job file ≡ accepted j)
rule_reads file work rule j e = go (admitted file (ltb work work_size)) refl e
  where
    fit
        : (i : Job) (k : ℕ) → admitted file (ltb work work_size) ≡ accepted i → (same : Bool) → eqb rule rule_size ≡ same
        → cond same (accepted i) (turned k) ≡ accepted j → (work_size ≤ work) × (rule ≡ rule_size) × (read_job file ≡ accepted j)
    fit i k is true same e =
        let read = admitted_reads file (ltb work work_size) j (is ∙ e) in
        (ltb-false work work_size read.0, eqb-true rule rule_size same, read.1)
    fit i k is false same e = absurd (turned_or_accepted e)

    go
        : (a : Answer) → admitted file (ltb work work_size) ≡ a → fitted a rule ≡ accepted j
        → (work_size ≤ work) × (rule ≡ rule_size) × (read_job file ≡ accepted j)
    go (accepted i) is e = fit i _ is (eqb rule rule_size) refl e
    go (turned k) is e = absurd (turned_or_accepted e)

-- its rule is well formed
pub rule_well_formed : (file : List ℕ) (work rule : ℕ) (j : Job) → rule_answer file work rule ≡ accepted j → WellFormed j.rule
rule_well_formed file work rule j e = (accepted_well_formed file j (rule_reads file work rule j e).2).rule

-- the final set of a rule has sixteen bits
pub finals_few : (m : Automaton) → WellFormed m → m.finals < 2 ^ 16
finals_few m wf = members_below 16 m.finals (λ q h. lt_of_lt_of_le (wf.finals_below q h) wf.few_states)
