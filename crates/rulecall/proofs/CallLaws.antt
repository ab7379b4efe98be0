-- The ways out of the rule call, in the shape of its code, and its answer by value. A job that a file spells has S rows of A next states, so
-- the rule's part of the work buffer, which holds each cell and zero past them, is the rule's bytes.
-- Assumes nothing.
use Rattle.std.specs.Prelude.{Result, Ok, Err}
use mathlib.Core.Path.{◌≡◌, refl, sym, ap, ap₂, ◌∙◌, subst}
use mathlib.Core.List.{List}
use Prim.Native.Nat.{ℕ}
use native.Mathlib.Omega.{arith}
use lib.Dec.{ltb}
use lib.ListN.{length, take, drop, replicate, length-drop, length-replicate}
use lib.Seq.{length-take-le}
use borrow.Author.Tests.{eq-eqb, ne_eqb}
use Rattle.automaton.specs.Table.{rule_size, rule_bytes}
use Rattle.automaton.proofs.RuleBytesLaws.{cell_byte_exact, bytes_are_rule}
use Rattle.job.specs.Job.{Job}
use Rattle.jobfile.specs.File.{Answer, accepted, turned}
use Rattle.jobfile.specs.Spellable.{Spellable}
use Rattle.jobfile.proofs.SpellableLaws.{read_written}
use Rattle.jobhead.specs.Numbers.{HeadNumbers}
use Rattle.jobhead.specs.Reading.{head_of_answer}
use Rattle.buffer.specs.Buffer.{work_size, cleared}
use Rattle.buffer.specs.Layout.{rule_part, Lent}
use Rattle.buffer.specs.Views.{rule_rows_in}
use Rattle.tables.specs.Held.{JobHeld}
use Rattle.admission.specs.Admission.{admitted, work_after}
use Rattle.admission.specs.Admitted.{Admitted}
use Rattle.admission.proofs.AdmissionLaws.{admitted_spells}
use Rattle.admission.proofs.CallLaws.{answer_refused}
use Rattle.rulevalue.specs.declared.WithTable.{WithTable}
use Rattle.ruleoutcome.specs.RuleCall.{fitted, rule_answer, ruled_of, rule_after, rule_value}
use Rattle.ruleoutcome.specs.declared.rule.RuleNumbers.{RuleNumbers}

-- the rule's part of a buffer that holds the job
rule_held
    : (j : Job) (m : List ℕ) (finals states nodes : ℕ) → Lent m → Spellable j → JobHeld j m (rule_rows_in m) finals states nodes
    → take 256 (drop rule_part m) ≡ rule_bytes j.rule
unfolding rule_rows_in
rule_held j m finals states nodes long spelled held =
    bytes_are_rule (take 256 (drop rule_part m)) j.rule
    (length-take-le 256 (drop rule_part m) (omega (arith, length-drop rule_part m, long)))
    (λ q a h k. held.cells q a h k ∙ cell_byte_exact j.rule spelled.rows spelled.columns q a)

module _ (file work rule : List ℕ) where
  -- what the call answers, and leaves of the work buffer and of the rule buffer
  abbrev pub RuleEnds : Result RuleNumbers ℕ → List ℕ → List ℕ → Type 0
  RuleEnds x work' rule' =
      (x ≡ ruled_of (rule_answer file (length work) (length rule)))
      × (work' ≡ work_after (rule_answer file (length work) (length rule)) work)
      × (rule' ≡ rule_after (rule_answer file (length work) (length rule)) rule)

  -- an answer is what it equals
  ends_as
      : (a : Answer) {x : Result RuleNumbers ℕ} {work' rule' : List ℕ} → rule_answer file (length work) (length rule) ≡ a
      → (x ≡ ruled_of a) × (work' ≡ work_after a work) × (rule' ≡ rule_after a rule) → RuleEnds x work' rule'
  ends_as a {x} {work'} {rule'} e h =
      subst (λ (y : Answer). (x ≡ ruled_of y) × (work' ≡ work_after y work) × (rule' ≡ rule_after y rule)) (sym e) h

  module _ (m : List ℕ) (r : HeadNumbers) (a : Admitted (admitted file (ltb (length work) work_size)) work m r) where
    -- what is admitted, with a rule buffer of this length
    fits : {x : Answer} → admitted file (ltb (length work) work_size) ≡ x → rule_answer file (length work) (length rule) ≡ fitted x (length rule)
    fits e = ap (λ (y : Answer). fitted y (length rule)) e

    -- a refusal of admission
    pub rule_refused : (r.refusal ≡ 0 → ⊥) → RuleEnds (Err r.refusal) m rule
    rule_refused h =
        let e = answer_refused a h in
        ends_as (turned r.refusal) (fits e) (refl, a.refused h ∙ ap (λ (y : Answer). work_after y work) e, refl)

    module _ (h : r.refusal ≡ 0) where
      -- 13
      pub rule_other_length : (length rule ≡ 256 → ⊥) → RuleEnds (Err 13) (cleared m) rule
      rule_other_length other =
          let j = a.job h in
          ends_as (turned 13) (fits j.is ∙ simp (ne_eqb (length rule) rule_size other)) (refl, j.clears, refl)

      -- the job's rule
      pub rule_handed_over
          : length rule ≡ 256 → (rule' : List ℕ) → rule' ≡ take 256 (drop rule_part m)
          → RuleEnds (Ok (record { states = r.states; symbols = r.symbols; finals = r.finals })) (cleared m) rule'
      rule_handed_over same rule' copied =
          let j = a.job h in
          let spelled = (read_written file j.job (admitted_spells file (ltb (length work) work_size) j.job j.is)).1 in
          let numbers = a.exact ∙ ap head_of_answer j.is in
          ends_as (accepted j.job) (fits j.is ∙ simp (eq-eqb (length rule) rule_size same)) (
            ap (λ (y : HeadNumbers). Ok (record { states = y.states; symbols = y.symbols; finals = y.finals })) numbers,
            j.clears,
            copied ∙ rule_held j.job m r.finals r.states r.nodes j.usable.long spelled j.held,
          )

-- an answer and the table beside it
abbrev pub beside : Result RuleNumbers ℕ → List ℕ → WithTable (Result RuleNumbers ℕ)
beside x table = record { answer = x; table = table }

-- by value: the rule buffer is a table of zeros before the call
module _ (file work work' table : List ℕ) (x : Result RuleNumbers ℕ) where
  -- what the call ends with, by the length of the rule buffer
  abbrev ValueEnds : ℕ → Type 0
  ValueEnds n =
      (x ≡ ruled_of (rule_answer file (length work) n))
      × (work' ≡ work_after (rule_answer file (length work) n) work)
      × (table ≡ rule_after (rule_answer file (length work) n) (replicate rule_size 0))

  -- what is left of the table is beside the answer
  beside_is : (a : Answer) → x ≡ ruled_of a → table ≡ rule_after a (replicate rule_size 0) → beside x table ≡ rule_value a
  beside_is (accepted j) e f = ap₂ beside e f
  beside_is (turned k) e f = ap₂ beside e f

  pub value_ends
      : RuleEnds file work (replicate rule_size 0) x work' table
      → (beside x table ≡ rule_value (rule_answer file (length work) rule_size))
      × (work' ≡ work_after (rule_answer file (length work) rule_size) work)
  value_ends h =
      let ends = subst ValueEnds (length-replicate {A = ℕ} rule_size 0) h in
      (beside_is (rule_answer file (length work) rule_size) ends.0 ends.2, ends.1)
