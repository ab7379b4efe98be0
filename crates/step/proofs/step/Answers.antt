-- `step::step` meets its contract: each way through the tests is one case of `taken`, by its law.
-- Assumes nothing.
use Rattle.std.specs.Prelude.{Ok}
use mathlib.Core.Path.{◌≡◌, sym, ◌∙◌, ap}
use mathlib.Core.Bool.{true}
use Prim.Native.Nat.{ℕ}
use native.Mathlib.Omega.{arith}
use Rattle.automaton.specs.Automaton.{automaton_of, well_formed}
use Rattle.automaton.proofs.AutomatonLaws.{well_formed_says}
use Rattle.events.specs.Monitor.{record_of, reported}
use Rattle.events.proofs.MonitorLaws.{taken_13, taken_14, taken_15, taken_moved, moved_alarm, moved_quiet}
use Rattle.step.proofs.step.Goals as goal
use Rattle.events.specs.declared.Report.TheVariants.{Alarm}

pub returns-then-not-is_well_formed : goal.returns-then-not-is_well_formed
returns-then-not-is_well_formed c =
    let x = c.args in
    c.refuse.ensures
    ∙ sym
    (taken_13 (automaton_of x.table x.states x.symbols x.finals) x.symbol x.r
    (sym c.is_well_formed.ensures ∙ c.if-not-is_well_formed.true))

pub returns-then-symbols-symbol : goal.returns-then-symbols-symbol
returns-then-symbols-symbol c =
    let x = c.args in
    let m = automaton_of x.table x.states x.symbols x.finals in
    let w : well_formed m ≡ true = sym c.is_well_formed.ensures ∙ c.if-not-is_well_formed.false in
    c.refuse-then-symbols-symbol.ensures ∙ sym (taken_14 m x.symbol x.r w c.if-symbols-symbol.true)

pub returns-then-states-r : goal.returns-then-states-r
returns-then-states-r c =
    let x = c.args in
    let m = automaton_of x.table x.states x.symbols x.finals in
    let w : well_formed m ≡ true = sym c.is_well_formed.ensures ∙ c.if-not-is_well_formed.false in
    c.refuse-then-states-r.ensures ∙ sym (taken_15 m x.symbol x.r w c.if-symbols-symbol.false c.if-states-r.true)

pub next-moved-requires : goal.next-moved-requires
next-moved-requires c =
    let x = c.args in
    let m = automaton_of x.table x.states x.symbols x.finals in
    let w : well_formed m ≡ true = sym c.is_well_formed.ensures ∙ c.if-not-is_well_formed.false in
    let f = (well_formed_says m).0 w in
    (omega arith, omega arith)

pub is_final-requires : goal.is_final-requires
is_final-requires c =
    let x = c.args in
    let m = automaton_of x.table x.states x.symbols x.finals in
    let w : well_formed m ≡ true = sym c.is_well_formed.ensures ∙ c.if-not-is_well_formed.false in
    let f = (well_formed_says m).0 w in
    omega (arith, c.next-moved.ensures, f.next_below x.r.state x.symbol c.if-states-r.false c.if-symbols-symbol.false)

pub returns-then-is_final : goal.returns-then-is_final
returns-then-is_final c =
    let x = c.args in
    let m = automaton_of x.table x.states x.symbols x.finals in
    let w : well_formed m ≡ true = sym c.is_well_formed.ensures ∙ c.if-not-is_well_formed.false in
    ap (λ (k : ℕ). reported (record_of c.next-moved.result k) (Ok Alarm)) c.raise.ensures
    ∙ sym
    (taken_moved m x.symbol x.r c.next-moved.result w c.if-symbols-symbol.false c.if-states-r.false c.next-moved.ensures
    ∙ moved_alarm m c.next-moved.result x.r (sym c.is_final.ensures ∙ c.if-is_final.true))

pub returns : goal.returns
returns c =
    let x = c.args in
    let m = automaton_of x.table x.states x.symbols x.finals in
    let w : well_formed m ≡ true = sym c.is_well_formed.ensures ∙ c.if-not-is_well_formed.false in
    sym
    (taken_moved m x.symbol x.r c.next-moved.result w c.if-symbols-symbol.false c.if-states-r.false c.next-moved.ensures
    ∙ moved_quiet m c.next-moved.result x.r (sym c.is_final.ensures ∙ c.if-is_final.false))
