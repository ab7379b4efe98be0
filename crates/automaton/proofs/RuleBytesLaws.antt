-- Laws of a rule's 256 bytes: a cell for each state below S and symbol below A, and zero elsewhere; the table that they spell is the rule's.
-- Assumes nothing.
use mathlib.Core.Path.{◌≡◌, refl, sym, ap, ap₂, ◌∙◌, subst}
use mathlib.Core.Logic.{◌⊎◌, inl, inr, ⊎_elim, by_cases}
use mathlib.Core.Bool.{Bool, true, false, cond, ◌&&◌, and-eq-true_iff}
use mathlib.Core.List.{List, []}
use Prim.Native.Nat.{ℕ, ◌+◌, ◌*◌, ◌/◌, ◌%◌, ◌≤◌, ◌<◌}
use native.Mathlib.Decide.{dec_le}
use native.Mathlib.Omega.{arith}
use lib.Dec.{ltb}
use lib.ListN.{length, get_or, get_or-eq_default}
use borrow.Author.Tests.{lt-ltb, ltb-true}
use Rattle.laws.specs.Bytes.{AreBytes}
use Rattle.laws.proofs.Bounded.{length_tab, get_d_tab, fill_done}
use Rattle.laws.proofs.Tests.{fails_of}
use Rattle.automaton.specs.Automaton.{Automaton, automaton_of, cell, next, WellFormed, SameRule}
use Rattle.automaton.specs.Table.{table_of, cell_byte, rule_bytes, RuleWritten}
use Rattle.automaton.proofs.TableLaws.{table_cell}

-- ---- a cell

-- below S and A it is the next state
pub cell_byte_at : (m : Automaton) (q a : ℕ) → q < m.states → a < m.symbols → cell_byte m q a ≡ next m q a
unfolding cell_byte
cell_byte_at m q a h k = simp (lt-ltb q m.states h, lt-ltb a m.symbols k)

-- past S or A it is zero
pub cell_byte_past : (m : Automaton) (q a : ℕ) → (m.states ≤ q) ⊎ (m.symbols ≤ a) → cell_byte m q a ≡ 0
unfolding cell_byte
cell_byte_past m q a past =
    let out : (ltb q m.states && ltb a m.symbols) ≡ false =
    fails_of _ (λ e.
    let both = (and-eq-true_iff _ _).0 e in
    let row = ltb-true q m.states both.0 in
    let column = ltb-true a m.symbols both.1 in
    ⊎_elim (λ (h : m.states ≤ q). omega arith) (λ (h : m.symbols ≤ a). omega arith) past) in
    simp out

-- it is a byte
cell_byte_lt : (m : Automaton) (q a : ℕ) → WellFormed m → cell_byte m q a < 256
unfolding cell_byte
cell_byte_lt m q a wf = go (ltb q m.states && ltb a m.symbols) refl
  where
    go : (b : Bool) → (ltb q m.states && ltb a m.symbols) ≡ b → cond b (cell m.table q a) 0 < 256
    go true e =
        let both = (and-eq-true_iff _ _).0 e in
        omega (arith, wf.next_below q a (ltb-true q m.states both.0) (ltb-true a m.symbols both.1), wf.few_states)
    go false e = omega arith

-- of a table of S rows of A next states it is the cell everywhere
pub cell_byte_exact
    : (m : Automaton) → length m.table ≡ m.states → ((q : ℕ) → q < m.states → length (get_or m.table q []) ≡ m.symbols) → (q a : ℕ)
    → next m q a ≡ cell_byte m q a
unfolding cell
cell_byte_exact m rows columns q a =
    by_cases (dec_le m.states q)
    (λ past.
    ap (λ (r : List ℕ). get_or r a 0) (get_or-eq_default m.table [] (omega (arith, rows))) ∙ sym (cell_byte_past m q a (inl past)))
    (λ below.
    by_cases (dec_le m.symbols a)
    (λ past. get_or-eq_default (get_or m.table q []) 0 (omega (arith, columns q (omega arith))) ∙ sym (cell_byte_past m q a (inr past)))
    (λ within. sym (cell_byte_at m q a (omega arith) (omega arith))))

-- ---- all of them

-- 256
pub rule_bytes_length : (m : Automaton) → length (rule_bytes m) ≡ 256
unfolding rule_bytes
rule_bytes_length m = length_tab 256 _

-- one at each place
rule_bytes_get : (m : Automaton) (i : ℕ) → i < 256 → get_or (rule_bytes m) i 0 ≡ cell_byte m (i / 16) (i % 16)
unfolding rule_bytes
rule_bytes_get m i h = get_d_tab 256 (λ (k : ℕ). cell_byte m (k / 16) (k % 16)) i 0 h

-- row after row
pub rule_bytes_at : (m : Automaton) (q a : ℕ) → q < 16 → a < 16 → get_or (rule_bytes m) (q * 16 + a) 0 ≡ cell_byte m q a
rule_bytes_at m q a h k = rule_bytes_get m (q * 16 + a) (omega arith) ∙ ap₂ (cell_byte m) (omega arith) (omega arith)

-- as they are said to be
pub rule_written : (m : Automaton) → WellFormed m → RuleWritten m (rule_bytes m)
rule_written m wf =
    record {
      count = rule_bytes_length m;
      cells = λ q a h k.
          rule_bytes_at m q a (omega (arith, wf.few_states)) (omega (arith, wf.few_symbols)) ∙ cell_byte_at m q a h k;
      past_states = λ q a past h k. rule_bytes_at m q a h k ∙ cell_byte_past m q a (inl past);
      past_symbols = λ q a h past k. rule_bytes_at m q a h k ∙ cell_byte_past m q a (inr past);
    }

-- all are bytes
pub rule_bytes_are : (m : Automaton) → WellFormed m → AreBytes (rule_bytes m)
rule_bytes_are m wf i h =
    subst (λ (b : ℕ). b < 256) (sym (rule_bytes_get m i (omega (arith, rule_bytes_length m)))) (cell_byte_lt m (i / 16) (i % 16) wf)

-- the table that they spell is the rule's, but for cells past S or A
pub rule_bytes_same
    : (m : Automaton) → WellFormed m → SameRule m (automaton_of (table_of (rule_bytes m)) m.states m.symbols m.finals)
rule_bytes_same m wf = record { states = refl; symbols = refl; finals = refl; cells = cells }
  where
    cells : (q a : ℕ) → q < m.states → a < m.symbols → cell m.table q a ≡ cell (table_of (rule_bytes m)) q a
    cells q a h k =
        let q_in : q < 16 = omega (arith, wf.few_states) in
        let a_in : a < 16 = omega (arith, wf.few_symbols) in
        sym (table_cell (rule_bytes m) q a q_in a_in ∙ rule_bytes_at m q a q_in a_in ∙ cell_byte_at m q a h k)

-- 256 bytes whose table has these cells are those of the rule
pub bytes_are_rule
    : (l : List ℕ) (m : Automaton) → length l ≡ 256 → ((q a : ℕ) → q < 16 → a < 16 → cell (table_of l) q a ≡ cell_byte m q a) → l ≡ rule_bytes m
unfolding rule_bytes
bytes_are_rule l m long cells = fill_done l 256 (λ (i : ℕ). cell_byte m (i / 16) (i % 16)) 0 long at
  where
    at : (k : ℕ) → k < 256 → get_or l k 0 ≡ cell_byte m (k / 16) (k % 16)
    at k h =
        let row : k / 16 < 16 = omega arith in
        let column : k % 16 < 16 = omega arith in
        let place : k ≡ k / 16 * 16 + k % 16 = omega arith in
        ap (λ (i : ℕ). get_or l i 0) place ∙ sym (table_cell l (k / 16) (k % 16) row column) ∙ cells (k / 16) (k % 16) row column
