-- The R lines of a rule by value: they are good lines, since the rule is well formed, and spell its S rows of A next states; a job with that
-- rule is spelled by its file.
-- Assumes nothing.
use mathlib.Core.Path.{◌≡◌, refl, sym, ap, ◌∙◌, subst}
use mathlib.Core.List.{List, [], ◌++◌}
use Prim.Native.Nat.{ℕ, ◌<◌}
use native.Mathlib.Omega.{arith}
use lib.ListN.{length, get_or}
use Rattle.laws.specs.Bounded.{tab}
use Rattle.laws.proofs.Bounded.{length_tab, get_d_tab, fill_done}
use Rattle.automaton.specs.Automaton.{Automaton, automaton_of, cell, next, WellFormed, SameRule}
use Rattle.job.specs.Job.{Job, node_at, KindBelow}
use Rattle.lines.specs.Line.{write_lines}
use Rattle.lines.specs.Lines.{lines, lines_of}
use Rattle.lines.specs.Written.{GoodLines}
use Rattle.lines.proofs.SpelledLines.{written_stand, lines_says}
use Rattle.jobfile.specs.File.{rule_line, rule_of, write_job}
use Rattle.jobfile.specs.Alike.{Alike}
use Rattle.jobfile.specs.Spellable.{Spellable}
use Rattle.jobfile.specs.RuleLines.{rows_within, trimmed, rule_text, with_rule, with_rule_text, RuleLinesSay}
use Rattle.jobfile.proofs.SpelledRules.{rule_lines, rules_written, rules_count, rules_table, finals_same, RowsFit, rules_good}
use Rattle.jobfile.proofs.SpellableLaws.{accepted_written}

module _ (m : Automaton) where
  -- its row of a state
  row_within : (q : ℕ) → q < m.states → get_or (rows_within m) q [] ≡ tab m.symbols (λ a. next m q a)
  row_within q h = get_d_tab m.states (λ (k : ℕ). tab m.symbols (λ a. next m k a)) q [] h

  -- its cells are the rule's
  pub cell_within : (q a : ℕ) → q < m.states → a < m.symbols → next (trimmed m) q a ≡ next m q a
  unfolding cell
  cell_within q a h k =
      ap (λ (r : List ℕ). get_or r a 0) (row_within q h) ∙ get_d_tab m.symbols (λ (b : ℕ). get_or (get_or m.table q []) b 0) a 0 k

  -- so it is the same rule
  pub trimmed_same : SameRule m (trimmed m)
  trimmed_same = record { states = refl; symbols = refl; finals = refl; cells = λ q a h k. sym (cell_within q a h k) }

  -- S rows
  rows_count : length (rows_within m) ≡ m.states
  rows_count = length_tab m.states (λ (q : ℕ). tab m.symbols (λ a. next m q a))

  -- of A next states
  row_count : (q : ℕ) → q < m.states → length (get_or (rows_within m) q []) ≡ m.symbols
  row_count q h = ap length (row_within q h) ∙ length_tab m.symbols (λ (a : ℕ). next m q a)

  module _ (wf : WellFormed m) where
    -- it is well formed too
    pub trimmed_well_formed : WellFormed (trimmed m)
    trimmed_well_formed =
        record {
          some_state = wf.some_state;
          few_states = wf.few_states;
          some_symbol = wf.some_symbol;
          few_symbols = wf.few_symbols;
          next_below = λ q a h k. subst (λ (n : ℕ). n < m.states) (sym (cell_within q a h k)) (wf.next_below q a h k);
          finals_below = wf.finals_below;
        }

    -- the rows of R lines
    rows_fit : RowsFit m.states m.symbols (rows_within m)
    unfolding cell
    rows_fit q h =
        let within : q < m.states = omega (arith, rows_count) in
        (row_count q within, λ c l. trimmed_well_formed.next_below q c within l)

    -- the numbers of the R lines
    abbrev numbered : List (List ℕ)
    numbered = rule_lines m.finals 0 (rows_within m)

    -- they are good
    numbered_good : GoodLines (rule_line m.states m.symbols) 0 [] numbered
    numbered_good =
        rules_good m.states m.symbols m.finals 0 [] (rows_within m) (omega (arith, wf.few_states))
        (omega (arith, rows_count, wf.few_states)) rows_fit

    -- and are read where they are written
    numbered_read
        : (rest : List ℕ) → lines_of (rule_line m.states m.symbols) m.states 0 [] (rule_text m ++ rest) ≡ lines numbered rest
    unfolding rule_text
    numbered_read rest =
        let text : rule_text m ≡ write_lines 82 numbered = rules_written m.finals 0 (rows_within m) in
        ap (λ (l : List ℕ). lines_of (rule_line m.states m.symbols) m.states 0 [] (l ++ rest)) text
        ∙ (lines_says (rule_line m.states m.symbols) m.states 0 [] (write_lines 82 numbered ++ rest) numbered rest).1
        (record {
          count = rules_count m.finals 0 (rows_within m) ∙ rows_count;
          good = numbered_good;
          stand = written_stand (rule_line m.states m.symbols) rest numbered_good;
        })

    -- as the rule
    numbered_rule : rule_of m.states m.symbols numbered ≡ trimmed m
    numbered_rule =
        rw (
          finals_same m.finals (rows_within m) (λ q h. rw rows_count (wf.finals_below q h)),
          rules_table m.finals 0 (rows_within m),
        )

    module _ (j : Job) (spell : Spellable j) (states : j.rule.states ≡ m.states) (symbols : j.rule.symbols ≡ m.symbols) where
      -- a file can spell the job with that rule
      with_spellable : Spellable (with_rule m j)
      with_spellable =
          let w = spell.well_formed_holds in
          record {
            well_formed_holds =
                record {
                  rule = trimmed_well_formed;
                  kinds = λ n. subst (λ (a : ℕ). KindBelow a (node_at j n).kind) symbols (w.kinds n);
                  entries = λ n q h. rw (← states) (w.entries n q h);
                  afters = λ n s h. rw (← symbols) (w.afters n s h);
                  edges = w.edges;
                };
            rows = rows_count;
            columns = row_count;
            some_node = spell.some_node;
            few_nodes = spell.few_nodes;
            few_edges = spell.few_edges;
            ascending = spell.ascending;
            afters = spell.afters;
            some_entry_holds = spell.some_entry_holds;
          }

  -- the file is that of the job
  with_text : (j : Job) → with_rule_text m j ≡ write_job (with_rule m j)
  unfolding with_rule_text rule_text write_job
  with_text j = refl

-- a rule of S rows of A next states is what is left of every rule that is the same
pub trimmed_exact
    : (m x : Automaton) → length m.table ≡ m.states → ((q : ℕ) → q < m.states → length (get_or m.table q []) ≡ m.symbols)
    → SameRule m x → trimmed x ≡ m
unfolding cell
trimmed_exact m x rows columns same =
    let row : ℕ → List ℕ = λ q. tab m.symbols (λ a. next x q a) in
    let table : m.table ≡ tab m.states row =
    fill_done m.table m.states row [] rows
    (λ q h. fill_done (get_or m.table q []) m.symbols (λ a. next x q a) 0 (columns q h) (λ a k. same.cells q a h k)) in
    rw (← same.states, ← same.symbols, ← same.finals) (ap (λ (t : List (List ℕ)). automaton_of t m.states m.symbols m.finals) (sym table))

-- R lines of a rule by value
pub rule_lines_say : RuleLinesSay
rule_lines_say =
    record {
      same = trimmed_same;
      read_back = λ m wf rest. (numbered m wf, numbered_read m wf rest, numbered_rule m wf);
      in_a_job = λ m j file wf spell states symbols alike.
          (accepted_written file (with_rule m j)).1
          (subst (λ (l : List ℕ). Alike l file) (with_text m j) alike, with_spellable m wf j spell states symbols);
    }
