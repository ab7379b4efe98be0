-- A file is accepted with a job exactly where it is alike the file written from that job and the job is spellable; of the files of a job
-- just the written one has no zeros; and no accepted file has more than 49,914 bytes. Each part by the laws of its lines.
-- Assumes nothing.
use Prim.Native.Nat.{ℕ, ◌+◌, ◌*◌, ◌≤◌, ◌<◌}
use mathlib.Core.Path.{◌≡◌, refl, sym, ap, subst, ◌∙◌}
use mathlib.Core.Logic.{by_cases}
use mathlib.Core.Bool.{Bool, true, false, true≢false}
use mathlib.Core.List.{List, [], ◌∷◌, map}
use native.Mathlib.Decide.{dec_lt}
use native.Mathlib.Omega.{arith}
use lib.ListN.{length, drop, get_or, length-map}
use Rattle.automaton.specs.Automaton.{WellFormed, cell}
use Rattle.job.specs.Job.{Job, no_node, WellFormedJob}
use Rattle.lines.specs.Line.{at}
use Rattle.lines.specs.Alike.{NoZerosOver}
use Rattle.jobfile.specs.File.{max_file, rule_line, node_line, edge_line, finals_of, rule_of, node_of, edge_of, some_entry, accepted, turned, read_job, write_job, job_of}
use Rattle.jobfile.specs.Refusal.{HeadWithin, PastEdges, too_long, at_head, at_rule, at_node, at_Edge}
use Rattle.jobfile.specs.Alike.{TurnedDue, any_due, head_due, rule_due, node_due, edge_due, LinesDue, some_due, all_due, Alike, WithoutZeros}
use Rattle.lines.specs.Written.{GoodLines}
use Rattle.jobfile.specs.Spellable.{Spellable, ReadsWhatIsWritten, AcceptedOnce, AcceptsWellFormed}
use Rattle.jobfile.proofs.SpelledRules.{rules_count, rules_table, finals_high, finals_same, RowsFit, Rules-Exact, rules_good, rows_fit}
use Rattle.jobfile.proofs.SpelledNodes.{nodes_count, nodes_read, NodeFits, nodes_exact, nodes_fit, nodes_good}
use Rattle.jobfile.proofs.SpelledEdges.{edge_numbers, edges_read, edges_exact, edges_ascend, edges_below, edges_good}
use Rattle.jobfile.proofs.SpelledFile.{head_good, head_exact, file_of, job_head, job_rules, job_nodes, job_edges, written_form, all_counts, Parts, file_past, file_no_zeros, past_only, past_alike, past_length, file_length, length_limit}
use Rattle.jobfile.proofs.RefusalLaws.{some_entry_says, past_edges, turned_says, accepted_says}
use Rattle.jobfile.proofs.AlikeLaws.{alike_says}
use Rattle.jobfile.specs.FileTrials.{pair_with_zeros}
use Rattle.planning.specs.Trials.{pair}
use Rattle.jobfile.proofs.FileTrialsPass.{pair_with_zeros_read, pair_with_zeros_other}

-- a file consists of the lines of a job
abbrev OfJob : List ℕ → Job → Type 0
OfJob file j = PastEdges file (job_head j) (job_rules j) (job_nodes j) (job_edges j) []

-- files of one job are alike
files_alike : (f g : List ℕ) (j : Job) → OfJob f j → OfJob g j → Alike f g
files_alike f g j p q =
    record {
      long =
          past_length (job_head j) (job_rules j) (job_nodes j) (job_edges j) p
          ∙ sym (past_length (job_head j) (job_rules j) (job_nodes j) (job_edges j) q);
      due = all_counts j.rule.symbols (job_rules j) (job_nodes j) (job_edges j);
      lines = all_due p;
      over = past_alike (job_head j) (job_rules j) (job_nodes j) (job_edges j) p q;
    }

-- ---- from a job to its lines

module _ (j : Job) (spell : Spellable j) where
  -- the limits of its J line
  head_fits : HeadWithin j.rule.states j.rule.symbols (length j.nodes) (length j.edges)
  head_fits =
      let w = spell.well_formed_holds.rule in
      record {
        some_state = w.some_state;
        few_states = w.few_states;
        some_symbol = w.some_symbol;
        few_symbols = w.few_symbols;
        some_node = spell.some_node;
        few_nodes = spell.few_nodes;
        few_edges = spell.few_edges;
      }

  -- its table
  table_fits : RowsFit j.rule.states j.rule.symbols j.rule.table
  unfolding cell
  table_fits q h =
      let within : q < j.rule.states = omega (arith, spell.rows) in
      (spell.columns q within, λ c l. spell.well_formed_holds.rule.next_below q c within l)

  -- its nodes
  node_fits : (m : ℕ) → NodeFits j.rule.states j.rule.symbols (get_or j.nodes m no_node)
  node_fits m =
      let w = spell.well_formed_holds in
      record {
        kind = w.kinds m;
        entry = w.entries m;
        after = w.afters m;
        none = spell.afters m;
      }

  -- its R lines are good
  rules_fine : GoodLines (rule_line j.rule.states j.rule.symbols) 0 [] (job_rules j)
  rules_fine =
      let few = spell.well_formed_holds.rule.few_states in
      rules_good j.rule.states j.rule.symbols j.rule.finals 0 [] j.rule.table (omega arith)
      (omega (arith, spell.rows)) table_fits

  -- its P lines are good
  nodes_fine : GoodLines (node_line j.rule.states j.rule.symbols) 0 [] (job_nodes j)
  nodes_fine =
      let w = spell.well_formed_holds.rule in
      nodes_good j.rule.states j.rule.symbols 0 [] j.nodes w.few_states w.few_symbols
      (omega (arith, spell.few_nodes)) node_fits

  -- its F lines are good
  edges_fine : GoodLines (edge_line (length j.nodes)) 0 [] (job_edges j)
  edges_fine =
      edges_good (length j.nodes) j.edges (omega (arith, spell.few_nodes)) spell.well_formed_holds.edges spell.ascending

  -- the four parts of its file
  job_parts : Parts (job_head j) (job_rules j) (job_nodes j) (job_edges j)
  job_parts =
      record {
        head_lines = head_good j.rule.states j.rule.symbols (length j.nodes) (length j.edges) head_fits;
        rule_lines_lem = rules_fine;
        rule_count = rules_count j.rule.finals 0 j.rule.table ∙ spell.rows;
        node_lines_lem = nodes_fine;
        node_count = nodes_count 0 j.nodes;
        edge_lines = edges_fine;
        edge_count = length-map j.edges edge_numbers;
      }

  -- how long the file of a job is
  pub written_length
      : length (write_job j)
      ≡ 26 + j.rule.states * (j.rule.symbols * 6 + 14) + length j.nodes * 38 + length j.edges * 14
  written_length =
      ap length (written_form j)
      ∙ file_length j.rule.states j.rule.symbols (length j.nodes) (length j.edges) (job_head j) (job_rules j) (job_nodes j)
      (job_edges j) refl rules_fine job_parts.rule_count nodes_fine job_parts.node_count edges_fine job_parts.edge_count

  -- "longer than 49,914 bytes" is no file of a job
  pub longest : length (write_job j) ≤ 49914
  longest =
      rw written_length
      (length_limit j.rule.states j.rule.symbols (length j.nodes) (length j.edges) head_fits)

  -- the job of its lines
  lines_job : j ≡ job_of (job_head j) (job_rules j) (job_nodes j) (job_edges j)
  lines_job =
      rw (
        finals_same j.rule.finals j.rule.table (λ q h. rw spell.rows (spell.well_formed_holds.rule.finals_below q h)),
        rules_table j.rule.finals 0 j.rule.table,
        nodes_read 0 j.nodes,
        edges_read j.edges,
      )

  -- its file consists of its lines
  written_past : OfJob (write_job j) j
  written_past =
      rw (written_form j)
      (file_past (job_head j) (job_rules j) (job_nodes j) (job_edges j) job_parts
      (subst (λ (l : List ℕ). length l ≤ max_file) (written_form j) longest))

  -- the file written from a job is read as that job
  pub written_read : read_job (write_job j) ≡ accepted j
  written_read =
      (accepted_says (write_job j) j).1 (record {
        head = job_head j;
        rules = job_rules j;
        nodes = job_nodes j;
        edges = job_edges j;
        past = written_past;
        entry = rw (nodes_read 0 j.nodes) ((some_entry_says j.nodes).1 spell.some_entry_holds);
        job = lines_job;
      })

  -- it has no zeros before a number's digits
  written_plain : WithoutZeros (write_job j)
  written_plain =
      record {
        due = all_counts j.rule.symbols (job_rules j) (job_nodes j) (job_edges j);
        lines = all_due written_past;
        none = rw (written_form j) (file_no_zeros (job_head j) (job_rules j) (job_nodes j) (job_edges j) job_parts);
      }

-- ---- from the lines to a job

module _
    (file head : List ℕ) (rules nodes edges : List (List ℕ)) (p : PastEdges file head rules nodes edges [])
    (some : some_entry (map node_of nodes) ≡ true)
  where
    -- there are N nodes
    nodes_all : length (map node_of nodes) ≡ at head 2
    nodes_all = length-map nodes node_of ∙ p.past.lines.count

    -- there are E edges
    edges_all : length (map edge_of edges) ≡ at head 3
    edges_all = length-map edges edge_of ∙ p.lines.count

    -- its J line
    lines_head : job_head (job_of head rules nodes edges) ≡ head
    lines_head = rw (nodes_all, edges_all) (sym (head_exact head p.past.past.past.lines.good).0)

    -- its R lines
    lines_rules : job_rules (job_of head rules nodes edges) ≡ rules
    lines_rules = Rules-Exact (at head 0) (at head 1) (finals_of 0 rules) p.past.past.lines.good (λ q l. refl)

    -- its P lines
    lines_nodes : job_nodes (job_of head rules nodes edges) ≡ nodes
    lines_nodes = nodes_exact (at head 0) (at head 1) p.past.lines.good

    -- its F lines
    lines_edges : job_edges (job_of head rules nodes edges) ≡ edges
    lines_edges = edges_exact (at head 2) p.lines.good

    -- the job's file is that of the lines
    lines_written : write_job (job_of head rules nodes edges) ≡ file_of head rules nodes edges
    lines_written = written_form (job_of head rules nodes edges) ∙ rw (lines_head, lines_rules, lines_nodes, lines_edges)

    -- the file consists of the job's lines
    lines_of_job : OfJob file (job_of head rules nodes edges)
    lines_of_job = rw (lines_head, lines_rules, lines_nodes, lines_edges) p

    -- the rule is well formed
    rule_fine : WellFormed (rule_of (at head 0) (at head 1) rules)
    unfolding cell
    rule_fine =
        let f = (head_exact head p.past.past.past.lines.good).1 in
        let lines = p.past.past.lines in
        record {
          some_state = f.some_state;
          few_states = f.few_states;
          some_symbol = f.some_symbol;
          few_symbols = f.few_symbols;
          next_below = λ q c hq hc.
              (rows_fit (at head 0) (at head 1) lines.good q (rw (length-map rules (drop 2), lines.count) hq)).1 c hc;
          finals_below = λ q h.
              by_cases (dec_lt q (at head 0)) (λ l. l)
              (λ g. absurd (true≢false (sym h ∙ finals_high 0 q rules (omega (arith, lines.count)))));
        }

    -- every node, state and symbol that is named exists
    job_fine : WellFormedJob (job_of head rules nodes edges)
    job_fine =
        let fit = nodes_fit (at head 0) (at head 1) p.past.lines.good in
        record {
          rule = rule_fine;
          kinds = λ n. (fit n).kind;
          entries = λ n. (fit n).entry;
          afters = λ n. (fit n).after;
          edges = λ m n h. rw nodes_all (edges_below (at head 2) p.lines.good m n h);
        }

    -- the job of good lines is spellable
    lines_spellable : Spellable (job_of head rules nodes edges)
    lines_spellable =
        let f = (head_exact head p.past.past.past.lines.good).1 in
        let rows_all : length (map (drop 2) rules) ≡ at head 0 = length-map rules (drop 2) ∙ p.past.past.lines.count in
        record {
          well_formed_holds = job_fine;
          rows = rows_all;
          columns = λ q h. (rows_fit (at head 0) (at head 1) p.past.past.lines.good q (rw rows_all h)).0;
          some_node = rw nodes_all f.some_node;
          few_nodes = rw nodes_all f.few_nodes;
          few_edges = rw edges_all f.few_edges;
          ascending = edges_ascend (at head 2) p.lines.good;
          afters = λ n. (nodes_fit (at head 0) (at head 1) p.past.lines.good n).none;
          some_entry_holds = (some_entry_says (map node_of nodes)).0 some;
        }

-- ---- both ways

-- an accepted file consists of the lines of its job, which is spellable
accepted_lines : (file : List ℕ) (j : Job) → read_job file ≡ accepted j → OfJob file j × Spellable j
accepted_lines file j e =
    let w = (accepted_says file j).0 e in
    rw w.job (
      lines_of_job file w.head w.rules w.nodes w.edges w.past w.entry,
      lines_spellable file w.head w.rules w.nodes w.edges w.past w.entry,
    )

-- it is alike the file written from its job
pub read_written : (file : List ℕ) (j : Job) → read_job file ≡ accepted j → Alike (write_job j) file × Spellable j
read_written file j e =
    let (lines, spell) = accepted_lines file j e in (files_alike (write_job j) file j (written_past j spell) lines, spell)

-- a file is accepted with a job exactly where it spells that job
pub accepted_written : ReadsWhatIsWritten
accepted_written file j =
    (read_written file j, λ s. sym (alike_says.read_alike (write_job j) file s.0) ∙ written_read j s.1)

-- a file without zeros that is accepted is the written one
plain_only : (file : List ℕ) (j : Job) → WithoutZeros file → read_job file ≡ accepted j → (file ≡ write_job j) × Spellable j
plain_only file j w e = go w.lines w.none
  where
    turned_not : {r : ℕ} → read_job file ≡ turned r → (file ≡ write_job j) × Spellable j
    turned_not t = let z : ◌≡◌ {A = ℕ} 0 1 = cc (t, e) in absurd (omega arith)

    whole
        : {head : List ℕ} {rules nodes edges : List (List ℕ)} (rest : List ℕ) → PastEdges file head rules nodes edges rest
        → NoZerosOver (all_counts (at head 1) rules nodes edges) file → (t : Bool) → some_entry (map node_of nodes) ≡ t
        → (file ≡ write_job j) × Spellable j
    whole {head} {rules} {nodes} {edges} [] p none true t =
        let read : read_job file ≡ accepted (job_of head rules nodes edges) = past_edges file head rules nodes edges [] p ∙ rw t in
        let is : j ≡ job_of head rules nodes edges = cc (e, read) in
        rw is (
          past_only head rules nodes edges file p none ∙ sym (lines_written file head rules nodes edges p t),
          lines_spellable file head rules nodes edges p t,
        )
    whole {head} {rules} {nodes} {edges} [] p none false t = turned_not {r = 10} (past_edges file head rules nodes edges [] p ∙ rw t)
    whole {head} {rules} {nodes} {edges} (b ∷ bytes) p none u t = turned_not {r = 9} (past_edges file head rules nodes edges (b ∷ bytes) p)

    back : {due : List ℕ} → TurnedDue file due → (file ≡ write_job j) × Spellable j
    back (any_due l) = turned_not ((turned_says file 1).1 (too_long l))
    back (head_due {r} short bad) = turned_not ((turned_says file r).1 (at_head short bad))
    back (rule_due {r} p bad) = turned_not ((turned_says file r).1 (at_rule p bad))
    back (node_due {r} p bad) = turned_not ((turned_says file r).1 (at_node p bad))
    back (edge_due {r} p bad) = turned_not ((turned_says file r).1 (at_Edge p bad))

    go : {due : List ℕ} → LinesDue file due → NoZerosOver due file → (file ≡ write_job j) × Spellable j
    go (some_due d) none = back d
    go (all_due {rest} {nodes} p) none = whole rest p none (some_entry (map node_of nodes)) refl

-- the files of a job are alike, and just one has no zeros
pub accepted_once : AcceptedOnce
accepted_once =
    record {
      alike = λ f g j d e. files_alike f g j (accepted_lines f j d).0 (accepted_lines g j e).0;
      written = written_plain;
      only = λ file j w. (plain_only file j w, λ s. rw s.0 (written_read j s.1));
      others = (pair_with_zeros, pair, pair_with_zeros_read, pair_with_zeros_other);
    }

-- an accepted job is well formed
pub accepted_well_formed : AcceptsWellFormed
accepted_well_formed file j e = (read_written file j e).1.well_formed_holds
