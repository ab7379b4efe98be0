-- A file is its J line and then its R, P and F lines: the J line itself, the file of the lines, and how long it is.
-- Assumes nothing.
use Prim.Native.Nat.{ℕ, zero, suc, ◌+◌, ◌*◌, ◌≤◌}
use mathlib.Core.Path.{◌≡◌, refl, ap, ◌∙◌}
use mathlib.Core.List.{List, [], ◌∷◌, ◌++◌, map, append_assoc, append-nil}
use native.Mathlib.Nat.{mul-le-mul}
use native.Mathlib.Omega.{arith}
use lib.ListN.{length, replicate, length-append}
use Rattle.laws.specs.Bounded.{tab}
use Rattle.job.specs.Job.{Job}
use Rattle.lines.specs.Line.{line, line_length, at, write_lines}
use Rattle.jobfile.specs.File.{max_file, head_line, rule_line, node_line, edge_line, write_rules, write_nodes, write_edges, write_job}
use Rattle.jobfile.specs.Refusal.{HeadWithin, PastHead, PastRules, PastNodes, PastEdges}
use Rattle.lines.specs.Written.{Fits, GoodLines, good_none, Good-more}
use Rattle.lines.specs.Alike.{Equal, AlikeOver, NoZerosOver}
use Rattle.jobfile.proofs.WithinLaws.{head_says}
use Rattle.lines.proofs.SpelledLine.{fields_length}
use Rattle.lines.proofs.SpelledLines.{lines_length, written_stand}
use Rattle.lines.proofs.AlikeLaws.{alike_stand, stand_length, stand_only, written_only}
use Rattle.jobfile.proofs.SpelledRules.{rule_lines, rules_written}
use Rattle.jobfile.proofs.SpelledNodes.{node_lines, nodes_written, list_tab}
use Rattle.jobfile.proofs.SpelledEdges.{edge_numbers, edges_written}

-- ---- the J line

-- numbers within its limits have few digits
head_numbers : (s a n e : ℕ) → HeadWithin s a n e → Fits (s ∷ a ∷ n ∷ e ∷ [])
head_numbers s a n e f zero = omega arith
head_numbers s a n e f (suc zero) = omega arith
head_numbers s a n e f (suc (suc zero)) = omega arith
head_numbers s a n e f (suc (suc (suc zero))) = omega arith
head_numbers s a n e f (suc (suc (suc (suc k)))) = omega arith

-- a J line within the limits is good
pub head_good : (s a n e : ℕ) → HeadWithin s a n e → GoodLines head_line 0 [] ((s ∷ a ∷ n ∷ e ∷ []) ∷ [])
head_good s a n e f =
    Good-more {i = 0} {before = []} {ns = s ∷ a ∷ n ∷ e ∷ []} refl (head_numbers s a n e f)
    ((head_says 0 [] (s ∷ a ∷ n ∷ e ∷ [])).1 f)
    good_none

-- a good J line is four numbers within the limits
pub head_exact
    : (head : List ℕ) → GoodLines head_line 0 [] (head ∷ [])
    → (head ≡ at head 0 ∷ at head 1 ∷ at head 2 ∷ at head 3 ∷ []) × HeadWithin (at head 0) (at head 1) (at head 2) (at head 3)
unfolding tab
head_exact head (Good-more {i} {before} count fit good more) =
    (list_tab head ∙ ap (λ (k : ℕ). tab k (at head)) count, (head_says i before head).0 good)

-- ---- the file of the lines

-- the four parts, one after the other
abbrev pub file_of : List ℕ → List (List ℕ) → List (List ℕ) → List (List ℕ) → List ℕ
file_of head rules nodes edges = line 74 head ++ (write_lines 82 rules ++ (write_lines 80 nodes ++ write_lines 70 edges))

-- one line written by itself
write_one : (letter : ℕ) (ns rest : List ℕ) → write_lines letter (ns ∷ []) ++ rest ≡ line letter ns ++ rest
unfolding write_lines
write_one letter ns rest = ap (λ (l : List ℕ). l ++ rest) (append-nil (line letter ns))

-- four lists, one after the other
regroup : (h r n e : List ℕ) → h ++ r ++ n ++ e ≡ h ++ (r ++ (n ++ e))
regroup h r n e = simp append_assoc

-- what is written of a job
job_form
    : (j : Job)
    → write_job j
    ≡ line 74 (j.rule.states ∷ j.rule.symbols ∷ length j.nodes ∷ length j.edges ∷ [])
    ++ write_rules j.rule.finals 0 j.rule.table ++ write_nodes 0 j.nodes ++ write_edges j.edges
unfolding write_job
job_form j = refl

-- the numbers of a job's lines
abbrev pub job_head : Job → List ℕ
job_head j = j.rule.states ∷ j.rule.symbols ∷ length j.nodes ∷ length j.edges ∷ []

abbrev pub job_rules : Job → List (List ℕ)
job_rules j = rule_lines j.rule.finals 0 j.rule.table

abbrev pub job_nodes : Job → List (List ℕ)
job_nodes j = node_lines 0 j.nodes

abbrev pub job_edges : Job → List (List ℕ)
job_edges j = map edge_numbers j.edges

-- a job is written as the file of its lines
pub written_form : (j : Job) → write_job j ≡ file_of (job_head j) (job_rules j) (job_nodes j) (job_edges j)
written_form j =
    let head : List ℕ = line 74 (j.rule.states ∷ j.rule.symbols ∷ length j.nodes ∷ length j.edges ∷ []) in
    job_form j
    ∙ rw (rules_written j.rule.finals 0 j.rule.table, nodes_written 0 j.nodes, edges_written j.edges)
    (regroup head (write_lines 82 (rule_lines j.rule.finals 0 j.rule.table)) (write_lines 80 (node_lines 0 j.nodes))
    (write_lines 70 (map edge_numbers j.edges)))

-- how many fields the lines of a file have, one after the other: from the F lines on, from the P lines on, from the R lines on, all
abbrev edge_counts : List (List ℕ) → List ℕ
edge_counts edges = replicate (length edges) 2 ++ []

abbrev node_counts : List (List ℕ) → List (List ℕ) → List ℕ
node_counts nodes edges = replicate (length nodes) 6 ++ edge_counts edges

abbrev rule_counts : ℕ → List (List ℕ) → List (List ℕ) → List (List ℕ) → List ℕ
rule_counts a rules nodes edges = replicate (length rules) (a + 2) ++ node_counts nodes edges

abbrev pub all_counts : ℕ → List (List ℕ) → List (List ℕ) → List (List ℕ) → List ℕ
all_counts a rules nodes edges = 4 ∷ rule_counts a rules nodes edges

-- the four parts of a file of good lines alone
pub record Parts (head : List ℕ) (rules nodes edges : List (List ℕ)) : Type 0 where
  pub head_lines : GoodLines head_line 0 [] (head ∷ [])
  pub rule_lines_lem : GoodLines (rule_line (at head 0) (at head 1)) 0 [] rules
  pub rule_count : length rules ≡ at head 0
  pub node_lines_lem : GoodLines (node_line (at head 0) (at head 1)) 0 [] nodes
  pub node_count : length nodes ≡ at head 2
  pub edge_lines : GoodLines (edge_line (at head 2)) 0 [] edges
  pub edge_count : length edges ≡ at head 3

module _ (head : List ℕ) (rules nodes edges : List (List ℕ)) where
  -- what follows the J line, the R lines and the P lines
  abbrev from_edges : List ℕ
  from_edges = write_lines 70 edges ++ []

  abbrev from_nodes : List ℕ
  from_nodes = write_lines 80 nodes ++ from_edges

  abbrev from_rules : List ℕ
  from_rules = write_lines 82 rules ++ from_nodes

  -- the file, line by line
  file_form : write_lines 74 (head ∷ []) ++ from_rules ≡ file_of head rules nodes edges
  file_form =
      write_one 74 head from_rules
      ∙ ap (λ (l : List ℕ). line 74 head ++ (write_lines 82 rules ++ (write_lines 80 nodes ++ l))) (append-nil (write_lines 70 edges))

  -- the file of good lines consists of them
  pub file_past
      : Parts head rules nodes edges → length (file_of head rules nodes edges) ≤ max_file
      → PastEdges (file_of head rules nodes edges) head rules nodes edges []
  file_past p short =
      let past_head : PastHead (file_of head rules nodes edges) head from_rules =
      record {
        short = short;
        lines =
            record {
              count = refl;
              good = p.head_lines;
              stand = rw (← file_form) (written_stand head_line from_rules p.head_lines);
            };
      } in
      let past_rules : PastRules (file_of head rules nodes edges) head rules from_nodes =
      record {
        from = from_rules;
        past = past_head;
        lines =
            record {
              count = p.rule_count;
              good = p.rule_lines_lem;
              stand = written_stand (rule_line (at head 0) (at head 1)) from_nodes p.rule_lines_lem;
            };
      } in
      let past_nodes : PastNodes (file_of head rules nodes edges) head rules nodes from_edges =
      record {
        from = from_nodes;
        past = past_rules;
        lines =
            record {
              count = p.node_count;
              good = p.node_lines_lem;
              stand = written_stand (node_line (at head 0) (at head 1)) from_edges p.node_lines_lem;
            };
      } in
      record {
        from = from_edges;
        past = past_nodes;
        lines =
            record {
              count = p.edge_count;
              good = p.edge_lines;
              stand = written_stand (edge_line (at head 2)) [] p.edge_lines;
            };
      }

  -- no zeros stand in it
  pub file_no_zeros
      : Parts head rules nodes edges → NoZerosOver (all_counts (at head 1) rules nodes edges) (file_of head rules nodes edges)
  file_no_zeros p =
      rw (← file_form)
      (written_only head_line (rule_counts (at head 1) rules nodes edges)
      from_rules p.head_lines
      (written_only (rule_line (at head 0) (at head 1)) (node_counts nodes edges) from_nodes
      p.rule_lines_lem
      (written_only (node_line (at head 0) (at head 1)) (edge_counts edges) from_edges p.node_lines_lem
      (written_only (edge_line (at head 2)) [] [] p.edge_lines tt))))

  -- a file of good lines alone without zeros is the file of those lines
  pub past_only
      : (file : List ℕ) → PastEdges file head rules nodes edges [] → NoZerosOver (all_counts (at head 1) rules nodes edges) file
      → file ≡ file_of head rules nodes edges
  past_only file p none =
      let (first, none₁) =
      stand_only head_line (head ∷ [])
      (rule_counts (at head 1) rules nodes edges) file
      p.past.past.from p.past.past.past.lines.stand none in
      let (second, none₂) =
      stand_only (rule_line (at head 0) (at head 1)) rules (node_counts nodes edges)
      p.past.past.from p.past.from p.past.past.lines.stand none₁ in
      let (third, none₃) =
      stand_only (node_line (at head 0) (at head 1)) nodes (edge_counts edges) p.past.from p.from
      p.past.lines.stand none₂ in
      let (fourth, none₄) = stand_only (edge_line (at head 2)) edges [] p.from [] p.lines.stand none₃ in
      first
      ∙ ap (λ (l : List ℕ). write_lines 74 (head ∷ []) ++ l)
      (second
      ∙ ap (λ (l : List ℕ). write_lines 82 rules ++ l) (third ∙ ap (λ (l : List ℕ). write_lines 80 nodes ++ l) fourth))
      ∙ file_form

  -- the bytes of a file of good lines alone
  pub past_length
      : {f : List ℕ} → PastEdges f head rules nodes edges []
      → length f
      ≡ 1 * 26
      + (length rules * line_length (at head 1 + 2) + (length nodes * 38 + (length edges * 14 + 0)))
  past_length {f} p =
      stand_length head_line (head ∷ []) f p.past.past.from p.past.past.past.lines.stand
      ∙ rw (
        stand_length (rule_line (at head 0) (at head 1)) rules p.past.past.from p.past.from p.past.past.lines.stand,
        stand_length (node_line (at head 0) (at head 1)) nodes p.past.from p.from p.past.lines.stand,
        stand_length (edge_line (at head 2)) edges p.from [] p.lines.stand,
      )

  -- two files of the same good lines
  module _ {f g : List ℕ} (p : PastEdges f head rules nodes edges []) (q : PastEdges g head rules nodes edges []) where
    -- are alike
    pub past_alike : AlikeOver (all_counts (at head 1) rules nodes edges) f g
    past_alike =
        alike_stand Equal head_line (head ∷ [])
        (rule_counts (at head 1) rules nodes edges) f g
        p.past.past.from q.past.past.from p.past.past.past.lines.stand q.past.past.past.lines.stand
        (alike_stand Equal (rule_line (at head 0) (at head 1)) rules (node_counts nodes edges)
        p.past.past.from q.past.past.from p.past.from q.past.from p.past.past.lines.stand q.past.past.lines.stand
        (alike_stand Equal (node_line (at head 0) (at head 1)) nodes (edge_counts edges) p.past.from q.past.from p.from
        q.from p.past.lines.stand q.past.lines.stand
        (alike_stand Equal (edge_line (at head 2)) edges [] p.from q.from [] [] p.lines.stand q.lines.stand refl)))

-- the bytes of the file of good lines
pub file_length
    : (s a n e : ℕ) (head : List ℕ) (rules nodes edges : List (List ℕ)) → length head ≡ 4
    → GoodLines (rule_line s a) 0 [] rules → length rules ≡ s
    → GoodLines (node_line s a) 0 [] nodes → length nodes ≡ n → GoodLines (edge_line n) 0 [] edges → length edges ≡ e
    → length (file_of head rules nodes edges) ≡ 26 + s * (a * 6 + 14) + n * 38 + e * 14
file_length s a n e head rules nodes edges hc rg rc ng nc eg ec =
    let width : line_length (a + 2) ≡ a * 6 + 14 = omega arith in
    simp
    (length-append, lines_length (rule_line s a) rg, lines_length (node_line s a) ng, lines_length (edge_line n) eg, rc, nc, ec, width)
    (omega (arith, fields_length head))

-- within the limits that is at most 49,914
pub length_limit : (s a n e : ℕ) → HeadWithin s a n e → 26 + s * (a * 6 + 14) + n * 38 + e * 14 ≤ 49914
length_limit s a n e f =
    let row : a * 6 + 14 ≤ 110 = omega arith in
    let rules : s * (a * 6 + 14) ≤ 16 * 110 = mul-le-mul f.few_states row in
    omega arith
