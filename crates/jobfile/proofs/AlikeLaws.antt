-- Job files alike are read alike. The lines that passed in the one stand in the other with the same numbers, and the line that is turned
-- back is turned back there by the same number; so both have the same lines due.
-- Assumes nothing.
use Prim.Native.Nat.{ℕ, ◌+◌, ◌≤◌}
use mathlib.Core.Path.{◌≡◌, refl, sym, ap, ◌∙◌}
use mathlib.Core.List.{List, [], ◌∷◌, ◌++◌}
use native.Mathlib.Omega.{arith}
use lib.ListN.{length, replicate}
use Rattle.lines.specs.Line.{at}
use Rattle.lines.specs.Alike.{AlikeThen, Equal, AlikeOver, Anything, AlikeUpTo}
use Rattle.jobfile.specs.File.{max_file, head_line, rule_line, node_line, edge_line, Answer, accepted, turned, at_end, read_job, job_of}
use Rattle.jobfile.specs.Refusal.{PastHead, PastRules, PastNodes, PastEdges, TurnedBack, too_long, at_head, at_rule, at_node, at_Edge, bytes_follow, no_entry}
use Rattle.jobfile.specs.Alike.{TurnedDue, any_due, head_due, rule_due, node_due, edge_due, LinesDue, some_due, all_due, AlikeSays}
use Rattle.lines.proofs.AlikeLaws.{over_same, over_turned, over_up_to, lines_alike, first_bad_alike}
use Rattle.jobfile.proofs.RefusalLaws.{past_edges, turned_says, accepted_says}

-- ---- every file has its lines due

-- a file that is turned back
turned_due : {file : List ℕ} {r : ℕ} → TurnedBack file r → (due : List ℕ) × LinesDue file due
turned_due (too_long l) = ([], some_due (any_due l))
turned_due (at_head short bad) = (_, some_due (head_due short bad))
turned_due (at_rule p bad) = (_, some_due (rule_due p bad))
turned_due (at_node p bad) = (_, some_due (node_due p bad))
turned_due (at_Edge p bad) = (_, some_due (edge_due p bad))
turned_due (bytes_follow p some) = (_, all_due p)
turned_due (no_entry p none) = (_, all_due p)

-- any file
file_due : (file : List ℕ) → (due : List ℕ) × LinesDue file due
file_due file = go (read_job file) refl
  where
    go : (x : Answer) → read_job file ≡ x → (due : List ℕ) × LinesDue file due
    go (accepted j) e = (_, all_due ((accepted_says file j).0 e).past)
    go (turned r) e = turned_due ((turned_says file r).0 e)

-- ---- from the one file to the other

module _ (Past : List ℕ → List ℕ → Type 0) (f g : List ℕ) (same : length f ≡ length g) where
  -- the J line
  head_alike
      : (head rest ks : List ℕ) → PastHead f head rest → AlikeThen Past (4 ∷ ks) f g
      → (other : List ℕ) × PastHead g head other × AlikeThen Past ks rest other
  head_alike head rest ks p a =
      let (other, lines, more) = lines_alike Past head_line ks p.lines a in
      (other, record { short = rw (← same) p.short; lines = lines }, more)

  -- the R lines too
  rules_alike
      : (head rest ks : List ℕ) (rules : List (List ℕ)) → PastRules f head rules rest
      → AlikeThen Past (4 ∷ (replicate (length rules) (at head 1 + 2) ++ ks)) f g
      → (other : List ℕ) × PastRules g head rules other × AlikeThen Past ks rest other
  rules_alike head rest ks rules p a =
      let (from, past, next) = head_alike head p.from (replicate (length rules) (at head 1 + 2) ++ ks) p.past a in
      let (other, lines, more) = lines_alike Past (rule_line (at head 0) (at head 1)) ks p.lines next in
      (other, record { from = from; past = past; lines = lines }, more)

  -- the P lines too
  nodes_alike
      : (head rest ks : List ℕ) (rules nodes : List (List ℕ)) → PastNodes f head rules nodes rest
      → AlikeThen Past (4 ∷ (replicate (length rules) (at head 1 + 2) ++ (replicate (length nodes) 6 ++ ks))) f g
      → (other : List ℕ) × PastNodes g head rules nodes other × AlikeThen Past ks rest other
  nodes_alike head rest ks rules nodes p a =
      let (from, past, next) = rules_alike head p.from (replicate (length nodes) 6 ++ ks) rules p.past a in
      let (other, lines, more) = lines_alike Past (node_line (at head 0) (at head 1)) ks p.lines next in
      (other, record { from = from; past = past; lines = lines }, more)

  -- the F lines too
  edges_alike
      : (head rest ks : List ℕ) (rules nodes edges : List (List ℕ)) → PastEdges f head rules nodes edges rest
      → AlikeThen Past (4 ∷ (replicate (length rules) (at head 1 + 2) ++ (replicate (length nodes) 6 ++ (replicate (length edges) 2 ++ ks)))) f g
      → (other : List ℕ) × PastEdges g head rules nodes edges other × AlikeThen Past ks rest other
  edges_alike head rest ks rules nodes edges p a =
      let (from, past, next) = nodes_alike head p.from (replicate (length edges) 2 ++ ks) rules nodes p.past a in
      let (other, lines, more) = lines_alike Past (edge_line (at head 2)) ks p.lines next in
      (other, record { from = from; past = past; lines = lines }, more)

module _ (f g : List ℕ) (same : length f ≡ length g) where
  -- both are turned back
  both_turned : (r : ℕ) → TurnedBack f r → TurnedBack g r → read_job f ≡ read_job g
  both_turned r s t = (turned_says f r).1 s ∙ sym ((turned_says g r).1 t)

  -- where a line is turned back, the other has the same lines due, and is read alike
  turned_alike : {due : List ℕ} → TurnedDue f due → AlikeUpTo due f g → TurnedDue g due × (read_job f ≡ read_job g)
  turned_alike (any_due l) a = let m = rw same at l in (any_due m, both_turned 1 (too_long l) (too_long m))
  turned_alike (head_due {r} short bad) a =
      let none : length bad.passed ≡ 0 = omega (arith, bad.few) in
      let d = (first_bad_alike Anything head_line {g = g} bad (rw none a)).0 in
      let s : length g ≤ max_file = rw (← same) short in
      (head_due s d, both_turned r (at_head short bad) (at_head s d))
  turned_alike (rule_due {r} {head} {rest} p bad) a =
      let (other, q, more) =
      head_alike Anything f g same head rest (replicate (length bad.passed) (at head 1 + 2) ++ ((at head 1 + 2) ∷ [])) p a in
      let (d, passed) = first_bad_alike Anything (rule_line (at head 0) (at head 1)) bad more in
      (rw (← passed) (rule_due q d), both_turned r (at_rule p bad) (at_rule q d))
  turned_alike (node_due {r} {head} {rest} {rules} p bad) a =
      let (other, q, more) = rules_alike Anything f g same head rest (replicate (length bad.passed) 6 ++ (6 ∷ [])) rules p a in
      let (d, passed) = first_bad_alike Anything (node_line (at head 0) (at head 1)) bad more in
      (rw (← passed) (node_due q d), both_turned r (at_node p bad) (at_node q d))
  turned_alike (edge_due {r} {head} {rest} {rules} {nodes} p bad) a =
      let (other, q, more) = nodes_alike Anything f g same head rest (replicate (length bad.passed) 2 ++ (2 ∷ [])) rules nodes p a in
      let (d, passed) = first_bad_alike Anything (edge_line (at head 2)) bad more in
      (rw (← passed) (edge_due q d), both_turned r (at_Edge p bad) (at_Edge q d))

  -- so it is in any file
  due_alike : {due : List ℕ} → LinesDue f due → AlikeOver due f g → LinesDue g due × (read_job f ≡ read_job g)
  due_alike (some_due {due} d) a = let (e, read) = turned_alike d (over_up_to due f g a) in (some_due e, read)
  due_alike (all_due {head} {rest} {rules} {nodes} {edges} p) a =
      let (other, q, more) = edges_alike Equal f g same head rest [] rules nodes edges p a in (
        all_due q,
        past_edges f head rules nodes edges rest p ∙ ap (λ (l : List ℕ). at_end l (job_of head rules nodes edges)) more
            ∙ sym (past_edges g head rules nodes edges other q),
      )

-- ---- files alike

-- what is said of them
pub alike_says : AlikeSays
alike_says =
    record {
      itself = λ f. let (due, lines) = file_due f in record { long = refl; due = due; lines = lines; over = over_same due f };
      turned = λ f g due same d a. record { long = same; due = due; lines = some_due d; over = a };
      too_long = λ f due l. any_due l;
      either_way = λ f g a.
          record {
            long = sym a.long;
            due = a.due;
            lines = (due_alike f g a.long a.lines a.over).0;
            over = over_turned a.due f g a.over;
          };
      read_alike = λ f g a. (due_alike f g a.long a.lines a.over).1;
      no_further = λ f g due same d a. (turned_alike f g same d a).1;
    }
