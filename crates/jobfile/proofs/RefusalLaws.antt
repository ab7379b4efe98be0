-- The answer to a file: `TurnedBack` says of every number when it is the answer, and a file that is not turned back consists of its
-- good lines. The four kinds of lines stand one after the other, each by the laws of lines in turn.
-- Assumes nothing.
use Prim.Native.Nat.{ℕ, zero, suc, ◌≤◌}
use mathlib.Core.Path.{◌≡◌, refl, sym, ap, ◌∙◌}
use mathlib.Core.Logic.{◌≢◌, ◌↔◌, ⊎_elim}
use mathlib.Core.Bool.{Bool, true, false, cond, not, ◌||◌, true≢false}
use mathlib.Core.List.{List, [], ◌∷◌, map}
use native.Mathlib.Omega.{arith}
use lib.Dec.{ltb, eqb}
use lib.ListN.{length, get_or}
use borrow.Author.Tests.{lt-ltb, le-ltb, ltb-true, ltb-false, eqb-true, eqb-false, not-true, not-false}
use Rattle.laws.proofs.Tests.{passes_or_fails, fails_of, or_passes}
use Rattle.job.specs.Job.{Node, Job, no_node}
use Rattle.lines.specs.Lines.{LineKind, Lines, lines, refused, lines_of}
use Rattle.jobfile.specs.File.{max_file, head_line, rule_line, node_line, edge_line, node_of, some_entry, Answer, accepted, turned, on_lines, at_end, read_rest, head_of, read_job, job_of}
use Rattle.lines.specs.Line.{at}
use Rattle.lines.specs.Written.{LinesAt, FirstBad}
use Rattle.jobfile.specs.Refusal.{PastHead, PastRules, PastNodes, PastEdges, TurnedBack, too_long, at_head, at_rule, at_node, at_Edge, bytes_follow, no_entry}
use Rattle.lines.proofs.SpelledLines.{lines_says, Refused-Says}

-- ---- entries

-- where `or` fails, both tests do
or_none : (a b : Bool) → (a || b) ≡ false → (a ≡ false) × (b ≡ false)
or_none true b h = absurd (true≢false h)
or_none false b h = (refl, h)

-- where the test for an entry passes there is one
entry_at : (ns : List Node) → some_entry ns ≡ true → (i : ℕ) × ((get_or ns i no_node).entry ≢ 0)
unfolding some_entry
entry_at [] t = absurd (true≢false (sym t))
entry_at (n ∷ ns) t =
    ⊎_elim
    (λ (h : not (eqb n.entry 0) ≡ true). (0, eqb-false n.entry 0 (not-true (eqb n.entry 0) h)))
    (λ (h : some_entry ns ≡ true). let r = entry_at ns h in (suc r.0, r.1))
    (or_passes (not (eqb n.entry 0)) (some_entry ns) t)

-- where it fails there is none
no_entry_at : (ns : List Node) → some_entry ns ≡ false → (i : ℕ) → (get_or ns i no_node).entry ≡ 0
unfolding some_entry
no_entry_at [] t i = refl
no_entry_at (n ∷ ns) t zero =
    eqb-true n.entry 0 (not-false (eqb n.entry 0) (or_none (not (eqb n.entry 0)) (some_entry ns) t).0)
no_entry_at (n ∷ ns) t (suc i) = no_entry_at ns (or_none (not (eqb n.entry 0)) (some_entry ns) t).1 i

-- the test for an entry passes exactly where there is one
pub some_entry_says : (ns : List Node) → (some_entry ns ≡ true) ↔ ((i : ℕ) × ((get_or ns i no_node).entry ≢ 0))
some_entry_says ns = (
  entry_at ns,
  λ some.
      ⊎_elim (λ t. t) (λ (f : some_entry ns ≡ false). absurd (some.1 (no_entry_at ns f some.0)))
      (passes_or_fails (some_entry ns)),
)

-- it fails exactly where there is none
pub no_entry_says : (ns : List Node) → (some_entry ns ≡ false) ↔ ((i : ℕ) → (get_or ns i no_node).entry ≡ 0)
no_entry_says ns = (
  no_entry_at ns,
  λ none. fails_of (some_entry ns) (λ t. let some = entry_at ns t in some.1 (none some.0)),
)

-- ---- reading, in its four steps

-- past the P lines
abbrev edges_read : List ℕ → List (List ℕ) → List (List ℕ) → List ℕ → Answer
edges_read head rules nodes from =
    on_lines (lines_of (edge_line (at head 2)) (at head 3) 0 [] from) (λ edges rest. at_end rest (job_of head rules nodes edges))

-- past the R lines
abbrev nodes_read : List ℕ → List (List ℕ) → List ℕ → Answer
nodes_read head rules from =
    on_lines (lines_of (node_line (at head 0) (at head 1)) (at head 2) 0 [] from) (λ nodes rest. edges_read head rules nodes rest)

-- past the J line
rest_form
    : (head from : List ℕ)
    → read_rest head from
    ≡ on_lines (lines_of (rule_line (at head 0) (at head 1)) (at head 0) 0 [] from) (λ rules rest. nodes_read head rules rest)
unfolding read_rest
rest_form head from = refl

-- the whole file
read_form
    : (file : List ℕ)
    → read_job file
    ≡ cond (ltb max_file (length file)) (turned 1)
    (on_lines (lines_of head_line 1 0 [] file) (λ head rest. read_rest (head_of head) rest))
unfolding read_job
read_form file = refl

module _ (file : List ℕ) where
  -- ---- from the lines to the answer

  -- a good J line
  past_head : (head rest : List ℕ) → PastHead file head rest → read_job file ≡ read_rest head rest
  past_head head rest p =
      read_form file
      ∙ rw (le-ltb max_file (length file) p.short, (lines_says head_line 1 0 [] file (head ∷ []) rest).1 p.lines)

  -- and good R lines
  past_rules
      : (head : List ℕ) (rules : List (List ℕ)) (rest : List ℕ) → PastRules file head rules rest
      → read_job file ≡ nodes_read head rules rest
  past_rules head rules rest p =
      past_head head p.from p.past ∙ rest_form head p.from
      ∙ rw ((lines_says (rule_line (at head 0) (at head 1)) (at head 0) 0 [] p.from rules rest).1 p.lines)

  -- and good P lines
  past_nodes
      : (head : List ℕ) (rules nodes : List (List ℕ)) (rest : List ℕ) → PastNodes file head rules nodes rest
      → read_job file ≡ edges_read head rules nodes rest
  past_nodes head rules nodes rest p =
      past_rules head rules p.from p.past
      ∙ rw ((lines_says (node_line (at head 0) (at head 1)) (at head 2) 0 [] p.from nodes rest).1 p.lines)

  -- and good F lines
  pub past_edges
      : (head : List ℕ) (rules nodes edges : List (List ℕ)) (rest : List ℕ) → PastEdges file head rules nodes edges rest
      → read_job file ≡ at_end rest (job_of head rules nodes edges)
  past_edges head rules nodes edges rest p =
      past_nodes head rules nodes p.from p.past
      ∙ rw ((lines_says (edge_line (at head 2)) (at head 3) 0 [] p.from edges rest).1 p.lines)

  -- bytes at the end
  end_bytes : (rest : List ℕ) (j : Job) → rest ≢ [] → at_end rest j ≡ turned 9
  end_bytes [] j some = absurd (some refl)
  end_bytes (b ∷ bytes) j some = refl

  -- what turns a file back is its answer
  turned_of : {r : ℕ} → TurnedBack file r → read_job file ≡ turned r
  turned_of (too_long l) = read_form file ∙ rw (lt-ltb max_file (length file) l)
  turned_of (at_head {r} short bad) =
      read_form file ∙ rw (le-ltb max_file (length file) short, (Refused-Says head_line 1 0 [] file r).1 bad)
  turned_of (at_rule {r} {head} {rest} p bad) =
      past_head head rest p ∙ rest_form head rest
      ∙ rw ((Refused-Says (rule_line (at head 0) (at head 1)) (at head 0) 0 [] rest r).1 bad)
  turned_of (at_node {r} {head} {rest} {rules} p bad) =
      past_rules head rules rest p ∙ rw ((Refused-Says (node_line (at head 0) (at head 1)) (at head 2) 0 [] rest r).1 bad)
  turned_of (at_Edge {r} {head} {rest} {rules} {nodes} p bad) =
      past_nodes head rules nodes rest p ∙ rw ((Refused-Says (edge_line (at head 2)) (at head 3) 0 [] rest r).1 bad)
  turned_of (bytes_follow {head} {rest} {rules} {nodes} {edges} p some) =
      past_edges head rules nodes edges rest p ∙ end_bytes rest (job_of head rules nodes edges) some
  turned_of (no_entry {head} {rules} {nodes} {edges} p none) =
      past_edges head rules nodes edges [] p ∙ rw ((no_entry_says (map node_of nodes)).1 none)

  -- ---- from the answer to the lines

  -- an answer, with what it rests on
  data Grounds : Answer → Type 0 where
    read
        : {head : List ℕ} {rules nodes edges : List (List ℕ)} → PastEdges file head rules nodes edges []
        → some_entry (map node_of nodes) ≡ true → Grounds (accepted (job_of head rules nodes edges))
    back : {r : ℕ} → TurnedBack file r → Grounds (turned r)

  -- lines of one kind, and what is done with them
  grounds_lines
      : (k : LineKind) (c : ℕ) (from : List ℕ) (f : List (List ℕ) → List ℕ → Answer)
      → ((ls : List (List ℕ)) (rest : List ℕ) → LinesAt k c 0 [] from ls rest → Grounds (f ls rest))
      → ((r : ℕ) → FirstBad k c 0 [] from r → TurnedBack file r) → Grounds (on_lines (lines_of k c 0 [] from) f)
  grounds_lines k c from f good bad = go (lines_of k c 0 [] from) refl
    where
      go : (x : Lines) → lines_of k c 0 [] from ≡ x → Grounds (on_lines x f)
      go (lines ls rest) e = good ls rest ((lines_says k c 0 [] from ls rest).0 e)
      go (refused r) e = back (bad r ((Refused-Says k c 0 [] from r).0 e))

  -- past the F lines
  grounds_end
      : {head rest : List ℕ} {rules nodes edges : List (List ℕ)} → PastEdges file head rules nodes edges rest
      → Grounds (at_end rest (job_of head rules nodes edges))
  grounds_end {head} {rest = []} {rules} {nodes} {edges} p = go (some_entry (map node_of nodes)) refl
    where
      go : (t : Bool) → some_entry (map node_of nodes) ≡ t → Grounds (cond t (accepted (job_of head rules nodes edges)) (turned 10))
      go true e = read p e
      go false e = back (no_entry p ((no_entry_says (map node_of nodes)).0 e))
  grounds_end {rest = b ∷ bytes} p =
      back (bytes_follow p (λ e. let z : ◌≡◌ {A = ℕ} 0 1 = cc in omega arith))

  -- past the J line
  grounds_rest : (head rest : List ℕ) → PastHead file head rest → Grounds (read_rest head rest)
  grounds_rest head from p =
      rw (rest_form head from)
      (grounds_lines (rule_line (at head 0) (at head 1)) (at head 0) from (λ rules rest. nodes_read head rules rest)
      (λ rules rest l.
      let q : PastRules file head rules rest = record { from = from; past = p; lines = l } in
      grounds_lines (node_line (at head 0) (at head 1)) (at head 2) rest (λ nodes rest. edges_read head rules nodes rest)
      (λ nodes rest₁ l₁.
      let q₁ : PastNodes file head rules nodes rest₁ = record { from = rest; past = q; lines = l₁ } in
      grounds_lines (edge_line (at head 2)) (at head 3) rest₁ (λ edges rest. at_end rest (job_of head rules nodes edges))
      (λ edges rest₂ l₂. grounds_end (record { from = rest₁; past = q₁; lines = l₂ }))
      (λ r f. at_Edge q₁ f))
      (λ r f. at_node q f))
      (λ r f. at_rule p f))

  -- the one J line
  grounds_head
      : length file ≤ max_file → (ls : List (List ℕ)) (rest : List ℕ) → LinesAt head_line 1 0 [] file ls rest
      → Grounds (read_rest (head_of ls) rest)
  grounds_head short [] rest l = absurd (omega (arith, l.count))
  grounds_head short (head ∷ []) rest l = grounds_rest head rest (record { short = short; lines = l })
  grounds_head short (head ∷ ns ∷ ls) rest l = absurd (omega (arith, l.count))

  -- every answer has its grounds
  grounds : Grounds (read_job file)
  grounds = rw (read_form file) (go (ltb max_file (length file)) refl)
    where
      go
          : (t : Bool) → ltb max_file (length file) ≡ t
          → Grounds (cond t (turned 1) (on_lines (lines_of head_line 1 0 [] file) (λ head rest. read_rest (head_of head) rest)))
      go true e = back (too_long (ltb-true max_file (length file) e))
      go false e =
          let short = ltb-false max_file (length file) e in
          grounds_lines head_line 1 file (λ head rest. read_rest (head_of head) rest) (grounds_head short) (λ r f. at_head short f)

  -- ---- both ways

  -- the answer is r exactly where r is the first that fails
  pub turned_says : (r : ℕ) → (read_job file ≡ turned r) ↔ TurnedBack file r
  turned_says r = (λ e. only (rw e at grounds), turned_of)
    where
      only : Grounds (turned r) → TurnedBack file r
      only (back t) = t

  -- the lines of an accepted file
  pub record Whole (j : Job) : Type 0 where
    pub head : List ℕ
    pub rules : List (List ℕ)
    pub nodes : List (List ℕ)
    pub edges : List (List ℕ)
    pub past : PastEdges file head rules nodes edges []
    pub entry : some_entry (map node_of nodes) ≡ true
    pub job : j ≡ job_of head rules nodes edges

  -- a file is accepted exactly where it consists of good lines, an entry among them
  pub accepted_says : (j : Job) → (read_job file ≡ accepted j) ↔ Whole j
  accepted_says j = (
    λ e. only (accepted j) (rw e at grounds) refl,
    λ w. past_edges w.head w.rules w.nodes w.edges [] w.past ∙ rw w.entry (ap accepted (sym w.job)),
  )
    where
      only : (x : Answer) → Grounds x → x ≡ accepted j → Whole j
      only x (read {head} {rules} {nodes} {edges} p t) e =
          record { head = head; rules = rules; nodes = nodes; edges = edges; past = p; entry = t; job = cc }
      only x (back t) e = let z : ◌≡◌ {A = ℕ} 0 1 = cc in absurd (omega arith)
