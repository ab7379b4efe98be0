-- Laws of the lines of the listing: the W line of a node, the W lines of all nodes in turn, and the T line after them.
-- What is read off the buffer at a point is what the job's definitions say, and lines stored one after another are the listing.
-- Assumes nothing.
use mathlib.Core.Path.{◌≡◌, refl, sym, ap, ◌∙◌}
use mathlib.Core.Bool.{Bool, true, false, cond, false≢true, true≢false}
use mathlib.Core.List.{List, [], ◌∷◌, ◌++◌, append-nil, append_assoc}
use Prim.Native.Nat.{ℕ, suc, ◌+◌, ◌*◌, ◌%◌, ◌≤◌, ◌<◌}
use native.Mathlib.Nat.{mod-eq_of_lt}
use native.Mathlib.Numerals.{add-one}
use native.Mathlib.Omega.{arith}
use lib.ListN.{length, get_or, drop, length-append, drop_of_length-le}
use lib.Seq.{sets, length-sets, drop-cons}
use Rattle.laws.specs.Bounded.{sum_below}
use Rattle.laws.proofs.Bounded.{sum_bound}
use Rattle.laws.proofs.Sets.{sets_append}
use Rattle.job.specs.Job.{Point, no_point, point, point_of, is_point, is_event, Node, Job, no_node, node_at}
use Rattle.job.specs.Plan.{enables}
use Rattle.job.specs.Search.{faithful}
use Rattle.job.specs.Found.{states_before, class_count, nop_shadow}
use Rattle.planning.specs.Listing.{ShadowLine, plan_of, shadow_line, line_at, lines_from, listing_of}
use Rattle.planning.proofs.PlanBytes.{enabled_mark}
use Rattle.planning.proofs.PlanningResult.{planned_plan}
use Rattle.lines.specs.Line.{line}
use Rattle.jobfile.specs.ListingLines.{shadow_numbers, shadow_bytes, shadows_bytes, total_bytes, listing_bytes}
use Rattle.jobfile.proofs.ListingLength.{shadows_length, total_length}
use Rattle.buffer.specs.Views.{node_in, enabled_in, before_in}
use Rattle.classes.specs.Backwards.{is_lowest, is_nop}
use Rattle.classes.proofs.FoundSays.{classes_found, nop_found}
use Rattle.passes.specs.declared.passes.Counts.{Counts}
use Rattle.passes.proofs.PlanInLaws.{plan_in_enables}
use Rattle.found.specs.FoundHeld.{FoundHeld}
use Rattle.listingtext.specs.TextWritten.{byte_of, PointWritten, PointsWritten, LinesWritten}

-- ---- what is read at a point

-- the symbol, the before set, the class count and the two marks of node n, as the buffer holds them
pub record PointRead (table : List (List ℕ)) (finals states n : ℕ) (work : List ℕ) (a before classes nop enabled : ℕ) : Type 0 where
  pub symbol_is : (s : ℕ) → point_of (node_in work n).kind ≡ point s → a ≡ s % 16
  pub before_is : before ≡ before_in work n
  pub classes_are : classes ≡ sum_below states (λ q. cond (is_lowest work n q) 1 0)
  pub nop_is : nop ≡ byte_of (is_nop table finals work n a before)
  pub enabled_is : enabled ≡ byte_of (enabled_in work n)

-- a mark is 0 or 1
pub byte_small : (b : Bool) → byte_of b ≤ 1
byte_small true = omega arith
byte_small false = omega arith

-- there are no more classes than states
pub classes_few
    : (work : List ℕ) (n states classes : ℕ) → classes ≡ sum_below states (λ q. cond (is_lowest work n q) 1 0) → classes ≤ states
classes_few work n states classes e =
    omega (arith, e, sum_bound states 1 (λ q. cond (is_lowest work n q) 1 0) (λ q l. byte_small (is_lowest work n q)))

module _
    {table : List (List ℕ)} {finals states n : ℕ} {work : List ℕ} {a before classes nop enabled : ℕ}
    (read : PointRead table finals states n work a before classes nop enabled) {j : Job} {nodes : ℕ}
    (held : FoundHeld j work table finals states nodes) (inside : n < nodes) (s : ℕ) (is : point_of (node_at j n).kind ≡ point s) where
  -- the point's symbol is one of the rule
  symbol_below : s < j.rule.symbols
  symbol_below = (held.job.formed.kinds n).point_below_holds s is

  -- it is the symbol that was read
  symbol_read : a ≡ s
  symbol_read =
      read.symbol_is s (ap (λ (x : Node). point_of x.kind) (held.job.node n inside) ∙ is)
      ∙ mod-eq_of_lt (omega (arith, symbol_below, held.job.formed.rule.few_symbols))

  -- the before set
  before_read : before ≡ states_before j n
  before_read = read.before_is ∙ held.before n (ap is_point is)

  -- the class count
  classes_read : classes ≡ class_count j n
  classes_read =
      read.classes_are ∙ ap (λ (k : ℕ). sum_below k (λ q. cond (is_lowest work n q) 1 0)) held.job.states_are
      ∙ classes_found.count j work nodes n held.classes inside

  -- the nop mark
  nop_read : nop ≡ byte_of (nop_shadow j n s)
  nop_read =
      read.nop_is ∙ ap (λ (x : ℕ). byte_of (is_nop table finals work n x before)) symbol_read
      ∙ ap byte_of (nop_found j work work table finals states nodes n s before held.job held.classes inside symbol_below before_read)

  -- the watched mark
  enabled_read : enabled ≡ get_or (plan_of j).plan n 0
  enabled_read =
      read.enabled_is ∙ ap byte_of (sym (plan_in_enables work nodes n inside))
      ∙ ap (λ (plan : List ℕ). byte_of (enables plan n)) held.plan
      ∙ sym (enabled_mark (plan_of j).plan n ((planned_plan (faithful j) j).bytes n))

  -- together the numbers of its line
  numbers_read : n ∷ a ∷ before ∷ classes ∷ nop ∷ enabled ∷ [] ≡ shadow_numbers (shadow_line j (plan_of j).plan n s)
  numbers_read = cc (symbol_read, before_read, classes_read, nop_read, enabled_read)

-- ---- the line of a node

-- the bytes of node n: its W line, or none
abbrev pub node_bytes : Job → ℕ → Point → List ℕ
node_bytes j n k = shadows_bytes (line_at j (plan_of j).plan n k [])

-- a node that is no point has no line
pub point_none
    : (table : List (List ℕ)) (finals states n at : ℕ) (work out : List ℕ) → is_event (node_in work n).kind ≡ false
    → PointWritten table finals states n at work out out at
unfolding shadows_bytes
point_none table finals states n at work out no_event =
    record {
      long = refl;
      near = omega arith;
      exact = λ j nodes held inside.
          go j (point_of (node_at j n).kind) (sym (ap (λ (x : Node). is_event x.kind) (held.job.node n inside)) ∙ no_event);
    }
  where
    go : (j : Job) (k : Point) → is_point k ≡ false → (out ≡ sets out at (node_bytes j n k)) × (at ≡ at + length (node_bytes j n k))
    go j no_point e = (refl, omega arith)
    go j (point s) e = absurd (true≢false e)

-- the line of a point
pub point_written
    : {table : List (List ℕ)} {finals states n at : ℕ} {work out m : List ℕ} {a before classes nop enabled : ℕ}
    → is_event (node_in work n).kind ≡ true → PointRead table finals states n work a before classes nop enabled
    → m ≡ sets out at (line 87 (n ∷ a ∷ before ∷ classes ∷ nop ∷ enabled ∷ []))
    → PointWritten table finals states n at work out m (at + 38)
unfolding shadows_bytes
point_written {table} {finals} {states} {n} {at} {work} {out} {m} {a} {before} {classes} {nop} {enabled} is_event_lem read stored =
    record {
      long = ap length stored ∙ length-sets out at (line 87 (n ∷ a ∷ before ∷ classes ∷ nop ∷ enabled ∷ []));
      near = omega arith;
      exact = λ j nodes held inside.
          go j nodes held inside (point_of (node_at j n).kind) refl
          (sym (ap (λ (x : Node). is_event x.kind) (held.job.node n inside)) ∙ is_event_lem);
    }
  where
    go
        : (j : Job) (nodes : ℕ) → FoundHeld j work table finals states nodes → n < nodes → (k : Point) → point_of (node_at j n).kind ≡ k → is_point k ≡ true
        → (m ≡ sets out at (node_bytes j n k)) × (at + 38 ≡ at + length (node_bytes j n k))
    go j nodes held inside no_point is e = absurd (false≢true e)
    go j nodes held inside (point s) is e = (
      stored ∙ ap (λ (ns : List ℕ). sets out at (line 87 ns)) (numbers_read read held inside s is)
          ∙ ap (sets out at) (sym (append-nil (shadow_bytes (shadow_line j (plan_of j).plan n s)))),
      omega (arith, shadows_length (shadow_line j (plan_of j).plan n s ∷ [])),
    )

-- ---- the lines of the nodes in turn

-- the bytes of the nodes from number n on
abbrev pub bytes_from : Job → ℕ → List ℕ
bytes_from j n = shadows_bytes (lines_from j (plan_of j).plan n (drop n j.nodes))

-- a node's bytes stand before those of the nodes after it
bytes_next : (j : Job) (n : ℕ) → n < length j.nodes → bytes_from j n ≡ node_bytes j n (point_of (node_at j n).kind) ++ bytes_from j (suc n)
unfolding lines_from shadows_bytes
bytes_next j n h =
    ap (λ (xs : List Node). shadows_bytes (lines_from j (plan_of j).plan n xs)) (drop-cons j.nodes n no_node h)
    ∙ go (point_of (node_at j n).kind) (lines_from j (plan_of j).plan (suc n) (drop (suc n) j.nodes))
  where
    go : (k : Point) (rest : List ShadowLine) → shadows_bytes (line_at j (plan_of j).plan n k rest) ≡ node_bytes j n k ++ shadows_bytes rest
    go no_point rest = refl
    go (point s) rest = sym (append_assoc (shadow_bytes (shadow_line j (plan_of j).plan n s)) [] (shadows_bytes rest))

-- past the last node there are none
bytes_none : (j : Job) (n : ℕ) → length j.nodes ≤ n → bytes_from j n ≡ []
unfolding lines_from shadows_bytes
bytes_none j n h = ap (λ (xs : List Node). shadows_bytes (lines_from j (plan_of j).plan n xs)) (drop_of_length-le j.nodes {i = n} h)

-- the lines of the first n nodes are stored, up to the place `at`; with the others from there on, all lines are
pub record LinesStored (table : List (List ℕ)) (finals states nodes : ℕ) (work l out : List ℕ) (at n : ℕ) : Type 0 where
  pub few : n ≤ nodes
  pub long : length out ≡ length l
  pub near : at ≤ n * 38
  pub due : (j : Job) → FoundHeld j work table finals states nodes → sets out at (bytes_from j n) ≡ sets l 0 (bytes_from j 0)
  pub place : (j : Job) → FoundHeld j work table finals states nodes → at + length (bytes_from j n) ≡ length (bytes_from j 0)

-- none is stored
pub stored_start
    : (table : List (List ℕ)) (finals states nodes : ℕ) (work l : List ℕ) → LinesStored table finals states nodes work l l 0 0
stored_start table finals states nodes work l =
    record { few = omega arith; long = refl; near = omega arith; due = λ j h. refl; place = λ j h. omega arith }

-- the line of one node more
pub stored_more
    : {table : List (List ℕ)} {finals states nodes : ℕ} {work l out m : List ℕ} {at n next : ℕ} → n < nodes
    → LinesStored table finals states nodes work l out at n → PointWritten table finals states n at work out m next
    → LinesStored table finals states nodes work l m next (n + 1)
stored_more {table} {finals} {states} {nodes} {work} {l} {out} {m} {at} {n} {next} inside g p =
    rw (add-one n) (record {
      few = inside;
      long = p.long ∙ g.long;
      near = omega (arith, p.near, g.near);
      due = λ j h.
          let put = p.exact j nodes h inside in
          rw (put.0, put.1)
          (sym (sets_append out at (here j) (bytes_from j (suc n))) ∙ ap (sets out at) (sym (step j h)) ∙ g.due j h);
      place = λ j h.
          omega (
            arith,
            (p.exact j nodes h inside).1,
            ap length (step j h),
            length-append (here j) (bytes_from j (suc n)),
            g.place j h,
          );
    })
  where
    here : Job → List ℕ
    here j = node_bytes j n (point_of (node_at j n).kind)

    step : (j : Job) → FoundHeld j work table finals states nodes → bytes_from j n ≡ here j ++ bytes_from j (suc n)
    step j h = bytes_next j n (omega (arith, h.job.nodes_are))

-- the lines of all nodes
pub stored_end
    : {table : List (List ℕ)} {finals states nodes : ℕ} {work l out : List ℕ} {at n : ℕ} → n ≡ nodes
    → LinesStored table finals states nodes work l out at n → PointsWritten table finals states nodes work l out at
unfolding listing_of
stored_end {table} {finals} {states} {nodes} {work} {l} {out} {at} {n} is g =
    record {
      long = g.long;
      near = omega (arith, g.near);
      exact = λ j h.
          let none = bytes_none j n (omega (arith, h.job.nodes_are)) in (
            sym (ap (sets out at) none) ∙ g.due j h,
            omega (arith, ap length none, g.place j h),
          );
    }

-- ---- the listing

-- the T line after the W lines
pub lines_written
    : {table : List (List ℕ)} {finals states nodes at : ℕ} {counts : Counts} {work l out m : List ℕ}
    → PointsWritten table finals states nodes work l out at
    → m ≡ sets out at (line 84 (counts.shadows ∷ counts.enabled ∷ counts.passes ∷ []))
    → LinesWritten table finals states nodes counts work l m (at + 20)
unfolding listing_of listing_bytes
lines_written {at = at} {counts = counts} {l = l} {out = out} {m = m} p stored =
    record {
      exact = λ j h e.
          let shadows = shadows_bytes (listing_of j).shadows in
          let total = total_bytes (listing_of j).total in
          let written = p.exact j h in
          let seam : at ≡ 0 + length shadows = omega (arith, written.1) in
          let total_is : line 84 (counts.shadows ∷ counts.enabled ∷ counts.passes ∷ []) ≡ total =
          ap (λ (c : Counts). line 84 (c.shadows ∷ c.enabled ∷ c.passes ∷ [])) e in (
            stored ∙ ap (sets out at) total_is ∙ rw (written.0, seam) (sym (sets_append l 0 shadows total)),
            omega (arith, written.1, length-append shadows total, total_length (listing_of j).total),
          );
    }
