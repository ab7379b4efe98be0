-- Laws of the after words in the class rows, in the shape of the code.
-- Assumes nothing.
use mathlib.Core.Path.{◌≡◌, refl, sym, ap, subst, ◌∙◌}
use mathlib.Core.Logic.{inl, inr, ⊎_elim, by_cases, ◌≢◌}
use mathlib.Core.Bool.{Bool, true, false, cond, true≢false}
use mathlib.Core.List.{List}
use Prim.Native.Nat.{ℕ, ◌+◌, ◌≤◌, ◌<◌}
use native.Mathlib.Decide.{ℕ_discrete}
use native.Mathlib.Omega.{arith}
use lib.ListN.{get_or}
use Rattle.laws.specs.Bits.{has}
use Rattle.laws.proofs.Bits.{has_empty}
use Rattle.automaton.specs.Automaton.{Automaton}
use Rattle.job.specs.Job.{Node, Job, node_at}
use Rattle.job.specs.Words.{WordApart, apart_here, apart_later, apart_after, NothingMore}
use Rattle.job.proofs.Nodes.{word_map}
use Rattle.buffer.specs.Layout.{class_part, found_part, class_size, class_place}
use Rattle.buffer.specs.Views.{node_in, class_row_in, HeldApart}
use Rattle.buffer.specs.Kept.{Zeroed}
use Rattle.buffer.proofs.KeptLaws.{kept_none, kept_both, node_kept}
use Rattle.buffer.specs.ClassRows.{OnlyClasses, ApartJoined}
use Rattle.buffer.proofs.ClassRowLaws.{class_kept, zeroed_empty}
use Rattle.tables.specs.Held.{Usable, JobHeld}
use Rattle.tables.proofs.JobKeptLaws.{FrontKept, front_kept, front_usable}
use Rattle.classes.specs.Backwards.{RuleHeld, rows_of, RowPairs, WordsClosed, after_set, AfterJoined, AfterWords}

-- ---- one node

-- the words over its after set are closed, and joined there
pub after_joined
    : (table : List (List ℕ)) (finals states : ℕ) (l m : List ℕ) (n set : ℕ) (start rows : List ℕ) (grown : ℕ) → set ≡ after_set (node_in l n)
    → WordsClosed table finals states start rows set → ApartJoined l m n rows grown → AfterJoined table finals states l m n start grown
after_joined table finals states l m n set start rows grown e w g = record {
  kept = g.kept;
  held = g.held;
  here = λ i p q h v.
      g.here p q h
      (w.whole i.rule i.is (λ s x. v.0 s (subst (λ (y : ℕ). has y s ≡ true) e x)) p q v.1.0 v.1.1.0
      (subst (λ (y : ℕ). WordApart i.rule y (RowPairs (rows_of start)) p q) (sym e) v.1.1.1));
  new = λ i k p q hk hp h.
      ⊎_elim
      (λ (old : HeldApart l k p q). inl old)
      (λ (new : (k ≡ n) × (has (get_or rows p 0) q ≡ true)).
      inr (new.0, subst (λ (y : ℕ). WordApart i.rule y (RowPairs (rows_of start)) p q) e (w.sound i.rule i.is p q hp new.1)))
      (g.new k p q hk hp h);
  none = g.none;
  left = g.left;
}

-- ---- all nodes, from empty rows

-- the rows of node n hold what words over its after set tell apart
pub record WordsHeld (table : List (List ℕ)) (finals states : ℕ) (m : List ℕ) (n set : ℕ) : Type 0 where
  pub sound : (a : Automaton) → RuleHeld a table finals states → (p q : ℕ) → p < 16 → HeldApart m n p q → WordApart a set NothingMore p q
  pub whole
      : (a : Automaton) → RuleHeld a table finals states → ((s : ℕ) → has set s ≡ true → s < a.symbols)
      → (p q : ℕ) → p < states → q < states → WordApart a set NothingMore p q → HeldApart m n p q

-- the nodes below n are done, and the rows of the others are empty
pub record AfterSoFar (table : List (List ℕ)) (finals states : ℕ) (l m : List ℕ) (n : ℕ) : Type 0 where
  pub kept : OnlyClasses l m
  pub done : (k : ℕ) → k < n → WordsHeld table finals states m k (after_set (node_in l k))
  pub empty : (k p : ℕ) → n ≤ k → k < 512 → p < 16 → class_row_in m k p ≡ 0

-- no node is done
pub after_start
    : (table : List (List ℕ)) (finals states : ℕ) (l m : List ℕ) → Zeroed l m class_part found_part → AfterSoFar table finals states m m 0
after_start table finals states l m z = record {
  kept = kept_none m class_part found_part;
  done = λ k h. absurd (omega arith);
  empty = λ k p h. zeroed_empty l m z k p;
}

-- a node before the class rows is as it was
pub node_before : (l m : List ℕ) → OnlyClasses l m → (n : ℕ) → n < 512 → node_in m n ≡ node_in l n
node_before l m s n h = node_kept l m class_part found_part s n (inl (omega arith))

-- one node more
pub After-more
    : (table : List (List ℕ)) (finals states : ℕ) (l m k : List ℕ) (n : ℕ) (rows : List ℕ) (grown : ℕ) → n < 512
    → ((p : ℕ) → get_or rows p 0 ≡ 0) → AfterSoFar table finals states l m n → AfterJoined table finals states m k n rows grown
    → AfterSoFar table finals states l k (n + 1)
After-more table finals states l m k n rows grown hn zeros s g = record {
  kept = kept_both l m k class_part found_part (class_place n) (class_place n + class_size) s.kept g.kept (omega arith) (omega arith);
  done = λ x h. done x h;
  empty = λ x p h a b. class_kept m k n x p g.kept b (λ q. absurd (omega arith)) ∙ s.empty x p (omega arith) a b;
}
  where
    empty_after : (x y : ℕ) → RowPairs (rows_of rows) x y → NothingMore x y
    empty_after x y h = true≢false (sym h.1 ∙ ap (λ (v : ℕ). has v y) (zeros x) ∙ has_empty y)

    set_is : after_set (node_in m n) ≡ after_set (node_in l n)
    set_is = ap (λ (y : Node). after_set y) (node_before l m s.kept n hn)

    here : WordsHeld table finals states k n (after_set (node_in m n))
    here = record {
      sound = λ a r p y b i.
          ⊎_elim
          (λ (old : HeldApart m n p y). absurd (true≢false (sym old ∙ ap (λ (v : ℕ). has v y) (s.empty n p (omega arith) hn b) ∙ has_empty y)))
          (λ (new : (n ≡ n) × WordApart a (after_set (node_in m n)) (RowPairs (rows_of rows)) p y). word_map (λ c d h. empty_after c d h) new.1)
          (g.new (record { rule = a; is = r }) n p y hn b i);
      whole = λ a r u p y b c w.
          g.here (record { rule = a; is = r }) p y (omega (arith, r.formed.few_states, r.states_are))
          (u, (b, (c, word_map (λ v z h. absurd h) w)));
    }

    done : (x : ℕ) → x < n + 1 → WordsHeld table finals states k x (after_set (node_in l x))
    done x h =
        by_cases (ℕ_discrete x n)
        (λ (q : x ≡ n). rw (q, ← set_is) here)
        (λ (ne : x ≢ n).
        let old = s.done x (omega arith) in
        record {
          sound = λ a r p y b i. old.sound a r p y b (subst (λ (v : ℕ). has v y ≡ true) (class_kept m k n x p g.kept b ne) i);
          whole = λ a r u p y b c i.
              let small : p < 16 = omega (arith, r.formed.few_states, r.states_are) in
              subst (λ (v : ℕ). has v y ≡ true) (sym (class_kept m k n x p g.kept small ne)) (old.whole a r u p y b c i);
        })

-- no word over the empty set tells states apart
pub no_words : (a : Automaton) (p q : ℕ) → WordApart a 0 NothingMore p q → ⊥
no_words a p q (apart_here s h d) = true≢false (sym h ∙ has_empty s)
no_words a p q (apart_later s h w) = true≢false (sym h ∙ has_empty s)
no_words a p q (apart_after h) = h

-- what the words of a node tell apart, those after an exit do
pub exit_words : (a : Automaton) (p q : ℕ) (n : Node) → WordApart a (after_set n) NothingMore p q → (n.exit ≡ true) × WordApart a n.after NothingMore p q
exit_words a p q n w = go n.exit refl
  where
    go : (b : Bool) → n.exit ≡ b → (n.exit ≡ true) × WordApart a n.after NothingMore p q
    go true e = (e, subst (λ (v : Bool). WordApart a (cond v n.after 0) NothingMore p q) e w)
    go false e = absurd (no_words a p q (subst (λ (v : Bool). WordApart a (cond v n.after 0) NothingMore p q) e w))

-- the rule of a job that is held
pub job_rule
    : {j : Job} {work : List ℕ} {table : List (List ℕ)} {finals states nodes : ℕ} → JobHeld j work table finals states nodes
    → RuleHeld j.rule table finals states
job_rule h = record { formed = h.formed.rule; states_are = h.states_are; finals_are = h.finals_are; cells = h.cells }

-- all nodes are done
pub after_end
    : (table : List (List ℕ)) (finals states nodes : ℕ) (o l m : List ℕ) (n : ℕ) → nodes ≤ 512 → nodes ≤ n → Zeroed o l class_part found_part
    → AfterSoFar table finals states l m n → AfterWords table finals states nodes o m
after_end table finals states nodes o l m n few all z s = record {
  kept = kept_both o l m class_part found_part class_part found_part start s.kept (omega arith) (omega arith);
  exact = λ j h. record {
    sound = λ k p q a b i.
        exit_words j.rule p q (node_at j k)
        (subst (λ (v : ℕ). WordApart j.rule v NothingMore p q) (set_is j h k a) ((s.done k (omega arith)).sound j.rule (job_rule h) p q b i));
    whole = λ k p q a b c x w.
        let is_after : after_set (node_in l k) ≡ (node_at j k).after = set_is j h k a ∙ ap (λ (v : Bool). cond v (node_at j k).after 0) x in
        (s.done k (omega arith)).whole j.rule (job_rule h)
        (λ y i. h.formed.afters k y (subst (λ (v : ℕ). has v y ≡ true) is_after i)) p q
        (omega (arith, h.states_are)) (omega (arith, h.states_are))
        (subst (λ (v : ℕ). WordApart j.rule v NothingMore p q) (sym is_after) w);
  };
}
  where
    start : OnlyClasses o l
    start = z.kept

    set_is : (j : Job) → JobHeld j o table finals states nodes → (k : ℕ) → k < nodes → after_set (node_in l k) ≡ after_set (node_at j k)
    set_is j h k a = ap (λ (y : Node). after_set y) (node_before o l start k (omega arith) ∙ h.node k a)

-- the after words leave the nodes and edges
pub after_front
    : {table : List (List ℕ)} {finals states nodes : ℕ} {l m : List ℕ} → AfterWords table finals states nodes l m → FrontKept l m
after_front a = front_kept (omega arith) a.kept

-- the buffer with them may be searched
pub after_usable
    : {l m : List ℕ} {table : List (List ℕ)} {finals states nodes : ℕ} → Usable l table states nodes
    → AfterWords table finals states nodes l m → Usable m table states nodes
after_usable u a = front_usable (after_front a) u
