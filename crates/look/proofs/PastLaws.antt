-- Laws of a row past a node, by the point of the node.
-- Assumes nothing.
use mathlib.Core.Path.{◌≡◌, refl, sym, ap, subst, ◌∙◌}
use mathlib.Core.Bool.{Bool, true, false, not, false≢true}
use mathlib.Core.List.{List}
use Prim.Native.Nat.{ℕ, ◌^◌, ◌<◌}
use lib.Dec.{eqb}
use lib.Count.{count_trailing_zeros}
use Rattle.laws.specs.Bits.{has}
use Rattle.laws.proofs.Bits.{has_below}
use Rattle.laws.proofs.Walk.{trailing_member}
use Rattle.automaton.specs.Automaton.{Automaton, next, final, cell}
use Rattle.job.specs.Job.{Point, no_point, point, point_of, is_point, Job, node_at}
use Rattle.job.specs.Walk.{shadow}
use Rattle.job.specs.Plan.{Enabling, full, enables, alarm_at}
use Rattle.job.proofs.KindLaws.{point_some, point_same, event_small}
use Rattle.moves.specs.declared.Past.{Past}
use Rattle.buffer.specs.Views.{enabled_in}
use Rattle.tables.specs.Rows.{CellsBelow}
use Rattle.tables.specs.Held.{JobHeld, PlanHeld}
use Rattle.moves.specs.Past.{past_shadow, past_row}
use Rattle.look.specs.Looking.{past_state, past_node}
use Rattle.spread.proofs.SpreadLaws.{moved_alike, moved_split}
use Rattle.tables.proofs.RowLaws.{has_image_of}

-- ---- a row past a node

-- what a row past a node says of the row before it
pub record PastSays (m : Automaton) (w : Enabling) (n : ℕ) (k : Point) (p s : ℕ) (past : Past) : Type 0 where
  pub one : past.state ≡ past_state m full n k p
  pub here : (q : ℕ) → has s q ≡ true → has past.set (past_state m w n k q) ≡ true
  pub from : (r : ℕ) → has past.set r ≡ true → (q : ℕ) × (has s q ≡ true) × (r ≡ past_state m w n k q)
  pub alike
      : past.differs ≡ false → (b : ℕ) → k ≡ point b → (q : ℕ) → has s q ≡ true
      → alarm_at m full p (shadow n b) ≡ alarm_at m w q (shadow n b)
  pub split
      : past.differs ≡ true
      → (b : ℕ) × (k ≡ point b) × ((q : ℕ) × (has s q ≡ true) × (alarm_at m full p (shadow n b) ≡ not (alarm_at m w q (shadow n b))))

-- a node that reports nothing leaves the row as it is
silent_says
    : (m : Automaton) (w : Enabling) (n : ℕ) (k : Point) (p s : ℕ) → ((q : ℕ) (v : Enabling) → past_state m v n k q ≡ q)
    → ((b : ℕ) → k ≡ point b → ⊥) → PastSays m w n k p s (record { state = p; set = s; differs = false })
silent_says m w n k p s stays none = record {
  one = sym (stays p full);
  here = λ q h. subst (λ (r : ℕ). has s r ≡ true) (sym (stays q w)) h;
  from = λ r h. (r, h, sym (stays r w));
  alike = λ e b k. absurd (none b k);
  split = λ e. absurd (false≢true e);
}

module _ (table : List (List ℕ)) (finals : ℕ) (m : Automaton) (w : Enabling) (n a p s : ℕ) (cells : CellsBelow table)
    (next_is : (q b : ℕ) → q < 16 → b < 16 → cell table q b ≡ next m q b) (finals_are : finals ≡ m.finals) (row : p < 16)
    (symbol : a < 16) (short : s < 2 ^ 16) (some : 0 < s) where
  -- whether a state moved to is final
  moved_final : (q : ℕ) → q < 16 → has finals (cell table q a) ≡ final m (next m q a)
  moved_final q l = rw (finals_are, next_is q a l symbol)

  -- an enabled event moves both monitors
  enabled_says : w n ≡ true → PastSays m w n (point a) p s (past_shadow table finals a true p s)
  enabled_says on = record {
    one = next_is p a row symbol;
    here = λ q h.
        rw on ((has_image_of table a s (next m q a)).1 (q, has_below 16 s q short h, h, next_is q a (has_below 16 s q short h) symbol));
    from = λ r h.
        let f = (has_image_of table a s r).0 h in
        (f.0, f.2, rw on (sym f.3 ∙ next_is f.0 a f.1 symbol));
    alike = λ e b k q h.
        subst (λ (x : ℕ). alarm_at m full p (shadow n x) ≡ alarm_at m w q (shadow n x)) (point_same k)
        (rw on
        (sym (moved_final p row) ∙ moved_alike table finals a s (cell table p a) cells symbol short e q h
        ∙ moved_final q (has_below 16 s q short h)));
    split = λ e.
        let f = moved_split table finals a s (cell table p a) cells symbol short e in (
          a,
          refl,
          (
            f.0,
            f.1,
            rw on
                (sym (moved_final p row) ∙ f.2 ∙ ap not (moved_final f.0 (has_below 16 s f.0 short f.1))),
          ),
        );
  }

  -- a disabled one moves the full monitor alone
  disabled_says : w n ≡ false → PastSays m w n (point a) p s (past_shadow table finals a false p s)
  disabled_says off = record {
    one = next_is p a row symbol;
    here = λ q h. rw off h;
    from = λ r h. (r, h, rw off refl);
    alike = λ e b k q h.
        subst (λ (x : ℕ). alarm_at m full p (shadow n x) ≡ alarm_at m w q (shadow n x)) (point_same k)
        (rw off (sym (moved_final p row) ∙ e));
    split = λ e.
        (a, refl, (count_trailing_zeros 16 s, trailing_member 16 s some short, rw off (sym (moved_final p row) ∙ e)));
  }

  -- an event
  event_says : (b : Bool) → w n ≡ b → PastSays m w n (point a) p s (past_shadow table finals a b p s)
  event_says true e = enabled_says e
  event_says false e = disabled_says e

  -- a node of any kind
  pub past_says
      : (k : Point) → ((b : ℕ) → k ≡ point b → a ≡ b) → PastSays m w n k p s (past_row table finals (is_point k) a (w n) p s)
  past_says no_point same = silent_says m w n no_point p s (λ q v. refl) (λ b e. point_some e refl)
  past_says (point b) same =
      subst (λ (x : ℕ). PastSays m w n (point x) p s (past_shadow table finals a (w n) p s)) (same b refl) (event_says (w n) refl)

-- the state past a node is below 16
pub past_state_lem
    : (table : List (List ℕ)) (finals a p s : ℕ) → CellsBelow table → p < 16 → a < 16 → (told enabled : Bool)
    → (past_row table finals told a enabled p s).state < 16
past_state_lem table finals a p s cells row symbol true true = cells p a row symbol
past_state_lem table finals a p s cells row symbol true false = cells p a row symbol
past_state_lem table finals a p s cells row symbol false enabled = row

-- ---- for a job that is held

module _
    {j : Job} {o : List ℕ} {table : List (List ℕ)} {finals states nodes : ℕ} (cells : CellsBelow table)
    (job : JobHeld j o table finals states nodes) where
  -- a next state is below 16
  pub next_small : (p a : ℕ) → p < 16 → a < 16 → next j.rule p a < 16
  next_small p a lp la = subst (λ (x : ℕ). x < 16) (job.cells p a lp la) (cells p a lp la)

  -- and so is a state past a node
  pub past_small : (n p : ℕ) → p < 16 → past_node j full n p < 16
  past_small n p lp = go (point_of (node_at j n).kind) refl
    where
      go : (x : Point) → point_of (node_at j n).kind ≡ x → past_state j.rule full n x p < 16
      go no_point e = lp
      go (point a) e = next_small p a lp (event_small n job.formed e)

-- a plan that is held says what is enabled
pub plan_enabled : (plan l : List ℕ) (nodes n : ℕ) → PlanHeld plan l nodes → n < nodes → enabled_in l n ≡ enables plan n
unfolding enabled_in
plan_enabled plan l nodes n planned inside = ap (λ (x : ℕ). eqb x 1) (planned n inside)
