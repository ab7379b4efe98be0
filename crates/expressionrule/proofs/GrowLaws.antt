-- The search for states, cell by cell in row order.
-- Invariant: the sets found are different; each cell done leads to the set that it should; each number is first met in order; other cells are zero.
-- Assumes nothing.
use mathlib.Core.Path.{◌≡◌, refl, sym, ap, subst, ◌∙◌}
use mathlib.Core.Logic.{by_cases, ◌≢◌}
use mathlib.Core.List.{List}
use Prim.Native.Nat.{ℕ, zero, suc, ◌+◌, ◌*◌, ◌≤◌, ◌<◌}
use native.Mathlib.Decide.{ℕ_discrete, dec_lt}
use native.Mathlib.Omega.{arith}
use lib.ListN.{length, get_or, set, length-set}
use lib.Seq.{get_or-set_same, get_or-set_other}
use mathlib.Core.Bool.{true}
use lib.Bits.{bit_and}
use Rattle.laws.specs.Bits.{has}
use Rattle.laws.proofs.Bits.{same_set}
use Rattle.laws.proofs.Tests.{test_ext}
use Rattle.expression.specs.Expression.{Expr}
use Rattle.expression.specs.Masks.{In, first, follow, union_over, places_of, start_set, next_set, aim}
use Rattle.expressionrule.specs.ExpressionRule.{FirstMet}
use Rattle.expressionrule.specs.Numbering.{cell_at, Cells, MetBy, Growing, ReadAs, PlacesAre, Onward, Sought, Added, RowReady, RowDone, AllDone}
use Rattle.expression.proofs.Unique.{spells_spread}
use Rattle.expression.proofs.Reach.{first_in, follow_in}
use Rattle.expression.proofs.MaskLaws.{first_says, follow_says}
use Rattle.expression.proofs.SetLaws.{in_between, both_to, union_says}

-- the aim looks at the set of its own state alone
aim_same : (t : List ℕ) (e : Expr) (sets more : List ℕ) (q s : ℕ) → get_or sets q 0 ≡ get_or more q 0 → aim t e sets q s ≡ aim t e more q s
unfolding aim
aim_same t e sets more zero s h = refl
aim_same t e sets more (suc q) s h = ap (λ (x : ℕ). next_set t e x s) h

-- an event leads to places of the expression
pub aim_inside : (t : List ℕ) (e : Expr) (sets : List ℕ) (q s p : ℕ) → has (aim t e sets q s) p ≡ true → In e p
unfolding aim start_set next_set
aim_inside t e sets zero s p h = first_in ((first_says e p).0 (both_to (first e) (places_of t (length t) s) p h).0)
aim_inside t e sets (suc q) s p h =
    let r = (union_says (length t) (follow e) (get_or sets (suc q) 0) p).0
    (both_to (union_over (length t) (follow e) (get_or sets (suc q) 0)) (places_of t (length t) s) p h).0 in
    follow_in ((follow_says e r.from p).0 r.there)

-- what the buffer says of a set of places is what the expression says
pub union_same
    : (a : ℕ) (t : List ℕ) (e : Expr) (firsts : ℕ) (f : List ℕ) (k : ℕ) → ReadAs a t e firsts f → ((p : ℕ) → has k p ≡ true → In e p)
    → union_over (length f) (λ p. get_or f p 0) k ≡ union_over (length t) (follow e) k
union_same a t e firsts f k h inside =
    same_set (union_over (length f) (λ p. get_or f p 0) k) (union_over (length t) (follow e) k)
    (λ q. test_ext _ _ (there q) (back q))
  where
    there : (q : ℕ) → has (union_over (length f) (λ p. get_or f p 0) k) q ≡ true → has (union_over (length t) (follow e) k) q ≡ true
    there q m =
        let r = (union_says (length f) (λ p. get_or f p 0) k q).0 m in
        let i = inside r.from r.member in
        (union_says (length t) (follow e) k q).1 (record {
          from = r.from;
          below = (in_between (spells_spread h.spelt) i).to;
          member = r.member;
          there = subst (λ (x : ℕ). has x q ≡ true) (h.follows r.from i) r.there;
        })

    back : (q : ℕ) → has (union_over (length t) (follow e) k) q ≡ true → has (union_over (length f) (λ p. get_or f p 0) k) q ≡ true
    back q m =
        let r = (union_says (length t) (follow e) k q).0 m in
        let i = inside r.from r.member in
        (union_says (length f) (λ p. get_or f p 0) k q).1 (record {
          from = r.from;
          below = omega (arith, r.below, h.room);
          member = r.member;
          there = subst (λ (x : ℕ). has x q ≡ true) (sym (h.follows r.from i)) r.there;
        })

-- the positions that can come next: the first from the start, those that follow the set's from another state
pub onward_start : (f : List ℕ) (firsts : ℕ) (sets : List ℕ) (q : ℕ) → q ≡ 0 → Onward f firsts sets q firsts
unfolding aim start_set
onward_start f firsts sets q z a t e h i s = rw z (cc h.start)

pub onward_set
    : (f : List ℕ) (firsts : ℕ) (sets : List ℕ) (q x : ℕ) → (q ≡ 0 → ⊥) → x ≡ union_over (length f) (λ p. get_or f p 0) (get_or sets q 0)
    → Onward f firsts sets q x
unfolding aim next_set
onward_set f firsts sets zero x z u a t e h i s = absurd (z refl)
onward_set f firsts sets (suc q) x z u a t e h i s =
    cc (u ∙ union_same a t e firsts f (get_or sets (suc q) 0) h (λ p m. i p (omega arith) m))

-- where a number is met first is not changed by a later cell
met_later : (a k n i : ℕ) (cells : List ℕ) → MetBy a cells n k → MetBy a (set cells n i) (n + 1) k
met_later a k n i cells m =
    record {
      first = record {
        row = f.row;
        column = f.column;
        above = f.above;
        within = f.within;
        here = get_or-set_other cells n (f.row * 16 + f.column) i 0 (λ x. omega (arith, x, m.done)) ∙ f.here;
        before = λ q s h g.
            omega (arith, get_or-set_other cells n (q * 16 + s) i 0 (λ x. omega (arith, x, m.done, g)), f.before q s h g);
      };
      done = omega (arith, m.done);
    }
  where
    f : FirstMet (cell_at cells) a k
    f = m.first

module _ (a : ℕ) (t : List ℕ) (e : Expr) where
  -- no state but the start, and no cell
  pub growing_none
      : (sets cells : List ℕ) → length sets ≡ 16 → length cells ≡ 256 → ((k : ℕ) → get_or cells k 0 ≡ 0) → Growing a t e sets cells 1 0
  growing_none sets cells l w z =
      record {
        linked = record {
          some = omega arith;
          few = omega arith;
          long = l;
          wide = w;
          low = λ q s h g. absurd (omega (arith, g));
          high = λ q s h g. absurd (omega (arith, g));
          leads = λ q s h g. absurd (omega (arith, g));
          once = λ p q h g h' g' x. omega (arith, h, g);
          inside = λ q p h g m. absurd (omega (arith, h, g));
          empty = λ q s h g. z (q * 16 + s);
        };
        met = λ k h g. absurd (omega (arith, h, g));
      }

  -- one cell more
  linked_cell
      : (sets cells : List ℕ) (count q s i : ℕ) → a ≤ 16 → s < a → q < 16 → Cells a t e sets cells count (q * 16 + s)
      → 1 ≤ i → i < count → get_or sets i 0 ≡ aim t e sets q s → Cells a t e sets (set cells (q * 16 + s) i) count (q * 16 + s + 1)
  linked_cell sets cells count q s i few h l g lo hi x =
      record {
        some = g.some;
        few = g.few;
        long = g.long;
        wide = length-set cells (q * 16 + s) i ∙ g.wide;
        low = λ q' s' h' d.
            by_cases (ℕ_discrete (q' * 16 + s') (q * 16 + s))
            (λ (y : q' * 16 + s' ≡ q * 16 + s). omega (arith, here q' s' y, lo))
            (λ (y : q' * 16 + s' ≢ q * 16 + s). omega (arith, other q' s' y, g.low q' s' h' (omega (arith, y, d))));
        high = λ q' s' h' d.
            by_cases (ℕ_discrete (q' * 16 + s') (q * 16 + s))
            (λ (y : q' * 16 + s' ≡ q * 16 + s). omega (arith, here q' s' y, hi))
            (λ (y : q' * 16 + s' ≢ q * 16 + s). omega (arith, other q' s' y, g.high q' s' h' (omega (arith, y, d))));
        leads = λ q' s' h' d.
            by_cases (ℕ_discrete (q' * 16 + s') (q * 16 + s))
            (λ (y : q' * 16 + s' ≡ q * 16 + s).
            ap (λ (c : ℕ). get_or sets c 0) (here q' s' y) ∙ x ∙ same_place q' s' h' y)
            (λ (y : q' * 16 + s' ≢ q * 16 + s).
            ap (λ (c : ℕ). get_or sets c 0) (other q' s' y) ∙ g.leads q' s' h' (omega (arith, y, d)));
        once = g.once;
        inside = g.inside;
        empty = λ q' s' b d.
            other q' s' (λ y. not_here q' s' b d y) ∙ g.empty q' s' b (λ u. omega (arith, d u));
      }
    where
      here : (q' s' : ℕ) → q' * 16 + s' ≡ q * 16 + s → get_or (set cells (q * 16 + s) i) (q' * 16 + s') 0 ≡ i
      here q' s' y =
          ap (λ (k : ℕ). get_or (set cells (q * 16 + s) i) k 0) y
          ∙ get_or-set_same cells (q * 16 + s) i 0 (omega (arith, g.wide, l, h, few))

      other : (q' s' : ℕ) → q' * 16 + s' ≢ q * 16 + s → get_or (set cells (q * 16 + s) i) (q' * 16 + s') 0 ≡ get_or cells (q' * 16 + s') 0
      other q' s' y = get_or-set_other cells (q * 16 + s) (q' * 16 + s') i 0 y

      same_place : (q' s' : ℕ) → s' < a → q' * 16 + s' ≡ q * 16 + s → aim t e sets q s ≡ aim t e sets q' s'
      same_place q' s' b y =
          let u : q ≡ q' = omega (arith, b, h, few, y) in
          let v : s ≡ s' = omega (arith, b, h, few, y) in
          cc (u, v)

      not_here : (q' s' : ℕ) → s' < 16 → (s' < a → q * 16 + s + 1 ≤ q' * 16 + s') → q' * 16 + s' ≡ q * 16 + s → ⊥
      not_here q' s' b d y =
          let v : s ≡ s' = omega (arith, b, h, few, y) in omega (arith, d (omega (arith, v, h)), y)

  -- a set more
  linked_set
      : (sets cells : List ℕ) (count n x : ℕ) → count < 16 → n ≤ count * 16 → Cells a t e sets cells count n
      → ((p : ℕ) → 1 ≤ p → p < count → get_or sets p 0 ≢ x) → ((p : ℕ) → has x p ≡ true → In e p)
      → Cells a t e (set sets count x) cells (count + 1) n
  linked_set sets cells count n x room part g fresh members =
      record {
        some = omega arith;
        few = omega arith;
        long = length-set sets count x ∙ g.long;
        wide = g.wide;
        low = g.low;
        high = λ q s h d. omega (arith, g.high q s h d);
        leads = λ q s h d.
            old (cell_at cells q s) (g.high q s h d) ∙ g.leads q s h d
            ∙ aim_same t e sets (set sets count x) q s (sym (old q (omega (arith, d, part))));
        once = once;
        inside = λ q p lq hq m.
            by_cases (ℕ_discrete q count)
            (λ (y : q ≡ count). members p (subst (λ (k : ℕ). has k p ≡ true) (ap (λ (k : ℕ). get_or (set sets count x) k 0) y ∙ new) m))
            (λ (y : q ≢ count).
            g.inside q p lq (omega (arith, y, hq)) (subst (λ (k : ℕ). has k p ≡ true) (old q (omega (arith, y, hq))) m));
        empty = g.empty;
      }
    where
      old : (p : ℕ) → p < count → get_or (set sets count x) p 0 ≡ get_or sets p 0
      old p b = get_or-set_other sets count p x 0 (λ y. omega (arith, y, b))

      new : get_or (set sets count x) count 0 ≡ x
      new = get_or-set_same sets count x 0 (omega (arith, g.long, room))

      once
          : (p q : ℕ) → 1 ≤ p → p < count + 1 → 1 ≤ q → q < count + 1 → get_or (set sets count x) p 0 ≡ get_or (set sets count x) q 0 → p ≡ q
      once p q lp hp lq hq y =
          by_cases (ℕ_discrete p count)
          (λ (i : p ≡ count).
          by_cases (ℕ_discrete q count)
          (λ (j : q ≡ count). i ∙ sym j)
          (λ (j : q ≢ count).
          absurd (fresh q lq (omega (arith, j, hq))
          (sym (old q (omega (arith, j, hq))) ∙ sym y ∙ ap (λ (k : ℕ). get_or (set sets count x) k 0) i ∙ new))))
          (λ (i : p ≢ count).
          by_cases (ℕ_discrete q count)
          (λ (j : q ≡ count).
          absurd (fresh p lp (omega (arith, i, hp))
          (sym (old p (omega (arith, i, hp))) ∙ y ∙ ap (λ (k : ℕ). get_or (set sets count x) k 0) j ∙ new)))
          (λ (j : q ≢ count).
          g.once p q lp (omega (arith, i, hp)) lq (omega (arith, j, hq))
          (sym (old p (omega (arith, i, hp))) ∙ y ∙ old q (omega (arith, j, hq)))))

  -- a cell that leads to a state found before
  pub growing_old
      : (sets cells : List ℕ) (count q s i : ℕ) → a ≤ 16 → s < a → q < count → Growing a t e sets cells count (q * 16 + s)
      → 1 ≤ i → i < count → get_or sets i 0 ≡ aim t e sets q s → Growing a t e sets (set cells (q * 16 + s) i) count (q * 16 + s + 1)
  growing_old sets cells count q s i few h l g lo hi x =
      record {
        linked = linked_cell sets cells count q s i few h (omega (arith, l, g.linked.few)) g.linked lo hi x;
        met = λ k lk hk. met_later a k (q * 16 + s) i cells (g.met k lk hk);
      }

  -- a cell that leads to a state that is new
  pub growing_new
      : (sets cells : List ℕ) (count q s x : ℕ) → a ≤ 16 → s < a → q < count → count < 16 → Growing a t e sets cells count (q * 16 + s)
      → x ≡ aim t e sets q s → ((p : ℕ) → 1 ≤ p → p < count → get_or sets p 0 ≢ x)
      → Growing a t e (set sets count x) (set cells (q * 16 + s) count) (count + 1) (q * 16 + s + 1)
  growing_new sets cells count q s x few h l room g y fresh =
      record {
        linked = linked_cell (set sets count x) cells (count + 1) q s count few h (omega (arith, l, room))
            (linked_set sets cells count (q * 16 + s) x room (omega (arith, l, h, few)) g.linked fresh
            (λ p m. aim_inside t e sets q s p (subst (λ (k : ℕ). has k p ≡ true) y m))) g.linked.some (omega arith)
            (get_or-set_same sets count x 0 (omega (arith, g.linked.long, room)) ∙ y
            ∙ aim_same t e sets (set sets count x) q s (sym (get_or-set_other sets count q x 0 (λ z. omega (arith, z, l)))));
        met = λ k lk hk.
            by_cases (ℕ_discrete k count)
            (λ (z : k ≡ count). subst (λ (j : ℕ). MetBy a (set cells (q * 16 + s) count) (q * 16 + s + 1) j) (sym z) fresh_met)
            (λ (z : k ≢ count). met_later a k (q * 16 + s) count cells (g.met k lk (omega (arith, z, hk))));
      }
    where
      fresh_met : MetBy a (set cells (q * 16 + s) count) (q * 16 + s + 1) count
      fresh_met =
          record {
            first = record {
              row = q;
              column = s;
              above = l;
              within = h;
              here = get_or-set_same cells (q * 16 + s) count 0 (omega (arith, g.linked.wide, l, room, h, few));
              before = λ q' s' h' d.
                  omega (arith, get_or-set_other cells (q * 16 + s) (q' * 16 + s') count 0 (λ z. omega (arith, z, d)), g.linked.high q' s' h' d);
            };
            done = omega arith;
          }

  -- the rest of a row has no meaning
  pub growing_row
      : (sets cells : List ℕ) (count q : ℕ) → a ≤ 16 → Growing a t e sets cells count (q * 16 + a) → Growing a t e sets cells count ((q + 1) * 16)
  growing_row sets cells count q few g =
      record {
        linked = record {
          some = l.some;
          few = l.few;
          long = l.long;
          wide = l.wide;
          low = λ q' s' h d. l.low q' s' h (omega (arith, h, few, d));
          high = λ q' s' h d. l.high q' s' h (omega (arith, h, few, d));
          leads = λ q' s' h d. l.leads q' s' h (omega (arith, h, few, d));
          once = l.once;
          inside = l.inside;
          empty = λ q' s' b d. l.empty q' s' b (λ h. omega (arith, d h, few));
        };
        met = λ k lk hk. let m = g.met k lk hk in record { first = m.first; done = omega (arith, m.done, few) };
      }
    where
      l : Cells a t e sets cells count (q * 16 + a)
      l = g.linked

-- ---- the loops

-- row q is done up to symbol s; its own set is as it was
pub record Rowing (a : ℕ) (places f : List ℕ) (firsts q count : ℕ) (sets₀ cells₀ sets cells : List ℕ) (n s : ℕ) : Type 0 where
  pub more : count ≤ n
  pub few : n ≤ 16
  pub sets_long : length sets ≡ length sets₀
  pub cells_long : length cells ≡ length cells₀
  pub within : s ≤ a
  pub kept : get_or sets q 0 ≡ get_or sets₀ q 0
  pub grown
      : (t : List ℕ) (e : Expr) → PlacesAre t a places → ReadAs a t e firsts f → Growing a t e sets₀ cells₀ count (q * 16)
      → Growing a t e sets cells n (q * 16 + s)

pub rowing_none
    : (a : ℕ) (places f : List ℕ) (firsts q count : ℕ) (sets cells : List ℕ) → count ≤ 16
    → Rowing a places f firsts q count sets cells sets cells count 0
rowing_none a places f firsts q count sets cells h =
    record {
      more = omega arith;
      few = h;
      sets_long = refl;
      cells_long = refl;
      within = omega arith;
      kept = refl;
      grown = λ t e l r g. subst (λ (n : ℕ). Growing a t e sets cells count n) (omega arith) g;
    }

module _ (a : ℕ) (places f : List ℕ) (firsts q count : ℕ) (sets₀ cells₀ sets cells : List ℕ) (n s : ℕ)
    (ready : RowReady a places f q count sets₀ cells₀) (w : Rowing a places f firsts q count sets₀ cells₀ sets cells n s) (o i : ℕ)
    (inside : s < a) (onward : Onward f firsts sets₀ q o) (sought : Sought sets n (bit_and o (get_or places s 0)) i) where
  -- the set that is sought
  abbrev x : ℕ
  x = bit_and o (get_or places s 0)

  -- it is the aim
  is_aim
      : (t : List ℕ) (e : Expr) → PlacesAre t a places → ReadAs a t e firsts f → Growing a t e sets₀ cells₀ count (q * 16)
      → x ≡ aim t e sets q s
  is_aim t e l r g =
      ap (λ (y : ℕ). bit_and o y) (l.are s inside)
      ∙ onward a t e r (λ p b m. g.linked.inside q p b ready.row m) s
      ∙ aim_same t e sets₀ sets q s (sym w.kept)

  pub Rowing-more
      : (sets' : List ℕ) (r : ℕ) → i ≢ 16 → Added sets sets' n i x r
      → Rowing a places f firsts q count sets₀ cells₀ sets' (set cells (q * 16 + s) i) r (s + 1)
  Rowing-more sets' r not_many added =
      by_cases (dec_lt i n)
      (λ (l : i < n).
      let d = added.old l in
      record {
        more = omega (arith, d.1, w.more);
        few = omega (arith, d.1, w.few);
        sets_long = ap length d.0 ∙ w.sets_long;
        cells_long = length-set cells (q * 16 + s) i ∙ w.cells_long;
        within = omega arith;
        kept = ap (λ (y : List ℕ). get_or y q 0) d.0 ∙ w.kept;
        grown = λ t e v k g.
            subst (λ (z : ℕ). Growing a t e sets' (set cells (q * 16 + s) i) r z) (omega arith)
            (subst (λ (z : ℕ). Growing a t e sets' (set cells (q * 16 + s) i) z (q * 16 + s + 1)) (sym d.1)
            (subst (λ (z : List ℕ). Growing a t e z (set cells (q * 16 + s) i) n (q * 16 + s + 1)) (sym d.0)
            (growing_old a t e sets cells n q s i ready.symbols inside (omega (arith, ready.row, w.more)) (w.grown t e v k g)
            sought.low l (sought.here l ∙ is_aim t e v k g))));
      })
      (λ (l : i < n → ⊥).
      let d = added.new (omega (arith, l)) in
      let y : i ≡ n = omega (arith, l, sought.high) in
      let room : n < 16 = omega (arith, y, not_many, w.few) in
      record {
        more = omega (arith, d.1, w.more);
        few = omega (arith, d.1, room);
        sets_long = ap length d.0 ∙ length-set sets n x ∙ w.sets_long;
        cells_long = length-set cells (q * 16 + s) i ∙ w.cells_long;
        within = omega arith;
        kept = ap (λ (z : List ℕ). get_or z q 0) d.0 ∙ get_or-set_other sets n q x 0 (λ z. omega (arith, z, ready.row, w.more)) ∙ w.kept;
        grown = λ t e v k g.
            subst (λ (z : ℕ). Growing a t e sets' (set cells (q * 16 + s) i) r z) (omega arith)
            (subst (λ (z : ℕ). Growing a t e sets' (set cells (q * 16 + s) i) z (q * 16 + s + 1)) (sym d.1)
            (subst (λ (z : List ℕ). Growing a t e z (set cells (q * 16 + s) i) (n + 1) (q * 16 + s + 1)) (sym d.0)
            (subst (λ (z : ℕ). Growing a t e (set sets n x) (set cells (q * 16 + s) z) (n + 1) (q * 16 + s + 1)) (sym y)
            (growing_new a t e sets cells n q s x ready.symbols inside (omega (arith, ready.row, w.more)) room (w.grown t e v k g)
            (is_aim t e v k g) (sought.none y)))));
      })

  pub row_many : i ≡ 16 → RowDone a places f firsts q count sets₀ cells₀ sets cells 17
  row_many y =
      record {
        more = omega (arith, ready.few);
        most = omega arith;
        sets_long = w.sets_long;
        cells_long = w.cells_long;
        grown = λ t e v k g l. absurd (omega (arith, l));
        many = λ t e v k g l.
            let full : n ≡ 16 = omega (arith, y, sought.high, w.few) in
            record {
              sets = sets;
              cells = cells;
              row = q;
              column = s;
              grown = subst (λ (u : ℕ). Growing a t e sets cells u (q * 16 + s)) full (w.grown t e v k g);
              row_in = omega (arith, ready.row, ready.few);
              column_in = inside;
              fresh = λ p lo hi z. sought.none (y ∙ sym full) p lo (omega (arith, hi, full)) (z ∙ sym (is_aim t e v k g));
            };
      }

pub row_done
    : (a : ℕ) (places f : List ℕ) (firsts q count : ℕ) (sets₀ cells₀ sets cells : List ℕ) (n s : ℕ) → a ≤ 16 → a ≤ s
    → Rowing a places f firsts q count sets₀ cells₀ sets cells n s → RowDone a places f firsts q count sets₀ cells₀ sets cells n
row_done a places f firsts q count sets₀ cells₀ sets cells n s few l w =
    record {
      more = w.more;
      most = omega (arith, w.few);
      sets_long = w.sets_long;
      cells_long = w.cells_long;
      grown = λ t e v k g h.
          growing_row a t e sets cells n q few
          (subst (λ (z : ℕ). Growing a t e sets cells n (q * 16 + z)) (omega (arith, l, w.within)) (w.grown t e v k g));
      many = λ t e v k g h. absurd (omega (arith, h, w.few));
    }

-- the rows before q are done
pub record Rows (a : ℕ) (places f : List ℕ) (firsts : ℕ) (sets₀ cells₀ sets cells : List ℕ) (n q : ℕ) : Type 0 where
  pub within : q ≤ n
  pub few : n ≤ 16
  pub sets_long : length sets ≡ length sets₀
  pub cells_long : length cells ≡ length cells₀
  pub grown
      : (t : List ℕ) (e : Expr) → PlacesAre t a places → ReadAs a t e firsts f → Growing a t e sets₀ cells₀ 1 0
      → Growing a t e sets cells n (q * 16)

pub rows_none : (a : ℕ) (places f : List ℕ) (firsts : ℕ) (sets cells : List ℕ) → Rows a places f firsts sets cells sets cells 1 0
rows_none a places f firsts sets cells =
    record { within = omega arith; few = omega arith; sets_long = refl; cells_long = refl; grown = λ t e l r g. g }

module _ (a : ℕ) (places f : List ℕ) (firsts : ℕ) (sets₀ cells₀ sets cells : List ℕ) (n q : ℕ)
    (w : Rows a places f firsts sets₀ cells₀ sets cells n q) (sets' cells' : List ℕ) (r : ℕ) (inside : q < n)
    (d : RowDone a places f firsts q n sets cells sets' cells' r) where
  pub rows_more : r ≢ 17 → Rows a places f firsts sets₀ cells₀ sets' cells' r (q + 1)
  rows_more h =
      record {
        within = omega (arith, d.more);
        few = omega (arith, d.most, h);
        sets_long = d.sets_long ∙ w.sets_long;
        cells_long = d.cells_long ∙ w.cells_long;
        grown = λ t e v k g. d.grown t e v k (w.grown t e v k g) (omega (arith, d.most, h));
      }

  pub all_many : (t : List ℕ) → PlacesAre t a places → r ≡ 17 → AllDone a t f firsts sets₀ cells₀ sets' cells' 17
  all_many t l h =
      record {
        most = omega arith;
        sets_long = d.sets_long ∙ w.sets_long;
        cells_long = d.cells_long ∙ w.cells_long;
        grown = λ e k g z. absurd (omega (arith, z));
        many = λ e k g z. d.many t e l k (w.grown t e l k g) h;
      }

pub all_done
    : (a : ℕ) (t places f : List ℕ) (firsts : ℕ) (sets₀ cells₀ sets cells : List ℕ) (n q : ℕ) → PlacesAre t a places → n ≤ q
    → Rows a places f firsts sets₀ cells₀ sets cells n q → AllDone a t f firsts sets₀ cells₀ sets cells n
all_done a t places f firsts sets₀ cells₀ sets cells n q p l w =
    record {
      most = omega (arith, w.few);
      sets_long = w.sets_long;
      cells_long = w.cells_long;
      grown = λ e k g h. subst (λ (z : ℕ). Growing a t e sets cells n (z * 16)) (omega (arith, l, w.within)) (w.grown t e p k g);
      many = λ e k g h. absurd (omega (arith, h, w.few));
    }
