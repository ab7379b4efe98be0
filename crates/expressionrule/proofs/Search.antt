-- The search for the states as a plain function: it ends with the table of the rule, or with a seventeenth state.
-- The sets of the expression are computed once; then row by row, from the positions that come after those of the row's set, cell by cell. The
-- laws of growing keep each step.
-- Assumes nothing.
use mathlib.Core.Path.{◌≡◌, refl, sym, ap, subst, ◌∙◌}
use mathlib.Core.Logic.{◌≢◌, by_cases}
use mathlib.Core.Bool.{Bool, true, false, ◌&&◌, ◌||◌}
use mathlib.Core.List.{List, [], ◌∷◌}
use Prim.Native.Nat.{ℕ, zero, suc, ◌+◌, ◌-◌, ◌*◌, ◌^◌, ◌≤◌, ◌<◌}
use native.Mathlib.Decide.{ℕ_discrete}
use native.Mathlib.Omega.{arith}
use lib.Bits.{bit_or, bit_and}
use lib.Dec.{eqb, ltb}
use lib.ListN.{length, get_or, set, replicate, length-replicate}
use lib.Seq.{get_or-set_other}
use borrow.Author.Tests.{eqb-true, eqb-false, ltb-true, ltb-false}
use Rattle.laws.specs.Bits.{has}
use Rattle.laws.specs.Bounded.{tab_from, tab}
use Rattle.lines.proofs.LinesLaws.{zeros_at}
use Rattle.expression.specs.Expression.{Expr, letter, following, either, star}
use Rattle.expression.specs.Masks.{nullable, when, first, last, follow, union_over, places_of, start_set, next_set, aim}
use Rattle.expressionrule.specs.Numbering.{Growing, Sought, TooMany}
use Rattle.expressionrule.proofs.GrowLaws.{growing_none, growing_old, growing_new, growing_row}

-- ---- the sets of an expression

-- whether the empty word is a word, the first and last positions, and what follows a position
pub record Known : Type 0 where
  pub empty : Bool
  pub firsts : ℕ
  pub lasts : ℕ
  pub follows : ℕ → ℕ

-- from those of the parts
unfoldable pub known_letter : ℕ → Known
known_letter p = record { empty = false; firsts = 2 ^ p; lasts = 2 ^ p; follows = λ q. 0 }

unfoldable pub known_then : Known → Known → Known
known_then d e =
    record {
      empty = d.empty && e.empty;
      firsts = bit_or d.firsts (when d.empty e.firsts);
      lasts = bit_or e.lasts (when e.empty d.lasts);
      follows = λ q. bit_or (bit_or (d.follows q) (e.follows q)) (when (has d.lasts q) e.firsts);
    }

unfoldable pub known_or : Known → Known → Known
known_or d e =
    record {
      empty = d.empty || e.empty;
      firsts = bit_or d.firsts e.firsts;
      lasts = bit_or d.lasts e.lasts;
      follows = λ q. bit_or (d.follows q) (e.follows q);
    }

unfoldable pub known_star : Known → Known
known_star e =
    record {
      empty = true;
      firsts = e.firsts;
      lasts = e.lasts;
      follows = λ q. bit_or (e.follows q) (when (has e.lasts q) e.firsts);
    }

unfoldable pub known_of : Expr → Known
unfolding known_letter known_then known_or known_star
known_of (letter p) = known_letter p
known_of (following d e) = known_then (known_of d) (known_of e)
known_of (either d e) = known_or (known_of d) (known_of e)
known_of (star e) = known_star (known_of e)

-- they are those of the definitions
record Knows (e : Expr) (k : Known) : Type 0 where
  empty : k.empty ≡ nullable e
  firsts : k.firsts ≡ first e
  lasts : k.lasts ≡ last e
  follows : (q : ℕ) → k.follows q ≡ follow e q

-- part by part
knows : (e : Expr) → Knows e (known_of e)
unfolding known_of known_letter known_then known_or known_star nullable first last follow
knows (letter p) = record { empty = refl; firsts = refl; lasts = refl; follows = λ q. refl }
knows (following d e) =
    let x = knows d in
    let y = knows e in
    record {
      empty = cc (x.empty, y.empty);
      firsts = cc (x.firsts, x.empty, y.firsts);
      lasts = cc (y.lasts, y.empty, x.lasts);
      follows = λ q. cc (x.follows q, y.follows q, x.lasts, y.firsts);
    }
knows (either d e) =
    let x = knows d in
    let y = knows e in
    record {
      empty = cc (x.empty, y.empty);
      firsts = cc (x.firsts, y.firsts);
      lasts = cc (x.lasts, y.lasts);
      follows = λ q. cc (x.follows q, y.follows q);
    }
knows (star e) =
    let x = knows e in
    record { empty = refl; firsts = x.firsts; lasts = x.lasts; follows = λ q. cc (x.follows q, x.lasts, x.firsts) }

-- the last positions
pub knows_lasts : (e : Expr) → (known_of e).lasts ≡ last e
knows_lasts e = (knows e).lasts

-- the values at the numbers below a bound, the highest first, and the union of those of a set's members
unfoldable pub down_from : ℕ → (ℕ → ℕ) → List ℕ
down_from zero f = []
down_from (suc n) f = f n ∷ down_from n f

unfoldable pub union_down : ℕ → List ℕ → ℕ → ℕ
union_down zero f k = 0
union_down (suc n) [] k = 0
union_down (suc n) (x ∷ f) k = bit_or (union_down n f k) (when (has k n) x)

-- the same union
union_down_lem
    : (n : ℕ) (f g : ℕ → ℕ) (k : ℕ) → ((q : ℕ) → f q ≡ g q) → union_down n (down_from n f) k ≡ union_over n g k
unfolding union_down down_from union_over
union_down_lem zero f g k h = refl
union_down_lem (suc n) f g k h = cc (union_down_lem n f g k h, h n)

-- the positions that can come next: from the start, and from the set of another state
unfoldable pub next_places : ℕ → List ℕ → ℕ → ℕ → ℕ → ℕ
unfolding union_down
next_places n f firsts zero k = firsts
next_places n f firsts (suc q) k = union_down n f k

-- those of an expression
abbrev next_of : List ℕ → Expr → ℕ → ℕ → ℕ
next_of t e q k = next_places (length t) (down_from (length t) (known_of e).follows) (known_of e).firsts q k

-- those at which the letter of an event stands are the aim
next_aims
    : (t : List ℕ) (e : Expr) (sets : List ℕ) (q s : ℕ)
    → bit_and (next_of t e q (get_or sets q 0)) (places_of t (length t) s)
    ≡ aim t e sets q s
unfolding next_places aim start_set next_set
next_aims t e sets zero s = ap (λ (x : ℕ). bit_and x (places_of t (length t) s)) (knows e).firsts
next_aims t e sets (suc q) s =
    ap (λ (x : ℕ). bit_and x (places_of t (length t) s))
    (union_down_lem (length t) (known_of e).follows (follow e) (get_or sets (suc q) 0) (knows e).follows)

-- ---- the search

-- the sets and cells found and how many states there are, or a seventeenth state
pub data Searched : Type 0 where
  holding : List ℕ → List ℕ → ℕ → Searched
  full : Searched

-- the positions of each of the first a letters
abbrev pub letters_of : List ℕ → ℕ → List ℕ
letters_of t a = tab a (λ s. places_of t (length t) s)

-- the first state from p on with the set x, among k, or the one past them
unfoldable pub seek_if : Bool → ℕ → (ℕ → ℕ) → ℕ
seek_if true p more = p
seek_if false p more = more (suc p)

unfoldable pub seek : ℕ → List ℕ → ℕ → ℕ → ℕ
unfolding seek_if
seek zero sets x p = p
seek (suc k) sets x p = seek_if (eqb (get_or sets p 0) x) p (λ r. seek k sets x r)

-- a cell: its state is an old one, a new one, or one too many
unfoldable pub cell_if : (List ℕ → List ℕ → ℕ → Searched) → Bool → Bool → ℕ → ℕ → ℕ → List ℕ → List ℕ → ℕ → Searched
cell_if more true room x i at sets cells n = more sets (set cells at i) n
cell_if more false true x i at sets cells n = more (set sets n x) (set cells at n) (n + 1)
cell_if more false false x i at sets cells n = full

unfoldable pub cell_on : (List ℕ → List ℕ → ℕ → Searched) → ℕ → ℕ → ℕ → List ℕ → List ℕ → ℕ → Searched
unfolding cell_if
cell_on more x i at sets cells n = cell_if more (ltb i n) (ltb n 16) x i at sets cells n

-- the cells of a row from one on, for the letters whose positions are listed
unfoldable pub row_from : List ℕ → ℕ → ℕ → List ℕ → List ℕ → ℕ → Searched
unfolding cell_on seek
row_from [] u at sets cells n = holding sets cells n
row_from (p ∷ places) u at sets cells n =
    cell_on (λ sets cells n. row_from places u (suc at) sets cells n) (bit_and u p) (seek (n - 1) sets (bit_and u p) 1) at sets cells n

-- the rows from one on, as long as there are states
unfoldable pub rows_after : (List ℕ → List ℕ → ℕ → Searched) → Searched → Searched
rows_after more (holding sets cells n) = more sets cells n
rows_after more full = full

unfoldable pub rows_if : (List ℕ → List ℕ → ℕ → Searched) → Bool → List ℕ → List ℕ → ℕ → Searched
rows_if more true sets cells n = more sets cells n
rows_if more false sets cells n = holding sets cells n

unfoldable pub rows_from : ℕ → (ℕ → ℕ → ℕ) → List ℕ → ℕ → List ℕ → List ℕ → ℕ → Searched
unfolding rows_after rows_if row_from
rows_from zero source places q sets cells n = holding sets cells n
rows_from (suc r) source places q sets cells n =
    rows_if
    (λ sets cells n.
    rows_after (λ sets cells n. rows_from r source places (suc q) sets cells n)
    (row_from places (source q (get_or sets q 0)) (q * 16) sets cells n))
    (ltb q n) sets cells n

-- the search for the states of an expression
unfoldable pub search_by : List ℕ → ℕ → List ℕ → ℕ → Searched
unfolding rows_from next_places tab
search_by t a f firsts =
    rows_from 16 (next_places (length t) f firsts) (letters_of t a) 0 (replicate 16 0) (replicate 256 0) 1

unfoldable pub search_of : List ℕ → ℕ → Expr → Searched
unfolding search_by down_from known_of
search_of t a e = search_by t a (down_from (length t) (known_of e).follows) (known_of e).firsts

-- ---- what it answers

-- all rows are done, or there is a seventeenth state
abbrev pub SearchAnswer : ℕ → List ℕ → Expr → Searched → Type 0
SearchAnswer a t e (holding sets cells n) = Growing a t e sets cells n (n * 16)
SearchAnswer a t e full = TooMany a t e

-- the same of row q
abbrev RowAnswer : ℕ → List ℕ → Expr → ℕ → Searched → Type 0
RowAnswer a t e q (holding sets cells n) = Growing a t e sets cells n ((q + 1) * 16) × (q < n)
RowAnswer a t e q full = TooMany a t e

-- the state that is sought is the first with its set
seek_sought
    : (k : ℕ) (sets : List ℕ) (n x p : ℕ) → k + p ≡ n → 1 ≤ p → ((r : ℕ) → 1 ≤ r → r < p → get_or sets r 0 ≢ x)
    → Sought sets n x (seek k sets x p)
unfolding seek seek_if
seek_sought zero sets n x p l o h =
    record {
      low = o;
      high = omega (arith, l);
      here = λ z. absurd (omega (arith, z, l));
      none = λ z r lo hi. h r lo (omega (arith, hi, l));
    }
seek_sought (suc k) sets n x p l o h =
    go (eqb (get_or sets p 0) x) refl
    (λ z. seek_sought k sets n x (suc p) (omega (arith, l)) (omega arith) (λ r lo hi. more z r lo hi))
  where
    more : eqb (get_or sets p 0) x ≡ false → (r : ℕ) → 1 ≤ r → r < suc p → get_or sets r 0 ≢ x
    more z r lo hi =
        by_cases (ℕ_discrete r p)
        (λ (y : r ≡ p). subst (λ (m : ℕ). get_or sets m 0 ≢ x) (sym y) (eqb-false (get_or sets p 0) x z))
        (λ (y : r ≢ p). h r lo (omega (arith, hi, y)))

    go
        : (b : Bool) → eqb (get_or sets p 0) x ≡ b → (eqb (get_or sets p 0) x ≡ false → Sought sets n x (seek k sets x (suc p)))
        → Sought sets n x (seek_if b p (λ r. seek k sets x r))
    go true z rest =
        record {
          low = o;
          high = omega (arith, l);
          here = λ y. eqb-true (get_or sets p 0) x z;
          none = λ y. absurd (omega (arith, y, l));
        }
    go false z rest = rest z

module _ (a : ℕ) (t : List ℕ) (e : Expr) (few : a ≤ 16) where
  -- a cell, from what is answered after it
  cell_answer
      : (more : List ℕ → List ℕ → ℕ → Searched) (q s x i at : ℕ) (sets cells : List ℕ) (n : ℕ) → at ≡ q * 16 + s → s < a → q < n
      → Growing a t e sets cells n (q * 16 + s) → x ≡ aim t e sets q s → Sought sets n x i
      → ((sets' cells' : List ℕ) (m : ℕ) → Growing a t e sets' cells' m (q * 16 + s + 1) → q < m → get_or sets' q 0 ≡ get_or sets q 0
      → RowAnswer a t e q (more sets' cells' m))
      → RowAnswer a t e q (cell_on more x i at sets cells n)
  unfolding cell_on cell_if
  cell_answer more q s x i at sets cells n place inside above g y sought rest = go (ltb i n) (ltb n 16) refl refl
    where
      go : (b c : Bool) → ltb i n ≡ b → ltb n 16 ≡ c → RowAnswer a t e q (cell_if more b c x i at sets cells n)
      go true c h k =
          rest sets (set cells at i) n
          (subst (λ (z : ℕ). Growing a t e sets (set cells z i) n (q * 16 + s + 1)) (sym place)
          (growing_old a t e sets cells n q s i few inside above g sought.low (ltb-true i n h) (sought.here (ltb-true i n h) ∙ y)))
          above refl
      go false true h k =
          rest (set sets n x) (set cells at n) (n + 1)
          (subst (λ (z : ℕ). Growing a t e (set sets n x) (set cells z n) (n + 1) (q * 16 + s + 1)) (sym place)
          (growing_new a t e sets cells n q s x few inside above (ltb-true n 16 k) g y
          (sought.none (omega (arith, sought.high, ltb-false i n h)))))
          (omega (arith, above)) (get_or-set_other sets n q x 0 (λ z. omega (arith, z, above)))
      go false false h k =
          let most : n ≡ 16 = omega (arith, ltb-false n 16 k, g.linked.few) in
          record {
            sets = sets;
            cells = cells;
            row = q;
            column = s;
            grown = subst (λ (z : ℕ). Growing a t e sets cells z (q * 16 + s)) most g;
            row_in = omega (arith, above, most);
            column_in = inside;
            fresh = λ p lo hi z.
                sought.none (omega (arith, sought.high, ltb-false i n h)) p lo (omega (arith, hi, most)) (z ∙ sym y);
          }

  -- the rest of a row
  row_answer
      : (k s q u at : ℕ) (sets cells : List ℕ) (n : ℕ) → s + k ≡ a → at ≡ q * 16 + s → q < n → Growing a t e sets cells n (q * 16 + s)
      → u ≡ next_of t e q (get_or sets q 0) → RowAnswer a t e q (row_from (tab_from s k (λ c. places_of t (length t) c)) u at sets cells n)
  unfolding row_from tab_from
  row_answer zero s q u at sets cells n l place above g y =
      (growing_row a t e sets cells n q few (subst (λ (z : ℕ). Growing a t e sets cells n (q * 16 + z)) (omega (arith, l)) g), above)
  row_answer (suc k) s q u at sets cells n l place above g y =
      cell_answer
      (λ sets cells n. row_from (tab_from (suc s) k (λ c. places_of t (length t) c)) u (suc at) sets cells n)
      q s (bit_and u (places_of t (length t) s)) (seek (n - 1) sets (bit_and u (places_of t (length t) s)) 1) at sets cells n
      place (omega (arith, l)) above g (ap (λ (z : ℕ). bit_and z (places_of t (length t) s)) y ∙ next_aims t e sets q s)
      (seek_sought (n - 1) sets n (bit_and u (places_of t (length t) s)) 1 (omega (arith, above)) (omega arith)
      (λ r lo hi. absurd (omega (arith, lo, hi))))
      (λ sets' cells' m g' above' same.
      row_answer k (suc s) q u (suc at) sets' cells' m (omega (arith, l)) (omega (arith, place)) above'
      (subst (λ (z : ℕ). Growing a t e sets' cells' m z) (omega arith) g') (y ∙ ap (next_of t e q) (sym same)))

  -- the rest of the rows, after one that was done
  after_answer
      : (more : List ℕ → List ℕ → ℕ → Searched) (q : ℕ) (r : Searched) → RowAnswer a t e q r
      → ((sets cells : List ℕ) (n : ℕ) → Growing a t e sets cells n (suc q * 16) → suc q ≤ n → SearchAnswer a t e (more sets cells n))
      → SearchAnswer a t e (rows_after more r)
  unfolding rows_after
  after_answer more q (holding sets cells n) h rest =
      rest sets cells n (subst (λ (z : ℕ). Growing a t e sets cells n z) (omega arith) h.0) (omega (arith, h.1))
  after_answer more q full h rest = h

  -- as long as there are states
  if_answer
      : (more : List ℕ → List ℕ → ℕ → Searched) (q : ℕ) (sets cells : List ℕ) (n : ℕ) → q ≤ n → Growing a t e sets cells n (q * 16)
      → (q < n → SearchAnswer a t e (more sets cells n)) → SearchAnswer a t e (rows_if more (ltb q n) sets cells n)
  unfolding rows_if
  if_answer more q sets cells n l g rest = go (ltb q n) refl
    where
      go : (b : Bool) → ltb q n ≡ b → SearchAnswer a t e (rows_if more b sets cells n)
      go true h = rest (ltb-true q n h)
      go false h = subst (λ (z : ℕ). Growing a t e sets cells n (z * 16)) (omega (arith, l, ltb-false q n h)) g

  -- all rows from one on
  rows_answer
      : (r q : ℕ) (sets cells : List ℕ) (n : ℕ) → r + q ≡ 16 → q ≤ n → Growing a t e sets cells n (q * 16)
      → SearchAnswer a t e (rows_from r (next_of t e) (letters_of t a) q sets cells n)
  unfolding rows_from tab
  rows_answer zero q sets cells n l w g =
      subst (λ (z : ℕ). Growing a t e sets cells n (z * 16)) (omega (arith, l, w, g.linked.few)) g
  rows_answer (suc r) q sets cells n l w g =
      if_answer
      (λ sets cells n.
      rows_after (λ sets cells n. rows_from r (next_of t e) (letters_of t a) (suc q) sets cells n)
      (row_from (letters_of t a) (next_of t e q (get_or sets q 0)) (q * 16) sets cells n))
      q sets cells n w g
      (λ above.
      after_answer (λ sets cells n. rows_from r (next_of t e) (letters_of t a) (suc q) sets cells n) q
      (row_from (letters_of t a) (next_of t e q (get_or sets q 0)) (q * 16) sets cells n)
      (row_answer a 0 q (next_of t e q (get_or sets q 0)) (q * 16) sets cells n (omega arith) (omega arith) above
      (subst (λ (z : ℕ). Growing a t e sets cells n z) (omega arith) g) refl)
      (λ sets' cells' m g' above'. rows_answer r (suc q) sets' cells' m (omega (arith, l)) above' g'))

  -- the search ends as it should
  pub search_answer : SearchAnswer a t e (search_of t a e)
  unfolding search_of search_by
  search_answer =
      rows_answer 16 0 (replicate 16 0) (replicate 256 0) 1 (omega arith) (omega arith)
      (growing_none a t e (replicate 16 0) (replicate 256 0) (length-replicate {A = ℕ} 16 0) (length-replicate {A = ℕ} 256 0) (zeros_at 256))
