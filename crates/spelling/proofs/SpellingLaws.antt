-- Laws of sixteen rows that grow until every word over a set is spelt.
-- Assumes nothing.
use mathlib.Core.Path.{◌≡◌, refl, sym, ap, subst, ◌∙◌}
use mathlib.Core.Logic.{⊎_elim, by_cases}
use mathlib.Core.Bool.{true, false, true≢false}
use mathlib.Core.List.{List}
use Prim.Native.Nat.{ℕ, ◌+◌, ◌-◌, ◌*◌, ◌^◌, ◌≤◌, ◌<◌}
use native.Mathlib.Decide.{ℕ_discrete}
use native.Mathlib.Omega.{arith}
use lib.Bits.{bit_and, bit_or, or_lt, or_zero_r}
use lib.Count.{count_trailing_zeros}
use lib.ListN.{get_or}
use Rattle.laws.specs.Bounded.{all_below}
use Rattle.laws.specs.Bits.{has, with}
use Rattle.laws.proofs.Bounded.{all_at}
use Rattle.laws.proofs.Bits.{has_below, has_or, has_empty, has_with_same}
use Rattle.laws.proofs.Tests.{fails_of, or_left, or_right}
use Rattle.laws.proofs.Walk.{Rest, rest_start, rest_low, rest_lt, rest_next, members_more, members_end, trailing_member, clear_lt, has_clear_other}
use Rattle.automaton.specs.Automaton.{Automaton, next, cell}
use Rattle.job.specs.Words.{Spelt, no_word, one_more}
use Rattle.tables.specs.Rows.{CellsBelow, image_of}
use Rattle.tables.specs.Sixteen.{InRows, Sixteen, rows_left, RowJoined}
use Rattle.tables.proofs.RowLaws.{has_image_of, has_nothing}
use Rattle.spelling.specs.Spelling.{CellsAre, PairsOf, AllSpelt, Growing, RowGrown, RowSpelt, Closed}

-- ---- growth

-- no row has grown
pub growing_none : {l : List ℕ} → Sixteen l → Growing l l 0
growing_none s = record {
  sixteen = s;
  held = λ p q h x. x;
  quiet = λ p q h e x. x;
  left = omega arith;
  less = λ ne. absurd (ne refl);
}

-- a number that is not in a union is in neither set
pub not_in_union : (a b p : ℕ) → has (bit_or a b) p ≡ false → (has a p ≡ false) × (has b p ≡ false)
not_in_union a b p e = (
  fails_of (has a p) (λ x. true≢false (sym (has_or a b p ∙ or_left (has a p) (has b p) x) ∙ e)),
  fails_of (has b p) (λ x. true≢false (sym (has_or a b p ∙ or_right (has a p) (has b p) x) ∙ e)),
)

-- one growth after another
pub growing_both : {l m k : List ℕ} {g h : ℕ} → Growing l m g → Growing m k h → Growing l k (bit_or g h)
growing_both {g = g} {h = h} a b = record {
  sixteen = b.sixteen;
  held = λ p q s x. b.held p q s (a.held p q s x);
  quiet = λ p q s e x. let both = not_in_union g h p e in a.quiet p q s both.0 (b.quiet p q s both.1 x);
  left = omega (arith, a.left, b.left);
  less = λ ne.
      by_cases (ℕ_discrete g 0)
      (λ (e : g ≡ 0).
      by_cases (ℕ_discrete h 0)
      (λ (f : h ≡ 0). absurd (ne (rw (e, f))))
      (λ (f : h ≡ 0 → ⊥). omega (arith, a.left, b.less f)))
      (λ (e : g ≡ 0 → ⊥). omega (arith, a.less e, b.left));
}

-- ---- one row joined

-- it holds the set already
pub row_quiet : {l m : List ℕ} {p s count : ℕ} → RowJoined l m p s count → count ≡ 0 → RowGrown l m p s 0
row_quiet {l} {m} j none = record {
  growing = record {
    sixteen = j.sixteen;
    held = j.held;
    quiet = λ r q h e x. subst (λ (w : List ℕ). InRows w r q) (j.none none) x;
    left = omega (arith, j.left);
    less = λ ne. absurd (ne refl);
  };
  here = j.here;
  new = j.new;
}

-- it grows
pub row_grown
    : {l m : List ℕ} {p s count grown : ℕ} → RowJoined l m p s count → (count ≡ 0 → ⊥) → grown ≡ with 0 p → RowGrown l m p s grown
row_grown {l} {m} {p} {s} {grown = grown} j some is = record {
  growing = record {
    sixteen = j.sixteen;
    held = j.held;
    quiet = λ r q h e x.
        ⊎_elim
        (λ (y : InRows l r q). y)
        (λ (y : (r ≡ p) × (has s q ≡ true)).
        absurd (true≢false (sym (has_with_same 0 p) ∙ ap (λ (z : ℕ). has z p) (sym is) ∙ subst (λ (z : ℕ). has grown z ≡ false) y.0 e)))
        (j.new r q h x);
    left = omega (arith, j.left);
    less = λ ne. omega (arith, j.left);
  };
  here = j.here;
  new = j.new;
}

-- ---- one row moved by each symbol

-- what a symbol that was passed leaves
abbrev pub Passed : List (List ℕ) → List ℕ → List ℕ → ℕ → ℕ → Type 0
Passed table l m p a = (q : ℕ) → InRows l p q → InRows m (cell table p a) (cell table q a)

-- the row was moved by the symbols of the set before those that are left
pub record SpellingRow (table : List (List ℕ)) (l m : List ℕ) (set p rest grown : ℕ) : Type 0 where
  pub passed : ℕ
  pub in_width : passed ≤ 16
  pub left : Rest 16 set rest passed
  pub growing : Growing l m grown
  pub here : (a : ℕ) → a < passed → has set a ≡ true → Passed table l m p a
  pub sound
      : (rule : Automaton) (first : List ℕ) → CellsAre rule table → AllSpelt rule set first l → AllSpelt rule set first m

-- the walk starts with the whole set
pub spelling_start
    : (table : List (List ℕ)) (l : List ℕ) (set p : ℕ) → Sixteen l → set < 2 ^ 16 → SpellingRow table l l set p set 0
spelling_start table l set p s short = record {
  passed = 0;
  in_width = omega arith;
  left = rest_start 16 set short;
  growing = growing_none s;
  here = λ a b. absurd (omega arith);
  sound = λ rule first cells all. all;
}

-- a member of a row of two bytes is below 16
pub row_member : {rows : List ℕ} (p q : ℕ) → Sixteen rows → InRows rows p q → q < 16
row_member {rows} p q s h = has_below 16 (get_or rows p 0) q (s.small p) h

module _ {table : List (List ℕ)} {l m : List ℕ} {set p rest grown a state s moved : ℕ} (sixteen : Sixteen l) (cells : CellsBelow table)
    (row : p < 16) (inv : SpellingRow table l m set p rest grown) (more : 0 < rest) (low : a ≡ count_trailing_zeros 16 rest)
    (row_is : s ≡ get_or l p 0) (to : state ≡ cell table p a) (image : moved ≡ image_of table a s) where
  -- the symbol is below 16
  pub symbol_small : a < 16
  symbol_small = rw low (rest_lt inv.left more)

  -- and one of the set
  symbol_of_set : has set a ≡ true
  symbol_of_set = rw low (rest_low inv.left more)

  -- one symbol more
  pub spelling_more
      : (m' : List ℕ) (rest' grew : ℕ) → RowGrown m m' state moved grew → rest' ≡ bit_and rest (rest - 1)
      → SpellingRow table l m' set p rest' (bit_or grown grew)
  spelling_more m' rest' grew joined without = record {
    passed = count_trailing_zeros 16 rest + 1;
    in_width = omega (arith, rest_lt inv.left more);
    left = rw without (rest_next inv.left more);
    growing = growing_both inv.growing joined.growing;
    here = members_more inv.left (Passed table l m' p) more kept (subst (Passed table l m' p) low now);
    sound = λ rule first are all r q h x.
        ⊎_elim
        (λ (y : InRows m r q). inv.sound rule first are all r q h y)
        (λ (y : (r ≡ state) × (has moved q ≡ true)). spelt rule first are all r q y.0 y.1)
        (joined.new r q h x);
  }
    where
      kept : (i : ℕ) → i < inv.passed → has set i ≡ true → Passed table l m' p i
      kept i b h q g = joined.growing.held (cell table p i) (cell table q i) (cells p i row (omega (arith, inv.in_width))) (inv.here i b h q g)

      now : Passed table l m' p a
      now q g =
          subst (λ (k : ℕ). InRows m' k (cell table q a)) to
          (joined.here (cell table q a)
          (rw image ((has_image_of table a s (cell table q a)).1 (q, row_member p q sixteen g, (rw row_is g), refl))))

      spelt
          : (rule : Automaton) (first : List ℕ) → CellsAre rule table → AllSpelt rule set first l → (r q : ℕ) → r ≡ state → has moved q ≡ true
          → Spelt rule set (PairsOf first) r q
      spelt rule first are all r q e h =
          let f = (has_image_of table a s q).0 (rw image at h) in
          let from : Spelt rule set (PairsOf first) p f.0 = all p f.0 row (subst (λ (z : ℕ). has z f.0 ≡ true) row_is f.2) in
          let one : r ≡ next rule p a = e ∙ to ∙ are p a row symbol_small in
          let other : q ≡ next rule f.0 a = sym f.3 ∙ are f.0 a f.1 symbol_small in
          subst (λ (z : ℕ). Spelt rule set (PairsOf first) z q) (sym one)
          (subst (λ (z : ℕ). Spelt rule set (PairsOf first) (next rule p a) z) (sym other) (one_more a symbol_of_set from))

-- an empty row leads nowhere
pub spelling_none
    : {table : List (List ℕ)} {l : List ℕ} (set p : ℕ) → Sixteen l → get_or l p 0 ≡ 0 → RowSpelt table l l set p 0
spelling_none set p s none = record {
  growing = growing_none s;
  here = λ a q h g. absurd (has_nothing q none g);
  sound = λ rule first are all. all;
}

-- no symbol is left
pub spelling_end
    : {table : List (List ℕ)} {l m : List ℕ} {set p rest grown : ℕ} → SpellingRow table l m set p rest grown → rest ≡ 0
    → RowSpelt table l m set p grown
spelling_end {table} {l} {m} {p = p} inv none = record {
  growing = inv.growing;
  here = λ a q h g. members_end inv.left (Passed table l m p) none inv.here a h q g;
  sound = inv.sound;
}

-- ---- rows until none is due

-- the rows that are not due are moved by every symbol
pub record Closing (table : List (List ℕ)) (l m : List ℕ) (set due : ℕ) : Type 0 where
  pub sixteen : Sixteen m
  pub short : due < 65536
  pub held : (p q : ℕ) → p < 16 → InRows l p q → InRows m p q
  pub sound : (rule : Automaton) → CellsAre rule table → AllSpelt rule set l m
  pub settled
      : (p q a : ℕ) → p < 16 → has due p ≡ false → has set a ≡ true → InRows m p q → InRows m (cell table p a) (cell table q a)

-- every row below 16 is due at the start
all_due : (p : ℕ) → p < 16 → has 65535 p ≡ true
unfolding all_below has
all_due p h = all_at 16 (has 65535) refl p h

-- before the first
pub closing_start : (table : List (List ℕ)) (l : List ℕ) (set : ℕ) → Sixteen l → Closing table l l set 65535
closing_start table l set s = record {
  sixteen = s;
  short = omega arith;
  held = λ p q h x. x;
  sound = λ rule are p q h x. no_word (h, x);
  settled = λ p q a h e. absurd (true≢false (sym (all_due p h) ∙ e));
}

-- the row that is due first is one of sixteen
pub due_small
    : {table : List (List ℕ)} {l m : List ℕ} {set due p : ℕ} → Closing table l m set due → 0 < due → p ≡ count_trailing_zeros 16 due → p < 16
due_small {due = due} inv more low =
    rw low (has_below 16 due (count_trailing_zeros 16 due) inv.short (trailing_member 16 due more inv.short))

module _ {table : List (List ℕ)} {l m k : List ℕ} {set due p less grown : ℕ} (inv : Closing table l m set due) (cells : CellsBelow table)
    (symbols : set < 65536) (more : 0 < due) (low : p ≡ count_trailing_zeros 16 due) (without : less ≡ bit_and due (due - 1))
    (row : RowSpelt table m k set p grown) (short : grown < 65536) where
  -- one row more
  pub closing_more : Closing table l k set (bit_or less grown)
  closing_more = record {
    sixteen = row.growing.sixteen;
    short = or_lt 16 less grown (omega (arith, clear_lt due more, inv.short)) short;
    held = λ r q h x. row.growing.held r q h (inv.held r q h x);
    sound = λ rule are. row.sound rule l are (inv.sound rule are);
    settled = λ r q a h e g x.
        let both = not_in_union less grown r e in
        let was : InRows m r q = row.growing.quiet r q h both.1 x in
        by_cases (ℕ_discrete r p)
        (λ (here : r ≡ p).
        subst (λ (z : ℕ). InRows k (cell table z a) (cell table q a)) (sym here)
        (row.here a q g (subst (λ (z : ℕ). InRows m z q) here was)))
        (λ (there : r ≡ p → ⊥).
        row.growing.held (cell table r a) (cell table q a) (cells r a h (has_below 16 set a symbols g))
        (inv.settled r q a h
        (sym (has_clear_other 16 due r more inv.short (λ z. there (z ∙ sym low)))
        ∙ ap (λ (z : ℕ). has z r) (sym without) ∙ both.0)
        g was));
  }

  -- less is left
  pub closing_less : 65536 * rows_left k + bit_or less grown < 65536 * rows_left m + due
  closing_less =
      by_cases (ℕ_discrete grown 0)
      (λ (e : grown ≡ 0).
      let same : bit_or less grown ≡ less = rw e (or_zero_r less) in
      omega (arith, row.growing.left, clear_lt due more))
      (λ (ne : grown ≡ 0 → ⊥). omega (arith, row.growing.less ne, closing_more.short))

-- rows that are closed hold what words lead to
words_whole
    : (table : List (List ℕ)) (l m : List ℕ) {set : ℕ} (rule : Automaton) → CellsAre rule table → CellsBelow table → set < 65536 → Sixteen m
    → ((p q : ℕ) → p < 16 → InRows l p q → InRows m p q)
    → ((p q a : ℕ) → p < 16 → has set a ≡ true → InRows m p q → InRows m (cell table p a) (cell table q a))
    → {p q : ℕ} → Spelt rule set (PairsOf l) p q → PairsOf m p q
words_whole table l m rule are cells symbols s held closed (no_word {p = p} {q = q} h) = (h.0, held p q h.0 h.1)
words_whole table l m {set} rule are cells symbols s held closed (one_more a {p = p} {q = q} h w) =
    let f = words_whole table l m rule are cells symbols s held closed w in
    let small : a < 16 = has_below 16 set a symbols h in
    let here : InRows m (cell table p a) (cell table q a) = closed p q a f.0 h f.1 in (
      subst (λ (z : ℕ). z < 16) (are p a f.0 small) (cells p a f.0 small),
      subst (λ (z : ℕ). InRows m z (next rule q a)) (are p a f.0 small)
          (subst (λ (z : ℕ). InRows m (cell table p a) z) (are q a (row_member p q s f.1) small) here),
    )

-- no row is due
pub Closing-End
    : {table : List (List ℕ)} {l m : List ℕ} {set due : ℕ} → CellsBelow table → set < 65536 → Closing table l m set due → due ≡ 0
    → Closed table l m set
Closing-End {table} {l} {m} cells symbols inv none = record {
  sixteen = inv.sixteen;
  sound = inv.sound;
  whole = λ rule are p q w.
      words_whole table l m rule are cells symbols inv.sixteen inv.held
      (λ r t a h g x. inv.settled r t a h (ap (λ (z : ℕ). has z r) none ∙ has_empty r) g x) w;
}

-- over the empty set there is the empty word alone
pub closed_none : {table : List (List ℕ)} {l : List ℕ} {set : ℕ} → Sixteen l → set ≡ 0 → Closed table l l set
closed_none {l = l} {set = set} s none = record {
  sixteen = s;
  sound = λ rule are p q h x. no_word (h, x);
  whole = λ rule are p q w. go w;
}
  where
    go : {rule : Automaton} {p q : ℕ} → Spelt rule set (PairsOf l) p q → PairsOf l p q
    go (no_word h) = h
    go (one_more a h w) = absurd (has_nothing a none h)
