-- Laws of the marks of a row, state by state, in the shape of the code.
-- Assumes nothing.
use mathlib.Core.Path.{◌≡◌, refl, sym, ap, ◌∙◌}
use mathlib.Core.Bool.{true, false, true≢false}
use mathlib.Core.Logic.{◌⊎◌, inl, inr, ⊎_elim, by_cases}
use mathlib.Core.List.{List}
use Prim.Native.Nat.{ℕ, ◌+◌, ◌*◌, ◌-◌, ◌≤◌, ◌<◌}
use native.Mathlib.Decide.{dec_lt}
use native.Mathlib.Omega.{arith}
use lib.ListN.{length, get_or}
use Rattle.rulerows.specs.declared.rows.Row.{Row}
use Rattle.rulerows.specs.RowsSay.{Names}
use Rattle.rulerows.specs.Inner.{RowFits, Marked, mark_at, RowMarked}

-- ---- some states

-- a pair of the states from the first to before q and the symbols from the first to before `stop`
pub record Inside (from q first stop p c : ℕ) : Type 0 where
  pub low : from ≤ p
  pub high : p < q
  pub left : first ≤ c
  pub right : c < stop

-- the marks m are l with this mark at those pairs, which had none
pub record Block (l m : List ℕ) (from q first stop mark : ℕ) : Type 0 where
  pub free : (p c : ℕ) → Inside from q first stop p c → mark_at l p c ≡ 0
  pub marked : (p c : ℕ) → Inside from q first stop p c → mark_at m p c ≡ mark
  pub others : (p c : ℕ) → c < 16 → (Inside from q first stop p c → ⊥) → mark_at m p c ≡ mark_at l p c

module _ (l : List ℕ) (from first stop mark : ℕ) where
  -- no state yet
  pub block_none : Block l l from from first stop mark
  block_none = record {
    free = λ p c i. absurd (omega arith);
    marked = λ p c i. absurd (omega arith);
    others = λ p c h o. refl;
  }

  module _ (edge : stop ≤ 16) (m : List ℕ) (q : ℕ) (e : Block l m from q first stop mark) where
    -- the next state's pairs are as they were
    block_next : (c : ℕ) → c < 16 → mark_at m q c ≡ mark_at l q c
    block_next c h = e.others q c h (λ i. absurd (omega arith))

    -- a pair of one state more is of those before, or of that one
    state_or_before : (p c : ℕ) → Inside from (q + 1) first stop p c → Inside from q first stop p c ⊎ (p ≡ q)
    state_or_before p c i =
        by_cases (dec_lt p q) (λ h. inl (record { low = i.low; high = h; left = i.left; right = i.right }))
        (λ h. inr (omega arith))

    -- a place of another pair is before or past the places of that state
    apart
        : (p c : ℕ) → c < 16 → from ≤ q → (Inside from (q + 1) first stop p c → ⊥)
        → (p * 16 + c < q * 16 + first) ⊎ (q * 16 + stop ≤ p * 16 + c)
    apart p c h low o =
        by_cases (dec_lt (p * 16 + c) (q * 16 + first)) inl
        (λ g. by_cases (dec_lt (p * 16 + c) (q * 16 + stop))
        (λ b. absurd (o (record { low = omega arith; high = omega arith; left = omega arith; right = omega arith }))) (λ b. inr (omega arith)))

    -- one state more
    pub block_more : (n : List ℕ) → from ≤ q → Marked m n (q * 16 + first) (q * 16 + stop) mark → Block l n from (q + 1) first stop mark
    block_more n low s = record {
      free = λ p c i.
          ⊎_elim (λ (b : Inside from q first stop p c). e.free p c b)
          (λ (g : p ≡ q). rw g (sym (block_next c (omega arith)) ∙ s.free (q * 16 + c) (omega arith) (omega arith)))
          (state_or_before p c i);
      marked = λ p c i.
          ⊎_elim
          (λ (b : Inside from q first stop p c). s.others (p * 16 + c) (inl (omega arith)) ∙ e.marked p c b)
          (λ (g : p ≡ q). rw g (s.marked (q * 16 + c) (omega arith) (omega arith)))
          (state_or_before p c i);
      others = λ p c h o.
          s.others (p * 16 + c) (apart p c h low o)
          ∙ e.others p c h (λ i. o (record { low = i.low; high = omega arith; left = i.left; right = i.right }));
    }

    -- a mark is met at a place of that state
    pub block_met : (i : ℕ) → q * 16 + first ≤ i → i < q * 16 + stop → (get_or m i 0 ≡ 0 → ⊥) → mark_at l q (i - q * 16) ≡ 0 → ⊥
    block_met i low high some z =
        let place : q * 16 + (i - q * 16) ≡ i = omega arith in
        some (ap (λ (k : ℕ). get_or m k 0) (sym place) ∙ block_next (i - q * 16) (omega arith) ∙ z)

-- ---- a row

-- a pair of the states before q that the row names, if q is not past its last
abbrev pub Reached : Row → ℕ → ℕ → ℕ → Type 0
Reached row q = Inside row.states.first q row.symbols.first (row.symbols.last + 1)

-- the marks m are l with the row's mark at those pairs, which had none
abbrev pub RowBlock : Row → List ℕ → List ℕ → ℕ → Type 0
RowBlock row l m q = Block l m row.states.first q row.symbols.first (row.symbols.last + 1) (row.next + 1)

-- past the last state every pair that the row names is reached
reached : (row : Row) (q p c : ℕ) → row.states.last < q → Names row p c → Reached row q p c
reached row q p c past n = record { low = n.from_state; high = omega arith; left = n.from_symbol; right = omega arith }

-- and no other
named
    : (row : Row) (q p c : ℕ) → q ≤ row.states.last + 1 + (row.states.first - (row.states.last + 1)) → Reached row q p c → Names row p c
named row q p c end i = record { from_state = i.low; to_state = omega arith; from_symbol = i.left; to_symbol = omega arith }

module _ (row : Row) (l m : List ℕ) (long : length m ≡ 256) (q : ℕ) where
  -- every state of it
  pub row_done
      : row.states.last < q → q ≤ row.states.last + 1 + (row.states.first - (row.states.last + 1)) → RowBlock row l m q
      → RowMarked row l m true
  row_done past end e = record {
    long = long;
    free = λ t p c h n. e.free p c (reached row q p c past n);
    marked = λ t p c h n. e.marked p c (reached row q p c past n);
    others = λ t p c h o. e.others p c h (λ i. o (named row q p c end i));
    met = λ f. absurd (true≢false f);
  }

  -- a mark is met at a place of state q
  pub row_met
      : (n : List ℕ) → RowFits row → row.states.first ≤ q → q ≤ row.states.last → RowBlock row l n q
      → (i : ℕ) × (q * 16 + row.symbols.first ≤ i) × (i < q * 16 + (row.symbols.last + 1)) × (get_or n i 0 ≡ 0 → ⊥)
      → RowMarked row l m false
  row_met n fits low high e (i, from, to, some) = record {
    long = long;
    free = λ t. absurd (true≢false (sym t));
    marked = λ t. absurd (true≢false (sym t));
    others = λ t. absurd (true≢false (sym t));
    met = λ f. (
      q,
      i - q * 16,
      omega arith,
      record { from_state = low; to_state = high; from_symbol = omega arith; to_symbol = omega arith },
      block_met l _ _ _ _ (omega arith) n q e i from to some,
    );
  }
