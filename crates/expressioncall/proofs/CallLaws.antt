-- The ways out of the call for an expression, in the shape of its code: what is read is within or outside, and the cells of a finished search are
-- the rule's bytes.
-- Assumes nothing.
use Rattle.std.specs.Prelude.{Result, Ok, Err}
use mathlib.Core.Path.{◌≡◌, refl, sym, ◌∙◌, subst}
use mathlib.Core.Logic.{inl, inr, by_cases}
use mathlib.Core.List.{List}
use Prim.Native.Nat.{ℕ, ◌+◌, ◌*◌, ◌≤◌, ◌<◌}
use native.Mathlib.Decide.{dec_lt}
use native.Mathlib.Omega.{arith}
use lib.ListN.{length, get_or, replicate, length-replicate}
use Rattle.automaton.specs.Automaton.{Automaton, cell}
use Rattle.automaton.specs.Table.{table_of, cell_byte, rule_bytes}
use Rattle.automaton.specs.Made.{Made, makes, refuses, made_after}
use Rattle.automaton.proofs.TableLaws.{table_cell}
use Rattle.automaton.proofs.RuleBytesLaws.{cell_byte_at, cell_byte_past, bytes_are_rule}
use Rattle.lines.proofs.LinesLaws.{zeros_at}
use Rattle.expression.specs.Expression.{Expr}
use Rattle.expression.specs.Grammar.{choice, Spells, TextOf}
use Rattle.expression.proofs.GrammarLaws.{grammar_says}
use Rattle.expressionparts.specs.declared.part.Part.{Part}
use Rattle.expressionparts.specs.Reading.{Shown}
use Rattle.rulevalue.specs.declared.WithTable.{WithTable}
use Rattle.expressionrule.specs.ExpressionRule.{Outside, Within, ExpressionMakes, other_length, outside, many, made, expression_answer, expression_value, AnswersExpression, ValuesExpression}
use Rattle.expressionrule.specs.Numbering.{Growing, ReadAs, AllDone, FinalsOf}
use Rattle.expressionrule.proofs.GrowLaws.{growing_none}
use Rattle.expressionrule.proofs.DoneLaws.{rule_of_cells, cells_same, done_rule, many_states}
use Rattle.expressionrule.proofs.MadeBy.{within, made_by, made_by_lem}
use Rattle.expressioncall.specs.Inner.{NumbersAs, too_many, numbered, Numbers}
use Rattle.expressionrule.specs.declared.answer.Met.{Met}

-- ---- the rule buffer

-- the cells of a finished search are the rule's bytes: they are zero past S or A
cells_are_bytes
    : (a : ℕ) (t : List ℕ) (e : Expr) (sets cells : List ℕ) (count finals : ℕ) → a ≤ 16 → Growing a t e sets cells count (count * 16)
    → cells ≡ rule_bytes (rule_of_cells cells count a finals)
cells_are_bytes a t e sets cells count finals few g = bytes_are_rule cells m g.linked.wide each
  where
    m : Automaton
    m = rule_of_cells cells count a finals

    past : (q s : ℕ) → s < 16 → (s < a → count ≤ q) → get_or cells (q * 16 + s) 0 ≡ 0
    past q s l h = g.linked.empty q s l (λ k. omega (arith, h k))

    each : (q s : ℕ) → q < 16 → s < 16 → cell (table_of cells) q s ≡ cell_byte m q s
    each q s h l =
        table_cell cells q s h l
        ∙ by_cases (dec_lt q count)
        (λ (b : q < count).
        by_cases (dec_lt s a) (λ (d : s < a). sym (cell_byte_at m q s b d ∙ cells_same cells count a q s b d))
        (λ (d : s < a → ⊥). past q s l (λ k. absurd (d k)) ∙ sym (cell_byte_past m q s (inr (omega (arith, d))))))
        (λ (b : q < count → ⊥). past q s l (λ k. omega (arith, b)) ∙ sym (cell_byte_past m q s (inl (omega (arith, b)))))

-- ---- the search

module _ (a : ℕ) (t f : List ℕ) (firsts lasts : ℕ) (before sets cells : List ℕ) (n : ℕ) (few : a ≤ 16)
    (d : AllDone a t f firsts (replicate 16 0) (replicate 256 0) sets cells n) where
  -- it begins with no set and no cell
  begun : (e : Expr) → Growing a t e (replicate 16 0) (replicate 256 0) 1 0
  begun e =
      growing_none a t e (replicate 16 0) (replicate 256 0) (length-replicate {A = ℕ} 16 0) (length-replicate {A = ℕ} 256 0)
      (zeros_at 256)

  -- a seventeenth state
  pub numbers_many : n ≡ 17 → Numbers a t f firsts lasts before before (Err 21)
  numbers_many h e read ends = too_many (many_states a t e read.spelt (d.many e read (begun e) h)) refl

  -- the rule
  pub numbers_rule
      : (n ≡ 17 → ⊥) → (finals : ℕ) → FinalsOf lasts sets n finals → (after : List ℕ) → after ≡ cells
      → Numbers a t f firsts lasts before after (Ok (record { states = n; finals = finals }))
  numbers_rule h finals final after copied e read ends =
      let g = d.grown e read (begun e) (omega (arith, h, d.most)) in
      numbered {m = rule_of_cells cells n a finals}
      (done_rule a t e sets cells n finals few g (subst (λ (l : ℕ). FinalsOf l sets n finals) ends final) read.spelt)
      (copied ∙ cells_are_bytes a t e sets cells n finals few g)

-- ---- the ways out

module _ (t : List ℕ) (a : ℕ) (before : List ℕ) where
  -- 13
  pub takes_other_length : (length before ≡ 256 → ⊥) → AnswersExpression t a before before (Err 13)
  takes_other_length h = record { made = refuses 13; makes = other_length h; answer = refl; buffer = refl }

  module _ (same : length before ≡ 256) where
    -- 20
    pub takes_outside : Outside t a → AnswersExpression t a before before (Err 20)
    takes_outside o = record { made = refuses 20; makes = outside same o; answer = refl; buffer = refl }

    module _ (some : 1 ≤ a) (few : a ≤ 16) (short : length t ≤ 64) where
      -- one that spells none is outside
      pub takes_nothing : ((e : Expr) → TextOf a t e → ⊥) → AnswersExpression t a before before (Err 20)
      takes_nothing none = takes_outside (go (made_by t a 256) (made_by_lem t a 256))
        where
          spelt : (e : Expr) → Within t a e → TextOf a t e
          spelt e w =
              grammar_says.all_letters a t e few w.spelt
              (λ i l. record { low = l.low; high = omega (arith, l.low, w.letters i l) })

          go : (x : Made) → ExpressionMakes t a 256 x → Outside t a
          go x (other_length h) = absurd (h refl)
          go x (outside h o) = o
          go x (many {e = e} h w y) = absurd (none e (spelt e w))
          go x (made {e = e} h w r) = absurd (none e (spelt e w))

      -- what was read of the text
      read_as : (f₀ f : List ℕ) (d : Part) → length t ≤ length f → (s : Shown a t choice 0 f₀ f d) → d.end ≡ length t → ReadAs a t s.expr d.first f
      read_as f₀ f d room s ends =
          record {
            spelt = subst (λ (n : ℕ). Spells a t choice 0 n s.expr) ends s.spelt;
            start = s.firsts;
            room = room;
            follows = s.follows;
          }

      -- the rule, or 21
      pub takes_read
          : (f₀ f : List ℕ) (d : Part) → length t ≤ length f → Shown a t choice 0 f₀ f d → d.end ≡ length t → (after : List ℕ) (r : Result Met ℕ)
          → Numbers a t f d.first d.last before after r → AnswersExpression t a before after r
      takes_read f₀ f d room s ends after r numbers =
          go (numbers s.expr (read_as f₀ f d room s ends) s.lasts)
        where
          go : {x : Result Met ℕ} → NumbersAs a t s.expr before after x → AnswersExpression t a before after x
          go (too_many y b) =
              record { made = refuses 21; makes = many same (within t a s.expr some few short (read_as f₀ f d room s ends).spelt) y; answer = refl; buffer = b }
          go (numbered {m = m} y b) =
              record { made = makes m; makes = made same (within t a s.expr some few short (read_as f₀ f d room s ends).spelt) y; answer = refl; buffer = b }

-- ---- by value

-- the rule buffer is a table of zeros before the call
pub value_of_lem
    : (t table : List ℕ) (a : ℕ) (r : Result Met ℕ) → AnswersExpression t a (replicate 256 0) table r
    → ValuesExpression t a (record { answer = r; table = table })
value_of_lem t table a r x =
    record {
      made = x.made;
      makes = subst (λ (n : ℕ). ExpressionMakes t a n x.made) (length-replicate {A = ℕ} 256 0) x.makes;
      value = is x.made x.answer x.buffer;
    }
  where
    is : (y : Made) → r ≡ expression_answer y → table ≡ made_after y (replicate 256 0) → ◌≡◌ {A = WithTable (Result Met ℕ)} (record { answer = r; table = table }) (expression_value y)
    is (makes m) e b = rw (e, b) refl
    is (refuses k) e b = rw (e, b) refl
