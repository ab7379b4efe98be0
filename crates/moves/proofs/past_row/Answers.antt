-- `moves::past_row` meets its contract: each way out is one case of the definition.
-- Assumes nothing.
use mathlib.Core.Path.{◌≡◌, sym, ap, ◌∙◌}
use mathlib.Core.Bool.{Bool, true, false}
use mathlib.Core.List.{List}
use Prim.Native.Nat.{ℕ}
use Rattle.laws.specs.Bits.{has}
use Rattle.automaton.specs.Automaton.{cell}
use Rattle.moves.specs.declared.Past.{Past}
use Rattle.tables.specs.Rows.{meets, unlike_states, image_of}
use Rattle.moves.specs.Past.{past_row}
use Rattle.moves.proofs.past_row.Goals as goal

-- a row of these parts
abbrev row : ℕ → ℕ → Bool → Past
row p s d = record { state = p; set = s; differs = d }

module _ (table : List (List ℕ)) (finals : ℕ) (shadow : Bool) (a : ℕ) (enabled : Bool) (p s : ℕ) where
  -- past a node that is no shadow
  plain : shadow ≡ false → row p s false ≡ past_row table finals shadow a enabled p s
  plain e = ap (λ (b : Bool). past_row table finals b a enabled p s) (sym e)

  -- past a shadow
  at_shadow : shadow ≡ true → (b : Bool) → enabled ≡ b → past_row table finals true a b p s ≡ past_row table finals shadow a enabled p s
  at_shadow e b k =
      ap (λ (x : Bool). past_row table finals true a x p s) (sym k) ∙ ap (λ (x : Bool). past_row table finals x a enabled p s) (sym e)

  -- past an enabled shadow
  moved
      : (to image unlike : ℕ) → shadow ≡ true → enabled ≡ true → to ≡ cell table p a → image ≡ image_of table a s
      → unlike ≡ unlike_states finals to → row to image (meets image unlike) ≡ past_row table finals shadow a enabled p s
  moved to image unlike e k next_is image_is unlike_is =
      ap (λ (n : ℕ). row to image (meets image n)) unlike_is
      ∙ ap (λ (n : ℕ). row to n (meets n (unlike_states finals to))) image_is
      ∙ ap (λ (n : ℕ). row n (image_of table a s) (meets (image_of table a s) (unlike_states finals n))) next_is
      ∙ at_shadow e true k

  -- past a disabled one
  stayed
      : (to : ℕ) (d : Bool) → shadow ≡ true → enabled ≡ false → to ≡ cell table p a → d ≡ has finals to
      → row to s d ≡ past_row table finals shadow a enabled p s
  stayed to d e k next_is has_is =
      ap (λ (b : Bool). row to s b) has_is ∙ ap (λ (n : ℕ). row n s (has finals n)) next_is ∙ at_shadow e false k

pub returns-then-not-shadow : goal.returns-then-not-shadow
returns-then-not-shadow c = plain _ _ c.args.shadow _ _ _ _ (c.if-not-shadow.true)

pub returns-then-enabled : goal.returns-then-enabled
returns-then-enabled c =
    let args = c.args in
    moved args.table.now args.finals args.shadow args.a args.enabled args.p args.s
    c.next_state-state.result c.image_under-moved.result c.unlike_states.result
    (c.if-not-shadow.false) c.if-enabled.true
    c.next_state-state.ensures.0 c.image_under-moved.ensures c.unlike_states.ensures

pub returns : goal.returns
returns c =
    let args = c.args in
    stayed args.table.now args.finals args.shadow args.a args.enabled args.p args.s
    c.next_state-state.result c.contains.result
    (c.if-not-shadow.false) c.if-enabled.false
    c.next_state-state.ensures.0 c.contains.ensures
