-- A file of numbered lines, read line by line: another length, a line that does not pass, all lines.
-- Assumes nothing.
use Rattle.std.specs.Prelude.{Some, None}
use mathlib.Core.Path.{◌≡◌, ap, ◌∙◌}
use mathlib.Core.List.{List, []}
use Prim.Native.Nat.{ℕ, ◌*◌, ◌≤◌, ◌<◌}
use native.Mathlib.Omega.{arith}
use lib.ListN.{length, drop, drop_of_length-le, length-map, get_or-map}
use Rattle.laws.specs.Bounded.{tab}
use Rattle.laws.proofs.Bounded.{length_tab, get_d_tab, fill_done}
use Rattle.lines.specs.Line.{at, line_of}
use Rattle.lines.specs.Lines.{lines}
use Rattle.lines.specs.Places.{due_at, numbers_at, before_at, status_at}
use Rattle.lines.proofs.LinesLaws.{lines_all, lines_stop}
use Rattle.lines.proofs.AlikeLaws.{stand_length}
use Rattle.pricing.specs.Numbered.{numbered_line, column, not_these_lines, numbers_in, column_read, column_in}
use Rattle.pricing.specs.Inner.{number_due}
use Rattle.pricing.proofs.NumberedLaws.{no_column_says, column_refused, due_number, due_none}

module _ (letter limit refusal : ℕ) (file : List ℕ) where
  -- the number in the line of a place
  abbrev pub number_at : ℕ → ℕ
  number_at n = at (numbers_at (numbered_line letter limit refusal) file n) 1

  -- the lines of the first n places pass
  abbrev pub Passed : ℕ → Type 0
  Passed n = (k : ℕ) → k < n → status_at (numbered_line letter limit refusal) file k ≡ 0

  -- a line that passes, and its number
  pub line_passes
      : (n v : ℕ) → number_due limit n (line_of letter 2 (drop (n * 14) file)) ≡ Some v
      → (status_at (numbered_line letter limit refusal) file n ≡ 0) × (number_at n ≡ v) × (v ≤ limit)
  unfolding status_at due_at numbers_at
  line_passes n v e =
      due_number letter limit refusal n (before_at (numbered_line letter limit refusal) file n) (line_of letter 2 (drop (n * 14) file)) v e

  module _ (c : ℕ) where
    -- another length
    pub column_length : (length file ≡ c * 14 → ⊥) → column_in (numbered_line letter limit refusal) c file ≡ not_these_lines
    column_length h =
        (no_column_says (numbered_line letter limit refusal) c file).1
        (λ numbers f.
        h (omega (arith, stand_length (numbered_line letter limit refusal) f.lines file [] f.stand.stand, f.stand.count)))

    module _ (some : 0 < refusal) where
      -- a line that does not pass
      pub column_stop
          : (n : ℕ) → n < c → Passed n → number_due limit n (line_of letter 2 (drop (n * 14) file)) ≡ None
          → column_in (numbered_line letter limit refusal) c file ≡ not_these_lines
      unfolding status_at due_at
      column_stop n l passed none =
          let bad =
          due_none letter limit refusal n (before_at (numbered_line letter limit refusal) file n) (line_of letter 2 (drop (n * 14) file)) some none in
          column_refused (numbered_line letter limit refusal) c file _
          (lines_stop (numbered_line letter limit refusal) file c n some l passed bad)

      -- all lines
      pub column_all
          : length file ≡ c * 14 → Passed c → column_in (numbered_line letter limit refusal) c file ≡ column (tab c number_at)
      unfolding column_in
      column_all long passed =
          let k = numbered_line letter limit refusal in
          let ls = tab c (numbers_at k file) in
          let none : drop (c * 14) file ≡ [] = drop_of_length-le file {i = c * 14} (omega arith) in
          let numbers : numbers_in ls ≡ tab c number_at =
          fill_done (numbers_in ls) c number_at 0
          (length-map ls (λ (ns : List ℕ). at ns 1) ∙ length_tab c (numbers_at k file))
          (λ i l. get_or-map (λ (ns : List ℕ). at ns 1) ls i [] ∙ ap (λ (ns : List ℕ). at ns 1) (get_d_tab c (numbers_at k file) i [] l)) in
          ap column_read (lines_all k file c some passed ∙ ap (lines ls) none) ∙ ap column numbers
