-- The whole table of the rule has the cells that the buffer holds.
-- Assumes nothing.
use mathlib.Core.Path.{◌≡◌, sym, ap, ◌∙◌}
use mathlib.Core.List.{List}
use Prim.Native.Nat.{ℕ, ◌+◌, ◌*◌, ◌<◌}
use native.Mathlib.Nat.{add_assoc}
use native.Mathlib.Omega.{arith}
use lib.ListN.{get_or, take, drop}
use lib.Seq.{get_or-take, get_or-drop}
use Rattle.automaton.specs.Automaton.{cell}
use Rattle.automaton.proofs.TableLaws.{table_cell}
use Rattle.buffer.specs.Layout.{rule_part}
use Rattle.buffer.specs.Views.{cell_in, rule_rows_in}

-- a cell of the whole table
pub rule_cell : (work : List ℕ) (q a : ℕ) → q < 16 → a < 16 → cell (rule_rows_in work) q a ≡ cell_in work q a
unfolding rule_rows_in cell_in
rule_cell work q a h k =
    table_cell (take 256 (drop rule_part work)) q a h k
    ∙ get_or-take 256 (drop rule_part work) (q * 16 + a) 0 (omega arith)
    ∙ get_or-drop rule_part work (q * 16 + a) 0
    ∙ ap (λ (i : ℕ). get_or work i 0) (sym (add_assoc rule_part (q * 16) a))
