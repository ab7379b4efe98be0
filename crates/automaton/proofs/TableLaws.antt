-- Laws of the table that 256 bytes spell: its cells, and that it has sixteen rows of sixteen.
-- Assumes nothing.
use mathlib.Core.Path.{◌≡◌, ap, ◌∙◌}
use mathlib.Core.List.{List, []}
use Prim.Native.Nat.{ℕ, ◌+◌, ◌*◌, ◌<◌}
use lib.ListN.{length, get_or}
use Rattle.laws.proofs.Bounded.{get_d_tab, length_tab}
use Rattle.automaton.specs.Automaton.{cell}
use Rattle.automaton.specs.Table.{row_of, table_of}

-- a cell
pub table_cell : (l : List ℕ) (q a : ℕ) → q < 16 → a < 16 → cell (table_of l) q a ≡ get_or l (q * 16 + a) 0
unfolding cell table_of row_of
table_cell l q a h k =
    ap (λ (r : List ℕ). get_or r a 0) (get_d_tab 16 (λ (p : ℕ). row_of l (p * 16)) q [] h)
    ∙ get_d_tab 16 (λ (c : ℕ). get_or l (q * 16 + c) 0) a 0 k

-- sixteen rows
pub table_rows : (l : List ℕ) → length (table_of l) ≡ 16
unfolding table_of
table_rows l = length_tab 16 (λ (q : ℕ). row_of l (q * 16))

-- of sixteen
pub table_columns : (l : List ℕ) (q : ℕ) → q < 16 → length (get_or (table_of l) q []) ≡ 16
unfolding table_of row_of
table_columns l q h =
    ap length (get_d_tab 16 (λ (p : ℕ). row_of l (p * 16)) q [] h) ∙ length_tab 16 (λ (a : ℕ). get_or l (q * 16 + a) 0)
