-- The table of the buffer is the rule of the job that it holds, on every cell that has a meaning.
-- Assumes nothing.
use mathlib.Core.Path.{◌≡◌, refl, sym, ap, ◌∙◌}
use mathlib.Core.List.{List, []}
use Prim.Native.Nat.{ℕ, ◌<◌}
use native.Mathlib.Omega.{arith}
use lib.ListN.{get_or}
use Rattle.laws.specs.Bounded.{tab}
use Rattle.laws.proofs.Bounded.{get_d_tab}
use Rattle.automaton.specs.Automaton.{cell}
use Rattle.buffer.specs.Views.{cell_in, table_in}
use Rattle.buffer.proofs.ViewLaws.{rule_cell}
use Rattle.jobreader.specs.Rule.{HandsOverRule}

-- a cell of the job's table
job_cell : (work : List ℕ) (s a q c : ℕ) → q < s → c < a → cell (table_in work s a) q c ≡ cell_in work q c
unfolding cell table_in
job_cell work s a q c h k =
    ap (λ (r : List ℕ). get_or r c 0) (get_d_tab s (λ (p : ℕ). tab a (cell_in work p)) q [] h) ∙ get_d_tab a (cell_in work q) c 0 k

-- the table handed over is the job's rule but for cells past S or A
pub rule_held : HandsOverRule
rule_held work h few less =
    record {
      states = refl;
      symbols = refl;
      finals = refl;
      cells = λ q a k m. job_cell work h.states h.symbols q a k m ∙ sym (rule_cell work q a (omega arith) (omega arith));
    }
