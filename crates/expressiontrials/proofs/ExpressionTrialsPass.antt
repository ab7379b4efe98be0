-- The calls of the table are answered as they should be: what is made is computed, row by row, and is the answer by `made_by_lem`.
-- Assumes nothing.
use mathlib.Core.Path.{refl, sym, subst}
use mathlib.Core.List.{List}
use Prim.Native.Nat.{ℕ}
use lib.ListN.{length}
use Rattle.laws.specs.Bits.{has}
use Rattle.laws.specs.Bounded.{tab_from, tab}
use Rattle.automaton.specs.Automaton.{cell}
use Rattle.automaton.specs.Table.{cell_byte, rule_bytes}
use Rattle.expression.specs.Masks.{places_of}
use Rattle.expression.proofs.Reader.{is_letter_at, begins_at, star_if, stars_on, close_if, close_after, piece_if, then_after, row_if, row_after, or_after, choice_if, choice_after, read_at, end_if, end_after, text_read}
use Rattle.expressionrule.proofs.DoneLaws.{table_of_cells}
use Rattle.expressionrule.proofs.Search.{known_letter, known_then, known_or, known_star, known_of, down_from, union_down, next_places, seek_if, seek, cell_if, cell_on, row_from, rows_after, rows_if, rows_from, search_by, search_of}
use Rattle.expressionrule.proofs.MadeBy.{ends_at, finals_below, made_of_search, made_of_reading, made_if, made_if_long, made_by, made_by_lem}
use Rattle.expressiontrials.specs.ExpressionTrials.{ExpressionTrial, MadeSo, MakesSo, AllMade, done, ◌and◌, rows_of, expression_trials}

-- a call is answered by the length of its rule buffer
makes_so : {t : ExpressionTrial} → ((rule : List ℕ) → MadeSo t (made_by t.text t.symbols t.rule) rule) → MakesSo t
makes_so {t} so rule long =
    record {
      made = made_by t.text t.symbols (length rule);
      makes = made_by_lem t.text t.symbols (length rule);
      so = subst (λ (n : ℕ). MadeSo t (made_by t.text t.symbols n) rule) (sym long) (so rule);
    }

-- all calls, in the order of the table
pub expression_trials_pass : AllMade expression_trials
unfolding expression_trials rows_of has tab_from tab cell cell_byte rule_bytes places_of is_letter_at begins_at star_if stars_on close_if close_after piece_if then_after row_if row_after or_after choice_if choice_after read_at end_if end_after text_read table_of_cells known_letter known_then known_or known_star known_of down_from union_down next_places seek_if seek cell_if cell_on row_from rows_after rows_if rows_from search_by search_of ends_at finals_below made_of_search made_of_reading made_if made_if_long made_by
expression_trials_pass =
    makes_so (λ rule. record { number = refl; left = refl; beside = refl })
    and makes_so (λ rule. record { number = refl; left = refl; beside = refl })
    and makes_so (λ rule. record { number = refl; left = refl; beside = refl })
    and makes_so (λ rule. record { number = refl; left = refl; beside = refl })
    and makes_so (λ rule. record { number = refl; left = refl; beside = refl })
    and makes_so (λ rule. record { number = refl; left = refl; beside = refl })
    and makes_so (λ rule. record { number = refl; left = refl; beside = refl })
    and makes_so (λ rule. record { number = refl; left = refl; beside = refl })
    and makes_so (λ rule. record { number = refl; left = refl; beside = refl })
    and makes_so (λ rule. record { number = refl; left = refl; beside = refl })
    and makes_so (λ rule. record { number = refl; left = refl; beside = refl })
    and makes_so (λ rule. record { number = refl; left = refl; beside = refl })
    and makes_so (λ rule. record { number = refl; left = refl; beside = refl })
    and makes_so (λ rule. record { number = refl; left = refl; beside = refl })
    and makes_so (λ rule. record { number = refl; left = refl; beside = refl })
    and makes_so (λ rule. record { number = refl; left = refl; beside = refl })
    and makes_so (λ rule. record { number = refl; left = refl; beside = refl })
    and makes_so (λ rule. record { number = refl; left = refl; beside = refl })
    and makes_so (λ rule. record { number = refl; left = refl; beside = refl })
    and makes_so (λ rule. record { number = refl; left = refl; beside = refl })
    and makes_so (λ rule. record { number = refl; left = refl; beside = refl })
    and makes_so (λ rule. record { number = refl; left = refl; beside = refl })
    and makes_so (λ rule. record { number = refl; left = refl; beside = refl })
    and makes_so (λ rule. record { number = refl; left = refl; beside = refl })
    and makes_so (λ rule. record { number = refl; left = refl; beside = refl })
    and makes_so (λ rule. record { number = refl; left = refl; beside = refl })
    and makes_so (λ rule. record { number = refl; left = refl; beside = refl })
    and makes_so (λ rule. record { number = refl; left = refl; beside = refl })
    and makes_so (λ rule. record { number = refl; left = refl; beside = refl })
    and makes_so (λ rule. record { number = refl; left = refl; beside = refl })
    and makes_so (λ rule. record { number = refl; left = refl; beside = refl })
    and makes_so (λ rule. record { number = refl; left = refl; beside = refl })
    and makes_so (λ rule. record { number = refl; left = refl; beside = refl })
    and makes_so (λ rule. record { number = refl; left = refl; beside = refl })
    and makes_so (λ rule. record { number = refl; left = refl; beside = refl })
    and makes_so (λ rule. record { number = refl; left = refl; beside = refl })
    and makes_so (λ rule. record { number = refl; left = refl; beside = refl })
    and makes_so (λ rule. record { number = refl; left = refl; beside = refl })
    and makes_so (λ rule. record { number = refl; left = refl; beside = refl })
    and makes_so (λ rule. record { number = refl; left = refl; beside = refl })
    and makes_so (λ rule. record { number = refl; left = refl; beside = refl })
    and makes_so (λ rule. record { number = refl; left = refl; beside = refl })
    and makes_so (λ rule. record { number = refl; left = refl; beside = refl })
    and makes_so (λ rule. record { number = refl; left = refl; beside = refl })
    and makes_so (λ rule. record { number = refl; left = refl; beside = refl })
    and makes_so (λ rule. record { number = refl; left = refl; beside = refl })
    and makes_so (λ rule. record { number = refl; left = refl; beside = refl })
    and makes_so (λ rule. record { number = refl; left = refl; beside = refl })
    and makes_so (λ rule. record { number = refl; left = refl; beside = refl })
    and makes_so (λ rule. record { number = refl; left = refl; beside = refl })
    and makes_so (λ rule. record { number = refl; left = refl; beside = refl })
    and makes_so (λ rule. record { number = refl; left = refl; beside = refl })
    and makes_so (λ rule. record { number = refl; left = refl; beside = refl })
    and makes_so (λ rule. record { number = refl; left = refl; beside = refl })
    and makes_so (λ rule. record { number = refl; left = refl; beside = refl })
    and makes_so (λ rule. record { number = refl; left = refl; beside = refl })
    and makes_so (λ rule. record { number = refl; left = refl; beside = refl })
    and makes_so (λ rule. record { number = refl; left = refl; beside = refl })
    and makes_so (λ rule. record { number = refl; left = refl; beside = refl })
    and makes_so (λ rule. record { number = refl; left = refl; beside = refl })
    and makes_so (λ rule. record { number = refl; left = refl; beside = refl })
    and done
