-- `exitrows::join_past` meets its contract: an empty row joins nothing, any other is moved past the node.
-- Assumes nothing.
use mathlib.Core.Path.{sym, ◌∙◌}
use native.Mathlib.Omega.{arith}
use Rattle.exitrows.proofs.EndedLaws.{past_empty, past_below, past_joined}
use Rattle.exitrows.proofs.join_past.Goals as goal

pub returns-then-s-eq0 : goal.returns-then-s-eq0
returns-then-s-eq0 c = past_empty c.requires.0 c.pair_row-s.ensures c.if-s-eq0.true

pub join_row-requires : goal.join_row-requires
join_row-requires c =
    let pre = c.requires in (
      pre.0,
      past_below
          (record {
            cells = pre.1.1.1.1;
            row = pre.1.1.1.0;
            short = omega arith;
            some = omega arith;
            row_is = c.pair_row-s.ensures;
            event_is = c.is_shadow.result;
            symbol = c.symbol_at.result;
            enabled = c.is_enabled.result;
            event_says = c.is_shadow.ensures;
            symbol_small = c.symbol_at.ensures.0;
            symbol_says = c.symbol_at.ensures.1;
            enabled_says = c.is_enabled.ensures;
            past_is = c.past_row-past.ensures;
          }),
    )

pub shape_of-rows : goal.shape_of-rows
shape_of-rows c = c.join_row.ensures.sixteen.long ∙ sym c.requires.0.long

pub returns : goal.returns
returns c =
    let pre = c.requires in
    past_joined
    (record {
      cells = pre.1.1.1.1;
      row = pre.1.1.1.0;
      short = omega arith;
      some = omega arith;
      row_is = c.pair_row-s.ensures;
      event_is = c.is_shadow.result;
      symbol = c.symbol_at.result;
      enabled = c.is_enabled.result;
      event_says = c.is_shadow.ensures;
      symbol_small = c.symbol_at.ensures.0;
      symbol_says = c.symbol_at.ensures.1;
      enabled_says = c.is_enabled.ensures;
      past_is = c.past_row-past.ensures;
    })
    c.join_row.ensures
