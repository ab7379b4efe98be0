-- `look::look` meets its contract.
-- No loop: each return is one law of `LookLaws`, from what was read of the row (`RowRead`) and, past the call word, from the row past
-- the node (`RowMoved`).
-- Assumes nothing.
use native.Mathlib.Omega.{arith}
use Rattle.look.proofs.LookLaws.{RowRead, RowMoved, spread_told, look_empty, look_word, look_long, look_small, look_point, look_exit}
use Rattle.look.proofs.look.Goals as goal
use Rattle.look.proofs.look.Goals.{After-call_set-set, After-past_row-moved}

-- what was read of the row
row_read
    : (c : After-call_set-set)
    → RowRead c.args.table.now c.args.work.now c.args.n c.args.p c.pair_row-s.result c.call_set-set.result
row_read c =
    let pre = c.requires in
    record {
      long = pre.0;
      node = pre.1.0;
      row = pre.1.1.0;
      cells = pre.1.1.1;
      short = c.pair_row-s.type_inv;
      some = omega arith;
      row_is = c.pair_row-s.ensures;
      set_is = c.call_set-set.ensures;
    }

-- the row past the node
row_moved
    : (c : After-past_row-moved)
    → RowRead c.args.table.now c.args.work.now c.args.n c.args.p c.pair_row-s.result c.call_set-set.result
    → RowMoved c.args.table.now c.args.finals c.args.work.now c.spread.new.work c.args.n c.args.p c.pair_row-s.result
    c.call_set-set.result c.past_row-moved.result
row_moved c read = record {
  read = read;
  spread = spread_told c.if-spread.false c.spread.ensures;
  event_is = c.is_shadow.result;
  symbol = c.symbol_at.result;
  enabled = c.is_enabled.result;
  event_says = c.is_shadow.ensures;
  symbol_small = c.symbol_at.ensures.0;
  symbol_says = c.symbol_at.ensures.1;
  enabled_says = c.is_enabled.ensures;
  past_is = c.past_row-moved.ensures;
}

pub returns-then-s-eq0 : goal.returns-then-s-eq0
returns-then-s-eq0 c = look_empty _ _ _ _ _ _ c.requires.1.1.0 c.pair_row-s.ensures c.if-s-eq0.true

pub returns-then-spread : goal.returns-then-spread
returns-then-spread c =
    look_word (row_read (goal.at.returns-then-spread c).After-call_set-set)
    (spread_told c.if-spread.true c.spread.ensures)

pub returns-then-moved : goal.returns-then-moved
returns-then-moved c =
    let at = goal.at.returns-then-moved c in
    look_point (row_moved at.After-past_row-moved (row_read at.After-call_set-set)) c.if-moved.true

pub class_row-requires : goal.class_row-requires
class_row-requires c =
    let at = goal.at.class_row-requires c in
    let moved = row_moved at.After-past_row-moved (row_read at.After-call_set-set) in
    (look_long moved, (moved.read.node, look_small moved))

pub returns : goal.returns
returns c =
    let at = goal.at.returns c in
    look_exit (row_moved at.After-past_row-moved (row_read at.After-call_set-set)) _ c.if-moved.false c.class_row.ensures
