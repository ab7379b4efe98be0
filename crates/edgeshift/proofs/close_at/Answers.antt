-- `edgeshift::close_at` meets its contract: the numbers after those taken out are moved down, and zeros are stored at the end.
-- Assumes nothing.
use mathlib.Core.Path.{ap, ◌∙◌}
use Prim.Native.Nat.{ℕ, ◌-◌}
use native.Mathlib.Omega.{arith}
use borrow.Author.Rules.{rules}
use lib.ListN.{get_or}
use Rattle.edgeshift.proofs.ShiftLaws.{down_done}
use Rattle.edgeshift.proofs.close_at.Goals as goal

pub returns : goal.returns
returns c =
    let x = c.args in
    let by = c.copy_within.ensures.by_index in
    down_done
    x.list.now
    c.copy_within.new.self
    c.fill.new.self
    x.count
    x.at
    x.end
    (x.end - x.count)
    (x.end - (x.end - x.count))
    (c.fill.ensures.after (λ y e. e))
    (omega arith)
    (omega arith)
    (omega arith)
    (search rules)
    record {
      long = c.copy_within.ensures.len;
      before = λ j h. by.1 j 0 h;
      here = λ j g h. by.0 j 0 g (omega arith) ∙ ap (λ (n : ℕ). get_or x.list.now n 0) (omega arith);
      after = λ j h. by.2 j 0 (omega arith);
    }
