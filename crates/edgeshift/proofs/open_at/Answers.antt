-- `edgeshift::open_at` meets its contract: the numbers from the place on are moved up, and the new ones are stored there.
-- Assumes nothing.
use mathlib.Core.Path.{ap, ◌∙◌}
use Prim.Native.Nat.{ℕ, ◌+◌, ◌-◌}
use native.Mathlib.Omega.{arith}
use borrow.Author.Rules.{rules}
use lib.ListN.{length, get_or}
use Rattle.edgeshift.proofs.ShiftLaws.{up_done}
use Rattle.edgeshift.proofs.open_at.Goals as goal

pub returns : goal.returns
returns c =
    let x = c.args in
    let by = c.copy_within.ensures.by_index in
    up_done
    x.list.now
    c.copy_within.new.self
    c.copy_from_slice.new.self
    x.numbers.now
    x.at
    x.end
    (x.at + length x.numbers.now - x.at)
    c.copy_from_slice.ensures.after
    (omega arith)
    (search rules)
    (search rules)
    record {
      long = c.copy_within.ensures.len;
      before = λ j h. by.1 j 0 h;
      here = λ j g h. by.0 j 0 g (omega arith) ∙ ap (λ (n : ℕ). get_or x.list.now n 0) (omega arith);
      after = λ j h. by.2 j 0 (omega arith);
    }
