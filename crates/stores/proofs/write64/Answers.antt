-- `stores::write64` meets its contract: the bytes that are copied are those of the number.
-- Assumes nothing.
use mathlib.Core.Path.{◌∙◌}
use native.Mathlib.Omega.{arith}
use Rattle.stores.proofs.CopyLaws.{eight_bytes, put_copied}
use Rattle.stores.proofs.write64.Goals as goal

pub returns : goal.returns
returns c =
    let a = c.args in
    let copied = c.copy_from_slice.ensures.after ∙ c.to_le_bytes.ensures ∙ eight_bytes a.v in
    put_copied 8 _ a.s.now _ a.at a.v copied (omega arith) c.requires
