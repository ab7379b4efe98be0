-- `nodereads::is_entry` meets its contract: an entry's set is not empty.
-- Assumes nothing.
use mathlib.Core.Path.{ap}
use mathlib.Core.Bool.{not}
use Prim.Native.Nat.{ℕ}
use lib.Dec.{eqb}
use Rattle.nodereads.proofs.is_entry.Goals as goal

pub returns : goal.returns
returns c = ap (λ (s : ℕ). not (eqb s 0)) c.entry_set.ensures
