-- `enabling::enable_all` meets its contract.
-- Invariant: the plan bytes of the nodes before n are stored, and their shadows counted.
-- Assumes nothing.
use mathlib.Core.Path.{◌≡◌, sym, ap, ◌∙◌}
use mathlib.Core.Bool.{Bool, true, false, cond}
use Prim.Native.Nat.{ℕ}
use native.Mathlib.Omega.{arith}
use Rattle.std.specs.Int.{from_bool}
use Rattle.passes.proofs.EnabledLaws.{enabled_start, enabled_more, enabled_end}
use Rattle.enabling.proofs.enable_all.Goals as goal

-- the byte of whether a node is a shadow
byte_is : (shadow event : Bool) (byte : ℕ) → shadow ≡ event → byte ≡ from_bool shadow → byte ≡ cond event 1 0
byte_is true event byte is e = e ∙ ap (λ (b : Bool). cond b 1 0) is
byte_is false event byte is e = e ∙ ap (λ (b : Bool). cond b 1 0) is

pub loop-n-init : goal.loop-n-init
loop-n-init c = enabled_start _

pub is_shadow-shadow-requires : goal.is_shadow-shadow-requires
is_shadow-shadow-requires c =
    let p = c.requires in
    (omega (arith, c.loop-n.invariant.kept.long, p), omega (arith, p))

pub bounds-work-n : goal.bounds-work-n
bounds-work-n c =
    omega (arith, c.loop-n.invariant.kept.long, c.requires)

pub loop-n-preserved : goal.loop-n-preserved
loop-n-preserved c =
    let l = c.loop-n in
    let p = c.requires in
    rw (c.from-count.ensures ∙ sym c.from.ensures)
    (enabled_more (omega (arith, l.invariant.kept.long, p)) (omega (arith, p)) l.invariant
    (byte_is c.is_shadow-shadow.result _ c.from.result c.is_shadow-shadow.ensures c.from.ensures))

pub shape_of-work : goal.shape_of-work
shape_of-work c = c.loop-n.invariant.kept.long

pub returns : goal.returns
returns c =
    let p = c.requires in
    let l = c.loop-n in
    enabled_end p.0 p.1 (omega arith) l.invariant
