-- `pointlines::write_point` meets its contract: no line at a node that is no shadow, and at a shadow the line of what is read there.
-- Assumes nothing.
use mathlib.Core.Path.{◌≡◌, refl, sym, ap, ◌∙◌}
use mathlib.Core.Bool.{Bool, true, false}
use Prim.Native.Nat.{◌≤◌}
use native.Mathlib.Omega.{arith}
use borrow.Author.Rules.{rules}
use Rattle.std.specs.Int.{from_bool}
use Rattle.listingtext.specs.TextWritten.{byte_of}
use Rattle.listingtext.proofs.TextLaws.{byte_small, classes_few, point_none, point_written}
use Rattle.pointlines.proofs.write_point.Goals as goal

-- a mark is the number that it is converted to
mark_byte : (b : Bool) → from_bool b ≡ byte_of b
mark_byte true = refl
mark_byte false = refl

-- it is at most 1
mark_small : (b : Bool) → from_bool b ≤ 1
mark_small b = rw (mark_byte b) (byte_small b)

pub returns-then-not-is_shadow : goal.returns-then-not-is_shadow
returns-then-not-is_shadow c = point_none _ _ _ _ _ _ _ (sym c.is_shadow.ensures ∙ c.if-not-is_shadow.true)

pub write_shadow_line-requires : goal.write_shadow_line-requires
write_shadow_line-requires c =
    let classes = c.class_count-classes in
    let p = c.requires in
    let few = classes_few _ _ _ classes.result classes.ensures in
    let nop = mark_small c.is_nop-nop.result in
    let enabled = mark_small c.is_enabled-enabled.result in (
      search rules,
      search rules,
      search rules,
      search rules,
      omega (arith, c.from-2.ensures, few, p.1.1.0),
      omega (arith, c.from-3.ensures, nop),
      omega (arith, c.from-4.ensures, enabled),
    )

pub returns : goal.returns
returns c =
    point_written (sym c.is_shadow.ensures ∙ c.if-not-is_shadow.false)
    (record {
      symbol_is = c.symbol_at-a.ensures.1;
      before_is = c.before_set-before.ensures;
      classes_are = c.class_count-classes.ensures;
      nop_is = c.from-3.ensures ∙ mark_byte c.is_nop-nop.result ∙ ap byte_of c.is_nop-nop.ensures;
      enabled_is = c.from-4.ensures ∙ mark_byte c.is_enabled-enabled.result ∙ ap byte_of c.is_enabled-enabled.ensures;
    })
    (rw (c.from.ensures, c.from-2.ensures) at c.write_shadow_line.ensures)
