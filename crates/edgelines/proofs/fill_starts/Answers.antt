-- `edgelines::fill_starts` meets its contract.
-- Invariant: the starts from a up to j are v, and nothing else differs.
-- Assumes nothing.
use native.Mathlib.Omega.{arith}
use borrow.Author.Rules.{rules}
use Rattle.edgelines.proofs.StartLaws.{starts_none, Starts-more, starts_end}
use Rattle.edgelines.proofs.fill_starts.Goals as goal

pub loop-j-init : goal.loop-j-init
loop-j-init c = let x = c.args in (search rules, search rules, starts_none x.work.now x.a x.b x.v)

pub write16-requires : goal.write16-requires
write16-requires c = omega (arith, c.loop-j.invariant.2.kept.long)

pub loop-j-preserved : goal.loop-j-preserved
loop-j-preserved c = let x = c.args in
    let l = c.loop-j in (
      search rules,
      search rules,
      Starts-more x.work.now l.work _ x.a x.b x.v l.j (omega arith) (omega arith) (omega arith) (omega arith) (omega arith) l.invariant.2
          c.write16.ensures,
    )

pub shape_of-work : goal.shape_of-work
shape_of-work c = c.loop-j.invariant.2.kept.long

pub returns : goal.returns
returns c = let x = c.args in
    let l = c.loop-j in
    starts_end x.work.now l.work x.a x.b x.v l.j (omega arith) l.invariant.2
