-- `pricereader::read_prices` meets its contract.
-- Invariant: the lines of the first s symbols pass, and their prices stand in the list.
-- Assumes nothing.
use mathlib.Core.Path.{sym, ◌∙◌}
use native.Mathlib.Omega.{arith}
use borrow.Author.Rules.{rules}
use Rattle.pricereader.proofs.ReadPricesLaws.{read_start, read_next, read_length, read_stop, read_end}
use Rattle.pricereader.proofs.read_prices.Goals as goal

pub returns-then-file-ne224 : goal.returns-then-file-ne224
returns-then-file-ne224 c =
    read_length c.args.file.now c.args.prices.now c.requires (λ e. omega (arith, e, c.if-file-ne224.true))

pub loop-s-init : goal.loop-s-init
loop-s-init c =
    (search rules, read_start c.args.file.now c.args.prices.now c.requires)

pub numbered_line-requires : goal.numbered_line-requires
numbered_line-requires c = omega (arith, c.if-file-ne224.false, c.loop-s-test.true)

pub shape_of-prices-in_default : goal.shape_of-prices-in_default
shape_of-prices-in_default c =
    c.loop-s.invariant.1.fits.sixteen ∙ sym c.requires.sixteen

pub returns-in_default : goal.returns-in_default
returns-in_default c =
    let x = c.args in
    let l = c.loop-s in
    let f = c.numbered_line in
    read_stop x.file.now l.prices l.s f.result (omega (arith, c.loop-s-test.true)) l.invariant.1 f.ensures c.in_default.is

pub bounds-prices-s : goal.bounds-prices-s
bounds-prices-s c =
    search (rules, c.loop-s.invariant.1.fits.sixteen)

pub loop-s-preserved : goal.loop-s-preserved
loop-s-preserved c =
    let x = c.args in
    let l = c.loop-s in
    let f = c.numbered_line in (
      search rules,
      read_next x.file.now l.prices l.s _ f.result (omega (arith, c.loop-s-test.true)) l.invariant.1 f.ensures
          c.in-Some.is,
    )

pub shape_of-prices : goal.shape_of-prices
shape_of-prices c =
    c.loop-s.invariant.1.fits.sixteen ∙ sym c.requires.sixteen

pub returns : goal.returns
returns c =
    let x = c.args in
    let l = c.loop-s in
    read_end x.file.now l.prices l.s (omega (arith, l.invariant.0, c.loop-s-test.false)) c.if-file-ne224.false l.invariant.1
