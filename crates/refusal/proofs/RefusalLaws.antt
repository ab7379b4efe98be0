-- Laws of the reasons' numbers: none is 0, each is below 2^48, and what a status of 0 says.
-- Assumes nothing.
use Rattle.std.specs.Prelude.{Some, None, Result, Ok, Err, ltb}
use Rattle.std.specs.Result.{result_ok}
use mathlib.Core.Path.{◌≡◌, refl}
use mathlib.Core.Bool.{true}
use Prim.Native.Nat.{◌^◌}
use native.Mathlib.Omega.{arith}
use Rattle.refusal.specs.declared.Refusal.{Refusal}
use Rattle.refusal.specs.declared.Refusal.TheVariants.{LongFile, ShortBuffer, FileEnds, WrongLine, WrongHead, WrongRuleLine, WrongNode, WrongEdge, BytesFollow, NoEntry, WrongPlanLength, WrongPlanByte, WrongRule, NoSymbol, NoState, WrongVolumes, WrongRows, PairTwice, PairMissing, WrongExpression, ManyStates, WrongEdges, WrongPrices}
use Rattle.refusal.specs.Refusal.{number_of, status_in}

-- no reason has the number 0
pub number_some : (r : Refusal) → number_of r ≡ 0 → ⊥
number_some LongFile e = omega arith
number_some ShortBuffer e = omega arith
number_some FileEnds e = omega arith
number_some WrongLine e = omega arith
number_some WrongHead e = omega arith
number_some WrongRuleLine e = omega arith
number_some WrongNode e = omega arith
number_some WrongEdge e = omega arith
number_some BytesFollow e = omega arith
number_some NoEntry e = omega arith
number_some WrongPlanLength e = omega arith
number_some WrongPlanByte e = omega arith
number_some WrongRule e = omega arith
number_some NoSymbol e = omega arith
number_some NoState e = omega arith
number_some WrongVolumes e = omega arith
number_some WrongRows e = omega arith
number_some PairTwice e = omega arith
number_some PairMissing e = omega arith
number_some WrongExpression e = omega arith
number_some ManyStates e = omega arith
number_some WrongEdges e = omega arith
number_some WrongPrices e = omega arith

-- each is below 2^48, from which on a call's number says that it was accepted
pub number_below : (r : Refusal) → ltb (number_of r) (2 ^ 48) ≡ true
number_below LongFile = refl
number_below ShortBuffer = refl
number_below FileEnds = refl
number_below WrongLine = refl
number_below WrongHead = refl
number_below WrongRuleLine = refl
number_below WrongNode = refl
number_below WrongEdge = refl
number_below BytesFollow = refl
number_below NoEntry = refl
number_below WrongPlanLength = refl
number_below WrongPlanByte = refl
number_below WrongRule = refl
number_below NoSymbol = refl
number_below NoState = refl
number_below WrongVolumes = refl
number_below WrongRows = refl
number_below PairTwice = refl
number_below PairMissing = refl
number_below WrongExpression = refl
number_below ManyStates = refl
number_below WrongEdges = refl
number_below WrongPrices = refl

-- 0 stands beside a value
pub status_none : {T : Type 0} (r : Result T Refusal) (v : T) → result_ok r ≡ Some v → status_in r ≡ 0
status_none (Ok w) v q = refl
status_none (Err k) v q = cc

-- and not beside a reason
pub status_some : {T : Type 0} (r : Result T Refusal) → result_ok r ≡ None → status_in r ≡ 0 → ⊥
status_some (Ok v) q z = cc
status_some (Err k) q z = number_some k z
