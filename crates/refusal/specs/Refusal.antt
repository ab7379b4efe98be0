-- The number of each reason for which a call is turned back (document 01, "Turned back, by number", and document 02).
-- Assumes nothing.
use Rattle.std.specs.Prelude.{Result, Ok, Err, ℕ}
use Rattle.refusal.specs.declared.Refusal.{Refusal}
use Rattle.refusal.specs.declared.Refusal.TheVariants.{LongFile, ShortBuffer, FileEnds, WrongLine, WrongHead, WrongRuleLine, WrongNode, WrongEdge, BytesFollow, NoEntry, WrongPlanLength, WrongPlanByte, WrongRule, NoSymbol, NoState, WrongVolumes, WrongRows, PairTwice, PairMissing, WrongExpression, ManyStates, WrongEdges, WrongPrices}

-- the numbers of the documents
abbrev pub number_of : Refusal → ℕ
number_of LongFile = 1
number_of ShortBuffer = 2
number_of FileEnds = 3
number_of WrongLine = 4
number_of WrongHead = 5
number_of WrongRuleLine = 6
number_of WrongNode = 7
number_of WrongEdge = 8
number_of BytesFollow = 9
number_of NoEntry = 10
number_of WrongPlanLength = 11
number_of WrongPlanByte = 12
number_of WrongRule = 13
number_of NoSymbol = 14
number_of NoState = 15
number_of WrongVolumes = 16
number_of WrongRows = 17
number_of PairTwice = 18
number_of PairMissing = 19
number_of WrongExpression = 20
number_of ManyStates = 21
number_of WrongEdges = 22
number_of WrongPrices = 28

-- a value, or the number of the reason
abbrev pub said : {T : Type 0} → Result T Refusal → Result T ℕ
said (Ok v) = Ok v
said (Err r) = Err (number_of r)

-- 0 beside a value, or the number of the reason
abbrev pub status_in : {T : Type 0} → Result T Refusal → ℕ
status_in (Ok v) = 0
status_in (Err r) = number_of r

-- a value that is a number, 0 beside a reason
abbrev pub value_in : Result ℕ Refusal → ℕ
value_in (Ok n) = n
value_in (Err r) = 0
