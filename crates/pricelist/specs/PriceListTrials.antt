-- Plans with their prices at an association's own prices, worked out by hand: PAIR of document 01, whose points have the symbols 0, 0 and 2, and
-- the job with a point of each symbol. That they are priced so, `AllPricedBy own_trials`, is a theorem of `proofs/`.
-- Assumes nothing.
use Rattle.std.specs.Prelude.{Result, Ok, Err, ◌≡◌, List, [], ◌∷◌, ◌++◌, ℕ, replicate}
use Prim.Native.String.{String}
use Rattle.lines.specs.FieldTrials.{bytes_in}
use Rattle.jobfile.specs.FileTrials.{lines_in, pair_lines, pair_file}
use Rattle.pricing.specs.PricingTrials.{all, own, none, thousands, cut, sixteen, many_thousands}
use Rattle.pricelist.specs.PriceList.{priced_by}

-- a job file, a plan, a volume file, a price file, and the answer
pub record OwnTrial : Type 0 where
  pub file : List ℕ
  pub plan : List ℕ
  pub volumes : List ℕ
  pub prices : List ℕ
  pub answer : Result ℕ ℕ

-- a row of the table
abbrev pub costs : List ℕ → List ℕ → List ℕ → List ℕ → Result ℕ ℕ → OwnTrial
costs file plan volumes prices answer = record { file = file; plan = plan; volumes = volumes; prices = prices; answer = answer }

infixr 5 ◌and◌
-- every plan of a table is priced as it should be
pub data AllPricedBy : List OwnTrial → Type 0 where
  done : AllPricedBy []
  ◌and◌
      : {t : OwnTrial} {ts : List OwnTrial} → priced_by t.file t.plan t.volumes t.prices ≡ t.answer → AllPricedBy ts
      → AllPricedBy (t ∷ ts)

-- the house prices of the symbols 3 to 14
unfoldable pub inner : List ℕ
unfolding lines_in bytes_in
inner =
    lines_in
    ("B     3    35"
    ∷ "B     4    40"
    ∷ "B     5    45"
    ∷ "B     6    50"
    ∷ "B     7    55"
    ∷ "B     8    60"
    ∷ "B     9    65"
    ∷ "B    10    70"
    ∷ "B    11    75"
    ∷ "B    12    80"
    ∷ "B    13    85"
    ∷ "B    14    90"
    ∷ [])

-- and of 15
unfoldable pub last : List ℕ
unfolding lines_in bytes_in
last = lines_in ("B    15    95" ∷ [])

-- a price file with these first lines, and from symbol 3 on the house prices
abbrev pub beginning : List String → List ℕ
beginning ls = lines_in ls ++ (inner ++ last)

-- one with the house prices of the symbols 0 to 2, and then this
abbrev pub headed : List ℕ → List ℕ
headed rest = lines_in ("B     0    20" ∷ "B     1    25" ∷ "B     2    30" ∷ []) ++ rest

-- the house table
abbrev pub house_table : List ℕ
house_table = headed (inner ++ last)

-- 9,999 everywhere
unfoldable pub dear : List ℕ
unfolding lines_in bytes_in
dear =
    lines_in
    ("B     0  9999"
    ∷ "B     1  9999"
    ∷ "B     2  9999"
    ∷ "B     3  9999"
    ∷ "B     4  9999"
    ∷ "B     5  9999"
    ∷ "B     6  9999"
    ∷ "B     7  9999"
    ∷ "B     8  9999"
    ∷ "B     9  9999"
    ∷ "B    10  9999"
    ∷ "B    11  9999"
    ∷ "B    12  9999"
    ∷ "B    13  9999"
    ∷ "B    14  9999"
    ∷ "B    15  9999"
    ∷ [])

-- every symbol free
unfoldable pub free : List ℕ
unfolding lines_in bytes_in
free =
    lines_in
    ("B     0     0"
    ∷ "B     1     0"
    ∷ "B     2     0"
    ∷ "B     3     0"
    ∷ "B     4     0"
    ∷ "B     5     0"
    ∷ "B     6     0"
    ∷ "B     7     0"
    ∷ "B     8     0"
    ∷ "B     9     0"
    ∷ "B    10     0"
    ∷ "B    11     0"
    ∷ "B    12     0"
    ∷ "B    13     0"
    ∷ "B    14     0"
    ∷ "B    15     0"
    ∷ [])

-- a price for each symbol, by no rule
unfoldable pub mingled : List ℕ
unfolding lines_in bytes_in
mingled =
    lines_in
    ("B     0     0"
    ∷ "B     1     1"
    ∷ "B     2    12"
    ∷ "B     3  9999"
    ∷ "B     4   100"
    ∷ "B     5     0"
    ∷ "B     6     7"
    ∷ "B     7   250"
    ∷ "B     8  1000"
    ∷ "B     9    33"
    ∷ "B    10    95"
    ∷ "B    11    20"
    ∷ "B    12   640"
    ∷ "B    13     5"
    ∷ "B    14  9998"
    ∷ "B    15     3"
    ∷ [])

-- the table
unfoldable pub own_trials : List OwnTrial
unfolding inner last dear free mingled lines_in bytes_in pair_file thousands cut sixteen many_thousands
own_trials =
    -- the house table: 20 + 20 + 30, 20 + 30, nothing
    costs pair_file all thousands house_table (Ok 70)
    ∷ costs pair_file own thousands house_table (Ok 50)
    ∷ costs pair_file none thousands house_table (Ok 0)
    -- symbol 0 free, symbol 2 at 12; all free; free but for symbols that no point has
    ∷ costs pair_file all thousands (beginning ("B     0     0" ∷ "B     1    25" ∷ "B     2    12" ∷ [])) (Ok 12)
    ∷ costs pair_file all (lines_in ("V     0999999" ∷ "V     1999999" ∷ "V     2999999" ∷ [])) free (Ok 0)
    ∷ costs pair_file all thousands (beginning ("B     0     0" ∷ "B     1  9999" ∷ "B     2     0" ∷ [])) (Ok 0)
    -- 9,999 everywhere: 3 * 9,999; of as many events as can be 29,996,970,003 thousandths; of one event 9,999
    ∷ costs pair_file all thousands dear (Ok 29997)
    ∷ costs pair_file all (lines_in ("V     0999999" ∷ "V     1999999" ∷ "V     2999999" ∷ [])) dear (Ok 29996971)
    ∷ costs pair_file all (lines_in ("V     0     1" ∷ "V     1     0" ∷ "V     2     0" ∷ [])) dear (Ok 10)
    -- one event at each point, at 1, 1 and 2 cents per thousand: 4 thousandths, rounded once
    ∷ costs pair_file all (lines_in ("V     0     1" ∷ "V     1     1" ∷ "V     2     1" ∷ []))
    (beginning ("B     0     1" ∷ "B     1     0" ∷ "B     2     2" ∷ [])) (Ok 1)
    -- every symbol: 1 * 0 + 2 * 1 + 3 * 12 + .. + 16 * 3
    ∷ costs sixteen (replicate 16 1) many_thousands mingled (Ok 211606)
    -- zeros before the digits
    ∷ costs pair_file all thousands (beginning ("B000000000020" ∷ "B  0001   025" ∷ "B     2 00030" ∷ [])) (Ok 70)
    -- 28: the last line missing; a line for each symbol of the job alone; all missing; a line more; a byte more; the last byte missing
    ∷ costs pair_file all thousands (headed inner) (Err 28)
    ∷ costs pair_file all thousands (headed []) (Err 28)
    ∷ costs pair_file all thousands [] (Err 28)
    ∷ costs pair_file all thousands (house_table ++ lines_in ("B    16   100" ∷ [])) (Err 28)
    ∷ costs pair_file all thousands (house_table ++ (10 ∷ [])) (Err 28)
    ∷ costs pair_file all thousands (headed (inner ++ bytes_in "B    15    95")) (Err 28)
    -- 28: out of order; a symbol twice, also in the last line; 10,000, also there; another letter; a field that is none, a sign, a space after
    -- the digits
    ∷ costs pair_file all thousands (beginning ("B     1    25" ∷ "B     0    20" ∷ "B     2    30" ∷ [])) (Err 28)
    ∷ costs pair_file all thousands (beginning ("B     0    20" ∷ "B     0    20" ∷ "B     2    30" ∷ [])) (Err 28)
    ∷ costs pair_file all thousands (headed (inner ++ lines_in ("B    14    95" ∷ []))) (Err 28)
    ∷ costs pair_file all thousands (beginning ("B     0    20" ∷ "B     1 10000" ∷ "B     2    30" ∷ [])) (Err 28)
    ∷ costs pair_file all thousands (headed (inner ++ lines_in ("B    15 10000" ∷ []))) (Err 28)
    ∷ costs pair_file all thousands (beginning ("V     0    20" ∷ "B     1    25" ∷ "B     2    30" ∷ [])) (Err 28)
    ∷ costs pair_file all thousands (beginning ("B     0      " ∷ "B     1    25" ∷ "B     2    30" ∷ [])) (Err 28)
    ∷ costs pair_file all thousands (beginning ("B     0   -20" ∷ "B     1    25" ∷ "B     2    30" ∷ [])) (Err 28)
    ∷ costs pair_file all thousands (beginning ("B     0   20 " ∷ "B     1    25" ∷ "B     2    30" ∷ [])) (Err 28)
    -- the order: 16 before 28, and so 12, 11 and the job's; 16 beside a good price file
    ∷ costs pair_file all cut [] (Err 16)
    ∷ costs pair_file (1 ∷ 2 ∷ 1 ∷ []) thousands [] (Err 12)
    ∷ costs pair_file (1 ∷ 1 ∷ []) thousands [] (Err 11)
    ∷ costs (lines_in pair_lines) all thousands [] (Err 3)
    ∷ costs pair_file all cut house_table (Err 16)
    ∷ []
