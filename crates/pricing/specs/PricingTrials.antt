-- Plans with their prices, worked out by hand: PAIR of document 01, whose points have the symbols 0, 0 and 2, at 20, 20 and 30 cents per
-- thousand; a job with a plain node and a call; and one with a point of each symbol. That they are priced so, `AllPriced price_trials`, is a theorem of `proofs/`.
-- Assumes nothing.
use Rattle.std.specs.Prelude.{Result, Ok, Err, ◌≡◌, List, [], ◌∷◌, ◌++◌, ℕ, replicate}
use Rattle.lines.specs.FieldTrials.{bytes_in}
use Rattle.jobfile.specs.FileTrials.{lines_in, pair_lines, pair_file, pair_with_zeros}
use Rattle.pricing.specs.Pricing.{priced}

-- a job file, a plan, a volume file, and the answer
pub record PriceTrial : Type 0 where
  pub file : List ℕ
  pub plan : List ℕ
  pub volumes : List ℕ
  pub answer : Result ℕ ℕ

-- a row of the table
abbrev pub costs : List ℕ → List ℕ → List ℕ → Result ℕ ℕ → PriceTrial
costs file plan volumes answer = record { file = file; plan = plan; volumes = volumes; answer = answer }

infixr 5 ◌and◌
-- every plan of a table is priced as it should be
pub data AllPriced : List PriceTrial → Type 0 where
  done : AllPriced []
  ◌and◌
      : {t : PriceTrial} {ts : List PriceTrial} → priced t.file t.plan t.volumes ≡ t.answer → AllPriced ts
      → AllPriced (t ∷ ts)

-- PAIR's plans: all points watched, planning's own, none watched
abbrev pub all : List ℕ
all = 1 ∷ 1 ∷ 1 ∷ []

abbrev pub own : List ℕ
own = 0 ∷ 1 ∷ 1 ∷ []

abbrev pub none : List ℕ
none = 0 ∷ 0 ∷ 0 ∷ []

-- a thousand events at each of its nodes
unfoldable pub thousands : List ℕ
unfolding lines_in bytes_in
thousands = lines_in ("V     0  1000" ∷ "V     1  1000" ∷ "V     2  1000" ∷ [])

-- a volume file without its last line
unfoldable pub cut : List ℕ
unfolding lines_in bytes_in
cut = lines_in ("V     0  1000" ∷ "V     1  1000" ∷ [])

-- a point of symbol 0, a plain node, a call, a point of symbol 1, in a row
unfoldable pub mixed : List ℕ
unfolding lines_in bytes_in
mixed =
    lines_in
    ("J     1     2     4     3"
    ∷ "R     0     0     0     0"
    ∷ "P     0     1     0     1     0     0"
    ∷ "P     1     0     0     0     0     0"
    ∷ "P     2     2     2     0     0     0"
    ∷ "P     3     1     1     0     1     0"
    ∷ "F     0     1"
    ∷ "F     1     2"
    ∷ "F     2     3"
    ∷ [])

-- a thousand events at each of these
unfoldable pub four_thousands : List ℕ
unfolding lines_in bytes_in
four_thousands = lines_in ("V     0  1000" ∷ "V     1  1000" ∷ "V     2  1000" ∷ "V     3  1000" ∷ [])

-- a point of each symbol
unfoldable pub sixteen : List ℕ
unfolding lines_in bytes_in
sixteen =
    lines_in
    ("J     1    16    16     0"
    ∷ "R     0     0     0     0     0     0     0     0     0     0     0     0     0     0     0     0     0     0"
    ∷ "P     0     1     0     1     0     0"
    ∷ "P     1     1     1     0     0     0"
    ∷ "P     2     1     2     0     0     0"
    ∷ "P     3     1     3     0     0     0"
    ∷ "P     4     1     4     0     0     0"
    ∷ "P     5     1     5     0     0     0"
    ∷ "P     6     1     6     0     0     0"
    ∷ "P     7     1     7     0     0     0"
    ∷ "P     8     1     8     0     0     0"
    ∷ "P     9     1     9     0     0     0"
    ∷ "P    10     1    10     0     0     0"
    ∷ "P    11     1    11     0     0     0"
    ∷ "P    12     1    12     0     0     0"
    ∷ "P    13     1    13     0     0     0"
    ∷ "P    14     1    14     0     0     0"
    ∷ "P    15     1    15     0     0     0"
    ∷ [])

-- one thousand events at the first of these, two at the second, and so on
unfoldable pub many_thousands : List ℕ
unfolding lines_in bytes_in
many_thousands =
    lines_in
    ("V     0  1000"
    ∷ "V     1  2000"
    ∷ "V     2  3000"
    ∷ "V     3  4000"
    ∷ "V     4  5000"
    ∷ "V     5  6000"
    ∷ "V     6  7000"
    ∷ "V     7  8000"
    ∷ "V     8  9000"
    ∷ "V     9 10000"
    ∷ "V    10 11000"
    ∷ "V    11 12000"
    ∷ "V    12 13000"
    ∷ "V    13 14000"
    ∷ "V    14 15000"
    ∷ "V    15 16000"
    ∷ [])

-- the table
unfoldable pub price_trials : List PriceTrial
unfolding thousands cut mixed four_thousands sixteen many_thousands lines_in bytes_in pair_file pair_with_zeros
price_trials =
    -- whole cents: 20 + 20 + 30, 20 + 30, nothing; 50 events of symbol 0 are one cent
    costs pair_file all thousands (Ok 70)
    ∷ costs pair_file own thousands (Ok 50)
    ∷ costs pair_file none thousands (Ok 0)
    ∷ costs pair_file all (lines_in ("V     0    50" ∷ "V     1     0" ∷ "V     2     0" ∷ [])) (Ok 1)
    -- 49 * 20 + 1 * 30 is 1,010 thousandths of a cent; 33 * 30 is 990
    ∷ costs pair_file all (lines_in ("V     0    49" ∷ "V     1     0" ∷ "V     2     1" ∷ [])) (Ok 2)
    ∷ costs pair_file all (lines_in ("V     0     0" ∷ "V     1     0" ∷ "V     2    33" ∷ [])) (Ok 1)
    -- one event at each point: 70 thousandths, rounded once
    ∷ costs pair_file all (lines_in ("V     0     1" ∷ "V     1     1" ∷ "V     2     1" ∷ [])) (Ok 1)
    -- no events; as many as can be, 69,999,930 thousandths
    ∷ costs pair_file all (lines_in ("V     0     0" ∷ "V     1     0" ∷ "V     2     0" ∷ [])) (Ok 0)
    ∷ costs pair_file all (lines_in ("V     0999999" ∷ "V     1999999" ∷ "V     2999999" ∷ [])) (Ok 70000)
    -- an unwatched point is not counted
    ∷ costs pair_file own (lines_in ("V     0999999" ∷ "V     1  1000" ∷ "V     2  1000" ∷ [])) (Ok 50)
    -- neither are a plain node and a call: 20 + 25
    ∷ costs mixed (1 ∷ 0 ∷ 0 ∷ 1 ∷ []) four_thousands (Ok 45)
    -- every symbol: 1 * 20 + 2 * 25 + .. + 16 * 95
    ∷ costs sixteen (replicate 16 1) many_thousands (Ok 9520)
    -- zeros before the digits, in the volume file and in the job file
    ∷ costs pair_file all (lines_in ("V000000001000" ∷ "V  0001 01000" ∷ "V     2001000" ∷ [])) (Ok 70)
    ∷ costs pair_with_zeros all thousands (Ok 70)
    -- 16: a line missing; all missing; a line more; a byte more; the last byte missing
    ∷ costs pair_file all cut (Err 16)
    ∷ costs pair_file all [] (Err 16)
    ∷ costs pair_file all (thousands ++ lines_in ("V     3  1000" ∷ [])) (Err 16)
    ∷ costs pair_file all (thousands ++ (10 ∷ [])) (Err 16)
    ∷ costs pair_file all (cut ++ bytes_in "V     2  1000") (Err 16)
    -- 16: out of order; a place twice; another letter; a field that is none, a sign, a space after the digits
    ∷ costs pair_file all (lines_in ("V     1  1000" ∷ "V     0  1000" ∷ "V     2  1000" ∷ [])) (Err 16)
    ∷ costs pair_file all (lines_in ("V     0  1000" ∷ "V     1  1000" ∷ "V     1  1000" ∷ [])) (Err 16)
    ∷ costs pair_file all (lines_in ("V     0  1000" ∷ "P     1  1000" ∷ "V     2  1000" ∷ [])) (Err 16)
    ∷ costs pair_file all (lines_in ("V     0  1000" ∷ "V     1      " ∷ "V     2  1000" ∷ [])) (Err 16)
    ∷ costs pair_file all (lines_in ("V     0  1000" ∷ "V     1  -100" ∷ "V     2  1000" ∷ [])) (Err 16)
    ∷ costs pair_file all (lines_in ("V     0  1000" ∷ "V     1 1000 " ∷ "V     2  1000" ∷ [])) (Err 16)
    -- the order: 12 before 16, 11 before 12, the job's before all
    ∷ costs pair_file (1 ∷ 2 ∷ 1 ∷ []) cut (Err 12)
    ∷ costs mixed (1 ∷ 0 ∷ 1 ∷ 1 ∷ []) four_thousands (Err 12)
    ∷ costs pair_file (1 ∷ 2 ∷ []) cut (Err 11)
    ∷ costs pair_file (1 ∷ 1 ∷ 1 ∷ 0 ∷ []) thousands (Err 11)
    ∷ costs (lines_in pair_lines) (1 ∷ 2 ∷ []) cut (Err 3)
    ∷ []
