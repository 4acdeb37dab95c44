-- How whole numbers of hundredths and of thousandths are spelled: the whole part without leading zeros, a point, and two or three
-- digits.
use Rattle.std.specs.Prelude.{ℕ, ◌/◌, ◌%◌, List, ◌++◌, codes, decimal}

-- the last digit of a number
abbrev pub digit : ℕ → List ℕ
digit n = decimal (n % 10)

-- a number of hundredths, as 407.93
abbrev pub hundredths : ℕ → List ℕ
hundredths n = decimal (n / 100) ++ codes "." ++ digit (n / 10) ++ digit n

-- a number of thousandths, as 40.793
abbrev pub thousandths : ℕ → List ℕ
thousandths n = decimal (n / 1000) ++ codes "." ++ digit (n / 100) ++ digit (n / 10) ++ digit n
