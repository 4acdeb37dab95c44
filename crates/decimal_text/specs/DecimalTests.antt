-- Numbers of hundredths and of thousandths, spelled.
use Rattle.std.specs.Prelude.{◌≡◌, refl, codes, map, [], ◌∷◌}
use Rattle.std.specs.Fmt.{digits}
use Rattle.decimal_text.specs.Decimals.{hundredths, thousandths}
use Rattle.decimal_text.specs.Lines.{line}

-- a whole part and a first digit that are 0 stand too. The last number is 2^128 - 1, and Python's divmod of it by 100 is
-- (3402823669209384634633746074317682114, 55)
in_hundredths :
    map hundredths (0 ∷ 5 ∷ 100 ∷ 40793 ∷ 340282366920938463463374607431768211455 ∷ [])
    ≡ codes "0.00" ∷ codes "0.05" ∷ codes "1.00" ∷ codes "407.93" ∷ codes "3402823669209384634633746074317682114.55" ∷ []
unfolding digits
in_hundredths = refl

-- Python's divmod of the last number by 1000 is (340282366920938463463374607431768211, 455)
in_thousandths :
    map thousandths (0 ∷ 12 ∷ 1000 ∷ 40793 ∷ 340282366920938463463374607431768211455 ∷ [])
    ≡ codes "0.000" ∷ codes "0.012" ∷ codes "1.000" ∷ codes "40.793" ∷ codes "340282366920938463463374607431768211.455" ∷ []
unfolding digits
in_thousandths = refl

-- a line ends with LF, which is 10
a_line : line (codes "a") ≡ 97 ∷ 10 ∷ []
a_line = refl
