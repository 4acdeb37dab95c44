-- Numbers, read.
use Rattle.std.specs.Prelude.{◌≡◌, refl, codes, [], ◌∷◌, map, pos, neg_ℤ, Ok, Err}
use Rattle.decimal_text.specs.declared.number.Mark.TheVariants.{Point, PointOrComma}
use Rattle.decimal_text.specs.declared.number.NumberFault.TheVariants.{NotNumber, TooLarge}
use Rattle.decimal_text.specs.Numbers.{number, spelled}

-- what is expected is the number times 1,000,000: with a comma for the mark, with no digit on one side of it, with a sign
with_a_comma :
    map (number PointOrComma) (codes "12,5" ∷ codes "12.5" ∷ codes "5," ∷ codes "+,5" ∷ codes "1,2,3" ∷ codes "1.2,3" ∷ [])
    ≡ Ok (pos 12500000) ∷ Ok (pos 12500000) ∷ Ok (pos 5000000) ∷ Ok (pos 500000) ∷ Err NotNumber ∷ Err NotNumber ∷ []
unfolding number spelled
with_a_comma = refl

with_a_point :
    map (number Point) (codes "12,5" ∷ codes ".5" ∷ codes "5." ∷ codes "+1" ∷ codes "-.25" ∷ codes "-0" ∷ codes "0.0000019" ∷ [])
    ≡ Err NotNumber ∷ Ok (pos 500000) ∷ Ok (pos 5000000) ∷ Ok (pos 1000000) ∷ Ok (neg_ℤ (pos 250000)) ∷ Ok (pos 0) ∷ Ok (pos 1) ∷ []
unfolding number spelled
with_a_point = refl

-- nine digits before the mark are read, zeros at the front don't count
with_many_digits :
    map (number Point) (codes "0000000001" ∷ codes "999999999.9999999" ∷ codes "1234567890" ∷ codes "-1234567890.5" ∷ [])
    ≡ Ok (pos 1000000) ∷ Ok (pos 999999999999999) ∷ Err TooLarge ∷ Err TooLarge ∷ []
unfolding number spelled
with_many_digits = refl

no_numbers :
    map (number Point) ([] ∷ codes "." ∷ codes "-" ∷ codes "1e3" ∷ codes "--1" ∷ codes "1 " ∷ codes "1-" ∷ codes "1.e3" ∷ codes "/" ∷ codes ":" ∷ [])
    ≡ Err NotNumber ∷ Err NotNumber ∷ Err NotNumber ∷ Err NotNumber ∷ Err NotNumber ∷ Err NotNumber ∷ Err NotNumber ∷ Err NotNumber ∷ Err NotNumber ∷ Err NotNumber ∷ []
unfolding number spelled
no_numbers = refl
