-- What small claim files say, computed: one patch or two, and each fault with its record.
use Rattle.std.specs.Prelude.{ℕ, ◌≡◌, List, [], ◌∷◌, ◌++◌, codes, refl, Ok, Err}
use Rattle.csv.proofs.OnLiterals.{csv_on_literals}
use Rattle.csv.specs.Records.{field_at}
use Rattle.claim_file.specs.declared.fault.ClaimFault.TheVariants as fault
use Rattle.claim_file.specs.Numbers.{number, number_after}
use Rattle.claim_file.specs.Claims.{Claim, claim_after, claim_from, claim_of, entries_of, entry_in, entry_of, tick}

unfoldable computed : Unit {0}
unfolding csv_on_literals field_at number number_after claim_after claim_from claim_of entries_of entry_in entry_of
computed = tt

abbrev with_line : List ℕ → List ℕ → List ℕ
with_line line text = line ++ (10 ∷ text)

abbrev header : List ℕ
header = codes "patch,lower,upper"

abbrev two : Claim
two = record { lower = tick 10 ∷ tick 0 ∷ []; upper = tick 20 ∷ tick 1237940039285380274899124224 ∷ [] }

-- an upper bound of 2^90 ticks, and no end of the last line
both_are_read : claim_of (with_line header (with_line (codes "0,10,20") (codes "1,0,1237940039285380274899124224"))) 2 ≡ Ok two
unfolding computed
both_are_read = refl

-- lines that end by CR and LF, blank lines, and a number in quotes
as_csv_reads : claim_of (codes "x,y,z" ++ (13 ∷ 10 ∷ 10 ∷ codes "0,\"10\",20" ++ (13 ∷ 10 ∷ codes "1,0,1237940039285380274899124224"))) 2 ≡ Ok two
unfolding computed
as_csv_reads = refl

a_tick_above_the_greatest : claim_of (with_line header (codes "0,0,1237940039285380274899124225")) 1 ≡ Err (fault.Record 1)
unfolding computed
a_tick_above_the_greatest = refl

a_leading_zero : claim_of (with_line header (with_line (codes "0,0,20") (codes "1,00,20"))) 2 ≡ Err (fault.Record 2)
unfolding computed
a_leading_zero = refl

-- a header of two fields: each record of three is of another length, and each of two isn't of three
a_header_of_two_fields : claim_of (with_line (codes "lower,upper") (codes "0,10,20")) 1 ≡ Err (fault.Record 1)
unfolding computed
a_header_of_two_fields = refl

another_patch : claim_of (with_line header (with_line (codes "0,10,20") (codes "3,10,20"))) 2 ≡ Err (fault.Order 2)
unfolding computed
another_patch = refl

-- a record too many, though it is broken
one_too_many : claim_of (with_line header (with_line (codes "0,10,20") (codes "x"))) 1 ≡ Err fault.Count
unfolding computed
one_too_many = refl

one_too_few : claim_of (with_line header (codes "0,10,20")) 2 ≡ Err fault.Count
unfolding computed
one_too_few = refl

no_text : claim_of [] 1 ≡ Err fault.Count
unfolding computed
no_text = refl
