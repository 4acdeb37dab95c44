-- The words of `Files` on small examples.
use Rattle.std.specs.Prelude.{ℕ, ◌≡◌, ◌^◌, ◌-◌, [], ◌∷◌, Some, None, Ok, Err, true, false, refl}
use Rattle.std.proofs.Common.{lit<, lit≤}
use Rattle.lux_io.specs.Files.{AddsPrefix, Counted, HasCause, ReadsNext, Rose, Stood, bytes_of, one_more, with_bytes}

-- of two files of one name the first counts
first_of_the_name : bytes_of (98 ∷ []) ((97 ∷ [], 1 ∷ []) ∷ (98 ∷ [], 2 ∷ 3 ∷ []) ∷ (98 ∷ [], 4 ∷ []) ∷ []) ≡ Some (2 ∷ 3 ∷ [])
first_of_the_name = refl

-- a name is whole: `a` isn't `ab`
no_such_name : bytes_of (97 ∷ []) ((97 ∷ 98 ∷ [], 1 ∷ []) ∷ []) ≡ None
no_such_name = refl

counted_on : one_more 4 ≡ 5
counted_on = refl

rose_by_one : Rose 4 5
rose_by_one = lit≤ tt

-- at the last value of a counter nothing more can be counted
at_the_last_value : Rose (2 ^ 64 - 1) (2 ^ 64 - 1)
at_the_last_value = lit≤ tt

last_value : one_more (2 ^ 64 - 1) ≡ 2 ^ 64 - 1
last_value = refl

no_more : Stood 4 4
no_more = (refl, lit< tt)

-- the last two bytes of three
reads_two : ReadsNext (7 ∷ 8 ∷ 9 ∷ []) 1 (8 ∷ 9 ∷ 0 ∷ []) 2
reads_two = record { left = lit≤ tt; bytes = refl; end = λ _ none. cc }

-- nothing after the last byte
reads_nothing : ReadsNext (7 ∷ 8 ∷ 9 ∷ []) 3 (0 ∷ []) 0
reads_nothing = record { left = lit≤ tt; bytes = refl; end = λ _ _. lit≤ tt }

written_after : with_bytes (Some (1 ∷ 2 ∷ [])) (3 ∷ []) ≡ Some (1 ∷ 2 ∷ 3 ∷ [])
written_after = refl

-- two of three bytes were written
cut_short : AddsPrefix (Some (1 ∷ [])) (Some (1 ∷ 2 ∷ 3 ∷ [])) (2 ∷ 3 ∷ 4 ∷ [])
cut_short = record { count = 2; proper = lit< tt; bytes = refl }

-- of a sink that doesn't tell nothing is known afterwards either
untold : with_bytes None (3 ∷ []) ≡ None
untold = refl

-- a failure was counted
failed : HasCause {T = ℕ} {E = ℕ} 4 5 (Err 0)
failed = record { later = lit≤ tt; cause = refl; only = tt }

-- a call went well, and nothing was counted
went_well : HasCause {T = ℕ} {E = ℕ} 4 4 (Ok 0)
went_well = record { later = lit≤ tt; cause = tt; only = refl }

-- nothing was answered, and nothing was counted
not_answered : Counted 4 4 (false ≡ true)
not_answered = record { later = lit≤ tt; cause = λ answered. cc; only = λ _. refl }
