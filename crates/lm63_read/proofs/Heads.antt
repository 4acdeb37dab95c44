-- The lines before the items.
use Rattle.std.proofs.Common.{ℕ, zero, suc, ◌+◌, ◌<◌, ◌≤◌, ◌≡◌, Bool, true, false, ◌&&◌, eqb, List, [], ◌∷◌, length, drop, get_or, Some, None, refl, arith}
use Rattle.std.specs.List.{suffix_len}
use Rattle.std.proofs.lemmas.List.Sums.{suffix_len-le-length}
use Rattle.lm63_read.specs.Head.{begins_tilt, is_blank, tilt_from}

pub within : (line : List ℕ) → suffix_len is_blank line ≤ length line
within line = suffix_len-le-length is_blank line

-- a byte at which no such line begins is passed
pub tilt_passed : (bytes : List ℕ) (i : ℕ) (fresh : Bool) → i < length bytes → (fresh && begins_tilt (drop i bytes)) ≡ false
    → tilt_from fresh (drop i bytes) ≡ tilt_from (eqb (get_or bytes i 0) 10) (drop (i + 1) bytes)
unfolding tilt_from
tilt_passed [] i fresh l h = absurd (omega arith)
tilt_passed (b ∷ bytes) zero fresh l h = rw h refl
tilt_passed (b ∷ bytes) (suc i) fresh l h = let s : suc i + 1 ≡ suc (i + 1) = omega arith in rw s (tilt_passed bytes i fresh (omega arith) h)

-- a line that begins here is found
pub tilt_found : (bytes : List ℕ) (i : ℕ) → i < length bytes → begins_tilt (drop i bytes) ≡ true → tilt_from true (drop i bytes) ≡ Some (drop i bytes)
unfolding tilt_from
tilt_found [] i l h = absurd (omega arith)
tilt_found (b ∷ bytes) zero l h = rw h refl
tilt_found (b ∷ bytes) (suc i) l h = tilt_found bytes i (omega arith) h

-- at the end there is none
pub tilt_none : (fresh : Bool) (bytes : List ℕ) → tilt_from fresh (drop (length bytes) bytes) ≡ None
unfolding tilt_from
tilt_none fresh [] = refl
tilt_none fresh (b ∷ bytes) = tilt_none fresh bytes
