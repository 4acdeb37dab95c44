-- The mirror at 90 and 270: the measured planes run from -90 to 90, here a turn later, or from 90 to 270.
use Rattle.std.proofs.Common.{ℕ, zero, suc, ◌+◌, ◌-◌, ◌*◌, ◌≤◌, ◌≡◌, List, arith, ap, refl, inl, inr, Bool, true, false, ◌&&◌, ◌||◌, if◌then◌else◌}
use Rattle.fx_base.specs.Fraction.{Fraction, ◌≤ᶠ◌, ◌<ᶠ◌, ◌+ᶠ◌, ◌-ᶠ◌, at_most, whole}
use Rattle.fx_base.specs.Interval.{Interval}
use Rattle.fx_base.specs.Units.{millionths}
use Rattle.fx_base.proofs.Order.{lt_or_le_f, at_most_true, at_most_not}
use Rattle.photo_table.specs.Angles.{turn_later}
use Rattle.photo_table.specs.Table.{Table, IsTable}
use Rattle.symmetry_expand.specs.declared.symmetry.Symmetry.TheVariants.{Plane90}
use Rattle.symmetry_expand.specs.Fold.{is_measured, fold, AreEnds}
use Rattle.symmetry_expand.specs.Steps.{first_of}
use Rattle.symmetry_expand.proofs.Mirrors.{IsMoved, IsMirrored}
use Rattle.symmetry_expand.proofs.Ways.{SameAcross}
use Rattle.fx_base.proofs.Truth.{if_true, if_false}
use Rattle.symmetry_expand.proofs.Folds.{Seen, num_later, seen_moved, seen_mirrored, moved_alike, mirrored_alike, turned_same}

pub test : ℕ → ℕ → Fraction → Bool
test first last c = (at_most (millionths first) c && at_most c (millionths last)) || at_most (c +ᶠ whole 360) (millionths last)

within : (a b c : Bool) → a ≡ true → b ≡ true → ((a && b) || c) ≡ true
within a b c e f = rw (e, f) refl

later : (a b c : Bool) → c ≡ true → ((a && b) || c) ≡ true
later true true c e = refl
later true false c e = e
later false b c e = e

below : (a b c : Bool) → a ≡ false → c ≡ false → ((a && b) || c) ≡ false
below a b c e f = rw (e, f) refl

above : (a b c : Bool) → b ≡ false → c ≡ false → ((a && b) || c) ≡ false
above true b c e f = rw (e, f) refl
above false b c e f = f

pub folded : ℕ → ℕ → Fraction → Fraction
folded first last c = if test first last c then c else whole 540 -ᶠ c

pub fold_is : (ps : List ℕ) (first last : ℕ) → AreEnds ps first last → (c : Fraction) → fold Plane90 ps c ≡ folded first last c
unfolding fold is_measured folded test
fold_is ps first last h c = rw (h.begins, h.ends) refl

pub stays_within : (first last : ℕ) (c : Fraction) → millionths first ≤ᶠ c → c ≤ᶠ millionths last → folded first last c ≡ c
unfolding folded test
stays_within first last c h g = if_true _ c (whole 540 -ᶠ c) (within (at_most (millionths first) c) (at_most c (millionths last)) (at_most (c +ᶠ whole 360) (millionths last)) (at_most_true h) (at_most_true g))

pub stays_later : (first last : ℕ) (c : Fraction) → (c +ᶠ whole 360) ≤ᶠ millionths last → folded first last c ≡ c
unfolding folded test
stays_later first last c h = if_true _ c (whole 540 -ᶠ c) (later (at_most (millionths first) c) (at_most c (millionths last)) (at_most (c +ᶠ whole 360) (millionths last)) (at_most_true h))

pub turns_below : (first last : ℕ) (c : Fraction) → c <ᶠ millionths first → millionths last <ᶠ (c +ᶠ whole 360) → folded first last c ≡ whole 540 -ᶠ c
unfolding folded test
turns_below first last c h g = if_false _ c (whole 540 -ᶠ c) (below (at_most (millionths first) c) (at_most c (millionths last)) (at_most (c +ᶠ whole 360) (millionths last)) (at_most_not h) (at_most_not g))

pub turns_above : (first last : ℕ) (c : Fraction) → millionths last <ᶠ c → millionths last <ᶠ (c +ᶠ whole 360) → folded first last c ≡ whole 540 -ᶠ c
unfolding folded test
turns_above first last c h g = if_false _ c (whole 540 -ᶠ c) (above (at_most (millionths first) c) (at_most c (millionths last)) (at_most (c +ᶠ whole 360) (millionths last)) (at_most_not h) (at_most_not g))

-- what was measured a turn later
seen_later : (end : Interval → Fraction) (t m : Table) (c : Fraction) (a b : ℕ) → ((y : Fraction) → IsMoved (turn_later c) y a b → SameAcross end t m (turn_later c) y) → a ≡ b → Seen end t m c c
unfolding turn_later
seen_later end t m c a b same e = λ g. (same (turn_later c) (moved_alike (turn_later c) (turn_later c) a b refl (rw e refl))).same g

mirrored_later : (end : Interval → Fraction) (t m : Table) (c : Fraction) (a b : ℕ) → ((y : Fraction) → IsMirrored y (turn_later c) a b → SameAcross end t m (turn_later c) y)
    → num_later c + num_later c + b * c.den ≡ a * c.den → Seen end t m c c
unfolding turn_later
mirrored_later end t m c a b same e = λ g. (same (turn_later c) (mirrored_alike (turn_later c) (turn_later c) a b refl e)).same g

-- what was measured a turn earlier than the angle that stands for it
mirrored_earlier : (end : Interval → Fraction) (t m : Table) → IsTable m → (c : Fraction) (a b first : ℕ) → first_of m.planes ≡ first
    → ((y : Fraction) → IsMirrored y (turn_later c) a b → SameAcross end t m (turn_later c) y) → c ≤ᶠ whole 180
    → 180 * c.den * 1000000 - c.num * 1000000 + num_later c + b * c.den ≡ a * c.den → first * c.den ≤ 180 * c.den * 1000000 - c.num * 1000000 → Seen end t m c (whole 540 -ᶠ c)
unfolding turn_later whole millionths ◌-ᶠ◌ ◌+ᶠ◌
mirrored_earlier end t m im c a b first f same small e low =
    let k = small.cross in
    turned_same end t m im (turn_later c) (whole 180 -ᶠ c) (turn_later (whole 540 -ᶠ c)) 2
    (same (whole 180 -ᶠ c) (mirrored_alike (turn_later c) (whole 180 -ᶠ c) a b (omega arith) (omega (arith, e))))
    (record { cross = rw f (omega (arith, low)) })
    (record { cross = later_num c.num c.den (omega arith) })
  where
    later_num : (n d : ℕ) → n ≤ 180 * d → (540 * d - n * 1 + 360 * (1 * d)) * (1 * d * 1) ≡ ((180 * d - n * 1) * 1 + 720 * (1 * d)) * (1 * d)
    later_num n d h = let g : 540 * d - n * 1 + 360 * (1 * d) ≡ (180 * d - n * 1) * 1 + 720 * (1 * d) = omega arith in omega (arith, ap (λ (z : ℕ). z * d) g)

-- ---- from -90 to 90

pub round_0_forth : (end : Interval → Fraction) (t m : Table) → IsTable m → first_of m.planes ≡ 270000000 → (c : Fraction) → c <ᶠ whole 360 → (q : ℕ)
    → (360000000 * q + 270000000) * c.den ≤ num_later c + 360000000 * c.den → num_later c + 360000000 * c.den ≤ (360000000 * q + 450000000) * c.den
    → ((y : Fraction) → IsMoved (turn_later c) y 360000000 (360000000 * q) → SameAcross end t m (turn_later c) y) → Seen end t m c (folded 270000000 450000000 c)
unfolding whole ◌-ᶠ◌ ◌+ᶠ◌ millionths
round_0_forth end t m im first c near zero low high same =
    let p = c.positive in let b = near.cross in absurd (omega arith)
round_0_forth end t m im first c near (suc zero) low high same =
    let b = near.cross in let p = c.positive in
    let h : (c +ᶠ whole 360) ≤ᶠ millionths 450000000 = record { cross = omega arith } in
    rw (stays_later 270000000 450000000 c h) (seen_later end t m c 360000000 (360000000 * 1) same refl)
round_0_forth end t m im first c near (suc (suc zero)) low high same =
    let b = near.cross in let p = c.positive in
    let l : millionths 270000000 ≤ᶠ c = record { cross = omega arith } in let h : c ≤ᶠ millionths 450000000 = record { cross = omega arith } in
    rw (stays_within 270000000 450000000 c l h) (seen_moved end t m im c (c) 360000000 (360000000 * 2) 270000000 first same (omega arith) (omega arith) (omega arith))
round_0_forth end t m im first c near (suc (suc (suc q))) low high same =
    let p = c.positive in let b = near.cross in absurd (omega arith)

pub round_0_back : (end : Interval → Fraction) (t m : Table) → IsTable m → first_of m.planes ≡ 270000000 → (c : Fraction) → c <ᶠ whole 360 → (q : ℕ)
    → (360000000 * q + 450000000) * c.den ≤ num_later c + 360000000 * c.den → num_later c + 360000000 * c.den ≤ (360000000 * q + 630000000) * c.den
    → ((y : Fraction) → IsMirrored y (turn_later c) (360000000 * q + 900000000) 360000000 → SameAcross end t m (turn_later c) y) → Seen end t m c (folded 270000000 450000000 c)
unfolding whole ◌-ᶠ◌ ◌+ᶠ◌ millionths
round_0_back end t m im first c near zero low high same =
    let p = c.positive in let b = near.cross in absurd (omega arith)
round_0_back end t m im first c near (suc zero) low high same =
    let b = near.cross in let p = c.positive in
    elim (lt_or_le_f (millionths 90000000) c) [
      | inl l ↦ let kl = l.cross in elim (lt_or_le_f c (millionths 270000000)) [
        | inl g ↦ let kg = g.cross in let n : millionths 450000000 <ᶠ (c +ᶠ whole 360) = record { cross = omega arith } in
            rw (turns_below 270000000 450000000 c g n) (seen_mirrored end t m im c (whole 540 -ᶠ c) (360000000 * 1 + 900000000) 360000000 270000000 first same (omega arith) (omega arith) (omega arith))
        | inr g ↦ let kg = g.cross in let h : c ≤ᶠ millionths 450000000 = record { cross = omega arith } in
            rw (stays_within 270000000 450000000 c g h) (seen_mirrored end t m im c (c) (360000000 * 1 + 900000000) 360000000 270000000 first same (omega arith) (omega arith) (omega arith))
      ]
      | inr l ↦ let kl = l.cross in let h : (c +ᶠ whole 360) ≤ᶠ millionths 450000000 = record { cross = omega arith } in
          rw (stays_later 270000000 450000000 c h) (mirrored_later end t m c (360000000 * 1 + 900000000) 360000000 same (omega arith))
    ]
round_0_back end t m im first c near (suc (suc q)) low high same =
    let p = c.positive in let b = near.cross in absurd (omega arith)

-- ---- from 90 to 270

pub round_180_forth : (end : Interval → Fraction) (t m : Table) → IsTable m → first_of m.planes ≡ 90000000 → (c : Fraction) → c <ᶠ whole 360 → (q : ℕ)
    → (360000000 * q + 90000000) * c.den ≤ num_later c + 360000000 * c.den → num_later c + 360000000 * c.den ≤ (360000000 * q + 270000000) * c.den
    → ((y : Fraction) → IsMoved (turn_later c) y 360000000 (360000000 * q) → SameAcross end t m (turn_later c) y) → Seen end t m c (folded 90000000 270000000 c)
unfolding whole ◌-ᶠ◌ ◌+ᶠ◌ millionths
round_180_forth end t m im first c near zero low high same =
    let p = c.positive in let b = near.cross in absurd (omega arith)
round_180_forth end t m im first c near (suc zero) low high same =
    let p = c.positive in let b = near.cross in absurd (omega arith)
round_180_forth end t m im first c near (suc (suc zero)) low high same =
    let b = near.cross in let p = c.positive in
    let l : millionths 90000000 ≤ᶠ c = record { cross = omega arith } in let h : c ≤ᶠ millionths 270000000 = record { cross = omega arith } in
    rw (stays_within 90000000 270000000 c l h) (seen_moved end t m im c (c) 360000000 (360000000 * 2) 90000000 first same (omega arith) (omega arith) (omega arith))
round_180_forth end t m im first c near (suc (suc (suc q))) low high same =
    let p = c.positive in let b = near.cross in absurd (omega arith)

pub round_180_back : (end : Interval → Fraction) (t m : Table) → IsTable m → first_of m.planes ≡ 90000000 → (c : Fraction) → c <ᶠ whole 360 → (q : ℕ)
    → (360000000 * q + 270000000) * c.den ≤ num_later c + 360000000 * c.den → num_later c + 360000000 * c.den ≤ (360000000 * q + 450000000) * c.den
    → ((y : Fraction) → IsMirrored y (turn_later c) (360000000 * q + 540000000) 360000000 → SameAcross end t m (turn_later c) y) → Seen end t m c (folded 90000000 270000000 c)
unfolding whole ◌-ᶠ◌ ◌+ᶠ◌ millionths
round_180_back end t m im first c near zero low high same =
    let p = c.positive in let b = near.cross in absurd (omega arith)
round_180_back end t m im first c near (suc zero) low high same =
    let b = near.cross in let p = c.positive in
    elim (lt_or_le_f c (millionths 90000000)) [
      | inl g ↦ let kg = g.cross in let n : millionths 270000000 <ᶠ (c +ᶠ whole 360) = record { cross = omega arith } in let s : c ≤ᶠ whole 180 = record { cross = omega arith } in
          rw (turns_below 90000000 270000000 c g n) (mirrored_earlier end t m im c (360000000 * 1 + 540000000) 360000000 90000000 first same s (omega arith) (omega arith))
      | inr g ↦ let kg = g.cross in let h : c ≤ᶠ millionths 270000000 = record { cross = omega arith } in
          rw (stays_within 90000000 270000000 c g h) (seen_mirrored end t m im c (c) (360000000 * 1 + 540000000) 360000000 90000000 first same (omega arith) (omega arith) (omega arith))
    ]
round_180_back end t m im first c near (suc (suc zero)) low high same =
    let b = near.cross in let p = c.positive in
    elim (lt_or_le_f (millionths 270000000) c) [
      | inl g ↦ let kg = g.cross in let n : millionths 270000000 <ᶠ (c +ᶠ whole 360) = record { cross = omega arith } in
          rw (turns_above 90000000 270000000 c g n) (seen_mirrored end t m im c (whole 540 -ᶠ c) (360000000 * 2 + 540000000) 360000000 90000000 first same (omega arith) (omega arith) (omega arith))
      | inr g ↦ let kg = g.cross in let l : millionths 90000000 ≤ᶠ c = record { cross = omega arith } in
          rw (stays_within 90000000 270000000 c l g) (seen_mirrored end t m im c (c) (360000000 * 2 + 540000000) 360000000 90000000 first same (omega arith) (omega arith) (omega arith))
    ]
round_180_back end t m im first c near (suc (suc (suc q))) low high same =
    let p = c.positive in let b = near.cross in absurd (omega arith)
