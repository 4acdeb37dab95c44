-- The angle that a direction has the intensity of is the one that stands for it.
use Rattle.std.proofs.Common.{ℕ, zero, suc, ◌+◌, ◌*◌, ◌≤◌, ◌≡◌, arith, ap, inl, inr}
use Rattle.fx_base.specs.Fraction.{Fraction, ◌≤ᶠ◌, ◌<ᶠ◌, ◌≈ᶠ◌, ◌+ᶠ◌, ◌-ᶠ◌, at_most, whole}
use Rattle.fx_base.specs.Interval.{Interval}
use Rattle.fx_base.specs.Units.{millionths}
use Rattle.fx_base.proofs.Order.{eq_sym_f, eq_trans_f, lt_or_le_f, at_most_true, at_most_not}
use Rattle.fx_base.proofs.Truth.{if_false, if_true}
use Rattle.photo_table.specs.Angles.{turn_later}
use Rattle.photo_table.specs.Table.{Table, IsTable, plane, end_at}
use Rattle.photo_table.proofs.Tables.{end_moved}
use Rattle.photo_table.proofs.HullLaws.{first_is}
use Rattle.symmetry_expand.specs.Fold.{mirror_0, mirror_90}
use Rattle.symmetry_expand.specs.Steps.{first_of}
use Rattle.symmetry_expand.proofs.Mirrors.{IsMoved, IsMirrored}
use Rattle.symmetry_expand.proofs.Ways.{SameAcross}

-- ---- the mirrors, by cases

pub mirror_0_stays : (c : Fraction) → c ≤ᶠ whole 180 → mirror_0 c ≡ c
unfolding mirror_0
mirror_0_stays c h = if_true (at_most c (whole 180)) c (whole 360 -ᶠ c) (at_most_true h)

pub mirror_0_turns : (c : Fraction) → whole 180 <ᶠ c → mirror_0 c ≡ whole 360 -ᶠ c
unfolding mirror_0
mirror_0_turns c h = if_false (at_most c (whole 180)) c (whole 360 -ᶠ c) (at_most_not h)

pub mirror_90_stays : (c : Fraction) → c ≤ᶠ whole 90 → mirror_90 c ≡ c
unfolding mirror_90
mirror_90_stays c h = if_true (at_most c (whole 90)) c (whole 180 -ᶠ c) (at_most_true h)

pub mirror_90_turns : (c : Fraction) → whole 90 <ᶠ c → mirror_90 c ≡ whole 180 -ᶠ c
unfolding mirror_90
mirror_90_turns c h = if_false (at_most c (whole 90)) c (whole 180 -ᶠ c) (at_most_not h)

-- ---- x has the intensity of y, and so that of z some turns later

pub turned_same : (end : Interval → Fraction) (t m : Table) → IsTable m → (x y z : Fraction) (turns : ℕ) → SameAcross end t m x y → millionths (first_of m.planes) ≤ᶠ y
    → z ≈ᶠ (y +ᶠ whole (360 * turns)) → (g : Fraction) → end_at end t x g ≈ᶠ end_at end m z g
turned_same end t m im x y z turns s low e g =
    let first : millionths (plane m 0) ≤ᶠ y = rw (first_is m im) low in
    eq_trans_f (s.same g) (eq_sym_f (end_moved end m im turns y z g first e))

-- y is z a turn earlier
once : (y : Fraction) → turn_later y ≈ᶠ (y +ᶠ whole (360 * 1))
unfolding turn_later ◌+ᶠ◌ whole
once y = record { cross = omega arith }

-- in the direction C the table t has the intensity that m has in the direction f
abbrev pub Seen : (Interval → Fraction) → Table → Table → Fraction → Fraction → Type 0
Seen end t m c f = (g : Fraction) → end_at end t (turn_later c) g ≈ᶠ end_at end m (turn_later f) g

seen_at : (end : Interval → Fraction) (t m : Table) → IsTable m → (c y : Fraction) → SameAcross end t m (turn_later c) y → millionths (first_of m.planes) ≤ᶠ y → Seen end t m c y
seen_at end t m im c y s low = turned_same end t m im (turn_later c) y (turn_later y) 1 s low (once y)

-- C and y over one denominator: y is C moved, or mirrored
pub moved_alike : (x y : Fraction) (a b : ℕ) → y.den ≡ x.den → x.num * 1000000 + a * x.den ≡ y.num * 1000000 + b * x.den → IsMoved x y a b
moved_alike x y a b e h = record { cross = rw e (ap (λ (z : ℕ). z * x.den) h) }

pub mirrored_alike : (x y : Fraction) (a b : ℕ) → y.den ≡ x.den → y.num * 1000000 + x.num * 1000000 + b * x.den ≡ a * x.den → IsMirrored y x a b
mirrored_alike x y a b e h = record { cross = rw e (omega (arith, ap (λ (z : ℕ). z * x.den) h)) }

abbrev pub num_later : Fraction → ℕ
num_later c = (c.num + 360 * c.den) * 1000000

pub seen_moved : (end : Interval → Fraction) (t m : Table) → IsTable m → (c y : Fraction) (a b first : ℕ) → first_of m.planes ≡ first
    → ((y : Fraction) → IsMoved (turn_later c) y a b → SameAcross end t m (turn_later c) y) → y.den ≡ c.den → num_later c + a * c.den ≡ y.num * 1000000 + b * c.den
    → first * c.den ≤ y.num * 1000000 → Seen end t m c y
unfolding turn_later millionths
seen_moved end t m im c y a b first f same e h low =
    seen_at end t m im c y (same y (moved_alike (turn_later c) y a b e h)) (record { cross = rw (f, e) low })

pub seen_mirrored : (end : Interval → Fraction) (t m : Table) → IsTable m → (c y : Fraction) (a b first : ℕ) → first_of m.planes ≡ first
    → ((y : Fraction) → IsMirrored y (turn_later c) a b → SameAcross end t m (turn_later c) y) → y.den ≡ c.den → y.num * 1000000 + num_later c + b * c.den ≡ a * c.den
    → first * c.den ≤ y.num * 1000000 → Seen end t m c y
unfolding turn_later millionths
seen_mirrored end t m im c y a b first f same e h low =
    seen_at end t m im c y (same y (mirrored_alike (turn_later c) y a b e h)) (record { cross = rw (f, e) low })

-- ---- mirrored at 0 and 180

pub across_0_forth : (end : Interval → Fraction) (t m : Table) → IsTable m → first_of m.planes ≡ 0 → (c : Fraction) → c <ᶠ whole 360 → (q : ℕ)
    → (360000000 * q + 0) * c.den ≤ num_later c + 0 * c.den → num_later c + 0 * c.den ≤ (360000000 * q + 180000000) * c.den
    → ((y : Fraction) → IsMoved (turn_later c) y 0 (360000000 * q) → SameAcross end t m (turn_later c) y) → Seen end t m c (mirror_0 c)
unfolding whole ◌-ᶠ◌
across_0_forth end t m im first c below zero low high same =
    let p = c.positive in let b = below.cross in absurd (omega arith)
across_0_forth end t m im first c below (suc zero) low high same =
    let b = below.cross in let p = c.positive in let h : c ≤ᶠ whole 180 = record { cross = omega arith } in
    rw (mirror_0_stays c h) (seen_moved end t m im c (c) 0 (360000000 * 1) 0 first same (omega arith) (omega arith) (omega arith))
across_0_forth end t m im first c below (suc (suc q)) low high same =
    let p = c.positive in let b = below.cross in absurd (omega arith)

pub across_0_back : (end : Interval → Fraction) (t m : Table) → IsTable m → first_of m.planes ≡ 0 → (c : Fraction) → c <ᶠ whole 360 → (q : ℕ)
    → (360000000 * q + 180000000) * c.den ≤ num_later c + 0 * c.den → num_later c + 0 * c.den ≤ (360000000 * q + 360000000) * c.den
    → ((y : Fraction) → IsMirrored y (turn_later c) (360000000 * q + 360000000) 0 → SameAcross end t m (turn_later c) y) → Seen end t m c (mirror_0 c)
unfolding whole ◌-ᶠ◌
across_0_back end t m im first c below zero low high same =
    let b = below.cross in let p = c.positive in let h : c ≤ᶠ whole 180 = record { cross = omega arith } in
    rw (mirror_0_stays c h) (seen_mirrored end t m im c (c) (360000000 * 0 + 360000000) 0 0 first same (omega arith) (omega arith) (omega arith))
across_0_back end t m im first c below (suc zero) low high same =
    let b = below.cross in let p = c.positive in elim (lt_or_le_f (whole 180) c) [
      | inl h ↦ let k = h.cross in rw (mirror_0_turns c h) (seen_mirrored end t m im c (whole 360 -ᶠ c) (360000000 * 1 + 360000000) 0 0 first same (omega arith) (omega arith) (omega arith))
      | inr h ↦ let k = h.cross in rw (mirror_0_stays c h) (seen_mirrored end t m im c (c) (360000000 * 1 + 360000000) 0 0 first same (omega arith) (omega arith) (omega arith))
    ]
across_0_back end t m im first c below (suc (suc q)) low high same =
    let p = c.positive in let b = below.cross in absurd (omega arith)

-- ---- mirrored at both

pub both_forth : (end : Interval → Fraction) (t m : Table) → IsTable m → first_of m.planes ≡ 0 → (c : Fraction) → c <ᶠ whole 360 → (q : ℕ)
    → (180000000 * q + 0) * c.den ≤ num_later c + 0 * c.den → num_later c + 0 * c.den ≤ (180000000 * q + 90000000) * c.den
    → ((y : Fraction) → IsMoved (turn_later c) y 0 (180000000 * q) → SameAcross end t m (turn_later c) y) → Seen end t m c (mirror_90 (mirror_0 c))
unfolding whole ◌-ᶠ◌
both_forth end t m im first c below zero low high same =
    let p = c.positive in let b = below.cross in absurd (omega arith)
both_forth end t m im first c below (suc zero) low high same =
    let p = c.positive in let b = below.cross in absurd (omega arith)
both_forth end t m im first c below (suc (suc zero)) low high same =
    let b = below.cross in let p = c.positive in let h0 : c ≤ᶠ whole 180 = record { cross = omega arith } in let h9 : c ≤ᶠ whole 90 = record { cross = omega arith } in
    rw (mirror_0_stays c h0, mirror_90_stays c h9) (seen_moved end t m im c (c) 0 (180000000 * 2) 0 first same (omega arith) (omega arith) (omega arith))
both_forth end t m im first c below (suc (suc (suc zero))) low high same =
    let b = below.cross in let p = c.positive in elim (lt_or_le_f (whole 180) c) [
      | inl h ↦ let k = h.cross in rw (mirror_0_turns c h) (elim (lt_or_le_f (whole 90) (whole 360 -ᶠ c)) [
        | inl l ↦ let n = l.cross in rw (mirror_90_turns (whole 360 -ᶠ c) l) (seen_moved end t m im c (whole 180 -ᶠ (whole 360 -ᶠ c)) 0 (180000000 * 3) 0 first same (omega arith) (omega arith) (omega arith))
        | inr l ↦ let n = l.cross in rw (mirror_90_stays (whole 360 -ᶠ c) l) (seen_moved end t m im c (whole 360 -ᶠ c) 0 (180000000 * 3) 0 first same (omega arith) (omega arith) (omega arith))
      ])
      | inr h ↦ let k = h.cross in rw (mirror_0_stays c h) (let l : whole 90 <ᶠ c = record { cross = omega arith } in rw (mirror_90_turns c l) (seen_moved end t m im c (whole 180 -ᶠ c) 0 (180000000 * 3) 0 first same (omega arith) (omega arith) (omega arith)))
    ]
both_forth end t m im first c below (suc (suc (suc (suc q)))) low high same =
    let p = c.positive in let b = below.cross in absurd (omega arith)

pub both_back : (end : Interval → Fraction) (t m : Table) → IsTable m → first_of m.planes ≡ 0 → (c : Fraction) → c <ᶠ whole 360 → (q : ℕ)
    → (180000000 * q + 90000000) * c.den ≤ num_later c + 0 * c.den → num_later c + 0 * c.den ≤ (180000000 * q + 180000000) * c.den
    → ((y : Fraction) → IsMirrored y (turn_later c) (180000000 * q + 180000000) 0 → SameAcross end t m (turn_later c) y) → Seen end t m c (mirror_90 (mirror_0 c))
unfolding whole ◌-ᶠ◌
both_back end t m im first c below zero low high same =
    let p = c.positive in let b = below.cross in absurd (omega arith)
both_back end t m im first c below (suc zero) low high same =
    let b = below.cross in let p = c.positive in let h0 : c ≤ᶠ whole 180 = record { cross = omega arith } in let h9 : c ≤ᶠ whole 90 = record { cross = omega arith } in
    rw (mirror_0_stays c h0, mirror_90_stays c h9) (seen_mirrored end t m im c (c) (180000000 * 1 + 180000000) 0 0 first same (omega arith) (omega arith) (omega arith))
both_back end t m im first c below (suc (suc zero)) low high same =
    let b = below.cross in let p = c.positive in let h0 : c ≤ᶠ whole 180 = record { cross = omega arith } in rw (mirror_0_stays c h0) (elim (lt_or_le_f (whole 90) c) [
      | inl l ↦ let n = l.cross in rw (mirror_90_turns c l) (seen_mirrored end t m im c (whole 180 -ᶠ c) (180000000 * 2 + 180000000) 0 0 first same (omega arith) (omega arith) (omega arith))
      | inr l ↦ let n = l.cross in rw (mirror_90_stays c l) (seen_mirrored end t m im c (c) (180000000 * 2 + 180000000) 0 0 first same (omega arith) (omega arith) (omega arith))
    ])
both_back end t m im first c below (suc (suc (suc zero))) low high same =
    let b = below.cross in let p = c.positive in let h : whole 180 <ᶠ c = record { cross = omega arith } in
    rw (mirror_0_turns c h) (let l : (whole 360 -ᶠ c) ≤ᶠ whole 90 = record { cross = omega arith } in rw (mirror_90_stays (whole 360 -ᶠ c) l) (seen_mirrored end t m im c (whole 360 -ᶠ c) (180000000 * 3 + 180000000) 0 0 first same (omega arith) (omega arith) (omega arith)))
both_back end t m im first c below (suc (suc (suc (suc q)))) low high same =
    let p = c.positive in let b = below.cross in absurd (omega arith)
