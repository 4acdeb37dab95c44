-- The intensity in twelve directions of unfolded tables. The values are those of a program in Python, with its own fractions, that
-- looks up the measured planes at the angle that stands for C.
use Rattle.std.specs.Prelude.{ℕ, ◌≡◌, Bool, true, ◌&&◌, List, [], ◌∷◌, refl}
use Rattle.std.proofs.Common.{lit≤}
use Rattle.fx_base.specs.Fraction.{Fraction, ◌-ᶠ◌, ratio, whole, at_most}
use Rattle.fx_base.specs.Interval.{Interval, exact}
use Rattle.fx_base.specs.Units.{millionths}
use Rattle.photo_table.specs.Table.{Table, bilinear}
use Rattle.photo_table.specs.Tests.{computed}
use Rattle.symmetry_expand.specs.declared.symmetry.Symmetry.TheVariants.{None, Axis, Plane0, Plane90, Both}
use Rattle.symmetry_expand.specs.AllRound.{all_round}
use Rattle.symmetry_expand.specs.Fold.{IsMeasuredAngle, fold, is_measured, mirror_0}
use Rattle.symmetry_expand.specs.PlaneTests.{unfolded}

abbrev is : Interval → Fraction → Bool
is i a = at_most i.lo a && (at_most a i.lo && (at_most i.hi a && at_most a i.hi))

abbrev row : ℕ → ℕ → ℕ → List Interval → List Interval
unfolding computed
row a b c more = exact (whole a) ∷ exact (whole b) ∷ exact (whole c) ∷ more

abbrev at_gammas : List ℕ → List Interval → Table
at_gammas planes values = record { planes = planes; gammas = 0 ∷ 60000000 ∷ 90000000 ∷ []; values = values }

abbrev m_plane0 : Table
unfolding computed
m_plane0 = at_gammas (0 ∷ 50000000 ∷ 180000000 ∷ []) (row 10 20 5 (row 40 8 4 (row 12 30 0 ([]))))

abbrev m_both : Table
unfolding computed
m_both = at_gammas (0 ∷ 30000000 ∷ 90000000 ∷ []) (row 10 20 5 (row 40 8 4 (row 12 30 0 ([]))))

abbrev m_plane90 : Table
unfolding computed
m_plane90 = at_gammas (270000000 ∷ 340000000 ∷ 400000000 ∷ 450000000 ∷ []) (row 10 20 5 (row 40 8 4 (row 12 30 0 (row 7 9 11 ([])))))

abbrev m_plane90b : Table
unfolding computed
m_plane90b = at_gammas (90000000 ∷ 100000000 ∷ 200000000 ∷ 270000000 ∷ []) (row 10 20 5 (row 40 8 4 (row 12 30 0 (row 7 9 11 ([])))))

abbrev m_axis : Table
unfolding computed
m_axis = at_gammas (70000000 ∷ []) (row 10 20 5 ([]))

abbrev m_none : Table
unfolding computed
m_none = at_gammas (0 ∷ 50000000 ∷ []) (row 10 20 5 (row 40 8 4 ([])))

plane0_at_200_and_30 : is (bilinear (all_round Plane0 m_plane0) (whole 200) (whole 30)) (ratio 279 13) ≡ true
unfolding computed unfolded
plane0_at_200_and_30 = refl

plane0_at_310_and_75 : is (bilinear (all_round Plane0 m_plane0) (whole 310) (whole 75)) (ratio 6 1) ≡ true
unfolding computed unfolded
plane0_at_310_and_75 = refl

both_at_100_and_30 : is (bilinear (all_round Both m_both) (whole 100) (whole 30)) (ratio 43 2) ≡ true
unfolding computed unfolded
both_at_100_and_30 = refl

both_at_350_and_80 : is (bilinear (all_round Both m_both) (whole 350) (whole 80)) (ratio 76 9) ≡ true
unfolding computed unfolded
both_at_350_and_80 = refl

both_at_225_and_45 : is (bilinear (all_round Both m_both) (whole 225) (whole 45)) (ratio 147 8) ≡ true
unfolding computed unfolded
both_at_225_and_45 = refl

plane90_at_180_and_30 : is (bilinear (all_round Plane90 m_plane90) (whole 180) (whole 30)) (ratio 23 1) ≡ true
unfolding computed unfolded
plane90_at_180_and_30 = refl

plane90_at_300_and_70 : is (bilinear (all_round Plane90 m_plane90) (whole 300) (whole 70)) (ratio 80 7) ≡ true
unfolding computed unfolded
plane90_at_300_and_70 = refl

plane90b_at_10_and_30 : is (bilinear (all_round Plane90 m_plane90b) (whole 10) (whole 30)) (ratio 219 10) ≡ true
unfolding computed unfolded
plane90b_at_10_and_30 = refl

plane90b_at_330_and_75 : is (bilinear (all_round Plane90 m_plane90b) (whole 330) (whole 75)) (ratio 100 7) ≡ true
unfolding computed unfolded
plane90b_at_330_and_75 = refl

axis_at_123_and_30 : is (bilinear (all_round Axis m_axis) (whole 123) (whole 30)) (ratio 15 1) ≡ true
unfolding computed unfolded
axis_at_123_and_30 = refl

none_at_230_and_30 : is (bilinear (all_round None m_none) (whole 230) (whole 30)) (ratio 582 31) ≡ true
unfolding computed unfolded
none_at_230_and_30 = refl

plane90_at_95_and_0 : is (bilinear (all_round Plane90 m_plane90) (whole 95) (whole 0)) (ratio 15 2) ≡ true
unfolding computed unfolded
plane90_at_95_and_0 = refl

-- ---- which half-planes there are

-- mirrored at 0, 310 degrees stand for the measured 50
folded_to_50 : IsMeasuredAngle (0 ∷ 50000000 ∷ 180000000 ∷ []) (fold Plane0 [] (millionths 310000000))
unfolding computed ◌-ᶠ◌ fold mirror_0
folded_to_50 = record { place = 1; within = lit≤ tt; turns = 0; turns_of_it = 0; is = record { cross = refl } }

-- mirrored at 90, 0 degrees stand for the measured 180, by the way of 540
folded_to_180 : IsMeasuredAngle (90000000 ∷ 180000000 ∷ 270000000 ∷ []) (fold Plane90 (90000000 ∷ 180000000 ∷ 270000000 ∷ []) (millionths 0))
unfolding computed ◌-ᶠ◌ fold is_measured
folded_to_180 = record { place = 1; within = lit≤ tt; turns = 0; turns_of_it = 1; is = record { cross = refl } }
