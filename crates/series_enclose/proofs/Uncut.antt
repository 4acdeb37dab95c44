-- Nothing in the definitions is cut at 0.
use Rattle.std.proofs.Common.{ℕ}
use Rattle.fx_base.specs.Fraction.{whole}
use Rattle.fx_base.proofs.Order.{le_refl_f, le_trans_f, mul_le_f}
use Rattle.series_enclose.specs.Series.{arctan_term, one_fifth, one_of_239, sine_term, cosine_term, pi, radians}
use Rattle.series_enclose.specs.Laws.{ArctanIsUncut, IsMachinUncut, SineIsUncut, CosineIsUncut}
use Rattle.series_enclose.proofs.Alternating.{term_le_upper, lower_le_upper}
use Rattle.series_enclose.proofs.Terms.{sine_falls, cosine_falls}
use Rattle.series_enclose.proofs.PiLaws.{fifth_falls, of_239_falls, machin_uncut}
use Rattle.series_enclose.proofs.Arcs.{arc_low_one, arc_high_one}

pub arctan_uncut : ArctanIsUncut
arctan_uncut = (term_le_upper (arctan_term one_fifth) fifth_falls, term_le_upper (arctan_term one_of_239) of_239_falls)

pub pi_uncut : (n : ℕ) → IsMachinUncut n
pi_uncut n = record {
  lower_end = machin_uncut n;
  upper_end = le_trans_f (mul_le_f (le_refl_f (whole 4)) (lower_le_upper (arctan_term one_of_239) n))
      (le_trans_f (machin_uncut n) (mul_le_f (le_refl_f (whole 16)) (lower_le_upper (arctan_term one_fifth) n)));
}

pub sine_uncut : SineIsUncut
sine_uncut depth g h =
    let x = (radians (pi depth) g).lo in
    let y = (radians (pi depth) g).hi in
    (term_le_upper (sine_term x) (sine_falls x (arc_low_one depth g h)), term_le_upper (sine_term y) (sine_falls y (arc_high_one depth g h)))

pub cosine_uncut : CosineIsUncut
cosine_uncut depth g h =
    let x = (radians (pi depth) g).lo in
    let y = (radians (pi depth) g).hi in
    (term_le_upper (cosine_term x) (cosine_falls x (arc_low_one depth g h)), term_le_upper (cosine_term y) (cosine_falls y (arc_high_one depth g h)))
