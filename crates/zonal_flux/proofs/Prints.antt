-- What is printed of a flux is right of the file's table.
use Rattle.std.proofs.Common.{ℕ, zero, suc, ◌*◌, ◌<◌, ◌≤◌, ◌≡◌, ◌↔◌, ◌≤ℤ◌, pos, List, [], ◌∷◌, map, slice_index_or, arith, sym}
use Rattle.std.proofs.lemmas.Bool.Decides.{nat_tests}
use Rattle.std.proofs.lemmas.List.{length-map}
use Rattle.fx_base.specs.Ends.{Ends}
use Rattle.fx_base.specs.Fraction.{◌≤ᶠ◌, ◌<ᶠ◌, ◌+ᶠ◌, ratio, whole}
use Rattle.fx_base.specs.Interval.{Interval, LiesIn, exact}
use Rattle.fx_base.specs.Units.{natural, of_span}
use Rattle.fx_base.proofs.Hundredths.{hundredths_under, hundredths_over, hundredths_under_near, hundredths_over_near}
use Rattle.fx_base.proofs.Near.{lies_in_refl, meets_sym, meets_wider}
use Rattle.fx_base.proofs.Order.{le_refl_f, le_trans_f, le_of_eq_f, add_le_f, add_comm_f, add_right_f, sub_le_f, sub_back_f}
use Rattle.fx_base.proofs.Rounding.{quotients-in_order, natural-mono}
use Rattle.limit_verdict.specs.Verdicts.{verdict}
use Rattle.limit_verdict.specs.declared.verdict.Verdict.TheVariants.{Met, Missed, Undecided}
use Rattle.photo_table.specs.Exact.{rounded}
use Rattle.photo_table.specs.Table.{Table}
use Rattle.photo_table.proofs.Exactly.{rounds_to_next_tick}
use Rattle.zonal_flux.specs.Fluxes.{down, up, total, allowance, LiesWithin, IsFlux}
use Rattle.zonal_flux.specs.Printed.{printed_lo, printed_hi}
use Rattle.zonal_flux.specs.Laws.{printed, IsRight, IsVerdictOn, RoundedHoldsExact, FluxTextIsRight}

-- ---- the exact table

within_at : (is : List Interval) (k : ℕ) → LiesIn (slice_index_or is k (exact (whole 0))) (slice_index_or (map rounded is) k (exact (whole 0)))
within_at [] k = lies_in_refl (exact (whole 0))
within_at (i ∷ is) zero = record { lower = (rounds_to_next_tick i.lo).0.below; upper = (rounds_to_next_tick i.hi).1.above }
within_at (i ∷ is) (suc k) = within_at is k

pub rounded_holds_exact : RoundedHoldsExact
rounded_holds_exact p t h = record {
  planes = sym h.planes;
  gammas = sym h.gammas;
  all_values = rw h.values (sym (length-map t.values rounded));
  in_order = λ k. le_of_eq_f (h.exact.each k);
  values = λ k. rw h.values (within_at t.values k);
}

-- ---- the printed interval

widened : (s : Ends) → LiesIn (of_span s) (printed s)
widened s = record { lower = hundredths_under (natural s.lo); upper = hundredths_over (natural s.hi) }

is_right : (flux : ℕ → Table → Interval) (p t : Table) (s : Ends) → LiesWithin t p → IsFlux flux p s → IsRight flux p t s
is_right flux p t s w h = record {
  meets = λ n. meets_sym (meets_wider (meets_sym (h.meets t w n)) (widened s));
  near = λ n m g. let k = h.near n m g in let a = allowance m in record {
    lower = sub_le_f (flux n p).lo (a +ᶠ ratio 1 100)
        (le_trans_f (sub_back_f (flux n p).lo a k.lower)
        (le_trans_f (add_le_f (hundredths_under_near (natural s.lo)) (le_refl_f a))
        (le_trans_f (add_right_f (printed s).lo (ratio 1 100) a) (add_le_f (le_refl_f (printed s).lo) (add_comm_f (ratio 1 100) a)))));
    upper = le_trans_f (hundredths_over_near (natural s.hi))
        (le_trans_f (add_le_f k.upper (le_refl_f (ratio 1 100))) (add_right_f (flux n p).hi a (ratio 1 100)));
  };
}

-- ---- the verdict

met_if : (least lo hi : ℕ) → (verdict least lo hi ≡ Met) ↔ (least ≤ lo)
met_if least lo hi = grind (arith, nat_tests)

missed_if : (least lo hi : ℕ) → lo ≤ hi → (verdict least lo hi ≡ Missed) ↔ (hi < least)
missed_if least lo hi h = grind (arith, nat_tests)

undecided_if : (least lo hi : ℕ) → lo ≤ hi → (verdict least lo hi ≡ Undecided) ↔ ((lo < least) × (least ≤ hi))
undecided_if least lo hi h = grind (arith, nat_tests)

reaches : (lumens lo : ℕ) → lumens * 100 ≤ lo → whole lumens ≤ᶠ ratio lo 100
unfolding whole ratio
reaches lumens lo h = record { cross = omega arith }

reached : (lumens lo : ℕ) → whole lumens ≤ᶠ ratio lo 100 → lumens * 100 ≤ lo
unfolding whole ratio
reached lumens lo h = let g = h.cross in omega arith

lies_below : (lumens hi : ℕ) → hi < lumens * 100 → ratio hi 100 <ᶠ whole lumens
unfolding whole ratio
lies_below lumens hi h = record { cross = omega arith }

lay_below : (lumens hi : ℕ) → ratio hi 100 <ᶠ whole lumens → hi < lumens * 100
unfolding whole ratio
lay_below lumens hi h = let g = h.cross in omega arith

is_verdict : (lumens lo hi : ℕ) → lo ≤ hi → IsVerdictOn (record { lo = ratio lo 100; hi = ratio hi 100 }) lumens (verdict (lumens * 100) lo hi)
is_verdict lumens lo hi h =
    let a = met_if (lumens * 100) lo hi in
    let b = missed_if (lumens * 100) lo hi h in
    let c = undecided_if (lumens * 100) lo hi h in
    record {
      met = (λ e. reaches lumens lo (a.0 e), λ g. a.1 (reached lumens lo g));
      missed = (λ e. lies_below lumens hi (b.0 e), λ g. b.1 (lay_below lumens hi g));
      undecided = (λ e. (lies_below lumens lo (c.0 e).0, reaches lumens hi (c.0 e).1), λ g. c.1 (lay_below lumens lo g.0, reached lumens hi g.1));
    }

printed_in_order : (s : Ends) → pos 0 ≤ℤ s.lo → s.lo ≤ℤ s.hi → printed_lo s ≤ printed_hi s
printed_in_order s low order =
    let g = natural-mono s.lo s.hi low order in
    quotients-in_order (natural s.lo * 100) 68719476736 (natural s.hi * 100) 68719476736 (omega (arith, g)) (omega arith) (omega arith)

-- ---- the text

pub flux_text_is_right : FluxTextIsRight
flux_text_is_right p t h lumens text x =
    let w = rounded_holds_exact p t h in
    let f = x.flux in
    let total_of = x.of_table.total_is in
    record {
      flux = f;
      down_is = is_right down p t f.down w x.of_table.down_is;
      up_is = is_right up p t f.up w x.of_table.up_is;
      total_is = is_right total p t f.total w total_of;
      verdict_is = is_verdict lumens (printed_lo f.total) (printed_hi f.total) (printed_in_order f.total total_of.low total_of.in_order);
      text_is = x.text_is;
    }
