-- What is printed of a route is right.
use Rattle.std.proofs.Common.{ℕ, ◌<◌, ◌≡◌, List, Option, Some, None, arith, refl}
use Rattle.std.specs.Prelude.{IfSome, MatchOption}
use Rattle.fx_base.specs.Ends.{Ends}
use Rattle.fx_base.specs.Fraction.{ratio}
use Rattle.fx_base.specs.Interval.{Interval, LiesIn}
use Rattle.fx_base.specs.Units.{natural, of_span, ticks}
use Rattle.fx_base.proofs.Hundredths.{hundredths_over, hundredths_over_near, hundredths_under, hundredths_under_near}
use Rattle.fx_base.proofs.Near.{meets_sym, meets_wider}
use Rattle.fx_base.proofs.Order.{add_le_f, le_refl_f, le_trans_f, sub_le_f}
use Rattle.fx_base.proofs.Ratios.{positive_above}
use Rattle.photo_table.specs.Table.{Table}
use Rattle.direct_light.specs.Tables.{AreTablesOf}
use Rattle.escape_route.specs.Found.{IsFound}
use Rattle.escape_route.specs.Laws.{printed, IsRightLight, IsRightRatio, RouteTextIsRight}
use Rattle.escape_route.specs.Ratios.{IsRatio, RatioHolds}

-- ---- a light

widened : (s : Ends) → LiesIn (of_span s) (printed s)
widened s = record { lower = hundredths_under (natural s.lo); upper = hundredths_over (natural s.hi) }

right_light : (photos tables : List Table) (exact loose : ℕ → List Table → Interval) (s : Ends) → AreTablesOf photos tables → IsFound photos exact loose s
    → IsRightLight (λ n. exact n tables) (λ n. loose n tables) s
right_light photos tables exact loose s are h = record {
  meets = λ n. meets_sym (meets_wider (meets_sym (h.meets tables are n)) (widened s));
  near = λ n. let k = h.near tables are n in record {
    lower = sub_le_f (loose n tables).lo (ratio 1 100) (le_trans_f k.lower (hundredths_under_near (natural s.lo)));
    upper = le_trans_f (hundredths_over_near (natural s.hi)) (add_le_f k.upper (le_refl_f (ratio 1 100)));
  };
}

-- ---- a ratio

positive_ticks : (t : ℕ) → 0 < (ticks t).num → t ≡ 0 → ⊥
unfolding ticks
positive_ticks t h e = omega (arith, h, e)

right_ratio : (photos tables : List Table) (least greatest loose_least loose_greatest : ℕ → List Table → Interval) (l g : Ends) (r : Option (ℕ × ℕ)) → AreTablesOf photos tables
    → IsFound photos least loose_least l → IsFound photos greatest loose_greatest g
    → MatchOption r (natural l.lo ≡ 0) (λ x. IsRatio l g x.0 x.1) → IfSome r (λ x. RatioHolds l g x.0 x.1)
    → IsRightRatio (λ n. least n tables) (λ n. greatest n tables) (λ n. loose_least n tables) (λ n. loose_greatest n tables) r
right_ratio photos tables least greatest loose_least loose_greatest l g None are found_l found_g is holds = record {
  in_order = tt;
  meets = λ n. tt;
  near = λ n. tt;
  given = λ n p. absurd (positive_ticks (natural l.lo) (positive_above p (found_l.near tables are n).lower) is);
}
right_ratio photos tables least greatest loose_least loose_greatest l g (Some x) are found_l found_g is holds = record {
  in_order = holds.in_order;
  meets = λ n. holds.meets (least n tables) (greatest n tables) (found_l.meets tables are n) (found_g.meets tables are n);
  near = λ n. holds.near (loose_least n tables) (loose_greatest n tables) (found_l.near tables are n) (found_g.near tables are n);
  given = λ n p. refl;
}

-- ---- the text

pub route_text_is_right : RouteTextIsRight
route_text_is_right photos tables of_files room route marked points e limits v text are extremes said = record {
  points = points;
  are = are;
  found = e;
  least_is = right_light photos tables _ _ e.least of_files extremes.least_found;
  greatest_is = right_light photos tables _ _ e.greatest of_files extremes.greatest_found;
  printed_ratio = said.ratio;
  ratio_is = right_ratio photos tables _ _ _ _ e.least e.greatest said.ratio of_files extremes.least_found extremes.greatest_found said.ratio_is said.ratio_holds;
  verdict_is = said.verdict_is;
  text_is = said.text_is;
}
