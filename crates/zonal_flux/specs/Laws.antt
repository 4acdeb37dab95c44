-- What holds of the flux of a file's table, and of what is printed of it.
use Rattle.std.specs.Prelude.{ℕ, ◌+◌, ◌*◌, ◌≡◌, ◌↔◌, List}
use Rattle.fx_base.specs.Fraction.{◌≤ᶠ◌, ◌<ᶠ◌, ◌+ᶠ◌, ◌*ᶠ◌, ratio, whole}
use Rattle.fx_base.specs.Interval.{Interval, Meets, LiesIn, outward, sum_of}
use Rattle.fx_base.specs.Ends.{Ends}
use Rattle.fx_base.specs.Units.{ticks}
use Rattle.limit_verdict.specs.declared.verdict.Verdict.{Verdict}
use Rattle.limit_verdict.specs.declared.verdict.Verdict.TheVariants.{Met, Missed, Undecided}
use Rattle.photo_table.specs.Table.{Table, upper}
use Rattle.photo_table.specs.Kept.{IsGreatest, even_table}
use Rattle.photo_table.specs.Exact.{IsRoundedOf}
use Rattle.series_enclose.specs.Series.{pi}
use Rattle.zonal_flux.specs.Zones.{constant, twice}
use Rattle.zonal_flux.specs.Fluxes.{down, up, total, allowance, LiesWithin}
use Rattle.zonal_flux.specs.Printed.{printed_lo, printed_hi, against, flux_lines, IsFluxText}
use Rattle.zonal_flux.specs.declared.fluxes.Flux.{Flux}

-- a file's exact table lies within the one that the program keeps of it, whose intensities are rounded outward to ticks
abbrev pub RoundedHoldsExact : Type 0
RoundedHoldsExact = (p t : Table) → IsRoundedOf p t → LiesWithin t p

-- ---- known bodies

-- the zones below the level plane make half a sphere together, 2 pi, and so do those above it
abbrev pub ZonesMakeHalfSpheres : Type 0
ZonesMakeHalfSpheres = (n : ℕ) → Meets (sum_of 18 (constant n)) (twice (pi n)) × Meets (sum_of 18 (λ i. constant n (18 + i))) (twice (pi n))

-- a lamp that shines evenly by so many candela sends 4 pi times as many lumens
abbrev pub EvenLampSendsSphere : Type 0
EvenLampSendsSphere = (candela n : ℕ) → Meets (total n (even_table candela)) (record { lo = whole (4 * candela) *ᶠ (pi n).lo; hi = whole (4 * candela) *ᶠ (pi n).hi })

-- ---- what is printed

-- the printed interval, in lumens
abbrev pub printed : Ends → Interval
printed span = record { lo = ratio (printed_lo span) 100; hi = ratio (printed_hi span) 100 }

-- what is printed of a flux meets, at every depth, the flux of the exact table t, and lies within that of the program's table p
-- moved outward by the allowance and a hundredth of a lumen
pub record IsRight (flux : ℕ → Table → Interval) (p t : Table) (span : Ends) : Type 0 where
  pub meets : (n : ℕ) → Meets (printed span) (flux n t)
  pub near : (n m : ℕ) → IsGreatest upper p (ticks m) → LiesIn (printed span) (outward (allowance m +ᶠ ratio 1 100) (flux n p))

-- met exactly where the whole interval reaches so many lumens, missed where it lies below them, and undecided where it has both sides
pub record IsVerdictOn (interval : Interval) (lumens : ℕ) (v : Verdict) : Type 0 where
  pub met : (v ≡ Met) ↔ (whole lumens ≤ᶠ interval.lo)
  pub missed : (v ≡ Missed) ↔ (interval.hi <ᶠ whole lumens)
  pub undecided : (v ≡ Undecided) ↔ ((interval.lo <ᶠ whole lumens) × (whole lumens ≤ᶠ interval.hi))

-- the text has the lines of a flux of which all three printed intervals are right, and the verdict is that on the printed total
pub record IsRightText (p t : Table) (lumens : ℕ) (text : List ℕ) : Type 0 where
  pub flux : Flux
  pub down_is : IsRight down p t flux.down
  pub up_is : IsRight up p t flux.up
  pub total_is : IsRight total p t flux.total
  pub verdict_is : IsVerdictOn (printed flux.total) lumens (against flux lumens)
  pub text_is : text ≡ flux_lines flux lumens

-- the text of a flux of the program's table is right of the file's
abbrev pub FluxTextIsRight : Type 0
FluxTextIsRight = (p t : Table) → IsRoundedOf p t → (lumens : ℕ) (text : List ℕ) → IsFluxText p lumens text → IsRightText p t lumens text
