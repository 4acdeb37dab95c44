-- How a flux is printed: in lumens with two decimals, rounded outward, and compared with a number of lumens.
use Rattle.std.specs.Prelude.{ℕ, ◌≡◌, ◌*◌, ◌^◌, ◌≤◌, ◌≤ℤ◌, pos, List, ◌++◌, codes, decimal}
use Rattle.fx_base.specs.Ends.{Ends}
use Rattle.fx_base.specs.Rounded.{hundredths_below, hundredths_above}
use Rattle.fx_base.specs.Units.{natural}
use Rattle.decimal_text.specs.Decimals.{hundredths}
use Rattle.decimal_text.specs.Lines.{line}
use Rattle.limit_verdict.specs.Verdicts.{verdict, verdict_word}
use Rattle.limit_verdict.specs.declared.verdict.Verdict.{Verdict}
use Rattle.photo_table.specs.Table.{Table}
use Rattle.zonal_flux.specs.Fluxes.{IsFluxOf}
use Rattle.zonal_flux.specs.declared.fluxes.Flux.{Flux}

-- the ends that are printed of a span, in hundredths
abbrev pub printed_lo : Ends → ℕ
printed_lo span = hundredths_below (natural span.lo)

abbrev pub printed_hi : Ends → ℕ
printed_hi span = hundredths_above (natural span.hi)

abbrev pub ends_text : Ends → List ℕ
ends_text span = hundredths (printed_lo span) ++ codes " " ++ hundredths (printed_hi span)

-- whether the printed total reaches so many lumens
abbrev pub against : Flux → ℕ → Verdict
against flux lumens = verdict (lumens * 100) (printed_lo flux.total) (printed_hi flux.total)

-- the four lines
abbrev pub flux_lines : Flux → ℕ → List ℕ
flux_lines flux lumens =
    line (codes "down " ++ ends_text flux.down) ++ line (codes "up " ++ ends_text flux.up) ++ line (codes "flux " ++ ends_text flux.total)
    ++ line (codes "against " ++ decimal lumens ++ codes " " ++ verdict_word (against flux lumens))

-- ends from 0 to 2^90 ticks
abbrev pub IsPrintable : Ends → Type 0
IsPrintable span = (pos 0 ≤ℤ span.lo) × (natural span.hi ≤ 2 ^ 90)

-- the text has the four lines of a flux of the table p
pub record IsFluxText (p : Table) (lumens : ℕ) (text : List ℕ) : Type 0 where
  pub flux : Flux
  pub of_table : IsFluxOf p flux
  pub text_is : text ≡ flux_lines flux lumens
