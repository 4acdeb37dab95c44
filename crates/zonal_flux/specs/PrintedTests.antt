-- The lines of fluxes, computed.
use Rattle.std.specs.Prelude.{◌≡◌, refl, codes, pos, [], ◌∷◌}
use Rattle.std.specs.Fmt.{digits}
use Rattle.limit_verdict.specs.declared.verdict.Verdict.TheVariants.{Met, Missed, Undecided}
use Rattle.zonal_flux.specs.Printed.{against, flux_lines}
use Rattle.zonal_flux.specs.declared.fluxes.Flux.{Flux}

-- 400 pi lm downward and 400 pi lm upward are 86355441308940.9 ticks each, 800 pi are 172710882617881.8: 1256.637 and 2513.274 lm
abbrev even_200 : Flux
even_200 = record {
  down = record { lo = pos 86355441308940; hi = pos 86355441308941 };
  up = record { lo = pos 86355441308940; hi = pos 86355441308941 };
  total = record { lo = pos 172710882617881; hi = pos 172710882617882 };
}

met_lines : flux_lines even_200 2500 ≡ codes "down 1256.63 1256.64\nup 1256.63 1256.64\nflux 2513.27 2513.28\nagainst 2500 met\n"
unfolding digits
met_lines = refl

missed_lines : flux_lines even_200 2514 ≡ codes "down 1256.63 1256.64\nup 1256.63 1256.64\nflux 2513.27 2513.28\nagainst 2514 missed\n"
unfolding digits
missed_lines = refl

-- 1000 lm and a tick to either side: printed 999.99 1000.01
abbrev near_1000 : Flux
near_1000 = record {
  down = record { lo = pos 68719476735999; hi = pos 68719476736001 };
  up = record { lo = pos 0; hi = pos 0 };
  total = record { lo = pos 68719476735999; hi = pos 68719476736001 };
}

-- a printed end that is the number itself reaches it
verdicts_near_1000 : against near_1000 999 ∷ against near_1000 1000 ∷ against near_1000 1001 ∷ [] ≡ Met ∷ Undecided ∷ Missed ∷ []
verdicts_near_1000 = refl

near_lines : flux_lines near_1000 1000 ≡ codes "down 999.99 1000.01\nup 0.00 0.00\nflux 999.99 1000.01\nagainst 1000 undecided\n"
unfolding digits
near_lines = refl
