-- What each refusal of a system says of it.
use Rattle.interval_system.specs.System.{System, IsFirstHeavy}
use Rattle.radiosity_solve.specs.declared.fault.SolveFault.{SolveFault}
use Rattle.radiosity_solve.specs.declared.fault.SolveFault.TheVariants.{RowSum, Memory}

-- the row named is the first heavy one; want of memory says nothing
abbrev pub IsCause : System → SolveFault → Type 0
IsCause s (RowSum h) = IsFirstHeavy s.rows h.row h.upper
IsCause s Memory = Unit {0}
