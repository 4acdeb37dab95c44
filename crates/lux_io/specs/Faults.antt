-- What a fault of the shelf is to the one who takes a whole file.
use Rattle.lux_io.specs.declared.shelf.OpenFault.{OpenFault}
use Rattle.lux_io.specs.declared.shelf.OpenFault.TheVariants as opening
use Rattle.lux_io.specs.declared.take.TakeFault.{TakeFault}
use Rattle.lux_io.specs.declared.take.TakeFault.TheVariants as taking

abbrev pub of_open : OpenFault → TakeFault
of_open opening.Absent = taking.Absent
of_open opening.Failed = taking.Failed
