-- Printed faults, one of each form.
use Rattle.std.specs.Prelude.{◌≡◌, refl, codes}
use Rattle.std.specs.Fmt.{digits}
use Rattle.room_layout.specs.declared.fault.Key.TheVariants as key
use Rattle.room_layout.specs.declared.fault.RoomFault.TheVariants as fault
use Rattle.room_layout.specs.Checks.{spot}
use Rattle.room_layout.specs.FaultText.{fault_text}

not_toml : fault_text fault.NotToml ≡ codes "1 NotToml"
not_toml = refl

missing_task : fault_text (fault.Missing (spot key.Task 0)) ≡ codes "3 Missing task"
missing_task = refl

a_lamp_outside : fault_text (fault.Outside (spot key.Lamp 0)) ≡ codes "7 Outside lamp 0"
unfolding digits
a_lamp_outside = refl

an_aim_of_no_name : fault_text (fault.Range (spot key.LampAim 3)) ≡ codes "6 Range lamp.aim 3"
unfolding digits
an_aim_of_no_name = refl

the_seventeenth_file : fault_text (fault.TooMany (spot key.LampFile 16)) ≡ codes "8 TooMany lamp.file 16"
unfolding digits
the_seventeenth_file = refl
