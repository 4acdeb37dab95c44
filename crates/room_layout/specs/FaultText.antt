-- How a refused layout is printed.
use Rattle.std.specs.Prelude.{ℕ, List, ◌++◌, Bool, true, false, if◌then◌else◌, codes}
use Rattle.std.specs.Fmt.{decimal}
use Rattle.room_layout.specs.declared.fault.Key.{Key}
use Rattle.room_layout.specs.declared.fault.Key.TheVariants as key
use Rattle.room_layout.specs.declared.fault.Spot.{Spot}
use Rattle.room_layout.specs.declared.fault.RoomFault.{RoomFault}
use Rattle.room_layout.specs.declared.fault.RoomFault.TheVariants as fault

-- the key's name, with the name of its table before it
abbrev pub key_text : Key → List ℕ
key_text key.Version = codes "version"
key_text key.Room = codes "room"
key_text key.RoomSize = codes "room.size"
key_text key.RoomReflect = codes "room.reflect"
key_text key.RoomPatch = codes "room.patch"
key_text key.Box = codes "box"
key_text key.BoxLo = codes "box.lo"
key_text key.BoxHi = codes "box.hi"
key_text key.BoxReflect = codes "box.reflect"
key_text key.Lamp = codes "lamp"
key_text key.LampAt = codes "lamp.at"
key_text key.LampCandela = codes "lamp.candela"
key_text key.LampFile = codes "lamp.file"
key_text key.LampSet = codes "lamp.set"
key_text key.LampTurn = codes "lamp.turn"
key_text key.LampMaintenance = codes "lamp.maintenance"
key_text key.LampSize = codes "lamp.size"
key_text key.LampSplit = codes "lamp.split"
key_text key.Task = codes "task"
key_text key.TaskFrom = codes "task.from"
key_text key.TaskTo = codes "task.to"
key_text key.TaskHeight = codes "task.height"
key_text key.TaskPoints = codes "task.points"
key_text key.Limits = codes "limits"
key_text key.LimitsAverageMillilux = codes "limits.average_millilux"
key_text key.LimitsUniformityPermille = codes "limits.uniformity_permille"
key_text key.LampAim = codes "lamp.aim"

-- the key is one of a box or a lamp, of which there may be several
abbrev pub is_indexed : Key → Bool
is_indexed key.Box = true
is_indexed key.BoxLo = true
is_indexed key.BoxHi = true
is_indexed key.BoxReflect = true
is_indexed key.Lamp = true
is_indexed key.LampAt = true
is_indexed key.LampCandela = true
is_indexed key.LampFile = true
is_indexed key.LampSet = true
is_indexed key.LampTurn = true
is_indexed key.LampMaintenance = true
is_indexed key.LampSize = true
is_indexed key.LampSplit = true
is_indexed key.LampAim = true
is_indexed _ = false

-- the key, and for a box or a lamp a space and its index
abbrev pub spot_text : Spot → List ℕ
spot_text s = if is_indexed s.key then key_text s.key ++ codes " " ++ decimal s.index else key_text s.key

-- the fault's number and name, and where it has one a space and its spot; want of memory is no refusal, and has its name alone
abbrev pub fault_text : RoomFault → List ℕ
fault_text fault.NotToml = codes "1 NotToml"
fault_text fault.Version = codes "2 Version"
fault_text (fault.Missing s) = codes "3 Missing " ++ spot_text s
fault_text (fault.Unknown s) = codes "4 Unknown " ++ spot_text s
fault_text (fault.Kind s) = codes "5 Kind " ++ spot_text s
fault_text (fault.Range s) = codes "6 Range " ++ spot_text s
fault_text (fault.Outside s) = codes "7 Outside " ++ spot_text s
fault_text (fault.TooMany s) = codes "8 TooMany " ++ spot_text s
fault_text fault.Memory = codes "Memory"
