-- Which planes a file stores. The others follow by symmetry.
use Rattle.std.specs.Prelude.{ℕ, ◌+◌, ◌*◌, ◌/◌}
use Rattle.symmetry_expand.specs.declared.symmetry.Symmetry.{Symmetry}
use Rattle.symmetry_expand.specs.declared.symmetry.Symmetry.TheVariants.{None, Axis, Plane0, Plane90, Both}

-- the number of planes has to be a multiple of this one
abbrev pub multiple_of : Symmetry → ℕ
multiple_of None = 1
multiple_of Axis = 1
multiple_of Plane0 = 2
multiple_of Plane90 = 4
multiple_of Both = 4

-- the first stored plane, counted from 1
abbrev pub first_stored : Symmetry → ℕ → ℕ
first_stored None planes = 1
first_stored Axis planes = 1
first_stored Plane0 planes = 1
first_stored Plane90 planes = 3 * planes / 4 + 1
first_stored Both planes = 1

-- how many are stored
abbrev pub stored_count : Symmetry → ℕ → ℕ
stored_count None planes = planes
stored_count Axis planes = 1
stored_count Plane0 planes = planes / 2 + 1
stored_count Plane90 planes = planes / 2 + 1
stored_count Both planes = planes / 4 + 1
