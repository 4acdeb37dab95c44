-- What the reader holds of the head of a file.
use Rattle.std.specs.Prelude.{◌%◌, ◌≤◌, ◌≡◌}
use Rattle.symmetry_expand.specs.Stored.{multiple_of, first_stored, stored_count}
use Rattle.eulumdat_read.specs.Ldt.{Head}
use Rattle.eulumdat_read.specs.declared.head.Head.{Head as Held}

abbrev pub head_in : Held → Head
head_in h = record { symmetry = h.symmetry; planes = h.planes; gammas = h.gammas; factor = h.factor; sets = h.sets }

-- its numbers are in their ranges, and it knows which planes are stored
pub record IsHead (h : Held) : Type 0 where
  pub some_planes : 1 ≤ h.planes
  pub planes : h.planes ≤ 720
  pub whole : h.planes % multiple_of h.symmetry ≡ 0
  pub first : h.stored.first ≡ first_stored h.symmetry h.planes
  pub count : h.stored.count ≡ stored_count h.symmetry h.planes
  pub two_gammas : 2 ≤ h.gammas
  pub gammas : h.gammas ≤ 721
  pub factor : h.factor ≤ 1000000000
  pub some_sets : 1 ≤ h.sets
  pub sets : h.sets ≤ 20
