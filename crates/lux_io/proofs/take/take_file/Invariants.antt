use Rattle.std.proofs.Common.{◌≡◌, ◌≤◌, ◌-◌, vec_len, take, length, true, IfSome, Some}
use Rattle.lux_io.specs.Files.{bytes_of}
use Rattle.lux_io.proofs.take.take_file.Given as goal

-- the file of the name is open, and the bytes are those that were taken from it, its first ones
abbrev pub invariant-loop-bytes : goal.invariant-loop-bytes
invariant-loop-bytes g l = record {
  is_open : g.S.Shelf.is_open l.shelf ≡ true;
  same_files : g.S.Shelf.files l.shelf ≡ g.S.Shelf.files l.fn.shelf;
  in_limit : vec_len l.bytes ≤ l.limit;
  taken : g.S.Shelf.taken l.shelf ≡ vec_len l.bytes;
  told : IfSome (g.S.Shelf.files l.fn.shelf) (λ fs. bytes_of l.name fs ≡ Some (g.S.Shelf.file l.shelf));
  within : IfSome (g.S.Shelf.files l.fn.shelf) (λ _. vec_len l.bytes ≤ length (g.S.Shelf.file l.shelf));
  front : IfSome (g.S.Shelf.files l.fn.shelf) (λ _. l.bytes.items ≡ take (vec_len l.bytes) (g.S.Shelf.file l.shelf));
  no_fault : g.S.Shelf.faults l.shelf ≡ g.S.Shelf.faults l.fn.shelf;
  no_absence : g.S.Shelf.absences l.shelf ≡ g.S.Shelf.absences l.fn.shelf;
}

abbrev pub decreases-loop-bytes : goal.decreases-loop-bytes
decreases-loop-bytes g l = l.limit - vec_len l.bytes
