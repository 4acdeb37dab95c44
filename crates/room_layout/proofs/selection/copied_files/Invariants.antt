use Rattle.std.proofs.Common.{◌≡◌, take}
use Rattle.room_layout.proofs.selection.copied_files.Given as goal

abbrev pub invariant-loop-file : goal.invariant-loop-file
invariant-loop-file l = l.copied.items ≡ take l.file-index l.files
