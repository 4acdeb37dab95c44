-- What of `read_room` wants a proof by hand.
use Rattle.room_layout.proofs.AcceptsRoom.{room_accepted}
use Rattle.room_layout.proofs.FilesOnce.{document_files}
use Rattle.room_layout.proofs.read.read_room.Goals as goal

pub returns-clause-bounds : goal.returns-clause-bounds
returns-clause-bounds c = room_accepted _ _ c.in_ok-room.ensures.given

pub returns-clause-files : goal.returns-clause-files
returns-clause-files c = document_files _ _ c.in_ok-room.ensures.given
