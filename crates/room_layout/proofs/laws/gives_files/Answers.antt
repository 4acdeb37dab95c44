use Rattle.room_layout.proofs.FilesOnce.{document_files}
use Rattle.room_layout.proofs.FilesAsked.{document_asked}
use Rattle.room_layout.proofs.laws.gives_files.Goals as goal

pub returns : goal.returns
returns c = λ document r e. (document_files document r e, document_asked document r e)
