use Rattle.room_layout.proofs.lamps.file_place.Goals as goal

pub returns-in-Some-clause-given : goal.returns-in-Some-clause-given
returns-in-Some-clause-given c = rw (← (rw c.deref.ensures.value at c.in-Some.ensures))
