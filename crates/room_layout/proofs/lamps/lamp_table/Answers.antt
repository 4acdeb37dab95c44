use Rattle.room_layout.proofs.lamps.lamp_table.Goals as goal

pub returns-in-One-clause-refused : goal.returns-in-One-clause-refused
returns-in-One-clause-refused c = rw (c.in-One.is, ← c.at.ensures) c.table_with.ensures.refused

pub returns-in-Two-clause-refused : goal.returns-in-Two-clause-refused
returns-in-Two-clause-refused c = rw (c.in-Two.is, ← c.at-in-Two.ensures) c.table_with-in-Two.ensures.refused
