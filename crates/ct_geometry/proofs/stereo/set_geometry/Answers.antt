use Rattle.ct_geometry.proofs.stereo.set_geometry.Goals as goal

pub set_sides-requires-clause-sides : goal.set_sides-requires-clause-sides
set_sides-requires-clause-sides c = c.requires.fit c.in-Some.sides c.in-Some.is
