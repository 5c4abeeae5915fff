use Rattle.region_typing.proofs.initials.cells_of.Goals as goal

pub returns-in-None : goal.returns-in-None
returns-in-None c = rw c.in-None.is (c.value_cells.ensures c.args.ended)
