use Rattle.region_typing_scope.proofs.typed.at_declared.Goals as goal

pub returns-in-None : goal.returns-in-None
returns-in-None c = rw c.in-None.is (c.at_unknown.ensures c.args.structs.now c.args.site)
