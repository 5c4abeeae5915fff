use Rattle.std.proofs.Common.{map}
use Rattle.std.proofs.lemmas.List.{length-map}
use Rattle.region_typing_scope.specs.Views.{signature}
use Rattle.region_typing_scope.proofs.Tables.{other_side}
use Rattle.region_typing_scope.proofs.scope.Scope.side_before.Goals as goal

pub returns-else-side : goal.returns-else-side
returns-else-side c =
    let fs = c.args.self.now.functions.items in
    rw c.if-side.false (other_side (map signature fs) c.args.place c.tainted_before-tainted.result (rw (length-map fs signature) c.requires) c.tainted_before-tainted.ensures.count)
