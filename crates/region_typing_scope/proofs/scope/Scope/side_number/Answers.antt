use Rattle.std.proofs.Common.{map, sym, ap, ◌∙◌}
use Rattle.region_typing_scope.specs.Views.{signature}
use Rattle.region_typing_scope.specs.Tables.{side_before}
use Rattle.region_typing_scope.proofs.Tables.{number_found, number_unknown}
use Rattle.region_typing_scope.proofs.scope.Scope.side_number.Goals as goal

pub returns-in-Some : goal.returns-in-Some
returns-in-Some c = c.side_before.ensures ∙ number_found c.args.side c.args.self.now.functions.items c.args.name c.in-Some.place (sym c.function_place.ensures ∙ c.in-Some.is)

pub returns-in-None : goal.returns-in-None
returns-in-None c =
    let fs = c.args.self.now.functions.items in
    c.side_before-in-None.ensures
    ∙ ap (side_before c.args.side (map signature fs)) (c.len.ensures ∙ c.args.self.now.functions.ok.0)
    ∙ number_unknown c.args.side fs c.args.name (sym c.function_place.ensures ∙ c.in-None.is)
