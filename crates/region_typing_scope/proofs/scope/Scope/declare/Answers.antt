use Rattle.std.proofs.Common.{◌-◌, sym, ap, ◌∙◌}
use Rattle.std.proofs.lemmas.List.{length-map}
use Rattle.std.proofs.lemmas.Result.{on_ok_weaker}
use Rattle.pointer_modes.specs.Types.{ctype}
use Rattle.region_typing_scope.specs.Views.{scope}
use Rattle.region_typing_scope.proofs.Declaring.{declared_so}
use Rattle.region_typing_scope.proofs.scope.Scope.declare.Goals as goal

pub returns-clause-added : goal.returns-clause-added
returns-clause-added c =
    let locals = c.args.self.now.locals in
    let last = ap (λ n. n - 1) (c.len.ensures ∙ locals.ok.0 ∙ sym (length-map locals.items ctype)) in
    on_ok_weaker c.enter.result (λ known g name t was. declared_so (c.len.result - 1) name t c.args.bounds c.enter.new.self g (scope c.args.self.now) last known was) c.enter.ensures.ok
