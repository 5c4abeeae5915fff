use Rattle.std.proofs.Common.{◌∷◌, [], reverse, sym, ap, ◌∙◌}
use Rattle.std.proofs.lemmas.List.{length-map, reverse-append}
use Rattle.pointer_modes.specs.Types.{ctype}
use Rattle.region_typing_rules.specs.DeclaredBounds.{row_of}
use Rattle.region_typing_scope.specs.Views.{scope}
use Rattle.region_typing_scope.proofs.Declaring.{array_so}
use Rattle.region_typing_scope.proofs.scope.Scope.add_array.Goals as goal

pub returns-clause-known : goal.returns-clause-known
returns-clause-known c t row =
    let locals = c.args.self.now.locals in
    let here = c.len-local.ensures ∙ locals.ok.0 ∙ sym (length-map locals.items ctype) in
    let there = c.in_ok-declare.ensures.added (scope c.args.self.now) c.args.name (ctype c.args.row) c.in_ok-add_local.ensures.known in
    array_so c.args.name (ctype c.args.row) t c.args.elements c.len-local.result c.args.ended c.row_of.result _ (scope c.args.self.now) (scope c.declare.new.self) there (c.row_of.ensures ∙ ap row_of c.before_end.ensures) row here
    (ap reverse c.in_ok-push.ensures.items ∙ reverse-append c.declare.new.self.arrays.items (c.len-local.result ∷ []))
