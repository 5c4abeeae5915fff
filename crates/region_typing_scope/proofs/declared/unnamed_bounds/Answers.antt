use Rattle.std.proofs.Common.{◌≡◌, length, map, sym, ◌∙◌}
use Rattle.std.proofs.lemmas.List.{length-map}
use Rattle.pointer_modes.specs.Types.{ctype}
use Rattle.region_typing_scope.proofs.declared.unnamed_bounds.Goals as goal

pub returns : goal.returns
returns c =
    let items = c.args.scope.now.locals.items in
    let own : c.len-own.result ≡ length (map ctype items) = c.len-own.ensures ∙ c.args.scope.now.locals.ok.0 ∙ sym (length-map items ctype) in
    rw (c.as_slice.ensures.value, c.as_slice-2.ensures.value, own) at c.written_bounds.ensures
