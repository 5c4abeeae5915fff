use Rattle.std.proofs.Common.{refl, sym, ◌∙◌}
use Rattle.std.proofs.lemmas.List.{length-map}
use Rattle.pointer_modes.specs.Types.{ctype}
use Rattle.region_typing.proofs.cores.import.Goals as goal

pub returns : goal.returns
returns c =
    let ts = c.args.f.now.parameters in
    let count = c.len.ensures ∙ ts.ok.0 ∙ sym (length-map ts.items ctype) in
    rw (c.in_ok-copy.ensures.same, count, c.in_ok-copied_result.ensures) refl
