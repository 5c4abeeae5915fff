use Rattle.std.proofs.Common.{◌≡◌, length, ap, sym, ◌∙◌}
use Rattle.std.proofs.lemmas.List.{length-map}
use Rattle.pointer_modes.specs.Types.{ctype}
use Rattle.region_typing.proofs.signatures.copied_signature.Goals as goal

pub invariant_of-result : goal.invariant_of-result
invariant_of-result c =
    let ts = c.in_ok-copied_types.field-0.items in
    let us = c.args.f.now.parameters.items in
    let same = rw c.as_slice.ensures.value at c.in_ok-copied_types.ensures in
    let count : length ts ≡ length us = sym (length-map ts ctype) ∙ ap length same ∙ length-map us ctype in
    record { few = rw count c.args.f.now.few }
