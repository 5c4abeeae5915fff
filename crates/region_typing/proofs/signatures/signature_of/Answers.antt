use Rattle.std.proofs.Common.{◌≡◌, length, map, refl, ap, sym, ◌∙◌}
use Rattle.std.proofs.lemmas.List.{length-map}
use Rattle.pointer_modes.specs.Types.{ctype}
use Rattle.region_typing_rules.specs.Items.{Parameter}
use Rattle.region_typing.specs.Parameters.{parameter}
use Rattle.region_typing.proofs.signatures.signature_of.Goals as goal

pub invariant_of-result : goal.invariant_of-result
invariant_of-result c =
    let ps = c.args.heading.now.parameters.items in
    let ts = c.in_ok-types_of.field-0.items in
    let same = rw c.as_slice-parameters.ensures.value at c.in_ok-types_of.ensures in
    let count : length ts ≡ length ps = sym (length-map ts ctype) ∙ ap length same ∙ length-map (map parameter ps) (λ (p : Parameter). p.type) ∙ length-map ps parameter in
    record { few = rw count c.requires }

pub returns : goal.returns
returns c =
    let types = rw c.as_slice-parameters.ensures.value at c.in_ok-types_of.ensures in
    let bounds = rw c.as_slice-parameters.ensures.value at c.in_ok-bounds_of.ensures in
    rw (types, bounds, c.in_ok-copy.ensures.same) refl
