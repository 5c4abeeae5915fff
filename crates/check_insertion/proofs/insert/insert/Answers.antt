use Rattle.std.proofs.Common.{map, refl, sym, ap, ◌∙◌}
use Rattle.ckc_core.specs.Programs.{trusted_of, tainted_of}
use Rattle.ckc_core.specs.Core as core
use Rattle.partitioner.specs.Parts.{Parts, named}
use Rattle.partitioner.proofs.Partitions.{partition}
use Rattle.check_insertion.specs.Insert as insert
use Rattle.check_insertion.proofs.Named.{named_views}
use Rattle.check_insertion.proofs.insert.insert.Goals as goal

pub returns : goal.returns
returns c =
    let program = c.args.program.now in
    let sides = partition (core.core program) in
    let definitions = program.definitions.items in
    let copied = rw (c.as_slice.ensures.value, c.as_slice-2.ensures.value) at c.in_ok-objects.ensures in
    let objects =
    copied ∙ sym (named_views core.object program.objects.items c.args.parts.now.trusted_objects.items)
    ∙ ap (λ (p : Parts). named (map core.object program.objects.items) p.trusted_objects) c.requires ∙ sides.all_objects in
    let tainted = rw (c.as_slice-definitions.ensures.value, c.as_slice-3.ensures.value) at c.in_ok-imports.ensures in
    let imports =
    tainted ∙ ap tainted_of (sym (named_views core.definition definitions c.args.parts.now.sandbox.items))
    ∙ ap (λ (p : Parts). tainted_of (named (map core.definition definitions) p.sandbox)) c.requires ∙ sides.sandbox in
    let trusted = rw (c.as_slice-definitions.ensures.value, c.as_slice-4.ensures.value) at c.in_ok-functions.ensures in
    let functions =
    trusted ∙ ap (λ ds. map insert.function (trusted_of ds)) (sym (named_views core.definition definitions c.args.parts.now.trusted.items))
    ∙ ap (λ (p : Parts). map insert.function (trusted_of (named (map core.definition definitions) p.trusted))) c.requires
    ∙ ap (map insert.function) sides.trusted in
    rw (objects, imports, functions) refl
