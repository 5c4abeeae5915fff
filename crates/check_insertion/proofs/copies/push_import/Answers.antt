use Rattle.std.proofs.Common.{[], ◌++◌, None, Some, map, sym, ap, ◌∙◌}
use Rattle.std.proofs.lemmas.List.{append-nil}
use Rattle.ckc_core.specs.Programs.{tainted_of}
use Rattle.ckc_core.specs.Core.{definition, import_of}
use Rattle.partitioner.specs.Parts.{name_before}
use Rattle.check_insertion.proofs.Named.{item_found}
use Rattle.check_insertion.proofs.copies.push_import.Goals as goal

pub returns-in_ok-push_tainted : goal.returns-in_ok-push_tainted
returns-in_ok-push_tainted c =
    let old = map import_of c.args.copies.now.items in
    c.in_ok-push_tainted.ensures
    ∙ ap (λ o. old ++ tainted_of (map definition (name_before o []))) (item_found c.args.definitions.now c.args.number (Some c.in-Some.definition) c.in-Some.ensures.lookup)

pub returns-in_default : goal.returns-in_default
returns-in_default c =
    let old = map import_of c.args.copies.now.items in
    sym (append-nil old)
    ∙ ap (λ o. old ++ tainted_of (map definition (name_before o []))) (item_found c.args.definitions.now c.args.number None c.in_default.ensures.lookup)
