use Rattle.std.proofs.Common.{[], ◌++◌, None, Some, map, sym, ap, ◌∙◌}
use Rattle.std.proofs.lemmas.List.{append-nil}
use Rattle.ckc_core.specs.Programs.{trusted_of}
use Rattle.ckc_core.specs.Core as core
use Rattle.partitioner.specs.Parts.{name_before}
use Rattle.check_insertion.specs.Erased as erased
use Rattle.check_insertion.specs.Insert as insert
use Rattle.check_insertion.proofs.Named.{item_found}
use Rattle.check_insertion.proofs.insert.push_function.Goals as goal

pub returns-in_ok-push_trusted : goal.returns-in_ok-push_trusted
returns-in_ok-push_trusted c =
    let old = map erased.function c.args.built.now.items in
    c.in_ok-push_trusted.ensures
    ∙ ap (λ o. old ++ map insert.function (trusted_of (map core.definition (name_before o [])))) (item_found c.args.definitions.now c.args.number (Some c.in-Some.definition) c.in-Some.ensures.lookup)

pub returns-in_default : goal.returns-in_default
returns-in_default c =
    let old = map erased.function c.args.built.now.items in
    sym (append-nil old)
    ∙ ap (λ o. old ++ map insert.function (trusted_of (map core.definition (name_before o [])))) (item_found c.args.definitions.now c.args.number None c.in_default.ensures.lookup)
