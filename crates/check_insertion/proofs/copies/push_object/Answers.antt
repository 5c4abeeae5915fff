use Rattle.std.proofs.Common.{[], ◌∷◌, ◌++◌, None, Some, map, sym, ap, ◌∙◌}
use Rattle.std.proofs.lemmas.List.{map-append, append-nil}
use Rattle.ckc_core.specs.Core.{object}
use Rattle.partitioner.specs.Parts.{name_before}
use Rattle.check_insertion.proofs.Named.{item_found}
use Rattle.check_insertion.proofs.copies.push_object.Goals as goal

pub returns-in_ok-push : goal.returns-in_ok-push
returns-in_ok-push c =
    let old = c.args.copies.now.items in
    let new = c.in_ok-object.field-0 in
    let named = item_found c.args.objects.now c.args.number (Some c.in-Some.o) c.in-Some.ensures.lookup in
    ap (map object) c.in_ok-push.ensures.items
    ∙ map-append object old (new ∷ [])
    ∙ ap (λ o. map object old ++ o ∷ []) c.in_ok-object.ensures
    ∙ ap (λ o. map object old ++ map object (name_before o [])) named

pub returns-in_default : goal.returns-in_default
returns-in_default c =
    let old = map object c.args.copies.now.items in
    sym (append-nil old) ∙ ap (λ o. old ++ map object (name_before o [])) (item_found c.args.objects.now c.args.number None c.in_default.ensures.lookup)
