use Rattle.std.proofs.Common.{[], ◌∷◌, ◌++◌, true, map, refl, ap, ◌∙◌}
use Rattle.region_typing_rules.specs.Calls.{counted, is_import}
use Rattle.region_typing_scope.specs.Views.{signature}
use Rattle.region_typing_scope.specs.Tables.{side_before}
use Rattle.region_typing_scope.proofs.FileLevel.{pushed_distinct}
use Rattle.region_typing_scope.proofs.Tables.{finds_pushed, counts_pushed}
use Rattle.region_typing_scope.proofs.scope.Scope.add_function.Goals as goal

pub invariant_of-self-2-clause-distinct : goal.invariant_of-self-2-clause-distinct
invariant_of-self-2-clause-distinct c =
    let fs = c.args.self.now.functions.items in
    let added = c.push_reserved-2.ensures.items ∙ ap (λ gs. gs ++ c.args.f ∷ []) c.reserve.ensures.items in
    pushed_distinct fs c.push_reserved-2.new.self.items c.args.f added c.args.self.now.distinct c.requires.new

pub invariant_of-self-2-clause-functions_found : goal.invariant_of-self-2-clause-functions_found
invariant_of-self-2-clause-functions_found c =
    let fs = c.args.self.now.functions.items in
    let added = c.push_reserved-2.ensures.items ∙ ap (λ gs. gs ++ c.args.f ∷ []) c.reserve.ensures.items in
    finds_pushed (λ f. f.name) fs c.push_reserved-2.new.self.items c.args.f c.args.self.now.function_places c.note.new.self c.args.f.name c.len-place.result c.args.self.now.functions_found (c.len-place.ensures ∙ c.args.self.now.functions.ok.0) c.in_ok-note.ensures.noted added refl

pub invariant_of-self-2-clause-counted : goal.invariant_of-self-2-clause-counted
invariant_of-self-2-clause-counted c =
    let fs = c.args.self.now.functions.items in
    let added = c.push_reserved-2.ensures.items ∙ ap (λ gs. gs ++ c.args.f ∷ []) c.reserve.ensures.items in
    let number = c.tainted_before.ensures.count ∙ ap (side_before true (map signature fs)) (c.len-place.ensures ∙ c.args.self.now.functions.ok.0) in
    counts_pushed c.args.self.now.tainted_counts.items c.push_reserved.new.self.items fs c.push_reserved-2.new.self.items c.args.f c.with_tainted-tainted.result c.args.self.now.counted
    (c.with_tainted-tainted.ensures ∙ ap (counted (is_import (signature c.args.f))) number)
    (c.push_reserved.ensures.items ∙ ap (λ ns. ns ++ c.with_tainted-tainted.result ∷ []) c.reserve-2.ensures.items) added
