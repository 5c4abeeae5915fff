use Rattle.std.proofs.lemmas.Grind.{common_steps}
use Rattle.std.proofs.Common.{[], ◌∷◌, ◌++◌, length, refl, ap, ◌∙◌, rules, arith}
use Rattle.region_typing_scope.proofs.Tables.{finds_pushed}
use Rattle.region_typing_scope.proofs.scope.Scope.add_variable.Goals as goal

pub invariant_of-self-2-clause-variables_found : goal.invariant_of-self-2-clause-variables_found
invariant_of-self-2-clause-variables_found c =
    let kept = c.in_ok-reserve.ensures.items in
    let last = c.len.ensures ∙ c.reserve.new.self.ok.0 ∙ ap length kept in
    let more = c.push_reserved.ensures.items ∙ ap (λ vs. vs ++ record { name = c.args.name; ctype = c.args.ctype; length = c.args.elements; ended = c.args.ended; bounds = c.args.bounds } ∷ []) kept in
    finds_pushed (λ v. v.name) c.args.self.now.variables.items c.push_reserved.new.self.items (record { name = c.args.name; ctype = c.args.ctype; length = c.args.elements; ended = c.args.ended; bounds = c.args.bounds }) c.args.self.now.variable_places c.note.new.self c.args.name c.len.result c.args.self.now.variables_found last c.in_ok-note.ensures.noted more refl

pub invariant_of-self : goal.invariant_of-self
invariant_of-self c = search rules

pub returns-in_err-reserve : goal.returns-in_err-reserve
returns-in_err-reserve c = search rules

pub returns-in_err-note : goal.returns-in_err-note
returns-in_err-note c = search rules

pub push_reserved-requires : goal.push_reserved-requires
push_reserved-requires c = search rules

pub returns : goal.returns
returns c = grind (arith, common_steps)
