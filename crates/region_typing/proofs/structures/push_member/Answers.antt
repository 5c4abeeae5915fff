use Rattle.std.proofs.Common.{nat_lt, ap, sym, ◌∙◌}
use Rattle.std.proofs.lemmas.List.{length-map}
use Rattle.pointer_modes.specs.Types.{ctype, member}
use Rattle.region_typing_rules.specs.Verdicts.{Passes}
use Rattle.region_typing_scope.proofs.Going.{goes_on, refused}
use Rattle.region_typing_statements.proofs.Testing.{holds, fails}
use Rattle.region_typing.proofs.Lists.{item_pushed}
use Rattle.region_typing.proofs.structures.push_member.Goals as goal

pub returns-in_err-needs-clause-types : goal.returns-in_err-needs-clause-types
returns-in_err-needs-clause-types c =
    let room = ap (λ n. nat_lt n 64) (c.len.ensures ∙ c.args.members.now.ok.0 ∙ sym (length-map c.args.members.now.items member)) in
    let full = rw c.span.ensures at c.in_err-needs.ensures in
    fails _ _ _ _ _ c.from_residual.result room c.from_residual.ensures.1 full

pub returns-in_err-ctype-clause-types : goal.returns-in_err-ctype-clause-types
returns-in_err-ctype-clause-types c =
    let room = ap (λ n. nat_lt n 64) (c.len.ensures ∙ c.args.members.now.ok.0 ∙ sym (length-map c.args.members.now.items member)) in
    let few = rw c.span.ensures at c.in_ok-needs.ensures in
    holds _ _ _ _ _ room few (refused _ c.from_residual-in_err-ctype.result c.from_residual-in_err-ctype.ensures.1 c.in_err-ctype.ensures)

pub returns-clause-types : goal.returns-clause-types
returns-clause-types c =
    let ms = c.args.members.now in
    let room = ap (λ n. nat_lt n 64) (c.len.ensures ∙ ms.ok.0 ∙ sym (length-map ms.items member)) in
    let few = rw c.span.ensures at c.in_ok-needs.ensures in
    let pushed = rw c.reserve.ensures.items at c.push_reserved.ensures.items in
    let made = ap (λ n. record { name = n; ctype = ctype c.in_ok-ctype.ctype; span = c.args.written.now.span }) c.in_ok-name.ensures.same in
    holds _ _ _ _ _ room few (goes_on _ c.in_ok-ctype.ensures (record { so = ap Passes (sym (item_pushed member ms.items c.push_reserved.new.self.items _ _ pushed made)) }))
