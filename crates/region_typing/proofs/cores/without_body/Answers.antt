use Rattle.std.proofs.Common.{ℕ, ap, sym, ◌∙◌}
use Rattle.std.proofs.lemmas.List.{length-map}
use Rattle.pointer_modes.specs.Types.{ctype}
use Rattle.ckc_core.specs.Core.{statements_of}
use Rattle.region_typing_rules.specs.Cores.{without_body}
use Rattle.region_typing_scope.specs.Views.{signature}
use Rattle.region_typing.proofs.cores.without_body.Goals as goal

pub returns : goal.returns
returns c =
    let h = c.in_ok-heading.heading in
    let count = c.len.ensures ∙ h.parameters.ok.0 ∙ sym (length-map h.parameters.items ctype) in
    ap (λ ss. record (without_body (signature h)) { parameters = c.len.result; body = statements_of ss }) c.new.ensures.items
    ∙ ap (λ (n : ℕ). record (without_body (signature h)) { parameters = n }) count ∙ ap without_body c.in_ok-heading.ensures
