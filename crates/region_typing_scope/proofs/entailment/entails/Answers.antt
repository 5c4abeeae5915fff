use Rattle.std.proofs.Common.{◌≡◌, false, ◌⊎◌, inl, inr, ap, sym, ◌∙◌}
use Rattle.region_typing_rules.specs.Knowing.{is_below}
use Rattle.region_typing_scope.proofs.Entailing.{outside}
use Rattle.region_typing_scope.proofs.entailment.entails.Goals.{else-is_below-via-then-is_below+else-is_below-2, else-is_below-via-else-is_below}
use Rattle.region_typing_scope.proofs.entailment.entails.Goals as goal

pub returns : goal.returns
returns c =
    let f = c.args.flow.now in
    let out : (is_below f.vars c.args.a.now.var ≡ false) ⊎ (is_below f.vars c.args.b.now.var ≡ false) =
    elim c.else-is_below.branch [
      | else-is_below-via-then-is_below+else-is_below-2 w ↦ inr (ap (λ n. is_below n c.args.b.now.var) (sym c.vars-vars.ensures) ∙ sym w.is_below-then-is_below.ensures ∙ w.if-is_below-2.false)
      | else-is_below-via-else-is_below w ↦ inl (ap (λ n. is_below n c.args.a.now.var) (sym c.vars-vars.ensures) ∙ sym c.is_below.ensures ∙ w.if-is_below.false)
    ] in
    c.is_yes-2.ensures ∙ c.in_ok-answer-2.ensures.table
    ∙ sym (outside f.vars f.facts c.args.a.now c.args.b.now c.constant.result c.constant-2.result c.is_flow.ensures.facts c.constant.ensures c.constant-2.ensures out)
