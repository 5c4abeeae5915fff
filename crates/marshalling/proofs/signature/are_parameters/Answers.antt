use Rattle.std.proofs.Common.{◌≡◌, ℕ, length, take, sym, rules}
use Rattle.std.specs.Prelude.{IsTrue}
use Rattle.std.proofs.lemmas.List.{take_all}
use Rattle.std.proofs.lemmas.List.Elements.{All-more, All-same, All-get_or}
use Rattle.marshalling.specs.declared.signature.Param.{Param}
use Rattle.marshalling.specs.Signatures.{IsParameterOf}
use Rattle.marshalling.proofs.signature.are_parameters.Goals as goal

-- the parameter may stand among so many
abbrev May : ℕ → Param → Type 0
May count p = IsParameterOf count p.kind p.region

pub loop-param-preserved : goal.loop-param-preserved
loop-param-preserved c =
    let yes : IsTrue c.may_stand_among.result = search rules in
    All-more (May (length c.args.params.now)) c.args.params.now c.loop-param.param-index _ c.loop-param-test.true c.loop-param.invariant (c.may_stand_among.ensures.0 yes)

pub returns-then-not-may_stand_among : goal.returns-then-not-may_stand_among
returns-then-not-may_stand_among c = (
  λ no. absurd (cc),
  λ all. c.if-not-may_stand_among.ensures.1 (All-get_or (May (length c.args.params.now)) c.args.params.now c.loop-param.param-index _ c.loop-param-test.true all.parameters),
)

pub returns : goal.returns
returns c =
    let params = c.args.params.now in
    let whole : params ≡ take c.loop-param.param-index params = sym (take_all c.loop-param.param-index params c.loop-param-test.false) in (
      λ _. record { few = c.if-params-gt-MOST.false; parameters = All-same (May (length params)) params (take c.loop-param.param-index params) whole c.loop-param.invariant },
      λ _. search rules,
    )
