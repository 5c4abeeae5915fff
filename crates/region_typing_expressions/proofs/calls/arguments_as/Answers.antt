use Rattle.std.proofs.Common.{◌≡◌, ◌<◌, ◌++◌, ◌∷◌, [], length, map, drop, get_or, ap, sym, ◌∙◌, arith}
use Rattle.pointer_modes.specs.Types.{ctype}
use Rattle.region_typing_rules.specs.Calls.{arguments_as}
use Rattle.region_typing_expressions.specs.Calls.{argument}
use Rattle.region_typing_scope.proofs.Going.{refused_by}
use Rattle.region_typing_expressions.proofs.Conversions.{value_breaks, value_pushed, pushed_long, all_values, none_left}
use Rattle.region_typing_expressions.proofs.calls.arguments_as.Goals as goal

pub returns-in_err-value : goal.returns-in_err-value
returns-in_err-value c =
    let types = c.args.types.now in
    let built = c.loop-argument.built.items in
    let t = c.index-types-len.result in
    let less : length built < length types = omega (arith, c.loop-argument.invariant.long, ap length c.in-Some.ensures.items) in
    let at : t ≡ get_or types (length built) t = c.index-types-len.is ∙ ap (λ k. get_or types k t) (c.len.ensures ∙ c.loop-argument.built.ok.0) in
    refused_by c.from_residual.result c.from_residual.ensures.1
    (λ stop breaks. value_breaks (arguments_as (map argument c.args.arguments.items) (map ctype types)) c.in-Some.argument c.pop_front.new.self.items types (length built) t c.loop-argument.arguments.items built stop c.in-Some.ensures.items less at c.loop-argument.invariant.same breaks)
    c.in_err-value.ensures

pub loop-argument-preserved : goal.loop-argument-preserved
loop-argument-preserved c =
    let types = c.args.types.now in
    let built = c.loop-argument.built.items in
    let t = c.index-types-len.result in
    let less : length built < length types = omega (arith, c.loop-argument.invariant.long, ap length c.in-Some.ensures.items) in
    let at : t ≡ get_or types (length built) t = c.index-types-len.is ∙ ap (λ k. get_or types k t) (c.len.ensures ∙ c.loop-argument.built.ok.0) in
    let pushed : c.push.new.self.items ≡ built ++ (c.in_ok-value.value.value ∷ []) = c.in_ok-push.ensures.items ∙ ap (λ v. built ++ (v ∷ [])) c.into_inner.ensures in
    record {
      long = omega (arith, c.loop-argument.invariant.long, ap length c.in-Some.ensures.items, pushed_long built c.push.new.self.items c.in_ok-value.value.value pushed);
      same = value_pushed (arguments_as (map argument c.args.arguments.items) (map ctype types)) c.in-Some.argument c.pop_front.new.self.items types t c.loop-argument.arguments.items built c.push.new.self.items c.in_ok-value.value.value pushed c.in-Some.ensures.items less at c.loop-argument.invariant.same c.in_ok-value.ensures.so;
    }

pub returns : goal.returns
returns c =
    let types = c.args.types.now in
    let built = c.loop-argument.built.items in
    record { so = all_values (arguments_as (map argument c.args.arguments.items) (map ctype types)) c.loop-argument.arguments.items (drop (length built) types) built (none_left c.loop-argument.arguments.items (sym c.loop-argument.arguments.ok.0 ∙ c.in_default.ensures.cases.0)) c.loop-argument.invariant.same }
