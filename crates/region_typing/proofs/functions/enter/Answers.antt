use Rattle.std.proofs.Common.{◌≡◌, ℕ, List, [], Option, None, length, map, refl, false, ap, sym, ◌∙◌}
use Rattle.std.proofs.lemmas.List.{length-map}
use Rattle.ckc_tree.specs.Items.{statement_list}
use Rattle.ckc_tree.specs.Statements.{Statements}
use Rattle.bounds_exprs.specs.declared.term.Bounds.{Bounds}
use Rattle.bounds_flow.specs.Flows.{at_entry}
use Rattle.pointer_modes.specs.Types.{CType}
use Rattle.region_typing_rules.specs.Scopes.{Scope, Signature, bounds_in}
use Rattle.region_typing_rules.specs.Knowing.{knowing}
use Rattle.region_typing_rules.specs.Items.{Parameter, variables_in, with_parameters, with_bounds, inside}
use Rattle.region_typing_scope.specs.Views.{scope, signature}
use Rattle.region_typing.specs.Parameters.{parameter}
use Rattle.region_typing.proofs.Bodies.{for_parameters}
use Rattle.region_typing.proofs.ParameterBounds.{over_more}
use Rattle.region_typing.proofs.functions.enter.Goals as goal

-- inside a function, step by step
inside_so : (f : Signature) (ps : List Parameter) (body : Statements) (g : Scope) (r : Option CType) (n : ℕ) (b : Option Bounds) (begun known bounded asked : Scope)
    → begun ≡ record g { locals = []; arrays = []; visible = []; result = r; result_bounds = None; in_loop = false; outside = 0; flow = at_entry n; breaks = None; continues = None }
    → r ≡ f.result → n ≡ variables_in (length ps) body → known ≡ with_parameters ps begun → bounded ≡ knowing (with_bounds 0 ps known.flow) known → asked ≡ record bounded { result_bounds = b } → b ≡ bounds_in f.result_bounds
    → asked ≡ inside f ps body g
inside_so f ps body g r n b begun known bounded asked e1 e2 e3 e4 e5 e6 e7 = rw (e6, e7, e5, e4, e1, e2, e3) refl

pub add_bounds-requires-clause-below : goal.add_bounds-requires-clause-below
add_bounds-requires-clause-below c =
    let ps = c.args.parameters.now in
    let body = statement_list c.args.body.now in
    let variables : c.add_parameters.new.scope.flow.vars ≡ variables_in (length ps) body = c.in_ok-add_parameters.ensures.size ∙ ap (λ (g : Scope). g.flow.vars) c.in_ok-enter.ensures ∙ c.variables_in-variables.ensures in
    over_more (length ps) c.add_parameters.new.scope.flow.vars ps (rw variables (for_parameters (length ps) body c.requires.few)) c.requires.below

pub returns : goal.returns
returns c =
    let ps = c.args.parameters.now in
    let body = statement_list c.args.body.now in
    let count = c.variables_in-variables.ensures ∙ ap (λ n. variables_in n body) (sym (length-map ps parameter)) in
    inside_so (signature c.args.f.now) (map parameter ps) body (scope c.args.scope.now) _ _ _ _ _ _ _ c.in_ok-enter.ensures c.in_ok-result.ensures count c.in_ok-add_parameters.ensures.known c.in_ok-add_bounds.ensures c.ask_result.ensures c.bounds_in.ensures
