-- A check that fails in a run is named by a site of the program.
use Rattle.std.proofs.Common.{◌≡◌, ℕ, zero, suc, List, [], ◌∷◌, Some, subst}
use Rattle.std.specs.Prelude.{slice_get}
use Rattle.std.specs.List.{AllByRecursion}
use Rattle.std.proofs.lemmas.Option.{same_Some}
use Rattle.ckc_text.specs.declared.code.Code.{Code}
use Rattle.ckc_core.specs.declared.program.Callee.{Callee}
use Rattle.ckc_core.specs.declared.program.Site.{Site}
use Rattle.ckc_core.specs.Core as core
use Rattle.ckc_core.specs.FailedChecks as failed
use Rattle.ckc_core.specs.FailedChecks.{Part, OfExpression, OfArguments, OfPlace, OfTarget, OfStatement, OfStatements, OfCall, HasOperand, HasOperands, BeginsWith, CallsWith, Comes, ComesDeeper, Breaks, Fails}
use Rattle.ckc_core.specs.Meaning.{Knot, Setting}
use Rattle.ckc_core.specs.Sites.{CalleeSites, ExpressionSites, ArgumentsSites, PlaceSites, StatementSites, StatementsSites, FunctionSites}
use Rattle.ckc_core.specs.States.{State}

module _ (P : Site → Type 0) where
  -- it holds of each site of a part
  abbrev pub PartSites : Part → Type 0
  PartSites (OfExpression e) = ExpressionSites P e
  PartSites (OfArguments es) = ArgumentsSites P es
  PartSites (OfPlace p) = PlaceSites P p
  PartSites (OfTarget p) = PlaceSites P p
  PartSites (OfStatement x) = StatementSites P x
  PartSites (OfStatements xs) = StatementsSites P xs
  PartSites (OfCall f vs) = Unit {0}

  operand_sites : {x e : core.Expression} → HasOperand x e → ExpressionSites P x → ExpressionSites P e
  operand_sites failed.negate h = h.0
  operand_sites failed.complement h = h
  operand_sites failed.inverse h = h
  operand_sites failed.low_byte h = h
  operand_sites failed.allocate h = h.0
  operand_sites failed.length h = h.0
  operand_sites failed.cast_of h = h.0

  left_sites : {x a b : core.Expression} → HasOperands x a b → ExpressionSites P x → ExpressionSites P a
  left_sites failed.arithmetic h = h.0
  left_sites failed.compare h = h.0
  left_sites failed.same h = h.0
  left_sites failed.order h = h.0
  left_sites failed.sum_of h = h.0

  right_sites : {x a b : core.Expression} → HasOperands x a b → ExpressionSites P x → ExpressionSites P b
  right_sites failed.arithmetic h = h.1
  right_sites failed.compare h = h.1
  right_sites failed.same h = h.1
  right_sites failed.order h = h.1
  right_sites failed.sum_of h = h.1

  begins_sites : {x : core.Statement} {e : core.Expression} → BeginsWith x e → StatementSites P x → ExpressionSites P e
  begins_sites failed.set_local h = h
  begins_sites failed.update_local h = h.0
  begins_sites failed.evaluate h = h
  begins_sites failed.print h = h
  begins_sites failed.put_byte h = h
  begins_sites failed.choice h = h.0
  begins_sites failed.loop h = h.0
  begins_sites failed.return h = h

  calls_sites : {x : Part} {callee : Callee} {es : core.Arguments} → CallsWith x callee es → PartSites x → CalleeSites P callee × ArgumentsSites P es
  calls_sites failed.call_in h = (h.0, h.1)
  calls_sites failed.alone h = h

  function_sites : (fs : List core.Function) (f : ℕ) (found : core.Function) → AllByRecursion (FunctionSites P) fs → slice_get fs f ≡ Some found → FunctionSites P found
  function_sites [] f found all there = absurd (cc)
  function_sites (g ∷ fs) zero found all there = subst (FunctionSites P) (same_Some g found there) all.0
  function_sites (g ∷ fs) (suc f) found all there = function_sites fs f found all.1 there

  module _ (g : Setting) (all : AllByRecursion (FunctionSites P) g.program.functions) where
    comes_sites : {k : Knot} {x y : Part} {s t : State} → Comes g k x s y t → PartSites x → PartSites y
    comes_sites (failed.operand has) h = operand_sites has h
    comes_sites (failed.left has) h = left_sites has h
    comes_sites (failed.right has given) h = right_sites has h
    comes_sites failed.and_left h = h.0
    comes_sites (failed.and_right given holds) h = h.1
    comes_sites failed.or_left h = h.0
    comes_sites (failed.or_right given fails) h = h.1
    comes_sites failed.load h = h.0
    comes_sites failed.address h = h.0
    comes_sites (failed.arguments calls) h = (calls_sites calls h).1
    comes_sites failed.first h = h.0
    comes_sites (failed.rest given) h = h.1
    comes_sites failed.target h = h
    comes_sites failed.pointer h = h.0
    comes_sites (failed.number given) h = h.1
    comes_sites (failed.begins begins) h = begins_sites begins h
    comes_sites failed.store_target h = h.0
    comes_sites (failed.stored target) h = h.1
    comes_sites failed.update_target h = h.0
    comes_sites (failed.updated_by loads) h = h.1
    comes_sites failed.block h = h
    comes_sites (failed.consequent given holds) h = h.1
    comes_sites (failed.alternative given fails) h = h.2
    comes_sites (failed.body begins) h = h.1
    comes_sites (failed.step ends) h = h.2
    comes_sites failed.statement h = h.0
    comes_sites (failed.statements given) h = h.1
    comes_sites (failed.function {f = f} {found = found} there) h = function_sites g.program.functions f found all there

    deeper_sites : {k : Knot} {x y : Part} {s t : State} → ComesDeeper g k x s y t → PartSites x → PartSites y
    deeper_sites (failed.call calls given ticked entered) h = tt
    deeper_sites (failed.turn ends stepped) h = h

    breaks_sites : {k : Knot} {x : Part} {s : State} {code : Code} {site : Site} → Breaks g k x s code site → PartSites x → P site
    breaks_sites (failed.operation left right out) h = h.2
    breaks_sites (failed.negation given out) h = h.1
    breaks_sites (failed.sum_of_null left right) h = h.2
    breaks_sites (failed.sum_outside left right ends out) h = h.2
    breaks_sites (failed.left_null left right) h = h.2
    breaks_sites (failed.right_null left right) h = h.2
    breaks_sites (failed.length_of_null given) h = h.1
    breaks_sites (failed.length_outside given ends out) h = h.1
    breaks_sites (failed.cast given old new out) h = h.1
    breaks_sites (failed.access target out) h = h.2
    breaks_sites (failed.store target given out) h = h.0.2
    breaks_sites (failed.store_over_terminator target given over) h = h.0.2
    breaks_sites (failed.update target out) h = h.0.2
    breaks_sites (failed.updated loads given out) h = h.2
    breaks_sites (failed.update_over_terminator loads given result keeps over) h = h.0.2
    breaks_sites (failed.local_updated there is given out) h = h.1
    breaks_sites (failed.reply reply calls given there char answered large) h = (calls_sites calls h).0

    pub fails_sites : {n : ℕ} {x : Part} {s : State} {code : Code} {site : Site} → Fails g n x s code site → PartSites x → P site
    fails_sites (failed.itself b) h = breaks_sites b h
    fails_sites (failed.inside comes f) h = fails_sites f (comes_sites comes h)
    fails_sites (failed.deeper comes f) h = fails_sites f (deeper_sites comes h)
