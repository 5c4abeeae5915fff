-- What has types is never stuck and never unsound: calls, and what they give back.
use Rattle.std.proofs.Common.{◌≡◌, ℕ, suc, ◌+◌, ◌≤◌, Bool, true, false, List, replicate, length, Option, Some, None, refl, sym, ap, ◌∙◌, subst, arith}
use Rattle.std.specs.Prelude.{◌==◌, slice_get}
use Rattle.std.proofs.lemmas.Bool.Decides.{nat_tests}
use Rattle.std.proofs.lemmas.List.{length-replicate}
use Rattle.ckc_core.specs.Outcome.{and_then}
use Rattle.act_words.specs.Acts.{Passed}
use Rattle.act_words.specs.Touches.{spend_tick, enter_call, touch}
use Rattle.ckc_core.specs.declared.program.Site.{Site}
use Rattle.ckc_core.specs.declared.program.Callee.{Callee}
use Rattle.ckc_core.specs.declared.program.Callee.TheVariants as callees
use Rattle.pointer_modes.specs.declared.ctype.Kind.TheVariants as kinds
use Rattle.pointer_modes.specs.Types.{CType, Int, Char, Struct, Pointer}
use Rattle.ckc_core.specs.Core as core
use Rattle.ckc_core.specs.States.{Value, State}
use Rattle.ckc_core.specs.Programs.{Import}
use Rattle.bounds_exprs.specs.declared.term.Bounds.{Bounds}
use Rattle.ckc_core.specs.Steps.{locals_for, asked, words_of, reply_as, back, passed, cross, cross_if, call_tainted, takes, parameters_of, enter_if, call_trusted, called}
use Rattle.ckc_core.specs.Meaning.{Knot, Setting}
use Rattle.region_typing_rules.specs.Scopes.{Scope}
use Rattle.region_typing_rules.specs.KnownIsSo.{HasLocals, IsKnown}
use Rattle.region_typing_rules.specs.Typed as typed
use Rattle.bounds_exprs.specs.declared.term.Term.{Term}
use Rattle.bounds_flow_meaning.specs.Calls.{HoldTerms}
use Rattle.bounds_exprs.specs.Changes.{ends_filled_in}
use Rattle.region_typing_rules.specs.Typed.{Frame, IsNumberResult, IsCallee, HasResultBounds, AreAsked, terms_of, pointers_of}
use Rattle.region_typing_rules.proofs.Worlds.{Anything, tick_answers, enter_answers, touch_answers}
use Rattle.region_typing_rules.proofs.BoundedObjects.{held_same}
use Rattle.region_typing_rules.proofs.Values.{grows_here, grows_on, values_count, values_fit, values_grown, locals_grown}
use Rattle.region_typing_rules.proofs.Validity.{sound}
use Rattle.region_typing_rules.proofs.Sure.{sure_further}
use Rattle.region_typing_rules.proofs.Keeping.{IsAfter}
use Rattle.region_typing_rules.proofs.Calls.{AreEntered, ArePassed, entered, entered_later, hold, result_valid}
use Rattle.region_typing_rules.proofs.Goes.{Goes, HasResult, IsAnswer, IsKept, IsKnot, IsReply, IsResult, OfTypes, asked_goes, goes_further, goes_on, lowered, shaped}
use Rattle.region_typing_rules.proofs.Accesses.{reply_goes, words_there}

module _ (g : Frame) (budget ticks : ℕ) where
  module _ (sandbox trusted : ℕ) (k : Knot) (is : IsKnot g budget ticks k) where
    abbrev pub setting : Setting
    setting = record { program = g.program; budget = budget; sandbox = sandbox; trusted = trusted }

    module _ (types : List CType) where
      -- back in the function that called, whose locals were left
      back_kept : (low : ℕ) (s t : State) → IsAfter s t → IsKept g budget ticks low types s → IsKept g budget ticks low types t → IsKept g budget ticks low types (record t { locals = s.locals; depth = s.depth })
      back_kept low s t grown kept after =
          record { grown = after.grown; cells = after.cells; locals = locals_grown g.structs (shaped s) (shaped t) grown.0 types s.locals kept.locals; world = after.world; enough = after.enough; held = held_same g t (record t { locals = s.locals; depth = s.depth }) refl after.held; zeros = after.zeros; short = after.short }

      passed_goes : (low : ℕ) (s : State) (i : Import) (site : Site) → IsNumberResult i.result → suc budget ≤ low + ticks → IsKept g budget ticks low types s → Goes g budget ticks low types s (IsAnswer g i.result) (passed k i site s)
      passed_goes low s i site crosses enough kept =
          let inside : State = record s { depth = s.depth + 1 } in
          goes_on g budget ticks low types s IsReply (IsAnswer g i.result) (and_then (k.sandbox inside) (back s)) (reply_as i.result site)
          (goes_on g budget ticks low types s IsReply IsReply (k.sandbox inside) (back s)
          (is.sandbox low types inside enough (record { grown = kept.grown; cells = kept.cells; locals = kept.locals; world = kept.world; enough = kept.enough; held = held_same g s inside refl kept.held; zeros = kept.zeros; short = kept.short }))
          (λ reply t grown small t_kept. (small, (grows_here (shaped t), sym grown.1), back_kept low s t grown kept t_kept)))
          (λ reply t grown small t_kept. reply_goes g budget ticks low types t i.result site reply crosses small t_kept)

      cross_goes : (low : ℕ) (s : State) (import : ℕ) (i : Import) (site : Site) (o : Option (List ℕ)) (words : List ℕ) → o ≡ Some words → IsNumberResult i.result → IsKept g budget ticks low types s → Goes g budget ticks low types s (IsAnswer g i.result) (cross setting k import i site o s)
      cross_goes low s import i site None words e crosses kept = absurd (cc)
      cross_goes low s import i site (Some sent) words e crosses kept =
          lowered g budget ticks low types s (IsAnswer g i.result) (cross setting k import i site (Some sent) s) kept.enough
          (asked_goes g budget ticks low (suc low) types Anything (IsAnswer g i.result) (spend_tick budget s.world) s _ (tick_answers budget low s.world kept.world) (let few = kept.enough in omega arith) kept
          (λ _ t _ _ t_kept. asked_goes g budget ticks (suc low) (suc low) types Anything (IsAnswer g i.result) (enter_call t.depth t.world) t _ (enter_answers budget (suc low) t.depth t.world t_kept.world) t_kept.enough t_kept
          (λ _ u _ _ u_kept. asked_goes g budget ticks (suc low) (suc low) types Anything (IsAnswer g i.result) (touch (Passed import sent) u.world) u _ (touch_answers budget (suc low) (Passed import sent) u.world u_kept.world) u_kept.enough u_kept
          (λ _ v _ _ v_kept. passed_goes (suc low) v i site crosses (let few = kept.enough in omega arith) v_kept))))

      tainted_goes : (low : ℕ) (s : State) (import : ℕ) (i : Import) (site : Site) (vs : List Value) → slice_get g.program.imports import ≡ Some i → IsNumberResult i.result → OfTypes g (replicate i.parameters Int) vs s → IsKept g budget ticks low types s
          → Goes g budget ticks low types s (IsAnswer g i.result) (call_tainted setting k import (slice_get g.program.imports import) site vs s)
      tainted_goes low s import i site vs found crosses h kept =
          let words = words_there g budget ticks (shaped s) i.parameters vs h in
          let many : length vs ≡ i.parameters = values_count g.structs (shaped s) (replicate i.parameters Int) vs h ∙ length-replicate i.parameters Int in
          let test : (i.parameters == length vs) ≡ true = grind (arith, nat_tests) in
          subst (λ o. Goes g budget ticks low types s (IsAnswer g i.result) (call_tainted setting k import o site vs s)) (sym found)
          (subst (λ yes. Goes g budget ticks low types s (IsAnswer g i.result) (cross_if yes setting k import i site vs s)) (sym test) (cross_goes low s import i site (words_of vs) words.0 words.1 crosses kept))

      entered_goes : (low : ℕ) (s : State) (function : ℕ) (f : core.Function) (bs : List (Option Bounds)) (r : Option Bounds) (vs : List Value) (test : Bool) → test ≡ true → slice_get g.program.functions function ≡ Some f → slice_get g.bounds function ≡ Some bs
          → slice_get g.result_bounds function ≡ Some r → OfTypes g (parameters_of f) vs s → AreEntered g.structs bs (record s { locals = locals_for f.locals vs }) → IsKept g budget ticks low types s → Goes g budget ticks low types s (IsResult g budget ticks f.result r f.locals vs) (enter_if test setting k function vs s)
      entered_goes low s function f bs r vs false e found known told h begun kept = absurd (cc)
      entered_goes low s function f bs r vs true e found known told h begun kept =
          let enough : suc budget ≤ suc low + ticks = let few = kept.enough in omega arith in
          lowered g budget ticks low types s (IsResult g budget ticks f.result r f.locals vs) (enter_if true setting k function vs s) kept.enough
          (asked_goes g budget ticks low (suc low) types Anything (IsResult g budget ticks f.result r f.locals vs) (spend_tick budget s.world) s _ (tick_answers budget low s.world kept.world) (let few = kept.enough in omega arith) kept
          (λ _ t more _ t_kept. asked_goes g budget ticks (suc low) (suc low) types Anything (IsResult g budget ticks f.result r f.locals vs) (enter_call t.depth t.world) t _ (enter_answers budget (suc low) t.depth t.world t_kept.world) t_kept.enough t_kept
          (λ _ u more' _ u_kept.
          let grown = grows_on (shaped s) (shaped t) (shaped u) more.0 more'.0 in
          is.call (suc low) types function f vs u found bs known r told (values_grown g.structs (shaped s) (shaped u) grown (parameters_of f) vs h)
          (entered_later g.structs bs (record s { locals = locals_for f.locals vs }) (record u { locals = locals_for f.locals vs }) grown refl begun) enough u_kept)))

      trusted_goes : (low : ℕ) (s : State) (function : ℕ) (f : core.Function) (bs : List (Option Bounds)) (r : Option Bounds) (vs : List Value) → slice_get g.program.functions function ≡ Some f → slice_get g.bounds function ≡ Some bs → slice_get g.result_bounds function ≡ Some r
          → OfTypes g (parameters_of f) vs s → AreEntered g.structs bs (record s { locals = locals_for f.locals vs }) → IsKept g budget ticks low types s → Goes g budget ticks low types s (IsResult g budget ticks f.result r f.locals vs) (call_trusted setting k function vs s)
      trusted_goes low s function f bs r vs found known told h begun kept =
          let test = ap (λ (o : Option core.Function). takes o vs) found ∙ values_fit g.structs (shaped s) (parameters_of f) vs h in
          entered_goes low s function f bs r vs (takes (slice_get g.program.functions function) vs) test found known told h begun kept

      -- what a call enters its function with
      abbrev pub AreBegun : {callee : Callee} {ts : List CType} {bs : List (Option Bounds)} {result : Option CType} {r : Option Bounds} → IsCallee g callee ts bs result r → List Value → State → Type 0
      AreBegun (typed.trusted {f = f} {bounds = bs} found known told rows sound) vs s = AreEntered g.structs bs (record s { locals = locals_for f.locals vs })
      AreBegun (typed.tainted found crosses) vs s = Unit {0}

      pub begun_so : {callee : Callee} {ts : List CType} {bs : List (Option Bounds)} {result : Option CType} {r : Option Bounds} (enters : IsCallee g callee ts bs result r) (here : Scope) (arguments : core.Arguments) (vs : List Value) (s : State) → IsKnown g.structs here s → HasLocals here.locals s
          → AreAsked g.structs here (terms_of here.locals arguments ts) (pointers_of here.locals arguments) arguments bs → ArePassed g.structs (length here.locals) here.locals ts arguments vs s → AreBegun enters vs s
      begun_so (typed.trusted {f = f} {bounds = bs} found known told rows sound) here arguments vs s is_known has asked passed = entered g.structs here s is_known has f.locals f.parameters arguments vs bs rows passed asked
      begun_so (typed.tainted found crosses) here arguments vs s is_known has asked passed = tt

      -- what it gives back: a result that is valid, over what stands for the parameters, with the bounds that are declared for it
      abbrev pub IsBack : List (Option Term) → Option CType → Option Bounds → Option Value → State → Type 0
      IsBack terms result r v s = IsAnswer g result v s × ((b d : Bounds) → r ≡ Some b → ends_filled_in terms b ≡ Some d → HasResult g.structs result (Some d) v s)

      back_so : (terms : List (Option Term)) (result : Option CType) (r : Option Bounds) (types' : List CType) (locals : List CType) (vs : List Value) (v : Option Value) (s : State) → HasResultBounds types' result r → HoldTerms terms s.locals (locals_for locals vs) → IsResult g budget ticks result r locals vs v s → IsBack terms result r v s
      back_so terms result None types' locals vs v s sound hold h = (h.0, λ b d is at. absurd (cc))
      back_so terms None (Some b) types' locals vs v s sound hold h = (h.0, λ b d is at. tt)
      back_so terms (Some Int) (Some b) types' locals vs v s sound hold h = (h.0, λ b d is at. tt)
      back_so terms (Some Char) (Some b) types' locals vs v s sound hold h = (h.0, λ b d is at. tt)
      back_so terms (Some (Struct number)) (Some b) types' locals vs v s sound hold h = (h.0, λ b d is at. tt)
      back_so terms (Some (Pointer m kinds.One t)) (Some b) types' locals vs v s sound hold h = (h.0, λ b d is at. tt)
      back_so terms (Some (Pointer m kinds.Nt t)) (Some b) types' locals vs None s sound hold h = (h.0, λ b d is at. tt)
      back_so terms (Some (Pointer m kinds.Nt t)) (Some b) types' locals vs (Some v) s sound hold h = (
        h.0,
        λ c d is at.
            let same : b ≡ c = cc in
            let it = sound b refl in
            result_valid g.structs terms s (record s { locals = locals_for locals vs }) hold b d (record { type = Pointer m kinds.Nt t; value = v }) it.base (ap (ends_filled_in terms) same ∙ at) (grows_here (shaped s)) h.1,
      )
      back_so terms (Some (Pointer m kinds.Array t)) (Some b) types' locals vs None s sound hold h = (h.0, λ b d is at. tt)
      back_so terms (Some (Pointer m kinds.Array t)) (Some b) types' locals vs (Some v) s sound hold h = (
        h.0,
        λ c d is at.
            let same : b ≡ c = cc in
            let it = sound b refl in
            result_valid g.structs terms s (record s { locals = locals_for locals vs }) hold b d (record { type = Pointer m kinds.Array t; value = v }) it.base (ap (ends_filled_in terms) same ∙ at) (grows_here (shaped s)) h.1,
      )

      pub called_goes : (low : ℕ) (s : State) (here : Scope) (arguments : core.Arguments) {callee : Callee} {ts : List CType} {bs : List (Option Bounds)} {result : Option CType} {r : Option Bounds} (enters : IsCallee g callee ts bs result r) (vs : List Value) → OfTypes g ts vs s
          → IsKnown g.structs here s → HasLocals here.locals s → ArePassed g.structs (length here.locals) here.locals ts arguments vs s → AreBegun enters vs s → IsKept g budget ticks low types s
          → Goes g budget ticks low types s (IsBack (terms_of here.locals arguments ts) result r) (called setting k callee vs s)
      called_goes low s here arguments (typed.trusted {n = function} {f = f} {bounds = bs} {result_bounds = r} found known told rows sound) vs h is_known has passed begun kept =
          let terms = terms_of here.locals arguments (parameters_of f) in
          let held = hold g.structs here s is_known has f.locals f.parameters arguments vs bs rows passed in
          sure_further (λ v u. IsResult g budget ticks f.result r f.locals vs v u × IsAfter s u × IsKept g budget ticks low types u) (λ v u. IsBack terms f.result r v u × IsAfter s u × IsKept g budget ticks low types u) (called setting k (callees.Trusted function) vs s)
          (trusted_goes low s function f bs r vs found known told h begun kept)
          (λ v u x. (back_so terms f.result r (parameters_of f) f.locals vs v u sound (subst (λ ls. HoldTerms terms ls (locals_for f.locals vs)) (sym x.1.1) held) x.0, x.1, x.2))
      called_goes low s here arguments (typed.tainted {n = import} {i = i} {site = site} found crosses) vs h is_known has passed begun kept =
          goes_further g budget ticks low types s (IsAnswer g i.result) (IsBack (terms_of here.locals arguments (replicate i.parameters Int)) i.result None) (called setting k (callees.Tainted import site) vs s) (tainted_goes low s import i site vs found crosses h kept)
          (λ v u answered. (answered, λ b d is at. absurd (cc)))
