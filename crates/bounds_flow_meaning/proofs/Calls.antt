-- Bounds over the parameters of a function that is called, and over the variables of its caller.
use Rattle.std.proofs.Common.{ℕ, ◌≡◌, ℤ, ◌+ℤ◌, Option, None, Some, List, get_or, refl, sym, ap, ◌∙◌, arith}
use Rattle.std.proofs.lemmas.Int.{ints}
use Rattle.bounds_exprs.specs.declared.term.Term.{Term}
use Rattle.bounds_exprs.specs.Changes.{filled_in, raised_term}
use Rattle.ckc_core.specs.States.{Local}
use Rattle.ckc_core.specs.Bounds.{base_byte, term_value}
use Rattle.bounds_flow_meaning.specs.Holding.{target_size}
use Rattle.bounds_flow_meaning.specs.Calls.{CallsKeep, HoldTerms}
use Rattle.bounds_flow_meaning.proofs.Numbers.{limited_value, term_raised, term_there}
use Rattle.bounds_flow_meaning.proofs.Validity.{alike_here, between_parts, carried, stay_ends}

none_some : (t : Term) (o : Option Term) → o ≡ None → o ≡ Some t → ⊥
none_some t o n e = cc

module _ (terms : List (Option Term)) (caller callee : List Local) (hold : HoldTerms terms caller callee) where
  raised_value : (x : ℕ) (o : Option Term) (plus : ℤ) (u : Term) → get_or terms x None ≡ o → raised_term o plus ≡ Some u → term_value u caller ≡ term_value (record { var = Some x; plus = plus }) callee
  raised_value x None plus u e h = absurd (none_some u None refl h)
  raised_value x (Some w) plus u e h =
      let t = hold x w e in
      let same : w.plus +ℤ plus ≡ plus +ℤ w.plus = omega (arith, ints) in
      limited_value caller w.var (plus +ℤ w.plus) u h
      ∙ (ap (λ p. term_value (record { var = w.var; plus = p }) caller) (sym same)
      ∙ (term_raised caller w.var w.plus plus t.number t.is ∙ sym (term_there callee x t.local t.number plus t.there t.holds)))

  filled_by : (o : Option ℕ) (plus : ℤ) (u : Term) → filled_in terms (record { var = o; plus = plus }) ≡ Some u → term_value u caller ≡ term_value (record { var = o; plus = plus }) callee
  filled_by None plus u h = limited_value caller None plus u h
  filled_by (Some x) plus u h = raised_value x (get_or terms x None) plus u refl h

  pub filled_value : (t u : Term) → filled_in terms t ≡ Some u → term_value u caller ≡ term_value t callee
  filled_value t u h = filled_by t.var t.plus u h

pub calls_keep : CallsKeep
calls_keep structs terms b d l caller callee none filled hold =
    let p = between_parts b.base (filled_in terms b.lo) (filled_in terms b.hi) d filled in
    let lo = filled_value terms caller.locals callee.locals hold b.lo d.lo p.lo in
    let hi = filled_value terms caller.locals callee.locals hold b.hi d.hi p.hi in
    let own : (block byte : ℕ) → base_byte d.base caller.locals block byte ≡ base_byte b.base callee.locals block byte =
    λ block byte. ap (λ o. base_byte o caller.locals block byte) (p.base ∙ none) ∙ sym (ap (λ o. base_byte o callee.locals block byte) none) in
    record {
      enter = λ grows h. carried structs d b l l caller callee grows (alike_here l) (stay_ends (target_size structs l.type) d b caller.locals callee.locals (λ block byte. sym (own block byte)) (sym lo) (sym hi)) h;
      back = λ grows h. carried structs b d l l callee caller grows (alike_here l) (stay_ends (target_size structs l.type) b d callee.locals caller.locals own lo hi) h;
    }
