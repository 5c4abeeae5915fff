-- Arguments whose bounds are met, or aren't, one by one.
use Rattle.std.proofs.Common.{◌≡◌, ℕ, zero, suc, ◌+◌, ◌<◌, true, false, List, [], ◌∷◌, length, map, drop, get_or, Option, Some, None, refl, ap, sym, ◌∙◌, arith}
use Rattle.std.specs.Prelude.{slice_index_or}
use Rattle.ckc_text.specs.declared.place.Span.{Span}
use Rattle.bounds_exprs.specs.declared.term.Term.{Term}
use Rattle.bounds_flow.specs.Flows.{Knowledge}
use Rattle.pointer_modes.specs.declared.ctype.CType as code_type
use Rattle.pointer_modes.specs.Types.{ctype}
use Rattle.region_typing_rules.specs.Verdicts.{picked}
use Rattle.region_typing_rules.specs.Scopes.{WrittenBounds, bounds_in}
use Rattle.region_typing_rules.specs.Calls.{argument_meets}
use Rattle.region_typing_scope.specs.OnHeap.{typed}
use Rattle.region_typing_scope.proofs.Steps.{parts_at}
use Rattle.region_typing_expressions.specs.declared.calls.Argument as code
use Rattle.region_typing_expressions.specs.Calls.{argument}
use Rattle.region_typing_expressions.specs.ArgumentBounds.{first_bounds, first_unmet, other_bounds}

first_left : (bs : List WrittenBounds) (i : ℕ) → first_bounds (drop i bs) ≡ bounds_in (slice_index_or bs i None)
first_left [] zero = refl
first_left [] (suc i) = refl
first_left (b ∷ bs) zero = refl
first_left (b ∷ bs) (suc i) = first_left bs i

others_left : (bs : List WrittenBounds) (i : ℕ) → other_bounds (drop i bs) ≡ drop (suc i) bs
others_left [] zero = refl
others_left [] (suc i) = refl
others_left (b ∷ bs) zero = refl
others_left (b ∷ bs) (suc i) = others_left bs i

module _ (f : Knowledge) (terms : List (Option Term)) (pointers : List (Option ℕ)) (arguments : List code.Argument) (types : List code_type.CType) (bounds : List WrittenBounds) (i : ℕ) (a : code.Argument) (t : code_type.CType)
    (less : i < length arguments) (at : a ≡ get_or arguments i a) (type_less : i < length types) (type_at : t ≡ get_or types i t) where
  one_left : first_unmet f terms pointers (map argument (drop i arguments)) (map ctype (drop i types)) (drop i bounds)
      ≡ picked (argument_meets f terms pointers (typed a.typed) (ctype t) (bounds_in (slice_index_or bounds i None)))
      (first_unmet f terms pointers (map argument (drop (i + 1) arguments)) (map ctype (drop (i + 1) types)) (drop (i + 1) bounds)) (Some a.span)
  one_left =
      let next : suc i ≡ i + 1 = omega arith in
      ap (λ ts. first_unmet f terms pointers ts (map ctype (drop i types)) (drop i bounds)) (parts_at argument arguments i a less at)
      ∙ ap (λ us. first_unmet f terms pointers (argument a ∷ map argument (drop (i + 1) arguments)) us (drop i bounds)) (parts_at ctype types i t type_less type_at)
      ∙ ap (λ b. picked (argument_meets f terms pointers (typed a.typed) (ctype t) b) (first_unmet f terms pointers (map argument (drop (i + 1) arguments)) (map ctype (drop (i + 1) types)) (other_bounds (drop i bounds))) (Some a.span)) (first_left bounds i)
      ∙ ap (λ bs. picked (argument_meets f terms pointers (typed a.typed) (ctype t) (bounds_in (slice_index_or bounds i None))) (first_unmet f terms pointers (map argument (drop (i + 1) arguments)) (map ctype (drop (i + 1) types)) bs) (Some a.span))
      (others_left bounds i ∙ ap (λ n. drop n bounds) next)

  -- an argument whose bounds are met, and one whose aren't
  pub one_met : (all : Option Span) → argument_meets f terms pointers (typed a.typed) (ctype t) (bounds_in (slice_index_or bounds i None)) ≡ true
      → all ≡ first_unmet f terms pointers (map argument (drop i arguments)) (map ctype (drop i types)) (drop i bounds)
      → all ≡ first_unmet f terms pointers (map argument (drop (i + 1) arguments)) (map ctype (drop (i + 1) types)) (drop (i + 1) bounds)
  one_met all met so_far = so_far ∙ one_left ∙ ap (λ b. picked b (first_unmet f terms pointers (map argument (drop (i + 1) arguments)) (map ctype (drop (i + 1) types)) (drop (i + 1) bounds)) (Some a.span)) met

  pub one_unmet : (all : Option Span) → argument_meets f terms pointers (typed a.typed) (ctype t) (bounds_in (slice_index_or bounds i None)) ≡ false
      → all ≡ first_unmet f terms pointers (map argument (drop i arguments)) (map ctype (drop i types)) (drop i bounds) → Some a.span ≡ all
  one_unmet all unmet so_far = sym (so_far ∙ one_left ∙ ap (λ b. picked b (first_unmet f terms pointers (map argument (drop (i + 1) arguments)) (map ctype (drop (i + 1) types)) (drop (i + 1) bounds)) (Some a.span)) unmet)
