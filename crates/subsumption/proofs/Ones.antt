-- Lists with one fact for each two.
use Rattle.std.proofs.Common.{◌≡◌, List, [], ◌∷◌, ◌++◌, length, get_or, sym, ◌∙◌, ap, arith, inl, inr}
use Rattle.std.proofs.lemmas.Bool.{cases_eq}
use Rattle.std.proofs.lemmas.List.{get_or_append_left, get_or_push, length_push}
use Rattle.std.specs.List.{All}
use Rattle.subsumption.specs.declared.fact.Fact.{Fact}
use Rattle.subsumption.specs.Facts.{IsAlike, HasOneEach}

pub alike_along : (f f' g g' : Fact) → f ≡ f' → g ≡ g' → IsAlike f g → IsAlike f' g'
alike_along f f' g g' p q h = record { left = ap (λ x. x.left) (sym p) ∙ h.left ∙ ap (λ x. x.left) q; right = ap (λ x. x.right) (sym p) ∙ h.right ∙ ap (λ x. x.right) q }

pub one_none : HasOneEach []
one_none = record { apart = λ i j d lt in'. absurd (omega arith) }

pub one_push : (F : List Fact) (f : Fact) → HasOneEach F → All (λ g. IsAlike g f → ⊥) F → HasOneEach (F ++ f ∷ [])
one_push F f one new = record {
  apart = λ i j d lt in' h. (let size = length_push F f in
      let left : get_or (F ++ f ∷ []) i d ≡ get_or F i d = get_or_append_left F (f ∷ []) d i (omega (arith, size)) in
      elim (cases_eq j (length F)) [
        | inl here ↦ new i d (omega (arith, here)) (alike_along _ _ _ _ left (get_or_push F f d j (sym here)) h)
        | inr ne ↦ (let right : get_or (F ++ f ∷ []) j d ≡ get_or F j d = get_or_append_left F (f ∷ []) d j (omega (arith, size)) in
            one.apart i j d lt (omega (arith, size)) (alike_along _ _ _ _ left right h))
      ]);
}
