-- The term of a sum from its parts up.
use Rattle.std.proofs.Common.{refl, sym, ◌∙◌, ap}
use Rattle.bounds_exprs.specs.Sums.{Number, Variable, Pointer, Size, Plus, Minus, Times, Other, term_of}
use Rattle.bounds_exprs.specs.Parts.{added, subtracted, multiplied}
use Rattle.bounds_exprs.specs.Steps.{term_by_parts, TermsAgree}
use Rattle.bounds_exprs.proofs.Terms.{term_of-plus, term_of-minus, term_of-times}

pub terms_agree : TermsAgree
terms_agree (Number value) = refl
terms_agree (Variable var) = refl
terms_agree (Pointer var) = refl
terms_agree (Size bytes element) = refl
terms_agree (Plus left right) = ap (λ a. added a (term_by_parts right)) (terms_agree left) ∙ (ap (added (term_of left)) (terms_agree right) ∙ sym (term_of-plus left right))
terms_agree (Minus left right) = ap (λ a. subtracted a (term_by_parts right)) (terms_agree left) ∙ (ap (subtracted (term_of left)) (terms_agree right) ∙ sym (term_of-minus left right))
terms_agree (Times left right) = ap (λ a. multiplied a (term_by_parts right)) (terms_agree left) ∙ (ap (multiplied (term_of left)) (terms_agree right) ∙ sym (term_of-times left right))
terms_agree Other = refl
