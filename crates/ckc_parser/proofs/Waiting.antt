-- The list of the forms that wait, and its last.
use Rattle.std.proofs.Common.{◌≡◌, ℕ, ◌+◌, List, [], ◌∷◌, ◌++◌, None, length, take, refl, ap, ◌∙◌, arith}
use Rattle.ckc_text.specs.declared.place.Span.{Span}
use Rattle.ckc_parser.specs.declared.expressions.Pending.{Pending}
use Rattle.ckc_parser.specs.declared.expressions.Pending.TheVariants as forms
use Rattle.ckc_parser.specs.Contexts.{Frame, frame, onto, waiting, paren_start}

onto_last : (outer : List Frame) (ps : List Pending) (x : Pending) → onto outer (ps ++ x ∷ []) ≡ frame x ∷ onto outer ps
onto_last outer [] x = refl
onto_last outer (p ∷ ps) x = onto_last (frame p ∷ outer) ps x

pub waiting_last : (ps others : List Pending) (x : Pending) → ps ≡ others ++ x ∷ [] → waiting ps ≡ frame x ∷ waiting others
waiting_last ps others x e = ap waiting e ∙ onto_last [] others x

onto_front : (outer : List Frame) (x : Pending) (ps : List Pending) (f : Frame) (p : List Frame) → onto outer (x ∷ ps) ≡ f ∷ p → onto outer (take (length ps) (x ∷ ps)) ≡ p
onto_front outer x [] f p e = cc
onto_front outer x (y ∷ ys) f p e = onto_front (frame x ∷ outer) y ys f p e

pub waiting_front : (n : ℕ) (ps : List Pending) (f : Frame) (p : List Frame) → n + 1 ≡ length ps → waiting ps ≡ f ∷ p → waiting (take n ps) ≡ p
waiting_front n [] f p is e = cc
waiting_front n (x ∷ ps) f p is e = let same : n ≡ length ps = omega arith in rw same (onto_front [] x ps f p e)

pub no_paren : (x : Pending) (p : List Frame) → ((start : Span) → x ≡ forms.Paren start → ⊥) → None ≡ paren_start (frame x ∷ p)
no_paren (forms.Paren start) p other = absurd (other start refl)
no_paren (forms.Unary operator start) p other = refl
no_paren (forms.Binary operator left) p other = refl
