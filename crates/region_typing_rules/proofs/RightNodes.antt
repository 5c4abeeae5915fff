-- Where an expression has a type, the nodes of null-terminated pointers that it tests are right.
use Rattle.std.proofs.Common.{◌≡◌, ℕ, List, Option, Some, refl, sym, ap, ◌∙◌, subst}
use Rattle.std.specs.Prelude.{slice_get}
use Rattle.std.proofs.lemmas.Option.{same_Some}
use Rattle.pointer_modes.specs.declared.ctype.Mode.{Mode}
use Rattle.pointer_modes.specs.declared.ctype.Mode.TheVariants as modes
use Rattle.pointer_modes.specs.declared.ctype.Kind.TheVariants as kinds
use Rattle.pointer_modes.specs.Types.{CType, Char, Pointer, Structure}
use Rattle.bounds_flow.specs.Flows.{Knowledge}
use Rattle.bounds_flow_meaning.specs.Holding.{target_size}
use Rattle.ckc_core.specs.declared.program.Direction.{Direction}
use Rattle.ckc_core.specs.declared.program.PointerBounds.{PointerBounds}
use Rattle.ckc_core.specs.declared.program.Site.{Site}
use Rattle.ckc_core.specs.Core as core
use Rattle.region_typing_rules.specs.Scopes.{Scope}
use Rattle.region_typing_rules.specs.Operands.{bounds_at}
use Rattle.region_typing_rules.specs.Typed as typed
use Rattle.region_typing_rules.specs.Typed.{Frame, HasAccess, HasPlace, HasType, IsNodeOf}
use Rattle.region_typing_rules.proofs.ReadElements.{AreRight, IsRightNode, IsRightPlace, IsRightPointer}

-- a null-terminated pointer has no bounds by its type
none_by_type : (structs : List Structure) (m : Mode) (target : CType) (site : Site) (p : PointerBounds) → bounds_at structs (Pointer m kinds.Nt target) site ≡ Some p → ⊥
none_by_type structs modes.Checked target site p h = cc
none_by_type structs modes.Tainted target site p h = cc
none_by_type structs modes.Raw target site p h = cc

-- a sum is as right as its pointer
sum_right : (structs : List Structure) (types : List CType) (f : Knowledge) (e : core.Expression) (direction : Direction) (i : core.Expression) (site : Site) (b : Option PointerBounds) → IsRightPointer structs types f e → IsRightPointer structs types f (core.Sum e direction i site b)
sum_right structs types f (core.Local k own) direction i site b h = h
sum_right structs types f e direction i site b h = tt

module _ (g : Frame) (locals : List CType) where
  right_pointer : {here : Scope} {e : core.Expression} {t : CType} → HasType g locals here e t → (m : Mode) (target : CType) → t ≡ Pointer m kinds.Nt target → IsRightPointer g.structs here.locals here.flow e
  right_pointer (typed.word fits) m target is = tt
  right_pointer (typed.byte fits) m target is = tt
  right_pointer typed.null m target is = tt
  right_pointer (typed.local {t = t} {b = b} found bounds) m target is = λ p e. absurd (none_by_type g.structs m target bounds.0 p (subst (λ t. bounds_at g.structs t bounds.0 ≡ Some p) is (sym bounds.1 ∙ e)))
  right_pointer {here = here} (typed.bounded {k = k} {mode = mode} {kind = kind} {t = t} {p = p} found node limited named force) m target is = λ q e.
      let same : p ≡ q = same_Some p q e in
      subst (IsRightNode g.structs here.locals here.flow k) same
      (record { node = λ c at. subst (λ c. IsNodeOf g.structs c p) (same_Some (Pointer mode kind t) c (sym found ∙ at)) node; valid = λ s known l there. (force s known l there).0 })
  right_pointer (typed.widened h) m target is = absurd (cc)
  right_pointer (typed.single h elements leads) m target is = absurd (cc)
  right_pointer (typed.row h bounds) m target is = absurd (cc)
  right_pointer (typed.ended_row h) m target is = absurd (cc)
  right_pointer (typed.load scalar h bounds) m target is = tt
  right_pointer (typed.bounded_object object size) m target is = tt
  right_pointer (typed.address_of h bounds) m target is = tt
  right_pointer (typed.array found some few rows bounds size) m target is = tt
  right_pointer (typed.ended_array found few row bounds size) m target is = tt
  right_pointer {here = here} (typed.sum {e = e} {i = i} {mode = mode} {kind = kind} {t = t} {direction = direction} {site = site} {b = b} counts h elements hi bounds) m target is =
      sum_right g.structs here.locals here.flow e direction i site b (right_pointer h m target is)
  right_pointer (typed.negate h) m target is = tt
  right_pointer (typed.complement h) m target is = tt
  right_pointer (typed.inverse h) m target is = tt
  right_pointer (typed.arithmetic ha hb) m target is = tt
  right_pointer (typed.compare ha hb) m target is = tt
  right_pointer (typed.same ha hb) m target is = tt
  right_pointer (typed.order ha from hb to) m target is = tt
  right_pointer (typed.both ha hb) m target is = tt
  right_pointer (typed.either ha hb) m target is = tt
  right_pointer (typed.low_byte h) m target is = tt
  right_pointer (typed.call known h asked bounds) m target is = tt
  right_pointer typed.next_input m target is = tt
  right_pointer (typed.allocate h fresh bounds) m target is = tt
  right_pointer (typed.allocate_ended h ended fresh bounds) m target is = tt
  right_pointer (typed.byte_count h elements) m target is = tt
  right_pointer (typed.cast h elements counts within size limited ints bases) m target is = tt
  right_pointer (typed.cast_single h elements within bounds) m target is = tt
  right_pointer (typed.cast_unbounded h elements counts) m target is = tt

  place_right : {here : Scope} {p : core.Place} {t : CType} → HasPlace g locals here p t → IsRightPlace g.structs here.locals here.flow p
  place_right (typed.direct found row) = tt
  place_right (typed.pointed h) = tt
  place_right (typed.member k h found scalar) = tt
  place_right (typed.element h elements hi) = tt
  place_right (typed.element_member k h elements hi found scalar) = tt

  access_right : {here : Scope} {p : core.Place} {t : CType} → HasAccess g locals here p t → IsRightPlace g.structs here.locals here.flow p
  access_right (typed.at_place h) = place_right h
  access_right (typed.ended {mode = mode} {t = t} h elements hi) = (refl, right_pointer h mode t refl)

  pub right_typed : {here : Scope} {e : core.Expression} {t : CType} → HasType g locals here e t → AreRight g.structs here.locals here.flow e
  right_typed (typed.word fits) = tt
  right_typed (typed.byte fits) = tt
  right_typed typed.null = tt
  right_typed (typed.local found bounds) = tt
  right_typed (typed.bounded found node limited named force) = tt
  right_typed (typed.widened h) = right_typed h
  right_typed (typed.single h elements leads) = right_typed h
  right_typed (typed.row h bounds) = right_typed h
  right_typed (typed.ended_row h) = right_typed h
  right_typed (typed.load scalar h bounds) = access_right h
  right_typed (typed.bounded_object object size) = tt
  right_typed (typed.address_of h bounds) = tt
  right_typed (typed.array found some few rows bounds size) = tt
  right_typed (typed.ended_array found few row bounds size) = tt
  right_typed (typed.sum counts h elements hi bounds) = tt
  right_typed (typed.negate h) = tt
  right_typed (typed.complement h) = tt
  right_typed (typed.inverse h) = right_typed h
  right_typed (typed.arithmetic ha hb) = tt
  right_typed (typed.compare ha hb) = tt
  right_typed (typed.same ha hb) = tt
  right_typed (typed.order ha from hb to) = tt
  right_typed (typed.both ha hb) = (right_typed ha, right_typed hb)
  right_typed (typed.either ha hb) = (right_typed ha, right_typed hb)
  right_typed (typed.low_byte h) = tt
  right_typed (typed.call known h asked bounds) = tt
  right_typed typed.next_input = tt
  right_typed (typed.allocate h fresh bounds) = tt
  right_typed (typed.allocate_ended h ended fresh bounds) = tt
  right_typed (typed.byte_count h elements) = tt
  right_typed (typed.cast h elements counts within size limited ints bases) = tt
  right_typed (typed.cast_single h elements within bounds) = tt
  right_typed (typed.cast_unbounded h elements counts) = tt

  -- ---- counts

  -- a local pointer to `char`s that a zero ends, with its bounds at its node
  pub record IsText (here : Scope) (k : ℕ) (b : Option PointerBounds) : Type 0 where
    pub mode : Mode
    pub pointer : slice_get here.locals k ≡ Some (Pointer mode kinds.Nt Char)
    pub size : (p : PointerBounds) → b ≡ Some p → p.size ≡ 1

  text_of : {here : Scope} {e : core.Expression} {t : CType} → HasType g locals here e t → (k : ℕ) (b : Option PointerBounds) (m : Mode) → e ≡ core.Local k b → t ≡ Pointer m kinds.Nt Char → IsText here k b
  text_of {here = here} (typed.local {k = j} {t = t} {b = c} found bounds) k b m is type =
      let first : j ≡ k = cc in
      let second : c ≡ b = cc in
      record {
        mode = m;
        pointer = subst (λ j. slice_get here.locals j ≡ Some (Pointer m kinds.Nt Char)) first (found ∙ ap Some type);
        size = λ p e. absurd (none_by_type g.structs m Char bounds.0 p (subst (λ t. bounds_at g.structs t bounds.0 ≡ Some p) type (sym bounds.1 ∙ (second ∙ e))));
      }
  text_of {here = here} (typed.bounded {k = j} {p = p} found node limited named force) k b m is type =
      let first : j ≡ k = cc in
      let second : Some p ≡ b = cc in
      record {
        mode = m;
        pointer = subst (λ j. slice_get here.locals j ≡ Some (Pointer m kinds.Nt Char)) first (found ∙ ap Some type);
        size = λ q e. (let same : p ≡ q = same_Some p q (second ∙ e) in subst (λ (p : PointerBounds). p.size ≡ 1) same (node.size ∙ ap (target_size g.structs) type));
      }
  text_of (typed.widened h) k b m is type = absurd (cc)
  text_of (typed.single h elements leads) k b m is type = absurd (cc)
  text_of (typed.row h bounds) k b m is type = absurd (cc)
  text_of (typed.ended_row h) k b m is type = absurd (cc)
  text_of h k b m is type = absurd (cc)

  pub counted_text : {here : Scope} {e : core.Expression} {t : CType} → HasType g locals here e t → (k : ℕ) (b : Option PointerBounds) (site : Site) → e ≡ core.Length (core.Local k b) site → IsText here k b
  counted_text (typed.widened h) k b site is = counted_text h k b site is
  counted_text (typed.single h elements leads) k b site is = counted_text h k b site is
  counted_text (typed.row h bounds) k b site is = counted_text h k b site is
  counted_text (typed.ended_row h) k b site is = counted_text h k b site is
  counted_text (typed.byte_count {mode = mode} {e = e} h elements) k b site is = let same : e ≡ core.Local k b = cc in text_of h k b mode same refl
  counted_text h k b site is = absurd (cc)
