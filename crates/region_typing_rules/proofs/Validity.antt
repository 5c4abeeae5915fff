-- A value of a type is valid with the bounds at its node.
use Rattle.std.proofs.Common.{◌≡◌, ℕ, ◌+◌, ◌≤◌, Bool, true, false, cond, pos, ◌+ℤ◌, ◌*ℤ◌, List, Option, Some, None, refl, sym, ap, ◌∙◌, subst, arith}
use Rattle.std.specs.Prelude.{◌&&◌, nat_le, int_le, sum}
use Rattle.std.proofs.lemmas.Int.{ints}
use Rattle.std.proofs.lemmas.Bool.{and_from}
use Rattle.std.proofs.lemmas.Bool.Decides.{nat_tests}
use Rattle.bounds_exprs.specs.Normal.{constant}
use Rattle.pointer_modes.specs.declared.ctype.Mode.TheVariants as modes
use Rattle.pointer_modes.specs.declared.ctype.Kind.TheVariants as kinds
use Rattle.pointer_modes.specs.Types.{CType, Int, Char, Struct, Pointer, Structure}
use Rattle.pointer_modes.specs.Layout.{size_of}
use Rattle.ckc_core.specs.declared.program.Site.{Site}
use Rattle.ckc_core.specs.declared.program.PointerBounds.{PointerBounds}
use Rattle.ckc_core.specs.Outcome.{Gives}
use Rattle.ckc_core.specs.States.{Value, Number, Null, At, Shape, State, shape, shapes}
use Rattle.ckc_core.specs.Bounds.{Ends, with_ends, block_size, lie_within, is_valid}
use Rattle.ckc_core.specs.Meaning.{sound_if, audit}
use Rattle.region_typing_rules.specs.Operands.{bounds_at}
use Rattle.bounds_flow_meaning.specs.Rows.{IsPlace}
use Rattle.region_typing_rules.specs.Typed.{HasValue}
use Rattle.region_typing_rules.proofs.Values.{mapped_from}

-- a pointer with its ends is the pointer
pub same_pointer : (P : Value → Type 0) (b : Option PointerBounds) (v : Value) (s : State) → P v → P (with_ends b v s.locals).value
same_pointer P None v s h = h
same_pointer P (Some p) (Number number) s h = h
same_pointer P (Some p) Null s h = h
same_pointer P (Some p) (At block byte) s h = h

-- the ends of one element
abbrev one_element : (byte size : ℕ) → Ends
one_element byte size = record { low = pos byte +ℤ ((pos 0 +ℤ pos 0) *ℤ pos size); high = pos byte +ℤ ((pos 0 +ℤ pos 1) *ℤ pos size); size = size }

whenever : (test answer : Bool) → answer ≡ true → cond test answer true ≡ true
whenever true answer h = h
whenever false answer h = refl

-- an element and its first byte lie within the bytes in which it has room
element_lies : (byte size bytes : ℕ) → byte + size ≤ bytes → (nat_le byte bytes && lie_within (one_element byte size) bytes) ≡ true
element_lies byte size bytes h =
    let e = one_element byte size in
    let low : e.low ≡ pos byte = omega (arith, ints) in
    let high : e.high ≡ pos (byte + size) = omega (arith, ints) in
    let starts : int_le (pos 0) e.low ≡ true = ap (int_le (pos 0)) low ∙ grind (arith, nat_tests) in
    let ends : int_le e.high (pos bytes) ≡ true = ap (λ z. int_le z (pos bytes)) high ∙ grind (arith, nat_tests) in
    let stands : nat_le byte bytes ≡ true = grind (arith, nat_tests) in
    and_from (nat_le byte bytes) (lie_within e bytes) stands
    (whenever (int_le e.low e.high) _ (and_from (int_le (pos 0) e.low) (int_le e.high (pos bytes)) starts ends))

module _ (structs : List Structure) (site : Site) (s : State) where
  abbrev one_bounds : CType → PointerBounds
  one_bounds target = record { bounds = record { base = None; lo = constant (pos 0); hi = constant (pos 1) }; size = size_of structs target; terminated = false; site = site }

  -- a place at which a value stands is valid, and so are the ends of the value
  pub place_valid : (target : CType) (block byte : ℕ) → IsPlace structs (shapes s.blocks) target block byte → is_valid (one_bounds target) (At block byte) s ≡ true
  place_valid target block byte h =
      let b = mapped_from shape s.blocks block h.shape h.found in
      let room = subst (λ (x : Shape). byte + size_of structs target ≤ sum x.strides) (sym b.2) h.row.room in
      rw (b.1) (element_lies byte (size_of structs target) (block_size b.0) room)

  -- a value of a type passes the audit
  pub sound : (t : CType) (v : Value) → HasValue structs (shapes s.blocks) t v → audit true (bounds_at structs t site) v s ≡ Gives v s
  sound Int v h = refl
  sound Char v h = refl
  sound (Struct number) v h = refl
  sound (Pointer modes.Tainted kind target) v h = refl
  sound (Pointer modes.Raw kind target) v h = refl
  sound (Pointer modes.Checked kinds.Array target) v h = refl
  sound (Pointer modes.Checked kinds.Nt target) v h = refl
  sound (Pointer modes.Checked kinds.One target) (Number number) h = absurd h
  sound (Pointer modes.Checked kinds.One target) Null h = refl
  sound (Pointer modes.Checked kinds.One target) (At block byte) h = ap (λ test. sound_if test site (At block byte) s) (place_valid target block byte h)
