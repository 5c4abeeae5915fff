-- How the data of types is stored: what a proof tells its values apart by.
use Rattle.std.specs.Prelude.{◌≡◌, ℕ, zero, suc, Bool, List, [], ◌∷◌, Option, Some, None, refl}
use Rattle.std.proofs.Common.{ap}
use Rattle.std.specs.Coded.{Coded, code_by, coded×, coded_ℕ, coded_bool, coded_list, coded_option}
use Rattle.ckc_text.specs.declared.place.Span.{Span}
use Rattle.pointer_modes.specs.declared.ctype.Mode.{Mode}
use Rattle.pointer_modes.specs.declared.ctype.Mode.TheVariants.{Checked, Tainted, Raw}
use Rattle.pointer_modes.specs.declared.ctype.Kind.{Kind}
use Rattle.pointer_modes.specs.declared.ctype.Kind.TheVariants.{One, Array, Nt}
use Rattle.pointer_modes.specs.Types.{CType, Int, Char, Struct, Pointer, Member, Structure}

abbrev mode_number : Mode → ℕ
mode_number Checked = 0
mode_number Tainted = 1
mode_number Raw = 2

abbrev numbered_mode : ℕ → Mode
numbered_mode zero = Checked
numbered_mode (suc zero) = Tainted
numbered_mode (suc (suc n)) = Raw

pub numbered_mode-mode_number : (m : Mode) → numbered_mode (mode_number m) ≡ m
numbered_mode-mode_number Checked = refl
numbered_mode-mode_number Tainted = refl
numbered_mode-mode_number Raw = refl

abbrev coded_mode : Coded Mode
coded_mode = code_by ℕ coded_ℕ mode_number numbered_mode numbered_mode-mode_number

abbrev kind_number : Kind → ℕ
kind_number One = 0
kind_number Array = 1
kind_number Nt = 2

abbrev numbered_kind : ℕ → Kind
numbered_kind zero = One
numbered_kind (suc zero) = Array
numbered_kind (suc (suc n)) = Nt

pub numbered_kind-kind_number : (k : Kind) → numbered_kind (kind_number k) ≡ k
numbered_kind-kind_number One = refl
numbered_kind-kind_number Array = refl
numbered_kind-kind_number Nt = refl

abbrev coded_kind : Coded Kind
coded_kind = code_by ℕ coded_ℕ kind_number numbered_kind numbered_kind-kind_number

-- the pointers that lead to what isn't a pointer, and that: a struct's number, a char or an int
abbrev Parts : Type 0
Parts = List (Mode × Kind) × Option (Option ℕ)

abbrev with_pointer : Mode → Kind → Parts → Parts
with_pointer mode kind parts = ((mode, kind) ∷ parts.0, parts.1)

abbrev parts_of : CType → Parts
parts_of Int = ([], None)
parts_of Char = ([], Some None)
parts_of (Struct number) = ([], Some (Some number))
parts_of (Pointer mode kind target) = with_pointer mode kind (parts_of target)

abbrev target_of : Option (Option ℕ) → CType
target_of None = Int
target_of (Some None) = Char
target_of (Some (Some number)) = Struct number

abbrev pointers_to : List (Mode × Kind) → CType → CType
pointers_to [] target = target
pointers_to (p ∷ pointers) target = Pointer p.0 p.1 (pointers_to pointers target)

abbrev made_of : Parts → CType
made_of parts = pointers_to parts.0 (target_of parts.1)

pub made_of-parts_of : (t : CType) → made_of (parts_of t) ≡ t
made_of-parts_of Int = refl
made_of-parts_of Char = refl
made_of-parts_of (Struct number) = refl
made_of-parts_of (Pointer mode kind target) = ap (Pointer mode kind) (made_of-parts_of target)

abbrev pub coded_ctype : Coded CType
coded_ctype = code_by Parts (coded× (coded_list (coded× coded_mode coded_kind)) (coded_option (coded_option coded_ℕ))) parts_of made_of made_of-parts_of

abbrev pub coded_span : Coded Span
coded_span = code_by (ℕ × ℕ) (coded× coded_ℕ coded_ℕ) (λ s. (s.from, s.to)) (λ p. record { from = p.0; to = p.1 }) (λ _. refl)

abbrev pub coded_member : Coded Member
coded_member =
    code_by (List ℕ × (CType × Span))
    (coded× (coded_list coded_ℕ) (coded× coded_ctype coded_span))
    (λ m. (m.name, (m.ctype, m.span)))
    (λ p. record { name = p.0; ctype = p.1.0; span = p.1.1 })
    (λ _. refl)

-- declared structs are stored as the pairs of their fields
abbrev pub coded_structs : Coded (List Structure)
coded_structs = coded_list (code_by (Bool
    × List Member) (coded× coded_bool (coded_list coded_member)) (λ s. (s.tainted, s.members)) (λ p. record { tainted = p.0; members = p.1 }) (λ _. refl))
