-- The types that are written in a source, and what converts to what.
use Rattle.std.specs.Prelude.{ℕ, Bool, true, false, ◌&&◌, ◌||◌, ◌==◌}
use Rattle.ckc_text.specs.declared.code.Code.TheVariants.{E13, E15}
use Rattle.ckc_tree.specs.declared.type_form.PointerMode.{PointerMode}
use Rattle.ckc_tree.specs.declared.type_form.PointerMode.TheVariants as written_modes
use Rattle.ckc_tree.specs.declared.type_form.PointerKind.{PointerKind}
use Rattle.ckc_tree.specs.declared.type_form.PointerKind.TheVariants as written_kinds
use Rattle.ckc_tree.specs.Types.{TypeTree, IntType, CharType, StructType, PointerType, TypeName, type_span}
use Rattle.pointer_modes.specs.declared.ctype.Mode.{Mode}
use Rattle.pointer_modes.specs.declared.ctype.Mode.TheVariants as modes
use Rattle.pointer_modes.specs.declared.ctype.Kind.{Kind}
use Rattle.pointer_modes.specs.declared.ctype.Kind.TheVariants as kinds
use Rattle.pointer_modes.specs.Types.{CType, Int, Char, Struct, Pointer}
use Rattle.ckc_core.specs.States.{same_mode, same_type}
use Rattle.region_typing_rules.specs.Verdicts.{Verdict, Passes, passing, needs, meant}
use Rattle.region_typing_rules.specs.Scopes.{Scope, struct_named}

abbrev pub mode_of : PointerMode → Mode
mode_of written_modes.Checked = modes.Checked
mode_of written_modes.Tainted = modes.Tainted

abbrev pub kind_of : PointerKind → Kind
kind_of written_kinds.One = kinds.One
kind_of written_kinds.Array = kinds.Array
kind_of written_kinds.NullTerminated = kinds.Nt

-- a type, where stars behind it make it a raw pointer, which has no place in a checked region
abbrev pub without_stars : TypeTree → ℕ → CType → Verdict CType
without_stars base stars t = needs (stars == 0) E15 (type_span base) (Passes t)

abbrev pub is_number : CType → Bool
is_number Int = true
is_number Char = true
is_number (Struct number) = false
is_number (Pointer mode kind target) = false

-- what a pointer of this kind may lead to: a zero ends only numbers
abbrev pub may_lead_to : Kind → CType → Bool
may_lead_to kinds.One t = true
may_lead_to kinds.Array t = true
may_lead_to kinds.Nt t = is_number t

-- a type without stars. ended-are-numbers: a zero ends only numbers (E13)
abbrev pub base_type : Scope → TypeTree → Verdict CType
base_type s (IntType span) = Passes Int
base_type s (CharType span) = Passes Char
base_type s (StructType tag span) = passing (meant (struct_named s tag.number)) (λ number. Passes (Struct number))
base_type s (PointerType word element stars span) =
    passing (passing (base_type s element) (without_stars element stars)) (λ t.
    needs (may_lead_to (kind_of word.kind) t) E13 span (Passes (Pointer (mode_of word.mode) (kind_of word.kind) t)))

-- a type with stars
abbrev pub starred_type : Scope → TypeTree → ℕ → Verdict CType
starred_type s base stars = passing (base_type s base) (without_stars base stars)

abbrev pub type_named : Scope → TypeName → Verdict CType
type_named s t = starred_type s t.base t.stars

abbrev pub is_pointer : CType → Bool
is_pointer (Pointer mode kind target) = true
is_pointer Int = false
is_pointer Char = false
is_pointer (Struct number) = false

-- a pointer without bounds of its own
abbrev pub is_single : CType → Bool
is_single (Pointer mode kinds.One target) = true
is_single (Pointer mode kinds.Array target) = false
is_single (Pointer mode kinds.Nt target) = false
is_single Int = false
is_single Char = false
is_single (Struct number) = false

-- a pointer that has its bounds at its node
abbrev pub is_row : CType → Bool
is_row (Pointer mode kinds.One target) = false
is_row (Pointer mode kinds.Array target) = true
is_row (Pointer mode kinds.Nt target) = true
is_row Int = false
is_row Char = false
is_row (Struct number) = false

abbrev pub is_scalar : CType → Bool
is_scalar t = is_number t || is_pointer t

-- a pointer of this kind counts the elements of an array
abbrev pub Counts : Kind → Type 0
Counts kinds.One = ⊥
Counts kinds.Array = Unit {0}
Counts kinds.Nt = Unit {0}

-- two pointers of one mode and element
abbrev pub are_comparable : CType → CType → Bool
are_comparable (Pointer mode kind target) (Pointer mode' kind' target') = same_mode mode mode' && same_type target target'
are_comparable _ _ = false

-- a pointer of the one kind as one of the other: a pointer with bounds may be one to the element at which it stands, and a pointer to
-- one element has the bounds of one
abbrev pub kind_converts : Kind → Kind → Bool
kind_converts kinds.One kinds.One = true
kind_converts kinds.One kinds.Array = true
kind_converts kinds.One kinds.Nt = false
kind_converts kinds.Array kinds.One = true
kind_converts kinds.Array kinds.Array = true
kind_converts kinds.Array kinds.Nt = false
kind_converts kinds.Nt kinds.One = true
kind_converts kinds.Nt kinds.Array = true
kind_converts kinds.Nt kinds.Nt = true

abbrev pub pointer_converts : CType → Kind → CType → Bool
pointer_converts (Pointer mode kind target) kind' to = are_comparable (Pointer mode kind target) to && kind_converts kind kind'
pointer_converts Int kind' to = false
pointer_converts Char kind' to = false
pointer_converts (Struct number) kind' to = false

-- a value of the first type, which is the constant 0 or not, converts to the second
abbrev pub converts : CType → Bool → CType → Bool
converts from zero Int = is_number from
converts from zero Char = is_number from
converts from zero (Struct number) = false
converts from zero (Pointer mode kind target) = zero || pointer_converts from kind (Pointer mode kind target)
