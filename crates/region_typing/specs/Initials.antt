-- Inside: what a file-level variable is initialised with, as the code holds it.
use Rattle.std.specs.Prelude.{◌≡◌, ℕ, ◌<◌, ◌-◌, ◌^◌, Bool, true, false, ◌&&◌, nat_lt, nat_le, Option, Some, None, pos}
use Rattle.std.specs.Prelude.{List, [], ◌∷◌, ◌++◌, length, map}
use Rattle.std.proofs.Common.{ℤ}
use Rattle.ckc_text.specs.declared.place.Span.{Span}
use Rattle.ckc_text.specs.declared.code.Code.TheVariants.{E04, E13}
use Rattle.pointer_modes.specs.Types.{CType, Int, Char, Struct, Pointer, Structure}
use Rattle.ckc_tree.specs.declared.expr.UnaryOperator.TheVariants as unary
use Rattle.ckc_tree.specs.Expressions as e
use Rattle.ckc_tree.specs.Expressions.{Expression}
use Rattle.ckc_names_rules.specs.declared.given.Given.{Given}
use Rattle.ckc_core.specs.Programs.{Initial}
use Rattle.ckc_core.specs.Steps.{low_byte}
use Rattle.region_typing_rules.specs.Verdicts.{Verdict, Passes, passing, needs, breaks, picked}
use Rattle.ckc_tree.specs.declared.stmt.SignedConstant.{SignedConstant}
use Rattle.region_typing_rules.specs.Items as rules
use Rattle.region_typing_rules.specs.Cells.{cells_with}
use Rattle.region_typing_rules.specs.Statements.{before_end}
use Rattle.region_typing_rules.specs.Items.{is_zero, unsigned_constant, signed_constant, number_or_break, closed}
use Rattle.region_typing_rules.specs.Items.{unsigned_number, signed_number, small_constants, zeros_of, are_zeros}
use Rattle.region_typing.specs.declared.initials.Judged as code
use Rattle.region_typing.specs.declared.initials.Judged.TheVariants as forms

-- what a variable is initialised with: a value, which may be the constant 0, and its number where it is a constant; or a list of numbers, each of
-- which may be the constant 0
pub data Judged : Type 0 where
  Missing : Judged
  Constant : (zero : Bool) (number : Option ℤ) → Judged
  Constants : (zeros : Bool) (numbers : List ℤ) → Judged

abbrev pub judged : code.Judged → Judged
judged forms.Missing = Missing
judged (forms.Constant zero number) = Constant zero number
judged (forms.List zeros numbers) = Constants zeros numbers.items

-- what is judged of an initialiser whose children were walked
abbrev pub judged_as : Given → rules.Walked → Judged
judged_as given rules.Missing = Missing
judged_as given (rules.Written value t) = Constant (is_zero t) (signed_constant given value)
judged_as given (rules.Constants constants) = Constants (are_zeros constants) (map signed_number constants)

-- the constant of a list, and all constants of one (E04)
abbrev pub number_listed : SignedConstant → Verdict ℤ
number_listed c = needs (nat_lt (unsigned_number c.constant) (2 ^ 31)) E04 c.span (Passes (signed_number c))

-- the numbers so far, and one more
abbrev pub number_more : List ℤ → SignedConstant → Verdict (List ℤ)
number_more done c = passing (number_listed c) (λ z. Passes (done ++ z ∷ []))

abbrev pub numbers_listed : List SignedConstant → Verdict (List ℤ)
numbers_listed constants = small_constants constants (Passes (map signed_number constants))

-- what is judged of a list
abbrev pub judged_numbers : List SignedConstant → Verdict Judged
judged_numbers constants = passing (numbers_listed constants) (λ zs. Passes (Constants (are_zeros constants) zs))

-- the number modulo 256
abbrev low_number : Option ℤ → Option ℤ
low_number None = None
low_number (Some number) = Some (low_byte number)

-- what the cells of a type hold by a value, which may be the constant 0
abbrev pub cell_number : CType → Bool → Option ℤ → Option ℤ
cell_number Int zero number = number
cell_number Char zero number = low_number number
cell_number (Struct struct) zero number = None
cell_number (Pointer mode kind target) zero number = picked zero (Some (pos 0)) None

abbrev pub constant_cells : List Structure → CType → Bool → Option ℤ → Span → Verdict (List Initial)
constant_cells structs type zero number span = number_or_break (cell_number type zero number) span (cells_with structs type)

-- a number as an element of a type keeps it; the one that a pointer keeps is null
abbrev pub kept_as : CType → ℤ → ℤ
kept_as Int number = number
kept_as Char number = low_byte number
kept_as (Struct struct) number = number
kept_as (Pointer mode kind target) number = pos 0

-- the cells of elements with these numbers
abbrev pub elements_of : List Structure → CType → List ℤ → List Initial
elements_of structs type [] = []
elements_of structs type (z ∷ zs) = cells_with structs type (kept_as type z) ++ elements_of structs type zs

-- what may be listed for elements of a type: any numbers for numbers, the constant 0 alone for pointers
abbrev pub may_be_listed : CType → (zeros : Bool) → Bool
may_be_listed Int zeros = true
may_be_listed Char zeros = true
may_be_listed (Struct struct) zeros = false
may_be_listed (Pointer mode kind target) zeros = zeros

-- an array of so many elements, of which the first have these numbers (E13)
abbrev pub listed : List Structure → CType → ℕ → Bool → List ℤ → Span → Verdict (List Initial)
listed structs type n zeros zs span =
    picked (may_be_listed type zeros && nat_le (length zs) n) (Passes (elements_of structs type zs ++ zeros_of (n - length zs) structs type)) (breaks E13 span)

abbrev pub judged_cells : List Structure → CType → Option ℕ → (ended : Bool) → Judged → Span → Verdict (List Initial)
judged_cells structs type None ended Missing span = Passes (cells_with structs type (pos 0))
judged_cells structs type None ended (Constant zero number) span = constant_cells structs type zero number span
judged_cells structs type None ended (Constants zeros zs) span = breaks E13 span
judged_cells structs type (Some n) ended Missing span = Passes (zeros_of n structs type)
judged_cells structs type (Some n) ended (Constant zero number) span = breaks E13 span
judged_cells structs type (Some n) ended (Constants zeros zs) span =
    passing (listed structs type (before_end ended n) zeros zs span) (λ cells. Passes (closed ended structs type cells))

-- the number under a sign, or without one
abbrev magnitude : Given → Expression → Option ℕ
magnitude given (e.Unary unary.Negate operand span) = unsigned_constant given operand
magnitude given a = unsigned_constant given a

-- a constant has at most 31 bits
abbrev pub IsSmall : Given → Expression → Type 0
IsSmall given a = (n : ℕ) → magnitude given a ≡ Some n → n < 2147483648
