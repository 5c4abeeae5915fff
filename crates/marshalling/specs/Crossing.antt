-- Words that cross between the sides.
use Rattle.std.specs.Prelude.{ℕ, suc, Bool, true, false, ◌&&◌, ◌||◌, ◌==◌, nat_lt, int_lt, int_le, List, [], ◌∷◌, length, Option, Some, None}
use Rattle.std.specs.Prelude.{Result, Ok, Err, slice_get, unwrap_or, pos}
use Rattle.std.proofs.Common.{ℤ, ◌+ℤ◌, ◌*ℤ◌}
use Rattle.act_words.specs.Numbers.{signed}
use Rattle.marshalling.specs.declared.kind.WordKind.{WordKind}
use Rattle.marshalling.specs.declared.kind.WordKind.TheVariants as kinds
use Rattle.marshalling.specs.declared.fault.MarshalFault.{MarshalFault}
use Rattle.marshalling.specs.declared.fault.MarshalFault.TheVariants.{Count, Char, Range}
use Rattle.marshalling.specs.declared.signature.Param.{Param}
use Rattle.marshalling.specs.declared.signature.Region.{Region}

abbrev pub is_char : WordKind → Bool
is_char kinds.Int = false
is_char kinds.Char = true
is_char kinds.Pointer = false
is_char kinds.Void = false

-- a word may stand for this: a `char` has 8 bits
abbrev pub fits_kind : WordKind → ℕ → Bool
fits_kind kinds.Int w = true
fits_kind kinds.Char w = nat_lt w 256
fits_kind kinds.Pointer w = true
fits_kind kinds.Void w = true

-- an end of bounds, over whole numbers: the base, and so many elements of a size, which a parameter may add to
abbrev pub end_at : ℕ → ℕ → ℤ → ℤ → ℤ
end_at base size count plus = pos base +ℤ ((count +ℤ plus) *ℤ pos size)

-- what a parameter that is an `int` adds to an end
abbrev pub added : Option ℕ → List ℕ → ℤ
added None words = pos 0
added (Some param) words = signed (unwrap_or (slice_get words param) 0)

-- tainted bounds are valid where the pointer is null, the upper end is below the lower, or they lie in the memory without its
-- first byte, with so many bytes more behind them
abbrev pub lie_in : ℕ → ℕ → ℤ → ℤ → ℕ → Bool
lie_in size pointer low high more = pointer == 0 || (int_lt high low || (int_le (pos 1) low && int_le (high +ℤ pos more) (pos size)))

abbrev pub region_lies : ℕ → List ℕ → ℕ → Region → Bool
region_lies size words pointer r =
    lie_in size pointer (end_at (unwrap_or (slice_get words r.base) 0) r.size (added r.lo_var words) r.lo_plus)
    (end_at (unwrap_or (slice_get words r.base) 0) r.size (added r.hi_var words) r.hi_plus) r.more

abbrev pub optional_region_lies : ℕ → List ℕ → ℕ → Option Region → Bool
optional_region_lies size words pointer None = true
optional_region_lies size words pointer (Some r) = region_lies size words pointer r

abbrev pub fault_unless : Bool → MarshalFault → Option MarshalFault → Option MarshalFault
fault_unless true fault later = later
fault_unless false fault later = Some fault

-- what is wrong with the word of one parameter, or what a later one comes to
abbrev pub fault_at : ℕ → ℕ → List ℕ → Param → ℕ → Option MarshalFault → Option MarshalFault
fault_at number size words p w later =
    fault_unless (fits_kind p.kind w) (Char number) (fault_unless (optional_region_lies size words w p.region) (Range number) later)

-- the first fault of words from a parameter on, from left to right
abbrev pub fault_from : ℕ → ℕ → List ℕ → List Param → List ℕ → Option MarshalFault
fault_from number size words [] left = None
fault_from number size words (p ∷ params) [] = None
fault_from number size words (p ∷ params) (w ∷ left) = fault_at number size words p w (fault_from (suc number) size words params left)

-- what is wrong with the words that the sandbox passes, if anything is
abbrev pub arguments_fault : List Param → List ℕ → ℕ → Option MarshalFault
arguments_fault params words size = fault_unless (length params == length words) Count (fault_from 0 size words params words)

-- words cross unless something is wrong with them
abbrev pub unless_fault : Option MarshalFault → Result (Unit {0}) MarshalFault
unless_fault None = Ok tt
unless_fault (Some fault) = Err fault

-- the words that the sandbox passes cross, or the first fault says why they don't
abbrev pub unpacked_arguments : List Param → List ℕ → ℕ → Result (Unit {0}) MarshalFault
unpacked_arguments params words size = unless_fault (arguments_fault params words size)
