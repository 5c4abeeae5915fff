-- Faults of the words that the sandbox passes, one parameter after another.
use Rattle.std.proofs.Common.{◌≡◌, ℕ, suc, ◌<◌, Bool, true, false, List, Option, None, length, drop, drop-cons, get_or, refl, ◌∙◌, arith}
use Rattle.std.specs.Prelude.{Ok, Err}
use Rattle.marshalling.specs.declared.fault.MarshalFault.{MarshalFault}
use Rattle.marshalling.specs.declared.fault.MarshalFault.TheVariants.{Char, Range}
use Rattle.marshalling.specs.declared.signature.Param.{Param}
use Rattle.marshalling.specs.Crossing.{fits_kind, optional_region_lies, fault_unless, fault_at, fault_from, unless_fault}

-- the first fault from a parameter on
abbrev pub left_from : List Param → List ℕ → ℕ → ℕ → Option MarshalFault
left_from params words size i = fault_from i size words (drop i params) (drop i words)

-- it is that of this parameter, or a later one; the parameter is read with any default
one_more : (params : List Param) (words : List ℕ) (size i : ℕ) (d : Param) → i < length params → length words ≡ length params
    → left_from params words size i ≡ fault_at i size words (get_or params i d) (get_or words i 0) (left_from params words size (suc i))
one_more params words size i d h same =
    let low : i < length words = omega arith in
    rw (drop-cons params i d h, drop-cons words i 0 low) refl

-- where nothing is wrong with its word, a later one decides
pub none_here : (params : List Param) (words : List ℕ) (size i : ℕ) (d : Param) → i < length params → length words ≡ length params
    → Ok tt ≡ unless_fault (fault_at i size words (get_or params i d) (get_or words i 0) None) → left_from params words size i ≡ left_from params words size (suc i)
none_here params words size i d h same e =
    let p = get_or params i d in
    one_more params words size i d h same ∙ by (left_from params words size (suc i)) (fits_kind p.kind (get_or words i 0)) (optional_region_lies size words (get_or words i 0) p.region) e
  where
    by : (later : Option MarshalFault) (fits lies : Bool) → Ok tt ≡ unless_fault (fault_unless fits (Char i) (fault_unless lies (Range i) None)) → fault_unless fits (Char i) (fault_unless lies (Range i) later) ≡ later
    by later true true e = refl
    by later true false e = absurd (cc)
    by later false lies e = absurd (cc)

-- and where something is, no later one does
pub fault_here : (params : List Param) (words : List ℕ) (size i : ℕ) (d : Param) (fault : MarshalFault) → i < length params → length words ≡ length params
    → Err fault ≡ unless_fault (fault_at i size words (get_or params i d) (get_or words i 0) None) → Err fault ≡ unless_fault (left_from params words size i)
fault_here params words size i d fault h same e =
    let p = get_or params i d in
    rw (one_more params words size i d h same) (by (left_from params words size (suc i)) (fits_kind p.kind (get_or words i 0)) (optional_region_lies size words (get_or words i 0) p.region) e)
  where
    by : (later : Option MarshalFault) (fits lies : Bool) → Err fault ≡ unless_fault (fault_unless fits (Char i) (fault_unless lies (Range i) None)) → Err fault ≡ unless_fault (fault_unless fits (Char i) (fault_unless lies (Range i) later))
    by later true true e = absurd (cc)
    by later true false e = e
    by later false lies e = e
