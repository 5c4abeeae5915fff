-- Inside: searches in lists, by the place that they find.
use Rattle.std.specs.Prelude.{ℕ, ◌+◌, List, slice_get, Option, Some, None}
use Rattle.std.specs.Option.{option_map}
use Rattle.pointer_modes.specs.declared.ctype.Member as code_member
use Rattle.pointer_modes.specs.Types.{CType, ctype}
use Rattle.region_typing_rules.specs.Scopes.{Named, Signature, object_of}
use Rattle.region_typing_scope.specs.declared.scope as code
use Rattle.region_typing_scope.specs.declared.signature.Signature as code_signature
use Rattle.region_typing_scope.specs.Views.{signature, variable}

-- what stands at a place that is found, where the first has a number
abbrev pub object_at : ℕ → List code.Variable.Variable → Option ℕ → Option Named
object_at n vs None = None
object_at n vs (Some k) = option_map (λ v. object_of (n + k) (variable v) v.length) (slice_get vs k)

abbrev pub member_at : ℕ → List code_member.Member → Option ℕ → Option (ℕ × CType)
member_at n ms None = None
member_at n ms (Some k) = option_map (λ m. (n + k, ctype m.ctype)) (slice_get ms k)

abbrev pub function_at : List code_signature.Signature → Option ℕ → Option Signature
function_at fs None = None
function_at fs (Some k) = option_map signature (slice_get fs k)
