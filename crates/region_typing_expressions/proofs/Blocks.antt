-- Strings by their blocks.
use Rattle.std.proofs.Common.{◌≡◌, Bool, true, false, List, Option, Some, None, refl}
use Rattle.std.specs.Prelude.{nat_le}
use Rattle.ckc_text.specs.declared.place.Span.{Span}
use Rattle.ckc_text.specs.declared.code.Code.TheVariants.{E08}
use Rattle.pointer_modes.specs.Types.{Structure}
use Rattle.ckc_core.specs.declared.program.Site.{Site}
use Rattle.region_typing_rules.specs.Verdicts.{Passes, passing, needs}
use Rattle.region_typing_rules.specs.Strings.{FoundText}
use Rattle.region_typing_rules.specs.Operands.{text_typed, text_value}
use Rattle.region_typing_scope.specs.Strings.{block_verdict}
use Rattle.region_typing_expressions.specs.Unbounded.{block_value}

-- a string is what its block is
pub text_parts : (structs : List Structure) (o : Option FoundText) (site : Site) (span : Span)
    → text_typed structs o site span ≡ passing (block_verdict o span) (λ b. Passes (block_value structs site b))
text_parts structs None site span = refl
text_parts structs (Some t) site span = by (nat_le t.taken 32768)
  where
    by : (test : Bool) → needs test E08 span (Passes (text_value structs t site)) ≡ passing (needs test E08 span (Passes (t.object, t.length))) (λ b. Passes (block_value structs site b))
    by true = refl
    by false = refl
