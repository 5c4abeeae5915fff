-- Inside: which part of a size is the number of its elements, and new memory.
use Rattle.std.specs.Prelude.{pos, false, Option, Some, None}
use Rattle.ckc_tree.specs.Expressions.{Expression}
use Rattle.pointer_modes.specs.declared.ctype.Mode.TheVariants as modes
use Rattle.pointer_modes.specs.declared.ctype.Kind.{Kind}
use Rattle.pointer_modes.specs.Types.{CType, Pointer}
use Rattle.ckc_core.specs.declared.program.PointerBounds.{PointerBounds}
use Rattle.ckc_core.specs.declared.program.Terminator.{Terminator}
use Rattle.ckc_core.specs.Core as core
use Rattle.ckc_core.specs.Steps.{is_char}
use Rattle.ckc_text.specs.declared.place.Span.{Span}
use Rattle.ckc_text.specs.declared.code.Code.TheVariants.{E13}
use Rattle.region_typing_rules.specs.Verdicts.{Verdict, Passes, needs, picked}
use Rattle.region_typing_rules.specs.Scopes.{Scope}
use Rattle.region_typing_rules.specs.Cells.{cells_with}
use Rattle.region_typing_rules.specs.Operands.{Typed, Value, ForNothing, number_of}
use Rattle.region_typing_rules.specs.NewMemory.{is_size, first_factor, second_factor}
use Rattle.region_typing_expressions.specs.declared.allocations.Factor.{Factor}
use Rattle.region_typing_expressions.specs.declared.allocations.Factor.TheVariants as factors

abbrev pub factor_of : Factor → core.Expression → Option core.Expression
factor_of factors.First value = first_factor value
factor_of factors.Second value = second_factor value

abbrev pub factor_in : Option Factor → core.Expression → Option core.Expression
factor_in None value = None
factor_in (Some which) value = factor_of which value

-- a size that isn't a product with the size of the type
abbrev pub alone_in : Scope → CType → Expression → core.Expression → Option core.Expression
alone_in s t size value = picked (is_size s t size) (Some (core.Number (pos 1))) (picked (is_char t) (Some value) None)

-- a number of elements, and the size of the type behind it (E13)
abbrev pub counted : Scope → CType → Typed → Expression → Span → Verdict core.Expression
counted s t a size span = number_of a span (λ count. needs (is_size s t size) E13 span (Passes count))

-- new memory of so many elements, with these bounds, and a pointer of this kind to it
abbrev pub memory_of : Scope → CType → Kind → core.Expression → Terminator → Option PointerBounds → Typed
memory_of s t kind count terminator bounds =
    Value (Pointer modes.Checked kind t) false (core.Allocate count (cells_with s.structs t (pos 0)) terminator bounds) ForNothing
