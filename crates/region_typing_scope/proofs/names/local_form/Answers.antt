use Rattle.std.proofs.Common.{◌≡◌, Box, Global, ap, sym, ◌∙◌}
use Rattle.pointer_modes.specs.declared.ctype.Mode.{Mode}
use Rattle.pointer_modes.specs.declared.ctype.Kind.{Kind}
use Rattle.pointer_modes.specs.declared.ctype.CType as code
use Rattle.pointer_modes.specs.declared.ctype.CType.TheVariants as ctypes
use Rattle.pointer_modes.specs.Types.{Pointer, ctype}
use Rattle.region_typing_scope.proofs.names.local_form.Goals as goal

pointer_tree : (t inner : code.CType) (mode : Mode) (kind : Kind) (target : Box code.CType Global) → t ≡ ctypes.Pointer mode kind target → inner ≡ target.value → ctype t ≡ Pointer mode kind (ctype inner)
pointer_tree t inner mode kind target is same = ap ctype is ∙ ap (λ x. Pointer mode kind (ctype x)) (sym same)

pub returns-in-Pointer : goal.returns-in-Pointer
returns-in-Pointer c =
    rw (pointer_tree c.args.t.now c.deref.result.now c.in-Pointer.mode c.in-Pointer.field-1 c.in-Pointer.target c.in-Pointer.is c.deref.ensures) (c.pointer_form.ensures c.in-Pointer.field-1)
