use Rattle.std.proofs.Common.{◌≡◌, Some, sym, ap, ◌∙◌}
use Rattle.pointer_modes.specs.Types.{Pointer, Struct, ctype}
use Rattle.region_typing_scope.specs.Typed.{struct_of}
use Rattle.region_typing_expressions.proofs.Leading.{struct_is}
use Rattle.region_typing_expressions.proofs.members.pointed_by.Goals as goal

pub returns-in-Some : goal.returns-in-Some
returns-in-Some c =
    let target = ctype c.in-Pointer.target.value in
    let number : struct_of target ≡ Some c.in-Some.number = rw c.deref.ensures at (sym c.struct_number.ensures ∙ c.in-Some.is) in
    let is : ctype c.args.ctype.now ≡ Pointer c.in-Pointer.field-0 c.in-Pointer.kind (Struct c.in-Some.number) =
    ap ctype c.in-Pointer.is ∙ ap (Pointer c.in-Pointer.field-0 c.in-Pointer.kind) (struct_is target c.in-Some.number number) in
    rw is (c.member_behind.ensures c.in-Pointer.field-0)
