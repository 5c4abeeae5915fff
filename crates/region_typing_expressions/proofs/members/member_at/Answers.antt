use Rattle.std.proofs.Common.{sym, ap, ◌∙◌, length, refl, arith}
use Rattle.std.proofs.lemmas.Option.{slice_get_read}
use Rattle.pointer_modes.specs.Types.{Struct, ctype}
use Rattle.pointer_modes.proofs.Cells.{length_of_cells}
use Rattle.ckc_core.specs.Core.{place}
use Rattle.region_typing_scope.specs.Views.{scope}
use Rattle.region_typing_rules.specs.Verdicts.{Passes}
use Rattle.region_typing_scope.specs.Typed.{typed, base_place}
use Rattle.region_typing_expressions.proofs.MemberCells.{no_member, member_cell}
use Rattle.region_typing_expressions.proofs.members.member_at.Goals as goal

pub returns-in-None : goal.returns-in-None
returns-in-None c =
    record { so = rw c.refusal.ensures (no_member (scope c.args.scope.now) c.args.number (base_place c.args.base) c.args.name c.args.site c.args.span c.members_named-names.result.now c.members-members.result.now c.members_named-names.ensures c.members-members.ensures.members c.in-None.ensures.found) }

pub offset_of_cell-offset-requires : goal.offset_of_cell-offset-requires
offset_of_cell-offset-requires c =
    let ms = c.members-members.result.now in
    let structs = c.args.scope.now.structs in
    let long = length_of_cells structs (Struct c.args.number) c.args.number ms refl c.members-members.ensures.members in
    omega (arith, long, c.in-Some.ensures.within)

pub returns-in_ok-boxed-in-Some : goal.returns-in_ok-boxed-in-Some
returns-in_ok-boxed-in-Some c =
    let ms = c.members-members.result.now in
    let m = c.index-members-cell.result in
    let at = slice_get_read ms (length ms) c.in-Some.cell m refl c.in-Some.ensures.within c.index-members-cell.is in
    record { so = member_cell (scope c.args.scope.now) c.args.number c.in-Some.cell c.offset_of_cell-offset.result (base_place c.args.base) (place c.cell_of-place.result) c.args.name c.args.site c.args.span c.members_named-names.result.now ms m _ c.members_named-names.ensures c.members-members.ensures.members c.in-Some.ensures.found at c.args.scope.now.scalar (c.in_ok-ctype-in-Some.ensures ∙ sym (ap (λ w. ctype w.ctype) c.index-members-cell.is)) c.offset_of_cell-offset.ensures c.cell_of-place.ensures ∙ ap (λ t. Passes (typed t)) (sym c.in_ok-boxed-in-Some.ensures) }
