use Rattle.std.proofs.Common.{Vec, Global, map, ap, ◌∙◌}
use Rattle.ckc_core.specs.declared.program.Object.{Object}
use Rattle.ckc_core.specs.Core.{object, definition}
use Rattle.region_typing_statements.proofs.Testing.{holds, fails}
use Rattle.region_typing.specs.Items.{walk}
use Rattle.region_typing.proofs.CoreLists.{core_made}
use Rattle.region_typing.proofs.cores.core_of.Goals as goal

pub returns-in_err-needs : goal.returns-in_err-needs
returns-in_err-needs c = fails _ _ _ _ _ c.from_residual.result c.fit_behind.ensures c.from_residual.ensures.1 c.in_err-needs.ensures

pub returns : goal.returns
returns c =
    let pushed = rw c.as_slice.ensures.value at c.in_ok-push_texts.ensures in
    let objects = ap (λ (v : Vec Object Global). map object v.items) c.replace.ensures.value ∙ pushed in
    holds _ _ _ _ _ c.fit_behind.ensures c.in_ok-needs.ensures
    (record { so = core_made c.args.entry (walk c.args.walk.now) (map object c.replace.result.items) (map definition c.in_ok-definitions.definitions.items) c.side_number-main.result objects c.in_ok-definitions.ensures c.side_number-main.ensures })
