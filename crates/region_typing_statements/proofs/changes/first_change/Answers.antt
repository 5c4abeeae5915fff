use Rattle.std.proofs.Common.{length, sym, ap, ◌∙◌}
use Rattle.ckc_tree.specs.Items.{statement_list}
use Rattle.region_typing_rules.specs.Items.{names}
use Rattle.region_typing_rules.specs.KeptParameters.{all_changed}
use Rattle.region_typing_scope.specs.Views.{scope}
use Rattle.region_typing_statements.proofs.KeptLocals.{all_kept}
use Rattle.region_typing_statements.proofs.changes.first_change.Goals as goal

pub returns-in-None : goal.returns-in-None
returns-in-None c =
    let g = scope c.args.scope.now in
    let body = statement_list c.args.written.now in
    sym (ap (λ b. all_changed (names b) (length g.locals) g.visible body) c.in-None.is ∙ all_kept (length g.locals) g.visible body)
