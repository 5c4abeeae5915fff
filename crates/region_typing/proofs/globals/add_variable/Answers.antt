use Rattle.std.proofs.Common.{List, ap, ◌∙◌}
use Rattle.ckc_tree.specs.Statements.{declarator}
use Rattle.ckc_tree.specs.Texts.{Text, initializer_texts}
use Rattle.region_typing_rules.specs.Scopes.{Scope}
use Rattle.region_typing_rules.specs.Items.{with_texts}
use Rattle.region_typing_scope.specs.Views.{scope}
use Rattle.region_typing.specs.Items.{walk}
use Rattle.region_typing.proofs.globals.add_variable.Goals as goal

pub returns : goal.returns
returns c =
    let w = walk c.args.walk.now in
    let n = c.args.taken in
    let g = scope c.add_variable.new.self in
    let known = rw (c.in_ok-t.ensures, c.length_of-count.ensures, c.is_ended_array-ended.ensures) at c.in_ok-add_variable.ensures in
    ap (λ (ts : List Text). record w { scope = record g { strings = record g.strings { texts = ts; taken = n } }; taken = n }) c.in_ok-push_initializer_texts.ensures
    ∙ ap (λ (h : Scope). record w { scope = with_texts n (initializer_texts (declarator c.args.d.now).initializer) h; taken = n }) known
