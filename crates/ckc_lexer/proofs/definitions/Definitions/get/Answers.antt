use Rattle.std.proofs.Common.{ap, ◌∙◌}
use Rattle.ckc_lexer.specs.Tokens.{definition_for}
use Rattle.ckc_lexer.proofs.Defined.{found_by_key}
use Rattle.ckc_lexer.proofs.definitions.Definitions.get.Goals as goal

pub returns : goal.returns
returns c = c.copied.ensures ∙ c.get.ensures.value ∙ found_by_key c.args.name.now c.self.inside.numbers.entries ∙ ap (definition_for c.args.name.now) c.self.view_is
