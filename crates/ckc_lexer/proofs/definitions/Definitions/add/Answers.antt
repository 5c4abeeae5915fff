use Rattle.std.proofs.Common.{◌≡◌, ◌∙◌, None, refl, ap}
use Rattle.ckc_lexer.specs.Tokens.{definition_for}
use Rattle.ckc_lexer.specs.Defined.{definitions_of}
use Rattle.ckc_lexer.proofs.Defined.{put_last}
use Rattle.ckc_lexer.proofs.definitions.Definitions.add.Goals as goal

pub returns : goal.returns
returns c =
    let entries = c.self.inside.numbers.entries in
    let named = c.into_bytes.ensures in
    let none : definition_for c.into_bytes.result.items (definitions_of entries) ≡ None = rw (named, c.self.view_is) c.requires in
    ap definitions_of c.in_ok-insert.ensures.entries
    ∙ put_last entries c.into_bytes.result (c.args.definition.negative, c.args.definition.value) none
    ∙ rw (c.self.view_is, named) refl
