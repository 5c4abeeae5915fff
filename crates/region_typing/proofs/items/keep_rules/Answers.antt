use Rattle.region_typing_rules.specs.Statements.{is_unchecked}
use Rattle.region_typing.proofs.Bodies.{checked_once}
use Rattle.region_typing.proofs.items.keep_rules.Goals as goal

pub returns : goal.returns
returns c =
    let d = c.args.d.now in
    let answer = rw (c.has_body-has_body.ensures, c.is_checked-is_checked.ensures) at c.keep_function_rules.ensures in
    rw (checked_once (is_unchecked d.mark) c.args.scope.now.is_off d.span) answer
