use Rattle.std.proofs.Common.{Some, ap}
use Rattle.ckc_names_rules.specs.Given.{number_in}
use Rattle.ckc_names.proofs.Numbered.{body_numbered}
use Rattle.ckc_names.proofs.numbered_items.body.Goals as goal

pub returns-in-Some : goal.returns-in-Some
returns-in-Some c =
    rw c.in-Some.is
    (ap Some (body_numbered (number_in c.args.names.now) c.in-Some.block c.as_mut_slice.result.now c.statements.new.written c.as_mut_slice.ensures.value c.statements.ensures.all c.statements.ensures.walked))
