use Rattle.std.proofs.Common.{◌∙◌, sym}
use Rattle.sandbox_actor.proofs.TextLines.{first-fed, first-unfed}
use Rattle.sandbox_actor.proofs.lines.first_line.Goals as goal

pub returns-in-Some : goal.returns-in-Some
returns-in-Some c = first-fed c.args.text.now c.in-Some.at (sym c.feed_in.ensures ∙ c.in-Some.is)

pub returns-in-None : goal.returns-in-None
returns-in-None c = first-unfed c.args.text.now c.requires (sym c.feed_in.ensures ∙ c.in-None.is)
