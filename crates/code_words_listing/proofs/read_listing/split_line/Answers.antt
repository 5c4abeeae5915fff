use Rattle.std.proofs.Common.{sym, ◌∙◌}
use Rattle.code_words_listing.proofs.ListRead.{first-feed, last-line}
use Rattle.code_words_listing.proofs.read_listing.split_line.Goals as goal

pub returns-in-Some : goal.returns-in-Some
returns-in-Some c = first-feed c.args.text.now c.in-Some.end (sym c.first.ensures ∙ c.in-Some.is)

pub returns-in-None : goal.returns-in-None
returns-in-None c = last-line c.args.text.now (sym c.first.ensures ∙ c.in-None.is)
