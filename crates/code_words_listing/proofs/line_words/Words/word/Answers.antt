use Rattle.std.proofs.Common.{ap, sym, ◌∙◌}
use Rattle.code_words_listing.specs.Left.{words_in}
use Rattle.code_words_listing.proofs.Cuts.{first-word, last-word}
use Rattle.code_words_listing.proofs.line_words.Words.word.Goals as goal

pub returns-in-Some : goal.returns-in-Some
returns-in-Some c = ap words_in c.in_ok-left.was ∙ first-word c.in_ok-left.left.now c.in-Some.at (sym c.first.ensures ∙ c.in-Some.is)

pub returns-in-None : goal.returns-in-None
returns-in-None c = ap words_in c.in_ok-left.was ∙ last-word c.in_ok-left.left.now (sym c.first.ensures ∙ c.in-None.is)
