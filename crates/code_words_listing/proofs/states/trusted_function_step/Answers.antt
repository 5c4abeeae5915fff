use Rattle.std.proofs.Common.{arith}
use Rattle.std.proofs.lemmas.Grind.{common_steps}
use Rattle.code_words_listing.specs.Drafts.{image, function}
use Rattle.code_words_listing.specs.Steps.{no_side}
use Rattle.code_words_listing.specs.Told.{told}
use Rattle.code_words_listing.proofs.Whole.{whole-function}
use Rattle.code_words_listing.proofs.states.trusted_function_step.Goals as goal

pub function_step-requires : goal.function_step-requires
function_step-requires c = whole-function (image c.args.draft no_side) (function c.args.f) (told c.args.line) c.requires.reached c.requires.paced

pub returns-in-More : goal.returns-in-More
returns-in-More c = grind (arith, common_steps)

pub returns-in_ok-push-in-Whole : goal.returns-in_ok-push-in-Whole
returns-in_ok-push-in-Whole c = grind (arith, common_steps)
