use Rattle.std.proofs.lemmas.Bool.Decides.{nat_tests}
use Rattle.std.proofs.Common.{arith, rules}
use Rattle.std.proofs.lemmas.Grind.{common_steps}
use Rattle.code_words_listing.specs.Drafts.{image, side, function}
use Rattle.code_words_listing.specs.Told.{told}
use Rattle.code_words_listing.proofs.Whole.{whole-body}
use Rattle.code_words_listing.proofs.states.body_step.Goals as goal

pub function_step-requires : goal.function_step-requires
function_step-requires c = whole-body (image c.args.draft (side c.args.sandbox)) (function c.args.f) (told c.args.line) c.requires.reached c.requires.paced

pub returns-in-More : goal.returns-in-More
returns-in-More c = grind (arith, common_steps)

pub returns-in_ok-push-in-Whole : goal.returns-in_ok-push-in-Whole
returns-in_ok-push-in-Whole c = grind (arith, common_steps)

pub returns-in_err-next : goal.returns-in_err-next
returns-in_err-next c = search rules

pub returns-in_default : goal.returns-in_default
returns-in_default c = grind (arith, nat_tests)

pub from_residual-requires-in_err-push-in-Whole : goal.from_residual-requires-in_err-push-in-Whole
from_residual-requires-in_err-push-in-Whole c κs = search rules

pub drop-sandbox-requires-in_err-push-in-Whole : goal.drop-sandbox-requires-in_err-push-in-Whole
drop-sandbox-requires-in_err-push-in-Whole c κs = search rules

pub drop-draft-requires-in_err-push-in-Whole : goal.drop-draft-requires-in_err-push-in-Whole
drop-draft-requires-in_err-push-in-Whole c κs = search rules

pub drop-draft-requires-in_err-push-in-Whole-2 : goal.drop-draft-requires-in_err-push-in-Whole-2
drop-draft-requires-in_err-push-in-Whole-2 c κs = search rules

pub returns-in_err-push-in-Whole : goal.returns-in_err-push-in-Whole
returns-in_err-push-in-Whole c = grind (arith, nat_tests)
