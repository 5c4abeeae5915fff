use Rattle.std.proofs.Common.{length}
use Rattle.ckc_parser.proofs.types.+types.Given as goal

abbrev pub decreases-pointer_type : goal.decreases-pointer_type
decreases-pointer_type l = length l.tokens.now.now

abbrev pub decreases-type_form : goal.decreases-type_form
decreases-type_form l = length l.tokens.now.now
