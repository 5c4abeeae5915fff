use Rattle.std.proofs.lemmas.Bool.Decides.{nat_tests}
use Rattle.std.proofs.Common.{◌≡◌, ◌+◌, suc, true, length, ap, sym, ◌∙◌, arith, subst, rules}
use Rattle.std.proofs.lemmas.Grind.{common_steps}
use Rattle.marshalling.specs.Signatures.{IsSignature}
use Rattle.code_words_listing.specs.Drafts.{image, callback}
use Rattle.code_words_listing.specs.Steps.{no_side, is_among}
use Rattle.code_words_listing.proofs.Whole.{last-parameter}
use Rattle.code_words_listing.proofs.states.parameter.Goals as goal

pub open_callback-requires : goal.open_callback-requires
open_callback-requires c = λ none.
    let params = c.args.callback.params.items in
    let count : length params + suc c.args.left ≡ c.len.result + c.args.left + 1 = omega (arith, c.len.ensures, c.args.callback.params.ok.0) in
    let among : is_among (length params + suc c.args.left) c.args.param.region ≡ true =
    ap (λ n. is_among n c.args.param.region) count ∙ sym c.is_among.ensures ∙ c.if-not-is_among.false in
    subst IsSignature (sym c.in_ok-push.ensures)
    (last-parameter (image c.args.draft no_side) (callback c.args.callback) c.args.left c.args.param c.requires.reached c.requires.allowed among none)

pub returns : goal.returns
returns c = grind (arith, common_steps)

pub returns-then-not-is_among : goal.returns-then-not-is_among
returns-then-not-is_among c = grind (arith, nat_tests)

pub drop-draft-requires-in_err-push-2 : goal.drop-draft-requires-in_err-push-2
drop-draft-requires-in_err-push-2 c κs = search rules

pub returns-in_err-push : goal.returns-in_err-push
returns-in_err-push c = search rules
