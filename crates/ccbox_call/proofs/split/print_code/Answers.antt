use Rattle.std.proofs.Common.{refl, ◌∙◌, subst, arith}
use Rattle.ckc_core.specs.Core.{core}
use Rattle.check_insertion.specs.Insert.{inserted}
use Rattle.lowering.specs.Images.{image_of}
use Rattle.code_words_listing.specs.Listings.{listing}
use Rattle.ccbox_call_words.specs.Given.{TextGiven, given}
use Rattle.ccbox_call_words.specs.Statuses.{number_of}
use Rattle.ccbox_call.specs.Answers.{lists}
use Rattle.ccbox_call.specs.Calls.{no_memory}
use Rattle.ccbox_call.proofs.Giving.{done_gives}
use Rattle.ccbox_call.proofs.split.print_code.Goals as goal

pub returns-in-Ok : goal.returns-in-Ok
returns-in-Ok g c = λ misses faults.
    let text = listing (image_of (inserted (core c.args.program.now))) in
    let is = c.as_slice.ensures.value ∙ c.in-Ok.ensures.listing in
    done_gives text (lists, c.in-Ok.ensures.format) (given (subst (λ t. TextGiven t 0 (g.K.Sink.written c.args.sink.now) (g.K.Sink.written c.give_listing.new.sink) (g.K.Sink.faults c.args.sink.now) (g.K.Sink.faults c.give_listing.new.sink) (number_of c.give_listing.result)) is c.give_listing.ensures))

pub returns-in-Err : goal.returns-in-Err
returns-in-Err g c = λ misses faults. no_memory refl (omega arith) refl refl
