use Rattle.std.proofs.Common.{ap, sym, ◌∙◌, rules}
use Rattle.std.specs.Prelude.{option_map}
use Rattle.code_words_listing.specs.States.{seen}
use Rattle.code_words_listing.specs.Told.{told}
use Rattle.code_words_listing.proofs.ListRead.{passed-on, breaks-at}
use Rattle.code_words_listing.proofs.read_listing.next_line.Goals as goal

pub returns-in_err-check_pace-2 : goal.returns-in_err-check_pace-2
returns-in_err-check_pace-2 c =
    let read = sym c.in_ok-line.ensures ∙ ap (option_map told) c.in-Some.is in
    let other = sym c.is_instruction.ensures ∙ c.if-not-is_instruction.true in
    passed-on _ _ _ _ c.from_residual-in_err-check_pace-2.ensures.1
    (breaks-at (seen c.args.state.now) c.args.text.now (told c.in-Some.line) c.in_err-check_pace-2.field-0.0 read other c.in_err-check_pace-2.ensures)

pub returns-in_err-line : goal.returns-in_err-line
returns-in_err-line c = search rules

pub from_residual-requires-in_err-check_pace : goal.from_residual-requires-in_err-check_pace
from_residual-requires-in_err-check_pace c κs = search rules

pub returns-in_err-check_pace : goal.returns-in_err-check_pace
returns-in_err-check_pace c = search rules

pub returns : goal.returns
returns c = search rules
