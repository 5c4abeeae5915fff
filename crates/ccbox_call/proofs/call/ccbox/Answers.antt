use Rattle.ccbox_call.proofs.Calls.{front, whole, cut_short, printed_run, printed_image_run, printed_accepted, printed_code, complete, succeeds, refuses, misses, checks, stops, acts_refused, listing_fails, untouched, usage_line}
use Rattle.ccbox_call.proofs.call.ccbox.Goals as goal

pub returns-clause-cut_short : goal.returns-clause-cut_short
returns-clause-cut_short g c = λ files told. cut_short _ _ _ _ _ _ files told _ c.status_of_call.ensures

pub returns-clause-front : goal.returns-clause-front
returns-clause-front g c = λ files told. front _ _ _ _ _ _ files told _ c.status_of_call.ensures

pub returns-clause-whole : goal.returns-clause-whole
returns-clause-whole g c = λ files told. whole _ _ _ _ _ _ files told _ c.status_of_call.ensures

pub returns-clause-printed_run : goal.returns-clause-printed_run
returns-clause-printed_run g c = λ files told. printed_run _ _ _ _ _ _ files told _ c.status_of_call.ensures

pub returns-clause-complete : goal.returns-clause-complete
returns-clause-complete g c = λ files told. complete _ _ _ _ _ _ files told _ c.status_of_call.ensures

pub returns-clause-accepted : goal.returns-clause-accepted
returns-clause-accepted g c = λ files told. printed_accepted _ _ _ _ _ _ files told _ c.status_of_call.ensures

pub returns-clause-printed_code : goal.returns-clause-printed_code
returns-clause-printed_code g c = λ files told. printed_code _ _ _ _ _ _ files told _ c.status_of_call.ensures

pub returns-clause-succeeds : goal.returns-clause-succeeds
returns-clause-succeeds g c = λ files told. succeeds _ _ _ _ _ _ files told _ c.status_of_call.ensures

pub returns-clause-refused : goal.returns-clause-refused
returns-clause-refused g c = λ files told. refuses _ _ _ _ _ _ files told _ c.status_of_call.ensures

pub returns-clause-missing : goal.returns-clause-missing
returns-clause-missing g c = λ files told. misses _ _ _ _ _ _ files told _ c.status_of_call.ensures

pub returns-clause-checks : goal.returns-clause-checks
returns-clause-checks g c = λ files told. checks _ _ _ _ _ _ files told _ c.status_of_call.ensures

pub returns-clause-stops : goal.returns-clause-stops
returns-clause-stops g c = λ files told. stops _ _ _ _ _ _ files told _ c.status_of_call.ensures

pub returns-clause-acts_refused : goal.returns-clause-acts_refused
returns-clause-acts_refused g c = λ files told. acts_refused _ _ _ _ _ _ files told _ c.status_of_call.ensures

pub returns-clause-untouched : goal.returns-clause-untouched
returns-clause-untouched g c = untouched _ _ _ _ _ _ _ c.status_of_call.ensures

pub returns-clause-usage_line : goal.returns-clause-usage_line
returns-clause-usage_line g c = usage_line _ _ _ _ _ _ _ c.status_of_call.ensures

pub returns-clause-printed_image_run : goal.returns-clause-printed_image_run
returns-clause-printed_image_run g c = λ files told. printed_image_run _ _ _ _ _ _ files told _ c.status_of_call.ensures

pub returns-clause-listing_refused : goal.returns-clause-listing_refused
returns-clause-listing_refused g c = λ files told. listing_fails _ _ _ _ _ _ files told _ c.status_of_call.ensures
