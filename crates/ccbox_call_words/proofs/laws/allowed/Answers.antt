use Rattle.ccbox_call_words.proofs.Allowed.{settings_allowed, inputs_are_words, listing_settings_allowed, listing_inputs_are_words}
use Rattle.ccbox_call_words.proofs.laws.allowed.Goals as goal

pub returns-clause-settings : goal.returns-clause-settings
returns-clause-settings c = settings_allowed

pub returns-clause-inputs : goal.returns-clause-inputs
returns-clause-inputs c = inputs_are_words

pub returns-clause-listing_settings : goal.returns-clause-listing_settings
returns-clause-listing_settings c = listing_settings_allowed

pub returns-clause-listing_inputs : goal.returns-clause-listing_inputs
returns-clause-listing_inputs c = listing_inputs_are_words
