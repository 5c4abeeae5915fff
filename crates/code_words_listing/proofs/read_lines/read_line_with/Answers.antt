use Rattle.std.proofs.Common.{rules}
use Rattle.code_words_listing.proofs.read_lines.read_line_with.Goals as goal

pub returns-in-Heading : goal.returns-in-Heading
returns-in-Heading c = search rules

pub returns-in-Import : goal.returns-in-Import
returns-in-Import c = search rules

pub returns-in-Callback : goal.returns-in-Callback
returns-in-Callback c = search rules

pub returns-in-Parameter : goal.returns-in-Parameter
returns-in-Parameter c = search rules

pub returns-in-Function : goal.returns-in-Function
returns-in-Function c = search rules

pub returns-in-End : goal.returns-in-End
returns-in-End c = search rules

pub returns-in-Main : goal.returns-in-Main
returns-in-Main c = search rules

pub returns-in-Sandbox : goal.returns-in-Sandbox
returns-in-Sandbox c = search rules

pub returns-in-Close : goal.returns-in-Close
returns-in-Close c = search rules
