use Rattle.std.proofs.Common.{◌≡◌, map, drop}
use Rattle.clap.specs.Words.{app_of}
use Rattle.ccbox_call_words.specs.CommandLine.{told, with_rules}
use Rattle.ccbox_call_words.proofs.command_line.with_words.Given as goal

-- the words that are left make of the command what all of them make of the first one
abbrev pub invariant-loop-name : goal.invariant-loop-name
invariant-loop-name l = with_rules (app_of l.command) (map told (drop l.name-index l.words)) ≡ with_rules (app_of l.fn.command) (map told l.words)
