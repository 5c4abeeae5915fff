use Rattle.std.proofs.Common.{◌∙◌, ap, map, Some}
use Rattle.clap.specs.Words.{found_of}
use Rattle.ccbox_call_words.proofs.Matches.{taken, untaken}
use Rattle.ccbox_call_words.proofs.command_line.find.Goals as goal

pub returns-in-Ok : goal.returns-in-Ok
returns-in-Ok c =
    let parsed = c.in-Ok.ensures in
    ap (λ found. Some found) c.found_in.ensures ∙ taken _ c.in_ok-command.ensures (map (λ word. word.now) c.args.words.now) (found_of c.in-Ok.matches) parsed.kinds (λ simple. (parsed.matches simple).0)

pub returns : goal.returns
returns c =
    untaken _ c.in_ok-command.ensures (map (λ word. word.now) c.args.words.now) c.in-Err.error c.in-Err.ensures.kinds (λ memory. c.in_default.not-OutOfMemory (c.kind.ensures ∙ memory))
