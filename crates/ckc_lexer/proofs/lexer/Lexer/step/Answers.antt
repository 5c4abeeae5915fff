use Rattle.std.proofs.Common.{drop, arith, length-drop}
use Rattle.std.proofs.lemmas.List.{take_rest}
use Rattle.ckc_lexer.proofs.Fronts.{piece_within}
use Rattle.ckc_lexer.proofs.Steps.{piece_steps, step_further}
use Rattle.ckc_lexer.proofs.lexer.Lexer.step.Goals as goal

pub advance-requires : goal.advance-requires
advance-requires c =
    let src = c.args.src.now in
    let at = c.args.self.now.at in
    let stands = rw take_rest at c.in_ok-piece.ensures in
    let w = piece_within c.is_first.result (drop at src) c.in_ok-piece.piece c.in_ok-piece.len (omega (arith, length-drop at src)) stands in
    omega (arith, w.within, length-drop at src)

pub returns-clause-further : goal.returns-clause-further
returns-clause-further c =
    let src = c.args.src.now in
    let stands = rw (take_rest, c.is_first.ensures) at c.in_ok-piece.ensures in
    step_further src c.args.self.now c.advance.new.self c.advance.result (piece_steps src c.args.self.now c.advance.new.self c.advance.result c.in_ok-piece.piece c.in_ok-piece.len c.requires.within stands c.advance.ensures)

pub returns-clause-step : goal.returns-clause-step
returns-clause-step c =
    let src = c.args.src.now in
    let stands = rw (take_rest, c.is_first.ensures) at c.in_ok-piece.ensures in
    piece_steps src c.args.self.now c.advance.new.self c.advance.result c.in_ok-piece.piece c.in_ok-piece.len c.requires.within stands c.advance.ensures
