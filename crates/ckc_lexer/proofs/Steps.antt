-- A step of the lexer is a step of its definition.
use Rattle.std.proofs.Common.{ℕ, ◌<◌, ◌≤◌, List, length, drop, Result, Ok, Err, OnOk}
use Rattle.ckc_text.specs.declared.fault.Refused.{Refused}
use Rattle.ckc_text.specs.declared.fault.Refused.TheVariants.{Source, NoMemory}
use Rattle.ckc_lexer.specs.Pieces.{Stands}
use Rattle.ckc_lexer.specs.Tokens.{is_first, next}
use Rattle.ckc_lexer.specs.Progress.{state_of, Gives, Steps}
use Rattle.ckc_lexer.specs.declared.piece.Piece.{Piece}
use Rattle.ckc_lexer.specs.declared.lexer.Lexer.{Lexer}
use Rattle.ckc_lexer.proofs.Next.{step_advances}

pub piece_steps : (src : List ℕ) (old new : Lexer) (result : Result (Unit {0}) Refused) (piece : Piece) (n : ℕ) → old.at < length src → Stands (is_first old.line) (drop old.at src) piece n → Gives result new (next piece (state_of old) n) → Steps src old result new
piece_steps src old new (Ok done) piece n h stands gives = record { within = h; piece = piece; n = n; stands = stands; leads = gives }
piece_steps src old new (Err (Source fault)) piece n h stands gives = record { within = h; piece = piece; n = n; stands = stands; leads = gives }
piece_steps src old new (Err NoMemory) piece n h stands gives = tt

pub step_further : (src : List ℕ) (old new : Lexer) (result : Result (Unit {0}) Refused) → Steps src old result new → OnOk result ((old.at < new.at) × (new.at ≤ length src))
step_further src old new (Ok done) step = let a = step_advances step in (a.more, a.within)
step_further src old new (Err fault) step = tt
