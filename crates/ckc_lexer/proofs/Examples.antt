-- Cuts of small texts, piece by piece.
use Rattle.std.proofs.Common.{◌≡◌, ℕ, ◌<◌, List, length, drop, Result, Ok, Err}
use Rattle.ckc_text.specs.declared.fault.SourceFault.{SourceFault}
use Rattle.ckc_lexer.specs.declared.piece.Piece.{Piece}
use Rattle.ckc_lexer.specs.declared.token.Token.{Token}
use Rattle.ckc_lexer.specs.Pieces.{Stands}
use Rattle.ckc_lexer.specs.Tokens.{State, Cut, goes, stops, initial, is_first, next}

-- the state that a piece leads to
abbrev pub after : Result State SourceFault → State
after (Ok s) = s
after (Err fault) = initial

pub go : {src : List ℕ} {s : State} {r : Result (List Token) SourceFault} (piece : Piece) (n : ℕ) → s.at < length src → Stands (is_first s.line) (drop s.at src) piece n → next piece s n ≡ Ok (after (next piece s n)) → Cut src (after (next piece s n)) r → Cut src s r
go piece n h stands leads rest = goes (record { within = h; piece = piece; n = n; stands = stands; leads = leads }) rest

pub stop : {src : List ℕ} {s : State} {fault : SourceFault} (piece : Piece) (n : ℕ) → s.at < length src → Stands (is_first s.line) (drop s.at src) piece n → next piece s n ≡ Err fault → Cut src s (Err fault)
stop piece n h stands leads = stops (record { within = h; piece = piece; n = n; stands = stands; leads = leads })
