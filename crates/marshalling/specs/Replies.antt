-- Replies of tainted functions.
use Rattle.std.specs.Prelude.{ℕ, Bool, true, false, Result, Ok, Err}
use Rattle.marshalling.specs.declared.kind.WordKind.{WordKind}
use Rattle.marshalling.specs.declared.fault.MarshalFault.{MarshalFault}
use Rattle.marshalling.specs.declared.fault.MarshalFault.TheVariants.{Char}
use Rattle.marshalling.specs.Crossing.{fits_kind}

abbrev reply_if : Bool → ℕ → Result ℕ MarshalFault
reply_if true word = Ok word
reply_if false word = Err (Char 0)

-- the word of a reply for a result of a kind, unless it doesn't fit: a fault of a reply names parameter 0 (C9)
abbrev pub unpacked_reply : WordKind → ℕ → Result ℕ MarshalFault
unpacked_reply kind word = reply_if (fits_kind kind word) word
