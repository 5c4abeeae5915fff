-- Input lists piece by piece.
use Rattle.std.specs.Prelude.{ℕ, List, [], Bool, true, false, Option, Some, None}
use Rattle.std.specs.Borrow.{Bor}
use Rattle.ccbox_call_words.specs.Requests.{pieces_of}

-- the pieces of what stands behind a comma, if there was one
abbrev pub pieces_behind : Option (Bor (List ℕ)) → List (List ℕ)
pieces_behind None = []
pieces_behind (Some text) = pieces_of text.now

abbrev pub is_some : {A : Type 0} → Option A → Bool
is_some None = false
is_some (Some value) = true
