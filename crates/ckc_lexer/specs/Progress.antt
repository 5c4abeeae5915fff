-- The lexer's state as its definition sees it, and what the parts of a step answer.
use Rattle.std.specs.Prelude.{◌≡◌, ℕ, List, Result, Ok, Err, reverse}
use Rattle.ckc_text.specs.declared.fault.SourceFault.{SourceFault}
use Rattle.ckc_text.specs.declared.fault.Refused.{Refused}
use Rattle.ckc_text.specs.declared.fault.Refused.TheVariants.{Source, NoMemory}
use Rattle.ckc_lexer.specs.Tokens.{State, Step}
use Rattle.ckc_lexer.specs.declared.lexer.Lexer.{Lexer}

-- the scopes that are kept stand in a stack with the last one at its end
abbrev pub state_of : Lexer → State
state_of l =
    record { at = l.at; line = l.line; tokens = l.tokens.items; definitions = l.definitions; scope = l.scope; kept = reverse l.kept.items }

-- the state that is to come has come, or the fault; memory may run out
abbrev pub Gives : Result (Unit {0}) Refused → Lexer → Result State SourceFault → Type 0
Gives (Ok done) new expected = expected ≡ Ok (state_of new)
Gives (Err (Source fault)) new expected = expected ≡ Err fault
Gives (Err NoMemory) new expected = Unit {0}

-- the same for a step
abbrev pub Steps : List ℕ → Lexer → Result (Unit {0}) Refused → Lexer → Type 0
Steps src old (Ok done) new = Step src (state_of old) (Ok (state_of new))
Steps src old (Err (Source fault)) new = Step src (state_of old) (Err fault)
Steps src old (Err NoMemory) new = Unit {0}
