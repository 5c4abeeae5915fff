-- Inside: which refusal of a source stands for where reading it fails.
use Rattle.std.specs.Prelude.{ℕ, List, [], ◌∷◌}
use Rattle.ckc_text.specs.declared.code.Code.TheVariants.{E06, E07}
use Rattle.ckc_lexer.specs.declared.token.Token.{Token}
use Rattle.ckc_parser_grammar.specs.Failures.{Failure, unexpected, too_deep, no_memory}
use Rattle.ckc_parser_grammar.specs.Parsing.{IsFault, point}

-- the failure is the refusal of the tokens of a source of so many bytes; want of memory is none
abbrev pub FaultIs : ℕ → List Token → Failure → Type 0
FaultIs length tokens (unexpected []) = IsFault length tokens (record { code = E06; span = point length })
FaultIs length tokens (unexpected (t ∷ ts)) = IsFault length tokens (record { code = E06; span = t.span })
FaultIs length tokens (too_deep start) = IsFault length tokens (record { code = E07; span = point start })
FaultIs length tokens no_memory = Unit {0}
