-- Inside: the strings of a program, as the code holds them.
use Rattle.std.specs.Prelude.{ℕ, nat_le, map, Option, Some, None}
use Rattle.ckc_text.specs.declared.place.Span.{Span}
use Rattle.ckc_text.specs.declared.code.Code.TheVariants.{E08, E13}
use Rattle.ckc_tree.specs.Texts.{text}
use Rattle.region_typing_rules.specs.Verdicts.{Verdict, Passes, needs, breaks}
use Rattle.region_typing_rules.specs.Strings.{Strings, FoundText}
use Rattle.region_typing_scope.specs.declared.strings as code
use Rattle.region_typing_scope.specs.declared.text_blocks as code_blocks

abbrev pub strings : code.Strings.Strings → Strings
strings s = record { texts = map text s.texts.items; variables = s.variables; taken = s.taken }

-- the number of a block, and how many characters it has
abbrev pub block : code_blocks.TextBlock.TextBlock → ℕ × ℕ
block b = (b.object, b.length)

-- the block of a string that is found (E08, E13)
abbrev pub block_verdict : Option FoundText → Span → Verdict (ℕ × ℕ)
block_verdict None span = breaks E13 span
block_verdict (Some t) span = needs (nat_le t.taken 32768) E08 span (Passes (t.object, t.length))
