-- The line of what is seen, of a release, of what a program writes and of a block, with its line feed.
use Rattle.std.specs.Prelude.{ℕ, List, ◌++◌, length, codes, decimal}
use Rattle.hex.specs.Hex.{encode_lower}
use Rattle.act_words.specs.Acts.{Seen, SeenBytes, SeenCall, SeenReply, Release, Looked, Wrote, Passed, Replied}
use Rattle.act_words.specs.Shown.{Shown}
use Rattle.act_words.specs.Lines.{listed}
use Rattle.act_recorder.specs.Endings.{line}

-- what the sandbox is shown
abbrev pub seen_text : Seen → List ℕ
seen_text (SeenBytes at bytes) = codes "{\"at\":" ++ decimal at ++ codes ",\"hex\":\"" ++ encode_lower bytes ++ codes "\",\"seen\":\"bytes\"}\n"
seen_text (SeenCall fun args) = codes "{\"args\":[" ++ listed args ++ codes "],\"fun\":" ++ decimal fun ++ codes ",\"seen\":\"called\"}\n"
seen_text (SeenReply value) = codes "{\"seen\":\"replied\",\"value\":" ++ decimal value ++ codes "}\n"

-- what the trusted side gives away
abbrev pub release_text : Release → List ℕ
release_text Looked = codes "{\"release\":\"looked\"}\n"
release_text (Wrote at bytes) = codes "{\"at\":" ++ decimal at ++ codes ",\"hex\":\"" ++ encode_lower bytes ++ codes "\",\"release\":\"wrote\"}\n"
release_text (Passed fun args) = codes "{\"args\":[" ++ listed args ++ codes "],\"fun\":" ++ decimal fun ++ codes ",\"release\":\"passed\"}\n"
release_text (Replied value) = codes "{\"release\":\"replied\",\"value\":" ++ decimal value ++ codes "}\n"

-- what the program wrote, as a line
abbrev pub output_line : List ℕ → List ℕ
output_line bytes = line (codes "{\"out\":\"" ++ encode_lower bytes ++ codes "\"}")

-- a block of the trusted memory, as `[block 65552 4 2a000000]`
abbrev pub block_text : Shown → List ℕ
block_text b = line (codes "[block " ++ decimal b.address ++ codes " " ++ decimal (length b.bytes) ++ codes " " ++ encode_lower b.bytes ++ codes "]")
