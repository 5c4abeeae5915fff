-- The line of each act, with its line feed.
use Rattle.std.specs.Prelude.{ℕ, List, [], ◌∷◌, ◌++◌, codes, decimal, flat_map}
use Rattle.hex.specs.Hex.{encode_lower}
use Rattle.act_words.specs.Acts.{Act, Go, Read, Write, Call, Return, Stop}

-- numbers in decimal, each but the first behind a comma
abbrev pub listed : List ℕ → List ℕ
listed [] = []
listed (n ∷ ns) = decimal n ++ flat_map (λ m. codes "," ++ decimal m) ns

-- the object of an act
abbrev pub act_text : Act → List ℕ
act_text Go = codes "{\"act\":\"go\"}"
act_text (Read at len) = codes "{\"act\":\"read\",\"at\":" ++ decimal at ++ codes ",\"len\":" ++ decimal len ++ codes "}"
act_text (Write at bytes) = codes "{\"act\":\"write\",\"at\":" ++ decimal at ++ codes ",\"hex\":\"" ++ encode_lower bytes ++ codes "\"}"
act_text (Call fun args) = codes "{\"act\":\"call\",\"args\":[" ++ listed args ++ codes "],\"fun\":" ++ decimal fun ++ codes "}"
act_text (Return value) = codes "{\"act\":\"return\",\"value\":" ++ decimal value ++ codes "}"
act_text Stop = codes "{\"act\":\"stop\"}"

abbrev pub act_line : Act → List ℕ
act_line act = act_text act ++ 10 ∷ []
