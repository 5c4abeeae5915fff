-- Each act as a JSON value.
use Rattle.std.specs.Prelude.{ℕ, List, [], ◌∷◌, codes}
use Rattle.hex.specs.Hex.{encode_lower}
use Rattle.serde_json.specs.Data.{unsigned, Data, number, string, array, object, Items, no_items, item, Members, no_members, member}
use Rattle.act_words.specs.Acts.{Act, Go, Read, Write, Call, Return, Stop}

abbrev pub word : ℕ → Data
word n = number (unsigned n)

abbrev pub words : List ℕ → Items
words [] = no_items
words (n ∷ ns) = item (word n) (words ns)

abbrev pub form_value : List ℕ → Members → Data
form_value name members = object (member (codes "act") (string name) members)

-- the object of an act, with its members in alphabetical order
abbrev pub act_value : Act → Data
act_value Go = form_value (codes "go") no_members
act_value (Read at len) = form_value (codes "read") (member (codes "at") (word at) (member (codes "len") (word len) no_members))
act_value (Write at bytes) = form_value (codes "write") (member (codes "at") (word at) (member (codes "hex") (string (encode_lower bytes)) no_members))
act_value (Call fun args) = form_value (codes "call") (member (codes "args") (array (words args)) (member (codes "fun") (word fun) no_members))
act_value (Return value) = form_value (codes "return") (member (codes "value") (word value) no_members)
act_value Stop = form_value (codes "stop") no_members
