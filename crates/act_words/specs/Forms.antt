-- The names of the forms of an act.
use Rattle.std.specs.Prelude.{ℕ, List, Option, Some, None, codes, if◌then◌else◌}
use Rattle.std.specs.Str.{bytes_eq}
use Rattle.act_words.specs.declared.form.Form.{Form}

-- the form of this name
abbrev pub form_named : List ℕ → Option Form
form_named name =
    if bytes_eq name (codes "go") then Some Form.Go
    else if bytes_eq name (codes "read") then Some Form.Read
    else if bytes_eq name (codes "write") then Some Form.Write
    else if bytes_eq name (codes "call") then Some Form.Call
    else if bytes_eq name (codes "return") then Some Form.Return
    else if bytes_eq name (codes "stop") then Some Form.Stop
    else None
