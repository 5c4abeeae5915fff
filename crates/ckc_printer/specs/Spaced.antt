-- For private clauses: signs with a space behind each.
use Rattle.std.specs.Prelude.{ℕ, Bool, true, false, List, [], ◌∷◌, ◌++◌}
use Rattle.std.specs.List.{flat_map}
use Rattle.ckc_printer.specs.Pieces.{Sign, sign_text}

-- a text and a space
abbrev pub spaced : List ℕ → List ℕ
spaced text = text ++ 32 ∷ []

abbrev pub spaced_text : List Sign → List ℕ
spaced_text signs = flat_map (λ sign. spaced (sign_text sign)) signs

-- a text and a space, if it is wanted
abbrev pub spaced_if : Bool → List ℕ → List ℕ
spaced_if true text = spaced text
spaced_if false text = []
