-- Each prefix of what is spelled begins.
use Rattle.std.proofs.Common.{◌≤◌, ℕ, List, [], ◌∷◌, ◌++◌}
use Rattle.ckc_lexer.specs.declared.token.Token.{Token}
use Rattle.ckc_tree.specs.Items.{Item, Tree}
use Rattle.ckc_tree.specs.Heights.{Reach, height, items_reach}
use Rattle.ckc_parser_grammar.specs.ItemGrammar.{SpellsItems, SpellsProgram, program}
use Rattle.ckc_parser_grammar.specs.ItemBeginnings.{BeginsItems}
use Rattle.ckc_parser_grammar.proofs.Paths.{Path, next, head}
use Rattle.ckc_parser_grammar.proofs.ItemPaths.{items_path}

fact_behind : {At : List Token → Type 0} (front : List Token) {rest : List Token} → Path At (front ++ rest) [] → At rest
fact_behind [] p = head p
fact_behind (t ∷ front) (next a p) = fact_behind front p

prefix_of : (front rest : List Token) {list : List Item} → SpellsItems (front ++ rest) list → (r : Reach) × BeginsItems (front ++ rest) rest r × (r.height ≤ (items_reach list).height)
prefix_of front rest d =
    let fact = fact_behind front (items_path d) in
    (fact.reach, fact.begins, fact.low.no_higher)

pub prefix_begins : (length : ℕ) (front rest : List Token) (t : Tree) → SpellsProgram length (front ++ rest) t → (r : Reach) × BeginsItems (front ++ rest) rest r × (r.height ≤ height t)
prefix_begins length front rest t (program d) = prefix_of front rest d
