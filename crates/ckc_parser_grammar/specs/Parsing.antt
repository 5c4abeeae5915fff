-- What reading a tree from tokens answers.
use Rattle.std.specs.Prelude.{◌≡◌, ◌≤◌, ◌<◌, ◌⊎◌, ℕ, List, [], ◌∷◌, ◌++◌, Result, Ok, Err}
use Rattle.ckc_text.specs.declared.code.Code.TheVariants.{E06, E07}
use Rattle.ckc_text.specs.declared.fault.Refused.{Refused}
use Rattle.ckc_text.specs.declared.fault.Refused.TheVariants.{Source, NoMemory}
use Rattle.ckc_text.specs.declared.fault.SourceFault.{SourceFault}
use Rattle.ckc_text.specs.declared.place.Span.{Span}
use Rattle.ckc_lexer.specs.declared.token.Token.{Token}
use Rattle.ckc_lexer.specs.Tokens.{InOrder}
use Rattle.ckc_tree.specs.declared.item.Program.{Program}
use Rattle.ckc_tree.specs.Heights.{Reach, height, items_reach}
use Rattle.ckc_tree.specs.Items.{Tree, tree}
use Rattle.ckc_tree.specs.Placement.{IsPlaced}
use Rattle.ckc_parser_grammar.specs.ItemGrammar.{SpellsProgram}
use Rattle.ckc_parser_grammar.specs.ItemBeginnings.{BeginsItems}

-- the tokens of a source of so many bytes spell the tree, and no node of it is deeper than 200
pub record IsTree (length : ℕ) (tokens : List Token) (t : Tree) : Type 0 where
  pub spelled : SpellsProgram length tokens t
  pub low : height t ≤ 200

-- the tokens up to the rest begin a source, and have put no node deeper than 200
pub record BeginsLow (tokens rest : List Token) : Type 0 where
  pub reach : Reach
  pub begins : BeginsItems tokens rest reach
  pub low : reach.height ≤ 200

-- no bytes, at this one
abbrev pub point : ℕ → Span
point at = record { from = at; to = at }

-- The refusal of the tokens of a source of so many bytes. It names the first token with which the tokens so far begin
-- no source, the end of the source where there is no such token, or the first node of depth 201 as soon as the tokens
-- so far have put one there, in whichever way they are read; should two ways put different nodes there, the one that
-- starts first. A token makes nodes deeper by one, or puts one node or two that start together (a statement and its
-- expression or type), so the first of the deepest starts where that node does.
pub data IsFault (length : ℕ) (tokens : List Token) : SourceFault → Type 0 where
  unexpected : {first : Token} {rest : List Token} → BeginsLow tokens (first ∷ rest) → ((r : Reach) → BeginsItems tokens rest r → ⊥)
      → IsFault length tokens (record { code = E06; span = first.span })
  ended : BeginsLow tokens [] → ((t : Tree) → SpellsProgram length tokens t → ⊥) → IsFault length tokens (record { code = E06; span = point length })
  too_deep : {first : Token} {rest : List Token} {r : Reach} → BeginsLow tokens (first ∷ rest) → BeginsItems tokens rest r
      → ((q : Reach) → BeginsItems tokens rest q → (200 < q.height) × (r.start ≤ q.start)) → IsFault length tokens (record { code = E07; span = point r.start })

-- what parsing answers
abbrev pub ParseAnswers : ℕ → List Token → Result Program Refused → Type 0
ParseAnswers length tokens (Ok program) = IsTree length tokens (tree program)
ParseAnswers length tokens (Err (Source fault)) = IsFault length tokens fault
ParseAnswers length tokens (Err NoMemory) = Unit {0}

-- no list of tokens spells two trees
abbrev pub AtMostOneTree : Type 0
AtMostOneTree = (length : ℕ) (tokens : List Token) (t u : Tree) → SpellsProgram length tokens t → SpellsProgram length tokens u → t ≡ u

-- a list of tokens has one refusal at most
abbrev pub AtMostOneFault : Type 0
AtMostOneFault = (length : ℕ) (tokens : List Token) (f g : SourceFault) → IsFault length tokens f → IsFault length tokens g → f ≡ g

-- a list of tokens that spells a tree that is low enough has no refusal
abbrev pub NeverBoth : Type 0
NeverBoth = (length : ℕ) (tokens : List Token) (f : SourceFault) (t : Tree) → IsFault length tokens f → IsTree length tokens t → ⊥

-- a list of tokens has a tree that is low enough or a refusal
abbrev pub TreeOrFault : Type 0
TreeOrFault = (length : ℕ) (tokens : List Token) → ((t : Tree) × IsTree length tokens t) ⊎ ((f : SourceFault) × IsFault length tokens f)

-- what is spelled begins, and the tokens have put the nodes of the tree and no others
abbrev pub SpelledBegins : Type 0
SpelledBegins = (length : ℕ) (tokens : List Token) (t : Tree) → SpellsProgram length tokens t → BeginsItems tokens [] (items_reach t.items)

-- so do the tokens up to each of them, and have put no node deeper than the tree's
abbrev pub PrefixBegins : Type 0
PrefixBegins =
    (length : ℕ) (front rest : List Token) (t : Tree) → SpellsProgram length (front ++ rest) t
    → (r : Reach) × BeginsItems (front ++ rest) rest r × (r.height ≤ height t)

-- what begins up to the end of tokens that spell a tree has put its nodes and no others
abbrev pub WholeBegins : Type 0
WholeBegins = (length : ℕ) (tokens : List Token) (t : Tree) (r : Reach) → SpellsProgram length tokens t → BeginsItems tokens [] r → r ≡ items_reach t.items

-- the spans of a tree that is spelled stand in order in the source, where the tokens do
abbrev pub SpelledPlaced : Type 0
SpelledPlaced = (length : ℕ) (tokens : List Token) (t : Tree) → InOrder tokens length → SpellsProgram length tokens t → IsPlaced length t
