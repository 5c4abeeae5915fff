-- Which tokens begin a type. A family relates the tokens before a form, the tokens behind those that are read of it, and
-- the nodes that the tokens so far have put: the greatest depth among them, and where the first of that depth starts. It
-- has one case for nothing read yet, and one for each part: those before it are spelled whole, and it is begun.
use Rattle.std.specs.Prelude.{◌≡◌, ℕ, List, ◌∷◌, Some, length, nat_lt, Bool, true, false}
use Rattle.ckc_text.specs.declared.place.Span.{Span}
use Rattle.ckc_lexer.specs.declared.token.Token.{Token}
use Rattle.ckc_lexer.specs.declared.token.TokenKind.{TokenKind}
use Rattle.ckc_lexer.specs.declared.keyword.Keyword.TheVariants as keywords
use Rattle.ckc_lexer.specs.declared.token.TokenKind.TheVariants as kinds
use Rattle.ckc_tree.specs.declared.type_form.PointerWord.{PointerWord}
use Rattle.ckc_tree.specs.Types.{TypeTree, TypeName}
use Rattle.ckc_tree.specs.Heights.{Reach, nowhere, node, around, type_reach}
use Rattle.ckc_parser_grammar.specs.Tokens.{token, start_of, pointer_word_of}
use Rattle.ckc_parser_grammar.specs.TypeGrammar.{SpellsStars, SpellsType, SpellsTypeName}

abbrev pub around_if : Bool → ℕ → Reach → Reach
around_if true start parts = around start parts
around_if false start parts = nowhere

-- a node around these parts, which is put with its first token
abbrev pub begun : List Token → List Token → Reach → Reach
begun ts rest parts = around_if (nat_lt (length rest) (length ts)) (start_of ts) parts

pub data BeginsStars : List Token → List Token → Type 0 where
  nothing : {ts : List Token} → BeginsStars ts ts
  more : {s : Span} {ts rest : List Token} → BeginsStars ts rest → BeginsStars (token kinds.Star s ∷ ts) rest

pub data BeginsType : List Token → List Token → Reach → Type 0 where
  nothing : {ts : List Token} → BeginsType ts ts nowhere
  int : {s : Span} {rest : List Token} → BeginsType (token (kinds.Keyword keywords.Int) s ∷ rest) rest (node s.from)
  char : {s : Span} {rest : List Token} → BeginsType (token (kinds.Keyword keywords.Char) s ∷ rest) rest (node s.from)
  struct_word : {s : Span} {rest : List Token} → BeginsType (token (kinds.Keyword keywords.Struct) s ∷ rest) rest (node s.from)
  struct : {x : List ℕ} {s t : Span} {rest : List Token}
      → BeginsType (token (kinds.Keyword keywords.Struct) s ∷ token (kinds.Name x) t ∷ rest) rest (node s.from)
  pointer_word : {k : TokenKind} {s : Span} {rest : List Token} {word : PointerWord} → pointer_word_of k ≡ Some word
      → BeginsType (token k s ∷ rest) rest (node s.from)
  element : {k : TokenKind} {s p : Span} {ts rest : List Token} {word : PointerWord} {r : Reach} → pointer_word_of k ≡ Some word → BeginsType ts rest r
      → BeginsType (token k s ∷ token kinds.Less p ∷ ts) rest (around s.from r)
  stars : {k : TokenKind} {s p : Span} {ts mid rest : List Token} {element : TypeTree} {word : PointerWord} → pointer_word_of k ≡ Some word
      → SpellsType ts element mid
      → BeginsStars mid rest → BeginsType (token k s ∷ token kinds.Less p ∷ ts) rest (around s.from (type_reach element))
  pointer : {n : ℕ} {k : TokenKind} {s t p : Span} {ts mid rest : List Token} {element : TypeTree} {word : PointerWord} → pointer_word_of k ≡ Some word
      → SpellsType ts element mid → SpellsStars mid n (token kinds.Greater t ∷ rest)
      → BeginsType (token k s ∷ token kinds.Less p ∷ ts) rest (around s.from (type_reach element))

pub data BeginsTypeName : List Token → List Token → Reach → Type 0 where
  base : {ts rest : List Token} {r : Reach} → BeginsType ts rest r → BeginsTypeName ts rest r
  stars : {ts mid rest : List Token} {base : TypeTree} → SpellsType ts base mid → BeginsStars mid rest → BeginsTypeName ts rest (type_reach base)

pub data BeginsAngled : List Token → List Token → Reach → Type 0 where
  nothing : {ts : List Token} → BeginsAngled ts ts nowhere
  inside : {p : Span} {ts rest : List Token} {r : Reach} → BeginsTypeName ts rest r → BeginsAngled (token kinds.Less p ∷ ts) rest r
  closed : {p q : Span} {ts rest : List Token} {type : TypeName} → SpellsTypeName ts type (token kinds.Greater q ∷ rest)
      → BeginsAngled (token kinds.Less p ∷ ts) rest (type_reach type.base)
  angled : {t p q : Span} {ts rest : List Token} {type : TypeName} → SpellsTypeName ts type (token kinds.Greater q ∷ token kinds.OpenParen t ∷ rest)
      → BeginsAngled (token kinds.Less p ∷ ts) rest (type_reach type.base)
