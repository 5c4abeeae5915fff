-- The grammar of types: which tokens spell which type. A family relates the tokens before a form, the form, and the
-- tokens after it. A form ends where nothing more of it follows.
--
--     type     = 'int' | 'char' | 'struct' NAME | pword '<' type stars '>'
--     stars    = '*'*
use Rattle.std.specs.Prelude.{◌≡◌, ℕ, zero, suc, false, List, ◌∷◌, Some}
use Rattle.ckc_text.specs.declared.place.Span.{Span}
use Rattle.ckc_lexer.specs.declared.token.Token.{Token}
use Rattle.ckc_lexer.specs.declared.token.TokenKind.{TokenKind}
use Rattle.ckc_lexer.specs.declared.keyword.Keyword.TheVariants as keywords
use Rattle.ckc_lexer.specs.declared.token.TokenKind.TheVariants as kinds
use Rattle.ckc_tree.specs.declared.type_form.PointerWord.{PointerWord}
use Rattle.ckc_tree.specs.Types.{TypeTree, IntType, CharType, StructType, PointerType, TypeName}
use Rattle.ckc_parser_grammar.specs.Tokens.{token, join, identifier, pointer_word_of, next_is, star}

-- all stars that stand here, counted
pub data SpellsStars : List Token → ℕ → List Token → Type 0 where
  none : {rest : List Token} → next_is star rest ≡ false → SpellsStars rest zero rest
  more : {n : ℕ} {s : Span} {ts rest : List Token} → SpellsStars ts n rest → SpellsStars (token kinds.Star s ∷ ts) (suc n) rest

pub data SpellsType : List Token → TypeTree → List Token → Type 0 where
  int : {s : Span} {rest : List Token} → SpellsType (token (kinds.Keyword keywords.Int) s ∷ rest) (IntType s) rest
  char : {s : Span} {rest : List Token} → SpellsType (token (kinds.Keyword keywords.Char) s ∷ rest) (CharType s) rest
  struct : {x : List ℕ} {s t : Span} {rest : List Token} → SpellsType (token (kinds.Keyword keywords.Struct) s ∷ token (kinds.Name x) t
      ∷ rest) (StructType (identifier x t) (join s t)) rest
  pointer : {n : ℕ} {k : TokenKind} {s t p : Span} {ts mid rest : List Token} {element : TypeTree} {word : PointerWord} → pointer_word_of k ≡ Some word
      → SpellsType ts element mid → SpellsStars mid n (token kinds.Greater t ∷ rest)
      → SpellsType (token k s ∷ token kinds.Less p ∷ ts) (PointerType word element n (join s t)) rest

-- a type and the stars behind it
pub data SpellsTypeName : List Token → TypeName → List Token → Type 0 where
  type_name : {n : ℕ} {ts mid rest : List Token} {base : TypeTree} → SpellsType ts base mid → SpellsStars mid n rest
      → SpellsTypeName ts (record { base = base; stars = n }) rest

-- what stands behind the word of a cast or an allocation, up to the parenthesis: a type in angle brackets
--
--     '<' type stars '>' '('
pub data SpellsAngled : List Token → TypeName → List Token → Type 0 where
  angled : {t p q : Span} {ts rest : List Token} {type : TypeName} → SpellsTypeName ts type (token kinds.Greater q ∷ token kinds.OpenParen t ∷ rest)
      → SpellsAngled (token kinds.Less p ∷ ts) type rest
