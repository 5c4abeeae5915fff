-- Inside: where reading a type fails, with so many nodes around it. One case for each part that can fail: those before it
-- are spelled, and no node so far is too deep.
use Rattle.std.specs.Prelude.{◌≡◌, ◌≤◌, ◌<◌, ℕ, suc, Bool, true, false, List, ◌∷◌, Some}
use Rattle.std.specs.Option.{is_some}
use Rattle.ckc_text.specs.declared.place.Span.{Span}
use Rattle.ckc_lexer.specs.declared.token.Token.{Token}
use Rattle.ckc_lexer.specs.declared.token.TokenKind.{TokenKind}
use Rattle.ckc_lexer.specs.declared.keyword.Keyword.TheVariants as keywords
use Rattle.ckc_lexer.specs.declared.token.TokenKind.TheVariants as kinds
use Rattle.ckc_tree.specs.declared.type_form.PointerWord.{PointerWord}
use Rattle.ckc_tree.specs.Types.{TypeTree, TypeName}
use Rattle.ckc_tree.specs.Heights.{type_reach}
use Rattle.ckc_parser_grammar.specs.Tokens.{token, pointer_word_of, next_is, open_paren}
use Rattle.ckc_parser_grammar.specs.TypeGrammar.{SpellsStars, SpellsType, SpellsTypeName}
use Rattle.ckc_parser_grammar.specs.Failures.{Failure, unexpected, too_deep, no_memory, IsLow}

-- the first token of a type
abbrev pub type_word : TokenKind → Bool
type_word (kinds.Keyword keywords.Int) = true
type_word (kinds.Keyword keywords.Char) = true
type_word (kinds.Keyword keywords.Struct) = true
type_word kind = is_some (pointer_word_of kind)

abbrev pub name_token : TokenKind → Bool
name_token (kinds.Name x) = true
name_token _ = false

abbrev pub less : TokenKind → Bool
less kinds.Less = true
less _ = false

abbrev pub greater : TokenKind → Bool
greater kinds.Greater = true
greater _ = false

pub data StuckType : ℕ → List Token → Failure → Type 0 where
  no_room : {d : ℕ} {ts : List Token} → StuckType d ts no_memory
  no_type : {d : ℕ} {ts : List Token} → next_is type_word ts ≡ false → StuckType d ts (unexpected ts)
  deep : {d : ℕ} {k : TokenKind} {s : Span} {rest : List Token} → type_word k ≡ true → 200 ≤ d → StuckType d (token k s ∷ rest) (too_deep s.from)
  tag : {d : ℕ} {s : Span} {rest : List Token} → d < 200 → next_is name_token rest ≡ false
      → StuckType d (token (kinds.Keyword keywords.Struct) s ∷ rest) (unexpected rest)
  opens : {d : ℕ} {k : TokenKind} {s : Span} {rest : List Token} {word : PointerWord} → d < 200 → pointer_word_of k ≡ Some word → next_is less rest ≡ false
      → StuckType d (token k s ∷ rest) (unexpected rest)
  element : {d : ℕ} {k : TokenKind} {s p : Span} {ts : List Token} {word : PointerWord} {f : Failure} → d < 200 → pointer_word_of k ≡ Some word
      → StuckType (suc d) ts f
      → StuckType d (token k s ∷ token kinds.Less p ∷ ts) f
  close : {d n : ℕ} {k : TokenKind} {s p : Span} {ts mid rest : List Token} {element : TypeTree} {word : PointerWord} → pointer_word_of k ≡ Some word
      → SpellsType ts element mid → IsLow (suc d) (type_reach element) → SpellsStars mid n rest → next_is greater rest ≡ false
      → StuckType d (token k s ∷ token kinds.Less p ∷ ts) (unexpected rest)

-- behind a type stars can always end
pub data StuckTypeName : ℕ → List Token → Failure → Type 0 where
  base : {d : ℕ} {ts : List Token} {f : Failure} → StuckType d ts f → StuckTypeName d ts f

pub data StuckAngled : ℕ → List Token → Failure → Type 0 where
  no_room : {d : ℕ} {ts : List Token} → StuckAngled d ts no_memory
  opens : {d : ℕ} {ts : List Token} → next_is less ts ≡ false → StuckAngled d ts (unexpected ts)
  inside : {d : ℕ} {p : Span} {ts : List Token} {f : Failure} → StuckTypeName d ts f → StuckAngled d (token kinds.Less p ∷ ts) f
  close : {d : ℕ} {p : Span} {ts rest : List Token} {type : TypeName} → SpellsTypeName ts type rest → IsLow d (type_reach type.base)
      → next_is greater rest ≡ false → StuckAngled d (token kinds.Less p ∷ ts) (unexpected rest)
  paren : {d : ℕ} {p q : Span} {ts rest : List Token} {type : TypeName} → SpellsTypeName ts type (token kinds.Greater q ∷ rest)
      → IsLow d (type_reach type.base) → next_is open_paren rest ≡ false → StuckAngled d (token kinds.Less p ∷ ts) (unexpected rest)
