-- Which tokens begin a whole source, and the nodes that they have put.
use Rattle.std.specs.Prelude.{◌≡◌, ℕ, Bool, List, ◌∷◌, Option, Some}
use Rattle.ckc_text.specs.declared.place.Span.{Span}
use Rattle.ckc_lexer.specs.declared.token.Token.{Token}
use Rattle.ckc_lexer.specs.declared.token.TokenKind.{TokenKind}
use Rattle.ckc_lexer.specs.declared.keyword.Keyword.TheVariants as keywords
use Rattle.ckc_lexer.specs.declared.token.TokenKind.TheVariants as kinds
use Rattle.ckc_lexer.specs.declared.token.CheckedScope.{CheckedScope}
use Rattle.ckc_tree.specs.declared.identifier.Identifier.{Identifier}
use Rattle.ckc_tree.specs.declared.stmt.Mark.{Mark}
use Rattle.ckc_tree.specs.declared.item.FunctionKind.{FunctionKind}
use Rattle.ckc_tree.specs.Types.{TypeTree, TypeName}
use Rattle.ckc_tree.specs.Expressions.{Bounds}
use Rattle.ckc_tree.specs.Statements.{Declarator}
use Rattle.ckc_tree.specs.Items.{Member, ResultForm, Parameters, Item}
use Rattle.ckc_tree.specs.Heights.{Reach, nowhere, node, around, ◌beside◌, type_reach, optional_bounds_reach, declarators_reach, members_reach}
use Rattle.ckc_tree.specs.Heights.{result_reach, parameters_reach, item_reach}
use Rattle.ckc_parser_grammar.specs.Tokens.{token, start_of, from_first, mark_of}
use Rattle.ckc_parser_grammar.specs.TypeGrammar.{SpellsStars, SpellsType, SpellsTypeName}
use Rattle.ckc_parser_grammar.specs.StatementGrammar.{SpellsOptionalBounds, SpellsDeclarators}
use Rattle.ckc_parser_grammar.specs.ItemGrammar.{SpellsTainted, SpellsKind, SpellsOptionalMark, SpellsMember, SpellsMembers, SpellsResult}
use Rattle.ckc_parser_grammar.specs.ItemGrammar.{SpellsParameters, SpellsItem}
use Rattle.ckc_parser_grammar.specs.TypeBeginnings.{BeginsStars, BeginsType, BeginsTypeName}
use Rattle.ckc_parser_grammar.specs.StatementBeginnings.{BeginsOptionalBounds, BeginsDeclarators, BeginsStatements}

pub data BeginsMember : List Token → List Token → Reach → Type 0 where
  type : {ts rest : List Token} {r : Reach} → BeginsTypeName ts rest r → BeginsMember ts rest r
  bounds : {x : List ℕ} {s : Span} {ts us rest : List Token} {type : TypeName} {r : Reach} → SpellsTypeName ts type (token (kinds.Name x) s ∷ us)
      → BeginsOptionalBounds us rest r → BeginsMember ts rest (type_reach type.base beside r)

pub data BeginsMembers : List Token → List Token → Reach → Type 0 where
  first : {ts rest : List Token} {r : Reach} → BeginsMember ts rest r → BeginsMembers ts rest r
  others : {name : Identifier} {t o : Span} {ts us rest : List Token} {written : Option Bounds} {type : TypeName} {r : Reach}
      → SpellsMember ts type name written o (token kinds.Semicolon t ∷ us) → BeginsMembers us rest r
      → BeginsMembers ts rest (type_reach type.base beside optional_bounds_reach written beside r)
  last : {name : Identifier} {t p o : Span} {ts rest : List Token} {written : Option Bounds} {type : TypeName}
      → SpellsMember ts type name written o (token kinds.Semicolon t ∷ token kinds.CloseBrace p ∷ rest)
      → BeginsMembers ts rest (type_reach type.base beside optional_bounds_reach written)

pub data BeginsListed : List Token → List Token → Reach → Type 0 where
  first : {ts rest : List Token} {r : Reach} → BeginsMember ts rest r → BeginsListed ts rest r
  others : {name : Identifier} {p o : Span} {ts us rest : List Token} {written : Option Bounds} {type : TypeName} {r : Reach}
      → SpellsMember ts type name written o (token kinds.Comma p ∷ us) → BeginsListed us rest r
      → BeginsListed ts rest (type_reach type.base beside optional_bounds_reach written beside r)

-- the parenthesis behind the parameters is read where the next part begins
pub data BeginsParameters : List Token → List Token → Reach → Type 0 where
  void : {s : Span} {rest : List Token} → BeginsParameters (token (kinds.Keyword keywords.Void) s ∷ rest) rest nowhere
  listed : {ts rest : List Token} {r : Reach} → BeginsListed ts rest r → BeginsParameters ts rest r

pub data BeginsBody : List Token → List Token → Reach → Type 0 where
  nothing : {ts : List Token} → BeginsBody ts ts nowhere
  absent : {t : Span} {rest : List Token} → BeginsBody (token kinds.Semicolon t ∷ rest) rest nowhere
  mark : {k : TokenKind} {s : Span} {rest : List Token} {mark : Mark} → mark_of k ≡ Some mark → BeginsBody (token k s ∷ rest) rest (node s.from)
  statements : {s : Span} {ts us rest : List Token} {optional_mark : Option Mark} {r : Reach}
      → SpellsOptionalMark ts optional_mark (token kinds.OpenBrace s ∷ us) → BeginsStatements us rest r → BeginsBody ts rest (around (start_of ts) r)

pub data BeginsItem : List Token → List Token → Reach → Type 0 where
  region : {s : Span} {rest : List Token} {scope : CheckedScope} → BeginsItem (token (kinds.Scope scope) s ∷ rest) rest nowhere
  struct_word : {s : Span} {rest tokens : List Token} {tainted : Bool} → SpellsTainted tokens tainted (token (kinds.Keyword keywords.Struct) s ∷ rest)
      → BeginsItem tokens rest nowhere
  struct_tag : {x : List ℕ} {s t : Span} {rest tokens : List Token} {tainted : Bool}
      → SpellsTainted tokens tainted (token (kinds.Keyword keywords.Struct) s ∷ token (kinds.Name x) t ∷ rest) → BeginsItem tokens rest nowhere
  struct_members : {x : List ℕ} {s t p : Span} {ts rest tokens : List Token} {tainted : Bool} {r : Reach}
      → SpellsTainted tokens tainted (token (kinds.Keyword keywords.Struct) s ∷ token (kinds.Name x) t ∷ token kinds.OpenBrace p ∷ ts) → BeginsMembers ts rest r
      → BeginsItem tokens rest r
  structure : {x : List ℕ} {s t p q : Span} {ts rest tokens : List Token} {tainted : Bool} {members : List Member}
      → SpellsTainted tokens tainted (token (kinds.Keyword keywords.Struct) s ∷ token (kinds.Name x) t ∷ token kinds.OpenBrace p ∷ ts)
      → SpellsMembers ts members (token kinds.Semicolon q ∷ rest) → BeginsItem tokens rest (members_reach members)
  global_type : {ts rest tokens : List Token} {tainted : Bool} {r : Reach} → SpellsTainted tokens tainted ts → BeginsType ts rest r → BeginsItem tokens rest r
  global_declarators : {ts us rest tokens : List Token} {base : TypeTree} {tainted : Bool} {r : Reach} → SpellsTainted tokens tainted ts
      → SpellsType ts base us → BeginsDeclarators us rest r → BeginsItem tokens rest (type_reach base beside r)
  global : {q w : Span} {ts us rest tokens : List Token} {base : TypeTree} {tainted : Bool} {declarators : List Declarator} → SpellsTainted tokens tainted ts
      → SpellsType ts base us → SpellsDeclarators us declarators w (token kinds.Semicolon q ∷ rest)
      → BeginsItem tokens rest (type_reach base beside declarators_reach declarators)
  function_word : {rest tokens : List Token} {function_kind : FunctionKind} → SpellsKind tokens function_kind rest → BeginsItem tokens rest nowhere
  function_mark : {k : TokenKind} {s : Span} {rest tokens : List Token} {mark : Mark} {function_kind : FunctionKind}
      → SpellsKind tokens function_kind (token k s ∷ rest) → mark_of k ≡ Some mark → BeginsItem tokens rest nowhere
  function_void : {s : Span} {ts rest tokens : List Token} {optional_mark : Option Mark} {function_kind : FunctionKind} → SpellsKind tokens function_kind ts
      → SpellsOptionalMark ts optional_mark (token (kinds.Keyword keywords.Void) s ∷ rest) → BeginsItem tokens rest nowhere
  function_type : {ts us rest tokens : List Token} {optional_mark : Option Mark} {function_kind : FunctionKind} {r : Reach}
      → SpellsKind tokens function_kind ts → SpellsOptionalMark ts optional_mark us → BeginsType us rest r → BeginsItem tokens rest r
  function_stars : {ts us vs rest tokens : List Token} {optional_mark : Option Mark} {result : ResultForm} {function_kind : FunctionKind}
      → SpellsKind tokens function_kind ts → SpellsOptionalMark ts optional_mark us → SpellsResult us result vs → BeginsStars vs rest
      → BeginsItem tokens rest (result_reach result)
  function_name : {n : ℕ} {x : List ℕ} {s : Span} {ts us vs rest tokens : List Token} {optional_mark : Option Mark} {result : ResultForm}
      {function_kind : FunctionKind} → SpellsKind tokens function_kind ts → SpellsOptionalMark ts optional_mark us → SpellsResult us result vs
      → SpellsStars vs n (token (kinds.Name x) s ∷ rest) → BeginsItem tokens rest (result_reach result)
  function_parameters : {n : ℕ} {x : List ℕ} {s p : Span} {ts us vs ws rest tokens : List Token} {optional_mark : Option Mark} {result : ResultForm}
      {function_kind : FunctionKind} {r : Reach} → SpellsKind tokens function_kind ts → SpellsOptionalMark ts optional_mark us → SpellsResult us result vs
      → SpellsStars vs n (token (kinds.Name x) s ∷ token kinds.OpenParen p ∷ ws) → BeginsParameters ws rest r
      → BeginsItem tokens rest (result_reach result beside r)
  function_bounds : {n : ℕ} {x : List ℕ} {s t p : Span} {ts us vs ws xs rest tokens : List Token} {optional_mark : Option Mark} {result : ResultForm}
      {parameters : Parameters} {function_kind : FunctionKind} {r : Reach} → SpellsKind tokens function_kind ts → SpellsOptionalMark ts optional_mark us
      → SpellsResult us result vs → SpellsStars vs n (token (kinds.Name x) s ∷ token kinds.OpenParen p ∷ ws) → SpellsParameters ws parameters t xs
      → BeginsOptionalBounds xs rest r → BeginsItem tokens rest (result_reach result beside parameters_reach parameters beside r)
  function_body : {n : ℕ} {x : List ℕ} {s t p w : Span} {ts us vs ws xs ys rest tokens : List Token} {written : Option Bounds} {optional_mark : Option Mark}
      {result : ResultForm} {parameters : Parameters} {function_kind : FunctionKind} {r : Reach} → SpellsKind tokens function_kind ts
      → SpellsOptionalMark ts optional_mark us → SpellsResult us result vs → SpellsStars vs n (token (kinds.Name x) s ∷ token kinds.OpenParen p ∷ ws)
      → SpellsParameters ws parameters t xs → SpellsOptionalBounds (from_first tokens t) xs written w ys → BeginsBody ys rest r
      → BeginsItem tokens rest (result_reach result beside parameters_reach parameters beside optional_bounds_reach written beside r)

-- the tokens up to the rest begin a whole source
pub data BeginsItems : List Token → List Token → Reach → Type 0 where
  nothing : {ts : List Token} → BeginsItems ts ts nowhere
  first : {ts rest : List Token} {r : Reach} → BeginsItem ts rest r → BeginsItems ts rest r
  others : {ts mid rest : List Token} {item : Item} {r : Reach} → SpellsItem ts item mid → BeginsItems mid rest r
      → BeginsItems ts rest (item_reach item beside r)
