-- Inside: where reading what stands at file level fails. One case for each part that can fail: those before it are
-- spelled, and no node so far is too deep.
use Rattle.std.specs.Prelude.{◌≡◌, ◌&&◌, cond, ℕ, Bool, true, false, List, [], ◌∷◌, Option, Some}
use Rattle.ckc_text.specs.declared.place.Span.{Span}
use Rattle.ckc_lexer.specs.declared.token.Token.{Token}
use Rattle.ckc_lexer.specs.declared.token.TokenKind.{TokenKind}
use Rattle.ckc_lexer.specs.declared.keyword.Keyword.TheVariants as keywords
use Rattle.ckc_lexer.specs.declared.token.TokenKind.TheVariants as kinds
use Rattle.ckc_tree.specs.declared.identifier.Identifier.{Identifier}
use Rattle.ckc_tree.specs.declared.stmt.Mark.{Mark}
use Rattle.ckc_tree.specs.declared.item.FunctionKind.{FunctionKind}
use Rattle.ckc_tree.specs.declared.item.FunctionKind.TheVariants.{Callback}
use Rattle.ckc_tree.specs.Types.{TypeTree, TypeName}
use Rattle.ckc_tree.specs.Expressions.{Bounds}
use Rattle.ckc_tree.specs.Statements.{Declarator}
use Rattle.ckc_tree.specs.Items.{Member, ResultForm, Void, Parameters, Item}
use Rattle.ckc_tree.specs.Heights.{type_reach, optional_bounds_reach, declarators_reach, members_reach, result_reach, parameters_reach, item_reach}
use Rattle.ckc_parser_grammar.specs.Tokens.{token, from_first, mark_of, mark_word, next_is, open_paren, star}
use Rattle.ckc_parser_grammar.specs.TypeGrammar.{SpellsStars, SpellsType, SpellsTypeName}
use Rattle.ckc_parser_grammar.specs.StatementGrammar.{SpellsOptionalBounds, SpellsDeclarators}
use Rattle.ckc_parser_grammar.specs.ItemGrammar.{SpellsTainted, SpellsKind, SpellsOptionalMark, SpellsMember, SpellsMembers, SpellsResult}
use Rattle.ckc_parser_grammar.specs.ItemGrammar.{SpellsParameters, SpellsItem}
use Rattle.ckc_parser_grammar.specs.Failures.{Failure, unexpected, no_memory, IsLow}
use Rattle.ckc_parser_grammar.specs.StuckTypes.{name_token, StuckType, StuckTypeName}
use Rattle.ckc_parser_grammar.specs.StuckExpressions.{close_paren, comma_or_paren}
use Rattle.ckc_parser_grammar.specs.StuckStatements.{semicolon, open_brace, close_brace, StuckOptionalBounds, StuckDeclarators, StuckStatements}

-- ---- what is seen some tokens ahead

abbrev pub void_word : TokenKind → Bool
void_word (kinds.Keyword keywords.Void) = true
void_word _ = false

-- a directive, which is an item of its own
abbrev pub scope_word : TokenKind → Bool
scope_word (kinds.Scope scope) = true
scope_word _ = false

abbrev pub struct_word : TokenKind → Bool
struct_word (kinds.Keyword keywords.Struct) = true
struct_word _ = false

-- what ends a function or begins its body
abbrev pub body_word : TokenKind → Bool
body_word kinds.Semicolon = true
body_word kinds.OpenBrace = true
body_word kind = mark_word kind

-- a name, and then such a token
abbrev pub is_name_before : (TokenKind → Bool) → List Token → Bool
is_name_before is [] = false
is_name_before is (t ∷ ts) = name_token t.kind && next_is is ts

-- the word `struct`, a name and a brace
abbrev pub is_structure : List Token → Bool
is_structure [] = false
is_structure (t ∷ ts) = struct_word t.kind && is_name_before open_brace ts

-- behind the stars stand a name and a parenthesis
abbrev pub is_function : List Token → Bool
is_function [] = false
is_function (t ∷ ts) = cond (star t.kind) (is_function ts) (is_name_before open_paren (t ∷ ts))

-- what stands before can be followed by a function alone
pub data IsAlone : FunctionKind → Option Mark → ResultForm → Type 0 where
  callback : {optional_mark : Option Mark} {result : ResultForm} → IsAlone Callback optional_mark result
  marked : {kind : FunctionKind} {mark : Mark} {result : ResultForm} → IsAlone kind (Some mark) result
  void : {kind : FunctionKind} {optional_mark : Option Mark} {s : Span} → IsAlone kind optional_mark (Void s)

-- ---- members and parameters

pub data StuckMember : List Token → Failure → Type 0 where
  no_room : {ts : List Token} → StuckMember ts no_memory
  typed : {ts : List Token} {f : Failure} → StuckTypeName 0 ts f → StuckMember ts f
  name : {ts rest : List Token} {type : TypeName} → SpellsTypeName ts type rest → IsLow 0 (type_reach type.base) → next_is name_token rest ≡ false
      → StuckMember ts (unexpected rest)
  bounds : {x : List ℕ} {s : Span} {ts us : List Token} {type : TypeName} {f : Failure} → SpellsTypeName ts type (token (kinds.Name x) s ∷ us)
      → IsLow 0 (type_reach type.base) → StuckOptionalBounds 0 us f → StuckMember ts f

-- a member is low where its parts are
abbrev pub IsLowMember : TypeName → Option Bounds → Type 0
IsLowMember type written = IsLow 0 (type_reach type.base) × IsLow 0 (optional_bounds_reach written)

pub data StuckMembers : List Token → Failure → Type 0 where
  no_room : {ts : List Token} → StuckMembers ts no_memory
  first : {ts : List Token} {f : Failure} → StuckMember ts f → StuckMembers ts f
  end : {name : Identifier} {o : Span} {ts rest : List Token} {written : Option Bounds} {type : TypeName} → SpellsMember ts type name written o rest
      → IsLowMember type written → next_is semicolon rest ≡ false → StuckMembers ts (unexpected rest)
  others : {name : Identifier} {t o : Span} {ts us : List Token} {written : Option Bounds} {type : TypeName} {f : Failure}
      → SpellsMember ts type name written o (token kinds.Semicolon t ∷ us) → IsLowMember type written → next_is close_brace us ≡ false → StuckMembers us f
      → StuckMembers ts f

pub data StuckListed : List Token → Failure → Type 0 where
  no_room : {ts : List Token} → StuckListed ts no_memory
  first : {ts : List Token} {f : Failure} → StuckMember ts f → StuckListed ts f
  end : {name : Identifier} {o : Span} {ts rest : List Token} {written : Option Bounds} {type : TypeName} → SpellsMember ts type name written o rest
      → IsLowMember type written → next_is comma_or_paren rest ≡ false → StuckListed ts (unexpected rest)
  others : {name : Identifier} {p o : Span} {ts us : List Token} {written : Option Bounds} {type : TypeName} {f : Failure}
      → SpellsMember ts type name written o (token kinds.Comma p ∷ us) → IsLowMember type written → StuckListed us f → StuckListed ts f

pub data StuckParameters : List Token → Failure → Type 0 where
  void : {s : Span} {rest : List Token} → next_is close_paren rest ≡ false → StuckParameters (token (kinds.Keyword keywords.Void) s ∷ rest) (unexpected rest)
  listed : {ts : List Token} {f : Failure} → next_is close_paren ts ≡ false → next_is void_word ts ≡ false → StuckListed ts f → StuckParameters ts f

-- ---- items

pub data StuckBody : List Token → Failure → Type 0 where
  no_body : {ts : List Token} → next_is body_word ts ≡ false → StuckBody ts (unexpected ts)
  mark : {k : TokenKind} {s : Span} {rest : List Token} {mark : Mark} → mark_of k ≡ Some mark → next_is open_brace rest ≡ false
      → StuckBody (token k s ∷ rest) (unexpected rest)
  statements : {s : Span} {ts us : List Token} {optional_mark : Option Mark} {f : Failure} → SpellsOptionalMark ts optional_mark (token kinds.OpenBrace s ∷ us)
      → StuckStatements 1 us f → StuckBody ts f

pub data StuckItem : List Token → Failure → Type 0 where
  no_room : {tokens : List Token} → StuckItem tokens no_memory
  result : {ts us tokens : List Token} {optional_mark : Option Mark} {function_kind : FunctionKind} {f : Failure} → next_is scope_word tokens ≡ false
      → SpellsKind tokens function_kind ts → SpellsOptionalMark ts optional_mark us → next_is void_word us ≡ false → StuckType 0 us f → StuckItem tokens f
  members : {x : List ℕ} {s t p : Span} {ts tokens : List Token} {tainted : Bool} {f : Failure}
      → SpellsTainted tokens tainted (token (kinds.Keyword keywords.Struct) s ∷ token (kinds.Name x) t ∷ token kinds.OpenBrace p ∷ ts) → StuckMembers ts f
      → StuckItem tokens f
  structure_end : {x : List ℕ} {s t p : Span} {ts rest tokens : List Token} {tainted : Bool} {members : List Member}
      → SpellsTainted tokens tainted (token (kinds.Keyword keywords.Struct) s ∷ token (kinds.Name x) t ∷ token kinds.OpenBrace p ∷ ts)
      → SpellsMembers ts members rest
      → IsLow 0 (members_reach members) → next_is semicolon rest ≡ false → StuckItem tokens (unexpected rest)
  -- what a type begins is a function where a name and a parenthesis follow, and else a list of variables
  variables : {ts us tokens : List Token} {base : TypeTree} {tainted : Bool} {f : Failure} → SpellsTainted tokens tainted ts → is_structure ts ≡ false
      → SpellsType ts base us → IsLow 0 (type_reach base) → is_function us ≡ false → StuckDeclarators 0 us f → StuckItem tokens f
  variables_end : {w : Span} {ts us rest tokens : List Token} {base : TypeTree} {tainted : Bool} {declarators : List Declarator}
      → SpellsTainted tokens tainted ts → SpellsType ts base us → IsLow 0 (type_reach base) → is_function us ≡ false → SpellsDeclarators us declarators w rest
      → IsLow 0 (declarators_reach declarators) → next_is semicolon rest ≡ false
      → StuckItem tokens (unexpected rest)
  function_name : {n : ℕ} {ts us vs rest tokens : List Token} {optional_mark : Option Mark} {result : ResultForm} {function_kind : FunctionKind}
      → SpellsKind tokens function_kind ts → SpellsOptionalMark ts optional_mark us → SpellsResult us result vs → IsLow 0 (result_reach result)
      → IsAlone function_kind optional_mark result → SpellsStars vs n rest → next_is name_token rest ≡ false
      → StuckItem tokens (unexpected rest)
  function_open : {n : ℕ} {x : List ℕ} {s : Span} {ts us vs rest tokens : List Token} {optional_mark : Option Mark} {result : ResultForm}
      {function_kind : FunctionKind} → SpellsKind tokens function_kind ts → SpellsOptionalMark ts optional_mark us → SpellsResult us result vs
      → IsLow 0 (result_reach result) → IsAlone function_kind optional_mark result
      → SpellsStars vs n (token (kinds.Name x) s ∷ rest) → next_is open_paren rest ≡ false → StuckItem tokens (unexpected rest)
  function_parameters : {n : ℕ} {x : List ℕ} {s p : Span} {ts us vs ws tokens : List Token} {optional_mark : Option Mark} {result : ResultForm}
      {function_kind : FunctionKind} {f : Failure} → SpellsKind tokens function_kind ts → SpellsOptionalMark ts optional_mark us → SpellsResult us result vs
      → IsLow 0 (result_reach result)
      → SpellsStars vs n (token (kinds.Name x) s ∷ token kinds.OpenParen p ∷ ws) → StuckParameters ws f → StuckItem tokens f
  function_bounds : {n : ℕ} {x : List ℕ} {s t p : Span} {ts us vs ws xs tokens : List Token} {optional_mark : Option Mark} {result : ResultForm}
      {parameters : Parameters} {function_kind : FunctionKind} {f : Failure} → SpellsKind tokens function_kind ts → SpellsOptionalMark ts optional_mark us
      → SpellsResult us result vs → IsLow 0 (result_reach result)
      → SpellsStars vs n (token (kinds.Name x) s ∷ token kinds.OpenParen p ∷ ws) → SpellsParameters ws parameters t xs → IsLow 0 (parameters_reach parameters)
      → StuckOptionalBounds 0 xs f → StuckItem tokens f
  function_body : {n : ℕ} {x : List ℕ} {s t p w : Span} {ts us vs ws xs ys tokens : List Token} {written : Option Bounds} {optional_mark : Option Mark}
      {result : ResultForm} {parameters : Parameters} {function_kind : FunctionKind} {f : Failure} → SpellsKind tokens function_kind ts
      → SpellsOptionalMark ts optional_mark us → SpellsResult us result vs
      → IsLow 0 (result_reach result) → SpellsStars vs n (token (kinds.Name x) s ∷ token kinds.OpenParen p ∷ ws) → SpellsParameters ws parameters t xs
      → IsLow 0 (parameters_reach parameters) → SpellsOptionalBounds (from_first tokens t) xs written w ys → IsLow 0 (optional_bounds_reach written)
      → StuckBody ys f → StuckItem tokens f

pub data StuckItems : List Token → Failure → Type 0 where
  no_room : {ts : List Token} → StuckItems ts no_memory
  first : {t : Token} {ts : List Token} {f : Failure} → StuckItem (t ∷ ts) f → StuckItems (t ∷ ts) f
  others : {ts mid : List Token} {item : Item} {f : Failure} → SpellsItem ts item mid → IsLow 0 (item_reach item) → StuckItems mid f → StuckItems ts f
