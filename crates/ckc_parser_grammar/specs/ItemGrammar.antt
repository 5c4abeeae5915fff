-- The grammar of a whole source: which tokens spell which tree.
--
--     program  = item*
--     item     = REGION | structure | function | global
--     structure= ['_Tainted'] 'struct' NAME '{' member+ '}' ';'
--     member   = type stars NAME [':' bounds] ';'
--     global   = ['_Tainted'] type decl (',' decl)* ';'
--     function = ['_Tainted' | '_Callback'] [mark] (type | 'void') stars NAME
--                '(' params ')' [':' bounds] (';' | [mark] block)
--     params   = ['void' | param (',' param)*]
--     param    = type stars NAME [':' bounds]
use Rattle.std.specs.Prelude.{◌≡◌, ℕ, Bool, true, false, List, [], ◌∷◌, Option, Some, None}
use Rattle.ckc_text.specs.declared.place.Span.{Span}
use Rattle.ckc_lexer.specs.declared.token.CheckedScope.{CheckedScope}
use Rattle.ckc_lexer.specs.declared.token.CheckedScope.TheVariants as scopes
use Rattle.ckc_lexer.specs.declared.token.Token.{Token}
use Rattle.ckc_lexer.specs.declared.token.TokenKind.{TokenKind}
use Rattle.ckc_lexer.specs.declared.keyword.Keyword.TheVariants as keywords
use Rattle.ckc_lexer.specs.declared.token.TokenKind.TheVariants as kinds
use Rattle.ckc_tree.specs.declared.identifier.Identifier.{Identifier}
use Rattle.ckc_tree.specs.declared.stmt.Mark.{Mark}
use Rattle.ckc_tree.specs.declared.item.Region.{Region}
use Rattle.ckc_tree.specs.declared.item.Region.TheVariants as regions
use Rattle.ckc_tree.specs.declared.item.FunctionKind.{FunctionKind}
use Rattle.ckc_tree.specs.declared.item.FunctionKind.TheVariants.{Trusted, Tainted, Callback}
use Rattle.ckc_tree.specs.Types.{TypeTree, TypeName}
use Rattle.ckc_tree.specs.Expressions.{Bounds}
use Rattle.ckc_tree.specs.Statements.{Statements, Declarator}
use Rattle.ckc_tree.specs.Items.{Member, ResultForm, Void, Value, Parameters, Nothing, VoidAlone, Listed, Body, Item, RegionItem, StructureItem}
use Rattle.ckc_tree.specs.Items.{GlobalItem, FunctionItem, Tree}
use Rattle.ckc_parser_grammar.specs.Tokens.{token, join, identifier, from_first, mark_of, next_is, mark_word, kind_word, tainted_word}
use Rattle.ckc_parser_grammar.specs.TypeGrammar.{SpellsStars, SpellsType, SpellsTypeName}
use Rattle.ckc_parser_grammar.specs.StatementGrammar.{SpellsOptionalBounds, SpellsDeclarators, SpellsStatements}

-- ---- words that may be left out before an item

pub data SpellsTainted : List Token → Bool → List Token → Type 0 where
  absent : {rest : List Token} → next_is tainted_word rest ≡ false → SpellsTainted rest false rest
  present : {s : Span} {rest : List Token} → SpellsTainted (token (kinds.Keyword keywords.Tainted) s ∷ rest) true rest

pub data SpellsKind : List Token → FunctionKind → List Token → Type 0 where
  trusted : {rest : List Token} → next_is kind_word rest ≡ false → SpellsKind rest Trusted rest
  tainted : {s : Span} {rest : List Token} → SpellsKind (token (kinds.Keyword keywords.Tainted) s ∷ rest) Tainted rest
  callback : {s : Span} {rest : List Token} → SpellsKind (token (kinds.Keyword keywords.Callback) s ∷ rest) Callback rest

pub data SpellsOptionalMark : List Token → Option Mark → List Token → Type 0 where
  absent : {rest : List Token} → next_is mark_word rest ≡ false → SpellsOptionalMark rest None rest
  present : {k : TokenKind} {s : Span} {rest : List Token} {mark : Mark} → mark_of k ≡ Some mark → SpellsOptionalMark (token k s ∷ rest) (Some mark) rest

-- ---- structures

-- what members and parameters have in common; its span is without a mark behind it
--
--     type stars NAME [':' bounds]
pub data SpellsMember : List Token → TypeName → Identifier → Option Bounds → Span → List Token → Type 0 where
  member : {x : List ℕ} {s w : Span} {ts us rest : List Token} {written : Option Bounds} {type : TypeName}
      → SpellsTypeName ts type (token (kinds.Name x) s ∷ us) → SpellsOptionalBounds (from_first ts s) us written w rest
      → SpellsMember ts type (identifier x s) written w rest

-- at least one member, and the brace behind them
pub data SpellsMembers : List Token → List Member → List Token → Type 0 where
  one : {name : Identifier} {t p o : Span} {ts rest : List Token} {written : Option Bounds} {type : TypeName}
      → SpellsMember ts type name written o (token kinds.Semicolon t ∷ token kinds.CloseBrace p ∷ rest)
      → SpellsMembers ts (record { type = type; name = name; bounds = written; span = join o t } ∷ []) rest
  more : {name : Identifier} {t o : Span} {ts us rest : List Token} {written : Option Bounds} {type : TypeName} {members : List Member}
      → SpellsMember ts type name written o (token kinds.Semicolon t ∷ us) → SpellsMembers us members rest
      → SpellsMembers ts (record { type = type; name = name; bounds = written; span = join o t } ∷ members) rest

-- ---- functions

pub data SpellsResult : List Token → ResultForm → List Token → Type 0 where
  void : {s : Span} {rest : List Token} → SpellsResult (token (kinds.Keyword keywords.Void) s ∷ rest) (Void s) rest
  value : {ts rest : List Token} {base : TypeTree} → SpellsType ts base rest → SpellsResult ts (Value base) rest

-- at least one parameter, and the parenthesis behind them
pub data SpellsListed : List Token → List Member → Span → List Token → Type 0 where
  one : {name : Identifier} {t o : Span} {ts rest : List Token} {written : Option Bounds} {type : TypeName}
      → SpellsMember ts type name written o (token kinds.CloseParen t ∷ rest)
      → SpellsListed ts (record { type = type; name = name; bounds = written; span = o } ∷ []) t rest
  more : {name : Identifier} {t p o : Span} {ts us rest : List Token} {written : Option Bounds} {type : TypeName} {members : List Member}
      → SpellsMember ts type name written o (token kinds.Comma p ∷ us) → SpellsListed us members t rest
      → SpellsListed ts (record { type = type; name = name; bounds = written; span = o } ∷ members) t rest

-- the parameters and the parenthesis behind them
pub data SpellsParameters : List Token → Parameters → Span → List Token → Type 0 where
  nothing : {t : Span} {rest : List Token} → SpellsParameters (token kinds.CloseParen t ∷ rest) Nothing t rest
  void : {s t : Span} {rest : List Token} → SpellsParameters (token (kinds.Keyword keywords.Void) s ∷ token kinds.CloseParen t ∷ rest) VoidAlone t rest
  listed : {t : Span} {ts rest : List Token} {members : List Member} → SpellsListed ts members t rest → SpellsParameters ts (Listed members) t rest

-- what ends a function: a semicolon, or a body; the span is that of the semicolon or the body
pub data SpellsBody : List Token → Option Body → Span → List Token → Type 0 where
  absent : {t : Span} {rest : List Token} → SpellsBody (token kinds.Semicolon t ∷ rest) None t rest
  present : {s t : Span} {ts us rest : List Token} {statements : Statements} {optional_mark : Option Mark}
      → SpellsOptionalMark ts optional_mark (token kinds.OpenBrace s ∷ us) → SpellsStatements us statements t rest
      → SpellsBody ts (Some (record { mark = optional_mark; statements = statements; span = from_first ts t })) (from_first ts t) rest

-- ---- items

pub data SpellsRegion : CheckedScope → Region → Type 0 where
  on : SpellsRegion scopes.On regions.On
  off : SpellsRegion scopes.Off regions.Off

pub data SpellsItem : List Token → Item → List Token → Type 0 where
  region : {s : Span} {rest : List Token} {region : Region} {scope : CheckedScope} → SpellsRegion scope region
      → SpellsItem (token (kinds.Scope scope) s ∷ rest) (RegionItem region s) rest
  structure : {x : List ℕ} {s t p q : Span} {ts rest tokens : List Token} {tainted : Bool} {members : List Member}
      → SpellsTainted tokens tainted (token (kinds.Keyword keywords.Struct) s ∷ token (kinds.Name x) t ∷ token kinds.OpenBrace p ∷ ts)
      → SpellsMembers ts members (token kinds.Semicolon q ∷ rest)
      → SpellsItem tokens (StructureItem (record { tainted = tainted; tag = identifier x t; members = members; span = from_first tokens q })) rest
  global : {q w : Span} {ts us rest tokens : List Token} {base : TypeTree} {tainted : Bool} {declarators : List Declarator} → SpellsTainted tokens tainted ts
      → SpellsType ts base us → SpellsDeclarators us declarators w (token kinds.Semicolon q ∷ rest)
      → SpellsItem tokens (GlobalItem (record { tainted = tainted; base = base; declarators = declarators; span = from_first tokens q })) rest
  function : {n : ℕ} {x : List ℕ} {s t p q w : Span} {ts us vs ws xs ys rest tokens : List Token} {written : Option Bounds} {optional_mark : Option Mark}
      {result : ResultForm} {parameters : Parameters} {body : Option Body} {function_kind : FunctionKind} → SpellsKind tokens function_kind ts
      → SpellsOptionalMark ts optional_mark us → SpellsResult us result vs → SpellsStars vs n (token (kinds.Name x) s ∷ token kinds.OpenParen p ∷ ws)
      → SpellsParameters ws parameters t xs → SpellsOptionalBounds (from_first tokens t) xs written w ys → SpellsBody ys body q rest
      → SpellsItem tokens (FunctionItem (record {
        kind = function_kind;
        mark = optional_mark;
        result = result;
        stars = n;
        name = identifier x s;
        parameters = parameters;
        bounds = written;
        body = body;
        span = from_first tokens q;
      })) rest

-- all items, up to the end
pub data SpellsItems : List Token → List Item → Type 0 where
  none : SpellsItems [] []
  more : {ts mid : List Token} {item : Item} {items : List Item} → SpellsItem ts item mid → SpellsItems mid items → SpellsItems ts (item ∷ items)

-- the tokens of a source of so many bytes spell the tree
pub data SpellsProgram : ℕ → List Token → Tree → Type 0 where
  program : {length : ℕ} {tokens : List Token} {items : List Item} → SpellsItems tokens items
      → SpellsProgram length tokens (record { items = items; span = record { from = 0; to = length } })
