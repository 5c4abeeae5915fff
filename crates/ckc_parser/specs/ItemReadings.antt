-- Inside: what the functions that read items answer, and what stands before the parts that they read.
use Rattle.std.specs.Prelude.{◌≡◌, ℕ, Bool, true, false, List, ◌∷◌, Option, Some, None, Result, Ok, Err}
use Rattle.ckc_text.specs.declared.place.Span.{Span}
use Rattle.ckc_lexer.specs.declared.token.Token.{Token}
use Rattle.ckc_lexer.specs.declared.keyword.Keyword.TheVariants as keywords
use Rattle.ckc_lexer.specs.declared.token.TokenKind.TheVariants as kinds
use Rattle.ckc_tree.specs.declared.stmt.Mark.{Mark}
use Rattle.ckc_tree.specs.declared.item.Region.{Region}
use Rattle.ckc_tree.specs.declared.item.FunctionKind.{FunctionKind}
use Rattle.ckc_tree.specs.declared.item.FunctionKind.TheVariants.{Trusted, Tainted}
use Rattle.ckc_tree.specs.Types.{TypeTree}
use Rattle.ckc_tree.specs.Items.{ResultForm, RegionItem}
use Rattle.ckc_tree.specs.Heights.{type_reach, result_reach}
use Rattle.ckc_parser_grammar.specs.declared.stuck.Stuck.{Stuck}
use Rattle.ckc_parser_grammar.specs.Answers.{Stops}
use Rattle.ckc_parser_grammar.specs.Tokens.{token, next_is, kind_word, open_paren}
use Rattle.ckc_parser_grammar.specs.TypeGrammar.{SpellsStars, SpellsType}
use Rattle.ckc_parser_grammar.specs.ItemGrammar.{SpellsTainted, SpellsKind, SpellsOptionalMark, SpellsResult, SpellsItem}
use Rattle.ckc_parser_grammar.specs.Failures.{Failure, unexpected, IsLow}
use Rattle.ckc_parser_grammar.specs.StuckTypes.{name_token, StuckType}
use Rattle.ckc_parser_grammar.specs.StuckItems.{scope_word, void_word, is_structure, is_function, IsAlone}

-- ---- words before an item

-- what a function that reads a directive answers
abbrev pub ReadsRegion : List Token → Result (Region × Span) Stuck → List Token → Type 0
ReadsRegion ts (Ok found) rest = SpellsItem ts (RegionItem found.0 found.1) rest
ReadsRegion ts (Err e) rest = Stops scope_word ts e rest

-- what a function that reads the word for the side on which a function runs answers
abbrev pub ReadsKind : List Token → Result (FunctionKind × Span) Stuck → List Token → Type 0
ReadsKind ts (Ok found) rest = SpellsKind ts found.0 rest
ReadsKind ts (Err e) rest = Stops kind_word ts e rest

-- of a function that can be another item so far, whether it is tainted
pub data IsSide : FunctionKind → Bool → Type 0 where
  trusted : IsSide Trusted false
  tainted : IsSide Tainted true

-- whether an item is tainted, where it can be another than a function
abbrev pub SideAnswers : FunctionKind → Option Mark → Option Bool → Type 0
SideAnswers kind mark None = (result : ResultForm) → IsAlone kind mark result
SideAnswers kind mark (Some is) = (mark ≡ None) × IsSide kind is

-- the words before the result of a function, which are no directive
pub record IsLed (whole : List Token) (kind : FunctionKind) (mark : Option Mark) (rest : List Token) : Type 0 where
  pub marked : List Token
  pub no_scope : next_is scope_word whole ≡ false
  pub spelled_kind : SpellsKind whole kind marked
  pub spelled_mark : SpellsOptionalMark marked mark rest

-- the type of file-level variables
pub record IsBase (whole : List Token) (tainted : Bool) (base : TypeTree) (rest : List Token) : Type 0 where
  pub typed : List Token
  pub taint : SpellsTainted whole tainted typed
  pub no_structure : is_structure typed ≡ false
  pub type : SpellsType typed base rest
  pub low : IsLow 0 (type_reach base)
  pub no_function : is_function rest ≡ false

-- ---- structures

-- the word `struct`, a name and a brace
pub record IsStructureHead (name : List ℕ) (span : Span) (ts rest : List Token) : Type 0 where
  pub word : Span
  pub brace : Span
  pub at : ts ≡ token (kinds.Keyword keywords.Struct) word ∷ token (kinds.Name name) span ∷ token kinds.OpenBrace brace ∷ rest

pub record IsStructure (whole : List Token) (tainted : Bool) (name : List ℕ) (span : Span) (rest : List Token) : Type 0 where
  pub word : Span
  pub brace : Span
  pub taint : SpellsTainted whole tainted (token (kinds.Keyword keywords.Struct) word ∷ token (kinds.Name name) span ∷ token kinds.OpenBrace brace ∷ rest)

-- ---- functions

-- stars, a name and a parenthesis
pub record IsNamed (stars : ℕ) (name : List ℕ) (span : Span) (ts rest : List Token) : Type 0 where
  pub paren : Span
  pub spelled : SpellsStars ts stars (token (kinds.Name name) span ∷ token kinds.OpenParen paren ∷ rest)

pub data StuckNamed : List Token → Failure → Type 0 where
  name : {n : ℕ} {ts rest : List Token} → SpellsStars ts n rest → next_is name_token rest ≡ false → StuckNamed ts (unexpected rest)
  opens : {n : ℕ} {x : List ℕ} {s : Span} {ts rest : List Token} → SpellsStars ts n (token (kinds.Name x) s ∷ rest) → next_is open_paren rest ≡ false
      → StuckNamed ts (unexpected rest)

pub data StuckResult : List Token → Failure → Type 0 where
  value : {ts : List Token} {f : Failure} → next_is void_word ts ≡ false → StuckType 0 ts f → StuckResult ts f

-- a function up to the parenthesis that opens
pub record IsHead (whole : List Token) (kind : FunctionKind) (mark : Option Mark) (result : ResultForm) (stars : ℕ) (name : List ℕ) (span : Span)
    (rest : List Token) : Type 0 where
  pub typed : List Token
  pub named : List Token
  pub led : IsLed whole kind mark typed
  pub returned : SpellsResult typed result named
  pub low : IsLow 0 (result_reach result)
  pub is_named : IsNamed stars name span named rest
