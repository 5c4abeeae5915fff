-- The tokens that a source has, or the first place where none can be read: the source is cut into pieces from its start on.
use Rattle.std.specs.Prelude.{◌≡◌, ℕ, ◌+◌, ◌<◌, ◌≤◌, Bool, true, false, cond, List, [], ◌∷◌, ◌++◌, length, drop, nat_lt, Option, Some, None, Result, Ok, Err}
use Rattle.std.specs.List.{find}
use Rattle.std.specs.Option.{option_map}
use Rattle.std.specs.Str.{bytes_eq}
use Rattle.std.specs.Global.{Vec}
use Rattle.ckc_text.specs.declared.code.Code.{Code}
use Rattle.ckc_text.specs.declared.code.Code.TheVariants.{E01, E05, E08}
use Rattle.ckc_text.specs.declared.fault.SourceFault.{SourceFault}
use Rattle.ckc_text.specs.declared.fault.Refused.{Refused}
use Rattle.ckc_text.specs.declared.fault.Refused.TheVariants.{Source, NoMemory}
use Rattle.ckc_lexer.specs.Rules.{is_same_number}
use Rattle.ckc_lexer.specs.Pieces.{Stands}
use Rattle.ckc_lexer.specs.declared.token.Token.{Token}
use Rattle.ckc_lexer.specs.declared.token.CheckedScope.{CheckedScope}
use Rattle.ckc_lexer.specs.declared.token.CheckedScope.TheVariants as scope
use Rattle.ckc_lexer.specs.declared.token.TokenKind.{TokenKind}
use Rattle.ckc_lexer.specs.declared.token.TokenKind.TheVariants as kind
use Rattle.ckc_lexer.specs.declared.piece.Definition.{Definition}
use Rattle.ckc_lexer.specs.declared.piece.ScopeWord.{ScopeWord}
use Rattle.ckc_lexer.specs.declared.piece.ScopeWord.TheVariants as word
use Rattle.ckc_lexer.specs.declared.piece.Piece.{Piece}
use Rattle.ckc_lexer.specs.declared.piece.Piece.TheVariants.{Gap, Lexeme, Named, Include, Define, Scope, CommentFault, Forbidden, Fault}
use Rattle.ckc_lexer.specs.declared.line.Line.{Line}
use Rattle.ckc_lexer.specs.declared.line.Line.TheVariants.{Fresh, Marked, Behind}

-- what stands before a place of the source: the tokens, the definitions, the scope, the scopes that were kept, the last
-- one first, and what its line has before it
pub record State : Type 0 where
  pub at : ℕ
  pub line : Line
  pub tokens : List Token
  pub definitions : List Definition
  pub scope : CheckedScope
  pub kept : List CheckedScope

-- at the start of the source
abbrev pub initial : State
initial = record { at = 0; line = Fresh; tokens = []; definitions = []; scope = scope.On; kept = [] }

-- a token of these bytes
abbrev pub token_at : ℕ → ℕ → TokenKind → Token
token_at from to kind = record { kind = kind; span = record { from = from; to = to } }

-- a fault is named by the place where its piece begins, and has no length
abbrev pub fault_at : Code → ℕ → SourceFault
fault_at code at = record { code = code; span = record { from = at; to = at } }

-- behind a piece
abbrev pub go_on : ℕ → Line → Result State SourceFault → Result State SourceFault
go_on n line (Ok s) = Ok (record { at = s.at + n; line = line; tokens = s.tokens; definitions = s.definitions; scope = s.scope; kept = s.kept })
go_on n line (Err fault) = Err fault

-- one more token, of the n bytes that stand here; a source has 200,000 at most
unfoldable pub push : State → TokenKind → ℕ → Result State SourceFault
push s kind n =
    cond (nat_lt (length s.tokens) 200000)
    (Ok (record {
      at = s.at;
      line = s.line;
      tokens = s.tokens ++ token_at s.at (s.at + n) kind
          ∷ [];
      definitions = s.definitions;
      scope = s.scope;
      kept = s.kept;
    }))
    (Err (fault_at E08 s.at))

abbrev pub push_after : Result State SourceFault → TokenKind → ℕ → Result State SourceFault
push_after (Ok s) kind n = push s kind n
push_after (Err fault) kind n = Err fault

-- whether what a name stands for has a minus, and its number
abbrev pub definition_for : List ℕ → List Definition → Option (Bool × ℕ)
definition_for name definitions = option_map (λ d. (d.negative, d.value)) (find (λ d. bytes_eq d.name name) definitions)

-- a number, behind a minus where it has one
abbrev pub number_tokens : Bool → ℕ → State → ℕ → Result State SourceFault
number_tokens false value s n = push s (kind.Number value) n
number_tokens true value s n = push_after (push s kind.Minus n) (kind.Number value) n

-- a name, or what it stands for
abbrev pub name_tokens : List ℕ → Option (Bool × ℕ) → State → ℕ → Result State SourceFault
name_tokens name None s n = push s (kind.Name name) n
name_tokens name (Some (negative, value)) s n = number_tokens negative value s n

-- behind a directive stands no token on its line
abbrev pub behind_mark : Line → Result State SourceFault → ℕ → Result State SourceFault
behind_mark Fresh tokens n = go_on n Marked tokens
behind_mark Marked tokens n = go_on n Marked tokens
behind_mark (Behind directive) tokens n = Err (fault_at E05 directive)

-- something that can't be read; behind a directive it is that directive's fault
abbrev pub forbidden : Line → ℕ → SourceFault
forbidden Fresh at = fault_at E01 at
forbidden Marked at = fault_at E01 at
forbidden (Behind directive) at = fault_at E01 directive

abbrev pub fault : Line → Code → ℕ → SourceFault
fault Fresh code at = fault_at code at
fault Marked code at = fault_at code at
fault (Behind directive) code at = fault_at E05 directive

-- a definition, by what its name stands for already: two of one name have the same sign and the same number
abbrev pub define : Option (Bool × ℕ) → Definition → State → Result State SourceFault
define None d s =
    Ok (record { at = s.at; line = s.line; tokens = s.tokens; definitions = s.definitions ++ d ∷ []; scope = s.scope; kept = s.kept })
define (Some (negative, value)) d s = cond (is_same_number negative value d) (Ok s) (Err (fault_at E05 s.at))

-- from here on this scope stands
abbrev pub scope_from : State → CheckedScope → List CheckedScope → ℕ → Result State SourceFault
scope_from s scope kept n =
    push (record { at = s.at; line = s.line; tokens = s.tokens; definitions = s.definitions; scope = scope; kept = kept }) (kind.Scope scope) n

-- `pop` takes back the scope that was kept last
abbrev pub pop_scope : List CheckedScope → State → ℕ → Result State SourceFault
pop_scope [] s n = Err (fault_at E05 s.at)
pop_scope (last ∷ others) s n = scope_from s last others n

-- the scope that a word leads to
abbrev pub change_scope : ScopeWord → State → ℕ → Result State SourceFault
change_scope word.On s n = scope_from s scope.On s.kept n
change_scope word.Off s n = scope_from s scope.Off s.kept n
change_scope word.Push s n = scope_from s s.scope (s.scope ∷ s.kept) n
change_scope word.Pop s n = pop_scope s.kept s n

-- no mark stands before this place on its line
abbrev pub is_first : Line → Bool
is_first Fresh = true
is_first Marked = false
is_first (Behind directive) = false

-- what a piece of n bytes leads to
abbrev pub next : Piece → State → ℕ → Result State SourceFault
next (Gap ends_line) s n = go_on n (cond ends_line Fresh s.line) (Ok s)
next (Lexeme kind) s n = behind_mark s.line (push s kind n) n
next (Named name) s n = behind_mark s.line (name_tokens name (definition_for name s.definitions) s n) n
next Include s n = go_on n (Behind s.at) (Ok s)
next (Define d) s n = go_on n (Behind s.at) (define (definition_for d.name s.definitions) d s)
next (Scope word) s n = go_on n (Behind s.at) (change_scope word s n)
next (CommentFault code) s n = Err (fault_at code s.at)
next Forbidden s n = Err (forbidden s.line s.at)
next (Fault code) s n = Err (fault s.line code s.at)

-- what the piece that stands at a state's place leads to
pub record Step (src : List ℕ) (s : State) (result : Result State SourceFault) : Type 0 where
  pub within : s.at < length src
  pub piece : Piece
  pub n : ℕ
  pub stands : Stands (is_first s.line) (drop s.at src) piece n
  pub leads : next piece s n ≡ result

-- the source, cut into pieces from a state on, has these tokens, or has this fault at a place from which no piece can be read
pub data Cut (src : List ℕ) : State → Result (List Token) SourceFault → Type 0 where
  ends : {s : State} → s.at ≡ length src → Cut src s (Ok s.tokens)
  stops : {s : State} {fault : SourceFault} → Step src s (Err fault) → Cut src s (Err fault)
  goes : {s t : State} {result : Result (List Token) SourceFault} → Step src s (Ok t) → Cut src t result → Cut src s result

-- a source of at most 1,048,576 bytes is cut; a greater one has a fault at its start
pub data Lexes : List ℕ → Result (List Token) SourceFault → Type 0 where
  great : {src : List ℕ} → 1048576 < length src → Lexes src (Err (fault_at E08 0))
  cut : {src : List ℕ} {result : Result (List Token) SourceFault} → length src ≤ 1048576 → Cut src initial result → Lexes src result

-- the source has these tokens
abbrev pub AreTokens : List ℕ → List Token → Type 0
AreTokens src tokens = Lexes src (Ok tokens)

-- the source has this fault, and no list of tokens
abbrev pub HasFault : List ℕ → SourceFault → Type 0
HasFault src fault = Lexes src (Err fault)

-- what reading the tokens of a source answers
abbrev pub LexAnswers : List ℕ → Result (Vec Token) Refused → Type 0
LexAnswers src (Ok tokens) = AreTokens src tokens.items
LexAnswers src (Err (Source fault)) = HasFault src fault
LexAnswers src (Err NoMemory) = Unit {0}

-- the tokens stand one behind the other, each with a byte at least, and end before a place; only behind a minus may one
-- stand on the same bytes, as the number of a definition does
pub data InOrder : List Token → ℕ → Type 0 where
  none : {end : ℕ} → InOrder [] end
  token : (tokens : List Token) {end : ℕ} (t : Token) → InOrder tokens t.span.from → t.span.from < t.span.to → t.span.to ≤ end → InOrder (tokens ++ t ∷ []) end
  again : (tokens : List Token) {end : ℕ} (t u : Token) → InOrder (tokens ++ t ∷ []) end → t.kind ≡ kind.Minus → u.span ≡ t.span
      → InOrder ((tokens ++ t ∷ []) ++ u ∷ []) end
