-- Inside: what the functions that read forms answer, in the code's types. Each takes the tokens of a form from the front of
-- those that are left; where it fails, the tokens that are left then begin where reading stopped.
use Rattle.std.specs.Prelude.{◌≡◌, ◌≤◌, ◌<◌, Bool, true, false, List, ◌∷◌, ℕ, length, Option, Some, Result, Ok, Err}
use Rattle.std.specs.Option.{is_some}
use Rattle.std.specs.Borrow.{Bor}
use Rattle.ckc_text.specs.declared.place.Span.{Span}
use Rattle.ckc_lexer.specs.declared.token.Token.{Token}
use Rattle.ckc_lexer.specs.declared.token.TokenKind.{TokenKind}
use Rattle.ckc_lexer.specs.declared.token.TokenKind.TheVariants as kinds
use Rattle.ckc_parser_grammar.specs.Tokens.{token, next_is}
use Rattle.ckc_parser_grammar.specs.StuckTypes.{name_token}
use Rattle.ckc_parser_grammar.specs.Failures.{Failure, unexpected, too_deep, no_memory}
use Rattle.ckc_parser_grammar.specs.declared.stuck.Stuck.{Stuck}
use Rattle.ckc_parser_grammar.specs.declared.stuck.Stuck.TheVariants as code

-- the failure that a value of the code's type stands for, with these tokens left
abbrev pub failure : Stuck → List Token → Failure
failure code.Unexpected rest = unexpected rest
failure (code.TooDeep start) rest = too_deep start
failure code.NoMemory rest = no_memory

-- what a function that reads a form answers: what it found before the tokens that are left, or why it is no form
abbrev pub Reads : {X : Type 0} → (X → List Token → Type 0) → (Failure → Type 0) → Result X Stuck → List Token → Type 0
Reads Is Fails (Ok found) rest = Is found rest
Reads Is Fails (Err e) rest = Fails (failure e rest)

-- reading stopped at once, before a token that is none of these
pub record Stops (is : TokenKind → Bool) (ts : List Token) (e : Stuck) (rest : List Token) : Type 0 where
  pub reason : e ≡ code.Unexpected
  pub left : rest ≡ ts
  pub other : next_is is ts ≡ false

-- what a function that reads one mark answers: its span before the tokens that are left, or that another token stands there
abbrev pub ReadsMark : TokenKind → (TokenKind → Bool) → List Token → Result Span Stuck → List Token → Type 0
ReadsMark k is ts (Ok span) rest = ts ≡ token k span ∷ rest
ReadsMark k is ts (Err e) rest = Stops is ts e rest

-- a word that says one thing, with its span, and the tokens behind it
pub record WordAt {W : Type 0} (word_of : TokenKind → Option W) (word : W) (span : Span) (ts rest : List Token) : Type 0 where
  pub kind : TokenKind
  pub says : word_of kind ≡ Some word
  pub at : ts ≡ token kind span ∷ rest

-- what a function that reads such a word answers: what it says and its span before the tokens that are left, or that another
-- token stands there
abbrev pub ReadsWord : {W : Type 0} → (TokenKind → Option W) → List Token → Result (W × Span) Stuck → List Token → Type 0
ReadsWord word_of ts (Ok found) rest = WordAt word_of found.0 found.1 ts rest
ReadsWord word_of ts (Err e) rest = Stops (λ kind. is_some (word_of kind)) ts e rest

-- what a function that reads a name answers: its bytes and its span, or that another token stands there
abbrev pub ReadsName : (TokenKind → Bool) → List Token → Result (Bor (List ℕ) × Span) Stuck → List Token → Type 0
ReadsName is ts (Ok found) rest = ts ≡ token (kinds.Name found.0.now) found.1 ∷ rest
ReadsName is ts (Err e) rest = Stops is ts e rest

-- why a name, of its own, isn't read
pub data FailsName : List Token → Failure → Type 0 where
  no_name : {ts : List Token} → next_is name_token ts ≡ false → FailsName ts (unexpected ts)
  no_room : {ts : List Token} → FailsName ts no_memory

-- what a function answers that takes the first token of a form, which is one of these, with so many nodes around the form
abbrev pub Opens : (TokenKind → Bool) → (Failure → Type 0) → ℕ → List Token → Result (Bor Token) Stuck → List Token → Type 0
Opens is Fails depth ts (Ok first) rest = (ts ≡ first.now ∷ rest) × (is first.now.kind ≡ true) × (depth < 200)
Opens is Fails depth ts (Err e) rest = Fails (failure e rest)

-- what a function answers that fails only where there is no memory
abbrev pub OrNoMemory : {X : Type 0} → (X → Type 0) → Result X Stuck → Type 0
OrNoMemory Is (Ok found) = Is found
OrNoMemory Is (Err e) = e ≡ code.NoMemory

-- a function that reads a form takes tokens
abbrev pub TakesTokens : {X : Type 0} → List Token → Result X Stuck → List Token → Type 0
TakesTokens ts (Ok found) rest = length rest < length ts
TakesTokens {X} ts (Err e) rest = Unit {0}

-- the same of one that may take none
abbrev pub MayTakeTokens : {X : Type 0} → List Token → Result X Stuck → List Token → Type 0
MayTakeTokens ts (Ok found) rest = length rest ≤ length ts
MayTakeTokens {X} ts (Err e) rest = Unit {0}
