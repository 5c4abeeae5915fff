-- What printed text reads to.
use Rattle.std.specs.Prelude.{◌≡◌, ◌≤◌, ◌<◌, ◌+◌, ℕ, List, [], ◌∷◌, length, map, None}
use Rattle.std.specs.List.{AllByRecursion}
use Rattle.ckc_text.specs.declared.place.Span.{Span}
use Rattle.ckc_lexer.specs.declared.token.Token.{Token}
use Rattle.ckc_lexer.specs.declared.token.TokenKind.{TokenKind}
use Rattle.ckc_lexer.specs.declared.token.TokenKind.TheVariants as kinds
use Rattle.ckc_text.specs.Names.{IsName}
use Rattle.ckc_lexer.specs.Words.{listed, keywords}
use Rattle.ckc_lexer.specs.Tokens.{AreTokens}
use Rattle.ckc_tree.specs.Items.{Tree}
use Rattle.ckc_tree.specs.Bare.{SameTree}
use Rattle.ckc_parser_grammar.specs.ItemGrammar.{SpellsProgram}
use Rattle.ckc_parser_grammar.specs.Parsing.{IsTree}
use Rattle.ckc_parser_grammar.specs.Tokens.{token}
use Rattle.ckc_printer.specs.Pieces.{Sign, One, RightShift, Piece, InLine, ScopeLine, text_of}
use Rattle.ckc_printer.specs.ItemPieces.{program_pieces, program_text}

-- ---- tokens by the signs that they stand for

-- the tokens, if there are any, start behind this byte
abbrev pub Behind : ℕ → List Token → Type 0
Behind to [] = Unit {0}
Behind to (t ∷ ts) = to < t.span.from

-- The tokens are these signs, one for each but two marks `>` for a right shift. These two touch, and no others do.
pub data AreSigns : List Sign → List Token → Type 0 where
  none : AreSigns [] []
  one : {k : TokenKind} {s : Span} {signs : List Sign} {ts : List Token} → Behind s.to ts → AreSigns signs ts → AreSigns (One k ∷ signs) (token k s ∷ ts)
  shift : {s t : Span} {signs : List Sign} {ts : List Token} → s.to ≡ t.from → Behind t.to ts → AreSigns signs ts
      → AreSigns (RightShift ∷ signs) (token kinds.Greater s ∷ token kinds.Greater t ∷ ts)

-- the token that a line of its own is read as is a sign as well
abbrev pub sign_of : Piece → Sign
sign_of (InLine sign) = sign
sign_of (ScopeLine scope) = One (kinds.Scope scope)

-- how many tokens the signs are: a right shift is two
abbrev pub signed_tokens : List Sign → ℕ
signed_tokens [] = 0
signed_tokens (One kind ∷ signs) = 1 + signed_tokens signs
signed_tokens (RightShift ∷ signs) = 2 + signed_tokens signs

-- ---- what a token can be

-- a name that is no keyword
pub record IsFreeName (name : List ℕ) : Type 0 where
  pub word : IsName name
  pub free : listed name keywords ≡ None

-- each of a list is a byte
abbrev pub AreBytes : List ℕ → Type 0
AreBytes list = AllByRecursion (λ b. b < 256) list

-- a token of this kind can be spelled: a name is one, and a number and bytes are in their range
abbrev pub IsLexical : TokenKind → Type 0
IsLexical (kinds.Name x) = IsFreeName x
IsLexical (kinds.Number n) = n ≤ 2147483647
IsLexical (kinds.Character b) = b < 256
IsLexical (kinds.Text bytes) = AreBytes bytes
IsLexical kind = Unit {0}

-- the same of signs and pieces; the scope of a directive stands on a line of its own
abbrev pub CanSign : Sign → Type 0
CanSign (One (kinds.Scope scope)) = ⊥
CanSign (One kind) = IsLexical kind
CanSign RightShift = Unit {0}

abbrev pub CanPrint : Piece → Type 0
CanPrint (InLine sign) = CanSign sign
CanPrint (ScopeLine scope) = Unit {0}

-- ---- what holds of them

-- what a source has as tokens can be spelled
abbrev pub TokensAreLexical : Type 0
TokensAreLexical = (src : List ℕ) (tokens : List Token) → AreBytes src → AreTokens src tokens → AllByRecursion (λ t. IsLexical t.kind) tokens

-- so can be the pieces of a tree that such tokens spell
abbrev pub TreesCanPrint : Type 0
TreesCanPrint = (length : ℕ) (tokens : List Token) (t : Tree) → AllByRecursion (λ t. IsLexical t.kind) tokens → SpellsProgram length tokens t
    → AllByRecursion CanPrint (program_pieces t)

-- pieces that can be printed are read as the tokens that they are, within the limits of a source
abbrev pub PiecesLexBack : Type 0
PiecesLexBack = (pieces : List Piece) → AllByRecursion CanPrint pieces → length (text_of pieces) ≤ 1048576 → signed_tokens (map sign_of pieces) ≤ 200000
    → (tokens : List Token) × AreTokens (text_of pieces) tokens × AreSigns (map sign_of pieces) tokens

-- the tokens that a tree is printed as spell the tree, but for its spans
abbrev pub SignsSpellBack : Type 0
SignsSpellBack = (n m : ℕ) (tokens printed : List Token) (t : Tree) → SpellsProgram n tokens t → AreSigns (map sign_of (program_pieces t)) printed
    → (u : Tree) × SpellsProgram m printed u × SameTree u t

-- what a tree that was read is printed as reads to the same tree but for its spans, within the limits of a source
abbrev pub ReadsBack : Type 0
ReadsBack = (src : List ℕ) (tokens : List Token) (t : Tree) → AreBytes src → AreTokens src tokens → IsTree (length src) tokens t
    → length (program_text t) ≤ 1048576 → signed_tokens (map sign_of (program_pieces t)) ≤ 200000
    → (printed : List Token) × AreTokens (program_text t) printed × ((u : Tree) × IsTree (length (program_text t)) printed u × SameTree u t)
