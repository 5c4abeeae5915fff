-- Tokens by the signs that they are: what stands next, and what was read of a form.
use Rattle.std.proofs.Common.{◌≡◌, Bool, false, List, [], ◌∷◌, ◌++◌, refl, append_assoc}
use Rattle.ckc_text.specs.declared.place.Span.{Span}
use Rattle.ckc_lexer.specs.declared.token.Token.{Token}
use Rattle.ckc_lexer.specs.declared.token.TokenKind.{TokenKind}
use Rattle.ckc_lexer.specs.declared.token.TokenKind.TheVariants as kinds
use Rattle.ckc_parser_grammar.specs.Tokens.{token, next_is}
use Rattle.ckc_printer.specs.Pieces.{Sign, One, RightShift, with_commas, after_commas}
use Rattle.ckc_printer.specs.ReadingBack.{AreSigns, none, one, shift}

-- whether the first sign passes; none does where there is no sign
abbrev pub first_is : (TokenKind → Bool) → List Sign → Bool
first_is is [] = false
first_is is (One kind ∷ signs) = is kind
first_is is (RightShift ∷ signs) = is kinds.Greater

pub next_by_sign : {signs : List Sign} {ts : List Token} (is : TokenKind → Bool) → AreSigns signs ts → next_is is ts ≡ first_is is signs
next_by_sign is none = refl
next_by_sign is (one b h) = refl
next_by_sign is (shift t b h) = refl

-- The tokens from here spell a form that is this one but for its spans. The tokens behind it are these signs.
pub record Read {A : Type 0} (bare : A → A) (spells : A → List Token → Type 0) (form : A) (more : List Sign) : Type 0 where
  pub tree : A
  pub rest : List Token
  pub spelled : spells tree rest
  pub same : bare tree ≡ bare form
  pub on : AreSigns more rest

-- a form on some bytes
abbrev pub Somewhere : {A : Type 0} → (A → Span → List Token → Type 0) → A → List Token → Type 0
Somewhere spells tree rest = (o : Span) × spells tree o rest

-- a form and a token of this kind behind it
abbrev pub Ending : {A : Type 0} → TokenKind → (A → List Token → Type 0) → A → List Token → Type 0
Ending k spells tree rest = (t : Span) × spells tree (token k t ∷ rest)

ended_by : {A : Type 0} {bare : A → A} {form : A} {k : TokenKind} {more : List Sign} {rest : List Token} (spells : A → List Token → Type 0) (tree : A) → spells tree rest → bare tree ≡ bare form → AreSigns (One k ∷ more) rest
    → Read bare (Ending k spells) form more
ended_by spells tree d same (one {s} {ts} b h) = record { tree = tree; rest = ts; spelled = (s, d); same = same; on = h }

pub ended : {A : Type 0} {bare : A → A} {spells : A → List Token → Type 0} {form : A} {k : TokenKind} {more : List Sign} → Read bare spells form (One k ∷ more) → Read bare (Ending k spells) form more
ended {spells} x = ended_by spells x.tree x.spelled x.same x.on

-- the signs of a part, and those behind it
pub part : (first others more : List Sign) {ts : List Token} → AreSigns ((first ++ others) ++ more) ts → AreSigns (first ++ (others ++ more)) ts
part first others more h = rw append_assoc at h

-- what may stand behind an expression
pub data Ends : List Sign → Type 0 where
  paren : {more : List Sign} → Ends (One kinds.CloseParen ∷ more)
  bracket : {more : List Sign} → Ends (One kinds.CloseBracket ∷ more)
  comma : {more : List Sign} → Ends (One kinds.Comma ∷ more)
  semicolon : {more : List Sign} → Ends (One kinds.Semicolon ∷ more)

pub is_other : {more : List Sign} (is : TokenKind → Bool) → is kinds.CloseParen ≡ false → is kinds.CloseBracket ≡ false → is kinds.Comma ≡ false → is kinds.Semicolon ≡ false → Ends more → first_is is more ≡ false
is_other is p b c s paren = p
is_other is p b c s bracket = b
is_other is p b c s comma = c
is_other is p b c s semicolon = s

-- ---- lists with commas between

abbrev pub IsFilled : {A : Type 0} → List A → Type 0
IsFilled [] = ⊥
IsFilled (x ∷ xs) = Unit {0}

-- behind one of a list the others stand behind a comma
pub next_listed : {A : Type 0} (pieces : A → List Sign) (first : List Sign) (others : List A) (more : List Sign) {ts : List Token} → IsFilled others
    → AreSigns ((first ++ after_commas pieces others) ++ more) ts → AreSigns (first ++ One kinds.Comma ∷ (with_commas pieces others ++ more)) ts
next_listed pieces first [] more f h = elim f [ ]
next_listed pieces first (x ∷ xs) more f h = part first _ more h
