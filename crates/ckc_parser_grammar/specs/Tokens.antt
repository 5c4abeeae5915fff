-- Tokens as the grammar reads them: the words and marks that say one thing each, and a look at the next token.
use Rattle.std.specs.Prelude.{ℕ, nat_eq, Bool, true, false, List, [], ◌∷◌, Option, Some, None}
use Rattle.std.specs.Option.{is_some}
use Rattle.ckc_text.specs.declared.place.Span.{Span}
use Rattle.ckc_lexer.specs.declared.token.Token.{Token}
use Rattle.ckc_lexer.specs.declared.token.TokenKind.{TokenKind}
use Rattle.ckc_lexer.specs.declared.keyword.Keyword.TheVariants as keywords
use Rattle.ckc_lexer.specs.declared.token.TokenKind.TheVariants as kinds
use Rattle.ckc_tree.specs.declared.identifier.Identifier.{Identifier}
use Rattle.ckc_tree.specs.declared.type_form.PointerWord.{PointerWord}
use Rattle.ckc_tree.specs.declared.type_form.PointerMode.TheVariants as modes
use Rattle.ckc_tree.specs.declared.type_form.PointerKind.TheVariants as counts
use Rattle.ckc_tree.specs.declared.expr.UnaryOperator.{UnaryOperator}
use Rattle.ckc_tree.specs.declared.expr.UnaryOperator.TheVariants as unary
use Rattle.ckc_tree.specs.declared.expr.BinaryOperator.{BinaryOperator}
use Rattle.ckc_tree.specs.declared.expr.BinaryOperator.TheVariants as binary
use Rattle.ckc_tree.specs.declared.expr.CastWord.{CastWord}
use Rattle.ckc_tree.specs.declared.expr.CastWord.TheVariants as casts
use Rattle.ckc_tree.specs.declared.expr.MallocWord.{MallocWord}
use Rattle.ckc_tree.specs.declared.expr.MallocWord.TheVariants as mallocs
use Rattle.ckc_tree.specs.declared.expr.CallocWord.{CallocWord}
use Rattle.ckc_tree.specs.declared.expr.CallocWord.TheVariants as callocs
use Rattle.ckc_tree.specs.declared.stmt.Mark.{Mark}
use Rattle.ckc_tree.specs.declared.stmt.Mark.TheVariants as marks
use Rattle.ckc_tree.specs.declared.stmt.ArrayKind.{ArrayKind}
use Rattle.ckc_tree.specs.declared.stmt.ArrayKind.TheVariants as arrays
use Rattle.ckc_tree.specs.declared.stmt.StoreOperator.{StoreOperator}
use Rattle.ckc_tree.specs.declared.stmt.StoreOperator.TheVariants as stores
use Rattle.ckc_tree.specs.declared.stmt.Constant.{Constant}
use Rattle.ckc_tree.specs.declared.stmt.Constant.TheVariants as constants
use Rattle.ckc_tree.specs.declared.stmt.StepOperator.{StepOperator}
use Rattle.ckc_tree.specs.declared.stmt.StepOperator.TheVariants as steps

-- a token
abbrev pub token : TokenKind → Span → Token
token kind span = record { kind = kind; span = span }

-- from the start of the first to the end of the last
abbrev pub join : Span → Span → Span
join first last = record { from = first.from; to = last.to }

-- a name with its span
abbrev pub identifier : List ℕ → Span → Identifier
identifier name span = record { name = name; number = 0; span = span }

-- where the tokens start
abbrev pub start_of : List Token → ℕ
start_of [] = 0
start_of (t ∷ ts) = t.span.from

-- from where the tokens start to the end of a span
abbrev pub from_first : List Token → Span → Span
from_first ts last = record { from = start_of ts; to = last.to }

-- ---- words and marks that say one thing each

-- what a pointer word says
abbrev pub pointer_word_of : TokenKind → Option PointerWord
pointer_word_of (kinds.Keyword keywords.Ptr) = Some (record { mode = modes.Checked; kind = counts.One })
pointer_word_of (kinds.Keyword keywords.ArrayPtr) = Some (record { mode = modes.Checked; kind = counts.Array })
pointer_word_of (kinds.Keyword keywords.NtArrayPtr) = Some (record { mode = modes.Checked; kind = counts.NullTerminated })
pointer_word_of (kinds.Keyword keywords.TPtr) = Some (record { mode = modes.Tainted; kind = counts.One })
pointer_word_of (kinds.Keyword keywords.TArrayPtr) = Some (record { mode = modes.Tainted; kind = counts.Array })
pointer_word_of (kinds.Keyword keywords.TNtArrayPtr) = Some (record { mode = modes.Tainted; kind = counts.NullTerminated })
pointer_word_of _ = None

-- the operator that a mark is before an operand, where it is one
abbrev pub unary_operator_of : TokenKind → Option UnaryOperator
unary_operator_of kinds.Star = Some unary.Deref
unary_operator_of kinds.Ampersand = Some unary.AddressOf
unary_operator_of kinds.Minus = Some unary.Negate
unary_operator_of kinds.Not = Some unary.Not
unary_operator_of kinds.Tilde = Some unary.Complement
unary_operator_of _ = None

-- the cast that a word begins
abbrev pub cast_word_of : TokenKind → Option CastWord
cast_word_of (kinds.Keyword keywords.DynamicBoundsCast) = Some casts.Dynamic
cast_word_of (kinds.Keyword keywords.AssumeBoundsCast) = Some casts.Assume
cast_word_of _ = None

-- the allocation of one size that a word begins
abbrev pub malloc_word_of : TokenKind → Option MallocWord
malloc_word_of (kinds.Keyword keywords.Malloc) = Some mallocs.Malloc
malloc_word_of (kinds.Keyword keywords.TMalloc) = Some mallocs.TMalloc
malloc_word_of _ = None

-- the allocation of a count and a size that a word begins
abbrev pub calloc_word_of : TokenKind → Option CallocWord
calloc_word_of (kinds.Keyword keywords.Calloc) = Some callocs.Calloc
calloc_word_of (kinds.Keyword keywords.NtCalloc) = Some callocs.NtCalloc
calloc_word_of _ = None

-- what a word makes of a block or a function
abbrev pub mark_of : TokenKind → Option Mark
mark_of (kinds.Keyword keywords.Checked) = Some marks.Checked
mark_of (kinds.Keyword keywords.Unchecked) = Some marks.Unchecked
mark_of _ = None

-- the array that a word makes of a variable
abbrev pub array_kind_of : TokenKind → Option ArrayKind
array_kind_of (kinds.Keyword keywords.Checked) = Some arrays.Checked
array_kind_of (kinds.Keyword keywords.NtChecked) = Some arrays.NullTerminated
array_kind_of _ = None

-- the operator that a mark is between a target and a value
abbrev pub store_operator_of : TokenKind → Option StoreOperator
store_operator_of kinds.Equal = Some stores.Set
store_operator_of kinds.PlusEqual = Some stores.Add
store_operator_of kinds.MinusEqual = Some stores.Subtract
store_operator_of _ = None

-- the operator that a mark is before or behind a target
abbrev pub step_operator_of : TokenKind → Option StepOperator
step_operator_of kinds.PlusPlus = Some steps.Increment
step_operator_of kinds.MinusMinus = Some steps.Decrement
step_operator_of _ = None

-- the value of a number
abbrev pub number_of : TokenKind → Option ℕ
number_of (kinds.Number n) = Some n
number_of _ = None

-- the value of a number or a character constant
abbrev pub constant_of : TokenKind → Option Constant
constant_of (kinds.Number n) = Some (constants.Number n)
constant_of (kinds.Character n) = Some (constants.Character n)
constant_of _ = None

-- ---- binary operators

-- the binary operator that a mark is, where it is one. A mark `>` is one here; two that touch are looked at below
abbrev pub operator_of : TokenKind → Option BinaryOperator
operator_of kinds.OrOr = Some binary.Or
operator_of kinds.AndAnd = Some binary.And
operator_of kinds.Bar = Some binary.BitOr
operator_of kinds.Caret = Some binary.BitXor
operator_of kinds.Ampersand = Some binary.BitAnd
operator_of kinds.EqualEqual = Some binary.Equal
operator_of kinds.NotEqual = Some binary.NotEqual
operator_of kinds.Less = Some binary.Less
operator_of kinds.LessEqual = Some binary.LessEqual
operator_of kinds.Greater = Some binary.Greater
operator_of kinds.GreaterEqual = Some binary.GreaterEqual
operator_of kinds.ShiftLeft = Some binary.ShiftLeft
operator_of kinds.Plus = Some binary.Add
operator_of kinds.Minus = Some binary.Subtract
operator_of kinds.Star = Some binary.Multiply
operator_of kinds.Slash = Some binary.Divide
operator_of kinds.Percent = Some binary.Remainder
operator_of _ = None

-- how loosely an operator binds: from 1, the tightest, to 10
abbrev pub level : BinaryOperator → ℕ
level binary.Multiply = 1
level binary.Divide = 1
level binary.Remainder = 1
level binary.Add = 2
level binary.Subtract = 2
level binary.ShiftLeft = 3
level binary.ShiftRight = 3
level binary.Less = 4
level binary.LessEqual = 4
level binary.Greater = 4
level binary.GreaterEqual = 4
level binary.Equal = 5
level binary.NotEqual = 5
level binary.BitAnd = 6
level binary.BitXor = 7
level binary.BitOr = 8
level binary.And = 9
level binary.Or = 10

-- the operator, behind which these tokens stand
abbrev pub with_rest : List Token → Option BinaryOperator → Option (BinaryOperator × List Token)
with_rest rest None = None
with_rest rest (Some operator) = Some (operator, rest)

-- a mark `>` that ends at this byte and what stands behind it: a right shift where the next mark is a `>` that touches it
abbrev pub right_shift : Bool → List Token → List Token → Option (BinaryOperator × List Token)
right_shift true rest behind = Some (binary.ShiftRight, behind)
right_shift false rest behind = Some (binary.Greater, rest)

abbrev pub greater_or_shift : ℕ → List Token → List Token → TokenKind → ℕ → Option (BinaryOperator × List Token)
greater_or_shift to rest behind kinds.Greater from = right_shift (nat_eq to from) rest behind
greater_or_shift to rest behind _ from = Some (binary.Greater, rest)

abbrev pub behind_greater : ℕ → List Token → Option (BinaryOperator × List Token)
behind_greater to [] = Some (binary.Greater, [])
behind_greater to (t ∷ ts) = greater_or_shift to (t ∷ ts) ts t.kind t.span.from

abbrev pub operator_with : Span → List Token → TokenKind → Option (BinaryOperator × List Token)
operator_with span rest kinds.Greater = behind_greater span.to rest
operator_with span rest kind = with_rest rest (operator_of kind)

-- the binary operator that the tokens begin with, and the tokens behind it
abbrev pub operator_at : List Token → Option (BinaryOperator × List Token)
operator_at [] = None
operator_at (t ∷ ts) = operator_with t.span ts t.kind

abbrev pub is_of_level : ℕ → Option (BinaryOperator × List Token) → Bool
is_of_level n None = false
is_of_level n (Some found) = nat_eq (level found.0) n

-- an operator of this level stands first
abbrev pub has_operator : ℕ → List Token → Bool
has_operator n ts = is_of_level n (operator_at ts)

-- ---- a look at the next token

abbrev pub next_is : (TokenKind → Bool) → List Token → Bool
next_is is [] = false
next_is is (t ∷ ts) = is t.kind

abbrev pub star : TokenKind → Bool
star kinds.Star = true
star _ = false

abbrev pub open_paren : TokenKind → Bool
open_paren kinds.OpenParen = true
open_paren _ = false

abbrev pub selector : TokenKind → Bool
selector kinds.OpenBracket = true
selector kinds.Dot = true
selector kinds.Arrow = true
selector _ = false

abbrev pub colon : TokenKind → Bool
colon kinds.Colon = true
colon _ = false

abbrev pub equal : TokenKind → Bool
equal kinds.Equal = true
equal _ = false

abbrev pub comma : TokenKind → Bool
comma kinds.Comma = true
comma _ = false

abbrev pub array_word : TokenKind → Bool
array_word kind = is_some (array_kind_of kind)

abbrev pub mark_word : TokenKind → Bool
mark_word kind = is_some (mark_of kind)

abbrev pub kind_word : TokenKind → Bool
kind_word (kinds.Keyword keywords.Tainted) = true
kind_word (kinds.Keyword keywords.Callback) = true
kind_word _ = false

abbrev pub tainted_word : TokenKind → Bool
tainted_word (kinds.Keyword keywords.Tainted) = true
tainted_word _ = false

abbrev pub else_word : TokenKind → Bool
else_word (kinds.Keyword keywords.Else) = true
else_word _ = false
