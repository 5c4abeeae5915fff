-- Words and marks that say one thing each: what holds of each of them holds of a token that is one.
use Rattle.std.proofs.Common.{◌≡◌, ℕ, true, false, Option, Some, None, refl, sym, ◌∙◌}
use Rattle.std.proofs.lemmas.Option.{same_Some, none-some}
use Rattle.std.specs.Option.{is_some}
use Rattle.ckc_lexer.specs.declared.token.TokenKind.{TokenKind}
use Rattle.ckc_lexer.specs.declared.keyword.Keyword.TheVariants as keywords
use Rattle.ckc_lexer.specs.declared.token.TokenKind.TheVariants as kinds
use Rattle.ckc_tree.specs.declared.type_form.PointerWord.{PointerWord}
use Rattle.ckc_tree.specs.declared.expr.UnaryOperator.{UnaryOperator}
use Rattle.ckc_tree.specs.declared.expr.CastWord.{CastWord}
use Rattle.ckc_tree.specs.declared.expr.MallocWord.{MallocWord}
use Rattle.ckc_tree.specs.declared.expr.CallocWord.{CallocWord}
use Rattle.ckc_tree.specs.declared.stmt.Constant.{Constant}
use Rattle.ckc_tree.specs.declared.stmt.Mark.{Mark}
use Rattle.ckc_tree.specs.declared.stmt.StoreOperator.{StoreOperator}
use Rattle.ckc_tree.specs.declared.stmt.StepOperator.{StepOperator}
use Rattle.ckc_parser_grammar.specs.Tokens.{pointer_word_of, unary_operator_of, cast_word_of, malloc_word_of, calloc_word_of, mark_of, store_operator_of, step_operator_of, constant_of}
use Rattle.ckc_parser_grammar.specs.StuckTypes.{type_word}
use Rattle.ckc_parser_grammar.specs.StuckItems.{struct_word}

-- ---- one thing at most

pub same_word : {W : Type 0} {x : Option W} {v w : W} → x ≡ Some v → x ≡ Some w → v ≡ w
same_word a b = same_Some _ _ (sym a ∙ b)

pub says_nothing : {W A : Type 0} {w : W} → ◌≡◌ {A = Option W} None (Some w) → A
says_nothing e = absurd (none-some _ e)

pub some_word : {W : Type 0} (x : Option W) → is_some x ≡ true → (w : W) × (x ≡ Some w)
some_word None so = absurd cc
some_word (Some w) so = (w, refl)

-- ---- word by word

pub each_pointer_word : (P : TokenKind → Type 0) (k : TokenKind) {w : PointerWord} → pointer_word_of k ≡ Some w → P (kinds.Keyword keywords.Ptr) → P (kinds.Keyword keywords.ArrayPtr) → P (kinds.Keyword keywords.NtArrayPtr) → P (kinds.Keyword keywords.TPtr) → P (kinds.Keyword keywords.TArrayPtr) → P (kinds.Keyword keywords.TNtArrayPtr) → P k
each_pointer_word P (kinds.Keyword keywords.Ptr) is a b c d e f = a
each_pointer_word P (kinds.Keyword keywords.ArrayPtr) is a b c d e f = b
each_pointer_word P (kinds.Keyword keywords.NtArrayPtr) is a b c d e f = c
each_pointer_word P (kinds.Keyword keywords.TPtr) is a b c d e f = d
each_pointer_word P (kinds.Keyword keywords.TArrayPtr) is a b c d e f = e
each_pointer_word P (kinds.Keyword keywords.TNtArrayPtr) is a b c d e f = f
each_pointer_word P _ is a b c d e f = says_nothing is

pub each_unary_operator : (P : TokenKind → Type 0) (k : TokenKind) {w : UnaryOperator} → unary_operator_of k ≡ Some w → P kinds.Star → P kinds.Ampersand → P kinds.Minus → P kinds.Not → P kinds.Tilde → P k
each_unary_operator P kinds.Star is a b c d e = a
each_unary_operator P kinds.Ampersand is a b c d e = b
each_unary_operator P kinds.Minus is a b c d e = c
each_unary_operator P kinds.Not is a b c d e = d
each_unary_operator P kinds.Tilde is a b c d e = e
each_unary_operator P _ is a b c d e = says_nothing is

pub each_cast_word : (P : TokenKind → Type 0) (k : TokenKind) {w : CastWord} → cast_word_of k ≡ Some w → P (kinds.Keyword keywords.DynamicBoundsCast) → P (kinds.Keyword keywords.AssumeBoundsCast) → P k
each_cast_word P (kinds.Keyword keywords.DynamicBoundsCast) is a b = a
each_cast_word P (kinds.Keyword keywords.AssumeBoundsCast) is a b = b
each_cast_word P _ is a b = says_nothing is

pub each_malloc_word : (P : TokenKind → Type 0) (k : TokenKind) {w : MallocWord} → malloc_word_of k ≡ Some w → P (kinds.Keyword keywords.Malloc) → P (kinds.Keyword keywords.TMalloc) → P k
each_malloc_word P (kinds.Keyword keywords.Malloc) is a b = a
each_malloc_word P (kinds.Keyword keywords.TMalloc) is a b = b
each_malloc_word P _ is a b = says_nothing is

pub each_calloc_word : (P : TokenKind → Type 0) (k : TokenKind) {w : CallocWord} → calloc_word_of k ≡ Some w → P (kinds.Keyword keywords.Calloc) → P (kinds.Keyword keywords.NtCalloc) → P k
each_calloc_word P (kinds.Keyword keywords.Calloc) is a b = a
each_calloc_word P (kinds.Keyword keywords.NtCalloc) is a b = b
each_calloc_word P _ is a b = says_nothing is

pub each_mark : (P : TokenKind → Type 0) (k : TokenKind) {w : Mark} → mark_of k ≡ Some w → P (kinds.Keyword keywords.Checked) → P (kinds.Keyword keywords.Unchecked) → P k
each_mark P (kinds.Keyword keywords.Checked) is a b = a
each_mark P (kinds.Keyword keywords.Unchecked) is a b = b
each_mark P _ is a b = says_nothing is

pub each_store_operator : (P : TokenKind → Type 0) (k : TokenKind) {w : StoreOperator} → store_operator_of k ≡ Some w → P kinds.Equal → P kinds.PlusEqual → P kinds.MinusEqual → P k
each_store_operator P kinds.Equal is a b c = a
each_store_operator P kinds.PlusEqual is a b c = b
each_store_operator P kinds.MinusEqual is a b c = c
each_store_operator P _ is a b c = says_nothing is

pub each_step_operator : (P : TokenKind → Type 0) (k : TokenKind) {w : StepOperator} → step_operator_of k ≡ Some w → P kinds.PlusPlus → P kinds.MinusMinus → P k
each_step_operator P kinds.PlusPlus is a b = a
each_step_operator P kinds.MinusMinus is a b = b
each_step_operator P _ is a b = says_nothing is

pub each_constant : (P : TokenKind → Type 0) (k : TokenKind) {c : Constant} → constant_of k ≡ Some c → ((n : ℕ) → P (kinds.Number n)) → ((n : ℕ) → P (kinds.Character n)) → P k
each_constant P (kinds.Number n) is a b = a n
each_constant P (kinds.Character n) is a b = b n
each_constant P _ is a b = says_nothing is

-- ---- what the words are

pub pointer_is : (k : TokenKind) {w : PointerWord} → pointer_word_of k ≡ Some w → type_word k ≡ true
pointer_is k w = each_pointer_word (λ k. type_word k ≡ true) k w refl refl refl refl refl refl

pub pointer_struct : (k : TokenKind) {w : PointerWord} → pointer_word_of k ≡ Some w → struct_word k ≡ false
pointer_struct k w = each_pointer_word (λ k. struct_word k ≡ false) k w refl refl refl refl refl refl

-- what stores is no step
pub store_step : (k : TokenKind) {v : StoreOperator} {w : StepOperator} {A : Type 0} → store_operator_of k ≡ Some v → step_operator_of k ≡ Some w → A
store_step k v w = says_nothing (sym (each_store_operator (λ k. step_operator_of k ≡ None) k v refl refl refl) ∙ w)
