-- The smallest expressions as forms that are built of others, by their first token.
use Rattle.std.proofs.Common.{◌≡◌, ℕ, Bool, true, false, List, ◌∷◌, refl, sym, subst, ◌∙◌, Some}
use Rattle.ckc_text.specs.declared.place.Span.{Span}
use Rattle.ckc_lexer.specs.declared.token.Token.{Token}
use Rattle.ckc_lexer.specs.declared.token.TokenKind.{TokenKind}
use Rattle.ckc_lexer.specs.declared.keyword.Keyword.TheVariants as keywords
use Rattle.ckc_lexer.specs.declared.token.TokenKind.TheVariants as kinds
use Rattle.ckc_tree.specs.declared.expr.CastWord.{CastWord}
use Rattle.ckc_tree.specs.declared.expr.MallocWord.{MallocWord}
use Rattle.ckc_tree.specs.declared.expr.CallocWord.{CallocWord}
use Rattle.ckc_tree.specs.Types.{TypeName}
use Rattle.ckc_tree.specs.Expressions.{Expression, Expressions, Bounds}
use Rattle.ckc_tree.specs.Heights.{Reach, nowhere, node, around, ◌beside◌, type_reach, expression_reach, expressions_reach, bounds_reach}
use Rattle.ckc_parser_grammar.specs.Tokens.{token, next_is, open_paren, comma, cast_word_of, malloc_word_of, calloc_word_of}
use Rattle.ckc_parser_grammar.specs.TypeGrammar.{SpellsAngled}
use Rattle.ckc_parser_grammar.specs.ExpressionGrammar as g
use Rattle.ckc_parser_grammar.specs.ExpressionGrammar.{SpellsBinary, SpellsPrimary, SpellsArguments, SpellsMoreArguments, SpellsBounds}
use Rattle.ckc_parser_grammar.specs.TypeBeginnings.{BeginsTypeName, BeginsAngled}
use Rattle.ckc_parser_grammar.specs.ExpressionBeginnings as b
use Rattle.ckc_parser_grammar.specs.ExpressionBeginnings.{BeginsBinary, BeginsPrimary, BeginsArguments, BeginsMoreArguments, BeginsBounds}
use Rattle.ckc_parser_grammar.proofs.Whole.{binary_begins}
use Rattle.ckc_parser_grammar.proofs.ExpressionPaths.{no_binary}
use Rattle.ckc_parser_grammar.proofs.Forms.{Is, it, ExactBelow, below, within, SeqS, SeqB, seq, in_first, in_second, seq_exact, EndedS, EndedB, before_end, end, ended_exact, AfterS, AfterB, not_yet, after, after_exact, NodeS, node_exact, DoneS, done, done_exact, EitherS, yes, no, either_exact, HeadS, HeadB, none_yet, headed, OneHead}
use Rattle.ckc_parser_grammar.proofs.Forms as forms
use Rattle.ckc_parser_grammar.proofs.Paths.{beside_nowhere}
use Rattle.ckc_parser_grammar.proofs.TypeForms.{TypeNameS, named, AngledS, angled, type_name_exact, angled_exact}
use Rattle.ckc_parser_grammar.proofs.ExpressionLinks.{BinaryS, binary}
use Rattle.ckc_parser_grammar.proofs.OneMeaning.{each_cast_word, each_malloc_word, each_calloc_word}

pub data PrimaryS : List Token → List Token → Reach → Type 0 where
  primary : {e : Expression} {o : Span} {ts m : List Token} → SpellsPrimary ts e o m → PrimaryS ts m (expression_reach e)

pub data ArgumentsS : List Token → List Token → Reach → Type 0 where
  arguments : {es : Expressions} {t : Span} {ts m : List Token} → SpellsArguments ts es t m → ArgumentsS ts m (expressions_reach es)

pub data MoreS : List Token → List Token → Reach → Type 0 where
  more : {es : Expressions} {t : Span} {ts m : List Token} → SpellsMoreArguments ts es t m → MoreS ts m (expressions_reach es)

pub data MoreB : List Token → List Token → Reach → Type 0 where
  nothing_more : {ts : List Token} → MoreB ts ts nowhere
  more : {ts rest : List Token} {q : Reach} → BeginsMoreArguments ts rest q → MoreB ts rest q

pub data BoundsS : List Token → List Token → Reach → Type 0 where
  written : {w : Bounds} {o : Span} {ts m : List Token} → SpellsBounds ts w o m → BoundsS ts m (bounds_reach w)

-- ---- what a first token begins

pub data Head : Type 0 where
  literal : Head
  named_one : Head
  parenthesis : Head
  size : Head
  casting : Head
  mallocs : Head
  callocs : Head

pub data IsHead : TokenKind → Head → Type 0 where
  number : {n : ℕ} → IsHead (kinds.Number n) literal
  character : {n : ℕ} → IsHead (kinds.Character n) literal
  text : {x : List ℕ} → IsHead (kinds.Text x) literal
  name : {x : List ℕ} → IsHead (kinds.Name x) named_one
  paren : IsHead kinds.OpenParen parenthesis
  sizeof : IsHead (kinds.Keyword keywords.Sizeof) size
  cast : {k : TokenKind} {w : CastWord} → cast_word_of k ≡ Some w → IsHead k casting
  malloc : {k : TokenKind} {w : MallocWord} → malloc_word_of k ≡ Some w → IsHead k mallocs
  calloc : {k : TokenKind} {w : CallocWord} → calloc_word_of k ≡ Some w → IsHead k callocs

abbrev head_of : TokenKind → Head
head_of (kinds.Name x) = named_one
head_of kinds.OpenParen = parenthesis
head_of (kinds.Keyword keywords.Sizeof) = size
head_of (kinds.Keyword keywords.DynamicBoundsCast) = casting
head_of (kinds.Keyword keywords.AssumeBoundsCast) = casting
head_of (kinds.Keyword keywords.Malloc) = mallocs
head_of (kinds.Keyword keywords.TMalloc) = mallocs
head_of (kinds.Keyword keywords.Calloc) = callocs
head_of (kinds.Keyword keywords.NtCalloc) = callocs
head_of _ = literal

head_is : {k : TokenKind} {h : Head} → IsHead k h → head_of k ≡ h
head_is number = refl
head_is character = refl
head_is text = refl
head_is name = refl
head_is paren = refl
head_is sizeof = refl
head_is (cast {k} w) = each_cast_word (λ k. head_of k ≡ casting) k w refl refl
head_is (malloc {k} w) = each_malloc_word (λ k. head_of k ≡ mallocs) k w refl refl
head_is (calloc {k} w) = each_calloc_word (λ k. head_of k ≡ callocs) k w refl refl

pub one_head : OneHead IsHead
one_head k h i a b = sym (head_is a) ∙ head_is b

-- ---- what stands behind it

-- the type in angle brackets and the operand
abbrev pub TypedS : List Token → List Token → Reach → Type 0
TypedS = SeqS AngledS (BinaryS 10)

abbrev pub TypedB : List Token → List Token → Reach → Type 0
TypedB = SeqB AngledS BeginsAngled (BeginsBinary 10)

-- what ends a cast: bounds behind a comma, and a parenthesis
abbrev pub CastEndS : List Token → List Token → Reach → Type 0
CastEndS = EitherS (next_is comma) (AfterS (Is kinds.Comma) (EndedS (Is kinds.CloseParen) BoundsS)) (AfterS (Is kinds.CloseParen) DoneS)

abbrev pub CastEndB : List Token → List Token → Reach → Type 0
CastEndB = EitherS (next_is comma) (AfterB (Is kinds.Comma) (EndedB (Is kinds.CloseParen) BoundsS BeginsBounds)) (AfterB (Is kinds.CloseParen) DoneS)

abbrev pub BehindS : Head → ℕ → List Token → List Token → Reach → Type 0
BehindS literal start = NodeS start DoneS
BehindS named_one start = NodeS start (EitherS (next_is open_paren) (AfterS (Is kinds.OpenParen) ArgumentsS) DoneS)
BehindS parenthesis start = EndedS (Is kinds.CloseParen) (BinaryS 10)
BehindS size start = NodeS start (AfterS (Is kinds.OpenParen) (EndedS (Is kinds.CloseParen) TypeNameS))
BehindS casting start = NodeS start (SeqS TypedS CastEndS)
BehindS mallocs start = NodeS start (EndedS (Is kinds.CloseParen) TypedS)
BehindS callocs start = NodeS start (EndedS (Is kinds.CloseParen) (SeqS (EndedS (Is kinds.Comma) TypedS) (BinaryS 10)))

abbrev pub BehindB : Head → ℕ → List Token → List Token → Reach → Type 0
BehindB literal start = NodeS start DoneS
BehindB named_one start = NodeS start (EitherS (next_is open_paren) (AfterB (Is kinds.OpenParen) BeginsArguments) DoneS)
BehindB parenthesis start = EndedB (Is kinds.CloseParen) (BinaryS 10) (BeginsBinary 10)
BehindB size start = NodeS start (AfterB (Is kinds.OpenParen) (EndedB (Is kinds.CloseParen) TypeNameS BeginsTypeName))
BehindB casting start = NodeS start (SeqB TypedS TypedB CastEndB)
BehindB mallocs start = NodeS start (EndedB (Is kinds.CloseParen) TypedS TypedB)
BehindB callocs start = NodeS start (EndedB (Is kinds.CloseParen) (SeqS (EndedS (Is kinds.Comma) TypedS) (BinaryS 10)) (SeqB (EndedS (Is kinds.Comma) TypedS) (EndedB (Is kinds.Comma) TypedS TypedB) (BeginsBinary 10)))

-- with nothing read behind the first token
abbrev pub base : Head → ℕ → Reach
base parenthesis start = nowhere
base h start = node start

pub typed_below : {n : ℕ} → ExactBelow n nowhere (BinaryS 10) (BeginsBinary 10) → ExactBelow n nowhere TypedS TypedB
typed_below e = seq_exact (below angled_exact) e

pub cast_end_below : {n : ℕ} → ExactBelow n nowhere BoundsS BeginsBounds → ExactBelow n nowhere CastEndS CastEndB
cast_end_below e = either_exact (within (after_exact (ended_exact e))) (within (after_exact done_exact))

pub behind_below : {n : ℕ} → ExactBelow n nowhere (BinaryS 10) (BeginsBinary 10) → ExactBelow n nowhere ArgumentsS BeginsArguments → ExactBelow n nowhere BoundsS BeginsBounds → (h : Head) (start : ℕ) → ExactBelow n (base h start) (BehindS h start) (BehindB h start)
behind_below e a w literal start = node_exact done_exact
behind_below e a w named_one start = node_exact (either_exact (within (after_exact a)) done_exact)
behind_below e a w parenthesis start = ended_exact e
behind_below e a w size start = node_exact (within (after_exact (ended_exact (below type_name_exact))))
behind_below e a w casting start = node_exact (seq_exact (typed_below e) (cast_end_below w))
behind_below e a w mallocs start = node_exact (ended_exact (typed_below e))
behind_below e a w callocs start = node_exact (ended_exact (seq_exact (ended_exact (typed_below e)) e))

-- ---- spelled and begun

pub typed : {ts us m : List Token} {t : TypeName} {e : Expression} {o : Span} → SpellsAngled ts t us → SpellsBinary 10 us e o m → TypedS ts m (type_reach t.base beside expression_reach e)
typed a d = seq (angled a) (binary d)

cast_s : {ts us m : List Token} {t : Span} {type : TypeName} {e : Expression} {o : Span} → SpellsAngled ts type us → SpellsBinary 10 us e o (token kinds.CloseParen t ∷ m) → SeqS TypedS CastEndS ts m (type_reach type.base beside expression_reach e)
cast_s {ts} {m} {type} {e} a d = subst (SeqS TypedS CastEndS ts m) (beside_nowhere (type_reach type.base beside expression_reach e)) (seq (typed a d) (no refl (after it done)))

cast_b : {ts us m : List Token} {t : Span} {type : TypeName} {e : Expression} {o : Span} → SpellsAngled ts type us → SpellsBinary 10 us e o (token kinds.CloseParen t ∷ m) → SeqB TypedS TypedB CastEndB ts m (type_reach type.base beside expression_reach e)
cast_b {ts} {m} {type} {e} a d = subst (SeqB TypedS TypedB CastEndB ts m) (beside_nowhere (type_reach type.base beside expression_reach e)) (in_second (typed a d) (no refl (after it done)))

pub more_begin : {es : Expressions} {t : Span} {ts m : List Token} → SpellsMoreArguments ts es t m → BeginsMoreArguments ts m (expressions_reach es)
more_begin g.no_other = b.no_other
more_begin (g.other d m) = b.still_others d (more_begin m)

pub arguments_begin : {es : Expressions} {t : Span} {ts m : List Token} → SpellsArguments ts es t m → BeginsArguments ts m (expressions_reach es)
arguments_begin g.no_argument = b.no_argument
arguments_begin (g.argument d m) = b.others d (more_begin m)

pub to_s : (ts m : List Token) (r : Reach) → PrimaryS ts m r → HeadS IsHead BehindS ts m r
to_s ts m r (primary g.number) = headed number (forms.node done)
to_s ts m r (primary g.character) = headed character (forms.node done)
to_s ts m r (primary g.text) = headed text (forms.node done)
to_s ts m r (primary (g.name f)) = headed name (forms.node (no f done))
to_s ts m r (primary (g.called (g.call a))) = headed name (forms.node (yes refl (after it (arguments a))))
to_s ts m r (primary (g.parentheses d)) = headed paren (end (binary d) it)
to_s ts m r (primary (g.size_of d)) = headed sizeof (forms.node (after it (end (named d) it)))
to_s ts m r (primary (g.cast w a d)) = headed (cast w) (forms.node (cast_s a d))
to_s ts m r (primary (g.bounded_cast w a d x)) = headed (cast w) (forms.node (seq (typed a d) (yes refl (after it (end (written x) it)))))
to_s ts m r (primary (g.malloc w a d)) = headed (malloc w) (forms.node (end (typed a d) it))
to_s ts m r (primary (g.calloc w a d x)) = headed (calloc w) (forms.node (end (seq (end (typed a d) it) (binary x)) it))

pub primary_begins : (ts m : List Token) (r : Reach) → PrimaryS ts m r → BeginsPrimary ts m r
primary_begins ts m r (primary g.number) = b.number
primary_begins ts m r (primary g.character) = b.character
primary_begins ts m r (primary g.text) = b.text
primary_begins ts m r (primary (g.name f)) = b.name
primary_begins ts m r (primary (g.called (g.call a))) = b.call (b.arguments (arguments_begin a))
primary_begins ts m r (primary (g.parentheses d)) = b.parentheses d
primary_begins ts m r (primary (g.size_of d)) = b.size_of d
primary_begins ts m r (primary (g.cast w a d)) = b.cast w a d
primary_begins ts m r (primary (g.bounded_cast w a d x)) = b.bounded_cast w a d x
primary_begins ts m r (primary (g.malloc w a d)) = b.malloc w a d
primary_begins ts m r (primary (g.calloc w a d x)) = b.calloc w a d x

-- a name, whatever stands behind it
pub name_alone : (ts : List Token) → EitherS (next_is open_paren) (AfterB (Is kinds.OpenParen) BeginsArguments) DoneS ts ts nowhere
name_alone ts = by_test (next_is open_paren ts) refl
  where
    by_test : (so : Bool) → next_is open_paren ts ≡ so → EitherS (next_is open_paren) (AfterB (Is kinds.OpenParen) BeginsArguments) DoneS ts ts nowhere
    by_test true so = yes so not_yet
    by_test false so = no so done

pub into_b : (ts rest : List Token) (q : Reach) → BeginsPrimary ts rest q → HeadB IsHead BehindB ts rest q
into_b ts rest q b.nothing = none_yet
into_b ts rest q b.number = headed number (forms.node done)
into_b ts rest q b.character = headed character (forms.node done)
into_b ts rest q b.text = headed text (forms.node done)
into_b ts rest q b.name = headed name (forms.node (name_alone rest))
into_b ts rest q (b.call b.callee) = headed name (forms.node (name_alone rest))
into_b ts rest q (b.call (b.arguments c)) = headed name (forms.node (yes refl (after it c)))
into_b ts rest q (b.inside c) = headed paren (before_end c)
into_b ts rest q (b.parentheses d) = headed paren (end (binary d) it)
into_b ts rest q b.size_of_word = headed sizeof (forms.node not_yet)
into_b ts rest q (b.size_of_type c) = headed sizeof (forms.node (after it (before_end c)))
into_b ts rest q (b.size_of d) = headed sizeof (forms.node (after it (end (named d) it)))
into_b ts rest q (b.cast_type w c) = headed (cast w) (forms.node (in_first (in_first c)))
into_b ts rest q (b.cast_operand w a c) = headed (cast w) (forms.node (in_first (in_second (angled a) c)))
into_b ts rest q (b.cast w a d) = headed (cast w) (forms.node (cast_b a d))
into_b ts rest q (b.cast_bounds w a d c) = headed (cast w) (forms.node (in_second (typed a d) (yes refl (after it (before_end c)))))
into_b ts rest q (b.bounded_cast w a d x) = headed (cast w) (forms.node (in_second (typed a d) (yes refl (after it (end (written x) it)))))
into_b ts rest q (b.malloc_type w c) = headed (malloc w) (forms.node (before_end (in_first c)))
into_b ts rest q (b.malloc_size w a c) = headed (malloc w) (forms.node (before_end (in_second (angled a) c)))
into_b ts rest q (b.malloc w a d) = headed (malloc w) (forms.node (end (typed a d) it))
into_b ts rest q (b.calloc_type w c) = headed (calloc w) (forms.node (before_end (in_first (before_end (in_first c)))))
into_b ts rest q (b.calloc_count w a c) = headed (calloc w) (forms.node (before_end (in_first (before_end (in_second (angled a) c)))))
into_b ts rest q (b.calloc_size w a d c) = headed (calloc w) (forms.node (before_end (in_second (end (typed a d) it) c)))
into_b ts rest q (b.calloc w a d x) = headed (calloc w) (forms.node (end (seq (end (typed a d) it) (binary x)) it))

-- the reach of a form with nothing behind it
pub with_nothing : (F : Reach → Type 0) (p : Reach) → F p → F (p beside nowhere)
with_nothing F p f = subst F (sym (beside_nowhere p)) f

operand_alone : {k : TokenKind} {s : Span} {w : CastWord} {ts us mid : List Token} {t : TypeName} {e : Expression} {o : Span} → cast_word_of k ≡ Some w → SpellsAngled ts t us → SpellsBinary 10 us e o mid → BeginsPrimary (token k s ∷ ts) mid (around s.from ((type_reach t.base beside expression_reach e) beside nowhere))
operand_alone {k} {s} {ts} {mid} {t} {e} w a d = with_nothing (λ x. BeginsPrimary (token k s ∷ ts) mid (around s.from x)) (type_reach t.base beside expression_reach e) (b.cast_operand w a (binary_begins d))

pub from_b : (ts rest : List Token) (q : Reach) → HeadB IsHead BehindB ts rest q → BeginsPrimary ts rest q
from_b ts rest q none_yet = b.nothing
from_b ts rest q (headed number (forms.node done)) = b.number
from_b ts rest q (headed character (forms.node done)) = b.character
from_b ts rest q (headed text (forms.node done)) = b.text
from_b ts rest q (headed name (forms.node (no f done))) = b.name
from_b ts rest q (headed name (forms.node (yes f not_yet))) = b.name
from_b ts rest q (headed name (forms.node (yes f (after it c)))) = b.call (b.arguments c)
from_b ts rest q (headed paren (before_end c)) = b.inside c
from_b ts rest q (headed paren (end (binary d) it)) = b.parentheses d
from_b ts rest q (headed sizeof (forms.node not_yet)) = b.size_of_word
from_b ts rest q (headed sizeof (forms.node (after it (before_end c)))) = b.size_of_type c
from_b ts rest q (headed sizeof (forms.node (after it (end (named d) it)))) = b.size_of d
from_b ts rest q (headed (cast w) (forms.node (in_first (in_first c)))) = b.cast_type w c
from_b ts rest q (headed (cast w) (forms.node (in_first (in_second (angled a) c)))) = b.cast_operand w a c
from_b ts rest q (headed (cast w) (forms.node (in_second (seq (angled a) (binary d)) (yes f not_yet)))) = operand_alone w a d
from_b ts rest q (headed (cast w) (forms.node (in_second (seq (angled a) (binary d)) (yes f (after it (before_end c)))))) = b.cast_bounds w a d c
from_b ts rest q (headed (cast w) (forms.node (in_second (seq (angled a) (binary d)) (yes f (after it (end (written x) it)))))) = b.bounded_cast w a d x
from_b ts rest q (headed (cast w) (forms.node (in_second (seq (angled a) (binary d)) (no f not_yet)))) = operand_alone w a d
from_b ts rest q (headed {s} (cast w) (forms.node (in_second (seq (angled {t} a) (binary {e} d)) (no f (after it done))))) =
    with_nothing (λ x. BeginsPrimary ts rest (around s.from x)) (type_reach t.base beside expression_reach e) (b.cast w a d)
from_b ts rest q (headed (malloc w) (forms.node (before_end (in_first c)))) = b.malloc_type w c
from_b ts rest q (headed (malloc w) (forms.node (before_end (in_second (angled a) c)))) = b.malloc_size w a c
from_b ts rest q (headed (malloc w) (forms.node (end (seq (angled a) (binary d)) it))) = b.malloc w a d
from_b ts rest q (headed (calloc w) (forms.node (before_end (in_first (before_end (in_first c)))))) = b.calloc_type w c
from_b ts rest q (headed (calloc w) (forms.node (before_end (in_first (before_end (in_second (angled a) c)))))) = b.calloc_count w a c
from_b ts rest q (headed {s} (calloc w) (forms.node (before_end (in_first (end (seq (angled {t} a) (binary {e} d)) it))))) =
    subst (λ (x : Reach). BeginsPrimary ts rest (around s.from x)) (beside_nowhere (type_reach t.base beside expression_reach e)) (b.calloc_size w a d (no_binary 10))
from_b ts rest q (headed (calloc w) (forms.node (before_end (in_second (end (seq (angled a) (binary d)) it) c)))) = b.calloc_size w a d c
from_b ts rest q (headed (calloc w) (forms.node (end (seq (end (seq (angled a) (binary d)) it) (binary x)) it))) = b.calloc w a d x
