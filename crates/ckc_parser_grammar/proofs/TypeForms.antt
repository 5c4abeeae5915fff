-- Types as forms that are built of others: reading them goes one way, and where they are stuck they fail.
use Rattle.std.proofs.Common.{◌≡◌, ◌≤◌, ◌<◌, ℕ, zero, suc, length, true, false, List, ◌∷◌, refl, sym, ap, subst, arith, ◌∙◌, Some}
use Rattle.ckc_text.specs.declared.place.Span.{Span}
use Rattle.ckc_lexer.specs.declared.token.Token.{Token}
use Rattle.ckc_lexer.specs.declared.token.TokenKind.{TokenKind}
use Rattle.ckc_lexer.specs.declared.keyword.Keyword.TheVariants as keywords
use Rattle.ckc_lexer.specs.declared.token.TokenKind.TheVariants as kinds
use Rattle.ckc_tree.specs.declared.type_form.PointerWord.{PointerWord}
use Rattle.ckc_tree.specs.Types.{TypeTree, TypeName}
use Rattle.ckc_tree.specs.Heights.{Reach, nowhere, node, around, type_reach}
use Rattle.ckc_parser_grammar.specs.Tokens.{token, next_is, open_paren, pointer_word_of}
use Rattle.ckc_parser_grammar.specs.TypeGrammar as g
use Rattle.ckc_parser_grammar.specs.TypeGrammar.{SpellsStars, SpellsType, SpellsTypeName, SpellsAngled}
use Rattle.ckc_parser_grammar.specs.TypeBeginnings as b
use Rattle.ckc_parser_grammar.specs.TypeBeginnings.{BeginsStars, BeginsType, BeginsTypeName, BeginsAngled}
use Rattle.ckc_parser_grammar.specs.Failures as failures
use Rattle.ckc_parser_grammar.specs.Failures.{Failure}
use Rattle.ckc_parser_grammar.specs.StuckTypes as stuck
use Rattle.ckc_parser_grammar.specs.StuckTypes.{name_token, less, greater, type_word, StuckType, StuckTypeName, StuckAngled}
use Rattle.ckc_parser_grammar.proofs.Forms.{◌ends◌, all, later, Is, it, IsName, name, ExactBelow, Exact, exact_on_all, none_below, within, seq_all, ended_all, after_all, same_all, SeqS, SeqB, seq, in_first, in_second, seq_exact, EndedS, EndedB, before_end, end, ended_exact, AfterS, AfterB, not_yet, after, after_exact, NodeS, node_exact, DoneS, done, done_exact, HeadS, HeadB, none_yet, headed, head_exact, OneHead, same_exact}
use Rattle.ckc_parser_grammar.proofs.Ahead.{never}
use Rattle.ckc_parser_grammar.proofs.Forms as forms
use Rattle.ckc_parser_grammar.proofs.Failing as failing
use Rattle.ckc_parser_grammar.proofs.Paths.{beside_nowhere}
use Rattle.ckc_parser_grammar.proofs.Failing.{Fails, fails_first, fails_before_end, fails_at_end, fails_after, fails_at_first, fails_node, fails_as, fails_headed, fails_unheaded, fails_deep_head}
use Rattle.ckc_parser_grammar.proofs.OneMeaning.{some_word, each_pointer_word, pointer_is}

-- ---- stars, which make no node

pub data StarsS : List Token → List Token → Reach → Type 0 where
  stars : {n : ℕ} {ts m : List Token} → SpellsStars ts n m → StarsS ts m nowhere

pub data StarsB : List Token → List Token → Reach → Type 0 where
  stars : {ts rest : List Token} → BeginsStars ts rest → StarsB ts rest nowhere

begun_ends : {ts rest : List Token} → BeginsStars ts rest → rest ends ts
begun_ends b.nothing = all
begun_ends (b.more d) = later (begun_ends d)

stars_begin : {n : ℕ} {ts m : List Token} → SpellsStars ts n m → BeginsStars ts m
stars_begin (g.none f) = b.nothing
stars_begin (g.more d) = b.more (stars_begin d)

stars_longest : {n : ℕ} {ts m rest : List Token} → SpellsStars ts n m → BeginsStars ts rest → m ends rest
stars_longest d b.nothing = begun_ends (stars_begin d)
stars_longest (g.none f) (b.more c) = absurd cc
stars_longest (g.more d) (b.more c) = stars_longest d c

stars_one : {n n' : ℕ} {ts m m' : List Token} → SpellsStars ts n m → SpellsStars ts n' m' → m ≡ m'
stars_one (g.none f) (g.none f') = refl
stars_one (g.none f) (g.more d) = absurd cc
stars_one (g.more d) (g.none f) = absurd cc
stars_one (g.more d) (g.more d') = stars_one d d'

pub stars_below : {n : ℕ} → ExactBelow n nowhere StarsS StarsB
stars_below {n} = record { one = one; spelled = spelled; longest = longest; whole = whole; nothing = nothing; ended = ended }
  where
    one : {ts m m' : List Token} {r r' : Reach} → length ts < n → StarsS ts m r → StarsS ts m' r' → ◌≡◌ {A = forms.Read} (m, r) (m', r')
    one less (stars d) (stars d') = ap (λ (x : List Token). (x, nowhere)) (stars_one d d')

    spelled : {ts m : List Token} {r : Reach} → length ts < n → StarsS ts m r → StarsB ts m r
    spelled less (stars d) = stars (stars_begin d)

    longest : {ts m rest : List Token} {r q : Reach} → length ts < n → StarsS ts m r → StarsB ts rest q → m ends rest
    longest less (stars d) (stars c) = stars_longest d c

    whole : {ts m rest : List Token} {r q : Reach} → length ts < n → StarsS ts m r → StarsB ts rest q → rest ≡ m → q ≡ r
    whole less (stars d) (stars c) same = refl

    nothing : {ts rest : List Token} {q : Reach} → length ts < n → StarsB ts rest q → rest ≡ ts → q ≡ nowhere
    nothing less (stars c) is = refl

    ended : {ts rest : List Token} {q : Reach} → length ts < n → StarsB ts rest q → rest ends ts
    ended less (stars c) = begun_ends c

pub stars_exact : Exact nowhere StarsS StarsB
stars_exact = exact_on_all (λ n. stars_below)

-- ---- types, by the first word

pub data TypeS : List Token → List Token → Reach → Type 0 where
  type : {t : TypeTree} {ts m : List Token} → SpellsType ts t m → TypeS ts m (type_reach t)

data Head : Type 0 where
  plain : Head
  structure : Head
  pointer : Head

data IsHead : TokenKind → Head → Type 0 where
  int : IsHead (kinds.Keyword keywords.Int) plain
  char : IsHead (kinds.Keyword keywords.Char) plain
  struct : IsHead (kinds.Keyword keywords.Struct) structure
  word : {k : TokenKind} {w : PointerWord} → pointer_word_of k ≡ Some w → IsHead k pointer

head_of : TokenKind → Head
head_of (kinds.Keyword keywords.Int) = plain
head_of (kinds.Keyword keywords.Char) = plain
head_of (kinds.Keyword keywords.Struct) = structure
head_of _ = pointer

head_is : {k : TokenKind} {h : Head} → IsHead k h → head_of k ≡ h
unfolding head_of
head_is int = refl
head_is char = refl
head_is struct = refl
head_is (word {k} w) = each_pointer_word (λ k. head_of k ≡ pointer) k w refl refl refl refl refl refl

one_head : OneHead IsHead
one_head k h i a b = sym (head_is a) ∙ head_is b

abbrev ElementS : List Token → List Token → Reach → Type 0
ElementS = AfterS (Is kinds.Less) (EndedS (Is kinds.Greater) (SeqS TypeS StarsS))

abbrev ElementB : List Token → List Token → Reach → Type 0
ElementB = AfterB (Is kinds.Less) (EndedB (Is kinds.Greater) (SeqS TypeS StarsS) (SeqB TypeS BeginsType StarsB))

-- what stands behind a first word that begins at a place
abbrev BehindS : Head → ℕ → List Token → List Token → Reach → Type 0
BehindS plain start = NodeS start DoneS
BehindS structure start = NodeS start (AfterS IsName DoneS)
BehindS pointer start = NodeS start ElementS

abbrev BehindB : Head → ℕ → List Token → List Token → Reach → Type 0
BehindB plain start = NodeS start DoneS
BehindB structure start = NodeS start (AfterB IsName DoneS)
BehindB pointer start = NodeS start ElementB

behind_below : {n : ℕ} → ExactBelow n nowhere TypeS BeginsType → (h : Head) (start : ℕ) → ExactBelow n (node start) (BehindS h start) (BehindB h start)
behind_below e plain start = node_exact done_exact
behind_below e structure start = node_exact (within (after_exact done_exact))
behind_below e pointer start = node_exact (within (after_exact (ended_exact (seq_exact e stars_below))))

-- the element with its stars has the reach of the element
pub with_stars_s : {ts mid m : List Token} {n : ℕ} {t : TypeTree} → SpellsType ts t mid → SpellsStars mid n m → SeqS TypeS StarsS ts m (type_reach t)
with_stars_s {ts} {m} {t} d st = subst (SeqS TypeS StarsS ts m) (beside_nowhere (type_reach t)) (seq (type d) (stars st))

pub with_stars_b : {ts mid m : List Token} {t : TypeTree} → SpellsType ts t mid → BeginsStars mid m → SeqB TypeS BeginsType StarsB ts m (type_reach t)
with_stars_b {ts} {m} {t} d st = subst (SeqB TypeS BeginsType StarsB ts m) (beside_nowhere (type_reach t)) (in_second (type d) (stars st))

to_s : (ts m : List Token) (r : Reach) → TypeS ts m r → HeadS IsHead BehindS ts m r
to_s ts m r (type g.int) = headed int (forms.node done)
to_s ts m r (type g.char) = headed char (forms.node done)
to_s ts m r (type g.struct) = headed struct (forms.node (after name done))
to_s ts m r (type (g.pointer w d st)) = headed (word w) (forms.node (after it (end (with_stars_s d st) it)))

into_b : (ts rest : List Token) (q : Reach) → BeginsType ts rest q → HeadB IsHead BehindB ts rest q
into_b ts rest q b.nothing = none_yet
into_b ts rest q b.int = headed int (forms.node done)
into_b ts rest q b.char = headed char (forms.node done)
into_b ts rest q b.struct_word = headed struct (forms.node not_yet)
into_b ts rest q b.struct = headed struct (forms.node (after name done))
into_b ts rest q (b.pointer_word w) = headed (word w) (forms.node not_yet)
into_b ts rest q (b.element w c) = headed (word w) (forms.node (after it (before_end (in_first c))))
into_b ts rest q (b.stars w d st) = headed (word w) (forms.node (after it (before_end (with_stars_b d st))))
into_b ts rest q (b.pointer w d st) = headed (word w) (forms.node (after it (end (with_stars_s d st) it)))

from_b : (ts rest : List Token) (q : Reach) → HeadB IsHead BehindB ts rest q → BeginsType ts rest q
from_b ts rest q none_yet = b.nothing
from_b ts rest q (headed int (forms.node done)) = b.int
from_b ts rest q (headed char (forms.node done)) = b.char
from_b ts rest q (headed struct (forms.node not_yet)) = b.struct_word
from_b ts rest q (headed struct (forms.node (after name done))) = b.struct
from_b ts rest q (headed (word w) (forms.node not_yet)) = b.pointer_word w
from_b ts rest q (headed (word w) (forms.node (after it (before_end (in_first c))))) = b.element w c
from_b ts rest q (headed {s} (word w) (forms.node (after it (before_end (in_second (type {t} d) (stars st)))))) = subst (λ (x : Reach). BeginsType ts rest (around s.from x)) (sym (beside_nowhere (type_reach t))) (b.stars w d st)
from_b ts rest q (headed {s} (word w) (forms.node (after it (end (seq (type {t} d) (stars st)) it)))) = subst (λ (x : Reach). BeginsType ts rest (around s.from x)) (sym (beside_nowhere (type_reach t))) (b.pointer w d st)

type_begins : (ts m : List Token) (r : Reach) → TypeS ts m r → BeginsType ts m r
type_begins ts m r (type g.int) = b.int
type_begins ts m r (type g.char) = b.char
type_begins ts m r (type g.struct) = b.struct
type_begins ts m r (type (g.pointer w d st)) = b.pointer w d st

type_below : (n : ℕ) → ExactBelow n nowhere TypeS BeginsType
type_below zero = none_below
type_below (suc n) = same_exact (head_exact one_head (behind_below (type_below n))) to_s type_begins into_b

pub type_exact : Exact nowhere TypeS BeginsType
type_exact = exact_on_all type_below

behind_exact : (h : Head) (start : ℕ) → Exact (node start) (BehindS h start) (BehindB h start)
behind_exact h start = exact_on_all (λ n. behind_below (type_below n) h start)

-- ---- where types are stuck

record Headed (k : TokenKind) : Type 0 where
  head : Head
  is : IsHead k head

head_at : (k : TokenKind) → type_word k ≡ true → Headed k
head_at (kinds.Keyword keywords.Int) so = record { head = plain; is = int }
head_at (kinds.Keyword keywords.Char) so = record { head = plain; is = char }
head_at (kinds.Keyword keywords.Struct) so = record { head = structure; is = struct }
head_at k so = record { head = pointer; is = word (some_word (pointer_word_of k) so).1 }

head_word : {k : TokenKind} {h : Head} → IsHead k h → type_word k ≡ true
head_word int = refl
head_word char = refl
head_word struct = refl
head_word (word {k} w) = pointer_is k w

no_head : (ts : List Token) → next_is type_word ts ≡ false → (k : TokenKind) (s : Span) (us : List Token) (h : Head) → ts ≡ token k s ∷ us → IsHead k h → ⊥
no_head ts none k s us h is i = never (head_word i) (subst (λ (x : List Token). next_is type_word x ≡ false) is none)

pub name_is : (k : TokenKind) → IsName k → name_token k ≡ true
name_is k name = refl

pub less_is : (k : TokenKind) → Is kinds.Less k → less k ≡ true
less_is k it = refl

pub greater_is : (k : TokenKind) → Is kinds.Greater k → greater k ≡ true
greater_is k it = refl

pub paren_is : (k : TokenKind) → Is kinds.OpenParen k → open_paren k ≡ true
paren_is k it = refl

-- behind the first word of a type
behind_fails : {d : ℕ} {k : TokenKind} {s : Span} {h : Head} {ts : List Token} {f : Failure} → IsHead k h → Fails d (BehindS h s.from) (BehindB h s.from) ts f → Fails d TypeS BeginsType (token k s ∷ ts) f
behind_fails {s} {h} i f = fails_as to_s into_b from_b (fails_headed one_head i (behind_exact h s.from) f)

behind_begins : (h : Head) (start : ℕ) (ts : List Token) → BehindB h start ts ts (node start)
behind_begins plain start ts = forms.node done
behind_begins structure start ts = forms.node not_yet
behind_begins pointer start ts = forms.node not_yet

deep_fails : {d : ℕ} {k : TokenKind} {s : Span} {ts : List Token} → d ≤ 200 → 200 ≤ d → Headed k → Fails d TypeS BeginsType (token k s ∷ ts) (failures.too_deep s.from)
deep_fails {s} {ts} low high h = fails_as to_s into_b from_b (fails_deep_head one_head h.is low high (behind_exact h.head s.from) (behind_begins h.head s.from ts))

pub with_stars : Exact nowhere (SeqS TypeS StarsS) (SeqB TypeS BeginsType StarsB)
with_stars = seq_all type_exact stars_exact

pub type_fails : {d : ℕ} {ts : List Token} {f : Failure} → d ≤ 200 → StuckType d ts f → Fails d TypeS BeginsType ts f
type_fails low stuck.no_room = failing.no_memory
type_fails low (stuck.no_type none) = fails_as to_s into_b from_b (fails_unheaded low (no_head _ none))
type_fails low (stuck.deep {k} so high) = deep_fails low high (head_at k so)
type_fails low (stuck.tag room none) = behind_fails struct (fails_node room (fails_at_first name_is room none))
type_fails low (stuck.opens room w none) = behind_fails (word w) (fails_node room (fails_at_first less_is room none))
type_fails low (stuck.element room w f) = behind_fails (word w) (fails_node room (fails_after it (ended_all with_stars) (fails_before_end with_stars (fails_first type_exact stars_exact (type_fails room f)))))
type_fails low (stuck.close w t high st none) = behind_fails (word w) (fails_node (omega (arith, high)) (fails_after it (ended_all with_stars) (fails_at_end greater_is with_stars (with_stars_s t st) high none)))

-- ---- types with stars, and in angle brackets

pub data TypeNameS : List Token → List Token → Reach → Type 0 where
  named : {t : TypeName} {ts m : List Token} → SpellsTypeName ts t m → TypeNameS ts m (type_reach t.base)

pub data AngledS : List Token → List Token → Reach → Type 0 where
  angled : {t : TypeName} {ts m : List Token} → SpellsAngled ts t m → AngledS ts m (type_reach t.base)

name_to : (ts m : List Token) (r : Reach) → TypeNameS ts m r → SeqS TypeS StarsS ts m r
name_to ts m r (named (g.type_name d st)) = with_stars_s d st

name_begins : (ts m : List Token) (r : Reach) → TypeNameS ts m r → BeginsTypeName ts m r
name_begins ts m r (named (g.type_name d st)) = b.stars d (stars_begin st)

name_into : (ts rest : List Token) (q : Reach) → BeginsTypeName ts rest q → SeqB TypeS BeginsType StarsB ts rest q
name_into ts rest q (b.base c) = in_first c
name_into ts rest q (b.stars d st) = with_stars_b d st

name_from : (ts rest : List Token) (q : Reach) → SeqB TypeS BeginsType StarsB ts rest q → BeginsTypeName ts rest q
name_from ts rest q (in_first c) = b.base c
name_from ts rest q (in_second (type {t} d) (stars st)) = subst (BeginsTypeName ts rest) (sym (beside_nowhere (type_reach t))) (b.stars d st)

pub type_name_exact : Exact nowhere TypeNameS BeginsTypeName
type_name_exact = same_all with_stars name_to name_begins name_into

pub type_name_fails : {d : ℕ} {ts : List Token} {f : Failure} → d ≤ 200 → StuckTypeName d ts f → Fails d TypeNameS BeginsTypeName ts f
type_name_fails low (stuck.base f) = fails_as name_to name_into name_from (fails_first type_exact stars_exact (type_fails low f))

abbrev BracketS : List Token → List Token → Reach → Type 0
BracketS = AfterS (Is kinds.Less) (EndedS (Is kinds.OpenParen) (EndedS (Is kinds.Greater) TypeNameS))

abbrev BracketB : List Token → List Token → Reach → Type 0
BracketB = AfterB (Is kinds.Less) (EndedB (Is kinds.OpenParen) (EndedS (Is kinds.Greater) TypeNameS) (EndedB (Is kinds.Greater) TypeNameS BeginsTypeName))

angled_to : (ts m : List Token) (r : Reach) → AngledS ts m r → BracketS ts m r
angled_to ts m r (angled (g.angled d)) = after it (end (end (named d) it) it)

angled_begins : (ts m : List Token) (r : Reach) → AngledS ts m r → BeginsAngled ts m r
angled_begins ts m r (angled (g.angled d)) = b.angled d

angled_into : (ts rest : List Token) (q : Reach) → BeginsAngled ts rest q → BracketB ts rest q
angled_into ts rest q b.nothing = not_yet
angled_into ts rest q (b.inside c) = after it (before_end (before_end c))
angled_into ts rest q (b.closed d) = after it (before_end (end (named d) it))
angled_into ts rest q (b.angled d) = after it (end (end (named d) it) it)

angled_from : (ts rest : List Token) (q : Reach) → BracketB ts rest q → BeginsAngled ts rest q
angled_from ts rest q not_yet = b.nothing
angled_from ts rest q (after it (before_end (before_end c))) = b.inside c
angled_from ts rest q (after it (before_end (end (named d) it))) = b.closed d
angled_from ts rest q (after it (end (end (named d) it) it)) = b.angled d

inside : Exact nowhere (EndedS (Is kinds.Greater) TypeNameS) (EndedB (Is kinds.Greater) TypeNameS BeginsTypeName)
inside = ended_all type_name_exact

pub angled_exact : Exact nowhere AngledS BeginsAngled
angled_exact = same_all (after_all (ended_all inside)) angled_to angled_begins angled_into

pub angled_fails : {d : ℕ} {ts : List Token} {f : Failure} → d ≤ 200 → StuckAngled d ts f → Fails d AngledS BeginsAngled ts f
angled_fails low stuck.no_room = failing.no_memory
angled_fails low (stuck.opens none) = fails_as angled_to angled_into angled_from (fails_at_first less_is low none)
angled_fails low (stuck.inside f) = fails_as angled_to angled_into angled_from (fails_after it (ended_all inside) (fails_before_end inside (fails_before_end type_name_exact (type_name_fails low f))))
angled_fails low (stuck.close d high none) = fails_as angled_to angled_into angled_from (fails_after it (ended_all inside) (fails_before_end inside (fails_at_end greater_is type_name_exact (named d) high none)))
angled_fails low (stuck.paren d high none) = fails_as angled_to angled_into angled_from (fails_after it (ended_all inside) (fails_at_end paren_is inside (end (named d) it) high none))
