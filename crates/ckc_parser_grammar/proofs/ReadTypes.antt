-- Each list of tokens is read as a type, or has a refusal.
use Rattle.std.proofs.Common.{◌≡◌, ◌<◌, ℕ, zero, suc, length, true, List, [], ◌∷◌, refl, arith, Some, sym, true≢false}
use Rattle.ckc_text.specs.declared.place.Span.{Span}
use Rattle.ckc_lexer.specs.declared.token.Token.{Token}
use Rattle.ckc_lexer.specs.declared.token.TokenKind.{TokenKind}
use Rattle.ckc_lexer.specs.declared.keyword.Keyword.TheVariants as keywords
use Rattle.ckc_lexer.specs.declared.token.TokenKind.TheVariants as kinds
use Rattle.ckc_tree.specs.declared.type_form.PointerWord.{PointerWord}
use Rattle.ckc_tree.specs.Types.{TypeTree, IntType, CharType, StructType, PointerType, TypeName}
use Rattle.ckc_tree.specs.Heights.{type_reach}
use Rattle.ckc_parser_grammar.specs.Tokens.{token, join, identifier, pointer_word_of, star, open_paren}
use Rattle.ckc_parser_grammar.specs.TypeGrammar as g
use Rattle.ckc_parser_grammar.specs.TypeGrammar.{SpellsStars, SpellsType, SpellsTypeName, SpellsAngled}
use Rattle.ckc_parser_grammar.specs.Failures.{IsLow}
use Rattle.ckc_parser_grammar.specs.StuckTypes as stuck
use Rattle.ckc_parser_grammar.specs.StuckTypes.{type_word, less, greater, StuckType, StuckTypeName, StuckAngled}
use Rattle.ckc_parser_grammar.proofs.Forms.{Is, it}
use Rattle.ckc_parser_grammar.proofs.Paths.{low_around}
use Rattle.ckc_parser_grammar.proofs.Reading.{Reading, read, refused, unexpected, too_deep, Next, here, other, next, Marks, marked, named, by_length, by_room, behind, ended}
use Rattle.ckc_parser_grammar.proofs.OneMeaning.{some_word}

-- ---- marks

is_star : Marks kinds.Star star
is_star kinds.Star so = it
is_star _ so = absurd (true≢false (sym so))

is_less : Marks kinds.Less less
is_less kinds.Less so = it
is_less _ so = absurd (true≢false (sym so))

is_greater : Marks kinds.Greater greater
is_greater kinds.Greater so = it
is_greater _ so = absurd (true≢false (sym so))

pub is_open_paren : Marks kinds.OpenParen open_paren
is_open_paren kinds.OpenParen so = it
is_open_paren _ so = absurd (true≢false (sym so))

-- ---- stars, which are always read

abbrev pub ReadsStars : List Token → Type 0
ReadsStars ts = Reading {X = ℕ} (λ n rest. SpellsStars ts n rest) (λ f. ⊥)

pub stars_read : (ts : List Token) → ReadsStars ts
stars_read [] = read zero [] (g.none refl)
stars_read (t ∷ ts) = by (next is_star (t ∷ ts)) (stars_read ts)
  where
    by : {t : Token} → Next (Is kinds.Star) star (t ∷ ts) → ReadsStars ts → ReadsStars (t ∷ ts)
    by (here it) others = behind others (λ f none. none) (λ n rest d. read (suc n) rest (g.more d))
    by (other none) others = read zero _ (g.none none)

-- ---- types

abbrev pub ReadsType : ℕ → List Token → Type 0
ReadsType d ts = Reading {X = TypeTree} (λ x rest. SpellsType ts x rest × IsLow d (type_reach x)) (StuckType d ts)

-- types are read that stand in fewer tokens
abbrev Shorter : ℕ → Type 0
Shorter n = (us : List Token) → length us < n → (d : ℕ) → ReadsType d us

-- behind the word of a pointer
pointed : {d : ℕ} {k : TokenKind} {s : Span} {ts : List Token} {w : PointerWord} → pointer_word_of k ≡ Some w → d < 200 → Shorter (suc (length ts)) → ReadsType d (token k s ∷ ts)
pointed {d} {k} {s} {ts} {w} is room shorter = marked is_less (λ us. Shorter (suc (length us)) → ReadsType d (token k s ∷ us)) ts (λ us none all. refused _ unexpected (stuck.opens room is none)) (λ p us all. inside p us (all us (omega arith) (suc d))) shorter
  where
    inside : (p : Span) (us : List Token) → ReadsType (suc d) us → ReadsType d (token k s ∷ token kinds.Less p ∷ us)
    inside p us element = behind element (λ f x. stuck.element room is x) (λ x mid e. ended is_greater (stars_read mid) (λ f none. absurd none)
        (λ n rest stars none. stuck.close is e.0 e.1 stars none)
        (λ n t rest stars. read (PointerType w x n (join s t)) rest (g.pointer is e.0 stars, low_around d s.from (type_reach x) e.1)))

worded : {d : ℕ} {s : Span} {ts : List Token} (k : TokenKind) → type_word k ≡ true → d < 200 → Shorter (suc (length ts)) → ReadsType d (token k s ∷ ts)
worded {s} {ts} (kinds.Keyword keywords.Int) so room shorter = read (IntType s) ts (g.int, omega (arith, room))
worded {s} {ts} (kinds.Keyword keywords.Char) so room shorter = read (CharType s) ts (g.char, omega (arith, room))
worded {d} {s} {ts} (kinds.Keyword keywords.Struct) so room shorter = named (λ us. ReadsType d (token (kinds.Keyword keywords.Struct) s ∷ us)) ts (λ us none. refused _ unexpected (stuck.tag room none)) (λ x t us. read (StructType (identifier x t) (join s t)) us (g.struct, omega (arith, room)))
worded k so room shorter = pointed (some_word (pointer_word_of k) so).1 room shorter

type_step : (ts : List Token) → Shorter (length ts) → (d : ℕ) → ReadsType d ts
type_step ts shorter d = by (next (λ k so. so) ts) shorter
  where
    by : {ts : List Token} → Next (λ k. type_word k ≡ true) type_word ts → Shorter (length ts) → ReadsType d ts
    by (here {k} so) shorter = by_room d (λ room. worded k so room shorter) (λ full. refused _ too_deep (stuck.deep so full))
    by (other none) shorter = refused _ unexpected (stuck.no_type none)

pub type_read : (ts : List Token) (d : ℕ) → ReadsType d ts
type_read = by_length (λ ts. (d : ℕ) → ReadsType d ts) type_step

-- ---- types with stars

abbrev pub ReadsTypeName : ℕ → List Token → Type 0
ReadsTypeName d ts = Reading {X = TypeName} (λ x rest. SpellsTypeName ts x rest × IsLow d (type_reach x.base)) (StuckTypeName d ts)

pub type_name_read : (ts : List Token) (d : ℕ) → ReadsTypeName d ts
type_name_read ts d = behind (type_read ts d) (λ f x. stuck.base x) (λ x mid b. behind (stars_read mid) (λ f none. absurd none) (λ n rest stars. read (record { base = x; stars = n }) rest (g.type_name b.0 stars, b.1)))

-- ---- types in angle brackets

abbrev pub ReadsAngled : ℕ → List Token → Type 0
ReadsAngled d ts = Reading {X = TypeName} (λ x rest. SpellsAngled ts x rest × IsLow d (type_reach x.base)) (StuckAngled d ts)

pub angled_read : (ts : List Token) (d : ℕ) → ReadsAngled d ts
angled_read ts d = marked is_less (ReadsAngled d) ts (λ us none. refused _ unexpected (stuck.opens none)) (λ p us. inside p us)
  where
    inside : (p : Span) (us : List Token) → ReadsAngled d (token kinds.Less p ∷ us)
    inside p us = ended is_greater (type_name_read us d) (λ f x. stuck.inside x) (λ x rest r none. stuck.close r.0 r.1 none)
        (λ x q rest r. marked is_open_paren (λ vs. SpellsTypeName us x (token kinds.Greater q ∷ vs) → ReadsAngled d (token kinds.Less p ∷ us)) rest
        (λ vs none named. refused _ unexpected (stuck.paren named r.1 none))
        (λ t vs named. read x vs (g.angled named, r.1)) r.0)
