-- The signs of a type are read as the type.
use Rattle.std.proofs.Common.{◌≡◌, ℕ, zero, suc, false, List, [], ◌∷◌, ◌++◌, refl, ◌∙◌, ap, Some}
use Rattle.ckc_lexer.specs.declared.token.Token.{Token}
use Rattle.ckc_lexer.specs.declared.token.TokenKind.TheVariants as kinds
use Rattle.ckc_tree.specs.declared.type_form.PointerMode.{PointerMode}
use Rattle.ckc_tree.specs.declared.type_form.PointerMode.TheVariants.{Checked, Tainted}
use Rattle.ckc_tree.specs.declared.type_form.PointerKind.{PointerKind}
use Rattle.ckc_tree.specs.declared.type_form.PointerKind.TheVariants as counts
use Rattle.ckc_tree.specs.Types.{TypeTree, IntType, CharType, StructType, PointerType, TypeName}
use Rattle.ckc_tree.specs.Bare.{bare_type, bare_type_name}
use Rattle.ckc_parser_grammar.specs.Tokens.{join, identifier, star, pointer_word_of}
use Rattle.ckc_parser_grammar.specs.TypeGrammar as g
use Rattle.ckc_parser_grammar.specs.TypeGrammar.{SpellsStars, SpellsType, SpellsTypeName, SpellsAngled}
use Rattle.ckc_printer.specs.Pieces.{Sign, One}
use Rattle.ckc_printer.specs.TypePieces.{word_kind, stars_pieces, type_pieces, type_name_pieces, angled_pieces}
use Rattle.ckc_printer.specs.ReadingBack.{AreSigns, one}
use Rattle.ckc_printer.proofs.SignedTokens.{first_is, next_by_sign, Read, ended, part}

pointer_word : (mode : PointerMode) (kind : PointerKind) → pointer_word_of (word_kind mode kind) ≡ Some (record { mode = mode; kind = kind })
pointer_word Checked counts.One = refl
pointer_word Checked counts.Array = refl
pointer_word Checked counts.NullTerminated = refl
pointer_word Tainted counts.One = refl
pointer_word Tainted counts.Array = refl
pointer_word Tainted counts.NullTerminated = refl

pub read_stars : (n : ℕ) (more : List Sign) (ts : List Token) → first_is star more ≡ false → AreSigns (stars_pieces n ++ more) ts → Read (λ n. n) (SpellsStars ts) n more
read_stars zero more ts f h = record { tree = zero; rest = ts; spelled = g.none (next_by_sign star h ∙ f); same = refl; on = h }
read_stars (suc n) more ts f (one {ts = us} b h) =
    let x = read_stars n more us f h in
    record { tree = suc x.tree; rest = x.rest; spelled = g.more x.spelled; same = ap suc x.same; on = x.on }

pub read_type : (t : TypeTree) (more : List Sign) (ts : List Token) → AreSigns (type_pieces t ++ more) ts → Read bare_type (SpellsType ts) t more
read_type (IntType span) more ts (one {s} {ts = us} b h) = record { tree = IntType s; rest = us; spelled = g.int; same = refl; on = h }
read_type (CharType span) more ts (one {s} {ts = us} b h) = record { tree = CharType s; rest = us; spelled = g.char; same = refl; on = h }
read_type (StructType tag span) more ts (one {s} b (one {s = t} {ts = us} c h)) = record { tree = StructType (identifier tag.name t) (join s t); rest = us; spelled = g.struct; same = refl; on = h }
read_type (PointerType word element stars span) more ts (one {s} b (one {ts = us} c h)) =
    let x = read_type element ((stars_pieces stars ++ One kinds.Greater ∷ []) ++ more) us (part (type_pieces element) _ more h) in
    let y = ended (read_stars stars (One kinds.Greater ∷ more) x.rest refl (part (stars_pieces stars) _ more x.on)) in
    record { tree = PointerType word x.tree y.tree (join s y.spelled.0); rest = y.rest; spelled = g.pointer (pointer_word word.mode word.kind) x.spelled y.spelled.1; same = cc; on = y.on }

pub read_type_name : (t : TypeName) (more : List Sign) (ts : List Token) → first_is star more ≡ false → AreSigns (type_name_pieces t ++ more) ts → Read bare_type_name (SpellsTypeName ts) t more
read_type_name t more ts f h =
    let x = read_type t.base (stars_pieces t.stars ++ more) ts (part (type_pieces t.base) _ more h) in
    let y = read_stars t.stars more x.rest f x.on in
    record { tree = record { base = x.tree; stars = y.tree }; rest = y.rest; spelled = g.type_name x.spelled y.spelled; same = cc; on = y.on }

-- a type in angle brackets, and the parenthesis behind it
pub read_angled : (t : TypeName) (more : List Sign) (ts : List Token) → AreSigns (angled_pieces t ++ One kinds.OpenParen ∷ more) ts → Read bare_type_name (SpellsAngled ts) t more
read_angled t more ts (one {ts = us} b h) =
    let x = ended (ended (read_type_name t (One kinds.Greater ∷ One kinds.OpenParen ∷ more) us refl (part (type_name_pieces t) _ _ h))) in
    record { tree = x.tree; rest = x.rest; spelled = g.angled x.spelled.1.1; same = x.same; on = x.on }
