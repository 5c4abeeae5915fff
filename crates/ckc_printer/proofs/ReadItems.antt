-- The signs of a tree that was spelled are read as the tree.
use Rattle.std.proofs.Common.{◌≡◌, ℕ, Bool, true, false, List, [], ◌∷◌, ◌++◌, map, Option, Some, None, refl, ap, subst, ◌∙◌, append_assoc}
use Rattle.std.proofs.lemmas.List.{map-append}
use Rattle.std.specs.Option.{option_map}
use Rattle.std.specs.List.{flat_map}
use Rattle.ckc_text.specs.declared.place.Span.{Span}
use Rattle.ckc_lexer.specs.declared.token.Token.{Token}
use Rattle.ckc_lexer.specs.declared.token.TokenKind.{TokenKind}
use Rattle.ckc_lexer.specs.declared.keyword.Keyword.TheVariants as keywords
use Rattle.ckc_lexer.specs.declared.token.TokenKind.TheVariants as kinds
use Rattle.ckc_tree.specs.declared.stmt.Mark.{Mark}
use Rattle.ckc_tree.specs.declared.stmt.Mark.TheVariants as marks
use Rattle.ckc_tree.specs.declared.item.Region.{Region}
use Rattle.ckc_tree.specs.declared.item.Region.TheVariants as regions
use Rattle.ckc_tree.specs.declared.item.FunctionKind.{FunctionKind}
use Rattle.ckc_tree.specs.declared.item.FunctionKind.TheVariants as functions
use Rattle.ckc_tree.specs.declared.type_form.PointerMode.{PointerMode}
use Rattle.ckc_tree.specs.declared.type_form.PointerMode.TheVariants.{Checked, Tainted}
use Rattle.ckc_tree.specs.declared.type_form.PointerKind.{PointerKind}
use Rattle.ckc_tree.specs.declared.type_form.PointerKind.TheVariants as counts
use Rattle.ckc_tree.specs.Types.{TypeTree, IntType, CharType, StructType, PointerType}
use Rattle.ckc_tree.specs.Expressions.{Bounds}
use Rattle.ckc_tree.specs.Statements.{Declarator}
use Rattle.ckc_tree.specs.Items.{Member, ResultForm, Void, Value, Parameters, Nothing, VoidAlone, Listed, Body, Item, RegionItem, StructureItem, GlobalItem, FunctionItem, Tree}
use Rattle.ckc_tree.specs.Bare.{bare_type, bare_bounds, bare_declarator, bare_member, bare_result, bare_parameters, bare_body, bare_item, SameTree}
use Rattle.ckc_parser_grammar.specs.Tokens.{join, identifier, from_first, colon, mark_word, kind_word, tainted_word}
use Rattle.ckc_parser_grammar.specs.TypeGrammar.{SpellsStars, SpellsType}
use Rattle.ckc_parser_grammar.specs.StatementGrammar.{SpellsOptionalBounds, SpellsDeclarators}
use Rattle.ckc_parser_grammar.specs.ItemGrammar as g
use Rattle.ckc_parser_grammar.specs.ItemGrammar.{SpellsTainted, SpellsKind, SpellsOptionalMark, SpellsMember, SpellsMembers, SpellsResult, SpellsListed, SpellsParameters, SpellsBody, SpellsRegion, SpellsItem, SpellsItems, SpellsProgram}
use Rattle.ckc_printer.specs.Pieces.{Sign, One, InLine, with_commas}
use Rattle.ckc_printer.specs.TypePieces.{name_sign, word_kind, stars_pieces, type_pieces, type_name_pieces}
use Rattle.ckc_printer.specs.StatementPieces.{optional_bounds_pieces, declarator_pieces, mark_pieces, statements_pieces}
use Rattle.ckc_printer.specs.ItemPieces.{tainted_pieces, member_pieces, ended_member_pieces, structure_pieces, global_pieces, kind_pieces, result_pieces, parameters_pieces, body_pieces, function_pieces, region_scope, item_pieces, program_pieces}
use Rattle.ckc_printer.specs.ReadingBack.{AreSigns, none, one, sign_of}
use Rattle.ckc_printer.proofs.SignedTokens.{first_is, next_by_sign, Read, Somewhere, Ending, ended, part, IsFilled, next_listed}
use Rattle.ckc_printer.proofs.ReadTypes.{read_stars, read_type, read_type_name}
use Rattle.ckc_printer.proofs.ReadDeclarations.{read_optional_bounds, read_declarators}
use Rattle.ckc_printer.proofs.ReadStatements as statements
use Rattle.ckc_printer.proofs.ReadStatements.{read_statements}

-- ---- words that may be left out

read_tainted : (tainted : Bool) (more : List Sign) (ts : List Token) → first_is tainted_word more ≡ false → AreSigns (tainted_pieces tainted ++ more) ts → Read (λ b. b) (SpellsTainted ts) tainted more
read_tainted false more ts f h = record { tree = false; rest = ts; spelled = g.absent (next_by_sign tainted_word h ∙ f); same = refl; on = h }
read_tainted true more ts f (one {ts = us} b h) = record { tree = true; rest = us; spelled = g.present; same = refl; on = h }

read_kind : (kind : FunctionKind) (more : List Sign) (ts : List Token) → first_is kind_word more ≡ false → AreSigns (kind_pieces kind ++ more) ts → Read (λ k. k) (SpellsKind ts) kind more
read_kind functions.Trusted more ts f h = record { tree = functions.Trusted; rest = ts; spelled = g.trusted (next_by_sign kind_word h ∙ f); same = refl; on = h }
read_kind functions.Tainted more ts f (one {ts = us} b h) = record { tree = functions.Tainted; rest = us; spelled = g.tainted; same = refl; on = h }
read_kind functions.Callback more ts f (one {ts = us} b h) = record { tree = functions.Callback; rest = us; spelled = g.callback; same = refl; on = h }

read_mark : (mark : Option Mark) (more : List Sign) (ts : List Token) → first_is mark_word more ≡ false → AreSigns (mark_pieces mark ++ more) ts → Read (λ m. m) (SpellsOptionalMark ts) mark more
read_mark None more ts f h = record { tree = None; rest = ts; spelled = g.absent (next_by_sign mark_word h ∙ f); same = refl; on = h }
read_mark (Some mark) more ts f (one {ts = us} b h) = record { tree = Some mark; rest = us; spelled = g.present (statements.mark_word mark); same = refl; on = h }

-- ---- tests that the first sign of a part doesn't pass

regrouped : (is : TokenKind → Bool) (first others more : List Sign) → first_is is (first ++ (others ++ more)) ≡ false → first_is is ((first ++ others) ++ more) ≡ false
regrouped is first others more f = rw append_assoc f

-- no word of a type passes
record NoType (is : TokenKind → Bool) : Type 0 where
  int : is (kinds.Keyword keywords.Int) ≡ false
  char : is (kinds.Keyword keywords.Char) ≡ false
  struct : is (kinds.Keyword keywords.Struct) ≡ false
  pointer : (mode : PointerMode) (kind : PointerKind) → is (word_kind mode kind) ≡ false

type_first : (is : TokenKind → Bool) (t : TypeTree) (more : List Sign) → NoType is → first_is is (type_pieces t ++ more) ≡ false
type_first is (IntType span) more other = other.int
type_first is (CharType span) more other = other.char
type_first is (StructType tag span) more other = other.struct
type_first is (PointerType word element stars span) more other = other.pointer word.mode word.kind

pointer_other : (is : TokenKind → Bool) → is (kinds.Keyword keywords.Ptr) ≡ false → is (kinds.Keyword keywords.ArrayPtr) ≡ false → is (kinds.Keyword keywords.NtArrayPtr) ≡ false → is (kinds.Keyword keywords.TPtr) ≡ false → is (kinds.Keyword keywords.TArrayPtr) ≡ false → is (kinds.Keyword keywords.TNtArrayPtr) ≡ false
    → (mode : PointerMode) (kind : PointerKind) → is (word_kind mode kind) ≡ false
pointer_other is p a n t u v Checked counts.One = p
pointer_other is p a n t u v Checked counts.Array = a
pointer_other is p a n t u v Checked counts.NullTerminated = n
pointer_other is p a n t u v Tainted counts.One = t
pointer_other is p a n t u v Tainted counts.Array = u
pointer_other is p a n t u v Tainted counts.NullTerminated = v

not_kind : NoType kind_word
not_kind = record { int = refl; char = refl; struct = refl; pointer = pointer_other kind_word refl refl refl refl refl refl }

not_mark : NoType mark_word
not_mark = record { int = refl; char = refl; struct = refl; pointer = pointer_other mark_word refl refl refl refl refl refl }

not_tainted : NoType tainted_word
not_tainted = record { int = refl; char = refl; struct = refl; pointer = pointer_other tainted_word refl refl refl refl refl refl }

result_first : (is : TokenKind → Bool) (result : ResultForm) (more : List Sign) → is (kinds.Keyword keywords.Void) ≡ false → NoType is → first_is is (result_pieces result ++ more) ≡ false
result_first is (Void span) more v other = v
result_first is (Value base) more v other = type_first is base more other

mark_first : (is : TokenKind → Bool) (mark : Option Mark) (more : List Sign) → is (kinds.Keyword keywords.Checked) ≡ false → is (kinds.Keyword keywords.Unchecked) ≡ false → first_is is more ≡ false → first_is is (mark_pieces mark ++ more) ≡ false
mark_first is None more c u f = f
mark_first is (Some marks.Checked) more c u f = c
mark_first is (Some marks.Unchecked) more c u f = u

body_first : (body : Option Body) (more : List Sign) → first_is colon (body_pieces body ++ more) ≡ false
body_first None more = refl
body_first (Some body) more = regrouped colon (mark_pieces body.mark) (One kinds.OpenBrace ∷ (statements_pieces body.statements ++ One kinds.CloseBrace ∷ [])) more (mark_first colon body.mark _ refl refl refl)

-- ---- structures

abbrev MemberSpelled : List Token → Member → List Token → Type 0
MemberSpelled ts m rest = SpellsMember ts m.type m.name m.bounds m.span rest

read_member : (m : Member) (more : List Sign) (ts : List Token) → first_is colon more ≡ false → AreSigns (member_pieces m ++ more) ts → Read bare_member (MemberSpelled ts) m more
read_member m more ts f h =
    let x = ended (read_type_name m.type (name_sign m.name ∷ (optional_bounds_pieces m.bounds ++ more)) ts refl (part (type_name_pieces m.type) _ more h)) in
    let y = read_optional_bounds m.bounds (from_first ts x.spelled.0) more x.rest f x.on in
    record { tree = record { type = x.tree; name = identifier m.name.name x.spelled.0; bounds = y.tree; span = y.spelled.0 }; rest = y.rest; spelled = g.member x.spelled.1 y.spelled.1; same = cc; on = y.on }

-- a member with its semicolon
abbrev longer : Member → Span → Member
longer m t = record m { span = join m.span t }

read_members : {ms : List Member} {us r : List Token} → SpellsMembers us ms r → (more : List Sign) (ts : List Token) → AreSigns (flat_map ended_member_pieces ms ++ One kinds.CloseBrace ∷ more) ts → Read (map bare_member) (SpellsMembers ts) ms more
read_members (g.one {name} {t} {o} {written} {type} d) more ts h =
    let m : Member = record { type = type; name = name; bounds = written; span = join o t } in
    let x = ended (ended (read_member m (One kinds.Semicolon ∷ One kinds.CloseBrace ∷ more) ts refl (part (member_pieces m) _ _ (part (ended_member_pieces m) _ _ h)))) in
    record { tree = longer x.tree x.spelled.1.0 ∷ []; rest = x.rest; spelled = g.one x.spelled.1.1; same = cc; on = x.on }
read_members (g.more {name} {t} {o} {written} {type} {members} d ms) more ts h =
    let m : Member = record { type = type; name = name; bounds = written; span = join o t } in
    let x = ended (read_member m (One kinds.Semicolon ∷ (flat_map ended_member_pieces members ++ One kinds.CloseBrace ∷ more)) ts refl (part (member_pieces m) _ _ (part (ended_member_pieces m) _ _ h))) in
    let y = read_members ms more x.rest x.on in
    record { tree = longer x.tree x.spelled.0 ∷ y.tree; rest = y.rest; spelled = g.more x.spelled.1 y.spelled; same = cc; on = y.on }

-- ---- functions

read_result : (result : ResultForm) (more : List Sign) (ts : List Token) → AreSigns (result_pieces result ++ more) ts → Read bare_result (SpellsResult ts) result more
read_result (Void span) more ts (one {s} {ts = us} b h) = record { tree = Void s; rest = us; spelled = g.void; same = refl; on = h }
read_result (Value base) more ts h =
    let x = read_type base more ts h in
    record { tree = Value x.tree; rest = x.rest; spelled = g.value x.spelled; same = cc; on = x.on }

listed_filled : {ms : List Member} {t : Span} {ts r : List Token} → SpellsListed ts ms t r → IsFilled ms
listed_filled (g.one d) = tt
listed_filled (g.more d ms) = tt

read_listed : {ms : List Member} {t : Span} {us r : List Token} → SpellsListed us ms t r → (more : List Sign) (ts : List Token) → AreSigns (with_commas member_pieces ms ++ One kinds.CloseParen ∷ more) ts → Read (map bare_member) (Somewhere (SpellsListed ts)) ms more
read_listed (g.one {name} {o} {written} {type} d) more ts h =
    let m : Member = record { type = type; name = name; bounds = written; span = o } in
    let x = ended (read_member m (One kinds.CloseParen ∷ more) ts refl (part (member_pieces m) _ _ h)) in
    record { tree = x.tree ∷ []; rest = x.rest; spelled = (x.spelled.0, g.one x.spelled.1); same = cc; on = x.on }
read_listed (g.more {name} {o} {written} {type} {members} d ms) more ts h =
    let m : Member = record { type = type; name = name; bounds = written; span = o } in
    let x = ended (read_member m (One kinds.Comma ∷ (with_commas member_pieces members ++ One kinds.CloseParen ∷ more)) ts refl (next_listed member_pieces (member_pieces m) members _ (listed_filled ms) h)) in
    let y = read_listed ms more x.rest x.on in
    record { tree = x.tree ∷ y.tree; rest = y.rest; spelled = (y.spelled.0, g.more x.spelled.1 y.spelled.1); same = cc; on = y.on }

read_parameters : {ps : Parameters} {t : Span} {us r : List Token} → SpellsParameters us ps t r → (more : List Sign) (ts : List Token) → AreSigns (parameters_pieces ps ++ One kinds.CloseParen ∷ more) ts → Read bare_parameters (Somewhere (SpellsParameters ts)) ps more
read_parameters g.nothing more ts (one {s} {ts = us} b h) = record { tree = Nothing; rest = us; spelled = (s, g.nothing); same = refl; on = h }
read_parameters g.void more ts (one b (one {s} {ts = us} c h)) = record { tree = VoidAlone; rest = us; spelled = (s, g.void); same = refl; on = h }
read_parameters (g.listed d) more ts h =
    let x = read_listed d more ts h in
    record { tree = Listed x.tree; rest = x.rest; spelled = (x.spelled.0, g.listed x.spelled.1); same = cc; on = x.on }

read_body : {body : Option Body} {t : Span} {us r : List Token} → SpellsBody us body t r → (more : List Sign) (ts : List Token) → AreSigns (body_pieces body ++ more) ts → Read (option_map bare_body) (Somewhere (SpellsBody ts)) body more
read_body g.absent more ts (one {s} {ts = us} b h) = record { tree = None; rest = us; spelled = (s, g.absent); same = refl; on = h }
read_body (g.present {statements} {optional_mark} m d) more ts h =
    let x = ended (read_mark optional_mark (One kinds.OpenBrace ∷ ((statements_pieces statements ++ One kinds.CloseBrace ∷ []) ++ more)) ts refl (part (mark_pieces optional_mark) _ more h)) in
    let y = read_statements d more x.rest (part (statements_pieces statements) _ more x.on) in
    let span = from_first ts y.spelled.0 in
    record { tree = Some (record { mark = x.tree; statements = y.tree; span = span }); rest = y.rest; spelled = (span, g.present x.spelled.1 y.spelled.1); same = cc; on = y.on }

-- ---- items

abbrev item_signs : Item → List Sign
item_signs (RegionItem region span) = One (kinds.Scope (region_scope region)) ∷ []
item_signs (StructureItem structure) = structure_pieces structure
item_signs (GlobalItem global) = global_pieces global
item_signs (FunctionItem function) = function_pieces function

region_spelled : (region : Region) → SpellsRegion (region_scope region) region
region_spelled regions.On = g.on
region_spelled regions.Off = g.off

-- an item from its parts, one behind the other
structure_of : {tainted : Bool} {members : List Member} {tag : List ℕ} {s o : Span} {ts : List Token} {more others : List Sign} (x : Read (λ b. b) (Ending kinds.OpenBrace (Ending (kinds.Name tag) (Ending (kinds.Keyword keywords.Struct) (SpellsTainted ts)))) tainted others) → Read (map bare_member) (Ending kinds.Semicolon (SpellsMembers x.rest)) members more
    → Read bare_item (SpellsItem ts) (StructureItem (record { tainted = tainted; tag = identifier tag s; members = members; span = o })) more
structure_of {tag} {ts} x y =
    record { tree = StructureItem (record { tainted = x.tree; tag = identifier tag x.spelled.1.0; members = y.tree; span = from_first ts y.spelled.0 }); rest = y.rest; spelled = g.structure x.spelled.1.1.1 y.spelled.1; same = cc; on = y.on }

global_of : {tainted : Bool} {base : TypeTree} {declarators : List Declarator} {o : Span} {ts : List Token} {more others last : List Sign} (x : Read (λ b. b) (SpellsTainted ts) tainted others) (y : Read bare_type (SpellsType x.rest) base last) → Read (map bare_declarator) (Ending kinds.Semicolon (Somewhere (SpellsDeclarators y.rest))) declarators more
    → Read bare_item (SpellsItem ts) (GlobalItem (record { tainted = tainted; base = base; declarators = declarators; span = o })) more
global_of {ts} x y z =
    record { tree = GlobalItem (record { tainted = x.tree; base = y.tree; declarators = z.tree; span = from_first ts z.spelled.0 }); rest = z.rest; spelled = g.global x.spelled y.spelled z.spelled.1.1; same = cc; on = z.on }

function_of : {n : ℕ} {kind : FunctionKind} {mark : Option Mark} {result : ResultForm} {name : List ℕ} {parameters : Parameters} {written : Option Bounds} {body : Option Body} {s o : Span} {ts : List Token} {more ks ms rs ns ps bs : List Sign}
    (k : Read (λ k. k) (SpellsKind ts) kind ks) (m : Read (λ m. m) (SpellsOptionalMark k.rest) mark ms) (r : Read bare_result (SpellsResult m.rest) result rs) (x : Read (λ n. n) (Ending kinds.OpenParen (Ending (kinds.Name name) (SpellsStars r.rest))) n ns) (p : Read bare_parameters (Somewhere (SpellsParameters x.rest)) parameters ps)
    (b : Read (option_map bare_bounds) (Somewhere (SpellsOptionalBounds (from_first ts p.spelled.0) p.rest)) written bs) → Read (option_map bare_body) (Somewhere (SpellsBody b.rest)) body more
    → Read bare_item (SpellsItem ts) (FunctionItem (record { kind = kind; mark = mark; result = result; stars = n; name = identifier name s; parameters = parameters; bounds = written; body = body; span = o })) more
function_of {name} {ts} k m r x p b y =
    record {
      tree = FunctionItem (record { kind = k.tree; mark = m.tree; result = r.tree; stars = x.tree; name = identifier name x.spelled.1.0; parameters = p.tree; bounds = b.tree; body = y.tree; span = from_first ts y.spelled.0 });
      rest = y.rest;
      spelled = g.function k.spelled m.spelled r.spelled x.spelled.1.1 p.spelled.1 b.spelled.1 y.spelled.1;
      same = cc;
      on = y.on;
    }

read_item : {item : Item} {us r : List Token} → SpellsItem us item r → (more : List Sign) (ts : List Token) → AreSigns (item_signs item ++ more) ts → Read bare_item (SpellsItem ts) item more
read_item (g.region {region} d) more ts (one {s} {ts = us} b h) = record { tree = RegionItem region s; rest = us; spelled = g.region (region_spelled region); same = refl; on = h }
read_item (g.structure {x = tag} {tainted} {members} t m) more ts h =
    let x = ended (ended (ended (read_tainted tainted (One (kinds.Keyword keywords.Struct) ∷ One (kinds.Name tag) ∷ One kinds.OpenBrace ∷ ((flat_map ended_member_pieces members ++ One kinds.CloseBrace ∷ One kinds.Semicolon ∷ []) ++ more)) ts refl (part (tainted_pieces tainted) _ more h)))) in
    structure_of x (ended (read_members m (One kinds.Semicolon ∷ more) x.rest (part (flat_map ended_member_pieces members) _ more x.on)))
read_item (g.global {base} {tainted} {declarators} t d m) more ts h =
    let listed = with_commas declarator_pieces declarators in
    let others = listed ++ One kinds.Semicolon ∷ [] in
    let x = read_tainted tainted ((type_pieces base ++ others) ++ more) ts (regrouped tainted_word (type_pieces base) others more (type_first tainted_word base _ not_tainted)) (part (tainted_pieces tainted) _ more h) in
    let y = read_type base (others ++ more) x.rest (part (type_pieces base) _ more x.on) in
    global_of x y (ended (read_declarators m more y.rest (part listed _ more y.on)))
read_item (g.function {n} {x = name} {written} {optional_mark} {result} {parameters} {body} {function_kind} k m d st ps b y) more ts h =
    let named = stars_pieces n ++ One (kinds.Name name) ∷ [] in
    let last = optional_bounds_pieces written ++ body_pieces body in
    let behind = One kinds.OpenParen ∷ ((parameters_pieces parameters ++ One kinds.CloseParen ∷ last) ++ more) in
    let returned = result_pieces result ++ named in
    let not_first = λ (is : TokenKind → Bool) (void : is (kinds.Keyword keywords.Void) ≡ false) (type : NoType is). regrouped is (result_pieces result) named behind (result_first is result (named ++ behind) void type) in
    let k' = read_kind function_kind ((mark_pieces optional_mark ++ returned) ++ behind) ts (regrouped kind_word (mark_pieces optional_mark) returned behind (mark_first kind_word optional_mark (returned ++ behind) refl refl (not_first kind_word refl not_kind))) (part (kind_pieces function_kind) _ behind (part (kind_pieces function_kind ++ (mark_pieces optional_mark ++ returned)) _ more h)) in
    let m' = read_mark optional_mark (returned ++ behind) k'.rest (not_first mark_word refl not_mark) (part (mark_pieces optional_mark) returned behind {ts = k'.rest} k'.on) in
    let r = read_result result (named ++ behind) m'.rest (part (result_pieces result) named behind {ts = m'.rest} m'.on) in
    let x = ended (ended (read_stars n (One (kinds.Name name) ∷ behind) r.rest refl (part (stars_pieces n) _ behind {ts = r.rest} r.on))) in
    let p = read_parameters ps (last ++ more) x.rest (part (parameters_pieces parameters) _ more {ts = x.rest} x.on) in
    let w = read_optional_bounds written (from_first ts p.spelled.0) (body_pieces body ++ more) p.rest (body_first body more) (part (optional_bounds_pieces written) _ more {ts = p.rest} p.on) in
    function_of k' m' r x p w (read_body y more w.rest w.on)

sign_map : (signs : List Sign) → map sign_of (map InLine signs) ≡ signs
sign_map [] = refl
sign_map (sign ∷ signs) = ap (λ x. sign ∷ x) (sign_map signs)

item_pieces_signs : (item : Item) → map sign_of (item_pieces item) ≡ item_signs item
item_pieces_signs (RegionItem region span) = refl
item_pieces_signs (StructureItem structure) = sign_map (structure_pieces structure)
item_pieces_signs (GlobalItem global) = sign_map (global_pieces global)
item_pieces_signs (FunctionItem function) = sign_map (function_pieces function)

items_signs : (items : List Item) → map sign_of (flat_map item_pieces items) ≡ flat_map item_signs items
items_signs [] = refl
items_signs (item ∷ items) = rw (map-append, item_pieces_signs item, items_signs items) refl

read_items : {items : List Item} {us : List Token} → SpellsItems us items → (ts : List Token) → AreSigns (flat_map item_signs items) ts → (list : List Item) × SpellsItems ts list × (map bare_item list ≡ map bare_item items)
read_items g.none ts none = ([], g.none, refl)
read_items (g.more {items} d m) ts h =
    let x = read_item d (flat_map item_signs items) ts h in
    let y = read_items m x.rest x.on in
    (x.tree ∷ y.0, g.more x.spelled y.1, cc)

pub spelled_back : (n m : ℕ) (tokens printed : List Token) (t : Tree) → SpellsProgram n tokens t → AreSigns (map sign_of (program_pieces t)) printed → (u : Tree) × SpellsProgram m printed u × SameTree u t
spelled_back n m tokens printed t (g.program {items} d) h =
    let x = read_items d printed (subst (λ (signs : List Sign). AreSigns signs printed) (items_signs items) h) in
    (record { items = x.0; span = record { from = 0; to = m } }, g.program x.1, cc)
