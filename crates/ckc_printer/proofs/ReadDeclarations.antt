-- The signs of declarations and assignments are read as they are.
use Rattle.std.proofs.Common.{◌≡◌, ℕ, Bool, true, false, List, [], ◌∷◌, ◌++◌, map, Option, Some, None, refl, ◌∙◌}
use Rattle.std.specs.Option.{option_map}
use Rattle.std.specs.List.{flat_map}
use Rattle.ckc_text.specs.declared.place.Span.{Span}
use Rattle.ckc_lexer.specs.declared.token.Token.{Token}
use Rattle.ckc_lexer.specs.declared.token.TokenKind.{TokenKind}
use Rattle.ckc_lexer.specs.declared.token.TokenKind.TheVariants as kinds
use Rattle.ckc_tree.specs.declared.stmt.ArrayForm.{ArrayForm}
use Rattle.ckc_tree.specs.declared.stmt.ArrayKind.{ArrayKind}
use Rattle.ckc_tree.specs.declared.stmt.ArrayKind.TheVariants as arrays
use Rattle.ckc_tree.specs.declared.stmt.Constant.{Constant}
use Rattle.ckc_tree.specs.declared.stmt.Constant.TheVariants as constants
use Rattle.ckc_tree.specs.declared.stmt.SignedConstant.{SignedConstant}
use Rattle.ckc_tree.specs.declared.stmt.StoreOperator.{StoreOperator}
use Rattle.ckc_tree.specs.declared.stmt.StoreOperator.TheVariants as stores
use Rattle.ckc_tree.specs.declared.stmt.StepOperator.{StepOperator}
use Rattle.ckc_tree.specs.declared.stmt.StepOperator.TheVariants as steps
use Rattle.ckc_tree.specs.declared.stmt.StepSide.TheVariants.{Before, After}
use Rattle.ckc_tree.specs.Types.{type_span}
use Rattle.ckc_tree.specs.Expressions.{Bounds}
use Rattle.ckc_tree.specs.Statements.{Initializer, Value, Constants, Declarator, Declaration, Assignment, Store, Step}
use Rattle.ckc_tree.specs.Bare.{bare_bounds, bare_array, bare_constant, bare_initializer, bare_declarator, bare_declaration, bare_assignment}
use Rattle.ckc_parser_grammar.specs.Tokens.{join, identifier, from_first, array_kind_of, store_operator_of, step_operator_of, colon, equal, comma, array_word, open_paren, selector, constant_of}
use Rattle.ckc_parser_grammar.specs.TypeGrammar.{SpellsStars}
use Rattle.ckc_parser_grammar.specs.StatementGrammar as g
use Rattle.ckc_parser_grammar.specs.StatementGrammar.{SpellsOptionalBounds, SpellsOptionalArray, SpellsSigned, SpellsConstants, SpellsOptionalInitializer, SpellsDeclarator, SpellsDeclarators, SpellsDeclaration, SpellsAssignment, SpellsAssignments}
use Rattle.ckc_printer.specs.Pieces.{Sign, One, with_commas}
use Rattle.ckc_printer.specs.TypePieces.{stars_pieces, type_pieces}
use Rattle.ckc_printer.specs.ExpressionPieces.{expression_pieces, target_pieces}
use Rattle.ckc_printer.specs.StatementPieces.{optional_bounds_pieces, array_kind, array_pieces, constant_kind, sign_pieces, constant_pieces, initializer_pieces, declarator_pieces, declaration_pieces, store_kind, step_kind, assignment_pieces, bundled_pieces}
use Rattle.ckc_printer.specs.ReadingBack.{AreSigns, one}
use Rattle.ckc_printer.proofs.SignedTokens as follow
use Rattle.ckc_printer.proofs.SignedTokens.{first_is, next_by_sign, Read, Somewhere, Ending, ended, part, Ends, is_other, IsFilled, next_listed}
use Rattle.ckc_printer.proofs.ReadTypes.{read_stars, read_type}
use Rattle.ckc_printer.proofs.ReadExpressions.{read_expression, read_bounds}

-- ---- parts that may be left out

pub read_optional_bounds : (bounds : Option Bounds) (o : Span) (more : List Sign) (ts : List Token) → first_is colon more ≡ false → AreSigns (optional_bounds_pieces bounds ++ more) ts
    → Read (option_map bare_bounds) (Somewhere (SpellsOptionalBounds o ts)) bounds more
read_optional_bounds None o more ts f h = record { tree = None; rest = ts; spelled = (o, g.absent (next_by_sign colon h ∙ f)); same = refl; on = h }
read_optional_bounds (Some bounds) o more ts f (one {ts = us} b h) =
    let x = read_bounds bounds more us h in
    record { tree = Some x.tree; rest = x.rest; spelled = (join o x.spelled.0, g.present x.spelled.1); same = cc; on = x.on }

array_word_of : (kind : ArrayKind) → array_kind_of (array_kind kind) ≡ Some kind
array_word_of arrays.Checked = refl
array_word_of arrays.NullTerminated = refl

read_array : (array : Option ArrayForm) (o : Span) (more : List Sign) (ts : List Token) → first_is array_word more ≡ false → AreSigns (array_pieces array ++ more) ts
    → Read (option_map bare_array) (Somewhere (SpellsOptionalArray o ts)) array more
read_array None o more ts f h = record { tree = None; rest = ts; spelled = (o, g.absent (next_by_sign array_word h ∙ f)); same = refl; on = h }
read_array (Some array) o more ts f (one {s} b (one c (one d (one {s = t} {ts = us} e h)))) =
    record { tree = Some (record { kind = array.kind; length = array.length; span = join s t }); rest = us; spelled = (join o t, g.present (array_word_of array.kind)); same = refl; on = h }

-- ---- constants

constant_spelled : (c : Constant) → constant_of (constant_kind c) ≡ Some c
constant_spelled (constants.Number n) = refl
constant_spelled (constants.Character n) = refl

signed_by : (negative : Bool) (constant : Constant) (span : Span) (more : List Sign) (ts : List Token) → AreSigns ((sign_pieces negative ++ One (constant_kind constant) ∷ []) ++ more) ts
    → Read bare_constant (SpellsSigned ts) (record { negative = negative; constant = constant; span = span }) more
signed_by false constant span more ts (one {s} {ts = us} b h) = record { tree = record { negative = false; constant = constant; span = s }; rest = us; spelled = g.plain (constant_spelled constant); same = refl; on = h }
signed_by true constant span more ts (one {s} b (one {s = t} {ts = us} c h)) =
    record { tree = record { negative = true; constant = constant; span = join s t }; rest = us; spelled = g.minus (constant_spelled constant); same = refl; on = h }

read_signed : (c : SignedConstant) (more : List Sign) (ts : List Token) → AreSigns (constant_pieces c ++ more) ts → Read bare_constant (SpellsSigned ts) c more
read_signed c more ts h = signed_by c.negative c.constant c.span more ts h

constants_filled : {cs : List SignedConstant} {t : Span} {ts r : List Token} → SpellsConstants ts cs t r → IsFilled cs
constants_filled (g.one d) = tt
constants_filled (g.more d m) = tt

read_constants : {cs : List SignedConstant} {t : Span} {us r : List Token} → SpellsConstants us cs t r → (more : List Sign) (ts : List Token) → AreSigns (with_commas constant_pieces cs ++ One kinds.CloseBrace ∷ more) ts
    → Read (map bare_constant) (Somewhere (SpellsConstants ts)) cs more
read_constants (g.one {signed} d) more ts h =
    let x = ended (read_signed signed (One kinds.CloseBrace ∷ more) ts (part (constant_pieces signed) _ _ h)) in
    record { tree = x.tree ∷ []; rest = x.rest; spelled = (x.spelled.0, g.one x.spelled.1); same = cc; on = x.on }
read_constants (g.more {signed} {constants} d m) more ts h =
    let x = ended (read_signed signed (One kinds.Comma ∷ (with_commas constant_pieces constants ++ One kinds.CloseBrace ∷ more)) ts (next_listed constant_pieces (constant_pieces signed) constants _ (constants_filled m) h)) in
    let y = read_constants m more x.rest x.on in
    record { tree = x.tree ∷ y.tree; rest = y.rest; spelled = (y.spelled.0, g.more x.spelled.1 y.spelled.1); same = cc; on = y.on }

-- ---- declarations

read_initializer : {initializer : Option Initializer} {q w : Span} {us r : List Token} → SpellsOptionalInitializer q us initializer w r → (o : Span) (more : List Sign) (ts : List Token) → Ends more → AreSigns (initializer_pieces initializer ++ more) ts
    → Read (option_map bare_initializer) (Somewhere (SpellsOptionalInitializer o ts)) initializer more
read_initializer (g.absent f) o more ts end h = record { tree = None; rest = ts; spelled = (o, g.absent (next_by_sign equal h ∙ is_other equal refl refl refl refl end)); same = refl; on = h }
read_initializer (g.value {e} d) o more ts end (one {ts = us} b h) =
    let x = (read_expression e).alone more us end h in
    record { tree = Some (Value x.tree); rest = x.rest; spelled = (join o x.spelled.0, g.value x.spelled.1); same = cc; on = x.on }
read_initializer (g.constants {constants} d) o more ts end (one b (one {s = p} {ts = us} c h)) =
    let x = read_constants d more us (part (with_commas constant_pieces constants) _ more h) in
    record { tree = Some (Constants x.tree (join p x.spelled.0)); rest = x.rest; spelled = (join o x.spelled.0, g.constants x.spelled.1); same = cc; on = x.on }

initializer_first : (is : TokenKind → Bool) (initializer : Option Initializer) (more : List Sign) → is kinds.Equal ≡ false → first_is is more ≡ false → first_is is (initializer_pieces initializer ++ more) ≡ false
initializer_first is None more e f = f
initializer_first is (Some (Value value)) more e f = e
initializer_first is (Some (Constants constants span)) more e f = e

bounds_first : (is : TokenKind → Bool) (bounds : Option Bounds) (others more : List Sign) → is kinds.Colon ≡ false → first_is is (others ++ more) ≡ false → first_is is ((optional_bounds_pieces bounds ++ others) ++ more) ≡ false
bounds_first is None others more e f = f
bounds_first is (Some bounds) others more e f = e

-- a declarator from its parts, one behind the other
declarator_of : {n : ℕ} {name : List ℕ} {array : Option ArrayForm} {written : Option Bounds} {initializer : Option Initializer} {s o : Span} {ts : List Token} {more ns vs bs : List Sign} (x : Read (λ n. n) (Ending (kinds.Name name) (SpellsStars ts)) n ns) (y : Read (option_map bare_array) (Somewhere (SpellsOptionalArray (from_first ts x.spelled.0) x.rest)) array vs)
    (z : Read (option_map bare_bounds) (Somewhere (SpellsOptionalBounds y.spelled.0 y.rest)) written bs) → Read (option_map bare_initializer) (Somewhere (SpellsOptionalInitializer z.spelled.0 z.rest)) initializer more
    → Read bare_declarator (SpellsDeclarator ts) (record { stars = n; name = identifier name s; array = array; bounds = written; initializer = initializer; span = o }) more
declarator_of {name} x y z i =
    record { tree = record { stars = x.tree; name = identifier name x.spelled.0; array = y.tree; bounds = z.tree; initializer = i.tree; span = i.spelled.0 }; rest = i.rest; spelled = g.declarator x.spelled.1 y.spelled.1 z.spelled.1 i.spelled.1; same = cc; on = i.on }

read_declarator : {d : Declarator} {us r : List Token} → SpellsDeclarator us d r → (more : List Sign) (ts : List Token) → Ends more → AreSigns (declarator_pieces d ++ more) ts → Read bare_declarator (SpellsDeclarator ts) d more
read_declarator (g.declarator {n} {x = name} {written} {array} {initializer} st a b d) more ts end h =
    let initial = initializer_pieces initializer in
    let x = ended (read_stars n (One (kinds.Name name) ∷ ((array_pieces array ++ (optional_bounds_pieces written ++ initial)) ++ more)) ts refl (part (stars_pieces n) _ more h)) in
    let first = bounds_first array_word written initial more refl (initializer_first array_word initializer more refl (is_other array_word refl refl refl refl end)) in
    let y = read_array array (from_first ts x.spelled.0) ((optional_bounds_pieces written ++ initial) ++ more) x.rest first (part (array_pieces array) _ more x.on) in
    let z = read_optional_bounds written y.spelled.0 (initial ++ more) y.rest (initializer_first colon initializer more refl (is_other colon refl refl refl refl end)) (part (optional_bounds_pieces written) _ more y.on) in
    declarator_of x y z (read_initializer d z.spelled.0 more z.rest end z.on)

declarators_filled : {ds : List Declarator} {w : Span} {ts r : List Token} → SpellsDeclarators ts ds w r → IsFilled ds
declarators_filled (g.one d f) = tt
declarators_filled (g.more d m) = tt

pub read_declarators : {ds : List Declarator} {w : Span} {us r : List Token} → SpellsDeclarators us ds w r → (more : List Sign) (ts : List Token) → AreSigns (with_commas declarator_pieces ds ++ One kinds.Semicolon ∷ more) ts
    → Read (map bare_declarator) (Somewhere (SpellsDeclarators ts)) ds (One kinds.Semicolon ∷ more)
read_declarators (g.one {declarator} d f) more ts h =
    let x = read_declarator d (One kinds.Semicolon ∷ more) ts follow.semicolon (part (declarator_pieces declarator) _ _ h) in
    record { tree = x.tree ∷ []; rest = x.rest; spelled = (x.tree.span, g.one x.spelled (next_by_sign comma x.on)); same = cc; on = x.on }
read_declarators (g.more {declarator} {declarators} d m) more ts h =
    let x = ended (read_declarator d (One kinds.Comma ∷ (with_commas declarator_pieces declarators ++ One kinds.Semicolon ∷ more)) ts follow.comma (next_listed declarator_pieces (declarator_pieces declarator) declarators _ (declarators_filled m) h)) in
    let y = read_declarators m more x.rest x.on in
    record { tree = x.tree ∷ y.tree; rest = y.rest; spelled = (y.spelled.0, g.more x.spelled.1 y.spelled.1); same = cc; on = y.on }

pub read_declaration : {d : Declaration} {us r : List Token} → SpellsDeclaration us d r → (more : List Sign) (ts : List Token) → AreSigns (declaration_pieces d ++ One kinds.Semicolon ∷ more) ts → Read bare_declaration (SpellsDeclaration ts) d (One kinds.Semicolon ∷ more)
read_declaration (g.declaration {base} {declarators} d m) more ts h =
    let x = read_type base (with_commas declarator_pieces declarators ++ One kinds.Semicolon ∷ more) ts (part (type_pieces base) _ _ h) in
    let y = read_declarators m more x.rest x.on in
    record { tree = record { base = x.tree; declarators = y.tree; span = join (type_span x.tree) y.spelled.0 }; rest = y.rest; spelled = g.declaration x.spelled y.spelled.1; same = cc; on = y.on }

-- ---- assignments

store_word : (w : StoreOperator) → store_operator_of (store_kind w) ≡ Some w
store_word stores.Set = refl
store_word stores.Add = refl
store_word stores.Subtract = refl

step_word : (w : StepOperator) → step_operator_of (step_kind w) ≡ Some w
step_word steps.Increment = refl
step_word steps.Decrement = refl

-- a test that no operator of an assignment passes
store_other : (w : StoreOperator) (is : TokenKind → Bool) → is kinds.Equal ≡ false → is kinds.PlusEqual ≡ false → is kinds.MinusEqual ≡ false → is (store_kind w) ≡ false
store_other stores.Set is e p m = e
store_other stores.Add is e p m = p
store_other stores.Subtract is e p m = m

step_other : (w : StepOperator) (is : TokenKind → Bool) → is kinds.PlusPlus ≡ false → is kinds.MinusMinus ≡ false → is (step_kind w) ≡ false
step_other steps.Increment is p m = p
step_other steps.Decrement is p m = m

pub read_assignment : (a : Assignment) (more : List Sign) (ts : List Token) → Ends more → AreSigns (assignment_pieces a ++ more) ts → Read bare_assignment (SpellsAssignment ts) a more
read_assignment (Store w target value span) more ts end h =
    let x = ended ((read_expression target).target (One (store_kind w) ∷ (expression_pieces value ++ more)) ts (store_other w open_paren refl refl refl) (store_other w selector refl refl refl) (part (target_pieces target) _ more h)) in
    let y = (read_expression value).alone more x.rest end x.on in
    record { tree = Store w x.tree y.tree (join x.spelled.1.0 y.spelled.0); rest = y.rest; spelled = g.store x.spelled.1.1 (store_word w) y.spelled.1; same = cc; on = y.on }
read_assignment (Step w Before target span) more ts end (one {s} {ts = us} b h) =
    let x = (read_expression target).target more us (is_other open_paren refl refl refl refl end) (is_other selector refl refl refl refl end) h in
    record { tree = Step w Before x.tree (join s x.spelled.0); rest = x.rest; spelled = g.before (step_word w) x.spelled.1; same = cc; on = x.on }
read_assignment (Step w After target span) more ts end h =
    let x = ended ((read_expression target).target (One (step_kind w) ∷ more) ts (step_other w open_paren refl refl) (step_other w selector refl refl) (part (target_pieces target) _ more h)) in
    record { tree = Step w After x.tree (join x.spelled.1.0 x.spelled.0); rest = x.rest; spelled = g.after x.spelled.1.1 (step_word w); same = cc; on = x.on }

pub read_assignments : (list : List Assignment) (more : List Sign) (ts : List Token) → AreSigns (flat_map bundled_pieces list ++ One kinds.CloseBrace ∷ more) ts → Read (map bare_assignment) (Somewhere (SpellsAssignments ts)) list more
read_assignments [] more ts (one {s} {ts = us} b h) = record { tree = []; rest = us; spelled = (s, g.none); same = refl; on = h }
read_assignments (a ∷ list) more ts h =
    let x = ended (read_assignment a (One kinds.Semicolon ∷ (flat_map bundled_pieces list ++ One kinds.CloseBrace ∷ more)) ts follow.semicolon (part (assignment_pieces a) _ _ (part (bundled_pieces a) _ _ h))) in
    let y = read_assignments list more x.rest x.on in
    record { tree = x.tree ∷ y.tree; rest = y.rest; spelled = (y.spelled.0, g.more x.spelled.1 y.spelled.1); same = cc; on = y.on }
