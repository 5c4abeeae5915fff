-- The walk through a tree decides whether its spans stand where they should.
use Rattle.std.proofs.Common.{◌≡◌, ℕ, ◌≤◌, Bool, true, false, ◌&&◌, List, [], ◌∷◌, ◌++◌, map, Option, Some, None, IsTrue, refl, ap, sym, ◌∙◌, subst, arith}
use Rattle.std.proofs.lemmas.Bool.{leb-true, le-leb}
use Rattle.std.specs.List.{AllByRecursion}
use Rattle.ckc_text.specs.declared.place.Span.{Span}
use Rattle.ckc_tree.specs.declared.cursor.Cursor.{Cursor}
use Rattle.ckc_tree.specs.declared.stmt.ArrayForm.{ArrayForm}
use Rattle.ckc_tree.specs.declared.stmt.SignedConstant.{SignedConstant}
use Rattle.ckc_tree.specs.Types.{TypeTree, IntType, CharType, StructType, PointerType, type_span}
use Rattle.ckc_tree.specs.Expressions as e
use Rattle.ckc_tree.specs.Expressions.{Expression, Expressions, Bounds, expression_span, bounds_span}
use Rattle.ckc_tree.specs.Statements as s
use Rattle.ckc_tree.specs.Statements.{Initializer, Declarator, Declaration, Assignment, assignment_span, ForInitial, Statement, Statements, statement_span}
use Rattle.ckc_tree.specs.Items as i
use Rattle.ckc_tree.specs.Items.{Member, ResultForm, Parameters, Function, Body, Item, Tree}
use Rattle.ckc_tree.specs.Placement.{InOrder, Holds, optional, OptionalPlaced, TypePlaced, expressions_spans, ExpressionPlaced, ExpressionsPlaced, BoundsPlaced, array_span, initializer_span, InitializerPlaced, declarator_span, DeclaratorPlaced, DeclarationPlaced, AssignmentPlaced, initial_spans, InitialPlaced, statements_spans, StatementPlaced, StatementsPlaced, MemberPlaced, member_span, result_span, ResultPlaced, listed, body_span, BodyPlaced, item_span, ItemPlaced, IsPlaced}
use Rattle.ckc_tree.specs.Walks as walks
use Rattle.ckc_tree.specs.Cursors.{begun, reached, passed}
use Rattle.ckc_tree.specs.Walks.{around, each_walked, optional_walked, constant_walked, array_walked}

-- where the last of the spans ends, of which the first may begin at this byte
abbrev last_end : ℕ → List Span → ℕ
last_end from [] = from
last_end from (span ∷ spans) = last_end span.to spans

-- a walk ends behind these spans, and it is in order where they are and a statement holds
record Decides (walk : Cursor → Cursor) (spans : List Span) (Fact : Type 0) : Type 0 where
  end : (c : Cursor) → (walk c).at ≡ last_end c.at spans
  yes : (c : Cursor) → (walk c).in_order ≡ true → (c.in_order ≡ true) × InOrder c.at spans (walk c).at × Fact
  no : (c : Cursor) → c.in_order ≡ true → InOrder c.at spans (walk c).at → Fact → (walk c).in_order ≡ true

two : (a b : Bool) → (a && b) ≡ true → (a ≡ true) × (b ≡ true)
two true b h = (refl, h)
two false b h = absurd cc

all : (a b : Bool) → a ≡ true → b ≡ true → (a && b) ≡ true
all a b p q = ap (λ x. x && b) p ∙ q

-- ---- spans in order

sooner : (from next : ℕ) (spans : List Span) (to : ℕ) → from ≤ next → InOrder next spans to → InOrder from spans to
sooner from next [] to le h = omega arith
sooner from next (span ∷ spans) to le h = let first = h.0 in (omega arith, h.1, h.2)

later : (from : ℕ) (spans : List Span) (to end : ℕ) → to ≤ end → InOrder from spans to → InOrder from spans end
later from [] to end le h = omega arith
later from (span ∷ spans) to end le h = (h.0, h.1, later span.to spans to end le h.2)

-- what stands in order between two bytes
between : (from : ℕ) (spans : List Span) (to : ℕ) → InOrder from spans to → from ≤ to
between from [] to h = h
between from (span ∷ spans) to h = let rest = between span.to spans to h.2 in let first = h.0 in let here = h.1 in omega arith

joined : (from : ℕ) (spans : List Span) (next : ℕ) (others : List Span) (to : ℕ) → InOrder from spans next → InOrder next others to → InOrder from (spans ++ others) to
joined from [] next others to h k = sooner from next others to h k
joined from (span ∷ spans) next others to h k = (h.0, h.1, joined span.to spans next others to h.2 k)

cut : (from : ℕ) (spans others : List Span) (to : ℕ) → InOrder from (spans ++ others) to → InOrder from spans (last_end from spans) × InOrder (last_end from spans) others to
cut from [] others to h = (omega arith, h)
cut from (span ∷ spans) others to h = let k = cut span.to spans others to h.2 in ((h.0, h.1, k.0), k.1)

ended : (from : ℕ) (spans : List Span) (to : ℕ) → InOrder from spans to → InOrder from spans (last_end from spans) × (last_end from spans ≤ to)
ended from [] to h = (omega arith, h)
ended from (span ∷ spans) to h = let k = ended span.to spans to h.2 in ((h.0, h.1, k.0), k.1)

last_end_append : (from : ℕ) (spans others : List Span) → last_end from (spans ++ others) ≡ last_end (last_end from spans) others
last_end_append from [] others = refl
last_end_append from (span ∷ spans) others = last_end_append span.to spans others

-- ---- walks

nothing : Decides (λ c. c) [] (Unit {0})
nothing = record { end = λ c. refl; yes = λ c h. (h, omega arith, tt); no = λ c h _ _. h }

restated : {walk : Cursor → Cursor} {spans : List Span} {A B : Type 0} → Decides walk spans A → (A → B) → (B → A) → Decides walk spans B
restated d there back = record { end = d.end; yes = λ c h. let x = d.yes c h in (x.0, x.1, there x.2); no = λ c h order fact. d.no c h order (back fact) }

-- one walk behind the other
both : {f g : Cursor → Cursor} {xs ys : List Span} {A B : Type 0} → Decides f xs A → Decides g ys B → Decides (λ c. g (f c)) (xs ++ ys) (A × B)
both {f} {g} {xs} {ys} {A} {B} p q = record {
  end = λ c. q.end (f c) ∙ ap (λ n. last_end n ys) (p.end c) ∙ sym (last_end_append c.at xs ys);
  yes = λ c h. let y = q.yes (f c) h in let x = p.yes c y.0 in (x.0, joined c.at xs (f c).at ys (g (f c)).at x.1 y.1, (x.2, y.2));
  no = λ c h order fact.
      let k = cut c.at xs ys (g (f c)).at order in
      let first = p.no c h (subst (λ n. InOrder c.at xs n) (sym (p.end c)) k.0) fact.0 in
      q.no (f c) first (subst (λ n. InOrder n ys (g (f c)).at) (sym (p.end c)) k.1) fact.1;
}

-- the parts of a form, in its span
inside : {parts : Cursor → Cursor} {spans : List Span} {A : Type 0} (span : Span) → Decides parts spans A → Decides (around span parts) (span ∷ []) (Holds span spans × A)
inside {parts} {spans} {A} span p = record {
  end = λ c. refl;
  yes = λ c h.
      let inner = parts (reached c span.from) in
      let last = two inner.in_order _ h in
      let x = p.yes (reached c span.from) last.0 in
      let first = two c.in_order _ x.0 in
      let held = later span.from spans inner.at span.to (leb-true inner.at span.to last.1) x.1 in
      (first.0, (leb-true c.at span.from first.1, between span.from spans span.to held, omega arith), (held, x.2));
  no = λ c h order fact.
      let inner = parts (reached c span.from) in
      let k = ended span.from spans span.to fact.0 in
      let same = sym (p.end (reached c span.from)) in
      let first = all c.in_order _ h (le-leb c.at span.from order.0) in
      let passes = p.no (reached c span.from) first (subst (λ n. InOrder span.from spans n) same k.0) fact.1 in
      all inner.in_order _ passes (le-leb inner.at span.to (subst (λ n. n ≤ span.to) same k.1));
}

-- a form without parts
leaf : (span : Span) → Decides (λ c. passed c span) (span ∷ []) (Holds span [])
leaf span = restated (inside span nothing) (λ x. x.0) (λ x. (x, tt))

-- a span of which nothing else is said
name : (span : Span) → Decides (λ c. passed c span) (span ∷ []) (Unit {0})
name span =
    let d = leaf span in
    record { end = d.end; yes = λ c h. let x = d.yes c h in (x.0, x.1, tt); no = λ c h order _. d.no c h order order.1 }

inside_two : {f g : Cursor → Cursor} {xs ys : List Span} {A B : Type 0} (span : Span) → Decides f xs A → Decides g ys B → Decides (around span (λ c. g (f c))) (span ∷ []) (Holds span (xs ++ ys) × A × B)
inside_two span p q = restated (inside span (both p q)) (λ x. (x.0, x.1.0, x.1.1)) (λ x. (x.0, (x.1, x.2)))

inside_three : {f g h : Cursor → Cursor} {xs ys zs : List Span} {A B C : Type 0} (span : Span) → Decides f xs A → Decides g ys B → Decides h zs C → Decides (around span (λ c. h (g (f c)))) (span ∷ []) (Holds span ((xs ++ ys) ++ zs) × A × B × C)
inside_three span p q r = restated (inside span (both (both p q) r)) (λ x. (x.0, x.1.0.0, x.1.0.1, x.1.1)) (λ x. (x.0, ((x.1, x.2), x.3)))

-- parts, and a name behind them
before_name : {f : Cursor → Cursor} {xs : List Span} {A : Type 0} (span last : Span) → Decides f xs A → Decides (around span (λ c. passed (f c) last)) (span ∷ []) (Holds span (xs ++ last ∷ []) × A)
before_name span last p = restated (inside span (both p (name last))) (λ x. (x.0, x.1.0)) (λ x. (x.0, (x.1, tt)))

-- a name, and parts behind it
behind_name : {f : Cursor → Cursor} {xs : List Span} {A : Type 0} (span first : Span) → Decides f xs A → Decides (around span (λ c. f (passed c first))) (span ∷ []) (Holds span (first ∷ xs) × A)
behind_name span first p = restated (inside span (both (name first) p)) (λ x. (x.0, x.1.1)) (λ x. (x.0, (tt, x.1)))

each_decided : {A : Type 0} (span_of : A → Span) {walk : A → Cursor → Cursor} {Placed : A → Type 0} → ((part : A) → Decides (walk part) (span_of part ∷ []) (Placed part)) → (parts : List A)
    → Decides (each_walked walk parts) (map span_of parts) (AllByRecursion Placed parts)
each_decided span_of each [] = nothing
each_decided span_of each (part ∷ parts) = both (each part) (each_decided span_of each parts)

optional_decided : {A : Type 0} (span_of : A → Span) {walk : A → Cursor → Cursor} {Placed : A → Type 0} → ((part : A) → Decides (walk part) (span_of part ∷ []) (Placed part)) → (part : Option A)
    → Decides (optional_walked walk part) (optional span_of part) (OptionalPlaced Placed part)
optional_decided span_of each None = nothing
optional_decided span_of each (Some part) = each part

-- ---- the forms

type_decided : (t : TypeTree) → Decides (walks.type_walked t) (type_span t ∷ []) (TypePlaced t)
type_decided (IntType span) = leaf span
type_decided (CharType span) = leaf span
type_decided (StructType tag span) = restated (inside span (name tag.span)) (λ x. x.0) (λ x. (x, tt))
type_decided (PointerType word element stars span) = inside span (type_decided element)

mutual
  expression_decided : (x : Expression) → Decides (walks.expression_walked x) (expression_span x ∷ []) (ExpressionPlaced x)
  expression_decided (e.Number value span) = leaf span
  expression_decided (e.Character value span) = leaf span
  expression_decided (e.Text bytes span) = leaf span
  expression_decided (e.Name n) = leaf n.span
  expression_decided (e.Call callee arguments span) = behind_name span callee.span (arguments_decided arguments)
  expression_decided (e.SizeOf type span) = inside span (type_decided type.base)
  expression_decided (e.Cast word type operand span) = inside_two span (type_decided type.base) (expression_decided operand)
  expression_decided (e.BoundedCast word type operand bounds span) = inside_three span (type_decided type.base) (expression_decided operand) (bounds_decided bounds)
  expression_decided (e.Malloc word type size span) = inside_two span (type_decided type.base) (expression_decided size)
  expression_decided (e.Calloc word type count size span) = inside_three span (type_decided type.base) (expression_decided count) (expression_decided size)
  expression_decided (e.Index base index span) = inside_two span (expression_decided base) (expression_decided index)
  expression_decided (e.Dot base member span) = before_name span member.span (expression_decided base)
  expression_decided (e.Arrow base member span) = before_name span member.span (expression_decided base)
  expression_decided (e.Unary operator operand span) = inside span (expression_decided operand)
  expression_decided (e.Binary operator left right span) = inside_two span (expression_decided left) (expression_decided right)

  arguments_decided : (xs : Expressions) → Decides (walks.arguments_walked xs) (expressions_spans xs) (ExpressionsPlaced xs)
  arguments_decided e.NoMore = nothing
  arguments_decided (e.Then first others) = both (expression_decided first) (arguments_decided others)

  bounds_decided : (b : Bounds) → Decides (walks.bounds_walked b) (bounds_span b ∷ []) (BoundsPlaced b)
  bounds_decided (e.Count count span) = inside span (expression_decided count)
  bounds_decided (e.ByteCount count span) = inside span (expression_decided count)
  bounds_decided (e.Unknown span) = leaf span
  bounds_decided (e.Range low high span) = inside_two span (expression_decided low) (expression_decided high)

constants_decided : (constants : List SignedConstant) → Decides (each_walked constant_walked constants) (map (λ (constant : SignedConstant). constant.span) constants) (Unit {0})
constants_decided [] = nothing
constants_decided (constant ∷ constants) = restated (both (name constant.span) (constants_decided constants)) (λ x. tt) (λ x. (tt, tt))

initializer_decided : (x : Initializer) → Decides (walks.initializer_walked x) (initializer_span x ∷ []) (InitializerPlaced x)
initializer_decided (s.Value value) = expression_decided value
initializer_decided (s.Constants constants span) = restated (inside span (constants_decided constants)) (λ x. x.0) (λ x. (x, tt))

array_decided : (x : Option ArrayForm) → Decides (optional_walked array_walked x) (optional array_span x) (Unit {0})
array_decided None = nothing
array_decided (Some array) = name array.span

declarator_decided : (d : Declarator) → Decides (walks.declarator_walked d) (d.span ∷ []) (DeclaratorPlaced d)
declarator_decided d =
    let bounds = optional_decided bounds_span bounds_decided d.bounds in
    let initializer = optional_decided initializer_span initializer_decided d.initializer in
    restated (inside d.span (both (both (both (name d.name.span) (array_decided d.array)) bounds) initializer)) (λ x. (x.0, x.1.0.1, x.1.1)) (λ x. (x.0, (((tt, tt), x.1), x.2)))

declaration_decided : (d : Declaration) → Decides (walks.declaration_walked d) (d.span ∷ []) (DeclarationPlaced d)
declaration_decided d = inside_two d.span (type_decided d.base) (each_decided declarator_span declarator_decided d.declarators)

assignment_decided : (a : Assignment) → Decides (walks.assignment_walked a) (assignment_span a ∷ []) (AssignmentPlaced a)
assignment_decided (s.Store operator target value span) = inside_two span (expression_decided target) (expression_decided value)
assignment_decided (s.Step operator side target span) = inside span (expression_decided target)

initial_decided : (x : ForInitial) → Decides (walks.initial_walked x) (initial_spans x) (InitialPlaced x)
initial_decided s.Nothing = nothing
initial_decided (s.Declares declaration) = declaration_decided declaration
initial_decided (s.Assigns assignment) = assignment_decided assignment

mutual
  statement_decided : (x : Statement) → Decides (walks.statement_walked x) (statement_span x ∷ []) (StatementPlaced x)
  statement_decided (s.Block mark statements span) = inside span (statements_decided statements)
  statement_decided (s.Bundle assignments span) = inside span (each_decided assignment_span assignment_decided assignments)
  statement_decided (s.Declare declaration span) = inside span (declaration_decided declaration)
  statement_decided (s.Assign assignment span) = inside span (assignment_decided assignment)
  statement_decided (s.CallAlone call span) = inside span (expression_decided call)
  statement_decided (s.Empty span) = leaf span
  statement_decided (s.If condition consequent span) = inside_two span (expression_decided condition) (statement_decided consequent)
  statement_decided (s.IfElse condition consequent alternative span) = inside_three span (expression_decided condition) (statement_decided consequent) (statement_decided alternative)
  statement_decided (s.While condition body span) = inside_two span (expression_decided condition) (statement_decided body)
  statement_decided (s.For initial condition step body span) =
      let test = optional_decided expression_span expression_decided condition in
      let last = optional_decided assignment_span assignment_decided step in
      restated (inside span (both (both (both (initial_decided initial) test) last) (statement_decided body))) (λ x. (x.0, x.1.0.0.0, x.1.0.0.1, x.1.0.1, x.1.1)) (λ x. (x.0, (((x.1, x.2), x.3), x.4)))
  statement_decided (s.Return value span) = inside span (optional_decided expression_span expression_decided value)
  statement_decided (s.Break span) = leaf span
  statement_decided (s.Continue span) = leaf span

  statements_decided : (xs : Statements) → Decides (walks.statements_walked xs) (statements_spans xs) (StatementsPlaced xs)
  statements_decided s.NoMore = nothing
  statements_decided (s.Then first others) = both (statement_decided first) (statements_decided others)

member_decided : (m : Member) → Decides (walks.member_walked m) (m.span ∷ []) (MemberPlaced m)
member_decided m = restated (inside m.span (both (both (type_decided m.type.base) (name m.name.span)) (optional_decided bounds_span bounds_decided m.bounds))) (λ x. (x.0, x.1.0.0, x.1.1)) (λ x. (x.0, ((x.1, tt), x.2)))

members_decided : (members : List Member) → Decides (each_walked walks.member_walked members) (map member_span members) (AllByRecursion MemberPlaced members)
members_decided = each_decided member_span member_decided

parameters_decided : (x : Parameters) → Decides (walks.parameters_walked x) (map member_span (listed x)) (AllByRecursion MemberPlaced (listed x))
parameters_decided i.Nothing = nothing
parameters_decided i.VoidAlone = nothing
parameters_decided (i.Listed parameters) = members_decided parameters

result_decided : (x : ResultForm) → Decides (walks.result_walked x) (result_span x ∷ []) (ResultPlaced x)
result_decided (i.Void span) = leaf span
result_decided (i.Value base) = type_decided base

body_decided : (b : Body) → Decides (walks.body_walked b) (b.span ∷ []) (BodyPlaced b)
body_decided b = inside b.span (statements_decided b.statements)

function_decided : (f : Function) → Decides (walks.function_walked f) (f.span ∷ []) (ItemPlaced (i.FunctionItem f))
function_decided f =
    let bounds = optional_decided bounds_span bounds_decided f.bounds in
    let body = optional_decided body_span body_decided f.body in
    restated (inside f.span (both (both (both (both (result_decided f.result) (name f.name.span)) (parameters_decided f.parameters)) bounds) body))
    (λ x. (x.0, x.1.0.0.0.0, x.1.0.0.1, x.1.0.1, x.1.1)) (λ x. (x.0, ((((x.1, tt), x.2), x.3), x.4)))

item_decided : (x : Item) → Decides (walks.item_walked x) (item_span x ∷ []) (ItemPlaced x)
item_decided (i.RegionItem region span) = leaf span
item_decided (i.StructureItem structure) = behind_name structure.span structure.tag.span (members_decided structure.members)
item_decided (i.GlobalItem global) = inside_two global.span (type_decided global.base) (each_decided declarator_span declarator_decided global.declarators)
item_decided (i.FunctionItem function) = function_decided function

pub in_order_placed : (length : ℕ) (tree : Tree) → IsTrue (walks.is_placed length tree) → IsPlaced length tree
in_order_placed length tree h =
    let items = inside tree.span (each_decided item_span item_decided tree.items) in
    let last = two _ _ h in
    let x = items.yes begun last.0 in
    ((x.1.0, x.1.1, leb-true tree.span.to length last.1), x.2.0, x.2.1)

pub placed_in_order : (length : ℕ) (tree : Tree) → IsPlaced length tree → IsTrue (walks.is_placed length tree)
placed_in_order length tree x =
    let items = inside tree.span (each_decided item_span item_decided tree.items) in
    all _ _ (items.no begun refl (x.0.0, x.0.1, omega arith) (x.1, x.2)) (le-leb tree.span.to length x.0.2)
