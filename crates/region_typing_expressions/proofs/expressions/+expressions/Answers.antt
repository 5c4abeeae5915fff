use Rattle.std.proofs.lemmas.Bool.Decides.{nat_tests}
use Rattle.std.proofs.Common.{◌≡◌, ◌<◌, length, map, Box, Global, ap, sym, ◌∙◌, arith, rules}
use Rattle.ckc_text.specs.Places.{place_at}
use Rattle.ckc_text.specs.declared.place.Span.{Span}
use Rattle.ckc_tree.specs.declared.identifier.Identifier.{Identifier}
use Rattle.ckc_tree.specs.declared.expr.Expr.{Expr}
use Rattle.ckc_tree.specs.declared.expr.Expr.TheVariants as exprs
use Rattle.ckc_tree.specs.declared.expr.BinaryOperator.{BinaryOperator}
use Rattle.ckc_tree.specs.declared.expr.UnaryOperator.{UnaryOperator}
use Rattle.ckc_tree.specs.declared.expr.CallocWord.{CallocWord}
use Rattle.ckc_tree.specs.declared.type_form.TypeName.{TypeName}
use Rattle.ckc_tree.specs.Types.{type_name}
use Rattle.ckc_tree.specs.Expressions.{Index, Dot, Arrow, Unary, Binary, Calloc, expression}
use Rattle.pointer_modes.specs.Types.{ctype}
use Rattle.region_typing_rules.specs.Operands.{site_at}
use Rattle.region_typing_scope.specs.Points.{point}
use Rattle.region_typing_scope.specs.Views.{scope}
use Rattle.region_typing_scope.specs.OnHeap.{typed}
use Rattle.region_typing_expressions.specs.Calls.{argument}
use Rattle.region_typing_expressions.specs.Slices.{expression_list}
use Rattle.region_typing_scope.proofs.Going.{goes_on, refused, refused_by}
use Rattle.region_typing_expressions.proofs.Arguments.{call_tree, call_parts, argument_pushed, argument_breaks, arguments_done}
use Rattle.region_typing_expressions.proofs.Leading.{element_parts}
use Rattle.region_typing_expressions.proofs.Written.{calloc_same}
use Rattle.region_typing_expressions.proofs.expressions.+expressions.Goals as goal

dot_tree : (x inner : Expr) (base : Box Expr Global) (member : Identifier) (span : Span) → x ≡ exprs.Dot base member span → inner ≡ base.value → expression x ≡ Dot (expression inner) member span
dot_tree x inner base member span is same = ap expression is ∙ ap (λ e. Dot (expression e) member span) (sym same)

arrow_tree : (x inner : Expr) (base : Box Expr Global) (member : Identifier) (span : Span) → x ≡ exprs.Arrow base member span → inner ≡ base.value → expression x ≡ Arrow (expression inner) member span
arrow_tree x inner base member span is same = ap expression is ∙ ap (λ e. Arrow (expression e) member span) (sym same)

unary_tree : (x inner : Expr) (operator : UnaryOperator) (operand : Box Expr Global) (span : Span) → x ≡ exprs.Unary operator operand span → inner ≡ operand.value → expression x ≡ Unary operator (expression inner) span
unary_tree x inner operator operand span is same = ap expression is ∙ ap (λ e. Unary operator (expression e) span) (sym same)

pub typed_at-returns-in-Dot : goal.typed_at-returns-in-Dot
typed_at-returns-in-Dot t c = rw (dot_tree c.args.e.now c.deref-in-Dot.result.now c.in-Dot.base c.in-Dot.member c.in-Dot.span c.in-Dot.is c.deref-in-Dot.ensures) c.member_of.ensures

pub typed_at-returns-in-Arrow : goal.typed_at-returns-in-Arrow
typed_at-returns-in-Arrow t c = rw (arrow_tree c.args.e.now c.deref-in-Arrow.result.now c.in-Arrow.base c.in-Arrow.member c.in-Arrow.span c.in-Arrow.is c.deref-in-Arrow.ensures) c.member_through.ensures

index_tree : (x a b : Expr) (base index : Box Expr Global) (span : Span) → x ≡ exprs.Index base index span → a ≡ base.value → b ≡ index.value → expression x ≡ Index (expression a) (expression b) span
index_tree x a b base index span is first second =
    ap expression is ∙ ap (λ e. Index (expression e) (expression index.value) span) (sym first) ∙ ap (λ e. Index (expression a) (expression e) span) (sym second)

pub typed_at-returns-in-Index : goal.typed_at-returns-in-Index
typed_at-returns-in-Index t c =
    let i = c.in-Index in
    rw (index_tree c.args.e.now c.deref.result.now c.deref-in-Index.result.now i.base i.index i.span i.is c.deref.ensures c.deref-in-Index.ensures) c.element_value.ensures

pub element_value-returns-in_err-base : goal.element_value-returns-in_err-base
element_value-returns-in_err-base t c = rw (element_parts (place_at c.args.context.now) (point c.args.point.now) (expression c.args.base.now) (expression c.args.index.now) c.args.span) (refused _ c.from_residual.result c.from_residual.ensures.1 c.in_err-base.ensures)

pub element_value-returns-in_err-index : goal.element_value-returns-in_err-index
element_value-returns-in_err-index t c =
    rw (element_parts (place_at c.args.context.now) (point c.args.point.now) (expression c.args.base.now) (expression c.args.index.now) c.args.span)
    (goes_on _ c.in_ok-base.ensures (refused _ c.from_residual-in_err-index.result c.from_residual-in_err-index.ensures.1 c.in_err-index.ensures))

pub element_value-returns : goal.element_value-returns
element_value-returns t c = rw (element_parts (place_at c.args.context.now) (point c.args.point.now) (expression c.args.base.now) (expression c.args.index.now) c.args.span) (goes_on _ c.in_ok-base.ensures (goes_on _ c.in_ok-index.ensures c.element_of.ensures))

binary_tree : (x a b : Expr) (operator : BinaryOperator) (left right : Box Expr Global) (span : Span) → x ≡ exprs.Binary operator left right span → a ≡ left.value → b ≡ right.value → expression x ≡ Binary operator (expression a) (expression b) span
binary_tree x a b operator left right span is first second =
    ap expression is ∙ ap (λ e. Binary operator (expression e) (expression right.value) span) (sym first) ∙ ap (λ e. Binary operator (expression a) (expression e) span) (sym second)

pub typed_at-returns-in-Binary : goal.typed_at-returns-in-Binary
typed_at-returns-in-Binary t c =
    let i = c.in-Binary in
    rw (binary_tree c.args.e.now c.deref-in-Binary.result.now c.deref-in-Binary-2.result.now i.operator i.left i.right i.span i.is c.deref-in-Binary.ensures c.deref-in-Binary-2.ensures) c.binary_of.ensures

calloc_tree : (x a b : Expr) (word : CallocWord) (t : TypeName) (count size : Box Expr Global) (span : Span) → x ≡ exprs.Calloc word t count size span → a ≡ count.value → b ≡ size.value
    → expression x ≡ Calloc word (type_name t) (expression a) (expression b) span
calloc_tree x a b word t count size span is first second =
    ap expression is ∙ ap (λ e. Calloc word (type_name t) (expression e) (expression size.value) span) (sym first) ∙ ap (λ e. Calloc word (type_name t) (expression a) (expression e) span) (sym second)

pub typed_at-returns-in-Calloc : goal.typed_at-returns-in-Calloc
typed_at-returns-in-Calloc t c =
    let i = c.in-Calloc in
    rw (calloc_tree c.args.e.now c.deref-in-Calloc.result.now c.deref-in-Calloc-2.result.now i.word i.type_name i.count i.size i.span i.is c.deref-in-Calloc.ensures c.deref-in-Calloc-2.ensures) c.calloc_of.ensures

pub calloc_of-returns-in_err-t : goal.calloc_of-returns-in_err-t
calloc_of-returns-in_err-t t c = refused _ c.from_residual.result c.from_residual.ensures.1 c.in_err-t.ensures

pub calloc_of-returns-in_err-count : goal.calloc_of-returns-in_err-count
calloc_of-returns-in_err-count t c = goes_on _ c.in_ok-t.ensures (refused _ c.from_residual-in_err-count.result c.from_residual-in_err-count.ensures.1 c.in_err-count.ensures)

pub calloc_of-returns-in_err-_size : goal.calloc_of-returns-in_err-_size
calloc_of-returns-in_err-_size t c =
    goes_on _ c.in_ok-t.ensures (goes_on _ c.in_ok-count.ensures (refused _ c.from_residual-in_err-_size.result c.from_residual-in_err-_size.ensures.1 c.in_err-_size.ensures))

pub calloc_of-returns : goal.calloc_of-returns
calloc_of-returns t c =
    let p = c.args.point.now in
    goes_on _ c.in_ok-t.ensures (goes_on _ c.in_ok-count.ensures (goes_on _ c.in_ok-_size.ensures
    (rw (calloc_same p.flow.now (scope p.scope.now) c.args.word (ctype c.in_ok-t.t) (typed c.in_ok-count.count) (expression c.args.size.now) (site_at (place_at c.args.context.now) c.args.span) c.args.span) c.calloc.ensures)))

pub typed_at-returns-in-Unary : goal.typed_at-returns-in-Unary
typed_at-returns-in-Unary t c = rw (unary_tree c.args.e.now c.deref-in-Unary.result.now c.in-Unary.operator c.in-Unary.operand c.in-Unary.span c.in-Unary.is c.deref-in-Unary.ensures) c.unary_of.ensures

pub typed_at-returns-in-Call : goal.typed_at-returns-in-Call
typed_at-returns-in-Call t c =
    rw (call_tree c.args.e.now c.in-Call.callee c.in-Call.arguments c.in-Call.span c.as_slice.result.now c.in-Call.is c.as_slice.ensures.value) c.call_value.ensures

pub call_value-returns-in_err-call : goal.call_value-returns-in_err-call
call_value-returns-in_err-call t c =
    rw (call_parts (place_at c.args.context.now) (point c.args.point.now) c.args.callee.now (expression_list c.args.arguments.now) c.args.span)
    (refused _ c.from_residual.result c.from_residual.ensures.1 c.in_err-call.ensures)

pub call_value-returns : goal.call_value-returns
call_value-returns t c =
    rw (call_parts (place_at c.args.context.now) (point c.args.point.now) c.args.callee.now (expression_list c.args.arguments.now) c.args.span)
    (goes_on _ c.in_ok-call.ensures c.with_result.ensures)

pub member_of-returns-in_err-t : goal.member_of-returns-in_err-t
member_of-returns-in_err-t t c = refused _ c.from_residual.result c.from_residual.ensures.1 c.in_err-t.ensures

pub member_of-returns : goal.member_of-returns
member_of-returns t c = goes_on _ c.in_ok-t.ensures c.with_cell_bounds.ensures

pub member_through-returns-in_err-t : goal.member_through-returns-in_err-t
member_through-returns-in_err-t t c = refused _ c.from_residual.result c.from_residual.ensures.1 c.in_err-t.ensures

pub member_through-returns : goal.member_through-returns
member_through-returns t c = goes_on _ c.in_ok-t.ensures c.with_cell_bounds.ensures

pub unary_of-returns-in_err-t : goal.unary_of-returns-in_err-t
unary_of-returns-in_err-t t c = refused _ c.from_residual.result c.from_residual.ensures.1 c.in_err-t.ensures

pub unary_of-returns : goal.unary_of-returns
unary_of-returns t c = goes_on _ c.in_ok-t.ensures c.with_cell_bounds.ensures

pub called-returns-in_err-arguments : goal.called-returns-in_err-arguments
called-returns-in_err-arguments t c = refused _ c.from_residual.result c.from_residual.ensures.1 c.in_err-arguments.ensures

pub called-returns : goal.called-returns
called-returns t c = goes_on _ c.in_ok-arguments.ensures (rw (c.site.ensures) at c.call.ensures)

pub all_typed-returns-in_err-typed : goal.all_typed-returns-in_err-typed
all_typed-returns-in_err-typed t c =
    let xs = c.args.arguments.now in
    let less : c.loop-written.written-index < length xs = omega (arith, c.loop-written-test.true) in
    refused_by c.from_residual.result c.from_residual.ensures.1
    (λ stop breaks. argument_breaks (place_at c.args.context.now) (point c.args.point.now) xs c.loop-written.written-index c.written-item.result (map argument c.loop-written.built.items) stop less c.written-item.is c.loop-written.invariant.so_far breaks)
    c.in_err-typed.ensures

pub all_typed-loop-written-preserved : goal.all_typed-loop-written-preserved
all_typed-loop-written-preserved t c =
    let xs = c.args.arguments.now in
    let less : c.loop-written.written-index < length xs = omega (arith, c.loop-written-test.true) in
    record {
      so_far = argument_pushed (place_at c.args.context.now) (point c.args.point.now) xs c.loop-written.written-index c.written-item.result c.loop-written.built.items c.push.new.self.items (record { typed = c.in_ok-typed.typed; span = c.span.result }) c.in_ok-push.ensures.items less c.written-item.is c.span.ensures c.loop-written.invariant.so_far c.in_ok-typed.ensures.so;
    }

pub all_typed-returns : goal.all_typed-returns
all_typed-returns t c =
    record { so = arguments_done (place_at c.args.context.now) (point c.args.point.now) c.args.arguments.now c.loop-written.written-index (map argument c.loop-written.built.items) (omega (arith, c.loop-written-test.false)) c.loop-written.invariant.so_far }

pub all_typed-alloc-requires : goal.all_typed-alloc-requires
all_typed-alloc-requires t c = search rules

pub all_typed-loop-written-init : goal.all_typed-loop-written-init
all_typed-loop-written-init t c = search rules

pub all_typed-branch-typed-requires : goal.all_typed-branch-typed-requires
all_typed-branch-typed-requires t c κs = search rules

pub all_typed-from_residual-requires : goal.all_typed-from_residual-requires
all_typed-from_residual-requires t c κs = search rules

pub all_typed-drop-built-requires : goal.all_typed-drop-built-requires
all_typed-drop-built-requires t c κs = search rules

pub all_typed-push-requires : goal.all_typed-push-requires
all_typed-push-requires t c κs = search rules

pub all_typed-branch-push-requires : goal.all_typed-branch-push-requires
all_typed-branch-push-requires t c κs = search rules

pub all_typed-drop-built-requires-in_err-push : goal.all_typed-drop-built-requires-in_err-push
all_typed-drop-built-requires-in_err-push t c κs = search rules

pub all_typed-returns-in_err-push : goal.all_typed-returns-in_err-push
all_typed-returns-in_err-push t c = search rules

pub arrowed_by-returns-in_err-base : goal.arrowed_by-returns-in_err-base
arrowed_by-returns-in_err-base t c = search rules

pub arrowed_by-returns : goal.arrowed_by-returns
arrowed_by-returns t c = search rules

pub binary_of-returns-in_err-left : goal.binary_of-returns-in_err-left
binary_of-returns-in_err-left t c = search rules

pub binary_of-returns-in_err-right : goal.binary_of-returns-in_err-right
binary_of-returns-in_err-right t c = search rules

pub binary_of-returns : goal.binary_of-returns
binary_of-returns t c = search rules

pub bounded_cast-returns-in_err-to : goal.bounded_cast-returns-in_err-to
bounded_cast-returns-in_err-to t c = search rules

pub bounded_cast-returns-in_err-operand : goal.bounded_cast-returns-in_err-operand
bounded_cast-returns-in_err-operand t c = search rules

pub bounded_cast-returns-in_err-written : goal.bounded_cast-returns-in_err-written
bounded_cast-returns-in_err-written t c = grind (arith, nat_tests)

pub bounded_cast-returns : goal.bounded_cast-returns
bounded_cast-returns t c = search rules

pub calloc_of-drop-size-requires : goal.calloc_of-drop-size-requires
calloc_of-drop-size-requires t c κs = search rules

pub cast_value-returns-in_err-to : goal.cast_value-returns-in_err-to
cast_value-returns-in_err-to t c = search rules

pub cast_value-returns-in_err-operand : goal.cast_value-returns-in_err-operand
cast_value-returns-in_err-operand t c = search rules

pub cast_value-returns : goal.cast_value-returns
cast_value-returns t c = grind (arith, nat_tests)

pub dotted_by-returns-in_err-base : goal.dotted_by-returns-in_err-base
dotted_by-returns-in_err-base t c = search rules

pub dotted_by-returns : goal.dotted_by-returns
dotted_by-returns t c = search rules

pub malloc_of-returns-in_err-t : goal.malloc_of-returns-in_err-t
malloc_of-returns-in_err-t t c = search rules

pub malloc_of-returns-in_err-value : goal.malloc_of-returns-in_err-value
malloc_of-returns-in_err-value t c = search rules

pub malloc_of-returns : goal.malloc_of-returns
malloc_of-returns t c = grind (arith, nat_tests)

pub operated_by-returns-in_err-operand : goal.operated_by-returns-in_err-operand
operated_by-returns-in_err-operand t c = search rules

pub operated_by-returns : goal.operated_by-returns
operated_by-returns t c = search rules

pub right_typed-returns-in_err-flow-in-Some : goal.right_typed-returns-in_err-flow-in-Some
right_typed-returns-in_err-flow-in-Some t c = search rules

pub right_typed-invariant_of-behind : goal.right_typed-invariant_of-behind
right_typed-invariant_of-behind t c = search rules

pub right_typed-returns-in-None : goal.right_typed-returns-in-None
right_typed-returns-in-None t c = search rules

pub right_typed-returns-in_ok-flow-in-Some : goal.right_typed-returns-in_ok-flow-in-Some
right_typed-returns-in_ok-flow-in-Some t c = search rules

pub typed_at-deref-requires-in-Arrow : goal.typed_at-deref-requires-in-Arrow
typed_at-deref-requires-in-Arrow t c κs = search rules

pub typed_at-deref-requires-in-Calloc-2 : goal.typed_at-deref-requires-in-Calloc-2
typed_at-deref-requires-in-Calloc-2 t c κs = search rules

pub typed_at-returns-in-Number : goal.typed_at-returns-in-Number
typed_at-returns-in-Number t c = search rules

pub typed_at-returns-in-Text : goal.typed_at-returns-in-Text
typed_at-returns-in-Text t c = search rules

pub typed_at-returns-in-Name : goal.typed_at-returns-in-Name
typed_at-returns-in-Name t c = search rules

pub typed_at-returns-in-SizeOf : goal.typed_at-returns-in-SizeOf
typed_at-returns-in-SizeOf t c = search rules

pub typed_at-returns-in-None : goal.typed_at-returns-in-None
typed_at-returns-in-None t c = grind (arith, nat_tests)

pub typed_at-returns-in-Some : goal.typed_at-returns-in-Some
typed_at-returns-in-Some t c = grind (arith, nat_tests)

pub typed_at-returns-in-Malloc : goal.typed_at-returns-in-Malloc
typed_at-returns-in-Malloc t c = search rules
