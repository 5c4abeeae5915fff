-- The spans of a statement that is spelled stand in order.
use Rattle.std.proofs.Common.{◌≡◌, ℕ, ◌≤◌, List, [], ◌∷◌, map, Option, refl, arith, Some}
use Rattle.std.specs.List.{AllByRecursion}
use Rattle.ckc_text.specs.declared.place.Span.{Span}
use Rattle.ckc_lexer.specs.declared.token.Token.{Token}
use Rattle.ckc_lexer.specs.declared.token.TokenKind.{TokenKind}
use Rattle.ckc_tree.specs.declared.stmt.ArrayForm.{ArrayForm}
use Rattle.ckc_tree.specs.declared.stmt.Constant.{Constant}
use Rattle.ckc_tree.specs.declared.stmt.SignedConstant.{SignedConstant}
use Rattle.ckc_tree.specs.declared.stmt.StepOperator.{StepOperator}
use Rattle.ckc_tree.specs.Expressions.{Expression, expression_span, Bounds, bounds_span}
use Rattle.ckc_tree.specs.Statements.{Initializer, Declarator, Declaration, Assignment, assignment_span, ForInitial, Statement, statement_span, Statements}
use Rattle.ckc_tree.specs.Placement.{optional, OptionalPlaced, ExpressionPlaced, BoundsPlaced, array_span, initializer_span, InitializerPlaced, declarator_span, DeclaratorPlaced, DeclarationPlaced, AssignmentPlaced, initial_spans, InitialPlaced, statements_spans, StatementPlaced, StatementsPlaced}
use Rattle.ckc_parser_grammar.specs.Tokens.{token, step_operator_of, constant_of}
use Rattle.ckc_parser_grammar.specs.TypeGrammar as types
use Rattle.ckc_parser_grammar.specs.TypeGrammar.{SpellsStars}
use Rattle.ckc_parser_grammar.specs.StatementGrammar as g
use Rattle.ckc_parser_grammar.specs.StatementGrammar.{SpellsOptionalBounds, SpellsOptionalArray, SpellsSigned, SpellsConstants, SpellsOptionalInitializer, SpellsDeclarator, SpellsDeclarators, SpellsDeclaration, SpellsAssignment, SpellsAssignments, SpellsForInitial, SpellsForCondition, SpellsForStep, SpellsStatement, SpellsStatements}
use Rattle.ckc_parser_grammar.proofs.TokenOrder.{Runs, first, on, follow, skip, IsNotEmpty, starts, from_start, Read, Part, leaf, one_more, alone, together, no_more, omitted}
use Rattle.ckc_parser_grammar.proofs.PlacedType.{stars_read, type_read}
use Rattle.ckc_parser_grammar.proofs.PlacedExpression.{binary_read, unary_read, call_read, bounds_read}
use Rattle.ckc_parser_grammar.proofs.OneMeaning.{each_step_operator, each_constant}

-- ---- declarations

-- what stands so far on some bytes stands on these with a part that may be left out
pub record Extended (so_far whole : Span) (spans : List Span) (Placed : Type 0) (rest : List Token) (end : ℕ) : Type 0 where
  pub start : whole.from ≡ so_far.from
  pub part : Part so_far.to spans whole.to Placed rest end

left_out : {end : ℕ} (o : Span) {rest : List Token} → Runs o.to rest end → Extended o o [] (Unit {0}) rest end
left_out o h = record { start = refl; part = record { more = omega arith; order = omega arith; placed = tt; on = h } }

pub optional_bounds_read : {end : ℕ} {o w : Span} {ts rest : List Token} {x : Option Bounds} → SpellsOptionalBounds o ts x w rest → Runs o.to ts end → Extended o w (optional bounds_span x) (OptionalPlaced BoundsPlaced x) rest end
optional_bounds_read (g.absent {o} f) h = left_out o h
optional_bounds_read (g.present d) h =
    let x = bounds_read d (skip h) in
    let inner = x.placed in
    record { start = refl; part = record { more = omega (arith, x); order = omega (arith, x, inner); placed = inner.placed; on = x.on } }

optional_array_read : {end : ℕ} {o w : Span} {ts rest : List Token} {x : Option ArrayForm} → SpellsOptionalArray o ts x w rest → Runs o.to ts end → Extended o w (optional array_span x) (Unit {0}) rest end
optional_array_read (g.absent {o} f) h = left_out o h
optional_array_read (g.present k) h =
    let s = first h in
    let close = skip (skip (follow h)) in
    let t = first close in
    record { start = refl; part = record { more = omega (arith, s, t); order = omega (arith, s, t); placed = tt; on = on close } }

-- the tokens behind a constant
behind_constant : {from end : ℕ} {k : TokenKind} {s : Span} {rest : List Token} {c : Constant} → constant_of k ≡ Some c → Runs from (token k s ∷ rest) end → Runs s.to rest end
behind_constant {from} {end} {k} {s} {rest} c = each_constant (λ k. Runs from (token k s ∷ rest) end → Runs s.to rest end) k c (λ n h. on h) (λ n h. on h)

signed_read : {from end : ℕ} {ts rest : List Token} {c : SignedConstant} → SpellsSigned ts c rest → Runs from ts end → Read from c.span (c.span.from ≤ c.span.to) rest end
signed_read (g.plain c) h = leaf (first h) (behind_constant c h)
signed_read (g.minus c) h =
    let s = first h in
    let constant = first (on h) in
    record { after = s.after; some = omega (arith, constant); placed = omega (arith, constant); on = behind_constant c (on h) }

pub constants_read : {from end : ℕ} {t : Span} {ts rest : List Token} {cs : List SignedConstant} → SpellsConstants ts cs t rest → Runs from ts end → Part from (map (λ (c : SignedConstant). c.span) cs) t.to (Unit {0}) rest end
constants_read (g.one d) h =
    let x = signed_read d h in
    let t = first x.on in
    record { more = omega (arith, x, t); order = omega (arith, x, t); placed = tt; on = on x.on }
constants_read (g.more d m) h =
    let x = signed_read d h in
    let y = constants_read m (skip x.on) in
    record { more = omega (arith, x, y); order = (x.after, x.some, y.order); placed = tt; on = y.on }

optional_initializer_read : {end : ℕ} {o w : Span} {ts rest : List Token} {x : Option Initializer} → SpellsOptionalInitializer o ts x w rest → Runs o.to ts end → Extended o w (optional initializer_span x) (OptionalPlaced InitializerPlaced x) rest end
optional_initializer_read (g.absent {o} f) h = left_out o h
optional_initializer_read (g.value d) h =
    let x = binary_read d (skip h) in
    let inner = x.placed in
    record { start = refl; part = record { more = omega (arith, x); order = omega (arith, x, inner); placed = inner.placed; on = x.on } }
optional_initializer_read (g.constants d) h =
    let open_brace = skip h in
    let p = first open_brace in
    let x = constants_read d (follow open_brace) in
    record { start = refl; part = record { more = omega (arith, p, x.more); order = omega (arith, p, x.more); placed = x.order; on = x.on } }

pub stars_start : {n : ℕ} {t : Token} {ts us : List Token} → SpellsStars ts n (t ∷ us) → IsNotEmpty ts
stars_start (types.none f) = tt
stars_start (types.more d) = tt

declarator_read : {from end : ℕ} {ts rest : List Token} {d : Declarator} → SpellsDeclarator ts d rest → Runs from ts end → Read from d.span (DeclaratorPlaced d) rest end
declarator_read (g.declarator e a b i) h =
    let name = stars_read e (from_start h) in
    let s = first name in
    let x = optional_array_read a (on name) in
    let y = optional_bounds_read b x.part.on in
    let z = optional_initializer_read i y.part.on in
    let parts = together (together x.part y.part) z.part in
    let low = starts (stars_start e) h in
    record {
      after = omega (arith, low, x.start, y.start, z.start);
      some = omega (arith, s, x.start, y.start, z.start, parts.more);
      placed = ((omega (arith, s, x.start, y.start, z.start), s.some, parts.order), y.part.placed, z.part.placed);
      on = z.part.on;
    }

pub declarators_read : {from end : ℕ} {ts rest : List Token} {ds : List Declarator} {w : Span} → SpellsDeclarators ts ds w rest → Runs from ts end → Part from (map declarator_span ds) w.to (AllByRecursion DeclaratorPlaced ds) rest end
declarators_read (g.one d f) h =
    let x = declarator_read d h in
    let part = alone x in
    record { more = part.more; order = part.order; placed = (x.placed, tt); on = x.on }
declarators_read (g.more d m) h =
    let x = declarator_read d h in
    one_more x (declarators_read m (skip x.on))

declaration_read : {from end : ℕ} {ts rest : List Token} {d : Declaration} → SpellsDeclaration ts d rest → Runs from ts end → Read from d.span (DeclarationPlaced d) rest end
declaration_read (g.declaration d m) h =
    let x = type_read d h in
    let y = declarators_read m x.on in
    record { after = x.after; some = omega (arith, x.some, y.more); placed = ((omega arith, x.some, y.order), x.placed, y.placed); on = y.on }

-- ---- assignments

-- the tokens behind an operator that adds or takes one
behind_step : {from end : ℕ} {k : TokenKind} {s : Span} {rest : List Token} {w : StepOperator} → step_operator_of k ≡ Some w → Runs from (token k s ∷ rest) end → Runs s.to rest end
behind_step {from} {end} {k} {s} {rest} w = each_step_operator (λ k. Runs from (token k s ∷ rest) end → Runs s.to rest end) k w (λ h. on h) (λ h. on h)

assignment_read : {from end : ℕ} {ts rest : List Token} {a : Assignment} → SpellsAssignment ts a rest → Runs from ts end → Read from (assignment_span a) (AssignmentPlaced a) rest end
assignment_read (g.store d w e) h =
    let x = unary_read d h in
    let target = x.placed in
    let y = binary_read e (skip x.on) in
    let value = y.placed in
    record { after = x.after; some = omega (arith, x, y); placed = (omega (arith, target, y, value), target.placed, value.placed); on = y.on }
assignment_read (g.after d w) h =
    let x = unary_read d h in
    let target = x.placed in
    let t = first x.on in
    record { after = x.after; some = omega (arith, x, t); placed = (omega (arith, target, t), target.placed); on = behind_step w x.on }
assignment_read (g.before w d) h =
    let x = unary_read d (follow h) in
    let target = x.placed in
    record { after = (first h).after; some = omega (arith, x); placed = (omega (arith, x, target), target.placed); on = x.on }

assignments_read : {from end : ℕ} {ts rest : List Token} {list : List Assignment} {t : Span} → SpellsAssignments ts list t rest → Runs from ts end → Part from (map assignment_span list) t.to (AllByRecursion AssignmentPlaced list) rest end
assignments_read g.none h = no_more (first h) (on h)
assignments_read (g.more d m) h =
    let x = assignment_read d h in
    one_more x (assignments_read m (skip x.on))

-- ---- the head of a for

-- a part, and the mark behind it
marked : {from end : ℕ} {span : Span} {Placed : Type 0} {t : Token} {rest : List Token} → Read from span Placed (t ∷ rest) end → Part from (span ∷ []) span.to Placed rest end
marked x = let part = alone x in record { more = part.more; order = part.order; placed = part.placed; on = skip part.on }

initial_read : {from end : ℕ} {ts rest : List Token} {i : ForInitial} → SpellsForInitial ts i rest → Runs from ts end → (to : ℕ) × Part from (initial_spans i) to (InitialPlaced i) rest end
initial_read g.nothing h = (_, omitted h)
initial_read (g.declares d) h = (_, marked (declaration_read d h))
initial_read (g.assigns d) h = (_, marked (assignment_read d h))

condition_read : {from end : ℕ} {ts rest : List Token} {x : Option Expression} → SpellsForCondition ts x rest → Runs from ts end → (to : ℕ) × Part from (optional expression_span x) to (OptionalPlaced ExpressionPlaced x) rest end
condition_read g.absent h = (_, omitted h)
condition_read (g.present {o} d) h =
    let x = binary_read d h in
    let inner = x.placed in
    (o.to, record { more = omega (arith, x); order = omega (arith, x, inner); placed = inner.placed; on = skip x.on })

step_read : {from end : ℕ} {ts rest : List Token} {x : Option Assignment} → SpellsForStep ts x rest → Runs from ts end → (to : ℕ) × Part from (optional assignment_span x) to (OptionalPlaced AssignmentPlaced x) rest end
step_read g.absent h = (_, omitted h)
step_read (g.present d) h = (_, marked (assignment_read d h))

-- ---- statements

mutual
  pub statement_read : {from end : ℕ} {ts rest : List Token} {x : Statement} → SpellsStatement ts x rest → Runs from ts end → Read from (statement_span x) (StatementPlaced x) rest end
  statement_read (g.block d) h =
      let x = statements_read d (follow h) in
      record { after = (first h).after; some = x.more; placed = (x.order, x.placed); on = x.on }
  statement_read (g.marked_block w d) h =
      let x = statements_read d (skip (follow h)) in
      record { after = (first h).after; some = x.more; placed = (x.order, x.placed); on = x.on }
  statement_read (g.bundle d) h =
      let x = assignments_read d (skip (follow h)) in
      record { after = (first h).after; some = x.more; placed = (x.order, x.placed); on = x.on }
  statement_read (g.declare d) h =
      let x = declaration_read d h in
      let t = first x.on in
      record { after = x.after; some = omega (arith, x.some, t); placed = (omega (arith, x.some, t), x.placed); on = on x.on }
  statement_read (g.assign d) h =
      let x = assignment_read d h in
      let t = first x.on in
      record { after = x.after; some = omega (arith, x.some, t); placed = (omega (arith, x.some, t), x.placed); on = on x.on }
  statement_read (g.call d) h =
      let x = call_read d h in
      let call = x.placed in
      let t = first x.on in
      record { after = x.after; some = omega (arith, x, t); placed = (omega (arith, call, t), call.placed); on = on x.on }
  statement_read g.empty h = leaf (first h) (on h)
  statement_read (g.if c d f) h =
      let x = binary_read c (skip (follow h)) in
      let condition = x.placed in
      let y = statement_read d (skip x.on) in
      record { after = (first h).after; some = omega (arith, x, y); placed = (omega (arith, x, condition, y), condition.placed, y.placed); on = y.on }
  statement_read (g.if_else c d e) h =
      let x = binary_read c (skip (follow h)) in
      let condition = x.placed in
      let y = statement_read d (skip x.on) in
      let z = statement_read e (skip y.on) in
      record { after = (first h).after; some = omega (arith, x, y, z); placed = (omega (arith, x, condition, y, z), condition.placed, y.placed, z.placed); on = z.on }
  statement_read (g.while c d) h =
      let x = binary_read c (skip (follow h)) in
      let condition = x.placed in
      let y = statement_read d (skip x.on) in
      record { after = (first h).after; some = omega (arith, x, y); placed = (omega (arith, x, condition, y), condition.placed, y.placed); on = y.on }
  statement_read (g.for i c a d) h =
      let x = (initial_read i (skip (follow h))).1 in
      let y = (condition_read c x.on).1 in
      let z = (step_read a y.on).1 in
      let w = statement_read d z.on in
      let parts = together (together (together x y) z) (alone w) in
      record { after = (first h).after; some = parts.more; placed = (parts.order, x.placed, y.placed, z.placed, w.placed); on = w.on }
  statement_read g.return_nothing h =
      let s = first h in
      let t = first (on h) in
      record { after = s.after; some = omega (arith, s, t); placed = (omega (arith, s, t), tt); on = on (on h) }
  statement_read (g.return d) h =
      let x = binary_read d (follow h) in
      let value = x.placed in
      let t = first x.on in
      record { after = (first h).after; some = omega (arith, x, t); placed = (omega (arith, x, value, t), value.placed); on = on x.on }
  statement_read g.break h =
      let s = first h in
      let t = first (on h) in
      record { after = s.after; some = omega (arith, s, t); placed = omega (arith, s, t); on = on (on h) }
  statement_read g.continue h =
      let s = first h in
      let t = first (on h) in
      record { after = s.after; some = omega (arith, s, t); placed = omega (arith, s, t); on = on (on h) }

  pub statements_read : {from end : ℕ} {ts rest : List Token} {xs : Statements} {t : Span} → SpellsStatements ts xs t rest → Runs from ts end → Part from (statements_spans xs) t.to (StatementsPlaced xs) rest end
  statements_read g.none h = no_more (first h) (on h)
  statements_read (g.more d m) h =
      let x = statement_read d h in
      one_more x (statements_read m x.on)
