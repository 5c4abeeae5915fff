-- The spans of a tree that is spelled stand in order.
use Rattle.std.proofs.Common.{ℕ, Bool, List, ◌∷◌, map, Option, arith}
use Rattle.std.specs.List.{AllByRecursion}
use Rattle.ckc_text.specs.declared.place.Span.{Span}
use Rattle.ckc_lexer.specs.declared.token.Token.{Token}
use Rattle.ckc_lexer.specs.declared.token.TokenKind.TheVariants as kinds
use Rattle.ckc_tree.specs.declared.identifier.Identifier.{Identifier}
use Rattle.ckc_tree.specs.declared.item.FunctionKind.{FunctionKind}
use Rattle.ckc_tree.specs.declared.stmt.Mark.{Mark}
use Rattle.ckc_tree.specs.Types.{TypeName, type_span}
use Rattle.ckc_tree.specs.Expressions.{Bounds, bounds_span}
use Rattle.ckc_tree.specs.Items.{Member, ResultForm, Parameters, Body, Item}
use Rattle.ckc_tree.specs.Placement.{InOrder, optional, OptionalPlaced, MemberPlaced, member_span, result_span, ResultPlaced, listed, body_span, BodyPlaced, declarator_span, item_span, ItemPlaced}
use Rattle.ckc_parser_grammar.specs.Tokens.{token, join}
use Rattle.ckc_parser_grammar.specs.ItemGrammar as g
use Rattle.ckc_parser_grammar.specs.ItemGrammar.{SpellsTainted, SpellsKind, SpellsOptionalMark, SpellsMember, SpellsMembers, SpellsResult, SpellsListed, SpellsParameters, SpellsBody, SpellsItem, SpellsItems}
use Rattle.ckc_parser_grammar.specs.Parsing.{SpelledPlaced}
use Rattle.ckc_parser_grammar.proofs.TokenOrder.{Runs, none, in_order_runs, first, on, skip, IsNotEmpty, starts, from_start, longer, Read, Part, leaf, one_more, no_more, omitted, together}
use Rattle.ckc_parser_grammar.proofs.PlacedType.{stars_read, type_read, type_name_read, type_starts, type_name_starts}
use Rattle.ckc_parser_grammar.proofs.PlacedStatement.{optional_bounds_read, declarators_read, statements_read}

-- ---- words that may be left out

tainted_read : {from end : ℕ} {ts rest : List Token} {b : Bool} → SpellsTainted ts b rest → Runs from ts end → Runs from rest end
tainted_read (g.absent f) h = h
tainted_read g.present h = skip h

tainted_starts : {ts rest : List Token} {b : Bool} → SpellsTainted ts b rest → IsNotEmpty rest → IsNotEmpty ts
tainted_starts (g.absent f) some = some
tainted_starts g.present some = tt

kind_read : {from end : ℕ} {ts rest : List Token} {k : FunctionKind} → SpellsKind ts k rest → Runs from ts end → Runs from rest end
kind_read (g.trusted f) h = h
kind_read g.tainted h = skip h
kind_read g.callback h = skip h

kind_starts : {ts rest : List Token} {k : FunctionKind} → SpellsKind ts k rest → IsNotEmpty rest → IsNotEmpty ts
kind_starts (g.trusted f) some = some
kind_starts g.tainted some = tt
kind_starts g.callback some = tt

mark_read : {from end : ℕ} {ts rest : List Token} {m : Option Mark} → SpellsOptionalMark ts m rest → Runs from ts end → Runs from rest end
mark_read (g.absent f) h = h
mark_read (g.present w) h = skip h

mark_starts : {ts rest : List Token} {m : Option Mark} → SpellsOptionalMark ts m rest → IsNotEmpty rest → IsNotEmpty ts
mark_starts (g.absent f) some = some
mark_starts (g.present w) some = tt

-- ---- members and parameters

abbrev the_member : TypeName → Identifier → Option Bounds → Span → Member
the_member type name written span = record { type = type; name = name; bounds = written; span = span }

member_read : {from end : ℕ} {ts rest : List Token} {type : TypeName} {name : Identifier} {written : Option Bounds} {o : Span} → SpellsMember ts type name written o rest → Runs from ts end
    → Read from o (MemberPlaced (the_member type name written o)) rest end
member_read (g.member d b) h =
    let type = type_name_read d (from_start h) in
    let name = first type.on in
    let x = optional_bounds_read b (on type.on) in
    let low = starts (type_name_starts d) h in
    record {
      after = omega (arith, low, x.start);
      some = omega (arith, type.after, type.some, name, x.start, x.part.more);
      placed = ((omega (arith, type.after, x.start), type.some, (name.after, name.some, x.part.order)), type.placed, x.part.placed);
      on = x.part.on;
    }

-- a member with the semicolon behind it
with_semicolon : {from end : ℕ} {rest : List Token} {o t : Span} (type : TypeName) (name : Identifier) (written : Option Bounds) → Read from o (MemberPlaced (the_member type name written o)) (token kinds.Semicolon t ∷ rest) end
    → Read from (join o t) (MemberPlaced (the_member type name written (join o t))) rest end
with_semicolon {o} type name written x =
    let t = first x.on in
    record { after = x.after; some = omega (arith, x.some, t); placed = (longer o.from (type_span type.base ∷ name.span ∷ optional bounds_span written) (omega (arith, t)) x.placed.0, x.placed.1, x.placed.2); on = on x.on }

members_read : {from end : ℕ} {ts rest : List Token} {ms : List Member} → SpellsMembers ts ms rest → Runs from ts end → (to : ℕ) × Part from (map member_span ms) to (AllByRecursion MemberPlaced ms) rest end
members_read (g.one {name} {written} {type} m) h =
    let x = with_semicolon type name written (member_read m h) in
    (_, one_more x (omitted x.on))
members_read (g.more {name} {written} {type} m others) h =
    let x = with_semicolon type name written (member_read m h) in
    let y = members_read others x.on in
    (y.0, one_more x y.1)

listed_read : {from end : ℕ} {ts rest : List Token} {ms : List Member} {t : Span} → SpellsListed ts ms t rest → Runs from ts end → Part from (map member_span ms) t.to (AllByRecursion MemberPlaced ms) rest end
listed_read (g.one m) h =
    let x = member_read m h in
    one_more x (no_more (first x.on) (on x.on))
listed_read (g.more m others) h =
    let x = member_read m h in
    one_more x (listed_read others (skip x.on))

parameters_read : {from end : ℕ} {ts rest : List Token} {x : Parameters} {t : Span} → SpellsParameters ts x t rest → Runs from ts end → Part from (map member_span (listed x)) t.to (AllByRecursion MemberPlaced (listed x)) rest end
parameters_read g.nothing h = no_more (first h) (on h)
parameters_read g.void h = let close = skip h in no_more (first close) (on close)
parameters_read (g.listed d) h = listed_read d h

-- ---- functions

result_read : {from end : ℕ} {ts rest : List Token} {x : ResultForm} → SpellsResult ts x rest → Runs from ts end → Read from (result_span x) (ResultPlaced x) rest end
result_read g.void h = leaf (first h) (on h)
result_read (g.value d) h = type_read d h

result_starts : {ts rest : List Token} {x : ResultForm} → SpellsResult ts x rest → IsNotEmpty ts
result_starts g.void = tt
result_starts (g.value d) = type_starts d

body_read : {from end : ℕ} {ts rest : List Token} {x : Option Body} {q : Span} → SpellsBody ts x q rest → Runs from ts end → Part from (optional body_span x) q.to (OptionalPlaced BodyPlaced x) rest end
body_read g.absent h = no_more (first h) (on h)
body_read (g.present m d) h =
    let x = statements_read d (skip (mark_read m (from_start h))) in
    let low = starts (mark_starts m tt) h in
    record { more = omega (arith, low, x.more); order = (low, x.more, omega arith); placed = (x.order, x.placed); on = x.on }

-- ---- items

item_read : {from end : ℕ} {ts rest : List Token} {x : Item} → SpellsItem ts x rest → Runs from ts end → Read from (item_span x) (ItemPlaced x) rest end
item_read (g.region r) h = leaf (first h) (on h)
item_read (g.structure {t} {members} a m) h =
    let name = skip (tainted_read a (from_start h)) in
    let tag = first name in
    let x = members_read m (skip (on name)) in
    let q = first x.1.on in
    record {
      after = starts (tainted_starts a tt) h;
      some = omega (arith, tag, x.1.more, q);
      placed = ((tag.after, tag.some, longer t.to (map member_span members) (omega (arith, q)) x.1.order), x.1.placed);
      on = on x.1.on;
    }
item_read (g.global {base = type} {declarators} a d m) h =
    let base = type_read d (tainted_read a (from_start h)) in
    let x = declarators_read m base.on in
    let q = first x.on in
    record {
      after = starts (tainted_starts a (type_starts d)) h;
      some = omega (arith, base.after, base.some, x.more, q);
      placed = ((base.after, base.some, longer (type_span type).to (map declarator_span declarators) (omega (arith, q)) x.order), base.placed, x.placed);
      on = on x.on;
    }
item_read (g.function a m d e p b c) h =
    let returned = result_read d (mark_read m (kind_read a (from_start h))) in
    let name = stars_read e returned.on in
    let s = first name in
    let x = parameters_read p (skip (on name)) in
    let y = optional_bounds_read b x.on in
    let z = body_read c y.part.on in
    let parts = together (together x y.part) z in
    record {
      after = starts (kind_starts a (mark_starts m (result_starts d))) h;
      some = omega (arith, returned.after, returned.some, s, parts.more);
      placed = ((returned.after, returned.some, (s.after, s.some, parts.order)), returned.placed, x.placed, y.part.placed, z.placed);
      on = z.on;
    }

items_read : {from end : ℕ} {ts : List Token} {items : List Item} → SpellsItems ts items → Runs from ts end → InOrder from (map item_span items) end × AllByRecursion ItemPlaced items
items_read g.none (none low) = (low, tt)
items_read (g.more d m) h =
    let x = item_read d h in
    let y = items_read m x.on in
    ((x.after, x.some, y.0), (x.placed, y.1))

pub spelled_placed : SpelledPlaced
spelled_placed length tokens t order (g.program d) =
    let x = items_read d (in_order_runs order) in
    (omega arith, x.0, x.1)
