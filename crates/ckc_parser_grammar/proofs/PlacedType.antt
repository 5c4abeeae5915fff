-- The spans of a type that is spelled stand in order.
use Rattle.std.proofs.Common.{ℕ, List, arith}
use Rattle.ckc_lexer.specs.declared.token.Token.{Token}
use Rattle.ckc_tree.specs.Types.{TypeTree, type_span, TypeName}
use Rattle.ckc_tree.specs.Placement.{TypePlaced}
use Rattle.ckc_parser_grammar.specs.TypeGrammar as g
use Rattle.ckc_parser_grammar.specs.TypeGrammar.{SpellsStars, SpellsType, SpellsTypeName, SpellsAngled}
use Rattle.ckc_parser_grammar.proofs.TokenOrder.{Runs, first, on, follow, skip, Read, leaf, IsNotEmpty}

pub stars_read : {from end n : ℕ} {ts rest : List Token} → SpellsStars ts n rest → Runs from ts end → Runs from rest end
stars_read (g.none f) h = h
stars_read (g.more d) h = stars_read d (skip h)

pub type_read : {from end : ℕ} {ts rest : List Token} {t : TypeTree} → SpellsType ts t rest → Runs from ts end → Read from (type_span t) (TypePlaced t) rest end
type_read g.int h = leaf (first h) (on h)
type_read g.char h = leaf (first h) (on h)
type_read g.struct h =
    let s = first h in
    let t = first (on h) in
    record { after = s.after; some = omega (arith, s, t); placed = omega (arith, s, t); on = on (on h) }
type_read (g.pointer w d e) h =
    let s = first h in
    let element = type_read d (skip (follow h)) in
    let greater = stars_read e element.on in
    let t = first greater in
    record { after = s.after; some = omega (arith, element, t); placed = (omega (arith, element, t), element.placed); on = on greater }

pub type_name_read : {from end : ℕ} {ts rest : List Token} {t : TypeName} → SpellsTypeName ts t rest → Runs from ts end → Read from (type_span t.base) (TypePlaced t.base) rest end
type_name_read (g.type_name d e) h =
    let base = type_read d h in
    record { after = base.after; some = base.some; placed = base.placed; on = stars_read e base.on }

pub angled_read : {from end : ℕ} {ts rest : List Token} {t : TypeName} → SpellsAngled ts t rest → Runs from ts end → Read from (type_span t.base) (TypePlaced t.base) rest end
angled_read (g.angled d) h =
    let type = type_name_read d (skip h) in
    record { after = type.after; some = type.some; placed = type.placed; on = skip (skip type.on) }

pub type_starts : {ts rest : List Token} {t : TypeTree} → SpellsType ts t rest → IsNotEmpty ts
type_starts g.int = tt
type_starts g.char = tt
type_starts g.struct = tt
type_starts (g.pointer w d e) = tt

pub type_name_starts : {ts rest : List Token} {t : TypeName} → SpellsTypeName ts t rest → IsNotEmpty ts
type_name_starts (g.type_name d e) = type_starts d
