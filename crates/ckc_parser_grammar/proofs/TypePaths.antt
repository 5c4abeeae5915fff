-- The tokens of a type begin one at each token, and no higher.
use Rattle.std.proofs.Common.{ℕ, List}
use Rattle.ckc_lexer.specs.declared.token.Token.{Token}
use Rattle.ckc_tree.specs.Types.{TypeTree, TypeName}
use Rattle.ckc_tree.specs.Heights.{Reach, type_reach}
use Rattle.ckc_parser_grammar.specs.TypeGrammar as g
use Rattle.ckc_parser_grammar.specs.TypeGrammar.{SpellsStars, SpellsType, SpellsTypeName, SpellsAngled}
use Rattle.ckc_parser_grammar.specs.TypeBeginnings as b
use Rattle.ckc_parser_grammar.specs.TypeBeginnings.{BeginsStars, BeginsType, BeginsTypeName, BeginsAngled}
use Rattle.ckc_parser_grammar.proofs.Paths.{same, least, deep, one, Fact, fact, Path, here, next, on, past, part}

pub stars_path : {n : ℕ} {ts r : List Token} → SpellsStars ts n r → Path (BeginsStars ts) ts r
stars_path (g.none f) = here b.nothing
stars_path (g.more d) = next b.nothing (part (λ us a. b.more a) (stars_path d))

pub begun_stars : {ts r : List Token} → BeginsStars ts r → Path (BeginsStars ts) ts r
begun_stars b.nothing = here b.nothing
begun_stars (b.more d) = next b.nothing (part (λ us a. b.more a) (begun_stars d))

pub type_path : {x : TypeTree} {ts r : List Token} → SpellsType ts x r → Path (Fact (BeginsType ts) (type_reach x)) ts r
type_path g.int = next (fact b.nothing least) (here (fact b.int same))
type_path g.char = next (fact b.nothing least) (here (fact b.char same))
type_path g.struct = next (fact b.nothing least) (next (fact b.struct_word same) (here (fact b.struct same)))
type_path (g.pointer w d st) =
    next (fact b.nothing least) (next (fact (b.pointer_word w) (one _ _))
    (on (part (λ us a. fact (b.element w a.begins) (deep _ _ a.low)) (type_path d))
    (past (part (λ us a. fact (b.stars w d a) same) (stars_path st)) (here (fact (b.pointer w d st) same)))))

pub begun_type : {ts r : List Token} {q : Reach} → BeginsType ts r q → Path (Fact (BeginsType ts) q) ts r
begun_type b.nothing = here (fact b.nothing least)
begun_type b.int = type_path g.int
begun_type b.char = type_path g.char
begun_type b.struct_word = next (fact b.nothing least) (here (fact b.struct_word same))
begun_type b.struct = type_path g.struct
begun_type (b.pointer_word w) = next (fact b.nothing least) (here (fact (b.pointer_word w) same))
begun_type (b.element w d) =
    next (fact b.nothing least) (next (fact (b.pointer_word w) (one _ _))
    (part (λ us a. fact (b.element w a.begins) (deep _ _ a.low)) (begun_type d)))
begun_type (b.stars w d st) =
    next (fact b.nothing least) (next (fact (b.pointer_word w) (one _ _))
    (on (part (λ us a. fact (b.element w a.begins) (deep _ _ a.low)) (type_path d))
    (part (λ us a. fact (b.stars w d a) same) (begun_stars st))))
begun_type (b.pointer w d st) = type_path (g.pointer w d st)

pub type_name_path : {x : TypeName} {ts r : List Token} → SpellsTypeName ts x r → Path (Fact (BeginsTypeName ts) (type_reach x.base)) ts r
type_name_path (g.type_name d st) =
    on (part (λ us a. fact (b.base a.begins) a.low) (type_path d)) (part (λ us a. fact (b.stars d a) same) (stars_path st))

pub begun_type_name : {ts r : List Token} {q : Reach} → BeginsTypeName ts r q → Path (Fact (BeginsTypeName ts) q) ts r
begun_type_name (b.base d) = part (λ us a. fact (b.base a.begins) a.low) (begun_type d)
begun_type_name (b.stars d st) =
    on (part (λ us a. fact (b.base a.begins) a.low) (type_path d)) (part (λ us a. fact (b.stars d a) same) (begun_stars st))

pub angled_path : {x : TypeName} {ts r : List Token} → SpellsAngled ts x r → Path (Fact (BeginsAngled ts) (type_reach x.base)) ts r
angled_path (g.angled d) =
    next (fact b.nothing least) (past (part (λ us a. fact (b.inside a.begins) a.low) (type_name_path d))
    (next (fact (b.closed d) same) (here (fact (b.angled d) same))))

pub begun_angled : {ts r : List Token} {q : Reach} → BeginsAngled ts r q → Path (Fact (BeginsAngled ts) q) ts r
begun_angled b.nothing = here (fact b.nothing least)
begun_angled (b.inside d) = next (fact b.nothing least) (part (λ us a. fact (b.inside a.begins) a.low) (begun_type_name d))
begun_angled (b.closed d) = next (fact b.nothing least) (past (part (λ us a. fact (b.inside a.begins) a.low) (type_name_path d)) (here (fact (b.closed d) same)))
begun_angled (b.angled d) = angled_path (g.angled d)
