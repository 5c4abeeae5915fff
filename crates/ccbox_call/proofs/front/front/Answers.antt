use Rattle.std.proofs.Common.{◌≡◌, length, Err, sym, ap, ◌∙◌, subst}
use Rattle.std.proofs.lemmas.Result.{err_from_is_err_and}
use Rattle.ckc_tree.specs.Items.{tree}
use Rattle.built_forms.specs.Built.{is_built}
use Rattle.ckc_parser_grammar.specs.Parsing.{ParseAnswers}
use Rattle.built_forms.proofs.Numbered.{same_forms}
use Rattle.ckc_names_rules.specs.Given.{number_in}
use Rattle.ckc_names_rules.specs.Naming.{NamedTree, names_of, named_of}
use Rattle.ckc_names.specs.Named.{named_tree}
use Rattle.ccbox_call.proofs.Fronts.{tokens_short, lex_refuses, parse_refuses, has_tree, forms_refuse, names_refuse, check_answers}
use Rattle.ccbox_call.proofs.front.front.Goals as goal

pub check-requires-clause-short : goal.check-requires-clause-short
check-requires-clause-short c = tokens_short c.in_ok-tokens.ensures

pub check-requires-clause-forms : goal.check-requires-clause-forms
check-requires-clause-forms c =
    let t = tree c.in_ok-tree.tree in
    let same : tree c.in_ok-source.source.program ≡ (named_of t).tree = ap (λ (n : NamedTree). n.tree) c.in_ok-source.ensures.1 in
    ap is_built same ∙ same_forms (number_in (names_of t)) t ∙ sym c.is_built.ensures ∙ c.if-not-is_built.false

pub returns-in_err-tokens : goal.returns-in_err-tokens
returns-in_err-tokens c =
    let p = err_from_is_err_and c.from_residual.result c.from_residual.ensures.1 in
    rw (p.1, p.2) (lex_refuses c.args.src.now c.in_err-tokens.field-0.0 c.in_err-tokens.ensures)

pub returns-in_err-tree : goal.returns-in_err-tree
returns-in_err-tree c =
    let p = err_from_is_err_and c.from_residual-in_err-tree.result c.from_residual-in_err-tree.ensures.1 in
    let src = c.args.src.now in
    rw (p.1, p.2)
    (parse_refuses src c.in_ok-tokens.tokens.items c.in_ok-tokens.ensures c.in_err-tree.field-0.0
    (subst (λ ts. ParseAnswers (length src) ts (Err c.in_err-tree.field-0.0)) c.as_slice.ensures.value c.in_err-tree.ensures))

pub returns-then-not-is_built : goal.returns-then-not-is_built
returns-then-not-is_built c =
    forms_refuse c.args.src.now (tree c.in_ok-tree.tree) (has_tree c.in_ok-tokens.ensures c.as_slice.ensures.value c.in_ok-tree.ensures) c.not_built.result c.not_built.ensures (sym c.is_built.ensures ∙ c.if-not-is_built.true)

pub returns-in_err-source : goal.returns-in_err-source
returns-in_err-source c =
    let p = err_from_is_err_and c.from_residual-in_err-source.result c.from_residual-in_err-source.ensures.1 in
    rw (p.1, p.2)
    (names_refuse c.args.src.now (tree c.in_ok-tree.tree) (has_tree c.in_ok-tokens.ensures c.as_slice.ensures.value c.in_ok-tree.ensures) (sym c.is_built.ensures ∙ c.if-not-is_built.false) named_tree c.in_err-source.field-0.0 c.in_err-source.ensures)

pub returns : goal.returns
returns c =
    check_answers c.args.src.now (tree c.in_ok-tree.tree) (has_tree c.in_ok-tokens.ensures c.as_slice.ensures.value c.in_ok-tree.ensures) (sym c.is_built.ensures ∙ c.if-not-is_built.false) named_tree c.in_ok-source.source c.in_ok-source.ensures c.check.result c.check.ensures
