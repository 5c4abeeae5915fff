use Rattle.std.proofs.Common.{rules}
use Rattle.ckc_tree.specs.Items.{item}
use Rattle.region_typing.proofs.DefinedNames.{knows_same, knows_if_noted, body_defines, none_defines}
use Rattle.region_typing.proofs.definitions.note_definition.Goals as goal

pub returns-in-Some : goal.returns-in-Some
returns-in-Some c =
    knows_if_noted c.note.result c.args.defined.now c.note.new.self (item c.args.item.now) c.in-Function.function.name.number 0
    (body_defines c.args.item.now c.in-Function.function c.in-Some.field-0 c.in-Function.is c.in-Some.is) c.note.ensures.noted

pub returns-in-None : goal.returns-in-None
returns-in-None c items knows = knows_same c.args.defined.now items (item c.args.item.now) (none_defines c.args.item.now c.in-Function.function c.in-Function.is c.in-None.is) knows

pub returns-in-Region : goal.returns-in-Region
returns-in-Region c items knows = knows_same c.args.defined.now items (item c.args.item.now) (λ other. search rules) knows

pub returns-in-Region-2 : goal.returns-in-Region-2
returns-in-Region-2 c items knows = knows_same c.args.defined.now items (item c.args.item.now) (λ other. search rules) knows

pub returns-in-Region-3 : goal.returns-in-Region-3
returns-in-Region-3 c items knows = knows_same c.args.defined.now items (item c.args.item.now) (λ other. search rules) knows
