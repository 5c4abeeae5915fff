use Rattle.std.proofs.Common.{sym, ap, ◌∙◌}
use Rattle.std.proofs.lemmas.Slice.Eq.{bytes_eq-Decides}
use Rattle.ckc_names_rules.specs.Naming.{with_new}
use Rattle.ckc_names.specs.NameLists.{names_in}
use Rattle.ckc_names.proofs.Names.{number_in, number_within, within_names, name_of_key, put_in, distinct_names}
use Rattle.ckc_names.proofs.name_list.NameList.number.Goals as goal

pub returns-in-Some-clause-names : goal.returns-in-Some-clause-names
returns-in-Some-clause-names c =
    let there = number_within c.args.name.now c.self.inside.names.keys c.in-Some.number (sym c.in-Some.ensures.index) in
    rw (← c.self.view_is) (ap (λ b. with_new b c.args.name.now (names_in c.self.inside.names.keys)) (sym there))

pub returns-in-Some-clause-stands : goal.returns-in-Some-clause-stands
returns-in-Some-clause-stands c = rw (← c.self.view_is) (number_in c.args.name.now c.self.inside.names.keys c.in-Some.number (sym c.in-Some.ensures.index))

pub returns-in-Some-clause-distinct : goal.returns-in-Some-clause-distinct
returns-in-Some-clause-distinct c = rw (← c.self.view_is) (distinct_names c.self.inside.names.keys c.self.invariant)

pub returns-in_err-from_slice-clause-distinct : goal.returns-in_err-from_slice-clause-distinct
returns-in_err-from_slice-clause-distinct c = distinct_names c.self.inside.names.keys c.self.invariant

pub returns-in_err-number-clause-distinct : goal.returns-in_err-number-clause-distinct
returns-in_err-number-clause-distinct c = distinct_names c.insert_full.new.self.keys c.in_err-number.ensures.unique

pub returns-clause-names : goal.returns-clause-names
returns-clause-names c =
    let v = c.in_ok-from_slice.field-0 in
    rw (← c.self.view_is, ← c.in_ok-from_slice.ensures.items) (ap names_in c.in_ok-number.ensures.keys ∙ put_in c.self.inside.names.keys v)

pub returns-clause-stands : goal.returns-clause-stands
returns-clause-stands c =
    let stored = c.in_ok-number.ensures.stored in
    name_of_key c.insert_full.new.self.keys c.in_ok-number.number stored.0 stored.1
    ∙ sym ((bytes_eq-Decides c.in_ok-from_slice.field-0.items stored.0.items).0 stored.2) ∙ c.in_ok-from_slice.ensures.items

pub returns-clause-distinct : goal.returns-clause-distinct
returns-clause-distinct c = distinct_names c.insert_full.new.self.keys c.in_ok-number.ensures.unique

pub returns-in-Some-clause-within : goal.returns-in-Some-clause-within
returns-in-Some-clause-within c = rw (← c.self.view_is) (within_names c.self.inside.names.keys c.in-Some.number c.in-Some.ensures.within)

pub returns-clause-within : goal.returns-clause-within
returns-clause-within c = within_names c.insert_full.new.self.keys c.in_ok-number.number c.in_ok-number.ensures.within
