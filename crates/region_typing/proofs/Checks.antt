-- The check of a whole program.
use Rattle.std.proofs.Common.{◌≡◌, ℕ, true, refl, sym, ap, ◌∙◌}
use Rattle.built_forms.specs.Built.{is_built}
use Rattle.built_forms.proofs.Numbered.{same_forms}
use Rattle.ckc_names_rules.specs.declared.given.Given.{Given}
use Rattle.ckc_names_rules.specs.Given.{number_in}
use Rattle.ckc_names_rules.specs.Naming.{NamedTree, names_of, IsNamed}
use Rattle.region_typing_rules.specs.Verdicts.{Unnamed}
use Rattle.region_typing_rules.specs.Operands.{Places}
use Rattle.region_typing_rules.specs.Items.{Walk, start}
use Rattle.region_typing_rules.specs.Cores.{checked}
use Rattle.region_typing.specs.Items.{Outside}
use Rattle.region_typing_rules.proofs.NamedItems.{all_named}

-- each name of a named program of built forms stands for something
pub never_unnamed : (at : Places) (n : NamedTree) → is_built n.tree ≡ true → IsNamed n → checked at n ≡ Unnamed → ⊥
never_unnamed at n built named stops =
    let t = named.source in
    let same : is_built n.tree ≡ is_built t = ap (λ (m : NamedTree). is_built m.tree) named.named ∙ same_forms (number_in (names_of t)) t in
    all_named at t (sym same ∙ built) named.fine (ap (checked at) (sym named.named) ∙ stops)

-- no function is walked at the start
pub outside_at_start : (w : Walk) (given : Given) (variables : ℕ) → w ≡ start given variables → Outside w.scope
outside_at_start w given variables is = rw is refl
