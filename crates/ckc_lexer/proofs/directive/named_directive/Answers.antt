use Rattle.std.proofs.Common.{◌≡◌, true, List, ℕ, sym, subst, ap}
use Rattle.ckc_text.specs.Names.{is_letter, begins_with, IsName}
use Rattle.ckc_lexer.proofs.Words.{part_name}
use Rattle.ckc_lexer.proofs.directive.named_directive.Goals as goal

pub definition_of-requires : goal.definition_of-requires
definition_of-requires c =
    subst (λ (name : List ℕ). begins_with is_letter name ≡ true → IsName name) (sym (ap (λ (x : List ℕ × List ℕ). x.0) c.part-then-eq.ensures)) (part_name c.part.result.1.now)
