use Rattle.std.proofs.lemmas.Grind.{elements}
use Rattle.std.proofs.Common.{◌≡◌, ℕ, zero, suc, ◌≤◌, false, List, refl, arith}
use Rattle.code_words.specs.declared.op.Op.{Op}
use Rattle.code_words.specs.Paced.{follows_tick}
use Rattle.code_words_listing.proofs.pace.follows_tick.Goals as goal

none-before : (ops : List Op) (place : ℕ) → (1 ≤ place → ⊥) → false ≡ follows_tick ops place
none-before ops zero h = refl
none-before ops (suc before) h = absurd (h (omega arith))

pub returns-in-None : goal.returns-in-None
returns-in-None c = none-before c.args.ops.now c.args.place c.in-None.ensures

pub returns-in-Some-get : goal.returns-in-Some-get
returns-in-Some-get c = grind (arith, elements)

pub returns-in-None-get : goal.returns-in-None-get
returns-in-None-get c = grind (arith, elements)
