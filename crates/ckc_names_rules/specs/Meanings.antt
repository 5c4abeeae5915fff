-- Inside: what a name stands for, as the code holds it.
use Rattle.ckc_names_rules.specs.declared.meaning.Meaning as code
use Rattle.ckc_names_rules.specs.declared.meaning.Meaning.TheVariants as meanings
use Rattle.ckc_names_rules.specs.Scopes.{Meaning, Coming, Variable, Function}

-- what a value of the code's type stands for
abbrev pub meaning : code.Meaning → Meaning
meaning meanings.Coming = Coming
meaning meanings.Variable = Variable
meaning (meanings.Function defined) = Function defined
