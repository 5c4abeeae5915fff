-- Inside: declarations of functions, as the code holds them.
use Rattle.std.specs.Prelude.{List, map}
use Rattle.ckc_tree.specs.Items as i
use Rattle.region_typing_rules.specs.Verdicts.{Verdict, Passes, passing}
use Rattle.region_typing_rules.specs.Scopes.{Scope, Signature}
use Rattle.region_typing_rules.specs.Items.{Parameter, listed, result_type, signature_of}
use Rattle.region_typing_scope.specs.Views.{signature}
use Rattle.region_typing.specs.Items.{heading_of}
use Rattle.region_typing.specs.Parameters.{parameter}
use Rattle.region_typing.specs.declared.prototype.Prototype as code

abbrev pub declared : code.Prototype → Signature × List Parameter
declared d = (signature d.signature, map parameter d.parameters.items)

-- the signature of a function, and its parameters
abbrev pub declared_function : Scope → i.Function → Verdict (Signature × List Parameter)
declared_function g d = passing (result_type g d.result d.stars) (λ result.
    passing (heading_of g (listed d.parameters) result d.bounds) (λ h. Passes (signature_of d result h.0 h.1, h.0)))
