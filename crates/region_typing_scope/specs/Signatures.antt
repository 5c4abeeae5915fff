-- Inside: what the code's declared functions stand for.
use Rattle.std.specs.Prelude.{map}
use Rattle.std.specs.Option.{option_map}
use Rattle.pointer_modes.specs.Types.{ctype}
use Rattle.region_typing_rules.specs.Scopes.{Signature}
use Rattle.region_typing_scope.specs.declared.signature.Signature as code

abbrev pub signature : code.Signature → Signature
signature f = record {
  name = f.name;
  text = f.text;
  kind = f.kind;
  parameters = map ctype f.parameters.items;
  bounds = f.bounds.items;
  result = option_map ctype f.result;
  result_bounds = f.result_bounds;
}
