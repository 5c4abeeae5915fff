-- Inside: what the code's types stand for.
use Rattle.std.specs.Prelude.{ℕ, map, reverse, Vec}
use Rattle.std.proofs.Common.{Global}
use Rattle.std.specs.Option.{option_map}
use Rattle.pointer_modes.specs.Types.{ctype}
use Rattle.region_typing_rules.specs.Scopes.{FileVariable, Named, Scope, object_of}
use Rattle.region_typing_scope.specs.declared.scope as code
use Rattle.region_typing_scope.specs.declared.lookups as lookups_code
pub use Rattle.region_typing_scope.specs.Signatures.{signature}
pub use Rattle.region_typing_scope.specs.Strings.{strings}
pub use Rattle.region_typing_scope.specs.Visibles.{visible}

abbrev pub variable : code.Variable.Variable → FileVariable
variable v = record { name = v.name; type = ctype v.ctype; length = v.length; ended = v.ended; bounds = v.bounds }

-- what the name of a file-level variable stands for
abbrev pub known_object : lookups_code.KnownObject.KnownObject → Named
known_object k = object_of k.number (variable k.variable.now) k.variable.now.length

abbrev pub scope : code.Scope.Scope → Scope
scope s = record {
  given = s.given;
  tags = s.tags.items;
  members = map (λ (v : Vec ℕ Global). v.items) s.members.items;
  structs = s.structs;
  functions = map signature s.functions.items;
  variables = map variable s.variables.items;
  strings = strings s.strings;
  locals = map ctype s.locals.items;
  arrays = reverse s.arrays.items;
  visible = reverse (map visible s.visible.items);
  result = option_map ctype s.result;
  result_bounds = s.result_bounds;
  in_loop = s.in_loop;
  outside = s.outside;
  is_off = s.is_off;
  flow = s.flow;
  breaks = s.breaks;
  continues = s.continues;
}
