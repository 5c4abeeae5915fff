-- Inside: locals that become visible.
use Rattle.std.specs.Prelude.{◌≡◌, ◌≤◌, ℕ, Bool, List, ◌++◌, length, Option}
use Rattle.bounds_flow.specs.Flows.{Knowledge}
use Rattle.pointer_modes.specs.Types.{CType}
use Rattle.region_typing_rules.specs.Scopes.{Visible}
use Rattle.region_typing_scope.specs.declared.scope as code
use Rattle.region_typing_scope.specs.declared.visible as visible_code
use Rattle.region_typing_scope.specs.Views.{scope}

-- locals are added, of which some may be visible besides; what stands at file level stays, and flows have as many variables
pub record Grows (old new : code.Scope.Scope) : Type 0 where
  pub more : List visible_code.Visible.Visible
  pub seen : new.visible.items ≡ old.visible.items ++ more
  pub types : List CType
  pub arrays : List ℕ
  pub names : List Visible
  pub loop : Bool
  pub outside : ℕ
  pub flow : Knowledge
  pub breaks : Option Knowledge
  pub continues : Option Knowledge
  pub file : scope new
      ≡ record (scope old) {
        locals = types;
        arrays = arrays;
        visible = names;
        in_loop = loop;
        outside = outside;
        flow = flow;
        breaks = breaks;
        continues = continues;
      }
  pub count : length (scope old).locals ≤ length types
  pub size : flow.vars ≡ old.flow.vars
