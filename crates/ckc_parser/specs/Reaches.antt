-- Inside: the deepest node of a form, in the code's type.
use Rattle.ckc_tree.specs.Heights.{Reach}
use Rattle.ckc_parser.specs.declared.operand.Reach as code

-- the reach that a value of the code's type stands for
abbrev pub reach_of : code.Reach → Reach
reach_of r = record { height = r.height; start = r.start }
