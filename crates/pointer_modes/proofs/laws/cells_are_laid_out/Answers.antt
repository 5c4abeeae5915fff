use Rattle.std.proofs.Common.{arith}
use Rattle.pointer_modes.specs.Layout.{sizes_of}
use Rattle.pointer_modes.proofs.Layouts.{widths, stand, apart, largest_width, none_larger, size_behind, size_aligned}
use Rattle.pointer_modes.proofs.laws.cells_are_laid_out.Goals as goal

pub returns-clause-widths : goal.returns-clause-widths
returns-clause-widths c = λ structs t k d h. (stand 0 (sizes_of structs t) (widths structs t) k d h).width

pub returns-clause-aligned : goal.returns-clause-aligned
returns-clause-aligned c = λ structs t k d h. (stand 0 (sizes_of structs t) (widths structs t) k d h).aligned

pub returns-clause-apart : goal.returns-clause-apart
returns-clause-apart c = λ structs t. apart 0 (sizes_of structs t) (widths structs t)

pub returns-clause-inside : goal.returns-clause-inside
returns-clause-inside c = λ structs t k d h.
    omega (arith, (stand 0 (sizes_of structs t) (widths structs t) k d h).before, size_behind (sizes_of structs t) (widths structs t))

pub returns-clause-multiple : goal.returns-clause-multiple
returns-clause-multiple c = λ structs t. size_aligned (sizes_of structs t) (widths structs t)

pub returns-clause-alignment : goal.returns-clause-alignment
returns-clause-alignment c = λ structs t. largest_width (sizes_of structs t) (widths structs t)

pub returns-clause-largest : goal.returns-clause-largest
returns-clause-largest c = λ structs t. none_larger 0 (sizes_of structs t)
