-- For private clauses: the state of a listing that is told by what has been read of it.
use Rattle.code_words.specs.declared.image.Callback.{Callback}
use Rattle.code_words.specs.declared.image.SideCode.{SideCode}
use Rattle.code_words.specs.Functions.{Func}
use Rattle.code_words.specs.Images.{Image}
use Rattle.code_words_listing.specs.declared.drafts.Draft.{Draft}
use Rattle.code_words_listing.specs.declared.drafts.DraftSide.{DraftSide}
use Rattle.code_words_listing.specs.declared.drafts.BegunCallback.{BegunCallback}
use Rattle.code_words_listing.specs.declared.drafts.BegunFunction.{BegunFunction}

abbrev pub side : DraftSide → SideCode
side s = record { blocks = s.blocks.items; funs = s.funs.items }

-- the image with such a side of the sandbox
abbrev pub image : Draft → SideCode → Image
image d sandbox =
    record { trusted = side d.code; sandbox = sandbox; layout = record { imports = d.imports.items; callbacks = d.callbacks.items; main = d.main } }

abbrev pub callback : BegunCallback → Callback
callback c = record { number = c.number; fun = c.fun; signature = c.params.items; result = c.result }

abbrev pub function : BegunFunction → Func
function f = record { number = f.number; name = f.name; args = f.args; slots = f.slots; stack = f.stack; result = f.result; ops = f.ops.items }
