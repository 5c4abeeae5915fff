-- How an image in code and its parts are seen, and what is always true of an image.
use Rattle.code_words.specs.declared.image.Func.TheInside as function
use Rattle.code_words.specs.declared.image.Import.TheInside as tainted
use Rattle.code_words.specs.declared.image.Image.TheInside.{Inside}
use Rattle.code_words.specs.Functions.{Func, Import}
use Rattle.code_words.specs.Images.{Image}
use Rattle.code_words.specs.Formats.{KeepsFormat, HasNames}

abbrev pub func : function.Inside → Func
func f = record { number = f.number; name = f.name; args = f.args; slots = f.slots; stack = f.stack; result = f.result; ops = f.ops }

abbrev pub import : tainted.Inside → Import
import i = record { number = i.number; name = i.name; args = i.args; result = i.result }

abbrev pub image : Inside → Image
image i = record { trusted = i.trusted; sandbox = i.sandbox; layout = i.layout }

pub record IsImage (i : Inside) : Type 0 where
  pub format : KeepsFormat (image i)
  pub names : HasNames (image i)
