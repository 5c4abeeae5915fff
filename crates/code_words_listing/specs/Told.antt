-- For private clauses: the line that is told by a line that is read.
use Rattle.code_words_listing.specs.declared.read_lines.ReadLine.{ReadLine}
use Rattle.code_words_listing.specs.declared.read_lines.ReadLine.TheVariants as reads
use Rattle.code_words_listing.specs.Lines.{Line, Heading, TrustedSide, StaticBlock, TaintedFunction, Entry, Parameter, Begin, Instruction, End, Main}
use Rattle.code_words_listing.specs.Lines.{SandboxSide, Close}

abbrev pub told : ReadLine → Line
told reads.Heading = Heading
told reads.TrustedSide = TrustedSide
told (reads.StaticBlock number bytes) = StaticBlock number bytes.items
told (reads.TaintedFunction number name args result) = TaintedFunction (record { number = number; name = name.now; args = args; result = result })
told (reads.Entry number fun args result) = Entry number fun args result
told (reads.Parameter p) = Parameter p
told (reads.Begin number name args slots stack result) = Begin number name.now args slots stack result
told (reads.Instruction op) = Instruction op
told reads.End = End
told (reads.Main number) = Main number
told reads.SandboxSide = SandboxSide
told reads.Close = Close
