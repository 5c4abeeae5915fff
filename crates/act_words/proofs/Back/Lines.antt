-- What the line of an act says is the act.
use Rattle.std.proofs.Common.{◌≡◌, sym, ◌∙◌}
use Rattle.std.proofs.lemmas.Str.{IsUtf8-from_ascii}
use Rattle.act_words.specs.Acts.{Act, IsAct}
use Rattle.act_words.specs.Lines.{act_text}
use Rattle.act_words.specs.Readings.{Says, line_reading}
use Rattle.act_words.specs.Values.{act_value}
use Rattle.act_words.proofs.Plain.{valued_line}
use Rattle.act_words.proofs.Back.Texts.{read-act_text}
use Rattle.act_words.proofs.Back.Saying.{saying}
use Rattle.act_words.proofs.Back.Lengths.{ascii-act_text, short-act_text}

pub reading-act_text : (a : Act) → IsAct a → line_reading (act_text a) ≡ Says a
reading-act_text a h = sym (valued_line (act_text a) (act_value a) (short-act_text a h) (IsUtf8-from_ascii (act_text a) (ascii-act_text a h)) (read-act_text a h)) ∙ saying a h
