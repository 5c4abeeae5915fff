use Rattle.ckc_text.specs.Names.{is_word_byte}
use Rattle.code_words_listing.proofs.Spelled.{all-word-bytes}
use Rattle.code_words_listing.proofs.words.is_name.Goals as goal

pub returns-then-starts : goal.returns-then-starts
returns-then-starts c = rw (← c.starts.ensures, c.if-starts.true, ← all-word-bytes is_word_byte c.args.word.now) c.are_word_bytes.ensures
