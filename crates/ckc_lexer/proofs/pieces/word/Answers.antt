use Rattle.std.proofs.Common.{◌≡◌, true, length, take, subst, sym}
use Rattle.std.specs.List.{prefix_len}
use Rattle.ckc_text.specs.Names.{is_word_byte, begins_with}
use Rattle.ckc_lexer.proofs.Words.{word_text}
use Rattle.ckc_lexer.proofs.pieces.word.Goals as goal

pub word_piece-requires-clause-starts : goal.word_piece-requires-clause-starts
word_piece-requires-clause-starts c =
    subst (λ n. begins_with is_word_byte (take n c.args.text.now) ≡ true) (sym c.word_len-len.ensures.len) (word_text c.args.text.now c.requires).starts

pub word_piece-requires-clause-whole : goal.word_piece-requires-clause-whole
word_piece-requires-clause-whole c =
    subst (λ n. prefix_len is_word_byte (take n c.args.text.now) ≡ length (take n c.args.text.now)) (sym c.word_len-len.ensures.len) (word_text c.args.text.now c.requires).whole
