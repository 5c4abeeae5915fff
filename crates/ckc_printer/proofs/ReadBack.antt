-- What a tree that was read is printed as reads to the same tree but for its spans.
use Rattle.std.proofs.Common.{◌≤◌, length, arith}
use Rattle.ckc_tree.specs.Heights.{height}
use Rattle.ckc_tree.proofs.SameHeights.{same_height}
use Rattle.ckc_printer.specs.ItemPieces.{program_pieces, program_text}
use Rattle.ckc_printer.specs.ReadingBack.{TokensAreLexical, PiecesLexBack, ReadsBack}
use Rattle.ckc_printer.proofs.ReadItems.{spelled_back}
use Rattle.ckc_printer.proofs.PrintableItems.{tree_can}

pub read_back : TokensAreLexical → PiecesLexBack → ReadsBack
read_back are_lexical lex_back src tokens t bytes lexed is short few =
    let printed = lex_back (program_pieces t) (tree_can (length src) tokens t (are_lexical src tokens bytes lexed) is.spelled) short few in
    let back = spelled_back (length src) (length (program_text t)) tokens printed.0 t is.spelled printed.2 in
    let low : height back.0 ≤ 200 = omega (arith, same_height back.0 t back.2, is.low) in
    (printed.0, printed.1, (back.0, record { spelled = back.1; low = low }, back.2))
