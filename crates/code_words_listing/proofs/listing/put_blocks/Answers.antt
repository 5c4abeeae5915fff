use Rattle.std.proofs.Common.{◌∷◌, ◌++◌, [], suc, drop, ap, sym, ◌∙◌, drop-cons}
use Rattle.code_words_listing.specs.Lines.{StaticBlock}
use Rattle.code_words_listing.specs.Listings.{lines_text}
use Rattle.code_words_listing.proofs.Written.{blocks-from}
use Rattle.code_words_listing.proofs.listing.put_blocks.Goals as goal

pub loop-number-preserved : goal.loop-number-preserved
loop-number-preserved c =
    blocks-from c.loop-number.number c.args.blocks.now c.index-blocks-number.result c.loop-number.out.items c.put_block.new.out.items _
    (drop-cons c.args.blocks.now c.loop-number.number c.index-blocks-number.result c.loop-number-test.true ∙ ap (λ b. b ∷ drop (suc c.loop-number.number) c.args.blocks.now) (sym c.index-blocks-number.is))
    (c.in_ok-put_block.ensures ∙ ap (λ b. c.loop-number.out.items ++ lines_text (StaticBlock c.loop-number.number b ∷ [])) c.as_slice.ensures) c.loop-number.invariant
