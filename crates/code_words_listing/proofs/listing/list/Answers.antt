use Rattle.std.proofs.Common.{[], ◌∷◌, ◌++◌, List, ap, ◌∙◌, map, flat_map}
use Rattle.code_words_listing.specs.Lines.{Line, Heading, TrustedSide, TaintedFunction, SandboxSide, Close}
use Rattle.code_words_listing.specs.Listings.{lines_text, block_lines, callback_lines, function_lines, main_lines, trusted_lines, sandbox_lines}
use Rattle.code_words_listing.proofs.Written.{written-behind}
use Rattle.code_words_listing.proofs.listing.list.Goals as goal

pub returns : goal.returns
returns c =
    let image = c.args.image.now in
    let main = written-behind (flat_map function_lines image.trusted.funs) (main_lines image.layout.main) c.put_callbacks.new.out.items c.put_functions.new.out.items c.put_main.new.out.items
    (c.in_ok-put_functions.ensures ∙ ap (λ funs. c.put_callbacks.new.out.items ++ lines_text (flat_map function_lines funs)) c.functions.ensures.functions)
    (c.in_ok-put_main.ensures ∙ ap (λ number. c.put_functions.new.out.items ++ lines_text (main_lines number)) c.main.ensures) in
    let callbacks = written-behind (flat_map callback_lines image.layout.callbacks) _ c.put_imports.new.out.items c.put_callbacks.new.out.items c.put_main.new.out.items
    (c.in_ok-put_callbacks.ensures ∙ ap (λ callbacks. c.put_imports.new.out.items ++ lines_text (flat_map callback_lines callbacks)) c.callbacks.ensures) main in
    let imports = written-behind (map TaintedFunction image.layout.imports) _ c.put_blocks.new.out.items c.put_imports.new.out.items c.put_main.new.out.items
    (c.in_ok-put_imports.ensures ∙ ap (λ imports. c.put_blocks.new.out.items ++ lines_text (map TaintedFunction imports)) c.imports.ensures) callbacks in
    let trusted = written-behind (block_lines 0 image.trusted.blocks) _ c.put_line-2.new.out.items c.put_blocks.new.out.items c.put_main.new.out.items
    (c.in_ok-put_blocks.ensures ∙ ap (λ blocks. c.put_line-2.new.out.items ++ lines_text (block_lines 0 blocks)) c.trusted_blocks.ensures) imports in
    let sandbox = written-behind (block_lines 0 image.sandbox.blocks) (flat_map function_lines image.sandbox.funs) c.put_line-3.new.out.items c.put_blocks-2.new.out.items c.put_functions-2.new.out.items
    (c.in_ok-put_blocks-2.ensures ∙ ap (λ blocks. c.put_line-3.new.out.items ++ lines_text (block_lines 0 blocks)) c.sandbox_blocks.ensures)
    (c.in_ok-put_functions-2.ensures ∙ ap (λ funs. c.put_blocks-2.new.out.items ++ lines_text (flat_map function_lines funs)) (c.as_slice.ensures ∙ ap (λ i. i.sandbox.funs) c.image.view_is)) in
    let later = written-behind (SandboxSide ∷ []) (sandbox_lines image ++ Close ∷ []) c.put_main.new.out.items c.put_line-3.new.out.items c.put_line-4.new.out.items c.in_ok-put_line-3.ensures
    (written-behind (sandbox_lines image) (Close ∷ []) c.put_line-3.new.out.items c.put_functions-2.new.out.items c.put_line-4.new.out.items sandbox c.in_ok-put_line-4.ensures) in
    let later_lines : List Line = SandboxSide ∷ (sandbox_lines image ++ Close ∷ []) in
    written-behind (Heading ∷ []) (TrustedSide ∷ (trusted_lines image ++ later_lines)) [] c.put_line.new.out.items c.put_line-4.new.out.items
    (c.in_ok-put_line.ensures ∙ ap (λ out. out ++ lines_text (Heading ∷ [])) c.new-out.ensures.items)
    (written-behind (TrustedSide ∷ []) (trusted_lines image ++ later_lines) c.put_line.new.out.items c.put_line-2.new.out.items c.put_line-4.new.out.items c.in_ok-put_line-2.ensures
    (written-behind (trusted_lines image) later_lines c.put_line-2.new.out.items c.put_main.new.out.items c.put_line-4.new.out.items trusted later))
