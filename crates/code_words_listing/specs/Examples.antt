-- Small images, for their listings.
use Rattle.std.specs.Prelude.{ℕ, List, [], ◌∷◌, ◌++◌, Some, None, pos, negsuc, codes}
use Rattle.ckc_text.specs.declared.place.Place.{Place}
use Rattle.marshalling.specs.declared.kind.WordKind.TheVariants as kinds
use Rattle.code_words.specs.declared.op.Op.TheVariants as ops
use Rattle.code_words.specs.Images.{Image}

abbrev at : ℕ → ℕ → Place
at line col = record { line = line; col = col }

-- an image with a line of each form
abbrev pub small_image : Image
small_image =
    record {
      trusted =
          record {
            blocks = (1 ∷ 0 ∷ 0 ∷ 0 ∷ []) ∷ [];
            funs =
                (record {
                  number = 0;
                  name = codes "main";
                  args = 0;
                  slots = 1;
                  stack = 5;
                  result = kinds.Int;
                  ops = ops.Const (negsuc 2147483647) ∷ ops.Tick ∷ ops.TaintedCall 0 (at 5 10) ∷ ops.In (negsuc 0) (pos 8) 4 (at 6 4294967295) ∷
                      ops.Return ∷ [];
                })
                ∷ (record { number = 1; name = codes "_g"; args = 3; slots = 3; stack = 0; result = kinds.Void; ops = ops.ReturnNothing ∷ [] })
                ∷ [];
          };
      sandbox =
          record {
            blocks = (255 ∷ []) ∷ [];
            funs = (record { number = 0; name = codes "h"; args = 1; slots = 1; stack = 1; result = kinds.Int; ops = ops.Local 0 ∷ ops.Return ∷ [] }) ∷ [];
          };
      layout =
          record {
            imports = (record { number = 0; name = codes "h"; args = 1; result = kinds.Int }) ∷ [];
            callbacks =
                (record {
                  number = 0;
                  fun = 1;
                  result = kinds.Void;
                  signature =
                      (record { kind = kinds.Int; place = at 3 5; region = None })
                      ∷ (record {
                        kind = kinds.Pointer;
                        place = at 3 12;
                        region = Some (record {
                          base = 1;
                          lo_var = None;
                          lo_plus = negsuc 0;
                          hi_var = Some 0;
                          hi_plus = pos 8;
                          size = 4;
                          more = 1;
                        });
                      })
                      ∷ (record { kind = kinds.Pointer; place = at 3 20; region = None })
                      ∷ [];
                })
                ∷ [];
            main = Some 0;
          };
    }

-- its listing, line by line
abbrev pub small_lines : List (List ℕ)
small_lines =
    codes "ccbox listing 1"
    ∷ codes "trusted"
    ∷ codes "block 0 4 01000000"
    ∷ codes "import 0 h args 1 result int"
    ∷ codes "callback 0 fun 1 args 3 result void"
    ∷ codes "arg int @3:5"
    ∷ codes "arg region 1 - -1 0 8 4 1 @3:12"
    ∷ codes "arg pointer @3:20"
    ∷ codes "fun 0 main args 0 slots 1 stack 5 result int"
    ∷ codes "const -2147483648"
    ∷ codes "tick"
    ∷ codes "tcall 0 @5:10"
    ∷ codes "in -1 8 4 @6:4294967295"
    ∷ codes "ret"
    ∷ codes "end"
    ∷ codes "fun 1 _g args 3 slots 3 stack 0 result void"
    ∷ codes "retv"
    ∷ codes "end"
    ∷ codes "main 0"
    ∷ codes "sandbox"
    ∷ codes "block 0 1 ff"
    ∷ codes "fun 0 h args 1 slots 1 stack 1 result int"
    ∷ codes "local 0"
    ∷ codes "ret"
    ∷ codes "end"
    ∷ codes "close"
    ∷ []

-- ---- small texts

-- a tainted function before a static block
abbrev pub import_then_block : List (List ℕ)
import_then_block =
    codes "ccbox listing 1" ∷ codes "trusted" ∷ codes "import 0 h args 0 result int" ∷ codes "block 0 1 00" ∷ codes "sandbox" ∷ codes "close" ∷ []

-- blocks that aren't numbered from 0
abbrev pub second_block_first : List (List ℕ)
second_block_first =
    codes "ccbox listing 1" ∷ codes "trusted" ∷ codes "block 1 1 00" ∷ codes "block 0 1 00" ∷ codes "sandbox" ∷ codes "close" ∷ []

-- one function with this code, from line 4 on
abbrev pub with_code : List (List ℕ) → List (List ℕ)
with_code code =
    codes "ccbox listing 1" ∷ codes "trusted" ∷ codes "fun 0 main args 0 slots 0 stack 2 result int"
    ∷ (code ++ codes "end" ∷ codes "main 0" ∷ codes "sandbox" ∷ codes "close" ∷ [])

abbrev pub without_close : List (List ℕ)
without_close = codes "ccbox listing 1" ∷ codes "trusted" ∷ codes "sandbox" ∷ []
