-- Words at work.
use Rattle.std.specs.Prelude.{◌≡◌, ℕ, List, [], ◌∷◌, codes, Option, Some, None, pos, negsuc, true}
use Rattle.ccbox_call_words.specs.Requests.{Options, Check, Split, Run, Exec, Request, request_of, no_options, input_list}

abbrev run_with : List (List ℕ) → Option Request
run_with words = request_of (codes "run" ∷ codes "a.c" ∷ words)

abbrev asks : Options → Option Request
asks options = Some (Run (codes "a.c") options)

-- each option by itself, in both of its forms where it has two
abbrev pub alone : Type 0
alone =
    (run_with [] ≡ asks no_options)
    × (run_with (codes "--acts" ∷ codes "f" ∷ []) ≡ asks (record no_options { acts = Some (codes "f") }))
    × (run_with (codes "--acts=f" ∷ []) ≡ asks (record no_options { acts = Some (codes "f") }))
    × (run_with (codes "--acts=" ∷ []) ≡ asks (record no_options { acts = Some [] }))
    × (run_with (codes "--acts=a=b" ∷ []) ≡ asks (record no_options { acts = Some (codes "a=b") }))
    × (run_with (codes "--input" ∷ codes "7" ∷ []) ≡ asks (record no_options { input = Some (pos 7 ∷ []) }))
    × (run_with (codes "--input=-1,02" ∷ []) ≡ asks (record no_options { input = Some (negsuc 0 ∷ pos 2 ∷ []) }))
    × (run_with (codes "--budget" ∷ codes "1" ∷ []) ≡ asks (record no_options { budget = Some 1 }))
    × (run_with (codes "--sandbox" ∷ codes "000065536" ∷ []) ≡ asks (record no_options { sandbox = Some 65536 }))
    × (run_with (codes "--trusted=4194304" ∷ []) ≡ asks (record no_options { trusted = Some 4194304 }))
    × (run_with (codes "--base" ∷ codes "16" ∷ []) ≡ asks (record no_options { base = Some 16 }))
    × (run_with (codes "--view" ∷ []) ≡ asks (record no_options { view = true }))
    × (run_with (codes "--releases" ∷ []) ≡ asks (record no_options { releases = true }))
    × (run_with (codes "--dump" ∷ []) ≡ asks (record no_options { dump = true }))

-- the commands that take a file alone
abbrev pub commands : Type 0
commands =
    (request_of (codes "check" ∷ codes "a.c" ∷ []) ≡ Some (Check (codes "a.c")))
    × (request_of (codes "split" ∷ codes "a.c" ∷ []) ≡ Some (Split (codes "a.c")))
    × (request_of (codes "check" ∷ [] ∷ []) ≡ Some (Check []))
    × (request_of (codes "check" ∷ []) ≡ None)
    × (request_of (codes "split" ∷ codes "-x" ∷ []) ≡ None)
    × (request_of (codes "check" ∷ codes "a.c" ∷ codes "b.c" ∷ []) ≡ None)
    × (request_of (codes "check" ∷ codes "a.c" ∷ codes "--view" ∷ []) ≡ None)
    × (request_of (codes "--code" ∷ codes "check" ∷ codes "a.c" ∷ []) ≡ None)
    × (request_of (codes "split" ∷ codes "a.c" ∷ codes "--base=16" ∷ []) ≡ None)
    × (request_of (codes "split" ∷ codes "--budget" ∷ codes "1" ∷ codes "a.c" ∷ []) ≡ None)

-- listings are run with the options of sources
abbrev pub listings : Type 0
listings =
    (request_of (codes "exec" ∷ codes "a.txt" ∷ codes "--acts=f" ∷ []) ≡ Some (Exec (codes "a.txt") (record no_options { acts = Some (codes "f") })))
    × (request_of (codes "exec" ∷ codes "a.txt" ∷ codes "--dump" ∷ codes "--acts" ∷ codes "f" ∷ codes "--input=7" ∷ [])
    ≡ Some (Exec (codes "a.txt") (record no_options {
      acts = Some (codes "f");
      input = Some (pos 7
          ∷ []);
      dump = true;
    })))
    × (request_of (codes "exec" ∷ codes "a.txt" ∷ []) ≡ Some (Exec (codes "a.txt") no_options))
    × (request_of (codes "exec" ∷ codes "a.txt" ∷ codes "--view" ∷ []) ≡ Some (Exec (codes "a.txt") (record no_options { view = true })))
    × (request_of (codes "exec" ∷ []) ≡ None)
    × (request_of (codes "exec" ∷ codes "--acts=f" ∷ []) ≡ None)
    × (request_of (codes "exec" ∷ codes "-a" ∷ codes "--acts=f" ∷ []) ≡ None)
    × (request_of (codes "exec" ∷ codes "a.txt" ∷ codes "--acts=f" ∷ codes "b.txt" ∷ []) ≡ None)

-- several, in any order
abbrev pub together : Type 0
together =
    run_with (codes "--view" ∷ codes "--acts=f" ∷ codes "--dump" ∷ codes "--sandbox" ∷ codes "65536" ∷ codes "--input=1" ∷ codes "--releases" ∷ codes "--base"
    ∷ codes "1048576" ∷ [])
    ≡ asks (record no_options {
      acts = Some (codes "f");
      input = Some (pos 1
          ∷ []);
      sandbox = Some 65536;
      base = Some 1048576;
      view = true;
      releases = true;
      dump = true;
    })

-- options stand anywhere. Behind `--` each word stands by itself, and so does a lone hyphen
abbrev pub places : Type 0
places =
    (request_of (codes "--view" ∷ codes "run" ∷ codes "a.c" ∷ []) ≡ asks (record no_options { view = true }))
    × (request_of (codes "run" ∷ codes "--budget" ∷ codes "5" ∷ codes "a.c" ∷ []) ≡ asks (record no_options { budget = Some 5 }))
    × (request_of (codes "--acts" ∷ codes "f" ∷ codes "exec" ∷ codes "--dump" ∷ codes "a.txt" ∷ [])
    ≡ Some (Exec (codes "a.txt") (record no_options { acts = Some (codes "f"); dump = true })))
    × (request_of (codes "run" ∷ codes "--" ∷ codes "-x" ∷ []) ≡ Some (Run (codes "-x") no_options))
    × (request_of (codes "--view" ∷ codes "--" ∷ codes "run" ∷ codes "a.c" ∷ []) ≡ asks (record no_options { view = true }))
    × (request_of (codes "run" ∷ codes "a.c" ∷ codes "--" ∷ codes "--view" ∷ []) ≡ None)
    × (request_of (codes "check" ∷ codes "-" ∷ []) ≡ Some (Check (codes "-")))
    × (run_with (codes "--acts" ∷ codes "-" ∷ []) ≡ asks (record no_options { acts = Some (codes "-") }))
    × (run_with (codes "--acts=-f" ∷ []) ≡ asks (record no_options { acts = Some (codes "-f") }))
    × (run_with (codes "--acts=--view" ∷ []) ≡ asks (record no_options { acts = Some (codes "--view") }))

-- words that spell no request
abbrev pub refused : Type 0
refused =
    (request_of [] ≡ None)
    × (request_of (codes "run" ∷ []) ≡ None)
    × (request_of (codes "--help" ∷ []) ≡ None)
    × (request_of (codes "-h" ∷ []) ≡ None)
    × (request_of (codes "help" ∷ codes "run" ∷ []) ≡ None)
    × (request_of (codes "run" ∷ codes "--help" ∷ codes "a.c" ∷ []) ≡ None)
    × (request_of (codes "--version" ∷ []) ≡ None)
    × (request_of (codes "record" ∷ codes "a.c" ∷ []) ≡ None)
    × (request_of (codes "big" ∷ codes "1" ∷ codes "2" ∷ []) ≡ None)
    × (request_of (codes "run" ∷ codes "a.c" ∷ codes "b.c" ∷ codes "c.c" ∷ []) ≡ None)
    × (request_of (codes "walk" ∷ codes "a.c" ∷ []) ≡ None)
    × (request_of (codes "run" ∷ codes "-x" ∷ []) ≡ None)
    × (run_with (codes "b.c" ∷ []) ≡ None)
    × (run_with (codes "--view=1" ∷ []) ≡ None)
    × (run_with (codes "--views" ∷ []) ≡ None)
    × (run_with (codes "--acts" ∷ []) ≡ None)
    × (run_with (codes "--acts" ∷ codes "-f" ∷ []) ≡ None)
    × (run_with (codes "--acts" ∷ codes "--view" ∷ []) ≡ None)
    × (run_with (codes "--vie" ∷ []) ≡ None)
    × (run_with (codes "-v" ∷ []) ≡ None)
    × (run_with (codes "--code" ∷ []) ≡ None)
    × (run_with (codes "--sandbox=" ∷ []) ≡ None)
    × (run_with (codes "--sandbox" ∷ codes "+65536" ∷ []) ≡ None)
    × (run_with (codes "--sandbox" ∷ codes "65535" ∷ []) ≡ None)
    × (run_with (codes "--sandbox=16777217" ∷ []) ≡ None)
    × (run_with (codes "--trusted=65535" ∷ []) ≡ None)
    × (run_with (codes "--trusted=4194305" ∷ []) ≡ None)
    × (run_with (codes "--budget" ∷ codes "0" ∷ []) ≡ None)
    × (run_with (codes "--budget=1000000001" ∷ []) ≡ None)
    × (run_with (codes "--base=0" ∷ []) ≡ None)
    × (run_with (codes "--base=17" ∷ []) ≡ None)
    × (run_with (codes "--base=4026531856" ∷ []) ≡ None)
    × (run_with (codes "--input" ∷ codes "-1" ∷ []) ≡ None)

-- no option is chosen twice
abbrev pub twice : Type 0
twice =
    (run_with (codes "--acts=f" ∷ codes "--acts=f" ∷ []) ≡ None)
    × (run_with (codes "--input=1" ∷ codes "--input=1" ∷ []) ≡ None)
    × (run_with (codes "--budget=1" ∷ codes "--budget=1" ∷ []) ≡ None)
    × (run_with (codes "--sandbox=65536" ∷ codes "--sandbox" ∷ codes "65536" ∷ []) ≡ None)
    × (run_with (codes "--trusted=65536" ∷ codes "--trusted=65536" ∷ []) ≡ None)
    × (run_with (codes "--base=16" ∷ codes "--base=16" ∷ []) ≡ None)
    × (run_with (codes "--view" ∷ codes "--view" ∷ []) ≡ None)
    × (run_with (codes "--releases" ∷ codes "--releases" ∷ []) ≡ None)
    × (run_with (codes "--dump" ∷ codes "--dump" ∷ []) ≡ None)

-- lists of input numbers
abbrev pub lists : Type 0
lists =
    (input_list (codes "0") ≡ Some (pos 0 ∷ []))
    × (input_list (codes "-0,007") ≡ Some (pos 0 ∷ pos 7 ∷ []))
    × (input_list (codes "-2147483648,2147483647") ≡ Some (negsuc 2147483647 ∷ pos 2147483647 ∷ []))
    × (input_list (codes "2147483648") ≡ None)
    × (input_list (codes "-2147483649") ≡ None)
    × (input_list [] ≡ None)
    × (input_list (codes "1,") ≡ None)
    × (input_list (codes "1,,2") ≡ None)
    × (input_list (codes "--1") ≡ None)
    × (input_list (codes "1 ,2") ≡ None)
