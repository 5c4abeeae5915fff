use Rattle.std.proofs.Common.{codes, refl}
use Rattle.clap.specs.Words.{found_of}
use Rattle.ccbox_call_words.proofs.Matches.{read}
use Rattle.ccbox_call_words.proofs.command_line.found_in.Goals as goal

pub returns : goal.returns
returns c =
    let f = found_of c.args.matches.now in
    rw (
      c.is_true.ensures,
      c.is_true-2.ensures,
      c.is_true-3.ensures,
      c.is_true-4.ensures,
      read f (codes "command") c.get_str.result c.get_str.ensures,
      read f (codes "first") c.get_str-2.result c.get_str-2.ensures,
      read f (codes "second") c.get_str-3.result c.get_str-3.ensures,
      read f (codes "acts") c.get_str-4.result c.get_str-4.ensures,
      read f (codes "input") c.get_str-5.result c.get_str-5.ensures,
      read f (codes "budget") c.get_str-6.result c.get_str-6.ensures,
      read f (codes "sandbox") c.get_str-7.result c.get_str-7.ensures,
      read f (codes "trusted") c.get_str-8.result c.get_str-8.ensures,
      read f (codes "base") c.get_str-9.result c.get_str-9.ensures,
      read f (codes "view") c.get_str-10.result c.get_str-10.ensures,
      read f (codes "releases") c.get_str-11.result c.get_str-11.ensures,
      read f (codes "dump") c.get_str-12.result c.get_str-12.ensures,
      read f (codes "code") c.get_str-13.result c.get_str-13.ensures,
    ) refl
