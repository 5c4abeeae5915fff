use Rattle.std.proofs.Common.{sym, subst}
use Rattle.act_words.proofs.Views.{HasFolded, views_of_one_list, views_of_same_acts}
use Rattle.act_words.specs.View.{ViewIsFold}
use Rattle.code_words.specs.Runs.{started}
use Rattle.code_words.proofs.Worlds.{folded}
use Rattle.code_words.proofs.laws.views_agree.Goals as goal

pub returns : goal.returns
returns c =
    record {
      one_list = λ first second settings others inputs more acts ending end t u run other start releases.
          let begin = (started first settings inputs acts).world.sandbox in
          views_of_one_list begin acts t.world u.world (folded first settings inputs acts ending t run)
          (subst (λ bytes. HasFolded bytes acts u.world) (sym start) (folded second others more acts end u other)) releases;
      same_acts = λ first second settings others inputs more acts also taken ending end t u run other start is also_is releases.
          let begin = (started first settings inputs acts).world.sandbox in
          views_of_same_acts begin acts also taken t.world u.world (folded first settings inputs acts ending t run).fold
          (subst (λ bytes. ViewIsFold bytes also u.world) (sym start) (folded second others more also end u other).fold) is also_is releases;
    }
