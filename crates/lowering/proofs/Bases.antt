-- What is seen of a program's runs is the same at every base address.
use Rattle.std.proofs.Common.{◌≡◌, ℤ, List, sym, ap, ◌∙◌}
use Rattle.std.specs.Prelude.{IsTrue, All}
use Rattle.act_words.specs.declared.ending.Ending.{Ending}
use Rattle.act_words.specs.declared.settings.Settings.{Settings}
use Rattle.act_words.specs.Acts.{Act, IsAct}
use Rattle.act_words.specs.Checks.{is_word_number}
use Rattle.act_words.specs.Limits.{AreAllowed}
use Rattle.ckc_core.specs.Outcome.{Ends}
use Rattle.act_words.specs.View.{output_of, releases_of, view_of}
use Rattle.act_words.specs.World.{World}
use Rattle.check_insertion.specs.Erased.{Erased}
use Rattle.check_insertion.specs.ErasedMeaning as meaning
use Rattle.ckc_core.specs.States as meaning_states
use Rattle.code_words.specs.declared.image.Image.{Image}
use Rattle.code_words.specs.Table.{State}
use Rattle.code_words.specs.Runs.{CodeRun, started}
use Rattle.code_words.proofs.Runs.{one_end, same_ending, same_last}
use Rattle.lowering.specs.Images.{image_of}
use Rattle.lowering.specs.Correct.{IsLowerable, AgreesAtBases}
use Rattle.lowering.proofs.Fits.{image_keeps}

-- all runs of the image at this base address end as the program's meaning does, in the same world
pub record EndsAs (image : Image) (settings : Settings) (inputs : List ℤ) (acts : List Act) (ending : Ending) (w : World) : Type 0 where
  pub each : (other : Ending) (t : State) → CodeRun image settings inputs acts other t → (other ≡ ending) × (t.world ≡ w)

ends_as : (program : Erased) → IsLowerable program → (settings : Settings) (inputs : List ℤ) (acts : List Act) (ending : Ending) (s : meaning_states.State) → AreAllowed settings → All (λ z. IsTrue (is_word_number z)) inputs → All IsAct acts → meaning.meaning program settings inputs acts ≡ Ends ending s → EndsAs (image_of program) settings inputs acts ending s.world
ends_as program lowerable settings inputs acts ending s allowed words are runs =
    let k = (image_keeps program lowerable).ends settings inputs acts ending s allowed words are runs in
    record {
      each = λ other t run.
          let both = one_end (image_of program) settings run.0 (k.1).0 (started (image_of program) settings inputs acts) other ending t k.0 run.1 (k.1).1 in
          (same_ending other ending t k.0 both, ap (λ (x : State). x.world) (same_last other ending t k.0 both) ∙ k.2.world);
    }

pub bases_agree : (program : Erased) (settings : Settings) (inputs : List ℤ) (acts : List Act) (ending : Ending) (s : meaning_states.State) → IsLowerable program → AreAllowed settings → All (λ z. IsTrue (is_word_number z)) inputs → All IsAct acts → meaning.meaning program settings inputs acts ≡ Ends ending s → AgreesAtBases (image_of program) settings inputs acts
bases_agree program settings inputs acts ending s lowerable allowed words are runs = λ base first second t u also run other.
    let here = (ends_as program lowerable settings inputs acts ending s allowed words are runs).each first t run in
    let there = (ends_as program lowerable (record settings { base = base }) inputs acts ending s also words are runs).each second u other in
    let same : t.world ≡ u.world = here.1 ∙ sym there.1 in
    record {
      same_ending = here.0 ∙ sym there.0;
      output = ap (λ (w : World). output_of w.events) same;
      taken = ap (λ (w : World). w.taken) same;
      left = ap (λ (w : World). w.acts) same;
      releases = ap (λ (w : World). releases_of w.events) same;
      view = ap (λ (w : World). view_of w.events) same;
    }
