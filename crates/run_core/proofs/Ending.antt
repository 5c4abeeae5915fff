-- What was written, and what was counted, at the end of a run.
use Rattle.std.proofs.Common.{◌≡◌, ℕ, ℤ, List, ◌++◌, Option, Result, Ok, Err, refl, subst, append_assoc, arith}
use Rattle.ckc_io.specs.Files.{Files}
use Rattle.act_words.specs.declared.ending.Ending.{Ending}
use Rattle.act_words.specs.declared.settings.Settings.{Settings}
use Rattle.act_words.specs.Shown.{Shown}
use Rattle.code_words.specs.declared.image.Image.{Image}
use Rattle.run_core.specs.declared.fault.RunFault.{RunFault}
use Rattle.run_core.specs.declared.fault.RunFault.TheVariants as faults
use Rattle.act_recorder.specs.Endings.{ending_text}
use Rattle.run_core.specs.Texts.{dump_text, missing_feed, with_last_line}
use Rattle.run_core.specs.Asked.{Answering, PlayCounts}
use Rattle.run_core.specs.Runs.{Outcome, Ends, Comes, CameTo, RunWrites, RunCounts, WritesFront, WritesToWant}
use Rattle.run_core.specs.Progress.{PlayEnds}
use Rattle.run_core.specs.Finishes.{Fronts, Finish, Finishes}

module _ {S : Type 0} (answers : Answering S) (files : Option Files) (image : Image) (settings : Settings) (inputs : List ℤ) (first last : S) (old new : Option (List ℕ)) (before after : ℕ) where
  -- a front of the text of what was come to
  front_of : (outcome : Outcome) (text : List ℕ) → Comes answers files image settings inputs first last outcome text → Fronts text old new → WritesFront answers files image settings inputs first last old new
  front_of outcome text comes front = record { outcome = outcome; text = text; comes = comes; size = front.size; fits = front.fits; front = front.front }

  short_of : CameTo answers files image settings inputs first last → new ≡ old → WritesToWant answers files image settings inputs first last old new
  short_of came nothing = record { came = came; nothing = nothing }

  -- how far the actor had come where the run had come to its end, or to an act that can't be given
  came_to : (outcome : Outcome) (text : List ℕ) → Comes answers files image settings inputs first last outcome text → CameTo answers files image settings inputs first last
  came_to outcome text (Comes.ended acts events blocks chain gave ends) = CameTo.given acts chain
  came_to outcome text (Comes.ran_out acts t chain due ended run) = CameTo.answered acts chain due ended
  came_to outcome text (Comes.refused acts events chain due answered) = CameTo.answered acts chain due answered
  came_to outcome text (Comes.missing acts events chain due answered) = CameTo.answered acts chain due answered

  -- the line of the ending and the blocks behind it are the lines at the end
  same_lines : (text : List ℕ) (blocks : List Shown) (ending : Ending) → with_last_line text (ending_text ending) ++ dump_text settings blocks ≡ with_last_line text (ending_text ending ++ dump_text settings blocks)
  same_lines text blocks ending = append_assoc (text ++ missing_feed text) (ending_text ending) (dump_text settings blocks)

  ends_with : (text : List ℕ) (blocks : List Shown) (ending : Ending) → PlayEnds answers files image settings inputs first last text blocks (Ok ending) → Comes answers files image settings inputs first last (Ends ending) (with_last_line text (ending_text ending ++ dump_text settings blocks))
  ends_with text blocks ending comes = subst (λ whole. Comes answers files image settings inputs first last (Ends ending) whole) (same_lines text blocks ending) comes

  pub run_writes : (text : List ℕ) (blocks : List Shown) (outcome result : Result Ending RunFault) → PlayEnds answers files image settings inputs first last text blocks outcome → Finishes text settings blocks outcome old new before after result → RunWrites answers files image settings inputs first last old new result
  run_writes text blocks (Ok ending) result comes (Finish.whole written counted) = (_, ends_with text blocks ending comes, written)
  run_writes text blocks (Ok ending) result comes (Finish.failed front counted) = front_of _ _ (ends_with text blocks ending comes) front
  run_writes text blocks (Ok ending) result comes (Finish.no_memory written counted) = short_of (came_to _ _ (ends_with text blocks ending comes)) written
  run_writes text blocks (Err (faults.Line line code)) result comes (Finish.whole written counted) = (_, comes, written)
  run_writes text blocks (Err (faults.Line line code)) result comes (Finish.failed front counted) = front_of _ _ comes front
  run_writes text blocks (Err (faults.Line line code)) result comes (Finish.no_memory written counted) = short_of (came_to _ _ comes) written
  run_writes text blocks (Err faults.Missing) result comes (Finish.whole written counted) = (_, comes, written)
  run_writes text blocks (Err faults.Missing) result comes (Finish.failed front counted) = front_of _ _ comes front
  run_writes text blocks (Err faults.Missing) result comes (Finish.no_memory written counted) = short_of (came_to _ _ comes) written
  run_writes text blocks (Err faults.ShelfFailed) result comes finishes = rw finishes.0 (record { due = comes; nothing = finishes.1 })
  run_writes text blocks (Err faults.SinkFailed) result comes finishes = absurd comes
  run_writes text blocks (Err faults.NoMemory) result comes finishes = rw finishes.0 (short_of comes finishes.1)

-- what was counted
pub run_counts : (text : List ℕ) (settings : Settings) (blocks : List Shown) (outcome result : Result Ending RunFault) (old new : Option (List ℕ)) (misses misses' failures failures' before after : ℕ) → PlayCounts outcome misses misses' failures failures' → Finishes text settings blocks outcome old new before after result → RunCounts result (record { misses = misses; faults = failures; sink = before }) (record { misses = misses'; faults = failures'; sink = after })
run_counts text settings blocks (Ok ending) result old new misses misses' failures failures' before after counts (Finish.whole written counted) = rw (counts.0, counts.1, counted) refl
run_counts text settings blocks (Ok ending) result old new misses misses' failures failures' before after counts (Finish.failed front counted) = (omega arith, counts.1, counted)
run_counts text settings blocks (Ok ending) result old new misses misses' failures failures' before after counts (Finish.no_memory written counted) = (omega arith, counts.1, counted)
run_counts text settings blocks (Err (faults.Line line code)) result old new misses misses' failures failures' before after counts (Finish.whole written counted) = rw (counts.0, counts.1, counted) refl
run_counts text settings blocks (Err (faults.Line line code)) result old new misses misses' failures failures' before after counts (Finish.failed front counted) = (omega arith, counts.1, counted)
run_counts text settings blocks (Err (faults.Line line code)) result old new misses misses' failures failures' before after counts (Finish.no_memory written counted) = (omega arith, counts.1, counted)
run_counts text settings blocks (Err faults.Missing) result old new misses misses' failures failures' before after counts (Finish.whole written counted) = (counts.0, counts.1, counted)
run_counts text settings blocks (Err faults.Missing) result old new misses misses' failures failures' before after counts (Finish.failed front counted) = (counts.0.no_less, counts.1, counted)
run_counts text settings blocks (Err faults.Missing) result old new misses misses' failures failures' before after counts (Finish.no_memory written counted) = (counts.0.no_less, counts.1, counted)
run_counts text settings blocks (Err faults.ShelfFailed) result old new misses misses' failures failures' before after counts finishes = rw finishes.0 (counts.0, counts.1, finishes.2)
run_counts text settings blocks (Err faults.SinkFailed) result old new misses misses' failures failures' before after counts finishes = absurd counts
run_counts text settings blocks (Err faults.NoMemory) result old new misses misses' failures failures' before after counts finishes = rw finishes.0 (omega arith, counts.1, finishes.2)
