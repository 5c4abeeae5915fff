-- How far what is played has come behind each move, and what it comes to.
use Rattle.std.proofs.Common.{◌≡◌, ℕ, ℤ, Bool, true, false, Option, Some, None, option_map, Err, List, [], ◌∷◌, ◌++◌, refl, sym, ap, ◌∙◌, subst, append-nil}
use Rattle.std.proofs.lemmas.List.Concat.{flat_map-append}
use Rattle.ckc_io.specs.Files.{Files}
use Rattle.act_words.specs.declared.ending.Ending.{Ending}
use Rattle.act_words.specs.declared.settings.Settings.{Settings}
use Rattle.act_words.specs.Acts.{Act, Seen, seen_view}
use Rattle.act_words.specs.World.{Event, Took, NoAct}
use Rattle.sandbox_actor.specs.Answers.{Gives}
use Rattle.code_words.specs.declared.image.Image.{Image}
use Rattle.two_memory_machine.specs.declared.event.Event.{Event as MachineEvent}
use Rattle.two_memory_machine.specs.declared.event.Event.TheVariants as told_by
use Rattle.two_memory_machine.specs.Machines.{Machine, IsStart, turn_of}
use Rattle.run_core.specs.declared.fault.RunFault.{RunFault}
use Rattle.run_core.specs.declared.fault.RunFault.TheVariants as faults
use Rattle.run_core.specs.declared.play.Play.{Play}
use Rattle.act_recorder.specs.Endings.{ending_text}
use Rattle.run_core.specs.Texts.{event_text, events_text, dump_text, with_last_line}
use Rattle.run_core.specs.Asked.{Answering, HasEnded, AskAnswers}
use Rattle.run_core.specs.Touched.{last_of}
use Rattle.run_core.specs.Chains.{Chain}
use Rattle.run_core.specs.Gave.{Gave}
use Rattle.run_core.specs.Runs.{Comes, Ends, ShelfFault, CameTo}
use Rattle.run_core.specs.Progress.{Progress, Played, moment_in, Tells, Steps, Takes, TakesNone, IsAsked, Stops, told, blocks_of}
use Rattle.run_core.proofs.GaveParts.{gave-append}
use Rattle.run_core.proofs.Reaching.{unended}
use Rattle.run_core.proofs.Goings.{going_first, going_step, out_step, going_act, out_end, out_of_going, ends_before, is_due, run_out}

-- the text of more events
text_more : (settings : Settings) (text new : List ℕ) (events : List Event) (event : MachineEvent) → text ≡ events_text settings events → new ≡ text ++ events_text settings (told event) → new ≡ events_text settings (events ++ told event)
text_more settings text new events event text_is new_is =
    new_is ∙ ap (λ t. t ++ events_text settings (told event)) text_is ∙ sym (flat_map-append (event_text settings) events (told event))

-- that an act was due leaves no text
text_due : (settings : Settings) (text : List ℕ) (events : List Event) (m : Machine) → text ≡ events_text settings events → text ≡ events_text settings (events ++ NoAct (turn_of m.doing) ∷ [])
text_due settings text events m text_is =
    text_is ∙ sym (flat_map-append (event_text settings) events (NoAct (turn_of m.doing) ∷ []) ∙ append-nil (events_text settings events))

module _ {S : Type 0} (answers : Answering S) (files : Option Files) (image : Image) (settings : Settings) (inputs : List ℤ) (first : S) where
  pub played_first : (p : Play) → IsStart image settings p.machine → p.settings ≡ settings → p.inputs.now ≡ inputs → p.text.items ≡ [] → p.last ≡ None → p.ended ≡ false → Played answers files image settings inputs first first p
  played_first p start settings_is inputs_is text_is last_is ended_is =
      (settings_is, rw (inputs_is, text_is, last_is, ended_is) (Progress.going [] [] Chain.none refl (going_first image settings inputs p.machine start) refl))

  -- the text behind what was told
  told_text : (old new : Play) (event : MachineEvent) → Tells event old new → old.settings ≡ settings → new.text.items ≡ old.text.items ++ events_text settings (told event)
  told_text old new event tells settings_is = tells.text ∙ ap (λ k. old.text.items ++ events_text k (told event)) settings_is

  -- no event of a machine tells an act
  told_gave : (a : S) (last : Option Seen) (event : MachineEvent) → Gave answers files a last (told event) a
  told_gave a last told_by.Ran = refl
  told_gave a last told_by.Asks = refl
  told_gave a last told_by.Input = refl
  told_gave a last (told_by.Out bytes) = refl
  told_gave a last (told_by.Showed seen) = refl
  told_gave a last (told_by.Touched release None) = refl
  told_gave a last (told_by.Touched release (Some seen)) = refl
  told_gave a last (told_by.Ended ending) = refl

  -- ---- instructions

  pub played_step : (now : S) (old new : Play) → Steps old new → Played answers files image settings inputs first now old → Played answers files image settings inputs first now new
  played_step now old new steps played = (steps.tells.settings ∙ played.0, rw steps.ended (by old.ended played.1))
    where
      seen : Option Seen
      seen = option_map seen_view old.last

      by : (ended : Bool) → Progress answers files image settings inputs first now old.machine old.inputs.now old.text.items seen ended → Progress answers files image settings inputs first now new.machine new.inputs.now new.text.items (option_map seen_view new.last) ended
      by ended (Progress.going acts events chain gave far text_is) =
          Progress.going acts (events ++ told steps.event) chain
          (gave-append answers files first now now None events (told steps.event) gave (told_gave now (last_of None events) steps.event))
          (going_step image settings inputs acts events old.machine steps.event new.machine seen _ old.inputs.now new.inputs.now steps.leads steps.tells.last far)
          (text_more settings old.text.items new.text.items events steps.event text_is (told_text old new steps.event steps.tells played.0))
      by ended (Progress.out_of_acts acts events chain due answered out text_is) =
          Progress.out_of_acts acts (events ++ told steps.event) chain due answered
          (out_step image settings inputs acts events old.machine steps.event new.machine old.inputs.now new.inputs.now steps.leads out)
          (text_more settings old.text.items new.text.items events steps.event text_is (told_text old new steps.event steps.tells played.0))

  -- ---- acts

  module _ (before now : S) (old new : Play) (asked : IsAsked old.machine) where
    abbrev seen : Option Seen
    seen = option_map seen_view old.last

    -- the act and what came of it
    took_gave : (events : List Event) (act : Act) → Gave answers files first None events before → seen ≡ last_of None events → answers before files (moment_in old) (Gives act) now → (event : MachineEvent)
        → Gave answers files first None ((events ++ Took (turn_of old.machine.doing) act ∷ []) ++ told event) now
    took_gave events act gave last_is answered event =
        let turn = turn_of old.machine.doing in
        let took = events ++ Took turn act ∷ [] in
        let due = subst (λ (last : Option Seen). answers before files (record { turn = turn; last = last }) (Gives act) now) last_is answered in
        gave-append answers files first now now None took (told event) (gave-append answers files first before now None events (Took turn act ∷ []) gave (now, due, refl)) (told_gave now (last_of None took) event)

    pub played_take : (act : Act) → Takes act old new → old.ended ≡ false → answers before files (moment_in old) (Gives act) now → Played answers files image settings inputs first before old → Played answers files image settings inputs first now new
    played_take act takes not_ended answered played =
        (takes.tells.settings ∙ played.0, rw (takes.ended ∙ not_ended, takes.inputs) (by old.ended not_ended played.1))
      where
        by : (ended : Bool) → ended ≡ false → Progress answers files image settings inputs first before old.machine old.inputs.now old.text.items seen ended → Progress answers files image settings inputs first now new.machine old.inputs.now new.text.items (option_map seen_view new.last) false
        by ended e (Progress.going acts events chain gave far text_is) =
            Progress.going (acts ++ act ∷ []) ((events ++ Took (turn_of old.machine.doing) act ∷ []) ++ told takes.event)
            (Chain.more chain (is_due image settings inputs acts events seen old.inputs.now old.machine far asked.waits) answered)
            (took_gave events act gave far.last_is answered takes.event)
            (going_act image settings inputs acts events old.machine takes.event new.machine seen _ act old.inputs.now (unended old.machine asked.waits) takes.takes takes.tells.last far)
            (text_more settings old.text.items new.text.items (events ++ Took (turn_of old.machine.doing) act ∷ []) takes.event (text_is ∙ sym (flat_map-append (event_text settings) events (Took (turn_of old.machine.doing) act ∷ []) ∙ append-nil (events_text settings events))) (told_text old new takes.event takes.tells played.0))
        by ended e (Progress.out_of_acts acts events chain due ended_so out text_is) = absurd (cc)

    pub played_none : TakesNone old new → HasEnded answers files (moment_in old) before now old.ended → Played answers files image settings inputs first before old → Played answers files image settings inputs first now new
    played_none takes ended played =
        (takes.tells.settings ∙ played.0, rw (takes.ended, takes.inputs) (by old.ended ended played.1))
      where
        after : List Event → List Event
        after events = (events ++ NoAct (turn_of old.machine.doing) ∷ []) ++ told takes.event

        text : (events : List Event) → old.text.items ≡ events_text settings events → new.text.items ≡ events_text settings (after events)
        text events text_is = text_more settings old.text.items new.text.items (events ++ NoAct (turn_of old.machine.doing) ∷ []) takes.event (text_due settings old.text.items events old.machine text_is) (told_text old new takes.event takes.tells played.0)

        by : (was : Bool) → HasEnded answers files (moment_in old) before now was → Progress answers files image settings inputs first before old.machine old.inputs.now old.text.items seen was → Progress answers files image settings inputs first now new.machine old.inputs.now new.text.items (option_map seen_view new.last) true
        by was h (Progress.going acts events chain gave far text_is) =
            Progress.out_of_acts acts (after events) chain (is_due image settings inputs acts events seen old.inputs.now old.machine far asked.waits) h
            (out_end image settings inputs acts events old.machine takes.event new.machine old.inputs.now (unended old.machine asked.waits) takes.takes (out_of_going image settings inputs acts events seen old.inputs.now old.machine far)) (text events text_is)
        by was h (Progress.out_of_acts acts events chain due ended_so out text_is) =
            rw h (Progress.out_of_acts acts (after events) chain due ended_so (out_end image settings inputs acts events old.machine takes.event new.machine old.inputs.now (unended old.machine asked.waits) takes.takes out) (text events text_is))

  -- ---- what is come to

  pub played_stops : (before now : S) (p : Play) (fault : RunFault) → IsAsked p.machine → AskAnswers answers files (moment_in p) p.ended before now (Err fault) → Played answers files image settings inputs first before p → Stops answers files image settings inputs first now p.text.items fault
  played_stops before now p (faults.Line line code) asked answered played = by p.ended answered.0 played.1
    where
      by : (ended : Bool) → ended ≡ false → Progress answers files image settings inputs first before p.machine p.inputs.now p.text.items (option_map seen_view p.last) ended → Stops answers files image settings inputs first now p.text.items (faults.Line line code)
      by ended e (Progress.going acts events chain gave far text_is) =
          rw text_is (Comes.refused acts events chain (is_due image settings inputs acts events _ p.inputs.now p.machine far asked.waits) answered.1)
      by ended e (Progress.out_of_acts acts events chain due ended_so out text_is) = absurd (cc)
  played_stops before now p faults.Missing asked answered played = by p.ended answered.0 played.1
    where
      by : (ended : Bool) → ended ≡ false → Progress answers files image settings inputs first before p.machine p.inputs.now p.text.items (option_map seen_view p.last) ended → Stops answers files image settings inputs first now p.text.items faults.Missing
      by ended e (Progress.going acts events chain gave far text_is) =
          rw text_is (Comes.missing acts events chain (is_due image settings inputs acts events _ p.inputs.now p.machine far asked.waits) answered.1)
      by ended e (Progress.out_of_acts acts events chain due ended_so out text_is) = absurd (cc)
  played_stops before now p faults.ShelfFailed asked answered played = rw answered.1 (by p.ended answered.0 played.1)
    where
      by : (ended : Bool) → ended ≡ false → Progress answers files image settings inputs first before p.machine p.inputs.now p.text.items (option_map seen_view p.last) ended → ShelfFault answers files image settings inputs first before
      by ended e (Progress.going acts events chain gave far text_is) =
          record { acts = acts; moment = moment_in p; events = events; chain = chain; due = is_due image settings inputs acts events _ p.inputs.now p.machine far asked.waits }
      by ended e (Progress.out_of_acts acts events chain due ended_so out text_is) = absurd (cc)
  played_stops before now p faults.SinkFailed asked answered played = absurd answered
  played_stops before now p faults.NoMemory asked answered played = by p.ended answered played.1
    where
      by : (ended : Bool) → ended ≡ false → Progress answers files image settings inputs first before p.machine p.inputs.now p.text.items (option_map seen_view p.last) ended → CameTo answers files image settings inputs first now
      by ended e (Progress.going acts events chain gave far text_is) = CameTo.unanswered acts chain (is_due image settings inputs acts events _ p.inputs.now p.machine far asked.waits)
      by ended e (Progress.out_of_acts acts events chain due ended_so out text_is) = absurd (cc)

  -- memory ran out behind an act, and behind the last one
  pub act_short : (before now : S) (p : Play) (act : Act) → IsAsked p.machine → p.ended ≡ false → answers before files (moment_in p) (Gives act) now → Played answers files image settings inputs first before p → CameTo answers files image settings inputs first now
  act_short before now p act asked not_ended answered played = by p.ended not_ended played.1
    where
      by : (ended : Bool) → ended ≡ false → Progress answers files image settings inputs first before p.machine p.inputs.now p.text.items (option_map seen_view p.last) ended → CameTo answers files image settings inputs first now
      by ended e (Progress.going acts events chain gave far text_is) = CameTo.given (acts ++ act ∷ []) (Chain.more chain (is_due image settings inputs acts events _ p.inputs.now p.machine far asked.waits) answered)
      by ended e (Progress.out_of_acts acts events chain due ended_so out text_is) = absurd (cc)

  pub none_short : (before now : S) (p : Play) → IsAsked p.machine → HasEnded answers files (moment_in p) before now p.ended → Played answers files image settings inputs first before p → CameTo answers files image settings inputs first now
  none_short before now p asked ended played = by p.ended ended played.1
    where
      by : (was : Bool) → HasEnded answers files (moment_in p) before now was → Progress answers files image settings inputs first before p.machine p.inputs.now p.text.items (option_map seen_view p.last) was → CameTo answers files image settings inputs first now
      by was h (Progress.going acts events chain gave far text_is) = CameTo.answered acts chain (is_due image settings inputs acts events _ p.inputs.now p.machine far asked.waits) h
      by was h (Progress.out_of_acts acts events chain due ended_so out text_is) = rw h (CameTo.answered acts chain due ended_so)

  -- memory ran out between acts
  pub played_short : (now : S) (p : Play) → Played answers files image settings inputs first now p → CameTo answers files image settings inputs first now
  played_short now p played = by (option_map seen_view p.last) p.ended played.1
    where
      by : (last : Option Seen) (ended : Bool) → Progress answers files image settings inputs first now p.machine p.inputs.now p.text.items last ended → CameTo answers files image settings inputs first now
      by last ended (Progress.going acts events chain gave far text_is) = CameTo.given acts chain
      by last ended (Progress.out_of_acts acts events chain due ended_so out text_is) = CameTo.answered acts chain due ended_so

  pub played_ends : (now : S) (p : Play) (ending : Ending) → p.machine.over ≡ Some ending → Played answers files image settings inputs first now p → Comes answers files image settings inputs first now (Ends ending) (with_last_line p.text.items (ending_text ending) ++ dump_text settings (blocks_of p.machine))
  played_ends now p ending over played = by (option_map seen_view p.last) p.ended played.1
    where
      by : (last : Option Seen) (ended : Bool) → Progress answers files image settings inputs first now p.machine p.inputs.now p.text.items last ended → Comes answers files image settings inputs first now (Ends ending) (with_last_line p.text.items (ending_text ending) ++ dump_text settings (blocks_of p.machine))
      by last ended (Progress.going acts events chain gave far text_is) =
          rw text_is (Comes.ended acts events (blocks_of p.machine) chain gave (ends_before image settings inputs acts events last p.inputs.now p.machine far ending over))
      by last ended (Progress.out_of_acts acts events chain due ended_so out text_is) =
          let end = run_out image settings inputs acts events p.inputs.now p.machine ending over out in
          rw (text_is, ← end.told, ← end.blocks) (Comes.ran_out acts end.t chain due ended_so end.run)
