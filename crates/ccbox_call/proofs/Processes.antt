-- All that the call ensures of words, from how it ends.
use Rattle.std.proofs.Common.{◌≡◌, ℕ, ◌⊎◌, inl, inr, ⊎_elim, List, [], ◌∷◌, map, drop, Option, Some, None, String, Global, refl, ap, ◌∙◌, subst, arith}
use Rattle.std.specs.String.{string_bytes}
use Rattle.ckc_io.specs.Files.{Files}
use Rattle.run_core.specs.Runs.{Counts}
use Rattle.ccbox_call_words.specs.Requests.{request_of}
use Rattle.act_recorder.specs.Diagnostics.{usage_text}
use Rattle.ccbox_call_words.specs.Given.{all, failed, LineGiven, given, unmade}
use Rattle.ccbox_call.specs.Answers.{IsFailure, IsStatus, Exactly, Tells}
use Rattle.ccbox_call.specs.Calls.{IsFoundStatus, StatusCounts, Gives, answered, output_failed, files_failed, no_memory, no_memory_behind, CallEnds, usage, asked}
use Rattle.std.specs.declared.io.ErrorKind.{ErrorKind}
use Rattle.std.specs.declared.io.ErrorKind.TheVariants.{OutOfMemory}
use Rattle.ccbox_call.specs.Process.{Answers, IsUnmade, ProcessEnds, words_without}
use Rattle.ccbox_call.proofs.Calls.{cut_short, front, whole, printed_run, printed_image_run, printed_accepted, printed_code, complete, succeeds, refuses, misses, checks, stops, acts_refused, listing_fails, untouched, usage_line}

-- words that are no text count as none
pub other_words : (k : ErrorKind) → (k ≡ OutOfMemory → ⊥) → words_without k ≡ Some []
other_words OutOfMemory other = absurd (other refl)
other_words _ other = refl

failure : (n : ℕ) → IsFailure n → IsStatus n
failure n f = inr (inr (inr (inr (inr (inr (inr (inr f)))))))

found_status : (n : ℕ) → IsFoundStatus n → IsStatus n
found_status n (inl e) = inl e
found_status n (inr (inl e)) = inr (inl e)
found_status n (inr (inr (inl e))) = inr (inr (inr (inr (inl e))))
found_status n (inr (inr (inr (inl e)))) = inr (inr (inr (inr (inr (inl e)))))
found_status n (inr (inr (inr (inr (inl e))))) = inr (inr (inr (inr (inr (inr (inl e))))))
found_status n (inr (inr (inr (inr (inr e))))) = inr (inr (inr (inr (inr (inr (inr (inl e)))))))

module _ (words : List (List ℕ)) (told : Option Files) (old new : Option (List ℕ)) (before after : Counts) where
  -- the status behind the line of usage
  line_status : (n : ℕ) → LineGiven usage_text 2 old new before.sink after.sink n → (n ≡ 2) ⊎ ((n ≡ 5) ⊎ (n ≡ 9))
  line_status _ (given (all is same)) = inl refl
  line_status _ (given (failed k le is rises)) = inr (inl refl)
  line_status n (unmade is same still) = inr (inr is)

  counted_status : (n : ℕ) → StatusCounts n before after → IsStatus n
  counted_status n counts = ⊎_elim (λ x. inr (inr (inr (inl x.0)))) (λ x. found_status n x.0) counts.1

  gives_status : {Is : List ℕ → ℕ → Type 0} (n : ℕ) → Gives Is old new before after n → IsStatus n
  gives_status _ (answered text status is counts written sink) = counted_status status counts
  gives_status _ (output_failed text status k is more faults le front sink) = failure 5 (inr (inl refl))
  gives_status _ (files_failed same misses faults sink) = failure 4 (inl refl)
  gives_status _ (no_memory same misses faults sink) = failure 9 (inr (inr refl))
  gives_status _ (no_memory_behind text status k is le front misses faults sink) = failure 9 (inr (inr refl))

  is_status : (n : ℕ) → CallEnds words told old new before after n → IsStatus n
  is_status n (usage e line still quiet) =
      elim (line_status n line) [ inl is ↦ inr (inr (inl is)) | inr is ↦ failure n (inr is) ]
  is_status n (asked request e gives) = gives_status n gives

  no_usage : {Is : List ℕ → ℕ → Type 0} (n : ℕ) → Gives Is old new before after n → n ≡ 2 → ⊥
  no_usage _ (answered text status is counts written sink) two = omega (arith, counts.1, two)
  no_usage _ (output_failed text status k is more faults le front sink) two = omega arith
  no_usage _ (files_failed same misses faults sink) two = omega arith
  no_usage _ (no_memory same misses faults sink) two = omega arith
  no_usage _ (no_memory_behind text status k is le front misses faults sink) two = omega arith

  -- the line of usage comes exactly where the words spell no request
  is_usage : (n : ℕ) → CallEnds words told old new before after n → Exactly 2 n (request_of words ≡ None)
  is_usage n (usage e line still quiet) = record {
    only = λ _. e;
    always = λ _. elim (line_status n line) [ inl is ↦ inl is | inr is ↦ inr (inr is) ];
  }
  is_usage n (asked request e gives) = record {
    only = λ two. absurd (no_usage n gives two);
    always = λ none. absurd (cc);
  }

  -- a count that didn't move has no cause, and tells nothing
  still : (n k old_count new_count : ℕ) (Among : Type 0) → (n ≡ k → ⊥) → new_count ≡ old_count → Tells n k old_count new_count Among
  still n k old_count new_count Among other same = record { cause = λ e. absurd (other e); told = λ more. absurd (omega arith) }

  abbrev AfterMiss : ℕ → Type 0
  AfterMiss n = (n ≡ 3) ⊎ ((n ≡ 5) ⊎ (n ≡ 9))

  counted_misses : (n : ℕ) → StatusCounts n before after → Tells n 3 before.misses after.misses (AfterMiss n)
  counted_misses n counts =
      ⊎_elim (λ x. record { cause = λ _. x.1.rose; told = λ _. inl x.0 })
      (λ x. still n 3 before.misses after.misses (AfterMiss n) (λ three. omega (arith, x.0, three)) x.1) counts.1

  gives_misses : {Is : List ℕ → ℕ → Type 0} (n : ℕ) → Gives Is old new before after n → Tells n 3 before.misses after.misses (AfterMiss n)
  gives_misses _ (answered text status is counts written sink) = counted_misses status counts
  gives_misses _ (output_failed text status k is more faults le front sink) = record { cause = λ three. absurd (omega arith); told = λ _. inr (inl refl) }
  gives_misses _ (files_failed same misses faults sink) = still 4 3 before.misses after.misses (AfterMiss 4) (λ three. omega arith) misses
  gives_misses _ (no_memory same misses faults sink) = record { cause = λ three. absurd (omega arith); told = λ _. inr (inr refl) }
  gives_misses _ (no_memory_behind text status k is le front misses faults sink) = record { cause = λ three. absurd (omega arith); told = λ _. inr (inr refl) }

  tells_misses : (n : ℕ) → CallEnds words told old new before after n → Tells n 3 before.misses after.misses (AfterMiss n)
  tells_misses n (usage e line same quiet) = still n 3 before.misses after.misses (AfterMiss n) (λ three. omega (arith, line_status n line, three)) same
  tells_misses n (asked request e gives) = gives_misses n gives

  gives_faults : {Is : List ℕ → ℕ → Type 0} (n : ℕ) → Gives Is old new before after n → Tells n 4 before.faults after.faults (n ≡ 4)
  gives_faults _ (answered text status is counts written sink) = still status 4 before.faults after.faults (status ≡ 4) (λ four. omega (arith, counts.1, four)) counts.0
  gives_faults _ (output_failed text status k is more faults le front sink) = still 5 4 before.faults after.faults (5 ≡ 4) (λ four. omega arith) faults
  gives_faults _ (files_failed same misses faults sink) = record { cause = λ _. faults.rose; told = λ _. refl }
  gives_faults _ (no_memory same misses faults sink) = still 9 4 before.faults after.faults (9 ≡ 4) (λ four. omega arith) faults
  gives_faults _ (no_memory_behind text status k is le front misses faults sink) = still 9 4 before.faults after.faults (9 ≡ 4) (λ four. omega arith) faults

  tells_faults : (n : ℕ) → CallEnds words told old new before after n → Tells n 4 before.faults after.faults (n ≡ 4)
  tells_faults n (usage e line same quiet) = still n 4 before.faults after.faults (n ≡ 4) (λ four. omega (arith, line_status n line, four)) quiet
  tells_faults n (asked request e gives) = gives_faults n gives

  line_sink : (n : ℕ) → LineGiven usage_text 2 old new before.sink after.sink n → Tells n 5 before.sink after.sink (n ≡ 5)
  line_sink _ (given (all is unmoved)) = still 2 5 before.sink after.sink (2 ≡ 5) (λ five. omega arith) unmoved
  line_sink _ (given (failed k le is rises)) = record { cause = λ _. rises.rose; told = λ _. refl }
  line_sink n (unmade is same unmoved) = still n 5 before.sink after.sink (n ≡ 5) (λ five. omega (arith, is, five)) unmoved

  gives_sink : {Is : List ℕ → ℕ → Type 0} (n : ℕ) → Gives Is old new before after n → Tells n 5 before.sink after.sink (n ≡ 5)
  gives_sink _ (answered text status is counts written sink) = still status 5 before.sink after.sink (status ≡ 5) (λ five. omega (arith, counts.1, five)) sink
  gives_sink _ (output_failed text status k is more faults le front sink) = record { cause = λ _. sink.rose; told = λ _. refl }
  gives_sink _ (files_failed same misses faults sink) = still 4 5 before.sink after.sink (4 ≡ 5) (λ five. omega arith) sink
  gives_sink _ (no_memory same misses faults sink) = still 9 5 before.sink after.sink (9 ≡ 5) (λ five. omega arith) sink
  gives_sink _ (no_memory_behind text status k is le front misses faults sink) = still 9 5 before.sink after.sink (9 ≡ 5) (λ five. omega arith) sink

  tells_sink : (n : ℕ) → CallEnds words told old new before after n → Tells n 5 before.sink after.sink (n ≡ 5)
  tells_sink n (usage e line same quiet) = line_sink n line
  tells_sink n (asked request e gives) = gives_sink n gives

  pub answers : (status : ℕ) → CallEnds words told old new before after status → Answers told words old new before after status
  answers status h =
      record {
        front = λ files tells. front words told old new before after files tells status h;
        whole = λ files tells. whole words told old new before after files tells status h;
        cut_short = λ files tells. cut_short words told old new before after files tells status h;
        printed_run = λ files tells. printed_run words told old new before after files tells status h;
        printed_image_run = λ files tells. printed_image_run words told old new before after files tells status h;
        accepted = λ files tells. printed_accepted words told old new before after files tells status h;
        printed_code = λ files tells. printed_code words told old new before after files tells status h;
        complete = λ files tells. complete words told old new before after files tells status h;
        is_status = is_status status h;
        succeeds = λ files tells. succeeds words told old new before after files tells status h;
        refused = λ files tells. refuses words told old new before after files tells status h;
        usage = is_usage status h;
        usage_line = usage_line words told old new before after status h;
        missing = λ files tells. misses words told old new before after files tells status h;
        checks = λ files tells. checks words told old new before after files tells status h;
        stops = λ files tells. stops words told old new before after files tells status h;
        acts_refused = λ files tells. acts_refused words told old new before after files tells status h;
        listing_refused = λ files tells. listing_fails words told old new before after files tells status h;
        untouched = untouched words told old new before after status h;
        misses = tells_misses status h;
        shelf_faults = tells_faults status h;
        sink_faults = tells_sink status h;
      }

-- what a process answers, by the words that it was given
pub answers_given : (o : Option (List (List ℕ))) (told : Option Files) (old new : Option (List ℕ)) (before after : Counts) (status : ℕ) → ProcessEnds o told old new before after status
    → (words : List (List ℕ)) → o ≡ Some words → Answers told words old new before after status
answers_given None told old new before after status h words same = absurd (cc)
answers_given (Some taken) told old new before after status h words same =
    let is : taken ≡ words = cc in
    subst (λ (ws : List (List ℕ)). Answers told ws old new before after status) is (answers taken told old new before after status h)

pub unmade_without : (o : Option (List (List ℕ))) (told : Option Files) (old new : Option (List ℕ)) (before after : Counts) (status : ℕ) → ProcessEnds o told old new before after status → o ≡ None → IsUnmade old new before after status
unmade_without None told old new before after status h none = h
unmade_without (Some taken) told old new before after status h none = absurd (cc)

-- the texts behind the first argument are the words behind the program's own name
dropped : {A B : Type 0} (f : A → B) (xs : List A) → map f (drop 1 xs) ≡ drop 1 (map f xs)
dropped f [] = refl
dropped f (x ∷ xs) = refl

pub behind_first : (texts arguments : List (String Global)) → texts ≡ drop 1 arguments → (told : Option Files) (old new : Option (List ℕ)) (before after : Counts) (status : ℕ)
    → CallEnds (map string_bytes texts) told old new before after status → CallEnds (drop 1 (map string_bytes arguments)) told old new before after status
behind_first texts arguments same told old new before after status h =
    subst (λ (ws : List (List ℕ)). CallEnds ws told old new before after status) (ap (map string_bytes) same ∙ dropped string_bytes arguments) h
