use Rattle.std.proofs.Common.{◌≡◌, ◌∙◌, ◌⊎◌, inl, inr, ℕ, List, [], Some, Err, map, string_bytes, unwrap_or, sym, ap, subst, codes}
use Rattle.std.specs.declared.option.Option.{Option}
use Rattle.clap.specs.Faults.{fault_of}
use Rattle.clap.specs.Kinds.{IsAmong}
use Rattle.clap.specs.Walk.{Row}
use Rattle.clap.specs.Words.{all_of, first_of, found_of, kind_of, matches_of, rows_of}
use Rattle.clap.specs.declared.error.kind.ErrorKind.{ErrorKind}
use Rattle.clap.specs.declared.error.kind.ErrorKind.TheVariants.{OutOfMemory}
use Rattle.tw_words.specs.Command.{fault_for, steps_word, twelf}
use Rattle.tw_words.specs.Words.{Answers, AreBad, AreWords, HasBadSteps, IsBad, StepsAre, StepsRead}
use Rattle.tw_words.specs.declared.words.WordsFault.{WordsFault}
use Rattle.tw_words.specs.declared.words.WordsFault.TheVariants.{Bad, NoMemory}
use Rattle.tw_words.proofs.Meaning.{AllText}
use Rattle.tw_words.proofs.Clap.{all-text, reads-clean, reads-faulty}
use Rattle.tw_words.proofs.read.read_words.Goals as goal

-- an error of clap
refused : (words : List (List ℕ)) (kind : ErrorKind) (fault : WordsFault) → AllText words → fault ≡ fault_for kind → (kind ≡ OutOfMemory) ⊎ IsAmong kind (fault_of twelf words) → Answers words (Err fault)
refused words kind NoMemory texts is why = tt
refused words kind Bad texts is (inl memory) =
    let bad : Bad ≡ NoMemory = is ∙ ap fault_for memory in
    cc
refused words kind Bad texts is (inr among) = subst IsBad (sym (reads-faulty words kind texts among)) tt

-- clap's matches with bad steps, and with good ones
bad_steps : (words : List (List ℕ)) (rows : List Row) → AllText words → fault_of twelf words ≡ [] → rows ≡ matches_of twelf words → HasBadSteps (first_of (codes "steps") rows) → AreBad words
bad_steps words rows texts clean are bad = subst IsBad (sym (reads-clean words texts clean)) (subst (λ r. HasBadSteps (first_of (codes "steps") r)) are bad)

unread : (words : List (List ℕ)) (rows : List Row) (fault : WordsFault) → AllText words → fault_of twelf words ≡ [] → rows ≡ matches_of twelf words → StepsRead (first_of (codes "steps") rows) (Err fault) → Answers words (Err fault)
unread words rows NoMemory texts clean are bad = tt
unread words rows Bad texts clean are bad = bad_steps words rows texts clean are bad

good_words : (words : List (List ℕ)) (rows : List Row) (steps : Option ℕ) (files : List (List ℕ)) → AllText words → fault_of twelf words ≡ [] → rows ≡ matches_of twelf words
    → StepsAre (first_of (codes "steps") rows) steps → files ≡ unwrap_or (all_of (codes "files") rows) [] → AreWords words steps files
good_words words rows steps files texts clean are steps_are files_are = record {
  value = steps_word words;
  read = reads-clean words texts clean ∙ ap (λ f. Some (steps_word words, f)) (sym (files_are ∙ ap (λ r. unwrap_or (all_of (codes "files") r) []) are));
  steps_are = subst (λ r. StepsAre (first_of (codes "steps") r) steps) are steps_are;
}

pub returns-in-Err : goal.returns-in-Err
returns-in-Err c = refused (map (λ w. string_bytes w) c.args.words.now) (kind_of c.in-Err.error) c.fault_for.result (all-text c.args.words.now) c.fault_for.ensures c.in-Err.ensures.kinds

pub returns-in-Err-steps_in : goal.returns-in-Err-steps_in
returns-in-Err-steps_in c =
    unread (map (λ w. string_bytes w) c.args.words.now) (rows_of (found_of c.in-Ok.matches)) c.in-Err-steps_in.fault (all-text c.args.words.now) c.in-Ok.ensures.kinds c.in-Ok.ensures.rows c.in-Err-steps_in.ensures

pub returns-in-Ok-files_in : goal.returns-in-Ok-files_in
returns-in-Ok-files_in c =
    good_words (map (λ w. string_bytes w) c.args.words.now) (rows_of (found_of c.in-Ok.matches)) c.in-Ok-steps_in.steps (map (λ f. string_bytes f) c.in-Ok-files_in.files.items) (all-text c.args.words.now) c.in-Ok.ensures.kinds c.in-Ok.ensures.rows c.in-Ok-steps_in.ensures c.in-Ok-files_in.ensures
