-- What accepting a declaration, setting a parameter and starting anew keep of a session, each step of the program keeps.
use Rattle.std.proofs.Common.{◌≡◌, ℕ, List, Bool, true, false, sym, ap, subst, inl, inr, None, Some}
use Rattle.std.specs.declared.option.Option.{Option}
use Rattle.tw_command.specs.Meaning.{Meaning, blank, unknown, bad_parameter, read_declaration, load_file, show_entry, show_signature, show_subordination, reset, set, get, top, version, quit}
use Rattle.tw_command.specs.declared.command.Setting.{Setting}
use Rattle.tw_command.specs.declared.command.Setting.TheVariants as settings
use Rattle.tw_decl.specs.Declaration.{Accepts, AcceptsFrom}
use Rattle.tw_decl.specs.Reports.{Reported}
use Rattle.tw_decl.specs.View.{View, reset_view}
use Rattle.tw_ports.specs.Files.{Held}
use Rattle.tw_ports.specs.declared.files.FileAnswer.{FileAnswer}
use Rattle.tw_ports.specs.declared.files.FileAnswer.TheVariants.{Found, Absent, TooLong, Failed, NoMemory}
use Rattle.tw_server.specs.State.{State}
use Rattle.tw_server.specs.Words.{Said, too_long, meant}
use Rattle.tw_server.specs.Loading.{AnswersFile, Declares, no_more, one_more, ShowsEntry, ShowsSignature}
use Rattle.tw_server.specs.Machine.{Answers, AnswersMeaning, LastStep, Loads, RepliesTo, Step, with_setting}
use Rattle.tw_server.specs.Outcome.{Replies, with_words}
use Rattle.tw_server.specs.Phases.{Phase, a_choice, a_command, a_query}
use Rattle.tw_server.specs.Subordination.{ShowsSubordination}

-- a property of sessions that accepting, setting and starting anew keep
pub record IsKept (P : View → Type 0) : Type 0 where
  pub accepting : (v w : View) (text : List ℕ) (report : Reported) → Accepts v text report w → P v → P w
  pub accepting_from : (v w : View) (text : List ℕ) (report : Reported) (from upto : ℕ) → AcceptsFrom v text from report upto w → P v → P w
  pub setting : (v : View) (s : Setting) → P v → P (with_setting v s)
  pub starting : (v : View) → P v → P (reset_view v)

module _ (P : View → Type 0) (kept : IsKept P) where
  same_keeps : (v w : View) → w ≡ v → P v → P w
  same_keeps v w e s = subst P (sym e) s

  replied_keeps : (v w : View) (text reply : List ℕ) → RepliesTo v text reply w → P v → P w
  replied_keeps v w text reply (inl h) s = same_keeps v w h.same s
  replied_keeps v w text reply (inr (inl h)) s = same_keeps v w h.same s
  replied_keeps v w text reply (inr (inr (inl h))) s = kept.accepting v w text h.report h.accepts s
  replied_keeps v w text reply (inr (inr (inr h))) s = same_keeps v w h.same s

  declares_keeps : (text : List ℕ) (v : View) (from : ℕ) {lines : List ℕ} {w : View} {upto : ℕ} → Declares text v from lines w upto → P v → P w
  declares_keeps text v from no_more s = s
  declares_keeps text v from (one_more d a) s = kept.accepting_from _ _ _ _ _ _ a (declares_keeps text v from d s)

  file_keeps : (v w : View) (name : List ℕ) (answer : FileAnswer) (lines : List ℕ) (well : Bool) → AnswersFile v name answer lines well w → P v → P w
  file_keeps v w name (Found text) lines well (inl h) s = same_keeps v w h.same s
  file_keeps v w name (Found text) lines well (inr h) s = declares_keeps text.items v 0 h.makes s
  file_keeps v w name Absent lines well h s = same_keeps v w h.same s
  file_keeps v w name TooLong lines well h s = same_keeps v w h.same s
  file_keeps v w name Failed lines well h s = same_keeps v w h.same s
  file_keeps v w name NoMemory lines well h s = same_keeps v w h.same s

  pub loads_keeps : (held : Option Held) (name : List ℕ) (v w : State) (reply : List ℕ) → Loads held name v reply w → P v.view → P w.view
  loads_keeps held name v w reply (inl h) s = same_keeps v.view w.view h.0.same s
  loads_keeps held name v w reply (inr h) s = file_keeps v.view w.view name h.loads.answer h.lines h.well h.loads.says s

  entry_keeps : (v w : View) (name reply : List ℕ) → ShowsEntry v name reply w → P v → P w
  entry_keeps v w name reply (inl h) s = same_keeps v w h.same s
  entry_keeps v w name reply (inr h) s = same_keeps v w h.1 s

  signature_keeps : (v w : View) (reply : List ℕ) → ShowsSignature v reply w → P v → P w
  signature_keeps v w reply (inl h) s = same_keeps v w h.same s
  signature_keeps v w reply (inr h) s = same_keeps v w h.1 s

  subordination_keeps : (v w : View) (reply : List ℕ) → ShowsSubordination v reply w → P v → P w
  subordination_keeps v w reply (inl h) s = same_keeps v w h.same s
  subordination_keeps v w reply (inr h) s = same_keeps v w h.same s

  pub words_keeps : (steps : Option ℕ) (v : State) → P v.view → P (with_words steps v).view
  words_keeps None v s = s
  words_keeps (Some n) v s = kept.setting v.view (settings.Steps n) s

  meaning_keeps : (v w : View) (meaning : Meaning) (reply : List ℕ) → AnswersMeaning v meaning reply w → P v → P w
  meaning_keeps v w blank reply h s = same_keeps v w h.1 s
  meaning_keeps v w unknown reply h s = same_keeps v w h.1 s
  meaning_keeps v w bad_parameter reply h s = same_keeps v w h.1 s
  meaning_keeps v w read_declaration reply h s = absurd h
  meaning_keeps v w (load_file name) reply h s = absurd h
  meaning_keeps v w (show_entry name) reply h s = entry_keeps v w name reply h s
  meaning_keeps v w show_signature reply h s = signature_keeps v w reply h s
  meaning_keeps v w show_subordination reply h s = subordination_keeps v w reply h s
  meaning_keeps v w top reply h s = same_keeps v w h.1 s
  meaning_keeps v w reset reply h s = subst P (sym h.1) (kept.starting v s)
  meaning_keeps v w (set setting) reply h s = subst P (sym h.1) (kept.setting v setting s)
  meaning_keeps v w (get parameter) reply h s = same_keeps v w h.1 s
  meaning_keeps v w version reply h s = same_keeps v w h.1 s
  meaning_keeps v w quit reply h s = absurd h

  answer_keeps : (held : Option Held) (v w : State) (said : Said) (text reply : List ℕ) → Answers held v said text reply w → P v.view → P w.view
  answer_keeps held v w too_long text reply h s = same_keeps v.view w.view h.1 s
  answer_keeps held v w (meant read_declaration) text reply h s = replied_keeps v.view w.view text reply h.0 s
  answer_keeps held v w (meant (load_file name)) text reply h s = loads_keeps held name v w reply h s
  answer_keeps held v w (meant meaning) text reply h s = meaning_keeps v.view w.view meaning reply h.0 s

  pub step_keeps : (held : Option Held) (whole : Bool) (phase next : Phase) (v w : State) (took reply : List ℕ) → Step held whole phase v took reply next w → P v.view → P w.view
  step_keeps held whole a_command next v w took reply step s = answer_keeps held v w step.said step.text reply step.answers s
  step_keeps held whole a_query next v w took reply step s = same_keeps v.view w.view (ap (λ (u : State). u.view) step.same) s
  step_keeps held whole (a_choice waiting) next v w took reply step s = same_keeps v.view w.view (ap (λ (u : State). u.view) step.same) s

  pub last_keeps : (held : Option Held) (phase : Phase) (v w : State) (took reply : List ℕ) → LastStep held phase v took reply w → P v.view → P w.view
  last_keeps held phase v w took reply last s = step_keeps held false phase last.next v w took last.said last.step s

  pub replies_keeps : (held : Option Held) (whole : Bool) (phase : Phase) (v w : State) (took reply : List ℕ) → Replies held whole phase v took reply w → P v.view → P w.view
  replies_keeps held true phase v w took reply h s = step_keeps held true phase h.0 v w took reply h.1 s
  replies_keeps held false phase v w took reply h s = last_keeps held phase v w took reply h s
