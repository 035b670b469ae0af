-- Each step keeps the view sound.
use Rattle.std.proofs.Common.{Bool, List, ℕ}
use Rattle.std.specs.declared.option.Option.{Option}
use Rattle.tw_command.specs.declared.command.Setting.{Setting}
use Rattle.tw_command.specs.declared.command.Setting.TheVariants as settings
use Rattle.tw_decl.specs.View.{View, IsSound}
use Rattle.tw_decl.proofs.Sound.{accepted_sound, accepted_from_sound}
use Rattle.tw_ports.specs.Files.{Held}
use Rattle.tw_server.specs.State.{State}
use Rattle.tw_server.specs.Machine.{LastStep, Loads, with_setting}
use Rattle.tw_server.specs.Outcome.{Replies, with_words}
use Rattle.tw_server.specs.Phases.{Phase}
use Rattle.tw_server.specs.Laws.{StepKeepsSound}
use Rattle.tw_server.proofs.Steps.{IsKept, last_keeps, loads_keeps, replies_keeps, step_keeps, words_keeps}

setting_sound : (v : View) (setting : Setting) → IsSound v → IsSound (with_setting v setting)
setting_sound v (settings.Chatter n) s = s
setting_sound v (settings.Implicit b) s = s
setting_sound v (settings.Steps n) s = s

sound_kept : IsKept IsSound
sound_kept = record { accepting = accepted_sound; accepting_from = accepted_from_sound; setting = setting_sound; starting = λ v s. (tt, record { typed = λ B m. absurd m; listed = λ r m. absurd m }) }

pub loads_sound : (held : Option Held) (name : List ℕ) (v w : State) (reply : List ℕ) → Loads held name v reply w → IsSound v.view → IsSound w.view
loads_sound = loads_keeps IsSound sound_kept

pub words_sound : (steps : Option ℕ) (v : State) → IsSound v.view → IsSound (with_words steps v).view
words_sound = words_keeps IsSound sound_kept

pub step_sound : StepKeepsSound
step_sound = step_keeps IsSound sound_kept

pub last_sound : (held : Option Held) (phase : Phase) (v w : State) (took reply : List ℕ) → LastStep held phase v took reply w → IsSound v.view → IsSound w.view
last_sound = last_keeps IsSound sound_kept

pub replies_sound : (held : Option Held) (whole : Bool) (phase : Phase) (v w : State) (took reply : List ℕ) → Replies held whole phase v took reply w → IsSound v.view → IsSound w.view
replies_sound = replies_keeps IsSound sound_kept
