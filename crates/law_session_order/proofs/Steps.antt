-- Each step of the program keeps the session in order.
use Rattle.std.proofs.Common.{ℕ, List, true, [], ◌∷◌, refl, sym, subst}
use Rattle.std.specs.List.{AllByRecursion}
use Rattle.std.specs.declared.option.Option.{Option}
use Rattle.tw_command.specs.declared.command.Setting.{Setting}
use Rattle.tw_command.specs.declared.command.Setting.TheVariants as settings
use Rattle.tw_decl.specs.View.{View, empty_view, with_chatter, with_implicit, with_steps}
use Rattle.tw_ports.specs.Files.{Held}
use Rattle.tw_server.specs.State.{State, state_at}
use Rattle.tw_server.specs.Machine.{Turn, Run, Opening, with_setting}
use Rattle.tw_server.specs.Outcome.{with_words}
use Rattle.tw_server.specs.Phases.{Phase, a_command}
use Rattle.law_session_order.specs.Laws.{StepKeepsOrder, RunIsInOrder, RunReadsBack}
use Rattle.law_session_order.specs.Order.{IsViewInOrder, ReadsItselfBack}
use Rattle.tw_server.proofs.Steps.{IsKept, loads_keeps, step_keeps as every_step_keeps, words_keeps}
use Rattle.law_session_order.proofs.Reading.{kept_back}
use Rattle.law_session_order.proofs.Keeping.{new_in_order, same_parts, accepting_keeps, accepting_from_keeps}

setting_keeps : (v : View) (setting : Setting) → IsViewInOrder v → IsViewInOrder (with_setting v setting)
setting_keeps v (settings.Chatter n) s = same_parts v (with_chatter v n) refl refl refl s
setting_keeps v (settings.Implicit b) s = same_parts v (with_implicit v b) refl refl refl s
setting_keeps v (settings.Steps n) s = same_parts v (with_steps v n) refl refl refl s

order_kept : IsKept IsViewInOrder
order_kept = record { accepting = accepting_keeps; accepting_from = accepting_from_keeps; setting = setting_keeps; starting = λ v s. new_in_order.1 v }

pub step_keeps : StepKeepsOrder
step_keeps = every_step_keeps IsViewInOrder order_kept

abbrev AllInOrder : List Turn → Type 0
AllInOrder ts = AllByRecursion (λ t. IsViewInOrder t.after.view) ts

opening_keeps : (held : Option Held) (files : List (List ℕ)) (v : State) (ts : List Turn) (w : State) → Opening held files v ts w → IsViewInOrder v.view → AllInOrder ts × IsViewInOrder w.view
opening_keeps held [] v [] w h s = (tt, subst (λ (u : State). IsViewInOrder u.view) (sym h) s)
opening_keeps held [] v (t ∷ ts) w h s = absurd h
opening_keeps held (name ∷ names) v [] w h s = absurd h
opening_keeps held (name ∷ names) v (t ∷ ts) w h s =
    let k = loads_keeps IsViewInOrder order_kept held name v t.after t.reply h.2 s in
    let r = opening_keeps held names t.after ts w h.3 k in ((k, r.0), r.1)

run_keeps : (held : Option Held) (p : Phase) (v : State) (ts : List Turn) (q : Phase) (w : State) → Run held p v ts q w → IsViewInOrder v.view → AllInOrder ts
run_keeps held p v [] q w h s = tt
run_keeps held p v (t ∷ ts) q w h s = let k = step_keeps held true p t.next v t.after t.took t.reply h.0 s in (k, run_keeps held t.next t.after ts q w h.1 k)

pub run_in_order : RunIsInOrder
run_in_order held words left status n taken gained w (steps, files, good, ran) =
    let s = words_keeps IsViewInOrder order_kept steps (state_at empty_view n) new_in_order.0 in
    let o = opening_keeps held files (with_words steps (state_at empty_view n)) ran.opened ran.begun ran.opening s in (o.0, run_keeps held a_command ran.begun ran.turns ran.phase ran.mid ran.run o.1)

each_turn : (P Q : View → Type 0) → ((v : View) → P v → Q v) → (ts : List Turn) → AllByRecursion (λ t. P t.after.view) ts → AllByRecursion (λ t. Q t.after.view) ts
each_turn P Q f [] h = tt
each_turn P Q f (t ∷ ts) h = (f t.after.view h.0, each_turn P Q f ts h.1)

pub run_back : RunReadsBack
run_back held words left status n taken gained w ran =
    let o = run_in_order held words left status n taken gained w ran in
    (each_turn IsViewInOrder ReadsItselfBack kept_back ran.3.opened o.0, each_turn IsViewInOrder ReadsItselfBack kept_back ran.3.turns o.1)
