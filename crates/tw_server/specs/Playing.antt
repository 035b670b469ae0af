-- What the program holds of the loop of answers, and what the calls of the loop come to. The proofs need these; the transcript theorem doesn't speak of them.
use Rattle.std.specs.Prelude.{◌≡◌, ℕ, List, [], ◌++◌, Ok, Err}
use Rattle.std.specs.declared.option.Option.{Option}
use Rattle.std.specs.declared.result.Result.{Result}
use Rattle.lf.specs.Entries.{Entry}
use Rattle.tw_decl.specs.View.{View, scene_of}
use Rattle.tw_lexer.specs.declared.place.Place.{Place}
use Rattle.tw_ports.specs.Ports.{Gains}
use Rattle.tw_signature.specs.Goal.{Goal}
use Rattle.tw_top.specs.Rounds.{Standing, round_budget}
use Rattle.tw_top.specs.UnderWay.{ComesTo, Holds, asked}
use Rattle.tw_top.specs.declared.pause.Round.{Round}
use Rattle.tw_server.specs.Machine.{phase_behind}
use Rattle.tw_server.specs.Phases.{AnswersChoice, AnswersQuestion, Choice, GoesOn, Phase, Waiting, a_choice, a_command, a_query, choice_of, to_drop, to_go_on, to_leave}
use Rattle.tw_server.specs.Replies.{accepted, reply_bytes}
use Rattle.tw_server.specs.Words.{Said}
use Rattle.tw_server.specs.Written.{GainsFront}
use Rattle.tw_server.specs.declared.status.Status.{Status}
use Rattle.tw_server.specs.declared.status.Status.TheVariants.{Done, BadWords, ReadFault, WriteFault, NoMemory, InputLong}
use Rattle.tw_server.specs.declared.phase.Phase.{Phase as Kept}
use Rattle.tw_server.specs.declared.phase.Phase.TheVariants as kept
use Rattle.tw_server.specs.declared.phase.Waiting.{Waiting as Asked}
use Rattle.tw_server.specs.declared.query.Answered.{Answered}
use Rattle.tw_server.specs.declared.query.Choice.{Choice as Chosen}
use Rattle.tw_server.specs.declared.query.Choice.TheVariants as chosen

-- the program's search is this one: it has its goal, and stands where it does
pub record HoldsSearch (es : List Entry) (w : Asked) (waiting : Waiting) : Type 0 where
  pub goal : asked w.asking ≡ waiting.goal
  pub place : w.at ≡ waiting.at
  pub holds : Holds es w.asking waiting.standing

-- the program knows what is read next
abbrev pub IsPhase : List Entry → Kept → Phase → Type 0
IsPhase es kept.Command a_command = Unit {0}
IsPhase es kept.Command a_query = ⊥
IsPhase es kept.Command (a_choice waiting) = ⊥
IsPhase es kept.Query a_command = ⊥
IsPhase es kept.Query a_query = Unit {0}
IsPhase es kept.Query (a_choice waiting) = ⊥
IsPhase es (kept.Choice w) a_command = ⊥
IsPhase es (kept.Choice w) a_query = ⊥
IsPhase es (kept.Choice w) (a_choice waiting) = HoldsSearch es w waiting

-- it is this one behind a line that says so
abbrev pub IsPhaseBehind : Said → Kept → Type 0
IsPhaseBehind line next = (es : List Entry) → IsPhase es next (phase_behind line)

-- the reply at the end of the input
abbrev pub last_of : Kept → List ℕ
last_of kept.Command = []
last_of kept.Query = accepted
last_of (kept.Choice w) = accepted

-- the reply and what is read behind it are such
abbrev pub HasAnswer : View → Answered → (List ℕ → Phase → Type 0) → Type 0
HasAnswer v a P = (next : Phase) × IsPhase v.signature a.next next × P (reply_bytes a.reply) next

-- a round of the search was played
abbrev pub IsPlayed : View → Standing → Asked → Round → Type 0
IsPlayed v s w r = ComesTo v.signature (scene_of v) (asked w.asking) (round_budget v.parameters.steps s.tries) s w.asking r.text.items r.pause

abbrev pub GoesOnTo : View → Goal → Place → Standing → Answered → Type 0
GoesOnTo v g at s a = HasAnswer v a (GoesOn v g at s)

abbrev pub RepliesToQuery : View → List ℕ → Answered → Type 0
RepliesToQuery v text a = HasAnswer v a (AnswersQuestion v text)

abbrev pub RepliesToChoice : View → Waiting → List ℕ → Answered → Type 0
RepliesToChoice v waiting body a = HasAnswer v a (AnswersChoice v waiting (choice_of body))

-- what the program takes a line behind `More?` to choose
abbrev pub choice_is : Chosen → Choice
choice_is chosen.GoOn = to_go_on
choice_is chosen.Leave = to_leave
choice_is chosen.Drop = to_drop

-- the reply was written and the phase behind it is given, or a part of it was
abbrev pub SaysReply : Answered → Option (List ℕ) → Option (List ℕ) → Result Kept Status → Type 0
SaysReply a old new (Ok next) = Gains old new (reply_bytes a.reply) × (next ≡ a.next)
SaysReply a old new (Err status) = (status ≡ WriteFault) × GainsFront old new (reply_bytes a.reply)

-- the same at the end of the input, where the loop ends
abbrev pub SaysLast : Answered → Option (List ℕ) → Option (List ℕ) → Status → Type 0
SaysLast a old new Done = Gains old new (reply_bytes a.reply ++ last_of a.next)
SaysLast a old new WriteFault = GainsFront old new (reply_bytes a.reply ++ last_of a.next)
SaysLast a old new BadWords = ⊥
SaysLast a old new ReadFault = ⊥
SaysLast a old new NoMemory = ⊥
SaysLast a old new InputLong = ⊥
