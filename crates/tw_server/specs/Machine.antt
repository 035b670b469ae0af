-- The machine of commands: what a command may reply, and the state after it, by the lines that are read for it.
use Rattle.std.specs.Prelude.{◌≡◌, ◌⊎◌, ℕ, ◌≤◌, ◌<◌, List, [], ◌∷◌, ◌++◌, length, Bool, true, false, codes}
use Rattle.tw_server.specs.Lines.{IsLine, IsText}
use Rattle.tw_command.specs.Meaning.{Meaning, blank, unknown, bad_parameter, read_declaration, load_file, show_entry, show_signature, show_subordination, reset, set, get, top, version, quit}
use Rattle.tw_command.specs.declared.command.Setting.{Setting}
use Rattle.tw_command.specs.declared.command.Setting.TheVariants as settings
use Rattle.tw_ports.specs.Files.{Held}
use Rattle.std.specs.declared.option.Option.{Option}
use Rattle.tw_server.specs.Words.{Said, too_long, meant, said_of}
use Rattle.tw_server.specs.Replies.{accepted, refused, version_line, value_of}
use Rattle.tw_server.specs.Loading.{WantsMemory, LoadsAlone, ShowsEntry, ShowsSignature}
use Rattle.tw_server.specs.Subordination.{ShowsSubordination}
use Rattle.tw_decl.specs.View.{View, reset_view, with_chatter, with_implicit, with_steps}
use Rattle.tw_server.specs.State.{State}
use Rattle.tw_decl.specs.Declaration.{Accepts, Refuses}
use Rattle.tw_decl.specs.Reports.{Reported}
use Rattle.tw_server.specs.Limits.{text_limit}
use Rattle.tw_server.specs.Phases.{AnswersChoice, AnswersQuestion, Phase, Waiting, a_choice, a_command, a_query, choice_of, last_reply}

-- The text behind a command's line, where the line ended with its line feed or not. There is none where the input ends with that line.
abbrev pub TextAfter : Bool → Bool → List ℕ → Type 0
TextAfter true whole text = IsText whole text
TextAfter false whole text = (whole ≡ false) × (text ≡ [])

-- what is read behind the line of a command
abbrev pub Behind : Said → Bool → Bool → List ℕ → Type 0
Behind (meant read_declaration) ended whole text = TextAfter ended whole text
Behind said ended whole text = (text ≡ []) × (whole ≡ ended)

-- The bytes that are read for a command: its line, and what is behind it. The last line ends with its line feed, or with the end of the input.
pub record Takes (whole : Bool) (took : List ℕ) (said : Said) (text : List ℕ) : Type 0 where
  pub ended : Bool
  pub line : List ℕ
  pub body : List ℕ
  pub spelled : took ≡ line ++ text
  pub first : IsLine ended line body
  pub says : said ≡ said_of body
  pub behind : Behind said ended whole text

-- A text may have 16,777,216 bytes, its last line feed with them.
pub record IsTextLong (v : View) (text reply : List ℕ) (w : View) : Type 0 where
  pub long : text_limit < length text
  pub says : reply ≡ codes "C4 TextLong\n" ++ refused
  pub same : w ≡ v

-- the declaration is made, and the reply is the text of its report
pub record IsMade (v : View) (text reply : List ℕ) (w : View) : Type 0 where
  pub short : length text ≤ text_limit
  pub report : Reported
  pub accepts : Accepts v text report w
  pub says : reply ≡ report.text ++ accepted

-- the declaration is refused, for the cause that the reply's line shows
pub record IsRefused (v : View) (text reply : List ℕ) (w : View) : Type 0 where
  pub short : length text ≤ text_limit
  pub line : List ℕ
  pub refuses : Refuses v (codes "stdin") text line
  pub says : reply ≡ line ++ refused
  pub same : w ≡ v

-- what may be replied to a declaration's text
abbrev pub RepliesTo : View → List ℕ → List ℕ → View → Type 0
RepliesTo v text reply w = WantsMemory v reply w ⊎ IsTextLong v text reply w ⊎ IsMade v text reply w ⊎ IsRefused v text reply w

-- a parameter is set, and the others stay
abbrev pub with_setting : View → Setting → View
with_setting v (settings.Chatter n) = with_chatter v n
with_setting v (settings.Implicit b) = with_implicit v b
with_setting v (settings.Steps n) = with_steps v n

-- What a command of one line answers, and the view after it. Only the commands that show declarations and subordination want memory. `quit` has no reply: it ends the run.
abbrev pub AnswersMeaning : View → Meaning → List ℕ → View → Type 0
AnswersMeaning v blank reply w = (reply ≡ []) × (w ≡ v)
AnswersMeaning v unknown reply w = (reply ≡ codes "C1 UnknownCommand\n" ++ refused) × (w ≡ v)
AnswersMeaning v bad_parameter reply w = (reply ≡ codes "C6 BadParameter\n" ++ refused) × (w ≡ v)
AnswersMeaning v read_declaration reply w = ⊥
AnswersMeaning v (load_file name) reply w = ⊥
AnswersMeaning v (show_entry name) reply w = ShowsEntry v name reply w
AnswersMeaning v show_signature reply w = ShowsSignature v reply w
AnswersMeaning v show_subordination reply w = ShowsSubordination v reply w
AnswersMeaning v top reply w = (reply ≡ []) × (w ≡ v)
AnswersMeaning v reset reply w = (reply ≡ accepted) × (w ≡ reset_view v)
AnswersMeaning v (set setting) reply w = (reply ≡ accepted) × (w ≡ with_setting v setting)
AnswersMeaning v (get parameter) reply w = (reply ≡ (value_of v parameter ++ codes "\n") ++ accepted) × (w ≡ v)
AnswersMeaning v version reply w = (reply ≡ version_line ++ accepted) × (w ≡ v)
AnswersMeaning v quit reply w = ⊥

-- a file is loaded, or memory is wanting before the files are asked
abbrev pub Loads : Option Held → List ℕ → State → List ℕ → State → Type 0
Loads held name v reply w = (WantsMemory v.view reply w.view × (w.faults ≡ v.faults)) ⊎ LoadsAlone held name v reply w

-- what a command answers
abbrev pub Answers : Option Held → State → Said → List ℕ → List ℕ → State → Type 0
Answers held v too_long text reply w = (reply ≡ codes "C5 LongLine\n" ++ refused) × (w.view ≡ v.view) × (w.faults ≡ v.faults)
Answers held v (meant read_declaration) text reply w = RepliesTo v.view text reply w.view × (w.faults ≡ v.faults)
Answers held v (meant (load_file name)) text reply w = Loads held name v reply w
Answers held v (meant meaning) text reply w = AnswersMeaning v.view meaning reply w.view × (w.faults ≡ v.faults)

-- what is read behind a command: the text of a query behind `top`, and a command behind any other
abbrev pub phase_behind : Said → Phase
phase_behind (meant top) = a_query
phase_behind said = a_command

-- A command: from v, the command on these bytes may give this reply and lead to w. `held` is what the files held at first, where they told it.
pub record CommandStep (held : Option Held) (whole : Bool) (v : State) (took reply : List ℕ) (next : Phase) (w : State) : Type 0 where
  pub said : Said
  pub text : List ℕ
  pub takes : Takes whole took said text
  pub answers : Answers held v said text reply w
  pub then_reads : next ≡ phase_behind said

-- a query of the loop of answers: its text; nothing of the session changes
pub record QueryStep (whole : Bool) (v : State) (took reply : List ℕ) (next : Phase) (w : State) : Type 0 where
  pub takes : IsText whole took
  pub answers : AnswersQuestion v.view took reply next
  pub same : w ≡ v

-- a line behind `More?`
pub record ChoiceStep (whole : Bool) (waiting : Waiting) (v : State) (took reply : List ℕ) (next : Phase) (w : State) : Type 0 where
  pub body : List ℕ
  pub takes : IsLine whole took body
  pub answers : AnswersChoice v.view waiting (choice_of body) reply next
  pub same : w ≡ v

-- One step, by what is read next: the bytes that it took, its reply, and what is read and known then. Behind `top` and `plus X Y (s z).`, which gives `solution 1`, `X = z`, `Y = s z` and
-- `More?`, the line `y` gives the second solution, and `n` drops the search.
abbrev pub Step : Option Held → Bool → Phase → State → List ℕ → List ℕ → Phase → State → Type 0
Step held whole a_command v took reply next w = CommandStep held whole v took reply next w
Step held whole a_query v took reply next w = QueryStep whole v took reply next w
Step held whole (a_choice waiting) v took reply next w = ChoiceStep whole waiting v took reply next w

-- the last step: where the end of the input cuts it short, the loop of answers ends behind it
pub record LastStep (held : Option Held) (phase : Phase) (v : State) (took reply : List ℕ) (w : State) : Type 0 where
  pub said : List ℕ
  pub next : Phase
  pub step : Step held false phase v took said next w
  pub says : reply ≡ said ++ last_reply next

-- a step that was made
pub record Turn : Type 0 where
  pub took : List ℕ
  pub reply : List ℕ
  pub next : Phase
  pub after : State

-- a run: each step on whole lines, from where the last one led
abbrev pub Run : Option Held → Phase → State → List Turn → Phase → State → Type 0
Run held p v [] q w = (q ≡ p) × (w ≡ v)
Run held p v (t ∷ ts) q w = Step held true p v t.took t.reply t.next t.after × Run held t.next t.after ts q w

-- the files of the program's words are loaded one behind the other, as by a command for each, with no bytes of the input; a refused one keeps none from being loaded
abbrev pub Opening : Option Held → List (List ℕ) → State → List Turn → State → Type 0
Opening held [] v [] w = w ≡ v
Opening held [] v (t ∷ ts) w = ⊥
Opening held (name ∷ names) v [] w = ⊥
Opening held (name ∷ names) v (t ∷ ts) w = (t.took ≡ []) × (t.next ≡ a_command) × Loads held name v t.reply t.after × Opening held names t.after ts w
