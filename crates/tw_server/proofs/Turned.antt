-- How one turn is put together.
use Rattle.std.proofs.Common.{◌≡◌, ◌≢◌, ℕ, ◌<◌, ◌≤◌, ◌^◌, List, [], ◌∷◌, ◌++◌, length, refl, sym, ap, ◌∙◌, arith, subst, append-nil, length-append, Bool, true, false, inl, inr, Ok, Err}
use Rattle.std.specs.Prelude.{if◌then◌else◌}
use Rattle.std.proofs.lemmas.Bool.{lt-ltb, le-ltb}
use Rattle.std.specs.declared.option.Option.{Option}
use Rattle.std.specs.declared.result.Result.{Result}
use Rattle.tw_command.specs.Meaning.{Meaning, command_means, line_means, read_declaration, load_file, show_entry, quit, TakesMemory}
use Rattle.tw_command.specs.declared.command.Command.{Command}
use Rattle.tw_command.specs.declared.command.Command.TheVariants as commands
use Rattle.tw_fixity.specs.declared.name.Name.{Name}
use Rattle.tw_ports.specs.Files.{Held}
use Rattle.tw_server.specs.Lines.{IsLine}
use Rattle.tw_server.specs.Words.{Said, too_long, meant, said_of}
use Rattle.tw_server.specs.declared.command.Said.{Said as Heard}
use Rattle.tw_server.specs.declared.command.Said.TheVariants as heard
use Rattle.tw_server.specs.Saying.{Says, is_quit, takes_text}
use Rattle.tw_decl.specs.View.{View}
use Rattle.tw_server.specs.State.{State, state_at}
use Rattle.tw_server.specs.Replies.{no_memory, refused}
use Rattle.tw_server.specs.Loaded.{IsAnswered, IsLoaded}
use Rattle.tw_server.specs.Loading.{LoadsAlone}
use Rattle.tw_server.specs.Feed.{Pending, Sees, Stopped}
use Rattle.tw_server.specs.Written.{GainsReply}
use Rattle.tw_server.specs.Machine.{Answers, Behind, LastStep, Step, RepliesTo, TextAfter, phase_behind}
use Rattle.tw_server.specs.Outcome.{IsQuit, Replies}
use Rattle.tw_server.specs.Phases.{Phase, a_choice, a_command, a_query, last_reply}
use Rattle.tw_server.specs.Playing.{IsPhase, IsPhaseBehind, last_of}
use Rattle.tw_server.specs.Turns.{DeclTurn, LastTurn, Moves, TurnOf}
use Rattle.tw_server.specs.declared.phase.Phase.{Phase as Kept}
use Rattle.tw_server.specs.declared.phase.Phase.TheVariants as kept
use Rattle.lf.specs.Entries.{Entry}
use Rattle.tw_server.specs.declared.feed.Stop.TheVariants as stops
use Rattle.tw_server.specs.declared.status.Status.{Status}
use Rattle.tw_server.specs.declared.status.Status.TheVariants.{Done, BadWords, ReadFault, WriteFault, NoMemory, InputLong}
use Rattle.tw_server.specs.Gather.{IsGathered}
use Rattle.tw_server.specs.declared.text.Lost.{Lost}
use Rattle.tw_server.specs.declared.text.Lost.TheVariants.{Nothing}
use Rattle.tw_server.proofs.Pieces.{front_first, reply_second}
use Rattle.tw_server.proofs.Seen.{Sees-nil, Sees-trans}

-- a line that is too long, and one that is not
pub said_long : (body : List ℕ) → 65536 < length body → said_of body ≡ too_long
said_long body h = ap (λ (b : Bool). if b then too_long else meant (line_means body)) (lt-ltb 65536 (length body) h)

pub said_short : (body : List ℕ) → length body ≤ 65536 → said_of body ≡ meant (line_means body)
said_short body h = ap (λ (b : Bool). if b then too_long else meant (line_means body)) (le-ltb 65536 (length body) h)

-- a line that isn't taken for `readDecl` isn't one
not_text : (line : Said) (said : Heard) → Says line said → takes_text said ≡ false → line ≡ meant read_declaration → ⊥
not_text line heard.TooLong s t e = let h : line ≡ too_long = s in cc
not_text line heard.Blank s t e = let h = s in cc
not_text line heard.Unknown s t e = let h = s in cc
not_text line heard.BadParameter s t e = let h = s in cc
not_text line heard.NoMemory s t e = let same : s.0 ≡ read_declaration = (let h = s.2 in cc) in subst TakesMemory same s.1
not_text line (heard.Command commands.ReadDecl) s t e = cc
not_text line (heard.Command c) s t e = let h = s in cc

-- nothing is read behind a line that is no `readDecl`
nothing_behind : (whole : Bool) (line : Said) → (line ≡ meant read_declaration → ⊥) → Behind line whole whole []
nothing_behind whole (meant read_declaration) n = absurd (n refl)
nothing_behind whole line n = (refl, refl)

-- nor behind one that the end of the input cuts short
nothing_last : (line : Said) → Behind line false false []
nothing_last (meant read_declaration) = (refl, refl)
nothing_last line = (refl, refl)

-- the line ends the run
pub says_quit : (line : Said) (said : Heard) → Says line said → is_quit said ≡ true → line ≡ meant quit
says_quit line (heard.Command commands.Quit) s t = s
says_quit line said s t = cc

pub says_text : (line : Said) (said : Heard) → Says line said → takes_text said ≡ true → line ≡ meant read_declaration
says_text line (heard.Command commands.ReadDecl) s t = s
says_text line said s t = cc

-- an answer to a line that says this
pub answered : {E : Type 0} (held : Option Held) (v w : State) (line said : Said) (a b : Option (List ℕ)) (reply : List ℕ) (r : Result (Unit {0}) E) → line ≡ said → Answers held v said [] reply w → GainsReply a b reply r → IsAnswered held v line a b w r
answered held v w line said a b reply r e h g = (reply, subst (λ (l : Said). Answers held v l [] reply w) (sym e) h, g)

-- memory may be wanting for a command that has a name
pub wants_memory : (held : Option Held) (v : State) (meaning : Meaning) → TakesMemory meaning → Answers held v (meant meaning) [] (no_memory ++ refused) v
wants_memory held v (load_file name) h = inl (record { says = refl; same = refl }, refl)
wants_memory held v (show_entry name) h = (inl (record { says = refl; same = refl }), refl)
wants_memory held v meaning h = absurd h

-- a command of one line, as a step
line_step : (held : Option Held) (whole : Bool) (v w : State) (bytes body : List ℕ) (reply : List ℕ) → IsLine whole bytes body → Behind (said_of body) whole whole [] → Answers held v (said_of body) [] reply w → Step held whole a_command v bytes reply (phase_behind (said_of body)) w
line_step held whole v w bytes body reply line behind h = record {
  said = said_of body;
  text = [];
  takes = record { ended = whole; line = bytes; body = body; spelled = sym (append-nil bytes); first = line; says = refl; behind = behind };
  answers = h;
  then_reads = refl;
}

-- a declaration, as a step
decl_step : (held : Option Held) (whole ended : Bool) (n : ℕ) (v w : View) (bytes body text reply : List ℕ) → IsLine ended bytes body → said_of body ≡ meant read_declaration → TextAfter ended whole text → RepliesTo v text reply w → Step held whole a_command (state_at v n) (bytes ++ text) reply a_command (state_at w n)
decl_step held whole ended n v w bytes body text reply line says after replies = record {
  said = meant read_declaration;
  text = text;
  takes = record { ended = ended; line = bytes; body = body; spelled = refl; first = line; says = sym says; behind = after };
  answers = (replies, refl);
  then_reads = refl;
}

-- a command behind which a command is read, as the last step
pub last_command : (held : Option Held) (v w : State) (took reply : List ℕ) → Step held false a_command v took reply a_command w → LastStep held a_command v took reply w
last_command held v w took reply s = record { said = reply; next = a_command; step = s; says = sym (append-nil reply) }

command_replies : (held : Option Held) (whole : Bool) (v w : State) (took reply : List ℕ) → Step held whole a_command v took reply a_command w → Replies held whole a_command v took reply w
command_replies held true v w took reply s = (a_command, s)
command_replies held false v w took reply s = last_command held v w took reply s

line_length : (bytes body rest : List ℕ) → IsLine true bytes body → 0 < length (bytes ++ rest)
line_length bytes body rest line = omega (arith, length-append bytes rest, ap length line.spelled, length-append body (10 ∷ []))

pub decl_done : (held : Option Held) (left : Option (List ℕ)) (feed : Pending) (done : Unit {0}) (n : ℕ) (v w : View) (bytes body text last : List ℕ) → IsLine true bytes body → said_of body ≡ meant read_declaration
    → DeclTurn left feed (Ok done) v text last w → TurnOf held left feed (Ok kept.Command) a_command (state_at v n) (bytes ++ text) last (state_at w n)
decl_done held left feed done n v w bytes body text last line says h = (a_command, tt, decl_step held true true n v w bytes body text last line says h.0 h.1, line_length bytes body text line)

pub decl_ended : (held : Option Held) (left : Option (List ℕ)) (feed : Pending) (status : Status) (n : ℕ) (v w : View) (bytes body text last : List ℕ) → IsLine true bytes body → said_of body ≡ meant read_declaration
    → DeclTurn left feed (Err status) v text last w → TurnOf held left feed (Err status) a_command (state_at v n) (bytes ++ text) last (state_at w n)
decl_ended held left feed Done n v w bytes body text last line says h = inr (last_command held (state_at v n) (state_at w n) (bytes ++ text) last (decl_step held false true n v w bytes body text last line says h.0 h.1), h.2)
decl_ended held left feed ReadFault n v w bytes body text last line says h = (record { unfinished = inr (bytes, body, text, h.0.0, refl, line, says, h.0.1); silent = h.1; same = ap (λ (x : View). state_at x n) h.2 }, h.3)
decl_ended held left feed InputLong n v w bytes body text last line says h = (record { unfinished = inr (bytes, body, text, h.0.0, refl, line, says, h.0.1); silent = h.1; same = ap (λ (x : View). state_at x n) h.2 }, h.3, h.4)
decl_ended held left feed WriteFault n v w bytes body text last line says h = record {
  whole = h.whole;
  reply = h.reply;
  step = command_replies held h.whole (state_at v n) (state_at w n) (bytes ++ text) h.reply (decl_step held h.whole true n v w bytes body text h.reply line says h.reads h.replies);
  cut = h.cut;
  at_end = h.at_end;
}
decl_ended held left feed NoMemory n v w bytes body text last line says h = absurd h
decl_ended held left feed BadWords n v w bytes body text last line says h = absurd h

-- the same of what the call returns
pub decl_moves_done : {a b : Pending} {la lb wa wb : Option (List ℕ)} {v w : View} (held : Option Held) (done : Unit {0}) (n : ℕ) (bytes body : List ℕ) (r : Result Kept Status) → r ≡ Ok kept.Command → IsLine true bytes body → said_of body ≡ meant read_declaration
    → Moves a la b lb wa wb (λ text last. DeclTurn lb b (Ok done) v text last w) → Moves a la b lb wa wb (λ rest last. TurnOf held lb b r a_command (state_at v n) (bytes ++ rest) last (state_at w n))
decl_moves_done {b = b} {lb = lb} {v = v} {w = w} held done n bytes body r e line says m = record {
  took = m.took;
  last = m.last;
  sees = m.sees;
  within = m.within;
  gains = m.gains;
  outcome = subst (λ (x : Result Kept Status). TurnOf held lb b x a_command (state_at v n) (bytes ++ m.took) m.last (state_at w n)) (sym e) (decl_done held lb b done n v w bytes body m.took m.last line says m.outcome);
}

pub decl_moves_ended : {a b : Pending} {la lb wa wb : Option (List ℕ)} (v w : View) (held : Option Held) (status : Status) (n : ℕ) (bytes body : List ℕ) (r : Result Kept Status) → r ≡ Err status → IsLine true bytes body → said_of body ≡ meant read_declaration
    → Moves a la b lb wa wb (λ text last. DeclTurn lb b (Err status) v text last w) → Moves a la b lb wa wb (λ rest last. TurnOf held lb b r a_command (state_at v n) (bytes ++ rest) last (state_at w n))
decl_moves_ended {b = b} {lb = lb} v w held status n bytes body r e line says m = record {
  took = m.took;
  last = m.last;
  sees = m.sees;
  within = m.within;
  gains = m.gains;
  outcome = subst (λ (x : Result Kept Status). TurnOf held lb b x a_command (state_at v n) (bytes ++ m.took) m.last (state_at w n)) (sym e) (decl_ended held lb b status n v w bytes body m.took m.last line says m.outcome);
}

-- nothing was gathered of nothing
pub gathered_nil : (lost : Lost) (kept : List ℕ) → lost ≡ Nothing → kept ≡ [] → IsGathered lost kept []
gathered_nil lost kept e k = subst (λ (l : Lost). IsGathered l kept []) (sym e) (k, omega arith)

-- what a whole line and then its command did
pub line_moves : {a b c : Pending} {la lb lc wa wc : Option (List ℕ)} {P : List ℕ → List ℕ → Type 0} (line : List ℕ) → Sees a la b lb line → Moves b lb c lc wa wc (λ rest last. P (line ++ rest) last) → Moves a la c lc wa wc P
line_moves line s m = record {
  took = line ++ m.took;
  last = m.last;
  sees = Sees-trans s m.sees;
  within = m.within;
  gains = m.gains;
  outcome = m.outcome;
}

pub quit_turn : (held : Option Held) (left : Option (List ℕ)) (feed : Pending) (v : State) (bytes body : List ℕ) → IsLine true bytes body → said_of body ≡ meant quit → TurnOf held left feed (Err Done) a_command v (bytes ++ []) [] v
quit_turn held left feed v bytes body line says = inl (refl, ends, refl, refl)
  where
    ends : IsQuit left feed.held (bytes ++ [])
    ends = record { whole = true; body = body; line = record { spelled = append-nil bytes ∙ line.spelled; plain = line.plain }; says = says; at_end = λ e. cc }

answered_step : (held : Option Held) (v w : State) (bytes body reply : List ℕ) (said : Heard) → IsLine true bytes body → Says (said_of body) said → takes_text said ≡ false → Answers held v (said_of body) [] reply w → Step held true a_command v (bytes ++ []) reply (phase_behind (said_of body)) w
answered_step held v w bytes body reply said line says t h =
    subst (λ (b : List ℕ). Step held true a_command v b reply (phase_behind (said_of body)) w) (sym (append-nil bytes)) (line_step held true v w bytes body reply line (nothing_behind true (said_of body) (not_text (said_of body) said says t)) h)

pub line_turn : (E : Type 0) (held : Option Held) (left : Option (List ℕ)) (feed : Pending) (v w : State) (a b : Option (List ℕ)) (bytes body : List ℕ) (said : Heard) (done : Unit {0}) (next : Kept) → feed.seen ≤ 2 ^ 40 → IsLine true bytes body → Says (said_of body) said → takes_text said ≡ false
    → IsPhaseBehind (said_of body) next → IsAnswered {E = E} held v (said_of body) a b w (Ok done) → Moves feed left feed left a b (λ rest last. TurnOf held left feed (Ok next) a_command v (bytes ++ rest) last w)
line_turn E held left feed v w a b bytes body said done next few line says t behind h = record {
  took = [];
  last = h.0;
  sees = Sees-nil feed left;
  within = few;
  gains = h.2;
  outcome = (phase_behind (said_of body), behind w.view.signature, answered_step held v w bytes body h.0 said line says t h.1, line_length bytes body [] line);
}

pub line_cut : {E : Type 0} (held : Option Held) (left : Option (List ℕ)) (feed : Pending) (v w : State) (a b : Option (List ℕ)) (bytes body : List ℕ) (said : Heard) (e : E) → feed.seen ≤ 2 ^ 40 → IsLine true bytes body → Says (said_of body) said → takes_text said ≡ false
    → IsAnswered {E = E} held v (said_of body) a b w (Err e) → Moves feed left feed left a b (λ rest last. TurnOf held left feed (Err WriteFault) a_command v (bytes ++ rest) last w)
line_cut held left feed v w a b bytes body said e few line says t h = record {
  took = [];
  last = h.2.0;
  sees = Sees-nil feed left;
  within = few;
  gains = h.2.3;
  outcome = record {
    whole = true;
    reply = h.0;
    step = (phase_behind (said_of body), answered_step held v w bytes body h.0 said line says t h.1);
    cut = (h.2.1, h.2.2, h.2.4);
    at_end = λ x. cc;
  };
}

-- the reply at the end of the input, by what the program reads next
pub last_of_is : (es : List Entry) (k : Kept) (p : Phase) → IsPhase es k p → last_of k ≡ last_reply p
last_of_is es kept.Command a_command h = refl
last_of_is es kept.Command a_query h = absurd h
last_of_is es kept.Command (a_choice w) h = absurd h
last_of_is es kept.Query a_command h = absurd h
last_of_is es kept.Query a_query h = refl
last_of_is es kept.Query (a_choice w) h = absurd h
last_of_is es (kept.Choice k) a_command h = absurd h
last_of_is es (kept.Choice k) a_query h = absurd h
last_of_is es (kept.Choice k) (a_choice w) h = refl

-- a line that the end of the input cuts short, as the last step
line_last : (held : Option Held) (v w : State) (bytes body reply : List ℕ) → IsLine false bytes body → Answers held v (said_of body) [] reply w → LastStep held a_command v bytes (reply ++ last_reply (phase_behind (said_of body))) w
line_last held v w bytes body reply line h = record { said = reply; next = phase_behind (said_of body); step = line_step held false v w bytes body reply line (nothing_last (said_of body)) h; says = refl }

pub last_step : {E : Type 0} (held : Option Held) (v w : State) (a b c : Option (List ℕ)) (bytes body more : List ℕ) (done : Unit {0}) (r : Result (Unit {0}) E) (next : Kept) → IsLine false bytes body → IsPhaseBehind (said_of body) next → more ≡ last_of next
    → IsAnswered {E = E} held v (said_of body) a b w (Ok done) → GainsReply b c more r → LastTurn held a c v bytes body w r
last_step held v w a b c bytes body more done r next line behind e h gains =
    let same : more ≡ last_reply (phase_behind (said_of body)) = e ∙ last_of_is [] next (phase_behind (said_of body)) (behind []) in (
      h.0 ++ more,
      reply_second a b c h.0 more r h.2 gains,
      inl (subst (λ (x : List ℕ). LastStep held a_command v bytes (h.0 ++ x) w) (sym same) (line_last held v w bytes body h.0 line h.1)),
    )

pub last_step_cut : {E : Type 0} (held : Option Held) (v w : State) (a b : Option (List ℕ)) (bytes body : List ℕ) (e : E) → IsLine false bytes body → IsAnswered {E = E} held v (said_of body) a b w (Err e) → LastTurn {E = E} held a b v bytes body w (Err e)
last_step_cut held v w a b bytes body e line h = (
  h.0 ++ last_reply (phase_behind (said_of body)),
  front_first a b h.0 (last_reply (phase_behind (said_of body))) h.2,
  inl (line_last held v w bytes body h.0 line h.1),
)

append_none : (xs ys : List ℕ) → xs ++ ys ≡ [] → ys ≢ [] → ⊥
append_none [] ys e h = h e
append_none (x ∷ xs) ys e h = cc

-- the end of the input after a line that it cuts short
pub last_moves : {a b : Pending} {la lb wa wb : Option (List ℕ)} {v w : State} (held : Option Held) (E : Type 0) (done : Unit {0}) (line body : List ℕ) → IsLine false line body → Sees a la b lb line → b.seen ≤ 2 ^ 40 → Stopped stops.End b lb → LastTurn {E = E} held wa wb v line body w (Ok done)
    → Moves a la b lb wa wb (λ took last. TurnOf held lb b (Err Done) a_command v took last w)
last_moves held E done line body l s few stop t = record {
  took = line;
  last = t.0;
  sees = s;
  within = few;
  gains = t.1;
  outcome = elim t.2 [
    | inl step ↦ inr (step, stop)
    | inr over ↦ inl (refl, record { whole = false; body = body; line = l; says = over.0; at_end = λ e. stop }, over.1, over.2)
  ];
}

pub last_cut : {a b : Pending} {la lb wa wb : Option (List ℕ)} {v w : State} (held : Option Held) (E : Type 0) (e : E) (line body : List ℕ) → IsLine false line body → Sees a la b lb line → b.seen ≤ 2 ^ 40 → Stopped stops.End b lb → LastTurn {E = E} held wa wb v line body w (Err e)
    → Moves a la b lb wa wb (λ took last. TurnOf held lb b (Err WriteFault) a_command v took last w)
last_cut held E e line body l s few stop t = record {
  took = line;
  last = t.1.0;
  sees = s;
  within = few;
  gains = t.1.3;
  outcome = elim t.2 [
    | inl step ↦ record { whole = false; reply = t.0; step = step; cut = (t.1.1, t.1.2, t.1.4); at_end = λ x. stop }
    | inr over ↦ absurd (append_none t.1.0 t.1.1 (sym t.1.2 ∙ over.1) t.1.4)
  ];
}

-- what the program heard is of this form
pub heard_as : (line : Said) (said form : Heard) → said ≡ form → Says line said → Says line form
heard_as line said form e s = subst (λ (h : Heard). Says line h) e s

-- a turn that goes on looks at some bytes
pub turn_onward : {a : Pending} {la wa wc : Option (List ℕ)} (held : Option Held) (left : Option (List ℕ)) (feed : Pending) (phase : Phase) (v w : State) (next : Kept) → Moves a la feed left wa wc (λ took last. TurnOf held left feed (Ok next) phase v took last w) → a.seen < feed.seen
turn_onward held left feed phase v w next m = let s = m.sees.counted in let k = m.outcome.3 in omega arith

-- the same answer, to a line that says the same
pub answered_as : {E : Type 0} (held : Option Held) (v w : State) (line said : Said) (a b : Option (List ℕ)) (r : Result (Unit {0}) E) → line ≡ said → IsAnswered held v said a b w r → IsAnswered held v line a b w r
answered_as held v w line said a b r e h = answered held v w line said a b h.0 r e h.1 h.2

-- an answer to a command of this form
pub carried : {E : Type 0} (held : Option Held) (v w : State) (command form : Command) (a b : Option (List ℕ)) (reply : List ℕ) (r : Result (Unit {0}) E) → command ≡ form → Answers held v (meant (command_means form)) [] reply w → GainsReply a b reply r
    → IsAnswered held v (meant (command_means command)) a b w r
carried held v w command form a b reply r e h g = answered held v w (meant (command_means command)) (meant (command_means form)) a b reply r (ap (λ (c : Command). meant (command_means c)) e) h g

-- a file of this name was loaded
pub carried_load : {E : Type 0} (held : Option Held) (v w : State) (command : Command) (name : Name) (word : List ℕ) (a b : Option (List ℕ)) (r : Result (Unit {0}) E) → command ≡ commands.LoadFile name → word ≡ name → IsLoaded held word v a b w r
    → IsAnswered held v (meant (command_means command)) a b w r
carried_load held v w command name word a b r e same l =
    carried held v w command (commands.LoadFile name) a b l.0 r e (inr (subst (λ (n : List ℕ). LoadsAlone held n v l.0 w) same l.1)) l.2
