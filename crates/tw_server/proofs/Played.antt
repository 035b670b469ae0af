-- How one turn of the loop of answers is put together.
use Rattle.std.proofs.Common.{◌≡◌, ℕ, ◌<◌, ◌≤◌, ◌^◌, List, [], ◌∷◌, ◌++◌, length, refl, sym, ap, ◌∙◌, arith, subst, append-nil, length-append, Bool, true, false, inr, Ok, Err}
use Rattle.std.specs.declared.option.Option.{Option}
use Rattle.std.specs.declared.result.Result.{Result}
use Rattle.lf.specs.Entries.{Entry}
use Rattle.tw_decl.specs.View.{View}
use Rattle.tw_ports.specs.Files.{Held}
use Rattle.tw_ports.proofs.Gained.{Gains-nil}
use Rattle.tw_server.specs.Feed.{Pending, Sees, Stopped}
use Rattle.tw_server.specs.Lines.{HasNoFeed, IsLine, IsText}
use Rattle.tw_server.specs.Machine.{LastStep, Step}
use Rattle.tw_server.specs.Outcome.{Ends, IsUnfinished}
use Rattle.tw_server.specs.Phases.{AnswersChoice, AnswersQuestion, Phase, Waiting, a_choice, a_command, a_query, choice_of}
use Rattle.tw_server.specs.Playing.{HoldsSearch, IsPhase, SaysLast, SaysReply, last_of}
use Rattle.tw_server.specs.Replies.{reply_bytes}
use Rattle.tw_server.specs.State.{State, state_at}
use Rattle.tw_server.specs.Turns.{Moves, TurnOf}
use Rattle.tw_server.specs.declared.feed.Stop.TheVariants as stops
use Rattle.tw_server.specs.declared.phase.Phase.{Phase as Kept}
use Rattle.tw_server.specs.declared.phase.Phase.TheVariants as kept
use Rattle.tw_server.specs.declared.phase.Waiting.{Waiting as Asked}
use Rattle.tw_server.specs.declared.query.Answered.{Answered}
use Rattle.tw_server.specs.declared.status.Status.{Status}
use Rattle.tw_server.specs.declared.status.Status.TheVariants.{Done, BadWords, ReadFault, WriteFault, NoMemory, InputLong}
use Rattle.tw_server.proofs.Turned.{last_of_is}

-- whole lines are some bytes
pub line_some : (bytes body : List ℕ) → IsLine true bytes body → 0 < length bytes
line_some bytes body line = omega (arith, ap length line.spelled, length-append body (10 ∷ []))

pub text_some : (text : List ℕ) → IsText true text → 0 < length text
text_some text t = omega (arith, ap length t.4, length-append t.0 (10 ∷ []))

-- a line that the end of the input cuts short has no line feed
pub line_open : (bytes body : List ℕ) → IsLine false bytes body → HasNoFeed bytes
line_open bytes body line = subst HasNoFeed (sym (line.spelled ∙ append-nil body)) line.plain

module _ (held : Option Held) (phase : Phase) (v : State) (a : Answered) (next : Phase) (is_next : IsPhase v.view.signature a.next next) where
  -- a step on whole lines, whose reply is written
  pub said_moves : {old new : Pending} {left left' written written' : Option (List ℕ)} (took : List ℕ) → Step held true phase v took (reply_bytes a.reply) next v → 0 < length took → Sees old left new left' took → new.seen ≤ 2 ^ 40
      → (r : Result Kept Status) → SaysReply a written written' r → Moves old left new left' written written' (λ took last. TurnOf held left' new r phase v took last v)
  said_moves took step some sees few (Ok kept) (gains, same) = record {
    took = took;
    last = reply_bytes a.reply;
    sees = sees;
    within = few;
    gains = gains;
    outcome = (next, subst (λ k. IsPhase v.view.signature k next) (sym same) is_next, step, some);
  }
  said_moves {new = new} {left' = left'} took step some sees few (Err status) (is, front) = record {
    took = took;
    last = front.0;
    sees = sees;
    within = few;
    gains = front.3;
    outcome = subst (λ s. Ends held left' s phase v took front.0 v new.held new.seen) (sym is)
        (record { whole = true; reply = reply_bytes a.reply; step = (next, step); cut = (front.1, front.2, front.4); at_end = λ e. cc });
  }

  -- the reply of the step that the end of the input cuts short, with that of the end
  abbrev all_of : List ℕ
  all_of = reply_bytes a.reply ++ last_of a.next

  last_is : (took : List ℕ) → Step held false phase v took (reply_bytes a.reply) next v → LastStep held phase v took all_of v
  last_is took step = record { said = reply_bytes a.reply; next = next; step = step; says = ap (λ x. reply_bytes a.reply ++ x) (last_of_is v.view.signature a.next next is_next) }

  pub last_said : {old new : Pending} {left left' written written' : Option (List ℕ)} (took : List ℕ) → Step held false phase v took (reply_bytes a.reply) next v → Sees old left new left' took → new.seen ≤ 2 ^ 40 → Stopped stops.End new left'
      → (status : Status) → SaysLast a written written' status → Moves old left new left' written written' (λ took last. TurnOf held left' new (Err status) phase v took last v)
  last_said took step sees few stop Done gains = record {
    took = took;
    last = all_of;
    sees = sees;
    within = few;
    gains = gains;
    outcome = inr (last_is took step, stop);
  }
  last_said took step sees few stop WriteFault front = record {
    took = took;
    last = front.0;
    sees = sees;
    within = few;
    gains = front.3;
    outcome = record { whole = false; reply = all_of; step = last_is took step; cut = (front.1, front.2, front.4); at_end = λ e. stop };
  }
  last_said took step sees few stop BadWords h = absurd h
  last_said took step sees few stop ReadFault h = absurd h
  last_said took step sees few stop NoMemory h = absurd h
  last_said took step sees few stop InputLong h = absurd h

-- what was read breaks off
pub broken_off : {old new : Pending} {left left' : Option (List ℕ)} (held : Option Held) (phase : Phase) (v : State) (written : Option (List ℕ)) (took : List ℕ) → IsUnfinished phase took → Sees old left new left' took → new.seen ≤ 2 ^ 40 → Stopped stops.Failed new left'
    → Moves old left new left' written written (λ took last. TurnOf held left' new (Err ReadFault) phase v took last v)
broken_off held phase v written took u sees few stop = record { took = took; last = []; sees = sees; within = few; gains = Gains-nil written; outcome = (record { unfinished = u; silent = refl; same = refl }, stop) }

pub too_long : {old new : Pending} {left left' : Option (List ℕ)} (held : Option Held) (phase : Phase) (v : State) (written : Option (List ℕ)) (took : List ℕ) → IsUnfinished phase took → Sees old left new left' took → new.seen ≤ 2 ^ 40 → Stopped stops.Long new left'
    → Moves old left new left' written written (λ took last. TurnOf held left' new (Err InputLong) phase v took last v)
too_long held phase v written took u sees few stop = record { took = took; last = []; sees = sees; within = few; gains = Gains-nil written; outcome = (record { unfinished = u; silent = refl; same = refl }, stop.0, stop.1) }

-- a query, and a line behind `More?`, as steps
pub query_step : (held : Option Held) (whole : Bool) (n : ℕ) (v : View) (text reply : List ℕ) (next : Phase) → IsText whole text → AnswersQuestion v text reply next → Step held whole a_query (state_at v n) text reply next (state_at v n)
query_step held whole n v text reply next t h = record { takes = t; answers = h; same = refl }

pub choice_step : (held : Option Held) (whole : Bool) (w : Waiting) (n : ℕ) (v : View) (line body reply : List ℕ) (next : Phase) → IsLine whole line body → AnswersChoice v w (choice_of body) reply next → Step held whole (a_choice w) (state_at v n) line reply next (state_at v n)
choice_step held whole w n v line body reply next l h = record { body = body; takes = l; answers = h; same = refl }

-- what is read next, by what the program reads
pub next_command : (es : List Entry) (k : Kept) (P : Phase → Type 0) → k ≡ kept.Command → P a_command → (p : Phase) → IsPhase es k p → P p
next_command es k P e x p h = go p (subst (λ y. IsPhase es y p) e h)
  where
    go : (q : Phase) → IsPhase es kept.Command q → P q
    go a_command i = x
    go a_query i = absurd i
    go (a_choice w) i = absurd i

pub next_query : (es : List Entry) (k : Kept) (P : Phase → Type 0) → k ≡ kept.Query → P a_query → (p : Phase) → IsPhase es k p → P p
next_query es k P e x p h = go p (subst (λ y. IsPhase es y p) e h)
  where
    go : (q : Phase) → IsPhase es kept.Query q → P q
    go a_command i = absurd i
    go a_query i = x
    go (a_choice w) i = absurd i

pub next_choice : (es : List Entry) (k : Kept) (asked : Asked) (P : Phase → Type 0) → k ≡ kept.Choice asked → ((w : Waiting) → HoldsSearch es asked w → P (a_choice w)) → (p : Phase) → IsPhase es k p → P p
next_choice es k asked P e f p h = go p (subst (λ y. IsPhase es y p) e h)
  where
    go : (q : Phase) → IsPhase es (kept.Choice asked) q → P q
    go a_command i = absurd i
    go a_query i = absurd i
    go (a_choice w) i = f w i

-- the search of which it reads whether it goes on
pub some_search : (es : List Entry) (k : Kept) (asked : Asked) → k ≡ kept.Choice asked → (p : Phase) × IsPhase es k p → (w : Waiting) × HoldsSearch es asked w
some_search es k asked e (p, h) = go p (subst (λ y. IsPhase es y p) e h)
  where
    go : (q : Phase) → IsPhase es (kept.Choice asked) q → (w : Waiting) × HoldsSearch es asked w
    go a_command i = absurd i
    go a_query i = absurd i
    go (a_choice w) i = (w, i)
