-- Replies to queries, and to lines behind `More?`.
use Rattle.std.proofs.Common.{◌≡◌, ℕ, ◌≤◌, ◌<◌, length, List, ◌++◌, append-nil, codes, refl, sym, ap, ◌∙◌, subst, inl, inr, Vec, Global}
use Rattle.lf.specs.Entries.{Entry, signature_of}
use Rattle.tw_decl.specs.Question.{AsksFor, AsksNothing, HasQueryCause, MayBeAsked, Says}
use Rattle.tw_decl.specs.Refusals.{refusal_line}
use Rattle.tw_decl.specs.View.{View, scene_of as scene_of_view}
use Rattle.tw_decl.specs.declared.question.Question.{Question}
use Rattle.tw_decl.specs.declared.question.Question.TheVariants as questions
use Rattle.tw_decl.specs.declared.refusal.Refusal.{Refusal}
use Rattle.tw_decl.specs.declared.refusal.Refusal.TheVariants as refusals
use Rattle.tw_lexer.specs.declared.place.Place.{Place}
use Rattle.tw_print.specs.Names.{Scene}
use Rattle.tw_print.specs.ShowEnv.{scene_of}
use Rattle.tw_print.specs.declared.show.ShowEnv.{ShowEnv}
use Rattle.tw_recon.specs.Queries.{IsCanonicalGoal}
use Rattle.tw_signature.specs.Goal.{Goal, goal_of}
use Rattle.tw_signature.specs.declared.goal.Goal.{Goal as AskedGoal}
use Rattle.tw_top.specs.Rounds.{Ending, Rounds, Standing, begun, deep, over, paused, round_budget}
use Rattle.tw_top.specs.UnderWay.{ComesTo, Holds, IsPause, asked}
use Rattle.tw_top.specs.declared.asking.Asking.{Asking}
use Rattle.tw_top.specs.declared.pause.Pause.{Pause}
use Rattle.tw_top.specs.declared.pause.Pause.TheVariants as pauses
use Rattle.tw_top.specs.declared.pause.Round.{Round}
use Rattle.tw_server.specs.Gather.{IsGathered}
use Rattle.tw_server.specs.Limits.{text_limit}
use Rattle.tw_server.specs.Phases.{AnswersChoice, Choice, Waiting, a_choice, a_command, a_query, choice_of}
use Rattle.tw_server.specs.Playing.{GoesOnTo, HasAnswer, HoldsSearch, IsPhase, IsPlayed, RepliesToChoice, RepliesToQuery, choice_is}
use Rattle.tw_server.specs.Replies.{no_memory, reply_bytes}
use Rattle.tw_server.specs.declared.phase.Phase.TheVariants as kept
use Rattle.tw_server.specs.declared.phase.Waiting.{Waiting as Asked}
use Rattle.tw_server.specs.declared.query.Answered.{Answered}
use Rattle.tw_server.specs.declared.query.Choice.{Choice as Chosen}
use Rattle.tw_server.specs.declared.text.Lost.{Lost}
use Rattle.tw_server.specs.declared.text.Lost.TheVariants as losts
use Rattle.tw_server.specs.declared.reply.Reply.TheVariants as replies

-- memory is wanting
pub goes_nowhere : (v : View) (g : Goal) (at : Place) (s : Standing) (a : Answered) → reply_bytes a.reply ≡ no_memory → a.next ≡ kept.Query → GoesOnTo v g at s a
goes_nowhere v g at s a e n = (a_query, subst (λ k. IsPhase v.signature k a_query) (sym n) tt, inl (record { says = e; then_reads = refl }))

-- a round was played, and these lines stand behind its own
module _ (v : View) (s : Standing) (w : Asked) (r : Round) (h : IsPlayed v s w r) where
  abbrev Played : Ending → Type 0
  Played end = Rounds v.signature (scene_of_view v) (asked w.asking) (round_budget v.parameters.steps s.tries) s r.text.items end

  pub after_more : (text : Vec ℕ Global) → text.items ≡ r.text.items → r.pause ≡ pauses.More → GoesOnTo v (asked w.asking) w.at s (record { reply = replies.Lines text; next = kept.Choice w })
  after_more text e p = go h.0 h.1 (subst (λ x. IsPause v.signature w.asking x h.0) p h.2)
    where
      go : (end : Ending) → Played end → IsPause v.signature w.asking pauses.More end → GoesOnTo v (asked w.asking) w.at s (record { reply = replies.Lines text; next = kept.Choice w })
      go (paused t) round is = (
        a_choice (record { goal = asked w.asking; at = w.at; standing = t }),
        record { goal = refl; place = refl; holds = is },
        inr (record { lines = r.text.items; end = paused t; round = round; says = e ∙ sym (append-nil r.text.items); then_reads = refl }),
      )
      go over round is = absurd is
      go deep round is = absurd is

  pub after_over : (text : Vec ℕ Global) → text.items ≡ r.text.items → r.pause ≡ pauses.Over → GoesOnTo v (asked w.asking) w.at s (record { reply = replies.Lines text; next = kept.Query })
  after_over text e p = go h.0 h.1 (subst (λ x. IsPause v.signature w.asking x h.0) p h.2)
    where
      go : (end : Ending) → Played end → IsPause v.signature w.asking pauses.Over end → GoesOnTo v (asked w.asking) w.at s (record { reply = replies.Lines text; next = kept.Query })
      go (paused t) round is = absurd is
      go over round is = (a_query, tt, inr (record { lines = r.text.items; end = over; round = round; says = e ∙ sym (append-nil r.text.items); then_reads = refl }))
      go deep round is = absurd is

  pub after_deep : (text : Vec ℕ Global) → text.items ≡ r.text.items ++ refusal_line (codes "stdin") (refusals.TooDeep w.at) → r.pause ≡ pauses.TooDeep → GoesOnTo v (asked w.asking) w.at s (record { reply = replies.Lines text; next = kept.Query })
  after_deep text e p = go h.0 h.1 (subst (λ x. IsPause v.signature w.asking x h.0) p h.2)
    where
      go : (end : Ending) → Played end → IsPause v.signature w.asking pauses.TooDeep end → GoesOnTo v (asked w.asking) w.at s (record { reply = replies.Lines text; next = kept.Query })
      go (paused t) round is = absurd is
      go over round is = absurd is
      go deep round is = (a_query, tt, inr (record { lines = r.text.items; end = deep; round = round; says = e; then_reads = refl }))

-- a round of the program's search, in the words of the session
pub played : (v : View) (env : ShowEnv) (old new : Asking) (lines : List ℕ) (pause : Pause) (steps : ℕ) (s : Standing) → scene_of env ≡ scene_of_view v → steps ≡ v.parameters.steps → asked new ≡ asked old
    → ((t : Standing) → Holds env.sig.now old t → ComesTo env.sig.now (scene_of env) (asked old) (round_budget steps t.tries) t new lines pause) → Holds v.signature old s
    → ComesTo v.signature (scene_of_view v) (asked new) (round_budget v.parameters.steps s.tries) s new lines pause
played v env old new lines pause steps s e k g f h =
    let es : env.sig.now ≡ v.signature = ap (λ (x : Scene). x.entries) e in
    let held : Holds env.sig.now old s = subst (λ (x : List Entry). Holds x old s) (sym es) h in
    let one = subst (λ (x : List Entry). ComesTo x (scene_of env) (asked old) (round_budget steps s.tries) s new lines pause) es (f s held) in
    let two = subst (λ (x : Scene). ComesTo v.signature x (asked old) (round_budget steps s.tries) s new lines pause) e one in
    let three = subst (λ (x : ℕ). ComesTo v.signature (scene_of_view v) (asked old) (round_budget x s.tries) s new lines pause) k two in
    subst (λ (x : Goal). ComesTo v.signature (scene_of_view v) x (round_budget v.parameters.steps s.tries) s new lines pause) (sym g) three

-- it goes on so from where the search stands
pub went_on : (v : View) (w : Waiting) (g : Goal) (at : Place) (a : Answered) → g ≡ w.goal → at ≡ w.at → GoesOnTo v g at w.standing a → GoesOnTo v w.goal w.at w.standing a
went_on v w g at a e p h = subst (λ x. GoesOnTo v x w.at w.standing a) e (subst (λ x. GoesOnTo v g x w.standing a) p h)

-- a search that the program holds may go on in the words of the session
pub may_go_on : (v : View) (env : ShowEnv) (a : Asking) (s : Standing) → scene_of env ≡ scene_of_view v → Holds v.signature a s → Holds env.sig.now a s
may_go_on v env a s e h = let es : v.signature ≡ env.sig.now = ap (λ (x : Scene). x.entries) (sym e) in subst (λ (x : List Entry). Holds x a s) es h

-- a search that begins here
is_begun : (es ds : List Entry) (a : Asking) (g : Goal) (at : Place) → ds ≡ es → Holds ds a (begun g) → asked a ≡ g → HoldsSearch es (record { asking = a; at = at }) (record { goal = g; at = at; standing = begun g })
is_begun es ds a g at e h k = record { goal = k; place = refl; holds = subst (λ (x : List Entry). Holds x a (begun g)) e h }

pub holds_begun : (es ds : List Entry) (a : Asking) (g : Goal) (at : Place) → ds ≡ es → Holds ds a (begun g) → asked a ≡ g → (w : Waiting) × HoldsSearch es (record { asking = a; at = at }) w
holds_begun es ds a g at e h k = (record { goal = g; at = at; standing = begun g }, is_begun es ds a g at e h k)

pub went_on_begun : (v : View) (ds : List Entry) (a : Asking) (g : Goal) (at : Place) (r : Answered) → ds ≡ v.signature → Holds ds a (begun g) → asked a ≡ g → ((w : Waiting) → HoldsSearch v.signature (record { asking = a; at = at }) w → GoesOnTo v w.goal w.at w.standing r)
    → GoesOnTo v g at (begun g) r
went_on_begun v ds a g at r e h k f = f (record { goal = g; at = at; standing = begun g }) (is_begun v.signature ds a g at e h k)

-- what a text asks, by the form of it
pub nothing_asked : (v : View) (text : List ℕ) (q : Question) → q ≡ questions.Nothing → Says v text q → AsksNothing text
nothing_asked v text q e h = subst (λ (x : Question). Says v text x) e h

pub goal_asked : (v : View) (text : List ℕ) (q : Question) (g : AskedGoal) (at : Place) → q ≡ questions.Answers g at → Says v text q → AsksFor v text (goal_of g) at
goal_asked v text q g at e h = subst (λ (x : Question). Says v text x) e h

pub goal_may_be : (v : View) (q : Question) (g : AskedGoal) (at : Place) → q ≡ questions.Answers g at → MayBeAsked v q → IsCanonicalGoal (signature_of v.signature) (goal_of g)
goal_may_be v q g at e h = subst (λ (x : Question). MayBeAsked v x) e h

-- what was gathered of it
pub gathered_all : (lost : Lost) (kept bytes : List ℕ) → lost ≡ losts.Nothing → IsGathered lost kept bytes → kept ≡ bytes
gathered_all lost kept bytes e h = let g : IsGathered losts.Nothing kept bytes = subst (λ (l : Lost). IsGathered l kept bytes) e h in g.0

pub gathered_long : (lost : Lost) (kept bytes : List ℕ) → lost ≡ losts.TooLong → IsGathered lost kept bytes → text_limit < length bytes
gathered_long lost kept bytes e h = subst (λ (l : Lost). IsGathered l kept bytes) e h

pub query_same : (v : View) (text bytes : List ℕ) (a : Answered) → text ≡ bytes → RepliesToQuery v text a → RepliesToQuery v bytes a
query_same v text bytes a e h = subst (λ (x : List ℕ). RepliesToQuery v x a) e h

-- what a line behind `More?` chooses, and what is replied to it
pub chosen_so : (v : View) (w : Waiting) (body : List ℕ) (a : Answered) (k form : Chosen) → choice_is k ≡ choice_of body → k ≡ form → HasAnswer v a (AnswersChoice v w (choice_is form)) → RepliesToChoice v w body a
chosen_so v w body a k form e f h = subst (λ (x : Choice). HasAnswer v a (AnswersChoice v w x)) (ap choice_is (sym f) ∙ e) h

-- what is replied to a query
pub query_refused : (v : View) (text : List ℕ) (refusal : Refusal) (line : Vec ℕ Global) → length text ≤ text_limit → HasQueryCause v text refusal → line.items ≡ refusal_line (codes "stdin") refusal → RepliesToQuery v text (record { reply = replies.Lines line; next = kept.Query })
query_refused v text refusal line short cause e = (a_query, tt, inr (inr (inr (inl (record { short = short; refuses = (refusal, cause, e); then_reads = refl })))))

pub query_unkept : (v : View) (text : List ℕ) (a : Answered) → reply_bytes a.reply ≡ no_memory → a.next ≡ kept.Query → RepliesToQuery v text a
query_unkept v text a e n = (a_query, subst (λ k. IsPhase v.signature k a_query) (sym n) tt, inl (record { says = e; then_reads = refl }))

pub query_none : (v : View) (text : List ℕ) → length text ≤ text_limit → AsksNothing text → RepliesToQuery v text (record { reply = replies.Done; next = kept.Command })
query_none v text short n = (a_command, tt, inr (inr (inl (record { short = short; nothing = n; says = refl; then_reads = refl }))))

pub query_begins : (v : View) (text : List ℕ) (g : Goal) (at : Place) (a : Answered) → length text ≤ text_limit → AsksFor v text g at → IsCanonicalGoal (signature_of v.signature) g → GoesOnTo v g at (begun g) a → RepliesToQuery v text a
query_begins v text g at a short asks may (next, is, goes) = (next, is, inr (inr (inr (inr (record { short = short; goal = g; at = at; asks = asks; canonical = may; goes = goes })))))

pub query_long : (v : View) (text : List ℕ) → text_limit < length text → RepliesToQuery v text (record { reply = replies.TextLongAlone; next = kept.Query })
query_long v text long = (a_query, tt, inr (inl (record { long = long; says = refl; then_reads = refl })))
