-- What the steps of the engine come to.
use Rattle.std.proofs.Common.{◌≡◌, ℕ, ◌+◌, ◌-◌, ◌<◌, ◌≤◌, List, [], ◌∷◌, length, map, reverse, Option, Some, None, is_some, refl, sym, ap, ◌∙◌, subst, arith}
use Rattle.std.specs.Option.{option_map}
use Rattle.lf.specs.Depth.{depth_limit}
use Rattle.lf.specs.Entries.{Entry, IsCanonicalSignature, signature_of}
use Rattle.lf.specs.Syntax.{Head, LfType}
use Rattle.lf.proofs.Entries.{canonical_is_signature}
use Rattle.lf_unification.specs.Lists.{followed}
use Rattle.lf_unification.specs.Search.{Pending, SearchesFrom, begin_search, declared_constants, tried_heads}
use Rattle.lf_unification.specs.Unifiers.{Equation}
use Rattle.lf_search.specs.Coming.{AnswerIsDeep, Comes}
use Rattle.tw_metas.specs.State.{Story}
use Rattle.tw_metas.specs.declared.left.LeftEquation.{LeftEquation}
use Rattle.tw_putting.specs.Ready.{IsLater}
use Rattle.tw_putting.specs.Whole.{whole}
use Rattle.tw_terms.specs.View.{term_of}
use Rattle.tw_terms.specs.declared.canonical.MetaId.{MetaId}
use Rattle.tw_unify.specs.Reaching.{IsKnown, marking_of}
use Rattle.tw_unify.specs.declared.reach.Walk.{Walk}
use Rattle.tw_search.specs.Answers.{values_of}
use Rattle.tw_search.specs.Chains.{GoalsAre, IsFirst, IsGrown, frames_of}
use Rattle.tw_search.specs.Choosing.{heads_left}
use Rattle.tw_search.specs.Going.{GivesOutUp, Goes, GoesFrom, GoesUp, IsBelow}
use Rattle.tw_search.specs.Goals.{IsOpened}
use Rattle.tw_search.specs.Leaves.{IsLeaf, IsReadOff}
use Rattle.tw_search.specs.Left.{ShowingIsDeep, ShowsFirst}
use Rattle.tw_search.specs.Standing.{Came, ChoicesStand, GaveOut, IsAt, IsOver, IsTakenUp, KeepsMet, NodeStands, PlaceStands, TriesHead, WentOn, asked_of, choices_of}
use Rattle.tw_search.specs.Tries.{GivesChild, NeverFits}
use Rattle.tw_search.specs.declared.answer.Answer.{Answer}
use Rattle.tw_search.specs.declared.frames.Frame.{Frame}
use Rattle.tw_search.specs.declared.goal.OpenGoal.{OpenGoal}
use Rattle.tw_search.specs.declared.search.Search.{Search}
use Rattle.tw_search.specs.declared.step.Choice.{Choice}
use Rattle.tw_search.specs.declared.step.End.TheVariants as end
use Rattle.tw_search.specs.declared.step.Place.TheVariants as place
use Rattle.tw_search.specs.declared.step.Step.{Step}
use Rattle.tw_search.specs.declared.step.Step.TheVariants as step
use Rattle.tw_search.proofs.Leaving.{answer_came, budget_came, deep_came, left_came, left_deep_came}
use Rattle.tw_search.proofs.Standing as standing

-- Where a search is.
pub heads_here : (es : List Entry) (s : Search) (agenda : List Pending) → s.place ≡ place.Heads → ChoicesStand es s.variables s.store (frames_of s.frames) (choices_of s) agenda → KeepsMet s → IsAt es s agenda
heads_here es s agenda e w k = (subst (λ p. PlaceStands es s.variables p s.store (frames_of s.frames) (choices_of s) agenda) (sym e) w, k)

pub node_here : (es : List Entry) (s : Search) (list : ℕ) (agenda : List Pending) → s.place ≡ place.Node list → NodeStands es s.variables list s.store (frames_of s.frames) (choices_of s) agenda → KeepsMet s → IsAt es s agenda
node_here es s list agenda e w k = (subst (λ p. PlaceStands es s.variables p s.store (frames_of s.frames) (choices_of s) agenda) (sym e) w, k)

-- the choice points of a search that is at them
pub heads_are : (es : List Entry) (s : Search) (n : ℕ) (cs : List Choice) (fs : List Frame) (y : Story) (agenda : List Pending) → s.place ≡ place.Heads → s.variables ≡ n → s.store ≡ y → frames_of s.frames ≡ fs → choices_of s ≡ cs → ChoicesStand es n y fs cs agenda → KeepsMet s → IsAt es s agenda
heads_are es s n cs fs y agenda p v q f k w met =
    heads_here es s agenda p
    (subst (λ m. ChoicesStand es m s.store (frames_of s.frames) (choices_of s) agenda) (sym v)
    (subst (λ (z : Story). ChoicesStand es n z (frames_of s.frames) (choices_of s) agenda) (sym q)
    (subst (λ xs. ChoicesStand es n y xs (choices_of s) agenda) (sym f)
    (subst (λ xs. ChoicesStand es n y fs xs agenda) (sym k) w)))) met

-- what is known stays so with the store and what was met
pub same_met : (old new : Search) → new.store ≡ old.store → new.met ≡ old.met → KeepsMet old → KeepsMet new
same_met old new q m k = subst (λ (x : Walk). IsKnown new.store.now (marking_of x)) (sym m) (subst (λ (y : Story). IsKnown y.now (marking_of old.met)) (sym q) k)

-- Tries.
module _ (es : List Entry) (ok : IsCanonicalSignature es) (old new : Search) (c : Choice) (h : Head) (agenda : List Pending) (w : TriesHead es old c h agenda) (later : IsLater old.store new.store) (choices : choices_of new ≡ c ∷ choices_of old) (variables : new.variables ≡ old.variables) (same_goal : new.goal ≡ old.goal) (tries : new.tries ≡ old.tries + 1) (met : KeepsMet new) where
  pub none_tried : NeverFits (signature_of es) old.store.now c.goal h → IsGrown (frames_of old.frames) (frames_of new.frames) → new.place ≡ place.Heads → WentOn es old new agenda
  none_tried n f p = record {
    tries = 1;
    after = standing.after_none es ok old c h agenda w new.store later;
    run = standing.run_none es ok old c h agenda w new.store later n;
    count = tries;
    variables = variables;
    same_goal = same_goal;
    at = heads_are es new old.variables (c ∷ choices_of old) (frames_of new.frames) new.store _ p variables refl refl choices (standing.choice_after es ok old c h agenda w new.store later (frames_of new.frames) f) met;
  }

  pub child_tried : (subgoals : List MetaId) → GivesChild (signature_of es) old.store.now c.goal h subgoals new.store.now → IsGrown (frames_of old.frames) (frames_of new.frames) →
      (list : ℕ) → ((gs : List ℕ) → GoalsAre (frames_of old.frames) c.rest gs → GoalsAre (frames_of new.frames) list (followed (reverse (map (λ (m : MetaId). m.0) subgoals)) gs)) → new.place ≡ place.Node list → WentOn es old new agenda
  child_tried subgoals child f list gs p = record {
    tries = 1;
    after = standing.after_child es ok old c h agenda w new.store later subgoals child;
    run = standing.run_child es ok old c h agenda w new.store later subgoals child;
    count = tries;
    variables = variables;
    same_goal = same_goal;
    at = node_here es new list _ p
        (subst (λ m. NodeStands es m list new.store (frames_of new.frames) (choices_of new) (standing.after_child es ok old c h agenda w new.store later subgoals child)) (sym variables)
        (subst (λ xs. NodeStands es old.variables list new.store (frames_of new.frames) xs (standing.after_child es ok old c h agenda w new.store later subgoals child)) (sym choices)
        (standing.node_after es ok old c h agenda w new.store later subgoals child (frames_of new.frames) list f gs))) met;
  }

-- Memory gave out behind a try.
module _ (es : List Entry) (ok : IsCanonicalSignature es) (old new : Search) (c : Choice) (h : Head) (agenda : List Pending) (w : TriesHead es old c h agenda) (y : Story) (later : IsLater old.store y) (tries : new.tries ≡ old.tries + 1) (last : ℕ) (within : old.tries < last) where
  pub gave_none : NeverFits (signature_of es) old.store.now c.goal h → GaveOut es old new agenda last
  gave_none n = record { tries = 1; reached = standing.after_none es ok old c h agenda w y later; run = standing.run_none es ok old c h agenda w y later n; count = tries; within = omega (arith, tries, within) }

  pub gave_child : (subgoals : List MetaId) → GivesChild (signature_of es) old.store.now c.goal h subgoals y.now → GaveOut es old new agenda last
  gave_child subgoals child = record { tries = 1; reached = standing.after_child es ok old c h agenda w y later subgoals child; run = standing.run_child es ok old c h agenda w y later subgoals child; count = tries; within = omega (arith, tries, within) }

-- A choice point that is taken up.
module _ (es : List Entry) (old : Search) (c : Choice) (agenda : List Pending) (w : IsTakenUp es old c agenda) (at_heads : old.place ≡ place.Heads) where
  pub heads_out : heads_left es c.goal.family.0 c.goal.locals c.local c.constant ≡ [] → WentOn es old old agenda
  heads_out e = record {
    tries = 0;
    after = w.rest;
    run = standing.passed_over es old c agenda w e;
    count = omega arith;
    variables = refl;
    same_goal = refl;
    at = heads_here es old w.rest at_heads w.older w.met;
  }

  pub budget_spent : (G : List LfType) (new : Search) (last : ℕ) (k : Head) (ks : List Head) → heads_left es c.goal.family.0 c.goal.locals c.local c.constant ≡ k ∷ ks → old.tries ≡ last → new.tries ≡ old.tries → new.variables ≡ old.variables → new.goal ≡ old.goal →
      new.store ≡ old.store → frames_of new.frames ≡ frames_of old.frames → choices_of new ≡ c ∷ choices_of old → new.place ≡ place.Heads → new.met ≡ old.met → Came es G old new agenda (last - old.tries) step.Budget
  budget_spent G new last k ks e spent t v g q f cs p m =
      budget_came es G old new agenda (standing.next_agenda es old c agenda w k ks e) (last - old.tries) (standing.up_to_head es old c agenda w k ks e) (standing.try_due es old c agenda w k ks e) (omega (arith, spent)) t v g
      (heads_are es new old.variables (c ∷ choices_of old) (frames_of old.frames) old.store _ p v q f cs (standing.stays es old c agenda w k ks e) (same_met old new q m w.met))

-- What is come to later on, or from another record of the same search.
pub goes_later : (es : List Entry) (last : ℕ) (old new : Search) (o : Option Step) (agenda agenda' : List Pending) → SearchesFrom es agenda [] 0 agenda' → GoesFrom es last old new o agenda' → GoesFrom es last old new o agenda
goes_later es last old new None agenda agenda' r g = standing.went_later es old new agenda agenda' r g
goes_later es last old new (Some s) agenda agenda' r g = λ G len. standing.came_later es G old new agenda agenda' (last - old.tries) s r (g G len)

pub goes_from_same : (es : List Entry) (last : ℕ) (old mid new : Search) (o : Option Step) (agenda : List Pending) → mid.tries ≡ old.tries → mid.variables ≡ old.variables → mid.goal ≡ old.goal → GoesFrom es last mid new o agenda → GoesFrom es last old new o agenda
goes_from_same es last old mid new None agenda t v e g = record { tries = g.tries; after = g.after; run = g.run; count = g.count ∙ ap (λ n. n + g.tries) t; variables = g.variables ∙ v; same_goal = g.same_goal ∙ e; at = g.at }
goes_from_same es last old mid new (Some s) agenda t v e g = λ G len. same G (g G (len ∙ sym v))
  where
    same : (G : List LfType) → Came es G mid new agenda (last - mid.tries) s → Came es G old new agenda (last - old.tries) s
    same G m = let budget : last - mid.tries ≡ last - old.tries = ap (λ n. last - n) t in record {
      seen = m.seen;
      tries = m.tries;
      after = m.after;
      comes = subst (λ n. Comes es depth_limit G agenda n m.seen m.tries m.after) budget m.comes;
      shows = m.shows;
      passes = m.passes;
      count = m.count ∙ ap (λ n. n + m.tries) t;
      variables = m.variables ∙ v;
      same_goal = m.same_goal ∙ e;
      then_is = m.then_is;
    }

-- Steps that are left.
pub below_more : (steps steps' last : ℕ) (new : Search) (o : Option Step) → steps ≤ steps' → IsBelow steps last new o → IsBelow steps' last new o
below_more steps steps' last new None h (b, t) = (omega (arith, h, b), t)
below_more steps steps' last new (Some s) h b = tt

-- A goal that is chosen.
module _ (es : List Entry) (old : Search) (list : ℕ) (agenda : List Pending) (w : NodeStands es old.variables list old.store (frames_of old.frames) (choices_of old) agenda) where
  abbrev at_heads : Search
  at_heads = record old { place = place.Heads }

  module _ (f : Frame) (first : IsFirst (frames_of old.frames) list (Some f)) (g : OpenGoal) (o : IsOpened old.store.now f.hole.0 g) (c : Choice) (is : c ≡ record { mark = length old.store.before; frames = length (frames_of old.frames); goal = g; rest = f.next; local = 0; constant = 0 }) (met : KeepsMet old) where
    abbrev chosen : List Pending
    chosen = standing.chosen es old.variables list old.store (frames_of old.frames) (choices_of old) agenda w f first g o

    run_chosen : SearchesFrom es agenda [] 0 chosen
    run_chosen = standing.run_chosen es old.variables list old.store (frames_of old.frames) (choices_of old) agenda w f first g o

    taken : IsTakenUp es at_heads c chosen
    taken = subst (λ (x : Choice). IsTakenUp es at_heads x chosen) (sym is) (record {
      goals = (standing.behind es old.variables list old.store (frames_of old.frames) (choices_of old) agenda w f first).0;
      heads = tried_heads g.locals (declared_constants es);
      rest = w.rest;
      is = refl;
      at = standing.at_chosen es old.variables list old.store (frames_of old.frames) (choices_of old) agenda w f first g o;
      older = w.choices;
      met = met;
    })

    pub goal_taken : (agenda' : List Pending) × IsTakenUp es at_heads c agenda'
    goal_taken = (chosen, taken)

    pub goes_taken : (last : ℕ) (new : Search) (x : Option Step) → GoesUp es last at_heads new c x → GoesFrom es last old new x agenda
    goes_taken last new x up = goes_from_same es last old at_heads new x agenda refl refl refl (goes_later es last at_heads new x agenda chosen run_chosen (up chosen taken))

    pub gives_out_taken : (last : ℕ) (new : Search) → GivesOutUp es last at_heads new c → GaveOut es old new agenda last
    gives_out_taken last new gave = standing.gave_same es old at_heads new new agenda last refl refl (standing.gave_later es at_heads new agenda chosen last run_chosen (gave chosen taken))

-- A leaf.
module _ (es : List Entry) (old new : Search) (list : ℕ) (agenda : List Pending) (w : NodeStands es old.variables list old.store (frames_of old.frames) (choices_of old) agenda) where
  module _ (ok : IsCanonicalSignature es) (first : IsFirst (frames_of old.frames) list None) where
    pub is_leaf : old.store.now.equations ≡ [] → IsLeaf old.store.now old.variables
    is_leaf e = record { signature = signature_of es; is_signature = canonical_is_signature es ok; ready = w.kept.ready; none_left = e; declared = w.kept.declared; reached = w.kept.from_query }

    module _ (G : List LfType) (len : length G ≡ old.variables) (budget : ℕ) (tries : new.tries ≡ old.tries) (variables : new.variables ≡ old.variables) (same_goal : new.goal ≡ old.goal) where
      module _ (store : new.store ≡ old.store) (frames : frames_of new.frames ≡ frames_of old.frames) (choices : choices_of new ≡ choices_of old) (heads : new.place ≡ place.Heads) (met : KeepsMet new) where
        behind : IsAt es new w.rest
        behind = heads_are es new old.variables (choices_of old) (frames_of old.frames) old.store w.rest heads variables store frames choices w.choices met

        pub answer_shown : old.store.now.equations ≡ [] → (a : Answer) → is_some a.proof ≡ is_some (asked_of old).proof → IsReadOff old.store.now old.variables a.free (values_of a) (option_map term_of a.proof) → Came es G old new agenda budget (step.Answer a)
        answer_shown e a named r = answer_came es ok old new list G len agenda budget w first tries variables same_goal e a named r behind

        pub left_shown : (left : LeftEquation) → ShowsFirst old.store.now (asked_of old) left → Came es G old new agenda budget (step.Leftover left)
        left_shown left s = left_came es ok old new list G len agenda budget w first tries variables same_goal left s behind

      pub left_deep_shown : (e : Equation) (fs : List Equation) → old.store.now.equations ≡ e ∷ fs → ShowingIsDeep old.store.now (asked_of old) → IsOver end.TooDeep new → Came es G old new agenda budget step.TooDeep
      left_deep_shown e fs q d over = left_deep_came es ok old new list G len agenda budget w first tries variables same_goal e fs q d over

      pub deep_shown : old.store.now.equations ≡ [] → AnswerIsDeep depth_limit G (whole [] old.store.now) → IsOver end.TooDeep new → Came es G old new agenda budget step.TooDeep
      deep_shown e d over = deep_came es ok old new list G len agenda budget w first tries variables same_goal e d over

-- Steps one after another.
pub went_nowhere : (es : List Entry) (s : Search) (agenda : List Pending) → IsAt es s agenda → WentOn es s s agenda
went_nowhere es s agenda w = record { tries = 0; after = agenda; run = begin_search; count = omega arith; variables = refl; same_goal = refl; at = w }

module _ (es : List Entry) (first old new : Search) (went : (agenda : List Pending) → IsAt es first agenda → WentOn es first old agenda) where
  pub went_further : (last : ℕ) → Goes es last old new None → (agenda : List Pending) → IsAt es first agenda → WentOn es first new agenda
  went_further last goes agenda w = let v = went agenda w in standing.went_then es first old new agenda v (goes v.after v.at)

  pub came_further : (last : ℕ) (s : Step) → old.tries ≤ last → Goes es last old new (Some s) → (G : List LfType) → length G ≡ first.variables → (agenda : List Pending) → IsAt es first agenda → Came es G first new agenda (last - first.tries) s
  came_further last s within goes G len agenda w = let v = went agenda w in standing.went_then_came es G first old new agenda last s v within (goes v.after v.at G (len ∙ sym v.variables))

pub still_at : (es : List Entry) (last : ℕ) (old new : Search) → Goes es last old new None → (agenda : List Pending) × IsAt es old agenda → (agenda : List Pending) × IsAt es new agenda
still_at es last old new goes (agenda, w) = let v = goes agenda w in (v.after, v.at)
