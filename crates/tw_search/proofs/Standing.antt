-- Where a search stands, from step to step.
use Rattle.std.proofs.Common.{◌≡◌, ℕ, ◌+◌, ◌-◌, ◌≤◌, List, [], ◌∷◌, drop, take, length, length-append, map, reverse, Some, Result, Ok, Err, ◌⊎◌, inl, inr, refl, sym, ap, ap₂, ◌∙◌, subst, arith}
use Rattle.std.specs.Result.{OnErr}
use Rattle.lf.specs.Depth.{depth_limit}
use Rattle.lf.specs.Entries.{Entry, IsCanonicalSignature, signature_of}
use Rattle.lf.specs.Subordination.{Member}
use Rattle.lf.specs.Syntax.{Head, LfType}
use Rattle.lf.specs.Typing.{Signature}
use Rattle.lf.proofs.Entries.{canonical_is_signature}
use Rattle.lf_unification.specs.Lists.{followed}
use Rattle.lf_unification.specs.Putting.{Unbound}
use Rattle.lf_unification.specs.Search.{IsNode, Offer, Pending, SearchesFrom, TryIsDue, at_node, begin_search, declared_constants, holes, is_due, take_goal, tried_heads}
use Rattle.lf_search.specs.Coming.{Comes}
use Rattle.lf_search.specs.Heads.{AreOffered, is_offered, not_offered}
use Rattle.lf_search.specs.Holes.{HolesAreOpen}
use Rattle.lf_search.proofs.Calls.{goes_on}
use Rattle.lf_search.proofs.ChildNode.{applied_adds}
use Rattle.lf_search.proofs.Ends.{heads_are_reached, heads_are_skipped, one_step, search_then}
use Rattle.lf_search.proofs.HolesStay.{child_holes, holes_declared}
use Rattle.lf_search.proofs.OpenHoles.{own_shape}
use Rattle.lf_search.proofs.Offers.{offer_is_there}
use Rattle.lf_search.proofs.Staying.{among_parts, run_grows}
use Rattle.tw_metas.specs.State.{State, Story, states}
use Rattle.tw_metas.proofs.Marks.{mark_is_kept}
use Rattle.tw_putting.specs.Ready.{IsLater}
use Rattle.tw_putting.specs.Stores.{bindings_of, types_of}
use Rattle.tw_putting.specs.Whole.{whole}
use Rattle.tw_terms.specs.declared.canonical.MetaId.{MetaId}
use Rattle.tw_unify.proofs.Stories.{later_then}
use Rattle.tw_search.specs.Chains.{GoalsAre, IsFirst, IsGrown, frames_of}
use Rattle.tw_search.specs.Choosing.{heads_left}
use Rattle.tw_search.specs.Goals.{IsDeclared, IsHeadFor, IsOpened, IsUnreached, at_goal, child_node, goal_type, indices_of, node_of}
use Rattle.tw_search.specs.Standing.{AtChoice, Came, ChoicesStand, GaveOut, IsTakenUp, KeepsMet, NodeStands, PassesLeaf, TriesHead, WentOn, choices_of, no_choice, one_choice}
use Rattle.tw_search.specs.Tries.{GivesChild, NeverFits}
use Rattle.tw_search.specs.declared.frames.Frame.{Frame}
use Rattle.tw_search.specs.declared.goal.OpenGoal.{OpenGoal}
use Rattle.tw_search.specs.declared.search.Search.{Search}
use Rattle.tw_search.specs.declared.step.Choice.{Choice}
use Rattle.tw_search.specs.declared.step.Step.{Step}
use Rattle.tw_search.specs.declared.step.Step.TheVariants as step
use Rattle.tw_search.proofs.AllHeads.{all_offered}
use Rattle.tw_search.proofs.Chaining.{first_taken, grown_itself, grown_then}
use Rattle.tw_search.proofs.Parts.{child_law, try_law}
use Rattle.tw_search.proofs.StillLeft.{hole_unreached}

-- marks
same_story : (a b : Story) → states a ≡ states b → a ≡ b
same_story a b e =
    let p : a.now ∷ a.before ≡ b.now ∷ b.before = e in
    let h : a.now ≡ b.now = cc in
    let t : a.before ≡ b.before = cc in
    ap₂ (λ (n : State) (bs : List State). let s : Story = record { now = n; before = bs } in s) h t

went_back : (first y new : Story) (mark : ℕ) → IsLater first y → mark ≡ length first.before → states new ≡ drop (length y.before - mark) (states y) → new ≡ first
went_back first y new mark (news, l) m e = same_story new first (e ∙ ap (λ k. drop (length y.before - k) (states y)) m ∙ mark_is_kept first y news l)

mark_within : (first y : Story) → IsLater first y → length first.before ≤ length y.before
mark_within first y (news, e) =
    let n : length (y.now ∷ y.before) ≡ length news + length (first.now ∷ first.before) = ap length e ∙ length-append news (states first) in
    omega (arith, n)

-- the choice points stand while the store and the frames grow
pub choices_later : (es : List Entry) (n : ℕ) (y y' : Story) (fs fs' : List Frame) {cs : List Choice} {agenda : List Pending} → IsLater y y' → IsGrown fs fs' → ChoicesStand es n y fs cs agenda → ChoicesStand es n y' fs' cs agenda
choices_later es n y y' fs fs' l g no_choice = no_choice
choices_later es n y y' fs fs' l g (one_choice {first = first} {older = older} l' g' at r) = one_choice {first = first} {older = older} (later_then first y y' l' l) (grown_then older fs fs' g' g) at r

pub no_growth : (fs : List Frame) → IsGrown fs fs
no_growth fs = grown_itself fs

-- the newest choice point
record Newest (es : List Entry) (n : ℕ) (y : Story) (fs : List Frame) (c : Choice) (cs : List Choice) (agenda : List Pending) : Type 0 where
  first : Story
  before : List Frame
  goals : List ℕ
  heads : List Head
  rest : List Pending
  later : IsLater first y
  grown : IsGrown before fs
  is : agenda ≡ at_goal first.now c.goal goals heads rest
  at : AtChoice es n first before c goals heads
  older : ChoicesStand es n first before cs rest

newest : {es : List Entry} {n : ℕ} {y : Story} {fs : List Frame} {c : Choice} {cs : List Choice} {agenda : List Pending} → ChoicesStand es n y fs (c ∷ cs) agenda → Newest es n y fs c cs agenda
newest (one_choice {first = first} {older = older} {gs = gs} {hs = hs} {rest = rest} l g at r) = record { first = first; before = older; goals = gs; heads = hs; rest = rest; later = l; grown = g; is = refl; at = at; older = r }

none_stands : {es : List Entry} {n : ℕ} {y : Story} {fs : List Frame} {agenda : List Pending} → ChoicesStand es n y fs [] agenda → agenda ≡ []
none_stands no_choice = refl

pub nothing_stands : (es : List Entry) (n : ℕ) (y : Story) (fs : List Frame) (cs : List Choice) (agenda : List Pending) → cs ≡ [] → ChoicesStand es n y fs cs agenda → agenda ≡ []
nothing_stands es n y fs cs agenda e w = none_stands (subst (λ xs. ChoicesStand es n y fs xs agenda) e w)

pub can_go_back : (es : List Entry) (n : ℕ) (y : Story) (fs : List Frame) (c : Choice) (cs all : List Choice) (agenda : List Pending) → all ≡ c ∷ cs → ChoicesStand es n y fs all agenda → c.mark ≤ length y.before
can_go_back es n y fs c cs all agenda e w =
    let v = newest (subst (λ xs. ChoicesStand es n y fs xs agenda) e w) in
    let h = mark_within v.first y v.later in
    let m = v.at.mark in
    omega (arith, h, m)

pub taken_up : (es : List Entry) (y : Story) (fs : List Frame) (c : Choice) (cs all : List Choice) (agenda : List Pending) (s : Search) → all ≡ c ∷ cs → ChoicesStand es s.variables y fs all agenda →
    states s.store ≡ drop (length y.before - c.mark) (states y) → frames_of s.frames ≡ take c.frames fs → choices_of s ≡ cs → KeepsMet s → IsTakenUp es s c agenda
taken_up es y fs c cs all agenda s e w q f k met =
    let v = newest (subst (λ xs. ChoicesStand es s.variables y fs xs agenda) e w) in
    let b : s.store ≡ v.first = went_back v.first y s.store c.mark v.later v.at.mark q in
    let g : frames_of s.frames ≡ v.before = f ∙ first_taken v.before fs c.frames v.at.frames v.grown in
    record {
      goals = v.goals;
      heads = v.heads;
      rest = v.rest;
      is = v.is ∙ ap (λ (z : Story). at_goal z.now c.goal v.goals v.heads v.rest) (sym b);
      at = subst (λ (z : Story). AtChoice es s.variables z (frames_of s.frames) c v.goals v.heads) (sym b) (subst (λ (xs : List Frame). AtChoice es s.variables v.first xs c v.goals v.heads) (sym g) v.at);
      older = subst (λ (z : Story). ChoicesStand es s.variables z (frames_of s.frames) (choices_of s) v.rest) (sym b) (subst (λ (xs : List Frame). ChoicesStand es s.variables v.first xs (choices_of s) v.rest) (sym g) (subst (λ (xs : List Choice). ChoicesStand es s.variables v.first v.before xs v.rest) (sym k) v.older));
      met = met;
    }

-- runs one after another
pub went_later : (es : List Entry) (old new : Search) (agenda agenda' : List Pending) → SearchesFrom es agenda [] 0 agenda' → WentOn es old new agenda' → WentOn es old new agenda
went_later es old new agenda agenda' r w = record {
  tries = 0 + w.tries;
  after = w.after;
  run = search_then (signature_of es) (declared_constants es) r w.run;
  count = (let e = w.count in omega (arith, e));
  variables = w.variables;
  same_goal = w.same_goal;
  at = w.at;
}

-- so is a leaf that is shown
pub passes_later : (es : List Entry) (G : List LfType) (new : Search) (agenda agenda' : List Pending) (k tries : ℕ) (after : List Pending) (s : Step) → SearchesFrom es agenda [] k agenda' → PassesLeaf es G new agenda' s tries after → PassesLeaf es G new agenda s (k + tries) after
passes_later es G new agenda agenda' k tries after (step.Answer a) r (l, shown, q) = (l, shown, search_then (signature_of es) (declared_constants es) r q)
passes_later es G new agenda agenda' k tries after (step.Leftover e) r (l, shown, q) = (l, shown, search_then (signature_of es) (declared_constants es) r q)
passes_later es G new agenda agenda' k tries after step.Exhausted r p = tt
passes_later es G new agenda agenda' k tries after step.Budget r p = tt
passes_later es G new agenda agenda' k tries after step.TooDeep r p = tt

pub came_later : (es : List Entry) (G : List LfType) (old new : Search) (agenda agenda' : List Pending) (budget : ℕ) (s : Step) → SearchesFrom es agenda [] 0 agenda' → Came es G old new agenda' budget s → Came es G old new agenda budget s
came_later es G old new agenda agenda' budget s r w = record {
  seen = w.seen;
  tries = w.tries;
  after = w.after;
  comes = (let z : 0 + budget ≡ budget = omega arith in let u : 0 + w.tries ≡ w.tries = omega arith in subst (λ k. Comes es depth_limit G agenda k w.seen w.tries w.after) z (subst (λ k. Comes es depth_limit G agenda (0 + budget) w.seen k w.after) u (goes_on es depth_limit G 0 budget agenda agenda' w.after w.seen w.tries r w.comes)));
  shows = w.shows;
  passes = (let u : 0 + w.tries ≡ w.tries = omega arith in subst (λ k. PassesLeaf es G new agenda s k w.after) u (passes_later es G new agenda agenda' 0 w.tries w.after s r w.passes));
  count = w.count;
  variables = w.variables;
  same_goal = w.same_goal;
  then_is = w.then_is;
}

-- what a call does, behind a run
module _ (es : List Entry) (first old new : Search) (agenda agenda' : List Pending) (k : ℕ) (r : SearchesFrom es agenda [] k agenda') (count : old.tries ≡ first.tries + k) (variables : old.variables ≡ first.variables) (same_goal : old.goal ≡ first.goal) where
  pub run_then : WentOn es old new agenda' → WentOn es first new agenda
  run_then v = record {
    tries = k + v.tries;
    after = v.after;
    run = search_then (signature_of es) (declared_constants es) r v.run;
    count = (let d = v.count in omega (arith, count, d));
    variables = v.variables ∙ variables;
    same_goal = v.same_goal ∙ same_goal;
    at = v.at;
  }

  pub run_then_came : (G : List LfType) (last : ℕ) (s : Step) → old.tries ≤ last → Came es G old new agenda' (last - old.tries) s → Came es G first new agenda (last - first.tries) s
  run_then_came G last s h v = record {
    seen = v.seen;
    tries = k + v.tries;
    after = v.after;
    comes = (let z : k + (last - old.tries) ≡ last - first.tries = omega (arith, h, count) in subst (λ n. Comes es depth_limit G agenda n v.seen (k + v.tries) v.after) z (goes_on es depth_limit G k (last - old.tries) agenda agenda' v.after v.seen v.tries r v.comes));
    shows = v.shows;
    passes = passes_later es G new agenda agenda' k v.tries v.after s r v.passes;
    count = (let d = v.count in omega (arith, count, d));
    variables = v.variables ∙ variables;
    same_goal = v.same_goal ∙ same_goal;
    then_is = v.then_is;
  }

  pub run_then_gave : (last : ℕ) → GaveOut es old new agenda' last → GaveOut es first new agenda last
  run_then_gave last v = record {
    tries = k + v.tries;
    reached = v.reached;
    run = search_then (signature_of es) (declared_constants es) r v.run;
    count = (let d = v.count in omega (arith, count, d));
    within = v.within;
  }

-- one call after other steps
pub went_then_came : (es : List Entry) (G : List LfType) (first old new : Search) (agenda : List Pending) (last : ℕ) (s : Step) (w : WentOn es first old agenda) → old.tries ≤ last → Came es G old new w.after (last - old.tries) s → Came es G first new agenda (last - first.tries) s
went_then_came es G first old new agenda last s w = run_then_came es first old new agenda w.after w.tries w.run w.count w.variables w.same_goal G last s

pub went_then : (es : List Entry) (first old new : Search) (agenda : List Pending) (w : WentOn es first old agenda) → WentOn es old new w.after → WentOn es first new agenda
went_then es first old new agenda w = run_then es first old new agenda w.after w.tries w.run w.count w.variables w.same_goal

-- what holds at all holds where a call failed
pub on_err_all : {T E P : Type 0} (r : Result T E) → P → OnErr r P
on_err_all (Ok x) p = tt
on_err_all (Err e) p = p

-- memory gave out, before a try or after other steps
pub gave_at_once : (es : List Entry) (old new : Search) (agenda : List Pending) (last : ℕ) → new.tries ≡ old.tries → old.tries ≤ last → GaveOut es old new agenda last
gave_at_once es old new agenda last t h = record { tries = 0; reached = agenda; run = begin_search; count = omega (arith, t); within = omega (arith, t, h) }

pub gave_later : (es : List Entry) (old new : Search) (agenda agenda' : List Pending) (last : ℕ) → SearchesFrom es agenda [] 0 agenda' → GaveOut es old new agenda' last → GaveOut es old new agenda last
gave_later es old new agenda agenda' last r w = record {
  tries = 0 + w.tries;
  reached = w.reached;
  run = search_then (signature_of es) (declared_constants es) r w.run;
  count = (let e = w.count in omega (arith, e));
  within = w.within;
}

pub gave_same : (es : List Entry) (old mid new new' : Search) (agenda : List Pending) (last : ℕ) → mid.tries ≡ old.tries → new'.tries ≡ new.tries → GaveOut es mid new agenda last → GaveOut es old new' agenda last
gave_same es old mid new new' agenda last t u w = record {
  tries = w.tries;
  reached = w.reached;
  run = w.run;
  count = u ∙ w.count ∙ ap (λ n. n + w.tries) t;
  within = subst (λ n. n ≤ last) (sym u) w.within;
}

pub went_then_gave : (es : List Entry) (first old new : Search) (agenda : List Pending) (last : ℕ) (w : WentOn es first old agenda) → GaveOut es old new w.after last → GaveOut es first new agenda last
went_then_gave es first old new agenda last w = run_then_gave es first old new agenda w.after w.tries w.run w.count w.variables w.same_goal last

-- a head that is offered has a type of the goal's target
offered_type : (Σ : Signature) (g : OpenGoal) (hs : List Head) (k : Head) (ks : List Head) → AreOffered Σ g.locals g.family.0 hs (k ∷ ks) → IsHeadFor Σ g k
offered_type Σ g [] k ks o = elim o [ ]
offered_type Σ g (h ∷ hs) k ks (not_offered n o) = offered_type Σ g hs k ks o
offered_type Σ g (h ∷ hs) k ks (is_offered A t e o) = record { head_type = A; typed = t; target = e }

-- at a choice point that is taken up
module _ (es : List Entry) (s : Search) (c : Choice) (agenda : List Pending) (w : IsTakenUp es s c agenda) where
  abbrev Σ : Signature
  Σ = signature_of es

  abbrev left : List Head
  left = heads_left es c.goal.family.0 c.goal.locals c.local c.constant

  pub passed_over : left ≡ [] → SearchesFrom es agenda [] 0 w.rest
  passed_over e = subst (λ a. SearchesFrom es a [] 0 w.rest) (sym w.is)
      (heads_are_skipped Σ (declared_constants es) (node_of s.store.now (c.goal.hole.0 ∷ w.goals)) c.goal.hole.0 w.goals c.goal.locals c.goal.family.0 (indices_of s.store.now c.goal.hole.0) w.rest w.heads
      (subst (AreOffered Σ c.goal.locals c.goal.family.0 w.heads) e w.at.offered))

  module _ (k : Head) (ks : List Head) (e : left ≡ k ∷ ks) where
    offered : AreOffered Σ c.goal.locals c.goal.family.0 w.heads (k ∷ ks)
    offered = subst (AreOffered Σ c.goal.locals c.goal.family.0 w.heads) e w.at.offered

    pub reached : (later : List Head) × SearchesFrom es (at_goal s.store.now c.goal w.goals w.heads w.rest) [] 0 (at_goal s.store.now c.goal w.goals (k ∷ later) w.rest) × AreOffered Σ c.goal.locals c.goal.family.0 later ks
    reached = heads_are_reached Σ (declared_constants es) (node_of s.store.now (c.goal.hole.0 ∷ w.goals)) c.goal.hole.0 w.goals c.goal.locals c.goal.family.0 (indices_of s.store.now c.goal.hole.0) w.rest w.heads k ks offered

    abbrev pub next_agenda : List Pending
    next_agenda = at_goal s.store.now c.goal w.goals (k ∷ reached.0) w.rest

    pub up_to_head : SearchesFrom es agenda [] 0 next_agenda
    up_to_head = subst (λ a. SearchesFrom es a [] 0 (at_goal s.store.now c.goal w.goals (k ∷ reached.0) w.rest)) (sym w.is) reached.1

    pub head_is : IsHeadFor Σ c.goal k
    head_is = offered_type Σ c.goal w.heads k ks offered

    pub at_head : (local constant : ℕ) → ks ≡ heads_left es c.goal.family.0 c.goal.locals local constant → (c' : Choice) → c' ≡ record { mark = c.mark; frames = c.frames; goal = c.goal; rest = c.rest; local = local; constant = constant } → TriesHead es s c' k next_agenda
    at_head local constant q c' r = subst (λ (x : Choice). TriesHead es s x k (at_goal s.store.now c.goal w.goals (k ∷ reached.0) w.rest)) (sym r) (record {
      goals = w.goals;
      later = reached.0;
      rest = w.rest;
      is = refl;
      at = record { mark = w.at.mark; frames = w.at.frames; kept = w.at.kept; stands = w.at.stands; goals_are = w.at.goals_are; declared = w.at.declared; holes = w.at.holes; offered = subst (AreOffered Σ c.goal.locals c.goal.family.0 reached.0) q reached.2 };
      older = w.older;
      head = head_is;
      met = w.met;
    })

    pub try_due : TryIsDue Σ next_agenda
    try_due =
        let node : IsNode Σ (node_of s.store.now (c.goal.hole.0 ∷ w.goals)) = record { scoped = w.at.kept.node.scoped; skeletons = w.at.kept.node.skeletons } in
        let (x, n, o) = offer_is_there Σ (node_of s.store.now (c.goal.hole.0 ∷ w.goals)) c.goal.hole.0 c.goal.locals c.goal.family.0 (indices_of s.store.now c.goal.hole.0) k head_is.head_type node w.at.stands.declared head_is.typed head_is.target in
        is_due o

    -- where the budget is at its end, the choice point stays
    pub stays : ChoicesStand es s.variables s.store (frames_of s.frames) (c ∷ choices_of s) next_agenda
    stays = one_choice {first = s.store} {older = frames_of s.frames} {gs = w.goals} {hs = k ∷ reached.0} {rest = w.rest} ([], refl) (grown_itself (frames_of s.frames))
        (record { mark = w.at.mark; frames = w.at.frames; kept = w.at.kept; stands = w.at.stands; goals_are = w.at.goals_are; declared = w.at.declared; holes = w.at.holes; offered = subst (AreOffered Σ c.goal.locals c.goal.family.0 (k ∷ reached.0)) (sym e) (is_offered head_is.head_type head_is.typed head_is.target reached.2) })
        w.older

-- a try
module _ (es : List Entry) (ok : IsCanonicalSignature es) (s : Search) (c : Choice) (h : Head) (agenda : List Pending) (w : TriesHead es s c h agenda) (y : Story) (l : IsLater s.store y) where
  abbrev Σ' : Signature
  Σ' = signature_of es

  abbrev pub after_none : List Pending
  after_none = at_goal s.store.now c.goal w.goals w.later w.rest

  pub run_none : NeverFits Σ' s.store.now c.goal h → SearchesFrom es agenda [] 1 after_none
  run_none n = subst (λ a. SearchesFrom es a [] 1 (at_goal s.store.now c.goal w.goals w.later w.rest)) (sym w.is)
      (one_step Σ' (declared_constants es) ((try_law Σ' (canonical_is_signature es ok) (declared_constants es) s.store.now c.goal h w.goals w.later w.rest w.at.stands).0 n))

  pub choice_after : (fs : List Frame) → IsGrown (frames_of s.frames) fs → ChoicesStand es s.variables y fs (c ∷ choices_of s) after_none
  choice_after fs g = one_choice {first = s.store} {older = frames_of s.frames} {gs = w.goals} {hs = w.later} {rest = w.rest} l g w.at w.older

  module _ (subgoals : List MetaId) (child : GivesChild Σ' s.store.now c.goal h subgoals y.now) where
    abbrev pub after_child : List Pending
    after_child = at_node (child_node y.now subgoals w.goals) ∷ after_none

    both : IsNode Σ' (child_node y.now subgoals w.goals) × SearchesFrom es (at_goal s.store.now c.goal w.goals (h ∷ w.later) w.rest) [] 1 (at_node (child_node y.now subgoals w.goals) ∷ at_goal s.store.now c.goal w.goals w.later w.rest)
    both =
        let t = (try_law Σ' (canonical_is_signature es ok) (declared_constants es) s.store.now c.goal h w.goals w.later w.rest w.at.stands).1 subgoals y.now child in
        (t.0, one_step Σ' (declared_constants es) t.1)

    pub run_child : SearchesFrom es agenda [] 1 after_child
    run_child = subst (λ a. SearchesFrom es a [] 1 (at_node (child_node y.now subgoals w.goals) ∷ at_goal s.store.now c.goal w.goals w.later w.rest)) (sym w.is) both.1

    grows : (m : ℕ) → IsDeclared s.store.now m → IsDeclared y.now m
    grows m (A, e) = (A, run_grows child.child.run m A ((applied_adds child.has.offer.offered w.at.kept.node.scoped.fresh).grows m A e))

    new_declared : (m : ℕ) → Member m (holes (length s.store.now.declared) child.has.head_type) → IsDeclared y.now m
    new_declared m i = let (A, e) = holes_declared child.has.offer.offered w.at.kept.node.scoped.fresh child.has.head_type (own_shape child.has.head_type) m i in (A, run_grows child.child.run m A e)

    holes_open : HolesAreOpen (child_node y.now subgoals w.goals)
    holes_open =
        let node = node_of s.store.now (c.goal.hole.0 ∷ w.goals) in
        let is : IsNode Σ' node = record { scoped = w.at.kept.node.scoped; skeletons = w.at.kept.node.skeletons } in
        let f = child.has.offer in
        let offer : Offer Σ' node c.goal.hole.0 c.goal.locals c.goal.family.0 (indices_of s.store.now c.goal.hole.0) h child.has.head_type child.has.offered child.has.next =
        record { typed = f.typed; kind = f.kind; kind_of = f.kind_of; spine = f.spine; indices = f.indices; offered = f.offered; bindings = f.bindings; equations = f.equations } in
        subst (λ ns. HolesAreOpen (node_of y.now (followed ns w.goals))) (sym child.subgoals_are)
        (child_holes Σ' (canonical_is_signature es ok) node c.goal.hole.0 w.goals c.goal.locals c.goal.family.0 (indices_of s.store.now c.goal.hole.0) h child.has.head_type child.has.offered child.has.next is refl w.at.stands.declared w.at.holes offer (whole [] y.now) child.child child.renews (length y.now.declared))

    pub node_after : (fs : List Frame) (list : ℕ) → IsGrown (frames_of s.frames) fs → ((gs : List ℕ) → GoalsAre (frames_of s.frames) c.rest gs → GoalsAre fs list (followed (reverse (map (λ (m : MetaId). m.0) subgoals)) gs)) → NodeStands es s.variables list y fs (c ∷ choices_of s) after_child
    node_after fs list g gs = record {
      goals = followed (reverse (map (λ (m : MetaId). m.0) subgoals)) w.goals;
      goals_are = gs w.goals w.at.goals_are;
      declared = λ m i. at m (among_parts m (reverse (map (λ (m : MetaId). m.0) subgoals)) w.goals i);
      holes = holes_open;
      kept = record {
        left = (child.has.offered.metavariables, child.child.left_over);
        ready = child.ready;
        node = record { scoped = both.0.scoped; skeletons = both.0.skeletons };
        declared = λ m k. grows m (w.at.kept.declared m k);
        from_query = child_law Σ' s.store.now c.goal h subgoals y.now s.variables w.at.stands child w.at.kept.from_query;
      };
      rest = after_none;
      is = refl;
      choices = choice_after fs g;
    }
      where
        at : (m : ℕ) → Member m (reverse (map (λ (m : MetaId). m.0) subgoals)) ⊎ Member m w.goals → IsDeclared y.now m
        at m (inl i) = new_declared m (subst (Member m) child.subgoals_are i)
        at m (inr i) = grows m (w.at.declared m i)

-- a goal is chosen
module _ (es : List Entry) (n list : ℕ) (y : Story) (fs : List Frame) (cs : List Choice) (agenda : List Pending) (w : NodeStands es n list y fs cs agenda) (f : Frame) (first : IsFirst fs list (Some f)) where
  pub behind : (hs : List ℕ) × (w.goals ≡ f.hole.0 ∷ hs) × GoalsAre fs f.next hs
  behind = first w.goals w.goals_are

  pub hole_declared : IsDeclared y.now f.hole.0
  hole_declared = w.declared f.hole.0 (subst (Member f.hole.0) (sym behind.1) (inl refl))

  goal_holes : HolesAreOpen (node_of y.now (f.hole.0 ∷ behind.0))
  goal_holes = subst (λ gs. HolesAreOpen (node_of y.now gs)) behind.1 w.holes

  module _ (g : OpenGoal) (o : IsOpened y.now f.hole.0 g) where
    abbrev pub chosen : List Pending
    chosen = at_goal y.now g behind.0 (tried_heads g.locals (declared_constants es)) w.rest

    goals_are : w.goals ≡ g.hole.0 ∷ behind.0
    goals_are = behind.1 ∙ ap (λ m. m ∷ behind.0) (sym o.hole)

    declared : types_of y.now g.hole.0 ≡ Some (goal_type y.now g)
    declared = ap (types_of y.now) o.hole ∙ o.declared

    pub run_chosen : SearchesFrom es agenda [] 0 chosen
    run_chosen = subst (λ a. SearchesFrom es a [] 0 (at_goal y.now g behind.0 (tried_heads g.locals (declared_constants es)) w.rest)) (sym (w.is ∙ ap (λ gs. at_node (node_of y.now gs) ∷ w.rest) goals_are))
        (one_step (signature_of es) (declared_constants es) (take_goal refl declared))

    pub at_chosen : AtChoice es n y fs (record { mark = length y.before; frames = length fs; goal = g; rest = f.next; local = 0; constant = 0 }) behind.0 (tried_heads g.locals (declared_constants es))
    at_chosen = record {
      mark = refl;
      frames = refl;
      kept = w.kept;
      stands = record {
        ready = w.kept.ready;
        node = w.kept.node;
        declared = declared;
        unbound = subst (Unbound (bindings_of y.now)) (sym o.hole) goal_holes.open_holes.1;
        left = w.kept.left;
        unreached = subst (IsUnreached y.now) (sym o.hole) (hole_unreached (node_of y.now (f.hole.0 ∷ behind.0)) f.hole.0 behind.0 refl goal_holes);
      };
      goals_are = behind.2;
      declared = λ m i. w.declared m (subst (Member m) (sym behind.1) (inr i));
      holes = subst (λ m. HolesAreOpen (node_of y.now (m ∷ behind.0))) (sym o.hole) goal_holes;
      offered = all_offered es g.locals g.family.0 0 0 refl refl;
    }
