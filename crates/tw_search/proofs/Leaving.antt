-- What a search comes to: at a leaf, at its end, at the end of a budget, and at something deep.
use Rattle.std.proofs.Common.{◌≡◌, ℕ, suc, ◌+◌, ◌-◌, ◌<◌, ◌≤◌, List, [], ◌∷◌, length, None, is_some, refl, sym, ap, ◌∙◌, subst, arith, inl, inr}
use Rattle.std.specs.Option.{option_map}
use Rattle.lf.specs.Depth.{depth_limit}
use Rattle.lf.specs.Entries.{Entry, IsCanonicalSignature, signature_of}
use Rattle.lf.specs.Syntax.{Head, LfType}
use Rattle.lf.proofs.Entries.{canonical_is_signature}
use Rattle.lf_unification.specs.Lists.{followed}
use Rattle.lf_unification.specs.Search.{Node, Offer, Pending, SearchesFrom, TryIsDue, at_node, begin_search, declared_constants, take_leaf}
use Rattle.lf_unification.specs.Unifiers.{Equation}
use Rattle.lf_search.specs.Coming.{AnswerIsDeep, Comes, IsDeepNext, Seen, answer, deep_answer, deep_offer, exhausted, left_over, out_of_budget, to_answer, to_budget, to_deep, to_end, to_left_over, too_deep}
use Rattle.lf_search.specs.Goals.{root_of}
use Rattle.lf_search.proofs.Ends.{followed_none, one_step, search_then}
use Rattle.tw_metas.specs.declared.left.LeftEquation.{LeftEquation}
use Rattle.tw_putting.specs.Whole.{whole}
use Rattle.tw_signature.specs.Goal.{Goal, goal_of}
use Rattle.tw_signature.specs.declared.goal.Goal.{Goal as Asked}
use Rattle.tw_terms.specs.View.{term_of}
use Rattle.tw_search.specs.Answers.{values_of}
use Rattle.tw_search.specs.Chains.{IsFirst, frames_of}
use Rattle.tw_search.specs.Goals.{at_goal, indices_of, node_of}
use Rattle.tw_search.specs.Leaves.{AllFromQuery, IsLeaf, IsReadOff}
use Rattle.tw_search.specs.Left.{IsLeftAt, IsStoreOf, ShowingIsDeep, ShowsFirst}
use Rattle.tw_search.specs.Standing.{Came, ChoicesStand, IsAnswerOfLeaf, IsAt, IsOver, NodeStands, PlaceStands, Shows, Stands, StandsAfter, StepIs, TriesHead, asked_of, choices_of}
use Rattle.tw_search.specs.Tries.{OfferIsDeep}
use Rattle.tw_search.specs.declared.answer.Answer.{Answer}
use Rattle.tw_search.specs.declared.search.Search.{Search}
use Rattle.tw_search.specs.declared.step.Choice.{Choice}
use Rattle.tw_search.specs.declared.step.End.TheVariants as end
use Rattle.tw_search.specs.declared.step.Place.TheVariants as place
use Rattle.tw_search.specs.declared.step.Step.{Step}
use Rattle.tw_search.specs.declared.step.Step.TheVariants as step
use Rattle.tw_search.proofs.Parts.{leaf_law}

pub at_list : (es : List Entry) (s : Search) (list : ℕ) (agenda : List Pending) → s.place ≡ place.Node list → IsAt es s agenda → NodeStands es s.variables list s.store (frames_of s.frames) (choices_of s) agenda
at_list es s list agenda e w = subst (λ p. PlaceStands es s.variables p s.store (frames_of s.frames) (choices_of s) agenda) e w.0

pub at_choices : (es : List Entry) (s : Search) (agenda : List Pending) → s.place ≡ place.Heads → IsAt es s agenda → ChoicesStand es s.variables s.store (frames_of s.frames) (choices_of s) agenda
at_choices es s agenda e w = subst (λ p. PlaceStands es s.variables p s.store (frames_of s.frames) (choices_of s) agenda) e w.0

-- behind a leaf
past_leaf : (es : List Entry) (agenda : List Pending) {l : Node} {k : ℕ} {rest : List Pending} → SearchesFrom es agenda [] k (at_node l ∷ rest) → l.goals ≡ [] → SearchesFrom es agenda (l ∷ []) k rest
past_leaf es agenda {l} {k} {rest} r g = let z : k + 0 ≡ k = omega arith in subst (λ n. SearchesFrom es agenda (l ∷ []) n rest) z (search_then (signature_of es) (declared_constants es) r (one_step (signature_of es) (declared_constants es) (take_leaf g)))

-- at a leaf
module _ (es : List Entry) (ok : IsCanonicalSignature es) (old new : Search) (list : ℕ) (G : List LfType) (len : length G ≡ old.variables) (agenda : List Pending) (budget : ℕ) (w : NodeStands es old.variables list old.store (frames_of old.frames) (choices_of old) agenda) (first : IsFirst (frames_of old.frames) list None) (tries : new.tries ≡ old.tries) (variables : new.variables ≡ old.variables) (same_goal : new.goal ≡ old.goal) where
  no_goals : w.goals ≡ []
  no_goals = first w.goals w.goals_are

  here : SearchesFrom es agenda [] 0 (at_node (node_of old.store.now w.goals) ∷ w.rest)
  here = subst (λ a. SearchesFrom es agenda [] 0 a) w.is begin_search

  behind_leaf : SearchesFrom es agenda (node_of old.store.now w.goals ∷ []) 0 w.rest
  behind_leaf = past_leaf es agenda here no_goals

  is_store : IsStoreOf es (node_of old.store.now w.goals) old.store.now
  is_store = record { store = refl; ready = w.kept.ready }

  pub answer_came : old.store.now.equations ≡ [] → (a : Answer) → is_some a.proof ≡ is_some (asked_of old).proof → IsReadOff old.store.now old.variables a.free (values_of a) (option_map term_of a.proof) → IsAt es new w.rest → Came es G old new agenda budget (step.Answer a)
  answer_came e a named r at =
      let leaf : IsLeaf old.store.now (length G) = record {
        signature = signature_of es;
        is_signature = canonical_is_signature es ok;
        ready = w.kept.ready;
        none_left = e;
        declared = λ m h. w.kept.declared m (subst (λ n. m ≤ n) len h);
        reached = subst (λ n. AllFromQuery old.store.now n) (sym len) w.kept.from_query;
      } in
      let (proof, has, read) = leaf_law old.store.now G leaf w.goals a.free (values_of a) (option_map term_of a.proof) (subst (λ n. IsReadOff old.store.now n a.free (values_of a) (option_map term_of a.proof)) (sym len) r) in
      record {
        seen = answer a.free (values_of a) proof;
        tries = 0;
        after = w.rest;
        comes = to_answer here (omega arith) no_goals e read;
        shows = (proof, has, refl);
        passes = (node_of old.store.now w.goals, record { none_left = e; named = named ∙ sym (ap (λ (x : Asked). is_some (goal_of x).proof) same_goal); proof = proof; has_proof = has; read = read }, behind_leaf);
        count = omega (arith, tries);
        variables = variables;
        same_goal = same_goal;
        then_is = at;
      }

  pub left_came : (left : LeftEquation) → ShowsFirst old.store.now (asked_of old) left → IsAt es new w.rest → Came es G old new agenda budget (step.Leftover left)
  left_came left s at =
      let shows : ShowsFirst old.store.now (asked_of new) left = subst (λ (x : Asked). ShowsFirst old.store.now (goal_of x) left) (sym same_goal) s in
      record {
        seen = left_over (node_of old.store.now w.goals) s.first;
        tries = 0;
        after = w.rest;
        comes = to_left_over here (omega arith) no_goals s.is_first;
        shows = (node_of old.store.now w.goals, s.first, refl);
        passes = (node_of old.store.now w.goals, record { state = old.store.now; is_store = is_store; shows = shows }, behind_leaf);
        count = omega (arith, tries);
        variables = variables;
        same_goal = same_goal;
        then_is = at;
      }

  pub left_deep_came : (e : Equation) (fs : List Equation) → old.store.now.equations ≡ e ∷ fs → ShowingIsDeep old.store.now (asked_of old) → IsOver end.TooDeep new → Came es G old new agenda budget step.TooDeep
  left_deep_came e fs q d over =
      let deep : ShowingIsDeep old.store.now (asked_of new) = subst (λ (x : Asked). ShowingIsDeep old.store.now (goal_of x)) (sym same_goal) d in
      record {
        seen = left_over (node_of old.store.now w.goals) e;
        tries = 0;
        after = w.rest;
        comes = to_left_over here (omega arith) no_goals q;
        shows = inr (node_of old.store.now w.goals, e, refl, record { state = old.store.now; is_store = is_store; first = e; others = fs; left_over = q; deep = deep });
        passes = tt;
        count = omega (arith, tries);
        variables = variables;
        same_goal = same_goal;
        then_is = over;
      }

  pub deep_came : old.store.now.equations ≡ [] → AnswerIsDeep depth_limit G (whole [] old.store.now) → IsOver end.TooDeep new → Came es G old new agenda budget step.TooDeep
  deep_came e d over = record {
    seen = too_deep;
    tries = 0;
    after = at_node (node_of old.store.now w.goals) ∷ w.rest;
    comes = to_deep {left = budget} here (omega arith) (deep_answer no_goals e d);
    shows = inl refl;
    passes = tt;
    count = omega (arith, tries);
    variables = variables;
    same_goal = same_goal;
    then_is = over;
  }

-- at the end
pub end_came : (es : List Entry) (G : List LfType) (old new : Search) (agenda : List Pending) (budget : ℕ) → agenda ≡ [] → new.tries ≡ old.tries → new.variables ≡ old.variables → new.goal ≡ old.goal → IsOver end.Exhausted new → Came es G old new agenda budget step.Exhausted
end_came es G old new agenda budget e t v g o = record {
  seen = exhausted;
  tries = 0;
  after = [];
  comes = to_end (subst (λ a. SearchesFrom es agenda [] 0 a) e begin_search) (omega arith);
  shows = refl;
  passes = tt;
  count = omega (arith, t);
  variables = v;
  same_goal = g;
  then_is = o;
}

-- at the end of a budget
pub budget_came : (es : List Entry) (G : List LfType) (old new : Search) (agenda reached : List Pending) (budget : ℕ) → SearchesFrom es agenda [] 0 reached → TryIsDue (signature_of es) reached → budget ≡ 0 → new.tries ≡ old.tries → new.variables ≡ old.variables → new.goal ≡ old.goal → IsAt es new reached → Came es G old new agenda budget step.Budget
budget_came es G old new agenda reached budget r d b t v g at = record {
  seen = out_of_budget;
  tries = 0;
  after = reached;
  comes = subst (λ n. Comes es depth_limit G agenda n out_of_budget 0 reached) (sym b) (to_budget r d);
  shows = refl;
  passes = tt;
  count = omega (arith, t);
  variables = v;
  same_goal = g;
  then_is = at;
}

-- at a head that is deep
pub try_deep_came : (es : List Entry) (G : List LfType) (old new : Search) (c : Choice) (h : Head) (agenda : List Pending) (budget : ℕ) → TriesHead es old c h agenda → OfferIsDeep (signature_of es) old.store.now c.goal h → 0 < budget → new.tries ≡ old.tries → new.variables ≡ old.variables → new.goal ≡ old.goal → IsOver end.TooDeep new → Came es G old new agenda budget step.TooDeep
try_deep_came es G old new c h agenda budget w d b t v g o =
    let f = d.has.offer in
    let offer : Offer (signature_of es) (node_of old.store.now (c.goal.hole.0 ∷ w.goals)) c.goal.hole.0 c.goal.locals c.goal.family.0 (indices_of old.store.now c.goal.hole.0) h d.has.head_type d.has.offered d.has.next =
    record { typed = f.typed; kind = f.kind; kind_of = f.kind_of; spine = f.spine; indices = f.indices; offered = f.offered; bindings = f.bindings; equations = f.equations } in
    let n : suc (budget - 1) ≡ budget = omega (arith, b) in
    let z : 0 + budget ≡ budget = omega arith in
    record {
      seen = too_deep;
      tries = 0;
      after = at_goal old.store.now c.goal w.goals (h ∷ w.later) w.rest;
      comes = to_deep {left = budget} (subst (λ a. SearchesFrom es agenda [] 0 a) w.is begin_search) z (subst (λ k. IsDeepNext depth_limit (signature_of es) G k (at_goal old.store.now c.goal w.goals (h ∷ w.later) w.rest)) n (deep_offer offer d.deep));
      shows = inl refl;
      passes = tt;
      count = omega (arith, t);
      variables = v;
      same_goal = g;
      then_is = o;
    }

-- A step that came to something is a step of the search of the goal.
module _ (es : List Entry) (g : Goal) (agenda : List Pending) (budget : ℕ) where
  none_found : (seen : Seen) (k : ℕ) (after : List Pending) → Comes es depth_limit g.variables agenda budget seen k after → seen ≡ out_of_budget → SearchesFrom es agenda [] k after
  none_found seen k after (to_answer r h n e i) q = cc
  none_found seen k after (to_left_over r h n e) q = cc
  none_found seen k after (to_end r h) q = cc
  none_found seen k after (to_budget r d) q = r
  none_found seen k after (to_deep r h d) q = cc

  module _ (old new : Search) (leaves : List Node) (w : Stands es g old leaves agenda) where
    -- it is the same goal
    asked : new.goal ≡ old.goal → asked_of new ≡ g
    asked e = ap (λ (x : Asked). goal_of x) e ∙ w.asked

    stands_behind : (found : List Node) (k : ℕ) (after : List Pending) → SearchesFrom es agenda found k after → new.tries ≡ old.tries + k → new.variables ≡ old.variables → new.goal ≡ old.goal → IsAt es new after → Stands es g new (followed leaves found) after
    stands_behind found k after r t v e at = record {
      context = w.context;
      goal = w.goal;
      variables = v ∙ w.variables;
      asked = asked e;
      run = subst (λ n. SearchesFrom es (at_node (root_of g.variables g.goal) ∷ []) (followed leaves found) n after) (sym t) (search_then (signature_of es) (declared_constants es) w.run r);
      at = at;
    }

    then_stands : (s : Step) (v : Came es g.variables old new agenda budget s) → StandsAfter es g s new leaves v.after
    then_stands (step.Answer a) v = let (l, shown, r) = v.passes in (l, subst (λ x. IsAnswerOfLeaf es g.variables x.proof a l) (asked v.same_goal) shown, stands_behind (l ∷ []) v.tries v.after r v.count v.variables v.same_goal v.then_is)
    then_stands (step.Leftover left) v = let (l, shown, r) = v.passes in (l, subst (λ x. IsLeftAt es x l left) (asked v.same_goal) shown, stands_behind (l ∷ []) v.tries v.after r v.count v.variables v.same_goal v.then_is)
    then_stands step.Exhausted v = v.then_is
    then_stands step.Budget v = subst (λ ls. Stands es g new ls v.after) (followed_none leaves) (stands_behind [] v.tries v.after (none_found v.seen v.tries v.after v.comes v.shows) v.count v.variables v.same_goal v.then_is)
    then_stands step.TooDeep v = v.then_is

    pub step_is : (s : Step) → Came es g.variables old new agenda budget s → StepIs es g old new leaves agenda budget s
    step_is s v = record { seen = v.seen; tries = v.tries; after = v.after; comes = v.comes; shows = subst (λ x. Shows es x s v.seen) (asked v.same_goal) v.shows; count = v.count; then_stands = then_stands s v }
