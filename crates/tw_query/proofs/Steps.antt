-- The steps of a run of a query.
use Rattle.std.proofs.Common.{◌≡◌, ℕ, zero, suc, ◌+◌, ◌-◌, ◌≤◌, ◌<◌, List, [], ◌∷◌, ◌++◌, length, refl, sym, ap, ◌∙◌, subst, arith, ◌⊎◌, inl, inr, None, Bool, true, false}
use Rattle.std.specs.Prelude.{IsTrue}
use Rattle.std.proofs.lemmas.Bool.{cases_lt}
use Rattle.lf.specs.Depth.{depth_limit}
use Rattle.lf.specs.Entries.{Entry, IsCanonicalSignature, signature_of}
use Rattle.lf.specs.Typing.{IsContext, IsType}
use Rattle.lf.proofs.Entries.{canonical_is_signature}
use Rattle.lf_unification.specs.Lists.{followed}
use Rattle.lf_unification.specs.Query.{Query, Searches, StopsAtAnswer, none_asked}
use Rattle.lf_unification.specs.Search.{Node, Pending, SearchesFrom, at_node, declared_constants}
use Rattle.lf_search.specs.Bounded.{AsManyAs, Bound, FewerThan, QueryRuns, answers_among, number, star, stopped, stops}
use Rattle.lf_search.specs.Calls.{AfterAnswer, AfterLeftOver}
use Rattle.lf_search.specs.Coming.{Comes, Seen, answer, exhausted, left_over, out_of_budget, to_end, too_deep}
use Rattle.lf_search.specs.Goals.{root_of}
use Rattle.lf_search.proofs.Ends.{followed_none, search_then}
use Rattle.lf_search.proofs.Calls.{after_answer, after_budget, after_deep, after_end, after_left_over}
use Rattle.lf_search.proofs.LeafAnswer.{closed_is_found, leaf_answer}
use Rattle.lf_search.proofs.QueryForm.{is_query, the_query}
use Rattle.tw_metas.specs.declared.left.LeftEquation.{LeftEquation}
use Rattle.tw_search.specs.Answers.{values_of}
use Rattle.tw_search.specs.Standing.{IsDeepLeaf, Stands, StepIs, tries_of}
use Rattle.tw_search.specs.declared.answer.Answer.{Answer}
use Rattle.tw_search.specs.declared.search.Search.{Search}
use Rattle.tw_search.specs.declared.step.Step.{Step}
use Rattle.tw_search.specs.declared.step.Step.TheVariants as step
use Rattle.tw_signature.specs.Goal.{Goal}
use Rattle.tw_query.specs.Runs.{AllAreFound, AreShownAs, HasCause, IsRunOf, answers_in, at_leaf, end_in, in_search}
use Rattle.tw_query.specs.UnderWay.{GoesOn, IsUnderWay}
use Rattle.tw_query.specs.View.{end_of}
use Rattle.tw_query.specs.declared.run.Leaf.TheVariants as leaf
use Rattle.tw_query.specs.declared.run.QueryEnd.TheVariants as ends
use Rattle.tw_query.specs.declared.run.QueryFault.TheVariants as faults
use Rattle.tw_query.specs.declared.running.Running.{Running}
use Rattle.tw_query.proofs.Leaves.{answer_at, as_many, ends_so, last_member, more_answers, same_answers, shown_then}

one_longer : {A : Type 0} (xs : List A) (x : A) → length (xs ++ x ∷ []) ≡ suc (length xs)
one_longer [] x = refl
one_longer (y ∷ xs) x = ap suc (one_longer xs x)

not_both : (b : Bound) (k : ℕ) → AsManyAs b k → FewerThan b k → ⊥
not_both star k a f = a
not_both (number t) k a f = (let q : k ≡ t = a in let r : k < t = f in omega (arith, q, r))

-- the root is a run under way
pub begins : (es : List Entry) → IsCanonicalSignature es → (g : Goal) → IsContext (signature_of es) g.variables → IsType (signature_of es) g.variables g.goal → (r : Running) →
    Stands es g r.search [] (at_node (root_of g.variables g.goal) ∷ []) → tries_of r.search ≡ 0 → r.leaves.items ≡ [] → r.answers ≡ 0 → (b : Bound) (n : ℕ) → IsUnderWay es g b n r
begins es ok g context goal r w z ls none b n =
    let sg = canonical_is_signature es ok in
    let q : Query = the_query (signature_of es) sg g.variables g.goal context goal in
    record {
      query = q;
      of_goal = is_query (signature_of es) sg g.variables g.goal context goal;
      nodes = [];
      agenda = at_node (root_of g.variables g.goal) ∷ [];
      stands = w;
      shown = subst (AreShownAs es g []) (sym ls) tt;
      within = omega (arith, z);
      count = none ∙ sym (ap answers_in ls);
      bounded = go b;
    }
  where
    go : (c : Bound) → FewerThan c r.answers ⊎ (AsManyAs c r.answers × QueryRuns es (the_query (signature_of es) (canonical_is_signature es ok) g.variables g.goal context goal) n c [] stopped (tries_of r.search))
    go star = inl tt
    go (number zero) = inr (none, stops (subst (λ k. StopsAtAnswer es (the_query (signature_of es) (canonical_is_signature es ok) g.variables g.goal context goal) 0 [] k) (sym z) none_asked) (omega (arith, z)))
    go (number (suc t)) = inl (omega (arith, none))

-- the bound isn't reached
pub not_reached : (r : Bool) (P : Type 0) → r ≡ false → (IsTrue r → P) × (P → IsTrue r) → P → ⊥
not_reached true P e h p = absurd cc
not_reached false P e h p = (let t : IsTrue false = h.1 p in absurd cc)

-- a call, with what is left of the budget
pub called : (es : List Entry) (g : Goal) (b : Bound) (n : ℕ) (old : Running) (u : IsUnderWay es g b n old) (s : Search) (t : ℕ) (st st' : Step) → t ≡ tries_of old.search → st ≡ st' →
    ((a : Goal) (leaves : List Node) (agenda : List Pending) → Stands es a old.search leaves agenda → StepIs es a old.search s leaves agenda (n - t) st) → StepIs es g old.search s u.nodes u.agenda (n - tries_of old.search) st'
called es g b n old u s t st st' e f h =
    subst (λ x. StepIs es g old.search s u.nodes u.agenda (n - tries_of old.search) x) f (subst (λ k. StepIs es g old.search s u.nodes u.agenda (n - k) st) e (h g u.nodes u.agenda u.stands))

-- One call from where a run stands, with fewer answers than are asked for.
module _ (es : List Entry) (ok : IsCanonicalSignature es) (g : Goal) (b : Bound) (n : ℕ) (old : Running) (u : IsUnderWay es g b n old) (fewer : FewerThan b old.answers) (s : Search) where
  abbrev k : ℕ
  k = tries_of old.search

  -- the run so far, of the query
  run : Searches es u.query u.nodes k u.agenda
  run = subst (λ l. SearchesFrom es (at_node l ∷ []) u.nodes k u.agenda) (sym u.of_goal) u.stands.run

  budget_is : k + (n - k) ≡ n
  budget_is = let h = u.within in omega (arith, h)

  count_is : old.answers ≡ answers_among u.nodes
  count_is = u.count ∙ as_many es g u.nodes old.leaves.items u.shown

  fewer_nodes : FewerThan b (answers_among u.nodes)
  fewer_nodes = subst (FewerThan b) count_is fewer

  -- what a call of it comes to
  comes_so : (st : Step) (w : StepIs es g old.search s u.nodes u.agenda (n - k) st) (x : Seen) → w.seen ≡ x → Comes es depth_limit g.variables u.agenda (n - k) x w.tries w.after
  comes_so st w x e = subst (λ y. Comes es depth_limit g.variables u.agenda (n - k) y w.tries w.after) e w.comes

  -- it stands behind another leaf, with the same agenda
  stands_at : (ls ls' : List Node) (m : ℕ) (after : List Pending) → Stands es g s ls after → tries_of s ≡ k + m → Searches es u.query ls' (k + m) after → Stands es g s ls' after
  stands_at ls ls' m after w e r = record {
    context = w.context;
    goal = w.goal;
    variables = w.variables;
    asked = w.asked;
    run = subst (λ j. SearchesFrom es (at_node (root_of g.variables g.goal) ∷ []) ls' j after) (sym e) (subst (λ l. SearchesFrom es (at_node l ∷ []) ls' (k + m) after) u.of_goal r);
    at = w.at;
  }

  -- the search came to its end
  ended : (m : ℕ) (after : List Pending) → Comes es depth_limit g.variables u.agenda (n - k) exhausted m after → Searches es u.query u.nodes (k + m) []
  ended m after (to_end r h) = subst (λ ls. Searches es u.query ls (k + m) []) (followed_none u.nodes) (search_then (signature_of es) (declared_constants es) run r)

  ended_at_root : (m : ℕ) (after : List Pending) → Comes es depth_limit g.variables u.agenda (n - k) exhausted m after → SearchesFrom es (at_node (root_of g.variables g.goal) ∷ []) u.nodes (k + m) []
  ended_at_root m after c = subst (λ l. SearchesFrom es (at_node l ∷ []) u.nodes (k + m) []) u.of_goal (ended m after c)

  -- where none was left over, all closed answers are found
  all_found : (m : ℕ) (after : List Pending) → Comes es depth_limit g.variables u.agenda (n - k) exhausted m after → end_in old.leaves.items ≡ ends.Exhausted → AllAreFound es g u.nodes old.leaves.items
  all_found m after c e values proof a =
      let at = answer_at es g u.nodes old.leaves.items u.shown e in
      let (l, i, each) = closed_is_found es ok g.variables g.goal u.stands.context u.stands.goal u.nodes (k + m) (ended_at_root m after c) (λ l i. (at l i).2.none_left) values proof a in
      let (given, j, w) = at l i in
      record { given = given; is_given = j; node = l; of_run = i; at_node = w; instance = each given.free (values_of given) w.typed.proof w.read }

  pub at_end : StepIs es g old.search s u.nodes u.agenda (n - k) step.Exhausted → IsRunOf es g b n old.leaves.items (end_in old.leaves.items) (tries_of s)
  at_end st =
      let c = comes_so step.Exhausted st exhausted st.shows in
      let ran = after_end es depth_limit g.variables u.query n u.nodes k (n - k) u.agenda run budget_is b fewer_nodes st.tries st.after c in
      record {
        query = u.query;
        of_goal = u.of_goal;
        nodes = u.nodes;
        runs = subst (λ j. QueryRuns es u.query n b u.nodes (end_of (end_in old.leaves.items)) j) (sym st.count) (subst (λ e. QueryRuns es u.query n b u.nodes e (k + st.tries)) (ends_so es g u.nodes old.leaves.items u.shown) ran);
        shown = u.shown;
        count = as_many es g u.nodes old.leaves.items u.shown;
        all_found = all_found st.tries st.after c;
      }

  pub at_budget : StepIs es g old.search s u.nodes u.agenda (n - k) step.Budget → HasCause es g b n (faults.Budget n)
  at_budget st = (
    refl,
    record {
      query = u.query;
      of_goal = u.of_goal;
      nodes = u.nodes;
      out = after_budget es depth_limit g.variables u.query n u.nodes k (n - k) u.agenda run budget_is b fewer_nodes st.tries st.after (comes_so step.Budget st out_of_budget st.shows);
    },
  )

  deep_by : (st : StepIs es g old.search s u.nodes u.agenda (n - k) step.TooDeep) → (st.seen ≡ too_deep) ⊎ IsDeepLeaf es g st.seen → HasCause es g b n faults.TooDeep
  deep_by st (inl e) = in_search u.query u.nodes u.of_goal (after_deep es depth_limit g.variables u.query n u.nodes k (n - k) u.agenda run budget_is b fewer_nodes st.tries st.after (comes_so step.TooDeep st too_deep e))
  deep_by st (inr (l, d, e, w)) =
      let v = after_left_over es depth_limit g.variables u.query n u.nodes k (n - k) u.agenda run budget_is l d st.tries st.after (comes_so step.TooDeep st (left_over l d) e) in
      at_leaf u.query u.nodes l (k + st.tries) st.after u.of_goal v.run v.within fewer_nodes w

  pub at_deep : StepIs es g old.search s u.nodes u.agenda (n - k) step.TooDeep → HasCause es g b n faults.TooDeep
  at_deep st = deep_by st st.shows

  -- with one answer more, as many may be found as are asked for
  bounded_then : (c : Bound) → FewerThan c old.answers → (q : Query) (ls : List Node) (m : ℕ) (new : Running) → new.answers ≡ suc old.answers → QueryRuns es q n (number (suc old.answers)) ls stopped (tries_of new.search) →
      FewerThan c new.answers ⊎ (AsManyAs c new.answers × QueryRuns es q n c ls stopped (tries_of new.search))
  bounded_then star f q ls m new e r = inl tt
  bounded_then (number t) f q ls m new e r = go (cases_lt new.answers t)
    where
      go : (new.answers < t) ⊎ (t ≤ new.answers) → (new.answers < t) ⊎ ((new.answers ≡ t) × QueryRuns es q n (number t) ls stopped (tries_of new.search))
      go (inl h) = inl h
      go (inr h) = (let below : old.answers < t = f in let same : new.answers ≡ t = omega (arith, e, below, h) in inr (same, subst (λ j. QueryRuns es q n (number j) ls stopped (tries_of new.search)) (sym e ∙ same) r))

  pub at_answer : (a : Answer) → StepIs es g old.search s u.nodes u.agenda (n - k) (step.Answer a) → (new : Running) → new.leaves.items ≡ old.leaves.items ++ leaf.Answer a ∷ [] → new.answers ≡ old.answers + 1 → new.search ≡ s → GoesOn es g b n old new None
  at_answer a st new ls more same =
      let F = a.free in
      let Ms = values_of a in
      let (P, has, seen) = st.shows in
      let c = comes_so (step.Answer a) st (answer F Ms P) seen in
      let w : AfterAnswer es g.variables u.query n u.nodes k F Ms P st.tries st.after = after_answer es depth_limit g.variables u.query n u.nodes k (n - k) u.agenda run budget_is F Ms P st.tries st.after c in
      let (l, is, stood) = st.then_stands in
      let nodes = followed u.nodes (w.leaf ∷ []) in
      let from_root : SearchesFrom es (at_node (root_of g.variables g.goal) ∷ []) nodes (k + st.tries) st.after = subst (λ x. SearchesFrom es (at_node x ∷ []) nodes (k + st.tries) st.after) u.of_goal w.run in
      let is_answer = leaf_answer es ok g.variables g.goal u.stands.context u.stands.goal nodes (k + st.tries) st.after from_root w.leaf (last_member u.nodes w.leaf) w.no_equations F Ms P w.read in
      let one : new.answers ≡ suc old.answers = omega (arith, more) in
      let counted : tries_of new.search ≡ k + st.tries = ap tries_of same ∙ st.count in (
        record {
          query = u.query;
          of_goal = u.of_goal;
          nodes = nodes;
          agenda = st.after;
          stands = subst (λ x. Stands es g x nodes st.after) (sym same) (stands_at (followed u.nodes (l ∷ [])) nodes st.tries st.after stood st.count w.run);
          shown = subst (AreShownAs es g nodes) (sym ls) (shown_then es g u.nodes old.leaves.items w.leaf (leaf.Answer a) u.shown (record { none_left = w.no_equations; typed = record { named = is.named; proof = P; has_proof = has; is_answer = is_answer }; read = w.read }));
          within = let h = w.within in omega (arith, counted, h);
          count = one ∙ ap suc u.count ∙ sym (more_answers old.leaves.items a) ∙ ap answers_in (sym ls);
          bounded = bounded_then b fewer u.query nodes st.tries new one
              (subst (λ j. QueryRuns es u.query n (number (suc old.answers)) nodes stopped j) (sym counted) (subst (λ j. QueryRuns es u.query n (number (suc j)) nodes stopped (k + st.tries)) (sym count_is) w.stops_here));
        },
        ap length ls ∙ one_longer old.leaves.items (leaf.Answer a),
      )

  -- A leaf that is left over.
  module _ (left : LeftEquation) (st : StepIs es g old.search s u.nodes u.agenda (n - k) (step.Leftover left)) where
    abbrev there : Node
    there = st.then_stands.0

    abbrev nodes : List Node
    nodes = followed u.nodes (st.then_stands.0 ∷ [])

    -- the tries are within the budget
    after : AfterLeftOver es u.query n u.nodes k st.shows.0 st.shows.1 st.tries st.after
    after = after_left_over es depth_limit g.variables u.query n u.nodes k (n - k) u.agenda run budget_is st.shows.0 st.shows.1 st.tries st.after (comes_so (step.Leftover left) st (left_over st.shows.0 st.shows.1) st.shows.2)

    within_there : tries_of s ≤ n
    within_there = let h = after.within in let c = st.count in omega (arith, h, c)

    pub at_left_over : (new : Running) → new.leaves.items ≡ old.leaves.items ++ leaf.Outside left ∷ [] → new.answers ≡ old.answers → new.search ≡ s → GoesOn es g b n old new None
    at_left_over new items answers now = (
      record {
        query = u.query;
        of_goal = u.of_goal;
        nodes = nodes;
        agenda = st.after;
        stands = subst (λ x. Stands es g x nodes st.after) (sym now) st.then_stands.2;
        shown = subst (AreShownAs es g nodes) (sym items) (shown_then es g u.nodes old.leaves.items there (leaf.Outside left) u.shown st.then_stands.1);
        within = subst (λ x. tries_of x ≤ n) (sym now) within_there;
        count = answers ∙ u.count ∙ sym (same_answers old.leaves.items left) ∙ ap answers_in (sym items);
        bounded = inl (subst (FewerThan b) (sym answers) fewer);
      },
      ap length items ∙ one_longer old.leaves.items (leaf.Outside left),
    )

-- as many answers were found as are asked for
pub at_bound : (es : List Entry) (g : Goal) (b : Bound) (n : ℕ) (old : Running) → IsUnderWay es g b n old → AsManyAs b old.answers → IsRunOf es g b n old.leaves.items ends.Stopped (tries_of old.search)
at_bound es g b n old u many = go u.bounded
  where
    go : FewerThan b old.answers ⊎ (AsManyAs b old.answers × QueryRuns es u.query n b u.nodes stopped (tries_of old.search)) → IsRunOf es g b n old.leaves.items ends.Stopped (tries_of old.search)
    go (inl h) = absurd (not_both b old.answers many h)
    go (inr (h, r)) = record { query = u.query; of_goal = u.of_goal; nodes = u.nodes; runs = r; shown = u.shown; count = as_many es g u.nodes old.leaves.items u.shown; all_found = λ e. absurd cc }

-- fewer were found
pub still_fewer : (es : List Entry) (g : Goal) (b : Bound) (n : ℕ) (old : Running) → IsUnderWay es g b n old → (AsManyAs b old.answers → ⊥) → FewerThan b old.answers
still_fewer es g b n old u none = go u.bounded
  where
    go : FewerThan b old.answers ⊎ (AsManyAs b old.answers × QueryRuns es u.query n b u.nodes stopped (tries_of old.search)) → FewerThan b old.answers
    go (inl h) = h
    go (inr (h, r)) = absurd (none h)
