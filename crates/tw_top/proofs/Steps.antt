-- The steps of a round.
use Rattle.std.proofs.Common.{◌≡◌, ℕ, suc, ◌+◌, ◌-◌, ◌≤◌, ◌<◌, ◌^◌, List, [], ◌∷◌, ◌++◌, length, refl, sym, ap, ◌∙◌, subst, arith, length-append, codes, ◌⊎◌, inl, inr, true, None}
use Rattle.lf.specs.Depth.{depth_limit}
use Rattle.lf.specs.Entries.{Entry, IsCanonicalSignature, signature_of}
use Rattle.lf.specs.Syntax.{Term}
use Rattle.lf_unification.specs.Lists.{followed}
use Rattle.lf_unification.specs.Search.{Node, Pending, SearchesFrom, TryIsDue, answer_leaves, at_node, declared_constants, take_leaf, without_equations}
use Rattle.lf_unification.specs.Unifiers.{Equation}
use Rattle.lf_search.specs.Answers.{IsReadOffLeaf}
use Rattle.lf_search.specs.Bounded.{answers_among, end_by, incomplete, unless_left}
use Rattle.lf_search.specs.Coming.{Comes, Seen, answer, exhausted, left_over, out_of_budget, to_answer, to_budget, to_deep, to_end, to_left_over, too_deep}
use Rattle.lf_search.specs.Goals.{root_of}
use Rattle.lf_search.proofs.Ends.{followed_none, last_answer, one_step, search_then}
use Rattle.lf_search.proofs.LeafAnswer.{leaf_answer}
use Rattle.tw_metas.specs.declared.left.LeftEquation.{LeftEquation}
use Rattle.tw_print.specs.Names.{Scene}
use Rattle.tw_query.specs.Runs.{IsAnswerAt}
use Rattle.tw_query.proofs.Leaves.{last_member}
use Rattle.tw_search.specs.Answers.{values_of}
use Rattle.tw_search.specs.Left.{IsDeepAt}
use Rattle.tw_search.specs.Standing.{IsDeepLeaf, Stands, StepIs, tries_of}
use Rattle.tw_search.specs.declared.answer.Answer.{Answer}
use Rattle.tw_search.specs.declared.search.Search.{Search}
use Rattle.tw_search.specs.declared.step.Step.{Step}
use Rattle.tw_search.specs.declared.step.Step.TheVariants as step
use Rattle.tw_signature.specs.Goal.{Goal, goal_of}
use Rattle.tw_top.specs.Lines.{answer_lines, budget_lines, end_line, ended, outside_line}
use Rattle.tw_top.specs.Rounds.{FindsNoLeaf, FindsLeaf, IsReached, Rounds, Standing, answers, behind, deep, ends, further, leaf_is_deep, leaves_over, next_is_deep, over, paused, root, runs_out}
use Rattle.tw_top.specs.UnderWay.{Adds, ComesTo, Holds, WentOn, asked}
use Rattle.tw_top.specs.declared.asking.Asking.{Asking}
use Rattle.tw_top.specs.declared.pause.Pause.TheVariants as pauses
use Rattle.tw_top.proofs.Costs.{answers_below, leaves_cost}

-- what one leaf more changes
still_incomplete : (ls : List Node) (l : Node) (e : Equation) (es : List Equation) → l.store.equations ≡ e ∷ es → end_by (followed ls (l ∷ [])) ≡ incomplete
still_incomplete [] l e es q = ap (λ x. unless_left x (end_by [])) q
still_incomplete (x ∷ ls) l e es q = go x.store.equations (still_incomplete ls l e es q)
  where
    go : (ds : List Equation) → end_by (followed ls (l ∷ [])) ≡ incomplete → unless_left ds (end_by (followed ls (l ∷ []))) ≡ incomplete
    go [] h = h
    go (d ∷ ds) h = refl

same_end : (ls : List Node) (l : Node) → l.store.equations ≡ [] → end_by (followed ls (l ∷ [])) ≡ end_by ls
same_end [] l q = ap (λ x. unless_left x (end_by [])) q
same_end (x ∷ ls) l q = ap (unless_left x.store.equations) (same_end ls l q)

same_count : (ls : List Node) (l : Node) (e : Equation) (es : List Equation) → l.store.equations ≡ e ∷ es → answers_among (followed ls (l ∷ [])) ≡ answers_among ls
same_count [] l e es q = ap (λ x. length (without_equations l x [])) q
same_count (x ∷ ls) l e es q = go x.store.equations (same_count ls l e es q)
  where
    go : (ds : List Equation) → answers_among (followed ls (l ∷ [])) ≡ answers_among ls → length (without_equations x ds (answer_leaves (followed ls (l ∷ [])))) ≡ length (without_equations x ds (answer_leaves ls))
    go [] h = ap suc h
    go (d ∷ ds) h = h

length_behind : (ls : List Node) (l : Node) → length (followed ls (l ∷ [])) ≡ suc (length ls)
length_behind [] l = refl
length_behind (x ∷ ls) l = ap suc (length_behind ls l)

-- the line of a leaf that is left over has some bytes
some_front : (xs ys : List ℕ) → 0 < length xs → 0 < length (xs ++ ys)
some_front xs ys h = omega (arith, length-append xs ys, h)

-- A call of the search from where it stands, up to this number of tries.
module _ (es : List Entry) (ok : IsCanonicalSignature es) (scene : Scene) (a : Asking) (s : Standing) (h : Holds es a s) (last : ℕ) (within : tries_of a.search ≤ last) (found : Search) where
  abbrev g : Goal
  g = asked a

  outside_some : (left : LeftEquation) → 0 < length (outside_line scene left)
  outside_some left = some_front (codes "outside ") _ (omega arith)

  abbrev b : ℕ
  b = last - s.tries

  abbrev Called : Step → Type 0
  Called st = StepIs es g a.search found s.leaves s.agenda b st

  pub called : (t : ℕ) (st st' : Step) → t ≡ tries_of a.search → st ≡ st' →
      ((q : Goal) (leaves : List Node) (agenda : List Pending) → Stands es q a.search leaves agenda → StepIs es q a.search found leaves agenda (last - t) st) → Called st'
  called t st st' e f c =
      subst Called f (subst (λ k. StepIs es g a.search found s.leaves s.agenda (last - k) st) (e ∙ h.tries) (c g s.leaves s.agenda h.stands))

  comes_so : (st : Step) (w : Called st) (x : Seen) → w.seen ≡ x → Comes es depth_limit g.variables s.agenda b x w.tries w.after
  comes_so st w x e = subst (λ y. Comes es depth_limit g.variables s.agenda b y w.tries w.after) e w.comes

  -- all tries
  tries_are : (st : Step) (w : Called st) → tries_of found ≡ s.tries + w.tries
  tries_are st w = w.count ∙ ap (λ k. k + w.tries) h.tries

  from_root : SearchesFrom es (root g) s.leaves s.tries s.agenda
  from_root = subst (λ k. SearchesFrom es (root g) s.leaves k s.agenda) h.tries h.stands.run

  reach : (k : ℕ) (after : List Pending) → SearchesFrom es s.agenda [] k after → IsReached es g (further s k after)
  reach k after r = subst (λ ls. SearchesFrom es (root g) ls (s.tries + k) after) (followed_none s.leaves) (search_then (signature_of es) (declared_constants es) from_root r)

  reach_behind : (l : Node) (k : ℕ) (after : List Pending) → SearchesFrom es s.agenda [] k (at_node l ∷ after) → l.goals ≡ [] → IsReached es g (behind s l k after)
  reach_behind l k after r e =
      subst (λ n. SearchesFrom es (root g) (followed s.leaves (l ∷ [])) n after) (omega arith)
      (search_then (signature_of es) (declared_constants es) (reach k (at_node l ∷ after) r) (one_step (signature_of es) (declared_constants es) (take_leaf e)))

  no_leaf : (k : ℕ) (after : List Pending) → SearchesFrom es s.agenda [] k after → FindsNoLeaf es g s k after
  no_leaf k after r = (r, reach k after r)

  next_leaf : (l : Node) (k : ℕ) (after : List Pending) → SearchesFrom es s.agenda [] k (at_node l ∷ after) → l.goals ≡ [] → FindsLeaf es g s l k after
  next_leaf l k after r e = (r, e, reach_behind l k after r e)

  -- the search stands in such a run
  stands_in : (t : Standing) (ls : List Node) → Stands es g found ls t.agenda → IsReached es g t → tries_of found ≡ t.tries → Stands es g found t.leaves t.agenda
  stands_in t ls w r e = record {
    context = w.context;
    goal = w.goal;
    variables = w.variables;
    asked = w.asked;
    run = subst (λ j. SearchesFrom es (root g) t.leaves j t.agenda) (sym e) r;
    at = w.at;
  }

  -- fewer answers than tries
  few : (l : Node) (k : ℕ) (after : List Pending) → IsReached es g (behind s l k after) → a.answers + 1 ≤ s.tries + k
  few l k after r =
      let c = leaves_cost (signature_of es) (declared_constants es) (root_of g.variables g.goal) (length g.variables) [] refl r in
      let d = length_behind s.leaves l in
      let f = answers_below s.leaves in
      let e = h.answers in
      omega (arith, c, d, f, e)

  budget_is : s.tries + b ≡ last
  budget_is = let e = h.tries in omega (arith, e, within)

  -- the same of what the program holds then
  holds_there : (new : Asking) (t : Standing) → new.goal ≡ a.goal → new.search ≡ found → Stands es g found t.leaves t.agenda → Stands es (asked new) new.search t.leaves t.agenda
  holds_there new t same now w =
      subst (λ y. Stands es (goal_of y) new.search t.leaves t.agenda) (sym same) (subst (λ y. Stands es g y t.leaves t.agenda) (sym now) w)

  -- an answer
  abbrev AtAnswer : Answer → Term → ℕ → List Pending → Type 0
  AtAnswer x M k after = (l : Node) × (l.store.equations ≡ []) × IsReadOffLeaf (signature_of es) g.variables l x.free (values_of x) M × FindsLeaf es g s l k after × (k ≤ b)

  answer_leaf : (x : Answer) (M : Term) (k : ℕ) (after : List Pending) → Comes es depth_limit g.variables s.agenda b (answer x.free (values_of x) M) k after → AtAnswer x M k after
  answer_leaf x M k after (to_answer {l = l} r w e n d) = (l, n, d, next_leaf l k after r e, w)

  module _ (x : Answer) (w : Called (step.Answer x)) where
    there : AtAnswer x w.shows.0 w.tries w.after
    there = answer_leaf x w.shows.0 w.tries w.after (comes_so (step.Answer x) w (answer x.free (values_of x) w.shows.0) w.shows.2)

    is_answer : IsAnswerAt es g there.0 x
    is_answer = record {
      none_left = there.1;
      typed = record {
        named = w.then_stands.1.named;
        proof = w.shows.0;
        has_proof = w.shows.1;
        is_answer = leaf_answer es ok g.variables g.goal h.stands.context h.stands.goal (followed s.leaves (there.0 ∷ [])) (s.tries + w.tries) w.after there.3.2 there.0 (last_member s.leaves there.0) there.1 x.free (values_of x) w.shows.0 there.2;
      };
      read = there.2;
    }

    pub typed : (l : Node) × IsAnswerAt es g l x
    typed = (there.0, is_answer)

    pub counts : last < 2 ^ 64 → a.answers + 1 < 2 ^ 64
    counts m = let c = few there.0 w.tries w.after there.3.2 in let t = there.4 in let d = budget_is in omega (arith, c, t, d, m)

    pub at_answer : (new : Asking) → new.goal ≡ a.goal → new.search ≡ found → new.answers ≡ a.answers + 1 → new.left_over ≡ a.left_over → ComesTo es scene g b s new (answer_lines scene g (a.answers + 1) x) pauses.More
    at_answer new same now one left =
        let n : a.answers + 1 ≡ suc (answers_among s.leaves) = (let e = h.answers in omega (arith, e)) in
        let t = behind s there.0 w.tries w.after in (
          paused t,
          subst (λ k. Rounds es scene g b s (answer_lines scene g k x) (paused t)) (sym n) (answers there.0 w.tries w.after x there.3 there.4 is_answer),
          record {
            stands = holds_there new t same now (stands_in t (followed s.leaves (w.then_stands.0 ∷ [])) w.then_stands.2 there.3.2 (tries_are (step.Answer x) w));
            tries = ap tries_of now ∙ tries_are (step.Answer x) w;
            answers = one ∙ n ∙ sym (last_answer s.leaves there.0 there.1);
            left_over = ap ended left ∙ h.left_over ∙ sym (same_end s.leaves there.0 there.1);
          },
        )

  -- a leaf that is left over
  few_tries_of : (l : Node) (d : Equation) (k : ℕ) (after : List Pending) → Comes es depth_limit g.variables s.agenda b (left_over l d) k after → k ≤ b
  few_tries_of l d k after (to_left_over r f n q) = f

  leaf_left : (l : Node) (d : Equation) (k : ℕ) (after : List Pending) → Comes es depth_limit g.variables s.agenda b (left_over l d) k after → FindsLeaf es g s l k after
  leaf_left l d k after (to_left_over r f n q) = next_leaf l k after r n

  module _ (left : LeftEquation) (w : Called (step.Leftover left)) where
    few_tries : w.tries ≤ b
    few_tries = few_tries_of w.shows.0 w.shows.1 w.tries w.after (comes_so (step.Leftover left) w (left_over w.shows.0 w.shows.1) w.shows.2)

    abbrev then_at : Standing
    then_at = behind s w.then_stands.0 w.tries w.after

    reached : IsReached es g then_at
    reached = subst (λ k. SearchesFrom es (root g) (followed s.leaves (w.then_stands.0 ∷ [])) k w.after) (tries_are (step.Leftover left) w) w.then_stands.2.run

    equations_are : w.then_stands.0.store.equations ≡ w.then_stands.1.shows.first ∷ w.then_stands.1.shows.others
    equations_are = ap (λ x. x.equations) w.then_stands.1.is_store.store ∙ w.then_stands.1.shows.is_first

    went_on : (new : Asking) → new.goal ≡ a.goal → new.search ≡ found → new.answers ≡ a.answers → new.left_over ≡ true → WentOn es scene g last s new (outside_line scene left)
    went_on new same now count left_so = record {
      now = then_at;
      holds = record {
        stands = holds_there new then_at same now w.then_stands.2;
        tries = ap tries_of now ∙ tries_are (step.Leftover left) w;
        answers = count ∙ h.answers ∙ sym (same_count s.leaves w.then_stands.0 w.then_stands.1.shows.first w.then_stands.1.shows.others equations_are);
        left_over = ap ended left_so ∙ sym (still_incomplete s.leaves w.then_stands.0 w.then_stands.1.shows.first w.then_stands.1.shows.others equations_are);
      };
      within = let f = few_tries in let d = budget_is in omega (arith, f, d);
      on = λ rest end r.
          leaves_over w.then_stands.0 w.tries w.after left reached few_tries w.then_stands.1
          (subst (λ k. Rounds es scene g k then_at rest end) (let f = few_tries in let d = budget_is in omega (arith, f, d)) r);
    }

    -- what was added to the text
    pub at_outside : (new : Asking) → new.goal ≡ a.goal → new.search ≡ found → new.answers ≡ a.answers → new.left_over ≡ true → (before then : List ℕ) → then ≡ before ++ outside_line scene left → Adds es scene g last s new before then None
    at_outside new same now count left_so before then e = (outside_line scene left, e, outside_some left, went_on new same now count left_so)

  -- the end of the tree
  ended_at : (k : ℕ) (after : List Pending) → Comes es depth_limit g.variables s.agenda b exhausted k after → FindsNoLeaf es g s k [] × (k ≤ b)
  ended_at k after (to_end r f) = (no_leaf k [] r, f)

  pub at_end : Called step.Exhausted → (n : ℕ) → n ≡ tries_of found → (new : Asking) → ComesTo es scene g b s new (end_line (ended a.left_over) n) pauses.Over
  at_end w n e new =
      let r = ended_at w.tries w.after (comes_so step.Exhausted w exhausted w.shows) in (
        over,
        subst (λ x. Rounds es scene g b s (end_line x n) over) (sym h.left_over) (subst (λ k. Rounds es scene g b s (end_line (end_by s.leaves) k) over) (sym (e ∙ tries_are step.Exhausted w)) (ends w.tries r.0 r.1)),
        tt,
      )

  -- the end of the budget
  out_at : (k : ℕ) (after : List Pending) → Comes es depth_limit g.variables s.agenda b out_of_budget k after → FindsNoLeaf es g s b after × TryIsDue (signature_of es) after × (k ≡ b)
  out_at k after (to_budget r d) = (no_leaf b after r, d, refl)

  pub at_budget : Called step.Budget → (n : ℕ) → n ≡ tries_of found → (new : Asking) → new.goal ≡ a.goal → new.search ≡ found → new.answers ≡ a.answers → new.left_over ≡ a.left_over → ComesTo es scene g b s new (budget_lines n) pauses.More
  at_budget w n e new same now count left =
      let r = out_at w.tries w.after (comes_so step.Budget w out_of_budget w.shows) in
      let t = further s b w.after in
      let all : tries_of found ≡ s.tries + b = tries_are step.Budget w ∙ ap (λ k. s.tries + k) r.2 in (
        paused t,
        subst (λ k. Rounds es scene g b s (budget_lines k) (paused t)) (sym (e ∙ all)) (runs_out w.after r.0 r.1),
        record {
          stands = holds_there new t same now (stands_in t s.leaves w.then_stands r.0.1 all);
          tries = ap tries_of now ∙ all;
          answers = count ∙ h.answers;
          left_over = ap ended left ∙ h.left_over;
        },
      )

  -- something deep
  deep_at : (k : ℕ) (after : List Pending) → Comes es depth_limit g.variables s.agenda b too_deep k after → Rounds es scene g b s [] deep
  deep_at k after (to_deep {left = left} r f d) = next_is_deep k left after (no_leaf k after r) f d

  deep_leaf : (l : Node) (d : Equation) (k : ℕ) (after : List Pending) → Comes es depth_limit g.variables s.agenda b (left_over l d) k after → IsDeepAt es g l → Rounds es scene g b s [] deep
  deep_leaf l d k after c x = leaf_is_deep l k after (leaf_left l d k after c) (few_tries_of l d k after c) x

  deep_so : (w : Called step.TooDeep) → (w.seen ≡ too_deep) ⊎ IsDeepLeaf es g w.seen → Rounds es scene g b s [] deep
  deep_so w (inl e) = deep_at w.tries w.after (comes_so step.TooDeep w too_deep e)
  deep_so w (inr (l, d, e, x)) = deep_leaf l d w.tries w.after (comes_so step.TooDeep w (left_over l d) e) x

  pub at_deep : Called step.TooDeep → (new : Asking) → ComesTo es scene g b s new [] pauses.TooDeep
  at_deep w new = (deep, deep_so w w.shows, tt)
