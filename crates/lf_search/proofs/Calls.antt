-- Calls of a search one after another: what they come to is the run of a query.
use Rattle.std.proofs.Common.{◌≡◌, ℕ, suc, ◌+◌, List, [], ◌∷◌, length, refl, ap, subst, arith}
use Rattle.lf.specs.Entries.{Entry, signature_of}
use Rattle.lf.specs.Syntax.{LfType, Term}
use Rattle.lf_unification.specs.Lists.{followed}
use Rattle.lf_unification.specs.Query.{Query, Searches, at_last}
use Rattle.lf_unification.specs.Search.{Node, Pending, SearchesFrom, answer_leaves, at_node, declared_constants, take_leaf, without_equations}
use Rattle.lf_unification.specs.Unifiers.{Equation}
use Rattle.lf_search.specs.Bounded.{Bound, FewerThan, QueryRuns, RunsDeep, RunsOut, answers_among, end_by, ends, incomplete, stops, unless_left}
use Rattle.lf_search.specs.Calls.{AfterAnswer, AfterLeftOver}
use Rattle.lf_search.specs.Coming.{Comes, Seen, answer, exhausted, left_over, out_of_budget, to_answer, to_budget, to_deep, to_end, to_left_over, too_deep}
use Rattle.lf_search.proofs.Ends.{followed_none, last_answer, one_step, search_then}

module _ (entries : List Entry) (limit : ℕ) (G : List LfType) where
  spent : (budget tries : ℕ) (agenda reached : List Pending) (seen : Seen) → Comes entries limit G agenda budget seen tries reached → seen ≡ out_of_budget → SearchesFrom entries agenda [] budget reached
  spent b n agenda reached seen (to_answer q h e f w) s = cc
  spent b n agenda reached seen (to_left_over q h e f) s = cc
  spent b n agenda reached seen (to_end q h) s = cc
  spent b n agenda reached seen (to_budget q e) s = q
  spent b n agenda reached seen (to_deep q h e) s = cc

  pub goes_on : (budget more : ℕ) (agenda reached after : List Pending) (seen : Seen) (tries : ℕ) → SearchesFrom entries agenda [] budget reached → Comes entries limit G reached more seen tries after → Comes entries limit G agenda (budget + more) seen (budget + tries) after
  goes_on b m agenda reached after seen n r (to_answer q h e f w) = to_answer (search_then (signature_of entries) (declared_constants entries) r q) (omega arith) e f w
  goes_on b m agenda reached after seen n r (to_left_over q h e f) = to_left_over (search_then (signature_of entries) (declared_constants entries) r q) (omega arith) e f
  goes_on b m agenda reached after seen n r (to_end q h) = to_end (search_then (signature_of entries) (declared_constants entries) r q) (omega arith)
  goes_on b m agenda reached after seen n r (to_budget q e) = to_budget (search_then (signature_of entries) (declared_constants entries) r q) e
  goes_on b m agenda reached after seen n r (to_deep {left = left} q h e) = to_deep (search_then (signature_of entries) (declared_constants entries) r q) (omega arith) e

  -- a call whose budget ran out, and the next one
  pub budgets_add : (budget more : ℕ) (agenda reached after : List Pending) (seen : Seen) (tries : ℕ) → Comes entries limit G agenda budget out_of_budget budget reached → Comes entries limit G reached more seen tries after → Comes entries limit G agenda (budget + more) seen (budget + tries) after
  budgets_add b m agenda reached after seen n x y = goes_on b m agenda reached after seen n (spent b b agenda reached out_of_budget x refl) y

-- a leaf with an equation makes the end incomplete
still_incomplete : (ls : List Node) (l : Node) (e : Equation) (es : List Equation) → l.store.equations ≡ e ∷ es → end_by (followed ls (l ∷ [])) ≡ incomplete
still_incomplete [] l e es q = ap (λ x. unless_left x (end_by [])) q
still_incomplete (x ∷ ls) l e es q = go x.store.equations (still_incomplete ls l e es q)
  where
    go : (ds : List Equation) → end_by (followed ls (l ∷ [])) ≡ incomplete → unless_left ds (end_by (followed ls (l ∷ []))) ≡ incomplete
    go [] h = h
    go (d ∷ ds) h = refl

same_end : (ls : List Node) (l : Node) → l.store.equations ≡ [] → end_by (followed ls (l ∷ [])) ≡ end_by ls
same_end [] l q = ap (λ x. unless_left x (end_by [])) q
same_end (x ∷ ls) l q = ap (unless_left x.store.equations) (same_end ls l q)

same_count : (ls : List Node) (l : Node) (e : Equation) (es : List Equation) → l.store.equations ≡ e ∷ es → answers_among (followed ls (l ∷ [])) ≡ answers_among ls
same_count [] l e es q = ap (λ x. length (without_equations l x [])) q
same_count (x ∷ ls) l e es q = go x.store.equations (same_count ls l e es q)
  where
    go : (ds : List Equation) → answers_among (followed ls (l ∷ [])) ≡ answers_among ls → length (without_equations x ds (answer_leaves (followed ls (l ∷ [])))) ≡ length (without_equations x ds (answer_leaves ls))
    go [] h = ap suc h
    go (d ∷ ds) h = h

module _ (entries : List Entry) (limit : ℕ) (G : List LfType) (q : Query) (budget : ℕ) (leaves : List Node) (tries left : ℕ) (agenda : List Pending) (run : Searches entries q leaves tries agenda) (within : tries + left ≡ budget) where
  joined : (more : ℕ) (after : List Pending) → SearchesFrom entries agenda [] more after → Searches entries q leaves (tries + more) after
  joined more after r = subst (λ ls. Searches entries q ls (tries + more) after) (followed_none leaves) (search_then (signature_of entries) (declared_constants entries) run r)

  with_leaf : (more : ℕ) (l : Node) (after : List Pending) → SearchesFrom entries agenda [] more (at_node l ∷ after) → l.goals ≡ [] → Searches entries q (followed leaves (l ∷ [])) (tries + more) after
  with_leaf more l after r g = subst (λ n. Searches entries q (followed leaves (l ∷ [])) n after) (omega arith) (search_then (signature_of entries) (declared_constants entries) (joined more (at_node l ∷ after) r) (one_step (signature_of entries) (declared_constants entries) (take_leaf g)))

  pub after_answer : (F : List LfType) (Ms : List Term) (proof : Term) (more : ℕ) (after : List Pending) → Comes entries limit G agenda left (answer F Ms proof) more after → AfterAnswer entries G q budget leaves tries F Ms proof more after
  after_answer F Ms proof more after (to_answer {l = l} r h g e w) = record {
    leaf = l;
    no_equations = e;
    read = w;
    run = with_leaf more l after r g;
    within = omega arith;
    one_more = last_answer leaves l e;
    same_end = same_end leaves l e;
    stops_here = stops (at_last (joined more (at_node l ∷ after) r) g e) (omega arith);
  }

  pub after_left_over : (l : Node) (e : Equation) (more : ℕ) (after : List Pending) → Comes entries limit G agenda left (left_over l e) more after → AfterLeftOver entries q budget leaves tries l e more after
  after_left_over l e more after (to_left_over {es = es} r h g f) = record {
    first = (es, f);
    run = with_leaf more l after r g;
    within = omega arith;
    as_many = same_count leaves l e es f;
    is_incomplete = still_incomplete leaves l e es f;
  }

  pub after_end : (bound : Bound) → FewerThan bound (answers_among leaves) → (more : ℕ) (after : List Pending) → Comes entries limit G agenda left exhausted more after → QueryRuns entries q budget bound leaves (end_by leaves) (tries + more)
  after_end bound f more after (to_end r h) = ends (joined more [] r) (omega arith) f

  pub after_budget : (bound : Bound) → FewerThan bound (answers_among leaves) → (more : ℕ) (after : List Pending) → Comes entries limit G agenda left out_of_budget more after → RunsOut entries q budget bound leaves
  after_budget bound f more after (to_budget {reached = reached} r d) = record { out = record { reached = reached; run = subst (λ n. Searches entries q leaves n reached) within (joined left reached r); due = d }; fewer = f }

  pub after_deep : (bound : Bound) → FewerThan bound (answers_among leaves) → (more : ℕ) (after : List Pending) → Comes entries limit G agenda left too_deep more after → RunsDeep entries limit G q budget bound leaves
  after_deep bound f more after (to_deep {reached = reached} {left = rest} r h d) = record { reached = reached; tries = tries + more; left = rest; run = joined more reached r; within = omega arith; fewer = f; deep = d }
