-- Whether a quantifier is a variable of the clause or a subgoal is read off its type as it was declared. After
--   nat : type.  z : nat.  s : nat -> nat.  c : nat -> type.  e : (nat -> nat) -> type.  r : {F:nat -> nat} (({y:nat} c (F y)) -> c z) -> e F.
-- the query `e ([y] z)` has one answer and two tries. The local assumption u : {y:nat} c (F y) has y as a variable, although F is [y] z by then;
-- by its type with F put in, {y:nat} c z, y would be a subgoal, with an answer for each number.
use Rattle.std.proofs.Common.{◌≡◌, ℕ, zero, suc, List, [], ◌∷◌, Option, Some, None, inl, inr, refl, sym, ap, ◌∙◌, subst, arith}
use Rattle.lf_unification.specs.Renewing.{renewed_store}
use Rattle.lf.specs.Entries.{Entry, IsCanonicalSignature, declare_constant, declare_family, signature_of}
use Rattle.lf.specs.Rules.{at_constant, beta, none, stop}
use Rattle.lf.specs.Syntax.{Head, LfType, Term, app, atom, constant, kind_pi, lambda, metavariable, nil, pi, root, skeleton, star, variable}
use Rattle.lf.specs.Typing.{IsSignature, IsType, Signature}
use Rattle.lf.proofs.Entries.{canonical_is_signature}
use Rattle.lf_unification.specs.Inversion.{IsPattern}
use Rattle.lf_unification.specs.Offering.{applied_to_all, applied_to_next, lambda_over, pi_over, raised}
use Rattle.lf_unification.specs.OpenTyping.{MetavariablesInType, set_at, skeletons_of}
use Rattle.lf_unification.specs.Outside.{CanBind}
use Rattle.lf_unification.specs.Patterns.{extend_renaming}
use Rattle.lf_unification.specs.Patterns.{skeleton_target}
use Rattle.lf_unification.specs.Putting.{PutsIn, PutsInType, Unbound, put_at_bound, put_at_rigid, put_in_argument, put_in_atom, put_in_pi, put_nothing, put_nowhere, some_at_bound, some_in_argument, some_nowhere}
use Rattle.lf_unification.specs.Dependency.{ListedMetavariable, free_context, values}
use Rattle.lf_unification.specs.Query.{Query, Searches, at_last, none_asked}
use Rattle.lf_unification.specs.Reach.{TypeMentions}
use Rattle.lf_unification.specs.Search.{IsChild, IsNode, Node, Offer, OfferedHeadHasType, SearchesFrom, at_heads, at_node, begin_search, child, holes, is_due, no_head, other_target, search_on, take_goal, take_leaf}
use Rattle.lf_unification.specs.Solving.{IsWellFormed}
use Rattle.lf_unification.specs.Steps.{Run, Step, bind, drop_equal, no_step, open_lambdas, put_bindings, renew, then_run}
use Rattle.lf_unification.specs.Unifiers.{Binding, Store, on_right}
use Rattle.lf_unification.proofs.OfferForm.{offer_form}
use Rattle.lf_unification.proofs.Runs.{run_solved}
use Rattle.lf_unification.proofs.Solving.{solved_child}
use Rattle.lf_search.specs.Bounded.{QueryRuns, RunsOut, ends, exhausted, number, star as unbounded, stopped, stops}
use Rattle.lf_search.specs.Goals.{IsQueryOf, metavariables_of, root_of}
use Rattle.lf_search.specs.Heads.{Clash, clash_here, constant_head, from_outside, head_of_argument, head_of_value, is_first, outer_head, own, own_head, own_under_lambda, own_variable, under_lambda, variable_head}
use Rattle.lf_unification.specs.ReachedRuns.{RunRenewsReached}
use Rattle.lf_search.proofs.ChildNode.{child_node, offer_adds}
use Rattle.lf_search.proofs.QueryForm.{root_form, root_node}
use Rattle.std.specs.Prelude.{false}

abbrev nat : LfType
nat = atom 0 nil

abbrev z : Term
z = root (constant 1) nil

abbrev c_of : Term → LfType
c_of M = atom 3 (app M nil)

abbrev e_of : Term → LfType
e_of M = atom 4 (app M nil)

-- a head on the newest variable
abbrev on_newest : Head → Term
on_newest h = root h (app (root (variable 0) nil) nil)

-- the type of r, and what it becomes for a metavariable 1 in place of F
abbrev r_type : LfType
r_type = pi (pi nat nat) (pi (pi (pi nat (c_of (on_newest (variable 1)))) (c_of z)) (e_of (lambda (on_newest (variable 2)))))

abbrev assumption_type : LfType
assumption_type = pi nat (c_of (on_newest (metavariable 1)))

-- y is a variable of the assumption; it would be none if F had been put in
pub declared_type_counts : (holes 3 assumption_type ≡ []) × (holes 3 (pi nat (c_of z)) ≡ 3 ∷ [])
declared_type_counts = (refl, refl)

abbrev older : List Entry
older = record { name = 101 ∷ []; body = declare_family (kind_pi (pi nat nat) star); implicit = 0; hints = None ∷ [] } ∷ record { name = 99 ∷ []; body = declare_family (kind_pi nat star); implicit = 0; hints = None ∷ [] }
    ∷ record { name = 115 ∷ []; body = declare_constant (pi nat nat); implicit = 0; hints = None ∷ [] } ∷ record { name = 122 ∷ []; body = declare_constant nat; implicit = 0; hints = [] } ∷ record { name = 110 ∷ []; body = declare_family star; implicit = 0; hints = [] } ∷ []

abbrev entries : List Entry
entries = record { name = 114 ∷ []; body = declare_constant r_type; implicit = 1; hints = None ∷ None ∷ [] } ∷ older

abbrev Σ : Signature
Σ = signature_of entries

r_is_typed : IsType (signature_of older) [] r_type
r_is_typed = (
  ((star, refl, tt), (star, refl, tt)),
  (
    (((star, refl, tt), (kind_pi nat star, refl, ((pi nat nat, (pi nat nat, refl, refl), ((nat, refl, refl), refl)), tt))), (kind_pi nat star, refl, ((nat, refl, refl), tt))),
    (kind_pi (pi nat nat) star, refl, ((pi nat nat, (pi nat nat, (pi nat nat, refl, refl), refl), ((nat, refl, refl), refl)), tt)),
  ),
)

canonical : IsCanonicalSignature entries
canonical = (
  (
    (
      (
        ((tt, record { typed = tt; within = omega arith; implicit_lead = omega arith; hint_each = refl }), record { typed = (star, refl, tt); within = omega arith; implicit_lead = omega arith; hint_each = refl }),
        record { typed = ((star, refl, tt), (star, refl, tt)); within = omega arith; implicit_lead = omega arith; hint_each = refl },
      ),
      record { typed = ((star, refl, tt), tt); within = omega arith; implicit_lead = omega arith; hint_each = refl },
    ),
    record { typed = (((star, refl, tt), (star, refl, tt)), tt); within = omega arith; implicit_lead = omega arith; hint_each = refl },
  ),
  record { typed = r_is_typed; within = omega arith; implicit_lead = omega arith; hint_each = refl },
)

ok : IsSignature (signature_of entries)
ok = canonical_is_signature entries canonical

abbrev goal : LfType
goal = e_of (lambda z)

goal_typed : IsType (signature_of entries) [] goal
goal_typed = (kind_pi (pi nat nat) star, refl, ((nat, refl, refl), tt))

-- The first try offers r to hole 0: metavariable 1 is F, and 2 the hole of the subgoal.
abbrev proof_of_goal : Term
proof_of_goal = root (constant 5) (app (raised [] (pi nat nat) 1) (app (raised [] (pi assumption_type (c_of z)) 2) nil))

abbrev after_r : ℕ → Option LfType
after_r = set_at 2 (Some (pi assumption_type (c_of z))) (set_at 1 (Some (pi nat nat)) (metavariables_of (goal ∷ [])))

abbrev first_bindings : List Binding
first_bindings = record { of = 0; value = proof_of_goal } ∷ []

abbrev offered_r : Store
offered_r = record { metavariables = after_r; bindings = first_bindings; equations = record { local = []; left = lambda z; right = lambda (on_newest (metavariable 1)); of_type = pi nat nat } ∷ [] }

offer_r : Offer Σ (root_of [] goal) 0 [] 4 (app (lambda z) nil) (constant 5) r_type offered_r 3
offer_r = record {
  typed = refl;
  kind = kind_pi (pi nat nat) star;
  kind_of = refl;
  spine = app (raised [] (pi nat nat) 1) (app (raised [] (pi assumption_type (c_of z)) 2) nil);
  indices = app (lambda (on_newest (metavariable 1))) nil;
  offered = applied_to_next (applied_to_next applied_to_all);
  bindings = refl;
  equations = refl;
}

-- F becomes [y] z
abbrev second_bindings : List Binding
second_bindings = record { of = 1; value = lambda z } ∷ first_bindings

abbrev solved_r : Store
solved_r = record { metavariables = after_r; bindings = second_bindings; equations = [] }

is_pattern : IsPattern (nat ∷ []) (skeletons_of after_r 1) (0 ∷ [])
is_pattern = record { places = λ Γ. (refl, tt); distinct = one_by_one }
  where
    one_by_one : (i j : ℕ) → extend_renaming 0 suc i ≡ extend_renaming 0 suc j → i ≡ j
    one_by_one zero zero e = refl
    one_by_one zero (suc j) e = cc
    one_by_one (suc i) zero e = cc
    one_by_one (suc i) (suc j) e = e

can_bind : CanBind after_r first_bindings (nat ∷ []) 1 (0 ∷ []) z
can_bind = record { inverted = record { inversion = z; is = refl }; reached = λ k. false; avoids = ((λ k A v e. absurd v), ((λ v. absurd v), tt), (λ v. v)); within = tt }

pub run_r : Run Σ offered_r solved_r
unfolding can_bind
run_r = then_run open_lambdas (then_run (bind on_right (nat ∷ []) 1 (0 ∷ []) z nat refl ((λ e. cc), tt) is_pattern can_bind) no_step)

abbrev node : Node
node = record { store = solved_r; next = 3; goals = 2 ∷ [] }

form_r : IsWellFormed (signature_of entries) offered_r
form_r = offer_form (signature_of entries) ok (root_of [] goal) 0 [] 4 (app (lambda z) nil) (constant 5) r_type offered_r 3 (root_form (signature_of entries) ok [] goal tt goal_typed) (root_node (signature_of entries) ok [] goal tt goal_typed) refl tt offer_r

child_r : IsChild (signature_of entries) offered_r solved_r
child_r = solved_child (signature_of entries) ok offered_r solved_r (run_solved (signature_of entries) ok form_r run_r refl)

node_is : IsNode (signature_of entries) node
node_is = child_node (signature_of entries) ok (root_of [] goal) 0 [] 4 (app (lambda z) nil) (constant 5) r_type offered_r 3 (root_node (signature_of entries) ok [] goal tt goal_typed) refl offer_r solved_r 3 (2 ∷ []) child_r
    (offer_adds (signature_of entries) ok (root_of [] goal) 0 [] 4 (app (lambda z) nil) (constant 5) r_type offered_r 3 (root_node (signature_of entries) ok [] goal tt goal_typed) refl offer_r).fresh

-- The second try offers the assumption u to hole 2: metavariable 3 is y.
abbrev local_context : List LfType
local_context = assumption_type ∷ []

abbrev after_u : ℕ → Option LfType
after_u = set_at 3 (Some (pi_over local_context nat)) after_r

abbrev third_bindings : List Binding
third_bindings = record { of = 2; value = lambda_over local_context (root (variable 0) (app (raised local_context nat 3) nil)) } ∷ second_bindings

abbrev offered_u : Store
offered_u = record { metavariables = after_u; bindings = third_bindings; equations = record { local = local_context; left = z; right = root (metavariable 1) (app (raised local_context nat 3) nil); of_type = nat } ∷ [] }

offer_u : Offer Σ node 2 local_context 3 (app z nil) (variable 0) assumption_type offered_u 4
offer_u = record {
  typed = refl;
  kind = kind_pi nat star;
  kind_of = refl;
  spine = app (raised local_context nat 3) nil;
  indices = app (root (metavariable 1) (app (raised local_context nat 3) nil)) nil;
  offered = applied_to_next applied_to_all;
  bindings = refl;
  equations = refl;
}

-- z = F y is z = z
abbrev solved_u : Store
solved_u = record { metavariables = after_u; bindings = third_bindings; equations = [] }

run_u : Run Σ offered_u solved_u
run_u = then_run (put_bindings put_nothing (some_at_bound (record { of = 1; value = lambda z }) (inr (inl refl)) (some_in_argument put_nothing some_nowhere) (beta (at_constant none) stop) put_nothing)) (then_run drop_equal no_step)

form_u : IsWellFormed (signature_of entries) offered_u
form_u = offer_form (signature_of entries) ok node 2 local_context 3 (app z nil) (variable 0) assumption_type offered_u 4 child_r.well_formed node_is refl ((λ e. cc), ((λ e. cc), tt)) offer_u

child_u : IsChild (signature_of entries) offered_u solved_u
child_u = solved_child (signature_of entries) ok offered_u solved_u (run_solved (signature_of entries) ok form_u run_u refl)

abbrev leaf : Node
leaf = record { store = solved_u; next = 4; goals = [] }

leaf_is : IsNode (signature_of entries) leaf
leaf_is = child_node (signature_of entries) ok node 2 local_context 3 (app z nil) (variable 0) assumption_type offered_u 4 node_is refl offer_u solved_u 4 [] child_u
    (offer_adds (signature_of entries) ok node 2 local_context 3 (app z nil) (variable 0) assumption_type offered_u 4 node_is refl offer_u).fresh

-- heads of other targets
not_offered : (D : List LfType) (a c : ℕ) (B : LfType) → (signature_of entries).types c ≡ Some B → (skeleton_target (skeleton B) ≡ a → ⊥) → (A : LfType) → OfferedHeadHasType (signature_of entries) D (constant c) A → skeleton_target (skeleton A) ≡ a → ⊥
not_offered D a c B e n A f t = n (ap (λ X. skeleton_target (skeleton X)) (same (sym e ∙ f)) ∙ t)
  where
    same : Some B ≡ Some A → B ≡ A
    same q = cc

-- one leaf after two tries, and nothing is left
pub search : SearchesFrom entries (at_node (root_of [] goal) ∷ []) (leaf ∷ []) 2 []
search =
    search_on (take_goal refl refl)
    (search_on (other_target (not_offered [] 4 1 nat refl (λ e. omega arith)))
    (search_on (other_target (not_offered [] 4 2 (pi nat nat) refl (λ e. omega arith)))
    (search_on (child offer_r child_r node_is refl)
    (search_on (take_goal refl refl)
    (search_on (child offer_u child_u leaf_is refl)
    (search_on (take_leaf refl)
    (search_on (other_target (not_offered local_context 3 1 nat refl (λ e. omega arith)))
    (search_on (other_target (not_offered local_context 3 2 (pi nat nat) refl (λ e. omega arith)))
    (search_on (other_target (not_offered local_context 3 5 r_type refl (λ e. omega arith)))
    (search_on no_head
    (search_on no_head begin_search)))))))))))

-- the same as a run of a query, with as many tries as it needs
mentions_none : TypeMentions 0 goal → ⊥
mentions_none (inl o) = o
mentions_none (inr o) = o

pub hole_apart : (m : ℕ) (A : LfType) → metavariables_of (goal ∷ []) m ≡ Some A → TypeMentions 0 A → ⊥
hole_apart zero A e o = let q : goal ≡ A = cc in mentions_none (subst (TypeMentions 0) (sym q) o)
hole_apart (suc m) A e o = absurd (cc)

abbrev pub the_goal : Query
the_goal = record { metavariables = metavariables_of (goal ∷ []); next = 1; hole = 0; goal = goal; hole_of = refl; hole_apart = hole_apart }

pub is_query : IsQueryOf [] goal the_goal
is_query = refl

pub runs : QueryRuns entries the_goal 2 unbounded (leaf ∷ []) exhausted 2
runs = ends search (omega arith) tt

-- a query that asks for no answer tries nothing, also where it may
pub asks_for_none : QueryRuns entries the_goal 2 (number 0) [] stopped 0
asks_for_none = stops none_asked (omega arith)

-- and that asks for one stops behind it: the heads that are left aren't looked at
pub asks_for_one : QueryRuns entries the_goal 2 (number 1) (leaf ∷ []) stopped 2
asks_for_one = stops (at_last to_leaf refl refl) (omega arith)
  where
    to_leaf : Searches entries the_goal [] 2 (at_node leaf ∷ at_heads node 2 [] local_context 3 (app z nil) (constant 1 ∷ constant 2 ∷ constant 5 ∷ []) ∷ at_heads (root_of [] goal) 0 [] [] 4 (app (lambda z) nil) [] ∷ [])
    to_leaf =
        search_on (take_goal refl refl)
        (search_on (other_target (not_offered [] 4 1 nat refl (λ e. omega arith)))
        (search_on (other_target (not_offered [] 4 2 (pi nat nat) refl (λ e. omega arith)))
        (search_on (child offer_r child_r node_is refl)
        (search_on (take_goal refl refl)
        (search_on (child offer_u child_u leaf_is refl) begin_search)))))

-- with a budget of no tries it is out of budget before the first, with one before the second
pub no_try_left : RunsOut entries the_goal 0 unbounded []
no_try_left = record {
  out = record {
    reached = at_heads (root_of [] goal) 0 [] [] 4 (app (lambda z) nil) (constant 5 ∷ []) ∷ [];
    run = search_on (take_goal refl refl) (search_on (other_target (not_offered [] 4 1 nat refl (λ e. omega arith))) (search_on (other_target (not_offered [] 4 2 (pi nat nat) refl (λ e. omega arith))) begin_search));
    due = is_due offer_r;
  };
  fewer = tt;
}

pub one_try : RunsOut entries the_goal 1 unbounded []
one_try = record {
  out = record {
    reached = at_heads node 2 [] local_context 3 (app z nil) (variable 0 ∷ constant 1 ∷ constant 2 ∷ constant 5 ∷ []) ∷ at_heads (root_of [] goal) 0 [] [] 4 (app (lambda z) nil) [] ∷ [];
    run = search_on (take_goal refl refl) (search_on (other_target (not_offered [] 4 1 nat refl (λ e. omega arith))) (search_on (other_target (not_offered [] 4 2 (pi nat nat) refl (λ e. omega arith)))
        (search_on (child offer_r child_r node_is refl) (search_on (take_goal refl refl) begin_search))));
    due = is_due offer_u;
  };
  fewer = tt;
}

-- What is read off the leaf: the free variable Y : ({y:nat} c z) -> nat, and the proof r ([y] z) ([u] u (Y u)). The metavariables are listed in
-- an order of dependency.
abbrev leaf_order : List ListedMetavariable
leaf_order = record { of = 0; of_type = goal; value = Some proof_of_goal } ∷ record { of = 2; of_type = pi assumption_type (c_of z); value = Some (lambda_over local_context (root (variable 0) (app (raised local_context nat 3) nil))) }
    ∷ record { of = 3; of_type = pi_over local_context nat; value = None } ∷ record { of = 1; of_type = pi nat nat; value = Some (lambda z) } ∷ []

-- [u] u (Y u), where u is eta-long
abbrev proof_of_subgoal : Term
proof_of_subgoal = lambda (root (variable 0) (app (root (variable 1) (app (lambda (on_newest (variable 1))) nil)) nil))

pub what_is_read : (free_context (skeletons_of after_u) leaf_order ≡ pi (pi nat (c_of z)) nat ∷ []) × (values (skeletons_of after_u) leaf_order 0 ≡ Some (root (constant 5) (app (lambda z) (app proof_of_subgoal nil))))
what_is_read = (refl, refl)

-- A step of unification may renew the hole 2 behind the first try, since its type mentions F, which is bound by then. Nothing asks for it: no
-- equation is left that would reach the hole.
abbrev hole_type : LfType
hole_type = pi (pi nat (c_of z)) (c_of z)

pub hole_may_be_renewed : Step Σ solved_r (renewed_store solved_r 2 (pi assumption_type (c_of z)) hole_type 3)
hole_may_be_renewed = renew 2 (pi assumption_type (c_of z)) hole_type refl ((λ e. cc), ((λ e. cc), tt)) mentions_bound puts 3 node_is.scoped
  where
    mentions_bound : MetavariablesInType (Unbound second_bindings) (pi assumption_type (c_of z)) → ⊥
    mentions_bound ((a, ((u, b), d)), e) = u.0 refl

    z_stays : PutsIn after_r second_bindings 1 z z
    z_stays = put_at_rigid (constant 1) tt put_nowhere

    f_put : PutsIn after_r second_bindings 1 (on_newest (metavariable 1)) z
    f_put = put_at_bound (record { of = 1; value = lambda z }) (inl refl) (put_in_argument (put_at_rigid (variable 0) tt put_nowhere) put_nowhere) (beta (at_constant none) stop) z_stays

    puts : PutsInType after_r second_bindings 0 (pi assumption_type (c_of z)) hole_type
    puts = put_in_pi (put_in_pi (put_in_atom put_nowhere) (put_in_atom (put_in_argument f_put put_nowhere))) (put_in_atom (put_in_argument z_stays put_nowhere))

-- the run that was taken renews nothing, so the holes stay open
pub run_renews_nothing : RunRenewsReached run_r
unfolding run_r
run_renews_nothing = (tt, (tt, tt))

-- Heads clash: of z and s F, and of X and z, where X is s F.
abbrev s_of : Term → Term
s_of M = root (constant 2) (app M nil)

pub z_and_s_clash : Clash [] 1 (app z nil) (app (s_of (root (variable 0) nil)) nil)
z_and_s_clash = clash_here (outer_head constant_head) (outer_head constant_head) (λ e. cc)

pub value_clashes : Clash (record { of = 7; value = s_of (root (metavariable 8) nil) } ∷ []) 0 (app (root (metavariable 7) nil) nil) (app z nil)
value_clashes = clash_here (outer_head (head_of_value (record { of = 7; value = s_of (root (metavariable 8) nil) }) (inl refl) constant_head)) (outer_head constant_head) (λ e. cc)

-- two variables that stand outside of the clause, which has one quantifier
pub variables_clash : Clash [] 1 (app (root (variable 0) nil) nil) (app (root (variable 2) nil) nil)
variables_clash = clash_here (outer_head (variable_head 0 refl)) (outer_head (variable_head 1 refl)) (λ e. cc)

-- [x] x and [x] s x
pub own_clashes : Clash [] 0 (app (lambda (root (variable 0) nil)) nil) (app (lambda (s_of (root (variable 0) nil))) nil)
own_clashes = clash_here {h = own 0} {h' = from_outside (constant 2)} (own_head (own_under_lambda (own_variable (variable_head 0 refl) refl))) (outer_head (under_lambda constant_head)) (λ e. cc)

-- F x and z, where F is [y] y and x a variable
pub argument_clashes : Clash (record { of = 7; value = lambda (root (variable 0) nil) } ∷ []) 0 (app (root (metavariable 7) (app (root (variable 0) nil) nil)) nil) (app z nil)
argument_clashes = clash_here (outer_head (head_of_argument (record { of = 7; value = lambda (root (variable 0) nil) }) (inl refl) (own_under_lambda (own_variable (variable_head 0 refl) refl)) is_first (variable_head 0 refl))) (outer_head constant_head) (λ e. cc)
