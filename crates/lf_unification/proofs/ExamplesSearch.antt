-- A search, whole: `u : type. c : u.` and the query `u`.
use Rattle.lf_unification.proofs.OfferForm.{offer_form}
use Rattle.lf_unification.specs.Solving.{IsWellFormed}
use Rattle.lf_unification.specs.Putting.{Unbound}
use Rattle.lf_unification.specs.PartialInstance.{IsFilling}
use Rattle.lf.proofs.Entries.{canonical_is_signature}
use Rattle.lf.specs.Subordination.{Member}
use Rattle.std.proofs.Common.{◌≡◌, ℕ, zero, suc, ◌≤◌, ◌<◌, List, [], ◌∷◌, Option, Some, None, ◌⊎◌, inl, inr, refl, sym, ap, ◌∙◌, subst, arith}
use Rattle.lf.specs.Entries.{Entry, IsCanonicalSignature, declare_constant, declare_family, signature_of}
use Rattle.lf.specs.SkeletonTyping.{TypeBySkeletons}
use Rattle.lf.specs.Skeletons.{context_skeletons, family_skeletons}
use Rattle.lf.specs.Syntax.{LfType, Term, app, atom, base, constant, metavariable, nil, pi, root, star}
use Rattle.lf.specs.Typing.{Signature, IsSignature}
use Rattle.lf_unification.specs.OpenTyping.{Declares, MetavariablesInType, set_at, skeletons_of, OpenIsType}
use Rattle.lf_unification.specs.Offering.{applied_to_all, applied_to_next}
use Rattle.lf_unification.specs.Query.{Query, Searches, StopsAtAnswer, at_last, none_asked, start}
use Rattle.lf_unification.specs.Reach.{TypeMentions}
use Rattle.lf_unification.specs.Search.{IsChild, IsInfinite, IsOutOfBudget, IsNode, Node, Offer, Pending, SearchStep, at_heads, at_node, declared_constants, begin_search, child, is_due, no_head, search_on, take_goal, take_leaf}
use Rattle.lf_unification.specs.Skeletons.{as_head_skeletons, total_skeletons}
use Rattle.lf_unification.specs.Scope.{MetavariablesInBindings}
use Rattle.lf_unification.specs.Unifiers.{Binding}
use Rattle.lf_unification.specs.Steps.{no_step}
use Rattle.lf_unification.proofs.Agree.{set_here}
use Rattle.lf_unification.proofs.Offer.{decide, set_other}
use Rattle.lf_unification.proofs.Decompose.{keeps_unifiers_refl}

abbrev unit : LfType
unit = atom 0 nil

abbrev only : {A : Type 0} → A → ℕ → Option A
only x zero = Some x
only x (suc n) = None

-- u is entry 0, c is entry 1
abbrev entries : List Entry
entries = record { name = 99 ∷ []; body = declare_constant unit; implicit = 0; hints = [] } ∷ record { name = 117 ∷ []; body = declare_family star; implicit = 0; hints = [] } ∷ []

abbrev Σ : Signature
Σ = signature_of entries

canonical : IsCanonicalSignature entries
canonical = ((tt, record { typed = tt; within = omega arith; implicit_lead = omega arith; hint_each = refl }), record { typed = (star, refl, tt); within = omega arith; implicit_lead = omega arith; hint_each = refl })

pub is_unit : (m : ℕ) (A : LfType) → only unit m ≡ Some A → unit ≡ A
is_unit zero A e = cc
is_unit (suc m) A e = cc

-- a store with one metavariable, 0 of type u, which is free
one_form : (Σ : Signature) (ok : IsSignature Σ) (Ψ : ℕ → Option LfType) → ((m : ℕ) (A : LfType) → Ψ m ≡ Some A → unit ≡ A) → Ψ 0 ≡ Some unit → OpenIsType Σ [] Ψ (IsFilling Σ [] (record { metavariables = Ψ; bindings = []; equations = [] })) [] unit → ((m : ℕ) (A : LfType) → Ψ m ≡ Some A → m ≡ 0) → IsWellFormed Σ (record { metavariables = Ψ; bindings = []; equations = [] })
one_form Σ ok Ψ same at t low = record {
  order = record { of = 0; of_type = unit; value = None } ∷ [];
  is_order = (tt, at, (λ l. l), tt, t, (λ ρ. refl), tt);
  all_listed = λ m A e. inl (low m A e);
  bindings_listed = tt;
  values_bound = ((λ N e. none N e), tt);
  typed = record { declarations_typed = record { outer_typed = λ i A g. absurd g; metavariables_typed = λ m A e. subst (OpenIsType Σ [] Ψ (IsFilling Σ [] (record { metavariables = Ψ; bindings = []; equations = [] })) []) (same m A e) t }; bindings_typed = tt; equations_typed = tt };
}
  where
    none : (N : Term) → None ≡ Some N → Member {A = Binding} (record { of = 0; value = N }) []
    none N e = cc

abbrev query : Query
query = record { metavariables = only unit; next = 1; hole = 0; goal = unit; hole_of = refl; hole_apart = λ m A e o. subst (λ X. TypeMentions 0 X → ⊥) (is_unit m A e) (λ x. x) o }

abbrev found : Node
found = record { store = record { metavariables = only unit; bindings = record { of = 0; value = root (constant 1) nil } ∷ []; equations = [] }; next = 1; goals = [] }

fresh : (m : ℕ) → 1 ≤ m → only unit m ≡ None
fresh zero h = absurd (omega arith)
fresh (suc m) h = refl

closed : (m : ℕ) (A : LfType) → only unit m ≡ Some A → MetavariablesInType (Declares (only unit)) A
closed m A e = subst (MetavariablesInType (Declares (only unit))) (is_unit m A e) tt

by_skeleton : (m : ℕ) (A : LfType) → only unit m ≡ Some A → TypeBySkeletons (family_skeletons Σ) (as_head_skeletons (total_skeletons Σ (skeletons_of (only unit)))) (context_skeletons []) A
by_skeleton m A e = subst (TypeBySkeletons (family_skeletons Σ) (as_head_skeletons (total_skeletons Σ (skeletons_of (only unit)))) (context_skeletons [])) (is_unit m A e) (base 0, refl, refl)

is_zero : (m : ℕ) (A : LfType) → only unit m ≡ Some A → m ≡ 0
is_zero zero A e = refl
is_zero (suc m) A e = cc

start_ok : IsNode Σ (start query)
start_ok = record { scoped = record { fresh = fresh; types = closed; bindings = tt; equations = tt; equation_types = tt }; skeletons = by_skeleton }

found_ok : IsNode Σ found
found_ok = record {
  scoped = record { fresh = fresh; types = closed; bindings = ((unit, refl), tt, tt); equations = tt; equation_types = tt };
  skeletons = by_skeleton;
}

offer : Offer Σ (start query) 0 [] 0 nil (constant 1) unit found.store 1
offer = record { typed = refl; kind = star; kind_of = refl; spine = nil; indices = nil; offered = applied_to_all; bindings = refl; equations = refl }

-- the query is well formed: its one metavariable is free
start_form : IsWellFormed Σ (start query).store
start_form = one_form Σ (canonical_is_signature entries canonical) (only unit) is_unit refl (star, refl, tt) is_zero

found_form : IsWellFormed Σ found.store
found_form = offer_form Σ (canonical_is_signature entries canonical) (start query) 0 [] 0 nil (constant 1) unit found.store 1 start_form start_ok refl tt offer

is_child : IsChild Σ found.store found.store
is_child = record { run = no_step; keeps = keeps_unifiers_refl Σ [] found.store; left_over = tt; well_formed = found_form }

-- one leaf after one try, and nothing is left to be searched
pub search : Searches entries query (found ∷ []) 1 []
search = search_on (take_goal refl refl) (search_on (child offer is_child found_ok refl) (search_on (take_leaf refl) (search_on no_head begin_search)))

-- A search without an end: `u : type. c : u -> u.` and the query `u`. Node n has put c's over its newest hole n.
abbrev endless : List Entry
endless = record { name = 99 ∷ []; body = declare_constant (pi unit unit); implicit = 0; hints = None ∷ [] } ∷ record { name = 117 ∷ []; body = declare_family star; implicit = 0; hints = [] } ∷ []

abbrev Σ₂ : Signature
Σ₂ = signature_of endless

-- the holes up to n are declared
abbrev holes_to : ℕ → ℕ → Option LfType
holes_to zero = set_at 0 (Some unit) (λ m. None)
holes_to (suc n) = set_at (suc n) (Some unit) (holes_to n)

abbrev c_of : Term → Term
c_of M = root (constant 1) (app M nil)

abbrev hole_term : ℕ → Term
hole_term n = root (metavariable n) nil

abbrev bound_to : ℕ → List Binding
bound_to zero = []
bound_to (suc n) = record { of = n; value = c_of (hole_term (suc n)) } ∷ bound_to n

abbrev node_at : ℕ → Node
node_at n = record { store = record { metavariables = holes_to n; bindings = bound_to n; equations = [] }; next = suc n; goals = n ∷ [] }

-- what is pending behind node n, or behind the heads of its goal
abbrev behind_node : ℕ → List Pending
behind_node zero = []
behind_node (suc n) = at_heads (node_at n) n [] [] 0 nil [] ∷ behind_node n

data State : Type 0 where
  looks_at_node : ℕ → State
  looks_at_heads : ℕ → State

abbrev shown : State → List Pending
shown (looks_at_node n) = at_node (node_at n) ∷ behind_node n
shown (looks_at_heads n) = at_heads (node_at n) n [] [] 0 nil (constant 1 ∷ []) ∷ behind_node n

abbrev next_state : State → State
next_state (looks_at_node n) = looks_at_heads n
next_state (looks_at_heads n) = looks_at_node (suc n)

abbrev tries_of : State → ℕ
tries_of (looks_at_node n) = 0
tries_of (looks_at_heads n) = 1

abbrev state_at : ℕ → State
state_at zero = looks_at_node 0
state_at (suc k) = next_state (state_at k)

pub all_unit : (n m : ℕ) (A : LfType) → holes_to n m ≡ Some A → unit ≡ A
all_unit zero zero A e = cc
all_unit zero (suc m) A e = cc
all_unit (suc n) m A e = go (all_unit n m A) (decide m (suc n))
  where
    go : (holes_to n m ≡ Some A → unit ≡ A) → (m ≡ suc n) ⊎ (m ≡ suc n → ⊥) → unit ≡ A
    go h (inl q) = (let p : Some unit ≡ Some A = sym (set_here (suc n) (Some unit) (holes_to n)) ∙ ap (holes_to (suc n)) (sym q) ∙ e in cc)
    go h (inr q) = h (sym (set_other (suc n) (Some unit) (holes_to n) m q) ∙ e)

none_above : (n m : ℕ) → n < m → holes_to n m ≡ None
none_above zero zero h = absurd (omega arith)
none_above zero (suc m) h = refl
none_above (suc n) m h = set_other (suc n) (Some unit) (holes_to n) m (λ e. omega arith) ∙ none_above n m (omega arith)

declared_to : (n m : ℕ) → m ≤ n → holes_to n m ≡ Some unit
declared_to zero zero h = refl
declared_to zero (suc m) h = absurd (omega arith)
declared_to (suc n) m h = go (declared_to n m) (decide m (suc n))
  where
    go : (m ≤ n → holes_to n m ≡ Some unit) → (m ≡ suc n) ⊎ (m ≡ suc n → ⊥) → holes_to (suc n) m ≡ Some unit
    go r (inl q) = ap (holes_to (suc n)) q ∙ set_here (suc n) (Some unit) (holes_to n)
    go r (inr q) = set_other (suc n) (Some unit) (holes_to n) m q ∙ r (omega arith)

bound_in : (V : ℕ → Type 0) (n : ℕ) → ((m : ℕ) → m ≤ n → V m) → MetavariablesInBindings V (bound_to n)
bound_in V zero h = tt
bound_in V (suc n) h = (h n (omega arith), ((h (suc n) (omega arith), tt), tt), bound_in V n (λ m l. h m (omega arith)))

node_is : (n : ℕ) → IsNode Σ₂ (node_at n)
node_is n = record {
  scoped = record {
    fresh = λ m h. none_above n m (omega arith);
    types = λ m A e. subst (MetavariablesInType (Declares (holes_to n))) (all_unit n m A e) tt;
    bindings = bound_in (Declares (holes_to n)) n (λ m l. (unit, declared_to n m l));
    equations = tt;
    equation_types = tt;
  };
  skeletons = λ m A e. subst (TypeBySkeletons (family_skeletons Σ₂) (as_head_skeletons (total_skeletons Σ₂ (skeletons_of (holes_to n)))) (context_skeletons [])) (all_unit n m A e) (base 0, refl, refl);
}

offer_at : (n : ℕ) → Offer Σ₂ (node_at n) n [] 0 nil (constant 1) (pi unit unit) (node_at (suc n)).store (suc (suc n))
offer_at n = record { typed = refl; kind = star; kind_of = refl; spine = app (hole_term (suc n)) nil; indices = nil; offered = applied_to_next applied_to_all; bindings = refl; equations = refl }

low_at : (m : ℕ) (A : LfType) → holes_to 0 m ≡ Some A → m ≡ 0
low_at zero A e = refl
low_at (suc m) A e = cc

canonical₂ : IsCanonicalSignature endless
canonical₂ = ((tt, record { typed = tt; within = omega arith; implicit_lead = omega arith; hint_each = refl }), record { typed = ((star, refl, tt), (star, refl, tt)); within = omega arith; implicit_lead = omega arith; hint_each = refl })

hole_free : (n m : ℕ) → n ≤ m → Unbound (bound_to n) m
hole_free zero m h = tt
hole_free (suc n) m h = ((λ e. omega arith), hole_free n m (omega arith))

-- each store is what was offered to the one before
node_form : (n : ℕ) → IsWellFormed Σ₂ (node_at n).store
node_form zero = one_form Σ₂ (canonical_is_signature endless canonical₂) (holes_to 0) (all_unit 0) refl (star, refl, tt) low_at
node_form (suc n) = offer_form Σ₂ (canonical_is_signature endless canonical₂) (node_at n) n [] 0 nil (constant 1) (pi unit unit) (node_at (suc n)).store (suc (suc n)) (node_form n) (node_is n) (declared_to n n (omega arith)) (hole_free n n (omega arith)) (offer_at n)

node_child : (n : ℕ) → IsChild Σ₂ (node_at n).store (node_at n).store
node_child n = record { run = no_step; keeps = keeps_unifiers_refl Σ₂ [] (node_at n).store; left_over = tt; well_formed = node_form n }

step_at : (s : State) → SearchStep Σ₂ (declared_constants endless) (shown s) [] (tries_of s) (shown (next_state s))
step_at (looks_at_node n) = take_goal refl (declared_to n n (omega arith))
step_at (looks_at_heads n) = child (offer_at n) (node_child (suc n)) (node_is (suc n)) refl

abbrev endless_query : Query
endless_query = record { metavariables = holes_to 0; next = 1; hole = 0; goal = unit; hole_of = refl; hole_apart = λ m A e o. subst (λ X. TypeMentions 0 X → ⊥) (all_unit 0 m A e) (λ x. x) o }

-- after any number of steps there is one more, and no leaf is ever found
pub endless_search : IsInfinite endless (at_node (start endless_query) ∷ [])
endless_search = record { reached = λ k. shown (state_at k); leaves = λ k. []; tries = λ k. tries_of (state_at k); starts = refl; goes_on = λ k. step_at (state_at k) }

-- with no try allowed the budget is spent before the first leaf
pub no_try : IsOutOfBudget endless (at_node (start endless_query) ∷ []) [] 0
no_try = record { reached = shown (looks_at_heads 0); run = search_on (step_at (looks_at_node 0)) begin_search; due = is_due (offer_at 0) }

-- the first search stops at its first answer
pub first_answer : StopsAtAnswer entries query 1 (found ∷ []) 1
first_answer = at_last (search_on (take_goal refl refl) (search_on (child offer is_child found_ok refl) begin_search)) refl refl

-- where no answer is asked for nothing is tried
pub no_answer : StopsAtAnswer entries query 0 [] 0
no_answer = none_asked
