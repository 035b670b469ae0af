-- What is offered is an offer, and the store is ready for its equations.
use Rattle.std.proofs.Common.{◌≡◌, ℕ, zero, suc, List, [], ◌∷◌, length, Option, Some, map, reverse, refl, sym, ap, ap₂, ◌∙◌, subst}
use Rattle.lf.specs.Substitution.{reduce, single}
use Rattle.lf.specs.Syntax.{Head, LfType, Spine, Term, base, constant, metavariable, root, skeleton, variable, weaken}
use Rattle.lf.specs.Typing.{IsSignature, Signature, TypeAt}
use Rattle.lf.specs.Variables.{onto}
use Rattle.lf.proofs.TypeLaws.{skeleton_substituted}
use Rattle.lf_elaboration.proofs.Skeletons.{kind_closed}
use Rattle.lf_checks.specs.Parts.{shape}
use Rattle.lf_unification.specs.Lists.{followed}
use Rattle.lf_unification.specs.Offering.{AppliesToNew, applied_to_all, applied_to_next, lambda_over, raised, spine_equations}
use Rattle.lf_unification.specs.Patterns.{skeleton_target}
use Rattle.lf_unification.specs.Search.{Offer, OfferedHeadHasType}
use Rattle.lf_unification.specs.Solving.{IsWellFormed}
use Rattle.lf_unification.specs.Unifiers.{Equation}
use Rattle.lf_unification.proofs.OfferForm.{offer_form}
use Rattle.lf_unification.proofs.Runs.{run_form}
use Rattle.tw_metas.specs.State.{IsUnbound, State, Story, changed, with_value}
use Rattle.tw_putting.specs.Ready.{IsReady, TypesBySkeletons}
use Rattle.tw_putting.specs.Stores.{bindings_of, types_of}
use Rattle.tw_putting.specs.Whole.{IsConsistent}
use Rattle.tw_putting.proofs.Changes.{bindings_with_value, consistent_with_value, is_unbound}
use Rattle.tw_putting.proofs.Skeletons.{types_both, types_grow}
use Rattle.tw_terms.specs.declared.canonical.MetaId.{MetaId}
use Rattle.tw_search.specs.Goals.{StandsAtGoal, goal_type, indices_of, node_of}
use Rattle.tw_search.specs.Offers.{EquationsFit, HasEquations, IsOffered, offered_store, unmarked}
use Rattle.tw_open.specs.Fresh.{OnlyDeclares}
use Rattle.tw_search.specs.Taking.{TakesAll, numbers_from}
use Rattle.tw_open.specs.View.{made_with}
use Rattle.tw_search.specs.declared.goal.OpenGoal.{OpenGoal}
use Rattle.tw_search.proofs.Offering.{Keeps, goal_spine, has_kind, holes_unmarked, indices_fit, new_first, only_keeps, parts_typed, spine_types}

-- the goal's hole is bound to the head on new metavariables S; the atom of the family a on T is left of the head's type
pub record Applies (g : OpenGoal) (h : Head) (A : LfType) (old new : Story) (S : Spine) (a : ℕ) (T : Spine) : Type 0 where
  pub middle : Story
  pub declares : OnlyDeclares old middle
  pub taken : TakesAll g.locals A old.now middle.now S a T
  pub binds : new ≡ changed middle (with_value middle.now g.hole.0 (lambda_over g.locals (root h S)))

applied_target : {D : List LfType} {Ψ : ℕ → Option LfType} {n : ℕ} {A : LfType} {Ψ' : ℕ → Option LfType} {n' : ℕ} {S : Spine} {a : ℕ} {T : Spine} → AppliesToNew D Ψ n A Ψ' n' S a T → skeleton_target (skeleton A) ≡ a
applied_target applied_to_all = refl
applied_target {D = D} {n = n} (applied_to_next {B = B} {C = C} o) = ap skeleton_target (sym (skeleton_substituted reduce (single (skeleton B) (raised D B n)) C)) ∙ applied_target o

-- a head has one type
at_one : (G : List LfType) (i : ℕ) (A B : LfType) → TypeAt G i A → TypeAt G i B → A ≡ B
at_one [] i A B a b = absurd a
at_one (C ∷ G) zero A B a b = a ∙ sym b
at_one (C ∷ G) (suc i) A B (X, x, a) (Y, y, b) = a ∙ ap weaken (at_one G i X Y x y) ∙ sym b

pub one_type : (Σ : Signature) (D : List LfType) (h : Head) (A B : LfType) → OfferedHeadHasType Σ D h A → OfferedHeadHasType Σ D h B → A ≡ B
one_type Σ D (constant c) A B a b = (let p : Some A ≡ Some B = sym a ∙ b in cc)
one_type Σ D (variable i) A B a b = at_one (onto D []) i A B a b
one_type Σ D (metavariable m) A B a b = absurd a

module _ (Σ : Signature) (ok : IsSignature Σ) (g : OpenGoal) (h : Head) where
  -- what the calls ask for
  pub hole_unbound : (s : State) → StandsAtGoal Σ s g → IsUnbound s g.hole.0
  hole_unbound s w = is_unbound s w.ready.consistent g.hole.0 (goal_type s g) w.declared w.unbound

  pub equations_fit : (s : State) → StandsAtGoal Σ s g → EquationsFit Σ s g
  equations_fit s w = record { declared = (goal_type s g, w.declared); has_kind = has_kind Σ ok s g w; fits = indices_fit Σ ok s g w }

  module _ (old new : Story) (w : StandsAtGoal Σ old.now g) (A : LfType) (typed : OfferedHeadHasType Σ g.locals h A) (target : skeleton_target (skeleton A) ≡ g.family.0) (S : Spine) (a : ℕ) (T : Spine) (p : Applies g h A old new S a T) (es : List Equation) (q : HasEquations Σ old.now g T es) (subgoals : List MetaId) (is : map (λ (m : MetaId). m.0) subgoals ≡ unmarked (shape A) (numbers_from (length old.now.declared) A)) where
    keeps : Keeps old.now p.middle.now
    keeps = only_keeps p.declares

    V : Term
    V = lambda_over g.locals (root h S)

    consistent : IsConsistent p.middle.now
    consistent = keeps.consistent w.ready.consistent

    unbound : IsUnbound p.middle.now g.hole.0
    unbound = keeps.unbound g.hole.0 (hole_unbound old.now w)

    abbrev t : State
    t = with_value p.middle.now g.hole.0 (lambda_over g.locals (root h S))

    the_offer : Offer Σ (node_of old.now []) g.hole.0 g.locals g.family.0 (indices_of old.now g.hole.0) h A (offered_store es (with_value p.middle.now g.hole.0 (lambda_over g.locals (root h S)))) (length p.middle.now.declared)
    the_offer = record {
      typed = typed;
      kind = q.kind;
      kind_of = q.kind_of;
      spine = S;
      indices = T;
      offered = subst (λ f. AppliesToNew g.locals (types_of old.now) (length old.now.declared) A (types_of p.middle.now) (length p.middle.now.declared) S f T) (sym (applied_target p.taken) ∙ target) p.taken;
      bindings = bindings_with_value p.middle.now consistent g.hole.0 (lambda_over g.locals (root h S)) unbound ∙ ap (λ bs. record { of = g.hole.0; value = lambda_over g.locals (root h S) } ∷ bs) keeps.bindings;
      equations = ap₂ followed keeps.equations q.equations;
    }

    new_types : TypesBySkeletons Σ (types_of p.middle.now) es
    new_types = subst (TypesBySkeletons Σ (types_of p.middle.now)) (sym q.equations)
        (types_grow Σ (types_of old.now) (types_of p.middle.now) keeps.grows (spine_equations g.locals q.kind (indices_of old.now g.hole.0) T)
        (spine_types Σ ok (types_of old.now) g.locals (parts_typed Σ ok old.now g w).0 g.family.0 (base g.family.0) q.kind (indices_of old.now g.hole.0) T
        (kind_closed Σ ok (made_with [] old.now) g.locals q.kind (ok.kinds_ok g.family.0 q.kind q.kind_of)) (goal_spine Σ ok old.now g w q.kind q.kind_of)))

    old_types : TypesBySkeletons Σ (types_of p.middle.now) p.middle.now.equations
    old_types = subst (TypesBySkeletons Σ (types_of p.middle.now)) (sym keeps.equations) (types_grow Σ (types_of old.now) (types_of p.middle.now) keeps.grows old.now.equations w.ready.types)

    form : IsWellFormed Σ (offered_store es (with_value p.middle.now g.hole.0 (lambda_over g.locals (root h S))))
    form = offer_form Σ ok (node_of old.now []) g.hole.0 g.locals g.family.0 (indices_of old.now g.hole.0) h A (offered_store es (with_value p.middle.now g.hole.0 (lambda_over g.locals (root h S)))) (length p.middle.now.declared) w.ready.well_formed w.node w.declared w.unbound the_offer

    is_ready : IsReady Σ es (with_value p.middle.now g.hole.0 (lambda_over g.locals (root h S)))
    is_ready = record {
      consistent = consistent_with_value p.middle.now consistent g.hole.0 (lambda_over g.locals (root h S)) unbound;
      well_formed = run_form Σ ok form
          (new_first Σ (types_of p.middle.now) (bindings_of (with_value p.middle.now g.hole.0 (lambda_over g.locals (root h S)))) p.middle.now.equations es).run;
      types = types_both Σ (types_of p.middle.now) es p.middle.now.equations new_types old_types;
    }

    -- THE theorem
    pub is_offered : IsOffered Σ old.now g h es subgoals new.now
    is_offered = subst (IsOffered Σ old.now g h es subgoals) (sym (ap (λ (x : Story). x.now) p.binds)) (record {
      head_type = A;
      offer = the_offer;
      subgoals_are = ap reverse is ∙ holes_unmarked (length old.now.declared) A;
      postponed = keeps.equations;
      well_formed = form;
      ready = is_ready;
    })
