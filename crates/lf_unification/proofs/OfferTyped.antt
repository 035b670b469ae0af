-- What is offered to a well-formed store is well formed.
use Rattle.std.proofs.Common.{◌≡◌, ℕ, suc, List, [], ◌∷◌, Option, Some, None, refl, subst}
use Rattle.lf.specs.Syntax.{Spine, Term, LfType, app, atom, lambda, metavariable, nil, pi, skeleton}
use Rattle.lf.specs.Typing.{IsSignature, Signature, instantiate_type}
use Rattle.lf_unification.specs.Dependency.{IsListed, ListedMetavariable}
use Rattle.lf_unification.specs.Offering.{MetavariablesInLocals, AppliesToNew, applied_to_all, lambda_over, pi_over, applied_to_next, raised}
use Rattle.lf_unification.specs.OpenTyping.{Declares, MetavariablesInSpine, MetavariablesInType, OpenHasType, OpenIsContext, OpenIsType, OpenSpineType, set_at, skeletons_of}
use Rattle.lf_unification.specs.PartialInstance.{IsFilling, PartialInstance}
use Rattle.lf_unification.specs.Scope.{IsScoped}
use Rattle.lf_unification.specs.Solving.{IsWellFormed}
use Rattle.lf_unification.specs.Unifiers.{Binding, Equation, Store}
use Rattle.lf_unification.proofs.Agree.{set_here}
use Rattle.lf_unification.proofs.Declare.{IsBehind, behind_insert, behind_listed, declare_context, declare_form, declare_grows, declare_scoped, declare_term, declare_type, new_behind, type_behind}
use Rattle.lf_unification.proofs.Fillings.{fillings_half}
use Rattle.lf_unification.proofs.Generic.{open_skeletons_type, ordered_at}
use Rattle.lf_unification.proofs.Offer.{in_local_weaker}
use Rattle.lf_unification.proofs.OpenEta.{expand_open}
use Rattle.lf_unification.proofs.OpenSubstitution.{instance_typed}
use Rattle.lf_unification.proofs.Place.{insert, insert_listed}
use Rattle.lf_unification.proofs.PruneTyped.{all_of, close_pi, types_in}
use Rattle.lf_unification.proofs.Raise.{expand_pis}
use Rattle.lf_unification.proofs.Scope.{in_instance, in_raised, in_weaker_type}
use Rattle.lf_unification.proofs.Steps.{in_pi_over}

-- under the lambdas of D
pub open_body : (Σ : Signature) (Ψ : ℕ → Option LfType) (U : (ℕ → Option Term) → Type 0) (D : List LfType) (M : Term) (B : LfType) → OpenHasType Σ [] Ψ U [] (lambda_over D M) (pi_over D B) → OpenHasType Σ [] Ψ U D M B
open_body Σ Ψ U [] M B m = m
open_body Σ Ψ U (A ∷ D) M B m = open_body Σ Ψ U D (lambda M) (pi A B) m

module _ (Σ : Signature) (ok : IsSignature Σ) (bs : List Binding) (es : List Equation) (g : ℕ) (D : List LfType) where
  abbrev pub stored : (ℕ → Option LfType) → Store
  stored Ψ = record { metavariables = Ψ; bindings = bs; equations = es }

  abbrev pub FillingOf : (ℕ → Option LfType) → (ℕ → Option Term) → Type 0
  FillingOf Ψ = IsFilling Σ [] (record { metavariables = Ψ; bindings = bs; equations = es })

  -- a head of type A under D, where D and A depend on what stands behind g only
  pub record HeadIs (Ψ : ℕ → Option LfType) (n : ℕ) (A : LfType) (w : IsWellFormed Σ (stored Ψ)) : Type 0 where
    pub scoped : IsScoped Ψ n bs es
    pub listed : IsListed w.order g
    pub locals_behind : MetavariablesInLocals (IsBehind g w.order) D
    pub type_is_behind : MetavariablesInType (IsBehind g w.order) A
    pub context : OpenIsContext Σ [] Ψ (FillingOf Ψ) D
    pub typed : OpenIsType Σ [] Ψ (FillingOf Ψ) D A

  -- what is offered
  pub record Outcome (Ψ Ψ' : ℕ → Option LfType) (n' : ℕ) (A : LfType) (S : Spine) (a : ℕ) (T : Spine) (w : IsWellFormed Σ (stored Ψ)) : Type 0 where
    pub form : IsWellFormed Σ (stored Ψ')
    pub head : HeadIs Ψ' n' (atom a T) form
    pub spine : OpenSpineType Σ [] Ψ' (FillingOf Ψ') D S A (atom a T)
    pub spine_behind : MetavariablesInSpine (IsBehind g form.order) S
    pub grows : (m : ℕ) (B : LfType) → Ψ m ≡ Some B → Ψ' m ≡ Some B
    pub grow_term : (M : Term) (B : LfType) → MetavariablesInLocals (Declares Ψ) D → MetavariablesInType (Declares Ψ) B → OpenHasType Σ [] Ψ (FillingOf Ψ) D M B → OpenHasType Σ [] Ψ' (FillingOf Ψ') D M B
    pub grow_type : (E : List LfType) (B : LfType) → MetavariablesInLocals (Declares Ψ) E → MetavariablesInType (Declares Ψ) B → OpenIsType Σ [] Ψ (FillingOf Ψ) E B → OpenIsType Σ [] Ψ' (FillingOf Ψ') E B
    pub grow_behind : (k : ℕ) → IsBehind g w.order k → IsBehind g form.order k

  declared_behind : (Ψ : ℕ → Option LfType) (w : IsWellFormed Σ (stored Ψ)) (k : ℕ) → IsBehind g w.order k → Declares Ψ k
  declared_behind Ψ w k b = let r = ordered_at Σ (skeletons_of Ψ) ok Ψ (FillingOf Ψ) w.order w.is_order k (behind_listed g w.order k b) in (r.0, r.1)

  -- one quantifier: the new metavariable n has its domain as type, and the codomain with it put in is what is left
  module _ (Ψ Ψ' : ℕ → Option LfType) (n n' a : ℕ) (B C : LfType) (S T : Spine) (w : IsWellFormed Σ (stored Ψ)) (h : HeadIs Ψ n (pi B C) w) where
    pub D_in : MetavariablesInLocals (Declares Ψ) D
    D_in = in_local_weaker (IsBehind g w.order) (Declares Ψ) (declared_behind Ψ w) D h.locals_behind

    pub B_in : MetavariablesInType (Declares Ψ) B
    B_in = in_weaker_type (IsBehind g w.order) (Declares Ψ) (declared_behind Ψ w) B h.type_is_behind.0

    pub C_in : MetavariablesInType (Declares Ψ) C
    C_in = in_weaker_type (IsBehind g w.order) (Declares Ψ) (declared_behind Ψ w) C h.type_is_behind.1

    pub P_in : MetavariablesInType (Declares Ψ) (pi_over D B)
    P_in = in_pi_over (Declares Ψ) D B D_in B_in

    pub P_typed : OpenIsType Σ [] Ψ (FillingOf Ψ) [] (pi_over D B)
    P_typed = close_pi Σ ok Ψ (FillingOf Ψ) w.typed.declarations_typed (fillings_half Σ [] (stored Ψ)) D B h.context h.typed.0

    abbrev Ψ₁ : ℕ → Option LfType
    Ψ₁ = set_at n (Some (pi_over D B)) Ψ

    abbrev w₁ : IsWellFormed Σ (stored Ψ₁)
    w₁ = declare_form Σ ok (stored Ψ) n h.scoped (pi_over D B) P_in w P_typed g h.listed (type_behind Σ Ψ (FillingOf Ψ) g (pi_over D B) w.order w.is_order (in_pi_over (IsBehind g w.order) D B h.locals_behind h.type_is_behind.0))

    abbrev new : ListedMetavariable
    new = record { of = n; of_type = pi_over D B; value = None }

    still : (k : ℕ) → IsBehind g w.order k → IsBehind g (insert g new w.order) k
    still k b = behind_insert g new w.order k b

    n_behind : IsBehind g (insert g new w.order) n
    n_behind = new_behind g new w.order h.listed

    context₁ : OpenIsContext Σ [] Ψ₁ (FillingOf Ψ₁) D
    context₁ = declare_context Σ ok (stored Ψ) n h.scoped (pi_over D B) P_in D D_in h.context

    head₁ : OpenIsType Σ [] Ψ₁ (FillingOf Ψ₁) D (pi B C)
    head₁ = declare_type Σ ok (stored Ψ) n h.scoped (pi_over D B) P_in D (pi B C) D_in (B_in, C_in) h.typed

    at_n : Ψ₁ n ≡ Some (pi_over D B)
    at_n = set_here n (Some (pi_over D B)) Ψ

    half₁ : (β : ℕ → Option Term) → FillingOf Ψ₁ β → (F : List LfType) × PartialInstance Σ [] Ψ₁ (λ m. ⊥) F β
    half₁ = fillings_half Σ [] (stored Ψ₁)

    raised_typed : OpenHasType Σ [] Ψ₁ (FillingOf Ψ₁) D (raised D B n) B
    raised_typed = open_body Σ Ψ₁ (FillingOf Ψ₁) D (raised D B n) B (subst (λ M. OpenHasType Σ [] Ψ₁ (FillingOf Ψ₁) [] M (pi_over D B)) (expand_pis D B n)
        (expand_open Σ ok [] Ψ₁ (FillingOf Ψ₁) (skeleton (pi_over D B)) [] [] (metavariable n) nil (pi_over D B) (pi_over D B) refl (open_skeletons_type Σ (skeletons_of Ψ₁) ok Ψ₁ (FillingOf Ψ₁) [] [] (pi_over D B) (w₁.typed.declarations_typed.metavariables_typed n (pi_over D B) at_n)) (pi_over D B, at_n, refl) refl))

    left_typed : OpenIsType Σ [] Ψ₁ (FillingOf Ψ₁) D (instantiate_type B (raised D B n) C)
    left_typed = instance_typed Σ ok Ψ₁ (FillingOf Ψ₁) w₁.typed.declarations_typed half₁ D B (raised D B n) C
        (λ i X x. all_of Σ ok Ψ₁ (FillingOf Ψ₁) w₁.typed.declarations_typed half₁ D X (types_in Σ ok Ψ₁ (FillingOf Ψ₁) w₁.typed.declarations_typed half₁ D context₁ i X x))
        (all_of Σ ok Ψ₁ (FillingOf Ψ₁) w₁.typed.declarations_typed half₁ D (pi B C) head₁) raised_typed head₁.1

    pub next_head : HeadIs Ψ₁ (suc n) (instantiate_type B (raised D B n) C) w₁
    next_head = record {
      scoped = declare_scoped Σ ok (stored Ψ) n h.scoped (pi_over D B) P_in;
      listed = insert_listed g new w.order g h.listed;
      locals_behind = in_local_weaker (IsBehind g w.order) (IsBehind g (insert g new w.order)) still D h.locals_behind;
      type_is_behind = in_instance (IsBehind g (insert g new w.order)) B (raised D B n) C (in_raised (IsBehind g (insert g new w.order)) D B n n_behind) (in_weaker_type (IsBehind g w.order) (IsBehind g (insert g new w.order)) still C h.type_is_behind.1);
      context = context₁;
      typed = left_typed;
    }

    pub next_outcome : Outcome Ψ₁ Ψ' n' (instantiate_type B (raised D B n) C) S a T w₁ → Outcome Ψ Ψ' n' (pi B C) (app (raised D B n) S) a T w
    next_outcome o =
        let grow : (m : ℕ) (X : LfType) → Ψ m ≡ Some X → Ψ₁ m ≡ Some X = declare_grows Σ ok (stored Ψ) n h.scoped (pi_over D B) P_in in
        let kept : (k : ℕ) → Declares Ψ k → Declares Ψ₁ k = λ k d. (d.0, grow k d.0 d.1) in
        record {
          form = o.form;
          head = o.head;
          spine = (o.grow_term (raised D B n) B (in_local_weaker (Declares Ψ) (Declares Ψ₁) kept D D_in) (in_weaker_type (Declares Ψ) (Declares Ψ₁) kept B B_in) raised_typed, o.spine);
          spine_behind = (in_raised (IsBehind g o.form.order) D B n (o.grow_behind n n_behind), o.spine_behind);
          grows = λ m X e. o.grows m X (grow m X e);
          grow_term = λ M X l i m. o.grow_term M X (in_local_weaker (Declares Ψ) (Declares Ψ₁) kept D l) (in_weaker_type (Declares Ψ) (Declares Ψ₁) kept X i) (declare_term Σ ok (stored Ψ) n h.scoped (pi_over D B) P_in D M X l i m);
          grow_type = λ E X l i t. o.grow_type E X (in_local_weaker (Declares Ψ) (Declares Ψ₁) kept E l) (in_weaker_type (Declares Ψ) (Declares Ψ₁) kept X i) (declare_type Σ ok (stored Ψ) n h.scoped (pi_over D B) P_in E X l i t);
          grow_behind = λ k b. o.grow_behind k (still k b);
        }

  -- THE theorem on what is offered
  pub offered_form : {Ψ : ℕ → Option LfType} {n : ℕ} {A : LfType} {Ψ' : ℕ → Option LfType} {n' : ℕ} {S : Spine} {a : ℕ} {T : Spine} → AppliesToNew D Ψ n A Ψ' n' S a T → (w : IsWellFormed Σ (stored Ψ)) → HeadIs Ψ n A w → Outcome Ψ Ψ' n' A S a T w
  offered_form applied_to_all w h = record {
    form = w;
    head = h;
    spine = (refl, λ β u. refl);
    spine_behind = tt;
    grows = λ m B e. e;
    grow_term = λ M B l i m. m;
    grow_type = λ E B l i t. t;
    grow_behind = λ k b. b;
  }
  offered_form (applied_to_next {Ψ = Ψ} {Ψ' = Ψ'} {n = n} {n' = n'} {a = a} {B = B} {C = C} {S = S} {T = T} o) w h =
      next_outcome Ψ Ψ' n n' a B C S T w h (offered_form o (w₁ Ψ Ψ' n n' a B C S T w h) (next_head Ψ Ψ' n n' a B C S T w h))
