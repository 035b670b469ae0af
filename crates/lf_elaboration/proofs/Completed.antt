-- Each completion of what is written is what a typed unifier of the store makes of what was elaborated.
use Rattle.std.proofs.Common.{◌≡◌, ℕ, zero, suc, List, [], ◌∷◌, Option, Some, None, refl, sym, ap, ap₂, ◌∙◌, subst}
use mathlib.Core.Path.{fun_ext}
use Rattle.std.specs.Prelude.{Bool, slice_get}
use Rattle.lf.specs.Entries.{BodyIsTyped, Entry, IsCanonicalSignature, declare_constant, declare_definition, declare_family, entry, signature_of}
use Rattle.lf.specs.Eta.{add_last, eta_expand, eta_long}
use Rattle.lf.specs.Skeletons.{family_skeletons}
use Rattle.lf.specs.Substitution.{reduce, single, substitute}
use Rattle.lf.specs.Syntax.{Kind, LfType, Skeleton, Spine, Term, app, atom, constant, kind_pi, kind_skeleton, lambda, lift_renaming, metavariable, nil, pi, rename, rename_kind, skeleton, star, variable, weaken}
use Rattle.lf.specs.Typing.{HasType, IsSignature, IsType, Signature, SpineFitsKind, TypeAt, instantiate_kind, instantiate_type}
use Rattle.lf.specs.Variables.{onto}
use Rattle.lf.proofs.Decidability.{variable_type_unique}
use Rattle.lf.proofs.Entries.{canonical_is_signature}
use Rattle.lf.proofs.SkeletonTypes.{single_kind_by_skeletons, single_type_by_skeletons}
use Rattle.lf_unification.specs.Filling.{fill, fill_spine, fill_type, moved}
use Rattle.lf_unification.specs.Offering.{lambda_over, raised, spine_equations}
use Rattle.lf_unification.specs.OpenTyping.{fill_locals, skeletons_of, under_locals, weaken_past}
use Rattle.lf_unification.specs.Patterns.{beyond, local_skeletons}
use Rattle.lf_unification.specs.Unifiers.{Equation, SolvesAll}
use Rattle.lf_unification.proofs.Agree.{set_here}
use Rattle.lf_unification.proofs.EquationLemmas.{solves_followed, spine_solves}
use Rattle.lf_unification.proofs.Filling.{Filled-single, fill_rename_type, fill_substituted, moved_up, reduced_fill, skeleton_fill}
use Rattle.lf_unification.proofs.OpenSound.{PartialInstance-of, fill_typed, fill_typed_type, local_at}
use Rattle.lf_unification.proofs.OpenTypes.{fill_kind, fill_typed_kind}
use Rattle.lf_unification.proofs.Patterns.{fill_add, fill_expand}
use Rattle.lf_elaboration.specs.Elaboration.{Checks, ElaboratesDomain, ElaboratesFamily, ElaboratesKind, ElaboratesType, Infers, KindTakesNew, NewType, TakesAllNew, TakesNew, takes_none, takes_next, kind_takes_none, kind_takes_next, takes_all, takes_first, new_atom, new_pi, at_free, at_bound, at_constant, at_definition, at_hole, at_function, at_applied, at_ascribed, checks_hole, checks_function, checks_inferred, at_type_hole, at_arrow, at_quantified, at_family, at_type_ascribed, at_of_skeleton, at_of_type, at_family_name, at_family_applied, at_family_ascribed, at_star, at_kind_arrow, at_kind_quantified}
use Rattle.lf_elaboration.specs.Completions.{Completes, CompletesDomain, CompletesFamily, CompletesKind, CompletesType, FreeValue, KindTakesAny, TakesAny, any_next, any_none, applied_completed, arrow_completed, ascribed_completed, ascribed_type_completed, bound_completed, constant_completed, definition_completed, family_applied_completed, family_ascribed_completed, family_completed, family_name_completed, free_completed, function_completed, hole_completed, kind_any_next, kind_any_none, kind_arrow_completed, kind_quantified_completed, quantified_completed, skeleton_completed, star_completed, type_completed, type_hole_completed}
use Rattle.lf_elaboration.specs.Skeletons.{EquationsHaveSkeletons, KindHasSkeletons, StateHasSkeletons, TermHasSkeleton, TypeHasSkeletons, heads_of}
use Rattle.lf_elaboration.specs.State.{State, index_equations, kind_equations, type_equations, with_equations, with_metavariable}
use Rattle.lf_elaboration.specs.Written.{Written, WrittenDomain, WrittenKind, WrittenType}
use Rattle.lf_elaboration.proofs.Adds.{Grows, adds_equations, adds_metavariable, adds_then, checks_adds, domain_adds, family_adds, infers_adds, kind_adds, kind_takes_adds, new_type_adds, takes_adds, takes_all_adds, type_adds}
use Rattle.lf_elaboration.proofs.Differing.{differing_solved}
use Rattle.lf_elaboration.proofs.Meeting.{Kept, Meets, fill_expand_constant, filled, free_at, free_type_at, in_scope, instance_at, kept_further, kind_instance_at, kind_kept, meets_on, meets_out, meets_under, new_filling, new_kept, new_meets, new_value, spine_kept, term_kept, total_spine, total_term, type_kept, κ_of}
use Rattle.lf_elaboration.proofs.Once.{IsFamilyForm, family_form}
use Rattle.lf_elaboration.proofs.Skeletons.{checks_skeletons, closed_term_skeleton, constant_type, domain_skeletons, entry_typed, family_skeletons_of, infers_skeletons, kind_closed, kind_declared, kind_equations_have, kind_grows, kind_skeletons, more_equations, new_type_skeletons, raised_skeleton, takes_skeletons, term_grows, type_declared, type_equations_have, type_grows, type_skeletons}

-- equal types solve their equations
module _ (Σ : Signature) (μ : ℕ → Skeleton) (β : ℕ → Option Term) where
  indices_solved : (x : Option Kind) (D : List LfType) (S T : Spine) → fill_spine μ (under_locals D β) S ≡ fill_spine μ (under_locals D β) T → SolvesAll μ β (index_equations Σ x D S T)
  indices_solved None D S T e = tt
  indices_solved (Some K) D S T e = differing_solved μ β (spine_equations D K S T) (spine_solves μ β D K S T e)

  pub types_solved : (D : List LfType) (A X : LfType) → fill_type μ (under_locals D β) A ≡ fill_type μ (under_locals D β) X → SolvesAll μ β (type_equations Σ D A X)
  types_solved D (pi A B) (pi X Y) e =
      let r : pi (fill_type μ (under_locals D β) A) (fill_type μ (moved suc (under_locals D β)) B) ≡ pi (fill_type μ (under_locals D β) X) (fill_type μ (moved suc (under_locals D β)) Y) = e in
      let p : fill_type μ (under_locals D β) A ≡ fill_type μ (under_locals D β) X = cc in
      let q : fill_type μ (moved suc (under_locals D β)) B ≡ fill_type μ (moved suc (under_locals D β)) Y = cc in
      solves_followed μ β (type_equations Σ D A X) (type_equations Σ (A ∷ D) B Y) (types_solved D A X p) (types_solved (A ∷ D) B Y q)
  types_solved D (atom a S) (atom b T) e =
      let p : fill_spine μ (under_locals D β) S ≡ fill_spine μ (under_locals D β) T = (let r : atom a (fill_spine μ (under_locals D β) S) ≡ atom b (fill_spine μ (under_locals D β) T) = e in cc) in
      indices_solved (Σ.kinds a) D S T p
  types_solved D (pi A B) (atom b T) e = tt
  types_solved D (atom a S) (pi X Y) e = tt

  pub kinds_solved : (D : List LfType) (K L : Kind) → fill_kind μ (under_locals D β) K ≡ fill_kind μ (under_locals D β) L → SolvesAll μ β (kind_equations Σ D K L)
  kinds_solved D (kind_pi A K) (kind_pi X L) e =
      let r : kind_pi (fill_type μ (under_locals D β) A) (fill_kind μ (moved suc (under_locals D β)) K) ≡ kind_pi (fill_type μ (under_locals D β) X) (fill_kind μ (moved suc (under_locals D β)) L) = e in
      let p : fill_type μ (under_locals D β) A ≡ fill_type μ (under_locals D β) X = cc in
      let q : fill_kind μ (moved suc (under_locals D β)) K ≡ fill_kind μ (moved suc (under_locals D β)) L = cc in
      solves_followed μ β (type_equations Σ D A X) (kind_equations Σ (A ∷ D) K L) (types_solved D A X p) (kinds_solved (A ∷ D) K L q)
  kinds_solved D (kind_pi A K) star e = tt
  kinds_solved D star L e = tt

pub fill_rename_kind : (μ : ℕ → Skeleton) (ρ : ℕ → ℕ) (β : ℕ → Option Term) (K : Kind) → rename_kind ρ (fill_kind μ β K) ≡ fill_kind μ (moved ρ β) (rename_kind ρ K)
fill_rename_kind μ ρ β (kind_pi A K) = ap₂ kind_pi (fill_rename_type μ ρ β A) (fill_rename_kind μ (lift_renaming ρ) (moved suc β) K ∙ ap (λ f. fill_kind μ f (rename_kind (lift_renaming ρ) K)) (fun_ext (λ m. moved_up ρ (β m))))
fill_rename_kind μ ρ β star = refl

more_context : (D F : List LfType) (i : ℕ) (A : LfType) → TypeAt (onto D []) i A → TypeAt (onto D F) i A
more_context [] F i A g = absurd g
more_context (B ∷ D) F zero A e = e
more_context (B ∷ D) F (suc i) A (C, g, e) = (C, more_context D F i C g, e)

domain_part : {A A' B B' : LfType} → pi A B ≡ pi A' B' → A ≡ A'
domain_part e = cc

codomain_part : {A A' B B' : LfType} → pi A B ≡ pi A' B' → B ≡ B'
codomain_part e = cc

kind_domain_part : {A A' : LfType} {K K' : Kind} → kind_pi A K ≡ kind_pi A' K' → A ≡ A'
kind_domain_part e = cc

kind_rest_part : {A A' : LfType} {K K' : Kind} → kind_pi A K ≡ kind_pi A' K' → K ≡ K'
kind_rest_part e = cc

module _ (es : List Entry) (canonical : IsCanonicalSignature es) (F : List LfType) (frees : List ℕ) (values : List FreeValue) where
  abbrev Σ : Signature
  Σ = signature_of es

  abbrev ok : IsSignature (signature_of es)
  ok = canonical_is_signature es canonical

  abbrev Meeting : State → List LfType → (ℕ → Option Term) → List LfType → Type 0
  Meeting s D β E = Meets Σ ok F frees values s D β E

  abbrev Keeps : State → (ℕ → Option Term) → (ℕ → Option Term) → Type 0
  Keeps s β β' = Kept Σ ok F frees values s β β'

  -- a later filling by which the state behind is met, and what it makes
  pub record Found (s s' : State) (D : List LfType) (β : ℕ → Option Term) (E : List LfType) : Type 0 where
    pub filling : ℕ → Option Term
    pub meets : Meeting s' D filling E
    pub kept : Keeps s β filling

  -- one metavariable, with its value
  pub found_new : (s : State) (D : List LfType) (β : ℕ → Option Term) (E : List LfType) (x : Meeting s D β E) (A : LfType) (a : TypeHasSkeletons Σ s D A) (M : Term) (X : LfType) → HasType Σ (onto E F) M X → fill_type (skeletons_of s.metavariables) (under_locals D β) A ≡ X → (f : Found s (with_metavariable D A s) D β E) × (fill (skeletons_of (with_metavariable D A s).metavariables) (under_locals D f.filling) (raised D A s.next) ≡ M)
  found_new s D β E x A a M X m e =
      let m' : HasType Σ (onto E F) M (fill_type (skeletons_of s.metavariables) (under_locals D β) A) = subst (HasType Σ (onto E F) M) (sym e) m in
      (record { filling = new_filling Σ ok F frees values s D β E x A a M m'; meets = new_meets Σ ok F frees values s D β E x A a M m'; kept = new_kept Σ ok F frees values s D β E x A a M m' }, new_value Σ ok F frees values s D β E x A a M m')

  pub found_new_at : (s : State) (D : List LfType) (β : ℕ → Option Term) (E : List LfType) (x : Meeting s D β E) (A : LfType) (a : TypeHasSkeletons Σ s D A) (M : Term) (X : LfType) (m : HasType Σ (onto E F) M X) (e : fill_type (skeletons_of s.metavariables) (under_locals D β) A ≡ X) → (found_new s D β E x A a M X m e).0.filling s.next ≡ Some (lambda_over D M)
  unfolding found_new
  found_new_at s D β E x A a M X m e = set_here s.next (Some (lambda_over D M)) β

  takes_met : {k : ℕ} {D : List LfType} {A C : LfType} {s s' : State} {S : Spine} → TakesNew k D A s s' S C → (β : ℕ → Option Term) (E : List LfType) (x : Meeting s D β E) → TypeHasSkeletons Σ s D A → {X Z : LfType} {T : Spine} → TakesAny es F k E X T Z → fill_type (skeletons_of s.metavariables) (under_locals D β) A ≡ X →
      (f : Found s s' D β E) × (fill_spine (skeletons_of s'.metavariables) (under_locals D f.filling) S ≡ T) × (fill_type (skeletons_of s'.metavariables) (under_locals D f.filling) C ≡ Z)
  takes_met takes_none β E x a any_none e = (record { filling = β; meets = x; kept = λ m d. refl }, refl, e)
  takes_met {D = D} (takes_next {A = A} {B = B} {C = C} {s = s} {s' = s'} {S = S} t) β E x (a, b) (any_next {A = X} {B = Y} {M = M} m u) e =
      let s₁ : State = with_metavariable D A s in
      let g : Grows s s₁ = adds_metavariable D A s x.state.numbered in
      let (f, v) = found_new s D β E x A a M X m (domain_part e) in
      let r : TermHasSkeleton Σ s₁ D (raised D A s.next) A = raised_skeleton Σ ok D A s in
      let ab : TypeHasSkeletons Σ s₁ D (pi A B) = type_grows Σ ok s s₁ g D (pi A B) (a, b) in
      let ab_kept : fill_type (skeletons_of s.metavariables) (under_locals D β) (pi A B) ≡ fill_type (skeletons_of s₁.metavariables) (under_locals D f.filling) (pi A B) = type_kept Σ ok F frees values s s₁ g x.state β f.filling f.kept D (pi A B) (a, b) in
      let q : fill_type (skeletons_of s₁.metavariables) (under_locals D f.filling) (pi A B) ≡ pi X Y = sym ab_kept ∙ e in
      let n : fill_type (skeletons_of s₁.metavariables) (under_locals D f.filling) (instantiate_type A (raised D A s.next) B) ≡ instantiate_type X M Y
      = instance_at Σ ok F frees values s₁ D f.filling A (raised D A s.next) B f.meets.inst r ab.1
      ∙ ap₂ (λ y z. instantiate_type y z (fill_type (skeletons_of s₁.metavariables) (moved suc (under_locals D f.filling)) B)) (domain_part q) v ∙ ap (instantiate_type X M) (codomain_part q) in
      let next : TypeHasSkeletons Σ s₁ D (instantiate_type A (raised D A s.next) B) = single_type_by_skeletons (family_skeletons Σ) (heads_of Σ s₁) (skeleton A) (local_skeletons D []) (raised D A s.next) B r ab.1 in
      let (f', p, z) = takes_met t f.filling E f.meets next u n in
      let g' : Grows s₁ s' = takes_adds t g.numbered in (
        record { filling = f'.filling; meets = f'.meets; kept = kept_further Σ ok F frees values s s₁ g x.state β f.filling f.kept s' f'.filling f'.kept },
        ap₂ app (sym (term_kept Σ ok F frees values s₁ s' g' f.meets.state f.filling f'.filling f'.kept D (raised D A s.next) A r) ∙ v) p,
        z,
      )

  kind_takes_met : {k : ℕ} {D : List LfType} {K L : Kind} {s s' : State} {S : Spine} → KindTakesNew k D K s s' S L → (β : ℕ → Option Term) (E : List LfType) (x : Meeting s D β E) → KindHasSkeletons Σ s D K → {X Z : Kind} {T : Spine} → KindTakesAny es F k E X T Z → fill_kind (skeletons_of s.metavariables) (under_locals D β) K ≡ X →
      (f : Found s s' D β E) × (fill_spine (skeletons_of s'.metavariables) (under_locals D f.filling) S ≡ T) × (fill_kind (skeletons_of s'.metavariables) (under_locals D f.filling) L ≡ Z)
  kind_takes_met kind_takes_none β E x a kind_any_none e = (record { filling = β; meets = x; kept = λ m d. refl }, refl, e)
  kind_takes_met {D = D} (kind_takes_next {A = A} {K = B} {s = s} {s' = s'} {S = S} t) β E x (a, b) (kind_any_next {A = X} {K = Y} {M = M} m u) e =
      let s₁ : State = with_metavariable D A s in
      let g : Grows s s₁ = adds_metavariable D A s x.state.numbered in
      let (f, v) = found_new s D β E x A a M X m (kind_domain_part e) in
      let r : TermHasSkeleton Σ s₁ D (raised D A s.next) A = raised_skeleton Σ ok D A s in
      let ab : KindHasSkeletons Σ s₁ D (kind_pi A B) = kind_grows Σ ok s s₁ g D (kind_pi A B) (a, b) in
      let q : fill_kind (skeletons_of s₁.metavariables) (under_locals D f.filling) (kind_pi A B) ≡ kind_pi X Y = sym (kind_kept Σ ok F frees values s s₁ g x.state β f.filling f.kept D (kind_pi A B) (a, b)) ∙ e in
      let n : fill_kind (skeletons_of s₁.metavariables) (under_locals D f.filling) (instantiate_kind A (raised D A s.next) B) ≡ instantiate_kind X M Y
      = kind_instance_at Σ ok F frees values s₁ D f.filling A (raised D A s.next) B f.meets.inst r ab.1
      ∙ ap₂ (λ y z. instantiate_kind y z (fill_kind (skeletons_of s₁.metavariables) (moved suc (under_locals D f.filling)) B)) (kind_domain_part q) v ∙ ap (instantiate_kind X M) (kind_rest_part q) in
      let next : KindHasSkeletons Σ s₁ D (instantiate_kind A (raised D A s.next) B) = single_kind_by_skeletons (family_skeletons Σ) (heads_of Σ s₁) (skeleton A) (local_skeletons D []) (raised D A s.next) B r ab.1 in
      let (f', p, z) = kind_takes_met t f.filling E f.meets next u n in
      let g' : Grows s₁ s' = kind_takes_adds t g.numbered in (
        record { filling = f'.filling; meets = f'.meets; kept = kept_further Σ ok F frees values s s₁ g x.state β f.filling f.kept s' f'.filling f'.kept },
        ap₂ app (sym (term_kept Σ ok F frees values s₁ s' g' f.meets.state f.filling f'.filling f'.kept D (raised D A s.next) A r) ∙ v) p,
        z,
      )

  takes_all_met : {D : List LfType} {K : Kind} {s s' : State} {S : Spine} → TakesAllNew D K s s' S → (β : ℕ → Option Term) (E : List LfType) (x : Meeting s D β E) → KindHasSkeletons Σ s D K → (X : Kind) (T : Spine) → SpineFitsKind Σ (onto E F) T X → fill_kind (skeletons_of s.metavariables) (under_locals D β) K ≡ X →
      (f : Found s s' D β E) × (fill_spine (skeletons_of s'.metavariables) (under_locals D f.filling) S ≡ T)
  takes_all_met takes_all β E x k star nil u e = (record { filling = β; meets = x; kept = λ m d. refl }, refl)
  takes_all_met takes_all β E x k star (app M T) u e = absurd u
  takes_all_met takes_all β E x k (kind_pi X Y) T u e = absurd (cc)
  takes_all_met (takes_first t) β E x k star T u e = absurd (cc)
  takes_all_met (takes_first t) β E x k (kind_pi X Y) nil u e = absurd u
  takes_all_met {D = D} (takes_first {A = A} {K = B} {s = s} {s' = s'} {S = S} t) β E x (a, b) (kind_pi X Y) (app M T) (m, u) e =
      let s₁ : State = with_metavariable D A s in
      let g : Grows s s₁ = adds_metavariable D A s x.state.numbered in
      let (f, v) = found_new s D β E x A a M X m (kind_domain_part e) in
      let r : TermHasSkeleton Σ s₁ D (raised D A s.next) A = raised_skeleton Σ ok D A s in
      let ab : KindHasSkeletons Σ s₁ D (kind_pi A B) = kind_grows Σ ok s s₁ g D (kind_pi A B) (a, b) in
      let q : fill_kind (skeletons_of s₁.metavariables) (under_locals D f.filling) (kind_pi A B) ≡ kind_pi X Y = sym (kind_kept Σ ok F frees values s s₁ g x.state β f.filling f.kept D (kind_pi A B) (a, b)) ∙ e in
      let n : fill_kind (skeletons_of s₁.metavariables) (under_locals D f.filling) (instantiate_kind A (raised D A s.next) B) ≡ instantiate_kind X M Y
      = kind_instance_at Σ ok F frees values s₁ D f.filling A (raised D A s.next) B f.meets.inst r ab.1
      ∙ ap₂ (λ y z. instantiate_kind y z (fill_kind (skeletons_of s₁.metavariables) (moved suc (under_locals D f.filling)) B)) (kind_domain_part q) v ∙ ap (instantiate_kind X M) (kind_rest_part q) in
      let next : KindHasSkeletons Σ s₁ D (instantiate_kind A (raised D A s.next) B) = single_kind_by_skeletons (family_skeletons Σ) (heads_of Σ s₁) (skeleton A) (local_skeletons D []) (raised D A s.next) B r ab.1 in
      let (f', p) = takes_all_met t f.filling E f.meets next (instantiate_kind X M Y) T u n in
      let g' : Grows s₁ s' = takes_all_adds t g.numbered in (
        record { filling = f'.filling; meets = f'.meets; kept = kept_further Σ ok F frees values s s₁ g x.state β f.filling f.kept s' f'.filling f'.kept },
        ap₂ app (sym (term_kept Σ ok F frees values s₁ s' g' f.meets.state f.filling f'.filling f'.kept D (raised D A s.next) A r) ∙ v) p,
      )

  -- the most general type is any type of its skeleton
  pub new_type_met : {D : List LfType} {t : Skeleton} {s s' : State} {A : LfType} → NewType es D t s s' A → (β : ℕ → Option Term) (E : List LfType) → Meeting s D β E → (X : LfType) → IsType Σ (onto E F) X → skeleton X ≡ t → (f : Found s s' D β E) × (fill_type (skeletons_of s'.metavariables) (under_locals D f.filling) A ≡ X)
  new_type_met (new_atom e t) β E x (pi X Y) i p = absurd (cc)
  new_type_met (new_pi y z) β E x (atom b T) i p = absurd (cc)
  new_type_met {D = D} (new_atom {a = a} {K = K} {s = s} {S = S} e t) β E x (atom b T) (L, d, u) p =
      let q : b ≡ a = cc in
      let k : L ≡ K = (let r : Some L ≡ Some K = sym d ∙ ap Σ.kinds q ∙ e in cc) in
      let (f, v) = takes_all_met t β E x (kind_closed Σ ok s D K (ok.kinds_ok a K e)) K T (subst (SpineFitsKind Σ (onto E F) T) k u) (fill_typed_kind Σ (skeletons_of s.metavariables) [] (under_locals D β) K (ok.kinds_ok a K e)) in
      (f, ap₂ atom (sym q) v)
  new_type_met {D = D} (new_pi {s = s} {s' = s'} {s'' = s''} {A = A} {B = B} y z) β E x (pi X Y) (i, j) p =
      let (f, v) = new_type_met y β E x X i (let q : skeleton X ≡ _ = cc in q) in
      let g : Grows s s' = new_type_adds es y x.state.numbered in
      let a : TypeHasSkeletons Σ s' D A = (new_type_skeletons es canonical y x.state x.local).1 in
      let (f', w) = new_type_met z f.filling (X ∷ E) (meets_under Σ ok F frees values s' D f.filling E A X f.meets a v) Y j (let q : skeleton Y ≡ _ = cc in q) in
      let g' : Grows s' s'' = new_type_adds es z f.meets.state.numbered in (
        record { filling = f'.filling; meets = meets_out Σ ok F frees values s'' D f'.filling E A X f'.meets; kept = kept_further Σ ok F frees values s s' g x.state β f.filling f.kept s'' f'.filling f'.kept },
        ap₂ pi (sym (type_kept Σ ok F frees values s' s'' g' f.meets.state f.filling f'.filling f'.kept D A a) ∙ v) w,
      )

  abbrev found_then : (s s' s'' : State) (D : List LfType) (β : ℕ → Option Term) (E : List LfType) → Grows s s' → StateHasSkeletons Σ s → (f : Found s s' D β E) → Found s' s'' D f.filling E → Found s s'' D β E
  found_then s s' s'' D β E g w f f' = record { filling = f'.filling; meets = f'.meets; kept = kept_further Σ ok F frees values s s' g w β f.filling f.kept s'' f'.filling f'.kept }

  abbrev found_out : (s s' : State) (D : List LfType) (β : ℕ → Option Term) (E : List LfType) (A X : LfType) → Found s s' (A ∷ D) β (X ∷ E) → Found s s' D β E
  found_out s s' D β E A X f = record { filling = f.filling; meets = meets_out Σ ok F frees values s' D f.filling E A X f.meets; kept = f.kept }

  -- equations that hold
  abbrev found_equations : (s s' : State) (D : List LfType) (β : ℕ → Option Term) (E : List LfType) (fs : List Equation) (f : Found s s' D β E) → EquationsHaveSkeletons Σ s' fs → SolvesAll (skeletons_of s'.metavariables) f.filling fs → Found s (with_equations fs s') D β E
  found_equations s s' D β E fs f k h = record {
    filling = f.filling;
    meets = meets_on Σ ok F frees values s' (with_equations fs s') (adds_equations fs s' f.meets.state.numbered) f.meets.state f.filling f.filling (λ m d. refl) D E f.meets (more_equations Σ ok fs s' k f.meets.state) f.meets.inst (solves_followed (skeletons_of s'.metavariables) f.filling s'.equations fs f.meets.solved h);
    kept = f.kept;
  }

  -- the filled context has as many variables
  beyond_filled : (μ : ℕ → Skeleton) (β : ℕ → Option Term) (D : List LfType) → beyond (fill_locals μ β D) ≡ beyond D
  beyond_filled μ β [] = refl
  beyond_filled μ β (A ∷ D) = ap (λ f i. suc (f i)) (beyond_filled μ β D)

  past_filled : (μ : ℕ → Skeleton) (β : ℕ → Option Term) (D : List LfType) (A : LfType) → weaken_past (fill_locals μ β D) A ≡ weaken_past D A
  past_filled μ β [] A = refl
  past_filled μ β (B ∷ D) A = ap weaken (past_filled μ β D A)

  free_met : (s : State) (D : List LfType) (β : ℕ → Option Term) (E : List LfType) (x : Meeting s D β E) (i m : ℕ) (B : LfType) (v : FreeValue) → slice_get frees i ≡ Some m → s.metavariables m ≡ Some B → slice_get values i ≡ Some v →
      (fill (skeletons_of s.metavariables) (under_locals D β) (eta_long (skeleton B) (metavariable m)) ≡ rename (beyond E) v.term) × (fill_type (skeletons_of s.metavariables) (under_locals D β) (weaken_past D B) ≡ weaken_past E v.of_type)
  free_met s D β E x i m B v f e h =
      let (C, b, y, z) = x.free_values i m v f h in
      let q : C ≡ B = (let p : Some C ≡ Some B = sym b ∙ e in cc) in (
        free_at Σ ok F frees values s D β m B v.term x.inst e y ∙ ap (λ ρ. rename ρ v.term) (sym (beyond_filled (skeletons_of s.metavariables) β D) ∙ ap beyond x.same_local),
        free_type_at Σ ok F frees values s D β B ∙ ap (weaken_past D) (ap (fill_type (skeletons_of s.metavariables) β) (sym q) ∙ z) ∙ sym (past_filled (skeletons_of s.metavariables) β D v.of_type) ∙ ap (λ L. weaken_past L v.of_type) x.same_local,
      )

  bound_met : (s : State) (D : List LfType) (β : ℕ → Option Term) (E : List LfType) (x : Meeting s D β E) (i : ℕ) (A X : LfType) → TypeAt (onto D []) i A → TypeAt (onto E []) i X → fill_type (skeletons_of s.metavariables) (under_locals D β) A ≡ X
  bound_met s D β E x i A X g h = variable_type_unique (onto E F) i (fill_type (skeletons_of s.metavariables) (under_locals D β) A) X
      (subst (λ L. TypeAt (onto L F) i (fill_type (skeletons_of s.metavariables) (under_locals D β) A)) x.same_local (local_at Σ ok [] s.metavariables (λ γ. ⊥) (λ m. Unit {0}) F β (PartialInstance-of Σ ok [] s.metavariables (λ m. Unit {0}) F β x.inst) D i A g))
      (more_context E F i X h)

  skeleton_met : (s : State) (D : List LfType) (β : ℕ → Option Term) (A X : LfType) → fill_type (skeletons_of s.metavariables) (under_locals D β) A ≡ X → skeleton A ≡ skeleton X
  skeleton_met s D β A X e = sym (skeleton_fill (skeletons_of s.metavariables) (under_locals D β) A) ∙ ap skeleton e

  -- a body with its argument put in
  applied_met : (s : State) (D : List LfType) (β : ℕ → Option Term) (E : List LfType) (x : Meeting s D β E) (A B : LfType) (R Q : Term) (X Y : LfType) (T P : Term) → TermHasSkeleton Σ s D (lambda R) (pi A B) → TypeHasSkeletons Σ s D (pi A B) → TermHasSkeleton Σ s D Q A →
      fill (skeletons_of s.metavariables) (under_locals D β) (lambda R) ≡ lambda T → fill_type (skeletons_of s.metavariables) (under_locals D β) (pi A B) ≡ pi X Y → fill (skeletons_of s.metavariables) (under_locals D β) Q ≡ P →
      (fill (skeletons_of s.metavariables) (under_locals D β) (substitute reduce (single (skeleton A) Q) R) ≡ substitute reduce (single (skeleton X) P) T) × (fill_type (skeletons_of s.metavariables) (under_locals D β) (instantiate_type A Q B) ≡ instantiate_type X P Y)
  applied_met s D β E x A B R Q X Y T P r ab q u v p =
      let μ : ℕ → Skeleton = skeletons_of s.metavariables in
      let κ = κ_of Σ ok F frees values s in
      let Γ : List Skeleton = in_scope Σ ok F frees values D in
      let g = filled Σ ok F frees values s D β x.inst in
      let a : skeleton A ≡ skeleton X = skeleton_met s D β A X (domain_part v) in
      let body : fill μ (moved suc (under_locals D β)) R ≡ T = (let z : lambda (fill μ (moved suc (under_locals D β)) R) ≡ lambda T = u in cc) in (
        fill_substituted κ (skeleton A ∷ Γ) Γ (moved suc (under_locals D β)) (under_locals D β) (single (skeleton A) Q) (single (skeleton A) (fill μ (under_locals D β) Q)) R (skeleton B) (Filled-single κ (skeleton A) Γ (under_locals D β) Q g (total_term Σ ok F frees values s D Q A q)) (total_term Σ ok F frees values s D (lambda R) (pi A B) r)
            ∙ ap₂ (λ y z. substitute reduce (single (skeleton A) y) z) p body ∙ ap (λ t. substitute reduce (single t P) T) a,
        instance_at Σ ok F frees values s D β A Q B x.inst q ab.1 ∙ ap₂ (λ y z. instantiate_type y z (fill_type μ (moved suc (under_locals D β)) B)) (domain_part v) p ∙ ap (instantiate_type X P) (codomain_part v),
      )

  one_body : (c : ℕ) (e e' : Entry) → entry es c ≡ Some e → entry es c ≡ Some e' → e' ≡ e
  one_body c e e' q q' = (let p : Some e' ≡ Some e = sym q' ∙ q in cc)

  apart : (c : ℕ) (e e' : Entry) (B : LfType) (N : Term) (B' : LfType) (d : Bool) → entry es c ≡ Some e → e.body ≡ declare_constant B → entry es c ≡ Some e' → e'.body ≡ declare_definition N B' d → ⊥
  apart c e e' B N B' d q b q' b' = (let p : declare_constant B ≡ declare_definition N B' d = sym b ∙ ap (λ x. x.body) (sym (one_body c e e' q q')) ∙ b' in cc)

  completed_form : {E : List LfType} {V : WrittenType} {a : ℕ} {S : Spine} {L : Kind} → CompletesFamily es F values E V a S L → L ≡ star → IsFamilyForm es V
  completed_form (family_name_completed q b t) e = tt
  completed_form (family_applied_completed f c) e = tt
  completed_form (family_ascribed_completed k f) e = absurd (cc)

  mutual
    pub infers_met : {D : List LfType} {M : Written} {s s' : State} {R : Term} {A : LfType} → Infers es frees D M s s' R A → (β : ℕ → Option Term) (E : List LfType) → Meeting s D β E → {T : Term} {X : LfType} → Completes es F values E M T X →
        (f : Found s s' D β E) × (fill (skeletons_of s'.metavariables) (under_locals D f.filling) R ≡ T) × (fill_type (skeletons_of s'.metavariables) (under_locals D f.filling) A ≡ X)
    infers_met {D = D} (at_free {i = i} {m = m} {B = B} {s = s} f e) β E x (free_completed {v = v} h) =
        let (p, q) = free_met s D β E x i m B v f e h in
        (record { filling = β; meets = x; kept = λ m d. refl }, p, q)
    infers_met {D = D} (at_bound {i = i} {A = A} {s = s} g) β E x (bound_completed {A = X} h) =
        let e : fill_type (skeletons_of s.metavariables) (under_locals D β) A ≡ X = bound_met s D β E x i A X g h in
        (record { filling = β; meets = x; kept = λ m d. refl }, fill_expand (skeletons_of s.metavariables) (skeleton A) (under_locals D β) i nil ∙ ap (λ t. eta_long t (variable i)) (skeleton_met s D β A X e), e)
    infers_met {D = D} (at_constant {c = c} {e = e} {B = B} {A = A} {s = s} {s' = s'} {S = S} q b t) β E x (constant_completed {e = e'} {B = B'} {A = X} {S = T} q' b' u) =
        let p : e' ≡ e = one_body c e e' q q' in
        let h : B' ≡ B = (let y : declare_constant B' ≡ declare_constant B = sym b' ∙ ap (λ z. z.body) p ∙ b in cc) in
        let d : Σ.types c ≡ Some B = type_declared es c e B q b in
        let (f, v, w) = takes_met t β E x (constant_type Σ ok s D B (ok.types_ok c B d)) (subst (λ y. TakesAny es F e.implicit E y T X) h (subst (λ y. TakesAny es F y.implicit E B' T X) p u)) (fill_typed_type Σ (skeletons_of s.metavariables) [] (under_locals D β) B (ok.types_ok c B d)) in
        (f, fill_expand_constant (skeletons_of s'.metavariables) (skeleton A) (under_locals D f.filling) c S ∙ ap₂ (λ t y. eta_expand t (constant c) y) (skeleton_met s' D f.filling A X w) v, w)
    infers_met (at_constant {c = c} {e = e} {B = B} q b t) β E x (definition_completed {e = e'} {N = N'} {B = B'} {b = d} q' b' u) = absurd (apart c e e' B N' B' d q b q' b')
    infers_met (at_definition {c = c} {e = e} {N = N} {B = B} {b = d} q b t) β E x (constant_completed {e = e'} {B = B'} q' b' u) = absurd (apart c e' e B' N B d q' b' q b)
    infers_met {D = D} (at_definition {c = c} {e = e} {N = N} {B = B} {A = A} {b = d} {s = s} {s' = s'} {S = S} q b t) β E x (definition_completed {e = e'} {N = N'} {B = B'} {A = X} {b = d'} {S = T} q' b' u) =
        let p : e' ≡ e = one_body c e e' q q' in
        let y : declare_definition N' B' d' ≡ declare_definition N B d = sym b' ∙ ap (λ z. z.body) p ∙ b in
        let h : B' ≡ B = cc in
        let n : N ≡ N' = cc in
        let (k, m) = subst (BodyIsTyped Σ) b (entry_typed es canonical c e q) in
        let (f, v, w) = takes_met t β E x (constant_type Σ ok s D B k) (subst (λ y. TakesAny es F e.implicit E y T X) h (subst (λ y. TakesAny es F y.implicit E B' T X) p u)) (fill_typed_type Σ (skeletons_of s.metavariables) [] (under_locals D β) B k) in
        let (w', r, a) = takes_skeletons Σ ok t x.state x.local (constant_type Σ ok s D B k) in (
          f,
          reduced_fill (κ_of Σ ok F frees values s') (skeleton B) (in_scope Σ ok F frees values D) (under_locals D f.filling) N S (skeleton A) (filled Σ ok F frees values s' D f.filling f.meets.inst) (total_term Σ ok F frees values s' D N B (closed_term_skeleton Σ ok s' D N B m)) (total_spine Σ ok F frees values s' D S (skeleton B) (skeleton A) r)
              ∙ ap₂ (reduce (skeleton B)) (fill_typed Σ (skeletons_of s'.metavariables) [] (under_locals D f.filling) N B m ∙ n) v ∙ ap (λ t. reduce (skeleton t) N' T) (sym h),
          w,
        )
    infers_met {D = D} (at_hole {A = A} {s = s} {s' = s'} t) β E x (hole_completed {R = T} {A = X} p i h) =
        let g : Grows s s' = new_type_adds es t x.state.numbered in
        let (f, v) = new_type_met t β E x X i p in
        let a : TypeHasSkeletons Σ s' D A = (new_type_skeletons es canonical t x.state x.local).1 in
        let (f', w) = found_new s' D f.filling E f.meets A a T X h v in
        (found_then s s' (with_metavariable D A s') D β E g x.state f f', w, sym (type_kept Σ ok F frees values s' (with_metavariable D A s') (adds_metavariable D A s' f.meets.state.numbered) f.meets.state f.filling f'.filling f'.kept D A a) ∙ v)
    infers_met {D = D} (at_function {A = A} {B = B} {R = R} {s = s} {s' = s'} {s'' = s''} d i) β E x (function_completed {A = X} {B = Y} {R = T} d' m) =
        let g : Grows s s' = domain_adds es frees d x.state.numbered in
        let (f, v) = domain_met d β E x d' in
        let a : TypeHasSkeletons Σ s' D A = (domain_skeletons es canonical frees d x.state x.local).1 in
        let (f', p, q) = infers_met i f.filling (X ∷ E) (meets_under Σ ok F frees values s' D f.filling E A X f.meets a v) m in
        let g' : Grows s' s'' = infers_adds es frees i f.meets.state.numbered in
        (found_then s s' s'' D β E g x.state f (found_out s' s'' D f.filling E A X f'), ap lambda p, ap₂ pi (sym (type_kept Σ ok F frees values s' s'' g' f.meets.state f.filling f'.filling f'.kept D A a) ∙ v) q)
    infers_met {D = D} (at_applied {A = A} {B = B} {R = R} {Q = Q} {s = s} {s' = s'} {s'' = s''} i c) β E x (applied_completed {A = X} {B = Y} {R = T} {Q = P} m p) =
        let g : Grows s s' = infers_adds es frees i x.state.numbered in
        let (f, u, v) = infers_met i β E x m in
        let (k, r, ab) = infers_skeletons es canonical frees i x.state x.local in
        let (f', w) = checks_met c f.filling E f.meets ab.0 p (domain_part v) in
        let g' : Grows s' s'' = checks_adds es frees c f.meets.state.numbered in
        let q : TermHasSkeleton Σ s'' D Q A = (checks_skeletons es canonical frees c f.meets.state f.meets.local ab.0).1 in
        let (y, z) = applied_met s'' D f'.filling E f'.meets A B R Q X Y T P (term_grows Σ ok s' s'' g' D (lambda R) (pi A B) r) (type_grows Σ ok s' s'' g' D (pi A B) ab) q
        (sym (term_kept Σ ok F frees values s' s'' g' f.meets.state f.filling f'.filling f'.kept D (lambda R) (pi A B) r) ∙ u) (sym (type_kept Σ ok F frees values s' s'' g' f.meets.state f.filling f'.filling f'.kept D (pi A B) ab) ∙ v) w in
        (found_then s s' s'' D β E g x.state f f', y, z)
    infers_met {D = D} (at_ascribed {A = A} {s = s} {s' = s'} {s'' = s''} t c) β E x (ascribed_completed {A = X} t' m) =
        let g : Grows s s' = type_adds es frees t x.state.numbered in
        let (f, v) = type_met t β E x t' in
        let a : TypeHasSkeletons Σ s' D A = (type_skeletons es canonical frees t x.state x.local).1 in
        let (f', w) = checks_met c f.filling E f.meets a m v in
        let g' : Grows s' s'' = checks_adds es frees c f.meets.state.numbered in
        (found_then s s' s'' D β E g x.state f f', w, sym (type_kept Σ ok F frees values s' s'' g' f.meets.state f.filling f'.filling f'.kept D A a) ∙ v)

    pub checks_met : {D : List LfType} {M : Written} {A : LfType} {s s' : State} {R : Term} → Checks es frees D M A s s' R → (β : ℕ → Option Term) (E : List LfType) → Meeting s D β E → TypeHasSkeletons Σ s D A → {T : Term} {X : LfType} → Completes es F values E M T X → fill_type (skeletons_of s.metavariables) (under_locals D β) A ≡ X →
        (f : Found s s' D β E) × (fill (skeletons_of s'.metavariables) (under_locals D f.filling) R ≡ T)
    checks_met {D = D} (checks_hole {A = A} {s = s} e) β E x a (hole_completed {R = T} {A = X} p i h) v = found_new s D β E x A a T X h v
    checks_met {D = D} (checks_function {A = A} {B = B} {X = Z} {s = s} {s' = s'} {s'' = s''} t e c) β E x (a, b) (function_completed {A = X} {B = Y} t' m) v =
        let g : Grows s s' = domain_adds es frees t x.state.numbered in
        let (f, y) = domain_met t β E x t' in
        let z : TypeHasSkeletons Σ s' D Z = (domain_skeletons es canonical frees t x.state x.local).1 in
        let ab : TypeHasSkeletons Σ s' D (pi A B) = type_grows Σ ok s s' g D (pi A B) (a, b) in
        let v' : fill_type (skeletons_of s'.metavariables) (under_locals D f.filling) (pi A B) ≡ pi X Y = sym (type_kept Σ ok F frees values s s' g x.state β f.filling f.kept D (pi A B) (a, b)) ∙ v in
        let fs : List Equation = type_equations Σ D Z A in
        let f₁ : Found s (with_equations fs s') D β E = found_equations s s' D β E fs f (type_equations_have Σ ok s' D Z A f.meets.local z ab.0 e) (types_solved Σ (skeletons_of s'.metavariables) f.filling D Z A (y ∙ sym (domain_part v'))) in
        let g₁ : Grows s (with_equations fs s') = adds_then s s' (with_equations fs s') (λ n. g) (adds_equations fs s') x.state.numbered in
        let (f', w) = checks_met c f₁.filling (X ∷ E) (meets_under Σ ok F frees values (with_equations fs s') D f₁.filling E A X f₁.meets ab.0 (domain_part v')) ab.1 m (codomain_part v') in
        (found_then s (with_equations fs s') s'' D β E g₁ x.state f₁ (found_out (with_equations fs s') s'' D f₁.filling E A X f'), ap lambda w)
    checks_met {D = D} (checks_inferred {A = A} {X = Z} {s = s} {s' = s'} n i e) β E x a {X = X} m v =
        let g : Grows s s' = infers_adds es frees i x.state.numbered in
        let (f, p, q) = infers_met i β E x m in
        let (k, r, z) = infers_skeletons es canonical frees i x.state x.local in
        let v' : fill_type (skeletons_of s'.metavariables) (under_locals D f.filling) A ≡ X = sym (type_kept Σ ok F frees values s s' g x.state β f.filling f.kept D A a) ∙ v in
        (found_equations s s' D β E (type_equations Σ D Z A) f (type_equations_have Σ ok s' D Z A f.meets.local z (type_grows Σ ok s s' g D A a) e) (types_solved Σ (skeletons_of s'.metavariables) f.filling D Z A (q ∙ sym v')), p)

    pub type_met : {D : List LfType} {V : WrittenType} {s s' : State} {A : LfType} → ElaboratesType es frees D V s s' A → (β : ℕ → Option Term) (E : List LfType) → Meeting s D β E → {X : LfType} → CompletesType es F values E V X → (f : Found s s' D β E) × (fill_type (skeletons_of s'.metavariables) (under_locals D f.filling) A ≡ X)
    type_met (at_type_hole t) β E x {X = X} (type_hole_completed p i) = new_type_met t β E x X i p
    type_met {D = D} (at_arrow {A = A} {B = B} {s = s} {s' = s'} {s'' = s''} y z) β E x (arrow_completed {A = X} {B = Y} u w) =
        let g : Grows s s' = type_adds es frees y x.state.numbered in
        let (f, v) = type_met y β E x u in
        let a : TypeHasSkeletons Σ s' D A = (type_skeletons es canonical frees y x.state x.local).1 in
        let (f', q) = type_met z f.filling E f.meets w in
        let g' : Grows s' s'' = type_adds es frees z f.meets.state.numbered in
        (found_then s s' s'' D β E g x.state f f', ap₂ pi (sym (type_kept Σ ok F frees values s' s'' g' f.meets.state f.filling f'.filling f'.kept D A a) ∙ v) (sym (fill_rename_type (skeletons_of s''.metavariables) suc (under_locals D f'.filling) B) ∙ ap weaken q))
    type_met {D = D} (at_quantified {A = A} {B = B} {s = s} {s' = s'} {s'' = s''} d z) β E x (quantified_completed {A = X} {B = Y} u w) =
        let g : Grows s s' = domain_adds es frees d x.state.numbered in
        let (f, v) = domain_met d β E x u in
        let a : TypeHasSkeletons Σ s' D A = (domain_skeletons es canonical frees d x.state x.local).1 in
        let (f', q) = type_met z f.filling (X ∷ E) (meets_under Σ ok F frees values s' D f.filling E A X f.meets a v) w in
        let g' : Grows s' s'' = type_adds es frees z f.meets.state.numbered in
        (found_then s s' s'' D β E g x.state f (found_out s' s'' D f.filling E A X f'), ap₂ pi (sym (type_kept Σ ok F frees values s' s'' g' f.meets.state f.filling f'.filling f'.kept D A a) ∙ v) q)
    type_met (at_family f) β E x (family_completed u) = let (f', p, q, r) = family_met f β E x u in (f', ap₂ atom p q)
    type_met (at_type_ascribed t) β E x (ascribed_type_completed u) = type_met t β E x u
    type_met (at_family f) β E x (type_hole_completed p i) = absurd (family_form es frees f refl)
    type_met (at_family f) β E x (arrow_completed u w) = absurd (family_form es frees f refl)
    type_met (at_family f) β E x (quantified_completed u w) = absurd (family_form es frees f refl)
    type_met (at_family f) β E x (ascribed_type_completed u) = absurd (family_form es frees f refl)
    type_met (at_type_hole t) β E x (family_completed u) = absurd (completed_form u refl)
    type_met (at_arrow y z) β E x (family_completed u) = absurd (completed_form u refl)
    type_met (at_quantified y z) β E x (family_completed u) = absurd (completed_form u refl)
    type_met (at_type_ascribed t) β E x (family_completed u) = absurd (completed_form u refl)

    domain_met : {D : List LfType} {d : WrittenDomain} {s s' : State} {A : LfType} → ElaboratesDomain es frees D d s s' A → (β : ℕ → Option Term) (E : List LfType) → Meeting s D β E → {X : LfType} → CompletesDomain es F values E d X → (f : Found s s' D β E) × (fill_type (skeletons_of s'.metavariables) (under_locals D f.filling) A ≡ X)
    domain_met (at_of_skeleton t) β E x {X = X} (skeleton_completed p i) = new_type_met t β E x X i p
    domain_met (at_of_type t) β E x (type_completed u) = type_met t β E x u

    family_met : {D : List LfType} {V : WrittenType} {s s' : State} {a : ℕ} {S : Spine} {L : Kind} → ElaboratesFamily es frees D V s s' a S L → (β : ℕ → Option Term) (E : List LfType) → Meeting s D β E → {b : ℕ} {T : Spine} {X : Kind} → CompletesFamily es F values E V b T X →
        (f : Found s s' D β E) × (a ≡ b) × (fill_spine (skeletons_of s'.metavariables) (under_locals D f.filling) S ≡ T) × (fill_kind (skeletons_of s'.metavariables) (under_locals D f.filling) L ≡ X)
    family_met {D = D} (at_family_name {a = a} {e = e} {K = K} {s = s} q b t) β E x (family_name_completed {e = e'} {K = K'} {L = X} {S = T} q' b' u) =
        let p : e' ≡ e = one_body a e e' q q' in
        let h : K' ≡ K = (let y : declare_family K' ≡ declare_family K = sym b' ∙ ap (λ z. z.body) p ∙ b in cc) in
        let d : Σ.kinds a ≡ Some K = kind_declared es a e K q b in
        let (f, v, w) = kind_takes_met t β E x (kind_closed Σ ok s D K (ok.kinds_ok a K d)) (subst (λ y. KindTakesAny es F e.implicit E y T X) h (subst (λ y. KindTakesAny es F y.implicit E K' T X) p u)) (fill_typed_kind Σ (skeletons_of s.metavariables) [] (under_locals D β) K (ok.kinds_ok a K d)) in
        (f, refl, v, w)
    family_met {D = D} (at_family_applied {a = a} {S = S} {A = A} {K = L} {Q = Q} {s = s} {s' = s'} {s'' = s''} y c) β E x (family_applied_completed {S = T} {A = X} {K = Y} {Q = P} u m) =
        let g : Grows s s' = family_adds es frees y x.state.numbered in
        let (f, o, v, w) = family_met y β E x u in
        let (k, (K, d, r), al) = family_skeletons_of es canonical frees y x.state x.local in
        let (f', p) = checks_met c f.filling E f.meets al.0 m (kind_domain_part w) in
        let g' : Grows s' s'' = checks_adds es frees c f.meets.state.numbered in
        let q : TermHasSkeleton Σ s'' D Q A = (checks_skeletons es canonical frees c f.meets.state f.meets.local al.0).1 in
        let al' : KindHasSkeletons Σ s'' D (kind_pi A L) = kind_grows Σ ok s' s'' g' D (kind_pi A L) al in
        let w' : fill_kind (skeletons_of s''.metavariables) (under_locals D f'.filling) (kind_pi A L) ≡ kind_pi X Y = sym (kind_kept Σ ok F frees values s' s'' g' f.meets.state f.filling f'.filling f'.kept D (kind_pi A L) al) ∙ w in (
          found_then s s' s'' D β E g x.state f f',
          o,
          fill_add (skeletons_of s''.metavariables) (under_locals D f'.filling) S Q ∙ ap₂ add_last (sym (spine_kept Σ ok F frees values s' s'' g' f.meets.state f.filling f'.filling f'.kept D S (kind_skeleton a K) (kind_skeleton a (kind_pi A L)) r) ∙ v) p,
          kind_instance_at Σ ok F frees values s'' D f'.filling A Q L f'.meets.inst q al'.1 ∙ ap₂ (λ y z. instantiate_kind y z (fill_kind (skeletons_of s''.metavariables) (moved suc (under_locals D f'.filling)) L)) (kind_domain_part w') p ∙ ap (instantiate_kind X P) (kind_rest_part w'),
        )
    family_met {D = D} (at_family_ascribed {A = A} {K = K} {L = L} {s = s} {s' = s'} {s'' = s''} k y e) β E x (family_ascribed_completed {A = X} {K = Y} k' u) =
        let g : Grows s s' = kind_adds es frees k x.state.numbered in
        let (f, v) = kind_met k β E x k' in
        let l : KindHasSkeletons Σ s' D L = (kind_skeletons es canonical frees k x.state x.local).1 in
        let (f', o, p, w) = family_met y f.filling E f.meets u in
        let g' : Grows s' s'' = family_adds es frees y f.meets.state.numbered in
        let ak : KindHasSkeletons Σ s'' D (kind_pi A K) = (family_skeletons_of es canonical frees y f.meets.state f.meets.local).2 in
        let v' : fill_kind (skeletons_of s''.metavariables) (under_locals D f'.filling) L ≡ kind_pi X Y = sym (kind_kept Σ ok F frees values s' s'' g' f.meets.state f.filling f'.filling f'.kept D L l) ∙ v in
        (found_equations s s'' D β E (kind_equations Σ D (kind_pi A K) L) (found_then s s' s'' D β E g x.state f f') (kind_equations_have Σ ok s'' D (kind_pi A K) L f'.meets.local ak (kind_grows Σ ok s' s'' g' D L l) e) (kinds_solved Σ (skeletons_of s''.metavariables) f'.filling D (kind_pi A K) L (w ∙ sym v')), o, p, w)

    pub kind_met : {D : List LfType} {k : WrittenKind} {s s' : State} {K : Kind} → ElaboratesKind es frees D k s s' K → (β : ℕ → Option Term) (E : List LfType) → Meeting s D β E → {X : Kind} → CompletesKind es F values E k X → (f : Found s s' D β E) × (fill_kind (skeletons_of s'.metavariables) (under_locals D f.filling) K ≡ X)
    kind_met at_star β E x star_completed = (record { filling = β; meets = x; kept = λ m d. refl }, refl)
    kind_met {D = D} (at_kind_arrow {A = A} {K = K} {s = s} {s' = s'} {s'' = s''} y z) β E x (kind_arrow_completed {A = X} {K = Y} u w) =
        let g : Grows s s' = type_adds es frees y x.state.numbered in
        let (f, v) = type_met y β E x u in
        let a : TypeHasSkeletons Σ s' D A = (type_skeletons es canonical frees y x.state x.local).1 in
        let (f', q) = kind_met z f.filling E f.meets w in
        let g' : Grows s' s'' = kind_adds es frees z f.meets.state.numbered in
        (found_then s s' s'' D β E g x.state f f', ap₂ kind_pi (sym (type_kept Σ ok F frees values s' s'' g' f.meets.state f.filling f'.filling f'.kept D A a) ∙ v) (sym (fill_rename_kind (skeletons_of s''.metavariables) suc (under_locals D f'.filling) K) ∙ ap (rename_kind suc) q))
    kind_met {D = D} (at_kind_quantified {A = A} {K = K} {s = s} {s' = s'} {s'' = s''} d z) β E x (kind_quantified_completed {A = X} {K = Y} u w) =
        let g : Grows s s' = domain_adds es frees d x.state.numbered in
        let (f, v) = domain_met d β E x u in
        let a : TypeHasSkeletons Σ s' D A = (domain_skeletons es canonical frees d x.state x.local).1 in
        let (f', q) = kind_met z f.filling (X ∷ E) (meets_under Σ ok F frees values s' D f.filling E A X f.meets a v) w in
        let g' : Grows s' s'' = kind_adds es frees z f.meets.state.numbered in
        (found_then s s' s'' D β E g x.state f (found_out s' s'' D f.filling E A X f'), ap₂ kind_pi (sym (type_kept Σ ok F frees values s' s'' g' f.meets.state f.filling f'.filling f'.kept D A a) ∙ v) q)
