-- What a typed unifier of the store makes of what was elaborated is a completion of what is written.
use Rattle.std.proofs.Common.{◌≡◌, ℕ, zero, suc, List, [], ◌∷◌, Option, Some, refl, sym, ap, ◌∙◌, subst}
use Rattle.std.specs.Prelude.{slice_get}
use Rattle.lf.specs.Entries.{BodyIsTyped, Entry, IsCanonicalSignature, signature_of}
use Rattle.lf.specs.Eta.{add_last, eta_expand, eta_long}
use Rattle.lf.specs.Skeletons.{family_skeletons}
use Rattle.lf.specs.Substitution.{reduce, single, substitute}
use Rattle.lf.specs.Syntax.{Kind, LfType, Skeleton, Spine, Term, app, atom, constant, kind_pi, kind_skeleton, lambda, metavariable, nil, pi, rename, root, skeleton, star, variable, weaken}
use Rattle.lf.specs.Typing.{HasType, IsSignature, IsType, Signature, TypeAt, instantiate_kind, instantiate_type}
use Rattle.lf.specs.Variables.{onto}
use Rattle.lf.proofs.Entries.{canonical_is_signature}
use Rattle.lf_unification.specs.Filling.{fill, fill_spine, fill_type, moved}
use Rattle.lf_unification.specs.Offering.{raised}
use Rattle.lf_unification.specs.OpenTyping.{fill_locals, skeletons_of, under_locals, weaken_past}
use Rattle.lf_unification.specs.Patterns.{beyond}
use Rattle.lf_unification.specs.Unifiers.{Equation}
use Rattle.lf_unification.proofs.Filling.{Filled-single, fill_rename_type, fill_substituted, reduced_fill, skeleton_fill}
use Rattle.lf_unification.proofs.OpenSound.{PartialInstance-of, fill_typed, fill_typed_type}
use Rattle.lf_unification.proofs.OpenTypes.{fill_kind, fill_typed_kind}
use Rattle.lf_unification.proofs.Patterns.{fill_add, fill_expand}
use Rattle.lf_elaboration.specs.Elaboration.{Checks, ElaboratesDomain, ElaboratesFamily, ElaboratesKind, ElaboratesType, Infers, KindTakesNew, TakesNew, takes_none, takes_next, kind_takes_none, kind_takes_next, at_free, at_bound, at_constant, at_definition, at_hole, at_function, at_applied, at_ascribed, checks_hole, checks_function, checks_inferred, at_type_hole, at_arrow, at_quantified, at_family, at_type_ascribed, at_of_skeleton, at_of_type, at_family_name, at_family_applied, at_family_ascribed, at_star, at_kind_arrow, at_kind_quantified}
use Rattle.lf_elaboration.specs.Completions.{Completes, CompletesDomain, CompletesFamily, CompletesKind, CompletesType, FreeValue, KindTakesAny, TakesAny, any_next, any_none, applied_completed, arrow_completed, ascribed_completed, ascribed_type_completed, bound_completed, constant_completed, definition_completed, family_applied_completed, family_ascribed_completed, family_completed, family_name_completed, free_completed, function_completed, hole_completed, kind_any_next, kind_any_none, kind_arrow_completed, kind_quantified_completed, quantified_completed, skeleton_completed, star_completed, type_completed, type_hole_completed}
use Rattle.lf_elaboration.specs.Skeletons.{StateHasSkeletons}
use Rattle.lf_elaboration.specs.State.{State, kind_equations, type_equations, with_equations, with_metavariable}
use Rattle.lf_elaboration.specs.Written.{Place, Written, WrittenDomain, WrittenKind, WrittenType, applied, arrow, family_applied, free, kind_arrow}
use Rattle.lf_elaboration.proofs.Adds.{Grows, adds_equations, adds_metavariable, checks_adds, domain_adds, family_adds, infers_adds, kind_adds, kind_takes_adds, new_type_adds, takes_adds, type_adds}
use Rattle.lf_elaboration.proofs.Meeting.{fill_expand_constant, filled, free_at, free_type_at, in_scope, κ_of}
use Rattle.lf_elaboration.proofs.Skeletons.{entry_typed, kind_declared, type_declared}
use Rattle.lf_unification.specs.OpenTyping.{DeclarationsAreTyped, MetavariablesIn, MetavariablesInSpine, MetavariablesInType, OpenHasType, OpenIsContext, OpenIsType}
use Rattle.lf_unification.specs.PartialInstance.{IsFilling, PartialInstance}
use Rattle.lf_unification.specs.Skeletons.{as_head_skeletons, total_skeletons}
use Rattle.lf_unification.specs.Unifiers.{Solution}
use Rattle.lf_unification.proofs.Filling.{SkeletonsFill, fill_instance}
use Rattle.lf_unification.proofs.Fillings.{fillings_half, solution_fills}
use Rattle.lf_unification.proofs.Generic.{open_skeletons, open_skeletons_spine, open_skeletons_type}
use Rattle.lf_unification.proofs.OpenEta.{exact_open}
use Rattle.lf_unification.proofs.OpenSound.{OpenHasType-sound}
use Rattle.lf_unification.proofs.OpenTypes.{OpenIsType-sound, fill_instance_kind}
use Rattle.lf.specs.SkeletonTyping.{KindBySkeletons, TypeBySkeletons}
use Rattle.lf_elaboration.specs.Kinds.{OpenIsKind}
use Rattle.lf_elaboration.specs.Skeletons.{IsNumbered}
use Rattle.lf_elaboration.specs.State.{store_of}
use Rattle.lf_elaboration.proofs.Completed.{fill_rename_kind}
use Rattle.lf_elaboration.proofs.Equated.{kinds_agree, types_equated}
use Rattle.lf_elaboration.proofs.Had.{new_type_had}
use Rattle.lf_elaboration.proofs.Made.{total_types}
use Rattle.lf_elaboration.proofs.Typed.{StateIsTyped, Within, checks_typed_up_to, domain_typed, family_typed, infers_typed, kind_typed, more_typed, new_raised, new_type_typed, solved_new, takes_typed, type_typed, within_before}
use Rattle.lf_elaboration.proofs.UpTo.{closed_kind_open, closed_term_open, closed_type_open, codomain_typed, kind_instance_typed}

-- nothing is asked of the metavariables
mutual
  in_all : (M : Term) → MetavariablesIn (λ m. Unit {0}) M
  in_all (lambda M) = in_all M
  in_all (root (constant c) S) = in_all_spine S
  in_all (root (variable i) S) = in_all_spine S
  in_all (root (metavariable m) S) = (tt, in_all_spine S)

  in_all_spine : (S : Spine) → MetavariablesInSpine (λ m. Unit {0}) S
  in_all_spine nil = tt
  in_all_spine (app M S) = (in_all M, in_all_spine S)

in_all_type : (A : LfType) → MetavariablesInType (λ m. Unit {0}) A
in_all_type (pi A B) = (in_all_type A, in_all_type B)
in_all_type (atom a S) = in_all_spine S

local_filled : (μ : ℕ → Skeleton) (β : ℕ → Option Term) (D : List LfType) (i : ℕ) (A : LfType) → TypeAt (onto D []) i A → TypeAt (onto (fill_locals μ β D) []) i (fill_type μ (under_locals D β) A)
local_filled μ β [] i A g = absurd g
local_filled μ β (B ∷ D) zero A e = ap (fill_type μ (moved suc (under_locals D β))) e ∙ sym (fill_rename_type μ suc (under_locals D β) B)
local_filled μ β (B ∷ D) (suc i) A (C, g, e) = (fill_type μ (under_locals D β) C, local_filled μ β D i C g, ap (fill_type μ (moved suc (under_locals D β))) e ∙ sym (fill_rename_type μ suc (under_locals D β) C))

-- the filled context has as many variables
beyond_filled : (μ : ℕ → Skeleton) (β : ℕ → Option Term) (D : List LfType) → beyond (fill_locals μ β D) ≡ beyond D
beyond_filled μ β [] = refl
beyond_filled μ β (A ∷ D) = ap (λ f i. suc (f i)) (beyond_filled μ β D)

past_filled : (μ : ℕ → Skeleton) (β : ℕ → Option Term) (D : List LfType) (A : LfType) → weaken_past (fill_locals μ β D) A ≡ weaken_past D A
past_filled μ β [] A = refl
past_filled μ β (B ∷ D) A = ap weaken (past_filled μ β D A)

-- z is the last state, and β unifies it
module _ (es : List Entry) (canonical : IsCanonicalSignature es) (z : State) (zs : StateHasSkeletons (signature_of es) z) (zt : StateIsTyped es canonical z.metavariables (IsFilling (signature_of es) [] (store_of z)) (fillings_half (signature_of es) [] (store_of z)) (total_types (signature_of es) z zs) z) (F : List LfType) (β : ℕ → Option Term) (sol : Solution (signature_of es) [] (store_of z) F β) (frees : List ℕ) (values : List FreeValue)
    (fv : (i m : ℕ) → slice_get frees i ≡ Some m → (v : FreeValue) × (slice_get values i ≡ Some v) × (β m ≡ Some v.term) × ((B : LfType) → z.metavariables m ≡ Some B → fill_type (skeletons_of z.metavariables) β B ≡ v.of_type)) where
  abbrev Σ : Signature
  Σ = signature_of es

  abbrev ok : IsSignature (signature_of es)
  ok = canonical_is_signature es canonical

  abbrev Ψ : ℕ → Option LfType
  Ψ = z.metavariables

  abbrev μ : ℕ → Skeleton
  μ = skeletons_of z.metavariables

  abbrev U : (ℕ → Option Term) → Type 0
  U = IsFilling (signature_of es) [] (store_of z)

  abbrev h : (γ : ℕ → Option Term) → IsFilling (signature_of es) [] (store_of z) γ → (G : List LfType) × PartialInstance (signature_of es) [] z.metavariables (λ m. ⊥) G γ
  h = fillings_half (signature_of es) [] (store_of z)

  abbrev d : (m : ℕ) (B : LfType) → z.metavariables m ≡ Some B → TypeBySkeletons (family_skeletons (signature_of es)) (as_head_skeletons (total_skeletons (signature_of es) (skeletons_of z.metavariables))) [] B
  d = total_types (signature_of es) z zs

  abbrev W : State → Type 0
  W s = Within es canonical z.metavariables (IsFilling (signature_of es) [] (store_of z)) (fillings_half (signature_of es) [] (store_of z)) (total_types (signature_of es) z zs) s

  abbrev T : State → Type 0
  T s = StateIsTyped es canonical z.metavariables (IsFilling (signature_of es) [] (store_of z)) (fillings_half (signature_of es) [] (store_of z)) (total_types (signature_of es) z zs) s

  abbrev IsOpen : List LfType → LfType → Type 0
  IsOpen D A = OpenIsType (signature_of es) [] z.metavariables (IsFilling (signature_of es) [] (store_of z)) D A

  abbrev HasOpen : List LfType → Term → LfType → Type 0
  HasOpen D M A = OpenHasType (signature_of es) [] z.metavariables (IsFilling (signature_of es) [] (store_of z)) D M A

  abbrev Locals : List LfType → Type 0
  Locals D = OpenIsContext (signature_of es) [] z.metavariables (IsFilling (signature_of es) [] (store_of z)) D

  u : U β
  u = solution_fills Σ ok [] (store_of z) F β sol

  declarations : DeclarationsAreTyped Σ [] Ψ U
  declarations = record { outer_typed = λ i A g. absurd g; metavariables_typed = zt.types }

  instance_all : PartialInstance Σ [] Ψ (λ m. Unit {0}) F β
  instance_all = PartialInstance-of Σ ok [] Ψ (λ m. Unit {0}) F β sol.0

  -- what they are under the unifier
  abbrev E : List LfType → List LfType
  E D = fill_locals (skeletons_of z.metavariables) β D

  abbrev the_type : List LfType → LfType → LfType
  the_type D A = fill_type (skeletons_of z.metavariables) (under_locals D β) A

  abbrev the_term : List LfType → Term → Term
  the_term D M = fill (skeletons_of z.metavariables) (under_locals D β) M

  abbrev the_spine : List LfType → Spine → Spine
  the_spine D S = fill_spine (skeletons_of z.metavariables) (under_locals D β) S

  abbrev the_kind : List LfType → Kind → Kind
  the_kind D K = fill_kind (skeletons_of z.metavariables) (under_locals D β) K

  pub filled_type : (D : List LfType) (A : LfType) → Locals D → IsOpen D A → IsType Σ (onto (E D) F) (the_type D A)
  filled_type D A l a = OpenIsType-sound Σ ok [] Ψ U (λ m. Unit {0}) F β instance_all declarations u D A l (in_all_type A) a

  filled_term : (D : List LfType) (M : Term) (A : LfType) → Locals D → IsOpen D A → HasOpen D M A → HasType Σ (onto (E D) F) (the_term D M) (the_type D A)
  filled_term D M A l a m = OpenHasType-sound Σ ok [] Ψ U (λ m. Unit {0}) F β instance_all declarations u D M A l a (in_all M) m

  scope : List LfType → List Skeleton
  scope D = in_scope Σ ok F frees values D

  fills : (D : List LfType) → SkeletonsFill (κ_of Σ ok F frees values z) (in_scope Σ ok F frees values D) (under_locals D β)
  fills D = filled Σ ok F frees values z D β sol.0

  instance_filled : (D : List LfType) (A : LfType) (M : Term) (B : LfType) → HasOpen D M A → IsOpen (A ∷ D) B → the_type D (instantiate_type A M B) ≡ instantiate_type (the_type D A) (the_term D M) (the_type (A ∷ D) B)
  instance_filled D A M B m b = fill_instance (κ_of Σ ok F frees values z) (family_skeletons Σ) (in_scope Σ ok F frees values D) (under_locals D β) A M B (fills D) (open_skeletons Σ μ ok Ψ U D _ M A m) (open_skeletons_type Σ μ ok Ψ U (A ∷ D) _ B b)

  kind_skeletons_of : (D : List LfType) (K : Kind) → OpenIsKind Σ Ψ U D K → KindBySkeletons (family_skeletons Σ) (as_head_skeletons (κ_of Σ ok F frees values z)) (in_scope Σ ok F frees values D) K
  kind_skeletons_of D (kind_pi A K) (a, k) = (open_skeletons_type Σ μ ok Ψ U D _ A a, kind_skeletons_of (A ∷ D) K k)
  kind_skeletons_of D star k = tt

  kind_instance_filled : (D : List LfType) (A : LfType) (M : Term) (K : Kind) → HasOpen D M A → OpenIsKind Σ Ψ U (A ∷ D) K → the_kind D (instantiate_kind A M K) ≡ instantiate_kind (the_type D A) (the_term D M) (the_kind (A ∷ D) K)
  kind_instance_filled D A M K m k = fill_instance_kind (κ_of Σ ok F frees values z) (family_skeletons Σ) (in_scope Σ ok F frees values D) (under_locals D β) A M K (fills D) (open_skeletons Σ μ ok Ψ U D _ M A m) (kind_skeletons_of (A ∷ D) K k)

  takes_any : {k : ℕ} {D : List LfType} {A C : LfType} {s s' : State} {S : Spine} → TakesNew k D A s s' S C → IsNumbered s → W s' → Locals D → IsOpen D A → TakesAny es F k (E D) (the_type D A) (the_spine D S) (the_type D C)
  takes_any takes_none n w l a = any_none
  takes_any {D = D} {C = C} (takes_next {k = k} {A = A} {B = B} {s = s} {s' = s'} {S = S} x) n w l (a, b) =
      let g : Grows s (with_metavariable D A s) = adds_metavariable D A s n in
      let w₁ : W (with_metavariable D A s) = within_before es canonical Ψ U h d (with_metavariable D A s) s' (takes_adds x g.numbered) w in
      let m : HasOpen D (raised D A s.next) A = new_raised es canonical Ψ U h d D A s w₁ in
      any_next (filled_term D (raised D A s.next) A l a m) (subst (λ X. TakesAny es F k (E D) X (the_spine D S) (the_type D C)) (instance_filled D A (raised D A s.next) B m b) (takes_any x g.numbered w l (codomain_typed Σ ok Ψ U h d D A (raised D A s.next) B l (a, b) m)))

  kind_takes_any : {k : ℕ} {D : List LfType} {K L : Kind} {s s' : State} {S : Spine} → KindTakesNew k D K s s' S L → IsNumbered s → W s' → Locals D → OpenIsKind Σ Ψ U D K → KindTakesAny es F k (E D) (the_kind D K) (the_spine D S) (the_kind D L)
  kind_takes_any kind_takes_none n w l a = kind_any_none
  kind_takes_any {D = D} {L = L} (kind_takes_next {k = k} {A = A} {K = B} {s = s} {s' = s'} {S = S} x) n w l (a, b) =
      let g : Grows s (with_metavariable D A s) = adds_metavariable D A s n in
      let w₁ : W (with_metavariable D A s) = within_before es canonical Ψ U h d (with_metavariable D A s) s' (kind_takes_adds x g.numbered) w in
      let m : HasOpen D (raised D A s.next) A = new_raised es canonical Ψ U h d D A s w₁ in
      kind_any_next (filled_term D (raised D A s.next) A l a m) (subst (λ X. KindTakesAny es F k (E D) X (the_spine D S) (the_kind D L)) (kind_instance_filled D A (raised D A s.next) B m b) (kind_takes_any x g.numbered w l (kind_instance_typed Σ ok Ψ U h d D A (raised D A s.next) B l (a, b) m)))

  completes_at : {G : List LfType} {M : Written} {R R' : Term} {A A' : LfType} → R ≡ R' → A ≡ A' → Completes es F values G M R A → Completes es F values G M R' A'
  completes_at {G = G} {M = M} {R = R} {A' = A'} p q c = subst (λ x. Completes es F values G M x A') p (subst (Completes es F values G M R) q c)

  free_filled : (D : List LfType) (at : Place) (i m : ℕ) (B : LfType) → slice_get frees i ≡ Some m → Ψ m ≡ Some B → Completes es F values (E D) (free i at) (the_term D (eta_long (skeleton B) (metavariable m))) (the_type D (weaken_past D B))
  free_filled D at i m B f e =
      let (v, p, y, q) = fv i m f in
      completes_at (ap (λ ρ. rename ρ v.term) (beyond_filled μ β D) ∙ sym (free_at Σ ok F frees values z D β m B v.term sol.0 e y))
      (past_filled μ β D v.of_type ∙ ap (weaken_past D) (sym (q B e)) ∙ sym (free_type_at Σ ok F frees values z D β B)) (free_completed p)

  applied_filled : (D : List LfType) (M P : Written) (A B : LfType) (R Q : Term) → HasOpen (A ∷ D) R B → HasOpen D Q A → IsOpen (A ∷ D) B → Completes es F values (E D) M (the_term D (lambda R)) (the_type D (pi A B)) → Completes es F values (E D) P (the_term D Q) (the_type D A) → Completes es F values (E D) (applied M P) (the_term D (substitute reduce (single (skeleton A) Q) R)) (the_type D (instantiate_type A Q B))
  applied_filled D M P A B R Q r q b m p =
      completes_at (ap (λ t. substitute reduce (single t (the_term D Q)) (the_term (A ∷ D) R)) (skeleton_fill μ (under_locals D β) A)
      ∙ sym (fill_substituted (κ_of Σ ok F frees values z) (skeleton A ∷ in_scope Σ ok F frees values D) (in_scope Σ ok F frees values D) (moved suc (under_locals D β)) (under_locals D β) (single (skeleton A) Q) (single (skeleton A) (the_term D Q)) R (skeleton B) (Filled-single (κ_of Σ ok F frees values z) (skeleton A) (in_scope Σ ok F frees values D) (under_locals D β) Q (fills D) (open_skeletons Σ μ ok Ψ U D _ Q A q)) (open_skeletons Σ μ ok Ψ U (A ∷ D) _ R B r)))
      (sym (instance_filled D A Q B q b)) (applied_completed m p)

  -- where two types are compared, both are the same
  compared : (D : List LfType) (X A : LfType) (s : State) → Locals D → IsOpen D X → IsOpen D A → skeleton X ≡ skeleton A → W (with_equations (type_equations Σ D X A) s) → the_type D X ≡ the_type D A
  compared D X A s l x a p w = (types_equated Σ ok Ψ U h d D l X A x a p (solved_new es canonical Ψ U h d (type_equations Σ D X A) s w)).0.1 β u

  kinds_compared : (D : List LfType) (K L : Kind) (s : State) → Locals D → OpenIsKind Σ Ψ U D K → OpenIsKind Σ Ψ U D L → kind_skeleton zero K ≡ kind_skeleton zero L → W (with_equations (kind_equations Σ D K L) s) → the_kind D K ≡ the_kind D L
  kinds_compared D K L s l k y p w = kinds_agree Σ ok Ψ U h d D l K L k y p (solved_new es canonical Ψ U h d (kind_equations Σ D K L) s w) β u

  mutual
    pub infers_filled : {D : List LfType} {M : Written} {s s' : State} {R : Term} {A : LfType} → Infers es frees D M s s' R A → IsNumbered s → W s' → Locals D → T s → Completes es F values (E D) M (the_term D R) (the_type D A)
    infers_filled {D = D} (at_free {at = at} {i = i} {m = m} {B = B} f e) n w l t = free_filled D at i m B f (w.declares m B e)
    infers_filled {D = D} (at_bound {i = i} {A = A} g) n w l t = completes_at (ap (λ t. eta_long t (variable i)) (skeleton_fill μ (under_locals D β) A) ∙ sym (fill_expand μ (skeleton A) (under_locals D β) i nil)) refl (bound_completed (local_filled μ β D i A g))
    infers_filled {D = D} (at_constant {c = c} {e = e} {B = B} {A = A} {S = S} q b x) n w l t =
        let k : Σ.types c ≡ Some B = type_declared es c e B q b in
        completes_at (ap (λ t. eta_expand t (constant c) (the_spine D S)) (skeleton_fill μ (under_locals D β) A) ∙ sym (fill_expand_constant μ (skeleton A) (under_locals D β) c S)) refl
        (constant_completed q b (subst (λ X. TakesAny es F e.implicit (E D) X (the_spine D S) (the_type D A)) (fill_typed_type Σ μ [] (under_locals D β) B (ok.types_ok c B k)) (takes_any x n w l (closed_type_open Σ ok Ψ U h d D B (ok.types_ok c B k)))))
    infers_filled {D = D} (at_definition {c = c} {e = e} {N = N} {B = B} {A = A} {S = S} q b x) n w l t =
        let (k, m) = subst (BodyIsTyped Σ) b (entry_typed es canonical c e q) in
        let o : IsOpen D B = closed_type_open Σ ok Ψ U h d D B k in
        let (t', r, a) = takes_typed es canonical Ψ U h d x n w l o t in
        completes_at (ap (λ y. reduce (skeleton B) y (the_spine D S)) (sym (fill_typed Σ μ [] (under_locals D β) N B m))
        ∙ sym (reduced_fill (κ_of Σ ok F frees values z) (skeleton B) (in_scope Σ ok F frees values D) (under_locals D β) N S (skeleton A) (fills D) (open_skeletons Σ μ ok Ψ U D _ N B (closed_term_open Σ ok Ψ U h d D N B k m)) (open_skeletons_spine Σ μ ok Ψ U D _ S B A (exact_open Σ ok [] Ψ U D S B A r)))) refl
        (definition_completed q b (subst (λ X. TakesAny es F e.implicit (E D) X (the_spine D S) (the_type D A)) (fill_typed_type Σ μ [] (under_locals D β) B k) (takes_any x n w l o)))
    infers_filled {D = D} (at_hole {A = A} {s = s} {s' = s'} x) n w l t =
        let g : Grows s s' = new_type_adds es x n in
        let w' : W s' = within_before es canonical Ψ U h d s' (with_metavariable D A s') (adds_metavariable D A s' g.numbered) w in
        let (t', a) = new_type_typed es canonical Ψ U h d x n w' l t in
        hole_completed (skeleton_fill μ (under_locals D β) A ∙ (new_type_had es canonical [] x).0) (filled_type D A l a) (filled_term D (raised D A s'.next) A l a (new_raised es canonical Ψ U h d D A s' w))
    infers_filled {D = D} (at_function {A = A} {s = s} {s' = s'} {s'' = s''} y i) n w l t =
        let g : Grows s s' = domain_adds es frees y n in
        let w' : W s' = within_before es canonical Ψ U h d s' s'' (infers_adds es frees i g.numbered) w in
        let (t', a) = domain_typed es canonical Ψ U h d frees y n w' l t in
        function_completed (domain_filled y n w' l t) (infers_filled i g.numbered w (l, a) t')
    infers_filled {D = D} (at_applied {M = M} {P = P} {A = A} {B = B} {R = R} {Q = Q} {s = s} {s' = s'} {s'' = s''} i c) n w l t =
        let g : Grows s s' = infers_adds es frees i n in
        let w' : W s' = within_before es canonical Ψ U h d s' s'' (checks_adds es frees c g.numbered) w in
        let (t', r, (a, b)) = infers_typed es canonical Ψ U h d frees i n w' l t in
        let (t'', q) = checks_typed_up_to es canonical Ψ U h d frees c g.numbered w l a t' in
        applied_filled D M P A B R Q r q b (infers_filled i n w' l t) (checks_filled c g.numbered w l a t')
    infers_filled (at_ascribed {s = s} {s' = s'} {s'' = s''} x c) n w l t =
        let g : Grows s s' = type_adds es frees x n in
        let w' : W s' = within_before es canonical Ψ U h d s' s'' (checks_adds es frees c g.numbered) w in
        let (t', a) = type_typed es canonical Ψ U h d frees x n w' l t in
        ascribed_completed (type_filled x n w' l t) (checks_filled c g.numbered w l a t')

    pub checks_filled : {D : List LfType} {M : Written} {A : LfType} {s s' : State} {R : Term} → Checks es frees D M A s s' R → IsNumbered s → W s' → Locals D → IsOpen D A → T s → Completes es F values (E D) M (the_term D R) (the_type D A)
    checks_filled {D = D} (checks_hole {A = A} {s = s} e) n w l a t = hole_completed (skeleton_fill μ (under_locals D β) A ∙ sym e) (filled_type D A l a) (filled_term D (raised D A s.next) A l a (new_raised es canonical Ψ U h d D A s w))
    checks_filled {D = D} (checks_function {d = dom} {A = A} {B = B} {X = X} {s = s} {s' = s'} {s'' = s''} x p c) n w l (a, b) t =
        let g : Grows s s' = domain_adds es frees x n in
        let fs : List Equation = type_equations Σ D X A in
        let i : Grows s' (with_equations fs s') = adds_equations fs s' g.numbered in
        let w₁ : W (with_equations fs s') = within_before es canonical Ψ U h d (with_equations fs s') s'' (checks_adds es frees c i.numbered) w in
        let w' : W s' = within_before es canonical Ψ U h d s' (with_equations fs s') i w₁ in
        let (t', y) = domain_typed es canonical Ψ U h d frees x n w' l t in
        let q = (types_equated Σ ok Ψ U h d D l X A y a p (solved_new es canonical Ψ U h d fs s' w₁)).1 in
        function_completed (subst (CompletesDomain es F values (E D) dom) (compared D X A s' l y a p w₁) (domain_filled x n w' l t)) (checks_filled c i.numbered w (l, a) b (more_typed es canonical Ψ U h d fs s' q t'))
    checks_filled {D = D} (checks_inferred {A = A} {X = X} {s = s} {s' = s'} v i p) n w l a t =
        let g : Grows s s' = infers_adds es frees i n in
        let w' : W s' = within_before es canonical Ψ U h d s' (with_equations (type_equations Σ D X A) s') (adds_equations (type_equations Σ D X A) s' g.numbered) w in
        let (t', r, y) = infers_typed es canonical Ψ U h d frees i n w' l t in
        completes_at refl (compared D X A s' l y a p w) (infers_filled i n w' l t)

    pub type_filled : {D : List LfType} {V : WrittenType} {s s' : State} {A : LfType} → ElaboratesType es frees D V s s' A → IsNumbered s → W s' → Locals D → T s → CompletesType es F values (E D) V (the_type D A)
    type_filled {D = D} (at_type_hole {A = A} x) n w l t = type_hole_completed (skeleton_fill μ (under_locals D β) A ∙ (new_type_had es canonical [] x).0) (filled_type D A l (new_type_typed es canonical Ψ U h d x n w l t).1)
    type_filled {D = D} (at_arrow {U = V} {V = Y} {A = A} {B = B} {s = s} {s' = s'} {s'' = s''} x y) n w l t =
        let g : Grows s s' = type_adds es frees x n in
        let w' : W s' = within_before es canonical Ψ U h d s' s'' (type_adds es frees y g.numbered) w in
        let (t', a) = type_typed es canonical Ψ U h d frees x n w' l t in
        subst (CompletesType es F values (E D) (arrow V Y)) (ap (pi (the_type D A)) (fill_rename_type μ suc (under_locals D β) B)) (arrow_completed (type_filled x n w' l t) (type_filled y g.numbered w l t'))
    type_filled (at_quantified {s = s} {s' = s'} {s'' = s''} x y) n w l t =
        let g : Grows s s' = domain_adds es frees x n in
        let w' : W s' = within_before es canonical Ψ U h d s' s'' (type_adds es frees y g.numbered) w in
        let (t', a) = domain_typed es canonical Ψ U h d frees x n w' l t in
        quantified_completed (domain_filled x n w' l t) (type_filled y g.numbered w (l, a) t')
    type_filled (at_family f) n w l t = family_completed (family_filled f n w l t)
    type_filled (at_type_ascribed x) n w l t = ascribed_type_completed (type_filled x n w l t)

    domain_filled : {D : List LfType} {y : WrittenDomain} {s s' : State} {A : LfType} → ElaboratesDomain es frees D y s s' A → IsNumbered s → W s' → Locals D → T s → CompletesDomain es F values (E D) y (the_type D A)
    domain_filled {D = D} (at_of_skeleton {A = A} x) n w l t = skeleton_completed (skeleton_fill μ (under_locals D β) A ∙ (new_type_had es canonical [] x).0) (filled_type D A l (new_type_typed es canonical Ψ U h d x n w l t).1)
    domain_filled (at_of_type x) n w l t = type_completed (type_filled x n w l t)

    family_filled : {D : List LfType} {V : WrittenType} {s s' : State} {a : ℕ} {S : Spine} {L : Kind} → ElaboratesFamily es frees D V s s' a S L → IsNumbered s → W s' → Locals D → T s → CompletesFamily es F values (E D) V a (the_spine D S) (the_kind D L)
    family_filled {D = D} (at_family_name {a = a} {e = e} {K = K} {L = L} {S = S} q b x) n w l t =
        let k : Σ.kinds a ≡ Some K = kind_declared es a e K q b in
        family_name_completed q b (subst (λ X. KindTakesAny es F e.implicit (E D) X (the_spine D S) (the_kind D L)) (fill_typed_kind Σ μ [] (under_locals D β) K (ok.kinds_ok a K k)) (kind_takes_any x n w l (closed_kind_open Σ ok Ψ U h d D K (ok.kinds_ok a K k))))
    family_filled {D = D} (at_family_applied {U = V} {P = P} {a = a} {S = S} {A = A} {K = L} {Q = Q} {s = s} {s' = s'} {s'' = s''} f c) n w l t =
        let g : Grows s s' = family_adds es frees f n in
        let w' : W s' = within_before es canonical Ψ U h d s' s'' (checks_adds es frees c g.numbered) w in
        let (t', r, (a', k)) = family_typed es canonical Ψ U h d frees f n w' l t in
        let (t'', q) = checks_typed_up_to es canonical Ψ U h d frees c g.numbered w l a' t' in
        subst (λ X. CompletesFamily es F values (E D) (family_applied V P) a X (the_kind D (instantiate_kind A Q L))) (sym (fill_add μ (under_locals D β) S Q))
        (subst (CompletesFamily es F values (E D) (family_applied V P) a (add_last (the_spine D S) (the_term D Q))) (sym (kind_instance_filled D A Q L q k)) (family_applied_completed (family_filled f n w' l t) (checks_filled c g.numbered w l a' t')))
    family_filled {D = D} (at_family_ascribed {k = k} {A = A} {K = K} {L = L} {s = s} {s' = s'} {s'' = s''} x f p) n w l t =
        let g : Grows s s' = kind_adds es frees x n in
        let i : Grows s' s'' = family_adds es frees f g.numbered in
        let fs : List Equation = kind_equations Σ D (kind_pi A K) L in
        let j : Grows s'' (with_equations fs s'') = adds_equations fs s'' i.numbered in
        let w₂ : W s'' = within_before es canonical Ψ U h d s'' (with_equations fs s'') j w in
        let w₁ : W s' = within_before es canonical Ψ U h d s' s'' i w₂ in
        let (t', y) = kind_typed es canonical Ψ U h d frees x n w₁ l t in
        let (t'', r, v) = family_typed es canonical Ψ U h d frees f g.numbered w₂ l t' in
        let e : the_kind D L ≡ the_kind D (kind_pi A K) = sym (kinds_compared D (kind_pi A K) L s'' l v y p w) in
        family_ascribed_completed (subst (CompletesKind es F values (E D) k) e (kind_filled x n w₁ l t)) (family_filled f g.numbered w₂ l t')

    pub kind_filled : {D : List LfType} {k : WrittenKind} {s s' : State} {K : Kind} → ElaboratesKind es frees D k s s' K → IsNumbered s → W s' → Locals D → T s → CompletesKind es F values (E D) k (the_kind D K)
    kind_filled at_star n w l t = star_completed
    kind_filled {D = D} (at_kind_arrow {U = V} {k = k} {A = A} {K = K} {s = s} {s' = s'} {s'' = s''} x y) n w l t =
        let g : Grows s s' = type_adds es frees x n in
        let w' : W s' = within_before es canonical Ψ U h d s' s'' (kind_adds es frees y g.numbered) w in
        let (t', a) = type_typed es canonical Ψ U h d frees x n w' l t in
        subst (CompletesKind es F values (E D) (kind_arrow V k)) (ap (kind_pi (the_type D A)) (fill_rename_kind μ suc (under_locals D β) K)) (kind_arrow_completed (type_filled x n w' l t) (kind_filled y g.numbered w l t'))
    kind_filled (at_kind_quantified {s = s} {s' = s'} {s'' = s''} x y) n w l t =
        let g : Grows s s' = domain_adds es frees x n in
        let w' : W s' = within_before es canonical Ψ U h d s' s'' (kind_adds es frees y g.numbered) w in
        let (t', a) = domain_typed es canonical Ψ U h d frees x n w' l t in
        kind_quantified_completed (domain_filled x n w' l t) (kind_filled y g.numbered w (l, a) t')
