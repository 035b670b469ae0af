-- A typed unifier of a solved store is what is read off, with the unifier's own terms for the metavariables that stay free put in.
use Rattle.std.proofs.Common.{◌≡◌, ℕ, zero, suc, List, [], ◌∷◌, Option, Some, None, ◌⊎◌, inl, inr, refl, sym, ap, ap₂, ◌∙◌, subst}
use mathlib.Core.Path.{fun_ext}
use Rattle.lf.specs.SkeletonTyping.{KindBySkeletons, SubstitutionBySkeletons, TermSkeleton}
use Rattle.lf.specs.Skeletons.{context_skeletons, family_skeletons}
use Rattle.lf.specs.Substitution.{Image, keep, lift, put, reduce, single, substitute, substitute_kind, substitute_type}
use Rattle.lf.specs.Syntax.{Kind, LfType, Skeleton, Term, kind_pi, nil, rename, rename_kind, rename_type, skeleton, star, variable}
use Rattle.lf.specs.Typing.{HasType, ImageHasType, IsSignature, IsTypedSubstitution, Signature, TypeAt}
use Rattle.lf.proofs.Eta.{rename_eta_expand, single_eta}
use Rattle.lf.proofs.Renaming.{substitute_identity, substitute_renamed}
use Rattle.lf.proofs.SkeletonTyping.{substitution_keeps_skeletons}
use Rattle.lf.proofs.TypeLaws.{substitute_identity_kind, substitute_identity_type, substitute_renamed_kind, substitute_renamed_type}
use Rattle.lf_unification.specs.Dependency.{IsDependencyOrder, IsListed, ListedMetavariable, ValueIsOrdered, free_context, values}
use Rattle.lf_unification.specs.Filling.{fill, fill_type, moved, rename_value}
use Rattle.lf_unification.specs.OpenTyping.{IsInstance, MetavariablesIn, MetavariablesInType, OpenHasType, OpenIsType, ValueHasType, set_at, skeletons_of}
use Rattle.lf_unification.specs.Patterns.{beyond, eta_variable, local_skeletons}
use Rattle.lf_unification.specs.Skeletons.{TotalSkeletons, as_head_skeletons, total_skeletons}
use Rattle.lf_unification.proofs.Agree.{fill_agree, fill_agree_type, set_here}
use Rattle.lf_unification.proofs.Filling.{Filled, Filled-lift, ValueHasSkeleton, fill_image, fill_substituted, fill_substituted_type, skeleton_fill, substituted_option}
use Rattle.lf_unification.proofs.Generic.{open_skeletons, open_skeletons_type, stage}
use Rattle.lf_unification.proofs.Offer.{decide, set_other}
use Rattle.lf_unification.proofs.OpenSound.{fill_typed}
use Rattle.lf_unification.proofs.Substitution.{typed_substitution_by_skeletons}
use Rattle.lf_unification.proofs.ToSkeletons.{typed_has_skeleton}
use Rattle.lf_elaboration.specs.Kinds.{MetavariablesInKind, OpenIsKind, fill_kind}
use Rattle.lf_elaboration.proofs.SolvedKinds.{fill_agree_kind}

-- an image for the newest variable more
abbrev extended : Image → (ℕ → Image) → ℕ → Image
extended x σ zero = x
extended x σ (suc i) = σ i

-- a term that no renaming changes is changed by no substitution that keeps the variables beyond F
module _ (F : List LfType) (σ : ℕ → Image) (keeps : (i : ℕ) → σ (beyond F i) ≡ keep i) where
  closed_substituted : (M : Term) → ((ρ : ℕ → ℕ) → rename ρ M ≡ M) → substitute reduce σ M ≡ M
  closed_substituted M c = ap (substitute reduce σ) (sym (c (beyond F))) ∙ substitute_renamed reduce σ (beyond F) M ∙ ap (λ τ. substitute reduce τ M) (fun_ext keeps) ∙ substitute_identity reduce M

  closed_substituted_type : (A : LfType) → ((ρ : ℕ → ℕ) → rename_type ρ A ≡ A) → substitute_type reduce σ A ≡ A
  closed_substituted_type A c = ap (substitute_type reduce σ) (sym (c (beyond F))) ∙ substitute_renamed_type reduce σ (beyond F) A ∙ ap (λ τ. substitute_type reduce τ A) (fun_ext keeps) ∙ substitute_identity_type reduce A

  closed_substituted_kind : (K : Kind) → ((ρ : ℕ → ℕ) → rename_kind ρ K ≡ K) → substitute_kind reduce σ K ≡ K
  closed_substituted_kind K c = ap (substitute_kind reduce σ) (sym (c (beyond F))) ∙ substitute_renamed_kind reduce σ (beyond F) K ∙ ap (λ τ. substitute_kind reduce τ K) (fun_ext keeps) ∙ substitute_identity_kind reduce K

-- the newest variable, eta-long, becomes what stands for it
newest_put : (Σ : Signature) (μ : ℕ → Skeleton) (Δ : List Skeleton) (a : Skeleton) (N : Term) (σ : ℕ → Image) → TermSkeleton (as_head_skeletons (total_skeletons Σ μ)) Δ N a → substitute reduce (extended (put a N) σ) (eta_variable a zero) ≡ N
newest_put Σ μ Δ a N σ n =
    let same : rename (λ i. zero) (eta_variable a zero) ≡ eta_variable a zero = rename_eta_expand (λ i. zero) a (variable zero) nil in
    let always : (τ : ℕ → Image) → substitute reduce τ (eta_variable a zero) ≡ substitute reduce (λ i. τ zero) (eta_variable a zero) = λ τ. ap (substitute reduce τ) (sym same) ∙ substitute_renamed reduce τ (λ i. zero) (eta_variable a zero) in
    always (extended (put a N) σ) ∙ sym (always (single a N)) ∙ single_eta (as_head_skeletons (total_skeletons Σ μ)) a Δ N n

fill_substituted_kind : (κ : TotalSkeletons) (φ : ℕ → Option Skeleton) (Γ Δ : List Skeleton) (β β' : ℕ → Option Term) (σ σ' : ℕ → Image) (K : Kind) → Filled κ Γ Δ β β' σ σ' → KindBySkeletons φ (as_head_skeletons κ) Γ K → fill_kind κ.metavariable_skeleton β' (substitute_kind reduce σ K) ≡ substitute_kind reduce σ' (fill_kind κ.metavariable_skeleton β K)
fill_substituted_kind κ φ Γ Δ β β' σ σ' (kind_pi A K) w m = ap₂ kind_pi (fill_substituted_type κ φ Γ Δ β β' σ σ' A w m.0) (fill_substituted_kind κ φ (skeleton A ∷ Γ) (skeleton A ∷ Δ) (moved suc β) (moved suc β') (lift σ) (lift σ') K (Filled-lift κ (skeleton A) Γ Δ β β' σ σ' w) m.1)
fill_substituted_kind κ φ Γ Δ β β' σ σ' star w m = refl

-- F' and β' are a typed instance.
module _ (Σ : Signature) (ok : IsSignature Σ) (Ψ : ℕ → Option LfType) (U : (ℕ → Option Term) → Type 0) (F' : List LfType) (β' : ℕ → Option Term) (inst : IsInstance Σ [] Ψ F' β') where
  abbrev μ : ℕ → Skeleton
  μ = skeletons_of Ψ

  abbrev κ : TotalSkeletons
  κ = total_skeletons Σ μ

  -- The term of the instance for each variable of the context of free metavariables. The variables beyond stay.
  abbrev image_of : Skeleton → Option Term → Image
  image_of a None = keep zero
  image_of a (Some N) = put a N

  abbrev add_image : ℕ → LfType → Option Term → (ℕ → Image) → ℕ → Image
  add_image n A None σ = extended (image_of (skeleton A) (β' n)) σ
  add_image n A (Some N) σ = σ

  abbrev pub images : List ListedMetavariable → ℕ → Image
  images [] = keep
  images (it ∷ is) = add_image it.of it.of_type it.value (images is)

  -- what is read off of the metavariables of the list becomes the instance under the substitution
  pub record Reads (is : List ListedMetavariable) : Type 0 where
    pub becomes : (m : ℕ) → IsListed is m → substituted_option (images is) (values μ is m) ≡ β' m
    pub typed : IsTypedSubstitution Σ (free_context μ is) F' (images is)
    pub plain : (γ : ℕ → Option Term) (i : ℕ) → images is i ≡ fill_image μ γ (images is i)
    pub keeps : (i : ℕ) → images is (beyond (free_context μ is) i) ≡ keep i

  module _ (is : List ListedMetavariable) (order : IsDependencyOrder Σ Ψ U is) (r : Reads is) where
    abbrev F : List LfType
    F = free_context μ is

    abbrev β : ℕ → Option Term
    β = values μ is

    abbrev σ : ℕ → Image
    σ = images is

    abbrev γ : ℕ → Option Term
    γ m = substituted_option (images is) (values μ is m)

    by_skeletons : SubstitutionBySkeletons (as_head_skeletons κ) (context_skeletons F) (context_skeletons F') σ
    by_skeletons = typed_substitution_by_skeletons Σ μ ok F F' σ r.typed

    value_kept : (a : Skeleton) (x : Option Term) → ValueHasSkeleton κ (context_skeletons F) x a → ValueHasSkeleton κ (context_skeletons F') (substituted_option σ x) a
    value_kept a None v = tt
    value_kept a (Some N) v = substitution_keeps_skeletons (as_head_skeletons κ) (context_skeletons F) (context_skeletons F') σ N a by_skeletons v

    filled : Filled κ (context_skeletons F) (context_skeletons F') β γ σ σ
    filled = record {
      by_skeletons = by_skeletons;
      by_skeletons' = by_skeletons;
      fillings = (stage Σ μ ok Ψ U is order).by_skeletons;
      fillings' = λ m. value_kept (μ m) (β m) ((stage Σ μ ok Ψ U is order).by_skeletons m);
      images = r.plain γ;
      values = λ m. refl;
    }

    -- closed open terms and types that mention what is listed
    pub term_read : (U₁ : (ℕ → Option Term) → Type 0) (M : Term) (A : LfType) → OpenHasType Σ [] Ψ U₁ [] M A → MetavariablesIn (IsListed is) M → ((ρ : ℕ → ℕ) → rename ρ M ≡ M) → substitute reduce σ (fill μ β M) ≡ fill μ β' M
    term_read U₁ M A t i c = sym (fill_substituted κ (context_skeletons F) (context_skeletons F') β γ σ σ M (skeleton A) filled (open_skeletons Σ μ ok Ψ U₁ [] (context_skeletons F) M A t))
        ∙ ap (fill μ γ) (closed_substituted F σ r.keeps M c) ∙ fill_agree (IsListed is) μ μ (λ m l. refl) γ β' M r.becomes i

    pub type_read : (U₁ : (ℕ → Option Term) → Type 0) (A : LfType) → OpenIsType Σ [] Ψ U₁ [] A → MetavariablesInType (IsListed is) A → ((ρ : ℕ → ℕ) → rename_type ρ A ≡ A) → substitute_type reduce σ (fill_type μ β A) ≡ fill_type μ β' A
    type_read U₁ A t i c = sym (fill_substituted_type κ (family_skeletons Σ) (context_skeletons F) (context_skeletons F') β γ σ σ A filled (open_skeletons_type Σ μ ok Ψ U₁ [] (context_skeletons F) A t))
        ∙ ap (fill_type μ γ) (closed_substituted_type F σ r.keeps A c) ∙ fill_agree_type (IsListed is) μ μ (λ m l. refl) γ β' A r.becomes i

    kind_skeletons : (U₁ : (ℕ → Option Term) → Type 0) (D : List LfType) (K : Kind) → OpenIsKind Σ Ψ U₁ D K → KindBySkeletons (family_skeletons Σ) (as_head_skeletons κ) (local_skeletons D (context_skeletons F)) K
    kind_skeletons U₁ D (kind_pi A K) (a, k) = (open_skeletons_type Σ μ ok Ψ U₁ D (context_skeletons F) A a, kind_skeletons U₁ (A ∷ D) K k)
    kind_skeletons U₁ D star k = tt

    pub kind_read : (U₁ : (ℕ → Option Term) → Type 0) (K : Kind) → OpenIsKind Σ Ψ U₁ [] K → MetavariablesInKind (IsListed is) K → ((ρ : ℕ → ℕ) → rename_kind ρ K ≡ K) → substitute_kind reduce σ (fill_kind μ β K) ≡ fill_kind μ β' K
    kind_read U₁ K t i c = sym (fill_substituted_kind κ (family_skeletons Σ) (context_skeletons F) (context_skeletons F') β γ σ σ K filled (kind_skeletons U₁ [] K t))
        ∙ ap (fill_kind μ γ) (closed_substituted_kind F σ r.keeps K c) ∙ fill_agree_kind (IsListed is) μ μ (λ m l. refl) γ β' K r.becomes i

  -- the instance has the values of the list, filled
  abbrev pub Follows : List ListedMetavariable → Type 0
  Follows [] = Unit {0}
  Follows (it ∷ is) = ((N : Term) → it.value ≡ Some N → β' it.of ≡ Some (fill μ β' N)) × Follows is

  abbrev Valued : ℕ → LfType → Type 0
  Valued n A = (N : Term) × (β' n ≡ Some N) × HasType Σ F' N (fill_type μ β' A)

  valued : (n : ℕ) (A : LfType) → Ψ n ≡ Some A → Valued n A
  valued n A d = go (Ψ n) (β' n) d refl (inst.typed n)
    where
      go : (x : Option LfType) (y : Option Term) → x ≡ Some A → β' n ≡ y → ValueHasType Σ F' μ β' x y → Valued n A
      go None y d e t = absurd (cc)
      go (Some B) None d e t = absurd t
      go (Some B) (Some N) d e t = (N, e, (let p : B ≡ A = cc in subst (λ X. HasType Σ F' N (fill_type μ β' X)) p t))

  moved_read : (x : Image) (σ : ℕ → Image) (y : Option Term) → substituted_option (extended x σ) (rename_value suc y) ≡ substituted_option σ y
  moved_read x σ None = refl
  moved_read x σ (Some N) = ap Some (substitute_renamed reduce (extended x σ) suc N)

  module _ (is : List ListedMetavariable) (n : ℕ) (A : LfType) (o : IsDependencyOrder Σ Ψ U is) (r : Reads is) (d : Ψ n ≡ Some A) (out : IsListed is n → ⊥) where
    old_listed : {m : ℕ} → (m ≡ n → ⊥) → (m ≡ n) ⊎ IsListed is m → IsListed is m
    old_listed h (inl e) = absurd (h e)
    old_listed h (inr l) = l

    module _ (i : MetavariablesInType (IsListed is) A) (t : OpenIsType Σ [] Ψ U [] A) (c : (ρ : ℕ → ℕ) → rename_type ρ A ≡ A) (N : Term) (e : β' n ≡ Some N) (h : HasType Σ F' N (fill_type μ β' A)) where
      -- the image of the new variable, at its term
      at_term : (P : Image → Type 0) → P (put (skeleton A) N) → P (image_of (skeleton A) (β' n))
      at_term P p = subst (λ y. P (image_of (skeleton A) y)) (sym e) p

      newest : substitute reduce (extended (put (skeleton A) N) (images is)) (eta_variable (skeleton A) zero) ≡ N
      newest = newest_put Σ μ (context_skeletons F') (skeleton A) N (images is) (subst (TermSkeleton (as_head_skeletons κ) (context_skeletons F') N) (skeleton_fill μ β' A) (typed_has_skeleton Σ μ F' N (fill_type μ β' A) h))

      becomes_free : (m : ℕ) → (m ≡ n) ⊎ IsListed is m → (x : Image) → (x ≡ put (skeleton A) N) → substituted_option (extended x (images is)) (set_at n (Some (eta_variable (skeleton A) zero)) (moved suc (values μ is)) m) ≡ β' m
      becomes_free m l x q = go (decide m n)
        where
          go : (m ≡ n) ⊎ (m ≡ n → ⊥) → substituted_option (extended x (images is)) (set_at n (Some (eta_variable (skeleton A) zero)) (moved suc (values μ is)) m) ≡ β' m
          go (inl p) = ap (λ k. substituted_option (extended x (images is)) (set_at n (Some (eta_variable (skeleton A) zero)) (moved suc (values μ is)) k)) p
              ∙ ap (substituted_option (extended x (images is))) (set_here n (Some (eta_variable (skeleton A) zero)) (moved suc (values μ is)))
              ∙ ap (λ z. Some (substitute reduce (extended z (images is)) (eta_variable (skeleton A) zero))) q ∙ ap Some newest ∙ sym e ∙ ap β' (sym p)
          go (inr p) = ap (substituted_option (extended x (images is))) (set_other n (Some (eta_variable (skeleton A) zero)) (moved suc (values μ is)) m p) ∙ moved_read x (images is) (values μ is m) ∙ r.becomes m (old_listed p l)

      typed_free : (x : Image) → (x ≡ put (skeleton A) N) → (i : ℕ) (X : LfType) → TypeAt (fill_type μ (values μ is) A ∷ free_context μ is) i X → ImageHasType Σ F' (extended x (images is) i) (substitute_type reduce (extended x (images is)) X)
      typed_free x q zero X g =
          let p : substitute_type reduce (extended x (images is)) X ≡ fill_type μ β' A
          = ap (substitute_type reduce (extended x (images is))) g ∙ substitute_renamed_type reduce (extended x (images is)) suc (fill_type μ (values μ is) A) ∙ type_read is o r U A t i c in
          subst (λ z. ImageHasType Σ F' z (substitute_type reduce (extended x (images is)) X)) (sym q) (subst (ImageHasType Σ F' (put (skeleton A) N)) (sym p) (skeleton_fill μ β' A, h))
      typed_free x q (suc j) X (C, g, k) = subst (ImageHasType Σ F' (images is j)) (sym (ap (substitute_type reduce (extended x (images is))) k ∙ substitute_renamed_type reduce (extended x (images is)) suc C)) (r.typed j C g)

      plain_free : (γ : ℕ → Option Term) (x : Image) → (x ≡ put (skeleton A) N) → (i : ℕ) → extended x (images is) i ≡ fill_image μ γ (extended x (images is) i)
      plain_free γ x q zero = q ∙ ap (put (skeleton A)) (sym (fill_typed Σ μ F' γ N (fill_type μ β' A) h)) ∙ ap (fill_image μ γ) (sym q)
      plain_free γ x q (suc i) = r.plain γ i

      free_reads : Reads (record { of = n; of_type = A; value = None } ∷ is)
      free_reads =
          let q : image_of (skeleton A) (β' n) ≡ put (skeleton A) N = ap (image_of (skeleton A)) e in
          record {
            becomes = λ m l. becomes_free m l (image_of (skeleton A) (β' n)) q;
            typed = typed_free (image_of (skeleton A) (β' n)) q;
            plain = λ γ. plain_free γ (image_of (skeleton A) (β' n)) q;
            keeps = r.keeps;
          }

    bound_reads : (N : Term) → MetavariablesIn (IsListed is) N → OpenHasType Σ [] Ψ U [] N A → ((ρ : ℕ → ℕ) → rename ρ N ≡ N) → β' n ≡ Some (fill μ β' N) → Reads (record { of = n; of_type = A; value = Some N } ∷ is)
    bound_reads N i t c e = record { becomes = λ m l. go m l (decide m n); typed = r.typed; plain = r.plain; keeps = r.keeps }
      where
        go : (m : ℕ) → (m ≡ n) ⊎ IsListed is m → (m ≡ n) ⊎ (m ≡ n → ⊥) → substituted_option (images is) (set_at n (Some (fill (skeletons_of Ψ) (values (skeletons_of Ψ) is) N)) (values (skeletons_of Ψ) is) m) ≡ β' m
        go m l (inl p) = ap (λ k. substituted_option (images is) (set_at n (Some (fill μ (values μ is) N)) (values μ is) k)) p ∙ ap (substituted_option (images is)) (set_here n (Some (fill μ (values μ is) N)) (values μ is)) ∙ ap Some (term_read is o r U N A t i c) ∙ sym e ∙ ap β' (sym p)
        go m l (inr p) = ap (substituted_option (images is)) (set_other n (Some (fill μ (values μ is) N)) (values μ is) m p) ∙ r.becomes m (old_listed p l)

  pub reads : (is : List ListedMetavariable) → IsDependencyOrder Σ Ψ U is → Follows is → Reads is
  reads [] o f = record { becomes = λ m l. absurd l; typed = λ i A g. absurd g; plain = λ γ i. refl; keeps = λ i. refl }
  reads (it ∷ is) o (f, fs) = go it.value o.6 f (reads is o.0 fs)
    where
      go : (x : Option Term) → ValueIsOrdered Σ Ψ U is it.of_type x → ((N : Term) → x ≡ Some N → β' it.of ≡ Some (fill (skeletons_of Ψ) β' N)) → Reads is → Reads (record { of = it.of; of_type = it.of_type; value = x } ∷ is)
      go None v f r = let (N, e, h) = valued it.of it.of_type o.1 in free_reads is it.of it.of_type o.0 r o.1 o.2 o.3 o.4 o.5 N e h
      go (Some N) v f r = bound_reads is it.of it.of_type o.0 r o.1 o.2 N v.0 v.1 v.2 (f N refl)
