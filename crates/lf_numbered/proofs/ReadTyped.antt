-- What is read is typed.
use Rattle.std.proofs.Common.{◌≡◌, ℕ, zero, suc, List, [], ◌∷◌, Option, Some, None, refl, sym, ap, ◌∙◌, subst}
use Rattle.lf.specs.Syntax.{constant, variable, metavariable, Term, Spine, lambda, root, nil, app, LfType, pi, atom, Skeleton, skeleton, rename_spine, weaken}
use Rattle.lf.specs.Substitution.{Image, keep, put, rename_image, lift, single, apply_image, substitute, substitute_spine, substitute_type, reduce}
use Rattle.lf.specs.Eta.{append}
use Rattle.lf.specs.SkeletonTyping.{SkeletonAt, TermSkeleton, TypeBySkeletons, SubstitutionBySkeletons}
use Rattle.lf.specs.Skeletons.{constant_skeletons, family_skeletons, context_skeletons}
use Rattle.lf.specs.Typing.{Signature, TypeAt, ImageHasType, HasType, SpineType, instantiate_type, IsType, IsSignature}
use Rattle.lf.proofs.Closed.{closed_type_renamed, closed_type_substituted}
use Rattle.lf.proofs.SkeletonTyping.{lift_by_skeletons}
use Rattle.lf.proofs.SkeletonTypes.{renaming_keeps_types_by_skeletons, substitution_keeps_types_by_skeletons, single_type_by_skeletons, substitute_single_type}
use Rattle.lf.proofs.Substitution.{SkeletonType, SkeletonContext, skeleton_context_push, reduction_keeps_typing}
use Rattle.lf.proofs.ToSkeletons.{typed_has_skeleton, type_by_skeletons}
use Rattle.lf.proofs.TypeLaws.{skeleton_renamed, skeleton_substituted, lifted_substitution_weakened_type}
use Rattle.lf.proofs.Weakening.{weakening_renames, renaming_keeps_typing, renaming_keeps_spine_typing}
use Rattle.lf_checks.specs.ModeForms.{argument_count}
use Rattle.lf_coverage.proofs.HeadItems.{length_renamed as count_renamed}
use Rattle.lf_coverage.proofs.Parts.{none_some}
use Rattle.lf_numbered.specs.OwnTerms.{weaken_own, BeginsWith, OnOwnTerms, SpineOnOwnTerms}
use Rattle.lf_numbered.specs.Reading.{drop_arguments, weaken_read, read_constant, read, read_spine, read_type}
use Rattle.lf_numbered.proofs.Reading.{under_read, read_weakened, skeleton_read, read_instance, IsOld, type_only, none_read_type}
use Rattle.lf_numbered.proofs.ReadSkeletons.{ReadsSkeleton, skeleton_under, read_has_skeleton}

-- own arguments that are dropped
pub drop_own : (f : ℕ → Option (ℕ × ℕ)) (U T : Spine) → drop_arguments (argument_count U) (read_spine f (append U T)) ≡ read_spine f T
drop_own f nil T = refl
drop_own f (app M U) T = drop_own f U T

no_more : (M : Term) (S T : Spine) → nil ≡ append (app M S) T → ⊥
no_more M S T e = cc

module _ (Σ Σ₁ Σ' : Signature) (ok : IsSignature Σ) (ok₁ : IsSignature Σ₁) (ok' : IsSignature Σ') (stays : (c : ℕ) (A : LfType) → Σ.types c ≡ Some A → Σ'.types c ≡ Some A) where
  -- a type, read, in the context Δ
  abbrev pub Read : (ℕ → Option (ℕ × ℕ)) → (ℕ → Image) → LfType → LfType
  Read f ρ A = substitute_type reduce ρ (read_type f A)

  abbrev pub Known : List Skeleton → LfType → Type 0
  Known Θ A = TypeBySkeletons (family_skeletons Σ') (constant_skeletons Σ') Θ A

  -- A constant is an old one; or, on its own terms, it has a type, and the variable that it is read as has this type, read.
  abbrev pub ReadsConstant : List LfType → List LfType → (ℕ → Option (ℕ × ℕ)) → (ℕ → Image) → List Skeleton → LfType → ℕ → Option (ℕ × ℕ) → Option Spine → Type 0
  ReadsConstant Γ Δ f ρ Θ P c None u = Σ.types c ≡ Some P
  ReadsConstant Γ Δ f ρ Θ P c (Some (n, v)) None = ⊥
  ReadsConstant Γ Δ f ρ Θ P c (Some (n, v)) (Some U) = (w : ℕ) × (Q : LfType) × (ρ v ≡ keep w) × (argument_count U ≡ n) × SpineType Σ₁ Γ U P Q × TypeAt Δ w (Read f ρ Q) × Known Θ (read_type f Q)

  -- terms over Γ are read by f, and the values ρ in Δ are put in; o has the own terms
  pub record ReadsInto (Γ Δ : List LfType) (f : ℕ → Option (ℕ × ℕ)) (o : ℕ → Option Spine) (ρ : ℕ → Image) (Θ : List Skeleton) : Type 0 where
    pub inside : (i : ℕ) (t : Skeleton) → SkeletonAt (context_skeletons Γ) i t → SkeletonAt Θ i t
    pub fits : SubstitutionBySkeletons (constant_skeletons Σ') Θ (context_skeletons Δ) ρ
    pub heads : (c : ℕ) (t : Skeleton) → (constant_skeletons Σ₁).constant_skeleton c ≡ Some t → ReadsSkeleton (constant_skeletons Σ') Θ (f c) (o c) c t
    pub target : SkeletonContext Σ' ok' Δ
    pub source : (i : ℕ) (A : LfType) → TypeAt Γ i A → Known Θ (read_type f A)
    pub variables : (i : ℕ) (A : LfType) → TypeAt Γ i A → ImageHasType Σ' Δ (ρ i) (Read f ρ A)
    pub old : (c : ℕ) → IsOld Σ c → f c ≡ None
    pub constants : (c : ℕ) (P : LfType) → Σ₁.types c ≡ Some P → ReadsConstant Γ Δ f ρ Θ P c (f c) (o c)

  -- Under a binder
  weakened : (f : ℕ → Option (ℕ × ℕ)) (ρ : ℕ → Image) (A : LfType) → Read (under_read f) (lift ρ) (weaken A) ≡ weaken (Read f ρ A)
  weakened f ρ A = ap (substitute_type reduce (lift ρ)) (read_weakened f A) ∙ lifted_substitution_weakened_type ρ (read_type f A)

  known_weakened : (Θ : List Skeleton) (a : Skeleton) (f : ℕ → Option (ℕ × ℕ)) (A : LfType) → Known Θ (read_type f A) → Known (a ∷ Θ) (read_type (under_read f) (weaken A))
  known_weakened Θ a f A k = subst (Known (a ∷ Θ)) (sym (read_weakened f A)) (renaming_keeps_types_by_skeletons (family_skeletons Σ') (constant_skeletons Σ') Θ (a ∷ Θ) suc (read_type f A) (λ i t g. g) k)

  image_weakened : (Δ : List LfType) (B : LfType) (x : Image) (A : LfType) → ImageHasType Σ' Δ x A → ImageHasType Σ' (B ∷ Δ) (rename_image suc x) (weaken A)
  image_weakened Δ B (keep j) A g = (A, g, refl)
  image_weakened Δ B (put a N) A (e, n) = (skeleton_renamed suc A ∙ e, renaming_keeps_typing Σ' ok' Δ (B ∷ Δ) suc N A (weakening_renames Δ B) n)

  constant_under : (Γ Δ : List LfType) (f : ℕ → Option (ℕ × ℕ)) (ρ : ℕ → Image) (Θ : List Skeleton) (P A : LfType) (c : ℕ) (x : Option (ℕ × ℕ)) (u : Option Spine) → IsType Σ₁ [] P → ReadsConstant Γ Δ f ρ Θ P c x u → ReadsConstant (A ∷ Γ) (Read f ρ A ∷ Δ) (under_read f) (lift ρ) (skeleton A ∷ Θ) P c (weaken_read x) (weaken_own u)
  constant_under Γ Δ f ρ Θ P A c None None p h = h
  constant_under Γ Δ f ρ Θ P A c None (Some U) p h = h
  constant_under Γ Δ f ρ Θ P A c (Some (n, v)) None p h = absurd h
  constant_under Γ Δ f ρ Θ P A c (Some (n, v)) (Some U) p (w, Q, e, l, s, g, k) = (
    suc w,
    weaken Q,
    ap (rename_image suc) e,
    count_renamed suc U ∙ l,
    subst (λ X. SpineType Σ₁ (A ∷ Γ) (rename_spine suc U) X (weaken Q)) (closed_type_renamed Σ₁ suc P p) (renaming_keeps_spine_typing Σ₁ ok₁ Γ (A ∷ Γ) suc U P Q (weakening_renames Γ A) s),
    (Read f ρ Q, g, weakened f ρ Q),
    known_weakened Θ (skeleton A) f Q k,
  )

  skeleton_of_read : (f : ℕ → Option (ℕ × ℕ)) (ρ : ℕ → Image) (A : LfType) → skeleton (Read f ρ A) ≡ skeleton A
  skeleton_of_read f ρ A = skeleton_substituted reduce ρ (read_type f A) ∙ skeleton_read f A

  module _ (Γ Δ : List LfType) (f : ℕ → Option (ℕ × ℕ)) (o : ℕ → Option Spine) (ρ : ℕ → Image) (Θ : List Skeleton) (r : ReadsInto Γ Δ f o ρ Θ) where
    known_read : (A : LfType) → Known Θ (read_type f A) → SkeletonType Σ' ok' Δ (Read f ρ A)
    known_read A k = substitution_keeps_types_by_skeletons (family_skeletons Σ') (constant_skeletons Σ') Θ (context_skeletons Δ) ρ (read_type f A) r.fits k

    under : (A : LfType) → Known Θ (read_type f A) → ReadsInto (A ∷ Γ) (Read f ρ A ∷ Δ) (under_read f) (λ c. weaken_own (o c)) (lift ρ) (skeleton A ∷ Θ)
    under A k = record {
      inside = inside;
      fits = subst (λ a. SubstitutionBySkeletons (constant_skeletons Σ') (skeleton A ∷ Θ) (a ∷ context_skeletons Δ) (lift ρ)) (sym (skeleton_of_read f ρ A)) (lift_by_skeletons (constant_skeletons Σ') (skeleton A) Θ (context_skeletons Δ) ρ r.fits);
      heads = λ c t e. skeleton_under (constant_skeletons Σ') Θ (skeleton A) (f c) (o c) c t (r.heads c t e);
      target = skeleton_context_push Σ' ok' Δ (Read f ρ A) r.target (known_read A k);
      source = source;
      variables = variables;
      old = λ c h. ap weaken_read (r.old c h);
      constants = λ c P e. constant_under Γ Δ f ρ Θ P A c (f c) (o c) (ok₁.types_ok c P e) (r.constants c P e);
    }
      where
        inside : (i : ℕ) (t : Skeleton) → SkeletonAt (skeleton A ∷ context_skeletons Γ) i t → SkeletonAt (skeleton A ∷ Θ) i t
        inside zero t e = e
        inside (suc i) t e = r.inside i t e

        source : (i : ℕ) (B : LfType) → TypeAt (A ∷ Γ) i B → Known (skeleton A ∷ Θ) (read_type (under_read f) B)
        source zero B e = subst (λ X. Known (skeleton A ∷ Θ) (read_type (under_read f) X)) (sym e) (known_weakened Θ (skeleton A) f A k)
        source (suc i) B (C, g, e) = subst (λ X. Known (skeleton A ∷ Θ) (read_type (under_read f) X)) (sym e) (known_weakened Θ (skeleton A) f C (r.source i C g))

        variables : (i : ℕ) (B : LfType) → TypeAt (A ∷ Γ) i B → ImageHasType Σ' (Read f ρ A ∷ Δ) (lift ρ i) (Read (under_read f) (lift ρ) B)
        variables zero B e = ap (Read (under_read f) (lift ρ)) e ∙ weakened f ρ A
        variables (suc i) B (C, g, e) = subst (ImageHasType Σ' (Read f ρ A ∷ Δ) (rename_image suc (ρ i))) (sym (ap (Read (under_read f) (lift ρ)) e ∙ weakened f ρ C)) (image_weakened Δ (Read f ρ A) (ρ i) (Read f ρ C) (r.variables i C g))

    -- the instance of a type
    module _ (A : LfType) (M : Term) (B : LfType) (m : HasType Σ₁ Γ M A) (own : OnOwnTerms o M) (k : Known (skeleton (read_type f A) ∷ Θ) (read_type (under_read f) B)) where
      term_known : TermSkeleton (constant_skeletons Σ') Θ (read f M) (skeleton (read_type f A))
      term_known = subst (TermSkeleton (constant_skeletons Σ') Θ (read f M)) (sym (skeleton_read f A)) (read_has_skeleton (constant_skeletons Σ₁) (constant_skeletons Σ') (λ j t e. none_some e) (context_skeletons Γ) Θ f o M (skeleton A) r.inside r.heads (typed_has_skeleton Σ₁ Γ M A m) own)

      instance_read : Read f ρ (instantiate_type A M B) ≡ instantiate_type (Read f ρ A) (substitute reduce ρ (read f M)) (Read (under_read f) (lift ρ) B)
      instance_read =
          ap (substitute_type reduce ρ) (read_instance f A M B)
          ∙ substitute_single_type (family_skeletons Σ') (constant_skeletons Σ') Θ (context_skeletons Δ) ρ (skeleton (read_type f A)) (read f M) (read_type (under_read f) B) r.fits term_known k
          ∙ ap (λ a. substitute_type reduce (single a (substitute reduce ρ (read f M))) (Read (under_read f) (lift ρ) B)) (sym (skeleton_substituted reduce ρ (read_type f A)))

      instance_known : Known Θ (read_type f (instantiate_type A M B))
      instance_known = subst (Known Θ) (sym (read_instance f A M B)) (single_type_by_skeletons (family_skeletons Σ') (constant_skeletons Σ') (skeleton (read_type f A)) Θ (read f M) (read_type (under_read f) B) term_known k)

    old_read : (c : ℕ) (P : LfType) → Σ.types c ≡ Some P → read_type f P ≡ P
    old_read c P e = none_read_type (IsOld Σ) f P r.old (type_only Σ [] P (ok.types_ok c P e))

    old_closed : (c : ℕ) (P : LfType) → Σ.types c ≡ Some P → Read f ρ P ≡ P
    old_closed c P e = ap (substitute_type reduce ρ) (old_read c P e) ∙ closed_type_substituted Σ reduce ρ P (ok.types_ok c P e)

    old_known : (c : ℕ) (P : LfType) → Σ.types c ≡ Some P → Known Θ (read_type f P)
    old_known c P e = subst (Known Θ) (sym (old_read c P e)) (subst (Known Θ) (closed_type_renamed Σ' (λ i. i) P (ok'.types_ok c P (stays c P e))) (renaming_keeps_types_by_skeletons (family_skeletons Σ') (constant_skeletons Σ') [] Θ (λ i. i) P (λ i t g. absurd g) (type_by_skeletons Σ' [] P (ok'.types_ok c P (stays c P e)))))

    plug : (x : Image) (S : Spine) (A : LfType) (b : ℕ) (T : Spine) → SkeletonType Σ' ok' Δ A → ImageHasType Σ' Δ x A → SpineType Σ' Δ S A (atom b T) → HasType Σ' Δ (apply_image reduce x S) (atom b T)
    plug (keep j) S A b T t g s = (A, g, s)
    plug (put a N) S A b T t (e, n) s = reduction_keeps_typing Σ' ok' a Δ N S A (atom b T) e r.target t n s

    -- a head, with its arguments read
    at_head : (c a : ℕ) (P : LfType) (S T : Spine) (x : Option (ℕ × ℕ)) (u : Option Spine) → ReadsConstant Γ Δ f ρ Θ P c x u → BeginsWith u S → SpineType Σ₁ Γ S P (atom a T) → ((U V : Spine) (Q : LfType) → S ≡ append U V → SpineType Σ₁ Γ U P Q → Known Θ (read_type f Q) → SpineType Σ' Δ (substitute_spine reduce ρ (read_spine f V)) (Read f ρ Q) (Read f ρ (atom a T))) → HasType Σ' Δ (substitute reduce ρ (read_constant x c (read_spine f S))) (Read f ρ (atom a T))
    at_head c a P S T None u h b s args = (P, stays c P h, subst (λ X. SpineType Σ' Δ (substitute_spine reduce ρ (read_spine f S)) X (Read f ρ (atom a T))) (old_closed c P h) (args nil S P refl refl (old_known c P h)))
    at_head c a P S T (Some (n, v)) None h b s args = absurd h
    at_head c a P S T (Some (n, v)) (Some U) (w, Q, e, l, q, g, k) (V, d) s args =
        subst (λ Y. HasType Σ' Δ Y (Read f ρ (atom a T)))
        (ap (λ Z. root (variable w) (substitute_spine reduce ρ Z)) (sym (ap (λ j. drop_arguments j (read_spine f S)) (sym l) ∙ ap (λ X. drop_arguments (argument_count U) (read_spine f X)) d ∙ drop_own f U V)) ∙ sym (ap (λ y. apply_image reduce y (substitute_spine reduce ρ (drop_arguments n (read_spine f S)))) e))
        (Read f ρ Q, g, args U V Q d q k)

  mutual
    pub reads_typed : (Γ Δ : List LfType) (f : ℕ → Option (ℕ × ℕ)) (o : ℕ → Option Spine) (ρ : ℕ → Image) (Θ : List Skeleton) (r : ReadsInto Γ Δ f o ρ Θ) (M : Term) (A : LfType) → Known Θ (read_type f A) → HasType Σ₁ Γ M A → OnOwnTerms o M → HasType Σ' Δ (substitute reduce ρ (read f M)) (Read f ρ A)
    reads_typed Γ Δ f o ρ Θ r (lambda M) (pi A B) (k, l) m own = reads_typed (A ∷ Γ) (Read f ρ A ∷ Δ) (under_read f) (λ c. weaken_own (o c)) (lift ρ) (skeleton A ∷ Θ) (under Γ Δ f o ρ Θ r A k) M B (subst (λ a. Known (a ∷ Θ) (read_type (under_read f) B)) (skeleton_read f A) l) m own
    reads_typed Γ Δ f o ρ Θ r (lambda M) (atom a T) k m own = absurd m
    reads_typed Γ Δ f o ρ Θ r (root h S) (pi A B) k m own = absurd m
    reads_typed Γ Δ f o ρ Θ r (root (constant c) S) (atom a T) k (P, g, s) (b, own) = at_head Γ Δ f o ρ Θ r c a P S T (f c) (o c) (r.constants c P g) b s (λ U V Q d q x. arguments_typed Γ Δ f o ρ Θ r S U V P Q (atom a T) d q x s own)
    reads_typed Γ Δ f o ρ Θ r (root (variable i) S) (atom a T) k (P, g, s) own = plug Γ Δ f o ρ Θ r (ρ i) (substitute_spine reduce ρ (read_spine f S)) (Read f ρ P) a (substitute_spine reduce ρ (read_spine f T)) (known_read Γ Δ f o ρ Θ r P (r.source i P g)) (r.variables i P g) (arguments_typed Γ Δ f o ρ Θ r S nil S P P (atom a T) refl refl (r.source i P g) s own)
    reads_typed Γ Δ f o ρ Θ r (root (metavariable j) S) (atom a T) k (P, g, s) own = absurd g

    arguments_typed : (Γ Δ : List LfType) (f : ℕ → Option (ℕ × ℕ)) (o : ℕ → Option Spine) (ρ : ℕ → Image) (Θ : List Skeleton) (r : ReadsInto Γ Δ f o ρ Θ) (S U V : Spine) (P Q C : LfType) → S ≡ append U V → SpineType Σ₁ Γ U P Q → Known Θ (read_type f Q) → SpineType Σ₁ Γ S P C → SpineOnOwnTerms o S → SpineType Σ' Δ (substitute_spine reduce ρ (read_spine f V)) (Read f ρ Q) (Read f ρ C)
    arguments_typed Γ Δ f o ρ Θ r nil nil V P Q C d q k s own = subst (λ X. SpineType Σ' Δ (substitute_spine reduce ρ (read_spine f X)) (Read f ρ Q) (Read f ρ C)) d (ap (Read f ρ) (sym q ∙ s))
    arguments_typed Γ Δ f o ρ Θ r nil (app M U) V P Q C d q k s own = absurd (no_more M U V d)
    arguments_typed Γ Δ f o ρ Θ r (app M S) nil V (pi A B) Q C d q k (m, s) (p, own) =
        let kn : Known Θ (read_type f (pi A B)) = subst (λ X. Known Θ (read_type f X)) (sym q) k in
        let i : Read f ρ (instantiate_type A M B) ≡ instantiate_type (Read f ρ A) (substitute reduce ρ (read f M)) (Read (under_read f) (lift ρ) B) = instance_read Γ Δ f o ρ Θ r A M B m p kn.1 in
        subst (λ X. SpineType Σ' Δ (substitute_spine reduce ρ (read_spine f V)) (Read f ρ X) (Read f ρ C)) q
        (subst (λ X. SpineType Σ' Δ (substitute_spine reduce ρ (read_spine f X)) (Read f ρ (pi A B)) (Read f ρ C)) d
        (reads_typed Γ Δ f o ρ Θ r M A kn.0 m p, subst (λ X. SpineType Σ' Δ (substitute_spine reduce ρ (read_spine f S)) X (Read f ρ C)) i (arguments_typed Γ Δ f o ρ Θ r S nil S (instantiate_type A M B) (instantiate_type A M B) C refl refl (instance_known Γ Δ f o ρ Θ r A M B m p kn.1) s own)))
    arguments_typed Γ Δ f o ρ Θ r (app M S) nil V (atom a T) Q C d q k s own = absurd s
    arguments_typed Γ Δ f o ρ Θ r (app M S) (app N U) V (pi A B) Q C d (n, q) k (m, s) (p, own) =
        let e : N ≡ M = cc in
        let d' : S ≡ append U V = cc in
        arguments_typed Γ Δ f o ρ Θ r S U V (instantiate_type A M B) Q C d' (subst (λ X. SpineType Σ₁ Γ U (instantiate_type A X B) Q) e q) k s own
    arguments_typed Γ Δ f o ρ Θ r (app M S) (app N U) V (atom a T) Q C d q k s own = absurd s
