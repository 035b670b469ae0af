-- Types of heads and of applied heads are types; typed substitutions: identity, renamings, composition; the rules on typed terms.
use Rattle.std.proofs.Common.{◌≡◌, ℕ, List, ◌∷◌, sym, ◌∙◌, subst}
use Rattle.lf.specs.Syntax.{Head, constant, variable, metavariable, Term, Spine, root, nil, app, LfType, Kind, pi, atom, kind_pi, star, skeleton}
use Rattle.lf.specs.Substitution.{Image, keep, put, lift, single, substitute, substitute_type, substitute_kind, reduce, substitute_image, after}
use Rattle.lf.specs.Typing.{Signature, TypeAt, HeadHasType, instantiate_type, HasType, SpineType, IsType, IsKind, IsContext, IsSignature, IsTypedRenaming, ImageHasType, IsTypedSubstitution}
use Rattle.lf.specs.Rules.{Substitutes}
use Rattle.lf.specs.Skeletons.{constant_skeletons, family_skeletons, context_skeletons}
use Rattle.lf.proofs.TypeLaws.{skeleton_substituted, substitute_identity_type, substitution_as_renaming_type}
use Rattle.lf.proofs.SkeletonTyping.{single_by_skeletons}
use Rattle.lf.proofs.SkeletonTypes.{substitutions_compose_type}
use Rattle.lf.proofs.ToSkeletons.{typed_has_skeleton, type_by_skeletons}
use Rattle.lf.proofs.Weakening.{declared_is_type}
use Rattle.lf.proofs.Rules.{rules_agree, rules_total}
use Rattle.lf.proofs.Substitution.{SkeletonType, skeleton_context_of, TypedSubstitution, typed_substitution_by_skeletons, lifted_substitution_typed, substitution_keeps_typing, substitution_keeps_types, constant_type, instance_is_typed, instance_is_type}

module _ (Σ : Signature) (ok : IsSignature Σ) where
  pub head_type : (G : List LfType) (h : Head) (A : LfType) → IsContext Σ G → HeadHasType Σ G h A → IsType Σ G A
  head_type G (constant c) A g e = constant_type Σ ok G c A e
  head_type G (variable i) A g h = declared_is_type Σ ok G i A g h
  head_type G (metavariable m) A g h = absurd h

  pub spine_type : (G : List LfType) (S : Spine) (A C : LfType) → IsContext Σ G → IsType Σ G A → SpineType Σ G S A C → IsType Σ G C
  spine_type G nil A C g a e = subst (IsType Σ G) e a
  spine_type G (app M S) (pi A B) C g (a, b) (m, s) = spine_type G S (instantiate_type A M B) C g (instance_is_type Σ ok G A M B g a b m) s
  spine_type G (app M S) (atom c T) C g a s = absurd s

  -- the type of a typed root is a type
  pub root_type : (G : List LfType) (h : Head) (S : Spine) (A : LfType) → IsContext Σ G → HasType Σ G (root h S) A → IsType Σ G A
  root_type G h S (pi A B) g m = absurd m
  root_type G h S (atom a T) g (A, k, s) = spine_type G S A (atom a T) g (head_type G h A g k) s

  pub identity_substitution_typed : (G : List LfType) → IsContext Σ G → TypedSubstitution Σ ok G G keep
  identity_substitution_typed G g = record { typed = λ i A h. subst (TypeAt G i) (sym (substitute_identity_type reduce A)) h; source_skeletons = skeleton_context_of Σ ok G g; target_skeletons = skeleton_context_of Σ ok G g }

  pub renaming_as_typed_substitution : (G D : List LfType) (ρ : ℕ → ℕ) → IsContext Σ G → IsContext Σ D → IsTypedRenaming G D ρ → TypedSubstitution Σ ok G D (λ i. keep (ρ i))
  renaming_as_typed_substitution G D ρ g d w = record { typed = λ i A h. subst (TypeAt D (ρ i)) (sym (substitution_as_renaming_type reduce ρ A)) (w i A h); source_skeletons = skeleton_context_of Σ ok G g; target_skeletons = skeleton_context_of Σ ok D d }

  after_image : (G D : List LfType) (τ : ℕ → Image) (x : Image) (A : LfType) → TypedSubstitution Σ ok G D τ → SkeletonType Σ ok G A → ImageHasType Σ G x A → ImageHasType Σ D (substitute_image τ x) (substitute_type reduce τ A)
  after_image G D τ (keep j) A w t h = w.typed j A h
  after_image G D τ (put a N) A w t (e, n) = (skeleton_substituted reduce τ A ∙ e, substitution_keeps_typing Σ ok G D τ N A w t n)

  -- one typed substitution after another
  pub typed_substitutions_compose : (F G D : List LfType) (σ τ : ℕ → Image) → IsContext Σ F → IsContext Σ G → TypedSubstitution Σ ok F G σ → TypedSubstitution Σ ok G D τ → TypedSubstitution Σ ok F D (after τ σ)
  typed_substitutions_compose F G D σ τ f g v w = record { typed = typed; source_skeletons = v.source_skeletons; target_skeletons = w.target_skeletons }
    where
      typed : IsTypedSubstitution Σ F D (after τ σ)
      typed i A h =
          let a : IsType Σ F A = declared_is_type Σ ok F i A f h in
          let e : substitute_type reduce τ (substitute_type reduce σ A) ≡ substitute_type reduce (after τ σ) A = substitutions_compose_type (family_skeletons Σ) (constant_skeletons Σ) (context_skeletons F) (context_skeletons G) (context_skeletons D) σ τ A (typed_substitution_by_skeletons Σ ok F G σ v.typed) (typed_substitution_by_skeletons Σ ok G D τ w.typed) (type_by_skeletons Σ F A a) in
          subst (ImageHasType Σ D (substitute_image τ (σ i))) e (after_image G D τ (σ i) (substitute_type reduce σ A) w (type_by_skeletons Σ G (substitute_type reduce σ A) (substitution_keeps_types Σ ok F G σ A v a)) (v.typed i A h))

  pub substitution_keeps_kinds : (G D : List LfType) (σ : ℕ → Image) (K : Kind) → TypedSubstitution Σ ok G D σ → IsKind Σ G K → IsKind Σ D (substitute_kind reduce σ K)
  substitution_keeps_kinds G D σ (kind_pi A K) w (a, k) = (substitution_keeps_types Σ ok G D σ A w a, substitution_keeps_kinds (A ∷ G) (substitute_type reduce σ A ∷ D) (lift σ) K (lifted_substitution_typed Σ ok G D σ A w (type_by_skeletons Σ G A a)) k)
  substitution_keeps_kinds G D σ star w k = k

  -- THE theorem on the rules: on typed terms there is just one result, and it is typed
  pub rules_typed : (G : List LfType) (A : LfType) (N M : Term) (B : LfType) → IsContext Σ G → IsType Σ G A → IsType Σ (A ∷ G) B → HasType Σ G N A → HasType Σ (A ∷ G) M B → (R : Term) × Substitutes (single (skeleton A) N) M R × HasType Σ G R (instantiate_type A N B) × ((R' : Term) → Substitutes (single (skeleton A) N) M R' → R' ≡ R)
  rules_typed G A N M B g a b n m = (
    substitute reduce (single (skeleton A) N) M,
    rules_total (constant_skeletons Σ) (skeleton A ∷ context_skeletons G) (context_skeletons G) (single (skeleton A) N) M (skeleton B) (single_by_skeletons (constant_skeletons Σ) (skeleton A) (context_skeletons G) N (typed_has_skeleton Σ G N A n)) (typed_has_skeleton Σ (A ∷ G) M B m),
    instance_is_typed Σ ok G A N M B g a b n m,
    λ R' d. rules_agree d,
  )
