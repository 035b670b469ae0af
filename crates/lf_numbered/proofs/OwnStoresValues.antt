-- The answer of a solved store whose metavariables are the variables of a context: a typed substitution, for which the filling by the answer stands.
use Rattle.std.proofs.Common.{◌≡◌, ℕ, zero, List, [], Option, Some, None, inl, refl, sym, ap, ◌∙◌, subst}
use Rattle.lf.specs.Syntax.{Term, LfType, Skeleton, skeleton}
use Rattle.lf.specs.Substitution.{Image, put, substitute_type, reduce}
use Rattle.lf.specs.SkeletonTyping.{ImageSkeleton, SubstitutionBySkeletons, TermSkeleton}
use Rattle.lf.specs.Skeletons.{constant_skeletons, family_skeletons, context_skeletons}
use Rattle.lf.specs.Typing.{Signature, TypeAt, HasType, ImageHasType, IsContext, IsSignature}
use Rattle.lf.proofs.ToSkeletons.{skeleton_has_variable, type_by_skeletons, typed_has_skeleton}
use Rattle.lf.proofs.TypeLaws.{skeleton_substituted}
use Rattle.lf.proofs.Weakening.{declared_is_type}
use Rattle.lf_unification.specs.Dependency.{ListedMetavariable, free_context, values}
use Rattle.lf_unification.specs.Filling.{fill_type}
use Rattle.lf_unification.specs.OpenTyping.{ValueHasType, skeletons_of}
use Rattle.lf_unification.specs.Skeletons.{skeleton_or_default}
use Rattle.lf_unification.specs.Unifiers.{Solution, Store}
use Rattle.lf_unification.proofs.Filling.{skeleton_fill}
use Rattle.lf_cases.specs.Case.{as_term}
use Rattle.lf_coverage.specs.SplitStore.{open_type, answer_image, answer_values}
use Rattle.lf_coverage.proofs.OpenTerms.{AllStand, FitsImage, fill_open_type}
use Rattle.lf_coverage.proofs.Parts.{some_same}
use Rattle.lf_coverage.proofs.StoreSolution.{skeleton_open}

module _ (Σ₁ : Signature) (okE : IsSignature Σ₁) (Cc : List LfType) (items_known : IsContext Σ₁ Cc) (finish : Store) (order : List ListedMetavariable) (answer : Solution Σ₁ [] finish (free_context (skeletons_of finish.metavariables) order) (values (skeletons_of finish.metavariables) order)) (declared : (i : ℕ) (B : LfType) → TypeAt Cc i B → finish.metavariables i ≡ Some (open_type zero B)) where
  abbrev μ : ℕ → Skeleton
  μ = skeletons_of finish.metavariables

  abbrev O : List LfType
  O = free_context (skeletons_of finish.metavariables) order

  abbrev γ : ℕ → Option Term
  γ = values (skeletons_of finish.metavariables) order

  abbrev σ : ℕ → Image
  σ = answer_values finish order

  -- the value of each variable of the items
  pub value : (i : ℕ) (B : LfType) → TypeAt Cc i B → (N : Term) × (γ i ≡ Some N) × HasType Σ₁ O N (fill_type μ γ (open_type zero B))
  value i B g = by (finish.metavariables i) (γ i) (declared i B g) refl (answer.0.typed i)
    where
      by : (y : Option LfType) (z : Option Term) → y ≡ Some (open_type zero B) → γ i ≡ z → ValueHasType Σ₁ O μ γ y z → (N : Term) × (γ i ≡ Some N) × HasType Σ₁ O N (fill_type μ γ (open_type zero B))
      by None z e q v = absurd cc
      by (Some Y) None e q v = absurd v
      by (Some Y) (Some N) e q v = (N, q, subst (λ Z. HasType Σ₁ O N (fill_type μ γ Z)) (some_same e) v)

  pub skeleton_at : (i : ℕ) (B : LfType) → TypeAt Cc i B → μ i ≡ skeleton B
  skeleton_at i B g = ap skeleton_or_default (declared i B g) ∙ skeleton_open zero B

  pub value_is : (i : ℕ) (B : LfType) (g : TypeAt Cc i B) → σ i ≡ put (skeleton B) (value i B g).0
  value_is i B g = ap (answer_image (μ i)) ((value i B g).1) ∙ ap (λ a. put a (value i B g).0) (skeleton_at i B g)

  pub stand : AllStand Σ₁ μ zero (context_skeletons Cc) σ γ
  stand i t g =
      let (B, b, e) = skeleton_has_variable Cc i t g in
      let q : σ i ≡ put (skeleton B) (value i B b).0 = value_is i B b in
      inl (i, refl, skeleton_at i B b ∙ e, (value i B b).1 ∙ ap Some (ap (as_term t) (sym q)), subst (FitsImage t) (sym q) e)

  pub fits : SubstitutionBySkeletons (constant_skeletons Σ₁) (context_skeletons Cc) (context_skeletons O) σ
  fits i t g =
      let (B, b, e) = skeleton_has_variable Cc i t g in
      let m : TermSkeleton (constant_skeletons Σ₁) (context_skeletons O) (value i B b).0 (skeleton B) = subst (TermSkeleton (constant_skeletons Σ₁) (context_skeletons O) (value i B b).0) (skeleton_fill μ γ (open_type zero B) ∙ skeleton_open zero B) (typed_has_skeleton Σ₁ O (value i B b).0 (fill_type μ γ (open_type zero B)) ((value i B b).2)) in
      subst (λ y. ImageSkeleton (constant_skeletons Σ₁) (context_skeletons O) y t) (sym (value_is i B b)) (e, m)

  pub value_typed : (i : ℕ) (B : LfType) → TypeAt Cc i B → ImageHasType Σ₁ O (σ i) (substitute_type reduce σ B)
  value_typed i B g = subst (λ y. ImageHasType Σ₁ O y (substitute_type reduce σ B)) (sym (value_is i B g)) (
    skeleton_substituted reduce σ B,
    subst (HasType Σ₁ O (value i B g).0) (fill_open_type Σ₁ μ (family_skeletons Σ₁) zero (context_skeletons Cc) (context_skeletons O) σ γ stand fits B (type_by_skeletons Σ₁ Cc B (declared_is_type Σ₁ okE Cc i B items_known g))) ((value i B g).2),
  )
