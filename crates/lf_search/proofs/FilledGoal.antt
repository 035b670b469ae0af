-- A goal over metavariables, filled with values, is the goal with these values put in.
use Rattle.std.proofs.Common.{◌≡◌, ℕ, zero, suc, List, [], ◌∷◌, length, Option, Some, ◌⊎◌, inl, inr, refl, sym, ap, ap₂, ◌∙◌, subst}
use Rattle.lf.specs.Substitution.{Image, apply_image, keep, lift, put, reduce, rename_image, substitute, substitute_spine, substitute_type}
use Rattle.lf.specs.Syntax.{Head, LfType, Skeleton, Spine, Term, app, atom, constant, lambda, metavariable, nil, pi, rename, rename_head, root, variable}
use Rattle.lf.specs.Typing.{HasType, IsContext, IsType, Signature}
use Rattle.lf_unification.specs.Filling.{fill, fill_metavariable, fill_spine, fill_type, moved, rename_value}
use Rattle.lf_unification.specs.OpenTyping.{IsInstance, MetavariablesIn, MetavariablesInSpine, MetavariablesInType, skeletons_of}
use Rattle.lf_unification.specs.Patterns.{FreeVariablesIn, FreeVariablesInSpine, LiftedSet}
use Rattle.lf_unification.specs.Skeletons.{skeleton_or_default}
use Rattle.lf_unification.proofs.Scope.{in_typed_type}
use Rattle.lf_unification.proofs.StepLemmas.{value_of}
use Rattle.lf_unification.proofs.Agree.{set_here}
use Rattle.lf_unification.proofs.Within.{FreeVariablesInType}
use Rattle.lf_search.specs.Answers.{AreTypedValues, AreValuesOf, at_values, images}
use Rattle.lf_search.specs.Goals.{metavariables_of, over_metavariables, spine_with_heads, type_with_heads, under_head, variable_heads, with_heads}
use Rattle.lf_search.proofs.OpenQuery.{InContext, typed_only_type}
use Rattle.lf_search.proofs.QueryForm.{declared_before}
use Rattle.lf_search.proofs.WithHeads.{skeleton_with_heads}

some_is : {A : Type 0} {x y : A} → Some x ≡ Some y → x ≡ y
some_is e = cc

-- the head is a metavariable, and the image is its value; or both are the same variable
abbrev pub Stands : (ℕ → Skeleton) → (ℕ → Option Term) → Head → Image → Type 0
Stands μ β h x = ((m : ℕ) × (N : Term) × (h ≡ metavariable m) × (β m ≡ Some N) × (x ≡ put (μ m) N)) ⊎ ((v : ℕ) × (h ≡ variable v) × (x ≡ keep v))

stands_moved : (μ : ℕ → Skeleton) (β : ℕ → Option Term) (h : Head) (x : Image) → Stands μ β h x → Stands μ (moved suc β) (rename_head suc h) (rename_image suc x)
stands_moved μ β h x (inl (m, N, e, b, q)) = inl (m, rename suc N, ap (rename_head suc) e, ap (rename_value suc) b, ap (rename_image suc) q)
stands_moved μ β h x (inr (v, e, q)) = inr (suc v, ap (rename_head suc) e, ap (rename_image suc) q)

module _ (μ : ℕ → Skeleton) where
  abbrev pub AllStand : (ℕ → Type 0) → (ℕ → Head) → (ℕ → Image) → (ℕ → Option Term) → Type 0
  AllStand P h σ β = (i : ℕ) → P i → Stands μ β (h i) (σ i)

  all_lifted : (P : ℕ → Type 0) (h : ℕ → Head) (σ : ℕ → Image) (β : ℕ → Option Term) → AllStand P h σ β → AllStand (LiftedSet P) (under_head h) (lift σ) (moved suc β)
  all_lifted P h σ β w zero p = inr (zero, refl, refl)
  all_lifted P h σ β w (suc i) p = stands_moved μ β (h i) (σ i) (w i p)

  stands_applied : (β : ℕ → Option Term) (h : Head) (x : Image) (S : Spine) → Stands μ β h x → fill μ β (root h S) ≡ apply_image reduce x (fill_spine μ β S)
  stands_applied β h x S (inl (m, N, e, b, q)) = ap (λ g. fill μ β (root g S)) e ∙ ap (λ y. fill_metavariable (μ m) m y (fill_spine μ β S)) b ∙ ap (λ y. apply_image reduce y (fill_spine μ β S)) (sym q)
  stands_applied β h x S (inr (v, e, q)) = ap (λ g. fill μ β (root g S)) e ∙ ap (λ y. apply_image reduce y (fill_spine μ β S)) (sym q)

  mutual
    fill_heads : (P : ℕ → Type 0) (h : ℕ → Head) (σ : ℕ → Image) (β : ℕ → Option Term) → AllStand P h σ β → (M : Term) → FreeVariablesIn P M → MetavariablesIn (λ m. ⊥) M → fill μ β (with_heads h M) ≡ substitute reduce σ M
    fill_heads P h σ β w (lambda M) o i = ap lambda (fill_heads (LiftedSet P) (under_head h) (lift σ) (moved suc β) (all_lifted P h σ β w) M o i)
    fill_heads P h σ β w (root (constant c) S) o i = ap (root (constant c)) (fill_heads_spine P h σ β w S o i)
    fill_heads P h σ β w (root (metavariable m) S) o i = absurd i.0
    fill_heads P h σ β w (root (variable j) S) (p, o) i = stands_applied β (h j) (σ j) (spine_with_heads h S) (w j p) ∙ ap (apply_image reduce (σ j)) (fill_heads_spine P h σ β w S o i)

    fill_heads_spine : (P : ℕ → Type 0) (h : ℕ → Head) (σ : ℕ → Image) (β : ℕ → Option Term) → AllStand P h σ β → (S : Spine) → FreeVariablesInSpine P S → MetavariablesInSpine (λ m. ⊥) S → fill_spine μ β (spine_with_heads h S) ≡ substitute_spine reduce σ S
    fill_heads_spine P h σ β w nil o i = refl
    fill_heads_spine P h σ β w (app M S) (o, p) (i, j) = ap₂ app (fill_heads P h σ β w M o i) (fill_heads_spine P h σ β w S p j)

  fill_heads_type : (P : ℕ → Type 0) (h : ℕ → Head) (σ : ℕ → Image) (β : ℕ → Option Term) → AllStand P h σ β → (A : LfType) → FreeVariablesInType P A → MetavariablesInType (λ m. ⊥) A → fill_type μ β (type_with_heads h A) ≡ substitute_type reduce σ A
  fill_heads_type P h σ β w (pi A B) (a, b) (i, j) = ap₂ pi (fill_heads_type P h σ β w A a i) (fill_heads_type (LiftedSet P) (under_head h) (lift σ) (moved suc β) (all_lifted P h σ β w) B b j)
  fill_heads_type P h σ β w (atom a S) o i = ap (atom a) (fill_heads_spine P h σ β w S o i)

-- over any metavariables that begin with those of the context
module _ (Ψ : ℕ → Option LfType) (β : ℕ → Option Term) where
  abbrev pub Begins : List LfType → Type 0
  Begins G = (m : ℕ) (X : LfType) → metavariables_of G m ≡ Some X → Ψ m ≡ Some X

  pub begins_before : (A : LfType) (G : List LfType) → Begins (A ∷ G) → Begins G
  begins_before A G h m X e = h m X (declared_before A G m X e)

  pub begins_newest : (A : LfType) (G : List LfType) → Begins (A ∷ G) → Ψ (length G) ≡ Some (over_metavariables G A)
  begins_newest A G h = h (length G) (over_metavariables G A) (set_here (length G) (Some (over_metavariables G A)) (metavariables_of G))

  variables_stand : (G : List LfType) (Ms : List Term) → Begins G → AreValuesOf β G Ms → AllStand (skeletons_of Ψ) (InContext G) (variable_heads G) (images G Ms) β
  variables_stand [] Ms h v i x = absurd x.1
  variables_stand (A ∷ G) [] h v i x = absurd v
  variables_stand (A ∷ G) (M ∷ Ms) h (e, v) zero x = inl (length G, M, refl, e, ap (λ a. put a M) (sym (ap skeleton_or_default (begins_newest A G h) ∙ skeleton_with_heads (variable_heads G) A)))
  variables_stand (A ∷ G) (M ∷ Ms) h (e, v) (suc i) (X, (C, g, q)) = variables_stand G Ms (begins_before A G h) v i (C, g)

  pub filled_goal : (Σ : Signature) (G : List LfType) (Ms : List Term) (A : LfType) → Begins G → AreValuesOf β G Ms → IsType Σ G A → fill_type (skeletons_of Ψ) β (over_metavariables G A) ≡ at_values G Ms A
  filled_goal Σ G Ms A h v t = fill_heads_type (skeletons_of Ψ) (InContext G) (variable_heads G) (images G Ms) β (variables_stand G Ms h v) A (typed_only_type Σ G A t) (in_typed_type (λ m. ⊥) Σ G A t)

-- values of a typed instance are typed values of the context
pub instance_values : (Σ : Signature) (Ψ : ℕ → Option LfType) (F : List LfType) (β : ℕ → Option Term) → IsInstance Σ [] Ψ F β → (G : List LfType) (Ms : List Term) → IsContext Σ G → Begins Ψ β G → AreValuesOf β G Ms → AreTypedValues Σ F G Ms
instance_values Σ Ψ F β inst [] [] c h v = tt
instance_values Σ Ψ F β inst [] (M ∷ Ms) c h v = absurd v
instance_values Σ Ψ F β inst (A ∷ G) [] c h v = absurd v
instance_values Σ Ψ F β inst (A ∷ G) (M ∷ Ms) (c, t) h (e, v) = (
  instance_values Σ Ψ F β inst G Ms c (begins_before Ψ β A G h) v,
  (let (N, f, w) = value_of Σ [] Ψ F β inst (length G) (over_metavariables G A) (begins_newest Ψ β A G h) in
      subst (λ X. HasType Σ F M X) (filled_goal Ψ β Σ G Ms A (begins_before Ψ β A G h) v t)
      (subst (λ X. HasType Σ F X (fill_type (skeletons_of Ψ) β (over_metavariables G A))) (some_is (sym f ∙ e)) w)),
)
