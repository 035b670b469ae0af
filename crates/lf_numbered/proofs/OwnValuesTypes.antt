-- The types of an answer's free variables, with a filling's values put in, are the types of metavariables under the filling.
use Rattle.std.proofs.Common.{◌≡◌, ℕ, zero, suc, List, [], ◌∷◌, Option, Some, None, refl, sym, ap, ◌∙◌}
use Rattle.lf.specs.AtOnce.{in_front}
use Rattle.lf.specs.SkeletonTyping.{SubstitutionBySkeletons}
use Rattle.lf.specs.Skeletons.{context_skeletons, family_skeletons}
use Rattle.lf.specs.Substitution.{Image, keep, substitute_type, reduce}
use Rattle.lf.specs.Syntax.{Term, LfType, Skeleton, skeleton, rename_type}
use Rattle.lf.specs.Typing.{Signature, TypeAt, IsSignature}
use Rattle.lf.proofs.SkeletonTyping.{substitution_keeps_skeletons}
use Rattle.lf.proofs.TypeLaws.{substitute_renamed_type, substitute_identity_type}
use Rattle.lf_unification.specs.Dependency.{ListedMetavariable, IsListed, IsDependencyOrder, add_free, free_context, values}
use Rattle.lf_unification.specs.Filling.{fill_type}
use Rattle.lf_unification.specs.OpenTyping.{IsInstance, MetavariablesInType, OpenIsType, skeletons_of}
use Rattle.lf_unification.specs.Skeletons.{as_head_skeletons, total_skeletons}
use Rattle.lf_unification.specs.Solving.{ValuesAreBindings}
use Rattle.lf_unification.specs.Unifiers.{Binding, Respects}
use Rattle.lf_unification.proofs.Agree.{fill_agree_type}
use Rattle.lf_unification.proofs.AnswerIsGeneric.{Part, answer_images, part}
use Rattle.lf_unification.proofs.Filling.{Filled, ValueHasSkeleton, fill_substituted_type, substituted_option}
use Rattle.lf_unification.proofs.Generic.{stage, open_skeletons_type}
use Rattle.lf_coverage.specs.SplitStore.{answer_image}

-- a type that each renaming leaves as it is stays under each substitution
closed_type_stays : (A : LfType) → ((ρ : ℕ → ℕ) → rename_type ρ A ≡ A) → (σ : ℕ → Image) → substitute_type reduce σ A ≡ A
closed_type_stays A c σ =
    ap (substitute_type reduce σ) (sym (c suc)) ∙ substitute_renamed_type reduce σ suc A ∙ sym (substitute_renamed_type reduce (in_front (keep zero) (λ i. σ (suc i))) suc A) ∙ ap (substitute_type reduce (in_front (keep zero) (λ i. σ (suc i)))) (c suc ∙ sym (c (λ i. zero)))
    ∙ substitute_renamed_type reduce (in_front (keep zero) (λ i. σ (suc i))) (λ i. zero) A ∙ sym (substitute_renamed_type reduce keep (λ i. zero) A) ∙ ap (substitute_type reduce keep) (c (λ i. zero)) ∙ substitute_identity_type reduce A

module _ (Σ : Signature) (ok : IsSignature Σ) (Ψ : ℕ → Option LfType) (U : (ℕ → Option Term) → Type 0) (F : List LfType) (β : ℕ → Option Term) (inst : IsInstance Σ [] Ψ F β) (bs : List Binding) (respects : Respects (skeletons_of Ψ) β bs) where
  abbrev μ : ℕ → Skeleton
  μ = skeletons_of Ψ

  abbrev images : List ListedMetavariable → ℕ → Image
  images is = answer_images Σ ok Ψ U F β inst bs respects is

  value_fits : (Γ : List Skeleton) (ρ : ℕ → Image) → SubstitutionBySkeletons (as_head_skeletons (total_skeletons Σ (skeletons_of Ψ))) Γ (context_skeletons F) ρ → (y : Option Term) (a : Skeleton) → ValueHasSkeleton (total_skeletons Σ (skeletons_of Ψ)) Γ y a → ValueHasSkeleton (total_skeletons Σ (skeletons_of Ψ)) (context_skeletons F) (substituted_option ρ y) a
  value_fits Γ ρ s None a v = v
  value_fits Γ ρ s (Some N) a v = substitution_keeps_skeletons (as_head_skeletons (total_skeletons Σ (skeletons_of Ψ))) Γ (context_skeletons F) ρ N a s v

  -- the type of a metavariable, filled in the answer, under the images
  type_from : (is : List ListedMetavariable) → IsDependencyOrder Σ Ψ U is → Part Σ ok Ψ U F β inst bs respects is → (A : LfType) → MetavariablesInType (IsListed is) A → OpenIsType Σ [] Ψ U [] A → ((ρ : ℕ → ℕ) → rename_type ρ A ≡ A) → fill_type (skeletons_of Ψ) β A ≡ substitute_type reduce (answer_images Σ ok Ψ U F β inst bs respects is) (fill_type (skeletons_of Ψ) (values (skeletons_of Ψ) is) A)
  type_from is d p A i t c =
      let γ : ℕ → Option Term = λ m. substituted_option (images is) (values μ is m) in
      let filled : Filled (total_skeletons Σ μ) (context_skeletons (free_context μ is)) (context_skeletons F) (values μ is) γ (images is) (images is) = record {
        by_skeletons = p.fits;
        by_skeletons' = p.fits;
        fillings = (stage Σ μ ok Ψ U is d).by_skeletons;
        fillings' = λ m. value_fits (context_skeletons (free_context μ is)) (images is) p.fits (values μ is m) (μ m) ((stage Σ μ ok Ψ U is d).by_skeletons m);
        images = p.plain γ;
        values = λ m. refl;
      } in
      fill_agree_type (IsListed is) μ μ (λ m v. refl) β γ A p.same i
      ∙ ap (fill_type μ γ) (sym (closed_type_stays A c (images is)))
      ∙ fill_substituted_type (total_skeletons Σ μ) (family_skeletons Σ) (context_skeletons (free_context μ is)) (context_skeletons F) (values μ is) γ (images is) (images is) A filled (open_skeletons_type Σ μ ok Ψ U [] (context_skeletons (free_context μ is)) A t)

  pub types_filled : (is : List ListedMetavariable) → IsDependencyOrder Σ Ψ U is → ValuesAreBindings bs is → (i : ℕ) (A : LfType) → TypeAt (free_context (skeletons_of Ψ) is) i A → (m : ℕ) × (B : LfType) × (Ψ m ≡ Some B) × (substitute_type reduce (answer_images Σ ok Ψ U F β inst bs respects is) A ≡ fill_type (skeletons_of Ψ) β B)
  types_filled [] d v i A g = absurd g
  types_filled (it ∷ is) d (v, vs) i A g = by it.value i A g (types_filled is d.0 vs)
    where
      X : LfType
      X = fill_type μ (values μ is) it.of_type

      new : ℕ → Image
      new = in_front (answer_image (skeleton it.of_type) (β it.of)) (images is)

      by : (x : Option Term) (j : ℕ) (B : LfType) → TypeAt (add_free x (fill_type (skeletons_of Ψ) (values (skeletons_of Ψ) is) it.of_type) (free_context (skeletons_of Ψ) is)) j B → ((k : ℕ) (C : LfType) → TypeAt (free_context (skeletons_of Ψ) is) k C → (m : ℕ) × (D : LfType) × (Ψ m ≡ Some D) × (substitute_type reduce (answer_images Σ ok Ψ U F β inst bs respects is) C ≡ fill_type (skeletons_of Ψ) β D)) → (m : ℕ) × (D : LfType) × (Ψ m ≡ Some D) × (substitute_type reduce (answer_images Σ ok Ψ U F β inst bs respects (record { of = it.of; of_type = it.of_type; value = x } ∷ is)) B ≡ fill_type (skeletons_of Ψ) β D)
      by None zero B e r = (it.of, it.of_type, d.1, ap (substitute_type reduce new) e ∙ substitute_renamed_type reduce new suc X ∙ sym (type_from is d.0 (part Σ ok Ψ U F β inst bs respects is d.0 vs) it.of_type d.3 d.4 d.5))
      by None (suc j) B (C, k, e) r = let (m, D, q, s) = r j C k in (m, D, q, ap (substitute_type reduce new) e ∙ substitute_renamed_type reduce new suc C ∙ s)
      by (Some N) j B k r = r j B k
