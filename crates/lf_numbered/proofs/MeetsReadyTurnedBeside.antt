-- What is typed beside a type stays so where constants are moved; so a case that is typed at a place of a pattern is so there with block variables one.
use Rattle.std.proofs.Common.{◌≡◌, ℕ, zero, suc, List, [], ◌∷◌, refl, sym, ap, ap₂, ◌∙◌, subst}
use Rattle.std.specs.Prelude.{Option, Some, None}
use Rattle.lf.specs.Syntax.{Term, Spine, nil, app, LfType, pi, atom, Kind, kind_pi, star}
use Rattle.lf.specs.Substitution.{Image, put, lift, substitute_spine, substitute_type, reduce}
use Rattle.lf.specs.Typing.{Signature, HasType, IsContext, instantiate_kind}
use Rattle.lf.specs.Variables.{target_arguments, binders, onto}
use Rattle.lf.specs.Worlds.{lift_over, instance}
use Rattle.lf_cases.specs.Candidates.{given_images}
use Rattle.lf_coverage.specs.TypedCase.{TypedArguments}
use Rattle.lf_numbered.specs.MeetsReady.{AreTypedBeside}
use Rattle.lf_numbered.specs.NumberedInstance.{move, move_all, move_spine, move_type, move_types}
use Rattle.lf_numbered.specs.WritingRoom.{move_image, move_kind}
use Rattle.lf_numbered.proofs.MovedConstants.{onto_moved, type_from, given_moved, lifts_moved}
use Rattle.lf_numbered.proofs.Reading.{IsOld}
use Rattle.lf_numbered.proofs.WritingGap.{same_old}
use Rattle.lf_numbered.proofs.WritingMove.{move_type_substituted, move_spine_substituted, moved_typed, skeleton_moved, move_kind_instance}
use mathlib.Core.Path.{fun_ext}

module _ (γ : ℕ → ℕ) where
  abbrev turned : (ℕ → Image) → ℕ → Image
  turned σ i = move_image γ (σ i)

  -- contexts and what is under them
  over_same : (D : List LfType) (σ : ℕ → Image) → lift_over (move_types γ D) σ ≡ lift_over D σ
  over_same [] σ = refl
  over_same (A ∷ D) σ = ap lift (over_same D σ)

  pub instance_turned : (D : List LfType) (σ : ℕ → Image) → move_types γ (instance D σ) ≡ instance (move_types γ D) (turned σ)
  instance_turned [] σ = refl
  instance_turned (A ∷ D) σ = ap₂ (λ B E. B ∷ E) (move_type_substituted γ (lift_over D σ) A ∙ ap (λ τ. substitute_type reduce τ (move_type γ A)) (lifts_moved γ D σ ∙ sym (over_same D (turned σ)))) (instance_turned D σ)

  binders_turned : (G : List LfType) (T : LfType) → move_types γ (binders G T) ≡ binders (move_types γ G) (move_type γ T)
  binders_turned G (pi A B) = binders_turned (A ∷ G) B
  binders_turned G (atom a S) = refl

  end_turned : (T : LfType) → move_spine γ (target_arguments T) ≡ target_arguments (move_type γ T)
  end_turned (pi A B) = end_turned B
  end_turned (atom a S) = refl

  -- given terms
  given_turned : (X : List LfType) (Ms : List (Option Term)) (n i : ℕ) → move_image γ (given_images X Ms n i) ≡ given_images (move_types γ X) (move_all γ Ms) n i
  given_turned X [] n i = refl
  given_turned [] (Some M ∷ Ms) n i = refl
  given_turned [] (None ∷ Ms) n i = refl
  given_turned (A ∷ X) (Some M ∷ Ms) n zero = ap (λ a. put a (move γ M)) (sym (skeleton_moved γ A))
  given_turned (A ∷ X) (None ∷ Ms) n zero = refl
  given_turned (A ∷ X) (Some M ∷ Ms) n (suc i) = given_turned X Ms (suc n) i
  given_turned (A ∷ X) (None ∷ Ms) n (suc i) = given_turned X Ms (suc n) i

  module _ (Σ : Signature) (types : (c : ℕ) (A : LfType) → Σ.types c ≡ Some A → Σ.types (γ c) ≡ Some (move_type γ A)) (kinds : (a : ℕ) (K : Kind) → Σ.kinds a ≡ Some K → Σ.kinds a ≡ Some (move_kind γ K)) where
    arguments_turned : (G : List LfType) (Ms : List (Option Term)) (T : Spine) (K : Kind) → TypedArguments Σ G Ms T K → TypedArguments Σ (move_types γ G) (move_all γ Ms) (move_spine γ T) (move_kind γ K)
    arguments_turned G [] nil star h = h
    arguments_turned G [] nil (kind_pi A K) h = absurd h
    arguments_turned G [] (app N T) K h = absurd h
    arguments_turned G (Some M ∷ Ms) nil K h = absurd h
    arguments_turned G (None ∷ Ms) nil K h = absurd h
    arguments_turned G (Some M ∷ Ms) (app N T) star h = absurd h
    arguments_turned G (None ∷ Ms) (app N T) star h = absurd h
    arguments_turned G (Some M ∷ Ms) (app N T) (kind_pi A K) (m, h) = (moved_typed γ Σ Σ types kinds G M A m, subst (TypedArguments Σ (move_types γ G) (move_all γ Ms) (move_spine γ T)) (move_kind_instance γ A M K) (arguments_turned G Ms T (instantiate_kind A M K) h))
    arguments_turned G (None ∷ Ms) (app N T) (kind_pi A K) h = subst (TypedArguments Σ (move_types γ G) (move_all γ Ms) (move_spine γ T)) (move_kind_instance γ A N K) (arguments_turned G Ms T (instantiate_kind A N K) h)

    -- The lemma
    pub beside_turned : (X L : List LfType) (Ms Ns : List (Option Term)) (T : LfType) (K : Kind) → AreTypedBeside Σ X L Ms Ns T K → AreTypedBeside Σ (move_types γ X) (move_types γ L) (move_all γ Ms) (move_all γ Ns) (move_type γ T) (move_kind γ K)
    beside_turned X L Ms Ns T K b =
        let g : ℕ → Image = given_images X Ms zero in
        let h : ℕ → Image = given_images (move_types γ X) (move_all γ Ms) zero in
        let same : turned g ≡ h = fun_ext (given_turned X Ms zero) in
        let under : turned (lift_over (binders [] T) g) ≡ lift_over (binders [] (move_type γ T)) h = lifts_moved γ (binders [] T) g ∙ ap (lift_over (binders [] T)) same ∙ sym (over_same (binders [] T) h) ∙ ap (λ D. lift_over D h) (binders_turned [] T) in
        record {
          given = λ i B N t q.
              let (A, at, e) = type_from γ X i B t in
              let (M, r, z) = given_moved γ Ms i N q in
              subst (λ R. HasType Σ (move_types γ X) R (substitute_type reduce h B)) (sym z) (subst (HasType Σ (move_types γ X) (move γ M)) (move_type_substituted γ g A ∙ ap₂ (λ τ Z. substitute_type reduce τ Z) same (sym e)) (moved_typed γ Σ Σ types kinds X M (substitute_type reduce g A) (b.given i A M at r)));
          local = ap (move_types γ) b.local ∙ instance_turned (binders [] T) g ∙ ap₂ instance (binders_turned [] T) same;
          arguments = subst (λ G. TypedArguments Σ G (move_all γ Ns) (substitute_spine reduce (lift_over (binders [] (move_type γ T)) h) (target_arguments (move_type γ T))) (move_kind γ K)) (onto_moved γ L X)
              (subst (λ S. TypedArguments Σ (move_types γ (onto L X)) (move_all γ Ns) S (move_kind γ K)) (move_spine_substituted γ (lift_over (binders [] T) g) (target_arguments T) ∙ ap₂ (substitute_spine reduce) under (end_turned T)) (arguments_turned (onto L X) Ns (substitute_spine reduce (lift_over (binders [] T) g) (target_arguments T)) K b.arguments));
        }

-- what stands in front in a context of the signature itself
pub front_old : (Σ : Signature) (γ : ℕ → ℕ) → ((c : ℕ) → IsOld Σ c → γ c ≡ c) → (D G : List LfType) → IsContext Σ (onto D G) → move_types γ D ≡ D
front_old Σ γ old [] G c = refl
front_old Σ γ old (A ∷ D) G (c, a) = ap₂ (λ B H. B ∷ H) (same_old Σ γ (onto D G) A old a) (front_old Σ γ old D G c)
