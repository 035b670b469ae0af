-- The `some` terms of an instance mention only what the types of its entries do, where each `some` variable has a strict
-- occurrence in an entry, the entries before it as bound variables.
use Rattle.lf_checks.specs.Order.{KeepsVariables}
use Rattle.lf_checks.specs.Strict.{strict_type, strict, strict_spine}
use Rattle.lf_checks.specs.Worlded.{past_types}
use Rattle.lf.specs.AtOnce.{in_front}
use Rattle.lf_checks.specs.Clause.{among}
use Rattle.std.proofs.Common.{◌≡◌, ℕ, zero, suc, List, [], ◌∷◌, refl, sym, ap, subst, inl, inr}
use Rattle.std.specs.Prelude.{Bool, true, ◌⊎◌}
use Rattle.lf.specs.Syntax.{Term, Spine, nil, app, LfType, Kind, pi, atom, kind_pi, star, Skeleton, skeleton, rename}
use Rattle.lf.specs.Substitution.{Image, keep, put, rename_image, lift, substitute_type, substitute_spine, substitute_kind, reduce}
use Rattle.lf.specs.SkeletonTyping.{SkeletonAt, TermSkeleton, SubstitutionBySkeletons}
use Rattle.lf.specs.Typing.{Signature, SpineFitsKind, IsType, IsKind, IsContext, IsSignature}
use Rattle.lf.specs.Variables.{onto, under, Uses, UsesSpine, UsesType, everything, nothing, hide}
use Rattle.lf.specs.Worlds.{lift_over, under_all}
use Rattle.lf.proofs.TypeLaws.{substitute_identity_kind}
use Rattle.lf.specs.Skeletons.{constant_skeletons, context_skeletons}
use Rattle.lf.proofs.SkeletonTyping.{renaming_keeps_skeletons, lift_by_skeletons}
use Rattle.lf.proofs.Partial.{skeleton_context_of_beside, partial_substitution_keeps_types, uses_type_all}
use Rattle.lf_cases.proofs.Assemble.{AllTyped, AllTyped-has_skeleton}
use Rattle.lf_cases.proofs.Calls.{instance_cons, typed_cons}
use Rattle.lf.proofs.Kept.{uses_unren}
use Rattle.lf_checks.proofs.StrictTypes.{either_cases}
use Rattle.lf_checks.proofs.StrictValues.{strict_value, kept_hide}
use Rattle.lf_checks.proofs.Sizes.{kept_lift}

module _ (Σ : Signature) (ok : IsSignature Σ) where
  place_ok : (C X : List LfType) (θ : ℕ → Image) (A : LfType) → IsContext Σ C → IsContext Σ X → AllTyped Σ ok X C θ → IsType Σ X A → IsType Σ C (substitute_type reduce θ A)
  place_ok C X θ A c cx t a = partial_substitution_keeps_types Σ ok [] [] everything X C θ A (record { typed = λ i D g e. t i D g; sk = AllTyped-has_skeleton Σ ok [] X C θ t; source_skeletons = skeleton_context_of_beside Σ ok [] X cx; target_skeletons = skeleton_context_of_beside Σ ok [] C c }) (uses_type_all everything A (λ i. refl)) a

  value_kind : (B F V : ℕ → Bool) (C : List LfType) (Δ : List Skeleton) (σ : ℕ → Image) (x : ℕ) (a : Skeleton) (N : Term) → IsContext Σ C → SubstitutionBySkeletons (constant_skeletons Σ) (context_skeletons C) Δ σ → KeepsVariables B σ → KeepsVariables F σ → σ x ≡ put a N → TermSkeleton (constant_skeletons Σ) Δ N a → SkeletonAt (context_skeletons C) x a → (S : Spine) (K : Kind) (X : List LfType) (θ : ℕ → Image) → IsContext Σ X → AllTyped Σ ok X C θ → IsKind Σ X K → SpineFitsKind Σ C S (substitute_kind reduce θ K) → strict_spine B F x S ≡ true → UsesSpine V (substitute_spine reduce σ S) → Uses V N
  value_kind B F V C Δ σ x a N c w kb kf q n g nil K X θ cx t k s e u = absurd cc
  value_kind B F V C Δ σ x a N c w kb kf q n g (app M S) star X θ cx t k s e u = absurd s
  value_kind B F V C Δ σ x a N c w kb kf q n g (app M S) (kind_pi A K) X θ cx t (p, k) (m, s) e (u1, u2) = by (either_cases (strict B F x M) (strict_spine B F x S) e) (λ r. strict_value Σ ok B F V C Δ σ x a N M (substitute_type reduce θ A) c (place_ok C X θ A c cx t p) w kb kf q n g m r u1) (λ r. value_kind B F V C Δ σ x a N c w kb kf q n g S K (A ∷ X) (in_front (put (skeleton A) M) θ) (cx, p) (typed_cons Σ ok X C θ A M t m) k (subst (SpineFitsKind Σ C S) (instance_cons Σ ok X C θ A M K t p k m) s) r u2)
    where
      by : (strict B F x M ≡ true) ⊎ (strict_spine B F x S ≡ true) → (strict B F x M ≡ true → Uses V N) → (strict_spine B F x S ≡ true → Uses V N) → Uses V N
      by (inl r) f h = f r
      by (inr r) f h = h r

  pub value_type : (B F V : ℕ → Bool) (C : List LfType) (Δ : List Skeleton) (σ : ℕ → Image) (x : ℕ) (a : Skeleton) (N : Term) → IsContext Σ C → SubstitutionBySkeletons (constant_skeletons Σ) (context_skeletons C) Δ σ → KeepsVariables B σ → KeepsVariables F σ → σ x ≡ put a N → TermSkeleton (constant_skeletons Σ) Δ N a → SkeletonAt (context_skeletons C) x a → (A : LfType) → IsType Σ C A → strict_type B F x A ≡ true → UsesType V (substitute_type reduce σ A) → Uses V N
  value_type B F V C Δ σ x a N c w kb kf q n g (atom d S) (K, k, s) e u = value_kind B F V C Δ σ x a N c w kb kf q n g S K [] keep tt (λ i X h. absurd h) (ok.kinds_ok d K k) (subst (SpineFitsKind Σ C S) (sym (substitute_identity_kind reduce K)) s) e u
  value_type B F V C Δ σ x a N c w kb kf q n g (pi A1 A2) (t1, t2) e (u1, u2) = by (either_cases (strict_type B F x A1) (strict_type (under B) (hide F) (suc x) A2) e) (λ r. value_type B F V C Δ σ x a N c w kb kf q n g A1 t1 r u1) (λ r. uses_unren V (under V) suc N (λ i p. p) (value_type (under B) (hide F) (under V) (A1 ∷ C) (skeleton A1 ∷ Δ) (lift σ) (suc x) a (rename suc N) (c, t1) (lift_by_skeletons (constant_skeletons Σ) (skeleton A1) (context_skeletons C) Δ σ w) (kept_lift B σ kb) (kept_hide Σ ok F σ kf) (ap (rename_image suc) q) (renaming_keeps_skeletons (constant_skeletons Σ) Δ (skeleton A1 ∷ Δ) suc N a (λ i t h. h) n) g A2 t2 r u2))
    where
      by : (strict_type B F x A1 ≡ true) ⊎ (strict_type (under B) (hide F) (suc x) A2 ≡ true) → (strict_type B F x A1 ≡ true → Uses V N) → (strict_type (under B) (hide F) (suc x) A2 ≡ true → Uses V N) → Uses V N
      by (inl r) f h = f r
      by (inr r) f h = h r

-- under the entries before it
pub moved_over : List LfType → Term → Term
moved_over [] N = N
moved_over (E ∷ es) N = rename suc (moved_over es N)

over_value : (es : List LfType) (θ : ℕ → Image) (x : ℕ) (a : Skeleton) (N : Term) → θ x ≡ put a N → lift_over es θ (past_types es x) ≡ put a (moved_over es N)
unfolding moved_over
over_value [] θ x a N e = e
over_value (E ∷ es) θ x a N e = ap (rename_image suc) (over_value es θ x a N e)

over_uses : (es : List LfType) (V : ℕ → Bool) (N : Term) → Uses (under_all es V) (moved_over es N) → Uses V N
unfolding moved_over
over_uses [] V N u = u
over_uses (E ∷ es) V N u = over_uses es V N (uses_unren (under_all es V) (under (under_all es V)) suc (moved_over es N) (λ i e. e) u)

over_kept : (es : List LfType) (θ : ℕ → Image) → KeepsVariables (among es) (lift_over es θ)
over_kept [] θ i e = absurd cc
over_kept (E ∷ es) θ zero e = (zero, refl)
over_kept (E ∷ es) θ (suc i) e = let (j, q) = over_kept es θ i e in (suc j, ap (rename_image suc) q)

-- The lemma: at one entry
pub some_term : (Σ : Signature) (ok : IsSignature Σ) (O es : List LfType) (E : LfType) (Δ : List Skeleton) (θ : ℕ → Image) (V : ℕ → Bool) (x : ℕ) (a : Skeleton) (N : Term) → IsContext Σ (onto es O) → IsType Σ (onto es O) E → SubstitutionBySkeletons (constant_skeletons Σ) (context_skeletons (onto es O)) Δ (lift_over es θ) → θ x ≡ put a N → TermSkeleton (constant_skeletons Σ) Δ (moved_over es N) a → SkeletonAt (context_skeletons (onto es O)) (past_types es x) a → strict_type (among es) nothing (past_types es x) E ≡ true → UsesType (under_all es V) (substitute_type reduce (lift_over es θ) E) → Uses V N
some_term Σ ok O es E Δ θ V x a N c t w q n g e u = over_uses es V N (value_type Σ ok (among es) nothing (under_all es V) (onto es O) Δ (lift_over es θ) (past_types es x) a (moved_over es N) c w (over_kept es θ) (λ i r. absurd cc) (over_value es θ x a N q) n g E t e u)

pub moved_none : (N : Term) → moved_over [] N ≡ N
unfolding moved_over
moved_none N = refl

pub moved_one : (E : LfType) (es : List LfType) (N : Term) → moved_over (E ∷ es) N ≡ rename suc (moved_over es N)
unfolding moved_over
moved_one E es N = refl
