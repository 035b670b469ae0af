-- Values of a clause's own variables in front of those of a case: where what stands outside the clause is put into the case's variables, both together are
-- typed values.
use Rattle.std.proofs.Common.{◌≡◌, ℕ, zero, suc, ◌+◌, List, [], ◌∷◌, length, refl, sym, ap, ◌∙◌, subst, arith}
use Rattle.lf.specs.Syntax.{Term, LfType, weaken, rename}
use Rattle.lf.specs.Substitution.{Image, keep, put, rename_image, substitute, substitute_image, substitute_type, reduce, after}
use Rattle.lf.specs.Skeletons.{constant_skeletons, family_skeletons, context_skeletons}
use Rattle.lf.specs.AtOnce.{in_front, shift_by, lift_renaming_by}
use Rattle.lf.specs.Typing.{Signature, TypeAt, ImageHasType, IsTypedSubstitution, IsType, IsContext, IsSignature}
use Rattle.lf.specs.Variables.{onto}
use Rattle.lf.specs.Worlds.{lift_over, instance}
use Rattle.lf.proofs.Closed.{Agree, agree_type}
use Rattle.lf.proofs.Renaming.{substitute_renamed}
use Rattle.lf.proofs.SkeletonTypes.{substitutions_compose_type}
use Rattle.lf.proofs.Substitution.{TypedSubstitution, lifted_substitution_typed, skeleton_context_of, substitution_keeps_types, typed_substitution_by_skeletons}
use Rattle.lf.proofs.ToSkeletons.{type_by_skeletons}
use Rattle.lf.proofs.TypeLaws.{substitute_renamed_type}
use Rattle.lf_cases.proofs.OutputItems.{lift_after}
use Rattle.lf_coverage.proofs.GroundTyped.{front_typed}
use Rattle.lf_coverage.proofs.Meeting.{joined, joined_far}
use mathlib.Core.Path.{fun_ext}

-- a variable is itself one further in, where one stands in front
past_first : (A : LfType) (O : List LfType) (χ ψ : ℕ → Image) (x : Image) → substitute_image (joined (A ∷ O) χ ψ) (rename_image suc x) ≡ substitute_image (joined O (λ i. χ (suc i)) ψ) x
past_first A O χ ψ (keep j) = refl
past_first A O χ ψ (put a N) = ap (put a) (substitute_renamed reduce (joined (A ∷ O) χ ψ) suc N)

-- what stands outside the clause agrees
abbrev pub AgreePast : List LfType → ℕ → (ℕ → Image) → (ℕ → Image) → (ℕ → Image) → Type 0
AgreePast outer n φ ψ χ = (k : ℕ) (A : LfType) → TypeAt outer k A → substitute_image ψ (φ k) ≡ χ (k + n)

next_agrees : (outer : List LfType) (n : ℕ) (φ ψ χ : ℕ → Image) → AgreePast outer (suc n) φ ψ χ → AgreePast outer n φ ψ (λ i. χ (suc i))
next_agrees outer n φ ψ χ h k A g = h k A g ∙ ap χ (next k n)
  where
    next : (k n : ℕ) → k + suc n ≡ suc (k + n)
    next k n = omega arith

pub put_agrees : (outer : List LfType) (φ ψ : ℕ → Image) (L : List LfType) (χ : ℕ → Image) → AgreePast outer (length L) φ ψ χ → Agree (onto L outer) (after (joined (instance L φ) χ ψ) (lift_over L φ)) χ
put_agrees outer φ ψ [] χ h i A g = h i A g ∙ ap χ (none i)
  where
    none : (i : ℕ) → i + 0 ≡ i
    none i = omega arith
put_agrees outer φ ψ (B ∷ L) χ h zero A g = refl
put_agrees outer φ ψ (B ∷ L) χ h (suc i) A (C, g, e) = past_first (substitute_type reduce (lift_over L φ) B) (instance L φ) χ ψ (lift_over L φ i) ∙ put_agrees outer φ ψ L (λ j. χ (suc j)) (next_agrees outer (length L) φ ψ χ h) i C g

module _ (Σ : Signature) (ok : IsSignature Σ) (outer Q H : List LfType) (co : IsContext Σ outer) (cq : IsContext Σ Q) (ch : IsContext Σ H) (φ ψ : ℕ → Image) (tφ : IsTypedSubstitution Σ outer Q φ) (tψ : IsTypedSubstitution Σ Q H ψ) where
  pub placed_over : (L : List LfType) → IsContext Σ (onto L outer) → IsContext Σ (onto (instance L φ) Q) × TypedSubstitution Σ ok (onto L outer) (onto (instance L φ) Q) (lift_over L φ)
  placed_over [] c = (cq, record { typed = tφ; source_skeletons = skeleton_context_of Σ ok outer co; target_skeletons = skeleton_context_of Σ ok Q cq })
  placed_over (A ∷ L) (c, t) = let (d, k) = placed_over L c in ((d, substitution_keeps_types Σ ok (onto L outer) (onto (instance L φ) Q) (lift_over L φ) A k t), lifted_substitution_typed Σ ok (onto L outer) (onto (instance L φ) Q) (lift_over L φ) A k (type_by_skeletons Σ (onto L outer) A t))

  behind_first : (A : LfType) (C : List LfType) (χ : ℕ → Image) → IsTypedSubstitution Σ (A ∷ C) H χ → IsTypedSubstitution Σ C H (λ i. χ (suc i))
  behind_first A C χ t i B g = subst (ImageHasType Σ H (χ (suc i))) (substitute_renamed_type reduce χ suc B) (t (suc i) (weaken B) (B, g, refl))

  -- the type of the clause, put beside the case and then filled, is that of the values
  put_both : (L : List LfType) → IsContext Σ (onto L outer) → (χ : ℕ → Image) → IsTypedSubstitution Σ (onto (instance L φ) Q) H (joined (instance L φ) χ ψ) → AgreePast outer (length L) φ ψ χ → (B : LfType) → IsType Σ (onto L outer) B → substitute_type reduce (joined (instance L φ) χ ψ) (substitute_type reduce (lift_over L φ) B) ≡ substitute_type reduce χ B
  put_both L c χ t h B b =
      let O : List LfType = onto (instance L φ) Q in
      let (co, k) = placed_over L c in
      substitutions_compose_type (family_skeletons Σ) (constant_skeletons Σ) (context_skeletons (onto L outer)) (context_skeletons O) (context_skeletons H) (lift_over L φ) (joined (instance L φ) χ ψ) B (typed_substitution_by_skeletons Σ ok (onto L outer) O (lift_over L φ) k.typed) (typed_substitution_by_skeletons Σ ok O H (joined (instance L φ) χ ψ) t) (type_by_skeletons Σ (onto L outer) B b)
      ∙ agree_type Σ reduce (onto L outer) (after (joined (instance L φ) χ ψ) (lift_over L φ)) χ B (put_agrees outer φ ψ L χ h) b

  pub put_typed : (L : List LfType) → IsContext Σ (onto L outer) → (χ : ℕ → Image) → IsTypedSubstitution Σ (onto L outer) H χ → AgreePast outer (length L) φ ψ χ → IsTypedSubstitution Σ (onto (instance L φ) Q) H (joined (instance L φ) χ ψ)
  put_typed [] c χ t h = tψ
  put_typed (B ∷ L) (c, b) χ t h =
      let χ' : ℕ → Image = λ i. χ (suc i) in
      let O : List LfType = instance L φ in
      let B' : LfType = substitute_type reduce (lift_over L φ) B in
      let h' : AgreePast outer (length L) φ ψ (λ i. χ (suc i)) = next_agrees outer (length L) φ ψ χ h in
      let t' : IsTypedSubstitution Σ (onto L outer) H (λ i. χ (suc i)) = behind_first B (onto L outer) χ t in
      let here : ImageHasType Σ H (χ zero) (substitute_type reduce (joined O χ' ψ) B') = subst (ImageHasType Σ H (χ zero)) (substitute_renamed_type reduce χ suc B ∙ sym (put_both L c χ' (put_typed L c χ' t' h') h' B b)) (t zero (weaken B) refl) in
      subst (IsTypedSubstitution Σ (B' ∷ onto O Q) H) (fun_ext (front O)) (front_typed Σ ok [] (λ C m. absurd m) (onto O Q) H B' (χ zero) (joined O χ' ψ) (put_typed L c χ' t' h') here)
    where
      front : (O : List LfType) (i : ℕ) → in_front (χ zero) (joined O (λ j. χ (suc j)) ψ) i ≡ joined (substitute_type reduce (lift_over L φ) B ∷ O) χ ψ i
      front O zero = refl
      front O (suc i) = refl

  pub both_put : (L : List LfType) → IsContext Σ (onto L outer) → (χ : ℕ → Image) → IsTypedSubstitution Σ (onto L outer) H χ → AgreePast outer (length L) φ ψ χ → (B : LfType) → IsType Σ (onto L outer) B → substitute_type reduce (joined (instance L φ) χ ψ) (substitute_type reduce (lift_over L φ) B) ≡ substitute_type reduce χ B
  both_put L c χ t h B b = put_both L c χ (put_typed L c χ t h) h B b

-- what is moved past a context
pub past_put : (O L : List LfType) (χ ψ : ℕ → Image) (M : Term) → substitute reduce (lift_over L (joined O χ ψ)) (rename (lift_renaming_by (length L) (shift_by (length O))) M) ≡ substitute reduce (lift_over L ψ) M
past_put O L χ ψ M = substitute_renamed reduce (lift_over L (joined O χ ψ)) (lift_renaming_by (length L) (shift_by (length O))) M ∙ ap (λ k. substitute reduce k M) (lift_after L (shift_by (length O)) (joined O χ ψ) ∙ ap (lift_over L) (fun_ext (joined_far O χ ψ)))
