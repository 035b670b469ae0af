-- Ground values of free variables, read in a context.
use Rattle.std.proofs.Common.{◌≡◌, ℕ, zero, suc, List, [], ◌∷◌, length, ◌+◌, Option, Some, None, refl, sym, ap, ◌∙◌, subst, arith}
use Rattle.lf.specs.Syntax.{LfType, Skeleton, skeleton, weaken}
use Rattle.lf.specs.Substitution.{Image, keep, put, substitute_type, reduce}
use Rattle.lf.specs.AtOnce.{in_front}
use Rattle.lf.specs.SkeletonTyping.{SkeletonAt, TermSkeleton, SubstitutionBySkeletons}
use Rattle.lf.specs.Skeletons.{constant_skeletons, context_skeletons}
use Rattle.lf.specs.Typing.{Signature, TypeAt, ImageHasType, IsSignature}
use Rattle.lf.specs.Variables.{onto}
use Rattle.lf.specs.Subordination.{Block}
use Rattle.lf.proofs.ToSkeletons.{typed_has_skeleton}
use Rattle.lf.proofs.TypeLaws.{skeleton_substituted, substitute_renamed_type}
use Rattle.lf_numbered.specs.EntryConstants.{EntryConstant, entry_constant}
use Rattle.lf_numbered.specs.NumberedCase.{AreGroundValues}
use Rattle.lf_numbered.specs.Reading.{read_type, variable_past, read_entry, entry_reading}
use Rattle.lf_numbered.proofs.Reading.{rename_read, read_type_renamed, skeleton_read}

-- one variable more in front of the context
pub reading_next : (first : ℕ) (Bs : List Block) (θ : ℕ → ℕ → Image) (n c : ℕ) → entry_reading first Bs θ (suc n) c ≡ rename_read suc (entry_reading first Bs θ n c)
reading_next first Bs θ n c = at (entry_constant zero first Bs c)
  where
    past : (x : Image) → variable_past (suc n) x ≡ suc (variable_past n x)
    past (keep v) = next v n
      where
        next : (v n : ℕ) → v + suc n ≡ suc (v + n)
        next v n = omega arith
    past (put a N) = refl

    at : (x : Option EntryConstant) → read_entry θ (suc n) x ≡ rename_read suc (read_entry θ n x)
    at None = refl
    at (Some e) = ap (λ v. Some (length e.block.some, v)) (past (θ e.number e.place))

pub inside_onto : (X G : List LfType) (i : ℕ) (t : Skeleton) → SkeletonAt (context_skeletons X) i t → SkeletonAt (context_skeletons (onto X G)) i t
inside_onto [] G i t g = absurd g
inside_onto (A ∷ X) G zero t g = g
inside_onto (A ∷ X) G (suc i) t g = inside_onto X G i t g

-- Values of free variables
module _ (Σ' : Signature) (ok' : IsSignature Σ') (G : List LfType) (first : ℕ) (Bs : List Block) (θ : ℕ → ℕ → Image) where
  pub values_fit : (X : List LfType) (σ : ℕ → Image) → AreGroundValues Σ' G (entry_reading first Bs θ) X σ → SubstitutionBySkeletons (constant_skeletons Σ') (context_skeletons (onto X G)) (context_skeletons G) σ
  values_fit [] σ e = subst (SubstitutionBySkeletons (constant_skeletons Σ') (context_skeletons G) (context_skeletons G)) (sym e) (λ i t g. g)
  values_fit (A ∷ X) σ (N, τ, v, n, e) = subst (SubstitutionBySkeletons (constant_skeletons Σ') (skeleton A ∷ context_skeletons (onto X G)) (context_skeletons G)) (sym e) (front (values_fit X τ v))
    where
      Z : LfType
      Z = read_type (entry_reading first Bs θ (length X)) A

      same : skeleton (substitute_type reduce τ Z) ≡ skeleton A
      same = skeleton_substituted reduce τ Z ∙ skeleton_read (entry_reading first Bs θ (length X)) A

      front : SubstitutionBySkeletons (constant_skeletons Σ') (context_skeletons (onto X G)) (context_skeletons G) τ → SubstitutionBySkeletons (constant_skeletons Σ') (skeleton A ∷ context_skeletons (onto X G)) (context_skeletons G) (in_front (put (skeleton A) N) τ)
      front ih zero t q = (q, subst (TermSkeleton (constant_skeletons Σ') (context_skeletons G) N) same (typed_has_skeleton Σ' G N (substitute_type reduce τ Z) n))
      front ih (suc i) t g = ih i t g

  pub value_past : (X : List LfType) (σ : ℕ → Image) → AreGroundValues Σ' G (entry_reading first Bs θ) X σ → (i : ℕ) → σ (i + length X) ≡ keep i
  value_past [] σ e i = ap (λ f. f (i + 0)) e ∙ ap keep (none i)
    where
      none : (i : ℕ) → i + 0 ≡ i
      none i = omega arith
  value_past (A ∷ X) σ (N, τ, v, n, e) i = ap (λ f. f (i + suc (length X))) e ∙ ap (in_front (put (skeleton A) N) τ) (next i (length X)) ∙ value_past X τ v i
    where
      next : (i n : ℕ) → i + suc n ≡ suc (i + n)
      next i n = omega arith

  pub values_typed : (X : List LfType) (σ : ℕ → Image) → AreGroundValues Σ' G (entry_reading first Bs θ) X σ → (i : ℕ) (A : LfType) → TypeAt X i A → ImageHasType Σ' G (σ i) (substitute_type reduce σ (read_type (entry_reading first Bs θ (length X)) A))
  values_typed [] σ e i A g = absurd g
  values_typed (B ∷ X) σ (N, τ, v, n, e) i A g = subst (λ ρ. ImageHasType Σ' G (ρ i) (substitute_type reduce ρ (read_type (entry_reading first Bs θ (suc (length X))) A))) (sym e) (at (λ j C k. values_typed X τ v j C k) i A g)
    where
      ρ : ℕ → Image
      ρ = in_front (put (skeleton B) N) τ

      moved : (C : LfType) → substitute_type reduce ρ (read_type (entry_reading first Bs θ (suc (length X))) (weaken C)) ≡ substitute_type reduce τ (read_type (entry_reading first Bs θ (length X)) C)
      moved C = ap (substitute_type reduce ρ) (read_type_renamed (entry_reading first Bs θ (length X)) (entry_reading first Bs θ (suc (length X))) suc C (reading_next first Bs θ (length X))) ∙ substitute_renamed_type reduce ρ suc (read_type (entry_reading first Bs θ (length X)) C)

      at : ((j : ℕ) (C : LfType) → TypeAt X j C → ImageHasType Σ' G (τ j) (substitute_type reduce τ (read_type (entry_reading first Bs θ (length X)) C))) → (i : ℕ) (A : LfType) → TypeAt (B ∷ X) i A → ImageHasType Σ' G (ρ i) (substitute_type reduce ρ (read_type (entry_reading first Bs θ (suc (length X))) A))
      at ih zero A q = subst (ImageHasType Σ' G (put (skeleton B) N)) (sym (ap (λ Y. substitute_type reduce ρ (read_type (entry_reading first Bs θ (suc (length X))) Y)) q ∙ moved B)) (skeleton_substituted reduce τ (read_type (entry_reading first Bs θ (length X)) B) ∙ skeleton_read (entry_reading first Bs θ (length X)) B, n)
      at ih (suc j) A (C, k, q) = subst (ImageHasType Σ' G (τ j)) (sym (ap (λ Y. substitute_type reduce ρ (read_type (entry_reading first Bs θ (suc (length X))) Y)) q ∙ moved C)) (ih j C k)
