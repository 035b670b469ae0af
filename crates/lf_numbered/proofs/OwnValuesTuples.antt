-- Tuples are read back.
use Rattle.std.proofs.Common.{◌≡◌, ℕ, ◌+◌, List, [], ◌∷◌, length, Option, Some, None, refl, sym, ap, ◌∙◌, subst}
use Rattle.lf.specs.SkeletonTyping.{HeadSkeletons, TermSkeleton}
use Rattle.lf.specs.Skeletons.{constant_skeletons, context_skeletons}
use Rattle.lf.specs.Substitution.{Image, substitute, reduce}
use Rattle.lf.specs.Syntax.{Term, Spine, lambda, nil, app, LfType, Skeleton, arrow, skeleton, rename}
use Rattle.lf.specs.Variables.{onto}
use Rattle.lf.specs.Worlds.{instance, lift_over}
use Rattle.lf_unification.specs.Offering.{lambda_over}
use Rattle.lf_unification.proofs.Raise.{lambda_over_injective}
use Rattle.lf_cases.specs.Case.{HasArguments}
use Rattle.lf_cases.specs.Missing.{put_in}
use Rattle.lf_coverage.specs.Heads.{HaveSkeletons}
use Rattle.lf_coverage.specs.SplitStore.{answer_values}
use Rattle.lf_coverage.proofs.Transfer.{lift_instance}
use Rattle.lf_numbered.specs.NumberedArguments.{read_over, read_all}
use Rattle.lf_numbered.specs.OwnTerms.{blocks_of}
use Rattle.lf_numbered.specs.OwnValuesTuples.{AreReadFrom, TupleIsOfAnswer}
use Rattle.lf_numbered.specs.Reading.{weaken_read, read, entry_reading}

-- Closing over a local context
closed_put : (L : List LfType) (σ : ℕ → Image) (M : Term) → substitute reduce σ (lambda_over L M) ≡ lambda_over L (substitute reduce (lift_over L σ) M)
closed_put [] σ M = refl
closed_put (A ∷ L) σ M = closed_put L σ (lambda M)

closed_read : (L : List LfType) (f : ℕ → Option (ℕ × ℕ)) (M : Term) → read f (lambda_over L M) ≡ lambda_over L (read (read_over L f) M)
closed_read [] f M = refl
closed_read (A ∷ L) f M = closed_read L f (lambda M)

closed_skeleton : (κ : HeadSkeletons) (L X : List LfType) (M : Term) (a : Skeleton) → TermSkeleton κ (context_skeletons (onto L X)) M a → (b : Skeleton) × TermSkeleton κ (context_skeletons X) (lambda_over L M) b
closed_skeleton κ [] X M a m = (a, m)
closed_skeleton κ (A ∷ L) X M a m = closed_skeleton κ L X (lambda M) (arrow (skeleton A) a) m

over_instance : (L : List LfType) (α : ℕ → Image) (f : ℕ → Option (ℕ × ℕ)) → read_over (instance L α) f ≡ read_over L f
over_instance [] α f = refl
over_instance (A ∷ L) α f = ap (λ g c. weaken_read (g c)) (over_instance L α f)

-- the arguments, one by one
module _ (κ : HeadSkeletons) (X L : List LfType) (g f d : ℕ → Option (ℕ × ℕ)) (ρ : ℕ → ℕ) (σ τ α ν : ℕ → Image) (terms : (M : Term) (t : Skeleton) → TermSkeleton κ (context_skeletons X) M t → substitute reduce ν (read d (substitute reduce α M)) ≡ rename ρ (read f (substitute reduce τ M))) where
  one_same : (M : Term) (a : Skeleton) → TermSkeleton κ (context_skeletons (onto L X)) M a → substitute reduce σ (read g (lambda_over L M)) ≡ rename ρ (read f (substitute reduce τ (lambda_over L M))) → substitute reduce (lift_over L σ) (read (read_over L g) M) ≡ substitute reduce (lift_over L ν) (read (read_over L d) (substitute reduce (lift_over L α) M))
  one_same M a m e =
      let (b, n) = closed_skeleton κ L X M a m in
      lambda_over_injective L (substitute reduce (lift_over L σ) (read (read_over L g) M)) (substitute reduce (lift_over L ν) (read (read_over L d) (substitute reduce (lift_over L α) M)))
      (sym (ap (substitute reduce σ) (closed_read L g M) ∙ closed_put L σ (read (read_over L g) M))
      ∙ e
      ∙ sym (terms (lambda_over L M) b n)
      ∙ ap (λ N. substitute reduce ν (read d N)) (closed_put L α M)
      ∙ ap (substitute reduce ν) (closed_read L d (substitute reduce (lift_over L α) M))
      ∙ closed_put L ν (read (read_over L d) (substitute reduce (lift_over L α) M)))

  all_same : (Ms : List (Option Term)) (T : Spine) → HaveSkeletons κ (context_skeletons (onto L X)) Ms → AreReadFrom g σ f ρ τ L Ms → HasArguments (lift_over L σ) (read_all (read_over L g) Ms) T → HasArguments (lift_over L ν) (read_all (read_over L d) (put_in (lift_over L α) Ms)) T
  all_same [] nil h r x = tt
  all_same [] (app N T) h r x = x
  all_same (Some M ∷ Ms) nil h r x = x
  all_same (None ∷ Ms) nil h r x = x
  all_same (Some M ∷ Ms) (app N T) ((a, m), h) (e, r) (q, x) = (q ∙ one_same M a m e, all_same Ms T h r x)
  all_same (None ∷ Ms) (app N T) h r x = all_same Ms T h r x

pub tuple_is_of_answer : TupleIsOfAnswer
tuple_is_of_answer Σ₁ Σ' V S G w first θ f ρ k σ τ C D Ψ after order β h r a l q T x =
    let α : ℕ → Image = λ i. answer_values after order (i + k) in
    let ν : ℕ → Image = a.values_of in
    let d : ℕ → Option (ℕ × ℕ) = entry_reading first (blocks_of D.blocks) θ (length D.variables) in
    subst (λ Ms. HasArguments (lift_over D.local ν) (read_all (read_over D.local d) Ms) T) (sym q)
    (subst (λ L. HasArguments (lift_over L ν) (read_all (read_over L d) (put_in (lift_over C.local α) C.arguments)) T) (sym l)
    (subst (λ z. HasArguments z (read_all (read_over (instance C.local α) d) (put_in (lift_over C.local α) C.arguments)) T) (sym (lift_instance C.local α ν))
    (subst (λ z. HasArguments (lift_over C.local ν) (read_all z (put_in (lift_over C.local α) C.arguments)) T) (sym (over_instance C.local α d))
    (all_same (constant_skeletons Σ₁) C.variables C.local (entry_reading first (blocks_of C.blocks) θ (length C.variables)) f d ρ σ τ α ν a.terms C.arguments T h r x))))
