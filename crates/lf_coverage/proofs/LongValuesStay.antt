-- The variables of a context as terms, each its eta-long form: where they are put in, what has skeletons stays what it is.
use Rattle.std.proofs.Common.{◌≡◌, ℕ, zero, suc, List, [], ◌∷◌, refl, ap, ap₂, ◌∙◌}
use Rattle.std.specs.Prelude.{Option, Some, None}
use Rattle.lf.specs.SkeletonTyping.{TermSkeleton, TypeBySkeletons}
use Rattle.lf.specs.Skeletons.{constant_skeletons, family_skeletons, context_skeletons}
use Rattle.lf.specs.Substitution.{keep, put, lift, rename_image, substitute, substitute_type, reduce}
use Rattle.lf.specs.Syntax.{variable, Term, nil, app, LfType, atom, Skeleton, base, arrow, skeleton}
use Rattle.lf.specs.Typing.{Signature, IsContext}
use Rattle.lf.specs.Variables.{onto}
use Rattle.lf.specs.Worlds.{lift_over, instance}
use Rattle.lf.proofs.Eta.{rename_eta_expand}
use Rattle.lf.proofs.Renaming.{substitute_identity}
use Rattle.lf.proofs.ToSkeletons.{type_by_skeletons}
use Rattle.lf.proofs.TypeLaws.{substitute_identity_type}
use Rattle.lf_cases.specs.Missing.{put_in}
use Rattle.lf_cases.proofs.LongValues.{long_at, long_past, long_same}
use Rattle.lf_coverage.specs.Heads.{HaveSkeletons}
use mathlib.Core.Path.{fun_ext}

moved_at : (O : List LfType) (ρ : ℕ → ℕ) (i : ℕ) → rename_image suc (long_at O (λ j. keep (ρ j)) i) ≡ long_at O (λ j. keep (suc (ρ j))) i
moved_at [] ρ i = refl
moved_at (A ∷ O) ρ zero = ap (put (skeleton A)) (rename_eta_expand suc (skeleton A) (variable (ρ zero)) nil)
moved_at (A ∷ O) ρ (suc i) = moved_at O (λ j. ρ (suc j)) i

moved_past : (L O : List LfType) (ρ : ℕ → ℕ) (i : ℕ) → rename_image suc (long_past L O (λ j. keep (ρ j)) i) ≡ long_past L O (λ j. keep (suc (ρ j))) i
moved_past [] O ρ i = moved_at O ρ i
moved_past (A ∷ L) O ρ zero = refl
moved_past (A ∷ L) O ρ (suc i) = moved_past L O (λ j. ρ (suc j)) i

-- So they stand under a local context
long_under : (L O : List LfType) → lift_over L (long_at O keep) ≡ long_past L O keep
long_under [] O = refl
long_under (A ∷ L) O = ap lift (long_under L O) ∙ fun_ext one
  where
    one : (i : ℕ) → lift (long_past L O keep) i ≡ long_past (A ∷ L) O keep i
    one zero = refl
    one (suc i) = moved_past L O (λ j. j) i

module _ (Σ : Signature) (O : List LfType) where
  pub type_stays : (L : List LfType) (A : LfType) → TypeBySkeletons (family_skeletons Σ) (constant_skeletons Σ) (context_skeletons (onto L O)) A → substitute_type reduce (lift_over L (long_at O keep)) A ≡ A
  type_stays L A k =
      ap (λ f. substitute_type reduce f A) (long_under L O)
      ∙ long_same (constant_skeletons Σ) (family_skeletons Σ) L O (context_skeletons (onto L O)) keep A (λ i t g. g) k
      ∙ substitute_identity_type reduce A

  pub term_stays : (L : List LfType) (M : Term) (t : Skeleton) → TermSkeleton (constant_skeletons Σ) (context_skeletons (onto L O)) M t → substitute reduce (lift_over L (long_at O keep)) M ≡ M
  term_stays L M t m =
      ap (λ f. substitute reduce f M) (long_under L O)
      ∙ argument (long_same (constant_skeletons Σ) (λ a. Some (arrow t (base 0))) L O (context_skeletons (onto L O)) keep (atom 0 (app M nil)) (λ i u g. g) (arrow t (base 0), refl, (m, refl)))
      ∙ substitute_identity reduce M
    where
      argument : atom 0 (app (substitute reduce (long_past L O keep) M) nil) ≡ atom 0 (app (substitute reduce keep M) nil) → substitute reduce (long_past L O keep) M ≡ substitute reduce keep M
      argument e = cc

  pub terms_stay : (L : List LfType) (Ms : List (Option Term)) → HaveSkeletons (constant_skeletons Σ) (context_skeletons (onto L O)) Ms → put_in (lift_over L (long_at O keep)) Ms ≡ Ms
  terms_stay L [] h = refl
  terms_stay L (Some M ∷ Ms) ((t, m), h) = ap₂ (λ N Ns. Some N ∷ Ns) (term_stays L M t m) (terms_stay L Ms h)
  terms_stay L (None ∷ Ms) h = ap (λ Ns. None ∷ Ns) (terms_stay L Ms h)

  pub local_stays : (L : List LfType) → IsContext Σ (onto L O) → instance L (long_at O keep) ≡ L
  local_stays [] c = refl
  local_stays (A ∷ L) (c, t) = ap₂ (λ X Y. X ∷ Y) (type_stays L A (type_by_skeletons Σ (onto L O) A t)) (local_stays L c)
