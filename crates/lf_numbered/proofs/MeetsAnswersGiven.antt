-- What the equations of given terms say, what a pattern uses where all is used, and how many arguments there are.
use Rattle.std.proofs.Common.{◌≡◌, ℕ, zero, suc, List, [], ◌∷◌, refl, sym, ap, ◌∙◌}
use Rattle.std.specs.Prelude.{Option, Some, None}
use Rattle.lf.specs.Syntax.{Term, Spine, nil, app, LfType, Kind, kind_pi, star, Skeleton, skeleton, rename}
use Rattle.lf.specs.Entries.{kind_quantifiers}
use Rattle.lf.specs.Substitution.{Image, single, substitute, reduce}
use Rattle.lf.specs.SkeletonTyping.{HeadSkeletons, TermSkeleton}
use Rattle.lf.specs.Typing.{Signature, SpineFitsKind, instantiate_kind}
use Rattle.lf_checks.specs.ModeForms.{argument_count}
use Rattle.lf_cases.specs.Missing.{put_in}
use Rattle.lf_cases.specs.Pattern.{given_at}
use Rattle.lf_coverage.specs.Heads.{HaveSkeletons}
use Rattle.lf_coverage.proofs.Parts.{none_some, some_same}
use Rattle.lf_numbered.specs.NewBlock.{rename_all}
use Rattle.lf_numbered.specs.NumberedInstance.{move, move_all}
use Rattle.lf_numbered.proofs.MeetsAnswersForm.{ρ}
use Rattle.lf_numbered.proofs.MeetsAnswersEquations.{kind_put}

-- a given term, put in, moved and renamed
pub given_from : (γ : ℕ → ℕ) (τ : ℕ → Image) (ρ : ℕ → ℕ) (κ : HeadSkeletons) (Γ : List Skeleton) (Ms : List (Option Term)) → HaveSkeletons κ Γ Ms → (i : ℕ) (M : Term) → given_at (put_in τ (move_all γ Ms)) i ≡ Some M → (N : Term) × (given_at Ms i ≡ Some N) × (given_at (rename_all ρ (move_all γ Ms)) i ≡ Some (rename ρ (move γ N))) × (M ≡ substitute reduce τ (move γ N)) × ((t : Skeleton) × TermSkeleton κ Γ N t)
given_from γ τ ρ κ Γ [] h i M e = absurd (none_some e)
given_from γ τ ρ κ Γ (Some N ∷ Ms) (t, h) zero M e = (N, refl, refl, sym (some_same e), t)
given_from γ τ ρ κ Γ (None ∷ Ms) h zero M e = absurd (none_some e)
given_from γ τ ρ κ Γ (Some N ∷ Ms) (t, h) (suc i) M e = given_from γ τ ρ κ Γ Ms h i M e
given_from γ τ ρ κ Γ (None ∷ Ms) h (suc i) M e = given_from γ τ ρ κ Γ Ms h i M e

pub fits_count : (Σ : Signature) (G : List LfType) (S : Spine) (K : Kind) → SpineFitsKind Σ G S K → argument_count S ≡ kind_quantifiers K
fits_count Σ G nil (kind_pi A K) s = absurd s
fits_count Σ G nil star s = refl
fits_count Σ G (app M S) (kind_pi A K) (m, s) = ap suc (fits_count Σ G S (instantiate_kind A M K) s ∙ kind_put (single (skeleton A) M) K)
fits_count Σ G (app M S) star s = absurd s

pub suc_same : {i j : ℕ} → suc i ≡ suc j → i ≡ j
suc_same e = cc

pub no_suc : {i : ℕ} → zero ≡ suc i → ⊥
no_suc e = cc
