-- The store of a case whose block variables are one and a pattern, and what it is made of: block variables and given terms, moved and renamed.
use Rattle.std.proofs.Common.{◌≡◌, ℕ, zero, suc, List, [], ◌∷◌, length, refl, sym, ap}
use Rattle.std.specs.Prelude.{true, false, Option, Some, None}
use Rattle.lf.specs.Syntax.{Term, LfType, Kind, Skeleton, skeleton, rename, rename_spine}
use Rattle.lf.specs.AtOnce.{shift_by, lift_renaming_by}
use Rattle.lf.specs.SkeletonTyping.{HeadSkeletons, RenamingBySkeletons}
use Rattle.lf.specs.Skeletons.{context_skeletons}
use Rattle.lf.specs.Variables.{target_arguments, onto, binders}
use Rattle.lf.proofs.SkeletonTyping.{renaming_keeps_skeletons}
use Rattle.lf_unification.specs.Lists.{followed}
use Rattle.lf_unification.specs.Unifiers.{Store}
use Rattle.lf_cases.specs.Case.{covered_places}
use Rattle.lf_cases.specs.Pattern.{given_at}
use Rattle.lf_coverage.specs.Heads.{HaveSkeletons}
use Rattle.lf_coverage.specs.MeetStore.{open_arguments, place_equations, given_equations}
use Rattle.lf_coverage.specs.SplitStore.{open_locals, open_spine, context_metavariables}
use Rattle.lf_coverage.proofs.Parts.{some_same}
use Rattle.lf_numbered.specs.NewBlock.{rename_all}
use Rattle.lf_numbered.specs.NumberedCallsStores.{identity_equations, move_blocks}
use Rattle.lf_numbered.specs.NumberedCase.{NumberedCase}
use Rattle.lf_numbered.specs.NumberedInstance.{block_at, move, move_all, move_spine}
use Rattle.lf_numbered.specs.OwnTerms.{BlockVariable, rename_blocks, terms_at}

-- The store, for the variables, the number of the clause's, a type and the lengths of what is local
abbrev pub store_form : (ℕ → ℕ) → NumberedCase → Kind → List LfType → ℕ → ℕ → ℕ → LfType → Store
store_form π J K X n l q T = record {
  metavariables = context_metavariables X;
  bindings = [];
  equations = followed (identity_equations π (rename_blocks (shift_by n) J.blocks) zero (rename_blocks (shift_by n) J.blocks)) (followed (given_equations X zero (rename_all (shift_by n) J.given)) (place_equations (open_locals (binders [] T)) (open_arguments l (rename_all (lift_renaming_by q (shift_by n)) J.arguments)) (open_spine (length (binders [] T)) (target_arguments T)) K));
}

-- the block variable of a number, moved and renamed
pub block_from : (ρ γ : ℕ → ℕ) (bs : List BlockVariable) (j : ℕ) (d : BlockVariable) → block_at (rename_blocks ρ (move_blocks γ bs)) j ≡ Some d → (b : BlockVariable) × (block_at bs j ≡ Some b) × (d.terms ≡ rename_spine ρ (move_spine γ b.terms))
block_from ρ γ [] j d e = absurd cc
block_from ρ γ (b ∷ bs) zero d e = (b, refl, ap (λ (c : BlockVariable). c.terms) (sym (some_same e)))
block_from ρ γ (b ∷ bs) (suc j) d e = block_from ρ γ bs j d e

pub terms_to : (ρ γ : ℕ → ℕ) (bs : List BlockVariable) (j : ℕ) (b : BlockVariable) → block_at bs j ≡ Some b → terms_at (rename_blocks ρ (move_blocks γ bs)) j ≡ Some (rename_spine ρ (move_spine γ b.terms))
terms_to ρ γ [] j b e = absurd cc
terms_to ρ γ (c ∷ bs) zero b e = ap (λ (d : BlockVariable). Some (rename_spine ρ (move_spine γ d.terms))) (some_same e)
terms_to ρ γ (c ∷ bs) (suc j) b e = terms_to ρ γ bs j b e

-- what is given, moved and renamed
pub given_from : (ρ γ : ℕ → ℕ) (Ms : List (Option Term)) (i : ℕ) (N : Term) → given_at (rename_all ρ (move_all γ Ms)) i ≡ Some N → (M : Term) × (given_at Ms i ≡ Some M) × (N ≡ rename ρ (move γ M))
given_from ρ γ [] i N e = absurd cc
given_from ρ γ (Some M ∷ Ms) zero N e = (M, refl, sym (some_same e))
given_from ρ γ (None ∷ Ms) zero N e = absurd cc
given_from ρ γ (Some M ∷ Ms) (suc i) N e = given_from ρ γ Ms i N e
given_from ρ γ (None ∷ Ms) (suc i) N e = given_from ρ γ Ms i N e

pub all_renamed : (κ : HeadSkeletons) (Γ Δ : List Skeleton) (ρ : ℕ → ℕ) → RenamingBySkeletons Γ Δ ρ → (Ms : List (Option Term)) → HaveSkeletons κ Γ Ms → HaveSkeletons κ Δ (rename_all ρ Ms)
all_renamed κ Γ Δ ρ r [] h = tt
all_renamed κ Γ Δ ρ r (Some M ∷ Ms) ((t, m), h) = ((t, renaming_keeps_skeletons κ Γ Δ ρ M t r m), all_renamed κ Γ Δ ρ r Ms h)
all_renamed κ Γ Δ ρ r (None ∷ Ms) h = all_renamed κ Γ Δ ρ r Ms h

pub places_stay : (γ : ℕ → ℕ) (Ms : List (Option Term)) → covered_places (move_all γ Ms) ≡ covered_places Ms
places_stay γ [] = refl
places_stay γ (Some M ∷ Ms) = ap (λ b. true ∷ b) (places_stay γ Ms)
places_stay γ (None ∷ Ms) = ap (λ b. false ∷ b) (places_stay γ Ms)

pub over_same : (L : List LfType) (X Y : List LfType) → context_skeletons X ≡ context_skeletons Y → context_skeletons (onto L X) ≡ context_skeletons (onto L Y)
over_same [] X Y e = e
over_same (A ∷ L) X Y e = ap (λ Γ. skeleton A ∷ Γ) (over_same L X Y e)
