-- Block variables that are renamed, and what is renamed and has its constants moved: it makes no difference which comes first.
use Rattle.std.proofs.Common.{◌≡◌, ℕ, zero, suc, List, [], ◌∷◌, ◌++◌, length, refl, sym, ap, ap₂, ◌∙◌}
use Rattle.std.specs.Prelude.{Option, Some, None}
use Rattle.lf.specs.Syntax.{Term, LfType, rename, rename_spine, rename_type}
use Rattle.lf.specs.AtOnce.{lift_renaming_by}
use Rattle.lf_cases.specs.OutputGoal.{renumber}
use Rattle.lf_cases.specs.Pattern.{is_given, given_at}
use Rattle.lf_coverage.proofs.Parts.{some_same}
use Rattle.lf_numbered.specs.NewBlock.{rename_all}
use Rattle.lf_numbered.specs.NumberedCallsStores.{move_blocks}
use Rattle.lf_numbered.specs.NumberedInstance.{block_at, move_all, move_spine, move_type, move_types}
use Rattle.lf_numbered.specs.OwnTerms.{BlockVariable, rename_blocks}
use Rattle.lf_numbered.proofs.MovedConstants.{length_moved}
use Rattle.lf_numbered.proofs.WritingMove.{move_renamed, move_spine_renamed, move_type_renamed}

pub renamed_at : (ρ : ℕ → ℕ) (bs : List BlockVariable) (k : ℕ) (b : BlockVariable) → block_at bs k ≡ Some b → block_at (rename_blocks ρ bs) k ≡ Some (record { block = b.block; terms = rename_spine ρ b.terms })
renamed_at ρ [] k b e = absurd cc
renamed_at ρ (c ∷ bs) zero b e = ap (λ (d : BlockVariable). Some (record { block = d.block; terms = rename_spine ρ d.terms })) (some_same e)
renamed_at ρ (c ∷ bs) (suc k) b e = renamed_at ρ bs k b e

pub renamed_from : (ρ : ℕ → ℕ) (bs : List BlockVariable) (k : ℕ) (d : BlockVariable) → block_at (rename_blocks ρ bs) k ≡ Some d → (b : BlockVariable) × (block_at bs k ≡ Some b) × (d ≡ record { block = b.block; terms = rename_spine ρ b.terms })
renamed_from ρ [] k d e = absurd cc
renamed_from ρ (b ∷ bs) zero d e = (b, refl, sym (some_same e))
renamed_from ρ (b ∷ bs) (suc k) d e = renamed_from ρ bs k d e

pub renamed_length : (ρ : ℕ → ℕ) (bs : List BlockVariable) → length (rename_blocks ρ bs) ≡ length bs
renamed_length ρ [] = refl
renamed_length ρ (b ∷ bs) = ap suc (renamed_length ρ bs)

pub moved_length : (γ : ℕ → ℕ) (bs : List BlockVariable) → length (move_blocks γ bs) ≡ length bs
moved_length γ [] = refl
moved_length γ (b ∷ bs) = ap suc (moved_length γ bs)

pub is_given_renamed : (ρ : ℕ → ℕ) (Ms : List (Option Term)) (i : ℕ) → is_given (rename_all ρ Ms) i ≡ is_given Ms i
is_given_renamed ρ [] i = refl
is_given_renamed ρ (Some M ∷ Ms) zero = refl
is_given_renamed ρ (None ∷ Ms) zero = refl
is_given_renamed ρ (Some M ∷ Ms) (suc i) = is_given_renamed ρ Ms i
is_given_renamed ρ (None ∷ Ms) (suc i) = is_given_renamed ρ Ms i

-- given terms that are renamed
pub given_renamed : (ρ : ℕ → ℕ) (Ms : List (Option Term)) (i : ℕ) (M : Term) → given_at Ms i ≡ Some M → given_at (rename_all ρ Ms) i ≡ Some (rename ρ M)
given_renamed ρ [] i M e = absurd cc
given_renamed ρ (Some N ∷ Ms) zero M e = ap (λ P. Some (rename ρ P)) (some_same e)
given_renamed ρ (None ∷ Ms) zero M e = absurd cc
given_renamed ρ (Some N ∷ Ms) (suc i) M e = given_renamed ρ Ms i M e
given_renamed ρ (None ∷ Ms) (suc i) M e = given_renamed ρ Ms i M e

pub given_from : (ρ : ℕ → ℕ) (Ms : List (Option Term)) (i : ℕ) (N : Term) → given_at (rename_all ρ Ms) i ≡ Some N → (M : Term) × (given_at Ms i ≡ Some M) × (N ≡ rename ρ M)
given_from ρ [] i N e = absurd cc
given_from ρ (Some M ∷ Ms) zero N e = (M, refl, sym (some_same e))
given_from ρ (None ∷ Ms) zero N e = absurd cc
given_from ρ (Some M ∷ Ms) (suc i) N e = given_from ρ Ms i N e
given_from ρ (None ∷ Ms) (suc i) N e = given_from ρ Ms i N e

-- moved and renamed
pub added_commute : (γ : ℕ → ℕ) (ρ : ℕ → ℕ) (d : BlockVariable) → move_spine γ d.terms ≡ d.terms → (bs : List BlockVariable) → move_blocks γ (rename_blocks ρ bs ++ d ∷ []) ≡ rename_blocks ρ (move_blocks γ bs) ++ d ∷ []
added_commute γ ρ d e [] = ap (λ S. record { block = d.block; terms = S } ∷ []) e
added_commute γ ρ d e (b ∷ bs) = ap₂ (λ S cs. record { block = b.block; terms = S } ∷ cs) (move_spine_renamed γ ρ b.terms) (added_commute γ ρ d e bs)

pub all_commute : (γ ρ : ℕ → ℕ) (Ms : List (Option Term)) → move_all γ (rename_all ρ Ms) ≡ rename_all ρ (move_all γ Ms)
all_commute γ ρ [] = refl
all_commute γ ρ (Some M ∷ Ms) = ap₂ (λ N Ns. Some N ∷ Ns) (move_renamed γ ρ M) (all_commute γ ρ Ms)
all_commute γ ρ (None ∷ Ms) = ap (λ Ns. None ∷ Ns) (all_commute γ ρ Ms)

pub local_commutes : (γ ρ : ℕ → ℕ) (D : List LfType) → move_types γ (renumber ρ D) ≡ renumber ρ (move_types γ D)
local_commutes γ ρ [] = refl
local_commutes γ ρ (A ∷ D) = ap₂ (λ B E. B ∷ E) (move_type_renamed γ (lift_renaming_by (length D) ρ) A ∙ ap (λ l. rename_type (lift_renaming_by l ρ) (move_type γ A)) (sym (length_moved γ D))) (local_commutes γ ρ D)
