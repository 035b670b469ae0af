-- What stands outside an entry's clause, where a block variable of the case gives it: it is moved with the block variable, and values are put into it.
use Rattle.std.proofs.Common.{◌≡◌, ℕ, zero, suc, ◌+◌, List, [], ◌∷◌, length, refl, sym, ap, ◌∙◌}
use Rattle.std.specs.Prelude.{Some}
use Rattle.lf.specs.Syntax.{Term, Spine, nil, app, LfType, skeleton}
use Rattle.lf.specs.Substitution.{Image, keep, put, rename_image, substitute, substitute_image, substitute_spine, reduce}
use Rattle.lf.specs.AtOnce.{shift_by}
use Rattle.lf.specs.Typing.{TypeAt}
use Rattle.lf.specs.Variables.{onto}
use Rattle.lf.proofs.Renaming.{substitute_renamed}
use Rattle.lf_checks.specs.ModeForms.{argument_count}
use Rattle.lf_cases.specs.Cover.{before}
use Rattle.lf_coverage.proofs.Parts.{none_some, some_same}
use Rattle.lf_numbered.specs.EntryConstants.{entry_images}
use Rattle.lf_numbered.specs.EntryPatterns.{last_of, but_last, some_images}
use Rattle.lf_numbered.specs.NumberedInstance.{block_at}
use Rattle.lf_numbered.specs.OwnTerms.{BlockVariable, put_in_blocks}
use Rattle.lf_numbered.specs.WritingRoom.{move_image}
use Rattle.lf_numbered.proofs.EntryPatternsAmong.{others_count}
use Rattle.lf_numbered.proofs.EntryValues.{after_entries}

pub before_moved : (γ : ℕ → ℕ) (later : List LfType) (θ : ℕ → Image) → before later (λ i. move_image γ (θ i)) ≡ (λ i. move_image γ (before later θ i))
before_moved γ [] θ = refl
before_moved γ (D ∷ ds) θ = before_moved γ ds (λ i. θ (suc i))

-- values put in
last_put : (υ : ℕ → Image) (M : Term) (S : Spine) → last_of (substitute reduce υ M) (substitute_spine reduce υ S) ≡ substitute reduce υ (last_of M S)
last_put υ M nil = refl
last_put υ M (app N S) = last_put υ N S

others_put : (υ : ℕ → Image) (M : Term) (S : Spine) → but_last (substitute reduce υ M) (substitute_spine reduce υ S) ≡ substitute_spine reduce υ (but_last M S)
others_put υ M nil = refl
others_put υ M (app N S) = ap (app (substitute reduce υ M)) (others_put υ N S)

suc_same : {i j : ℕ} → suc i ≡ suc j → i ≡ j
suc_same e = cc

no_suc : {i : ℕ} → zero ≡ suc i → ⊥
no_suc e = cc

some_put : (υ : ℕ → Image) (O : List LfType) (U : Spine) → argument_count U ≡ length O → (i : ℕ) (A : LfType) → TypeAt O i A → substitute_image υ (some_images O U i) ≡ some_images O (substitute_spine reduce υ U) i
some_put υ [] U c i A g = absurd g
some_put υ (B ∷ O) nil c i A g = absurd (no_suc c)
some_put υ (B ∷ O) (app M U) c zero A g = ap (put (skeleton B)) (sym (last_put υ M U))
some_put υ (B ∷ O) (app M U) c (suc i) A (D, g, e) = some_put υ O (but_last M U) (others_count M U ∙ suc_same c) i D g ∙ ap (λ V. some_images O V i) (sym (others_put υ M U))

pub images_put : (υ : ℕ → Image) (m : ℕ) (U : Spine) (es O : List LfType) → argument_count U ≡ length O → (i : ℕ) (A : LfType) → TypeAt (onto es O) i A → substitute_image υ (entry_images m U es (some_images O U) i) ≡ entry_images m (substitute_spine reduce υ U) es (some_images O (substitute_spine reduce υ U)) i
images_put υ m U [] O c i A g = some_put υ O U c i A g
images_put υ m U (E ∷ es) O c zero A g = after_entries m U (substitute_spine reduce υ U) (E ∷ es) (some_images O U) υ refl zero
images_put υ m U (E ∷ es) O c (suc i) A (D, g, e) = images_put υ m U es O c i D g

-- behind the clause's own variables
pub image_behind : (σ : ℕ → Image) (k : ℕ) (y : Image) → substitute_image σ (rename_image (shift_by k) y) ≡ substitute_image (λ i. σ (i + k)) y
image_behind σ k (keep i) = refl
image_behind σ k (put a N) = ap (put a) (substitute_renamed reduce σ (shift_by k) N)

pub put_at : (υ : ℕ → Image) (bs : List BlockVariable) (k : ℕ) (b : BlockVariable) → block_at bs k ≡ Some b → block_at (put_in_blocks υ bs) k ≡ Some (record { block = b.block; terms = substitute_spine reduce υ b.terms })
put_at υ [] k b e = absurd (none_some e)
put_at υ (d ∷ bs) zero b e = ap (λ (c : BlockVariable). Some (record { block = c.block; terms = substitute_spine reduce υ c.terms })) (some_same e)
put_at υ (d ∷ bs) (suc k) b e = put_at υ bs k b e
