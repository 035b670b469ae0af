-- Eta-long forms, values and spines on own terms, and the own terms of block variables that are renamed or come last.
use Rattle.std.proofs.Common.{◌≡◌, ℕ, zero, suc, List, [], ◌∷◌, ◌++◌, length, ◌+◌, Option, Some, None, ◌⊎◌, inl, inr, refl, sym, ap, ap₂, ◌∙◌, subst}
use Rattle.lf.specs.Syntax.{constant, variable, metavariable, Term, Spine, lambda, root, nil, app, LfType, Kind, pi, atom, kind_pi, star, Skeleton, skeleton, weaken, rename, rename_spine}
use Rattle.lf.specs.Substitution.{Image, keep, put, rename_image, lift, substitute, substitute_spine, substitute_type, reduce, after}
use Rattle.lf.specs.Eta.{add_last, append, eta_expand}
use Rattle.lf.specs.Typing.{Signature, TypeAt, HasType, SpineType, SpineFitsKind, instantiate_type, instantiate_kind, IsType}
use Rattle.lf.specs.Subordination.{Block, Member}
use Rattle.lf.specs.Worlds.{lift_over}
use Rattle.lf.proofs.Eta.{rename_add_last, rename_eta_expand}
use Rattle.lf.proofs.Renaming.{OnPut-all}
use Rattle.lf.proofs.TypeLaws.{skeleton_renamed}
use Rattle.lf_cases.specs.Case.{as_term}
use Rattle.lf_coverage.proofs.GroundTyped.{past_one}
use Rattle.lf_numbered.specs.EntryConstants.{EntryConstant, entry_constant, entry_images}
use Rattle.lf_numbered.specs.NumberedCase.{some_spine}
use Rattle.lf_numbered.specs.OwnTerms.{BlockVariable, blocks_of, terms_at, terms_of_entry, own_terms, weaken_own, BeginsWith, OnOwnTerms, SpineOnOwnTerms, TypeOnOwnTerms, ImageOnOwnTerms, rename_blocks}
use Rattle.lf_numbered.proofs.NumberingBlocks.{blocks_renamed}
use Rattle.lf_numbered.proofs.OwnLong.{own_add, variable_own as own_long}
use Rattle.lf_numbered.proofs.OwnTerms.{rename_own, RedOwn, image_under, plug_own, reduce_own}
use Rattle.lf_numbered.proofs.Reading.{IsOld}

pub own_as_term : (o : ℕ → Option Spine) (a : Skeleton) (y : Image) → ImageOnOwnTerms o y → OnOwnTerms o (as_term a y)
own_as_term o a (keep j) h = own_long o a j nil tt
own_as_term o a (put b N) h = h

pub own_some : (o : ℕ → Option Spine) (O : List LfType) (ω : ℕ → Image) → ((i : ℕ) (A : LfType) → TypeAt O i A → OnOwnTerms o (as_term (skeleton A) (ω i))) → SpineOnOwnTerms o (some_spine O ω)
own_some o [] ω h = tt
own_some o (A ∷ O) ω h = own_add o (some_spine O (λ i. ω (suc i))) (as_term (skeleton A) (ω zero)) (own_some o O (λ i. ω (suc i)) (λ i B g. subst (λ a. OnOwnTerms o (as_term a (ω (suc i)))) (skeleton_renamed suc B) (h (suc i) (weaken B) (B, g, refl)))) (subst (λ a. OnOwnTerms o (as_term a (ω zero))) (skeleton_renamed suc A) (h zero (weaken A) refl))

pub append_nothing : (U : Spine) → U ≡ append U nil
append_nothing nil = refl
append_nothing (app M U) = ap (app M) (append_nothing U)

-- A term over the signature without entries, with values on own terms put in
module _ (Σ : Signature) where
  values_under : (Γ : List LfType) (A : LfType) (o : ℕ → Option Spine) (σ : ℕ → Image) → ((i : ℕ) (B : LfType) → TypeAt Γ i B → ImageOnOwnTerms o (σ i)) → (i : ℕ) (B : LfType) → TypeAt (A ∷ Γ) i B → ImageOnOwnTerms (λ c. weaken_own (o c)) (lift σ i)
  values_under Γ A o σ v zero B g = tt
  values_under Γ A o σ v (suc i) B (D, g, e) = image_under o (σ i) (v i D g)

  mutual
    pub put_old : (Γ : List LfType) (o : ℕ → Option Spine) (σ : ℕ → Image) (M : Term) (A : LfType) → ((c : ℕ) → IsOld Σ c → o c ≡ None) → ((i : ℕ) (B : LfType) → TypeAt Γ i B → ImageOnOwnTerms o (σ i)) → HasType Σ Γ M A → OnOwnTerms o (substitute reduce σ M)
    put_old Γ o σ (lambda M) (pi A B) h v m = put_old (A ∷ Γ) (λ c. weaken_own (o c)) (lift σ) M B (λ c p. ap weaken_own (h c p)) (values_under Γ A o σ v) m
    put_old Γ o σ (lambda M) (atom a T) h v m = absurd m
    put_old Γ o σ (root k S) (pi A B) h v m = absurd m
    put_old Γ o σ (root (constant c) S) (atom a T) h v (A, g, s) = (subst (λ u. BeginsWith u (substitute_spine reduce σ S)) (sym (h c (A, g))) tt, put_old_spine Γ o σ S A (atom a T) h v s)
    put_old Γ o σ (root (metavariable c) S) (atom a T) h v (A, g, s) = absurd g
    put_old Γ o σ (root (variable i) S) (atom a T) h v (A, g, s) = plug_own o (σ i) (substitute_spine reduce σ S) (OnPut-all RedOwn reduce_own (σ i)) (v i A g) (put_old_spine Γ o σ S A (atom a T) h v s)

    put_old_spine : (Γ : List LfType) (o : ℕ → Option Spine) (σ : ℕ → Image) (S : Spine) (A C : LfType) → ((c : ℕ) → IsOld Σ c → o c ≡ None) → ((i : ℕ) (B : LfType) → TypeAt Γ i B → ImageOnOwnTerms o (σ i)) → SpineType Σ Γ S A C → SpineOnOwnTerms o (substitute_spine reduce σ S)
    put_old_spine Γ o σ nil A C h v s = tt
    put_old_spine Γ o σ (app M S) (pi A B) C h v (m, s) = (put_old Γ o σ M A h v m, put_old_spine Γ o σ S (instantiate_type A M B) C h v s)
    put_old_spine Γ o σ (app M S) (atom a T) C h v s = absurd s

  put_old_kind : (Γ : List LfType) (o : ℕ → Option Spine) (σ : ℕ → Image) (S : Spine) (K : Kind) → ((c : ℕ) → IsOld Σ c → o c ≡ None) → ((i : ℕ) (B : LfType) → TypeAt Γ i B → ImageOnOwnTerms o (σ i)) → SpineFitsKind Σ Γ S K → SpineOnOwnTerms o (substitute_spine reduce σ S)
  put_old_kind Γ o σ nil K h v s = tt
  put_old_kind Γ o σ (app M S) (kind_pi A K) h v (m, s) = (put_old Γ o σ M A h v m, put_old_kind Γ o σ S (instantiate_kind A M K) h v s)
  put_old_kind Γ o σ (app M S) star h v s = absurd s

  pub put_old_type : (Γ : List LfType) (o : ℕ → Option Spine) (σ : ℕ → Image) (A : LfType) → ((c : ℕ) → IsOld Σ c → o c ≡ None) → ((i : ℕ) (B : LfType) → TypeAt Γ i B → ImageOnOwnTerms o (σ i)) → IsType Σ Γ A → TypeOnOwnTerms o (substitute_type reduce σ A)
  put_old_type Γ o σ (pi A B) h v (a, b) = (put_old_type Γ o σ A h v a, put_old_type (A ∷ Γ) (λ c. weaken_own (o c)) (lift σ) B (λ c p. ap weaken_own (h c p)) (values_under Γ A o σ v) b)
  put_old_type Γ o σ (atom a S) h v (K, e, s) = put_old_kind Γ o σ S K h v s

-- Own terms of renamed block variables, and of the last one
renamed_at : (ρ : ℕ → ℕ) (bs : List BlockVariable) (k : ℕ) → terms_at (rename_blocks ρ bs) k ≡ rename_own ρ (terms_at bs k)
renamed_at ρ [] k = refl
renamed_at ρ (b ∷ bs) zero = refl
renamed_at ρ (b ∷ bs) (suc k) = renamed_at ρ bs k

renamed_entry : (ρ : ℕ → ℕ) (bs : List BlockVariable) (y : Option EntryConstant) → terms_of_entry (rename_blocks ρ bs) y ≡ rename_own ρ (terms_of_entry bs y)
renamed_entry ρ bs None = refl
renamed_entry ρ bs (Some e) = renamed_at ρ bs e.number

pub renamed_terms : (first : ℕ) (ρ : ℕ → ℕ) (bs : List BlockVariable) (c : ℕ) → own_terms first (rename_blocks ρ bs) c ≡ rename_own ρ (own_terms first bs c)
renamed_terms first ρ bs c = ap (λ Bs. terms_of_entry (rename_blocks ρ bs) (entry_constant zero first Bs c)) (blocks_renamed ρ bs) ∙ renamed_entry ρ bs (entry_constant zero first (blocks_of bs) c)

pub last_terms : (bs : List BlockVariable) (b : BlockVariable) → terms_at (bs ++ b ∷ []) (length (blocks_of bs)) ≡ Some b.terms
last_terms [] b = refl
last_terms (d ∷ bs) b = last_terms bs b

pub blocks_end : (bs : List BlockVariable) (b : BlockVariable) → blocks_of (bs ++ b ∷ []) ≡ blocks_of bs ++ b.block ∷ []
blocks_end [] b = refl
blocks_end (d ∷ bs) b = ap (λ Bs. d.block ∷ Bs) (blocks_end bs b)

pub member_end : (Bs : List Block) (B D : Block) → Member D (Bs ++ B ∷ []) → Member D Bs ⊎ (D ≡ B)
member_end [] B D (inl e) = inr e
member_end [] B D (inr i) = absurd i
member_end (A ∷ Bs) B D (inl e) = inl (inl e)
member_end (A ∷ Bs) B D (inr i) = at (member_end Bs B D i)
  where
    at : Member D Bs ⊎ (D ≡ B) → Member D (A ∷ Bs) ⊎ (D ≡ B)
    at (inl j) = inl (inr j)
    at (inr e) = inr e

-- Spines of values, renamed
pub rename_as_term : (ρ : ℕ → ℕ) (a : Skeleton) (y : Image) → rename ρ (as_term a y) ≡ as_term a (rename_image ρ y)
rename_as_term ρ a (keep j) = rename_eta_expand ρ a (variable j) nil
rename_as_term ρ a (put b N) = refl

pub rename_some : (ρ : ℕ → ℕ) (O : List LfType) (υ : ℕ → Image) → rename_spine ρ (some_spine O υ) ≡ some_spine O (λ i. rename_image ρ (υ i))
rename_some ρ [] υ = refl
rename_some ρ (A ∷ O) υ = rename_add_last ρ (some_spine O (λ i. υ (suc i))) (as_term (skeleton A) (υ zero)) ∙ ap₂ add_last (rename_some ρ O (λ i. υ (suc i))) (rename_as_term ρ (skeleton A) (υ zero))

-- the entries on values, and an instance on these
pub images_of_instance : (m : ℕ) (U : Spine) (es : List LfType) (υ δ : ℕ → Image) (i : ℕ) → after (entry_images m U es δ) (lift_over es υ) i ≡ entry_images m U es (after δ υ) i
images_of_instance m U [] υ δ i = refl
images_of_instance m U (E ∷ es) υ δ zero = refl
images_of_instance m U (E ∷ es) υ δ (suc i) = past_one (put (skeleton E) (eta_expand (skeleton E) (constant (m + length es)) U)) (entry_images m U es δ) (lift_over es υ i) ∙ images_of_instance m U es υ δ i
