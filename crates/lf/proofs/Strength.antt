-- Strengthening: a term in whose type only families of a self-contained set occur uses only variables of these families;
-- what uses only some of the variables is typed in a context that has these alone.
use Rattle.std.proofs.Common.{◌≡◌, ℕ, zero, suc, List, ◌∷◌, refl, sym, ap, ◌∙◌, subst, inl, inr}
use Rattle.std.specs.Prelude.{Bool, true, Some}
use Rattle.lf.specs.Syntax.{constant, variable, metavariable, Term, Spine, lambda, root, nil, app, LfType, Kind, pi, atom, kind_pi, star, Skeleton, skeleton, lift_renaming, rename, rename_spine, rename_type}
use Rattle.lf.specs.Substitution.{Image, lift, single, substitute_type, reduce}
use Rattle.lf.specs.Typing.{Signature, TypeAt, instantiate_type, HasType, SpineType, IsSignature}
use Rattle.lf.specs.Variables.{target, FamiliesIn, KindFamiliesIn, under, Uses, UsesSpine, IsTypedRenamingOn}
use Rattle.lf.specs.Subordination.{Block, below_through, below_in_constant, below_in_kind, below_in_entry, SelfContained, IsBelowTest, IsDeclared, Quantifies, KindQuantifies}
use Rattle.lf.proofs.TypeLaws.{skeleton_renamed, rename_single_type, rename_weakened}
use Rattle.lf.proofs.Closed.{closed_type_renamed}
use Rattle.lf.proofs.Target.{target_of}
use Rattle.lf.proofs.Target.{target_renamed}

pub families_renamed : (S : ℕ → Bool) (ρ : ℕ → ℕ) (A : LfType) → FamiliesIn S A → FamiliesIn S (rename_type ρ A)
families_renamed S ρ (pi A B) (a, b) = (families_renamed S ρ A a, families_renamed S (lift_renaming ρ) B b)
families_renamed S ρ (atom a T) h = h

pub families_substituted : (S : ℕ → Bool) (r : Skeleton → Term → Spine → Term) (σ : ℕ → Image) (A : LfType) → FamiliesIn S A → FamiliesIn S (substitute_type r σ A)
families_substituted S r σ (pi A B) (a, b) = (families_substituted S r σ A a, families_substituted S r (lift σ) B b)
families_substituted S r σ (atom a T) h = h

pub family_target : (S : ℕ → Bool) (A : LfType) → FamiliesIn S A → S (target A) ≡ true
family_target S (pi A B) (a, b) = family_target S B b
family_target S (atom a T) h = h

-- each variable whose family is in S is one of U, and has only families of S in its type
abbrev pub Rich : (ℕ → Bool) → (ℕ → Bool) → List LfType → Type 0
Rich S U G = (i : ℕ) (A : LfType) → TypeAt G i A → S (target A) ≡ true → (U i ≡ true) × FamiliesIn S A

Rich-push : (S : ℕ → Bool) (U : ℕ → Bool) (G : List LfType) (B : LfType) → FamiliesIn S B → Rich S U G → Rich S (under U) (B ∷ G)
Rich-push S U G B b h zero A e s = (refl, subst (FamiliesIn S) (sym e) (families_renamed S suc B b))
Rich-push S U G B b h (suc i) A (C, g, e) s =
    let (u, f) = h i C g (subst (λ f. S f ≡ true) (ap target e ∙ target_renamed suc C) s) in
    (u, subst (FamiliesIn S) (sym e) (families_renamed S suc C f))

module _ (Σ : Signature) (S : ℕ → Bool) (types_in : (c : ℕ) (A : LfType) → Σ.types c ≡ Some A → S (target A) ≡ true → FamiliesIn S A) where
  sp_target : (G : List LfType) (T : Spine) (A C : LfType) → SpineType Σ G T A C → target A ≡ target C
  sp_target G nil A C e = ap target e
  sp_target G (app M T) (pi A B) C (m, r) = sym (target_of reduce _ B) ∙ sp_target G T (instantiate_type A M B) C r
  sp_target G (app M T) (atom a U) C r = absurd r

  mutual
    pub uses_only : (U : ℕ → Bool) (G : List LfType) (M : Term) (A : LfType) → Rich S U G → FamiliesIn S A → HasType Σ G M A → Uses U M
    uses_only U G (lambda M) (pi A B) h (a, b) m = uses_only (under U) (A ∷ G) M B (Rich-push S U G A a h) b m
    uses_only U G (lambda M) (atom a T) h f m = absurd m
    uses_only U G (root k T) (pi A B) h f m = absurd m
    uses_only U G (root (constant c) T) (atom a V) h f (A, e, r) = uses_only_spine U G T A (atom a V) h (types_in c A e (subst (λ f. S f ≡ true) (sym (sp_target G T A (atom a V) r)) f)) r
    uses_only U G (root (metavariable c) T) (atom a V) h f (A, e, r) = absurd e
    uses_only U G (root (variable i) T) (atom a V) h f (A, g, r) =
        let (u, k) = h i A g (subst (λ f. S f ≡ true) (sym (sp_target G T A (atom a V) r)) f) in
        (u, uses_only_spine U G T A (atom a V) h k r)

    uses_only_spine : (U : ℕ → Bool) (G : List LfType) (T : Spine) (A C : LfType) → Rich S U G → FamiliesIn S A → SpineType Σ G T A C → UsesSpine U T
    uses_only_spine U G nil A C h f r = tt
    uses_only_spine U G (app M T) (pi A B) C h (a, b) (m, r) = (uses_only U G M A h a m, uses_only_spine U G T (instantiate_type A M B) C h (families_substituted S reduce (single (skeleton A) M) B b) r)
    uses_only_spine U G (app M T) (atom a V) C h f r = absurd r

typed_renaming_on_under_binder : (U : ℕ → Bool) (G D : List LfType) (ρ : ℕ → ℕ) (B : LfType) → IsTypedRenamingOn U G D ρ → IsTypedRenamingOn (under U) (B ∷ G) (rename_type ρ B ∷ D) (lift_renaming ρ)
typed_renaming_on_under_binder U G D ρ B h zero A e u = ap (rename_type (lift_renaming ρ)) e ∙ rename_weakened ρ B
typed_renaming_on_under_binder U G D ρ B h (suc i) A (C, g, e) u = (rename_type ρ C, h i C g u, ap (rename_type (lift_renaming ρ)) e ∙ rename_weakened ρ C)

pub rename_instance : (ρ : ℕ → ℕ) (A : LfType) (M : Term) (B : LfType) → rename_type ρ (instantiate_type A M B) ≡ instantiate_type (rename_type ρ A) (rename ρ M) (rename_type (lift_renaming ρ) B)
rename_instance ρ A M B = rename_single_type ρ (skeleton A) M B ∙ ap (λ t. substitute_type reduce (single t (rename ρ M)) (rename_type (lift_renaming ρ) B)) (sym (skeleton_renamed ρ A))

module _ (Σ : Signature) (ok : IsSignature Σ) where
  mutual
    pub strengthening_keeps_typing : (U : ℕ → Bool) (G D : List LfType) (ρ : ℕ → ℕ) (M : Term) (A : LfType) → IsTypedRenamingOn U G D ρ → Uses U M → HasType Σ G M A → HasType Σ D (rename ρ M) (rename_type ρ A)
    strengthening_keeps_typing U G D ρ (lambda M) (pi A B) w u m = strengthening_keeps_typing (under U) (A ∷ G) (rename_type ρ A ∷ D) (lift_renaming ρ) M B (typed_renaming_on_under_binder U G D ρ A w) u m
    strengthening_keeps_typing U G D ρ (lambda M) (atom a T) w u m = m
    strengthening_keeps_typing U G D ρ (root h S) (pi A B) w u m = m
    strengthening_keeps_typing U G D ρ (root (constant c) S) (atom a T) w u (A, e, s) = (rename_type ρ A, subst (λ X. Σ.types c ≡ Some X) (sym (closed_type_renamed Σ ρ A (ok.types_ok c A e))) e, SpineType-only U G D ρ S A (atom a T) w u s)
    strengthening_keeps_typing U G D ρ (root (metavariable c) S) (atom a T) w u (A, e, s) = absurd e
    strengthening_keeps_typing U G D ρ (root (variable i) S) (atom a T) w u (A, g, s) = (rename_type ρ A, w i A g u.0, SpineType-only U G D ρ S A (atom a T) w u.1 s)

    SpineType-only : (U : ℕ → Bool) (G D : List LfType) (ρ : ℕ → ℕ) (S : Spine) (A C : LfType) → IsTypedRenamingOn U G D ρ → UsesSpine U S → SpineType Σ G S A C → SpineType Σ D (rename_spine ρ S) (rename_type ρ A) (rename_type ρ C)
    SpineType-only U G D ρ nil A C w u e = ap (rename_type ρ) e
    SpineType-only U G D ρ (app M S) (pi A B) C w u (m, s) = (strengthening_keeps_typing U G D ρ M A w u.0 m, subst (λ X. SpineType Σ D (rename_spine ρ S) X (rename_type ρ C)) (rename_instance ρ A M B) (SpineType-only U G D ρ S (instantiate_type A M B) C w u.1 s))
    SpineType-only U G D ρ (app M S) (atom a T) C w u s = absurd s

-- The families below one family are self-contained.
pub all_quantified : (P : ℕ → Bool) (A : LfType) → ((a b : ℕ) → Quantifies a b A → P b ≡ true → P a ≡ true) → P (target A) ≡ true → FamiliesIn P A
all_quantified P (pi A B) h p = (all_quantified P A (λ a b q. h a b (inr (inl q))) (h (target A) (target B) (inl (refl, refl)) p), all_quantified P B (λ a b q. h a b (inr (inr q))) p)
all_quantified P (atom a T) h p = p

all_kind : (P : ℕ → Bool) (f : ℕ) (K : Kind) → ((a b : ℕ) → KindQuantifies f a b K → P b ≡ true → P a ≡ true) → P f ≡ true → KindFamiliesIn P K
all_kind P f (kind_pi A K) h p = (all_quantified P A (λ a b q. h a b (inr (inl q))) (h (target A) f (inl (refl, refl)) p), all_kind P f K (λ a b q. h a b (inr (inr q))) p)
all_kind P f star h p = tt

pub below_contained : (Σ : Signature) (W : List Block) (S : ℕ → Bool) (f : ℕ) → IsBelowTest Σ W S f → ((a : ℕ) → S a ≡ true → IsDeclared Σ a) → SelfContained Σ W S
below_contained Σ W S f t d = record {
  declared = d;
  kinds_in = λ a K e s. all_kind S a K (λ b c q p. (t b).1 (below_through (below_in_kind a K e q) ((t c).0 p))) s;
  types_in = λ c A e s. all_quantified S A (λ a b q p. (t a).1 (below_through (below_in_constant c A e q) ((t b).0 p))) s;
  entries_in = λ B E i j s. all_quantified S E (λ a b q p. (t a).1 (below_through (below_in_entry B E i j q) ((t b).0 p))) s;
}
