-- The newest variable of a context can be dropped where nothing mentions it.
use Rattle.std.proofs.Common.{◌≡◌, ℕ, zero, suc, List, [], ◌∷◌, length, Option, Some, None, Bool, true, false, refl, sym, ap, ap₂, ◌∙◌, subst}
use mathlib.Core.Path.{fun_ext}
use Rattle.lf.specs.Substitution.{reduce, rename_image}
use Rattle.lf.specs.Syntax.{LfType, Spine, Term, app, constant, lambda, lift_renaming, metavariable, nil, rename, rename_spine, rename_type, root, variable, weaken}
use Rattle.lf.specs.Typing.{HasType, IsContext, IsSignature, IsType, Signature, TypeAt}
use Rattle.lf.specs.Variables.{IsTypedRenamingOn, Uses, UsesSpine, at_variable, under}
use Rattle.lf.proofs.Closed.{Agree, agree_type}
use Rattle.lf.proofs.Renaming.{reduction_is_natural, renamings_compose}
use Rattle.lf.proofs.Strength.{strengthening_keeps_typing}
use Rattle.lf.proofs.TypeLaws.{rename_substituted_type, renamings_compose_type}
use Rattle.lf_unification.proofs.Eta.{rename_id, rename_id_type}
use Rattle.lf_unification.specs.Filling.{moved, rename_value}
use Rattle.lf_unification.proofs.RenamingBack.{is_context}
use Rattle.lf.proofs.Weakening.{declared_is_type, renaming_keeps_types, renaming_keeps_typing}
use Rattle.lf.specs.Typing.{IsTypedRenaming}
use Rattle.lf_search.specs.Answers.{AreTypedValues, AreValuesOf, IsReordering, at_values, images}

-- all but the newest
abbrev older : ℕ → Bool
older zero = false
older (suc i) = true

mutual
  uses_renamed : (U : ℕ → Bool) (ρ : ℕ → ℕ) → ((i : ℕ) → U (ρ i) ≡ true) → (M : Term) → Uses U (rename ρ M)
  uses_renamed U ρ h (lambda M) = uses_renamed (under U) (lift_renaming ρ) (up U ρ h) M
    where
      up : (U : ℕ → Bool) (ρ : ℕ → ℕ) → ((i : ℕ) → U (ρ i) ≡ true) → (i : ℕ) → under U (lift_renaming ρ i) ≡ true
      up U ρ h zero = refl
      up U ρ h (suc i) = h i
  uses_renamed U ρ h (root (constant c) S) = uses_renamed_spine U ρ h S
  uses_renamed U ρ h (root (metavariable m) S) = uses_renamed_spine U ρ h S
  uses_renamed U ρ h (root (variable i) S) = (h i, uses_renamed_spine U ρ h S)

  uses_renamed_spine : (U : ℕ → Bool) (ρ : ℕ → ℕ) → ((i : ℕ) → U (ρ i) ≡ true) → (S : Spine) → UsesSpine U (rename_spine ρ S)
  uses_renamed_spine U ρ h nil = tt
  uses_renamed_spine U ρ h (app M S) = (uses_renamed U ρ h M, uses_renamed_spine U ρ h S)

back_type : (A : LfType) → rename_type (at_variable zero) (weaken A) ≡ A
back_type A = renamings_compose_type (at_variable zero) suc A ∙ rename_id_type A

back_term : (M : Term) → rename (at_variable zero) (rename suc M) ≡ M
back_term M = renamings_compose (at_variable zero) suc M ∙ rename_id M

pub drop_newest : (Σ : Signature) (ok : IsSignature Σ) (F : List LfType) (X : LfType) (M : Term) (A : LfType) → HasType Σ (X ∷ F) (rename suc M) (weaken A) → HasType Σ F M A
drop_newest Σ ok F X M A m = subst (HasType Σ F M) (back_type A) (subst (λ N. HasType Σ F N (rename_type (at_variable zero) (weaken A))) (back_term M)
    (strengthening_keeps_typing Σ ok older (X ∷ F) F (at_variable zero) (rename suc M) (weaken A) back (uses_renamed older suc (λ i. refl) M) m))
  where
    back : IsTypedRenamingOn older (X ∷ F) F (at_variable zero)
    back zero B g u = (let q : false ≡ true = u in cc)
    back (suc i) B (C, g, e) u = subst (TypeAt F i) (sym (ap (rename_type (at_variable zero)) e ∙ back_type C)) g

-- each term renamed
abbrev pub rename_all : (ℕ → ℕ) → List Term → List Term
rename_all ρ [] = []
rename_all ρ (M ∷ Ms) = rename ρ M ∷ rename_all ρ Ms

-- there are as many terms as variables
abbrev pub IsLong : List LfType → List Term → Type 0
IsLong [] [] = Unit {0}
IsLong [] (M ∷ Ms) = ⊥
IsLong (A ∷ G) [] = ⊥
IsLong (A ∷ G) (M ∷ Ms) = IsLong G Ms

images_renamed : (ρ : ℕ → ℕ) (G : List LfType) (Ms : List Term) → IsLong G Ms → Agree G (λ i. rename_image ρ (images G Ms i)) (images G (rename_all ρ Ms))
images_renamed ρ [] Ms h i A g = absurd g
images_renamed ρ (B ∷ G) [] h i A g = absurd h
images_renamed ρ (B ∷ G) (M ∷ Ms) h zero A g = refl
images_renamed ρ (B ∷ G) (M ∷ Ms) h (suc i) A (C, g, e) = images_renamed ρ G Ms h i C g

values_renamed : (Σ : Signature) (ρ : ℕ → ℕ) (G : List LfType) (Ms : List Term) (A : LfType) → IsLong G Ms → IsType Σ G A → at_values G (rename_all ρ Ms) A ≡ rename_type ρ (at_values G Ms A)
values_renamed Σ ρ G Ms A h t = sym (rename_substituted_type reduce reduction_is_natural ρ (images G Ms) A ∙ agree_type Σ reduce G (λ i. rename_image ρ (images G Ms i)) (images G (rename_all ρ Ms)) A (images_renamed ρ G Ms h) t)

pub drop_from_values : (Σ : Signature) (ok : IsSignature Σ) (F : List LfType) (X : LfType) (G : List LfType) (Ms : List Term) → IsContext Σ G → IsLong G Ms → AreTypedValues Σ (X ∷ F) G (rename_all suc Ms) → AreTypedValues Σ F G Ms
drop_from_values Σ ok F X [] [] c h v = tt
drop_from_values Σ ok F X [] (M ∷ Ms) c h v = absurd h
drop_from_values Σ ok F X (A ∷ G) [] c h v = absurd h
drop_from_values Σ ok F X (A ∷ G) (M ∷ Ms) (c, t) h (v, m) = (drop_from_values Σ ok F X G Ms c h v, drop_newest Σ ok F X M (at_values G Ms A) (subst (HasType Σ (X ∷ F) (rename suc M)) (values_renamed Σ suc G Ms A h t) m))

-- typed values in another context
typed_long : (Σ : Signature) (F G : List LfType) (Ms : List Term) → AreTypedValues Σ F G Ms → IsLong G Ms
typed_long Σ F [] [] v = tt
typed_long Σ F [] (M ∷ Ms) v = absurd v
typed_long Σ F (A ∷ G) [] v = absurd v
typed_long Σ F (A ∷ G) (M ∷ Ms) (v, m) = typed_long Σ F G Ms v

pub rename_values : (Σ : Signature) (ok : IsSignature Σ) (F F' : List LfType) (ρ : ℕ → ℕ) → IsTypedRenaming F F' ρ → (G : List LfType) (Ms : List Term) → IsContext Σ G → AreTypedValues Σ F G Ms → AreTypedValues Σ F' G (rename_all ρ Ms)
rename_values Σ ok F F' ρ w [] [] c v = tt
rename_values Σ ok F F' ρ w [] (M ∷ Ms) c v = absurd v
rename_values Σ ok F F' ρ w (A ∷ G) [] c v = absurd v
rename_values Σ ok F F' ρ w (A ∷ G) (M ∷ Ms) (c, t) (v, m) = (
  rename_values Σ ok F F' ρ w G Ms c v,
  subst (HasType Σ F' (rename ρ M)) (sym (values_renamed Σ ρ G Ms A (typed_long Σ F G Ms v) t)) (renaming_keeps_typing Σ ok F F' ρ M (at_values G Ms A) w m),
)

-- a context in another order is a context
pub reordered_context : (Σ : Signature) (ok : IsSignature Σ) (F F' : List LfType) (ρ ρ' : ℕ → ℕ) → IsReordering F F' ρ ρ' → IsContext Σ F → IsContext Σ F'
reordered_context Σ ok F F' ρ ρ' r c = is_context Σ ok F' typed
  where
    same : (A : LfType) → rename_type ρ (rename_type ρ' A) ≡ A
    same A = renamings_compose_type ρ ρ' A ∙ ap (λ f. rename_type f A) (fun_ext r.back_and_there) ∙ rename_id_type A

    typed : (i : ℕ) (A : LfType) → TypeAt F' i A → IsType Σ F' A
    typed i A g = subst (IsType Σ F') (same A) (renaming_keeps_types Σ ok F F' ρ (rename_type ρ' A) r.there (declared_is_type Σ ok F (ρ' i) (rename_type ρ' A) c (r.back i A g)))

-- values that were renamed
pub unrenamed : (ρ : ℕ → ℕ) (β : ℕ → Option Term) (G : List LfType) (Ms : List Term) → AreValuesOf (moved ρ β) G Ms → (Ns : List Term) × AreValuesOf β G Ns × (Ms ≡ rename_all ρ Ns)
unrenamed ρ β [] [] v = ([], tt, refl)
unrenamed ρ β [] (M ∷ Ms) v = absurd v
unrenamed ρ β (A ∷ G) [] v = absurd v
unrenamed ρ β (A ∷ G) (M ∷ Ms) (e, v) = let (Ns, w, q) = unrenamed ρ β G Ms v in go (β (length G)) refl e Ns w q
  where
    go : (y : Option Term) → β (length G) ≡ y → rename_value ρ y ≡ Some M → (Ns : List Term) → AreValuesOf β G Ns → Ms ≡ rename_all ρ Ns → (Ns : List Term) × AreValuesOf β (A ∷ G) Ns × (M ∷ Ms ≡ rename_all ρ Ns)
    go None f e Ns w q = absurd (cc)
    go (Some N) f e Ns w q = (N ∷ Ns, (f, w), ap₂ ◌∷◌ (let x : M ≡ rename ρ N = cc in x) q)
