-- The new variables of a head have values that give its arguments.
use Rattle.std.proofs.Common.{◌≡◌, ℕ, zero, suc, List, [], ◌∷◌, refl, sym, ap, ap₂, ◌∙◌, subst, arith}
use Rattle.std.specs.Prelude.{Bool}
use Rattle.lf.specs.Syntax.{Term, Spine, nil, app, LfType, Kind, pi, atom, kind_pi, star, rename_spine, rename_type, rename_kind, lift_renaming}
use Rattle.lf.specs.Substitution.{Image, lift, single, substitute, substitute_spine, substitute_type, substitute_kind, reduce}
use Rattle.lf.specs.Typing.{Signature, SpineType, SpineFitsKind, instantiate_type, instantiate_kind}
use Rattle.lf.specs.Variables.{target}
use Rattle.lf_checks.specs.Marks.{Mark, output, output_places, input_places, NoneFree, SamePlaces}
use Rattle.lf_checks.specs.ModeForms.{argument_count}
use Rattle.lf_cases.specs.Case.{Item, free_variable, HasArguments, chosen_count}
use Rattle.lf_cases.specs.Raised.{raise_by, raised_over, first_mask, other_masks}
use Rattle.lf_cases.specs.OutputGoal.{renumber, over_item, raised_variable, output_masks, output_items, output_arguments}
use Rattle.lf_cases.specs.Reached.{arguments_count, head_masks, head_items, head_spine}
use Rattle.lf_coverage.proofs.Parts.{suc_same}

-- A type as a kind with the same quantifiers, all of whose places are outputs.
abbrev pub type_kind : LfType → Kind
type_kind (pi A B) = kind_pi A (type_kind B)
type_kind (atom a S) = star

abbrev pub outputs : ℕ → List Mark
outputs zero = []
outputs (suc n) = output ∷ outputs n

pub kind_renamed : (ρ : ℕ → ℕ) (A : LfType) → type_kind (rename_type ρ A) ≡ rename_kind ρ (type_kind A)
kind_renamed ρ (pi A B) = ap (kind_pi (rename_type ρ A)) (kind_renamed (lift_renaming ρ) B)
kind_renamed ρ (atom a S) = refl

pub kind_substituted : (σ : ℕ → Image) (A : LfType) → type_kind (substitute_type reduce σ A) ≡ substitute_kind reduce σ (type_kind A)
kind_substituted σ (pi A B) = ap (kind_pi (substitute_type reduce σ A)) (kind_substituted (lift σ) B)
kind_substituted σ (atom a S) = refl

kind_put_in : (A : LfType) (M : Term) (ρ : ℕ → ℕ) (B : LfType) → type_kind (instantiate_type A M (rename_type ρ B)) ≡ instantiate_kind A M (rename_kind ρ (type_kind B))
kind_put_in A M ρ B = kind_substituted (single (Rattle.lf.specs.Syntax.skeleton A) M) (rename_type ρ B) ∙ ap (instantiate_kind A M) (kind_renamed ρ B)

-- how many arguments a spine has
pub length_renamed : (ρ : ℕ → ℕ) (S : Spine) → argument_count (rename_spine ρ S) ≡ argument_count S
length_renamed ρ nil = refl
length_renamed ρ (app M S) = ap suc (length_renamed ρ S)

no_zero : {n : ℕ} → zero ≡ suc n → ⊥
no_zero e = omega arith

-- The items are those of the outputs of such a kind.
pub same_items : (ks : List (List Bool)) (D : List LfType) (n : ℕ) (S : Spine) (A : LfType) (I : List Item) → argument_count S ≡ n → output_items ks D (output_places (outputs n)) S (type_kind A) I ≡ head_items ks D n A I
same_items ks D zero S A I e = refl
same_items ks D (suc n) nil A I e = absurd (no_zero e)
same_items ks D (suc n) (app M S) (atom a T) I e = refl
same_items ks D (suc n) (app M S) (pi A B) I e =
    let N : Term = raised_variable (first_mask ks) D A zero in
    let ρ : ℕ → ℕ = lift_renaming (over_item D) in
    let J : List Item = free_variable (raise_by (first_mask ks) D A) ∷ I in
    ap (λ K. output_items (other_masks ks) (renumber suc D) (output_places (outputs n)) (rename_spine (over_item D) S) K J) (sym (kind_put_in A N ρ B))
    ∙ same_items (other_masks ks) (renumber suc D) n (rename_spine (over_item D) S) (instantiate_type A N (rename_type ρ B)) J (length_renamed (over_item D) S ∙ suc_same e)

-- so are the local variables over which they are raised
pub same_masks : (below : ℕ → ℕ → Bool) (D : List LfType) (n : ℕ) (S : Spine) (A : LfType) → argument_count S ≡ n → output_masks below D (output_places (outputs n)) S (type_kind A) ≡ head_masks below D n A
same_masks below D zero S A e = refl
same_masks below D (suc n) nil A e = absurd (no_zero e)
same_masks below D (suc n) (app M S) (atom a T) e = refl
same_masks below D (suc n) (app M S) (pi A B) e =
    let N : Term = raised_variable (raised_over (below (target A)) D A) D A zero in
    let ρ : ℕ → ℕ = lift_renaming (over_item D) in
    ap (λ ks. raised_over (below (target A)) D A ∷ ks)
    (
    ap (λ K. output_masks below (renumber suc D) (output_places (outputs n)) (rename_spine (over_item D) S) K) (sym (kind_put_in A N ρ B))
    ∙ same_masks below (renumber suc D) n (rename_spine (over_item D) S) (instantiate_type A N (rename_type ρ B)) (length_renamed (over_item D) S ∙ suc_same e)
    )

pub count_is : (A : LfType) → chosen_count (output_places (outputs (arguments_count A))) (type_kind A) ≡ arguments_count A
count_is (pi A B) = ap suc (count_is B)
count_is (atom a S) = refl

-- the arguments of the goal of such a kind are the head's
pub arguments_are : (ks : List (List Bool)) (D : List LfType) (A : LfType) (σ : ℕ → Image) (T : Spine) → HasArguments σ (output_arguments ks D (output_places (outputs (arguments_count A))) (type_kind A)) T → T ≡ substitute_spine reduce σ (head_spine ks D A)
arguments_are ks D (pi A B) σ nil h = absurd h
arguments_are ks D (pi A B) σ (app N T) (e, h) = ap₂ app (e ∙ ap (λ k. substitute reduce σ (raised_variable (first_mask ks) D A k)) (count_is B)) (arguments_are (other_masks ks) D B σ T h)
arguments_are ks D (atom a S) σ nil h = refl
arguments_are ks D (atom a S) σ (app N T) h = absurd h

pub none_free : (n : ℕ) → NoneFree (outputs n)
none_free zero = tt
none_free (suc n) = none_free n

-- nothing is asked at the inputs: there are none
pub no_inputs : (n : ℕ) (S T : Spine) → argument_count S ≡ n → argument_count T ≡ n → SamePlaces (input_places (outputs n)) S T
no_inputs zero nil nil e f = tt
no_inputs zero nil (app N T) e f = absurd (no_zero (sym f))
no_inputs zero (app M S) T e f = absurd (no_zero (sym e))
no_inputs (suc n) nil T e f = absurd (no_zero e)
no_inputs (suc n) (app M S) nil e f = absurd (no_zero f)
no_inputs (suc n) (app M S) (app N T) e f = no_inputs n S T (suc_same e) (suc_same f)

-- a spine that takes a type to an atom fits that kind, and has as many arguments as the type has quantifiers
pub fits_kind : (Σ : Signature) (G : List LfType) (S : Spine) (A : LfType) (a : ℕ) (T : Spine) → SpineType Σ G S A (atom a T) → SpineFitsKind Σ G S (type_kind A)
fits_kind Σ G nil A a T e = subst (λ X. SpineFitsKind Σ G nil (type_kind X)) (sym e) tt
fits_kind Σ G (app M S) (pi A B) a T (m, s) = (m, subst (SpineFitsKind Σ G S) (kind_substituted (single (Rattle.lf.specs.Syntax.skeleton A) M) B) (fits_kind Σ G S (instantiate_type A M B) a T s))
fits_kind Σ G (app M S) (atom b U) a T s = absurd s

pub count_renamed : (ρ : ℕ → ℕ) (A : LfType) → arguments_count (rename_type ρ A) ≡ arguments_count A
count_renamed ρ (pi A B) = ap suc (count_renamed (lift_renaming ρ) B)
count_renamed ρ (atom a S) = refl

pub count_substituted : (σ : ℕ → Image) (A : LfType) → arguments_count (substitute_type reduce σ A) ≡ arguments_count A
count_substituted σ (pi A B) = ap suc (count_substituted (lift σ) B)
count_substituted σ (atom a S) = refl

pub length_is : (Σ : Signature) (G : List LfType) (S : Spine) (A : LfType) (a : ℕ) (T : Spine) → SpineType Σ G S A (atom a T) → argument_count S ≡ arguments_count A
length_is Σ G nil A a T e = ap arguments_count (sym e)
length_is Σ G (app M S) (pi A B) a T (m, s) = ap suc (length_is Σ G S (instantiate_type A M B) a T s ∙ count_substituted (single (Rattle.lf.specs.Syntax.skeleton A) M) B)
length_is Σ G (app M S) (atom b U) a T s = absurd s
