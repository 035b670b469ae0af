-- The new variables of a head whose type is on own terms have types on own terms, and so is the type that is left.
use Rattle.std.proofs.Common.{◌≡◌, ℕ, zero, suc, ◌+◌, List, [], ◌∷◌, length, Option, refl, sym, ap, ◌∙◌, subst, arith}
use Rattle.std.specs.Prelude.{Bool, true, false}
use Rattle.lf.specs.Syntax.{variable, Term, Spine, nil, LfType, pi, atom, Skeleton, skeleton, rename_type, lift_renaming, rename_spine}
use Rattle.lf.specs.Substitution.{single}
use Rattle.lf.specs.AtOnce.{shift_by, lift_renaming_by}
use Rattle.lf.specs.Eta.{eta_long}
use Rattle.lf.specs.Typing.{TypeAt, instantiate_type}
use Rattle.lf.specs.Variables.{target, at_variable}
use Rattle.lf_cases.specs.Case.{Item, free_variable, items_context}
use Rattle.lf_cases.specs.OutputGoal.{renumber, over_item, raised_variable}
use Rattle.lf_cases.specs.Raised.{raise_by, locals_by, raised_over, first_mask, other_masks}
use Rattle.lf_cases.specs.Reached.{arguments_count, head_masks, head_items, head_spine}
use Rattle.lf_cases.proofs.Raised.{CanBeRaised, can_raise}
use Rattle.lf_coverage.specs.Heads.{result_type}
use Rattle.lf_coverage.proofs.Parts.{suc_same}
use Rattle.lf_coverage.proofs.ResultType.{next_count}
use Rattle.lf_numbered.specs.OwnTerms.{weaken_own, OnOwnTerms, SpineOnOwnTerms, TypeOnOwnTerms, ImageOnOwnTerms}
use Rattle.lf_numbered.specs.TypedNumbered.{own_over, LocalOnOwnTerms}
use Rattle.lf_numbered.proofs.EntryPatternsFound.{renamed_twice as own_twice}
use Rattle.lf_numbered.proofs.OwnLong.{variable_own as own_long, own_add as added}
use Rattle.lf_numbered.proofs.OwnStoresSteps.{own_id}
use Rattle.lf_numbered.proofs.OwnTerms.{single_under as single_weakened, rename_under as weaken_renamed, own_as_renamed, rename_own, spine_renamed, type_renamed, type_substituted}
use mathlib.Core.Path.{fun_ext}

pub locals_own : (ks : List Bool) (D : List LfType) (o : ℕ → Option Spine) → SpineOnOwnTerms (own_over D o) (locals_by ks D)
locals_own ks [] o = tt
locals_own [] (A ∷ D) o = tt
locals_own (true ∷ ks) (A ∷ D) o = added (λ c. weaken_own (own_over D o c)) (rename_spine suc (locals_by ks D)) (eta_long (skeleton A) (variable zero)) (spine_renamed (own_over D o) (λ c. weaken_own (own_over D o c)) suc (locals_by ks D) (λ c. own_as_renamed (own_over D o c)) (locals_own ks D o)) (own_long (λ c. weaken_own (own_over D o c)) (skeleton A) zero nil tt)
locals_own (false ∷ ks) (A ∷ D) o = spine_renamed (own_over D o) (λ c. weaken_own (own_over D o c)) suc (locals_by ks D) (λ c. own_as_renamed (own_over D o c)) (locals_own ks D o)

pub variable_own : (k : List Bool) (D : List LfType) (A : LfType) (n : ℕ) (o : ℕ → Option Spine) → OnOwnTerms (own_over D o) (raised_variable k D A n)
variable_own k D A n o = own_long (own_over D o) (skeleton A) (n + length D) (locals_by k D) (locals_own k D o)

pub arguments_own : (ks : List (List Bool)) (D : List LfType) (A : LfType) (o : ℕ → Option Spine) → SpineOnOwnTerms (own_over D o) (head_spine ks D A)
arguments_own ks D (pi A B) o = (variable_own (first_mask ks) D A (arguments_count B) o, arguments_own (other_masks ks) D B o)
arguments_own ks D (atom a S) o = tt

-- own terms under a local context depend on its length alone, and are renamed outside it
pub over_renumbered : (ρ : ℕ → ℕ) (D : List LfType) (o : ℕ → Option Spine) → own_over (renumber ρ D) o ≡ own_over D o
over_renumbered ρ [] o = refl
over_renumbered ρ (A ∷ D) o = ap (λ f c. weaken_own (f c)) (over_renumbered ρ D o)

pub over_renamed : (D : List LfType) (ρ : ℕ → ℕ) (o : ℕ → Option Spine) (c : ℕ) → own_over D (λ d. rename_own ρ (o d)) c ≡ rename_own (lift_renaming_by (length D) ρ) (own_over D o c)
over_renamed [] ρ o c = refl
over_renamed (A ∷ D) ρ o c = ap weaken_own (over_renamed D ρ o c) ∙ weaken_renamed (lift_renaming_by (length D) ρ) (own_over D o c)

pub renumbered_own : (D : List LfType) (ρ : ℕ → ℕ) (o : ℕ → Option Spine) → LocalOnOwnTerms o D → LocalOnOwnTerms (λ c. rename_own ρ (o c)) (renumber ρ D)
renumbered_own [] ρ o l = tt
renumbered_own (A ∷ D) ρ o (l, a) = (renumbered_own D ρ o l, subst (λ f. TypeOnOwnTerms f (rename_type (lift_renaming_by (length D) ρ) A)) (sym (over_renumbered ρ D (λ c. rename_own ρ (o c)))) (type_renamed (own_over D o) (own_over D (λ c. rename_own ρ (o c))) (lift_renaming_by (length D) ρ) A (over_renamed D ρ o) a))

-- what is weakened comes back
back_again : (u : Option Spine) → u ≡ rename_own (at_variable zero) (weaken_own u)
back_again u = sym (ap (rename_own (at_variable zero)) (own_as_renamed u) ∙ own_twice (at_variable zero) suc u ∙ ap (λ ρ. rename_own ρ u) (fun_ext (λ i. refl)) ∙ own_id u)

pub raised_own : (ks : List Bool) (D : List LfType) (B : LfType) (o : ℕ → Option Spine) → CanBeRaised ks D B → LocalOnOwnTerms o D → TypeOnOwnTerms (own_over D o) B → TypeOnOwnTerms o (raise_by ks D B)
raised_own ks [] B o r l b = b
raised_own [] (A ∷ D) B o r l b = absurd r
raised_own (true ∷ ks) (A ∷ D) B o r (l, a) b = raised_own ks D (pi A B) o r l (a, b)
raised_own (false ∷ ks) (A ∷ D) B o (u, r) (l, a) b = raised_own ks D (rename_type (at_variable zero) B) o r l (type_renamed (λ c. weaken_own (own_over D o c)) (own_over D o) (at_variable zero) B (λ c. back_again (own_over D o c)) b)

abbrev shifted : ℕ → (ℕ → Option Spine) → ℕ → Option Spine
shifted n o c = rename_own (shift_by n) (o c)

-- The types of all items, and the type that is left
pub record HeadOwn (below : ℕ → ℕ → Bool) (n : ℕ) (D : List LfType) (A : LfType) (I : List Item) (o : ℕ → Option Spine) : Type 0 where
  pub items : (i : ℕ) (Y : LfType) → TypeAt (items_context (head_items (head_masks below D n A) D n A I)) i Y → TypeOnOwnTerms (λ c. rename_own (shift_by n) (o c)) Y
  pub result : TypeOnOwnTerms (own_over D (λ c. rename_own (shift_by n) (o c))) (result_type (head_masks below D n A) D n A)

none_shifted : (o : ℕ → Option Spine) → o ≡ (λ c. rename_own (shift_by 0) (o c))
none_shifted o = fun_ext (λ c. sym (ap (λ ρ. rename_own ρ (o c)) (fun_ext none) ∙ own_id (o c)))
  where
    none : (i : ℕ) → i + 0 ≡ i
    none i = omega arith

abbrev once : (ℕ → Option Spine) → ℕ → Option Spine
once o c = rename_own suc (o c)

next_shifted : (n : ℕ) (o : ℕ → Option Spine) → shifted n (once o) ≡ shifted (suc n) o
next_shifted n o = fun_ext (λ c. own_twice (shift_by n) suc (o c) ∙ ap (λ ρ. rename_own ρ (o c)) (fun_ext (next n)))
  where
    next : (n i : ℕ) → suc i + n ≡ i + suc n
    next n i = omega arith

pub head_own : (below : ℕ → ℕ → Bool) (n : ℕ) (D : List LfType) (A : LfType) (I : List Item) (o : ℕ → Option Spine) → ((i : ℕ) (Y : LfType) → TypeAt (items_context I) i Y → TypeOnOwnTerms o Y) → LocalOnOwnTerms o D → TypeOnOwnTerms (own_over D o) A → arguments_count A ≡ n → HeadOwn below n D A I o
head_own below zero D (pi A B) I o t l a e = absurd (no e)
  where
    no : suc (arguments_count B) ≡ zero → ⊥
    no e = omega arith
head_own below zero D (atom a S) I o t l s e = record { items = λ i Y g. subst (λ f. TypeOnOwnTerms f Y) (none_shifted o) (t i Y g); result = subst (λ f. TypeOnOwnTerms (own_over D f) (atom a S)) (none_shifted o) s }
head_own below (suc n) D (atom a S) I o t l s e = absurd (no e)
  where
    no : zero ≡ suc n → ⊥
    no e = omega arith
head_own below (suc n) D (pi A B) I o t l (a, b) e =
    let k : List Bool = raised_over (below (target A)) D A in
    let Z : LfType = raise_by k D A in
    let D1 : List LfType = renumber suc D in
    let o1 : ℕ → Option Spine = λ c. rename_own suc (o c) in
    let N : Term = raised_variable k D A zero in
    let B1 : LfType = rename_type (lift_renaming (over_item D)) B in
    let A1 : LfType = instantiate_type A N B1 in
    let od : ℕ → Option Spine = own_over D o1 in
    let z : TypeOnOwnTerms o Z = raised_own k D A o (can_raise (below (target A)) D A) l a in
    let b1 : TypeOnOwnTerms (λ c. weaken_own (od c)) B1 = type_renamed (λ c. weaken_own (own_over D o c)) (λ c. weaken_own (od c)) (lift_renaming (over_item D)) B (λ c. ap weaken_own (over_renamed D suc o c) ∙ weaken_renamed (over_item D) (own_over D o c)) b in
    let a1 : TypeOnOwnTerms od A1 = type_substituted (λ c. weaken_own (od c)) od (single (skeleton A) N) B1 (λ c. single_weakened (skeleton A) N (od c)) (first (skeleton A) N od (variable_own k D A zero o1)) b1 in
    let h : HeadOwn below n D1 A1 (free_variable Z ∷ I) o1 = head_own below n D1 A1 (free_variable Z ∷ I) o1 (next o t Z z) (renumbered_own D suc o l) (subst (λ f. TypeOnOwnTerms f A1) (sym (over_renumbered suc D o1)) a1) (next_count (k ∷ []) D A B ∙ suc_same e) in
    record {
      items = λ i Y g. subst (λ f. TypeOnOwnTerms f Y) (next_shifted n o) (h.items i Y g);
      result = subst (λ f. TypeOnOwnTerms (own_over D f) (result_type (head_masks below D1 n A1) D1 n A1)) (next_shifted n o) (subst (λ f. TypeOnOwnTerms f (result_type (head_masks below D1 n A1) D1 n A1)) (over_renumbered suc D (λ c. rename_own (shift_by n) (o1 c))) h.result);
    }
  where
    first : (s : Skeleton) (N : Term) (p : ℕ → Option Spine) → OnOwnTerms p N → (i : ℕ) → ImageOnOwnTerms p (single s N i)
    first s N p n zero = n
    first s N p n (suc i) = tt

    next : (o : ℕ → Option Spine) → ((i : ℕ) (Y : LfType) → TypeAt (items_context I) i Y → TypeOnOwnTerms o Y) → (Z : LfType) → TypeOnOwnTerms o Z → (i : ℕ) (Y : LfType) → TypeAt (Z ∷ items_context I) i Y → TypeOnOwnTerms (λ c. rename_own suc (o c)) Y
    next o t Z z zero Y e = subst (TypeOnOwnTerms (λ c. rename_own suc (o c))) (sym e) (type_renamed o (λ c. rename_own suc (o c)) suc Z (λ c. refl) z)
    next o t Z z (suc i) Y (V, g, e) = subst (TypeOnOwnTerms (λ c. rename_own suc (o c))) (sym e) (type_renamed o (λ c. rename_own suc (o c)) suc V (λ c. refl) (t i V g))
