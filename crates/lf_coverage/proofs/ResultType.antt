-- Under values that give a head's arguments, the type that is left is the type of the root.
use Rattle.std.proofs.Common.{◌≡◌, ℕ, zero, suc, List, [], ◌∷◌, ◌+◌, length, refl, sym, ap, ap₂, ◌∙◌, subst, arith}
use Rattle.std.specs.Prelude.{Bool}
use Rattle.lf.specs.Syntax.{variable, Term, Spine, nil, app, LfType, pi, atom, Skeleton, base, skeleton, rename, rename_spine, rename_type, lift_renaming}
use Rattle.lf.specs.Substitution.{Image, keep, lift, single, substitute, substitute_spine, substitute_type, reduce}
use Rattle.lf.specs.SkeletonTyping.{SkeletonAt, TermSkeleton, SpineSkeleton, TypeBySkeletons, SubstitutionBySkeletons, RenamingBySkeletons}
use Rattle.lf.specs.Skeletons.{constant_skeletons, family_skeletons, context_skeletons}
use Rattle.lf.specs.AtOnce.{shift_by, lift_renaming_by}
use Rattle.lf.specs.Eta.{eta_expand}
use Rattle.lf.specs.Typing.{Signature, SpineType, instantiate_type}
use Rattle.lf.specs.Variables.{target, target_arguments, onto}
use Rattle.lf.specs.Worlds.{lift_over, instance}
use Rattle.lf.proofs.Eta.{rename_eta_expand}
use Rattle.lf.proofs.Renaming.{lift_up, substitute_renamed}
use Rattle.lf.proofs.SkeletonTypes.{renaming_keeps_types_by_skeletons, substitute_single_type, single_type_by_skeletons}
use Rattle.lf.proofs.SkeletonTyping.{renaming_by_skeletons_under_binder}
use Rattle.lf.proofs.Target.{target_of, target_renamed}
use Rattle.lf.proofs.TypeLaws.{skeleton_renamed, skeleton_substituted, substitute_renamed_type, substitution_as_renaming_spine}
use Rattle.lf_cases.specs.Case.{Item, free_variable, items_context}
use Rattle.lf_cases.specs.Raised.{raise_by, locals_by, first_mask, other_masks}
use Rattle.lf_cases.specs.OutputGoal.{renumber, over_item, raised_variable}
use Rattle.lf_cases.specs.Reached.{arguments_count, head_items, head_spine}
use Rattle.lf_cases.proofs.OutputItems.{lift_renumber, length_renumber, lift_after, instance_renumber, low_renumber, low_kept, locals_same, lifted, variable_fits}
use Rattle.lf_coverage.specs.Heads.{result_type}
use Rattle.lf_coverage.proofs.Forms.{renaming_far}
use Rattle.lf_coverage.proofs.HeadItems.{count_substituted, count_renamed}
use Rattle.lf_coverage.proofs.Parts.{suc_same}
use Rattle.lf_coverage.proofs.Transfer.{behind_head}
use mathlib.Core.Path.{fun_ext}

variable_same : (k : List Bool) (D : List LfType) (A A' : LfType) (n n' : ℕ) → skeleton A' ≡ skeleton A → n' ≡ n → raised_variable k D A' n' ≡ raised_variable k D A n
variable_same k D A A' n n' f g = ap (λ s. eta_expand s (variable (n' + length D)) (locals_by k D)) f ∙ ap (λ l. eta_expand (skeleton A) (variable (l + length D)) (locals_by k D)) g

-- The arguments depend on targets and skeletons alone.
spine_substituted : (ks : List (List Bool)) (D : List LfType) (σ : ℕ → Image) (A : LfType) → head_spine ks D (substitute_type reduce σ A) ≡ head_spine ks D A
spine_substituted ks D σ (pi A B) = ap₂ app (variable_same (first_mask ks) D A (substitute_type reduce σ A) (arguments_count B) (arguments_count (substitute_type reduce (lift σ) B)) (skeleton_substituted reduce σ A) (count_substituted (lift σ) B)) (spine_substituted (other_masks ks) D (lift σ) B)
spine_substituted ks D σ (atom a S) = refl

spine_renamed : (ks : List (List Bool)) (D : List LfType) (ρ : ℕ → ℕ) (A : LfType) → head_spine ks D (rename_type ρ A) ≡ head_spine ks D A
spine_renamed ks D ρ (pi A B) = ap₂ app (variable_same (first_mask ks) D A (rename_type ρ A) (arguments_count B) (arguments_count (rename_type (lift_renaming ρ) B)) (skeleton_renamed ρ A) (count_renamed (lift_renaming ρ) B)) (spine_renamed (other_masks ks) D (lift_renaming ρ) B)
spine_renamed ks D ρ (atom a S) = refl

spine_renumber : (ks : List (List Bool)) (ρ : ℕ → ℕ) (D : List LfType) (A : LfType) → head_spine ks (renumber ρ D) A ≡ head_spine ks D A
spine_renumber ks ρ D (pi A B) = ap₂ app (ap₂ (λ k S. eta_expand (skeleton A) (variable (arguments_count B + k)) S) (length_renumber ρ D) (low_renumber (first_mask ks) ρ D)) (spine_renumber (other_masks ks) ρ D B)
spine_renumber ks ρ D (atom a S) = refl

-- what is left for the next argument
abbrev pub next_type : List (List Bool) → List LfType → LfType → LfType → LfType
next_type ks D A B = instantiate_type A (raised_variable (first_mask ks) D A zero) (rename_type (lift_renaming (over_item D)) B)

next_target : (ks : List (List Bool)) (D : List LfType) (A B : LfType) → target (next_type ks D A B) ≡ target B
next_target ks D A B = target_of reduce (single (skeleton A) (raised_variable (first_mask ks) D A zero)) (rename_type (lift_renaming (over_item D)) B) ∙ target_renamed (lift_renaming (over_item D)) B

pub next_spine : (ks : List (List Bool)) (D : List LfType) (A B : LfType) → head_spine (other_masks ks) (renumber suc D) (next_type ks D A B) ≡ head_spine (other_masks ks) D B
next_spine ks D A B = spine_renumber (other_masks ks) suc D (next_type ks D A B) ∙ spine_substituted (other_masks ks) D (single (skeleton A) (raised_variable (first_mask ks) D A zero)) (rename_type (lift_renaming (over_item D)) B) ∙ spine_renamed (other_masks ks) D (lift_renaming (over_item D)) B

pub next_count : (ks : List (List Bool)) (D : List LfType) (A B : LfType) → arguments_count (next_type ks D A B) ≡ arguments_count B
next_count ks D A B = count_substituted (single (skeleton A) (raised_variable (first_mask ks) D A zero)) (rename_type (lift_renaming (over_item D)) B) ∙ count_renamed (lift_renaming (over_item D)) B

pub next_skeleton : (ks : List (List Bool)) (D : List LfType) (A B : LfType) → skeleton (next_type ks D A B) ≡ skeleton B
next_skeleton ks D A B = skeleton_substituted reduce (single (skeleton A) (raised_variable (first_mask ks) D A zero)) (rename_type (lift_renaming (over_item D)) B) ∙ skeleton_renamed (lift_renaming (over_item D)) B

-- a raised variable further out is the same, moved
pub low_moved : (k : List Bool) (D : List LfType) (ρ : ℕ → ℕ) → rename_spine (lift_renaming_by (length D) ρ) (locals_by k D) ≡ locals_by k D
low_moved k D ρ = sym (substitution_as_renaming_spine reduce (lift_renaming_by (length D) ρ) (locals_by k D)) ∙ ap (λ f. substitute_spine reduce f (locals_by k D)) (as_lift D) ∙ low_kept k D (λ i. keep (ρ i))
  where
    one : (f : ℕ → ℕ) (i : ℕ) → keep (lift_renaming f i) ≡ lift (λ j. keep (f j)) i
    one f zero = refl
    one f (suc i) = refl

    as_lift : (D : List LfType) → (λ i. keep (lift_renaming_by (length D) ρ i)) ≡ lift_over D (λ i. keep (ρ i))
    as_lift [] = refl
    as_lift (A ∷ D) = fun_ext (one (lift_renaming_by (length D) ρ)) ∙ ap lift (as_lift D)

pub variable_moved : (k : List Bool) (D : List LfType) (B : LfType) (n j : ℕ) → rename (lift_renaming_by (length D) (shift_by j)) (raised_variable k D B n) ≡ raised_variable k D B (n + j)
variable_moved k D B n j = rename_eta_expand (lift_renaming_by (length D) (shift_by j)) (skeleton B) (variable (n + length D)) (locals_by k D) ∙ ap₂ (λ i S. eta_expand (skeleton B) (variable i) S) (renaming_far (length D) (shift_by j) n) (low_moved k D (shift_by j))

variable_under : (k : List Bool) (D : List LfType) (B : LfType) (φ : ℕ → Image) (m : ℕ) → substitute reduce (lift_over D (λ i. φ (i + m))) (raised_variable k D B zero) ≡ substitute reduce (lift_over D φ) (raised_variable k D B m)
variable_under k D B φ m = ap (λ f. substitute reduce f (raised_variable k D B zero)) (sym (lift_after D (shift_by m) φ)) ∙ sym (substitute_renamed reduce (lift_over D φ) (lift_renaming_by (length D) (shift_by m)) (raised_variable k D B zero)) ∙ ap (substitute reduce (lift_over D φ)) (variable_moved k D B zero m) ∙ ap (λ j. substitute reduce (lift_over D φ) (raised_variable k D B j)) (none m)
  where
    none : (m : ℕ) → 0 + m ≡ m
    none m = omega arith

module _ (Σ : Signature) where
  -- over one more item
  item_fits : (D X : List LfType) (Y : LfType) → RenamingBySkeletons (context_skeletons (onto D X)) (context_skeletons (onto (renumber suc D) (Y ∷ X))) (over_item D)
  item_fits [] X Y i t g = g
  item_fits (A ∷ D) X Y i t g = (subst (λ a. RenamingBySkeletons (skeleton A ∷ context_skeletons (onto D X)) (a ∷ context_skeletons (onto (renumber suc D) (Y ∷ X))) (over_item (A ∷ D))) (sym (skeleton_renamed (lift_renaming_by (length D) suc) A)) (renaming_by_skeletons_under_binder (context_skeletons (onto D X)) (context_skeletons (onto (renumber suc D) (Y ∷ X))) (over_item D) (skeleton A) (λ i t g. item_fits D X Y i t g))) i t g

  -- the raised variable of an item that has the raised type's skeleton
  newest_fits : (ks : List (List Bool)) (D X : List LfType) (A : LfType) → TermSkeleton (constant_skeletons Σ) (context_skeletons (onto (renumber suc D) (raise_by (first_mask ks) D A ∷ X))) (raised_variable (first_mask ks) D A zero) (skeleton A)
  newest_fits ks D X A = subst (λ Δ. TermSkeleton (constant_skeletons Σ) Δ (raised_variable (first_mask ks) D A zero) (skeleton A)) (sym (locals_same suc D (raise_by (first_mask ks) D A ∷ X))) (variable_fits Σ (first_mask ks) D (raise_by (first_mask ks) D A ∷ X) A zero refl)

  pub next_by_skeletons : (ks : List (List Bool)) (D X : List LfType) (A B : LfType) → TypeBySkeletons (family_skeletons Σ) (constant_skeletons Σ) (context_skeletons (onto D X)) (pi A B) → TypeBySkeletons (family_skeletons Σ) (constant_skeletons Σ) (context_skeletons (onto (renumber suc D) (raise_by (first_mask ks) D A ∷ X))) (next_type ks D A B)
  next_by_skeletons ks D X A B (a, b) = single_type_by_skeletons (family_skeletons Σ) (constant_skeletons Σ) (skeleton A) (context_skeletons (onto (renumber suc D) (raise_by (first_mask ks) D A ∷ X))) (raised_variable (first_mask ks) D A zero) (rename_type (lift_renaming (over_item D)) B) (newest_fits ks D X A) (renaming_keeps_types_by_skeletons (family_skeletons Σ) (constant_skeletons Σ) (skeleton A ∷ context_skeletons (onto D X)) (skeleton A ∷ context_skeletons (onto (renumber suc D) (raise_by (first_mask ks) D A ∷ X))) (lift_renaming (over_item D)) B (renaming_by_skeletons_under_binder (context_skeletons (onto D X)) (context_skeletons (onto (renumber suc D) (raise_by (first_mask ks) D A ∷ X))) (over_item D) (skeleton A) (item_fits D X (raise_by (first_mask ks) D A))) b)

  -- The lemma
  pub result_is : (ks : List (List Bool)) (G : List LfType) (n : ℕ) (D : List LfType) (A : LfType) (I : List Item) → arguments_count A ≡ n → (φ : ℕ → Image) → SubstitutionBySkeletons (constant_skeletons Σ) (context_skeletons (items_context (head_items ks D n A I))) (context_skeletons G) φ → TypeBySkeletons (family_skeletons Σ) (constant_skeletons Σ) (context_skeletons (onto D (items_context I))) A → (T : Spine) (b : ℕ) (V : Spine) → SpineType Σ (onto (instance D (λ i. φ (i + n))) G) T (substitute_type reduce (lift_over D (λ i. φ (i + n))) A) (atom b V) → T ≡ substitute_spine reduce (lift_over D φ) (head_spine ks D A) → substitute_type reduce (lift_over D φ) (result_type ks D n A) ≡ atom b V
  result_is ks G zero D (pi A B) I c φ s k T b V t e = absurd (no c)
    where
      no : suc (arguments_count B) ≡ zero → ⊥
      no c = omega arith
  result_is ks G zero D (atom a S) I c φ s k nil b V t e = ap (λ f. substitute_type reduce (lift_over D f) (atom a S)) (fun_ext (λ i. ap φ (none i))) ∙ t
    where
      none : (i : ℕ) → i ≡ i + 0
      none i = omega arith
  result_is ks G zero D (atom a S) I c φ s k (app M T) b V t e = absurd t
  result_is ks G (suc n) D (atom a S) I c φ s k T b V t e = absurd (no c)
    where
      no : zero ≡ suc n → ⊥
      no c = omega arith
  result_is ks G (suc n) D (pi A B) I c φ s k nil b V t e = absurd cc
  result_is ks G (suc n) D (pi A B) I c φ s k (app M T) b V (m, t) e =
      let k0 : List Bool = first_mask ks in
      let X : LfType = raise_by k0 D A in
      let D' : List LfType = renumber suc D in
      let J : List Item = free_variable X ∷ I in
      let N : Term = raised_variable k0 D A zero in
      let ρ : ℕ → ℕ = lift_renaming (over_item D) in
      let A' : LfType = next_type ks D A B in
      let c' : arguments_count A' ≡ n = next_count ks D A B ∙ suc_same c in
      let σ : ℕ → Image = λ i. φ (i + n) in
      let σ1 : ℕ → Image = λ i. φ (i + suc n) in
      let ahead : (λ i. σ (suc i)) ≡ σ1 = fun_ext (λ i. ap φ (next i n)) in
      let fσ : SubstitutionBySkeletons (constant_skeletons Σ) (context_skeletons (items_context J)) (context_skeletons G) σ = λ i u g. s (i + n) u (behind_head (other_masks ks) D' n A' J c' i u g) in
      let Γ : List Skeleton = context_skeletons (onto D' (items_context J)) in
      let fl : SubstitutionBySkeletons (constant_skeletons Σ) Γ (context_skeletons (onto (instance D' σ) G)) (lift_over D' σ) = lifted Σ D' (items_context J) G σ fσ in
      let through : (λ i. lift_over D' σ (over_item D i)) ≡ lift_over D σ1 = ap (λ f i. f (over_item D i)) (lift_renumber suc D σ) ∙ lift_after D suc σ ∙ ap (lift_over D) ahead in
      let first : substitute reduce (lift_over D' σ) N ≡ M = ap (λ f. substitute reduce f N) (lift_renumber suc D σ) ∙ variable_under k0 D A φ n ∙ ap (λ j. substitute reduce (lift_over D φ) (raised_variable k0 D A j)) (sym (suc_same c)) ∙ sym (head_of e) in
      let kb : TypeBySkeletons (family_skeletons Σ) (constant_skeletons Σ) (skeleton A ∷ Γ) (rename_type ρ B) = renaming_keeps_types_by_skeletons (family_skeletons Σ) (constant_skeletons Σ) (skeleton A ∷ context_skeletons (onto D (items_context I))) (skeleton A ∷ Γ) ρ B (renaming_by_skeletons_under_binder (context_skeletons (onto D (items_context I))) Γ (over_item D) (skeleton A) (item_fits D (items_context I) X)) k.1 in
      let here : substitute_type reduce (lift_over D' σ) A' ≡ instantiate_type (substitute_type reduce (lift_over D σ1) A) M (substitute_type reduce (lift (lift_over D σ1)) B) =
      substitute_single_type (family_skeletons Σ) (constant_skeletons Σ) Γ (context_skeletons (onto (instance D' σ) G)) (lift_over D' σ) (skeleton A) N (rename_type ρ B) fl (newest_fits ks D (items_context I) A) kb
      ∙ ap₂ (λ P R. substitute_type reduce (single (skeleton A) P) R) first (substitute_renamed_type reduce (lift (lift_over D' σ)) ρ B ∙ ap (λ f. substitute_type reduce f B) (fun_ext (lift_up (lift_over D' σ) (over_item D)) ∙ ap lift through))
      ∙ ap (λ a. substitute_type reduce (single a M) (substitute_type reduce (lift (lift_over D σ1)) B)) (sym (skeleton_substituted reduce (lift_over D σ1) A)) in
      let ed : instance D' σ ≡ instance D σ1 = instance_renumber suc D σ ∙ ap (instance D) ahead in
      let t' : SpineType Σ (onto (instance D' σ) G) T (substitute_type reduce (lift_over D' σ) A') (atom b V) = subst (λ L. SpineType Σ (onto L G) T (substitute_type reduce (lift_over D' σ) A') (atom b V)) (sym ed) (subst (λ Z. SpineType Σ (onto (instance D σ1) G) T Z (atom b V)) (sym here) t) in
      let e' : T ≡ substitute_spine reduce (lift_over D' φ) (head_spine (other_masks ks) D' A') = tail_of e ∙ ap₂ (λ f S. substitute_spine reduce f S) (sym (lift_renumber suc D φ)) (sym (next_spine ks D A B)) in
      ap (λ f. substitute_type reduce f (result_type (other_masks ks) D' n A')) (sym (lift_renumber suc D φ)) ∙ result_is (other_masks ks) G n D' A' J c' φ s (next_by_skeletons ks D (items_context I) A B k) T b V t' e'
    where
      next : (i n : ℕ) → suc i + n ≡ i + suc n
      next i n = omega arith

      head_of : app M T ≡ app (substitute reduce (lift_over D φ) (raised_variable (first_mask ks) D A (arguments_count B))) (substitute_spine reduce (lift_over D φ) (head_spine (other_masks ks) D B)) → M ≡ substitute reduce (lift_over D φ) (raised_variable (first_mask ks) D A (arguments_count B))
      head_of e = cc

      tail_of : app M T ≡ app (substitute reduce (lift_over D φ) (raised_variable (first_mask ks) D A (arguments_count B))) (substitute_spine reduce (lift_over D φ) (head_spine (other_masks ks) D B)) → T ≡ substitute_spine reduce (lift_over D φ) (head_spine (other_masks ks) D B)
      tail_of e = cc

  -- the type that is left is an atom, typed by skeletons
  pub result_atom : (ks : List (List Bool)) (n : ℕ) (D : List LfType) (A : LfType) → arguments_count A ≡ n → result_type ks D n A ≡ atom (target A) (target_arguments (result_type ks D n A))
  result_atom ks zero D (atom a S) c = refl
  result_atom ks zero D (pi A B) c = absurd (no c)
    where
      no : suc (arguments_count B) ≡ zero → ⊥
      no c = omega arith
  result_atom ks (suc n) D (atom a S) c = absurd (no c)
    where
      no : zero ≡ suc n → ⊥
      no c = omega arith
  result_atom ks (suc n) D (pi A B) c = result_atom (other_masks ks) n (renumber suc D) (next_type ks D A B) (next_count ks D A B ∙ suc_same c) ∙ ap (λ t. atom t (target_arguments (result_type (other_masks ks) (renumber suc D) n (next_type ks D A B)))) (next_target ks D A B)

  pub result_by_skeletons : (ks : List (List Bool)) (n : ℕ) (D : List LfType) (A : LfType) (I : List Item) → TypeBySkeletons (family_skeletons Σ) (constant_skeletons Σ) (context_skeletons (onto D (items_context I))) A → TypeBySkeletons (family_skeletons Σ) (constant_skeletons Σ) (context_skeletons (onto D (items_context (head_items ks D n A I)))) (result_type ks D n A)
  result_by_skeletons ks zero D A I k = k
  result_by_skeletons ks (suc n) D (atom a S) I k = k
  result_by_skeletons ks (suc n) D (pi A B) I k = subst (λ Γ. TypeBySkeletons (family_skeletons Σ) (constant_skeletons Σ) Γ (result_type (other_masks ks) (renumber suc D) n (next_type ks D A B))) (locals_same suc D (items_context (head_items (other_masks ks) (renumber suc D) n (next_type ks D A B) (free_variable (raise_by (first_mask ks) D A) ∷ I)))) (result_by_skeletons (other_masks ks) n (renumber suc D) (next_type ks D A B) (free_variable (raise_by (first_mask ks) D A) ∷ I) (next_by_skeletons ks D (items_context I) A B k))

  -- so are the arguments
  pub spine_fits : (ks : List (List Bool)) (n : ℕ) (D : List LfType) (A : LfType) (I : List Item) → arguments_count A ≡ n → SpineSkeleton (constant_skeletons Σ) (context_skeletons (onto D (items_context (head_items ks D n A I)))) (head_spine ks D A) (skeleton A) (base (target A))
  spine_fits ks n D (atom a S) I c = refl
  spine_fits ks zero D (pi A B) I c = absurd (no c)
    where
      no : suc (arguments_count B) ≡ zero → ⊥
      no c = omega arith
  spine_fits ks (suc n) D (pi A B) I c =
      let J : List Item = free_variable (raise_by (first_mask ks) D A) ∷ I in
      let D' : List LfType = renumber suc D in
      let A' : LfType = next_type ks D A B in
      let c' : arguments_count A' ≡ n = next_count ks D A B ∙ suc_same c in
      let X : List LfType = items_context (head_items (other_masks ks) D' n A' J) in
      let at : SkeletonAt (context_skeletons X) (arguments_count B) (skeleton (raise_by (first_mask ks) D A)) = subst (λ k. SkeletonAt (context_skeletons X) k (skeleton (raise_by (first_mask ks) D A))) (none n ∙ sym (suc_same c)) (behind_head (other_masks ks) D' n A' J c' zero (skeleton (raise_by (first_mask ks) D A)) refl) in
      let rest : SpineSkeleton (constant_skeletons Σ) (context_skeletons (onto D' X)) (head_spine (other_masks ks) D' A') (skeleton A') (base (target A')) = spine_fits (other_masks ks) n D' A' J c' in
      let rest2 : SpineSkeleton (constant_skeletons Σ) (context_skeletons (onto D X)) (head_spine (other_masks ks) D' A') (skeleton A') (base (target A')) = subst (λ Γ. SpineSkeleton (constant_skeletons Σ) Γ (head_spine (other_masks ks) D' A') (skeleton A') (base (target A'))) (locals_same suc D X) rest in
      let rest3 : SpineSkeleton (constant_skeletons Σ) (context_skeletons (onto D X)) (head_spine (other_masks ks) D B) (skeleton A') (base (target A')) = subst (λ S. SpineSkeleton (constant_skeletons Σ) (context_skeletons (onto D X)) S (skeleton A') (base (target A'))) (next_spine ks D A B) rest2 in
      (variable_fits Σ (first_mask ks) D X A (arguments_count B) at, subst (λ t. SpineSkeleton (constant_skeletons Σ) (context_skeletons (onto D X)) (head_spine (other_masks ks) D B) t (base (target B))) (next_skeleton ks D A B) (subst (λ b. SpineSkeleton (constant_skeletons Σ) (context_skeletons (onto D X)) (head_spine (other_masks ks) D B) (skeleton A') (base b)) (next_target ks D A B) rest3))
    where
      none : (m : ℕ) → 0 + m ≡ m
      none m = omega arith
