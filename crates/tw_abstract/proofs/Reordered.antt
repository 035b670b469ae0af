-- The walk by another index.
use Rattle.std.proofs.Common.{◌≡◌, ℕ, zero, suc, ◌+◌, ◌-◌, ◌<◌, ◌≤◌, Option, Some, None, refl, sym, ap, ap₂, ◌∙◌, arith}
use Rattle.std.specs.Option.{option_map}
use Rattle.lf.specs.AtOnce.{lift_renaming_by}
use Rattle.lf.specs.Syntax.{Head, LfType, Spine, Term, app, atom, constant, lambda, metavariable, nil, pi, rename, rename_head, rename_spine, rename_type, root, variable}
use Rattle.lf.proofs.AtOnce.{lift_renaming_by_bound, lift_renaming_by_free}
use Rattle.lf_unification.specs.Patterns.{FreeVariablesIn, FreeVariablesInSpine, LiftedSet}
use Rattle.tw_abstract.specs.Generalizing.{both, generalized, generalized_head, generalized_spine, generalized_type}
use Rattle.tw_abstract.specs.Reordered.{TakesIndices, FreeVariablesInType}

-- the head is a constant, a metavariable, or a variable in P
abbrev pub HeadIn : (ℕ → Type 0) → Head → Type 0
HeadIn P (constant c) = Unit {0}
HeadIn P (variable i) = P i
HeadIn P (metavariable m) = Unit {0}

-- the renaming under k binders of what stands outside of them
outside : (k i : ℕ) (ρ : ℕ → ℕ) → lift_renaming_by k ρ (k + i) ≡ k + ρ i
outside k i ρ =
    let h : k ≤ k + i = omega arith in
    let e : k + i - k ≡ i = omega arith in
    let f : ρ i + k ≡ k + ρ i = omega arith in
    lift_renaming_by_free k (k + i) ρ h ∙ ap (λ j. ρ j + k) e ∙ f

-- the parts of a result
both_parts : {A B C : Type 0} (f : A → B → C) (x : Option A) (y : Option B) (z : C) → both f x y ≡ Some z → (a : A) × (b : B) × (x ≡ Some a) × (y ≡ Some b) × (z ≡ f a b)
both_parts f None y z e = cc
both_parts f (Some a) None z e = cc
both_parts f (Some a) (Some b) z e = (a, b, refl, refl, (let q : z ≡ f a b = cc in q))

map_part : {A B : Type 0} (f : A → B) (x : Option A) (z : B) → option_map f x ≡ Some z → (a : A) × (x ≡ Some a) × (z ≡ f a)
map_part f None z e = cc
map_part f (Some a) z e = (a, refl, (let q : z ≡ f a = cc in q))

module _ (index index' : ℕ → Option ℕ) (ρ : ℕ → ℕ) (takes : TakesIndices index index' ρ) where
  head_reordered : (k : ℕ) (P : ℕ → Type 0) (inside : (i : ℕ) → P i → i < k) (h g : Head) → HeadIn P h → generalized_head index k h ≡ Some g → generalized_head index' k h ≡ Some (rename_head (lift_renaming_by k ρ) g)
  head_reordered k P inside (constant c) g f e = let q : g ≡ constant c = (let z : Some (constant c) ≡ Some g = e in cc) in ap (λ g. Some (rename_head (lift_renaming_by k ρ) g)) (sym q)
  head_reordered k P inside (variable i) g f e =
      let q : g ≡ variable i = (let z : Some (variable i) ≡ Some g = e in cc) in
      ap (λ j. Some (variable j)) (sym (lift_renaming_by_bound k i ρ (inside i f))) ∙ ap (λ g. Some (rename_head (lift_renaming_by k ρ) g)) (sym q)
  head_reordered k P inside (metavariable m) g f e =
      let (i, q, r) = map_part (λ i. variable (k + i)) (index m) g e in
      ap (option_map (λ i. variable (k + i))) (takes m i q) ∙ ap (λ j. Some (variable j)) (sym (outside k i ρ)) ∙ ap (λ g. Some (rename_head (lift_renaming_by k ρ) g)) (sym r)

  lifted : (k : ℕ) (P : ℕ → Type 0) → ((i : ℕ) → P i → i < k) → (i : ℕ) → LiftedSet P i → i < suc k
  lifted k P inside zero h = omega arith
  lifted k P inside (suc i) h = let w = inside i h in omega arith

  root_reordered : (k : ℕ) (P : ℕ → Type 0) → ((i : ℕ) → P i → i < k) → (h : Head) (S : Spine) (N : Term) → HeadIn P h → generalized index k (root h S) ≡ Some N → ((T : Spine) → generalized_spine index k S ≡ Some T → generalized_spine index' k S ≡ Some (rename_spine (lift_renaming_by k ρ) T)) → generalized index' k (root h S) ≡ Some (rename (lift_renaming_by k ρ) N)
  root_reordered k P inside h S N v e rest =
      let (g, T, q, r, s) = both_parts (λ g T. root g T) (generalized_head index k h) (generalized_spine index k S) N e in
      ap₂ (both (λ g T. root g T)) (head_reordered k P inside h g v q) (rest T r) ∙ ap (λ N. Some (rename (lift_renaming_by k ρ) N)) (sym s)

  mutual
    pub term_reordered : (k : ℕ) (P : ℕ → Type 0) → ((i : ℕ) → P i → i < k) → (M N : Term) → FreeVariablesIn P M → generalized index k M ≡ Some N → generalized index' k M ≡ Some (rename (lift_renaming_by k ρ) N)
    term_reordered k P inside (lambda M) N f e =
        let (M', q, r) = map_part (λ M. lambda M) (generalized index (suc k) M) N e in
        ap (option_map (λ M. lambda M)) (term_reordered (suc k) (LiftedSet P) (lifted k P inside) M M' f q) ∙ ap (λ N. Some (rename (lift_renaming_by k ρ) N)) (sym r)
    term_reordered k P inside (root (constant c) S) N f e = root_reordered k P inside (constant c) S N tt e (λ T. spine_reordered k P inside S T f)
    term_reordered k P inside (root (variable i) S) N (v, f) e = root_reordered k P inside (variable i) S N v e (λ T. spine_reordered k P inside S T f)
    term_reordered k P inside (root (metavariable m) S) N f e = root_reordered k P inside (metavariable m) S N tt e (λ T. spine_reordered k P inside S T f)

    pub spine_reordered : (k : ℕ) (P : ℕ → Type 0) → ((i : ℕ) → P i → i < k) → (S T : Spine) → FreeVariablesInSpine P S → generalized_spine index k S ≡ Some T → generalized_spine index' k S ≡ Some (rename_spine (lift_renaming_by k ρ) T)
    spine_reordered k P inside nil T f e = let q : T ≡ nil = (let z : Some nil ≡ Some T = e in cc) in ap (λ T. Some (rename_spine (lift_renaming_by k ρ) T)) (sym q)
    spine_reordered k P inside (app M S) T (f, fs) e =
        let (N, T', q, r, s) = both_parts (λ N T. app N T) (generalized index k M) (generalized_spine index k S) T e in
        ap₂ (both (λ N T. app N T)) (term_reordered k P inside M N f q) (spine_reordered k P inside S T' fs r) ∙ ap (λ T. Some (rename_spine (lift_renaming_by k ρ) T)) (sym s)

  pub type_reordered : (k : ℕ) (P : ℕ → Type 0) → ((i : ℕ) → P i → i < k) → (A B : LfType) → FreeVariablesInType P A → generalized_type index k A ≡ Some B → generalized_type index' k A ≡ Some (rename_type (lift_renaming_by k ρ) B)
  type_reordered k P inside (pi A C) B (f, g) e =
      let (A', C', q, r, s) = both_parts (λ A C. pi A C) (generalized_type index k A) (generalized_type index (suc k) C) B e in
      ap₂ (both (λ A C. pi A C)) (type_reordered k P inside A A' f q) (type_reordered (suc k) (LiftedSet P) (lifted k P inside) C C' g r) ∙ ap (λ B. Some (rename_type (lift_renaming_by k ρ) B)) (sym s)
  type_reordered k P inside (atom a S) B f e =
      let (T, q, r) = map_part (λ T. atom a T) (generalized_spine index k S) B e in
      ap (option_map (λ T. atom a T)) (spine_reordered k P inside S T f q) ∙ ap (λ B. Some (rename_type (lift_renaming_by k ρ) B)) (sym r)
