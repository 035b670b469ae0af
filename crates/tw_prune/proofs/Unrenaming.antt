-- A term with a renaming taken back.
use Rattle.std.proofs.Common.{◌≡◌, ℕ, suc, ◌+◌, Some, refl, sym, ap, ap₂, subst, add-one}
use Rattle.std.specs.Prelude.{option_map}
use Rattle.lf.specs.AtOnce.{lift_renaming_by}
use Rattle.lf.specs.Syntax.{Head, LfType, Spine, Term, app, atom, constant, lambda, metavariable, nil, pi, rename, rename_head, rename_spine, rename_type, root, variable}
use Rattle.lf_unification.specs.Patterns.{Injective}
use Rattle.tw_prune.specs.Walks.{Table, behind, both, head_behind, unrenamed, unrenamed_spine, unrenamed_type}
use Rattle.tw_prune.proofs.Options.{both_some, map_some}
use Rattle.tw_prune.proofs.Tables.{IsInverse, behind_back, behind_found}

module _ (T : Table) (ρ : ℕ → ℕ) (inverse : IsInverse T ρ) where
  head_sound : (k : ℕ) (h g : Head) → head_behind T k h ≡ Some g → rename_head (lift_renaming_by k ρ) g ≡ h
  head_sound k (constant c) g e = let q : constant c ≡ g = cc in subst (λ x. rename_head (lift_renaming_by k ρ) x ≡ constant c) q refl
  head_sound k (metavariable m) g e = let q : metavariable m ≡ g = cc in subst (λ x. rename_head (lift_renaming_by k ρ) x ≡ metavariable m) q refl
  head_sound k (variable i) g e =
      let (j, f, q) = map_some variable (behind T k i) g e in
      subst (λ x. rename_head (lift_renaming_by k ρ) x ≡ variable i) q (ap variable (behind_found T ρ inverse k i j f))

  mutual
    pub unrenamed_sound : (k : ℕ) (N B : Term) → unrenamed T k N ≡ Some B → rename (lift_renaming_by k ρ) B ≡ N
    unrenamed_sound k (lambda N) B e =
        let (C, f, q) = map_some lambda (unrenamed T (k + 1) N) B e in
        let g : unrenamed T (suc k) N ≡ Some C = subst (λ n. unrenamed T n N ≡ Some C) (add-one k) f in
        subst (λ X. rename (lift_renaming_by k ρ) X ≡ lambda N) q (ap lambda (unrenamed_sound (suc k) N C g))
    unrenamed_sound k (root h S) B e =
        let (g, R, x, y, q) = both_some root (head_behind T k h) (unrenamed_spine T k S) B e in
        subst (λ X. rename (lift_renaming_by k ρ) X ≡ root h S) q (ap₂ root (head_sound k h g x) (unrenamed_spine_sound k S R y))

    pub unrenamed_spine_sound : (k : ℕ) (S R : Spine) → unrenamed_spine T k S ≡ Some R → rename_spine (lift_renaming_by k ρ) R ≡ S
    unrenamed_spine_sound k nil R e = let q : nil ≡ R = cc in subst (λ X. rename_spine (lift_renaming_by k ρ) X ≡ nil) q refl
    unrenamed_spine_sound k (app M S) R e =
        let (B, Q, x, y, q) = both_some app (unrenamed T k M) (unrenamed_spine T k S) R e in
        subst (λ X. rename_spine (lift_renaming_by k ρ) X ≡ app M S) q (ap₂ app (unrenamed_sound k M B x) (unrenamed_spine_sound k S Q y))

  pub unrenamed_type_sound : (k : ℕ) (A B : LfType) → unrenamed_type T k A ≡ Some B → rename_type (lift_renaming_by k ρ) B ≡ A
  unrenamed_type_sound k (pi A C) B e =
      let (A', C', x, y, q) = both_some pi (unrenamed_type T k A) (unrenamed_type T (k + 1) C) B e in
      let g : unrenamed_type T (suc k) C ≡ Some C' = subst (λ n. unrenamed_type T n C ≡ Some C') (add-one k) y in
      subst (λ X. rename_type (lift_renaming_by k ρ) X ≡ pi A C) q (ap₂ pi (unrenamed_type_sound k A A' x) (unrenamed_type_sound (suc k) C C' g))
  unrenamed_type_sound k (atom a S) B e =
      let (R, f, q) = map_some (atom a) (unrenamed_spine T k S) B e in
      subst (λ X. rename_type (lift_renaming_by k ρ) X ≡ atom a S) q (ap (atom a) (unrenamed_spine_sound k S R f))

  module _ (injective : Injective ρ) where
    head_back : (k : ℕ) (h : Head) → head_behind T k (rename_head (lift_renaming_by k ρ) h) ≡ Some h
    head_back k (constant c) = refl
    head_back k (metavariable m) = refl
    head_back k (variable i) = ap (option_map variable) (behind_back T ρ inverse k i injective)

    mutual
      pub unrenamed_back : (k : ℕ) (B : Term) → unrenamed T k (rename (lift_renaming_by k ρ) B) ≡ Some B
      unrenamed_back k (lambda B) =
          let g : unrenamed T (k + 1) (rename (lift_renaming_by (suc k) ρ) B) ≡ Some B = subst (λ n. unrenamed T n (rename (lift_renaming_by (suc k) ρ) B) ≡ Some B) (sym (add-one k)) (unrenamed_back (suc k) B) in
          ap (option_map lambda) g
      unrenamed_back k (root h S) = ap₂ (both root) (head_back k h) (unrenamed_spine_back k S)

      pub unrenamed_spine_back : (k : ℕ) (S : Spine) → unrenamed_spine T k (rename_spine (lift_renaming_by k ρ) S) ≡ Some S
      unrenamed_spine_back k nil = refl
      unrenamed_spine_back k (app M S) = ap₂ (both app) (unrenamed_back k M) (unrenamed_spine_back k S)

    pub unrenamed_type_back : (k : ℕ) (A : LfType) → unrenamed_type T k (rename_type (lift_renaming_by k ρ) A) ≡ Some A
    unrenamed_type_back k (pi A B) =
        let g : unrenamed_type T (k + 1) (rename_type (lift_renaming_by (suc k) ρ) B) ≡ Some B = subst (λ n. unrenamed_type T n (rename_type (lift_renaming_by (suc k) ρ) B) ≡ Some B) (sym (add-one k)) (unrenamed_type_back (suc k) B) in
        ap₂ (both pi) (unrenamed_type_back k A) g
    unrenamed_type_back k (atom a S) = ap (option_map (atom a)) (unrenamed_spine_back k S)
