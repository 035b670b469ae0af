-- A context in another order of its variables.
use Rattle.std.proofs.Common.{◌≡◌, ℕ, zero, suc, ◌+◌, ◌-◌, ◌<◌, ◌≤◌, List, [], ◌∷◌, length, ◌⊎◌, inl, inr, refl, sym, ap, ap₂, ◌∙◌, subst, arith}
use mathlib.Core.Path.{fun_ext}
use Rattle.lf.specs.Syntax.{LfType, Spine, Term, app, atom, constant, lambda, lift_renaming, metavariable, nil, pi, rename, rename_spine, rename_type, root, variable, weaken}
use Rattle.lf.specs.Typing.{TypeAt}
use Rattle.lf.proofs.TypeLaws.{renamings_compose_type}
use Rattle.lf_unification.specs.Patterns.{FreeVariablesIn, FreeVariablesInSpine, LiftedSet, beyond}
use Rattle.lf_unification.proofs.Eta.{rename_id_type}
use Rattle.lf_elaboration.specs.Principal.{FreeVariablesInType, IsReordering, PlacesInside}
use Rattle.lf_elaboration.specs.PrincipalLaws.{ContextIsReordered}

-- renamings that are the same on the free variables
abbrev SameOnSet : (ℕ → Type 0) → (ℕ → ℕ) → (ℕ → ℕ) → Type 0
SameOnSet P ρ τ = (i : ℕ) → P i → ρ i ≡ τ i

same_lifted : (P : ℕ → Type 0) (ρ τ : ℕ → ℕ) → SameOnSet P ρ τ → SameOnSet (LiftedSet P) (lift_renaming ρ) (lift_renaming τ)
same_lifted P ρ τ h zero p = refl
same_lifted P ρ τ h (suc i) p = ap suc (h i p)

mutual
  renamed_same : (P : ℕ → Type 0) (ρ τ : ℕ → ℕ) (M : Term) → SameOnSet P ρ τ → FreeVariablesIn P M → rename ρ M ≡ rename τ M
  renamed_same P ρ τ (lambda M) h f = ap lambda (renamed_same (LiftedSet P) (lift_renaming ρ) (lift_renaming τ) M (same_lifted P ρ τ h) f)
  renamed_same P ρ τ (root (constant c) S) h f = ap (root (constant c)) (renamed_same_spine P ρ τ S h f)
  renamed_same P ρ τ (root (variable i) S) h (p, f) = ap₂ (λ j T. root (variable j) T) (h i p) (renamed_same_spine P ρ τ S h f)
  renamed_same P ρ τ (root (metavariable m) S) h f = ap (root (metavariable m)) (renamed_same_spine P ρ τ S h f)

  renamed_same_spine : (P : ℕ → Type 0) (ρ τ : ℕ → ℕ) (S : Spine) → SameOnSet P ρ τ → FreeVariablesInSpine P S → rename_spine ρ S ≡ rename_spine τ S
  renamed_same_spine P ρ τ nil h f = refl
  renamed_same_spine P ρ τ (app M S) h (f, g) = ap₂ app (renamed_same P ρ τ M h f) (renamed_same_spine P ρ τ S h g)

renamed_same_type : (P : ℕ → Type 0) (ρ τ : ℕ → ℕ) (A : LfType) → SameOnSet P ρ τ → FreeVariablesInType P A → rename_type ρ A ≡ rename_type τ A
renamed_same_type P ρ τ (pi A B) h (f, g) = ap₂ pi (renamed_same_type P ρ τ A h f) (renamed_same_type (LiftedSet P) (lift_renaming ρ) (lift_renaming τ) B (same_lifted P ρ τ h) g)
renamed_same_type P ρ τ (atom a S) h f = ap (atom a) (renamed_same_spine P ρ τ S h f)

-- the type of a variable
abbrev type_at : List LfType → ℕ → LfType
type_at [] i = atom 0 nil
type_at (B ∷ F) zero = weaken B
type_at (B ∷ F) (suc i) = weaken (type_at F i)

at_type : (F : List LfType) (i : ℕ) → i < length F → TypeAt F i (type_at F i)
at_type [] i l = (let no : ⊥ = omega (arith, l) in absurd no)
at_type (B ∷ F) zero l = refl
at_type (B ∷ F) (suc i) l = let k : i < length F = omega (arith, l) in (type_at F i, at_type F i k, refl)

is_type_at : (F : List LfType) (i : ℕ) (A : LfType) → TypeAt F i A → (A ≡ type_at F i) × (i < length F)
is_type_at [] i A g = absurd g
is_type_at (B ∷ F) zero A e = (e, omega arith)
is_type_at (B ∷ F) (suc i) A (C, g, e) = let (p, l) = is_type_at F i C g in (e ∙ ap weaken p, omega (arith, l))

beyond_more : (F : List LfType) (i : ℕ) → beyond F i ≡ length F + i
beyond_more [] i = omega arith
beyond_more (B ∷ F) i = let h : beyond F i ≡ length F + i = beyond_more F i in omega (arith, h)

module _ (F : List LfType) (ρ ρ' : ℕ → ℕ) (there_and_back : (i : ℕ) → ρ' (ρ i) ≡ i) (back_and_there : (j : ℕ) → ρ (ρ' j) ≡ j) (stays : (i : ℕ) → ρ (beyond F i) ≡ beyond F i) (inside : PlacesInside F ρ) where
  -- what is beyond F stays, so places of F are places of F
  past_end : (k : ℕ) → length F ≤ k → ρ k ≡ k
  past_end k l =
      let e : beyond F (k - length F) ≡ k = (let h : beyond F (k - length F) ≡ length F + (k - length F) = beyond_more F (k - length F) in omega (arith, h, l)) in
      ap ρ (sym e) ∙ stays (k - length F) ∙ e

  split : (k n : ℕ) → (k < n) ⊎ (n ≤ k)
  split k zero = inr (omega arith)
  split zero (suc n) = inl (omega arith)
  split (suc k) (suc n) = go (split k n)
    where
      go : (k < n) ⊎ (n ≤ k) → (suc k < suc n) ⊎ (suc n ≤ suc k)
      go (inl l) = inl (omega (arith, l))
      go (inr l) = inr (omega (arith, l))

  place_within : (i : ℕ) → i < length F → ρ i < length F
  place_within i l = go (split (ρ i) (length F))
    where
      go : (ρ i < length F) ⊎ (length F ≤ ρ i) → ρ i < length F
      go (inl k) = k
      go (inr k) =
          let e : ρ i ≡ i = sym (there_and_back (ρ i)) ∙ ap ρ' (past_end (ρ i) k) ∙ there_and_back i in
          let no : ⊥ = omega (arith, e, k, l) in absurd no

  back_within : (j : ℕ) → j < length F → ρ' j < length F
  back_within j l = go (split (ρ' j) (length F))
    where
      go : (ρ' j < length F) ⊎ (length F ≤ ρ' j) → ρ' j < length F
      go (inl k) = k
      go (inr k) =
          let e : ρ' j ≡ j = sym (past_end (ρ' j) k) ∙ back_and_there j in
          let no : ⊥ = omega (arith, e, k, l) in absurd no

  -- k types, from place j on
  abbrev from_place : ℕ → ℕ → List LfType
  from_place zero j = []
  from_place (suc k) j = rename_type (λ l. ρ l - suc j) (type_at F (ρ' j)) ∷ from_place k (suc j)

  -- a type of place i, seen from one place further in
  one_further : (j i : ℕ) → j ≤ i → i < length F → weaken (rename_type (λ l. ρ l - suc j) (type_at F (ρ' i))) ≡ rename_type (λ l. ρ l - j) (type_at F (ρ' i))
  one_further j i h l = renamings_compose_type suc (λ l. ρ l - suc j) (type_at F (ρ' i))
      ∙ renamed_same_type (λ m. ρ (ρ' i) < ρ m) (λ m. suc (ρ m - suc j)) (λ m. ρ m - j) (type_at F (ρ' i)) (λ m p. let q : ρ (ρ' i) ≡ i = back_and_there i in omega (arith, p, q, h)) (inside (ρ' i) (type_at F (ρ' i)) (at_type F (ρ' i) (back_within i l)))

  at_place : (k j x y : ℕ) → y ≡ x + j → x < k → k + j ≤ length F → TypeAt (from_place k j) x (rename_type (λ l. ρ l - j) (type_at F (ρ' y)))
  at_place zero j x y e l h = (let no : ⊥ = omega (arith, l) in absurd no)
  at_place (suc k) j zero y e l h =
      let p : y ≡ j = omega (arith, e) in
      ap (λ z. rename_type (λ l. ρ l - j) (type_at F (ρ' z))) p ∙ sym (one_further j j (omega arith) (omega (arith, h)))
  at_place (suc k) j (suc x) y e l h = (
    rename_type (λ l. ρ l - suc j) (type_at F (ρ' y)),
    at_place k (suc j) x y (omega (arith, e)) (omega (arith, l)) (omega (arith, h)),
    sym (one_further j y (omega (arith, e)) (omega (arith, e, l, h))),
  )

  abbrev G : List LfType
  G = from_place (length F) zero

  place_length : (k j : ℕ) → length (from_place k j) ≡ k
  place_length zero j = refl
  place_length (suc k) j = ap suc (place_length k (suc j))

  at_new : (x : ℕ) → x < length F → TypeAt G x (rename_type ρ (type_at F (ρ' x)))
  at_new x l =
      let a : (λ (m : ℕ). ρ m - zero) ≡ ρ = fun_ext (λ m. omega arith) in
      subst (λ τ. TypeAt G x (rename_type τ (type_at F (ρ' x)))) a (at_place (length F) zero x x (omega arith) l (omega arith))

  one_type : (D : List LfType) (x : ℕ) (A B : LfType) → TypeAt D x A → TypeAt D x B → A ≡ B
  one_type D x A B g h = (is_type_at D x A g).0 ∙ sym (is_type_at D x B h).0

  reorders : IsReordering F G ρ ρ'
  reorders = record {
    there = λ i A g.
        let (e, l) = is_type_at F i A g in
        subst (λ X. TypeAt G (ρ i) (rename_type ρ X)) (ap (type_at F) (there_and_back i) ∙ sym e) (at_new (ρ i) (place_within i l));
    back = λ j B g.
        let l : j < length F = (let h : j < length G = (is_type_at G j B g).1 in let k : length G ≡ length F = place_length (length F) zero in subst (λ n. j < n) k h) in
        let e : B ≡ rename_type ρ (type_at F (ρ' j)) = one_type G j B (rename_type ρ (type_at F (ρ' j))) g (at_new j l) in
        subst (TypeAt F (ρ' j)) (sym (ap (rename_type ρ') e ∙ renamings_compose_type ρ' ρ (type_at F (ρ' j)) ∙ ap (λ τ. rename_type τ (type_at F (ρ' j))) (fun_ext there_and_back) ∙ rename_id_type (type_at F (ρ' j)))) (at_type F (ρ' j) (back_within j l));
    there_and_back = there_and_back;
    back_and_there = back_and_there;
  }

pub context_reordered : ContextIsReordered
context_reordered F ρ ρ' t b s i = (G F ρ ρ' t b s i, reorders F ρ ρ' t b s i)
