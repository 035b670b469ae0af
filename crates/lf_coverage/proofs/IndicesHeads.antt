-- The new variables of a head have patterns, where the head's type has, and what the variable takes.
use Rattle.std.proofs.Common.{◌≡◌, ℕ, zero, suc, List, [], ◌∷◌, length, refl, sym, ap, subst, arith}
use Rattle.std.specs.Prelude.{◌+◌, ◌<◌, Bool, true, false, not, cond}
use Rattle.lf.specs.AtOnce.{lift_renaming_by}
use Rattle.lf.specs.SkeletonTyping.{TypeBySkeletons}
use Rattle.lf.specs.Skeletons.{constant_skeletons, context_skeletons, family_skeletons}
use Rattle.lf.specs.Substitution.{Image, keep, single, reduce}
use Rattle.lf.specs.Syntax.{LfType, pi, atom, Skeleton, skeleton, lift_renaming, rename_spine, rename_type}
use Rattle.lf.specs.Typing.{Signature, TypeAt, instantiate_type}
use Rattle.lf.specs.Variables.{at_variable, binders, everything, hide, onto, target, under}
use Rattle.lf.proofs.Checker.{both_of}
use Rattle.lf.proofs.TypeLaws.{substitute_renamed_type}
use Rattle.lf_checks.specs.Tests.{either}
use Rattle.lf_checks.proofs.EtaTest.{both_l, both_r}
use Rattle.lf_unification.specs.Search.{occurs_type}
use Rattle.lf_cases.specs.Case.{Item, free_variable, items_context}
use Rattle.lf_cases.specs.OutputGoal.{over_item, raised_variable, renumber}
use Rattle.lf_cases.specs.Raised.{locals_by, raise_by, raised_over}
use Rattle.lf_cases.specs.Reached.{head_items, head_masks}
use Rattle.lf_cases.proofs.OutputItems.{length_renumber}
use Rattle.lf_cases.proofs.Raised.{CanBeRaised, can_raise}
use Rattle.lf_coverage.specs.Heads.{result_type}
use Rattle.lf_coverage.specs.Indices.{head_has_patterns, item_has_patterns, newer, takes}
use Rattle.lf_coverage.specs.TermMatching.{hidden}
use Rattle.lf_coverage.proofs.IndicesFilled.{Fills, head_filled, older}
use Rattle.lf_coverage.proofs.IndicesRenamed.{Renames, Returns, head_renames, item_renames, item_returns, may_take, renames_hide}
use Rattle.lf_coverage.proofs.IndicesTests.{Passes, not_false, passes_last, passes_renamed}
use Rattle.lf_coverage.proofs.RaisedTyped.{out_and_back}
use Rattle.lf_coverage.proofs.ResultType.{next_by_skeletons}

-- under n universal variables, where all outer ones are existential
abbrev pub within : ℕ → ℕ → Bool
within n = hidden n everything

pub outer_renames : (ρ : ℕ → ℕ) → Renames everything everything ρ
outer_renames ρ = record { kind = λ i. refl; apart = λ i j e f q. absurd (no e); order = λ i j e f n. absurd (no f) }
  where
    no : true ≡ false → ⊥
    no e = cc

pub within_renames : (n : ℕ) (ρ : ℕ → ℕ) → Renames (within n) (within n) (lift_renaming_by n ρ)
within_renames zero ρ = outer_renames ρ
within_renames (suc n) ρ = renames_hide (within n) (within n) (lift_renaming_by n ρ) (within_renames n ρ)

pub inside_is_universal : (n i : ℕ) → i < n → within n i ≡ false
inside_is_universal zero i l = absurd (omega (arith, l))
inside_is_universal (suc n) zero l = refl
inside_is_universal (suc n) (suc i) l = inside_is_universal n i (omega (arith, l))

pub outside_is_existential : (n i : ℕ) → within n (i + n) ≡ true
outside_is_existential zero i = refl
outside_is_existential (suc n) i = subst (λ j. within (suc n) j ≡ true) (next i n) (outside_is_existential n i)
  where
    next : (i n : ℕ) → suc (i + n) ≡ i + suc n
    next i n = omega arith

newer_than : (n i : ℕ) → i < n → newer i n ≡ true
newer_than zero i l = absurd (omega (arith, l))
newer_than (suc n) zero l = refl
newer_than (suc n) (suc i) l = newer_than n i (omega (arith, l))

-- one variable more
pub weaken_renames : (E : ℕ → Bool) → Renames E (hide E) suc
weaken_renames E = record { kind = λ i. refl; apart = λ i j e f q. omega (arith, q); order = λ i j e f n. n }

weaken_returns : (E : ℕ → Bool) → Returns E (hide E) suc
weaken_returns E = record { kind = λ i. refl; distinct = λ i j q. omega (arith, q); order = λ i j e f n. n }

-- a local context
abbrev pub LocalsHave : List LfType → Type 0
LocalsHave [] = Unit {0}
LocalsHave (A ∷ D) = (head_has_patterns (within (length D)) A ≡ true) × LocalsHave D

-- items
abbrev pub AllItemsHave : List LfType → Type 0
AllItemsHave [] = Unit {0}
AllItemsHave (A ∷ G) = (item_has_patterns everything A ≡ true) × AllItemsHave G

pub item_at : (G : List LfType) → AllItemsHave G → (x : ℕ) (X : LfType) → TypeAt G x X → item_has_patterns everything X ≡ true
item_at [] h x X g = absurd g
item_at (A ∷ G) (a, h) zero X e = subst (λ Z. item_has_patterns everything Z ≡ true) (sym e) (item_renames everything everything suc (outer_renames suc) A a)
item_at (A ∷ G) (a, h) (suc x) X (B, g, e) = subst (λ Z. item_has_patterns everything Z ≡ true) (sym e) (item_renames everything everything suc (outer_renames suc) B (item_at G h x B g))

locals_renumbered : (ρ : ℕ → ℕ) (D : List LfType) → LocalsHave D → LocalsHave (renumber ρ D)
locals_renumbered ρ [] h = tt
locals_renumbered ρ (A ∷ D) (a, h) = (subst (λ n. head_has_patterns (within n) (rename_type (lift_renaming_by (length D) ρ) A) ≡ true) (sym (length_renumber ρ D)) (head_renames (within (length D)) (within (length D)) (lift_renaming_by (length D) ρ) (within_renames (length D) ρ) A a), locals_renumbered ρ D h)

pub binders_have : (D : List LfType) (X : LfType) → LocalsHave D → item_has_patterns (within (length D)) X ≡ true → LocalsHave (binders D X)
binders_have D (pi A B) h e = binders_have (A ∷ D) B (both_l (head_has_patterns (within (length D)) A) (item_has_patterns (hide (within (length D))) B) e, h) (both_r (head_has_patterns (within (length D)) A) (item_has_patterns (hide (within (length D))) B) e)
binders_have D (atom a S) h e = h

pub local_at : (D G : List LfType) → LocalsHave D → (j : ℕ) (A : LfType) → j < length D → TypeAt (onto D G) j A → head_has_patterns (within (length D)) A ≡ true
local_at [] G h j A l g = absurd (omega (arith, l))
local_at (B ∷ D) G (b, h) zero A l e = subst (λ Z. head_has_patterns (within (suc (length D))) Z ≡ true) (sym e) (head_renames (within (length D)) (hide (within (length D))) suc (weaken_renames (within (length D))) B b)
local_at (B ∷ D) G (b, h) (suc j) A l (C, g, e) = subst (λ Z. head_has_patterns (within (suc (length D))) Z ≡ true) (sym e) (head_renames (within (length D)) (hide (within (length D))) suc (weaken_renames (within (length D))) C (local_at D G h j C (omega (arith, l)) g))

-- what is raised over them
raised_has : (T : ℕ → Bool) (D : List LfType) (B : LfType) → LocalsHave D → item_has_patterns (within (length D)) B ≡ true → item_has_patterns everything (raise_by (raised_over T D B) D B) ≡ true
raised_has T [] B h e = e
raised_has T (A ∷ D) B (a, h) e = by (λ C. raised_has T D C h) (either (T (target A)) (occurs_type zero B)) (can_raise T (A ∷ D) B)
  where
    by : ((C : LfType) → item_has_patterns (within (length D)) C ≡ true → item_has_patterns everything (raise_by (raised_over T D C) D C) ≡ true) → (b : Bool) → CanBeRaised (b ∷ raised_over T D (cond b (pi A B) (rename_type (at_variable zero) B))) (A ∷ D) B → item_has_patterns everything (raise_by (b ∷ raised_over T D (cond b (pi A B) (rename_type (at_variable zero) B))) (A ∷ D) B) ≡ true
    by ih true c = ih (pi A B) (both_of (head_has_patterns (within (length D)) A) (item_has_patterns (hide (within (length D))) B) a e)
    by ih false (u, c) = ih (rename_type (at_variable zero) B) (item_returns (within (length D)) (hide (within (length D))) suc (weaken_returns (within (length D))) (rename_type (at_variable zero) B) (subst (λ Z. item_has_patterns (hide (within (length D))) Z ≡ true) (sym (out_and_back B u)) e))

-- the variables over which something is raised
locals_pass : (k : List Bool) (D : List LfType) (R : ℕ → Bool) → ((i : ℕ) → i < length D → R i ≡ true) → Passes R [] (locals_by k D)
locals_pass k [] R h = tt
locals_pass [] (A ∷ D) R h = tt
locals_pass (true ∷ k) (A ∷ D) R h = passes_last (hide (λ i. R (suc i))) R [] (rename_spine suc (locals_by k D)) (skeleton A) zero more (h zero (first (length D))) apart refl (passes_renamed (λ i. R (suc i)) (hide (λ i. R (suc i))) suc [] [] (locals_by k D) (λ y r. r) (λ x y r s q. omega (arith, q)) (λ y r f. refl) (locals_pass k D (λ i. R (suc i)) (λ i l. h (suc i) (next i (length D) l))))
  where
    first : (n : ℕ) → zero < suc n
    first n = omega arith

    next : (i n : ℕ) → i < n → suc i < suc n
    next i n l = omega (arith, l)

    more : (x : ℕ) → hide (λ i. R (suc i)) x ≡ true → R x ≡ true
    more zero e = absurd cc
    more (suc x) e = e

    apart : (x : ℕ) → hide (λ i. R (suc i)) x ≡ true → x ≡ zero → ⊥
    apart zero e q = absurd cc
    apart (suc x) e q = omega (arith, q)
locals_pass (false ∷ k) (A ∷ D) R h = passes_renamed (λ i. R (suc i)) R suc [] [] (locals_by k D) (λ y r. r) (λ x y r s q. omega (arith, q)) (λ y r f. refl) (locals_pass k D (λ i. R (suc i)) (λ i l. h (suc i) (next i (length D) l)))
  where
    next : (i n : ℕ) → i < n → suc i < suc n
    next i n l = omega (arith, l)

-- an existential variable over a local context, replaced by a raised one
module _ (k : List Bool) (D : List LfType) (A : LfType) where
  abbrev n : ℕ
  n = length D

  abbrev σ : ℕ → Image
  σ i = single (skeleton A) (raised_variable k D A zero) (lift_renaming (over_item D) i)

  abbrev ρ : ℕ → ℕ
  ρ zero = zero + length D
  ρ (suc i) = over_item D i

  raised_renames : Renames (under (within (length D))) (within (length D)) ρ
  raised_renames = record { kind = kind; apart = apart; order = order }
    where
      kind : (i : ℕ) → within (length D) (ρ i) ≡ under (within (length D)) i
      kind zero = outside_is_existential (length D) zero
      kind (suc i) = (within_renames (length D) suc).kind i

      apart : (i j : ℕ) → under (within (length D)) i ≡ false → under (within (length D)) j ≡ false → ρ i ≡ ρ j → i ≡ j
      apart zero j e f q = absurd cc
      apart (suc i) zero e f q = absurd cc
      apart (suc i) (suc j) e f q = ap suc ((within_renames (length D) suc).apart i j e f q)

      order : (i j : ℕ) → under (within (length D)) i ≡ true → under (within (length D)) j ≡ false → newer j i ≡ true → newer (ρ j) (ρ i) ≡ true
      order zero zero e f l = absurd cc
      order zero (suc j) e f l = absurd cc
      order (suc i) zero e f l = absurd cc
      order (suc i) (suc j) e f l = (within_renames (length D) suc).order i j e f l

  pub raised_fills : Fills zero (zero + length D) (under (within (length D))) (within (length D)) σ ρ (skeleton A) (locals_by k D)
  raised_fills = record {
    renames = raised_renames;
    existential = refl;
    to = refl;
    here = refl;
    others = others;
    inner = inner;
    applied = locals_pass k D (older (within (length D)) (zero + length D) zero) (λ i l. both_of (takes (within (length D)) (zero + length D) i) (not (newer i zero)) (may_take (within (length D)) (zero + length D) i (inside_is_universal (length D) i l) (newer_than (zero + length D) i (none i (length D) l))) (not_false (newer i zero) (never i)));
  }
    where
      others : (i : ℕ) → (i ≡ zero → ⊥) → σ i ≡ keep (ρ i)
      others zero h = absurd (h refl)
      others (suc i) h = refl

      never : (i : ℕ) → newer i zero ≡ false
      never zero = refl
      never (suc i) = refl

      inner : (i : ℕ) → newer i zero ≡ true → ρ i ≡ i
      inner zero e = absurd cc
      inner (suc i) e = absurd cc

      none : (i n : ℕ) → i < n → i < zero + n
      none i n l = omega (arith, l)

  pub next_has : (Σ : Signature) (Γ : List Skeleton) (B : LfType) → TypeBySkeletons (family_skeletons Σ) (constant_skeletons Σ) (skeleton A ∷ Γ) B → head_has_patterns (under (within (length D))) B ≡ true → head_has_patterns (within (length D)) (instantiate_type A (raised_variable k D A zero) (rename_type (lift_renaming (over_item D)) B)) ≡ true
  next_has Σ Γ B t e = subst (λ Z. head_has_patterns (within (length D)) Z ≡ true) (sym (substitute_renamed_type reduce (single (skeleton A) (raised_variable k D A zero)) (lift_renaming (over_item D)) B)) (head_filled (constant_skeletons Σ) (family_skeletons Σ) zero (zero + length D) (under (within (length D))) (within (length D)) σ ρ (skeleton A) (locals_by k D) raised_fills (skeleton A ∷ Γ) refl B t e)

-- all new variables of a head, and the type that is left
module _ (Σ : Signature) (below : ℕ → ℕ → Bool) where
  pub head_items_have : (n : ℕ) (D : List LfType) (A : LfType) (I : List Item) → LocalsHave D → AllItemsHave (items_context I) → TypeBySkeletons (family_skeletons Σ) (constant_skeletons Σ) (context_skeletons (onto D (items_context I))) A → head_has_patterns (within (length D)) A ≡ true → AllItemsHave (items_context (head_items (head_masks below D n A) D n A I)) × (head_has_patterns (within (length D)) (result_type (head_masks below D n A) D n A) ≡ true)
  head_items_have zero D A I d i t e = (i, e)
  head_items_have (suc n) D (atom a S) I d i t e = (i, e)
  head_items_have (suc n) D (pi A B) I d i (ta, tb) e =
      let k : List Bool = raised_over (below (target A)) D A in
      let D' : List LfType = renumber suc D in
      let A' : LfType = instantiate_type A (raised_variable k D A zero) (rename_type (lift_renaming (over_item D)) B) in
      let J : List Item = free_variable (raise_by k D A) ∷ I in
      let l : length D' ≡ length D = length_renumber suc D in
      let ea : item_has_patterns (within (length D)) A ≡ true = both_l (item_has_patterns (within (length D)) A) (head_has_patterns (under (within (length D))) B) e in
      let eb : head_has_patterns (under (within (length D))) B ≡ true = both_r (item_has_patterns (within (length D)) A) (head_has_patterns (under (within (length D))) B) e in
      let z : item_has_patterns everything (raise_by k D A) ≡ true = raised_has (below (target A)) D A d ea in
      let next : head_has_patterns (within (length D)) A' ≡ true = next_has k D A Σ (context_skeletons (onto D (items_context I))) B tb eb in
      let (j, r) = head_items_have n D' A' J (locals_renumbered suc D d) (z, i) (next_by_skeletons Σ (k ∷ []) D (items_context I) A B (ta, tb)) (subst (λ m. head_has_patterns (within m) A' ≡ true) (sym l) next) in
      (j, subst (λ m. head_has_patterns (within m) (result_type (head_masks below D' n A') D' n A') ≡ true) l r)
