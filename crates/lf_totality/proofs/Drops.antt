-- Calls that descend have sizes that drop.
use Rattle.std.proofs.Common.{◌≡◌, ℕ, zero, suc, List, [], ◌∷◌, ◌++◌, ◌+◌, ◌<◌, length, refl, sym, ap, ◌∙◌, subst, inl, inr, arith}
use Rattle.std.specs.Prelude.{◌⊎◌}
use Rattle.std.proofs.lemmas.List.{append_assoc, append-nil, length-append}
use Rattle.lf.specs.Syntax.{Spine, nil, app, LfType}
use Rattle.lf.specs.Substitution.{Image, substitute_spine, substitute_type, reduce}
use Rattle.lf.specs.Typing.{Signature}
use Rattle.lf.specs.Variables.{target, target_arguments}
use Rattle.lf.specs.Subordination.{Block}
use Rattle.lf_checks.specs.Clause.{Clause, outside}
use Rattle.lf_checks.specs.Order.{Order, Orders, place, lexicographic, simultaneous, no_order, next_order, argument_at, KeepsVariables}
use Rattle.lf_checks.specs.Descent.{CallDescends, GroupDescends}
use Rattle.lf_checks.proofs.Measure.{LexLt}
use Rattle.lf_checks.proofs.Sizes.{place_size, sizes, sizes_all, less_call, same_call}
use Rattle.lf_totality.specs.Sizes.{size_of, sizes_by, all_sizes_by, AreLess, call_sizes, head_sizes, SizesDrop, CallsDrop}

same_place : (i : ℕ) (S : Spine) → place_size i S ≡ size_of (argument_at i S)
same_place zero S = refl
same_place (suc i) nil = refl
same_place (suc zero) (app M S) = refl
same_place (suc (suc i)) (app M S) = same_place (suc i) S

-- the sizes before a list, and the list
mutual
  sizes_before : (O : Order) (S : Spine) (r : List ℕ) → sizes O S r ≡ sizes_by O S ++ r
  sizes_before (place i) S r = ap (λ n. n ∷ r) (same_place i S)
  sizes_before (lexicographic Os) S r = all_before Os S r
  sizes_before (simultaneous Os) S r = all_before Os S r

  all_before : (Os : Orders) (S : Spine) (r : List ℕ) → sizes_all Os S r ≡ all_sizes_by Os S ++ r
  all_before no_order S r = refl
  all_before (next_order O Os) S r = sizes_before O S (sizes_all Os S r) ∙ ap (λ t. sizes_by O S ++ t) (all_before Os S r) ∙ sym (append_assoc (sizes_by O S) (all_sizes_by Os S) r)

are_less : (xs ys : List ℕ) → LexLt xs ys → AreLess xs ys
are_less [] ys l = absurd l
are_less (x ∷ xs) [] l = absurd l
are_less (x ∷ xs) (y ∷ ys) (inl l) = inl l
are_less (x ∷ xs) (y ∷ ys) (inr (e, l)) = inr (e, are_less xs ys l)

-- where a list before a is less than one before b, the list alone is less, or the same
without_last : (a b : ℕ) (xs ys : List ℕ) → LexLt (xs ++ a ∷ []) (ys ++ b ∷ []) → AreLess xs ys ⊎ (xs ≡ ys)
without_last a b [] [] l = inr refl
without_last a b [] (y ∷ ys) (inl (l, e)) = absurd (none e)
  where
    none : length {A = ℕ} [] ≡ length (ys ++ b ∷ []) → ⊥
    none e = let q : length (ys ++ b ∷ []) ≡ length ys + length (b ∷ []) = length-append ys (b ∷ []) in omega arith
without_last a b [] (y ∷ ys) (inr (e, l)) = absurd l
without_last a b (x ∷ xs) [] (inl (l, e)) = absurd (none e)
  where
    none : length (xs ++ a ∷ []) ≡ length {A = ℕ} [] → ⊥
    none e = let q : length (xs ++ a ∷ []) ≡ length xs + length (a ∷ []) = length-append xs (a ∷ []) in omega arith
without_last a b (x ∷ xs) [] (inr (e, l)) = absurd (none xs l)
  where
    none : (xs : List ℕ) → LexLt (xs ++ a ∷ []) [] → ⊥
    none [] l = l
    none (x ∷ xs) l = l
without_last a b (x ∷ xs) (y ∷ ys) (inl (l, e)) = inl (inl (l, same_length e))
  where
    same_length : length (xs ++ a ∷ []) ≡ length (ys ++ b ∷ []) → length xs ≡ length ys
    same_length e =
        let p : length (xs ++ a ∷ []) ≡ length xs + length (a ∷ []) = length-append xs (a ∷ []) in
        let q : length (ys ++ b ∷ []) ≡ length ys + length (b ∷ []) = length-append ys (b ∷ []) in omega arith
without_last a b (x ∷ xs) (y ∷ ys) (inr (e, l)) = go (without_last a b xs ys l)
  where
    go : AreLess xs ys ⊎ (xs ≡ ys) → AreLess (x ∷ xs) (y ∷ ys) ⊎ (x ∷ xs ≡ y ∷ ys)
    go (inl m) = inl (inr (e, m))
    go (inr q) = inr (ap (λ n. n ∷ xs) e ∙ ap (λ t. y ∷ t) q)

-- and the other way round: a list that is less is so before any numbers, and one that is the same before a lesser number
less_last : (a b : ℕ) (xs ys : List ℕ) → AreLess xs ys → LexLt (xs ++ a ∷ []) (ys ++ b ∷ [])
less_last a b [] ys l = absurd l
less_last a b (x ∷ xs) [] l = absurd l
less_last a b (x ∷ xs) (y ∷ ys) (inl (l, e)) = inl (l, longer)
  where
    longer : length (xs ++ a ∷ []) ≡ length (ys ++ b ∷ [])
    longer =
        let p : length (xs ++ a ∷ []) ≡ length xs + length (a ∷ []) = length-append xs (a ∷ []) in
        let q : length (ys ++ b ∷ []) ≡ length ys + length (b ∷ []) = length-append ys (b ∷ []) in omega arith
less_last a b (x ∷ xs) (y ∷ ys) (inr (e, l)) = inr (e, less_last a b xs ys l)

same_last : (a b : ℕ) (xs ys : List ℕ) → a < b → AreLess xs ys ⊎ (xs ≡ ys) → LexLt (xs ++ a ∷ []) (ys ++ b ∷ [])
same_last a b xs ys l (inl h) = less_last a b xs ys h
same_last a b xs ys l (inr e) = subst (λ zs. LexLt (xs ++ a ∷ []) (zs ++ b ∷ [])) e (equal xs)
  where
    equal : (zs : List ℕ) → LexLt (zs ++ a ∷ []) (zs ++ b ∷ [])
    equal [] = inl (l, refl)
    equal (z ∷ zs) = inr (refl, equal zs)

pub less_before : (O P : Order) (S T : Spine) (a b : ℕ) → AreLess (sizes_by O S) (sizes_by P T) → LexLt (sizes O S (a ∷ [])) (sizes P T (b ∷ []))
less_before O P S T a b h = subst (λ xs. LexLt xs (sizes P T (b ∷ []))) (sym (sizes_before O S (a ∷ []))) (subst (LexLt (sizes_by O S ++ a ∷ [])) (sym (sizes_before P T (b ∷ []))) (less_last a b (sizes_by O S) (sizes_by P T) h))

pub same_before : (O P : Order) (S T : Spine) (a b : ℕ) → a < b → AreLess (sizes_by O S) (sizes_by P T) ⊎ (sizes_by O S ≡ sizes_by P T) → LexLt (sizes O S (a ∷ [])) (sizes P T (b ∷ []))
same_before O P S T a b l h = subst (λ xs. LexLt xs (sizes P T (b ∷ []))) (sym (sizes_before O S (a ∷ []))) (subst (LexLt (sizes_by O S ++ a ∷ [])) (sym (sizes_before P T (b ∷ []))) (same_last a b (sizes_by O S) (sizes_by P T) l h))

module _ (Σ : Signature) (W : List Block) (order : ℕ → Order) (group : List ℕ) (c : Clause) (A : LfType) where
  -- the orders' lists of sizes before other lists
  drop_before : (σ : ℕ → Image) (r s : List ℕ) → LexLt (sizes (order (target A)) (target_arguments (substitute_type reduce σ A)) r) (sizes (order (target c.type)) (substitute_spine reduce σ (target_arguments c.type)) s) → LexLt (call_sizes order σ A ++ r) (head_sizes order σ c ++ s)
  drop_before σ r s l = subst (λ t. LexLt t (head_sizes order σ c ++ s)) (sizes_before (order (target A)) (target_arguments (substitute_type reduce σ A)) r) (subst (LexLt (sizes (order (target A)) (target_arguments (substitute_type reduce σ A)) r)) (sizes_before (order (target c.type)) (substitute_spine reduce σ (target_arguments c.type)) s) l)

  sizes_drop : CallDescends Σ W order group c A → SizesDrop Σ W order group c A
  sizes_drop (a, inl l) = inl less
    where
      less : (σ : ℕ → Image) → KeepsVariables (outside c.type c.fixed) σ → AreLess (call_sizes order σ A) (head_sizes order σ c)
      less σ k =
          let h : LexLt (call_sizes order σ A ++ []) (head_sizes order σ c ++ []) = drop_before σ [] [] (less_call Σ order c A σ k [] [] a refl l) in
          are_less (call_sizes order σ A) (head_sizes order σ c) (subst (λ t. LexLt t (head_sizes order σ c)) (append-nil (call_sizes order σ A)) (subst (LexLt (call_sizes order σ A ++ [])) (append-nil (head_sizes order σ c)) h))
  sizes_drop (a, inr (s, n)) = inr ((s, n), λ σ k. without_last 0 1 (call_sizes order σ A) (head_sizes order σ c) (drop_before σ (0 ∷ []) (1 ∷ []) (same_call Σ order c A σ k (0 ∷ []) (1 ∷ []) s (inl (omega arith, refl)))))

pub calls_drop : (Σ : Signature) (W : List Block) (order : ℕ → Order) (group : List ℕ) → GroupDescends Σ W order group → CallsDrop Σ W order group
calls_drop Σ W order group d c k g i A v h = sizes_drop Σ W order group c A (d c k g i A v h)
