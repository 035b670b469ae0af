-- An order of dependency with its typing: kept by the partition of a binding, by the binding itself, and by a new metavariable.
use Rattle.std.proofs.Common.{◌≡◌, ℕ, zero, suc, List, [], ◌∷◌, Option, Some, None, ◌⊎◌, inl, inr, refl, sym, ap, ◌∙◌, subst}
use Rattle.std.specs.Prelude.{Bool, true, false}
use Rattle.lf.specs.Syntax.{Term, LfType, rename, rename_type}
use Rattle.lf.specs.Typing.{Signature}
use Rattle.lf.specs.Variables.{same_number}
use Rattle.lf_unification.specs.OpenTyping.{MetavariablesIn, MetavariablesInType, OpenHasType, OpenIsType}
use Rattle.lf_unification.specs.Dependency.{ListedMetavariable, IsListed, IsDependencyOrder, ValueIsOrdered}
use Rattle.lf_unification.specs.Lists.{followed}
use Rattle.lf_unification.proofs.Partition.{Closed, Dependent, ValueIn, chosen, partition, pick}
use Rattle.lf_unification.proofs.Scope.{in_weaker, in_weaker_type}

module _ (Σ : Signature) (Ψ : ℕ → Option LfType) (U : (ℕ → Option Term) → Type 0) where
  abbrev ValueTyped : LfType → Option Term → Type 0
  ValueTyped A None = Unit {0}
  ValueTyped A (Some N) = OpenHasType Σ [] Ψ U [] N A × ((ρ : ℕ → ℕ) → rename ρ N ≡ N)

  -- what an item is by itself
  abbrev pub ItemIsOrdered : ListedMetavariable → Type 0
  ItemIsOrdered it = (Ψ it.of ≡ Some it.of_type) × OpenIsType Σ [] Ψ U [] it.of_type × ((ρ : ℕ → ℕ) → rename_type ρ it.of_type ≡ it.of_type) × ValueTyped it.of_type it.value

  abbrev pub ItemsAreOrdered : List ListedMetavariable → Type 0
  ItemsAreOrdered [] = Unit {0}
  ItemsAreOrdered (it ∷ is) = ItemIsOrdered it × ItemsAreOrdered is

abbrev pub Distinct : List ListedMetavariable → Type 0
Distinct [] = Unit {0}
Distinct (it ∷ is) = (IsListed is it.of → ⊥) × Distinct is

module _ (Σ : Signature) (Ψ : ℕ → Option LfType) (U : (ℕ → Option Term) → Type 0) where
  pub ordered_parts : (is : List ListedMetavariable) → IsDependencyOrder Σ Ψ U is → Dependent is × Distinct is × ItemsAreOrdered Σ Ψ U is
  ordered_parts [] o = (tt, tt, tt)
  ordered_parts (it ∷ is) (o, d, out, i, t, c, v) =
      let (x, y, z) = ordered_parts is o in
      (((i, mentions it.value v), x), (out, y), ((d, t, c, typed it.value v), z))
    where
      mentions : (x : Option Term) → ValueIsOrdered Σ Ψ U is it.of_type x → ValueIn (IsListed is) x
      mentions None v = tt
      mentions (Some N) v = v.0

      typed : (x : Option Term) → ValueIsOrdered Σ Ψ U is it.of_type x → ValueTyped Σ Ψ U it.of_type x
      typed None v = tt
      typed (Some N) (j, u, c) = (u, c)

  pub ordered_of : (is : List ListedMetavariable) → Dependent is → Distinct is → ItemsAreOrdered Σ Ψ U is → IsDependencyOrder Σ Ψ U is
  ordered_of [] x y z = tt
  ordered_of (it ∷ is) ((i, v), x) (out, y) ((d, t, c, w), z) = (ordered_of is x y z, d, out, i, t, c, value it.value v w)
    where
      value : (x : Option Term) → ValueIn (IsListed is) x → ValueTyped Σ Ψ U it.of_type x → ValueIsOrdered Σ Ψ U is it.of_type x
      value None v w = tt
      value (Some N) v (u, c) = (v, u, c)

  items_followed : (xs ys : List ListedMetavariable) → ItemsAreOrdered Σ Ψ U xs → ItemsAreOrdered Σ Ψ U ys → ItemsAreOrdered Σ Ψ U (followed xs ys)
  items_followed [] ys x y = y
  items_followed (it ∷ xs) ys (w, x) y = (w, items_followed xs ys x y)

  items_chosen : (b : Bool) (r : ℕ → Bool) (is : List ListedMetavariable) → ItemsAreOrdered Σ Ψ U is → ItemsAreOrdered Σ Ψ U (chosen b r is)
  items_chosen b r [] w = w
  items_chosen b r (it ∷ is) (w, ws) = go b (r it.of) (items_chosen b r is ws)
    where
      go : (b c : Bool) → ItemsAreOrdered Σ Ψ U (chosen b r is) → ItemsAreOrdered Σ Ψ U (pick b c it (chosen b r is))
      go true true h = (w, h)
      go false false h = (w, h)
      go true false h = h
      go false true h = h

chosen_listed : (b : Bool) (r : ℕ → Bool) (is : List ListedMetavariable) (m : ℕ) → IsListed (chosen b r is) m → IsListed is m × (r m ≡ b)
chosen_listed b r [] m l = absurd l
chosen_listed b r (it ∷ is) m l = go b (r it.of) refl l (chosen_listed b r is m)
  where
    go : (b c : Bool) → r it.of ≡ c → IsListed (pick b c it (chosen b r is)) m → (IsListed (chosen b r is) m → IsListed is m × (r m ≡ b)) → IsListed (it ∷ is) m × (r m ≡ b)
    go true true e (inl q) h = (inl q, ap r q ∙ e)
    go true true e (inr l) h = let (x, y) = h l in (inr x, y)
    go false false e (inl q) h = (inl q, ap r q ∙ e)
    go false false e (inr l) h = let (x, y) = h l in (inr x, y)
    go true false e l h = let (x, y) = h l in (inr x, y)
    go false true e l h = let (x, y) = h l in (inr x, y)

distinct_chosen : (b : Bool) (r : ℕ → Bool) (is : List ListedMetavariable) → Distinct is → Distinct (chosen b r is)
distinct_chosen b r [] d = d
distinct_chosen b r (it ∷ is) (o, d) = go b (r it.of) (distinct_chosen b r is d) (λ l. o (chosen_listed b r is it.of l).0)
  where
    go : (b c : Bool) → Distinct (chosen b r is) → (IsListed (chosen b r is) it.of → ⊥) → Distinct (pick b c it (chosen b r is))
    go true true h n = (n, h)
    go false false h n = (n, h)
    go true false h n = h
    go false true h n = h

followed_listed : (xs ys : List ListedMetavariable) (m : ℕ) → IsListed (followed xs ys) m → IsListed xs m ⊎ IsListed ys m
followed_listed [] ys m l = inr l
followed_listed (x ∷ xs) ys m (inl e) = inl (inl e)
followed_listed (x ∷ xs) ys m (inr l) = go (followed_listed xs ys m l)
  where
    go : IsListed xs m ⊎ IsListed ys m → IsListed (x ∷ xs) m ⊎ IsListed ys m
    go (inl h) = inl (inr h)
    go (inr h) = inr h

distinct_followed : (xs ys : List ListedMetavariable) → Distinct xs → Distinct ys → ((m : ℕ) → IsListed xs m → IsListed ys m → ⊥) → Distinct (followed xs ys)
distinct_followed [] ys x y n = y
distinct_followed (it ∷ xs) ys (o, x) y n = (λ l. go (followed_listed xs ys it.of l), distinct_followed xs ys x y (λ m a b. n m (inr a) b))
  where
    go : IsListed xs it.of ⊎ IsListed ys it.of → ⊥
    go (inl h) = o h
    go (inr h) = n it.of (inl refl) h

-- THE theorem: the partition of an order with its typing is one
pub partition_ordered : (Σ : Signature) (Ψ : ℕ → Option LfType) (U : (ℕ → Option Term) → Type 0) (r : ℕ → Bool) (is : List ListedMetavariable) → IsDependencyOrder Σ Ψ U is → Closed r is → IsDependencyOrder Σ Ψ U (followed (chosen false r is) (chosen true r is))
partition_ordered Σ Ψ U r is o c =
    let (d, e, w) = ordered_parts Σ Ψ U is o in
    ordered_of Σ Ψ U (followed (chosen false r is) (chosen true r is)) (partition r is d c)
    (distinct_followed (chosen false r is) (chosen true r is) (distinct_chosen false r is e) (distinct_chosen true r is e) (λ m x y. no (sym (chosen_listed false r is m x).1 ∙ (chosen_listed true r is m y).1)))
    (items_followed Σ Ψ U (chosen false r is) (chosen true r is) (items_chosen Σ Ψ U false r is w) (items_chosen Σ Ψ U true r is w))
  where
    no : false ≡ true → ⊥
    no e = cc

-- the value of m is now N
abbrev pub put_at : Bool → ListedMetavariable → Term → ListedMetavariable
put_at true it N = record { of = it.of; of_type = it.of_type; value = Some N }
put_at false it N = it

abbrev pub bound : ℕ → Term → List ListedMetavariable → List ListedMetavariable
bound m N [] = []
bound m N (it ∷ is) = put_at (same_number m it.of) it N ∷ bound m N is

same_is : (m n : ℕ) → same_number m n ≡ true → m ≡ n
same_is zero zero e = refl
same_is zero (suc n) e = cc
same_is (suc m) zero e = cc
same_is (suc m) (suc n) e = ap suc (same_is m n e)

pub bound_listed : (m : ℕ) (N : Term) (is : List ListedMetavariable) (k : ℕ) → IsListed is k → IsListed (bound m N is) k
bound_listed m N [] k l = l
bound_listed m N (it ∷ is) k l = go (same_number m it.of) (bound_listed m N is k) l
  where
    go : (b : Bool) → (IsListed is k → IsListed (bound m N is) k) → IsListed (it ∷ is) k → IsListed (put_at b it N ∷ bound m N is) k
    go true h (inl e) = inl e
    go true h (inr l) = inr (h l)
    go false h (inl e) = inl e
    go false h (inr l) = inr (h l)

listed_bound : (m : ℕ) (N : Term) (is : List ListedMetavariable) (k : ℕ) → IsListed (bound m N is) k → IsListed is k
listed_bound m N [] k l = l
listed_bound m N (it ∷ is) k l = go (same_number m it.of) (listed_bound m N is k) l
  where
    go : (b : Bool) → (IsListed (bound m N is) k → IsListed is k) → IsListed (put_at b it N ∷ bound m N is) k → IsListed (it ∷ is) k
    go true h (inl e) = inl e
    go true h (inr l) = inr (h l)
    go false h (inl e) = inl e
    go false h (inr l) = inr (h l)

-- what N mentions stands behind m
abbrev pub Behind : ℕ → Term → List ListedMetavariable → Type 0
Behind m N [] = Unit {0}
Behind m N (it ∷ is) = (m ≡ it.of → MetavariablesIn (IsListed is) N) × Behind m N is

-- THE theorem: a value of what stands behind can be put in
pub bound_ordered : (Σ : Signature) (Ψ : ℕ → Option LfType) (U : (ℕ → Option Term) → Type 0) (m : ℕ) (A : LfType) (N : Term) → Ψ m ≡ Some A → OpenHasType Σ [] Ψ U [] N A → ((ρ : ℕ → ℕ) → rename ρ N ≡ N) → (is : List ListedMetavariable) → IsDependencyOrder Σ Ψ U is → Behind m N is → IsDependencyOrder Σ Ψ U (bound m N is)
bound_ordered Σ Ψ U m A N d n c [] o b = tt
bound_ordered Σ Ψ U m A N d n c (it ∷ is) (o, e, out, i, t, cl, v) (h, b) = go (same_number m it.of) refl (bound_ordered Σ Ψ U m A N d n c is o b)
  where
    i' : MetavariablesInType (IsListed (bound m N is)) it.of_type
    i' = in_weaker_type (IsListed is) (IsListed (bound m N is)) (bound_listed m N is) it.of_type i

    value : (x : Option Term) → ValueIsOrdered Σ Ψ U is it.of_type x → ValueIsOrdered Σ Ψ U (bound m N is) it.of_type x
    value None w = tt
    value (Some M) (w, x, y) = (in_weaker (IsListed is) (IsListed (bound m N is)) (bound_listed m N is) M w, x, y)

    go : (q : Bool) → same_number m it.of ≡ q → IsDependencyOrder Σ Ψ U (bound m N is) → IsDependencyOrder Σ Ψ U (put_at q it N ∷ bound m N is)
    go false q rest = (rest, e, λ l. out (listed_bound m N is it.of l), i', t, cl, value it.value v)
    go true q rest =
        let p : m ≡ it.of = same_is m it.of q in
        let r : A ≡ it.of_type = (let z : Some A ≡ Some it.of_type = sym d ∙ ap Ψ p ∙ e in cc) in
        (rest, e, λ l. out (listed_bound m N is it.of l), i', t, cl, (in_weaker (IsListed is) (IsListed (bound m N is)) (bound_listed m N is) N (h p), subst (OpenHasType Σ [] Ψ U [] N) r n, c))

-- a new metavariable right behind n
abbrev pub put_behind : Bool → ListedMetavariable → ListedMetavariable → List ListedMetavariable → List ListedMetavariable → List ListedMetavariable
put_behind true new it is js = it ∷ new ∷ is
put_behind false new it is js = it ∷ js

abbrev pub insert : ℕ → ListedMetavariable → List ListedMetavariable → List ListedMetavariable
insert n new [] = []
insert n new (it ∷ is) = put_behind (same_number n it.of) new it is (insert n new is)

pub insert_listed : (n : ℕ) (new : ListedMetavariable) (is : List ListedMetavariable) (k : ℕ) → IsListed is k → IsListed (insert n new is) k
insert_listed n new [] k l = l
insert_listed n new (it ∷ is) k l = go (same_number n it.of) (insert_listed n new is k) l
  where
    go : (b : Bool) → (IsListed is k → IsListed (insert n new is) k) → IsListed (it ∷ is) k → IsListed (put_behind b new it is (insert n new is)) k
    go true h (inl e) = inl e
    go true h (inr l) = inr (inr l)
    go false h (inl e) = inl e
    go false h (inr l) = inr (h l)

listed_insert : (n : ℕ) (new : ListedMetavariable) (is : List ListedMetavariable) (k : ℕ) → IsListed (insert n new is) k → IsListed is k ⊎ (k ≡ new.of)
listed_insert n new [] k l = absurd l
listed_insert n new (it ∷ is) k l = go (same_number n it.of) (listed_insert n new is k) l
  where
    go : (b : Bool) → (IsListed (insert n new is) k → IsListed is k ⊎ (k ≡ new.of)) → IsListed (put_behind b new it is (insert n new is)) k → IsListed (it ∷ is) k ⊎ (k ≡ new.of)
    go true h (inl e) = inl (inl e)
    go true h (inr (inl e)) = inr e
    go true h (inr (inr l)) = inl (inr l)
    go false h (inl e) = inl (inl e)
    go false h (inr l) = or_same (h l)
      where
        or_same : IsListed is k ⊎ (k ≡ new.of) → IsListed (it ∷ is) k ⊎ (k ≡ new.of)
        or_same (inl x) = inl (inr x)
        or_same (inr x) = inr x

-- what the new type mentions stands behind n
abbrev pub TypeBehind : ℕ → LfType → List ListedMetavariable → Type 0
TypeBehind n X [] = Unit {0}
TypeBehind n X (it ∷ is) = (n ≡ it.of → MetavariablesInType (IsListed is) X) × TypeBehind n X is

-- THE theorem: an unbound new metavariable can stand right behind n, where its type mentions only what stands behind n
pub insert_ordered : (Σ : Signature) (Ψ : ℕ → Option LfType) (U : (ℕ → Option Term) → Type 0) (n n' : ℕ) (X : LfType) → Ψ n' ≡ Some X → OpenIsType Σ [] Ψ U [] X → ((ρ : ℕ → ℕ) → rename_type ρ X ≡ X) → (is : List ListedMetavariable) → (IsListed is n' → ⊥) → IsDependencyOrder Σ Ψ U is → TypeBehind n X is → IsDependencyOrder Σ Ψ U (insert n (record { of = n'; of_type = X; value = None }) is)
insert_ordered Σ Ψ U n n' X d t c [] new o b = tt
insert_ordered Σ Ψ U n n' X d t c (it ∷ is) new (o, e, out, i, s, cl, v) (h, b) =
    go (same_number n it.of) refl (insert_ordered Σ Ψ U n n' X d t c is (λ l. new (inr l)) o b)
  where
    kept_value : (ys : List ListedMetavariable) → ((k : ℕ) → IsListed is k → IsListed ys k) → (y : Option Term) → ValueIsOrdered Σ Ψ U is it.of_type y → ValueIsOrdered Σ Ψ U ys it.of_type y
    kept_value ys f None w = tt
    kept_value ys f (Some M) (w, p, q) = (in_weaker (IsListed is) (IsListed ys) f M w, p, q)

    apart : (k : ℕ) → IsListed is k ⊎ (k ≡ n') → k ≡ it.of → ⊥
    apart k (inl l) q = out (subst (IsListed is) q l)
    apart k (inr l) q = new (inl (sym l ∙ q))

    go : (q : Bool) → same_number n it.of ≡ q → IsDependencyOrder Σ Ψ U (insert n (record { of = n'; of_type = X; value = None }) is) → IsDependencyOrder Σ Ψ U (put_behind q (record { of = n'; of_type = X; value = None }) it is (insert n (record { of = n'; of_type = X; value = None }) is))
    go true q rest =
        ((o, d, (λ l. new (inr l)), h (same_is n it.of q), t, c, tt), e, (λ l. both l), in_weaker_type (IsListed is) (IsListed (record { of = n'; of_type = X; value = None } ∷ is)) (λ k l. inr l) it.of_type i, s, cl, kept_value (record { of = n'; of_type = X; value = None } ∷ is) (λ k l. inr l) it.value v)
      where
        both : (it.of ≡ n') ⊎ IsListed is it.of → ⊥
        both (inl l) = new (inl (sym l))
        both (inr l) = out l
    go false q rest =
        (rest, e, (λ l. apart it.of (listed_insert n (record { of = n'; of_type = X; value = None }) is it.of l) refl), in_weaker_type (IsListed is) (IsListed (insert n (record { of = n'; of_type = X; value = None }) is)) (insert_listed n (record { of = n'; of_type = X; value = None }) is) it.of_type i, s, cl, kept_value (insert n (record { of = n'; of_type = X; value = None }) is) (insert_listed n (record { of = n'; of_type = X; value = None }) is) it.value v)
