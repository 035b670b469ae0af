-- The order of dependency of a well-formed store orders its bindings.
use Rattle.std.proofs.Common.{◌≡◌, ℕ, suc, ◌≤◌, List, [], ◌∷◌, length, Option, Some, None, ◌⊎◌, inl, inr, refl, sym, ap, ◌∙◌, subst, arith}
use Rattle.lf.specs.Subordination.{Member}
use Rattle.lf.specs.Syntax.{LfType, Term}
use Rattle.lf.specs.Typing.{Signature}
use Rattle.lf_unification.specs.Dependency.{IsDependencyOrder, IsListed, ListedMetavariable, ValueIsOrdered}
use Rattle.lf_unification.specs.Putting.{Unbound}
use Rattle.lf_unification.specs.Solving.{BindingsAreListed, ValuesAreBindings}
use Rattle.lf_unification.specs.Unifiers.{Binding}
use Rattle.lf_unification.proofs.Scope.{in_weaker}
use Rattle.tw_putting.specs.Fits.{GoesDown, HaveOrder, IsBoundBy}
use Rattle.tw_putting.specs.Stores.{with_binding}
use Rattle.tw_putting.proofs.Filled.{member_bound}
use Rattle.tw_putting.proofs.PutTotal.{bound_or_not}

-- Lists without repetitions.
abbrev EachOnce : List Binding → Type 0
EachOnce [] = Unit {0}
EachOnce (x ∷ xs) = (Member x xs → ⊥) × EachOnce xs

-- a list without one of its elements
record Without (x : Binding) (ys : List Binding) : Type 0 where
  others : List Binding
  count : length ys ≡ suc (length others)
  stay : (y : Binding) → Member y ys → (y ≡ x) ⊎ Member y others

further : (x y : Binding) (ys : List Binding) (w : Without x ys) (z : Binding) → (z ≡ x) ⊎ Member z w.others → (z ≡ x) ⊎ Member z (y ∷ w.others)
further x y ys w z (inl q) = inl q
further x y ys w z (inr j) = inr (inr j)

still_there : (x y : Binding) (ys : List Binding) (w : Without x ys) (z : Binding) → Member z (y ∷ ys) → (z ≡ x) ⊎ Member z (y ∷ w.others)
still_there x y ys w z (inl q) = inr (inl q)
still_there x y ys w z (inr j) = further x y ys w z (w.stay z j)

first_gone : (x y : Binding) (ys : List Binding) → x ≡ y → (z : Binding) → Member z (y ∷ ys) → (z ≡ x) ⊎ Member z ys
first_gone x y ys e z (inl q) = inl (q ∙ sym e)
first_gone x y ys e z (inr j) = inr j

without : (x : Binding) (ys : List Binding) → Member x ys → Without x ys
without x [] i = absurd i
without x (y ∷ ys) (inl e) = record { others = ys; count = refl; stay = first_gone x y ys e }
without x (y ∷ ys) (inr i) = let w = without x ys i in record { others = y ∷ w.others; count = ap suc w.count; stay = still_there x y ys w }

other_member : (x : Binding) (xs ys : List Binding) → (Member x xs → ⊥) → (w : Without x ys) (z : Binding) → Member z xs → (z ≡ x) ⊎ Member z w.others → Member z w.others
other_member x xs ys n w z i (inl q) = absurd (n (subst (λ y. Member y xs) q i))
other_member x xs ys n w z i (inr j) = j

no_more_than : (xs ys : List Binding) → EachOnce xs → ((x : Binding) → Member x xs → Member x ys) → length xs ≤ length ys
no_more_than [] ys o f = omega arith
no_more_than (x ∷ xs) ys (n, o) f =
    let w = without x ys (f x (inl refl)) in
    let h : length xs ≤ length w.others = no_more_than xs w.others o (λ z i. other_member x xs ys n w z i (w.stay z (f z (inr i)))) in
    omega (arith, h, w.count)

-- the bound ones of the list, as bindings
abbrev bound_ones : List ListedMetavariable → List Binding
bound_ones [] = []
bound_ones (it ∷ is) = with_binding it.of it.value (bound_ones is)

member_later : (m : ℕ) (x : Option Term) (bs : List Binding) (b : Binding) → Member b bs → Member b (with_binding m x bs)
member_later m None bs b i = i
member_later m (Some N) bs b i = inr i

first_or_later : (m : ℕ) (x : Option Term) (bs : List Binding) (b : Binding) → Member b (with_binding m x bs) → ((b.of ≡ m) × (x ≡ Some b.value)) ⊎ Member b bs
first_or_later m None bs b i = inr i
first_or_later m (Some N) bs b (inl e) = inl (ap (λ (c : Binding). c.of) e, sym (ap (λ (c : Binding). Some c.value) e))
first_or_later m (Some N) bs b (inr i) = inr i

abbrev item : Binding → LfType → ListedMetavariable
item b A = record { of = b.of; of_type = A; value = Some b.value }

item_bound : (is : List ListedMetavariable) (b : Binding) (A : LfType) → Member (item b A) is → Member b (bound_ones is)
item_bound [] b A i = absurd i
item_bound (it ∷ is) b A (inl q) = subst (λ (x : ListedMetavariable). Member b (with_binding x.of x.value (bound_ones is))) q (inl refl)
item_bound (it ∷ is) b A (inr i) = member_later it.of it.value (bound_ones is) b (item_bound is b A i)

listed_by : (it : ListedMetavariable) (is : List ListedMetavariable) (b : Binding) → (Member b (bound_ones is) → IsListed is b.of) → ((b.of ≡ it.of) × (it.value ≡ Some b.value)) ⊎ Member b (bound_ones is) → IsListed (it ∷ is) b.of
listed_by it is b f (inl (e, v)) = inl e
listed_by it is b f (inr j) = inr (f j)

bound_is_listed : (is : List ListedMetavariable) (b : Binding) → Member b (bound_ones is) → IsListed is b.of
bound_is_listed [] b i = absurd i
bound_is_listed (it ∷ is) b i = listed_by it is b (bound_is_listed is b) (first_or_later it.of it.value (bound_ones is) b i)

module _ (Σ : Signature) (Ψ : ℕ → Option LfType) (U : (ℕ → Option Term) → Type 0) (bs : List Binding) where
  within_by : (it : ListedMetavariable) (is : List ListedMetavariable) (b : Binding) → ((N : Term) → it.value ≡ Some N → Member (record { of = it.of; value = N }) bs) → (Member b (bound_ones is) → Member b bs) → ((b.of ≡ it.of) × (it.value ≡ Some b.value)) ⊎ Member b (bound_ones is) → Member b bs
  within_by it is b v f (inl (e, q)) = subst (λ n. Member (record { of = n; value = b.value }) bs) (sym e) (v b.value q)
  within_by it is b v f (inr j) = f j

  within_all : (is : List ListedMetavariable) → ValuesAreBindings bs is → (b : Binding) → Member b (bound_ones is) → Member b bs
  within_all [] v b i = absurd i
  within_all (it ∷ is) (v, vs) b i = within_by it is b v (within_all is vs b) (first_or_later it.of it.value (bound_ones is) b i)

  listed_each : (is : List ListedMetavariable) (cs : List Binding) → BindingsAreListed is cs → (b : Binding) → Member b cs → (A : LfType) × Member (item b A) is
  listed_each is [] l b i = absurd i
  listed_each is (c ∷ cs) (l, ls) b (inl q) = subst (λ (x : Binding). (A : LfType) × Member (item x A) is) (sym q) l
  listed_each is (c ∷ cs) (l, ls) b (inr i) = listed_each is cs ls b i

  once_by : (m : ℕ) (x : Option Term) (is : List ListedMetavariable) → (IsListed is m → ⊥) → EachOnce (bound_ones is) → EachOnce (with_binding m x (bound_ones is))
  once_by m None is n o = o
  once_by m (Some N) is n o = (λ i. n (bound_is_listed is (record { of = m; value = N }) i), o)

  once : (is : List ListedMetavariable) → IsDependencyOrder Σ Ψ U is → EachOnce (bound_ones is)
  once [] o = tt
  once (it ∷ is) o = once_by it.of it.value is o.2 (once is o.0)

  -- what is listed is not bound, or is bound in the list
  listed_either : (is : List ListedMetavariable) → ((b : Binding) → Member b bs → IsListed is b.of → (A : LfType) × Member (item b A) is) → (m : ℕ) → IsListed is m → Unbound bs m ⊎ IsBoundBy (bound_ones is) m
  listed_either is h m l = go (bound_or_not m bs)
    where
      go : Unbound bs m ⊎ ((b : Binding) × Member b bs × (b.of ≡ m)) → Unbound bs m ⊎ IsBoundBy (bound_ones is) m
      go (inl u) = inl u
      go (inr (b, i, e)) =
          let (A, j) = h b i (subst (IsListed is) (sym e) l) in
          inr (subst (IsBoundBy (bound_ones is)) e (member_bound (bound_ones is) b (item_bound is b A j)))

  fewer : (it : ListedMetavariable) (is : List ListedMetavariable) (b : Binding) → (IsListed is it.of → ⊥) → IsListed is b.of → (A : LfType) → Member (item b A) (it ∷ is) → Member (item b A) is
  fewer it is b n l A (inl q) = absurd (n (subst (IsListed is) (ap (λ (x : ListedMetavariable). x.of) q) l))
  fewer it is b n l A (inr i) = i

  down_by : (it : ListedMetavariable) (is : List ListedMetavariable) (x : Option Term) → ((b : Binding) → Member b bs → IsListed is b.of → (A : LfType) × Member (item b A) is) → GoesDown bs (bound_ones is) → ValueIsOrdered Σ Ψ U is it.of_type x → GoesDown bs (with_binding it.of x (bound_ones is))
  down_by it is None later d v = d
  down_by it is (Some N) later d v = (in_weaker (IsListed is) (λ m. Unbound bs m ⊎ IsBoundBy (bound_ones is) m) (listed_either is later) N v.0, d)

  goes_down : (is : List ListedMetavariable) → IsDependencyOrder Σ Ψ U is → ((b : Binding) → Member b bs → IsListed is b.of → (A : LfType) × Member (item b A) is) → GoesDown bs (bound_ones is)
  goes_down [] o h = tt
  goes_down (it ∷ is) o h =
      let later : (b : Binding) → Member b bs → IsListed is b.of → (A : LfType) × Member (item b A) is = λ b i l. (let (A, j) = h b i (inr l) in (A, fewer it is b o.2 l A j)) in
      down_by it is it.value later (goes_down is o.0 later) o.6

  -- THE theorem: the bindings have an order
  pub have_order : (is : List ListedMetavariable) → IsDependencyOrder Σ Ψ U is → BindingsAreListed is bs → ValuesAreBindings bs is → HaveOrder bs
  have_order is o l v = record {
    order = bound_ones is;
    count = no_more_than (bound_ones is) bs (once is o) (within_all is v);
    within = within_all is v;
    all = λ b i. let (A, j) = listed_each is bs l b i in item_bound is b A j;
    down = goes_down is o (λ b i x. listed_each is bs l b i);
  }
