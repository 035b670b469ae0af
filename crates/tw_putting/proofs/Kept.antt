-- A store that skeletons type stays so when a metavariable is declared or bound.
use Rattle.std.proofs.Common.{◌≡◌, ℕ, zero, suc, ◌+◌, List, [], ◌∷◌, ◌++◌, length, length-append, arith, Option, Some, None, slice_get, slice_set, ◌⊎◌, inl, inr, refl, sym, ap, ◌∙◌, subst}
use Rattle.std.specs.Option.{option_map}
use Rattle.lf.specs.SkeletonTyping.{TermSkeleton}
use Rattle.lf.specs.Skeletons.{type_skeleton}
use Rattle.lf.specs.Subordination.{Member}
use Rattle.lf.specs.Syntax.{LfType, Skeleton, Term, constant, metavariable, skeleton, variable}
use Rattle.lf.specs.Typing.{Signature}
use Rattle.lf_unification.specs.OpenTyping.{MetavariablesIn}
use Rattle.lf_unification.specs.Putting.{Unbound}
use Rattle.lf_unification.specs.Unifiers.{Binding}
use Rattle.lf_unification.proofs.Offer.{decide}
use Rattle.lf_unification.proofs.Scope.{in_weaker}
use Rattle.tw_metas.specs.State.{Declaration, IsUnbound, State, empty_state, joined, value_of, with_declared, with_value}
use Rattle.tw_putting.specs.Fits.{BindingsBySkeletons, GoesDown, HaveOrder, IsBoundBy, StoreBySkeletons, declared_skeletons}
use Rattle.tw_putting.specs.Stores.{BoundHaveValues, bindings_from, bindings_of, types_of, with_binding}
use Rattle.tw_putting.proofs.Filled.{MoreHeads, more_heads}

-- Lists.
get_set : {A : Type 0} (xs : List A) (m : ℕ) (y x : A) → slice_get xs m ≡ Some y → slice_get (slice_set xs m x) m ≡ Some x
get_set [] m y x e = cc
get_set (z ∷ zs) zero y x e = refl
get_set (z ∷ zs) (suc m) y x e = get_set zs m y x e

pub get_set_other : {A : Type 0} (xs : List A) (m n : ℕ) (x : A) → (n ≡ m → ⊥) → slice_get (slice_set xs m x) n ≡ slice_get xs n
get_set_other [] m n x h = refl
get_set_other (z ∷ zs) zero zero x h = absurd (h refl)
get_set_other (z ∷ zs) zero (suc n) x h = refl
get_set_other (z ∷ zs) (suc m) zero x h = refl
get_set_other (z ∷ zs) (suc m) (suc n) x h = get_set_other zs m n x (λ e. h (ap suc e))

pub get_grown : {A : Type 0} (xs : List A) (y : A) (n : ℕ) (x : A) → slice_get xs n ≡ Some x → slice_get (xs ++ y ∷ []) n ≡ Some x
get_grown [] y n x e = cc
get_grown (z ∷ zs) y zero x e = e
get_grown (z ∷ zs) y (suc n) x e = get_grown zs y n x e

joined_grown : {A : Type 0} (xs : List (Option A)) (n : ℕ) → joined (slice_get (xs ++ None ∷ []) n) ≡ joined (slice_get xs n)
joined_grown [] zero = refl
joined_grown [] (suc n) = refl
joined_grown (z ∷ zs) zero = refl
joined_grown (z ∷ zs) (suc n) = joined_grown zs n

-- Bindings.
by_more : (Σ : Signature) (Ψ Ψ' : ℕ → Option LfType) (Γ : List Skeleton) → ((m : ℕ) (A : LfType) → Ψ m ≡ Some A → Ψ' m ≡ Some A) → (bs : List Binding) → BindingsBySkeletons Σ Ψ Γ bs → BindingsBySkeletons Σ Ψ' Γ bs
by_more Σ Ψ Ψ' Γ g [] w = tt
by_more Σ Ψ Ψ' Γ g (b ∷ bs) ((A, e, t), u, w) = (
  (A, g b.of A e, more_heads (declared_skeletons Σ Ψ) (declared_skeletons Σ Ψ') more Γ b.value (skeleton A) t),
  u,
  by_more Σ Ψ Ψ' Γ g bs w,
)
  where
    grown : (x y : Option LfType) (t : Skeleton) → ((A : LfType) → x ≡ Some A → y ≡ Some A) → type_skeleton x ≡ Some t → type_skeleton y ≡ Some t
    grown None y t f q = cc
    grown (Some A) y t f q = ap type_skeleton (f A refl) ∙ q

    more : MoreHeads (declared_skeletons Σ Ψ) (declared_skeletons Σ Ψ')
    more Δ (constant c) t q = q
    more Δ (variable i) t q = q
    more Δ (metavariable m) t q = grown (Ψ m) (Ψ' m) t (λ A. g m A) q

bindings_same : (ms : List ℕ) (vs ws : List (Option Term)) → ((n : ℕ) → Member n ms → joined (slice_get ws n) ≡ joined (slice_get vs n)) → bindings_from ms ws ≡ bindings_from ms vs
bindings_same [] vs ws h = refl
bindings_same (m ∷ ms) vs ws h = ap (λ x. with_binding m x (bindings_from ms ws)) (h m (inl refl)) ∙ ap (with_binding m (joined (slice_get vs m))) (bindings_same ms vs ws (λ n i. h n (inr i)))

-- A store that holds nothing.
pub empty_by_skeletons : (Σ : Signature) (Γ : List Skeleton) → StoreBySkeletons Σ Γ empty_state
empty_by_skeletons Σ Γ = record {
  bound = λ m N e. (let q : None ≡ Some N = e in cc);
  values = tt;
  ordered = record { order = []; count = omega arith; within = λ b i. i; all = λ b i. i; down = tt };
}

-- One metavariable more.
declared_values : (s : State) (G : List LfType) (A : LfType) (n : ℕ) → value_of (with_declared s G A) n ≡ value_of s n
declared_values s G A n = joined_grown s.values n

declared_bindings : (s : State) (G : List LfType) (A : LfType) → bindings_of (with_declared s G A) ≡ bindings_of s
declared_bindings s G A = bindings_same s.bound s.values (s.values ++ None ∷ []) (λ n i. joined_grown s.values n)

pub declared_types : (s : State) (G : List LfType) (A : LfType) (m : ℕ) (B : LfType) → types_of s m ≡ Some B → types_of (with_declared s G A) m ≡ Some B
declared_types s G A m B e = go (slice_get s.declared m) refl e
  where
    go : (x : Option Declaration) → slice_get s.declared m ≡ x → option_map (λ d. d.of_type) x ≡ Some B → types_of (with_declared s G A) m ≡ Some B
    go None q f = cc
    go (Some d) q f = ap (option_map (λ d. d.of_type)) (get_grown s.declared (record { context = G; of_type = A }) m d q) ∙ f

pub declare_keeps : (Σ : Signature) (Γ : List Skeleton) (s : State) (G : List LfType) (A : LfType) → StoreBySkeletons Σ Γ s → StoreBySkeletons Σ Γ (with_declared s G A)
declare_keeps Σ Γ s G A w = record {
  bound = λ m N e. w.bound m N (sym (declared_values s G A m) ∙ e);
  values = subst (BindingsBySkeletons Σ (types_of (with_declared s G A)) Γ) (sym (declared_bindings s G A)) (by_more Σ (types_of s) (types_of (with_declared s G A)) Γ (declared_types s G A) (bindings_of s) w.values);
  ordered = subst HaveOrder (sym (declared_bindings s G A)) w.ordered;
}

pub declare_keeps_bound : (s : State) (G : List LfType) (A : LfType) → BoundHaveValues s → BoundHaveValues (with_declared s G A)
declare_keeps_bound s G A h m i = let (N, e) = h m i in (N, declared_values s G A m ∙ e)

-- One value more.
value_here : (s : State) (m : ℕ) (N : Term) → IsUnbound s m → value_of (with_value s m N) m ≡ Some N
value_here s m N u = ap joined (get_set s.values m None (Some N) u)

value_elsewhere : (s : State) (m : ℕ) (N : Term) (n : ℕ) → (n ≡ m → ⊥) → value_of (with_value s m N) n ≡ value_of s n
value_elsewhere s m N n h = ap joined (get_set_other s.values m n (Some N) h)

not_bound : (s : State) (m : ℕ) → IsUnbound s m → BoundHaveValues s → Member m s.bound → ⊥
not_bound s m u h i = let (N, e) = h m i in let q : None ≡ Some N = sym (ap joined u) ∙ e in cc

pub bound_bindings : (s : State) (m : ℕ) (N : Term) → IsUnbound s m → BoundHaveValues s → bindings_of (with_value s m N) ≡ record { of = m; value = N } ∷ bindings_of s
bound_bindings s m N u h =
    ap (λ x. with_binding m x (bindings_from s.bound (slice_set s.values m (Some N)))) (value_here s m N u)
    ∙ ap (λ bs. record { of = m; value = N } ∷ bs) (bindings_same s.bound s.values (slice_set s.values m (Some N)) (λ n i. value_elsewhere s m N n (λ q. not_bound s m u h (subst (λ j. Member j s.bound) q i))))

unbound_in : (s : State) (m : ℕ) → IsUnbound s m → (ms : List ℕ) → Unbound (bindings_from ms s.values) m
unbound_in s m u [] = tt
unbound_in s m u (x ∷ ms) = go (joined (slice_get s.values x)) refl (unbound_in s m u ms)
  where
    go : (y : Option Term) → joined (slice_get s.values x) ≡ y → Unbound (bindings_from ms s.values) m → Unbound (with_binding x y (bindings_from ms s.values)) m
    go None q v = v
    go (Some N) q v = ((λ w. let r : None ≡ Some N = sym (ap joined u) ∙ ap (λ j. joined (slice_get s.values j)) w ∙ q in cc), v)

member_before : (b : Binding) (xs ys : List Binding) → Member b xs → Member b (xs ++ ys)
member_before b [] ys i = absurd i
member_before b (x ∷ xs) ys (inl e) = inl e
member_before b (x ∷ xs) ys (inr i) = inr (member_before b xs ys i)

member_at_end : (b : Binding) (xs : List Binding) → Member b (xs ++ b ∷ [])
member_at_end b [] = inl refl
member_at_end b (x ∷ xs) = inr (member_at_end b xs)

before_or_end : (b c : Binding) (xs : List Binding) → Member b (xs ++ c ∷ []) → Member b xs ⊎ (b ≡ c)
before_or_end b c [] (inl e) = inr e
before_or_end b c [] (inr z) = absurd z
before_or_end b c (x ∷ xs) (inl e) = inl (inl e)
before_or_end b c (x ∷ xs) (inr i) = go (before_or_end b c xs i)
  where
    go : Member b xs ⊎ (b ≡ c) → Member b (x ∷ xs) ⊎ (b ≡ c)
    go (inl j) = inl (inr j)
    go (inr e) = inr e

bound_before : (m : ℕ) (xs ys : List Binding) → IsBoundBy xs m → IsBoundBy (xs ++ ys) m
bound_before m [] ys i = absurd i
bound_before m (x ∷ xs) ys (inl e) = inl e
bound_before m (x ∷ xs) ys (inr i) = inr (bound_before m xs ys i)

bound_at_end : (c : Binding) (xs : List Binding) → IsBoundBy (xs ++ c ∷ []) c.of
bound_at_end c [] = inl refl
bound_at_end c (x ∷ xs) = inr (bound_at_end c xs)

-- a value that mentions only what is not bound comes last
goes_down_to : (bs : List Binding) (c : Binding) → MetavariablesIn (λ n. (n ≡ c.of → ⊥) × Unbound bs n) c.value → (cs : List Binding) → GoesDown bs cs → GoesDown (c ∷ bs) (cs ++ c ∷ [])
goes_down_to bs c o [] d = (in_weaker (λ n. (n ≡ c.of → ⊥) × Unbound bs n) (λ n. Unbound (c ∷ bs) n ⊎ IsBoundBy [] n) (λ n u. inl u) c.value o, tt)
goes_down_to bs c o (x ∷ xs) (v, d) = (in_weaker (λ n. Unbound bs n ⊎ IsBoundBy xs n) (λ n. Unbound (c ∷ bs) n ⊎ IsBoundBy (xs ++ c ∷ []) n) further x.value v, goes_down_to bs c o xs d)
  where
    other : (n : ℕ) → Unbound bs n → (n ≡ c.of) ⊎ (n ≡ c.of → ⊥) → Unbound (c ∷ bs) n ⊎ IsBoundBy (xs ++ c ∷ []) n
    other n u (inl e) = inr (subst (IsBoundBy (xs ++ c ∷ [])) (sym e) (bound_at_end c xs))
    other n u (inr h) = inl (h, u)

    further : (n : ℕ) → Unbound bs n ⊎ IsBoundBy xs n → Unbound (c ∷ bs) n ⊎ IsBoundBy (xs ++ c ∷ []) n
    further n (inl u) = other n u (decide n c.of)
    further n (inr i) = inr (bound_before n xs (c ∷ []) i)

last_in_order : (bs : List Binding) (c : Binding) → HaveOrder bs → MetavariablesIn (λ n. (n ≡ c.of → ⊥) × Unbound bs n) c.value → HaveOrder (c ∷ bs)
last_in_order bs c w o = record {
  order = w.order ++ c ∷ [];
  count = let l : length (w.order ++ c ∷ []) ≡ length w.order + 1 = length-append w.order (c ∷ []) in omega (arith, l, w.count);
  within = λ b i. in_all b (before_or_end b c w.order i);
  all = λ b i. in_order b i;
  down = goes_down_to bs c o w.order w.down;
}
  where
    in_all : (b : Binding) → Member b w.order ⊎ (b ≡ c) → Member b (c ∷ bs)
    in_all b (inl i) = inr (w.within b i)
    in_all b (inr e) = inl e

    in_order : (b : Binding) → Member b (c ∷ bs) → Member b (w.order ++ c ∷ [])
    in_order b (inl e) = subst (λ x. Member x (w.order ++ c ∷ [])) (sym e) (member_at_end c w.order)
    in_order b (inr i) = member_before b w.order (c ∷ []) (w.all b i)

pub bind_keeps : (Σ : Signature) (Γ : List Skeleton) (s : State) (m : ℕ) (N : Term) (A : LfType) → StoreBySkeletons Σ Γ s → BoundHaveValues s → IsUnbound s m → types_of s m ≡ Some A → TermSkeleton (declared_skeletons Σ (types_of s)) Γ N (skeleton A) → MetavariablesIn (λ n. (n ≡ m → ⊥) × Unbound (bindings_of s) n) N → StoreBySkeletons Σ Γ (with_value s m N)
bind_keeps Σ Γ s m N A w h u y t o = record {
  bound = λ n K e. from n K e (decide n m);
  values = subst (BindingsBySkeletons Σ (types_of s) Γ) (sym (bound_bindings s m N u h)) ((A, y, t), unbound_in s m u s.bound, w.values);
  ordered = subst HaveOrder (sym (bound_bindings s m N u h)) (last_in_order (bindings_of s) (record { of = m; value = N }) w.ordered o);
}
  where
    from : (n : ℕ) (K : Term) → value_of (with_value s m N) n ≡ Some K → (n ≡ m) ⊎ (n ≡ m → ⊥) → Member n (m ∷ s.bound)
    from n K e (inl q) = inl q
    from n K e (inr g) = inr (w.bound n K (sym (value_elsewhere s m N n g) ∙ e))

pub bind_keeps_bound : (s : State) (m : ℕ) (N : Term) → IsUnbound s m → BoundHaveValues s → BoundHaveValues (with_value s m N)
bind_keeps_bound s m N u h n i = go (decide n m) i
  where
    go : (n ≡ m) ⊎ (n ≡ m → ⊥) → (n ≡ m) ⊎ Member n s.bound → (K : Term) × (value_of (with_value s m N) n ≡ Some K)
    go (inl q) j = (N, ap (value_of (with_value s m N)) q ∙ value_here s m N u)
    go (inr g) (inl q) = absurd (g q)
    go (inr g) (inr j) = let (K, e) = h n j in (K, value_elsewhere s m N n g ∙ e)
