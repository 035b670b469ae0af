-- The values with all bindings put in: what is bound has its value, filled; and putting the bindings in by the rules gives what filling gives.
use Rattle.std.proofs.Common.{◌≡◌, ℕ, zero, suc, ◌+◌, ◌≤◌, List, [], ◌∷◌, length, Option, Some, None, true, false, ◌⊎◌, inl, inr, refl, sym, ap, ◌∙◌, subst, arith}
use Rattle.std.specs.Prelude.{option_map, nat_eq, if◌then◌else◌}
use Rattle.std.proofs.lemmas.Bool.{ne_eqb}
use mathlib.Core.Path.{fun_ext}
use Rattle.lf.specs.AtOnce.{shift_by}
use Rattle.lf.specs.SkeletonTyping.{HeadSkeletons, HeadSkeleton, TermSkeleton, SpineSkeleton, TypeBySkeletons}
use Rattle.lf.specs.Skeletons.{type_skeleton}
use Rattle.lf.specs.Subordination.{Member}
use Rattle.lf.specs.Syntax.{Head, Skeleton, Spine, Term, LfType, app, arrow, atom, base, constant, lambda, metavariable, nil, pi, rename, root, skeleton, variable}
use Rattle.lf.specs.Typing.{Signature}
use Rattle.lf.proofs.AtOnce.{shifts_add}
use Rattle.lf_unification.specs.Filling.{fill, fill_spine, fill_type, moved, rename_value}
use Rattle.lf_unification.specs.OpenTyping.{MetavariablesIn, skeletons_of}
use Rattle.lf_unification.specs.Putting.{Unbound}
use Rattle.lf_unification.specs.Rigid.{past_binders}
use Rattle.lf_unification.specs.Skeletons.{TotalSkeletons, as_head_skeletons, skeleton_or_default, total_skeletons}
use Rattle.lf_unification.specs.Unifiers.{Binding}
use Rattle.lf_unification.proofs.Agree.{fill_agree}
use Rattle.lf_unification.proofs.Exhaust.{past_binders_zero}
use Rattle.lf_unification.proofs.Filling.{SkeletonsFill, TermSkeleton-fill, ValueHasSkeleton}
use Rattle.lf_unification.proofs.Offer.{decide}
use Rattle.tw_putting.specs.Fits.{BindingsBySkeletons, GoesDown, HaveOrder, IsBoundBy, declared_skeletons}
use Rattle.tw_putting.specs.Values.{bound_to, values_to}

-- Skeletons of heads, with those of all metavariables in place of the declared ones.
abbrev pub MoreHeads : HeadSkeletons → HeadSkeletons → Type 0
MoreHeads κ κ' = (Γ : List Skeleton) (h : Head) (t : Skeleton) → HeadSkeleton κ Γ h t → HeadSkeleton κ' Γ h t

mutual
  pub more_heads : (κ κ' : HeadSkeletons) → MoreHeads κ κ' → (Γ : List Skeleton) (M : Term) (t : Skeleton) → TermSkeleton κ Γ M t → TermSkeleton κ' Γ M t
  more_heads κ κ' h Γ (lambda M) (arrow a b) m = more_heads κ κ' h (a ∷ Γ) M b m
  more_heads κ κ' h Γ (lambda M) (base c) m = m
  more_heads κ κ' h Γ (root k S) (arrow a b) m = m
  more_heads κ κ' h Γ (root k S) (base c) (t, g, s) = (t, h Γ k t g, more_heads_spine κ κ' h Γ S t (base c) s)

  pub more_heads_spine : (κ κ' : HeadSkeletons) → MoreHeads κ κ' → (Γ : List Skeleton) (S : Spine) (t u : Skeleton) → SpineSkeleton κ Γ S t u → SpineSkeleton κ' Γ S t u
  more_heads_spine κ κ' h Γ nil t u s = s
  more_heads_spine κ κ' h Γ (app M S) (arrow a b) u (m, s) = (more_heads κ κ' h Γ M a m, more_heads_spine κ κ' h Γ S b u s)
  more_heads_spine κ κ' h Γ (app M S) (base c) u s = s

pub more_heads_type : (φ : ℕ → Option Skeleton) (κ κ' : HeadSkeletons) → MoreHeads κ κ' → (Γ : List Skeleton) (A : LfType) → TypeBySkeletons φ κ Γ A → TypeBySkeletons φ κ' Γ A
more_heads_type φ κ κ' h Γ (pi A B) (a, b) = (more_heads_type φ κ κ' h Γ A a, more_heads_type φ κ κ' h (skeleton A ∷ Γ) B b)
more_heads_type φ κ κ' h Γ (atom a S) (t, e, s) = (t, e, more_heads_spine κ κ' h Γ S t (base a) s)

declared_default : (x : Option LfType) (t : Skeleton) → type_skeleton x ≡ Some t → Some (skeleton_or_default x) ≡ Some t
declared_default (Some A) t e = e
declared_default None t e = cc

pub declared_heads : (Σ : Signature) (Ψ : ℕ → Option LfType) → MoreHeads (declared_skeletons Σ Ψ) (as_head_skeletons (total_skeletons Σ (skeletons_of Ψ)))
declared_heads Σ Ψ Γ (constant c) t g = g
declared_heads Σ Ψ Γ (variable i) t g = g
declared_heads Σ Ψ Γ (metavariable m) t g = declared_default (Ψ m) t g

-- Values put in some levels down.
not_found : (b : Binding) (bs : List Binding) (m : ℕ) → nat_eq b.of m ≡ false → bound_to (b ∷ bs) m ≡ bound_to bs m
not_found b bs m e = ap (λ c. if c then Some b.value else bound_to bs m) e

other_test : (m n : ℕ) → (n ≡ m → ⊥) → nat_eq m n ≡ false
other_test m n h = ne_eqb m n (λ e. h (sym e))

pub unbound_to : (bs : List Binding) (m : ℕ) → Unbound bs m → bound_to bs m ≡ None
unbound_to [] m u = refl
unbound_to (b ∷ bs) m (n, u) = not_found b bs m (other_test b.of m n) ∙ unbound_to bs m u

found_first : (b : Binding) (bs : List Binding) → bound_to (b ∷ bs) b.of ≡ Some b.value
found_first b bs = let e : nat_eq b.of b.of ≡ true = grind arith in ap (λ c. if c then Some b.value else bound_to bs b.of) e

-- what is not bound has no value
pub unbound_has_none : (μ : ℕ → Skeleton) (bs : List Binding) (n m : ℕ) → Unbound bs m → values_to μ bs n m ≡ None
unfolding values_to
unbound_has_none μ bs zero m u = refl
unbound_has_none μ bs (suc n) m u = ap (option_map (fill μ (values_to μ bs n))) (unbound_to bs m u)

pub member_bound : (cs : List Binding) (b : Binding) → Member b cs → IsBoundBy cs b.of
member_bound [] b i = i
member_bound (c ∷ cs) b (inl e) = inl (ap (λ (x : Binding). x.of) e)
member_bound (c ∷ cs) b (inr i) = inr (member_bound cs b i)

module _ (Σ : Signature) (Ψ : ℕ → Option LfType) (Γ : List Skeleton) where
  abbrev μ : ℕ → Skeleton
  μ = skeletons_of Ψ

  abbrev κ : TotalSkeletons
  κ = total_skeletons Σ μ

  -- a binding is found
  pub found_to : (bs : List Binding) → BindingsBySkeletons Σ Ψ Γ bs → (b : Binding) → Member b bs → bound_to bs b.of ≡ Some b.value
  found_to [] w b i = absurd i
  found_to (c ∷ bs) w b (inl q) = subst (λ x. bound_to (c ∷ bs) x.of ≡ Some x.value) (sym q) (found_first c bs)
  found_to (c ∷ bs) (t, u, w) b (inr i) = not_found c bs b.of (other_test c.of b.of (λ e. bound_once bs b i (subst (Unbound bs) (sym e) u))) ∙ found_to bs w b i
    where
      bound_once : (ds : List Binding) (d : Binding) → Member d ds → Unbound ds d.of → ⊥
      bound_once [] d j v = j
      bound_once (x ∷ ds) d (inl e) (n, v) = n (ap (λ (y : Binding). y.of) e)
      bound_once (x ∷ ds) d (inr j) (n, v) = bound_once ds d j v

  module _ (bs : List Binding) (w : BindingsBySkeletons Σ Ψ Γ bs) where
    -- where the metavariables of a value have the same, so does its metavariable one level down
    one_level : (W : ℕ → Type 0) (c : Binding) → Member c bs → MetavariablesIn W c.value → (n n' : ℕ) → ((m : ℕ) → W m → values_to μ bs n m ≡ values_to μ bs n' m) → values_to μ bs (suc n) c.of ≡ values_to μ bs (suc n') c.of
    unfolding values_to
    one_level W c i o n n' h =
        ap (option_map (fill μ (values_to μ bs n))) (found_to bs w c i)
        ∙ ap Some (fill_agree W μ μ (λ m v. refl) (values_to μ bs n) (values_to μ bs n') c.value h o)
        ∙ sym (ap (option_map (fill μ (values_to μ bs n'))) (found_to bs w c i))

    -- enough levels down, more of them change nothing
    levels_agree : (cs : List Binding) → ((b : Binding) → Member b cs → Member b bs) → GoesDown bs cs → (n n' : ℕ) → length cs ≤ n → length cs ≤ n' → (m : ℕ) → Unbound bs m ⊎ IsBoundBy cs m → values_to μ bs n m ≡ values_to μ bs n' m
    levels_agree [] sub d n n' h h' m (inl u) = unbound_has_none μ bs n m u ∙ sym (unbound_has_none μ bs n' m u)
    levels_agree [] sub d n n' h h' m (inr z) = absurd z
    levels_agree (c ∷ cs) sub (o, d) n n' h h' m (inl u) = unbound_has_none μ bs n m u ∙ sym (unbound_has_none μ bs n' m u)
    levels_agree (c ∷ cs) sub (o, d) n n' h h' m (inr (inr i)) = levels_agree cs (λ b j. sub b (inr j)) d n n' (omega (arith, h)) (omega (arith, h')) m (inr i)
    levels_agree (c ∷ cs) sub (o, d) zero n' h h' m (inr (inl e)) = absurd (omega (arith, h))
    levels_agree (c ∷ cs) sub (o, d) (suc n) zero h h' m (inr (inl e)) = absurd (omega (arith, h'))
    levels_agree (c ∷ cs) sub (o, d) (suc n) (suc n') h h' m (inr (inl e)) = subst (λ k. values_to μ bs (suc n) k ≡ values_to μ bs (suc n') k) (sym e)
        (one_level (λ k. Unbound bs k ⊎ IsBoundBy cs k) c (sub c (inl refl)) o n n' (λ k v. levels_agree cs (λ b j. sub b (inr j)) d n n' (omega (arith, h)) (omega (arith, h')) k v))

    first_filled : (ds : List Binding) → ((x : Binding) → Member x ds → Member x bs) → GoesDown bs ds → (e : Binding) → Member e bs → MetavariablesIn (λ m. Unbound bs m ⊎ IsBoundBy ds m) e.value → (j : ℕ) → length ds ≤ j → values_to μ bs (suc j) e.of ≡ Some (fill μ (values_to μ bs (suc j)) e.value)
    unfolding values_to
    first_filled ds s g e i p j k =
        ap (option_map (fill μ (values_to μ bs j))) (found_to bs w e i)
        ∙ ap Some (fill_agree (λ m. Unbound bs m ⊎ IsBoundBy ds m) μ μ (λ m v. refl) (values_to μ bs j) (values_to μ bs (suc j)) e.value (λ m v. levels_agree ds s g j (suc j) k (omega (arith, k)) m v) p)

    -- what is bound has its value, filled
    filled_at : (cs : List Binding) → ((b : Binding) → Member b cs → Member b bs) → GoesDown bs cs → (n : ℕ) → length cs ≤ n → (b : Binding) → Member b cs → values_to μ bs n b.of ≡ Some (fill μ (values_to μ bs n) b.value)
    filled_at [] sub d n h b i = absurd i
    filled_at (c ∷ cs) sub (o, d) n h b (inr i) = filled_at cs (λ x j. sub x (inr j)) d n (omega arith) b i
    filled_at (c ∷ cs) sub (o, d) zero h b (inl q) = absurd (omega arith)
    filled_at (c ∷ cs) sub (o, d) (suc n) h b (inl q) = subst (λ x. values_to μ bs (suc n) x.of ≡ Some (fill μ (values_to μ bs (suc n)) x.value)) (sym q) (first_filled cs (λ x j. sub x (inr j)) d c (sub c (inl refl)) o n (omega arith))

    pub bound_filled_in : HaveOrder bs → (b : Binding) → Member b bs → values_to μ bs (length bs) b.of ≡ Some (fill μ (values_to μ bs (length bs)) b.value)
    bound_filled_in o b i = filled_at o.order o.within o.down (length bs) o.count b (o.all b i)

  total_value : (b : Binding) → (A : LfType) × (Ψ b.of ≡ Some A) × TermSkeleton (declared_skeletons Σ Ψ) Γ b.value (skeleton A) → TermSkeleton (as_head_skeletons κ) Γ b.value (μ b.of)
  total_value b (A, e, t) = subst (TermSkeleton (as_head_skeletons κ) Γ b.value) (sym (ap skeleton_or_default e)) (more_heads (declared_skeletons Σ Ψ) (as_head_skeletons κ) (declared_heads Σ Ψ) Γ b.value (skeleton A) t)

  -- each value by itself
  pub value_at : (bs : List Binding) → BindingsBySkeletons Σ Ψ Γ bs → (b : Binding) → Member b bs → TermSkeleton (as_head_skeletons κ) Γ b.value (μ b.of)
  value_at [] w b i = absurd i
  value_at (c ∷ bs) (t, u, w) b (inl q) = subst (λ x. TermSkeleton (as_head_skeletons κ) Γ x.value (μ x.of)) (sym q) (total_value c t)
  value_at (c ∷ bs) (t, u, w) b (inr i) = value_at bs w b i

  -- and its metavariable is declared
  pub declared_at : (bs : List Binding) → BindingsBySkeletons Σ Ψ Γ bs → (b : Binding) → Member b bs → (A : LfType) × (Ψ b.of ≡ Some A)
  declared_at [] w b i = absurd i
  declared_at (c ∷ bs) ((A, e, t), u, w) b (inl q) = (A, ap (λ x. Ψ x.of) q ∙ e)
  declared_at (c ∷ bs) (t, u, w) b (inr i) = declared_at bs w b i

  first_skeleton : (c : Binding) (bs : List Binding) (m : ℕ) → TermSkeleton (as_head_skeletons κ) Γ c.value (μ c.of) → ValueHasSkeleton κ Γ (bound_to bs m) (μ m) → (c.of ≡ m) ⊎ (c.of ≡ m → ⊥) → ValueHasSkeleton κ Γ (bound_to (c ∷ bs) m) (μ m)
  first_skeleton c bs m t g (inl e) = subst (λ k. ValueHasSkeleton κ Γ (bound_to (c ∷ bs) k) (μ k)) e (subst (λ x. ValueHasSkeleton κ Γ x (μ c.of)) (sym (found_first c bs)) t)
  first_skeleton c bs m t g (inr h) = subst (λ x. ValueHasSkeleton κ Γ x (μ m)) (sym (not_found c bs m (other_test c.of m (λ e. h (sym e))))) g

  -- what is found has the skeleton of its metavariable
  found_skeleton : (bs : List Binding) → BindingsBySkeletons Σ Ψ Γ bs → (m : ℕ) → ValueHasSkeleton κ Γ (bound_to bs m) (μ m)
  found_skeleton [] w m = tt
  found_skeleton (c ∷ bs) (t, u, w) m = first_skeleton c bs m (total_value c t) (found_skeleton bs w m) (decide c.of m)

  filled_skeleton : (β : ℕ → Option Term) (m : ℕ) → SkeletonsFill κ Γ β → (x : Option Term) → ValueHasSkeleton κ Γ x (μ m) → ValueHasSkeleton κ Γ (option_map (fill μ β) x) (μ m)
  filled_skeleton β m f None g = tt
  filled_skeleton β m f (Some N) g = TermSkeleton-fill κ Γ β N (μ m) f g

  -- the values have the skeletons of their metavariables
  pub filled_skeletons : (bs : List Binding) → BindingsBySkeletons Σ Ψ Γ bs → (n : ℕ) → SkeletonsFill κ Γ (values_to μ bs n)
  unfolding values_to
  filled_skeletons bs w zero m = tt
  filled_skeletons bs w (suc n) m = filled_skeleton (values_to μ bs n) m (filled_skeletons bs w n) (bound_to bs m) (found_skeleton bs w m)

-- Values moved under binders.
moved_on : (k : ℕ) (x : Option Term) → rename_value suc (rename_value (shift_by k) x) ≡ rename_value (shift_by (suc k)) x
moved_on k None = refl
moved_on k (Some N) =
    let one : suc ≡ shift_by 1 = fun_ext (λ i. sum i) in
    let add : k + 1 ≡ suc k = omega arith in
    ap Some (ap (λ f. rename f (rename (shift_by k) N)) one ∙ shifts_add 1 k N ∙ ap (λ n. rename (shift_by n) N) add)
  where
    sum : (i : ℕ) → suc i ≡ i + 1
    sum i = omega arith

pub moved_once_more : (k : ℕ) (β : ℕ → Option Term) → moved suc (moved (shift_by k) β) ≡ moved (shift_by (suc k)) β
moved_once_more k β = fun_ext (λ m. moved_on k (β m))

pub past_is_shift : (k : ℕ) → past_binders k ≡ shift_by k
past_is_shift k = fun_ext (at k)
  where
    at : (k i : ℕ) → past_binders k i ≡ i + k
    at zero i = omega arith
    at (suc k) i = let e : i + suc k ≡ suc (i + k) = omega arith in past_binders_zero k i ∙ ap suc (at k i) ∙ sym e

pub moved_unbound : (k m : ℕ) (β : ℕ → Option Term) → β m ≡ None → moved (shift_by k) β m ≡ None
moved_unbound k m β e = ap (rename_value (shift_by k)) e

-- what is filled where no value is stays
fill_nothing : (V : ℕ → Type 0) (μ : ℕ → Skeleton) (β : ℕ → Option Term) → ((m : ℕ) → V m → β m ≡ None) → (M : Term) → MetavariablesIn V M → fill μ β M ≡ fill μ (λ m. None) M
fill_nothing V μ β h M i = fill_agree V μ μ (λ m v. refl) β (λ m. None) M h i

mutual
  pub fill_none : (μ : ℕ → Skeleton) (M : Term) → fill μ (λ m. None) M ≡ M
  fill_none μ (lambda M) = ap lambda (fill_none μ M)
  fill_none μ (root (constant c) S) = ap (root (constant c)) (fill_none_spine μ S)
  fill_none μ (root (variable i) S) = ap (root (variable i)) (fill_none_spine μ S)
  fill_none μ (root (metavariable m) S) = ap (root (metavariable m)) (fill_none_spine μ S)

  pub fill_none_spine : (μ : ℕ → Skeleton) (S : Spine) → fill_spine μ (λ m. None) S ≡ S
  fill_none_spine μ nil = refl
  fill_none_spine μ (app M S) = ap (λ X. app X (fill_spine μ (λ m. None) S)) (fill_none μ M) ∙ ap (app M) (fill_none_spine μ S)

pub fill_none_type : (μ : ℕ → Skeleton) (A : LfType) → fill_type μ (λ m. None) A ≡ A
fill_none_type μ (pi A B) = ap (λ X. pi X (fill_type μ (λ m. None) B)) (fill_none_type μ A) ∙ ap (pi A) (fill_none_type μ B)
fill_none_type μ (atom a S) = ap (atom a) (fill_none_spine μ S)
