-- A head of the goal's target has an offer, and heads that clash have no unifier.
use Rattle.std.proofs.Common.{List, None, Option, Some, [], ap, arith, inl, inr, refl, subst, suc, sym, zero, ℕ, ◌+◌, ◌∙◌, ◌∷◌, ◌≡◌}
use Rattle.lf.specs.Entries.{quantifiers}
use Rattle.lf.specs.Skeletons.{context_skeletons, family_skeleton, family_skeletons}
use Rattle.lf.specs.SkeletonTyping.{HeadSkeletons, SpineSkeleton, TypeBySkeletons}
use Rattle.lf.specs.Subordination.{Member}
use Rattle.lf.specs.Substitution.{Image, keep, lift, reduce, rename_image, single, substitute, substitute_spine, substitute_type}
use Rattle.lf.specs.Syntax.{Head, Kind, LfType, Skeleton, Spine, Term, app, arrow, atom, base, constant, kind_pi, kind_skeleton, lambda, metavariable, nil, pi, rename, root, skeleton, star, variable}
use Rattle.lf.specs.Typing.{HasType, Signature, instantiate_kind, instantiate_type}
use Rattle.lf.specs.Variables.{target_arguments}
use Rattle.lf.proofs.ToSkeletons.{kind_skeleton_substituted}
use Rattle.lf.proofs.TypeLaws.{skeleton_substituted}
use Rattle.lf_unification.specs.Filling.{fill, fill_metavariable, fill_spine, fill_type, moved, rename_value}
use Rattle.lf_unification.specs.Lists.{followed}
use Rattle.lf_unification.specs.Offering.{AppliesToNew, applied_to_all, applied_to_next, lambda_over, pi_over, raised, spine_equations}
use Rattle.lf_unification.specs.OpenTyping.{ValueHasType, set_at, skeletons_of, under_locals}
use Rattle.lf_unification.specs.Patterns.{local_skeletons, skeleton_target}
use Rattle.lf_unification.specs.Search.{IsNode, Node, Offer, OfferedHeadHasType}
use Rattle.lf_unification.specs.Skeletons.{as_head_skeletons, skeleton_or_default, total_skeletons}
use Rattle.lf_unification.specs.Solving.{Never}
use Rattle.lf_unification.specs.Unifiers.{Binding, Respects, SolvesAll, Store}
use Rattle.lf_unification.proofs.RigidSteps.{solves_rest}
use Rattle.lf_unification.proofs.Filling.{skeleton_fill}
use Rattle.lf_search.specs.Heads.{Clash, HasHead, HasOwnHead, HasRigidHead, IsArgument, RigidHead, clash_here, clash_later, constant_head, head_of_argument, head_of_value, is_first, is_later, outer_head, own_head, own_under_lambda, own_variable, under_lambda, variable_head}
use Rattle.lf_search.proofs.RigidHeads.{Fits, argument_reduced, constant_anywhere, constant_stays, fits_renamed, no_metavariable, one_head, own_renamed, own_substituted, rigid_reduced, rigid_renamed, rigid_substituted, variable_goes}

-- A head is applied to new metavariables.
record Applied (D : List LfType) (Ψ : ℕ → Option LfType) (n : ℕ) (A : LfType) : Type 0 where
  then_declared : ℕ → Option LfType
  next : ℕ
  spine : Spine
  family : ℕ
  indices : Spine
  applies : AppliesToNew D Ψ n A then_declared next spine family indices

applied : (D : List LfType) (t : Skeleton) (Ψ : ℕ → Option LfType) (n : ℕ) (A : LfType) → skeleton A ≡ t → Applied D Ψ n A
applied D t Ψ n (atom a T) e = record { then_declared = Ψ; next = n; spine = nil; family = a; indices = T; applies = applied_to_all }
applied D (base c) Ψ n (pi B C) e = (let q : arrow (skeleton B) (skeleton C) ≡ base c = e in cc)
applied D (arrow b c) Ψ n (pi B C) e = go (applied D c (set_at n (Some (pi_over D B)) Ψ) (suc n) (instantiate_type B (raised D B n) C) (skeleton_substituted reduce (single (skeleton B) (raised D B n)) C ∙ codomain e))
  where
    codomain : arrow (skeleton B) (skeleton C) ≡ arrow b c → skeleton C ≡ c
    codomain q = cc

    go : Applied D (set_at n (Some (pi_over D B)) Ψ) (suc n) (instantiate_type B (raised D B n) C) → Applied D Ψ n (pi B C)
    go r = record { then_declared = r.then_declared; next = r.next; spine = app (raised D B n) r.spine; family = r.family; indices = r.indices; applies = applied_to_next r.applies }

applied_target : {D : List LfType} {Ψ : ℕ → Option LfType} {n : ℕ} {A : LfType} {Ψ' : ℕ → Option LfType} {n' : ℕ} {S : Spine} {a : ℕ} {T : Spine} → AppliesToNew D Ψ n A Ψ' n' S a T → skeleton_target (skeleton A) ≡ a
applied_target applied_to_all = refl
applied_target {D = D} {n = n} (applied_to_next {B = B} {C = C} o) = ap skeleton_target (sym (skeleton_substituted reduce (single (skeleton B) (raised D B n)) C)) ∙ applied_target o

-- what the goal's type is, by skeletons
goal_skeletons : (φ : ℕ → Option Skeleton) (κ : HeadSkeletons) (D : List LfType) (Γ : List Skeleton) (P : LfType) → TypeBySkeletons φ κ Γ (pi_over D P) → TypeBySkeletons φ κ (local_skeletons D Γ) P
goal_skeletons φ κ [] Γ P t = t
goal_skeletons φ κ (A ∷ D) Γ P t = (goal_skeletons φ κ D Γ (pi A P) t).1

has_kind : (Σ : Signature) (a : ℕ) (t : Skeleton) → family_skeletons Σ a ≡ Some t → (K : Kind) × (Σ.kinds a ≡ Some K) × (t ≡ kind_skeleton a K)
has_kind Σ a t e = go (Σ.kinds a) refl e
  where
    go : (x : Option Kind) → Σ.kinds a ≡ x → family_skeleton a x ≡ Some t → (K : Kind) × (Σ.kinds a ≡ Some K) × (t ≡ kind_skeleton a K)
    go None q f = cc
    go (Some K) q f = (K, q, (let p : Some (kind_skeleton a K) ≡ Some t = f in cc))

pub offer_is_there : (Σ : Signature) (node : Node) (g : ℕ) (D : List LfType) (a : ℕ) (T : Spine) (h : Head) (A : LfType) → IsNode Σ node → node.store.metavariables g ≡ Some (pi_over D (atom a T)) → OfferedHeadHasType Σ D h A → skeleton_target (skeleton A) ≡ a → (s : Store) × (n : ℕ) × Offer Σ node g D a T h A s n
offer_is_there Σ node g D a T h A is e t target = go (has_kind Σ a goal.0 goal.1) (applied D (skeleton A) node.store.metavariables node.next A refl)
  where
    goal : (t : Skeleton) × (family_skeletons Σ a ≡ Some t) × SpineSkeleton (as_head_skeletons (total_skeletons Σ (skeletons_of node.store.metavariables))) (local_skeletons D (context_skeletons [])) T t (base a)
    goal = goal_skeletons (family_skeletons Σ) (as_head_skeletons (total_skeletons Σ (skeletons_of node.store.metavariables))) D (context_skeletons []) (atom a T) (is.skeletons g (pi_over D (atom a T)) e)

    go : (K : Kind) × (Σ.kinds a ≡ Some K) × (goal.0 ≡ kind_skeleton a K) → Applied D node.store.metavariables node.next A → (s : Store) × (n : ℕ) × Offer Σ node g D a T h A s n
    go (K, k, q) r = (
      record { metavariables = r.then_declared; bindings = record { of = g; value = lambda_over D (root h r.spine) } ∷ node.store.bindings; equations = followed node.store.equations (spine_equations D K T r.indices) },
      r.next,
      record { typed = t; kind = K; kind_of = k; spine = r.spine; indices = r.indices; offered = subst (λ f. AppliesToNew D node.store.metavariables node.next A r.then_declared r.next r.spine f r.indices) (sym (applied_target r.applies) ∙ target) r.applies; bindings = refl; equations = refl },
    )

-- A filling that respects the bindings gives a term the head that it has with the bindings put in.
module _ (μ : ℕ → Skeleton) (bs : List Binding) (β₀ : ℕ → Option Term) (respects : (b : Binding) → Member b bs → β₀ b.of ≡ Some (fill μ β₀ b.value)) (fits : (b : Binding) → Member b bs → Fits (μ b.of) (fill μ β₀ b.value)) where
  -- the value that a binding's metavariable has, which has the heads of the filled one
  pub record IsValue (b : Binding) (N : Term) : Type 0 where
    fitting : Fits (μ b.of) N
    constants : (c : ℕ) → HasRigidHead [] 0 (fill μ β₀ b.value) (constant c) → HasRigidHead [] 0 N (constant c)
    owns : (l : ℕ) → HasOwnHead [] 0 (fill μ β₀ b.value) l → HasOwnHead [] 0 N l

  abbrev pub IsMoved : (ℕ → Option Term) → Type 0
  IsMoved β = (b : Binding) → Member b bs → (N : Term) × (β b.of ≡ Some N) × IsValue b N

  itself_moved : IsMoved β₀
  itself_moved b i = (fill μ β₀ b.value, respects b i, record { fitting = fits b i; constants = λ c e. e; owns = λ l e. e })

  once_moved : (β : ℕ → Option Term) → IsMoved β → IsMoved (moved suc β)
  once_moved β w b i = let (N, e, v) = w b i in (
    rename suc N,
    ap (rename_value suc) e,
    record {
      fitting = fits_renamed suc (μ b.of) N v.fitting;
      constants = λ c q. rigid_renamed suc N (v.constants c q) constant_stays;
      owns = λ l q. own_renamed suc N (v.owns l q);
    },
  )

  pub locals_moved : (D : List LfType) → IsMoved (under_locals D β₀)
  locals_moved [] = itself_moved
  locals_moved (A ∷ D) = once_moved (under_locals D β₀) (locals_moved D)

  argument_filled : (β : ℕ → Option Term) {M : Term} {n : ℕ} {S : Spine} → IsArgument M n S → IsArgument (fill μ β M) n (fill_spine μ β S)
  argument_filled β is_first = is_first
  argument_filled β (is_later a) = is_later (argument_filled β a)

  mutual
    pub rigid_filled : {k : ℕ} {M : Term} {h : Head} → HasRigidHead bs k M h → (β : ℕ → Option Term) → IsMoved β → HasRigidHead [] k (fill μ β M) h
    rigid_filled constant_head β w = constant_head
    rigid_filled (variable_head i e) β w = variable_head i e
    rigid_filled (under_lambda r) β w = under_lambda (rigid_filled r (moved suc β) (once_moved β w))
    rigid_filled {k = k} (head_of_value {c = c} {S = S} b i r) β w =
        let (N, e, v) = w b i in
        subst (λ y. HasRigidHead [] k (fill_metavariable (μ b.of) b.of y (fill_spine μ β S)) (constant c)) (sym e) (rigid_reduced (μ b.of) k N (fill_spine μ β S) (constant_anywhere k (v.constants c (rigid_filled r β₀ itself_moved))))
    rigid_filled {k = k} {h = h} (head_of_argument {l = l} {S = S} b i o a r) β w =
        let (N, e, v) = w b i in
        subst (λ y. HasRigidHead [] k (fill_metavariable (μ b.of) b.of y (fill_spine μ β S)) h) (sym e) (argument_reduced (μ b.of) k N v.fitting (v.owns l (own_filled o β₀ itself_moved)) (argument_filled β a) (rigid_filled r β w))

    pub own_filled : {n : ℕ} {M : Term} {l : ℕ} → HasOwnHead bs n M l → (β : ℕ → Option Term) → IsMoved β → HasOwnHead [] n (fill μ β M) l
    own_filled (own_variable r e) β w = own_variable (rigid_filled r β w) e
    own_filled (own_under_lambda o) β w = own_under_lambda (own_filled o (moved suc β) (once_moved β w))

  pub filled_head : {k : ℕ} {M : Term} {h : RigidHead} → HasHead bs k M h → (β : ℕ → Option Term) → IsMoved β → HasHead [] k (fill μ β M) h
  filled_head (outer_head r) β w = outer_head (rigid_filled r β w)
  filled_head (own_head o) β w = own_head (own_filled o β w)

member_respects : (μ : ℕ → Skeleton) (β : ℕ → Option Term) (bs : List Binding) → Respects μ β bs → (b : Binding) → Member b bs → β b.of ≡ Some (fill μ β b.value)
member_respects μ β [] r b i = absurd i
member_respects μ β (c ∷ bs) (e, r) b (inl q) = subst (λ (x : Binding). β x.of ≡ Some (fill μ β x.value)) (sym q) e
member_respects μ β (c ∷ bs) (e, r) b (inr i) = member_respects μ β bs r b i

-- what is typed has as many lambdas as its type has quantifiers
typed_fits : (Σ : Signature) (F : List LfType) (N : Term) (A : LfType) → HasType Σ F N A → Fits (skeleton A) N
typed_fits Σ F (lambda M) (pi A B) t = typed_fits Σ (A ∷ F) M B t
typed_fits Σ F (lambda M) (atom a T) t = absurd t
typed_fits Σ F (root h S) A t = tt

value_fits : (Σ : Signature) (F : List LfType) (Ψ : ℕ → Option LfType) (β : ℕ → Option Term) (m : ℕ) (N : Term) (x : Option LfType) → Ψ m ≡ x → ValueHasType Σ F (skeletons_of Ψ) β x (Some N) → Fits (skeletons_of Ψ m) N
value_fits Σ F Ψ β m N None e t = absurd t
value_fits Σ F Ψ β m N (Some A) e t = subst (λ a. Fits a N) (skeleton_fill (skeletons_of Ψ) β A ∙ sym (ap skeleton_or_default e)) (typed_fits Σ F N (fill_type (skeletons_of Ψ) β A) t)

-- a substitution under m binders
abbrev lift_by : ℕ → (ℕ → Image) → ℕ → Image
lift_by zero σ = σ
lift_by (suc m) σ = lift (lift_by m σ)

-- what stands outside of the newest variable comes one nearer
outside_nearer : (m i : ℕ) (a : Skeleton) (V : Term) → lift_by m (single a V) (i + suc m) ≡ keep (i + m)
outside_nearer zero i a V = let e : i + 1 ≡ suc (i + 0) = omega arith in ap (single a V) e
outside_nearer (suc m) i a V =
    let e : i + suc (suc m) ≡ suc (i + suc m) = omega arith in
    let f : suc (i + m) ≡ i + suc m = omega arith in
    ap (lift (lift_by m (single a V))) e ∙ ap (rename_image suc) (outside_nearer m i a V) ∙ ap keep f

rigid_nearer : {bs : List Binding} (r : Skeleton → Term → Spine → Term) (m : ℕ) (a : Skeleton) (V : Term) (N : Term) (h : Head) → HasRigidHead bs (suc m) N h → HasRigidHead bs m (substitute r (lift_by m (single a V)) N) h
rigid_nearer r m a V N (constant c) w = rigid_substituted r (lift_by m (single a V)) w constant_stays
rigid_nearer r m a V N (variable i) w = rigid_substituted r (lift_by m (single a V)) w (variable_goes i (outside_nearer m i a V))
rigid_nearer r m a V N (metavariable n) w = absurd (no_metavariable w)

head_nearer : {bs : List Binding} (r : Skeleton → Term → Spine → Term) (m : ℕ) (a : Skeleton) (V : Term) {N : Term} {h : RigidHead} → HasHead bs (suc m) N h → HasHead bs m (substitute r (lift_by m (single a V)) N) h
head_nearer r m a V {N = N} (outer_head {h = h} w) = outer_head (rigid_nearer r m a V N h w)
head_nearer r m a V (own_head w) = own_head (own_substituted r (lift_by m (single a V)) refl (λ j e. absurd (omega arith)) w)

clash_nearer : (bs : List Binding) (r : Skeleton → Term → Spine → Term) (m : ℕ) (a : Skeleton) (V : Term) {S T : Spine} → Clash bs (suc m) S T → Clash bs m S (substitute_spine r (lift_by m (single a V)) T)
clash_nearer bs r m a V (clash_here w v n) = clash_here w (head_nearer r m a V v) n
clash_nearer bs r m a V (clash_later k) = clash_later (clash_nearer bs r m a V k)

clash_in_instance : (bs : List Binding) (r : Skeleton → Term → Spine → Term) (m : ℕ) (a : Skeleton) (V : Term) (S : Spine) (A : LfType) (k : ℕ) → k ≡ suc (m + quantifiers A) → Clash bs k S (target_arguments A) → Clash bs (m + quantifiers A) S (target_arguments (substitute_type r (lift_by m (single a V)) A))
clash_in_instance bs r m a V S (pi A B) k e c = subst (λ j. Clash bs j S (target_arguments (substitute_type r (lift_by (suc m) (single a V)) B))) (omega arith) (clash_in_instance bs r (suc m) a V S B k (omega arith) c)
clash_in_instance bs r m a V S (atom d T) k e c = subst (λ j. Clash bs j S (substitute_spine r (lift_by m (single a V)) T)) (omega arith) (clash_nearer bs r m a V (subst (λ j. Clash bs j S T) (let q : k ≡ suc m = omega arith in q) c))

quantifiers_substituted : (r : Skeleton → Term → Spine → Term) (σ : ℕ → Image) (A : LfType) → quantifiers (substitute_type r σ A) ≡ quantifiers A
quantifiers_substituted r σ (pi A B) = ap suc (quantifiers_substituted r (lift σ) B)
quantifiers_substituted r σ (atom a S) = refl

clash_applied : (bs : List Binding) (U : Spine) {D : List LfType} {Ψ : ℕ → Option LfType} {n : ℕ} {A : LfType} {Ψ' : ℕ → Option LfType} {n' : ℕ} {S : Spine} {a : ℕ} {T : Spine} → AppliesToNew D Ψ n A Ψ' n' S a T → Clash bs (quantifiers A) U (target_arguments A) → Clash bs 0 U T
clash_applied bs U applied_to_all k = k
clash_applied bs U {D = D} {n = n} (applied_to_next {B = B} {C = C} o) k =
    clash_applied bs U o (subst (λ j. Clash bs j U (target_arguments (instantiate_type B (raised D B n) C))) (omega arith ∙ sym (quantifiers_substituted reduce (single (skeleton B) (raised D B n)) C))
    (clash_in_instance bs reduce 0 (skeleton B) (raised D B n) U C (quantifiers (pi B C)) (omega arith) k))

no_clash : (μ : ℕ → Skeleton) (β : ℕ → Option Term) (bs : List Binding) (w : (b : Binding) → Member b bs → β b.of ≡ Some (fill μ β b.value)) (f : (b : Binding) → Member b bs → Fits (μ b.of) (fill μ β b.value)) (κ : HeadSkeletons) (Γ : List Skeleton) (a : ℕ) (D : List LfType) (K : Kind) {S T : Spine} → Clash bs 0 S T → SpineSkeleton κ Γ S (kind_skeleton a K) (base a) → SolvesAll μ β (spine_equations D K S T) → ⊥
no_clash μ β bs w f κ Γ a D (kind_pi A K) (clash_here {M = M} {N = N} {h = h} m n d) s (e, q) =
    let moves = locals_moved μ bs β w f D in
    d (one_head (fill μ (under_locals D β) N) (subst (λ X. HasHead [] 0 X h) e (filled_head μ bs β w f m (under_locals D β) moves)) (filled_head μ bs β w f n (under_locals D β) moves))
no_clash μ β bs w f κ Γ a D (kind_pi A K) (clash_later {M = M} {N = N} {S = S} {T = T} k) s (e, q) =
    no_clash μ β bs w f κ Γ a D (instantiate_kind A M K) k (subst (λ t. SpineSkeleton κ Γ S t (base a)) (sym (kind_skeleton_substituted a reduce (single (skeleton A) M) K)) s.1) q
no_clash μ β bs w f κ Γ a D star (clash_here m n d) s q = absurd s
no_clash μ β bs w f κ Γ a D star (clash_later k) s q = absurd s

-- THE theorem
pub clash_is_never : (Σ : Signature) (node : Node) (g : ℕ) (D : List LfType) (a : ℕ) (T : Spine) (h : Head) (A : LfType) (s : Store) (n : ℕ) → IsNode Σ node → node.store.metavariables g ≡ Some (pi_over D (atom a T)) → Offer Σ node g D a T h A s n → Clash node.store.bindings (quantifiers A) T (target_arguments A) → Never Σ [] s
clash_is_never Σ node g D a T h A s n is e o k F β (inst, (r, q)) =
    no_clash (skeletons_of s.metavariables) β node.store.bindings has_value fits
    (as_head_skeletons (total_skeletons Σ (skeletons_of node.store.metavariables))) (local_skeletons D (context_skeletons [])) a D o.kind (clash_applied node.store.bindings T o.offered k)
    (subst (λ t. SpineSkeleton (as_head_skeletons (total_skeletons Σ (skeletons_of node.store.metavariables))) (local_skeletons D (context_skeletons [])) T t (base a)) same_kind goal.2)
    (solves_rest (skeletons_of s.metavariables) β node.store.equations (spine_equations D o.kind T o.indices) (subst (SolvesAll (skeletons_of s.metavariables) β) o.equations q))
  where
    has_value : (b : Binding) → Member b node.store.bindings → β b.of ≡ Some (fill (skeletons_of s.metavariables) β b.value)
    has_value b i = member_respects (skeletons_of s.metavariables) β s.bindings r b (subst (Member b) (sym o.bindings) (inr i))

    fits : (b : Binding) → Member b node.store.bindings → Fits (skeletons_of s.metavariables b.of) (fill (skeletons_of s.metavariables) β b.value)
    fits b i = value_fits Σ F s.metavariables β b.of (fill (skeletons_of s.metavariables) β b.value) (s.metavariables b.of) refl (subst (ValueHasType Σ F (skeletons_of s.metavariables) β (s.metavariables b.of)) (has_value b i) (inst.typed b.of))

    goal : (t : Skeleton) × (family_skeletons Σ a ≡ Some t) × SpineSkeleton (as_head_skeletons (total_skeletons Σ (skeletons_of node.store.metavariables))) (local_skeletons D (context_skeletons [])) T t (base a)
    goal = goal_skeletons (family_skeletons Σ) (as_head_skeletons (total_skeletons Σ (skeletons_of node.store.metavariables))) D (context_skeletons []) (atom a T) (is.skeletons g (pi_over D (atom a T)) e)

    same_kind : goal.0 ≡ kind_skeleton a o.kind
    same_kind = (let (K, f, q) = has_kind Σ a goal.0 goal.1 in let p : Some K ≡ Some o.kind = sym f ∙ o.kind_of in q ∙ ap (kind_skeleton a) (let x : K ≡ o.kind = cc in x))
