-- To offer a head to a hole keeps a store well formed.
use Rattle.std.proofs.Common.{◌≡◌, ℕ, List, [], ◌∷◌, Option, Some, ◌⊎◌, inl, inr, refl, sym, ap, ap₂, ◌∙◌, subst}
use Rattle.lf.specs.SkeletonTyping.{KindBySkeletons, SpineSkeleton}
use Rattle.lf.specs.Skeletons.{context_skeletons, family_skeletons}
use Rattle.lf.specs.Substitution.{reduce, single}
use Rattle.lf.specs.Syntax.{Head, Kind, Skeleton, Spine, Term, LfType, app, arrow, atom, base, constant, kind_pi, kind_skeleton, lambda, metavariable, nil, pi, root, skeleton, star, variable}
use Rattle.lf.specs.Typing.{HasType, IsSignature, IsType, Signature, SpineFitsKind, SpineType, instantiate_kind, instantiate_type}
use Rattle.lf.specs.Variables.{onto}
use Rattle.lf.proofs.Closed.{closed_type_renamed}
use Rattle.lf.proofs.Substitution.{family_kind}
use Rattle.lf.proofs.ToSkeletons.{kind_skeleton_substituted}
use Rattle.lf_unification.specs.Dependency.{IsDependencyOrder, IsListed, ListedMetavariable}
use Rattle.lf_unification.specs.Filling.{fill_spine, fill_type}
use Rattle.lf_unification.specs.Lists.{followed}
use Rattle.lf_unification.specs.Offering.{MetavariablesInLocals, lambda_over, pi_over, spine_equations}
use Rattle.lf_unification.specs.OpenTyping.{DeclarationsAreTyped, Declares, MetavariablesIn, MetavariablesInSpine, MetavariablesInType, OpenHasType, OpenIsContext, OpenIsType, OpenSpineFitsKind, OpenSpineType, TypesAgree, skeletons_of, under_locals}
use Rattle.lf_unification.specs.PartialInstance.{EquationsAreTyped, IsFilling, IsTypedStore, LocalBySkeletonsUpTo, PartialInstance}
use Rattle.lf_unification.specs.Patterns.{beyond, local_skeletons}
use Rattle.lf_unification.specs.Putting.{Unbound}
use Rattle.lf_unification.specs.Scope.{IsScoped}
use Rattle.lf_unification.specs.Search.{IsNode, Node, Offer, OfferedHeadHasType}
use Rattle.lf_unification.specs.Skeletons.{TotalSkeletons, as_head_skeletons, total_skeletons}
use Rattle.lf_unification.specs.Solving.{BindingsAreListed, IsWellFormed}
use Rattle.lf_unification.specs.Unifiers.{Binding, Equation, SolvesAll, Store}
use Rattle.lf_unification.proofs.Declare.{IsBehind, behind_listed, behind_needs}
use Rattle.lf_unification.proofs.EquationLemmas.{solves_first}
use Rattle.lf_unification.proofs.Exhaust.{in_at, in_pis, local_skeleton_context}
use Rattle.lf_unification.proofs.Fillings.{BindingsAreTyped-weaker, DeclarationsAreTyped-weaker, EquationsAreTyped-weaker, LocalBySkeletonsUpTo-of, OpenIsContext-weaker, fillings_half}
use Rattle.lf_unification.proofs.Generic.{open_skeletons_kind, ordered_at}
use Rattle.lf_unification.proofs.Indices.{indices_ok}
use Rattle.lf_unification.proofs.Offer.{decide, in_local_weaker}
use Rattle.lf_unification.proofs.OfferTyped.{FillingOf, HeadIs, Outcome, offered_form}
use Rattle.lf_unification.proofs.OpenEta.{Into, OpenIsType-rename}
use Rattle.lf_unification.proofs.OpenSubstitution.{spine_convert}
use Rattle.lf_unification.proofs.Place.{Behind, bound, bound_listed, bound_ordered}
use Rattle.lf_unification.proofs.PruneTyped.{all_of, open_pi, types_in}
use Rattle.lf_unification.proofs.RigidSteps.{solves_rest}
use Rattle.lf_unification.proofs.Scope.{in_typed_type, in_weaker, in_weaker_type}
use Rattle.lf_unification.proofs.StepTyping.{bound_here, closed_term, member_bound, order_weaker, typed_followed, values_of_bound}
use Rattle.lf_unification.proofs.ToSkeletons.{kind_by_skeletons}
use Rattle.lf_unification.proofs.Typed.{OpenIsType-weaker, OpenSpineType-weaker}

-- what is typed in LF is typed up to any U
module _ (Σ : Signature) (ok : IsSignature Σ) (Ψ : ℕ → Option LfType) (U : (ℕ → Option Term) → Type 0) where
  mutual
    pub lf_open : (E : List LfType) (M : Term) (X : LfType) → HasType Σ (onto E []) M X → OpenHasType Σ [] Ψ U E M X
    lf_open E (lambda M) (pi A B) m = lf_open (A ∷ E) M B m
    lf_open E (lambda M) (atom a T) m = m
    lf_open E (root h S) (pi A B) m = m
    lf_open E (root (constant c) S) (atom a T) (A, e, s) = (A, e, lf_open_spine E S A (atom a T) s)
    lf_open E (root (variable i) S) (atom a T) (A, g, s) = (A, g, lf_open_spine E S A (atom a T) s)
    lf_open E (root (metavariable m) S) (atom a T) (A, e, s) = absurd e

    lf_open_spine : (E : List LfType) (S : Spine) (A C : LfType) → SpineType Σ (onto E []) S A C → OpenSpineType Σ [] Ψ U E S A C
    lf_open_spine E nil A C e = (ap skeleton e, λ β u. ap (fill_type (skeletons_of Ψ) (under_locals E β)) e)
    lf_open_spine E (app M S) (pi A B) C (m, s) = (lf_open E M A m, lf_open_spine E S (instantiate_type A M B) C s)
    lf_open_spine E (app M S) (atom a T) C s = s

  lf_open_kind : (E : List LfType) (S : Spine) (K : Kind) → SpineFitsKind Σ (onto E []) S K → OpenSpineFitsKind Σ [] Ψ U E S K
  lf_open_kind E nil (kind_pi A K) s = s
  lf_open_kind E nil star s = s
  lf_open_kind E (app M S) (kind_pi A K) (m, s) = (lf_open E M A m, lf_open_kind E S (instantiate_kind A M K) s)
  lf_open_kind E (app M S) star s = s

  pub lf_open_type : (E : List LfType) (A : LfType) → IsType Σ (onto E []) A → OpenIsType Σ [] Ψ U E A
  lf_open_type E (pi A B) (a, b) = (lf_open_type E A a, lf_open_type (A ∷ E) B b)
  lf_open_type E (atom a S) (K, e, s) = (K, e, lf_open_kind E S K s)

  pub into_locals : (D : List LfType) → Into Σ ok [] Ψ U [] D (beyond D)
  into_locals D = record { outer = λ i. refl; types = λ i A g. absurd g }

  pub constant_type_open : (D : List LfType) (c : ℕ) (A : LfType) → Σ.types c ≡ Some A → OpenIsType Σ [] Ψ U D A
  constant_type_open D c A e = subst (OpenIsType Σ [] Ψ U D) (closed_type_renamed Σ (beyond D) A (ok.types_ok c A e)) (OpenIsType-rename Σ ok [] Ψ U [] D (beyond D) A (into_locals D) (lf_open_type [] A (ok.types_ok c A e)))

close_body : (Σ : Signature) (Ψ : ℕ → Option LfType) (U : (ℕ → Option Term) → Type 0) (D : List LfType) (M : Term) (B : LfType) → OpenHasType Σ [] Ψ U D M B → OpenHasType Σ [] Ψ U [] (lambda_over D M) (pi_over D B)
close_body Σ Ψ U [] M B m = m
close_body Σ Ψ U (A ∷ D) M B m = close_body Σ Ψ U D (lambda M) (pi A B) m

in_lambda_over : (W : ℕ → Type 0) (D : List LfType) (M : Term) → MetavariablesIn W M → MetavariablesIn W (lambda_over D M)
in_lambda_over W [] M i = i
in_lambda_over W (A ∷ D) M i = in_lambda_over W D (lambda M) i

-- equal indices, from their equations
module _ (μ : ℕ → Skeleton) (β : ℕ → Option Term) (κ : TotalSkeletons) (Γ : List Skeleton) (a : ℕ) where
  pub indices_equal : (D : List LfType) (K : Kind) (S T : Spine) → SpineSkeleton (as_head_skeletons κ) Γ S (kind_skeleton a K) (base a) → SpineSkeleton (as_head_skeletons κ) Γ T (kind_skeleton a K) (base a) → SolvesAll μ β (spine_equations D K S T) → fill_spine μ (under_locals D β) S ≡ fill_spine μ (under_locals D β) T
  indices_equal D (kind_pi A K) (app M S) (app N T) (m, s) (n, t) (e, h) = ap₂ app e (indices_equal D (instantiate_kind A M K) S T
      (subst (λ x. SpineSkeleton (as_head_skeletons κ) Γ S x (base a)) (sym (kind_skeleton_substituted a reduce (single (skeleton A) M) K)) s)
      (subst (λ x. SpineSkeleton (as_head_skeletons κ) Γ T x (base a)) (sym (kind_skeleton_substituted a reduce (single (skeleton A) M) K)) t) h)
  indices_equal D (kind_pi A K) (app M S) nil s t h = (let p : arrow (skeleton A) (kind_skeleton a K) ≡ base a = t in cc)
  indices_equal D (kind_pi A K) nil T s t h = (let p : arrow (skeleton A) (kind_skeleton a K) ≡ base a = s in cc)
  indices_equal D star nil nil s t h = refl
  indices_equal D star (app M S) T s t h = absurd s
  indices_equal D star nil (app N T) s t h = absurd t

-- what a term mentions stands behind g
module _ (Σ : Signature) (Ψ : ℕ → Option LfType) (U : (ℕ → Option Term) → Type 0) (g : ℕ) where
  none_of : (N : Term) (is : List ListedMetavariable) → (IsListed is g → ⊥) → Behind g N is
  none_of N [] h = tt
  none_of N (it ∷ is) h = ((λ e. absurd (h (inl e))), none_of N is (λ l. h (inr l)))

  pub term_behind : (N : Term) (is : List ListedMetavariable) → IsDependencyOrder Σ Ψ U is → MetavariablesIn (IsBehind g is) N → Behind g N is
  term_behind N [] o i = tt
  term_behind N (it ∷ is) o i = go (decide g it.of) (term_behind N is o.0)
    where
      here : g ≡ it.of → (k : ℕ) → IsBehind g (it ∷ is) k → IsListed is k
      here e k (inl p) = p.1
      here e k (inr b) = absurd (o.2 (subst (IsListed is) e (behind_needs g is k b)))

      later : (g ≡ it.of → ⊥) → (k : ℕ) → IsBehind g (it ∷ is) k → IsBehind g is k
      later h k (inl p) = absurd (h p.0)
      later h k (inr b) = b

      go : (g ≡ it.of) ⊎ (g ≡ it.of → ⊥) → (MetavariablesIn (IsBehind g is) N → Behind g N is) → Behind g N (it ∷ is)
      go (inl e) r = ((λ q. in_weaker (IsBehind g (it ∷ is)) (IsListed is) (here e) N i), none_of N is (λ l. o.2 (subst (IsListed is) e l)))
      go (inr h) r = ((λ q. absurd (h q)), r (in_weaker (IsBehind g (it ∷ is)) (IsBehind g is) (later h) N i))

  -- what the type of g mentions stands behind g
  pub own_type_behind : (P : LfType) → Ψ g ≡ Some P → (is : List ListedMetavariable) → IsDependencyOrder Σ Ψ U is → IsListed is g → MetavariablesInType (IsBehind g is) P
  own_type_behind P d [] o l = absurd l
  own_type_behind P d (it ∷ is) o (inl e) =
      let q : it.of_type ≡ P = (let p : Some it.of_type ≡ Some P = sym o.1 ∙ ap Ψ (sym e) ∙ d in cc) in
      in_weaker_type (IsListed is) (IsBehind g (it ∷ is)) (λ k l. inl (e, l)) P (subst (MetavariablesInType (IsListed is)) q o.3)
  own_type_behind P d (it ∷ is) o (inr l) = in_weaker_type (IsBehind g is) (IsBehind g (it ∷ is)) (λ k b. inr b) P (own_type_behind P d is o.0 l)

module _ (Σ : Signature) (ok : IsSignature Σ) (Ψ : ℕ → Option LfType) (bs : List Binding) (es : List Equation) (next g : ℕ) (D : List LfType) (a : ℕ) (T₀ : Spine) (h : Head) (A : LfType) (w : IsWellFormed Σ (record { metavariables = Ψ; bindings = bs; equations = es })) (scoped : IsScoped Ψ next bs es) (declared : Ψ g ≡ Some (pi_over D (atom a T₀))) (free : Unbound bs g) (typed : OfferedHeadHasType Σ D h A) where
  abbrev P₀ : LfType
  P₀ = pi_over D (atom a T₀)

  listed : IsListed w.order g
  listed = w.all_listed g P₀ declared

  goal_typed : OpenIsContext Σ [] Ψ (FillingOf Σ ok bs es g D Ψ) D × OpenIsType Σ [] Ψ (FillingOf Σ ok bs es g D Ψ) D (atom a T₀)
  goal_typed = open_pi Σ ok Ψ (FillingOf Σ ok bs es g D Ψ) w.typed.declarations_typed (fillings_half Σ [] (record { metavariables = Ψ; bindings = bs; equations = es })) D (atom a T₀) (w.typed.declarations_typed.metavariables_typed g P₀ declared)

  goal_behind : MetavariablesInLocals (IsBehind g w.order) D × MetavariablesInType (IsBehind g w.order) (atom a T₀)
  goal_behind = in_pis (IsBehind g w.order) D (atom a T₀) (own_type_behind Σ Ψ (FillingOf Σ ok bs es g D Ψ) g P₀ declared w.order w.is_order listed)

  head_typed : (x : Head) → OfferedHeadHasType Σ D x A → OpenIsType Σ [] Ψ (FillingOf Σ ok bs es g D Ψ) D A
  head_typed (constant c) e = constant_type_open Σ ok Ψ (FillingOf Σ ok bs es g D Ψ) D c A e
  head_typed (variable i) e = types_in Σ ok Ψ (FillingOf Σ ok bs es g D Ψ) w.typed.declarations_typed (fillings_half Σ [] (record { metavariables = Ψ; bindings = bs; equations = es })) D goal_typed.0 i A e
  head_typed (metavariable m) e = absurd e

  head_behind : (x : Head) → OfferedHeadHasType Σ D x A → MetavariablesInType (IsBehind g w.order) A
  head_behind (constant c) e = in_typed_type (IsBehind g w.order) Σ [] A (ok.types_ok c A e)
  head_behind (variable i) e = in_at (IsBehind g w.order) D i A goal_behind.0 e
  head_behind (metavariable m) e = absurd e

  pub the_head : HeadIs Σ ok bs es g D Ψ next A w
  the_head = record { scoped = scoped; listed = listed; locals_behind = goal_behind.0; type_is_behind = head_behind h typed; context = goal_typed.0; typed = head_typed h typed }

  module _ (Ψ' : ℕ → Option LfType) (n' : ℕ) (S T' : Spine) (K : Kind) (kind_of : Σ.kinds a ≡ Some K) (o : Outcome Σ ok bs es g D Ψ Ψ' n' A S a T' w) where
    abbrev V : Term
    V = lambda_over D (root h S)

    abbrev eqs : List Equation
    eqs = spine_equations D K T₀ T'

    abbrev pub offered_store : Store
    offered_store = record { metavariables = Ψ'; bindings = record { of = g; value = lambda_over D (root h S) } ∷ bs; equations = followed es (spine_equations D K T₀ T') }

    abbrev μ : ℕ → Skeleton
    μ = skeletons_of Ψ'

    abbrev U' : (ℕ → Option Term) → Type 0
    U' = FillingOf Σ ok bs es g D Ψ'

    abbrev U : (ℕ → Option Term) → Type 0
    U = IsFilling Σ [] offered_store

    fewer : (β : ℕ → Option Term) → U β → U' β
    fewer β (F, v, ((e, r), q)) = (F, v, (r, solves_first μ β es eqs q))

    goal_is : Ψ' g ≡ Some P₀
    goal_is = o.grows g P₀ declared

    declarations : DeclarationsAreTyped Σ [] Ψ' U
    declarations = DeclarationsAreTyped-weaker Σ [] Ψ' U' U fewer o.form.typed.declarations_typed

    half : (β : ℕ → Option Term) → U β → (F : List LfType) × PartialInstance Σ [] Ψ' (λ m. ⊥) F β
    half = fillings_half Σ [] offered_store

    context : OpenIsContext Σ [] Ψ' U D
    context = OpenIsContext-weaker Σ [] Ψ' U' U fewer D o.head.context

    goal_now : OpenIsType Σ [] Ψ' U D (atom a T₀)
    goal_now = (open_pi Σ ok Ψ' U declarations half D (atom a T₀) (declarations.metavariables_typed g P₀ goal_is)).1

    left_now : OpenIsType Σ [] Ψ' U D (atom a T')
    left_now = OpenIsType-weaker Σ [] Ψ' U' U fewer D (atom a T') o.head.typed

    at_kind : (X : Spine) → OpenIsType Σ [] Ψ' U D (atom a X) → OpenSpineFitsKind Σ [] Ψ' U D X K
    at_kind X (L, e, s) = (let q : L ≡ K = (let p : Some L ≡ Some K = sym e ∙ kind_of in cc) in subst (OpenSpineFitsKind Σ [] Ψ' U D X) q s)

    locals : LocalBySkeletonsUpTo Σ [] Ψ' U D
    locals = LocalBySkeletonsUpTo-of Σ ok [] Ψ' U D context

    equations_typed : EquationsAreTyped Σ [] Ψ' U eqs
    equations_typed = indices_ok Σ ok [] Ψ' U declarations half D locals K K T₀ T' kinds kinds (refl, λ β u. refl) (at_kind T₀ goal_now) (at_kind T' left_now) (λ β u. solves_rest μ β es eqs u.2.1)
      where
        kinds : (F : List LfType) (β : ℕ → Option Term) → PartialInstance Σ [] Ψ' (λ m. ⊥) F β → U β → KindBySkeletons (family_skeletons Σ) (as_head_skeletons (total_skeletons Σ μ)) (local_skeletons D (context_skeletons F)) K
        kinds F β v u = subst (λ Γ. KindBySkeletons (family_skeletons Σ) (as_head_skeletons (total_skeletons Σ μ)) Γ K) (local_skeleton_context D F) (kind_by_skeletons Σ μ (onto D F) K (family_kind Σ ok (onto D F) a K kind_of))

    same_goal : TypesAgree Σ [] Ψ' U D (atom a T₀) (atom a T')
    same_goal = (refl, λ β u. ap (atom a) (indices_equal μ β (total_skeletons Σ μ) (local_skeletons D []) a D K T₀ T' (open_skeletons_kind Σ μ ok Ψ' U a D [] T₀ K (at_kind T₀ goal_now)) (open_skeletons_kind Σ μ ok Ψ' U a D [] T' K (at_kind T' left_now)) (solves_rest μ β es eqs u.2.1)))

    declared_behind : (k : ℕ) → IsBehind g w.order k → Declares Ψ k
    declared_behind k b = let r = ordered_at Σ (skeletons_of Ψ) ok Ψ (FillingOf Σ ok bs es g D Ψ) w.order w.is_order k (behind_listed g w.order k b) in (r.0, r.1)

    head_now : OpenIsType Σ [] Ψ' U D A
    head_now = OpenIsType-weaker Σ [] Ψ' U' U fewer D A (o.grow_type D A (in_local_weaker (IsBehind g w.order) (Declares Ψ) declared_behind D goal_behind.0) (in_weaker_type (IsBehind g w.order) (Declares Ψ) declared_behind A (head_behind h typed)) (head_typed h typed))

    root_typed : (x : Head) → OfferedHeadHasType Σ D x A → OpenHasType Σ [] Ψ' U D (root x S) (atom a T₀)
    root_typed (constant c) e = (A, e, spine_now)
      where
        spine_now : OpenSpineType Σ [] Ψ' U D S A (atom a T₀)
        spine_now = spine_convert Σ ok Ψ' U declarations half D (λ i X x. all_of Σ ok Ψ' U declarations half D X (types_in Σ ok Ψ' U declarations half D context i X x)) S A A (atom a T₀) (atom a T') (all_of Σ ok Ψ' U declarations half D A head_now) (all_of Σ ok Ψ' U declarations half D A head_now) (refl, λ β u. refl) same_goal (OpenSpineType-weaker Σ [] Ψ' U' U fewer D S A (atom a T') o.spine)
    root_typed (variable i) e = (A, e, spine_now)
      where
        spine_now : OpenSpineType Σ [] Ψ' U D S A (atom a T₀)
        spine_now = spine_convert Σ ok Ψ' U declarations half D (λ i X x. all_of Σ ok Ψ' U declarations half D X (types_in Σ ok Ψ' U declarations half D context i X x)) S A A (atom a T₀) (atom a T') (all_of Σ ok Ψ' U declarations half D A head_now) (all_of Σ ok Ψ' U declarations half D A head_now) (refl, λ β u. refl) same_goal (OpenSpineType-weaker Σ [] Ψ' U' U fewer D S A (atom a T') o.spine)
    root_typed (metavariable m) e = absurd e

    value_typed : OpenHasType Σ [] Ψ' U [] V P₀
    value_typed = close_body Σ Ψ' U D (root h S) (atom a T₀) (root_typed h typed)

    value_in : (W : ℕ → Type 0) → MetavariablesInSpine W S → (x : Head) → OfferedHeadHasType Σ D x A → MetavariablesIn W (lambda_over D (root x S))
    value_in W i (constant c) e = in_lambda_over W D (root (constant c) S) i
    value_in W i (variable j) e = in_lambda_over W D (root (variable j) S) i
    value_in W i (metavariable m) e = absurd e

    typed_store : IsTypedStore Σ [] offered_store
    typed_store = record {
      declarations_typed = declarations;
      bindings_typed = ((P₀, goal_is, value_typed), BindingsAreTyped-weaker Σ [] Ψ' U' U fewer bs o.form.typed.bindings_typed);
      equations_typed = typed_followed Σ [] Ψ' U es eqs (EquationsAreTyped-weaker Σ [] Ψ' U' U fewer es o.form.typed.equations_typed) equations_typed;
    }

    moved_bindings : (cs : List Binding) → Unbound cs g → BindingsAreListed o.form.order cs → BindingsAreListed (bound g V o.form.order) cs
    moved_bindings [] u l = tt
    moved_bindings (b ∷ cs) (n, u) ((B, i), l) = ((B, member_bound g V o.form.order (record { of = b.of; of_type = B; value = Some b.value }) i n), moved_bindings cs u l)

    -- THE theorem
    pub offered_store_form : IsWellFormed Σ offered_store
    offered_store_form = record {
      order = bound g V o.form.order;
      is_order = bound_ordered Σ Ψ' U g P₀ V goal_is value_typed (λ ρ. closed_term Σ Ψ' U [] ρ (λ i X x. absurd x) V P₀ value_typed) o.form.order (order_weaker Σ Ψ' U' U fewer o.form.order o.form.is_order) (term_behind Σ Ψ' U' g V o.form.order o.form.is_order (value_in (IsBehind g o.form.order) o.spine_behind h typed));
      all_listed = λ m B e. bound_listed g V o.form.order m (o.form.all_listed m B e);
      bindings_listed = (bound_here g V o.form.order (o.form.all_listed g P₀ goal_is), moved_bindings bs free o.form.bindings_listed);
      values_bound = values_of_bound bs g V o.form.order o.form.values_bound;
      typed = typed_store;
    }

-- THE theorem on a try: what is offered at a hole that is not bound is well formed where the node's store is
pub offer_form : (Σ : Signature) (ok : IsSignature Σ) (node : Node) (g : ℕ) (D : List LfType) (a : ℕ) (T : Spine) (h : Head) (A : LfType) (s : Store) (n : ℕ) → IsWellFormed Σ node.store → IsNode Σ node → node.store.metavariables g ≡ Some (pi_over D (atom a T)) → Unbound node.store.bindings g → Offer Σ node g D a T h A s n → IsWellFormed Σ s
offer_form Σ ok node g D a T h A s n w ok' e u o =
    let Ψ : ℕ → Option LfType = node.store.metavariables in
    let bs : List Binding = node.store.bindings in
    let es : List Equation = node.store.equations in
    let hd : HeadIs Σ ok bs es g D Ψ node.next A w = the_head Σ ok Ψ bs es node.next g D a T h A w ok'.scoped e u o.typed in
    let r : IsWellFormed Σ (record { metavariables = s.metavariables; bindings = record { of = g; value = lambda_over D (root h o.spine) } ∷ bs; equations = followed es (spine_equations D o.kind T o.indices) }) = offered_store_form Σ ok Ψ bs es node.next g D a T h A w ok'.scoped e u o.typed s.metavariables n o.spine o.indices o.kind o.kind_of (offered_form Σ ok bs es g D o.offered w hd) in
    subst (λ cs. IsWellFormed Σ (record { metavariables = s.metavariables; bindings = cs; equations = s.equations })) (sym o.bindings)
    (subst (λ fs. IsWellFormed Σ (record { metavariables = s.metavariables; bindings = record { of = g; value = lambda_over D (root h o.spine) } ∷ bs; equations = fs })) (sym o.equations) r)
