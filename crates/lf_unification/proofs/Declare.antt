-- A store with one more metavariable, of a typed type, is well formed where it was.
use Rattle.std.proofs.Common.{◌≡◌, ℕ, suc, List, [], ◌∷◌, Option, Some, None, ◌⊎◌, inl, inr, refl, sym, ap, ◌∙◌, subst, arith}
use Rattle.std.specs.Prelude.{Bool, true, false}
use Rattle.lf.specs.SkeletonTyping.{TermSkeleton}
use Rattle.lf.specs.Skeletons.{context_skeletons, family_skeletons, type_skeleton}
use Rattle.lf.specs.Syntax.{Skeleton, Term, LfType, skeleton}
use Rattle.lf.specs.Typing.{IsSignature, Signature}
use Rattle.lf.specs.Variables.{same_number}
use Rattle.lf.proofs.Checker.{number_is, number_itself}
use Rattle.lf_unification.specs.Dependency.{IsDependencyOrder, IsListed, ListedMetavariable, ValueIsOrdered}
use Rattle.lf_unification.specs.Offering.{MetavariablesInLocals}
use Rattle.lf_unification.specs.OpenTyping.{Declares, MetavariablesInType, OpenHasType, OpenIsContext, OpenIsType, set_at, skeletons_of}
use Rattle.lf_unification.specs.PartialInstance.{EquationsAreTyped, IsFilling, LocalBySkeletonsUpTo, PartialInstance, TypeBySkeletonsUpTo, ValueBySkeletons, ValueIsPlain}
use Rattle.lf_unification.specs.Patterns.{local_skeletons}
use Rattle.lf_unification.specs.Scope.{IsScoped, MetavariablesInBindings, MetavariablesInEquationTypes, MetavariablesInEquations}
use Rattle.lf_unification.specs.Skeletons.{as_head_skeletons, skeleton_or_default, total_skeletons}
use Rattle.lf_unification.specs.Solving.{BindingsAreListed, IsWellFormed}
use Rattle.lf_unification.specs.Unifiers.{Binding, BindingsAreTyped, Equation, Store}
use Rattle.lf_unification.proofs.Agree.{TermSkeleton-agree, TypeBySkeletons-agree, set_here}
use Rattle.lf_unification.proofs.EquationLemmas.{respects_agree, solves_agree}
use Rattle.lf_unification.proofs.Generic.{ordered_at}
use Rattle.lf_unification.proofs.Grow.{OpenHasType-grow, OpenIsType-grow}
use Rattle.lf_unification.proofs.Offer.{decide, in_local_weaker, set_other}
use Rattle.lf_unification.proofs.Place.{TypeBehind, put_behind, insert, insert_listed, insert_ordered}
use Rattle.lf_unification.proofs.PruneTyped.{closed_type, insert_new, member_insert, values_insert}
use Rattle.lf_unification.proofs.Scope.{in_weaker, in_weaker_type}
use Rattle.lf_unification.proofs.Sound.{only_if, restrict, restrict_same}

module _ (Σ : Signature) (ok : IsSignature Σ) (s : Store) (n : ℕ) (scoped : IsScoped s.metavariables n s.bindings s.equations) (P : LfType) (P_in : MetavariablesInType (Declares s.metavariables) P) where
  abbrev Ψ : ℕ → Option LfType
  Ψ = s.metavariables

  abbrev Ψ' : ℕ → Option LfType
  Ψ' = set_at n (Some P) Ψ

  abbrev pub declared : Store
  declared = record { metavariables = set_at n (Some P) s.metavariables; bindings = s.bindings; equations = s.equations }

  abbrev μ : ℕ → Skeleton
  μ = skeletons_of Ψ

  abbrev μ' : ℕ → Skeleton
  μ' = skeletons_of Ψ'

  abbrev U : (ℕ → Option Term) → Type 0
  U = IsFilling Σ [] s

  abbrev U' : (ℕ → Option Term) → Type 0
  U' = IsFilling Σ [] declared

  pub new : Ψ n ≡ None
  new = scoped.fresh n (omega arith)

  pub not_new : (m : ℕ) (B : LfType) → Ψ m ≡ Some B → m ≡ n → ⊥
  not_new m B e q = (let z : Some B ≡ None = sym e ∙ ap Ψ q ∙ new in cc)

  pub declare_grows : (m : ℕ) (B : LfType) → Ψ m ≡ Some B → Ψ' m ≡ Some B
  declare_grows m B e = set_other n (Some P) Ψ m (not_new m B e) ∙ e

  pub same : (m : ℕ) → Declares Ψ m → μ' m ≡ μ m
  same m (B, e) = ap skeleton_or_default (declare_grows m B e ∙ sym e)

  pub old_values : (F : List LfType) (β : ℕ → Option Term) → ((m : ℕ) → ValueBySkeletons Σ F μ' (Ψ' m) (β m)) → ((m : ℕ) → ValueIsPlain (β m)) → (m : ℕ) → ValueBySkeletons Σ F μ (Ψ m) (restrict Ψ β m)
  old_values F β h k m = go (Ψ m) refl
    where
      at : (B : LfType) (t : Option LfType) (y : Option Term) → t ≡ Some B → ValueIsPlain y → ValueBySkeletons Σ F μ' t y → ValueBySkeletons Σ F μ (Some B) y
      at B None y e q v = cc
      at B (Some C) None e q v = absurd v
      at B (Some C) (Some N) e q v = let z : C ≡ B = cc in TermSkeleton-agree (λ k. ⊥) μ' μ (λ k x. absurd x) (λ c. type_skeleton (Σ.types c)) (context_skeletons F) N (skeleton B) q (subst (λ Z. TermSkeleton (as_head_skeletons (total_skeletons Σ μ')) (context_skeletons F) N (skeleton Z)) z v)

      go : (x : Option LfType) → Ψ m ≡ x → ValueBySkeletons Σ F μ x (only_if x (β m))
      go None e = tt
      go (Some B) e = at B (Ψ' m) (β m) (declare_grows m B e) (k m) (h m)

  pub restricted : (F : List LfType) (β : ℕ → Option Term) → PartialInstance Σ [] Ψ' (λ m. ⊥) F β → PartialInstance Σ [] Ψ (λ m. ⊥) F (restrict Ψ β)
  restricted F β v = record {
    context = λ i B g. TypeBySkeletons-agree (λ k. ⊥) μ' μ (λ k x. absurd x) (λ c. type_skeleton (Σ.types c)) (family_skeletons Σ) (context_skeletons F) B (v.plain_context i B g) (v.context i B g);
    outer = λ i B g. absurd g;
    by_skeletons = old_values F β v.by_skeletons v.plain_values;
    typed = λ m x. absurd x;
    plain_context = v.plain_context;
    plain_values = λ m. only (Ψ m) (β m) (v.plain_values m);
  }
    where
      only : (x : Option LfType) (y : Option Term) → ValueIsPlain y → ValueIsPlain (only_if x y)
      only None y q = tt
      only (Some B) y q = q

  pub kept_values : (β : ℕ → Option Term) (m : ℕ) → Declares Ψ m → β m ≡ restrict Ψ β m
  kept_values β m (B, e) = restrict_same Ψ β m B e

  pub fewer : (β : ℕ → Option Term) → U' β → U (restrict Ψ β)
  fewer β (F, v, (r, q)) = (
    F,
    restricted F β v,
    (respects_agree (Declares Ψ) μ' μ same β (restrict Ψ β) (kept_values β) s.bindings scoped.bindings r, solves_agree (Declares Ψ) μ' μ same β (restrict Ψ β) (kept_values β) s.equations scoped.equations q),
  )

  pub part : (β' : ℕ → Option Term) → U' β' → (β : ℕ → Option Term) × U β × ((m : ℕ) → Declares Ψ m → β m ≡ β' m)
  part β' u = (restrict Ψ β', fewer β' u, λ m e. sym (kept_values β' m e))

  pub declare_term : (D : List LfType) (M : Term) (B : LfType) → MetavariablesInLocals (Declares Ψ) D → MetavariablesInType (Declares Ψ) B → OpenHasType Σ [] Ψ U D M B → OpenHasType Σ [] Ψ' U' D M B
  declare_term = OpenHasType-grow Σ ok [] Ψ Ψ' U U' declare_grows part (λ i B g. absurd g) scoped.types

  pub declare_type : (D : List LfType) (B : LfType) → MetavariablesInLocals (Declares Ψ) D → MetavariablesInType (Declares Ψ) B → OpenIsType Σ [] Ψ U D B → OpenIsType Σ [] Ψ' U' D B
  declare_type = OpenIsType-grow Σ ok [] Ψ Ψ' U U' declare_grows part (λ i B g. absurd g) scoped.types

  pub declare_context : (D : List LfType) → MetavariablesInLocals (Declares Ψ) D → OpenIsContext Σ [] Ψ U D → OpenIsContext Σ [] Ψ' U' D
  declare_context [] i l = tt
  declare_context (B ∷ D) (i, j) (l, b) = (declare_context D i l, declare_type D B i j b)

  pub still_declared : (m : ℕ) → Declares Ψ m → Declares Ψ' m
  still_declared m (B, e) = (B, declare_grows m B e)

  -- no number from the next one on is used, and what is mentioned is declared
  bindings_in : (bs : List Binding) → MetavariablesInBindings (Declares Ψ) bs → MetavariablesInBindings (Declares Ψ') bs
  bindings_in [] i = tt
  bindings_in (b ∷ bs) (i, j, k) = (still_declared b.of i, in_weaker (Declares Ψ) (Declares Ψ') still_declared b.value j, bindings_in bs k)

  equations_in : (es : List Equation) → MetavariablesInEquations (Declares Ψ) es → MetavariablesInEquations (Declares Ψ') es
  equations_in [] i = tt
  equations_in (e ∷ es) (i, j, k) = (in_weaker (Declares Ψ) (Declares Ψ') still_declared e.left i, in_weaker (Declares Ψ) (Declares Ψ') still_declared e.right j, equations_in es k)

  equation_types_in : (es : List Equation) → MetavariablesInEquationTypes (Declares Ψ) es → MetavariablesInEquationTypes (Declares Ψ') es
  equation_types_in [] i = tt
  equation_types_in (e ∷ es) (i, j, k) = (in_local_weaker (Declares Ψ) (Declares Ψ') still_declared e.local i, in_weaker_type (Declares Ψ) (Declares Ψ') still_declared e.of_type j, equation_types_in es k)

  pub declare_scoped : IsScoped Ψ' (suc n) s.bindings s.equations
  declare_scoped = record {
    fresh = λ m h. set_other n (Some P) Ψ m (λ e. omega arith) ∙ scoped.fresh m (omega arith);
    types = types;
    bindings = bindings_in s.bindings scoped.bindings;
    equations = equations_in s.equations scoped.equations;
    equation_types = equation_types_in s.equations scoped.equation_types;
  }
    where
      types : (m : ℕ) (B : LfType) → Ψ' m ≡ Some B → MetavariablesInType (Declares Ψ') B
      types m B e = go (decide m n)
        where
          go : (m ≡ n) ⊎ (m ≡ n → ⊥) → MetavariablesInType (Declares Ψ') B
          go (inl q) = (let z : Some B ≡ Some P = sym e ∙ ap Ψ' q ∙ set_here n (Some P) Ψ in let y : P ≡ B = cc in subst (MetavariablesInType (Declares Ψ')) y (in_weaker_type (Declares Ψ) (Declares Ψ') still_declared P P_in))
          go (inr q) = in_weaker_type (Declares Ψ) (Declares Ψ') still_declared B (scoped.types m B (sym (set_other n (Some P) Ψ m q) ∙ e))

  module _ (w : IsWellFormed Σ s) (P_typed : OpenIsType Σ [] s.metavariables (IsFilling Σ [] s) [] P) (g : ℕ) (g_listed : IsListed w.order g) (P_behind : TypeBehind g P w.order) where
    abbrev new_item : ListedMetavariable
    new_item = record { of = n; of_type = P; value = None }

    pub typed_new : OpenIsType Σ [] Ψ' U' [] P
    typed_new = declare_type [] P tt P_in P_typed

    pub declared_types : (m : ℕ) (B : LfType) → Ψ' m ≡ Some B → OpenIsType Σ [] Ψ' U' [] B
    declared_types m B e = go (decide m n)
      where
        go : (m ≡ n) ⊎ (m ≡ n → ⊥) → OpenIsType Σ [] Ψ' U' [] B
        go (inl q) = (let z : Some B ≡ Some P = sym e ∙ ap Ψ' q ∙ set_here n (Some P) Ψ in let y : P ≡ B = cc in subst (OpenIsType Σ [] Ψ' U' []) y typed_new)
        go (inr q) = let f : Ψ m ≡ Some B = sym (set_other n (Some P) Ψ m q) ∙ e in declare_type [] B tt (scoped.types m B f) (w.typed.declarations_typed.metavariables_typed m B f)

    pub bindings_grow : (bs : List Binding) → BindingsAreTyped Σ [] Ψ U bs → BindingsAreTyped Σ [] Ψ' U' bs
    bindings_grow [] v = tt
    bindings_grow (b ∷ bs) ((B, e, t), v) = ((B, declare_grows b.of B e, declare_term [] b.value B tt (scoped.types b.of B e) t), bindings_grow bs v)

    pub old_type : (D : List LfType) (B : LfType) → MetavariablesInType (Declares Ψ) B → TypeBySkeletonsUpTo Σ [] Ψ U D B → TypeBySkeletonsUpTo Σ [] Ψ' U' D B
    old_type D B i t F β v u = TypeBySkeletons-agree (Declares Ψ) μ μ' (λ m e. sym (same m e)) (λ c. type_skeleton (Σ.types c)) (family_skeletons Σ) (local_skeletons D (context_skeletons F)) B i (t F (restrict Ψ β) (restricted F β v) (fewer β u))

    pub old_locals : (D : List LfType) → MetavariablesInLocals (Declares Ψ) D → LocalBySkeletonsUpTo Σ [] Ψ U D → LocalBySkeletonsUpTo Σ [] Ψ' U' D
    old_locals [] i l = tt
    old_locals (B ∷ D) (i, j) (l, t) = (old_locals D i l, old_type D B j t)

    pub equations_grow : (es : List Equation) → MetavariablesInEquationTypes (Declares Ψ) es → EquationsAreTyped Σ [] Ψ U es → EquationsAreTyped Σ [] Ψ' U' es
    equations_grow [] i v = tt
    equations_grow (e ∷ es) (i, j, k) (v, vs) = (
      record {
        local_typed = old_locals e.local i v.local_typed;
        type_typed = old_type e.local e.of_type j v.type_typed;
        left_typed = declare_term e.local e.left e.of_type i j v.left_typed;
        right_typed = declare_term e.local e.right e.of_type i j v.right_typed;
      },
      equations_grow es k vs,
    )

    pub order_grows : (is : List ListedMetavariable) → IsDependencyOrder Σ Ψ U is → IsDependencyOrder Σ Ψ' U' is
    order_grows [] o = tt
    order_grows (it ∷ is) (o, e, out, i, t, c, v) = (order_grows is o, declare_grows it.of it.of_type e, out, i, declare_type [] it.of_type tt (scoped.types it.of it.of_type e) t, c, value it.value v)
      where
        value : (x : Option Term) → ValueIsOrdered Σ Ψ U is it.of_type x → ValueIsOrdered Σ Ψ' U' is it.of_type x
        value None v = tt
        value (Some N) (j, u, k) = (j, declare_term [] N it.of_type tt (scoped.types it.of it.of_type e) u, k)

    pub moved : (bs : List Binding) → BindingsAreListed w.order bs → BindingsAreListed (insert g new_item w.order) bs
    moved [] l = tt
    moved (b ∷ bs) ((B, i), l) = ((B, member_insert g new_item w.order (record { of = b.of; of_type = B; value = Some b.value }) i), moved bs l)

    -- THE theorem
    abbrev pub declare_form : IsWellFormed Σ declared
    declare_form = record {
      order = insert g (record { of = n; of_type = P; value = None }) w.order;
      is_order = insert_ordered Σ Ψ' U' g n P (set_here n (Some P) Ψ) typed_new (λ ρ. closed_type Σ Ψ' U' [] ρ (λ i X g. absurd g) P typed_new) w.order
          (λ l. let r = ordered_at Σ (skeletons_of Ψ) ok Ψ U w.order w.is_order n l in (let q : Some r.0 ≡ None = sym r.1 ∙ new in cc)) (order_grows w.order w.is_order) P_behind;
      all_listed = λ m B e. listed m B e (decide m n);
      bindings_listed = moved s.bindings w.bindings_listed;
      values_bound = values_insert s.bindings g n P w.order w.values_bound;
      typed = record {
        declarations_typed = record { outer_typed = λ i B g. absurd g; metavariables_typed = declared_types };
        bindings_typed = bindings_grow s.bindings w.typed.bindings_typed;
        equations_typed = equations_grow s.equations scoped.equation_types w.typed.equations_typed;
      };
    }
      where
        listed : (m : ℕ) (B : LfType) → Ψ' m ≡ Some B → (m ≡ n) ⊎ (m ≡ n → ⊥) → IsListed (insert g new_item w.order) m
        listed m B e (inl q) = subst (IsListed (insert g new_item w.order)) (sym q) (insert_new g new_item w.order g_listed)
        listed m B e (inr q) = insert_listed g new_item w.order m (w.all_listed m B (sym (set_other n (Some P) Ψ m q) ∙ e))

-- What stands behind g.
abbrev pub IsBehind : ℕ → List ListedMetavariable → ℕ → Type 0
IsBehind g [] k = ⊥
IsBehind g (it ∷ is) k = ((g ≡ it.of) × IsListed is k) ⊎ IsBehind g is k

pub behind_listed : (g : ℕ) (is : List ListedMetavariable) (k : ℕ) → IsBehind g is k → IsListed is k
behind_listed g [] k b = absurd b
behind_listed g (it ∷ is) k (inl p) = inr p.1
behind_listed g (it ∷ is) k (inr b) = inr (behind_listed g is k b)

pub behind_needs : (g : ℕ) (is : List ListedMetavariable) (k : ℕ) → IsBehind g is k → IsListed is g
behind_needs g [] k b = absurd b
behind_needs g (it ∷ is) k (inl p) = inl p.0
behind_needs g (it ∷ is) k (inr b) = inr (behind_needs g is k b)

module _ (Σ : Signature) (Ψ : ℕ → Option LfType) (U : (ℕ → Option Term) → Type 0) (g : ℕ) where
  nothing_behind : (X : LfType) (is : List ListedMetavariable) → (IsListed is g → ⊥) → TypeBehind g X is
  nothing_behind X [] h = tt
  nothing_behind X (it ∷ is) h = ((λ e. absurd (h (inl e))), nothing_behind X is (λ l. h (inr l)))

  pub type_behind : (X : LfType) (is : List ListedMetavariable) → IsDependencyOrder Σ Ψ U is → MetavariablesInType (IsBehind g is) X → TypeBehind g X is
  type_behind X [] o i = tt
  type_behind X (it ∷ is) o i = go (decide g it.of) (type_behind X is o.0)
    where
      here : g ≡ it.of → (k : ℕ) → IsBehind g (it ∷ is) k → IsListed is k
      here e k (inl p) = p.1
      here e k (inr b) = absurd (o.2 (subst (IsListed is) e (behind_needs g is k b)))

      later : (g ≡ it.of → ⊥) → (k : ℕ) → IsBehind g (it ∷ is) k → IsBehind g is k
      later h k (inl p) = absurd (h p.0)
      later h k (inr b) = b

      go : (g ≡ it.of) ⊎ (g ≡ it.of → ⊥) → (MetavariablesInType (IsBehind g is) X → TypeBehind g X is) → TypeBehind g X (it ∷ is)
      go (inl e) r = ((λ q. in_weaker_type (IsBehind g (it ∷ is)) (IsListed is) (here e) X i), nothing_behind X is (λ l. o.2 (subst (IsListed is) e l)))
      go (inr h) r = ((λ q. absurd (h q)), r (in_weaker_type (IsBehind g (it ∷ is)) (IsBehind g is) (later h) X i))

-- after an insertion behind g
pub behind_insert : (g : ℕ) (new : ListedMetavariable) (is : List ListedMetavariable) (k : ℕ) → IsBehind g is k → IsBehind g (insert g new is) k
behind_insert g new [] k b = b
behind_insert g new (it ∷ is) k b = go (same_number g it.of) b (behind_insert g new is k)
  where
    go : (q : Bool) → IsBehind g (it ∷ is) k → (IsBehind g is k → IsBehind g (insert g new is) k) → IsBehind g (put_behind q new it is (insert g new is)) k
    go true (inl p) h = inl (p.0, inr p.1)
    go true (inr b) h = inr (inr b)
    go false (inl p) h = inl (p.0, insert_listed g new is k p.1)
    go false (inr b) h = inr (h b)

pub new_behind : (g : ℕ) (new : ListedMetavariable) (is : List ListedMetavariable) → IsListed is g → IsBehind g (insert g new is) new.of
new_behind g new [] l = absurd l
new_behind g new (it ∷ is) l = go (same_number g it.of) refl l (new_behind g new is)
  where
    go : (q : Bool) → same_number g it.of ≡ q → IsListed (it ∷ is) g → (IsListed is g → IsBehind g (insert g new is) new.of) → IsBehind g (put_behind q new it is (insert g new is)) new.of
    go true e l h = inl (number_is g it.of e, inl refl)
    go false e (inl q) h = (let p : true ≡ false = sym (number_itself g) ∙ ap (same_number g) q ∙ e in cc)
    go false e (inr l) h = inr (h l)
