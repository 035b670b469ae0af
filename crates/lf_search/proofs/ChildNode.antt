-- A child of a node is a node: what was offered, and what solving makes of it, mentions declared metavariables only.
use Rattle.std.proofs.Common.{◌≡◌, ℕ, suc, ◌≤◌, List, [], ◌∷◌, Option, Some, None, ◌⊎◌, inl, inr, refl, sym, ap, ◌∙◌, subst, arith}
use Rattle.lf.specs.Subordination.{Member}
use Rattle.lf.specs.Syntax.{Head, Kind, LfType, Spine, Term, app, atom, constant, kind_pi, lambda, metavariable, nil, root, star, variable}
use Rattle.lf.specs.Typing.{IsSignature, Signature, instantiate_kind}
use Rattle.lf_unification.specs.Dependency.{IsListed, ListedMetavariable}
use Rattle.lf_unification.specs.Lists.{followed}
use Rattle.lf_unification.specs.Offering.{AppliesToNew, MetavariablesInLocals, applied_to_all, applied_to_next, lambda_over, pi_over, raised, spine_equations}
use Rattle.lf_unification.specs.OpenTyping.{Declares, MetavariablesIn, MetavariablesInSpine, MetavariablesInType, set_at, skeletons_of}
use Rattle.lf_unification.specs.PartialInstance.{IsFilling}
use Rattle.lf_unification.specs.Scope.{MetavariablesInBindings}
use Rattle.lf_unification.specs.Search.{IsChild, IsNode, Node, Offer, OfferedHeadHasType}
use Rattle.lf_unification.specs.Solving.{BindingsAreListed}
use Rattle.lf_unification.specs.Unifiers.{Binding, Equation, Store}
use Rattle.lf_unification.proofs.Agree.{set_here}
use Rattle.lf_unification.proofs.Exhaust.{in_at, in_pis}
use Rattle.lf_unification.proofs.Generic.{open_skeletons_type, ordered_at}
use Rattle.lf_unification.proofs.Offer.{decide, in_local_weaker, set_other}
use Rattle.lf_unification.proofs.Scope.{MetavariablesInKind, in_instance, in_instance_kind, in_raised, in_typed_kind, in_typed_type, in_weaker, in_weaker_type}
use Rattle.lf_unification.proofs.Steps.{in_pi_over}
use Rattle.lf_search.proofs.Staying.{EquationIn, StoreIn, among_parts, equation_types_in, equations_in, equations_of, run_grows, run_in}

none_is : {A : LfType} → None ≡ Some A → ⊥
none_is e = cc

some_is : {A B : LfType} → Some A ≡ Some B → A ≡ B
some_is e = cc

-- How a head applied to new metavariables changes what is declared.
pub record Added (Ψ Ψ' : ℕ → Option LfType) (n n' : ℕ) : Type 0 where
  pub grows : (m : ℕ) (X : LfType) → Ψ m ≡ Some X → Ψ' m ≡ Some X
  pub fresh : (m : ℕ) → n' ≤ m → Ψ' m ≡ None
  pub at_least : n ≤ n'

pub applied_adds : {D : List LfType} {Ψ : ℕ → Option LfType} {n : ℕ} {A : LfType} {Ψ' : ℕ → Option LfType} {n' : ℕ} {S : Spine} {a : ℕ} {T : Spine} → AppliesToNew D Ψ n A Ψ' n' S a T → ((m : ℕ) → n ≤ m → Ψ m ≡ None) → Added Ψ Ψ' n n'
applied_adds applied_to_all f = record { grows = λ m X e. e; fresh = f; at_least = omega arith }
applied_adds {D = D} (applied_to_next {Ψ = Ψ} {Ψ' = Ψ'} {n = n} {n' = n'} {B = B} o) f = go (applied_adds o later)
  where
    later : (m : ℕ) → suc n ≤ m → set_at n (Some (pi_over D B)) Ψ m ≡ None
    later m h = set_other n (Some (pi_over D B)) Ψ m (λ e. omega arith) ∙ f m (omega arith)

    go : Added (set_at n (Some (pi_over D B)) Ψ) Ψ' (suc n) n' → Added Ψ Ψ' n n'
    go r = record {
      grows = λ m X e. r.grows m X (set_other n (Some (pi_over D B)) Ψ m (λ q. none_is (sym (f n (omega arith)) ∙ ap Ψ (sym q) ∙ e)) ∙ e);
      fresh = r.fresh;
      at_least = (let q : suc n ≤ n' = r.at_least in omega arith);
    }

pub record AddedIn (V : ℕ → Type 0) (Ψ : ℕ → Option LfType) (S T : Spine) : Type 0 where
  pub types : (m : ℕ) (X : LfType) → Ψ m ≡ Some X → MetavariablesInType V X
  pub spine : MetavariablesInSpine V S
  pub indices : MetavariablesInSpine V T

pub applied_in : (V : ℕ → Type 0) {D : List LfType} {Ψ : ℕ → Option LfType} {n : ℕ} {A : LfType} {Ψ' : ℕ → Option LfType} {n' : ℕ} {S : Spine} {a : ℕ} {T : Spine} → AppliesToNew D Ψ n A Ψ' n' S a T → ((m : ℕ) → n ≤ m → Ψ m ≡ None) → ((m : ℕ) → n ≤ m → Declares Ψ' m → V m) →
    ((m : ℕ) (X : LfType) → Ψ m ≡ Some X → MetavariablesInType V X) → MetavariablesInLocals V D → MetavariablesInType V A → AddedIn V Ψ' S T
applied_in V applied_to_all f new types d t = record { types = types; spine = tt; indices = t }
applied_in V {D = D} (applied_to_next {Ψ = Ψ} {Ψ' = Ψ'} {n = n} {n' = n'} {a = a} {B = B} {C = C} {S = S} {T = T} o) f new types d (b, c) = go (applied_in V o later (λ m h x. new m (omega arith) x) added d (in_instance V B (raised D B n) C (in_raised V D B n here) c))
  where
    later : (m : ℕ) → suc n ≤ m → set_at n (Some (pi_over D B)) Ψ m ≡ None
    later m h = set_other n (Some (pi_over D B)) Ψ m (λ e. omega arith) ∙ f m (omega arith)

    here : V n
    here = new n (omega arith) (pi_over D B, (applied_adds o later).grows n (pi_over D B) (set_here n (Some (pi_over D B)) Ψ))

    added : (m : ℕ) (X : LfType) → set_at n (Some (pi_over D B)) Ψ m ≡ Some X → MetavariablesInType V X
    added m X e = at (decide m n)
      where
        at : (m ≡ n) ⊎ (m ≡ n → ⊥) → MetavariablesInType V X
        at (inl q) = subst (MetavariablesInType V) (some_is (sym (set_here n (Some (pi_over D B)) Ψ) ∙ ap (set_at n (Some (pi_over D B)) Ψ) (sym q) ∙ e)) (in_pi_over V D B d b)
        at (inr q) = types m X (sym (set_other n (Some (pi_over D B)) Ψ m q) ∙ e)

    go : AddedIn V Ψ' S T → AddedIn V Ψ' (app (raised D B n) S) T
    go r = record { types = r.types; spine = (in_raised V D B n here, r.spine); indices = r.indices }

in_lambda_over : (V : ℕ → Type 0) (D : List LfType) (M : Term) → MetavariablesIn V M → MetavariablesIn V (lambda_over D M)
in_lambda_over V [] M i = i
in_lambda_over V (A ∷ D) M i = in_lambda_over V D (lambda M) i

-- the equations of two spines that a kind takes
pub spines_in : (V : ℕ → Type 0) (D : List LfType) → MetavariablesInLocals V D → (K : Kind) (S T : Spine) → MetavariablesInKind V K → MetavariablesInSpine V S → MetavariablesInSpine V T → (e : Equation) → Member e (spine_equations D K S T) → EquationIn V e
spines_in V D d (kind_pi A K) (app M S) (app N T) (a, k) (m, s) (n, t) e (inl q) = subst (EquationIn V) (sym q) (record { locals = d; left = m; right = n; of_type = a })
spines_in V D d (kind_pi A K) (app M S) (app N T) (a, k) (m, s) (n, t) e (inr j) = spines_in V D d (instantiate_kind A M K) S T (in_instance_kind V A M K m k) s t e j
spines_in V D d (kind_pi A K) (app M S) nil k s t e j = absurd j
spines_in V D d (kind_pi A K) nil T k s t e j = absurd j
spines_in V D d star S T k s t e j = absurd j

head_in : (V : ℕ → Type 0) (Σ : Signature) (ok : IsSignature Σ) (D : List LfType) (h : Head) (A : LfType) → OfferedHeadHasType Σ D h A → MetavariablesInLocals V D → MetavariablesInType V A
head_in V Σ ok D (constant c) A e l = in_typed_type V Σ [] A (ok.types_ok c A e)
head_in V Σ ok D (variable i) A g l = in_at V D i A l g
head_in V Σ ok D (metavariable m) A g l = absurd g

root_in : (V : ℕ → Type 0) (Σ : Signature) (D : List LfType) (h : Head) (A : LfType) (S : Spine) → OfferedHeadHasType Σ D h A → MetavariablesInSpine V S → MetavariablesIn V (root h S)
root_in V Σ D (constant c) A S e i = i
root_in V Σ D (variable x) A S e i = i
root_in V Σ D (metavariable m) A S e i = absurd e

module _ (Σ : Signature) (ok : IsSignature Σ) (node : Node) (g : ℕ) (D : List LfType) (a : ℕ) (T : Spine) (h : Head) (A : LfType) (s : Store) (n : ℕ) (is : IsNode Σ node) (declared : node.store.metavariables g ≡ Some (pi_over D (atom a T))) (o : Offer Σ node g D a T h A s n) where
  pub offer_adds : Added node.store.metavariables s.metavariables node.next n
  offer_adds = applied_adds o.offered is.scoped.fresh

  -- what was offered mentions declared metavariables only
  pub offered_in : StoreIn (Declares s.metavariables) s
  offered_in = record {
    types = made.types;
    values = λ b i v. values b (subst (Member b) o.bindings i) v;
    equations = λ e i. equations e (subst (Member e) o.equations i);
  }
    where
      V : ℕ → Type 0
      V = Declares s.metavariables

      kept : (k : ℕ) → Declares node.store.metavariables k → Declares s.metavariables k
      kept k d = (d.0, offer_adds.grows k d.0 d.1)

      types : (m : ℕ) (X : LfType) → node.store.metavariables m ≡ Some X → MetavariablesInType (Declares s.metavariables) X
      types m X e = in_weaker_type (Declares node.store.metavariables) (Declares s.metavariables) kept X (is.scoped.types m X e)

      goal_in : MetavariablesInLocals (Declares s.metavariables) D × MetavariablesInType (Declares s.metavariables) (atom a T)
      goal_in = in_pis (Declares s.metavariables) D (atom a T) (types g (pi_over D (atom a T)) declared)

      made : AddedIn (Declares s.metavariables) s.metavariables o.spine o.indices
      made = applied_in (Declares s.metavariables) o.offered is.scoped.fresh (λ m l d. d) types goal_in.0 (head_in (Declares s.metavariables) Σ ok D h A o.typed goal_in.0)

      old_values : (bs : List Binding) → MetavariablesInBindings (Declares node.store.metavariables) bs → (b : Binding) → Member b bs → MetavariablesIn (Declares s.metavariables) b.value
      old_values [] i b j = absurd j
      old_values (c ∷ bs) (p, v, i) b (inl q) = subst (λ (x : Binding). MetavariablesIn (Declares s.metavariables) x.value) (sym q) (in_weaker (Declares node.store.metavariables) (Declares s.metavariables) kept c.value v)
      old_values (c ∷ bs) (p, v, i) b (inr j) = old_values bs i b j

      values : (b : Binding) → Member b (record { of = g; value = lambda_over D (root h o.spine) } ∷ node.store.bindings) → Declares s.metavariables b.of → MetavariablesIn (Declares s.metavariables) b.value
      values b (inl q) v = subst (λ (x : Binding). MetavariablesIn (Declares s.metavariables) x.value) (sym q) (in_lambda_over (Declares s.metavariables) D (root h o.spine) (root_in (Declares s.metavariables) Σ D h A o.spine o.typed made.spine))
      values b (inr j) v = old_values node.store.bindings is.scoped.bindings b j

      old_equation : (e : Equation) → Member e node.store.equations → EquationIn (Declares s.metavariables) e
      old_equation e i = let w : EquationIn (Declares node.store.metavariables) e = equations_of (Declares node.store.metavariables) node.store.equations is.scoped.equations is.scoped.equation_types e i in record {
        locals = in_local_weaker (Declares node.store.metavariables) (Declares s.metavariables) kept e.local w.locals;
        left = in_weaker (Declares node.store.metavariables) (Declares s.metavariables) kept e.left w.left;
        right = in_weaker (Declares node.store.metavariables) (Declares s.metavariables) kept e.right w.right;
        of_type = in_weaker_type (Declares node.store.metavariables) (Declares s.metavariables) kept e.of_type w.of_type;
      }

      equations : (e : Equation) → Member e (followed node.store.equations (spine_equations D o.kind T o.indices)) → EquationIn (Declares s.metavariables) e
      equations e i = go (among_parts e node.store.equations (spine_equations D o.kind T o.indices) i)
        where
          go : Member e node.store.equations ⊎ Member e (spine_equations D o.kind T o.indices) → EquationIn (Declares s.metavariables) e
          go (inl j) = old_equation e j
          go (inr j) = spines_in (Declares s.metavariables) D goal_in.0 o.kind T o.indices (in_typed_kind (Declares s.metavariables) Σ [] o.kind (ok.kinds_ok a o.kind o.kind_of)) goal_in.1 made.indices e j

  -- THE theorem
  pub child_node : (s' : Store) (next : ℕ) (goals : List ℕ) → IsChild Σ s s' → ((m : ℕ) → next ≤ m → s'.metavariables m ≡ None) → IsNode Σ (record { store = s'; next = next; goals = goals })
  child_node s' next goals u fresh = record {
    scoped = record {
      fresh = fresh;
      types = all.types;
      bindings = bound s'.bindings u.well_formed.bindings_listed (λ b i. i);
      equations = equations_in (Declares s'.metavariables) s'.equations all.equations;
      equation_types = equation_types_in (Declares s'.metavariables) s'.equations all.equations;
    };
    skeletons = λ m X e. open_skeletons_type Σ (skeletons_of s'.metavariables) ok s'.metavariables (IsFilling Σ [] s') [] [] X (u.well_formed.typed.declarations_typed.metavariables_typed m X e);
  }
    where
      kept : (k : ℕ) → Declares s.metavariables k → Declares s'.metavariables k
      kept k d = (d.0, run_grows u.run k d.0 d.1)

      before : StoreIn (Declares s'.metavariables) s
      before = record {
        types = λ m X e. in_weaker_type (Declares s.metavariables) (Declares s'.metavariables) kept X (offered_in.types m X e);
        values = λ b i v. go b i (s.metavariables b.of) refl;
        equations = λ e i. let w : EquationIn (Declares s.metavariables) e = offered_in.equations e i in record {
          locals = in_local_weaker (Declares s.metavariables) (Declares s'.metavariables) kept e.local w.locals;
          left = in_weaker (Declares s.metavariables) (Declares s'.metavariables) kept e.left w.left;
          right = in_weaker (Declares s.metavariables) (Declares s'.metavariables) kept e.right w.right;
          of_type = in_weaker_type (Declares s.metavariables) (Declares s'.metavariables) kept e.of_type w.of_type;
        };
      }
        where
          of_bound : (bs : List Binding) → MetavariablesInBindings (Declares node.store.metavariables) bs → (b : Binding) → Member b bs → Declares node.store.metavariables b.of
          of_bound [] i b j = absurd j
          of_bound (c ∷ bs) (p, v, i) b (inl q) = subst (λ (x : Binding). Declares node.store.metavariables x.of) (sym q) p
          of_bound (c ∷ bs) (p, v, i) b (inr j) = of_bound bs i b j

          is_declared : (b : Binding) → Member b (record { of = g; value = lambda_over D (root h o.spine) } ∷ node.store.bindings) → Declares s.metavariables b.of
          is_declared b (inl q) = subst (λ (x : Binding). Declares s.metavariables x.of) (sym q) (pi_over D (atom a T), offer_adds.grows g (pi_over D (atom a T)) declared)
          is_declared b (inr j) = let d = of_bound node.store.bindings is.scoped.bindings b j in (d.0, offer_adds.grows b.of d.0 d.1)

          go : (b : Binding) → Member b s.bindings → (x : Option LfType) → s.metavariables b.of ≡ x → MetavariablesIn (Declares s'.metavariables) b.value
          go b i x e = in_weaker (Declares s.metavariables) (Declares s'.metavariables) kept b.value (offered_in.values b i (is_declared b (subst (Member b) o.bindings i)))

      all : StoreIn (Declares s'.metavariables) s'
      all = run_in Σ ok (Declares s'.metavariables) u.run (λ m e d. d) before

      listed_declared : (m : ℕ) → IsListed u.well_formed.order m → Declares s'.metavariables m
      listed_declared m l = let (X, d, i, t, c) = ordered_at Σ (skeletons_of s'.metavariables) ok s'.metavariables (IsFilling Σ [] s') u.well_formed.order u.well_formed.is_order m l in (X, d)

      member_listed : (is : List ListedMetavariable) (it : ListedMetavariable) → Member it is → IsListed is it.of
      member_listed [] it i = absurd i
      member_listed (j ∷ js) it (inl e) = inl (ap (λ (x : ListedMetavariable). x.of) e)
      member_listed (j ∷ js) it (inr i) = inr (member_listed js it i)

      bound : (bs : List Binding) → BindingsAreListed u.well_formed.order bs → ((b : Binding) → Member b bs → Member b s'.bindings) → MetavariablesInBindings (Declares s'.metavariables) bs
      bound [] l f = tt
      bound (b ∷ bs) ((X, i), l) f =
          let d : Declares s'.metavariables b.of = listed_declared b.of (member_listed u.well_formed.order (record { of = b.of; of_type = X; value = Some b.value }) i) in
          (d, all.values b (f b (inl refl)) d, bound bs l (λ c j. f c (inr j)))
