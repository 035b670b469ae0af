-- The holes of a search stay open: at the root, and from a node to its child.
use Rattle.std.proofs.Common.{◌≡◌, ℕ, zero, suc, ◌≤◌, ◌<◌, List, [], ◌∷◌, length, Bool, true, false, Option, Some, None, ◌⊎◌, inl, inr, refl, sym, ap, ◌∙◌, subst, arith}
use Rattle.lf.specs.Subordination.{Member}
use Rattle.lf.specs.Substitution.{single}
use Rattle.lf.specs.Syntax.{Head, LfType, Spine, Term, app, atom, constant, lambda, metavariable, nil, pi, root, skeleton, variable}
use Rattle.lf.specs.Typing.{IsContext, IsSignature, IsType, Signature}
use Rattle.lf.specs.Variables.{same_number}
use Rattle.lf_unification.specs.Dependency.{IsListed}
use Rattle.lf_unification.specs.Lists.{followed}
use Rattle.lf_unification.specs.Offering.{AppliesToNew, MetavariablesInLocals, applied_to_all, applied_to_next, lambda_over, pi_over, raised, spine_equations}
use Rattle.lf_unification.specs.OpenTyping.{Declares, MetavariablesIn, MetavariablesInSpine, MetavariablesInType, set_at}
use Rattle.lf_unification.specs.Putting.{Unbound}
use Rattle.lf_unification.specs.Scope.{MetavariablesInBindings}
use Rattle.lf_unification.specs.Search.{IsChild, IsNode, Node, Offer, OfferedHeadHasType, either, holes, occurs_type, unless}
use Rattle.lf_unification.specs.Unifiers.{Binding, Equation, Store}
use Rattle.lf_unification.proofs.Agree.{set_here}
use Rattle.lf_unification.proofs.Exhaust.{in_at, in_pis}
use Rattle.lf_unification.proofs.Offer.{set_other}
use Rattle.lf_unification.proofs.Scope.{in_typed_kind, in_typed_type, in_weaker_type}
use Rattle.lf_search.specs.Goals.{metavariables_of, over_metavariables, root_of}
use Rattle.lf_search.specs.Holes.{AreOpenHoles, HolesAreOpen, NotIn}
use Rattle.lf_unification.specs.ReachedRuns.{RunRenewsReached}
use Rattle.lf_search.proofs.ChildNode.{applied_adds, offer_adds, spines_in}
use Rattle.lf_search.proofs.OpenHoles.{ClauseIn, SameShape, among_member, both_false, clause_in, either_left, either_right, hole_at, is_among, member_among, not_member, one_or_other, own_shape, run_opens, same_refl, same_to, shape_substituted, variables_not_holes}
use Rattle.lf_search.proofs.QueryForm.{listed_below, order_of, types_below}
use Rattle.lf_search.proofs.Staying.{EquationIn, StoreIn, among_parts, equation_types_in, equations_in, equations_of, run_grows}

none_is : {A : LfType} → None ≡ Some A → ⊥
none_is e = cc

not_both : {b : Bool} → b ≡ true → b ≡ false → ⊥
not_both e f = cc

-- a term in two sets
module _ (V W X : ℕ → Type 0) (h : (m : ℕ) → V m → W m → X m) where
  mutual
    in_both : (M : Term) → MetavariablesIn V M → MetavariablesIn W M → MetavariablesIn X M
    in_both (lambda M) i j = in_both M i j
    in_both (root (constant c) S) i j = in_both_spine S i j
    in_both (root (variable c) S) i j = in_both_spine S i j
    in_both (root (metavariable m) S) (v, i) (w, j) = (h m v w, in_both_spine S i j)

    in_both_spine : (S : Spine) → MetavariablesInSpine V S → MetavariablesInSpine W S → MetavariablesInSpine X S
    in_both_spine nil i j = tt
    in_both_spine (app M S) (a, b) (c, d) = (in_both M a c, in_both_spine S b d)

  in_both_type : (A : LfType) → MetavariablesInType V A → MetavariablesInType W A → MetavariablesInType X A
  in_both_type (pi A B) (a, b) (c, d) = (in_both_type A a c, in_both_type B b d)
  in_both_type (atom a S) i j = in_both_spine S i j

  in_both_locals : (D : List LfType) → MetavariablesInLocals V D → MetavariablesInLocals W D → MetavariablesInLocals X D
  in_both_locals [] i j = tt
  in_both_locals (A ∷ D) (a, b) (c, d) = (in_both_locals D a c, in_both_type A b d)

  in_both_equation : (e : Equation) → EquationIn V e → EquationIn W e → EquationIn X e
  in_both_equation e i j = record { locals = in_both_locals e.local i.locals j.locals; left = in_both e.left i.left j.left; right = in_both e.right i.right j.right; of_type = in_both_type e.of_type i.of_type j.of_type }

-- lists without repeats
abbrev Distinct : List ℕ → Type 0
Distinct [] = Unit {0}
Distinct (n ∷ ns) = (Member n ns → ⊥) × Distinct ns

distinct_followed : (ns ms : List ℕ) → Distinct ns → Distinct ms → ((k : ℕ) → Member k ns → Member k ms → ⊥) → Distinct (followed ns ms)
distinct_followed [] ms d e h = e
distinct_followed (n ∷ ns) ms (a, d) e h = (apart, distinct_followed ns ms d e (λ k i j. h k (inr i) j))
  where
    apart : Member n (followed ns ms) → ⊥
    apart i = go (among_parts n ns ms i)
      where
        go : Member n ns ⊎ Member n ms → ⊥
        go (inl j) = a j
        go (inr j) = h n (inl refl) j

distinct_holes : (n : ℕ) (A : LfType) → Distinct (holes n A)
distinct_holes n (atom a S) = tt
distinct_holes n (pi B C) = go (occurs_type zero C) (distinct_holes (suc n) C)
  where
    newer : (k : ℕ) → Member k (holes (suc n) C) → Member k (n ∷ []) → ⊥
    newer k i (inl e) = (let q : suc n ≤ k = hole_at (suc n) C k i in absurd (omega arith))
    newer k i (inr j) = j

    go : (b : Bool) → Distinct (holes (suc n) C) → Distinct (unless b n (holes (suc n) C))
    go true d = d
    go false d = distinct_followed (holes (suc n) C) (n ∷ []) d ((λ i. i), tt) newer

are_open : (part : ℕ → Bool) (bs : List Binding) (ns : List ℕ) → Distinct ns → ((m : ℕ) → Member m ns → (part m ≡ true) × Unbound bs m) → AreOpenHoles part bs ns
are_open part bs [] d h = tt
are_open part bs (n ∷ ns) (a, d) h = let (t, u) = h n (inl refl) in (t, u, a, are_open part bs ns d (λ m i. h m (inr i)))

open_distinct : (part : ℕ → Bool) (bs : List Binding) (ns : List ℕ) → AreOpenHoles part bs ns → Distinct ns
open_distinct part bs [] o = tt
open_distinct part bs (n ∷ ns) (t, u, a, o) = (a, open_distinct part bs ns o)

open_at : (part : ℕ → Bool) (bs : List Binding) (ns : List ℕ) → AreOpenHoles part bs ns → (m : ℕ) → Member m ns → (part m ≡ true) × Unbound bs m
open_at part bs [] o m i = absurd i
open_at part bs (n ∷ ns) (t, u, a, o) m (inl e) = (ap part e ∙ t, subst (Unbound bs) (sym e) u)
open_at part bs (n ∷ ns) (t, u, a, o) m (inr i) = open_at part bs ns o m i

-- each hole of a clause is declared
pub holes_declared : {D : List LfType} {Ψ : ℕ → Option LfType} {n : ℕ} {A : LfType} {Ψ' : ℕ → Option LfType} {n' : ℕ} {S : Spine} {a : ℕ} {T : Spine} → AppliesToNew D Ψ n A Ψ' n' S a T → ((m : ℕ) → n ≤ m → Ψ m ≡ None) → (A₀ : LfType) → SameShape A₀ A → (m : ℕ) → Member m (holes n A₀) → Declares Ψ' m
holes_declared applied_to_all f (atom a S) shape m i = absurd i
holes_declared applied_to_all f (pi B C) shape m i = absurd shape
holes_declared (applied_to_next o) f (atom a S) shape m i = absurd shape
holes_declared {D = D} (applied_to_next {Ψ = Ψ} {Ψ' = Ψ'} {n = n} {B = B} {C = C} o) f (pi B₀ C₀) (u, shape) m i = go (occurs_type zero C₀) i (holes_declared o fresh C₀ (shape_substituted C₀ C (single (skeleton B) (raised D B n)) shape) m)
  where
    fresh : (k : ℕ) → suc n ≤ k → set_at n (Some (pi_over D B)) Ψ k ≡ None
    fresh k h = set_other n (Some (pi_over D B)) Ψ k (λ e. omega arith) ∙ f k (omega arith)

    go : (b : Bool) → Member m (unless b n (holes (suc n) C₀)) → (Member m (holes (suc n) C₀) → Declares Ψ' m) → Declares Ψ' m
    go true j h = h j
    go false j h = at (among_parts m (holes (suc n) C₀) (n ∷ []) j)
      where
        at : Member m (holes (suc n) C₀) ⊎ Member m (n ∷ []) → Declares Ψ' m
        at (inl k) = h k
        at (inr (inl e)) = (pi_over D B, ap Ψ' e ∙ (applied_adds o fresh).grows n (pi_over D B) (set_here n (Some (pi_over D B)) Ψ))
        at (inr (inr k)) = absurd k

module _ (Σ : Signature) (ok : IsSignature Σ) where
  -- the root
  module _ (G : List LfType) (A : LfType) (c : IsContext Σ G) (t : IsType Σ G A) where
    other_number : (m : ℕ) → IsListed (order_of G) m → same_number (length G) m ≡ false
    other_number m l = go (same_number (length G) m) refl
      where
        go : (b : Bool) → same_number (length G) m ≡ b → b ≡ false
        go true e = (let q : length G ≡ m = same_to (length G) m e in let h : m < length G = listed_below G m l in absurd (omega arith))
        go false e = refl

    hole_declared : (m : ℕ) → same_number (length G) m ≡ true → Declares (metavariables_of (A ∷ G)) m
    hole_declared m e = subst (Declares (metavariables_of (A ∷ G))) (same_to (length G) m e) (over_metavariables G A, set_here (length G) (Some (over_metavariables G A)) (metavariables_of G))

    pub root_holes : HolesAreOpen (root_of G A)
    root_holes = record {
      part = same_number (length G);
      apart = record {
        declared = hole_declared;
        types = λ m X e. in_weaker_type (IsListed (order_of G)) (NotIn (same_number (length G))) other_number X (types_below Σ ok A G (c, t) m X e);
        values = λ b i f. absurd i;
        equations = tt;
        equation_types = tt;
      };
      open_holes = (same_refl (length G), tt, (λ i. i), tt);
    }

  -- a child
  module _ (node : Node) (g : ℕ) (gs : List ℕ) (D : List LfType) (a : ℕ) (T : Spine) (h : Head) (A : LfType) (s : Store) (n : ℕ) (is : IsNode Σ node) (goals : node.goals ≡ g ∷ gs) (declared : node.store.metavariables g ≡ Some (pi_over D (atom a T))) (w : HolesAreOpen node) (o : Offer Σ node g D a T h A s n) where
    abbrev Ψ : ℕ → Option LfType
    Ψ = node.store.metavariables

    abbrev new : List ℕ
    new = holes node.next A

    part' : ℕ → Bool
    part' m = either (w.part m) (is_among (holes node.next A) m)

    abbrev V : ℕ → Type 0
    V = NotIn part'

    open_goals : AreOpenHoles w.part node.store.bindings (g ∷ gs)
    open_goals = subst (AreOpenHoles w.part node.store.bindings) goals w.open_holes

    not_new : (m : ℕ) → Declares node.store.metavariables m → Member m (holes node.next A) → ⊥
    not_new m d i = none_is (sym (is.scoped.fresh m (hole_at node.next A m i)) ∙ d.1)

    old : (m : ℕ) → NotIn w.part m → Declares node.store.metavariables m → NotIn part' m
    unfolding part'
    old m f d = both_false (w.part m) (is_among (holes node.next A) m) f (not_member (holes node.next A) m (not_new m d))

    variable_new : (m : ℕ) → node.next ≤ m → (Member m (holes node.next A) → ⊥) → NotIn part' m
    unfolding part'
    variable_new m l k = both_false (w.part m) (is_among (holes node.next A) m) (go (w.part m) refl) (not_member (holes node.next A) m k)
      where
        go : (b : Bool) → w.part m ≡ b → b ≡ false
        go true e = absurd (none_is (sym (is.scoped.fresh m l) ∙ (w.apart.declared m e).1))
        go false e = refl

    old_type : (m : ℕ) (X : LfType) → node.store.metavariables m ≡ Some X → MetavariablesInType (NotIn part') X
    old_type m X e = in_both_type (NotIn w.part) (Declares node.store.metavariables) (NotIn part') old X (w.apart.types m X e) (is.scoped.types m X e)

    goal_in : MetavariablesInLocals (NotIn part') D × MetavariablesInType (NotIn part') (atom a T)
    goal_in = in_pis (NotIn part') D (atom a T) (old_type g (pi_over D (atom a T)) declared)

    head_in : (x : Head) → OfferedHeadHasType Σ D x A → MetavariablesInType (NotIn part') A
    head_in (constant k) e = in_typed_type (NotIn part') Σ [] A (ok.types_ok k A e)
    head_in (variable i) e = in_at (NotIn part') D i A goal_in.0 e
    head_in (metavariable m) e = absurd e

    made : ClauseIn (NotIn part') s.metavariables o.indices
    made = clause_in (NotIn part') o.offered A (own_shape A) (variables_not_holes (NotIn part') node.next A variable_new) old_type goal_in.0 (head_in h o.typed)

    part_declared : (m : ℕ) → part' m ≡ true → Declares s.metavariables m
    unfolding part'
    part_declared m e = go (one_or_other (w.part m) (is_among (holes node.next A) m) e)
      where
        go : (w.part m ≡ true) ⊎ (is_among (holes node.next A) m ≡ true) → Declares s.metavariables m
        go (inl t) = let d : Declares node.store.metavariables m = w.apart.declared m t in (d.0, (offer_adds Σ ok node g D a T h A s n is declared o).grows m d.0 d.1)
        go (inr t) = holes_declared o.offered is.scoped.fresh A (own_shape A) m (among_member (holes node.next A) m t)

    old_values : (bs : List Binding) → MetavariablesInBindings (Declares node.store.metavariables) bs → (b : Binding) → Member b bs → MetavariablesIn (Declares node.store.metavariables) b.value
    old_values [] i b j = absurd j
    old_values (x ∷ bs) (p, v, i) b (inl q) = subst (λ (y : Binding). MetavariablesIn (Declares node.store.metavariables) y.value) (sym q) v
    old_values (x ∷ bs) (p, v, i) b (inr j) = old_values bs i b j

    left_part : (m : ℕ) → part' m ≡ false → w.part m ≡ false
    unfolding part'
    left_part m e = go (w.part m) refl
      where
        go : (b : Bool) → w.part m ≡ b → b ≡ false
        go true q = absurd (not_both (either_left (w.part m) (is_among (holes node.next A) m) q) e)
        go false q = refl

    is_part : (m : ℕ) → w.part m ≡ true → part' m ≡ true
    unfolding part'
    is_part m e = either_left (w.part m) (is_among (holes node.next A) m) e

    is_new : (m : ℕ) → Member m (holes node.next A) → part' m ≡ true
    unfolding part'
    is_new m i = either_right (w.part m) (is_among (holes node.next A) m) (member_among (holes node.next A) m i)

    values : (b : Binding) → Member b (record { of = g; value = lambda_over D (root h o.spine) } ∷ node.store.bindings) → part' b.of ≡ false → MetavariablesIn (NotIn part') b.value
    values b (inl q) f = absurd (not_both (ap part' (ap (λ (y : Binding). y.of) q) ∙ is_part g open_goals.0) f)
    values b (inr i) f = in_both (NotIn w.part) (Declares node.store.metavariables) (NotIn part') old b.value (w.apart.values b i (left_part b.of f)) (old_values node.store.bindings is.scoped.bindings b i)

    equations : (e : Equation) → Member e (followed node.store.equations (spine_equations D o.kind T o.indices)) → EquationIn (NotIn part') e
    equations e i = go (among_parts e node.store.equations (spine_equations D o.kind T o.indices) i)
      where
        go : Member e node.store.equations ⊎ Member e (spine_equations D o.kind T o.indices) → EquationIn (NotIn part') e
        go (inl j) = in_both_equation (NotIn w.part) (Declares node.store.metavariables) (NotIn part') old e
            (equations_of (NotIn w.part) node.store.equations w.apart.equations w.apart.equation_types e j)
            (equations_of (Declares node.store.metavariables) node.store.equations is.scoped.equations is.scoped.equation_types e j)
        go (inr j) = spines_in (NotIn part') D goal_in.0 o.kind T o.indices (in_typed_kind (NotIn part') Σ [] o.kind (ok.kinds_ok a o.kind o.kind_of)) goal_in.1 made.indices e j

    offered_apart : StoreIn (NotIn part') s
    offered_apart = record {
      types = made.types;
      values = λ b i f. values b (subst (Member b) o.bindings i) f;
      equations = λ e i. equations e (subst (Member e) o.equations i);
    }

    bound_declared : (bs : List Binding) → MetavariablesInBindings (Declares node.store.metavariables) bs → (m : ℕ) → (Declares node.store.metavariables m → ⊥) → Unbound bs m
    bound_declared [] i m k = tt
    bound_declared (b ∷ bs) (p, v, i) m k = ((λ e. k (subst (Declares node.store.metavariables) (sym e) p)), bound_declared bs i m k)

    new_open : (m : ℕ) → Member m (holes node.next A) → (part' m ≡ true) × Unbound s.bindings m
    new_open m i = (is_new m i, subst (λ bs. Unbound bs m) (sym o.bindings) ((λ e. not_new g (pi_over D (atom a T), declared) (subst (λ k. Member k (holes node.next A)) e i)), bound_declared node.store.bindings is.scoped.bindings m (λ d. not_new m d i)))

    old_open : (m : ℕ) → Member m gs → (part' m ≡ true) × Unbound s.bindings m
    old_open m i =
        let (t, u) = open_at w.part node.store.bindings gs open_goals.3 m i in
        (is_part m t, subst (λ bs. Unbound bs m) (sym o.bindings) ((λ e. open_goals.2 (subst (λ k. Member k gs) e i)), u))

    new_and_old : (m : ℕ) → Member m (holes node.next A) → Member m gs → ⊥
    new_and_old m i j = not_new m (w.apart.declared m (open_at w.part node.store.bindings gs open_goals.3 m j).0) i

    all_open : AreOpenHoles part' s.bindings (followed (holes node.next A) gs)
    all_open = are_open part' s.bindings (followed (holes node.next A) gs) (distinct_followed (holes node.next A) gs (distinct_holes node.next A) (open_distinct w.part node.store.bindings gs open_goals.3) new_and_old) at
      where
        at : (m : ℕ) → Member m (followed (holes node.next A) gs) → (part' m ≡ true) × Unbound s.bindings m
        at m i = go (among_parts m (holes node.next A) gs i)
          where
            go : Member m (holes node.next A) ⊎ Member m gs → (part' m ≡ true) × Unbound s.bindings m
            go (inl j) = new_open m j
            go (inr j) = old_open m j

    -- THE theorem
    pub child_holes : (s' : Store) (u : IsChild Σ s s') → RunRenewsReached u.run → (next : ℕ) → HolesAreOpen (record { store = s'; next = next; goals = followed (holes node.next A) gs })
    child_holes s' u r next =
        let (end, kept) = run_opens Σ ok part' u.run r part_declared offered_apart in
        record {
          part = part';
          apart = record {
            declared = λ m t. ((part_declared m t).0, run_grows u.run m (part_declared m t).0 (part_declared m t).1);
            types = end.types;
            values = end.values;
            equations = equations_in (NotIn part') s'.equations end.equations;
            equation_types = equation_types_in (NotIn part') s'.equations end.equations;
          };
          open_holes = still (followed (holes node.next A) gs) kept all_open;
        }
      where
        still : (ns : List ℕ) → ((k : ℕ) → part' k ≡ true → Unbound s.bindings k → Unbound s'.bindings k) → AreOpenHoles part' s.bindings ns → AreOpenHoles part' s'.bindings ns
        still [] k x = tt
        still (m ∷ ns) k (t, v, b, x) = (t, k m t v, b, still ns k x)
