-- A new metavariable takes the goal's term at once: what the goal's terms mention stands behind the hole in the order of dependency, and no new metavariable does.
use Rattle.std.proofs.Common.{◌≡◌, ℕ, List, [], ◌∷◌, Bool, true, false, Option, Some, None, ◌⊎◌, inl, inr, refl, sym, ap, ◌∙◌, subst}
use Rattle.lf.specs.Subordination.{Member}
use Rattle.lf.specs.Syntax.{Head, Kind, LfType, Spine, Term, atom, base, metavariable, nil, rename, root}
use Rattle.lf.specs.Typing.{IsSignature, Signature}
use Rattle.lf_search.proofs.ChildNode.{applied_adds}
use Rattle.lf_search.specs.AppliedHeads.{AppliedHead}
use Rattle.lf_unification.specs.Dependency.{IsDependencyOrder, IsListed, ListedMetavariable, ValueIsOrdered}
use Rattle.lf_unification.specs.Inversion.{IsPattern}
use Rattle.lf_unification.specs.Lists.{followed}
use Rattle.lf_unification.specs.Offering.{pi_over}
use Rattle.lf_unification.specs.OpenTyping.{MetavariablesIn, MetavariablesInSpine, MetavariablesInType, skeletons_of}
use Rattle.lf_unification.specs.Outside.{Avoids, CanBind, Holds, ValuesIn}
use Rattle.lf_unification.specs.PartialInstance.{IsFilling}
use Rattle.lf_unification.specs.Patterns.{beyond, lambdas_of, pattern, pattern_renaming}
use Rattle.lf_unification.specs.ReachedRuns.{ReachedRun}
use Rattle.lf_unification.specs.Skeletons.{skeleton_or_default}
use Rattle.lf_unification.specs.Solving.{BindingsAreListed}
use Rattle.lf_unification.specs.Steps.{bind}
use Rattle.lf_unification.specs.Unifiers.{Binding, Equation, Side, Store, equation_on}
use Rattle.lf_unification.proofs.Eta.{rename_id}
use Rattle.lf_unification.proofs.Offer.{decide}
use Rattle.lf_unification.proofs.Scope.{in_weaker, in_weaker_type}
use Rattle.tw_metas.specs.State.{IsUnbound, State, joined, with_value}
use Rattle.tw_putting.specs.Ready.{IsReady}
use Rattle.tw_putting.specs.Stores.{bindings_of, types_of}
use Rattle.tw_putting.specs.Whole.{IsConsistent, whole}
use Rattle.tw_putting.proofs.Changes.{bindings_with_value, consistent_with_value}
use Rattle.tw_putting.proofs.HeadValues.{stays_unbound}
use Rattle.tw_putting.proofs.Readiness.{ready_after}
use Rattle.tw_terms.specs.declared.canonical.MetaId.{MetaId}
use Rattle.tw_unify.specs.Reaching.{IsKnown, IsMarked, Marking}
use Rattle.tw_unify.proofs.Orders.{one_step}
use Rattle.tw_search.specs.Beside.{ComesApart, IndicesComeApart, LeadsTo, LeftsIn, RowComesApart, leads_by_value, leads_to_itself, next_argument, next_index, no_argument, no_index, same_constants, stays}
use Rattle.tw_search.specs.Goals.{IsDeclared, StandsAtGoal, goal_type, indices_of}
use Rattle.tw_search.specs.Offers.{IsOffered}
use Rattle.tw_search.specs.declared.goal.OpenGoal.{OpenGoal}

some_is : {A : Type 0} {x y : A} → Some x ≡ Some y → x ≡ y
some_is e = cc

-- What the bindings of a list mention.
value_within : (V : ℕ → Type 0) (bs : List Binding) (b : Binding) → ValuesIn V bs → Member b bs → V b.of → MetavariablesIn V b.value
value_within V [] b w i v = absurd i
value_within V (c ∷ bs) b (w, ws) (inl e) v = subst (λ (x : Binding). V x.of → MetavariablesIn V x.value) (sym e) w v
value_within V (c ∷ bs) b (w, ws) (inr i) v = value_within V bs b ws i v

pub all_within : (V : ℕ → Type 0) (bs : List Binding) → ((b : Binding) → Member b bs → V b.of → MetavariablesIn V b.value) → ValuesIn V bs
all_within V [] f = tt
all_within V (b ∷ bs) f = (f b (inl refl), all_within V bs (λ c i. f c (inr i)))

-- Of what comes apart the left sides mention what the goal's terms mention, through values.
module _ (V : ℕ → Type 0) where
  pub both_lefts : (es fs : List Equation) → LeftsIn V es → LeftsIn V fs → LeftsIn V (followed es fs)
  both_lefts [] fs i j = j
  both_lefts (e ∷ es) fs (k, i) j = (k, both_lefts es fs i j)

  module _ (bs : List Binding) (closed : ValuesIn V bs) where
    leads_within : {M N : Term} → LeadsTo bs M N → MetavariablesIn V M → MetavariablesIn V N
    leads_within leads_to_itself i = i
    leads_within (leads_by_value b j l) (v, i) = leads_within l (value_within V bs b closed j v)

    module _ (Σ : Signature) (p : ℕ → AppliedHead) where
      mutual
        pub term_lefts : {M N : Term} {A : LfType} {es : List Equation} → ComesApart Σ bs p M N A es → MetavariablesIn V M → LeftsIn V es
        term_lefts (stays l) i = (leads_within l i, tt)
        term_lefts (same_constants l e b row) i = row_lefts row (leads_within l i)

        pub row_lefts : {S T : Spine} {B : LfType} {es : List Equation} → RowComesApart Σ bs p S T B es → MetavariablesInSpine V S → LeftsIn V es
        row_lefts no_argument i = tt
        row_lefts (next_argument {es = es} {fs = fs} first row) (i, j) = both_lefts es fs (term_lefts first i) (row_lefts row j)

      pub indices_lefts : {S T : Spine} {K : Kind} {es : List Equation} → IndicesComeApart Σ bs p S T K es → MetavariablesInSpine V S → LeftsIn V es
      indices_lefts no_index i = tt
      indices_lefts (next_index {es = es} {fs = fs} first row) (i, j) = both_lefts es fs (term_lefts first i) (indices_lefts row j)

-- whether a list has the metavariable
one_or : {P Q : Type 0} → P ⊎ Q → Bool → Bool
one_or (inl p) b = true
one_or (inr q) b = b

listed : List ListedMetavariable → ℕ → Bool
listed [] k = false
listed (it ∷ is) k = one_or (decide k it.of) (listed is k)

is_listed : (is : List ListedMetavariable) (k : ℕ) → Holds (listed is k) → IsListed is k
unfolding listed one_or
is_listed [] k h = h
is_listed (it ∷ is) k h = go (decide k it.of) (is_listed is k) h
  where
    go : (d : (k ≡ it.of) ⊎ (k ≡ it.of → ⊥)) → (Holds (listed is k) → IsListed is k) → Holds (one_or d (listed is k)) → IsListed (it ∷ is) k
    go (inl e) f x = inl e
    go (inr n) f x = inr (f x)

is_listed_so : (is : List ListedMetavariable) (k : ℕ) → IsListed is k → Holds (listed is k)
unfolding listed one_or
is_listed_so [] k h = h
is_listed_so (it ∷ is) k h = go (decide k it.of) (is_listed_so is k) h
  where
    go : (d : (k ≡ it.of) ⊎ (k ≡ it.of → ⊥)) → (IsListed is k → Holds (listed is k)) → IsListed (it ∷ is) k → Holds (one_or d (listed is k))
    go (inl e) f x = tt
    go (inr n) f (inl e) = absurd (n e)
    go (inr n) f (inr l) = f l

module _ (Σ : Signature) (Ψ : ℕ → Option LfType) (U : (ℕ → Option Term) → Type 0) where
  -- A metavariable of the order, and what stands behind it; what is listed there stands there, since each is listed once.
  record StandsIn (is : List ListedMetavariable) (m : ℕ) : Type 0 where
    item : ListedMetavariable
    rest : List ListedMetavariable
    is_it : item.of ≡ m
    order : IsDependencyOrder Σ Ψ U (item ∷ rest)
    within : (k : ℕ) → IsListed rest k → IsListed is k
    there : (x : ListedMetavariable) → Member x is → IsListed rest x.of → Member x rest

  stands_in : (is : List ListedMetavariable) (m : ℕ) → IsDependencyOrder Σ Ψ U is → IsListed is m → StandsIn is m
  stands_in [] m o l = absurd l
  stands_in (it ∷ is) m o (inl e) = record {
    item = it;
    rest = is;
    is_it = sym e;
    order = o;
    within = λ k l. inr l;
    there = λ x i l. not_first x i l;
  }
    where
      not_first : (x : ListedMetavariable) → Member x (it ∷ is) → IsListed is x.of → Member x is
      not_first x (inl q) l = absurd (o.2 (subst (λ (y : ListedMetavariable). IsListed is y.of) q l))
      not_first x (inr j) l = j
  stands_in (it ∷ is) m o (inr l) = later (stands_in is m o.0 l)
    where
      later : StandsIn is m → StandsIn (it ∷ is) m
      later r = record {
        item = r.item;
        rest = r.rest;
        is_it = r.is_it;
        order = r.order;
        within = λ k h. inr (r.within k h);
        there = not_first;
      }
        where
          not_first : (x : ListedMetavariable) → Member x (it ∷ is) → IsListed r.rest x.of → Member x r.rest
          not_first x (inl q) h = absurd (o.2 (r.within it.of (subst (λ (y : ListedMetavariable). IsListed r.rest y.of) q h)))
          not_first x (inr j) h = r.there x j h

  -- the type of what is listed mentions what is listed
  type_listed : (is : List ListedMetavariable) → IsDependencyOrder Σ Ψ U is → (k : ℕ) → IsListed is k → (A : LfType) × (Ψ k ≡ Some A) × MetavariablesInType (IsListed is) A
  type_listed [] o k l = absurd l
  type_listed (it ∷ is) o k (inl e) = (it.of_type, ap Ψ e ∙ o.1, in_weaker_type (IsListed is) (IsListed (it ∷ is)) (λ j h. inr h) it.of_type o.3)
  type_listed (it ∷ is) o k (inr l) = let (A, d, i) = type_listed is o.0 k l in (A, d, in_weaker_type (IsListed is) (IsListed (it ∷ is)) (λ j h. inr h) A i)

  -- and so does its value
  value_listed : (is : List ListedMetavariable) → IsDependencyOrder Σ Ψ U is → (b : Binding) (A : LfType) → Member (record { of = b.of; of_type = A; value = Some b.value }) is → MetavariablesIn (IsListed is) b.value
  value_listed [] o b A i = absurd i
  value_listed (it ∷ is) o b A (inl e) = in_weaker (IsListed is) (IsListed (it ∷ is)) (λ j h. inr h) b.value (at_value it.value (sym (ap (λ (x : ListedMetavariable). x.value) e)) o.6)
    where
      at_value : (v : Option Term) → v ≡ Some b.value → ValueIsOrdered Σ Ψ U is it.of_type v → MetavariablesIn (IsListed is) b.value
      at_value None q x = cc
      at_value (Some N) q x = subst (MetavariablesIn (IsListed is)) (some_is q) x.0
  value_listed (it ∷ is) o b A (inr i) = in_weaker (IsListed is) (IsListed (it ∷ is)) (λ j h. inr h) b.value (value_listed is o.0 b A i)

binding_listed : (is : List ListedMetavariable) (bs : List Binding) → BindingsAreListed is bs → (b : Binding) → Member b bs → (A : LfType) × Member (record { of = b.of; of_type = A; value = Some b.value }) is
binding_listed is [] l b i = absurd i
binding_listed is (c ∷ bs) (l, ls) b (inl e) = subst (λ (x : Binding). (A : LfType) × Member (record { of = x.of; of_type = A; value = Some x.value }) is) (sym e) l
binding_listed is (c ∷ bs) (l, ls) b (inr i) = binding_listed is bs ls b i

-- A set that is closed under what types and values of the state t mention and has what the goal's arguments mention: of the state s, in which the goal stands, and without its hole.
pub record IsBehindHole (s : State) (g : OpenGoal) (t : State) : Type 0 where
  pub has : ℕ → Bool
  pub types : (k : ℕ) (A : LfType) → Holds (has k) → types_of t k ≡ Some A → MetavariablesInType (λ j. Holds (has j)) A
  pub values : ValuesIn (λ j. Holds (has j)) (bindings_of t)
  pub without_hole : Holds (has g.hole.0) → ⊥
  pub indices : MetavariablesInSpine (λ j. Holds (has j)) (indices_of s g.hole.0)
  pub declared : (k : ℕ) → Holds (has k) → IsDeclared s k

-- no metavariable that came later is in it
pub avoids_new : (s : State) (g : OpenGoal) (t : State) (b : IsBehindHole s g t) (m : ℕ) → (IsDeclared s m → ⊥) → Avoids (types_of t) (bindings_of t) m (λ j. Holds (b.has j))
avoids_new s g t b m n = (b.types, b.values, λ h. n (b.declared m h))

module _ (Σ : Signature) (s : State) (g : OpenGoal) (h : Head) (es : List Equation) (subgoals : List MetaId) (t : State) (at : StandsAtGoal Σ s g) (o : IsOffered Σ s g h es subgoals t) (no_locals : g.locals ≡ []) where
  is_order : IsDependencyOrder Σ (types_of s) (IsFilling Σ [] (whole [] s)) at.ready.well_formed.order
  is_order = at.ready.well_formed.is_order

  place : StandsIn Σ (types_of s) (IsFilling Σ [] (whole [] s)) at.ready.well_formed.order g.hole.0
  place = stands_in Σ (types_of s) (IsFilling Σ [] (whole [] s)) at.ready.well_formed.order g.hole.0 is_order (at.ready.well_formed.all_listed g.hole.0 (goal_type s g) at.declared)

  grows : (k : ℕ) (A : LfType) → types_of s k ≡ Some A → types_of t k ≡ Some A
  grows = (applied_adds o.offer.offered at.node.scoped.fresh).grows

  module _ (r : StandsIn Σ (types_of s) (IsFilling Σ [] (whole [] s)) at.ready.well_formed.order g.hole.0) where
    to_set : (k : ℕ) → IsListed r.rest k → Holds (listed r.rest k)
    to_set k l = is_listed_so r.rest k l

    types_behind : (k : ℕ) (A : LfType) → Holds (listed r.rest k) → types_of t k ≡ Some A → MetavariablesInType (λ j. Holds (listed r.rest j)) A
    types_behind k A x e =
        let (B, d, i) = type_listed Σ (types_of s) (IsFilling Σ [] (whole [] s)) r.rest r.order.0 k (is_listed r.rest k x) in
        let same : B ≡ A = some_is (sym (grows k B d) ∙ e) in
        in_weaker_type (IsListed r.rest) (λ j. Holds (listed r.rest j)) to_set A (subst (MetavariablesInType (IsListed r.rest)) same i)

    no_hole : Holds (listed r.rest g.hole.0) → ⊥
    no_hole x = r.order.2 (subst (IsListed r.rest) (sym r.is_it) (is_listed r.rest g.hole.0 x))

    value_behind : (b : Binding) → Member b (bindings_of s) → Holds (listed r.rest b.of) → MetavariablesIn (λ j. Holds (listed r.rest j)) b.value
    value_behind b i x =
        let (A, j) = binding_listed at.ready.well_formed.order (bindings_of s) at.ready.well_formed.bindings_listed b i in
        let here = r.there (record { of = b.of; of_type = A; value = Some b.value }) j (is_listed r.rest b.of x) in
        in_weaker (IsListed r.rest) (λ k. Holds (listed r.rest k)) to_set b.value (value_listed Σ (types_of s) (IsFilling Σ [] (whole [] s)) r.rest r.order.0 b A here)

    values_behind : ValuesIn (λ j. Holds (listed r.rest j)) (bindings_of t)
    values_behind = subst (ValuesIn (λ j. Holds (listed r.rest j))) (sym o.offer.bindings)
        ((λ x. absurd (no_hole x)), all_within (λ j. Holds (listed r.rest j)) (bindings_of s) value_behind)

    indices_behind : MetavariablesInSpine (λ j. Holds (listed r.rest j)) (indices_of s g.hole.0)
    indices_behind =
        let same : r.item.of_type ≡ goal_type s g = some_is (sym r.order.1 ∙ ap (types_of s) r.is_it ∙ at.declared) in
        let closed : MetavariablesInType (IsListed r.rest) (goal_type s g) = subst (MetavariablesInType (IsListed r.rest)) same r.order.3 in
        let atomic : MetavariablesInType (IsListed r.rest) (atom g.family.0 (indices_of s g.hole.0)) = subst (λ D. MetavariablesInType (IsListed r.rest) (pi_over D (atom g.family.0 (indices_of s g.hole.0)))) no_locals closed in
        in_weaker_type (IsListed r.rest) (λ j. Holds (listed r.rest j)) to_set (atom g.family.0 (indices_of s g.hole.0)) atomic

    declared_behind : (k : ℕ) → Holds (listed r.rest k) → IsDeclared s k
    declared_behind k x = let (A, d, i) = type_listed Σ (types_of s) (IsFilling Σ [] (whole [] s)) r.rest r.order.0 k (is_listed r.rest k x) in (A, d)

    set_behind : IsBehindHole s g t
    set_behind = record {
      has = listed r.rest;
      types = types_behind;
      values = values_behind;
      without_hole = no_hole;
      indices = indices_behind;
      declared = declared_behind;
    }

  -- THE theorem: what stands behind the hole
  pub behind_the_hole : IsBehindHole s g t
  behind_the_hole = set_behind place

-- A metavariable of a base type on one side takes the other.
module _ (Σ : Signature) (ok : IsSignature Σ) (side : Side) (N : Term) (A : LfType) (fs : List Equation) (t : State) (m a : ℕ) (I : Spine) (ready : IsReady Σ (equation_on side [] (root (metavariable m) nil) N A ∷ fs) t) (unbound : IsUnbound t m) (declared : types_of t m ≡ Some (atom a I)) (W : ℕ → Bool) (avoids : Avoids (types_of t) (bindings_of t) m (λ k. Holds (W k))) (within : MetavariablesIn (λ k. Holds (W k)) N) where
  is_base : skeletons_of (types_of t) m ≡ base a
  is_base = ap skeleton_or_default declared

  is_pattern : IsPattern [] (skeletons_of (types_of t) m) []
  is_pattern = subst (λ k. IsPattern [] k []) (sym is_base) (record { places = λ Γ. tt; distinct = λ i j e. e })

  can : CanBind (types_of t) (bindings_of t) [] m [] N
  can = record {
    inverted = record { inversion = N; is = ap (λ k. rename (pattern_renaming k [] (beyond [])) N) is_base ∙ rename_id N };
    reached = W;
    avoids = avoids;
    within = within;
  }

  abbrev bound_to : Term → Store
  bound_to V = record { metavariables = types_of t; bindings = record { of = m; value = V } ∷ bindings_of t; equations = followed fs t.equations }

  taken : ReachedRun Σ (whole (equation_on side [] (root (metavariable m) (pattern (skeletons_of (types_of t) m) [])) N A ∷ fs) t) (bound_to (lambdas_of (skeletons_of (types_of t) m) N))
  unfolding can
  taken = one_step Σ (bind side [] m [] N A declared (stays_unbound t (root (metavariable m) nil) m nil refl (ap joined unbound)) is_pattern can) tt

  taken_whole : ReachedRun Σ (whole (equation_on side [] (root (metavariable m) nil) N A ∷ fs) t) (bound_to N)
  taken_whole = subst (λ k. ReachedRun Σ (whole (equation_on side [] (root (metavariable m) (pattern k [])) N A ∷ fs) t) (bound_to (lambdas_of k N))) is_base taken

  pub settle_runs : ReachedRun Σ (whole (equation_on side [] (root (metavariable m) nil) N A ∷ fs) t) (whole fs (with_value t m N))
  settle_runs = subst (λ bs. ReachedRun Σ (whole (equation_on side [] (root (metavariable m) nil) N A ∷ fs) t) (record { metavariables = types_of t; bindings = bs; equations = followed fs t.equations }))
      (sym (bindings_with_value t ready.consistent m N unbound)) taken_whole

  pub settle_ready : IsReady Σ fs (with_value t m N)
  settle_ready = ready_after Σ ok (equation_on side [] (root (metavariable m) nil) N A ∷ fs) fs t (with_value t m N) ready settle_runs.run (consistent_with_value t ready.consistent m N unbound)

  -- the set stays closed, and avoids each metavariable that it did not hold
  pub still_avoids : (k : ℕ) → (Holds (W k) → ⊥) → Avoids (types_of (with_value t m N)) (bindings_of (with_value t m N)) k (λ j. Holds (W j))
  still_avoids k n = (
    avoids.0,
    subst (ValuesIn (λ j. Holds (W j))) (sym (bindings_with_value t ready.consistent m N unbound)) ((λ h. absurd (avoids.2 h)), avoids.1),
    n,
  )

-- What is known stays known where a metavariable is bound that isn't of it.
pub known_after : (t : State) (m : ℕ) (N : Term) → IsConsistent t → IsUnbound t m → (w : Marking) → IsKnown t w → (IsMarked w m → ⊥) → IsKnown (with_value t m N) w
known_after t m N c u w known n = record {
  closed = record {
    nothing_due = known.closed.nothing_due;
    types = known.closed.types;
    values = λ k x b i e. met k x b (subst (Member b) (bindings_with_value t c m N u) i) e;
  };
  declared = known.declared;
}
  where
    met : (k : ℕ) → IsMarked w k → (b : Binding) → Member b (record { of = m; value = N } ∷ bindings_of t) → b.of ≡ k → MetavariablesIn (IsMarked w) b.value
    met k x b (inl q) e = absurd (n (subst (IsMarked w) (sym e ∙ ap (λ (y : Binding). y.of) q) x))
    met k x b (inr j) e = known.closed.values k x b j e
