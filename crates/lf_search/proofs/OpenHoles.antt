-- Holes stay open: a step binds only what its equations reach, and what is offered reaches no hole.
use Rattle.std.proofs.Common.{◌≡◌, ℕ, zero, suc, ◌≤◌, List, [], ◌∷◌, Bool, true, false, Option, Some, None, ◌⊎◌, inl, inr, refl, sym, ap, ◌∙◌, subst, arith}
use Rattle.lf.specs.Subordination.{Member}
use Rattle.lf.specs.Substitution.{Image, apply_image, keep, lift, put, reduce, rename_image, single, substitute, substitute_spine, substitute_type}
use Rattle.lf.specs.Syntax.{LfType, Skeleton, Spine, Term, app, arrow, atom, base, constant, lambda, metavariable, nil, pi, rename, root, skeleton, variable}
use Rattle.lf.specs.Typing.{IsSignature, Signature, instantiate_type}
use Rattle.lf.specs.Variables.{same_number}
use Rattle.lf_unification.specs.DeepEquations.{EquationsReach, from_left, from_right}
use Rattle.lf_unification.specs.Offering.{AppliesToNew, MetavariablesInLocals, applied_to_all, applied_to_next, pi_over, raised}
use Rattle.lf_unification.specs.OpenTyping.{Declares, MetavariablesIn, MetavariablesInSpine, MetavariablesInType, set_at, skeletons_of}
use Rattle.lf_unification.specs.Outside.{ValuesIn}
use Rattle.lf_unification.specs.Patterns.{FreeVariablesIn, FreeVariablesInSpine, LiftedSet, lambdas_of}
use Rattle.lf_unification.specs.Putting.{Unbound}
use Rattle.lf_unification.specs.Rigid.{Rigid, RigidInSpine, first, here, in_constant, in_lambda, in_variable, later}
use Rattle.lf_unification.specs.Search.{either, holes, occurs, occurs_spine, occurs_type, unless}
use Rattle.lf_unification.specs.Steps.{Run, Step, bind, drop_equal, equal_heads, next_equation, no_step, on_pattern, open_lambdas, prune_both, prune_inside, put_bindings, renew, then_run}
use Rattle.lf_unification.specs.Unifiers.{Binding, Side, Store, equation_on, on_left, on_right}
use Rattle.lf_unification.proofs.Agree.{set_here}
use Rattle.lf_unification.proofs.Inverse.{FreeVariablesIn-weaker}
use Rattle.lf_unification.proofs.Offer.{decide, set_other}
use Rattle.lf_unification.proofs.Reach.{reached_within}
use Rattle.lf_unification.proofs.Scope.{in_all, in_all_type, in_instance, in_raised, in_rename}
use Rattle.lf_unification.proofs.Steps.{in_pi_over}
use Rattle.lf_unification.proofs.Total.{only_forth}
use Rattle.lf_unification.proofs.Within.{FreeVariablesInType, only_weaker_type}
use Rattle.lf_search.specs.Holes.{NotIn, ProofIsApart}
use Rattle.lf_unification.specs.ReachedRuns.{RenewsReached, RunRenewsReached}
use Rattle.lf_search.proofs.Staying.{EquationIn, NewIn, StoreIn, among_parts, equations_of, step_grows, step_in}

none_is : {A : LfType} → None ≡ Some A → ⊥
none_is e = cc

not_both : {b : Bool} → b ≡ true → b ≡ false → ⊥
not_both e f = cc

true_or_false : (b : Bool) → (b ≡ true) ⊎ (b ≡ false)
true_or_false true = inl refl
true_or_false false = inr refl

-- Steps.
mutual
  rigid_in : (V : ℕ → Type 0) {N M : Term} {k : ℕ} → Rigid N k M → MetavariablesIn V M → MetavariablesIn V N
  rigid_in V here i = i
  rigid_in V (in_lambda r) i = rigid_in V r i
  rigid_in V (in_constant r) i = rigid_in_spine V r i
  rigid_in V (in_variable r) i = rigid_in_spine V r i

  rigid_in_spine : (V : ℕ → Type 0) {N : Term} {S : Spine} {k : ℕ} → RigidInSpine N k S → MetavariablesInSpine V S → MetavariablesIn V N
  rigid_in_spine V (first r) (i, j) = rigid_in V r i
  rigid_in_spine V (later r) (i, j) = rigid_in_spine V r j

pub store_in : (part : ℕ → Bool) (s : Store) → ProofIsApart part s → StoreIn (NotIn part) s
store_in part s w = record { types = w.types; values = w.values; equations = equations_of (NotIn part) s.equations w.equations w.equation_types }

this_side : (V : ℕ → Type 0) (side : Side) (D : List LfType) (M N : Term) (C : LfType) → EquationIn V (equation_on side D M N C) → MetavariablesIn V M
this_side V on_left D M N C i = i.left
this_side V on_right D M N C i = i.right

that_side : (V : ℕ → Type 0) (side : Side) (D : List LfType) (M N : Term) (C : LfType) → EquationIn V (equation_on side D M N C) → MetavariablesIn V N
that_side V on_left D M N C i = i.right
that_side V on_right D M N C i = i.left

values_within : (V : ℕ → Type 0) (bs : List Binding) → ((b : Binding) → Member b bs → V b.of → MetavariablesIn V b.value) → ValuesIn V bs
values_within V [] h = tt
values_within V (b ∷ bs) h = (h b (inl refl), values_within V bs (λ c i. h c (inr i)))

-- what the equations reach is not of the partial proof
reached_apart : (part : ℕ → Bool) (s : Store) → StoreIn (NotIn part) s → (m : ℕ) → EquationsReach s m → part m ≡ false
reached_apart part s w m (from_left e i r) = reached_within s.metavariables s.bindings e.left (NotIn part) (λ k A v q. w.types k A q) (values_within (NotIn part) s.bindings w.values) (w.equations e i).left r
reached_apart part s w m (from_right e i r) = reached_within s.metavariables s.bindings e.right (NotIn part) (λ k A v q. w.types k A q) (values_within (NotIn part) s.bindings w.values) (w.equations e i).right r

module _ (Σ : Signature) (ok : IsSignature Σ) (part : ℕ → Bool) where
  abbrev KeepsOpen : Store → Store → Type 0
  KeepsOpen s s' = (g : ℕ) → part g ≡ true → Unbound s.bindings g → Unbound s'.bindings g

  one_more : (bs : List Binding) (m : ℕ) (N : Term) → part m ≡ false → (g : ℕ) → part g ≡ true → Unbound bs g → Unbound (record { of = m; value = N } ∷ bs) g
  one_more bs m N f g t u = ((λ e. not_both t (ap part e ∙ f)), u)

  step_opens : {s s' : Store} → (p : Step Σ s s') → RenewsReached p → StoreIn (NotIn part) s → KeepsOpen s s'
  step_opens (next_equation es e fs) r w g t u = u
  step_opens (put_bindings p q) r w g t u = u
  step_opens drop_equal r w g t u = u
  step_opens open_lambdas r w g t u = u
  step_opens (equal_heads h A i j) r w g t u = u
  step_opens (bind {Ψ = Ψ} {bs = bs} {es = es} side D m xs N C e v p b) r w g t u =
      one_more bs m (lambdas_of (skeletons_of Ψ m) b.inverted.inversion) (this_side (NotIn part) side D (on_pattern Ψ m xs) N C (w.equations (equation_on side D (on_pattern Ψ m xs) N C) (inl refl))).0 g t u
  step_opens (prune_inside {Ψ = Ψ} {bs = bs} {es = es} side D m xs N C e k p v n c) r w g t u =
      ((λ q. not_both t (ap part q ∙ (rigid_in (NotIn part) p.drop.at (that_side (NotIn part) side D (on_pattern Ψ m xs) N C (w.equations (equation_on side D (on_pattern Ψ m xs) N C) (inl refl)))).0)), u)
  step_opens (prune_both {Ψ = Ψ} {bs = bs} {es = es} side D m xs N C e k p v n c) r w g t u =
      ((λ q. not_both t (ap part q ∙ (this_side (NotIn part) side D (on_pattern Ψ m xs) N C (w.equations (equation_on side D (on_pattern Ψ m xs) N C) (inl refl))).0)), u)
  step_opens (renew {Ψ = Ψ} {bs = bs} {es = es} m A A' e v q p n c) r w g t u =
      ((λ x. not_both t (ap part x ∙ reached_apart part (record { metavariables = Ψ; bindings = bs; equations = es }) w m r)), u)

  new_apart : (s s' : Store) → ((m : ℕ) → part m ≡ true → Declares s.metavariables m) → NewIn (NotIn part) s s'
  new_apart s s' d m e x = go (true_or_false (part m))
    where
      go : (part m ≡ true) ⊎ (part m ≡ false) → part m ≡ false
      go (inl t) = absurd (none_is (sym e ∙ (d m t).1))
      go (inr f) = f

  pub run_opens : {s s' : Store} → (r : Run Σ s s') → RunRenewsReached r → ((m : ℕ) → part m ≡ true → Declares s.metavariables m) → StoreIn (NotIn part) s → StoreIn (NotIn part) s' × KeepsOpen s s'
  run_opens no_step x d w = (w, λ g t u. u)
  run_opens (then_run {s = s} {s' = s'} p r) (x, y) d w =
      let after : StoreIn (NotIn part) s' = step_in Σ ok (NotIn part) p (new_apart s s' d) w in
      let (end, kept) = run_opens r y (λ m t. ((d m t).0, step_grows p m (d m t).0 (d m t).1)) after in
      (end, λ g t u. kept g t (step_opens p x w g t u))

-- Variables that don't occur.
abbrev pub OtherThan : ℕ → ℕ → Type 0
OtherThan x i = same_number x i ≡ false

neither : (a b : Bool) → either a b ≡ false → (a ≡ false) × (b ≡ false)
neither true b e = cc
neither false b e = (refl, e)

lifted_other : (x i : ℕ) → OtherThan (suc x) i → LiftedSet (OtherThan x) i
lifted_other x zero o = tt
lifted_other x (suc i) o = o

mutual
  not_occurring : (x : ℕ) (M : Term) → occurs x M ≡ false → FreeVariablesIn (OtherThan x) M
  not_occurring x (lambda M) e = FreeVariablesIn-weaker (OtherThan (suc x)) (LiftedSet (OtherThan x)) (lifted_other x) M (not_occurring (suc x) M e)
  not_occurring x (root (constant c) S) e = not_occurring_spine x S e
  not_occurring x (root (metavariable m) S) e = not_occurring_spine x S e
  not_occurring x (root (variable i) S) e = let (a, b) = neither (same_number x i) (occurs_spine x S) e in (a, not_occurring_spine x S b)

  not_occurring_spine : (x : ℕ) (S : Spine) → occurs_spine x S ≡ false → FreeVariablesInSpine (OtherThan x) S
  not_occurring_spine x nil e = tt
  not_occurring_spine x (app M S) e = let (a, b) = neither (occurs x M) (occurs_spine x S) e in (not_occurring x M a, not_occurring_spine x S b)

not_occurring_type : (x : ℕ) (A : LfType) → occurs_type x A ≡ false → FreeVariablesInType (OtherThan x) A
not_occurring_type x (pi A B) e = let (a, b) = neither (occurs_type x A) (occurs_type (suc x) B) e in (not_occurring_type x A a, only_weaker_type (OtherThan (suc x)) (LiftedSet (OtherThan x)) (lifted_other x) B (not_occurring_type (suc x) B b))
not_occurring_type x (atom a S) e = not_occurring_spine x S e

-- A substitution brings what it gives the variables that occur.
module _ (V : ℕ → Type 0) where
  abbrev ImageIn : (ℕ → Type 0) → Image → Type 0
  ImageIn Q (keep i) = Q i
  ImageIn Q (put a N) = FreeVariablesIn Q N × MetavariablesIn V N

  abbrev Fine : (ℕ → Type 0) → Term → Type 0
  Fine Q M = FreeVariablesIn Q M × MetavariablesIn V M

  abbrev FineSpine : (ℕ → Type 0) → Spine → Type 0
  FineSpine Q S = FreeVariablesInSpine Q S × MetavariablesInSpine V S

  abbrev StaysFine : (Skeleton → Term → Spine → Term) → Type 1
  StaysFine r = (Q : ℕ → Type 0) (a : Skeleton) (N : Term) (S : Spine) → Fine Q N → FineSpine Q S → Fine Q (r a N S)

  image_up : (P Q : ℕ → Type 0) (σ : ℕ → Image) → ((i : ℕ) → P i → ImageIn Q (σ i)) → (i : ℕ) → LiftedSet P i → ImageIn (LiftedSet Q) (lift σ i)
  image_up P Q σ h zero p = tt
  image_up P Q σ h (suc i) p = go (σ i) (h i p)
    where
      go : (x : Image) → ImageIn Q x → ImageIn (LiftedSet Q) (rename_image suc x)
      go (keep j) q = q
      go (put a N) (f, m) = (only_forth Q (LiftedSet Q) suc (λ j x. x) N f, in_rename V suc N m)

  image_applied : (r : Skeleton → Term → Spine → Term) → StaysFine r → (Q : ℕ → Type 0) (x : Image) (S : Spine) → ImageIn Q x → FineSpine Q S → Fine Q (apply_image r x S)
  image_applied r k Q (keep i) S q (s, m) = ((q, s), m)
  image_applied r k Q (put a N) S q s = k Q a N S q s

  mutual
    substituted_fine : (r : Skeleton → Term → Spine → Term) → StaysFine r → (P Q : ℕ → Type 0) (σ : ℕ → Image) → ((i : ℕ) → P i → ImageIn Q (σ i)) → (M : Term) → Fine P M → Fine Q (substitute r σ M)
    substituted_fine r k P Q σ h (lambda M) o = substituted_fine r k (LiftedSet P) (LiftedSet Q) (lift σ) (image_up P Q σ h) M o
    substituted_fine r k P Q σ h (root (constant c) S) o = substituted_fine_spine r k P Q σ h S o
    substituted_fine r k P Q σ h (root (metavariable m) S) (o, (v, i)) = let (a, b) = substituted_fine_spine r k P Q σ h S (o, i) in (a, (v, b))
    substituted_fine r k P Q σ h (root (variable j) S) ((p, o), i) = image_applied r k Q (σ j) (substitute_spine r σ S) (h j p) (substituted_fine_spine r k P Q σ h S (o, i))

    substituted_fine_spine : (r : Skeleton → Term → Spine → Term) → StaysFine r → (P Q : ℕ → Type 0) (σ : ℕ → Image) → ((i : ℕ) → P i → ImageIn Q (σ i)) → (S : Spine) → FineSpine P S → FineSpine Q (substitute_spine r σ S)
    substituted_fine_spine r k P Q σ h nil o = (tt, tt)
    substituted_fine_spine r k P Q σ h (app M S) ((o, p), (i, j)) = let (a, b) = substituted_fine r k P Q σ h M (o, i) in let (c, d) = substituted_fine_spine r k P Q σ h S (p, j) in ((a, c), (b, d))

  substituted_fine_type : (r : Skeleton → Term → Spine → Term) → StaysFine r → (P Q : ℕ → Type 0) (σ : ℕ → Image) → ((i : ℕ) → P i → ImageIn Q (σ i)) → (A : LfType) → FreeVariablesInType P A × MetavariablesInType V A → FreeVariablesInType Q (substitute_type r σ A) × MetavariablesInType V (substitute_type r σ A)
  substituted_fine_type r k P Q σ h (pi A B) ((o, p), (i, j)) = let (a, b) = substituted_fine_type r k P Q σ h A (o, i) in let (c, d) = substituted_fine_type r k (LiftedSet P) (LiftedSet Q) (lift σ) (image_up P Q σ h) B (p, j) in ((a, c), (b, d))
  substituted_fine_type r k P Q σ h (atom a S) o = substituted_fine_spine r k P Q σ h S o

  single_fine : (Q : ℕ → Type 0) (a : Skeleton) (N : Term) → Fine Q N → (i : ℕ) → LiftedSet Q i → ImageIn Q (single a N i)
  single_fine Q a N n zero p = n
  single_fine Q a N n (suc i) p = p

  reduced_fine : (a : Skeleton) (Q : ℕ → Type 0) (N : Term) (S : Spine) → Fine Q N → FineSpine Q S → Fine Q (reduce a N S)
  reduced_fine (base c) Q N S p s = p
  reduced_fine (arrow a b) Q (root h T) S p s = p
  reduced_fine (arrow a b) Q (lambda M) nil p s = p
  reduced_fine (arrow a b) Q (lambda M) (app N S) p ((n, s), (i, j)) = reduced_fine b Q (substitute (λ c. reduce a) (single a N) M) S (substituted_fine (λ c. reduce a) (λ R c. reduced_fine a R) (LiftedSet Q) Q (single a N) (single_fine Q a N (n, i)) M p) (s, j)

-- a variable that doesn't occur brings nothing
unused_instance : (V : ℕ → Type 0) (B : LfType) (N : Term) (C : LfType) → FreeVariablesInType (OtherThan zero) C → MetavariablesInType V C → MetavariablesInType V (instantiate_type B N C)
unused_instance V B N C f i = (substituted_fine_type V reduce (λ R a. reduced_fine V a R) (OtherThan zero) (λ j. Unit {0}) (single (skeleton B) N) old C (f, i)).1
  where
    old : (j : ℕ) → OtherThan zero j → ImageIn V (λ k. Unit {0}) (single (skeleton B) N j)
    old zero o = (let q : true ≡ false = o in cc)
    old (suc j) o = tt

any_up : (i : ℕ) → Unit {0} → LiftedSet (λ k. Unit {0}) i
any_up zero u = tt
any_up (suc i) u = tt

mutual
  anything : (M : Term) → FreeVariablesIn (λ k. Unit {0}) M
  anything (lambda M) = FreeVariablesIn-weaker (λ k. Unit {0}) (LiftedSet (λ k. Unit {0})) any_up M (anything M)
  anything (root (constant c) S) = anything_spine S
  anything (root (metavariable m) S) = anything_spine S
  anything (root (variable i) S) = (tt, anything_spine S)

  anything_spine : (S : Spine) → FreeVariablesInSpine (λ k. Unit {0}) S
  anything_spine nil = tt
  anything_spine (app M S) = (anything M, anything_spine S)

-- under a binder, what doesn't mention the bound variable doesn't do so after a substitution
other_stays : (σ : ℕ → Image) (C : LfType) → FreeVariablesInType (OtherThan zero) C → FreeVariablesInType (OtherThan zero) (substitute_type reduce (lift σ) C)
other_stays σ C f = (substituted_fine_type (λ m. Unit {0}) reduce (λ R a. reduced_fine (λ m. Unit {0}) a R) (OtherThan zero) (OtherThan zero) (lift σ) old C (f, in_all_type (λ m. Unit {0}) (λ m. tt) C)).0
  where
    old : (j : ℕ) → OtherThan zero j → ImageIn (λ m. Unit {0}) (OtherThan zero) (lift σ j)
    old zero o = (let q : true ≡ false = o in cc)
    old (suc j) o = go (σ j)
      where
        go : (x : Image) → ImageIn (λ m. Unit {0}) (OtherThan zero) (rename_image suc x)
        go (keep k) = refl
        go (put a N) = (only_forth (λ k. Unit {0}) (OtherThan zero) suc (λ k u. refl) N (anything N), in_all (λ m. Unit {0}) (λ m. tt) (rename suc N))

-- A clause's quantifiers, after some values were put in: those that are holes still bind nothing.
abbrev pub SameShape : LfType → LfType → Type 0
SameShape (pi B C) (pi B' C') = (occurs_type zero C ≡ false → FreeVariablesInType (OtherThan zero) C') × SameShape C C'
SameShape (pi B C) (atom a S) = ⊥
SameShape (atom a S) (pi B C) = ⊥
SameShape (atom a S) (atom b T) = Unit {0}

pub own_shape : (A : LfType) → SameShape A A
own_shape (pi B C) = (not_occurring_type zero C, own_shape C)
own_shape (atom a S) = tt

pub shape_substituted : (A A' : LfType) (σ : ℕ → Image) → SameShape A A' → SameShape A (substitute_type reduce σ A')
shape_substituted (pi B C) (pi B' C') σ (f, s) = ((λ e. other_stays σ C' (f e)), shape_substituted C C' (lift σ) s)
shape_substituted (pi B C) (atom a S) σ s = s
shape_substituted (atom a S) (pi B C) σ s = s
shape_substituted (atom a S) (atom b T) σ s = tt

-- the variables of the clause, numbered from n, are in V
abbrev pub VariablesIn : (ℕ → Type 0) → ℕ → LfType → Type 0
VariablesIn V n (pi B C) = (occurs_type zero C ≡ true → V n) × VariablesIn V (suc n) C
VariablesIn V n (atom a S) = Unit {0}

pub record ClauseIn (V : ℕ → Type 0) (Ψ : ℕ → Option LfType) (T : Spine) : Type 0 where
  pub types : (m : ℕ) (X : LfType) → Ψ m ≡ Some X → MetavariablesInType V X
  pub indices : MetavariablesInSpine V T

some_is : {A B : LfType} → Some A ≡ Some B → A ≡ B
some_is e = cc

pub clause_in : (V : ℕ → Type 0) {D : List LfType} {Ψ : ℕ → Option LfType} {n : ℕ} {A : LfType} {Ψ' : ℕ → Option LfType} {n' : ℕ} {S : Spine} {a : ℕ} {T : Spine} → AppliesToNew D Ψ n A Ψ' n' S a T → (A₀ : LfType) → SameShape A₀ A → VariablesIn V n A₀ →
    ((m : ℕ) (X : LfType) → Ψ m ≡ Some X → MetavariablesInType V X) → MetavariablesInLocals V D → MetavariablesInType V A → ClauseIn V Ψ' T
clause_in V applied_to_all A₀ shape variables types d t = record { types = types; indices = t }
clause_in V (applied_to_next o) (atom a₀ S₀) shape variables types d t = absurd shape
clause_in V {D = D} (applied_to_next {Ψ = Ψ} {n = n} {B = B} {C = C} o) (pi B₀ C₀) (unused, shape) (used, variables) types d (b, c) =
    clause_in V o C₀ (shape_substituted C₀ C (single (skeleton B) (raised D B n)) shape) variables added d (go (true_or_false (occurs_type zero C₀)))
  where
    go : (occurs_type zero C₀ ≡ true) ⊎ (occurs_type zero C₀ ≡ false) → MetavariablesInType V (instantiate_type B (raised D B n) C)
    go (inl e) = in_instance V B (raised D B n) C (in_raised V D B n (used e)) c
    go (inr e) = unused_instance V B (raised D B n) C (unused e) c

    added : (m : ℕ) (X : LfType) → set_at n (Some (pi_over D B)) Ψ m ≡ Some X → MetavariablesInType V X
    added m X e = at (decide m n)
      where
        at : (m ≡ n) ⊎ (m ≡ n → ⊥) → MetavariablesInType V X
        at (inl q) = subst (MetavariablesInType V) (some_is (sym (set_here n (Some (pi_over D B)) Ψ) ∙ ap (set_at n (Some (pi_over D B)) Ψ) (sym q) ∙ e)) (in_pi_over V D B d b)
        at (inr q) = types m X (sym (set_other n (Some (pi_over D B)) Ψ m q) ∙ e)

-- Numbers among others, as a test.
abbrev pub is_among : List ℕ → ℕ → Bool
is_among [] m = false
is_among (n ∷ ns) m = either (same_number n m) (is_among ns m)

pub same_to : (x y : ℕ) → same_number x y ≡ true → x ≡ y
same_to zero zero e = refl
same_to zero (suc y) e = cc
same_to (suc x) zero e = cc
same_to (suc x) (suc y) e = ap suc (same_to x y e)

pub same_refl : (x : ℕ) → same_number x x ≡ true
same_refl zero = refl
same_refl (suc x) = same_refl x

pub one_or_other : (a b : Bool) → either a b ≡ true → (a ≡ true) ⊎ (b ≡ true)
one_or_other true b e = inl refl
one_or_other false b e = inr e

pub either_right : (a b : Bool) → b ≡ true → either a b ≡ true
either_right true b e = refl
either_right false b e = e

pub either_left : (a b : Bool) → a ≡ true → either a b ≡ true
either_left true b e = refl
either_left false b e = cc

pub both_false : (a b : Bool) → a ≡ false → b ≡ false → either a b ≡ false
both_false true b e f = cc
both_false false b e f = f

pub among_member : (ns : List ℕ) (m : ℕ) → is_among ns m ≡ true → Member m ns
among_member [] m e = cc
among_member (n ∷ ns) m e = go (one_or_other (same_number n m) (is_among ns m) e) (among_member ns m)
  where
    go : (same_number n m ≡ true) ⊎ (is_among ns m ≡ true) → (is_among ns m ≡ true → Member m ns) → Member m (n ∷ ns)
    go (inl q) h = inl (sym (same_to n m q))
    go (inr q) h = inr (h q)

pub member_among : (ns : List ℕ) (m : ℕ) → Member m ns → is_among ns m ≡ true
member_among [] m i = absurd i
member_among (n ∷ ns) m (inl e) = either_left (same_number n m) (is_among ns m) (ap (λ k. same_number k m) (sym e) ∙ same_refl m)
member_among (n ∷ ns) m (inr i) = either_right (same_number n m) (is_among ns m) (member_among ns m i)

pub not_member : (ns : List ℕ) (m : ℕ) → (Member m ns → ⊥) → is_among ns m ≡ false
not_member ns m h = go (true_or_false (is_among ns m))
  where
    go : (is_among ns m ≡ true) ⊎ (is_among ns m ≡ false) → is_among ns m ≡ false
    go (inl t) = absurd (h (among_member ns m t))
    go (inr f) = f

-- the holes of a clause
pub hole_at : (n : ℕ) (A : LfType) (m : ℕ) → Member m (holes n A) → n ≤ m
hole_at n (atom a S) m i = absurd i
hole_at n (pi B C) m i = go (occurs_type zero C) i (hole_at (suc n) C m)
  where
    go : (b : Bool) → Member m (unless b n (holes (suc n) C)) → (Member m (holes (suc n) C) → suc n ≤ m) → n ≤ m
    go true i h = (let q : suc n ≤ m = h i in omega arith)
    go false i h = at (among_parts m (holes (suc n) C) (n ∷ []) i)
      where
        at : Member m (holes (suc n) C) ⊎ Member m (n ∷ []) → n ≤ m
        at (inl j) = (let q : suc n ≤ m = h j in omega arith)
        at (inr (inl e)) = (let q : m ≡ n = e in omega arith)
        at (inr (inr j)) = absurd j

-- a variable of the clause is none of its holes
pub variables_not_holes : (V : ℕ → Type 0) (n : ℕ) (A : LfType) → ((m : ℕ) → n ≤ m → (Member m (holes n A) → ⊥) → V m) → VariablesIn V n A
variables_not_holes V n (atom a S) h = tt
variables_not_holes V n (pi B C) h = ((λ e. h n (omega arith) (here e)), variables_not_holes V (suc n) C rest)
  where
    here : occurs_type zero C ≡ true → Member n (holes n (pi B C)) → ⊥
    here e i = (let q : suc n ≤ n = hole_at (suc n) C n (subst (λ b. Member n (unless b n (holes (suc n) C))) e i) in omega arith)

    rest : (m : ℕ) → suc n ≤ m → (Member m (holes (suc n) C) → ⊥) → V m
    rest m l none = h m (omega arith) (λ i. go (occurs_type zero C) i)
      where
        go : (b : Bool) → Member m (unless b n (holes (suc n) C)) → ⊥
        go true i = none i
        go false i = at (among_parts m (holes (suc n) C) (n ∷ []) i)
          where
            at : Member m (holes (suc n) C) ⊎ Member m (n ∷ []) → ⊥
            at (inl j) = none j
            at (inr (inl e)) = (let q : m ≡ n = e in omega arith)
            at (inr (inr j)) = j
