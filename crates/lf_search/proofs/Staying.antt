-- What a store mentions: a set that holds all of it, and what a step adds, holds all that is mentioned then.
use Rattle.std.proofs.Common.{◌≡◌, ℕ, List, [], ◌∷◌, Option, Some, None, ◌⊎◌, inl, inr, refl, sym, ap, ◌∙◌, subst, arith}
use Rattle.lf.specs.Eta.{eta_long}
use Rattle.lf.specs.Subordination.{Member}
use Rattle.lf.specs.Syntax.{Head, LfType, Spine, Term, app, atom, constant, lambda, metavariable, nil, pi, root, skeleton, variable}
use Rattle.lf.specs.Typing.{IsSignature, Signature, instantiate_type}
use Rattle.lf_unification.specs.Lists.{followed}
use Rattle.lf_unification.specs.Offering.{MetavariablesInLocals, argument_equations, pi_over}
use Rattle.lf_unification.specs.OpenTyping.{Declares, MetavariablesIn, MetavariablesInSpine, MetavariablesInType, OpenHeadHasType, set_at, skeletons_of}
use Rattle.lf_unification.specs.Patterns.{beyond, lambdas_of, pattern, pattern_renaming}
use Rattle.lf_unification.specs.Pruning.{PrunedType, pruned_store, pruned_type}
use Rattle.lf_unification.specs.Putting.{IsRigidHead}
use Rattle.lf_unification.specs.Scope.{MetavariablesInEquationTypes, MetavariablesInEquations}
use Rattle.lf_unification.specs.Steps.{Run, Step, bind, drop_equal, equal_heads, next_equation, no_step, on_pattern, open_lambdas, prune_both, prune_inside, put_bindings, renew, store_at, then_run}
use Rattle.lf_unification.specs.Unifiers.{Binding, Equation, Side, Store, equation_on, on_left, on_right}
use Rattle.lf_unification.proofs.Agree.{set_here}
use Rattle.lf_unification.proofs.BindTyped.{in_pattern}
use Rattle.lf_unification.proofs.BindingKeeps.{in_lambdas}
use Rattle.lf_unification.proofs.Exhaust.{among_left, among_right, in_at}
use Rattle.lf_unification.proofs.Offer.{decide, set_other}
use Rattle.lf_unification.proofs.Putting.{put_type_within, some_within}
use Rattle.lf_unification.proofs.Scope.{in_expand, in_instance, in_typed_type}
use Rattle.lf_unification.proofs.Steps.{in_pruned, in_renamed}

-- all that the equation mentions is in V
pub record EquationIn (V : ℕ → Type 0) (e : Equation) : Type 0 where
  pub locals : MetavariablesInLocals V e.local
  pub left : MetavariablesIn V e.left
  pub right : MetavariablesIn V e.right
  pub of_type : MetavariablesInType V e.of_type

-- All that types, equations, and the values of V mention is in V.
pub record StoreIn (V : ℕ → Type 0) (s : Store) : Type 0 where
  pub types : (m : ℕ) (A : LfType) → s.metavariables m ≡ Some A → MetavariablesInType V A
  pub values : (b : Binding) → Member b s.bindings → V b.of → MetavariablesIn V b.value
  pub equations : (e : Equation) → Member e s.equations → EquationIn V e

-- what is new is in V
abbrev pub NewIn : (ℕ → Type 0) → Store → Store → Type 0
NewIn V s s' = (m : ℕ) → s.metavariables m ≡ None → Declares s'.metavariables m → V m

pub among_parts : {A : Type 0} (x : A) (xs ys : List A) → Member x (followed xs ys) → Member x xs ⊎ Member x ys
among_parts x [] ys i = inr i
among_parts x (z ∷ xs) ys (inl e) = inl (inl e)
among_parts x (z ∷ xs) ys (inr i) = go (among_parts x xs ys i)
  where
    go : Member x xs ⊎ Member x ys → Member x (z ∷ xs) ⊎ Member x ys
    go (inl j) = inl (inr j)
    go (inr j) = inr j

pub equations_in : (V : ℕ → Type 0) (es : List Equation) → ((e : Equation) → Member e es → EquationIn V e) → MetavariablesInEquations V es
equations_in V [] h = tt
equations_in V (e ∷ es) h = ((h e (inl refl)).left, (h e (inl refl)).right, equations_in V es (λ d i. h d (inr i)))

pub equation_types_in : (V : ℕ → Type 0) (es : List Equation) → ((e : Equation) → Member e es → EquationIn V e) → MetavariablesInEquationTypes V es
equation_types_in V [] h = tt
equation_types_in V (e ∷ es) h = ((h e (inl refl)).locals, (h e (inl refl)).of_type, equation_types_in V es (λ d i. h d (inr i)))

pub equations_of : (V : ℕ → Type 0) (es : List Equation) → MetavariablesInEquations V es → MetavariablesInEquationTypes V es → (e : Equation) → Member e es → EquationIn V e
equations_of V [] i t e j = absurd j
equations_of V (d ∷ es) i t e (inl q) = subst (EquationIn V) (sym q) (record { locals = t.0; left = i.0; right = i.1; of_type = t.1 })
equations_of V (d ∷ es) i t e (inr j) = equations_of V es i.2 t.2 e j

none_is : {A : LfType} → None ≡ Some A → ⊥
none_is e = cc

some_is : {A B : LfType} → Some A ≡ Some B → A ≡ B
some_is e = cc

root_spine : (V : ℕ → Type 0) (h : Head) (S : Spine) → MetavariablesIn V (root h S) → MetavariablesInSpine V S
root_spine V (constant c) S i = i
root_spine V (variable c) S i = i
root_spine V (metavariable m) S i = i.1

module _ (Σ : Signature) (ok : IsSignature Σ) (V : ℕ → Type 0) where
  -- the equations of arguments
  arguments_in : (D : List LfType) → MetavariablesInLocals V D → (A : LfType) (S T : Spine) → MetavariablesInType V A → MetavariablesInSpine V S → MetavariablesInSpine V T → (e : Equation) → Member e (argument_equations D A S T) → EquationIn V e
  arguments_in D d (pi A B) (app M S) (app N T) (a, b) (m, s) (n, t) e (inl q) = subst (EquationIn V) (sym q) (record { locals = d; left = m; right = n; of_type = a })
  arguments_in D d (pi A B) (app M S) (app N T) (a, b) (m, s) (n, t) e (inr j) = arguments_in D d (instantiate_type A M B) S T (in_instance V A M B m b) s t e j
  arguments_in D d (pi A B) (app M S) nil a s t e j = absurd j
  arguments_in D d (pi A B) nil T a s t e j = absurd j
  arguments_in D d (atom a U) S T i s t e j = absurd j

  head_type_in : (Ψ : ℕ → Option LfType) (D : List LfType) (h : Head) (A : LfType) → IsRigidHead h → OpenHeadHasType Σ [] Ψ (λ β. Unit {0}) D h A → MetavariablesInLocals V D → MetavariablesInType V A
  head_type_in Ψ D (constant c) A r e d = in_typed_type V Σ [] A (ok.types_ok c A e)
  head_type_in Ψ D (variable i) A r e d = in_at V D i A d e
  head_type_in Ψ D (metavariable m) A r e d = absurd r

  -- one more metavariable, of a type in V
  type_added : (Ψ : ℕ → Option LfType) (n : ℕ) (X : LfType) → ((m : ℕ) (A : LfType) → Ψ m ≡ Some A → MetavariablesInType V A) → MetavariablesInType V X → (m : ℕ) (A : LfType) → set_at n (Some X) Ψ m ≡ Some A → MetavariablesInType V A
  type_added Ψ n X h x m A e = go (decide m n)
    where
      go : (m ≡ n) ⊎ (m ≡ n → ⊥) → MetavariablesInType V A
      go (inl q) = subst (MetavariablesInType V) (some_is (sym (set_here n (Some X) Ψ) ∙ ap (set_at n (Some X) Ψ) (sym q) ∙ e)) x
      go (inr q) = h m A (sym (set_other n (Some X) Ψ m q) ∙ e)

  value_added : (bs : List Binding) (k : ℕ) (N : Term) → ((b : Binding) → Member b bs → V b.of → MetavariablesIn V b.value) → MetavariablesIn V N → (b : Binding) → Member b (record { of = k; value = N } ∷ bs) → V b.of → MetavariablesIn V b.value
  value_added bs k N h n b (inl q) v = subst (λ (c : Binding). MetavariablesIn V c.value) (sym q) n
  value_added bs k N h n b (inr i) v = h b i v

  other_side : (side : Side) (D : List LfType) (M N : Term) (C : LfType) → EquationIn V (equation_on side D M N C) → MetavariablesIn V N
  other_side on_left D M N C i = i.right
  other_side on_right D M N C i = i.left

  new_in : (Ψ : ℕ → Option LfType) (n : ℕ) (X : LfType) → Ψ n ≡ None → ((m : ℕ) → Ψ m ≡ None → Declares (set_at n (Some X) Ψ) m → V m) → V n
  new_in Ψ n X e h = h n e (X, set_here n (Some X) Ψ)

  pruned_in : (s : Store) (k d n : ℕ) (p : PrunedType s.metavariables k d) → StoreIn V s → V n → StoreIn V (pruned_store s k d p n)
  pruned_in s k d n p w v = record {
    types = type_added s.metavariables n (pruned_type p) w.types (in_pruned V s.metavariables k d p (w.types k (pi_over p.local (atom p.family p.indices)) p.declared));
    values = value_added s.bindings k (lambdas_of (skeleton (pi_over p.local (atom p.family p.indices))) (root (metavariable n) (pattern (skeleton (pruned_type p)) p.kept))) w.values
        (in_lambdas V (skeleton (pi_over p.local (atom p.family p.indices))) (root (metavariable n) (pattern (skeleton (pruned_type p)) p.kept)) (v, in_pattern V (skeleton (pruned_type p)) p.kept));
    equations = w.equations;
  }

  -- THE lemma
  pub step_in : {s s' : Store} → Step Σ s s' → NewIn V s s' → StoreIn V s → StoreIn V s'
  step_in (next_equation es e fs) new w = record { types = w.types; values = w.values; equations = moved }
    where
      moved : (d : Equation) → Member d (e ∷ followed es fs) → EquationIn V d
      moved d (inl q) = w.equations d (among_right d es (e ∷ fs) (inl q))
      moved d (inr i) = go (among_parts d es fs i)
        where
          go : Member d es ⊎ Member d fs → EquationIn V d
          go (inl j) = w.equations d (among_left d es (e ∷ fs) j)
          go (inr j) = w.equations d (among_right d es (e ∷ fs) (inr j))
  step_in (put_bindings {es = es} {D = D} {M = M} {M' = M'} {N = N} {N' = N'} {C = C} p q) new w = record { types = w.types; values = w.values; equations = put }
    where
      put : (d : Equation) → Member d (equation_on on_left D M' N' C ∷ es) → EquationIn V d
      put d (inl e) = let first : EquationIn V (equation_on on_left D M N C) = w.equations (equation_on on_left D M N C) (inl refl) in
          subst (EquationIn V) (sym e) (record { locals = first.locals; left = some_within p V w.values first.left; right = some_within q V w.values first.right; of_type = first.of_type })
      put d (inr i) = w.equations d (inr i)
  step_in drop_equal new w = record { types = w.types; values = w.values; equations = λ d i. w.equations d (inr i) }
  step_in (open_lambdas {es = es} {D = D} {M = M} {N = N} {A = A} {B = B}) new w = record { types = w.types; values = w.values; equations = opened }
    where
      opened : (d : Equation) → Member d (equation_on on_left (A ∷ D) M N B ∷ es) → EquationIn V d
      opened d (inl e) = let first : EquationIn V (equation_on on_left D (lambda M) (lambda N) (pi A B)) = w.equations (equation_on on_left D (lambda M) (lambda N) (pi A B)) (inl refl) in
          subst (EquationIn V) (sym e) (record { locals = (first.locals, first.of_type.0); left = first.left; right = first.right; of_type = first.of_type.1 })
      opened d (inr i) = w.equations d (inr i)
  step_in (equal_heads {Ψ = Ψ} {es = es} {D = D} {S = S} {T = T} {I = I} {a = a} h A r t) new w = record { types = w.types; values = w.values; equations = parts }
    where
      parts : (d : Equation) → Member d (followed (argument_equations D A S T) es) → EquationIn V d
      parts d i = go (among_parts d (argument_equations D A S T) es i)
        where
          go : Member d (argument_equations D A S T) ⊎ Member d es → EquationIn V d
          go (inl j) = let first : EquationIn V (equation_on on_left D (root h S) (root h T) (atom a I)) = w.equations (equation_on on_left D (root h S) (root h T) (atom a I)) (inl refl) in
              arguments_in D first.locals A S T (head_type_in Ψ D h A r t first.locals) (root_spine V h S first.left) (root_spine V h T first.right) d j
          go (inr j) = w.equations d (inr j)
  step_in (bind {Ψ = Ψ} {bs = bs} {es = es} side D m xs N C e u p b) new w = record {
    types = w.types;
    values = value_added bs m (lambdas_of (skeletons_of Ψ m) b.inverted.inversion) w.values
        (in_lambdas V (skeletons_of Ψ m) b.inverted.inversion (in_renamed V (pattern_renaming (skeletons_of Ψ m) xs (beyond D)) b.inverted.inversion
        (subst (MetavariablesIn V) (sym b.inverted.is) (other_side side D (on_pattern Ψ m xs) N C (w.equations (equation_on side D (on_pattern Ψ m xs) N C) (inl refl))))));
    equations = λ d i. w.equations d (inr i);
  }
  step_in (prune_inside {Ψ = Ψ} {bs = bs} {es = es} side D m xs N C e k p u n c) new w =
      pruned_in (store_at side Ψ bs es D (on_pattern Ψ m xs) N C) p.drop.m p.dropped n p.pruned w (new_in Ψ n (pruned_type p.pruned) (c.fresh n (omega arith)) new)
  step_in (prune_both {Ψ = Ψ} {bs = bs} {es = es} side D m xs N C e k p u n c) new w =
      pruned_in (store_at side Ψ bs es D (on_pattern Ψ m xs) N C) m p.dropped n p.pruned w (new_in Ψ n (pruned_type p.pruned) (c.fresh n (omega arith)) new)
  step_in (renew {Ψ = Ψ} {bs = bs} m A A' e u t p n c) new w = record {
    types = type_added Ψ n A' w.types (put_type_within p V w.values (w.types m A e));
    values = value_added bs m (eta_long (skeleton A) (metavariable n)) w.values (in_expand V (skeleton A) (metavariable n) nil (new_in Ψ n A' (c.fresh n (omega arith)) new) tt);
    equations = w.equations;
  }

-- what a step adds is new
fresh_stays : (Ψ : ℕ → Option LfType) (n : ℕ) (X : LfType) → Ψ n ≡ None → (m : ℕ) (A : LfType) → Ψ m ≡ Some A → set_at n (Some X) Ψ m ≡ Some A
fresh_stays Ψ n X f m A e = set_other n (Some X) Ψ m (λ q. none_is (sym f ∙ ap Ψ (sym q) ∙ e)) ∙ e

module _ {Σ : Signature} where
  pub step_grows : {s s' : Store} → Step Σ s s' → (m : ℕ) (A : LfType) → s.metavariables m ≡ Some A → s'.metavariables m ≡ Some A
  step_grows (next_equation es d fs) m A e = e
  step_grows (put_bindings p q) m A e = e
  step_grows drop_equal m A e = e
  step_grows open_lambdas m A e = e
  step_grows (equal_heads h X r t) m A e = e
  step_grows (bind side D k xs N C d u p b) m A e = e
  step_grows (prune_inside {Ψ = Ψ} side D k xs N C d i p u n c) m A e = fresh_stays Ψ n (pruned_type p.pruned) (c.fresh n (omega arith)) m A e
  step_grows (prune_both {Ψ = Ψ} side D k xs N C d i p u n c) m A e = fresh_stays Ψ n (pruned_type p.pruned) (c.fresh n (omega arith)) m A e
  step_grows (renew {Ψ = Ψ} k X X' d u t p n c) m A e = fresh_stays Ψ n X' (c.fresh n (omega arith)) m A e

  pub run_grows : {s s' : Store} → Run Σ s s' → (m : ℕ) (A : LfType) → s.metavariables m ≡ Some A → s'.metavariables m ≡ Some A
  run_grows no_step m A e = e
  run_grows (then_run p r) m A e = run_grows r m A (step_grows p m A e)

pub run_in : (Σ : Signature) (ok : IsSignature Σ) (V : ℕ → Type 0) {s s' : Store} → Run Σ s s' → NewIn V s s' → StoreIn V s → StoreIn V s'
run_in Σ ok V no_step new w = w
run_in Σ ok V (then_run {s = s} {s' = t} {s'' = u} p r) new w = run_in Σ ok V r later (step_in Σ ok V p first w)
  where
    first : NewIn V s t
    first m e d = new m e (d.0, run_grows r m d.0 d.1)

    later : NewIn V t u
    later m e d = go (s.metavariables m) refl
      where
        go : (x : Option LfType) → s.metavariables m ≡ x → V m
        go None q = new m q d
        go (Some A) q = absurd (none_is (sym e ∙ step_grows p m A q))
