-- No equation is turned: each one that a run leaves comes from one that it was given, the left side from the left one.
use Rattle.std.proofs.Common.{◌≡◌, ℕ, List, [], ◌∷◌, Option, Some, ◌⊎◌, inl, inr, refl, sym, ap, ◌∙◌, subst}
use Rattle.lf.specs.Rules.{Reduces}
use Rattle.lf.specs.Subordination.{Member}
use Rattle.lf.specs.Syntax.{LfType, Spine, Term, atom, lambda, pi, rename, root}
use Rattle.lf.specs.Typing.{IsSignature, Signature}
use Rattle.lf_unification.specs.Lists.{followed}
use Rattle.lf_unification.specs.Offering.{argument_equations}
use Rattle.lf_unification.specs.OpenTyping.{skeletons_of}
use Rattle.lf_unification.specs.Origins.{ComesFrom, as_it_came, at_arguments, under_lambdas, with_bindings}
use Rattle.lf_unification.specs.PartialInstance.{IsFilling}
use Rattle.lf_unification.specs.Putting.{PutsSome, PutsSomeSpine, put_nothing, some_at_bound, some_in_argument, some_in_arguments, some_nowhere, some_under_lambda}
use Rattle.lf_unification.specs.Rigid.{past_binders}
use Rattle.lf_unification.specs.Skeletons.{skeleton_or_default}
use Rattle.lf_unification.specs.Solving.{IsWellFormed}
use Rattle.lf_unification.specs.Steps.{Run, Step, bind, drop_equal, equal_heads, next_equation, no_step, open_lambdas, prune_both, prune_inside, put_bindings, renew, then_run}
use Rattle.lf_unification.specs.Unifiers.{Binding, Equation, Store}
use Rattle.lf_unification.proofs.Putting.{typed_at}
use Rattle.lf_unification.proofs.Runs.{run_keeps_unifiers, step_form}

-- what is put in stays so under more bindings
module _ (Ψ Ψ' : ℕ → Option LfType) (bs bs' : List Binding) (more : (b : Binding) → Member b bs → Member b bs') (same : (b : Binding) → Member b bs → skeletons_of Ψ b.of ≡ skeletons_of Ψ' b.of) where
  mutual
    puts_grow : {k : ℕ} {M M' : Term} → PutsSome Ψ bs k M M' → PutsSome Ψ' bs' k M M'
    puts_grow put_nothing = put_nothing
    puts_grow (some_under_lambda d) = some_under_lambda (puts_grow d)
    puts_grow (some_in_arguments h d) = some_in_arguments h (puts_grow_spine d)
    puts_grow {k = k} (some_at_bound {S' = S'} {R = R} b i d r e) = some_at_bound b (more b i) (puts_grow_spine d) (subst (λ a. Reduces a (rename (past_binders k) b.value) S' R) (same b i) r) (puts_grow e)

    puts_grow_spine : {k : ℕ} {S S' : Spine} → PutsSomeSpine Ψ bs k S S' → PutsSomeSpine Ψ' bs' k S S'
    puts_grow_spine some_nowhere = some_nowhere
    puts_grow_spine (some_in_argument d e) = some_in_argument (puts_grow d) (puts_grow_spine e)

  comes_grow : {d e : Equation} → ComesFrom Ψ bs d e → ComesFrom Ψ' bs' d e
  comes_grow as_it_came = as_it_came
  comes_grow (with_bindings f g c) = with_bindings (puts_grow f) (puts_grow g) (comes_grow c)
  comes_grow (under_lambdas c) = under_lambdas (comes_grow c)
  comes_grow (at_arguments h A r i c) = at_arguments h A r i (comes_grow c)

comes_then : {Ψ : ℕ → Option LfType} {bs : List Binding} {c d e : Equation} → ComesFrom Ψ bs c d → ComesFrom Ψ bs d e → ComesFrom Ψ bs c e
comes_then as_it_came q = q
comes_then (with_bindings f g p) q = with_bindings f g (comes_then p q)
comes_then (under_lambdas p) q = under_lambdas (comes_then p q)
comes_then (at_arguments h A r i p) q = at_arguments h A r i (comes_then p q)

-- members of two lists
member_split : (e : Equation) (es fs : List Equation) → Member e (followed es fs) → Member e es ⊎ Member e fs
member_split e [] fs i = inr i
member_split e (x ∷ es) fs (inl q) = inl (inl q)
member_split e (x ∷ es) fs (inr i) = go (member_split e es fs i)
  where
    go : Member e es ⊎ Member e fs → Member e (x ∷ es) ⊎ Member e fs
    go (inl j) = inl (inr j)
    go (inr j) = inr j

member_first : (e : Equation) (es fs : List Equation) → Member e es → Member e (followed es fs)
member_first e [] fs i = absurd i
member_first e (x ∷ es) fs (inl q) = inl q
member_first e (x ∷ es) fs (inr i) = inr (member_first e es fs i)

member_last : (e : Equation) (es fs : List Equation) → Member e fs → Member e (followed es fs)
member_last e [] fs i = i
member_last e (x ∷ es) fs i = inr (member_last e es fs i)

-- where an equation of the store s' comes from
abbrev Origin : Store → Store → Equation → Type 0
Origin s s' e = (given : Equation) × Member given s.equations × ComesFrom s'.metavariables s'.bindings given e

step_origin : {Σ : Signature} {s s' : Store} → Step Σ s s' → (e : Equation) → Member e s'.equations → Origin s s' e
step_origin (next_equation es d fs) e (inl q) = (e, member_last e es (d ∷ fs) (inl q), as_it_came)
step_origin (next_equation es d fs) e (inr i) = (e, go (member_split e es fs i), as_it_came)
  where
    go : Member e es ⊎ Member e fs → Member e (followed es (d ∷ fs))
    go (inl j) = member_first e es (d ∷ fs) j
    go (inr j) = member_last e es (d ∷ fs) (inr j)
step_origin (put_bindings {Ψ = Ψ} {bs = bs} {D = D} {M = M} {N = N} {C = C} f g) e (inl q) = (record { local = D; left = M; right = N; of_type = C }, inl refl, subst (ComesFrom Ψ bs (record { local = D; left = M; right = N; of_type = C })) (sym q) (with_bindings f g as_it_came))
step_origin (put_bindings f g) e (inr i) = (e, inr i, as_it_came)
step_origin drop_equal e i = (e, inr i, as_it_came)
step_origin (open_lambdas {Ψ = Ψ} {bs = bs} {D = D} {M = M} {N = N} {A = A} {B = B}) e (inl q) =
    let given : Equation = record { local = D; left = lambda M; right = lambda N; of_type = pi A B } in
    (given, inl refl, subst (ComesFrom Ψ bs given) (sym q) (under_lambdas as_it_came))
step_origin open_lambdas e (inr i) = (e, inr i, as_it_came)
step_origin (equal_heads {Ψ = Ψ} {bs = bs} {es = es} {D = D} {S = S} {T = T} {I = I} {a = a} h A r t) e i = go (member_split e (argument_equations D A S T) es i)
  where
    go : Member e (argument_equations D A S T) ⊎ Member e es → (d : Equation) × Member d (record { local = D; left = root h S; right = root h T; of_type = atom a I } ∷ es) × ComesFrom Ψ bs d e
    go (inl j) = (record { local = D; left = root h S; right = root h T; of_type = atom a I }, inl refl, at_arguments h A r j as_it_came)
    go (inr j) = (e, inr j, as_it_came)
step_origin (bind side D m xs N C d u p b) e i = (e, inr i, as_it_came)
step_origin (prune_inside side D m xs N C d p c u n x) e i = (e, i, as_it_came)
step_origin (prune_both side D m xs N C d p c u n x) e i = (e, i, as_it_came)
step_origin (renew m A A' d u b p n x) e i = (e, i, as_it_came)

-- bindings stay
step_bindings : {Σ : Signature} {s s' : Store} → Step Σ s s' → (b : Binding) → Member b s.bindings → Member b s'.bindings
step_bindings (next_equation es d fs) b i = i
step_bindings (put_bindings f g) b i = i
step_bindings drop_equal b i = i
step_bindings open_lambdas b i = i
step_bindings (equal_heads h A r t) b i = i
step_bindings (bind side D m xs N C d u p c) b i = inr i
step_bindings (prune_inside side D m xs N C d p c u n x) b i = inr i
step_bindings (prune_both side D m xs N C d p c u n x) b i = inr i
step_bindings (renew m A A' d u c p n x) b i = inr i

run_bindings : {Σ : Signature} {s s' : Store} → Run Σ s s' → (b : Binding) → Member b s.bindings → Member b s'.bindings
run_bindings no_step b i = i
run_bindings (then_run p r) b i = run_bindings r b (step_bindings p b i)

-- THE theorem
pub run_origin : (Σ : Signature) (ok : IsSignature Σ) {s s' : Store} → IsWellFormed Σ s → Run Σ s s' → (e : Equation) → Member e s'.equations → Origin s s' e
run_origin Σ ok w no_step e i = (e, i, as_it_came)
run_origin Σ ok w (then_run {s = s} {s' = s'} {s'' = s''} p r) e i =
    let w' : IsWellFormed Σ s' = step_form Σ ok w p in
    let (d, j, c) = run_origin Σ ok w' r e i in
    let (given, k, q) = step_origin p d j in
    (given, k, comes_then (comes_grow s'.metavariables s''.metavariables s'.bindings s''.bindings (run_bindings r) (same s' s'' w' (run_keeps_unifiers Σ ok w' r).grows) q) c)
  where
    same : (s s' : Store) → IsWellFormed Σ s → ((m : ℕ) (A : LfType) → s.metavariables m ≡ Some A → s'.metavariables m ≡ Some A) → (b : Binding) → Member b s.bindings → skeletons_of s.metavariables b.of ≡ skeletons_of s'.metavariables b.of
    same s s' w f b i = let (B, e, t) = typed_at Σ [] s.metavariables (IsFilling Σ [] s) s.bindings w.typed.bindings_typed b i in ap skeleton_or_default (e ∙ sym (f b.of B e))
