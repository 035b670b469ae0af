-- Each permitted step keeps the typed unifiers; a refuted store has none.
use Rattle.std.proofs.Common.{◌≡◌, ℕ, zero, suc, List, [], ◌∷◌, Option, Some, refl, sym, ap, ◌∙◌, subst, arith}
use Rattle.lf.specs.Syntax.{Spine, Term, LfType, app, atom, constant, lambda, metavariable, nil, pi, rename, rename_spine, rename_type, root, variable, weaken, lift_renaming}
use Rattle.lf.specs.Typing.{IsSignature, Signature, TypeAt}
use Rattle.lf.specs.Variables.{onto}
use Rattle.lf_unification.specs.Filling.{fill}
use Rattle.lf_unification.specs.Inversion.{Allowed}
use Rattle.lf_unification.specs.Lists.{followed}
use Rattle.lf_unification.specs.Offering.{MetavariablesInLocals, pi_over}
use Rattle.lf_unification.specs.OpenTyping.{under_locals, Declares, IsInstance, OpenHasType, MetavariablesIn, MetavariablesInSpine, MetavariablesInType, skeletons_of}
use Rattle.lf_unification.specs.Patterns.{FreeVariablesIn, InImage, beyond, lambdas_of, pattern_renaming}
use Rattle.lf_unification.specs.PartialInstance.{IsFilling, IsTypedStore}
use Rattle.lf_unification.specs.Pruning.{PrunedType, kept_renaming, pruned_store}
use Rattle.lf_unification.specs.Putting.{PutsSome, binders}
use Rattle.lf_unification.specs.Rigid.{past_binders}
use Rattle.lf_unification.specs.Scope.{IsScoped}
use Rattle.lf_unification.specs.Solving.{Never}
use Rattle.lf_unification.specs.Steps.{IsRefuted, Step, bind, constant_or_variable, constants_differ, drop_equal, equal_heads, next_equation, occurs_inside, on_pattern, open_lambdas, prune_both, prune_inside, put_bindings, renew, store_at, variable_escapes, variables_differ}
use Rattle.lf_unification.specs.Unifiers.{Respects, KeepsUnifiers, Solution, Store, on_left}
use Rattle.lf_unification.proofs.Decompose.{keeps_unifiers_then}
use Rattle.lf_unification.proofs.EquationLemmas.{solves_first, solves_followed}
use Rattle.lf_unification.proofs.Exhaust.{in_at, in_pis}
use Rattle.lf_unification.proofs.Inverse.{FreeVariablesIn-weaker}
use Rattle.lf_unification.proofs.OpenSound.{PartialInstance-of}
use Rattle.lf_unification.proofs.Facing.{keeps_facing, solution_facing}
use Rattle.lf_unification.proofs.Putting.{some_same, typed_at}
use Rattle.lf_unification.proofs.Renew.{renew_step}
use Rattle.lf_unification.proofs.PruneType.{PrunesBy, prune_by}
use Rattle.lf_unification.proofs.RigidSteps.{lambda_step, parts_step, solves_rest}
use Rattle.lf_unification.proofs.Settle.{drop_step, drop_uses, inverted_step, never_step, occurs_step, same_uses}
use Rattle.lf_unification.proofs.StepLemmas.{clash_constant, clash_constant_variable, clash_variable, same_metavariables}
use Rattle.lf_unification.proofs.Unused.{unused_for}

-- a renamed term has no other metavariables
mutual
  pub in_renamed : (V : ℕ → Type 0) (ρ : ℕ → ℕ) (M : Term) → MetavariablesIn V (rename ρ M) → MetavariablesIn V M
  in_renamed V ρ (lambda M) i = in_renamed V (lift_renaming ρ) M i
  in_renamed V ρ (root (constant c) S) i = in_renamed_spine V ρ S i
  in_renamed V ρ (root (variable c) S) i = in_renamed_spine V ρ S i
  in_renamed V ρ (root (metavariable m) S) (v, i) = (v, in_renamed_spine V ρ S i)

  in_renamed_spine : (V : ℕ → Type 0) (ρ : ℕ → ℕ) (S : Spine) → MetavariablesInSpine V (rename_spine ρ S) → MetavariablesInSpine V S
  in_renamed_spine V ρ nil i = tt
  in_renamed_spine V ρ (app M S) (i, j) = (in_renamed V ρ M i, in_renamed_spine V ρ S j)

in_renamed_type : (V : ℕ → Type 0) (ρ : ℕ → ℕ) (A : LfType) → MetavariablesInType V (rename_type ρ A) → MetavariablesInType V A
in_renamed_type V ρ (pi A B) (i, j) = (in_renamed_type V ρ A i, in_renamed_type V (lift_renaming ρ) B j)
in_renamed_type V ρ (atom a S) i = in_renamed_spine V ρ S i

in_locals : (V : ℕ → Type 0) (D : List LfType) → ((i : ℕ) (X : LfType) → TypeAt (onto D []) i X → MetavariablesInType V X) → MetavariablesInLocals V D
in_locals V [] f = tt
in_locals V (A ∷ D) f = (in_locals V D (λ i X g. in_renamed_type V suc X (f (suc i) (weaken X) (X, g, refl))), in_renamed_type V suc A (f zero (weaken A) refl))

pub in_pi_over : (V : ℕ → Type 0) (D : List LfType) (P : LfType) → MetavariablesInLocals V D → MetavariablesInType V P → MetavariablesInType V (pi_over D P)
in_pi_over V [] P l i = i
in_pi_over V (A ∷ D) P (l, a) i = in_pi_over V D (pi A P) l (a, i)

-- the type of what is pruned mentions no more than the old type
pub in_pruned : (V : ℕ → Type 0) (Ψ : ℕ → Option LfType) (n d : ℕ) (p : PrunedType Ψ n d) → MetavariablesInType V (pi_over p.local (atom p.family p.indices)) → MetavariablesInType V (pi_over p.kept_local (atom p.family p.kept_indices))
in_pruned V Ψ n d p i =
    let ρ : ℕ → ℕ = kept_renaming (pi_over p.local (atom p.family p.indices)) (pi_over p.kept_local (atom p.family p.kept_indices)) p.kept in
    let w : MetavariablesInLocals V p.local × MetavariablesInType V (atom p.family p.indices) = in_pis V p.local (atom p.family p.indices) i in
    in_pi_over V p.kept_local (atom p.family p.kept_indices)
    (in_locals V p.kept_local (λ j X g. in_renamed_type V ρ X (in_at V p.local (ρ j) (rename_type ρ X) w.0 (p.part.types j X g))))
    (in_renamed_type V ρ (atom p.family p.kept_indices) (subst (MetavariablesInType V) p.same_target w.1))

module _ (Σ : Signature) (ok : IsSignature Σ) where
  prunes : (s : Store) (n d n' : ℕ) (p : PrunedType s.metavariables n d) → IsScoped s.metavariables n' s.bindings s.equations →
      ((F : List LfType) (β : ℕ → Option Term) → Solution Σ [] s F β → (B : Term) → β n ≡ Some (lambdas_of (skeletons_of s.metavariables n) B) → FreeVariablesIn (InImage (kept_renaming (pi_over p.local (atom p.family p.indices)) (pi_over p.kept_local (atom p.family p.kept_indices)) p.kept)) B) →
      KeepsUnifiers Σ [] s (pruned_store s n d p n')
  prunes s n d n' p scoped unused = (prune_by Σ ok [] s n n' p.local p.kept_local p.family p.indices p.kept_indices p.kept b).1
    where
      b : PrunesBy Σ [] s n n' p.local p.kept_local p.family p.indices p.kept_indices p.kept
      b = record {
        declared = p.declared;
        new = scoped.fresh n' (omega arith);
        types = scoped.types;
        outer = λ i B x. absurd x;
        new_type = in_pruned (Declares s.metavariables) s.metavariables n d p (scoped.types n (pi_over p.local (atom p.family p.indices)) p.declared);
        bindings = scoped.bindings;
        equations = scoped.equations;
        distinct = p.distinct;
        places = p.places;
        part = p.part;
        same_target = p.same_target;
        unused = unused_for Σ [] s n (pi_over p.local (atom p.family p.indices)) (InImage (kept_renaming (pi_over p.local (atom p.family p.indices)) (pi_over p.kept_local (atom p.family p.kept_indices)) p.kept)) p.declared unused;
      }

  -- THE theorem on the steps
  pub step_keeps_unifiers : {s s' : Store} → IsTypedStore Σ [] s → Step Σ s s' → KeepsUnifiers Σ [] s s'
  step_keeps_unifiers w (next_equation {Ψ = Ψ} {bs = bs} es e fs) = same_metavariables Σ [] Ψ bs bs (followed es (e ∷ fs)) (e ∷ followed es fs)
      (λ F β v u. (u.0, ((solves_rest (skeletons_of Ψ) β es (e ∷ fs) u.1).0, solves_followed (skeletons_of Ψ) β es fs (solves_first (skeletons_of Ψ) β es (e ∷ fs) u.1) (solves_rest (skeletons_of Ψ) β es (e ∷ fs) u.1).1)))
      (λ F β v u. (u.0, solves_followed (skeletons_of Ψ) β es (e ∷ fs) (solves_first (skeletons_of Ψ) β es fs u.1.1) (u.1.0, solves_rest (skeletons_of Ψ) β es fs u.1.1)))
  step_keeps_unifiers w (put_bindings {Ψ = Ψ} {bs = bs} {es = es} {D = D} {M = M} {M' = M'} {N = N} {N' = N'} {C = C} f g) =
      let U : (ℕ → Option Term) → Type 0 = IsFilling Σ [] (store_at on_left Ψ bs es D M N C) in
      let same : (X X' : Term) → OpenHasType Σ [] Ψ U D X C → PutsSome Ψ bs (binders D) X X' → (F : List LfType) (β : ℕ → Option Term) → IsInstance Σ [] Ψ F β → Respects (skeletons_of Ψ) β bs → fill (skeletons_of Ψ) (under_locals D β) X ≡ fill (skeletons_of Ψ) (under_locals D β) X' = λ X X' t d F β v r. some_same Σ ok [] Ψ U bs (typed_at Σ [] Ψ U bs w.bindings_typed) F β (PartialInstance-of Σ ok [] Ψ (λ m. ⊥) F β v) r D X X' C t d in
      same_metavariables Σ [] Ψ bs bs (record { local = D; left = M; right = N; of_type = C } ∷ es) (record { local = D; left = M'; right = N'; of_type = C } ∷ es)
      (λ F β v u. (u.0, (sym (same M M' w.equations_typed.0.left_typed f F β v u.0) ∙ u.1.0 ∙ same N N' w.equations_typed.0.right_typed g F β v u.0, u.1.1)))
      (λ F β v u. (u.0, (same M M' w.equations_typed.0.left_typed f F β v u.0 ∙ u.1.0 ∙ sym (same N N' w.equations_typed.0.right_typed g F β v u.0), u.1.1)))
  step_keeps_unifiers w (drop_equal {Ψ = Ψ} {bs = bs} {es = es} {D = D} {M = M} {C = C}) = drop_step Σ ok [] Ψ bs es D M M C (λ β u. refl)
  step_keeps_unifiers w (open_lambdas {Ψ = Ψ} {bs = bs} {es = es} {D = D} {M = M} {N = N} {A = A} {B = B}) = lambda_step Σ ok [] Ψ bs es D A B M N
  step_keeps_unifiers w (equal_heads {Ψ = Ψ} {bs = bs} {es = es} {D = D} {S = S} {T = T} {I = I} {a = a} h A r t) = parts_step Σ ok [] Ψ bs es D h r A t S T a I w
  step_keeps_unifiers w (bind {Ψ = Ψ} {bs = bs} {es = es} {A = A} side D m xs N C d x p b) =
      keeps_unifiers_then Σ [] (store_at side Ψ bs es D (on_pattern Ψ m xs) N C) (store_at on_left Ψ bs es D (on_pattern Ψ m xs) N C) (record { metavariables = Ψ; bindings = record { of = m; value = lambdas_of (skeletons_of Ψ m) b.inverted.inversion } ∷ bs; equations = es })
      (keeps_facing D (on_pattern Ψ m xs) N C Σ ok [] Ψ bs es side) (inverted_step Σ ok [] Ψ bs es D m A d xs p N C b.inverted)
  step_keeps_unifiers w (prune_inside {Ψ = Ψ} {bs = bs} {es = es} {A = A} side D m xs N C d p c x n scoped) =
      prunes (store_at side Ψ bs es D (on_pattern Ψ m xs) N C) c.drop.m c.dropped n c.pruned scoped
      (λ F β u B e. FreeVariablesIn-weaker (λ i. Allowed D (skeletons_of Ψ m) xs c.drop.depth (pattern_renaming (skeletons_of Ψ c.drop.m) c.drop.ys (λ j. past_binders c.drop.depth (beyond D j)) i))
      (InImage (kept_renaming (pi_over c.pruned.local (atom c.pruned.family c.pruned.indices)) (pi_over c.pruned.kept_local (atom c.pruned.family c.pruned.kept_indices)) c.pruned.kept))
      (λ i a. c.pruned.others_stay i (λ q. c.drop.is_bad (subst (Allowed D (skeletons_of Ψ m) xs c.drop.depth) (ap (pattern_renaming (skeletons_of Ψ c.drop.m) c.drop.ys (λ j. past_binders c.drop.depth (beyond D j))) q ∙ c.is_place) a))) B
      (drop_uses Σ ok [] Ψ bs es D m A d xs p N C c.drop (pi_over c.pruned.local (atom c.pruned.family c.pruned.indices)) c.pruned.declared F β (solution_facing D (on_pattern Ψ m xs) N C Σ ok [] Ψ bs es side F β u) B e))
  step_keeps_unifiers w (prune_both {Ψ = Ψ} {bs = bs} {es = es} {A = A} side D m xs N C d p c x n scoped) =
      prunes (store_at side Ψ bs es D (on_pattern Ψ m xs) N C) m c.dropped n c.pruned scoped
      (λ F β u B e. FreeVariablesIn-weaker (λ i. pattern_renaming (skeletons_of Ψ m) xs (beyond D) i ≡ pattern_renaming (skeletons_of Ψ m) c.same.ys (beyond D) i)
      (InImage (kept_renaming (pi_over c.pruned.local (atom c.pruned.family c.pruned.indices)) (pi_over c.pruned.kept_local (atom c.pruned.family c.pruned.kept_indices)) c.pruned.kept))
      (λ i a. c.pruned.others_stay i (λ q. c.differ (sym (ap (pattern_renaming (skeletons_of Ψ m) xs (beyond D)) q) ∙ a ∙ ap (pattern_renaming (skeletons_of Ψ m) c.same.ys (beyond D)) q))) B
      (same_uses Σ ok [] Ψ bs es D m A d xs p N C c.same F β (solution_facing D (on_pattern Ψ m xs) N C Σ ok [] Ψ bs es side F β u) B e))
  step_keeps_unifiers w (renew {Ψ = Ψ} {bs = bs} {es = es} m A A' d u b p n scoped) = renew_step Σ ok (record { metavariables = Ψ; bindings = bs; equations = es }) m n A A' d p scoped w

  -- what is refuted has no typed unifier
  pub refuted_never : {s : Store} → IsRefuted s → Never Σ [] s
  refuted_never (constants_differ {Ψ = Ψ} {D = D} {S = S} {T = T} {C = C} {c = c} {d = d} n) F β u = clash_constant (skeletons_of Ψ) β D C c d S T n u.1.1.0
  refuted_never (variables_differ {Ψ = Ψ} {D = D} {S = S} {T = T} {C = C} {i = i} {j = j} n) F β u = clash_variable (skeletons_of Ψ) β D C i j S T n u.1.1.0
  refuted_never (constant_or_variable {Ψ = Ψ} {bs = bs} {es = es} side D c i S T C) F β u = clash_constant_variable (skeletons_of Ψ) β D C c i S T (solution_facing D (root (constant c) S) (root (variable i) T) C Σ ok [] Ψ bs es side F β u).1.1.0
  refuted_never (variable_escapes {Ψ = Ψ} {bs = bs} {es = es} {A = A} side D m xs N C d p n) F β u = never_step Σ ok [] Ψ bs es D m A d xs p N C n F β (solution_facing D (on_pattern Ψ m xs) N C Σ ok [] Ψ bs es side F β u)
  refuted_never (occurs_inside {Ψ = Ψ} {bs = bs} {es = es} {A = A} side D m xs N C d p l o) F β u = occurs_step Σ ok [] Ψ bs es D m A d xs p N C o l F β (solution_facing D (on_pattern Ψ m xs) N C Σ ok [] Ψ bs es side F β u)
