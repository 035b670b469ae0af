-- Of what is written in full nothing deep is reached but in elaboration, in its equations, in the open body, or in what is completed: no metavariable is made of it.
use Rattle.std.proofs.Common.{◌≡◌, ℕ, ◌<◌, zero, List, [], ◌∷◌, length, map, Option, None, Some, ◌⊎◌, inl, inr, refl, sym, ap, ◌∙◌, subst}
use Rattle.std.specs.Prelude.{slice_get}
use Rattle.std.specs.Option.{option_map}
use Rattle.lf.specs.Depth.{depth_limit}
use Rattle.lf.specs.Entries.{Body, Entry, signature_of}
use Rattle.lf.specs.Subordination.{Member}
use Rattle.lf.specs.Syntax.{LfType, Skeleton, Term}
use Rattle.lf.specs.Typing.{Signature}
use Rattle.lf_unification.specs.DeepEquations.{AreDeep, IsDeepStore, deep_equation, deep_type, deep_value}
use Rattle.lf_unification.specs.Lists.{followed}
use Rattle.lf_unification.specs.Solving.{Solved}
use Rattle.lf_unification.specs.Steps.{Run, Step, bind, drop_equal, equal_heads, next_equation, no_step, open_lambdas, prune_both, prune_inside, put_bindings, renew, then_run}
use Rattle.lf_unification.specs.Unifiers.{Equation, Store}
use Rattle.lf_elaboration.specs.Completions.{FreeValue}
use Rattle.lf_elaboration.specs.Elaboration.{NewFrees, next_free, no_frees}
use Rattle.lf_elaboration.specs.Principal.{IsPrincipal, WrittenBody, body_over}
use Rattle.lf_elaboration.specs.SiteLaws.{total}
use Rattle.lf_elaboration.specs.Sites.{body_spots}
use Rattle.lf_elaboration.specs.State.{State, nothing_yet, store_of}
use Rattle.tw_approx.specs.Answer.{HasDeep, HasSkeletons, Rows, frees_of}
use Rattle.tw_approx.specs.Names.{IsFreeVariable}
use Rattle.tw_approx.specs.Nesting.{declared_depth}
use Rattle.tw_elaborate.specs.Bodies.{FromNothingDeep}
use Rattle.tw_metas.specs.State as metas
use Rattle.tw_metas.specs.State.{joined, value_of}
use Rattle.tw_parse.specs.Syntax.{Declaration}
use Rattle.tw_putting.specs.Stores.{types_of}
use Rattle.tw_recon.specs.Causes.{BodyReachesDeep, HasCause, ReachesDeep, in_body, in_elaboration, in_entry, in_equations, in_frees, in_left, in_quantifiers}
use Rattle.tw_recon.specs.Reading.{BodyIsDeep}
use Rattle.tw_recon.specs.Reconstruction.{IsCompletedTo, IsMade, IsWrittenAs}
use Rattle.tw_recon.specs.declared.fault.ReconFault.TheVariants.{TooDeep}
use Rattle.tw_resolve.specs.Resolved.{resolved_body, skeletons_of}
use Rattle.tw_putting.specs.Whole.{IsConsistent, whole}
use Rattle.law_explicit_agrees.proofs.Full.{no_quantifier, no_rows, nothing_made, written_once}
use Rattle.law_explicit_agrees.proofs.Nothing.{left_none, none_is_not_some, run_none}
use Rattle.law_explicit_agrees.proofs.Reconstructed.{nothing_over}

-- a place has a value only where a metavariable is declared
value_declared : (vs : List (Option Term)) (ds : List metas.Declaration) → length vs ≡ length ds → ((m : ℕ) → option_map (λ d. d.of_type) (slice_get ds m) ≡ None) → (m : ℕ) (N : Term) → joined (slice_get vs m) ≡ Some N → ⊥
value_declared [] ds e h m N k = cc
value_declared (v ∷ vs) [] e h m N k = cc
value_declared (v ∷ vs) (d ∷ ds) e h m N k = none_is_not_some (h zero) refl

no_value : (s : metas.State) → IsConsistent s → ((m : ℕ) → types_of s m ≡ None) → (m : ℕ) (N : Term) → value_of s m ≡ Some N → ⊥
no_value s c h m N k = value_declared s.values s.declared c.places h m N k

no_frees_made : {es : List Entry} {ts : List Skeleton} {s s' : State} {ms : List ℕ} → NewFrees es ts s s' ms → ts ≡ [] → (s' ≡ s) × (ms ≡ [])
no_frees_made no_frees e = (refl, refl)
no_frees_made (next_free a f) e = absurd cc

-- Without an equation and a metavariable there is no step.
followed_some : (es : List Equation) (e : Equation) (fs : List Equation) → followed es (e ∷ fs) ≡ [] → ⊥
followed_some [] e fs h = cc
followed_some (x ∷ es) e fs h = cc

step_some : {Σ : Signature} {s s' : Store} → Step Σ s s' → s.equations ≡ [] → ((m : ℕ) → s.metavariables m ≡ None) → ⊥
step_some (next_equation es e fs) h none = followed_some es e fs h
step_some (put_bindings p q) h none = cc
step_some drop_equal h none = cc
step_some open_lambdas h none = cc
step_some (equal_heads k A r t) h none = cc
step_some (bind side D m xs N C e u p b) h none = none_is_not_some (none m) e
step_some (prune_inside side D m xs N C e p c u n x) h none = none_is_not_some (none m) e
step_some (prune_both side D m xs N C e p c u n x) h none = none_is_not_some (none m) e
step_some (renew m A A' e u b p n x) h none = none_is_not_some (none m) e

run_same : {Σ : Signature} {s s' : Store} → Run Σ s s' → s.equations ≡ [] → ((m : ℕ) → s.metavariables m ≡ None) → s' ≡ s
run_same no_step h none = refl
run_same (then_run t r) h none = absurd (step_some t h none)

-- so a store with nothing in it reaches nothing deep
pub empty_shallow : (Σ : Signature) (s : Store) → s.equations ≡ [] → s.bindings ≡ [] → ((m : ℕ) → s.metavariables m ≡ None) → AreDeep depth_limit Σ s → ⊥
empty_shallow Σ s q b n deep = by deep.deep
  where
    same : deep.reached ≡ s
    same = run_same deep.run q n

    by : IsDeepStore deep.reached depth_limit → ⊥
    by (deep_equation e i d) = subst (Member e) (ap (λ x. x.equations) same ∙ q) i
    by (deep_value e i g d) = subst (Member e) (ap (λ x. x.bindings) same ∙ b) i
    by (deep_type m A e g d) = none_is_not_some (ap (λ x. x.metavariables m) same ∙ n m) e

-- and a state in which nothing was made
pub unmade_shallow : (es : List Entry) (frees : List ℕ) (s s' : State) → NewFrees es [] nothing_yet s frees → s' ≡ s → AreDeep depth_limit (signature_of es) (store_of s') → ⊥
unmade_shallow es frees s s' f e deep = empty_shallow (signature_of es) (store_of nothing_yet) refl refl (λ m. refl) (subst (λ x. AreDeep depth_limit (signature_of es) (store_of x)) (e ∙ (no_frees_made f refl).0) deep)

-- Nothing deep is reached in elaboration, in its equations, in the open body with the values put in, or in what is completed.
pub record IsShallow (es : List Entry) (w : WrittenBody) : Type 0 where
  pub elaboration : FromNothingDeep es [] w → ⊥
  pub equations : (frees : List ℕ) (s : State) (b : Body) → IsMade es [] w frees s b → AreDeep depth_limit (signature_of es) (store_of s) → ⊥
  pub body : (frees : List ℕ) (s : State) (b : Body) (after : metas.State) → IsMade es [] w frees s b → Solved (signature_of es) (store_of s) (whole [] after) → BodyIsDeep after b → ⊥
  pub completion : (frees : List FreeValue) (b : Body) → IsPrincipal es [] w (record { quantifiers = []; frees = frees; body = b }) → BodyReachesDeep (signature_of es) b → ⊥

module _ (es : List Entry) (d : Declaration) (not_free : (x : List ℕ) → IsFreeVariable es x d → ⊥) (makes_none : (rows : Rows) (o : List Skeleton) (w : WrittenBody) → resolved_body es rows o d ≡ Some w → total (body_spots es w) ≡ zero) where
  module _ (rows : Rows) (w : WrittenBody) (h : IsWrittenAs es d rows w) (k : IsShallow es w) where
    none : rows ≡ []
    none = no_rows es d not_free rows h.omitted h.skeletons

    alone : {frees : List ℕ} {s : State} {b : Body} → IsMade es (skeletons_of rows) w frees s b → IsMade es [] w frees s b
    alone {frees = frees} {s = s} {b = b} made = subst (λ r. IsMade es (skeletons_of r) w frees s b) none made

    unmade : {frees : List ℕ} {s : State} {b : Body} → IsMade es (skeletons_of rows) w frees s b → (m : ℕ) → s.metavariables m ≡ None
    unmade {frees = frees} {s = s} {b = b} made = nothing_made es d not_free makes_none rows w frees s b h made

    unmade_after : {frees : List ℕ} {s : State} {b : Body} (after : metas.State) → IsMade es (skeletons_of rows) w frees s b → Solved (signature_of es) (store_of s) (whole [] after) → (m : ℕ) → types_of after m ≡ None
    unmade_after after made z = run_none z.run (unmade made)

    completed : (G : List LfType) (hints : List (Option (List ℕ))) (shown : List ℕ) (b : Body) → IsCompletedTo es rows w G hints shown b → BodyReachesDeep (signature_of es) (body_over G b) → ⊥
    completed G hints shown b c deep =
        let (e, unnamed) = no_quantifier es d not_free makes_none rows w G hints shown b h c.in_order in
        let p : IsPrincipal es [] w (record { quantifiers = []; frees = c.frees; body = b }) =
        subst (λ X. IsPrincipal es [] w (record { quantifiers = X; frees = c.frees; body = b })) e (subst (λ r. IsPrincipal es (skeletons_of r) w (record { quantifiers = G; frees = c.frees; body = b })) none c.principal) in
        k.completion c.frees b p (subst (BodyReachesDeep (signature_of es)) (ap (λ X. body_over X b) e ∙ sym (nothing_over b)) deep)

    pub nothing_reached : ReachesDeep es rows w → ⊥
    nothing_reached (in_elaboration x) = k.elaboration (subst (λ r. FromNothingDeep es (skeletons_of r) w) none x)
    nothing_reached (in_equations {frees = frees} {s = s} {b = b} made deep) = k.equations frees s b (alone made) deep
    nothing_reached (in_frees after c made z (m, N, i, e, deep)) = subst (Member m) (no_frees_made made.frees_made (ap skeletons_of none)).1 i
    nothing_reached (in_left {s = s} after e naming c made l o n first deep) = left_none (signature_of es) s (unmade made) (whole [] after) l
    nothing_reached (in_quantifiers sites after c made z s (inl (m, N, i, e, deep))) = no_value after c (unmade_after after made z) m N e
    nothing_reached (in_quantifiers sites after c made z s (inr (found, are, (m, A, i, e, deep)))) = none_is_not_some (unmade_after after made z m) e
    nothing_reached (in_body {frees = frees} {s = s} {b = b} after made z deep) = k.body frees s b after (alone made) z deep
    nothing_reached (in_entry {G = G} {hints = hints} {shown = shown} {b = b} c deep) = completed G hints shown b c deep

  -- nothing that it leaves out has a skeleton
  no_deep_row : (rows : Rows) (o : List Skeleton) → rows ≡ [] → o ≡ [] → HasDeep (map (λ r. r.1) rows) ⊎ HasDeep o → ⊥
  no_deep_row rows o e f (inl h) = subst (λ (rs : Rows). HasDeep (map (λ r. r.1) rs)) e h
  no_deep_row rows o e f (inr h) = subst HasDeep f h

  -- so a declaration of which nothing is left out, and which doesn't nest too deep, isn't too deep
  pub nothing_deep : HasSkeletons es d [] [] → (w : WrittenBody) → resolved_body es [] [] d ≡ Some w → (depth_limit < declared_depth es d → ⊥) → IsShallow es w → HasCause es d TooDeep → ⊥
  nothing_deep s w r n k (inl (inl (known, deep))) = n deep
  nothing_deep s w r n k (inl (inr (within, objects, deep))) =
      let same = deep.once.only (frees_of []) [] s.fits in
      no_deep_row deep.rows deep.omitted (no_rows es d not_free deep.rows deep.omitted deep.once) (sym same.omitted) deep.deep
  nothing_deep s w r n k (inr (rows, v, h, deep)) =
      let (e, same) = written_once es d not_free s w r rows v h in
      nothing_reached rows v h (subst (IsShallow es) (sym same) k) deep
