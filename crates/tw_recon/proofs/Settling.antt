-- What elaboration hands to the solver, and what stands of it in the store that the solver leaves.
use Rattle.std.proofs.Common.{◌≡◌, ℕ, zero, suc, List, [], ◌∷◌, ◌++◌, length, map, Option, Some, None, refl, sym, ap, ap₂, ◌∙◌, subst}
use Rattle.std.specs.Prelude.{slice_get}
use Rattle.lf.specs.Entries.{Body, Entry, IsCanonicalSignature, declare_constant, declare_definition, declare_family, signature_of}
use Rattle.lf.specs.Subordination.{Member}
use Rattle.lf.specs.Syntax.{Kind, LfType, Skeleton, Term, kind_pi, star}
use Rattle.lf.specs.Typing.{IsSignature, Signature}
use Rattle.lf.proofs.Entries.{canonical_is_signature}
use Rattle.lf_unification.specs.Lists.{followed}
use Rattle.lf_unification.specs.Offering.{MetavariablesInLocals}
use Rattle.lf_unification.specs.OpenTyping.{Declares, MetavariablesInType, OpenHasType, OpenIsType}
use Rattle.lf_unification.specs.PartialInstance.{IsFilling, IsTypedStore}
use Rattle.lf_unification.specs.Putting.{PutsInType, binders}
use Rattle.lf_unification.specs.Renewing.{renewed_store}
use Rattle.lf_unification.specs.Solving.{IsWellFormed, Solved}
use Rattle.lf_unification.specs.Steps.{Run, Step, bind, drop_equal, equal_heads, next_equation, no_step, on_pattern, open_lambdas, prune_both, prune_inside, put_bindings, renew, store_at, then_run}
use Rattle.lf_unification.specs.Unifiers.{Equation, Store}
use Rattle.lf_unification.specs.Pruning.{PrunedType, pruned_store}
use Rattle.lf_unification.specs.Scope.{IsScoped}
use Rattle.lf_unification.proofs.Declare.{fewer as declared_fewer, kept_values}
use Rattle.lf_unification.proofs.Grow.{OpenHasType-grow, OpenIsType-grow}
use Rattle.lf_unification.proofs.PruneTyped.{pruned_fewer}
use Rattle.lf_unification.proofs.Renew.{renewed_in}
use Rattle.lf_unification.proofs.Runs.{step_form}
use Rattle.lf_unification.proofs.Sound.{restrict, restrict_same}
use Rattle.lf_unification.proofs.StepTyping.{step_fewer}
use Rattle.lf_unification.proofs.Steps.{step_keeps_unifiers}
use Rattle.lf_elaboration.specs.Elaboration.{NewFrees}
use Rattle.lf_elaboration.specs.Kinds.{MetavariablesInKind, OpenIsKind}
use Rattle.lf_elaboration.specs.Principal.{WrittenBody, written_constant, written_definition, written_definition_of, written_family}
use Rattle.lf_elaboration.specs.PrincipalLaws.{ElaboratesBody}
use Rattle.lf_elaboration.specs.Skeletons.{EquationsHaveSkeletons, LocalHasSkeletons, StateHasSkeletons}
use Rattle.lf_elaboration.specs.State.{State, nothing_yet, store_of}
use Rattle.lf_elaboration.proofs.Made.{elaborated_skeletons, nothing_skeletons, state_scoped}
use Rattle.lf_elaboration.proofs.Principal.{BodyIsMade, body_made}
use Rattle.tw_elaborate.specs.Bodies.{IsElaborated, open_body_of}
use Rattle.tw_open.specs.Fresh.{OnlyDeclares, declares_nothing, declares_one}
use Rattle.tw_elaborate.specs.View.{made, numbers_of}
use Rattle.tw_elaborate.specs.declared.bodies.Elaborated.{Elaborated}
use Rattle.tw_metas.specs.State as metas
use Rattle.tw_metas.specs.State.{Story, joined}
use Rattle.tw_metas.specs.View.{equation_of}
use Rattle.tw_putting.specs.Stores.{bindings_from, types_of}
use Rattle.tw_abstract.specs.Reading.{IsSettled}
use Rattle.tw_putting.specs.Ready.{IsReady, LocalsBySkeletons, TypesBySkeletons}
use Rattle.tw_putting.specs.Whole.{AreDistinct, IsConsistent, whole}
use Rattle.tw_unify.proofs.Orders.{followed_nothing}
use Rattle.tw_recon.specs.Reading.{BodyStands, KindStands}
use Rattle.tw_recon.specs.Reconstruction.{IsMade}
use Rattle.tw_recon.proofs.Fillings.{BodyIsOpen}

-- none of these is a value
abbrev pub HaveNone : List (Option Term) → Type 0
HaveNone [] = Unit {0}
HaveNone (None ∷ vs) = HaveNone vs
HaveNone (Some N ∷ vs) = ⊥

-- a store in which metavariables were only declared
pub record IsBlank (s : metas.State) : Type 0 where
  pub unbound : s.bound ≡ []
  pub none_postponed : s.equations ≡ []
  pub places : length s.values ≡ length s.declared
  pub no_values : HaveNone s.values

none_more : (vs : List (Option Term)) → HaveNone vs → HaveNone (vs ++ None ∷ [])
none_more [] h = tt
none_more (None ∷ vs) h = none_more vs h
none_more (Some N ∷ vs) h = absurd h

no_value : (vs : List (Option Term)) → HaveNone vs → (m : ℕ) (N : Term) → joined (slice_get vs m) ≡ Some N → ⊥
no_value [] h m N e = cc
no_value (None ∷ vs) h zero N e = cc
no_value (None ∷ vs) h (suc m) N e = no_value vs h m N e
no_value (Some M ∷ vs) h m N e = absurd h

one_longer : {A : Type 0} (xs : List A) (x : A) → length (xs ++ x ∷ []) ≡ suc (length xs)
one_longer [] x = refl
one_longer (y ∷ xs) x = ap suc (one_longer xs x)

still_blank : {s t : Story} → OnlyDeclares s t → IsBlank s.now → IsBlank t.now
still_blank declares_nothing b = b
still_blank (declares_one {s = s} {t = t} A d) b =
    let h : IsBlank t.now = still_blank d b in
    record {
      unbound = h.unbound;
      none_postponed = h.none_postponed;
      places = one_longer t.now.values None ∙ ap suc h.places ∙ sym (one_longer t.now.declared (record { context = []; of_type = A }));
      no_values = none_more t.now.values h.no_values;
    }

pub only_declared : (t : Story) → OnlyDeclares metas.empty_story t → IsBlank t.now
only_declared t d = still_blank d (record { unbound = refl; none_postponed = refl; places = refl; no_values = tt })

module _ (s : metas.State) (b : IsBlank s) where
  pub blank_equations : (es : List Equation) → followed es s.equations ≡ es
  blank_equations es = ap (followed es) b.none_postponed ∙ followed_nothing es

  pub blank_store : (es : List Equation) → whole es s ≡ record { metavariables = types_of s; bindings = []; equations = es }
  blank_store es = ap₂ (λ bs qs. let x : Store = record { metavariables = types_of s; bindings = bs; equations = qs } in x) (ap (λ ms. bindings_from ms s.values) b.unbound) (blank_equations es)

  pub blank_consistent : IsConsistent s
  blank_consistent = record {
    places = b.places;
    bound_have_values = λ m i. absurd (subst (Member m) b.unbound i);
    values_are_bound = λ m N e. absurd (no_value s.values b.no_values m N e);
    distinct = subst AreDistinct (sym b.unbound) tt;
  }

-- nothing is bound yet, and no equation is postponed
pub same_store : (es : List Entry) (ts : List Skeleton) (w : WrittenBody) (e : Elaborated) → IsElaborated es ts w e → whole (map equation_of e.state.equations.items) e.state.store.now ≡ store_of (made e.state)
same_store es ts w e i = blank_store e.state.store.now (only_declared e.state.store i.store) (map equation_of e.state.equations.items)

-- what skeletons type, as the solver asks it
module _ (Σ : Signature) (s : State) where
  locals_typed : (D : List LfType) → LocalHasSkeletons Σ s D → LocalsBySkeletons Σ s.metavariables D
  locals_typed [] h = tt
  locals_typed (A ∷ D) (h, a) = (locals_typed D h, a)

  equations_typed : (es : List Equation) → EquationsHaveSkeletons Σ s es → TypesBySkeletons Σ s.metavariables es
  equations_typed [] h = tt
  equations_typed (e ∷ es) (h, hs) = ((locals_typed e.local h.local, h.of_type), equations_typed es hs)

module _ (es : List Entry) (canonical : IsCanonicalSignature es) (ts : List Skeleton) (frees : List ℕ) (s s' : State) (f : NewFrees es ts nothing_yet s frees) where
  before : StateHasSkeletons (signature_of es) s
  before = (nothing_skeletons es canonical).1 ts frees s f

  -- the state has skeletons
  pub state_skeletons : (w : WrittenBody) (b : Body) → ElaboratesBody es frees w s s' b → StateHasSkeletons (signature_of es) s'
  state_skeletons (written_family k) (declare_family K) x = ((elaborated_skeletons es canonical frees [] s s' before tt).5 k K x).0.state
  state_skeletons (written_constant U) (declare_constant A) x = ((elaborated_skeletons es canonical frees [] s s' before tt).2 U A x).0.state
  state_skeletons (written_definition M b) (declare_definition R A c) (e, x) = ((elaborated_skeletons es canonical frees [] s s' before tt).0 M R A x).0.state
  state_skeletons (written_definition_of M U b) (declare_definition R A c) (e, s₁, x, y) =
      let (h, t) = (elaborated_skeletons es canonical frees [] s s₁ before tt).2 U A x in
      ((elaborated_skeletons es canonical frees [] s₁ s' h.state h.local).1 M A R t y).0.state
  state_skeletons (written_family k) (declare_constant A) x = absurd x
  state_skeletons (written_family k) (declare_definition R A c) x = absurd x
  state_skeletons (written_constant U) (declare_family K) x = absurd x
  state_skeletons (written_constant U) (declare_definition R A c) x = absurd x
  state_skeletons (written_definition M b) (declare_family K) x = absurd x
  state_skeletons (written_definition M b) (declare_constant A) x = absurd x
  state_skeletons (written_definition_of M U b) (declare_family K) x = absurd x
  state_skeletons (written_definition_of M U b) (declare_constant A) x = absurd x

  -- and the store is well formed
  pub store_is_formed : (b : Body) → BodyIsMade es canonical ts frees s s' f b → IsWellFormed (signature_of es) (store_of s')
  store_is_formed (declare_family K) m = m.well_formed
  store_is_formed (declare_constant A) m = m.well_formed
  store_is_formed (declare_definition R A c) m = m.of_type.well_formed

-- what elaboration made of a declaration
pub made_of : (es : List Entry) (ts : List Skeleton) (w : WrittenBody) (e : Elaborated) → IsElaborated es ts w e → IsMade es ts w (numbers_of e.frees.items) (made e.state) (open_body_of e.body)
made_of es ts w e i = record { with_frees = i.with_frees; frees_made = i.frees_made; body_made = i.body_made }

-- the solver may begin
pub ready : (es : List Entry) → IsCanonicalSignature es → (ts : List Skeleton) (w : WrittenBody) (e : Elaborated) → IsElaborated es ts w e → IsReady (signature_of es) (map equation_of e.state.equations.items) e.state.store.now
ready es canonical ts w e i =
    let blank : IsBlank e.state.store.now = only_declared e.state.store i.store in
    let b : Body = open_body_of e.body in
    let ms : List ℕ = numbers_of e.frees.items in
    let qs : List Equation = map equation_of e.state.equations.items in
    let h : StateHasSkeletons (signature_of es) (made e.state) = state_skeletons es canonical ts ms i.with_frees (made e.state) i.frees_made w b i.body_made in
    record {
      consistent = blank_consistent e.state.store.now blank;
      well_formed = subst (IsWellFormed (signature_of es)) (sym (same_store es ts w e i)) (store_is_formed es canonical ts ms i.with_frees (made e.state) i.frees_made b (body_made es canonical ts ms i.with_frees (made e.state) i.frees_made w b i.body_made));
      types = subst (TypesBySkeletons (signature_of es) (types_of e.state.store.now)) (sym (blank_equations e.state.store.now blank qs)) (equations_typed (signature_of es) (made e.state) qs h.equations);
    }

-- Fillings: one of the store that is left, on what was declared before, is one of the store before.
module _ (Σ : Signature) (ok : IsSignature Σ) where
  abbrev pub HasPart : Store → Store → Type 0
  HasPart s s' = (β' : ℕ → Option Term) → IsFilling Σ [] s' β' → (β : ℕ → Option Term) × IsFilling Σ [] s β × ((m : ℕ) → Declares s.metavariables m → β m ≡ β' m)

  part_of_pruned : (s : Store) (n d n' : ℕ) (p : PrunedType s.metavariables n d) → IsScoped s.metavariables n' s.bindings s.equations → IsTypedStore Σ [] s → HasPart s (pruned_store s n d p n')
  part_of_pruned s n d n' p scoped w β' u = (restrict s.metavariables β', pruned_fewer Σ ok s n d n' p scoped w β' u, λ m e. sym (restrict_same s.metavariables β' m e.0 e.1))

  part_of_renewed : (s : Store) (m n : ℕ) (A A' : LfType) → s.metavariables m ≡ Some A → PutsInType s.metavariables s.bindings 0 A A' → IsScoped s.metavariables n s.bindings s.equations → HasPart s (renewed_store s m A A' n)
  part_of_renewed s m n A A' d p scoped β' (F, v, ((e, r), q)) =
      let within : MetavariablesInType (Declares s.metavariables) A' = renewed_in Σ ok s m n A A' d p scoped in
      (restrict s.metavariables β', declared_fewer Σ ok s n scoped A' within β' (F, v, (r, q)), λ k g. sym (kept_values Σ ok s n scoped A' within β' k g))

  part_of_step : {s s' : Store} → IsWellFormed Σ s → Step Σ s s' → HasPart s s'
  part_of_step w (next_equation es e fs) β' u = (β', step_fewer Σ ok w.typed (next_equation es e fs) (λ x. x) β' u, λ m e. refl)
  part_of_step w (put_bindings f g) β' u = (β', step_fewer Σ ok w.typed (put_bindings f g) (λ x. x) β' u, λ m e. refl)
  part_of_step w drop_equal β' u = (β', step_fewer Σ ok w.typed drop_equal (λ x. x) β' u, λ m e. refl)
  part_of_step w open_lambdas β' u = (β', step_fewer Σ ok w.typed open_lambdas (λ x. x) β' u, λ m e. refl)
  part_of_step w (equal_heads h A r t) β' u = (β', step_fewer Σ ok w.typed (equal_heads h A r t) (λ x. x) β' u, λ m e. refl)
  part_of_step w (bind side D m xs N C d u p b) β' v = (β', step_fewer Σ ok w.typed (bind side D m xs N C d u p b) (λ x. x) β' v, λ m e. refl)
  part_of_step w (prune_inside {Ψ = Ψ} {bs = bs} {es = es} side D m xs N C d p c u n x) β' v = part_of_pruned (store_at side Ψ bs es D (on_pattern Ψ m xs) N C) c.drop.m c.dropped n c.pruned x w.typed β' v
  part_of_step w (prune_both {Ψ = Ψ} {bs = bs} {es = es} side D m xs N C d p c u n x) β' v = part_of_pruned (store_at side Ψ bs es D (on_pattern Ψ m xs) N C) m c.dropped n c.pruned x w.typed β' v
  part_of_step w (renew {Ψ = Ψ} {bs = bs} {es = es} m A A' d u b p n x) β' v = part_of_renewed (record { metavariables = Ψ; bindings = bs; equations = es }) m n A A' d p x β' v

  pub part_of_run : {s s' : Store} → IsWellFormed Σ s → Run Σ s s' → HasPart s s'
  part_of_run w no_step β' u = (β', u, λ m e. refl)
  part_of_run w (then_run {s = s} {s' = s'} {s'' = s''} p r) β' u =
      let (γ, v, h) = part_of_run (step_form Σ ok w p) r β' u in
      let (β, x, g) = part_of_step w p γ v in
      (β, x, λ m e. g m e ∙ h m (e.0, (step_keeps_unifiers Σ ok w.typed p).grows m e.0 e.1))

-- What elaboration typed up to the fillings of its store is typed up to those of the solved one.
module _ (es : List Entry) (canonical : IsCanonicalSignature es) (ts : List Skeleton) (frees : List ℕ) (s s' : State) (f : NewFrees es ts nothing_yet s frees) (w : WrittenBody) (b : Body) (x : ElaboratesBody es frees w s s' b) (after : metas.State) (z : Solved (signature_of es) (store_of s') (whole [] after)) where
  abbrev Σ₁ : Signature
  Σ₁ = signature_of es

  ok₁ : IsSignature (signature_of es)
  ok₁ = canonical_is_signature es canonical

  abbrev pub U : (ℕ → Option Term) → Type 0
  U = IsFilling (signature_of es) [] (store_of s')

  abbrev pub U' : (ℕ → Option Term) → Type 0
  U' = IsFilling (signature_of es) [] (whole [] after)

  is_made : BodyIsMade es canonical ts frees s s' f b
  is_made = body_made es canonical ts frees s s' f w b x

  part : HasPart Σ₁ ok₁ (store_of s') (whole [] after)
  part = part_of_run Σ₁ ok₁ (store_is_formed es canonical ts frees s s' f b is_made) z.run

  scoped : IsScoped s'.metavariables s'.next [] s'.equations
  scoped = state_scoped Σ₁ s' (state_skeletons es canonical ts frees s s' f w b x)

  pub type_goes_on : (D : List LfType) (A : LfType) → MetavariablesInLocals (Declares s'.metavariables) D → MetavariablesInType (Declares s'.metavariables) A → OpenIsType Σ₁ [] s'.metavariables U D A → OpenIsType Σ₁ [] (types_of after) U' D A
  type_goes_on = OpenIsType-grow Σ₁ ok₁ [] s'.metavariables (types_of after) U U' z.keeps.grows part (λ i A g. absurd g) scoped.types

  pub term_goes_on : (D : List LfType) (M : Term) (A : LfType) → MetavariablesInLocals (Declares s'.metavariables) D → MetavariablesInType (Declares s'.metavariables) A → OpenHasType Σ₁ [] s'.metavariables U D M A → OpenHasType Σ₁ [] (types_of after) U' D M A
  term_goes_on = OpenHasType-grow Σ₁ ok₁ [] s'.metavariables (types_of after) U U' z.keeps.grows part (λ i A g. absurd g) scoped.types

  pub kind_goes_on : (D : List LfType) (K : Kind) → MetavariablesInLocals (Declares s'.metavariables) D → MetavariablesInKind (Declares s'.metavariables) K → OpenIsKind Σ₁ s'.metavariables U D K → OpenIsKind Σ₁ (types_of after) U' D K
  kind_goes_on D (kind_pi A K) l (i, j) (a, k) = (type_goes_on D A l i a, kind_goes_on (A ∷ D) K (l, i) j k)
  kind_goes_on D star l i k = tt

  goes_on : (b : Body) → BodyIsMade es canonical ts frees s s' f b → BodyIsOpen Σ₁ after b
  goes_on (declare_family K) m = kind_goes_on [] K tt m.declared m.typed
  goes_on (declare_constant A) m = type_goes_on [] A tt m.declared m.typed
  goes_on (declare_definition R A c) m = (term_goes_on [] R A tt m.of_type.declared m.typed, type_goes_on [] A tt m.of_type.declared m.of_type.typed)

  pub body_goes_on : BodyIsOpen Σ₁ after b
  body_goes_on = goes_on b is_made

module _ (Σ : Signature) (ok : IsSignature Σ) (after : metas.State) (r : IsReady Σ [] after) where
  abbrev settled : IsSettled after
  settled = record { signature = Σ; is_signature = ok; ready = r }

  kind_stands : (D : List LfType) (k : ℕ) (K : Kind) → binders D ≡ k → OpenIsKind Σ (types_of after) (IsFilling Σ [] (whole [] after)) D K → KindStands after k K
  kind_stands D k (kind_pi A K) e (a, h) = (record { settled = settled; local = D; same = e; typed = a }, kind_stands (A ∷ D) (suc k) K (ap suc e) h)
  kind_stands D k star e h = tt

  open_stands : (b : Body) → BodyIsOpen Σ after b → BodyStands after b
  open_stands (declare_family K) k = kind_stands [] zero K refl k
  open_stands (declare_constant A) a = record { settled = settled; local = []; same = refl; typed = a }
  open_stands (declare_definition R A c) (m, a) = (record { settled = settled; local = []; of_type = A; same = refl; typed = m }, record { settled = settled; local = []; same = refl; typed = a })

-- the open body is typed up to the fillings of the solved store
pub body_is_open : (es : List Entry) → IsCanonicalSignature es → (ts : List Skeleton) (w : WrittenBody) (frees : List ℕ) (s : State) (b : Body) (after : metas.State) → IsMade es ts w frees s b → Solved (signature_of es) (store_of s) (whole [] after) → BodyIsOpen (signature_of es) after b
body_is_open es canonical ts w frees s b after m z = body_goes_on es canonical ts frees m.with_frees s m.frees_made w b m.body_made after z

-- each part of the open body can be read off
pub body_stands : (es : List Entry) → IsCanonicalSignature es → (ts : List Skeleton) (w : WrittenBody) (frees : List ℕ) (s : State) (b : Body) (after : metas.State) → IsMade es ts w frees s b → Solved (signature_of es) (store_of s) (whole [] after) → IsReady (signature_of es) [] after → BodyStands after b
body_stands es canonical ts w frees s b after m z r = open_stands (signature_of es) (canonical_is_signature es canonical) after r b (body_is_open es canonical ts w frees s b after m z)
