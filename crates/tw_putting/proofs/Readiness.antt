-- What a ready store has for all that reads it, and how steps keep it ready.
use Rattle.std.proofs.Common.{◌≡◌, ℕ, suc, List, [], ◌∷◌, length, drop, Option, Some, None, inl, inr, refl, sym, ap, subst}
use Rattle.std.specs.List.{slice_get}
use Rattle.std.specs.Option.{option_map}
use Rattle.lf.specs.SkeletonTyping.{TypeBySkeletons}
use Rattle.lf.specs.Skeletons.{family_skeletons}
use Rattle.lf.specs.Subordination.{Member}
use Rattle.lf.specs.Syntax.{LfType, Term, skeleton}
use Rattle.lf.specs.Typing.{IsSignature, Signature}
use Rattle.lf_unification.specs.Lists.{followed}
use Rattle.lf_unification.specs.OpenTyping.{Declares}
use Rattle.lf_unification.specs.Patterns.{local_skeletons}
use Rattle.lf_unification.specs.PartialInstance.{EquationsAreTyped, IsFilling}
use Rattle.lf_unification.specs.Putting.{Unbound, binders}
use Rattle.lf_unification.specs.Scope.{MetavariablesInBindings, MetavariablesInEquationTypes, MetavariablesInEquations}
use Rattle.lf_unification.specs.Steps.{Run}
use Rattle.lf_unification.specs.Unifiers.{Binding, BindingsAreTyped, Equation}
use Rattle.lf_unification.proofs.Runs.{run_form}
use Rattle.tw_metas.specs.State.{Declaration, State, joined}
use Rattle.tw_putting.specs.Fits.{BindingsBySkeletons, PutTypeFits, StoreBySkeletons, TypesCanTake, declared_skeletons}
use Rattle.tw_putting.specs.Ready.{AllScoped, IsReady, TypesBySkeletons}
use Rattle.tw_putting.specs.Stores.{bindings_from, bindings_of, types_of, with_binding}
use Rattle.tw_putting.specs.Whole.{AreDistinct, IsConsistent, whole}
use Rattle.tw_putting.proofs.Changes.{past_end}
use Rattle.tw_putting.proofs.Ordered.{have_order}
use Rattle.tw_putting.proofs.Skeletons.{locals_scoped, run_types, term_declared, term_scoped, type_declared, type_scoped}

-- what the view binds was bound
bound_first : (m : ℕ) (ms : List ℕ) (v : Option Term) (bs : List Binding) (b : Binding) → (Member b bs → Member b.of ms) → Member b (with_binding m v bs) → Member b.of (m ∷ ms)
bound_first m ms None bs b f h = inr (f h)
bound_first m ms (Some N) bs b f (inl e) = inl (ap (λ (d : Binding). d.of) e)
bound_first m ms (Some N) bs b f (inr h) = inr (f h)

bound_in : (ms : List ℕ) (vs : List (Option Term)) (b : Binding) → Member b (bindings_from ms vs) → Member b.of ms
bound_in [] vs b h = h
bound_in (m ∷ ms) vs b h = bound_first m ms (joined (slice_get vs m)) (bindings_from ms vs) b (bound_in ms vs b) h

no_member : (bs : List Binding) (m : ℕ) → ((b : Binding) → Member b bs → b.of ≡ m → ⊥) → Unbound bs m
no_member [] m f = tt
no_member (b ∷ bs) m f = (λ e. f b (inl refl) (sym e), no_member bs m (λ d h. f d (inr h)))

-- no binding is for what isn't in the list
unbound_unless : (ms : List ℕ) (vs : List (Option Term)) (m : ℕ) → (Member m ms → ⊥) → Unbound (bindings_from ms vs) m
unbound_unless ms vs m n = no_member (bindings_from ms vs) m (λ b h e. n (subst (λ k. Member k ms) e (bound_in ms vs b h)))

abbrev EachBoundOnce : List Binding → Type 0
EachBoundOnce [] = Unit {0}
EachBoundOnce (b ∷ bs) = Unbound bs b.of × EachBoundOnce bs

first_once : (m : ℕ) (v : Option Term) (bs : List Binding) → Unbound bs m → EachBoundOnce bs → EachBoundOnce (with_binding m v bs)
first_once m None bs u o = o
first_once m (Some N) bs u o = (u, o)

each_once : (ms : List ℕ) (vs : List (Option Term)) → AreDistinct ms → EachBoundOnce (bindings_from ms vs)
each_once [] vs d = tt
each_once (m ∷ ms) vs (n, d) = first_once m (joined (slice_get vs m)) (bindings_from ms vs) (unbound_unless ms vs m n) (each_once ms vs d)

pub local_count : (D : List LfType) → drop (binders D) (local_skeletons D []) ≡ []
local_count [] = refl
local_count (A ∷ D) = local_count D

pub local_length : (D : List LfType) → length D ≡ binders D
local_length [] = refl
local_length (A ∷ D) = ap suc (local_length D)

-- the values of typed bindings have declared skeletons
values_fit : (Σ : Signature) (Ψ : ℕ → Option LfType) (U : (ℕ → Option Term) → Type 0) (bs : List Binding) → EachBoundOnce bs → BindingsAreTyped Σ [] Ψ U bs → BindingsBySkeletons Σ Ψ [] bs
values_fit Σ Ψ U [] o t = tt
values_fit Σ Ψ U (b ∷ bs) (u, o) ((A, d, n), t) = ((A, d, term_declared Σ Ψ U [] b.value A n), u, values_fit Σ Ψ U bs o t)

values_scoped : (Σ : Signature) (Ψ : ℕ → Option LfType) (U : (ℕ → Option Term) → Type 0) (bs : List Binding) → BindingsAreTyped Σ [] Ψ U bs → MetavariablesInBindings (Declares Ψ) bs
values_scoped Σ Ψ U [] t = tt
values_scoped Σ Ψ U (b ∷ bs) ((A, d, n), t) = ((A, d), term_scoped Σ Ψ [] b.value (skeleton A) (term_declared Σ Ψ U [] b.value A n), values_scoped Σ Ψ U bs t)

sides_scoped : (Σ : Signature) (Ψ : ℕ → Option LfType) (U : (ℕ → Option Term) → Type 0) (es : List Equation) → EquationsAreTyped Σ [] Ψ U es → MetavariablesInEquations (Declares Ψ) es
sides_scoped Σ Ψ U [] t = tt
sides_scoped Σ Ψ U (e ∷ es) (t, ts) = (
  term_scoped Σ Ψ (local_skeletons e.local []) e.left (skeleton e.of_type) (term_declared Σ Ψ U e.local e.left e.of_type t.left_typed),
  term_scoped Σ Ψ (local_skeletons e.local []) e.right (skeleton e.of_type) (term_declared Σ Ψ U e.local e.right e.of_type t.right_typed),
  sides_scoped Σ Ψ U es ts,
)

types_scoped : (Σ : Signature) (Ψ : ℕ → Option LfType) (es : List Equation) → TypesBySkeletons Σ Ψ es → MetavariablesInEquationTypes (Declares Ψ) es
types_scoped Σ Ψ [] t = tt
types_scoped Σ Ψ (e ∷ es) ((d, a), t) = (locals_scoped Σ Ψ e.local d, type_scoped Σ Ψ (family_skeletons Σ) (local_skeletons e.local []) e.of_type a, types_scoped Σ Ψ es t)

module _ (Σ : Signature) where
  module _ (es : List Equation) (s : State) (r : IsReady Σ es s) where
    pub ready_scoped : AllScoped es s
    ready_scoped = record {
      fresh = λ m h. ap (option_map (λ (d : Declaration). d.of_type)) (past_end s.declared m h);
      types = λ m A d. type_scoped Σ (types_of s) (family_skeletons Σ) [] A (type_declared Σ (types_of s) (IsFilling Σ [] (whole es s)) [] A (r.well_formed.typed.declarations_typed.metavariables_typed m A d));
      bindings = values_scoped Σ (types_of s) (IsFilling Σ [] (whole es s)) (bindings_of s) r.well_formed.typed.bindings_typed;
      equations = sides_scoped Σ (types_of s) (IsFilling Σ [] (whole es s)) (followed es s.equations) r.well_formed.typed.equations_typed;
      equation_types = types_scoped Σ (types_of s) (followed es s.equations) r.types;
    }

    pub ready_values : StoreBySkeletons Σ [] s
    ready_values = record {
      bound = r.consistent.values_are_bound;
      values = values_fit Σ (types_of s) (IsFilling Σ [] (whole es s)) (bindings_of s) (each_once s.bound s.values r.consistent.distinct) r.well_formed.typed.bindings_typed;
      ordered = have_order Σ (types_of s) (IsFilling Σ [] (whole es s)) (bindings_of s) r.well_formed.order r.well_formed.is_order r.well_formed.bindings_listed r.well_formed.values_bound;
    }

    pub type_takes : (D : List LfType) (A : LfType) → TypeBySkeletons (family_skeletons Σ) (declared_skeletons Σ (types_of s)) (local_skeletons D []) A → PutTypeFits s (binders D) A
    type_takes D A a = record {
      families = family_skeletons Σ;
      signature = Σ;
      context = local_skeletons D [];
      type_typed = a;
      store_typed = subst (λ Γ. StoreBySkeletons Σ Γ s) (sym (local_count D)) ready_values;
    }

    -- the values can be put into the types of all metavariables
    pub types_take : TypesCanTake s
    types_take m A d = type_takes [] A (type_declared Σ (types_of s) (IsFilling Σ [] (whole es s)) [] A (r.well_formed.typed.declarations_typed.metavariables_typed m A d))

  -- steps keep a store ready
  pub ready_after : IsSignature Σ → (es fs : List Equation) (s t : State) → IsReady Σ es s → Run Σ (whole es s) (whole fs t) → IsConsistent t → IsReady Σ fs t
  ready_after ok es fs s t r p c = record {
    consistent = c;
    well_formed = run_form Σ ok r.well_formed p;
    types = run_types Σ ok p r.well_formed r.types;
  }
