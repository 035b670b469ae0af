-- What comes apart beside one another is what a run of unification makes of the equations; and where constants differ a run leads to equations that are refuted.
use Rattle.std.proofs.Common.{◌≡◌, ℕ, List, [], ◌∷◌, Option, Some, refl, sym, ap, ◌∙◌, subst}
use Rattle.lf.specs.Rules.{Reduces, stop}
use Rattle.lf.specs.Substitution.{reduce, single}
use Rattle.lf.specs.Syntax.{Kind, LfType, Spine, Term, atom, base, constant, kind_pi, lambda, metavariable, nil, pi, rename, root, skeleton, star}
use Rattle.lf.specs.Typing.{IsSignature, Signature, instantiate_kind, instantiate_type}
use Rattle.lf_search.specs.AppliedHeads.{AppliedHead, spine_with_applied, with_applied}
use Rattle.lf_unification.specs.Lists.{followed}
use Rattle.lf_unification.specs.Offering.{argument_equations, spine_equations}
use Rattle.lf_unification.specs.OpenTyping.{OpenHasType, skeletons_of}
use Rattle.lf_unification.specs.PartialInstance.{IsFilling}
use Rattle.lf_unification.specs.Putting.{PutsSome, put_nothing, some_at_bound, some_nowhere}
use Rattle.lf_unification.specs.ReachedRuns.{ReachedRun}
use Rattle.lf_unification.specs.Rigid.{past_binders}
use Rattle.lf_unification.specs.Skeletons.{skeleton_or_default}
use Rattle.lf_unification.specs.Solving.{IsWellFormed}
use Rattle.lf_unification.specs.Steps.{CanRefute, equal_heads, put_bindings}
use Rattle.lf_unification.specs.Steps as steps
use Rattle.lf_unification.specs.Unifiers.{Binding, BindingsAreTyped, Equation, Store}
use Rattle.lf_unification.proofs.Eta.{rename_id}
use Rattle.lf_unification.proofs.Putting.{typed_at}
use Rattle.lf_unification.proofs.Runs.{run_form}
use Rattle.tw_open.specs.Plain.{IsPlain, IsPlainType}
use Rattle.tw_open.proofs.PlainKinds.{plain_stays, plain_type_stays}
use Rattle.tw_unify.proofs.Orders.{both_reached, both_runs, followed_twice, none_made, one_step, places_change}
use Rattle.tw_search.specs.Beside.{ComesApart, Differs, FirstDiffers, IndicesComeApart, IndicesDiffer, LeadsTo, RowComesApart, RowDiffers, arguments_differ, constants_differ, differs_here, differs_later, equation_between, index_differs, later_differs, leads_by_value, leads_to_itself, next_argument, next_index, no_argument, no_index, same_constants, stays}

-- What has no arguments in it stays as it is, whatever is put in.
range_stays : (A B : LfType) (M : Term) → IsPlainType B → instantiate_type A M B ≡ B
range_stays A B M b = plain_type_stays reduce (single (skeleton A) M) B b

kind_range_stays : (A : LfType) (K : Kind) (M : Term) → IsPlain K → instantiate_kind A M K ≡ K
kind_range_stays A K M k = plain_stays reduce (single (skeleton A) M) K k

-- no equations of no arguments
none_of_type : (B : LfType) (T : Spine) → argument_equations [] B nil T ≡ []
none_of_type (pi A B) T = refl
none_of_type (atom a I) T = refl

none_of_kind : (K : Kind) (T : Spine) → spine_equations [] K nil T ≡ []
none_of_kind (kind_pi A K) T = refl
none_of_kind star T = refl

some_is : {A : Type 0} {x y : A} → Some x ≡ Some y → x ≡ y
some_is e = cc

-- a value of a base type is a root, so that it stays as it is where it is applied to nothing
root_stays : (Σ : Signature) (Ψ : ℕ → Option LfType) (U : (ℕ → Option Term) → Type 0) (N : Term) (B : LfType) (a : ℕ) → skeleton B ≡ base a → OpenHasType Σ [] Ψ U [] N B → Reduces (base a) N nil N
root_stays Σ Ψ U (root h S) B a e t = stop
root_stays Σ Ψ U (lambda N) (pi A B) a e t = absurd cc
root_stays Σ Ψ U (lambda N) (atom c T) a e t = absurd t

module _ (Σ : Signature) (Ψ : ℕ → Option LfType) (bs : List Binding) (U : (ℕ → Option Term) → Type 0) (typed : BindingsAreTyped Σ [] Ψ U bs) where
  record IsBase (m : ℕ) : Type 0 where
    of_type : LfType
    declared : Ψ m ≡ Some of_type
    family : ℕ
    is : skeleton of_type ≡ base family

  -- a metavariable without arguments that has a type is of a base type
  is_base : (m : ℕ) (A : LfType) → OpenHasType Σ [] Ψ U [] (root (metavariable m) nil) A → IsBase m
  is_base m (pi A B) t = absurd t
  is_base m (atom a I) (X, (B, d, e), s) = record { of_type = B; declared = d; family = a; is = ap skeleton (sym e) ∙ s.0 }

  value_applied : (b : Binding) (B : LfType) → Ψ b.of ≡ Some B → OpenHasType Σ [] Ψ U [] b.value B → IsBase b.of → Reduces (skeletons_of Ψ b.of) (rename (past_binders 0) b.value) nil b.value
  value_applied b B d v k =
      let same : B ≡ k.of_type = some_is (sym d ∙ k.declared) in
      let is : skeleton B ≡ base k.family = ap skeleton same ∙ k.is in
      let skeleton_is : skeletons_of Ψ b.of ≡ base k.family = ap skeleton_or_default d ∙ is in
      subst (λ t. Reduces t (rename (past_binders 0) b.value) nil b.value) (sym skeleton_is)
      (subst (λ N. Reduces (base k.family) N nil b.value) (sym (rename_id b.value)) (root_stays Σ Ψ U b.value B k.family is v))

  -- what a term leads to is what some of the bindings, put in, make of it
  leads_puts : {M V : Term} → LeadsTo bs M V → (A : LfType) → OpenHasType Σ [] Ψ U [] M A → PutsSome Ψ bs 0 M V
  leads_puts leads_to_itself A t = put_nothing
  leads_puts (leads_by_value b i l) A t =
      let (B, d, v) = typed_at Σ [] Ψ U bs typed b i in
      some_at_bound b i some_nowhere (value_applied b B d v (is_base b.of A t)) (leads_puts l B v)

module _ (Σ : Signature) (ok : IsSignature Σ) (Ψ : ℕ → Option LfType) (bs : List Binding) (p : ℕ → AppliedHead) where
  abbrev with_equations : List Equation → Store
  with_equations es = record { metavariables = Ψ; bindings = bs; equations = es }

  -- The goal's term is put in as far as it leads.
  leads_run : {M V : Term} → LeadsTo bs M V → (N : Term) (A : LfType) (fs : List Equation) → IsWellFormed Σ (with_equations (equation_between M N A ∷ fs)) → ReachedRun Σ (with_equations (equation_between M N A ∷ fs)) (with_equations (equation_between V N A ∷ fs))
  leads_run {M = M} l N A fs w = one_step Σ (put_bindings (leads_puts Σ Ψ bs (IsFilling Σ [] (with_equations (equation_between M N A ∷ fs))) w.typed.bindings_typed l A w.typed.equations_typed.0.left_typed) put_nothing) tt

  -- So is the other side.
  pub right_leads : {N V : Term} → LeadsTo bs N V → (M : Term) (A : LfType) (fs : List Equation) → IsWellFormed Σ (with_equations (equation_between M N A ∷ fs)) → ReachedRun Σ (with_equations (equation_between M N A ∷ fs)) (with_equations (equation_between M V A ∷ fs))
  right_leads {N = N} l M A fs w = one_step Σ (put_bindings put_nothing (leads_puts Σ Ψ bs (IsFilling Σ [] (with_equations (equation_between M N A ∷ fs))) w.typed.bindings_typed l A w.typed.equations_typed.0.right_typed)) tt

  -- and at equal constants come the equations of the arguments
  heads_run : {M : Term} {S : Spine} (c : ℕ) → LeadsTo bs M (root (constant c) S) → (T : Spine) (a : ℕ) (I : Spine) (B : LfType) → Σ.types c ≡ Some B → (fs : List Equation) → IsWellFormed Σ (with_equations (equation_between M (root (constant c) T) (atom a I) ∷ fs)) → ReachedRun Σ (with_equations (equation_between M (root (constant c) T) (atom a I) ∷ fs)) (with_equations (followed (argument_equations [] B S T) fs))
  heads_run c l T a I B e fs w = both_reached Σ (leads_run l (root (constant c) T) (atom a I) fs w) (one_step Σ (equal_heads (constant c) B tt e) tt)

  -- an equation that comes apart stands in front of two lists, and the second comes apart behind it
  both_apart : (e : Equation) (es gs tail fs : List Equation) → IsWellFormed Σ (with_equations (e ∷ followed tail fs)) → ReachedRun Σ (with_equations (e ∷ followed tail fs)) (with_equations (followed es (followed tail fs))) →
      (IsWellFormed Σ (with_equations (followed tail (followed es fs))) → ReachedRun Σ (with_equations (followed tail (followed es fs))) (with_equations (followed gs (followed es fs)))) →
      ReachedRun Σ (with_equations (e ∷ followed tail fs)) (with_equations (followed (followed es gs) fs))
  both_apart e es gs tail fs w r rest =
      let turned = both_reached Σ r (places_change Σ Ψ bs es tail fs) in
      let apart = both_reached Σ turned (rest (run_form Σ ok w turned.run)) in
      subst (λ xs. ReachedRun Σ (with_equations (e ∷ followed tail fs)) (with_equations xs)) (sym (followed_twice es gs fs)) (both_reached Σ apart (places_change Σ Ψ bs gs es fs))

  mutual
    -- THE theorem of two terms
    pub comes_apart_runs : {M N : Term} {A : LfType} {es : List Equation} → ComesApart Σ bs p M N A es → (fs : List Equation) → IsWellFormed Σ (with_equations (equation_between M (with_applied p N) A ∷ fs)) → ReachedRun Σ (with_equations (equation_between M (with_applied p N) A ∷ fs)) (with_equations (followed es fs))
    comes_apart_runs (stays {N = N} {A = A} l) fs w = leads_run l (with_applied p N) A fs w
    comes_apart_runs (same_constants {T = T} {I = I} {a = a} {c = c} {B = B} l e b row) fs w =
        let opened = heads_run c l (spine_with_applied p T) a I B e fs w in
        both_reached Σ opened (row_runs row b fs (run_form Σ ok w opened.run))

    -- of two rows that a plain type takes
    pub row_runs : {S T : Spine} {B : LfType} {es : List Equation} → RowComesApart Σ bs p S T B es → IsPlainType B → (fs : List Equation) → IsWellFormed Σ (with_equations (followed (argument_equations [] B S (spine_with_applied p T)) fs)) → ReachedRun Σ (with_equations (followed (argument_equations [] B S (spine_with_applied p T)) fs)) (with_equations (followed es fs))
    row_runs (no_argument {T = T} {B = B}) b fs w = subst (λ xs. ReachedRun Σ (with_equations (followed xs fs)) (with_equations fs)) (sym (none_of_type B (spine_with_applied p T))) (none_made Σ)
    row_runs (next_argument {M = M} {N = N} {S = S} {T = T} {A = A} {B = B} {es = es} {fs = gs} first row) (a, b) fs w =
        let tail : LfType → List Equation = λ X. followed (argument_equations [] X S (spine_with_applied p T)) fs in
        let same : instantiate_type A M B ≡ B = range_stays A B M b in
        let here : IsWellFormed Σ (with_equations (equation_between M (with_applied p N) A ∷ tail B)) = subst (λ X. IsWellFormed Σ (with_equations (equation_between M (with_applied p N) A ∷ tail X))) same w in
        subst (λ X. ReachedRun Σ (with_equations (equation_between M (with_applied p N) A ∷ tail X)) (with_equations (followed (followed es gs) fs))) (sym same)
        (both_apart (equation_between M (with_applied p N) A) es gs (argument_equations [] B S (spine_with_applied p T)) fs here (comes_apart_runs first (tail B) here) (λ v. row_runs row b (followed es fs) v))

  -- THE theorem of the rows of two atoms
  pub indices_run : {S T : Spine} {K : Kind} {es : List Equation} → IndicesComeApart Σ bs p S T K es → IsPlain K → (fs : List Equation) → IsWellFormed Σ (with_equations (followed (spine_equations [] K S (spine_with_applied p T)) fs)) → ReachedRun Σ (with_equations (followed (spine_equations [] K S (spine_with_applied p T)) fs)) (with_equations (followed es fs))
  indices_run (no_index {T = T} {K = K}) k fs w = subst (λ xs. ReachedRun Σ (with_equations (followed xs fs)) (with_equations fs)) (sym (none_of_kind K (spine_with_applied p T))) (none_made Σ)
  indices_run (next_index {M = M} {N = N} {S = S} {T = T} {A = A} {K = K} {es = es} {fs = gs} first row) (a, k) fs w =
      let tail : Kind → List Equation = λ L. followed (spine_equations [] L S (spine_with_applied p T)) fs in
      let same : instantiate_kind A M K ≡ K = kind_range_stays A K M k in
      let here : IsWellFormed Σ (with_equations (equation_between M (with_applied p N) A ∷ tail K)) = subst (λ L. IsWellFormed Σ (with_equations (equation_between M (with_applied p N) A ∷ tail L))) same w in
      subst (λ L. ReachedRun Σ (with_equations (equation_between M (with_applied p N) A ∷ tail L)) (with_equations (followed (followed es gs) fs))) (sym same)
      (both_apart (equation_between M (with_applied p N) A) es gs (spine_equations [] K S (spine_with_applied p T)) fs here (comes_apart_runs first (tail K) here) (λ v. indices_run row k (followed es fs) v))

  -- What a run leads to is refuted.
  pub refuted_then : {s t : Store} → ReachedRun Σ s t → CanRefute Σ t → CanRefute Σ s
  refuted_then r c = record { reached = c.reached; run = both_runs Σ r.run c.run; refuted = c.refuted }

  -- the first of the equations is passed over
  later_refuted : (e : Equation) (tail fs : List Equation) → IsWellFormed Σ (with_equations (e ∷ followed tail fs)) → (IsWellFormed Σ (with_equations (followed tail (e ∷ fs))) → CanRefute Σ (with_equations (followed tail (e ∷ fs)))) → CanRefute Σ (with_equations (e ∷ followed tail fs))
  later_refuted e tail fs w c =
      let turned = places_change Σ Ψ bs (e ∷ []) tail fs in
      refuted_then turned (c (run_form Σ ok w turned.run))

  mutual
    -- where constants differ in two terms
    pub terms_refute : {M N : Term} {A : LfType} → Differs Σ bs M N A → (fs : List Equation) → IsWellFormed Σ (with_equations (equation_between M N A ∷ fs)) → CanRefute Σ (with_equations (equation_between M N A ∷ fs))
    terms_refute (constants_differ {N = N} {S = S} {T = T} {I = I} {a = a} {c = c} {d = d} l k n) fs w =
        let first = leads_run l N (atom a I) fs w in
        let second = right_leads k (root (constant c) S) (atom a I) fs (run_form Σ ok w first.run) in
        record {
          reached = with_equations (equation_between (root (constant c) S) (root (constant d) T) (atom a I) ∷ fs);
          run = both_runs Σ first.run second.run;
          refuted = steps.constants_differ n;
        }
    terms_refute (arguments_differ {M = M} {S = S} {T = T} {I = I} {a = a} {c = c} {B = B} l k e b row) fs w =
        let first = right_leads k M (atom a I) fs w in
        let opened = both_reached Σ first (heads_run c l T a I B e fs (run_form Σ ok w first.run)) in
        refuted_then opened (row_refutes row b fs (run_form Σ ok w opened.run))

    pub row_refutes : {S T : Spine} {B : LfType} → RowDiffers Σ bs S T B → IsPlainType B → (fs : List Equation) → IsWellFormed Σ (with_equations (followed (argument_equations [] B S T) fs)) → CanRefute Σ (with_equations (followed (argument_equations [] B S T) fs))
    row_refutes (differs_here {M = M} {N = N} {S = S} {T = T} {A = A} {B = B} d) b fs w = terms_refute d (followed (argument_equations [] (instantiate_type A M B) S T) fs) w
    row_refutes (differs_later {M = M} {N = N} {S = S} {T = T} {A = A} {B = B} row) (a, b) fs w =
        let tail : LfType → List Equation = λ X. followed (argument_equations [] X S T) fs in
        let same : instantiate_type A M B ≡ B = range_stays A B M b in
        let here : IsWellFormed Σ (with_equations (equation_between M N A ∷ tail B)) = subst (λ X. IsWellFormed Σ (with_equations (equation_between M N A ∷ tail X))) same w in
        subst (λ X. CanRefute Σ (with_equations (equation_between M N A ∷ tail X))) (sym same)
        (later_refuted (equation_between M N A) (argument_equations [] B S T) fs here (λ v. row_refutes row b (equation_between M N A ∷ fs) v))

  -- THE theorem of rows in which constants differ
  pub indices_refute : {S T : Spine} {K : Kind} → IndicesDiffer Σ bs S T K → IsPlain K → (fs : List Equation) → IsWellFormed Σ (with_equations (followed (spine_equations [] K S T) fs)) → CanRefute Σ (with_equations (followed (spine_equations [] K S T) fs))
  indices_refute (index_differs {M = M} {N = N} {S = S} {T = T} {A = A} {K = K} d) k fs w = terms_refute d (followed (spine_equations [] (instantiate_kind A M K) S T) fs) w
  indices_refute (later_differs {M = M} {N = N} {S = S} {T = T} {A = A} {K = K} row) (a, k) fs w =
      let tail : Kind → List Equation = λ L. followed (spine_equations [] L S T) fs in
      let same : instantiate_kind A M K ≡ K = kind_range_stays A K M k in
      let here : IsWellFormed Σ (with_equations (equation_between M N A ∷ tail K)) = subst (λ L. IsWellFormed Σ (with_equations (equation_between M N A ∷ tail L))) same w in
      subst (λ L. CanRefute Σ (with_equations (equation_between M N A ∷ tail L))) (sym same)
      (later_refuted (equation_between M N A) (spine_equations [] K S T) fs here (λ v. indices_refute row k (equation_between M N A ∷ fs) v))

  -- where they differ in the first equation
  pub first_refutes : (es fs : List Equation) → FirstDiffers Σ bs es → IsWellFormed Σ (with_equations (followed es fs)) → CanRefute Σ (with_equations (followed es fs))
  first_refutes [] fs d w = absurd d
  first_refutes (e ∷ es) fs (n, d) w =
      let same : equation_between e.left e.right e.of_type ≡ e = ap (λ D. record { local = D; left = e.left; right = e.right; of_type = e.of_type }) (sym n) in
      subst (λ x. CanRefute Σ (with_equations (x ∷ followed es fs))) same (terms_refute d (followed es fs) (subst (λ x. IsWellFormed Σ (with_equations (x ∷ followed es fs))) (sym same) w))
