-- What is read off a solved store is a principal completion.
use Rattle.std.proofs.Common.{◌≡◌, ℕ, zero, suc, List, [], ◌∷◌, Option, Some, inl, inr, refl, sym, ap, ap₂, ◌∙◌, subst}
use Rattle.std.specs.Prelude.{slice_get}
use Rattle.lf.specs.Entries.{Body, Entry, IsCanonicalSignature, declare_constant, declare_definition, declare_family, signature_of}
use Rattle.lf.specs.Subordination.{Member}
use Rattle.lf.specs.Substitution.{Image, reduce, substitute, substitute_type}
use Rattle.lf.specs.Syntax.{Kind, LfType, Skeleton, Term, kind_pi, star}
use Rattle.lf.specs.Typing.{IsSignature, Signature}
use Rattle.lf.proofs.Entries.{canonical_is_signature}
use Rattle.lf_unification.specs.Dependency.{IsListed, ListedMetavariable, free_context, values}
use Rattle.lf_unification.specs.Filling.{fill, fill_type}
use Rattle.lf_unification.specs.Offering.{MetavariablesInLocals}
use Rattle.lf_unification.specs.OpenTyping.{Declares, MetavariablesInType, OpenHasType, OpenIsType, skeletons_of}
use Rattle.lf_unification.specs.PartialInstance.{IsFilling}
use Rattle.lf_unification.specs.Skeletons.{skeleton_or_default}
use Rattle.lf_unification.specs.Solving.{IsWellFormed, Solved, ValuesAreBindings}
use Rattle.lf_unification.specs.Unifiers.{Binding, ExtendsFilling, Respects, Solution, Store}
use Rattle.lf_unification.proofs.Agree.{fill_agree, fill_agree_type}
use Rattle.lf_unification.proofs.Filling.{substituted_option}
use Rattle.lf_unification.proofs.Generic.{ordered_at}
use Rattle.lf_unification.proofs.Grow.{OpenHasType-grow, OpenIsType-grow}
use Rattle.lf_unification.proofs.Scope.{in_weaker, in_weaker_type}
use Rattle.lf_unification.proofs.Solving.{well_formed_answer}
use Rattle.lf_elaboration.specs.Completions.{FreeValue, FreesAreTyped}
use Rattle.lf_elaboration.specs.Elaboration.{NewFrees, next_free, no_frees}
use Rattle.lf_elaboration.specs.Kinds.{MetavariablesInKind, OpenIsKind}
use Rattle.lf_elaboration.specs.Laws.{HasFreeValues, KindIsMade, TermIsMade, TypeIsMade}
use Rattle.lf_elaboration.specs.Principal.{BodyIsTypedIn, Completion, CompletesBody, IsCompletion, IsInstanceOf, IsPrincipal, WrittenBody, substitute_body, substitute_frees, written_constant, written_definition, written_definition_of, written_family}
use Rattle.lf_elaboration.specs.PrincipalLaws.{ElaboratesBody, NeverHasNoCompletion, ReadOffIsPrincipal, fill_body}
use Rattle.lf_elaboration.specs.State.{State, nothing_yet, store_of}
use Rattle.lf_elaboration.proofs.Instances.{completion_instance}
use Rattle.lf_elaboration.proofs.Made.{checked_term_made, elaborated_kind_made, elaborated_type_made, inferred_term_made}
use Rattle.lf_elaboration.proofs.ReadOff.{Follows, Reads, images, kind_read, reads, term_read, type_read}
use Rattle.lf_elaboration.proofs.SolvedKinds.{fill_agree_kind, solved_kind_typed}
use Rattle.lf_elaboration.proofs.SolvedTyped.{solved_term_typed, solved_type_typed}
use Rattle.lf_elaboration.proofs.Unified.{instance_completion}

-- a typed unifier has the values of the order
pub respects_member : (μ : ℕ → Skeleton) (β : ℕ → Option Term) (bs : List Binding) → Respects μ β bs → (b : Binding) → Member b bs → β b.of ≡ Some (fill μ β b.value)
respects_member μ β [] r b i = absurd i
respects_member μ β (c ∷ bs) (r, rs) b (inl e) = ap (λ x. β x.of) e ∙ r ∙ ap (λ x. Some (fill μ β x.value)) (sym e)
respects_member μ β (c ∷ bs) (r, rs) b (inr i) = respects_member μ β bs rs b i

-- as many values as free variables
abbrev pub SameLength : List Skeleton → List ℕ → Type 0
SameLength [] [] = Unit {0}
SameLength [] (m ∷ ms) = ⊥
SameLength (t ∷ ts) [] = ⊥
SameLength (t ∷ ts) (m ∷ ms) = SameLength ts ms

pub same_length : {es : List Entry} {ts : List Skeleton} {s s' : State} {ms : List ℕ} → NewFrees es ts s s' ms → SameLength ts ms
same_length no_frees = tt
same_length (next_free x f) = same_length f

module _ (es : List Entry) (canonical : IsCanonicalSignature es) (ts : List Skeleton) (frees : List ℕ) (s s' : State) (f : NewFrees es ts nothing_yet s frees) where
  abbrev Σ : Signature
  Σ = signature_of es

  abbrev ok : IsSignature (signature_of es)
  ok = canonical_is_signature es canonical

  -- what is known of the open body
  abbrev pub BodyIsMade : Body → Type 0
  BodyIsMade (declare_family K) = KindIsMade Σ s' K
  BodyIsMade (declare_constant A) = TypeIsMade Σ s' A
  BodyIsMade (declare_definition R A b) = TermIsMade Σ s' R A

  pub body_made : (w : WrittenBody) (b : Body) → ElaboratesBody es frees w s s' b → BodyIsMade b
  body_made (written_family k) (declare_family K) x = elaborated_kind_made es canonical ts frees s s' k K f x
  body_made (written_constant U) (declare_constant A) x = elaborated_type_made es canonical ts frees s s' U A f x
  body_made (written_definition M b) (declare_definition R A c) (e, x) = inferred_term_made es canonical ts frees s s' M R A f x
  body_made (written_definition_of M U b) (declare_definition R A c) (e, s₁, x, y) = checked_term_made es canonical ts frees s s₁ s' U M R A f x y
  body_made (written_family k) (declare_constant A) x = absurd x
  body_made (written_family k) (declare_definition R A c) x = absurd x
  body_made (written_constant U) (declare_family K) x = absurd x
  body_made (written_constant U) (declare_definition R A c) x = absurd x
  body_made (written_definition M b) (declare_family K) x = absurd x
  body_made (written_definition M b) (declare_constant A) x = absurd x
  body_made (written_definition_of M U b) (declare_family K) x = absurd x
  body_made (written_definition_of M U b) (declare_constant A) x = absurd x

  -- each completion is what a typed unifier makes
  abbrev pub Found : List LfType → List FreeValue → Body → Body → Type 0
  Found F vs b c = (β : ℕ → Option Term) × Solution Σ [] (store_of s') F β × HasFreeValues frees vs s'.metavariables β × (fill_body (skeletons_of s'.metavariables) β b ≡ c)

  pub found : (w : WrittenBody) (b c : Body) → ElaboratesBody es frees w s s' b → (F : List LfType) (vs : List FreeValue) → IsCompletion es ts w (record { quantifiers = F; frees = vs; body = c }) → Found F vs b c
  found w b c x F vs i = go w b c x i.completed
    where
      go : (w : WrittenBody) (b c : Body) → ElaboratesBody es frees w s s' b → CompletesBody es F vs w c → Found F vs b c
      go (written_family k) (declare_family K) (declare_family X) x y =
          let (β, u, v, e) = (completion_instance es canonical ts frees s f F i.context vs i.frees_typed).1 s' k K X x y in
          (β, u, v, ap declare_family e)
      go (written_constant U) (declare_constant A) (declare_constant X) x y =
          let (β, u, v, e) = (completion_instance es canonical ts frees s f F i.context vs i.frees_typed).0 s' U A X x y in
          (β, u, v, ap declare_constant e)
      go (written_definition M b) (declare_definition R A c) (declare_definition N X d) (p, x) (q, y) =
          let (β, u, v, e, g) = (completion_instance es canonical ts frees s f F i.context vs i.frees_typed).2 s' M R N A X x y in
          (β, u, v, ap₂ (λ N X. declare_definition N X c) e g ∙ ap (declare_definition N X) (sym p ∙ q))
      go (written_definition_of M U b) (declare_definition R A c) (declare_definition N X d) (p, s₁, x, z) (q, y, t) =
          let (β, u, v, e, g) = (completion_instance es canonical ts frees s f F i.context vs i.frees_typed).3 s₁ s' U M R N A X x z y t in
          (β, u, v, ap₂ (λ N X. declare_definition N X c) e g ∙ ap (declare_definition N X) (sym p ∙ q))
      go (written_family k) (declare_family K) (declare_constant A) x y = absurd y
      go (written_family k) (declare_family K) (declare_definition R A c) x y = absurd y
      go (written_constant U) (declare_constant A) (declare_family K) x y = absurd y
      go (written_constant U) (declare_constant A) (declare_definition R B c) x y = absurd y
      go (written_definition M b) (declare_definition R A c) (declare_family K) x y = absurd y
      go (written_definition M b) (declare_definition R A c) (declare_constant B) x y = absurd y
      go (written_definition_of M U b) (declare_definition R A c) (declare_family K) x y = absurd y
      go (written_definition_of M U b) (declare_definition R A c) (declare_constant B) x y = absurd y
      go (written_family k) (declare_constant A) c x y = absurd x
      go (written_family k) (declare_definition R A d) c x y = absurd x
      go (written_constant U) (declare_family K) c x y = absurd x
      go (written_constant U) (declare_definition R A d) c x y = absurd x
      go (written_definition M b) (declare_family K) c x y = absurd x
      go (written_definition M b) (declare_constant A) c x y = absurd x
      go (written_definition_of M U b) (declare_family K) c x y = absurd x
      go (written_definition_of M U b) (declare_constant A) c x y = absurd x

  -- and each typed unifier makes one
  abbrev pub Completed : List LfType → (ℕ → Option Term) → WrittenBody → Body → Type 0
  Completed F β w b = (vs : List FreeValue) × FreesAreTyped es F ts vs × HasFreeValues frees vs s'.metavariables β × CompletesBody es F vs w (fill_body (skeletons_of s'.metavariables) β b)

  pub completed : (F : List LfType) (β : ℕ → Option Term) → Solution Σ [] (store_of s') F β → (w : WrittenBody) (b : Body) → ElaboratesBody es frees w s s' b → Completed F β w b
  completed F β u (written_family k) (declare_family K) x = (instance_completion es canonical ts frees s f F β).1 s' k K x u
  completed F β u (written_constant U) (declare_constant A) x = (instance_completion es canonical ts frees s f F β).0 s' U A x u
  completed F β u (written_definition M b) (declare_definition R A c) (e, x) = let (vs, t, h, y) = (instance_completion es canonical ts frees s f F β).2 s' M R A x u in (vs, t, h, (e, y))
  completed F β u (written_definition_of M U b) (declare_definition R A c) (e, s₁, x, z) = let (vs, t, h, y, y') = (instance_completion es canonical ts frees s f F β).3 s₁ s' U M R A x z u in (vs, t, h, (e, y, y'))
  completed F β u (written_family k) (declare_constant A) x = absurd x
  completed F β u (written_family k) (declare_definition R A c) x = absurd x
  completed F β u (written_constant U) (declare_family K) x = absurd x
  completed F β u (written_constant U) (declare_definition R A c) x = absurd x
  completed F β u (written_definition M b) (declare_family K) x = absurd x
  completed F β u (written_definition M b) (declare_constant A) x = absurd x
  completed F β u (written_definition_of M U b) (declare_family K) x = absurd x
  completed F β u (written_definition_of M U b) (declare_constant A) x = absurd x

pub never_completion : NeverHasNoCompletion
never_completion es canonical ts frees s s' f w b x n c i =
    let (β, u, v, e) = found es canonical ts frees s s' f w b c.body x c.quantifiers c.frees i in
    n c.quantifiers β u

-- the values of the free variables become those of the instance, one by one
pub frees_become : (es : List Entry) (F F' : List LfType) (σ : ℕ → Image) (ts : List Skeleton) (ms : List ℕ) (vs vs' : List FreeValue) → SameLength ts ms → FreesAreTyped es F ts vs → FreesAreTyped es F' ts vs' →
    ((i m : ℕ) (v v' : FreeValue) → slice_get ms i ≡ Some m → slice_get vs i ≡ Some v → slice_get vs' i ≡ Some v' → (substitute reduce σ v.term ≡ v'.term) × (substitute_type reduce σ v.of_type ≡ v'.of_type)) → substitute_frees σ vs ≡ vs'
frees_become es F F' σ [] [] [] [] n t t' e = refl
frees_become es F F' σ [] [] (v ∷ vs) vs' n t t' e = absurd t
frees_become es F F' σ [] [] [] (v ∷ vs') n t t' e = absurd t'
frees_become es F F' σ [] (m ∷ ms) vs vs' n t t' e = absurd n
frees_become es F F' σ (t₀ ∷ ts) [] vs vs' n t t' e = absurd n
frees_become es F F' σ (t₀ ∷ ts) (m ∷ ms) [] vs' n t t' e = absurd t
frees_become es F F' σ (t₀ ∷ ts) (m ∷ ms) (v ∷ vs) [] n t t' e = absurd t'
frees_become es F F' σ (t₀ ∷ ts) (m ∷ ms) (v ∷ vs) (v' ∷ vs') n (q, t) (q', t') e =
    let (p, r) = e zero m v v' refl refl refl in
    ap₂ (λ u us. u ∷ us) (ap₂ (λ M A. record { term = M; of_type = A }) p r) (frees_become es F F' σ ts ms vs vs' n t t' (λ i k x y. e (suc i) k x y))

module _ (es : List Entry) (canonical : IsCanonicalSignature es) (ts : List Skeleton) (frees : List ℕ) (s s' : State) (f : NewFrees es ts nothing_yet s frees) (w : WrittenBody) (b : Body) (x : ElaboratesBody es frees w s s' b) (after : Store) (z : Solved (signature_of es) (store_of s') after) where
  abbrev Σ₁ : Signature
  Σ₁ = signature_of es

  abbrev ok₁ : IsSignature (signature_of es)
  ok₁ = canonical_is_signature es canonical

  abbrev Ψ : ℕ → Option LfType
  Ψ = after.metavariables

  abbrev μ : ℕ → Skeleton
  μ = skeletons_of after.metavariables

  abbrev μ₀ : ℕ → Skeleton
  μ₀ = skeletons_of s'.metavariables

  abbrev order : List ListedMetavariable
  order = z.well_formed.order

  abbrev F : List LfType
  F = free_context (skeletons_of after.metavariables) z.well_formed.order

  abbrev β : ℕ → Option Term
  β = values (skeletons_of after.metavariables) z.well_formed.order

  abbrev pub Made : Body → Type 0
  Made b = BodyIsMade es canonical ts frees s s' f b

  pub made : Made b
  made = body_made es canonical ts frees s s' f w b x

  pub well_formed : (b : Body) → Made b → IsWellFormed Σ₁ (store_of s')
  well_formed (declare_family K) m = m.well_formed
  well_formed (declare_constant A) m = m.well_formed
  well_formed (declare_definition R A c) m = m.of_type.well_formed

  before_order : IsWellFormed Σ₁ (store_of s')
  before_order = well_formed b made

  listed_before : (k : ℕ) → IsListed before_order.order k → Declares s'.metavariables k
  listed_before k l = let (B, g, j, h, n) = ordered_at Σ₁ μ₀ ok₁ s'.metavariables (IsFilling Σ₁ [] (store_of s')) before_order.order before_order.is_order k l in (B, g)

  types_declared : (m : ℕ) (A : LfType) → s'.metavariables m ≡ Some A → MetavariablesInType (Declares s'.metavariables) A
  types_declared m A e =
      let (A', d, i, t, c) = ordered_at Σ₁ μ₀ ok₁ s'.metavariables (IsFilling Σ₁ [] (store_of s')) before_order.order before_order.is_order m (before_order.all_listed m A e) in
      let p : A' ≡ A = (let q : Some A' ≡ Some A = sym d ∙ e in cc) in
      subst (MetavariablesInType (Declares s'.metavariables)) p (in_weaker_type (IsListed before_order.order) (Declares s'.metavariables) listed_before A' i)

  -- between the store before and the store after
  same : (m : ℕ) → Declares s'.metavariables m → μ₀ m ≡ μ m
  same m (A, e) = ap skeleton_or_default (e ∙ sym (z.keeps.grows m A e))

  listed : (m : ℕ) → Declares s'.metavariables m → IsListed order m
  listed m (A, e) = z.well_formed.all_listed m A (z.keeps.grows m A e)

  pub body_agree : (b : Body) → Made b → (γ γ' : ℕ → Option Term) → ExtendsFilling s'.metavariables γ γ' → fill_body μ₀ γ b ≡ fill_body μ γ' b
  body_agree (declare_family K) m γ γ' h = ap declare_family (fill_agree_kind (Declares s'.metavariables) μ₀ μ same γ γ' K (λ k d. sym (h k d.0 d.1)) m.declared)
  body_agree (declare_constant A) m γ γ' h = ap declare_constant (fill_agree_type (Declares s'.metavariables) μ₀ μ same γ γ' A (λ k d. sym (h k d.0 d.1)) m.declared)
  body_agree (declare_definition R A c) m γ γ' h = ap₂ (λ N X. declare_definition N X c) (fill_agree (Declares s'.metavariables) μ₀ μ same γ γ' R (λ k d. sym (h k d.0 d.1)) m.declared) (fill_agree_type (Declares s'.metavariables) μ₀ μ same γ γ' A (λ k d. sym (h k d.0 d.1)) m.of_type.declared)

  pub frees_agree : (vs : List FreeValue) (γ γ' : ℕ → Option Term) → ExtendsFilling s'.metavariables γ γ' → HasFreeValues frees vs s'.metavariables γ → HasFreeValues frees vs Ψ γ'
  frees_agree vs γ γ' h v i m u p q =
      let (A, d, e, g) = v i m u p q in
      (A, z.keeps.grows m A d, h m A d ∙ e, sym (fill_agree_type (Declares s'.metavariables) μ₀ μ same γ γ' A (λ k d. sym (h k d.0 d.1)) (types_declared m A d)) ∙ g)

  -- typing in the larger store, up to nothing
  abbrev None_fills : (ℕ → Option Term) → Type 0
  None_fills γ = ⊥

  type_grown : (D : List LfType) (A : LfType) → MetavariablesInLocals (Declares s'.metavariables) D → MetavariablesInType (Declares s'.metavariables) A → OpenIsType Σ₁ [] s'.metavariables (IsFilling Σ₁ [] (store_of s')) D A → OpenIsType Σ₁ [] Ψ None_fills D A
  type_grown = OpenIsType-grow Σ₁ ok₁ [] s'.metavariables Ψ (IsFilling Σ₁ [] (store_of s')) None_fills z.keeps.grows (λ γ h. absurd h) (λ i A g. absurd g) types_declared

  term_grown : (R : Term) (A : LfType) → MetavariablesInType (Declares s'.metavariables) A → OpenHasType Σ₁ [] s'.metavariables (IsFilling Σ₁ [] (store_of s')) [] R A → OpenHasType Σ₁ [] Ψ None_fills [] R A
  term_grown R A i t = OpenHasType-grow Σ₁ ok₁ [] s'.metavariables Ψ (IsFilling Σ₁ [] (store_of s')) None_fills z.keeps.grows (λ γ h. absurd h) (λ i A g. absurd g) types_declared [] R A tt i t

  kind_grown : (D : List LfType) (K : Kind) → MetavariablesInLocals (Declares s'.metavariables) D → MetavariablesInKind (Declares s'.metavariables) K → OpenIsKind Σ₁ s'.metavariables (IsFilling Σ₁ [] (store_of s')) D K → OpenIsKind Σ₁ Ψ None_fills D K
  kind_grown D (kind_pi A K) l (i, j) (a, k) = (type_grown D A l i a, kind_grown (A ∷ D) K (l, i) j k)
  kind_grown D star l i k = tt

  kind_listed : (K : Kind) → MetavariablesInKind (Declares s'.metavariables) K → MetavariablesInKind (IsListed order) K
  kind_listed (kind_pi A K) (i, j) = (in_weaker_type (Declares s'.metavariables) (IsListed order) listed A i, kind_listed K j)
  kind_listed star i = tt

  -- an instance of what is read off
  module _ (F' : List LfType) (β' : ℕ → Option Term) (u : Solution Σ₁ [] after F' β') where
    abbrev U : (ℕ → Option Term) → Type 0
    U = IsFilling (signature_of es) [] after

    follows : (is : List ListedMetavariable) → ValuesAreBindings after.bindings is → Follows Σ₁ ok₁ Ψ U F' β' u.0 is
    follows [] v = tt
    follows (it ∷ is) (v, vs) = ((λ N e. respects_member μ β' after.bindings u.1.0 (record { of = it.of; value = N }) (v N e)), follows is vs)

    abbrev σ : ℕ → Image
    σ = images Σ₁ ok₁ Ψ U F' β' u.0 order

    r : Reads Σ₁ ok₁ Ψ U F' β' u.0 order
    r = reads Σ₁ ok₁ Ψ U F' β' u.0 order z.well_formed.is_order (follows order z.well_formed.values_bound)

    body_read : (b : Body) → Made b → substitute_body σ (fill_body μ β b) ≡ fill_body μ β' b
    body_read (declare_family K) m = ap declare_family (kind_read Σ₁ ok₁ Ψ U F' β' u.0 order z.well_formed.is_order r None_fills K (kind_grown [] K tt m.declared m.typed) (kind_listed K m.declared) m.closed)
    body_read (declare_constant A) m = ap declare_constant (type_read Σ₁ ok₁ Ψ U F' β' u.0 order z.well_formed.is_order r None_fills A (type_grown [] A tt m.declared m.typed) (in_weaker_type (Declares s'.metavariables) (IsListed order) listed A m.declared) m.closed)
    body_read (declare_definition R A c) m = ap₂ (λ N X. declare_definition N X c)
        (term_read Σ₁ ok₁ Ψ U F' β' u.0 order z.well_formed.is_order r None_fills R A (term_grown R A m.of_type.declared m.typed) (in_weaker (Declares s'.metavariables) (IsListed order) listed R m.declared) m.closed)
        (type_read Σ₁ ok₁ Ψ U F' β' u.0 order z.well_formed.is_order r None_fills A (type_grown [] A tt m.of_type.declared m.of_type.typed) (in_weaker_type (Declares s'.metavariables) (IsListed order) listed A m.of_type.declared) m.of_type.closed)

    some_term : {M N : Term} → Some M ≡ Some N → M ≡ N
    some_term e = cc

    value_read : (m : ℕ) (v v' : FreeValue) (A A' : LfType) → Ψ m ≡ Some A → Ψ m ≡ Some A' → β m ≡ Some v.term → β' m ≡ Some v'.term → fill_type μ β A ≡ v.of_type → fill_type μ β' A' ≡ v'.of_type → (substitute reduce σ v.term ≡ v'.term) × (substitute_type reduce σ v.of_type ≡ v'.of_type)
    value_read m v v' A A' d d' e e' g g' =
        let l : IsListed order m = z.well_formed.all_listed m A d in
        let (B, k, i, t, c) = ordered_at Σ₁ μ ok₁ Ψ U order z.well_formed.is_order m l in
        let p : A ≡ B = (let q : Some A ≡ Some B = sym d ∙ k in cc) in
        let p' : B ≡ A' = (let q : Some B ≡ Some A' = sym k ∙ d' in cc) in (
          some_term (ap (substituted_option σ) (sym e) ∙ r.becomes m l ∙ e'),
          ap (substitute_type reduce σ) (sym g ∙ ap (fill_type μ β) p) ∙ type_read Σ₁ ok₁ Ψ U F' β' u.0 order z.well_formed.is_order r U B t i c ∙ ap (fill_type μ β') p' ∙ g',
        )

  answer : Solution Σ₁ [] after F β
  answer = well_formed_answer Σ₁ ok₁ after z.well_formed z.none_left

  typed_body : (b : Body) → Made b → BodyIsTypedIn Σ₁ F (fill_body μ β b)
  typed_body (declare_family K) m = (solved_kind_typed Σ₁ ok₁ s' K m after z).1
  typed_body (declare_constant A) m = (solved_type_typed Σ₁ ok₁ s' A m after z).1
  typed_body (declare_definition R A c) m = ((solved_type_typed Σ₁ ok₁ s' A m.of_type after z).1, solved_term_typed Σ₁ ok₁ s' R A m after z)

  abbrev Outcome : Type 0
  Outcome = (vs : List FreeValue) × HasFreeValues frees vs Ψ β × IsPrincipal es ts w (record { quantifiers = F; frees = vs; body = fill_body μ β b })

  instance_found : (vs : List FreeValue) → FreesAreTyped es F ts vs → HasFreeValues frees vs Ψ β → (c : Completion) → IsCompletion es ts w c → IsInstanceOf Σ₁ (record { quantifiers = F; frees = vs; body = fill_body μ β b }) c
  instance_found vs t h c i =
      let (γ, u, v, e) = found es canonical ts frees s s' f w b c.body x c.quantifiers c.frees i in
      let (γ', g, u') = z.keeps.complete c.quantifiers γ u in
      let v' = frees_agree c.frees γ γ' g v in
      record {
        terms = σ c.quantifiers γ' u';
        typed = (r c.quantifiers γ' u').typed;
        frees = frees_become es F c.quantifiers (σ c.quantifiers γ' u') ts frees vs c.frees (same_length f) t i.frees_typed (λ k m y y' p q q'.
            let (A, d, a, n) = h k m y p q in
            let (A', d', a', n') = v' k m y' p q' in
            value_read c.quantifiers γ' u' m y y' A A' d d' a a' n n');
        body = body_read c.quantifiers γ' u' b made ∙ sym (body_agree b made γ γ' g) ∙ e;
      }

  read_off : Outcome
  read_off =
      let (γ, g, u) = z.keeps.sound F β answer in
      let (vs, t, h, y) = completed es canonical ts frees s s' f F γ u w b x in
      let h' : HasFreeValues frees vs Ψ β = frees_agree vs γ β (λ m A d. g m A d) h in (
        vs,
        h',
        record {
          completion = record { context = answer.0.context; frees_typed = t; completed = subst (CompletesBody es F vs w) (body_agree b made γ β (λ m A d. g m A d)) y };
          typed = typed_body b made;
          most_general = instance_found vs t h';
        },
      )

pub read_off_principal : ReadOffIsPrincipal
read_off_principal es canonical ts frees s s' f w b x after z = read_off es canonical ts frees s s' f w b x after z
