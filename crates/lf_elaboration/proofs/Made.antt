-- What is elaborated from nothing leaves a well-formed store.
use Rattle.std.proofs.Common.{◌≡◌, ℕ, zero, suc, ◌<◌, ◌≤◌, List, [], ◌∷◌, Option, Some, None, ◌⊎◌, inl, inr, refl, sym, ap, ap₂, ◌∙◌, subst, arith}
use Rattle.lf.specs.Entries.{Entry, IsCanonicalSignature, signature_of}
use Rattle.lf.specs.SkeletonTyping.{TypeBySkeletons}
use Rattle.lf.specs.Skeletons.{family_skeletons, type_skeleton}
use Rattle.lf.specs.Syntax.{Kind, LfType, Skeleton, Term, atom, kind_pi, lift_renaming, nil, rename_kind, skeleton, star}
use Rattle.lf.specs.Typing.{IsSignature, Signature, TypeAt}
use Rattle.lf.specs.Variables.{onto}
use Rattle.lf.proofs.Entries.{canonical_is_signature}
use Rattle.lf_unification.specs.Dependency.{IsDependencyOrder, IsListed, ListedMetavariable}
use Rattle.lf_unification.specs.Offering.{MetavariablesInLocals}
use Rattle.lf_unification.specs.OpenTyping.{Declares, MetavariablesIn, MetavariablesInType, OpenHasType, OpenIsType, skeletons_of}
use Rattle.lf_unification.specs.Patterns.{local_skeletons}
use Rattle.lf_unification.specs.PartialInstance.{EquationsAreTyped, IsFilling, PartialInstance}
use Rattle.lf_unification.specs.Scope.{IsScoped, MetavariablesInEquationTypes, MetavariablesInEquations}
use Rattle.lf_unification.specs.Skeletons.{as_head_skeletons, skeleton_or_default, total_skeletons}
use Rattle.lf_unification.specs.Solving.{IsWellFormed, ValuesAreBindings}
use Rattle.lf_unification.specs.Unifiers.{Equation}
use Rattle.lf_unification.proofs.Fillings.{EquationIsTyped-of, fillings_half}
use Rattle.lf_unification.proofs.Offer.{decide}
use Rattle.lf_unification.proofs.PruneTyped.{closed_type}
use Rattle.lf_unification.proofs.Scope.{in_weaker_type}
use Rattle.lf_unification.proofs.StepTyping.{closed_term, lifted}
use Rattle.lf_elaboration.specs.Kinds.{MetavariablesInKind, OpenIsKind}
use Rattle.lf_elaboration.specs.Laws.{CheckedTermIsMade, ElaboratedHasSkeletons, ElaboratedKindIsMade, ElaboratedTypeIsMade, InferredTermIsMade, KindIsMade, NothingHasSkeletons, StaysBySkeletons, TermIsMade, TypeIsMade}
use Rattle.lf_elaboration.specs.Skeletons.{EquationsHaveSkeletons, KindHasSkeletons, LocalHasSkeletons, StateHasSkeletons, TermHasSkeleton, TypeHasSkeletons, heads_of}
use Rattle.lf_elaboration.specs.State.{State, nothing_yet, store_of}
use Rattle.lf_elaboration.proofs.Adds.{Grows, checks_adds, domain_adds, family_adds, infers_adds, kind_adds, type_adds}
use Rattle.lf_elaboration.proofs.Equated.{AreFullyTyped}
use Rattle.lf_elaboration.proofs.Skeletons.{checks_skeletons, declared_below, domain_skeletons, family_skeletons_of, frees_skeletons, infers_skeletons, kind_skeletons, local_grows, mentions_known, more_heads_type, nothing_has_skeletons, type_grows, type_mentions_known, type_skeletons}
use Rattle.lf_elaboration.proofs.Typed.{StateIsTyped, Within, checks_typed_up_to, frees_typed, infers_typed, kind_typed, nothing_typed, type_typed, within_before}

-- the metavariables below n, the newest first
abbrev pub type_or_default : Option LfType → LfType
type_or_default (Some A) = A
type_or_default None = atom 0 nil

abbrev pub order_below : (ℕ → Option LfType) → ℕ → List ListedMetavariable
order_below Ψ zero = []
order_below Ψ (suc n) = record { of = n; of_type = type_or_default (Ψ n); value = None } ∷ order_below Ψ n

listed_is_below : (Ψ : ℕ → Option LfType) (n m : ℕ) → IsListed (order_below Ψ n) m → m < n
listed_is_below Ψ zero m l = absurd l
listed_is_below Ψ (suc n) m (inl e) = omega (arith, e)
listed_is_below Ψ (suc n) m (inr l) = let h = listed_is_below Ψ n m l in omega (arith, h)

below_is_listed : (Ψ : ℕ → Option LfType) (n m : ℕ) → m < n → IsListed (order_below Ψ n) m
below_is_listed Ψ zero m h = absurd (omega (arith, h))
below_is_listed Ψ (suc n) m h = go (λ k. below_is_listed Ψ n m k) (decide m n)
  where
    go : (m < n → IsListed (order_below Ψ n) m) → (m ≡ n) ⊎ (m ≡ n → ⊥) → IsListed (order_below Ψ (suc n)) m
    go f (inl e) = inl e
    go f (inr d) = inr (f (omega (arith, h, d)))

no_values : (Ψ : ℕ → Option LfType) (n : ℕ) → ValuesAreBindings [] (order_below Ψ n)
no_values Ψ zero = tt
no_values Ψ (suc n) = ((λ N e. absurd (cc)), no_values Ψ n)

-- what the state declares and mentions
module _ (Σ : Signature) (s : State) (w : StateHasSkeletons Σ s) where
  pub declares_known : (m : ℕ) (t : Skeleton) → type_skeleton (s.metavariables m) ≡ Some t → Declares s.metavariables m
  declares_known m t e = go (s.metavariables m) refl e
    where
      go : (x : Option LfType) → s.metavariables m ≡ x → type_skeleton x ≡ Some t → Declares s.metavariables m
      go None q f = absurd (cc)
      go (Some A) q f = (A, q)

  pub term_declared : (D : List LfType) (M : Term) (A : LfType) → TermHasSkeleton Σ s D M A → MetavariablesIn (Declares s.metavariables) M
  term_declared D M A m = mentions_known (heads_of Σ s) (Declares s.metavariables) declares_known (local_skeletons D []) M (skeleton A) m

  pub type_declared : (D : List LfType) (A : LfType) → TypeHasSkeletons Σ s D A → MetavariablesInType (Declares s.metavariables) A
  type_declared D A a = type_mentions_known (heads_of Σ s) (Declares s.metavariables) declares_known (family_skeletons Σ) (local_skeletons D []) A a

  pub kind_is_declared : (D : List LfType) (K : Kind) → KindHasSkeletons Σ s D K → MetavariablesInKind (Declares s.metavariables) K
  kind_is_declared D (kind_pi A K) (a, k) = (type_declared D A a, kind_is_declared (A ∷ D) K k)
  kind_is_declared D star k = tt

  pub local_declared : (D : List LfType) → LocalHasSkeletons Σ s D → MetavariablesInLocals (Declares s.metavariables) D
  local_declared [] l = tt
  local_declared (A ∷ D) (l, a) = (local_declared D l, type_declared D A a)

  pub equations_declared : (es : List Equation) → EquationsHaveSkeletons Σ s es → MetavariablesInEquations (Declares s.metavariables) es
  equations_declared [] v = tt
  equations_declared (e ∷ es) (v, vs) = (term_declared e.local e.left e.of_type v.left, term_declared e.local e.right e.of_type v.right, equations_declared es vs)

  equation_types_declared : (es : List Equation) → EquationsHaveSkeletons Σ s es → MetavariablesInEquationTypes (Declares s.metavariables) es
  equation_types_declared [] v = tt
  equation_types_declared (e ∷ es) (v, vs) = (local_declared e.local v.local, type_declared e.local e.of_type v.of_type, equation_types_declared es vs)

  pub state_scoped : IsScoped s.metavariables s.next [] s.equations
  state_scoped = record {
    fresh = w.numbered.fresh;
    types = λ m A e. type_declared [] A (w.types m A e);
    bindings = tt;
    equations = equations_declared s.equations w.equations;
    equation_types = equation_types_declared s.equations w.equations;
  }

  -- among all metavariables of the signature they have these skeletons
  pub total_types : (m : ℕ) (B : LfType) → s.metavariables m ≡ Some B → TypeBySkeletons (family_skeletons Σ) (as_head_skeletons (total_skeletons Σ (skeletons_of s.metavariables))) [] B
  total_types m B e = more_heads_type (heads_of Σ s) (as_head_skeletons (total_skeletons Σ (skeletons_of s.metavariables))) (λ c t f. f) (λ k t f. total k t f) (family_skeletons Σ) [] B (w.types m B e)
    where
      total : (k : ℕ) (t : Skeleton) → type_skeleton (s.metavariables k) ≡ Some t → Some (skeleton_or_default (s.metavariables k)) ≡ Some t
      total k t f = go (s.metavariables k) f
        where
          go : (x : Option LfType) → type_skeleton x ≡ Some t → Some (skeleton_or_default x) ≡ Some t
          go None f = absurd (cc)
          go (Some A) f = f

module _ (es : List Entry) (canonical : IsCanonicalSignature es) (s : State) (w : StateHasSkeletons (signature_of es) s) where
  abbrev Σ : Signature
  Σ = signature_of es

  abbrev ok : IsSignature (signature_of es)
  ok = canonical_is_signature es canonical

  abbrev Ψ : ℕ → Option LfType
  Ψ = s.metavariables

  abbrev U : (ℕ → Option Term) → Type 0
  U = IsFilling (signature_of es) [] (store_of s)

  abbrev half : (β : ℕ → Option Term) → IsFilling (signature_of es) [] (store_of s) β → (F : List LfType) × PartialInstance (signature_of es) [] s.metavariables (λ m. ⊥) F β
  half = fillings_half (signature_of es) [] (store_of s)

  abbrev declared : (m : ℕ) (B : LfType) → s.metavariables m ≡ Some B → TypeBySkeletons (family_skeletons (signature_of es)) (as_head_skeletons (total_skeletons (signature_of es) (skeletons_of s.metavariables))) [] B
  declared = total_types (signature_of es) s w

  -- typed up to the fillings of its own store
  abbrev pub IsTypedInItself : Type 0
  IsTypedInItself = StateIsTyped es canonical s.metavariables (IsFilling (signature_of es) [] (store_of s)) (fillings_half (signature_of es) [] (store_of s)) (total_types (signature_of es) s w) s

  pub within_itself : Within es canonical s.metavariables (IsFilling (signature_of es) [] (store_of s)) (fillings_half (signature_of es) [] (store_of s)) (total_types (signature_of es) s w) s
  within_itself = record { declares = λ m A e. e; solved = λ β u. u.2.1 }

  equations_typed : (fs : List Equation) → AreFullyTyped Σ ok Ψ U half declared fs → EquationsAreTyped Σ [] Ψ U fs
  equations_typed [] t = tt
  equations_typed (e ∷ fs) (t, ts) = (EquationIsTyped-of Σ ok [] Ψ U e t, equations_typed fs ts)

  module _ (t : StateIsTyped es canonical s.metavariables (IsFilling (signature_of es) [] (store_of s)) (fillings_half (signature_of es) [] (store_of s)) (total_types (signature_of es) s w) s) where
    declared_at : (n : ℕ) (A : LfType) → Ψ n ≡ Some A → Ψ n ≡ Some (type_or_default (Ψ n))
    declared_at n A e = e ∙ ap Some (sym (ap type_or_default e))

    ordered : (n : ℕ) → n ≤ s.next → IsDependencyOrder Σ Ψ U (order_below Ψ n)
    ordered zero h = tt
    ordered (suc n) h =
        let (A, e) = w.numbered.full n (omega (arith, h)) in
        let q : A ≡ type_or_default (Ψ n) = sym (ap type_or_default e) in
        let a : OpenIsType Σ [] Ψ U [] (type_or_default (Ψ n)) = subst (OpenIsType Σ [] Ψ U []) q (t.types n A e) in (
          ordered n (omega (arith, h)),
          declared_at n A e,
          (λ l. let k = listed_is_below Ψ n n l in omega (arith, k)),
          subst (MetavariablesInType (IsListed (order_below Ψ n))) q (in_weaker_type (λ k. k < n) (IsListed (order_below Ψ n)) (λ k b. below_is_listed Ψ n k b) A (w.older n A e)),
          a,
          (λ ρ. closed_type Σ Ψ U [] ρ (λ i X g. absurd g) (type_or_default (Ψ n)) a),
          tt,
        )

    pub well_formed : IsWellFormed Σ (store_of s)
    well_formed = record {
      order = order_below s.metavariables s.next;
      is_order = ordered s.next (omega arith);
      all_listed = λ m A e. below_is_listed s.metavariables s.next m (declared_below s w.numbered m A e);
      bindings_listed = tt;
      values_bound = no_values s.metavariables s.next;
      typed = record {
        declarations_typed = record { outer_typed = λ i A g. absurd g; metavariables_typed = t.types };
        bindings_typed = tt;
        equations_typed = equations_typed s.equations t.equations;
      };
    }

    pub type_made : (A : LfType) → TypeHasSkeletons Σ s [] A → OpenIsType Σ [] Ψ U [] A → TypeIsMade Σ s A
    type_made A k a = record { well_formed = well_formed; typed = a; declared = type_declared Σ s w [] A k; closed = λ ρ. closed_type Σ Ψ U [] ρ (λ i X g. absurd g) A a }

    closed_kind : (D : List LfType) (ρ : ℕ → ℕ) → ((i : ℕ) (X : LfType) → TypeAt (onto D []) i X → ρ i ≡ i) → (K : Kind) → OpenIsKind Σ Ψ U D K → rename_kind ρ K ≡ K
    closed_kind D ρ h (kind_pi A K) (a, k) = ap₂ kind_pi (closed_type Σ Ψ U D ρ h A a) (closed_kind (A ∷ D) (lift_renaming ρ) (lifted Σ Ψ U D ρ A h) K k)
    closed_kind D ρ h star k = refl

    pub kind_made : (K : Kind) → KindHasSkeletons Σ s [] K → OpenIsKind Σ Ψ U [] K → KindIsMade Σ s K
    kind_made K k x = record { well_formed = well_formed; typed = x; declared = kind_is_declared Σ s w [] K k; closed = λ ρ. closed_kind [] ρ (λ i X g. absurd g) K x }

    pub term_made : (R : Term) (A : LfType) → TypeHasSkeletons Σ s [] A → TermHasSkeleton Σ s [] R A → OpenIsType Σ [] Ψ U [] A → OpenHasType Σ [] Ψ U [] R A → TermIsMade Σ s R A
    term_made R A k m a r = record { of_type = type_made A k a; typed = r; declared = term_declared Σ s w [] R A m; closed = λ ρ. closed_term Σ Ψ U [] ρ (λ i X g. absurd g) R A r }

-- THE theorems
pub elaborated_type_made : ElaboratedTypeIsMade
elaborated_type_made es canonical ts frees s s' V A f x =
    let k : StateHasSkeletons (signature_of es) s = frees_skeletons es canonical f (nothing_has_skeletons (signature_of es) (canonical_is_signature es canonical)) in
    let (w, a) = type_skeletons es canonical frees x k tt in
    let g : Grows s s' = type_adds es frees x k.numbered in
    let Ψ : ℕ → Option LfType = s'.metavariables in
    let U : (ℕ → Option Term) → Type 0 = IsFilling (signature_of es) [] (store_of s') in
    let h = fillings_half (signature_of es) [] (store_of s') in
    let d = total_types (signature_of es) s' w in
    let i = within_itself es canonical s' w in
    let n = nothing_has_skeletons (signature_of es) (canonical_is_signature es canonical) in
    let t₀ = frees_typed es canonical Ψ U h d f n.numbered (within_before es canonical Ψ U h d s s' g i) (nothing_typed es canonical Ψ U h d) in
    let (t, b) = type_typed es canonical Ψ U h d frees x k.numbered i tt t₀ in
    type_made es canonical s' w t A a b

pub inferred_term_made : InferredTermIsMade
inferred_term_made es canonical ts frees s s' M R A f x =
    let k : StateHasSkeletons (signature_of es) s = frees_skeletons es canonical f (nothing_has_skeletons (signature_of es) (canonical_is_signature es canonical)) in
    let (w, r, a) = infers_skeletons es canonical frees x k tt in
    let g : Grows s s' = infers_adds es frees x k.numbered in
    let Ψ : ℕ → Option LfType = s'.metavariables in
    let U : (ℕ → Option Term) → Type 0 = IsFilling (signature_of es) [] (store_of s') in
    let h = fillings_half (signature_of es) [] (store_of s') in
    let d = total_types (signature_of es) s' w in
    let i = within_itself es canonical s' w in
    let n = nothing_has_skeletons (signature_of es) (canonical_is_signature es canonical) in
    let t₀ = frees_typed es canonical Ψ U h d f n.numbered (within_before es canonical Ψ U h d s s' g i) (nothing_typed es canonical Ψ U h d) in
    let (t, q, b) = infers_typed es canonical Ψ U h d frees x k.numbered i tt t₀ in
    term_made es canonical s' w t R A a r b q

pub checked_term_made : CheckedTermIsMade
checked_term_made es canonical ts frees s s' s'' V M R A f x y =
    let k : StateHasSkeletons (signature_of es) s = frees_skeletons es canonical f (nothing_has_skeletons (signature_of es) (canonical_is_signature es canonical)) in
    let (w', a) = type_skeletons es canonical frees x k tt in
    let (w, r) = checks_skeletons es canonical frees y w' tt a in
    let g : Grows s s' = type_adds es frees x k.numbered in
    let g' : Grows s' s'' = checks_adds es frees y w'.numbered in
    let Ψ : ℕ → Option LfType = s''.metavariables in
    let U : (ℕ → Option Term) → Type 0 = IsFilling (signature_of es) [] (store_of s'') in
    let h = fillings_half (signature_of es) [] (store_of s'') in
    let d = total_types (signature_of es) s'' w in
    let i = within_itself es canonical s'' w in
    let i' = within_before es canonical Ψ U h d s' s'' g' i in
    let n = nothing_has_skeletons (signature_of es) (canonical_is_signature es canonical) in
    let t₀ = frees_typed es canonical Ψ U h d f n.numbered (within_before es canonical Ψ U h d s s' g i') (nothing_typed es canonical Ψ U h d) in
    let (t', b) = type_typed es canonical Ψ U h d frees x k.numbered i' tt t₀ in
    let (t, q) = checks_typed_up_to es canonical Ψ U h d frees y w'.numbered i tt b t' in
    term_made es canonical s'' w t R A (type_grows (signature_of es) (canonical_is_signature es canonical) s' s'' g' [] A a) r b q

pub elaborated_kind_made : ElaboratedKindIsMade
elaborated_kind_made es canonical ts frees s s' V K f x =
    let k : StateHasSkeletons (signature_of es) s = frees_skeletons es canonical f (nothing_has_skeletons (signature_of es) (canonical_is_signature es canonical)) in
    let (w, a) = kind_skeletons es canonical frees x k tt in
    let g : Grows s s' = kind_adds es frees x k.numbered in
    let Ψ : ℕ → Option LfType = s'.metavariables in
    let U : (ℕ → Option Term) → Type 0 = IsFilling (signature_of es) [] (store_of s') in
    let h = fillings_half (signature_of es) [] (store_of s') in
    let d = total_types (signature_of es) s' w in
    let i = within_itself es canonical s' w in
    let n = nothing_has_skeletons (signature_of es) (canonical_is_signature es canonical) in
    let t₀ = frees_typed es canonical Ψ U h d f n.numbered (within_before es canonical Ψ U h d s s' g i) (nothing_typed es canonical Ψ U h d) in
    let (t, b) = kind_typed es canonical Ψ U h d frees x k.numbered i tt t₀ in
    kind_made es canonical s' w t K a b

-- skeletons of all that is elaborated
stays : (Σ : Signature) (ok : IsSignature Σ) (D : List LfType) (s s' : State) → Grows s s' → StateHasSkeletons Σ s' → LocalHasSkeletons Σ s D → StaysBySkeletons Σ D s s'
stays Σ ok D s s' g w l = record { state = w; local = local_grows Σ ok s s' g D l; next = g.next; metavariables = g.keeps; types = λ A a. type_grows Σ ok s s' g D A a }

pub elaborated_skeletons : ElaboratedHasSkeletons
elaborated_skeletons es canonical frees D s s' w l =
    let Σ : Signature = signature_of es in
    let ok : IsSignature Σ = canonical_is_signature es canonical in (
      (λ M R A x. let (w', r, a) = infers_skeletons es canonical frees x w l in (stays Σ ok D s s' (infers_adds es frees x w.numbered) w' l, r, a)),
      (λ M A R a x. let (w', r) = checks_skeletons es canonical frees x w l a in (stays Σ ok D s s' (checks_adds es frees x w.numbered) w' l, r)),
      (λ V A x. let (w', a) = type_skeletons es canonical frees x w l in (stays Σ ok D s s' (type_adds es frees x w.numbered) w' l, a)),
      (λ d A x. let (w', a) = domain_skeletons es canonical frees x w l in (stays Σ ok D s s' (domain_adds es frees x w.numbered) w' l, a)),
      (λ V a S L x. let (w', r, k) = family_skeletons_of es canonical frees x w l in (stays Σ ok D s s' (family_adds es frees x w.numbered) w' l, (r, k))),
      (λ V K x. let (w', k) = kind_skeletons es canonical frees x w l in (stays Σ ok D s s' (kind_adds es frees x w.numbered) w' l, k)),
    )

pub nothing_skeletons : NothingHasSkeletons
nothing_skeletons es canonical =
    let n : StateHasSkeletons (signature_of es) nothing_yet = nothing_has_skeletons (signature_of es) (canonical_is_signature es canonical) in
    (n, λ ts frees s f. frees_skeletons es canonical f n)
