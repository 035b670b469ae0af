-- What is elaborated has skeletons.
use Rattle.std.proofs.Common.{◌≡◌, ℕ, zero, suc, ◌<◌, ◌≤◌, List, [], ◌∷◌, Option, Some, None, ◌⊎◌, inl, inr, refl, sym, ap, ap₂, ◌∙◌, subst, arith}
use Rattle.std.specs.Prelude.{Bool, cond, false, length, true}
use Rattle.lf.specs.Entries.{Body, BodyIsTyped, Entry, IsCanonicalSignature, declare_constant, declare_definition, declare_family, entry, kind_of, kind_of_body, signature_of, type_of, type_of_body}
use Rattle.lf.specs.Eta.{add_last, eta_expand}
use Rattle.lf.specs.SkeletonTyping.{HeadSkeletons, KindBySkeletons, SkeletonAt, RenamingBySkeletons, SpineSkeleton, TermSkeleton, TypeBySkeletons}
use Rattle.lf.specs.Skeletons.{family_skeleton, family_skeletons, type_skeleton}
use Rattle.lf.specs.Substitution.{reduce, single, substitute}
use Rattle.lf.specs.Syntax.{Kind, LfType, Skeleton, Spine, Term, app, arrow, atom, base, constant, kind_pi, kind_skeleton, lambda, lift_renaming, metavariable, nil, pi, rename_kind, rename_spine, rename_type, root, skeleton, star, variable}
use Rattle.lf.specs.Typing.{HasType, IsKind, IsSignature, IsType, Signature, TypeAt, instantiate_kind}
use Rattle.lf.specs.Variables.{onto, same_number}
use Rattle.lf.proofs.Closed.{closed_kind_renamed, closed_type_renamed}
use Rattle.lf.proofs.Entries.{canonical_is_signature, kinds_kept, types_kept}
use Rattle.lf.proofs.Eta.{eta_expand_has_skeleton}
use Rattle.lf.proofs.Growth.{growth_keeps_kinds, growth_keeps_types, growth_keeps_typing}
use Rattle.lf.proofs.SkeletonTypes.{renaming_keeps_types_by_skeletons, single_kind_by_skeletons, single_type_by_skeletons}
use Rattle.lf.proofs.SkeletonTyping.{reduction_keeps_skeletons, renaming_by_skeletons_under_binder, renaming_keeps_skeletons, renaming_keeps_spine_skeletons, single_by_skeletons, substitution_keeps_skeletons}
use Rattle.lf.proofs.ToSkeletons.{kind_by_skeletons_with, kind_skeleton_substituted, type_by_skeletons_with, typed_has_skeleton_with}
use Rattle.lf.proofs.TypeLaws.{skeleton_renamed, skeleton_substituted}
use Rattle.lf_elaboration.specs.Elaboration.{Checks, ElaboratesDomain, ElaboratesFamily, ElaboratesKind, ElaboratesType, Infers, KindTakesNew, NewFrees, NewType, TakesAllNew, TakesNew, takes_none, takes_next, kind_takes_none, kind_takes_next, takes_all, takes_first, new_atom, new_pi, no_frees, next_free, at_free, at_bound, at_constant, at_definition, at_hole, at_function, at_applied, at_ascribed, checks_hole, checks_function, checks_inferred, at_type_hole, at_arrow, at_quantified, at_family, at_type_ascribed, at_of_skeleton, at_of_type, at_family_name, at_family_applied, at_family_ascribed, at_star, at_kind_arrow, at_kind_quantified}
use Rattle.lf_elaboration.specs.Skeletons.{EquationsHaveSkeletons, IsNumbered, KindHasSkeletons, LocalHasSkeletons, StateHasSkeletons, TermHasSkeleton, TypeHasSkeletons, heads_of}
use Rattle.lf_elaboration.specs.State.{State, index_equations, kind_equations, nothing_yet, type_equations, with_equations, with_metavariable}
use Rattle.lf_elaboration.specs.Written.{Written, WrittenDomain, WrittenKind, WrittenType}
use Rattle.lf_unification.specs.Lists.{followed}
use Rattle.lf_unification.specs.Offering.{local_arguments, pi_over, raised, spine_equations}
use Rattle.lf_unification.specs.OpenTyping.{MetavariablesIn, MetavariablesInSpine, MetavariablesInType, set_at, weaken_past}
use Rattle.lf_unification.specs.Patterns.{eta_variable, local_skeletons}
use Rattle.lf_unification.specs.Unifiers.{Equation}
use Rattle.lf_unification.proofs.Agree.{set_here}
use Rattle.lf_unification.proofs.Eta.{SpineSkeleton-add_last, rename_id, skeletons_zero}
use Rattle.lf_unification.proofs.Offer.{decide, set_other}
use Rattle.lf_unification.proofs.OpenSound.{skeleton_raise}
use Rattle.lf_elaboration.proofs.Differing.{differing_have}
use Rattle.lf_elaboration.proofs.Adds.{Grows, adds_equations, adds_metavariable, checks_adds, domain_adds, family_adds, infers_adds, kind_adds, kind_takes_adds, new_type_adds, takes_adds, takes_all_adds, type_adds}

-- more heads have skeletons
module _ (κ κ' : HeadSkeletons) (constants : (c : ℕ) (t : Skeleton) → κ.constant_skeleton c ≡ Some t → κ'.constant_skeleton c ≡ Some t) (metavariables : (m : ℕ) (t : Skeleton) → κ.metavariable_skeleton m ≡ Some t → κ'.metavariable_skeleton m ≡ Some t) where
  mutual
    pub more_heads : (Γ : List Skeleton) (M : Term) (t : Skeleton) → TermSkeleton κ Γ M t → TermSkeleton κ' Γ M t
    more_heads Γ (lambda M) (arrow a b) m = more_heads (a ∷ Γ) M b m
    more_heads Γ (lambda M) (base c) m = m
    more_heads Γ (root h S) (arrow a b) m = m
    more_heads Γ (root (constant c) S) (base b) (t, e, s) = (t, constants c t e, more_heads_spine Γ S t (base b) s)
    more_heads Γ (root (variable i) S) (base b) (t, e, s) = (t, e, more_heads_spine Γ S t (base b) s)
    more_heads Γ (root (metavariable m) S) (base b) (t, e, s) = (t, metavariables m t e, more_heads_spine Γ S t (base b) s)

    pub more_heads_spine : (Γ : List Skeleton) (S : Spine) (t u : Skeleton) → SpineSkeleton κ Γ S t u → SpineSkeleton κ' Γ S t u
    more_heads_spine Γ nil t u s = s
    more_heads_spine Γ (app M S) (arrow a b) u (m, s) = (more_heads Γ M a m, more_heads_spine Γ S b u s)
    more_heads_spine Γ (app M S) (base c) u s = s

  pub more_heads_type : (φ : ℕ → Option Skeleton) (Γ : List Skeleton) (A : LfType) → TypeBySkeletons φ κ Γ A → TypeBySkeletons φ κ' Γ A
  more_heads_type φ Γ (pi A B) (a, b) = (more_heads_type φ Γ A a, more_heads_type φ (skeleton A ∷ Γ) B b)
  more_heads_type φ Γ (atom a S) (t, e, s) = (t, e, more_heads_spine Γ S t (base a) s)

  pub more_heads_kind : (φ : ℕ → Option Skeleton) (Γ : List Skeleton) (K : Kind) → KindBySkeletons φ κ Γ K → KindBySkeletons φ κ' Γ K
  more_heads_kind φ Γ (kind_pi A K) (a, k) = (more_heads_type φ Γ A a, more_heads_kind φ (skeleton A ∷ Γ) K k)
  more_heads_kind φ Γ star k = k

-- only what has a skeleton is mentioned
module _ (κ : HeadSkeletons) (V : ℕ → Type 0) (known : (m : ℕ) (t : Skeleton) → κ.metavariable_skeleton m ≡ Some t → V m) where
  mutual
    pub mentions_known : (Γ : List Skeleton) (M : Term) (t : Skeleton) → TermSkeleton κ Γ M t → MetavariablesIn V M
    mentions_known Γ (lambda M) (arrow a b) m = mentions_known (a ∷ Γ) M b m
    mentions_known Γ (lambda M) (base c) m = absurd m
    mentions_known Γ (root h S) (arrow a b) m = absurd m
    mentions_known Γ (root (constant c) S) (base b) (t, e, s) = spine_mentions_known Γ S t (base b) s
    mentions_known Γ (root (variable i) S) (base b) (t, e, s) = spine_mentions_known Γ S t (base b) s
    mentions_known Γ (root (metavariable m) S) (base b) (t, e, s) = (known m t e, spine_mentions_known Γ S t (base b) s)

    pub spine_mentions_known : (Γ : List Skeleton) (S : Spine) (t u : Skeleton) → SpineSkeleton κ Γ S t u → MetavariablesInSpine V S
    spine_mentions_known Γ nil t u s = tt
    spine_mentions_known Γ (app M S) (arrow a b) u (m, s) = (mentions_known Γ M a m, spine_mentions_known Γ S b u s)
    spine_mentions_known Γ (app M S) (base c) u s = absurd s

  pub type_mentions_known : (φ : ℕ → Option Skeleton) (Γ : List Skeleton) (A : LfType) → TypeBySkeletons φ κ Γ A → MetavariablesInType V A
  type_mentions_known φ Γ (pi A B) (a, b) = (type_mentions_known φ Γ A a, type_mentions_known φ (skeleton A ∷ Γ) B b)
  type_mentions_known φ Γ (atom a S) (t, e, s) = spine_mentions_known Γ S t (base a) s

local_variable : (D : List LfType) (i : ℕ) (A : LfType) → TypeAt (onto D []) i A → SkeletonAt (local_skeletons D []) i (skeleton A)
local_variable [] i A g = absurd g
local_variable (B ∷ D) zero A e = sym (ap skeleton e ∙ skeleton_renamed suc B)
local_variable (B ∷ D) (suc i) A (C, g, e) = subst (SkeletonAt (local_skeletons D []) i) (sym (ap skeleton e ∙ skeleton_renamed suc C)) (local_variable D i C g)

-- the local variables
module _ (κ : HeadSkeletons) where
  local_arguments_skeletons : (D : List LfType) (B : LfType) → SpineSkeleton κ (local_skeletons D []) (local_arguments D) (skeleton (pi_over D B)) (skeleton B)
  local_arguments_skeletons [] B = refl
  local_arguments_skeletons (A ∷ D) B = SpineSkeleton-add_last κ (skeleton A ∷ local_skeletons D []) (rename_spine suc (local_arguments D)) (eta_variable (skeleton A) zero) (skeleton (pi_over D (pi A B))) (skeleton A) (skeleton B)
      (renaming_keeps_spine_skeletons κ (local_skeletons D []) (skeleton A ∷ local_skeletons D []) suc (local_arguments D) (skeleton (pi_over D (pi A B))) (arrow (skeleton A) (skeleton B)) (λ i t g. g) (local_arguments_skeletons D (pi A B)))
      (skeletons_zero κ (skeleton A) (local_skeletons D []))

-- a type closed over its local context, and moved into one
module _ (φ : ℕ → Option Skeleton) (κ : HeadSkeletons) where
  -- a type of the empty context is one of each
  pub from_empty : (Γ : List Skeleton) (ρ : ℕ → ℕ) (A : LfType) → TypeBySkeletons φ κ [] A → TypeBySkeletons φ κ Γ (rename_type ρ A)
  from_empty Γ ρ A a = renaming_keeps_types_by_skeletons φ κ [] Γ ρ A (λ i t g. absurd g) a

  pub weakened_past : (D : List LfType) (A : LfType) → TypeBySkeletons φ κ [] A → TypeBySkeletons φ κ (local_skeletons D []) (weaken_past D A)
  weakened_past [] A a = a
  weakened_past (B ∷ D) A a = renaming_keeps_types_by_skeletons φ κ (local_skeletons D []) (skeleton B ∷ local_skeletons D []) suc (weaken_past D A) (λ i t g. g) (weakened_past D A a)

below_or_from : (m n : ℕ) → (m < n) ⊎ (n ≤ m)
below_or_from zero zero = inr (omega arith)
below_or_from zero (suc n) = inl (omega arith)
below_or_from (suc m) zero = inr (omega arith)
below_or_from (suc m) (suc n) = go (below_or_from m n)
  where
    go : (m < n) ⊎ (n ≤ m) → (suc m < suc n) ⊎ (suc n ≤ suc m)
    go (inl h) = inl (omega (arith, h))
    go (inr h) = inr (omega (arith, h))

-- what is declared has a number below the next one
pub declared_below : (s : State) → IsNumbered s → (m : ℕ) (A : LfType) → s.metavariables m ≡ Some A → m < s.next
declared_below s n m A e = go (below_or_from m s.next)
  where
    go : (m < s.next) ⊎ (s.next ≤ m) → m < s.next
    go (inl h) = h
    go (inr h) = (let p : Some A ≡ None = sym e ∙ n.fresh m h in absurd (cc))

-- renamed kinds
pub renamed_kind : (φ : ℕ → Option Skeleton) (κ : HeadSkeletons) (Γ Δ : List Skeleton) (ρ : ℕ → ℕ) (K : Kind) → RenamingBySkeletons Γ Δ ρ → KindBySkeletons φ κ Γ K → KindBySkeletons φ κ Δ (rename_kind ρ K)
renamed_kind φ κ Γ Δ ρ (kind_pi A K) g (a, k) = (renaming_keeps_types_by_skeletons φ κ Γ Δ ρ A g a, subst (λ t. KindBySkeletons φ κ (t ∷ Δ) (rename_kind (lift_renaming ρ) K)) (sym (skeleton_renamed ρ A)) (renamed_kind φ κ (skeleton A ∷ Γ) (skeleton A ∷ Δ) (lift_renaming ρ) K (renaming_by_skeletons_under_binder Γ Δ ρ (skeleton A) g) k))
renamed_kind φ κ Γ Δ ρ star g k = k

module _ (Σ : Signature) (ok : IsSignature Σ) where
  abbrev φ : ℕ → Option Skeleton
  φ = family_skeletons Σ

  kept_skeleton : (s s' : State) → Grows s s' → (m : ℕ) (t : Skeleton) → type_skeleton (s.metavariables m) ≡ Some t → type_skeleton (s'.metavariables m) ≡ Some t
  kept_skeleton s s' g m t = go (s.metavariables m) refl
    where
      go : (x : Option LfType) → s.metavariables m ≡ x → type_skeleton x ≡ Some t → type_skeleton (s'.metavariables m) ≡ Some t
      go None q e = absurd (cc)
      go (Some A) q e = ap type_skeleton (g.keeps m A q) ∙ e

  pub type_grows : (s s' : State) → Grows s s' → (D : List LfType) (A : LfType) → TypeHasSkeletons Σ s D A → TypeHasSkeletons Σ s' D A
  type_grows s s' g D A a = more_heads_type (heads_of Σ s) (heads_of Σ s') (λ c t e. e) (kept_skeleton s s' g) φ (local_skeletons D []) A a

  pub kind_grows : (s s' : State) → Grows s s' → (D : List LfType) (K : Kind) → KindHasSkeletons Σ s D K → KindHasSkeletons Σ s' D K
  kind_grows s s' g D K k = more_heads_kind (heads_of Σ s) (heads_of Σ s') (λ c t e. e) (kept_skeleton s s' g) φ (local_skeletons D []) K k

  pub term_grows : (s s' : State) → Grows s s' → (D : List LfType) (M : Term) (A : LfType) → TermHasSkeleton Σ s D M A → TermHasSkeleton Σ s' D M A
  term_grows s s' g D M A m = more_heads (heads_of Σ s) (heads_of Σ s') (λ c t e. e) (kept_skeleton s s' g) (local_skeletons D []) M (skeleton A) m

  pub spine_grows : (s s' : State) → Grows s s' → (D : List LfType) (S : Spine) (t u : Skeleton) → SpineSkeleton (heads_of Σ s) (local_skeletons D []) S t u → SpineSkeleton (heads_of Σ s') (local_skeletons D []) S t u
  spine_grows s s' g D S t u m = more_heads_spine (heads_of Σ s) (heads_of Σ s') (λ c t e. e) (kept_skeleton s s' g) (local_skeletons D []) S t u m

  pub local_grows : (s s' : State) → Grows s s' → (D : List LfType) → LocalHasSkeletons Σ s D → LocalHasSkeletons Σ s' D
  local_grows s s' g [] l = tt
  local_grows s s' g (A ∷ D) (l, a) = (local_grows s s' g D l, type_grows s s' g D A a)

  equations_grow : (s s' : State) → Grows s s' → (es : List Equation) → EquationsHaveSkeletons Σ s es → EquationsHaveSkeletons Σ s' es
  equations_grow s s' g [] w = tt
  equations_grow s s' g (e ∷ es) (w, ws) = (
    record { local = local_grows s s' g e.local w.local; of_type = type_grows s s' g e.local e.of_type w.of_type; left = term_grows s s' g e.local e.left e.of_type w.left; right = term_grows s s' g e.local e.right e.of_type w.right },
    equations_grow s s' g es ws,
  )

  have_followed : (s : State) (es fs : List Equation) → EquationsHaveSkeletons Σ s es → EquationsHaveSkeletons Σ s fs → EquationsHaveSkeletons Σ s (followed es fs)
  have_followed s [] fs w v = v
  have_followed s (e ∷ es) fs (x, w) v = (x, have_followed s es fs w v)

  -- a type of the local context is one in it
  pub local_type : (s : State) (D : List LfType) → LocalHasSkeletons Σ s D → (i : ℕ) (A : LfType) → TypeAt (onto D []) i A → TypeHasSkeletons Σ s D A
  local_type s [] l i A g = absurd g
  local_type s (B ∷ D) (l, b) zero A e = subst (TypeHasSkeletons Σ s (B ∷ D)) (sym e) (renaming_keeps_types_by_skeletons φ (heads_of Σ s) (local_skeletons D []) (skeleton B ∷ local_skeletons D []) suc B (λ i t g. g) b)
  local_type s (B ∷ D) (l, b) (suc i) A (C, g, e) = subst (TypeHasSkeletons Σ s (B ∷ D)) (sym e) (renaming_keeps_types_by_skeletons φ (heads_of Σ s) (local_skeletons D []) (skeleton B ∷ local_skeletons D []) suc C (λ i t g. g) (local_type s D l i C g))

  -- a declared type or kind
  pub constant_type : (s : State) (D : List LfType) (A : LfType) → IsType Σ [] A → TypeHasSkeletons Σ s D A
  constant_type s D A a = subst (TypeHasSkeletons Σ s D) (closed_type_renamed Σ (λ i. i) A a) (from_empty φ (heads_of Σ s) (local_skeletons D []) (λ i. i) A (type_by_skeletons_with Σ (λ m. type_skeleton (s.metavariables m)) [] A a))

  pub kind_closed : (s : State) (D : List LfType) (K : Kind) → IsKind Σ [] K → KindHasSkeletons Σ s D K
  kind_closed s D K k = subst (KindHasSkeletons Σ s D) (closed_kind_renamed Σ (λ i. i) K k) (renamed_kind φ (heads_of Σ s) [] (local_skeletons D []) (λ i. i) K (λ i t g. absurd g) (kind_by_skeletons_with Σ (λ m. type_skeleton (s.metavariables m)) [] K k))

  pub closed_term_skeleton : (s : State) (D : List LfType) (N : Term) (B : LfType) → HasType Σ [] N B → TermHasSkeleton Σ s D N B
  closed_term_skeleton s D N B n = subst (λ M. TermHasSkeleton Σ s D M B) (rename_id N) (renaming_keeps_skeletons (heads_of Σ s) [] (local_skeletons D []) (λ i. i) N (skeleton B) (λ i t g. absurd g) (typed_has_skeleton_with Σ (λ m. type_skeleton (s.metavariables m)) [] N B n))

  closed_over : (s : State) (D : List LfType) (A : LfType) → LocalHasSkeletons Σ s D → TypeHasSkeletons Σ s D A → TypeHasSkeletons Σ s [] (pi_over D A)
  closed_over s [] A l a = a
  closed_over s (B ∷ D) A (l, b) a = closed_over s D (pi B A) l (b, a)

  -- only smaller numbers are mentioned
  older_than_next : (s : State) → IsNumbered s → (A : LfType) → TypeHasSkeletons Σ s [] A → MetavariablesInType (λ k. k < s.next) A
  older_than_next s n A a = type_mentions_known (heads_of Σ s) (λ k. k < s.next) known φ [] A a
    where
      known : (m : ℕ) (t : Skeleton) → type_skeleton (s.metavariables m) ≡ Some t → m < s.next
      known m t e = go (s.metavariables m) refl e
        where
          go : (x : Option LfType) → s.metavariables m ≡ x → type_skeleton x ≡ Some t → m < s.next
          go None q f = absurd (cc)
          go (Some B) q f = declared_below s n m B q

  -- one metavariable more
  pub new_state : (D : List LfType) (A : LfType) (s : State) → StateHasSkeletons Σ s → LocalHasSkeletons Σ s D → TypeHasSkeletons Σ s D A → StateHasSkeletons Σ (with_metavariable D A s)
  new_state D A s w l a = record { numbered = g.numbered; types = types; older = older; equations = equations_grow s (with_metavariable D A s) g s.equations w.equations }
    where
      g : Grows s (with_metavariable D A s)
      g = adds_metavariable D A s w.numbered

      P : LfType
      P = pi_over D A

      closed : TypeHasSkeletons Σ s [] (pi_over D A)
      closed = closed_over s D A l a

      here : (m : ℕ) (B : LfType) → m ≡ s.next → set_at s.next (Some (pi_over D A)) s.metavariables m ≡ Some B → pi_over D A ≡ B
      here m B q e = (let p : Some (pi_over D A) ≡ Some B = sym (set_here s.next (Some (pi_over D A)) s.metavariables) ∙ ap (set_at s.next (Some (pi_over D A)) s.metavariables) (sym q) ∙ e in cc)

      there : (m : ℕ) (B : LfType) → (m ≡ s.next → ⊥) → set_at s.next (Some (pi_over D A)) s.metavariables m ≡ Some B → s.metavariables m ≡ Some B
      there m B d e = sym (set_other s.next (Some (pi_over D A)) s.metavariables m d) ∙ e

      types : (m : ℕ) (B : LfType) → set_at s.next (Some (pi_over D A)) s.metavariables m ≡ Some B → TypeHasSkeletons Σ (with_metavariable D A s) [] B
      types m B e = go (decide m s.next)
        where
          go : (m ≡ s.next) ⊎ (m ≡ s.next → ⊥) → TypeHasSkeletons Σ (with_metavariable D A s) [] B
          go (inl q) = subst (TypeHasSkeletons Σ (with_metavariable D A s) []) (here m B q e) (type_grows s (with_metavariable D A s) g [] (pi_over D A) closed)
          go (inr d) = type_grows s (with_metavariable D A s) g [] B (w.types m B (there m B d e))

      older : (m : ℕ) (B : LfType) → set_at s.next (Some (pi_over D A)) s.metavariables m ≡ Some B → MetavariablesInType (λ k. k < m) B
      older m B e = go (decide m s.next)
        where
          go : (m ≡ s.next) ⊎ (m ≡ s.next → ⊥) → MetavariablesInType (λ k. k < m) B
          go (inl q) = subst (MetavariablesInType (λ k. k < m)) (here m B q e) (subst (λ n. MetavariablesInType (λ k. k < n) (pi_over D A)) (sym q) (older_than_next s w.numbered (pi_over D A) closed))
          go (inr d) = w.older m B (there m B d e)

  -- at the local variables it is a term of its type
  pub raised_skeleton : (D : List LfType) (A : LfType) (s : State) → TermHasSkeleton Σ (with_metavariable D A s) D (raised D A s.next) A
  raised_skeleton D A s = eta_expand_has_skeleton (heads_of Σ (with_metavariable D A s)) (skeleton A) (skeleton (pi_over D A)) (local_skeletons D []) (metavariable s.next) (local_arguments D) (ap type_skeleton (set_here s.next (Some (pi_over D A)) s.metavariables)) (local_arguments_skeletons (heads_of Σ (with_metavariable D A s)) D A)

  -- more equations
  pub more_equations : (es : List Equation) (s : State) → EquationsHaveSkeletons Σ s es → StateHasSkeletons Σ s → StateHasSkeletons Σ (with_equations es s)
  more_equations es s v w =
      let g : Grows s (with_equations es s) = adds_equations es s w.numbered in
      record { numbered = g.numbered; types = w.types; older = w.older; equations = equations_grow s (with_equations es s) g (followed s.equations es) (have_followed s s.equations es w.equations v) }

  indices_have : (s : State) (D : List LfType) (a : ℕ) (K : Kind) (S T : Spine) → LocalHasSkeletons Σ s D → KindHasSkeletons Σ s D K → SpineSkeleton (heads_of Σ s) (local_skeletons D []) S (kind_skeleton a K) (base a) → SpineSkeleton (heads_of Σ s) (local_skeletons D []) T (kind_skeleton a K) (base a) → EquationsHaveSkeletons Σ s (spine_equations D K S T)
  indices_have s D a (kind_pi A K) (app M S) (app N T) l (x, k) (m, p) (n, q) = (
    record { local = l; of_type = x; left = m; right = n },
    indices_have s D a (instantiate_kind A M K) S T l (single_kind_by_skeletons φ (heads_of Σ s) (skeleton A) (local_skeletons D []) M K m k)
        (subst (λ t. SpineSkeleton (heads_of Σ s) (local_skeletons D []) S t (base a)) (sym (kind_skeleton_substituted a reduce (single (skeleton A) M) K)) p)
        (subst (λ t. SpineSkeleton (heads_of Σ s) (local_skeletons D []) T t (base a)) (sym (kind_skeleton_substituted a reduce (single (skeleton A) M) K)) q),
  )
  indices_have s D a (kind_pi A K) (app M S) nil l k p q = tt
  indices_have s D a (kind_pi A K) nil T l k p q = tt
  indices_have s D a star S T l k p q = tt

  family_indices_have : (s : State) (D : List LfType) (a : ℕ) (x : Option Kind) (S T : Spine) (t u : Skeleton) → Σ.kinds a ≡ x → LocalHasSkeletons Σ s D → family_skeleton a x ≡ Some t → family_skeleton a x ≡ Some u → SpineSkeleton (heads_of Σ s) (local_skeletons D []) S t (base a) → SpineSkeleton (heads_of Σ s) (local_skeletons D []) T u (base a) → EquationsHaveSkeletons Σ s (index_equations Σ x D S T)
  family_indices_have s D a None S T t u e l p q m n = tt
  family_indices_have s D a (Some K) S T t u e l p q m n = differing_have Σ s (spine_equations D K S T) (indices_have s D a K S T l (kind_closed s D K (ok.kinds_ok a K e))
      (subst (λ t. SpineSkeleton (heads_of Σ s) (local_skeletons D []) S t (base a)) (sym (let r : kind_skeleton a K ≡ t = cc in r)) m)
      (subst (λ t. SpineSkeleton (heads_of Σ s) (local_skeletons D []) T t (base a)) (sym (let r : kind_skeleton a K ≡ u = cc in r)) n))

  -- the equations of two types of one skeleton
  pub type_equations_have : (s : State) (D : List LfType) (A X : LfType) → LocalHasSkeletons Σ s D → TypeHasSkeletons Σ s D A → TypeHasSkeletons Σ s D X → skeleton A ≡ skeleton X → EquationsHaveSkeletons Σ s (type_equations Σ D A X)
  type_equations_have s D (pi A B) (pi X Y) l (a, b) (x, y) e =
      let p : skeleton A ≡ skeleton X = cc in
      let q : skeleton B ≡ skeleton Y = cc in
      have_followed s (type_equations Σ D A X) (type_equations Σ (A ∷ D) B Y) (type_equations_have s D A X l a x p) (type_equations_have s (A ∷ D) B Y (l, a) b (subst (λ t. TypeBySkeletons φ (heads_of Σ s) (t ∷ local_skeletons D []) Y) (sym p) y) q)
  type_equations_have s D (atom a S) (atom b T) l (t, e, m) (u, f, n) h =
      let p : b ≡ a = cc in
      family_indices_have s D a (Σ.kinds a) S T t u refl l e (subst (λ c. family_skeletons Σ c ≡ Some u) p f) m (subst (λ c. SpineSkeleton (heads_of Σ s) (local_skeletons D []) T u (base c)) p n)
  type_equations_have s D (pi A B) (atom b T) l a x e = tt
  type_equations_have s D (atom a S) (pi X Y) l a' x e = tt

  pub kind_equations_have : (s : State) (D : List LfType) (K L : Kind) → LocalHasSkeletons Σ s D → KindHasSkeletons Σ s D K → KindHasSkeletons Σ s D L → kind_skeleton zero K ≡ kind_skeleton zero L → EquationsHaveSkeletons Σ s (kind_equations Σ D K L)
  kind_equations_have s D (kind_pi A K) (kind_pi X L) l (a, k) (x, y) e =
      let p : skeleton A ≡ skeleton X = cc in
      let q : kind_skeleton zero K ≡ kind_skeleton zero L = cc in
      have_followed s (type_equations Σ D A X) (kind_equations Σ (A ∷ D) K L) (type_equations_have s D A X l a x p) (kind_equations_have s (A ∷ D) K L (l, a) k (subst (λ t. KindBySkeletons φ (heads_of Σ s) (t ∷ local_skeletons D []) L) (sym p) y) q)
  kind_equations_have s D (kind_pi A K) star l k y e = tt
  kind_equations_have s D star L l k y e = tt

  pub nothing_has_skeletons : StateHasSkeletons Σ nothing_yet
  nothing_has_skeletons = record { numbered = record { fresh = λ m h. refl; full = λ m h. absurd (omega arith) }; types = λ m A e. absurd (cc); older = λ m A e. absurd (cc); equations = tt }

  -- new metavariables for the first arguments of a type
  pub takes_skeletons : {k : ℕ} {D : List LfType} {A C : LfType} {s s' : State} {S : Spine} → TakesNew k D A s s' S C → StateHasSkeletons Σ s → LocalHasSkeletons Σ s D → TypeHasSkeletons Σ s D A →
      StateHasSkeletons Σ s' × SpineSkeleton (heads_of Σ s') (local_skeletons D []) S (skeleton A) (skeleton C) × TypeHasSkeletons Σ s' D C
  takes_skeletons takes_none w l a = (w, refl, a)
  takes_skeletons {D = D} (takes_next {A = A} {B = B} {C = C} {s = s} {s' = s'} {S = S} t) w l (a, b) =
      let s₁ : State = with_metavariable D A s in
      let g : Grows s s₁ = adds_metavariable D A s w.numbered in
      let w₁ : StateHasSkeletons Σ s₁ = new_state D A s w l a in
      let m : TermHasSkeleton Σ s₁ D (raised D A s.next) A = raised_skeleton D A s in
      let (w', r, c) = takes_skeletons t w₁ (local_grows s s₁ g D l) (single_type_by_skeletons φ (heads_of Σ s₁) (skeleton A) (local_skeletons D []) (raised D A s.next) B m (more_heads_type (heads_of Σ s) (heads_of Σ s₁) (λ c t e. e) (kept_skeleton s s₁ g) φ (skeleton A ∷ local_skeletons D []) B b)) in
      (w', (term_grows s₁ s' (takes_adds t g.numbered) D (raised D A s.next) A m, subst (λ x. SpineSkeleton (heads_of Σ s') (local_skeletons D []) S x (skeleton C)) (skeleton_substituted reduce (single (skeleton A) (raised D A s.next)) B) r), c)

  -- of a kind
  pub kind_takes_skeletons : (a : ℕ) {k : ℕ} {D : List LfType} {K L : Kind} {s s' : State} {S : Spine} → KindTakesNew k D K s s' S L → StateHasSkeletons Σ s → LocalHasSkeletons Σ s D → KindHasSkeletons Σ s D K →
      StateHasSkeletons Σ s' × SpineSkeleton (heads_of Σ s') (local_skeletons D []) S (kind_skeleton a K) (kind_skeleton a L) × KindHasSkeletons Σ s' D L
  kind_takes_skeletons a kind_takes_none w l k = (w, refl, k)
  kind_takes_skeletons a {D = D} (kind_takes_next {A = A} {K = K} {L = L} {s = s} {s' = s'} {S = S} t) w l (x, k) =
      let s₁ : State = with_metavariable D A s in
      let g : Grows s s₁ = adds_metavariable D A s w.numbered in
      let w₁ : StateHasSkeletons Σ s₁ = new_state D A s w l x in
      let m : TermHasSkeleton Σ s₁ D (raised D A s.next) A = raised_skeleton D A s in
      let (w', r, c) = kind_takes_skeletons a t w₁ (local_grows s s₁ g D l) (single_kind_by_skeletons φ (heads_of Σ s₁) (skeleton A) (local_skeletons D []) (raised D A s.next) K m (more_heads_kind (heads_of Σ s) (heads_of Σ s₁) (λ c t e. e) (kept_skeleton s s₁ g) φ (skeleton A ∷ local_skeletons D []) K k)) in
      (w', (term_grows s₁ s' (kind_takes_adds t g.numbered) D (raised D A s.next) A m, subst (λ x. SpineSkeleton (heads_of Σ s') (local_skeletons D []) S x (kind_skeleton a L)) (kind_skeleton_substituted a reduce (single (skeleton A) (raised D A s.next)) K) r), c)

  -- all arguments of a kind
  pub takes_all_skeletons : (a : ℕ) {D : List LfType} {K : Kind} {s s' : State} {S : Spine} → TakesAllNew D K s s' S → StateHasSkeletons Σ s → LocalHasSkeletons Σ s D → KindHasSkeletons Σ s D K →
      StateHasSkeletons Σ s' × SpineSkeleton (heads_of Σ s') (local_skeletons D []) S (kind_skeleton a K) (base a)
  takes_all_skeletons a takes_all w l k = (w, refl)
  takes_all_skeletons a {D = D} (takes_first {A = A} {K = K} {s = s} {s' = s'} {S = S} t) w l (x, k) =
      let s₁ : State = with_metavariable D A s in
      let g : Grows s s₁ = adds_metavariable D A s w.numbered in
      let w₁ : StateHasSkeletons Σ s₁ = new_state D A s w l x in
      let m : TermHasSkeleton Σ s₁ D (raised D A s.next) A = raised_skeleton D A s in
      let (w', r) = takes_all_skeletons a t w₁ (local_grows s s₁ g D l) (single_kind_by_skeletons φ (heads_of Σ s₁) (skeleton A) (local_skeletons D []) (raised D A s.next) K m (more_heads_kind (heads_of Σ s) (heads_of Σ s₁) (λ c t e. e) (kept_skeleton s s₁ g) φ (skeleton A ∷ local_skeletons D []) K k)) in
      (w', (term_grows s₁ s' (takes_all_adds t g.numbered) D (raised D A s.next) A m, subst (λ x. SpineSkeleton (heads_of Σ s') (local_skeletons D []) S x (base a)) (kind_skeleton_substituted a reduce (single (skeleton A) (raised D A s.next)) K) r))

-- the declared bodies
module _ (es : List Entry) where
  pub type_declared : (c : ℕ) (e : Entry) (B : LfType) → entry es c ≡ Some e → e.body ≡ declare_constant B → (signature_of es).types c ≡ Some B
  type_declared c e B q b = ap type_of q ∙ ap type_of_body b

  pub kind_declared : (a : ℕ) (e : Entry) (K : Kind) → entry es a ≡ Some e → e.body ≡ declare_family K → (signature_of es).kinds a ≡ Some K
  kind_declared a e K q b = ap kind_of q ∙ ap kind_of_body b

-- each entry is typed over the whole signature
pub entry_typed : (es : List Entry) → IsCanonicalSignature es → (c : ℕ) (e : Entry) → entry es c ≡ Some e → BodyIsTyped (signature_of es) e.body
entry_typed [] o c e q = absurd (cc)
entry_typed (f ∷ es) (o, k) c e q = grown e.body (at (λ h. entry_typed es o c e h) (same_number c (length es)) q)
  where
    at : (entry es c ≡ Some e → BodyIsTyped (signature_of es) e.body) → (b : Bool) → cond b (Some f) (entry es c) ≡ Some e → BodyIsTyped (signature_of es) e.body
    at ih true h = subst (BodyIsTyped (signature_of es)) (ap (λ x. x.body) (let p : f ≡ e = cc in p)) k.typed
    at ih false h = ih h

    grown : (b : Body) → BodyIsTyped (signature_of es) b → BodyIsTyped (signature_of (f ∷ es)) b
    grown (declare_family K) t = growth_keeps_kinds (signature_of es) (signature_of (f ∷ es)) (types_kept f es) (kinds_kept f es) [] K t
    grown (declare_constant A) t = growth_keeps_types (signature_of es) (signature_of (f ∷ es)) (types_kept f es) (kinds_kept f es) [] A t
    grown (declare_definition M A b) (t, m) = (growth_keeps_types (signature_of es) (signature_of (f ∷ es)) (types_kept f es) (kinds_kept f es) [] A t, growth_keeps_typing (signature_of es) (signature_of (f ∷ es)) (types_kept f es) (kinds_kept f es) [] M A m)

module _ (es : List Entry) (canonical : IsCanonicalSignature es) where
  abbrev Σ : Signature
  Σ = signature_of es

  abbrev ok : IsSignature (signature_of es)
  ok = canonical_is_signature es canonical

  pub new_type_skeletons : {D : List LfType} {t : Skeleton} {s s' : State} {A : LfType} → NewType es D t s s' A → StateHasSkeletons Σ s → LocalHasSkeletons Σ s D → StateHasSkeletons Σ s' × TypeHasSkeletons Σ s' D A × (skeleton A ≡ t)
  new_type_skeletons {D = D} (new_atom {a = a} {K = K} {s = s} {s' = s'} e t) w l =
      let (w', r) = takes_all_skeletons Σ ok a t w l (kind_closed Σ ok s D K (ok.kinds_ok a K e)) in
      (w', (kind_skeleton a K, ap (family_skeleton a) e, r), refl)
  new_type_skeletons {D = D} (new_pi {s = s} {s' = s'} {s'' = s''} {A = A} {B = B} x y) w l =
      let (w', a, p) = new_type_skeletons x w l in
      let g : Grows s s' = new_type_adds es x w.numbered in
      let (w'', b, q) = new_type_skeletons y w' (local_grows Σ ok s s' g D l, a) in
      (w'', (type_grows Σ ok s' s'' (new_type_adds es y w'.numbered) D A a, b), ap₂ arrow p q)

  pub frees_skeletons : {ts : List Skeleton} {s s' : State} {ms : List ℕ} → NewFrees es ts s s' ms → StateHasSkeletons Σ s → StateHasSkeletons Σ s'
  frees_skeletons no_frees w = w
  frees_skeletons (next_free {s' = s'} {A = A} t f) w = let (w', a, p) = new_type_skeletons t w tt in frees_skeletons f (new_state Σ ok [] A s' w' tt a)

  module _ (frees : List ℕ) where
    mutual
      pub infers_skeletons : {D : List LfType} {M : Written} {s s' : State} {R : Term} {A : LfType} → Infers es frees D M s s' R A → StateHasSkeletons Σ s → LocalHasSkeletons Σ s D → StateHasSkeletons Σ s' × TermHasSkeleton Σ s' D R A × TypeHasSkeletons Σ s' D A
      infers_skeletons {D = D} (at_free {m = m} {B = B} {s = s} f e) w l =
          (w, subst (TermSkeleton (heads_of Σ s) (local_skeletons D []) (eta_expand (skeleton B) (metavariable m) nil)) (sym (skeleton_raise D B)) (eta_expand_has_skeleton (heads_of Σ s) (skeleton B) (skeleton B) (local_skeletons D []) (metavariable m) nil (ap type_skeleton e) refl), weakened_past (family_skeletons Σ) (heads_of Σ s) D B (w.types m B e))
      infers_skeletons {D = D} (at_bound {i = i} {A = A} {s = s} g) w l =
          (w, eta_expand_has_skeleton (heads_of Σ s) (skeleton A) (skeleton A) (local_skeletons D []) (variable i) nil (local_variable D i A g) refl, local_type Σ ok s D l i A g)
      infers_skeletons {D = D} (at_constant {c = c} {e = e} {B = B} {A = A} {s = s} {s' = s'} {S = S} q b t) w l =
          let d : Σ.types c ≡ Some B = type_declared es c e B q b in
          let (w', r, a) = takes_skeletons Σ ok t w l (constant_type Σ ok s D B (ok.types_ok c B d)) in
          (w', eta_expand_has_skeleton (heads_of Σ s') (skeleton A) (skeleton B) (local_skeletons D []) (constant c) S (ap type_skeleton d) r, a)
      infers_skeletons {D = D} (at_definition {c = c} {e = e} {N = N} {B = B} {A = A} {b = d} {s = s} {s' = s'} {S = S} q b t) w l =
          let (x, n) = subst (BodyIsTyped Σ) b (entry_typed es canonical c e q) in
          let (w', r, a) = takes_skeletons Σ ok t w l (constant_type Σ ok s D B x) in
          (w', reduction_keeps_skeletons (heads_of Σ s') (skeleton B) (local_skeletons D []) N S (skeleton A) (closed_term_skeleton Σ ok s' D N B n) r, a)
      infers_skeletons {D = D} (at_hole {A = A} {s = s} {s' = s'} t) w l =
          let (w', a, p) = new_type_skeletons t w l in
          let l' : LocalHasSkeletons Σ s' D = local_grows Σ ok s s' (new_type_adds es t w.numbered) D l in
          (new_state Σ ok D A s' w' l' a, raised_skeleton Σ ok D A s', type_grows Σ ok s' (with_metavariable D A s') (adds_metavariable D A s' w'.numbered) D A a)
      infers_skeletons {D = D} (at_function {A = A} {B = B} {R = R} {s = s} {s' = s'} {s'' = s''} d i) w l =
          let (w', a) = domain_skeletons d w l in
          let (w'', r, b) = infers_skeletons i w' (local_grows Σ ok s s' (domain_adds es frees d w.numbered) D l, a) in
          (w'', r, (type_grows Σ ok s' s'' (infers_adds es frees i w'.numbered) D A a, b))
      infers_skeletons {D = D} (at_applied {A = A} {B = B} {R = R} {Q = Q} {s = s} {s' = s'} {s'' = s''} i c) w l =
          let (w', r, (a, b)) = infers_skeletons i w l in
          let (w'', q) = checks_skeletons c w' (local_grows Σ ok s s' (infers_adds es frees i w.numbered) D l) a in
          let g : Grows s' s'' = checks_adds es frees c w'.numbered in
          let r' : TermHasSkeleton Σ s'' D (lambda R) (pi A B) = term_grows Σ ok s' s'' g D (lambda R) (pi A B) r in
          let ab : TypeHasSkeletons Σ s'' D (pi A B) = type_grows Σ ok s' s'' g D (pi A B) (a, b) in (
            w'',
            subst (TermSkeleton (heads_of Σ s'') (local_skeletons D []) (substitute reduce (single (skeleton A) Q) R)) (sym (skeleton_substituted reduce (single (skeleton A) Q) B)) (substitution_keeps_skeletons (heads_of Σ s'') (skeleton A ∷ local_skeletons D []) (local_skeletons D []) (single (skeleton A) Q) R (skeleton B) (single_by_skeletons (heads_of Σ s'') (skeleton A) (local_skeletons D []) Q q) r'),
            single_type_by_skeletons (family_skeletons Σ) (heads_of Σ s'') (skeleton A) (local_skeletons D []) Q B q ab.1,
          )
      infers_skeletons {D = D} (at_ascribed {A = A} {R = R} {s = s} {s' = s'} {s'' = s''} t c) w l =
          let (w', a) = type_skeletons t w l in
          let (w'', r) = checks_skeletons c w' (local_grows Σ ok s s' (type_adds es frees t w.numbered) D l) a in
          (w'', r, type_grows Σ ok s' s'' (checks_adds es frees c w'.numbered) D A a)

      pub checks_skeletons : {D : List LfType} {M : Written} {A : LfType} {s s' : State} {R : Term} → Checks es frees D M A s s' R → StateHasSkeletons Σ s → LocalHasSkeletons Σ s D → TypeHasSkeletons Σ s D A → StateHasSkeletons Σ s' × TermHasSkeleton Σ s' D R A
      checks_skeletons {D = D} (checks_hole {A = A} {s = s} e) w l a = (new_state Σ ok D A s w l a, raised_skeleton Σ ok D A s)
      checks_skeletons {D = D} (checks_function {A = A} {B = B} {X = X} {R = R} {s = s} {s' = s'} {s'' = s''} t p c) w l (a, b) =
          let (w', x) = domain_skeletons t w l in
          let g : Grows s s' = domain_adds es frees t w.numbered in
          let ab : TypeHasSkeletons Σ s' D (pi A B) = type_grows Σ ok s s' g D (pi A B) (a, b) in
          checks_skeletons c (more_equations Σ ok (type_equations Σ D X A) s' (type_equations_have Σ ok s' D X A (local_grows Σ ok s s' g D l) x ab.0 p) w') (local_grows Σ ok s s' g D l, ab.0) ab.1
      checks_skeletons {D = D} (checks_inferred {A = A} {X = X} {R = R} {s = s} {s' = s'} n i p) w l a =
          let (w', r, x) = infers_skeletons i w l in
          let g : Grows s s' = infers_adds es frees i w.numbered in
          (more_equations Σ ok (type_equations Σ D X A) s' (type_equations_have Σ ok s' D X A (local_grows Σ ok s s' g D l) x (type_grows Σ ok s s' g D A a) p) w', subst (TermSkeleton (heads_of Σ s') (local_skeletons D []) R) p r)

      pub type_skeletons : {D : List LfType} {V : WrittenType} {s s' : State} {A : LfType} → ElaboratesType es frees D V s s' A → StateHasSkeletons Σ s → LocalHasSkeletons Σ s D → StateHasSkeletons Σ s' × TypeHasSkeletons Σ s' D A
      type_skeletons (at_type_hole t) w l = let (w', a, p) = new_type_skeletons t w l in (w', a)
      type_skeletons {D = D} (at_arrow {A = A} {B = B} {s = s} {s' = s'} {s'' = s''} x y) w l =
          let (w', a) = type_skeletons x w l in
          let (w'', b) = type_skeletons y w' (local_grows Σ ok s s' (type_adds es frees x w.numbered) D l) in
          (w'', (type_grows Σ ok s' s'' (type_adds es frees y w'.numbered) D A a, renaming_keeps_types_by_skeletons (family_skeletons Σ) (heads_of Σ s'') (local_skeletons D []) (skeleton A ∷ local_skeletons D []) suc B (λ i t g. g) b))
      type_skeletons {D = D} (at_quantified {A = A} {B = B} {s = s} {s' = s'} {s'' = s''} d y) w l =
          let (w', a) = domain_skeletons d w l in
          let (w'', b) = type_skeletons y w' (local_grows Σ ok s s' (domain_adds es frees d w.numbered) D l, a) in
          (w'', (type_grows Σ ok s' s'' (type_adds es frees y w'.numbered) D A a, b))
      type_skeletons {D = D} (at_family {a = a} {S = S} f) w l = let (w', (K, e, r), k) = family_skeletons_of f w l in (w', (kind_skeleton a K, ap (family_skeleton a) e, r))
      type_skeletons (at_type_ascribed t) w l = type_skeletons t w l

      pub domain_skeletons : {D : List LfType} {d : WrittenDomain} {s s' : State} {A : LfType} → ElaboratesDomain es frees D d s s' A → StateHasSkeletons Σ s → LocalHasSkeletons Σ s D → StateHasSkeletons Σ s' × TypeHasSkeletons Σ s' D A
      domain_skeletons (at_of_skeleton t) w l = let (w', a, p) = new_type_skeletons t w l in (w', a)
      domain_skeletons (at_of_type t) w l = type_skeletons t w l

      pub family_skeletons_of : {D : List LfType} {V : WrittenType} {s s' : State} {a : ℕ} {S : Spine} {L : Kind} → ElaboratesFamily es frees D V s s' a S L → StateHasSkeletons Σ s → LocalHasSkeletons Σ s D →
          StateHasSkeletons Σ s' × ((K : Kind) × (Σ.kinds a ≡ Some K) × SpineSkeleton (heads_of Σ s') (local_skeletons D []) S (kind_skeleton a K) (kind_skeleton a L)) × KindHasSkeletons Σ s' D L
      family_skeletons_of {D = D} (at_family_name {a = a} {e = e} {K = K} {s = s} q b t) w l =
          let d : Σ.kinds a ≡ Some K = kind_declared es a e K q b in
          let (w', r, k) = kind_takes_skeletons Σ ok a t w l (kind_closed Σ ok s D K (ok.kinds_ok a K d)) in
          (w', (K, d, r), k)
      family_skeletons_of {D = D} (at_family_applied {a = a} {S = S} {A = A} {K = L} {Q = Q} {s = s} {s' = s'} {s'' = s''} f c) w l =
          let (w', (K, d, r), (x, k)) = family_skeletons_of f w l in
          let (w'', q) = checks_skeletons c w' (local_grows Σ ok s s' (family_adds es frees f w.numbered) D l) x in
          let g : Grows s' s'' = checks_adds es frees c w'.numbered in
          let r' : SpineSkeleton (heads_of Σ s'') (local_skeletons D []) S (kind_skeleton a K) (arrow (skeleton A) (kind_skeleton a L)) = spine_grows Σ ok s' s'' g D S (kind_skeleton a K) (arrow (skeleton A) (kind_skeleton a L)) r in
          let k' : KindHasSkeletons Σ s'' D (kind_pi A L) = kind_grows Σ ok s' s'' g D (kind_pi A L) (x, k) in (
            w'',
            (K, d, subst (SpineSkeleton (heads_of Σ s'') (local_skeletons D []) (add_last S Q) (kind_skeleton a K)) (sym (kind_skeleton_substituted a reduce (single (skeleton A) Q) L)) (SpineSkeleton-add_last (heads_of Σ s'') (local_skeletons D []) S Q (kind_skeleton a K) (skeleton A) (kind_skeleton a L) r' q)),
            single_kind_by_skeletons (family_skeletons Σ) (heads_of Σ s'') (skeleton A) (local_skeletons D []) Q L q k'.1,
          )
      family_skeletons_of {D = D} (at_family_ascribed {A = A} {K = K} {L = L} {s = s} {s' = s'} {s'' = s''} k f p) w l =
          let (w', x) = kind_skeletons k w l in
          let (w'', r, y) = family_skeletons_of f w' (local_grows Σ ok s s' (kind_adds es frees k w.numbered) D l) in
          let g : Grows s' s'' = family_adds es frees f w'.numbered in
          let l' : LocalHasSkeletons Σ s' D = local_grows Σ ok s s' (kind_adds es frees k w.numbered) D l in
          (more_equations Σ ok (kind_equations Σ D (kind_pi A K) L) s'' (kind_equations_have Σ ok s'' D (kind_pi A K) L (local_grows Σ ok s' s'' g D l') y (kind_grows Σ ok s' s'' g D L x) p) w'', r, y)

      pub kind_skeletons : {D : List LfType} {k : WrittenKind} {s s' : State} {K : Kind} → ElaboratesKind es frees D k s s' K → StateHasSkeletons Σ s → LocalHasSkeletons Σ s D → StateHasSkeletons Σ s' × KindHasSkeletons Σ s' D K
      kind_skeletons at_star w l = (w, tt)
      kind_skeletons {D = D} (at_kind_arrow {A = A} {K = K} {s = s} {s' = s'} {s'' = s''} x y) w l =
          let (w', a) = type_skeletons x w l in
          let (w'', k) = kind_skeletons y w' (local_grows Σ ok s s' (type_adds es frees x w.numbered) D l) in
          (w'', (type_grows Σ ok s' s'' (kind_adds es frees y w'.numbered) D A a, renamed_kind (family_skeletons Σ) (heads_of Σ s'') (local_skeletons D []) (skeleton A ∷ local_skeletons D []) suc K (λ i t g. g) k))
      kind_skeletons {D = D} (at_kind_quantified {A = A} {K = K} {s = s} {s' = s'} {s'' = s''} d y) w l =
          let (w', a) = domain_skeletons d w l in
          let (w'', k) = kind_skeletons y w' (local_grows Σ ok s s' (domain_adds es frees d w.numbered) D l, a) in
          (w'', (type_grows Σ ok s' s'' (kind_adds es frees y w'.numbered) D A a, k))
