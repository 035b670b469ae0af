-- Putting the bindings in keeps fillings, skeletons and typing up to U.
use Rattle.std.proofs.Common.{◌≡◌, ℕ, zero, suc, List, [], ◌∷◌, Option, Some, inl, inr, refl, sym, ap, ap₂, ◌∙◌, subst}
use mathlib.Core.Path.{fun_ext}
use Rattle.lf.specs.SkeletonTyping.{SpineSkeleton, TermSkeleton, TypeBySkeletons}
use Rattle.lf.specs.Skeletons.{context_skeletons, family_skeletons}
use Rattle.lf.specs.Subordination.{Member}
use Rattle.lf.specs.Substitution.{reduce}
use Rattle.lf.specs.Syntax.{Kind, Skeleton, Spine, Term, LfType, app, arrow, atom, base, constant, kind_pi, lambda, lift_renaming, metavariable, pi, rename, rename_type, root, skeleton, star, variable}
use Rattle.lf.specs.Typing.{IsSignature, Signature, instantiate_kind, instantiate_type}
use Rattle.lf.proofs.Renaming.{renamings_compose}
use Rattle.lf.proofs.Rules.{rules_agree_reduction}
use Rattle.lf.proofs.SkeletonTyping.{reduction_keeps_skeletons, renaming_keeps_skeletons}
use Rattle.lf_unification.specs.Filling.{fill, fill_metavariable, fill_spine, fill_type, moved, rename_value}
use Rattle.lf_unification.specs.OpenTyping.{DeclarationsAreTyped, MetavariablesIn, MetavariablesInSpine, MetavariablesInType, OpenHasType, OpenIsType, OpenSpineFitsKind, OpenSpineType, TypesAgree, skeletons_of, under_locals, weaken_past}
use Rattle.lf_unification.specs.PartialInstance.{PartialInstance}
use Rattle.lf_unification.specs.Patterns.{beyond, local_skeletons}
use Rattle.lf_unification.specs.Putting.{PutsIn, PutsInSpine, PutsInType, PutsSome, PutsSomeSpine, Unbound, binders, put_at_bound, put_at_rigid, put_at_unbound, put_in_argument, put_in_atom, put_in_pi, put_nothing, put_nowhere, put_under_lambda, some_at_bound, some_in_argument, some_in_arguments, some_nowhere, some_under_lambda}
use Rattle.lf_unification.specs.Rigid.{past_binders}
use Rattle.lf_unification.specs.Skeletons.{TotalSkeletons, as_head_skeletons, skeleton_or_default, total_skeletons}
use Rattle.lf_unification.specs.Unifiers.{Binding, BindingsAreTyped, Respects}
use Rattle.lf_unification.proofs.Decompose.{known_id, next_ok, same_next}
use Rattle.lf_unification.proofs.Eta.{rename_id, rename_id_type}
use Rattle.lf_unification.proofs.Exhaust.{past_binders_zero}
use Rattle.lf_unification.proofs.Filling.{SkeletonsFill, SkeletonsFill-weak, fill_rename, reduced_fill}
use Rattle.lf_unification.proofs.Indices.{metavariables_skeletons, skeletons_U}
use Rattle.lf_unification.proofs.OpenEta.{Into, OpenHasType-rename}
use Rattle.lf_unification.proofs.OpenRenamingBack.{Known-lift_renaming, OpenIsType-unrename, SkeletonsUpTo, constant_by_skeletons, raise_moved}
use Rattle.lf_unification.proofs.OpenSound.{OpenHasType-by_skeletons, skeleton_raise, skeletons_under}
use Rattle.lf_unification.proofs.OpenSubstitution.{Ok, ContextBySkeletons, push, reduction_typed, spine_convert}
use Rattle.lf_unification.proofs.Fillings.{TypeBySkeletonsUpTo-of}
use Rattle.lf_unification.proofs.Raise.{local_skeleton_fill}
use Rattle.lf_unification.proofs.Scope.{in_reduced, in_rename}
use Rattle.lf_unification.proofs.SubstitutionUpTo.{KindBySkeletonsAt, closed_kind, kind_convert, next_kind, same_next_kind}

-- what is put in has no bound metavariable
mutual
  pub put_unbound : {Ψ : ℕ → Option LfType} {bs : List Binding} {k : ℕ} {M M' : Term} → PutsIn Ψ bs k M M' → MetavariablesIn (Unbound bs) M'
  put_unbound (put_under_lambda d) = put_unbound d
  put_unbound (put_at_rigid (constant c) r d) = put_unbound_spine d
  put_unbound (put_at_rigid (variable i) r d) = put_unbound_spine d
  put_unbound (put_at_rigid (metavariable m) r d) = absurd r
  put_unbound (put_at_unbound u d) = (u, put_unbound_spine d)
  put_unbound (put_at_bound b i d r e) = put_unbound e

  put_unbound_spine : {Ψ : ℕ → Option LfType} {bs : List Binding} {k : ℕ} {S S' : Spine} → PutsInSpine Ψ bs k S S' → MetavariablesInSpine (Unbound bs) S'
  put_unbound_spine put_nowhere = tt
  put_unbound_spine (put_in_argument d e) = (put_unbound d, put_unbound_spine e)

pub respects_at : (μ : ℕ → Skeleton) (β : ℕ → Option Term) (bs : List Binding) → Respects μ β bs → (b : Binding) → Member b bs → β b.of ≡ Some (fill μ β b.value)
respects_at μ β [] r b i = absurd i
respects_at μ β (c ∷ bs) (e, r) b (inl q) = subst (λ x. β x.of ≡ Some (fill μ β x.value)) (sym q) e
respects_at μ β (c ∷ bs) (e, r) b (inr i) = respects_at μ β bs r b i

pub typed_at : (Σ : Signature) (G : List LfType) (Ψ : ℕ → Option LfType) (U : (ℕ → Option Term) → Type 0) (bs : List Binding) → BindingsAreTyped Σ G Ψ U bs → (b : Binding) → Member b bs → (B : LfType) × (Ψ b.of ≡ Some B) × OpenHasType Σ G Ψ U [] b.value B
typed_at Σ G Ψ U [] w b i = absurd i
typed_at Σ G Ψ U (c ∷ bs) (t, w) b (inl q) = subst (λ x. (B : LfType) × (Ψ x.of ≡ Some B) × OpenHasType Σ G Ψ U [] x.value B) (sym q) t
typed_at Σ G Ψ U (c ∷ bs) (t, w) b (inr i) = typed_at Σ G Ψ U bs w b i

-- all bindings put in are some
mutual
  pub put_some : {Ψ : ℕ → Option LfType} {bs : List Binding} {k : ℕ} {M M' : Term} → PutsIn Ψ bs k M M' → PutsSome Ψ bs k M M'
  put_some (put_under_lambda d) = some_under_lambda (put_some d)
  put_some (put_at_rigid h r d) = some_in_arguments h (put_some_spine d)
  put_some (put_at_unbound {m = m} u d) = some_in_arguments (metavariable m) (put_some_spine d)
  put_some (put_at_bound b i d r e) = some_at_bound b i (put_some_spine d) r (put_some e)

  pub put_some_spine : {Ψ : ℕ → Option LfType} {bs : List Binding} {k : ℕ} {S S' : Spine} → PutsInSpine Ψ bs k S S' → PutsSomeSpine Ψ bs k S S'
  put_some_spine put_nowhere = some_nowhere
  put_some_spine (put_in_argument d e) = some_in_argument (put_some d) (put_some_spine e)

-- what stands in a set that is closed under values stays in it
mutual
  pub some_within : {Ψ : ℕ → Option LfType} {bs : List Binding} {k : ℕ} {M M' : Term} → PutsSome Ψ bs k M M' → (V : ℕ → Type 0) → ((b : Binding) → Member b bs → V b.of → MetavariablesIn V b.value) → MetavariablesIn V M → MetavariablesIn V M'
  some_within put_nothing V c i = i
  some_within (some_under_lambda d) V c i = some_within d V c i
  some_within (some_in_arguments (constant n) d) V c i = some_within_spine d V c i
  some_within (some_in_arguments (variable n) d) V c i = some_within_spine d V c i
  some_within (some_in_arguments (metavariable n) d) V c (v, i) = (v, some_within_spine d V c i)
  some_within {Ψ = Ψ} {k = k} (some_at_bound {S' = S'} b j d r e) V c (v, i) =
      some_within e V c (subst (MetavariablesIn V) (sym (rules_agree_reduction r)) (in_reduced V (skeletons_of Ψ b.of) (rename (past_binders k) b.value) S' (in_rename V (past_binders k) b.value (c b j v)) (some_within_spine d V c i)))

  pub some_within_spine : {Ψ : ℕ → Option LfType} {bs : List Binding} {k : ℕ} {S S' : Spine} → PutsSomeSpine Ψ bs k S S' → (V : ℕ → Type 0) → ((b : Binding) → Member b bs → V b.of → MetavariablesIn V b.value) → MetavariablesInSpine V S → MetavariablesInSpine V S'
  some_within_spine some_nowhere V c i = i
  some_within_spine (some_in_argument d e) V c (i, j) = (some_within d V c i, some_within_spine e V c j)

pub put_type_within : {Ψ : ℕ → Option LfType} {bs : List Binding} {k : ℕ} {A A' : LfType} → PutsInType Ψ bs k A A' → (V : ℕ → Type 0) → ((b : Binding) → Member b bs → V b.of → MetavariablesIn V b.value) → MetavariablesInType V A → MetavariablesInType V A'
put_type_within (put_in_atom d) V c i = some_within_spine (put_some_spine d) V c i
put_type_within (put_in_pi d e) V c (i, j) = (put_type_within d V c i, put_type_within e V c j)

-- and a type keeps its skeleton
pub put_type_skeleton : {Ψ : ℕ → Option LfType} {bs : List Binding} {k : ℕ} {A A' : LfType} → PutsInType Ψ bs k A A' → skeleton A ≡ skeleton A'
put_type_skeleton (put_in_atom d) = refl
put_type_skeleton (put_in_pi d e) = ap₂ arrow (put_type_skeleton d) (put_type_skeleton e)

past_is_beyond : (D : List LfType) (i : ℕ) → past_binders (binders D) i ≡ beyond D i
past_is_beyond [] i = refl
past_is_beyond (A ∷ D) i = past_binders_zero (binders D) i ∙ ap suc (past_is_beyond D i)

module _ (Σ : Signature) (Ψ : ℕ → Option LfType) (bs : List Binding) where
  abbrev μ : ℕ → Skeleton
  μ = skeletons_of Ψ

  abbrev κ : TotalSkeletons
  κ = total_skeletons Σ μ

  -- a filling under k binders that respects the bindings, by skeletons
  pub record Ready (k : ℕ) (β : ℕ → Option Term) (Δ : List Skeleton) : Type 0 where
    pub values : SkeletonsFill κ Δ β
    pub bound : (b : Binding) → Member b bs → (β b.of ≡ Some (fill μ β (rename (past_binders k) b.value))) × TermSkeleton (as_head_skeletons κ) Δ (rename (past_binders k) b.value) (μ b.of)

  one_binder : (k : ℕ) (N : Term) → rename suc (rename (past_binders k) N) ≡ rename (past_binders (suc k)) N
  one_binder k N = renamings_compose suc (past_binders k) N ∙ ap (λ f. rename f N) (fun_ext (λ i. sym (past_binders_zero k i)))

  ready_under : (k : ℕ) (β : ℕ → Option Term) (Δ : List Skeleton) (a : Skeleton) → Ready k β Δ → Ready (suc k) (moved suc β) (a ∷ Δ)
  ready_under k β Δ a w = record { values = SkeletonsFill-weak κ a Δ β w.values; bound = go }
    where
      go : (b : Binding) → Member b bs → (moved suc β b.of ≡ Some (fill μ (moved suc β) (rename (past_binders (suc k)) b.value))) × TermSkeleton (as_head_skeletons κ) (a ∷ Δ) (rename (past_binders (suc k)) b.value) (μ b.of)
      go b i = let (e, t) = w.bound b i in (
        ap (rename_value suc) e ∙ ap Some (fill_rename μ suc β (rename (past_binders k) b.value) ∙ ap (fill μ (moved suc β)) (one_binder k b.value)),
        subst (λ N. TermSkeleton (as_head_skeletons κ) (a ∷ Δ) N (μ b.of)) (one_binder k b.value) (renaming_keeps_skeletons (as_head_skeletons κ) Δ (a ∷ Δ) suc (rename (past_binders k) b.value) (μ b.of) (λ i t g. g) t),
      )

  some_is : {a t : Skeleton} → Some a ≡ Some t → a ≡ t
  some_is e = cc

  -- THE theorem on fillings: what is put in has the same skeleton, and the same filling
  mutual
    pub some_fill : {k : ℕ} {M M' : Term} → PutsSome Ψ bs k M M' → (β : ℕ → Option Term) (Δ : List Skeleton) (t : Skeleton) → Ready k β Δ → TermSkeleton (as_head_skeletons κ) Δ M t → TermSkeleton (as_head_skeletons κ) Δ M' t × (fill μ β M ≡ fill μ β M')
    some_fill put_nothing β Δ t w m = (m, refl)
    some_fill {k = k} (some_under_lambda d) β Δ (arrow a b) w m = let (x, y) = some_fill d (moved suc β) (a ∷ Δ) b (ready_under k β Δ a w) m in (x, ap lambda y)
    some_fill (some_under_lambda d) β Δ (base c) w m = absurd m
    some_fill (some_in_arguments h d) β Δ (arrow a b) w m = absurd m
    some_fill (some_in_arguments (constant c) d) β Δ (base n) w (t, g, s) = let (x, y) = some_fill_spine d β Δ t (base n) w s in ((t, g, x), ap (root (constant c)) y)
    some_fill (some_in_arguments (variable i) d) β Δ (base n) w (t, g, s) = let (x, y) = some_fill_spine d β Δ t (base n) w s in ((t, g, x), ap (root (variable i)) y)
    some_fill (some_in_arguments (metavariable m) d) β Δ (base n) w (t, g, s) = let (x, y) = some_fill_spine d β Δ t (base n) w s in ((t, g, x), ap (fill_metavariable (μ m) m (β m)) y)
    some_fill (some_at_bound b i d r e) β Δ (arrow a c) w m = absurd m
    some_fill {k = k} (some_at_bound {S = S} {S' = S'} {R = R} b i d r e) β Δ (base n) w (t, g, s) =
        let N : Term = rename (past_binders k) b.value in
        let (f, v) = w.bound b i in
        let (x, y) = some_fill_spine d β Δ (μ b.of) (base n) w (subst (λ z. SpineSkeleton (as_head_skeletons κ) Δ S z (base n)) (sym (some_is g)) s) in
        let q : R ≡ reduce (μ b.of) N S' = rules_agree_reduction r in
        let z : TermSkeleton (as_head_skeletons κ) Δ R (base n) = subst (λ X. TermSkeleton (as_head_skeletons κ) Δ X (base n)) (sym q) (reduction_keeps_skeletons (as_head_skeletons κ) (μ b.of) Δ N S' (base n) v x) in
        let (j, l) = some_fill e β Δ (base n) w z in (
          j,
          ap (λ X. fill_metavariable (μ b.of) b.of X (fill_spine μ β S)) f ∙ ap (reduce (μ b.of) (fill μ β N)) y ∙ sym (reduced_fill κ (μ b.of) Δ β N S' (base n) w.values v x) ∙ ap (fill μ β) (sym q) ∙ l,
        )

    pub some_fill_spine : {k : ℕ} {S S' : Spine} → PutsSomeSpine Ψ bs k S S' → (β : ℕ → Option Term) (Δ : List Skeleton) (t u : Skeleton) → Ready k β Δ → SpineSkeleton (as_head_skeletons κ) Δ S t u → SpineSkeleton (as_head_skeletons κ) Δ S' t u × (fill_spine μ β S ≡ fill_spine μ β S')
    some_fill_spine some_nowhere β Δ t u w s = (s, refl)
    some_fill_spine (some_in_argument d e) β Δ (arrow a b) u w (m, s) = let (x, y) = some_fill d β Δ a w m in let (z, v) = some_fill_spine e β Δ b u w s in ((x, z), ap₂ app y v)
    some_fill_spine (some_in_argument d e) β Δ (base c) u w s = absurd s

  pub put_fill : {k : ℕ} {M M' : Term} → PutsIn Ψ bs k M M' → (β : ℕ → Option Term) (Δ : List Skeleton) (t : Skeleton) → Ready k β Δ → TermSkeleton (as_head_skeletons κ) Δ M t → TermSkeleton (as_head_skeletons κ) Δ M' t × (fill μ β M ≡ fill μ β M')
  put_fill d = some_fill (put_some d)

  pub put_type_fill : {k : ℕ} {A A' : LfType} → PutsInType Ψ bs k A A' → (φ : ℕ → Option Skeleton) (β : ℕ → Option Term) (Δ : List Skeleton) → Ready k β Δ → TypeBySkeletons φ (as_head_skeletons κ) Δ A → fill_type μ β A ≡ fill_type μ β A'
  put_type_fill (put_in_atom {a = a} d) φ β Δ w (t, g, s) = ap (atom a) (some_fill_spine (put_some_spine d) β Δ t (base a) w s).1
  put_type_fill {k = k} (put_in_pi {A = A} d e) φ β Δ w (a, b) = ap₂ pi (put_type_fill d φ β Δ w a) (put_type_fill e φ (moved suc β) (skeleton A ∷ Δ) (ready_under k β Δ (skeleton A) w) b)

  -- under a local context
  pub ready_at : (D : List LfType) (β : ℕ → Option Term) (Δ : List Skeleton) → SkeletonsFill κ Δ β → Respects μ β bs → ((b : Binding) → Member b bs → TermSkeleton (as_head_skeletons κ) Δ b.value (μ b.of)) → Ready (binders D) (under_locals D β) (local_skeletons D Δ)
  ready_at [] β Δ v r t = record {
    values = v;
    bound = λ b i. (respects_at μ β bs r b i ∙ ap (λ N. Some (fill μ β N)) (sym (rename_id b.value)), subst (λ N. TermSkeleton (as_head_skeletons κ) Δ N (μ b.of)) (sym (rename_id b.value)) (t b i));
  }
  ready_at (A ∷ D) β Δ v r t = ready_under (binders D) (under_locals D β) (local_skeletons D Δ) (skeleton A) (ready_at D β Δ v r t)

-- THE theorem on open terms: at each filling by skeletons that respects the bindings, a typed term and what it becomes are the same
pub some_same : (Σ : Signature) (ok : IsSignature Σ) (G : List LfType) (Ψ : ℕ → Option LfType) (U : (ℕ → Option Term) → Type 0) (bs : List Binding) → ((b : Binding) → Member b bs → (B : LfType) × (Ψ b.of ≡ Some B) × OpenHasType Σ G Ψ U [] b.value B) →
    (F : List LfType) (β : ℕ → Option Term) → PartialInstance Σ G Ψ (λ m. ⊥) F β → Respects (skeletons_of Ψ) β bs → (D : List LfType) (M M' : Term) (A : LfType) → OpenHasType Σ G Ψ U D M A → PutsSome Ψ bs (binders D) M M' → fill (skeletons_of Ψ) (under_locals D β) M ≡ fill (skeletons_of Ψ) (under_locals D β) M'
some_same Σ ok G Ψ U bs typed F β w r D M M' A m d =
    (some_fill Σ Ψ bs d (under_locals D β) (local_skeletons D (context_skeletons F)) (skeleton A)
    (ready_at Σ Ψ bs D β (context_skeletons F) (skeletons_under Σ ok G Ψ U (λ k. ⊥) F β w []) r
    (λ b i. let (B, e, t) = typed b i in subst (TermSkeleton (as_head_skeletons (total_skeletons Σ (skeletons_of Ψ))) (context_skeletons F) b.value) (sym (ap skeleton_or_default e)) (OpenHasType-by_skeletons Σ ok G Ψ U (λ k. ⊥) F β w [] b.value B t)))
    (subst (λ Γ. TermSkeleton (as_head_skeletons (total_skeletons Σ (skeletons_of Ψ))) Γ M (skeleton A)) (local_skeleton_fill (skeletons_of Ψ) β D F) (OpenHasType-by_skeletons Σ ok G Ψ U (λ k. ⊥) F β w D M A m))).1

pub put_type_same : (Σ : Signature) (ok : IsSignature Σ) (G : List LfType) (Ψ : ℕ → Option LfType) (U : (ℕ → Option Term) → Type 0) (bs : List Binding) → ((b : Binding) → Member b bs → (B : LfType) × (Ψ b.of ≡ Some B) × OpenHasType Σ G Ψ U [] b.value B) →
    (F : List LfType) (β : ℕ → Option Term) → PartialInstance Σ G Ψ (λ m. ⊥) F β → Respects (skeletons_of Ψ) β bs → (D : List LfType) (A A' : LfType) → TypeBySkeletons (family_skeletons Σ) (as_head_skeletons (total_skeletons Σ (skeletons_of Ψ))) (local_skeletons D (context_skeletons F)) A → PutsInType Ψ bs (binders D) A A' →
    fill_type (skeletons_of Ψ) (under_locals D β) A ≡ fill_type (skeletons_of Ψ) (under_locals D β) A'
put_type_same Σ ok G Ψ U bs typed F β w r D A A' a d =
    put_type_fill Σ Ψ bs d (family_skeletons Σ) (under_locals D β) (local_skeletons D (context_skeletons F))
    (ready_at Σ Ψ bs D β (context_skeletons F) (skeletons_under Σ ok G Ψ U (λ k. ⊥) F β w []) r
    (λ b i. let (B, e, t) = typed b i in subst (TermSkeleton (as_head_skeletons (total_skeletons Σ (skeletons_of Ψ))) (context_skeletons F) b.value) (sym (ap skeleton_or_default e)) (OpenHasType-by_skeletons Σ ok G Ψ U (λ k. ⊥) F β w [] b.value B t))) a

module _ (Σ : Signature) (ok : IsSignature Σ) (Ψ : ℕ → Option LfType) (U : (ℕ → Option Term) → Type 0) (declarations_typed : DeclarationsAreTyped Σ [] Ψ U) (half : (β : ℕ → Option Term) → U β → (F : List LfType) × PartialInstance Σ [] Ψ (λ m. ⊥) F β) (bs : List Binding) (typed : (b : Binding) → Member b bs → (B : LfType) × (Ψ b.of ≡ Some B) × OpenHasType Σ [] Ψ U [] b.value B) (respects : (β : ℕ → Option Term) → U β → Respects (skeletons_of Ψ) β bs) where
  abbrev SU : (β : ℕ → Option Term) → U β → SkeletonsUpTo Σ ok [] Ψ U β
  SU = skeletons_U Σ ok [] Ψ U declarations_typed half [] tt

  abbrev IsOk : List LfType → LfType → Type 0
  IsOk D A = Ok Σ ok Ψ U declarations_typed half D A

  MS : (D : List LfType) (m : ℕ) (B : LfType) → Ψ m ≡ Some B → IsOk D (weaken_past D B)
  MS D m B e = metavariables_skeletons Σ ok [] Ψ U declarations_typed half [] tt D m B e

  into_locals : (D : List LfType) → Into Σ ok [] Ψ U [] D (beyond D)
  into_locals D = record { outer = λ i. refl; types = λ i A g. absurd g }

  -- a value, moved under the binders of D
  value_in : (D : List LfType) (b : Binding) → Member b bs → (B : LfType) → Ψ b.of ≡ Some B → OpenHasType Σ [] Ψ U D (rename (past_binders (binders D)) b.value) (weaken_past D B)
  value_in D b i B g =
      let (B', e, t) = typed b i in
      let q : B' ≡ B = (let p : Some B' ≡ Some B = sym e ∙ g in cc) in
      subst (λ X. OpenHasType Σ [] Ψ U D (rename (past_binders (binders D)) b.value) X) (sym (raise_moved Σ ok [] Ψ U D B))
      (subst (λ f. OpenHasType Σ [] Ψ U D (rename f b.value) (rename_type (beyond D) B)) (sym (fun_ext (past_is_beyond D)))
      (OpenHasType-rename Σ ok [] Ψ U [] D (beyond D) b.value B (into_locals D) (subst (OpenHasType Σ [] Ψ U [] b.value) q t)))

  -- THE theorem on typing: what is put in is typed, up to U
  mutual
    pub some_typed : {k : ℕ} {M M' : Term} → PutsSome Ψ bs k M M' → (D : List LfType) (A : LfType) → k ≡ binders D → ContextBySkeletons Σ ok Ψ U declarations_typed half D → IsOk D A → OpenHasType Σ [] Ψ U D M A → OpenHasType Σ [] Ψ U D M' A
    some_typed put_nothing D A e h a m = m
    some_typed (some_under_lambda d) D (pi A B) e h a m = some_typed d (A ∷ D) B (ap suc e) (push Σ ok Ψ U declarations_typed half D A h (λ β u. (a β u).0)) (λ β u. (a β u).1) m
    some_typed (some_under_lambda d) D (atom c T) e h a m = absurd m
    some_typed (some_in_arguments x d) D (pi A B) e h a m = absurd m
    some_typed (some_in_arguments (constant c) d) D (atom n T) e h a (A, g, s) = (A, g, some_typed_spine d D A (atom n T) e h (constant_by_skeletons Σ ok [] Ψ U SU MS D c A g) a s)
    some_typed (some_in_arguments (variable i) d) D (atom n T) e h a (A, g, s) = (A, g, some_typed_spine d D A (atom n T) e h (h i A g) a s)
    some_typed (some_in_arguments (metavariable m) d) D (atom n T) e h a (A, (B, g, q), s) = (A, (B, g, q), some_typed_spine d D A (atom n T) e h (subst (IsOk D) (sym q) (MS D m B g)) a s)
    some_typed (some_at_bound b i d r f) D (pi A B) e h a m = absurd m
    some_typed {k = k} (some_at_bound {S' = S'} {R = R} b i d r f) D (atom n T) e h a (A, (B, g, q), s) =
        let s' : OpenSpineType Σ [] Ψ U D S' (weaken_past D B) (atom n T) = subst (λ X. OpenSpineType Σ [] Ψ U D S' X (atom n T)) q (some_typed_spine d D A (atom n T) e h (subst (IsOk D) (sym q) (MS D b.of B g)) a s) in
        let v : OpenHasType Σ [] Ψ U D (rename (past_binders k) b.value) (weaken_past D B) = subst (λ j. OpenHasType Σ [] Ψ U D (rename (past_binders j) b.value) (weaken_past D B)) (sym e) (value_in D b i B g) in
        let t : OpenHasType Σ [] Ψ U D R (atom n T) = subst (λ X. OpenHasType Σ [] Ψ U D X (atom n T)) (sym (rules_agree_reduction r)) (reduction_typed Σ ok Ψ U declarations_typed half (skeletons_of Ψ b.of) D (rename (past_binders k) b.value) S' (weaken_past D B) (atom n T) (skeleton_raise D B ∙ sym (ap skeleton_or_default g)) h (MS D b.of B g) a v s') in
        some_typed f D (atom n T) e h a t

    some_typed_spine : {k : ℕ} {S S' : Spine} → PutsSomeSpine Ψ bs k S S' → (D : List LfType) (A C : LfType) → k ≡ binders D → ContextBySkeletons Σ ok Ψ U declarations_typed half D → IsOk D A → IsOk D C → OpenSpineType Σ [] Ψ U D S A C → OpenSpineType Σ [] Ψ U D S' A C
    some_typed_spine some_nowhere D A C e h a c s = s
    some_typed_spine (some_in_argument d f) D (atom n T) C e h a c s = absurd s
    some_typed_spine (some_in_argument {M = M} {M' = M'} {S' = S'} d f) D (pi A B) C e h a c (m, s) =
        let m' : OpenHasType Σ [] Ψ U D M' A = some_typed d D A e h (λ β u. (a β u).0) m in
        let n : IsOk D (instantiate_type A M B) = next_ok Σ ok [] Ψ U SU MS D h A B M m a in
        let s' : OpenSpineType Σ [] Ψ U D S' (instantiate_type A M B) C = some_typed_spine f D (instantiate_type A M B) C e h n c s in (
          m',
          spine_convert Σ ok Ψ U declarations_typed half D h S' (instantiate_type A M' B) (instantiate_type A M B) C C (next_ok Σ ok [] Ψ U SU MS D h A B M' m' a) n
              (same_next Σ ok [] Ψ U SU MS D h A B A B M' M a a m' m (refl, λ β u. refl) (λ β u. sym (some_same Σ ok [] Ψ U bs typed (half β u).0 β (half β u).1 (respects β u) D M M' A m (subst (λ j. PutsSome Ψ bs j M M') e d))))
              (refl, λ β u. refl) s',
        )

  -- and so is a type
  some_typed_kind : {k : ℕ} {S S' : Spine} → PutsSomeSpine Ψ bs k S S' → (D : List LfType) (K : Kind) → k ≡ binders D → ContextBySkeletons Σ ok Ψ U declarations_typed half D → KindBySkeletonsAt Σ ok Ψ U SU MS D K → OpenSpineFitsKind Σ [] Ψ U D S K → OpenSpineFitsKind Σ [] Ψ U D S' K
  some_typed_kind some_nowhere D K e h a s = s
  some_typed_kind (some_in_argument d f) D star e h a s = absurd s
  some_typed_kind (some_in_argument {M = M} {M' = M'} {S' = S'} d f) D (kind_pi A K) e h a (m, s) =
      let m' : OpenHasType Σ [] Ψ U D M' A = some_typed d D A e h (λ β u. (a β u).0) m in
      let n : KindBySkeletonsAt Σ ok Ψ U SU MS D (instantiate_kind A M K) = next_kind Σ ok Ψ U SU MS D A M K m a in
      let s' : OpenSpineFitsKind Σ [] Ψ U D S' (instantiate_kind A M K) = some_typed_kind f D (instantiate_kind A M K) e h n s in (
        m',
        kind_convert Σ ok Ψ U SU MS D h S' (instantiate_kind A M' K) (instantiate_kind A M K) (next_kind Σ ok Ψ U SU MS D A M' K m' a) n
            (same_next_kind Σ ok Ψ U SU MS D A A K K M' M a a m' m (refl, λ β u. refl) (λ β u. sym (some_same Σ ok [] Ψ U bs typed (half β u).0 β (half β u).1 (respects β u) D M M' A m (subst (λ j. PutsSome Ψ bs j M M') e d)))) s',
      )

  type_ok : (D : List LfType) (A : LfType) → OpenIsType Σ [] Ψ U D A → IsOk D A
  type_ok D A a β u = TypeBySkeletonsUpTo-of Σ ok [] Ψ U D A a (half β u).0 β (half β u).1 u

  pub types_agree : (D : List LfType) (A A' : LfType) → OpenIsType Σ [] Ψ U D A → PutsInType Ψ bs (binders D) A A' → TypesAgree Σ [] Ψ U D A A'
  types_agree D A A' a d = (put_type_skeleton d, λ β u. put_type_same Σ ok [] Ψ U bs typed (half β u).0 β (half β u).1 (respects β u) D A A' (type_ok D A a β u) d)

  lifted_identity : (A : LfType) → rename_type (lift_renaming (λ i. i)) A ≡ A
  lifted_identity A = ap (λ f. rename_type f A) (fun_ext at) ∙ rename_id_type A
    where
      at : (i : ℕ) → lift_renaming (λ i. i) i ≡ i
      at zero = refl
      at (suc i) = refl

  pub put_type_typed : {k : ℕ} {A A' : LfType} → PutsInType Ψ bs k A A' → (D : List LfType) → k ≡ binders D → ContextBySkeletons Σ ok Ψ U declarations_typed half D → OpenIsType Σ [] Ψ U D A → OpenIsType Σ [] Ψ U D A'
  put_type_typed (put_in_atom {a = a} d) D e h (K, g, s) = (K, g, some_typed_kind (put_some_spine d) D K e h (closed_kind Σ ok Ψ U SU MS D a K g) s)
  put_type_typed (put_in_pi {A = A} {A' = A'} {B = B} {B' = B'} d f) D e h (a, b) =
      let a' : OpenIsType Σ [] Ψ U D A' = put_type_typed d D e h a in
      let b' : OpenIsType Σ [] Ψ U (A ∷ D) B' = put_type_typed f (A ∷ D) (ap suc e) (push Σ ok Ψ U declarations_typed half D A h (type_ok D A a)) b in
      (a', narrowed A A' B' D h a a' b' (types_agree D A A' a (subst (λ j. PutsInType Ψ bs j A A') e d)))
    where
      -- a type that stands under A stands under A', where these agree
      narrowed : (A A' B : LfType) (D : List LfType) → ContextBySkeletons Σ ok Ψ U declarations_typed half D → OpenIsType Σ [] Ψ U D A → OpenIsType Σ [] Ψ U D A' → OpenIsType Σ [] Ψ U (A ∷ D) B → TypesAgree Σ [] Ψ U D A A' → OpenIsType Σ [] Ψ U (A' ∷ D) B
      narrowed A A' B D h a a' b s =
          let q : rename_type (λ i. i) A' ≡ A' = rename_id_type A' in
          OpenIsType-unrename Σ ok [] Ψ U SU MS (A' ∷ D) (A ∷ D) (lift_renaming (λ i. i)) B
          (Known-lift_renaming Σ ok [] Ψ U SU D D (λ i. i) A' A (known_id Σ ok [] Ψ U SU MS D h) (subst (λ Z. TypesAgree Σ [] Ψ U D Z A) (sym q) (sym s.0, λ β u. sym (s.1 β u))) (subst (IsOk D) (sym q) (type_ok D A' a')) (type_ok D A a))
          (subst (IsOk (A ∷ D)) (sym (lifted_identity B)) (type_ok (A ∷ D) B b)) (subst (OpenIsType Σ [] Ψ U (A ∷ D)) (sym (lifted_identity B)) b)
