-- Each completion of a declaration is what a typed unifier of its store makes of it.
use Rattle.std.proofs.Common.{◌≡◌, ℕ, zero, suc, List, [], ◌∷◌, Option, Some, None, refl, sym, ap, ◌∙◌}
use Rattle.lf.specs.Entries.{Entry, IsCanonicalSignature, signature_of}
use Rattle.lf.specs.Syntax.{Kind, LfType, Skeleton, Term, kind_pi, star}
use Rattle.lf.specs.Typing.{IsContext, IsSignature, Signature}
use Rattle.lf.proofs.Entries.{canonical_is_signature}
use Rattle.lf_unification.specs.Filling.{fill, fill_type, moved}
use Rattle.lf_unification.specs.OpenTyping.{skeletons_of}
use Rattle.lf_unification.specs.Unifiers.{Solution}
use Rattle.lf_unification.proofs.Agree.{set_here}
use Rattle.lf_unification.proofs.OpenTypes.{fill_kind as filled_kind}
use Rattle.lf_elaboration.specs.Completions.{Completes, CompletesKind, CompletesType, FreeValue, FreesAreTyped}
use Rattle.lf_elaboration.specs.Elaboration.{Checks, ElaboratesKind, ElaboratesType, Infers, NewFrees, next_free, no_frees}
use Rattle.lf_elaboration.specs.Kinds.{fill_kind}
use Rattle.lf_elaboration.specs.Laws.{CompletionIsInstance, HasFreeValues}
use Rattle.lf_elaboration.specs.Skeletons.{TypeHasSkeletons}
use Rattle.lf_elaboration.specs.State.{State, nothing_yet, store_of, with_metavariable}
use Rattle.lf_elaboration.specs.Written.{Written, WrittenKind, WrittenType}
use Rattle.lf_elaboration.proofs.Adds.{Grows, adds_metavariable, checks_adds, frees_add, new_type_adds, adds_then}
use Rattle.lf_elaboration.proofs.Completed.{Found, checks_met, found_new, found_new_at, infers_met, kind_met, new_type_met, type_met}
use Rattle.lf_elaboration.proofs.Meeting.{FreesMeet, Kept, Meets, kept_further, type_kept}
use Rattle.lf_elaboration.proofs.Skeletons.{new_type_skeletons, nothing_has_skeletons, type_skeletons}

module _ (es : List Entry) (canonical : IsCanonicalSignature es) (F : List LfType) where
  abbrev Σ : Signature
  Σ = signature_of es

  abbrev ok : IsSignature (signature_of es)
  ok = canonical_is_signature es canonical

  abbrev Found₀ : State → State → (ℕ → Option Term) → Type 0
  Found₀ s s' β = Found es canonical F [] [] s s' [] β []

  one_more : (n : ℕ) (ms : List ℕ) (v : FreeValue) (vs : List FreeValue) (s : State) (β : ℕ → Option Term) (A : LfType) → s.metavariables n ≡ Some A → β n ≡ Some v.term → fill_type (skeletons_of s.metavariables) β A ≡ v.of_type → FreesMeet Σ ok F ms vs s β → FreesMeet Σ ok F (n ∷ ms) (v ∷ vs) s β
  one_more n ms v vs s β A e f t r zero m u p q =
      let k : n ≡ m = cc in
      let h : v ≡ u = cc in
      (A, ap s.metavariables (sym k) ∙ e, ap β (sym k) ∙ f ∙ ap (λ x. Some x.term) h, t ∙ ap (λ x. x.of_type) h)
  one_more n ms v vs s β A e f t r (suc i) m u p q = r i m u p q

  -- the free variables first
  frees_found : {ts : List Skeleton} {s s' : State} {ms : List ℕ} → NewFrees es ts s s' ms → (β : ℕ → Option Term) → Meets Σ ok F [] [] s [] β [] → (vs : List FreeValue) → FreesAreTyped es F ts vs → (f : Found₀ s s' β) × FreesMeet Σ ok F ms vs s' f.filling
  frees_found no_frees β x [] t = (record { filling = β; meets = x; kept = λ m d. refl }, λ i m v p q. absurd (cc))
  frees_found no_frees β x (v ∷ vs) t = absurd t
  frees_found (next_free y f) β x [] t = absurd t
  frees_found (next_free {s = s} {s' = s'} {s'' = s''} {A = A} {ms = ms} y f) β x (v ∷ vs) ((p, i, h), t) =
      let s₁ : State = with_metavariable [] A s' in
      let g : Grows s s' = new_type_adds es y x.state.numbered in
      let (f₁, e) = new_type_met es canonical F [] [] y β [] x v.of_type i p in
      let a : TypeHasSkeletons Σ s' [] A = (new_type_skeletons es canonical y x.state x.local).1 in
      let (f₂, w) = found_new es canonical F [] [] s' [] f₁.filling [] f₁.meets A a v.term v.of_type h e in
      let at : f₂.filling s'.next ≡ Some v.term = found_new_at es canonical F [] [] s' [] f₁.filling [] f₁.meets A a v.term v.of_type h e in
      let g₁ : Grows s' s₁ = adds_metavariable [] A s' f₁.meets.state.numbered in
      let (f₃, r) = frees_found f f₂.filling f₂.meets vs t in
      let g₂ : Grows s₁ s'' = frees_add es f g₁.numbered in
      let here : s₁.metavariables s'.next ≡ Some A = set_here s'.next (Some A) s'.metavariables in
      let k : Kept Σ ok F [] [] s' f₁.filling f₃.filling = kept_further Σ ok F [] [] s' s₁ g₁ f₁.meets.state f₁.filling f₂.filling f₂.kept s'' f₃.filling f₃.kept in
      let g₃ : Grows s' s'' = record { numbered = g₂.numbered; next = (adds_then s' s₁ s'' (λ n. g₁) (λ n. g₂) f₁.meets.state.numbered).next; keeps = λ m B q. g₂.keeps m B (g₁.keeps m B q); solves = λ μ γ q. g₁.solves μ γ (g₂.solves μ γ q) } in (
        record { filling = f₃.filling; meets = f₃.meets; kept = kept_further Σ ok F [] [] s s' g x.state β f₁.filling f₁.kept s'' f₃.filling k },
        one_more s'.next ms v vs s'' f₃.filling A (g₂.keeps s'.next A here) (sym (f₃.kept s'.next (A, here)) ∙ at) (sym (type_kept Σ ok F [] [] s' s'' g₃ f₁.meets.state f₁.filling f₃.filling k [] A a) ∙ e) r,
      )

  -- nothing is met by nothing
  nothing_met : IsContext Σ F → Meets Σ ok F [] [] nothing_yet [] (λ m. None) []
  nothing_met c = record {
    state = nothing_has_skeletons Σ ok;
    local = tt;
    inst = record { context = c; outer = λ i A g. absurd g; typed = λ m. tt };
    solved = tt;
    same_local = refl;
    free_values = λ i m v p q. absurd (cc);
  }

  module _ (ts : List Skeleton) (frees : List ℕ) (s : State) (y : NewFrees es ts nothing_yet s frees) (c : IsContext Σ F) (vs : List FreeValue) (t : FreesAreTyped es F ts vs) where
    abbrev start : (f : Found₀ nothing_yet s (λ m. None)) × FreesMeet Σ ok F frees vs s f.filling
    start = frees_found y (λ m. None) (nothing_met c) vs t

    begun : Meets Σ ok F frees vs s [] start.0.filling []
    begun = record { state = start.0.meets.state; local = tt; inst = start.0.meets.inst; solved = start.0.meets.solved; same_local = refl; free_values = start.1 }

    solution : (s' : State) (f : Found es canonical F frees vs s s' [] start.0.filling []) → Solution Σ [] (store_of s') F f.filling
    solution s' f = (f.meets.inst, (tt, f.meets.solved))

    has_values : (s' : State) (f : Found es canonical F frees vs s s' [] start.0.filling []) → HasFreeValues frees vs s'.metavariables f.filling
    has_values s' f i m v p q = f.meets.free_values i m v p q

    pub type_instance : (s' : State) (V : WrittenType) (A X : LfType) → ElaboratesType es frees [] V s s' A → CompletesType es F vs [] V X → (β : ℕ → Option Term) × Solution Σ [] (store_of s') F β × HasFreeValues frees vs s'.metavariables β × (fill_type (skeletons_of s'.metavariables) β A ≡ X)
    type_instance s' V A X x u = let (f, e) = type_met es canonical F frees vs x start.0.filling [] begun u in (f.filling, solution s' f, has_values s' f, e)

    kind_same : (μ : ℕ → Skeleton) (β : ℕ → Option Term) (K : Kind) → fill_kind μ β K ≡ filled_kind μ β K
    kind_same μ β (kind_pi A K) = ap (kind_pi (fill_type μ β A)) (kind_same μ (moved suc β) K)
    kind_same μ β star = refl

    pub kind_instance : (s' : State) (k : WrittenKind) (K X : Kind) → ElaboratesKind es frees [] k s s' K → CompletesKind es F vs [] k X → (β : ℕ → Option Term) × Solution Σ [] (store_of s') F β × HasFreeValues frees vs s'.metavariables β × (fill_kind (skeletons_of s'.metavariables) β K ≡ X)
    kind_instance s' k K X x u = let (f, e) = kind_met es canonical F frees vs x start.0.filling [] begun u in (f.filling, solution s' f, has_values s' f, kind_same (skeletons_of s'.metavariables) f.filling K ∙ e)

    pub term_instance : (s' : State) (M : Written) (R T : Term) (A X : LfType) → Infers es frees [] M s s' R A → Completes es F vs [] M T X → (β : ℕ → Option Term) × Solution Σ [] (store_of s') F β × HasFreeValues frees vs s'.metavariables β × (fill (skeletons_of s'.metavariables) β R ≡ T) × (fill_type (skeletons_of s'.metavariables) β A ≡ X)
    term_instance s' M R T A X x u = let (f, e, d) = infers_met es canonical F frees vs x start.0.filling [] begun u in (f.filling, solution s' f, has_values s' f, e, d)

    pub checked_instance : (s' s'' : State) (V : WrittenType) (M : Written) (R T : Term) (A X : LfType) → ElaboratesType es frees [] V s s' A → Checks es frees [] M A s' s'' R → CompletesType es F vs [] V X → Completes es F vs [] M T X → (β : ℕ → Option Term) × Solution Σ [] (store_of s'') F β × HasFreeValues frees vs s''.metavariables β × (fill (skeletons_of s''.metavariables) β R ≡ T) × (fill_type (skeletons_of s''.metavariables) β A ≡ X)
    checked_instance s' s'' V M R T A X x z u w =
        let (f, e) = type_met es canonical F frees vs x start.0.filling [] begun u in
        let a : TypeHasSkeletons Σ s' [] A = (type_skeletons es canonical frees x begun.state tt).1 in
        let (f', d) = checks_met es canonical F frees vs z f.filling [] f.meets a w e in
        let g : Grows s' s'' = checks_adds es frees z f.meets.state.numbered in
        (f'.filling, (f'.meets.inst, (tt, f'.meets.solved)), f'.meets.free_values, d, sym (type_kept Σ ok F frees vs s' s'' g f.meets.state f.filling f'.filling f'.kept [] A a) ∙ e)

pub completion_instance : CompletionIsInstance
completion_instance es canonical ts frees s y F c vs t = (
  (λ s' V A X x u. type_instance es canonical F ts frees s y c vs t s' V A X x u),
  (λ s' k K X x u. kind_instance es canonical F ts frees s y c vs t s' k K X x u),
  (λ s' M R T A X x u. term_instance es canonical F ts frees s y c vs t s' M R T A X x u),
  (λ s' s'' V M R T A X x z u w. checked_instance es canonical F ts frees s y c vs t s' s'' V M R T A X x z u w),
)
