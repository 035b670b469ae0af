-- A principal completion in another order of its quantifiers.
use Rattle.std.proofs.Common.{◌≡◌, ℕ, suc, List, [], ◌∷◌, Option, Some, None, inl, inr, refl, sym, ap, ap₂, ◌∙◌, subst}
use mathlib.Core.Path.{fun_ext}
use Rattle.lf.specs.Entries.{Body, Entry, IsCanonicalSignature, declare_constant, declare_definition, declare_family, signature_of}
use Rattle.lf.specs.Subordination.{Member}
use Rattle.lf.specs.Substitution.{Image, keep, reduce, substitute, substitute_kind, substitute_type}
use Rattle.lf.specs.Syntax.{Kind, LfType, Skeleton, Term, kind_pi, lift_renaming, rename, rename_kind, rename_type, star}
use Rattle.lf.specs.Typing.{HasType, ImageHasType, IsContext, IsKind, IsSignature, IsType, IsTypedRenaming, Signature}
use Rattle.lf.proofs.Entries.{canonical_is_signature}
use Rattle.lf.proofs.Renaming.{substitute_renamed}
use Rattle.lf.proofs.TypeLaws.{renamings_compose_type, substitute_renamed_kind, substitute_renamed_type, substitution_as_renaming, substitution_as_renaming_kind, substitution_as_renaming_type}
use Rattle.lf.proofs.Weakening.{declared_is_type, renaming_keeps_kinds, renaming_keeps_types, renaming_keeps_typing}
use Rattle.lf_unification.specs.Dependency.{IsDependencyOrder, ListedMetavariable, ValueIsOrdered}
use Rattle.lf_unification.specs.Filling.{fill, fill_type, moved, rename_value}
use Rattle.lf_unification.specs.OpenTyping.{ValueHasType, skeletons_of}
use Rattle.lf_unification.specs.PartialInstance.{IsFilling}
use Rattle.lf_unification.specs.Solving.{BindingsAreListed, Solved}
use Rattle.lf_unification.specs.Unifiers.{Binding, ExtendsFilling, Respects, Solution, SolvesAll, Store}
use Rattle.lf_unification.proofs.Eta.{rename_id_type}
use Rattle.lf_unification.proofs.Filling.{fill_rename, fill_rename_type, moved_up}
use Rattle.lf_unification.proofs.Generic.{ordered_at}
use Rattle.lf_unification.proofs.RenamingBack.{is_context}
use Rattle.lf_elaboration.specs.Completions.{FreeValue, FreesAreTyped}
use Rattle.lf_elaboration.specs.Elaboration.{NewFrees}
use Rattle.lf_elaboration.specs.Kinds.{fill_kind}
use Rattle.lf_elaboration.specs.Laws.{HasFreeValues}
use Rattle.lf_elaboration.specs.Principal.{BodyIsTypedIn, Completion, CompletesBody, IsCompletion, IsInstanceOf, IsPrincipal, IsReordering, WrittenBody, reordered, substitute_body, substitute_frees}
use Rattle.lf_elaboration.specs.PrincipalLaws.{ElaboratesBody, ReorderedIsPrincipal, fill_body}
use Rattle.lf_elaboration.specs.State.{State, nothing_yet, store_of}
use Rattle.lf_elaboration.proofs.Principal.{BodyIsMade, body_agree, body_made, completed, found, frees_agree, frees_become, same_length}

-- a context in another order is a context
reordered_context : (Σ : Signature) (ok : IsSignature Σ) (F G : List LfType) (ρ ρ' : ℕ → ℕ) → IsReordering F G ρ ρ' → IsContext Σ F → IsContext Σ G
reordered_context Σ ok F G ρ ρ' o c = is_context Σ ok G (λ j B g. subst (IsType Σ G) (renamings_compose_type ρ ρ' B ∙ ap (λ τ. rename_type τ B) (fun_ext o.back_and_there) ∙ rename_id_type B)
    (renaming_keeps_types Σ ok F G ρ (rename_type ρ' B) o.there (declared_is_type Σ ok F (ρ' j) (rename_type ρ' B) c (o.back j B g))))

-- a substitution after a renaming
module _ (τ : ℕ → Image) (ρ : ℕ → ℕ) where
  after_renaming : (M : Term) → substitute reduce τ (substitute reduce (λ i. keep (ρ i)) M) ≡ substitute reduce (λ i. τ (ρ i)) M
  after_renaming M = ap (substitute reduce τ) (substitution_as_renaming reduce ρ M) ∙ substitute_renamed reduce τ ρ M

  after_renaming_type : (A : LfType) → substitute_type reduce τ (substitute_type reduce (λ i. keep (ρ i)) A) ≡ substitute_type reduce (λ i. τ (ρ i)) A
  after_renaming_type A = ap (substitute_type reduce τ) (substitution_as_renaming_type reduce ρ A) ∙ substitute_renamed_type reduce τ ρ A

  after_renaming_frees : (vs : List FreeValue) → substitute_frees τ (substitute_frees (λ i. keep (ρ i)) vs) ≡ substitute_frees (λ i. τ (ρ i)) vs
  after_renaming_frees [] = refl
  after_renaming_frees (v ∷ vs) = ap₂ (λ u us. u ∷ us) (ap₂ (λ M A. record { term = M; of_type = A }) (after_renaming v.term) (after_renaming_type v.of_type)) (after_renaming_frees vs)

  after_renaming_body : (b : Body) → substitute_body τ (substitute_body (λ i. keep (ρ i)) b) ≡ substitute_body (λ i. τ (ρ i)) b
  after_renaming_body (declare_family K) = ap declare_family (ap (substitute_kind reduce τ) (substitution_as_renaming_kind reduce ρ K) ∙ substitute_renamed_kind reduce τ ρ K)
  after_renaming_body (declare_constant A) = ap declare_constant (after_renaming_type A)
  after_renaming_body (declare_definition N A c) = ap₂ (λ N A. declare_definition N A c) (after_renaming N) (after_renaming_type A)

renamed_body_typed : (Σ : Signature) (ok : IsSignature Σ) (F G : List LfType) (ρ : ℕ → ℕ) → IsTypedRenaming F G ρ → (b : Body) → BodyIsTypedIn Σ F b → BodyIsTypedIn Σ G (substitute_body (λ i. keep (ρ i)) b)
renamed_body_typed Σ ok F G ρ h (declare_family K) k = subst (IsKind Σ G) (sym (substitution_as_renaming_kind reduce ρ K)) (renaming_keeps_kinds Σ ok F G ρ K h k)
renamed_body_typed Σ ok F G ρ h (declare_constant A) a = subst (IsType Σ G) (sym (substitution_as_renaming_type reduce ρ A)) (renaming_keeps_types Σ ok F G ρ A h a)
renamed_body_typed Σ ok F G ρ h (declare_definition N A c) (a, m) = (
  subst (IsType Σ G) (sym (substitution_as_renaming_type reduce ρ A)) (renaming_keeps_types Σ ok F G ρ A h a),
  subst (λ M. HasType Σ G M (substitute_type reduce (λ i. keep (ρ i)) A)) (sym (substitution_as_renaming reduce ρ N)) (subst (HasType Σ G (rename ρ N)) (sym (substitution_as_renaming_type reduce ρ A)) (renaming_keeps_typing Σ ok F G ρ N A h m)),
)

fill_renamed_kind : (μ : ℕ → Skeleton) (ρ : ℕ → ℕ) (β : ℕ → Option Term) (K : Kind) → rename_kind ρ (fill_kind μ β K) ≡ fill_kind μ (moved ρ β) (rename_kind ρ K)
fill_renamed_kind μ ρ β (kind_pi A K) = ap₂ kind_pi (fill_rename_type μ ρ β A) (fill_renamed_kind μ (lift_renaming ρ) (moved suc β) K ∙ ap (λ γ. fill_kind μ γ (rename_kind (lift_renaming ρ) K)) (fun_ext (λ m. moved_up ρ (β m))))
fill_renamed_kind μ ρ β star = refl

-- a typed unifier of a solved store, renamed, is one
module _ (Σ : Signature) (ok : IsSignature Σ) (before after : Store) (z : Solved Σ before after) (F G : List LfType) (ρ ρ' : ℕ → ℕ) (o : IsReordering F G ρ ρ') (β : ℕ → Option Term) (u : Solution Σ [] after F β) where
  abbrev Ψ : ℕ → Option LfType
  Ψ = after.metavariables

  abbrev μ : ℕ → Skeleton
  μ = skeletons_of after.metavariables

  abbrev U : (ℕ → Option Term) → Type 0
  U = IsFilling Σ [] after

  value_closed : (is : List ListedMetavariable) → IsDependencyOrder Σ Ψ U is → (n : ℕ) (A : LfType) (N : Term) → Member (record { of = n; of_type = A; value = Some N }) is → (τ : ℕ → ℕ) → rename τ N ≡ N
  value_closed [] w n A N i = absurd i
  value_closed (it ∷ is) w n A N (inr i) = value_closed is w.0 n A N i
  value_closed (it ∷ is) w n A N (inl e) = let v : ValueIsOrdered Σ Ψ U is it.of_type (Some N) = subst (ValueIsOrdered Σ Ψ U is it.of_type) (sym (ap (λ x. x.value) e)) w.6 in v.2

  respects : (bs : List Binding) → BindingsAreListed z.well_formed.order bs → Respects μ β bs → Respects μ (moved ρ β) bs
  respects [] l r = tt
  respects (b ∷ bs) ((A, i), ls) (r, rs) = (ap (rename_value ρ) r ∙ ap Some (fill_rename μ ρ β b.value ∙ ap (fill μ (moved ρ β)) (value_closed z.well_formed.order z.well_formed.is_order b.of A b.value i ρ)), respects bs ls rs)

  closed_at : (m : ℕ) (A : LfType) → Ψ m ≡ Some A → rename_type ρ A ≡ A
  closed_at m A d =
      let (B, k, i, t, c) = ordered_at Σ μ ok Ψ U z.well_formed.order z.well_formed.is_order m (z.well_formed.all_listed m A d) in
      let p : B ≡ A = (let q : Some B ≡ Some A = sym k ∙ d in cc) in
      subst (λ X. rename_type ρ X ≡ X) p (c ρ)

  value_typed : (m : ℕ) (x : Option LfType) (y : Option Term) → Ψ m ≡ x → ValueHasType Σ F μ β x y → ValueHasType Σ G μ (moved ρ β) x (rename_value ρ y)
  value_typed m None None d t = tt
  value_typed m None (Some N) d t = absurd t
  value_typed m (Some A) None d t = absurd t
  value_typed m (Some A) (Some N) d t = subst (HasType Σ G (rename ρ N)) (fill_rename_type μ ρ β A ∙ ap (fill_type μ (moved ρ β)) (closed_at m A d)) (renaming_keeps_typing Σ ok F G ρ N (fill_type μ β A) o.there t)

  renamed_unifier : Solution Σ [] after G (moved ρ β)
  renamed_unifier = (
    record { context = reordered_context Σ ok F G ρ ρ' o u.0.context; outer = λ i A g. absurd g; typed = λ m. value_typed m (Ψ m) (β m) refl (u.0.typed m) },
    (respects after.bindings z.well_formed.bindings_listed u.1.0, subst (SolvesAll μ (moved ρ β)) (sym z.none_left) tt),
  )

module _ (es : List Entry) (canonical : IsCanonicalSignature es) (ts : List Skeleton) (frees : List ℕ) (s s' : State) (f : NewFrees es ts nothing_yet s frees) (w : WrittenBody) (b : Body) (x : ElaboratesBody es frees w s s' b) (after : Store) (z : Solved (signature_of es) (store_of s') after) where
  abbrev Σ₁ : Signature
  Σ₁ = signature_of es

  abbrev ok₁ : IsSignature (signature_of es)
  ok₁ = canonical_is_signature es canonical

  abbrev μ₁ : ℕ → Skeleton
  μ₁ = skeletons_of after.metavariables

  abbrev μ₀ : ℕ → Skeleton
  μ₀ = skeletons_of s'.metavariables

  closed_types : (n : ℕ) (A : LfType) → after.metavariables n ≡ Some A → (ρ : ℕ → ℕ) → rename_type ρ A ≡ A
  closed_types n A d ρ =
      let (B, k, i, t, c) = ordered_at Σ₁ μ₁ ok₁ after.metavariables (IsFilling Σ₁ [] after) z.well_formed.order z.well_formed.is_order n (z.well_formed.all_listed n A d) in
      let p : B ≡ A = (let q : Some B ≡ Some A = sym k ∙ d in cc) in
      subst (λ X. rename_type ρ X ≡ X) p (c ρ)

  -- what was elaborated, filled and renamed
  kind_renamed : (K : Kind) → ((ρ : ℕ → ℕ) → rename_kind ρ K ≡ K) → (μ : ℕ → Skeleton) (β : ℕ → Option Term) (ρ : ℕ → ℕ) → substitute_kind reduce (λ i. keep (ρ i)) (fill_kind μ β K) ≡ fill_kind μ (moved ρ β) K
  kind_renamed K c μ β ρ = substitution_as_renaming_kind reduce ρ (fill_kind μ β K) ∙ fill_renamed_kind μ ρ β K ∙ ap (fill_kind μ (moved ρ β)) (c ρ)

  type_renamed : (A : LfType) → ((ρ : ℕ → ℕ) → rename_type ρ A ≡ A) → (μ : ℕ → Skeleton) (β : ℕ → Option Term) (ρ : ℕ → ℕ) → substitute_type reduce (λ i. keep (ρ i)) (fill_type μ β A) ≡ fill_type μ (moved ρ β) A
  type_renamed A c μ β ρ = substitution_as_renaming_type reduce ρ (fill_type μ β A) ∙ fill_rename_type μ ρ β A ∙ ap (fill_type μ (moved ρ β)) (c ρ)

  term_renamed : (M : Term) → ((ρ : ℕ → ℕ) → rename ρ M ≡ M) → (μ : ℕ → Skeleton) (β : ℕ → Option Term) (ρ : ℕ → ℕ) → substitute reduce (λ i. keep (ρ i)) (fill μ β M) ≡ fill μ (moved ρ β) M
  term_renamed M c μ β ρ = substitution_as_renaming reduce ρ (fill μ β M) ∙ fill_rename μ ρ β M ∙ ap (fill μ (moved ρ β)) (c ρ)

  body_renamed : (b : Body) → BodyIsMade es canonical ts frees s s' f b → (μ : ℕ → Skeleton) (β : ℕ → Option Term) (ρ : ℕ → ℕ) → substitute_body (λ i. keep (ρ i)) (fill_body μ β b) ≡ fill_body μ (moved ρ β) b
  body_renamed (declare_family K) m μ β ρ = ap declare_family (kind_renamed K m.closed μ β ρ)
  body_renamed (declare_constant A) m μ β ρ = ap declare_constant (type_renamed A m.closed μ β ρ)
  body_renamed (declare_definition R A c) m μ β ρ = ap₂ (λ N A. declare_definition N A c) (term_renamed R m.closed μ β ρ) (type_renamed A m.of_type.closed μ β ρ)

  some_term : {M N : Term} → Some M ≡ Some N → M ≡ N
  some_term e = cc

  module _ (c : Completion) (p : IsPrincipal es ts w c) (G : List LfType) (ρ ρ' : ℕ → ℕ) (o : IsReordering c.quantifiers G ρ ρ') where
    -- the unifier of the completion, and the one that is renamed
    abbrev Renamed : (ℕ → Option Term) → (ℕ → Option Term) → Type 0
    Renamed β β₁ = Solution Σ₁ [] (store_of s') G β₁ × ExtendsFilling s'.metavariables β₁ (moved ρ β)

    completes_renamed : (β : ℕ → Option Term) → HasFreeValues frees c.frees after.metavariables β → fill_body μ₁ β b ≡ c.body → (β₁ : ℕ → Option Term) → Renamed β β₁ → IsCompletion es ts w (reordered G ρ c)
    completes_renamed β v e β₁ (u₁, g) =
        let (vs, t, h, y) = completed es canonical ts frees s s' f G β₁ u₁ w b x in
        let m : BodyIsMade es canonical ts frees s s' f b = body_made es canonical ts frees s s' f w b x in
        let h' : HasFreeValues frees vs after.metavariables (moved ρ β) = frees_agree es canonical ts frees s s' f w b x after z vs β₁ (moved ρ β) g h in
        let q : substitute_frees (λ i. keep (ρ i)) c.frees ≡ vs
        = frees_become es c.quantifiers G (λ i. keep (ρ i)) ts frees c.frees vs (same_length f) p.completion.frees_typed t (λ i n y y' k l l'. value_renamed n y y' (v i n y k l) (h' i n y' k l')) in
        let r : substitute_body (λ i. keep (ρ i)) c.body ≡ fill_body μ₀ β₁ b
        = ap (substitute_body (λ i. keep (ρ i))) (sym e) ∙ body_renamed b m μ₁ β ρ ∙ sym (body_agree es canonical ts frees s s' f w b x after z b m β₁ (moved ρ β) g) in
        record {
          context = reordered_context Σ₁ ok₁ c.quantifiers G ρ ρ' o p.completion.context;
          frees_typed = subst (FreesAreTyped es G ts) (sym q) t;
          completed = subst (λ us. CompletesBody es G us w (substitute_body (λ i. keep (ρ i)) c.body)) (sym q) (subst (CompletesBody es G vs w) (sym r) y);
        }
      where
        value_renamed : (n : ℕ) (y y' : FreeValue) → ((A : LfType) × (after.metavariables n ≡ Some A) × (β n ≡ Some y.term) × (fill_type μ₁ β A ≡ y.of_type)) → ((A : LfType) × (after.metavariables n ≡ Some A) × (moved ρ β n ≡ Some y'.term) × (fill_type μ₁ (moved ρ β) A ≡ y'.of_type)) →
            (substitute reduce (λ i. keep (ρ i)) y.term ≡ y'.term) × (substitute_type reduce (λ i. keep (ρ i)) y.of_type ≡ y'.of_type)
        value_renamed n y y' (A, d, a, k) (A', d', a', k') =
            let e : A ≡ A' = (let q : Some A ≡ Some A' = sym d ∙ d' in cc) in (
              substitution_as_renaming reduce ρ y.term ∙ some_term (ap (rename_value ρ) (sym a) ∙ a'),
              ap (substitute_type reduce (λ i. keep (ρ i))) (sym k) ∙ type_renamed A (closed_types n A d) μ₁ β ρ ∙ ap (fill_type μ₁ (moved ρ β)) e ∙ k',
            )

    renamed_completion : IsCompletion es ts w (reordered G ρ c)
    renamed_completion =
        let (β, u, v, e) = found es canonical ts frees s s' f w b c.body x c.quantifiers c.frees p.completion in
        let (β', g, u') = z.keeps.complete c.quantifiers β u in
        let m : BodyIsMade es canonical ts frees s s' f b = body_made es canonical ts frees s s' f w b x in
        let (β₁, g₁, u₁) = z.keeps.sound G (moved ρ β') (renamed_unifier Σ₁ ok₁ (store_of s') after z c.quantifiers G ρ ρ' o β' u') in
        completes_renamed β' (frees_agree es canonical ts frees s s' f w b x after z c.frees β β' g v) (sym (body_agree es canonical ts frees s s' f w b x after z b m β β' g) ∙ e) β₁ (u₁, λ n A d. g₁ n A d)

    instance_renamed : (c' : Completion) → IsInstanceOf Σ₁ c c' → IsInstanceOf Σ₁ (reordered G ρ c) c'
    instance_renamed c' i =
        let again : (λ k. i.terms (ρ' (ρ k))) ≡ i.terms = fun_ext (λ k. ap i.terms (o.there_and_back k)) in
        record {
          terms = λ j. i.terms (ρ' j);
          typed = λ j B g. subst (ImageHasType Σ₁ c'.quantifiers (i.terms (ρ' j))) (substitute_renamed_type reduce i.terms ρ' B) (i.typed (ρ' j) (rename_type ρ' B) (o.back j B g));
          frees = after_renaming_frees (λ j. i.terms (ρ' j)) ρ c.frees ∙ ap (λ τ. substitute_frees τ c.frees) again ∙ i.frees;
          body = after_renaming_body (λ j. i.terms (ρ' j)) ρ c.body ∙ ap (λ τ. substitute_body τ c.body) again ∙ i.body;
        }

    reordered_principal : IsPrincipal es ts w (reordered G ρ c)
    reordered_principal = record {
      completion = renamed_completion;
      typed = renamed_body_typed Σ₁ ok₁ c.quantifiers G ρ o.there c.body p.typed;
      most_general = λ c' i. instance_renamed c' (p.most_general c' i);
    }

pub reordered_is_principal : ReorderedIsPrincipal
reordered_is_principal es canonical ts frees s s' f w b x after z c p G ρ ρ' o = reordered_principal es canonical ts frees s s' f w b x after z c p G ρ ρ' o
