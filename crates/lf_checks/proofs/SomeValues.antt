-- Two instances of an entry's type that are the same text give a `some` variable that is strict in it the same value.
use Rattle.std.proofs.Common.{◌≡◌, ℕ, zero, suc, List, [], ◌∷◌, refl, sym, ap, ◌∙◌, subst, inl, inr}
use Rattle.std.specs.Prelude.{Bool, true, ◌⊎◌}
use Rattle.lf.specs.Syntax.{Term, Spine, nil, app, LfType, Kind, pi, atom, kind_pi, star, Skeleton, skeleton, rename}
use Rattle.lf.specs.Substitution.{Image, keep, put, rename_image, lift, single, substitute_type, substitute_spine, reduce}
use Rattle.lf.specs.SkeletonTyping.{HeadSkeletons, SkeletonAt, SubstitutionBySkeletons}
use Rattle.lf.specs.Skeletons.{constant_skeletons, context_skeletons}
use Rattle.lf.specs.Typing.{Signature, TypeAt, ImageHasType, instantiate_kind, SpineFitsKind, IsType, IsKind, IsContext, IsSignature}
use Rattle.lf.specs.Variables.{under, hide, everything, nothing, onto, Uses, Values}
use Rattle.lf.specs.Subordination.{Block, IsTypedBlock}
use Rattle.lf.specs.Worlds.{lift_over, instance}
use Rattle.lf.proofs.Substitution.{skeleton_context_of, single_substitution_typed, typed_substitution_by_skeletons, family_kind}
use Rattle.lf.proofs.Regular.{substitution_keeps_kinds}
use Rattle.lf.proofs.ToSkeletons.{variable_has_skeleton, type_by_skeletons}
use Rattle.lf.proofs.SkeletonTyping.{lift_by_skeletons}
use Rattle.lf.proofs.TypeLaws.{skeleton_substituted}
use Rattle.lf.proofs.Uses.{uses_renamed}
use Rattle.lf.proofs.Partial.{uses_all}
use Rattle.lf_checks.specs.Clause.{among}
use Rattle.lf_checks.specs.Strict.{strict, strict_spine, strict_type}
use Rattle.lf_checks.specs.Worlded.{IsTerm, IsStrictBlock, past_types}
use Rattle.lf_checks.proofs.StrictTypes.{either_cases}
use Rattle.lf_checks.proofs.Determined.{KeptSame, KeptAlike, Apart, same_lift, alike_lift, apart_lift, unsuc, app_first, app_rest, strict_same}

pi_domain : {A A' B B' : LfType} → pi A B ≡ pi A' B' → A ≡ A'
pi_domain e = cc

pi_body : {A A' B B' : LfType} → pi A B ≡ pi A' B' → B ≡ B'
pi_body e = cc

atom_arguments : {a b : ℕ} {S T : Spine} → atom a S ≡ atom b T → S ≡ T
atom_arguments e = cc

module _ (Σ : Signature) (ok : IsSignature Σ) where
  kind_same : (B F V : ℕ → Bool) (C : List LfType) (Δ : List Skeleton) (σ τ : ℕ → Image) (x : ℕ) (a : Skeleton) (N N' : Term) (S : Spine) (K : Kind) → IsContext Σ C → IsKind Σ C K → SubstitutionBySkeletons (constant_skeletons Σ) (context_skeletons C) Δ σ → SubstitutionBySkeletons (constant_skeletons Σ) (context_skeletons C) Δ τ → KeptSame B σ τ → KeptAlike F σ τ → Apart V B → σ x ≡ put a N → τ x ≡ put a N' → Uses V N → Uses V N' → SkeletonAt (context_skeletons C) x a → SpineFitsKind Σ C S K → strict_spine B F x S ≡ true → substitute_spine reduce σ S ≡ substitute_spine reduce τ S → N ≡ N'
  kind_same B F V C Δ σ τ x a N N' nil K c k w w' kb kf p q q' u u' g s e r = absurd cc
  kind_same B F V C Δ σ τ x a N N' (app M S) star c k w w' kb kf p q q' u u' g s e r = absurd s
  kind_same B F V C Δ σ τ x a N N' (app M S) (kind_pi A K) c (t1, t2) w w' kb kf p q q' u u' g (h, s) e r = by (either_cases (strict B F x M) (strict_spine B F x S) e) (λ z. strict_same Σ ok B F V C Δ σ τ x a N N' M A c t1 w w' kb kf p q q' u u' g h z (app_first r)) (λ z. kind_same B F V C Δ σ τ x a N N' S (instantiate_kind A M K) c (substitution_keeps_kinds Σ ok (A ∷ C) C (single (skeleton A) M) K (single_substitution_typed Σ ok C A M (skeleton_context_of Σ ok C c) (type_by_skeletons Σ C A t1) h) t2) w w' kb kf p q q' u u' g s z (app_rest r))
    where
      by : (strict B F x M ≡ true) ⊎ (strict_spine B F x S ≡ true) → (strict B F x M ≡ true → N ≡ N') → (strict_spine B F x S ≡ true → N ≡ N') → N ≡ N'
      by (inl z) f h = f z
      by (inr z) f h = h z

  type_same : (B F V : ℕ → Bool) (C : List LfType) (Δ : List Skeleton) (σ τ : ℕ → Image) (x : ℕ) (a : Skeleton) (N N' : Term) (E : LfType) → IsContext Σ C → IsType Σ C E → SubstitutionBySkeletons (constant_skeletons Σ) (context_skeletons C) Δ σ → SubstitutionBySkeletons (constant_skeletons Σ) (context_skeletons C) Δ τ → KeptSame B σ τ → KeptAlike F σ τ → Apart V B → σ x ≡ put a N → τ x ≡ put a N' → Uses V N → Uses V N' → SkeletonAt (context_skeletons C) x a → strict_type B F x E ≡ true → substitute_type reduce σ E ≡ substitute_type reduce τ E → N ≡ N'
  type_same B F V C Δ σ τ x a N N' (atom b S) c (K, k, s) w w' kb kf p q q' u u' g e r = kind_same B F V C Δ σ τ x a N N' S K c (family_kind Σ ok C b K k) w w' kb kf p q q' u u' g s e (atom_arguments r)
  type_same B F V C Δ σ τ x a N N' (pi A E) c (t1, t2) w w' kb kf p q q' u u' g e r = by (either_cases (strict_type B F x A) (strict_type (under B) (hide F) (suc x) E) e) (λ z. type_same B F V C Δ σ τ x a N N' A c t1 w w' kb kf p q q' u u' g z (pi_domain r)) (λ z. unsuc N N' (type_same (under B) (hide F) (hide V) (A ∷ C) (skeleton A ∷ Δ) (lift σ) (lift τ) (suc x) a (rename suc N) (rename suc N') E (c, t1) t2 (lift_by_skeletons (constant_skeletons Σ) (skeleton A) (context_skeletons C) Δ σ w) (lift_by_skeletons (constant_skeletons Σ) (skeleton A) (context_skeletons C) Δ τ w') (same_lift B σ τ kb) (alike_lift F σ τ kf) (apart_lift V B p) (ap (rename_image suc) q) (ap (rename_image suc) q') (uses_renamed V (hide V) suc N (λ i v. v) u) (uses_renamed V (hide V) suc N' (λ i v. v) u') g z (pi_body r)))
    where
      by : (strict_type B F x A ≡ true) ⊎ (strict_type (under B) (hide F) (suc x) E ≡ true) → (strict_type B F x A ≡ true → N ≡ N') → (strict_type (under B) (hide F) (suc x) E ≡ true → N ≡ N') → N ≡ N'
      by (inl z) f h = f z
      by (inr z) f h = h z

-- Under the entries before it.
abbrev moved : List LfType → Term → Term
moved [] N = N
moved (E ∷ es) N = rename suc (moved es N)

abbrev beyond : List LfType → ℕ → Bool
beyond [] = everything
beyond (E ∷ es) = hide (beyond es)

abbrev over_entries : List LfType → List Skeleton → List Skeleton
over_entries [] Δ = Δ
over_entries (E ∷ es) Δ = skeleton E ∷ over_entries es Δ

moved_same : (es : List LfType) (N N' : Term) → moved es N ≡ moved es N' → N ≡ N'
moved_same [] N N' e = e
moved_same (E ∷ es) N N' e = moved_same es N N' (unsuc (moved es N) (moved es N') e)

moved_uses : (es : List LfType) (N : Term) → Uses (beyond es) (moved es N)
moved_uses [] N = uses_all everything N (λ i. refl)
moved_uses (E ∷ es) N = uses_renamed (beyond es) (hide (beyond es)) suc (moved es N) (λ i v. v) (moved_uses es N)

moved_value : (es : List LfType) (θ : ℕ → Image) (x : ℕ) (a : Skeleton) (N : Term) → θ x ≡ put a N → lift_over es θ (past_types es x) ≡ put a (moved es N)
moved_value [] θ x a N e = e
moved_value (E ∷ es) θ x a N e = ap (rename_image suc) (moved_value es θ x a N e)

beyond_apart : (es : List LfType) → Apart (beyond es) (among es)
beyond_apart [] i v b = cc
beyond_apart (E ∷ es) zero v b = cc
beyond_apart (E ∷ es) (suc i) v b = beyond_apart es i v b

entries_kept : (es : List LfType) (θ τ : ℕ → Image) → KeptSame (among es) (lift_over es θ) (lift_over es τ)
entries_kept [] θ τ i e = absurd cc
entries_kept (E ∷ es) θ τ zero e = (refl, refl)
entries_kept (E ∷ es) θ τ (suc i) e = let (p, q) = entries_kept es θ τ i e in (ap (rename_image suc) p, ap (rename_image suc) q)

past_skeleton : (es O : List LfType) (x : ℕ) (a : Skeleton) → SkeletonAt (context_skeletons O) x a → SkeletonAt (context_skeletons (onto es O)) (past_types es x) a
past_skeleton [] O x a g = g
past_skeleton (E ∷ es) O x a g = past_skeleton es O x a g

over_skeletons : (κ : HeadSkeletons) (es O : List LfType) (Δ : List Skeleton) (θ : ℕ → Image) → SubstitutionBySkeletons κ (context_skeletons O) Δ θ → SubstitutionBySkeletons κ (context_skeletons (onto es O)) (over_entries es Δ) (lift_over es θ)
over_skeletons κ [] O Δ θ w = w
over_skeletons κ (E ∷ es) O Δ θ w = lift_by_skeletons κ (skeleton E) (context_skeletons (onto es O)) (over_entries es Δ) (lift_over es θ) (over_skeletons κ es O Δ θ w)

onto_onto : (X D C : List LfType) → onto (onto X D) C ≡ onto X (onto D C)
onto_onto [] D C = refl
onto_onto (A ∷ X) D C = ap (λ Y. A ∷ Y) (onto_onto X D C)

entry_typed : (Σ : Signature) (later : List LfType) (E : LfType) (O : List LfType) → IsContext Σ (onto later (E ∷ O)) → IsContext Σ O × IsType Σ O E
entry_typed Σ [] E O c = c
entry_typed Σ (L ∷ later) E O c = entry_typed Σ later E O c.0

module _ (Σ : Signature) (ok : IsSignature Σ) where
  terms_same : (O D es : List LfType) (E : LfType) (θ τ : ℕ → Image) (x : ℕ) (A : LfType) → IsContext Σ (onto es O) → IsType Σ (onto es O) E → Values Σ everything O D θ → Values Σ everything O D τ → TypeAt O x A → strict_type (among es) nothing (past_types es x) E ≡ true → substitute_type reduce (lift_over es θ) E ≡ substitute_type reduce (lift_over es τ) E → (X Y : Image) → θ x ≡ X → τ x ≡ Y → IsTerm X → IsTerm Y → X ≡ Y
  terms_same O D es E θ τ x A c t v v' g s r (keep i) Y q q' p p' = absurd p
  terms_same O D es E θ τ x A c t v v' g s r (put a N) (keep i) q q' p p' = absurd p'
  terms_same O D es E θ τ x A c t v v' g s r (put a N) (put b N') q q' p p' =
      let sa : skeleton A ≡ a = sym (skeleton_substituted reduce θ A) ∙ (subst (λ y. ImageHasType Σ D y (substitute_type reduce θ A)) q (v.typed x A g refl)).0 in
      let sb : skeleton A ≡ b = sym (skeleton_substituted reduce τ A) ∙ (subst (λ y. ImageHasType Σ D y (substitute_type reduce τ A)) q' (v'.typed x A g refl)).0 in
      let ab : b ≡ a = sym sb ∙ sa in
      let w : SubstitutionBySkeletons (constant_skeletons Σ) (context_skeletons O) (context_skeletons D) θ = typed_substitution_by_skeletons Σ ok O D θ (λ i B h. v.typed i B h refl) in
      let w' : SubstitutionBySkeletons (constant_skeletons Σ) (context_skeletons O) (context_skeletons D) τ = typed_substitution_by_skeletons Σ ok O D τ (λ i B h. v'.typed i B h refl) in
      let e : N ≡ N' = moved_same es N N' (type_same Σ ok (among es) nothing (beyond es) (onto es O) (over_entries es (context_skeletons D)) (lift_over es θ) (lift_over es τ) (past_types es x) a (moved es N) (moved es N') E c t (over_skeletons (constant_skeletons Σ) es O (context_skeletons D) θ w) (over_skeletons (constant_skeletons Σ) es O (context_skeletons D) τ w') (entries_kept es θ τ) (λ i h. absurd cc) (beyond_apart es) (moved_value es θ x a N q) (moved_value es τ x a N' (q' ∙ ap (λ y. put y N') ab)) (moved_uses es N) (moved_uses es N') (past_skeleton es O x a (subst (SkeletonAt (context_skeletons O) x) sa (variable_has_skeleton O x A g))) s r) in
      cc

  pub some_values : (B : Block) (later : List LfType) (E : LfType) (es : List LfType) → IsTypedBlock Σ B → onto later (E ∷ es) ≡ B.entries → (D : List LfType) (θ τ : ℕ → Image) → Values Σ everything B.some D θ → Values Σ everything B.some D τ → (x : ℕ) (A : LfType) → TypeAt B.some x A → IsTerm (θ x) → IsTerm (τ x) → strict_type (among es) nothing (past_types es x) E ≡ true → substitute_type reduce (lift_over es θ) E ≡ substitute_type reduce (lift_over es τ) E → θ x ≡ τ x
  some_values B later E es b o D θ τ v v' x A g p p' s r =
      let (c, t) = entry_typed Σ later E (onto es B.some) (subst (IsContext Σ) (onto_onto later (E ∷ es) B.some) (subst (λ X. IsContext Σ (onto X B.some)) (sym o) b)) in
      terms_same B.some D es E θ τ x A c t v v' g s r (θ x) (τ x) refl refl p p'

  entry_same : (later : List LfType) (E : LfType) (es : List LfType) (θ τ : ℕ → Image) → instance (onto later (E ∷ es)) θ ≡ instance (onto later (E ∷ es)) τ → substitute_type reduce (lift_over es θ) E ≡ substitute_type reduce (lift_over es τ) E
  entry_same [] E es θ τ r = cc
  entry_same (L ∷ later) E es θ τ r = entry_same later E es θ τ (rest r)
    where
      rest : {X Y : LfType} {Xs Ys : List LfType} → X ∷ Xs ≡ Y ∷ Ys → Xs ≡ Ys
      rest e = cc

  pub some_terms : (B : Block) → IsTypedBlock Σ B → IsStrictBlock B → (D : List LfType) (θ τ : ℕ → Image) → Values Σ everything B.some D θ → Values Σ everything B.some D τ → instance B.entries θ ≡ instance B.entries τ → (x : ℕ) (A : LfType) → TypeAt B.some x A → IsTerm (θ x) → IsTerm (τ x) → θ x ≡ τ x
  some_terms B b st D θ τ v v' r x A g p p' =
      let (later, E, es, o, s) = st x A g in
      some_values B later E es b o D θ τ v v' x A g p p' s (entry_same later E es θ τ (subst (λ X. instance X θ ≡ instance X τ) (sym o) r))
