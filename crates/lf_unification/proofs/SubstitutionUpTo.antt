-- Hereditary substitution keeps typing up to U, where the types of metavariables have skeletons at each filling. The outer context is empty.
use Rattle.lf_unification.proofs.ToSkeletons.{kind_by_skeletons}
use Rattle.lf_unification.proofs.OpenTypes.{fill_kind, fill_instance_kind}
use Rattle.lf_unification.proofs.Exhaust.{local_skeleton_context}
use Rattle.lf.proofs.ToSkeletons.{kind_skeleton_substituted}
use Rattle.lf.proofs.Substitution.{family_kind}
use Rattle.lf.specs.SkeletonTyping.{KindBySkeletons}
use Rattle.std.proofs.Common.{◌≡◌, ℕ, zero, suc, List, [], ◌∷◌, Option, Some, refl, sym, ap, ◌∙◌, subst, ap₂}
use mathlib.Core.Path.{fun_ext}
use Rattle.lf.specs.Skeletons.{context_skeletons, family_skeletons}
use Rattle.lf.specs.Substitution.{Image, apply_image, keep, lift, put, reduce, rename_image, single, substitute, substitute_spine, substitute_type, substitute_kind}
use Rattle.lf.specs.Syntax.{Skeleton, Spine, Term, LfType, app, arrow, atom, base, constant, lambda, metavariable, nil, pi, root, skeleton, variable, weaken, Kind, kind_pi, star, kind_skeleton}
use Rattle.lf.specs.Typing.{IsSignature, Signature, TypeAt, instantiate_type, instantiate_kind}
use Rattle.lf.specs.Variables.{onto}
use Rattle.lf.proofs.Closed.{closed_type_substituted, closed_kind_substituted}
use Rattle.lf.proofs.Renaming.{OnPut, Puts, Puts-lift, Puts-single, reduction_beta}
use Rattle.lf.proofs.SkeletonTypes.{renaming_keeps_types_by_skeletons, substitute_single_type, substitution_keeps_types_by_skeletons, single_kind_by_skeletons, substitute_single_kind, substitution_keeps_kinds_by_skeletons}
use Rattle.lf.proofs.TypeLaws.{lifted_substitution_weakened_type, skeleton_renamed, skeleton_substituted, substitute_renamed_type, substitute_weakened_type, substitution_as_renaming_type}
use Rattle.lf_unification.specs.Filling.{fill, fill_type, moved}
use Rattle.lf_unification.specs.OpenTyping.{OpenHasType, OpenSpineType, TypesAgree, skeletons_of, under_locals, weaken_past, OpenIsType, OpenSpineFitsKind}
use Rattle.lf_unification.specs.Patterns.{beyond, local_skeletons}
use Rattle.lf_unification.specs.Skeletons.{TotalSkeletons, as_head_skeletons, total_skeletons}
use Rattle.lf_unification.proofs.Decompose.{OpenHasType-convert, next_ok, same_next}
use Rattle.lf_unification.proofs.Filling.{Filled, Filled-lift, Filled-single, fill_substituted_type, SkeletonsFill}
use Rattle.lf_unification.proofs.OpenEta.{Into-weak, OpenHasType-rename}
use Rattle.lf_unification.proofs.OpenRenamingBack.{AllSkeletonsUpTo, SkeletonsUpTo, constant_by_skeletons, raise_moved, same_weak, values_under}

arrow_or_base : {a b : Skeleton} {c : ℕ} → base c ≡ arrow a b → ⊥
arrow_or_base e = cc

first_part : {a b a' b' : Skeleton} → arrow a b ≡ arrow a' b' → a ≡ a'
first_part e = cc

second_part : {a b a' b' : Skeleton} → arrow a b ≡ arrow a' b' → b ≡ b'
second_part e = cc

module _ (Σ : Signature) (ok : IsSignature Σ) (Ψ : ℕ → Option LfType) (U : (ℕ → Option Term) → Type 0) (SU : (β : ℕ → Option Term) → U β → SkeletonsUpTo Σ ok [] Ψ U β) (MS : (D : List LfType) (m : ℕ) (B : LfType) → Ψ m ≡ Some B → AllSkeletonsUpTo Σ ok [] Ψ U SU D (weaken_past D B)) where
  abbrev μ : ℕ → Skeleton
  μ = skeletons_of Ψ

  abbrev κ : TotalSkeletons
  κ = total_skeletons Σ μ

  abbrev φ : ℕ → Option Skeleton
  φ = family_skeletons Σ

  abbrev Γ : (β : ℕ → Option Term) → U β → List LfType → List Skeleton
  Γ β u D = local_skeletons D (context_skeletons (SU β u).free)

  abbrev pub Ok : List LfType → LfType → Type 0
  Ok D A = AllSkeletonsUpTo Σ ok [] Ψ U SU D A

  abbrev pub ContextBySkeletons : List LfType → Type 0
  ContextBySkeletons D = (i : ℕ) (X : LfType) → TypeAt (onto D []) i X → Ok D X

  abbrev pub Same : List LfType → LfType → LfType → Type 0
  Same D A B = TypesAgree Σ [] Ψ U D A B

  same_is : (D : List LfType) (A B : LfType) → A ≡ B → Same D A B
  same_is D A B e = (ap skeleton e, λ β u. ap (fill_type μ (under_locals D β)) e)

  same_sym : (D : List LfType) (A B : LfType) → Same D A B → Same D B A
  same_sym D A B (e, f) = (sym e, λ β u. sym (f β u))

  same_trans : (D : List LfType) (A B C : LfType) → Same D A B → Same D B C → Same D A C
  same_trans D A B C (e, f) (g, h) = (e ∙ g, λ β u. f β u ∙ h β u)

  pub convert : (D : List LfType) → ContextBySkeletons D → (N : Term) (A B : LfType) → Ok D A → Ok D B → Same D A B → OpenHasType Σ [] Ψ U D N B → OpenHasType Σ [] Ψ U D N A
  convert D here = OpenHasType-convert Σ ok [] Ψ U SU MS D here

  pub spine_convert : (D : List LfType) → ContextBySkeletons D → (S : Spine) (Y X C' C : LfType) → Ok D Y → Ok D X → Same D Y X → Same D C' C → OpenSpineType Σ [] Ψ U D S X C → OpenSpineType Σ [] Ψ U D S Y C'
  spine_convert D here nil Y X C' C y x s t e = same_trans D Y X C' s (same_trans D X C C' e (same_sym D C' C t))
  spine_convert D here (app M S) (pi Y Y') (pi X X') C' C y x s t (m, k) =
      let s₀ : Same D Y X = (first_part s.0, λ β u. let q : pi (fill_type μ (under_locals D β) Y) (fill_type μ (moved suc (under_locals D β)) Y') ≡ pi (fill_type μ (under_locals D β) X) (fill_type μ (moved suc (under_locals D β)) X') = s.1 β u in cc) in
      let m' : OpenHasType Σ [] Ψ U D M Y = convert D here M Y X (λ β u. (y β u).0) (λ β u. (x β u).0) s₀ m in
      (m', spine_convert D here S (instantiate_type Y M Y') (instantiate_type X M X') C' C (next_ok Σ ok [] Ψ U SU MS D here Y Y' M m' y) (next_ok Σ ok [] Ψ U SU MS D here X X' M m x) (same_next Σ ok [] Ψ U SU MS D here Y Y' X X' M M y x m' m s (λ β u. refl)) t k)
  spine_convert D here (app M S) (atom c T) (pi X X') C' C y x s t k = absurd (arrow_or_base s.0)
  spine_convert D here (app M S) Y (atom c T) C' C y x s t k = absurd k

  -- what stands for a variable
  abbrev ImageIsTyped : List LfType → Image → LfType → Type 0
  ImageIsTyped D (keep j) A = (Z : LfType) × TypeAt (onto D []) j Z × Same D Z A
  ImageIsTyped D (put a N) A = (skeleton A ≡ a) × OpenHasType Σ [] Ψ U D N A

  -- a substitution from D to E, typed up to U, with what it is after each filling
  pub record OpenSubstitutes (D E : List LfType) (σ : ℕ → Image) : Type 0 where
    outer : (i : ℕ) → σ (beyond D i) ≡ keep (beyond E i)
    typed : (i : ℕ) (X : LfType) → TypeAt (onto D []) i X → ImageIsTyped E (σ i) (substitute_type reduce σ X)
    source : ContextBySkeletons D
    target : ContextBySkeletons E
    after : (β : ℕ → Option Term) → U β → ℕ → Image
    filled : (β : ℕ → Option Term) (u : U β) → Filled κ (Γ β u D) (Γ β u E) (under_locals D β) (under_locals E β) σ (after β u)

  ok_substituted : (D E : List LfType) (σ : ℕ → Image) (A : LfType) → OpenSubstitutes D E σ → Ok D A → Ok E (substitute_type reduce σ A)
  ok_substituted D E σ A w a β u = substitution_keeps_types_by_skeletons φ (as_head_skeletons κ) (Γ β u D) (Γ β u E) σ A (w.filled β u).by_skeletons (a β u)

  same_substituted : (D E : List LfType) (σ : ℕ → Image) (A C : LfType) → OpenSubstitutes D E σ → Ok D A → Ok D C → Same D A C → Same E (substitute_type reduce σ A) (substitute_type reduce σ C)
  same_substituted D E σ A C w a c (e, f) = (
    skeleton_substituted reduce σ A ∙ e ∙ sym (skeleton_substituted reduce σ C),
    λ β u.
        fill_substituted_type κ φ (Γ β u D) (Γ β u E) (under_locals D β) (under_locals E β) σ (w.after β u) A (w.filled β u) (a β u)
        ∙ ap (substitute_type reduce (w.after β u)) (f β u)
        ∙ sym (fill_substituted_type κ φ (Γ β u D) (Γ β u E) (under_locals D β) (under_locals E β) σ (w.after β u) C (w.filled β u) (c β u)),
  )

  ok_weak : (D : List LfType) (B A : LfType) → Ok D A → Ok (B ∷ D) (weaken A)
  ok_weak D B A a β u = renaming_keeps_types_by_skeletons φ (as_head_skeletons κ) (Γ β u D) (skeleton B ∷ Γ β u D) suc A (λ i t g. g) (a β u)

  pub push : (D : List LfType) (B : LfType) → ContextBySkeletons D → Ok D B → ContextBySkeletons (B ∷ D)
  push D B h b zero X e = subst (Ok (B ∷ D)) (sym e) (ok_weak D B B b)
  push D B h b (suc i) X (C, g, e) = subst (Ok (B ∷ D)) (sym e) (ok_weak D B C (h i C g))

  image_weak : (E : List LfType) (B : LfType) (x : Image) (A : LfType) → ImageIsTyped E x A → ImageIsTyped (B ∷ E) (rename_image suc x) (weaken A)
  image_weak E B (keep j) A (Z, g, s) = (weaken Z, (Z, g, refl), same_weak Σ ok [] Ψ U E B Z A s)
  image_weak E B (put a N) A (e, n) = (skeleton_renamed suc A ∙ e, OpenHasType-rename Σ ok [] Ψ U E (B ∷ E) suc N A (Into-weak Σ ok [] Ψ U E B) n)

  lift_typed : (D E : List LfType) (σ : ℕ → Image) (B : LfType) → ((i : ℕ) (X : LfType) → TypeAt (onto D []) i X → ImageIsTyped E (σ i) (substitute_type reduce σ X)) → (i : ℕ) (X : LfType) → TypeAt (onto (B ∷ D) []) i X → ImageIsTyped (substitute_type reduce σ B ∷ E) (lift σ i) (substitute_type reduce (lift σ) X)
  lift_typed D E σ B w zero X e = (weaken (substitute_type reduce σ B), refl, same_is (substitute_type reduce σ B ∷ E) (weaken (substitute_type reduce σ B)) (substitute_type reduce (lift σ) X) (sym (ap (substitute_type reduce (lift σ)) e ∙ lifted_substitution_weakened_type σ B)))
  lift_typed D E σ B w (suc i) X (C, g, e) = subst (ImageIsTyped (substitute_type reduce σ B ∷ E) (rename_image suc (σ i))) (sym (ap (substitute_type reduce (lift σ)) e ∙ lifted_substitution_weakened_type σ C)) (image_weak E (substitute_type reduce σ B) (σ i) (substitute_type reduce σ C) (w i C g))

  pub lift_sub : (D E : List LfType) (σ : ℕ → Image) (B : LfType) → OpenSubstitutes D E σ → Ok D B → OpenSubstitutes (B ∷ D) (substitute_type reduce σ B ∷ E) (lift σ)
  lift_sub D E σ B w b = record {
    outer = λ i. ap (rename_image suc) (w.outer i);
    typed = lift_typed D E σ B w.typed;
    source = push D B w.source b;
    target = push E (substitute_type reduce σ B) w.target (ok_substituted D E σ B w b);
    after = λ β u. lift (w.after β u);
    filled = λ β u. subst (λ t. Filled κ (skeleton B ∷ Γ β u D) (t ∷ Γ β u E) (under_locals (B ∷ D) β) (under_locals (substitute_type reduce σ B ∷ E) β) (lift σ) (lift (w.after β u))) (sym (skeleton_substituted reduce σ B)) (Filled-lift κ (skeleton B) (Γ β u D) (Γ β u E) (under_locals D β) (under_locals E β) σ (w.after β u) (w.filled β u));
  }

  pub single_sub : (D : List LfType) (A : LfType) (M : Term) → ContextBySkeletons D → Ok D A → OpenHasType Σ [] Ψ U D M A → OpenSubstitutes (A ∷ D) D (single (skeleton A) M)
  single_sub D A M here a m = record {
    outer = λ i. refl;
    typed = typed;
    source = push D A here a;
    target = here;
    after = λ β u. single (skeleton A) (fill μ (under_locals D β) M);
    filled = λ β u. Filled-single κ (skeleton A) (Γ β u D) (under_locals D β) M (values_under Σ ok [] Ψ U D β (context_skeletons (SU β u).free) (SU β u).values) ((SU β u).terms D M A m);
  }
    where
      typed : (i : ℕ) (X : LfType) → TypeAt (onto (A ∷ D) []) i X → ImageIsTyped D (single (skeleton A) M i) (substitute_type reduce (single (skeleton A) M) X)
      typed zero X e =
          let q : substitute_type reduce (single (skeleton A) M) X ≡ A = ap (substitute_type reduce (single (skeleton A) M)) e ∙ substitute_weakened_type reduce (skeleton A) M A in
          (ap skeleton q, subst (OpenHasType Σ [] Ψ U D M) (sym q) m)
      typed (suc i) X (C, g, e) = (C, g, same_is D C (substitute_type reduce (single (skeleton A) M) X) (sym (ap (substitute_type reduce (single (skeleton A) M)) e ∙ substitute_weakened_type reduce (skeleton A) M C)))

  raise_substituted : (D E : List LfType) (σ : ℕ → Image) (B : LfType) → ((i : ℕ) → σ (beyond D i) ≡ keep (beyond E i)) → substitute_type reduce σ (weaken_past D B) ≡ weaken_past E B
  raise_substituted D E σ B h = ap (substitute_type reduce σ) (raise_moved Σ ok [] Ψ U D B) ∙ substitute_renamed_type reduce σ (beyond D) B ∙ ap (λ f. substitute_type reduce f B) (fun_ext h) ∙ substitution_as_renaming_type reduce (beyond E) B ∙ sym (raise_moved Σ ok [] Ψ U E B)

  -- what `reduce` is to do at a skeleton
  abbrev pub Reduces : Skeleton → Type 0
  Reduces a = (D : List LfType) (N : Term) (S : Spine) (A C : LfType) → skeleton A ≡ a → ContextBySkeletons D → Ok D A → Ok D C → OpenHasType Σ [] Ψ U D N A → OpenSpineType Σ [] Ψ U D S A C → OpenHasType Σ [] Ψ U D (reduce a N S) C

  apply_typed : (D : List LfType) (x : Image) (S : Spine) (A : LfType) (b : ℕ) (T : Spine) → OnPut Reduces x → ContextBySkeletons D → Ok D A → Ok D (atom b T) → ImageIsTyped D x A → OpenSpineType Σ [] Ψ U D S A (atom b T) → OpenHasType Σ [] Ψ U D (apply_image reduce x S) (atom b T)
  apply_typed D (keep j) S A b T k h a t (Z, g, s) p = (Z, g, spine_convert D h S Z A (atom b T) (atom b T) (h j Z g) a s (same_is D (atom b T) (atom b T) refl) p)
  apply_typed D (put c N) S A b T k h a t (e, n) p = k D N S A (atom b T) e h a t n p

  instance_same : (D E : List LfType) (σ : ℕ → Image) (A : LfType) (M : Term) (B : LfType) → OpenSubstitutes D E σ → Ok D (pi A B) → OpenHasType Σ [] Ψ U D M A →
      Same E (instantiate_type (substitute_type reduce σ A) (substitute reduce σ M) (substitute_type reduce (lift σ) B)) (substitute_type reduce σ (instantiate_type A M B))
  instance_same D E σ A M B w t m = (
    skeleton_substituted reduce (single (skeleton (substitute_type reduce σ A)) (substitute reduce σ M)) (substitute_type reduce (lift σ) B) ∙ skeleton_substituted reduce (lift σ) B ∙ sym (skeleton_substituted reduce σ (instantiate_type A M B) ∙ skeleton_substituted reduce (single (skeleton A) M) B),
    λ β u. ap (fill_type μ (under_locals E β)) (sym (
        substitute_single_type φ (as_head_skeletons κ) (Γ β u D) (Γ β u E) σ (skeleton A) M B (w.filled β u).by_skeletons ((SU β u).terms D M A m) (t β u).1
        ∙ ap (λ s. substitute_type reduce (single s (substitute reduce σ M)) (substitute_type reduce (lift σ) B)) (sym (skeleton_substituted reduce σ A)))),
  )

  mutual
    pub substituted : (D E : List LfType) (σ : ℕ → Image) (M : Term) (A : LfType) → Puts Reduces σ → OpenSubstitutes D E σ → Ok D A → OpenHasType Σ [] Ψ U D M A → OpenHasType Σ [] Ψ U E (substitute reduce σ M) (substitute_type reduce σ A)
    substituted D E σ (lambda M) (pi A B) k w t m = substituted (A ∷ D) (substitute_type reduce σ A ∷ E) (lift σ) M B (Puts-lift Reduces σ k) (lift_sub D E σ A w (λ β u. (t β u).0)) (λ β u. (t β u).1) m
    substituted D E σ (lambda M) (atom b T) k w t m = absurd m
    substituted D E σ (root h S) (pi A B) k w t m = absurd m
    substituted D E σ (root (constant c) S) (atom b T) k w t (A, e, s) = (substitute_type reduce σ A, subst (λ X. Σ.types c ≡ Some X) (sym (closed_type_substituted Σ reduce σ A (ok.types_ok c A e))) e, substituted_spine D E σ S A (atom b T) k w (constant_by_skeletons Σ ok [] Ψ U SU MS D c A e) t s)
    substituted D E σ (root (metavariable n) S) (atom b T) k w t (A, (B, g, e), s) = (weaken_past E B, (B, g, refl), subst (λ X. OpenSpineType Σ [] Ψ U E (substitute_spine reduce σ S) X (atom b (substitute_spine reduce σ T))) (ap (substitute_type reduce σ) e ∙ raise_substituted D E σ B w.outer) (substituted_spine D E σ S A (atom b T) k w (subst (Ok D) (sym e) (MS D n B g)) t s))
    substituted D E σ (root (variable i) S) (atom b T) k w t (A, g, s) = apply_typed E (σ i) (substitute_spine reduce σ S) (substitute_type reduce σ A) b (substitute_spine reduce σ T) (k i) w.target (ok_substituted D E σ A w (w.source i A g)) (ok_substituted D E σ (atom b T) w t) (w.typed i A g) (substituted_spine D E σ S A (atom b T) k w (w.source i A g) t s)

    substituted_spine : (D E : List LfType) (σ : ℕ → Image) (S : Spine) (A C : LfType) → Puts Reduces σ → OpenSubstitutes D E σ → Ok D A → Ok D C → OpenSpineType Σ [] Ψ U D S A C → OpenSpineType Σ [] Ψ U E (substitute_spine reduce σ S) (substitute_type reduce σ A) (substitute_type reduce σ C)
    substituted_spine D E σ nil A C k w t c s = same_substituted D E σ A C w t c s
    substituted_spine D E σ (app M S) (pi A B) C k w t c (m, s) =
        let m' : OpenHasType Σ [] Ψ U E (substitute reduce σ M) (substitute_type reduce σ A) = substituted D E σ M A k w (λ β u. (t β u).0) m in
        let n : Ok D (instantiate_type A M B) = next_ok Σ ok [] Ψ U SU MS D w.source A B M m t in (
          m',
          spine_convert E w.target (substitute_spine reduce σ S) (instantiate_type (substitute_type reduce σ A) (substitute reduce σ M) (substitute_type reduce (lift σ) B)) (substitute_type reduce σ (instantiate_type A M B)) (substitute_type reduce σ C) (substitute_type reduce σ C)
              (next_ok Σ ok [] Ψ U SU MS E w.target (substitute_type reduce σ A) (substitute_type reduce (lift σ) B) (substitute reduce σ M) m' (ok_substituted D E σ (pi A B) w t))
              (ok_substituted D E σ (instantiate_type A M B) w n) (instance_same D E σ A M B w t m) (same_is E (substitute_type reduce σ C) (substitute_type reduce σ C) refl)
              (substituted_spine D E σ S (instantiate_type A M B) C k w n c s),
        )
    substituted_spine D E σ (app M S) (atom b T) C k w t c s = absurd s

  -- THE theorem: a term applied to a spine of its type has the type that is left
  pub reduction_typed : (a : Skeleton) → Reduces a
  reduction_typed (base c) D N nil A C e h a t n s = convert D h N C A t a (same_sym D A C s) n
  reduction_typed (base c) D N (app M S) (pi A B) C e h a t n s = absurd (arrow_or_base (sym e))
  reduction_typed (base c) D N (app M S) (atom b T) C e h a t n s = absurd s
  reduction_typed (arrow a b) D (root x T) nil A C e h p t n s = convert D h (root x T) C A t p (same_sym D A C s) n
  reduction_typed (arrow a b) D (root x T) (app M S) (pi A B) C e h p t n s = absurd n
  reduction_typed (arrow a b) D (root x T) (app M S) (atom c V) C e h p t n s = absurd s
  reduction_typed (arrow a b) D (lambda N) nil A C e h p t n s = convert D h (lambda N) C A t p (same_sym D A C s) n
  reduction_typed (arrow a b) D (lambda N) (app M S) (atom c V) C e h p t n s = absurd s
  reduction_typed (arrow a b) D (lambda N) (app M S) (pi A B) C e h p t n (m, s) =
      let q : skeleton A ≡ a = first_part e in
      let n' : OpenHasType Σ [] Ψ U D (substitute reduce (single (skeleton A) M) N) (instantiate_type A M B) = substituted (A ∷ D) D (single (skeleton A) M) N B (Puts-single Reduces (skeleton A) M (subst Reduces (sym q) (reduction_typed a))) (single_sub D A M h (λ β u. (p β u).0) m) (λ β u. (p β u).1) n in
      subst (λ X. OpenHasType Σ [] Ψ U D X C) (ap (λ x. reduce b (substitute reduce (single x M) N) S) q ∙ sym (reduction_beta a b N M S)) (reduction_typed b D (substitute reduce (single (skeleton A) M) N) S (instantiate_type A M B) C (skeleton_substituted reduce (single (skeleton A) M) B ∙ second_part e) h (next_ok Σ ok [] Ψ U SU MS D h A B M m p) t n' s)

  -- kinds
  abbrev pub KindBySkeletonsAt : List LfType → Kind → Type 0
  KindBySkeletonsAt D K = (β : ℕ → Option Term) (u : U β) → KindBySkeletons φ (as_head_skeletons κ) (Γ β u D) K

  abbrev pub SameKind : List LfType → Kind → Kind → Type 0
  SameKind D K L = (kind_skeleton 0 K ≡ kind_skeleton 0 L) × ((β : ℕ → Option Term) → U β → fill_kind μ (under_locals D β) K ≡ fill_kind μ (under_locals D β) L)

  pub next_kind : (D : List LfType) (A : LfType) (M : Term) (K : Kind) → OpenHasType Σ [] Ψ U D M A → KindBySkeletonsAt D (kind_pi A K) → KindBySkeletonsAt D (instantiate_kind A M K)
  next_kind D A M K m k β u = single_kind_by_skeletons φ (as_head_skeletons κ) (skeleton A) (Γ β u D) M K ((SU β u).terms D M A m) (k β u).1

  pub same_next_kind : (D : List LfType) (A X : LfType) (K L : Kind) (M N : Term) → KindBySkeletonsAt D (kind_pi A K) → KindBySkeletonsAt D (kind_pi X L) → OpenHasType Σ [] Ψ U D M A → OpenHasType Σ [] Ψ U D N X → SameKind D (kind_pi A K) (kind_pi X L) → ((β : ℕ → Option Term) → U β → fill μ (under_locals D β) M ≡ fill μ (under_locals D β) N) →
      SameKind D (instantiate_kind A M K) (instantiate_kind X N L)
  same_next_kind D A X K L M N a x m n (e, f) h = (
    kind_skeleton_substituted 0 reduce (single (skeleton A) M) K ∙ second_part e ∙ sym (kind_skeleton_substituted 0 reduce (single (skeleton X) N) L),
    λ β u.
        let g : SkeletonsFill κ (Γ β u D) (under_locals D β) = values_under Σ ok [] Ψ U D β (context_skeletons (SU β u).free) (SU β u).values in
        let r : kind_pi (fill_type μ (under_locals D β) A) (fill_kind μ (moved suc (under_locals D β)) K) ≡ kind_pi (fill_type μ (under_locals D β) X) (fill_kind μ (moved suc (under_locals D β)) L) = f β u in
        let p : fill_type μ (under_locals D β) A ≡ fill_type μ (under_locals D β) X = cc in
        let q : fill_kind μ (moved suc (under_locals D β)) K ≡ fill_kind μ (moved suc (under_locals D β)) L = cc in
        fill_instance_kind κ φ (Γ β u D) (under_locals D β) A M K g ((SU β u).terms D M A m) (a β u).1
        ∙ ap (λ M. instantiate_kind (fill_type μ (under_locals D β) A) M (fill_kind μ (moved suc (under_locals D β)) K)) (h β u)
        ∙ ap₂ (λ z y. instantiate_kind z (fill μ (under_locals D β) N) y) p q
        ∙ sym (fill_instance_kind κ φ (Γ β u D) (under_locals D β) X N L g ((SU β u).terms D N X n) (x β u).1),
  )

  pub kind_convert : (D : List LfType) → ContextBySkeletons D → (S : Spine) (K L : Kind) → KindBySkeletonsAt D K → KindBySkeletonsAt D L → SameKind D K L → OpenSpineFitsKind Σ [] Ψ U D S L → OpenSpineFitsKind Σ [] Ψ U D S K
  kind_convert D h nil star star k l s f = tt
  kind_convert D h nil (kind_pi A K) star k l s f = absurd (arrow_or_base (sym s.0))
  kind_convert D h nil K (kind_pi X L) k l s f = absurd f
  kind_convert D h (app M S) K star k l s f = absurd f
  kind_convert D h (app M S) star (kind_pi X L) k l s f = absurd (arrow_or_base s.0)
  kind_convert D h (app M S) (kind_pi A K) (kind_pi X L) k l s (m, f) =
      let s₀ : Same D A X = (first_part s.0, λ β u. let q : kind_pi (fill_type μ (under_locals D β) A) (fill_kind μ (moved suc (under_locals D β)) K) ≡ kind_pi (fill_type μ (under_locals D β) X) (fill_kind μ (moved suc (under_locals D β)) L) = s.1 β u in cc) in
      let m' : OpenHasType Σ [] Ψ U D M A = convert D h M A X (λ β u. (k β u).0) (λ β u. (l β u).0) s₀ m in
      (m', kind_convert D h S (instantiate_kind A M K) (instantiate_kind X M L) (next_kind D A M K m' k) (next_kind D X M L m l) (same_next_kind D A X K L M M k l m' m s (λ β u. refl)) f)

  kind_instance_same : (D E : List LfType) (σ : ℕ → Image) (A : LfType) (M : Term) (K : Kind) → OpenSubstitutes D E σ → KindBySkeletonsAt D (kind_pi A K) → OpenHasType Σ [] Ψ U D M A →
      SameKind E (instantiate_kind (substitute_type reduce σ A) (substitute reduce σ M) (substitute_kind reduce (lift σ) K)) (substitute_kind reduce σ (instantiate_kind A M K))
  kind_instance_same D E σ A M K w t m = (
    kind_skeleton_substituted 0 reduce (single (skeleton (substitute_type reduce σ A)) (substitute reduce σ M)) (substitute_kind reduce (lift σ) K) ∙ kind_skeleton_substituted 0 reduce (lift σ) K ∙ sym (kind_skeleton_substituted 0 reduce σ (instantiate_kind A M K) ∙ kind_skeleton_substituted 0 reduce (single (skeleton A) M) K),
    λ β u. ap (fill_kind μ (under_locals E β)) (sym (
        substitute_single_kind φ (as_head_skeletons κ) (Γ β u D) (Γ β u E) σ (skeleton A) M K (w.filled β u).by_skeletons ((SU β u).terms D M A m) (t β u).1
        ∙ ap (λ s. substitute_kind reduce (single s (substitute reduce σ M)) (substitute_kind reduce (lift σ) K)) (sym (skeleton_substituted reduce σ A)))),
  )

  ok_kind_substituted : (D E : List LfType) (σ : ℕ → Image) (K : Kind) → OpenSubstitutes D E σ → KindBySkeletonsAt D K → KindBySkeletonsAt E (substitute_kind reduce σ K)
  ok_kind_substituted D E σ K w k β u = substitution_keeps_kinds_by_skeletons φ (as_head_skeletons κ) (Γ β u D) (Γ β u E) σ K (w.filled β u).by_skeletons (k β u)

  substituted_kind_spine : (D E : List LfType) (σ : ℕ → Image) (S : Spine) (K : Kind) → Puts Reduces σ → OpenSubstitutes D E σ → KindBySkeletonsAt D K → OpenSpineFitsKind Σ [] Ψ U D S K → OpenSpineFitsKind Σ [] Ψ U E (substitute_spine reduce σ S) (substitute_kind reduce σ K)
  substituted_kind_spine D E σ nil (kind_pi A K) p w k s = absurd s
  substituted_kind_spine D E σ nil star p w k s = tt
  substituted_kind_spine D E σ (app M S) star p w k s = absurd s
  substituted_kind_spine D E σ (app M S) (kind_pi A K) p w k (m, s) =
      let m' : OpenHasType Σ [] Ψ U E (substitute reduce σ M) (substitute_type reduce σ A) = substituted D E σ M A p w (λ β u. (k β u).0) m in
      let n : KindBySkeletonsAt D (instantiate_kind A M K) = next_kind D A M K m k in (
        m',
        kind_convert E w.target (substitute_spine reduce σ S) (instantiate_kind (substitute_type reduce σ A) (substitute reduce σ M) (substitute_kind reduce (lift σ) K)) (substitute_kind reduce σ (instantiate_kind A M K))
            (next_kind E (substitute_type reduce σ A) (substitute reduce σ M) (substitute_kind reduce (lift σ) K) m' (ok_kind_substituted D E σ (kind_pi A K) w k))
            (ok_kind_substituted D E σ (instantiate_kind A M K) w n) (kind_instance_same D E σ A M K w k m)
            (substituted_kind_spine D E σ S (instantiate_kind A M K) p w n s),
      )

  pub closed_kind : (D : List LfType) (a : ℕ) (K : Kind) → Σ.kinds a ≡ Some K → KindBySkeletonsAt D K
  closed_kind D a K e β u = subst (λ Δ. KindBySkeletons φ (as_head_skeletons κ) Δ K) (local_skeleton_context D (SU β u).free) (kind_by_skeletons Σ μ (onto D (SU β u).free) K (family_kind Σ ok (onto D (SU β u).free) a K e))

  pub type_substituted : (D E : List LfType) (σ : ℕ → Image) (A : LfType) → Puts Reduces σ → OpenSubstitutes D E σ → Ok D A → OpenIsType Σ [] Ψ U D A → OpenIsType Σ [] Ψ U E (substitute_type reduce σ A)
  type_substituted D E σ (pi A B) k w t (a, b) = (type_substituted D E σ A k w (λ β u. (t β u).0) a, type_substituted (A ∷ D) (substitute_type reduce σ A ∷ E) (lift σ) B (Puts-lift Reduces σ k) (lift_sub D E σ A w (λ β u. (t β u).0)) (λ β u. (t β u).1) b)
  type_substituted D E σ (atom a S) k w t (K, e, s) = (K, e, subst (OpenSpineFitsKind Σ [] Ψ U E (substitute_spine reduce σ S)) (closed_kind_substituted Σ reduce σ K (ok.kinds_ok a K e)) (substituted_kind_spine D E σ S K k w (closed_kind D a K e) s))

  -- THE theorem on types: the codomain with an argument put in is a type
  pub instance_typed : (D : List LfType) (A : LfType) (M : Term) (B : LfType) → ContextBySkeletons D → Ok D (pi A B) → OpenHasType Σ [] Ψ U D M A → OpenIsType Σ [] Ψ U (A ∷ D) B → OpenIsType Σ [] Ψ U D (instantiate_type A M B)
  instance_typed D A M B h t m b = type_substituted (A ∷ D) D (single (skeleton A) M) B (Puts-single Reduces (skeleton A) M (reduction_typed (skeleton A))) (single_sub D A M h (λ β u. (t β u).0) m) (λ β u. (t β u).1) b

  -- and of terms: the body with an argument put in
  pub term_instance_typed : (D : List LfType) (A : LfType) (M : Term) (B : LfType) (N : Term) → ContextBySkeletons D → Ok D (pi A B) → OpenHasType Σ [] Ψ U D M A → OpenHasType Σ [] Ψ U (A ∷ D) N B → OpenHasType Σ [] Ψ U D (substitute reduce (single (skeleton A) M) N) (instantiate_type A M B)
  term_instance_typed D A M B N h t m n = substituted (A ∷ D) D (single (skeleton A) M) N B (Puts-single Reduces (skeleton A) M (reduction_typed (skeleton A))) (single_sub D A M h (λ β u. (t β u).0) m) (λ β u. (t β u).1) n
