-- What a type is raised over; and a term that uses these local variables alone is raised over them.
use Rattle.std.proofs.Common.{◌≡◌, ℕ, zero, suc, List, [], ◌∷◌, ◌+◌, length, refl, sym, ap, ap₂, ◌∙◌, subst, arith}
use Rattle.std.specs.Prelude.{Bool, true, false, cond}
use Rattle.lf.specs.Syntax.{constant, variable, metavariable, Term, Spine, lambda, root, nil, app, LfType, pi, atom, Skeleton, base, arrow, skeleton, rename, rename_spine, rename_type, lift_renaming}
use Rattle.lf.specs.Substitution.{Image, keep, single, substitute, substitute_type, reduce}
use Rattle.lf.specs.SkeletonTyping.{HeadSkeletons, TermSkeleton, SpineSkeleton}
use Rattle.lf.specs.Skeletons.{constant_skeletons, context_skeletons}
use Rattle.lf.specs.Typing.{Signature, TypeAt, HasType, IsType, IsContext, IsSignature}
use Rattle.lf.specs.Eta.{add_last, eta_long}
use Rattle.lf.specs.AtOnce.{shift_by}
use Rattle.lf.specs.Variables.{target, onto, under, hide, everything, same_number, Uses, UsesSpine, UsesType, FamiliesIn, Values, Within, IsTypedRenamingOn, at_variable}
use Rattle.lf.specs.Subordination.{Block, SelfContained}
use Rattle.lf_cases.specs.Raised.{raise_by, locals_by, raised_over, low}
use Rattle.lf_unification.specs.Search.{occurs, occurs_spine, occurs_type}
use Rattle.lf_checks.specs.Tests.{either}
use Rattle.lf.proofs.Renaming.{renamings_compose, substitute_renamed, substitute_identity, reduction_is_natural, reduction_beta}
use Rattle.lf.proofs.TypeLaws.{renamings_compose_type, substitution_as_renaming, substitute_identity_type, substitution_as_renaming_type, skeleton_renamed}
use Rattle.lf.proofs.SkeletonTyping.{renaming_keeps_skeletons, renaming_keeps_spine_skeletons, single_by_skeletons, substitution_keeps_skeletons}
use Rattle.lf.proofs.ToSkeletons.{typed_has_skeleton}
use Rattle.lf.proofs.Agreement.{agree_on, agree_on_type, uses_within}
use Rattle.lf.proofs.Uses.{uses_renamed, uses_type_renamed}
use Rattle.lf.proofs.Eta.{EtaLike, Fits, eta_renames, reduce_nil, eta_expand_has_skeleton}
use Rattle.lf.proofs.Target.{target_renamed}
use Rattle.lf.proofs.Partial.{partial_substitution_keeps_types, uses_type_all, skeletons_beside}
use Rattle.lf.proofs.Patch.{patch, patch_same, patched}
use Rattle.lf.proofs.Strength.{uses_only, strengthening_keeps_typing}
use Rattle.lf.proofs.Strengthening.{TypesIn}
use mathlib.Core.Path.{fun_ext}

pub rename_identity : (M : Term) → rename (λ i. i) M ≡ M
rename_identity M = sym (substitution_as_renaming reduce (λ i. i) M) ∙ substitute_identity reduce M

pub rename_identity_type : (A : LfType) → rename_type (λ i. i) A ≡ A
rename_identity_type A = sym (substitution_as_renaming_type reduce (λ i. i) A) ∙ substitute_identity_type reduce A

-- without the newest variable
abbrev but_newest : ℕ → Bool
but_newest = hide everything

-- what doesn't use the newest variable, moved out from under it and back
back_image : (i : ℕ) → but_newest i ≡ true → keep (suc (at_variable zero i)) ≡ keep i
back_image zero e = absurd cc
back_image (suc i) e = refl

there_and_back : (M : Term) → Uses but_newest M → rename suc (rename (at_variable zero) M) ≡ M
there_and_back M u = renamings_compose suc (at_variable zero) M ∙ sym (substitution_as_renaming reduce (λ i. suc (at_variable zero i)) M) ∙ agree_on reduce but_newest (λ i. keep (suc (at_variable zero i))) keep M back_image u ∙ substitute_identity reduce M

families_back : (S : ℕ → Bool) (ρ : ℕ → ℕ) (A : LfType) → FamiliesIn S (rename_type ρ A) → FamiliesIn S A
families_back S ρ (pi A B) (a, b) = (families_back S ρ A a, families_back S (lift_renaming ρ) B b)
families_back S ρ (atom a T) h = h

-- spines by skeletons
module _ (κ : HeadSkeletons) where
  reduce_add_last : (Δ : List Skeleton) (t : Skeleton) (N : Term) (S : Spine) (a b : Skeleton) (X : Term) → TermSkeleton κ Δ N t → SpineSkeleton κ Δ S t (arrow a b) → reduce t N (add_last S X) ≡ reduce (arrow a b) (reduce t N S) (app X nil)
  reduce_add_last Δ t N nil a b X n s = ap₂ (λ u Y. reduce u Y (app X nil)) s (sym (reduce_nil t N))
  reduce_add_last Δ (base c) N (app M S) a b X n s = absurd s
  reduce_add_last Δ (arrow c d) (root h T) (app M S) a b X n s = absurd n
  reduce_add_last Δ (arrow c d) (lambda N) (app M S) a b X n (m, s) = reduction_beta c d N M (add_last S X) ∙ reduce_add_last Δ d (substitute reduce (single c M) N) S a b X (substitution_keeps_skeletons κ (c ∷ Δ) Δ (single c M) N d (single_by_skeletons κ c Δ M m) n) s ∙ ap (λ Y. reduce (arrow a b) Y (app X nil)) (sym (reduction_beta c d N M S))

  pub spine_add_last : (Δ : List Skeleton) (S : Spine) (t a b : Skeleton) (X : Term) → SpineSkeleton κ Δ S t (arrow a b) → TermSkeleton κ Δ X a → SpineSkeleton κ Δ (add_last S X) t b
  spine_add_last Δ nil t a b X s x = subst (λ z. SpineSkeleton κ Δ (app X nil) z b) (sym s) (x, refl)
  spine_add_last Δ (app M S) (arrow c d) a b X (m, s) x = (m, spine_add_last Δ S d a b X s x)
  spine_add_last Δ (app M S) (base c) a b X s x = absurd s

  -- a lambda, weakened and applied to the new variable, is its body
  applied_to_newest : (a b : Skeleton) (Δ : List Skeleton) (M : Term) → TermSkeleton κ (a ∷ Δ) M b → reduce (arrow a b) (rename suc (lambda M)) (app (eta_long a (variable zero)) nil) ≡ M
  applied_to_newest a b Δ M m = reduction_beta a b (rename (lift_renaming suc) M) (eta_long a (variable zero)) nil ∙ reduce_nil b (substitute reduce (single a (eta_long a (variable zero))) (rename (lift_renaming suc) M)) ∙ substitute_renamed reduce (single a (eta_long a (variable zero))) (lift_renaming suc) M ∙ eta_renames κ (a ∷ Δ) (a ∷ Δ) (λ i. single a (eta_long a (variable zero)) (lift_renaming suc i)) (λ i. i) M b like fits (λ i t g. g) m ∙ rename_identity M
    where
      like : EtaLike (λ c. Unit {0}) (λ i. single a (eta_long a (variable zero)) (lift_renaming suc i)) (λ i. i)
      like zero = (tt, refl)
      like (suc i) = refl

      fits : Fits (a ∷ Δ) (λ i. single a (eta_long a (variable zero)) (lift_renaming suc i))
      fits zero t e = e
      fits (suc i) t e = tt

  pub newest_has_skeleton : (a : Skeleton) (Δ : List Skeleton) → TermSkeleton κ (a ∷ Δ) (eta_long a (variable zero)) a
  newest_has_skeleton a Δ = eta_expand_has_skeleton κ a a (a ∷ Δ) (variable zero) nil refl refl

pub shift_next : (n : ℕ) (N : Term) → rename (shift_by (suc n)) N ≡ rename suc (rename (shift_by n) N)
shift_next n N = ap (λ f. rename f N) (fun_ext (λ i. one_more i n)) ∙ sym (renamings_compose suc (shift_by n) N)
  where
    one_more : (i n : ℕ) → i + suc n ≡ suc (i + n)
    one_more i n = omega arith

-- M, of type B over the local context D, is a term of the raised type in G applied to the local variables that are chosen.
abbrev pub IsRaised : Signature → List Bool → List LfType → List LfType → Term → LfType → Type 0
IsRaised Σ ks G D M B = (N : Term) × HasType Σ G N (raise_by ks D B) × (reduce (skeleton (raise_by ks D B)) (rename (shift_by (length D)) N) (locals_by ks D) ≡ M)

-- The local variables that aren't chosen occur neither in B nor in the types of newer ones that are.
abbrev pub CanBeRaised : List Bool → List LfType → LfType → Type 0
CanBeRaised ks [] B = Unit {0}
CanBeRaised [] (A ∷ D) B = ⊥
CanBeRaised (true ∷ ks) (A ∷ D) B = CanBeRaised ks D (pi A B)
CanBeRaised (false ∷ ks) (A ∷ D) B = UsesType (hide everything) B × CanBeRaised ks D (rename_type (at_variable zero) B)

-- the local variables that are chosen, and all that stands outside
abbrev pub kept_by : List Bool → List LfType → ℕ → Bool
kept_by ks [] i = true
kept_by [] (A ∷ D) i = false
kept_by (k ∷ ks) (A ∷ D) zero = k
kept_by (k ∷ ks) (A ∷ D) (suc i) = kept_by ks D i

-- A variable that doesn't occur isn't used.
either_no : {a b : Bool} → either a b ≡ false → (a ≡ false) × (b ≡ false)
either_no {a = true} e = absurd cc
either_no {a = false} e = (refl, e)

abbrev All_but : ℕ → (ℕ → Bool) → Type 0
All_but x U = (i : ℕ) → same_number x i ≡ false → U i ≡ true

all_under : (x : ℕ) (U : ℕ → Bool) → All_but x U → All_but (suc x) (under U)
all_under x U h zero e = refl
all_under x U h (suc i) e = h i e

mutual
  term_without : (x : ℕ) (U : ℕ → Bool) (M : Term) → All_but x U → occurs x M ≡ false → Uses U M
  term_without x U (lambda M) h e = term_without (suc x) (under U) M (all_under x U h) e
  term_without x U (root (constant c) S) h e = spine_without x U S h e
  term_without x U (root (metavariable m) S) h e = spine_without x U S h e
  term_without x U (root (variable i) S) h e = let (p, q) = either_no e in (h i p, spine_without x U S h q)

  spine_without : (x : ℕ) (U : ℕ → Bool) (S : Spine) → All_but x U → occurs_spine x S ≡ false → UsesSpine U S
  spine_without x U nil h e = tt
  spine_without x U (app M S) h e = let (p, q) = either_no e in (term_without x U M h p, spine_without x U S h q)

type_without : (x : ℕ) (U : ℕ → Bool) (A : LfType) → All_but x U → occurs_type x A ≡ false → UsesType U A
type_without x U (pi A B) h e = let (p, q) = either_no e in (type_without x U A h p, type_without (suc x) (under U) B (all_under x U h) q)
type_without x U (atom a S) h e = spine_without x U S h e

newest_without : All_but zero but_newest
newest_without zero e = absurd cc
newest_without (suc i) e = refl

-- What a type is raised over can be chosen, and has the variables of lower families.
pub can_raise : (T : ℕ → Bool) (D : List LfType) (B : LfType) → CanBeRaised (raised_over T D B) D B
can_raise T [] B = tt
can_raise T (A ∷ D) B = by (can_raise T D) (either (T (target A)) (occurs_type zero B)) refl
  where
    no : either (T (target A)) (occurs_type zero B) ≡ false → occurs_type zero B ≡ false
    no e = (either_no {a = T (target A)} {b = occurs_type zero B} e).1

    by : ((C : LfType) → CanBeRaised (raised_over T D C) D C) → (b : Bool) → either (T (target A)) (occurs_type zero B) ≡ b → CanBeRaised (b ∷ raised_over T D (cond b (pi A B) (rename_type (at_variable zero) B))) (A ∷ D) B
    by ih true e = ih (pi A B)
    by ih false e = (type_without zero but_newest B newest_without (no e), ih (rename_type (at_variable zero) B))

pub low_kept_by : (T : ℕ → Bool) (D : List LfType) (B : LfType) → Within (low T D) (kept_by (raised_over T D B) D)
low_kept_by T [] B i e = refl
low_kept_by T (A ∷ D) B zero e = ap (λ b. either b (occurs_type zero B)) e
low_kept_by T (A ∷ D) B (suc i) e = low_kept_by T D (cond (either (T (target A)) (occurs_type zero B)) (pi A B) (rename_type (at_variable zero) B)) i e

kept_under : (ks : List Bool) (A : LfType) (D : List LfType) → Within (kept_by (true ∷ ks) (A ∷ D)) (under (kept_by ks D))
kept_under ks A D zero e = refl
kept_under ks A D (suc i) e = e

kept_newest : (ks : List Bool) (A : LfType) (D : List LfType) → Within (kept_by (false ∷ ks) (A ∷ D)) but_newest
kept_newest ks A D zero e = absurd cc
kept_newest ks A D (suc i) e = refl

kept_out : (ks : List Bool) (A : LfType) (D : List LfType) (i : ℕ) → kept_by (false ∷ ks) (A ∷ D) i ≡ true → kept_by ks D (at_variable zero i) ≡ true
kept_out ks A D zero e = absurd cc
kept_out ks A D (suc i) e = e

module _ (Σ : Signature) where
  abbrev κ : HeadSkeletons
  κ = constant_skeletons Σ

  -- the local variables take the raised type to the type
  pub locals_fit : (ks : List Bool) (D G : List LfType) (B : LfType) → SpineSkeleton κ (context_skeletons (onto D G)) (locals_by ks D) (skeleton (raise_by ks D B)) (skeleton B)
  locals_fit ks [] G B = refl
  locals_fit [] (A ∷ D) G B = refl
  locals_fit (true ∷ ks) (A ∷ D) G B = spine_add_last κ (skeleton A ∷ context_skeletons (onto D G)) (rename_spine suc (locals_by ks D)) (skeleton (raise_by ks D (pi A B))) (skeleton A) (skeleton B) (eta_long (skeleton A) (variable zero)) (renaming_keeps_spine_skeletons κ (context_skeletons (onto D G)) (skeleton A ∷ context_skeletons (onto D G)) suc (locals_by ks D) (skeleton (raise_by ks D (pi A B))) (arrow (skeleton A) (skeleton B)) (λ i t g. g) (locals_fit ks D G (pi A B))) (newest_has_skeleton κ (skeleton A) (context_skeletons (onto D G)))
  locals_fit (false ∷ ks) (A ∷ D) G B = subst (SpineSkeleton κ (skeleton A ∷ context_skeletons (onto D G)) (rename_spine suc (locals_by ks D)) (skeleton (raise_by ks D (rename_type (at_variable zero) B)))) (skeleton_renamed (at_variable zero) B) (renaming_keeps_spine_skeletons κ (context_skeletons (onto D G)) (skeleton A ∷ context_skeletons (onto D G)) suc (locals_by ks D) (skeleton (raise_by ks D (rename_type (at_variable zero) B))) (skeleton (rename_type (at_variable zero) B)) (λ i t g. g) (locals_fit ks D G (rename_type (at_variable zero) B)))

module _ (Σ : Signature) (ok : IsSignature Σ) where
  abbrev κ' : HeadSkeletons
  κ' = constant_skeletons Σ

  -- what doesn't use the newest variable is typed without it
  out_of : (A : LfType) (C : List LfType) → IsTypedRenamingOn but_newest (A ∷ C) C (at_variable zero)
  out_of A C zero X e u = absurd cc
  out_of A C (suc i) X (B, g, e) u = subst (TypeAt C i) (sym (ap (rename_type (at_variable zero)) e ∙ renamings_compose_type (at_variable zero) suc B ∙ rename_identity_type B)) g

  abbrev lowering : ℕ → Image
  lowering i = keep (at_variable zero i)

  lowered_values : (A : LfType) (C : List LfType) → Values Σ but_newest (A ∷ C) C lowering
  lowered_values A C = record { typed = typed; closed = closed }
    where
      typed : (i : ℕ) (X : LfType) → TypeAt (A ∷ C) i X → but_newest i ≡ true → TypeAt C (at_variable zero i) (substitute_type reduce lowering X)
      typed i X g u = subst (TypeAt C (at_variable zero i)) (sym (substitution_as_renaming_type reduce (at_variable zero) X)) (out_of A C i X g u)

      closed : (i : ℕ) (X : LfType) → TypeAt (A ∷ C) i X → but_newest i ≡ true → UsesType but_newest X
      closed zero X e u = absurd cc
      closed (suc i) X (B, g, e) u = subst (UsesType but_newest) (sym e) (uses_type_renamed (λ j. true) but_newest suc B (λ j v. refl) (uses_type_all (λ j. true) B (λ j. refl)))

  lowered_type : (A : LfType) (C : List LfType) (B : LfType) → IsContext Σ (A ∷ C) → IsType Σ (A ∷ C) B → UsesType but_newest B → IsType Σ C (rename_type (at_variable zero) B)
  lowered_type A C B c t u = subst (IsType Σ C) (sym (agree_on_type reduce but_newest lowering (patch but_newest C lowering) B (patch_same but_newest C lowering) u) ∙ substitution_as_renaming_type reduce (at_variable zero) B) (partial_substitution_keeps_types Σ ok (skeletons_beside [] (A ∷ C)) [] but_newest (A ∷ C) C (patch but_newest C lowering) B (patched Σ ok but_newest (A ∷ C) C lowering c c.0 (lowered_values A C)) u t)

  shifted_has_skeleton : (D G : List LfType) (N : Term) (t : Skeleton) → TermSkeleton κ' (context_skeletons G) N t → TermSkeleton κ' (context_skeletons (onto D G)) (rename (shift_by (length D)) N) t
  shifted_has_skeleton [] G N t n = subst (λ M. TermSkeleton κ' (context_skeletons G) M t) (sym (ap (λ f. rename f N) (fun_ext (λ i. no_shift i)) ∙ rename_identity N)) n
    where
      no_shift : (i : ℕ) → i + 0 ≡ i
      no_shift i = omega arith
  shifted_has_skeleton (A ∷ D) G N t n = subst (λ M. TermSkeleton κ' (skeleton A ∷ context_skeletons (onto D G)) M t) (sym (shift_next (length D) N)) (renaming_keeps_skeletons κ' (context_skeletons (onto D G)) (skeleton A ∷ context_skeletons (onto D G)) suc (rename (shift_by (length D)) N) t (λ i u g. g) (shifted_has_skeleton D G N t n))

  -- The lemma: a typed term that uses the chosen local variables alone is raised over these
  pub raised : (ks : List Bool) (D G : List LfType) → IsContext Σ (onto D G) → (M : Term) (B : LfType) → IsType Σ (onto D G) B → HasType Σ (onto D G) M B → CanBeRaised ks D B → Uses (kept_by ks D) M → IsRaised Σ ks G D M B
  raised ks [] G c M B t m r u = (M, m, reduce_nil (skeleton B) (rename (shift_by 0) M) ∙ ap (λ g. rename g M) (fun_ext (λ i. no_shift i)) ∙ rename_identity M)
    where
      no_shift : (i : ℕ) → i + 0 ≡ i
      no_shift i = omega arith
  raised [] (A ∷ D) G c M B t m r u = absurd r
  raised (true ∷ ks) (A ∷ D) G c M B t m r u =
      let (N, n, q) = raised ks D G c.0 (lambda M) (pi A B) (c.1, t) m r (uses_within (kept_by (true ∷ ks) (A ∷ D)) (under (kept_by ks D)) M (kept_under ks A D) u) in
      let k : Skeleton = skeleton (raise_by ks D (pi A B)) in
      let N' : Term = rename (shift_by (length D)) N in
      let X : Term = eta_long (skeleton A) (variable zero) in
      let Δ : List Skeleton = context_skeletons (onto D G) in
      let sn : TermSkeleton κ' Δ N' k = shifted_has_skeleton D G N k (typed_has_skeleton Σ G N (raise_by ks D (pi A B)) n) in
      let step : reduce k (rename suc N') (rename_spine suc (locals_by ks D)) ≡ rename suc (lambda M) = sym (reduction_is_natural k suc N' (locals_by ks D)) ∙ ap (rename suc) q in
      let last : reduce k (rename suc N') (add_last (rename_spine suc (locals_by ks D)) X) ≡ reduce (arrow (skeleton A) (skeleton B)) (reduce k (rename suc N') (rename_spine suc (locals_by ks D))) (app X nil) = reduce_add_last κ' (skeleton A ∷ Δ) k (rename suc N') (rename_spine suc (locals_by ks D)) (skeleton A) (skeleton B) X (renaming_keeps_skeletons κ' Δ (skeleton A ∷ Δ) suc N' k (λ i u g. g) sn) (renaming_keeps_spine_skeletons κ' Δ (skeleton A ∷ Δ) suc (locals_by ks D) k (arrow (skeleton A) (skeleton B)) (λ i u g. g) (locals_fit Σ ks D G (pi A B))) in
      (N, n, ap (λ Y. reduce k Y (add_last (rename_spine suc (locals_by ks D)) X)) (shift_next (length D) N) ∙ last ∙ ap (λ Y. reduce (arrow (skeleton A) (skeleton B)) Y (app X nil)) step ∙ applied_to_newest κ' (skeleton A) (skeleton B) Δ M (typed_has_skeleton Σ (A ∷ onto D G) M B m))
  raised (false ∷ ks) (A ∷ D) G c M B t m (v, r) u =
      let w : Uses but_newest M = uses_within (kept_by (false ∷ ks) (A ∷ D)) but_newest M (kept_newest ks A D) u in
      let (N, n, q) = raised ks D G c.0 (rename (at_variable zero) M) (rename_type (at_variable zero) B) (lowered_type A (onto D G) B c t v) (strengthening_keeps_typing Σ ok but_newest (A ∷ onto D G) (onto D G) (at_variable zero) M B (out_of A (onto D G)) w m) r (uses_renamed (kept_by (false ∷ ks) (A ∷ D)) (kept_by ks D) (at_variable zero) M (kept_out ks A D) u) in
      let k : Skeleton = skeleton (raise_by ks D (rename_type (at_variable zero) B)) in
      (N, n, ap (λ Y. reduce k Y (rename_spine suc (locals_by ks D))) (shift_next (length D) N) ∙ sym (reduction_is_natural k suc (rename (shift_by (length D)) N) (locals_by ks D)) ∙ ap (rename suc) q ∙ there_and_back M w)

module _ (Σ : Signature) (ok : IsSignature Σ) (W : List Block) (T : ℕ → Bool) (sc : SelfContained Σ W T) where
  low_at : (D G : List LfType) (i : ℕ) (A : LfType) → TypeAt (onto D G) i A → T (target A) ≡ true → low T D i ≡ true
  low_at [] G i A g t = refl
  low_at (X ∷ D) G zero A e t = sym (ap T (ap target e ∙ target_renamed suc X)) ∙ t
  low_at (X ∷ D) G (suc i) A (C, g, e) t = low_at D G i C g (sym (ap T (ap target e ∙ target_renamed suc C)) ∙ t)

  -- A typed term of families of T uses only local variables of these.
  pub uses_low : (D G : List LfType) → TypesIn T (onto D G) → (M : Term) (B : LfType) → FamiliesIn T B → HasType Σ (onto D G) M B → Uses (low T D) M
  uses_low D G h M B f m = uses_only Σ T sc.types_in (low T D) (onto D G) M B (λ i A g t. (low_at D G i A g t, h i A g t)) f m
