-- The equations between a type that was found and the expected one are typed, up to their own unifiers, and under these the types agree.
use Rattle.std.proofs.Common.{◌≡◌, ℕ, zero, suc, List, [], ◌∷◌, Option, Some, refl, sym, ap, ap₂, ◌∙◌, subst}
use Rattle.lf.specs.SkeletonTyping.{TypeBySkeletons}
use Rattle.lf.specs.Skeletons.{context_skeletons, family_skeletons}
use Rattle.lf.specs.Substitution.{reduce, single}
use Rattle.lf.specs.Syntax.{Kind, LfType, Skeleton, Spine, Term, app, arrow, atom, kind_pi, kind_skeleton, lift_renaming, nil, pi, rename_kind, rename_type, skeleton, star, weaken}
use Rattle.lf.specs.Typing.{IsSignature, Signature, TypeAt, instantiate_kind}
use Rattle.lf.specs.Variables.{onto}
use Rattle.lf.proofs.ToSkeletons.{kind_skeleton_substituted}
use Rattle.lf.proofs.TypeLaws.{substitute_identity_kind, substitution_as_renaming_kind}
use Rattle.lf_unification.specs.Filling.{fill, fill_type, moved}
use Rattle.lf_unification.specs.Lists.{followed}
use Rattle.lf_unification.specs.Offering.{spine_equations}
use Rattle.lf_unification.specs.OpenTyping.{OpenHasType, OpenIsContext, OpenIsType, OpenSpineFitsKind, TypesAgree, skeletons_of, under_locals}
use Rattle.lf_unification.specs.PartialInstance.{PartialInstance}
use Rattle.lf_unification.specs.Patterns.{local_skeletons}
use Rattle.lf_unification.specs.Skeletons.{TotalSkeletons, as_head_skeletons, total_skeletons}
use Rattle.lf_unification.specs.Unifiers.{Equation, EquationIsFullyTyped, SolvesAll}
use Rattle.lf_unification.proofs.EquationLemmas.{solves_first}
use Rattle.lf_unification.proofs.Eta.{rename_id_type}
use Rattle.lf_unification.proofs.Filling.{SkeletonsFill}
use Rattle.lf_unification.proofs.Generic.{open_skeletons_kind}
use Rattle.lf_unification.proofs.OfferForm.{indices_equal}
use Rattle.lf_unification.proofs.OpenEta.{Into-weak, OpenIsType-rename}
use Rattle.lf_unification.proofs.OpenRenamingBack.{AllSkeletonsUpTo, Known, Known-lift_renaming, OpenIsType-unrename, same_weak, values_under}
use Rattle.lf_unification.proofs.OpenTypes.{fill_instance_kind, fill_kind}
use Rattle.lf_unification.proofs.RigidSteps.{solves_rest}
use Rattle.lf_unification.proofs.SubstitutionUpTo.{SameKind, convert}
use Rattle.lf_elaboration.specs.Kinds.{OpenIsKind}
use Rattle.lf_elaboration.specs.State.{differing, index_equations, kind_equations, type_equations, unless_same}
use Rattle.lf_elaboration.proofs.Differing.{all_solved, same_sides}
use Rattle.lf_elaboration.proofs.UpTo.{MS, SU, all_of, closed_kind_open, in_context, kind_instance_typed, kind_skeletons_at, types_in}

rename_id_kind : (K : Kind) → rename_kind (λ i. i) K ≡ K
rename_id_kind K = sym (substitution_as_renaming_kind reduce (λ i. i) K) ∙ substitute_identity_kind reduce K

module _ (Σ : Signature) (ok : IsSignature Σ) (Ψ : ℕ → Option LfType) (U : (ℕ → Option Term) → Type 0) (half : (β : ℕ → Option Term) → U β → (F : List LfType) × PartialInstance Σ [] Ψ (λ m. ⊥) F β) (declared : (m : ℕ) (B : LfType) → Ψ m ≡ Some B → TypeBySkeletons (family_skeletons Σ) (as_head_skeletons (total_skeletons Σ (skeletons_of Ψ))) [] B) where
  abbrev μ : ℕ → Skeleton
  μ = skeletons_of Ψ

  abbrev κ : TotalSkeletons
  κ = total_skeletons Σ (skeletons_of Ψ)

  abbrev φ : ℕ → Option Skeleton
  φ = family_skeletons Σ

  abbrev IsKindAt : List LfType → Kind → Type 0
  IsKindAt D K = OpenIsKind Σ Ψ U D K

  abbrev Same : List LfType → LfType → LfType → Type 0
  Same D A X = TypesAgree Σ [] Ψ U D A X

  abbrev SameKinds : List LfType → Kind → Kind → Type 0
  SameKinds D K L = SameKind Σ ok Ψ U (SU Σ ok Ψ U half declared) (MS Σ ok Ψ U half declared) D K L

  -- each equation of a list
  abbrev pub AreFullyTyped : List Equation → Type 0
  AreFullyTyped [] = Unit {0}
  AreFullyTyped (e ∷ es) = EquationIsFullyTyped Σ [] Ψ U e × AreFullyTyped es

  pub fully_typed_followed : (es fs : List Equation) → AreFullyTyped es → AreFullyTyped fs → AreFullyTyped (followed es fs)
  fully_typed_followed [] fs t u = u
  fully_typed_followed (e ∷ es) fs (x, t) u = (x, fully_typed_followed es fs t u)

  abbrev Solved : List Equation → Type 0
  Solved es = (β : ℕ → Option Term) → U β → SolvesAll (skeletons_of Ψ) β es

  pub converted : (D : List LfType) → OpenIsContext Σ [] Ψ U D → (N : Term) (A X : LfType) → OpenIsType Σ [] Ψ U D A → OpenIsType Σ [] Ψ U D X → Same D A X → OpenHasType Σ [] Ψ U D N X → OpenHasType Σ [] Ψ U D N A
  converted D l N A X a x s n = convert Σ ok Ψ U (SU Σ ok Ψ U half declared) (MS Σ ok Ψ U half declared) D (in_context Σ ok Ψ U half declared D l) N A X (all_of Σ ok Ψ U half declared D A a) (all_of Σ ok Ψ U half declared D X x) s n

  -- kinds that agree, with arguments that agree
  next_kinds : (D : List LfType) (A X : LfType) (K L : Kind) (M N : Term) → IsKindAt D (kind_pi A K) → IsKindAt D (kind_pi X L) → OpenHasType Σ [] Ψ U D M A → OpenHasType Σ [] Ψ U D N X → SameKinds D (kind_pi A K) (kind_pi X L) → ((β : ℕ → Option Term) → U β → fill μ (under_locals D β) M ≡ fill μ (under_locals D β) N) → SameKinds D (instantiate_kind A M K) (instantiate_kind X N L)
  next_kinds D A X K L M N a x m n (e, f) h = (
    kind_skeleton_substituted 0 reduce (single (skeleton A) M) K ∙ (let q : kind_skeleton 0 K ≡ kind_skeleton 0 L = cc in q) ∙ sym (kind_skeleton_substituted 0 reduce (single (skeleton X) N) L),
    λ β u.
        let w = SU Σ ok Ψ U half declared β u in
        let Γ : List Skeleton = local_skeletons D (context_skeletons w.free) in
        let g : SkeletonsFill κ Γ (under_locals D β) = values_under Σ ok [] Ψ U D β (context_skeletons w.free) w.values in
        let r : kind_pi (fill_type μ (under_locals D β) A) (fill_kind μ (moved suc (under_locals D β)) K) ≡ kind_pi (fill_type μ (under_locals D β) X) (fill_kind μ (moved suc (under_locals D β)) L) = f β u in
        let p : fill_type μ (under_locals D β) A ≡ fill_type μ (under_locals D β) X = cc in
        let q : fill_kind μ (moved suc (under_locals D β)) K ≡ fill_kind μ (moved suc (under_locals D β)) L = cc in
        fill_instance_kind κ φ Γ (under_locals D β) A M K g (w.terms D M A m) (kind_skeletons_at Σ ok Ψ U half declared D (kind_pi A K) a β u).1
        ∙ ap (λ M. instantiate_kind (fill_type μ (under_locals D β) A) M (fill_kind μ (moved suc (under_locals D β)) K)) (h β u)
        ∙ ap₂ (λ z y. instantiate_kind z (fill μ (under_locals D β) N) y) p q
        ∙ sym (fill_instance_kind κ φ Γ (under_locals D β) X N L g (w.terms D N X n) (kind_skeletons_at Σ ok Ψ U half declared D (kind_pi X L) x β u).1),
  )

  -- and those that are kept
  unless_typed : (e : Equation) (es : List Equation) {Same : Type 0} (d : Dec Same) → EquationIsFullyTyped Σ [] Ψ U e → AreFullyTyped es → AreFullyTyped (unless_same d e es)
  unless_typed e es (yes q) x t = t
  unless_typed e es (no n) x t = (x, t)

  differing_typed : (es : List Equation) → AreFullyTyped es → AreFullyTyped (differing es)
  differing_typed [] t = tt
  differing_typed (e ∷ es) (x, t) = unless_typed e (differing es) (same_sides e) x (differing_typed es t)

  -- the equations of the indices of one family
  indices_typed : (D : List LfType) → OpenIsContext Σ [] Ψ U D → (K L : Kind) (S T : Spine) → IsKindAt D K → IsKindAt D L → SameKinds D K L → OpenSpineFitsKind Σ [] Ψ U D S K → OpenSpineFitsKind Σ [] Ψ U D T L → Solved (spine_equations D K S T) → AreFullyTyped (spine_equations D K S T)
  indices_typed D l (kind_pi A K) (kind_pi X L) (app M S) (app N T) (a, k) (x, y) s (m, p) (n, q) h =
      let s₀ : Same D A X = ((let e : arrow (skeleton A) (kind_skeleton 0 K) ≡ arrow (skeleton X) (kind_skeleton 0 L) = s.0 in let o : skeleton A ≡ skeleton X = cc in o), λ β u. let r : kind_pi (fill_type μ (under_locals D β) A) (fill_kind μ (moved suc (under_locals D β)) K) ≡ kind_pi (fill_type μ (under_locals D β) X) (fill_kind μ (moved suc (under_locals D β)) L) = s.1 β u in cc) in
      let n' : OpenHasType Σ [] Ψ U D N A = converted D l N A X a x s₀ n in (
        record { local_typed = l; type_typed = a; left_typed = m; right_typed = n' },
        indices_typed D l (instantiate_kind A M K) (instantiate_kind X N L) S T (kind_instance_typed Σ ok Ψ U half declared D A M K l (a, k) m) (kind_instance_typed Σ ok Ψ U half declared D X N L l (x, y) n)
            (next_kinds D A X K L M N (a, k) (x, y) m n s (λ β u. (h β u).0)) p q (λ β u. (h β u).1),
      )
  indices_typed D l (kind_pi A K) star (app M S) (app N T) a x s p q h = absurd q
  indices_typed D l (kind_pi A K) L (app M S) nil a x s p q h = tt
  indices_typed D l (kind_pi A K) L nil T a x s p q h = tt
  indices_typed D l star L S T a x s p q h = tt

  -- a type under x : X is one under x : A, where A and X agree
  module _ (D : List LfType) (A X : LfType) (l : OpenIsContext Σ [] Ψ U D) (a : OpenIsType Σ [] Ψ U D A) (x : OpenIsType Σ [] Ψ U D X) (s : Same D A X) where
    up : (B : LfType) → OpenIsType Σ [] Ψ U D B → OpenIsType Σ [] Ψ U (X ∷ D) (weaken B)
    up B b = OpenIsType-rename Σ ok [] Ψ U D (X ∷ D) suc B (Into-weak Σ ok [] Ψ U D X) b

    types : (i : ℕ) (Z : LfType) → TypeAt (onto (X ∷ D) []) i Z → (W : LfType) × TypeAt (onto (A ∷ D) []) i W × Same (X ∷ D) (rename_type (λ i. i) W) Z
    types zero Z e = (weaken A, refl, subst (Same (X ∷ D) (rename_type (λ i. i) (weaken A))) (sym e) (subst (λ V. Same (X ∷ D) V (weaken X)) (sym (rename_id_type (weaken A))) (same_weak Σ ok [] Ψ U D X A X s)))
    types (suc i) Z (C, g, e) = (Z, (C, g, e), subst (λ V. Same (X ∷ D) V Z) (sym (rename_id_type Z)) (refl, λ β u. refl))

    there : (i : ℕ) (W : LfType) → TypeAt (onto (A ∷ D) []) i W → OpenIsType Σ [] Ψ U (X ∷ D) (rename_type (λ i. i) W)
    there zero W e = subst (OpenIsType Σ [] Ψ U (X ∷ D)) (sym (rename_id_type W)) (subst (OpenIsType Σ [] Ψ U (X ∷ D)) (sym e) (up A a))
    there (suc i) W (C, g, e) = subst (OpenIsType Σ [] Ψ U (X ∷ D)) (sym (rename_id_type W)) (subst (OpenIsType Σ [] Ψ U (X ∷ D)) (sym e) (up C (types_in Σ ok Ψ U half declared D l i C g)))

    known : Known Σ ok [] Ψ U (SU Σ ok Ψ U half declared) (A ∷ D) (X ∷ D) (λ i. i)
    known = record {
      moves = record { distinct = λ i j e. e; outer = λ i. refl; types = types };
      here = in_context Σ ok Ψ U half declared (X ∷ D) (l, x);
      there = λ i W g. all_of Σ ok Ψ U half declared (X ∷ D) (rename_type (λ i. i) W) (there i W g);
    }

    retyped : (Y : LfType) → OpenIsType Σ [] Ψ U (X ∷ D) Y → OpenIsType Σ [] Ψ U (A ∷ D) Y
    retyped Y y =
        let y' : OpenIsType Σ [] Ψ U (X ∷ D) (rename_type (λ i. i) Y) = subst (OpenIsType Σ [] Ψ U (X ∷ D)) (sym (rename_id_type Y)) y in
        OpenIsType-unrename Σ ok [] Ψ U (SU Σ ok Ψ U half declared) (MS Σ ok Ψ U half declared) (A ∷ D) (X ∷ D) (λ i. i) Y known (all_of Σ ok Ψ U half declared (X ∷ D) (rename_type (λ i. i) Y) y') y'

  -- a renamed kind is a kind only where the kind is
  kind_unrenamed : (E' E : List LfType) (ρ : ℕ → ℕ) (K : Kind) → Known Σ ok [] Ψ U (SU Σ ok Ψ U half declared) E' E ρ → IsKindAt E (rename_kind ρ K) → IsKindAt E' K
  kind_unrenamed E' E ρ (kind_pi B K) w (b, k) =
      let t : AllSkeletonsUpTo Σ ok [] Ψ U (SU Σ ok Ψ U half declared) E (rename_type ρ B) = all_of Σ ok Ψ U half declared E (rename_type ρ B) b in (
        OpenIsType-unrename Σ ok [] Ψ U (SU Σ ok Ψ U half declared) (MS Σ ok Ψ U half declared) E' E ρ B w t b,
        kind_unrenamed (B ∷ E') (rename_type ρ B ∷ E) (lift_renaming ρ) K (Known-lift_renaming Σ ok [] Ψ U (SU Σ ok Ψ U half declared) E' E ρ B (rename_type ρ B) w (refl, λ β u. refl) t t) k,
      )
  kind_unrenamed E' E ρ star w k = tt

  kind_retyped : (D : List LfType) (A X : LfType) → OpenIsContext Σ [] Ψ U D → OpenIsType Σ [] Ψ U D A → OpenIsType Σ [] Ψ U D X → Same D A X → (L : Kind) → IsKindAt (X ∷ D) L → IsKindAt (A ∷ D) L
  kind_retyped D A X l a x s L y = kind_unrenamed (A ∷ D) (X ∷ D) (λ i. i) L (known D A X l a x s) (subst (IsKindAt (X ∷ D)) (sym (rename_id_kind L)) y)

  same_family : (D : List LfType) → OpenIsContext Σ [] Ψ U D → (a : ℕ) (K : Kind) (S T : Spine) → Σ.kinds a ≡ Some K → OpenSpineFitsKind Σ [] Ψ U D S K → OpenSpineFitsKind Σ [] Ψ U D T K → Solved (index_equations Σ (Σ.kinds a) D S T) → Same D (atom a S) (atom a T) × AreFullyTyped (index_equations Σ (Σ.kinds a) D S T)
  same_family D l a K S T e s t h =
      let k : IsKindAt D K = closed_kind_open Σ ok Ψ U half declared D K (ok.kinds_ok a K e) in
      let h' : Solved (spine_equations D K S T) = λ β u. all_solved μ β (spine_equations D K S T) (subst (λ x. SolvesAll (skeletons_of Ψ) β (index_equations Σ x D S T)) e (h β u)) in (
        (refl, λ β u. ap (atom a) (indices_equal μ β κ (local_skeletons D []) a D K S T (open_skeletons_kind Σ μ ok Ψ U a D [] S K s) (open_skeletons_kind Σ μ ok Ψ U a D [] T K t) (h' β u))),
        subst (λ x. AreFullyTyped (index_equations Σ x D S T)) (sym e) (differing_typed (spine_equations D K S T) (indices_typed D l K K S T k k (refl, λ β u. refl) s t h')),
      )

  -- THE theorem on types
  pub types_equated : (D : List LfType) → OpenIsContext Σ [] Ψ U D → (A X : LfType) → OpenIsType Σ [] Ψ U D A → OpenIsType Σ [] Ψ U D X → skeleton A ≡ skeleton X → Solved (type_equations Σ D A X) → Same D A X × AreFullyTyped (type_equations Σ D A X)
  types_equated D l (pi A B) (pi X Y) (a, b) (x, y) e h =
      let p : skeleton A ≡ skeleton X = cc in
      let q : skeleton B ≡ skeleton Y = cc in
      let (s, t) = types_equated D l A X a x p (λ β u. solves_first μ β (type_equations Σ D A X) (type_equations Σ (A ∷ D) B Y) (h β u)) in
      let y' : OpenIsType Σ [] Ψ U (A ∷ D) Y = retyped D A X l a x s Y y in
      let (s', t') = types_equated (A ∷ D) (l, a) B Y b y' q (λ β u. solves_rest μ β (type_equations Σ D A X) (type_equations Σ (A ∷ D) B Y) (h β u)) in
      ((e, λ β u. ap₂ pi (s.1 β u) (s'.1 β u)), fully_typed_followed (type_equations Σ D A X) (type_equations Σ (A ∷ D) B Y) t t')
  types_equated D l (atom a S) (atom b T) (K, d, s) (L, f, t) e h =
      let p : a ≡ b = cc in
      let q : L ≡ K = (let r : Some L ≡ Some K = sym f ∙ ap Σ.kinds (sym p) ∙ d in cc) in
      let (r, w) = same_family D l a K S T d s (subst (OpenSpineFitsKind Σ [] Ψ U D T) q t) h in
      (subst (λ c. Same D (atom a S) (atom c T)) p r, w)
  types_equated D l (pi A B) (atom b T) a x e h = absurd (cc)
  types_equated D l (atom a S) (pi X Y) a' x e h = absurd (cc)

  -- and on kinds
  pub kinds_equated : (D : List LfType) → OpenIsContext Σ [] Ψ U D → (K L : Kind) → IsKindAt D K → IsKindAt D L → kind_skeleton zero K ≡ kind_skeleton zero L → Solved (kind_equations Σ D K L) → AreFullyTyped (kind_equations Σ D K L)
  kinds_equated D l (kind_pi A K) (kind_pi X L) (a, k) (x, y) e h =
      let p : skeleton A ≡ skeleton X = cc in
      let q : kind_skeleton zero K ≡ kind_skeleton zero L = cc in
      let (s, t) = types_equated D l A X a x p (λ β u. solves_first μ β (type_equations Σ D A X) (kind_equations Σ (A ∷ D) K L) (h β u)) in
      fully_typed_followed (type_equations Σ D A X) (kind_equations Σ (A ∷ D) K L) t (kinds_equated (A ∷ D) (l, a) K L k (kind_retyped D A X l a x s L y) q (λ β u. solves_rest μ β (type_equations Σ D A X) (kind_equations Σ (A ∷ D) K L) (h β u)))
  kinds_equated D l (kind_pi A K) star k y e h = tt
  kinds_equated D l star L k y e h = tt

  pub kinds_agree : (D : List LfType) → OpenIsContext Σ [] Ψ U D → (K L : Kind) → IsKindAt D K → IsKindAt D L → kind_skeleton zero K ≡ kind_skeleton zero L → Solved (kind_equations Σ D K L) → (β : ℕ → Option Term) → U β → fill_kind μ (under_locals D β) K ≡ fill_kind μ (under_locals D β) L
  kinds_agree D l (kind_pi A K) (kind_pi X L) (a, k) (x, y) e h β u =
      let p : skeleton A ≡ skeleton X = cc in
      let q : kind_skeleton zero K ≡ kind_skeleton zero L = cc in
      let (s, t) = types_equated D l A X a x p (λ β u. solves_first μ β (type_equations Σ D A X) (kind_equations Σ (A ∷ D) K L) (h β u)) in
      ap₂ kind_pi (s.1 β u) (kinds_agree (A ∷ D) (l, a) K L k (kind_retyped D A X l a x s L y) q (λ β u. solves_rest μ β (type_equations Σ D A X) (kind_equations Σ (A ∷ D) K L) (h β u)) β u)
  kinds_agree D l star star k y e h β u = refl
  kinds_agree D l (kind_pi A K) star k y e h β u = absurd (cc)
  kinds_agree D l star (kind_pi X L) k y e h β u = absurd (cc)
