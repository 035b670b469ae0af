-- What has a completion has skeletons.
use Rattle.std.proofs.Common.{◌≡◌, ℕ, zero, suc, List, [], ◌∷◌, Some, refl, sym, ap, ◌∙◌, subst}
use Rattle.std.specs.Prelude.{slice_get}
use Rattle.lf.specs.Entries.{Body, Entry, declare_constant, declare_definition, declare_family, signature_of}
use Rattle.lf.specs.Substitution.{reduce, single}
use Rattle.lf.specs.Syntax.{Kind, LfType, Skeleton, Spine, Term, arrow as arrow_skeleton, atom, base, kind_pi, kind_skeleton, pi, skeleton, star}
use Rattle.lf.specs.Typing.{IsType}
use Rattle.lf.specs.Variables.{onto}
use Rattle.lf.proofs.ToSkeletons.{kind_skeleton_substituted}
use Rattle.lf.proofs.TypeLaws.{skeleton_renamed, skeleton_substituted}
use Rattle.lf_unification.specs.Patterns.{local_skeletons}
use Rattle.lf_unification.proofs.OpenSound.{skeleton_raise}
use Rattle.lf_elaboration.specs.BodySkeletons.{BodyHasSkeletons, CompletedHasSkeletons, due_skeleton}
use Rattle.lf_elaboration.specs.Completions.{Completes, CompletesDomain, CompletesFamily, CompletesKind, CompletesType, FreeValue, FreesAreTyped, KindTakesAny, TakesAny, any_next, any_none, applied_completed, arrow_completed, ascribed_completed, ascribed_type_completed, bound_completed, constant_completed, definition_completed, family_applied_completed, family_ascribed_completed, family_completed, family_name_completed, free_completed, function_completed, hole_completed, kind_any_next, kind_any_none, kind_arrow_completed, kind_quantified_completed, quantified_completed, skeleton_completed, star_completed, type_completed, type_hole_completed}
use Rattle.lf_elaboration.specs.Principal.{CompletesBody, WrittenBody, written_constant, written_definition, written_definition_of, written_family}
use Rattle.lf_elaboration.specs.Written.{Written, WrittenDomain, WrittenKind, WrittenType}
use Rattle.lf_elaboration.specs.WrittenSkeletons.{DomainHasSkeleton, FamilyHasSkeleton, KindHasSkeleton, LeavesSkeleton, SkeletonIsDeclared, WrittenHasSkeleton, WrittenTypeHasSkeleton, type_in_terms}
use Rattle.lf_elaboration.proofs.Had.{kind_skeleton_moved, local_at_skeleton}

-- the skeletons of the arguments that a family of this kind is due
abbrev dues : Kind → List Skeleton
dues (kind_pi A K) = skeleton A ∷ dues K
dues star = []

dues_whole : (K : Kind) (a : ℕ) → kind_skeleton a K ≡ due_skeleton (dues K) a
dues_whole (kind_pi A K) a = ap (arrow_skeleton (skeleton A)) (dues_whole K a)
dues_whole star a = refl

-- the families of a type are declared
type_declared : (es : List Entry) (G : List LfType) (A : LfType) → IsType (signature_of es) G A → SkeletonIsDeclared es (skeleton A)
type_declared es G (pi A B) (a, b) = (type_declared es G A a, type_declared es (A ∷ G) B b)
type_declared es G (atom a S) (K, e, f) = (K, e)

any_leaves : (es : List Entry) (F : List LfType) {k : ℕ} {D : List LfType} {A C : LfType} {S : Spine} → TakesAny es F k D A S C → LeavesSkeleton k (skeleton A) (skeleton C)
any_leaves es F any_none = refl
any_leaves es F {C = C} (any_next {k = k} {A = A} {B = B} {M = M} h t) = subst (λ x. LeavesSkeleton k x (skeleton C)) (skeleton_substituted reduce (single (skeleton A) M) B) (any_leaves es F t)

kind_any_leaves : (es : List Entry) (F : List LfType) (a : ℕ) {k : ℕ} {D : List LfType} {K L : Kind} {S : Spine} → KindTakesAny es F k D K S L → LeavesSkeleton k (kind_skeleton a K) (kind_skeleton a L)
kind_any_leaves es F a kind_any_none = refl
kind_any_leaves es F a {L = L} (kind_any_next {k = k} {A = A} {K = K} {M = M} h t) = subst (λ x. LeavesSkeleton k x (kind_skeleton a L)) (kind_skeleton_substituted a reduce (single (skeleton A) M) K) (kind_any_leaves es F a t)

-- what stands for a free variable has its skeleton
pub free_skeleton : (es : List Entry) (F : List LfType) (ts : List Skeleton) (vs : List FreeValue) → FreesAreTyped es F ts vs → (i : ℕ) (v : FreeValue) → slice_get vs i ≡ Some v → slice_get ts i ≡ Some (skeleton v.of_type)
free_skeleton es F [] [] h i v e = absurd cc
free_skeleton es F [] (u ∷ vs) h i v e = absurd h
free_skeleton es F (t ∷ ts) [] h i v e = absurd h
free_skeleton es F (t ∷ ts) (u ∷ vs) (h, hs) zero v e = let p : u ≡ v = cc in ap Some (sym h.0 ∙ ap (λ (x : FreeValue). skeleton x.of_type) p)
free_skeleton es F (t ∷ ts) (u ∷ vs) (h, hs) (suc i) v e = free_skeleton es F ts vs hs i v e

module _ (es : List Entry) (F : List LfType) (ts : List Skeleton) (values : List FreeValue) (typed : FreesAreTyped es F ts values) where
  -- a family on arguments, all of them
  whole : {D : List LfType} {U : WrittenType} {a : ℕ} {S : Spine} {K : Kind} (Γ : List Skeleton) → CompletesFamily es F values D U a S K → K ≡ star → FamilyHasSkeleton es ts Γ U a (base a) → WrittenTypeHasSkeleton es ts Γ U (base a)
  whole Γ (family_name_completed q b t) e h = h
  whole Γ (family_applied_completed f c) e h = h
  whole Γ (family_ascribed_completed x f) e h = absurd cc

  mutual
    pub term_fitted : {D : List LfType} {M : Written} {R : Term} {A : LfType} → Completes es F values D M R A → WrittenHasSkeleton es ts (local_skeletons D []) M (skeleton A)
    term_fitted {D = D} (free_completed {i = i} {v = v} e) = free_skeleton es F ts values typed i v e ∙ ap Some (sym (skeleton_raise D v.of_type))
    term_fitted {D = D} (bound_completed {i = i} {A = A} g) = local_at_skeleton D i A g
    term_fitted (constant_completed {e = e} {B = B} q b t) = (e, B, q, ap type_in_terms b, any_leaves es F t)
    term_fitted (definition_completed {e = e} {B = B} q b t) = (e, B, q, ap type_in_terms b, any_leaves es F t)
    term_fitted {D = D} (hole_completed {A = A} s t h) = (sym s, subst (SkeletonIsDeclared es) s (type_declared es (onto D F) A t))
    term_fitted (function_completed d m) = (domain_fitted d, term_fitted m)
    term_fitted {D = D} (applied_completed {M = M} {A = A} {B = B} {Q = Q} m p) =
        (skeleton A, subst (λ t. WrittenHasSkeleton es ts (local_skeletons D []) M (arrow_skeleton (skeleton A) t)) (sym (skeleton_substituted reduce (single (skeleton A) Q) B)) (term_fitted m), term_fitted p)
    term_fitted (ascribed_completed t m) = (type_fitted t, term_fitted m)

    pub domain_fitted : {D : List LfType} {d : WrittenDomain} {A : LfType} → CompletesDomain es F values D d A → DomainHasSkeleton es ts (local_skeletons D []) d (skeleton A)
    domain_fitted {D = D} (skeleton_completed {A = A} s t) = (sym s, subst (SkeletonIsDeclared es) s (type_declared es (onto D F) A t))
    domain_fitted (type_completed t) = type_fitted t

    pub type_fitted : {D : List LfType} {U : WrittenType} {A : LfType} → CompletesType es F values D U A → WrittenTypeHasSkeleton es ts (local_skeletons D []) U (skeleton A)
    type_fitted {D = D} (type_hole_completed {A = A} s t) = (sym s, subst (SkeletonIsDeclared es) s (type_declared es (onto D F) A t))
    type_fitted {D = D} (arrow_completed {V = V} {B = B} x y) = (type_fitted x, subst (WrittenTypeHasSkeleton es ts (local_skeletons D []) V) (sym (skeleton_renamed suc B)) (type_fitted y))
    type_fitted (quantified_completed d y) = (domain_fitted d, type_fitted y)
    type_fitted {D = D} (family_completed f) = whole (local_skeletons D []) f refl (family_fitted f)
    type_fitted (ascribed_type_completed t) = type_fitted t

    pub family_fitted : {D : List LfType} {U : WrittenType} {a : ℕ} {S : Spine} {K : Kind} → CompletesFamily es F values D U a S K → FamilyHasSkeleton es ts (local_skeletons D []) U a (kind_skeleton a K)
    family_fitted (family_name_completed {a = a} {e = e} {K = K} q b t) = (refl, (e, K, q, b, kind_any_leaves es F a t))
    family_fitted {D = D} (family_applied_completed {U = U} {a = a} {A = A} {K = K} {Q = Q} f c) =
        (skeleton A, subst (λ t. FamilyHasSkeleton es ts (local_skeletons D []) U a (arrow_skeleton (skeleton A) t)) (sym (kind_skeleton_substituted a reduce (single (skeleton A) Q) K)) (family_fitted f), term_fitted c)
    family_fitted (family_ascribed_completed {a = a} x f) = (kind_fitted x a, family_fitted f, tt)

    pub kind_fitted : {D : List LfType} {k : WrittenKind} {K : Kind} → CompletesKind es F values D k K → (a : ℕ) → KindHasSkeleton es ts (local_skeletons D []) k a (kind_skeleton a K)
    kind_fitted star_completed a = refl
    kind_fitted {D = D} (kind_arrow_completed {k = k} {K = K} x y) a = (type_fitted x, subst (KindHasSkeleton es ts (local_skeletons D []) k a) (sym (kind_skeleton_moved a suc K)) (kind_fitted y a))
    kind_fitted (kind_quantified_completed d y) a = (domain_fitted d, kind_fitted y a)

  body_fitted : (w : WrittenBody) (b : Body) → CompletesBody es F values w b → BodyHasSkeletons es ts w
  body_fitted (written_family k) (declare_family K) h = (dues K, λ a. subst (KindHasSkeleton es ts [] k a) (dues_whole K a) (kind_fitted h a))
  body_fitted (written_constant U) (declare_constant A) h = (skeleton A, type_fitted h)
  body_fitted (written_definition M b) (declare_definition N A c) h = (skeleton A, term_fitted h.1)
  body_fitted (written_definition_of M U b) (declare_definition N A c) h = (skeleton A, type_fitted h.1, term_fitted h.2)
  body_fitted (written_family k) (declare_constant A) h = absurd h
  body_fitted (written_family k) (declare_definition N A c) h = absurd h
  body_fitted (written_constant U) (declare_family K) h = absurd h
  body_fitted (written_constant U) (declare_definition N A c) h = absurd h
  body_fitted (written_definition M b) (declare_family K) h = absurd h
  body_fitted (written_definition M b) (declare_constant A) h = absurd h
  body_fitted (written_definition_of M U b) (declare_family K) h = absurd h
  body_fitted (written_definition_of M U b) (declare_constant A) h = absurd h

pub completed_fitted : CompletedHasSkeletons
completed_fitted es ts w c h = body_fitted es c.quantifiers ts c.frees h.frees_typed w c.body h.completed
