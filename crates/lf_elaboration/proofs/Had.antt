-- What is elaborated had a skeleton; and the free variables stand where they were made.
use Rattle.std.proofs.Common.{◌≡◌, ℕ, zero, suc, List, [], ◌∷◌, Option, Some, None, refl, sym, ap, ap₂, ◌∙◌, subst}
use Rattle.std.specs.Prelude.{slice_get}
use Rattle.lf.specs.Entries.{Entry, IsCanonicalSignature, signature_of}
use Rattle.lf.specs.SkeletonTyping.{SkeletonAt}
use Rattle.lf.specs.Substitution.{reduce, single}
use Rattle.lf.specs.Syntax.{Kind, LfType, Skeleton, Spine, Term, arrow as arrow_skeleton, atom, base, kind_pi, kind_skeleton, lift_renaming, pi, rename_kind, skeleton, star}
use Rattle.lf.specs.Typing.{IsSignature, Signature, TypeAt}
use Rattle.lf.specs.Variables.{onto}
use Rattle.lf.proofs.Entries.{canonical_is_signature}
use Rattle.lf.proofs.ToSkeletons.{kind_skeleton_substituted}
use Rattle.lf.proofs.TypeLaws.{skeleton_renamed, skeleton_substituted}
use Rattle.lf_unification.specs.Offering.{raised}
use Rattle.lf_unification.specs.Patterns.{local_skeletons}
use Rattle.lf_unification.proofs.OpenSound.{skeleton_raise}
use Rattle.lf_elaboration.specs.Elaboration.{Checks, ElaboratesDomain, ElaboratesFamily, ElaboratesKind, ElaboratesType, Infers, KindTakesNew, NewFrees, NewType, TakesNew, takes_none, takes_next, kind_takes_none, kind_takes_next, new_atom, new_pi, no_frees, next_free, at_free, at_bound, at_constant, at_definition, at_hole, at_function, at_applied, at_ascribed, checks_hole, checks_function, checks_inferred, at_type_hole, at_arrow, at_quantified, at_family, at_type_ascribed, at_of_skeleton, at_of_type, at_family_name, at_family_applied, at_family_ascribed, at_star, at_kind_arrow, at_kind_quantified}
use Rattle.lf_elaboration.specs.Skeletons.{heads_of, StateHasSkeletons, TypeHasSkeletons}
use Rattle.lf_elaboration.specs.State.{State, type_equations, with_equations, with_metavariable}
use Rattle.lf_elaboration.specs.Written.{Written, WrittenDomain, WrittenKind, WrittenType, arrow, family, family_applied, family_ascribed, quantified, type_hole}
use Rattle.lf_elaboration.specs.WrittenSkeletons.{DomainHasSkeleton, FamilyHasSkeleton, FreesStand, KindHasSkeleton, AllDeclared, LeavesSkeleton, SkeletonIsDeclared, Stands, WrittenHasSkeleton, WrittenTypeHasSkeleton, type_in_terms}
use Rattle.lf_elaboration.proofs.Adds.{Grows, adds_equations, domain_adds, family_adds, infers_adds, kind_adds, type_adds}
use Rattle.lf_elaboration.proofs.Skeletons.{domain_skeletons, family_skeletons_of, infers_skeletons, kind_skeletons, more_equations, new_type_skeletons, type_equations_have, type_grows, type_skeletons}
use Rattle.lf.specs.SkeletonTyping.{HeadSkeletons, TypeBySkeletons}
use Rattle.lf.specs.Skeletons.{family_skeleton, family_skeletons}
use Rattle.lf_unification.proofs.Agree.{set_here}
use Rattle.lf_elaboration.proofs.Adds.{frees_add}
use Rattle.lf_elaboration.proofs.Once.{IsFamilyForm, family_form}
use Rattle.lf_elaboration.proofs.Skeletons.{new_state}
use Rattle.lf_elaboration.proofs.Total.{new_type_total, stands_behind, stands_under}

takes_leaves : {k : ℕ} {D : List LfType} {A C : LfType} {s s' : State} {S : Spine} → TakesNew k D A s s' S C → LeavesSkeleton k (skeleton A) (skeleton C)
takes_leaves takes_none = refl
takes_leaves {C = C} (takes_next {k = k} {D = D} {A = A} {B = B} {s = s} t) = subst (λ x. LeavesSkeleton k x (skeleton C)) (skeleton_substituted reduce (single (skeleton A) (raised D A s.next)) B) (takes_leaves t)

kind_takes_leaves : (a : ℕ) {k : ℕ} {D : List LfType} {K L : Kind} {s s' : State} {S : Spine} → KindTakesNew k D K s s' S L → LeavesSkeleton k (kind_skeleton a K) (kind_skeleton a L)
kind_takes_leaves a kind_takes_none = refl
kind_takes_leaves a {L = L} (kind_takes_next {k = k} {D = D} {A = A} {K = K} {s = s} t) = subst (λ x. LeavesSkeleton k x (kind_skeleton a L)) (kind_skeleton_substituted a reduce (single (skeleton A) (raised D A s.next)) K) (kind_takes_leaves a t)

pub local_at_skeleton : (D : List LfType) (i : ℕ) (A : LfType) → TypeAt (onto D []) i A → SkeletonAt (local_skeletons D []) i (skeleton A)
local_at_skeleton [] i A g = absurd g
local_at_skeleton (B ∷ D) zero A e = sym (ap skeleton e ∙ skeleton_renamed suc B)
local_at_skeleton (B ∷ D) (suc i) A (C, g, e) = subst (SkeletonAt (local_skeletons D []) i) (sym (ap skeleton e ∙ skeleton_renamed suc C)) (local_at_skeleton D i C g)

same_kind_skeleton_at : (a b : ℕ) (K L : Kind) → kind_skeleton a K ≡ kind_skeleton a L → kind_skeleton b K ≡ kind_skeleton b L
same_kind_skeleton_at a b star star e = refl
same_kind_skeleton_at a b star (kind_pi A L) e = absurd (cc)
same_kind_skeleton_at a b (kind_pi A K) star e = absurd (cc)
same_kind_skeleton_at a b (kind_pi A K) (kind_pi X L) e = ap₂ arrow_skeleton (let p : skeleton A ≡ skeleton X = cc in p) (same_kind_skeleton_at a b K L (let p : kind_skeleton a K ≡ kind_skeleton a L = cc in p))

pub kind_skeleton_moved : (a : ℕ) (ρ : ℕ → ℕ) (K : Kind) → kind_skeleton a (rename_kind ρ K) ≡ kind_skeleton a K
kind_skeleton_moved a ρ star = refl
kind_skeleton_moved a ρ (kind_pi A K) = ap₂ arrow_skeleton (skeleton_renamed ρ A) (kind_skeleton_moved a (lift_renaming ρ) K)

module _ (es : List Entry) (canonical : IsCanonicalSignature es) (fs : List Skeleton) where
  abbrev Σ : Signature
  Σ = signature_of es

  abbrev ok : IsSignature (signature_of es)
  ok = canonical_is_signature es canonical

  -- the families of a type that has skeletons are declared
  families_declared : (κ : HeadSkeletons) (Γ : List Skeleton) (A : LfType) → TypeBySkeletons (family_skeletons (signature_of es)) κ Γ A → SkeletonIsDeclared es (skeleton A)
  families_declared κ Γ (pi A B) (a, b) = (families_declared κ Γ A a, families_declared κ (skeleton A ∷ Γ) B b)
  families_declared κ Γ (atom a S) (t, e, s) = go (Σ.kinds a) refl e
    where
      go : (x : Option Kind) → Σ.kinds a ≡ x → family_skeleton a x ≡ Some t → (K : Kind) × (Σ.kinds a ≡ Some K)
      go None q e = absurd (cc)
      go (Some K) q e = (K, q)

  pub new_type_had : {D : List LfType} {t : Skeleton} {s s' : State} {A : LfType} → NewType es D t s s' A → (skeleton A ≡ t) × SkeletonIsDeclared es t
  new_type_had (new_atom {K = K} e t) = (refl, (K, e))
  new_type_had (new_pi x y) = let (p, a) = new_type_had x in let (q, b) = new_type_had y in (ap₂ arrow_skeleton p q, (a, b))

  module _ (frees : List ℕ) where
    abbrev GoesOn : State → List LfType → Type 0
    GoesOn s D = Stands es fs frees s D

    behind : (s s' : State) (D : List LfType) → Grows s s' → StateHasSkeletons Σ s' → GoesOn s D → GoesOn s' D
    behind = stands_behind es canonical fs frees

    under : (s : State) (D : List LfType) (A : LfType) → TypeHasSkeletons Σ s D A → GoesOn s D → GoesOn s (A ∷ D)
    under = stands_under es canonical fs frees

    -- a family on arguments, all of them
    whole_family : (Γ : List Skeleton) (V : WrittenType) (a : ℕ) → IsFamilyForm es V → FamilyHasSkeleton es fs Γ V a (base a) → WrittenTypeHasSkeleton es fs Γ V (base a)
    whole_family Γ (family c at) a i h = h
    whole_family Γ (family_applied V P) a i h = h
    whole_family Γ (family_ascribed V k) a i h = absurd i
    whole_family Γ (type_hole u at) a i h = absurd i
    whole_family Γ (arrow V W) a i h = absurd i
    whole_family Γ (quantified d V) a i h = absurd i

    mutual
      pub infers_had : {D : List LfType} {M : Written} {s s' : State} {R : Term} {A : LfType} → Infers es frees D M s s' R A → GoesOn s D → WrittenHasSkeleton es fs (local_skeletons D []) M (skeleton A)
      infers_had {D = D} (at_free {i = i} {m = m} {B = B} f e) w =
          let (C, h, k) = w.free_variables.only i m f in
          k ∙ ap Some (ap skeleton (let p : Some C ≡ Some B = sym h ∙ e in let q : C ≡ B = cc in q) ∙ sym (skeleton_raise D B))
      infers_had {D = D} (at_bound {i = i} {A = A} g) w = local_at_skeleton D i A g
      infers_had (at_constant {e = e} {B = B} q b t) w = (e, B, q, ap type_in_terms b, takes_leaves t)
      infers_had (at_definition {e = e} {B = B} q b t) w = (e, B, q, ap type_in_terms b, takes_leaves t)
      infers_had (at_hole t) w = let (p, d) = new_type_had t in (sym p, d)
      infers_had {D = D} (at_function {A = A} {s = s} {s' = s'} d i) w =
          let (k, a) = domain_skeletons es canonical frees d w.state w.local in
          (domain_had d w, infers_had i (under s' D A a (behind s s' D (domain_adds es frees d w.state.numbered) k w)))
      infers_had {D = D} (at_applied {M = M} {A = A} {B = B} {Q = Q} {s = s} {s' = s'} i c) w =
          let (k, r, (a, b)) = infers_skeletons es canonical frees i w.state w.local in
          (skeleton A, subst (λ t. WrittenHasSkeleton es fs (local_skeletons D []) M (arrow_skeleton (skeleton A) t)) (sym (skeleton_substituted reduce (single (skeleton A) Q) B)) (infers_had i w), checks_had c (behind s s' D (infers_adds es frees i w.state.numbered) k w) a)
      infers_had {D = D} (at_ascribed {s = s} {s' = s'} t c) w =
          let (k, a) = type_skeletons es canonical frees t w.state w.local in
          (type_had t w, checks_had c (behind s s' D (type_adds es frees t w.state.numbered) k w) a)

      pub checks_had : {D : List LfType} {M : Written} {A : LfType} {s s' : State} {R : Term} → Checks es frees D M A s s' R → GoesOn s D → TypeHasSkeletons Σ s D A → WrittenHasSkeleton es fs (local_skeletons D []) M (skeleton A)
      checks_had {D = D} (checks_hole {A = A} {s = s} e) w a = (e, subst (SkeletonIsDeclared es) (sym e) (families_declared (heads_of Σ s) (local_skeletons D []) A a))
      checks_had {D = D} (checks_function {d = d} {A = A} {B = B} {X = X} {s = s} {s' = s'} t e c) w (a, b) =
          let (k, x) = domain_skeletons es canonical frees t w.state w.local in
          let g : Grows s s' = domain_adds es frees t w.state.numbered in
          let w' : GoesOn s' D = behind s s' D g k w in
          let ab : TypeHasSkeletons Σ s' D (pi A B) = type_grows Σ ok s s' g D (pi A B) (a, b) in
          let s₁ : State = with_equations (type_equations Σ D X A) s' in
          let k₁ : StateHasSkeletons Σ s₁ = more_equations Σ ok (type_equations Σ D X A) s' (type_equations_have Σ ok s' D X A w'.local x ab.0 e) k in
          let w₁ : GoesOn s₁ D = behind s' s₁ D (adds_equations (type_equations Σ D X A) s' k.numbered) k₁ w' in
          (subst (DomainHasSkeleton es fs (local_skeletons D []) d) e (domain_had t w), checks_had c (under s₁ D A ab.0 w₁) ab.1)
      checks_had {D = D} (checks_inferred {M = M} n i e) w a = subst (WrittenHasSkeleton es fs (local_skeletons D []) M) e (infers_had i w)

      pub type_had : {D : List LfType} {V : WrittenType} {s s' : State} {A : LfType} → ElaboratesType es frees D V s s' A → GoesOn s D → WrittenTypeHasSkeleton es fs (local_skeletons D []) V (skeleton A)
      type_had (at_type_hole t) w = let (p, d) = new_type_had t in (sym p, d)
      type_had {D = D} (at_arrow {V = V} {B = B} {s = s} {s' = s'} x y) w =
          let (k, a) = type_skeletons es canonical frees x w.state w.local in
          (type_had x w, subst (WrittenTypeHasSkeleton es fs (local_skeletons D []) V) (sym (skeleton_renamed suc B)) (type_had y (behind s s' D (type_adds es frees x w.state.numbered) k w)))
      type_had {D = D} (at_quantified {A = A} {s = s} {s' = s'} d y) w =
          let (k, a) = domain_skeletons es canonical frees d w.state w.local in
          (domain_had d w, type_had y (under s' D A a (behind s s' D (domain_adds es frees d w.state.numbered) k w)))
      type_had {D = D} (at_family {U = V} {a = a} f) w = whole_family (local_skeletons D []) V a (family_form es frees f refl) (family_had f w)
      type_had (at_type_ascribed t) w = type_had t w

      pub domain_had : {D : List LfType} {d : WrittenDomain} {s s' : State} {A : LfType} → ElaboratesDomain es frees D d s s' A → GoesOn s D → DomainHasSkeleton es fs (local_skeletons D []) d (skeleton A)
      domain_had (at_of_skeleton t) w = let (p, d) = new_type_had t in (sym p, d)
      domain_had (at_of_type t) w = type_had t w

      pub family_had : {D : List LfType} {V : WrittenType} {s s' : State} {a : ℕ} {S : Spine} {L : Kind} → ElaboratesFamily es frees D V s s' a S L → GoesOn s D → FamilyHasSkeleton es fs (local_skeletons D []) V a (kind_skeleton a L)
      family_had (at_family_name {a = a} {e = e} {K = K} q b t) w = (refl, (e, K, q, b, kind_takes_leaves a t))
      family_had {D = D} (at_family_applied {U = V} {a = a} {A = A} {K = L} {Q = Q} {s = s} {s' = s'} f c) w =
          let (k, r, (x, y)) = family_skeletons_of es canonical frees f w.state w.local in
          (skeleton A, subst (λ t. FamilyHasSkeleton es fs (local_skeletons D []) V a (arrow_skeleton (skeleton A) t)) (sym (kind_skeleton_substituted a reduce (single (skeleton A) Q) L)) (family_had f w), checks_had c (behind s s' D (family_adds es frees f w.state.numbered) k w) x)
      family_had {D = D} (at_family_ascribed {k = k} {a = a} {A = A} {K = K} {L = L} {s = s} {s' = s'} x f e) w =
          let (m, y) = kind_skeletons es canonical frees x w.state w.local in
          (subst (KindHasSkeleton es fs (local_skeletons D []) k a) (sym (same_kind_skeleton_at zero a (kind_pi A K) L e)) (kind_had x w a), family_had f (behind s s' D (kind_adds es frees x w.state.numbered) m w), tt)

      pub kind_had : {D : List LfType} {k : WrittenKind} {s s' : State} {K : Kind} → ElaboratesKind es frees D k s s' K → GoesOn s D → (a : ℕ) → KindHasSkeleton es fs (local_skeletons D []) k a (kind_skeleton a K)
      kind_had at_star w a = refl
      kind_had {D = D} (at_kind_arrow {k = k} {K = K} {s = s} {s' = s'} x y) w a =
          let (m, n) = type_skeletons es canonical frees x w.state w.local in
          (type_had x w, subst (KindHasSkeleton es fs (local_skeletons D []) k a) (sym (kind_skeleton_moved a suc K)) (kind_had y (behind s s' D (type_adds es frees x w.state.numbered) m w) a))
      kind_had {D = D} (at_kind_quantified {A = A} {s = s} {s' = s'} d y) w a =
          let (m, n) = domain_skeletons es canonical frees d w.state w.local in
          (domain_had d w, kind_had y (under s' D A n (behind s s' D (domain_adds es frees d w.state.numbered) m w)) a)

-- the free variables
module _ (es : List Entry) (canonical : IsCanonicalSignature es) where
  pub frees_total : (ts : List Skeleton) (s : State) → AllDeclared es ts → (s' : State) × (ms : List ℕ) × NewFrees es ts s s' ms
  frees_total [] s d = (s, [], no_frees)
  frees_total (t ∷ ts) s (d, ds) =
      let (s', A, x) = new_type_total es canonical [] [] t [] s d in
      let (s'', ms, f) = frees_total ts (with_metavariable [] A s') ds in
      (s'', s'.next ∷ ms, next_free x f)

  pub frees_stand : {ts : List Skeleton} {s s' : State} {ms : List ℕ} → NewFrees es ts s s' ms → StateHasSkeletons (signature_of es) s → FreesStand es ts ms s'.metavariables
  frees_stand no_frees w = record { each = λ i t h. absurd (cc); only = λ i m h. absurd (cc) }
  frees_stand (next_free {t = t} {ts = ts} {s = s} {s' = s'} {s'' = s''} {A = A} {ms = ms} x f) w =
      let (w', a, p) = new_type_skeletons es canonical x w tt in
      let w₁ : StateHasSkeletons (signature_of es) (with_metavariable [] A s') = new_state (signature_of es) (canonical_is_signature es canonical) [] A s' w' tt a in
      let g : Grows (with_metavariable [] A s') s'' = frees_add es f w₁.numbered in
      let here : s''.metavariables s'.next ≡ Some A = g.keeps s'.next A (set_here s'.next (Some A) s'.metavariables) in
      joined t ts ms s'.next A s''.metavariables here p (frees_stand f w₁)
    where
      joined : (t : Skeleton) (ts : List Skeleton) (ms : List ℕ) (n : ℕ) (A : LfType) (Ψ : ℕ → Option LfType) → Ψ n ≡ Some A → skeleton A ≡ t → FreesStand es ts ms Ψ → FreesStand es (t ∷ ts) (n ∷ ms) Ψ
      joined t ts ms n A Ψ e p w = record { each = each; only = only }
        where
          each : (i : ℕ) (u : Skeleton) → slice_get (t ∷ ts) i ≡ Some u → (m : ℕ) × (B : LfType) × (slice_get (n ∷ ms) i ≡ Some m) × (Ψ m ≡ Some B) × (skeleton B ≡ u)
          each zero u h = (n, A, refl, e, p ∙ (let q : t ≡ u = cc in q))
          each (suc i) u h = w.each i u h

          only : (i m : ℕ) → slice_get (n ∷ ms) i ≡ Some m → (B : LfType) × (Ψ m ≡ Some B) × (slice_get (t ∷ ts) i ≡ Some (skeleton B))
          only zero m h = (A, ap Ψ (let q : m ≡ n = cc in q) ∙ e, ap Some (sym p))
          only (suc i) m h = w.only i m h
