-- What is written and has a skeleton is elaborated.
use Rattle.std.proofs.Common.{◌≡◌, ℕ, zero, suc, List, [], ◌∷◌, Some, ◌⊎◌, inl, inr, refl, sym, ap, ap₂, ◌∙◌, subst}
use Rattle.std.specs.Prelude.{Bool}
use Rattle.lf.specs.Entries.{Body, Entry, IsCanonicalSignature, declare_constant, declare_definition, declare_family, signature_of}
use Rattle.lf.specs.Eta.{add_last, eta_expand, eta_long}
use Rattle.lf.specs.SkeletonTyping.{SkeletonAt}
use Rattle.lf.specs.Substitution.{reduce, single, substitute}
use Rattle.lf.specs.Syntax.{Kind, LfType, Skeleton, Spine, Term, app, arrow as arrow_skeleton, atom, base, constant, kind_pi, kind_skeleton, lambda, lift_renaming, metavariable, nil, pi, rename_kind, root, skeleton, star, variable, weaken}
use Rattle.lf.specs.Typing.{IsSignature, Signature, TypeAt, instantiate_kind, instantiate_type}
use Rattle.lf.specs.Variables.{onto}
use Rattle.lf.proofs.Entries.{canonical_is_signature}
use Rattle.lf.proofs.ToSkeletons.{kind_skeleton_substituted}
use Rattle.lf.proofs.TypeLaws.{skeleton_renamed, skeleton_substituted}
use Rattle.lf_unification.specs.Offering.{raised}
use Rattle.lf_unification.specs.OpenTyping.{weaken_past}
use Rattle.lf_unification.specs.Patterns.{local_skeletons}
use Rattle.lf_unification.proofs.OpenSound.{skeleton_raise}
use Rattle.lf_elaboration.specs.Elaboration.{Checks, ElaboratesDomain, ElaboratesFamily, ElaboratesKind, ElaboratesType, Infers, IsInferred, KindTakesNew, NewType, TakesAllNew, TakesNew, takes_none, takes_next, kind_takes_none, kind_takes_next, takes_all, takes_first, new_atom, new_pi, at_free, at_bound, at_constant, at_definition, at_hole, at_function, at_applied, at_ascribed, checks_hole, checks_function, checks_inferred, at_type_hole, at_arrow, at_quantified, at_family, at_type_ascribed, at_of_skeleton, at_of_type, at_family_name, at_family_applied, at_family_ascribed, at_star, at_kind_arrow, at_kind_quantified}
use Rattle.lf_elaboration.specs.Skeletons.{KindHasSkeletons, StateHasSkeletons, TermHasSkeleton, TypeHasSkeletons}
use Rattle.lf_elaboration.specs.State.{State, kind_equations, type_equations, with_equations, with_metavariable}
use Rattle.lf_elaboration.specs.Written.{Place, Written, WrittenDomain, WrittenKind, WrittenType, applied, arrow, ascribed, bound, declared, family, family_applied, family_ascribed, free, function, hole, kind_arrow, kind_quantified, of_skeleton, of_type, quantified, type_hole, written_star}
use Rattle.lf_elaboration.specs.WrittenSkeletons.{DomainHasSkeleton, FamilyHasSkeleton, IsArrow, KindHasSkeleton, LeavesSkeleton, SkeletonIsDeclared, Stands, WrittenHasSkeleton, WrittenTypeHasSkeleton, type_in_terms}
use Rattle.lf_elaboration.proofs.Adds.{Grows, adds_equations, domain_adds, family_adds, infers_adds, kind_adds, type_adds}
use Rattle.lf_elaboration.proofs.Skeletons.{domain_skeletons, family_skeletons_of, infers_skeletons, kind_skeletons, local_grows, more_equations, new_type_skeletons, type_equations_have, type_grows, type_skeletons}

-- new metavariables for the first arguments
takes_total : (k : ℕ) (D : List LfType) (A : LfType) (s : State) (u : Skeleton) → LeavesSkeleton k (skeleton A) u → (s' : State) × (S : Spine) × (C : LfType) × TakesNew k D A s s' S C × (skeleton C ≡ u)
takes_total zero D A s u e = (s, nil, A, takes_none, e)
takes_total (suc k) D (atom a S) s u e = absurd e
takes_total (suc k) D (pi A B) s u e =
    let (s', S, C, t, p) = takes_total k D (instantiate_type A (raised D A s.next) B) (with_metavariable D A s) u (subst (λ x. LeavesSkeleton k x u) (sym (skeleton_substituted reduce (single (skeleton A) (raised D A s.next)) B)) e) in
    (s', app (raised D A s.next) S, C, takes_next t, p)

kind_takes_total : (a k : ℕ) (D : List LfType) (K : Kind) (s : State) (u : Skeleton) → LeavesSkeleton k (kind_skeleton a K) u → (s' : State) × (S : Spine) × (L : Kind) × KindTakesNew k D K s s' S L × (kind_skeleton a L ≡ u)
kind_takes_total a zero D K s u e = (s, nil, K, kind_takes_none, e)
kind_takes_total a (suc k) D star s u e = absurd e
kind_takes_total a (suc k) D (kind_pi A K) s u e =
    let (s', S, L, t, p) = kind_takes_total a k D (instantiate_kind A (raised D A s.next) K) (with_metavariable D A s) u (subst (λ x. LeavesSkeleton k x u) (sym (kind_skeleton_substituted a reduce (single (skeleton A) (raised D A s.next)) K)) e) in
    (s', app (raised D A s.next) S, L, kind_takes_next t, p)

-- for all arguments of a kind of this skeleton
takes_all_total : (x : Skeleton) (D : List LfType) (K : Kind) (s : State) → kind_skeleton zero K ≡ x → (s' : State) × (S : Spine) × TakesAllNew D K s s' S
takes_all_total x D star s e = (s, nil, takes_all)
takes_all_total (base c) D (kind_pi A K) s e = absurd (cc)
takes_all_total (arrow_skeleton x y) D (kind_pi A K) s e =
    let (s', S, t) = takes_all_total y D (instantiate_kind A (raised D A s.next) K) (with_metavariable D A s) (kind_skeleton_substituted zero reduce (single (skeleton A) (raised D A s.next)) K ∙ (let p : kind_skeleton zero K ≡ y = cc in p)) in
    (s', app (raised D A s.next) S, takes_first t)

-- a variable in scope
local_of_skeleton : (D : List LfType) (i : ℕ) (t : Skeleton) → SkeletonAt (local_skeletons D []) i t → (A : LfType) × TypeAt (onto D []) i A × (skeleton A ≡ t)
local_of_skeleton [] i t g = absurd g
local_of_skeleton (B ∷ D) zero t e = (weaken B, refl, skeleton_renamed suc B ∙ e)
local_of_skeleton (B ∷ D) (suc i) t g = let (A, h, e) = local_of_skeleton D i t g in (weaken A, (A, h, refl), skeleton_renamed suc A ∙ e)

name_in_terms : (b : Body) (B : LfType) → type_in_terms b ≡ Some B → (b ≡ declare_constant B) ⊎ ((N : Term) × (d : Bool) × (b ≡ declare_definition N B d))
name_in_terms (declare_family K) B e = absurd (cc)
name_in_terms (declare_constant A) B e = inl (let p : A ≡ B = cc in ap declare_constant p)
name_in_terms (declare_definition N A d) B e = inr (N, d, (let p : A ≡ B = cc in ap (λ x. declare_definition N x d) p))

only_star : (a b : ℕ) (K : Kind) → kind_skeleton a K ≡ base b → K ≡ star
only_star a b star e = refl
only_star a b (kind_pi A K) e = absurd (cc)

same_kind_skeleton : (a : ℕ) (K L : Kind) → kind_skeleton a K ≡ kind_skeleton a L → kind_skeleton zero K ≡ kind_skeleton zero L
same_kind_skeleton a star star e = refl
same_kind_skeleton a star (kind_pi A L) e = absurd (cc)
same_kind_skeleton a (kind_pi A K) star e = absurd (cc)
same_kind_skeleton a (kind_pi A K) (kind_pi X L) e = ap₂ arrow_skeleton (let p : skeleton A ≡ skeleton X = cc in p) (same_kind_skeleton a K L (let p : kind_skeleton a K ≡ kind_skeleton a L = cc in p))

kind_skeleton_renamed : (a : ℕ) (ρ : ℕ → ℕ) (K : Kind) → kind_skeleton a (rename_kind ρ K) ≡ kind_skeleton a K
kind_skeleton_renamed a ρ star = refl
kind_skeleton_renamed a ρ (kind_pi A K) = ap₂ arrow_skeleton (skeleton_renamed ρ A) (kind_skeleton_renamed a (lift_renaming ρ) K)

module _ (es : List Entry) (canonical : IsCanonicalSignature es) (fs : List Skeleton) (frees : List ℕ) where
  abbrev Σ : Signature
  Σ = signature_of es

  abbrev ok : IsSignature (signature_of es)
  ok = canonical_is_signature es canonical

  abbrev GoesOn : State → List LfType → Type 0
  GoesOn s D = Stands es fs frees s D

  pub stands_behind : (s s' : State) (D : List LfType) → Grows s s' → StateHasSkeletons Σ s' → GoesOn s D → GoesOn s' D
  stands_behind s s' D g w x = record {
    state = w;
    local = local_grows Σ ok s s' g D x.local;
    free_variables = record {
      each = λ i t h. let (m, B, f, e, k) = x.free_variables.each i t h in (m, B, f, g.keeps m B e, k);
      only = λ i m h. let (B, e, k) = x.free_variables.only i m h in (B, g.keeps m B e, k);
    };
  }

  pub stands_under : (s : State) (D : List LfType) (A : LfType) → TypeHasSkeletons Σ s D A → GoesOn s D → GoesOn s (A ∷ D)
  stands_under s D A a x = record { state = x.state; local = (x.local, a); free_variables = x.free_variables }

  pub new_type_total : (t : Skeleton) (D : List LfType) (s : State) → SkeletonIsDeclared es t → (s' : State) × (A : LfType) × NewType es D t s s' A
  new_type_total (base a) D s (K, e) = let (s', S, t) = takes_all_total (kind_skeleton zero K) D K s refl in (s', atom a S, new_atom e t)
  new_type_total (arrow_skeleton t u) D s (x, y) =
      let (s', A, a) = new_type_total t D s x in
      let (s'', B, b) = new_type_total u (A ∷ D) s' y in
      (s'', pi A B, new_pi a b)

  -- what is to be found
  abbrev pub InfersTo : List LfType → Written → State → Skeleton → Type 0
  InfersTo D M s t = (s' : State) × (R : Term) × (A : LfType) × Infers es frees D M s s' R A × (skeleton A ≡ t)

  abbrev pub TypeTo : List LfType → WrittenType → State → Skeleton → Type 0
  TypeTo D V s t = (s' : State) × (A : LfType) × ElaboratesType es frees D V s s' A × (skeleton A ≡ t)

  abbrev AllInferred : Written → Type 0
  AllInferred M = (D : List LfType) (s : State) (t : Skeleton) → GoesOn s D → WrittenHasSkeleton es fs (local_skeletons D []) M t → InfersTo D M s t

  abbrev AllChecked : Written → Type 0
  AllChecked M = (D : List LfType) (s : State) (A : LfType) → GoesOn s D → TypeHasSkeletons (signature_of es) s D A → WrittenHasSkeleton es fs (local_skeletons D []) M (skeleton A) → (s' : State) × (R : Term) × Checks es frees D M A s s' R

  abbrev AllDomains : WrittenDomain → Type 0
  AllDomains d = (D : List LfType) (s : State) (t : Skeleton) → GoesOn s D → DomainHasSkeleton es fs (local_skeletons D []) d t → (s' : State) × (A : LfType) × ElaboratesDomain es frees D d s s' A × (skeleton A ≡ t)

  abbrev AllTypes : WrittenType → Type 0
  AllTypes V = (D : List LfType) (s : State) (t : Skeleton) → GoesOn s D → WrittenTypeHasSkeleton es fs (local_skeletons D []) V t → TypeTo D V s t

  abbrev AllFamilies : WrittenType → Type 0
  AllFamilies V = (D : List LfType) (s : State) (a : ℕ) (t : Skeleton) → GoesOn s D → FamilyHasSkeleton es fs (local_skeletons D []) V a t → (s' : State) × (S : Spine) × (L : Kind) × ElaboratesFamily es frees D V s s' a S L × (kind_skeleton a L ≡ t)

  abbrev AllKinds : WrittenKind → Type 0
  AllKinds k = (D : List LfType) (s : State) (a : ℕ) (t : Skeleton) → GoesOn s D → KindHasSkeleton es fs (local_skeletons D []) k a t → (s' : State) × (K : Kind) × ElaboratesKind es frees D k s s' K × (kind_skeleton a K ≡ t)

  -- where the type is found, the expected one is compared with it
  checked_by : (M : Written) → IsInferred M → AllInferred M → AllChecked M
  checked_by M n f D s A w a h = let (s', R, X, d, e) = f D s (skeleton A) w h in (with_equations (type_equations Σ D X A) s', R, checks_inferred n d e)

  name_total : (c : ℕ) (at : Place) → AllInferred (declared c at)
  name_total c at D s t w (e, B, q, v, l) = go (name_in_terms e.body B v) (takes_total e.implicit D B s t l)
    where
      go : (e.body ≡ declare_constant B) ⊎ ((N : Term) × (d : Bool) × (e.body ≡ declare_definition N B d)) → ((s' : State) × (S : Spine) × (C : LfType) × TakesNew e.implicit D B s s' S C × (skeleton C ≡ t)) → InfersTo D (declared c at) s t
      go (inl b) (s', S, C, x, p) = (s', eta_expand (skeleton C) (constant c) S, C, at_constant q b x, p)
      go (inr (N, d, b)) (s', S, C, x, p) = (s', reduce (skeleton B) N S, C, at_definition q b x, p)

  -- a function that was found, applied
  apply_total : (D : List LfType) (M P : Written) (s s' : State) (R : Term) (X : LfType) (a t : Skeleton) → GoesOn s D → AllChecked P → WrittenHasSkeleton es fs (local_skeletons D []) P a → Infers es frees D M s s' R X → skeleton X ≡ arrow_skeleton a t → StateHasSkeletons Σ s' → TermHasSkeleton Σ s' D R X → TypeHasSkeletons Σ s' D X → InfersTo D (applied M P) s t
  apply_total D M P s s' R (atom b S) a t w c h d e k r x = absurd (cc)
  apply_total D M P s s' (root y S) (pi A B) a t w c h d e k r x = absurd r
  apply_total D M P s s' (lambda R) (pi A B) a t w c h d e k r (x, y) =
      let p : skeleton A ≡ a = cc in
      let q : skeleton B ≡ t = cc in
      let (s'', Q, z) = c D s' A (stands_behind s s' D (infers_adds es frees d w.state.numbered) k w) x (subst (WrittenHasSkeleton es fs (local_skeletons D []) P) (sym p) h) in
      (s'', substitute reduce (single (skeleton A) Q) R, instantiate_type A Q B, at_applied d z, skeleton_substituted reduce (single (skeleton A) Q) B ∙ q)

  -- a family that was found, applied
  family_apply_total : (D : List LfType) (V : WrittenType) (P : Written) (s s' : State) (a : ℕ) (S : Spine) (L : Kind) (x t : Skeleton) → GoesOn s D → AllChecked P → WrittenHasSkeleton es fs (local_skeletons D []) P x → ElaboratesFamily es frees D V s s' a S L → kind_skeleton a L ≡ arrow_skeleton x t → StateHasSkeletons Σ s' → KindHasSkeletons Σ s' D L →
      (s'' : State) × (T : Spine) × (K : Kind) × ElaboratesFamily es frees D (family_applied V P) s s'' a T K × (kind_skeleton a K ≡ t)
  family_apply_total D V P s s' a S star x t w c h d e k y = absurd (cc)
  family_apply_total D V P s s' a S (kind_pi A L) x t w c h d e k (y, z) =
      let p : skeleton A ≡ x = cc in
      let q : kind_skeleton a L ≡ t = cc in
      let (s'', Q, v) = c D s' A (stands_behind s s' D (family_adds es frees d w.state.numbered) k w) y (subst (WrittenHasSkeleton es fs (local_skeletons D []) P) (sym p) h) in
      (s'', add_last S Q, instantiate_kind A Q L, at_family_applied d v, kind_skeleton_substituted a reduce (single (skeleton A) Q) L ∙ q)

  family_type : (D : List LfType) (V : WrittenType) (s s' : State) (a : ℕ) (S : Spine) (L : Kind) → ElaboratesFamily es frees D V s s' a S L → L ≡ star → ElaboratesType es frees D V s s' (atom a S)
  family_type D V s s' a S L d e = at_family (subst (ElaboratesFamily es frees D V s s' a S) e d)

  -- an ascribed family takes an argument
  ascribed_total : (D : List LfType) (V : WrittenType) (k : WrittenKind) (s s' s'' : State) (a : ℕ) (S : Spine) (K L : Kind) (t : Skeleton) → ElaboratesKind es frees D k s s' L → ElaboratesFamily es frees D V s' s'' a S K → kind_skeleton a L ≡ t → kind_skeleton a K ≡ t → IsArrow t →
      (z : State) × (T : Spine) × (N : Kind) × ElaboratesFamily es frees D (family_ascribed V k) s z a T N × (kind_skeleton a N ≡ t)
  ascribed_total D V k s s' s'' a S star L t x y e f i = absurd (subst IsArrow (sym f) i)
  ascribed_total D V k s s' s'' a S (kind_pi A K) L t x y e f i = (with_equations (kind_equations Σ D (kind_pi A K) L) s'', S, kind_pi A K, at_family_ascribed x y (same_kind_skeleton a (kind_pi A K) L (f ∙ sym e)), f)

  skeleton_domain : (u : Skeleton) (at : Place) → AllDomains (of_skeleton u at)
  skeleton_domain u at D s t w h = let (s', A, x) = new_type_total u D s h.1 in (s', A, at_of_skeleton x, (new_type_skeletons es canonical x w.state w.local).2 ∙ h.0)

  type_domain : (V : WrittenType) → AllTypes V → AllDomains (of_type V)
  type_domain V f D s t w h = let (s', A, x, e) = f D s t w h in (s', A, at_of_type x, e)

  function_inferred : (d : WrittenDomain) (M : Written) → AllDomains d → AllInferred M → AllInferred (function d M)
  function_inferred d M f g D s (base c) w h = absurd h
  function_inferred d M f g D s (arrow_skeleton a b) w h =
      let (s', A, x, e) = f D s a w h.0 in
      let (k, y) = domain_skeletons es canonical frees x w.state w.local in
      let (s'', R, B, z, i) = g (A ∷ D) s' b (stands_under s' D A y (stands_behind s s' D (domain_adds es frees x w.state.numbered) k w)) (subst (λ v. WrittenHasSkeleton es fs (v ∷ local_skeletons D []) M b) (sym e) h.1) in
      (s'', lambda R, pi A B, at_function x z, ap₂ arrow_skeleton e i)

  function_checked : (d : WrittenDomain) (M : Written) → AllDomains d → AllChecked M → AllChecked (function d M)
  function_checked d M f g D s (atom a S) w x h = absurd h
  function_checked d M f g D s (pi A B) w x h =
      let (s', X, y, e) = f D s (skeleton A) w h.0 in
      let (k, z) = domain_skeletons es canonical frees y w.state w.local in
      let i : Grows s s' = domain_adds es frees y w.state.numbered in
      let w' : GoesOn s' D = stands_behind s s' D i k w in
      let ab : TypeHasSkeletons Σ s' D (pi A B) = type_grows Σ ok s s' i D (pi A B) x in
      let s₁ : State = with_equations (type_equations Σ D X A) s' in
      let k₁ : StateHasSkeletons Σ s₁ = more_equations Σ ok (type_equations Σ D X A) s' (type_equations_have Σ ok s' D X A w'.local z ab.0 e) k in
      let w₁ : GoesOn s₁ D = stands_behind s' s₁ D (adds_equations (type_equations Σ D X A) s' k.numbered) k₁ w' in
      let (s'', R, c) = g (A ∷ D) s₁ B (stands_under s₁ D A ab.0 w₁) ab.1 h.1 in
      (s'', lambda R, checks_function y e c)

  -- types under a binder
  quantified_total : (d : WrittenDomain) (V : WrittenType) → AllDomains d → AllTypes V → AllTypes (quantified d V)
  quantified_total d V f g D s (base c) w h = absurd h
  quantified_total d V f g D s (arrow_skeleton a b) w h =
      let (s', A, x, e) = f D s a w h.0 in
      let (k, y) = domain_skeletons es canonical frees x w.state w.local in
      let (s'', B, z, i) = g (A ∷ D) s' b (stands_under s' D A y (stands_behind s s' D (domain_adds es frees x w.state.numbered) k w)) (subst (λ v. WrittenTypeHasSkeleton es fs (v ∷ local_skeletons D []) V b) (sym e) h.1) in
      (s'', pi A B, at_quantified x z, ap₂ arrow_skeleton e i)

  arrow_total : (V W : WrittenType) → AllTypes V → AllTypes W → AllTypes (arrow V W)
  arrow_total V W f g D s (base c) w h = absurd h
  arrow_total V W f g D s (arrow_skeleton a b) w h =
      let (s', A, x, e) = f D s a w h.0 in
      let (k, y) = type_skeletons es canonical frees x w.state w.local in
      let (s'', B, z, i) = g D s' b (stands_behind s s' D (type_adds es frees x w.state.numbered) k w) h.1 in
      (s'', pi A (weaken B), at_arrow x z, ap₂ arrow_skeleton e (skeleton_renamed suc B ∙ i))

  family_total : (c : ℕ) (at : Place) → AllFamilies (family c at)
  family_total c at D s a t w (e, (en, K, q, b, l)) =
      let (s', S, L, x, p) = kind_takes_total c en.implicit D K s t l in
      (s', S, L, subst (λ a. ElaboratesFamily es frees D (family c at) s s' a S L) e (at_family_name q b x), subst (λ a. kind_skeleton a L ≡ t) e p)

  family_name_type : (c : ℕ) (at : Place) → AllTypes (family c at)
  family_name_type c at D s (arrow_skeleton a b) w h = absurd h
  family_name_type c at D s (base a) w h =
      let (s', S, L, x, p) = family_total c at D s a (base a) w h in
      (s', atom a S, family_type D (family c at) s s' a S L x (only_star a a L p), refl)

  applied_family : (V : WrittenType) (P : Written) → AllFamilies V → AllChecked P → AllFamilies (family_applied V P)
  applied_family V P f g D s a t w (x, h, i) =
      let (s', S, L, d, e) = f D s a (arrow_skeleton x t) w h in
      let (k, r, y) = family_skeletons_of es canonical frees d w.state w.local in
      family_apply_total D V P s s' a S L x t w g i d e k y

  applied_family_type : (V : WrittenType) (P : Written) → AllFamilies (family_applied V P) → AllTypes (family_applied V P)
  applied_family_type V P f D s (arrow_skeleton a b) w h = absurd h
  applied_family_type V P f D s (base a) w h =
      let (s', S, L, x, p) = f D s a (base a) w h in
      (s', atom a S, family_type D (family_applied V P) s s' a S L x (only_star a a L p), refl)

  ascribed_type : (V : WrittenType) (k : WrittenKind) → AllTypes V → AllTypes (family_ascribed V k)
  ascribed_type V written_star f D s t w h = let (s', A, x, e) = f D s t w h in (s', A, at_type_ascribed x, e)
  ascribed_type V (kind_arrow W k) f D s t w h = absurd h
  ascribed_type V (kind_quantified d k) f D s t w h = absurd h

  ascribed_family : (V : WrittenType) (k : WrittenKind) → AllFamilies V → AllKinds k → AllFamilies (family_ascribed V k)
  ascribed_family V k f g D s a t w (h, i, j) =
      let (s', L, x, e) = g D s a t w h in
      let (m, y) = kind_skeletons es canonical frees x w.state w.local in
      let (s'', S, K, z, p) = f D s' a t (stands_behind s s' D (kind_adds es frees x w.state.numbered) m w) i in
      ascribed_total D V k s s' s'' a S K L t x z e p j

  kind_arrow_total : (V : WrittenType) (k : WrittenKind) → AllTypes V → AllKinds k → AllKinds (kind_arrow V k)
  kind_arrow_total V k f g D s a (base c) w h = absurd h
  kind_arrow_total V k f g D s a (arrow_skeleton x y) w h =
      let (s', A, z, e) = f D s x w h.0 in
      let (m, n) = type_skeletons es canonical frees z w.state w.local in
      let (s'', K, v, i) = g D s' a y (stands_behind s s' D (type_adds es frees z w.state.numbered) m w) h.1 in
      (s'', kind_pi A (rename_kind suc K), at_kind_arrow z v, ap₂ arrow_skeleton e (kind_skeleton_renamed a suc K ∙ i))

  kind_quantified_total : (d : WrittenDomain) (k : WrittenKind) → AllDomains d → AllKinds k → AllKinds (kind_quantified d k)
  kind_quantified_total d k f g D s a (base c) w h = absurd h
  kind_quantified_total d k f g D s a (arrow_skeleton x y) w h =
      let (s', A, z, e) = f D s x w h.0 in
      let (m, n) = domain_skeletons es canonical frees z w.state w.local in
      let (s'', K, v, i) = g (A ∷ D) s' a y (stands_under s' D A n (stands_behind s s' D (domain_adds es frees z w.state.numbered) m w)) (subst (λ u. KindHasSkeleton es fs (u ∷ local_skeletons D []) k a y) (sym e) h.1) in
      (s'', kind_pi A K, at_kind_quantified z v, ap₂ arrow_skeleton e i)

  mutual
    -- THE theorem
    pub term_total : (M : Written) → AllInferred M × AllChecked M
    term_total (free i at) =
        let f : AllInferred (free i at) = λ D s t w h. let (m, B, g, e, k) = w.free_variables.each i t h in (s, eta_long (skeleton B) (metavariable m), weaken_past D B, at_free g e, skeleton_raise D B ∙ k) in
        (f, checked_by (free i at) tt f)
    term_total (bound i) =
        let f : AllInferred (bound i) = λ D s t w h. let (A, g, e) = local_of_skeleton D i t h in (s, eta_long (skeleton A) (variable i), A, at_bound g, e) in
        (f, checked_by (bound i) tt f)
    term_total (declared c at) = (name_total c at, checked_by (declared c at) tt (name_total c at))
    term_total (hole u at) = (
      (λ D s t w h. let (s', A, x) = new_type_total u D s h.1 in (with_metavariable D A s', raised D A s'.next, A, at_hole x, (new_type_skeletons es canonical x w.state w.local).2 ∙ h.0)),
      (λ D s A w a h. (with_metavariable D A s, raised D A s.next, checks_hole h.0)),
    )
    term_total (function (of_skeleton u at) M) =
        let m : AllInferred M × AllChecked M = term_total M in
        (function_inferred (of_skeleton u at) M (skeleton_domain u at) m.0, function_checked (of_skeleton u at) M (skeleton_domain u at) m.1)
    term_total (function (of_type V) M) =
        let m : AllInferred M × AllChecked M = term_total M in
        let v : AllTypes V × AllFamilies V = type_total V in
        (function_inferred (of_type V) M (type_domain V v.0) m.0, function_checked (of_type V) M (type_domain V v.0) m.1)
    term_total (applied M P) =
        let m : AllInferred M × AllChecked M = term_total M in
        let p : AllInferred P × AllChecked P = term_total P in
        let f : AllInferred (applied M P) = λ D s t w h.
        let (s', R, X, d, e) = m.0 D s (arrow_skeleton h.0 t) w h.1 in
        let (k, r, x) = infers_skeletons es canonical frees d w.state w.local in
        apply_total D M P s s' R X h.0 t w p.1 h.2 d e k r x in
        (f, checked_by (applied M P) tt f)
    term_total (ascribed M V) =
        let m : AllInferred M × AllChecked M = term_total M in
        let v : AllTypes V × AllFamilies V = type_total V in
        let f : AllInferred (ascribed M V) = λ D s t w h.
        let (s', A, d, e) = v.0 D s t w h.0 in
        let (k, a) = type_skeletons es canonical frees d w.state w.local in
        let (s'', R, c) = m.1 D s' A (stands_behind s s' D (type_adds es frees d w.state.numbered) k w) a (subst (WrittenHasSkeleton es fs (local_skeletons D []) M) (sym e) h.1) in
        (s'', R, A, at_ascribed d c, e) in
        (f, checked_by (ascribed M V) tt f)

    pub domain_total : (d : WrittenDomain) → AllDomains d
    domain_total (of_skeleton u at) = skeleton_domain u at
    domain_total (of_type V) = type_domain V (type_total V).0

    pub type_total : (V : WrittenType) → AllTypes V × AllFamilies V
    type_total (type_hole u at) = (
      (λ D s t w h. let (s', A, x) = new_type_total u D s h.1 in (s', A, at_type_hole x, (new_type_skeletons es canonical x w.state w.local).2 ∙ h.0)),
      (λ D s a t w h. absurd h),
    )
    type_total (arrow V W) = (arrow_total V W (type_total V).0 (type_total W).0, (λ D s a t w h. absurd h))
    type_total (quantified d V) = (quantified_total d V (domain_total d) (type_total V).0, (λ D s a t w h. absurd h))
    type_total (family c at) = (family_name_type c at, family_total c at)
    type_total (family_applied V P) =
        let f : AllFamilies (family_applied V P) = applied_family V P (type_total V).1 (term_total P).1 in
        (applied_family_type V P f, f)
    type_total (family_ascribed V k) =
        let v : AllTypes V × AllFamilies V = type_total V in
        (ascribed_type V k v.0, ascribed_family V k v.1 (kind_total k))

    pub kind_total : (k : WrittenKind) → AllKinds k
    kind_total written_star = (λ D s a t w h. (s, star, at_star, sym h))
    kind_total (kind_arrow V k) = kind_arrow_total V k (type_total V).0 (kind_total k)
    kind_total (kind_quantified d k) = kind_quantified_total d k (domain_total d) (kind_total k)
