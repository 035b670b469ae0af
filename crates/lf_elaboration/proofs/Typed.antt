-- What is elaborated is typed up to U, where the state that it leaves lies within the metavariables and what U solves.
use Rattle.std.proofs.Common.{◌≡◌, ℕ, suc, List, [], ◌∷◌, Option, Some, ◌⊎◌, inl, inr, refl, sym, ap, ◌∙◌, subst}
use Rattle.lf.specs.Entries.{BodyIsTyped, Entry, IsCanonicalSignature, signature_of}
use Rattle.lf.specs.SkeletonTyping.{TypeBySkeletons}
use Rattle.lf.specs.Skeletons.{family_skeletons}
use Rattle.lf.specs.Syntax.{Kind, LfType, Skeleton, Spine, Term, constant, kind_pi, metavariable, nil, pi, skeleton, variable}
use Rattle.lf.specs.Typing.{IsSignature, Signature}
use Rattle.lf.proofs.Entries.{canonical_is_signature}
use Rattle.lf_unification.specs.Offering.{pi_over, raised}
use Rattle.lf_unification.specs.OpenTyping.{OpenHasType, OpenIsContext, OpenIsType, OpenSpineFitsKind, set_at, skeletons_of, weaken_past}
use Rattle.lf_unification.specs.PartialInstance.{PartialInstance}
use Rattle.lf_unification.specs.Skeletons.{as_head_skeletons, total_skeletons}
use Rattle.lf_unification.specs.Unifiers.{Equation, SolvesAll}
use Rattle.lf_unification.proofs.Agree.{set_here}
use Rattle.lf_unification.proofs.Generic.{open_skeletons_type}
use Rattle.lf_unification.proofs.Offer.{decide, set_other}
use Rattle.lf_unification.proofs.OpenEta.{Exact, Into-weak, OpenIsType-rename, exact_open, expand_open}
use Rattle.lf_unification.proofs.OpenSound.{skeleton_raise}
use Rattle.lf_unification.proofs.RigidSteps.{solves_rest}
use Rattle.lf_unification.proofs.SubstitutionUpTo.{reduction_typed, term_instance_typed}
use Rattle.lf_elaboration.specs.Elaboration.{Checks, ElaboratesDomain, ElaboratesFamily, ElaboratesKind, ElaboratesType, Infers, KindTakesNew, NewFrees, NewType, TakesAllNew, TakesNew, takes_none, takes_next, kind_takes_none, kind_takes_next, takes_all, takes_first, new_atom, new_pi, no_frees, next_free, at_free, at_bound, at_constant, at_definition, at_hole, at_function, at_applied, at_ascribed, checks_hole, checks_function, checks_inferred, at_type_hole, at_arrow, at_quantified, at_family, at_type_ascribed, at_of_skeleton, at_of_type, at_family_name, at_family_applied, at_family_ascribed, at_star, at_kind_arrow, at_kind_quantified}
use Rattle.lf_elaboration.specs.Skeletons.{IsNumbered}
use Rattle.lf_elaboration.specs.Kinds.{OpenIsKind}
use Rattle.lf_elaboration.specs.State.{State, kind_equations, nothing_yet, type_equations, with_equations, with_metavariable}
use Rattle.lf_elaboration.specs.Written.{Written, WrittenDomain, WrittenKind, WrittenType}
use Rattle.lf_elaboration.proofs.Adds.{Grows, adds_equations, adds_metavariable, checks_adds, domain_adds, family_adds, frees_add, infers_adds, kind_adds, kind_takes_adds, new_type_adds, takes_adds, takes_all_adds, type_adds}
use Rattle.lf_elaboration.proofs.Equated.{AreFullyTyped, converted, fully_typed_followed, kinds_equated, types_equated}
use Rattle.lf_elaboration.proofs.Skeletons.{entry_typed, kind_declared, type_declared}
use Rattle.lf_elaboration.proofs.UpTo.{KindExact, MS, SU, all_of, close_over, closed_kind_open, closed_term_open, closed_type_open, codomain_typed, in_context, kind_exact_add, kind_exact_fits, kind_instance_typed, kind_renamed, raised_typed, type_moved, types_in}

module _ (es : List Entry) (canonical : IsCanonicalSignature es) (Ψ : ℕ → Option LfType) (U : (ℕ → Option Term) → Type 0) (half : (β : ℕ → Option Term) → U β → (F : List LfType) × PartialInstance (signature_of es) [] Ψ (λ m. ⊥) F β) (declared : (m : ℕ) (B : LfType) → Ψ m ≡ Some B → TypeBySkeletons (family_skeletons (signature_of es)) (as_head_skeletons (total_skeletons (signature_of es) (skeletons_of Ψ))) [] B) where
  abbrev Σ : Signature
  Σ = signature_of es

  abbrev ok : IsSignature (signature_of es)
  ok = canonical_is_signature es canonical

  abbrev HasOpen : List LfType → Term → LfType → Type 0
  HasOpen D M A = OpenHasType (signature_of es) [] Ψ U D M A

  abbrev IsOpen : List LfType → LfType → Type 0
  IsOpen D A = OpenIsType (signature_of es) [] Ψ U D A

  abbrev IsOpenContext : List LfType → Type 0
  IsOpenContext D = OpenIsContext (signature_of es) [] Ψ U D

  abbrev IsOpenKind : List LfType → Kind → Type 0
  IsOpenKind D K = OpenIsKind (signature_of es) Ψ U D K

  abbrev AreTyped : List Equation → Type 0
  AreTyped fs = AreFullyTyped (signature_of es) (canonical_is_signature es canonical) Ψ U half declared fs

  -- a state that lies within Ψ, and whose equations U solves
  pub record Within (s : State) : Type 0 where
    pub declares : (m : ℕ) (A : LfType) → s.metavariables m ≡ Some A → Ψ m ≡ Some A
    pub solved : (β : ℕ → Option Term) → U β → SolvesAll (skeletons_of Ψ) β s.equations

  -- a state whose metavariables and equations are typed
  pub record StateIsTyped (s : State) : Type 0 where
    pub types : (m : ℕ) (A : LfType) → s.metavariables m ≡ Some A → OpenIsType (signature_of es) [] Ψ U [] A
    pub equations : AreFullyTyped (signature_of es) (canonical_is_signature es canonical) Ψ U half declared s.equations

  pub within_before : (s s' : State) → Grows s s' → Within s' → Within s
  within_before s s' g w = record { declares = λ m A e. w.declares m A (g.keeps m A e); solved = λ β u. g.solves (skeletons_of Ψ) β (w.solved β u) }

  pub new_typed : (D : List LfType) (A : LfType) (s : State) → IsOpenContext D → IsOpen D A → StateIsTyped s → StateIsTyped (with_metavariable D A s)
  new_typed D A s l a w = record { types = types; equations = w.equations }
    where
      types : (m : ℕ) (B : LfType) → set_at s.next (Some (pi_over D A)) s.metavariables m ≡ Some B → IsOpen [] B
      types m B e = go (decide m s.next)
        where
          go : (m ≡ s.next) ⊎ (m ≡ s.next → ⊥) → IsOpen [] B
          go (inl q) =
              let p : pi_over D A ≡ B = (let r : Some (pi_over D A) ≡ Some B = sym (set_here s.next (Some (pi_over D A)) s.metavariables) ∙ ap (set_at s.next (Some (pi_over D A)) s.metavariables) (sym q) ∙ e in cc) in
              subst (IsOpen []) p (close_over Σ ok Ψ U half declared D A l a)
          go (inr d) = w.types m B (sym (set_other s.next (Some (pi_over D A)) s.metavariables m d) ∙ e)

  pub more_typed : (fs : List Equation) (s : State) → AreTyped fs → StateIsTyped s → StateIsTyped (with_equations fs s)
  more_typed fs s t w = record { types = w.types; equations = fully_typed_followed Σ ok Ψ U half declared s.equations fs w.equations t }

  -- what U solves of the new equations
  pub solved_new : (fs : List Equation) (s : State) → Within (with_equations fs s) → (β : ℕ → Option Term) → U β → SolvesAll (skeletons_of Ψ) β fs
  solved_new fs s w β u = solves_rest (skeletons_of Ψ) β s.equations fs (w.solved β u)

  pub new_raised : (D : List LfType) (A : LfType) (s : State) → Within (with_metavariable D A s) → HasOpen D (raised D A s.next) A
  new_raised D A s w = raised_typed Σ ok Ψ U half declared D A s.next (w.declares s.next (pi_over D A) (set_here s.next (Some (pi_over D A)) s.metavariables))

  -- new metavariables as arguments
  pub takes_typed : {k : ℕ} {D : List LfType} {A C : LfType} {s s' : State} {S : Spine} → TakesNew k D A s s' S C → IsNumbered s → Within s' → IsOpenContext D → IsOpen D A → StateIsTyped s → StateIsTyped s' × Exact Σ ok [] Ψ U D S A C × IsOpen D C
  takes_typed takes_none n w l a t = (t, refl, a)
  takes_typed {D = D} (takes_next {A = A} {B = B} {s = s} {s' = s'} x) n w l (a, b) t =
      let g : Grows s (with_metavariable D A s) = adds_metavariable D A s n in
      let w₁ : Within (with_metavariable D A s) = within_before (with_metavariable D A s) s' (takes_adds x g.numbered) w in
      let m : HasOpen D (raised D A s.next) A = new_raised D A s w₁ in
      let (t', r, c) = takes_typed x g.numbered w l (codomain_typed Σ ok Ψ U half declared D A (raised D A s.next) B l (a, b) m) (new_typed D A s l a t) in
      (t', (m, r), c)

  pub kind_takes_typed : {k : ℕ} {D : List LfType} {K L : Kind} {s s' : State} {S : Spine} → KindTakesNew k D K s s' S L → IsNumbered s → Within s' → IsOpenContext D → IsOpenKind D K → StateIsTyped s → StateIsTyped s' × KindExact Σ ok Ψ U half declared D S K L × IsOpenKind D L
  kind_takes_typed kind_takes_none n w l a t = (t, refl, a)
  kind_takes_typed {D = D} (kind_takes_next {A = A} {K = K} {s = s} {s' = s'} x) n w l (a, k) t =
      let g : Grows s (with_metavariable D A s) = adds_metavariable D A s n in
      let w₁ : Within (with_metavariable D A s) = within_before (with_metavariable D A s) s' (kind_takes_adds x g.numbered) w in
      let m : HasOpen D (raised D A s.next) A = new_raised D A s w₁ in
      let (t', r, c) = kind_takes_typed x g.numbered w l (kind_instance_typed Σ ok Ψ U half declared D A (raised D A s.next) K l (a, k) m) (new_typed D A s l a t) in
      (t', (m, r), c)

  pub takes_all_typed : {D : List LfType} {K : Kind} {s s' : State} {S : Spine} → TakesAllNew D K s s' S → IsNumbered s → Within s' → IsOpenContext D → IsOpenKind D K → StateIsTyped s → StateIsTyped s' × OpenSpineFitsKind Σ [] Ψ U D S K
  takes_all_typed takes_all n w l a t = (t, tt)
  takes_all_typed {D = D} (takes_first {A = A} {K = K} {s = s} {s' = s'} x) n w l (a, k) t =
      let g : Grows s (with_metavariable D A s) = adds_metavariable D A s n in
      let w₁ : Within (with_metavariable D A s) = within_before (with_metavariable D A s) s' (takes_all_adds x g.numbered) w in
      let m : HasOpen D (raised D A s.next) A = new_raised D A s w₁ in
      let (t', r) = takes_all_typed x g.numbered w l (kind_instance_typed Σ ok Ψ U half declared D A (raised D A s.next) K l (a, k) m) (new_typed D A s l a t) in
      (t', (m, r))

  -- the most general type of a skeleton
  pub new_type_typed : {D : List LfType} {x : Skeleton} {s s' : State} {A : LfType} → NewType es D x s s' A → IsNumbered s → Within s' → IsOpenContext D → StateIsTyped s → StateIsTyped s' × IsOpen D A
  new_type_typed {D = D} (new_atom {K = K} e x) n w l t = let (t', r) = takes_all_typed x n w l (closed_kind_open Σ ok Ψ U half declared D K (ok.kinds_ok _ K e)) t in (t', (K, e, r))
  new_type_typed {D = D} (new_pi {s = s} {s' = s'} {s'' = s''} x y) n w l t =
      let g : Grows s s' = new_type_adds es x n in
      let (t', a) = new_type_typed x n (within_before s' s'' (new_type_adds es y g.numbered) w) l t in
      let (t'', b) = new_type_typed y g.numbered w (l, a) t' in
      (t'', (a, b))

  pub frees_typed : {xs : List Skeleton} {s s' : State} {ms : List ℕ} → NewFrees es xs s s' ms → IsNumbered s → Within s' → StateIsTyped s → StateIsTyped s'
  frees_typed no_frees n w t = t
  frees_typed (next_free {s = s} {s' = s'} {s'' = s''} {A = A} x f) n w t =
      let g : Grows s s' = new_type_adds es x n in
      let h : Grows s' (with_metavariable [] A s') = adds_metavariable [] A s' g.numbered in
      let w₁ : Within (with_metavariable [] A s') = within_before (with_metavariable [] A s') s'' (frees_add es f h.numbered) w in
      let (t', a) = new_type_typed x n (within_before s' (with_metavariable [] A s') h w₁) tt t in
      frees_typed f h.numbered w (new_typed [] A s' tt a t')

  pub nothing_typed : StateIsTyped nothing_yet
  nothing_typed = record { types = λ m A e. absurd (cc); equations = tt }

  module _ (frees : List ℕ) where
    mutual
      pub infers_typed : {D : List LfType} {M : Written} {s s' : State} {R : Term} {A : LfType} → Infers es frees D M s s' R A → IsNumbered s → Within s' → IsOpenContext D → StateIsTyped s → StateIsTyped s' × HasOpen D R A × IsOpen D A
      infers_typed {D = D} (at_free {m = m} {B = B} f e) n w l t =
          let a : IsOpen D (weaken_past D B) = type_moved Σ ok Ψ U half declared D B (t.types m B e) in
          (t, expand_open Σ ok [] Ψ U (skeleton B) D _ (metavariable m) nil (weaken_past D B) (weaken_past D B) (sym (skeleton_raise D B)) (open_skeletons_type Σ (skeletons_of Ψ) ok Ψ U D [] (weaken_past D B) a) (B, w.declares m B e, refl) refl, a)
      infers_typed {D = D} (at_bound {i = i} {A = A} g) n w l t =
          let a : IsOpen D A = types_in Σ ok Ψ U half declared D l i A g in
          (t, expand_open Σ ok [] Ψ U (skeleton A) D _ (variable i) nil A A refl (open_skeletons_type Σ (skeletons_of Ψ) ok Ψ U D [] A a) g refl, a)
      infers_typed {D = D} (at_constant {c = c} {e = e} {B = B} {A = A} {S = S} q b x) n w l t =
          let d : Σ.types c ≡ Some B = type_declared es c e B q b in
          let (t', r, a) = takes_typed x n w l (closed_type_open Σ ok Ψ U half declared D B (ok.types_ok c B d)) t in
          (t', expand_open Σ ok [] Ψ U (skeleton A) D _ (constant c) S B A refl (open_skeletons_type Σ (skeletons_of Ψ) ok Ψ U D [] A a) d r, a)
      infers_typed {D = D} (at_definition {c = c} {e = e} {N = N} {B = B} {A = A} {S = S} q b x) n w l t =
          let (k, m) = subst (BodyIsTyped Σ) b (entry_typed es canonical c e q) in
          let o : IsOpen D B = closed_type_open Σ ok Ψ U half declared D B k in
          let (t', r, a) = takes_typed x n w l o t in
          (t', reduction_typed Σ ok Ψ U (SU Σ ok Ψ U half declared) (MS Σ ok Ψ U half declared) (skeleton B) D N S B A refl (in_context Σ ok Ψ U half declared D l) (all_of Σ ok Ψ U half declared D B o) (all_of Σ ok Ψ U half declared D A a) (closed_term_open Σ ok Ψ U half declared D N B k m) (exact_open Σ ok [] Ψ U D S B A r), a)
      infers_typed {D = D} (at_hole {A = A} {s = s} {s' = s'} x) n w l t =
          let g : Grows s s' = new_type_adds es x n in
          let (t', a) = new_type_typed x n (within_before s' (with_metavariable D A s') (adds_metavariable D A s' g.numbered) w) l t in
          (new_typed D A s' l a t', new_raised D A s' w, a)
      infers_typed (at_function {s = s} {s' = s'} {s'' = s''} d i) n w l t =
          let g : Grows s s' = domain_adds es frees d n in
          let (t', a) = domain_typed d n (within_before s' s'' (infers_adds es frees i g.numbered) w) l t in
          let (t'', r, b) = infers_typed i g.numbered w (l, a) t' in
          (t'', r, (a, b))
      infers_typed {D = D} (at_applied {A = A} {B = B} {R = R} {Q = Q} {s = s} {s' = s'} {s'' = s''} i c) n w l t =
          let g : Grows s s' = infers_adds es frees i n in
          let (t', r, (a, b)) = infers_typed i n (within_before s' s'' (checks_adds es frees c g.numbered) w) l t in
          let (t'', q) = checks_typed_up_to c g.numbered w l a t' in
          (t'', term_instance_typed Σ ok Ψ U (SU Σ ok Ψ U half declared) (MS Σ ok Ψ U half declared) D A Q B R (in_context Σ ok Ψ U half declared D l) (all_of Σ ok Ψ U half declared D (pi A B) (a, b)) q r, codomain_typed Σ ok Ψ U half declared D A Q B l (a, b) q)
      infers_typed (at_ascribed {s = s} {s' = s'} {s'' = s''} x c) n w l t =
          let g : Grows s s' = type_adds es frees x n in
          let (t', a) = type_typed x n (within_before s' s'' (checks_adds es frees c g.numbered) w) l t in
          let (t'', r) = checks_typed_up_to c g.numbered w l a t' in
          (t'', r, a)

      pub checks_typed_up_to : {D : List LfType} {M : Written} {A : LfType} {s s' : State} {R : Term} → Checks es frees D M A s s' R → IsNumbered s → Within s' → IsOpenContext D → IsOpen D A → StateIsTyped s → StateIsTyped s' × HasOpen D R A
      checks_typed_up_to {D = D} (checks_hole {A = A} {s = s} e) n w l a t = (new_typed D A s l a t, new_raised D A s w)
      checks_typed_up_to {D = D} (checks_function {A = A} {B = B} {X = X} {s = s} {s' = s'} {s'' = s''} x p c) n w l (a, b) t =
          let g : Grows s s' = domain_adds es frees x n in
          let h : Grows s' (with_equations (type_equations Σ D X A) s') = adds_equations (type_equations Σ D X A) s' g.numbered in
          let w₁ : Within (with_equations (type_equations Σ D X A) s') = within_before (with_equations (type_equations Σ D X A) s') s'' (checks_adds es frees c h.numbered) w in
          let (t', y) = domain_typed x n (within_before s' (with_equations (type_equations Σ D X A) s') h w₁) l t in
          let (s₀, q) = types_equated Σ ok Ψ U half declared D l X A y a p (solved_new (type_equations Σ D X A) s' w₁) in
          checks_typed_up_to c h.numbered w (l, a) b (more_typed (type_equations Σ D X A) s' q t')
      checks_typed_up_to {D = D} (checks_inferred {A = A} {X = X} {R = R} {s = s} {s' = s'} z i p) n w l a t =
          let g : Grows s s' = infers_adds es frees i n in
          let h : Grows s' (with_equations (type_equations Σ D X A) s') = adds_equations (type_equations Σ D X A) s' g.numbered in
          let (t', r, y) = infers_typed i n (within_before s' (with_equations (type_equations Σ D X A) s') h w) l t in
          let (s₀, q) = types_equated Σ ok Ψ U half declared D l X A y a p (solved_new (type_equations Σ D X A) s' w) in
          (more_typed (type_equations Σ D X A) s' q t', converted Σ ok Ψ U half declared D l R A X a y (sym s₀.0, λ β u. sym (s₀.1 β u)) r)

      pub type_typed : {D : List LfType} {V : WrittenType} {s s' : State} {A : LfType} → ElaboratesType es frees D V s s' A → IsNumbered s → Within s' → IsOpenContext D → StateIsTyped s → StateIsTyped s' × IsOpen D A
      type_typed (at_type_hole x) n w l t = new_type_typed x n w l t
      type_typed {D = D} (at_arrow {A = A} {B = B} {s = s} {s' = s'} {s'' = s''} x y) n w l t =
          let g : Grows s s' = type_adds es frees x n in
          let (t', a) = type_typed x n (within_before s' s'' (type_adds es frees y g.numbered) w) l t in
          let (t'', b) = type_typed y g.numbered w l t' in
          (t'', (a, OpenIsType-rename Σ ok [] Ψ U D (A ∷ D) suc B (Into-weak Σ ok [] Ψ U D A) b))
      type_typed (at_quantified {s = s} {s' = s'} {s'' = s''} d y) n w l t =
          let g : Grows s s' = domain_adds es frees d n in
          let (t', a) = domain_typed d n (within_before s' s'' (type_adds es frees y g.numbered) w) l t in
          let (t'', b) = type_typed y g.numbered w (l, a) t' in
          (t'', (a, b))
      type_typed {D = D} (at_family {S = S} f) n w l t = let (t', (K, e, r), k) = family_typed f n w l t in (t', (K, e, kind_exact_fits Σ ok Ψ U half declared D S K r))
      type_typed (at_type_ascribed x) n w l t = type_typed x n w l t

      pub domain_typed : {D : List LfType} {d : WrittenDomain} {s s' : State} {A : LfType} → ElaboratesDomain es frees D d s s' A → IsNumbered s → Within s' → IsOpenContext D → StateIsTyped s → StateIsTyped s' × IsOpen D A
      domain_typed (at_of_skeleton x) n w l t = new_type_typed x n w l t
      domain_typed (at_of_type x) n w l t = type_typed x n w l t

      pub family_typed : {D : List LfType} {V : WrittenType} {s s' : State} {a : ℕ} {S : Spine} {L : Kind} → ElaboratesFamily es frees D V s s' a S L → IsNumbered s → Within s' → IsOpenContext D → StateIsTyped s → StateIsTyped s' × ((K : Kind) × (Σ.kinds a ≡ Some K) × KindExact Σ ok Ψ U half declared D S K L) × IsOpenKind D L
      family_typed {D = D} (at_family_name {a = a} {e = e} {K = K} q b x) n w l t =
          let d : Σ.kinds a ≡ Some K = kind_declared es a e K q b in
          let (t', r, k) = kind_takes_typed x n w l (closed_kind_open Σ ok Ψ U half declared D K (ok.kinds_ok a K d)) t in
          (t', (K, d, r), k)
      family_typed {D = D} (at_family_applied {S = S} {A = A} {K = L} {Q = Q} {s = s} {s' = s'} {s'' = s''} f c) n w l t =
          let g : Grows s s' = family_adds es frees f n in
          let (t', (K, d, r), (a, k)) = family_typed f n (within_before s' s'' (checks_adds es frees c g.numbered) w) l t in
          let (t'', q) = checks_typed_up_to c g.numbered w l a t' in
          (t'', (K, d, kind_exact_add Σ ok Ψ U half declared D S Q K A L r q), kind_instance_typed Σ ok Ψ U half declared D A Q L l (a, k) q)
      family_typed {D = D} (at_family_ascribed {A = A} {K = K} {L = L} {s = s} {s' = s'} {s'' = s''} k f p) n w l t =
          let g : Grows s s' = kind_adds es frees k n in
          let h : Grows s' s'' = family_adds es frees f g.numbered in
          let i : Grows s'' (with_equations (kind_equations Σ D (kind_pi A K) L) s'') = adds_equations (kind_equations Σ D (kind_pi A K) L) s'' h.numbered in
          let w₂ : Within s'' = within_before s'' (with_equations (kind_equations Σ D (kind_pi A K) L) s'') i w in
          let (t', y) = kind_typed k n (within_before s' s'' h w₂) l t in
          let (t'', r, x) = family_typed f g.numbered w₂ l t' in
          (more_typed (kind_equations Σ D (kind_pi A K) L) s'' (kinds_equated Σ ok Ψ U half declared D l (kind_pi A K) L x y p (solved_new (kind_equations Σ D (kind_pi A K) L) s'' w)) t'', r, x)

      pub kind_typed : {D : List LfType} {k : WrittenKind} {s s' : State} {K : Kind} → ElaboratesKind es frees D k s s' K → IsNumbered s → Within s' → IsOpenContext D → StateIsTyped s → StateIsTyped s' × IsOpenKind D K
      kind_typed at_star n w l t = (t, tt)
      kind_typed {D = D} (at_kind_arrow {A = A} {K = K} {s = s} {s' = s'} {s'' = s''} x y) n w l t =
          let g : Grows s s' = type_adds es frees x n in
          let (t', a) = type_typed x n (within_before s' s'' (kind_adds es frees y g.numbered) w) l t in
          let (t'', k) = kind_typed y g.numbered w l t' in
          (t'', (a, kind_renamed Σ ok Ψ U half declared D (A ∷ D) suc K (Into-weak Σ ok [] Ψ U D A) k))
      kind_typed (at_kind_quantified {s = s} {s' = s'} {s'' = s''} d y) n w l t =
          let g : Grows s s' = domain_adds es frees d n in
          let (t', a) = domain_typed d n (within_before s' s'' (kind_adds es frees y g.numbered) w) l t in
          let (t'', k) = kind_typed y g.numbered w (l, a) t' in
          (t'', (a, k))
