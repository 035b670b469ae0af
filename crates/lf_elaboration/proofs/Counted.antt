-- Elaboration makes as many metavariables as the spots of what is written count.
use Rattle.std.proofs.Common.{◌≡◌, ℕ, zero, suc, ◌+◌, List, [], ◌∷◌, ◌++◌, take, true, false, Some, refl, sym, ap, ◌∙◌, arith}
use Rattle.std.specs.Prelude.{slice_get}
use Rattle.lf.specs.Entries.{Body, Entry, declare_constant, declare_definition, declare_family, entry, kind_quantifiers}
use Rattle.lf.specs.Substitution.{Image, lift, reduce, single, substitute_kind}
use Rattle.lf.specs.Syntax.{Kind, LfType, Skeleton, Spine, Term, kind_pi, skeleton, star}
use Rattle.lf_unification.specs.Offering.{raised}
use Rattle.lf_elaboration.specs.Elaboration.{Checks, ElaboratesDomain, ElaboratesFamily, ElaboratesKind, ElaboratesType, Infers, IsInferred, KindTakesNew, NewFrees, NewType, TakesAllNew, TakesNew, takes_none, takes_next, kind_takes_none, kind_takes_next, takes_all, takes_first, new_atom, new_pi, no_frees, next_free, at_free, at_bound, at_constant, at_definition, at_hole, at_function, at_applied, at_ascribed, checks_hole, checks_function, checks_inferred, at_type_hole, at_arrow, at_quantified, at_family, at_type_ascribed, at_of_skeleton, at_of_type, at_family_name, at_family_applied, at_family_ascribed, at_star, at_kind_arrow, at_kind_quantified}
use Rattle.lf_elaboration.specs.Principal.{WrittenBody, written_constant, written_definition, written_definition_of, written_family}
use Rattle.lf_elaboration.specs.PrincipalLaws.{ElaboratesBody}
use Rattle.lf_elaboration.specs.SiteLaws.{MetavariablesAreCounted, SpotsAreAll, total}
use Rattle.lf_elaboration.specs.Sites.{Site, Spot, arguments_in, body_frees, body_spots, domain_spots, free_spots, implicit_in, indices, kind_spots, name_spots, term_spots, type_spots}
use Rattle.lf_elaboration.specs.State.{State}
use Rattle.lf_elaboration.specs.Written.{Place, Written, WrittenDomain, WrittenKind, WrittenType, applied, ascribed, bound, declared, free, function, hole}

total_append : (xs ys : List Spot) → total (xs ++ ys) ≡ total xs + total ys
total_append [] ys = omega arith
total_append (s ∷ xs) ys = let h : total (xs ++ ys) ≡ total xs + total ys = total_append xs ys in omega (arith, h)

-- one part behind another
counted_then : (a b c : ℕ) (xs ys : List Spot) → b ≡ a + total xs → c ≡ b + total ys → c ≡ a + total (xs ++ ys)
counted_then a b c xs ys p q = let h = total_append xs ys in omega (arith, p, q, h)

takes_counted : {k : ℕ} {D : List LfType} {A C : LfType} {s s' : State} {S : Spine} → TakesNew k D A s s' S C → s'.next ≡ s.next + k
takes_counted takes_none = omega arith
takes_counted (takes_next {k = k} {s = s} {s' = s'} t) = let h : s'.next ≡ suc s.next + k = takes_counted t in omega (arith, h)

kind_takes_counted : {k : ℕ} {D : List LfType} {K L : Kind} {s s' : State} {S : Spine} → KindTakesNew k D K s s' S L → s'.next ≡ s.next + k
kind_takes_counted kind_takes_none = omega arith
kind_takes_counted (kind_takes_next {k = k} {s = s} {s' = s'} t) = let h : s'.next ≡ suc s.next + k = kind_takes_counted t in omega (arith, h)

substituted_count : (σ : ℕ → Image) (K : Kind) → kind_quantifiers (substitute_kind reduce σ K) ≡ kind_quantifiers K
substituted_count σ (kind_pi A K) = ap suc (substituted_count (lift σ) K)
substituted_count σ star = refl

takes_all_counted : {D : List LfType} {K : Kind} {s s' : State} {S : Spine} → TakesAllNew D K s s' S → s'.next ≡ s.next + kind_quantifiers K
takes_all_counted takes_all = omega arith
takes_all_counted (takes_first {D = D} {A = A} {K = K} {s = s} {s' = s'} t) =
    let σ : ℕ → Image = single (skeleton A) (raised D A s.next) in
    let h : s'.next ≡ suc s.next + kind_quantifiers (substitute_kind reduce σ K) = takes_all_counted t in
    let k = substituted_count σ K in
    omega (arith, h, k)

module _ (es : List Entry) where
  new_type_counted : {D : List LfType} {t : Skeleton} {s s' : State} {A : LfType} → NewType es D t s s' A → s'.next ≡ s.next + indices es t
  new_type_counted (new_atom {s = s} e t) = takes_all_counted t ∙ ap (λ o. s.next + arguments_in o) (sym e)
  new_type_counted (new_pi {t = t} {u = u} {s = s} {s' = s'} {s'' = s''} a b) =
      let h : s'.next ≡ s.next + indices es t = new_type_counted a in
      let k : s''.next ≡ s'.next + indices es u = new_type_counted b in
      omega (arith, h, k)

  frees_counted : {ts : List Skeleton} {s s' : State} {ms : List ℕ} → NewFrees es ts s s' ms → (fs : List Site) (i : ℕ) → s'.next ≡ s.next + total (free_spots es fs i ts)
  frees_counted no_frees fs i = omega arith
  frees_counted (next_free {t = t} {ts = ts} {s = s} {s' = s'} {s'' = s''} a f) fs i =
      let h : s'.next ≡ s.next + indices es t = new_type_counted a in
      let k : s''.next ≡ suc s'.next + total (free_spots es fs (suc i) ts) = frees_counted f fs (suc i) in
      omega (arith, h, k)

  -- each has the last number of its spot
  free_numbered : {ts : List Skeleton} {s s' : State} {ms : List ℕ} → NewFrees es ts s s' ms → (fs : List Site) (n : ℕ) (rest : List Spot) (i m : ℕ) → slice_get ms i ≡ Some m → suc m ≡ s.next + total (take (suc i) (free_spots es fs n ts ++ rest))
  free_numbered no_frees fs n rest i m e = absurd cc
  free_numbered (next_free {t = t} {s = s} {s' = s'} a f) fs n rest zero m e =
      let p : s'.next ≡ m = cc in
      let h : s'.next ≡ s.next + indices es t = new_type_counted a in
      omega (arith, h, p)
  free_numbered (next_free {t = t} {ts = ts} {s = s} {s' = s'} {ms = ms} a f) fs n rest (suc i) m e =
      let h : s'.next ≡ s.next + indices es t = new_type_counted a in
      let k : suc m ≡ suc s'.next + total (take (suc i) (free_spots es fs (suc n) ts ++ rest)) = free_numbered f fs (suc n) rest i m e in
      omega (arith, h, k)

  -- implicit arguments
  name_counted : (c : ℕ) (at : Place) (e : Entry) (a b : ℕ) → entry es c ≡ Some e → b ≡ a + e.implicit → b ≡ a + total (name_spots es c at)
  name_counted c at e a b p q = let h : implicit_in (entry es c) ≡ e.implicit = ap implicit_in p in omega (arith, q, h)

  -- where a term is inferred, nothing hangs on an expected type
  inferred_same : (M : Written) → IsInferred M → term_spots es false M ≡ term_spots es true M
  inferred_same (free i at) n = refl
  inferred_same (bound i) n = refl
  inferred_same (declared c at) n = refl
  inferred_same (hole t at) n = absurd n
  inferred_same (function d M) n = absurd n
  inferred_same (applied M P) n = refl
  inferred_same (ascribed M V) n = refl

  module _ (frees : List ℕ) where
    mutual
      infers_counted : {D : List LfType} {M : Written} {s s' : State} {R : Term} {A : LfType} → Infers es frees D M s s' R A → s'.next ≡ s.next + total (term_spots es false M)
      infers_counted (at_free f e) = omega arith
      infers_counted (at_bound g) = omega arith
      infers_counted (at_constant {at = at} {c = c} {e = e} {s = s} {s' = s'} p b t) = name_counted c at e s.next s'.next p (takes_counted t)
      infers_counted (at_definition {at = at} {c = c} {e = e} {s = s} {s' = s'} p b t) = name_counted c at e s.next s'.next p (takes_counted t)
      infers_counted (at_hole {t = t} {s = s} {s' = s'} n) = let h : s'.next ≡ s.next + indices es t = new_type_counted n in omega (arith, h)
      infers_counted (at_function {d = d} {M = M} {s = s} {s' = s'} {s'' = s''} x y) = counted_then s.next s'.next s''.next (domain_spots es d) (term_spots es false M) (domain_counted x) (infers_counted y)
      infers_counted (at_applied {M = M} {P = P} {s = s} {s' = s'} {s'' = s''} x y) = counted_then s.next s'.next s''.next (term_spots es false M) (term_spots es true P) (infers_counted x) (checks_counted y)
      infers_counted (at_ascribed {M = M} {U = V} {s = s} {s' = s'} {s'' = s''} x y) = counted_then s.next s'.next s''.next (type_spots es V) (term_spots es true M) (type_counted x) (checks_counted y)

      checks_counted : {D : List LfType} {M : Written} {A : LfType} {s s' : State} {R : Term} → Checks es frees D M A s s' R → s'.next ≡ s.next + total (term_spots es true M)
      checks_counted (checks_hole e) = omega arith
      checks_counted (checks_function {d = d} {M = M} {s = s} {s' = s'} {s'' = s''} x e y) = counted_then s.next s'.next s''.next (domain_spots es d) (term_spots es true M) (domain_counted x) (checks_counted y)
      checks_counted (checks_inferred {M = M} {s = s} n x e) = infers_counted x ∙ ap (λ ss. s.next + total ss) (inferred_same M n)

      type_counted : {D : List LfType} {V : WrittenType} {s s' : State} {A : LfType} → ElaboratesType es frees D V s s' A → s'.next ≡ s.next + total (type_spots es V)
      type_counted (at_type_hole {t = t} {s = s} {s' = s'} n) = let h : s'.next ≡ s.next + indices es t = new_type_counted n in omega (arith, h)
      type_counted (at_arrow {U = X} {V = Y} {s = s} {s' = s'} {s'' = s''} x y) = counted_then s.next s'.next s''.next (type_spots es X) (type_spots es Y) (type_counted x) (type_counted y)
      type_counted (at_quantified {d = d} {V = Y} {s = s} {s' = s'} {s'' = s''} x y) = counted_then s.next s'.next s''.next (domain_spots es d) (type_spots es Y) (domain_counted x) (type_counted y)
      type_counted (at_family x) = family_counted x
      type_counted (at_type_ascribed x) = type_counted x

      domain_counted : {D : List LfType} {d : WrittenDomain} {s s' : State} {A : LfType} → ElaboratesDomain es frees D d s s' A → s'.next ≡ s.next + total (domain_spots es d)
      domain_counted (at_of_skeleton {t = t} {s = s} {s' = s'} n) = let h : s'.next ≡ s.next + indices es t = new_type_counted n in omega (arith, h)
      domain_counted (at_of_type x) = type_counted x

      family_counted : {D : List LfType} {V : WrittenType} {s s' : State} {a : ℕ} {S : Spine} {K : Kind} → ElaboratesFamily es frees D V s s' a S K → s'.next ≡ s.next + total (type_spots es V)
      family_counted (at_family_name {at = at} {a = a} {e = e} {s = s} {s' = s'} p b t) = name_counted a at e s.next s'.next p (kind_takes_counted t)
      family_counted (at_family_applied {U = X} {P = P} {s = s} {s' = s'} {s'' = s''} x y) = counted_then s.next s'.next s''.next (type_spots es X) (term_spots es true P) (family_counted x) (checks_counted y)
      family_counted (at_family_ascribed {U = X} {k = k} {s = s} {s' = s'} {s'' = s''} x y e) = counted_then s.next s'.next s''.next (kind_spots es k) (type_spots es X) (kind_counted x) (family_counted y)

      kind_counted : {D : List LfType} {k : WrittenKind} {s s' : State} {K : Kind} → ElaboratesKind es frees D k s s' K → s'.next ≡ s.next + total (kind_spots es k)
      kind_counted at_star = omega arith
      kind_counted (at_kind_arrow {U = X} {k = k} {s = s} {s' = s'} {s'' = s''} x y) = counted_then s.next s'.next s''.next (type_spots es X) (kind_spots es k) (type_counted x) (kind_counted y)
      kind_counted (at_kind_quantified {d = d} {k = k} {s = s} {s' = s'} {s'' = s''} x y) = counted_then s.next s'.next s''.next (domain_spots es d) (kind_spots es k) (domain_counted x) (kind_counted y)

    body_counted : (s s' : State) (w : WrittenBody) (b : Body) → ElaboratesBody es frees w s s' b → s'.next ≡ s.next + total (body_spots es w)
    body_counted s s' (written_family k) (declare_family K) x = kind_counted x
    body_counted s s' (written_constant V) (declare_constant A) x = type_counted x
    body_counted s s' (written_definition M b) (declare_definition R A c) (e, x) = infers_counted x
    body_counted s s' (written_definition_of M V b) (declare_definition R A c) (e, s₁, x, y) = counted_then s.next s₁.next s'.next (type_spots es V) (term_spots es true M) (type_counted x) (checks_counted y)
    body_counted s s' (written_family k) (declare_constant A) x = absurd x
    body_counted s s' (written_family k) (declare_definition R A c) x = absurd x
    body_counted s s' (written_constant V) (declare_family K) x = absurd x
    body_counted s s' (written_constant V) (declare_definition R A c) x = absurd x
    body_counted s s' (written_definition M b) (declare_family K) x = absurd x
    body_counted s s' (written_definition M b) (declare_constant A) x = absurd x
    body_counted s s' (written_definition_of M V b) (declare_family K) x = absurd x
    body_counted s s' (written_definition_of M V b) (declare_constant A) x = absurd x

pub counted : MetavariablesAreCounted
counted es frees D s s' = (
  (λ M R A x. infers_counted es frees x),
  (λ M A R x. checks_counted es frees x),
  (λ V A x. type_counted es frees x),
  (λ d A x. domain_counted es frees x),
  (λ V a S K x. family_counted es frees x),
  (λ k K x. kind_counted es frees x),
)

pub spots_all : SpotsAreAll
spots_all es ts frees s s' f w b x = (
  (let h = counted_then zero s.next s'.next (free_spots es (body_frees w) zero ts) (body_spots es w) (frees_counted es f (body_frees w) zero) (body_counted es frees s s' w b x) in omega (arith, h)),
  (λ i m e. let h = free_numbered es f (body_frees w) zero (body_spots es w) i m e in omega (arith, h)),
)
