-- Elaboration only adds: metavariables under new numbers, and equations at the end.
use Rattle.std.proofs.Common.{◌≡◌, ℕ, suc, ◌<◌, ◌≤◌, List, [], Option, Some, None, ◌⊎◌, inl, inr, sym, ap, ◌∙◌, arith}
use Rattle.lf.specs.Entries.{Entry}
use Rattle.lf.specs.Syntax.{Kind, LfType, Skeleton, Spine, Term}
use Rattle.lf_elaboration.specs.Elaboration.{Checks, ElaboratesDomain, ElaboratesFamily, ElaboratesKind, ElaboratesType, Infers, KindTakesNew, NewFrees, NewType, TakesAllNew, TakesNew, takes_none, takes_next, kind_takes_none, kind_takes_next, takes_all, takes_first, new_atom, new_pi, no_frees, next_free, at_free, at_bound, at_constant, at_definition, at_hole, at_function, at_applied, at_ascribed, checks_hole, checks_function, checks_inferred, at_type_hole, at_arrow, at_quantified, at_family, at_type_ascribed, at_of_skeleton, at_of_type, at_family_name, at_family_applied, at_family_ascribed, at_star, at_kind_arrow, at_kind_quantified}
use Rattle.lf_elaboration.specs.Skeletons.{IsNumbered}
use Rattle.lf_elaboration.specs.State.{State, with_equations, with_metavariable}
use Rattle.lf_elaboration.specs.Written.{Written, WrittenDomain, WrittenKind, WrittenType}
use Rattle.lf_unification.specs.Offering.{pi_over}
use Rattle.lf_unification.specs.OpenTyping.{Declares, set_at}
use Rattle.lf_unification.specs.Unifiers.{Equation, SolvesAll}
use Rattle.lf_unification.proofs.Agree.{set_here}
use Rattle.lf_unification.proofs.EquationLemmas.{solves_first}
use Rattle.lf_unification.proofs.Offer.{decide, set_other}

-- what was there is still there
pub record Grows (s s' : State) : Type 0 where
  pub numbered : IsNumbered s'
  pub next : s.next ≤ s'.next
  pub keeps : (m : ℕ) (A : LfType) → s.metavariables m ≡ Some A → s'.metavariables m ≡ Some A
  pub solves : (μ : ℕ → Skeleton) (β : ℕ → Option Term) → SolvesAll μ β s'.equations → SolvesAll μ β s.equations

abbrev pub Adds : State → State → Type 0
Adds s s' = IsNumbered s → Grows s s'

pub adds_none : (s : State) → Adds s s
adds_none s n = record { numbered = n; next = omega arith; keeps = λ m A e. e; solves = λ μ β h. h }

pub adds_then : (s s' s'' : State) → Adds s s' → Adds s' s'' → Adds s s''
adds_then s s' s'' p q n =
    let g : Grows s s' = p n in
    let h : Grows s' s'' = q g.numbered in
    record {
      numbered = h.numbered;
      next = let x = g.next in let y = h.next in omega arith;
      keeps = λ m A e. h.keeps m A (g.keeps m A e);
      solves = λ μ β e. g.solves μ β (h.solves μ β e);
    }

pub adds_equations : (es : List Equation) (s : State) → Adds s (with_equations es s)
adds_equations es s n = record {
  numbered = record { fresh = n.fresh; full = n.full };
  next = omega arith;
  keeps = λ m A e. e;
  solves = λ μ β h. solves_first μ β s.equations es h;
}

pub adds_metavariable : (D : List LfType) (A : LfType) (s : State) → Adds s (with_metavariable D A s)
adds_metavariable D A s n = record {
  numbered = record { fresh = fresh; full = full };
  next = omega arith;
  keeps = λ m B e. set_other s.next (Some (pi_over D A)) s.metavariables m (not_new m B e) ∙ e;
  solves = λ μ β h. h;
}
  where
    not_new : (m : ℕ) (B : LfType) → s.metavariables m ≡ Some B → m ≡ s.next → ⊥
    not_new m B e q = (let p : Some B ≡ None = sym e ∙ n.fresh m (omega (arith, q)) in cc)

    fresh : (m : ℕ) → suc s.next ≤ m → set_at s.next (Some (pi_over D A)) s.metavariables m ≡ None
    fresh m h = set_other s.next (Some (pi_over D A)) s.metavariables m (λ e. omega arith) ∙ n.fresh m (omega arith)

    full : (m : ℕ) → m < suc s.next → Declares (set_at s.next (Some (pi_over D A)) s.metavariables) m
    full m h = go (decide m s.next)
      where
        go : (m ≡ s.next) ⊎ (m ≡ s.next → ⊥) → Declares (set_at s.next (Some (pi_over D A)) s.metavariables) m
        go (inl e) = (pi_over D A, ap (set_at s.next (Some (pi_over D A)) s.metavariables) e ∙ set_here s.next (Some (pi_over D A)) s.metavariables)
        go (inr d) = let (B, f) = n.full m (omega (arith, d)) in (B, set_other s.next (Some (pi_over D A)) s.metavariables m d ∙ f)

pub takes_adds : {k : ℕ} {D : List LfType} {A C : LfType} {s s' : State} {S : Spine} → TakesNew k D A s s' S C → Adds s s'
takes_adds (takes_none {s = s}) = adds_none s
takes_adds (takes_next {D = D} {A = A} {s = s} {s' = s'} t) = adds_then s (with_metavariable D A s) s' (adds_metavariable D A s) (takes_adds t)

pub kind_takes_adds : {k : ℕ} {D : List LfType} {K L : Kind} {s s' : State} {S : Spine} → KindTakesNew k D K s s' S L → Adds s s'
kind_takes_adds (kind_takes_none {s = s}) = adds_none s
kind_takes_adds (kind_takes_next {D = D} {A = A} {s = s} {s' = s'} t) = adds_then s (with_metavariable D A s) s' (adds_metavariable D A s) (kind_takes_adds t)

pub takes_all_adds : {D : List LfType} {K : Kind} {s s' : State} {S : Spine} → TakesAllNew D K s s' S → Adds s s'
takes_all_adds (takes_all {s = s}) = adds_none s
takes_all_adds (takes_first {D = D} {A = A} {s = s} {s' = s'} t) = adds_then s (with_metavariable D A s) s' (adds_metavariable D A s) (takes_all_adds t)

module _ (es : List Entry) where
  pub new_type_adds : {D : List LfType} {t : Skeleton} {s s' : State} {A : LfType} → NewType es D t s s' A → Adds s s'
  new_type_adds (new_atom e t) = takes_all_adds t
  new_type_adds (new_pi {s = s} {s' = s'} {s'' = s''} a b) = adds_then s s' s'' (new_type_adds a) (new_type_adds b)

  pub frees_add : {ts : List Skeleton} {s s' : State} {ms : List ℕ} → NewFrees es ts s s' ms → Adds s s'
  frees_add (no_frees {s = s}) = adds_none s
  frees_add (next_free {s = s} {s' = s'} {s'' = s''} {A = A} a f) = adds_then s s' s'' (new_type_adds a) (adds_then s' (with_metavariable [] A s') s'' (adds_metavariable [] A s') (frees_add f))

  module _ (frees : List ℕ) where
    mutual
      pub infers_adds : {D : List LfType} {M : Written} {s s' : State} {R : Term} {A : LfType} → Infers es frees D M s s' R A → Adds s s'
      infers_adds (at_free {s = s} f e) = adds_none s
      infers_adds (at_bound {s = s} g) = adds_none s
      infers_adds (at_constant e b t) = takes_adds t
      infers_adds (at_definition e b t) = takes_adds t
      infers_adds (at_hole {D = D} {A = A} {s = s} {s' = s'} t) = adds_then s s' (with_metavariable D A s') (new_type_adds t) (adds_metavariable D A s')
      infers_adds (at_function {s = s} {s' = s'} {s'' = s''} d i) = adds_then s s' s'' (domain_adds d) (infers_adds i)
      infers_adds (at_applied {s = s} {s' = s'} {s'' = s''} i c) = adds_then s s' s'' (infers_adds i) (checks_adds c)
      infers_adds (at_ascribed {s = s} {s' = s'} {s'' = s''} t c) = adds_then s s' s'' (type_adds t) (checks_adds c)

      pub checks_adds : {D : List LfType} {M : Written} {A : LfType} {s s' : State} {R : Term} → Checks es frees D M A s s' R → Adds s s'
      checks_adds (checks_hole {D = D} {A = A} {s = s} e) = adds_metavariable D A s
      checks_adds (checks_function {s = s} {s' = s'} {s'' = s''} t e c) = adds_then s s' s'' (domain_adds t) (adds_then s' (with_equations _ s') s'' (adds_equations _ s') (checks_adds c))
      checks_adds (checks_inferred {s = s} {s' = s'} n i e) = adds_then s s' (with_equations _ s') (infers_adds i) (adds_equations _ s')

      pub type_adds : {D : List LfType} {V : WrittenType} {s s' : State} {A : LfType} → ElaboratesType es frees D V s s' A → Adds s s'
      type_adds (at_type_hole t) = new_type_adds t
      type_adds (at_arrow {s = s} {s' = s'} {s'' = s''} a b) = adds_then s s' s'' (type_adds a) (type_adds b)
      type_adds (at_quantified {s = s} {s' = s'} {s'' = s''} d b) = adds_then s s' s'' (domain_adds d) (type_adds b)
      type_adds (at_family f) = family_adds f
      type_adds (at_type_ascribed t) = type_adds t

      pub domain_adds : {D : List LfType} {d : WrittenDomain} {s s' : State} {A : LfType} → ElaboratesDomain es frees D d s s' A → Adds s s'
      domain_adds (at_of_skeleton t) = new_type_adds t
      domain_adds (at_of_type t) = type_adds t

      pub family_adds : {D : List LfType} {V : WrittenType} {s s' : State} {a : ℕ} {S : Spine} {K : Kind} → ElaboratesFamily es frees D V s s' a S K → Adds s s'
      family_adds (at_family_name e b t) = kind_takes_adds t
      family_adds (at_family_applied {s = s} {s' = s'} {s'' = s''} f c) = adds_then s s' s'' (family_adds f) (checks_adds c)
      family_adds (at_family_ascribed {s = s} {s' = s'} {s'' = s''} k f e) = adds_then s s' (with_equations _ s'') (kind_adds k) (adds_then s' s'' (with_equations _ s'') (family_adds f) (adds_equations _ s''))

      pub kind_adds : {D : List LfType} {k : WrittenKind} {s s' : State} {K : Kind} → ElaboratesKind es frees D k s s' K → Adds s s'
      kind_adds (at_star {s = s}) = adds_none s
      kind_adds (at_kind_arrow {s = s} {s' = s'} {s'' = s''} t k) = adds_then s s' s'' (type_adds t) (kind_adds k)
      kind_adds (at_kind_quantified {s = s} {s' = s'} {s'' = s''} d k) = adds_then s s' s'' (domain_adds d) (kind_adds k)
