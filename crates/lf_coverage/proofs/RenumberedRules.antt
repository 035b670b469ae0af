-- Hereditary substitution by rules, and bindings put in, go along with new numbers for metavariables.
use Rattle.std.proofs.Common.{◌≡◌, ℕ, zero, suc, List, [], ◌∷◌, refl, sym, ap, ◌∙◌, subst}
use Rattle.std.specs.Prelude.{Option}
use Rattle.lf.specs.Rules.{Substitutes, SubstitutesSpine, Reduces, inside_lambda, at_constant, at_metavariable, at_keep, at_put, none, more, stop, beta}
use Rattle.lf.specs.Subordination.{Member}
use Rattle.lf.specs.Substitution.{Image}
use Rattle.lf.specs.Syntax.{Head, constant, variable, metavariable, Term, Spine, nil, app, LfType, pi, atom, Skeleton, skeleton, rename}
use Rattle.lf.specs.Typing.{instantiate_type}
use Rattle.lf_unification.specs.Inversion.{IsUnderBinders}
use Rattle.lf_unification.specs.Lists.{followed}
use Rattle.lf_unification.specs.Offering.{argument_equations, pi_over}
use Rattle.lf_unification.specs.OpenTyping.{skeletons_of}
use Rattle.lf_unification.specs.Patterns.{beyond}
use Rattle.lf_unification.specs.Putting.{IsRigidHead, PutsIn, PutsInSpine, PutsInType, PutsSome, PutsSomeSpine, Unbound, binders, put_at_bound, put_at_rigid, put_at_unbound, put_in_argument, put_in_atom, put_in_pi, put_nothing, put_nowhere, put_under_lambda, some_at_bound, some_in_argument, some_in_arguments, some_nowhere, some_under_lambda}
use Rattle.lf_unification.specs.Rigid.{Rigid, RigidInSpine, first, here, in_constant, in_lambda, in_variable, later, past_binders}
use Rattle.lf_unification.specs.Unifiers.{Binding, Equation}
use Rattle.lf_coverage.specs.Renumbering.{Renumbering, renumbered_head, renumbered, renumbered_spine, renumbered_type, renumbered_locals, renumbered_equation, renumbered_equations, renumbered_binding, renumbered_bindings, renumbered_types}
use Rattle.lf_coverage.proofs.RenumberedBack.{skeleton_at}
use Rattle.lf_coverage.proofs.RenumberedStores.{injective, member_of}
use Rattle.lf_coverage.proofs.RenumberedSyntax.{image_lifted, image_single, instantiated, renamed, renumbered_image, skeleton_renumbered}
use mathlib.Core.Path.{fun_ext}

-- hereditary substitution by rules
module _ (f : ℕ → ℕ) where
  mutual
    pub substitutes : {σ : ℕ → Image} {M M' : Term} → Substitutes σ M M' → Substitutes (λ i. renumbered_image f (σ i)) (renumbered f M) (renumbered f M')
    substitutes (inside_lambda {σ = σ} {M = M} {M' = M'} d) = inside_lambda (subst (λ τ. Substitutes τ (renumbered f M) (renumbered f M')) (fun_ext (image_lifted f σ)) (substitutes d))
    substitutes (at_constant d) = at_constant (substitutes_spine d)
    substitutes (at_metavariable d) = at_metavariable (substitutes_spine d)
    substitutes (at_keep e d) = at_keep (ap (renumbered_image f) e) (substitutes_spine d)
    substitutes (at_put e d r) = at_put (ap (renumbered_image f) e) (substitutes_spine d) (reduces r)

    pub substitutes_spine : {σ : ℕ → Image} {S S' : Spine} → SubstitutesSpine σ S S' → SubstitutesSpine (λ i. renumbered_image f (σ i)) (renumbered_spine f S) (renumbered_spine f S')
    substitutes_spine none = none
    substitutes_spine (more d e) = more (substitutes d) (substitutes_spine e)

    pub reduces : {a : Skeleton} {N R : Term} {S : Spine} → Reduces a N S R → Reduces a (renumbered f N) (renumbered_spine f S) (renumbered f R)
    reduces stop = stop
    reduces (beta {a = a} {M = M} {M' = M'} {N = N} d r) = beta (subst (λ τ. Substitutes τ (renumbered f M) (renumbered f M')) (fun_ext (image_single f a N)) (substitutes d)) (reduces r)

  pub rigid_head : (h : Head) → IsRigidHead h → IsRigidHead (renumbered_head f h)
  rigid_head (constant c) r = r
  rigid_head (variable i) r = r
  rigid_head (metavariable m) r = r

  mutual
    pub rigid : {N : Term} {k : ℕ} {M : Term} → Rigid N k M → Rigid (renumbered f N) k (renumbered f M)
    rigid here = here
    rigid (in_lambda r) = in_lambda (rigid r)
    rigid (in_constant r) = in_constant (rigid_spine r)
    rigid (in_variable r) = in_variable (rigid_spine r)

    rigid_spine : {N : Term} {k : ℕ} {S : Spine} → RigidInSpine N k S → RigidInSpine (renumbered f N) k (renumbered_spine f S)
    rigid_spine (first r) = first (rigid r)
    rigid_spine (later r) = later (rigid_spine r)

  pub binders_same : (D : List LfType) → binders (renumbered_locals f D) ≡ binders D
  binders_same [] = refl
  binders_same (A ∷ D) = ap suc (binders_same D)

  pub beyond_at : (D : List LfType) (i : ℕ) → beyond (renumbered_locals f D) i ≡ beyond D i
  beyond_at [] i = refl
  beyond_at (A ∷ D) i = ap suc (beyond_at D i)

  pub beyond_same : (D : List LfType) → beyond (renumbered_locals f D) ≡ beyond D
  beyond_same D = fun_ext (beyond_at D)

  pub followed_same : (es fs : List Equation) → renumbered_equations f (followed es fs) ≡ followed (renumbered_equations f es) (renumbered_equations f fs)
  followed_same [] fs = refl
  followed_same (e ∷ es) fs = ap (λ gs. renumbered_equation f e ∷ gs) (followed_same es fs)

  pub arguments_same : (D : List LfType) (A : LfType) (S T : Spine) → renumbered_equations f (argument_equations D A S T) ≡ argument_equations (renumbered_locals f D) (renumbered_type f A) (renumbered_spine f S) (renumbered_spine f T)
  arguments_same D (atom a U) S T = refl
  arguments_same D (pi A B) nil T = refl
  arguments_same D (pi A B) (app M S) nil = refl
  arguments_same D (pi A B) (app M S) (app N T) = ap (λ gs. renumbered_equation f (record { local = D; left = M; right = N; of_type = A }) ∷ gs) (arguments_same D (instantiate_type A M B) S T ∙ ap (λ X. argument_equations (renumbered_locals f D) X (renumbered_spine f S) (renumbered_spine f T)) (instantiated f A M B))

  pub pis_over : (D : List LfType) (P : LfType) → renumbered_type f (pi_over D P) ≡ pi_over (renumbered_locals f D) (renumbered_type f P)
  pis_over [] P = refl
  pis_over (A ∷ D) P = pis_over D (pi A P)

  pub pis_skeleton : (D : List LfType) (a : ℕ) (S : Spine) → skeleton (pi_over (renumbered_locals f D) (atom a (renumbered_spine f S))) ≡ skeleton (pi_over D (atom a S))
  pis_skeleton D a S = ap skeleton (sym (pis_over D (atom a S))) ∙ skeleton_renumbered f (pi_over D (atom a S))

  pub under_binders : (D : List LfType) (k : ℕ) (E : List LfType) → IsUnderBinders D k E → IsUnderBinders (renumbered_locals f D) k (renumbered_locals f E)
  under_binders D zero E e = ap (renumbered_locals f) e
  under_binders D (suc k) [] e = e
  under_binders D (suc k) (A ∷ E) e = under_binders D k E e

module _ (π : Renumbering) where
  pub unbound : (bs : List Binding) (m : ℕ) → Unbound bs m → Unbound (renumbered_bindings π.to bs) (π.to m)
  unbound [] m u = u
  unbound (b ∷ bs) m (n, u) = ((λ e. n (injective π m b.of e)), unbound bs m u)

  pub unbound_back : (bs : List Binding) (m : ℕ) → Unbound (renumbered_bindings π.to bs) (π.to m) → Unbound bs m
  unbound_back [] m u = u
  unbound_back (b ∷ bs) m (n, u) = ((λ e. n (ap π.to e)), unbound_back bs m u)

  pub binding_in : (b : Binding) (bs : List Binding) → Member b bs → Member (renumbered_binding π.to b) (renumbered_bindings π.to bs)
  binding_in b bs m = member_of (renumbered_binding π.to) (renumbered_bindings π.to) (λ x xs. refl) b bs m

  -- of the metavariables Ψ, with bindings
  module _ (Ψ : ℕ → Option LfType) (bs : List Binding) where
    abbrev Φ : ℕ → Option LfType
    Φ = renumbered_types π Ψ

    abbrev cs : List Binding
    cs = renumbered_bindings π.to bs

    pub value_reduces : (k : ℕ) (b : Binding) (S : Spine) (R : Term) → Reduces (skeletons_of Ψ b.of) (rename (past_binders k) b.value) S R → Reduces (skeletons_of Φ (π.to b.of)) (rename (past_binders k) (renumbered π.to b.value)) (renumbered_spine π.to S) (renumbered π.to R)
    value_reduces k b S R r = subst (λ N. Reduces (skeletons_of Φ (π.to b.of)) N (renumbered_spine π.to S) (renumbered π.to R)) (renamed π.to (past_binders k) b.value) (subst (λ a. Reduces a (renumbered π.to (rename (past_binders k) b.value)) (renumbered_spine π.to S) (renumbered π.to R)) (sym (skeleton_at π Ψ b.of)) (reduces π.to r))

    mutual
      pub puts_in : {k : ℕ} {M M' : Term} → PutsIn Ψ bs k M M' → PutsIn Φ cs k (renumbered π.to M) (renumbered π.to M')
      puts_in (put_under_lambda d) = put_under_lambda (puts_in d)
      puts_in (put_at_rigid h r d) = put_at_rigid (renumbered_head π.to h) (rigid_head π.to h r) (puts_in_spine d)
      puts_in (put_at_unbound {m = m} u d) = put_at_unbound (unbound bs m u) (puts_in_spine d)
      puts_in (put_at_bound {k = k} {S' = S'} {R = R} b i d r e) = put_at_bound (renumbered_binding π.to b) (binding_in b bs i) (puts_in_spine d) (value_reduces k b S' R r) (puts_in e)

      pub puts_in_spine : {k : ℕ} {S S' : Spine} → PutsInSpine Ψ bs k S S' → PutsInSpine Φ cs k (renumbered_spine π.to S) (renumbered_spine π.to S')
      puts_in_spine put_nowhere = put_nowhere
      puts_in_spine (put_in_argument d e) = put_in_argument (puts_in d) (puts_in_spine e)

    pub puts_in_type : {k : ℕ} {A A' : LfType} → PutsInType Ψ bs k A A' → PutsInType Φ cs k (renumbered_type π.to A) (renumbered_type π.to A')
    puts_in_type (put_in_atom d) = put_in_atom (puts_in_spine d)
    puts_in_type (put_in_pi d e) = put_in_pi (puts_in_type d) (puts_in_type e)

    mutual
      pub puts_some : {k : ℕ} {M M' : Term} → PutsSome Ψ bs k M M' → PutsSome Φ cs k (renumbered π.to M) (renumbered π.to M')
      puts_some put_nothing = put_nothing
      puts_some (some_under_lambda d) = some_under_lambda (puts_some d)
      puts_some (some_in_arguments h d) = some_in_arguments (renumbered_head π.to h) (puts_some_spine d)
      puts_some (some_at_bound {k = k} {S' = S'} {R = R} b i d r e) = some_at_bound (renumbered_binding π.to b) (binding_in b bs i) (puts_some_spine d) (value_reduces k b S' R r) (puts_some e)

      puts_some_spine : {k : ℕ} {S S' : Spine} → PutsSomeSpine Ψ bs k S S' → PutsSomeSpine Φ cs k (renumbered_spine π.to S) (renumbered_spine π.to S')
      puts_some_spine some_nowhere = some_nowhere
      puts_some_spine (some_in_argument d e) = some_in_argument (puts_some d) (puts_some_spine e)
