-- Types are read with the bindings put in. Over n : type, v : n -> type, z : n and p : {a:n} v a -> n.
use Rattle.std.proofs.Common.{◌≡◌, ℕ, zero, suc, List, [], ◌∷◌, Option, Some, None, inl, inr, refl, ap, ◌∙◌, subst}
use Rattle.std.specs.Prelude.{Bool, true, false}
use Rattle.lf.proofs.Checker.{number_is}
use Rattle.lf.specs.Rules.{at_metavariable, at_constant, beta, none, stop}
use Rattle.lf.specs.Syntax.{LfType, Term, app, atom, base, constant, lambda, metavariable, nil, pi, root, variable}
use Rattle.lf.specs.Typing.{Signature}
use Rattle.lf.specs.Variables.{same_number}
use Rattle.lf_unification.specs.OpenTyping.{MetavariablesInType}
use Rattle.lf_unification.specs.Inversion.{IsPattern}
use Rattle.lf_unification.specs.Outside.{CanBind, Holds, Outside}
use Rattle.lf_unification.specs.Pruning.{PrunedType}
use Rattle.lf_unification.specs.Putting.{PutsInType, Unbound, put_at_bound, put_at_rigid, put_at_unbound, put_in_argument, put_in_atom, put_in_pi, put_nowhere}
use Rattle.lf_unification.specs.Reach.{IsReached, in_term, in_type}
use Rattle.lf_unification.specs.Renewing.{renewed_store}
use Rattle.lf_unification.specs.Scope.{IsScoped}
use Rattle.lf_unification.specs.Steps.{Step, bind, renew}
use Rattle.lf_unification.specs.Unifiers.{Binding, Equation, on_left}

module _ (n v z p : ℕ) where
  abbrev number : LfType
  number = atom n nil

  abbrev z_term : Term
  z_term = root (constant z) nil

  -- p M N
  abbrev pair : Term → Term → Term
  pair M N = root (constant p) (app M (app N nil))

  abbrev x : Term
  x = root (variable 0) nil

  no_argument : IsPattern [] (base n) []
  no_argument = record { places = λ Γ. tt; distinct = λ i j e. e }

  no_argument_under : IsPattern (number ∷ []) (base n) []
  no_argument_under = record { places = λ Γ. tt; distinct = λ i j e. (let q : suc i ≡ suc j = e in cc) }

  -- A dependent constructor under a binder: A = p (B x) (C x) with A : n, B : n -> n, C : {a:n} v (B a). A's side makes B lose its argument, so
  -- that B := [u] D. The type of C, as it was declared, needs its argument; with the bindings put in it is {a:n} v D, and doesn't.
  abbrev of_c : LfType
  of_c = pi number (atom v (app (root (metavariable 1) (app x nil)) nil))

  abbrev put_c : LfType
  put_c = pi number (atom v (app (root (metavariable 3) nil) nil))

  abbrev pair_types : ℕ → Option LfType
  pair_types zero = Some number
  pair_types (suc zero) = Some (pi number number)
  pair_types (suc (suc zero)) = Some of_c
  pair_types (suc (suc (suc zero))) = Some number
  pair_types (suc (suc (suc (suc k)))) = None

  abbrev b_pruned : List Binding
  b_pruned = record { of = 1; value = lambda (root (metavariable 3) nil) } ∷ []

  abbrev pair_equation : Equation
  pair_equation = record { local = number ∷ []; left = root (metavariable 0) nil; right = pair (root (metavariable 3) nil) (root (metavariable 2) (app x nil)); of_type = number }

  -- so the equation A = p D (C x) isn't outside: C can be renewed
  pub pair_not_outside : Outside pair_types b_pruned pair_equation → ⊥
  pair_not_outside o =
      let m : MetavariablesInType (Unbound b_pruned) of_c = (o.stuck_left 0 [] no_argument_under refl).renewed 2 of_c (in_term (inr (inl (inl refl)))) ((λ e. cc), tt) refl in
      m.1.0.0.0 refl

  pub puts_in_c : PutsInType pair_types b_pruned 0 of_c put_c
  puts_in_c = put_in_pi (put_in_atom put_nowhere) (put_in_atom (put_in_argument
      (put_at_bound (record { of = 1; value = lambda (root (metavariable 3) nil) }) (inl refl) (put_in_argument (put_at_rigid (variable 0) tt put_nowhere) put_nowhere) (beta (at_metavariable none) stop) (put_at_unbound ((λ e. cc), tt) put_nowhere))
      put_nowhere))

  pub c_is_renewed : (Σ : Signature) → IsScoped pair_types 4 b_pruned (pair_equation ∷ []) →
      Step Σ (record { metavariables = pair_types; bindings = b_pruned; equations = pair_equation ∷ [] }) (renewed_store (record { metavariables = pair_types; bindings = b_pruned; equations = pair_equation ∷ [] }) 2 of_c put_c 4)
  c_is_renewed Σ s = renew 2 of_c put_c refl ((λ e. cc), tt) (λ m. m.1.0.0.0 refl) puts_in_c 4 s

  -- The new metavariable 4 of that type can lose its argument.
  abbrev with_new : ℕ → Option LfType
  with_new (suc (suc (suc (suc zero)))) = Some put_c
  with_new zero = Some number
  with_new (suc zero) = Some (pi number number)
  with_new (suc (suc zero)) = Some of_c
  with_new (suc (suc (suc zero))) = Some number
  with_new (suc (suc (suc (suc (suc k))))) = None

  pub new_loses : PrunedType with_new 4 0
  new_loses = record {
    local = number ∷ [];
    family = v;
    indices = app (root (metavariable 3) nil) nil;
    declared = refl;
    kept_local = [];
    kept_indices = app (root (metavariable 3) nil) nil;
    kept = [];
    distinct = λ i j e. (let q : suc i ≡ suc j = e in cc);
    places = λ Γ. tt;
    part = record { outer = λ i. refl; types = λ i Y g. absurd g };
    same_target = refl;
    others_stay = others;
    is_lost = λ l. (let q : suc l.0 ≡ 0 = l.1 in cc);
  }
    where
      others : (i : ℕ) → (i ≡ 0 → ⊥) → (j : ℕ) × (suc j ≡ i)
      others zero h = absurd (h refl)
      others (suc i) h = (i, refl)

  -- A = p z C with A : n and C : v (B A), where B := [u] z. As declared, the type of C mentions A; with the bindings put in it is v z.
  abbrev of_d : LfType
  of_d = atom v (app (root (metavariable 1) (app (root (metavariable 0) nil) nil)) nil)

  abbrev put_d : LfType
  put_d = atom v (app z_term nil)

  abbrev circle_types : ℕ → Option LfType
  circle_types zero = Some number
  circle_types (suc zero) = Some (pi number number)
  circle_types (suc (suc zero)) = Some of_d
  circle_types (suc (suc (suc k))) = None

  abbrev b_is_z : List Binding
  b_is_z = record { of = 1; value = lambda z_term } ∷ []

  abbrev circle_equation : Equation
  circle_equation = record { local = []; left = root (metavariable 0) nil; right = pair z_term (root (metavariable 2) nil); of_type = number }

  -- as declared it is reached
  pub raw_is_circular : IsReached circle_types b_is_z circle_equation.right 0
  raw_is_circular = in_type (in_term {m = 2} (inr (inl (inl refl)))) refl (inl (inr (inl (inl refl))))

  -- but the equation isn't outside
  pub circle_not_outside : Outside circle_types b_is_z circle_equation → ⊥
  circle_not_outside o =
      let m : MetavariablesInType (Unbound b_is_z) of_d = (o.stuck_left 0 [] no_argument refl).renewed 2 of_d (in_term (inr (inl (inl refl)))) ((λ e. cc), tt) refl in
      m.0.0.0 refl

  pub puts_in_d : PutsInType circle_types b_is_z 0 of_d put_d
  puts_in_d = put_in_atom (put_in_argument
      (put_at_bound (record { of = 1; value = lambda z_term }) (inl refl) (put_in_argument (put_at_unbound ((λ e. cc), tt) put_nowhere) put_nowhere) (beta (at_constant none) stop) (put_at_rigid (constant z) tt put_nowhere))
      put_nowhere)

  -- With the new metavariable 3 : v z for C, A is bound.
  abbrev with_d : ℕ → Option LfType
  with_d zero = Some number
  with_d (suc zero) = Some (pi number number)
  with_d (suc (suc zero)) = Some of_d
  with_d (suc (suc (suc zero))) = Some put_d
  with_d (suc (suc (suc (suc k)))) = None

  abbrev c_renewed : List Binding
  c_renewed = record { of = 2; value = root (metavariable 3) nil } ∷ b_is_z

  abbrev through : Term
  through = pair z_term (root (metavariable 3) nil)

  holds : (b : Bool) → Holds b → b ≡ true
  holds true h = refl
  holds false h = absurd h

  only_new : (k : ℕ) (A : LfType) → Holds (same_number 3 k) → with_d k ≡ Some A → MetavariablesInType (λ j. Holds (same_number 3 j)) A
  only_new k A h e =
      let q : 3 ≡ k = number_is 3 k (holds (same_number 3 k) h) in
      let r : Some put_d ≡ Some A = ap with_d q ∙ e in
      let s : put_d ≡ A = cc in
      subst (MetavariablesInType (λ j. Holds (same_number 3 j))) s (tt, tt)

  abbrev can_bind : CanBind with_d c_renewed [] 0 [] through
  can_bind = record {
    inverted = record { inversion = through; is = refl };
    reached = λ k. same_number 3 k;
    avoids = (only_new, ((λ h. absurd h), ((λ h. absurd h), tt)), λ h. h);
    within = (tt, ((tt, tt), tt));
  }

  pub a_is_bound : (Σ : Signature) (es : List Equation) →
      Step Σ (record { metavariables = with_d; bindings = c_renewed; equations = record { local = []; left = root (metavariable 0) nil; right = through; of_type = number } ∷ es })
      (record { metavariables = with_d; bindings = record { of = 0; value = through } ∷ c_renewed; equations = es })
  a_is_bound Σ es = bind on_left [] 0 [] through number refl ((λ e. cc), ((λ e. cc), tt)) no_argument can_bind
