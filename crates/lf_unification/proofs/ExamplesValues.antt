-- A value may mention a metavariable that is bound: after Y := z the equation X = s Y binds X to s Y, as it stands. With the bindings put in,
-- X is s z.
use Rattle.std.proofs.Common.{◌≡◌, ℕ, zero, suc, List, [], ◌∷◌, Option, Some, None, inl, inr, refl, ap, ◌∙◌, subst}
use Rattle.std.specs.Prelude.{Bool, true, false}
use Rattle.lf.proofs.Checker.{number_is}
use Rattle.lf.specs.Rules.{stop}
use Rattle.lf.specs.Syntax.{LfType, Term, app, atom, constant, metavariable, nil, root}
use Rattle.lf.specs.Typing.{Signature}
use Rattle.lf.specs.Variables.{same_number}
use Rattle.lf_unification.specs.OpenTyping.{MetavariablesInType}
use Rattle.lf_unification.specs.Outside.{CanBind, Holds}
use Rattle.lf_unification.specs.Putting.{PutsIn, PutsSome, put_at_bound, put_at_rigid, put_in_argument, put_nothing, put_nowhere, some_at_bound, some_nowhere}
use Rattle.lf_unification.specs.Steps.{Step, bind}
use Rattle.lf_unification.specs.Unifiers.{Binding, Equation, on_left}

module _ (nat z s : ℕ) where
  abbrev number : LfType
  number = atom nat nil

  abbrev z_term : Term
  z_term = root (constant z) nil

  abbrev s_y : Term
  s_y = root (constant s) (app (root (metavariable 1) nil) nil)

  -- X = 0 and Y = 1
  abbrev types : ℕ → Option LfType
  types zero = Some number
  types (suc zero) = Some number
  types (suc (suc n)) = None

  abbrev y_is_z : List Binding
  y_is_z = record { of = 1; value = z_term } ∷ []

  holds : (b : Bool) → Holds b → b ≡ true
  holds true h = refl
  holds false h = absurd h

  only_y : (k : ℕ) (A : LfType) → Holds (same_number 1 k) → types k ≡ Some A → MetavariablesInType (λ j. Holds (same_number 1 j)) A
  only_y k A h e =
      let q : 1 ≡ k = number_is 1 k (holds (same_number 1 k) h) in
      let r : Some number ≡ Some A = ap types q ∙ e in
      let t : number ≡ A = cc in
      subst (MetavariablesInType (λ j. Holds (same_number 1 j))) t tt

  -- Y is reached from s Y, and nothing else
  abbrev can_bind : CanBind types y_is_z [] 0 [] s_y
  can_bind = record {
    inverted = record { inversion = s_y; is = refl };
    reached = λ k. same_number 1 k;
    avoids = (only_y, ((λ h. tt), tt), λ h. h);
    within = ((tt, tt), tt);
  }

  pub x_is_bound : (Σ : Signature) (es : List Equation) →
      Step Σ (record { metavariables = types; bindings = y_is_z; equations = record { local = []; left = root (metavariable 0) nil; right = s_y; of_type = number } ∷ es })
      (record { metavariables = types; bindings = record { of = 0; value = s_y } ∷ y_is_z; equations = es })
  x_is_bound Σ es = bind on_left [] 0 [] s_y number refl ((λ e. cc), tt) (record { places = λ Γ. tt; distinct = λ i j e. e }) can_bind

  abbrev both : List Binding
  both = record { of = 0; value = s_y } ∷ y_is_z

  -- with all bindings put in X is s z
  pub x_put_in : PutsIn types both 0 (root (metavariable 0) nil) (root (constant s) (app z_term nil))
  x_put_in = put_at_bound (record { of = 0; value = s_y }) (inl refl) put_nowhere stop
      (put_at_rigid (constant s) tt (put_in_argument (put_at_bound (record { of = 1; value = z_term }) (inr (inl refl)) put_nowhere stop (put_at_rigid (constant z) tt put_nowhere)) put_nowhere))

  -- and as far as its head it is s Y
  pub x_as_far_as_head : PutsSome types both 0 (root (metavariable 0) nil) s_y
  x_as_far_as_head = some_at_bound (record { of = 0; value = s_y }) (inl refl) some_nowhere stop put_nothing
