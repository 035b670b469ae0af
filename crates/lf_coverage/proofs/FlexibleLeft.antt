-- The equation F c = k of a free function F and two constants, as F z = z, is left outside the pattern fragment: c is no variable, so F c is no pattern.
use Rattle.std.proofs.Common.{◌≡◌, ℕ, zero, suc, List, [], ◌∷◌, inl, refl}
use Rattle.std.specs.Prelude.{Option}
use Rattle.lf.specs.Syntax.{Spine, Term, LfType, app, arrow, atom, base, constant, metavariable, variable, nil, pi, root}
use Rattle.lf_unification.specs.OpenTyping.{skeletons_of}
use Rattle.lf_unification.specs.Patterns.{pattern}
use Rattle.lf_unification.specs.Putting.{put_at_rigid, put_at_unbound, put_in_argument, put_nowhere}
use Rattle.lf_unification.specs.Reach.{is_given}
use Rattle.lf_unification.specs.Solving.{LeftOver}
use Rattle.lf_unification.specs.Unifiers.{Equation, Store}
use Rattle.lf_coverage.specs.SplitStore.{context_metavariables}

first : {X Y : Term} {A B : Spine} → app X A ≡ app Y B → X ≡ Y
first e = cc

constant_is_no_variable : {c x : ℕ} {S : Spine} → root (constant c) nil ≡ root (variable x) S → ⊥
constant_is_no_variable e = cc

pub one_is_zero : suc zero ≡ zero → ⊥
one_is_zero e = cc

pub some_left : {e : Equation} → e ∷ [] ≡ [] → ⊥
some_left e = cc

-- F : {x:a} b is the metavariable 1, and the metavariable 0, of the type X, is bound to V.
module _ (X : LfType) (a b : ℕ) (V : Term) (c k : ℕ) (T : LfType) where
  abbrev types : ℕ → Option LfType
  types = context_metavariables (X ∷ pi (atom a nil) (atom b nil) ∷ [])

  abbrev flexible : Term
  flexible = root (metavariable 1) (app (root (constant c) nil) nil)

  abbrev equation : Equation
  equation = record { local = []; left = flexible; right = root (constant k) nil; of_type = T }

  abbrev pub store_left : Store
  store_left = record { metavariables = types; bindings = record { of = 0; value = V } ∷ []; equations = equation ∷ [] }

  constant_fails : (xs : List ℕ) → app (root (constant c) nil) nil ≡ pattern (arrow (base a) (base b)) xs → ⊥
  constant_fails [] e = cc
  constant_fails (x ∷ xs) e = constant_is_no_variable (first e)

  pub no_pattern : (m : ℕ) (xs : List ℕ) → flexible ≡ root (metavariable m) (pattern (skeletons_of types m) xs) → ⊥
  no_pattern m xs e = by m (let p : 1 ≡ m = cc in p) (let q : app (root (constant c) nil) nil ≡ pattern (skeletons_of types m) xs = cc in q)
    where
      by : (m : ℕ) → 1 ≡ m → app (root (constant c) nil) nil ≡ pattern (skeletons_of types m) xs → ⊥
      by zero p q = absurd cc
      by (suc zero) p q = constant_fails xs q
      by (suc (suc m)) p q = absurd cc

  pub constant_is_none : (m : ℕ) (S : Spine) → root (constant k) nil ≡ root (metavariable m) S → ⊥
  constant_is_none m S e = cc

  pub sides_differ : flexible ≡ root (constant k) nil → ⊥
  sides_differ e = cc

  unfoldable pub flexible_is_left : LeftOver types store_left equation
  flexible_is_left = record {
    shown = equation;
    same_local = refl;
    put_left = put_at_unbound (one_is_zero, tt) (put_in_argument (put_at_rigid (constant c) tt put_nowhere) put_nowhere);
    put_right = put_at_rigid (constant k) tt put_nowhere;
    inside_left = (is_given (pi (atom a nil) (atom b nil), refl), (tt, tt));
    inside_right = tt;
    outside = record {
      differ = sides_differ;
      left_root = λ h. h;
      right_root = λ h. h;
      flexible = inl tt;
      stuck_left = λ m xs p e. absurd (no_pattern m xs e);
      stuck_right = λ m xs p e. absurd (constant_is_none m _ e);
    };
  }
