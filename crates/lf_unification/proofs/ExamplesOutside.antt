-- Equations that are outside the pattern fragment, and one that is refuted.
use Rattle.std.proofs.Common.{◌≡◌, ℕ, zero, suc, List, [], ◌∷◌, Option, Some, None, inl, inr, refl, sym, ◌∙◌, subst}
use Rattle.lf.specs.Syntax.{Spine, Term, LfType, app, arrow, atom, base, constant, lambda, metavariable, nil, pi, root, variable}
use Rattle.lf_unification.specs.OpenTyping.{Declares, skeletons_of}
use Rattle.lf_unification.specs.Outside.{NoStep, Outside}
use Rattle.lf_unification.specs.Patterns.{pattern}
use Rattle.lf_unification.specs.Reach.{IsInside, in_term, in_type, inside_value, is_given}
use Rattle.lf_unification.specs.Rigid.{Rigid, RigidInSpine, first, here, in_constant, in_lambda, in_variable, later}
use Rattle.lf_unification.specs.Steps.{IsRefuted, occurs_inside, store_at}
use Rattle.lf_unification.specs.Putting.{Unbound}
use Rattle.lf_unification.specs.Unifiers.{Equation, on_left}
use Rattle.lf_unification.proofs.Scope.{in_all_type}

-- what stands rigid in a root with a metavariable as its head is this root
pub at_flexible : (N : Term) (k m : ℕ) (S : Spine) (M : Term) → Rigid N k M → M ≡ root (metavariable m) S → N ≡ root (metavariable m) S
at_flexible N k m S M here e = e
at_flexible N k m S (lambda M) (in_lambda o) e = (let p : lambda M ≡ root (metavariable m) S = e in cc)
at_flexible N k m S (root (constant c) T) (in_constant o) e = (let p : root (constant c) T ≡ root (metavariable m) S = e in cc)
at_flexible N k m S (root (variable i) T) (in_variable o) e = (let p : root (variable i) T ≡ root (metavariable m) S = e in cc)

-- and in a constant on one argument it is the whole, or stands rigid in the argument
data InOne (N : Term) (k c : ℕ) (P : Term) : Type 0 where
  is_whole : N ≡ root (constant c) (app P nil) → InOne N k c P
  is_inside : Rigid N k P → InOne N k c P

in_argument : (N : Term) (k : ℕ) (P : Term) (S : Spine) → RigidInSpine N k S → S ≡ app P nil → Rigid N k P
in_argument N k P (app M T) (first o) e = let p : M ≡ P = cc in subst (Rigid N k) p o
in_argument N k P (app M (app X T)) (later o) e = (let p : app M (app X T) ≡ app P nil = e in cc)
in_argument N k P (app M nil) (later o) e = elim o [ ]
in_argument N k P nil o e = elim o [ ]

at_constant : (N : Term) (k c : ℕ) (P M : Term) → Rigid N k M → M ≡ root (constant c) (app P nil) → InOne N k c P
at_constant N k c P M here e = is_whole e
at_constant N k c P (lambda M) (in_lambda o) e = (let p : lambda M ≡ root (constant c) (app P nil) = e in cc)
at_constant N k c P (root (constant d) T) (in_constant o) e = let p : T ≡ app P nil = cc in is_inside (in_argument N k P T o p)
at_constant N k c P (root (variable i) T) (in_variable o) e = (let p : root (variable i) T ≡ root (constant c) (app P nil) = e in cc)

-- Circular types: t : nat, k : vec t -> nat, w : vec t, with the equation t = k w. The variable t is not in k w, but stands in the type of w.
module _ (nat vec : ℕ) where
  abbrev t : Term
  t = root (metavariable 0) nil

  abbrev w : Term
  w = root (metavariable 2) nil

  abbrev k_w : Term
  k_w = root (metavariable 1) (app w nil)

  abbrev circular_types : ℕ → Option LfType
  circular_types zero = Some (atom nat nil)
  circular_types (suc zero) = Some (pi (atom vec (app t nil)) (atom nat nil))
  circular_types (suc (suc zero)) = Some (atom vec (app t nil))
  circular_types (suc (suc (suc n))) = None

  -- k w is no metavariable on a pattern
  no_pattern : (m : ℕ) (xs : List ℕ) → root (metavariable m) (pattern (skeletons_of circular_types m) xs) ≡ k_w → ⊥
  no_pattern m xs e = go m xs (let p : m ≡ 1 = cc in p) (let p : pattern (skeletons_of circular_types m) xs ≡ app w nil = cc in p)
    where
      at_one : (xs : List ℕ) → pattern (arrow (base vec) (base nat)) xs ≡ app (root (metavariable 2) nil) nil → ⊥
      at_one [] q = cc
      at_one (x ∷ xs) q = cc

      go : (m : ℕ) (xs : List ℕ) → m ≡ 1 → pattern (skeletons_of (circular_types) m) xs ≡ app w nil → ⊥
      go m xs p q = at_one xs (subst (λ j. pattern (skeletons_of circular_types j) xs ≡ app w nil) p q)

  pub circular_outside : Outside circular_types [] (record { local = []; left = t; right = k_w; of_type = atom nat nil })
  circular_outside = record {
    differ = λ e. (let p : t ≡ k_w = e in cc);
    left_root = λ h. h;
    right_root = λ h. h;
    flexible = inl tt;
    stuck_left = λ m xs p e. (let z : m ≡ 0 = cc in stuck m xs z);
    stuck_right = λ m xs p e. absurd (no_pattern m xs (sym e));
  }
    where
      stuck : (m : ℕ) (xs : List ℕ) → m ≡ 0 → NoStep circular_types [] [] m xs k_w
      stuck m xs z = record {
        circular = λ i. in_type (in_term {m = 2} (inr (inl (inl refl)))) refl (inl (inl z));
        invertible = λ n. (let q : root (variable n.bad) n.spine ≡ k_w = at_flexible (root (variable n.bad) n.spine) n.depth 1 (app w nil) k_w n.at refl in cc);
        not_inside = λ o. no_pattern m o.ys (at_flexible (root (metavariable m) (pattern (skeletons_of circular_types m) o.ys)) o.depth 1 (app w nil) k_w o.at refl);
        no_drop = λ d. no_pattern d.drop.m d.drop.ys (at_flexible (root (metavariable d.drop.m) (pattern (skeletons_of circular_types d.drop.m) d.drop.ys)) d.drop.depth 1 (app w nil) k_w d.drop.at refl);
        no_agreement = λ a. no_pattern m a.same.ys (sym a.same.is);
        renewed = λ k A r u e. in_all_type (Unbound []) (λ j. tt) A;
      }

-- M x = s (N (M x)): M occurs in the other side, but only in an argument of N. There is a typed unifier, as M = [x] s z, N = [y] z,
-- so the equation is not refuted; it is outside.
module _ (nat z s : ℕ) where
  abbrev x : Term
  x = root (variable 0) nil

  abbrev m_x : Term
  m_x = root (metavariable 0) (app x nil)

  abbrev n_m_x : Term
  n_m_x = root (metavariable 1) (app m_x nil)

  abbrev s_n_m_x : Term
  s_n_m_x = root (constant s) (app n_m_x nil)

  abbrev occurs_types : ℕ → Option LfType
  occurs_types zero = Some (pi (atom nat nil) (atom nat nil))
  occurs_types (suc zero) = Some (pi (atom nat nil) (atom nat nil))
  occurs_types (suc (suc n)) = None

  abbrev occurs_equation : Equation
  occurs_equation = record { local = atom nat nil ∷ []; left = m_x; right = s_n_m_x; of_type = atom nat nil }

  -- N (M x) is no metavariable on a pattern
  no_pattern_inside : (m : ℕ) (xs : List ℕ) → root (metavariable m) (pattern (skeletons_of occurs_types m) xs) ≡ n_m_x → ⊥
  no_pattern_inside m xs e = go m xs (let p : m ≡ 1 = cc in p) (let p : pattern (skeletons_of occurs_types m) xs ≡ app m_x nil = cc in p)
    where
      at_one : (xs : List ℕ) → pattern (arrow (base nat) (base nat)) xs ≡ app (root (metavariable 0) (app (root (variable 0) nil) nil)) nil → ⊥
      at_one [] q = cc
      at_one (x ∷ xs) q = cc

      go : (m : ℕ) (xs : List ℕ) → m ≡ 1 → pattern (skeletons_of occurs_types m) xs ≡ app m_x nil → ⊥
      go m xs p q = at_one xs (subst (λ j. pattern (skeletons_of occurs_types j) xs ≡ app m_x nil) p q)

  -- no metavariable on a pattern stands rigid in the right side, nor does a variable
  no_part : (m : ℕ) (xs : List ℕ) (k : ℕ) → Rigid (root (metavariable m) (pattern (skeletons_of occurs_types m) xs)) k s_n_m_x → ⊥
  no_part m xs k o = go (at_constant (root (metavariable m) (pattern (skeletons_of occurs_types m) xs)) k s n_m_x s_n_m_x o refl)
    where
      go : InOne (root (metavariable m) (pattern (skeletons_of occurs_types m) xs)) k s n_m_x → ⊥
      go (is_whole e) = cc
      go (is_inside r) = no_pattern_inside m xs (at_flexible (root (metavariable m) (pattern (skeletons_of occurs_types m) xs)) k 1 (app m_x nil) n_m_x r refl)

  no_variable : (i : ℕ) (S : Spine) (k : ℕ) → Rigid (root (variable i) S) k s_n_m_x → ⊥
  no_variable i S k o = go (at_constant (root (variable i) S) k s n_m_x s_n_m_x o refl)
    where
      go : InOne (root (variable i) S) k s n_m_x → ⊥
      go (is_whole e) = cc
      go (is_inside r) = (let p : root (variable i) S ≡ n_m_x = at_flexible (root (variable i) S) k 1 (app m_x nil) n_m_x r refl in cc)

  pub occurs_outside : Outside occurs_types [] occurs_equation
  occurs_outside = record {
    differ = λ e. (let p : m_x ≡ s_n_m_x = e in cc);
    left_root = λ h. h;
    right_root = λ h. h;
    flexible = inl tt;
    stuck_left = λ m xs p e. (let z : m ≡ 0 = cc in record {
      circular = λ i. in_term (inl (inr (inl (inl z))));
      invertible = λ n. no_variable n.bad n.spine n.depth n.at;
      not_inside = λ o. no_part m o.ys o.depth o.at;
      no_drop = λ d. no_part d.drop.m d.drop.ys d.drop.depth d.drop.at;
      no_agreement = λ a. (let q : s_n_m_x ≡ root (metavariable m) (pattern (skeletons_of occurs_types m) a.same.ys) = a.same.is in cc);
      renewed = λ k A r u e. in_all_type (Unbound []) (λ j. tt) A;
    });
    stuck_right = λ m xs p e. absurd (let q : s_n_m_x ≡ root (metavariable m) (pattern (skeletons_of occurs_types m) xs) = e in cc);
  }

-- M = s M: here M itself stands rigid inside, so there is no typed unifier.
module _ (nat s : ℕ) where
  abbrev number : ℕ → Option LfType
  number zero = Some (atom nat nil)
  number (suc n) = None

  abbrev s_m : Term
  s_m = root (constant s) (app (root (metavariable 0) nil) nil)

  pub occurs_refuted : IsRefuted (store_at on_left number [] [] [] (root (metavariable 0) nil) s_m (atom nat nil))
  occurs_refuted = occurs_inside {A = atom nat nil} on_left [] 0 [] s_m (atom nat nil) refl (record { places = λ Γ. tt; distinct = λ i j e. e }) (λ l. l) (record {
    depth = 0;
    context = [];
    context_is = refl;
    ys = [];
    is_pattern = record { places = λ Γ. tt; distinct = λ i j e. e };
    at = in_constant (first here);
    inside = λ e. (let p : s_m ≡ root (metavariable 0) nil = e in cc);
  })

-- A metavariable that is not given, and stands in no value, is none of an equation left.
pub own_making : (given : ℕ → Option LfType) (h : ℕ) → given h ≡ None → IsInside (Declares given) [] h → ⊥
own_making given h n (is_given (A, e)) = (let p : Some A ≡ None = sym e ∙ n in cc)
own_making given h n (inside_value b i m o) = absurd m
