-- The eta-long forms of metavariables are recognized, and only they.
use Rattle.std.proofs.Common.{◌≡◌, ℕ, zero, suc, ◌+◌, ◌-◌, ◌<◌, ◌≤◌, Option, Some, None, Result, Ok, Err, IfOk, refl, sym, ap, ap₂, ◌∙◌, arith}
use Rattle.std.specs.Option.{option_map}
use Rattle.std.specs.Prelude.{Bool, true, false, MatchOption, ◌&&◌, nat_le, nat_lt, if◌then◌else◌}
use Rattle.std.proofs.lemmas.Bool.{eqb-true, ltb-true}
use Rattle.lf.specs.Eta.{arity, eta_arguments, eta_long, lambdas}
use Rattle.lf.specs.Syntax.{Skeleton, Spine, Term, app, arrow, base, constant, lambda, metavariable, nil, root, variable}
use Rattle.lf.proofs.AtOnce.{eta_at_once}
use Rattle.tw_prune.specs.Walks.{are_newest, eta_variable_under, is_variable}
use Rattle.tw_prune.proofs.Recognizing.{and_true, eta_recognized, le_true}
use Rattle.tw_terms.specs.declared.canonical.MetaId.{MetaId}
use Rattle.tw_abstract.specs.Naming.{sole_under}

if_some : {A : Type 0} (b : Bool) (x y : A) → (if b then Some x else None) ≡ Some y → (b ≡ true) × (x ≡ y)
if_some true x y e = (refl, cc)
if_some false x y e = cc

is_this : (v : ℕ) (o : Option ℕ) → is_variable v o ≡ true → o ≡ Some v
is_this v None e = cc
is_this v (Some w) e = ap Some (eqb-true w v e)

-- a term with so many lambdas, and the eta-long forms of their variables as arguments
record Form (c x : ℕ) (M : Term) : Type 0 where
  binders : ℕ
  of : Skeleton
  same : arity of ≡ c + binders
  is : M ≡ lambdas binders (root (variable (x + (c + binders))) (eta_arguments of))

mutual
  variable_form : (M : Term) (c x : ℕ) → eta_variable_under c M ≡ Some x → Form c x M
  variable_form (lambda M) c x f =
      let r : Form (c + 1) x M = variable_form M (c + 1) x f in
      let e : (c + 1) + r.binders ≡ c + suc r.binders = omega arith in
      record { binders = suc r.binders; of = r.of; same = r.same ∙ e; is = ap lambda (r.is ∙ ap (λ n. lambdas r.binders (root (variable (x + n)) (eta_arguments r.of))) e) }
  variable_form (root (constant k) S) c x f = cc
  variable_form (root (metavariable k) S) c x f = cc
  variable_form (root (variable v) S) c x f =
      let (y, r) = if_some (nat_le c v && are_newest c S) (v - c) x f in
      let (l, w) = and_true (nat_le c v) (are_newest c S) y in
      let (a, n, s) = newest_form S c w in
      let le : c ≤ v = le_true c v l in
      let p : v ≡ x + (c + 0) = omega (arith, le, r) in
      let q : arity a ≡ c + 0 = omega (arith, n) in
      record { binders = 0; of = a; same = q; is = ap₂ (λ i X. root (variable i) X) p s }

  newest_form : (S : Spine) (c : ℕ) → are_newest c S ≡ true → (a : Skeleton) × (arity a ≡ c) × (S ≡ eta_arguments a)
  newest_form nil c f = (base 0, sym (eqb-true c 0 f), refl)
  newest_form (app M S) c f =
      let (p, q) = and_true (nat_lt 0 c && is_variable (c - 1) (eta_variable_under 0 M)) (are_newest (c - 1) S) f in
      let (l, w) = and_true (nat_lt 0 c) (is_variable (c - 1) (eta_variable_under 0 M)) p in
      let z : 0 < c = ltb-true 0 c l in
      let r : Form 0 (c - 1) M = variable_form M 0 (c - 1) (is_this (c - 1) (eta_variable_under 0 M) w) in
      let (b, n, s) = newest_form S (c - 1) q in
      let k : 0 + r.binders ≡ arity r.of = sym r.same in
      let j : r.binders ≡ arity r.of = omega (arith, k) in
      let t : suc (arity b) ≡ c = omega (arith, n, z) in
      let m : M ≡ eta_long r.of (variable (arity b)) =
      r.is ∙ ap₂ (λ u v. lambdas u (root (variable ((c - 1) + v)) (eta_arguments r.of))) j k ∙ sym (eta_at_once r.of (variable (c - 1))) ∙ ap (λ i. eta_long r.of (variable i)) (sym n) in
      (arrow r.of b, t, ap₂ app m s)

-- the same with a metavariable
sole_form : (M : Term) (c m : ℕ) → sole_under c M ≡ Some m → (n : ℕ) × (a : Skeleton) × (arity a ≡ c + n) × (M ≡ lambdas n (root (metavariable m) (eta_arguments a)))
sole_form (lambda M) c m f = let (n, a, e, p) = sole_form M (c + 1) m f in let q : (c + 1) + n ≡ c + suc n = omega arith in (suc n, a, e ∙ q, ap lambda p)
sole_form (root (constant k) S) c m f = cc
sole_form (root (variable v) S) c m f = cc
sole_form (root (metavariable k) S) c m f =
    let (w, r) = if_some (are_newest c S) k m f in
    let (a, n, s) = newest_form S c w in
    let q : arity a ≡ c + 0 = omega (arith, n) in
    (0, a, q, ap₂ (λ i X. root (metavariable i) X) r s)

sole_found : (M : Term) (m : ℕ) → sole_under 0 M ≡ Some m → (a : Skeleton) × (M ≡ eta_long a (metavariable m))
sole_found M m f =
    let (n, a, e, p) = sole_form M 0 m f in
    let q : n ≡ arity a = omega (arith, e) in
    (a, p ∙ ap (λ k. lambdas k (root (metavariable m) (eta_arguments a))) q ∙ sym (eta_at_once a (metavariable m)))

-- what was passed
variable_under : (n c : ℕ) (M : Term) → eta_variable_under c (lambdas n M) ≡ eta_variable_under (c + n) M
variable_under zero c M = let e : c ≡ c + 0 = omega arith in ap (λ k. eta_variable_under k M) e
variable_under (suc n) c M = let e : (c + 1) + n ≡ c + suc n = omega arith in variable_under n (c + 1) M ∙ ap (λ k. eta_variable_under k M) e

metavariable_under : (n c : ℕ) (M : Term) → sole_under c (lambdas n M) ≡ sole_under (c + n) M
metavariable_under zero c M = let e : c ≡ c + 0 = omega arith in ap (λ k. sole_under k M) e
metavariable_under (suc n) c M = let e : (c + 1) + n ≡ c + suc n = omega arith in metavariable_under n (c + 1) M ∙ ap (λ k. sole_under k M) e

newest_recognized : (a : Skeleton) → are_newest (0 + arity a) (eta_arguments a) ≡ true
newest_recognized a =
    let e : eta_variable_under (0 + arity a) (root (variable (0 + arity a)) (eta_arguments a)) ≡ Some 0 = sym (variable_under (arity a) 0 (root (variable (0 + arity a)) (eta_arguments a))) ∙ sym (ap (eta_variable_under 0) (eta_at_once a (variable 0))) ∙ eta_recognized a 0 in
    (and_true (nat_le (0 + arity a) (0 + arity a)) (are_newest (0 + arity a) (eta_arguments a)) (if_some (nat_le (0 + arity a) (0 + arity a) && are_newest (0 + arity a) (eta_arguments a)) (0 + arity a - (0 + arity a)) 0 e).0).1

sole_recognized : (a : Skeleton) (m : ℕ) → sole_under 0 (eta_long a (metavariable m)) ≡ Some m
sole_recognized a m =
    ap (sole_under 0) (eta_at_once a (metavariable m)) ∙ metavariable_under (arity a) 0 (root (metavariable m) (eta_arguments a)) ∙ ap (λ b. if b then Some m else None) (newest_recognized a)

pub sole_told : (M : Term) (r : Option MetaId) → option_map (λ m. m.0) r ≡ sole_under 0 M → MatchOption r ((m : ℕ) (a : Skeleton) → M ≡ eta_long a (metavariable m) → ⊥) (λ m. (a : Skeleton) × (M ≡ eta_long a (metavariable m.0)))
sole_told M None e = λ m a q. (let z : None ≡ Some m = e ∙ ap (sole_under 0) q ∙ sole_recognized a m in cc)
sole_told M (Some m) e = sole_found M m.0 (sym e)

pub sole_answers : {E : Type 0} (M : Term) (r : Result (Option MetaId) E) → IfOk r (λ o. option_map (λ m. m.0) o ≡ sole_under 0 M) → IfOk r (λ o. MatchOption o ((m : ℕ) (a : Skeleton) → M ≡ eta_long a (metavariable m) → ⊥) (λ m. (a : Skeleton) × (M ≡ eta_long a (metavariable m.0))))
sole_answers M (Ok o) e = sole_told M o e
sole_answers M (Err x) e = tt
