-- Shapes that are still to be gone over, the next one last.
use Rattle.std.specs.Borrow.{Bor}
use Rattle.std.proofs.Common.{◌≡◌, ℕ, ◌+◌, ◌<◌, ◌≤◌, List, [], ◌∷◌, ◌++◌, map, ◌⊎◌, inl, inr, ⊎_elim, arith, refl, sym, ap, ◌∙◌, subst}
use Rattle.lf.specs.Syntax.{Skeleton, base as base_skeleton, arrow as arrow_skeleton}
use Rattle.tw_shapes.specs.Depth.{skeleton_depth}
use Rattle.tw_shapes.specs.Shapes.{Shape, base, arrow, Store, Solves, filled, IsOpen, IsSettled}
use Rattle.tw_shapes.specs.Order.{walk}
use Rattle.tw_shapes.specs.View.{shape_of}
use Rattle.tw_shapes.proofs.Closing.{walk-some}
use Rattle.tw_shapes.specs.declared.shape.Shape.{Shape as Value}

abbrev pub shapes_left : List (Bor Value) → List Shape
shapes_left xs = map (λ x. shape_of x.now) xs

-- how far the walks over them go
abbrev pub walk_all : (ℕ → ℕ) → List Shape → ℕ
walk_all r [] = 0
walk_all r (S ∷ Ss) = walk r S + walk_all r Ss

abbrev pub One : (Shape → Type 0) → List Shape → Type 0
One P [] = ⊥
One P (S ∷ Ss) = P S ⊎ One P Ss

abbrev pub Each : (Shape → Type 0) → List Shape → Type 0
Each P [] = Unit {0}
Each P (S ∷ Ss) = P S × Each P Ss

pub left-more : (xs ys : List (Bor Value)) → shapes_left (xs ++ ys) ≡ shapes_left xs ++ shapes_left ys
left-more [] ys = refl
left-more (x ∷ xs) ys = ap (λ Ss. shape_of x.now ∷ Ss) (left-more xs ys)

pub walk-more : (r : ℕ → ℕ) (Ss Ts : List Shape) → walk_all r (Ss ++ Ts) ≡ walk_all r Ss + walk_all r Ts
walk-more r [] Ts = omega arith
walk-more r (S ∷ Ss) Ts = let e = walk-more r Ss Ts in omega arith

one-before : (P : Shape → Type 0) (Ss Ts : List Shape) → One P Ss → One P (Ss ++ Ts)
one-before P [] Ts h = absurd h
one-before P (S ∷ Ss) Ts (inl p) = inl p
one-before P (S ∷ Ss) Ts (inr h) = inr (one-before P Ss Ts h)

one-behind : (P : Shape → Type 0) (Ss Ts : List Shape) → One P Ts → One P (Ss ++ Ts)
one-behind P [] Ts h = h
one-behind P (S ∷ Ss) Ts h = inr (one-behind P Ss Ts h)

one-split : (P : Shape → Type 0) (Ss Ts : List Shape) → One P (Ss ++ Ts) → One P Ss ⊎ One P Ts
one-split P [] Ts h = inr h
one-split P (S ∷ Ss) Ts (inl p) = inl (inl p)
one-split P (S ∷ Ss) Ts (inr h) = ⊎_elim (λ x. inl (inr x)) (λ y. inr y) (one-split P Ss Ts h)

each-before : (P : Shape → Type 0) (Ss Ts : List Shape) → Each P (Ss ++ Ts) → Each P Ss
each-before P [] Ts h = tt
each-before P (S ∷ Ss) Ts h = (h.0, each-before P Ss Ts h.1)

each-behind : (P : Shape → Type 0) (Ss Ts : List Shape) → Each P (Ss ++ Ts) → Each P Ts
each-behind P [] Ts h = h
each-behind P (S ∷ Ss) Ts h = each-behind P Ss Ts h.1

each-both : (P : Shape → Type 0) (Ss Ts : List Shape) → Each P Ss → Each P Ts → Each P (Ss ++ Ts)
each-both P [] Ts h k = k
each-both P (S ∷ Ss) Ts h k = (h.0, each-both P Ss Ts h.1 k)

-- What is said of what is left is said of S: where one has P, and where each has Q.
pub record Says (P Q : Shape → Type 0) (left : List Shape) (S : Shape) : Type 0 where
  pub one : One P left → P S
  pub each : Each Q left → Q S

pub says-first : (P Q : Shape → Type 0) (S : Shape) → Says P Q (S ∷ []) S
says-first P Q S = record { one = λ h. ⊎_elim (λ p. p) (λ x. absurd x) h; each = λ h. h.0 }

pub says-one : (P Q : Shape → Type 0) (Ss : List Shape) (T S : Shape) → Says P Q (Ss ++ T ∷ []) S → P T → P S
says-one P Q Ss T S h p = h.one (one-behind P Ss (T ∷ []) (inl p))

pub says-each : (P Q : Shape → Type 0) (Ss : List Shape) (T S : Shape) → Says P Q (Ss ++ T ∷ []) S → Q T → Says P Q Ss S
says-each P Q Ss T S h q = record { one = λ x. h.one (one-before P Ss (T ∷ []) x); each = λ x. h.each (each-both Q Ss (T ∷ []) x (q, tt)) }

-- the parts of the last one in its place
pub says-parts : (P Q : Shape → Type 0) (Ss : List Shape) (T U V S : Shape) → Says P Q (Ss ++ T ∷ []) S → (P U ⊎ P V → P T) → (Q U → Q V → Q T) → Says P Q ((Ss ++ V ∷ []) ++ U ∷ []) S
says-parts P Q Ss T U V S h p q = record {
  one = λ x. h.one (⊎_elim
      (λ y. ⊎_elim (λ z. one-before P Ss (T ∷ []) z) (λ z. one-behind P Ss (T ∷ []) (inl (⊎_elim (λ v. p (inr v)) (λ n. absurd n) z))) (one-split P Ss (V ∷ []) y))
      (λ y. one-behind P Ss (T ∷ []) (inl (⊎_elim (λ u. p (inl u)) (λ n. absurd n) y)))
      (one-split P (Ss ++ V ∷ []) (U ∷ []) x));
  each = λ x.
      let front = each-before Q (Ss ++ V ∷ []) (U ∷ []) x in
      h.each (each-both Q Ss (T ∷ []) (each-before Q Ss (V ∷ []) front) (q (each-behind Q (Ss ++ V ∷ []) (U ∷ []) x).0 (each-behind Q Ss (V ∷ []) front).0, tt));
}

pub parts-shorter : (r : ℕ → ℕ) (Ss : List Shape) (T U V : Shape) → walk r (arrow U V) ≤ walk r T → walk_all r ((Ss ++ V ∷ []) ++ U ∷ []) < walk_all r (Ss ++ T ∷ [])
parts-shorter r Ss T U V h = let a = walk-more r (Ss ++ V ∷ []) (U ∷ []) in let b = walk-more r Ss (V ∷ []) in let c = walk-more r Ss (T ∷ []) in omega arith

pub last-shorter : (r : ℕ → ℕ) (Ss : List Shape) (T : Shape) → 0 < walk r T → walk_all r Ss < walk_all r (Ss ++ T ∷ [])
last-shorter r Ss T h = let c = walk-more r Ss (T ∷ []) in omega arith

pub walk-same-as : (r : ℕ → ℕ) (S T : Shape) → S ≡ T → walk r S ≤ walk r T
walk-same-as r S T e = let h : walk r S ≡ walk r T = ap (walk r) e in omega arith

pub walk-at-most : (r : ℕ → ℕ) (S T U : Shape) → S ≡ T → walk r T ≤ walk r U → walk r S ≤ walk r U
walk-at-most r S T U e l = let h : walk r S ≡ walk r T = ap (walk r) e in omega (arith, l)

-- what each solution makes of a shape, by what it makes of another
pub same-settled : (s : Store) (S T : Shape) → ((θ : ℕ → Skeleton) → Solves θ s → filled θ T ≡ filled θ S) → IsSettled s T → IsSettled s S
same-settled s S T e h = (h.0, λ θ x. sym (e θ x) ∙ h.1 θ x)

pub same-open : (s : Store) (S T : Shape) → ((θ : ℕ → Skeleton) → Solves θ s → filled θ T ≡ filled θ S) → IsOpen s T → IsOpen s S
same-open s S T e h = record {
  first = h.first;
  second = h.second;
  first_solves = h.first_solves;
  second_solves = h.second_solves;
  differ = λ q. h.differ (e h.first h.first_solves ∙ q ∙ sym (e h.second h.second_solves));
}

pub base-settled : (s : Store) (c : ℕ) → IsSettled s (base c)
base-settled s c = (base_skeleton c, λ θ h. refl)

pub arrow-settled : (s : Store) (S T : Shape) → IsSettled s S → IsSettled s T → IsSettled s (arrow S T)
arrow-settled s S T h k = (arrow_skeleton h.0 k.0, λ θ x. let a = h.1 θ x in let b = k.1 θ x in cc (a, b))

pub arrow-open : (s : Store) (S T : Shape) → IsOpen s S ⊎ IsOpen s T → IsOpen s (arrow S T)
arrow-open s S T (inl h) = record { first = h.first; second = h.second; first_solves = h.first_solves; second_solves = h.second_solves; differ = λ q. h.differ cc }
arrow-open s S T (inr h) = record { first = h.first; second = h.second; first_solves = h.first_solves; second_solves = h.second_solves; differ = λ q. h.differ cc }

-- no skeleton is 0 deep
pub deep-some : (k : Skeleton) → 0 < skeleton_depth k
deep-some (base_skeleton c) = omega arith
deep-some (arrow_skeleton k l) = omega arith

-- a settled shape isn't open, and its parts are settled
pub settled-closed : (s : Store) (S : Shape) → IsSettled s S → IsOpen s S → ⊥
settled-closed s S h o = o.differ (h.1 o.first o.first_solves ∙ sym (h.1 o.second o.second_solves))

abbrev left_of : Skeleton → Skeleton
left_of (arrow_skeleton k l) = k
left_of k = k

abbrev right_of : Skeleton → Skeleton
right_of (arrow_skeleton k l) = l
right_of k = k

pub domain-settled : (s : Store) (S T : Shape) → IsSettled s (arrow S T) → IsSettled s S
domain-settled s S T h = (left_of h.0, λ θ x. ap left_of (h.1 θ x))

pub range-settled : (s : Store) (S T : Shape) → IsSettled s (arrow S T) → IsSettled s T
range-settled s S T h = (right_of h.0, λ θ x. ap right_of (h.1 θ x))

-- The last one, x, is taken off; then its parts d and r come in its place.
module _ (old base : List (Bor Value)) (x : Bor Value) (e : old ≡ base ++ x ∷ []) where
  popped : shapes_left old ≡ shapes_left base ++ shape_of x.now ∷ []
  popped = ap shapes_left e ∙ left-more base (x ∷ [])

  pub one_said : (P Q : Shape → Type 0) (S : Shape) → Says P Q (shapes_left old) S → P (shape_of x.now) → P S
  one_said P Q S h p = says-one P Q (shapes_left base) (shape_of x.now) S (subst (λ Ss. Says P Q Ss S) popped h) p

  pub each_said : (P Q : Shape → Type 0) (S : Shape) → Says P Q (shapes_left old) S → Q (shape_of x.now) → Says P Q (shapes_left base) S
  each_said P Q S h q = says-each P Q (shapes_left base) (shape_of x.now) S (subst (λ Ss. Says P Q Ss S) popped h) q

  pub one_shorter : (r : ℕ → ℕ) → walk_all r (shapes_left base) < walk_all r (shapes_left old)
  one_shorter r = subst (λ Ss. walk_all r (shapes_left base) < walk_all r Ss) (sym popped) (last-shorter r (shapes_left base) (shape_of x.now) (walk-some r (shape_of x.now)))

  module _ (mid new : List (Bor Value)) (v u : Bor Value) (U V : Shape) (f : mid ≡ base ++ v ∷ []) (g : new ≡ mid ++ u ∷ []) (a : shape_of u.now ≡ U) (b : shape_of v.now ≡ V) where
    pushed : shapes_left new ≡ (shapes_left base ++ V ∷ []) ++ U ∷ []
    pushed =
        ap shapes_left g ∙ left-more mid (u ∷ []) ∙ ap (λ Ss. Ss ++ shape_of u.now ∷ []) (ap shapes_left f ∙ left-more base (v ∷ []))
        ∙ ap (λ T. (shapes_left base ++ T ∷ []) ++ shape_of u.now ∷ []) b ∙ ap (λ T. (shapes_left base ++ V ∷ []) ++ T ∷ []) a

    pub parts_said : (P Q : Shape → Type 0) (S : Shape) → Says P Q (shapes_left old) S → (P U ⊎ P V → P (shape_of x.now)) → (Q U → Q V → Q (shape_of x.now)) → Says P Q (shapes_left new) S
    parts_said P Q S h p q = subst (λ Ss. Says P Q Ss S) (sym pushed) (says-parts P Q (shapes_left base) (shape_of x.now) U V S (subst (λ Ss. Says P Q Ss S) popped h) p q)

    pub parts_shorter : (r : ℕ → ℕ) → walk r (arrow U V) ≤ walk r (shape_of x.now) → walk_all r (shapes_left new) < walk_all r (shapes_left old)
    parts_shorter r h = subst (λ Ss. walk_all r Ss < walk_all r (shapes_left old)) (sym pushed) (subst (λ Ss. walk_all r ((shapes_left base ++ V ∷ []) ++ U ∷ []) < walk_all r Ss) (sym popped) (parts-shorter r (shapes_left base) (shape_of x.now) U V h))
