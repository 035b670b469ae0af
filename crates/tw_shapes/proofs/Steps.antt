-- The steps of walks over shapes of the program.
use Rattle.std.proofs.Common.{◌≡◌, ◌≢◌, ℕ, suc, ◌<◌, Box, Global, Bool, true, false, Some, None, arith, sym, ap, ◌∙◌, subst}
use Rattle.std.specs.Bool.{OnFalse}
use Rattle.lf.specs.Syntax.{Skeleton, base as base_skeleton}
use Rattle.tw_shapes.specs.Shapes.{Shape as PlainShape, variable, arrow, AllVariables, Mentions, filled, Solves, Store, value_of, IsOpen}
use Rattle.tw_shapes.specs.Order.{IsOrdered, IsFollowed, length_of_walk}
use Rattle.tw_shapes.specs.View.{shape_of}
use Rattle.tw_shapes.specs.declared.shape.ShapeId.{ShapeId}
use Rattle.tw_shapes.specs.declared.shape.Shape.{Shape, Variable, Arrow}
use Rattle.tw_shapes.proofs.Views.{shape_of-Variable, shape_of-Arrow}
use Rattle.tw_shapes.proofs.Variables.{arrow-circular}
use Rattle.tw_shapes.proofs.Walks.{followed}
use Rattle.tw_shapes.proofs.Fillings.{filling, filling-solves, filling-free}

-- what is said of both parts of an arrow
pub all-Arrow : (P : ℕ → Type 0) (a b : Box Shape Global) (d r : Shape) → a.value ≡ d → b.value ≡ r → AllVariables P (shape_of d) → AllVariables P (shape_of r) → AllVariables P (shape_of (Arrow a b))
all-Arrow P a b d r p q x y =
    subst (AllVariables P) (sym (shape_of-Arrow a b)) (subst (λ z. AllVariables P (shape_of z)) (sym p) x, subst (λ z. AllVariables P (shape_of z)) (sym q) y)

both_false : (P : ℕ → Type 0) (S T : PlainShape) (b : Bool) → AllVariables P S → OnFalse b (AllVariables P T) → OnFalse b (AllVariables P (arrow S T))
both_false P S T true x y = tt
both_false P S T false x y = (x, y)

pub none-Arrow : (P : ℕ → Type 0) (v : Shape) (a b : Box Shape Global) (d r : Shape) (found : Bool) → v ≡ Arrow a b → d ≡ a.value → r ≡ b.value → AllVariables P (shape_of d) → OnFalse found (AllVariables P (shape_of r)) → OnFalse found (AllVariables P (shape_of v))
none-Arrow P v a b d r found e p q x y =
    subst (λ z. OnFalse found (AllVariables P z)) (sym (ap shape_of e ∙ shape_of-Arrow a b))
    (both_false P (shape_of a.value) (shape_of b.value) found (subst (λ z. AllVariables P (shape_of z)) p x) (subst (λ z. OnFalse found (AllVariables P (shape_of z))) q y))

-- a bound variable is followed
pub shorter : (s : Store) → IsOrdered s → (x v : Shape) (m : ShapeId) → x ≡ Variable m → value_of s m.0 ≡ Some (shape_of v) → length_of_walk s (shape_of v) < length_of_walk s (shape_of x)
shorter s o x v m e f =
    let a : length_of_walk s (shape_of x) ≡ suc (length_of_walk s (shape_of v)) = ap (λ y. length_of_walk s (shape_of y)) e ∙ (ap (length_of_walk s) (shape_of-Variable m) ∙ followed s o m.0 (shape_of v) f) in
    omega arith

-- a free variable has two skeletons
free-is-open : (s : Store) → IsOrdered s → (m : ℕ) → value_of s m ≡ None → IsOpen s (variable m)
free-is-open s o m e = record {
  first = filling (base_skeleton 0) s;
  second = filling (base_skeleton 1) s;
  first_solves = filling-solves (base_skeleton 0) s o;
  second_solves = filling-solves (base_skeleton 1) s o;
  differ = λ q. let a : base_skeleton 0 ≡ base_skeleton 1 = sym (filling-free (base_skeleton 0) s o m e) ∙ (q ∙ filling-free (base_skeleton 1) s o m e) in cc;
}

-- so is what comes to one
pub followed-is-open : (s : Store) → IsOrdered s → (S : PlainShape) (x : Shape) (m : ShapeId) → x ≡ Variable m → IsFollowed s (shape_of x) → ((θ : ℕ → Skeleton) → Solves θ s → filled θ (shape_of x) ≡ filled θ S) → IsOpen s S
followed-is-open s o S x m e f same =
    let is : shape_of x ≡ variable m.0 = ap shape_of e ∙ shape_of-Variable m in
    let free = free-is-open s o m.0 (subst (IsFollowed s) is f) in
    let at : (θ : ℕ → Skeleton) → Solves θ s → θ m.0 ≡ filled θ S = λ θ h. sym (ap (filled θ) is) ∙ same θ h in
    record {
      first = free.first;
      second = free.second;
      first_solves = free.first_solves;
      second_solves = free.second_solves;
      differ = λ q. free.differ (at free.first free.first_solves ∙ q ∙ sym (at free.second free.second_solves));
    }

-- a variable is no arrow that mentions it
pub mentioned-Arrow : (m : ℕ) (x : Shape) (a b : Box Shape Global) → x ≡ Arrow a b → Mentions m (shape_of x) → (θ : ℕ → Skeleton) → θ m ≢ filled θ (shape_of x)
mentioned-Arrow m x a b e h =
    let is : shape_of x ≡ arrow (shape_of a.value) (shape_of b.value) = ap shape_of e ∙ shape_of-Arrow a b in
    λ θ. subst (λ z. θ m ≢ filled θ z) (sym is) (arrow-circular θ m (shape_of a.value) (shape_of b.value) (subst (Mentions m) is h))

-- One binding is followed: the same skeleton in each solution, of the store, and on a shorter walk.
pub one-same : (s : Store) (x v : Shape) (m : ShapeId) → x ≡ Variable m → value_of s m.0 ≡ Some (shape_of v) → (θ : ℕ → Skeleton) → Solves θ s → filled θ (shape_of v) ≡ filled θ (shape_of x)
one-same s x v m e f θ h = sym (h.holds m.0 (shape_of v) f) ∙ sym (ap (λ y. filled θ (shape_of y)) e ∙ ap (filled θ) (shape_of-Variable m))
