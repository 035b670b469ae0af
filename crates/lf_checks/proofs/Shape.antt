-- A quantifier that is no variable of the clause occurs nowhere in it.
use Rattle.lf_checks.specs.Clause.{is_variable, with_newest}
use Rattle.lf_unification.specs.Search.{occurs, occurs_spine, occurs_type}
use Rattle.lf_checks.specs.Tests.{either}
use Rattle.std.proofs.Common.{◌≡◌, ℕ, zero, suc, List, ◌∷◌, refl, sym, ap, subst}
use Rattle.std.specs.Prelude.{Bool, true, false}
use Rattle.lf.specs.Syntax.{constant, variable, metavariable, Term, Spine, lambda, root, nil, app, LfType, pi, atom}
use Rattle.lf.specs.Typing.{TypeAt}
use Rattle.lf.specs.Variables.{target_arguments, binders, under, Uses, UsesSpine, UsesType, same_number}
use Rattle.lf.proofs.Uses.{uses_type_renamed}

-- V has what U has, but for k
abbrev But : ℕ → (ℕ → Bool) → (ℕ → Bool) → Type 0
But k U V = (i : ℕ) → same_number k i ≡ false → U i ≡ true → V i ≡ true

But-under : (k : ℕ) (U V : ℕ → Bool) → But k U V → But (suc k) (under U) (under V)
But-under k U V h zero e u = refl
But-under k U V h (suc i) e u = h i e u

number_equal : (i j : ℕ) → same_number i j ≡ true → i ≡ j
number_equal zero zero e = refl
number_equal zero (suc j) e = absurd cc
number_equal (suc i) zero e = absurd cc
number_equal (suc i) (suc j) e = ap suc (number_equal i j e)

either_r : (a b : Bool) → b ≡ true → either a b ≡ true
either_r true b e = refl
either_r false b e = e

either_l : (a b : Bool) → a ≡ true → either a b ≡ true
either_l a b e = ap (λ x. either x b) e

mutual
  uses_but : (k : ℕ) (U V : ℕ → Bool) (M : Term) → But k U V → (occurs k M ≡ true → V k ≡ true) → Uses U M → Uses V M
  uses_but k U V (lambda M) h o u = uses_but (suc k) (under U) (under V) M (But-under k U V h) o u
  uses_but k U V (root (constant c) S) h o u = uses_but_spine k U V S h o u
  uses_but k U V (root (metavariable c) S) h o u = uses_but_spine k U V S h o u
  uses_but k U V (root (variable j) S) h o u = (go (same_number k j) refl, uses_but_spine k U V S h (λ e. o (either_r (same_number k j) (occurs_spine k S) e)) u.1)
    where
      go : (b : Bool) → same_number k j ≡ b → V j ≡ true
      go true e = subst (λ i. V i ≡ true) (number_equal k j e) (o (either_l (same_number k j) (occurs_spine k S) e))
      go false e = h j e u.0

  uses_but_spine : (k : ℕ) (U V : ℕ → Bool) (S : Spine) → But k U V → (occurs_spine k S ≡ true → V k ≡ true) → UsesSpine U S → UsesSpine V S
  uses_but_spine k U V nil h o u = u
  uses_but_spine k U V (app M S) h o u = (uses_but k U V M h (λ e. o (either_l (occurs k M) (occurs_spine k S) e)) u.0, uses_but_spine k U V S h (λ e. o (either_r (occurs k M) (occurs_spine k S) e)) u.1)

uses_but_type : (k : ℕ) (U V : ℕ → Bool) (A : LfType) → But k U V → (occurs_type k A ≡ true → V k ≡ true) → UsesType U A → UsesType V A
uses_but_type k U V (pi A B) h o u = (uses_but_type k U V A h (λ e. o (either_l (occurs_type k A) (occurs_type (suc k) B) e)) u.0, uses_but_type (suc k) (under U) (under V) B (But-under k U V h) (λ e. o (either_r (occurs_type k A) (occurs_type (suc k) B) e)) u.1)
uses_but_type k U V (atom a S) h o u = uses_but_spine k U V S h o u

newest_but : (V : ℕ → Bool) (b : Bool) → But zero (under V) (with_newest b V)
newest_but V b zero e u = absurd cc
newest_but V b (suc i) e u = u

grown : (V : ℕ → Bool) (b : Bool) (A : LfType) (O : List LfType) → ((i : ℕ) (X : LfType) → TypeAt O i X → UsesType V X) → UsesType V A → (i : ℕ) (X : LfType) → TypeAt (A ∷ O) i X → UsesType (with_newest b V) X
grown V b A O h a zero X e = subst (UsesType (with_newest b V)) (sym e) (uses_type_renamed V (with_newest b V) suc A (λ i u. u) a)
grown V b A O h a (suc i) X (C, g, e) = subst (UsesType (with_newest b V)) (sym e) (uses_type_renamed V (with_newest b V) suc C (λ j u. u) (h i C g))

pub shape : (A : LfType) (O : List LfType) (V : ℕ → Bool) → ((i : ℕ) (X : LfType) → TypeAt O i X → UsesType V X) → UsesType V A → (i : ℕ) (X : LfType) → TypeAt (binders O A) i X → UsesType (is_variable V A) X
shape (pi A B) O V h (a, b) = shape B (A ∷ O) (with_newest (occurs_type zero B) V) (grown V (occurs_type zero B) A O h a) (uses_but_type zero (under V) (with_newest (occurs_type zero B) V) B (newest_but V (occurs_type zero B)) (λ e. e) b)
shape (atom a S) O V h u = h

pub shape_head : (A : LfType) (V : ℕ → Bool) → UsesType V A → UsesSpine (is_variable V A) (target_arguments A)
shape_head (pi A B) V (a, b) = shape_head B (with_newest (occurs_type zero B) V) (uses_but_type zero (under V) (with_newest (occurs_type zero B) V) B (newest_but V (occurs_type zero B)) (λ e. e) b)
shape_head (atom a S) V u = u
