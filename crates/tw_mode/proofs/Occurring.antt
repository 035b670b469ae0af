-- A strict occurrence is an occurrence, and what occurs in a clause is one of its variables.
use Rattle.std.proofs.Common.{◌≡◌, ℕ, zero, suc, ◌+◌, List, [], ◌∷◌, Bool, true, false, refl, ap, ◌∙◌, arith}
use Rattle.lf.specs.AtOnce.{shift_by}
use Rattle.lf.specs.Entries.{quantifiers}
use Rattle.lf.specs.Syntax.{Term, Spine, nil, app, root, constant, variable, metavariable, lambda, LfType, pi, atom, lift_renaming, rename, rename_spine, rename_type}
use Rattle.lf.specs.Variables.{hide, same_number, target_arguments, under}
use Rattle.lf_unification.specs.Search.{occurs, occurs_spine, occurs_type}
use Rattle.lf_checks.specs.Clause.{is_variable, with_newest}
use Rattle.lf_checks.specs.Strict.{pattern_arguments, strict, strict_at, strict_goal, strict_spine}
use Rattle.lf_checks.specs.Tests.{both, either}
use Rattle.lf_checks.proofs.EtaTest.{both_l, both_r}
use Rattle.tw_clause.proofs.Walks.{at_quantifier}
use Rattle.lf.proofs.Checker.{number_is}
use Rattle.tw_signature.proofs.Marking.{same_self}
use Rattle.tw_mode.proofs.Sets.{same_turned}

either_left : (a b : Bool) → a ≡ true → either a b ≡ true
either_left a b e = ap (λ t. either t b) e

either_right : (a b : Bool) → b ≡ true → either a b ≡ true
either_right true b e = refl
either_right false b e = e

either_out : (a b c : Bool) → (a ≡ true → c ≡ true) → (b ≡ true → c ≡ true) → either a b ≡ true → c ≡ true
either_out true b c f g e = f refl
either_out false b c f g e = g e

-- where each side has a reason
either_of : (a b c d : Bool) → (a ≡ true → c ≡ true) → (b ≡ true → d ≡ true) → either a b ≡ true → either c d ≡ true
either_of true b c d f g e = either_left c d (f refl)
either_of false b c d f g e = either_right c d (g e)

mutual
  strict_occurs : (B F : ℕ → Bool) (x : ℕ) (M : Term) → strict B F x M ≡ true → occurs x M ≡ true
  strict_occurs B F x (lambda M) e = strict_occurs (under B) (hide F) (suc x) M e
  strict_occurs B F x (root (constant c) S) e = spine_occurs B F x S e
  strict_occurs B F x (root (metavariable m) S) e = absurd cc
  strict_occurs B F x (root (variable j) S) e =
      either_of (both (same_number j x) (pattern_arguments B [] S)) (both (either (B j) (F j)) (strict_spine B F x S)) (same_number x j) (occurs_spine x S) (λ q. same_turned x j ∙ both_l (same_number j x) (pattern_arguments B [] S) q) (λ q. spine_occurs B F x S (both_r (either (B j) (F j)) (strict_spine B F x S) q)) e

  spine_occurs : (B F : ℕ → Bool) (x : ℕ) (S : Spine) → strict_spine B F x S ≡ true → occurs_spine x S ≡ true
  spine_occurs B F x nil e = absurd cc
  spine_occurs B F x (app M S) e = either_of (strict B F x M) (strict_spine B F x S) (occurs x M) (occurs_spine x S) (λ q. strict_occurs B F x M q) (λ q. spine_occurs B F x S q) e

pub places_occur : (m : List Bool) (B F : ℕ → Bool) (x : ℕ) (S : Spine) → strict_at m B F x S ≡ true → occurs_spine x S ≡ true
places_occur [] B F x S e = absurd cc
places_occur (b ∷ m) B F x nil e = absurd cc
places_occur (true ∷ m) B F x (app M S) e = either_of (strict B F x M) (strict_at m B F x S) (occurs x M) (occurs_spine x S) (strict_occurs B F x M) (places_occur m B F x S) e
places_occur (false ∷ m) B F x (app M S) e = either_right (occurs x M) (occurs_spine x S) (places_occur m B F x S e)

pub goal_occurs : (m : List Bool) (B F : ℕ → Bool) (x : ℕ) (A : LfType) → strict_goal m B F x A ≡ true → occurs_type x A ≡ true
goal_occurs m B F x (pi A C) e = either_right (occurs_type x A) (occurs_type (suc x) C) (goal_occurs m (under B) (hide F) (suc x) C e)
goal_occurs m B F x (atom a S) e = places_occur m B F x S e

-- What occurs in a renamed term is in P, where the images of what occurs in the term are.
raised : (ρ : ℕ → ℕ) (P : ℕ → Bool) (O : ℕ → Bool) → ((y : ℕ) → O (suc y) ≡ true → P (ρ y) ≡ true) → (y : ℕ) → O y ≡ true → under P (lift_renaming ρ y) ≡ true
raised ρ P O h zero o = refl
raised ρ P O h (suc y) o = h y o

mutual
  renamed_in : (ρ : ℕ → ℕ) (P : ℕ → Bool) (x : ℕ) (M : Term) → ((y : ℕ) → occurs y M ≡ true → P (ρ y) ≡ true) → occurs x (rename ρ M) ≡ true → P x ≡ true
  renamed_in ρ P x (lambda M) h e = renamed_in (lift_renaming ρ) (under P) (suc x) M (raised ρ P (λ y. occurs y M) h) e
  renamed_in ρ P x (root (constant c) S) h e = renamed_in_spine ρ P x S h e
  renamed_in ρ P x (root (metavariable m) S) h e = renamed_in_spine ρ P x S h e
  renamed_in ρ P x (root (variable j) S) h e =
      either_out (same_number x (ρ j)) (occurs_spine x (rename_spine ρ S)) (P x) (λ q. ap P (number_is x (ρ j) q) ∙ h j (either_left (same_number j j) (occurs_spine j S) (same_self j))) (λ q. renamed_in_spine ρ P x S (λ y o. h y (either_right (same_number y j) (occurs_spine y S) o)) q) e

  renamed_in_spine : (ρ : ℕ → ℕ) (P : ℕ → Bool) (x : ℕ) (S : Spine) → ((y : ℕ) → occurs_spine y S ≡ true → P (ρ y) ≡ true) → occurs_spine x (rename_spine ρ S) ≡ true → P x ≡ true
  renamed_in_spine ρ P x nil h e = absurd cc
  renamed_in_spine ρ P x (app M S) h e =
      either_out (occurs x (rename ρ M)) (occurs_spine x (rename_spine ρ S)) (P x) (λ q. renamed_in ρ P x M (λ y o. h y (either_left (occurs y M) (occurs_spine y S) o)) q) (λ q. renamed_in_spine ρ P x S (λ y o. h y (either_right (occurs y M) (occurs_spine y S) o)) q) e

renamed_in_type : (ρ : ℕ → ℕ) (P : ℕ → Bool) (x : ℕ) (A : LfType) → ((y : ℕ) → occurs_type y A ≡ true → P (ρ y) ≡ true) → occurs_type x (rename_type ρ A) ≡ true → P x ≡ true
renamed_in_type ρ P x (pi A B) h e =
    either_out (occurs_type x (rename_type ρ A)) (occurs_type (suc x) (rename_type (lift_renaming ρ) B)) (P x) (λ q. renamed_in_type ρ P x A (λ y o. h y (either_left (occurs_type y A) (occurs_type (suc y) B) o)) q) (λ q. renamed_in_type (lift_renaming ρ) (under P) (suc x) B (raised ρ P (λ y. occurs_type y B) (λ y o. h y (either_right (occurs_type y A) (occurs_type (suc y) B) o))) q) e
renamed_in_type ρ P x (atom a S) h e = renamed_in_spine ρ P x S h e

-- all that occurs in the type is in V
abbrev pub OccurIn : (ℕ → Bool) → LfType → Type 0
OccurIn V A = (j : ℕ) → occurs_type j A ≡ true → V j ≡ true

-- past a quantifier
pub occur_past : (V : ℕ → Bool) (A B : LfType) → OccurIn V (pi A B) → OccurIn (with_newest (occurs_type zero B) V) B
occur_past V A B h zero e = e
occur_past V A B h (suc j) e = h j (either_right (occurs_type j A) (occurs_type (suc j) B) e)

-- what occurs in the target is a variable
pub target_uses_variables : (V : ℕ → Bool) (A : LfType) (x : ℕ) → OccurIn V A → occurs_spine x (target_arguments A) ≡ true → is_variable V A x ≡ true
target_uses_variables V (pi A B) x h e = target_uses_variables (with_newest (occurs_type zero B) V) B x (occur_past V A B h) e
target_uses_variables V (atom a S) x h e = h x e

-- what occurs in a quantifier's type is a variable, where the type is seen inside all quantifiers
pub domain_uses_variables : (V : ℕ → Bool) (A B : LfType) (x : ℕ) → OccurIn V (pi A B) → occurs_type x (rename_type (shift_by (suc (quantifiers B))) A) ≡ true → is_variable V (pi A B) x ≡ true
domain_uses_variables V A B x h e = renamed_in_type (shift_by (suc (quantifiers B))) (is_variable V (pi A B)) x A image e
  where
    image : (y : ℕ) → occurs_type y A ≡ true → is_variable V (pi A B) (shift_by (suc (quantifiers B)) y) ≡ true
    image y o =
        ap (is_variable (with_newest (occurs_type zero B) V) B) (let q : y + suc (quantifiers B) ≡ quantifiers B + suc y = omega arith in q)
        ∙ at_quantifier B (with_newest (occurs_type zero B) V) (suc y)
        ∙ h y (either_left (occurs_type y A) (occurs_type (suc y) B) o)
