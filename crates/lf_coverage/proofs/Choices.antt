-- Choices by a test, and lists of candidates that are empty.
use Rattle.std.proofs.Common.{◌≡◌, ℕ, List, [], ◌∷◌, refl}
use Rattle.std.specs.Prelude.{Bool, true, false, not, cond, Option, Some, None}
use Rattle.lf_checks.specs.Tests.{choose, either}
use Rattle.lf_cases.specs.Candidates.{counted, then}

-- lists put together that are empty
pub then_first : (xs ys : List ℕ) → then xs ys ≡ [] → xs ≡ []
then_first [] ys e = refl
then_first (x ∷ xs) ys e = absurd cc

pub then_second : (xs ys : List ℕ) → then xs ys ≡ [] → ys ≡ []
then_second [] ys e = e
then_second (x ∷ xs) ys e = absurd cc

pub none_counted : (b : Bool) (o : Option ℕ) (y : ℕ) → b ≡ true → o ≡ Some y → counted b o ≡ [] → ⊥
none_counted true (Some x) y p q e = absurd cc
none_counted true None y p q e = absurd cc
none_counted false o y p q e = absurd cc

pub chosen : (b : Bool) (xs ys : List ℕ) → b ≡ true → cond b xs ys ≡ [] → xs ≡ []
chosen true xs ys p e = e
chosen false xs ys p e = absurd cc

pub not_chosen : (b : Bool) (xs ys : List ℕ) → b ≡ false → cond b xs ys ≡ [] → ys ≡ []
not_chosen true xs ys p e = absurd cc
not_chosen false xs ys p e = e

pub choose_first : (A B : Type 0) (b : Bool) → b ≡ true → choose b A B → A
choose_first A B true p x = x
choose_first A B false p x = absurd cc

pub choose_second : (A B : Type 0) (b : Bool) → b ≡ false → choose b A B → B
choose_second A B true p x = absurd cc
choose_second A B false p x = x

-- either way
pub decided : {A : Type 0} (b : Bool) → (b ≡ true → A) → (b ≡ false → A) → A
decided true f g = f refl
decided false f g = g refl

pub first_chosen : (A B : Type 0) (b : Bool) → b ≡ true → A → choose b A B
first_chosen A B true p x = x
first_chosen A B false p x = absurd cc

pub second_chosen : (A B : Type 0) (b : Bool) → b ≡ false → B → choose b A B
second_chosen A B true p x = absurd cc
second_chosen A B false p x = x

-- what a test of two is
pub either_first : (a b : Bool) → a ≡ true → either a b ≡ true
either_first true b e = refl
either_first false b e = absurd cc

pub either_second : (a b : Bool) → b ≡ true → either a b ≡ true
either_second true b e = refl
either_second false b e = e

pub second_of : (a b : Bool) → either a b ≡ true → a ≡ false → b ≡ true
second_of true b e f = absurd cc
second_of false b e f = e

pub not_true : (b : Bool) → not b ≡ true → b ≡ false
not_true true e = absurd cc
not_true false e = refl
