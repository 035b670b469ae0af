-- What holds of each variable that is used, if one alone is used, as Z in p Z, or the first two; and of each variable of a context of one or two.
use Rattle.std.proofs.Common.{◌≡◌, ℕ, zero, suc, List, [], ◌∷◌, sym, ap, ◌∙◌, subst, true≢false}
use Rattle.std.specs.Prelude.{Bool, true, false}
use Rattle.lf.specs.Syntax.{LfType, weaken}
use Rattle.lf.specs.Typing.{TypeAt}
use Rattle.lf.specs.Variables.{same_number}
use Rattle.lf_coverage.proofs.Examples.{same_is}

pub at_one : (n : ℕ) (P : ℕ → Type 0) → P n → (i : ℕ) → same_number n i ≡ true → P i
at_one n P h i u = subst P (sym (same_is n i u)) h

-- of the variables in the context G, where n has the type X
pub types_at_one : (n : ℕ) (Q : ℕ → LfType → Type 0) (G : List LfType) (X : LfType) → ((A : LfType) → TypeAt G n A → A ≡ X) → Q n X → (i : ℕ) (A : LfType) → TypeAt G i A → same_number n i ≡ true → Q i A
types_at_one n Q G X only q i A g u = at_one n (λ j. (B : LfType) → TypeAt G j B → Q j B) (λ B h. subst (Q n) (sym (only B h)) q) i u A g

abbrev pub first_two : ℕ → Bool
first_two zero = true
first_two (suc zero) = true
first_two (suc (suc i)) = false

pub at_two : (P : ℕ → Type 0) → P 0 → P 1 → (i : ℕ) → first_two i ≡ true → P i
at_two P p q zero u = p
at_two P p q (suc zero) u = q
at_two P p q (suc (suc i)) u = absurd (true≢false (sym u))

-- of each variable of the context of X alone, and of that of X and Y
pub types_of_one : (Q : ℕ → LfType → Type 0) (X : LfType) → Q 0 (weaken X) → (i : ℕ) (A : LfType) → TypeAt (X ∷ []) i A → Q i A
types_of_one Q X p zero A e = subst (Q 0) (sym e) p
types_of_one Q X p (suc i) A (B, g, e) = absurd g

pub types_of_two : (Q : ℕ → LfType → Type 0) (X Y : LfType) → Q 0 (weaken X) → Q 1 (weaken (weaken Y)) → (i : ℕ) (A : LfType) → TypeAt (X ∷ Y ∷ []) i A → Q i A
types_of_two Q X Y p q zero A e = subst (Q 0) (sym e) p
types_of_two Q X Y p q (suc zero) A (B, g, e) = subst (Q 1) (sym (e ∙ ap weaken g)) q
types_of_two Q X Y p q (suc (suc i)) A (B, (D, g, p'), e) = absurd g
