-- Numbers that the test calls different, as 2 and 0, are different; and a number is none of a list if it is neither the first of it nor one of the others.
use Rattle.std.proofs.Common.{◌≡◌, ◌∙◌, ℕ, inl, inr, sym, subst, true≢false}
use Rattle.std.specs.Prelude.{◌⊎◌, false}
use Rattle.lf.specs.Variables.{same_number}
use Rattle.lf.proofs.Checker.{number_itself}

pub other_number : {m n : ℕ} → m ≡ n → same_number m n ≡ false → ⊥
other_number {m} {n} e d = true≢false (sym (number_itself n) ∙ subst (λ k. same_number k n ≡ false) e d)

pub not_among : {m n : ℕ} {P : Type 0} → same_number m n ≡ false → (P → ⊥) → (m ≡ n) ⊎ P → ⊥
not_among d f (inl e) = other_number e d
not_among d f (inr p) = f p
