-- What is left unground at the end of a clause, by two sets: what is ground, and what is ground or needn't be.
use Rattle.std.specs.Prelude.{◌≡◌, ℕ, suc, List, [], ◌∷◌, Bool, true, ◌⊎◌}
use Rattle.lf.specs.Syntax.{Term, Spine, nil, app}
use Rattle.lf.specs.Variables.{Uses}
use Rattle.lf_checks.specs.Marks.{Mark, input, output, free}
use Rattle.lf_checks.specs.Tests.{either}

-- for each place, whether one of two marks says yes
abbrev pub either_of : List Bool → List Bool → List Bool
either_of [] ys = []
either_of (x ∷ xs) [] = x ∷ xs
either_of (x ∷ xs) (y ∷ ys) = either x y ∷ either_of xs ys

-- each mark says yes
abbrev pub AreAllTrue : List Bool → Type 0
AreAllTrue [] = Unit {0}
AreAllTrue (b ∷ bs) = (b ≡ true) × AreAllTrue bs

-- an argument uses a variable outside the set for its mark: what is ground at an output, else what is settled
abbrev pub Unsettled : (ℕ → Bool) → (ℕ → Bool) → Mark → Term → Type 0
Unsettled U L output M = Uses U M → ⊥
Unsettled U L input M = Uses L M → ⊥
Unsettled U L free M = Uses L M → ⊥

-- no argument at a place with a mark does
abbrev pub NoneUnsettled : (ℕ → Bool) → (ℕ → Bool) → List Mark → Spine → Type 0
NoneUnsettled U L [] S = Unit {0}
NoneUnsettled U L (b ∷ bs) nil = Unit {0}
NoneUnsettled U L (b ∷ bs) (app M S) = (Unsettled U L b M → ⊥) × NoneUnsettled U L bs S

-- from place n on, place j is the first where the argument does
abbrev pub FirstUnsettled : (ℕ → Bool) → (ℕ → Bool) → ℕ → List Mark → Spine → ℕ → Type 0
FirstUnsettled U L n [] S j = ⊥
FirstUnsettled U L n (b ∷ bs) nil j = ⊥
FirstUnsettled U L n (b ∷ bs) (app M S) j = (Unsettled U L b M × (j ≡ n)) ⊎ ((Unsettled U L b M → ⊥) × FirstUnsettled U L (suc n) bs S j)
