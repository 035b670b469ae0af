-- Worked: a whole run that stops at the equation that circular types leave, where the goal has what `cover` needs; and
-- the same case with X alone covered, which may not be handed in.
use Rattle.std.specs.Prelude.{ℕ, zero, suc, List, [], ◌∷◌, Bool, true, false, Some, None}
use Rattle.lf.specs.Syntax.{Spine, constant, variable, app, lambda, root, nil, LfType, atom, pi}
use Rattle.lf.specs.Substitution.{Image}
use Rattle.lf.specs.Typing.{Signature}
use Rattle.lf.specs.Subordination.{IsBelowTest}
use Rattle.lf.specs.Worlds.{World}
use Rattle.lf.specs.Extension.{Extends}
use Rattle.lf_cases.specs.Pattern.{Known, Pattern}
use Rattle.lf_totality.specs.Examples.{nat, on_two, var, z}
use Rattle.lf_totality.specs.ExamplesGroups.{on_one}
use Rattle.lf_numbered.specs.EntryPatternsRuns.{HoldsApart}
use Rattle.lf_numbered.specs.EntryTermsInputs.{closed_head}
use Rattle.lf_numbered.specs.LeftEquations.{GivesHead, HoldsTrue}
use Rattle.lf_numbered.specs.LeftExamples.{Circle, circle_after, circle_case, circle_left, refl_type, refl_z}
use Rattle.lf_numbered.specs.NumberedCalls.{IsBesideByNumber, NumberedCoverIs, NumberedCoverNeeds, one_outside}
use Rattle.lf_numbered.specs.NumberedCase.{NumberedCase}
use Rattle.lf_numbered.specs.NumberedReached.{HoldsBack}
use Rattle.lf_numbered.specs.NumberedSplits.{NumberedOffer}

-- The head p Z ([x] Z) W (refl Z), of which X alone is a candidate in p T K W X, covered at all places.
abbrev pub refl_clause : LfType
refl_clause = pi nat (pi (on_one 1 (var 0)) (atom 3 (app (var 1) (app (lambda (var 2)) (app (var 0) (app (root (constant 3) (app (var 1) nil)) nil))))))

abbrev pub refl_head : Pattern
refl_head = closed_head refl_clause

-- the case, and the case with the variable Z of refl Z in front
abbrev pub whole_case : NumberedCase
whole_case = record { blocks = []; variables = on_two 2 (var 2) (root (variable 1) (app (var 0) nil)) ∷ on_one 1 (var 1) ∷ pi (on_one 1 (var 0)) nat ∷ nat ∷ []; given = []; local = []; family = 3; arguments = Some (var 3) ∷ Some (lambda (root (variable 3) (app (var 0) nil))) ∷ Some (var 1) ∷ Some (var 0) ∷ [] }

abbrev pub whole_over : NumberedCase
whole_over = record { blocks = []; variables = nat ∷ on_two 2 (var 2) (root (variable 1) (app (var 0) nil)) ∷ on_one 1 (var 1) ∷ pi (on_one 1 (var 0)) nat ∷ nat ∷ []; given = []; local = []; family = 3; arguments = Some (var 4) ∷ Some (lambda (root (variable 4) (app (var 0) nil))) ∷ Some (var 2) ∷ Some (var 1) ∷ [] }

abbrev pub whole_offer : NumberedOffer
whole_offer = record { case = whole_case; variable = 0; type = on_two 2 (var 3) (root (variable 2) (app (var 1) nil)); head = constant 3; terms = nil; left = refl_type }

-- The goal has what `cover` needs, and the run from it stops at K W = T.
abbrev pub CircleIsNeeded : Type 0
CircleIsNeeded = (below : ℕ → ℕ → Bool) → ((f : ℕ) → IsBelowTest Circle [] (below f) f) → NumberedCoverNeeds Circle 4 [] below (refl_head ∷ []) whole_case × NumberedCoverIs Circle 4 [] below (refl_head ∷ []) whole_case (one_outside whole_case whole_over circle_left)

-- So each tuple of the goal with refl for X has T for K W, beside each set beside which the goal is to be covered.
abbrev pub NeededCircleIsTrue : Type 0
NeededCircleIsTrue = (below : ℕ → ℕ → Bool) → ((f : ℕ) → IsBelowTest Circle [] (below f) f) → (S : ℕ → Bool) → IsBesideByNumber Circle [] S whole_case → (Σ' : Signature) → Extends S Circle Σ' → (G : List LfType) (w : World Σ' [] S G) (F : Known) (υ : ℕ → Image) (T : Spine) (h : HoldsApart w 4 whole_case F υ T) → GivesHead w 4 whole_case h.holds.instances h.holds.values 0 whole_offer → HoldsBack w 4 whole_case h.holds.instances h.holds.values whole_case × HoldsTrue w 4 whole_over circle_after circle_left F υ T

-- The four families are such a set, and p z ([x] z) n (refl z) is such a tuple in the empty context: X is refl there.
abbrev pub circle_families : ℕ → Bool
circle_families zero = true
circle_families (suc zero) = true
circle_families (suc (suc zero)) = true
circle_families (suc (suc (suc zero))) = true
circle_families (suc (suc (suc (suc f)))) = false

abbrev pub CircleHasTuple : Type 0
CircleHasTuple = IsBesideByNumber Circle [] circle_families whole_case × ((w : World Circle [] circle_families []) (υ : ℕ → Image) → (h : HoldsApart w 4 whole_case None υ (app z (app (lambda z) (app (root (constant 2) nil) (app refl_z nil))))) × GivesHead w 4 whole_case h.holds.instances h.holds.values 0 whole_offer)

-- Where X alone is covered, its type mentions places that aren't: the head isn't one for the case.
abbrev pub CircleAloneIsRefused : Type 0
CircleAloneIsRefused = (below : ℕ → ℕ → Bool) → NumberedCoverNeeds Circle 4 [] below (refl_head ∷ []) circle_case → ⊥
