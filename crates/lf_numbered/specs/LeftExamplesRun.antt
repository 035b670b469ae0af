-- Worked: a whole run that stops at the equation that circular types leave, the tuples of the goal with this head, and
-- typed unifiers of the head's store.
use Rattle.std.specs.Prelude.{◌≡◌, ℕ, suc, [], ◌∷◌, List, Bool, true, None}
use Rattle.lf.specs.Syntax.{Spine, constant, variable, app, base, lambda, root, nil, LfType, Kind, atom, kind_pi, star}
use Rattle.lf.specs.AtOnce.{in_front}
use Rattle.lf.specs.Substitution.{Image, keep, put}
use Rattle.lf.specs.Typing.{Signature}
use Rattle.lf.specs.Subordination.{SelfContained}
use Rattle.lf.specs.Worlds.{World}
use Rattle.lf.specs.Extension.{Extends}
use Rattle.lf_checks.specs.Below.{IsSubordination}
use Rattle.lf_unification.specs.Unifiers.{Solution}
use Rattle.lf_cases.specs.Pattern.{Known, Pattern}
use Rattle.lf_totality.specs.Examples.{nat, on_two, var, z}
use Rattle.lf_totality.specs.ExamplesReached.{head_of}
use Rattle.lf_numbered.specs.EntryPatternsRuns.{HoldsApart}
use Rattle.lf_numbered.specs.LeftEquations.{GivesHead, HoldsTrue}
use Rattle.lf_numbered.specs.LeftExamples.{Circle, circle_after, circle_case, circle_left, circle_over, circle_terms, circle_values, refl_type, refl_z}
use Rattle.lf_numbered.specs.LeftUnifiers.{HasHead, read_store}
use Rattle.lf_numbered.specs.NumberedCalls.{NumberedCoverIs, one_outside}
use Rattle.lf_numbered.specs.NumberedCallsOutside.{store_of}
use Rattle.lf_numbered.specs.NumberedReached.{HoldsBack}
use Rattle.lf_numbered.specs.NumberedSplits.{NumberedOffer, NumberedUnifierFinds}
use Rattle.lf_numbered.specs.TypedNumbered.{IsTypedNumberedCase}

-- p z ([x] z) n (refl z), of which X is a candidate
abbrev pub circle_head : Pattern
circle_head = head_of (atom 3 (app z (app (lambda z) (app (root (constant 2) nil) (app refl_z nil)))))

-- The run stops at p T K W X itself, at its candidate X.
abbrev pub CircleRunIsLeft : Type 0
CircleRunIsLeft = (below : ℕ → ℕ → Bool) → NumberedCoverIs Circle 4 [] below (circle_head ∷ []) circle_case (one_outside circle_case circle_over circle_left)

abbrev pub refl_offer : NumberedOffer
refl_offer = record { case = circle_case; variable = 0; type = on_two 2 (var 3) (root (variable 2) (app (var 1) nil)); head = constant 3; terms = nil; left = refl_type }

-- So each tuple of the goal with refl for X, in each legal extension beside a set with eq and each context, has T for K
-- W.
abbrev pub CircleTuplesAreTrue : Type 0
CircleTuplesAreTrue = (below : ℕ → ℕ → Bool) → IsSubordination Circle [] below → (S : ℕ → Bool) → SelfContained Circle [] S → S 2 ≡ true → (Σ' : Signature) → Extends S Circle Σ' → (G : List LfType) (w : World Σ' [] S G) (F : Known) (υ : ℕ → Image) (T : Spine) (h : HoldsApart w 4 circle_case F υ T) → GivesHead w 4 circle_case h.holds.instances h.holds.values 0 refl_offer → HoldsBack w 4 circle_case h.holds.instances h.holds.values circle_case × HoldsTrue w 4 circle_over circle_after circle_left F υ T

-- z, refl z, n, [x] z and z for Z, X, W, K and T are a typed unifier of the head's store; with [x] a for K they are
-- none.
abbrev pub eq_kind : Kind
eq_kind = kind_pi nat (kind_pi nat star)

abbrev pub CircleIsUnified : Type 0
CircleIsUnified = (below : ℕ → ℕ → Bool) (θ : ℕ → ℕ → Image) → Solution Circle [] (read_store 4 [] θ (store_of below refl_offer eq_kind)) [] (circle_terms z) × (Solution Circle [] (read_store 4 [] θ (store_of below refl_offer eq_kind)) [] (circle_terms (root (constant 1) nil)) → ⊥)

-- So steps don't refute the store.
abbrev pub CircleIsNotRefuted : Type 0
CircleIsNotRefuted = (below : ℕ → ℕ → Bool) → NumberedUnifierFinds Circle 4 below refl_offer eq_kind None → ⊥

-- The case over which K W = T is shown is typed; and X is refl where it is refl z, and isn't where it is n.
abbrev pub CircleHasHead : Type 0
CircleHasHead = IsTypedNumberedCase Circle 4 [] circle_over × ((θ : ℕ → ℕ → Image) → HasHead 4 refl_offer θ (λ i. circle_values (suc i)) × (HasHead 4 refl_offer θ (in_front (put (base 2) (root (constant 2) nil)) keep) → ⊥))
