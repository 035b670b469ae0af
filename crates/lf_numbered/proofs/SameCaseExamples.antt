-- Worked cases that don't hold the same tuples.
use Rattle.std.proofs.Common.{[], None, refl}
use Rattle.std.specs.Prelude.{true}
use Rattle.lf.specs.AtOnce.{in_front}
use Rattle.lf.specs.Substitution.{keep, put}
use Rattle.lf.specs.Syntax.{app, base, nil}
use Rattle.lf.specs.Worlds.{no_variables}
use Rattle.lf_totality.specs.Examples.{Addition, nat, plus_input_goal, z}
use Rattle.lf_totality.proofs.Addition.{addition_ok}
use Rattle.lf_totality.proofs.After.{Extends-self}
use Rattle.lf_numbered.specs.EntryPatternsRuns.{HoldsByNumber}
use Rattle.lf_numbered.specs.Numbering.{numbered}
use Rattle.lf_numbered.specs.OnlyExamples.{successor_case}
use Rattle.lf_numbered.specs.SameCaseExamples.{OpenHoldsMore}
use Rattle.lf_numbered.specs.SameCaseHolds.{HoldSame}
use Rattle.lf_numbered.proofs.NeededRunsExamples.{successor_is_covered}
use Rattle.lf_numbered.proofs.NumberedNeedsPlus.{addition_setting, plus_has_needs}
use Rattle.lf_numbered.proofs.SameCaseHolds.{same_case_holds_same}

-- z, z, z in the empty context
zero_held : HoldsByNumber {Σ = Addition} {W = []} {S = λ a. true} no_variables 4 (numbered 4 plus_input_goal) None keep (app z (app z (app z nil)))
zero_held = record {
  instances = λ k. keep;
  values = in_front (put (base 0) z) (in_front (put (base 0) z) keep);
  is_ground = record { values = (z, in_front (put (base 0) z) keep, (z, keep, refl, (nat, refl, refl), refl), (nat, refl, refl), refl); instances = tt };
  zeroth = tt;
  given = λ i M e. absurd cc;
  has_arguments = (refl, (refl, tt));
}

more : HoldSame Addition 4 (numbered 4 plus_input_goal) successor_case → ⊥
more h = no ((h [] (λ B m. absurd m) (λ a. true) Addition (Extends-self (λ a. true) Addition addition_ok) [] no_variables None keep (app z (app z (app z nil)))).0.0 zero_held)
  where
    no : HoldsByNumber {Σ = Addition} {W = []} {S = λ a. true} no_variables 4 successor_case None keep (app z (app z (app z nil))) → ⊥
    no n = let q = n.has_arguments.0 in absurd cc

pub open_holds_more : OpenHoldsMore
open_holds_more = (more, λ s. more (same_case_holds_same Addition addition_setting.signature 4 addition_setting.free [] [] (numbered 4 plus_input_goal) successor_case plus_has_needs.0.case successor_is_covered.0.case s))
