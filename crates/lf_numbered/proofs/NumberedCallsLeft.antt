-- A split by number at which an equation is left outside the pattern fragment.
use Rattle.std.proofs.Common.{◌≡◌, ℕ, zero, suc, [], ◌∷◌, inl, refl, ap, ◌∙◌, arith}
use Rattle.std.specs.Prelude.{Bool, false, Option}
use Rattle.lf.specs.Syntax.{LfType, app, arrow, base, constant, metavariable, variable, nil, pi, root, star}
use Rattle.lf.specs.Typing.{Signature, IsSignature}
use Rattle.lf.specs.Subordination.{AreTypedBlocks}
use Rattle.lf_unification.specs.Solving.{IsWellFormed, Left, LeftOver}
use Rattle.lf_unification.specs.Steps.{Run, bind, drop_equal, no_step, then_run}
use Rattle.lf_unification.specs.Unifiers.{Store, on_left}
use Rattle.lf_unification.proofs.Runs.{run_left}
use Rattle.lf_totality.specs.Examples.{nat, on_two, z}
use Rattle.lf_coverage.specs.Examples.{two_nats}
use Rattle.lf_coverage.specs.ExamplesStuck.{Zeros}
use Rattle.lf_coverage.specs.SplitStore.{context_metavariables}
use Rattle.lf_coverage.proofs.ExamplesStuck.{zeros_ok}
use Rattle.lf_coverage.proofs.FlexibleLeft.{flexible_is_left, some_left, store_left}
use Rattle.lf_coverage.proofs.NoArgument.{no_argument_of}
use Rattle.lf_coverage.proofs.UsedVariables.{types_of_two}
use Rattle.lf_numbered.specs.EntryConstants.{IsFreeFrom, with_entries}
use Rattle.lf_numbered.specs.NumberedCallsExamples.{LeavingIsOutside, leaving_case, left_equation}
use Rattle.lf_numbered.specs.NumberedCallsOutside.{SplitLeavesByNumber}
use Rattle.lf_numbered.specs.NumberedCase.{NumberedCase}
use Rattle.lf_numbered.specs.NumberedSplits.{NumberedOffer, IsOfferTo, of_case, of_new_block}
use Rattle.lf_numbered.specs.OwnStores.{IsNumberedOffer, numbered_store, offer_signature}
use Rattle.lf_numbered.specs.OwnTerms.{own_terms, TypeOnOwnTerms}
use Rattle.lf_numbered.specs.TypedNumbered.{IsTypedNumberedCase}
use Rattle.lf_numbered.proofs.EntrySignature.{with_entries_is_signature}
use Rattle.lf_numbered.proofs.FreeFrom.{free_from}
use Rattle.lf_numbered.proofs.OwnStoresStart.{numbered_store_is_ready}

no_blocks : AreTypedBlocks Zeros []
no_blocks B m = absurd m

free : IsFreeFrom Zeros 3
free = free_from Zeros 3 (λ c. refl) (λ a. refl)

abbrev Entries : Signature
Entries = with_entries Zeros 3 []

entries_ok : IsSignature Entries
entries_ok = with_entries_is_signature Zeros zeros_ok 3 free [] no_blocks

leaving_typed : IsTypedNumberedCase Zeros 3 [] leaving_case
leaving_typed = record {
  variables = record { variables = ((tt, ((star, refl, tt), (star, refl, tt))), (two_nats, refl, ((nat, refl, refl), ((pi nat nat, refl, ((nat, refl, refl), refl)), tt)))); on_own_terms = types_of_two (λ i A. TypeOnOwnTerms (own_terms 3 leaving_case.blocks) A) (on_two 2 z (root (variable 0) (app z nil))) (pi nat nat) ((tt, tt), (((tt, tt), tt), tt)) (tt, tt); blocks = tt };
  local = ((tt, ((star, refl, tt), (star, refl, tt))), (two_nats, refl, ((nat, refl, refl), ((pi nat nat, refl, ((nat, refl, refl), refl)), tt))));
  local_on_own = tt;
  given = tt;
  given_on_own = tt;
  arguments = ((base 0, (base 0, refl, refl)), ((base 0, (arrow (base 0) (base 0), refl, ((base 0, refl, refl), refl))), tt));
  arguments_on_own = ((tt, tt), (((tt, tt), tt), tt));
}

abbrev left_type : LfType
left_type = on_two 2 z (root (variable 1) (app z nil))

abbrev left_types : ℕ → Option LfType
left_types = context_metavariables (on_two 2 z (root (variable 0) (app z nil)) ∷ pi nat nat ∷ [])

abbrev left_after : Store
left_after = store_left (on_two 2 z (root (variable 0) (app z nil))) 0 0 (root (constant 2) nil) 0 0 nat

abbrev left_over : LeftOver left_types left_after left_equation
left_over = flexible_is_left (on_two 2 z (root (variable 0) (app z nil))) 0 0 (root (constant 2) nil) 0 0 nat

abbrev proof_offer : NumberedOffer
proof_offer = record { case = leaving_case; variable = 0; type = left_type; head = constant 2; terms = nil; left = on_two 2 z z }

module _ (below : ℕ → ℕ → Bool) where
  is_offered : IsNumberedOffer Zeros 3 leaving_case left_type (constant 2) nil (on_two 2 z z)
  is_offered = offer_signature 2 (on_two 2 z z) refl refl

  abbrev store : Store
  store = numbered_store below leaving_case 0 left_type (constant 2) nil (on_two 2 z z) two_nats

  ready : IsWellFormed Entries store
  ready = numbered_store_is_ready Zeros zeros_ok [] no_blocks 3 free below leaving_case leaving_typed 0 left_type refl (constant 2) nil (on_two 2 z z) is_offered two_nats refl

  run : Run Entries store left_after
  run = then_run (bind {A = on_two 2 z (root (metavariable 1) (app z nil))} on_left [] 0 [] (root (constant 2) nil) (on_two 2 z (root (metavariable 1) (app z nil))) refl tt (no_argument_of 2) (record { inverted = record { inversion = root (constant 2) nil; is = refl }; reached = λ k. false; avoids = ((λ k A v e. absurd v), tt, λ v. v); within = tt })) (then_run drop_equal no_step)

  is_left : Left Entries store left_after
  is_left = run_left Entries entries_ok ready run some_left (left_over, tt)

  leaves : SplitLeavesByNumber Zeros 3 [] below leaving_case 0 leaving_case left_equation
  unfolding flexible_is_left
  leaves = record { type = left_type; at = refl; offer = proof_offer; is_offered = of_case (constant 2) nil (on_two 2 z z) is_offered; is_over = refl; kind = two_nats; of_family = refl; after = left_after; left = is_left; equation = left_equation; listed = inl refl; left_over = left_over; is_shown = refl }

of_this_case : (x : ℕ) (X : LfType) (o : NumberedOffer) → IsOfferTo Zeros 3 [] leaving_case x X o → o.case.family ≡ 2
of_this_case x X o (of_case h U A f) = refl
of_this_case x X o (of_new_block B c U A m n f) = absurd m

one_is_two : suc zero ≡ suc (suc zero) → ⊥
one_is_two p = omega (arith, p)

pub leaving_is_outside : LeavingIsOutside
leaving_is_outside below = (leaves below, λ s. one_is_two (ap (λ (C : NumberedCase). C.family) s.is_over ∙ of_this_case 0 s.type s.offer s.is_offered))
