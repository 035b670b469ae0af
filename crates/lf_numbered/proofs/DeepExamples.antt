-- Worked: p b.x is a case of p X, and not the other way round; a deep goal is a case of itself, and that with one s
-- more isn't.
use Rattle.std.proofs.Common.{◌≡◌, ℕ, zero, suc, ◌<◌, List, [], ◌∷◌, inl, inr, refl, sym, ap, ◌∙◌, subst, arith}
use Rattle.std.specs.Prelude.{true, Option, Some, None}
use Rattle.lf.specs.Syntax.{Skeleton, Term, arrow, base, star, lambda, root, nil, app}
use Rattle.lf.specs.Substitution.{Image, substitute, reduce}
use Rattle.lf.specs.Depth.{depth, depth_limit}
use Rattle.lf.specs.SkeletonTyping.{TermSkeleton}
use Rattle.lf.specs.Skeletons.{constant_skeletons}
use Rattle.lf.specs.Subordination.{AreTypedBlocks}
use Rattle.lf_totality.specs.Examples.{nat, successor, var, z}
use Rattle.lf_numbered.specs.DeepExamples.{DeepZeroIsItsCase, DeeperIsNoCase, EntryIsCaseOf}
use Rattle.lf_numbered.specs.EntryConstants.{IsFreeFrom, with_entries}
use Rattle.lf_coverage.specs.Examples.{number}
use Rattle.lf_coverage.specs.ExamplesStuck.{Zeros}
use Rattle.lf_numbered.specs.NumberedCallsExamples.{deep_zero}
use Rattle.lf_numbered.specs.NumberedCallsReached.{numbered_goal}
use Rattle.lf_numbered.specs.NumberedInstance.{move, moved_constant}
use Rattle.lf_numbered.specs.NumberedSplitsExamples.{Bare, entry_case, exp_block, open_case}
use Rattle.lf_numbered.specs.OwnTerms.{OnOwnTerms, TypeOnOwnTerms, own_terms}
use Rattle.lf_numbered.specs.TypedNumbered.{IsTypedNumberedCase}
use Rattle.lf_numbered.proofs.DeepCases.{deep_run_is_of_goal, reached_is_case_of, split_case_is_case_of}
use Rattle.lf_coverage.proofs.ExamplesOrder.{depth_is}
use Rattle.lf_coverage.proofs.ExamplesStuck.{zeros_ok}
use Rattle.lf_numbered.proofs.FreeFrom.{free_from}
use Rattle.lf_numbered.proofs.NumberedCallsOpen.{open_gives_entry}
use Rattle.lf_numbered.proofs.NumberedReachedExamples.{entry_is_numbered_instance}
use Rattle.lf_numbered.proofs.NumberedSplitsExamples.{bare_ok, blocks_typed, free as bare_free, open_typed}
use Rattle.lf_coverage.proofs.UsedVariables.{types_of_one}

pub entry_is_case_of : EntryIsCaseOf
entry_is_case_of = (split_case_is_case_of Bare bare_ok (exp_block ∷ []) blocks_typed 2 bare_free (λ a b. true) open_case open_typed 0 entry_case (open_gives_entry (λ a b. true)), λ c. entry_is_numbered_instance.1 (λ k. k) c.values c.is_instance)

no_blocks : AreTypedBlocks Zeros []
no_blocks B m = absurd m

free : IsFreeFrom Zeros 3
free = free_from Zeros 3 (λ c. refl) (λ a. refl)

-- a number is typed
number_fits : (Γ : List Skeleton) (n : ℕ) → TermSkeleton (constant_skeletons (with_entries Zeros 3 [])) Γ (number n) (base 0)
unfolding number
number_fits Γ zero = (base 0, refl, refl)
number_fits Γ (suc n) = (arrow (base 0) (base 0), refl, (number_fits Γ n, refl))

number_own : (n : ℕ) → OnOwnTerms (own_terms 3 []) (number n)
unfolding number
number_own zero = (tt, tt)
number_own (suc n) = (tt, (number_own n, tt))

zero_typed : (n : ℕ) → IsTypedNumberedCase Zeros 3 [] (record { blocks = []; variables = nat ∷ []; given = []; local = []; family = 1; arguments = Some (number n) ∷ Some (var 0) ∷ None ∷ [] })
zero_typed n = record {
  variables = record { variables = (tt, (star, refl, tt)); on_own_terms = types_of_one (λ i A. TypeOnOwnTerms (own_terms 3 []) A) nat tt; blocks = tt };
  local = (tt, (star, refl, tt));
  local_on_own = tt;
  given = tt;
  given_on_own = tt;
  arguments = ((base 0, number_fits _ n), ((base 0, (base 0, refl, refl)), tt));
  arguments_on_own = (number_own n, (tt, tt));
}

deep_typed : IsTypedNumberedCase Zeros 3 [] deep_zero
deep_typed = zero_typed 4096

pub deep_zero_is_its_case : DeepZeroIsItsCase
deep_zero_is_its_case = (reached_is_case_of Zeros zeros_ok [] no_blocks 3 free (λ a b. true) [] deep_zero deep_typed deep_zero numbered_goal, λ below. deep_run_is_of_goal Zeros zeros_ok [] no_blocks 3 free below [] deep_zero deep_typed)

-- values and moved constants leave a number
number_stays : (σ : ℕ → Image) (n : ℕ) → substitute reduce σ (move (moved_constant 3 [] [] (λ k. k)) (number n)) ≡ number n
unfolding number
number_stays σ zero = refl
number_stays σ (suc n) = ap successor (number_stays σ n)

-- the argument of s
abbrev below_s : Term → Term
below_s (root h (app M S)) = M
below_s (root h nil) = z
below_s (lambda M) = z

one_more : (n : ℕ) → number (suc n) ≡ number n → ⊥
unfolding number
one_more zero e = cc
one_more (suc n) e = one_more n (ap below_s e)

abbrev first_term : List (Option Term) → Term
first_term (Some M ∷ Ms) = M
first_term (None ∷ Ms) = z
first_term [] = z

number_deep : (n : ℕ) → depth (number n) ≡ suc n → depth_limit < suc n → depth_limit < depth (number n)
number_deep n e l = subst (λ d. depth_limit < d) (sym e) l

first_same : (M N : Term) (Ms Ns : List (Option Term)) → ◌≡◌ {A = List (Option Term)} (Some M ∷ Ms) (Some N ∷ Ns) → M ≡ N
first_same M N Ms Ns e = ap first_term e

pub deeper_is_no_case : DeeperIsNoCase
deeper_is_no_case = (zero_typed 4097, inr (inr (inr (inr (inl (number_deep 4097 (depth_is 4097) (omega arith)))))), λ c. one_more 4096 (first_same _ _ _ _ c.is_instance.arguments ∙ number_stays c.values 4096))
