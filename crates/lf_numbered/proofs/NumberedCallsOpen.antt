-- The worked split by an entry alone, as the answer of a call: the case that it gives, in its place, which is an instance of the entry.
use Rattle.std.proofs.Common.{◌≡◌, ℕ, zero, suc, List, [], ◌∷◌, length, inl, inr, refl, sym, ap, ◌∙◌, subst}
use Rattle.std.specs.Prelude.{Bool, cond}
use Rattle.lf.specs.Syntax.{app, nil, root, star, variable}
use Rattle.lf.specs.Subordination.{Member}
use Rattle.lf.specs.Variables.{same_number}
use Rattle.lf_checks.specs.Below.{IsSubordination}
use Rattle.lf_cases.specs.ClauseOrder.{StandsAt}
use Rattle.lf_coverage.specs.Listed.{with_case, no_offer}
use Rattle.lf_coverage.proofs.Parts.{none_some, some_same}
use Rattle.lf_numbered.specs.EntryConstants.{EntryConstant, entry_constant}
use Rattle.lf_numbered.specs.EntryPatterns.{IsInstanceOfPattern}
use Rattle.lf_numbered.specs.NumberedCalls.{ListsCases, NumberedSplitIs, numbered_cases}
use Rattle.lf_numbered.specs.NumberedCallsOrder.{HasNumberedRank, entry_rank, one_in_order, signature_rank, taken_rank}
use Rattle.lf_numbered.specs.NumberedCallsOutside.{IsSplitCaseByNumber}
use Rattle.lf_numbered.specs.NumberedSplits.{NumberedOffer}
use Rattle.lf_numbered.specs.NumberedSplitsExamples.{Bare, entry_case, exp, exp_block, has_head, open_case}
use Rattle.lf_numbered.proofs.EntryPatternsOne.{one_instance}
use Rattle.lf_numbered.proofs.NumberedSplits.{is_split}
use Rattle.lf_numbered.proofs.NumberedSplitsExamples.{bare_ok, blocks_typed, each, entry_found, every, free, open_is_answered, open_typed, the_offer}

abbrev the_entry : EntryConstant
the_entry = record { number = 0; block = exp_block; from = 2; place = 1; entry = exp; before = [] }

abbrev the_rank : List ℕ
the_rank = 1 ∷ 0 ∷ 0 ∷ 0 ∷ []

rank_is : (r : List ℕ) → HasNumberedRank 2 (exp_block ∷ []) open_case the_offer r → r ≡ the_rank
rank_is r (signature_rank k e n) = absurd (none_some (sym n ∙ ap (entry_constant 0 2 (exp_block ∷ [])) (sym (let p : 2 ≡ k = cc in p))))
rank_is r (entry_rank c w e h q s) =
    subst (λ (d : EntryConstant). StandsAt w d.block (exp_block ∷ []) → (1 ∷ w ∷ length d.before ∷ cond (same_number d.number (length open_case.blocks)) 0 (suc d.number) ∷ []) ≡ the_rank)
    (some_same (ap (entry_constant 0 2 (exp_block ∷ [])) (let p : 2 ≡ c = cc in p) ∙ q)) (at w) s
  where
    at : (w : ℕ) → StandsAt w exp_block (exp_block ∷ []) → (1 ∷ w ∷ 0 ∷ 0 ∷ []) ≡ the_rank
    at zero t = refl
    at (suc w) t = absurd t
rank_is r (taken_rank j e) = absurd cc

open_is_listed : (below : ℕ → ℕ → Bool) → ListsCases Bare 2 (exp_block ∷ []) below open_case 0 (entry_case ∷ [])
open_is_listed below = record {
  unified = record {
    type = exp;
    at = refl;
    offers = the_offer ∷ [];
    each = each;
    every = every;
    listed = with_case (record { kind = star; of_family = refl; finds = entry_found below }) no_offer;
  };
  ranks = the_rank ∷ [];
  in_order = one_in_order (entry_rank 2 0 the_entry refl refl refl);
  every_rank = λ o r f h. inl (rank_is r (subst (λ p. HasNumberedRank 2 (exp_block ∷ []) open_case p r) (the_only o (every o f)) h));
}
  where
    the_only : (o : NumberedOffer) → Member o (the_offer ∷ []) → o ≡ the_offer
    the_only o (inl e) = e
    the_only o (inr m) = absurd m

pub open_is_split_answer : (below : ℕ → ℕ → Bool) → IsSubordination Bare (exp_block ∷ []) below → NumberedSplitIs Bare 2 (exp_block ∷ []) below open_case 0 (numbered_cases (entry_case ∷ []))
unfolding open_is_listed open_is_answered
open_is_split_answer below s = record { lists = open_is_listed below; holds = λ b ob S sc f. is_split Bare bare_ok (exp_block ∷ []) blocks_typed below s S sc 2 free open_case open_typed 0 (entry_case ∷ []) (open_is_answered below) f }

pub open_gives_entry : (below : ℕ → ℕ → Bool) → IsSplitCaseByNumber Bare 2 (exp_block ∷ []) below open_case 0 entry_case
open_gives_entry below = record { type = exp; at = refl; offer = the_offer; is_offered = each the_offer (inl refl); kind = star; of_family = refl; finds = entry_found below }

-- p b.x is an instance of u : p x.
pub entry_is_instance : IsInstanceOfPattern Bare 2 entry_case has_head
entry_is_instance = one_instance Bare 2 exp_block.label 0 1 2 (app (root (variable 0) nil) nil) entry_case.arguments refl refl refl ((refl, tt), tt) ((refl, tt), tt) (refl, tt)
