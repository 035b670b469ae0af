-- Each place of an offer stands in a list of places, as `0, k` for the constant k of the signature.
use Rattle.std.proofs.Common.{◌≡◌, ℕ, zero, suc, List, [], ◌∷◌, length, sym, ap, ◌∙◌, subst}
use Rattle.std.specs.Prelude.{Some, None, cond}
use Rattle.lf.specs.Syntax.{constant, variable}
use Rattle.lf.specs.Variables.{same_number}
use Rattle.lf.specs.Subordination.{Block, Member}
use Rattle.lf_cases.specs.ClauseOrder.{StandsAt}
use Rattle.lf_coverage.proofs.Parts.{none_some, some_same}
use Rattle.lf_numbered.specs.EntryConstants.{EntryConstant, entry_constant}
use Rattle.lf_numbered.specs.NumberedCallsOrder.{HasNumberedRank, entry_rank, signature_rank, taken_rank}
use Rattle.lf_numbered.specs.NumberedCase.{NumberedCase}
use Rattle.lf_numbered.specs.NumberedSplits.{NumberedOffer}
use Rattle.lf_numbered.specs.OwnTerms.{blocks_of}

-- The place of an offer whose head is a constant of the signature, and the places of one whose head is that of an entry.
same_constant : {i j : ℕ} → constant i ≡ constant j → i ≡ j
same_constant p = cc

constant_or_variable : {i l : ℕ} → constant i ≡ variable l → ⊥
constant_or_variable p = cc

pub signature_rank_in : (first : ℕ) (W : List Block) (C : NumberedCase) (o : NumberedOffer) (k : ℕ) {p : NumberedOffer} → o ≡ p → p.head ≡ constant k → entry_constant zero first (blocks_of p.case.blocks) k ≡ None → (ranks : List (List ℕ)) → Member (0 ∷ k ∷ []) ranks → (r : List ℕ) → HasNumberedRank first W C o r → Member r ranks
signature_rank_in first W C o k e h n ranks m r s = by r s
  where
    is_head : o.head ≡ constant k
    is_head = ap (λ (x : NumberedOffer). x.head) e ∙ h

    no_entry : entry_constant zero first (blocks_of o.case.blocks) k ≡ None
    no_entry = ap (λ (x : NumberedOffer). entry_constant zero first (blocks_of x.case.blocks) k) e ∙ n

    by : (r : List ℕ) → HasNumberedRank first W C o r → Member r ranks
    by r (signature_rank l f g) = subst (λ i. Member (0 ∷ i ∷ []) ranks) (same_constant (sym is_head ∙ f)) m
    by r (entry_rank c w d f q s) = absurd (none_some (sym no_entry ∙ ap (entry_constant zero first (blocks_of o.case.blocks)) (same_constant (sym is_head ∙ f)) ∙ q))
    by r (taken_rank j f) = absurd (constant_or_variable (sym is_head ∙ f))

pub entry_rank_in : (first : ℕ) (W : List Block) (C : NumberedCase) (o : NumberedOffer) (c : ℕ) (d : EntryConstant) {p : NumberedOffer} → o ≡ p → p.head ≡ constant c → entry_constant zero first (blocks_of p.case.blocks) c ≡ Some d → (ranks : List (List ℕ)) → ((w : ℕ) → StandsAt w d.block W → Member (1 ∷ w ∷ length d.before ∷ cond (same_number d.number (length C.blocks)) zero (suc d.number) ∷ []) ranks) → (r : List ℕ) → HasNumberedRank first W C o r → Member r ranks
entry_rank_in first W C o c d e h q ranks m r s = by r s
  where
    is_head : o.head ≡ constant c
    is_head = ap (λ (x : NumberedOffer). x.head) e ∙ h

    is_entry : entry_constant zero first (blocks_of o.case.blocks) c ≡ Some d
    is_entry = ap (λ (x : NumberedOffer). entry_constant zero first (blocks_of x.case.blocks) c) e ∙ q

    by : (r : List ℕ) → HasNumberedRank first W C o r → Member r ranks
    by r (signature_rank l f g) = absurd (none_some (sym g ∙ ap (entry_constant zero first (blocks_of o.case.blocks)) (same_constant (sym f ∙ is_head)) ∙ is_entry))
    by r (entry_rank k w b f g s) =
        subst (λ (b : EntryConstant). StandsAt w b.block W → Member (1 ∷ w ∷ length b.before ∷ cond (same_number b.number (length C.blocks)) zero (suc b.number) ∷ []) ranks)
        (some_same (sym is_entry ∙ ap (entry_constant zero first (blocks_of o.case.blocks)) (same_constant (sym is_head ∙ f)) ∙ g)) (m w) s
    by r (taken_rank j f) = absurd (constant_or_variable (sym is_head ∙ f))

-- In a world with one block there is one place.
pub only_entry_rank_in : (first : ℕ) (B : Block) (C : NumberedCase) (o : NumberedOffer) (c : ℕ) (d : EntryConstant) {p : NumberedOffer} → o ≡ p → p.head ≡ constant c → entry_constant zero first (blocks_of p.case.blocks) c ≡ Some d → (ranks : List (List ℕ)) → Member (1 ∷ 0 ∷ length d.before ∷ cond (same_number d.number (length C.blocks)) zero (suc d.number) ∷ []) ranks → (r : List ℕ) → HasNumberedRank first (B ∷ []) C o r → Member r ranks
only_entry_rank_in first B C o c d e h q ranks m r s = entry_rank_in first (B ∷ []) C o c d e h q ranks first_place r s
  where
    first_place : (w : ℕ) → StandsAt w d.block (B ∷ []) → Member (1 ∷ w ∷ length d.before ∷ cond (same_number d.number (length C.blocks)) zero (suc d.number) ∷ []) ranks
    first_place zero b = m
    first_place (suc w) b = absurd b
