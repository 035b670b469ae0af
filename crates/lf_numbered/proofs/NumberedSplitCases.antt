-- The cases of a split by number: each that is listed is one, and comes by a new block variable, perhaps, and a split.
use Rattle.std.proofs.Common.{◌≡◌, ℕ, List, sym, subst}
use Rattle.std.specs.Prelude.{Bool, Some}
use Rattle.lf.specs.Subordination.{Block, AreTypedBlocks, Member}
use Rattle.lf.specs.Syntax.{Kind}
use Rattle.lf.specs.Typing.{Signature, IsSignature}
use Rattle.lf.specs.Variables.{target}
use Rattle.lf_coverage.proofs.Forms.{far_type}
use Rattle.lf_coverage.proofs.Listed.{offer_of_case}
use Rattle.lf_numbered.specs.EntryConstants.{IsFreeFrom}
use Rattle.lf_numbered.specs.NumberedBeside.{IsUnifiedByNumber}
use Rattle.lf_numbered.specs.NumberedCallsOutside.{IsSplitCaseByNumber}
use Rattle.lf_numbered.specs.NumberedCase.{NumberedCase}
use Rattle.lf_numbered.specs.NumberedSplits.{NumberedOffer, IsOfferTo, of_case, of_new_block, NumberedUnifierFinds, IsAnsweredByNumber}
use Rattle.lf_numbered.specs.OwnStores.{ComesByNumbers, no_split, then_block, then_split}
use Rattle.lf_numbered.specs.TypedNumbered.{IsTypedNumberedCase}
use Rattle.lf_numbered.proofs.OwnStoresTyped.{numbered_run_stays_typed}

pub unified_case : (Σ : Signature) (first : ℕ) (W : List Block) (below : ℕ → ℕ → Bool) (C : NumberedCase) (x : ℕ) (Cs : List NumberedCase) → IsUnifiedByNumber Σ first W below C x Cs → (D : NumberedCase) → Member D Cs → IsSplitCaseByNumber Σ first W below C x D
unified_case Σ first W below C x Cs u D m =
    let (o, k, a) = offer_of_case u.listed D m in
    record { type = u.type; at = u.at; offer = o; is_offered = u.each o k; kind = a.kind; of_family = a.of_family; finds = a.finds }

pub answered_case : (Σ : Signature) (first : ℕ) (W : List Block) (below : ℕ → ℕ → Bool) (C : NumberedCase) (x : ℕ) (Cs : List NumberedCase) → IsAnsweredByNumber Σ first W below C x Cs → (D : NumberedCase) → Member D Cs → IsSplitCaseByNumber Σ first W below C x D
answered_case Σ first W below C x Cs a D m = unified_case Σ first W below C x Cs (record { type = a.type; at = a.at; offers = a.offers; each = a.each; every = a.every; listed = a.listed }) D m

pub split_comes : (Σ : Signature) (W : List Block) (first : ℕ) (below : ℕ → ℕ → Bool) (C D : NumberedCase) (x : ℕ) → IsSplitCaseByNumber Σ first W below C x D → ComesByNumbers Σ W first below C D
split_comes Σ W first below C D x sp = by sp.offer sp.is_offered sp.kind sp.of_family sp.finds
  where
    by : (o : NumberedOffer) → IsOfferTo Σ first W C x sp.type o → (K : Kind) → Σ.kinds (target o.type) ≡ Some K → NumberedUnifierFinds Σ first below o K (Some D) → ComesByNumbers Σ W first below C D
    by o (of_case h U A f) K q (after0, d, z) = subst (ComesByNumbers Σ W first below C) (sym z) (then_split x sp.type h U A K after0 no_split sp.at f q d)
    by o (of_new_block B c U A b n f) K q (after0, d, z) = subst (ComesByNumbers Σ W first below C) (sym z) (then_split o.variable o.type o.head U A K after0 (then_block B no_split b) (far_type B.some C.variables x sp.type sp.at) f q d)

-- So it is typed.
pub split_case_is_typed : (Σ : Signature) (ok : IsSignature Σ) (W : List Block) (typed : AreTypedBlocks Σ W) (first : ℕ) (free : IsFreeFrom Σ first) (below : ℕ → ℕ → Bool) (C : NumberedCase) → IsTypedNumberedCase Σ first W C → (x : ℕ) (D : NumberedCase) → IsSplitCaseByNumber Σ first W below C x D → IsTypedNumberedCase Σ first W D
split_case_is_typed Σ ok W typed first free below C tc x D sp = numbered_run_stays_typed Σ ok W typed first free below C tc D (split_comes Σ W first below C D x sp)
