-- The families in the types of items along a run.
use Rattle.std.proofs.Common.{◌≡◌, ℕ, List, sym, subst}
use Rattle.std.specs.Prelude.{◌+◌, Bool, true, Some}
use Rattle.lf.specs.Subordination.{Block, Member, SelfContained}
use Rattle.lf.specs.Syntax.{LfType, pi, atom}
use Rattle.lf.specs.Typing.{Signature}
use Rattle.lf.specs.Variables.{FamiliesIn, target}
use Rattle.lf_cases.specs.Case.{Case, items_context}
use Rattle.lf_cases.specs.Reached.{SplitHead, arguments_count, split_items}
use Rattle.lf_coverage.specs.HeadOrder.{Offer}
use Rattle.lf_coverage.specs.SplitStore.{AllFamiliesIn, split_store}
use Rattle.lf_coverage.specs.UnifiedSplit.{AnswersEachHead, HeadIsAnswered}
use Rattle.lf_coverage.proofs.Families.{solved_keeps_families, split_items_keep_families, store_families}
use Rattle.lf_coverage.proofs.Listed.{offer_of_case}

module _ (Σ : Signature) (W : List Block) (below : ℕ → ℕ → Bool) (T : ℕ → Bool) (sc : SelfContained Σ W T) where
  pub split_families : (C D : Case) (Cs : List Case) → AllFamiliesIn T (items_context C.items) → AnswersEachHead Σ W below C Cs → Member D Cs → AllFamiliesIn T (items_context D.items)
  split_families C D Cs f (x, sp) m = let (h, k, a) = offer_of_case sp.listed D m in by h (sp.are_offers.each h k) a
    where
      by : (h : Offer) → SplitHead Σ W C.items sp.type h.items h.moved h.head h.type → HeadIsAnswered Σ below C x sp.type h (Some D) → AllFamiliesIn T (items_context D.items)
      by h sh a =
          let (after, s, e) = a.finds in
          let fp : AllFamiliesIn T (items_context (split_items below sp.type h.items h.moved h.type)) = split_items_keep_families Σ W T sc below C.items f x sp.type sp.at h.items h.moved h.head h.type sh a.no_block in
          subst (λ (E : Case). AllFamiliesIn T (items_context E.items)) (sym e) (solved_keeps_families Σ T (split_store below x sp.type h.items h.moved h.head h.type a.kind) after (store_families T (items_context (split_items below sp.type h.items h.moved h.type)) fp) s C (h.moved + arguments_count h.type))

-- the family of a type
pub target_in : (T : ℕ → Bool) (X : LfType) → FamiliesIn T X → T (target X) ≡ true
target_in T (pi A B) (a, b) = target_in T B b
target_in T (atom a S) f = f
