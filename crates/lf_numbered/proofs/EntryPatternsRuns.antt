-- Runs of cases with block variables by number that end well cover their goals.
use Rattle.std.proofs.Common.{◌≡◌, ℕ, List, [], ◌∷◌, length, ◌≤◌, refl, inl, inr, arith}
use Rattle.std.specs.Prelude.{Bool, Some}
use Rattle.lf.specs.Syntax.{Spine, LfType}
use Rattle.lf.specs.Substitution.{Image}
use Rattle.lf.specs.Typing.{Signature}
use Rattle.lf.specs.Subordination.{Block, Member}
use Rattle.lf.specs.Worlds.{World}
use Rattle.lf.specs.Extension.{Extends}
use Rattle.lf_cases.specs.Case.{covered_places}
use Rattle.lf_cases.specs.Pattern.{Pattern, Known, OneCovers}
use Rattle.lf_cases.specs.Split.{Ends, AllEnd, at_leaf, by_split, no_case, next_case}
use Rattle.lf_cases.proofs.Split.{one_covers_alike}
use Rattle.lf_numbered.specs.EntryPatternsRuns.{HoldsApart, OneHoldsApart, IsCoveredByNumber, IsLikeByNumber, IsNumberedSplit, HasOneBlock}
use Rattle.lf_numbered.specs.NumberedCase.{NumberedCase}
use Rattle.lf_numbered.specs.NumberedInstance.{block_at}
use Rattle.lf_numbered.specs.OwnTerms.{BlockVariable}
use Rattle.lf_numbered.proofs.EntryPatternsNumbers.{inside_list}

module _ (Σ : Signature) (first : ℕ) (W : List Block) (S : ℕ → Bool) (ps : List Pattern) (Leaf : NumberedCase → Type 0) (leaf : (D : NumberedCase) → Leaf D → IsCoveredByNumber Σ first W S ps D) where
  mutual
    held_apart_covered : {C : NumberedCase} → Ends Leaf (IsNumberedSplit Σ first W S) C → (Σ' : Signature) → Extends S Σ Σ' → (G : List LfType) (w : World Σ' W S G) (F : Known) (σ : ℕ → Image) (T : Spine) → HoldsApart w first C F σ T → OneCovers w ps (covered_places C.arguments) F C.given σ T
    held_apart_covered {C} (at_leaf l) Σ' x G w F σ T h = leaf C l Σ' x G w F σ T h.holds
    held_apart_covered {C} (by_split Cs s a) Σ' x G w F σ T h = one_apart_covered C Cs s.like a Σ' x G w F σ T (s.holds Σ' x G w F σ T h)

    one_apart_covered : (C : NumberedCase) (Cs : List NumberedCase) → ((D : NumberedCase) → Member D Cs → IsLikeByNumber C D) → AllEnd Leaf (IsNumberedSplit Σ first W S) Cs → (Σ' : Signature) → Extends S Σ Σ' → (G : List LfType) (w : World Σ' W S G) (F : Known) (σ : ℕ → Image) (T : Spine) → OneHoldsApart w first Cs F σ T → OneCovers w ps (covered_places C.arguments) F C.given σ T
    one_apart_covered C [] l no_case Σ' x G w F σ T h = absurd h
    one_apart_covered C (D ∷ Ds) l (next_case e a) Σ' x G w F σ T (inl h) =
        let k = l D (inl refl) in
        one_covers_alike w ps (covered_places C.arguments) (covered_places D.arguments) F C.given D.given σ T k.places k.given (held_apart_covered e Σ' x G w F σ T h)
    one_apart_covered C (D ∷ Ds) l (next_case e a) Σ' x G w F σ T (inr h) = one_apart_covered C Ds (λ E m. l E (inr m)) a Σ' x G w F σ T h

  -- one block variable alone is no other
  pub run_covers : (C : NumberedCase) → HasOneBlock C → Ends Leaf (IsNumberedSplit Σ first W S) C → IsCoveredByNumber Σ first W S ps C
  run_covers C n e Σ' x G w F σ T h = held_apart_covered e Σ' x G w F σ T (record { holds = h; are_apart = λ j k b c p q i f. one C.blocks j k b c n p q })
    where
      one : (bs : List BlockVariable) (j k : ℕ) (b c : BlockVariable) → length bs ≤ 1 → block_at bs j ≡ Some b → block_at bs k ≡ Some c → j ≡ k
      one bs j k b c n p q = let i = inside_list bs j b p in let l = inside_list bs k c q in omega (arith, n, i, l)
