-- A split by unification of a case whose block variables have numbers is a split.
use Rattle.std.proofs.Common.{◌≡◌, ℕ, zero, List, [], ◌∷◌, ◌+◌, ◌<◌, ◌≤◌, length, ◌⊎◌, inl, inr, Option, Some, None, refl, sym, ap, ◌∙◌, subst, arith}
use Rattle.std.specs.Prelude.{Bool, true, false}
use Rattle.lf.specs.Syntax.{Head, constant, Term, Spine, root, LfType, skeleton, rename_type}
use Rattle.lf.specs.Substitution.{Image, keep, put, substitute_type, reduce}
use Rattle.lf.specs.AtOnce.{shift_by, lift_renaming_by}
use Rattle.lf.specs.Eta.{lambdas}
use Rattle.lf.specs.Typing.{Signature, TypeAt, IsSignature}
use Rattle.lf.specs.Variables.{target}
use Rattle.lf.specs.Subordination.{Block, AreTypedBlocks, Member, SelfContained}
use Rattle.lf.specs.Worlds.{World, lift_over}
use Rattle.lf.specs.Extension.{Extends}
use Rattle.lf.proofs.Target.{target_of, target_renamed}
use Rattle.lf.proofs.TypeLaws.{skeleton_renamed}
use Rattle.lf_checks.specs.Below.{IsSubordination}
use Rattle.lf_unification.specs.Offering.{local_arguments}
use Rattle.lf_cases.specs.Case.{covered_places}
use Rattle.lf_cases.specs.Reached.{arguments_count, taken}
use Rattle.lf_coverage.specs.OrElse.{or_else}
use Rattle.lf_coverage.specs.Heads.{ArgumentsAreBelow}
use Rattle.lf_coverage.specs.SplitStore.{answer_values}
use Rattle.lf_coverage.proofs.Forms.{far_type}
use Rattle.lf_coverage.proofs.HeadSplit.{places_put_in}
use Rattle.lf_coverage.proofs.HeadTerm.{taken_length}
use Rattle.lf_coverage.proofs.Listed.{answer_of, offer_of_case}
use Rattle.lf_coverage.proofs.Parts.{none_some, some_same}
use Rattle.lf_numbered.specs.EntryConstants.{EntryConstant, IsFreeFrom, entry_constant, entry_constant_type, entry_images, entry_type, with_entries}
use Rattle.lf_numbered.specs.EntryPatternsRuns.{IsLikeByNumber, IsNumberedSplit}
use Rattle.lf_numbered.specs.EntryPatternsSplits.{HoldsAs, OneHoldsAs}
use Rattle.lf_numbered.specs.NewBlock.{rename_all, with_new_block}
use Rattle.lf_numbered.specs.NewInstance.{AreApart, with_instance}
use Rattle.lf_numbered.specs.NumberedBeside.{TakesIn}
use Rattle.lf_numbered.specs.NumberedCase.{NumberedCase, IsNumberedInstance}
use Rattle.lf_numbered.specs.NumberedHeads.{IsNumberedHead, IsNewEntry}
use Rattle.lf_numbered.specs.NumberedSplits.{NumberedOffer, IsOfferTo, of_case, of_new_block, NumberedAnswer, IsAnsweredByNumber, AnsweredByNumberIsSplit}
use Rattle.lf_numbered.specs.Numbering.{entries_of}
use Rattle.lf_numbered.specs.OwnStores.{solved_numbered}
use Rattle.lf_numbered.specs.OwnTerms.{blocks_of}
use Rattle.lf_numbered.specs.Reading.{entry_reading}
use Rattle.lf_numbered.specs.TypedNumbered.{IsTypedNumberedCase}
use Rattle.lf_numbered.proofs.EntryPatternsSplits.{instances_make_split, new_block_holds_as}
use Rattle.lf_numbered.proofs.HeadsOverEntries.{of_type as entry_has_type, reads as entry_reads}
use Rattle.lf_numbered.proofs.NewInstance.{new_instance_is_of_new_block}
use Rattle.lf_numbered.proofs.NumberedCandidatesTypes.{families_take, takes_in_target, takes_same}
use Rattle.lf_numbered.proofs.NumberedHeads.{numbered_heads_are_all, target_over}
use Rattle.lf_numbered.proofs.NumberedSplitsAnswers.{AnswersHold, answer_holds, entry_answer_holds}
use Rattle.lf_numbered.proofs.OwnStoresNewBlock.{new_block_stays_typed}
use Rattle.lf_numbered.proofs.StaysApart.{new_instance_stays_apart}
use Rattle.lf_numbered.proofs.WritingChoice.{entry_below}
use Rattle.lf_numbered.proofs.WritingLow.{below_same}

pub places_renamed : (ρ : ℕ → ℕ) (Ms : List (Option Term)) → covered_places (rename_all ρ Ms) ≡ covered_places Ms
places_renamed ρ [] = refl
places_renamed ρ (Some M ∷ Ms) = ap (λ b. true ∷ b) (places_renamed ρ Ms)
places_renamed ρ (None ∷ Ms) = ap (λ b. false ∷ b) (places_renamed ρ Ms)

solved_is_like : (E : NumberedCase) (k : ℕ) (s : Rattle.lf_unification.specs.Unifiers.Store) (order : List Rattle.lf_unification.specs.Dependency.ListedMetavariable) → IsLikeByNumber E (solved_numbered E k s order)
solved_is_like E k s order = record {
  family = refl;
  places = places_put_in (lift_over E.local (λ i. answer_values s order (i + k))) E.arguments;
  given = places_put_in (λ i. answer_values s order (i + k)) E.given;
}

new_is_like : (B : Block) (C D : NumberedCase) → IsLikeByNumber (with_new_block B C) D → IsLikeByNumber C D
new_is_like B C D l = record {
  family = l.family;
  places = l.places ∙ places_renamed (lift_renaming_by (length C.local) (shift_by (length B.some))) C.arguments;
  given = l.given ∙ places_renamed (shift_by (length B.some)) C.given;
}

holds_then : (first : ℕ) (C D E : NumberedCase) (θ χ ψ : ℕ → ℕ → Image) (σ ρ τ : ℕ → Image) → HoldsAs first C θ σ D χ ρ → HoldsAs first D χ ρ E ψ τ → HoldsAs first C θ σ E ψ τ
holds_then first C D E θ χ ψ σ ρ τ a b = record {
  arguments = λ T h. b.arguments T (a.arguments T h);
  given = λ υ h. b.given υ (a.given υ h);
  zeroth = λ F h. b.zeroth F (a.zeroth F h);
}

module _ (Σ : Signature) (ok : IsSignature Σ) (W : List Block) (typed : AreTypedBlocks Σ W) (below : ℕ → ℕ → Bool) (s : IsSubordination Σ W below) (S : ℕ → Bool) (sc : SelfContained Σ W S) (first : ℕ) (free : IsFreeFrom Σ first) (C : NumberedCase) (tc : IsTypedNumberedCase Σ first W C) (x : ℕ) (Cs : List NumberedCase) (sp : IsAnsweredByNumber Σ first W below C x Cs) (fams : TakesIn S sp.type) where
  abbrev X : LfType
  X = sp.type

  like : (D : NumberedCase) → Member D Cs → IsLikeByNumber C D
  like D m =
      let (o, k, a) = offer_of_case sp.listed D m in
      let (after0, d, z) = a.finds in
      by o (sp.each o k) (subst (IsLikeByNumber o.case) (sym z) (solved_is_like o.case (arguments_count o.left) after0 d.well_formed.order))
    where
      by : (o : NumberedOffer) → IsOfferTo Σ first W C x X o → IsLikeByNumber o.case D → IsLikeByNumber C D
      by o (of_case h U A f) l = l
      by o (of_new_block B c U A b q f) l = new_is_like B C D l

  module _ (Σ' : Signature) (ext : Extends S Σ Σ') (G : List LfType) (w : World Σ' W S G) (θ : ℕ → ℕ → Image) (σ : ℕ → Image) (inst : IsNumberedInstance w first C θ σ) (apart : AreApart C θ) where
    -- The answer to an offer, for a case that holds what C holds.
    answered : (E : NumberedCase) (te : IsTypedNumberedCase Σ first W E) (χ : ℕ → ℕ → Image) (τ : ℕ → Image) (i : IsNumberedInstance w first E χ τ) (ap' : AreApart E χ) (y : ℕ) (Y : LfType) (at : TypeAt E.variables y Y) (f : TakesIn S Y) (a : ArgumentsAreBelow below Y) (h0 : Head) (T : Spine) (e : τ y ≡ put (skeleton Y) (lambdas (length (taken Y)) (root h0 T))) → HoldsAs first C θ σ E χ τ → (h : Head) (U : Spine) (A : LfType) → IsOfferTo Σ first W C x X (record { case = E; variable = y; type = Y; head = h; terms = U; left = A }) → AnswersHold Σ Σ' ok S ext W typed below s sc first free E te w χ τ i ap' y Y at f a h0 T e h U A → OneHoldsAs w first C θ σ Cs
    answered E te χ τ i ap' y Y at f a h0 T e holds h U A offer hold = by (answer_of sp.listed o (sp.every o offer))
      where
        o : NumberedOffer
        o = record { case = E; variable = y; type = Y; head = h; terms = U; left = A }

        by : ((D : NumberedCase) × Member D Cs × NumberedAnswer Σ first below o (Some D)) ⊎ NumberedAnswer Σ first below o None → OneHoldsAs w first C θ σ Cs
        by (inl (D, m, ans)) =
            let (D', q, (ρ, j, apart', k)) = hold (sp.arguments_below o offer) ans.kind ans.of_family (Some D) ans.finds in
            (D', subst (λ Z. Member Z Cs) (some_same q) m, χ, ρ, j, apart', holds_then first C E D' θ χ χ σ τ ρ holds k)
        by (inr ans) = let (D', q, r) = hold (sp.arguments_below o offer) ans.kind ans.of_family None ans.finds in absurd (none_some q)

    same : HoldsAs first C θ σ C θ σ
    same = record { arguments = λ T h. h; given = λ υ h. h; zeroth = λ F h. h }

    -- a head of the case itself
    old_head : (h0 : Head) (T : Spine) → σ x ≡ put (skeleton X) (lambdas (length (taken X)) (root h0 T)) → IsNumberedHead Σ first C θ (length (taken X)) (target X) h0 → OneHoldsAs w first C θ σ Cs
    old_head h0 T e k =
        let (h, U, A, offer, hold) = answer_holds Σ Σ' ok S ext W typed below s sc first free C tc w θ σ inst apart x X sp.at fams sp.takes_below h0 T e k in
        answered C tc θ σ inst apart x X sp.at fams sp.takes_below h0 T e same h U A (of_case h U A offer) hold

    -- an entry of a new instance
    new_entry : (h0 : Head) (T : Spine) → σ x ≡ put (skeleton X) (lambdas (length (taken X)) (root h0 T)) → IsNewEntry w C θ (length (taken X)) (target X) h0 → OneHoldsAs w first C θ σ Cs
    new_entry h0 T e z =
        let B : Block = z.block in
        let l : ℕ = length B.some in
        let E : NumberedCase = with_new_block z.block C in
        let te : IsTypedNumberedCase Σ first W E = new_block_stays_typed Σ ok W typed first free C tc B z.of_worlds in
        let χ : ℕ → ℕ → Image = with_instance (length C.blocks) z.instance θ in
        let (τ, j, p) = new_instance_is_of_new_block Σ Σ' ok S ext W typed first free C tc.variables G w θ σ inst B z.of_worlds z.instance z.in_context in
        let apart' : AreApart E χ = new_instance_stays_apart C θ apart B z.instance z.is_new in
        let Y : LfType = rename_type (shift_by l) X in
        let sk : skeleton Y ≡ skeleton X = skeleton_renamed (shift_by l) X in
        let n : length (taken Y) ≡ length (taken X) = taken_length (shift_by l) X [] [] refl in
        let at : TypeAt E.variables (x + l) Y = far_type B.some C.variables x X sp.at in
        let fY : TakesIn S Y = takes_same S X Y (sym sk) fams in
        let aY : ArgumentsAreBelow below Y = below_same below X Y (sym sk) sp.takes_below in
        let eY : τ (x + l) ≡ put (skeleton Y) (lambdas (length (taken Y)) (root h0 T)) = p x ∙ e ∙ ap (λ a. put a (lambdas (length (taken X)) (root h0 T))) (sym sk) ∙ ap (λ m. put (skeleton Y) (lambdas m (root h0 T))) (sym n) in
        let holds : HoldsAs first C θ σ E χ τ = new_block_holds_as Σ Σ' ok S ext W typed first free C tc B z.of_worlds G w θ σ inst z.instance τ z.in_context j p in
        let c : ℕ = (first + entries_of (blocks_of C.blocks)) + length z.before in
        let V : LfType = entry_constant_type (first + entries_of (blocks_of C.blocks)) B.some z.before z.entry in
        let q : (with_entries Σ first (blocks_of E.blocks)).types c ≡ Some V = entry_has_type Σ first free C θ (length (taken X)) (target X) B z.later z.entry z.before z.instance z.number z.entries z.family z.at in
        let r : entry_reading first (blocks_of E.blocks) χ (length (taken X)) c ≡ Some (l, z.number + length (taken X)) = entry_reads Σ first free C θ (length (taken X)) (target X) B z.later z.entry z.before z.instance z.number z.entries z.family z.at in
        let t : target V ≡ target Y = target_over B.some (substitute_type reduce (entry_images (first + entries_of (blocks_of C.blocks)) (local_arguments B.some) z.before keep) z.entry) ∙ target_of reduce (entry_images (first + entries_of (blocks_of C.blocks)) (local_arguments B.some) z.before keep) z.entry ∙ z.family ∙ sym (target_renamed (shift_by l) X) in
        let (U, A, offer, hold) = entry_answer_holds Σ Σ' ok S ext W typed below s sc first free E te w χ τ j apart' (x + l) Y at fY aY h0 T eY c l (z.number + length (taken X)) V z.is_head q t (subst (λ m. entry_reading first (blocks_of E.blocks) χ m c ≡ Some (l, z.number + length (taken X))) (sym n) r) in
        answered E te χ τ j apart' (x + l) Y at fY aY h0 T eY holds (constant c) U A (of_new_block B c U A z.of_worlds (unknown (length z.before)) offer) hold
      where
        unknown : (m : ℕ) → (with_entries Σ first (blocks_of C.blocks)).types ((first + entries_of (blocks_of C.blocks)) + m) ≡ None
        unknown m = ap (λ y. or_else y (entry_type (entry_constant zero first (blocks_of C.blocks) ((first + entries_of (blocks_of C.blocks)) + m)))) (free.types_free ((first + entries_of (blocks_of C.blocks)) + m) (behind_first first (entries_of (blocks_of C.blocks)) m)) ∙ by (entry_constant zero first (blocks_of C.blocks) ((first + entries_of (blocks_of C.blocks)) + m)) refl
          where
            behind_first : (a b c : ℕ) → a ≤ (a + b) + c
            behind_first a b c = omega arith

            too_far : (a b : ℕ) → a + b < a → ⊥
            too_far a b l = omega (arith, l)

            by : (y : Option EntryConstant) → entry_constant zero first (blocks_of C.blocks) ((first + entries_of (blocks_of C.blocks)) + m) ≡ y → entry_type y ≡ None
            by None k = refl
            by (Some i) k = absurd (too_far (first + entries_of (blocks_of C.blocks)) m (entry_below zero first (blocks_of C.blocks) ((first + entries_of (blocks_of C.blocks)) + m) i k))

    held : OneHoldsAs w first C θ σ Cs
    held =
        let (N, h, T, e, q, k) = numbered_heads_are_all Σ Σ' ok S ext W typed first free C G w θ σ inst x X sp.at (takes_in_target S X fams) in
        by h T (e ∙ ap (put (skeleton X)) q) k
      where
        by : (h : Head) (T : Spine) → σ x ≡ put (skeleton X) (lambdas (length (taken X)) (root h T)) → IsNumberedHead Σ first C θ (length (taken X)) (target X) h ⊎ IsNewEntry w C θ (length (taken X)) (target X) h → OneHoldsAs w first C θ σ Cs
        by h T e (inl k) = old_head h T e k
        by h T e (inr z) = new_entry h T e z

  pub is_split : IsNumberedSplit Σ first W S C Cs
  is_split = instances_make_split Σ first W S C Cs like (λ Σ' ext G w θ σ inst apart. held Σ' ext G w θ σ inst apart)

pub answered_by_number_is_split : AnsweredByNumberIsSplit
answered_by_number_is_split Σ ok W typed below s S sc first free C tc x Cs sp fams = is_split Σ ok W typed below s S sc first free C tc x Cs sp (families_take S sp.type fams)
