-- A split by number of a case whose variables take only what quantifies over what is below: so is each head, and so are the cases that are read off.
use Rattle.std.proofs.Common.{◌≡◌, ℕ, zero, suc, ◌+◌, List, [], ◌∷◌, length, refl, sym, ap, ◌∙◌, subst, arith, Option, Some, None}
use Rattle.std.specs.Prelude.{Bool}
use Rattle.lf.specs.Syntax.{Head, constant, Term, Spine, nil, app, LfType, pi, atom, skeleton, rename_type}
use Rattle.lf.specs.Substitution.{Image, keep, single, substitute_type, reduce}
use Rattle.lf.specs.AtOnce.{shift_by}
use Rattle.lf.specs.Eta.{add_last}
use Rattle.lf.specs.Typing.{Signature, TypeAt, IsSignature, instantiate_type}
use Rattle.lf.specs.Subordination.{Block, AreTypedBlocks, IsBelowTest, Member, below_in_constant, below_in_entry}
use Rattle.lf_checks.specs.Below.{IsSubordination}
use Rattle.lf_unification.specs.Dependency.{free_context}
use Rattle.lf_unification.specs.Offering.{pi_over, local_arguments}
use Rattle.lf_unification.specs.OpenTyping.{skeletons_of}
use Rattle.lf_cases.specs.Case.{items_context, as_term}
use Rattle.lf_cases.specs.OutputGoal.{free_variables}
use Rattle.lf_cases.specs.Reached.{arguments_count, head_masks, split_items, taken}
use Rattle.lf_cases.proofs.BlockEntries.{member_onto}
use Rattle.lf_cases.proofs.Subordinate.{below_is_subordination}
use Rattle.lf_totality.proofs.RaisedOutputs.{binders_over}
use Rattle.lf_numbered.specs.EntryConstants.{EntryConstant, IsFreeFrom, entry_constant, entry_images, entry_type, with_entries}
use Rattle.lf_coverage.specs.Heads.{ArgumentsAreBelow}
use Rattle.lf_numbered.specs.NumberedBeside.{AllTakeBelow, TakesBelow, WorldsTakeBelow, OffersQuantifyBelow, IsUnifiedByNumber, UnifiedByNumberIsAnswered}
use Rattle.lf_numbered.specs.NumberedCase.{NumberedCase, some_spine, AreSomeTerms, AreTypedBlockVariables}
use Rattle.lf_numbered.specs.NumberedSplits.{NumberedOffer, IsOfferTo, of_case, of_new_block, NumberedUnifierFinds, IsAnsweredByNumber}
use Rattle.lf_numbered.specs.OwnStores.{IsNumberedOffer, offer_signature, offer_taken, offer_entry, left_type}
use Rattle.lf_numbered.specs.OwnTerms.{BlockVariable, blocks_of, own_terms, terms_at, terms_of_entry}
use Rattle.lf_coverage.specs.Subordinate.{QuantifiersAreBelow}
use Rattle.lf_numbered.specs.TypedNumbered.{IsTypedNumberedCase}
use Rattle.lf_numbered.proofs.EntryFound.{PlacedAmong, placed_among, EachBlock, entry_found}
use Rattle.lf_numbered.proofs.EntrySignature.{else_second}
use Rattle.lf_coverage.proofs.Everywhere.{metavariables_have}
use Rattle.lf_coverage.proofs.Forms.{far_type}
use Rattle.lf_numbered.proofs.NumberedBesideTypes.{all_takes, free_keeps, head_takes, near_below, quantified_takes, run_keeps, take_below, taken_below, takes_all, takes_at, takes_kept, takes_onto, takes_pruned, takes_renamed}
use Rattle.lf_coverage.proofs.Listed.{offer_of_case}
use Rattle.lf_numbered.proofs.OwnStoresNewBlock.{new_block_stays_typed}
use Rattle.lf_numbered.proofs.OwnTerms.{entry_from}
use Rattle.lf_coverage.proofs.Parts.{none_some, some_same}
use Rattle.lf_coverage.proofs.SolvedCase.{free_context_is}
use Rattle.lf_coverage.proofs.Subordinate.{quantified, below_renamed, below_substituted}

-- how many terms there are
abbrev pub count : Spine → ℕ
count nil = zero
count (app M S) = suc (count S)

count_added : (S : Spine) (M : Term) → count (add_last S M) ≡ suc (count S)
count_added nil M = refl
count_added (app N S) M = ap suc (count_added S M)

count_some : (O : List LfType) (υ : ℕ → Image) → count (some_spine O υ) ≡ length O
count_some [] υ = refl
count_some (A ∷ O) υ = count_added (some_spine O (λ i. υ (suc i))) (as_term (skeleton A) (υ zero)) ∙ ap suc (count_some O (λ i. υ (suc i)))

-- an entry's constant on its own terms
module _ (below : ℕ → ℕ → Bool) where
  -- what is left of the type behind n quantifiers
  abbrev Behind : ℕ → LfType → Type 0
  Behind zero A = QuantifiersAreBelow below A
  Behind (suc n) (pi A B) = Behind n B
  Behind (suc n) (atom a S) = ⊥

  behind_substituted : (σ : ℕ → Image) (n : ℕ) (A : LfType) → Behind n A → Behind n (substitute_type reduce σ A)
  behind_substituted σ zero A h = below_substituted below σ A h
  behind_substituted σ (suc n) (pi A B) h = behind_substituted _ n B h
  behind_substituted σ (suc n) (atom a S) h = absurd h

  behind_over : (O : List LfType) (T : LfType) (n : ℕ) → Behind n T → Behind (length O + n) (pi_over O T)
  behind_over [] T n h = subst (λ k. Behind k T) (none n) h
    where
      none : (n : ℕ) → n ≡ 0 + n
      none n = omega arith
  behind_over (A ∷ O) T n h = subst (λ k. Behind k (pi_over O (pi A T))) (next (length O) n) (behind_over O (pi A T) (suc n) h)
    where
      next : (l n : ℕ) → l + suc n ≡ suc l + n
      next l n = omega arith

  left_below : (S : Spine) (A : LfType) → Behind (count S) A → QuantifiersAreBelow below (left_type S A)
  left_below nil A h = h
  left_below (app M S) (pi A B) h = left_below S (instantiate_type A M B) (behind_substituted (single (skeleton A) M) (count S) B h)
  left_below (app M S) (atom a T) h = absurd h

module _ (Σ : Signature) (W : List Block) (first : ℕ) (free : IsFreeFrom Σ first) (C : NumberedCase) (tc : IsTypedNumberedCase Σ first W C) where
  abbrev Bs : List Block
  Bs = blocks_of C.blocks

  abbrev Known : ℕ → BlockVariable → Type 0
  Known k b = Member b.block W × AreSomeTerms (with_entries Σ first (blocks_of C.blocks)) C.variables b.block.some b.terms

  each_known : (k : ℕ) (bs : List BlockVariable) → AreTypedBlockVariables (with_entries Σ first (blocks_of C.blocks)) W C.variables (own_terms first C.blocks) bs → EachBlock Known k bs
  each_known k [] h = tt
  each_known k (b ∷ bs) (m, u, p, h) = ((m, u), each_known (suc k) bs h)

  -- what is known of the constant c of an entry, whose own terms are U and whose type is V
  pub record EntryOf (c : ℕ) (U : Spine) (V : LfType) : Type 0 where
    pub block : Block
    pub from : ℕ
    pub entry : LfType
    pub before : List LfType
    pub of_worlds : Member block W
    pub among : Member entry block.entries
    pub type : pi_over block.some (substitute_type reduce (entry_images from (local_arguments block.some) before keep) entry) ≡ V
    pub terms : length block.some ≡ count U

  pub entry_of : (c : ℕ) (U : Spine) (V : LfType) → own_terms first C.blocks c ≡ Some U → (with_entries Σ first (blocks_of C.blocks)).types c ≡ Some V → EntryOf c U V
  entry_of c U V q t = by (entry_constant zero first Bs c) refl
    where
      by : (x : Option EntryConstant) → entry_constant zero first (blocks_of C.blocks) c ≡ x → EntryOf c U V
      by None e = absurd (none_some (sym (ap (terms_of_entry C.blocks) e) ∙ q))
      by (Some x) e =
          let f = entry_found Known zero first C.blocks c x e (each_known zero C.blocks tc.variables.blocks) in
          let B : Block = f.variable.block in
          let p : PlacedAmong x.number B x.from zero B.entries c x = placed_among x.number B x.from zero B.entries c x f.among in
          let (m, (υ, ut, ue)) = f.fact in
          let left : (k : ℕ) → zero + k ≡ k = λ k. omega arith in
          let at : terms_at C.blocks x.number ≡ Some f.variable.terms = ap (terms_at C.blocks) (f.number ∙ left f.index) ∙ f.terms in
          let same : f.variable.terms ≡ U = some_same (sym at ∙ sym (ap (terms_of_entry C.blocks) e) ∙ q) in
          record {
            block = x.block;
            from = x.from;
            entry = x.entry;
            before = x.before;
            of_worlds = subst (λ D. Member D W) (sym p.block) m;
            among = subst (λ (D : Block). Member x.entry D.entries) (sym p.block) (subst (Member x.entry) p.entries (member_onto p.later x.entry x.before));
            type = some_same (sym (ap entry_type e) ∙ (sym (else_second (Σ.types c) (entry_type (entry_constant zero first Bs c)) (entry_type (entry_constant zero first Bs c)) (free.types_free c (entry_from zero first Bs c x e)) refl) ∙ t));
            terms = ap (λ (D : Block). length D.some) p.block ∙ sym (count_some B.some υ) ∙ ap count (sym ue ∙ same);
          }

module _ (Σ : Signature) (W : List Block) (below : ℕ → ℕ → Bool) (test : (f : ℕ) → IsBelowTest Σ W (below f) f) (first : ℕ) (free : IsFreeFrom Σ first) (C : NumberedCase) (tc : IsTypedNumberedCase Σ first W C) where
  entry_left : (c : ℕ) (U : Spine) (V : LfType) → own_terms first C.blocks c ≡ Some U → (with_entries Σ first (blocks_of C.blocks)).types c ≡ Some V → QuantifiersAreBelow below (left_type U V)
  entry_left c U V q t =
      let x : EntryOf Σ W first free C tc c U V = entry_of Σ W first free C tc c U V q t in
      let ι : ℕ → Image = entry_images x.from (local_arguments x.block.some) x.before keep in
      let T : LfType = substitute_type reduce ι x.entry in
      let inside : QuantifiersAreBelow below x.entry = quantified below x.entry (λ a b z. (test b a).1 (below_in_entry x.block x.entry x.of_worlds x.among z)) in
      subst (λ Z. QuantifiersAreBelow below (left_type U Z)) x.type (left_below below U (pi_over x.block.some T) (subst (λ k. Behind below k (pi_over x.block.some T)) (none (length x.block.some) ∙ x.terms) (behind_over below x.block.some T zero (below_substituted below ι x.entry inside))))
    where
      none : (k : ℕ) → k + 0 ≡ k
      none k = omega arith

  -- Each head that is offered for a variable that takes only such quantifies only over what is below.
  offer_below : (X : LfType) → TakesBelow below X → (h : Head) (U : Spine) (A : LfType) → IsNumberedOffer Σ first C X h U A → QuantifiersAreBelow below A
  offer_below X k h U A (offer_signature c V e t) = quantified below V (λ a b z. (test b a).1 (below_in_constant c V e z))
  offer_below X k h U A (offer_taken j B l g t) = near_below below (taken X) C.variables j B l (taken_below below [] X tt k) (subst (λ L. TypeAt L j B) (binders_over [] X C.variables) g)
  offer_below X k h U A (offer_entry c S V q e t) = below_renamed below (shift_by (length (taken X))) (left_type S V) (entry_left c S V q e)

  module _ (takes : AllTakeBelow below C.variables) (x : ℕ) (X : LfType) (at : TypeAt C.variables x X) where
    -- the items of its store
    items_take : (A : LfType) → QuantifiersAreBelow below A → AllTakeBelow below (items_context (split_items below X (free_variables C.variables) zero A))
    items_take A q =
        let Y : LfType = rename_type (shift_by zero) X in
        head_takes below (head_masks below (taken Y) (arguments_count A) A) (arguments_count A) (taken Y) A (free_variables C.variables)
        (taken_below below [] Y tt (takes_renamed below (shift_by zero) X (takes_at below C.variables takes x X at)))
        (subst (AllTakeBelow below) (sym (free_context_is C.variables)) takes) q

    -- the case that is read off
    case_takes : (h : Head) (U : Spine) (A : LfType) → QuantifiersAreBelow below A → (K : Rattle.lf.specs.Syntax.Kind) (D : NumberedCase) → NumberedUnifierFinds Σ first below (record { case = C; variable = x; type = X; head = h; terms = U; left = A }) K (Some D) → AllTakeBelow below D.variables
    case_takes h U A q K D (after, s, e) =
        let G : List LfType = items_context (split_items below X (free_variables C.variables) zero A) in
        subst (λ (E : NumberedCase). AllTakeBelow below E.variables) (sym e) (takes_all below (free_context (skeletons_of after.metavariables) s.well_formed.order)
        (free_keeps (TakesBelow below) (takes_kept below) (takes_pruned below) (with_entries Σ first (blocks_of C.blocks)) (skeletons_of after.metavariables) after.metavariables _
        (run_keeps (TakesBelow below) (takes_kept below) (takes_pruned below) s.run (metavariables_have (TakesBelow below) (takes_kept below) G (all_takes below G (items_take A q))))
        s.well_formed.order s.well_formed.is_order))

pub offers_quantify_below : OffersQuantifyBelow
offers_quantify_below Σ W below test first free C tc takes x X at h U A f = offer_below Σ W below test first free C tc X (takes_at below C.variables takes x X at) h U A f

-- Each head that is offered to such a variable does, that of a new block variable too; and what it takes is below.
module _ (Σ : Signature) (ok : IsSignature Σ) (W : List Block) (typed : AreTypedBlocks Σ W) (below : ℕ → ℕ → Bool) (test : (f : ℕ) → IsBelowTest Σ W (below f) f) (first : ℕ) (free : IsFreeFrom Σ first) (C : NumberedCase) (tc : IsTypedNumberedCase Σ first W C) (x : ℕ) (X : LfType) (k : TakesBelow below X) where
  head_below : (o : NumberedOffer) → IsOfferTo Σ first W C x X o → QuantifiersAreBelow below o.left
  head_below o (of_case h U A f) = offer_below Σ W below test first free C tc X k h U A f
  head_below o (of_new_block B c U A b n f) = offer_below Σ W below test first free o.case (new_block_stays_typed Σ ok W typed first free C tc B b) o.type (takes_renamed below (shift_by (length B.some)) X k) o.head U A f

  s : IsSubordination Σ W below
  s = below_is_subordination Σ ok W typed below test

  pub variable_takes : ArgumentsAreBelow below X
  variable_takes = take_below below Σ W s X k

  pub head_takes_below : (o : NumberedOffer) → IsOfferTo Σ first W C x X o → ArgumentsAreBelow below o.left
  head_takes_below o f = take_below below Σ W s o.left (quantified_takes below o.left (head_below o f))

module _ (Σ : Signature) (ok : IsSignature Σ) (W : List Block) (typed : AreTypedBlocks Σ W) (below : ℕ → ℕ → Bool) (test : (f : ℕ) → IsBelowTest Σ W (below f) f) (first : ℕ) (free : IsFreeFrom Σ first) (C : NumberedCase) (tc : IsTypedNumberedCase Σ first W C) (x : ℕ) (Cs : List NumberedCase) (sp : IsUnifiedByNumber Σ first W below C x Cs) (k : TakesBelow below sp.type) where
  answered : IsAnsweredByNumber Σ first W below C x Cs
  answered = record {
    type = sp.type;
    at = sp.at;
    takes_below = variable_takes Σ ok W typed below test first free C tc x sp.type k;
    offers = sp.offers;
    each = sp.each;
    every = sp.every;
    arguments_below = head_takes_below Σ ok W typed below test first free C tc x sp.type k;
    listed = sp.listed;
  }

  pub taker_answered : (an : IsAnsweredByNumber Σ first W below C x Cs) × (an.type ≡ sp.type)
  unfolding answered
  taker_answered = (answered, refl)

module _ (Σ : Signature) (ok : IsSignature Σ) (W : List Block) (typed : AreTypedBlocks Σ W) (below : ℕ → ℕ → Bool) (test : (f : ℕ) → IsBelowTest Σ W (below f) f) (worlds : WorldsTakeBelow below W) (first : ℕ) (free : IsFreeFrom Σ first) (C : NumberedCase) (tc : IsTypedNumberedCase Σ first W C) (takes : AllTakeBelow below C.variables) (x : ℕ) (Cs : List NumberedCase) (sp : IsUnifiedByNumber Σ first W below C x Cs) where
  -- what is known of an offer: its case is typed, its variables take only what is below, and its head quantifies over what is below
  pub record Offers (o : NumberedOffer) : Type 0 where
    pub typed_case : IsTypedNumberedCase Σ first W o.case
    pub takes_so : AllTakeBelow below o.case.variables
    pub place : TypeAt o.case.variables o.variable o.type
    pub offered : IsNumberedOffer Σ first o.case o.type o.head o.terms o.left

  known : (o : NumberedOffer) → IsOfferTo Σ first W C x sp.type o → Offers o
  known o (of_case h U A f) = record { typed_case = tc; takes_so = takes; place = sp.at; offered = f }
  known o (of_new_block B c U A b n f) = record {
    typed_case = new_block_stays_typed Σ ok W typed first free C tc B b;
    takes_so = takes_onto below B.some C.variables (worlds B b) takes;
    place = far_type B.some C.variables x sp.type sp.at;
    offered = f;
  }

  at_variable : TakesBelow below sp.type
  at_variable = takes_at below C.variables takes x sp.type sp.at

  cases_take : (D : NumberedCase) → Member D Cs → AllTakeBelow below D.variables
  cases_take D m =
      let (o, k, a) = offer_of_case sp.listed D m in
      let f : Offers o = known o (sp.each o k) in
      case_takes Σ W below test first free o.case f.typed_case f.takes_so o.variable o.type f.place o.head o.terms o.left (head_below Σ ok W typed below test first free C tc x sp.type at_variable o (sp.each o k)) a.kind D a.finds

  pub is_answered : ((an : IsAnsweredByNumber Σ first W below C x Cs) × (an.type ≡ sp.type)) × ((D : NumberedCase) → Member D Cs → AllTakeBelow below D.variables)
  is_answered = (taker_answered Σ ok W typed below test first free C tc x Cs sp at_variable, cases_take)

pub unified_by_number_is_answered : UnifiedByNumberIsAnswered
unified_by_number_is_answered Σ ok W typed below test worlds first free C tc takes x Cs sp = is_answered Σ ok W typed below test worlds first free C tc takes x Cs sp
