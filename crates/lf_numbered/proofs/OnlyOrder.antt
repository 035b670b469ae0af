-- The place of an offer in the order is that of no other.
use Rattle.std.proofs.Common.{◌≡◌, ℕ, zero, suc, ◌+◌, ◌<◌, ◌-◌, ◌++◌, List, [], ◌∷◌, length, Option, Some, None, Bool, true, false, cond, ◌⊎◌, inl, inr, refl, sym, ap, ap₂, ◌∙◌, subst, arith}
use Rattle.lf.specs.Syntax.{Head, constant, variable, Spine, nil, LfType, rename_type}
use Rattle.lf.specs.AtOnce.{shift_by}
use Rattle.lf.specs.Typing.{Signature, TypeAt}
use Rattle.lf.specs.Variables.{binders, same_number}
use Rattle.lf.specs.Subordination.{Block}
use Rattle.lf.proofs.Checker.{number_is}
use Rattle.lf.proofs.Decidability.{variable_type_unique}
use Rattle.lf_cases.specs.ClauseOrder.{StandsAt}
use Rattle.lf_cases.specs.Reached.{taken}
use Rattle.lf_coverage.specs.OrElse.{or_else}
use Rattle.lf_coverage.proofs.Parts.{none_some, some_same, suc_same}
use Rattle.lf_numbered.specs.EntryConstants.{EntryConstant, IsFreeFrom, entry_among, entry_constant, entry_type, with_entries}
use Rattle.lf_numbered.specs.NewBlock.{with_new_block}
use Rattle.lf_numbered.specs.NumberedCallsOrder.{HasNumberedRank, entry_rank, signature_rank, taken_rank}
use Rattle.lf_numbered.specs.NumberedCase.{NumberedCase}
use Rattle.lf_numbered.specs.NumberedInstance.{first_constant}
use Rattle.lf_numbered.specs.NumberedSplits.{IsOfferTo, NumberedOffer, of_case, of_new_block}
use Rattle.lf_numbered.specs.OnlyOrder.{OfferHasOnePlace, PlaceIsOfOneOffer, PlacesAreOfOneBlock}
use Rattle.lf_numbered.specs.OwnStores.{IsNumberedOffer, offer_entry, offer_signature, offer_taken}
use Rattle.lf_numbered.specs.OwnTerms.{blocks_of, own_terms, terms_of_entry}
use Rattle.lf_numbered.proofs.EntryFound.{placed_among}
use Rattle.lf_numbered.proofs.EntryPatternsNumbers.{inside_list}
use Rattle.lf_numbered.proofs.EntrySignature.{else_cases, else_first, entries_kept}
use Rattle.lf_numbered.proofs.NewInstance.{new_blocks_are}
use Rattle.lf_numbered.proofs.OffersListed.{offer_of_entry, offer_with}
use Rattle.lf_numbered.proofs.OwnTerms.{entry_from}
use Rattle.lf_numbered.proofs.WritingChoice.{from_is}

-- an entry that is new is one of the block that comes last
no_second : {A : Type 0} (x y : Option A) → or_else x y ≡ None → y ≡ None
no_second None y e = e
no_second (Some v) y e = absurd (none_some (sym e))

last_entry : (k n : ℕ) (Bs : List Block) (B : Block) (c : ℕ) (e : EntryConstant) → entry_constant k n (Bs ++ B ∷ []) c ≡ Some e → entry_constant k n Bs c ≡ None → (e.number ≡ k + length Bs) × (e.block ≡ B)
last_entry k n [] B c e q u = by (else_cases (entry_among k B n zero B.entries c) None e q)
  where
    same : k ≡ k + 0
    same = omega arith

    by : (entry_among k B n zero B.entries c ≡ Some e) ⊎ (None ≡ Some e) → (e.number ≡ k + 0) × (e.block ≡ B)
    by (inl r) = let p = placed_among k B n zero B.entries c e r in (p.number ∙ same, p.block)
    by (inr r) = absurd (none_some r)
last_entry k n (D ∷ Bs) B c e q u = by (λ r. last_entry (suc k) (n + length D.entries) Bs B c e r (no_second (entry_among k D n zero D.entries c) (entry_constant (suc k) (n + length D.entries) Bs c) u)) (else_cases (entry_among k D n zero D.entries c) (entry_constant (suc k) (n + length D.entries) (Bs ++ B ∷ []) c) e q)
  where
    next : (m : ℕ) → suc k + m ≡ k + suc m
    next m = omega arith

    by : (entry_constant (suc k) (n + length D.entries) (Bs ++ B ∷ []) c ≡ Some e → (e.number ≡ suc k + length Bs) × (e.block ≡ B)) → (entry_among k D n zero D.entries c ≡ Some e) ⊎ (entry_constant (suc k) (n + length D.entries) (Bs ++ B ∷ []) c ≡ Some e) → (e.number ≡ k + suc (length Bs)) × (e.block ≡ B)
    by ih (inl r) = absurd (none_some (sym u ∙ else_first (entry_among k D n zero D.entries c) (entry_constant (suc k) (n + length D.entries) Bs c) e r))
    by ih (inr r) = let (m, b) = ih r in (m ∙ next (length Bs), b)

-- what has no type is no entry
no_entry : (x : Option LfType) (y : Option EntryConstant) → or_else x (entry_type y) ≡ None → y ≡ None
no_entry x None q = refl
no_entry x (Some e) q = absurd (none_some (sym (no_second x (entry_type (Some e)) q)))

same_constant : {i j : ℕ} → constant i ≡ constant j → i ≡ j
same_constant p = cc

same_variable : {i j : ℕ} → variable i ≡ variable j → i ≡ j
same_variable p = cc

constant_or_variable : {i j : ℕ} → constant i ≡ variable j → ⊥
constant_or_variable p = cc

same_first : {i j : ℕ} {r s : List ℕ} → i ∷ r ≡ j ∷ s → i ≡ j
same_first p = cc

same_rest : {i j : ℕ} {r s : List ℕ} → i ∷ r ≡ j ∷ s → r ≡ s
same_rest p = cc

-- the last number of an entry's place tells that of its block variable
place_number : (n i j : ℕ) → cond (same_number i n) zero (suc i) ≡ cond (same_number j n) zero (suc j) → i ≡ j
place_number n i j = by (same_number i n) (same_number j n) refl refl
  where
    by : (a b : Bool) → same_number i n ≡ a → same_number j n ≡ b → cond a zero (suc i) ≡ cond b zero (suc j) → i ≡ j
    by true true p q e = number_is i n p ∙ sym (number_is j n q)
    by true false p q e = absurd (omega (arith, e))
    by false true p q e = absurd (omega (arith, e))
    by false false p q e = suc_same e

one_block : (w : ℕ) (A B : Block) (W : List Block) → StandsAt w A W → StandsAt w B W → A ≡ B
one_block w A B [] a b = absurd a
one_block zero A B (D ∷ W) a b = a ∙ sym b
one_block (suc w) A B (D ∷ W) a b = one_block w A B W a b

-- the constant of an entry by its block variable's number and its place in the block
constant_of : (first : ℕ) (C : NumberedCase) (c : ℕ) (e : EntryConstant) → entry_constant zero first (blocks_of C.blocks) c ≡ Some e → (c ≡ first_constant first (blocks_of C.blocks) e.number + length e.before) × (e.number < length C.blocks)
constant_of first C c e q =
    let (j, b, at, number, block, from, is, later, entries, place) = from_is zero first C.blocks c e q in
    let l : j < length C.blocks = inside_list C.blocks j b at in
    let n : e.number ≡ j = omega (arith, number) in
    (is ∙ ap (λ m. m + length e.before) (from ∙ ap (first_constant first (blocks_of C.blocks)) (sym n)), omega (arith, l, n))

entry_same : (Σ : Signature) (first : ℕ) (C : NumberedCase) (x : ℕ) (X : LfType) (c d : ℕ) (U S : Spine) (V T : LfType) → c ≡ d → own_terms first C.blocks c ≡ Some U → own_terms first C.blocks d ≡ Some S → (with_entries Σ first (blocks_of C.blocks)).types c ≡ Some V → (with_entries Σ first (blocks_of C.blocks)).types d ≡ Some T → offer_of_entry C x X c U V ≡ offer_of_entry C x X d S T
entry_same Σ first C x X c d U S V T e o p v t =
    ap (λ i. offer_of_entry C x X i U V) e
    ∙ ap₂ (offer_of_entry C x X d) (some_same (sym o ∙ ap (own_terms first C.blocks) e ∙ p)) (some_same (sym v ∙ ap (with_entries Σ first (blocks_of C.blocks)).types e ∙ t))

-- Which offers have which places
module _ (Σ : Signature) (first : ℕ) (free : IsFreeFrom Σ first) (W : List Block) (C : NumberedCase) (x : ℕ) (X : LfType) where
  data Placed : NumberedOffer → List ℕ → Type 0 where
    placed_constant : (k : ℕ) (V : LfType) → Σ.types k ≡ Some V → Placed (offer_with C x X (constant k) nil V) (0 ∷ k ∷ [])
    placed_taken : (j : ℕ) (A : LfType) → j < length (taken X) → TypeAt (binders C.variables X) j A → Placed (offer_with C x X (variable j) nil A) (2 ∷ (length (taken X) - suc j) ∷ [])
    placed_entry : (c w : ℕ) (e : EntryConstant) (U : Spine) (V : LfType) → own_terms first C.blocks c ≡ Some U → (with_entries Σ first (blocks_of C.blocks)).types c ≡ Some V → entry_constant zero first (blocks_of C.blocks) c ≡ Some e → StandsAt w e.block W → Placed (offer_of_entry C x X c U V) (1 ∷ w ∷ length e.before ∷ cond (same_number e.number (length C.blocks)) zero (suc e.number) ∷ [])
    placed_new : (B : Block) (c w : ℕ) (e : EntryConstant) (U : Spine) (V : LfType) → own_terms first (with_new_block B C).blocks c ≡ Some U → (with_entries Σ first (blocks_of (with_new_block B C).blocks)).types c ≡ Some V → entry_constant zero first (blocks_of (with_new_block B C).blocks) c ≡ Some e → e.number ≡ length C.blocks → e.block ≡ B → StandsAt w e.block W → Placed (offer_of_entry (with_new_block B C) (x + length B.some) (rename_type (shift_by (length B.some)) X) c U V) (1 ∷ w ∷ length e.before ∷ cond (same_number e.number (length C.blocks)) zero (suc e.number) ∷ [])

  -- no constant of the signature is an entry's
  not_both : (Bs : List Block) (k : ℕ) (V : LfType) (e : EntryConstant) → Σ.types k ≡ Some V → entry_constant zero first Bs k ≡ Some e → ⊥
  not_both Bs k V e t q = none_some (sym (free.types_free k (entry_from zero first Bs k e q)) ∙ t)

  not_none : (D : NumberedCase) (c k : ℕ) (U : Spine) → own_terms first D.blocks c ≡ Some U → c ≡ k → entry_constant zero first (blocks_of D.blocks) k ≡ None → ⊥
  not_none D c k U o e q = none_some (sym (ap (λ i. terms_of_entry D.blocks (entry_constant zero first (blocks_of D.blocks) i)) e ∙ ap (terms_of_entry D.blocks) q) ∙ o)

  of_this : (h : Head) (U : Spine) (A : LfType) → IsNumberedOffer Σ first C X h U A → (r : List ℕ) → HasNumberedRank first W C (offer_with C x X h U A) r → Placed (offer_with C x X h U A) r
  of_this h U A (offer_signature k V t u) r (signature_rank l p n) = subst (λ i. Placed (offer_with C x X (constant k) nil V) (0 ∷ i ∷ [])) (same_constant p) (placed_constant k V t)
  of_this h U A (offer_signature k V t u) r (entry_rank c w e p q s) = absurd (not_both (blocks_of C.blocks) k V e t (ap (entry_constant zero first (blocks_of C.blocks)) (same_constant p) ∙ q))
  of_this h U A (offer_signature k V t u) r (taken_rank j p) = absurd (constant_or_variable p)
  of_this h U A (offer_taken j B l g u) r (signature_rank k p n) = absurd (constant_or_variable (sym p))
  of_this h U A (offer_taken j B l g u) r (entry_rank c w e p q s) = absurd (constant_or_variable (sym p))
  of_this h U A (offer_taken j B l g u) r (taken_rank i p) = subst (λ m. Placed (offer_with C x X (variable j) nil B) (2 ∷ (length (taken X) - suc m) ∷ [])) (same_variable p) (placed_taken j B l g)
  of_this h U A (offer_entry c S V o t u) r (signature_rank k p n) = absurd (not_none C c k S o (same_constant p) n)
  of_this h U A (offer_entry c S V o t u) r (entry_rank d w e p q s) = placed_entry c w e S V o t (ap (entry_constant zero first (blocks_of C.blocks)) (same_constant p) ∙ q) s
  of_this h U A (offer_entry c S V o t u) r (taken_rank j p) = absurd (constant_or_variable p)

  of_new : (B : Block) (c : ℕ) → (with_entries Σ first (blocks_of C.blocks)).types c ≡ None → (h : Head) (U : Spine) (A : LfType) → h ≡ constant c → IsNumberedOffer Σ first (with_new_block B C) (rename_type (shift_by (length B.some)) X) h U A → (r : List ℕ) → HasNumberedRank first W C (offer_with (with_new_block B C) (x + length B.some) (rename_type (shift_by (length B.some)) X) h U A) r → Placed (offer_with (with_new_block B C) (x + length B.some) (rename_type (shift_by (length B.some)) X) h U A) r
  of_new B c n h U A i (offer_signature k V t u) r s = absurd (none_some (sym n ∙ entries_kept Σ first (blocks_of C.blocks) c V (subst (λ d. Σ.types d ≡ Some V) (same_constant i) t)))
  of_new B c n h U A i (offer_taken j D l g u) r s = absurd (constant_or_variable (sym i))
  of_new B c n h U A i (offer_entry d S V o t u) r (signature_rank k p m) = absurd (not_none (with_new_block B C) d k S o (same_constant p) m)
  of_new B c n h U A i (offer_entry d S V o t u) r (entry_rank k w e p q s) =
      let z : entry_constant zero first (blocks_of (with_new_block B C).blocks) d ≡ Some e = ap (entry_constant zero first (blocks_of (with_new_block B C).blocks)) (same_constant p) ∙ q in
      let y : entry_constant zero first (blocks_of C.blocks) d ≡ None = no_entry (Σ.types d) (entry_constant zero first (blocks_of C.blocks) d) (ap (with_entries Σ first (blocks_of C.blocks)).types (same_constant i) ∙ n) in
      let (m, b) = last_entry zero first (blocks_of C.blocks) B d e (sym (ap (λ Bs. entry_constant zero first Bs d) (new_blocks_are B C)) ∙ z) y in
      placed_new B d w e S V o t z (m ∙ count C) b s
    where
      of_blocks : (bs : List Rattle.lf_numbered.specs.OwnTerms.BlockVariable) → length (blocks_of bs) ≡ length bs
      of_blocks [] = refl
      of_blocks (b ∷ bs) = ap suc (of_blocks bs)

      count : (C : NumberedCase) → zero + length (blocks_of C.blocks) ≡ length C.blocks
      count C = let l = of_blocks C.blocks in omega (arith, l)
  of_new B c n h U A i (offer_entry d S V o t u) r (taken_rank j p) = absurd (constant_or_variable p)

  placed : (o : NumberedOffer) → IsOfferTo Σ first W C x X o → (r : List ℕ) → HasNumberedRank first W C o r → Placed o r
  placed o (of_case h U A f) r s = of_this h U A f r s
  placed o (of_new_block B c U A m n f) r s = of_new B c n (constant c) U A refl f r s

  -- two entries whose places are the same
  same_entry : (w v : ℕ) (e d : EntryConstant) → 1 ∷ w ∷ length e.before ∷ cond (same_number e.number (length C.blocks)) zero (suc e.number) ∷ [] ≡ 1 ∷ v ∷ length d.before ∷ cond (same_number d.number (length C.blocks)) zero (suc d.number) ∷ [] → StandsAt w e.block W → StandsAt v d.block W → (e.block ≡ d.block) × (e.number ≡ d.number) × (length e.before ≡ length d.before)
  same_entry w v e d p s t =
      let q = same_rest p in
      (one_block v e.block d.block W (subst (λ n. StandsAt n e.block W) (same_first q) s) t, place_number (length C.blocks) e.number d.number (same_first (same_rest (same_rest q))), same_first (same_rest q))

  once : (o q : NumberedOffer) (r s : List ℕ) → Placed o r → Placed q s → r ≡ s → o ≡ q
  once o q r s (placed_constant k V t) (placed_constant l T u) p =
      let e : k ≡ l = same_first (same_rest p) in
      ap (λ i. offer_with C x X (constant i) nil V) e ∙ ap (offer_with C x X (constant l) nil) (some_same (sym t ∙ ap Σ.types e ∙ u))
  once o q r s (placed_constant k V t) (placed_taken j A l g) p = let z = same_first p in absurd (omega (arith, z))
  once o q r s (placed_constant k V t) (placed_entry c w e U T f u i a) p = let z = same_first p in absurd (omega (arith, z))
  once o q r s (placed_constant k V t) (placed_new B c w e U T f u i n b a) p = let z = same_first p in absurd (omega (arith, z))
  once o q r s (placed_taken j A l g) (placed_constant k V t) p = let z = same_first p in absurd (omega (arith, z))
  once o q r s (placed_taken j A l g) (placed_taken i B m h) p =
      let z = same_first (same_rest p) in
      let e : j ≡ i = omega (arith, z, l, m) in
      ap (λ n. offer_with C x X (variable n) nil A) e ∙ ap (offer_with C x X (variable i) nil) (variable_type_unique (binders C.variables X) i A B (subst (λ n. TypeAt (binders C.variables X) n A) e g) h)
  once o q r s (placed_taken j A l g) (placed_entry c w e U T f u i a) p = let z = same_first p in absurd (omega (arith, z))
  once o q r s (placed_taken j A l g) (placed_new B c w e U T f u i n b a) p = let z = same_first p in absurd (omega (arith, z))
  once o q r s (placed_entry c w e U T f u i a) (placed_constant k V t) p = let z = same_first p in absurd (omega (arith, z))
  once o q r s (placed_entry c w e U T f u i a) (placed_taken j A l g) p = let z = same_first p in absurd (omega (arith, z))
  once o q r s (placed_entry c w e U T f u i a) (placed_entry d v b S V g t j z) p =
      let (y, m, n) = same_entry w v e b p a z in
      entry_same Σ first C x X c d U S T V ((constant_of first C c e i).0 ∙ ap₂ (λ k l. first_constant first (blocks_of C.blocks) k + l) m n ∙ sym (constant_of first C d b j).0) f g u t
  once o q r s (placed_entry c w e U T f u i a) (placed_new B d v b S V g t j n k z) p =
      let (y, m, l) = same_entry w v e b p a z in
      let h = (constant_of first C c e i).1 in
      absurd (omega (arith, h, m, n))
  once o q r s (placed_new B c w e U T f u i n b a) (placed_constant k V t) p = let z = same_first p in absurd (omega (arith, z))
  once o q r s (placed_new B c w e U T f u i n b a) (placed_taken j A l g) p = let z = same_first p in absurd (omega (arith, z))
  once o q r s (placed_new B c w e U T f u i n b a) (placed_entry d v k S V g t j z) p =
      let (y, m, l) = same_entry w v e k p a z in
      let h = (constant_of first C d k j).1 in
      absurd (omega (arith, h, m, n))
  once o q r s (placed_new B c w e U T f u i n b a) (placed_new D d v k S V g t j m l z) p =
      let (y, h, y') = same_entry w v e k p a z in
      alike B D (sym b ∙ y ∙ l) f u i g t j h y'
    where
      alike : (B D : Block) → B ≡ D → own_terms first (with_new_block B C).blocks c ≡ Some U → (with_entries Σ first (blocks_of (with_new_block B C).blocks)).types c ≡ Some T → entry_constant zero first (blocks_of (with_new_block B C).blocks) c ≡ Some e → own_terms first (with_new_block D C).blocks d ≡ Some S → (with_entries Σ first (blocks_of (with_new_block D C).blocks)).types d ≡ Some V → entry_constant zero first (blocks_of (with_new_block D C).blocks) d ≡ Some k → e.number ≡ k.number → length e.before ≡ length k.before → offer_of_entry (with_new_block B C) (x + length B.some) (rename_type (shift_by (length B.some)) X) c U T ≡ offer_of_entry (with_new_block D C) (x + length D.some) (rename_type (shift_by (length D.some)) X) d S V
      alike B D e' f u i = subst (λ E. own_terms first (with_new_block E C).blocks d ≡ Some S → (with_entries Σ first (blocks_of (with_new_block E C).blocks)).types d ≡ Some V → entry_constant zero first (blocks_of (with_new_block E C).blocks) d ≡ Some k → e.number ≡ k.number → length e.before ≡ length k.before → offer_of_entry (with_new_block B C) (x + length B.some) (rename_type (shift_by (length B.some)) X) c U T ≡ offer_of_entry (with_new_block E C) (x + length E.some) (rename_type (shift_by (length E.some)) X) d S V) e' (λ g t j h l. entry_same Σ first (with_new_block B C) (x + length B.some) (rename_type (shift_by (length B.some)) X) c d U S T V ((constant_of first (with_new_block B C) c e i).0 ∙ ap₂ (λ n m. first_constant first (blocks_of (with_new_block B C).blocks) n + m) h l ∙ sym (constant_of first (with_new_block B C) d k j).0) f g u t)

pub place_is_of_one_offer : PlaceIsOfOneOffer
place_is_of_one_offer Σ first free W C x X o q i j r s t = once Σ first free W C x X o q r r (placed Σ first free W C x X o i r s) (placed Σ first free W C x X q j r t) refl

-- Two places of one offer
pub places_are_of_one_block : PlacesAreOfOneBlock
places_are_of_one_block first W C o r s h k = by r s h k
  where
    by : (r s : List ℕ) → HasNumberedRank first W C o r → HasNumberedRank first W C o s → (r ≡ s) ⊎ ((v : ℕ) × (w : ℕ) × (B : Block) × (t : List ℕ) × (r ≡ 1 ∷ v ∷ t) × (s ≡ 1 ∷ w ∷ t) × StandsAt v B W × StandsAt w B W)
    by r s (signature_rank k p n) (signature_rank l q m) = inl (ap (λ i. 0 ∷ i ∷ []) (same_constant (sym p ∙ q)))
    by r s (signature_rank k p n) (entry_rank c w e q f a) = absurd (none_some (sym n ∙ ap (entry_constant zero first (blocks_of o.case.blocks)) (same_constant (sym p ∙ q)) ∙ f))
    by r s (signature_rank k p n) (taken_rank j q) = absurd (constant_or_variable (sym p ∙ q))
    by r s (entry_rank c w e p f a) (signature_rank k q n) = absurd (none_some (sym n ∙ ap (entry_constant zero first (blocks_of o.case.blocks)) (same_constant (sym q ∙ p)) ∙ f))
    by r s (entry_rank c v e p f a) (entry_rank d w b q g z) =
        let y : e ≡ b = some_same (sym f ∙ ap (entry_constant zero first (blocks_of o.case.blocks)) (same_constant (sym p ∙ q)) ∙ g) in
        inr (v, w, b.block, length b.before ∷ cond (same_number b.number (length C.blocks)) zero (suc b.number) ∷ [], ap (λ (i : EntryConstant). 1 ∷ v ∷ length i.before ∷ cond (same_number i.number (length C.blocks)) zero (suc i.number) ∷ []) y, refl, subst (λ (i : EntryConstant). StandsAt v i.block W) y a, z)
    by r s (entry_rank c w e p f a) (taken_rank j q) = absurd (constant_or_variable (sym p ∙ q))
    by r s (taken_rank j p) (signature_rank k q n) = absurd (constant_or_variable (sym q ∙ p))
    by r s (taken_rank j p) (entry_rank c w e q f a) = absurd (constant_or_variable (sym q ∙ p))
    by r s (taken_rank j p) (taken_rank i q) = inl (ap (λ m. 2 ∷ (length (taken o.type) - suc m) ∷ []) (same_variable (sym p ∙ q)))

pub offer_has_one_place : OfferHasOnePlace
offer_has_one_place first W once C o r s h k = by (places_are_of_one_block first W C o r s h k)
  where
    by : (r ≡ s) ⊎ ((v : ℕ) × (w : ℕ) × (B : Block) × (t : List ℕ) × (r ≡ 1 ∷ v ∷ t) × (s ≡ 1 ∷ w ∷ t) × StandsAt v B W × StandsAt w B W) → r ≡ s
    by (inl e) = e
    by (inr (v, w, B, t, p, q, a, b)) = p ∙ ap (λ n. 1 ∷ n ∷ t) (once v w B a b) ∙ sym q
