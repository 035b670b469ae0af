-- Each head that is offered to a variable stands in a list, as p a, p (s N) and p b.x do: where each constant, each entry and each new entry does.
use Rattle.std.proofs.Common.{◌≡◌, ℕ, ◌+◌, List, [], ◌∷◌, length, inl, inr, refl, sym, ap, ◌∙◌, subst, arith}
use Rattle.std.specs.Prelude.{◌<◌, false, Some, None}
use Rattle.lf.specs.Syntax.{Head, constant, Spine, nil, LfType, rename_spine, rename_type}
use Rattle.lf.specs.AtOnce.{shift_by}
use Rattle.lf.specs.Typing.{Signature}
use Rattle.lf.specs.Variables.{same_number, target}
use Rattle.lf.specs.Subordination.{Block, Member}
use Rattle.lf_cases.specs.Reached.{taken}
use Rattle.lf_coverage.proofs.OtherNumbers.{other_number}
use Rattle.lf_coverage.proofs.Parts.{none_some, some_same}
use Rattle.lf_numbered.specs.EntryConstants.{with_entries}
use Rattle.lf_numbered.specs.NumberedCase.{NumberedCase}
use Rattle.lf_numbered.specs.NewBlock.{with_new_block}
use Rattle.lf_numbered.specs.NumberedSplits.{IsOfferTo, NumberedOffer, of_case, of_new_block}
use Rattle.lf_numbered.specs.OwnStores.{IsNumberedOffer, left_type, offer_entry, offer_signature, offer_taken}
use Rattle.lf_numbered.specs.OwnTerms.{blocks_of, own_terms}
use Rattle.lf_numbered.proofs.EntrySignature.{entries_kept}

-- a head for the variable x of C, of the type X; and the entry c on U, of the type V
abbrev pub offer_with : NumberedCase → ℕ → LfType → Head → Spine → LfType → NumberedOffer
offer_with C x X h U A = record { case = C; variable = x; type = X; head = h; terms = U; left = A }

abbrev pub offer_of_entry : NumberedCase → ℕ → LfType → ℕ → Spine → LfType → NumberedOffer
offer_of_entry C x X c U V = offer_with C x X (constant c) (rename_spine (shift_by (length (taken X))) U) (rename_type (shift_by (length (taken X))) (left_type U V))

-- An entry whose terms and type are these is offered so.
pub entry_member : (C : NumberedCase) (x : ℕ) (X : LfType) (os : List NumberedOffer) (c : ℕ) (T U : Spine) (A V : LfType) → Some T ≡ Some U → Some A ≡ Some V → Member (offer_of_entry C x X c T A) os → Member (offer_of_entry C x X c U V) os
entry_member C x X os c T U A V e f m = subst (λ S. Member (offer_of_entry C x X c S V) os) (some_same e) (subst (λ B. Member (offer_of_entry C x X c T B) os) (some_same f) m)

-- A type whose target is another family isn't that of a head.
pub other_target : {V E : LfType} {a : ℕ} → Some E ≡ Some V → target V ≡ a → same_number (target E) a ≡ false → ⊥
other_target e t d = other_number (ap target (some_same e) ∙ t) d

-- The lists in which each head that is offered to the variable x of C, of the type X, stands: a constant of the signature, an entry of the case, and an
-- entry of a new block variable of the block B.
module _ (Σ : Signature) (first : ℕ) (C : NumberedCase) (x : ℕ) (X : LfType) (os : List NumberedOffer) where
  abbrev pub ConstantsAreIn : Type 0
  ConstantsAreIn = (k : ℕ) (V : LfType) → Σ.types k ≡ Some V → target V ≡ target X → Member (offer_with C x X (constant k) nil V) os

  abbrev pub EntriesAreIn : Type 0
  EntriesAreIn = (c : ℕ) (U : Spine) (V : LfType) → own_terms first C.blocks c ≡ Some U → (with_entries Σ first (blocks_of C.blocks)).types c ≡ Some V → target V ≡ target X → Member (offer_of_entry C x X c U V) os

  abbrev pub NewEntriesAreIn : Block → Type 0
  NewEntriesAreIn B = (c : ℕ) (U : Spine) (V : LfType) → (with_entries Σ first (blocks_of C.blocks)).types c ≡ None → own_terms first (with_new_block B C).blocks c ≡ Some U → (with_entries Σ first (blocks_of (with_new_block B C).blocks)).types c ≡ Some V → target V ≡ target (rename_type (shift_by (length B.some)) X) → Member (offer_of_entry (with_new_block B C) (x + length B.some) (rename_type (shift_by (length B.some)) X) c U V) os

  abbrev pub AllNewEntriesAreIn : List Block → Type 0
  AllNewEntriesAreIn [] = Unit {0}
  AllNewEntriesAreIn (B ∷ Bs) = NewEntriesAreIn B × AllNewEntriesAreIn Bs

  abbrev NewHeadsAreIn : Block → Type 0
  NewHeadsAreIn B = (c : ℕ) (U : Spine) (A : LfType) → (with_entries Σ first (blocks_of C.blocks)).types c ≡ None → IsNumberedOffer Σ first (with_new_block B C) (rename_type (shift_by (length B.some)) X) (constant c) U A → Member (offer_with (with_new_block B C) (x + length B.some) (rename_type (shift_by (length B.some)) X) (constant c) U A) os

  -- A constant that is new is none of the signature, so it is that of an entry.
  of_block : (B : Block) → NewEntriesAreIn B → NewHeadsAreIn B
  of_block B es c U A n f = by (constant c) U A refl f
    where
      by : (h : Head) (U : Spine) (A : LfType) → h ≡ constant c → IsNumberedOffer Σ first (with_new_block B C) (rename_type (shift_by (length B.some)) X) h U A → Member (offer_with (with_new_block B C) (x + length B.some) (rename_type (shift_by (length B.some)) X) h U A) os
      by h U A p (offer_signature k V e t) = absurd (none_some (sym n ∙ entries_kept Σ first (blocks_of C.blocks) c V (subst (λ i. Σ.types i ≡ Some V) (let q : k ≡ c = cc in q) e)))
      by h U A p (offer_taken j D l g t) = absurd cc
      by h U A p (offer_entry d S V o e t) = es d S V (subst (λ i. (with_entries Σ first (blocks_of C.blocks)).types i ≡ None) (let q : c ≡ d = cc in q) n) o e t

  -- Each head of a new block variable.
  pub new_heads_are_in : (W : List Block) → AllNewEntriesAreIn W → (B : Block) → Member B W → NewHeadsAreIn B
  new_heads_are_in [] es B m = absurd m
  new_heads_are_in (D ∷ W) es B (inl e) = subst NewHeadsAreIn (sym e) (of_block D es.0)
  new_heads_are_in (D ∷ W) es B (inr m) = new_heads_are_in W es.1 B m

  -- Each head, where the variable takes nothing.
  pub heads_are_in : (W : List Block) → length (taken X) ≡ 0 → ConstantsAreIn → EntriesAreIn → AllNewEntriesAreIn W → (o : NumberedOffer) → IsOfferTo Σ first W C x X o → Member o os
  heads_are_in W n cs es bs o (of_case h U A f) = of_this h U A f
    where
      of_this : (h : Head) (U : Spine) (A : LfType) → IsNumberedOffer Σ first C X h U A → Member (offer_with C x X h U A) os
      of_this h U A (offer_signature k V e t) = cs k V e t
      of_this h U A (offer_taken j B l g t) = absurd (omega (subst (λ m. j < m) n l, arith))
      of_this h U A (offer_entry c S V o e t) = es c S V o e t
  heads_are_in W n cs es bs o (of_new_block B c U A m q f) = new_heads_are_in W bs B m c U A q f
