-- The heads that are offered to D in the goal q N D: the entry w of a new block variable alone.
use Rattle.std.proofs.Common.{◌≡◌, ℕ, zero, suc, ◌+◌, length, [], ◌∷◌, inl, inr, refl, sym, ap, ◌∙◌, subst, arith}
use Rattle.std.specs.Prelude.{Some}
use Rattle.lf.specs.Syntax.{Head, constant, Spine, root, nil, LfType, rename_type, rename_spine}
use Rattle.lf.specs.AtOnce.{shift_by}
use Rattle.lf.specs.Variables.{target}
use Rattle.lf.specs.Subordination.{Block, Member}
use Rattle.lf_totality.specs.Examples.{var}
use Rattle.lf_totality.specs.ExamplesGroups.{on_one}
use Rattle.lf_coverage.proofs.Parts.{none_some, some_same}
use Rattle.lf_numbered.specs.EntryConstants.{with_entries}
use Rattle.lf_numbered.specs.EntryPatternsExamples.{Laters, later_worlds, asking_block, answering_block, asked_goal}
use Rattle.lf_numbered.specs.NewBlock.{with_new_block}
use Rattle.lf_numbered.specs.NumberedCase.{NumberedCase}
use Rattle.lf_numbered.specs.NumberedSplits.{NumberedOffer, IsOfferTo, of_case, of_new_block}
use Rattle.lf_numbered.specs.OwnStores.{IsNumberedOffer, offer_signature, offer_taken, offer_entry, left_type}
use Rattle.lf_numbered.specs.OwnTerms.{own_terms}
use Rattle.lf_numbered.specs.TypedNumbered.{IsTypedNumberedCase}
use Rattle.lf_numbered.proofs.EntryPatternsGoals.{goal_leaf}

pub asked_typed : IsTypedNumberedCase Laters 4 later_worlds asked_goal
asked_typed = goal_leaf.typed

abbrev pub new_case : NumberedCase
new_case = with_new_block answering_block asked_goal

-- the type t N of D, and t b.x
abbrev pub of_variable : LfType
of_variable = on_one 1 (var 1)

abbrev pub of_entry_x : LfType
of_entry_x = on_one 1 (root (constant 5) nil)

abbrev pub the_offer : NumberedOffer
the_offer = record { case = new_case; variable = 0; type = of_variable; head = constant 6; terms = nil; left = of_entry_x }

pub entry_offered : IsNumberedOffer Laters 4 new_case of_variable (constant 6) nil of_entry_x
entry_offered = offer_entry 6 nil of_entry_x refl refl refl

pub each : (o : NumberedOffer) → Member o (the_offer ∷ []) → IsOfferTo Laters 4 later_worlds asked_goal 0 of_variable o
each o (inl e) = subst (IsOfferTo Laters 4 later_worlds asked_goal 0 of_variable) (sym e) (of_new_block answering_block 6 nil of_entry_x (inr (inl refl)) refl entry_offered)
each o (inr m) = absurd m

three_not_one : suc (suc (suc zero)) ≡ suc zero → ⊥
three_not_one p = omega (arith, p)

pub zero_not_one : zero ≡ suc zero → ⊥
zero_not_one p = omega (arith, p)

none_of_case : (h : Head) (U : Spine) (A : LfType) → IsNumberedOffer Laters 4 asked_goal of_variable h U A → ⊥
none_of_case h U A (offer_signature k V e t) = none_some e
none_of_case h U A (offer_taken j B l g t) = omega (arith, l)
none_of_case h U A (offer_entry c S V o e t) = no c S V o e t
  where
    no : (c : ℕ) (S : Spine) (V : LfType) → own_terms 4 asked_goal.blocks c ≡ Some S → (with_entries Laters 4 (asking_block ∷ [])).types c ≡ Some V → target V ≡ 1 → ⊥
    no zero S V o e t = none_some o
    no (suc zero) S V o e t = none_some o
    no (suc (suc zero)) S V o e t = none_some o
    no (suc (suc (suc zero))) S V o e t = none_some o
    no (suc (suc (suc (suc zero)))) S V o e t = three_not_one (ap target (some_same e) ∙ t)
    no (suc (suc (suc (suc (suc c))))) S V o e t = none_some o

-- the entry of the other block has no such type
none_of_asking : (h : Head) (U : Spine) (A : LfType) → IsNumberedOffer Laters 4 (with_new_block asking_block asked_goal) (on_one 1 (var 2)) h U A → ⊥
none_of_asking h U A (offer_signature k V e t) = none_some e
none_of_asking h U A (offer_taken j B l g t) = omega (arith, l)
none_of_asking h U A (offer_entry c S V o e t) = no c S V o e t
  where
    no : (c : ℕ) (S : Spine) (V : LfType) → own_terms 4 (with_new_block asking_block asked_goal).blocks c ≡ Some S → (with_entries Laters 4 (asking_block ∷ asking_block ∷ [])).types c ≡ Some V → target V ≡ 1 → ⊥
    no zero S V o e t = none_some o
    no (suc zero) S V o e t = none_some o
    no (suc (suc zero)) S V o e t = none_some o
    no (suc (suc (suc zero))) S V o e t = none_some o
    no (suc (suc (suc (suc zero)))) S V o e t = three_not_one (ap target (some_same e) ∙ t)
    no (suc (suc (suc (suc (suc zero))))) S V o e t = three_not_one (ap target (some_same e) ∙ t)
    no (suc (suc (suc (suc (suc (suc c)))))) S V o e t = none_some o

-- the constant of the entry w is 6, on nothing
one_entry : (c : ℕ) (U : Spine) (V : LfType) → own_terms 4 new_case.blocks c ≡ Some U → (with_entries Laters 4 (asking_block ∷ answering_block ∷ [])).types c ≡ Some V → target V ≡ 1 → (c ≡ 6) × (U ≡ nil) × (V ≡ of_entry_x)
one_entry zero U V o e t = absurd (none_some o)
one_entry (suc zero) U V o e t = absurd (none_some o)
one_entry (suc (suc zero)) U V o e t = absurd (none_some o)
one_entry (suc (suc (suc zero))) U V o e t = absurd (none_some o)
one_entry (suc (suc (suc (suc zero)))) U V o e t = absurd (three_not_one (ap target (some_same e) ∙ t))
one_entry (suc (suc (suc (suc (suc zero))))) U V o e t = absurd (zero_not_one (ap target (some_same e) ∙ t))
one_entry (suc (suc (suc (suc (suc (suc zero)))))) U V o e t = (refl, sym (some_same o), sym (some_same e))
one_entry (suc (suc (suc (suc (suc (suc (suc c))))))) U V o e t = absurd (none_some o)

abbrev offer_with : Head → Spine → LfType → NumberedOffer
offer_with h U A = record { case = new_case; variable = 0; type = of_variable; head = h; terms = U; left = A }

offer_is : (h : Head) (c : ℕ) (U : Spine) (A : LfType) → h ≡ constant c → IsNumberedOffer Laters 4 new_case of_variable h U A → offer_with h U A ≡ the_offer
offer_is h c U A p (offer_signature k V e t) = absurd (none_some e)
offer_is h c U A p (offer_taken j B l g t) = absurd cc
offer_is h c U A p (offer_entry d S V o e t) =
    let (x, y, z) = one_entry d S V o e t in
    ap (λ k. offer_with (constant k) (rename_spine (shift_by 0) S) (rename_type (shift_by 0) (left_type S V))) x
    ∙ ap (λ R. offer_with (constant 6) (rename_spine (shift_by 0) R) (rename_type (shift_by 0) (left_type R V))) y
    ∙ ap (λ B. offer_with (constant 6) nil (rename_type (shift_by 0) B)) z

abbrev offer_of_block : Block → ℕ → Spine → LfType → NumberedOffer
offer_of_block B c U A = record { case = with_new_block B asked_goal; variable = 0 + length B.some; type = rename_type (shift_by (length B.some)) of_variable; head = constant c; terms = U; left = A }

abbrev OfferOf : Block → ℕ → Spine → LfType → Type 0
OfferOf B c U A = IsNumberedOffer Laters 4 (with_new_block B asked_goal) (rename_type (shift_by (length B.some)) of_variable) (constant c) U A

of_block : (B : Block) (c : ℕ) (U : Spine) (A : LfType) → Member B later_worlds → OfferOf B c U A → offer_of_block B c U A ≡ the_offer
of_block B c U A (inl e) f = absurd (none_of_asking (constant c) U A (subst (λ (D : Block). OfferOf D c U A) e f))
of_block B c U A (inr (inl e)) f = ap (λ D. offer_of_block D c U A) e ∙ offer_is (constant c) c U A refl (subst (λ (D : Block). OfferOf D c U A) e f)
of_block B c U A (inr (inr m)) f = absurd m

pub every : (o : NumberedOffer) → IsOfferTo Laters 4 later_worlds asked_goal 0 of_variable o → Member o (the_offer ∷ [])
every o (of_case h U A f) = absurd (none_of_case h U A f)
every o (of_new_block B c U A m n f) = inl (of_block B c U A m f)
