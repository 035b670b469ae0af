-- The heads of cases with two block variables, and the typed instances and values that these give.
use Rattle.std.proofs.Common.{◌≡◌, ℕ, zero, suc, List, [], ◌∷◌, ◌+◌, ◌<◌, length, refl, sym, ap, ap₂, ◌∙◌, subst, arith, inl, inr, true≢false}
use Rattle.std.specs.Prelude.{false, Some}
use Rattle.lf.specs.Syntax.{Head, Term, constant, variable, nil, LfType, pi, base, rename_type, weaken}
use Rattle.lf.specs.AtOnce.{in_front, shift_by}
use Rattle.lf.specs.Substitution.{Image, keep, put, rename_image, apply_image, substitute, substitute_type, reduce, after}
use Rattle.lf.specs.Typing.{TypeAt}
use Rattle.lf.specs.Variables.{target}
use Rattle.lf.specs.Subordination.{Block, Member}
use Rattle.lf.specs.Worlds.{lift_over}
use Rattle.lf_cases.specs.Case.{Item, free_variable, as_term, entries_in_front, items_context}
use Rattle.lf_cases.specs.Candidates.{free_among}
use Rattle.lf_cases.specs.Missing.{AreTypedItems, IsTypedInstance}
use Rattle.lf_cases.specs.Reached.{SplitHead, bound_head, constant_head, entry_head, new_entry_head, with_block}
use Rattle.lf_totality.specs.Examples.{exp, var}
use Rattle.lf_coverage.specs.ExamplesTwins.{Twins, twin_types, twin_block, twin_worlds, twin_goal, one_entry, two_entries, same_entry, entry_alike, same, alike}
use Rattle.lf_coverage.specs.HeadOrder.{AreInOrder, Offer, constant_rank, new_rank, old_rank, one_offered, next_offered}
use Rattle.lf_coverage.specs.Heads.{AreOffers}
use Rattle.lf_coverage.proofs.Parts.{some_same}

-- heads of exp and of same
abbrev pub alike_type : LfType
alike_type = pi exp (same (var 0) (var 0))

none_taken : {j : ℕ} → j < zero → ⊥
none_taken l = omega arith

differ : {m n : ℕ} → m ≡ suc n → m ≡ zero → ⊥
differ p q = omega arith

two_one : {m : ℕ} → m ≡ 2 → m ≡ 1 → ⊥
two_one p q = omega arith

abbrev pub Each : Type 1
Each = List Item → ℕ → Head → LfType → Type 0

-- of a new block variable it is x
abbrev New : List Item → Each → ℕ → Block → Type 0
New I P a B = (j : ℕ) (C : LfType) → j < length B.entries → TypeAt (items_context (with_block B I)) j C → target C ≡ a → P (with_block B I) (length B.some + length B.entries) (variable (j + 0)) (rename_type (shift_by 0) C)

new_exp : (I : List Item) (P : Each) → P (with_block twin_block I) 2 (variable 1) exp → New I P 0 twin_block
new_exp I P p zero C l g t = absurd (differ (ap target g) t)
new_exp I P p (suc zero) C l (D, g, r) t = subst (λ X. P (with_block twin_block I) 2 (variable 1) (rename_type (shift_by 0) X)) (sym (r ∙ ap weaken g)) p
new_exp I P p (suc (suc j)) C l g t = absurd (omega arith)

new_same : (I : List Item) (P : Each) → New I P 1 twin_block
new_same I P zero C l g t = absurd (two_one (ap target g) t)
new_same I P (suc zero) C l (D, g, r) t = absurd (differ t (ap target (r ∙ ap weaken g)))
new_same I P (suc (suc j)) C l g t = absurd (omega arith)

each_exp : (I : List Item) (P : Each) → P (with_block twin_block I) 2 (variable 1) exp → ((j : ℕ) (A : LfType) → TypeAt (items_context I) j A → free_among I j ≡ false → target A ≡ 0 → P I 0 (variable (j + 0)) (rename_type (shift_by 0) A)) → (J : List Item) (n : ℕ) (h : Head) (A : LfType) → SplitHead Twins twin_worlds I exp J n h A → P J n h A
each_exp I P p q J n h A (constant_head k U e t) = absurd (no_constant k U e t)
  where
    no_constant : (k : ℕ) (U : LfType) → twin_types k ≡ Some U → target U ≡ 0 → ⊥
    no_constant zero U e t = differ (sym (ap target (some_same e))) t
    no_constant (suc k) U e t = cc
each_exp I P p q J n h A (bound_head j B l g t) = absurd (none_taken l)
each_exp I P p q J n h A (entry_head j B g f t) = q j B g f t
each_exp I P p q J n h A (new_entry_head B j C (inr m) l g t) = absurd m
each_exp I P p q J n h A (new_entry_head B j C (inl e) l g t) = subst (New I P 0) (sym e) (new_exp I P p) j C l g t

pub each_same : (I : List Item) (M N : Term) (P : Each) → P I 0 (constant 0) alike_type → ((j : ℕ) (A : LfType) → TypeAt (items_context I) j A → free_among I j ≡ false → target A ≡ 1 → ⊥) → (J : List Item) (n : ℕ) (h : Head) (A : LfType) → SplitHead Twins twin_worlds I (same M N) J n h A → P J n h A
each_same I M N P p q J n h A (constant_head k U e t) = at_constant k U e
  where
    at_constant : (k : ℕ) (U : LfType) → twin_types k ≡ Some U → P I 0 (constant k) U
    at_constant zero U e = subst (P I 0 (constant 0)) (some_same e) p
    at_constant (suc k) U e = absurd cc
each_same I M N P p q J n h A (bound_head j B l g t) = absurd (none_taken l)
each_same I M N P p q J n h A (entry_head j B g f t) = absurd (q j B g f t)
each_same I M N P p q J n h A (new_entry_head B j C (inr m) l g t) = absurd m
each_same I M N P p q J n h A (new_entry_head B j C (inl e) l g t) = subst (New I P 1) (sym e) (new_same I P) j C l g t

-- what is offered
abbrev pub new_offer : List Item → Offer
new_offer I = record { items = with_block twin_block I; moved = 2; head = variable 1; type = exp }

abbrev pub old_offer : Offer
old_offer = record { items = one_entry.items; moved = 0; head = variable 3; type = exp }

abbrev pub alike_offer : List Item → Offer
alike_offer I = record { items = I; moved = 0; head = constant 0; type = alike_type }

abbrev IsHead : List Item → LfType → Offer → Type 0
IsHead I X h = SplitHead Twins twin_worlds I X h.items h.moved h.head h.type

abbrev pub InList : List Offer → Each
InList hs J n h A = Member (record { items = J; moved = n; head = h; type = A }) hs

pub goal_offers : AreOffers Twins twin_worlds twin_goal.items exp (new_offer twin_goal.items ∷ [])
goal_offers = record { each = each; every = each_exp twin_goal.items (InList (new_offer twin_goal.items ∷ [])) (inl refl) old }
  where
    each : (h : Offer) → Member h (new_offer twin_goal.items ∷ []) → IsHead twin_goal.items exp h
    each h (inl e) = subst (IsHead twin_goal.items exp) (sym e) (new_entry_head twin_block 1 exp (inl refl) (omega arith) (exp, refl, refl) refl)
    each h (inr e) = absurd e

    old : (j : ℕ) (A : LfType) → TypeAt (items_context twin_goal.items) j A → free_among twin_goal.items j ≡ false → target A ≡ 0 → InList (new_offer twin_goal.items ∷ []) twin_goal.items 0 (variable (j + 0)) (rename_type (shift_by 0) A)
    old zero A g f t = absurd (true≢false f)
    old (suc zero) A g f t = absurd (true≢false f)
    old (suc (suc zero)) A g f t = absurd (true≢false f)
    old (suc (suc (suc j))) A (B, (C, (D, g, r), r'), r'') f t = absurd g

pub entry_offers : AreOffers Twins twin_worlds one_entry.items exp (new_offer one_entry.items ∷ old_offer ∷ [])
entry_offers = record { each = each; every = each_exp one_entry.items (InList (new_offer one_entry.items ∷ old_offer ∷ [])) (inl refl) old }
  where
    each : (h : Offer) → Member h (new_offer one_entry.items ∷ old_offer ∷ []) → IsHead one_entry.items exp h
    each h (inl e) = subst (IsHead one_entry.items exp) (sym e) (new_entry_head twin_block 1 exp (inl refl) (omega arith) (exp, refl, refl) refl)
    each h (inr (inl e)) = subst (IsHead one_entry.items exp) (sym e) (entry_head 3 exp (exp, (exp, (exp, refl, refl), refl), refl) refl refl)
    each h (inr (inr e)) = absurd e

    old : (j : ℕ) (A : LfType) → TypeAt (items_context one_entry.items) j A → free_among one_entry.items j ≡ false → target A ≡ 0 → InList (new_offer one_entry.items ∷ old_offer ∷ []) one_entry.items 0 (variable (j + 0)) (rename_type (shift_by 0) A)
    old zero A g f t = absurd (true≢false f)
    old (suc zero) A g f t = absurd (true≢false f)
    old (suc (suc zero)) A (B, (C, g, r), r') f t = absurd (differ (ap target (r' ∙ ap weaken (r ∙ ap weaken g))) t)
    old (suc (suc (suc zero))) A (B, (C, (D, g, r), r'), r'') f t = subst (λ X. InList (new_offer one_entry.items ∷ old_offer ∷ []) one_entry.items 0 (variable 3) (rename_type (shift_by 0) X)) (sym (r'' ∙ ap weaken (r' ∙ ap weaken (r ∙ ap weaken g)))) (inr (inl refl))
    old (suc (suc (suc (suc j)))) A (B, (C, (D, (E, g, s), r), r'), r'') f t = absurd g

-- no entry is of the family same
pub none_same_two : (j : ℕ) (A : LfType) → TypeAt (items_context two_entries.items) j A → free_among two_entries.items j ≡ false → target A ≡ 1 → ⊥
none_same_two zero A g f t = true≢false f
none_same_two (suc zero) A (B, g, r) f t = two_one (ap target (r ∙ ap weaken g)) t
none_same_two (suc (suc zero)) A (B, (C, g, r), r') f t = differ t (ap target (r' ∙ ap weaken (r ∙ ap weaken g)))
none_same_two (suc (suc (suc zero))) A (B, (C, (D, g, r), r'), r'') f t = two_one (ap target (r'' ∙ ap weaken (r' ∙ ap weaken (r ∙ ap weaken g)))) t
none_same_two (suc (suc (suc (suc zero)))) A (B, (C, (D, (E, g, s), r), r'), r'') f t = differ t (ap target (r'' ∙ ap weaken (r' ∙ ap weaken (r ∙ ap weaken (s ∙ ap weaken g)))))
none_same_two (suc (suc (suc (suc (suc j))))) A (B, (C, (D, (E, (F, g, q), s), r), r'), r'') f t = g

pub none_same_one : (j : ℕ) (A : LfType) → TypeAt (items_context same_entry.items) j A → free_among same_entry.items j ≡ false → target A ≡ 1 → ⊥
none_same_one zero A g f t = true≢false f
none_same_one (suc zero) A (B, g, r) f t = two_one (ap target (r ∙ ap weaken g)) t
none_same_one (suc (suc zero)) A (B, (C, g, r), r') f t = differ t (ap target (r' ∙ ap weaken (r ∙ ap weaken g)))
none_same_one (suc (suc (suc j))) A (B, (C, (D, g, r), r'), r'') f t = g

pub alike_offers : (I : List Item) (M N : Term) → ((j : ℕ) (A : LfType) → TypeAt (items_context I) j A → free_among I j ≡ false → target A ≡ 1 → ⊥) → AreOffers Twins twin_worlds I (same M N) (alike_offer I ∷ [])
alike_offers I M N q = record { each = each; every = each_same I M N (InList (alike_offer I ∷ [])) (inl refl) q }
  where
    each : (h : Offer) → Member h (alike_offer I ∷ []) → IsHead I (same M N) h
    each h (inl e) = subst (IsHead I (same M N)) (sym e) (constant_head 0 alike_type refl refl)
    each h (inr e) = absurd e

pub goal_in_order : AreInOrder twin_worlds twin_goal.items exp (new_offer twin_goal.items ∷ [])
goal_in_order = one_offered (1 ∷ 0 ∷ 0 ∷ 0 ∷ []) (new_rank twin_block 0 1 exp refl (omega arith))

pub entry_in_order : AreInOrder twin_worlds one_entry.items exp (new_offer one_entry.items ∷ old_offer ∷ [])
entry_in_order = next_offered (1 ∷ 0 ∷ 0 ∷ 0 ∷ []) (1 ∷ 0 ∷ 0 ∷ 1 ∷ []) (new_rank twin_block 0 1 exp refl (omega arith)) (old_rank twin_block 0 0 1 3 exp refl (inl (refl, refl, refl, omega arith))) (inr (refl, inr (refl, inr (refl, inl (omega arith))))) (one_offered (1 ∷ 0 ∷ 0 ∷ 1 ∷ []) (old_rank twin_block 0 0 1 3 exp refl (inl (refl, refl, refl, omega arith))))

pub alike_in_order : (I : List Item) (M N : Term) → AreInOrder twin_worlds I (same M N) (alike_offer I ∷ [])
alike_in_order I M N = one_offered (0 ∷ 0 ∷ []) (constant_rank 0 alike_type)

-- values of the splits
abbrev pub whole : ℕ → Image
whole = lift_over twin_block.entries keep

abbrev pub es : List LfType
es = twin_block.entries

abbrev pub first_items : List Item
first_items = with_block twin_block twin_goal.items

abbrev pub first_values : ℕ → Image
first_values = entries_in_front es (λ i. rename_image suc (rename_image suc (whole i))) (in_front (put (base 1) (var 0)) (in_front (put (base 0) (var 1)) (in_front (put (base 0) (var 3)) keep)))

abbrev pub new_items : List Item
new_items = with_block twin_block one_entry.items

abbrev pub second_block : ℕ → Image
second_block i = rename_image suc (rename_image (shift_by 2) (whole i))

abbrev pub new_values : ℕ → Image
new_values = entries_in_front es (λ i. rename_image suc (whole i)) (in_front (put (base 1) (var 0)) (in_front (put (base 0) (var 2)) (entries_in_front es second_block keep)))

abbrev pub old_values : ℕ → Image
old_values = in_front (put (base 1) (var 0)) (in_front (put (base 0) (var 2)) (entries_in_front es (λ i. rename_image suc (whole i)) keep))

abbrev pub alike_items : List Item
alike_items = free_variable exp ∷ same_entry.items

abbrev pub alike_values : ℕ → Image
alike_values = in_front (put (base 0) (var 1)) (in_front (put (base 1) (alike (var 1))) (entries_in_front es whole keep))

abbrev pub both_items : List Item
both_items = free_variable exp ∷ two_entries.items

pub terms_first : {M N P Q : Term} → same M N ≡ same P Q → M ≡ P
terms_first e = cc

pub terms_second : {M N P Q : Term} → same M N ≡ same P Q → N ≡ Q
terms_second e = cc

pub same_variable : {j k : ℕ} → var j ≡ var k → j ≡ k
same_variable e = cc

-- What makes a variable the head gives all that the case gives, and the types stay.
module _ (X Y Z : Term) (θ τ υ υ1 υ2 ρ : ℕ → Image) (e : τ ≡ entries_in_front es θ υ) (dz : υ ≡ in_front (put (base 1) Z) υ1) (dy : υ1 ≡ in_front (put (base 0) Y) υ2) (dx : υ2 ≡ in_front (put (base 0) X) ρ) (s : as_term (base 0) (τ 4) ≡ substitute reduce τ (var 1)) where
  at_X : τ 4 ≡ put (base 0) X
  at_X = ap (λ k. k 4) e ∙ ap (λ k. k 2) dz ∙ ap (λ k. k 1) dy ∙ ap (λ k. k 0) dx

  X_is : X ≡ apply_image reduce (θ 1) nil
  X_is = sym (ap (as_term (base 0)) at_X) ∙ s ∙ ap (λ k. apply_image reduce (k 1) nil) e

  pub first_type : substitute_type reduce υ1 (same (var 1) (var 0)) ≡ same (apply_image reduce (θ 1) nil) Y
  first_type = ap₂ (λ a c. same a c) (ap (λ y. apply_image reduce y nil) (ap (λ k. k 1) dy ∙ ap (λ k. k 0) dx) ∙ X_is) (ap (λ y. apply_image reduce y nil) (ap (λ k. k 0) dy))

  pub first_same : (i : ℕ) (A : LfType) → TypeAt (items_context first_items) i A → τ i ≡ after (in_front (put (base 1) Z) (in_front (put (base 0) Y) (entries_in_front es θ keep))) first_values i
  first_same zero A g = ap (λ k. k 0) e
  first_same (suc zero) A g = ap (λ k. k 1) e
  first_same (suc (suc zero)) A g = ap (λ k. k 2) e ∙ ap (λ k. k 0) dz
  first_same (suc (suc (suc zero))) A g = ap (λ k. k 3) e ∙ ap (λ k. k 1) dz ∙ ap (λ k. k 0) dy
  first_same (suc (suc (suc (suc zero)))) A g = at_X ∙ ap (put (base 0)) X_is
  first_same (suc (suc (suc (suc (suc i))))) A (B, (C, (D, (E, (F, g, q), s'), r), r'), r'') = absurd g

-- c.x for Y
module _ (Y Z : Term) (θ φ τ υ υ1 υ2 ρ : ℕ → Image) (e : τ ≡ entries_in_front es θ υ) (dz : υ ≡ in_front (put (base 1) Z) υ1) (dy : υ1 ≡ in_front (put (base 0) Y) υ2) (e' : υ2 ≡ entries_in_front es φ ρ) (s : as_term (base 0) (τ 3) ≡ substitute reduce τ (var 1)) where
  new_Y : τ 3 ≡ put (base 0) Y
  new_Y = ap (λ k. k 3) e ∙ ap (λ k. k 1) dz ∙ ap (λ k. k 0) dy

  new_Y_is : Y ≡ apply_image reduce (θ 1) nil
  new_Y_is = sym (ap (as_term (base 0)) new_Y) ∙ s ∙ ap (λ k. apply_image reduce (k 1) nil) e

  pub new_type : substitute_type reduce υ1 (same (var 2) (var 0)) ≡ same (apply_image reduce (φ 1) nil) (apply_image reduce (θ 1) nil)
  new_type = ap₂ (λ a c. same a c) (ap (λ y. apply_image reduce y nil) (ap (λ k. k 2) dy ∙ ap (λ k. k 1) e')) (ap (λ y. apply_image reduce y nil) (ap (λ k. k 0) dy) ∙ new_Y_is)

  pub new_same_values : (i : ℕ) (A : LfType) → TypeAt (items_context new_items) i A → τ i ≡ after (in_front (put (base 1) Z) (entries_in_front es θ (entries_in_front es φ keep))) new_values i
  new_same_values zero A g = ap (λ k. k 0) e
  new_same_values (suc zero) A g = ap (λ k. k 1) e
  new_same_values (suc (suc zero)) A g = ap (λ k. k 2) e ∙ ap (λ k. k 0) dz
  new_same_values (suc (suc (suc zero))) A g = new_Y ∙ ap (put (base 0)) new_Y_is
  new_same_values (suc (suc (suc (suc zero)))) A g = ap (λ k. k 4) e ∙ ap (λ k. k 2) dz ∙ ap (λ k. k 1) dy ∙ ap (λ k. k 0) e'
  new_same_values (suc (suc (suc (suc (suc zero))))) A g = ap (λ k. k 5) e ∙ ap (λ k. k 3) dz ∙ ap (λ k. k 2) dy ∙ ap (λ k. k 1) e'
  new_same_values (suc (suc (suc (suc (suc (suc i)))))) A (B, (C, (D, (E, (F, (H, g, q'), q), s'), r), r'), r'') = absurd g

-- b.x for Y
module _ (Y Z : Term) (φ τ υ1 υ2 ρ : ℕ → Image) (dz : τ ≡ in_front (put (base 1) Z) υ1) (dy : υ1 ≡ in_front (put (base 0) Y) υ2) (e' : υ2 ≡ entries_in_front es φ ρ) (s : as_term (base 0) (τ 1) ≡ substitute reduce τ (var 3)) where
  old_Y : τ 1 ≡ put (base 0) Y
  old_Y = ap (λ k. k 1) dz ∙ ap (λ k. k 0) dy

  old_x : τ 3 ≡ φ 1
  old_x = ap (λ k. k 3) dz ∙ ap (λ k. k 2) dy ∙ ap (λ k. k 1) e'

  old_Y_is : Y ≡ apply_image reduce (φ 1) nil
  old_Y_is = sym (ap (as_term (base 0)) old_Y) ∙ s ∙ ap (λ y. apply_image reduce y nil) old_x

  pub old_type : substitute_type reduce υ1 (same (var 2) (var 0)) ≡ same (apply_image reduce (φ 1) nil) (apply_image reduce (φ 1) nil)
  old_type = ap₂ (λ a c. same a c) (ap (λ y. apply_image reduce y nil) (ap (λ k. k 2) dy ∙ ap (λ k. k 1) e')) (ap (λ y. apply_image reduce y nil) (ap (λ k. k 0) dy) ∙ old_Y_is)

  pub old_same : (i : ℕ) (A : LfType) → TypeAt (items_context one_entry.items) i A → τ i ≡ after (in_front (put (base 1) Z) (entries_in_front es φ keep)) old_values i
  old_same zero A g = ap (λ k. k 0) dz
  old_same (suc zero) A g = old_Y ∙ ap (put (base 0)) old_Y_is
  old_same (suc (suc zero)) A g = ap (λ k. k 2) dz ∙ ap (λ k. k 1) dy ∙ ap (λ k. k 0) e'
  old_same (suc (suc (suc zero))) A g = old_x
  old_same (suc (suc (suc (suc i)))) A (B, (C, (D, (E, g, s'), r), r'), r'') = absurd g

-- alike b.x for Z
module _ (H Z : Term) (φ τ υ υ1 ρ : ℕ → Image) (dh : τ ≡ in_front (put (base 0) H) υ) (dz : υ ≡ in_front (put (base 1) Z) υ1) (e' : υ1 ≡ entries_in_front es φ ρ) (s : as_term (base 1) (τ 1) ≡ substitute reduce τ (alike (var 0))) (h : H ≡ apply_image reduce (φ 1) nil) where
  alike_Z : τ 1 ≡ put (base 1) Z
  alike_Z = ap (λ k. k 1) dh ∙ ap (λ k. k 0) dz

  pub alike_same : (i : ℕ) (A : LfType) → TypeAt (items_context alike_items) i A → τ i ≡ after (entries_in_front es φ keep) alike_values i
  alike_same zero A g = ap (λ k. k 0) dh ∙ ap (put (base 0)) h
  alike_same (suc zero) A g = alike_Z ∙ ap (put (base 1)) (sym (ap (as_term (base 1)) alike_Z) ∙ s ∙ ap (λ k. alike (apply_image reduce (k 0) nil)) dh ∙ ap (λ M. alike M) h)
  alike_same (suc (suc zero)) A g = ap (λ k. k 2) dh ∙ ap (λ k. k 1) dz ∙ ap (λ k. k 0) e'
  alike_same (suc (suc (suc zero))) A g = ap (λ k. k 3) dh ∙ ap (λ k. k 2) dz ∙ ap (λ k. k 1) e'
  alike_same (suc (suc (suc (suc i)))) A (B, (C, (D, (E, g, s'), r), r'), r'') = absurd g

-- the cases are typed instances
pub first_items_typed : AreTypedItems Twins twin_worlds one_entry.items
first_items_typed = (((tt, inl refl, record { typed = λ i A g u. absurd g; closed = λ i A g u. absurd g }), (_, refl, tt)), (_, refl, ((exp, (exp, (exp, refl, refl), refl), refl), ((exp, refl, refl), tt))))

abbrev pub first_instance : IsTypedInstance Twins one_entry.items first_items first_values
first_instance = ((λ i. rename_image suc (rename_image suc (whole i))), in_front (put (base 1) (var 0)) (in_front (put (base 0) (var 1)) (in_front (put (base 0) (var 3)) keep)), (var 0, in_front (put (base 0) (var 1)) (in_front (put (base 0) (var 3)) keep), (var 1, in_front (put (base 0) (var 3)) keep, (var 3, keep, tt, (exp, (exp, (exp, (exp, refl, refl), refl), refl), refl), refl), (exp, (exp, refl, refl), refl), refl), (same (var 3) (var 1), refl, refl), refl), ((λ i. rename_image suc (whole i)), (whole, inl (refl, refl), refl), refl), (λ i A g. absurd g), refl)

pub new_items_typed : AreTypedItems Twins twin_worlds two_entries.items
new_items_typed = (((tt, inl refl, record { typed = λ i A g u. absurd g; closed = λ i A g u. absurd g }), inl refl, record { typed = λ i A g u. absurd g; closed = λ i A g u. absurd g }), (_, refl, ((exp, (exp, (exp, (exp, refl, refl), refl), refl), refl), ((exp, (exp, refl, refl), refl), tt))))

abbrev pub new_instance : IsTypedInstance Twins two_entries.items new_items new_values
new_instance = ((λ i. rename_image suc (whole i)), in_front (put (base 1) (var 0)) (in_front (put (base 0) (var 2)) (entries_in_front es second_block keep)), (var 0, in_front (put (base 0) (var 2)) (entries_in_front es second_block keep), (var 2, entries_in_front es second_block keep, (second_block, keep, tt, ((λ i. rename_image (shift_by 2) (whole i)), inr (whole, inl (refl, refl), refl), refl), (λ i A g. absurd g), refl), (exp, (exp, (exp, refl, refl), refl), refl), refl), (same (var 4) (var 2), refl, refl), refl), (whole, inl (refl, refl), refl), (λ i A g. absurd g), refl)

pub old_items_typed : AreTypedItems Twins twin_worlds same_entry.items
old_items_typed = ((tt, inl refl, record { typed = λ i A g u. absurd g; closed = λ i A g u. absurd g }), (_, refl, ((exp, (exp, refl, refl), refl), ((exp, (exp, refl, refl), refl), tt))))

abbrev pub old_instance : IsTypedInstance Twins same_entry.items one_entry.items old_values
old_instance = (var 0, in_front (put (base 0) (var 2)) (entries_in_front es (λ i. rename_image suc (whole i)) keep), (var 2, entries_in_front es (λ i. rename_image suc (whole i)) keep, ((λ i. rename_image suc (whole i)), keep, tt, (whole, inl (refl, refl), refl), (λ i A g. absurd g), refl), (exp, (exp, (exp, refl, refl), refl), refl), refl), (same (var 2) (var 2), refl, refl), refl)

pub alike_items_typed : AreTypedItems Twins twin_worlds entry_alike.items
alike_items_typed = (tt, inl refl, record { typed = λ i A g u. absurd g; closed = λ i A g u. absurd g })

abbrev pub alike_instance : IsTypedInstance Twins entry_alike.items alike_items alike_values
alike_instance = (var 1, in_front (put (base 1) (alike (var 1))) (entries_in_front es whole keep), (alike (var 1), entries_in_front es whole keep, (whole, keep, tt, inl (refl, refl), (λ i A g. absurd g), refl), (alike_type, refl, ((exp, (exp, refl, refl), refl), refl)), refl), (exp, (exp, refl, refl), refl), refl)
