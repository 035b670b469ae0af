-- Heads in order, a deep case, and stores of a case and a pattern.
use Rattle.std.proofs.Common.{◌≡◌, ℕ, zero, suc, List, [], ◌∷◌, ◌<◌, ◌+◌, length, refl, sym, ap, ◌∙◌, subst, arith, inl, inr, true≢false}
use Rattle.std.specs.Prelude.{Some, max}
use Rattle.lf.specs.AtOnce.{shift_by}
use Rattle.lf.specs.Syntax.{Head, constant, variable, LfType, pi, rename_type, weaken}
use Rattle.lf.specs.Depth.{depth}
use Rattle.lf.specs.Typing.{TypeAt}
use Rattle.lf.specs.Variables.{target}
use Rattle.lf.specs.Subordination.{Block, Member}
use Rattle.lf_cases.specs.Case.{Item, free_variable, items_context}
use Rattle.lf_cases.specs.Reached.{SplitHead, constant_head, bound_head, entry_head, new_entry_head, with_block}
use Rattle.lf_totality.specs.Examples.{Copying, copying_types, copy_block, exp, function, plus_input_goal}
use Rattle.lf_coverage.specs.HeadOrder.{Offer, constant_rank, new_rank, one_offered, next_offered}
use Rattle.lf_coverage.specs.TooDeep.{IsDeepCase}
use Rattle.lf_coverage.specs.Examples.{copy_offers, CopyHeadsAreInOrder, number, NumbersGetDeep, StoresOfMeeting}
use Rattle.lf_coverage.proofs.Parts.{some_same}

abbrev Listed : List Item → ℕ → Head → LfType → Type 0
Listed J n h A = Member (record { items = J; moved = n; head = h; type = A }) copy_offers

-- of the entries of the block it is x
abbrev New : Block → Type 0
New B = (j : ℕ) (C : LfType) → j < length B.entries → TypeAt (items_context (with_block B (free_variable exp ∷ []))) j C → target C ≡ 0 → Listed (with_block B (free_variable exp ∷ [])) (length B.some + length B.entries) (variable (j + 0)) (rename_type (shift_by 0) C)

new : New copy_block
new zero C l g t = let q : ◌≡◌ {A = ℕ} 1 0 = sym (ap target g) ∙ t in absurd (omega arith)
new (suc zero) C l (D, g, r) t = subst (λ X. Listed (with_block copy_block (free_variable exp ∷ [])) 2 (variable 1) (rename_type (shift_by 0) X)) (sym (r ∙ ap weaken g)) (inr (inr (inl refl)))
new (suc (suc j)) C l g t = absurd (omega arith)

-- each head of exp is one of these
every : (J : List Item) (n : ℕ) (h : Head) (A : LfType) → SplitHead Copying (copy_block ∷ []) (free_variable exp ∷ []) exp J n h A → Listed J n h A
every J n h A (constant_head k U e t) = by k U e t
  where
    apart : {m n : ℕ} → m ≡ suc n → m ≡ zero → ⊥
    apart p q = omega arith

    by : (k : ℕ) (U : LfType) → copying_types k ≡ Some U → target U ≡ 0 → Listed (free_variable exp ∷ []) 0 (constant k) U
    by zero U e t = subst (Listed (free_variable exp ∷ []) 0 (constant 0)) (some_same e) (inl refl)
    by (suc zero) U e t = absurd (apart (sym (ap target (some_same e))) t)
    by (suc (suc zero)) U e t = subst (Listed (free_variable exp ∷ []) 0 (constant 2)) (some_same e) (inr (inl refl))
    by (suc (suc (suc zero))) U e t = absurd (apart (sym (ap target (some_same e))) t)
    by (suc (suc (suc (suc k)))) U e t = absurd cc
every J n h A (bound_head j B l g t) = absurd (none l)
  where
    none : {j : ℕ} → j < zero → ⊥
    none l = omega arith
every J n h A (entry_head zero B g f t) = absurd (true≢false f)
every J n h A (entry_head (suc j) B (C, g, r) f t) = absurd g
every J n h A (new_entry_head B j C (inr m) l g t) = absurd m
every J n h A (new_entry_head B j C (inl e) l g t) = subst New (sym e) new j C l g t

offers_each : (h : Offer) → Member h copy_offers → SplitHead Copying (copy_block ∷ []) (free_variable exp ∷ []) exp h.items h.moved h.head h.type
offers_each h (inl e) = subst (λ k. SplitHead Copying (copy_block ∷ []) (free_variable exp ∷ []) exp k.items k.moved k.head k.type) (sym e) (constant_head 0 (pi function exp) refl refl)
offers_each h (inr (inl e)) = subst (λ k. SplitHead Copying (copy_block ∷ []) (free_variable exp ∷ []) exp k.items k.moved k.head k.type) (sym e) (constant_head 2 (pi exp (pi exp exp)) refl refl)
offers_each h (inr (inr (inl e))) = subst (λ k. SplitHead Copying (copy_block ∷ []) (free_variable exp ∷ []) exp k.items k.moved k.head k.type) (sym e) (new_entry_head copy_block 1 exp (inl refl) (omega arith) (exp, refl, refl) refl)
offers_each h (inr (inr (inr e))) = absurd e

pub copy_heads_in_order : CopyHeadsAreInOrder
copy_heads_in_order = (
  record { each = offers_each; every = every },
  next_offered (0 ∷ 0 ∷ []) (0 ∷ 2 ∷ []) (constant_rank 0 (pi function exp)) (constant_rank 2 (pi exp (pi exp exp))) (inr (refl, inl (omega arith)))
      (next_offered (0 ∷ 2 ∷ []) (1 ∷ 0 ∷ 0 ∷ 0 ∷ []) (constant_rank 2 (pi exp (pi exp exp))) (new_rank copy_block 0 1 exp refl (omega arith)) (inl (omega arith)) (one_offered (1 ∷ 0 ∷ 0 ∷ 0 ∷ []) (new_rank copy_block 0 1 exp refl (omega arith)))),
)

pub depth_is : (n : ℕ) → depth (number n) ≡ suc n
unfolding number
depth_is zero = refl
depth_is (suc n) = ap (λ d. suc (max d zero)) (depth_is n) ∙ more n
  where
    more : (n : ℕ) → suc (max (suc n) zero) ≡ suc (suc n)
    more n = omega arith

pub numbers_get_deep : NumbersGetDeep
numbers_get_deep = (inr (inr (inr (inl (deep (depth (number 4096)) (depth_is 4096))))), no)
  where
    deep : (d : ℕ) → d ≡ suc 4096 → 4096 < d
    deep d e = omega arith

    no : IsDeepCase plus_input_goal → ⊥
    no (inl (inl h)) = absurd (omega arith)
    no (inl (inr (inl h))) = absurd (omega arith)
    no (inl (inr (inr h))) = absurd h
    no (inr (inl h)) = absurd h
    no (inr (inr (inl h))) = absurd h
    no (inr (inr (inr (inl h)))) = absurd (omega arith)
    no (inr (inr (inr (inr (inl h))))) = absurd (omega arith)
    no (inr (inr (inr (inr (inr h))))) = absurd h

pub stores_of_meeting : StoresOfMeeting
stores_of_meeting = (refl, refl)
