-- Worked cases with two block variables.
use Rattle.std.proofs.Common.{◌≡◌, ℕ, zero, suc, ◌+◌, [], ◌∷◌, Some, inl, inr, refl, sym, subst, arith}
use Rattle.lf.specs.Syntax.{constant, root, nil, base}
use Rattle.lf.specs.Substitution.{Image, keep, put, substitute_spine, substitute_type, reduce}
use Rattle.lf.specs.AtOnce.{in_front}
use Rattle.lf.specs.Typing.{ImageHasType, IsTypedSubstitution}
use Rattle.lf_totality.specs.Examples.{copy_block, exp}
use Rattle.lf_coverage.proofs.Parts.{some_same}
use Rattle.lf_numbered.specs.EntryConstants.{with_entries}
use Rattle.lf_numbered.specs.OwnTerms.{BlockVariable}
use Rattle.lf_numbered.specs.NumberedInstance.{block_at, moved_constant, move_spine}
use Rattle.lf_numbered.specs.ExamplesNumbered.{Turning, first_block, second_block, TurnedIsTyped, two_copies, one_copy, BlocksAreIdentified, CopiesAreNumbered}

-- c.x for n
abbrev on_entry : ℕ → Image
on_entry = in_front (put (base 0) (root (constant 2) nil)) keep

on_entry_typed : IsTypedSubstitution (with_entries Turning 1 (first_block ∷ second_block ∷ [])) (exp ∷ []) [] on_entry
on_entry_typed zero A e = subst (λ B. ImageHasType (with_entries Turning 1 (first_block ∷ second_block ∷ [])) [] (put (base 0) (root (constant 2) nil)) (substitute_type reduce on_entry B)) (sym e) (refl, (exp, refl, refl))
on_entry_typed (suc i) A (B, g, e) = absurd g

pub turned_is_typed : TurnedIsTyped
turned_is_typed = record { variables = tt; on_own_terms = λ i A g. absurd g; blocks = (inl refl, (on_entry, on_entry_typed, refl), (((nil, refl), tt), tt), (inr (inl refl), (keep, (λ i A g. absurd g), refl), tt, tt)) }

-- what a block variable of the first case has become
abbrev become : BlockVariable → BlockVariable
become b = record { block = b.block; terms = substitute_spine reduce (λ i. keep (i + 0)) (move_spine (moved_constant 4 (copy_block ∷ copy_block ∷ []) (copy_block ∷ []) (λ j. 0)) b.terms) }

abbrev Becomes : BlockVariable → Type 0
Becomes b = block_at one_copy.blocks 0 ≡ Some (become b)

identified : (k : ℕ) (b : BlockVariable) → block_at two_copies.blocks k ≡ Some b → Becomes b
identified zero b e = subst Becomes (some_same e) refl
identified (suc zero) b e = subst Becomes (some_same e) refl
identified (suc (suc k)) b e = absurd cc

zero_is_one : {m : ℕ} → zero ≡ suc m → ⊥
zero_is_one e = cc

pub blocks_are_identified : BlocksAreIdentified
blocks_are_identified = (
  record { is_instance = record { blocks = identified; values = refl }; family = refl; given = refl; local = refl; arguments = refl },
  λ h. zero_is_one (h 0 1 (omega arith) (omega arith) refl),
)

pub copies_are_numbered : CopiesAreNumbered
copies_are_numbered = refl
