-- Worked cases with block variables by number that are instances of entries.
use Rattle.std.proofs.Common.{◌≡◌, ℕ, [], ◌∷◌, inl, inr, refl, sym, ◌∙◌}
use Rattle.lf.specs.Syntax.{constant, root, nil, app, base}
use Rattle.lf.specs.Substitution.{Image, keep, put}
use Rattle.lf.specs.AtOnce.{in_front}
use Rattle.lf.specs.Typing.{IsTypedSubstitution}
use Rattle.lf_totality.specs.Examples.{Copying, copy_block, copy_heads, exp, var}
use Rattle.lf_totality.specs.ExamplesGroups.{on_one}
use Rattle.lf_coverage.specs.ExamplesCopying.{copy_entry_head, copy_worlds}
use Rattle.lf_coverage.specs.Leaf.{IsTypedPattern}
use Rattle.lf_numbered.specs.EntryConstants.{with_entries}
use Rattle.lf_numbered.specs.EntryPatterns.{IsInstanceOfPattern}
use Rattle.lf_numbered.specs.EntryPatternsExamples.{CopyIsInstance, LaterIsLeaf, Laters, later_worlds, asking_block, answering_block, answered_case}
use Rattle.lf_numbered.specs.EntryPatternsRuns.{IsNumberedLeaf}
use Rattle.lf_numbered.specs.ExamplesNumbered.{one_copy}
use Rattle.lf_numbered.specs.TypedNumbered.{IsTypedNumberedCase}
use Rattle.lf_numbered.proofs.EntryPatternsAsked.{asked_leaf}
use Rattle.lf_numbered.proofs.EntryPatternsOne.{one_instance, one_leaf}
use Rattle.lf_numbered.proofs.VariableTyped.{value_is_typed}

-- Copying
copy_instance : IsInstanceOfPattern Copying 4 one_copy copy_entry_head
copy_instance = one_instance Copying 4 copy_block.label 0 1 4 (app (var 0) (app (var 0) nil)) one_copy.arguments refl refl refl ((refl, tt), ((refl, tt), tt)) ((refl, tt), ((refl, tt), tt)) (refl, (refl, tt))

copy_leaf : IsNumberedLeaf Copying 4 copy_worlds copy_heads one_copy
copy_leaf = one_leaf Copying 4 copy_block.label 0 1 4 (app (var 0) (app (var 0) nil)) one_copy.arguments refl refl refl ((refl, tt), ((refl, tt), tt)) ((refl, tt), ((refl, tt), tt)) (refl, (refl, tt)) copy_worlds copy_heads (inl refl) (inr (inr (inl refl))) pattern_typed ((base 0, (base 0, refl, refl)), ((base 0, (base 0, refl, refl)), tt)) (((nil, refl), tt), (((nil, refl), tt), tt))
  where
    pattern_typed : IsTypedPattern Copying copy_entry_head
    pattern_typed = record { outer_typed = (tt, (_, refl, tt)); clause_typed = (tt, (_, refl, tt)); type_typed = (_, refl, ((exp, refl, refl), ((exp, refl, refl), tt))) }

apart_constants : root (constant 4) nil ≡ root (constant 6) nil → ⊥
apart_constants e = cc

pub copy_is_instance : CopyIsInstance
copy_is_instance = (copy_leaf, copy_instance, λ h. apart_constants (h.same.0 ∙ sym h.same.1.0))

-- The goal of outputs
abbrev on_five : ℕ → Image
on_five = in_front (put (base 0) (root (constant 5) nil)) keep

on_five_typed : IsTypedSubstitution (with_entries Laters 4 (asking_block ∷ answering_block ∷ [])) (exp ∷ []) [] on_five
on_five_typed = value_is_typed (with_entries Laters 4 (asking_block ∷ answering_block ∷ [])) exp [] on_five (refl, (exp, refl, refl))

pub later_is_leaf : LaterIsLeaf
later_is_leaf = (refl, asked_leaf answered_case.blocks [] (root (constant 6) nil) (root (constant 5) nil) refl (exp, refl, refl) (on_one 1 (root (constant 5) nil), refl, refl) ((nil, refl), tt) ((nil, refl), tt) typed)
  where
    typed : IsTypedNumberedCase Laters 4 later_worlds answered_case
    typed = record {
      variables = record { variables = tt; on_own_terms = λ i A g. absurd g; blocks = (inl refl, (on_five, on_five_typed, refl), (((nil, refl), tt), tt), (inr (inl refl), (keep, (λ i A g. absurd g), refl), tt, tt)) };
      local = tt;
      local_on_own = tt;
      given = tt;
      given_on_own = tt;
      arguments = ((base 1, (base 1, refl, refl)), tt);
      arguments_on_own = (((nil, refl), tt), tt);
    }
