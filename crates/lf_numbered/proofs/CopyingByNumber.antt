-- Copying by number: from 4 on the numbers are free, and cp b.x c.x and the heads of copying are typed.
use Rattle.std.proofs.Common.{[], ◌∷◌, inl, refl}
use Rattle.lf.specs.Syntax.{base, nil}
use Rattle.lf.specs.Substitution.{keep}
use Rattle.lf_checks.specs.Clause.{from_constant, from_entry}
use Rattle.lf_totality.specs.Examples.{Copying, copy_block, copy_entry, cp, cp_app, exp, var}
use Rattle.lf_totality.proofs.Copying.{copying_ok}
use Rattle.lf_coverage.specs.ExamplesCopying.{copy_app_head, copy_entry_head, copy_worlds}
use Rattle.lf_coverage.specs.Leaf.{IsTypedPattern}
use Rattle.lf_coverage.proofs.ExamplesCopyingSplit.{copy_typed}
use Rattle.lf_coverage.proofs.Leaves.{head_is_typed}
use Rattle.lf_numbered.specs.EntryConstants.{IsFreeFrom}
use Rattle.lf_numbered.specs.ExamplesNumbered.{two_copies}
use Rattle.lf_numbered.specs.TypedNumbered.{IsTypedNumberedCase}
use Rattle.lf_numbered.proofs.FreeFrom.{free_from}

pub copying_free : IsFreeFrom Copying 4
copying_free = free_from Copying 4 (λ c. refl) (λ a. refl)

-- cp b.x c.x
pub two_copies_typed : IsTypedNumberedCase Copying 4 copy_worlds two_copies
two_copies_typed = record {
  variables = record { variables = tt; on_own_terms = λ i A g. absurd g; blocks = (inl refl, (keep, (λ i A g. absurd g), refl), tt, (inl refl, (keep, (λ i A g. absurd g), refl), tt, tt)) };
  local = tt;
  local_on_own = tt;
  given = tt;
  given_on_own = tt;
  arguments = ((base 0, (base 0, refl, refl)), ((base 0, (base 0, refl, refl)), tt));
  arguments_on_own = (((nil, refl), tt), (((nil, refl), tt), tt));
}

-- the head of an entry, and of cp-app
pub entry_head_typed : IsTypedPattern Copying copy_entry_head
entry_head_typed = head_is_typed Copying copying_ok copy_worlds copy_typed copy_entry (from_entry copy_block [] (cp (var 0) (var 0)) (exp ∷ []) (inl refl) refl)

pub app_head_typed : IsTypedPattern Copying copy_app_head
app_head_typed = head_is_typed Copying copying_ok copy_worlds copy_typed cp_app (from_constant 3 cp_app.type refl)
