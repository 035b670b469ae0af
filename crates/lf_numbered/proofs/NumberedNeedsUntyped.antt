-- Worked needs of the calls by number: an entry whose block isn't typed is refused.
use Rattle.std.proofs.Common.{[], ◌∷◌, inl, refl, sym, subst}
use Rattle.lf.specs.Syntax.{nil, app}
use Rattle.lf.specs.Typing.{IsType, SpineFitsKind}
use Rattle.lf_checks.specs.Clause.{from_entry}
use Rattle.lf_totality.specs.Examples.{Copying, copy_block, copy_entry, cp, exp, var}
use Rattle.lf_totality.specs.ExamplesGroups.{on_one}
use Rattle.lf_totality.proofs.Copying.{copying_ok}
use Rattle.lf_coverage.specs.ExamplesCopying.{copy_entry_head, copy_worlds}
use Rattle.lf_coverage.specs.Leaf.{IsTypedPattern}
use Rattle.lf_coverage.proofs.ExamplesCopyingSplit.{copy_typed}
use Rattle.lf_coverage.proofs.Leaves.{head_is_typed}
use Rattle.lf_coverage.proofs.Parts.{some_same}
use Rattle.lf_numbered.specs.NumberedNeedsExamples.{UntypedBlockIsRefused}

no_type : IsType Copying (cp (var 0) (var 0) ∷ exp ∷ []) (on_one 1 (var 1)) → ⊥
no_type (K, e, s) = (subst (SpineFitsKind Copying (cp (var 0) (var 0) ∷ exp ∷ []) (app (var 1) nil)) (sym (some_same e)) s).1

pub untyped_block_is_refused : UntypedBlockIsRefused
untyped_block_is_refused =
    let t : IsTypedPattern Copying copy_entry_head = head_is_typed Copying copying_ok copy_worlds copy_typed copy_entry (from_entry copy_block [] (cp (var 0) (var 0)) (exp ∷ []) (inl refl) refl) in
    (record { outer_typed = t.outer_typed; clause_typed = t.clause_typed; type_typed = t.type_typed }, λ first W C n. no_type n.pattern.typed_block.1)
