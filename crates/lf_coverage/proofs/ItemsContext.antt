-- The context of typed items is one.
use Rattle.std.proofs.Common.{ℕ, List, [], ◌∷◌, refl}
use Rattle.lf.specs.Syntax.{LfType}
use Rattle.lf.specs.Substitution.{Image}
use Rattle.lf.specs.Typing.{Signature, IsContext, IsSignature}
use Rattle.lf.specs.Variables.{onto}
use Rattle.lf.specs.Subordination.{Block, AreTypedBlocks}
use Rattle.lf.specs.Worlds.{lift_over, instance}
use Rattle.lf.proofs.Substitution.{TypedSubstitution, skeleton_context_of, lifted_substitution_typed, substitution_keeps_types}
use Rattle.lf.proofs.ToSkeletons.{type_by_skeletons}
use Rattle.lf_cases.specs.Case.{Item, free_variable, block_variable, items_context}
use Rattle.lf_cases.specs.Missing.{AreTypedItems}

pub outer_context : (Σ : Signature) (es O : List LfType) → IsContext Σ (onto es O) → IsContext Σ O
outer_context Σ [] O c = c
outer_context Σ (E ∷ es) O c = outer_context Σ es O c.0

module _ (Σ : Signature) (ok : IsSignature Σ) where
  pub instance_context : (es O C : List LfType) (υ : ℕ → Image) → IsContext Σ C → TypedSubstitution Σ ok O C υ → IsContext Σ (onto es O) → IsContext Σ (onto (instance es υ) C) × TypedSubstitution Σ ok (onto es O) (onto (instance es υ) C) (lift_over es υ)
  instance_context [] O C υ c t o = (c, t)
  instance_context (E ∷ es) O C υ c t (o, e) =
      let (d, s) = instance_context es O C υ c t o in
      ((d, substitution_keeps_types Σ ok (onto es O) (onto (instance es υ) C) (lift_over es υ) E s e), lifted_substitution_typed Σ ok (onto es O) (onto (instance es υ) C) (lift_over es υ) E s (type_by_skeletons Σ (onto es O) E e))

  pub items_are_context : (W : List Block) → AreTypedBlocks Σ W → (I : List Item) → AreTypedItems Σ W I → IsContext Σ (items_context I)
  items_are_context W b [] a = tt
  items_are_context W b (free_variable A ∷ I) (a, t) = (items_are_context W b I a, t)
  items_are_context W b (block_variable B υ ∷ I) (a, m, v) =
      let c : IsContext Σ (items_context I) = items_are_context W b I a in
      (instance_context B.entries B.some (items_context I) υ c (record { typed = λ i A g. v.typed i A g refl; source_skeletons = skeleton_context_of Σ ok B.some (outer_context Σ B.entries B.some (b B m)); target_skeletons = skeleton_context_of Σ ok (items_context I) c }) (b B m)).0
