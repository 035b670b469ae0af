-- An instance of a pattern by number shares one with it.
use Rattle.std.proofs.Common.{◌≡◌, ℕ, zero, suc, ◌+◌, List, [], ◌∷◌, length, refl, sym, ap, ◌∙◌, subst, arith}
use Rattle.std.specs.Prelude.{Option, Some, None}
use Rattle.lf.specs.Substitution.{Image, substitute_spine, reduce}
use Rattle.lf.specs.Typing.{Signature, IsSignature}
use Rattle.lf.specs.Subordination.{Block, AreTypedBlocks}
use Rattle.lf.specs.Worlds.{lift_over, instance}
use Rattle.lf_cases.specs.Missing.{blocks_with, put_in}
use Rattle.lf_cases.specs.Pattern.{Pattern}
use Rattle.lf_coverage.proofs.Parts.{some_same}
use Rattle.lf_numbered.specs.EntryConstants.{EntryConstant, entry_constant, with_entries, IsFreeFrom}
use Rattle.lf_numbered.specs.EntryPatterns.{IsInstanceOfPattern}
use Rattle.lf_numbered.specs.NumberedCallsLaws.{InstanceShares, InstanceIsNotApart, MissingIsNoInstance}
use Rattle.lf_numbered.specs.NumberedCallsMeeting.{SharesInstance}
use Rattle.lf_numbered.specs.NumberedCase.{NumberedCase, AreTypedBlockVariables}
use Rattle.lf_numbered.specs.NumberedInstance.{AreTypedValues, IsNumberedInstanceOf, block_at, moved_constant, moved_entry, first_constant, move_all, move_spine, move_types}
use Rattle.lf_numbered.specs.OwnTerms.{BlockVariable, blocks_of, own_terms}
use Rattle.lf_numbered.specs.TypedNumbered.{IsTypedNumberedCase}
use Rattle.lf_numbered.proofs.MoreWorlds.{more_worlds, with_more}
use Rattle.lf_numbered.proofs.NumberedCallsCopying.{instance_has_pattern}
use Rattle.lf_numbered.proofs.NumberedCallsOwn.{Fits, Leaves, own_values, terms_stay, local_stays, some_stay, unmoved_all, unmoved_spine, unmoved_types}
use Rattle.lf_numbered.proofs.OwnStoresEntry.{ok₁}
use Rattle.lf_numbered.proofs.WritingChoice.{from_is}
use mathlib.Core.Path.{fun_ext}

-- Where each block variable stays, so does each constant.
constant_stays : (first : ℕ) (bs : List BlockVariable) (c : ℕ) → moved_constant first (blocks_of bs) (blocks_of bs) (λ k. k) c ≡ c
constant_stays first bs c = by (entry_constant zero first (blocks_of bs) c) refl
  where
    none : (j : ℕ) → zero + j ≡ j
    none j = omega arith

    by : (e : Option EntryConstant) → entry_constant zero first (blocks_of bs) c ≡ e → moved_entry first (blocks_of bs) (λ k. k) c e ≡ c
    by None q = refl
    by (Some e) q =
        let (j, b, at, number, block, from, place, later, entries, rest) = from_is zero first bs c e q in
        ap (λ k. first_constant first (blocks_of bs) k + length e.before) (number ∙ none j) ∙ ap (λ n. n + length e.before) (sym from) ∙ sym place

pub constants_stay : (first : ℕ) (bs : List BlockVariable) → moved_constant first (blocks_of bs) (blocks_of bs) (λ k. k) ≡ (λ c. c)
constants_stay first bs = fun_ext (constant_stays first bs)

module _ (Σ : Signature) (ok : IsSignature Σ) (W : List Block) (typed : AreTypedBlocks Σ W) (first : ℕ) (free : IsFreeFrom Σ first) (C : NumberedCase) (tc : IsTypedNumberedCase Σ first W C) where
  abbrev Σ₁ : Signature
  Σ₁ = with_entries Σ first (blocks_of C.blocks)

  abbrev γ : ℕ → ℕ
  γ = moved_constant first (blocks_of C.blocks) (blocks_of C.blocks) (λ k. k)

  known : IsSignature Σ₁
  known = ok₁ Σ ok W typed first free C tc.variables

  module _ (σ : ℕ → Image) (v : AreTypedValues Σ₁ C.variables (own_terms first C.blocks) (λ c. c) C.variables σ) (f : Fits Σ₁ C.variables σ) (l : Leaves C.variables σ) where
    block_stays : (bs : List BlockVariable) → AreTypedBlockVariables Σ₁ W C.variables (own_terms first C.blocks) bs → (k : ℕ) (b : BlockVariable) → block_at bs k ≡ Some b → substitute_spine reduce σ (move_spine γ b.terms) ≡ b.terms
    block_stays [] t k b e = absurd cc
    block_stays (d ∷ bs) (m, (υ, u, z), w, t) zero b e = subst (λ (c : BlockVariable). substitute_spine reduce σ (move_spine γ c.terms) ≡ c.terms) (some_same e) (ap (λ g. substitute_spine reduce σ (move_spine g d.terms)) (constants_stay first C.blocks) ∙ ap (substitute_spine reduce σ) (unmoved_spine d.terms ∙ z) ∙ some_stay Σ₁ known C.variables tc.variables.variables (own_terms first C.blocks) σ f l d.block.some υ u ∙ sym z)
    block_stays (d ∷ bs) (m, s, w, t) (suc k) b e = block_stays bs t k b e

    local_same : C.local ≡ instance (move_types γ C.local) σ
    local_same = sym (ap (λ g. instance (move_types g C.local) σ) (constants_stay first C.blocks) ∙ ap (λ D. instance D σ) (unmoved_types C.local) ∙ local_stays Σ₁ known C.variables tc.variables.variables (own_terms first C.blocks) σ f l C.local tc.local)

    itself : IsNumberedInstanceOf Σ first C C (λ k. k) σ
    itself = record {
      is_instance = record {
        blocks = λ k b e. e ∙ ap (λ U. Some (record { block = b.block; terms = U })) (sym (block_stays C.blocks tc.variables.blocks k b e));
        values = subst (λ g. AreTypedValues Σ₁ C.variables (own_terms first C.blocks) g C.variables σ) (sym (constants_stay first C.blocks)) v;
      };
      family = refl;
      given = sym (ap (λ g. put_in σ (move_all g C.given)) (constants_stay first C.blocks) ∙ ap (put_in σ) (unmoved_all C.given) ∙ terms_stay Σ₁ known C.variables tc.variables.variables (own_terms first C.blocks) σ f l [] C.given tc.given);
      local = local_same;
      arguments = sym (ap (λ g. put_in (lift_over C.local σ) (move_all g C.arguments)) (constants_stay first C.blocks) ∙ ap (put_in (lift_over C.local σ)) (unmoved_all C.arguments) ∙ terms_stay Σ₁ known C.variables tc.variables.variables (own_terms first C.blocks) σ f l C.local C.arguments tc.arguments);
    }

  pub shares : (p : Pattern) → IsInstanceOfPattern Σ first C p → SharesInstance Σ first W C p
  shares p i =
      let (σ, v, f, l) = own_values Σ₁ known C.variables tc.variables.variables (own_terms first C.blocks) in
      record {
        common = C;
        typed_variables = record { variables = tc.variables.variables; on_own_terms = tc.variables.on_own_terms; blocks = more_worlds Σ₁ W (blocks_with p.origin W) (with_more p.origin W) C.variables (own_terms first C.blocks) C.blocks tc.variables.blocks };
        numbers = λ k. k;
        zeroth = refl;
        values = σ;
        of_case = itself σ v f l;
        of_pattern = instance_has_pattern Σ first C p i;
      }

pub instance_shares : InstanceShares
instance_shares Σ ok W typed first free C tc p i = shares Σ ok W typed first free C tc p i

pub instance_is_not_apart : InstanceIsNotApart
instance_is_not_apart Σ ok W typed first free C tc p i a = a.no_instance (shares Σ ok W typed first free C tc p i)

pub missing_is_no_instance : MissingIsNoInstance
missing_is_no_instance Σ ok W typed first free below ps goal D (r, m) p k i = instance_is_not_apart Σ ok W typed first free D m.typed p i (m.apart p k)
