-- What a run of the strategy keeps: no block variables in the empty world, types, and missing cases.
use Rattle.std.proofs.Common.{ℕ, List, [], ◌∷◌, sym, subst}
use Rattle.lf.specs.Substitution.{Image}
use Rattle.lf.specs.SkeletonTyping.{SubstitutionBySkeletons}
use Rattle.lf.specs.Skeletons.{constant_skeletons, context_skeletons}
use Rattle.lf.specs.Syntax.{LfType}
use Rattle.lf.specs.Typing.{Signature, IsContext}
use Rattle.lf.specs.Variables.{onto}
use Rattle.lf.specs.Subordination.{AreTypedBlocks}
use Rattle.lf.specs.Worlds.{lift_over, instance}
use Rattle.lf.proofs.Substitution.{TypedSubstitution, skeleton_context_of}
use Rattle.lf_cases.specs.Case.{free_variable, block_variable, items_context}
use Rattle.lf_cases.specs.Reached.{goal_is_reached, split_is_reached, split_by}
use Rattle.lf_cases.specs.Split.{HasNoBlockVariable}
use Rattle.lf_cases.proofs.OutputItems.{lifted}
use Rattle.lf_coverage.specs.Heads.{HaveSkeletons}
use Rattle.lf_coverage.specs.RunLaws.{EmptyWorldHasNoBlock, ReachedHasNoBlock, InstanceIsTypedCase, NeverIsMissing}
use Rattle.lf_coverage.proofs.HeadSplit.{put_in_fits}
use Rattle.lf_coverage.proofs.InstancesCompose.{instance_is_typed, instance_by_skeletons, reached_is_instance}
use Rattle.lf_coverage.proofs.ItemsContext.{items_are_context, instance_context}
use Rattle.lf_coverage.proofs.TypedCases.{never_is_apart_beside, reached_stays_typed}

pub empty_world_has_no_block : EmptyWorldHasNoBlock
empty_world_has_no_block Σ [] a = tt
empty_world_has_no_block Σ (free_variable A ∷ I) (a, t) = empty_world_has_no_block Σ I a
empty_world_has_no_block Σ (block_variable B υ ∷ I) (a, m, v) = m

pub reached_has_no_block : ReachedHasNoBlock
reached_has_no_block Σ below ps goal a D goal_is_reached = empty_world_has_no_block Σ goal.items a
reached_has_no_block Σ below ps goal a D (split_is_reached x r none first (split_by X at sh s)) = empty_world_has_no_block Σ D.items s.unifier.typed_items

pub no_blocks : (Σ : Signature) → AreTypedBlocks Σ []
no_blocks Σ B m = absurd m

pub instance_is_typed_case : InstanceIsTypedCase
instance_is_typed_case Σ ok W typed C D tc tl n i =
    let O : List LfType = items_context C.items in
    let P : List LfType = items_context D.items in
    let σ : ℕ → Image = i.values in
    let co : IsContext Σ O = items_are_context Σ ok W typed C.items tc.items in
    let cp : IsContext Σ P = items_are_context Σ ok W typed D.items i.typed_items in
    let f : SubstitutionBySkeletons (constant_skeletons Σ) (context_skeletons O) (context_skeletons P) σ = instance_by_skeletons Σ ok W typed D.items C.items σ n i.is_instance in
    let ts : TypedSubstitution Σ ok O P σ = record { typed = instance_is_typed Σ ok W typed D.items C.items σ n i.is_instance; source_skeletons = skeleton_context_of Σ ok O co; target_skeletons = skeleton_context_of Σ ok P cp } in (
      record {
        items = i.typed_items;
        given = subst (HaveSkeletons (constant_skeletons Σ) (context_skeletons P)) (sym i.same_given) (put_in_fits (constant_skeletons Σ) (context_skeletons O) (context_skeletons P) σ C.given f tc.given);
        arguments = subst (λ M. HaveSkeletons (constant_skeletons Σ) (context_skeletons (onto M P)) D.arguments) (sym i.same_local) (subst (HaveSkeletons (constant_skeletons Σ) (context_skeletons (onto (instance C.local σ) P))) (sym i.same_arguments) (put_in_fits (constant_skeletons Σ) (context_skeletons (onto C.local O)) (context_skeletons (onto (instance C.local σ) P)) (lift_over C.local σ) C.arguments (lifted Σ C.local O P σ f) tc.arguments));
      },
      subst (λ M. IsContext Σ (onto M P)) (sym i.same_local) (instance_context Σ ok C.local O P σ cp ts tl).0,
    )

pub never_is_missing : NeverIsMissing
never_is_missing Σ ok below ps goal tg tl each D r K e never =
    let n : HasNoBlockVariable D.items = reached_has_no_block Σ below ps goal tg.items D r in (
      r,
      record {
        of_goal = reached_is_instance Σ ok [] (no_blocks Σ) below ps goal tg tl D r n;
        shares_nothing = λ p m. let (tp, ic, tb) = each p m in never_is_apart_beside Σ ok [] (no_blocks Σ) D n p tp ic (reached_stays_typed Σ ok [] (no_blocks Σ) below ps goal p tp tb D r n) K e (never p m);
      },
    )
