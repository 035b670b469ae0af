-- The run of copying: its cases are instances of clauses, the strategy reaches them, and so the goal is covered.
use Rattle.std.proofs.Common.{◌≡◌, ℕ, [], ◌∷◌, refl, sym, subst, arith, inl, inr}
use Rattle.std.specs.Prelude.{Bool, true, false}
use Rattle.lf.specs.Syntax.{pi, base}
use Rattle.lf.specs.Subordination.{Member, SelfContained}
use Rattle.lf.proofs.ToSkeletons.{typed_has_skeleton}
use Rattle.lf_checks.specs.Clause.{from_constant, from_entry}
use Rattle.lf_cases.specs.Case.{Case}
use Rattle.lf_cases.specs.Reached.{FirstCandidate, IsSplitCase, constant_head, goal_is_reached, new_entry_head, of_first, split_by, split_is_reached}
use Rattle.lf_cases.specs.Split.{Ends, IsInstanceCase, at_leaf, by_split, next_case, no_case}
use Rattle.lf_totality.specs.Examples.{Copying, applied_to, application, block_case, copy_block, copy_entry, copy_heads, cp, cp_app, cp_lam, exp, first_below_second, function, lam, var}
use Rattle.lf_totality.specs.ExamplesReached.{cp_lam_case}
use Rattle.lf_totality.proofs.Copying.{copying_ok}
use Rattle.lf_totality.proofs.ExamplesSplits.{entry_instance as entry_stands}
use Rattle.lf_coverage.specs.Calls.{IsBeside, PlacesIn}
use Rattle.lf_coverage.specs.ExamplesCopying.{copy_worlds, copy_goal, copy_app_case, copy_cases, copy_lam_head, copy_app_head, copy_entry_head, CopyCasesAreReached, CopyRunCovers}
use Rattle.lf_coverage.specs.Heads.{SplitsByHeads}
use Rattle.lf_coverage.specs.Leaf.{IsInstanceLeaf}
use Rattle.lf_coverage.specs.MeetStore.{IsOpen}
use Rattle.lf_coverage.proofs.ExamplesCopying.{lam_typed, app_typed, lam_items_typed, app_items_typed, block_items_typed, copy_split}
use Rattle.lf_coverage.proofs.ExamplesCopyingSplit.{copy_typed, copy_subordination, goal_typed, lam_split, app_split, entry_split}
use Rattle.lf_coverage.proofs.Leaves.{head_is_typed, leaf_is_instance}
use Rattle.lf_coverage.proofs.Runs.{head_splits_cover}
use Rattle.lf_coverage.proofs.Parts.{some_same}
use Rattle.lf_coverage.proofs.ExamplesCopyingInstances.{goal_shares, lam_is_instance, app_is_instance, goal_none}

-- the splits
by_lam : IsSplitCase Copying copy_worlds first_below_second copy_goal 0 cp_lam_case
by_lam = split_by exp refl (constant_head 0 (pi function exp) refl refl) lam_split

by_app : IsSplitCase Copying copy_worlds first_below_second copy_goal 0 copy_app_case
by_app = split_by exp refl (constant_head 2 (pi exp (pi exp exp)) refl refl) app_split

pub by_entry : IsSplitCase Copying copy_worlds first_below_second copy_goal 0 block_case
by_entry = split_by exp refl (new_entry_head copy_block 1 exp (inl refl) (omega arith) (exp, refl, refl) refl) entry_split

first_is : FirstCandidate Copying copy_worlds (IsOpen Copying) copy_goal 0 copy_heads
first_is = of_first [] (inl goal_shares) refl

pub copy_reached : CopyCasesAreReached
copy_reached C m = split_is_reached 0 goal_is_reached goal_none first_is (given m)
  where
    given : Member C copy_cases → IsSplitCase Copying copy_worlds first_below_second copy_goal 0 C
    given (inl e) = subst (IsSplitCase Copying copy_worlds first_below_second copy_goal 0) (sym e) by_lam
    given (inr (inl e)) = subst (IsSplitCase Copying copy_worlds first_below_second copy_goal 0) (sym e) by_app
    given (inr (inr (inl e))) = subst (IsSplitCase Copying copy_worlds first_below_second copy_goal 0) (sym e) by_entry
    given (inr (inr (inr e))) = absurd e

-- the leaves
pub lam_leaf : IsInstanceLeaf Copying copy_worlds copy_heads cp_lam_case
lam_leaf = record {
  typed = record { items = lam_items_typed; given = tt; arguments = ((base 0, typed_has_skeleton Copying (function ∷ []) (lam (applied_to 1 0)) exp lam_typed), tt) };
  pattern = copy_lam_head;
  listed = inl refl;
  pattern_typed = head_is_typed Copying copying_ok copy_worlds copy_typed cp_lam (from_constant 1 cp_lam.type refl);
  same_length = refl;
  given_own = λ i e. absurd cc;
  is_instance = lam_is_instance;
}

pub app_leaf : IsInstanceLeaf Copying copy_worlds copy_heads copy_app_case
app_leaf = record {
  typed = record { items = app_items_typed; given = tt; arguments = ((base 0, typed_has_skeleton Copying (exp ∷ exp ∷ []) (application (var 1) (var 0)) exp app_typed), tt) };
  pattern = copy_app_head;
  listed = inr (inl refl);
  pattern_typed = head_is_typed Copying copying_ok copy_worlds copy_typed cp_app (from_constant 3 cp_app.type refl);
  same_length = refl;
  given_own = λ i e. absurd cc;
  is_instance = app_is_instance;
}

pub entry_leaf : IsInstanceLeaf Copying copy_worlds copy_heads block_case
entry_leaf = record {
  typed = record { items = block_items_typed; given = tt; arguments = ((base 0, (base 0, refl, refl)), tt) };
  pattern = copy_entry_head;
  listed = inr (inr (inl refl));
  pattern_typed = head_is_typed Copying copying_ok copy_worlds copy_typed copy_entry (from_entry copy_block [] (cp (var 0) (var 0)) (exp ∷ []) (inl refl) refl);
  same_length = refl;
  given_own = λ i e. absurd cc;
  is_instance = entry_stands (inl refl);
}

-- all of them of heads
pub leaves_are_of_heads : (lam_leaf.pattern.at_first ≡ false) × (app_leaf.pattern.at_first ≡ false) × (entry_leaf.pattern.at_first ≡ false)
unfolding lam_leaf app_leaf entry_leaf
leaves_are_of_heads = (refl, refl, refl)

-- the run, and what it covers
module _ (S : ℕ → Bool) (sc : SelfContained Copying copy_worlds S) (z : S 0 ≡ true) where
  run : Ends (IsInstanceLeaf Copying copy_worlds copy_heads) (SplitsByHeads Copying copy_worlds S first_below_second) copy_goal
  run = by_split copy_cases (0, copy_split S z) (next_case (at_leaf lam_leaf) (next_case (at_leaf app_leaf) (next_case (at_leaf entry_leaf) no_case)))

  leaf : (C : Case) → IsInstanceLeaf Copying copy_worlds copy_heads C → IsInstanceCase Copying copy_worlds S copy_heads C
  leaf C l = leaf_is_instance Copying copying_ok copy_worlds copy_typed S copy_heads C l

  covers : Ends (IsInstanceCase Copying copy_worlds S copy_heads) (SplitsByHeads Copying copy_worlds S first_below_second) copy_goal
  covers = by_split copy_cases (0, copy_split S z) (next_case (at_leaf (leaf cp_lam_case lam_leaf)) (next_case (at_leaf (leaf copy_app_case app_leaf)) (next_case (at_leaf (leaf block_case entry_leaf)) no_case)))

-- the first place is one for exp
holds_exp : (S : ℕ → Bool) → IsBeside Copying copy_worlds S copy_goal → S 0 ≡ true
holds_exp S b = (subst (PlacesIn S (true ∷ false ∷ [])) (sym (some_same b.of_family)) b.places).0

pub copy_covers : CopyRunCovers
copy_covers = (run, λ S b. head_splits_cover Copying copying_ok copy_worlds copy_typed first_below_second copy_subordination S b.self_contained copy_heads copy_goal tt goal_typed (covers S b.self_contained (holds_exp S b)))
