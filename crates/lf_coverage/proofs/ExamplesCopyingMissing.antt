-- Without the clause of the entry the case of a block variable is missing.
use Rattle.std.proofs.Common.{◌≡◌, ℕ, suc, List, [], ◌∷◌, length, refl, sym, ap, ◌∙◌, subst, inl, inr}
use Rattle.lf.specs.Syntax.{Term, Spine, nil, app, base}
use Rattle.lf.specs.AtOnce.{in_front, shift_by}
use Rattle.lf.specs.Substitution.{Image, keep, put, rename_image, apply_image, substitute, reduce}
use Rattle.lf.specs.Subordination.{Member}
use Rattle.lf.specs.Worlds.{lift_over}
use Rattle.lf_checks.specs.Marks.{SamePlaces}
use Rattle.lf_cases.specs.Case.{Item, free_variable, block_variable, covered_places, HasArguments}
use Rattle.lf_cases.specs.Missing.{BlockAmong, CommonInstance, IsTypedInstance}
use Rattle.lf_cases.specs.Pattern.{Pattern}
use Rattle.lf_cases.specs.Reached.{IsInstanceOf, goal_is_reached, of_first, split_is_reached}
use Rattle.lf_totality.specs.Examples.{Copying, block_case, copy_block, exp, var}
use Rattle.lf_coverage.specs.ExamplesCopying.{copy_worlds, copy_goal, copy_lam_head, copy_app_head, CopyEntryIsMissing}
use Rattle.lf_coverage.proofs.ExamplesCopying.{block_items_typed}
use Rattle.lf_coverage.proofs.ExamplesCopyingInstances.{goal_shares, goal_none}
use Rattle.lf_coverage.proofs.ExamplesCopyingRun.{by_entry}

-- without the entry's clause
entry_is_variable : (J : List Item) (θ : ℕ → Image) → BlockAmong J copy_block θ → (j : ℕ) × (θ 1 ≡ keep j)
entry_is_variable [] θ b = absurd b
entry_is_variable (free_variable A ∷ J) θ (τ, b, e) = let (j, q) = entry_is_variable J τ b in (suc j, ap (λ f. f 1) e ∙ ap (rename_image suc) q)
entry_is_variable (block_variable C υ ∷ J) θ (inl (c, e)) = (1, ap (λ f. f 1) e ∙ ap (λ D. lift_over D.entries υ 1) c)
entry_is_variable (block_variable C υ ∷ J) θ (inr (τ, b, e)) = let (j, q) = entry_is_variable J τ b in (shift_by (length C.entries) j, ap (λ f. f 1) e ∙ ap (rename_image (shift_by (length C.entries))) q)

entry_stays : (J : List Item) (σ : ℕ → Image) → IsTypedInstance Copying J block_case.items σ → (j : ℕ) × (substitute reduce σ (var 1) ≡ var j)
entry_stays J σ (θ, τ, g, b, o, e) = let (j, q) = entry_is_variable J θ b in (j, ap (λ y. apply_image reduce y nil) (ap (λ f. f 1) e ∙ q))

not_entry : (T N : Spine) (σ : ℕ → Image) (j : ℕ) (M : Term) → (var j ≡ M → ⊥) → substitute reduce σ (var 1) ≡ var j → HasArguments σ block_case.arguments T → SamePlaces (covered_places block_case.arguments) T (app M N) → ⊥
not_entry nil N σ j M differ k a b = a
not_entry (app P T) N σ j M differ k (e, a) (f, b) = differ (sym (e ∙ k) ∙ f)

abbrev two_heads : List Pattern
two_heads = copy_lam_head ∷ copy_app_head ∷ []

two_none : (p : Pattern) → Member p two_heads → IsInstanceOf Copying copy_worlds copy_goal p → ⊥
two_none p (inl e) h = goal_none p (inl e) h
two_none p (inr (inl e)) h = goal_none p (inr (inl e)) h
two_none p (inr (inr e)) h = absurd e

shares_none : (p : Pattern) → Member p two_heads → CommonInstance Copying copy_worlds block_case p → ⊥
shares_none p (inl e) h = no (subst (CommonInstance Copying copy_worlds block_case) e h)
  where
    no : CommonInstance Copying copy_worlds block_case copy_lam_head → ⊥
    no s = let (j, k) = entry_stays s.items s.case_values s.is_instance in not_entry s.tuple _ s.case_values j _ (λ q. absurd cc) k s.of_case s.of_clause
shares_none p (inr (inl e)) h = no (subst (CommonInstance Copying copy_worlds block_case) e h)
  where
    no : CommonInstance Copying copy_worlds block_case copy_app_head → ⊥
    no s = let (j, k) = entry_stays s.items s.case_values s.is_instance in not_entry s.tuple _ s.case_values j _ (λ q. absurd cc) k s.of_case s.of_clause
shares_none p (inr (inr e)) h = absurd e

pub copy_missing : CopyEntryIsMissing
copy_missing = (
  split_is_reached 0 goal_is_reached two_none (of_first [] (inl goal_shares) refl) by_entry,
  record {
    of_goal = record {
      typed_items = block_items_typed;
      values = in_front (put (base 0) (var 1)) keep;
      is_instance = (var 1, keep, tt, (exp, (exp, refl, refl), refl), refl);
      same_family = refl;
      same_given = refl;
      same_local = refl;
      same_arguments = refl;
    };
    shares_nothing = shares_none;
  },
)
