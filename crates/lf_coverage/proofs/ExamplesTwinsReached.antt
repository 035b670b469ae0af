-- The strategy reaches the cases of two block variables.
use Rattle.std.proofs.Common.{ℕ, [], ◌∷◌, refl, sym, subst, arith, inl, inr}
use Rattle.lf.specs.Syntax.{base}
use Rattle.lf.specs.AtOnce.{in_front}
use Rattle.lf.specs.Substitution.{Image, keep, put}
use Rattle.lf.specs.Subordination.{Member}
use Rattle.lf_cases.specs.Case.{free_variable, block_variable, Case, entries_in_front}
use Rattle.lf_cases.specs.Missing.{BlockAmong, CommonInstance}
use Rattle.lf_cases.specs.Pattern.{Pattern}
use Rattle.lf_cases.specs.Reached.{IsInstanceOf, Reached, constant_head, entry_head, goal_is_reached, new_entry_head, of_first, split_by, split_is_reached}
use Rattle.lf_totality.specs.Examples.{exp, var}
use Rattle.lf_coverage.specs.ExamplesTwins.{Twins, twin_block, twin_worlds, twin_head, twin_goal, one_entry, two_entries, same_entry, entry_alike, same, alike, up_to, TwinCasesAreReached}
use Rattle.lf_coverage.specs.MeetStore.{IsOpen}
use Rattle.lf_coverage.proofs.ExamplesTwins.{alike_type, whole}
use Rattle.lf_coverage.proofs.ExamplesTwinsCases.{alike_by, first_by, new_by, old_by}
use Rattle.lf_coverage.proofs.ExamplesTwinsRun.{open_none, shares_entry}

-- what the goal and the cases share with u: check b.x b.x (alike b.x)
goal_shares : CommonInstance Twins twin_worlds twin_goal twin_head
goal_shares = shares_entry twin_goal.items (var 2) (var 1) (var 0) (in_front (put (base 1) (alike (var 1))) (in_front (put (base 0) (var 1)) (in_front (put (base 0) (var 1)) keep))) (alike (var 1), in_front (put (base 0) (var 1)) (in_front (put (base 0) (var 1)) keep), (var 1, in_front (put (base 0) (var 1)) keep, (var 1, keep, tt, (exp, (exp, refl, refl), refl), refl), (exp, (exp, refl, refl), refl), refl), (alike_type, refl, ((exp, (exp, refl, refl), refl), refl)), refl) refl refl refl

one_shares : CommonInstance Twins twin_worlds one_entry twin_head
one_shares = shares_entry one_entry.items (var 3) (var 1) (var 0) (in_front (put (base 1) (alike (var 1))) (in_front (put (base 0) (var 1)) (entries_in_front twin_block.entries whole keep))) (alike (var 1), in_front (put (base 0) (var 1)) (entries_in_front twin_block.entries whole keep), (var 1, entries_in_front twin_block.entries whole keep, (whole, keep, tt, inl (refl, refl), (λ i A g. absurd g), refl), (exp, (exp, refl, refl), refl), refl), (alike_type, refl, ((exp, (exp, refl, refl), refl), refl)), refl) refl refl refl

same_shares : CommonInstance Twins twin_worlds same_entry twin_head
same_shares = shares_entry same_entry.items (var 2) (var 2) (var 0) (in_front (put (base 1) (alike (var 1))) (entries_in_front twin_block.entries whole keep)) (alike (var 1), entries_in_front twin_block.entries whole keep, (whole, keep, tt, inl (refl, refl), (λ i A g. absurd g), refl), (alike_type, refl, ((exp, (exp, refl, refl), refl), refl)), refl) refl refl refl

-- none of the three is an instance of u
goal_none : IsInstanceOf Twins twin_worlds twin_goal twin_head → ⊥
goal_none (s, i, v, st) = let (θ, b, a) = s.stands in no_block θ (subst (λ J. BlockAmong J twin_block θ) i b)
  where
    no_block : (θ : ℕ → Image) → BlockAmong twin_goal.items twin_block θ → ⊥
    no_block θ (τ, (τ', (τ'', b, e''), e'), e) = b

one_none : IsInstanceOf Twins twin_worlds one_entry twin_head → ⊥
one_none = open_none (free_variable exp ∷ block_variable twin_block keep ∷ []) (var 2) (var 0) (var 3) (var 1)

same_none : IsInstanceOf Twins twin_worlds same_entry twin_head → ⊥
same_none = open_none (block_variable twin_block keep ∷ []) (var 1) (var 1) (var 2) (var 2)

none_of : (C : Case) → (IsInstanceOf Twins twin_worlds C twin_head → ⊥) → (p : Pattern) → Member p (twin_head ∷ []) → IsInstanceOf Twins twin_worlds C p → ⊥
none_of C n p (inl e) h = n (subst (IsInstanceOf Twins twin_worlds C) e h)
none_of C n p (inr e) h = absurd e

abbrev IsReached : Case → Type 0
IsReached C = Reached Twins twin_worlds (IsOpen Twins) up_to (twin_head ∷ []) twin_goal C

one_reached : IsReached one_entry
one_reached = split_is_reached 2 goal_is_reached (none_of twin_goal goal_none) (of_first (1 ∷ 0 ∷ []) (inl goal_shares) refl) (split_by exp (exp, (exp, refl, refl), refl) (new_entry_head twin_block 1 exp (inl refl) (omega arith) (exp, refl, refl) refl) first_by)

two_reached : IsReached two_entries
two_reached = split_is_reached 1 one_reached (none_of one_entry one_none) (of_first (0 ∷ []) (inl one_shares) refl) (split_by exp (exp, refl, refl) (new_entry_head twin_block 1 exp (inl refl) (omega arith) (exp, refl, refl) refl) new_by)

same_reached : IsReached same_entry
same_reached = split_is_reached 1 one_reached (none_of one_entry one_none) (of_first (0 ∷ []) (inl one_shares) refl) (split_by exp (exp, refl, refl) (entry_head 3 exp (exp, (exp, (exp, refl, refl), refl), refl) refl refl) old_by)

alike_reached : IsReached entry_alike
alike_reached = split_is_reached 0 same_reached (none_of same_entry same_none) (of_first [] (inl same_shares) refl) (split_by (same (var 2) (var 2)) refl (constant_head 0 alike_type refl refl) alike_by)

pub twin_reached : TwinCasesAreReached
twin_reached C (inl e) = subst IsReached (sym e) one_reached
twin_reached C (inr (inl e)) = subst IsReached (sym e) two_reached
twin_reached C (inr (inr (inl e))) = subst IsReached (sym e) same_reached
twin_reached C (inr (inr (inr (inl e)))) = subst IsReached (sym e) alike_reached
twin_reached C (inr (inr (inr (inr e)))) = absurd e
