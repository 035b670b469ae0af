-- An equation that is left over in a split is one at which the split stops.
use Rattle.std.proofs.Common.{List, [], ◌∷◌, ℕ, inl, inr, refl, sym, subst}
use Rattle.std.specs.Prelude.{Option}
use Rattle.lf.specs.Subordination.{Member}
use Rattle.lf.specs.Syntax.{LfType}
use Rattle.lf_unification.specs.Solving.{AllLeftOver, LeftOver}
use Rattle.lf_unification.specs.Unifiers.{Equation, Store}
use Rattle.lf_coverage.specs.Laws.{LeftIsOutside}
use Rattle.lf_coverage.specs.SplitStore.{split_store}

left_at : (given : ℕ → Option LfType) (s : Store) (es : List Equation) → AllLeftOver given s es → (e : Equation) → Member e es → LeftOver given s e
left_at given s [] a e m = absurd m
left_at given s (f ∷ es) (x, a) e (inl q) = subst (LeftOver given s) (sym q) x
left_at given s (f ∷ es) (x, a) e (inr m) = left_at given s es a e m

pub left_is_outside : LeftIsOutside
left_is_outside Σ W below C x X at J n h A sh nj K k after l e m =
    let o : LeftOver (split_store below x X J n h A K).metavariables after e = left_at (split_store below x X J n h A K).metavariables after after.equations l.all_left_over e m in (
      o.shown,
      o.outside,
      record {
        type = X;
        at = at;
        offer = record { items = J; moved = n; head = h; type = A };
        is_head = sh;
        no_block = nj;
        kind = K;
        of_family = k;
        after = after;
        left = l;
        equation = e;
        listed = m;
        left_over = o;
        is_shown = refl;
      },
    )
