-- The goal of an entry's outputs, whose type mentions a `some` variable of the entry's block, is covered: by number it is an instance of the subgoal itself.
use Rattle.std.proofs.Common.{◌≡◌, ℕ, zero, suc, ◌≤◌, [], ◌∷◌, inl, inr, refl, sym, subst, arith}
use Rattle.std.specs.Prelude.{None, Some}
use Rattle.lf.specs.Syntax.{LfType, Kind, base, star, rename_type}
use Rattle.lf.specs.Substitution.{Image, keep, put, substitute_type, reduce}
use Rattle.lf.specs.AtOnce.{in_front}
use Rattle.lf.specs.Typing.{TypeAt, ImageHasType, IsKind, IsTypedSubstitution, IsSignature}
use Rattle.lf.specs.Subordination.{AreTypedBlocks, IsTypedBlock}
use Rattle.lf_totality.specs.Examples.{exp, var}
use Rattle.lf_totality.specs.ExamplesGroups.{on_one}
use Rattle.lf_coverage.proofs.Parts.{some_same}
use Rattle.lf_numbered.specs.EntryConstants.{with_entries, IsFreeFrom}
use Rattle.lf_numbered.specs.EntryPatternsExamples.{LaterIsCovered, Laters, later_kinds, later_worlds, asking_block, asked, asked_goal}
use Rattle.lf_numbered.specs.EntryPatternsRuns.{IsNumberedLeaf}
use Rattle.lf_numbered.specs.OwnTerms.{own_terms, TypeOnOwnTerms}
use Rattle.lf_numbered.specs.TypedNumbered.{IsTypedNumberedCase}
use Rattle.lf_numbered.proofs.EntryPatternsAsked.{asked_leaf}
use Rattle.lf_numbered.proofs.EntryPatternsLeaf.{numbered_leaf_is_covered}

pub ok : IsSignature Laters
ok = record { types_ok = λ c A e. absurd cc; kinds_ok = kinds }
  where
    kinds : (a : ℕ) (K : Kind) → later_kinds a ≡ Some K → IsKind Laters [] K
    kinds zero K e = subst (IsKind Laters []) (some_same e) tt
    kinds (suc zero) K e = subst (IsKind Laters []) (some_same e) ((star, refl, tt), tt)
    kinds (suc (suc zero)) K e = subst (IsKind Laters []) (some_same e) ((star, refl, tt), ((_, refl, ((exp, refl, refl), tt)), tt))
    kinds (suc (suc (suc zero))) K e = subst (IsKind Laters []) (some_same e) tt
    kinds (suc (suc (suc (suc a)))) K e = absurd cc

pub blocks : AreTypedBlocks Laters later_worlds
blocks B (inl e) = subst (IsTypedBlock Laters) (sym e) ((tt, (star, refl, tt)), ((_, refl, ((exp, refl, refl), tt)), ((_, refl, ((exp, (exp, refl, refl), refl), ((on_one 1 (var 1), refl, refl), tt))), (star, refl, tt))))
blocks B (inr (inl e)) = subst (IsTypedBlock Laters) (sym e) ((tt, (star, refl, tt)), (_, refl, ((exp, refl, refl), tt)))
blocks B (inr (inr m)) = absurd m

pub free : IsFreeFrom Laters 4
free = record { types_free = λ c l. refl; kinds_free = kinds }
  where
    kinds : (a : ℕ) → 4 ≤ a → later_kinds a ≡ None
    kinds zero l = absurd (omega (arith, l))
    kinds (suc zero) l = absurd (omega (arith, l))
    kinds (suc (suc zero)) l = absurd (omega (arith, l))
    kinds (suc (suc (suc zero))) l = absurd (omega (arith, l))
    kinds (suc (suc (suc (suc a)))) l = refl

abbrev on_some : ℕ → Image
on_some = in_front (put (base 0) (var 1)) keep

on_some_typed : IsTypedSubstitution (with_entries Laters 4 (asking_block ∷ [])) (exp ∷ []) asked_goal.variables on_some
on_some_typed zero A e = subst (λ B. ImageHasType (with_entries Laters 4 (asking_block ∷ [])) asked_goal.variables (put (base 0) (var 1)) (substitute_type reduce on_some B)) (sym e) (refl, (exp, (exp, refl, refl), refl))
on_some_typed (suc i) A (B, g, e) = absurd g

pub goal_leaf : IsNumberedLeaf Laters 4 later_worlds (asked ∷ []) asked_goal
goal_leaf = asked_leaf asked_goal.blocks asked_goal.variables (var 0) (var 1) refl (exp, (exp, refl, refl), refl) (on_one 1 (var 1), refl, refl) tt tt typed
  where
    typed : IsTypedNumberedCase Laters 4 later_worlds asked_goal
    typed = record {
      variables = record { variables = ((tt, (star, refl, tt)), (_, refl, ((exp, refl, refl), tt))); on_own_terms = own_types; blocks = (inl refl, (on_some, on_some_typed, refl), (tt, tt), tt) };
      local = ((tt, (star, refl, tt)), (_, refl, ((exp, refl, refl), tt)));
      local_on_own = tt;
      given = tt;
      given_on_own = tt;
      arguments = ((base 1, (base 1, refl, refl)), tt);
      arguments_on_own = (tt, tt);
    }
      where
        own_types : (i : ℕ) (A : LfType) → TypeAt asked_goal.variables i A → TypeOnOwnTerms (own_terms 4 asked_goal.blocks) A
        own_types zero A e = subst (TypeOnOwnTerms (own_terms 4 asked_goal.blocks)) (sym e) (tt, tt)
        own_types (suc zero) A (B, e, f) = subst (TypeOnOwnTerms (own_terms 4 asked_goal.blocks)) (sym f) (subst (λ D. TypeOnOwnTerms (own_terms 4 asked_goal.blocks) (rename_type suc D)) (sym e) tt)
        own_types (suc (suc i)) A (B, (D, g, e), f) = absurd g

pub later_is_covered : LaterIsCovered
later_is_covered S = numbered_leaf_is_covered Laters ok later_worlds blocks S 4 free (asked ∷ []) asked_goal goal_leaf
