-- What matching finds in a case by number stands on own terms.
use Rattle.std.proofs.Common.{◌≡◌, ℕ, zero, suc, ◌+◌, List, [], ◌∷◌, length, refl, sym, ap, ◌∙◌, subst, arith}
use Rattle.std.specs.Prelude.{Bool, true, Option, Some, None}
use Rattle.lf.specs.Syntax.{Term, Spine, LfType, pi, atom}
use Rattle.lf.specs.Substitution.{Image, lift, substitute_type, reduce}
use Rattle.lf.specs.Entries.{quantifiers}
use Rattle.lf.specs.Variables.{under, hide, nothing}
use Rattle.lf_cases.specs.Pattern.{Pattern, given_at}
use Rattle.lf_coverage.specs.OrElse.{or_else}
use Rattle.lf_coverage.specs.Matching.{found_goal}
use Rattle.lf_coverage.specs.TermMatching.{bound}
use Rattle.lf_numbered.specs.EntryPatternsMatching.{placed_type, found_placed}
use Rattle.lf_numbered.specs.NumberedCase.{NumberedCase}
use Rattle.lf_numbered.specs.OwnTerms.{weaken_own, OnOwnTerms, AllOnOwnTerms}
use Rattle.lf_numbered.specs.TypedNumbered.{own_over}
use Rattle.lf_numbered.proofs.EntryPatternsFound.{bound_under, deep_own, found_at_own}
use Rattle.lf_numbered.proofs.EntryPatternsMoved.{own_given}

own_over_deep : (D : List LfType) (o : ℕ → Option Spine) → own_over D o ≡ deep_own (length D) o
own_over_deep [] o = refl
own_over_deep (A ∷ D) o = ap {B = ℕ → Option Spine} (λ (u : ℕ → Option Spine) (c : ℕ). weaken_own (u c)) (own_over_deep D o)

pub quantifiers_put : (σ : ℕ → Image) (A : LfType) → quantifiers (substitute_type reduce σ A) ≡ quantifiers A
quantifiers_put σ (pi A B) = ap suc (quantifiers_put (lift σ) B)
quantifiers_put σ (atom a S) = refl

found_goal_own : (o : ℕ → Option Spine) (B F : ℕ → Bool) (n x : ℕ) (A : LfType) (Ms : List (Option Term)) (N : Term) → ((i : ℕ) → B i ≡ true → bound n i ≡ true) → found_goal B F n x A Ms ≡ Some N → AllOnOwnTerms (deep_own (n + quantifiers A) o) Ms → OnOwnTerms o N
found_goal_own o B F n x (pi A C) Ms N h e s = found_goal_own o (under B) (hide F) (suc n) (suc x) C Ms N (bound_under o B n h) e (subst (λ k. AllOnOwnTerms (deep_own k o) Ms) (next n (quantifiers C)) s)
  where
    next : (n k : ℕ) → n + suc k ≡ suc n + k
    next n k = omega arith
found_goal_own o B F n x (atom a S) Ms N h e s = found_at_own o B F n x S Ms N h e (subst (λ k. AllOnOwnTerms (deep_own k o) Ms) (none n) s)
  where
    none : (n : ℕ) → n + 0 ≡ n
    none n = omega arith

pub found_placed_own : (o : ℕ → Option Spine) (C : NumberedCase) (p : Pattern) (φ : ℕ → Image) (i : ℕ) (N : Term) → length C.local ≡ quantifiers p.type → AllOnOwnTerms o C.given → AllOnOwnTerms (own_over C.local o) C.arguments → found_placed C p φ i ≡ Some N → OnOwnTerms o N
found_placed_own o C p φ i N l g a e = by (given_at C.given i) refl
  where
    by : (m : Option Term) → given_at C.given i ≡ m → OnOwnTerms o N
    by (Some M) r = own_given o C.given i N g (r ∙ sym (ap (λ x. or_else x (found_goal nothing nothing zero i (placed_type p φ) C.arguments)) r) ∙ e)
    by None r = found_goal_own o nothing nothing zero i (placed_type p φ) C.arguments N (λ j b. absurd cc) (sym (ap (λ x. or_else x (found_goal nothing nothing zero i (placed_type p φ) C.arguments)) r) ∙ e) (subst (λ k. AllOnOwnTerms (deep_own k o) C.arguments) (l ∙ sym (quantifiers_put _ p.type) ∙ none (quantifiers (placed_type p φ))) (subst (λ u. AllOnOwnTerms u C.arguments) (own_over_deep C.local o) a))
      where
        none : (k : ℕ) → k ≡ 0 + k
        none k = omega arith
