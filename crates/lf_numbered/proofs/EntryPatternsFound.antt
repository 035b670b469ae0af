-- What matching reads off terms on own terms stands on own terms.
use Rattle.std.proofs.Common.{◌≡◌, ℕ, zero, suc, ◌+◌, ◌<◌, List, [], ◌∷◌, length, refl, sym, ap, ◌∙◌, subst, arith}
use Rattle.std.specs.Prelude.{Bool, true, false, not, cond, Option, Some, None}
use Rattle.lf.specs.Syntax.{constant, variable, metavariable, Term, Spine, lambda, root, nil, app, rename, rename_spine}
use Rattle.lf.specs.Eta.{lambdas}
use Rattle.lf.specs.Variables.{under, hide, same_number}
use Rattle.lf.proofs.AtOnce.{rename_identity}
use Rattle.lf.proofs.Renaming.{renamings_compose_spine}
use Rattle.lf_checks.specs.Tests.{both, either, is_in}
use Rattle.lf_checks.specs.ModeForms.{argument_count}
use Rattle.lf_checks.specs.Strict.{head_variable, is_bound, with_seen, pattern_arguments, eta_at, strict}
use Rattle.lf_checks.proofs.EtaTest.{both_l, both_r}
use Rattle.lf_coverage.specs.Matching.{has_only, without, argument_variables, over_lambdas, read_off, arguments_of, found, found_spine, found_at}
use Rattle.lf_coverage.specs.TermMatching.{bound}
use Rattle.lf_coverage.proofs.Parts.{some_same}
use Rattle.lf_numbered.specs.OwnTerms.{weaken_own, OnOwnTerms, SpineOnOwnTerms, AllOnOwnTerms}
use Rattle.lf_numbered.proofs.EntrySignature.{not_same}
use Rattle.lf_numbered.proofs.OwnTerms.{rename_own, own_as_renamed, own_renamed}
use mathlib.Core.Path.{fun_ext}

-- own terms under n binders
abbrev pub deep_own : ℕ → (ℕ → Option Spine) → ℕ → Option Spine
deep_own zero o = o
deep_own (suc n) o = λ c. weaken_own (deep_own n o c)

pub renamed_twice : (ρ τ : ℕ → ℕ) (u : Option Spine) → rename_own ρ (rename_own τ u) ≡ rename_own (λ i. ρ (τ i)) u
renamed_twice ρ τ None = refl
renamed_twice ρ τ (Some U) = ap Some (renamings_compose_spine ρ τ U)

renamed_none : (u : Option Spine) → u ≡ rename_own (λ i. i + 0) u
renamed_none None = refl
renamed_none (Some U) = ap Some (sym (ap (λ ρ. rename_spine ρ U) (fun_ext same) ∙ spine_same (rename_identity (root (constant 0) U))))
  where
    spine_same : {S T : Spine} → root (constant 0) S ≡ root (constant 0) T → S ≡ T
    spine_same e = cc

    same : (i : ℕ) → i + 0 ≡ i
    same i = omega arith

deep_is : (n : ℕ) (o : ℕ → Option Spine) (c : ℕ) → deep_own n o c ≡ rename_own (λ i. i + n) (o c)
deep_is zero o c = renamed_none (o c)
deep_is (suc n) o c = ap weaken_own (deep_is n o c) ∙ own_as_renamed (rename_own (λ i. i + n) (o c)) ∙ renamed_twice suc (λ i. i + n) (o c) ∙ ap (λ ρ. rename_own ρ (o c)) (fun_ext next)
  where
    next : (i : ℕ) → suc (i + n) ≡ i + suc n
    next i = omega arith

deep_inside : (n : ℕ) (o : ℕ → Option Spine) (c : ℕ) → deep_own n (λ d. weaken_own (o d)) c ≡ weaken_own (deep_own n o c)
deep_inside zero o c = refl
deep_inside (suc n) o c = ap weaken_own (deep_inside n o c)

-- under lambdas
lambdas_own : (n : ℕ) (o : ℕ → Option Spine) (M : Term) → OnOwnTerms (deep_own n o) M → OnOwnTerms o (lambdas n M)
lambdas_own zero o M m = m
lambdas_own (suc n) o M m = lambdas_own n (λ c. weaken_own (o c)) M (subst (λ u. OnOwnTerms u M) (sym (fun_ext (deep_inside n o))) m)

-- bound variables are less than their number
bound_less : (n i : ℕ) → bound n i ≡ true → i < n
bound_less zero i e = absurd cc
bound_less (suc n) zero e = omega arith
bound_less (suc n) (suc i) e = let l = bound_less n i e in omega (arith, l)

-- Each of these is bound.
abbrev AllBound : ℕ → List ℕ → Type 0
AllBound n [] = Unit {0}
AllBound n (y ∷ ys) = (y < n) × AllBound n ys

-- The arguments of a pattern are bound variables, one for each.
seen_bound : (B : ℕ → Bool) (n : ℕ) → ((i : ℕ) → B i ≡ true → bound n i ≡ true) → (S : Spine) (seen : List ℕ) → AllBound n seen → pattern_arguments B seen S ≡ true → AllBound n (argument_variables seen S) × (length (argument_variables seen S) ≡ length seen + argument_count S)
seen_bound B n h nil seen a e = (a, none (length seen))
  where
    none : (l : ℕ) → l ≡ l + 0
    none l = omega arith
seen_bound B n h (app M S) seen a e = by (head_variable zero M) (both_l (is_bound B seen M (head_variable zero M)) (pattern_arguments B (with_seen (head_variable zero M) seen) S) e) (λ seen' a' q. seen_bound B n h S seen' a' q) (both_r (is_bound B seen M (head_variable zero M)) (pattern_arguments B (with_seen (head_variable zero M) seen) S) e)
  where
    next : (l m k : ℕ) → l ≡ suc m + k → l ≡ m + suc k
    next l m k e = omega (arith, e)

    by : (y : Option ℕ) → is_bound B seen M y ≡ true → ((seen' : List ℕ) → AllBound n seen' → pattern_arguments B seen' S ≡ true → AllBound n (argument_variables seen' S) × (length (argument_variables seen' S) ≡ length seen' + argument_count S)) → pattern_arguments B (with_seen y seen) S ≡ true → AllBound n (argument_variables (with_seen y seen) S) × (length (argument_variables (with_seen y seen) S) ≡ length seen + suc (argument_count S))
    by None b ih q = absurd cc
    by (Some y) b ih q =
        let l = bound_less n y (h y (both_l (B y) (not (is_in y seen)) (both_r (eta_at zero y M) (both (B y) (not (is_in y seen))) b))) in
        let (r, s) = ih (y ∷ seen) (l, a) q in
        (r, next (length (argument_variables (y ∷ seen) S)) (length seen) (argument_count S) s)

-- what stands outside moves in by the lambdas
pub without_far : (n i : ℕ) → without n (i + n) ≡ i
without_far zero i = none i
  where
    none : (i : ℕ) → i + 0 ≡ i
    none i = omega arith
without_far (suc n) i = ap (without (suc n)) (next i n) ∙ without_far n i
  where
    next : (i n : ℕ) → i + suc n ≡ suc (i + n)
    next i n = omega arith

lambdas_far : (ys : List ℕ) (n : ℕ) → AllBound n ys → (i : ℕ) → over_lambdas ys n (i + n) ≡ i + length ys
lambdas_far [] n a i = without_far n i ∙ none i
  where
    none : (i : ℕ) → i ≡ i + 0
    none i = omega arith
lambdas_far (y ∷ ys) n (l, a) i = ap (λ b. cond b zero (suc (over_lambdas ys n (i + n)))) (not_same (i + n) y (λ e. omega (arith, e, l))) ∙ ap suc (lambdas_far ys n a i) ∙ next i (length ys)
  where
    next : (i m : ℕ) → suc (i + m) ≡ i + suc m
    next i m = omega arith

module _ (o : ℕ → Option Spine) where
  read_off_own : (n : ℕ) (S : Spine) (M N : Term) → AllBound n (argument_variables [] S) → length (argument_variables [] S) ≡ argument_count S → read_off n S M ≡ Some N → OnOwnTerms (deep_own n o) M → OnOwnTerms o N
  read_off_own n S M N a l e m = by (has_only (λ i. either (is_in i (argument_variables [] S)) (not (bound n i))) M) e
    where
      ys : List ℕ
      ys = argument_variables [] S

      moved : (c : ℕ) → deep_own (argument_count S) o c ≡ rename_own (over_lambdas (argument_variables [] S) n) (deep_own n o c)
      moved c =
          deep_is (argument_count S) o c
          ∙ ap (λ ρ. rename_own ρ (o c)) (fun_ext (λ i. ap (λ k. i + k) (sym l) ∙ sym (lambdas_far (argument_variables [] S) n a i)))
          ∙ sym (renamed_twice (over_lambdas (argument_variables [] S) n) (λ i. i + n) (o c))
          ∙ ap (rename_own (over_lambdas (argument_variables [] S) n)) (sym (deep_is n o c))

      by : (b : Bool) → cond b (Some (lambdas (argument_count S) (rename (over_lambdas (argument_variables [] S) n) M))) None ≡ Some N → OnOwnTerms o N
      by true q = subst (OnOwnTerms o) (some_same q) (lambdas_own (argument_count S) o (rename (over_lambdas (argument_variables [] S) n) M) (own_renamed (deep_own n o) (deep_own (argument_count S) o) (over_lambdas (argument_variables [] S) n) M moved m))
      by false q = absurd cc

  spine_own : (n : ℕ) (M : Term) → OnOwnTerms (deep_own n o) M → SpineOnOwnTerms (deep_own n o) (arguments_of M)
  spine_own n (lambda M) m = tt
  spine_own n (root (constant c) S) m = m.1
  spine_own n (root (variable i) S) m = m
  spine_own n (root (metavariable c) S) m = m

  pub bound_under : (B : ℕ → Bool) (n : ℕ) → ((i : ℕ) → B i ≡ true → bound n i ≡ true) → (i : ℕ) → under B i ≡ true → bound (suc n) i ≡ true
  bound_under B n h zero e = refl
  bound_under B n h (suc i) e = h i e

  mutual
    found_own : (B F : ℕ → Bool) (n x : ℕ) (Q M N : Term) → ((i : ℕ) → B i ≡ true → bound n i ≡ true) → found B F n x Q M ≡ Some N → OnOwnTerms (deep_own n o) M → OnOwnTerms o N
    found_own B F n x (lambda Q) (lambda M) N h e m = found_own (under B) (hide F) (suc n) (suc x) Q M N (bound_under B n h) e m
    found_own B F n x (lambda Q) (root k S) N h e m = absurd cc
    found_own B F n x (root (constant c) T) M N h e m = found_spine_own B F n x T (arguments_of M) N h e (spine_own n M m)
    found_own B F n x (root (metavariable c) T) M N h e m = absurd cc
    found_own B F n x (root (variable j) T) M N h e m = by (both (same_number j x) (pattern_arguments B [] T)) refl e (λ q. found_spine_own B F n x T (arguments_of M) N h q (spine_own n M m))
      where
        by : (b : Bool) → both (same_number j x) (pattern_arguments B [] T) ≡ b → cond b (read_off n T M) (found_spine B F n x T (arguments_of M)) ≡ Some N → (found_spine B F n x T (arguments_of M) ≡ Some N → OnOwnTerms o N) → OnOwnTerms o N
        by true q r ih = let (a, l) = seen_bound B n h T [] tt (both_r (same_number j x) (pattern_arguments B [] T) q) in read_off_own n T M N a (l ∙ none (argument_count T)) r m
          where
            none : (k : ℕ) → 0 + k ≡ k
            none k = omega arith
        by false q r ih = ih r

    found_spine_own : (B F : ℕ → Bool) (n x : ℕ) (T S : Spine) (N : Term) → ((i : ℕ) → B i ≡ true → bound n i ≡ true) → found_spine B F n x T S ≡ Some N → SpineOnOwnTerms (deep_own n o) S → OnOwnTerms o N
    found_spine_own B F n x nil S N h e s = absurd cc
    found_spine_own B F n x (app Q T) nil N h e s = absurd cc
    found_spine_own B F n x (app Q T) (app M S) N h e (m, s) = by (strict B F x Q) e (λ q. found_own B F n x Q M N h q m) (λ q. found_spine_own B F n x T S N h q s)
      where
        by : (b : Bool) → cond b (found B F n x Q M) (found_spine B F n x T S) ≡ Some N → (found B F n x Q M ≡ Some N → OnOwnTerms o N) → (found_spine B F n x T S ≡ Some N → OnOwnTerms o N) → OnOwnTerms o N
        by true q f g = f q
        by false q f g = g q

  -- at the places of a case
  pub found_at_own : (B F : ℕ → Bool) (n x : ℕ) (T : Spine) (Ms : List (Option Term)) (N : Term) → ((i : ℕ) → B i ≡ true → bound n i ≡ true) → found_at B F n x T Ms ≡ Some N → AllOnOwnTerms (deep_own n o) Ms → OnOwnTerms o N
  found_at_own B F n x nil Ms N h e s = absurd cc
  found_at_own B F n x (app Q T) [] N h e s = absurd cc
  found_at_own B F n x (app Q T) (None ∷ Ms) N h e s = found_at_own B F n x T Ms N h e s
  found_at_own B F n x (app Q T) (Some M ∷ Ms) N h e (m, s) = by (strict B F x Q) e (λ q. found_own B F n x Q M N h q m) (λ q. found_at_own B F n x T Ms N h q s)
    where
      by : (b : Bool) → cond b (found B F n x Q M) (found_at B F n x T Ms) ≡ Some N → (found B F n x Q M ≡ Some N → OnOwnTerms o N) → (found_at B F n x T Ms ≡ Some N → OnOwnTerms o N) → OnOwnTerms o N
      by true q f g = f q
      by false q f g = g q
