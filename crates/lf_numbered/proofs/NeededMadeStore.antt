-- The worked case of which a split leaves an equation, its signature, and how a metavariable of the store loses an
-- argument.
use Rattle.std.proofs.Common.{◌≡◌, ℕ, zero, suc, ◌<◌, ◌≤◌, List, [], ◌∷◌, refl, ap, subst, arith}
use Rattle.std.specs.Prelude.{Option, Some, None}
use Rattle.lf.specs.Syntax.{Kind, Skeleton, Term, LfType, app, arrow, base, constant, lambda, metavariable, nil, root, rename_type, star}
use Rattle.lf.specs.Typing.{IsContext, IsKind, IsSignature, IsType, Signature, TypeAt}
use Rattle.lf_unification.specs.Inversion.{ElementAt, IsPattern, MustDrop}
use Rattle.lf_unification.specs.OpenTyping.{Declares, MetavariablesInType}
use Rattle.lf_unification.specs.Patterns.{InImage, Injective, beyond, pattern_renaming}
use Rattle.lf_unification.specs.Pruning.{PrunedType, kept_renaming}
use Rattle.lf_unification.specs.Rigid.{first, here, in_constant}
use Rattle.lf_unification.specs.Scope.{IsScoped}
use Rattle.lf_unification.specs.Unifiers.{Binding, Equation}
use Rattle.lf_totality.specs.Examples.{nat, successor, var, z}
use Rattle.lf_coverage.specs.SplitStore.{context_metavariables}
use Rattle.lf_coverage.proofs.Parts.{none_some, some_same}
use Rattle.lf_coverage.proofs.UsedVariables.{types_of_two}
use Rattle.lf_numbered.specs.EntryConstants.{IsFreeFrom, with_entries}
use Rattle.lf_numbered.specs.NeededMade.{Made, made_case, made_kinds, made_types, one_nat, t_kind, t_of, two_nat, v_type}
use Rattle.lf_numbered.specs.OwnTerms.{TypeOnOwnTerms, own_terms}
use Rattle.lf_numbered.specs.TypedNumbered.{IsTypedNumberedCase}
use Rattle.lf_numbered.proofs.EntrySignature.{with_entries_is_signature}
use Rattle.lf_numbered.proofs.FreeFrom.{free_from}

-- The signature and the case
pub ok : IsSignature Made
ok = record { types_ok = types; kinds_ok = kinds }
  where
    types : (c : ℕ) (A : LfType) → made_types c ≡ Some A → IsType Made [] A
    types zero A e = subst (IsType Made []) (some_same e) (star, refl, tt)
    types (suc zero) A e = subst (IsType Made []) (some_same e) ((star, refl, tt), (star, refl, tt))
    types (suc (suc zero)) A e = subst (IsType Made []) (some_same e) (((star, refl, tt), (star, refl, tt)), (t_kind, refl, ((one_nat, (one_nat, (one_nat, refl, refl), refl), ((nat, (nat, refl, refl), refl), refl)), ((nat, refl, refl), tt))))
    types (suc (suc (suc c))) A e = absurd (none_some e)

    kinds : (a : ℕ) (K : Kind) → made_kinds a ≡ Some K → IsKind Made [] K
    kinds zero K e = subst (IsKind Made []) (some_same e) tt
    kinds (suc zero) K e = subst (IsKind Made []) (some_same e) (((star, refl, tt), ((star, refl, tt), (star, refl, tt))), ((star, refl, tt), tt))
    kinds (suc (suc a)) K e = absurd (none_some e)

pub free : IsFreeFrom Made 3
free = free_from Made 3 (λ c. refl) (λ a. refl)

abbrev pub Entries : Signature
Entries = with_entries Made 3 []

pub entries_ok : IsSignature Entries
entries_ok = with_entries_is_signature Made ok 3 free [] (λ B m. absurd m)

pub context : IsContext Made (v_type 0 ∷ two_nat ∷ [])
context = ((tt, ((star, refl, tt), ((star, refl, tt), (star, refl, tt)))), (t_kind, refl, ((one_nat, refl, ((two_nat, (two_nat, (two_nat, refl, refl), refl), ((nat, (nat, refl, refl), refl), ((nat, refl, refl), refl))), refl)), ((two_nat, refl, ((nat, refl, refl), ((nat, refl, refl), refl))), tt))))

pub case_typed : IsTypedNumberedCase Made 3 [] made_case
case_typed = record {
  variables = record { variables = context; on_own_terms = types_of_two (λ i A. TypeOnOwnTerms (own_terms 3 []) A) (v_type 0) two_nat ((tt, ((tt, (tt, tt)), tt)), (((tt, tt), ((tt, tt), tt)), tt)) (tt, (tt, tt)); blocks = tt };
  local = context;
  local_on_own = tt;
  given = tt;
  given_on_own = tt;
  arguments = tt;
  arguments_on_own = tt;
}

-- The store of h: H has the number 0, V 1 and G 2.
abbrev pub types : ℕ → Option LfType
types = context_metavariables (one_nat ∷ v_type 0 ∷ two_nat ∷ [])

abbrev pub h_value : Term
h_value = root (constant 2) (app (lambda (root (metavariable 0) (app (var 0) nil))) nil)

abbrev pub v_open : LfType
v_open = t_of (lambda (lambda (successor (root (metavariable 2) (app (var 1) (app (var 0) nil)))))) (root (metavariable 2) (app z (app z nil)))

abbrev pub of_v : Binding
of_v = record { of = 1; value = h_value }

-- G loses y: under x and y the equation s (G x y) = H x allows x alone.
abbrev pub locals : List LfType
locals = nat ∷ nat ∷ []

abbrev pub applied : Term
applied = successor (root (metavariable 2) (app (var 1) (app (var 0) nil)))

abbrev pub two_arrows : Skeleton
two_arrows = arrow (base 0) (arrow (base 0) (base 0))

pub one_kept : IsPattern locals (arrow (base 0) (base 0)) (1 ∷ [])
one_kept = record { places = λ Γ. (refl, tt); distinct = apart }
  where
    apart : (i j : ℕ) → pattern_renaming (arrow (base 0) (base 0)) (1 ∷ []) (beyond locals) i ≡ pattern_renaming (arrow (base 0) (base 0)) (1 ∷ []) (beyond locals) j → i ≡ j
    apart zero zero e = refl
    apart zero (suc j) e = absurd (omega (arith, e))
    apart (suc i) zero e = absurd (omega (arith, e))
    apart (suc i) (suc j) e = omega (arith, e)

pub both_kept : IsPattern locals two_arrows (1 ∷ 0 ∷ [])
both_kept = record { places = λ Γ. (refl, (refl, tt)); distinct = apart }
  where
    apart : (i j : ℕ) → pattern_renaming two_arrows (1 ∷ 0 ∷ []) (beyond locals) i ≡ pattern_renaming two_arrows (1 ∷ 0 ∷ []) (beyond locals) j → i ≡ j
    apart zero zero e = refl
    apart zero (suc zero) e = absurd (omega (arith, e))
    apart zero (suc (suc j)) e = absurd (omega (arith, e))
    apart (suc zero) zero e = absurd (omega (arith, e))
    apart (suc zero) (suc zero) e = refl
    apart (suc zero) (suc (suc j)) e = absurd (omega (arith, e))
    apart (suc (suc i)) zero e = absurd (omega (arith, e))
    apart (suc (suc i)) (suc zero) e = absurd (omega (arith, e))
    apart (suc (suc i)) (suc (suc j)) e = e

pub not_y : InImage (pattern_renaming (arrow (base 0) (base 0)) (1 ∷ []) (beyond locals)) 0 → ⊥
not_y (zero, e) = omega (arith, e)
not_y (suc j, e) = omega (arith, e)

abbrev pub y_goes : MustDrop types locals (arrow (base 0) (base 0)) (1 ∷ []) applied
y_goes = record { m = 2; depth = 0; context = locals; context_is = refl; ys = 1 ∷ 0 ∷ []; is_pattern = both_kept; at = in_constant (first here); place = 1; bad = 0; nth = refl; is_bad = not_y; last = others }
  where
    others : (j y : ℕ) → 1 < j → ElementAt (1 ∷ 0 ∷ []) j y → InImage (pattern_renaming (arrow (base 0) (base 0)) (1 ∷ []) (beyond locals)) y
    others zero y l e = absurd (omega (arith, l))
    others (suc zero) y l e = absurd (omega (arith, l))
    others (suc (suc j)) y l e = absurd e

abbrev pub pruned : PrunedType types 2 0
pruned = record {
  local = locals;
  family = 0;
  indices = nil;
  declared = refl;
  kept_local = nat ∷ [];
  kept_indices = nil;
  kept = 1 ∷ [];
  distinct = apart;
  places = λ Γ. (refl, tt);
  part = record { outer = λ i. refl; types = moved };
  same_target = refl;
  others_stay = stay;
  is_lost = lost;
}
  where
    apart : Injective (kept_renaming two_nat one_nat (1 ∷ []))
    apart zero zero e = refl
    apart zero (suc j) e = absurd (omega (arith, e))
    apart (suc i) zero e = absurd (omega (arith, e))
    apart (suc i) (suc j) e = omega (arith, e)

    moved : (i : ℕ) (Y : LfType) → TypeAt (nat ∷ []) i Y → TypeAt (nat ∷ nat ∷ []) (kept_renaming two_nat one_nat (1 ∷ []) i) (rename_type (kept_renaming two_nat one_nat (1 ∷ [])) Y)
    moved zero Y e = (nat, refl, ap (rename_type (kept_renaming two_nat one_nat (1 ∷ []))) e)
    moved (suc i) Y (B, g, e) = absurd g

    stay : (i : ℕ) → (i ≡ 0 → ⊥) → InImage (kept_renaming two_nat one_nat (1 ∷ [])) i
    stay zero n = absurd (n refl)
    stay (suc zero) n = (0, refl)
    stay (suc (suc i)) n = (suc i, refl)

    lost : InImage (kept_renaming two_nat one_nat (1 ∷ [])) 0 → ⊥
    lost (zero, e) = omega (arith, e)
    lost (suc j, e) = omega (arith, e)

abbrev pub of_g : Binding
of_g = record { of = 2; value = lambda (lambda (root (metavariable 3) (app (var 1) nil))) }

abbrev pub of_h : Binding
of_h = record { of = 0; value = lambda (successor (root (metavariable 3) (app (var 0) nil))) }

abbrev pub equations : List Equation
equations = record { local = locals; left = applied; right = root (metavariable 0) (app (var 1) nil); of_type = nat } ∷ record { local = []; left = root (metavariable 2) (app z (app z nil)); right = z; of_type = nat } ∷ []

pub scoped : IsScoped types 3 (of_v ∷ []) equations
scoped = record {
  fresh = fresh;
  types = inside;
  bindings = ((v_open, refl), (((one_nat, refl), (tt, tt)), tt), tt);
  equations = ((((two_nat, refl), (tt, (tt, tt))), tt), ((one_nat, refl), (tt, tt)), (((two_nat, refl), (tt, (tt, tt))), tt, tt));
  equation_types = (((tt, tt), tt), tt, (tt, tt, tt));
}
  where
    fresh : (m : ℕ) → 3 ≤ m → types m ≡ None
    fresh zero l = absurd (omega (arith, l))
    fresh (suc zero) l = absurd (omega (arith, l))
    fresh (suc (suc zero)) l = absurd (omega (arith, l))
    fresh (suc (suc (suc m))) l = refl

    inside : (m : ℕ) (A : LfType) → types m ≡ Some A → MetavariablesInType (Declares types) A
    inside zero A e = subst (MetavariablesInType (Declares types)) (some_same e) (tt, tt)
    inside (suc zero) A e = subst (MetavariablesInType (Declares types)) (some_same e) ((((two_nat, refl), (tt, (tt, tt))), tt), (((two_nat, refl), (tt, (tt, tt))), tt))
    inside (suc (suc zero)) A e = subst (MetavariablesInType (Declares types)) (some_same e) (tt, (tt, tt))
    inside (suc (suc (suc m))) A e = absurd (none_some e)
