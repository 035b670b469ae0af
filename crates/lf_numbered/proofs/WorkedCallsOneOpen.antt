-- Two block variables that are made one: an equation is left.
use Rattle.std.proofs.Common.{◌≡◌, ℕ, zero, suc, List, [], ◌∷◌, inl, inr, refl, sym, ap, ◌∙◌, subst}
use Rattle.std.specs.Prelude.{Option, Some, None}
use Rattle.lf.specs.Rules.{stop}
use Rattle.lf.specs.Syntax.{Term, LfType, Kind, app, base, constant, metavariable, nil, pi, root, star}
use Rattle.lf.specs.Substitution.{keep}
use Rattle.lf.specs.Typing.{IsKind, IsSignature, IsType}
use Rattle.lf.specs.Subordination.{AreTypedBlocks, IsTypedBlock}
use Rattle.lf_unification.specs.Dependency.{IsDependencyOrder, IsListed, ListedMetavariable}
use Rattle.lf_unification.specs.OpenTyping.{DeclarationsAreTyped, OpenIsType}
use Rattle.lf_unification.specs.PartialInstance.{EquationIsTyped, EquationsAreTyped, IsFilling}
use Rattle.lf_unification.specs.Putting.{put_nothing, some_at_bound, some_nowhere}
use Rattle.lf_unification.specs.Solving.{IsWellFormed, Left, LeftOver}
use Rattle.lf_unification.specs.Steps.{CanRefute, Run, bind, constants_differ, drop_equal, no_step, put_bindings, then_run}
use Rattle.lf_unification.specs.Unifiers.{Equation, Store, on_right}
use Rattle.lf_unification.proofs.Runs.{run_left}
use Rattle.lf_totality.specs.Examples.{exp}
use Rattle.lf_coverage.specs.SplitStore.{context_metavariables}
use Rattle.lf_coverage.proofs.ExamplesUnified.{no_argument}
use Rattle.lf_coverage.proofs.FlexibleLeft.{flexible_is_left, some_left, store_left}
use Rattle.lf_coverage.proofs.OtherNumbers.{not_among}
use Rattle.lf_coverage.proofs.Parts.{none_some, some_same}
use Rattle.lf_numbered.specs.EntryConstants.{IsFreeFrom}
use Rattle.lf_numbered.specs.EntryPatterns.{IsInstanceOfPattern}
use Rattle.lf_numbered.specs.NumberedCallsStores.{Identifies, IsOpenByNumber, constant_beside, identified}
use Rattle.lf_numbered.specs.OwnTerms.{BlockVariable}
use Rattle.lf_numbered.specs.WorkedCallsOne.{MadeOneIsOpen, Thrice, WithTwo, e_kind, l_block, store_with, thrice_head, thrice_kinds, thrice_type, thrice_types, two_and_applied}
use Rattle.lf_numbered.proofs.EntrySignature.{with_entries_is_signature}
use Rattle.lf_numbered.proofs.FreeFrom.{free_from}
use Rattle.lf_numbered.proofs.WorkedCallsOne.{b_x, differ, entry_found, is_entry, same_constants}

refuted : CanRefute WithTwo (store_with (λ k. k) two_and_applied thrice_head e_kind)
refuted = record {
  reached = _;
  run =
      then_run (bind {A = exp} on_right [] 0 [] b_x exp refl tt no_argument (entry_found _))
      (then_run (put_bindings put_nothing (some_at_bound is_entry (inl refl) some_nowhere stop put_nothing)) no_step);
  refuted = constants_differ differ;
}

-- the signature with the entries
ok : IsSignature Thrice
ok = record { types_ok = types; kinds_ok = kinds }
  where
    types : (c : ℕ) (A : LfType) → thrice_types c ≡ Some A → IsType Thrice [] A
    types zero A e = subst (IsType Thrice []) (some_same e) (star, refl, tt)
    types (suc zero) A e = subst (IsType Thrice []) (some_same e) ((star, refl, tt), (_, refl, ((exp, refl, refl), ((exp, refl, refl), tt))))
    types (suc (suc zero)) A e = subst (IsType Thrice []) (some_same e) ((star, refl, tt), (_, refl, ((exp, refl, refl), ((exp, refl, refl), ((exp, refl, refl), tt)))))
    types (suc (suc (suc c))) A e = absurd (none_some e)

    kinds : (a : ℕ) (K : Kind) → thrice_kinds a ≡ Some K → IsKind Thrice [] K
    kinds zero K e = subst (IsKind Thrice []) (some_same e) tt
    kinds (suc zero) K e = subst (IsKind Thrice []) (some_same e) ((star, refl, tt), ((star, refl, tt), tt))
    kinds (suc (suc zero)) K e = subst (IsKind Thrice []) (some_same e) ((star, refl, tt), ((star, refl, tt), ((star, refl, tt), tt)))
    kinds (suc (suc (suc a))) K e = absurd (none_some e)

blocks : AreTypedBlocks Thrice (l_block ∷ l_block ∷ [])
blocks B (inl e) = subst (IsTypedBlock Thrice) (sym e) (tt, (star, refl, tt))
blocks B (inr (inl e)) = subst (IsTypedBlock Thrice) (sym e) (tt, (star, refl, tt))
blocks B (inr (inr m)) = absurd m

free : IsFreeFrom Thrice 3
free = free_from Thrice 3 (λ c. refl) (λ a. refl)

entries_ok : IsSignature WithTwo
entries_ok = with_entries_is_signature Thrice ok 3 free (l_block ∷ l_block ∷ []) blocks

-- The metavariables are X and F.
abbrev types : ℕ → Option LfType
types = context_metavariables (exp ∷ pi exp exp ∷ [])

abbrev start : Store
start = store_with (λ k. 0) two_and_applied thrice_head e_kind

abbrev a : Term
a = root (constant 0) nil

abbrev flexible : Term
flexible = root (metavariable 1) (app a nil)

abbrev left_equation : Equation
left_equation = record { local = []; left = flexible; right = a; of_type = exp }

abbrev after : Store
after = store_left exp 0 0 b_x 0 0 exp

run : Run WithTwo start after
run =
    then_run (bind {A = exp} on_right [] 0 [] b_x exp refl tt no_argument (entry_found _))
    (then_run (put_bindings put_nothing (some_at_bound is_entry (inl refl) some_nowhere stop put_nothing)) (then_run drop_equal no_step))

abbrev order : List ListedMetavariable
order = record { of = 0; of_type = exp; value = None } ∷ record { of = 1; of_type = pi exp exp; value = None } ∷ []

module _ (U : (ℕ → Option Term) → Type 0) where
  is_order : IsDependencyOrder WithTwo types U order
  is_order = ((tt, refl, (λ h. h), (tt, tt), ((star, refl, tt), (star, refl, tt)), (λ ρ. refl), tt), refl, not_among refl (λ b. b), tt, (star, refl, tt), (λ ρ. refl), tt)

  declared : DeclarationsAreTyped WithTwo [] types U
  declared = record { outer_typed = λ i A g. absurd g; metavariables_typed = at }
    where
      at : (m : ℕ) (A : LfType) → types m ≡ Some A → OpenIsType WithTwo [] types U [] A
      at zero A e = subst (OpenIsType WithTwo [] types U []) (some_same e) (star, refl, tt)
      at (suc zero) A e = subst (OpenIsType WithTwo [] types U []) (some_same e) ((star, refl, tt), (star, refl, tt))
      at (suc (suc m)) A e = absurd (none_some e)

  is_b_x : EquationIsTyped WithTwo [] types U (record { local = []; left = b_x; right = root (metavariable 0) nil; of_type = exp })
  is_b_x = record { local_typed = tt; type_typed = λ F β i u. (base 0, refl, refl); left_typed = (exp, refl, (refl, λ β u. refl)); right_typed = (exp, (exp, refl, refl), (refl, λ β u. refl)) }

  equations : EquationsAreTyped WithTwo [] types U start.equations
  equations = (is_b_x, (is_b_x, (record { local_typed = tt; type_typed = λ F β i u. (base 0, refl, refl); left_typed = (pi exp exp, (pi exp exp, refl, refl), ((exp, refl, (refl, λ β u. refl)), (refl, λ β u. refl))); right_typed = (exp, refl, (refl, λ β u. refl)) }, tt)))

listed : (m : ℕ) (A : LfType) → types m ≡ Some A → IsListed order m
listed zero A e = inl refl
listed (suc zero) A e = inr (inl refl)
listed (suc (suc m)) A e = absurd (none_some e)

form : IsWellFormed WithTwo start
form = record {
  order = order;
  is_order = is_order (IsFilling WithTwo [] start);
  all_listed = listed;
  bindings_listed = tt;
  values_bound = ((λ N e. absurd (none_some e)), ((λ N e. absurd (none_some e)), tt));
  typed = record { declarations_typed = declared (IsFilling WithTwo [] start); bindings_typed = tt; equations_typed = equations (IsFilling WithTwo [] start) };
}

abbrev left_over : LeftOver types after left_equation
left_over = flexible_is_left exp 0 0 b_x 0 0 exp

is_left : Left WithTwo start after
is_left = run_left WithTwo entries_ok form run some_left (left_over, tt)

all_one : Identifies two_and_applied (λ k. 0)
all_one zero b e = (_, refl, ap (λ (c : BlockVariable). c.block) (some_same e), refl)
all_one (suc zero) b e = (_, refl, ap (λ (c : BlockVariable). c.block) (some_same e), refl)
all_one (suc (suc k)) b e = absurd (none_some e)

is_open : IsOpenByNumber Thrice 3 two_and_applied thrice_head
is_open = record {
  kind = e_kind;
  of_family = refl;
  numbers = λ k. 0;
  identifies = all_one;
  case = identified 3 (λ k. 0) two_and_applied;
  outer = keep;
  beside = constant_beside thrice_type;
  undecided = inr (after, is_left);
}

two_are_none : IsInstanceOfPattern Thrice 3 two_and_applied thrice_head → ⊥
two_are_none i = differ (same_constants (i.same.1.0 ∙ sym i.same.0))

pub made_one_is_open : MadeOneIsOpen
made_one_is_open = (refuted, is_open, (two_are_none, inr is_open, refl))
