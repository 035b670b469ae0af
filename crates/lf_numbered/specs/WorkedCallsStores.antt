-- Worked stores and splits with entries: b.x and c.x clash in the type same b.x c.x; and of an entry h that is a function, E y2 y1 = b.h y1 y2 is solved, but
-- not E y1 = b.h y1 y2.
use Rattle.std.specs.Prelude.{◌≡◌, ℕ, zero, suc, [], ◌∷◌, Bool, Option, Some, None}
use Rattle.lf.specs.Syntax.{constant, variable, lambda, root, nil, app, LfType, Kind, pi, atom, kind_pi, star}
use Rattle.lf.specs.Substitution.{keep}
use Rattle.lf.specs.Subordination.{Block}
use Rattle.lf.specs.Typing.{Signature}
use Rattle.lf_unification.specs.Steps.{CanRefute, Run}
use Rattle.lf_unification.specs.Unifiers.{Store}
use Rattle.lf_checks.specs.Below.{IsSubordination}
use Rattle.lf_cases.specs.Pattern.{Pattern}
use Rattle.lf_totality.specs.Examples.{nat, var}
use Rattle.lf_totality.specs.ExamplesReached.{head_of}
use Rattle.lf_coverage.specs.ExamplesTwins.{Twins, same, twin_block, twin_worlds}
use Rattle.lf_numbered.specs.EntryConstants.{with_entries}
use Rattle.lf_numbered.specs.NumberedCalls.{NumberedSplitIs, numbered_cases}
use Rattle.lf_numbered.specs.NumberedCallsStores.{meet_store_by_number}
use Rattle.lf_numbered.specs.NumberedCase.{NumberedCase}

-- The case is check b.x c.x Z, with Z : same b.x c.x, for two block variables of {x:exp} {u:check x x (alike x)}. The constant of b.x is 3, and that of c.x is
-- 5.
abbrev pub two_twins : NumberedCase
two_twins = record {
  blocks = record { block = twin_block; terms = nil } ∷ record { block = twin_block; terms = nil } ∷ [];
  variables = same (root (constant 3) nil) (root (constant 5) nil) ∷ [];
  given = [];
  local = [];
  family = 2;
  arguments = Some (root (constant 3) nil) ∷ Some (root (constant 5) nil) ∷ Some (var 0) ∷ [];
}

-- The one constant alike : {X:exp} same X X gives no case, since b.x and c.x are different in a split; so there is no case at all. Where b and c are one
-- instance, the case holds check x x (alike x): that is held by check b.x b.x Z too, which the split that made c lists beside this case.
abbrev pub TwinsGiveNoCase : Type 0
TwinsGiveNoCase = (below : ℕ → ℕ → Bool) → IsSubordination Twins twin_worlds below → NumberedSplitIs Twins 3 twin_worlds below two_twins 0 (numbered_cases [])

-- The families are nat : type (0) and p : (nat -> nat -> nat) -> type (1), and there are no constants. The block is {h:nat -> nat -> nat}, and the case is p
-- ([y1] [y2] b.h y1 y2). The constant of b.h is 2.
abbrev pub binary : LfType
binary = pi nat (pi nat nat)

abbrev pub p_kind : Kind
p_kind = kind_pi binary star

abbrev pub taking_kinds : ℕ → Option Kind
taking_kinds zero = Some star
taking_kinds (suc zero) = Some p_kind
taking_kinds (suc (suc a)) = None

abbrev pub Binary : Signature
Binary = record { types = λ c. None; kinds = taking_kinds }

abbrev pub binary_block : Block
binary_block = record { label = 98 ∷ []; some = []; entries = binary ∷ [] }

abbrev pub binary_case : NumberedCase
binary_case = record { blocks = record { block = binary_block; terms = nil } ∷ []; variables = []; given = []; local = []; family = 1; arguments = Some (lambda (lambda (root (constant 2) (app (var 1) (app (var 0) nil))))) ∷ [] }

abbrev pub WithBinary : Signature
WithBinary = with_entries Binary 2 (binary_block ∷ [])

-- The patterns are the heads of {E:nat -> nat -> nat} p ([y1] [y2] E y2 y1) and of {E:nat -> nat} p ([y1] [y2] E y1).
abbrev pub exchanging : Pattern
exchanging = head_of (pi binary (atom 1 (app (lambda (lambda (root (variable 2) (app (var 0) (app (var 1) nil))))) nil)))

abbrev pub dropping : Pattern
dropping = head_of (pi (pi nat nat) (atom 1 (app (lambda (lambda (root (variable 2) (app (var 1) nil)))) nil)))

abbrev pub store_of : Pattern → Store
store_of p = meet_store_by_number (λ k. k) binary_case p keep p_kind

-- An entry is rigid. The equation E y2 y1 = b.h y1 y2 is solved by E := [y2] [y1] b.h y1 y2. The equation E y1 = b.h y1 y2 is refuted, since y2 stands rigid
-- on the right: b.h isn't pruned there, as a free variable would be.
abbrev pub EntriesAreTaken : Type 0
EntriesAreTaken =
    ((after : Store) × Run WithBinary (store_of exchanging) after × (after.equations ≡ []) × (after.bindings ≡ record { of = 0; value = lambda (lambda (root (constant 2) (app (var 0) (app (var 1) nil)))) } ∷ []))
    × CanRefute WithBinary (store_of dropping)
