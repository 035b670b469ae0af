-- Worked: the types of entries' constants as a list, the walk that puts the constants in place of entry variables, and
-- terms put in one after the other.
use Rattle.std.specs.Prelude.{◌≡◌, ℕ, zero, suc, [], ◌∷◌, None, Some}
use Rattle.lf.specs.Syntax.{app, arrow, base, constant, lambda, nil, pi, root, variable}
use Rattle.lf.specs.Substitution.{Image, keep, reduce, single, substitute, substitute_type}
use Rattle.lf_totality.specs.Examples.{exp, nat, on_two, successor, var, z}
use Rattle.lf_totality.specs.ExamplesBlocks.{numbered_block}
use Rattle.lf_totality.specs.ExamplesGroups.{on_one}
use Rattle.lf_unification.specs.Offering.{local_arguments}
use Rattle.lf_cases.specs.Case.{Case, block_variable, free_variable}
use Rattle.lf_numbered.specs.EntryTypes.{further_at, further_types}
use Rattle.lf_numbered.specs.EntryTypesPut.{entries_put, put_one_by_one}
use Rattle.lf_numbered.specs.EntryTypesWalk.{Standing, as_constant, as_variable, standing_image, walked, walked_case}
use Rattle.lf_numbered.specs.ExamplesEntries.{pair_block}
use Rattle.lf_numbered.specs.ExamplesNumbered.{turned}
use Rattle.lf_numbered.specs.OwnTerms.{blocks_of}

-- Those of f c.x b.y, for b of some {n:exp} block {y:t n} and c of {x:exp} {u:{Y:t x} f x Y}, from the number 1 on: y
-- is of {n:exp} t n, x of exp, and u of {Y:t 2} f 2 Y, where 2 is x. The numbers 0 and 4 have no type here.
abbrev pub TurnedHasTypes : Type 0
TurnedHasTypes = (further_types 1 (blocks_of turned.blocks) ≡ pi exp (on_one 1 (var 0)) ∷ exp ∷ pi (on_one 1 (root (constant 2) nil)) (on_two 2 (root (constant 2) nil) (var 0)) ∷ []) × (further_at 1 (further_types 1 (blocks_of turned.blocks)) 2 ≡ Some exp) × (further_at 1 (further_types 1 (blocks_of turned.blocks)) 0 ≡ None) × (further_at 1 (further_types 1 (blocks_of turned.blocks)) 4 ≡ None)

-- In some {n:nat} block {x:t n} {y:d n x} the older x stands in y's type on the `some` variable: {n:nat} d n (4 n). Two
-- block variables have two such pairs.
abbrev pub PairsHaveTypes : Type 0
PairsHaveTypes = further_types 4 (pair_block ∷ pair_block ∷ []) ≡ pi nat (on_one 1 (var 0)) ∷ pi nat (on_two 3 (var 0) (root (constant 4) (app (var 0) nil))) ∷ pi nat (on_one 1 (var 0)) ∷ pi nat (on_two 3 (var 0) (root (constant 6) (app (var 0) nil))) ∷ []

-- x : nat -> nat becomes the constant 5 on z, and what stands behind it comes one nearer. So x (s y) becomes 5 z (s y),
-- as it does by substitution of [u] 5 z u.
abbrev pub five_on_z : ℕ → Standing
five_on_z zero = as_constant 5 (app z nil)
five_on_z (suc i) = as_variable i

abbrev pub five_put : ℕ → Image
five_put i = standing_image (arrow (base 0) (base 0)) (five_on_z i)

-- The mere x has no skeleton. The walk makes 5 z of it, the substitution [u] 5 z u.
abbrev pub EntryIsWalked : Type 0
EntryIsWalked = (walked five_on_z (root (variable 0) (app (successor (var 1)) nil)) ≡ root (constant 5) (app z (app (successor (var 0)) nil))) × (substitute reduce five_put (root (variable 0) (app (successor (var 1)) nil)) ≡ root (constant 5) (app z (app (successor (var 0)) nil))) × (walked five_on_z (var 0) ≡ root (constant 5) (app z nil)) × (substitute reduce five_put (var 0) ≡ lambda (root (constant 5) (app z (app (var 0) nil))))

-- a x M over N : nat, a block variable of some {n:nat} block {x:t n} {u:a n} on N, and M : t N; its numbered form has
-- the constant 4 on N in place of x.
abbrev pub entry_items : Case
entry_items = record { items = free_variable (on_one 1 (var 2)) ∷ block_variable numbered_block keep ∷ free_variable nat ∷ []; given = []; local = []; family = 2; arguments = Some (var 2) ∷ Some (var 0) ∷ [] }

abbrev pub ItemsAreWalked : Type 0
ItemsAreWalked = walked_case 4 entry_items ≡ record { blocks = record { block = numbered_block; terms = app (var 1) nil } ∷ []; variables = on_one 1 (var 0) ∷ nat ∷ []; given = []; local = []; family = 2; arguments = Some (root (constant 4) (app (var 1) nil)) ∷ Some (var 0) ∷ [] }

-- The newest variable becomes y and the next one s z: d 0 1 becomes d y (s z). Without moving past what is left y would
-- be taken for the next variable. In the type d n x of an entry, behind x : t n and n, the constant 4 on n is put in
-- for x.
abbrev pub TermsArePut : Type 0
TermsArePut = (put_one_by_one ((base 0, var 0) ∷ (base 0, successor z) ∷ []) (on_two 3 (var 0) (var 1)) ≡ on_two 3 (var 0) (successor z)) × (substitute_type reduce (single (base 0) (successor z)) (substitute_type reduce (single (base 0) (var 0)) (on_two 3 (var 0) (var 1))) ≡ on_two 3 (successor z) (successor z)) × (put_one_by_one (entries_put 4 (local_arguments (nat ∷ [])) (on_one 1 (var 0) ∷ []) []) (on_two 3 (var 1) (var 0)) ≡ on_two 3 (var 0) (root (constant 4) (app (var 0) nil)))
