-- A run in which two block variables of a case may be one instance: a split makes a second one and lists the first too, so what they share as one
-- instance is held there.
use Rattle.std.specs.Prelude.{◌≡◌, refl, ℕ, zero, suc, List, [], ◌∷◌, Bool, true, false, Option, Some, None}
use Rattle.lf.specs.Syntax.{constant, Term, root, nil, app, LfType, Kind, pi, kind_pi, star}
use Rattle.lf.specs.Substitution.{keep}
use Rattle.lf.specs.Typing.{Signature}
use Rattle.lf.specs.Subordination.{Block, Member, SelfContained}
use Rattle.lf.specs.Worlds.{World}
use Rattle.lf_checks.specs.Clause.{Clause, entry_clause}
use Rattle.lf_cases.specs.Case.{Case, free_variable, block_variable, input_goal}
use Rattle.lf_cases.specs.Pattern.{Pattern, of_entry, head_pattern, Holds}
use Rattle.lf_cases.specs.Reached.{Reached}
use Rattle.lf_cases.specs.Split.{Ends, HoldsDistinctly}
use Rattle.lf_totality.specs.Examples.{exp, on_two, on_three, var}
use Rattle.lf_coverage.specs.Calls.{CoverIs, MatchedIs, SplitIs, candidates, cases, covered}
use Rattle.lf_coverage.specs.Heads.{IsHeadSplit, SplitsByHeads}
use Rattle.lf_coverage.specs.Leaf.{IsInstanceLeaf}
use Rattle.lf_coverage.specs.MeetStore.{IsOpen}

-- Families: exp = 0, same = 1, exp -> exp -> type, and check = 2, {X:exp} {Y:exp} same X Y -> type. One constant, alike : {X:exp} same X X, 0.
abbrev pub same : Term → Term → LfType
same M N = on_two 1 M N

abbrev pub alike : Term → Term
alike M = root (constant 0) (app M nil)

abbrev pub check : Term → Term → Term → LfType
check M N P = on_three 2 M N P

abbrev pub twin_types : ℕ → Option LfType
twin_types zero = Some (pi exp (same (var 0) (var 0)))
twin_types (suc n) = None

abbrev pub check_kind : Kind
check_kind = kind_pi exp (kind_pi exp (kind_pi (same (var 1) (var 0)) star))

abbrev pub twin_kinds : ℕ → Option Kind
twin_kinds zero = Some star
twin_kinds (suc zero) = Some (kind_pi exp (kind_pi exp star))
twin_kinds (suc (suc zero)) = Some check_kind
twin_kinds (suc (suc (suc n))) = None

abbrev pub Twins : Signature
Twins = record { types = twin_types; kinds = twin_kinds }

-- a family is below each later one
abbrev pub up_to : ℕ → ℕ → Bool
up_to f zero = true
up_to zero (suc b) = false
up_to (suc f) (suc b) = up_to f b

-- block {x:exp} {u:check x x (alike x)}, and the clause u, of which nothing else is there
abbrev pub twin_block : Block
twin_block = record { label = 98 ∷ []; some = []; entries = check (var 0) (var 0) (alike (var 0)) ∷ exp ∷ [] }

abbrev pub twin_worlds : List Block
twin_worlds = twin_block ∷ []

abbrev pub twin_entry : Clause
twin_entry = entry_clause twin_block (exp ∷ []) (check (var 0) (var 0) (alike (var 0)))

abbrev pub twin_head : Pattern
twin_head = head_pattern twin_entry (of_entry twin_block [] (check (var 0) (var 0) (alike (var 0))) (exp ∷ []) refl)

-- check X Y Z
abbrev pub twin_goal : Case
twin_goal = input_goal 2 (true ∷ true ∷ true ∷ []) check_kind

-- check b.x Y Z
abbrev pub one_entry : Case
one_entry = record { items = free_variable (same (var 2) (var 0)) ∷ free_variable exp ∷ block_variable twin_block keep ∷ []; given = []; local = []; family = 2; arguments = Some (var 3) ∷ Some (var 1) ∷ Some (var 0) ∷ [] }

-- check b.x c.x Z, where c is a second block variable
abbrev pub two_entries : Case
two_entries = record { items = free_variable (same (var 3) (var 1)) ∷ block_variable twin_block keep ∷ block_variable twin_block keep ∷ []; given = []; local = []; family = 2; arguments = Some (var 4) ∷ Some (var 2) ∷ Some (var 0) ∷ [] }

-- check b.x b.x Z
abbrev pub same_entry : Case
same_entry = record { items = free_variable (same (var 1) (var 1)) ∷ block_variable twin_block keep ∷ []; given = []; local = []; family = 2; arguments = Some (var 2) ∷ Some (var 2) ∷ Some (var 0) ∷ [] }

-- check b.x b.x (alike b.x)
abbrev pub entry_alike : Case
entry_alike = record { items = block_variable twin_block keep ∷ []; given = []; local = []; family = 2; arguments = Some (var 1) ∷ Some (var 1) ∷ Some (alike (var 1)) ∷ [] }

-- Split by split: X is the entry of a new block variable b; then Y is that of a new one c or of b; and Z is alike X', which makes both entries the same,
-- so it gives no case of check b.x c.x Z.
abbrev pub TwinsAreSplit : Type 0
TwinsAreSplit = (S : ℕ → Bool) → SelfContained Twins twin_worlds S → S 0 ≡ true → S 1 ≡ true → IsHeadSplit Twins twin_worlds S up_to twin_goal 2 (one_entry ∷ []) × IsHeadSplit Twins twin_worlds S up_to one_entry 1 (two_entries ∷ same_entry ∷ []) × IsHeadSplit Twins twin_worlds S up_to two_entries 0 [] × IsHeadSplit Twins twin_worlds S up_to same_entry 0 (entry_alike ∷ [])

-- And these are the cases that are to be answered, each by a most general typed instance, where other block variables stay other ones.
abbrev pub TwinCasesAreAnswers : Type 0
TwinCasesAreAnswers = SplitIs Twins twin_worlds up_to twin_goal 2 (cases (one_entry ∷ [])) × SplitIs Twins twin_worlds up_to one_entry 1 (cases (two_entries ∷ same_entry ∷ [])) × SplitIs Twins twin_worlds up_to two_entries 0 (cases []) × SplitIs Twins twin_worlds up_to same_entry 0 (cases (entry_alike ∷ []))

-- The strategy reaches them, by the candidates X, Y and Z.
abbrev pub TwinCasesAreReached : Type 0
TwinCasesAreReached = (C : Case) → Member C (one_entry ∷ two_entries ∷ same_entry ∷ entry_alike ∷ []) → Reached Twins twin_worlds (IsOpen Twins) up_to (twin_head ∷ []) twin_goal C

-- So the run ends at instances of u, and u covers the goal.
abbrev pub TwinRunCovers : Type 0
TwinRunCovers = ((S : ℕ → Bool) → SelfContained Twins twin_worlds S → S 0 ≡ true → S 1 ≡ true → Ends (IsInstanceLeaf Twins twin_worlds (twin_head ∷ [])) (SplitsByHeads Twins twin_worlds S up_to) twin_goal) × CoverIs Twins twin_worlds up_to (twin_head ∷ []) twin_goal covered

-- Where b and c are one instance, the case check b.x c.x Z holds check x x (alike x), which no case of its split holds; it doesn't hold it with different
-- instances, and check b.x b.x Z does.
abbrev pub TwinsAreOneInstance : Type 0
TwinsAreOneInstance = (w : World Twins twin_worlds (up_to 2) (check (var 0) (var 0) (alike (var 0)) ∷ exp ∷ [])) × Holds w two_entries None keep (app (var 1) (app (var 1) (app (alike (var 1)) nil))) × (HoldsDistinctly w two_entries None keep (app (var 1) (app (var 1) (app (alike (var 1)) nil))) → ⊥) × HoldsDistinctly w same_entry None keep (app (var 1) (app (var 1) (app (alike (var 1)) nil)))

-- So u isn't apart from check b.x c.x Z: identified, they share check b.x b.x (alike b.x). Its candidate is Z.
abbrev pub TwinsAreMatched : Type 0
TwinsAreMatched = MatchedIs Twins twin_worlds two_entries twin_head (candidates (0 ∷ []))
