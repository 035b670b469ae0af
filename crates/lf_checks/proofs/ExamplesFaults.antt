-- Worked rows of the checks: clauses in order, parts, ground variables, first faults, marks of both forms, joined blocks.
use Rattle.std.proofs.Common.{◌≡◌, ℕ, ◌<◌, zero, suc, List, [], ◌∷◌, refl, sym, ap, subst, arith, inl, inr, true≢false}
use Rattle.std.specs.Prelude.{Bool, true, false, Some, None, ◌⊎◌}
use Rattle.lf.specs.Syntax.{constant, variable, Term, lambda, root, nil, app, LfType, Kind, pi, atom, kind_pi, star}
use Rattle.lf.specs.Typing.{Signature}
use Rattle.lf.specs.Entries.{Entry, Body, declare_family, declare_constant, signature_of}
use Rattle.lf.specs.Variables.{everything, nothing, target_arguments}
use Rattle.lf.specs.Subordination.{Block}
use Rattle.lf_unification.specs.Search.{occurs, occurs_spine}
use Rattle.lf_checks.specs.Clause.{Clause, constant_clause, scope, variables, outside, IsSubgoal}
use Rattle.lf_checks.specs.Clauses.{NamedClause, of_constant, of_entry, named_entry, clauses_of}
use Rattle.lf_checks.specs.Descent.{CallDescends, no_call}
use Rattle.lf_checks.specs.Faults.{here}
use Rattle.lf_checks.specs.GroundUntil.{ground_until, ground_at_end}
use Rattle.lf_checks.specs.Marks.{input, output, free, output_places, free_places}
use Rattle.lf_checks.specs.Modes.{occurs_at}
use Rattle.lf_checks.specs.ModeFaults.{EndFault, IsLostAt, IsLostNowhere, ModeFault, SubgoalIsModed, at_argument, of_end, of_subgoal, place_of, unground_input}
use Rattle.lf_checks.specs.ModeForms.{IsFullForm, completed_marks, full_marks}
use Rattle.lf_checks.specs.ModeRows.{FirstUnmoded, ModeRow, is_moded, marks_of}
use Rattle.lf_checks.specs.Order.{place, InArguments, Smaller, SmallerOrEqual, smaller, under_constant, under_parameter, first_argument, later_argument}
use Rattle.lf_checks.specs.OrderFaults.{AreJoined, GroupOrderFault, again, for_the_first_time, no_more}
use Rattle.lf_checks.specs.Parts.{parts, subgoal_at}
use Rattle.lf_checks.specs.WorldFaults.{WorldFault}
use Rattle.lf_checks.specs.Worlded.{IsSequence, no_instance, next_instance}

-- Numbers: 0 nat, 1 z, 2 s, 3 plus, 4 plus-z, 5 plus-s.
abbrev x : ℕ → Term
x i = root (variable i) nil

abbrev nat : LfType
nat = atom 0 nil

abbrev z : Term
z = root (constant 1) nil

abbrev s : Term → Term
s M = root (constant 2) (app M nil)

abbrev plus : Term → Term → Term → LfType
plus L M N = atom 3 (app L (app M (app N nil)))

abbrev plus_z : LfType
plus_z = pi nat (plus z (x 0) (x 0))

abbrev plus_s : LfType
plus_s = pi nat (pi nat (pi nat (pi (plus (x 2) (x 1) (x 0)) (plus (s (x 3)) (x 2) (s (x 1))))))

abbrev declared : Body → Entry
declared b = record { name = []; body = b; implicit = 0; hints = [] }

abbrev one_place : Kind
one_place = kind_pi nat star

abbrev numbers : List Entry
numbers = declared (declare_constant plus_s) ∷ declared (declare_constant plus_z) ∷ declared (declare_family (kind_pi nat (kind_pi nat (kind_pi nat star)))) ∷ declared (declare_constant (pi nat nat)) ∷ declared (declare_constant nat) ∷ declared (declare_family star) ∷ []

-- the clauses of plus, the oldest first, and of a block with x:nat and a clause of plus under it
plus_clauses : clauses_of numbers [] 3 ≡ record { name = of_constant 4; clause = constant_clause plus_z } ∷ record { name = of_constant 5; clause = constant_clause plus_s } ∷ []
plus_clauses = refl

abbrev plus_block : Block
plus_block = record { label = 108 ∷ []; some = []; entries = plus (x 0) (x 0) (x 0) ∷ nat ∷ [] }

entry_name : clauses_of [] (plus_block ∷ []) 3 ≡ named_entry plus_block (nat ∷ []) (plus (x 0) (x 0) (x 0)) ∷ []
entry_name = refl

second_entry : (named_entry plus_block (nat ∷ []) (plus (x 0) (x 0) (x 0))).name ≡ of_entry (108 ∷ []) 2
second_entry = refl

-- plus-s: one subgoal, which is number 1 and stands last; without it X, Y and Z are the variables 2, 1 and 0
one_subgoal : subgoal_at (constant_clause plus_s) 1 ≡ Some 0
one_subgoal = refl

no_second : subgoal_at (constant_clause plus_s) 2 ≡ None
no_second = refl

plus_parts : parts (constant_clause plus_s) ≡ record { variables = nat ∷ nat ∷ nat ∷ []; shape = true ∷ true ∷ true ∷ false ∷ []; family = 3; head = app (s (x 2)) (app (x 1) (app (s (x 0)) nil)); subgoals = plus (x 2) (x 1) (x 0) ∷ [] }
plus_parts = refl

-- with + + - Z is not ground before the subgoal and is at the end
abbrev plus_rows : List ModeRow
plus_rows = record { family = 3; marks = input ∷ input ∷ output ∷ [] } ∷ []

z_before : ground_until everything (marks_of plus_rows) (constant_clause plus_s) 0 1 ≡ false
z_before = refl

x_before : ground_until everything (marks_of plus_rows) (constant_clause plus_s) 0 3 ≡ true
x_before = refl

z_at_end : ground_at_end everything (marks_of plus_rows) (constant_clause plus_s) 1 ≡ true
z_at_end = refl

-- f : nat -> nat -> type. f-a : f X Y. With f +X -Y the fault is f-a 0 2.
abbrev f_entries : List Entry
f_entries = declared (declare_constant (pi nat (pi nat (atom 1 (app (x 1) (app (x 0) nil)))))) ∷ declared (declare_family (kind_pi nat (kind_pi nat star))) ∷ declared (declare_family star) ∷ []

abbrev f_a : Clause
f_a = constant_clause (pi nat (pi nat (atom 1 (app (x 1) (app (x 0) nil)))))

abbrev f_rows : List ModeRow
f_rows = record { family = 1; marks = input ∷ output ∷ [] } ∷ []

second_output : ModeFault (signature_of f_entries) (marks_of f_rows) (is_moded f_rows) f_a (place_of 0 2)
second_output = of_end (kind_pi nat (kind_pi nat star), refl, (tt, tt)) none (at_argument nowhere (inr (first, inl (record { lost = 0; stands = refl; unground = refl; matters = inl refl }, refl))))
  where
    none : (i : ℕ) (A : LfType) → i < 2 → IsSubgoal f_a i A → SubgoalIsModed (signature_of f_entries) (marks_of f_rows) (is_moded f_rows) f_a (ground_until everything (marks_of f_rows) f_a i) A
    none zero A l g = absurd (true≢false g.0)
    none (suc zero) A l g = absurd (true≢false g.0)
    none (suc (suc i)) A l g = absurd (true≢false g.0)

    nowhere : IsLostNowhere (marks_of f_rows) f_a (ground_at_end everything (marks_of f_rows) f_a) → ⊥
    nowhere h = at h.lost h.must.own h.nowhere h.unground
      where
        at : (i : ℕ) → outside f_a.type everything i ≡ false → occurs_spine i (app (x 1) (app (x 0) nil)) ≡ false → ground_at_end everything (marks_of f_rows) f_a i ≡ false → ⊥
        at zero o n u = true≢false n
        at (suc zero) o n u = true≢false n
        at (suc (suc i)) o n u = true≢false o

    first : IsLostAt (marks_of f_rows) f_a (ground_at_end everything (marks_of f_rows) f_a) input (x 1) → ⊥
    first h = at h.lost h.stands h.unground
      where
        at : (i : ℕ) → occurs i (x 1) ≡ true → ground_at_end everything (marks_of f_rows) f_a i ≡ false → ⊥
        at zero o u = true≢false (sym o)
        at (suc zero) o u = true≢false u
        at (suc (suc i)) o u = true≢false (sym o)

-- p-1 : p X <- ({x:nat} ({Y:nat} q x Y) -> q W Z). With p +X and q +X -Y the fault is p-1 1 1: the input W comes before the hypothesis, whose
-- output Y never becomes ground.
abbrev q : Term → Term → LfType
q M N = atom 2 (app M (app N nil))

abbrev asked : ℕ → ℕ → LfType
asked w y = pi nat (pi (pi nat (q (x 1) (x 0))) (q (x (suc (suc w))) (x (suc (suc y)))))

abbrev inputs_first : Clause
inputs_first = constant_clause (pi nat (pi nat (pi nat (pi (asked 1 0) (atom 1 (app (x 3) nil))))))

abbrev q_entries : List Entry
q_entries = declared (declare_family (kind_pi nat (kind_pi nat star))) ∷ declared (declare_family one_place) ∷ declared (declare_family star) ∷ []

abbrev q_rows : List ModeRow
q_rows = record { family = 1; marks = input ∷ [] } ∷ record { family = 2; marks = input ∷ output ∷ [] } ∷ []

input_named : ModeFault (signature_of q_entries) (marks_of q_rows) (is_moded q_rows) inputs_first (place_of 1 1)
input_named = of_subgoal 0 (asked 2 1) (one_place, refl, (tt, tt)) refl (refl, refl) (λ i A l. absurd (omega arith)) (unground_input (kind_pi nat (kind_pi nat star), refl, (tt, tt)) (tt, ((tt, ((refl, tt), ((refl, tt), tt))), tt)) (inl ((λ u. true≢false (sym u.0)), refl)))

-- p : (nat -> nat) -> type. p-1 : p ([y] X (X y)). With p +X the fault is p-1 0 1: neither X is strict.
abbrev twice : Clause
twice = constant_clause (pi (pi nat nat) (atom 1 (app (lambda (root (variable 1) (app (root (variable 1) (app (x 0) nil)) nil))) nil)))

abbrev twice_rows : List ModeRow
twice_rows = record { family = 1; marks = input ∷ [] } ∷ []

not_strict : EndFault (marks_of twice_rows) twice (ground_at_end everything (marks_of twice_rows) twice) 1
not_strict = at_argument (λ h. at h.lost h.must.own h.nowhere) (inl (record { lost = 0; stands = refl; unground = refl; matters = inr (record { is_variable = refl; own = refl; in_head = refl; in_subgoal = λ g. no_subgoal g.index g.is_subgoal.0 }, refl) }, refl))
  where
    at : (i : ℕ) → outside twice.type everything i ≡ false → occurs_spine i (target_arguments twice.type) ≡ false → ⊥
    at zero o n = true≢false n
    at (suc i) o n = true≢false o

    no_subgoal : (i : ℕ) → variables twice i ≡ false → ⊥
    no_subgoal zero e = true≢false e
    no_subgoal (suc i) e = true≢false e

-- p : nat -> nat -> (nat -> nat) -> type. p-1 : p (F X) X F. With + - * the fault is p-1 0 2: an output comes before an input that isn't strict.
abbrev output_first : Clause
output_first = constant_clause (pi (pi nat nat) (pi nat (atom 1 (app (root (variable 1) (app (x 0) nil)) (app (x 0) (app (lambda (root (variable 2) (app (x 0) nil))) nil))))))

abbrev output_rows : List ModeRow
output_rows = record { family = 1; marks = input ∷ output ∷ free ∷ [] } ∷ []

output_named : EndFault (marks_of output_rows) output_first (ground_at_end everything (marks_of output_rows) output_first) 2
output_named = at_argument (λ h. at h.lost h.must.own h.nowhere) (inr (first, inl (record { lost = 0; stands = refl; unground = refl; matters = inl refl }, refl)))
  where
    at : (i : ℕ) → outside output_first.type everything i ≡ false → occurs_spine i (target_arguments output_first.type) ≡ false → ⊥
    at zero o n = true≢false n
    at (suc zero) o n = true≢false n
    at (suc (suc i)) o n = true≢false o

    first : IsLostAt (marks_of output_rows) output_first (ground_at_end everything (marks_of output_rows) output_first) input (root (variable 1) (app (x 0) nil)) → ⊥
    first h = elim h.matters [ inl e ↦ true≢false (sym e) | inr (m, o) ↦ in_output h.lost h.stands m.in_head o ]
      where
        in_output : (i : ℕ) → occurs i (root (variable 1) (app (x 0) nil)) ≡ true → occurs_at (free_places (marks_of output_rows 1)) i (target_arguments output_first.type) ≡ false → occurs_at (output_places (marks_of output_rows 1)) i (target_arguments output_first.type) ≡ false → ⊥
        in_output zero e f o = true≢false o
        in_output (suc zero) e f o = true≢false f
        in_output (suc (suc i)) e f o = true≢false (sym e)

-- f : nat -> type. f-1 : {x:nat} f z. With f +X nat is the first family without a mode: x doesn't occur, so nat is called.
abbrev unmoded_clauses : List NamedClause
unmoded_clauses = record { name = of_constant 3; clause = constant_clause (pi nat (atom 1 (app z nil))) } ∷ []

nat_is_called : FirstUnmoded twice_rows unmoded_clauses 0
nat_is_called = refl

-- vec : nat -> type. foo : {N:nat} vec N -> nat -> type. The short form of +V -M has + for N; the full form gives each place the mark of its
-- variable, in whatever order these are quantified.
abbrev vec : Term → LfType
vec N = atom 6 (app N nil)

short_form : completed_marks 1 (input ∷ output ∷ []) (kind_pi nat (kind_pi (vec (x 0)) (kind_pi nat star))) ≡ input ∷ input ∷ output ∷ []
short_form = refl

-- N is implicit and occurs in the type of an implicit input only
under_implicit : completed_marks 2 (input ∷ []) (kind_pi nat (kind_pi (vec (x 0)) (kind_pi (atom 7 (app (x 0) nil)) star))) ≡ input ∷ input ∷ input ∷ []
under_implicit = refl

other_marks : completed_marks 1 (free ∷ output ∷ []) (kind_pi nat (kind_pi (vec (x 0)) (kind_pi nat star))) ≡ free ∷ free ∷ output ∷ []
other_marks = refl

abbrev full_form : LfType
full_form = pi nat (pi nat (pi (vec (x 0)) (atom 8 (app (x 1) (app (x 0) (app (x 2) nil))))))

full_form_marks : full_marks (output ∷ input ∷ input ∷ []) full_form ≡ input ∷ input ∷ output ∷ []
full_form_marks = refl

is_full_form : IsFullForm full_form
is_full_form = record { distinct = refl; all = refl }

-- without blocks the local context of a subgoal under a binder is a fault of worlds
no_blocks : (Σ : Signature) (C D : List LfType) → IsSequence Σ [] C D → D ≡ []
no_blocks Σ C D no_instance = refl
no_blocks Σ C D (next_instance B θ h m st w p) = absurd m

-- cp-lam : cp (lam E) (lam F) <- ({x:exp} cp x x -> cp (E x) (F x)). Under `%worlds () (cp _ _).` the fault is cp-lam 1.
abbrev exp : LfType
exp = atom 0 nil

abbrev cp : Term → Term → LfType
cp M N = atom 1 (app M (app N nil))

abbrev lam_of : ℕ → Term
lam_of i = root (constant 2) (app (lambda (root (variable (suc i)) (app (x 0) nil))) nil)

abbrev copies : ℕ → ℕ → LfType
copies e f = pi exp (pi (cp (x 0) (x 0)) (cp (root (variable (suc (suc e))) (app (x 1) nil)) (root (variable (suc (suc f))) (app (x 1) nil))))

abbrev cp_lam : Clause
cp_lam = constant_clause (pi (pi exp exp) (pi (pi exp exp) (pi (copies 1 0) (cp (lam_of 2) (lam_of 1)))))

under_binder : (Σ : Signature) (below : ℕ → ℕ → Bool) → WorldFault Σ [] (1 ∷ []) below [] cp_lam 1
under_binder Σ below = record { index = 0; subgoal = copies 2 1; stands = refl; is_subgoal = (refl, refl); before = λ i A l. absurd (omega arith); fails = λ h. let e : cp (x 0) (x 0) ∷ exp ∷ [] ≡ [] = no_blocks Σ (scope cp_lam) (cp (x 0) (x 0) ∷ exp ∷ []) h.0 in absurd cc }

-- loop-s : loop (s X) Y <- loop (s X) Y. Its first subgoal is a fault of the order by the first place.
abbrev loop : Term → Term → LfType
loop M N = atom 1 (app M (app N nil))

abbrev loop_s : Clause
loop_s = constant_clause (pi nat (pi nat (pi (loop (s (x 1)) (x 0)) (loop (s (x 2)) (x 1)))))

not_below_itself : (Σ : Signature) (C : List LfType) (L R : ℕ → Bool) (A : LfType) → ((i : ℕ) → R i ≡ true → ⊥) → Smaller Σ C L R (s (x 2)) (s (x 2)) A → ⊥
not_below_itself Σ C L R A none (under_constant {A = B} t h) = in_one B h
  where
    not_equal : {B : LfType} → SmallerOrEqual Σ C L R (s (x 2)) (x 2) B → ⊥
    not_equal (smaller (under_parameter r t h)) = none 2 r

    in_one : (B : LfType) → InArguments Σ C L R (s (x 2)) (app (x 2) nil) B → ⊥
    in_one (pi B D) (first_argument h) = not_equal h
    in_one (pi B D) (later_argument h) = elim h [ ]
    in_one (atom b T) h = elim h [ ]

abbrev loop_entries : List Entry
loop_entries = declared (declare_constant loop_s.type) ∷ declared (declare_family (kind_pi nat (kind_pi nat star))) ∷ declared (declare_family star) ∷ []

same_call : GroupOrderFault loop_entries [] (λ f. place 1) (1 ∷ []) (of_constant 2) 1
same_call = here refl (record { index = 0; subgoal = loop (s (x 2)) (x 1); stands = refl; is_subgoal = (refl, refl); before = λ i A l. absurd (omega arith); fails = λ h. fails (h (inl refl)) })
  where
    some_term : {M N : Term} → Some M ≡ Some N → M ≡ N
    some_term e = cc

    fails : CallDescends (signature_of loop_entries) [] (λ f. place 1) (1 ∷ []) loop_s (loop (s (x 2)) (x 1)) → ⊥
    fails (a, inl (M, N, e, f, K, k, X, t, h)) = not_below_itself (signature_of loop_entries) (scope loop_s) nothing (outside loop_s.type nothing) X (λ i r. none i r) (subst (λ Y. Smaller (signature_of loop_entries) (scope loop_s) nothing (outside loop_s.type nothing) Y (s (x 2)) X) (sym (some_term e)) (subst (λ Y. Smaller (signature_of loop_entries) (scope loop_s) nothing (outside loop_s.type nothing) M Y X) (sym (some_term f)) h))
      where
        none : (i : ℕ) → outside loop_s.type nothing i ≡ true → ⊥
        none zero r = true≢false (sym r)
        none (suc zero) r = true≢false (sym r)
        none (suc (suc zero)) r = true≢false (sym r)
        none (suc (suc (suc i))) r = true≢false (sym r)
    fails (a, inr (e, n)) = n no_call

-- l1, l2 and l2, l3 joined are l1, l2, l3
abbrev block_of : ℕ → Block
block_of n = record { label = n ∷ []; some = []; entries = nat ∷ [] }

joined_rows : AreJoined (record { family = 1; blocks = block_of 1 ∷ block_of 2 ∷ [] } ∷ record { family = 2; blocks = block_of 2 ∷ block_of 3 ∷ [] } ∷ []) (1 ∷ 2 ∷ []) (block_of 1 ∷ block_of 2 ∷ block_of 3 ∷ [])
joined_rows = for_the_first_time (λ m. m) (for_the_first_time (λ m. other 2 1 (λ e. cc) m) (again (inl refl) (for_the_first_time third no_more)))
  where
    apart : (m n : ℕ) → (m ≡ n → ⊥) → block_of m ≡ block_of n → ⊥
    apart m n d e = let q : m ∷ [] ≡ n ∷ [] = ap (λ B. B.label) e in d cc

    other : (m n : ℕ) → (m ≡ n → ⊥) → (block_of m ≡ block_of n) ⊎ ⊥ → ⊥
    other m n d (inl e) = apart m n d e
    other m n d (inr e) = e

    third : (block_of 3 ≡ block_of 2) ⊎ (block_of 3 ≡ block_of 1) ⊎ ⊥ → ⊥
    third (inl e) = apart 3 2 (λ q. cc) e
    third (inr (inl e)) = apart 3 1 (λ q. cc) e
    third (inr (inr e)) = e
