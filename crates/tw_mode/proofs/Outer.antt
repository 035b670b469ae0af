-- What a constant and an entry come to, by what stands outside them.
use Rattle.std.proofs.Common.{◌≡◌, ℕ, suc, ◌+◌, ◌-◌, ◌<◌, List, [], Bool, true, false, Option, length, drop, length-drop, refl, sym, ap, ap₂, ◌∙◌, subst, arith}
use Rattle.lf.specs.Subordination.{Block}
use Rattle.lf.specs.Syntax.{LfType}
use Rattle.lf.specs.Typing.{Signature}
use Rattle.lf.specs.Variables.{everything, nothing, onto}
use Rattle.lf_checks.specs.Clause.{among, constant_clause, entry_clause}
use Rattle.lf_checks.specs.ModeFaults.{ModeFaultFrom}
use Rattle.lf_checks.specs.Modes.{WellModedFrom}
use Rattle.tw_mode.specs.Checks.{Outcome}
use Rattle.tw_mode.specs.Groups.{NamedOutcome}
use Rattle.tw_mode.specs.Outcomes.{ClauseOutcome, plain_place}
use Rattle.tw_mode.specs.Rows.{marks_in, moded_in}
use Rattle.tw_mode.specs.Scopes.{in_marks}
use Rattle.tw_mode.specs.Solved.{with_hidden, with_shown}
use Rattle.tw_mode.specs.declared.clause.Place.{Place}
use Rattle.tw_mode.specs.declared.outside.Outside.{Outside}
use Rattle.tw_mode.specs.declared.table.Table.{Table}
use Rattle.std.specs.Prelude.{option_map}
use Rattle.tw_mode.proofs.Entries.{all_set, among_set, hidden_count, shown_count}
use mathlib.Core.Path.{fun_ext}

-- a clause with these fixed and ground variables outside it
outcome_by : (Σ : Signature) (t : Table) (o : Outside) (A : LfType) (f : Option Place) (C : List LfType) (F U : ℕ → Bool) → in_marks false o.depth o.fixed.now ≡ F → in_marks true o.depth o.ground.now ≡ U → ClauseOutcome Σ t o A f → Outcome (WellModedFrom Σ (marks_in t) (moded_in t) U (record { outer = C; fixed = F; type = A })) (ModeFaultFrom Σ (marks_in t) (moded_in t) U (record { outer = C; fixed = F; type = A })) (option_map plain_place f)
outcome_by Σ t o A f C F U p q h =
    subst (λ V. Outcome (WellModedFrom Σ (marks_in t) (moded_in t) V (record { outer = C; fixed = F; type = A })) (ModeFaultFrom Σ (marks_in t) (moded_in t) V (record { outer = C; fixed = F; type = A })) (option_map plain_place f)) q
    (subst (λ G. Outcome (WellModedFrom Σ (marks_in t) (moded_in t) (in_marks true o.depth o.ground.now) (record { outer = C; fixed = G; type = A })) (ModeFaultFrom Σ (marks_in t) (moded_in t) (in_marks true o.depth o.ground.now) (record { outer = C; fixed = G; type = A })) (option_map plain_place f)) p (h C))

nothing_marked : (ms : List Bool) → in_marks false 0 ms ≡ nothing
nothing_marked ms = fun_ext (λ i. refl)

all_marked : (ms : List Bool) → in_marks true 0 ms ≡ everything
all_marked ms = fun_ext (λ i. refl)

pub constant_outcome : (Σ : Signature) (t : Table) (o : Outside) (A : LfType) (f : Option Place) → o.depth ≡ 0 → ClauseOutcome Σ t o A f → NamedOutcome Σ t (constant_clause A) f
constant_outcome Σ t o A f e h = outcome_by Σ t o A f [] nothing everything (ap (λ d. in_marks false d o.fixed.now) e ∙ nothing_marked o.fixed.now) (ap (λ d. in_marks true d o.ground.now) e ∙ all_marked o.ground.now) h

pub entry_outcome : (Σ : Signature) (t : Table) (B : Block) (n : ℕ) (o : Outside) (A : LfType) (f : Option Place) (fs : List Bool) (k : ℕ) → n < length B.entries → fs ≡ with_shown (with_hidden [] (length B.some)) (length B.entries - n - 1) → o.depth ≡ length fs → o.fixed.now ≡ fs → o.ground.now ≡ with_shown (with_hidden [] 0) k → k ≡ length fs → ClauseOutcome Σ t o A f → NamedOutcome Σ t (entry_clause B (drop (suc n) B.entries) A) f
entry_outcome Σ t B n o A f fs k l e d x g y h = outcome_by Σ t o A f (onto es B.some) (among es) everything fixed ground h
  where
    es : List LfType
    es = drop (suc n) B.entries

    many : length B.entries - n - 1 ≡ length es
    many = let q = length-drop (suc n) B.entries in omega (arith, q, l)

    as_many : length fs ≡ length B.some + length es
    as_many = ap length e ∙ shown_count (with_hidden [] (length B.some)) (length B.entries - n - 1) ∙ (let q = hidden_count [] (length B.some) in omega (arith, q, many))

    fixed : in_marks false o.depth o.fixed.now ≡ among es
    fixed = ap₂ (λ m xs. in_marks false m xs) (d ∙ as_many) (x ∙ e ∙ ap (with_shown (with_hidden [] (length B.some))) many) ∙ among_set (length B.some) es

    ground : in_marks true o.depth o.ground.now ≡ everything
    ground = ap₂ (λ m xs. in_marks true m xs) (d ∙ sym y) g ∙ all_set k

-- the number of an entry, by that of the newer ones
pub entry_number : (es : List LfType) (n : ℕ) → n < length es → suc (length (drop (suc n) es)) ≡ length es - n
entry_number es n h = let q = length-drop (suc n) es in omega (arith, q, h)
