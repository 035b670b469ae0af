-- The marks of the full form, one argument after the other.
use Rattle.std.proofs.Common.{◌≡◌, ℕ, zero, suc, ◌≤◌, List, [], ◌∷◌, ◌++◌, length, map, drop, refl, sym, ap, ◌∙◌}
use Rattle.std.proofs.lemmas.List.{append_assoc}
use Rattle.std.proofs.Math.ListN.{drop_of_length-le}
use Rattle.lf.specs.Syntax.{Spine, Term, app}
use Rattle.lf_checks.specs.Marks.{Mark}
use Rattle.lf_checks.specs.ModeForms.{argument_count, argument_marks, variable_mark}
use Rattle.lf_checks.specs.Strict.{head_variable}
use Rattle.tw_clause.specs.View.{mark_of}
use Rattle.tw_clause.specs.declared.name.Mark3.{Mark3}
use Rattle.tw_terms.specs.View.{args_of}
use Rattle.tw_terms.specs.declared.canonical.Term.{Term as RustTerm}

pub count_args : (ts : List RustTerm) → argument_count (args_of ts) ≡ length ts
count_args [] = refl
count_args (t ∷ ts) = ap suc (count_args ts)

map_push : (ps : List Mark3) (x : Mark3) → map mark_of (ps ++ x ∷ []) ≡ map mark_of ps ++ mark_of x ∷ []
map_push [] x = refl
map_push (p ∷ ps) x = ap (λ xs. mark_of p ∷ xs) (map_push ps x)

-- an argument more has its mark
pub placed_next : (m : List Mark) (ps : List Mark3) (x : Mark3) (M : Term) (S R : Spine) → S ≡ app M R → mark_of x ≡ variable_mark m (head_variable zero M) → map mark_of (ps ++ x ∷ []) ++ argument_marks m R ≡ map mark_of ps ++ argument_marks m S
placed_next m ps x M S R e h =
    ap (λ xs. xs ++ argument_marks m R) (map_push ps x)
    ∙ append_assoc (map mark_of ps) (mark_of x ∷ []) (argument_marks m R)
    ∙ ap (λ b. map mark_of ps ++ b ∷ argument_marks m R) h
    ∙ ap (λ T. map mark_of ps ++ argument_marks m T) (sym e)

nothing_behind : (xs : List Mark) → xs ++ [] ≡ xs
nothing_behind [] = refl
nothing_behind (x ∷ xs) = ap (λ ys. x ∷ ys) (nothing_behind xs)

pub placed_all : (m ps : List Mark) (ts : List RustTerm) (k : ℕ) (S : Spine) → length ts ≤ k → ps ++ argument_marks m (args_of (drop k ts)) ≡ argument_marks m (args_of ts) → S ≡ args_of ts → ps ≡ argument_marks m S
placed_all m ps ts k S h e f =
    sym (nothing_behind ps)
    ∙ ap (λ xs. ps ++ argument_marks m (args_of xs)) (sym (drop_of_length-le ts h))
    ∙ e ∙ ap (argument_marks m) (sym f)
