-- How many arguments a term has.
use Rattle.std.proofs.Common.{◌≡◌, ℕ, suc, ◌-◌, List, [], ◌∷◌, length, Bool, true, false, refl, sym, ap, ◌∙◌, arith}
use Rattle.std.specs.Prelude.{nat_le}
use Rattle.std.proofs.lemmas.Bool.{le-leb, lt-leb, leb-true, leb-false}
use Rattle.tw_terms.specs.View.{args_of}
use Rattle.tw_terms.specs.declared.canonical.Term.{Term}
use Rattle.tw_terms.proofs.Args.{types}
use Rattle.tw_print.specs.Arguments.{spine_length}

pub spine_length-args_of : (ts : List Term) → spine_length (args_of ts) ≡ length ts
spine_length-args_of [] = refl
spine_length-args_of (t ∷ ts) = ap suc (spine_length-args_of ts)

by_case : (b : Bool) (a h : ℕ) → nat_le a h ≡ b → nat_le a h ≡ nat_le (a - h) 0
by_case true a h e = let l = leb-true a h e in e ∙ sym (le-leb (a - h) 0 (omega (arith, l)))
by_case false a h e = let l = leb-false a h e in e ∙ sym (lt-leb (a - h) 0 (omega (arith, l)))

-- no argument is left exactly where there are no more than the hidden ones
pub none_left : (a h : ℕ) → nat_le a h ≡ nat_le (a - h) 0
none_left a h = by_case (nat_le a h) a h refl

pub ruleset counts = (types, spine_length-args_of, none_left)
