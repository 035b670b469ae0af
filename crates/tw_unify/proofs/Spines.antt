-- The spines of the program's arguments, one after the other.
use Rattle.std.proofs.Common.{◌≡◌, ℕ, suc, ◌+◌, ◌<◌, List, [], ◌∷◌, length, get_or, drop, drop-cons, add-one, ◌++◌, reverse, map, refl, sym, ap, ◌∙◌, arith}
use Rattle.std.proofs.lemmas.List.{reverse-append}
use Rattle.lf.specs.Syntax.{app}
use Rattle.tw_terms.specs.OpenView.{open_args_of, open_term_of, open_type_of}
use Rattle.tw_terms.specs.declared.open_terms.Open.{Open}
use Rattle.tw_terms.specs.declared.open_terms.OpenTy.{OpenTy}

pub open_args_at : (ts : List Open) (i : ℕ) (x : Open) → i < length ts → x ≡ get_or ts i x → open_args_of (drop i ts) ≡ app (open_term_of x) (open_args_of (drop (i + 1) ts))
open_args_at ts i x h e = rw (add-one, drop-cons ts i x) (ap (λ y. app (open_term_of y) (open_args_of (drop (suc i) ts))) (sym e))

-- arguments that stand last first, without the first of them
pub popped_arguments : (old new : List Open) (x : Open) → old ≡ new ++ x ∷ [] → open_args_of (reverse old) ≡ app (open_term_of x) (open_args_of (reverse new))
popped_arguments old new x e = ap (λ ts. open_args_of (reverse ts)) e ∙ ap open_args_of (reverse-append new (x ∷ []))

-- types that stand last first, without the first of them
pub popped_types : (old new : List OpenTy) (x : OpenTy) → old ≡ new ++ x ∷ [] → map open_type_of (reverse old) ≡ open_type_of x ∷ map open_type_of (reverse new)
popped_types old new x e = ap (λ ts. map open_type_of (reverse ts)) e ∙ ap (map open_type_of) (reverse-append new (x ∷ []))

pub no_type_left : (ts : List OpenTy) → length ts ≡ 0 → map open_type_of (reverse ts) ≡ []
no_type_left [] e = refl
no_type_left (t ∷ ts) e = absurd (omega arith)
