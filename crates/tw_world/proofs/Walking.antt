-- What is found in one argument after the other.
use Rattle.std.proofs.Common.{◌≡◌, ℕ, ◌≤◌, List, length, drop, None, refl, ap, ◌∙◌}
use Rattle.std.proofs.Math.ListN.{drop_of_length-le}
use Rattle.lf.specs.Syntax.{Spine, nil, app}
use Rattle.tw_terms.specs.View.{args_of}
use Rattle.tw_terms.specs.declared.canonical.Term.{Term as RustTerm}
use Rattle.tw_world.specs.Finding.{value_in_spine}

pub none_right : (n x : ℕ) (S : Spine) → value_in_spine n x S nil ≡ None
none_right n x nil = refl
none_right n x (app M S) = refl

pub ended_left : (n x k : ℕ) (ts : List RustTerm) (U : Spine) → length ts ≤ k → value_in_spine n x (args_of (drop k ts)) U ≡ None
ended_left n x k ts U h = ap (λ xs. value_in_spine n x (args_of xs) U) (drop_of_length-le ts h)

pub ended_right : (n x k : ℕ) (S : Spine) (us : List RustTerm) → length us ≤ k → value_in_spine n x S (args_of (drop k us)) ≡ None
ended_right n x k S us h = ap (λ xs. value_in_spine n x S (args_of xs)) (drop_of_length-le us h) ∙ none_right n x S
