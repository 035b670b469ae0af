-- States after a change of the lists that they are seen from.
use Rattle.std.proofs.Common.{Box, Global, ◌≡◌, ℕ, List, length, map, Option, sym, ap, ◌∙◌, slice_set, slice_index_or, ◌<◌}
use Rattle.std.specs.List.{insert, remove}
use Rattle.std.proofs.lemmas.List.{map-set}
use Rattle.std.proofs.Math.Seq.{map-set_same}
use Rattle.lf.specs.Syntax.{Term}
use Rattle.lf_unification.specs.Unifiers.{Equation}
use Rattle.tw_metas.specs.State.{Declaration, State}
use Rattle.tw_metas.specs.View.{declaration_of, kept_equation_of, value_in}
use Rattle.tw_metas.specs.declared.contents.Metavariable.{Metavariable}
use Rattle.tw_metas.specs.declared.equation.Equation.{Equation as RustEquation}
use Rattle.tw_metas.proofs.Lists.{map_insert, map_remove, insert_removed}

abbrev pub declarations_in : List Metavariable → List Declaration
declarations_in xs = map declaration_of xs

abbrev pub values_in : List Metavariable → List (Option Term)
values_in xs = map value_in xs

abbrev pub made : List Declaration → List (Option Term) → List ℕ → List Equation → State
made d vs b es = record { declared = d; values = vs; bound = b; equations = es }

-- a metavariable of which the value alone is another
pub valued_state : (xs ys : List Metavariable) (m : ℕ) (x d : Metavariable) (b : List ℕ) (es : List Equation) → ys ≡ slice_set xs m x → declaration_of x ≡ declaration_of (slice_index_or xs m d)
    → made (declarations_in ys) (values_in ys) b es ≡ made (declarations_in xs) (slice_set (values_in xs) m (value_in x)) b es
valued_state xs ys m x d b es e k =
    let same : declarations_in ys ≡ declarations_in xs = ap declarations_in e ∙ map-set_same declaration_of xs m x d k in
    let set : values_in ys ≡ slice_set (values_in xs) m (value_in x) = ap values_in e ∙ map-set value_in xs m x in
    ap (λ ds. made ds (values_in ys) b es) same ∙ ap (λ vs. made (declarations_in xs) vs b es) set

pub restored_state : (d : List Declaration) (vs : List (Option Term)) (b : List ℕ) (es fs : List (Box RustEquation Global)) (at : ℕ) (e : Box RustEquation Global) → fs ≡ insert es at e
    → made d vs b (map kept_equation_of fs) ≡ made d vs b (insert (map kept_equation_of es) at (kept_equation_of e))
restored_state d vs b es fs at e h = ap (λ x. made d vs b x) (ap (λ x. map kept_equation_of x) h ∙ map_insert kept_equation_of es at e)

pub settled_state : (d : List Declaration) (vs : List (Option Term)) (b : List ℕ) (es fs : List (Box RustEquation Global)) (at : ℕ) → fs ≡ remove es at
    → made d vs b (map kept_equation_of fs) ≡ made d vs b (remove (map kept_equation_of es) at)
settled_state d vs b es fs at h = ap (λ x. made d vs b x) (ap (λ x. map kept_equation_of x) h ∙ map_remove kept_equation_of es at)

pub settled_back : (d : List Declaration) (vs : List (Option Term)) (b : List ℕ) (es fs : List (Box RustEquation Global)) (at : ℕ) (e : Box RustEquation Global) → fs ≡ remove es at → e ≡ slice_index_or es at e → at < length es
    → made d vs b (insert (map kept_equation_of fs) at (kept_equation_of e)) ≡ made d vs b (map kept_equation_of es)
settled_back d vs b es fs at e h k lt =
    let back : insert fs at e ≡ es = ap (λ x. insert x at e) h ∙ (ap (λ x. insert (remove es at) at x) k ∙ insert_removed es at e lt) in
    ap (λ x. made d vs b x) (sym (map_insert kept_equation_of fs at e) ∙ ap (λ x. map kept_equation_of x) back)
