-- The parts of the text, put together.
use Rattle.std.proofs.Common.{◌≡◌, ℕ, ◌≤◌, List, [], ◌∷◌, ◌++◌, length, take, Option, Some, refl, ap, ap₂, ◌∙◌, arith, length-append}
use Rattle.lf.specs.Syntax.{LfType, Term}
use Rattle.tw_abstract.specs.Generalizing.{generalized, generalized_type}
use Rattle.tw_abstract.specs.Positions.{index}
use Rattle.tw_print.specs.Names.{Scene}
use Rattle.tw_print.specs.Shown.{equal_text}
use Rattle.tw_fixity.specs.Names.{Names as Scope}
use Rattle.tw_shown.specs.Shown.{outside}
use Rattle.lf_unification.specs.Unifiers.{Equation}
use Rattle.tw_equation.specs.Text.{Laid, laid_out, local_types, shown_in_sides, with_locals, meta_names, or_nothing, text_of, equation_text}

taken : (E G : List LfType) → take (length E) (E ++ G) ≡ E
taken [] G = refl
taken (A ∷ E) G = ap (λ X. A ∷ X) (taken E G)

pub locals_fit : (E G C : List LfType) (n : ℕ) → C ≡ E ++ G → n ≡ length E → n ≤ length C
locals_fit E G C n c e =
    let m = ap length c in
    let k = length-append E G in
    omega (arith, e, m, k)

-- what is printed
pub all_shown : (s : Scene) (l : Laid) (names : List (Option (List ℕ))) (E C : List LfType) (M N : Term) (T : LfType) (n : ℕ) (shown further : List ℕ) (first scope : Scope) → C ≡ E ++ l.context → n ≡ length E → shown ≡ shown_in_sides s C M N T → further ≡ outside n shown
    → first ≡ meta_names s l names further → scope ≡ with_locals s (take n C) shown first → equal_text s C scope M N T ≡ text_of s l names E M N T
all_shown s l names E C M N T n shown further first scope c e f g h i =
    let G = E ++ l.context in
    let all = shown_in_sides s G M N T in
    let v : shown ≡ all = f ∙ ap (λ X. shown_in_sides s X M N T) c in
    let o : further ≡ outside (length E) all = g ∙ ap₂ outside e v in
    let t : take n C ≡ E = ap₂ take e c ∙ taken E l.context in
    let k : scope ≡ with_locals s E all (meta_names s l names (outside (length E) all)) =
    i ∙ ap₂ (λ X vs. with_locals s X vs first) t v ∙ ap (with_locals s E all) (h ∙ ap (meta_names s l names) o) in
    ap₂ (λ X ns. equal_text s X ns M N T) c k

-- the text, where all is there
pub text_is : (s : Scene) (metas : List (List LfType × LfType)) (names : List (Option (List ℕ))) (e : Equation) (l : Laid) (E : List LfType) (M N : Term) (T : LfType) → laid_out (length metas) metas (record { order = []; context = [] }) ≡ Some l
    → local_types (index l.order) e.local ≡ Some E → generalized (index l.order) (length e.local) e.left ≡ Some M → generalized (index l.order) (length e.local) e.right ≡ Some N → generalized_type (index l.order) (length e.local) e.of_type ≡ Some T
    → equation_text s metas names e ≡ text_of s l names E M N T
unfolding equation_text
text_is s metas names e l E M N T a b c d t =
    ap (λ o. or_nothing o (λ l. or_nothing (local_types (index l.order) e.local) (λ E. or_nothing (generalized (index l.order) (length e.local) e.left) (λ M. or_nothing (generalized (index l.order) (length e.local) e.right) (λ N. or_nothing (generalized_type (index l.order) (length e.local) e.of_type) (λ T. text_of s l names E M N T)))))) a
    ∙ ap (λ o. or_nothing o (λ E. or_nothing (generalized (index l.order) (length e.local) e.left) (λ M. or_nothing (generalized (index l.order) (length e.local) e.right) (λ N. or_nothing (generalized_type (index l.order) (length e.local) e.of_type) (λ T. text_of s l names E M N T))))) b
    ∙ ap (λ o. or_nothing o (λ M. or_nothing (generalized (index l.order) (length e.local) e.right) (λ N. or_nothing (generalized_type (index l.order) (length e.local) e.of_type) (λ T. text_of s l names E M N T)))) c
    ∙ ap (λ o. or_nothing o (λ N. or_nothing (generalized_type (index l.order) (length e.local) e.of_type) (λ T. text_of s l names E M N T))) d
    ∙ ap (λ o. or_nothing o (λ T. text_of s l names E M N T)) t
