-- What the loop over the quantifiers collects is what the parts of the clause have.
use Rattle.std.proofs.Common.{◌≡◌, ℕ, zero, suc, ◌+◌, List, [], ◌∷◌, ◌++◌, length, get_or, length-append, refl, sym, ap, ap₂, ◌∙◌, subst, arith}
use Rattle.std.specs.Prelude.{Bool, true, false, cond, Some}
use Rattle.std.proofs.lemmas.List.{append_assoc}
use mathlib.Core.Path.{fun_ext}
use Rattle.lf.specs.AtOnce.{shift_by}
use Rattle.lf.specs.Entries.{quantifiers}
use Rattle.lf.specs.Syntax.{LfType, pi, atom, rename_type, rename_spine, weaken, Spine}
use Rattle.lf.specs.Variables.{binders, everything}
use Rattle.lf.proofs.TypeLaws.{renamings_compose_type}
use Rattle.lf_unification.specs.Search.{occurs_type}
use Rattle.lf_checks.specs.Clause.{is_variable, with_newest}
use Rattle.lf_checks.specs.Parts.{count_below, kept_types, shape, subgoals_among, type_at, types_at, weakened, with_subgoal}
use Rattle.tw_clause.specs.Numbers.{counts_from, renumber}
use Rattle.tw_clause.proofs.Numbering.{scoped, scoped_shape, scoped_more, number_in_scope, number_so_far}

-- the variables, with those so far
abbrev pub more_variables : List ℕ → ℕ → LfType → List LfType → List LfType
more_variables before l (pi A B) G = more_variables before (suc l) B (cond (occurs_type zero B) (rename_type (renumber before l (get_or before l 0)) A ∷ G) G)
more_variables before l (atom a S) G = G

-- the subgoals, with those so far
abbrev pub more_subgoals : List ℕ → ℕ → ℕ → LfType → List LfType → List LfType
more_subgoals before n l (pi A B) gs = more_subgoals before n (suc l) B (cond (occurs_type zero B) gs (rename_type (renumber before l (get_or before n 0)) A ∷ gs))
more_subgoals before n l (atom a S) gs = gs

pub shape_length : (A : LfType) → length (shape A) ≡ quantifiers A
shape_length (pi A B) = ap suc (shape_length B)
shape_length (atom a S) = refl

-- The variables.

variables_kept : (bs done : List Bool) (A : LfType) (l : ℕ) (G acc : List LfType) → bs ≡ done ++ shape A → l ≡ length done → acc ≡ kept_types (scoped everything done) l G → more_variables (counts_from 0 bs) l A acc ≡ kept_types (is_variable (scoped everything done) A) (quantifiers A + l) (binders G A)
variables_kept bs done (pi A B) l G acc e n h =
    subst (λ V. more_variables (counts_from 0 bs) (suc l) B (next o acc) ≡ kept_types (is_variable V B) (quantifiers B + suc l) (binders (A ∷ G) B)) (scoped_more everything done o) (variables_kept bs (done ++ o ∷ []) B (suc l) (A ∷ G) (next o acc) (e ∙ sym (append_assoc done (o ∷ []) (shape B))) longer (taken ∙ ap (λ V. kept_types V (suc l) (A ∷ G)) (sym (scoped_more everything done o))))
    ∙ ap (λ k. kept_types (is_variable (with_newest o (scoped everything done)) B) k (binders (A ∷ G) B)) (let q : quantifiers B + suc l ≡ suc (quantifiers B) + l = omega arith in q)
  where
    o : Bool
    o = occurs_type zero B

    ρ : ℕ → ℕ
    ρ = renumber (counts_from 0 bs) l (get_or (counts_from 0 bs) l 0)

    next : Bool → List LfType → List LfType
    next b xs = cond b (rename_type ρ A ∷ xs) xs

    longer : suc l ≡ length (done ++ o ∷ [])
    longer = let k = length-append done (o ∷ []) in omega (arith, k, n)

    same : ρ ≡ count_below (scoped everything done)
    same = fun_ext (λ i. subst (λ k. renumber (counts_from 0 bs) k (get_or (counts_from 0 bs) k 0) i ≡ count_below (scoped everything done) i) (sym n) (subst (λ xs. renumber (counts_from 0 xs) (length done) (get_or (counts_from 0 xs) (length done) 0) i ≡ count_below (scoped everything done) i) (sym e) (number_so_far done (shape (pi A B)) i)))

    taken : next o acc ≡ kept_types (with_newest o (scoped everything done)) (suc l) (A ∷ G)
    taken = ap₂ (λ r xs. cond o (rename_type r A ∷ xs) xs) same h
variables_kept bs done (atom a S) l G acc e n h = h ∙ ap (λ k. kept_types (scoped everything done) k G) (let q : l ≡ zero + l = omega arith in q)

pub variables_taken : (A : LfType) (G : List LfType) → more_variables (counts_from 0 (shape A)) zero A [] ≡ kept_types (is_variable everything A) (quantifiers A) (binders G A)
variables_taken A G = variables_kept (shape A) [] A zero G [] refl refl refl ∙ ap (λ k. kept_types (is_variable everything A) k (binders G A)) (let q : quantifiers A + zero ≡ quantifiers A = omega arith in q)

-- The subgoals.

-- past the quantifiers of a type
pub at_quantifier : (B : LfType) (V : ℕ → Bool) (i : ℕ) → is_variable V B (quantifiers B + i) ≡ V i
at_quantifier (pi A B) V i = ap (is_variable (with_newest (occurs_type zero B) V) B) (let q : suc (quantifiers B) + i ≡ quantifiers B + suc i = omega arith in q) ∙ at_quantifier B (with_newest (occurs_type zero B) V) (suc i)
at_quantifier (atom a S) V i = ap V (let q : zero + i ≡ i = omega arith in q)

pub moved : (q : ℕ) (X : LfType) → rename_type (shift_by q) (weaken X) ≡ rename_type (shift_by (suc q)) X
moved q X = renamings_compose_type (shift_by q) suc X ∙ ap (λ r. rename_type r X) (fun_ext (λ i. let e : suc i + q ≡ i + suc q = omega arith in e))

unmoved : (X : LfType) → rename_type (shift_by zero) (weaken X) ≡ weaken X
unmoved X = renamings_compose_type (shift_by zero) suc X ∙ ap (λ r. rename_type r X) (fun_ext (λ i. let e : suc i + zero ≡ suc i = omega arith in e))

pub type_past : (B : LfType) (G : List LfType) (i : ℕ) (X : LfType) → type_at G i ≡ Some (weaken X) → type_at (binders G B) (quantifiers B + i) ≡ Some (rename_type (shift_by (quantifiers B)) (weaken X))
type_past (pi A B) G i X e =
    ap (type_at (binders (A ∷ G) B)) (let q : suc (quantifiers B) + i ≡ quantifiers B + suc i = omega arith in q)
    ∙ type_past B (A ∷ G) (suc i) (weaken X) (ap weakened e)
    ∙ ap Some (moved (quantifiers B) (weaken X))
type_past (atom a S) G i X e = ap (type_at G) (let q : zero + i ≡ i = omega arith in q) ∙ e ∙ ap Some (sym (unmoved X))

subgoals_kept : (W : ℕ → Bool) (C : List LfType) (bs done : List Bool) (A : LfType) (l : ℕ) (G gs : List LfType) → bs ≡ done ++ shape A → l ≡ length done → W ≡ is_variable (scoped everything done) A → W ≡ scoped everything bs → C ≡ binders G A → gs ≡ types_at (count_below W) C (subgoals_among W l (quantifiers A)) → more_subgoals (counts_from 0 bs) (length bs) l A gs ≡ types_at (count_below W) C (subgoals_among W (quantifiers A + l) zero)
subgoals_kept W C bs done (pi A B) l G gs e n w v c h =
    subgoals_kept W C bs (done ++ o ∷ []) B (suc l) (A ∷ G) (cond o gs (rename_type ρ A ∷ gs)) (e ∙ sym (append_assoc done (o ∷ []) (shape B))) longer (w ∙ ap (λ V. is_variable V B) (sym (scoped_more everything done o))) v c (taken o at_it)
    ∙ ap (λ k. types_at (count_below W) C (subgoals_among W k zero)) (let q : quantifiers B + suc l ≡ suc (quantifiers B) + l = omega arith in q)
  where
    o : Bool
    o = occurs_type zero B

    ρ : ℕ → ℕ
    ρ = renumber (counts_from 0 bs) l (get_or (counts_from 0 bs) (length bs) 0)

    longer : suc l ≡ length (done ++ o ∷ [])
    longer = let k = length-append done (o ∷ []) in omega (arith, k, n)

    L : List ℕ
    L = subgoals_among W l (suc (quantifiers B))

    at_it : W (quantifiers B) ≡ o
    at_it = ap (λ V. V (quantifiers B)) w ∙ ap (is_variable (with_newest o (scoped everything done)) B) (let q : quantifiers B ≡ quantifiers B + zero = omega arith in q) ∙ at_quantifier B (with_newest o (scoped everything done)) zero

    type_there : type_at C (quantifiers B) ≡ Some (rename_type (shift_by (quantifiers B)) (weaken A))
    type_there = ap (λ X. type_at X (quantifiers B)) c ∙ ap (type_at (binders (A ∷ G) B)) (let q : quantifiers B ≡ quantifiers B + zero = omega arith in q) ∙ type_past B (A ∷ G) zero A refl

    place : l + suc (quantifiers B) ≡ length bs
    place = let k = length-append done (shape (pi A B)) in let s = shape_length B in let b = ap length e in omega (arith, k, s, b, n)

    same : ρ ≡ (λ i. count_below W (suc i + quantifiers B))
    same = fun_ext (λ i. number_in_scope bs l (suc (quantifiers B)) i place ∙ ap (λ V. count_below V (i + suc (quantifiers B))) (sym v) ∙ ap (count_below W) (let q : i + suc (quantifiers B) ≡ suc i + quantifiers B = omega arith in q))

    renamed : rename_type (count_below W) (rename_type (shift_by (quantifiers B)) (weaken A)) ≡ rename_type ρ A
    renamed = ap (rename_type (count_below W)) (renamings_compose_type (shift_by (quantifiers B)) suc A) ∙ renamings_compose_type (count_below W) (λ i. suc i + quantifiers B) A ∙ ap (λ r. rename_type r A) (sym same)

    taken : (b : Bool) → W (quantifiers B) ≡ b → cond b gs (rename_type ρ A ∷ gs) ≡ types_at (count_below W) C (cond (W (quantifiers B)) L (quantifiers B ∷ L))
    taken true r = h ∙ ap (λ b. types_at (count_below W) C (cond b L (quantifiers B ∷ L))) (sym r)
    taken false r = ap₂ (λ X xs. X ∷ xs) (sym renamed) h ∙ ap (λ O. with_subgoal (count_below W) O (types_at (count_below W) C L)) (sym type_there) ∙ ap (λ b. types_at (count_below W) C (cond b L (quantifiers B ∷ L))) (sym r)
subgoals_kept W C bs done (atom a S) l G gs e n w v c h = h ∙ ap (λ k. types_at (count_below W) C (subgoals_among W k zero)) (let q : l ≡ zero + l = omega arith in q)

pub subgoals_taken : (A : LfType) (G : List LfType) → more_subgoals (counts_from 0 (shape A)) (length (shape A)) zero A [] ≡ types_at (count_below (is_variable everything A)) (binders G A) (subgoals_among (is_variable everything A) (quantifiers A) zero)
subgoals_taken A G = subgoals_kept (is_variable everything A) (binders G A) (shape A) [] A zero G [] refl refl refl (scoped_shape everything A) refl refl ∙ ap (λ k. types_at (count_below (is_variable everything A)) (binders G A) (subgoals_among (is_variable everything A) k zero)) (let q : quantifiers A + zero ≡ quantifiers A = omega arith in q)

-- The head stands inside all quantifiers.
pub head_taken : (A : LfType) (l : ℕ) (S : Spine) → l ≡ length (shape A) → rename_spine (renumber (counts_from 0 (shape A)) l (get_or (counts_from 0 (shape A)) l 0)) S ≡ rename_spine (count_below (is_variable everything A)) S
head_taken A l S e = ap (λ r. rename_spine r S) (fun_ext (λ i. ap (λ k. renumber (counts_from 0 (shape A)) k (get_or (counts_from 0 (shape A)) k 0) i) e ∙ number_in_scope (shape A) (length (shape A)) zero i (omega arith) ∙ ap (count_below (scoped everything (shape A))) (let q : i + zero ≡ i = omega arith in q) ∙ ap (λ V. count_below V i) (sym (scoped_shape everything A))))
