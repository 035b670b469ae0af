-- The end of the loop over the quantifiers.
use Rattle.std.proofs.Common.{◌≡◌, ℕ, zero, suc, ◌-◌, ◌≤◌, List, [], ◌∷◌, ◌++◌, length, drop, get_or, map, reverse, length-drop, refl, sym, ap, ap₂, ◌∙◌, arith}
use Rattle.std.specs.Prelude.{Bool, cond}
use Rattle.std.proofs.lemmas.List.{reverse-append}
use Rattle.lf.specs.Syntax.{LfType, Spine, atom, rename_spine}
use Rattle.lf.specs.Variables.{target, target_arguments, everything}
use Rattle.lf_checks.specs.Clause.{is_variable}
use Rattle.lf_checks.specs.Parts.{Parts, shape, count_below}
use Rattle.tw_clause.specs.Numbers.{counts_from, renumber}
use Rattle.tw_clause.specs.View.{type_parts}
use Rattle.tw_clause.proofs.Walks.{more_variables, more_subgoals, variables_taken, subgoals_taken, head_taken}

pub counts_length : (m : ℕ) (bs : List Bool) → length (counts_from m bs) ≡ suc (length bs)
counts_length m [] = refl
counts_length m (b ∷ bs) = ap suc (counts_length (cond b (suc m) m) bs)

-- at the end no quantifier is left
pub level_at_end : (bs : List Bool) (l a : ℕ) (C : LfType) (S : Spine) → l ≤ length bs → C ≡ atom a S → drop l bs ≡ shape C → l ≡ length bs
level_at_end bs l a C S h e r = let k : length bs - l ≡ zero = sym (length-drop l bs) ∙ ap length (r ∙ ap shape e) in omega (arith, h, k)

map_append : {X Y : Type 0} (f : X → Y) (xs ys : List X) → map f (xs ++ ys) ≡ map f xs ++ map f ys
map_append f [] ys = refl
map_append f (x ∷ xs) ys = ap (λ zs. f x ∷ zs) (map_append f xs ys)

pub map_reversed : {X Y : Type 0} (f : X → Y) (xs : List X) → map f (reverse xs) ≡ reverse (map f xs)
map_reversed f [] = refl
map_reversed f (x ∷ xs) = ap (map f) (reverse-append (x ∷ []) xs) ∙ map_append f (reverse xs) (x ∷ []) ∙ ap (λ ys. ys ++ f x ∷ []) (map_reversed f xs) ∙ sym (reverse-append (f x ∷ []) (map f xs))

abbrev pub parts_from : List LfType → List Bool → ℕ → Spine → List LfType → Parts
parts_from vs bs f H gs = record { variables = vs; shape = bs; family = f; head = H; subgoals = gs }

pub parts_read : (T C : LfType) (before : List ℕ) (bs : List Bool) (l f : ℕ) (S H : Spine) (vs gs : List LfType) → bs ≡ shape T → before ≡ counts_from 0 bs → C ≡ atom f S → l ≡ length bs → more_variables before l C vs ≡ more_variables before 0 T [] → more_subgoals before (length bs) l C gs ≡ more_subgoals before (length bs) 0 T [] → target C ≡ target T → target_arguments C ≡ target_arguments T → H ≡ rename_spine (renumber before l (get_or before l 0)) S → parts_from vs bs f H gs ≡ type_parts T
parts_read T C before bs l f S H vs gs sh be e le hv hg hf ha hh =
    let start : before ≡ counts_from 0 (shape T) = be ∙ ap (counts_from 0) sh in
    let vars : vs ≡ more_variables (counts_from 0 (shape T)) 0 T [] = sym (ap (λ X. more_variables before l X vs) e) ∙ hv ∙ ap (λ ns. more_variables ns 0 T []) start in
    let subs : gs ≡ more_subgoals (counts_from 0 (shape T)) (length (shape T)) 0 T [] = sym (ap (λ X. more_subgoals before (length bs) l X gs) e) ∙ hg ∙ ap₂ (λ ns n. more_subgoals ns n 0 T []) start (ap length sh) in
    let family : f ≡ target T = sym (ap target e) ∙ hf in
    let args : S ≡ target_arguments T = sym (ap target_arguments e) ∙ ha in
    let head : H ≡ rename_spine (count_below (is_variable everything T)) (target_arguments T) = hh ∙ ap₂ (λ ns X. rename_spine (renumber ns l (get_or ns l 0)) X) start args ∙ head_taken T l (target_arguments T) (le ∙ ap length sh) in
    all family head (vars ∙ variables_taken T []) (subs ∙ subgoals_taken T [])
  where
    all : f ≡ target T → H ≡ rename_spine (count_below (is_variable everything T)) (target_arguments T) → vs ≡ (type_parts T).variables → gs ≡ (type_parts T).subgoals → parts_from vs bs f H gs ≡ type_parts T
    all p q r s = ap₂ (λ X Y. parts_from X bs f H Y) r s ∙ ap₂ (λ b n. parts_from (type_parts T).variables b n H (type_parts T).subgoals) sh p ∙ ap (λ X. parts_from (type_parts T).variables (shape T) (target T) X (type_parts T).subgoals) q
