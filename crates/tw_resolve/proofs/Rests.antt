-- What is left of the list, and the names of rows.
use Rattle.std.proofs.Common.{◌≡◌, ℕ, ◌+◌, ◌<◌, List, [], ◌∷◌, ◌++◌, length, map, reverse, drop, get_or, Option, None, Some, refl, sym, ap, ◌∙◌}
use Rattle.std.proofs.lemmas.List.{map-append, reverse-append, reverse-reverse, length-reverse, length-map, drop_more}
use Rattle.lf.specs.Syntax as lf
use Rattle.tw_approx.specs.Answer.{rows_of}
use Rattle.tw_approx.specs.declared.approximation.Row.{Row}
use Rattle.tw_terms.specs.View.{skeleton_of}
use Rattle.tw_terms.specs.declared.canonical.Skeleton.{Skeleton}
use Rattle.tw_approx.specs.Readings.{found}
use Rattle.tw_resolve.specs.Resolved.{names_of, taken_whole}
use Rattle.tw_resolve.proofs.Spines.{texts}

-- one skeleton less
pub rest_less : (old new : List Skeleton) (s : Skeleton) → old ≡ new ++ s ∷ [] → reverse (map skeleton_of old) ≡ skeleton_of s ∷ reverse (map skeleton_of new)
rest_less old new s e = ap (λ xs. reverse (map skeleton_of xs)) e ∙ ap reverse (map-append skeleton_of new (s ∷ [])) ∙ reverse-append (map skeleton_of new) (skeleton_of s ∷ [])

-- one row more
pub name_more : (rows : List Row) (i : ℕ) (r : Row) → i < length rows → r ≡ get_or rows i r → names_of (rows_of (drop i rows)) ≡ Some r.name ∷ names_of (rows_of (drop (i + 1) rows))
name_more rows i r h e = ap (λ xs. names_of (rows_of xs)) (drop_more rows i r h) ∙ ap (λ (x : Row). Some x.name ∷ names_of (rows_of (drop (i + 1) rows))) (sym e)

-- the list turned round, and back
map_turned : (xs : List Skeleton) → map skeleton_of (reverse xs) ≡ reverse (map skeleton_of xs)
map_turned [] = refl
map_turned (s ∷ xs) =
    ap (map skeleton_of) (reverse-append (s ∷ []) xs) ∙ map-append skeleton_of (reverse xs) (s ∷ []) ∙ ap (λ l. l ++ skeleton_of s ∷ []) (map_turned xs) ∙ sym (reverse-append (skeleton_of s ∷ []) (map skeleton_of xs))

pub turned_back : (xs : List Skeleton) → reverse (map skeleton_of (reverse xs)) ≡ map skeleton_of xs
turned_back xs = ap reverse (map_turned xs) ∙ reverse-reverse (map skeleton_of xs)

-- where something is left, the list isn't taken as a whole
left_over : {A : Type 0} (w : Option A) (p : List lf.Skeleton) → (p ≡ [] → ⊥) → None ≡ taken_whole (found w p)
left_over None p n = refl
left_over (Some a) [] n = absurd (n refl)
left_over (Some a) (s ∷ p) n = refl

pub not_whole : {A : Type 0} (w : Option A) (items : List Skeleton) → (length items ≡ 0 → ⊥) → None ≡ taken_whole (found w (reverse (map skeleton_of items)))
not_whole w items n = left_over w (reverse (map skeleton_of items)) (λ h. n (sym (length-map items skeleton_of) ∙ sym (length-reverse (map skeleton_of items)) ∙ ap length h))

pub ruleset rests = (texts, turned_back)
