-- Sites in the program's order are in the order of the text.
use Rattle.std.proofs.Common.{◌≡◌, ℕ, ◌+◌, ◌<◌, not, ◌&&◌, ◌||◌, nat_eq, nat_lt, List, [], ◌∷◌, length, get_or, IsSortedBy, is_lt, nat_cmp, sym, ap₂, ◌∙◌, arith}
use Rattle.std.specs.Ordering.{ordering_then}
use Rattle.std.proofs.lemmas.Bool.Decides.{nat_tests}
use Rattle.std.proofs.lemmas.List.{get_or-map, length-map}
use Rattle.lf_elaboration.specs.Sites.{is_site_before}
use Rattle.tw_written.specs.SiteView.{site_of, sites_of}
use Rattle.tw_written.specs.declared.site.Site.{Site}

-- by line, by column, by number
before_same : (a b c d m n : ℕ) → is_lt (ordering_then (nat_cmp a b) (ordering_then (nat_cmp c d) (nat_cmp m n))) ≡ ((nat_lt a b || (nat_eq a b && nat_lt c d)) || (not (nat_lt b a || (nat_eq b a && nat_lt d c)) && nat_lt m n))
before_same a b c d m n = grind (arith, nat_tests)

pub sorted_seen : (xs : List Site) → IsSortedBy (λ x y. is_lt (ordering_then (nat_cmp x.line y.line) (ordering_then (nat_cmp x.column y.column) (nat_cmp x.number y.number)))) xs → IsSortedBy is_site_before (sites_of xs)
sorted_seen [] s k d l h = absurd (omega (arith, h))
sorted_seen (x ∷ xs) s k d l h =
    let n : length (sites_of (x ∷ xs)) ≡ length (x ∷ xs) = length-map (x ∷ xs) site_of in
    let j : k + 1 < length (x ∷ xs) = omega (arith, h, n) in
    let i : k < length (x ∷ xs) = omega (arith, j) in
    let p : Site = get_or (x ∷ xs) (k + 1) x in
    let q : Site = get_or (x ∷ xs) k x in
    ap₂ is_site_before (get_or-map site_of (x ∷ xs) (k + 1) x d j) (get_or-map site_of (x ∷ xs) k x d i) ∙ sym (before_same p.line q.line p.column q.column p.number q.number) ∙ s k x l j
