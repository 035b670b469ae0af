-- Lists of sites and spots as they grow.
use Rattle.std.proofs.Common.{◌≡◌, ℕ, zero, suc, ◌+◌, ◌-◌, ◌<◌, ◌≤◌, List, [], ◌∷◌, ◌++◌, drop, take, get_or, length, map, Some, refl, sym, ap, ◌∙◌, append_assoc, take_all, arith}
use Rattle.lf_elaboration.specs.Sites.{Site, sites_at}
use Rattle.lf_elaboration.specs.Written.{Place}
use Rattle.tw_written.specs.SiteView.{site_of, sites_of}
use Rattle.tw_written.specs.declared.site.Site.{Site as Seen}

-- one more behind those of a place
one_more : (p : Place) (n k : ℕ) → sites_at (Some p) n (suc k) ≡ sites_at (Some p) n k ++ (record { at = p; of = n + k } ∷ [])
one_more p n zero = ap (λ m. record { at = p; of = m } ∷ []) (omega arith)
one_more p n (suc k) =
    let e : suc n + k ≡ n + suc k = omega arith in
    ap (λ (ss : List Site). record { at = p; of = n } ∷ ss) (one_more p (suc n) k ∙ ap (λ m. sites_at (Some p) (suc n) k ++ (record { at = p; of = m } ∷ [])) e)

pub site_added : (os xs ys : List Site) (s : Site) (p : Place) (first number next : ℕ) → first ≤ number → next ≡ suc number → s ≡ record { at = p; of = number } → ys ≡ xs ++ (s ∷ []) → xs ≡ os ++ sites_at (Some p) first (number - first) → ys ≡ os ++ sites_at (Some p) first (next - first)
site_added os xs ys s p first number next l n e y x =
    let k = number - first in
    let i : number ≡ first + k = omega (arith, l) in
    let j : next - first ≡ suc k = omega (arith, l, n) in
    let h : s ≡ record { at = p; of = first + k } = e ∙ ap (λ m. record { at = p; of = m }) i in
    y ∙ ap (λ zs. zs ++ (s ∷ [])) x ∙ append_assoc os (sites_at (Some p) first k) (s ∷ []) ∙ ap (λ z. os ++ (sites_at (Some p) first k ++ (z ∷ []))) h ∙ ap (λ zs. os ++ zs) (sym (one_more p first k)) ∙ ap (λ m. os ++ sites_at (Some p) first m) (sym j)

-- the sites from the one before on
pub one_before : (ss : List Seen) (i j : ℕ) (d : Seen) → i < length ss → j ≡ suc i → site_of (get_or ss i d) ∷ sites_of (drop j ss) ≡ sites_of (drop i ss)
one_before [] i j d h e = absurd (omega (arith, h))
one_before (s ∷ ss) zero j d h e = ap (λ k. site_of s ∷ sites_of (drop k (s ∷ ss))) e
one_before (s ∷ ss) (suc i) j d h e = ap (λ k. site_of (get_or ss i d) ∷ sites_of (drop k (s ∷ ss))) e ∙ one_before ss i (suc i) d (omega (arith, h)) refl

-- the numbers of the sites
numbers_are : (ss : List Seen) → map (λ s. s.number) ss ≡ map (λ s. s.of) (sites_of ss)
numbers_are [] = refl
numbers_are (s ∷ ss) = ap (λ ns. s.number ∷ ns) (numbers_are ss)

pub numbers_seen : (ss : List Seen) (i : ℕ) → length ss ≤ i → map (λ s. s.number) (take i ss) ≡ map (λ s. s.of) (sites_of ss)
numbers_seen ss i h = ap (map (λ s. s.number)) (take_all i ss h) ∙ numbers_are ss
