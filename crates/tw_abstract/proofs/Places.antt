-- Levels in a table.
use Rattle.std.proofs.Common.{◌≡◌, ℕ, suc, List, [], ◌∷◌, ◌++◌, length, length-append, map, Option, Some, None, Bool, true, false, cond, nat_eq, refl, sym, ap, ◌∙◌, subst, arith}
use Rattle.std.proofs.lemmas.Bool.Decides.{Decides-eqb}
use Rattle.std.proofs.lemmas.List.{length-map, map-append}
use Rattle.tw_terms.specs.declared.canonical.MetaId.{MetaId}
use Rattle.tw_abstract.specs.Levels.{HasLevels, IsAtLevel}
use Rattle.tw_abstract.specs.Positions.{index}
use Rattle.tw_abstract.proofs.Index.{index_innermost, index_none, index_outer}

-- one metavariable more
levels_pushed : (ns : List ℕ) (table table' : ℕ → Option ℕ) (n : ℕ) → ((m : ℕ) → table' m ≡ cond (nat_eq n m) (Some (length ns)) (table m)) → HasLevels ns table → HasLevels (ns ++ n ∷ []) table'
levels_pushed ns table table' n u h m = subst (IsAtLevel (length (ns ++ n ∷ [])) (index (ns ++ n ∷ []) m)) (sym (u m)) (go (nat_eq n m) refl)
  where
    count : length (ns ++ n ∷ []) ≡ suc (length ns)
    count = omega (arith, length-append ns (n ∷ []))

    other : (r s : Option ℕ) → index ns m ≡ r → (m ≡ n → ⊥) → IsAtLevel (length ns) r s → IsAtLevel (length (ns ++ n ∷ [])) (index (ns ++ n ∷ []) m) s
    other None None e k a = subst (λ r. IsAtLevel (length (ns ++ n ∷ [])) r None) (sym (index_none ns n m k e)) tt
    other None (Some l) e k a = absurd a
    other (Some i) None e k a = absurd a
    other (Some i) (Some l) e k a = subst (λ r. IsAtLevel (length (ns ++ n ∷ [])) r (Some l)) (sym (index_outer ns n m i k e)) (omega (arith, length-append ns (n ∷ []), a))

    go : (b : Bool) → nat_eq n m ≡ b → IsAtLevel (length (ns ++ n ∷ [])) (index (ns ++ n ∷ []) m) (cond b (Some (length ns)) (table m))
    go true t =
        let q : n ≡ m = (Decides-eqb n m).0 t in
        subst (λ r. IsAtLevel (length (ns ++ n ∷ [])) r (Some (length ns))) (sym (index_innermost ns n) ∙ ap (index (ns ++ n ∷ [])) q) (omega (arith, length-append ns (n ∷ [])))
    go false t = other (index ns m) (table m) refl (λ q. let z : false ≡ true = sym t ∙ (Decides-eqb n m).1 (sym q) in absurd cc) (h m)

pub metavariable_pushed : (ms ms' : List MetaId) (n : MetaId) (table table' : ℕ → Option ℕ) (count : ℕ) → ms' ≡ ms ++ n ∷ [] → count ≡ length ms → ((m : ℕ) → table' m ≡ cond (nat_eq n.0 m) (Some count) (table m)) → HasLevels (map (λ m. m.0) ms) table → HasLevels (map (λ m. m.0) ms') table'
metavariable_pushed ms ms' n table table' count e c u h =
    let ns : List ℕ = map (λ m. m.0) ms in
    let d : count ≡ length ns = c ∙ sym (length-map {A = MetaId} {B = ℕ} ms (λ m. m.0)) in
    let f : ns ++ n.0 ∷ [] ≡ map (λ m. m.0) ms' = sym (ap (map {A = MetaId} {B = ℕ} (λ m. m.0)) e ∙ map-append (λ m. m.0) ms (n ∷ [])) in
    subst (λ ks. HasLevels ks table') f (levels_pushed ns table table' n.0 (λ m. u m ∙ ap (λ k. cond (nat_eq n.0 m) (Some k) (table m)) d) h)
