-- Links, pair by pair.
use Rattle.std.proofs.Common.{◌≡◌, ◌<◌, ◌++◌, ◌+◌, ◌∙◌, ℕ, List, [], ◌∷◌, take, get_or, length, Vec, Contains, ◌↔◌, inl, inr, sym, ap, subst}
use Rattle.std.specs.Global.{Global}
use Rattle.std.proofs.lemmas.List.{take_more}
use Rattle.std.proofs.lemmas.List.Elements.{Contains-append_left, Contains-push, Contains-push_cases}
use Rattle.tw_subord.specs.Pairs.{pairs_of}
use Rattle.tw_subord.specs.Rows.{row, rows_of, with_link}
use Rattle.tw_subord.specs.declared.pairs.Pair.{Pair}
use Rattle.tw_subord.proofs.Quantifiers.{nothing, pair_of, pairs_of-push}
use Rattle.tw_subord.proofs.Rows.{in_linked}

pub no_links : (old new : List (Vec ℕ Global)) → old ≡ [] → ((b : ℕ) → row (rows_of new) b ≡ row (rows_of old) b) → (a b : ℕ) → (Contains (row (rows_of new) b) a) ↔ Contains {X = ℕ × ℕ} [] (a, b)
no_links old new e s a b = (λ h. absurd (nothing a (subst (λ xs. Contains xs a) (s b ∙ ap (λ vs. row (rows_of vs) b) e) h)), λ h. absurd (nothing (a, b) h))

pub one_link_more : (ps : List Pair) (i : ℕ) (d p : Pair) (old new : List (List ℕ)) → i < length ps → p ≡ get_or ps i d → ((a b : ℕ) → (Contains (row old b) a) ↔ Contains (pairs_of (take i ps)) (a, b)) → ((b : ℕ) → row new b ≡ with_link old p.below p.above b) → (a b : ℕ) → (Contains (row new b) a) ↔ Contains (pairs_of (take (i + 1) ps)) (a, b)
one_link_more ps i d p old new l q h s a b = (yes, no)
  where
    more : pairs_of (take (i + 1) ps) ≡ pairs_of (take i ps) ++ (p.below, p.above) ∷ []
    more = ap pairs_of (take_more ps i d l) ∙ (pairs_of-push (take i ps) (get_or ps i d) ∙ ap (λ (x : Pair). pairs_of (take i ps) ++ (x.below, x.above) ∷ []) (sym q))

    yes : Contains (row new b) a → Contains (pairs_of (take (i + 1) ps)) (a, b)
    yes k = elim ((in_linked old p.below p.above a b).0 (subst (λ xs. Contains xs a) (s b) k)) [
      | inl g ↦ subst (λ xs. Contains xs (a, b)) (sym more) (Contains-append_left (pairs_of (take i ps)) ((p.below, p.above) ∷ []) (a, b) ((h a b).0 g))
      | inr e ↦ subst (λ xs. Contains xs (a, b)) (sym more) (subst (Contains (pairs_of (take i ps) ++ (p.below, p.above) ∷ [])) (pair_of e.0 e.1) (Contains-push (pairs_of (take i ps)) (p.below, p.above)))
    ]

    no : Contains (pairs_of (take (i + 1) ps)) (a, b) → Contains (row new b) a
    no k = subst (λ xs. Contains xs a) (sym (s b)) ((in_linked old p.below p.above a b).1 (elim (Contains-push_cases (pairs_of (take i ps)) (p.below, p.above) (a, b) (subst (λ xs. Contains xs (a, b)) more k)) [
      | inl g ↦ inl ((h a b).1 g)
      | inr e ↦ inr (ap (λ r. r.0) e, ap (λ r. r.1) e)
    ]))
