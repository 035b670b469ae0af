-- What holds of each block of a list holds with one more that it holds of.
use Rattle.std.proofs.Common.{◌≡◌, List, [], ◌∷◌, ◌++◌, map, sym, ap, ◌∙◌, subst, inl, inr}
use Rattle.std.specs.Prelude.{◌⊎◌}
use Rattle.std.proofs.lemmas.List.{map-append}
use Rattle.lf.specs.Subordination.{Block, Member}
use Rattle.lf_checks.proofs.Listed.{member_either}

pub one_pushed : {X : Type 0} (f : X → Block) (P : Block → Type 0) (old new : List X) (b : X) → new ≡ old ++ b ∷ [] → ((B : Block) → Member B (map f old) → P B) → P (f b) → (B : Block) → Member B (map f new) → P B
one_pushed f P old new b e all p B m = by (member_either B (map f old) (f b ∷ []) (subst (Member B) (ap (map f) e ∙ map-append f old (b ∷ [])) m))
  where
    by : Member B (map f old) ⊎ Member B (f b ∷ []) → P B
    by (inl k) = all B k
    by (inr (inl q)) = subst P (sym q) p
    by (inr (inr z)) = absurd z
