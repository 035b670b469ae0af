-- Candidates by number beside a set of families, and what they take: both look at skeletons alone.
use Rattle.std.proofs.Common.{◌≡◌, ℕ, List, [], ◌∷◌, refl, sym, ap, ap₂, ◌∙◌, subst}
use Rattle.std.specs.Prelude.{Bool, true, false}
use Rattle.lf.specs.Syntax.{LfType, Kind, pi, atom, kind_pi, star, Skeleton, base, arrow, skeleton}
use Rattle.lf.specs.Skeletons.{constant_skeletons}
use Rattle.lf.specs.Typing.{Signature}
use Rattle.lf.specs.Variables.{FamiliesIn}
use Rattle.lf.specs.Subordination.{below_in_constant, below_in_entry, below_in_kind}
use Rattle.lf_cases.specs.Case.{covered_places}
use Rattle.lf_coverage.specs.Calls.{LocalsIn, PlacesIn}
use Rattle.lf_coverage.specs.Subordinate.{QuantifiersAreBelow, AllQuantifiersAreBelow}
use Rattle.lf_coverage.proofs.Parts.{some_same}
use Rattle.lf_coverage.proofs.Subordinate.{quantified}
use Rattle.lf_coverage.proofs.SubordinateItems.{KindIsBelow, kind_is_below}
use Rattle.lf_numbered.specs.EntryConstants.{with_entries}
use Rattle.lf_numbered.specs.NumberedBeside.{TakesBelow, TakesIn}
use Rattle.lf_numbered.specs.NumberedCandidates.{NumberedCandidateIsInSet, NumberedCandidateTakesBelow}
use Rattle.lf_numbered.specs.OwnTerms.{blocks_of}
use Rattle.lf_numbered.proofs.NumberedCandidatesFound.{PlacesHave, each_candidate}
use Rattle.lf_numbered.proofs.NumberedCandidatesPlaces.{LocalHave}
use Rattle.lf_numbered.proofs.NumberedCandidatesWalk.{Takes}
use Rattle.lf_numbered.proofs.WritingLow.{skeleton_target, target_is}

-- The families in a skeleton
module _ (S : ℕ → Bool) where
  abbrev In : Skeleton → Type 0
  In (arrow a b) = In a × In b
  In (base c) = S c ≡ true

  own_in : (t : Skeleton) → In t → S (skeleton_target t) ≡ true
  own_in (arrow a b) (h, k) = own_in b k
  own_in (base c) h = h

  to_in : (A : LfType) → FamiliesIn S A → In (skeleton A)
  to_in (pi A B) (a, b) = (to_in A a, to_in B b)
  to_in (atom a T) h = h

  from_in : (A : LfType) → In (skeleton A) → FamiliesIn S A
  from_in (pi A B) (a, b) = (from_in A a, from_in B b)
  from_in (atom a T) h = h

  places_in : (bs : List Bool) (K : Kind) → PlacesIn S bs K → PlacesHave S In (λ a b h. h) own_in bs K
  places_in [] K p = tt
  places_in (b ∷ bs) star p = tt
  places_in (true ∷ bs) (kind_pi A K) (a, p) = (to_in A a, places_in bs K p)
  places_in (false ∷ bs) (kind_pi A K) p = places_in bs K p

  module _ (Σ : Signature) where
    locals_in : (L : List LfType) → LocalsIn S L → LocalHave (constant_skeletons Σ) S In (λ a b h. h) own_in L
    locals_in [] l = tt
    locals_in (A ∷ L) (a, l) = ((λ o. to_in A (a (ap S (target_is A) ∙ o))), locals_in L l)

    takes_in : (X : LfType) → Takes (constant_skeletons Σ) S In (λ a b h. h) own_in (skeleton X) → TakesIn S X
    takes_in (pi A B) (a, b) = ((λ o. from_in A (a (ap S (sym (target_is A)) ∙ o))), takes_in B b)
    takes_in (atom a T) h = h

pub numbered_candidate_is_in_set : NumberedCandidateIsInSet
numbered_candidate_is_in_set Σ W first free S C q p tb same b x m X at =
    takes_in S (with_entries Σ first (blocks_of C.blocks)) X
    (each_candidate S (In S) (λ a b h. h) (own_in S) Σ W first free (λ c Y e o. to_in S Y (b.self_contained.types_in c Y e (ap S (target_is Y) ∙ o))) (λ B E i j o. to_in S E (b.self_contained.entries_in B E i j (ap S (target_is E) ∙ o))) C q p tb same (locals_in S (with_entries Σ first (blocks_of C.blocks)) C.local b.locals) (places_in S (covered_places C.arguments) tb.beside.kind (subst (PlacesIn S (covered_places C.arguments)) (some_same (sym b.of_family ∙ tb.beside.of_family)) b.places)) x m X at)

-- What is quantified in a skeleton
module _ (below : ℕ → ℕ → Bool) where
  abbrev Low : Skeleton → Type 0
  Low (arrow a b) = (below (skeleton_target b) (skeleton_target a) ≡ true) × Low a × Low b
  Low (base c) = Unit {0}

  abbrev any : ℕ → Bool
  any a = true

  low_parts : (a b : Skeleton) → Low (arrow a b) → Low a × Low b
  low_parts a b (q, h, k) = (h, k)

  to_low : (A : LfType) → QuantifiersAreBelow below A → Low (skeleton A)
  to_low (pi A B) (q, a, b) = (ap₂ below (sym (target_is B)) (sym (target_is A)) ∙ q, to_low A a, to_low B b)
  to_low (atom a T) q = tt

  from_low : (A : LfType) → Low (skeleton A) → QuantifiersAreBelow below A
  from_low (pi A B) (q, a, b) = (ap₂ below (target_is B) (target_is A) ∙ q, from_low A a, from_low B b)
  from_low (atom a T) q = tt

  places_low : (bs : List Bool) (K : Kind) → KindIsBelow below K → PlacesHave any Low low_parts (λ t h. refl) bs K
  places_low [] K p = tt
  places_low (b ∷ bs) star p = tt
  places_low (true ∷ bs) (kind_pi A K) (a, p) = (to_low A a, places_low bs K p)
  places_low (false ∷ bs) (kind_pi A K) (a, p) = places_low bs K p

  module _ (Σ : Signature) where
    locals_low : (L : List LfType) → AllQuantifiersAreBelow below L → LocalHave (constant_skeletons Σ) any Low low_parts (λ t h. refl) L
    locals_low [] l = tt
    locals_low (A ∷ L) (a, l) = ((λ o. to_low A a), locals_low L l)

    takes_low : (X : LfType) → Takes (constant_skeletons Σ) any Low low_parts (λ t h. refl) (skeleton X) → TakesBelow below X
    takes_low (pi A B) (a, b) = (from_low A (a refl), takes_low B b)
    takes_low (atom a T) h = tt

pub numbered_candidate_takes_below : NumberedCandidateTakesBelow
numbered_candidate_takes_below Σ W first free below test C q p tb same local x m X at =
    takes_low below (with_entries Σ first (blocks_of C.blocks)) X
    (each_candidate (any below) (Low below) (low_parts below) (λ t h. refl) Σ W first free
    (λ c Y e o. to_low below Y (quantified below Y (λ a b z. (test b a).1 (below_in_constant c Y e z))))
    (λ B E i j o. to_low below E (quantified below E (λ a b z. (test b a).1 (below_in_entry B E i j z))))
    C q p tb same (locals_low below (with_entries Σ first (blocks_of C.blocks)) C.local local)
    (places_low below (covered_places C.arguments) tb.beside.kind (kind_is_below below C.family tb.beside.kind (λ b e z. (test e b).1 (below_in_kind C.family tb.beside.kind tb.beside.of_family z)))) x m X at)
