-- The quantifiers that are read off a store: which metavariables they are, in which order, and of which types.
use Rattle.std.specs.Prelude.{◌≡◌, ℕ, zero, suc, List, [], ◌∷◌, ◌++◌, length, Option, Some, None}
use Rattle.lf.specs.Subordination.{Member}
use Rattle.lf.specs.Syntax.{LfType, Term}
use Rattle.tw_metas.specs.State.{IsUnbound, State, value_of}
use Rattle.tw_putting.specs.Stores.{Puts, PutsType, types_of}
use Rattle.tw_putting.specs.Whole.{AreDistinct}
use Rattle.tw_abstract.specs.Free.{add_inner}
use Rattle.tw_abstract.specs.Generalizing.{generalized_type}
use Rattle.tw_abstract.specs.Occurrences.{noted, occurrences, type_occurrences}
use Rattle.tw_abstract.specs.Order.{IsOrder, Waiting}
use Rattle.tw_abstract.specs.Positions.{index}

-- the metavariables in the value of m, with all values put in, from the left; one that isn't bound is its own value
abbrev pub ValueHas : State → ℕ → Option Term → List ℕ → Type 0
ValueHas s m None ns = ns ≡ m ∷ []
ValueHas s m (Some N) ns = (N' : Term) × Puts s 0 N N' × (ns ≡ occurrences N')

-- those in the values of the sites, one site after the other
abbrev pub SitesHave : State → List ℕ → List ℕ → Type 0
SitesHave s [] ns = ns ≡ []
SitesHave s (m ∷ ms) ns = (xs ys : List ℕ) × ValueHas s m (value_of s m) xs × SitesHave s ms ys × (ns ≡ xs ++ ys)

-- the metavariables below this number that aren't bound, by number
abbrev pub unbound_below : State → ℕ → List ℕ
unbound_below s zero = []
unbound_below s (suc n) = add_inner (value_of s n) n (unbound_below s n)

-- These are different metavariables of the store, none of which is bound. Where Y alone of X, Y, N is bound, N, X are, and X, X and X, Y aren't.
abbrev pub AreUnbound : State → List ℕ → Type 0
AreUnbound s ms = AreDistinct ms × ((m : ℕ) → Member m ms → IsUnbound s m)

-- The metavariables that become quantifiers, in order of first occurrence: those at the sites, and then the others of the store.
pub record AreFound (s : State) (sites found : List ℕ) : Type 0 where
  pub at_sites : List ℕ
  pub sites_have : SitesHave s sites at_sites
  pub is : found ≡ noted (noted [] at_sites) (unbound_below s (length s.declared))

-- m waits for the metavariables of its type, with the values put in
pub record IsCandidate (s : State) (m : ℕ) (e : Waiting) : Type 0 where
  pub same : e.of ≡ m
  pub of_type : LfType
  pub declared : types_of s m ≡ Some of_type
  pub put : LfType
  pub puts : PutsType s 0 of_type put
  pub needs : e.needs ≡ type_occurrences put

-- each of a list
abbrev pub AreCandidates : State → List ℕ → List Waiting → Type 0
AreCandidates s [] [] = Unit {0}
AreCandidates s [] (e ∷ es) = ⊥
AreCandidates s (m ∷ ms) [] = ⊥
AreCandidates s (m ∷ ms) (e ∷ es) = IsCandidate s m e × AreCandidates s ms es

-- The context of these metavariables, the outermost first in the list: the type of each, with the values put in, over those outside of it.
pub data IsContextOf (s : State) : List ℕ → List LfType → Type 0 where
  no_quantifiers : IsContextOf s [] []
  one_inside : {ms : List ℕ} {G : List LfType} (m : ℕ) {B : LfType} (A A' : LfType) → IsContextOf s ms G → types_of s m ≡ Some A → PutsType s 0 A A' → generalized_type (index ms) 0 A' ≡ Some B → IsContextOf s (ms ++ m ∷ []) (B ∷ G)

-- The quantifiers ms, the outermost first, and their context: of the metavariables that were found repeatedly the first whose needs stand.
pub record AreQuantifiers (s : State) (sites ms : List ℕ) (G : List LfType) : Type 0 where
  pub found : List ℕ
  pub are_found : AreFound s sites found
  pub candidates : List Waiting
  pub are_candidates : AreCandidates s found candidates
  pub in_order : IsOrder candidates ms
  pub context : IsContextOf s ms G
