-- Where the metavariables of a declaration stand in its text. Elaboration makes them in the order of its walk, and so their numbers tell where each was made: at a hole, at the constant
-- or family whose implicit argument it is, or at the binder that has no type. A free variable, and what its type leaves open, stand where the variable first occurs.
use Rattle.std.specs.Prelude.{◌≡◌, ℕ, zero, suc, ◌+◌, List, [], ◌∷◌, ◌++◌, map, Bool, true, false, ◌&&◌, ◌||◌, not, nat_eq, nat_lt, Option, Some, None, IsPermutation, IsSortedBy, if◌then◌else◌}
use Rattle.lf.specs.Entries.{Entry, entry, kind_quantifiers, signature_of}
use Rattle.lf.specs.Syntax.{Kind, Skeleton, arrow as arrow_skeleton, base}
use Rattle.lf_elaboration.specs.Principal.{WrittenBody, written_constant, written_definition, written_definition_of, written_family}
use Rattle.lf_elaboration.specs.Written.{Place, Written, WrittenDomain, WrittenKind, WrittenType, applied, arrow, ascribed, bound, declared, family, family_applied, family_ascribed, free, function, hole, kind_arrow, kind_quantified, of_skeleton, of_type, quantified, type_hole, written_star}

-- so many metavariables are made at a place; it is none for a free variable that doesn't occur
pub record Spot : Type 0 where
  pub at : Option Place
  pub count : ℕ

-- a metavariable at its place
pub record Site : Type 0 where
  pub at : Place
  pub of : ℕ

abbrev pub implicit_in : Option Entry → ℕ
implicit_in None = zero
implicit_in (Some e) = e.implicit

abbrev pub arguments_in : Option Kind → ℕ
arguments_in None = zero
arguments_in (Some K) = kind_quantifiers K

module _ (es : List Entry) where
  -- what the most general type of a skeleton leaves open: the arguments of its families
  abbrev pub indices : Skeleton → ℕ
  indices (base a) = arguments_in ((signature_of es).kinds a)
  indices (arrow_skeleton t u) = indices t + indices u

  -- the implicit arguments of a constant or family
  abbrev pub name_spots : ℕ → Place → List Spot
  name_spots c at = record { at = Some at; count = implicit_in (entry es c) } ∷ []

  abbrev pub skeleton_spots : Place → Skeleton → List Spot
  skeleton_spots at t = record { at = Some at; count = indices t } ∷ []

  abbrev mutual
    -- In a term, in the order in which they are made; `expected` tells whether the type is given from outside, so that a hole leaves nothing of it open.
    pub term_spots : Bool → Written → List Spot
    term_spots expected (free i at) = []
    term_spots expected (bound i) = []
    term_spots expected (declared c at) = name_spots c at
    term_spots true (hole t at) = record { at = Some at; count = 1 } ∷ []
    term_spots false (hole t at) = record { at = Some at; count = suc (indices t) } ∷ []
    term_spots expected (function d M) = domain_spots d ++ term_spots expected M
    term_spots expected (applied M P) = term_spots false M ++ term_spots true P
    term_spots expected (ascribed M U) = type_spots U ++ term_spots true M

    pub domain_spots : WrittenDomain → List Spot
    domain_spots (of_skeleton t at) = skeleton_spots at t
    domain_spots (of_type U) = type_spots U

    pub type_spots : WrittenType → List Spot
    type_spots (type_hole t at) = skeleton_spots at t
    type_spots (arrow U V) = type_spots U ++ type_spots V
    type_spots (quantified d V) = domain_spots d ++ type_spots V
    type_spots (family a at) = name_spots a at
    type_spots (family_applied U P) = type_spots U ++ term_spots true P
    type_spots (family_ascribed U k) = kind_spots k ++ type_spots U

    pub kind_spots : WrittenKind → List Spot
    kind_spots written_star = []
    kind_spots (kind_arrow U k) = type_spots U ++ kind_spots k
    kind_spots (kind_quantified d k) = domain_spots d ++ kind_spots k

  abbrev pub body_spots : WrittenBody → List Spot
  body_spots (written_family k) = kind_spots k
  body_spots (written_constant U) = type_spots U
  body_spots (written_definition M b) = term_spots false M
  body_spots (written_definition_of M U b) = type_spots U ++ term_spots true M

abbrev mutual
  -- the free variables of what is written, each where it stands
  pub term_frees : Written → List Site
  term_frees (free i at) = record { at = at; of = i } ∷ []
  term_frees (bound i) = []
  term_frees (declared c at) = []
  term_frees (hole t at) = []
  term_frees (function d M) = domain_frees d ++ term_frees M
  term_frees (applied M P) = term_frees M ++ term_frees P
  term_frees (ascribed M U) = term_frees M ++ type_frees U

  pub domain_frees : WrittenDomain → List Site
  domain_frees (of_skeleton t at) = []
  domain_frees (of_type U) = type_frees U

  pub type_frees : WrittenType → List Site
  type_frees (type_hole t at) = []
  type_frees (arrow U V) = type_frees U ++ type_frees V
  type_frees (quantified d V) = domain_frees d ++ type_frees V
  type_frees (family a at) = []
  type_frees (family_applied U P) = type_frees U ++ term_frees P
  type_frees (family_ascribed U k) = type_frees U ++ kind_frees k

  pub kind_frees : WrittenKind → List Site
  kind_frees written_star = []
  kind_frees (kind_arrow U k) = type_frees U ++ kind_frees k
  kind_frees (kind_quantified d k) = domain_frees d ++ kind_frees k

abbrev pub body_frees : WrittenBody → List Site
body_frees (written_family k) = kind_frees k
body_frees (written_constant U) = type_frees U
body_frees (written_definition M b) = term_frees M
body_frees (written_definition_of M U b) = term_frees M ++ type_frees U

-- one place stands before another in the text
abbrev pub is_before : Place → Place → Bool
is_before p q = nat_lt p.line q.line || (nat_eq p.line q.line && nat_lt p.column q.column)

abbrev pub earlier : Place → Option Place → Place
earlier p None = p
earlier p (Some q) = if is_before q p then q else p

-- where free variable i first stands in the text, of these
abbrev pub first_place : ℕ → List Site → Option Place
first_place i [] = None
first_place i (s ∷ ss) = if nat_eq s.of i then Some (earlier s.at (first_place i ss)) else first_place i ss

-- with so many numbers from n on
abbrev pub sites_at : Option Place → ℕ → ℕ → List Site
sites_at None n k = []
sites_at (Some p) n zero = []
sites_at (Some p) n (suc k) = record { at = p; of = n } ∷ sites_at (Some p) (suc n) k

-- the metavariables that are made at these, from number n on
abbrev pub sites_from : ℕ → List Spot → List Site
sites_from n [] = []
sites_from n (s ∷ ss) = sites_at s.at n s.count ++ sites_from (n + s.count) ss

-- the free variables are made first, of these skeletons, from free variable i on
abbrev pub free_spots : List Entry → List Site → ℕ → List Skeleton → List Spot
free_spots es fs i [] = []
free_spots es fs i (t ∷ ts) = record { at = first_place i fs; count = suc (indices es t) } ∷ free_spots es fs (suc i) ts

abbrev pub spots : List Entry → List Skeleton → WrittenBody → List Spot
spots es ts w = free_spots es (body_frees w) zero ts ++ body_spots es w

-- several at one place stand in the order of their numbers
abbrev pub is_site_before : Site → Site → Bool
is_site_before s t = is_before s.at t.at || (not (is_before t.at s.at) && nat_lt s.of t.of)

-- these, in the order of the text
pub record InTextOrder (sites : List Site) (ms : List ℕ) : Type 0 where
  pub sorted : List Site
  pub all : IsPermutation sites sorted
  pub in_order : IsSortedBy is_site_before sorted
  pub are : ms ≡ map (λ s. s.of) sorted

-- The metavariables of a declaration in the order of their places.
abbrev pub AreSites : List Entry → List Skeleton → WrittenBody → List ℕ → Type 0
AreSites es ts w ms = InTextOrder (sites_from zero (spots es ts w)) ms

-- of n free variables, those that occur, where they first do
abbrev pub free_sites : List Site → ℕ → ℕ → List Site
free_sites fs i zero = []
free_sites fs i (suc n) = sites_at (first_place i fs) i 1 ++ free_sites fs (suc i) n

-- The free variables in the order of first occurrence in the text.
abbrev pub AreFreesInOrder : WrittenBody → ℕ → List ℕ → Type 0
AreFreesInOrder w n is = InTextOrder (free_sites (body_frees w) zero n) is
