-- What a value of the program stands for, level by level.
use Rattle.std.proofs.Common.{◌≡◌, ℕ, Box, Global, rules}
use Rattle.lf_elaboration.specs.Written as plain
use Rattle.tw_lexer.specs.declared.place.Place.{Place}
use Rattle.tw_terms.specs.View.{skeleton_of}
use Rattle.tw_terms.specs.declared.canonical.ConstId.{ConstId}
use Rattle.tw_terms.specs.declared.canonical.Skeleton.{Skeleton}
use Rattle.tw_written.specs.View.{place_of, written_of, written_domain_of, written_type_of, written_kind_of}
use Rattle.tw_written.specs.declared.written.Written.{Written, Free, Bound, Declared, Hole, Function, Applied, Ascribed, the_lemmas}
use Rattle.tw_written.specs.declared.written.WrittenDomain.{WrittenDomain, OfSkeleton, OfType, the_lemmas as domain_lemmas}
use Rattle.tw_written.specs.declared.written.WrittenType.{WrittenType, Hole as WrittenType-Hole, Arrow as WrittenType-Arrow, Quantified as WrittenType-Quantified, Family, Applied as WrittenType-Applied, Ascribed as WrittenType-Ascribed, the_lemmas as type_lemmas}
use Rattle.tw_written.specs.declared.written.WrittenKind.{WrittenKind, Star, Arrow as WrittenKind-Arrow, Quantified as WrittenKind-Quantified, the_lemmas as kind_lemmas}

pub written_of-Free : (i : ℕ) (at : Place) → written_of (Free i at) ≡ plain.free i (place_of at)
unfolding written_of written_domain_of written_type_of written_kind_of
written_of-Free i at = search (rules, the_lemmas, domain_lemmas, type_lemmas, kind_lemmas)

pub written_of-Bound : (i : ℕ) → written_of (Bound i) ≡ plain.bound i
unfolding written_of written_domain_of written_type_of written_kind_of
written_of-Bound i = search (rules, the_lemmas, domain_lemmas, type_lemmas, kind_lemmas)

pub written_of-Declared : (c : ConstId) (at : Place) → written_of (Declared c at) ≡ plain.declared c.0 (place_of at)
unfolding written_of written_domain_of written_type_of written_kind_of
written_of-Declared c at = search (rules, the_lemmas, domain_lemmas, type_lemmas, kind_lemmas)

pub written_of-Hole : (s : Skeleton) (at : Place) → written_of (Hole s at) ≡ plain.hole (skeleton_of s) (place_of at)
unfolding written_of written_domain_of written_type_of written_kind_of
written_of-Hole s at = search (rules, the_lemmas, domain_lemmas, type_lemmas, kind_lemmas)

pub written_of-Function : (d : WrittenDomain) (M : Box Written Global) → written_of (Function d M) ≡ plain.function (written_domain_of d) (written_of M.value)
unfolding written_of written_domain_of written_type_of written_kind_of
written_of-Function d M = search (rules, the_lemmas, domain_lemmas, type_lemmas, kind_lemmas)

pub written_of-Applied : (M P : Box Written Global) → written_of (Applied M P) ≡ plain.applied (written_of M.value) (written_of P.value)
unfolding written_of written_domain_of written_type_of written_kind_of
written_of-Applied M P = search (rules, the_lemmas, domain_lemmas, type_lemmas, kind_lemmas)

pub written_of-Ascribed : (M : Box Written Global) (U : Box WrittenType Global) → written_of (Ascribed M U) ≡ plain.ascribed (written_of M.value) (written_type_of U.value)
unfolding written_of written_domain_of written_type_of written_kind_of
written_of-Ascribed M U = search (rules, the_lemmas, domain_lemmas, type_lemmas, kind_lemmas)

pub written_domain_of-OfSkeleton : (s : Skeleton) (at : Place) → written_domain_of (OfSkeleton s at) ≡ plain.of_skeleton (skeleton_of s) (place_of at)
unfolding written_of written_domain_of written_type_of written_kind_of
written_domain_of-OfSkeleton s at = search (rules, the_lemmas, domain_lemmas, type_lemmas, kind_lemmas)

pub written_domain_of-OfType : (U : Box WrittenType Global) → written_domain_of (OfType U) ≡ plain.of_type (written_type_of U.value)
unfolding written_of written_domain_of written_type_of written_kind_of
written_domain_of-OfType U = search (rules, the_lemmas, domain_lemmas, type_lemmas, kind_lemmas)

pub written_type_of-Hole : (s : Skeleton) (at : Place) → written_type_of (WrittenType-Hole s at) ≡ plain.type_hole (skeleton_of s) (place_of at)
unfolding written_of written_domain_of written_type_of written_kind_of
written_type_of-Hole s at = search (rules, the_lemmas, domain_lemmas, type_lemmas, kind_lemmas)

pub written_type_of-Arrow : (U V : Box WrittenType Global) → written_type_of (WrittenType-Arrow U V) ≡ plain.arrow (written_type_of U.value) (written_type_of V.value)
unfolding written_of written_domain_of written_type_of written_kind_of
written_type_of-Arrow U V = search (rules, the_lemmas, domain_lemmas, type_lemmas, kind_lemmas)

pub written_type_of-Quantified : (d : WrittenDomain) (V : Box WrittenType Global) → written_type_of (WrittenType-Quantified d V) ≡ plain.quantified (written_domain_of d) (written_type_of V.value)
unfolding written_of written_domain_of written_type_of written_kind_of
written_type_of-Quantified d V = search (rules, the_lemmas, domain_lemmas, type_lemmas, kind_lemmas)

pub written_type_of-Family : (c : ConstId) (at : Place) → written_type_of (Family c at) ≡ plain.family c.0 (place_of at)
unfolding written_of written_domain_of written_type_of written_kind_of
written_type_of-Family c at = search (rules, the_lemmas, domain_lemmas, type_lemmas, kind_lemmas)

pub written_type_of-Applied : (U : Box WrittenType Global) (P : Box Written Global) → written_type_of (WrittenType-Applied U P) ≡ plain.family_applied (written_type_of U.value) (written_of P.value)
unfolding written_of written_domain_of written_type_of written_kind_of
written_type_of-Applied U P = search (rules, the_lemmas, domain_lemmas, type_lemmas, kind_lemmas)

pub written_type_of-Ascribed : (U : Box WrittenType Global) (k : Box WrittenKind Global) → written_type_of (WrittenType-Ascribed U k) ≡ plain.family_ascribed (written_type_of U.value) (written_kind_of k.value)
unfolding written_of written_domain_of written_type_of written_kind_of
written_type_of-Ascribed U k = search (rules, the_lemmas, domain_lemmas, type_lemmas, kind_lemmas)

pub written_kind_of-Star : written_kind_of Star ≡ plain.written_star
unfolding written_of written_domain_of written_type_of written_kind_of
written_kind_of-Star = search (rules, the_lemmas, domain_lemmas, type_lemmas, kind_lemmas)

pub written_kind_of-Arrow : (U : Box WrittenType Global) (k : Box WrittenKind Global) → written_kind_of (WrittenKind-Arrow U k) ≡ plain.kind_arrow (written_type_of U.value) (written_kind_of k.value)
unfolding written_of written_domain_of written_type_of written_kind_of
written_kind_of-Arrow U k = search (rules, the_lemmas, domain_lemmas, type_lemmas, kind_lemmas)

pub written_kind_of-Quantified : (d : WrittenDomain) (k : Box WrittenKind Global) → written_kind_of (WrittenKind-Quantified d k) ≡ plain.kind_quantified (written_domain_of d) (written_kind_of k.value)
unfolding written_of written_domain_of written_type_of written_kind_of
written_kind_of-Quantified d k = search (rules, the_lemmas, domain_lemmas, type_lemmas, kind_lemmas)

pub ruleset written_views = (written_of-Free, written_of-Bound, written_of-Declared, written_of-Hole, written_of-Function, written_of-Applied, written_of-Ascribed, written_domain_of-OfSkeleton, written_domain_of-OfType, written_type_of-Hole, written_type_of-Arrow, written_type_of-Quantified, written_type_of-Family, written_type_of-Applied, written_type_of-Ascribed, written_kind_of-Star, written_kind_of-Arrow, written_kind_of-Quantified, the_lemmas, domain_lemmas, type_lemmas, kind_lemmas)
