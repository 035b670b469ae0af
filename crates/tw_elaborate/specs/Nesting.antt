-- How many parts of what is written nest in one another at most, as far as it is written in full: a hole and what has a type or a kind written behind it count as one part.
use Rattle.std.specs.Prelude.{ℕ, zero, suc, max}
use Rattle.lf_elaboration.specs.Written.{Written, WrittenDomain, WrittenType, applied, arrow, ascribed, bound, declared, family, family_applied, family_ascribed, free, function, hole, of_skeleton, of_type, quantified, type_hole}

-- in a binder's type that isn't written none nests
abbrev mutual
  pub term_nesting : Written → ℕ
  term_nesting (free i at) = 1
  term_nesting (bound i) = 1
  term_nesting (declared c at) = 1
  term_nesting (hole t at) = 1
  term_nesting (function d M) = suc (max (domain_nesting d) (term_nesting M))
  term_nesting (applied M P) = suc (max (term_nesting M) (term_nesting P))
  term_nesting (ascribed M U) = 1

  pub domain_nesting : WrittenDomain → ℕ
  domain_nesting (of_skeleton t at) = zero
  domain_nesting (of_type U) = type_nesting U

  pub type_nesting : WrittenType → ℕ
  type_nesting (type_hole t at) = 1
  type_nesting (arrow U V) = suc (max (type_nesting U) (type_nesting V))
  type_nesting (quantified d V) = suc (max (domain_nesting d) (type_nesting V))
  type_nesting (family a at) = 1
  type_nesting (family_applied U P) = suc (max (type_nesting U) (term_nesting P))
  type_nesting (family_ascribed U k) = 1
