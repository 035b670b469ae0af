-- Parts of what is written, the one to be looked at first in front, and what they hold.
use Rattle.std.specs.Prelude.{ℕ, ◌+◌, List, [], ◌∷◌, ◌++◌}
use Rattle.lf.specs.Entries.{Entry}
use Rattle.lf_elaboration.specs.Sites.{Site, Spot, term_frees, domain_frees, type_frees, kind_frees, term_spots, domain_spots, type_spots, kind_spots}
use Rattle.lf_elaboration.specs.Written as theory
use Rattle.tw_written.specs.View.{written_of, written_domain_of, written_type_of, written_kind_of}
use Rattle.tw_written.specs.declared.part.Part.{Part}

abbrev pub frees_in : Part → List Site
frees_in (Part.Term m b) = term_frees (written_of m.now)
frees_in (Part.Domain d) = domain_frees (written_domain_of d.now)
frees_in (Part.Type u) = type_frees (written_type_of u.now)
frees_in (Part.Kind k) = kind_frees (written_kind_of k.now)

abbrev pub frees_left : List Part → List Site
frees_left [] = []
frees_left (p ∷ ps) = frees_in p ++ frees_left ps

abbrev pub spots_in : List Entry → Part → List Spot
spots_in es (Part.Term m b) = term_spots es b (written_of m.now)
spots_in es (Part.Domain d) = domain_spots es (written_domain_of d.now)
spots_in es (Part.Type u) = type_spots es (written_type_of u.now)
spots_in es (Part.Kind k) = kind_spots es (written_kind_of k.now)

abbrev pub spots_left : List Entry → List Part → List Spot
spots_left es [] = []
spots_left es (p ∷ ps) = spots_in es p ++ spots_left es ps

-- how many parts something has, itself among them
abbrev mutual
  pub term_size : theory.Written → ℕ
  term_size (theory.free i at) = 1
  term_size (theory.bound i) = 1
  term_size (theory.declared c at) = 1
  term_size (theory.hole t at) = 1
  term_size (theory.function d M) = domain_size d + term_size M + 1
  term_size (theory.applied M P) = term_size M + term_size P + 1
  term_size (theory.ascribed M U) = term_size M + type_size U + 1

  pub domain_size : theory.WrittenDomain → ℕ
  domain_size (theory.of_skeleton t at) = 1
  domain_size (theory.of_type U) = type_size U + 1

  pub type_size : theory.WrittenType → ℕ
  type_size (theory.type_hole t at) = 1
  type_size (theory.arrow U V) = type_size U + type_size V + 1
  type_size (theory.quantified d V) = domain_size d + type_size V + 1
  type_size (theory.family a at) = 1
  type_size (theory.family_applied U P) = type_size U + term_size P + 1
  type_size (theory.family_ascribed U k) = type_size U + kind_size k + 1

  pub kind_size : theory.WrittenKind → ℕ
  kind_size theory.written_star = 1
  kind_size (theory.kind_arrow U k) = type_size U + kind_size k + 1
  kind_size (theory.kind_quantified d k) = domain_size d + kind_size k + 1

abbrev pub size : Part → ℕ
size (Part.Term m b) = term_size (written_of m.now)
size (Part.Domain d) = domain_size (written_domain_of d.now)
size (Part.Type u) = type_size (written_type_of u.now)
size (Part.Kind k) = kind_size (written_kind_of k.now)

abbrev pub work : List Part → ℕ
work [] = 0
work (p ∷ ps) = size p + work ps
