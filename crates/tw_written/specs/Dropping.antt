-- How much is left to drop of what is written.
use Rattle.std.specs.Prelude.{ℕ, ◌+◌, ◌*◌, Option, None, Some, Box}
use Rattle.std.specs.Global.{Global}
use Rattle.lf_elaboration.specs.Written as theory
use Rattle.tw_written.specs.View.{written_of, written_type_of, written_kind_of}
use Rattle.tw_written.specs.declared.dropping.Piece.{Piece}
use Rattle.tw_written.specs.declared.dropping.Piece.TheVariants as piece
use Rattle.tw_written.specs.declared.dropping.Left.{Left}
use Rattle.tw_written.specs.declared.written.Written.{Written}
use Rattle.tw_written.specs.declared.written.WrittenType.{WrittenType}
use Rattle.tw_written.specs.declared.written.WrittenKind.{WrittenKind}

-- What doesn't wait counts twice, since what it stands in is put behind it.
abbrev mutual
  pub term_weight : theory.Written → ℕ
  term_weight (theory.free i at) = 1
  term_weight (theory.bound i) = 1
  term_weight (theory.declared c at) = 1
  term_weight (theory.hole t at) = 1
  term_weight (theory.function d M) = term_weight M + 2 * domain_weight d + 1
  term_weight (theory.applied M P) = term_weight M + 2 * term_weight P + 1
  term_weight (theory.ascribed M U) = term_weight M + 2 * type_weight U + 1

  pub domain_weight : theory.WrittenDomain → ℕ
  domain_weight (theory.of_skeleton t at) = 0
  domain_weight (theory.of_type U) = type_weight U

  pub type_weight : theory.WrittenType → ℕ
  type_weight (theory.type_hole t at) = 1
  type_weight (theory.arrow U V) = type_weight V + 2 * type_weight U + 1
  type_weight (theory.quantified d V) = type_weight V + 2 * domain_weight d + 1
  type_weight (theory.family a at) = 1
  type_weight (theory.family_applied U P) = type_weight U + 2 * term_weight P + 1
  type_weight (theory.family_ascribed U k) = type_weight U + 2 * kind_weight k + 1

  pub kind_weight : theory.WrittenKind → ℕ
  kind_weight theory.written_star = 1
  kind_weight (theory.kind_arrow U k) = kind_weight k + 2 * type_weight U + 1
  kind_weight (theory.kind_quantified d k) = kind_weight k + 2 * domain_weight d + 1

abbrev pub piece_weight : Piece → ℕ
piece_weight piece.Nothing = 0
piece_weight (piece.Term M) = term_weight (written_of M)
piece_weight (piece.Type U) = type_weight (written_type_of U)
piece_weight (piece.Kind k) = kind_weight (written_kind_of k)

abbrev pub term_waits : Option (Box Written Global) → ℕ
term_waits None = 0
term_waits (Some M) = term_weight (written_of M.value)

abbrev pub type_waits : Option (Box WrittenType Global) → ℕ
type_waits None = 0
type_waits (Some U) = type_weight (written_type_of U.value)

abbrev pub kind_waits : Option (Box WrittenKind Global) → ℕ
kind_waits None = 0
kind_waits (Some k) = kind_weight (written_kind_of k.value)

abbrev pub weight_left : Left → ℕ
weight_left l = 2 * piece_weight l.piece + term_waits l.term + type_waits l.family + kind_waits l.kind
