-- The written syntax of the theory that a value of the program stands for.
use Rattle.lf_elaboration.specs.Principal as theory_bodies
use Rattle.lf_elaboration.specs.Written as theory
use Rattle.tw_lexer.specs.declared.place.Place.{Place}
use Rattle.tw_terms.specs.View.{skeleton_of}
use Rattle.tw_written.specs.declared.written.Written.{Written, fold-Written}
use Rattle.tw_written.specs.declared.written.Written.TheOpen.{Written-F, WrittenDomain-F, WrittenType-F, WrittenKind-F}
use Rattle.tw_written.specs.declared.written.WrittenBody.{WrittenBody}
use Rattle.tw_written.specs.declared.written.WrittenBody.TheVariants as bodies
use Rattle.tw_written.specs.declared.written.WrittenDomain.{WrittenDomain, fold-WrittenDomain}
use Rattle.tw_written.specs.declared.written.WrittenType.{WrittenType, fold-WrittenType}
use Rattle.tw_written.specs.declared.written.WrittenKind.{WrittenKind, fold-WrittenKind}

-- a place of the text
abbrev pub place_of : Place → theory.Place
place_of p = record { line = p.line; column = p.column }

-- what is written, one level, with each part already seen
abbrev pub written_step : Written-F theory.Written theory.WrittenDomain theory.WrittenKind theory.WrittenType → theory.Written
written_step (Written-F.Free i at) = theory.free i (place_of at)
written_step (Written-F.Bound i) = theory.bound i
written_step (Written-F.Declared c at) = theory.declared c.0 (place_of at)
written_step (Written-F.Written::Hole t at) = theory.hole (skeleton_of t) (place_of at)
written_step (Written-F.Function d m) = theory.function d m.value
written_step (Written-F.Written::Applied m p) = theory.applied m.value p.value
written_step (Written-F.Written::Ascribed m u) = theory.ascribed m.value u.value

abbrev pub domain_step : WrittenDomain-F theory.Written theory.WrittenDomain theory.WrittenKind theory.WrittenType → theory.WrittenDomain
domain_step (WrittenDomain-F.OfSkeleton t at) = theory.of_skeleton (skeleton_of t) (place_of at)
domain_step (WrittenDomain-F.OfType u) = theory.of_type u.value

abbrev pub type_step : WrittenType-F theory.Written theory.WrittenDomain theory.WrittenKind theory.WrittenType → theory.WrittenType
type_step (WrittenType-F.WrittenType::Hole t at) = theory.type_hole (skeleton_of t) (place_of at)
type_step (WrittenType-F.WrittenType::Arrow u v) = theory.arrow u.value v.value
type_step (WrittenType-F.WrittenType::Quantified d v) = theory.quantified d v.value
type_step (WrittenType-F.Family c at) = theory.family c.0 (place_of at)
type_step (WrittenType-F.WrittenType::Applied u p) = theory.family_applied u.value p.value
type_step (WrittenType-F.WrittenType::Ascribed u k) = theory.family_ascribed u.value k.value

abbrev pub kind_step : WrittenKind-F theory.Written theory.WrittenDomain theory.WrittenKind theory.WrittenType → theory.WrittenKind
kind_step WrittenKind-F.Star = theory.written_star
kind_step (WrittenKind-F.WrittenKind::Arrow u k) = theory.kind_arrow u.value k.value
kind_step (WrittenKind-F.WrittenKind::Quantified d k) = theory.kind_quantified d k.value

unfoldable pub written_of : Written → theory.Written
written_of = fold-Written theory.Written theory.WrittenDomain theory.WrittenKind theory.WrittenType written_step domain_step kind_step type_step

unfoldable pub written_domain_of : WrittenDomain → theory.WrittenDomain
written_domain_of = fold-WrittenDomain theory.Written theory.WrittenDomain theory.WrittenKind theory.WrittenType written_step domain_step kind_step type_step

unfoldable pub written_type_of : WrittenType → theory.WrittenType
written_type_of = fold-WrittenType theory.Written theory.WrittenDomain theory.WrittenKind theory.WrittenType written_step domain_step kind_step type_step

unfoldable pub written_kind_of : WrittenKind → theory.WrittenKind
written_kind_of = fold-WrittenKind theory.Written theory.WrittenDomain theory.WrittenKind theory.WrittenType written_step domain_step kind_step type_step

-- what a declaration is written with
abbrev pub written_body_of : WrittenBody → theory_bodies.WrittenBody
written_body_of (bodies.Family k) = theory_bodies.written_family (written_kind_of k)
written_body_of (bodies.Constant U) = theory_bodies.written_constant (written_type_of U)
written_body_of (bodies.Definition M b) = theory_bodies.written_definition (written_of M) b
written_body_of (bodies.DefinitionOf M U b) = theory_bodies.written_definition_of (written_of M) (written_type_of U) b
