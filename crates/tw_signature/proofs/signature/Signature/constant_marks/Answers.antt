use Rattle.std.proofs.Common.{◌∙◌, Some, option_map, ap, map, sym}
use Rattle.lf.specs.Entries.{entry, type_of as type_at}
use Rattle.lf_checks.specs.Parts.{shape}
use Rattle.tw_terms.specs.View.{type_of}
use Rattle.tw_signature.proofs.KeptMarks.{marks_lent, marks_there}
use Rattle.tw_signature.proofs.signature.Signature.constant_marks.Goals as goal

pub unreachable-requires : goal.unreachable-requires
unreachable-requires c =
    marks_there c.self.inside.entries.items c.deref.result.now c.args.id.0 (type_of c.in_ok-constant_type.field-0.now) c.get.result
    (ap (map (λ m. m.items)) c.deref.ensures.value ∙ c.self.invariant.3)
    (ap (λ es. type_at (entry es c.args.id.0)) c.self.view_is ∙ sym c.in_ok-constant_type.ensures) c.get.ensures.lookup c.in-None.is

pub returns : goal.returns
returns c =
    let found = marks_lent c.self.inside.entries.items c.deref.result.now c.args.id.0 (type_of c.in_ok-constant_type.field-0.now) c.get.result
    (ap (map (λ m. m.items)) c.deref.ensures.value ∙ c.self.invariant.3)
    (ap (λ es. type_at (entry es c.args.id.0)) c.self.view_is ∙ sym c.in_ok-constant_type.ensures) c.get.ensures.lookup in
    ap Some c.as_slice.ensures.value ∙ sym (ap (option_map (λ m. m.now.items)) c.in-Some.is) ∙ found ∙ ap (option_map shape) c.in_ok-constant_type.ensures
