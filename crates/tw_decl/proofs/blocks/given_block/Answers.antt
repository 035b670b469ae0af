use Rattle.std.proofs.Common.{None, Some, inr, refl, subst}
use Rattle.tw_parse.specs.View.{declaration_of}
use Rattle.tw_signature.specs.View.{entry_of}
use Rattle.tw_decl.specs.Steps.{BlockOutcome}
use Rattle.tw_decl.proofs.Unset.{is_without_free, not_added}
use Rattle.tw_decl.proofs.blocks.given_block.Goals as goal

pub returns-in-Err-given-clause-cause : goal.returns-in-Err-given-clause-cause
returns-in-Err-given-clause-cause c =
    let v = c.args.session.now in
    let d = declaration_of c.args.declaration.now in
    not_added v d c.args.first c.in-Err-given.refusal (is_without_free v d _ c.signature.ensures c.in-Ok-false.field-0 c.in-Ok-false.field-0-test c.in-Ok-false.ensures) c.in-Err-given.ensures.cause

pub returns-in-Ok-Some-clause-gives : goal.returns-in-Ok-Some-clause-gives
returns-in-Ok-Some-clause-gives c =
    let e = entry_of c.in-Ok.entry in
    let h : BlockOutcome c.args.label.now.name c.args.count e (Some c.in-Ok-Some.block) = subst (BlockOutcome c.args.label.now.name c.args.count e) c.in-Ok-Some.field-0-is c.in-Ok-Some.ensures in
    record { nothing_free = is_without_free c.args.session.now (declaration_of c.args.declaration.now) _ c.signature.ensures c.in-Ok-false.field-0 c.in-Ok-false.field-0-test c.in-Ok-false.ensures; entry = e; reconstructs = c.in-Ok.ensures.reconstructs; stands = c.in-Ok.ensures.stands; kind = h.0; form = h.1; gives = h.2 }

pub returns-in-Ok-None-clause-cause : goal.returns-in-Ok-None-clause-cause
returns-in-Ok-None-clause-cause c =
    let e = entry_of c.in-Ok.entry in
    let h : BlockOutcome c.args.label.now.name c.args.count e None = subst (BlockOutcome c.args.label.now.name c.args.count e) c.in-Ok-None.field-0-is c.in-Ok-None.ensures in
    (inr (record { nothing_free = is_without_free c.args.session.now (declaration_of c.args.declaration.now) _ c.signature.ensures c.in-Ok-false.field-0 c.in-Ok-false.field-0-test c.in-Ok-false.ensures; entry = e; reconstructs = c.in-Ok.ensures.reconstructs; none = h }), refl)
