use Rattle.std.proofs.Common.{rules}
use Rattle.tw_written.specs.View.{written_type_of}
use Rattle.tw_terms.specs.OpenView.{open_type_of}
use Rattle.tw_elaborate.specs.View.{made, numbers_of}
use Rattle.tw_hered.specs.declared.fault.HeredFault.TheVariants.{TooDeep}
use Rattle.tw_elaborate.proofs.Bodying.{deep_constant, deep_definition, deep_family, deep_type, deep_typed, handed_on, stands_with_type, type_has}
use Rattle.tw_elaborate.proofs.Taking.{keeps_then}
use Rattle.tw_elaborate.proofs.bodies.elaborate_body.Goals as goal

pub returns-in_err-kind-in-Family-clause-too_deep : goal.returns-in_err-kind-in-Family-clause-too_deep
returns-in_err-kind-in-Family-clause-too_deep c = λ is. deep_family c.args.signature.now (numbers_of c.args.frees.now) c.args.written.now c.args.state.now.locals (made c.args.state.now) c.requires.no_locals c.in-Family.kind c.in-Family.is (c.in_err-kind-in-Family.ensures.too_deep (handed_on c.from_residual.result c.in_err-kind-in-Family.field-0.0 TooDeep (search rules) is))

pub returns-in_err-ty-in-Constant-clause-too_deep : goal.returns-in_err-ty-in-Constant-clause-too_deep
returns-in_err-ty-in-Constant-clause-too_deep c = λ is. deep_constant c.args.signature.now (numbers_of c.args.frees.now) c.args.written.now c.args.state.now.locals (made c.args.state.now) c.requires.no_locals c.in-Constant.ty c.in-Constant.is (c.in_err-ty-in-Constant.ensures.too_deep (handed_on c.from_residual-in_err-ty-in-Constant.result c.in_err-ty-in-Constant.field-0.0 TooDeep (search rules) is))

pub returns-in_err-term-in-Definition-clause-too_deep : goal.returns-in_err-term-in-Definition-clause-too_deep
returns-in_err-term-in-Definition-clause-too_deep c = λ is. deep_definition c.args.signature.now (numbers_of c.args.frees.now) c.args.written.now c.args.state.now.locals (made c.args.state.now) c.requires.no_locals c.in-Definition.term c.in-Definition.abbrev c.in-Definition.is (c.in_err-term-in-Definition.ensures.too_deep (handed_on c.from_residual-in_err-term-in-Definition.result c.in_err-term-in-Definition.field-0.0 TooDeep (search rules) is))

pub returns-in_err-ty-in-DefinitionOf-clause-too_deep : goal.returns-in_err-ty-in-DefinitionOf-clause-too_deep
returns-in_err-ty-in-DefinitionOf-clause-too_deep c = λ is. deep_type c.args.signature.now (numbers_of c.args.frees.now) c.args.written.now c.args.state.now.locals (made c.args.state.now) c.requires.no_locals c.in-DefinitionOf.term c.in-DefinitionOf.ty c.in-DefinitionOf.abbrev c.in-DefinitionOf.is (c.in_err-ty-in-DefinitionOf.ensures.too_deep (handed_on c.from_residual-in_err-ty-in-DefinitionOf.result c.in_err-ty-in-DefinitionOf.field-0.0 TooDeep (search rules) is))

pub check-requires-clause-stands : goal.check-requires-clause-stands
check-requires-clause-stands c = stands_with_type c.args.signature.now c.requires.canonical (numbers_of c.args.frees.now) (written_type_of c.in-DefinitionOf.ty) (open_type_of c.in_ok-ty-in-DefinitionOf.ty) (made c.args.state.now) (made c.elaborate_type-in-DefinitionOf.new.state) c.args.state.now.locals c.elaborate_type-in-DefinitionOf.new.state.locals c.in_ok-ty-in-DefinitionOf.ensures.keeps.locals c.in_ok-ty-in-DefinitionOf.ensures.ok c.requires.stands

pub check-requires-clause-expected : goal.check-requires-clause-expected
check-requires-clause-expected c = type_has c.args.signature.now c.requires.canonical (numbers_of c.args.frees.now) (written_type_of c.in-DefinitionOf.ty) (open_type_of c.in_ok-ty-in-DefinitionOf.ty) (made c.args.state.now) (made c.elaborate_type-in-DefinitionOf.new.state) c.args.state.now.locals c.elaborate_type-in-DefinitionOf.new.state.locals c.in_ok-ty-in-DefinitionOf.ensures.keeps.locals c.in_ok-ty-in-DefinitionOf.ensures.ok c.requires.stands

pub returns-in_err-term-in-DefinitionOf-clause-too_deep : goal.returns-in_err-term-in-DefinitionOf-clause-too_deep
returns-in_err-term-in-DefinitionOf-clause-too_deep c = λ is. deep_typed c.args.signature.now (numbers_of c.args.frees.now) c.args.written.now c.args.state.now.locals (made c.args.state.now) c.requires.no_locals c.in-DefinitionOf.term c.in-DefinitionOf.ty c.in-DefinitionOf.abbrev c.elaborate_type-in-DefinitionOf.new.state.locals (open_type_of c.in_ok-ty-in-DefinitionOf.ty) (made c.elaborate_type-in-DefinitionOf.new.state) c.in-DefinitionOf.is c.in_ok-ty-in-DefinitionOf.ensures.keeps.locals c.in_ok-ty-in-DefinitionOf.ensures.ok (c.in_err-term-in-DefinitionOf.ensures.too_deep (handed_on c.from_residual-in_err-term-in-DefinitionOf.result c.in_err-term-in-DefinitionOf.field-0.0 TooDeep (search rules) is))

pub returns-in_err-term-in-DefinitionOf-clause-keeps : goal.returns-in_err-term-in-DefinitionOf-clause-keeps
returns-in_err-term-in-DefinitionOf-clause-keeps c = keeps_then c.args.state.now c.elaborate_type-in-DefinitionOf.new.state c.check.new.state c.in_ok-ty-in-DefinitionOf.ensures.keeps c.in_err-term-in-DefinitionOf.ensures.keeps

pub returns-in_ok-term-in-DefinitionOf-clause-keeps : goal.returns-in_ok-term-in-DefinitionOf-clause-keeps
returns-in_ok-term-in-DefinitionOf-clause-keeps c = keeps_then c.args.state.now c.elaborate_type-in-DefinitionOf.new.state c.check.new.state c.in_ok-ty-in-DefinitionOf.ensures.keeps c.in_ok-term-in-DefinitionOf.ensures.keeps
