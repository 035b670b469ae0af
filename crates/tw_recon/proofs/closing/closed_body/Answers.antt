use Rattle.std.proofs.Common.{ap, ap₂, sym, ◌∙◌}
use Rattle.lf.specs.Entries.{declare_constant, declare_definition, declare_family}
use Rattle.lf_elaboration.specs.Principal.{body_over}
use Rattle.tw_signature.specs.View.{body_of}
use Rattle.tw_terms.specs.View.{kind_of, term_of, type_of}
use Rattle.tw_recon.proofs.Closed.{closed_typed}
use Rattle.tw_recon.proofs.closing.closed_body.Goals as goal

pub returns-in_ok-closed_kind-in-Family-clause-typed : goal.returns-in_ok-closed_kind-in-Family-clause-typed
returns-in_ok-closed_kind-in-Family-clause-typed c = λ Σ w t.
    closed_typed Σ c.args.quantifiers.now (body_of c.args.body) (declare_family (kind_of c.in_ok-closed_kind-in-Family.field-0))
    (ap declare_family c.in_ok-closed_kind-in-Family.ensures ∙ ap (λ b. body_over c.args.quantifiers.now (body_of b)) (sym c.in-Family.is)) w t

pub returns-in_ok-closed_type-in-Constant-clause-typed : goal.returns-in_ok-closed_type-in-Constant-clause-typed
returns-in_ok-closed_type-in-Constant-clause-typed c = λ Σ w t.
    closed_typed Σ c.args.quantifiers.now (body_of c.args.body) (declare_constant (type_of c.in_ok-closed_type-in-Constant.field-0))
    (ap declare_constant c.in_ok-closed_type-in-Constant.ensures ∙ ap (λ b. body_over c.args.quantifiers.now (body_of b)) (sym c.in-Constant.is)) w t

pub returns-in_ok-closed_type-in-Defined-clause-typed : goal.returns-in_ok-closed_type-in-Defined-clause-typed
returns-in_ok-closed_type-in-Defined-clause-typed c = λ Σ w t.
    closed_typed Σ c.args.quantifiers.now (body_of c.args.body) (declare_definition (term_of c.in_ok-closed_term-in-Defined.field-0) (type_of c.in_ok-closed_type-in-Defined.field-0) c.in-Defined.abbrev)
    (ap₂ (λ m a. declare_definition m a c.in-Defined.abbrev) c.in_ok-closed_term-in-Defined.ensures c.in_ok-closed_type-in-Defined.ensures ∙ ap (λ b. body_over c.args.quantifiers.now (body_of b)) (sym c.in-Defined.is)) w t
